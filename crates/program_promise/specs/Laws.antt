-- What a promise means, whatever the program.
use Rattle.std.specs.Prelude.{◌≡◌, ◌≢◌, ℕ, ◌-◌, ◌^◌, ◌<◌, IsTrue, List}
use Rattle.option_words.specs.declared.fault.UsageFault.{UsageFault}
use Rattle.option_words.specs.Grammar.{AskFor, AreRefusedBy}
use Rattle.rescue_console.specs.ConsoleState.{TextGoesOn}
use Rattle.program_promise.specs.Work.{Deeds, Works}
use Rattle.program_promise.specs.Verdicts.{RefuseOnce}
use Rattle.program_promise.specs.Kinds.{Starved, IsNoFaultKind}
use Rattle.program_promise.specs.Program.{Program, kind_of, message_by}
use Rattle.program_promise.specs.World.{Told}
use Rattle.program_promise.specs.Promise.{Promise}
use Rattle.program_promise.specs.WellMade.{IsVerdict}

-- no open, read, call, take or put on standard output failed; and the counts say so
pub record NothingFailed {E : Type 0} (t : Told E) : Type 0 where
  pub opens : t.after.source.faults ≡ t.before.source.faults
  pub reads : t.after.source.losses ≡ t.before.source.losses
  pub calls : t.after.site.faults ≡ t.before.site.faults
  pub takes : t.after.feed_.faults ≡ t.before.feed_.faults
  pub puts : t.after.console.out.faults ≡ t.before.console.out.faults
  pub opens_count : t.before.source.faults < 2 ^ 64 - 1
  pub reads_count : t.before.source.losses < 2 ^ 64 - 1
  pub calls_count : t.before.site.faults < 2 ^ 64 - 1
  pub takes_count : t.before.feed_.faults < 2 ^ 64 - 1
  pub puts_count : t.before.console.out.faults < 2 ^ 64 - 1

module _ {C E O : Type 0} (p : Program C E O) where
  -- If the words ask for something and nothing failed, the answer is for no fault.
  abbrev pub IsNoFaultUnless : Type 0
  IsNoFaultUnless = (t : Told E) (c : C) → Promise p t → AskFor p.grammar t.words c → NothingFailed t
      → IsNoFaultKind (kind_of p t.answer)

  -- If the words ask for something, nothing failed and memory didn't run out, what is there leads to the answer.
  abbrev pub IsBroughtUnless : Type 0
  IsBroughtUnless = (t : Told E) (c : C) → Promise p t → AskFor p.grammar t.words c → NothingFailed t
      → kind_of p t.answer ≢ Starved → IsVerdict p t.answer

  -- Words that are refused touch nothing: a message is all that they lead to.
  abbrev pub RefusedTouchNothing : Type 0
  RefusedTouchNothing = (t : Told E) (fault : UsageFault) (d : Promise p t) → AreRefusedBy p.grammar t.words fault
      → d.between ≡ t.before

  -- What is put on standard error is a beginning of one message: all of it, nothing, or if a put failed a part.
  abbrev pub SaysOneMessage : Type 0
  SaysOneMessage = (t : Told E) (d : Promise p t) → IsTrue d.between.console.tells
      → TextGoesOn (message_by p t.answer) d.between.console.err.text t.after.console.err.text

  -- On one outside there is one verdict at most, if each refusal has one answer and so has what is run.
  abbrev pub HasOneVerdict : Type 0
  HasOneVerdict = (c : C) (line : List ℕ) (o : O) (e e' : E) (d d' : Deeds) → RefuseOnce (p.rows c o)
      → ((v v' : E) (x x' : Deeds) → p.Run c line o v x → p.Run c line o v' x'
      → IsVerdict p v → IsVerdict p v' → v ≡ v')
      → Works p.faults (p.rows c o) (p.Run c line o) e d
      → Works p.faults (p.rows c o) (p.Run c line o) e' d'
      → IsVerdict p e → IsVerdict p e' → e ≡ e'

  -- All that the promise of a program means, law by law.
  pub record KeepsPromises : Type 0 where
    pub no_fault : IsNoFaultUnless
    pub brought : IsBroughtUnless
    pub untouched : RefusedTouchNothing
    pub says : SaysOneMessage
    pub verdict : HasOneVerdict
