-- `ddrescue` is well made, and so is what it says before the message of its answer.
use Rattle.std.proofs.Common.{◌≡◌, ◌⊎◌, ℕ, Bool, true, false, not, List, [], Some, refl, sym, ◌∙◌, inl, inr, subst, arith}
use Rattle.faulty_source.proofs.Keeping.{keeps_self}
use Rattle.option_words.specs.declared.fault.UsageFault.{UsageFault}
use Rattle.rescue_console.specs.ConsoleState.{ConsoleState}
use Rattle.rescue_console.specs.Speaking.{SpeaksOn, out_pieces}
use Rattle.program_promise.specs.Work.{Works}
use Rattle.program_promise.specs.Parts.{only_calls}
use Rattle.ddrescue_words.specs.Command.{Command, Task, Sample}
use Rattle.ddrescue_words.specs.Asking.{IsAsked, IsRefusal, is_quiet, rescue_grammar}
use Rattle.program_promise.specs.World.{WorldState, with_console}
use Rattle.program_promise.specs.Program.{line_by}
use Rattle.program_promise.specs.Promise.{Worked}
use Rattle.program_promise.specs.WellMade.{IsWellMade}
use Rattle.program_promise.specs.Causes.{Changed, changes_of}
use Rattle.program_promise.proofs.GrammarLemmas.{wrong_by}
use Rattle.program_promise.proofs.PromiseLemmas.{still}
use Rattle.program_promise.proofs.SpokenLemmas.{asked_says, none_says, refused_says, starved_says}
use Rattle.task_files.specs.declared.ending.Ending.{Ending}
use Rattle.task_files.specs.declared.ending.Ending.TheVariants.{Usage, NoMemory}
use Rattle.task_files.specs.Answers.{drafting_left, files_of_task, row_of}
use Rattle.task_files.specs.Refusals.{NamesRefused}
use Rattle.task_files.specs.Work.{rescue_faults}
use Rattle.task_rescue.specs.Sampled.{Samples, TellsSample, sample_rows}
use Rattle.ddrescue_cli.specs.Tasks.{TaskOutside}
use Rattle.ddrescue_cli.specs.Ddrescue.{KeepsAs, TaskSaid, rescue_program}
use Rattle.ddrescue_cli.proofs.RefusalLemmas.{work_fits}
use Rattle.ddrescue_cli.proofs.StillLemmas.{over_refuses, starves_task, still_done, still_outside}
use Rattle.ddrescue_cli.proofs.WordFaults.{words_give}

idle_keeps : (e : Ending) → drafting_left e ≡ false → (w : WorldState) → w.site.is_drafting ≡ false → KeepsAs e w w
idle_keeps e whole w none = record {
  draft = none ∙ sym whole;
  source = keeps_self w.source;
  site = record { tells = refl; start = λ tells. refl; scheduled = refl; later = omega arith };
  clock = record { scheduled = refl; schedule = refl };
}

pub rescue_made : IsWellMade rescue_program (λ w. w.site.is_drafting ≡ false) (λ fault. Usage fault)
rescue_made = record {
  memory = refl;
  memory_idle = record { also = tt; keeps = idle_keeps NoMemory refl };
  wrong = wrong_by rescue_grammar words_give;
  wrong_idle = λ fault. record { also = tt; keeps = idle_keeps (Usage fault) refl };
  faults = record { memory = λ v. v; input = λ v. v; call = λ call v. v };
  starves = λ task line w begins. still_done task line NoMemory w (starves_task task);
  work = λ task line e old new done. work_fits task line done.outside e done.did done.work;
}

-- ---- what is said before the message

-- for a task that the words ask for
pub task_said : (words : List (List ℕ)) (task : Task) (e : Ending) (heard : Bool) (old new : WorldState) → IsAsked words task
    → (worked : Worked rescue_program task words e old (with_console new old.console))
    → SpeaksOn (out_pieces worked.done.outside.lines) (not (is_quiet task)) heard old.console new.console
    → TaskSaid words e heard old new
task_said words task e heard old new a worked speaks =
    asked_says rescue_program (λ (o : TaskOutside). o.lines) rescue_made words task e (is_quiet task) heard old new
    a.only.asks a.only.alone a.only.quiet_is worked speaks

-- where memory ran out before the words were read
pub starved_said : (words : List (List ℕ)) (w : WorldState) → w.site.is_drafting ≡ false → TaskSaid words NoMemory true w w
unfolding rescue_made
starved_said words w none =
    starved_says rescue_program (λ (o : TaskOutside). o.lines) rescue_made words w none (λ task. refl)

-- where they are refused
pub refused_said : (words : List (List ℕ)) (fault : UsageFault) (quiet : Bool) (w : WorldState)
    → w.site.is_drafting ≡ false → IsRefusal words fault quiet → TaskSaid words (Usage fault) (not quiet) w w
refused_said words fault quiet w none refusal =
    refused_says rescue_program (λ (o : TaskOutside). o.lines) rescue_made words fault quiet w none refusal

-- an answer of a task that did nothing
record IsStill (e : Ending) (w : WorldState) : Type 0 where
  cause : Changed (changes_of (row_of e).kind) w w
  also : (row_of e).also
  whole : drafting_left e ≡ false

starved_still : (e : Ending) (w : WorldState) → e ≡ NoMemory → IsStill e w
starved_still e w is =
    subst (λ (v : Ending). IsStill v w) (sym is) (record { cause = still w; also = tt; whole = refl })

named_still : (c : Command) (e : Ending) (w : WorldState) → NamesRefused c e ⊎ (e ≡ NoMemory) → IsStill e w
named_still c e w (inl (first, second, same, is)) =
    subst (λ (v : Ending). IsStill v w) (sym is) (record { cause = still w; also = tt; whole = refl })
named_still c e w (inr is) = starved_still e w is

-- where two files have one name, or memory ran out after the words
pub unchecked_said : (words : List (List ℕ)) (task : Task) (c : Command) (e : Ending) (quiet : Bool) (w : WorldState)
    → IsAsked words task → files_of_task task ≡ Some c → is_quiet task ≡ quiet → NamesRefused c e ⊎ (e ≡ NoMemory)
    → w.site.is_drafting ≡ false → TaskSaid words e (not quiet) w w
unchecked_said words task c e quiet w a over same refused none =
    let idle : IsStill e w = named_still c e w refused in
    subst (λ (q : Bool). TaskSaid words e (not q) w w) same
    (task_said words task e (not (is_quiet task)) w w a (record {
      done = still_done task (line_by rescue_program words) e w (over_refuses task c e over refused);
      cause = idle.cause;
      also = idle.also;
      keeps = idle_keeps e idle.whole w none;
    }) (none_says (not (is_quiet task)) w.console))

-- and of a sample
sample_still : (kib : ℕ) (lines : List (List ℕ)) (e : Ending) (w : WorldState)
    → Works rescue_faults sample_rows (Samples kib lines) e (only_calls []) → IsStill e w
sample_still kib lines e w (inl starved) = starved_still e w starved.0
sample_still kib lines e w (inr done) =
    subst (λ (v : Ending). IsStill v w) (sym done.0) (record { cause = still w; also = tt; whole = refl })

pub sample_said : (words : List (List ℕ)) (kib : ℕ) (quiet : Bool) (e : Ending) (heard : Bool) (w : WorldState)
    (now : ConsoleState) → IsAsked words (Sample kib quiet) → TellsSample kib (not quiet) heard e w.console now
    → w.site.is_drafting ≡ false → TaskSaid words e heard w (with_console w now)
sample_said words kib quiet e heard w now a told none =
    let idle : IsStill e w = sample_still kib told.lines e w told.works in
    task_said words (Sample kib quiet) e heard w (with_console w now) a (record {
      done = record {
        outside = record (still_outside (Sample kib quiet) w) { lines = told.lines };
        did = only_calls [];
        agrees = (refl, refl);
        work = told.works;
        leaves = record { silent = told.silent; stops = λ tells. tt };
      };
      cause = idle.cause;
      also = idle.also;
      keeps = idle_keeps e idle.whole w none;
    }) told.says
