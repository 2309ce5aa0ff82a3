-- The program is well made: its rows agree with its grammar and with its work.
use Rattle.std.proofs.Common.{◌≡◌, ◌≢◌, ℕ, Bool, true, false, List, [], ◌∷◌, Option, Some, None, Result, Ok, Err, refl, sym, ap, ◌∙◌, inl, inr, subst}
use Rattle.faulty_source.proofs.Keeping.{keeps_self}
use Rattle.option_words.specs.declared.fault.UsageFault.{UsageFault}
use Rattle.option_words.specs.Grammar.{unless_empty}
use Rattle.option_words.specs.Values.{empty_operand}
use Rattle.mapfile_save.proofs.FillLemmas.{keeps_self as site_keeps}
use Rattle.program_promise.specs.Work.{Deeds, Works}
use Rattle.program_promise.proofs.AnswerLemmas.{Stops, Broken, Refused, Starved, Stopped, Unopened as NotOpened, Went, came}
use Rattle.rescue_verify.specs.declared.halt.Halt.{Halt}
use Rattle.rescue_verify.specs.declared.halt.Halt.TheVariants.{NoMemory as NoRoom, SourceLost as InputLost, ImageFault}
use Rattle.rescue_verify.specs.Comparing.{tally_of}
use Rattle.rescue_verify.specs.Looks.{Look}
use Rattle.ddrescueverify_words.specs.declared.options.VerifyOptions.{VerifyOptions}
use Rattle.ddrescueverify_words.specs.Options.{options_in}
use Rattle.ddrescueverify_words.specs.Command.{Command, IsAsked, command_by, command_with, verify_grammar}
use Rattle.program_promise.specs.World.{WorldState}
use Rattle.program_promise.specs.Kinds.{IsWorkKind}
use Rattle.program_promise.specs.WellMade.{IsWellMade}
use Rattle.program_promise.specs.Promise.{IsDone}
use Rattle.program_promise.proofs.GrammarLemmas.{Gives, wrong_by}
use Rattle.program_promise.proofs.PromiseLemmas.{asked}
use Rattle.program_promise.specs.declared.operand.Operand.{Operand}
use Rattle.ddrescueverify_cli.specs.declared.ending.VerifyEnding.{VerifyEnding}
use Rattle.ddrescueverify_cli.specs.declared.ending.VerifyEnding.TheVariants.{Usage, SameName, NoMemory}
use Rattle.ddrescueverify_cli.specs.Answers.{drafting_left, row_of}
use Rattle.ddrescueverify_cli.specs.Ddrescueverify.{KeepsAs, VerifyWorked, verify_program}
use Rattle.ddrescueverify_cli.specs.Laws.{VerifyWorks}
use Rattle.ddrescueverify_cli.specs.Outside.{Found, Outside}
use Rattle.ddrescueverify_cli.specs.Refusals.{FitsNames, NameOneFileTwice, same_of}
use Rattle.ddrescueverify_cli.specs.Work.{EndsSaved, Halts, Completes, Verifies, answer_of_halt, opened_rows, verify_faults}
use Rattle.ddrescueverify_cli.proofs.AnswerLemmas.{of_tally}
use Rattle.ddrescueverify_cli.proofs.WorkedLemmas.{starved_done}

-- ---- the faults that words may have

operands_give : (words : List (List ℕ)) (o : VerifyOptions) (operands : List ℕ)
    → Gives (command_with words o operands)
operands_give words o (i ∷ out ∷ name ∷ []) = tt
operands_give words o _ = tt

filled_gives : (e : Option ℕ) (r : Result Command UsageFault) → Gives r
    → Gives (unless_empty e r)
filled_gives None (Err f) gives = gives
filled_gives (Some n) (Err f) gives = gives
filled_gives None (Ok c) gives = tt
filled_gives (Some n) (Ok c) gives = tt

words_give : (words : List (List ℕ)) (r : Result VerifyOptions ℕ) (operands : List ℕ)
    → Gives (command_by words r operands)
words_give words (Err n) operands = tt
words_give words (Ok o) operands =
    filled_gives (empty_operand words operands) (command_with words o operands) (operands_give words o operands)

-- ---- the answers of work

abbrev is_same_name : VerifyEnding → Bool
is_same_name (SameName first second) = true
is_same_name e = false

-- work answers so, once the names were looked at
abbrev IsOfWork : VerifyEnding → Type 0
IsOfWork e = IsWorkKind (row_of e).kind × (is_same_name e ≡ false)

unnamed : (e : VerifyEnding) → is_same_name e ≡ false → (first second : Operand) → e ≢ SameName first second
unnamed e isnt first second is =
    let no : true ≡ false = sym (ap is_same_name is) ∙ isnt in cc

halt_works : (halt : Halt) → IsOfWork (answer_of_halt halt)
halt_works NoRoom = (tt, refl)
halt_works InputLost = (tt, refl)
halt_works ImageFault = (tt, refl)

module _ (c : Command) (line : List ℕ) (found : Found) (end : ℕ) (looks : List Look) where
  saved_works : (e : VerifyEnding) (d : Deeds) → EndsSaved c.options.quiet (tally_of looks) e d → IsOfWork e
  saved_works e d (inl is, idle) =
      subst IsOfWork (sym is) (of_tally (tally_of looks) IsOfWork (tt, refl) (λ k. (tt, refl)))
  saved_works e d (inr failed, idle) = subst IsOfWork (sym failed.1) (tt, refl)

  run_works : (e : VerifyEnding) (d : Deeds) → Verifies c line found end looks e d → IsOfWork e
  run_works e d v =
      elim v.compares.ends [
        | Halts halt answer opens times halts ↦ subst IsOfWork (sym answer) (halt_works halt)
        | Completes none works ↦ elim works [
          | inl (call, is, broke, only) ↦ subst IsOfWork (sym is) (tt, refl)
          | inr (rest, is, saved) ↦ saved_works e _ saved
        ]
      ]

  stop_works : (e : VerifyEnding) → Stops verify_faults (opened_rows c found end) e → IsOfWork e
  stop_works e (Starved is) = subst IsOfWork (sym is) (tt, refl)
  stop_works e (NotOpened is) = subst IsOfWork (sym is) (tt, refl)
  stop_works e (Broken call is called) = subst IsOfWork (sym is) (tt, refl)
  stop_works e (Refused (inl output)) = subst IsOfWork (sym output.1) (tt, refl)
  stop_works e (Refused (inr (inl (inl none)))) = subst IsOfWork (sym none.1) (tt, refl)
  stop_works e (Refused (inr (inl (inr refused)))) = subst IsOfWork (sym refused.3) (tt, refl)
  stop_works e (Refused (inr (inr (inl places)))) = subst IsOfWork (sym places.1) (tt, refl)
  stop_works e (Refused (inr (inr (inr none)))) = absurd none

  opened_works : (e : VerifyEnding) (d : Deeds)
      → Works verify_faults (opened_rows c found end) (Verifies c line found end looks) e d → IsOfWork e
  opened_works e d w =
      elim (came verify_faults (opened_rows c found end) (Verifies c line found end looks) e d w) [
        | Stopped why none ↦ stop_works e why
        | Went did ran same find ↦ run_works e did ran
      ]

fits_starved : (o : Option (Operand × Operand)) → FitsNames o NoMemory
fits_starved None = λ first second is. cc
fits_starved (Some pair) = inr refl

passed : (o : Option (Operand × Operand)) → ((first second : Operand) → o ≡ Some (first, second) → ⊥) → o ≡ None
passed None never = refl
passed (Some (first, second)) never = absurd (never first second refl)

abbrev Fits : Command → VerifyEnding → Type 0
Fits c e = IsWorkKind (row_of e).kind × FitsNames (same_of c) e

work_fits : (c : Command) (o : Outside) (e : VerifyEnding) (d : Deeds) → VerifyWorks c o e d → Fits c e
work_fits c o e d (inl (is, idle)) = subst (Fits c) (sym is) (tt, fits_starved (same_of c))
work_fits c o e d (inr (inl ((first, second, same, is), idle))) =
    subst (Fits c) (sym is)
    (tt, subst (λ (n : Option (Operand × Operand)). FitsNames n (SameName first second)) (sym same) (inl refl))
work_fits c o e d (inr (inr (pass, w))) =
    let of = opened_works c o.line o.found o.end o.looks e d w in
    let none : same_of c ≡ None =
    passed (same_of c) (λ first second same. pass (SameName first second) (first, second, same, refl)) in
    (of.0, subst (λ (n : Option (Operand × Operand)). FitsNames n e) (sym none) (unnamed e of.1))

-- ---- all of it

idle_keeps : (e : VerifyEnding) → drafting_left e ≡ false → (w : WorldState) → w.site.is_drafting ≡ false → KeepsAs e w w
idle_keeps e whole w none = record { draft = none ∙ sym whole; source = keeps_self w.source; site = site_keeps w.site }

pub verify_made : IsWellMade verify_program (λ w. w.site.is_drafting ≡ false) (λ fault. Usage fault)
verify_made = record {
  memory = refl;
  memory_idle = record { also = tt; keeps = idle_keeps NoMemory refl };
  wrong = wrong_by verify_grammar
      (λ words items operands. words_give words (options_in words items) operands);
  wrong_idle = λ fault. record { also = tt; keeps = idle_keeps (Usage fault) refl };
  faults = record { memory = λ v. v; input = λ v. v; call = λ call v. v };
  starves = λ c line w begins. starved_done c line w;
  work = λ c line e old new done. work_fits c done.outside e done.did done.work;
}

pub asked_done : (words : List (List ℕ)) (c : Command) (e : VerifyEnding) (old new : WorldState) → IsAsked words c
    → VerifyWorked c words e old new → IsDone verify_program words e c.options.quiet old new
asked_done words c e old new a w =
    asked verify_program verify_made words c e c.options.quiet old new a.only.asks a.only.alone a.only.quiet_is w

-- ---- two files of one name

pub apart_never : (o : Option (Operand × Operand)) → o ≡ None → (first second : Operand) → o ≡ Some (first, second) → ⊥
apart_never o none first second same =
    let pair : Operand × Operand = (first, second) in
    let never : None ≡ Some pair = sym none ∙ same in absurd (cc)

-- the command of words that name one file twice does
pub named : (words : List (List ℕ)) (c : Command) → IsAsked words c → (first second : Operand)
    → NameOneFileTwice words first second → same_of c ≡ Some (first, second)
named words c a first second twice =
    subst (λ (x : Command). same_of x ≡ Some (first, second)) (a.only.alone twice.command twice.asks) twice.same
