-- The program is well made: its rows agree with its grammar and with its work.
use Rattle.std.proofs.Common.{◌≡◌, ℕ, nat_eq, false, List, [], ◌∷◌, Option, Some, None, Result, Ok, Err, refl, sym, ap, ◌∙◌}
use Rattle.std.proofs.lemmas.Bool.{cond_both}
use Rattle.option_words.specs.declared.reading.Item.{Item}
use Rattle.option_words.specs.declared.fault.UsageFault.{UsageFault}
use Rattle.option_words.specs.declared.fault.UsageFault.TheVariants.{BadValue, Modes, PlaceTooLarge}
use Rattle.option_words.specs.Grammar.{unless_empty}
use Rattle.option_words.specs.Values.{empty_operand}
use Rattle.program_promise.specs.World.{WorldState, Told}
use Rattle.program_promise.specs.Kinds.{IsWorkKind}
use Rattle.program_promise.specs.WellMade.{IsWellMade}
use Rattle.program_promise.specs.Promise.{IsDone, Nothing, Message, Says}
use Rattle.program_promise.proofs.GrammarLemmas.{Gives, wrong_by}
use Rattle.program_promise.proofs.PromiseLemmas.{asked, keeps_promises}
use Rattle.program_promise.specs.Rows.{usage_kind}
use Rattle.ddrescuelog_words.specs.declared.mode.LogMode.{LogMode}
use Rattle.ddrescuelog_words.specs.declared.options.LogOptions.{LogOptions}
use Rattle.ddrescuelog_words.specs.Options.{options_in}
use Rattle.ddrescuelog_words.specs.Command.{Command, IsAsked, is_too_long, modes_given, command_by, log_grammar, size_word, unless_too_long, with_mode, with_operand}
use Rattle.mapfile_save.proofs.FillLemmas.{keeps_self}
use Rattle.ddrescuelog_cli.specs.declared.ending.LogEnding.{LogEnding}
use Rattle.ddrescuelog_cli.specs.declared.ending.LogEnding.TheVariants.{Usage, NoMemory}
use Rattle.ddrescuelog_cli.specs.Answers.{FitsCommand, FitsUsage, drafting_left, row_of}
use Rattle.ddrescuelog_cli.specs.Ddrescuelog.{LogKeeps, LogWorked, log_program}
use Rattle.ddrescuelog_cli.specs.Laws.{LogKeepsPromises}
use Rattle.ddrescuelog_cli.proofs.AfterLemmas.{feed_keeps}
use Rattle.ddrescuelog_cli.proofs.FitLemmas.{answers_fit}
use Rattle.ddrescuelog_cli.proofs.WorkedLemmas.{starved_done}

-- ---- the faults that words may have

operand_gives : (words : List (List ℕ)) (items : List Item) (o : LogOptions) (m : LogMode) (operands : List ℕ)
    → Gives (with_operand words items o m operands)
operand_gives words items o m [] = tt
operand_gives words items o m (n ∷ []) = tt
operand_gives words items o m (n ∷ k ∷ more) = tt

mode_gives : (words : List (List ℕ)) (items : List Item) (o : LogOptions) (m : Option LogMode) (operands : List ℕ)
    → Gives (with_mode words items o m operands)
mode_gives words items o None operands = tt
mode_gives words items o (Some m) operands =
    cond_both (nat_eq (modes_given items) 1) (with_operand words items o m operands) (Err (Modes (modes_given items)))
    (Gives {C = Command}) (λ on. operand_gives words items o m operands) (λ off. tt)

filled_gives : (e : Option ℕ) (r : Result Command UsageFault) → Gives r → Gives (unless_empty e r)
filled_gives None (Err f) gives = gives
filled_gives (Some n) (Err f) gives = gives
filled_gives None (Ok c) gives = tt
filled_gives (Some n) (Ok c) gives = tt

short_gives : (n : ℕ) (r : Result Command UsageFault) → Gives r → Gives (unless_too_long n r)
short_gives n (Err f) gives = gives
short_gives n (Ok c) gives = cond_both (is_too_long c) (Err (BadValue n)) (Ok c) (Gives {C = Command}) (λ on. tt) (λ off. tt)

words_give : (words : List (List ℕ)) (items : List Item) (r : Result LogOptions ℕ) (operands : List ℕ)
    → Gives (command_by words items r operands)
words_give words items (Err n) operands = tt
words_give words items (Ok o) operands =
    short_gives (size_word items)
    (unless_empty (empty_operand words operands) (with_mode words items o o.mode operands))
    (filled_gives (empty_operand words operands) (with_mode words items o o.mode operands)
    (mode_gives words items o o.mode operands))

-- ---- the answers of work

usage_works : (fault : UsageFault) (c : Command) → FitsUsage fault c → IsWorkKind (usage_kind fault)
usage_works PlaceTooLarge c fits = tt
usage_works _ c fits = absurd fits

fits_work : (e : LogEnding) (c : Command) → FitsCommand e c → IsWorkKind (row_of e).kind
fits_work (Usage fault) c fits = usage_works fault c fits
fits_work e c fits = tt

-- nothing was done
abbrev Idle : LogEnding → Type 0
Idle e = (w : WorldState) → w.site.is_drafting ≡ false → LogKeeps e w w

still : (e : LogEnding) → drafting_left e ≡ false → Idle e
still e none w begins =
    record { site = keeps_self w.site; feed_ = feed_keeps w.feed_; image = refl; draft = begins ∙ sym none }

pub log_made : IsWellMade log_program (λ w. w.site.is_drafting ≡ false) (λ fault. Usage fault)
log_made = record {
  memory = refl;
  memory_idle = record { also = tt; keeps = still NoMemory refl };
  wrong = wrong_by log_grammar
      (λ words items operands. words_give words items (options_in words items) operands);
  wrong_idle = λ fault. record { also = tt; keeps = still (Usage fault) refl };
  faults = record { memory = λ v. v; input = λ v. v; call = λ call v. v };
  starves = λ c line w begins. starved_done c line w;
  work = λ c line e old new done.
      let fits : FitsCommand e c =
      answers_fit c done.outside.line done.outside.list done.outside.found done.outside.maps e done.did done.work in
      (fits_work e c fits, fits);
}

pub asked_done : (words : List (List ℕ)) (c : Command) (e : LogEnding) (old new : WorldState) → IsAsked words c
    → LogWorked c words e old new → IsDone log_program words e c.options.quiet old new
asked_done words c e old new a w =
    asked log_program log_made words c e c.options.quiet old new a.only.asks a.only.alone a.only.quiet_is w

pub log_keeps_promises : LogKeepsPromises
log_keeps_promises = keeps_promises log_program log_made

-- what is said is on standard error, and touches no file
pub files_beside : (t : Told LogEnding) (between : WorldState) → Says log_program t between
    → t.after.site ≡ between.site
files_beside t between (Nothing why same) = ap (λ (w : WorldState). w.site) same
files_beside t between (Message loud may same put schedule) = ap (λ (w : WorldState). w.site) same
