-- The pattern of a filling that is done is the infile's front.
use Rattle.std.proofs.Common.{◌≡◌, ℕ, ◌+◌, ◌-◌, min, List, ◌∷◌, length, take, drop, All, sym, ap, subst, ◌∙◌, arith}
use Rattle.std.specs.List.{slice_range}
use Rattle.std.proofs.lemmas.List.{take_min}
use Rattle.std.proofs.lemmas.List.Elements.{All-head}
use Rattle.block_list.specs.declared.types.TypeSet.{TypeSet}
use Rattle.faulty_source.specs.Journal.{Reading, IsFrom}
use Rattle.rescue_rules.specs.declared.stop.RunEnd.{RunEnd}
use Rattle.rescue_rules.specs.Setting.{Setting}
use Rattle.sweep_rules.specs.Sweep.{Swept}
use Rattle.program_promise.specs.Work.{Deeds}
use Rattle.program_promise.proofs.AnswerLemmas.{Passed, passed}
use Rattle.ddrescue_words.specs.Options.{cluster_of}
use Rattle.ddrescue_words.specs.Command.{Command}
use Rattle.task_files.specs.declared.ending.Ending.{Ending}
use Rattle.task_files.specs.declared.ending.Ending.TheVariants.{Done, SourceLost, PatternUnread}
use Rattle.task_files.specs.Maps.{Found}
use Rattle.task_files.specs.Work.{rescue_faults}
use Rattle.task_sweeps.specs.Pattern.{IsPatternRead, IsRepeated, ThenPattern, IsLost, IsShort, IsRead}
use Rattle.task_sweeps.specs.Modes.{Fills, fill_rows}
use Rattle.ddrescue_cli.proofs.RefusalLemmas.{fill_plain}
use Rattle.ddrescue_laws.proofs.SweepDone.{undone_by, unnamed}

-- the first read gave the pattern that fills the buffer
pub record HasPattern (cluster end : ℕ) (buffer : List ℕ) (reads : List Reading) : Type 0 where
  pub first : Reading
  pub more : List Reading
  pub read : IsPatternRead cluster end first
  pub whole : length first.given ≡ first.asked
  pub repeated : IsRepeated first.given cluster buffer
  pub are : reads ≡ first ∷ more

then_pattern : (cluster end : ℕ) (buffer : List ℕ) (next : Ending → Deeds → Type 0) (e : Ending) (d : Deeds)
    → e ≡ Done → ThenPattern cluster end buffer next e d → HasPattern cluster end buffer d.gain.reads
then_pattern cluster end buffer next e d done (IsLost lost idle) =
    absurd (let no : SourceLost ≡ Done = sym lost ∙ done in cc)
then_pattern cluster end buffer next e d done (IsShort r read less unread one) =
    absurd (let no : PatternUnread ≡ Done = sym unread ∙ done in cc)
then_pattern cluster end buffer next e d done (IsRead r more read whole repeated reads on) =
    record { first = r; more = more; read = read; whole = whole; repeated = repeated; are = reads }

passed_pattern : (c : Command) (found : Found) (input_end : ℕ) (buffer : List ℕ) (next : Ending → Deeds → Type 0)
    (e : Ending) (d : Deeds) → e ≡ Done
    → Passed (fill_rows c found input_end) (ThenPattern (cluster_of c.options) input_end buffer next) e d
    → HasPattern (cluster_of c.options) input_end buffer d.gain.reads
passed_pattern c found input_end buffer next e d done (load, rest, is_load, grew, (os, read)) =
    then_pattern (cluster_of c.options) input_end buffer next e _ done read

pub pattern_read : (types : TypeSet) (c : Command) (found : Found) (input_end top : ℕ) (s : Setting) (buffer : List ℕ)
    (pieces : List Swept) (end : RunEnd) (lines : List (List ℕ)) (e : Ending) (d : Deeds) → e ≡ Done
    → Fills types c found input_end top s buffer pieces end lines e d
    → HasPattern (cluster_of c.options) input_end buffer d.gain.reads
pattern_read types c found input_end top s buffer pieces end lines e d done w =
    passed_pattern c found input_end buffer _ e d done
    (passed rescue_faults (fill_rows c found input_end) _ e d
    (undone_by (fill_rows c found input_end) e
    (λ refused is. (fill_plain c found input_end e (unnamed c e is) refused).done is) done) w)

-- it is the input's front, if the input gave its own bytes
pub pattern_is_front : (cluster end : ℕ) (buffer bytes : List ℕ) (reads : List Reading)
    → HasPattern cluster end buffer reads → end ≡ length bytes → All (IsFrom bytes) reads
    → IsRepeated (take cluster bytes) cluster buffer
pattern_is_front cluster end buffer bytes reads h all from =
    let r : Reading = h.first in
    let n : ℕ = length r.given in
    let own : IsFrom bytes r
    = All-head (IsFrom bytes) r h.more (subst (λ (rs : List Reading). All (IsFrom bytes) rs) h.are from) in
    let size : 0 + n - 0 ≡ n = omega arith in
    let long : n ≡ min cluster (length bytes) = h.whole ∙ h.read.asked ∙ ap (λ (k : ℕ). min cluster k) all in
    let front : r.given ≡ take cluster bytes
    = own ∙ ap (λ (k : ℕ). slice_range bytes k (k + n)) h.read.pos ∙ ap (λ (k : ℕ). take k (drop 0 bytes)) size
    ∙ ap (λ (k : ℕ). take k bytes) long ∙ take_min cluster bytes in
    subst (λ (g : List ℕ). IsRepeated g cluster buffer) front h.repeated
