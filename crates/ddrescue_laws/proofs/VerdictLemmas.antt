-- A command and the files that were found have one verdict.
use Rattle.std.proofs.Common.{◌≡◌, ℕ, true, List, Option, Some, None, refl, sym, ap, ◌∙◌, inl, inr}
use Rattle.block_list.specs.declared.status.Status.{Status}
use Rattle.mapfile_text.specs.declared.state.MapState.{MapState}
use Rattle.mapfile_text.specs.declared.read.Mode.{Mode}
use Rattle.mapfile_text.specs.declared.read.Mode.TheVariants.{Tight}
use Rattle.crash_site.specs.Files.{File}
use Rattle.mapfile_resume.specs.Named.{map_mode}
use Rattle.mapfile_resume.proofs.AnswerLemmas.{refused_for_one}
use Rattle.rescue_rules.specs.Setting.{Setting}
use Rattle.rescue_rules.specs.declared.stop.Stop.TheVariants.{SourceLost as InputLost, Site, LimitMet as Limited, NoMemory as NoRoom}
use Rattle.rescue_rules.specs.declared.stop.RunEnd.{RunEnd}
use Rattle.rescue_rules.specs.declared.stop.RunEnd.TheVariants.{Done as Finished, Stopped, SaveFailed}
use Rattle.rescue_rules.specs.Work.{Gain}
use Rattle.program_promise.specs.Work.{Deeds, WorkStep}
use Rattle.program_promise.specs.Verdicts.{IsOnce, RefuseOnce, AreVerdicts}
use Rattle.program_promise.proofs.PartLemmas.{works_as}
use Rattle.program_promise.proofs.VerdictLemmas.{one_verdict}
use Rattle.ddrescue_words.specs.Command.{Command}
use Rattle.program_promise.specs.declared.operand.Operand.{Operand}
use Rattle.task_files.specs.declared.ending.Ending.{Ending}
use Rattle.task_files.specs.declared.ending.Ending.TheVariants.{Done, SameName, MapRefused}
use Rattle.task_files.specs.declared.ending.Which.{Which}
use Rattle.task_files.specs.declared.ending.Which.TheVariants.{DomainMap, TestMap, RunMap}
use Rattle.task_files.specs.Refusals.{NamesRefused, NamedMapRefused, MapfileRefused}
use Rattle.task_files.specs.Maps.{Found}
use Rattle.task_files.specs.Work.{IfNamed, Rescues, RunsOver, answer_of, rescue_faults, files_rows, rescue_rows}
use Rattle.ddrescue_laws.specs.Laws.{IsVerdict, HasOneVerdict}

-- a run that was done
pub done_only : (e : Ending) (end : RunEnd) → e ≡ answer_of end → IsVerdict e → e ≡ Done
done_only e Finished is verdict = is
done_only e (Stopped InputLost) is verdict = absurd (verdict.kept is)
done_only e (Stopped (Site call)) is verdict = absurd (verdict.call call None is)
done_only e (Stopped (Limited limit)) is verdict = absurd (verdict.within limit is)
done_only e (Stopped NoRoom) is verdict = absurd (verdict.room is)
done_only e (SaveFailed call earlier) is verdict = absurd (verdict.call call earlier is)

-- a run that was done, or none that had begun
pub done_over : (s : Setting) (statuses : List Status) (state : Option MapState) (lines : List (List ℕ)) (e : Ending)
    (g : Gain) → RunsOver s statuses state lines e g → IsVerdict e → e ≡ Done
done_over s statuses state lines e g (inl unbegun) verdict = absurd (verdict.room unbegun.answer)
done_over s statuses state lines e g (inr ran) verdict = done_only e ran.end ran.answer verdict

-- so two runs have one, whatever they say
abbrev SaysSome : Setting → Option File → Ending → Deeds → Type 0
SaysSome s mapfile e d = (lines : List (List ℕ)) × Rescues s mapfile lines e d

run_once : (s : Setting) (mapfile : Option File) (e e' : Ending) (d d' : Deeds) → SaysSome s mapfile e d
    → SaysSome s mapfile e' d' → IsVerdict e → IsVerdict e' → e ≡ e'
run_once s mapfile e e' d d' (lines, run) (lines', run') v v' =
    done_over s run.1.0 run.1.1 lines e d.gain run.1.3 v
    ∙ sym (done_over s run'.1.0 run'.1.1 lines' e' d'.gain run'.1.3 v')

pub one_names : (c : Command) → IsOnce (NamesRefused c)
one_names c e e' a b =
    let both : Some (a.0, a.1) ≡ Some (b.0, b.1) = sym a.2 ∙ b.2 in
    let pair : (a.0, a.1) ≡ (b.0, b.1) = cc in
    a.3 ∙ ap (λ (p : Operand × Operand). SameName p.0 p.1) pair ∙ sym b.3

one_named : (which : Which) (mode : Mode) (file : Option File) → IsOnce (NamedMapRefused which mode file)
one_named which mode file e e' (inl a) (inl b) = a.1 ∙ sym b.1
one_named which mode file e e' (inl a) (inr b) = let none : None ≡ Some b.1.there = sym a.0 ∙ b.1.is in absurd (cc)
one_named which mode file e e' (inr a) (inl b) = let none : None ≡ Some a.1.there = sym b.0 ∙ a.1.is in absurd (cc)
one_named which mode file e e' (inr a) (inr b) =
    a.2 ∙ ap (MapRefused which) (refused_for_one file mode a.0 b.0 a.1 b.1) ∙ sym b.2

pub one_option : (which : Which) (mode : Mode) (name : Option (List ℕ)) (file : Option File)
    → IsOnce (IfNamed name (NamedMapRefused which mode file))
one_option which mode name file e e' a b = one_named which mode file e e' a.1 b.1

one_mapfile : (mapfile : Option File) → IsOnce (MapfileRefused mapfile)
one_mapfile mapfile e e' a b = a.3 ∙ ap (MapRefused RunMap) (refused_for_one mapfile Tight a.0 b.0 a.1 b.1) ∙ sym b.3

pub files_once : (c : Command) (found : Found) (limit : ℕ) → RefuseOnce (files_rows true c found limit)
files_once c found limit =
    ((λ e e' a b. a.2 ∙ sym b.2), (one_mapfile found.mapfile, ((λ e e' a b. a.1 ∙ sym b.1), tt)))

rows_once : (c : Command) (found : Found) (end : ℕ) → RefuseOnce (rescue_rows c found end)
rows_once c found end =
    let mode : Mode = map_mode c.options.loose in (
      one_names c,
      (
        one_option DomainMap mode c.domain_map found.domain,
        (one_option TestMap mode c.test_map found.test, files_once c found end),
      ),
    )

-- no fault of a rescue is a verdict
pub verdicts : AreVerdicts rescue_faults IsVerdict
verdicts = record { memory = λ v. v.room refl; input = λ v. v.opened refl; call = λ call v. v.call call None refl }

pub has_one_verdict : HasOneVerdict
has_one_verdict c s found lines lines' e e' d d' w w' v v' =
    let rows : List (WorkStep Ending) = rescue_rows c found s.end in
    let run : Ending → Deeds → Type 0 = SaysSome s found.mapfile in
    one_verdict Ending rescue_faults IsVerdict verdicts rows run (rows_once c found s.end) (run_once s found.mapfile) e e'
    d d' (works_as rescue_faults rows (Rescues s found.mapfile lines) run (λ v x ran. (lines, ran)) e d w)
    (works_as rescue_faults rows (Rescues s found.mapfile lines') run (λ v x ran. (lines', ran)) e' d' w') v v'
