-- A filling and a generating have one verdict at most.
use Rattle.std.proofs.Common.{◌≡◌, ◌≢◌, ℕ, true, List, Option, sym, ◌∙◌, inl, inr}
use Rattle.crash_site.specs.Files.{File}
use Rattle.mapfile_resume.specs.Named.{map_mode}
use Rattle.rescue_rules.specs.declared.stop.RunEnd.{RunEnd}
use Rattle.rescue_rules.specs.Setting.{Setting}
use Rattle.sweep_rules.specs.Sweep.{Sweeper, Swept, filler, generator}
use Rattle.program_promise.specs.Work.{Deeds, Works}
use Rattle.program_promise.specs.Verdicts.{RefuseOnce, AreVerdicts}
use Rattle.program_promise.proofs.VerdictLemmas.{one_verdict}
use Rattle.program_promise.proofs.PartLemmas.{works_as}
use Rattle.ddrescue_words.specs.Options.{cluster_of}
use Rattle.ddrescue_words.specs.Command.{Command}
use Rattle.task_files.specs.declared.ending.Ending.{Ending}
use Rattle.task_files.specs.declared.ending.Ending.TheVariants.{Done, PatternUnread}
use Rattle.task_files.specs.declared.ending.Which.TheVariants.{DomainMap}
use Rattle.task_files.specs.Maps.{Found}
use Rattle.task_files.specs.Work.{rescue_faults, files_rows}
use Rattle.task_sweeps.specs.Pattern.{ThenPattern, IsLost, IsShort, IsRead}
use Rattle.task_sweeps.specs.Modes.{MaySweep, ThenSweep, fill_rows, generate_rows}
use Rattle.ddrescue_laws.specs.Laws.{IsVerdict}
use Rattle.ddrescue_laws.specs.ModeLaws.{FillHasOneVerdict, GenerateHasOneVerdict}
use Rattle.ddrescue_laws.proofs.VerdictLemmas.{done_only, files_once, one_names, one_option, verdicts}

-- ---- the refusals

fill_once : (c : Command) (found : Found) (input_end : ℕ) → RefuseOnce (fill_rows c found input_end)
fill_once c found input_end = (
  one_names c,
  (one_option DomainMap (map_mode c.options.loose) c.domain_map found.domain, ((λ e e' a b. a.1 ∙ sym b.1), tt)),
)

generate_once : (c : Command) (found : Found) (input_end : ℕ) → RefuseOnce (generate_rows c found input_end)
generate_once c found input_end = (
  one_names c,
  (
    one_option DomainMap (map_mode c.options.loose) c.domain_map found.domain,
    ((λ e e' a b. a.1 ∙ sym b.1), files_once c found input_end),
  ),
)

-- ---- the sweep

-- some sweep, whatever it does and says
record SweepsSome (e : Ending) (d : Deeds) : Type 0 where
  s : Setting
  w : Sweeper
  mapfile : Option File
  pieces : List Swept
  end : RunEnd
  lines : List (List ℕ)
  sweep : ThenSweep s w mapfile pieces end lines e d

-- it was done, or none had begun
swept_done : (e : Ending) (d : Deeds) → SweepsSome e d → IsVerdict e → e ≡ Done
swept_done e d h verdict = done_by h.sweep.sweeps
  where
    done_by : MaySweep h.s h.w h.sweep.statuses h.sweep.state h.pieces h.end h.lines e d.gain → e ≡ Done
    done_by (inl unbegun) = absurd (verdict.room unbegun.0.answer)
    done_by (inr swept) = done_only e h.end swept.answer verdict

-- an answer that the pattern's read doesn't bring
record IsPlainVerdict (e : Ending) : Type 0 where
  verdict : IsVerdict e
  whole : e ≢ PatternUnread

plain_verdicts : AreVerdicts rescue_faults IsPlainVerdict
plain_verdicts = record {
  memory = λ v. verdicts.memory v.verdict;
  input = λ v. verdicts.input v.verdict;
  call = λ call v. verdicts.call call v.verdict;
}

sweeps_once : (e e' : Ending) (d d' : Deeds) → SweepsSome e d → SweepsSome e' d' → IsPlainVerdict e → IsPlainVerdict e'
    → e ≡ e'
sweeps_once e e' d d' h h' v v' = swept_done e d h v.verdict ∙ sym (swept_done e' d' h' v'.verdict)

-- after a pattern
record ReadsSome (c : Command) (found : Found) (input_end top : ℕ) (e : Ending) (d : Deeds) : Type 0 where
  buffer : List ℕ
  reads : ThenPattern (cluster_of c.options) input_end buffer (Works rescue_faults (files_rows true c found top) SweepsSome) e
      d

read_whole : (c : Command) (found : Found) (input_end top : ℕ) (e : Ending) (d : Deeds)
    → ReadsSome c found input_end top e d → IsPlainVerdict e
    → (x : Deeds) × Works rescue_faults (files_rows true c found top) SweepsSome e x
read_whole c found input_end top e d h v = whole h.reads
  where
    whole : ThenPattern (cluster_of c.options) input_end h.buffer
        (Works rescue_faults (files_rows true c found top) SweepsSome) e d
        → (x : Deeds) × Works rescue_faults (files_rows true c found top) SweepsSome e x
    whole (IsLost is idle) = absurd (v.verdict.kept is)
    whole (IsShort r read less is one) = absurd (v.whole is)
    whole (IsRead r more read all repeated reads next) = (_, next)

reads_once : (c : Command) (found : Found) (input_end top : ℕ) (e e' : Ending) (d d' : Deeds)
    → ReadsSome c found input_end top e d → ReadsSome c found input_end top e' d' → IsPlainVerdict e → IsPlainVerdict e'
    → e ≡ e'
reads_once c found input_end top e e' d d' h h' v v' =
    let w = read_whole c found input_end top e d h v in
    let w' = read_whole c found input_end top e' d' h' v' in
    one_verdict Ending rescue_faults IsPlainVerdict plain_verdicts (files_rows true c found top) SweepsSome
    (files_once c found top) sweeps_once e e' w.0 w'.0 w.1 w'.1 v v'

-- some pattern and sweep, for what they are
some_sweep : (s : Setting) (w : Sweeper) (mapfile : Option File) (pieces : List Swept) (end : RunEnd)
    (lines : List (List ℕ)) (e : Ending) (d : Deeds) → ThenSweep s w mapfile pieces end lines e d → SweepsSome e d
some_sweep s w mapfile pieces end lines e d h = record {
  s = s;
  w = w;
  mapfile = mapfile;
  pieces = pieces;
  end = end;
  lines = lines;
  sweep = h;
}

some_read : (c : Command) (found : Found) (input_end top : ℕ) (buffer : List ℕ) (run : Ending → Deeds → Type 0)
    → ((e : Ending) (d : Deeds) → run e d → SweepsSome e d) → (e : Ending) (d : Deeds)
    → ThenPattern (cluster_of c.options) input_end buffer (Works rescue_faults (files_rows true c found top) run) e d
    → ReadsSome c found input_end top e d
some_read c found input_end top buffer run some e d (IsLost is idle) =
    record { buffer = buffer; reads = IsLost is idle }
some_read c found input_end top buffer run some e d (IsShort r read less is one) =
    record { buffer = buffer; reads = IsShort r read less is one }
some_read c found input_end top buffer run some e d (IsRead r more read all repeated reads next) = record {
  buffer = buffer;
  reads = IsRead r more read all repeated reads
      (works_as rescue_faults (files_rows true c found top) run SweepsSome some e _ next);
}

pub fill_has_one_verdict : FillHasOneVerdict
fill_has_one_verdict types c found input_end top s s' buffer buffer' pieces pieces' end end' lines lines' e e' d d' w w' v v'
    whole whole' =
    one_verdict Ending rescue_faults IsPlainVerdict plain_verdicts (fill_rows c found input_end)
    (ReadsSome c found input_end top) (fill_once c found input_end) (reads_once c found input_end top) e e' d d'
    (works_as rescue_faults (fill_rows c found input_end) _ (ReadsSome c found input_end top)
    (some_read c found input_end top buffer _
    (some_sweep s (filler s types buffer) found.mapfile pieces end lines)) e d w)
    (works_as rescue_faults (fill_rows c found input_end) _ (ReadsSome c found input_end top)
    (some_read c found input_end top buffer' _
    (some_sweep s' (filler s' types buffer') found.mapfile pieces' end' lines')) e' d' w')
    (record { verdict = v; whole = whole }) (record { verdict = v'; whole = whole' })

plain_done : (e e' : Ending) (d d' : Deeds) → SweepsSome e d → SweepsSome e' d' → IsVerdict e → IsVerdict e' → e ≡ e'
plain_done e e' d d' h h' v v' = swept_done e d h v ∙ sym (swept_done e' d' h' v')

pub generate_has_one_verdict : GenerateHasOneVerdict
generate_has_one_verdict c found input_end s s' pieces pieces' end end' lines lines' e e' d d' w w' v v' =
    one_verdict Ending rescue_faults IsVerdict verdicts (generate_rows c found input_end) SweepsSome
    (generate_once c found input_end) plain_done e e' d d'
    (works_as rescue_faults (generate_rows c found input_end) _ SweepsSome
    (some_sweep s (generator s) found.mapfile pieces end lines) e d w)
    (works_as rescue_faults (generate_rows c found input_end) _ SweepsSome
    (some_sweep s' (generator s') found.mapfile pieces' end' lines') e' d' w') v v'
