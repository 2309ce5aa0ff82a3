-- What a sweep leaves of the objects' counts, and of its draft.
use Rattle.std.proofs.Common.{◌≡◌, false, List, Option, Some, None, refl, sym, ap, subst, ◌∙◌}
use Rattle.fault_count.specs.Counts.{raised}
use Rattle.faulty_source.specs.SourceState.{SourceState}
use Rattle.faulty_source.proofs.Keeping.{keeps_self}
use Rattle.mapfile_save.proofs.FillLemmas.{keeps_self as site_keeps_self}
use Rattle.rescue_console.specs.ClockState.{ClockState}
use Rattle.rescue_console.specs.ConsoleState.{ConsoleState}
use Rattle.rescue_core.proofs.ObjectLemmas.{clock_self}
use Rattle.crash_site.specs.declared.site.SiteCall.{SiteCall}
use Rattle.crash_site.specs.SiteState.{SiteState}
use Rattle.rescue_rules.specs.declared.stop.Stop.{Stop}
use Rattle.rescue_rules.specs.declared.stop.Stop.TheVariants.{SourceLost as InputLost, Site, LimitMet as Limited, NoMemory as NoRoom}
use Rattle.rescue_rules.specs.declared.stop.RunEnd.{RunEnd}
use Rattle.rescue_rules.specs.declared.stop.RunEnd.TheVariants.{Done as Finished, Stopped, SaveFailed}
use Rattle.rescue_rules.specs.Across.{across}
use Rattle.rescue_rules.specs.Setting.{Setting}
use Rattle.rescue_rules.specs.Work.{end_of}
use Rattle.sweep_rules.specs.Sweep.{Sweeper, Sweep, Swept, after_pieces}
use Rattle.sweep_rules.specs.SweepWork.{SweepEndsBy}
use Rattle.fill_generate.specs.Sweeping.{EndsSweep, Saved, Unsaved, Cut, Broken, drafting_after}
use Rattle.task_files.specs.declared.ending.Ending.{Ending}
use Rattle.task_files.specs.declared.ending.Ending.TheVariants.{NoMemory}
use Rattle.task_files.specs.Answers.{Causes, drafting_left}
use Rattle.task_files.specs.Steps.{Leaves}
use Rattle.task_files.specs.Work.{answer_of}

-- its last calls returned, or one of them failed
saved_cause : (s : Setting) (w : Sweeper) (m : Sweep) (stop : Option Stop) (source : SourceState) (site site' : SiteState)
    → SweepEndsBy stop s w m → site'.faults ≡ site.faults → Causes (answer_of (end_of stop)) source source site site'
saved_cause s w m None source site site' by same = record { opens = refl; reads = refl; calls = same; also = tt }
saved_cause s w m (Some NoRoom) source site site' by same = record { opens = refl; reads = refl; calls = same; also = tt }
saved_cause s w m _ source site site' by same = absurd by

unsaved_cause : (s : Setting) (w : Sweeper) (m : Sweep) (stop : Option Stop) (call : SiteCall) (source : SourceState)
    (site site' : SiteState) → SweepEndsBy stop s w m → site'.faults ≡ raised site.faults
    → Causes (answer_of (SaveFailed call stop)) source source site site'
unsaved_cause s w m None call source site site' by rose =
    record { opens = refl; reads = refl; calls = rose; also = tt }
unsaved_cause s w m (Some NoRoom) call source site site' by rose =
    record { opens = refl; reads = refl; calls = rose; also = λ before none. cc }
unsaved_cause s w m _ call source site site' by rose = absurd by

-- A sweep has the cause of its answer,
pub sweep_cause : (s : Setting) (w : Sweeper) (m : Sweep) (es : List Swept) (end : RunEnd) (source : SourceState)
    (site site' : SiteState) (e : Ending) → EndsSweep s w m es end site site' → e ≡ answer_of end
    → Causes e source source site site'
sweep_cause s w m es end source site site' e (Saved stop by is makes) answered =
    subst (λ (v : Ending). Causes v source source site site') (ap answer_of (sym is) ∙ sym answered)
    (saved_cause s w (after_pieces w m es) stop source site site' by makes.faults)
sweep_cause s w m es end source site site' e (Unsaved stop call by is breaks) answered =
    subst (λ (v : Ending). Causes v source source site site') (ap answer_of (sym is) ∙ sym answered)
    (unsaved_cause s w (after_pieces w m es) stop call source site site' by breaks.rose)
sweep_cause s w m es end source site site' e (Cut p q piece is breaks) answered =
    subst (λ (v : Ending). Causes v source source site site') (ap answer_of (sym is) ∙ sym answered)
    (record { opens = refl; reads = refl; calls = breaks.rose; also = tt })
sweep_cause s w m es end source site site' e (Broken before last call split is breaks) answered =
    subst (λ (v : Ending). Causes v source source site site') (ap answer_of (sym is) ∙ sym answered)
    (record { opens = refl; reads = refl; calls = breaks.rose; also = tt })

-- also where memory ran out before it began,
pub nothing_left : (a : SourceState) (d : SiteState) (k : ClockState) (x : ConsoleState) → d.is_drafting ≡ false
    → Leaves NoMemory (across a a d d k k x x)
nothing_left a d k x none = record {
  cause = record { opens = refl; reads = refl; calls = refl; also = tt };
  draft = none;
  source = keeps_self a;
  site = site_keeps_self d;
  clock = clock_self k;
}

-- and leaves a draft begun where its answer says so.
pub draft_as : (end : RunEnd) → drafting_after end ≡ drafting_left (answer_of end)
draft_as (Stopped InputLost) = refl
draft_as _ = refl
