-- What is said of a rescue's answer, row by row.
use Rattle.std.proofs.Common.{sym, subst, ◌≡◌, ℕ, List, [], ◌∷◌, ◌++◌, Option, Some, None, true, inl, inr}
use Rattle.crash_site.specs.declared.site.SiteCall.{SiteCall}
use Rattle.crash_site.specs.declared.site.SiteCall.TheVariants.{ImageOpen, ImageSync, MapSettle}
use Rattle.crash_site.specs.Files.{File}
use Rattle.mapfile_save.specs.Saving.{IsNameIn}
use Rattle.crash_site.specs.Calls.{Entry, image_open}
use Rattle.crash_site.specs.CallsMade.{BrokeAt}
use Rattle.mapfile_resume.specs.Named.{map_mode}
use Rattle.rescue_rules.specs.Setting.{Setting}
use Rattle.rescue_rules.specs.declared.stop.Stop.TheVariants.{NoMemory as NoRoom}
use Rattle.rescue_rules.specs.declared.stop.RunEnd.{RunEnd}
use Rattle.rescue_rules.specs.declared.stop.RunEnd.TheVariants.{Stopped}
use Rattle.program_promise.specs.Work.{Deeds, WorkStep, Look}
use Rattle.ddrescue_words.specs.Command.{Command}
use Rattle.task_files.specs.declared.ending.Ending.{Ending}
use Rattle.task_files.specs.declared.ending.Which.TheVariants.{DomainMap, TestMap}
use Rattle.task_files.specs.Maps.{Found}
use Rattle.task_files.specs.Refusals.{NamedMapRefused, MapfileRefused, PlacesRefused}
use Rattle.task_files.specs.Work.{IfNamed, Rescues, answer_of, barrier_of, map_rows, opened_rows}

-- an answer that ends a run
abbrev pub EndsRun : Ending → Type 0
EndsRun e = (end : RunEnd) × (e ≡ answer_of end)

pub rescue_ends : (s : Setting) (mapfile : Option File) (lines : List (List ℕ)) (e : Ending) (d : Deeds)
    → Rescues s mapfile lines e d → EndsRun e
rescue_ends s mapfile lines e d (opens, (statuses, state, stands, inl unbegun)) = (Stopped NoRoom, unbegun.answer)
rescue_ends s mapfile lines e d (opens, (statuses, state, stands, inr ran)) = (ran.end, ran.answer)

-- the call of an open of the output
pub open_call : (call : SiteCall) (out : List ℕ) (old new : List Entry) → BrokeAt call (image_open out true ∷ []) old new
    → call ≡ ImageOpen
open_call call out old new (inl (is, lost)) = is
open_call call out old new (inr broke) = absurd broke

-- a call of a barrier, if there is one
pub of_barrier : (P : SiteCall → Type 0) → P MapSettle → P ImageSync → (call : SiteCall) (mapfile : Option (List ℕ))
    → IsNameIn call (barrier_of mapfile) → P call
of_barrier P settle sync call None named = absurd named
of_barrier P settle sync call (Some n) (inl is) = subst P (sym is) settle
of_barrier P settle sync call (Some n) (inr (inl is)) = subst P (sym is) sync
of_barrier P settle sync call (Some n) (inr (inr none)) = absurd none

-- the rows after the read of each map that an option names, and after that of the mapfile
abbrev pub after_mapfile : Command → Found → (end : ℕ) → List (WorkStep Ending)
after_mapfile c found end = Look (MapfileRefused found.mapfile) ∷ Look (PlacesRefused c.options end) ∷ []

abbrev pub after_test : Command → Found → (end : ℕ) → List (WorkStep Ending)
after_test c found end =
    Look (IfNamed c.test_map (NamedMapRefused TestMap (map_mode c.options.loose) found.test)) ∷ opened_rows c found end

abbrev pub after_domain : Command → Found → (end : ℕ) → List (WorkStep Ending)
after_domain c found end =
    Look (IfNamed c.domain_map (NamedMapRefused DomainMap (map_mode c.options.loose) found.domain))
    ∷ (map_rows TestMap (map_mode c.options.loose) c.test_map found.test ++ opened_rows c found end)
