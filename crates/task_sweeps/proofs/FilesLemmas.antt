-- The steps over the files, after an input that was opened.
use Rattle.std.proofs.Common.{◌≡◌, ℕ, Bool, true, false, List, [], ◌∷◌, ◌++◌, map, Option, Some, None, ap, ◌∙◌}
use Rattle.crash_site.specs.Files.{File}
use Rattle.crash_site.specs.Folder.{Folder, after}
use Rattle.crash_site.specs.Calls.{Entry, Done as Returned}
use Rattle.crash_site.proofs.LawLemmas.{after-append}
use Rattle.program_promise.specs.Work.{Deeds, Look, Works}
use Rattle.program_promise.specs.Parts.{only_calls, StoppedIn, WentThrough}
use Rattle.program_promise.specs.Holds.{after_entries}
use Rattle.program_promise.proofs.PartLemmas.{stopped_more, through_then}
use Rattle.program_promise.proofs.FrontLemmas.{load_reads, reads_stand}
use Rattle.ddrescue_words.specs.Command.{Command}
use Rattle.task_files.specs.declared.ending.Ending.{Ending}
use Rattle.task_files.specs.Maps.{Found}
use Rattle.task_files.specs.Refusals.{PlacesRefused}
use Rattle.task_files.specs.Work.{rescue_faults, output_rows, load_rows, files_rows}

module _ (c : Command) (found : Found) (limit : ℕ) (run : Ending → Deeds → Type 0) (e : Ending) where
  -- the output was refused, or couldn't be opened
  pub output_stops : (makes : Bool) (calls : List Entry)
      → StoppedIn rescue_faults (output_rows makes c.options.forced c.outfile found.output) e calls
      → Works rescue_faults (files_rows makes c found limit) run e (only_calls calls)
  output_stops true calls did =
      stopped_more rescue_faults (output_rows true c.options.forced c.outfile found.output)
      (load_rows c.mapfile found.mapfile ++ Look (PlacesRefused c.options limit) ∷ []) run e (only_calls calls) did
  output_stops false calls did =
      stopped_more rescue_faults (output_rows false c.options.forced c.outfile found.output)
      (load_rows c.mapfile found.mapfile ++ Look (PlacesRefused c.options limit) ∷ []) run e (only_calls calls) did

  -- the output was opened, and what follows it was done
  output_then : (makes : Bool) (calls : List Entry) (d : Deeds)
      → WentThrough (output_rows makes c.options.forced c.outfile found.output) calls
      → Works rescue_faults (load_rows c.mapfile found.mapfile ++ Look (PlacesRefused c.options limit) ∷ []) run e d
      → Works rescue_faults (files_rows makes c found limit) run e (after_entries calls d)
  output_then true calls d t w =
      through_then rescue_faults (output_rows true c.options.forced c.outfile found.output)
      (load_rows c.mapfile found.mapfile ++ Look (PlacesRefused c.options limit) ∷ []) run e calls d t w
  output_then false calls d t w =
      through_then rescue_faults (output_rows false c.options.forced c.outfile found.output)
      (load_rows c.mapfile found.mapfile ++ Look (PlacesRefused c.options limit) ∷ []) run e calls d t w

  -- the load of the mapfile stopped
  pub load_stops : (makes : Bool) (calls load : List Entry)
      → WentThrough (output_rows makes c.options.forced c.outfile found.output) calls
      → StoppedIn rescue_faults (load_rows c.mapfile found.mapfile) e load
      → Works rescue_faults (files_rows makes c found limit) run e (only_calls (calls ++ load))
  load_stops makes calls load t did =
      output_then makes calls (only_calls load) t
      (stopped_more rescue_faults (load_rows c.mapfile found.mapfile) (Look (PlacesRefused c.options limit) ∷ []) run e
      (only_calls load) did)

  -- what follows the load was done
  pub files_then : (makes : Bool) (calls load : List Entry) (d : Deeds)
      → WentThrough (output_rows makes c.options.forced c.outfile found.output) calls
      → WentThrough (load_rows c.mapfile found.mapfile) load
      → Works rescue_faults (Look (PlacesRefused c.options limit) ∷ []) run e d
      → Works rescue_faults (files_rows makes c found limit) run e (after_entries calls (after_entries load d))
  files_then makes calls load d t u w =
      output_then makes calls (after_entries load d) t
      (through_then rescue_faults (load_rows c.mapfile found.mapfile) (Look (PlacesRefused c.options limit) ∷ []) run e load
      d u w)

-- a load leaves all files as they read
pub load_stands : (mapfile : Option (List ℕ)) (file : Option File) (calls : List Entry) → WentThrough (load_rows mapfile file) calls
    → (d : Folder) → after d calls ≡ d
load_stands None file calls (rest, is, (none, (passed, over))) d =
    ap (after d) (is ∙ over)
load_stands (Some name) file calls (rest, is, (load, more, loaded, grew, (passed, over))) d =
    ap (after d) is ∙ ap (after d) (grew ∙ ap (λ (r : List Entry). map Returned load ++ r) over)
    ∙ after-append d (map Returned load) [] ∙ reads_stand load d (load_reads name file load loaded.begins)
