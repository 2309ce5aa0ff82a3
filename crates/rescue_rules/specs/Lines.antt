-- The lines that a run says of how far it has come.
use Rattle.std.specs.Prelude.{ℕ, ◌-◌, ◌*◌, ◌/◌, Bool, true, false, nat_eq, List, [], ◌∷◌, ◌++◌, length, map, take, codes, if◌then◌else◌}
use Rattle.std.specs.List.{flat_map}
use Rattle.std.specs.Fmt.{decimal}
use Rattle.mapfile_text.specs.declared.state.Current.{Current}
use Rattle.mapfile_text.specs.declared.state.Current.TheVariants.{Copying, Trimming, Scraping, Retrying, Filling, Generating, Finished}
use Rattle.mapfile_text.specs.declared.state.MapState.{MapState}
use Rattle.mapfile_text.specs.Printed.{shown_byte}
use Rattle.crash_site.specs.declared.site.SiteCall.{SiteCall}
use Rattle.crash_site.specs.declared.site.SiteCall.TheVariants.{ImageOpen, ImageRead, ImageWrite, ImageSync, MapRead, DraftBegin, DraftAppend, DraftSync, DraftPublish, MapSettle, MapRemove}
use Rattle.block_list.specs.Areas.{count_below}
use Rattle.rescue_rules.specs.declared.report.Counts.{Counts}
use Rattle.rescue_rules.specs.declared.report.Report.{Report}
use Rattle.rescue_rules.specs.declared.tally.Tally.{Tally}
use Rattle.rescue_rules.specs.declared.stop.Stop.TheVariants.{SourceLost, Site, LimitMet, NoMemory}
use Rattle.rescue_rules.specs.declared.stop.RunEnd.{RunEnd}
use Rattle.rescue_rules.specs.declared.stop.RunEnd.TheVariants.{Done, Stopped, SaveFailed}
use Rattle.rescue_rules.specs.Setting.{Setting}
use Rattle.rescue_rules.specs.Machine.{Machine, is_live}
use Rattle.rescue_rules.specs.Step.{Event}
use Rattle.rescue_rules.specs.Moves.{Move, moves, state_after}
use Rattle.rescue_rules.specs.Counts.{counts_of}
use Rattle.rescue_rules.specs.Said.{is_line_due}

-- bytes a second
abbrev pub rate_of : (written taken : ℕ) → ℕ
rate_of written taken = if nat_eq taken 0 then 0 else written * 1000 / taken

-- The text of a line: a front, then what it tells.
abbrev pub report_text : (front : List ℕ) → Report → List ℕ
report_text front r =
    front ++ codes ": position " ++ decimal r.shown.pos
    ++ codes ", rescued " ++ decimal r.counts.rescued
    ++ codes " B, failed " ++ decimal r.counts.failed.bytes ++ codes " B in " ++ decimal r.counts.failed.areas
    ++ codes " areas, " ++ decimal r.errors
    ++ codes " read errors, " ++ decimal (r.taken / 1000)
    ++ codes " s, " ++ decimal (rate_of r.written r.taken) ++ codes " B/s" ++ 10 ∷ []

-- what is done in a phase
abbrev pub phase_text : Current → List ℕ
phase_text Copying = codes "copying"
phase_text Trimming = codes "trimming"
phase_text Scraping = codes "scraping"
phase_text Retrying = codes "retrying"
phase_text Filling = codes "filling"
phase_text Generating = codes "generating"
phase_text Finished = codes "finished"

-- what a line after an event begins with
abbrev pub phase_front : MapState → List ℕ
phase_front shown = phase_text shown.current ++ codes " pass " ++ decimal shown.pass

-- what the last line begins with
abbrev pub last_front : (done : Bool) → List ℕ
last_front done = if done then codes "finished" else codes "stopped"

-- what a line tells, by counts of a map and by what a run has come to
abbrev pub report_with : Counts → Tally → Report
report_with counts t =
    record { shown = t.shown; counts = counts; errors = t.failed; taken = t.now - t.began; written = t.written }

-- what a line tells of a state: its counts are those of what is left of the domain
abbrev pub report_of : Setting → Machine → Report
report_of s m = report_with (counts_of (is_live s m) m.map) m.tally

-- the line after a move, if one is due
abbrev pub move_lines : Setting → Move → List (List ℕ)
move_lines s v =
    if is_line_due v.before.tally.said v.after.tally.shown.current (v.after.tally.now / 1000)
    then report_text (phase_front v.after.tally.shown) (report_of s v.after) ∷ []
    else []

-- the lines after the moves of events
abbrev pub run_lines : Setting → Machine → List Event → List (List ℕ)
run_lines s m events = flat_map (move_lines s) (moves s m events)

-- the last line of a run
abbrev pub last_line : Setting → (done : Bool) → Machine → List ℕ
last_line s done m = report_text (last_front done) (report_of s m)

-- a run went on to its end, and its last calls returned
abbrev pub is_done : RunEnd → Bool
is_done Done = true
is_done (Stopped stop) = false
is_done (SaveFailed call earlier) = false

-- a call is a write to the output
abbrev pub is_image_write : SiteCall → Bool
is_image_write ImageOpen = false
is_image_write ImageRead = false
is_image_write ImageWrite = true
is_image_write ImageSync = false
is_image_write MapRead = false
is_image_write DraftBegin = false
is_image_write DraftAppend = false
is_image_write DraftSync = false
is_image_write DraftPublish = false
is_image_write MapSettle = false
is_image_write MapRemove = false

-- a run ended at a write of what was kept of its last read, which then isn't marked
abbrev pub ends_at_write : RunEnd → Bool
ends_at_write Done = false
ends_at_write (Stopped SourceLost) = false
ends_at_write (Stopped (Site call)) = is_image_write call
ends_at_write (Stopped (LimitMet limit)) = false
ends_at_write (Stopped NoMemory) = false
ends_at_write (SaveFailed call earlier) = false

-- the events that were marked, by how a run ended
abbrev pub marked_events : RunEnd → List Event → List Event
marked_events end events = if ends_at_write end then take (length events - 1) events else events

-- All lines of a run: those after the events that were marked, and the last one.
abbrev pub lines_of : Setting → Machine → List Event → RunEnd → List (List ℕ)
lines_of s m events end =
    run_lines s m (marked_events end events)
    ++ last_line s (is_done end) (state_after s m (marked_events end events)) ∷ []

-- What is put first if more is asked for: how many positions of the domain lie below the map's end, and the names of
-- the input and the output.
abbrev pub opening_lines : Setting → (top : ℕ) → List (List ℕ)
opening_lines s top =
    if s.verbose then (codes "domain of " ++ decimal (count_below s.domain top) ++ codes " B from "
    ++ map shown_byte s.infile ++ codes " to " ++ map shown_byte s.outfile ++ 10 ∷ []) ∷ []
    else []
