-- What a sweep does on its files, what it says, and how it ends.
use Rattle.std.specs.Prelude.{◌≡◌, ℕ, ◌-◌, ◌/◌, Bool, true, List, [], ◌∷◌, ◌++◌, map, Option, Some, None, is_none, if◌then◌else◌}
use Rattle.std.specs.List.{flat_map}
use Rattle.block_list.specs.declared.status.Status.{Status}
use Rattle.mapfile_text.specs.declared.state.MapState.{MapState}
use Rattle.crash_site.specs.declared.site.SiteCall.{SiteCall}
use Rattle.crash_site.specs.Calls.{Call, Entry, Done, image_open}
use Rattle.crash_site.specs.CallsMade.{BrokeAt, call_name, unanswered}
use Rattle.mapfile_save.specs.Loading.{barrier_calls}
use Rattle.rescue_rules.specs.declared.stop.Stop.{Stop}
use Rattle.rescue_rules.specs.declared.stop.Stop.TheVariants.{SourceLost, Site, LimitMet, NoMemory}
use Rattle.rescue_rules.specs.declared.stop.RunEnd.{RunEnd}
use Rattle.rescue_rules.specs.declared.stop.RunEnd.TheVariants.{Stopped, SaveFailed}
use Rattle.rescue_rules.specs.declared.report.Report.{Report}
use Rattle.rescue_rules.specs.Setting.{Setting}
use Rattle.rescue_rules.specs.Counts.{counts_of}
use Rattle.rescue_rules.specs.Said.{is_line_due}
use Rattle.rescue_rules.specs.Lines.{report_text, report_with, phase_front, last_front, is_done}
use Rattle.rescue_rules.specs.RunCalls.{closing_calls}
use Rattle.rescue_rules.specs.Events.{began_at}
use Rattle.rescue_rules.specs.Work.{Gain, end_of}
use Rattle.rescue_rules.specs.Deeds.{save_of, deed_calls, doing_calls}
use Rattle.sweep_rules.specs.Sweep.{Sweeper, Sweep, Swept, sweep_over, IsPiece, IsSweep, IsSweptOut, after_piece, after_pieces, due_save, sweep_end, deeds_of}

-- why a sweep ended: no piece is left; or memory ran out before one, if it takes any
abbrev pub SweepEndsBy : Option Stop → Setting → Sweeper → Sweep → Type 0
SweepEndsBy None s w m = IsSweptOut s w m
SweepEndsBy (Some SourceLost) s w m = ⊥
SweepEndsBy (Some (Site call)) s w m = ⊥
SweepEndsBy (Some (LimitMet limit)) s w m = ⊥
SweepEndsBy (Some NoMemory) s w m = (w.starves ≡ true) × ((p : ℕ) × (q : ℕ) × IsPiece s w m p q)

-- the calls of a sweep's pieces, and of the saves between them
abbrev pub sweep_calls : Setting → Sweeper → Sweep → List Swept → List Call
sweep_calls s w m es = flat_map (deed_calls s) (deeds_of w m es)

-- a piece's call if it failed
abbrev pub lost_call : Sweeper → (p q : ℕ) → Call
lost_call w p q = unanswered (w.call (record { pos = p; len = q - p; got = []; after = 0 }))

-- The calls of a sweep by these pieces, by how it ended.
pub data SweepEnds (s : Setting) (w : Sweeper) (m : Sweep) (es : List Swept) (calls : List Entry) (end : RunEnd)
    : Type 0 where
  -- the sweep ended, and its last calls returned
  IsSaved : (stop : Option Stop) → SweepEndsBy stop s w (after_pieces w m es) → end ≡ end_of stop
      → calls ≡ map Done (doing_calls s (deeds_of w m es) (sweep_end (is_none stop) (after_pieces w m es)))
      → SweepEnds s w m es calls end
  -- the sweep ended, and one of its last calls failed
  IsUnsaved : (stop : Option Stop) (call : SiteCall) → SweepEndsBy stop s w (after_pieces w m es)
      → end ≡ SaveFailed call stop
      → BrokeAt call (closing_calls s (sweep_end (is_none stop) (after_pieces w m es)))
      (map Done (sweep_calls s w m es)) calls
      → SweepEnds s w m es calls end
  -- the call of the next piece failed, which isn't one that was done
  IsCut : (p q : ℕ) → IsPiece s w (after_pieces w m es) p q → end ≡ Stopped (Site (call_name (lost_call w p q)))
      → BrokeAt (call_name (lost_call w p q)) (lost_call w p q ∷ []) (map Done (sweep_calls s w m es)) calls
      → SweepEnds s w m es calls end
  -- a call of the save that was due after the last piece failed
  IsBroken : (before : List Swept) (last : Swept) (call : SiteCall) → es ≡ before ++ last ∷ []
      → end ≡ Stopped (Site call)
      → BrokeAt call (save_of s (due_save w (after_pieces w m before) last))
      (map Done (sweep_calls s w m before ++ w.call last ∷ [])) calls
      → SweepEnds s w m es calls end

-- what a line tells of a sweep
abbrev pub sweep_report : Setting → Sweep → Report
sweep_report s m = report_with (counts_of s.domain m.map) m.tally

-- the line after a piece, if one is due
abbrev pub piece_lines : Setting → Sweeper → Sweep → Swept → List (List ℕ)
piece_lines s w m e =
    if is_line_due m.tally.said w.current (e.after / 1000)
    then report_text (phase_front (after_piece w m e).tally.shown) (sweep_report s (after_piece w m e)) ∷ []
    else []

-- the lines after pieces, in order
abbrev pub pieces_lines : Setting → Sweeper → Sweep → List Swept → List (List ℕ)
pieces_lines s w m [] = []
pieces_lines s w m (e ∷ es) = piece_lines s w m e ++ pieces_lines s w (after_piece w m e) es

-- all lines of a sweep: those after pieces, and the last one
abbrev pub sweep_lines : Setting → Sweeper → Sweep → List Swept → RunEnd → List (List ℕ)
sweep_lines s w m es end =
    pieces_lines s w m es ++ report_text (last_front (is_done end)) (sweep_report s (after_pieces w m es)) ∷ []

-- a sweep over a map, by the readings of the clock
abbrev pub sweep_begins : Sweeper → List Status → Option MapState → Gain → Sweep
sweep_begins w statuses state g = sweep_over w statuses state (began_at g.times)

-- A whole sweep: the clock is read once at its start and once after each piece, and the input not at all.
pub record Sweeps (s : Setting) (w : Sweeper) (statuses : List Status) (state : Option MapState) (g : Gain)
    (end : RunEnd) : Type 0 where
  pub events : List Swept
  pub times : g.times ≡ began_at g.times ∷ map (λ e. e.after) events
  pub reads : g.reads ≡ []
  pub run : IsSweep s w (sweep_begins w statuses state g) events
  pub ends : SweepEnds s w (sweep_begins w statuses state g) events g.calls end

-- the calls before the mapfile is read: the output is opened, made or not if it is absent, and the barrier makes
-- durable what is there
abbrev pub sweep_opening : Setting → (makes : Bool) → List Call
sweep_opening s makes = image_open s.outfile makes ∷ (if s.has_mapfile then barrier_calls s.names else [])
