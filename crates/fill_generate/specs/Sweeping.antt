-- What a sweep does, by what its objects tell. For contracts and proofs: no promise uses it.
use Rattle.std.specs.Prelude.{◌≡◌, ◌≢◌, ℕ, Bool, true, false, IsTrue, List, [], ◌∷◌, ◌++◌, map, Option, Some, is_none}
use Rattle.fault_count.specs.Counts.{Rose}
use Rattle.faulty_source.specs.declared.source.Source.{Ghosts as SourceGhosts}
use Rattle.crash_site.specs.declared.site.SiteCall.{SiteCall}
use Rattle.crash_site.specs.Files.{bytes_of}
use Rattle.crash_site.specs.Calls.{Call, Entry, Done}
use Rattle.crash_site.specs.CallsMade.{BrokeAt, call_name}
use Rattle.crash_site.specs.Folder.{after}
use Rattle.crash_site.specs.SiteState.{SiteState, image_in}
use Rattle.crash_site.specs.SiteChanges.{Makes}
use Rattle.mapfile_save.specs.MapNames.{MapNames}
use Rattle.mapfile_save.specs.Saving.{IsNameIn, drafting_after_fault}
use Rattle.rescue_console.specs.ClockState.{ClockState, Reads as ReadsClock}
use Rattle.rescue_console.specs.ConsoleState.{ConsoleState}
use Rattle.rescue_console.specs.Speaking.{SpeaksOn, out_pieces}
use Rattle.rescue_rules.specs.declared.stop.Stop.{Stop}
use Rattle.rescue_rules.specs.declared.stop.Stop.TheVariants.{Site, NoMemory}
use Rattle.rescue_rules.specs.declared.stop.RunEnd.{RunEnd}
use Rattle.rescue_rules.specs.declared.stop.RunEnd.TheVariants.{Done as Finished, Stopped, SaveFailed}
use Rattle.rescue_rules.specs.Across.{Across, across, no_source}
use Rattle.rescue_rules.specs.Setting.{Setting}
use Rattle.rescue_rules.specs.RunCalls.{closing_calls}
use Rattle.rescue_rules.specs.Laws.{AreTimes}
use Rattle.rescue_rules.specs.Work.{end_of}
use Rattle.rescue_rules.specs.Deeds.{save_of, doing_calls}
use Rattle.rescue_core.specs.Closing.{drafting_at_stop}
use Rattle.sweep_rules.specs.Sweep.{Sweeper, Sweep, Swept, IsPiece, IsSweep, after_pieces, due_save, sweep_end, deeds_of}
use Rattle.sweep_rules.specs.SweepLaws.{AreGiven}
use Rattle.sweep_rules.specs.SweepWork.{SweepEndsBy, SweepEnds, sweep_calls, sweep_lines, lost_call}

-- the input of a sweep, which is handed none
abbrev pub no_input : {S : Type 0} → SourceGhosts S
no_input = record { state = λ s. no_source }

-- the record of the files, the clock and the console, before something was done and after it
abbrev pub around : SiteState → SiteState → ClockState → ClockState → ConsoleState → ConsoleState → Across
around = across no_source no_source

-- after these calls, which all returned, one of others failed, which has this name
pub record BreaksAfter (at : SiteCall) (made calls : List Call) (old new : SiteState) : Type 0 where
  pub named : IsNameIn at calls
  pub broke : IsTrue old.tells → BrokeAt at calls (old.calls ++ map Done made) new.calls
  pub rose : Rose old.faults new.faults

-- whether a draft is left begun after a sweep that ended so
abbrev pub drafting_after : RunEnd → Bool
drafting_after Finished = false
drafting_after (Stopped stop) = drafting_at_stop stop
drafting_after (SaveFailed call earlier) = drafting_after_fault call false

-- the readings of the clock after pieces
abbrev pub times_after : List Swept → List ℕ
times_after es = map (λ e. e.after) es

-- the open output is neither the mapfile nor its draft
abbrev pub IsApart : MapNames → SiteState → Type 0
IsApart names site = (name : List ℕ) → (after site.start site.calls).image ≡ Some name
    → (name ≢ names.map) × (name ≢ names.draft)

-- A sweep from a state by a setting:
module _ (s : Setting) (w : Sweeper) (m : Sweep) where
  -- The end of a sweep by these pieces, by its calls:
  pub data EndsSweep (es : List Swept) (end : RunEnd) (site site' : SiteState) : Type 0 where
    -- the sweep ended, and its last calls returned
    Saved : (stop : Option Stop) → SweepEndsBy stop s w (after_pieces w m es) → end ≡ end_of stop
        → Makes (doing_calls s (deeds_of w m es) (sweep_end (is_none stop) (after_pieces w m es))) site site'
        → EndsSweep es end site site'
    -- the sweep ended, and one of its last calls failed
    Unsaved : (stop : Option Stop) (call : SiteCall) → SweepEndsBy stop s w (after_pieces w m es)
        → end ≡ SaveFailed call stop
        → BreaksAfter call (sweep_calls s w m es)
        (closing_calls s (sweep_end (is_none stop) (after_pieces w m es))) site site'
        → EndsSweep es end site site'
    -- the call of the next piece failed, which isn't one that was done
    Cut : (p q : ℕ) → IsPiece s w (after_pieces w m es) p q → end ≡ Stopped (Site (call_name (lost_call w p q)))
        → BreaksAfter (call_name (lost_call w p q)) (sweep_calls s w m es) (lost_call w p q ∷ []) site site'
        → EndsSweep es end site site'
    -- a call of the save that was due after the last piece failed
    Broken : (before : List Swept) (last : Swept) (call : SiteCall) → es ≡ before ++ last ∷ []
        → end ≡ Stopped (Site call) → BreaksAfter call (sweep_calls s w m before ++ w.call last ∷ [])
        (save_of s (due_save w (after_pieces w m before) last)) site site'
        → EndsSweep es end site site'

  -- The calls of pieces after which a sweep stopped: for lack of memory, at the call of the next one, or at the save
  -- that was due after the last one.
  pub data SweepStopsAt (es : List Swept) (stop : Stop) (site site' : SiteState) : Type 0 where
    IsStarved : stop ≡ NoMemory → w.starves ≡ true → (p q : ℕ) → IsPiece s w (after_pieces w m es) p q
        → Makes (sweep_calls s w m es) site site' → SweepStopsAt es stop site site'
    IsCut : (p q : ℕ) → IsPiece s w (after_pieces w m es) p q → stop ≡ Site (call_name (lost_call w p q))
        → BreaksAfter (call_name (lost_call w p q)) (sweep_calls s w m es) (lost_call w p q ∷ []) site site'
        → SweepStopsAt es stop site site'
    IsBroken : (before : List Swept) (last : Swept) (call : SiteCall) → es ≡ before ++ last ∷ [] → stop ≡ Site call
        → BreaksAfter call (sweep_calls s w m before ++ w.call last ∷ [])
        (save_of s (due_save w (after_pieces w m before) last)) site site'
        → SweepStopsAt es stop site site'

  -- A sweep from a state, by its pieces: the clock is read after each, and its lines are put.
  pub record SweepTold (heard heard' : Bool) (end : RunEnd) (o : Across) : Type 0 where
    pub events : List Swept
    pub run : IsSweep s w m events
    pub timed : ReadsClock (times_after events) o.clock o.clock'
    pub fit : AreTimes (times_after events)
    pub ends : EndsSweep events end o.site o.site'
    pub says : SpeaksOn (out_pieces (sweep_lines s w m events end)) heard heard' o.console o.console'

  -- A sweep that looks up pieces in the output, which gave what it held when the sweep began: if the site tells, and
  -- the output isn't overwritten by the saves.
  pub record LookupTold (heard heard' : Bool) (end : RunEnd) (o : Across) : Type 0 where
    pub sweeps : SweepTold heard heard' end o
    pub given : IsTrue o.site.tells → IsApart s.names o.site → AreGiven s (bytes_of (image_in o.site)) sweeps.events

-- law: if the site tells, its record goes on with the calls of a sweep that ended
abbrev pub EndsAreTold : Type 0
EndsAreTold = (s : Setting) (w : Sweeper) (m : Sweep) (es : List Swept) (end : RunEnd) (site site' : SiteState)
    → EndsSweep s w m es end site site' → IsTrue site.tells
    → (calls : List Entry) × (site'.calls ≡ site.calls ++ calls) × SweepEnds s w m es calls end
