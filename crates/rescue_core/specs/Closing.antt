-- What the end of a run does. For contracts, laws and proofs: no promise uses it.
use Rattle.std.specs.Prelude.{◌≡◌, ⊤, false, Bool, List, [], ◌∷◌, Option, Some, None}
use Rattle.block_list.specs.declared.status.Status.{Status}
use Rattle.crash_site.specs.declared.site.SiteCall.{SiteCall}
use Rattle.crash_site.specs.Calls.{Call}
use Rattle.crash_site.specs.SiteState.{SiteState}
use Rattle.crash_site.specs.SiteChanges.{Makes, Breaks}
use Rattle.mapfile_save.specs.Saving.{IsNameIn, drafting_after_fault}
use Rattle.rescue_rules.specs.declared.stop.Stop.{Stop}
use Rattle.rescue_rules.specs.declared.stop.Stop.TheVariants.{SourceLost, Site, LimitMet, NoMemory}
use Rattle.rescue_rules.specs.declared.stop.RunEnd.{RunEnd}
use Rattle.rescue_rules.specs.declared.stop.RunEnd.TheVariants.{Stopped, SaveFailed}
use Rattle.rescue_rules.specs.declared.tally.Tally.{Tally}
use Rattle.rescue_rules.specs.Snapshots.{Snapshot, snapshot_with, finished_with}
use Rattle.rescue_rules.specs.RunCalls.{closing_calls}
use Rattle.rescue_rules.specs.Lines.{is_done, last_line}
use Rattle.rescue_rules.specs.Work.{end_of}
use Rattle.rescue_console.specs.Speaking.{SpokenPiece, out_pieces}
use Rattle.rescue_core.specs.RunState.{RunState, setting_in}

-- whether a draft is left begun after a stop
abbrev pub drafting_at_stop : Stop → Bool
drafting_at_stop SourceLost = false
drafting_at_stop (Site call) = drafting_after_fault call false
drafting_at_stop (LimitMet limit) = false
drafting_at_stop NoMemory = false

-- what is saved at the end of a run: one without a stop is finished
abbrev pub closing_with : Option Stop → List Status → Tally → Snapshot
closing_with None map t = finished_with map t
closing_with (Some stop) map t = snapshot_with map t

-- what is saved of a run's state at its end, with a stop or without one
abbrev pub closing_snapshot : Option Stop → RunState → Snapshot
closing_snapshot stop r = closing_with stop r.machine.map r.machine.tally

-- these last calls returned, or one of them failed
pub data LastCalls (calls : List Call) (stop : Option Stop) (end : RunEnd) (site site' : SiteState) : Type 0 where
  Saved : end ≡ end_of stop → Makes calls site site' → site'.is_drafting ≡ false → LastCalls calls stop end site site'
  Unsaved : (call : SiteCall) → end ≡ SaveFailed call stop → IsNameIn call calls → Breaks call calls site site'
      → site'.is_drafting ≡ drafting_after_fault call false → LastCalls calls stop end site site'

-- a run's last calls: a save, or without a mapfile an image sync
abbrev pub LastSave : Option Stop → RunState → RunEnd → (site site' : SiteState) → Type 0
LastSave stop r end site site' = LastCalls (closing_calls (setting_in r) (closing_snapshot stop r)) stop end site site'

-- At the end these calls are made, but none after a failed call on the files.
abbrev pub EndsBy : List Call → Option Stop → RunEnd → (site site' : SiteState) → Type 0
EndsBy calls None end site site' = LastCalls calls None end site site'
EndsBy calls (Some SourceLost) end site site' = LastCalls calls (Some SourceLost) end site site'
EndsBy calls (Some (Site call)) end site site' = (end ≡ Stopped (Site call)) × (site' ≡ site)
EndsBy calls (Some (LimitMet limit)) end site site' = LastCalls calls (Some (LimitMet limit)) end site site'
EndsBy calls (Some NoMemory) end site site' = LastCalls calls (Some NoMemory) end site site'

-- The end of a run saves its map, or without a mapfile syncs its output.
abbrev pub Closes : Option Stop → RunState → RunEnd → (site site' : SiteState) → Type 0
Closes stop r end site site' = EndsBy (closing_calls (setting_in r) (closing_snapshot stop r)) stop end site site'

-- a run that stopped, and why
pub record StoppedState : Type 0 where
  pub run : RunState
  pub stop : Stop

-- no draft is begun, as a run's last calls need; a run that stopped at a call on the files makes no last calls
abbrev pub MayClose : Option Stop → SiteState → Type 0
MayClose None site = site.is_drafting ≡ false
MayClose (Some SourceLost) site = site.is_drafting ≡ false
MayClose (Some (Site call)) site = ⊤
MayClose (Some (LimitMet limit)) site = site.is_drafting ≡ false
MayClose (Some NoMemory) site = site.is_drafting ≡ false

-- what is said last
abbrev pub last_pieces : RunState → RunEnd → List SpokenPiece
last_pieces r end = out_pieces (last_line (setting_in r) (is_done end) r.machine ∷ [])
