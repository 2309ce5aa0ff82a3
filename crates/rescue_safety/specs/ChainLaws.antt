-- What the headlines follow from, and wrong runs that break what is owed.
use Rattle.std.specs.Prelude.{◌≡◌, ◌↔◌, ℕ, Bool, true, List, [], ◌∷◌, ◌++◌, take, All, slice_get, Option, Some}
use Rattle.block_list.specs.declared.status.Status.{Status}
use Rattle.block_list.specs.declared.status.Status.TheVariants.{Finished}
use Rattle.block_list.specs.Map.{Has}
use Rattle.mapfile_text.specs.declared.state.MapState.{MapState}
use Rattle.faulty_source.specs.Journal.{Reading}
use Rattle.crash_site.specs.Files.{File}
use Rattle.crash_site.specs.Calls.{Entry}
use Rattle.crash_site.specs.Folder.{Folder}
use Rattle.crash_site.specs.Left.{NothingLost}
use Rattle.rescue_rules.specs.Given.{given}
use Rattle.rescue_rules.specs.Start.{Stands}
use Rattle.rescue_rules.specs.Stops.{Before, files_before, lost_before, has_barrier, LeftBy}
use Rattle.rescue_safety.specs.Saves.{CallsFinished}
use Rattle.rescue_safety.specs.Safe.{Target}
use Rattle.rescue_safety.specs.Owed.{last_given, pairs_of}
use Rattle.rescue_safety.specs.OwedFiles.{IsOwedIn, IsOwedAt}
use Rattle.rescue_safety.specs.Runs.{Link, NextBegins, all_give}
use Rattle.rescue_safety.specs.MixedRuns.{MixedLink, IsRescue, IsMixedChain, all_given}
use Rattle.rescue_safety.specs.Early.{IsTooEarly, IsRetried, IsUnwrittenMap}

-- If all is owed at each stop before a mixed chain, it is after it, with what its runs gave.
abbrev pub ChainOwes : Type 0
ChainOwes = (t : Target) (from to : Before) (links : List MixedLink) (gave : List (ℕ × ℕ)) (old : ℕ → Bool)
    → IsMixedChain t from links to → IsOwedAt t gave old from → IsOwedAt t (gave ++ all_given links) old to

-- If all is owed as the files read, and nothing of the output is lost, a rescue whose barrier has returned makes it owed
-- at each stop.
abbrev pub BarrierMakesSure : Type 0
BarrierMakesSure = (t : Target) (l : MixedLink) (gave : List (ℕ × ℕ)) (old : ℕ → Bool) (r : IsRescue t l)
    → IsMixedChain t l.before (l ∷ []) l.next → has_barrier (take r.step.moment r.rescue.did.call.calls) ≡ true
    → NothingLost (files_before l.before t.outfile) (lost_before l.before t.outfile)
    → IsOwedIn t gave old (files_before l.before) → IsOwedAt t (gave ++ l.gave) old l.next

-- What reads gave a position is what the last of their pairs gives it.
abbrev pub GivenIsLast : Type 0
GivenIsLast =
    (sector : ℕ) (reads : List Reading) (x : ℕ) → last_given (pairs_of sector reads) x ≡ given sector reads x

-- A mapfile calls finished what each map finishes that it stands for, whatever the input's length.
abbrev pub FinishesAlike : Type 0
FinishesAlike = (mapfile : Option File) (end : ℕ) (map : List Status) (state : Option MapState) (x : ℕ)
    → Stands mapfile end map state → CallsFinished mapfile x ↔ Has map Finished x

-- If all runs of a chain had the same input, what they gave a position last is its byte.
abbrev pub ChainIsTheInputs : Type 0
ChainIsTheInputs = (t : Target) (input : List ℕ) (links : List (Link t)) (x byte : ℕ)
    → All (λ l. l.rescue.did.call.told.before.source.bytes ≡ input) links → all_give links x ≡ Some byte
    → slice_get input x ≡ Some byte

-- What the next run of a chain finds, a stop may leave, even if the process was killed within a call.
abbrev pub NextMayBeLeft : Type 0
NextMayBeLeft = (outfile : List ℕ) (from next : Before) (calls : List Entry) (k : ℕ)
    → NextBegins outfile from calls k next → LeftBy from calls k (files_before next)

-- ---- wrong runs

-- A map that is published before the image is synced isn't owed.
abbrev pub EarlyMapIsNotOwed : Type 0
EarlyMapIsNotOwed = (t : Target) × (start : Folder) × (r : Reading) × IsTooEarly t start r

-- A map that is published after a sync that failed and was tried again isn't owed.
abbrev pub RetriedSyncIsNotOwed : Type 0
RetriedSyncIsNotOwed = (t : Target) × (start : Folder) × (r : Reading) × IsRetried t start r

-- A map that claims a place that was never written isn't owed.
abbrev pub UnwrittenMapIsNotOwed : Type 0
UnwrittenMapIsNotOwed = (t : Target) × (start : Folder) × (r : Reading) × IsUnwrittenMap t start r
