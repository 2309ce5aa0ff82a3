-- Which calls the headlines speak of, what they read, and what they leave.
use Rattle.std.specs.Prelude.{◌≡◌, ℕ, ◌<◌, ◌≤◌, true, IsTrue, List, [], ◌∷◌, ◌++◌, length, take, All, slice_get, Option, Some}
use Rattle.block_list.specs.declared.status.Status.{Status}
use Rattle.mapfile_text.specs.declared.state.MapState.{MapState}
use Rattle.faulty_source.specs.Journal.{Reading}
use Rattle.crash_site.specs.Files.{File, bytes_of}
use Rattle.rescue_rules.specs.MachineLaws.{AsksFor}
use Rattle.rescue_rules.specs.Start.{Stands}
use Rattle.crash_site.specs.Left.{IsLoose}
use Rattle.rescue_rules.specs.Stops.{lost_before, has_barrier, LeftBy}
use Rattle.ddrescue_words.specs.Command.{Command}
use Rattle.ddrescue_words.specs.Asking.{Asks}
use Rattle.ddrescue_cli.specs.Told.{Told}
use Rattle.ddrescue_cli.specs.Ddrescue.{Ddrescue}
use Rattle.rescue_safety.specs.Saves.{CallsFinished}
use Rattle.rescue_safety.specs.Safe.{HasPlace, by_then, gives, bytes_at_first}
use Rattle.rescue_safety.specs.Rescue.{Rescue, target_of, run_of, files_at_first}
use Rattle.rescue_safety.specs.AskedFor.{AreSeen, IsAskedFor}
use Rattle.rescue_safety.specs.Written.{written_in, kept_in}

-- There is a `Rescue` for each call that keeps the promise of `ddrescue`, whose objects tell and whose words ask for
-- a rescue with a mapfile.
abbrev pub EachIsTold : Type 0
EachIsTold = (t : Told) (c : Command) (mapfile : List ℕ) → Ddrescue t → Asks t.words c → c.mapfile ≡ Some mapfile
    → IsTrue t.before.site.tells → IsTrue t.before.source.tells → (r : Rescue) × (r.did.call.told ≡ t) × (r.command ≡ c)

-- The reads of a rescue give a byte only to positions that are asked for.
abbrev pub GivesWhatIsAskedFor : Type 0
GivesWhatIsAskedFor = (r : Rescue) (reads : List Reading) (x b : ℕ) → AreSeen r reads
    → gives (run_of r reads) x ≡ Some b → IsAskedFor r x

-- The writes of a rescue are of what its reads kept, at their places, each once and in order. The writes
-- of the last reads may be missing.
abbrev pub WritesAreOfReads : Type 0
WritesAreOfReads = (r : Rescue) (reads : List Reading) → AreSeen r reads → (rest : List (ℕ × List ℕ))
    × (kept_in (target_of r.command r.mapfile) r.command.options.sector reads ≡ written_in r.did.call.calls ++ rest)

-- Of the reads after those that had begun to be written by a stop past the barrier, none asks for a position that the
-- mapfile found calls finished.
abbrev pub NoneIsReadAgain : Type 0
NoneIsReadAgain = (r : Rescue) (reads : List Reading) (k : ℕ) (files : List ℕ → Option File) (x : ℕ) → AreSeen r reads
    → k ≤ length r.did.call.calls → LeftBy (run_of r reads).past r.did.call.calls k files
    → has_barrier (take k r.did.call.calls) ≡ true → CallsFinished (files r.mapfile) x
    → (rest : List Reading) × (reads ≡ (by_then (run_of r reads) k).reads ++ rest)
    × All (λ read. AsksFor read x → ⊥) rest

-- No read asks for a position that an earlier read of the rescue gave a byte. (What isn't kept of a read doesn't count
-- as given.)
abbrev pub NothingIsReadTwice : Type 0
NothingIsReadTwice = (r : Rescue) (reads before : List Reading) (later : Reading) (after : List Reading) (x byte : ℕ)
    → AreSeen r reads → reads ≡ before ++ later ∷ after → gives (run_of r before) x ≡ Some byte
    → AsksFor later x → ⊥

-- If a run could begin from the mapfile that was there, it can from the one that a stop past the barrier finds.
abbrev pub StaysResumable : Type 0
StaysResumable = (r : Rescue) (k : ℕ) (files : List ℕ → Option File) (end : ℕ) (map : List Status)
    (state : Option MapState) → k ≤ length r.did.call.calls → LeftBy (run_of r []).past r.did.call.calls k files
    → has_barrier (take k r.did.call.calls) ≡ true → Stands (files_at_first r r.mapfile) end map state
    → (found : List Status) × (shown : Option MapState) × Stands (files r.mapfile) end found shown

-- Past the barrier, the output's old byte is in a place whose position isn't asked for, unless that place was lost
-- before.
abbrev pub LeavesTheRest : Type 0
LeavesTheRest = (r : Rescue) (k : ℕ) (files : List ℕ → Option File) (y : ℕ) → k ≤ length r.did.call.calls
    → LeftBy (run_of r []).past r.did.call.calls k files → has_barrier (take k r.did.call.calls) ≡ true
    → y < length (bytes_at_first (run_of r []))
    → (IsLoose (lost_before (run_of r []).past r.command.outfile) y → ⊥)
    → ((x : ℕ) → HasPlace (target_of r.command r.mapfile) x y → IsAskedFor r x → ⊥)
    → slice_get (bytes_of (files r.command.outfile)) y ≡ slice_get (bytes_at_first (run_of r [])) y
