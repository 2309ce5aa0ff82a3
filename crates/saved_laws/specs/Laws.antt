-- The headline's second half, and more: what was read, kept and saved is called finished, and no more is called bad
-- than was asked for in vain.
use Rattle.std.specs.Prelude.{◌≡◌, ◌≢◌, ◌⊎◌, ℕ, ◌+◌, ◌*◌, ◌<◌, ◌≤◌, IsTrue, true, false, List, [], ◌∷◌, ◌++◌, length, take, map, All, Option, Some}
use Rattle.block_list.specs.declared.status.Status.{Status}
use Rattle.block_list.specs.declared.status.Status.TheVariants.{NonTried, BadSector}
use Rattle.fault_count.specs.Counts.{raised}
use Rattle.faulty_source.specs.Journal.{Reading, kept}
use Rattle.crash_site.specs.declared.site.SiteCall.{SiteCall}
use Rattle.crash_site.specs.Files.{File}
use Rattle.crash_site.specs.Calls.{Call, Entry, Done, Failed, image_sync, map_settle}
use Rattle.crash_site.specs.CallsMade.{call_name}
use Rattle.crash_site.specs.Left.{MayBeLeft}
use Rattle.rescue_rules.specs.declared.stop.Stop.{Stop}
use Rattle.rescue_rules.specs.declared.stop.RunEnd.{RunEnd}
use Rattle.rescue_rules.specs.Counts.{has_failed}
use Rattle.rescue_rules.specs.Events.{began_at, events_of, reads_of}
use Rattle.rescue_rules.specs.Preparation.{tried_again, if_asked}
use Rattle.rescue_rules.specs.Step.{Event, save_interval}
use Rattle.rescue_rules.specs.Stops.{Before, files_before, has_barrier, is_write, returned, LeftBy}
use Rattle.rescue_rules.specs.Work.{lost_reads}
use Rattle.task_files.specs.declared.ending.Ending.TheVariants.{SiteFault}
use Rattle.task_files.specs.Work.{answer_of}
use Rattle.ddrescue_cli.specs.Told.{calls_before}
use Rattle.rescue_safety.specs.Saves.{CallsFinished}
use Rattle.rescue_safety.specs.Safe.{Target, by_then, gives}
use Rattle.rescue_safety.specs.Holds.{HoldsGiven}
use Rattle.rescue_safety.specs.Rescue.{Rescue, run_of}
use Rattle.rescue_safety.specs.AskedFor.{AreSeen}
use Rattle.rescue_safety.specs.Runs.{resting, Link, IsChain}
use Rattle.saved_laws.specs.Dues.{dues_by}
use Rattle.saved_laws.specs.Failed.{Marks, MarksTried, FailedAt, may_have_read}

-- What reads gave whose bytes had begun to be written before an image sync that returned, every stop finds finished
-- once a later settle has returned. (A save begins with such a sync and ends with such a settle.)
abbrev pub NothingSavedIsLost : Type 0
NothingSavedIsLost = (r : Rescue) (reads : List Reading) (k : ℕ) (files : List ℕ → Option File)
    (before saving after : List Entry) (name : List ℕ) (x byte : ℕ) → AreSeen r reads
    → k ≤ length r.did.call.calls → LeftBy (run_of r reads).past r.did.call.calls k files
    → take k r.did.call.calls ≡ before ++ Done image_sync ∷ (saving ++ Done (map_settle name) ∷ after)
    → gives (by_then (run_of r reads) (length before)) x ≡ Some byte → CallsFinished (files r.mapfile) x

-- If the answer of a rescue names no failed call on the files, each stop after its end finds finished all that reads
-- gave, and the output holds it. (By its promise, such a rescue is done, or was ended by a limit, by the loss of its
-- input, or by lack of memory. Or it was refused, and read nothing.)
abbrev pub FinishedAtEnd : Type 0
FinishedAtEnd = (r : Rescue) (reads : List Reading) (files : List ℕ → Option File) (x byte : ℕ) → AreSeen r reads
    → ((call : SiteCall) (earlier : Option Stop) → r.did.call.told.answer ≢ SiteFault call earlier)
    → LeftBy (run_of r reads).past r.did.call.calls (length r.did.call.calls) files
    → gives (run_of r reads) x ≡ Some byte
    → CallsFinished (files r.mapfile) x × HoldsGiven (run_of r reads) files x

-- If the answer of a rescue names no failed call on the files, each stop after its end finds tried all that reads asked
-- for in vain.
abbrev pub TriedAtEnd : Type 0
TriedAtEnd = (r : Rescue) (reads : List Reading) (files : List ℕ → Option File) (x : ℕ) → AreSeen r reads
    → ((call : SiteCall) (earlier : Option Stop) → r.did.call.told.answer ≢ SiteFault call earlier)
    → LeftBy (run_of r reads).past r.did.call.calls (length r.did.call.calls) files
    → FailedAt (run_of r reads) x → MarksTried (files r.mapfile) x

-- Once a late read has ended and a later one has begun to be written, every stop finds finished what the old reads
-- gave, and tried what they asked for in vain. By the clock's readings, which may go back, the late read ended 30
-- seconds or more after the run's first one, and after the end of each old one.
abbrev pub LossIsBounded : Type 0
LossIsBounded = (r : Rescue) (reads : List Reading) (k : ℕ) (files : List ℕ → Option File) (times : List ℕ)
    (old between more : List Event) (late later : Event) (x : ℕ) → AreSeen r reads → IsTrue r.did.call.told.after.clock.tells
    → r.did.call.told.after.clock.readings ≡ r.did.call.told.before.clock.readings ++ times
    → k ≤ length r.did.call.calls → LeftBy (run_of r reads).past r.did.call.calls k files
    → events_of (by_then (run_of r reads) k).reads times ≡ old ++ (between ++ late ∷ later ∷ more)
    → All (λ t. t + save_interval ≤ late.after) (began_at times ∷ map (λ e. e.after) old)
    → ((byte : ℕ) → gives (run_of r (reads_of old)) x ≡ Some byte → CallsFinished (files r.mapfile) x)
    × (FailedAt (run_of r (reads_of old)) x → MarksTried (files r.mapfile) x)

-- What the first reads gave, every stop finds finished once more saves have returned than came due in these reads; and
-- what they asked for in vain, it finds tried.
abbrev pub ReturnedSavesKeep : Type 0
ReturnedSavesKeep = (r : Rescue) (reads : List Reading) (k : ℕ) (files : List ℕ → Option File) (times : List ℕ)
    (first more : List Event) (x : ℕ) → AreSeen r reads → IsTrue r.did.call.told.after.clock.tells
    → r.did.call.told.after.clock.readings ≡ r.did.call.told.before.clock.readings ++ times
    → k ≤ length r.did.call.calls → LeftBy (run_of r reads).past r.did.call.calls k files
    → events_of reads times ≡ first ++ more
    → dues_by (began_at times) first < returned (take k r.did.call.calls)
    → ((byte : ℕ) → gives (run_of r (reads_of first)) x ≡ Some byte → CallsFinished (files r.mapfile) x)
    × (FailedAt (run_of r (reads_of first)) x → MarksTried (files r.mapfile) x)

-- What a mapfile found marks as bad, the one from before marked as bad, or a read asked for it in vain that may have
-- been made by then. Of what that read asked for, all was kept but a sector at most.
abbrev pub BadWasAsked : Type 0
BadWasAsked = (r : Rescue) (reads : List Reading) (k : ℕ) (files : List ℕ → Option File) (x : ℕ) → AreSeen r reads
    → k ≤ length r.did.call.calls → LeftBy (run_of r reads).past r.did.call.calls k files
    → has_barrier (take k r.did.call.calls) ≡ true → Marks (files r.mapfile) BadSector x
    → Marks (files_before (run_of r reads).past r.mapfile) BadSector x
    ⊎ ((f : FailedAt (may_have_read (run_of r reads) k) x)
    × (f.read.asked ≤ kept r.command.options.sector f.read + r.command.options.sector))

-- What a mapfile found marks as failed (left to trim or to scrape, or bad), the one from before marked as failed, or a
-- read asked for it in vain that may have been made by then.
abbrev pub FailedWasAsked : Type 0
FailedWasAsked = (r : Rescue) (reads : List Reading) (k : ℕ) (files : List ℕ → Option File) (status : Status) (x : ℕ)
    → AreSeen r reads → k ≤ length r.did.call.calls
    → LeftBy (run_of r reads).past r.did.call.calls k files → has_barrier (take k r.did.call.calls) ≡ true
    → has_failed status ≡ true → Marks (files r.mapfile) status x
    → ((was : Status) × (has_failed was ≡ true) × Marks (files_before (run_of r reads).past r.mapfile) was x)
    ⊎ FailedAt (may_have_read (run_of r reads) k) x

-- What a read asked for in vain, if it or a later read had begun to be written before an image sync that returned,
-- every stop finds tried once a later settle has returned.
abbrev pub FailedIsKept : Type 0
FailedIsKept = (r : Rescue) (reads : List Reading) (k : ℕ) (files : List ℕ → Option File)
    (before saving after : List Entry) (name : List ℕ) (x : ℕ) → AreSeen r reads
    → k ≤ length r.did.call.calls → LeftBy (run_of r reads).past r.did.call.calls k files
    → take k r.did.call.calls ≡ before ++ Done image_sync ∷ (saving ++ Done (map_settle name) ∷ after)
    → FailedAt (by_then (run_of r reads) (length before)) x → MarksTried (files r.mapfile) x

-- What the mapfile from before marks as tried, every stop past the barrier finds tried, unless it was asked to be tried
-- again.
abbrev pub TriedIsKept : Type 0
TriedIsKept = (r : Rescue) (k : ℕ) (files : List ℕ → Option File) (status : Status) (x : ℕ)
    → k ≤ length r.did.call.calls → LeftBy (run_of r r.did.reads).past r.did.call.calls k files
    → has_barrier (take k r.did.call.calls) ≡ true
    → if_asked r.command.options.try_again tried_again status ≢ NonTried
    → Marks (files_before (run_of r r.did.reads).past r.mapfile) status x → MarksTried (files r.mapfile) x

-- What a stop past the barrier finds finished, each stop finds finished once one more save has returned.
abbrev pub SavesOnlyGrow : Type 0
SavesOnlyGrow = (r : Rescue) (k l : ℕ) (files later : List ℕ → Option File) (x : ℕ)
    → k ≤ length r.did.call.calls → LeftBy (run_of r r.did.reads).past r.did.call.calls k files
    → l ≤ length r.did.call.calls → LeftBy (run_of r r.did.reads).past r.did.call.calls l later
    → has_barrier (take k r.did.call.calls) ≡ true
    → returned (take k r.did.call.calls) < returned (take l r.did.call.calls)
    → CallsFinished (files r.mapfile) x → CallsFinished (later r.mapfile) x

-- What a run of a chain gave before a save that returned, each stop after the chain finds finished. The outfile isn't
-- the mapfile.
abbrev pub ChainKeepsSaved : Type 0
ChainKeepsSaved = (t : Target) (found : List ℕ → Option File) (l : Link t) (links : List (Link t)) (to : Before)
    (before saving after : List Entry) (name : List ℕ) (x byte : ℕ)
    → t.outfile ≢ t.mapfile → IsChain (calls_before l.rescue.did.call.told) (l ∷ links) to
    → MayBeLeft to.start to.earlier (length to.earlier) found
    → take l.moment l.rescue.did.call.calls ≡ before ++ Done image_sync ∷ (saving ++ Done (map_settle name) ∷ after)
    → gives (by_then (run_of l.rescue l.reads) (length before)) x ≡ Some byte → CallsFinished (found t.mapfile) x

-- What a run of a chain asked for in vain before a save that returned, each stop after the chain finds tried, unless a
-- later run was asked to try it again. The outfile isn't the mapfile.
abbrev pub ChainKeepsFailed : Type 0
ChainKeepsFailed = (t : Target) (found : List ℕ → Option File) (l : Link t) (links : List (Link t)) (to : Before)
    (before saving after : List Entry) (name : List ℕ) (x : ℕ)
    → t.outfile ≢ t.mapfile → IsChain (calls_before l.rescue.did.call.told) (l ∷ links) to
    → MayBeLeft to.start to.earlier (length to.earlier) found
    → take l.moment l.rescue.did.call.calls ≡ before ++ Done image_sync ∷ (saving ++ Done (map_settle name) ∷ after)
    → All (λ later. later.rescue.command.options.try_again ≡ false) links
    → FailedAt (by_then (run_of l.rescue l.reads) (length before)) x → MarksTried (found t.mapfile) x

-- What the first mapfile of a chain calls finished, each stop after the chain finds finished; and what it marks as
-- tried, each finds tried, unless a run was asked to try it again. Before the first run all files were durable, and the
-- outfile isn't the mapfile.
abbrev pub ChainKeepsOld : Type 0
ChainKeepsOld = (t : Target) (files found : List ℕ → Option File) (links : List (Link t)) (to : Before) (x : ℕ)
    → t.outfile ≢ t.mapfile → IsChain (resting files) links to
    → MayBeLeft to.start to.earlier (length to.earlier) found
    → (CallsFinished (files t.mapfile) x → CallsFinished (found t.mapfile) x)
    × (All (λ l. l.rescue.command.options.try_again ≡ false) links → MarksTried (files t.mapfile) x
    → MarksTried (found t.mapfile) x)

-- If a read follows the first ones, at least as many saves return as came due in these, whatever they kept. So none is
-- put off until a later read, for it might fail then.
abbrev pub DueSavesReturn : Type 0
DueSavesReturn = (r : Rescue) (reads : List Reading) (times : List ℕ) (first more : List Event) (next : Event)
    → AreSeen r reads → IsTrue r.did.call.told.after.clock.tells
    → r.did.call.told.after.clock.readings ≡ r.did.call.told.before.clock.readings ++ times
    → events_of reads times ≡ first ++ next ∷ more
    → dues_by (began_at times) first ≤ returned r.did.call.calls

-- Once a read after the first ones has begun to be written, at least as many saves have returned as came due in these.
abbrev pub DueSavesHaveReturned : Type 0
DueSavesHaveReturned = (r : Rescue) (reads : List Reading) (k : ℕ) (times : List ℕ) (first more : List Event)
    (next : Event)
    → AreSeen r reads → IsTrue r.did.call.told.after.clock.tells
    → r.did.call.told.after.clock.readings ≡ r.did.call.told.before.clock.readings ++ times
    → events_of (by_then (run_of r reads) k).reads times ≡ first ++ next ∷ more
    → dues_by (began_at times) first ≤ returned (take k r.did.call.calls)

-- Once a save came due after the old reads and a later read has begun to be written, every stop finds finished what the
-- old ones gave, and tried what they asked for in vain. The 30 seconds of `LossIsBounded` are one case of it.
abbrev pub LossIsBoundedByDues : Type 0
LossIsBoundedByDues = (r : Rescue) (reads : List Reading) (k : ℕ) (files : List ℕ → Option File) (times : List ℕ)
    (old between more : List Event) (later : Event) (x : ℕ)
    → AreSeen r reads → IsTrue r.did.call.told.after.clock.tells
    → r.did.call.told.after.clock.readings ≡ r.did.call.told.before.clock.readings ++ times
    → k ≤ length r.did.call.calls → LeftBy (run_of r reads).past r.did.call.calls k files
    → events_of (by_then (run_of r reads) k).reads times ≡ old ++ (between ++ later ∷ more)
    → dues_by (began_at times) old < dues_by (began_at times) (old ++ between)
    → ((byte : ℕ) → gives (run_of r (reads_of old)) x ≡ Some byte → CallsFinished (files r.mapfile) x)
    × (FailedAt (run_of r (reads_of old)) x → MarksTried (files r.mapfile) x)

-- A failed call is a rescue's last. Of the reads after those that had begun to be written by then nothing was kept, and
-- if the call is a write, there are none.
abbrev pub ReadsWait : Type 0
ReadsWait = (r : Rescue) (reads : List Reading) (before : List Entry) (call : Call) (steps : ℕ) (after : List Entry)
    → AreSeen r reads → r.did.call.calls ≡ before ++ Failed call steps ∷ after
    → (after ≡ []) × ((rest : List Reading) × (reads ≡ (by_then (run_of r reads) (length before)).reads ++ rest)
    × All (λ read. kept r.command.options.sector read ≡ 0) rest × (is_write (Failed call steps) ≡ true → rest ≡ []))

-- A rescue whose barrier never returned has read nothing.
abbrev pub ReadsComeAfterTheBarrier : Type 0
ReadsComeAfterTheBarrier = (r : Rescue) (reads : List Reading) → AreSeen r reads → has_barrier r.did.call.calls ≡ false
    → reads ≡ []

-- If a call on the files is listed as failed, the answer names one of its kind. So if the answer names none, as
-- `FinishedAtEnd` asks, none is listed as failed. (The other way it doesn't hold: a call that found no memory may be
-- named, and isn't listed.)
abbrev pub FailedCallIsAnswered : Type 0
FailedCallIsAnswered = (r : Rescue) (before : List Entry) (call : Call) (steps : ℕ) (after : List Entry)
    → r.did.call.calls ≡ before ++ Failed call steps ∷ after
    → (earlier : Option Stop) × (r.did.call.told.answer ≡ SiteFault (call_name call) earlier)

-- An answer names a failed call only if the site counts one more than before, listed or not; a count at the end of its
-- type stays there. So if the count doesn't rise, the answer names none, as `FinishedAtEnd` asks.
abbrev pub AnsweredCallIsCounted : Type 0
AnsweredCallIsCounted = (r : Rescue) (call : SiteCall) (earlier : Option Stop)
    → r.did.call.told.answer ≡ SiteFault call earlier
    → r.did.call.told.after.site.faults ≡ raised r.did.call.told.before.site.faults

-- A rescue whose clock tells has read it once, twice more for each read that was answered, and once more if the answer
-- says that the input was lost, also before a last save that failed. Or it has read neither the clock nor the input.
abbrev pub EachReadIsTimed : Type 0
EachReadIsTimed = (r : Rescue) (reads : List Reading) (times : List ℕ) → AreSeen r reads
    → IsTrue r.did.call.told.after.clock.tells
    → r.did.call.told.after.clock.readings ≡ r.did.call.told.before.clock.readings ++ times
    → ((reads ≡ []) × (times ≡ []))
    ⊎ ((end : RunEnd) × (r.did.call.told.answer ≡ answer_of end)
    × (length times ≡ 1 + 2 * length reads + lost_reads end))

-- So no read is left out of the events that the laws by the clock speak of.
abbrev pub EachReadIsAnEvent : Type 0
EachReadIsAnEvent = (r : Rescue) (reads : List Reading) (times : List ℕ) → AreSeen r reads
    → IsTrue r.did.call.told.after.clock.tells
    → r.did.call.told.after.clock.readings ≡ r.did.call.told.before.clock.readings ++ times
    → reads_of (events_of reads times) ≡ reads
