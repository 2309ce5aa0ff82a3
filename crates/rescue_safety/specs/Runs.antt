-- Many rescues on one output and one mapfile, each of which resumes from what the one before it left.
use Rattle.std.specs.Prelude.{◌≡◌, ◌⊎◌, false, ℕ, ◌+◌, ◌≤◌, List, [], ◌∷◌, ◌++◌, length, map, take, drop, All, Option, None}
use Rattle.faulty_source.specs.Journal.{Reading}
use Rattle.crash_site.specs.Files.{File}
use Rattle.crash_site.specs.Calls.{Call, Entry, Done, Failed, image_open, image_write, image_sync, draft_append}
use Rattle.crash_site.specs.Left.{in_progress}
use Rattle.rescue_rules.specs.Given.{last_of_both}
use Rattle.rescue_rules.specs.Stops.{Before, LeftBy}
use Rattle.ddrescue_cli.specs.Told.{calls_before}
use Rattle.rescue_safety.specs.Safe.{Target, by_then, gives}
use Rattle.rescue_safety.specs.Rescue.{Rescue, target_of, run_of}
use Rattle.rescue_safety.specs.AskedFor.{AreSeen}

-- these files, all durable, before any call
abbrev pub resting : (List ℕ → Option File) → Before
resting files = record { start = record { files = files; image = None; draft = None }; earlier = [] }

-- ---- where the next run begins

-- What was done of the call in which the process was killed. It was nothing, or the call counts as failed, after any of
-- its steps. Or any parts of a write were done, in any order, or an append put any bytes into the draft.
pub data LeavesPart (next : List Entry) (part : List Entry) : Type 0 where
  Nothing : part ≡ [] → LeavesPart next part
  Failing : (call : Call) (listed steps : ℕ) → in_progress next ≡ Failed call listed ∷ []
      → part ≡ Failed call steps ∷ [] → LeavesPart next part
  Writing : (pos : ℕ) (piece : List ℕ) (steps : ℕ) (parts : List (ℕ × ℕ))
      → in_progress next ≡ Failed (image_write pos piece) steps ∷ [] → All (λ p. p.0 + p.1 ≤ length piece) parts
      → part ≡ map (λ p. Done (image_write (pos + p.0) (take p.1 (drop p.0 piece)))) parts → LeavesPart next part
  Appending : (piece torn : List ℕ) (steps : ℕ) → in_progress next ≡ Failed (draft_append piece) steps ∷ []
      → part ≡ Done (draft_append torn) ∷ [] → LeavesPart next part

-- Where the next run begins, when the first k of these calls have returned and the next may be in progress. The machine
-- was stopped, and what it left is durable now. Or the process alone ended, and its files go on as they are, but what
-- wasn't durable of the output may have failed to be written, in silence.
pub data NextBegins (outfile : List ℕ) (from : Before) (calls : List Entry) (k : ℕ) (next : Before) : Type 0 where
  Stopped : (files : List ℕ → Option File) → LeftBy from calls k files → next ≡ resting files
      → NextBegins outfile from calls k next
  Ended : (part silent : List Entry) → LeavesPart (drop k calls) part
      → (silent ≡ []) ⊎ (silent ≡ Done (image_open outfile false) ∷ Failed image_sync 0 ∷ [])
      → next ≡ record { start = from.start; earlier = from.earlier ++ (take k calls ++ (part ++ silent)) }
      → NextBegins outfile from calls k next

-- ---- one run

-- A run of a chain: a rescue with the target's files and offset. When it ended, `moment` calls had returned.
pub record Link (t : Target) : Type 0 where
  pub rescue : Rescue
  pub reads : List Reading
  pub are_seen : AreSeen rescue reads
  pub outfile : rescue.command.outfile ≡ t.outfile
  pub mapfile : rescue.mapfile ≡ t.mapfile
  pub places : (target_of rescue.command t.mapfile).from + t.to ≡ t.from + (target_of rescue.command t.mapfile).to
  pub moment : ℕ
  pub within : moment ≤ length rescue.did.call.calls
  pub next : Before
  pub begins : NextBegins t.outfile (calls_before rescue.did.call.told) rescue.did.call.calls moment next

-- ---- a chain of them

-- a chain of rescues: each begins where the one before it leads, the first at one moment, and the last leads to another
abbrev pub IsChain : {t : Target} → (from : Before) → List (Link t) → (to : Before) → Type 0
IsChain from [] to = to ≡ from
IsChain from (l ∷ ls) to = (calls_before l.rescue.did.call.told ≡ from) × IsChain l.next ls to

-- the byte that the runs of a chain gave the position x last, by what each had read when it ended
abbrev pub all_give : {t : Target} → List (Link t) → (x : ℕ) → Option ℕ
all_give [] x = None
all_give (l ∷ ls) x = last_of_both (all_give ls x) (gives (by_then (run_of l.rescue l.reads) l.moment) x)
