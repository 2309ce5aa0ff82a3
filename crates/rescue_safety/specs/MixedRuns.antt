-- Many runs on one output and one mapfile, some of which make a map of what the output holds (`-G`).
use Rattle.std.specs.Prelude.{◌≡◌, ◌≢◌, ℕ, ◌+◌, ◌-◌, ◌≤◌, List, [], ◌∷◌, ◌++◌, length, take, drop, All, Some, if◌then◌else◌}
use Rattle.std.specs.List.{flat_map, enumerate_from}
use Rattle.faulty_source.specs.Journal.{Reading}
use Rattle.crash_site.specs.Files.{bytes_of}
use Rattle.crash_site.specs.Calls.{Entry, Done, image_read}
use Rattle.crash_site.specs.Left.{NothingLost}
use Rattle.rescue_rules.specs.Stops.{Before, files_before, lost_before, has_barrier}
use Rattle.ddrescue_words.specs.Command.{Command, Generate}
use Rattle.ddrescue_words.specs.Asking.{AskTask}
use Rattle.ddrescue_cli.specs.Told.{calls_before}
use Rattle.rescue_safety.specs.Safe.{Target, by_then}
use Rattle.rescue_safety.specs.Owed.{pairs_of}
use Rattle.rescue_safety.specs.Rescue.{Invocation, Rescue, target_of, run_of}
use Rattle.rescue_safety.specs.AskedFor.{AreSeen}
use Rattle.rescue_safety.specs.Runs.{NextBegins}

-- ---- one run

-- One run of a mixed chain: where it begins and where the next one does, and what it gave, as pairs of a position and a
-- byte.
pub record MixedLink : Type 0 where
  pub before : Before
  pub next : Before
  pub gave : List (ℕ × ℕ)

-- A run of a mixed chain has the target's files and offset. When it ended, `moment` calls had returned.
pub record IsStep (t : Target) (l : MixedLink) (i : Invocation) (c : Command) : Type 0 where
  pub outfile : c.outfile ≡ t.outfile
  pub mapfile : c.mapfile ≡ Some t.mapfile
  pub places : (target_of c t.mapfile).from + t.to ≡ t.from + (target_of c t.mapfile).to
  pub moment : ℕ
  pub within : moment ≤ length i.calls
  pub before : l.before ≡ calls_before i.told
  pub next : NextBegins t.outfile l.before i.calls moment l.next

-- these pairs, if the barrier has returned among these calls; nothing is read before
abbrev pub after_barrier : List Entry → List (ℕ × ℕ) → List (ℕ × ℕ)
after_barrier calls pairs = if has_barrier calls then pairs else []

-- A rescue on the target, which gave what it had read by the time it ended.
pub record IsRescue (t : Target) (l : MixedLink) : Type 0 where
  pub rescue : Rescue
  pub reads : List Reading
  pub are_seen : AreSeen rescue reads
  pub step : IsStep t l rescue.did.call rescue.command
  pub gave : l.gave ≡ after_barrier (take step.moment rescue.did.call.calls)
      (pairs_of rescue.command.options.sector (by_then (run_of rescue reads) step.moment).reads)

-- what these calls read of an output with these bytes, as pairs of a position and its byte
abbrev pub looked_at : Target → (image : List ℕ) → List Entry → List (ℕ × ℕ)
looked_at t image [] = []
looked_at t image (Done (image_read place asked (Some n)) ∷ es) =
    enumerate_from (place + t.from - t.to) (take n (drop place image)) ++ looked_at t image es
looked_at t image (e ∷ es) = looked_at t image es

-- A generating on the target, which marks what the output holds: it gave what it had read there by the time it ended.
-- Nothing of the output was lost when it began.
pub record IsGenerating (t : Target) (l : MixedLink) : Type 0 where
  pub call : Invocation
  pub command : Command
  pub asks : AskTask call.told.words (Generate command)
  pub step : IsStep t l call command
  pub none_lost : NothingLost (files_before l.before t.outfile) (lost_before l.before t.outfile)
  pub gave : l.gave ≡ after_barrier (take step.moment call.calls)
      (looked_at t (bytes_of (files_before l.before t.outfile)) (take (step.moment + 1) call.calls))

-- a run of a mixed chain is a rescue or a generating on the target
pub data IsLink (t : Target) (l : MixedLink) : Type 0 where
  OfRescue : IsRescue t l → IsLink t l
  OfGenerating : IsGenerating t l → IsLink t l

-- ---- a chain of them

-- each link begins where the one before it leads, the first at one moment, and the last leads to another
abbrev pub AreLinked : (from : Before) → List MixedLink → (to : Before) → Type 0
AreLinked from [] to = to ≡ from
AreLinked from (l ∷ ls) to = (l.before ≡ from) × AreLinked l.next ls to

-- A mixed chain of rescues and generatings on one target, whose outfile isn't its mapfile. Each begins where the one
-- before it leads.
pub record IsMixedChain (t : Target) (from : Before) (links : List MixedLink) (to : Before) : Type 0 where
  pub apart : t.outfile ≢ t.mapfile
  pub each : All (IsLink t) links
  pub joined : AreLinked from links to

-- what all runs of a mixed chain gave, in order
abbrev pub all_given : List MixedLink → List (ℕ × ℕ)
all_given links = flat_map (λ l. l.gave) links
