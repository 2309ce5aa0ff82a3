-- What holds of many runs if some of them make a map of the output (`-G`): as much as of rescues alone.
use Rattle.std.specs.Prelude.{◌≡◌, ◌≢◌, ◌⊎◌, ℕ, true, List, ◌∷◌, length, take, All, Option}
use Rattle.crash_site.specs.Files.{File, bytes_of}
use Rattle.crash_site.specs.Left.{MayBeLeft}
use Rattle.rescue_rules.specs.Stops.{Before, has_barrier}
use Rattle.rescue_safety.specs.Saves.{CallsFinished}
use Rattle.rescue_safety.specs.Safe.{Target}
use Rattle.rescue_safety.specs.Holds.{StillHolds}
use Rattle.rescue_safety.specs.Owed.{last_given, HoldsLast}
use Rattle.rescue_safety.specs.Runs.{resting, Link, IsChain, all_give}
use Rattle.rescue_safety.specs.MixedRuns.{MixedLink, IsRescue, IsMixedChain, all_given}

-- `ManyRunsHold` of a mixed chain: what a generating read of the output counts as given.
abbrev pub MixedRunsHold : Type 0
MixedRunsHold = (t : Target) (files found : List ℕ → Option File) (links : List MixedLink) (to : Before) (x : ℕ)
    → IsMixedChain t (resting files) links to → MayBeLeft to.start to.earlier (length to.earlier) found
    → CallsFinished (found t.mapfile) x
    → StillHolds t (resting files) found x ⊎ HoldsLast t (last_given (all_given links)) (bytes_of (found t.outfile)) x

-- `ManyRunsHoldAnywhere` of a mixed chain that begins with a rescue.
abbrev pub MixedRunsHoldAnywhere : Type 0
MixedRunsHoldAnywhere = (t : Target) (found : List ℕ → Option File) (l : MixedLink) (links : List MixedLink)
    (to : Before) (x : ℕ) (r : IsRescue t l) → has_barrier (take r.step.moment r.rescue.did.call.calls) ≡ true
    → IsMixedChain t l.before (l ∷ links) to → MayBeLeft to.start to.earlier (length to.earlier) found
    → CallsFinished (found t.mapfile) x → StillHolds t l.before found x
    ⊎ HoldsLast t (last_given (all_given (l ∷ links))) (bytes_of (found t.outfile)) x

-- A chain is a mixed chain whose runs are all rescues, and which gave each position the same byte last.
abbrev pub ChainIsMixed : Type 0
ChainIsMixed = (t : Target) (from to : Before) (rescues : List (Link t))
    → t.outfile ≢ t.mapfile → IsChain from rescues to
    → (links : List MixedLink) × IsMixedChain t from links to × All (IsRescue t) links
    × ((x : ℕ) → last_given (all_given links) x ≡ all_give rescues x)

-- And each such mixed chain is a chain.
abbrev pub MixedIsChain : Type 0
MixedIsChain = (t : Target) (from to : Before) (links : List MixedLink)
    → IsMixedChain t from links to → All (IsRescue t) links
    → (rescues : List (Link t)) × IsChain from rescues to
    × ((x : ℕ) → last_given (all_given links) x ≡ all_give rescues x)
