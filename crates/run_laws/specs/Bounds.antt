-- How often a run asks for a position. For contracts, laws and proofs: no promise uses it.
use Rattle.std.specs.Prelude.{◌≡◌, ℕ, Bool, true, false, List, slice_get, Some}
use Rattle.block_list.specs.declared.status.Status.TheVariants.{Finished}
use Rattle.block_list.specs.Map.{Has}
use Rattle.rescue_rules.specs.declared.phase.Phase.{Phase}
use Rattle.rescue_rules.specs.declared.phase.Phase.TheVariants.{Copying, Trimming, Scraping, Retrying}
use Rattle.rescue_rules.specs.Setting.{Setting}
use Rattle.rescue_rules.specs.Passes.{numbered}
use Rattle.rescue_rules.specs.Machine.{Machine, pass_of}
use Rattle.rescue_rules.specs.MachineLaws.{AsksFor}
use Rattle.rescue_rules.specs.Step.{Event, is_copying}
use Rattle.rescue_rules.specs.Moves.{Move, moves}

-- the move with a number asks for a position
pub record MoveAsks (ms : List Move) (i x : ℕ) (v : Move) : Type 0 where
  pub is : slice_get ms i ≡ Some v
  pub asks : AsksFor v.event.reading x

-- a phase finds out what of a non-trimmed run can be read: trimming and scraping
abbrev pub narrows : Phase → Bool
narrows Copying = false
narrows Trimming = true
narrows Scraping = true
narrows Retrying = false

-- the phase of a machine is trimming or scraping
abbrev pub is_narrowing : Machine → Bool
is_narrowing m = narrows (pass_of m).phase

-- How often events ask for a position: once at most in copying, once at most in trimming and scraping together, and
-- once at most in each pass of retrying; and never for one that is finished.
pub record AskFew (s : Setting) (m : Machine) (events : List Event) : Type 0 where
  pub copying : (i j x : ℕ) (v w : Move) → MoveAsks (moves s m events) i x v → MoveAsks (moves s m events) j x w
      → is_copying v.before ≡ true → is_copying w.before ≡ true → i ≡ j
  pub narrowing : (i j x : ℕ) (v w : Move) → MoveAsks (moves s m events) i x v → MoveAsks (moves s m events) j x w
      → is_narrowing v.before ≡ true → is_narrowing w.before ≡ true → i ≡ j
  pub retrying : (i j x n : ℕ) (v w : Move) → MoveAsks (moves s m events) i x v → MoveAsks (moves s m events) j x w
      → pass_of v.before ≡ numbered Retrying n → pass_of w.before ≡ numbered Retrying n → i ≡ j
  pub unfinished : (i x : ℕ) (v : Move) → MoveAsks (moves s m events) i x v → Has v.before.map Finished x → ⊥
