-- The two kinds of sweep, and what each takes. For contracts and proofs: no promise uses it.
use Rattle.std.specs.Prelude.{◌≡◌, ℕ, Bool, true, List}
use Rattle.block_list.specs.declared.status.Status.{Status}
use Rattle.block_list.specs.declared.status.Status.TheVariants.{NonTried}
use Rattle.block_list.specs.Status.{same}
use Rattle.block_list.specs.Types.{has_type}
use Rattle.mapfile_text.specs.declared.state.Current.{Current}
use Rattle.mapfile_text.specs.declared.state.Current.TheVariants.{Filling, Generating}
use Rattle.rescue_rules.specs.Counts.{passing}
use Rattle.sweep_rules.specs.Sweep.{Sweeper}
use Rattle.fill_generate.specs.declared.mode.SweepMode.{SweepMode}
use Rattle.fill_generate.specs.declared.mode.SweepMode.TheVariants.{Fill, Generate}

-- the statuses that are taken
abbrev pub takes_in : SweepMode → Status → Bool
takes_in (Fill types) status = has_type types status
takes_in Generate status = same NonTried status

-- what a mapfile shows during a sweep of a mode
abbrev pub current_in : SweepMode → Current
current_in (Fill types) = Filling
current_in Generate = Generating

-- the test for the positions of a domain that are taken
abbrev pub is_taken : SweepMode → (domain : ℕ → Bool) → List Status → ℕ → Bool
is_taken mode domain map x = passing (takes_in mode) domain map x

-- a position of a domain is taken
abbrev pub IsTakenIn : SweepMode → (domain : ℕ → Bool) → List Status → ℕ → Type 0
IsTakenIn mode domain map x = is_taken mode domain map x ≡ true

-- a sweeper of a mode
pub record IsSweeperOf (mode : SweepMode) (w : Sweeper) : Type 0 where
  pub takes : (status : Status) → w.takes status ≡ takes_in mode status
  pub current : w.current ≡ current_in mode
