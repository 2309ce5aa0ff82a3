-- A run between two turns of copying. For contracts, laws and proofs: no promise uses it.
use Rattle.std.specs.Prelude.{◌≡◌, ℕ, ◌≤◌, true, None}
use Rattle.rescue_rules.specs.declared.stop.TrimMode.TheVariants.{Lead}
use Rattle.rescue_rules.specs.declared.phase.Phase.TheVariants.{Copying}
use Rattle.rescue_rules.specs.Setting.{Setting, IsSensible}
use Rattle.rescue_rules.specs.Passes.{copying_passes, passes_from}
use Rattle.rescue_rules.specs.Machine.{Machine, is_wanted, is_ahead, search_of}
use Rattle.rescue_rules.specs.Step.{limit_met}
use Rattle.rescue_core.specs.RunState.{RunState, setting_in}

-- each position that a pass asks for lies ahead of its cursor
pub record LeavesNone (s : Setting) (m : Machine) : Type 0 where
  pub ahead : (x : ℕ) → is_wanted s m x ≡ true → is_ahead (search_of s m) x ≡ true

-- A run that may go on with copying: it has met no limit, and is in one of copying's passes, wherever its cursor and
-- whatever its skip. In the last pass each position that it asks for lies ahead of its cursor.
pub record MayCopy (r : RunState) : Type 0 where
  pub sensible : IsSensible (setting_in r)
  pub within : limit_met (setting_in r) r.machine ≡ None
  pub phase : r.phase ≡ Copying
  pub few : r.pass ≤ copying_passes
  pub passes : r.machine.passes ≡ passes_from (setting_in r) Copying r.pass
  pub lead : r.machine.progress.mode ≡ Lead
  pub last : r.pass ≡ copying_passes → LeavesNone (setting_in r) r.machine
