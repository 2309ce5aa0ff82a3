-- How many saves come due in a run, by the clock alone.
use Rattle.std.specs.Prelude.{ℕ, suc, ◌+◌, nat_le, List, [], ◌∷◌, if◌then◌else◌}
use Rattle.rescue_rules.specs.Step.{Event, save_interval}

-- How many saves come due in these events: one at each that ends 30 seconds or more after the last one came due.
abbrev pub dues_by : (last : ℕ) → List Event → ℕ
dues_by last [] = 0
dues_by last (e ∷ es) = if nat_le (last + save_interval) e.after then suc (dues_by e.after es) else dues_by last es
