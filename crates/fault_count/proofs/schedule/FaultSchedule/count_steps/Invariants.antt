use Rattle.std.proofs.Common.{◌≡◌, ℕ, ◌<◌, slice_index_or}
use Rattle.fault_count.specs.Counts.{raised}
use Rattle.fault_count.proofs.schedule.FaultSchedule.count_steps.Given as goal

-- none of the calls so far is the next one
abbrev pub invariant-loop-number : goal.invariant-loop-number
invariant-loop-number l = (k : ℕ) (d : ℕ × ℕ) → k < l.number-index
    → (slice_index_or l.fn.self.failing k d).0 ≡ raised l.fn.self.made → ⊥
