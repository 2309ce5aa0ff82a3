-- The readings of a schedule.
use Rattle.std.proofs.Common.{◌≡◌, ℕ, ◌+◌, List, [], ◌∷◌, ◌++◌, map, ap, ◌∙◌, arith}
use Rattle.std.specs.List.{range_with_len}
use Rattle.std.proofs.lemmas.List.FromFn.{map-range_with_len_more}
use Rattle.rescue_console.specs.ClockState.{reading_at}

-- the first readings of a schedule
abbrev pub first_readings : List ℕ → ℕ → List ℕ
first_readings schedule n = map (reading_at schedule) (range_with_len 0 n)

pub first_readings-more : (schedule : List ℕ) (n m : ℕ) → m ≡ n + 1
    → first_readings schedule m ≡ first_readings schedule n ++ reading_at schedule n ∷ []
first_readings-more schedule n m next =
    ap (first_readings schedule) next ∙ map-range_with_len_more (reading_at schedule) 0 n n (omega arith)
