-- Sectors' boundaries, and the part of a run that is cut off at one.
use Rattle.std.proofs.Common.{◌≡◌, ℕ, ◌+◌, ◌-◌, ◌*◌, ◌/◌, ◌<◌, ◌≤◌, min, max, Bool, true, false, if◌then◌else◌, ap, ◌∙◌, arith, ⊎_elim}
use Rattle.std.proofs.Math.Nat.{lt-div-mul-add, div-lt_iff_lt-mul, div-mul-le_self}
use Rattle.std.proofs.lemmas.Bool.{cases_lt}
use Rattle.faulty_source.specs.Journal.{floor}
use Rattle.rescue_rules.specs.Machine.{ceiling}
use Rattle.rescue_rules.specs.Moves.{begun}

-- a position lies before the boundary below a place that is a sector or more past it
pub floor_beyond : (b p size : ℕ) → 0 < b → b ≤ size → p < floor b (p + size)
floor_beyond b p size some le = omega (arith, lt-div-mul-add {a = p + size} {b = b} some)

-- a place comes before the boundary above it
pub ceiling_above : (b x : ℕ) → 0 < b → x ≤ ceiling b x
ceiling_above b x some = omega (arith, lt-div-mul-add {a = x + (b - 1)} {b = b} some)

-- the boundary above a place comes before what is a sector or more past that place
ceiling_before : (b x end : ℕ) → 0 < b → x + b ≤ end → ceiling b x < end
ceiling_before b x end some le = omega (arith, div-mul-le_self (x + (b - 1)) b)

ceiling_none : (b : ℕ) → 0 < b → ceiling b 0 ≡ 0
ceiling_none b some =
    let few : (0 + (b - 1)) / b < 1 = (div-lt_iff_lt-mul {k = b} {x = 0 + (b - 1)} {y = 1} some).1 (omega arith) in
    let none : (0 + (b - 1)) / b ≡ 0 = omega arith in
    ap (λ n. n * b) none ∙ omega arith

-- the boundary above a place that is a sector or more before an end, or is 0, comes before that end
ceiling_back : (b size end : ℕ) → 0 < b → b ≤ size → 0 < end → ceiling b (end - size) < end
ceiling_back b size end some le begun =
    ⊎_elim
    (λ (lt : end < size).
    let is : end - size ≡ 0 = omega arith in
    omega (arith, ap (ceiling b) is ∙ ceiling_none b some))
    (λ (ge : size ≤ end). ceiling_before b (end - size) end some (omega arith))
    (cases_lt end size)

-- a part of a run, from p up to q
pub record Inside (start end p q : ℕ) : Type 0 where
  pub from : start ≤ p
  pub some : p < q
  pub to : q ≤ end

-- what is cut off lies inside its run
pub cut_inside : (front : Bool) (b size start end : ℕ) → 0 < b → b ≤ size → start < end
    → Inside start end (if front then start else max start (ceiling b (end - size))) (if front then min end (floor b (start + size)) else end)
cut_inside true b size start end some le begun =
    record { from = omega arith; some = omega (arith, floor_beyond b start size some le); to = omega arith }
cut_inside false b size start end some le begun =
    record { from = omega arith; some = omega (arith, ceiling_back b size end some le (omega arith)); to = omega arith }
