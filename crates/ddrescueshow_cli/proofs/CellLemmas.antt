-- The cells of a picture tile it, and are the least.
use Rattle.std.proofs.Common.{◌≡◌, ℕ, suc, ◌+◌, ◌-◌, ◌*◌, ◌/◌, ◌^◌, ◌<◌, ◌≤◌, Option, Some, None, refl, ⊎_elim, arith}
use Rattle.std.specs.Int.{div_ceil}
use Rattle.std.proofs.lemmas.Bool.{cases_lt}
use Rattle.std.proofs.lemmas.Grind.{div_ceil_times}
use Rattle.std.proofs.Math.Nat.{div-mul-le_self, lt-div-mul-add, mul-le-mul_right, one-le-mul}
use Rattle.ddrescueshow_words.specs.Command.{AreInLimits}
use Rattle.ddrescueshow_words.specs.declared.options.ShowOptions.{ShowOptions}
use Rattle.ddrescueshow_cli.specs.declared.frame.Frame.{Frame}
use Rattle.ddrescueshow_cli.specs.Cells.{IsFrame, cells_in, end_shown, frame_of, rows_in, sectors_of}
use Rattle.ddrescueshow_cli.specs.Laws.{AllCellsTile, CellsAreLeast, IsInCell}

-- a number of whole parts that isn't less than what is needed holds all
holds_all : (a b k : ℕ) → 0 < b → div_ceil a b ≤ k → a ≤ k * b
holds_all a b k some enough =
    let t = div_ceil_times a b some in
    let m : div_ceil a b * b ≤ k * b = mul-le-mul_right b enough in
    omega (arith, t.0, m)

-- and one that holds all isn't less
needed_at_most : (a b k : ℕ) → 0 < b → a ≤ k * b → div_ceil a b ≤ k
needed_at_most a b k some all = ⊎_elim
    (λ (more : k < div_ceil a b).
    let t = div_ceil_times a b some in
    let m : suc k * b ≤ div_ceil a b * b = mul-le-mul_right b (omega (arith, more)) in
    let e : suc k * b ≡ b + k * b = omega arith in
    absurd (omega (arith, t.1, m, e, all)))
    (λ (few : div_ceil a b ≤ k). few)
    (cases_lt k (div_ceil a b))

-- two parts of which one begins before the other ends are in order
in_order : (k o b x : ℕ) → k * b ≤ x → x < o * b + b → k ≤ o
in_order k o b x begins ends = ⊎_elim
    (λ (more : o < k).
    let m : suc o * b ≤ k * b = mul-le-mul_right b (omega (arith, more)) in
    let e : suc o * b ≡ b + o * b = omega arith in
    absurd (omega (arith, m, e, begins, ends)))
    (λ (few : k ≤ o). few)
    (cases_lt o k)

module _ (f : Frame) (is : IsFrame f) where
  others : (x k o : ℕ) → f.from ≤ x → k * f.cell ≤ x - f.from → x - f.from < k * f.cell + f.cell → IsInCell f x o → o ≡ k
  others x k o after begins ends (begun, before) =
      let to_k : o ≤ k = in_order o k f.cell (x - f.from) (omega (arith, begun)) ends in
      let to_o : k ≤ o = in_order k o f.cell (x - f.from) begins (omega (arith, before)) in
      omega (arith, to_k, to_o)

  within_one : (x : ℕ) → f.from ≤ x → x < f.to
      → (k : ℕ) × (k < cells_in f) × IsInCell f x k × ((o : ℕ) → IsInCell f x o → o ≡ k)
  within_one x after before =
      let k : ℕ = (x - f.from) / f.cell in
      let begins : k * f.cell ≤ x - f.from = div-mul-le_self (x - f.from) f.cell in
      let ends : x - f.from < k * f.cell + f.cell = lt-div-mul-add is.cell in
      let few : k < cells_in f = ⊎_elim
      (λ (more : k < cells_in f). more)
      (λ (none : cells_in f ≤ k).
      absurd (omega (arith, holds_all (f.to - f.from) f.cell k is.cell none, begins, after, before)))
      (cases_lt k (cells_in f)) in
      (k, few, (omega (arith, begins, after), omega (arith, ends, after, before)), λ o. others x k o after begins ends)

pub cells_tile : AllCellsTile
cells_tile f is = record {
  one = within_one f is;
  none = λ x k inside. (omega (arith, inside.0), omega (arith, inside.1));
}

pub cells_least : CellsAreLeast
cells_least o end limits =
    let span : ℕ = end_shown o.input_position o.size end - o.input_position in
    let cells : ℕ = o.width * o.rows in
    let some : 0 < cells = one-le-mul limits.width limits.rows in
    let unit : 0 < o.sector * cells = one-le-mul limits.sector some in
    let n : ℕ = sectors_of span o.sector cells in
    let one : 0 < n = omega arith in
    let cell : 0 < o.sector * n = one-le-mul limits.sector one in
    let enough : div_ceil span (o.sector * cells) ≤ n = omega arith in
    let all : span ≤ n * (o.sector * cells) = holds_all span (o.sector * cells) n unit enough in
    let turned : n * (o.sector * cells) ≡ cells * (o.sector * n) = omega arith in
    record {
      sectors = n;
      some = one;
      whole = refl;
      fits = needed_at_most span (o.sector * n) cells cell (omega (arith, all, turned));
      least = λ fewer few holds.
          let swapped : o.sector * fewer * cells ≡ fewer * (o.sector * cells) = omega arith in
          let needed : div_ceil span (o.sector * cells) ≤ fewer
          = needed_at_most span (o.sector * cells) fewer unit (omega (arith, holds, swapped)) in
          omega (arith, needed, few);
    }

-- so the rows are no more than asked for, and the picture is one
pub rows_fit : (o : ShowOptions) (end : ℕ) → AreInLimits o → rows_in (frame_of o end) ≤ o.rows
rows_fit o end limits =
    let turned : o.rows * o.width ≡ o.width * o.rows = omega arith in
    needed_at_most (cells_in (frame_of o end)) o.width o.rows limits.width
    (omega (arith, (cells_least o end limits).fits, turned))

shown_below : (from : ℕ) (size : Option ℕ) (end : ℕ) → end_shown from size end ≤ end
shown_below from None end = omega arith
shown_below from (Some n) end = omega arith

pub is_frame : (o : ShowOptions) (end : ℕ) → AreInLimits o → end < 2 ^ 63 → IsFrame (frame_of o end)
is_frame o end limits short = record {
  cell = one-le-mul limits.sector (omega arith);
  width = limits.width;
  wide = limits.width_max;
  high = omega (arith, rows_fit o end limits, limits.rows_max);
  short = omega (arith, shown_below o.input_position o.size end, short);
}
