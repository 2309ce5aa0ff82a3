-- A number is at most that of a position's block where its first place lies in front of the position's.
use Rattle.std.proofs.Common.{ℕ, ◌+◌, ◌-◌, ◌*◌, ◌/◌, ◌≤◌, le_trans, arith}
use Rattle.std.proofs.lemmas.Nat.{le-div}
use Rattle.std.proofs.Math.Nat.{div-mul-le_self, mul-le-mul_right}
use Rattle.map_algebra.proofs.listing.first_of.Goals as goal

pub returns : goal.returns
returns c = λ x short past placed.
    let s = c.args.shape in
    let n = c.args.number in
    let p : ℕ = x - s.ipos + s.opos in
    let product = c.saturating_mul.ensures in
    let less = c.saturating_sub.ensures in
    let more = c.saturating_add.ensures in (
      λ h.
          let low : n * s.size ≤ p =
          le_trans (mul-le-mul_right {m = n} {n = p / s.size} s.size h) (div-mul-le_self p s.size) in
          omega (arith, low, placed, past, product, less, more),
      λ h.
          let low : n * s.size ≤ p =
          omega (arith, h, short, placed, past, product, less, more) in
          le-div n p s.size c.requires low,
    )
