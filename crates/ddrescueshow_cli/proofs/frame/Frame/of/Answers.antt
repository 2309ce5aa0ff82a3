-- A cell isn't much longer than what is shown, and the picture is that of the options.
use Rattle.std.proofs.Common.{ℕ, ◌*◌, ap, refl, arith}
use Rattle.std.proofs.Math.Nat.{one-le-mul}
use Rattle.ddrescueshow_cli.proofs.CellLemmas.{is_frame}
use Rattle.ddrescueshow_cli.proofs.SizeLemmas.{cell_short}
use Rattle.ddrescueshow_cli.proofs.frame.Frame.of.Goals as goal

pub overflow_mul-result : goal.overflow_mul-result
overflow_mul-result c =
    let o = c.args.options.now in
    let some = one-le-mul c.requires.limits.width c.requires.limits.rows in
    let short = cell_short c.saturating_sub.result o.sector (o.width * o.rows) _ c.requires.limits.sector some refl in
    let cell = ap (λ (k : ℕ). o.sector * k) c.sectors_of-sectors.ensures in
    omega (
      arith,
      short,
      cell,
      c.saturating_sub.ensures,
      c.end_shown-to.ensures.most,
      c.requires.short,
      c.requires.limits.sector_max,
    )

pub returns-clause-is : goal.returns-clause-is
returns-clause-is c =
    let o = c.args.options.now in
    rw (c.sectors_of-sectors.ensures, c.saturating_sub.ensures, c.end_shown-to.ensures.end)
    (is_frame o c.args.end c.requires.limits c.requires.short)
