-- The digits after the zeros.
use Rattle.std.proofs.Common.{◌≡◌, ◌-◌, ◌++◌, take, drop, arith, ap, ◌∙◌, length-append}
use Rattle.std.specs.Fmt.{decimal}
use Rattle.mapfile_text.proofs.DigitLemmas.{slice_from, decimal_digits, length_decimal}
use Rattle.mapfile_text.proofs.made_lines.append_decimal.Goals as goal

pub append-requires : goal.append-requires
append-requires c =
    let d = c.write_digits-begin in
    let e : take (64 - d.result) (drop d.result d.new.out) ≡ decimal c.args.n =
    slice_from d.new.out d.result d.array_long ∙ d.ensures.digits ∙ decimal_digits c.args.n in
    rw e (omega (arith, length_decimal c.args.n c.ranges.n.fits))

pub returns-clause-text : goal.returns-clause-text
returns-clause-text c =
    let d = c.write_digits-begin in
    let e : take (64 - d.result) (drop d.result d.new.out) ≡ decimal c.args.n =
    slice_from d.new.out d.result d.array_long ∙ d.ensures.digits ∙ decimal_digits c.args.n in
    c.append.ensures ∙ ap (λ t. c.args.line.now.items ++ t) e

pub returns-clause-len : goal.returns-clause-len
returns-clause-len c =
    let d = c.write_digits-begin in
    let e : take (64 - d.result) (drop d.result d.new.out) ≡ decimal c.args.n =
    slice_from d.new.out d.result d.array_long ∙ d.ensures.digits ∙ decimal_digits c.args.n in
    rw (c.append.ensures, e, length-append) (omega (arith, length_decimal c.args.n c.ranges.n.fits))
