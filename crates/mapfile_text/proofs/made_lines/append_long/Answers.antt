-- At least eight of the digits and the zeros in front of them.
use Rattle.std.proofs.Common.{◌≡◌, ◌-◌, ◌++◌, [], ◌∷◌, length, take, drop, true, arith, ap, ◌∙◌, length-append}
use Rattle.std.specs.Fmt.{digits}
use Rattle.mapfile_text.specs.Printed.{at_least_eight}
use Rattle.mapfile_text.proofs.Appended.{joined}
use Rattle.mapfile_text.proofs.DigitLemmas.{slice_from, padded_after, length_hexadecimal}
use Rattle.mapfile_text.proofs.made_lines.append_long.Goals as goal

pub append-requires-2 : goal.append-requires-2
append-requires-2 c =
    let d = c.write_digits in
    let e : take (64 - c.min-begin.result) (drop c.min-begin.result d.new.out) ≡ at_least_eight (digits 16 true c.args.n) =
    slice_from d.new.out c.min-begin.result d.array_long
    ∙ ap (λ k. drop k d.new.out) c.min-begin.ensures
    ∙ padded_after d.new.out d.result d.array_long d.ensures.within d.ensures.zeros
    ∙ ap at_least_eight d.ensures.digits in
    let m = ap length c.append.ensures ∙ length-append c.args.line.now.items (48 ∷ 120 ∷ []) in
    omega (arith, ap length e, length_hexadecimal c.args.n c.ranges.n.fits)

pub returns-clause-text : goal.returns-clause-text
returns-clause-text c =
    let d = c.write_digits in
    let e : take (64 - c.min-begin.result) (drop c.min-begin.result d.new.out) ≡ at_least_eight (digits 16 true c.args.n) =
    slice_from d.new.out c.min-begin.result d.array_long
    ∙ ap (λ k. drop k d.new.out) c.min-begin.ensures
    ∙ padded_after d.new.out d.result d.array_long d.ensures.within d.ensures.zeros
    ∙ ap at_least_eight d.ensures.digits in
    joined (48 ∷ 120 ∷ []) (at_least_eight (digits 16 true c.args.n)) c.args.line.now.items c.append.new.line.items c.append-2.new.line.items
    c.append.ensures (c.append-2.ensures ∙ ap (λ t. c.append.new.line.items ++ t) e)

pub returns-clause-len : goal.returns-clause-len
returns-clause-len c =
    let e = ap length (returns-clause-text c) ∙ length-append c.args.line.now.items (48 ∷ 120 ∷ at_least_eight (digits 16 true c.args.n)) in
    omega (arith, e, length_hexadecimal c.args.n c.ranges.n.fits)
