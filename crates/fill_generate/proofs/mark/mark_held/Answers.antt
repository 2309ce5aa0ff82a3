use Rattle.std.proofs.Common.{◌≡◌, true, false, arith}
use Rattle.std.specs.List.{list_any}
use Rattle.fill_generate.specs.Marking.{is_byte}
use Rattle.fill_generate.proofs.MarkLemmas.{bytes_in, marking_begins, marking_holds, marking_marks, marking_ends}
use Rattle.fill_generate.proofs.mark.mark_held.Goals as goal

pub loop-at-init : goal.loop-at-init
loop-at-init g c = marking_begins c.args.sector c.args.pos c.args.bytes.now _ _ c.requires.spare

pub loop-at-preserved-then-not-has_byte : goal.loop-at-preserved-then-not-has_byte
loop-at-preserved-then-not-has_byte g c =
    let none : list_any is_byte (bytes_in c.args.pos c.args.bytes.now c.loop-at.at c.min-to.result) ≡ false =
    grind (arith, c.has_byte.ensures, c.if-not-has_byte.true) in
    marking_marks c.args.sector c.args.pos c.args.bytes.now _ _ _ _ _ c.loop-at.from c.loop-at.at c.min-to.result
    c.requires.sector.low c.loop-at.invariant c.loop-at-test.true c.min-to.ensures none c.mark_range.ensures.marked
    c.mark_range.ensures.spare

pub loop-at-preserved : goal.loop-at-preserved
loop-at-preserved g c =
    let any : list_any is_byte (bytes_in c.args.pos c.args.bytes.now c.loop-at.at c.min-to.result) ≡ true =
    grind (arith, c.has_byte.ensures, c.if-not-has_byte.false) in
    marking_holds c.args.sector c.args.pos c.args.bytes.now _ _ _ c.loop-at.from c.loop-at.at c.min-to.result
    c.requires.sector.low c.loop-at.invariant c.loop-at-test.true c.min-to.ensures any

pub returns : goal.returns
returns g c s len same few =
    marking_ends c.args.sector c.args.pos c.args.bytes.now _ _ _ _ c.loop-at.from c.loop-at.at c.loop-at.invariant
    c.loop-at-test.false c.mark_range-2.ensures.marked s len same few
