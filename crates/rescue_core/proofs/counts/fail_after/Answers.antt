use Rattle.std.proofs.Common.{◌≡◌, true, false, sym, ◌∙◌, arith}
use Rattle.rescue_rules.specs.Machine.{is_live}
use Rattle.rescue_rules.specs.Step.{is_copying}
use Rattle.faulty_source.specs.Journal.{is_failed}
use Rattle.rescue_core.specs.RunState.{setting_in}
use Rattle.rescue_core.proofs.CountsLemmas.{reads_of, small_counts, comes_at, goes_at}
use Rattle.rescue_core.proofs.counts.fail_after.Goals as goal

pub returns-then-failed : goal.returns-then-failed
returns-then-failed g c = λ r e was is.
    let map = g.T.Tiles.statuses c.args.tiles.now in
    let reads = reads_of r e c.args.phase c.args.read.request c.args.read.turn c.args.live map is in
    let small = small_counts (is_live (setting_in r) r.machine) map reads.short in
    let on : is_copying r.machine ≡ true = reads.copies_is ∙ sym c.copies.ensures ∙ c.if-copies.true in
    let fails : is_failed e.reading ≡ true = reads.fails ∙ sym c.failed.ensures ∙ c.if-failed.true in
    c.failed_more.ensures _
    (comes_at _ _ _ _ _ _ _ _ _ _ reads.pos (omega (arith, reads.pos, reads.kept_is, reads.there, reads.most))
    (omega (arith, reads.pos, reads.asked, reads.there)) (sym was) (reads.marks.missed on fails))
    small.bytes small.areas

pub returns-else-failed : goal.returns-else-failed
returns-else-failed g c = λ r e was is.
    let map = g.T.Tiles.statuses c.args.tiles.now in
    let reads = reads_of r e c.args.phase c.args.read.request c.args.read.turn c.args.live map is in
    let on : is_copying r.machine ≡ true = reads.copies_is ∙ sym c.copies.ensures ∙ c.if-copies.true in
    let good : is_failed e.reading ≡ false = reads.fails ∙ sym c.failed.ensures ∙ c.if-failed.false in
    was ∙ sym (reads.marks.copied on good)

pub returns-then-turn-gt0 : goal.returns-then-turn-gt0
returns-then-turn-gt0 g c = λ r e was is.
    let map = g.T.Tiles.statuses c.args.tiles.now in
    let reads = reads_of r e c.args.phase c.args.read.request c.args.read.turn c.args.live map is in
    let small = small_counts (is_live (setting_in r) r.machine) map reads.short in
    let off : is_copying r.machine ≡ false = reads.copies_is ∙ sym c.copies.ensures ∙ c.if-copies.false in
    c.failed_less.ensures _
    (goes_at _ _ _ _ _ _ _ _ _ _ reads.pos (omega (arith, reads.pos, reads.kept_is, reads.there, reads.most))
    (omega (arith, reads.pos, reads.asked, reads.there)) (sym was)
    (reads.marks.some off (omega (arith, reads.kept_is, c.if-turn-gt0.true))))
    small.areas

pub returns-else-turn-gt0 : goal.returns-else-turn-gt0
returns-else-turn-gt0 g c = λ r e was is.
    let map = g.T.Tiles.statuses c.args.tiles.now in
    let reads = reads_of r e c.args.phase c.args.read.request c.args.read.turn c.args.live map is in
    let off : is_copying r.machine ≡ false = reads.copies_is ∙ sym c.copies.ensures ∙ c.if-copies.false in
    was ∙ sym (reads.marks.nothing off (omega (arith, reads.kept_is, c.if-turn-gt0.false)))
