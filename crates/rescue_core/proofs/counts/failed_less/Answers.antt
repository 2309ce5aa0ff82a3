use Rattle.std.proofs.Common.{◌≡◌, Bool, not, ◌||◌, nat_lt, ap, sym, ◌∙◌, arith}
use Rattle.std.proofs.lemmas.Bool.{lt-ltb, le-ltb}
use Rattle.rescue_core.specs.Counting.{failed_in}
use Rattle.rescue_core.proofs.CountsLemmas.{count_is, one_if}
use Rattle.rescue_core.proofs.counts.failed_less.Goals as goal
use Rattle.rescue_core.proofs.counts.failed_less.Goals.{then-kept-to, else-kept-to}

pub returns : goal.returns
returns g c = λ new goes areas.
    let set = failed_in c.args.live (g.T.Tiles.statuses c.args.tiles.now) in
    let begins : c.if-kept-to.begins ≡ (nat_lt c.args.kept c.args.to || set c.args.to)
    = elim c.if-kept-to.branch [
      | then-kept-to w ↦
          w.begins-is ∙ lt-ltb _ _ w.if-kept-to.true ∙ sym (ap (λ (b : Bool). b || set c.args.to) (lt-ltb _ _ w.if-kept-to.true))
      | else-kept-to w ↦
          w.begins-is ∙ w.failed_at-begins.ensures
          ∙ sym (ap (λ (b : Bool). b || set c.args.to) (le-ltb _ _ w.if-kept-to.false))
    ] in
    count_is _ new (omega (arith, goes.bytes))
    (c.moved.ensures new.areas
    (omega (
      arith,
      goes.areas,
      ap one_if begins,
      ap (λ (b : Bool). one_if (not b)) c.failed_in_front-ends.ensures,
    ))
    areas)
