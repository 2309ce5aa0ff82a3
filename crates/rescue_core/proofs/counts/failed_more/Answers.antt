use Rattle.std.proofs.Common.{◌≡◌, Bool, not, ◌||◌, nat_lt, ap, sym, ◌∙◌, arith}
use Rattle.std.proofs.lemmas.Bool.{lt-ltb, le-ltb}
use Rattle.rescue_rules.specs.Recounts.{is_in_front}
use Rattle.rescue_core.specs.Counting.{failed_in}
use Rattle.rescue_core.proofs.CountsLemmas.{count_is, one_if}
use Rattle.rescue_core.proofs.counts.failed_more.Goals as goal
use Rattle.rescue_core.proofs.counts.failed_more.Goals.{then-from-kept, else-from-kept}

pub returns : goal.returns
returns g c = λ new comes bytes areas.
    let set = failed_in c.args.live (g.T.Tiles.statuses c.args.tiles.now) in
    let begins : c.if-from-kept.begins ≡ (nat_lt c.args.from c.args.kept || not (is_in_front set c.args.from))
    = elim c.if-from-kept.branch [
      | then-from-kept w ↦
          w.begins-is ∙ lt-ltb _ _ w.if-from-kept.true ∙ sym (ap (λ (b : Bool). b || not (is_in_front set c.args.from)) (lt-ltb _ _ w.if-from-kept.true))
      | else-from-kept w ↦
          w.begins-is ∙ ap not w.failed_in_front.ensures
          ∙ sym (ap (λ (b : Bool). b || not (is_in_front set c.args.from)) (le-ltb _ _ w.if-from-kept.false))
    ] in
    count_is _ new (omega (arith, comes.bytes, bytes))
    (c.moved.ensures new.areas
    (omega (
      arith,
      comes.areas,
      ap one_if begins,
      ap one_if c.failed_at-ends.ensures,
    ))
    areas)
