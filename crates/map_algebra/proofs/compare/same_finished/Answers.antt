use Rattle.std.proofs.Common.{◌≡◌, ◌<◌, ◌≤◌, Bool, true, false, not, sym, ◌∙◌, refl, arith, ⊎_elim}
use Rattle.std.proofs.Math.Bool.{beq}
use Rattle.std.proofs.lemmas.Bool.{cases_lt, both_ways}
use Rattle.std.proofs.lemmas.List.{get_or_past}
use Rattle.block_list.specs.declared.status.Status.TheVariants.{NonTried}
use Rattle.map_algebra.proofs.MapLemmas.{finished_by}
use Rattle.map_algebra.proofs.compare.same_finished.Goals as goal
use Rattle.map_algebra.proofs.compare.same_finished.Goals.{else-pair-via-then-pair+else-is_finished, else-pair-via-else-pair}

unequal : (a b : Bool) → not (beq a b) ≡ true → a ≡ b → ⊥
unequal true true h e = cc
unequal true false h e = cc
unequal false true h e = cc
unequal false false h e = cc

equal : (a b : Bool) → not (beq a b) ≡ false → a ≡ b
equal true true h = refl
equal true false h = cc
equal false true h = cc
equal false false h = refl

pub returns-then-is_finished-clause-unlike : goal.returns-then-is_finished-clause-unlike
returns-then-is_finished-clause-unlike g c = λ e.
    let p = c.pair_at-pair.ensures in
    let at = c.loop-at.at in
    let here : at ≤ at = omega arith in
    record {
      position = at;
      inside = p.inside.each at here p.inside.some ∙ c.if-pair.true;
      other = λ q. unequal _ _ c.if-is_finished.true
          (c.is_finished.ensures ∙ sym (finished_by _ at _ (p.first.each at here p.first.some)) ∙ q
          ∙ finished_by _ at _ (p.second.each at here p.second.some) ∙ sym c.is_finished-then-pair.ensures);
    }

pub loop-at-preserved : goal.loop-at-preserved
loop-at-preserved g c = λ x l d.
    let p = c.pair_at-pair.ensures in
    ⊎_elim
    (λ (u : x < c.loop-at.at). c.loop-at.invariant x u d)
    (λ (u : c.loop-at.at ≤ x). elim c.else-pair.branch [
      | else-pair-via-then-pair+else-is_finished w ↦
          finished_by _ x _ (p.first.each x u l) ∙ sym w.is_finished.ensures ∙ equal _ _ w.if-is_finished.false
          ∙ w.is_finished-then-pair.ensures ∙ sym (finished_by _ x _ (p.second.each x u l))
      | else-pair-via-else-pair w ↦ absurd (both_ways _ w.if-pair.false (sym (p.inside.each x u l) ∙ d))
    ])
    (cases_lt x c.loop-at.at)

pub returns-clause-alike : goal.returns-clause-alike
returns-clause-alike g c = λ e. record {
  each = λ x d. ⊎_elim
      (λ (u : x < c.loop-at.at). c.loop-at.invariant x u d)
      (λ (u : c.loop-at.at ≤ x).
      finished_by _ x NonTried (get_or_past (g.T.Tiles.statuses c.args.first.now) x NonTried (omega arith))
      ∙ sym (finished_by _ x NonTried (get_or_past (g.U.Tiles.statuses c.args.second.now) x NonTried (omega arith))))
      (cases_lt x c.loop-at.at);
}
