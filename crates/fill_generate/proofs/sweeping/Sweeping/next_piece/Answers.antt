use Rattle.std.proofs.Common.{◌+◌, ◌-◌, min, refl, ap, subst, ◌∙◌, arith}
use Rattle.std.proofs.Math.Nat.{div-mul-le_self}
use Rattle.fill_generate.specs.SweepState.{SweepState, state_at}
use Rattle.fill_generate.specs.Steps.{IsFound}
use Rattle.fill_generate.proofs.SearchLemmas.{found_is}
use Rattle.fill_generate.proofs.sweeping.Sweeping.next_piece.Goals as goal

pub overflow_add-limit : goal.overflow_add-limit
overflow_add-limit g c = omega (arith, c.in_ok-pos.ensures.short, c.self.invariant.0.sound.cluster_max)

pub overflow_mul-limit : goal.overflow_mul-limit
overflow_mul-limit g c =
    let i = c.self.inside in
    omega (
      arith,
      div-mul-le_self (c.in_ok-pos.pos + i.settings.cluster) i.settings.sector,
      c.in_ok-pos.ensures.short,
      c.self.invariant.0.sound.cluster_max,
    )

pub returns-clause-some : goal.returns-clause-some
returns-clause-some g c =
    let i = c.self.inside in
    let r : SweepState = state_at i.settings i.domain (g.T.Tiles.statuses i.tiles) i.mode i.cursor i.keeper in
    subst (λ (q : SweepState). IsFound q (record { pos = c.in_ok-pos.pos; len = c.taken_to-end.result - c.in_ok-pos.pos })) c.self.view_is
    (found_is r c.in_ok-pos.pos _ _ c.taken_to-end.result c.self.invariant.0 c.in_ok-pos.ensures.first c.in_ok-pos.ensures.within
    (omega (arith, c.end.ensures.end, c.end.ensures.short)) refl (c.min-most.ensures ∙ ap (min _) c.end.ensures.end)
    c.taken_to-end.ensures.least c.taken_to-end.ensures.most c.taken_to-end.ensures.taken c.taken_to-end.ensures.stops)
