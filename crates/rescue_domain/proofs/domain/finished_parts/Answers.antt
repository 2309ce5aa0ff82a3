use Rattle.std.proofs.Common.{◌≡◌, [], ◌∷◌, ◌++◌, rules}
use Rattle.rescue_domain.proofs.MadeLemmas.{made_more}
use Rattle.rescue_domain.proofs.domain.finished_parts.Goals as goal

pub loop-range-preserved : goal.loop-range-preserved
loop-range-preserved g c =
    let e : c.push.new.self.items ≡ c.loop-range.parts.items ++ c.in-Some.range ∷ [] = search rules in
    rw e (made_more _ _ _ _ c.loop-range.invariant c.in-Some.ensures.first c.in-Some.ensures.range)
