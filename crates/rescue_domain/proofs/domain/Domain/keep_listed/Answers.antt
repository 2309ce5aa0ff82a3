use Rattle.std.proofs.Common.{rules}
use Rattle.rescue_domain.proofs.MadeLemmas.{listed_parts}
use Rattle.rescue_domain.proofs.domain.Domain.keep_listed.Goals as goal

pub invariant_of-self : goal.invariant_of-self
invariant_of-self c =
    (listed_parts _ _ c.args.first c.args.end (λ part b g new k. search rules) 0 _ _ c.self.invariant c.retain_mut.ensures.filtered).apart

pub returns : goal.returns
returns c =
    let listed = listed_parts _ _ c.args.first c.args.end (λ part b g new k. search rules) 0 _ _ c.self.invariant c.retain_mut.ensures.filtered in
    rw (← c.self.view_is) listed.same
