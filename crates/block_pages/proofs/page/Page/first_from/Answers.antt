use Rattle.std.proofs.Common.{◌<◌, ◌≤◌, arith, ⊎_elim}
use Rattle.std.proofs.lemmas.Bool.{cases_lt}
use Rattle.block_pages.proofs.SearchLemmas.{not_none}
use Rattle.block_pages.proofs.page.Page.first_from.Goals as goal

pub returns-clause-there : goal.returns-clause-there
returns-clause-there g c = λ h. ⊎_elim
    (λ (l : c.args.from < c.loop-i.i). absurd (not_none _ _ _ _ _ h c.loop-i.invariant.none (omega arith) l))
    (λ (l : c.loop-i.i ≤ c.args.from). omega (arith, c.loop-i.invariant.cost))
    (cases_lt c.args.from c.loop-i.i)
