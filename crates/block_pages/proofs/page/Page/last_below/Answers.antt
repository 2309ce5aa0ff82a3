use Rattle.std.proofs.Common.{◌<◌, ◌≤◌, arith, ⊎_elim}
use Rattle.std.proofs.lemmas.Bool.{cases_lt}
use Rattle.block_pages.proofs.SearchLemmas.{not_none}
use Rattle.block_pages.proofs.page.Page.last_below.Goals as goal

pub returns-clause-there : goal.returns-clause-there
returns-clause-there g c = λ h. ⊎_elim
    (λ (l : 0 < c.args.below). absurd (not_none _ _ _ _ _ h c.loop-i.invariant.none (omega arith) (omega arith)))
    (λ (l : c.args.below ≤ 0). omega (arith, c.loop-i.invariant.cost))
    (cases_lt 0 c.args.below)
