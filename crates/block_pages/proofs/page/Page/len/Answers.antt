use Rattle.std.proofs.Common.{arith}
use Rattle.block_pages.proofs.PageLemmas.{page_size}
use Rattle.block_pages.proofs.page.Page.len.Goals as goal

pub returns-clause-value : goal.returns-clause-value
returns-clause-value c = omega (arith, c.len.ensures.value, page_size _ _ c.self.view_is c.self.invariant)
