use Rattle.std.proofs.Common.{List, get_or, ap, arith}
use Rattle.block_list.specs.declared.status.Status.TheVariants.{NonTried}
use Rattle.block_pages.specs.declared.page.KeptStatus.{KeptStatus}
use Rattle.block_pages.proofs.PageLemmas.{page_size, page_status}
use Rattle.block_pages.proofs.page.Page.status.Goals as goal

pub bounds-deref-i : goal.bounds-deref-i
bounds-deref-i c =
    rw c.deref.ensures.0 (omega (arith, c.requires, page_size _ _ c.self.view_is c.self.invariant, c.self.invariant.alike))

pub returns : goal.returns
returns c = λ d.
    let unused : KeptStatus = record { status = NonTried } in
    page_status c.self.inside c.args.self.now c.args.i _ unused c.self.view_is c.self.invariant
    (omega (arith, c.requires, page_size _ _ c.self.view_is c.self.invariant))
    (ap (λ (ks : List KeptStatus). (get_or ks c.args.i unused).status) c.deref.ensures.0) d
