use Rattle.std.proofs.Common.{◌≡◌, ℕ, ◌+◌, ◌-◌, ◌∙◌, List, drop, get_or, ap, arith}
use Rattle.block_list.specs.declared.status.Status.TheVariants.{NonTried}
use Rattle.block_pages.specs.declared.page.KeptStatus.{KeptStatus}
use Rattle.block_pages.specs.Rows.{first_or}
use Rattle.block_pages.proofs.PageLemmas.{page_size, page_block}
use Rattle.block_pages.proofs.page.Page.block.Goals as goal

pub offset_bounds-deref-i : goal.offset_bounds-deref-i
offset_bounds-deref-i c = omega (arith, c.requires, page_size _ _ c.self.view_is c.self.invariant, c.self.invariant.fits)

pub bounds-deref-i : goal.bounds-deref-i
bounds-deref-i c = rw c.deref.ensures.0 (omega (arith, c.requires, page_size _ _ c.self.view_is c.self.invariant))

pub end_of-end-requires : goal.end_of-end-requires
end_of-end-requires c = rw c.deref-2.ensures.0 (omega (arith, c.requires, page_size _ _ c.self.view_is c.self.invariant))

pub bounds-deref-i-2 : goal.bounds-deref-i-2
bounds-deref-i-2 c =
    rw c.deref-3.ensures.0
    (omega (arith, c.requires, page_size _ _ c.self.view_is c.self.invariant, c.self.invariant.alike))

pub returns : goal.returns
returns c =
    let i : ℕ = c.args.i in
    let pos : ℕ = get_or c.deref.result.now i 0 in
    let unused : KeptStatus = record { status = NonTried } in
    let size : c.saturating_sub.result ≡ first_or (drop (i + 1) c.self.inside.starts.items) c.self.inside.end - pos =
    c.saturating_sub.ensures
    ∙ ap (λ n. n - pos) (c.end_of-end.ensures
    ∙ ap (λ (xs : List ℕ). first_or (drop (i + 1) xs) c.self.inside.end) c.deref-2.ensures.0) in
    page_block c.self.inside c.args.self.now i _ _ _ 0 unused c.self.view_is c.self.invariant
    (omega (arith, c.requires, page_size _ _ c.self.view_is c.self.invariant))
    (ap (λ (xs : List ℕ). get_or xs i 0) c.deref.ensures.0) size
    (ap (λ (ks : List KeptStatus). (get_or ks i unused).status) c.deref-3.ensures.0)
