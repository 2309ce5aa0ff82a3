use Rattle.std.proofs.Common.{◌≡◌, ℕ, ◌+◌, ◌-◌, ◌≤◌, ◌∙◌, IsOk, List, length, drop, slice_range, ap, arith, length-append}
use Rattle.std.proofs.lemmas.List.Edits.{length-between}
use Rattle.plain_blocks.proofs.PushLemmas.{on_success}
use Rattle.block_pages.specs.Rows.{first_or}
use Rattle.block_pages.proofs.PageLemmas.{page_size, copied_rows}
use Rattle.block_pages.proofs.page.Page.copy.Goals as goal

pub offset_bounds-deref-from : goal.offset_bounds-deref-from
offset_bounds-deref-from c =
    omega (arith, c.requires.within, c.if-from-to.true, page_size _ _ c.page.view_is c.page.invariant, c.page.invariant.fits)

pub slice_bounds-try_extend_from_slice-end : goal.slice_bounds-try_extend_from_slice-end
slice_bounds-try_extend_from_slice-end c =
    let h : c.args.to ≤ length c.deref.result.now =
    rw c.deref.ensures.0 (omega (arith, c.requires.within, page_size _ _ c.page.view_is c.page.invariant)) in
    h

pub returns-then-from-to-clause-copied : goal.returns-then-from-to-clause-copied
returns-then-from-to-clause-copied c =
    let own = page_size _ _ c.self.view_is c.self.invariant in
    let other = page_size _ _ c.page.view_is c.page.invariant in
    let n : length (slice_range c.deref.result.now c.args.from c.args.to) ≡ c.args.to - c.args.from =
    length-between c.deref.result.now c.args.from c.args.to (rw c.deref.ensures.0 (omega (arith, c.requires.within, other))) in
    let m : length (slice_range c.deref-then-from-to.result.now c.args.from c.args.to) ≡ c.args.to - c.args.from =
    length-between c.deref-then-from-to.result.now c.args.from c.args.to
    (rw c.deref-then-from-to.ensures.0 (omega (arith, c.requires.within, other, c.page.invariant.alike))) in
    let h : length c.self.inside.starts.items + length (slice_range c.deref.result.now c.args.from c.args.to) ≤ 64 =
    omega (arith, n, own, c.requires.room) in
    let k : length c.self.inside.statuses.items + length (slice_range c.deref-then-from-to.result.now c.args.from c.args.to) ≤ 64 =
    omega (arith, m, own, c.requires.room, c.self.invariant.alike) in
    let done : IsOk c.try_extend_from_slice.result = c.try_extend_from_slice.ensures.variant.1 h in
    let more : IsOk c.try_extend_from_slice-then-from-to.result = c.try_extend_from_slice-then-from-to.ensures.variant.1 k in
    let a = on_success c.try_extend_from_slice.result _ done c.try_extend_from_slice.ensures.ok in
    let b = on_success c.try_extend_from_slice-then-from-to.result _ more c.try_extend_from_slice-then-from-to.ensures.ok in
    let z : c.args.to - 1 + 1 ≡ c.args.to = omega (arith, c.if-from-to.true) in
    let e : c.end_of-self-inside.result ≡ first_or (drop c.args.to c.page.inside.starts.items) c.page.inside.end =
    c.end_of-self-inside.ensures
    ∙ ap (λ (i : ℕ). first_or (drop i c.deref-then-from-to-2.result.now) c.page.inside.end) z
    ∙ ap (λ (xs : List ℕ). first_or (drop c.args.to xs) c.page.inside.end) c.deref-then-from-to-2.ensures.0 in
    rw (a, b) (copied_rows c.self.inside c.page.inside c.args.self.now c.args.page.now c.args.from c.args.to _ _ _ c.self.view_is
    c.self.invariant c.page.view_is c.page.invariant c.if-from-to.true c.requires.within c.deref.ensures.0
    c.deref-then-from-to.ensures.0 e c.requires.row)

pub returns-then-from-to-clause-len : goal.returns-then-from-to-clause-len
returns-then-from-to-clause-len c =
    ap length (returns-then-from-to-clause-copied c)
    ∙ omega (
      arith,
      length-append c.args.self.now (slice_range c.args.page.now c.args.from c.args.to),
      length-between c.args.page.now c.args.from c.args.to c.requires.within,
    )
