use Rattle.std.proofs.Common.{◌+◌, ◌<◌, ◌≤◌, length, ap, arith, ⊎_elim}
use Rattle.std.proofs.lemmas.Bool.{cases_lt}
use Rattle.paged_blocks.specs.Paging.{flat}
use Rattle.paged_blocks.proofs.TouchedLemmas.{edit_len}
use Rattle.paged_blocks.proofs.RewriteLemmas.{one_left, two_left}
use Rattle.paged_blocks.proofs.marks.overwrite.overwrite.Goals as goal

pub returns-then-stays_in_page-clause-gain : goal.returns-then-stays_in_page-clause-gain
returns-then-stays_in_page-clause-gain c =
    let e = rw c.deref.ensures.value at c.mark-edit.ensures.edit in
    let n = edit_len c.args.pages.now.items c.args.entries.now.items c.mark-edit.result e in
    let l = ap length c.edit_page.ensures.flat in
    record {
      two = omega (arith, l, n, e.gain);
      one = λ h. omega (arith, l, n, rw c.deref.ensures.value at (c.mark-edit.ensures.adds h));
    }

pub returns-then-stays_in_two_pages-clause-gain : goal.returns-then-stays_in_two_pages-clause-gain
returns-then-stays_in_two_pages-clause-gain c =
    let e = rw c.deref.ensures.value at c.mark-edit.ensures.edit in
    let n = edit_len c.args.pages.now.items c.args.entries.now.items c.mark-edit.result e in
    let l = ap length c.edit_two_pages.ensures.flat in
    record {
      two = omega (arith, l, n, e.gain);
      one = λ h. omega (arith, l, n, rw c.deref.ensures.value at (c.mark-edit.ensures.adds h));
    }

pub edit_pages-requires-clause-spare : goal.edit_pages-requires-clause-spare
edit_pages-requires-clause-spare c =
    let e = rw c.deref.ensures.value at c.mark-edit.ensures.edit in
    let n = edit_len c.args.pages.now.items c.args.entries.now.items c.mark-edit.result e in
    ⊎_elim
    (λ (h : c.args.block.pos + c.args.block.size < c.args.end).
    two_left _ _ _ (length (flat c.args.pages.now.items c.args.entries.now.items)) _ (omega (arith, n, e.gain))
    (c.requires.spare.two h))
    (λ (h : c.args.end ≤ c.args.block.pos + c.args.block.size).
    let a = rw c.deref.ensures.value at (c.mark-edit.ensures.adds h) in
    one_left _ _ _ (length (flat c.args.pages.now.items c.args.entries.now.items)) _ (omega (arith, n, a)) c.requires.spare.one)
    (cases_lt (c.args.block.pos + c.args.block.size) c.args.end)

pub returns-clause-gain : goal.returns-clause-gain
returns-clause-gain c =
    let e = rw c.deref.ensures.value at c.mark-edit.ensures.edit in
    let n = edit_len c.args.pages.now.items c.args.entries.now.items c.mark-edit.result e in
    let l = ap length c.edit_pages.ensures.flat in
    record {
      two = omega (arith, l, n, e.gain);
      one = λ h. omega (arith, l, n, rw c.deref.ensures.value at (c.mark-edit.ensures.adds h));
    }

pub edit_page-requires-clause-whole : goal.edit_page-requires-clause-whole
edit_page-requires-clause-whole c =
    let m = rw c.deref.ensures.value at c.mark-edit.ensures.marked in record { tiled = m.tiled; merged = m.merged }

pub edit_two_pages-requires-clause-whole : goal.edit_two_pages-requires-clause-whole
edit_two_pages-requires-clause-whole c =
    let m = rw c.deref.ensures.value at c.mark-edit.ensures.marked in record { tiled = m.tiled; merged = m.merged }

pub edit_pages-requires-clause-whole : goal.edit_pages-requires-clause-whole
edit_pages-requires-clause-whole c =
    let m = rw c.deref.ensures.value at c.mark-edit.ensures.marked in record { tiled = m.tiled; merged = m.merged }
