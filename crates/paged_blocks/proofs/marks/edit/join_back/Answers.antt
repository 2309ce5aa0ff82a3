use Rattle.std.proofs.Common.{◌≡◌, ◌+◌, ◌-◌, ◌∙◌, ap, arith}
use Rattle.std.specs.List.{slice_get}
use Rattle.paged_blocks.specs.Paging.{before}
use Rattle.paged_blocks.proofs.PagingLemmas.{no_entry, held_read, last_index}
use Rattle.paged_blocks.proofs.MarkLemmas.{back_none, back_same, back_other, back_kept, kept_after, holding_of}
use Rattle.paged_blocks.proofs.marks.edit.join_back.Goals as goal

pub overflow_add-index : goal.overflow_add-index
overflow_add-index c =
    let h = c.held_near-held.ensures in
    omega (arith, (c.requires.paging.each c.held_near-held.result.page no_entry h.entry).fits, h.within no_entry)

pub overflow_add-size : goal.overflow_add-size
overflow_add-size c =
    let h = c.held_near-held.ensures in
    let z : c.held_near-held.result.block + 1 - 1 ≡ c.held_near-held.result.block = omega arith in
    let q = held_read _ _ _ _ _ no_entry _ _ c.requires.paging h (rw (c.at-2.ensures no_entry) at c.index-pages-at.is)
    (ap (λ n. slice_get c.index-pages-at.result n) z ∙ c.block-back.ensures) in
    omega (arith, (holding_of _ _ _ _ _ (omega (arith, h.block)) c.requires.paging.tiled h.place q).tile.short)

pub overflow_sub-size : goal.overflow_sub-size
overflow_sub-size c =
    let h = c.held_near-held.ensures in
    let z : c.held_near-held.result.block + 1 - 1 ≡ c.held_near-held.result.block = omega arith in
    let q = held_read _ _ _ _ _ no_entry _ _ c.requires.paging h (rw (c.at-2.ensures no_entry) at c.index-pages-at.is)
    (ap (λ n. slice_get c.index-pages-at.result n) z ∙ c.block-back.ensures) in
    omega (arith, (holding_of _ _ _ _ _ (omega (arith, h.block)) c.requires.paging.tiled h.place q).beyond)

pub overflow_add-wide : goal.overflow_add-wide
overflow_add-wide c =
    let h = c.held_near-held.ensures in
    let z : c.held_near-held.result.block + 1 - 1 ≡ c.held_near-held.result.block = omega arith in
    let q = held_read _ _ _ _ _ no_entry _ _ c.requires.paging h (rw (c.at-2.ensures no_entry) at c.index-pages-at.is)
    (ap (λ n. slice_get c.index-pages-at.result n) z ∙ c.block-back.ensures) in
    omega (arith, c.requires.short, (holding_of _ _ _ _ _ (omega (arith, h.block)) c.requires.paging.tiled h.place q).tile.short)

pub returns-then-is-clause-joined : goal.returns-then-is-clause-joined
returns-then-is-clause-joined c =
    let h = c.held_near-held.ensures in
    let z : c.held_near-held.result.block + 1 - 1 ≡ c.held_near-held.result.block = omega arith in
    let q = held_read _ _ _ _ _ no_entry _ _ c.requires.paging h (rw (c.at-2.ensures no_entry) at c.index-pages-at.is)
    (ap (λ n. slice_get c.index-pages-at.result n) z ∙ c.block-back.ensures) in
    rw c.joined_at-then-is.ensures
    (back_same _ _ _ c.args.block _ (omega (arith, h.block)) c.requires.paging.tiled c.requires.paging.merged h.place q
    c.requires.some (c.is.ensures.0 c.if-is.true))

pub place_in_front-requires-clause-later : goal.place_in_front-requires-clause-later
place_in_front-requires-clause-later c =
    let h = c.held_near-held.ensures in
    let z : c.held_near-held.result.block + 1 - 1 ≡ c.held_near-held.result.block = omega arith in
    let q = held_read _ _ _ _ _ no_entry _ _ c.requires.paging h (rw (c.at-2.ensures no_entry) at c.index-pages-at.is)
    (ap (λ n. slice_get c.index-pages-at.result n) z ∙ c.block-back.ensures) in
    kept_after _ _ _ c.args.block _ (omega (arith, h.block)) c.requires.paging.tiled h.place q c.requires.some c.if-size-back.true

pub returns-then-size-back-clause-joined : goal.returns-then-size-back-clause-joined
returns-then-size-back-clause-joined c =
    let h = c.held_near-held.ensures in
    let z : c.held_near-held.result.block + 1 - 1 ≡ c.held_near-held.result.block = omega arith in
    let q = held_read _ _ _ _ _ no_entry _ _ c.requires.paging h (rw (c.at-2.ensures no_entry) at c.index-pages-at.is)
    (ap (λ n. slice_get c.index-pages-at.result n) z ∙ c.block-back.ensures) in
    let same : before c.args.pages.now c.args.entries.now.items c.place_in_front.result.0 + c.place_in_front.result.1
    ≡ before c.args.pages.now c.args.entries.now.items c.held_near-held.result.page + (c.held_near-held.result.block + 1 - 1) =
    omega (arith, c.place_in_front.ensures.same) in
    rw (c.joined_at-then-size-back.ensures, same)
    (back_kept _ _ _ c.args.block _ (omega (arith, h.block)) c.requires.paging.tiled c.requires.paging.merged h.place q
    c.requires.some (λ e. let t = c.is.ensures.1 e in cc) c.if-size-back.true)

pub returns-clause-joined : goal.returns-clause-joined
returns-clause-joined c =
    let h = c.held_near-held.ensures in
    let z : c.held_near-held.result.block + 1 - 1 ≡ c.held_near-held.result.block = omega arith in
    let q = held_read _ _ _ _ _ no_entry _ _ c.requires.paging h (rw (c.at-2.ensures no_entry) at c.index-pages-at.is)
    (ap (λ n. slice_get c.index-pages-at.result n) z ∙ c.block-back.ensures) in
    rw c.joined_at-2.ensures
    (back_other _ _ _ c.args.block _ (omega (arith, h.block)) c.requires.paging.tiled c.requires.paging.merged h.place q
    c.requires.some (λ e. let t = c.is.ensures.1 e in cc))

pub returns-then-end-past-clause-joined : goal.returns-then-end-past-clause-joined
returns-then-end-past-clause-joined c =
    rw (c.joined_at.ensures, c.at.ensures no_entry, c.len-entry.ensures)
    (back_none _ _ _ (last_index _ _ no_entry c.requires.paging c.requires.there) c.requires.some
    (omega (arith, c.requires.end, c.if-end-past.true)))
