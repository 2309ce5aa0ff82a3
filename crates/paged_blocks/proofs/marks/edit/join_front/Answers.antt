use Rattle.std.proofs.Common.{arith}
use Rattle.paged_blocks.proofs.PagingLemmas.{no_entry, held_read, some_position}
use Rattle.paged_blocks.proofs.MarkLemmas.{front_none, front_same, front_other, front_kept, kept_within, in_front}
use Rattle.paged_blocks.proofs.marks.edit.join_front.Goals as goal

pub returns-then-block-eq0-clause-joined : goal.returns-then-block-eq0-clause-joined
returns-then-block-eq0-clause-joined c =
    rw c.joined_at.ensures
    (front_none _ c.args.block c.if-block-eq0.true c.requires.some (some_position _ _ c.requires.paging c.requires.there))

pub overflow_sub-wide : goal.overflow_sub-wide
overflow_sub-wide c =
    let h = c.held_before-entry.ensures in
    let q = held_read _ _ _ _ _ no_entry _ _ c.requires.paging h (rw (c.at.ensures no_entry) at c.index-pages-at.is) c.block-front.ensures in
    omega (arith, (in_front _ _ _ _ _ (omega (arith, h.block)) c.requires.paging.tiled h.place q).begun)

pub returns-then-is-clause-joined : goal.returns-then-is-clause-joined
returns-then-is-clause-joined c =
    let h = c.held_before-entry.ensures in
    let q = held_read _ _ _ _ _ no_entry _ _ c.requires.paging h (rw (c.at.ensures no_entry) at c.index-pages-at.is) c.block-front.ensures in
    rw c.joined_at-then-is.ensures
    (front_same _ _ _ c.args.block _ (omega (arith, h.block)) c.requires.paging.tiled c.requires.paging.merged h.place q
    (c.is.ensures.0 c.if-is.true))

pub overflow_sub-size : goal.overflow_sub-size
overflow_sub-size c =
    let h = c.held_before-entry.ensures in
    let q = held_read _ _ _ _ _ no_entry _ _ c.requires.paging h (rw (c.at.ensures no_entry) at c.index-pages-at.is) c.block-front.ensures in
    omega (arith, (in_front _ _ _ _ _ (omega (arith, h.block)) c.requires.paging.tiled h.place q).begun)

pub place_after-requires-clause-later : goal.place_after-requires-clause-later
place_after-requires-clause-later c =
    let h = c.held_before-entry.ensures in
    let q = held_read _ _ _ _ _ no_entry _ _ c.requires.paging h (rw (c.at.ensures no_entry) at c.index-pages-at.is) c.block-front.ensures in
    kept_within _ _ _ c.args.block _ (omega (arith, h.block)) c.requires.paging.tiled h.place q c.if-size-front.true
    (omega (arith, c.if-block-end.true, c.requires.end))

pub returns-then-block-end-clause-joined : goal.returns-then-block-end-clause-joined
returns-then-block-end-clause-joined c =
    let h = c.held_before-entry.ensures in
    let q = held_read _ _ _ _ _ no_entry _ _ c.requires.paging h (rw (c.at.ensures no_entry) at c.index-pages-at.is) c.block-front.ensures in
    rw (c.joined_at-then-block-end.ensures, c.place_after.ensures.same)
    (front_kept _ _ _ c.args.block _ (omega (arith, h.block)) c.requires.paging.tiled c.requires.paging.merged h.place q
    (λ e. let t = c.is.ensures.1 e in cc) c.if-size-front.true (omega (arith, c.if-block-end.true, c.requires.end)))

pub returns-clause-joined : goal.returns-clause-joined
returns-clause-joined c =
    let h = c.held_before-entry.ensures in
    let q = held_read _ _ _ _ _ no_entry _ _ c.requires.paging h (rw (c.at.ensures no_entry) at c.index-pages-at.is) c.block-front.ensures in
    rw c.joined_at-2.ensures
    (front_other _ _ _ c.args.block _ (omega (arith, h.block)) c.requires.paging.tiled c.requires.paging.merged h.place q
    (λ e. let t = c.is.ensures.1 e in cc))
