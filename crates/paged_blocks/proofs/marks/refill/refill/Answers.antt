use Rattle.std.proofs.Common.{◌≡◌, ℕ, ◌<◌, ◌≤◌, ◌∙◌, ◌++◌, List, length, take, drop, ap, arith, length-append, length-drop, ⊎_elim}
use Rattle.std.proofs.lemmas.Bool.{cases_lt}
use Rattle.std.proofs.lemmas.List.{take_at, drop_at, length-take-le}
use Rattle.block_list.specs.declared.block.Block.{Block}
use Rattle.block_pages.specs.declared.page_entry.PageEntry.{PageEntry}
use Rattle.paged_blocks.specs.Paging.{flat}
use Rattle.paged_blocks.specs.TouchedPages.{refilled}
use Rattle.paged_blocks.proofs.RefillLemmas.{released, kept_long, taken_out}
use Rattle.block_pages.proofs.RowLemmas.{row_middle}
use Rattle.paged_blocks.proofs.marks.refill.refill.Goals as goal

pub deal-requires-clause-filed : goal.deal-requires-clause-filed
deal-requires-clause-filed c =
    let r = c.requires.region in
    released _ _ _ _ _ _ _ (record { each = c.requires.kept.paging.each; numbered = c.requires.kept.numbered }) r.order
    r.within c.release.ensures.entries c.release.ensures.numbers
    (omega (
      arith,
      c.release.ensures.len,
      c.release.new.free.ok.0,
      c.args.free.now.ok.0,
    ))

pub deal-requires-clause-pages : goal.deal-requires-clause-pages
deal-requires-clause-pages c =
    omega (
      arith,
      taken_out c.args.entries.now.items c.release.new.entries.items c.args.region.now.first c.args.region.now.past
          c.requires.region.order c.requires.region.within c.release.ensures.entries,
      c.requires.fit.pages,
    )

pub deal-requires-clause-entries : goal.deal-requires-clause-entries
deal-requires-clause-entries c =
    omega (
      arith,
      taken_out c.args.entries.now.items c.release.new.entries.items c.args.region.now.first c.args.region.now.past
          c.requires.region.order c.requires.region.within c.release.ensures.entries,
      c.requires.fit.entries,
      c.release.ensures.capacity,
    )

pub returns-clause-few : goal.returns-clause-few
returns-clause-few c =
    omega (
      arith,
      taken_out c.args.entries.now.items c.release.new.entries.items c.args.region.now.first c.args.region.now.past
          c.requires.region.order c.requires.region.within c.release.ensures.entries,
      c.deal.ensures.few,
    )

pub returns-clause-kept : goal.returns-clause-kept
returns-clause-kept c =
    let r = c.requires.region in
    let first : ℕ = c.args.region.now.first in
    let past : ℕ = c.args.region.now.past in
    let blocks : List Block = c.args.region.now.blocks in
    let pages : List (List Block) = c.args.pages.now.items in
    let es : List PageEntry = c.args.entries.now.items in
    let kept : List PageEntry = c.release.new.entries.items in
    let e = c.release.ensures.entries in
    let z = kept_long es kept first past c.requires.kept.half r.order r.within r.taken e in
    let n : length (take first es) ≡ first = length-take-le first es (omega (arith, r.order, r.within)) in
    let front : take first kept ≡ take first es = ap (λ x. take first x) e ∙ take_at (take first es) (drop past es) first n in
    let back : drop first kept ≡ drop past es = ap (λ x. drop first x) e ∙ drop_at (take first es) (drop past es) first n in
    let q : flat c.deal.new.pages.items c.deal.new.entries.items ≡ refilled pages es c.args.region.now =
    c.deal.ensures.flat
    ∙ ap (λ x. flat pages x ++ blocks ++ flat pages (drop first kept)) front
    ∙ ap (λ x. flat pages (take first es) ++ blocks ++ flat pages x) back in
    record {
      paging = record {
        tiled = rw q c.requires.whole.tiled;
        merged = rw q c.requires.whole.merged;
        each = c.deal.ensures.filed.each;
      };
      half = record {
        half = λ u. ⊎_elim
            (λ (v : length blocks < 32). absurd (omega (
              arith,
              c.deal.ensures.one v,
              ap length e,
              length-append (take first es) (drop past es),
              length-drop past es,
              n,
              c.requires.full.first v,
              c.requires.full.past v,
            )))
            (λ (v : 32 ≤ length blocks). c.deal.ensures.half v ∙ z)
            (cases_lt (length blocks) 32);
      };
      numbered = c.deal.ensures.filed.numbered;
    }

pub deal-requires-clause-row : goal.deal-requires-clause-row
deal-requires-clause-row c = row_middle _ _ _ c.requires.whole.tiled

pub returns-clause-room : goal.returns-clause-room
returns-clause-room c = record {
  pages = omega (arith, c.deal.ensures.pages);
  entries = omega (arith, c.release.ensures.capacity, c.deal.ensures.capacity);
  free = omega (arith, c.requires.room, c.release.ensures.free, c.deal.ensures.free, c.deal.ensures.pages);
}
