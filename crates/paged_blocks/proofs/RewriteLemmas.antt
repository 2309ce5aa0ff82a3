-- A page that an edit writes anew.
use Rattle.std.proofs.Common.{◌≡◌, ℕ, ◌+◌, ◌-◌, ◌*◌, ◌<◌, ◌≤◌, ◌∙◌, List, ◌++◌, All, length, take, drop, get_or, set, min, refl, subst, ap, sym, arith, length-append, length-drop}
use Rattle.std.proofs.lemmas.List.{length-set, length-take-le}
use Rattle.std.proofs.lemmas.List.Elements.{All-append, All-take, All-drop}
use Rattle.block_list.specs.declared.block.Block.{Block}
use Rattle.block_list.specs.Tiling.{IsMerged}
use Rattle.block_list.specs.Edits.{IsTiled}
use Rattle.block_pages.specs.declared.page_entry.PageEntry.{PageEntry}
use Rattle.block_pages.specs.PageEntries.{IsEntryOf}
use Rattle.block_pages.specs.Splice.{spliced}
use Rattle.paged_blocks.specs.declared.marks.edit.Edit.{Edit}
use Rattle.paged_blocks.specs.declared.marks.touched_pages.Region.{Region}
use Rattle.paged_blocks.specs.Paging.{blocks_of, flat, before, IsEntry, IsKeptInPages, AreFiled, IsRewritten}
use Rattle.paged_blocks.specs.Marks.{edited, IsEdit}
use Rattle.paged_blocks.specs.TouchedPages.{IsRegion, StaysInPage, refilled}
use Rattle.paged_blocks.specs.Room.{HasRoomForMark, room_for}
use Rattle.paged_blocks.proofs.PagingLemmas.{no_entry}
use Rattle.paged_blocks.proofs.RefillLemmas.{rewritten, rewritten_flat, kept_long, kept_fits}
use Rattle.paged_blocks.proofs.TouchedLemmas.{page_edited, page_len, edit_len, region_few}

-- a page was written, with the entry that says what it holds
pub written_page : (pages : List (List Block)) (es : List PageEntry) (k : ℕ) (old entry : PageEntry) (page new : List Block)
    (filed : List PageEntry) → ((d : PageEntry) → old ≡ get_or es k d) → entry.page ≡ old.page
    → IsEntryOf page old.page entry → new ≡ page → filed ≡ set es k entry
    → IsRewritten pages es k new (set pages old.page new) filed
written_page pages es k old entry page new filed a n s q f = record {
  entry = entry;
  number = λ d. n ∙ ap (λ (e : PageEntry). e.page) (a d);
  says = rw q (subst (λ m. IsEntryOf page m entry) (sym n) s);
  written = ap (λ m. set pages m new) (sym n);
  filed = f;
}

-- the blocks of all pages where one was written anew
pub page_flat : (pages : List (List Block)) (es : List PageEntry) (free : List ℕ) (e : Edit) (page : List Block)
    (new : List (List Block)) (named : List PageEntry) → IsKeptInPages pages es free → IsEdit pages es e → e.first ≡ e.last
    → page ≡ spliced (blocks_of pages (get_or es e.first no_entry)) e.from e.to e.new → 0 < length page
    → IsRewritten pages es e.first page new named → flat new named ≡ edited pages es e
page_flat pages es free e page new named k i s q some w =
    let h : e.first < length es = omega (arith, i.order, i.last) in
    let a : AreFiled pages es free = record { each = k.paging.each; numbered = k.numbered } in
    rewritten_flat pages es free e.first page new named h (rewritten pages es free e.first page new named a h some w)
    ∙ page_edited pages es e page i s q

-- the map is kept where the page of an edit was written anew
pub page_kept : (pages : List (List Block)) (es : List PageEntry) (free : List ℕ) (e : Edit) (page : List Block)
    (new : List (List Block)) (named : List PageEntry) → IsKeptInPages pages es free → IsEdit pages es e → StaysInPage es e
    → page ≡ spliced (blocks_of pages (get_or es e.first no_entry)) e.from e.to e.new → 0 < length page
    → IsTiled (edited pages es e) → IsMerged (edited pages es e)
    → IsRewritten pages es e.first page new named → IsKeptInPages new named free
page_kept pages es free e page new named k i s q some t m w =
    let h : e.first < length es = omega (arith, i.order, i.last) in
    let a : AreFiled pages es free = record { each = k.paging.each; numbered = k.numbered } in
    let p = rewritten pages es free e.first page new named a h some w in
    let f = page_flat pages es free e page new named k i s.page q some w in
    record {
      paging = record { tiled = rw f t; merged = rw f m; each = p.filed.each };
      half = record {
        half = λ u.
            let v : 1 < length es = omega (arith, ap length w.filed, length-set es e.first w.entry) in
            let long : 32 ≤ length page =
            omega (
              arith,
              s.half v no_entry,
              page_len pages es e page i s.page q,
              (k.paging.each e.first no_entry h).len,
              i.rising,
              ap (λ n. before pages es n) s.page,
            ) in
            p.half long
            ∙ kept_long es (take e.first es ++ drop (e.first + 1) es) e.first (e.first + 1) k.half (omega arith) (omega arith)
            (λ _. omega arith) refl;
      };
      numbered = p.filed.numbered;
    }

-- where there is room for a block more than a map that is to have so many, there are pages enough to fill some anew
pub room_enough : (pages capacity entries taken blocks total : ℕ) → taken ≤ entries → 0 < blocks
    → 32 * (entries - taken) + blocks ≤ total → blocks ≤ 64 * taken + 2 → 1 ≤ room_for pages capacity entries (total - 1)
    → 64 * entries + blocks ≤ 64 * (min pages capacity + taken)
room_enough pages capacity entries taken blocks total l s f g r = omega (arith, r)

-- what room an edit leaves that adds two blocks at most, and one that adds one
pub two_left : (pages capacity entries blocks total : ℕ) → total ≤ blocks + 2
    → 2 ≤ room_for pages capacity entries blocks → 1 ≤ room_for pages capacity entries (total - 1)
two_left pages capacity entries blocks total l h = omega (arith, h)

pub one_left : (pages capacity entries blocks total : ℕ) → total ≤ blocks + 1
    → 1 ≤ room_for pages capacity entries blocks → 1 ≤ room_for pages capacity entries (total - 1)
one_left pages capacity entries blocks total l h = omega (arith, h)

-- a region that has an edit's blocks has at most two more than its pages hold
pub region_size : (pages : List (List Block)) (es : List PageEntry) (free : List ℕ) (e : Edit) (r : Region) → IsKeptInPages pages es free
    → IsEdit pages es e → IsRegion es r → refilled pages es r ≡ edited pages es e
    → length r.blocks ≤ 64 * (r.past - r.first) + 2
region_size pages es free e r k i g q =
    region_few pages es r k.paging g (omega (arith, ap length q, edit_len pages es e i, i.gain))

pub region_room : (pages : List (List Block)) (es : List PageEntry) (free : List ℕ) (made capacity entries : ℕ) (e : Edit) (r : Region)
    → IsKeptInPages pages es free → IsEdit pages es e → IsRegion es r → refilled pages es r ≡ edited pages es e
    → entries ≡ length es → 1 ≤ room_for made capacity entries (length (edited pages es e) - 1)
    → 64 * entries + length r.blocks ≤ 64 * (min made capacity + (r.past - r.first))
region_room pages es free made capacity entries e r k i g q n s =
    let kept : List PageEntry = take r.first es ++ drop r.past es in
    let z = kept_long es kept r.first r.past k.half g.order g.within g.taken refl in
    let each : All (IsEntry pages) kept = All-append (IsEntry pages) (take r.first es) (drop r.past es)
    (All-take (IsEntry pages) r.first es k.paging.each) (All-drop (IsEntry pages) r.past es k.paging.each) in
    let m : 32 * (entries - (r.past - r.first)) + length r.blocks ≤ length (edited pages es e) =
    omega (
      arith,
      kept_fits pages es kept r.blocks r.first r.past each z refl,
      ap length q,
      length-append (take r.first es) (drop r.past es),
      length-take-le r.first es (omega (arith, g.order, g.within)),
      length-drop r.past es,
      g.order,
      g.within,
      n,
    ) in
    room_enough made capacity entries (r.past - r.first) (length r.blocks) (length (edited pages es e))
    (omega (arith, g.within, n)) g.some m (region_size pages es free e r k i g q) s

-- how much of the room a mark takes, or an extension, which adds at most n blocks
pub spare_after : (pages pages' room room' entries entries' blocks blocks' n : ℕ) → pages' ≡ pages → room ≤ room'
    → entries' ≤ entries + 1 → blocks' ≤ blocks + n → 1 ≤ n
    → room_for pages room entries blocks ≤ room_for pages' room' entries' blocks' + n
spare_after pages pages' room room' entries entries' blocks blocks' n same more few gain some = omega arith

-- room for two blocks is room for a mark
pub room_for_mark : (past end spare : ℕ) → 2 ≤ spare → HasRoomForMark past end spare
room_for_mark past end spare two = record { one = omega arith; two = λ _. two }
