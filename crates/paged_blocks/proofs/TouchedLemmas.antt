-- The pages that an edit touches, and those around them.
use Rattle.std.specs.List.{flat_map}
use Rattle.std.proofs.Common.{◌≡◌, ℕ, zero, suc, ◌+◌, ◌-◌, ◌*◌, ◌<◌, ◌≤◌, List, [], ◌∷◌, ◌++◌, length, take, drop, get_or, slice_range, arith, ap, sym, ◌∙◌, append_assoc, append-nil, length-append, length-drop, ⊎_elim}
use Rattle.std.proofs.lemmas.Bool.{cases_lt}
use Rattle.std.proofs.lemmas.List.{take-append-drop, take_at, drop_at, take_more, drop_more, length-take-le}
use Rattle.std.proofs.lemmas.Grind.{flat_map-append}
use Rattle.block_list.specs.declared.block.Block.{Block}
use Rattle.block_pages.specs.declared.page_entry.PageEntry.{PageEntry}
use Rattle.block_pages.specs.Splice.{spliced}
use Rattle.block_pages.specs.Rows.{AreRow}
use Rattle.block_pages.proofs.RangeLemmas.{range_whole}
use Rattle.block_pages.proofs.RowLemmas.{row_middle}
use Rattle.paged_blocks.specs.Paging.{blocks_of, flat, before, IsPaging}
use Rattle.paged_blocks.specs.Marks.{edited, edit_from, edit_to, IsEdit}
use Rattle.paged_blocks.specs.declared.marks.edit.Edit.{Edit}
use Rattle.paged_blocks.specs.declared.marks.touched_pages.Region.{Region}
use Rattle.paged_blocks.specs.TouchedPages.{IsRegion, refilled}
use Rattle.paged_blocks.proofs.PagingLemmas.{no_entry, before_more, before_mono, before_le}

-- the blocks of the first pages, and those of the others
pub flat_parts : (pages : List (List Block)) (es : List PageEntry) (k : ℕ)
    → flat pages es ≡ flat pages (take k es) ++ flat pages (drop k es)
flat_parts pages es k =
    ap (λ r. flat pages r) (sym (take-append-drop k es)) ∙ flat_map-append (blocks_of pages) (take k es) (drop k es)

-- the blocks of all pages around those of one
pub around_page : (pages : List (List Block)) (es : List PageEntry) (k : ℕ) (d : PageEntry) → k < length es
    → flat pages es ≡ flat pages (take k es) ++ (blocks_of pages (get_or es k d) ++ flat pages (drop (k + 1) es))
around_page pages es k d h =
    ap (λ r. flat pages r) (sym (take-append-drop k es))
    ∙ flat_map-append (blocks_of pages) (take k es) (drop k es)
    ∙ ap (λ r. flat pages (take k es) ++ flat pages r) (drop_more es k d h)

-- the blocks in front of one in a page, and those from it on
pub front_blocks : (pages : List (List Block)) (es : List PageEntry) (k i : ℕ) (d : PageEntry) → k < length es
    → i ≤ length (blocks_of pages (get_or es k d))
    → take (before pages es k + i) (flat pages es) ≡ flat pages (take k es) ++ take i (blocks_of pages (get_or es k d))
front_blocks pages es k i d h l =
    let page : List Block = blocks_of pages (get_or es k d) in
    let front : List Block = flat pages (take k es) in
    let back : List Block = drop i page ++ flat pages (drop (k + 1) es) in
    let e : flat pages es ≡ (front ++ take i page) ++ back =
    around_page pages es k d h
    ∙ ap (λ r. front ++ (r ++ flat pages (drop (k + 1) es))) (sym (take-append-drop i page))
    ∙ simp append_assoc in
    ap (λ r. take (before pages es k + i) r) e
    ∙ take_at (front ++ take i page) back (before pages es k + i)
    (omega (arith, length-append front (take i page), length-take-le i page l))

pub back_blocks : (pages : List (List Block)) (es : List PageEntry) (k i : ℕ) (d : PageEntry) → k < length es
    → i ≤ length (blocks_of pages (get_or es k d))
    → drop (before pages es k + i) (flat pages es) ≡ drop i (blocks_of pages (get_or es k d)) ++ flat pages (drop (k + 1) es)
back_blocks pages es k i d h l =
    let page : List Block = blocks_of pages (get_or es k d) in
    let front : List Block = flat pages (take k es) in
    let back : List Block = drop i page ++ flat pages (drop (k + 1) es) in
    let e : flat pages es ≡ (front ++ take i page) ++ back =
    around_page pages es k d h
    ∙ ap (λ r. front ++ (r ++ flat pages (drop (k + 1) es))) (sym (take-append-drop i page))
    ∙ simp append_assoc in
    ap (λ r. drop (before pages es k + i) r) e
    ∙ drop_at (front ++ take i page) back (before pages es k + i)
    (omega (arith, length-append front (take i page), length-take-le i page l))

-- the blocks that an edit leaves of its first page, its own, and those that it leaves of its last page
pub touched_same : (pages : List (List Block)) (es : List PageEntry) (k i l j : ℕ) (d : PageEntry) (new : List Block)
    → k < length es → i ≤ length (blocks_of pages (get_or es k d)) → l < length es
    → j ≤ length (blocks_of pages (get_or es l d))
    → flat pages (take k es)
    ++ (take i (blocks_of pages (get_or es k d)) ++ new ++ drop j (blocks_of pages (get_or es l d)))
    ++ flat pages (drop (l + 1) es)
    ≡ spliced (flat pages es) (before pages es k + i) (before pages es l + j) new
touched_same pages es k i l j d new h u v w =
    rw (front_blocks pages es k i d h u, back_blocks pages es l j d v w) (simp append_assoc)

-- pages hold at most 64 blocks each
pub pages_hold : (pages : List (List Block)) (es : List PageEntry) (i n : ℕ) → IsPaging pages es → i + n ≤ length es
    → before pages es (i + n) ≤ before pages es i + 64 * n
pages_hold pages es i zero p l = let z : i + zero ≡ i = omega arith in rw z (omega arith)
pages_hold pages es i (suc n) p l =
    let z : i + suc n ≡ i + n + 1 = omega arith in
    let v : i + n < length es = omega arith in
    rw z (omega (
      arith,
      pages_hold pages es i n p (omega arith),
      before_more pages es (i + n) no_entry v,
      (p.each (i + n) no_entry v).fits,
    ))

-- an edit in the one page that it touches
pub page_edited : (pages : List (List Block)) (es : List PageEntry) (e : Edit) (page : List Block) → IsEdit pages es e
    → e.first ≡ e.last → page ≡ spliced (blocks_of pages (get_or es e.first no_entry)) e.from e.to e.new
    → flat pages (take e.first es) ++ page ++ flat pages (drop (e.first + 1) es) ≡ edited pages es e
page_edited pages es e page i s q =
    let h : e.first < length es = omega (arith, i.order, i.last) in
    let u : e.to ≤ length (blocks_of pages (get_or es e.first no_entry)) =
    omega (arith, i.to no_entry, ap (λ k. length (blocks_of pages (get_or es k no_entry))) s) in
    ap (λ r. flat pages (take e.first es) ++ r ++ flat pages (drop (e.first + 1) es)) q
    ∙ touched_same pages es e.first e.from e.first e.to no_entry e.new h (i.from no_entry) h u
    ∙ ap (λ k. spliced (flat pages es) (before pages es e.first + e.from) (before pages es k + e.to) e.new) s

-- such a page has as many blocks more as the edit has
pub page_len : (pages : List (List Block)) (es : List PageEntry) (e : Edit) (page : List Block) → IsEdit pages es e
    → e.first ≡ e.last → page ≡ spliced (blocks_of pages (get_or es e.first no_entry)) e.from e.to e.new
    → length page + e.to ≡ length (blocks_of pages (get_or es e.first no_entry)) + e.from + length e.new
page_len pages es e page i s q =
    let own : List Block = blocks_of pages (get_or es e.first no_entry) in
    let u : e.to ≤ length own =
    omega (arith, i.to no_entry, ap (λ k. length (blocks_of pages (get_or es k no_entry))) s) in
    omega (
      arith,
      ap length q,
      length-append (take e.from own ++ e.new) (drop e.to own),
      length-append (take e.from own) e.new,
      length-take-le e.from own (i.from no_entry),
      length-drop e.to own,
      u,
    )

pub page_some : (pages : List (List Block)) (es : List PageEntry) (e : Edit) (page : List Block) → IsEdit pages es e
    → e.first ≡ e.last → page ≡ spliced (blocks_of pages (get_or es e.first no_entry)) e.from e.to e.new → 0 < length page
page_some pages es e page i s q =
    omega (
      arith,
      i.some,
      page_len pages es e page i s q,
      i.to no_entry,
      ap (λ k. length (blocks_of pages (get_or es k no_entry))) s,
    )

-- the blocks of a region are at most two more than its pages hold
pub region_few : (pages : List (List Block)) (es : List PageEntry) (r : Region) → IsPaging pages es → IsRegion es r
    → length (refilled pages es r) ≤ length (flat pages es) + 2 → length r.blocks ≤ 64 * (r.past - r.first) + 2
region_few pages es r p i g =
    let z : r.first + (r.past - r.first) ≡ r.past = omega (arith, i.order) in
    omega (
      arith,
      g,
      length-append (flat pages (take r.first es) ++ r.blocks) (flat pages (drop r.past es)),
      length-append (flat pages (take r.first es)) r.blocks,
      ap length (flat_parts pages es r.past),
      length-append (flat pages (take r.past es)) (flat pages (drop r.past es)),
      rw z at (pages_hold pages es r.first (r.past - r.first) p (omega (arith, i.order, i.within))),
    )

-- a region with the page after it, and with the page before it
pub next_same : (pages : List (List Block)) (es : List PageEntry) (front blocks : List Block) (k : ℕ) (d : PageEntry) → k < length es
    → front ++ (blocks ++ blocks_of pages (get_or es k d)) ++ flat pages (drop (k + 1) es)
    ≡ front ++ blocks ++ flat pages (drop k es)
next_same pages es front blocks k d h = rw (drop_more es k d h) (simp append_assoc)

pub former_same : (pages : List (List Block)) (es : List PageEntry) (back blocks : List Block) (k i : ℕ) (d : PageEntry) → i ≡ k + 1 → k < length es
    → flat pages (take k es) ++ (blocks_of pages (get_or es k d) ++ blocks) ++ back
    ≡ flat pages (take i es) ++ blocks ++ back
former_same pages es back blocks k i d e h =
    let z : flat pages (take i es) ≡ flat pages (take k es) ++ blocks_of pages (get_or es k d) =
    ap (λ n. flat pages (take n es)) e
    ∙ ap (λ r. flat pages r) (take_more es k d h)
    ∙ flat_map-append (blocks_of pages) (take k es) (get_or es k d ∷ [])
    ∙ ap (λ r. flat pages (take k es) ++ r) (append-nil (blocks_of pages (get_or es k d))) in
    rw z (simp append_assoc)

pub former_blocks : (none one two page blocks : List Block) (m : ℕ) → none ≡ [] → one ≡ none ++ slice_range page 0 m
    → m ≡ length page → two ≡ one ++ blocks → two ≡ page ++ blocks
former_blocks none one two page blocks m z a p c =
    c
    ∙ ap (λ x. x ++ blocks) (a ∙ ap (λ x. x ++ slice_range page 0 m) z ∙ ap (λ i. slice_range page 0 i) p ∙ range_whole page)

-- of two places in pages the earlier one is in a page no later
pub page_order : (pages : List (List Block)) (es : List PageEntry) (k i l j : ℕ) (d : PageEntry) → l < length es
    → j ≤ length (blocks_of pages (get_or es l d)) → before pages es k + i < before pages es l + j → k ≤ l
page_order pages es k i l j d h u o =
    ⊎_elim (λ (v : l < k). absurd (omega (arith, before_more pages es l d h, before_mono pages es (l + 1) k (omega arith))))
    (λ (v : k ≤ l). v) (cases_lt l k)

-- a place in a page is one among all blocks
place_within : (pages : List (List Block)) (es : List PageEntry) (k i : ℕ) (d : PageEntry) → k < length es
    → i ≤ length (blocks_of pages (get_or es k d)) → before pages es k + i ≤ length (flat pages es)
place_within pages es k i d h u = omega (arith, before_more pages es k d h, before_le pages es (k + 1))

-- how many blocks there are after an edit
pub edit_len : (pages : List (List Block)) (es : List PageEntry) (e : Edit) → IsEdit pages es e
    → length (edited pages es e) + edit_to pages es e ≡ length (flat pages es) + edit_from pages es e + length e.new
edit_len pages es e h =
    let bs : List Block = flat pages es in
    let from : ℕ = edit_from pages es e in
    let to : ℕ = edit_to pages es e in
    let l : from ≤ length bs = place_within pages es e.first e.from no_entry (omega (arith, h.order, h.last)) (h.from no_entry) in
    let u : to ≤ length bs = place_within pages es e.last e.to no_entry h.last (h.to no_entry) in
    omega (
      arith,
      length-append (take from bs ++ e.new) (drop to bs),
      length-append (take from bs) e.new,
      length-take-le from bs l,
      length-drop to bs,
    )

-- the blocks of a page
pub page_row : (pages : List (List Block)) (es : List PageEntry) (k : ℕ) (d : PageEntry) → IsPaging pages es → k < length es
    → AreRow (blocks_of pages (get_or es k d))
page_row pages es k d p h =
    let front : List Block = flat pages (take k es) in
    let page : List Block = blocks_of pages (get_or es k d) in
    let back : List Block = flat pages (drop (k + 1) es) in
    let e : flat pages es ≡ front ++ page ++ back = around_page pages es k d h ∙ sym (append_assoc front page back) in
    row_middle front page back (rw e at p.tiled)
