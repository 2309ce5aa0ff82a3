-- The pages and their entries as one list of blocks.
use Rattle.std.specs.List.{flat_map, slice_get}
use Rattle.std.specs.List.Sorted.{IsNonDecreasingBy}
use Rattle.std.proofs.Common.{◌≡◌, ℕ, ◌+◌, ◌-◌, ◌<◌, ◌≤◌, List, [], ◌∷◌, ◌++◌, All, length, take, drop, get_or, arith, ap, sym, ◌∙◌, refl, Some, length-append, ⊎_elim}
use Rattle.std.proofs.lemmas.Bool.{cases_lt}
use Rattle.std.proofs.lemmas.List.{take-append-drop, take-take, take_more, take_all, get_or_default}
use Rattle.std.proofs.lemmas.List.Concat.{get_or-flat_map}
use Rattle.std.proofs.lemmas.Grind.{flat_map-append}
use Rattle.std.proofs.lemmas.Option.{get_or_from_slice_get, slice_get_within, slice_get_read}
use Rattle.block_list.specs.declared.block.Block.{Block}
use Rattle.block_list.specs.Stretches.{covered, IsStretchAt}
use Rattle.block_list.specs.Edits.{IsPlace, start_of}
use Rattle.block_list.proofs.TileLemmas.{tile_at, start_mono, start_all}
use Rattle.plain_blocks.proofs.EditLemmas.{no_block, rising}
use Rattle.plain_blocks.proofs.LookupLemmas.{stretch_held, place_held}
use Rattle.block_pages.specs.declared.page_entry.PageEntry.{PageEntry}
use Rattle.block_pages.specs.Search.{IsSearched}
use Rattle.block_pages.specs.PageEntries.{IsEntryOf}
use Rattle.block_pages.proofs.SearchLemmas.{block_begins}
use Rattle.paged_blocks.specs.Paging.{blocks_of, flat, before, IsEntry, IsPaging, IsHeld}

-- an entry to read a list with
abbrev pub no_entry : PageEntry
no_entry = record { page = 0; pos = 0; len = 0; tally = record { non_tried = 0; non_trimmed = 0; non_scraped = 0; bad_sector = 0; finished = 0 } }

abbrev pub entry_begins : PageEntry → ℕ
entry_begins e = e.pos

pub before_le : (pages : List (List Block)) (es : List PageEntry) (i : ℕ) → before pages es i ≤ length (flat pages es)
before_le pages es i =
    omega (
      arith,
      ap (λ r. length (flat pages r)) (take-append-drop i es),
      ap length (flat_map-append (blocks_of pages) (take i es) (drop i es)),
      length-append (flat pages (take i es)) (flat pages (drop i es)),
    )

pub before_mono : (pages : List (List Block)) (es : List PageEntry) (i j : ℕ) → i ≤ j → before pages es i ≤ before pages es j
before_mono pages es i j h = rw (take-take i j es h) at (before_le pages (take j es) i)

pub before_more : (pages : List (List Block)) (es : List PageEntry) (i : ℕ) (d : PageEntry) → i < length es
    → before pages es (i + 1) ≡ before pages es i + length (blocks_of pages (get_or es i d))
before_more pages es i d h =
    let e : PageEntry = get_or es i d in
    ap (λ r. length (flat pages r)) (take_more es i d h)
    ∙ ap length (flat_map-append (blocks_of pages) (take i es) (e ∷ []))
    ∙ length-append (flat pages (take i es)) (blocks_of pages e ++ [])
    ∙ omega (arith, length-append (blocks_of pages e) [])

pub before_all : (pages : List (List Block)) (es : List PageEntry) (i : ℕ) → length es ≤ i → before pages es i ≡ length (flat pages es)
before_all pages es i h = ap (λ r. length (flat pages r)) (take_all i es h)

-- the entry after one whose page ends where the map goes on
pub next_entry : (pages : List (List Block)) (es : List PageEntry) (k n : ℕ) (d : PageEntry) → k < length es
    → length (blocks_of pages (get_or es k d)) ≤ n → before pages es k + n < length (flat pages es) → k + 1 < length es
next_entry pages es k n d h l u =
    ⊎_elim (λ (v : k + 1 < length es). v)
    (λ (v : length es ≤ k + 1). absurd (omega (arith, before_more pages es k d h, before_all pages es (k + 1) v)))
    (cases_lt (k + 1) (length es))

-- an entry with blocks in front of its own isn't the first
pub later_entry : (pages : List (List Block)) (es : List PageEntry) (k : ℕ) → 0 < before pages es k → 0 < k
later_entry pages es k h =
    ⊎_elim (λ (v : 0 < k). v)
    (λ (v : k ≤ 0).
    let none : k ≡ 0 = omega arith in
    let z : before pages es k ≡ 0 = ap (λ n. before pages es n) none in
    absurd (omega (arith, z)))
    (cases_lt 0 k)

-- a block of a page is one of the map's
pub page_read : (pages : List (List Block)) (es : List PageEntry) (i j : ℕ) (e : PageEntry) (d : Block) → i < length es
    → j < length (blocks_of pages (get_or es i e))
    → get_or (flat pages es) (before pages es i + j) d ≡ get_or (blocks_of pages (get_or es i e)) j d
page_read pages es i j e d h l = get_or-flat_map (blocks_of pages) es i j e d h l

pub page_index : (pages : List (List Block)) (es : List PageEntry) (i j : ℕ) (e : PageEntry) → i < length es
    → j < length (blocks_of pages (get_or es i e)) → before pages es i + j < length (flat pages es)
page_index pages es i j e h l = omega (arith, before_more pages es i e h, before_le pages es (i + 1))

-- an entry begins where the blocks in front of its page end
pub entry_at : (pages : List (List Block)) (es : List PageEntry) (i : ℕ) (d : PageEntry) → IsPaging pages es → i < length es
    → (get_or es i d).pos ≡ start_of (flat pages es) (before pages es i)
entry_at pages es i d p h =
    let e = p.each i d h in
    let z : before pages es i + 0 ≡ before pages es i = omega arith in
    let r = ap block_begins (rw z at (page_read pages es i 0 d no_block h e.some)) in
    let t = tile_at (flat pages es) (before pages es i) no_block p.tiled (rw z at (page_index pages es i 0 d h e.some)) in
    omega (arith, r, t.begins, e.begins no_block)

pub entries_rise : (pages : List (List Block)) (es : List PageEntry) → IsPaging pages es → IsNonDecreasingBy entry_begins es
entries_rise pages es p i j d l u =
    omega (
      arith,
      entry_at pages es i d p (omega arith),
      entry_at pages es j d p u,
      start_mono (flat pages es) (before pages es i) (before pages es j) (before_mono pages es i j l),
    )

pub blocks_rise : (pages : List (List Block)) (es : List PageEntry) (k : ℕ) (e : PageEntry) → IsPaging pages es → k < length es
    → IsNonDecreasingBy block_begins (blocks_of pages (get_or es k e))
blocks_rise pages es k e p h i j d l u =
    let v : i < length (blocks_of pages (get_or es k e)) = omega arith in
    omega (
      arith,
      ap block_begins (page_read pages es k i e d h v),
      ap block_begins (page_read pages es k j e d h u),
      rising (flat pages es) p.tiled (before pages es k + i) (before pages es k + j) d (omega arith)
          (page_index pages es k j e h u),
    )

-- the blocks of the first pages, and of the last of them those that begin before a position, are those of the map that do
pub place_in_page : (pages : List (List Block)) (es : List PageEntry) (at k j : ℕ) (e : PageEntry) → IsPaging pages es
    → 0 < at → at ≤ length (flat_map covered (flat pages es)) → IsSearched entry_begins es at (k + 1)
    → IsSearched block_begins (blocks_of pages (get_or es k e)) at j
    → IsPlace (flat pages es) at (before pages es k + j)
place_in_page pages es at k j e p z w s t =
    let bs : List Block = flat pages es in
    let page : List Block = blocks_of pages (get_or es k e) in
    let h : k < length es = omega (arith, s.within) in
    let y = p.each k e h in
    let some : 0 < j =
    ⊎_elim (λ (l : 0 < j). l)
    (λ (l : j ≤ 0). absurd (omega (arith, t.past 0 no_block l y.some, y.begins no_block, s.before k e (omega arith))))
    (cases_lt 0 j) in
    let more = before_more pages es k e h in
    let inner : before pages es k + j < length bs → at ≤ start_of bs (before pages es k + j) =
    λ u. ⊎_elim
    (λ (l : j < length page). omega (
      arith,
      t.past j no_block (omega arith) l,
      ap block_begins (page_read pages es k j e no_block h l),
      (tile_at bs (before pages es k + j) no_block p.tiled u).begins,
    ))
    (λ (l : length page ≤ j).
    let q : before pages es k + j ≡ before pages es (k + 1) = omega (arith, t.within, more) in
    let v : k + 1 < length es =
    ⊎_elim (λ (m : k + 1 < length es). m)
    (λ (m : length es ≤ k + 1). absurd (omega (arith, q, u, before_all pages es (k + 1) m)))
    (cases_lt (k + 1) (length es)) in
    rw q (omega (arith, entry_at pages es (k + 1) no_entry p v, s.past (k + 1) no_entry (omega arith) v)))
    (cases_lt j (length page)) in
    record {
      index = omega (arith, t.within, more, before_le pages es (k + 1));
      before = λ _.
          let l : j - 1 < length page = omega (arith, t.within) in
          let q : before pages es k + (j - 1) ≡ before pages es k + j - 1 = omega arith in
          rw (← q) (omega (
            arith,
            t.before (j - 1) no_block (omega arith),
            ap block_begins (page_read pages es k (j - 1) e no_block h l),
            (tile_at bs (before pages es k + (j - 1)) no_block p.tiled (page_index pages es k (j - 1) e h l)).begins,
          ));
      reaches = ⊎_elim (λ (l : before pages es k + j < length bs). inner l)
          (λ (l : length bs ≤ before pages es k + j). omega (arith, start_all bs (before pages es k + j) l))
          (cases_lt (before pages es k + j) (length bs));
    }

-- a map that has a position has a page, and the first one begins before the position's end
pub some_entry : (pages : List (List Block)) (es : List PageEntry) (at : ℕ) → 0 < at
    → at ≤ length (flat_map covered (flat pages es)) → 0 < length es
some_entry pages es at z w =
    let bs : List Block = flat pages es in
    let none : before pages es 0 ≡ 0 = refl in
    let start : start_of bs 0 ≡ 0 = refl in
    ⊎_elim (λ (m : 0 < length es). m)
    (λ (m : length es ≤ 0).
    let e : length bs ≤ 0 = omega (arith, before_all pages es 0 m, none) in
    absurd (omega (arith, start_all bs 0 e, start)))
    (cases_lt 0 (length es))

pub first_entry : (pages : List (List Block)) (es : List PageEntry) (at : ℕ) (d : PageEntry) → IsPaging pages es → 0 < at
    → at ≤ length (flat_map covered (flat pages es)) → (get_or es 0 d).pos < at
first_entry pages es at d p z w =
    let none : before pages es 0 ≡ 0 = refl in
    let start : start_of (flat pages es) 0 ≡ 0 = refl in
    omega (arith, rw none at (entry_at pages es 0 d p (some_entry pages es at z w)), start)

-- its page's first block does too
pub first_block_begins : (pages : List (List Block)) (es : List PageEntry) (at k : ℕ) (e : PageEntry) (d : Block) → IsPaging pages es
    → IsSearched entry_begins es at (k + 1) → (get_or (blocks_of pages (get_or es k e)) 0 d).pos < at
first_block_begins pages es at k e d p s =
    omega (arith, (p.each k e (omega (arith, s.within))).begins d, s.before k e (omega arith))

pub some_block : (pages : List (List Block)) (es : List PageEntry) (at k j : ℕ) (e : PageEntry) → IsPaging pages es
    → IsSearched entry_begins es at (k + 1) → IsSearched block_begins (blocks_of pages (get_or es k e)) at j → 0 < j
some_block pages es at k j e p s t =
    let y = p.each k e (omega (arith, s.within)) in
    ⊎_elim (λ (l : 0 < j). l)
    (λ (l : j ≤ 0). absurd (omega (arith, t.past 0 no_block l y.some, y.begins no_block, s.before k e (omega arith))))
    (cases_lt 0 j)

pub held_in_page : (pages : List (List Block)) (es : List PageEntry) (at k j : ℕ) (e : PageEntry) (page : List Block)
    → IsPaging pages es → 0 < at → at ≤ length (flat_map covered (flat pages es)) → IsSearched entry_begins es at (k + 1)
    → page ≡ blocks_of pages (get_or es k e) → IsSearched block_begins page at j → IsHeld pages es at k j
held_in_page pages es at k j e page p z w s q t =
    let t' : IsSearched block_begins (blocks_of pages (get_or es k e)) at j = rw (← q) t in
    let h : k < length es = omega (arith, s.within) in
    record {
      entry = h;
      block = some_block pages es at k j e p s t';
      within = λ d. rw (get_or_default es k d e h) t'.within;
      place = place_in_page pages es at k j e p z w s t';
    }

-- the page that was read is that of the entry
pub named_by : (pages : List (List Block)) (es : List PageEntry) (k : ℕ) (e : PageEntry) (page : List Block)
    → All (IsEntry pages) es → k < length es → page ≡ get_or pages (get_or es k e).page page → page ≡ blocks_of pages (get_or es k e)
named_by pages es k e page a h q = q ∙ get_or_default pages (get_or es k e).page page [] (a k e h).page

pub named : (pages : List (List Block)) (es : List PageEntry) (k : ℕ) (e : PageEntry) (page : List Block) → IsPaging pages es
    → k < length es → page ≡ get_or pages (get_or es k e).page page → page ≡ blocks_of pages (get_or es k e)
named pages es k e page p h q = named_by pages es k e page p.each h q

-- an entry that was read says what its page holds
pub entry_says : (pages : List (List Block)) (es : List PageEntry) (k : ℕ) (d e : PageEntry) (page : List Block)
    → All (IsEntry pages) es → k < length es → e ≡ get_or es k d → page ≡ get_or pages e.page page → IsEntryOf page e.page e
entry_says pages es k d e page a h q r =
    let y = a k d h in
    let v = named_by pages es k d page a h (rw q at r) in
    rw (v, q) (record { page = refl; len = y.len; fits = y.fits; begins = y.begins; tally = y.tally })

-- a block that was read in its page
pub read_in_page : (pages : List (List Block)) (es : List PageEntry) (k j : ℕ) (e : PageEntry) (b : Block) → k < length es
    → slice_get (blocks_of pages (get_or es k e)) j ≡ Some b → b ≡ get_or (flat pages es) (before pages es k + j) b
read_in_page pages es k j e b h r =
    sym (get_or_from_slice_get (blocks_of pages (get_or es k e)) j b b r)
    ∙ sym (page_read pages es k j e b h (slice_get_within (blocks_of pages (get_or es k e)) j b r))

pub stretch_in_page : (pages : List (List Block)) (es : List PageEntry) (x k j : ℕ) (e : PageEntry) (page : List Block) (b : Block)
    → IsPaging pages es → IsHeld pages es (x + 1) k j → page ≡ get_or pages (get_or es k e).page page
    → slice_get page (j - 1) ≡ Some b → IsStretchAt (flat_map covered (flat pages es)) x b
stretch_in_page pages es x k j e page b p h q r =
    let z : before pages es k + (j - 1) ≡ before pages es k + j - 1 = omega (arith, h.block) in
    let w = read_in_page pages es k (j - 1) e b h.entry (rw (named pages es k e page p h.entry q) at r) in
    stretch_held _ _ _ _ p.tiled p.merged h.place (rw z at w)

-- a block that was read in the page of an entry is the map's
pub block_in_page : (pages : List (List Block)) (es : List PageEntry) (k j i : ℕ) (e : PageEntry) (page : List Block) (b : Block)
    → IsPaging pages es → k < length es → before pages es k + j ≡ i → page ≡ get_or pages (get_or es k e).page page
    → slice_get page j ≡ Some b → slice_get (flat pages es) i ≡ Some b
block_in_page pages es k j i e page b p h z q r =
    let w = rw (named pages es k e page p h q) at r in
    let l = slice_get_within (blocks_of pages (get_or es k e)) j b w in
    let v : slice_get (flat pages es) (before pages es k + j) ≡ Some b =
    slice_get_read (flat pages es) (length (flat pages es)) (before pages es k + j) b refl (page_index pages es k j e h l)
    (read_in_page pages es k j e b h w) in
    rw z at v

-- a block of a page that holds a position is the last one that begins at or before it
pub held_there : (pages : List (List Block)) (es : List PageEntry) (x k j : ℕ) (e : PageEntry) (page : List Block) (b : Block)
    → IsPaging pages es → k < length es → page ≡ get_or pages (get_or es k e).page page → slice_get page j ≡ Some b
    → b.pos ≤ x → x - b.pos < b.size → IsHeld pages es (x + 1) k (j + 1)
held_there pages es x k j e page b p h q r l u =
    let w = rw (named pages es k e page p h q) at r in
    let m = slice_get_within (blocks_of pages (get_or es k e)) j b w in
    let z : before pages es k + (j + 1) ≡ before pages es k + j + 1 = omega arith in
    record {
      entry = h;
      block = omega arith;
      within = λ d. rw (get_or_default es k d e h) (omega arith);
      place = rw z (place_held (flat pages es) (before pages es k + j) x b p.tiled (page_index pages es k j e h m)
          (read_in_page pages es k j e b h w) l u);
    }

-- the block that was read in the page of the last one that begins before a position
pub held_read : (pages : List (List Block)) (es : List PageEntry) (at k j : ℕ) (e : PageEntry) (page : List Block) (b : Block)
    → IsPaging pages es → IsHeld pages es at k j → page ≡ get_or pages (get_or es k e).page page
    → slice_get page (j - 1) ≡ Some b → b ≡ get_or (flat pages es) (before pages es k + (j - 1)) b
held_read pages es at k j e page b p h q r =
    read_in_page pages es k (j - 1) e b h.entry (rw (named pages es k e page p h.entry q) at r)

pub last_index : (pages : List (List Block)) (es : List PageEntry) (d : PageEntry) → IsPaging pages es → 0 < length es
    → before pages es (length es - 1) + (get_or es (length es - 1) d).len ≡ length (flat pages es)
last_index pages es d p h =
    let k : ℕ = length es - 1 in
    omega (arith, (p.each k d (omega arith)).len, before_more pages es k d (omega arith), before_all pages es (k + 1) (omega arith))

-- a map with a page has a position
pub some_position : (pages : List (List Block)) (es : List PageEntry) → IsPaging pages es → 0 < length es
    → 0 < length (flat_map covered (flat pages es))
some_position pages es p h =
    let e = p.each 0 no_entry h in
    let l = page_index pages es 0 0 no_entry h e.some in
    let t = tile_at (flat pages es) 0 no_block p.tiled (omega arith) in
    omega (arith, t.sized, t.within)
