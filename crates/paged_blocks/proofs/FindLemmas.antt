-- What is known of the map while a search passes pages, and what it finds.
use Rattle.std.specs.List.{flat_map, slice_get}
use Rattle.std.proofs.Common.{◌≡◌, ℕ, zero, suc, ◌+◌, ◌-◌, ◌<◌, ◌≤◌, ◌^◌, List, length, get_or, max, min, Option, None, Some, IfNone, arith, ap, sym, ◌∙◌, ⊎_elim}
use Rattle.std.proofs.lemmas.Bool.{cases_lt}
use Rattle.std.proofs.lemmas.List.{get_or_default}
use Rattle.std.proofs.lemmas.Option.{slice_get_within}
use Rattle.block_list.specs.declared.block.Block.{Block}
use Rattle.block_list.specs.declared.status.Status.{Status}
use Rattle.block_list.specs.Map.{Has}
use Rattle.block_list.specs.Places.{IsFirst, IsLast, IsRangeUp, IsRangeDown}
use Rattle.block_list.specs.Stretches.{covered}
use Rattle.block_list.specs.Edits.{start_of}
use Rattle.block_list.proofs.TileLemmas.{tile_at, tile_read, start_mono}
use Rattle.plain_blocks.proofs.EditLemmas.{no_block, read_there}
use Rattle.plain_blocks.proofs.LookupLemmas.{stretch_held, clear_after, clear_before, clear_up, found_first, found_range_up, found_last, found_range_down}
use Rattle.block_pages.specs.declared.page_entry.PageEntry.{PageEntry}
use Rattle.block_pages.specs.Tally.{tallied}
use Rattle.block_pages.specs.Search.{AreNonempty, HasNoneOf, HasAt, IsFirstBlock, IsLastBlock}
use Rattle.block_pages.proofs.CountLemmas.{none_counted, counted_none}
use Rattle.paged_blocks.specs.Walks.{IsBare}
use Rattle.paged_blocks.specs.Paging.{blocks_of, flat, before, IsEntry, IsPaging, IsHeld}
use Rattle.paged_blocks.proofs.PagingLemmas.{no_entry, before_more, before_mono, before_all, page_read, page_index, read_in_page}

-- blocks of a page without a status are passed
pub bare_page : (pages : List (List Block)) (es : List PageEntry) (k : ℕ) (e : PageEntry) (j n : ℕ) (from : ℕ) (s : Status)
    → IsPaging pages es → k < length es → j + n ≤ length (blocks_of pages (get_or es k e))
    → HasNoneOf (blocks_of pages (get_or es k e)) s j (j + n)
    → IsBare (flat_map covered (flat pages es)) s from (start_of (flat pages es) (before pages es k + j))
    → IsBare (flat_map covered (flat pages es)) s from (start_of (flat pages es) (before pages es k + (j + n)))
bare_page pages es k e j zero from s p h l o b = let z : j + zero ≡ j = omega arith in rw z b
bare_page pages es k e j (suc n) from s p h l o b =
    let bs : List Block = flat pages es in
    let i : ℕ = before pages es k + (j + n) in
    let u : j + n < length (blocks_of pages (get_or es k e)) = omega arith in
    let rest = bare_page pages es k e j n from s p h (omega arith)
    (record { none = λ m d v w q. o.none m d v (omega arith) q }) b in
    let v : i < length bs = page_index pages es k (j + n) e h u in
    let r = page_read pages es k (j + n) e no_block h u in
    let c = clear_after bs i from s (get_or bs i no_block) p.tiled p.merged v (read_there bs i v)
    (λ q. o.none (j + n) no_block (omega arith) (omega arith) (ap (λ (y : Block). y.status) (sym r) ∙ q))
    (record { clear = rest.bare }) in
    let z : before pages es k + (j + suc n) ≡ i + 1 = omega arith in
    rw z (record { bare = c.clear })

-- a page's blocks from one on have no position of a status
pub bare_rest : (pages : List (List Block)) (es : List PageEntry) (k : ℕ) (e : PageEntry) (j : ℕ) (from : ℕ) (s : Status)
    → IsPaging pages es → k < length es → j ≤ length (blocks_of pages (get_or es k e))
    → HasNoneOf (blocks_of pages (get_or es k e)) s j (length (blocks_of pages (get_or es k e)))
    → IsBare (flat_map covered (flat pages es)) s from (start_of (flat pages es) (before pages es k + j))
    → IsBare (flat_map covered (flat pages es)) s from (start_of (flat pages es) (before pages es (k + 1)))
bare_rest pages es k e j from s p h l o b =
    let m : ℕ = length (blocks_of pages (get_or es k e)) in
    let z : j + (m - j) ≡ m = omega arith in
    let y : before pages es (k + 1) ≡ before pages es k + (j + (m - j)) = omega (arith, before_more pages es k e h) in
    rw y (bare_page pages es k e j (m - j) from s p h (omega arith) (rw z o) b)

-- an entry that counts no position of a status names a page without it
pub none_tallied : (pages : List (List Block)) (e : PageEntry) (s : Status) (from to : ℕ) → IsEntry pages e
    → AreNonempty (blocks_of pages e) → to ≤ length (blocks_of pages e) → tallied e.tally s ≡ 0
    → HasNoneOf (blocks_of pages e) s from to
none_tallied pages e s from to h f l z = record {
  none = λ i d v u q.
      none_counted (blocks_of pages e) s i d (omega (arith, h.tally s)) (omega arith) (f.filled i d (omega arith)) q;
}

-- one that counts some names a page with it
pub some_tallied : (pages : List (List Block)) (e : PageEntry) (s : Status) → IsEntry pages e
    → (tallied e.tally s ≡ 0 → ⊥) → HasNoneOf (blocks_of pages e) s 0 (length (blocks_of pages e)) → ⊥
some_tallied pages e s h z o = z (omega (arith, h.tally s, counted_none (blocks_of pages e) s o))

-- so where nothing is found in a whole page, its blocks weren't looked at
pub passed_up : (pages : List (List Block)) (e : PageEntry) (s : Status) (j old new : ℕ) (r : Option Block) → IsEntry pages e
    → (tallied e.tally s ≡ 0 → ⊥) → IfNone r (HasNoneOf (blocks_of pages e) s j (length (blocks_of pages e)))
    → IfNone r (j ≡ 0 → new ≡ old)
passed_up pages e s j old new None h z o = λ q. absurd (some_tallied pages e s h z (rw q at o))
passed_up pages e s j old new (Some b) h z o = tt

pub passed_down : (pages : List (List Block)) (e : PageEntry) (s : Status) (j old new : ℕ) (r : Option Block) → IsEntry pages e
    → (tallied e.tally s ≡ 0 → ⊥) → IfNone r (HasNoneOf (blocks_of pages e) s 0 j)
    → IfNone r (j ≡ length (blocks_of pages e) → new ≡ old)
passed_down pages e s j old new None h z o = λ q. absurd (some_tallied pages e s h z (rw q at o))
passed_down pages e s j old new (Some b) h z o = tt

-- and where nothing is found in a part of one, not all of its blocks were looked at
pub missed_up : (pages : List (List Block)) (e : PageEntry) (s : Status) (j old new : ℕ) (r : Option Block) → IsEntry pages e
    → (tallied e.tally s ≡ 0 → ⊥) → IfNone r (HasNoneOf (blocks_of pages e) s j (length (blocks_of pages e)))
    → IfNone r (new ≤ old + (length (blocks_of pages e) - j)) → IfNone r (new < old + length (blocks_of pages e))
missed_up pages e s j old new None h z o c =
    ⊎_elim (λ (v : 0 < j). omega (arith, h.some))
    (λ (v : j ≤ 0). let q : j ≡ 0 = omega arith in absurd (some_tallied pages e s h z (rw q at o)))
    (cases_lt 0 j)
missed_up pages e s j old new (Some b) h z o c = tt

pub missed_down : (pages : List (List Block)) (e : PageEntry) (s : Status) (j old new : ℕ) (r : Option Block) → IsEntry pages e
    → j ≤ length (blocks_of pages e) → (tallied e.tally s ≡ 0 → ⊥) → IfNone r (HasNoneOf (blocks_of pages e) s 0 j)
    → IfNone r (new ≤ old + j) → IfNone r (new < old + length (blocks_of pages e))
missed_down pages e s j old new None h l z o c =
    ⊎_elim (λ (v : j < length (blocks_of pages e)). omega arith)
    (λ (v : length (blocks_of pages e) ≤ j).
    let q : j ≡ length (blocks_of pages e) = omega arith in absurd (some_tallied pages e s h z (rw q at o)))
    (cases_lt j (length (blocks_of pages e)))
missed_down pages e s j old new (Some b) h l z o c = tt

-- no block of a page is empty
pub page_filled : (pages : List (List Block)) (es : List PageEntry) (k : ℕ) (e : PageEntry) → IsPaging pages es → k < length es
    → AreNonempty (blocks_of pages (get_or es k e))
page_filled pages es k e p h = record {
  filled = λ i d l.
      let t = tile_at (flat pages es) (before pages es k + i) d p.tiled (page_index pages es k i e h l) in
      rw (page_read pages es k i e d h l) at t.sized;
}

pub first_found : (pages : List (List Block)) (es : List PageEntry) (k : ℕ) (e : PageEntry) (j from : ℕ) (s : Status) (b : Block)
    → IsPaging pages es → k < length es → IsFirstBlock (blocks_of pages (get_or es k e)) s j b
    → IsBare (flat_map covered (flat pages es)) s from (start_of (flat pages es) (before pages es k + j))
    → from < start_of (flat pages es) (before pages es k + j + 1)
    → IsFirst (Has (flat_map covered (flat pages es)) s) from (max from b.pos)
first_found pages es k e j from s b p h f c u =
    let i : ℕ = f.index in
    let l : i < length (blocks_of pages (get_or es k e)) = slice_get_within (blocks_of pages (get_or es k e)) i b f.read in
    let g : ℕ = before pages es k + i in
    let z : j + (i - j) ≡ i = omega (arith, f.after) in
    let y : before pages es k + (j + (i - j)) ≡ g = omega (arith, f.after) in
    let c' = bare_page pages es k e j (i - j) from s p h (omega (arith, l, f.after)) (rw z f.others) c in
    let w = rw y at c' in
    found_first (flat pages es) g from s b p.tiled p.merged (page_index pages es k i e h l)
    (read_in_page pages es k i e b h f.read) (record { clear = w.bare })
    (omega (arith, start_mono (flat pages es) (before pages es k + j + 1) (g + 1) (omega (arith, f.after))))
    f.has

pub first_range : (pages : List (List Block)) (es : List PageEntry) (k : ℕ) (e : PageEntry) (j from : ℕ) (s : Status) (b : Block)
    → IsPaging pages es → k < length es → IsFirstBlock (blocks_of pages (get_or es k e)) s j b
    → from < start_of (flat pages es) (before pages es k + j + 1)
    → IsRangeUp (Has (flat_map covered (flat pages es)) s) (max from b.pos) (b.pos + b.size)
first_range pages es k e j from s b p h f u =
    let i : ℕ = f.index in
    let l : i < length (blocks_of pages (get_or es k e)) = slice_get_within (blocks_of pages (get_or es k e)) i b f.read in
    let g : ℕ = before pages es k + i in
    found_range_up (flat pages es) g from s b p.tiled p.merged (page_index pages es k i e h l)
    (read_in_page pages es k i e b h f.read)
    (omega (arith, start_mono (flat pages es) (before pages es k + j + 1) (g + 1) (omega (arith, f.after))))
    f.has

-- the block that holds a position is the first that may have a status at or past it
pub bare_start : (pages : List (List Block)) (es : List PageEntry) (k j from : ℕ) (s : Status) → IsHeld pages es (from + 1) k j
    → IsBare (flat_map covered (flat pages es)) s from (start_of (flat pages es) (before pages es k + (j - 1)))
bare_start pages es k j from s h =
    let z : before pages es k + (j - 1) ≡ before pages es k + j - 1 = omega (arith, h.block) in
    record { bare = λ x l u q. absurd (omega (arith, ap (λ n. start_of (flat pages es) n) z, h.place.before (omega (arith, h.block)))) }

-- the page of a later entry lies past a position
pub reaches_page : (pages : List (List Block)) (es : List PageEntry) (k j from m : ℕ) (e : PageEntry) → IsHeld pages es (from + 1) k j
    → k < m → from < start_of (flat pages es) (before pages es m + 0 + 1)
reaches_page pages es k j from m e h l =
    let a = h.place.reaches in
    let b = before_more pages es k e h.entry in
    let c = before_mono pages es (k + 1) m (omega arith) in
    let w = h.within e in
    omega (
      arith,
      start_mono (flat pages es) (before pages es k + j) (before pages es m + 0 + 1) (omega arith),
    )

pub bare_up : (pages : List (List Block)) (es : List PageEntry) (k from : ℕ) (s : Status) → length es ≤ k
    → IsBare (flat_map covered (flat pages es)) s from (start_of (flat pages es) (before pages es k))
    → (x : ℕ) → from ≤ x → Has (flat_map covered (flat pages es)) s x → ⊥
bare_up pages es k from s h b =
    clear_up (flat pages es) (before pages es k) from s (omega (arith, before_all pages es k h)) (record { clear = b.bare })

pub read_short : (pages : List (List Block)) (es : List PageEntry) (k i : ℕ) (e : PageEntry) (b : Block) → IsPaging pages es
    → k < length es → slice_get (blocks_of pages (get_or es k e)) i ≡ Some b → b.pos + b.size < 2 ^ 63
read_short pages es k i e b p h r =
    let l = slice_get_within (blocks_of pages (get_or es k e)) i b r in
    (tile_read (flat pages es) (before pages es k + i) b p.tiled (page_index pages es k i e h l) (read_in_page pages es k i e b h r)).short

-- blocks of a page without a status are passed downwards
pub bare_down : (pages : List (List Block)) (es : List PageEntry) (k : ℕ) (e : PageEntry) (i n to : ℕ) (s : Status)
    → IsPaging pages es → k < length es → i + n ≤ length (blocks_of pages (get_or es k e))
    → HasNoneOf (blocks_of pages (get_or es k e)) s i (i + n)
    → IsBare (flat_map covered (flat pages es)) s (start_of (flat pages es) (before pages es k + (i + n))) to
    → IsBare (flat_map covered (flat pages es)) s (start_of (flat pages es) (before pages es k + i)) to
bare_down pages es k e i zero to s p h l o b = let z : i + zero ≡ i = omega arith in rw z at b
bare_down pages es k e i (suc n) to s p h l o b =
    let bs : List Block = flat pages es in
    let g : ℕ = before pages es k + (i + n) in
    let u : i + n < length (blocks_of pages (get_or es k e)) = omega arith in
    let v : g < length bs = page_index pages es k (i + n) e h u in
    let r = page_read pages es k (i + n) e no_block h u in
    let z : before pages es k + (i + suc n) ≡ g + 1 = omega arith in
    let b' = rw z at b in
    let c = clear_before bs g to s (get_or bs g no_block) p.tiled p.merged v (read_there bs g v)
    (λ q. o.none (i + n) no_block (omega arith) (omega arith) (ap (λ (y : Block). y.status) (sym r) ∙ q))
    (record { clear = b'.bare }) in
    bare_down pages es k e i n to s p h (omega arith) (record { none = λ m d w x q. o.none m d w (omega arith) q })
    (record { bare = c.clear })

pub bare_front : (pages : List (List Block)) (es : List PageEntry) (k : ℕ) (e : PageEntry) (j to : ℕ) (s : Status)
    → IsPaging pages es → k < length es → j ≤ length (blocks_of pages (get_or es k e))
    → HasNoneOf (blocks_of pages (get_or es k e)) s 0 j
    → IsBare (flat_map covered (flat pages es)) s (start_of (flat pages es) (before pages es k + j)) to
    → IsBare (flat_map covered (flat pages es)) s (start_of (flat pages es) (before pages es k)) to
bare_front pages es k e j to s p h l o b =
    let z : 0 + j ≡ j = omega arith in
    let y : before pages es k + 0 ≡ before pages es k = omega arith in
    rw y at (bare_down pages es k e 0 j to s p h (omega arith) (rw z o) (rw z b))

pub last_found : (pages : List (List Block)) (es : List PageEntry) (k : ℕ) (e : PageEntry) (j to : ℕ) (s : Status) (b : Block)
    → IsPaging pages es → k < length es → j ≤ length (blocks_of pages (get_or es k e))
    → IsLastBlock (blocks_of pages (get_or es k e)) s j b
    → IsBare (flat_map covered (flat pages es)) s (start_of (flat pages es) (before pages es k + j)) to
    → ((n : ℕ) → n < j → start_of (flat pages es) (before pages es k + n) < to)
    → IsLast (Has (flat_map covered (flat pages es)) s) to (min to (b.pos + b.size))
last_found pages es k e j to s b p h l f c u =
    let i : ℕ = f.index in
    let g : ℕ = before pages es k + i in
    let z : i + 1 + (j - (i + 1)) ≡ j = omega (arith, f.below) in
    let y : before pages es k + (i + 1) ≡ g + 1 = omega arith in
    let w = rw y at (bare_down pages es k e (i + 1) (j - (i + 1)) to s p h (omega (arith, f.below)) (rw z f.others) (rw z c)) in
    found_last (flat pages es) g to s b p.tiled p.merged (page_index pages es k i e h (omega (arith, f.below)))
    (read_in_page pages es k i e b h f.read) (record { clear = w.bare }) (u i f.below) f.has

pub last_range : (pages : List (List Block)) (es : List PageEntry) (k : ℕ) (e : PageEntry) (j to : ℕ) (s : Status) (b : Block)
    → IsPaging pages es → k < length es → j ≤ length (blocks_of pages (get_or es k e))
    → IsLastBlock (blocks_of pages (get_or es k e)) s j b
    → ((n : ℕ) → n < j → start_of (flat pages es) (before pages es k + n) < to)
    → IsRangeDown (Has (flat_map covered (flat pages es)) s) b.pos (min to (b.pos + b.size))
last_range pages es k e j to s b p h l f u =
    let i : ℕ = f.index in
    found_range_down (flat pages es) (before pages es k + i) to s b p.tiled p.merged
    (page_index pages es k i e h (omega (arith, f.below))) (read_in_page pages es k i e b h f.read) (u i f.below) f.has

-- after the blocks that begin before a position there is nothing below it
pub bare_end : (pages : List (List Block)) (es : List PageEntry) (k j to : ℕ) (s : Status) → IsHeld pages es to k j
    → IsBare (flat_map covered (flat pages es)) s (start_of (flat pages es) (before pages es k + j)) to
bare_end pages es k j to s h = record { bare = λ x l u q. absurd (omega (arith, h.place.reaches)) }

pub begun_below : (pages : List (List Block)) (es : List PageEntry) (k j to : ℕ) → IsHeld pages es to k j → (n : ℕ) → n < j
    → start_of (flat pages es) (before pages es k + n) < to
begun_below pages es k j to h n l =
    omega (
      arith,
      h.place.before (omega arith),
      start_mono (flat pages es) (before pages es k + n) (before pages es k + j - 1) (omega arith),
    )

-- the page of an entry in front begins before a position
pub begun_in_front : (pages : List (List Block)) (es : List PageEntry) (k j to m : ℕ) (e : PageEntry) → IsHeld pages es to k j → m < k
    → (n : ℕ) → n < length (blocks_of pages (get_or es m e)) → start_of (flat pages es) (before pages es m + n) < to
begun_in_front pages es k j to m e h l n u =
    let b = before_more pages es m e (omega (arith, h.entry)) in
    let c = before_mono pages es (m + 1) k (omega arith) in
    omega (
      arith,
      h.place.before (omega (arith, h.block)),
      start_mono (flat pages es) (before pages es m + n) (before pages es k + j - 1) (omega (arith, h.block)),
    )

-- where a position has a status, the block that holds it has
pub held_has : (pages : List (List Block)) (es : List PageEntry) (k j x : ℕ) (e : PageEntry) (s : Status) → IsPaging pages es
    → IsHeld pages es (x + 1) k j → Has (flat_map covered (flat pages es)) s x
    → HasAt (blocks_of pages (get_or es k e)) s (j - 1)
held_has pages es k j x e s p h q =
    let page : List Block = blocks_of pages (get_or es k e) in
    let l : j - 1 < length page = omega (arith, h.block, h.within e) in
    let z : before pages es k + (j - 1) ≡ before pages es k + j - 1 = omega (arith, h.block) in
    let g : before pages es k + (j - 1) < length (flat pages es) = page_index pages es k (j - 1) e h.entry l in
    let b : Block = get_or (flat pages es) (before pages es k + (j - 1)) no_block in
    let r : b ≡ get_or (flat pages es) (before pages es k + (j - 1)) b =
    read_there (flat pages es) (before pages es k + (j - 1)) g in
    let t = stretch_held (flat pages es) x (before pages es k + j) b p.tiled p.merged h.place (rw (← z) r) in
    let v : b.status ≡ s = let w = t.stretch.has x t.begun t.holds in cc in
    record {
      index = l;
      has = λ d. ap (λ (y : Block). y.status) (sym (page_read pages es k (j - 1) e d h.entry l))
          ∙ ap (λ (y : Block). y.status) (get_or_default (flat pages es) (before pages es k + (j - 1)) d no_block g) ∙ v;
    }

-- the block that holds a position ends past it, and so do the blocks of later pages
pub held_after : (pages : List (List Block)) (es : List PageEntry) (k j from : ℕ) → IsHeld pages es (from + 1) k j
    → from < start_of (flat pages es) (before pages es k + (j - 1) + 1)
held_after pages es k j from h =
    let z : before pages es k + (j - 1) + 1 ≡ before pages es k + j = omega (arith, h.block) in
    rw z (omega (arith, h.place.reaches))

pub held_below : (pages : List (List Block)) (es : List PageEntry) (k j from m : ℕ) → IsHeld pages es (from + 1) k j → k < m
    → from < start_of (flat pages es) (before pages es m)
held_below pages es k j from m h l =
    omega (
      arith,
      h.place.reaches,
      h.within no_entry,
      before_more pages es k no_entry h.entry,
      before_mono pages es (k + 1) m (omega arith),
      start_mono (flat pages es) (before pages es k + j) (before pages es m) (omega (
        arith,
        h.within no_entry,
        before_more pages es k no_entry h.entry,
        before_mono pages es (k + 1) m (omega arith),
      )),
    )

pub begun_front : (pages : List (List Block)) (es : List PageEntry) (k j to m : ℕ) → IsHeld pages es to k j → m ≤ k
    → start_of (flat pages es) (before pages es m) < to
begun_front pages es k j to m h l =
    omega (
      arith,
      h.place.before (omega (arith, h.block)),
      start_mono (flat pages es) (before pages es m) (before pages es k + j - 1)
          (omega (arith, h.block, before_mono pages es m k l)),
    )

pub held_end : (pages : List (List Block)) (es : List PageEntry) (k j to : ℕ) (e : PageEntry) (s : Status) → IsPaging pages es
    → IsHeld pages es to k j → Has (flat_map covered (flat pages es)) s (to - 1)
    → HasAt (blocks_of pages (get_or es k e)) s (j - 1)
held_end pages es k j to e s p h q =
    let z : to - 1 + 1 ≡ to = omega (arith, begun_front pages es k j to k h (omega arith)) in
    held_has pages es k j (to - 1) e s p (rw z h) q

-- after the blocks of a whole page come those of the next
pub whole_page : (pages : List (List Block)) (es : List PageEntry) (k : ℕ) (e : PageEntry) (len : ℕ) → k < length es
    → len ≡ length (blocks_of pages (get_or es k e)) → before pages es k + len ≡ before pages es (k + 1)
whole_page pages es k e len h q = omega (arith, before_more pages es k e h)

-- a position that has a status isn't passed
pub not_bare : (map : List Status) (s : Status) (from to : ℕ) → Has map s from → from < to → IsBare map s from to → ⊥
not_bare map s from to h l b = b.bare from (omega arith) l h

pub not_bare_down : (map : List Status) (s : Status) (from to : ℕ) → Has map s (to - 1) → from < to → IsBare map s from to → ⊥
not_bare_down map s from to h l b = b.bare (to - 1) (omega arith) (omega arith) h
