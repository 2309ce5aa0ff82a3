-- The stretches of a map as the blocks of a plain list.
use Rattle.std.specs.List.{flat_map, slice_get}
use Rattle.std.proofs.Common.{◌≡◌, ℕ, ◌+◌, ◌-◌, ◌<◌, ◌≤◌, ◌^◌, List, [], ◌∷◌, ◌++◌, length, take, get_or, replicate, append-nil, Some, max, min, subst, refl, arith, ap, sym, ◌∙◌, ⊎_elim}
use Rattle.std.proofs.lemmas.Bool.{cases_lt}
use Rattle.std.proofs.lemmas.List.{take_more, take_all}
use Rattle.std.proofs.lemmas.Option.{get_or_from_slice_get, slice_get_within}
use Rattle.block_list.specs.declared.status.Status.{Status}
use Rattle.block_list.specs.declared.block.Block.{Block}
use Rattle.block_list.specs.Tiled.{Tiled}
use Rattle.block_list.specs.Map.{Has}
use Rattle.block_list.specs.Places.{IsFirst, IsLast, IsRangeUp, IsRangeDown}
use Rattle.block_list.specs.Stretches.{covered, stretches}
use Rattle.block_list.specs.Tiling.{IsMerged}
use Rattle.block_list.specs.Edits.{IsTiled, IsPlace, start_of}
use Rattle.block_list.proofs.TileLemmas.{covered-append, tile_at, tile_read, start_all, start_mono}
use Rattle.plain_blocks.proofs.EditLemmas.{no_block, rising}
use Rattle.plain_blocks.proofs.LookupLemmas.{IsClear, clear_after, clear_before, found_first, found_range_up, found_last, found_range_down}
use Rattle.block_list.proofs.ApartLemmas.{merged_from_apart}
use Rattle.block_list.proofs.StretchLemmas.{stretches_covered, stretches_apart}
use Rattle.block_pages.specs.Search.{IsSearched}
use Rattle.block_pages.proofs.SearchLemmas.{block_begins}
use Rattle.block_pages.proofs.HalvingLemmas.{IsNarrowed}
use Rattle.block_pages.proofs.RowLemmas.{stretches_tiled}
use Rattle.paged_blocks.specs.Walks.{IsBare}
use Rattle.paged_blocks.specs.declared.paged_tiles.Form.{Form}
use Rattle.paged_blocks.specs.declared.paged_tiles.Form.TheVariants.{Few, Many}
use Rattle.paged_blocks.specs.Forms.{shown, IsFormed}

pub stretches_merged : (map : List Status) → IsMerged (stretches map)
stretches_merged map = merged_from_apart (stretches map) (stretches_apart 0 map)

pub place_searched : (bs : List Block) (at n : ℕ) → IsTiled bs → at ≤ length (flat_map covered bs)
    → IsSearched block_begins bs at n → IsPlace bs at n
place_searched bs at n t w s = record {
  index = s.within;
  before = λ z. omega (arith, s.before (n - 1) no_block (omega arith), (tile_at bs (n - 1) no_block t (omega (arith, s.within))).begins);
  reaches = ⊎_elim
      (λ (l : n < length bs). omega (arith, s.past n no_block (omega arith) l, (tile_at bs n no_block t l).begins))
      (λ (l : length bs ≤ n). omega (arith, start_all bs n l))
      (cases_lt n (length bs));
}

pub block_read : (bs : List Block) (i : ℕ) (b : Block) → slice_get bs i ≡ Some b → b ≡ get_or bs i b
block_read bs i b e = sym (get_or_from_slice_get bs i b b e)

-- a map that has a position has a stretch
pub some_stretch : (map : List Status) (at : ℕ) → 0 < at → at ≤ length map → 0 < length (stretches map)
some_stretch map at z w =
    let none : start_of (stretches map) 0 ≡ 0 = refl in
    ⊎_elim (λ (l : 0 < length (stretches map)). l)
    (λ (l : length (stretches map) ≤ 0).
    absurd (omega (arith, start_all (stretches map) 0 l, none, ap length (stretches_covered 0 map))))
    (cases_lt 0 (length (stretches map)))

-- where the last stretch begins before a place, all do
all_searched : (map : List Status) (at i : ℕ) (b : Block) → length map < 2 ^ 63 → i + 1 ≡ length (stretches map)
    → slice_get (stretches map) i ≡ Some b → b.pos < at → IsSearched block_begins (stretches map) at (i + 1)
all_searched map at i b h n e l =
    let bs : List Block = stretches map in
    record {
      within = omega arith;
      before = λ j d u. omega (
        arith,
        rising bs (stretches_tiled map h) j i d (omega arith) (omega arith),
        ap block_begins (get_or_from_slice_get bs i b d e),
      );
      past = λ j d u v. absurd (omega arith);
    }

pub all_searched_place : (map : List Status) (at i : ℕ) (b : Block) → length map < 2 ^ 63 → at ≤ length map
    → i + 1 ≡ length (stretches map) → slice_get (stretches map) i ≡ Some b → b.pos < at → IsPlace (stretches map) at (i + 1)
all_searched_place map at i b h w n e l =
    place_searched (stretches map) at (i + 1) (stretches_tiled map h) (omega (arith, ap length (stretches_covered 0 map)))
    (all_searched map at i b h n e l)

-- and where it doesn't, the place is at or in front of where it begins
pub last_after : (map : List Status) (at i : ℕ) (b : Block) → length map < 2 ^ 63 → i + 1 ≡ length (stretches map)
    → slice_get (stretches map) i ≡ Some b → at ≤ b.pos → at ≤ start_of (stretches map) (length (stretches map) - 1)
last_after map at i b h n e l =
    let bs : List Block = stretches map in
    let k : i ≡ length bs - 1 = omega arith in
    omega (arith, (tile_read bs i b (stretches_tiled map h) (omega arith) (block_read bs i b e)).begins, ap (λ j. start_of bs j) k)

pub front_within : (map : List Status) (at : ℕ) → at ≤ start_of (stretches map) (length (stretches map) - 1) → at ≤ length map
front_within map at l =
    let bs : List Block = stretches map in
    omega (arith, start_mono bs (length bs - 1) (length bs) (omega arith), start_all bs (length bs) (omega arith), ap length (stretches_covered 0 map))

-- a place in front of the last stretch has one more in front of it
pub front_stretch : (map : List Status) (at : ℕ) → 0 < at → at ≤ start_of (stretches map) (length (stretches map) - 1)
    → 1 < length (stretches map)
front_stretch map at z l =
    let bs : List Block = stretches map in
    let none : start_of bs 0 ≡ 0 = refl in
    ⊎_elim (λ (u : 1 < length bs). u)
    (λ (u : length bs ≤ 1). absurd (omega (arith, start_mono bs (length bs - 1) 0 (omega arith), none)))
    (cases_lt 1 (length bs))

-- the search goes on among those in front of the last one, of which the first begins at 0
pub narrowed_front : (map : List Status) (at i : ℕ) → length map < 2 ^ 63 → 0 < at
    → at ≤ start_of (stretches map) (length (stretches map) - 1) → i ≡ length (stretches map) - 1
    → IsNarrowed block_begins (stretches map) at 0 i
narrowed_front map at i h z l n =
    let bs : List Block = stretches map in
    let t = stretches_tiled map h in
    let none : start_of bs 0 ≡ 0 = refl in
    let m = front_stretch map at z l in
    record {
      order = omega arith;
      within = omega arith;
      before = λ d. omega (arith, (tile_at bs 0 d t (omega arith)).begins, none);
      past = λ d u. omega (arith, (tile_at bs i d t u).begins, ap (λ j. start_of bs j) n);
    }

few_index : (map : List Status) (i : ℕ) (b : Block) → slice_get (stretches map) i ≡ Some b → i < length (stretches map)
few_index map i b e = slice_get_within (stretches map) i b e

-- stretches of another status are passed
pub few_after : (map : List Status) (i from : ℕ) (s : Status) (b : Block) → length map < 2 ^ 63
    → slice_get (stretches map) i ≡ Some b → (b.status ≡ s → ⊥) → IsClear map s from (start_of (stretches map) i)
    → IsClear map s from (start_of (stretches map) (i + 1))
few_after map i from s b h e o c =
    let bs : List Block = stretches map in
    let P : List Status → Type 0 = λ m. IsClear m s from (start_of bs i) → IsClear m s from (start_of bs (i + 1)) in
    subst P (stretches_covered 0 map)
    (clear_after bs i from s b (stretches_tiled map h) (stretches_merged map) (few_index map i b e) (block_read bs i b e) o) c

pub few_front : (map : List Status) (i to : ℕ) (s : Status) (b : Block) → length map < 2 ^ 63
    → slice_get (stretches map) i ≡ Some b → (b.status ≡ s → ⊥) → IsClear map s (start_of (stretches map) (i + 1)) to
    → IsClear map s (start_of (stretches map) i) to
few_front map i to s b h e o c =
    let bs : List Block = stretches map in
    let P : List Status → Type 0 = λ m. IsClear m s (start_of bs (i + 1)) to → IsClear m s (start_of bs i) to in
    subst P (stretches_covered 0 map)
    (clear_before bs i to s b (stretches_tiled map h) (stretches_merged map) (few_index map i b e) (block_read bs i b e) o) c

pub few_first : (map : List Status) (i from : ℕ) (s : Status) (b : Block) → length map < 2 ^ 63
    → slice_get (stretches map) i ≡ Some b → IsClear map s from (start_of (stretches map) i)
    → from < start_of (stretches map) (i + 1) → b.status ≡ s → IsFirst (Has map s) from (max from b.pos)
few_first map i from s b h e c u q =
    let bs : List Block = stretches map in
    let P : List Status → Type 0 = λ m. IsClear m s from (start_of bs i) → IsFirst (Has m s) from (max from b.pos) in
    subst P (stretches_covered 0 map) (λ k. found_first bs i from s b (stretches_tiled map h) (stretches_merged map)
    (few_index map i b e) (block_read bs i b e) k u q) c

pub few_range_up : (map : List Status) (i from : ℕ) (s : Status) (b : Block) → length map < 2 ^ 63
    → slice_get (stretches map) i ≡ Some b → from < start_of (stretches map) (i + 1) → b.status ≡ s
    → IsRangeUp (Has map s) (max from b.pos) (b.pos + b.size)
few_range_up map i from s b h e u q =
    let bs : List Block = stretches map in
    let P : List Status → Type 0 = λ m. IsRangeUp (Has m s) (max from b.pos) (b.pos + b.size) in
    subst P (stretches_covered 0 map) (found_range_up bs i from s b (stretches_tiled map h) (stretches_merged map)
    (few_index map i b e) (block_read bs i b e) u q)

pub few_last : (map : List Status) (i to : ℕ) (s : Status) (b : Block) → length map < 2 ^ 63
    → slice_get (stretches map) i ≡ Some b → IsClear map s (start_of (stretches map) (i + 1)) to
    → start_of (stretches map) i < to → b.status ≡ s → IsLast (Has map s) to (min to (b.pos + b.size))
few_last map i to s b h e c u q =
    let bs : List Block = stretches map in
    let P : List Status → Type 0 = λ m. IsClear m s (start_of bs (i + 1)) to → IsLast (Has m s) to (min to (b.pos + b.size)) in
    subst P (stretches_covered 0 map) (λ k. found_last bs i to s b (stretches_tiled map h) (stretches_merged map)
    (few_index map i b e) (block_read bs i b e) k u q) c

pub few_range_down : (map : List Status) (i to : ℕ) (s : Status) (b : Block) → length map < 2 ^ 63
    → slice_get (stretches map) i ≡ Some b → start_of (stretches map) i < to → b.status ≡ s
    → IsRangeDown (Has map s) b.pos (min to (b.pos + b.size))
few_range_down map i to s b h e u q =
    let bs : List Block = stretches map in
    let P : List Status → Type 0 = λ m. IsRangeDown (Has m s) b.pos (min to (b.pos + b.size)) in
    subst P (stretches_covered 0 map) (found_range_down bs i to s b (stretches_tiled map h) (stretches_merged map)
    (few_index map i b e) (block_read bs i b e) u q)

-- what a search hands out that passed the stretches in front of an index
pub few_passed : (map : List Status) (from to : ℕ) (s : Status) → IsBare map s from to → IsClear map s from to
few_passed map from to s b = record { clear = b.bare }

pub few_over : (map : List Status) (i : ℕ) (b : Block) (s : Status) → length (stretches map) ≤ i
    → slice_get (stretches map) i ≡ Some b → b.status ≡ s
few_over map i b s h e = absurd (omega (arith, few_index map i b e))

pub few_front_of : (map : List Status) (from i : ℕ) → from < start_of (stretches map) (length (stretches map) - 1)
    → length (stretches map) ≤ i → from < start_of (stretches map) (i + 1)
few_front_of map from i l h = omega (arith, start_mono (stretches map) (length (stretches map) - 1) (i + 1) (omega arith))

-- the last stretch holds each position from where it begins on
pub last_clear : (map : List Status) (i from : ℕ) (s : Status) (b : Block) → length map < 2 ^ 63
    → slice_get (stretches map) i ≡ Some b → b.pos ≤ from → IsClear map s from (start_of (stretches map) i)
last_clear map i from s b h e l =
    let r = (tile_read (stretches map) i b (stretches_tiled map h) (few_index map i b e) (block_read (stretches map) i b e)).begins in
    record { clear = λ x u v k. absurd (omega (arith, r)) }

pub last_reached : (map : List Status) (from i : ℕ) → from < length map → length (stretches map) ≤ i + 1
    → from < start_of (stretches map) (i + 1)
last_reached map from i l h = omega (arith, start_all (stretches map) (i + 1) h, ap length (stretches_covered 0 map))

-- where all stretches were passed
pub few_none : (map : List Status) (i from : ℕ) (s : Status) → length (stretches map) ≤ i
    → IsClear map s from (start_of (stretches map) i) → (x : ℕ) → from ≤ x → Has map s x → ⊥
few_none map i from s h c x l k =
    c.clear x l (omega (arith, start_all (stretches map) i h, ap length (stretches_covered 0 map), slice_get_within map x s k)) k

pub few_short : (map : List Status) (i : ℕ) (b : Block) → length map < 2 ^ 63 → slice_get (stretches map) i ≡ Some b
    → b.pos + b.size < 2 ^ 63
few_short map i b h e = (tile_read (stretches map) i b (stretches_tiled map h) (few_index map i b e) (block_read (stretches map) i b e)).short

-- the search begins with a stretch that begins at or before the position
pub few_begun : (map : List Status) (from i : ℕ) (s : Status) → IsPlace (stretches map) (from + 1) i → 0 < i
    → IsClear map s from (start_of (stretches map) (i - 1))
few_begun map from i s p z = record { clear = λ x l u k. omega (arith, p.before z) }

pub few_reached : (map : List Status) (from i j : ℕ) → IsPlace (stretches map) (from + 1) i → i ≤ j + 1
    → from < start_of (stretches map) (j + 1)
few_reached map from i j p h = omega (arith, p.reaches, start_mono (stretches map) i (j + 1) h)

pub few_below : (map : List Status) (to i j : ℕ) → IsPlace (stretches map) to i → j < i → start_of (stretches map) j < to
few_below map to i j p h = omega (arith, p.before (omega arith), start_mono (stretches map) j (i - 1) (omega arith))

-- a copy of the first stretches, and of all
pub copied_more : (bs : List Block) (i : ℕ) (b : Block) (old new : List Status) → slice_get bs i ≡ Some b
    → old ≡ flat_map covered (take i bs) → new ≡ old ++ replicate b.size b.status → new ≡ flat_map covered (take (i + 1) bs)
copied_more bs i b old new e q r =
    let g : get_or bs i b ≡ b = get_or_from_slice_get bs i b b e in
    let t : take (i + 1) bs ≡ take i bs ++ b ∷ [] = rw g at (take_more bs i b (slice_get_within bs i b e)) in
    let n : flat_map covered (b ∷ []) ≡ replicate b.size b.status = append-nil (covered b) in
    r ∙ ap (λ z. z ++ replicate b.size b.status) q ∙ ap (λ z. flat_map covered (take i bs) ++ z) (sym n)
    ∙ sym (covered-append (take i bs) (b ∷ [])) ∙ ap (λ z. flat_map covered z) (sym t)

pub copied_all : (map : List Status) (i : ℕ) (copy : List Status) → copy ≡ flat_map covered (take i (stretches map))
    → length (stretches map) ≤ i → copy ≡ map
copied_all map i copy q h = q ∙ ap (λ z. flat_map covered z) (take_all i (stretches map) h) ∙ stretches_covered 0 map

-- a plain list that was few has room for the stretches that a mark adds
pub formed_few : (t : Tiled) → length (stretches t.statuses) ≤ 120 → IsFormed (Few t)
formed_few t h = record { few = λ u e. let q : t ≡ u = cc in rw (← q) h }

pub formed_many : (t : Tiled) → IsFormed (Many t)
formed_many t = record { few = λ u e. cc }

-- what was free of the room for stretches is free still, but for what an edit took
pub few_room : (f : Form) (self t : Tiled) (k : ℕ) → shown f ≡ self → f ≡ Few t → 0 < k → k ≤ self.spare
    → length (stretches t.statuses) + k ≤ 120
few_room f self t k v e z h = let q : shown (Few t) ≡ self = rw e at v in omega (arith, rw (← q) at h)

pub few_spare : (f : Form) (self t u : Tiled) (k : ℕ) → shown f ≡ self → f ≡ Few t → t.spare ≤ u.spare + k
    → length (stretches u.statuses) ≤ length (stretches t.statuses) + k → self.spare ≤ (shown (Few u)).spare + k
few_spare f self t u k v e a b = let q : shown (Few t) ≡ self = rw e at v in rw (← q) (omega arith)

pub many_spare : (f : Form) (self t u : Tiled) (k : ℕ) → shown f ≡ self → f ≡ Many t → t.spare ≤ u.spare + k
    → self.spare ≤ (shown (Many u)).spare + k
many_spare f self t u k v e a = let q : shown (Many t) ≡ self = rw e at v in rw (← q) (omega arith)

-- where all stretches in front of a place were passed
pub few_clear : (map : List Status) (i to before : ℕ) (s : Status) → i ≤ 0 → to ≡ min before (length map)
    → IsClear map s (start_of (stretches map) i) to → (x : ℕ) → x < before → Has map s x → ⊥
few_clear map i to before s z e c x l k =
    let none : start_of (stretches map) 0 ≡ 0 = refl in
    c.clear x (omega (arith, start_mono (stretches map) i 0 z)) (omega (arith, slice_get_within map x s k)) k
