-- Blocks of which each begins where the one before ends.
use Rattle.std.specs.List.{flat_map, slice_get}
use Rattle.std.proofs.Common.{◌≡◌, ℕ, ◌+◌, ◌-◌, ◌<◌, ◌≤◌, ◌^◌, List, [], ◌∷◌, ◌++◌, Some, length, take, drop, slice_range, append_assoc, refl, arith, ap, sym, ◌∙◌}
use Rattle.std.proofs.lemmas.List.{take-append-drop, take-take}
use Rattle.block_list.specs.declared.block.Block.{Block}
use Rattle.block_list.specs.declared.status.Status.{Status}
use Rattle.block_list.specs.Stretches.{covered, stretches}
use Rattle.block_list.specs.Edits.{IsTiled}
use Rattle.block_list.proofs.TileLemmas.{tiles_split, tiles_end, tiled_from_tiles}
use Rattle.block_list.proofs.StretchLemmas.{stretches_tiles}
use Rattle.block_pages.specs.Rows.{AreRow}
use Rattle.block_pages.proofs.RangeLemmas.{range_more, front_more, range_front, touched_blocks}

pub stretches_tiled : (map : List Status) → length map < 2 ^ 63 → IsTiled (stretches map)
stretches_tiled map h = tiled_from_tiles (stretches map) (0 + length map) (stretches_tiles 0 map) (omega arith)

-- parts of a row
pub row_split : (xs ys : List Block) → AreRow (xs ++ ys) → AreRow xs × AreRow ys
row_split xs ys r =
    let k = tiles_split r.low xs ys r.end r.tiled in
    let n = tiles_end (r.low + length (flat_map covered xs)) ys r.end k.back in (
      record { low = r.low; end = r.low + length (flat_map covered xs); tiled = k.front; short = omega (arith, r.short) },
      record { low = r.low + length (flat_map covered xs); end = r.end; tiled = k.back; short = r.short },
    )

-- more and more of a row
pub row_front : (bs ys : List Block) (n : ℕ) → AreRow (bs ++ ys) → AreRow (bs ++ take n ys)
row_front bs ys n r =
    let e : (bs ++ take n ys) ++ drop n ys ≡ bs ++ ys =
    append_assoc bs (take n ys) (drop n ys) ∙ ap (λ z. bs ++ z) (take-append-drop n ys) in
    (row_split (bs ++ take n ys) (drop n ys) (rw e r)).0

pub row_copied : (bs xs self : List Block) (from i to : ℕ) (b : Block) → AreRow (bs ++ slice_range xs from to) → from ≤ i
    → i < to → slice_get xs i ≡ Some b → self ≡ bs ++ slice_range xs from i → AreRow (self ++ b ∷ [])
row_copied bs xs self from i to b r h l g q =
    let e : self ++ b ∷ [] ≡ bs ++ slice_range xs from (i + 1) =
    ap (λ z. z ++ b ∷ []) q ∙ append_assoc bs (slice_range xs from i) (b ∷ []) ∙ ap (λ z. bs ++ z) (range_more xs from i b h g) in
    let t : slice_range xs from (i + 1) ≡ take (i + 1 - from) (slice_range xs from to) =
    sym (take-take (i + 1 - from) (to - from) (drop from xs) (omega arith)) in
    rw (e, t) (row_front bs (slice_range xs from to) (i + 1 - from) r)

pub row_added : (bs xs self : List Block) (i : ℕ) (b : Block) → AreRow (bs ++ xs) → slice_get xs i ≡ Some b
    → self ≡ bs ++ take i xs → AreRow (self ++ b ∷ [])
row_added bs xs self i b r g q =
    let e : self ++ b ∷ [] ≡ bs ++ take (i + 1) xs =
    ap (λ z. z ++ b ∷ []) q ∙ append_assoc bs (take i xs) (b ∷ []) ∙ ap (λ z. bs ++ z) (front_more xs i b g) in
    rw e (row_front bs xs (i + 1) r)

pub row_range : (bs : List Block) (from to : ℕ) → AreRow bs → AreRow (slice_range bs from to)
row_range bs from to r =
    let k = (row_split (take from bs) (drop from bs) (rw (take-append-drop from bs) r)).1 in
    row_front [] (drop from bs) (to - from) k

pub row_of_tiled : (bs : List Block) → IsTiled bs → AreRow bs
row_of_tiled bs t = record { low = 0; end = length (flat_map covered bs); tiled = t.tiled; short = t.short }

pub row_middle : (xs ys zs : List Block) → IsTiled (xs ++ ys ++ zs) → AreRow ys
row_middle xs ys zs t = (row_split xs ys (row_split (xs ++ ys) zs (row_of_tiled (xs ++ ys ++ zs) t)).0).1

pub row_stretches : (map : List Status) → length map < 2 ^ 63 → AreRow (stretches map)
row_stretches map h = row_of_tiled (stretches map) (stretches_tiled map h)

-- a row has fewer than 2^63 positions
pub row_short : (bs : List Block) → AreRow bs → length (flat_map covered bs) < 2 ^ 63
row_short bs r = omega (arith, tiles_end r.low bs r.end r.tiled, r.short)

-- the last block of a row is short
pub pushed_short : (bs : List Block) (b : Block) → AreRow (bs ++ b ∷ []) → b.pos + b.size < 2 ^ 63
pushed_short bs b r =
    let k = tiles_split r.low bs (b ∷ []) r.end r.tiled in
    omega (arith, k.back.0, k.back.2, r.short)

-- the parts of a page that was spliced, one more after the other
pub row_first : (none front new back : List Block) (from : ℕ) → none ≡ [] → AreRow (take from front ++ new ++ back)
    → AreRow (none ++ slice_range front 0 from)
row_first none front new back from z r =
    let e : none ++ slice_range front 0 from ≡ take from front = ap (λ x. x ++ slice_range front 0 from) z ∙ range_front front from in
    rw e (row_split (take from front) new (row_split (take from front ++ new) back r).0).0

pub row_second : (none one front new back : List Block) (from : ℕ) → none ≡ [] → one ≡ none ++ slice_range front 0 from
    → AreRow (take from front ++ new ++ back) → AreRow (one ++ new)
row_second none one front new back from z a r =
    let e : one ++ new ≡ take from front ++ new =
    ap (λ x. x ++ new) (a ∙ ap (λ x. x ++ slice_range front 0 from) z ∙ range_front front from) in
    rw e (row_split (take from front ++ new) back r).0

pub row_third : (none one two front new : List Block) (from to m : ℕ) → none ≡ [] → one ≡ none ++ slice_range front 0 from
    → two ≡ one ++ new → m ≡ length front → AreRow (take from front ++ new ++ drop to front)
    → AreRow (two ++ slice_range front to m)
row_third none one two front new from to m z a b k r =
    rw (touched_blocks none one two (two ++ slice_range front to m) front new front from to m z a b k refl) r
