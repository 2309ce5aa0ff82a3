-- Blocks that tile a map: their parts, where they begin, and each block of them.
use Rattle.std.proofs.Common.{◌≡◌, ℕ, ◌+◌, ◌<◌, ◌≤◌, ◌^◌, List, [], ◌∷◌, ◌++◌, length, take, drop, get_or, replicate, arith, ap, sym, ◌∙◌, length-append, subst, ⊎_elim}
use Rattle.std.specs.List.{flat_map}
use Rattle.std.proofs.lemmas.List.{length-replicate, take-append-drop, take_more, drop_more, take-take, take_at, drop_at, take_all}
use Rattle.std.proofs.lemmas.Bool.{cases_lt}
use Rattle.std.proofs.lemmas.Grind.{flat_map-append}
use Rattle.block_list.specs.declared.block.Block.{Block}
use Rattle.block_list.specs.Stretches.{covered}
use Rattle.block_list.specs.Tiling.{AreTiles}
use Rattle.block_list.specs.Edits.{IsTiled, start_of}

pub covered-append : (xs ys : List Block) → flat_map covered (xs ++ ys) ≡ flat_map covered xs ++ flat_map covered ys
covered-append xs ys = flat_map-append covered xs ys

pub length_first : (b : Block) (xs : List Block)
    → length (flat_map covered (b ∷ xs)) ≡ b.size + length (flat_map covered xs)
length_first b xs =
    omega (arith, length-append (replicate b.size b.status) (flat_map covered xs), length-replicate b.size b.status)

pub tiles_end : (low : ℕ) (xs : List Block) (end : ℕ) → AreTiles low xs end → end ≡ low + length (flat_map covered xs)
tiles_end low [] end t = omega (arith, t)
tiles_end low (b ∷ xs) end t = omega (arith, tiles_end (low + b.size) xs end t.2, length_first b xs)

pub tiles_join : (low : ℕ) (xs ys : List Block) (mid end : ℕ) → AreTiles low xs mid → AreTiles mid ys end
    → AreTiles low (xs ++ ys) end
tiles_join low [] ys mid end s t = rw s at t
tiles_join low (b ∷ xs) ys mid end s t = (s.0, s.1, tiles_join (low + b.size) xs ys mid end s.2 t)

-- the two parts of a tiling
pub record AreParts (low mid : ℕ) (xs ys : List Block) (end : ℕ) : Type 0 where
  pub front : AreTiles low xs mid
  pub back : AreTiles mid ys end

pub tiles_split : (low : ℕ) (xs ys : List Block) (end : ℕ) → AreTiles low (xs ++ ys) end
    → AreParts low (low + length (flat_map covered xs)) xs ys end
tiles_split low [] ys end t = let z : low + 0 ≡ low = omega arith in record { front = z; back = rw z t }
tiles_split low (b ∷ xs) ys end t =
    let k = tiles_split (low + b.size) xs ys end t.2 in
    let z : low + length (flat_map covered (b ∷ xs)) ≡ low + b.size + length (flat_map covered xs) = omega (arith, length_first b xs) in
    rw z (record { front = (t.0, t.1, k.front); back = k.back })

pub tiled_from_tiles : (bs : List Block) (end : ℕ) → AreTiles 0 bs end → end < 2 ^ 63 → IsTiled bs
tiled_from_tiles bs end t s =
    let e : end ≡ length (flat_map covered bs) = omega (arith, tiles_end 0 bs end t) in
    record { tiled = rw e at t; short = omega arith }

pub parts_of : (bs : List Block) (i : ℕ) → IsTiled bs
    → AreParts 0 (start_of bs i) (take i bs) (drop i bs) (length (flat_map covered bs))
parts_of bs i t =
    let T : List Block → Type 0 = λ r. AreTiles 0 r (length (flat_map covered bs)) in
    let k = tiles_split 0 (take i bs) (drop i bs) (length (flat_map covered bs)) (subst T (sym (take-append-drop i bs)) t.tiled) in
    let z : 0 + start_of bs i ≡ start_of bs i = omega arith in
    rw z at k

pub start_le_end : (bs : List Block) (i : ℕ) → start_of bs i ≤ length (flat_map covered bs)
start_le_end bs i =
    omega (
      arith,
      ap (λ r. length (flat_map covered r)) (take-append-drop i bs),
      ap length (covered-append (take i bs) (drop i bs)),
      length-append (flat_map covered (take i bs)) (flat_map covered (drop i bs)),
    )

pub start_mono : (bs : List Block) (i j : ℕ) → i ≤ j → start_of bs i ≤ start_of bs j
start_mono bs i j h = rw (take-take i j bs h) at (start_le_end (take j bs) i)

pub index_before : (bs : List Block) (i j : ℕ) → start_of bs i < start_of bs j → i < j
index_before bs i j h =
    ⊎_elim (λ (l : i < j). l) (λ (l : j ≤ i). absurd (omega (arith, start_mono bs j i l))) (cases_lt i j)

pub start_more : (bs : List Block) (i : ℕ) (d : Block) → i < length bs
    → start_of bs (i + 1) ≡ start_of bs i + (get_or bs i d).size
start_more bs i d h = rw (take_more bs i d h, covered-append (take i bs) (get_or bs i d ∷ []))
    (omega (arith, length-append (flat_map covered (take i bs)) (flat_map covered (get_or bs i d ∷ [])), length_first (get_or bs i d) []))

pub start_all : (bs : List Block) (i : ℕ) → length bs ≤ i → start_of bs i ≡ length (flat_map covered bs)
start_all bs i h = ap (λ r. length (flat_map covered r)) (take_all i bs h)

-- a block of a tiling
pub record IsTile (bs : List Block) (i : ℕ) (b : Block) : Type 0 where
  pub begins : b.pos ≡ start_of bs i
  pub sized : 0 < b.size
  pub ends : b.pos + b.size ≡ start_of bs (i + 1)
  pub within : b.pos + b.size ≤ length (flat_map covered bs)
  pub short : b.pos + b.size < 2 ^ 63

pub tile_at : (bs : List Block) (i : ℕ) (d : Block) → IsTiled bs → i < length bs → IsTile bs i (get_or bs i d)
tile_at bs i d t h =
    let k = parts_of bs i t in
    let b : AreTiles (start_of bs i) (get_or bs i d ∷ drop (i + 1) bs) (length (flat_map covered bs)) = rw (drop_more bs i d h) at k.back in
    let e = start_more bs i d h in
    let l = start_le_end bs (i + 1) in
    record { begins = b.0; sized = b.1; ends = omega (arith, b.0); within = omega (arith, b.0); short = omega (arith, b.0, t.short) }

-- the same of a block that was read
pub tile_read : (bs : List Block) (i : ℕ) (b : Block) → IsTiled bs → i < length bs → b ≡ get_or bs i b → IsTile bs i b
tile_read bs i b t h e = rw (← e) at (tile_at bs i b t h)

-- the statuses of the blocks before a place and after it
pub front_statuses : (bs : List Block) (i n : ℕ) → start_of bs i ≡ n
    → flat_map covered (take i bs) ≡ take n (flat_map covered bs)
front_statuses bs i n h =
    let e : flat_map covered bs ≡ flat_map covered (take i bs) ++ flat_map covered (drop i bs) =
    ap (λ r. flat_map covered r) (sym (take-append-drop i bs)) ∙ covered-append (take i bs) (drop i bs) in
    sym (ap (λ z. take n z) e ∙ take_at (flat_map covered (take i bs)) (flat_map covered (drop i bs)) n h)

pub back_statuses : (bs : List Block) (i n : ℕ) → start_of bs i ≡ n
    → flat_map covered (drop i bs) ≡ drop n (flat_map covered bs)
back_statuses bs i n h =
    let e : flat_map covered bs ≡ flat_map covered (take i bs) ++ flat_map covered (drop i bs) =
    ap (λ r. flat_map covered r) (sym (take-append-drop i bs)) ∙ covered-append (take i bs) (drop i bs) in
    sym (ap (λ z. drop n z) e ∙ drop_at (flat_map covered (take i bs)) (flat_map covered (drop i bs)) n h)

pub tiles_up_to : (bs : List Block) (end : ℕ) → IsTiled bs → length (flat_map covered bs) ≡ end → AreTiles 0 bs end
tiles_up_to bs end t e = rw e at t.tiled
