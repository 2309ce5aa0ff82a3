-- Parts of a list, next to each other.
use Rattle.std.specs.List.{flat_map, slice_get}
use Rattle.std.proofs.Common.{◌≡◌, ℕ, ◌+◌, ◌-◌, ◌<◌, ◌≤◌, List, [], ◌∷◌, ◌++◌, length, take, drop, get_or, slice_range, Some, arith, ap, sym, ◌∙◌, length-drop, length-append}
use Rattle.std.proofs.lemmas.List.{take_more, get_or-drop, length-take-le, take_all, take-append-drop, take_rest}
use Rattle.std.proofs.lemmas.Option.{get_or_from_slice_get, slice_get_within}
use Rattle.std.proofs.Math.Seq.{take-add}
use Rattle.block_list.specs.declared.block.Block.{Block}
use Rattle.block_list.specs.Stretches.{covered}
use Rattle.block_list.proofs.TileLemmas.{covered-append, start_le_end}
use Rattle.block_pages.specs.Splice.{spliced}

-- one more block of a range
pub range_more : (bs : List Block) (from i : ℕ) (b : Block) → from ≤ i → slice_get bs i ≡ Some b
    → slice_range bs from i ++ b ∷ [] ≡ slice_range bs from (i + 1)
range_more bs from i b h r =
    let k : ℕ = i - from in
    let l : k < length (drop from bs) = omega (arith, slice_get_within bs i b r, length-drop from bs) in
    let z : from + k ≡ i = omega arith in
    let y : i + 1 - from ≡ k + 1 = omega arith in
    let q : get_or (drop from bs) k b ≡ b = get_or-drop from bs k b ∙ ap (λ n. get_or bs n b) z ∙ get_or_from_slice_get bs i b b r in
    rw y (ap (λ c. take k (drop from bs) ++ c ∷ []) (sym q) ∙ sym (take_more (drop from bs) k b l))

-- one more of the first blocks
pub front_more : (bs : List Block) (i : ℕ) (b : Block) → slice_get bs i ≡ Some b → take i bs ++ b ∷ [] ≡ take (i + 1) bs
front_more bs i b r =
    sym (take_more bs i b (slice_get_within bs i b r) ∙ ap (λ x. take i bs ++ x ∷ []) (get_or_from_slice_get bs i b b r))

-- some of a list's blocks have no more positions than all
pub part_short : (bs : List Block) (made to : ℕ) → length (flat_map covered (slice_range bs made to)) ≤ length (flat_map covered bs)
part_short bs made to =
    let back : List Block = drop made bs in
    let a = start_le_end back (to - made) in
    let b = ap length (covered-append (take made bs) back) in
    let c = ap (λ r. length (flat_map covered r)) (take-append-drop made bs) in
    omega (arith, a, b, c, length-append (flat_map covered (take made bs)) (flat_map covered back))

-- ranges of a list from its start, up to its end, and both
pub range_front : {X : Type 0} (xs : List X) (n : ℕ) → slice_range xs 0 n ≡ take n xs
range_front xs n = let z : n - 0 ≡ n = omega arith in ap (λ k. take k xs) z

pub range_back : {X : Type 0} (xs : List X) (n : ℕ) → slice_range xs n (length xs) ≡ drop n xs
range_back xs n = take_rest xs n

pub range_whole : {X : Type 0} (xs : List X) → slice_range xs 0 (length xs) ≡ xs
range_whole xs = range_front xs (length xs) ∙ take_all (length xs) xs (omega arith)

-- a list up to an index, and on to a later one
pub take_on : {X : Type 0} (xs : List X) (from to : ℕ) → from ≤ to → take from xs ++ slice_range xs from to ≡ take to xs
take_on xs from to l =
    let z : from + (to - from) ≡ to = omega arith in
    sym (take-add from (to - from) xs) ∙ ap (λ k. take k xs) z

-- a part of a list of blocks has no more positions than the whole
pub middle_short : (front middle back : List Block)
    → length (flat_map covered middle) ≤ length (flat_map covered (front ++ middle ++ back))
middle_short front middle back =
    omega (
      arith,
      ap length (covered-append (front ++ middle) back),
      ap length (covered-append front middle),
      length-append (flat_map covered (front ++ middle)) (flat_map covered back),
      length-append (flat_map covered front) (flat_map covered middle),
    )

-- the blocks that were gathered of the first page, of an edit and of the last page
pub touched_blocks : (none one two three front new back : List Block) (from to m : ℕ) → none ≡ []
    → one ≡ none ++ slice_range front 0 from → two ≡ one ++ new → m ≡ length back
    → three ≡ two ++ slice_range back to m → three ≡ take from front ++ new ++ drop to back
touched_blocks none one two three front new back from to m z a b k c =
    c
    ∙ ap (λ r. r ++ slice_range back to m) (b
    ∙ ap (λ r. r ++ new) (a ∙ ap (λ r. r ++ slice_range front 0 from) z ∙ range_front front from))
    ∙ ap (λ i. take from front ++ new ++ slice_range back to i) k
    ∙ ap (λ r. take from front ++ new ++ r) (range_back back to)

pub spliced_length : (bs new : List Block) (from to : ℕ) → from ≤ to → to ≤ length bs
    → length (spliced bs from to new) + (to - from) ≡ length bs + length new
spliced_length bs new from to h w =
    omega (
      arith,
      length-append (take from bs ++ new) (drop to bs),
      length-append (take from bs) new,
      length-take-le from bs (omega arith),
      length-drop to bs,
    )
