-- What a map becomes when the boundary between two blocks moves.
use Rattle.std.proofs.Common.{◌≡◌, ℕ, zero, suc, ◌+◌, ◌-◌, ◌<◌, List, [], ◌∷◌, ◌++◌, length, take, drop, get_or, set, replicate, refl, arith, ap, sym, ◌∙◌, subst, append_assoc, length-append}
use Rattle.std.specs.List.{flat_map}
use Rattle.std.proofs.lemmas.List.{take-append-drop, drop_more, replicate-append-replicate, take_at, drop_at, length-replicate}
use Rattle.std.proofs.lemmas.Option.{get_or_from_slice_get, slice_get_read}
use Rattle.block_list.specs.declared.status.Status.{Status}
use Rattle.block_list.specs.declared.block.Block.{Block}
use Rattle.block_list.specs.Map.{marked}
use Rattle.block_list.specs.Stretches.{covered, back_of}
use Rattle.block_list.specs.Tiling.{AreTiles}
use Rattle.block_list.specs.Edits.{IsTiled, IsShifted, start_of, front_of}
use Rattle.block_list.proofs.TileLemmas.{covered-append, length_first, tiles_join, tiles_split, tiled_from_tiles, tile_read}
use Rattle.plain_blocks.proofs.EditLemmas.{cut_same, joined_first}
use Rattle.block_list.proofs.ApartLemmas.{AreApart, apart_from_merged, merged_from_apart, apart_left, apart_right, apart_meet, apart_last, apart_first}

-- two neighbors that were written
neighbors_set : (bs : List Block) (k : ℕ) (a b : Block) → k + 1 < length bs
    → set (set bs k a) (suc k) b ≡ take k bs ++ a ∷ b ∷ drop (suc (suc k)) bs
neighbors_set [] k a b h = absurd (omega (arith, h))
neighbors_set (c ∷ []) k a b h = absurd (omega (arith, h))
neighbors_set (c ∷ d ∷ bs) zero a b h = refl
neighbors_set (c ∷ d ∷ bs) (suc k) a b h = ap (λ r. c ∷ r) (neighbors_set (d ∷ bs) k a b (omega (arith, h)))

shifted_tiles : (low : ℕ) (a b : Block) (bs : List Block) (end at : ℕ) → AreTiles low (a ∷ b ∷ bs) end
    → a.pos < at → at < b.pos + b.size → AreTiles low (front_of a at ∷ back_of b at ∷ bs) end
shifted_tiles low a b bs end at t l u =
    let z : low + (at - a.pos) + (b.pos + b.size - at) ≡ low + a.size + b.size = omega (arith, t.0, t.2.0) in
    (t.0, omega arith, (omega (arith, t.0), omega arith, rw z t.2.2))

-- a part of a map becomes a status
marked_between : (p q r : List Status) (pos n : ℕ) (s : Status) → length p ≡ pos → length q ≡ n
    → marked (p ++ (q ++ r)) pos n s ≡ p ++ replicate n s ++ r
marked_between p q r pos n s e f =
    ap (λ z. z ++ replicate n s ++ drop (pos + n) (p ++ (q ++ r))) (take_at p (q ++ r) pos e)
    ∙ ap (λ z. p ++ replicate n s ++ z)
    (ap (λ z. drop (pos + n) z) (sym (append_assoc p q r))
    ∙ drop_at (p ++ q) r (pos + n) (omega (arith, length-append p q)))

-- what the boundary passes upwards becomes the status of the block in front of it
risen : (xs : List Block) (a b : Block) (ys : List Block) (n at : ℕ) → a.pos ≡ length (flat_map covered xs)
    → a.pos + a.size ≡ b.pos → 0 < n → b.pos + n ≡ at → at < b.pos + b.size
    → flat_map covered (xs ++ front_of a at ∷ back_of b at ∷ ys)
    ≡ marked (flat_map covered (xs ++ a ∷ b ∷ ys)) b.pos n a.status
risen xs a b ys n at e f z g u =
    let front : List Status = flat_map covered xs in
    let p : List Status = flat_map covered (xs ++ a ∷ []) in
    let q : List Status = covered (front_of b at) in
    let r : List Status = flat_map covered (back_of b at ∷ ys) in
    let old : flat_map covered (xs ++ a ∷ b ∷ ys) ≡ p ++ (q ++ r) =
    ap (λ l. flat_map covered l) (sym (append_assoc xs (a ∷ []) (b ∷ ys)))
    ∙ covered-append (xs ++ a ∷ []) (b ∷ ys)
    ∙ ap (λ l. p ++ l) (sym (cut_same b ys at (omega arith) u)) in
    let longer : at - a.pos ≡ a.size + n = omega arith in
    let new : flat_map covered (xs ++ front_of a at ∷ back_of b at ∷ ys) ≡ p ++ replicate n a.status ++ r =
    covered-append xs (front_of a at ∷ back_of b at ∷ ys)
    ∙ sym (append_assoc front (covered (front_of a at)) r)
    ∙ ap (λ m. front ++ replicate m a.status ++ r) longer
    ∙ ap (λ l. l ++ r) (joined_first xs a n a.status refl) in
    let start : length p ≡ b.pos =
    ap length (covered-append xs (a ∷ []))
    ∙ omega (arith, length-append front (flat_map covered (a ∷ [])), length_first a []) in
    new
    ∙ sym (marked_between p q r b.pos n a.status start (omega (arith, length-replicate (at - b.pos) b.status)))
    ∙ ap (λ l. marked l b.pos n a.status) (sym old)

-- what it passes downwards becomes that of the block after it
fallen : (xs : List Block) (a b : Block) (ys : List Block) (n at : ℕ) → a.pos ≡ length (flat_map covered xs)
    → a.pos + a.size ≡ b.pos → a.pos < at → 0 < n → at + n ≡ b.pos
    → flat_map covered (xs ++ front_of a at ∷ back_of b at ∷ ys)
    ≡ marked (flat_map covered (xs ++ a ∷ b ∷ ys)) at n b.status
fallen xs a b ys n at e f l z g =
    let front : List Status = flat_map covered xs in
    let rest : List Status = flat_map covered ys in
    let p : List Status = front ++ covered (front_of a at) in
    let q : List Status = covered (back_of a at) in
    let r : List Status = covered b ++ rest in
    let old : flat_map covered (xs ++ a ∷ b ∷ ys) ≡ p ++ (q ++ r) =
    covered-append xs (a ∷ b ∷ ys)
    ∙ ap (λ m. front ++ m) (sym (cut_same a (b ∷ ys) at l (omega arith)))
    ∙ sym (append_assoc front (covered (front_of a at)) (q ++ r)) in
    let longer : b.pos + b.size - at ≡ n + b.size = omega arith in
    let new : flat_map covered (xs ++ front_of a at ∷ back_of b at ∷ ys) ≡ p ++ replicate n b.status ++ r =
    covered-append xs (front_of a at ∷ back_of b at ∷ ys)
    ∙ sym (append_assoc front (covered (front_of a at)) (covered (back_of b at) ++ rest))
    ∙ ap (λ m. p ++ (replicate m b.status ++ rest)) longer
    ∙ ap (λ m. p ++ (m ++ rest)) (sym (replicate-append-replicate n b.size b.status))
    ∙ ap (λ m. p ++ m) (append_assoc (replicate n b.status) (covered b) rest)
    ∙ sym (append_assoc p (replicate n b.status) r) in
    let start : length p ≡ at =
    omega (arith, length-append front (covered (front_of a at)), length-replicate (at - a.pos) a.status) in
    new
    ∙ sym (marked_between p q r at n b.status start (omega (arith, length-replicate (a.pos + a.size - at) a.status)))
    ∙ ap (λ m. marked m at n b.status) (sym old)

shifted_apart : (xs : List Block) (a b : Block) (ys : List Block) (at : ℕ) → AreApart (xs ++ a ∷ b ∷ ys)
    → AreApart (xs ++ front_of a at ∷ back_of b at ∷ ys)
shifted_apart xs a b ys at m =
    let both : AreApart (a ∷ b ∷ ys) = apart_right xs (a ∷ b ∷ ys) m in
    let left : AreApart (xs ++ a ∷ []) =
    apart_left (xs ++ a ∷ []) (b ∷ ys) (rw (append_assoc xs (a ∷ []) (b ∷ ys)) m) in
    apart_meet xs (front_of a at) (back_of b at ∷ ys)
    (apart_last xs a (front_of a at) refl left)
    (both.0, apart_first b (back_of b at) ys refl both.1)

-- the boundary between two blocks that were read
pub shifted_read : (bs new : List Block) (i at : ℕ) (a b : Block) → IsTiled bs → 0 < i → i < length bs
    → a ≡ get_or bs (i - 1) a → b ≡ get_or bs i b → start_of bs (i - 1) < at → at < start_of bs (i + 1)
    → new ≡ set (set bs (i - 1) (front_of a at)) i (back_of b at) → IsShifted bs new i at
shifted_read bs new i at a b t some h p q l u n =
    let k : ℕ = i - 1 in
    let ys : List Block = drop (i + 1) bs in
    let up : suc k ≡ i = omega arith in
    let up2 : suc (suc k) ≡ i + 1 = omega arith in
    let low : k < length bs = omega arith in
    let ra = tile_read bs k a t low p in
    let rb = tile_read bs i b t h q in
    let middle : start_of bs (k + 1) ≡ start_of bs i = ap (λ m. start_of bs m) (omega arith) in
    let new_is : new ≡ take k bs ++ front_of a at ∷ back_of b at ∷ ys =
    n
    ∙ ap (λ m. set (set bs k (front_of a at)) m (back_of b at)) (sym up)
    ∙ neighbors_set bs k (front_of a at) (back_of b at) (omega arith)
    ∙ ap (λ m. take k bs ++ front_of a at ∷ back_of b at ∷ drop m bs) up2 in
    let rest : drop (k + 1) bs ≡ b ∷ ys =
    ap (λ m. drop m bs) (omega arith) ∙ drop_more bs i b h ∙ ap (λ z. z ∷ ys) (sym q) in
    let bs_is : bs ≡ take k bs ++ a ∷ b ∷ ys =
    sym (take-append-drop k bs)
    ∙ ap (λ m. take k bs ++ m) (drop_more bs k a low ∙ ap (λ z. z ∷ drop (k + 1) bs) (sym p) ∙ ap (λ m. a ∷ m) rest) in
    let end : ℕ = length (flat_map covered bs) in
    let parts = tiles_split 0 (take k bs) (a ∷ b ∷ ys) end (subst (λ m. AreTiles 0 m end) bs_is t.tiled) in
    let tiles : AreTiles 0 (take k bs ++ front_of a at ∷ back_of b at ∷ ys) end =
    tiles_join 0 (take k bs) (front_of a at ∷ back_of b at ∷ ys) _ end parts.front
    (shifted_tiles _ a b ys end at parts.back (omega (arith, ra.begins)) (omega (arith, rb.ends))) in
    rw new_is (record {
      tiled = tiled_from_tiles _ end tiles t.short;
      merged = λ m. let apart : AreApart (take k bs ++ a ∷ b ∷ ys) = subst AreApart bs_is (apart_from_merged bs m) in
          merged_from_apart _ (shifted_apart (take k bs) a b ys at apart);
      rose = λ m c z e g.
          let same : c.status ≡ a.status =
          ap (λ (d : Block). d.status) (sym (get_or_from_slice_get bs k c a e) ∙ sym p) in
          risen (take k bs) a b ys m at ra.begins (omega (arith, ra.ends, middle, rb.begins)) z
          (omega (arith, rb.begins)) (omega (arith, rb.ends))
          ∙ ap (λ r. marked (flat_map covered r) b.pos m a.status) (sym bs_is)
          ∙ ap (λ x. marked (flat_map covered bs) x m a.status) rb.begins
          ∙ ap (λ s. marked (flat_map covered bs) (start_of bs i) m s) (sym same);
      fell = λ m c z e g.
          let same : c.status ≡ b.status =
          ap (λ (d : Block). d.status) (sym (get_or_from_slice_get bs i c b e) ∙ sym q) in
          fallen (take k bs) a b ys m at ra.begins (omega (arith, ra.ends, middle, rb.begins))
          (omega (arith, ra.begins)) z (omega (arith, rb.begins))
          ∙ ap (λ r. marked (flat_map covered r) at m b.status) (sym bs_is)
          ∙ ap (λ s. marked (flat_map covered bs) at m s) (sym same);
    })

-- a range in front of which a block of its status ends
pub rose_over : (bs new : List Block) (i at : ℕ) (block a b : Block) → IsTiled bs → 0 < i → i < length bs
    → 0 < block.size → IsShifted bs new i at → a ≡ get_or bs (i - 1) a → b ≡ get_or bs i b → b.pos ≡ block.pos
    → at ≡ block.pos + block.size → a.status ≡ block.status
    → flat_map covered new ≡ marked (flat_map covered bs) block.pos block.size block.status
rose_over bs new i at block a b t some h z k p q e f s =
    let r = tile_read bs i b t h q in
    k.rose block.size a z (slice_get_read bs (length bs) (i - 1) a refl (omega arith) p) (omega (arith, r.begins))
    ∙ ap (λ x. marked (flat_map covered bs) x block.size a.status) (sym r.begins ∙ e)
    ∙ ap (λ x. marked (flat_map covered bs) block.pos block.size x) s

-- a range after which a block of its status begins
pub fell_over : (bs new : List Block) (i : ℕ) (block b : Block) → IsTiled bs → i < length bs → 0 < block.size
    → IsShifted bs new i block.pos → b ≡ get_or bs i b → b.pos ≡ block.pos + block.size → b.status ≡ block.status
    → flat_map covered new ≡ marked (flat_map covered bs) block.pos block.size block.status
fell_over bs new i block b t h z k q e s =
    let r = tile_read bs i b t h q in
    k.fell block.size b z (slice_get_read bs (length bs) i b refl h q) (omega (arith, r.begins))
    ∙ ap (λ x. marked (flat_map covered bs) block.pos block.size x) s
