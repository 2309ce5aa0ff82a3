-- Blocks as their ends and statuses.
use Rattle.std.proofs.Common.{◌≡◌, ℕ, zero, suc, ◌+◌, ◌-◌, ◌<◌, ◌≤◌, List, [], ◌∷◌, ◌++◌, length, take, drop, get_or, set, true, false, Result, Ok, Err, IsOk, if◌then◌else◌, ltb, refl, arith, ap, sym, ◌∙◌, subst, ⊎_elim, ltb-true, ltb-false}
use Rattle.std.specs.List.{flat_map, insert}
use Rattle.std.specs.Result.{is_ok}
use Rattle.std.specs.List.Sorted.{IsPartitionPoint, IsNonDecreasingBy}
use Rattle.std.proofs.lemmas.List.{length-take-le, length-drop, get_or-drop, drop-drop}
use Rattle.std.proofs.lemmas.Bool.{cases_lt}
use Rattle.block_list.specs.declared.block.Block.{Block}
use Rattle.block_list.specs.declared.status.Status.{Status}
use Rattle.block_list.specs.Stretches.{covered, back_of}
use Rattle.block_list.specs.Tiling.{AreTiles}
use Rattle.block_list.specs.declared.status.Status.TheVariants.{NonTried}
use Rattle.plain_blocks.specs.declared.block_row.BlockRow.TheInside.{Inside}
use Rattle.plain_blocks.specs.Row.{Lined, rows, row_of, IsRow}
use Rattle.block_list.specs.Edits.{IsTiled, IsPlace, IsShifted, start_of, front_of, cut_at}
use Rattle.block_list.proofs.TileLemmas.{parts_of, tile_read, start_mono, start_all}
use Rattle.plain_blocks.proofs.EditLemmas.{no_block, read_there, cut_at_is}
use Rattle.plain_blocks.proofs.ShiftLemmas.{shifted_read}

-- the last of some ends, or a position if there is none
abbrev pub last_or : ℕ → List ℕ → ℕ
last_or low [] = low
last_or low (e ∷ es) = last_or e es

pub rows_length : (low : ℕ) (es : List ℕ) (ss : List Status) → length ss ≡ length es → length (rows low es ss) ≡ length es
rows_length low [] ss h = refl
rows_length low (e ∷ es) [] h = absurd (omega arith)
rows_length low (e ∷ es) (s ∷ ss) h = ap suc (rows_length e es ss (omega arith))

pub rows_take : (low : ℕ) (es : List ℕ) (ss : List Status) (n : ℕ)
    → take n (rows low es ss) ≡ rows low (take n es) (take n ss)
rows_take low es ss zero = refl
rows_take low [] ss (suc n) = refl
rows_take low (e ∷ es) [] (suc n) = refl
rows_take low (e ∷ es) (s ∷ ss) (suc n) =
    ap (λ r. record { pos = low; size = e - low; status = s } ∷ r) (rows_take e es ss n)

pub rows_drop : (low : ℕ) (es : List ℕ) (ss : List Status) (n : ℕ) → length ss ≡ length es
    → drop n (rows low es ss) ≡ rows (last_or low (take n es)) (drop n es) (drop n ss)
rows_drop low es ss zero h = refl
rows_drop low [] ss (suc n) h = refl
rows_drop low (e ∷ es) [] (suc n) h = absurd (omega arith)
rows_drop low (e ∷ es) (s ∷ ss) (suc n) h = rows_drop e es ss n (omega arith)

-- rows after others
pub rows_join : (low : ℕ) (es fs : List ℕ) (ss ts : List Status) → length ss ≡ length es
    → rows low (es ++ fs) (ss ++ ts) ≡ rows low es ss ++ rows (last_or low es) fs ts
rows_join low [] fs [] ts h = refl
rows_join low [] fs (s ∷ ss) ts h = absurd (omega arith)
rows_join low (e ∷ es) fs [] ts h = absurd (omega arith)
rows_join low (e ∷ es) fs (s ∷ ss) ts h =
    ap (λ r. record { pos = low; size = e - low; status = s } ∷ r) (rows_join e es fs ss ts (omega arith))

-- rows end where the last one does
pub rows_end : (low : ℕ) (es : List ℕ) (ss : List Status) (end : ℕ) → length ss ≡ length es
    → AreTiles low (rows low es ss) end → end ≡ last_or low es
rows_end low [] ss end h t = t
rows_end low (e ∷ es) [] end h t = absurd (omega arith)
rows_end low (e ∷ es) (s ∷ ss) end h t =
    let z : low + (e - low) ≡ e = omega (arith, t.1) in rows_end e es ss end (omega arith) (rw z at t.2)

-- where blocks begin
pub start_row : (es : List ℕ) (ss : List Status) (i : ℕ) → length ss ≡ length es → i ≤ length es → IsTiled (rows 0 es ss)
    → start_of (rows 0 es ss) i ≡ last_or 0 (take i es)
start_row es ss i h l t =
    let end : ℕ = start_of (rows 0 es ss) i in
    let front : AreTiles 0 (rows 0 (take i es) (take i ss)) end =
    subst (λ (r : List Block). AreTiles 0 r end) (rows_take 0 es ss i) (parts_of (rows 0 es ss) i t).front in
    rows_end 0 (take i es) (take i ss) end (omega (arith, length-take-le i es l, length-take-le i ss (omega arith))) front

pub last_taken : (low : ℕ) (es : List ℕ) (i d : ℕ) → i < length es → last_or low (take (suc i) es) ≡ get_or es i d
last_taken low [] i d h = absurd (omega arith)
last_taken low (e ∷ es) zero d h = refl
last_taken low (e ∷ es) (suc i) d h = last_taken e es i d (omega arith)

pub end_row : (es : List ℕ) (ss : List Status) (i d : ℕ) → length ss ≡ length es → i < length es → IsTiled (rows 0 es ss)
    → get_or es i d ≡ start_of (rows 0 es ss) (i + 1)
end_row es ss i d h l t =
    let z : suc i ≡ i + 1 = omega arith in
    sym (last_taken 0 es i d l) ∙ ap (λ n. last_or 0 (take n es)) z ∙ sym (start_row es ss (i + 1) h (omega arith) t)

-- a block by its index
pub rows_get : (low : ℕ) (es : List ℕ) (ss : List Status) (i x : ℕ) (s : Status) (d : Block) → length ss ≡ length es
    → i < length es
    → get_or (rows low es ss) i d
    ≡ record { pos = last_or low (take i es); size = get_or es i x - last_or low (take i es); status = get_or ss i s }
rows_get low [] ss i x s d h l = absurd (omega arith)
rows_get low (e ∷ es) [] i x s d h l = absurd (omega arith)
rows_get low (e ∷ es) (t ∷ ss) zero x s d h l = refl
rows_get low (e ∷ es) (t ∷ ss) (suc i) x s d h l = rows_get e es ss i x s d (omega arith) (omega arith)

-- a boundary that was moved
pub rows_shift : (low : ℕ) (es : List ℕ) (ss : List Status) (k at : ℕ) (a b : Block) → length ss ≡ length es
    → suc k < length es → a ≡ get_or (rows low es ss) k a → b ≡ get_or (rows low es ss) (suc k) b → 0 < b.size
    → rows low (set es k at) ss ≡ set (set (rows low es ss) k (front_of a at)) (suc k) (back_of b at)
rows_shift low [] ss k at a b h l p q z = absurd (omega arith)
rows_shift low (e ∷ es) [] k at a b h l p q z = absurd (omega arith)
rows_shift low (e ∷ []) (s ∷ ss) zero at a b h l p q z = absurd (omega arith)
rows_shift low (e ∷ f ∷ es) (s ∷ []) zero at a b h l p q z = absurd (omega arith)
rows_shift low (e ∷ f ∷ es) (s ∷ t ∷ ss) zero at a b h l p q z =
    let back : Block → Block → List Block = λ x y. front_of x at ∷ back_of y at ∷ rows f es ss in
    let g : b.size ≡ f - e = ap (λ (c : Block). c.size) q in
    let n : e + (f - e) - at ≡ f - at = omega arith in
    ap (λ m. record { pos = low; size = at - low; status = s } ∷ record { pos = at; size = m; status = t } ∷ rows f es ss) (sym n)
    ∙ ap (λ x. back x (record { pos = e; size = f - e; status = t })) (sym p)
    ∙ ap (λ y. back a y) (sym q)
rows_shift low (e ∷ es) (s ∷ ss) (suc k) at a b h l p q z =
    ap (λ r. record { pos = low; size = e - low; status = s } ∷ r) (rows_shift e es ss k at a b (omega arith) (omega arith) p q z)

-- a block that was divided
divide_first : (low : ℕ) (es : List ℕ) (ss : List Status) (at : ℕ) (b : Block) → length ss ≡ length es → 0 < length es
    → b ≡ get_or (rows low es ss) 0 b → b.pos < at → at < b.pos + b.size
    → rows low (at ∷ es) (b.status ∷ ss) ≡ front_of b at ∷ back_of b at ∷ drop 1 (rows low es ss)
divide_first low [] ss at b h l q u v = absurd (omega arith)
divide_first low (e ∷ es) [] at b h l q u v = absurd (omega arith)
divide_first low (e ∷ es) (s ∷ ss) at b h l q u v =
    let rest : List Block = rows e es ss in
    let p : b.pos ≡ low = ap (λ (x : Block). x.pos) q in
    let g : b.size ≡ e - low = ap (λ (x : Block). x.size) q in
    let w : b.status ≡ s = ap (λ (x : Block). x.status) q in
    let n : b.pos + b.size - at ≡ e - at = omega arith in
    ap (λ x. record { pos = x; size = at - x; status = b.status } ∷ record { pos = at; size = e - at; status = s } ∷ rest) (sym p)
    ∙ ap (λ m. front_of b at ∷ record { pos = at; size = m; status = s } ∷ rest) (sym n)
    ∙ ap (λ (x : Status). front_of b at ∷ record { pos = at; size = b.pos + b.size - at; status = x } ∷ rest) (sym w)

pub rows_divide : (es : List ℕ) (ss : List Status) (i at : ℕ) (b : Block) → length ss ≡ length es → i < length es
    → b ≡ get_or (rows 0 es ss) i b → b.pos < at → at < b.pos + b.size
    → rows 0 (insert es i at) (insert ss i b.status) ≡ cut_at (rows 0 es ss) i (front_of b at) (back_of b at)
rows_divide es ss i at b h l q u v =
    let bs : List Block = rows 0 es ss in
    let low : ℕ = last_or 0 (take i es) in
    let here : drop i bs ≡ rows low (drop i es) (drop i ss) = rows_drop 0 es ss i h in
    let first : b ≡ get_or (rows low (drop i es) (drop i ss)) 0 b =
    q ∙ ap (λ n. get_or bs n b) (omega arith) ∙ sym (get_or-drop i bs 0 b) ∙ ap (λ r. get_or r 0 b) here in
    let n : length es ≡ length (drop i es) + i = omega (arith, length-drop i es) in
    let m : length ss ≡ length (drop i ss) + i = omega (arith, length-drop i ss) in
    rows_join 0 (take i es) (at ∷ drop i es) (take i ss) (b.status ∷ drop i ss)
    (omega (arith, length-take-le i es (omega arith), length-take-le i ss (omega arith)))
    ∙ ap (λ r. r ++ rows low (at ∷ drop i es) (b.status ∷ drop i ss)) (sym (rows_take 0 es ss i))
    ∙ ap (λ r. take i bs ++ r) (divide_first low (drop i es) (drop i ss) at b (omega arith) (omega arith) first u v)
    ∙ ap (λ r. take i bs ++ front_of b at ∷ back_of b at ∷ r) (ap (λ r. drop 1 r) (sym here) ∙ drop-drop 1 i bs)
    ∙ sym (cut_at_is bs i (front_of b at) (back_of b at) (omega (arith, rows_length 0 es ss h)))

-- a block after the last one
pub rows_push : (es : List ℕ) (ss : List Status) (b : Block) → length ss ≡ length es → IsTiled (rows 0 es ss)
    → length (flat_map covered (rows 0 es ss)) ≡ b.pos
    → rows 0 (es ++ (b.pos + b.size) ∷ []) (ss ++ b.status ∷ []) ≡ rows 0 es ss ++ b ∷ []
rows_push es ss b h t p =
    let low : ℕ = last_or 0 es in
    let e : low ≡ b.pos = sym (rows_end 0 es ss _ h t.tiled) ∙ p in
    let n : b.pos + b.size - b.pos ≡ b.size = omega arith in
    rows_join 0 es ((b.pos + b.size) ∷ []) ss (b.status ∷ []) h
    ∙ ap (λ x. rows 0 es ss ++ record { pos = x; size = b.pos + b.size - x; status = b.status } ∷ []) e
    ∙ ap (λ x. rows 0 es ss ++ record { pos = b.pos; size = x; status = b.status } ∷ []) n

-- a block in the place of those from one index up to another
pub rows_fuse : (es : List ℕ) (ss : List Status) (i j : ℕ) (b : Block) → length ss ≡ length es → i < j → j ≤ length es
    → IsTiled (rows 0 es ss) → start_of (rows 0 es ss) i ≡ b.pos → start_of (rows 0 es ss) j ≡ b.pos + b.size
    → rows 0 (take i es ++ (b.pos + b.size) ∷ drop j es) (take i ss ++ b.status ∷ drop j ss)
    ≡ take i (rows 0 es ss) ++ b ∷ drop j (rows 0 es ss)
rows_fuse es ss i j b h l u t p q =
    let low : ℕ = last_or 0 (take i es) in
    let end : ℕ = b.pos + b.size in
    let back : List Block = rows end (drop j es) (drop j ss) in
    let e : low ≡ b.pos = sym (start_row es ss i h (omega arith) t) ∙ p in
    let f : last_or 0 (take j es) ≡ end = sym (start_row es ss j h u t) ∙ q in
    let n : end - b.pos ≡ b.size = omega arith in
    let rest : back ≡ drop j (rows 0 es ss) =
    ap (λ x. rows x (drop j es) (drop j ss)) (sym f) ∙ sym (rows_drop 0 es ss j h) in
    rows_join 0 (take i es) (end ∷ drop j es) (take i ss) (b.status ∷ drop j ss)
    (omega (arith, length-take-le i es (omega arith), length-take-le i ss (omega arith)))
    ∙ ap (λ r. r ++ rows low (end ∷ drop j es) (b.status ∷ drop j ss)) (sym (rows_take 0 es ss i))
    ∙ ap (λ x. take i (rows 0 es ss) ++ record { pos = x; size = end - x; status = b.status } ∷ back) e
    ∙ ap (λ x. take i (rows 0 es ss) ++ record { pos = b.pos; size = x; status = b.status } ∷ back) n
    ∙ ap (λ r. take i (rows 0 es ss) ++ b ∷ r) rest

-- a boundary that was moved, in terms of what stood on either side of it
pub shifted_row : (es : List ℕ) (ss : List Status) (i at : ℕ) → length ss ≡ length es → IsTiled (rows 0 es ss) → 0 < i
    → i < length es → start_of (rows 0 es ss) (i - 1) < at → at < start_of (rows 0 es ss) (i + 1)
    → IsShifted (rows 0 es ss) (rows 0 (set es (i - 1) at) ss) i at
shifted_row es ss i at h t some l u v =
    let bs : List Block = rows 0 es ss in
    let m : i < length bs = omega (arith, rows_length 0 es ss h) in
    let a : Block = get_or bs (i - 1) no_block in
    let b : Block = get_or bs i no_block in
    let up : suc (i - 1) ≡ i = omega arith in
    let p : a ≡ get_or bs (i - 1) a = read_there bs (i - 1) (omega arith) in
    let q : b ≡ get_or bs i b = read_there bs i m in
    let new : rows 0 (set es (i - 1) at) ss ≡ set (set bs (i - 1) (front_of a at)) i (back_of b at) =
    rows_shift 0 es ss (i - 1) at a b h (omega arith) p (q ∙ ap (λ n. get_or bs n b) (sym up)) (tile_read bs i b t m q).sized
    ∙ ap (λ n. set (set bs (i - 1) (front_of a at)) n (back_of b at)) up in
    shifted_read bs (rows 0 (set es (i - 1) at) ss) i at a b t some m p q u v new

-- where a block begins that was looked for by its end
pub begins_after : (es : List ℕ) (ss : List Status) (i n : ℕ) (d : Block) → length ss ≡ length es → 0 < i → i < length es
    → n ≡ get_or es (i - 1) n → n ≡ (get_or (rows 0 es ss) i d).pos
begins_after es ss i n d h some l q =
    let up : suc (i - 1) ≡ i = omega arith in
    q ∙ sym (last_taken 0 es (i - 1) n (omega arith)) ∙ ap (λ m. last_or 0 (take m es)) up
    ∙ sym (ap (λ (b : Block). b.pos) (rows_get 0 es ss i 0 NonTried d h l))

pub begins_first : (es : List ℕ) (ss : List Status) (i : ℕ) (d : Block) → length ss ≡ length es → i ≡ 0 → i < length es
    → 0 ≡ (get_or (rows 0 es ss) i d).pos
begins_first es ss i d h z l =
    ap (λ m. last_or 0 (take m es)) (sym z) ∙ sym (ap (λ (b : Block). b.pos) (rows_get 0 es ss i 0 NonTried d h l))

-- a block whose parts were read
pub block_read : (es : List ℕ) (ss : List Status) (i pos size end : ℕ) (s : Status) → length ss ≡ length es → i < length es
    → ((d : Block) → pos ≡ (get_or (rows 0 es ss) i d).pos) → end ≡ get_or es i end → size ≡ end - pos → s ≡ get_or ss i s
    → record { pos = pos; size = size; status = s }
    ≡ get_or (rows 0 es ss) i (record { pos = pos; size = size; status = s })
block_read es ss i pos size end s h l p e q w =
    let b : Block = record { pos = pos; size = size; status = s } in
    let low : ℕ = last_or 0 (take i es) in
    let g = rows_get 0 es ss i end s b h l in
    let z : pos ≡ low = p b ∙ ap (λ (x : Block). x.pos) g in
    let n : size ≡ get_or es i end - low = omega arith in
    ap (λ x. record { pos = x; size = size; status = s }) z
    ∙ ap (λ x. record { pos = low; size = x; status = s }) n
    ∙ ap (λ (x : Status). record { pos = low; size = get_or es i end - low; status = x }) w
    ∙ sym g

-- a search among ends
pub rising_ends : (es : List ℕ) (ss : List Status) → length ss ≡ length es → IsTiled (rows 0 es ss)
    → IsNonDecreasingBy (λ (x : ℕ). x) es
rising_ends es ss h t i j d l u =
    omega (
      arith,
      end_row es ss i d h (omega arith) t,
      end_row es ss j d h u t,
      start_mono (rows 0 es ss) (i + 1) (j + 1) (omega arith),
    )

pub place_from_ends : (es : List ℕ) (ss : List Status) (at k : ℕ) → length ss ≡ length es → IsTiled (rows 0 es ss) → 0 < at
    → at ≤ length (flat_map covered (rows 0 es ss)) → k ≤ length es
    → IsPartitionPoint (λ y. ltb y at ≡ true) (λ y. ltb y at ≡ false) es k → IsPlace (rows 0 es ss) at (k + 1)
place_from_ends es ss at k h t some w l p =
    let bs : List Block = rows 0 es ss in
    let size = rows_length 0 es ss h in
    let below : start_of bs k < at = ⊎_elim
    (λ (o : 0 < k).
    let z : k - 1 + 1 ≡ k = omega arith in
    omega (
      arith,
      end_row es ss (k - 1) 0 h (omega arith) t,
      ap (λ n. start_of bs n) z,
      ltb-true _ _ (p.0 (k - 1) 0 (omega arith) (omega arith)),
    ))
    (λ (o : k ≤ 0). let z : k ≡ 0 = omega arith in omega (arith, ap (λ n. start_of bs n) z))
    (cases_lt 0 k) in
    let there : k < length es = ⊎_elim (λ (o : k < length es). o)
    (λ (o : length es ≤ k). absurd (omega (arith, start_all bs k (omega arith))))
    (cases_lt k (length es)) in
    let z : k + 1 - 1 ≡ k = omega arith in
    record {
      index = omega arith;
      before = λ o. omega (arith, ap (λ n. start_of bs n) z);
      reaches = omega (arith, end_row es ss k 0 h there t, ltb-false _ _ (p.1 k 0 (omega arith) there));
    }

-- what a call that succeeds makes
pub made : {T E X : Type 0} (r : Result T E) (a b new : X) → IsOk r → new ≡ (if is_ok r then a else b) → new ≡ a
made (Ok t) a b new h e = e
made (Err x) a b new h e = cc

-- a row has a block for each end
pub row_size : (r : Inside) (v : Lined) → row_of r ≡ v → IsRow r → length v.items ≡ length r.ends.items
row_size r v e h = ap (λ (x : Lined). length x.items) (sym e) ∙ rows_length 0 r.ends.items r.statuses.items h.alike
