-- What an edit of a list of blocks leaves: a cut, a block in the place of others, and a block after all others.
use Rattle.std.proofs.Common.{◌≡◌, ℕ, ◌+◌, ◌-◌, ◌<◌, ◌≤◌, ◌^◌, List, [], ◌∷◌, ◌++◌, length, take, drop, get_or, replicate, Some, Bool, true, false, if◌then◌else◌, refl, arith, ap, sym, ◌∙◌, subst, append_assoc, append-nil, length-append, ⊎_elim}
use Rattle.std.specs.List.{flat_map, slice_get}
use Rattle.std.specs.List.Sorted.{IsNonDecreasingBy}
use Rattle.std.proofs.lemmas.List.{take-append-drop, take_more, drop_more, replicate-append-replicate, take_more_set, drop-set-lt, take_at, drop_at, length_push, length-take-le, take_all, drop_all, drop-drop, take-append-le, drop-append-le, get_or_default}
use Rattle.std.proofs.lemmas.Bool.{cases_lt}
use Rattle.block_list.specs.declared.status.Status.{Status}
use Rattle.block_list.specs.declared.status.Status.TheVariants.{NonTried}
use Rattle.block_list.specs.declared.block.Block.{Block}
use Rattle.block_list.specs.Map.{marked}
use Rattle.block_list.specs.Stretches.{covered, back_of}
use Rattle.block_list.specs.Tiling.{AreTiles, IsMerged}
use Rattle.plain_blocks.specs.Push.{EndsWith}
use Rattle.block_list.specs.Edits.{IsTiled, IsBlockCut, IsJoinedBefore, IsJoinedAfter, start_of, front_of, cut_at}
use Rattle.block_list.proofs.TileLemmas.{covered-append, length_first, tiles_join, tiles_split, tiled_from_tiles, parts_of, start_le_end, start_mono, index_before, start_more, start_all, tile_at, tile_read, front_statuses, back_statuses}
use Rattle.block_list.proofs.StretchLemmas.{block_has}
use Rattle.block_list.proofs.ApartLemmas.{AreApart, apart_from_merged, merged_from_apart, apart_left, apart_right, apart_meet, apart_last, apart_first, apart_push, merged_front, merged_back}

-- a block to read a list with
abbrev pub no_block : Block
no_block = record { pos = 0; size = 0; status = NonTried }

pub read_there : (bs : List Block) (k : ℕ) → k < length bs → get_or bs k no_block ≡ get_or bs k (get_or bs k no_block)
read_there bs k h = get_or_default bs k no_block (get_or bs k no_block) h

pub rising : (bs : List Block) → IsTiled bs → IsNonDecreasingBy (λ (b : Block). b.pos) bs
rising bs t i j d h l =
    omega (arith, (tile_at bs i d t (omega arith)).begins, (tile_at bs j d t l).begins, start_mono bs i j h)

pub cut_at_is : (bs : List Block) (k : ℕ) (f g : Block) → k < length bs
    → cut_at bs k f g ≡ take k bs ++ (f ∷ g ∷ drop (k + 1) bs)
cut_at_is bs k f g h =
    rw (take_more_set bs k f h, drop-set-lt (k + 1) bs k f (omega arith)) (append_assoc (take k bs) (f ∷ []) (g ∷ drop (k + 1) bs))

cut_tiles : (low : ℕ) (b : Block) (bs : List Block) (end at : ℕ) → AreTiles low (b ∷ bs) end
    → b.pos < at → at < b.pos + b.size → AreTiles low (front_of b at ∷ back_of b at ∷ bs) end
cut_tiles low b bs end at t l u =
    let z : low + (at - b.pos) + (b.pos + b.size - at) ≡ low + b.size = omega arith in
    (t.0, omega arith, (omega (arith, t.0), omega arith, rw z t.2))

pub cut_same : (b : Block) (bs : List Block) (at : ℕ) → b.pos < at → at < b.pos + b.size
    → flat_map covered (front_of b at ∷ back_of b at ∷ bs) ≡ flat_map covered (b ∷ bs)
cut_same b bs at l u =
    let z : at - b.pos + (b.pos + b.size - at) ≡ b.size = omega arith in
    sym (append_assoc (replicate (at - b.pos) b.status) (replicate (b.pos + b.size - at) b.status) (flat_map covered bs))
    ∙ ap (λ r. r ++ flat_map covered bs) (replicate-append-replicate (at - b.pos) (b.pos + b.size - at) b.status ∙ ap (λ n. replicate n b.status) z)

-- a block that begins no later than a position inside another one stands no further on
no_later : (xs : List Block) (b : Block) (ys : List Block) (n at : ℕ)
    → start_of (xs ++ b ∷ ys) n ≤ at → at < length (flat_map covered xs) + b.size → n ≤ length xs
no_later xs b ys n at h u =
    let k : take (length xs + 1) (xs ++ b ∷ ys) ≡ xs ++ b ∷ [] =
    rw (sym (append_assoc xs (b ∷ []) ys)) (take_at (xs ++ b ∷ []) ys (length xs + 1) (length_push xs b)) in
    let s : start_of (xs ++ b ∷ ys) (length xs + 1) ≡ length (flat_map covered xs) + b.size =
    rw (k, covered-append xs (b ∷ [])) (omega (
      arith,
      length-append (flat_map covered xs) (flat_map covered (b ∷ [])),
      length_first b [],
    )) in
    ⊎_elim (λ (l : length xs < n). absurd (omega (arith, s, start_mono (xs ++ b ∷ ys) (length xs + 1) n (omega arith))))
    (λ (l : n ≤ length xs). l) (cases_lt (length xs) n)

divided : (xs : List Block) (b : Block) (ys : List Block) (at i : ℕ) → i ≡ length xs + 1 → IsTiled (xs ++ b ∷ ys)
    → b.pos < at → at < b.pos + b.size → IsBlockCut (xs ++ b ∷ ys) (xs ++ front_of b at ∷ back_of b at ∷ ys) at i
divided xs b ys at i e t l u =
    let f : Block = front_of b at in
    let g : Block = back_of b at in
    let end : ℕ = length (flat_map covered (xs ++ b ∷ ys)) in
    let parts = tiles_split 0 xs (b ∷ ys) end t.tiled in
    let new : List Block = xs ++ f ∷ g ∷ ys in
    let tk : take i new ≡ xs ++ f ∷ [] =
    ap (λ r. take i r) (sym (append_assoc xs (f ∷ []) (g ∷ ys)))
    ∙ take_at (xs ++ f ∷ []) (g ∷ ys) i (length_push xs f ∙ sym e) in
    let dr : drop i new ≡ g ∷ ys =
    ap (λ r. drop i r) (sym (append_assoc xs (f ∷ []) (g ∷ ys)))
    ∙ drop_at (xs ++ f ∷ []) (g ∷ ys) i (length_push xs f ∙ sym e) in
    let tiles : AreTiles 0 new end =
    tiles_join 0 xs (f ∷ g ∷ ys) (0 + length (flat_map covered xs)) end parts.front (cut_tiles _ b ys end at parts.back l u) in
    let start : b.pos ≡ length (flat_map covered xs) = omega (arith, parts.back.0) in
    record {
      tiled = tiled_from_tiles new end tiles t.short;
      same = covered-append xs (f ∷ g ∷ ys) ∙ ap (λ r. flat_map covered xs ++ r) (cut_same b ys at l u) ∙ sym (covered-append xs (b ∷ ys));
      index = omega (arith, length-append xs (f ∷ g ∷ ys));
      place = ap (λ r. length (flat_map covered r)) tk ∙ ap length (covered-append xs (f ∷ []))
          ∙ omega (arith, length-append (flat_map covered xs) (flat_map covered (f ∷ [])), length_first f [], start);
      kept = λ n h. let w : n ≤ length xs = no_later xs b ys n at (omega arith) (omega (arith, start)) in
          take-append-le n xs (f ∷ g ∷ ys) w ∙ sym (take-append-le n xs (b ∷ ys) w);
      front = λ m. rw tk (merged_from_apart (xs ++ f ∷ [])
          (apart_last xs b f refl (apart_left (xs ++ b ∷ []) ys
          (rw (append_assoc xs (b ∷ []) ys) (apart_from_merged (xs ++ b ∷ ys) m)))));
      back = λ n h m. let w : n ≤ length xs = no_later xs b ys n at h (omega (arith, start)) in
          let a : AreApart (drop n xs ++ b ∷ ys) = rw (drop-append-le n xs (b ∷ ys) w) at (apart_from_merged _ m) in
          rw dr (merged_from_apart (g ∷ ys) (apart_first b g ys refl (apart_right (drop n xs) (b ∷ ys) a)));
    }

-- the cut of a block that was read
pub cut_read : (bs new : List Block) (at k i : ℕ) (b : Block) → i ≡ k + 1 → IsTiled bs → k < length bs
    → b ≡ get_or bs k b → b.pos < at → at < b.pos + b.size → new ≡ cut_at bs k (front_of b at) (back_of b at)
    → IsBlockCut bs new at i
cut_read bs new at k i b e t h q l u n =
    let s : take k bs ++ b ∷ drop (k + 1) bs ≡ bs =
    ap (λ r. take k bs ++ r) (ap (λ z. z ∷ drop (k + 1) bs) q ∙ sym (drop_more bs k b h)) ∙ take-append-drop k bs in
    let m : new ≡ take k bs ++ front_of b at ∷ back_of b at ∷ drop (k + 1) bs = n ∙ cut_at_is bs k (front_of b at) (back_of b at) h in
    let w : i ≡ length (take k bs) + 1 = omega (arith, e, length-take-le k bs (omega arith)) in
    let P : List Block → Type 0 = λ r. IsBlockCut r (take k bs ++ front_of b at ∷ back_of b at ∷ drop (k + 1) bs) at i in
    rw m (subst P s (divided (take k bs) b (drop (k + 1) bs) at i w (subst IsTiled (sym s) t) l u))

-- a block already begins there, or it is the end
pub uncut : (bs : List Block) (at i : ℕ) → IsTiled bs → i ≤ length bs → start_of bs i ≡ at → IsBlockCut bs bs at i
uncut bs at i t h e = record {
  tiled = t;
  same = refl;
  index = h;
  place = e;
  kept = λ n l. refl;
  front = λ m. merged_from_apart (take i bs) (merged_front i bs m);
  back = λ n l m. ⊎_elim
      (λ (o : i < n). ⊎_elim
      (λ (w : i < length bs).
      absurd (omega (arith, start_mono bs (i + 1) n (omega arith), start_more bs i no_block w, (tile_at bs i no_block t w).sized)))
      (λ (w : length bs ≤ i). rw (drop_all i bs w) (merged_from_apart [] tt))
      (cases_lt i (length bs)))
      (λ (o : n ≤ i).
      let z : n + (i - n) ≡ i = omega arith in
      let a : AreApart (drop i bs) = rw (drop-drop (i - n) n bs, z) at (merged_back (i - n) (drop n bs) m) in
      merged_from_apart (drop i bs) a)
      (cases_lt i n);
}

pub joined_first : (xs : List Block) (a : Block) (n : ℕ) (s : Status) → a.status ≡ s
    → flat_map covered xs ++ replicate (a.size + n) s ≡ flat_map covered (xs ++ a ∷ []) ++ replicate n s
joined_first xs a n s e = sym (
    ap (λ r. r ++ replicate n s) (covered-append xs (a ∷ []) ∙ ap (λ r. flat_map covered xs ++ r) (append-nil (covered a)))
    ∙ append_assoc (flat_map covered xs) (covered a) (replicate n s)
    ∙ ap (λ z. flat_map covered xs ++ (replicate a.size z ++ replicate n s)) e
    ∙ ap (λ r. flat_map covered xs ++ r) (replicate-append-replicate a.size n s))

-- the block in front joins
pub joined_before : (bs : List Block) (k i : ℕ) (block a : Block) → i ≡ k + 1 → i ≤ length bs → a ≡ get_or bs k a
    → IsTiled bs → start_of bs i ≡ block.pos → a.status ≡ block.status
    → IsJoinedBefore bs i block k (record { pos = a.pos; size = a.size + block.size; status = block.status })
joined_before bs k i block a e h q t p s =
    let r = tile_read bs k a t (omega arith) q in
    let w : take i bs ≡ take k bs ++ a ∷ [] = ap (λ n. take n bs) e ∙ take_more bs k a (omega arith) ∙ ap (λ z. take k bs ++ z ∷ []) (sym q) in
    let wide : Block = record { pos = a.pos; size = a.size + block.size; status = block.status } in
    let z : start_of bs i ≡ start_of bs (k + 1) = ap (λ n. start_of bs n) e in
    record {
      index = omega arith;
      place = sym r.begins;
      ends = omega (arith, z, r.ends);
      sized = omega arith;
      status = refl;
      same = joined_first (take k bs) a block.size block.status s ∙ ap (λ m. flat_map covered m ++ covered block) (sym w);
      merged = λ m. let b : AreApart (take k bs ++ a ∷ []) = rw w at (apart_from_merged _ m) in
          merged_from_apart (take k bs ++ wide ∷ []) (apart_last (take k bs) a wide s b);
    }

-- the block in front has another status
pub apart_before : (bs : List Block) (k i : ℕ) (block a : Block) → i ≡ k + 1 → i ≤ length bs → a ≡ get_or bs k a
    → start_of bs i ≡ block.pos → (a.status ≡ block.status → ⊥) → IsJoinedBefore bs i block i block
apart_before bs k i block a e h q p s =
    let w : take i bs ≡ take k bs ++ a ∷ [] = ap (λ n. take n bs) e ∙ take_more bs k a (omega arith) ∙ ap (λ z. take k bs ++ z ∷ []) (sym q) in
    record {
      index = omega arith;
      place = p;
      ends = refl;
      sized = omega arith;
      status = refl;
      same = refl;
      merged = λ m. let b : AreApart (take k bs ++ a ∷ []) = rw w at (apart_from_merged _ m) in
          rw w (merged_from_apart _ (apart_push (take k bs) a block s b));
    }

-- the block after it joins
pub joined_after : (bs : List Block) (j : ℕ) (block a : Block) → j < length bs → a ≡ get_or bs j a → IsTiled bs
    → start_of bs j ≡ block.pos + block.size → a.status ≡ block.status
    → IsJoinedAfter bs j block (j + 1) (record { pos = block.pos; size = block.size + a.size; status = block.status })
joined_after bs j block a h q t p s =
    let r = tile_read bs j a t h q in
    let w : drop j bs ≡ a ∷ drop (j + 1) bs = drop_more bs j a h ∙ ap (λ z. z ∷ drop (j + 1) bs) (sym q) in
    let wide : Block = record { pos = block.pos; size = block.size + a.size; status = block.status } in
    let rest : List Status = flat_map covered (drop (j + 1) bs) in
    record {
      index = omega arith;
      within = omega arith;
      place = omega (arith, r.ends, r.begins);
      begins = refl;
      sized = omega arith;
      status = refl;
      same = ap (λ m. m ++ rest) (sym (replicate-append-replicate block.size a.size block.status))
          ∙ append_assoc (replicate block.size block.status) (replicate a.size block.status) rest
          ∙ ap (λ z. replicate block.size block.status ++ (replicate a.size z ++ rest)) (sym s)
          ∙ ap (λ m. covered block ++ flat_map covered m) (sym w);
      merged = λ m. let b : AreApart (a ∷ drop (j + 1) bs) = rw w at (apart_from_merged _ m) in
          merged_from_apart (wide ∷ drop (j + 1) bs) (apart_first a wide (drop (j + 1) bs) s b);
    }

-- the block after it has another status
pub apart_after : (bs : List Block) (j : ℕ) (block a : Block) → j < length bs → a ≡ get_or bs j a
    → start_of bs j ≡ block.pos + block.size → (a.status ≡ block.status → ⊥) → IsJoinedAfter bs j block j block
apart_after bs j block a h q p s =
    let w : drop j bs ≡ a ∷ drop (j + 1) bs = drop_more bs j a h ∙ ap (λ z. z ∷ drop (j + 1) bs) (sym q) in
    record {
      index = omega arith;
      within = omega arith;
      place = p;
      begins = refl;
      sized = omega arith;
      status = refl;
      same = refl;
      merged = λ m. let b : AreApart (a ∷ drop (j + 1) bs) = rw w at (apart_from_merged _ m) in
          rw w (merged_from_apart (block ∷ a ∷ drop (j + 1) bs) (λ e. s (sym e), b));
    }

-- one block in the place of those from i up to j, joined with its neighbors
pub replaced_same : (bs : List Block) (i j low high : ℕ) (block wide whole : Block) → start_of bs i ≡ block.pos
    → start_of bs j ≡ block.pos + block.size → IsJoinedBefore bs i block low wide → IsJoinedAfter bs j wide high whole
    → flat_map covered (take low bs ++ whole ∷ drop high bs)
    ≡ marked (flat_map covered bs) block.pos block.size block.status
replaced_same bs i j low high block wide whole p e f g =
    covered-append (take low bs) (whole ∷ drop high bs)
    ∙ ap (λ r. flat_map covered (take low bs) ++ r) g.same
    ∙ sym (append_assoc (flat_map covered (take low bs)) (covered wide) (flat_map covered (drop j bs)))
    ∙ ap (λ r. r ++ flat_map covered (drop j bs)) f.same
    ∙ ap (λ r. r ++ covered block ++ flat_map covered (drop j bs)) (front_statuses bs i block.pos p)
    ∙ ap (λ r. take block.pos (flat_map covered bs) ++ covered block ++ r) (back_statuses bs j (block.pos + block.size) e)

pub replaced_tiled : (bs : List Block) (i j low high : ℕ) (block wide whole : Block) → IsTiled bs → 0 < block.size
    → IsJoinedBefore bs i block low wide → IsJoinedAfter bs j wide high whole
    → IsTiled (take low bs ++ whole ∷ drop high bs)
replaced_tiled bs i j low high block wide whole t s f g =
    let end : ℕ = length (flat_map covered bs) in
    let x : AreTiles 0 (take low bs) whole.pos = rw (f.place ∙ sym g.begins) at (parts_of bs low t).front in
    let y : AreTiles (whole.pos + whole.size) (drop high bs) end = rw g.place at (parts_of bs high t).back in
    tiled_from_tiles (take low bs ++ whole ∷ drop high bs) end
    (tiles_join 0 (take low bs) (whole ∷ drop high bs) whole.pos end x (refl, omega (arith, s, f.sized, g.sized), y))
    t.short

pub replaced_merged : (bs : List Block) (i j low high : ℕ) (block wide whole : Block) → IsMerged (take i bs)
    → IsMerged (drop j bs) → IsJoinedBefore bs i block low wide → IsJoinedAfter bs j wide high whole
    → IsMerged (take low bs ++ whole ∷ drop high bs)
replaced_merged bs i j low high block wide whole m n f g =
    merged_from_apart _ (apart_meet (take low bs) whole (drop high bs)
    (apart_last (take low bs) wide whole (sym g.status) (apart_from_merged _ (f.merged m)))
    (apart_from_merged _ (g.merged n)))

pub front_tiled : (bs : List Block) (i : ℕ) → IsTiled bs → IsTiled (take i bs)
front_tiled bs i t =
    tiled_from_tiles (take i bs) (start_of bs i) (parts_of bs i t).front (omega (arith, start_le_end bs i, t.short))

-- a block after all others
pub appended_tiled : (bs : List Block) (low : ℕ) (block wide : Block) → IsTiled bs → 0 < block.size
    → block.pos + block.size < 2 ^ 63 → IsJoinedBefore bs (length bs) block low wide
    → IsTiled (take low bs ++ wide ∷ [])
appended_tiled bs low block wide t s u f =
    let x : AreTiles 0 (take low bs) wide.pos = rw f.place at (parts_of bs low t).front in
    tiled_from_tiles (take low bs ++ wide ∷ []) (wide.pos + wide.size)
    (tiles_join 0 (take low bs) (wide ∷ []) wide.pos (wide.pos + wide.size) x (refl, omega (arith, s, f.sized), refl))
    (omega (arith, f.ends))

-- the same, or what was in front of it where there was no memory
pub appended_either : (bs new : List Block) (low : ℕ) (block wide : Block) (v : Bool) → IsTiled bs → 0 < block.size
    → block.pos + block.size < 2 ^ 63 → IsJoinedBefore bs (length bs) block low wide
    → new ≡ (if v then take low bs ++ wide ∷ [] else take low bs) → IsTiled new
appended_either bs new low block wide true t s u f e = rw e (appended_tiled bs low block wide t s u f)
appended_either bs new low block wide false t s u f e = rw e (front_tiled bs low t)

-- the last block has the status of the last position
last_status : (bs : List Block) (status : Status) → EndsWith (flat_map covered bs) status
    → (front : List Block) (last : Block)
    → bs ≡ front ++ last ∷ [] → 0 < last.size → last.status ≡ status
last_status bs status f front last e z =
    let x : ℕ = length (flat_map covered bs) - 1 in
    let n : length (flat_map covered bs) ≡ length (flat_map covered front) + last.size =
    ap (λ r. length (flat_map covered r)) e
    ∙ ap length (covered-append front (last ∷ []))
    ∙ omega (arith, length-append (flat_map covered front) (flat_map covered (last ∷ [])), length_first last []) in
    let h : slice_get (flat_map covered bs) x ≡ Some last.status =
    ap (λ r. slice_get (flat_map covered r) x) e ∙ block_has front last [] x (omega (arith, n)) (omega (arith, n)) in
    let g : slice_get (flat_map covered bs) x ≡ Some status = f.last in
    cc

-- a block that joins the last one leaves room for itself
pub joined_shorter : (bs : List Block) (low : ℕ) (block wide : Block) → IsTiled bs → IsMerged bs
    → IsJoinedBefore bs (length bs) block low wide → EndsWith (flat_map covered bs) block.status → low < length bs
joined_shorter bs low block wide t m f e = ⊎_elim
    (λ (l : low < length bs). l)
    (λ (l : length bs ≤ low).
    let k : ℕ = length bs - 1 in
    let some : 0 < length bs = index_before bs 0 (length bs) (omega (arith, start_all bs (length bs) (omega arith), e.some)) in
    let a : Block = get_or bs k no_block in
    let j : k + 1 ≡ length bs = omega arith in
    let all : bs ≡ take k bs ++ a ∷ [] = sym (take_all (k + 1) bs (omega arith)) ∙ take_more bs k no_block (omega arith) in
    let s : a.status ≡ block.status = last_status bs block.status e (take k bs) a all (tile_at bs k no_block t (omega arith)).sized in
    let w : take low bs ≡ bs = take_all low bs l in
    let full : take (length bs) bs ≡ bs = take_all (length bs) bs (omega arith) in
    let n : IsMerged (bs ++ wide ∷ []) = rw w at (f.merged (rw full m)) in
    let p : AreApart ((take k bs ++ a ∷ []) ++ wide ∷ []) = subst (λ (r : List Block). AreApart (r ++ wide ∷ [])) all (apart_from_merged _ n) in
    let q : AreApart (a ∷ wide ∷ []) = apart_right (take k bs) (a ∷ wide ∷ []) (rw append_assoc at p) in
    absurd (q.0 (s ∙ sym f.status)))
    (cases_lt low (length bs))
