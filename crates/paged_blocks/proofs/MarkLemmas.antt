-- A mark, and what is left of the blocks on its sides.
use Rattle.std.specs.List.{flat_map}
use Rattle.std.proofs.Common.{◌≡◌, ℕ, ◌+◌, ◌-◌, ◌<◌, ◌≤◌, ◌^◌, List, [], ◌∷◌, ◌++◌, length, take, drop, get_or, replicate, Option, Some, None, max, refl, subst, arith, ap, sym, ◌∙◌, append_assoc, append-nil, length-append, option_to_list}
use Rattle.std.proofs.lemmas.List.{length_push, take-append-drop, take_more, drop_more, take_at, drop_at, drop_all, replicate-append-replicate, length-replicate}
use Rattle.block_list.specs.declared.status.Status.{Status}
use Rattle.block_list.specs.declared.block.Block.{Block}
use Rattle.block_list.specs.Map.{marked}
use Rattle.block_list.specs.Stretches.{covered}
use Rattle.block_list.specs.Tiling.{AreTiles, IsMerged}
use Rattle.block_list.specs.Edits.{IsTiled, IsPlace, start_of}
use Rattle.block_list.proofs.TileLemmas.{covered-append, tiles_join, tiled_from_tiles, parts_of, start_all, index_before, IsTile, tile_read}
use Rattle.block_list.proofs.ApartLemmas.{AreApart, apart_from_merged, merged_from_apart, apart_last, apart_first, apart_push, apart_meet, merged_front, merged_back}
use Rattle.block_pages.specs.Splice.{spliced}
use Rattle.paged_blocks.specs.Marks.{IsJoinedFront, IsJoinedBack, AreOfMap}

-- a list with the block that was read in it
around : (bs : List Block) (k : ℕ) (b : Block) → k < length bs → b ≡ get_or bs k b → bs ≡ take k bs ++ b ∷ drop (k + 1) bs
around bs k b h q = sym (ap (λ r. take k bs ++ r) (ap (λ z. z ∷ drop (k + 1) bs) q ∙ sym (drop_more bs k b h)) ∙ take-append-drop k bs)

up_to : (bs : List Block) (k : ℕ) (b : Block) → k < length bs → b ≡ get_or bs k b → take (k + 1) bs ≡ take k bs ++ b ∷ []
up_to bs k b h q = take_more bs k b h ∙ ap (λ z. take k bs ++ z ∷ []) (sym q)

from_on : (bs : List Block) (k : ℕ) (b : Block) → k < length bs → b ≡ get_or bs k b → drop k bs ≡ b ∷ drop (k + 1) bs
from_on bs k b h q = drop_more bs k b h ∙ ap (λ z. z ∷ drop (k + 1) bs) (sym q)

-- the statuses of a block in two parts
halves : (n m size : ℕ) (s : Status) → n + m ≡ size → replicate size s ≡ replicate n s ++ replicate m s
halves n m size s e = ap (λ k. replicate k s) (sym e) ∙ sym (replicate-append-replicate n m s)

-- the statuses of a list around a block in two parts
split_around : (bs : List Block) (k n m : ℕ) (b : Block) → k < length bs → b ≡ get_or bs k b → n + m ≡ b.size
    → flat_map covered bs ≡ (flat_map covered (take k bs) ++ replicate n b.status)
    ++ (replicate m b.status ++ flat_map covered (drop (k + 1) bs))
split_around bs k n m b h q e =
    let front : List Status = flat_map covered (take k bs) in
    let back : List Status = flat_map covered (drop (k + 1) bs) in
    ap (λ r. flat_map covered r) (around bs k b h q)
    ∙ covered-append (take k bs) (b ∷ drop (k + 1) bs)
    ∙ ap (λ r. front ++ (r ++ back)) (halves n m b.size b.status e)
    ∙ ap (λ r. front ++ r) (append_assoc (replicate n b.status) (replicate m b.status) back)
    ∙ sym (append_assoc front (replicate n b.status) (replicate m b.status ++ back))

-- the positions in front of one inside a block
front_part : (bs : List Block) (k at : ℕ) (b : Block) → IsTiled bs → k < length bs → b ≡ get_or bs k b → b.pos ≤ at
    → at ≤ b.pos + b.size → take at (flat_map covered bs) ≡ flat_map covered (take k bs) ++ replicate (at - b.pos) b.status
front_part bs k at b t h q l u =
    let r = tile_read bs k b t h q in
    let n : ℕ = at - b.pos in
    let m : ℕ = b.pos + b.size - at in
    let front : List Status = flat_map covered (take k bs) ++ replicate n b.status in
    let z : length front ≡ at =
    omega (arith, length-append (flat_map covered (take k bs)) (replicate n b.status), length-replicate n b.status, r.begins) in
    ap (λ x. take at x) (split_around bs k n m b h q (omega arith))
    ∙ take_at front (replicate m b.status ++ flat_map covered (drop (k + 1) bs)) at z

-- the positions from one inside a block on
back_part : (bs : List Block) (k at : ℕ) (b : Block) → IsTiled bs → k < length bs → b ≡ get_or bs k b → b.pos ≤ at
    → at ≤ b.pos + b.size
    → drop at (flat_map covered bs) ≡ replicate (b.pos + b.size - at) b.status ++ flat_map covered (drop (k + 1) bs)
back_part bs k at b t h q l u =
    let r = tile_read bs k b t h q in
    let n : ℕ = at - b.pos in
    let m : ℕ = b.pos + b.size - at in
    let front : List Status = flat_map covered (take k bs) ++ replicate n b.status in
    let z : length front ≡ at =
    omega (arith, length-append (flat_map covered (take k bs)) (replicate n b.status), length-replicate n b.status, r.begins) in
    ap (λ x. drop at x) (split_around bs k n m b h q (omega arith))
    ∙ drop_at front (replicate m b.status ++ flat_map covered (drop (k + 1) bs)) at z

pub front_none : (bs : List Block) (block : Block) → block.pos ≡ 0 → 0 < block.size → 0 < length (flat_map covered bs)
    → IsJoinedFront bs block 0 None block
front_none bs block e s some = record {
  within = omega arith;
  early = omega arith;
  inside = some;
  none = λ h. refl;
  ends = refl;
  sized = omega arith;
  status = refl;
  tiled = e;
  merged = merged_from_apart (block ∷ []) (tt, tt);
  same = append-nil (covered block) ∙ sym (ap (λ n. take n (flat_map covered bs) ++ covered block) e);
}

-- what is known of the block that holds the position in front of a place
pub record IsInFront (bs : List Block) (k at : ℕ) (b : Block) : Type 0 where
  pub index : k < length bs
  pub tile : IsTile bs k b
  pub begun : b.pos < at
  pub reaches : at ≤ b.pos + b.size

pub in_front : (bs : List Block) (k i at : ℕ) (b : Block) → i ≡ k + 1 → IsTiled bs → IsPlace bs at i → b ≡ get_or bs k b → IsInFront bs k at b
in_front bs k i at b e t p q =
    let h : k < length bs = omega (arith, p.index) in
    let r = tile_read bs k b t h q in
    let z : i - 1 ≡ k = omega arith in
    let l : start_of bs k < at = rw z at (p.before (omega arith)) in
    let u : at ≤ start_of bs (k + 1) = rw e at p.reaches in
    record { index = h; tile = r; begun = omega (arith, r.begins); reaches = omega (arith, r.ends) }

pub front_other : (bs : List Block) (k i : ℕ) (block b : Block) → i ≡ k + 1 → IsTiled bs → IsMerged bs
    → IsPlace bs block.pos i → b ≡ get_or bs k b → (b.status ≡ block.status → ⊥)
    → IsJoinedFront bs block k (Some (record { pos = b.pos; size = block.pos - b.pos; status = b.status })) block
front_other bs k i block b e t m p q o =
    let f = in_front bs k i block.pos b e t p q in
    let rest : Block = record { pos = b.pos; size = block.pos - b.pos; status = b.status } in
    let part = front_part bs k block.pos b t f.index q (omega (arith, f.begun)) f.reaches in
    let x : AreTiles 0 (take k bs) b.pos = rw (← f.tile.begins) at (parts_of bs k t).front in
    let a : AreApart (take k bs ++ b ∷ []) = rw (up_to bs k b f.index q) at (merged_front (k + 1) bs m) in
    record {
      within = omega (arith, f.index);
      early = omega (arith, f.tile.begins, f.begun);
      inside = omega (arith, f.tile.begins, f.tile.sized, f.tile.within);
      none = λ h. absurd (omega (arith, f.begun));
      ends = refl;
      sized = omega arith;
      status = refl;
      tiled = tiles_join 0 (take k bs) (rest ∷ []) b.pos block.pos x
          (refl, omega (arith, f.begun), omega (arith, f.begun));
      merged = merged_from_apart _ (apart_push (take k bs) rest block o (apart_last (take k bs) b rest refl a));
      same = covered-append (take k bs ++ rest ∷ []) (block ∷ [])
          ∙ ap (λ r. flat_map covered (take k bs ++ rest ∷ []) ++ r) (append-nil (covered block))
          ∙ ap (λ r. r ++ covered block) (covered-append (take k bs) (rest ∷ [])
          ∙ ap (λ r. flat_map covered (take k bs) ++ r) (append-nil (covered rest)) ∙ sym part);
    }

pub front_same : (bs : List Block) (k i : ℕ) (block b : Block) → i ≡ k + 1 → IsTiled bs → IsMerged bs
    → IsPlace bs block.pos i → b ≡ get_or bs k b → b.status ≡ block.status
    → IsJoinedFront bs block k None (record { pos = b.pos; size = block.pos + block.size - b.pos; status = block.status })
front_same bs k i block b e t m p q s =
    let f = in_front bs k i block.pos b e t p q in
    let wide : Block = record { pos = b.pos; size = block.pos + block.size - b.pos; status = block.status } in
    let front : List Status = flat_map covered (take k bs) in
    let part = front_part bs k block.pos b t f.index q (omega (arith, f.begun)) f.reaches in
    let x : AreTiles 0 (take k bs) b.pos = rw (← f.tile.begins) at (parts_of bs k t).front in
    let a : AreApart (take k bs ++ b ∷ []) = rw (up_to bs k b f.index q) at (merged_front (k + 1) bs m) in
    let none : take k bs ++ [] ≡ take k bs = append-nil (take k bs) in
    record {
      within = omega (arith, f.index);
      early = omega (arith, f.tile.begins, f.begun);
      inside = omega (arith, f.tile.begins, f.tile.sized, f.tile.within);
      none = λ h. absurd (omega (arith, f.begun));
      ends = omega (arith, f.begun);
      sized = omega (arith, f.begun);
      status = refl;
      tiled = rw none x;
      merged = rw none (merged_from_apart _ (apart_last (take k bs) b wide s a));
      same = ap (λ r. flat_map covered (r ++ wide ∷ [])) none
          ∙ covered-append (take k bs) (wide ∷ [])
          ∙ ap (λ r. front ++ r) (append-nil (covered wide)
          ∙ halves (block.pos - b.pos) block.size wide.size block.status (omega (arith, f.begun)))
          ∙ sym (append_assoc front (replicate (block.pos - b.pos) block.status) (covered block))
          ∙ ap (λ z. front ++ replicate (block.pos - b.pos) z ++ covered block) (sym s)
          ∙ ap (λ r. r ++ covered block) (sym part);
    }

-- the block in front stays where it ends as another begins
pub front_kept : (bs : List Block) (k i : ℕ) (block b : Block) → i ≡ k + 1 → IsTiled bs → IsMerged bs
    → IsPlace bs block.pos i → b ≡ get_or bs k b → (b.status ≡ block.status → ⊥) → block.pos - b.pos ≡ b.size
    → block.pos < length (flat_map covered bs) → IsJoinedFront bs block i None block
front_kept bs k i block b e t m p q o z l =
    let f = in_front bs k i block.pos b e t p q in
    let j = front_other bs k i block b e t m p q o in
    let ends : start_of bs i ≡ block.pos = ap (λ n. start_of bs n) e ∙ omega (arith, f.tile.ends, f.begun) in
    let kept : take k bs ++ record { pos = b.pos; size = block.pos - b.pos; status = b.status } ∷ [] ≡ take i bs ++ [] =
    ap (λ n. take k bs ++ record { pos = b.pos; size = n; status = b.status } ∷ []) z
    ∙ sym (up_to bs k b f.index q) ∙ ap (λ n. take n bs) (sym e) ∙ sym (append-nil (take i bs)) in
    record {
      within = p.index;
      early = omega (arith, ends);
      inside = omega (arith, ends);
      none = λ h. refl;
      ends = refl;
      sized = omega arith;
      status = refl;
      tiled = subst (λ (r : List Block). AreTiles 0 r block.pos) kept j.tiled;
      merged = subst (λ (r : List Block). IsMerged (r ++ block ∷ [])) kept j.merged;
      same = subst (λ (r : List Block). flat_map covered (r ++ block ∷ []) ≡ take block.pos (flat_map covered bs) ++ covered block)
          kept j.same;
    }

-- the map goes on after such a block
pub kept_within : (bs : List Block) (k i : ℕ) (block b : Block) → i ≡ k + 1 → IsTiled bs → IsPlace bs block.pos i
    → b ≡ get_or bs k b → block.pos - b.pos ≡ b.size → block.pos < length (flat_map covered bs) → i < length bs
kept_within bs k i block b e t p q z l =
    let f = in_front bs k i block.pos b e t p q in
    let ends : start_of bs i ≡ block.pos = ap (λ n. start_of bs n) e ∙ omega (arith, f.tile.ends, f.begun) in
    index_before bs i (length bs) (omega (arith, ends, start_all bs (length bs) (omega arith)))

pub back_none : (bs : List Block) (high : ℕ) (block : Block) → high ≡ length bs → 0 < block.size
    → length (flat_map covered bs) ≤ block.pos + block.size → IsJoinedBack bs block high None block
back_none bs high block e s l =
    let d : drop high bs ≡ [] = drop_all high bs (omega arith) in
    let m : drop (block.pos + block.size) (flat_map covered bs) ≡ [] = drop_all (block.pos + block.size) (flat_map covered bs) l in
    let top : max (block.pos + block.size) (length (flat_map covered bs)) ≡ block.pos + block.size = omega arith in
    record {
      within = omega arith;
      reaches = omega (arith, start_all bs high (omega arith));
      none = λ h. refl;
      begins = refl;
      status = refl;
      tiled = rw d (refl, s, top);
      merged = rw d (merged_from_apart (block ∷ []) (tt, tt));
      same = ap (λ r. covered block ++ flat_map covered r) d ∙ ap (λ r. covered block ++ r) (sym m);
    }

-- what is known of the block that holds a position
pub record IsHolding (bs : List Block) (k at : ℕ) (b : Block) : Type 0 where
  pub index : k < length bs
  pub tile : IsTile bs k b
  pub begun : b.pos ≤ at
  pub beyond : at < b.pos + b.size

pub holding_of : (bs : List Block) (k j at : ℕ) (b : Block) → j ≡ k + 1 → IsTiled bs → IsPlace bs (at + 1) j → b ≡ get_or bs k b → IsHolding bs k at b
holding_of bs k j at b e t p q =
    let h : k < length bs = omega (arith, p.index) in
    let r = tile_read bs k b t h q in
    let z : j - 1 ≡ k = omega arith in
    let l : start_of bs k < at + 1 = rw z at (p.before (omega arith)) in
    let u : at + 1 ≤ start_of bs (k + 1) = rw e at p.reaches in
    record { index = h; tile = r; begun = omega (arith, r.begins); beyond = omega (arith, r.ends) }

-- the tiles after a block that holds a position
tiles_after : (bs : List Block) (k at mid : ℕ) (b : Block) → IsTiled bs → IsHolding bs k at b → mid ≡ b.pos + b.size
    → AreTiles mid (drop (k + 1) bs) (max at (length (flat_map covered bs)))
tiles_after bs k at mid b t f e =
    let z : start_of bs (k + 1) ≡ mid = omega (arith, f.tile.ends) in
    let top : max at (length (flat_map covered bs)) ≡ length (flat_map covered bs) = omega (arith, f.tile.within, f.beyond) in
    rw top (rw z at (parts_of bs (k + 1) t).back)

pub back_other : (bs : List Block) (k j : ℕ) (block b : Block) → j ≡ k + 1 → IsTiled bs → IsMerged bs
    → IsPlace bs (block.pos + block.size + 1) j → b ≡ get_or bs k b → 0 < block.size → (b.status ≡ block.status → ⊥)
    → IsJoinedBack bs block j (Some (record { pos = block.pos + block.size; size = b.pos + b.size - (block.pos + block.size); status = b.status })) block
back_other bs k j block b e t m p q s o =
    let at : ℕ = block.pos + block.size in
    let f = holding_of bs k j at b e t p q in
    let rest : Block = record { pos = at; size = b.pos + b.size - at; status = b.status } in
    let part = back_part bs k at b t f.index q f.begun (omega (arith, f.beyond)) in
    let x = tiles_after bs k at (at + rest.size) b t f (omega (arith, f.beyond)) in
    let a : AreApart (b ∷ drop (k + 1) bs) = rw (from_on bs k b f.index q) at (merged_back k bs m) in
    record {
      within = p.index;
      reaches = omega (arith, p.reaches);
      none = λ h. absurd (omega (arith, f.beyond, f.tile.within));
      begins = refl;
      status = refl;
      tiled = rw e (refl, s, (refl, omega (arith, f.beyond), x));
      merged = rw e (merged_from_apart (block ∷ rest ∷ drop (k + 1) bs) (λ z. o (sym z), apart_first b rest (drop (k + 1) bs) refl a));
      same = rw e (ap (λ r. covered block ++ r) (sym part));
    }

pub back_same : (bs : List Block) (k j : ℕ) (block b : Block) → j ≡ k + 1 → IsTiled bs → IsMerged bs
    → IsPlace bs (block.pos + block.size + 1) j → b ≡ get_or bs k b → 0 < block.size → b.status ≡ block.status
    → IsJoinedBack bs block j None (record { pos = block.pos; size = block.size + (b.pos + b.size - (block.pos + block.size)); status = block.status })
back_same bs k j block b e t m p q some s =
    let at : ℕ = block.pos + block.size in
    let f = holding_of bs k j at b e t p q in
    let more : ℕ = b.pos + b.size - at in
    let whole : Block = record { pos = block.pos; size = block.size + more; status = block.status } in
    let back : List Status = flat_map covered (drop (k + 1) bs) in
    let part = back_part bs k at b t f.index q f.begun (omega (arith, f.beyond)) in
    let x = tiles_after bs k at (block.pos + whole.size) b t f (omega (arith, f.beyond)) in
    let a : AreApart (b ∷ drop (k + 1) bs) = rw (from_on bs k b f.index q) at (merged_back k bs m) in
    record {
      within = p.index;
      reaches = omega (arith, p.reaches);
      none = λ h. absurd (omega (arith, f.beyond, f.tile.within));
      begins = refl;
      status = refl;
      tiled = rw e (refl, omega arith, x);
      merged = rw e (merged_from_apart (whole ∷ drop (k + 1) bs) (apart_first b whole (drop (k + 1) bs) s a));
      same = rw e (ap (λ r. r ++ back) (halves block.size more whole.size block.status refl)
          ∙ append_assoc (covered block) (replicate more block.status) back
          ∙ ap (λ z. covered block ++ (replicate more z ++ back)) (sym s)
          ∙ ap (λ r. covered block ++ r) (sym part));
    }

-- the block after another stays if it begins as that one ends
pub back_kept : (bs : List Block) (k j : ℕ) (block b : Block) → j ≡ k + 1 → IsTiled bs → IsMerged bs
    → IsPlace bs (block.pos + block.size + 1) j → b ≡ get_or bs k b → 0 < block.size → (b.status ≡ block.status → ⊥)
    → b.pos + b.size - (block.pos + block.size) ≡ b.size → IsJoinedBack bs block k None block
back_kept bs k j block b e t m p q s o z =
    let at : ℕ = block.pos + block.size in
    let f = holding_of bs k j at b e t p q in
    let g = back_other bs k j block b e t m p q s o in
    let begins : b.pos ≡ at = omega (arith, f.begun, f.beyond) in
    let kept : record { pos = at; size = b.pos + b.size - at; status = b.status } ∷ drop j bs ≡ drop k bs =
    ap (λ n. record { pos = n; size = b.pos + b.size - at; status = b.status } ∷ drop j bs) (sym begins)
    ∙ ap (λ n. record { pos = b.pos; size = n; status = b.status } ∷ drop j bs) z
    ∙ ap (λ n. b ∷ drop n bs) e ∙ sym (from_on bs k b f.index q) in
    record {
      within = omega (arith, f.index);
      reaches = omega (arith, f.tile.begins, begins);
      none = λ h. refl;
      begins = refl;
      status = refl;
      tiled = subst (λ (r : List Block). AreTiles block.pos (block ∷ r) (max at (length (flat_map covered bs)))) kept g.tiled;
      merged = subst (λ (r : List Block). IsMerged (block ∷ r)) kept g.merged;
      same = subst (λ (r : List Block). flat_map covered (block ∷ r) ≡ covered block ++ drop at (flat_map covered bs)) kept g.same;
    }

-- such a block isn't the first
pub kept_after : (bs : List Block) (k j : ℕ) (block b : Block) → j ≡ k + 1 → IsTiled bs
    → IsPlace bs (block.pos + block.size + 1) j → b ≡ get_or bs k b → 0 < block.size
    → b.pos + b.size - (block.pos + block.size) ≡ b.size → 1 < j
kept_after bs k j block b e t p q s z =
    let f = holding_of bs k j (block.pos + block.size) b e t p q in
    let none : start_of bs 0 ≡ 0 = refl in
    omega (arith, index_before bs 0 k (omega (arith, none, f.tile.begins, f.begun, f.beyond)))

-- the blocks with what was joined in the place of those between
pub joined : (bs new : List Block) (low high : ℕ) (before after : Option Block) (block wide whole : Block) → IsTiled bs
    → 0 < block.size → block.pos + block.size < 2 ^ 63 → IsJoinedFront bs block low before wide
    → IsJoinedBack bs wide high after whole → new ≡ option_to_list before ++ whole ∷ [] ++ option_to_list after
    → AreOfMap (spliced bs low high new) (marked (flat_map covered bs) block.pos block.size block.status)
joined bs new low high before after block wide whole t s u f g n =
    let map : List Status = flat_map covered bs in
    let xs : List Block = take low bs ++ option_to_list before in
    let ys : List Block = option_to_list after ++ drop high bs in
    let end : ℕ = max (wide.pos + wide.size) (length map) in
    let e : spliced bs low high new ≡ xs ++ whole ∷ ys =
    ap (λ r. take low bs ++ r ++ drop high bs) n ∙ simp append_assoc in
    let front : AreTiles 0 xs whole.pos = rw g.begins f.tiled in
    let a : AreApart (xs ++ whole ∷ []) = apart_last xs wide whole (sym g.status) (apart_from_merged _ f.merged) in
    let covered_front : flat_map covered xs ++ covered wide ≡ take block.pos map ++ covered block =
    ap (λ r. flat_map covered xs ++ r) (sym (append-nil (covered wide))) ∙ sym (covered-append xs (wide ∷ [])) ∙ f.same in
    rw e (record {
      tiled = tiled_from_tiles (xs ++ whole ∷ ys) end (tiles_join 0 xs (whole ∷ ys) whole.pos end front g.tiled) (omega (arith, f.ends, t.short));
      merged = merged_from_apart _ (apart_meet xs whole ys a (apart_from_merged _ g.merged));
      statuses = covered-append xs (whole ∷ ys)
          ∙ ap (λ r. flat_map covered xs ++ r) g.same
          ∙ sym (append_assoc (flat_map covered xs) (covered wide) (drop (wide.pos + wide.size) map))
          ∙ ap (λ r. r ++ drop (wide.pos + wide.size) map) covered_front
          ∙ ap (λ x. take block.pos map ++ covered block ++ drop x map) f.ends;
    })

-- at least one block is taken out
pub some_taken : (bs : List Block) (low high : ℕ) (before after : Option Block) (block wide whole : Block)
    → 0 < block.size → IsJoinedFront bs block low before wide → IsJoinedBack bs wide high after whole → low < high
some_taken bs low high before after block wide whole s f g =
    index_before bs low high (omega (arith, f.early, f.inside, f.ends, g.reaches))

one_at_most : (rest : Option Block) → length (option_to_list rest) ≤ 1
one_at_most None = omega arith
one_at_most (Some b) = omega arith

-- the blocks that come in, one part after the other
pub new_blocks : (none one two three : List Block) (before after : Option Block) (whole : Block) → none ≡ []
    → one ≡ none ++ option_to_list before → two ≡ one ++ whole ∷ [] → three ≡ two ++ option_to_list after
    → three ≡ option_to_list before ++ whole ∷ [] ++ option_to_list after
new_blocks none one two three before after whole z a b c =
    c ∙ ap (λ r. r ++ option_to_list after) (b ∙ ap (λ r. r ++ whole ∷ []) (a ∙ ap (λ r. r ++ option_to_list before) z))

-- how many blocks come in
pub record IsFew (new : List Block) (after : Option Block) : Type 0 where
  pub some : 0 < length new
  pub few : length new ≤ 3
  pub fewer : after ≡ None → length new ≤ 2

pub few_new : (new : List Block) (before after : Option Block) (whole : Block)
    → new ≡ option_to_list before ++ whole ∷ [] ++ option_to_list after → IsFew new after
few_new new before after whole n =
    let front : List Block = option_to_list before ++ whole ∷ [] in
    let e : length new ≡ length (option_to_list before) + 1 + length (option_to_list after) =
    ap length n ∙ length-append front (option_to_list after)
    ∙ ap (λ k. k + length (option_to_list after)) (length_push (option_to_list before) whole) in
    record {
      some = omega (arith, e);
      few = omega (arith, e, one_at_most before, one_at_most after);
      fewer = λ z.
          let none : length (option_to_list after) ≡ 0 = ap (λ (r : Option Block). length (option_to_list r)) z in
          omega (arith, e, one_at_most before);
    }
