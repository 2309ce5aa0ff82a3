-- Merged blocks are the stretches of the map that they tile, and the stretches of a map are such blocks.
use Rattle.std.proofs.Common.{◌≡◌, ℕ, zero, suc, ◌+◌, ◌-◌, ◌<◌, ◌≤◌, List, [], ◌∷◌, ◌++◌, length, take, drop, replicate, Some, Bool, true, false, cond, nat_eq, refl, arith, ap, sym, ◌∙◌, subst, append_assoc, add-one}
use Rattle.std.specs.List.{flat_map, slice_get}
use Rattle.std.proofs.lemmas.Bool.{eqb-true}
use Rattle.std.proofs.lemmas.List.{length-replicate, take-append-drop, drop_more}
use Rattle.std.proofs.lemmas.Option.{get_or_from_slice_get, slice_get_within}
use Rattle.block_list.specs.declared.status.Status.{Status}
use Rattle.block_list.specs.declared.status.Status.TheVariants.{NonTried, NonTrimmed, NonScraped, BadSector, Finished}
use Rattle.block_list.specs.declared.block.Block.{Block}
use Rattle.block_list.specs.Status.{symbol, same}
use Rattle.block_list.specs.Stretches.{covered, joined, stretches_from, stretches, IsStretch, AreStretches}
use Rattle.block_list.specs.Tiling.{AreTiles}
use Rattle.block_list.proofs.Places.{slice_get-append_left, slice_get-append_right, slice_get-replicate}
use Rattle.block_list.proofs.TileLemmas.{covered-append, length_first, tiles_split}
use Rattle.block_list.proofs.ApartLemmas.{IsOther, AreApart, apart_from_merged, apart_left, apart_right}

pub same_self : (s : Status) → same s s ≡ true
same_self NonTried = refl
same_self _ = refl

status_with : ℕ → Status
status_with n =
    cond (nat_eq n 63) NonTried (cond (nat_eq n 42) NonTrimmed (cond (nat_eq n 47) NonScraped (cond (nat_eq n 45) BadSector Finished)))

status_with-symbol : (s : Status) → status_with (symbol s) ≡ s
unfolding status_with
status_with-symbol NonTried = refl
status_with-symbol _ = refl

pub equal_from_same : (s t : Status) → same s t ≡ true → s ≡ t
equal_from_same s t h =
    sym (status_with-symbol s) ∙ ap status_with (eqb-true (symbol s) (symbol t) h) ∙ status_with-symbol t

pub other_same : (s t : Status) → (s ≡ t → ⊥) → same s t ≡ false
other_same s t h =
    let k : (v : Bool) → same s t ≡ v → v ≡ false =
    λ v. elim v as (λ v. same s t ≡ v → v ≡ false) [
      | true ↦ λ e. absurd (h (equal_from_same s t e))
      | false ↦ λ e. refl
    ] in
    k (same s t) refl

joined_other : (pos : ℕ) (s : Status) (bs : List Block) → IsOther s bs
    → joined pos s bs ≡ record { pos = pos; size = 1; status = s } ∷ bs
joined_other pos s [] h = refl
joined_other pos s (b ∷ bs) h = rw (other_same s b.status h) refl

pub first_stretch : (pos n : ℕ) (s : Status) (rest : List Status) (bs : List Block) → IsOther s bs → 0 < n
    → stretches_from (pos + n) rest ≡ bs → stretches_from pos (replicate n s ++ rest)
    ≡ record { pos = pos; size = n; status = s } ∷ bs
first_stretch pos zero s rest bs o h e = absurd (omega arith)
first_stretch pos (suc zero) s rest bs o h e = ap (λ r. joined pos s r) e ∙ joined_other pos s bs o
first_stretch pos (suc (suc n)) s rest bs o h e =
    let z : pos + suc (suc n) ≡ pos + 1 + suc n = omega arith in
    let k = first_stretch (pos + 1) (suc n) s rest bs o (omega arith) (rw z at e) in
    let B : ℕ → List Block = λ m. record { pos = pos; size = m; status = s } ∷ bs in
    let w : joined pos s (record { pos = pos + 1; size = suc n; status = s } ∷ bs) ≡ B (suc n + 1) = rw (same_self s) refl in
    ap (λ r. joined pos s r) k ∙ w ∙ ap B (add-one (suc n))

-- merged blocks are the stretches of the map that they tile
pub stretches_of_tiles : (low : ℕ) (bs : List Block) (end : ℕ) → AreTiles low bs end → AreApart bs
    → stretches_from low (flat_map covered bs) ≡ bs
stretches_of_tiles low [] end t a = refl
stretches_of_tiles low (b ∷ bs) end t a =
    let B : ℕ → List Block = λ p. record { pos = p; size = b.size; status = b.status } ∷ bs in
    first_stretch low b.size b.status (flat_map covered bs) bs a.0 t.1 (stretches_of_tiles (low + b.size) bs end t.2 a.1) ∙ ap B (sym t.0)

joined_tiles : (pos : ℕ) (s : Status) (bs : List Block) (end : ℕ) → AreTiles (pos + 1) bs end
    → AreTiles pos (joined pos s bs) end
joined_tiles pos s [] end t = (refl, omega arith, t)
joined_tiles pos s (b ∷ bs) end t =
    let z : pos + 1 + b.size ≡ pos + (b.size + 1) = omega arith in
    elim (same s b.status) as (λ v. AreTiles pos (cond v (record { pos = pos; size = b.size + 1; status = s } ∷ bs)
    (record { pos = pos; size = 1; status = s } ∷ b ∷ bs)) end)
    [ true ↦ (refl, omega arith, rw z at t.2) | false ↦ (refl, omega arith, t) ]

joined_covered : (pos : ℕ) (s : Status) (bs : List Block) → flat_map covered (joined pos s bs) ≡ s ∷ flat_map covered bs
joined_covered pos s [] = refl
joined_covered pos s (b ∷ bs) =
    let one : List Block = record { pos = pos; size = b.size + 1; status = s } ∷ bs in
    let two : List Block = record { pos = pos; size = 1; status = s } ∷ b ∷ bs in
    let k : (v : Bool) → same s b.status ≡ v → flat_map covered (cond v one two) ≡ s ∷ flat_map covered (b ∷ bs) =
    λ v. elim v as (λ v. same s b.status ≡ v → flat_map covered (cond v one two) ≡ s ∷ flat_map covered (b ∷ bs)) [
      | true ↦ λ e. ap (λ n. replicate n s ++ flat_map covered bs) (add-one b.size)
          ∙ ap (λ z. s ∷ (replicate b.size z ++ flat_map covered bs)) (equal_from_same s b.status e)
      | false ↦ λ e. refl
    ] in
    k (same s b.status) refl

joined_apart : (pos : ℕ) (s : Status) (bs : List Block) → AreApart bs → AreApart (joined pos s bs)
joined_apart pos s [] a = (tt, tt)
joined_apart pos s (b ∷ bs) a =
    let one : List Block = record { pos = pos; size = b.size + 1; status = s } ∷ bs in
    let two : List Block = record { pos = pos; size = 1; status = s } ∷ b ∷ bs in
    let P : Status → Type 0 = λ z. IsOther z bs in
    let k : (v : Bool) → same s b.status ≡ v → AreApart (cond v one two) = λ v. elim v as (λ v. same s b.status ≡ v → AreApart (cond v one two)) [
      | true ↦ λ e. (subst P (sym (equal_from_same s b.status e)) a.0, a.1)
      | false ↦ λ e. (λ q. let f : same s b.status ≡ true = rw (← q) (same_self s) in cc, a)
    ] in
    k (same s b.status) refl

pub stretches_tiles : (pos : ℕ) (map : List Status) → AreTiles pos (stretches_from pos map) (pos + length map)
stretches_tiles pos [] = omega arith
stretches_tiles pos (s ∷ map) =
    let z : pos + 1 + length map ≡ pos + suc (length map) = omega arith in
    joined_tiles pos s (stretches_from (pos + 1) map) (pos + suc (length map)) (rw z at (stretches_tiles (pos + 1) map))

pub stretches_covered : (pos : ℕ) (map : List Status) → flat_map covered (stretches_from pos map) ≡ map
stretches_covered pos [] = refl
stretches_covered pos (s ∷ map) =
    joined_covered pos s (stretches_from (pos + 1) map) ∙ ap (λ r. s ∷ r) (stretches_covered (pos + 1) map)

pub stretches_apart : (pos : ℕ) (map : List Status) → AreApart (stretches_from pos map)
stretches_apart pos [] = tt
stretches_apart pos (s ∷ map) = joined_apart pos s (stretches_from (pos + 1) map) (stretches_apart (pos + 1) map)

first_other : (s : Status) (low : ℕ) (bs : List Block) (end : ℕ) → AreTiles low bs end → IsOther s bs
    → slice_get (flat_map covered bs) 0 ≡ Some s → ⊥
first_other s low [] end t o h = cc
first_other s low (b ∷ bs) end t o h =
    let l : 0 < length (covered b) = omega (arith, length-replicate b.size b.status, t.1) in
    let e = slice_get-append_left (covered b) (flat_map covered bs) 0 l in
    let f = slice_get-replicate b.size b.status 0 t.1 in
    o (cc)

last_other : (b : Block) (low : ℕ) (xs : List Block) (mid x : ℕ) → AreTiles low xs mid → AreApart (xs ++ b ∷ [])
    → x + 1 ≡ length (flat_map covered xs) → slice_get (flat_map covered xs) x ≡ Some b.status → ⊥
last_other b low [] mid x t a e h = omega (arith, e)
last_other b low (c ∷ []) mid x t a e h =
    let l : x < length (covered c) = omega (arith, length-replicate c.size c.status, length_first c [], e) in
    let p = slice_get-append_left (covered c) [] x l in
    let q = slice_get-replicate c.size c.status x (omega (arith, length-replicate c.size c.status)) in
    a.0 (cc)
last_other b low (c ∷ d ∷ xs) mid x t a e h =
    let n : length (flat_map covered (d ∷ xs)) ≡ d.size + length (flat_map covered xs) = length_first d xs in
    let m : length (flat_map covered (c ∷ d ∷ xs)) ≡ c.size + length (flat_map covered (d ∷ xs)) = length_first c (d ∷ xs) in
    let l : length (covered c) ≤ x = omega (arith, length-replicate c.size c.status, t.2.1) in
    let p = slice_get-append_right (covered c) (flat_map covered (d ∷ xs)) x l in
    let z : x - length (covered c) ≡ x - c.size = omega (arith, length-replicate c.size c.status) in
    last_other b (low + c.size) (d ∷ xs) mid (x - c.size) t.2 a.1 (omega (arith, t.2.1))
    (ap (λ k. slice_get (flat_map covered (d ∷ xs)) k) (sym z) ∙ sym p ∙ h)

pub block_has : (xs : List Block) (b : Block) (ys : List Block) (x : ℕ) → length (flat_map covered xs) ≤ x
    → x < length (flat_map covered xs) + b.size → slice_get (flat_map covered (xs ++ b ∷ ys)) x ≡ Some b.status
block_has xs b ys x l u =
    let k : ℕ = x - length (flat_map covered xs) in
    ap (λ r. slice_get r x) (covered-append xs (b ∷ ys))
    ∙ slice_get-append_right (flat_map covered xs) (flat_map covered (b ∷ ys)) x l
    ∙ slice_get-append_left (covered b) (flat_map covered ys) k (omega (arith, length-replicate b.size b.status))
    ∙ slice_get-replicate b.size b.status k (omega arith)

stretch_between : (xs : List Block) (b : Block) (ys : List Block) (end : ℕ) → AreTiles 0 (xs ++ b ∷ ys) end
    → AreApart (xs ++ b ∷ ys) → IsStretch (flat_map covered (xs ++ b ∷ ys)) b
stretch_between xs b ys end t a =
    let parts = tiles_split 0 xs (b ∷ ys) end t in
    let start : b.pos ≡ length (flat_map covered xs) = omega (arith, parts.back.0) in
    let all = covered-append xs (b ∷ ys) in
    record {
      some = parts.back.1;
      has = λ x l u. block_has xs b ys x (omega arith) (omega arith);
      starts = λ x e h. last_other b 0 xs _ x parts.front
          (apart_left (xs ++ b ∷ []) ys (rw (append_assoc xs (b ∷ []) ys) a)) (omega arith)
          (sym (ap (λ r. slice_get r x) all ∙ slice_get-append_left (flat_map covered xs) (flat_map covered (b ∷ ys)) x
          (omega arith)) ∙ h);
      stops = λ h. first_other b.status _ ys end parts.back.2 (apart_right xs (b ∷ ys) a).0 (sym (
          ap (λ r. slice_get r (b.pos + b.size)) all
          ∙ slice_get-append_right (flat_map covered xs) (flat_map covered (b ∷ ys)) (b.pos + b.size) (omega arith)
          ∙ slice_get-append_right (covered b) (flat_map covered ys) (b.pos + b.size - length (flat_map covered xs))
          (omega (arith, length-replicate b.size b.status))
          ∙ ap (λ k. slice_get (flat_map covered ys) k) (omega (arith, length-replicate b.size b.status))) ∙ h);
    }

pub stretch_at : (bs : List Block) (end i : ℕ) (b : Block) → AreTiles 0 bs end → AreApart bs → slice_get bs i ≡ Some b
    → IsStretch (flat_map covered bs) b
stretch_at bs end i b t a e =
    let h = slice_get_within bs i b e in
    let s : take i bs ++ b ∷ drop (i + 1) bs ≡ bs =
    ap (λ r. take i bs ++ r) (ap (λ z. z ∷ drop (i + 1) bs) (sym (get_or_from_slice_get bs i b b e))
    ∙ sym (drop_more bs i b h)) ∙ take-append-drop i bs in
    let P : List Block → Type 0 = λ r. AreTiles 0 r end → AreApart r → IsStretch (flat_map covered r) b in
    subst P s (stretch_between (take i bs) b (drop (i + 1) bs) end) t a

first_pos : (bs : List Block) (end : ℕ) (b : Block) → AreTiles 0 bs end → slice_get bs 0 ≡ Some b → b.pos ≡ 0
first_pos [] end b t e = cc
first_pos (c ∷ bs) end b t e = let q : c ≡ b = cc in ap (λ (z : Block). z.pos) (sym q) ∙ t.0

next_pos : (low : ℕ) (bs : List Block) (end i : ℕ) (a b : Block) → AreTiles low bs end → slice_get bs i ≡ Some a
    → slice_get bs (suc i) ≡ Some b → b.pos ≡ a.pos + a.size
next_pos low [] end i a b t e f = cc
next_pos low (c ∷ []) end i a b t e f = cc
next_pos low (c ∷ d ∷ bs) end zero a b t e f =
    let p : c ≡ a = cc in
    let q : d ≡ b = cc in
    ap (λ (z : Block). z.pos) (sym q) ∙ t.2.0 ∙ ap (λ n. n + c.size) (sym t.0) ∙ ap (λ (z : Block). z.pos + z.size) p
next_pos low (c ∷ d ∷ bs) end (suc i) a b t e f = next_pos (low + c.size) (d ∷ bs) end i a b t.2 e f

pub are_stretches : (map : List Status) → AreStretches map (stretches map)
are_stretches map =
    let bs : List Block = stretches map in
    let t = stretches_tiles 0 map in
    let c = stretches_covered 0 map in
    let P : List Status → Type 0 = λ m. (i : ℕ) (b : Block) → slice_get bs i ≡ Some b → IsStretch m b in
    record {
      each = subst P c (λ i b e. stretch_at bs (0 + length map) i b t (stretches_apart 0 map) e);
      first = λ b e. first_pos bs _ b t e;
      next = λ i a b e f. next_pos 0 bs _ i a b t e (rw (add-one i) at f);
      together = c;
    }
