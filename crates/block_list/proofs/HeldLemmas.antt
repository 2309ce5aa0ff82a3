-- The stretch that holds a position, and what is left of a map from there on.
use Rattle.std.proofs.Common.{◌≡◌, ℕ, zero, suc, ◌+◌, ◌-◌, ◌<◌, ◌≤◌, List, [], ◌∷◌, ◌++◌, length, take, drop, replicate, Some, true, false, cond, refl, arith, ap, sym, ◌∙◌, ⊎_elim, zero-add, append_assoc}
use Rattle.std.specs.List.{slice_get}
use Rattle.std.proofs.lemmas.Bool.{cases_lt}
use Rattle.std.proofs.lemmas.List.{drop-drop, length-drop, take-append-drop}
use Rattle.std.proofs.lemmas.Option.{slice_get_within}
use Rattle.block_list.specs.declared.status.Status.{Status}
use Rattle.block_list.specs.declared.block.Block.{Block}
use Rattle.block_list.specs.Status.{same}
use Rattle.block_list.specs.Map.{Has, marked}
use Rattle.block_list.specs.Stretches.{joined, stretches_from, stretches, stretches_after, IsStretch, IsStretchAt, OneStretchHolds, StretchesMeet, StretchesGoOn}
use Rattle.block_list.specs.Tiling.{AreTiles}
use Rattle.block_list.proofs.ApartLemmas.{IsOther}
use Rattle.block_list.proofs.StretchLemmas.{first_stretch, stretches_tiles, are_stretches}

pub slice_get-drop : {A : Type 0} (n : ℕ) (xs : List A) (k : ℕ) → slice_get (drop n xs) k ≡ slice_get xs (n + k)
slice_get-drop zero xs k = ap (λ i. slice_get xs i) (sym (zero-add k))
slice_get-drop (suc n) [] k = refl
slice_get-drop (suc n) (x ∷ xs) k =
    let e : suc (n + k) ≡ suc n + k = omega arith in
    slice_get-drop n xs k ∙ ap (λ i. slice_get (x ∷ xs) i) e

-- a map whose first positions have one status
same_front : (n : ℕ) (s : Status) (m : List Status) → n ≤ length m → ((k : ℕ) → k < n → slice_get m k ≡ Some s)
    → m ≡ replicate n s ++ drop n m
same_front zero s m l h = refl
same_front (suc n) s [] l h = absurd (omega arith)
same_front (suc n) s (t ∷ m) l h =
    let e : t ≡ s = let f = h 0 (omega arith) in cc in
    ap (λ z. z ∷ m) e ∙ ap (λ r. s ∷ r) (same_front n s m (omega arith) (λ k u. h (suc k) (omega arith)))

joined_is_other : (s : Status) (pos : ℕ) (t : Status) (bs : List Block) → (s ≡ t → ⊥) → IsOther s (joined pos t bs)
joined_is_other s pos t [] h = h
joined_is_other s pos t (b ∷ bs) h =
    elim (same t b.status) as (λ v. IsOther s (cond v (record { pos = pos; size = b.size + 1; status = t } ∷ bs)
    (record { pos = pos; size = 1; status = t } ∷ b ∷ bs))) [ true ↦ h | false ↦ h ]

first_is_other : (s : Status) (pos : ℕ) (m : List Status) → (slice_get m 0 ≡ Some s → ⊥)
    → IsOther s (stretches_from pos m)
first_is_other s pos [] h = tt
first_is_other s pos (t ∷ m) h = joined_is_other s pos t (stretches_from (pos + 1) m) (λ e. h (ap Some (sym e)))

-- a stretch ends within its map
pub stretch_within : (map : List Status) (b : Block) → IsStretch map b → b.pos + b.size ≤ length map
stretch_within map b s =
    let last : ℕ = b.pos + b.size - 1 in
    omega (arith, s.some, slice_get_within map last b.status (s.has last (omega (arith, s.some)) (omega (arith, s.some))))

-- a mark of positions that have its status changes nothing
pub marked_already : (map : List Status) (pos size : ℕ) (b : Block) → IsStretchAt map pos b → pos + size ≤ b.pos + b.size
    → marked map pos size b.status ≡ map
marked_already map pos size b a h =
    let within : b.pos + b.size ≤ length map = stretch_within map b a.stretch in
    let front = same_front size b.status (drop pos map) (omega (arith, length-drop pos map))
    (λ k u. slice_get-drop pos map k ∙ a.stretch.has (pos + k) (omega (arith, a.begun)) (omega arith)) in
    append_assoc (take pos map) (replicate size b.status) (drop (pos + size) map)
    ∙ ap (λ r. take pos map ++ r)
    (ap (λ r. replicate size b.status ++ r) (sym (drop-drop size pos map)) ∙ sym front)
    ∙ take-append-drop pos map

pub stretches_go_on : StretchesGoOn
stretches_go_on map x b a =
    let end : ℕ = b.pos + b.size in
    let n : ℕ = end - x in
    let z : x + n ≡ end = omega (arith, a.holds) in
    let within : end ≤ length map = stretch_within map b a.stretch in
    let front = same_front n b.status (drop x map) (omega (arith, length-drop x map))
    (λ k u. slice_get-drop x map k ∙ a.stretch.has (x + k) (omega (arith, a.begun)) (omega arith)) in
    let back : drop n (drop x map) ≡ drop end map = drop-drop n x map ∙ ap (λ k. drop k map) z in
    let e : end ≡ end + 0 = omega arith in
    let other : IsOther b.status (stretches_after end map) = first_is_other b.status end (drop end map)
    (λ h. a.stretch.stops (ap (λ k. slice_get map k) e ∙ sym (slice_get-drop end map 0) ∙ h)) in
    ap (stretches_from x) (front ∙ ap (λ r. replicate n b.status ++ r) back)
    ∙ first_stretch x n b.status (drop end map) (stretches_after end map) other (omega (arith, a.holds))
    (ap (λ k. stretches_from k (drop end map)) z)

-- a position has one status
one_status : (map : List Status) (s t : Status) (x : ℕ) → Has map s x → Has map t x → s ≡ t
one_status map s t x h k = cc

-- of two stretches that hold a position neither begins before the other
no_earlier : (map : List Status) (x : ℕ) (b c : Block) → IsStretchAt map x b → IsStretchAt map x c → c.pos ≤ b.pos
no_earlier map x b c f g = ⊎_elim
    (λ (l : b.pos < c.pos).
    let same = one_status map b.status c.status x (f.stretch.has x f.begun f.holds) (g.stretch.has x g.begun g.holds) in
    absurd (g.stretch.starts (c.pos - 1) (omega arith)
    (f.stretch.has (c.pos - 1) (omega arith) (omega (arith, f.holds, g.begun)) ∙ ap Some same)))
    (λ (l : c.pos ≤ b.pos). l) (cases_lt b.pos c.pos)

-- nor ends past it
no_later : (map : List Status) (x : ℕ) (b c : Block) → IsStretchAt map x b → IsStretchAt map x c
    → b.pos + b.size ≤ c.pos + c.size
no_later map x b c f g = ⊎_elim
    (λ (l : c.pos + c.size < b.pos + b.size).
    let same = one_status map b.status c.status x (f.stretch.has x f.begun f.holds) (g.stretch.has x g.begun g.holds) in
    absurd (g.stretch.stops (f.stretch.has (c.pos + c.size) (omega (arith, f.begun, g.holds)) l ∙ ap Some same)))
    (λ (l : b.pos + b.size ≤ c.pos + c.size). l) (cases_lt (c.pos + c.size) (b.pos + b.size))

one_stretch : (map : List Status) (x : ℕ) (b c : Block) → IsStretchAt map x b → IsStretchAt map x c → c ≡ b
one_stretch map x b c f g =
    let pos : c.pos ≡ b.pos = omega (arith, no_earlier map x b c f g, no_earlier map x c b g f) in
    let size : c.size ≡ b.size = omega (arith, no_later map x b c f g, no_later map x c b g f) in
    let status : c.status ≡ b.status =
    one_status map c.status b.status x (g.stretch.has x g.begun g.holds) (f.stretch.has x f.begun f.holds) in
    let B : ℕ → ℕ → Status → Block = λ p n s. record { pos = p; size = n; status = s } in
    ap (λ p. B p c.size c.status) pos ∙ ap (λ n. B b.pos n c.status) size ∙ ap (λ s. B b.pos b.size s) status

-- the block of a tiling that holds a position
record Holds (bs : List Block) (x : ℕ) : Type 0 where
  i : ℕ
  b : Block
  there : slice_get bs i ≡ Some b
  begun : b.pos ≤ x
  beyond : x < b.pos + b.size

holding : (low : ℕ) (bs : List Block) (end x : ℕ) → AreTiles low bs end → low ≤ x → x < end → Holds bs x
holding low [] end x t l u = absurd (omega (arith, t))
holding low (b ∷ bs) end x t l u = ⊎_elim
    (λ (h : x < low + b.size). record { i = 0; b = b; there = refl; begun = omega (arith, t.0); beyond = omega (arith, t.0) })
    (λ (h : low + b.size ≤ x).
    let k = holding (low + b.size) bs end x t.2 h u in
    record { i = suc k.i; b = k.b; there = k.there; begun = k.begun; beyond = k.beyond })
    (cases_lt x (low + b.size))

pub one_stretch_holds : OneStretchHolds
one_stretch_holds map x l =
    let k = holding 0 (stretches map) (0 + length map) x (stretches_tiles 0 map) (omega arith) (omega arith) in
    let at : IsStretchAt map x k.b = record { stretch = (are_stretches map).each k.i k.b k.there; begun = k.begun; holds = k.beyond } in
    (k.b, at, (k.i, k.there), λ c other. one_stretch map x k.b c at other)

pub stretches_meet : StretchesMeet
stretches_meet map x b c f g =
    let end : ℕ = b.pos + b.size in
    ⊎_elim
    (λ (l : c.pos < end).
    let same = one_status map b.status c.status (end - 1)
    (f.stretch.has (end - 1) (omega (arith, f.stretch.some)) (omega (arith, f.stretch.some)))
    (g.stretch.has (end - 1) (omega arith) (omega (arith, g.holds))) in
    absurd (f.stretch.stops (g.stretch.has end g.begun g.holds ∙ ap Some (sym same))))
    (λ (l : end ≤ c.pos). omega (arith, g.begun)) (cases_lt c.pos end)
