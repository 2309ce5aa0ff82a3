-- What sweeps do to a map.
use Rattle.std.proofs.Common.{◌≡◌, ◌⊎◌, ℕ, zero, suc, ◌+◌, ◌-◌, ◌<◌, ◌≤◌, Bool, true, false, ◌&&◌, nat_le, nat_lt, List, [], ◌∷◌, length, take, drop, get_or, Some, arith, ⊎_elim, inl, inr, refl, subst, ap, ◌∙◌, sym}
use Rattle.std.specs.List.{list_any, slice_get}
use Rattle.std.proofs.Math.Nat.{div-mul-le_self}
use Rattle.std.proofs.lemmas.Bool.{cases_lt, cases_Bool, and_parts, leb-true, ltb-true}
use Rattle.std.proofs.lemmas.List.Elements.{All-head, All-tail}
use Rattle.std.proofs.lemmas.Option.{slice_get-get_or, slice_get_within}
use Rattle.block_list.specs.declared.status.Status.{Status}
use Rattle.block_list.specs.declared.status.Status.TheVariants.{Finished}
use Rattle.block_list.specs.Map.{Has}
use Rattle.block_list.specs.Places.{IsFirst, IsRangeUp}
use Rattle.block_list.proofs.HeldLemmas.{slice_get-drop}
use Rattle.faulty_source.specs.Journal.{floor}
use Rattle.rescue_rules.specs.Counts.{passes}
use Rattle.rescue_rules.specs.Preparation.{changed_from, if_asked}
use Rattle.rescue_rules.specs.Machine.{cut_end}
use Rattle.rescue_rules.specs.Setting.{Setting, place}
use Rattle.rescue_rules.proofs.MarkLemmas.{slice_get-take}
use Rattle.sweep_rules.specs.Sweep.{Sweeper, Sweep, Swept, IsTaken, IsPiece, sweep_search, filler, generator, after_piece, is_generated, is_there, part_of, sweep_over, after_pieces}
use Rattle.sweep_rules.specs.SweepLaws.{PieceIsOne, GeneratesWhatIsHeld, FilledMapStands, SweepFailsNoRead}

-- a position that a change finishes, or that was finished
pub changed_cases : (domain : ℕ → Bool) (at : ℕ) (map : List Status) (x : ℕ)
    → slice_get (changed_from domain (λ status. Finished) at map) x ≡ Some Finished
    → (domain (at + x) ≡ true) ⊎ (slice_get map x ≡ Some Finished)
changed_cases domain at [] x is = inr is
changed_cases domain at (status ∷ map) zero is =
    ⊎_elim (λ (t : domain at ≡ true). let e : at + 0 ≡ at = omega arith in inl (ap domain e ∙ t))
    (λ (f : domain at ≡ false). inr (ap (λ (b : Bool). Some (if_asked b (λ (t : Status). Finished) status)) (sym f) ∙ is)) (cases_Bool (domain at))
changed_cases domain at (status ∷ map) (suc x) is =
    ⊎_elim (λ (t : domain (at + 1 + x) ≡ true). let e : at + suc x ≡ at + 1 + x = omega arith in inl (ap domain e ∙ t))
    (λ (was : slice_get map x ≡ Some Finished). inr was) (changed_cases domain (at + 1) map x is)

length-take-few : {A : Type 0} (n : ℕ) (xs : List A) → length (take n xs) ≤ n
length-take-few zero xs = omega arith
length-take-few (suc n) [] = omega arith
length-take-few (suc n) (y ∷ ys) = omega (arith, length-take-few n ys)

-- the output has a byte for a position that is generated
pub generated_there : (s : Setting) (image : List ℕ) (e : Swept) (x : ℕ)
    → e.got ≡ take e.len (drop (place s e.pos) image) → is_generated s e x ≡ true
    → (b : ℕ) × (slice_get image (place s x) ≡ Some b)
generated_there s image e x given is =
    let a = (and_parts (nat_le e.pos x && nat_lt x (e.pos + length e.got)) (list_any (is_there e) (part_of s.sector e x)) is).0 in
    let both = and_parts (nat_le e.pos x) (nat_lt x (e.pos + length e.got)) a in
    let from : e.pos ≤ x = leb-true e.pos x both.0 in
    let to : x < e.pos + length e.got = ltb-true x (e.pos + length e.got) both.1 in
    let j : ℕ = x - e.pos in
    let within : j < length e.got = omega (arith, from, to) in
    let here : slice_get e.got j ≡ Some (get_or e.got j 0) = slice_get-get_or e.got j 0 within in
    let front : j < length (take e.len (drop (place s e.pos) image))
    = subst (λ (l : List ℕ). j < length l) given within in
    let few : j < e.len = omega (arith, front, length-take-few e.len (drop (place s e.pos) image)) in
    let at : slice_get image (place s e.pos + j) ≡ Some (get_or e.got j 0)
    = sym (slice_get-drop (place s e.pos) image j) ∙ sym (slice_get-take e.len (drop (place s e.pos) image) j few)
    ∙ ap (λ (l : List ℕ). slice_get l j) (sym given) ∙ here in
    let long : place s e.pos + j < length image
    = slice_get_within image (place s e.pos + j) (get_or e.got j 0) at in
    (get_or image (place s x) 0, slice_get-get_or image (place s x) 0 (omega (arith, long, from)))

-- so what is finished after a piece was finished, or has a byte there
pub swept_held : (s : Setting) (image : List ℕ) (m : Sweep) (e : Swept) (x : ℕ)
    → e.got ≡ take e.len (drop (place s e.pos) image) → Has (after_piece (generator s) m e).map Finished x
    → Has m.map Finished x ⊎ ((b : ℕ) × (slice_get image (place s x) ≡ Some b))
swept_held s image m e x given is =
    ⊎_elim (λ (t : is_generated s e (0 + x) ≡ true).
    let d : 0 + x ≡ x = omega arith in
    inr (generated_there s image e x given (ap (λ y. is_generated s e y) (sym d) ∙ t)))
    (λ (old : Has m.map Finished x). inl old)
    (changed_cases (is_generated s e) 0 m.map x is)

pub generates_what_is_held : GeneratesWhatIsHeld
generates_what_is_held s image m [] all x is = inl is
generates_what_is_held s image m (e ∷ es) all x is =
    ⊎_elim
    (λ (was : Has (after_piece (generator s) m e).map Finished x). swept_held s image m e x
    (All-head (λ e. e.got ≡ take e.len (drop (place s e.pos) image)) e es all) was)
    (λ (there : (b : ℕ) × (slice_get image (place s x) ≡ Some b)). inr there)
    (generates_what_is_held s image (after_piece (generator s) m e) es
    (All-tail (λ e. e.got ≡ take e.len (drop (place s e.pos) image)) e es all) x is)

pub filled_map_stands : FilledMapStands
filled_map_stands s types buffer m [] = refl
filled_map_stands s types buffer m (e ∷ es) = filled_map_stands s types buffer (after_piece (filler s types buffer) m e) es

first_one : (P : ℕ → Type 0) (from p p' : ℕ) → IsFirst P from p → IsFirst P from p' → p ≡ p'
first_one P from p p' a b = omega (arith, a.least p' b.after b.holds, b.least p a.after a.holds)

no_less : (P : ℕ → Type 0) (p e e' : ℕ) → IsRangeUp P p e → IsRangeUp P p e' → e' ≤ e
no_less P p e e' a b =
    ⊎_elim (λ (lt : e < e'). absurd (a.stops (b.within e (omega (arith, a.begun)) lt))) (λ (le : e' ≤ e). le) (cases_lt e e')

ends_one : (P : ℕ → Type 0) (p e e' : ℕ) → IsRangeUp P p e → IsRangeUp P p e' → e ≡ e'
ends_one P p e e' a b = omega (arith, no_less P p e e' a b, no_less P p e' e b a)

pieces_fail_none : (w : Sweeper) (m : Sweep) (es : List Swept) → (after_pieces w m es).tally.failed ≡ m.tally.failed
pieces_fail_none w m [] = refl
pieces_fail_none w m (e ∷ es) = pieces_fail_none w (after_piece w m e) es

pub sweep_fails_no_read : SweepFailsNoRead
sweep_fails_no_read w map state time es = pieces_fail_none w (sweep_over w map state time) es

pub piece_is_one : PieceIsOne
piece_is_one s w m p q p' q' a b =
    let start : p ≡ p' = first_one (IsTaken s w m) m.cursor p p' a.range.0 b.range.0 in
    let range : IsRangeUp (IsTaken s w m) p b.end = subst (λ (x : ℕ). IsRangeUp (IsTaken s w m) x b.end) (sym start) b.range.1 in
    let end : a.end ≡ b.end = ends_one (IsTaken s w m) p a.end b.end a.range.1 range in (
      start,
      a.ends ∙ ap (λ (e : ℕ). cut_end (sweep_search s m) s.sector p e) end
          ∙ ap (λ (x : ℕ). cut_end (sweep_search s m) s.sector x b.end) start ∙ sym b.ends,
    )

-- What a piece is: it lies at the cursor or past it, in the map, is a cluster at most, and begins with a position of
-- the domain.
pub record Within (s : Setting) (m : Sweep) (p q : ℕ) : Type 0 where
  pub past : m.cursor ≤ p
  pub inside : q ≤ length m.map
  pub few : q ≤ p + s.cluster
  pub some : s.domain p ≡ true

-- a position that is taken lies in the domain, and in the map
taken_domain : (s : Setting) (w : Sweeper) (m : Sweep) (x : ℕ) → IsTaken s w m x → s.domain x ≡ true
taken_domain s w m x is = (and_parts (s.domain x) (passes w.takes (slice_get m.map x)) is).0

passes_within : (test : Status → Bool) (map : List Status) (x : ℕ) → passes test (slice_get map x) ≡ true → x < length map
passes_within test [] x is = absurd (cc)
passes_within test (t ∷ map) zero is = omega arith
passes_within test (t ∷ map) (suc x) is = omega (arith, passes_within test map x is)

taken_within : (s : Setting) (w : Sweeper) (m : Sweep) (x : ℕ) → IsTaken s w m x → x < length m.map
taken_within s w m x is =
    passes_within w.takes m.map x (and_parts (s.domain x) (passes w.takes (slice_get m.map x)) is).1

floor_below : (sector n : ℕ) → floor sector n ≤ n
floor_below sector n = omega (arith, div-mul-le_self n sector)

pub piece_within : (s : Setting) (w : Sweeper) (m : Sweep) (p q : ℕ) → IsPiece s w m p q → Within s m p q
piece_within s w m p q h =
    let last : IsTaken s w m (h.end - 1)
    = h.range.1.within (h.end - 1) (omega (arith, h.range.1.begun)) (omega (arith, h.range.1.begun)) in
    record {
      past = h.range.0.after;
      inside = omega (arith, h.ends, h.range.1.begun, taken_within s w m (h.end - 1) last);
      few = omega (arith, h.ends, floor_below s.sector (p + s.cluster));
      some = taken_domain s w m p h.range.0.holds;
    }
