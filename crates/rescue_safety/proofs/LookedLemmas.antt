-- What a generating gives of what the output holds.
use Rattle.std.proofs.Common.{◌≡◌, ◌⊎◌, inl, inr, ⊎_elim, ℕ, ◌+◌, ◌-◌, ◌<◌, ◌≤◌, true, ◌&&◌, nat_le, nat_lt, List, [], ◌∷◌, length, take, drop, All, get_or, Option, Some, None, refl, sym, ap, ◌∙◌, subst, arith}
use Rattle.std.specs.List.{flat_map, enumerate_from, list_any, slice_get}
use Rattle.std.proofs.lemmas.Bool.{and_parts, cases_lt, leb-true, ltb-true}
use Rattle.std.proofs.lemmas.List.{length-take}
use Rattle.std.proofs.lemmas.List.Elements.{All-head, All-tail}
use Rattle.std.proofs.lemmas.Option.{slice_get-get_or, slice_get_within}
use Rattle.block_list.specs.declared.status.Status.TheVariants.{Finished}
use Rattle.block_list.specs.Map.{Has}
use Rattle.block_list.proofs.HeldLemmas.{slice_get-drop}
use Rattle.rescue_rules.specs.Setting.{Setting, place}
use Rattle.rescue_rules.specs.Given.{last_of_both}
use Rattle.rescue_rules.proofs.MarkLemmas.{slice_get-take}
use Rattle.sweep_rules.specs.Sweep.{Sweep, Swept, generator, is_generated, is_there, part_of, after_piece}
use Rattle.sweep_rules.specs.SweepLaws.{AreGiven}
use Rattle.sweep_rules.proofs.SweepLemmas.{changed_cases}
use Rattle.rescue_safety.specs.Owed.{last_given}
use Rattle.rescue_safety.proofs.LastGiven.{last_after, placed_below, placed_above}

-- the bytes of the pieces, as pairs of a position and its byte
abbrev pub pieces_given : List Swept → List (ℕ × ℕ)
pieces_given pieces = flat_map (λ e. enumerate_from e.pos e.got) pieces

-- the pieces give a position a byte
pub record Gives (es : List Swept) (x : ℕ) : Type 0 where
  pub byte : ℕ
  pub is : last_given (pieces_given es) x ≡ Some byte

gives_by : (a b : Option ℕ) (byte : ℕ) → b ≡ Some byte → (v : ℕ) × (last_of_both a b ≡ Some v)
gives_by None b byte is = (byte, is)
gives_by (Some v) b byte is = (v, refl)

pub gives_later : (e : Swept) (es : List Swept) (x : ℕ) → Gives es x → Gives (e ∷ es) x
gives_later e es x g = record {
  byte = g.byte;
  is = last_after (enumerate_from e.pos e.got) (pieces_given es) x
      ∙ ap (λ (o : Option ℕ). last_of_both o (last_given (enumerate_from e.pos e.got) x)) g.is;
}

gives_here : (e : Swept) (es : List Swept) (x : ℕ) → e.pos ≤ x → x < e.pos + length e.got → Gives (e ∷ es) x
gives_here e es x from to =
    let here : last_given (enumerate_from e.pos e.got) x ≡ Some (get_or e.got (x - e.pos) 0)
    = placed_above e.got e.pos x from ∙ slice_get-get_or e.got (x - e.pos) 0 (omega (arith, from, to)) in
    let v = gives_by (last_given (pieces_given es) x) (last_given (enumerate_from e.pos e.got) x) (get_or e.got (x - e.pos) 0)
    here in
    record { byte = v.0; is = last_after (enumerate_from e.pos e.got) (pieces_given es) x ∙ v.1 }

-- what is generated is given
gives_generated : (s : Setting) (e : Swept) (es : List Swept) (x : ℕ) → is_generated s e x ≡ true → Gives (e ∷ es) x
gives_generated s e es x is =
    let a = (and_parts (nat_le e.pos x && nat_lt x (e.pos + length e.got)) (list_any (is_there e) (part_of s.sector e x)) is).0 in
    let both = and_parts (nat_le e.pos x) (nat_lt x (e.pos + length e.got)) a in
    gives_here e es x (leb-true e.pos x both.0) (ltb-true x (e.pos + length e.got) both.1)

pub swept_given : (s : Setting) (m : Sweep) (e : Swept) (es : List Swept) (x : ℕ) → Has (after_piece (generator s) m e).map Finished x
    → Has m.map Finished x ⊎ Gives (e ∷ es) x
swept_given s m e es x is =
    ⊎_elim (λ (t : is_generated s e (0 + x) ≡ true).
    let d : 0 + x ≡ x = omega arith in
    inr (gives_generated s e es x (ap (λ y. is_generated s e y) (sym d) ∙ t)))
    (λ (old : Has m.map Finished x). inl old)
    (changed_cases (is_generated s e) 0 m.map x is)

pub never_given : (es : List Swept) (x : ℕ) → last_given (pieces_given es) x ≡ None → Gives es x → ⊥
never_given es x none g = let e : None ≡ Some g.byte = sym none ∙ g.is in absurd (cc)

-- ---- the bytes

-- pieces begin at positions that are asked for
abbrev pub StartFrom : (from : ℕ) → List Swept → Type 0
StartFrom from es = All (λ e. from ≤ e.pos) es

-- a byte that some piece gives
record IsPlaced (s : Setting) (image : List ℕ) (x byte : ℕ) : Type 0 where
  from : s.input_position ≤ x
  holds : slice_get image (place s x) ≡ Some byte

placed_here : (s : Setting) (image : List ℕ) (e : Swept) (x byte : ℕ) → s.input_position ≤ e.pos
    → e.got ≡ take e.len (drop (place s e.pos) image) → last_given (enumerate_from e.pos e.got) x ≡ Some byte
    → IsPlaced s image x byte
placed_here s image e x byte starts given is =
    ⊎_elim
    (λ (lt : x < e.pos). let e : None ≡ Some byte = sym (placed_below e.got e.pos x lt) ∙ is in absurd (cc))
    (λ (ge : e.pos ≤ x).
    let j : ℕ = x - e.pos in
    let here : slice_get e.got j ≡ Some byte = sym (placed_above e.got e.pos x ge) ∙ is in
    let within : j < length e.got = slice_get_within e.got j byte here in
    let front : j < length (take e.len (drop (place s e.pos) image))
    = subst (λ (l : List ℕ). j < length l) given within in
    let few : j < e.len = omega (arith, front, length-take e.len (drop (place s e.pos) image)) in
    let at : slice_get image (place s e.pos + j) ≡ Some byte
    = sym (slice_get-drop (place s e.pos) image j) ∙ sym (slice_get-take e.len (drop (place s e.pos) image) j few)
    ∙ ap (λ (l : List ℕ). slice_get l j) (sym given) ∙ here in
    let same : place s e.pos + j ≡ place s x = omega (arith, starts, ge) in
    record { from = omega (arith, starts, ge); holds = subst (λ (y : ℕ). slice_get image y ≡ Some byte) same at })
    (cases_lt x e.pos)

either_given : (a b : Option ℕ) (byte : ℕ) → last_of_both a b ≡ Some byte → (a ≡ Some byte) ⊎ (b ≡ Some byte)
either_given None b byte is = inr is
either_given (Some v) b byte is = inl is

pub given_placed : (s : Setting) (image : List ℕ) (es : List Swept) (x byte : ℕ) → StartFrom s.input_position es
    → AreGiven s image es → last_given (pieces_given es) x ≡ Some byte
    → (s.input_position ≤ x) × (slice_get image (place s x) ≡ Some byte)
given_placed s image [] x byte starts given is = absurd (cc)
given_placed s image (e ∷ es) x byte starts given is =
    ⊎_elim
    (λ (later : last_given (pieces_given es) x ≡ Some byte).
    given_placed s image es x byte (All-tail (λ (e : Swept). s.input_position ≤ e.pos) e es starts)
    (All-tail (λ (e : Swept). e.got ≡ take e.len (drop (place s e.pos) image)) e es given) later)
    (λ (here : last_given (enumerate_from e.pos e.got) x ≡ Some byte).
    let p : IsPlaced s image x byte = placed_here s image e x byte (All-head (λ (e : Swept). s.input_position ≤ e.pos) e es starts)
    (All-head (λ (e : Swept). e.got ≡ take e.len (drop (place s e.pos) image)) e es given) here in
    (p.from, p.holds))
    (either_given (last_given (pieces_given es) x) (last_given (enumerate_from e.pos e.got) x) byte
    (sym (last_after (enumerate_from e.pos e.got) (pieces_given es) x) ∙ is))
