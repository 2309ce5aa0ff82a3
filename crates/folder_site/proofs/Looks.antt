-- Reads from a place on.
use Rattle.std.proofs.Common.{◌≡◌, ◌⊎◌, inl, inr, ℕ, ◌+◌, ◌-◌, ◌<◌, ◌≤◌, Bool, true, false, IsTrue, List, ◌++◌, length, take, drop, Option, Some, None, Result, Ok, Err, IfOk, OnOk, OnErr, if◌then◌else◌, refl, sym, ◌∙◌, ap, subst, arith, length-append, take-append-drop, drop-drop}
use Rattle.std.specs.Prelude.{slice_range}
use Rattle.std.specs.Io.KnownBytes.{Consumes, IsAtEnd}
use Rattle.std.proofs.lemmas.Bool.{false≢true}
use Rattle.std.proofs.lemmas.List.{drop_all, take_at, length-drop, length-take-le}
use Rattle.kernel_files.specs.Answers.{Told, bytes_at, IsReadAt}
use Rattle.folder_site.specs.Pieces.{left_of, IsWholeRead}

pub slice_is : (bytes : List ℕ) (pos n : ℕ) → slice_range bytes pos (pos + n) ≡ take n (drop pos bytes)
slice_is bytes pos n = let e : pos + n - pos ≡ n = omega arith in ap (λ (k : ℕ). take k (drop pos bytes)) e

splits : (bytes : List ℕ) (pos n : ℕ) (buf : List ℕ) → take n buf ≡ slice_range bytes pos (pos + n)
    → drop pos bytes ≡ take n buf ++ drop (pos + n) bytes
splits bytes pos n buf came =
    sym (take-append-drop n (drop pos bytes))
    ∙ ap (λ (l : List ℕ). l ++ drop n (drop pos bytes)) (sym (came ∙ slice_is bytes pos n))
    ∙ ap (λ (l : List ℕ). take n buf ++ l) (drop-drop n pos bytes)

came_from : (b : Bool) (bytes : List ℕ) (pos n : ℕ) (buf : List ℕ) → (IsTrue b → IsReadAt bytes pos buf n)
    → Consumes (if b then Some (drop pos bytes) else None) (if b then Some (drop (pos + n) bytes) else None) (take n buf)
came_from true bytes pos n buf h = splits bytes pos n buf (h refl).came
came_from false bytes pos n buf h = tt

ends_there : (b : Bool) (bytes : List ℕ) (pos n : ℕ) (buf : List ℕ) → (IsTrue b → IsReadAt bytes pos buf n)
    → n ≡ 0 → 0 < length buf → IsAtEnd (if b then Some (drop (pos + n) bytes) else None)
ends_there true bytes pos n buf h zero some =
    elim ((h refl).none zero) [
      | inl end ↦ drop_all (pos + n) bytes (omega (arith, end))
      | inr none ↦ (let e : length buf ≡ 0 = ap length none in absurd (omega (arith, e, some)))
    ]
ends_there false bytes pos n buf h zero some = tt

module _ (t : Told) (i pos n : ℕ) (buf : List ℕ) (h : IsTrue t.tells → IsReadAt (bytes_at t i) pos buf n) where
  pub read_consumes : Consumes (left_of t i pos) (left_of t i (pos + n)) (take n buf)
  read_consumes = came_from t.tells (bytes_at t i) pos n buf h

  pub read_ends : n ≡ 0 → 0 < length buf → IsAtEnd (left_of t i (pos + n))
  read_ends = ends_there t.tells (bytes_at t i) pos n buf h

-- reads that went on until the buffer was full or the bytes ended
whole_from : (b : Bool) (bytes : List ℕ) (pos asked n : ℕ) (buf : List ℕ) (rest : Option (List ℕ)) → IsTrue b
    → n ≤ length buf → Consumes (if b then Some (drop pos bytes) else None) rest (take n buf)
    → (n ≡ asked) ⊎ IsAtEnd rest → IsWholeRead bytes pos asked buf n
whole_from true bytes pos asked n buf None t le h k = absurd h
whole_from true bytes pos asked n buf (Some rest) t le h k =
    let size : length (take n buf) ≡ n = length-take-le n buf le in
    let all : length bytes - pos ≡ length (take n buf) + length rest =
    sym (length-drop pos bytes) ∙ ap length h ∙ length-append (take n buf) rest in
    record {
      came = sym (slice_is bytes pos n ∙ ap (λ (l : List ℕ). take n l) h ∙ take_at (take n buf) rest n size);
      whole = elim k [
        | inl full ↦ inl full
        | inr end ↦ inr (let none : length rest ≡ 0 = ap length end in omega (arith, all, size, none))
      ];
    }
whole_from false bytes pos asked n buf rest t le h k = absurd (false≢true t)

pub whole_read : (t : Told) (i pos asked n : ℕ) (buf : List ℕ) (rest : Option (List ℕ)) → n ≤ length buf
    → Consumes (left_of t i pos) rest (take n buf) → (n ≡ asked) ⊎ IsAtEnd rest → IsTrue t.tells
    → IsWholeRead (bytes_at t i) pos asked buf n
whole_read t i pos asked n buf rest le h k tells = whole_from t.tells (bytes_at t i) pos asked n buf rest tells le h k

pub ok_given : {T E : Type 0} (r : Result T E) (x : T) (P : Type 0) → r ≡ Ok x → OnOk r P → P
ok_given (Ok y) x P is h = h
ok_given (Err e) x P is h = absurd (cc)

pub from_here : (start here rest : Option (List ℕ)) (came : List ℕ) → start ≡ here → Consumes start rest came
    → Consumes here rest came
from_here start here rest came is = subst (λ (o : Option (List ℕ)). Consumes o rest came) is

pub err_given : {T E : Type 0} (r : Result T E) (e : E) (P : Type 0) → r ≡ Err e → OnErr r P → P
err_given (Ok y) e P is h = absurd (cc)
err_given (Err f) e P is h = h

pub if_given : {T E : Type 0} (r : Result T E) (x : T) (P : T → Type 0) → r ≡ Ok x → IfOk r P → P x
if_given (Ok y) x P is h = let same : y ≡ x = cc in subst P same h
if_given (Err e) x P is h = absurd (cc)
