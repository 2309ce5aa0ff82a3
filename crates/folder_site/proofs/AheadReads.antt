-- What was read ahead of a file, and what a read gives of it.
use Rattle.std.proofs.Common.{◌≡◌, inl, inr, ℕ, ◌+◌, ◌-◌, ◌<◌, ◌≤◌, Bool, true, false, IsTrue, nat_le, List, [], ◌∷◌, ◌++◌, length, take, drop, Option, Some, None, Result, Ok, Err, IfOk, refl, sym, ◌∙◌, ap, subst, arith, append_assoc, length-append, take-append-drop, drop-drop, drop_at}
use Rattle.std.specs.Prelude.{slice_range}
use Rattle.std.specs.Io.KnownBytes.{Consumes}
use Rattle.std.proofs.lemmas.Bool.{cases_Bool, cases_lt, cond-true, leb-true, true≢false}
use Rattle.std.proofs.lemmas.List.{take_at, take_all, length-drop, length-take, length-take-le}
use Rattle.kernel_files.specs.Answers.{Told, bytes_at}
use Rattle.real_files.specs.Ahead.{Ahead, holds, nothing_held, asked_ahead, GivesHeld, ReadsAhead}
use Rattle.crash_site.specs.FileAnswers.{IsImageRead}
use Rattle.kernel_laws.specs.Refines.{as_file}
use Rattle.folder_site.specs.Pieces.{left_of, IsWholeRead}
use Rattle.folder_site.specs.Told.{IsHeld}
use Rattle.folder_site.proofs.Looks.{slice_is}
use Rattle.folder_site.proofs.Recording.{left_of_both, right_of_both}

-- these bytes are the file's from a place on
abbrev IsPart : List ℕ → ℕ → List ℕ → Type 0
IsPart bytes pos part = (rest : List ℕ) × (drop pos bytes ≡ part ++ rest)

held_part : (bytes : List ℕ) (a : Ahead) → IsHeld bytes a → IsPart bytes a.pos a.bytes
held_part bytes a h = (
  drop (length a.bytes) (drop a.pos bytes),
  sym (take-append-drop (length a.bytes) (drop a.pos bytes))
      ∙ ap (λ (l : List ℕ). l ++ drop (length a.bytes) (drop a.pos bytes))
      (sym (h ∙ slice_is bytes a.pos (length a.bytes))),
)

part_slice : (bytes : List ℕ) (pos : ℕ) (part : List ℕ) → IsPart bytes pos part
    → part ≡ slice_range bytes pos (pos + length part)
part_slice bytes pos part h =
    sym (slice_is bytes pos (length part) ∙ ap (λ (l : List ℕ). take (length part) l) h.1
    ∙ take_at part h.0 (length part) refl)

part_front : (bytes : List ℕ) (pos : ℕ) (x y : List ℕ) → IsPart bytes pos (x ++ y) → IsPart bytes pos x
part_front bytes pos x y h = (y ++ h.0, h.1 ∙ append_assoc x y h.0)

part_back : (bytes : List ℕ) (pos : ℕ) (x y : List ℕ) → IsPart bytes pos (x ++ y) → IsPart bytes (pos + length x) y
part_back bytes pos x y h = (
  h.0,
  sym (drop-drop (length x) pos bytes) ∙ ap (λ (l : List ℕ). drop (length x) l) (h.1 ∙ append_assoc x y h.0)
      ∙ drop_at x (y ++ h.0) (length x) refl,
)

part_skip : (bytes : List ℕ) (pos : ℕ) (part : List ℕ) (k : ℕ) → k ≤ length part → IsPart bytes pos part
    → IsPart bytes (pos + k) (drop k part)
part_skip bytes pos part k le h =
    let split : part ≡ take k part ++ drop k part = sym (take-append-drop k part) in
    subst (λ (n : ℕ). IsPart bytes (pos + n) (drop k part)) (length-take-le k part le)
    (part_back bytes pos (take k part) (drop k part) (subst (λ (l : List ℕ). IsPart bytes pos l) split h))

-- a read that filled its buffer
part_read : (bytes : List ℕ) (pos : ℕ) (buf : List ℕ) → IsPart bytes pos buf
    → IsImageRead (as_file (Some bytes)) pos buf (length buf)
part_read bytes pos buf h =
    let size : length bytes - pos ≡ length buf + length h.0 =
    sym (length-drop pos bytes) ∙ ap (λ (l : List ℕ). length l) h.1 ∙ length-append buf h.0 in
    record {
      count = omega (arith, size);
      bytes = take_all (length buf) buf (omega arith) ∙ part_slice bytes pos buf h;
    }

-- a read that went on to its buffer's or the file's end
pub whole_is_read : (bytes : List ℕ) (pos asked : ℕ) (buf : List ℕ) (n : ℕ) → length buf ≡ asked → n ≤ asked
    → IsWholeRead bytes pos asked buf n → IsImageRead (as_file (Some bytes)) pos buf n
whole_is_read bytes pos asked buf n full within h =
    let came : n ≡ length (take n (drop pos bytes)) =
    sym (length-take-le n buf (omega (arith, full, within)))
    ∙ ap (λ (l : List ℕ). length l) (h.came ∙ slice_is bytes pos n) in
    let left : n ≤ length bytes - pos =
    omega (arith, came, length-take n (drop pos bytes), length-drop pos bytes) in
    record {
      count = elim h.whole [
        | inl all ↦ omega (arith, all, full, left)
        | inr end ↦ omega (arith, end, full, within, left)
      ];
      bytes = h.came;
    }

-- What is held gives a piece.

module _ (bytes : List ℕ) (pos : ℕ) (buf : List ℕ) (a b : Ahead) where
  held_piece : holds a pos (length buf) ≡ true → GivesHeld pos buf a b → IsHeld bytes a
      → IsPart bytes pos buf × IsHeld bytes b
  held_piece fits gives h =
      let low : a.pos ≤ pos =
      leb-true a.pos pos (left_of_both (nat_le a.pos pos) (nat_le (pos + length buf) (a.pos + length a.bytes)) fits) in
      let high : pos + length buf ≤ a.pos + length a.bytes =
      leb-true (pos + length buf) (a.pos + length a.bytes)
      (right_of_both (nat_le a.pos pos) (nat_le (pos + length buf) (a.pos + length a.bytes)) fits) in
      let k : ℕ = pos - a.pos in
      let here : a.pos + k ≡ pos = omega (arith, low) in
      let skipped : IsPart bytes pos (drop k a.bytes) =
      subst (λ (p : ℕ). IsPart bytes p (drop k a.bytes)) here
      (part_skip bytes a.pos a.bytes k (omega (arith, low, high)) (held_part bytes a h)) in
      let split : drop k a.bytes ≡ buf ++ drop (k + length buf) a.bytes =
      sym (take-append-drop (length buf) (drop k a.bytes))
      ∙ ap (λ (l : List ℕ). l ++ drop (length buf) (drop k a.bytes))
      (sym (gives.given ∙ slice_is a.bytes k (length buf)))
      ∙ ap (λ (l : List ℕ). buf ++ l) (drop-drop (length buf) k a.bytes) in
      let both : IsPart bytes pos (buf ++ drop (k + length buf) a.bytes) =
      subst (λ (l : List ℕ). IsPart bytes pos l) split skipped in (
        part_front bytes pos buf (drop (k + length buf) a.bytes) both,
        subst (λ (x : Ahead). IsHeld bytes x) (sym gives.after)
            (part_slice bytes (pos + length buf) (drop (k + length buf) a.bytes)
            (part_back bytes pos buf (drop (k + length buf) a.bytes) both)),
      )

  ahead_piece : (came : List ℕ) → IsPart bytes pos came → (came ≡ buf ++ b.bytes) × (b.pos ≡ pos + length buf)
      → IsPart bytes pos buf × IsHeld bytes b
  ahead_piece came h is =
      let both : IsPart bytes pos (buf ++ b.bytes) = subst (λ (l : List ℕ). IsPart bytes pos l) is.0 h in (
        part_front bytes pos buf b.bytes both,
        part_slice bytes b.pos b.bytes
            (subst (λ (p : ℕ). IsPart bytes p b.bytes) (sym is.1) (part_back bytes pos buf b.bytes both)),
      )

-- nothing is held
held_none : (bytes : List ℕ) (a : Ahead) → a.bytes ≡ [] → IsHeld bytes a
held_none bytes a none =
    subst (λ (l : List ℕ). l ≡ slice_range bytes a.pos (a.pos + length l)) (sym none)
    (part_slice bytes a.pos [] (drop a.pos bytes, refl))

pub nothing_is_held : (bytes : List ℕ) (room : ℕ) → IsHeld bytes (nothing_held room)
nothing_is_held bytes room = held_none bytes (nothing_held room) refl

-- what one read ahead gave
consumed_part : (bytes : List ℕ) (pos : ℕ) (after : Option (List ℕ)) (came : List ℕ)
    → Consumes (Some (drop pos bytes)) after came → IsPart bytes pos came
consumed_part bytes pos None came h = absurd h
consumed_part bytes pos (Some rest) came h = (rest, h)

-- What `give` gives is the file's, and so is what is held after it.
module _ (X Y : Type 0) (bytes : List ℕ) (pos most : ℕ) (result : Bool) (before after : Option (List ℕ))
    (buf buf' : List ℕ) (a b : Ahead) (from : before ≡ Some (drop pos bytes)) (same : length buf' ≡ length buf)
    (held : holds a pos (length buf) ≡ true → (result ≡ true) × X × GivesHeld pos buf' a b)
    (past : holds a pos (length buf) ≡ false → asked_ahead a most ≤ length buf
    → (result ≡ false) × Y × (buf' ≡ buf) × (b ≡ a))
    (ahead : holds a pos (length buf) ≡ false → length buf < asked_ahead a most
    → ReadsAhead pos most result before after buf buf' a b) where
  come : ReadsAhead pos most result before after buf buf' a b → (came : List ℕ) × IsPart bytes pos came
      × (result ≡ true → (came ≡ buf' ++ b.bytes) × (b.pos ≡ pos + length buf))
  come r = (
    r.came,
    consumed_part bytes pos after r.came (subst (λ (x : Option (List ℕ)). Consumes x after r.came) from r.consumes),
    r.pieces,
  )

  pub gives_part : result ≡ true → IsHeld bytes a → IsPart bytes pos buf' × IsHeld bytes b
  gives_part is h =
      elim (cases_Bool (holds a pos (length buf))) [
        | inl has ↦
            held_piece bytes pos buf' a b (ap (λ (n : ℕ). holds a pos n) same ∙ has) (held has).2 h
        | inr not_ ↦ elim (cases_lt (length buf) (asked_ahead a most)) [
          | inl more ↦
              (let c = come (ahead not_ more) in
              let p = c.2 is in ahead_piece bytes pos buf' a b c.0 c.1 (p.0, p.1 ∙ ap (λ (n : ℕ). pos + n) (sym same)))
          | inr less ↦ absurd (true≢false (sym is ∙ (past not_ less).0))
        ]
      ]

  pub gives_read : result ≡ true → IsHeld bytes a → IsImageRead (as_file (Some bytes)) pos buf' (length buf')
  gives_read is h = part_read bytes pos buf' (gives_part is h).0

-- a kernel that tells
pub left_there : (t : Told) (i pos : ℕ) → IsTrue t.tells → left_of t i pos ≡ Some (drop pos (bytes_at t i))
left_there t i pos told = cond-true t.tells (Some (drop pos (bytes_at t i))) None told

pub given_read : {E : Type 0} (r : Result ℕ E) (t : Told) (i pos asked : ℕ) (buf : List ℕ) (H : Type 0)
    → length buf ≡ asked → IfOk r (λ n. n ≤ asked)
    → IfOk r (λ n. IsTrue t.tells → IsWholeRead (bytes_at t i) pos asked buf n)
    → IfOk r (λ n. IsTrue t.tells → H → IsImageRead (as_file (Some (bytes_at t i))) pos buf n)
given_read (Ok n) t i pos asked buf H full within whole =
    λ told h. whole_is_read (bytes_at t i) pos asked buf n full within (whole told)
given_read (Err e) t i pos asked buf H full within whole = tt
