-- What the write of a piece made.
use Rattle.std.proofs.Common.{◌≡◌, inl, inr, ℕ, ◌+◌, ◌≤◌, IsTrue, List, [], ◌∷◌, ◌++◌, take, drop, length, Result, Ok, Err, IfOk, refl, sym, ◌∙◌, ap, subst, arith, append-nil, append_assoc, length-append, take-append-drop}
use Rattle.std.proofs.lemmas.List.{take_at, length-take-le}
use Rattle.kernel_files.specs.Volume.{write, Entry, Done, Failed}
use Rattle.kernel_files.specs.Answers.{Told, Made}
use Rattle.kernel_files.specs.Steps.{MadeBy, IsDone, IsBroken}
use Rattle.kernel_files.specs.ImageCalls.{Writes}
use Rattle.kernel_files.proofs.Steps.{made_here, made_map, made_on, made_done, made_broken}
use Rattle.folder_site.specs.Pieces.{WritesOne, BreaksOneWrite, WritesTo, BreaksWriteAt}

cat : (es fs a b : List Entry) → es ≡ a → fs ≡ b → es ++ fs ≡ a ++ b
cat es fs a b p q = ap (λ (l : List Entry). l ++ fs) p ∙ ap (λ (l : List Entry). a ++ l) q

writes_join : (i pos : ℕ) (a b : List ℕ) (es fs : List Entry) → Writes i pos a es → Writes i (pos + length a) b fs
    → Writes i pos (a ++ b) (es ++ fs)
writes_join i pos a b [] fs h k =
    let none : length a ≡ 0 = ap length h in
    let here : pos + length a ≡ pos = omega (arith, none) in
    subst (λ (l : List ℕ). Writes i pos (l ++ b) fs) (sym h) (subst (λ (p : ℕ). Writes i p b fs) here k)
writes_join i pos a b (Done (write j at p) ∷ es) fs h k =
    let size : length a ≡ length (p ++ h.0) = ap length h.3 in
    let place : pos + length a ≡ pos + length p + length h.0 = omega (arith, size, length-append p h.0) in (
      h.0 ++ b,
      h.1,
      h.2,
      ap (λ (l : List ℕ). l ++ b) h.3 ∙ append_assoc p h.0 b,
      writes_join i (pos + length p) h.0 b es fs h.4 (subst (λ (q : ℕ). Writes i q b fs) place k),
    )
writes_join i pos a b (e ∷ es) fs h k = absurd h

-- the place of a rest is the end of what was written
place : (pos at : ℕ) (piece front rest : List ℕ) → at + length rest ≡ pos + length piece → piece ≡ front ++ rest
    → at ≡ pos + length front
place pos at piece front rest is split =
    let size : length piece ≡ length front + length rest = ap length split ∙ length-append front rest in
    omega (arith, is, size)

writes_more : (i pos : ℕ) (piece rest next : List ℕ) (at : ℕ) (es fs : List Entry)
    → at + length rest ≡ pos + length piece → WritesTo i pos piece rest es → WritesOne i at rest next fs
    → WritesTo i pos piece next (es ++ fs)
writes_more i pos piece rest next at es fs is h (inl k) = (
  h.0,
  h.1 ∙ ap (λ (l : List ℕ). h.0 ++ l) k.1,
  subst (λ (l : List Entry). Writes i pos h.0 l) (sym (cat es fs es [] refl k.0 ∙ append-nil es)) h.2,
)
writes_more i pos piece rest next at es fs is h (inr k) = (
  h.0 ++ k.0,
  h.1 ∙ ap (λ (l : List ℕ). h.0 ++ l) k.1 ∙ sym (append_assoc h.0 k.0 next),
  subst (λ (l : List Entry). Writes i pos (h.0 ++ k.0) (es ++ l)) (sym k.2)
      (writes_join i pos h.0 k.0 es (Done (write i at k.0) ∷ []) h.2
      ([], refl, place pos at piece h.0 rest is h.1, sym (append-nil k.0), refl)),
)

writes_all : (i pos : ℕ) (piece rest : List ℕ) (es : List Entry) → rest ≡ [] → WritesTo i pos piece rest es
    → Writes i pos piece es
writes_all i pos piece rest es none h =
    subst (λ (l : List ℕ). Writes i pos l es) (sym (h.1 ∙ ap (λ (l : List ℕ). h.0 ++ l) none ∙ append-nil h.0)) h.2

taken : (i pos : ℕ) (piece rest : List ℕ) (es : List Entry) (h : WritesTo i pos piece rest es)
    → Writes i pos (take (length h.0) piece) es
taken i pos piece rest es h =
    subst (λ (l : List ℕ). Writes i pos l es)
    (sym (ap (λ (l : List ℕ). take (length h.0) l) h.1 ∙ take_at h.0 rest (length h.0) refl)) h.2

writes_part : (i pos : ℕ) (piece rest : List ℕ) (at : ℕ) (es fs : List Entry)
    → at + length rest ≡ pos + length piece → WritesTo i pos piece rest es → BreaksOneWrite i at rest fs
    → BreaksWriteAt i pos piece (es ++ fs)
writes_part i pos piece rest at es fs is h k =
    let size : length piece ≡ length h.0 + length rest = ap length h.1 ∙ length-append h.0 rest in
    let here : at ≡ pos + length h.0 = place pos at piece h.0 rest is h.1 in
    elim k [
      | inl none ↦ (
        length h.0,
        (
          es,
          omega (arith, size),
          taken i pos piece rest es h,
          inl (cat es fs es [] refl none ∙ append-nil es),
        ),
      )
      | inr some ↦ elim some [
        | inl nothing ↦
            let more : WritesTo i pos piece rest (es ++ fs) = (
              h.0,
              h.1,
              subst (λ (l : List Entry). Writes i pos h.0 (es ++ l)) (sym nothing)
                  (subst (λ (l : List ℕ). Writes i pos l (es ++ Done (write i at []) ∷ [])) (append-nil h.0)
                  (writes_join i pos h.0 [] es (Done (write i at []) ∷ []) h.2 ([], refl, here, refl, refl))),
            ) in
            (length h.0, (es ++ fs, omega (arith, size), taken i pos piece rest (es ++ fs) more, inl refl))
        | inr fails ↦ (
          length h.0,
          (
            es,
            omega (arith, size),
            taken i pos piece rest es h,
            inr (
              fails.0,
              (let le = fails.1 in omega (arith, size, le)),
              cat es fs es (Failed (write i (pos + length h.0) fails.0) ∷ []) refl
                  (fails.2 ∙ ap (λ (p : ℕ). Failed (write i p fails.0) ∷ []) here),
            ),
          ),
        )
      ]
    ]

module _ (i pos : ℕ) (piece : List ℕ) where
  pub not_written : (t : Told) → MadeBy (WritesTo i pos piece piece) t t
  not_written t = made_here (WritesTo i pos piece piece) t ([], refl, refl)

  pub more_written : (rest next : List ℕ) (at : ℕ) (old mid new : Told) → at + length rest ≡ pos + length piece
      → MadeBy (WritesTo i pos piece rest) old mid → MadeBy (WritesOne i at rest next) mid new
      → MadeBy (WritesTo i pos piece next) old new
  more_written rest next at old mid new is =
      made_on (WritesTo i pos piece rest) (WritesOne i at rest next) (WritesTo i pos piece next) old mid new
      (λ t es fs _ h k. writes_more i pos piece rest next at es fs is h k)

  pub all_written : (rest : List ℕ) (old new : Told) → rest ≡ [] → MadeBy (WritesTo i pos piece rest) old new
      → MadeBy (Writes i pos piece) old new
  all_written rest old new none =
      made_map (WritesTo i pos piece rest) (Writes i pos piece) old new
      (λ t es _ h. writes_all i pos piece rest es none h)

  pub part_written : (rest : List ℕ) (at : ℕ) (old mid new : Told) → at + length rest ≡ pos + length piece
      → MadeBy (WritesTo i pos piece rest) old mid → MadeBy (BreaksOneWrite i at rest) mid new
      → MadeBy (BreaksWriteAt i pos piece) old new
  part_written rest at old mid new is =
      made_on (WritesTo i pos piece rest) (BreaksOneWrite i at rest) (BreaksWriteAt i pos piece) old mid new
      (λ t es fs _ h k. writes_part i pos piece rest at es fs is h k)

  pub part_left : (rest : List ℕ) (old new : Told) → MadeBy (WritesTo i pos piece rest) old new
      → MadeBy (BreaksWriteAt i pos piece) old new
  part_left rest old new =
      made_map (WritesTo i pos piece rest) (BreaksWriteAt i pos piece) old new
      (λ t es _ h. (
        length h.0,
        (
          es,
          (let size : length piece ≡ length h.0 + length rest = ap length h.1 ∙ length-append h.0 rest in
              omega (arith, size)),
          taken i pos piece rest es h,
          inl refl,
        ),
      ))

-- one write

module _ {E : Type 0} (i at n : ℕ) (piece : List ℕ) (le : n ≤ length piece) (r : Result ℕ E) (old new : Told) (made : Made (write i at (take n piece)) r old new) where
  pub wrote_at : (count : ℕ) (rest : List ℕ) → r ≡ Ok count → IfOk r (λ m. m ≡ n) → rest ≡ drop count piece
      → MadeBy (WritesOne i at piece rest) old new
  wrote_at count rest is same cut =
      let e : count ≡ n = subst (λ (q : Result ℕ E). IfOk q (λ m. m ≡ n)) is same in
      let split : piece ≡ take n piece ++ rest =
      sym (take-append-drop n piece) ∙ ap (λ (k : ℕ). take n piece ++ drop k piece) (sym e)
      ∙ ap (λ (l : List ℕ). take n piece ++ l) (sym cut) in
      made_map (IsDone (write i at (take n piece))) (WritesOne i at piece rest) old new
      (λ t es _ h. inr (take n piece, split, h)) (made_done (write i at (take n piece)) r count old new is made)

  pub wrote_none_at : r ≡ Ok 0 → IfOk r (λ m. m ≡ n) → MadeBy (BreaksOneWrite i at piece) old new
  wrote_none_at is same =
      let e : 0 ≡ n = subst (λ (q : Result ℕ E). IfOk q (λ m. m ≡ n)) is same in
      made_map (IsDone (write i at (take n piece))) (BreaksOneWrite i at piece) old new
      (λ t es _ h. inr (inl (h ∙ ap (λ (k : ℕ). Done (write i at (take k piece)) ∷ []) (sym e))))
      (made_done (write i at (take n piece)) r 0 old new is made)

  pub interrupted_at : (e : E) → r ≡ Err e → (IsTrue old.tells → new.calls ≡ old.calls)
      → MadeBy (WritesOne i at piece piece) old new
  interrupted_at e is none = record {
    tells = made.tells;
    start = made.start;
    calls = λ t. ([], none t ∙ sym (append-nil old.calls), inl (refl, refl));
  }

  pub write_failed_at : (e : E) → r ≡ Err e → MadeBy (BreaksOneWrite i at piece) old new
  write_failed_at e is =
      made_map (IsBroken (write i at (take n piece))) (BreaksOneWrite i at piece) old new
      (λ t es _ h.
      elim h [
        | inl none ↦ inl none
        | inr fails ↦ inr (inr (take n piece, (let s = length-take-le n piece le in omega (arith, s, le)), fails))
      ])
      (made_broken (write i at (take n piece)) r e old new is made)
