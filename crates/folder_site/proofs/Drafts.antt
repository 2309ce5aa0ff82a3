-- What a draft's calls made.
use Rattle.std.proofs.Common.{◌≡◌, inl, inr, ℕ, IsTrue, List, [], ◌∷◌, ◌++◌, take, drop, length, None, Result, Ok, Err, IfOk, refl, sym, ◌∙◌, ap, subst, append-nil, append_assoc, take-append-drop}
use Rattle.std.proofs.lemmas.List.{take_at}
use Rattle.kernel_files.specs.Volume.{Volume, create, append, unlink, Entry, Done, Failed, after, IsNew}
use Rattle.kernel_files.specs.Answers.{Told, volume, Made}
use Rattle.kernel_files.specs.Steps.{MadeBy, IsDone, IsBroken}
use Rattle.kernel_files.specs.MapCalls.{Begins, Appends, Removes}
use Rattle.kernel_files.proofs.Steps.{still, made_here, made_map, made_on, made_done, made_broken}
use Rattle.folder_site.specs.Drafts.{BreaksBeginAt, BreaksAppendAt, AppendsOne, BreaksOne, AppendsTo}

cat : (es fs a b : List Entry) → es ≡ a → fs ≡ b → es ++ fs ≡ a ++ b
cat es fs a b p q = ap (λ (l : List Entry). l ++ fs) p ∙ ap (λ (l : List Entry). a ++ l) q

-- The begin.

begin_none : (v : Volume) (name : List ℕ) (es : List Entry) → IsBroken (unlink name) es → BreaksBeginAt v name es
begin_none v name es (inl is) = (0, inl (refl, is))
begin_none v name es (inr is) = (0, inr (inl (refl, is)))

begin_cleared : (v : Volume) (name : List ℕ) (es : List Entry) → Removes v name es → BreaksBeginAt v name es
begin_cleared v name es (inl is) = (0, inl (refl, is.1))
begin_cleared v name es (inr is) = (1, inr (inr (inl (refl, is))))

begin_at_create : (v : Volume) (name : List ℕ) (i : ℕ) (es fs : List Entry) → IsNew (after v es) i → Removes v name es
    → IsBroken (create name i) fs → BreaksBeginAt v name (es ++ fs)
begin_at_create v name i es fs new (inl is) (inl none) = (0, inl (refl, cat es fs [] [] is.1 none))
begin_at_create v name i es fs new (inl is) (inr fails) = (
  0,
  inr (inr (inr (inr (inl (
    i,
    refl,
    subst (λ (l : List Entry). IsNew (after v l) i) is.1 new,
    cat es fs [] (Failed (create name i) ∷ []) is.1 fails,
  ))))),
)
begin_at_create v name i es fs new (inr is) (inl none) =
    (1, inr (inr (inl (refl, cat es fs (Done (unlink name) ∷ []) [] is none))))
begin_at_create v name i es fs new (inr is) (inr fails) = (
  1,
  inr (inr (inr (inl (
    i,
    refl,
    subst (λ (l : List Entry). IsNew (after v l) i) is new,
    cat es fs (Done (unlink name) ∷ []) (Failed (create name i) ∷ []) is fails,
  )))),
)

begin_made : (v : Volume) (name : List ℕ) (i : ℕ) (es fs : List Entry) → IsNew (after v es) i → Removes v name es
    → IsDone (create name i) fs → Begins v name i (es ++ fs)
begin_made v name i es fs new (inl is) made =
    inl (
      is.0,
      subst (λ (l : List Entry). IsNew (after v l) i) is.1 new,
      cat es fs [] (Done (create name i) ∷ []) is.1 made,
    )
begin_made v name i es fs new (inr is) made =
    inr (
      subst (λ (l : List Entry). IsNew (after v l) i) is new,
      cat es fs (Done (unlink name) ∷ []) (Done (create name i) ∷ []) is made,
    )

-- a name is freed
module _ (name : List ℕ) (old new : Told) where
  pub was_free : (IsTrue old.tells → (volume old).names name ≡ None) → MadeBy (Removes (volume old) name) old old
  was_free free = record {
    tells = refl;
    start = λ _. refl;
    calls = λ t. ([], sym (append-nil old.calls), inl (free t, refl));
  }

  pub removed : MadeBy (IsDone (unlink name)) old new → MadeBy (Removes (volume old) name) old new
  removed = made_map (IsDone (unlink name)) (Removes (volume old) name) old new (λ t es _ h. inr h)

module _ (name : List ℕ) (old mid new : Told) where
  pub not_begun : MadeBy (IsBroken (unlink name)) old new → MadeBy (BreaksBeginAt (volume old) name) old new
  not_begun =
      made_map (IsBroken (unlink name)) (BreaksBeginAt (volume old) name) old new
      (λ t es is h. begin_none (volume old) name es h)

  pub cleared : MadeBy (Removes (volume old) name) old new → MadeBy (BreaksBeginAt (volume old) name) old new
  cleared =
      made_map (Removes (volume old) name) (BreaksBeginAt (volume old) name) old new
      (λ t es is h. begin_cleared (volume old) name es h)

  pub not_created : (i : ℕ) → (IsTrue mid.tells → IsNew (volume mid) i) → MadeBy (Removes (volume old) name) old mid
      → MadeBy (IsBroken (create name i)) mid new → MadeBy (BreaksBeginAt (volume old) name) old new
  not_created i fresh first =
      made_on (Removes (volume old) name) (IsBroken (create name i)) (BreaksBeginAt (volume old) name) old mid new
      (λ t es fs is h k.
      begin_at_create (volume old) name i es fs
      (subst (λ (v : Volume). IsNew v i) is (fresh (still old mid first.tells t))) h k)
      first

  pub begun : (i : ℕ) → (IsTrue mid.tells → IsNew (volume mid) i) → MadeBy (Removes (volume old) name) old mid
      → MadeBy (IsDone (create name i)) mid new → MadeBy (Begins (volume old) name i) old new
  begun i fresh first =
      made_on (Removes (volume old) name) (IsDone (create name i)) (Begins (volume old) name i) old mid new
      (λ t es fs is h k.
      begin_made (volume old) name i es fs
      (subst (λ (v : Volume). IsNew v i) is (fresh (still old mid first.tells t))) h k)
      first

  pub begun_late : (i : ℕ) → MadeBy (Begins (volume old) name i) old new
      → MadeBy (BreaksBeginAt (volume old) name) old new
  begun_late i =
      made_map (Begins (volume old) name i) (BreaksBeginAt (volume old) name) old new
      (λ t es is h. (2, inr (inr (inr (inr (inr (i, refl, h)))))))

-- The append.

appends_join : (i : ℕ) (a b : List ℕ) (es fs : List Entry) → Appends i a es → Appends i b fs
    → Appends i (a ++ b) (es ++ fs)
appends_join i a b [] fs h k = subst (λ (l : List ℕ). Appends i (l ++ b) fs) (sym h) k
appends_join i a b (Done (append j p) ∷ es) fs h k =
    (h.0 ++ b, h.1, ap (λ (l : List ℕ). l ++ b) h.2 ∙ append_assoc p h.0 b, appends_join i h.0 b es fs h.3 k)
appends_join i a b (e ∷ es) fs h k = absurd h

appends_more : (i : ℕ) (piece rest next : List ℕ) (es fs : List Entry) → AppendsTo i piece rest es
    → AppendsOne i rest next fs → AppendsTo i piece next (es ++ fs)
appends_more i piece rest next es fs h (inl k) = (
  h.0,
  h.1 ∙ ap (λ (l : List ℕ). h.0 ++ l) k.1,
  subst (λ (l : List Entry). Appends i h.0 l) (sym (cat es fs es [] refl k.0 ∙ append-nil es)) h.2,
)
appends_more i piece rest next es fs h (inr k) = (
  h.0 ++ k.0,
  h.1 ∙ ap (λ (l : List ℕ). h.0 ++ l) k.1 ∙ sym (append_assoc h.0 k.0 next),
  subst (λ (l : List Entry). Appends i (h.0 ++ k.0) (es ++ l)) (sym k.2)
      (appends_join i h.0 k.0 es (Done (append i k.0) ∷ []) h.2 ([], refl, sym (append-nil k.0), refl)),
)

appends_all : (i : ℕ) (piece rest : List ℕ) (es : List Entry) → rest ≡ [] → AppendsTo i piece rest es → Appends i piece es
appends_all i piece rest es none h =
    subst (λ (l : List ℕ). Appends i l es) (sym (h.1 ∙ ap (λ (l : List ℕ). h.0 ++ l) none ∙ append-nil h.0)) h.2

-- the bytes that were taken are the front
taken : (i : ℕ) (piece rest : List ℕ) (es : List Entry) (h : AppendsTo i piece rest es)
    → Appends i (take (length h.0) piece) es
taken i piece rest es h =
    subst (λ (l : List ℕ). Appends i l es)
    (sym (ap (λ (l : List ℕ). take (length h.0) l) h.1 ∙ take_at h.0 rest (length h.0) refl)) h.2

appends_part : (i : ℕ) (piece rest : List ℕ) (es fs : List Entry) → AppendsTo i piece rest es → BreaksOne i fs
    → BreaksAppendAt i piece (es ++ fs)
appends_part i piece rest es fs h (inl none) =
    (length h.0, (es, taken i piece rest es h, inl (cat es fs es [] refl none ∙ append-nil es)))
appends_part i piece rest es fs h (inr (inl nothing)) =
    let more : AppendsTo i piece rest (es ++ fs) = (
      h.0,
      h.1,
      subst (λ (l : List Entry). Appends i h.0 (es ++ l)) (sym nothing)
          (subst (λ (l : List ℕ). Appends i l (es ++ Done (append i []) ∷ [])) (append-nil h.0)
          (appends_join i h.0 [] es (Done (append i []) ∷ []) h.2 ([], refl, refl, refl))),
    ) in
    (length h.0, (es ++ fs, taken i piece rest (es ++ fs) more, inl refl))
appends_part i piece rest es fs h (inr (inr fails)) = (
  length h.0,
  (es, taken i piece rest es h, inr (fails.0, cat es fs es (Failed (append i fails.0) ∷ []) refl fails.1)),
)

module _ (i : ℕ) (piece : List ℕ) where
  pub not_appended : (t : Told) → MadeBy (AppendsTo i piece piece) t t
  not_appended t = made_here (AppendsTo i piece piece) t ([], refl, refl)

  pub more_appended : (rest next : List ℕ) (old mid new : Told) → MadeBy (AppendsTo i piece rest) old mid
      → MadeBy (AppendsOne i rest next) mid new → MadeBy (AppendsTo i piece next) old new
  more_appended rest next old mid new =
      made_on (AppendsTo i piece rest) (AppendsOne i rest next) (AppendsTo i piece next) old mid new
      (λ t es fs is h k. appends_more i piece rest next es fs h k)

  pub all_appended : (rest : List ℕ) (old new : Told) → rest ≡ [] → MadeBy (AppendsTo i piece rest) old new
      → MadeBy (Appends i piece) old new
  all_appended rest old new none =
      made_map (AppendsTo i piece rest) (Appends i piece) old new (λ t es is h. appends_all i piece rest es none h)

  pub part_appended : (rest : List ℕ) (old mid new : Told) → MadeBy (AppendsTo i piece rest) old mid
      → MadeBy (BreaksOne i) mid new → MadeBy (BreaksAppendAt i piece) old new
  part_appended rest old mid new =
      made_on (AppendsTo i piece rest) (BreaksOne i) (BreaksAppendAt i piece) old mid new
      (λ t es fs is h k. appends_part i piece rest es fs h k)

  pub no_write : (t : Told) → MadeBy (BreaksOne i) t t
  no_write t = made_here (BreaksOne i) t (inl refl)

-- one write

module _ {E : Type 0} (i n : ℕ) (piece : List ℕ) (r : Result ℕ E) (old new : Told) (made : Made (append i (take n piece)) r old new) where
  pub wrote : (count : ℕ) (rest : List ℕ) → r ≡ Ok count → IfOk r (λ m. m ≡ n) → rest ≡ drop count piece
      → MadeBy (AppendsOne i piece rest) old new
  wrote count rest is same cut =
      let e : count ≡ n = subst (λ (q : Result ℕ E). IfOk q (λ m. m ≡ n)) is same in
      let split : piece ≡ take n piece ++ rest =
      sym (take-append-drop n piece) ∙ ap (λ (k : ℕ). take n piece ++ drop k piece) (sym e)
      ∙ ap (λ (l : List ℕ). take n piece ++ l) (sym cut) in
      made_map (IsDone (append i (take n piece))) (AppendsOne i piece rest) old new
      (λ t es _ h. inr (take n piece, split, h)) (made_done (append i (take n piece)) r count old new is made)

  pub wrote_none : r ≡ Ok 0 → IfOk r (λ m. m ≡ n) → MadeBy (BreaksOne i) old new
  wrote_none is same =
      let e : 0 ≡ n = subst (λ (q : Result ℕ E). IfOk q (λ m. m ≡ n)) is same in
      made_map (IsDone (append i (take n piece))) (BreaksOne i) old new
      (λ t es _ h. inr (inl (h ∙ ap (λ (k : ℕ). Done (append i (take k piece)) ∷ []) (sym e))))
      (made_done (append i (take n piece)) r 0 old new is made)

  pub interrupted : (e : E) → r ≡ Err e → (IsTrue old.tells → new.calls ≡ old.calls)
      → MadeBy (AppendsOne i piece piece) old new
  interrupted e is none = record {
    tells = made.tells;
    start = made.start;
    calls = λ t. ([], none t ∙ sym (append-nil old.calls), inl (refl, refl));
  }

  pub write_failed : (e : E) → r ≡ Err e → MadeBy (BreaksOne i) old new
  write_failed e is =
      made_map (IsBroken (append i (take n piece))) (BreaksOne i) old new
      (λ t es _ h. elim h [ inl none ↦ inl none | inr fails ↦ inr (inr (take n piece, fails)) ])
      (made_broken (append i (take n piece)) r e old new is made)
