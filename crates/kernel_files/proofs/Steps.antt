-- Calls one after the other.
use Rattle.std.proofs.Common.{◌≡◌, inl, inr, ℕ, Bool, IsTrue, List, [], ◌∷◌, ◌++◌, Some, None, Result, Ok, Err, IfOk, OnOk, OnErr, refl, sym, ◌∙◌, ap, subst, append-nil, append_assoc}
use Rattle.kernel_files.specs.Volume.{Volume, Call, create, Entry, Done, Failed, entered, after, IsNew}
use Rattle.kernel_files.specs.Answers.{Told, volume, Made}
use Rattle.kernel_files.specs.Steps.{MadeBy, IsDone, IsBroken}
use Rattle.kernel_files.specs.ImageCalls.{OpensOrMakes, BreaksMake}

pub still : (old new : Told) → new.tells ≡ old.tells → IsTrue old.tells → IsTrue new.tells
still old new same tells = subst (λ (b : Bool). IsTrue b) (sym same) tells

run_append : (v : Volume) (a b : List Entry) → after v (a ++ b) ≡ after (after v a) b
run_append v [] b = refl
run_append v (e ∷ a) b = run_append (entered v e) a b

-- the files after these calls
went_on : (es : List Entry) (old new : Told) → new.start ≡ old.start → new.calls ≡ old.calls ++ es
    → volume new ≡ after (volume old) es
went_on es old new start calls =
    ap (λ (v : Volume). after v new.calls) start ∙ ap (λ (c : List Entry). after old.start c) calls
    ∙ run_append old.start old.calls es

-- no call was made
pub made_here : (P : List Entry → Type 0) (t : Told) → P [] → MadeBy P t t
made_here P t h = record { tells = refl; start = λ _. refl; calls = λ _. ([], sym (append-nil t.calls), h) }

pub made_map : (P Q : List Entry → Type 0) (old new : Told)
    → (IsTrue old.tells → (es : List Entry) → volume new ≡ after (volume old) es → P es → Q es)
    → MadeBy P old new → MadeBy Q old new
made_map P Q old new f h = record {
  tells = h.tells;
  start = h.start;
  calls = λ t.
      let c = h.calls t in
      (c.0, c.1, f t c.0 (went_on c.0 old new (h.start t) c.1) c.2);
}

-- two rounds of calls, of which the second begins where the first ended
pub made_on : (P Q R : List Entry → Type 0) (old mid new : Told)
    → (IsTrue old.tells → (es fs : List Entry) → volume mid ≡ after (volume old) es → P es → Q fs → R (es ++ fs))
    → MadeBy P old mid → MadeBy Q mid new → MadeBy R old new
made_on P Q R old mid new f h k = record {
  tells = k.tells ∙ h.tells;
  start = λ t. k.start (still old mid h.tells t) ∙ h.start t;
  calls = λ t.
      let a = h.calls t in
      let b = k.calls (still old mid h.tells t) in (
        a.0 ++ b.0,
        b.1 ∙ ap (λ (c : List Entry). c ++ b.0) a.1 ∙ append_assoc old.calls a.0 b.0,
        f t a.0 b.0 (went_on a.0 old mid (h.start t) a.1) a.2 b.2,
      );
}

pub made_done : {T E : Type 0} (call : Call) (r : Result T E) (x : T) (old new : Told) → r ≡ Ok x → Made call r old new
    → MadeBy (IsDone call) old new
made_done call (Ok y) x old new is m =
    record { tells = m.tells; start = m.start; calls = λ t. (Done call ∷ [], m.done t, refl) }
made_done call (Err e) x old new is m = absurd (cc)

pub made_broken : {T E : Type 0} (call : Call) (r : Result T E) (e : E) (old new : Told) → r ≡ Err e → Made call r old new
    → MadeBy (IsBroken call) old new
made_broken call (Ok y) e old new is m = absurd (cc)
made_broken call (Err x) e old new is m = record {
  tells = m.tells;
  start = m.start;
  calls = λ t. elim (m.failed t) [
    | inl told ↦ (Failed call ∷ [], told, inr refl)
    | inr told ↦ ([], told ∙ sym (append-nil old.calls), inl refl)
  ];
}

-- a call that wasn't made
pub not_made : {T E : Type 0} (call : Call) (e : E) (t : Told) → Made {T = T} call (Err e) t t
not_made call e t = record { tells = refl; start = λ _. refl; done = tt; failed = λ _. inr refl }

-- the same call, with another answer
pub remade_ok : {T U E F : Type 0} (call : Call) (r : Result T E) (x : T) (y : U) (old new : Told) → r ≡ Ok x
    → Made call r old new → Made {E = F} call (Ok y) old new
remade_ok call (Ok z) x y old new is m = record { tells = m.tells; start = m.start; done = m.done; failed = tt }
remade_ok call (Err e) x y old new is m = absurd (cc)

pub remade_err : {T U E F : Type 0} (call : Call) (r : Result T E) (e : E) (f : F) (old new : Told) → r ≡ Err e
    → Made call r old new → Made {T = U} call (Err f) old new
remade_err call (Ok z) e f old new is m = absurd (cc)
remade_err call (Err x) e f old new is m = record { tells = m.tells; start = m.start; done = tt; failed = m.failed }

-- The same of an answer that is handed on.

pub done_ok : {T E : Type 0} (call : Call) (r : Result T E) (old new : Told) → Made call r old new
    → OnOk r (MadeBy (IsDone call) old new)
done_ok call (Ok x) old new m = made_done call (Ok x) x old new refl m
done_ok call (Err e) old new m = tt

pub broken_err : {T E : Type 0} (call : Call) (r : Result T E) (old new : Told) → Made call r old new
    → OnErr r (MadeBy (IsBroken call) old new)
broken_err call (Ok x) old new m = tt
broken_err call (Err e) old new m = made_broken call (Err e) e old new refl m

pub ok_map : {T E : Type 0} (P Q : Type 0) (r : Result T E) → (P → Q) → OnOk r P → OnOk r Q
ok_map P Q (Ok x) f h = f h
ok_map P Q (Err e) f h = tt

pub err_map : {T E : Type 0} (P Q : Type 0) (r : Result T E) → (P → Q) → OnErr r P → OnErr r Q
err_map P Q (Ok x) f h = tt
err_map P Q (Err e) f h = f h

-- an image's file

module _ (name : List ℕ) (old new : Told) where
  pub opened_here : (i : ℕ) → (IsTrue old.tells → (volume old).names name ≡ Some i)
      → MadeBy (OpensOrMakes (volume old) name i) old old
  opened_here i is = record {
    tells = refl;
    start = λ _. refl;
    calls = λ t. ([], sym (append-nil old.calls), inl (is t, refl));
  }

  pub opened_new : {F E : Type 0} (number : F → ℕ) (i : ℕ) (r : Result F E)
      → (IsTrue old.tells → (volume old).names name ≡ None) → (IsTrue old.tells → IsNew (volume old) i)
      → IfOk r (λ f. number f ≡ i) → Made (create name i) r old new
      → IfOk r (λ f. MadeBy (OpensOrMakes (volume old) name (number f)) old new)
  opened_new number i (Ok f) free fresh same m =
      subst (λ (k : ℕ). MadeBy (OpensOrMakes (volume old) name k) old new) (sym same)
      (made_map (IsDone (create name i)) (OpensOrMakes (volume old) name i) old new
      (λ t es _ h. inr (free t, fresh t, h)) (made_done (create name i) (Ok f) f old new refl m))
  opened_new number i (Err e) free fresh same m = tt

  pub not_opened_new : {F E : Type 0} (i : ℕ) (r : Result F E)
      → (IsTrue old.tells → (volume old).names name ≡ None) → (IsTrue old.tells → IsNew (volume old) i)
      → Made (create name i) r old new → OnErr r (MadeBy (BreaksMake (volume old) name) old new)
  not_opened_new i (Ok f) free fresh m = tt
  not_opened_new i (Err e) free fresh m =
      made_map (IsBroken (create name i)) (BreaksMake (volume old) name) old new
      (λ t es _ h. elim h [ inl none ↦ inl none | inr fails ↦ inr (i, free t, fresh t, fails) ])
      (made_broken (create name i) (Err e) e old new refl m)

-- no call of a kernel that tells
pub never_told : (P : List Entry → Type 0) (old new : Told) → new.tells ≡ old.tells → (IsTrue old.tells → ⊥)
    → MadeBy P old new
never_told P old new same never =
    record { tells = same; start = λ t. absurd (never t); calls = λ t. absurd (never t) }
