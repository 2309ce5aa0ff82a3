-- What a site answers is what its files did.
use Rattle.std.proofs.Common.{◌≡◌, true, true≢false, Option, None, is_some, Result, Ok, Err, is_ok, IfOk, OnOk, OnErr, IsErr, refl, sym, ap}
use Rattle.std.specs.Result.{result_ok}
use Rattle.folder_site.proofs.Looks.{ok_given, if_given}

err_of : {T E P : Type 0} (r : Result T E) → IsErr r → OnErr r P → P
err_of (Ok x) bad h = absurd (true≢false (sym bad))
err_of (Err e) bad h = h

none_of : {T E : Type 0} (r : Result T E) → IsErr r → result_ok r ≡ None
none_of (Ok x) bad = absurd (true≢false (sym bad))
none_of (Err e) bad = refl

module _ {T E F : Type 0} (outcome : Result T E) where
  pub err_same : (P : Type 0) (result : Result T F) → OnErr result (IsErr outcome) → OnErr outcome P → OnErr result P
  err_same P (Ok x) bad h = tt
  err_same P (Err e) bad h = err_of outcome bad h

  pub if_same : (P : T → Type 0) (result : Result T F) → IfOk result (λ x. outcome ≡ Ok x) → IfOk outcome P
      → IfOk result P
  if_same P (Ok x) is h = if_given outcome x P is h
  if_same P (Err e) is h = tt

  -- a draft that was begun
  pub is_begun : {D : Type 0} (draft : Option D) (result : Result T F) → IfOk result (λ x. outcome ≡ Ok x)
      → OnErr result (IsErr outcome) → OnOk outcome (is_some draft ≡ true) → OnErr outcome (draft ≡ None)
      → is_some draft ≡ is_ok result
  is_begun draft (Ok x) is bad begun none = ok_given outcome x (is_some draft ≡ true) is begun
  is_begun draft (Err e) is bad begun none = ap is_some (err_of outcome bad none)

  pub same_gives : (result : Result T F) → IfOk result (λ x. outcome ≡ Ok x) → OnErr result (IsErr outcome)
      → result_ok outcome ≡ result_ok result
  same_gives (Ok x) is bad = ap result_ok is
  same_gives (Err e) is bad = none_of outcome bad
