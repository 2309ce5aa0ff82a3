-- A line that counts for the rate is kept.
use Rattle.std.proofs.Common.{◌≡◌, ◌↔◌, ℕ, ◌<◌, Bool, true, false, cond, List, [], ◌∷◌, ◌++◌, length, take, Result, Ok, Err, IsOk, OnOk, OnErr, refl, sym, ap, ◌∙◌, length-append, arith}
use Rattle.std.proofs.lemmas.List.{take_all, take_at}
use Rattle.arrayvec.specs.ArrayVec.{ArrayVec}
use Rattle.ddrescueshow_cli.specs.declared.rate.Sample.{Sample}
use Rattle.ddrescueshow_cli.specs.Rate.{is_of_second, last_of, lines_with}

-- there is room
with_room : (now : Sample) (lines : List Sample) → is_of_second now (last_of lines) ≡ false → length lines < 16
    → lines_with now lines ≡ lines ++ now ∷ []
with_room now lines new room =
    ap (λ (b : Bool). cond b lines (take 16 (lines ++ now ∷ []))) new
    ∙ take_all 16 (lines ++ now ∷ []) (omega (arith, room, length-append lines (now ∷ [])))

-- there is none
without_room : (now : Sample) (lines : List Sample) → is_of_second now (last_of lines) ≡ false → length lines ≡ 16
    → lines_with now lines ≡ lines
without_room now lines new full =
    ap (λ (b : Bool). cond b lines (take 16 (lines ++ now ∷ []))) new ∙ take_at lines (now ∷ []) 16 full

-- the line is pushed, if there is room
pub pushed : {T E : Type 0} (now : Sample) (lines lines' : ArrayVec Sample) (r : Result T E)
    → is_of_second now (last_of lines.items) ≡ false → IsOk r ↔ (length lines.items < 16)
    → OnOk r (lines'.items ≡ lines.items ++ now ∷ []) → OnErr r (lines' ≡ lines) → OnErr r (length lines.items ≡ 16)
    → lines'.items ≡ lines_with now lines.items
pushed now lines lines' (Ok x) new fits put same full = put ∙ sym (with_room now lines.items new (fits.0 refl))
pushed now lines lines' (Err e) new fits put same full =
    ap (λ (v : ArrayVec Sample). v.items) same ∙ sym (without_room now lines.items new full)
