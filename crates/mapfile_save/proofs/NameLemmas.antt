-- Names of files that differ.
use Rattle.std.proofs.Common.{◌≡◌, ◌≢◌, ℕ, ◌+◌, true, false, List, length, refl, sym, ap, ◌∙◌, arith, length-append}
use Rattle.std.specs.Prelude.{codes}
use Rattle.std.specs.Str.{bytes_eq}
use Rattle.std.proofs.lemmas.Slice.Eq.{bytes_eq-Decides}
use Rattle.mapfile_save.specs.MapNames.{names_of}

-- a draft has another name than its mapfile
pub apart_draft : (name : List ℕ) → name ≢ (names_of name).draft
apart_draft name same =
    let lengths : length name ≡ length name + length (codes ".tmp") =
    ap length same ∙ length-append name (codes ".tmp") in
    let four : length (codes ".tmp") ≡ 4 = refl in
    omega (arith, lengths, four)

pub ne_of : (xs ys : List ℕ) → bytes_eq xs ys ≡ false → xs ≢ ys
ne_of xs ys apart same = let both : true ≡ false = sym ((bytes_eq-Decides xs ys).1 same) ∙ apart in cc
