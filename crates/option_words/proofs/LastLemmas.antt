-- The last option of a letter.
use Rattle.std.proofs.Common.{◌≡◌, Bool, true, false, ◌||◌, cond, [], ◌∷◌, Some, None, refl, ◌∙◌, ap}
use Rattle.option_words.specs.Values.{is_given, is_of, later}
use Rattle.option_words.specs.ValueLaws.{LastCounts, NoneCounts}

neither : (a b : Bool) → (a || b) ≡ false → (a ≡ false) × (b ≡ false)
neither true b e = absurd (cc)
neither false b e = (refl, e)

pub none_counts : NoneCounts
none_counts options letter [] none = refl
none_counts options letter (i ∷ items) none =
    let p = neither (is_of options letter i) (is_given options letter items) none in
    ap (λ l. later l (cond (is_of options letter i) (Some i) None)) (none_counts options letter items p.1)
    ∙ ap (λ b. later None (cond b (Some i) None)) p.0

pub last_counts : LastCounts
last_counts options letter [] after i of none =
    ap (λ l. later l (cond (is_of options letter i) (Some i) None)) (none_counts options letter after none)
    ∙ ap (λ b. later None (cond b (Some i) None)) of
last_counts options letter (j ∷ before) after i of none =
    ap (λ l. later l (cond (is_of options letter j) (Some j) None)) (last_counts options letter before after i of none)
