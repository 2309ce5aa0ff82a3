-- The bytes that reads gave.
use Rattle.std.proofs.Common.{◌≡◌, ℕ, ◌+◌, ◌-◌, ◌<◌, ◌≤◌, true, List, [], ◌∷◌, length, take, drop, Option, Some, None, refl, sym, ap, ◌∙◌, arith, subst, ⊎_elim, if◌then◌else◌}
use Rattle.std.specs.List.{All, slice_get, slice_range}
use Rattle.std.proofs.lemmas.Bool.{cases_Bool}
use Rattle.std.proofs.lemmas.List.{length-take}
use Rattle.std.proofs.lemmas.List.Elements.{All-head, All-tail}
use Rattle.std.proofs.lemmas.Option.{slice_get_within}
use Rattle.block_list.proofs.HeldLemmas.{slice_get-drop}
use Rattle.faulty_source.specs.Journal.{Reading, covers, IsFrom}
use Rattle.rescue_rules.specs.Given.{given, last_of_both}
use Rattle.rescue_rules.proofs.GivenLemmas.{given_covered, given_uncovered}
use Rattle.rescue_rules.proofs.MarkLemmas.{slice_get-take}
use Rattle.ddrescue_words.specs.Command.{Rescue}
use Rattle.ddrescue_cli.specs.Ddrescue.{TaskDone}
use Rattle.ddrescue_laws.specs.Laws.{GivenIsInput}

-- a byte of a range of a list
pub of_range : (bytes : List ℕ) (p q k v : ℕ) → slice_get (slice_range bytes p q) k ≡ Some v
    → slice_get bytes (p + k) ≡ Some v
of_range bytes p q k v is =
    let within : k < length (take (q - p) (drop p bytes)) = slice_get_within (take (q - p) (drop p bytes)) k v is in
    let few : length (take (q - p) (drop p bytes)) ≤ q - p = omega (arith, length-take (q - p) (drop p bytes)) in
    sym (slice_get-drop p bytes k) ∙ sym (slice_get-take (q - p) (drop p bytes) k (omega (arith, within, few))) ∙ is

covered_from : (b : ℕ) (r : Reading) (x : ℕ) → covers b r x ≡ true → r.pos ≤ x
covered_from b r x is = grind (arith, is)

-- the byte of one read
of_read : (bytes : List ℕ) (r : Reading) (x v : ℕ) → IsFrom bytes r → r.pos ≤ x → slice_get r.given (x - r.pos) ≡ Some v
    → slice_get bytes x ≡ Some v
of_read bytes r x v own from is =
    let P : List ℕ → Type 0 = λ g. slice_get g (x - r.pos) ≡ Some v in
    let here : r.pos + (x - r.pos) ≡ x = omega (arith, from) in
    let Q : ℕ → Type 0 = λ n. slice_get bytes n ≡ Some v in
    subst Q here (of_range bytes r.pos (r.pos + length r.given) (x - r.pos) v (subst P own is))

-- where a later read gave a byte, that is given
pub later_given : (b : ℕ) (r : Reading) (rs : List Reading) (x v w : ℕ) → given b rs x ≡ Some w
    → given b (r ∷ rs) x ≡ Some v → given b rs x ≡ Some v
later_given b r rs x v w later is =
    let one : given b (r ∷ rs) x ≡ Some w =
    ap (λ o. last_of_both o (if covers b r x then slice_get r.given (x - r.pos) else None)) later in
    later ∙ sym one ∙ is

-- the byte of the first read, or of those after it
first_input : (bytes : List ℕ) (b : ℕ) (r : Reading) (rs : List Reading) (x v : ℕ) (later : Option ℕ) → IsFrom bytes r
    → (given b rs x ≡ Some v → slice_get bytes x ≡ Some v) → given b (r ∷ rs) x ≡ Some v → given b rs x ≡ later
    → slice_get bytes x ≡ Some v
first_input bytes b r rs x v (Some w) own rest is later = rest (later_given b r rs x v w later is)
first_input bytes b r rs x v None own rest is later =
    ⊎_elim
    (λ covered. of_read bytes r x v own (covered_from b r x covered) (sym (given_covered b r rs x covered later) ∙ is))
    (λ apart. let none : None ≡ Some v = sym later ∙ sym (given_uncovered b r rs x apart) ∙ is in absurd (cc))
    (cases_Bool (covers b r x))

from_input : (bytes : List ℕ) (b : ℕ) (reads : List Reading) (x v : ℕ) → All (IsFrom bytes) reads
    → given b reads x ≡ Some v → slice_get bytes x ≡ Some v
from_input bytes b [] x v all is = absurd (cc)
from_input bytes b (r ∷ rs) x v all is =
    first_input bytes b r rs x v (given b rs x) (All-head (IsFrom bytes) r rs all)
    (from_input bytes b rs x v (All-tail (IsFrom bytes) r rs all)) is refl

pub given_is_input : GivenIsInput
given_is_input t c x b d asks tells is =
    let p : TaskDone (Rescue c) t = d.does.asked_for (Rescue c) asks in
    from_input t.before.source.bytes c.options.sector p.did.gain.reads x b (p.agrees.agrees.reads tells).right is
