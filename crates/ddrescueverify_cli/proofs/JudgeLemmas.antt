-- What looks make of a map, position by position.
use Rattle.std.proofs.Common.{◌≡◌, ◌⊎◌, ℕ, zero, suc, ◌+◌, ◌<◌, ◌≤◌, Bool, true, false, ◌&&◌, ◌||◌, nat_le, nat_lt, if◌then◌else◌, List, [], ◌∷◌, length, Some, refl, sym, ◌∙◌, subst, arith}
use Rattle.std.specs.List.{All, slice_get}
use Rattle.std.proofs.lemmas.Bool.Decides.{nat_tests}
use Rattle.std.proofs.lemmas.List.Elements.{All-cons, All-head, All-nil, All-tail}
use Rattle.block_list.specs.declared.status.Status.{Status}
use Rattle.block_list.specs.declared.status.Status.TheVariants.{NonTried, Finished}
use Rattle.block_list.specs.Map.{Has, marked}
use Rattle.block_list.proofs.Places.{length-marked}
use Rattle.rescue_rules.proofs.MarkLemmas.{marked_inside, marked_outside}
use Rattle.ddrescueverify_cli.specs.Asked.{domain_asked}
use Rattle.ddrescueverify_cli.specs.Laws.{AreWithin, JudgedIsByPosition, LooksAreWithin, NothingBecomesFinished}
use Rattle.rescue_domain.specs.Domain.{IsIn}
use Rattle.rescue_domain.specs.Finished.{is_finished, is_finished_at}
use Rattle.rescue_verify.specs.Looks.{Look, differs, reads_of}
use Rattle.rescue_verify.specs.Pieces.{AskForPieces, IsPiece, compared_in}
use Rattle.rescue_verify.specs.Verified.{is_doubted, is_of_position, judged, judged_by}

-- a piece of a look ends within a map
abbrev IsWithin : List Status → Look → Type 0
IsWithin map l = l.read.pos + l.read.asked ≤ length map

is_inside : (pos n x : ℕ) → (nat_le pos x && nat_lt x (pos + n)) ≡ true → (pos ≤ x) × (x < pos + n)
is_inside pos n x e = (grind (arith, nat_tests), grind (arith, nat_tests))

is_outside : (pos n x : ℕ) → (nat_le pos x && nat_lt x (pos + n)) ≡ false → (x < pos) ⊎ (pos + n ≤ x)
is_outside pos n x e = grind (arith, nat_tests)

-- a mark makes of a status this, by whether it has the position
marked_has : (map : List Status) (pos n x : ℕ) (status : Status) (b : Bool) → pos + n ≤ length map
    → (nat_le pos x && nat_lt x (pos + n)) ≡ b → Has map status x
    → Has (marked map pos n NonTried) (if b then NonTried else status) x
marked_has map pos n x status true within is has =
    let at = is_inside pos n x is in marked_inside map pos n NonTried x within at.0 at.1
marked_has map pos n x status false within is has =
    marked_outside map pos n NonTried x within (is_outside pos n x is) ∙ has

judged_has_by : (b : Bool) (map : List Status) (l : Look) (x : ℕ) (status : Status) → IsWithin map l → Has map status x
    → Has (if b then marked map l.read.pos l.read.asked NonTried else map)
    (if (b && is_of_position x l) then NonTried else status) x
judged_has_by true map l x status within has =
    marked_has map l.read.pos l.read.asked x status (is_of_position x l) within refl has
judged_has_by false map l x status within has = has

judged_long_by : (b : Bool) (map : List Status) (l : Look) → IsWithin map l
    → length (if b then marked map l.read.pos l.read.asked NonTried else map) ≡ length map
judged_long_by true map l within = length-marked map l.read.pos l.read.asked NonTried within
judged_long_by false map l within = refl

-- one mark after another
both_marks : (first rest : Bool) (status : Status)
    → (if rest then NonTried else (if first then NonTried else status))
    ≡ (if (first || rest) then NonTried else status)
both_marks true true status = refl
both_marks true false status = refl
both_marks false true status = refl
both_marks false false status = refl

all_within : (map map' : List Status) (looks : List Look) → length map' ≡ length map → AreWithin map looks
    → AreWithin map' looks
all_within map map' looks same within =
    subst (λ (n : ℕ). All (λ (l : Look). l.read.pos + l.read.asked ≤ n) looks) (sym same) within

pub judged_is : JudgedIsByPosition
judged_is map [] within = record { size = refl; each = λ x status has. has }
judged_is map (l ∷ looks) within =
    let first : IsWithin map l = All-head (IsWithin map) l looks within in
    let long : length (judged map l) ≡ length map = judged_long_by (differs l) map l first in
    let rest = judged_is (judged map l) looks
    (all_within map (judged map l) looks long (All-tail (IsWithin map) l looks within)) in
    record {
      size = rest.size ∙ long;
      each = λ x status has.
          subst (λ (s : Status). Has (judged_by (judged map l) looks) s x)
          (both_marks (differs l && is_of_position x l) (is_doubted looks x) status)
          (rest.each x (if (differs l && is_of_position x l) then NonTried else status)
          (judged_has_by (differs l) map l x status first has));
    }

-- ---- the looks of a comparison

-- what is finished is in the map
finished_within : (map : List Status) (x : ℕ) → is_finished (slice_get map x) ≡ true → x < length map
finished_within [] x is = absurd (cc is)
finished_within (s ∷ map) zero is = omega arith
finished_within (s ∷ map) (suc x) is = let rest = finished_within map x is in omega (arith, rest)

and_right : (a b : Bool) → (a && b) ≡ true → b ≡ true
and_right true b is = is
and_right false b is = absurd (cc is)

compared_within : (domain : ℕ → Bool) (map : List Status) (x : ℕ) → IsIn (compared_in domain map) x → x < length map
compared_within domain map x is = finished_within map x (and_right (domain x) (is_finished_at map x) is)

-- a piece ends after a position that is compared
piece_within : (domain : ℕ → Bool) (map : List Status) (sector from pos size : ℕ)
    → IsPiece (compared_in domain map) sector from pos (pos + size) → pos + size ≤ length map
piece_within domain map sector from pos zero piece =
    let here : pos < length map = compared_within domain map pos piece.first.holds in omega (arith, here)
piece_within domain map sector from pos (suc n) piece =
    let last : pos + n < length map =
    compared_within domain map (pos + n) (piece.range.within (pos + n) (omega arith) (omega (arith, piece.ends))) in
    omega (arith, last)

pieces_within : (domain : ℕ → Bool) (map : List Status) (sector from : ℕ) (looks : List Look)
    → AskForPieces (compared_in domain map) sector from (reads_of looks) → AreWithin map looks
pieces_within domain map sector from [] asks = All-nil (IsWithin map)
pieces_within domain map sector from (l ∷ looks) asks =
    All-cons (IsWithin map) l looks (piece_within domain map sector from l.read.pos l.read.asked asks.0)
    (pieces_within domain map sector (l.read.pos + l.read.asked) looks asks.1)

pub looks_within : LooksAreWithin
looks_within c o e d v =
    pieces_within (domain_asked c.options o.end) v.statuses c.options.sector 0 o.looks v.compares.asks

-- ---- what is finished

-- a position of a map has a status
some_status : (map : List Status) (x : ℕ) → x < length map → (status : Status) × Has map status x
some_status [] x h = absurd (omega (arith, h))
some_status (s ∷ map) zero h = (s, refl)
some_status (s ∷ map) (suc x) h = some_status map x (omega (arith, h))

has_within : (map : List Status) (x : ℕ) (s : Status) → Has map s x → x < length map
has_within [] x s has = absurd (cc)
has_within (t ∷ map) zero s has = omega arith
has_within (t ∷ map) (suc x) s has = let rest = has_within map x s has in omega (arith, rest)

finished_by : (doubted : Bool) (status : Status) → (if doubted then NonTried else status) ≡ Finished
    → (status ≡ Finished) × (doubted ≡ false)
finished_by true status e = absurd (cc)
finished_by false status e = (e, refl)

same_status : (map : List Status) (x : ℕ) (s t : Status) → Has map s x → Has map t x → s ≡ t
same_status map x s t has has' = let both : Some s ≡ Some t = sym has ∙ has' in cc

pub nothing_finished : NothingBecomesFinished
nothing_finished map looks x within has =
    let is = judged_is map looks within in
    let there = some_status map x (omega (arith, has_within (judged_by map looks) x Finished has, is.size)) in
    let now = is.each x there.0 there.1 in
    let f = finished_by (is_doubted looks x) there.0
    (same_status (judged_by map looks) x (if is_doubted looks x then NonTried else there.0) Finished now has) in
    (subst (λ (s : Status). Has map s x) f.0 there.1, f.1)
