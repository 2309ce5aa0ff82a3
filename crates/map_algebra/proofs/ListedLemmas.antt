-- The numbers of wanted blocks.
use Rattle.std.proofs.Common.{◌≡◌, ◌⊎◌, ◌↔◌, ℕ, zero, suc, ◌+◌, ◌-◌, ◌/◌, ◌^◌, ◌<◌, ◌≤◌, Bool, true, false, ◌&&◌, nat_eq, nat_le, List, [], ◌∷◌, length, get_or, ap, sym, ◌∙◌, refl, arith, inl, inr, ⊎_elim, subst, le_trans, div-mul-le_self}
use Rattle.std.specs.List.{Contains, filter, range_with_len}
use Rattle.std.specs.List.Sorted.{IsStrictlyIncreasing}
use Rattle.std.proofs.lemmas.Bool.{cases_Bool, and_parts, and_from, eqb-true, eq-eqb, le-leb, both_ways, cond-true, cond-false}
use Rattle.std.proofs.lemmas.Nat.{le-div}
use Rattle.std.proofs.Math.Nat.{div-zero}
use Rattle.std.proofs.lemmas.List.Folds.{Any-from_list_any, list_any-from_Any}
use Rattle.std.proofs.lemmas.List.FromFn.{get_or-range_with_len, length-range_with_len}
use Rattle.std.proofs.lemmas.List.Kept.{IsStrictlyIncreasing-filter}
use Rattle.block_list.specs.declared.status.Status.{Status}
use Rattle.map_algebra.specs.declared.shape.Shape.{Shape}
use Rattle.block_list.specs.Types.{has_type}
use Rattle.map_counts.specs.At.{status_at}
use Rattle.map_algebra.specs.Blocks.{block_of}
use Rattle.block_list.specs.Places.{IsFirst}
use Rattle.rescue_domain.specs.Domain.{IsIn}
use Rattle.rescue_domain.specs.Places.{AreAllPlaced, place_from}
use Rattle.map_algebra.specs.Listing.{IsListed, ListingState, Wanted, is_typed, has_wanted_type, is_listed, wanted_of}
use Rattle.map_algebra.specs.BlockLaws.{ListedAre, StandsInOne}

contains_first : {X : Type 0} (y : X) (xs : List X) → Contains (y ∷ xs) y
contains_first y xs = (0, omega arith, refl)

contains_later : {X : Type 0} (y : X) (xs : List X) (x : X) → Contains xs x → Contains (y ∷ xs) x
contains_later y xs x c = (suc c.0, omega (arith, c.1), c.2)

contains_at : {X : Type 0} (y : X) (xs : List X) (x : X) (k : ℕ) → k < length (y ∷ xs) → get_or (y ∷ xs) k x ≡ x
    → (y ≡ x) ⊎ Contains xs x
contains_at y xs x zero l e = inl e
contains_at y xs x (suc k) l e = inr (k, omega (arith, l), e)

contains_cases : {X : Type 0} (y : X) (xs : List X) (x : X) → Contains (y ∷ xs) x → (y ≡ x) ⊎ Contains xs x
contains_cases y xs x c = contains_at y xs x c.0 c.1 c.2

contains_none : {X : Type 0} (x : X) → Contains [] x → ⊥
contains_none x c = omega (arith, c.1)

-- what a filter keeps
contains_kept : {X : Type 0} (p : X → Bool) (xs : List X) (x : X) → Contains xs x → p x ≡ true
    → Contains (filter p xs) x
contains_kept p [] x c h = c
contains_kept p (y ∷ xs) x c h =
    ⊎_elim
    (λ (t : p y ≡ true). subst (λ zs. Contains zs x)
    (sym (cond-true (p y) (y ∷ filter p xs) (filter p xs) t))
    (⊎_elim (λ (e : y ≡ x). subst (Contains (y ∷ filter p xs)) e (contains_first y (filter p xs)))
    (λ c. contains_later y (filter p xs) x (contains_kept p xs x c h))
    (contains_cases y xs x c)))
    (λ (f : p y ≡ false). subst (λ zs. Contains zs x)
    (sym (cond-false (p y) (y ∷ filter p xs) (filter p xs) f))
    (⊎_elim (λ (e : y ≡ x). absurd (both_ways (p y) f (ap p e ∙ h)))
    (λ c. contains_kept p xs x c h)
    (contains_cases y xs x c)))
    (cases_Bool (p y))

contains_passes : {X : Type 0} (p : X → Bool) (xs : List X) (x : X) → Contains (filter p xs) x → p x ≡ true
contains_passes p [] x c = absurd (contains_none x c)
contains_passes p (y ∷ xs) x c =
    ⊎_elim
    (λ (t : p y ≡ true).
    let d = subst (λ zs. Contains zs x) (cond-true (p y) (y ∷ filter p xs) (filter p xs) t) c in
    ⊎_elim (λ (e : y ≡ x). ap p (sym e) ∙ t) (λ d. contains_passes p xs x d) (contains_cases y (filter p xs) x d))
    (λ (f : p y ≡ false).
    contains_passes p xs x
    (subst (λ zs. Contains zs x) (cond-false (p y) (y ∷ filter p xs) (filter p xs) f) c))
    (cases_Bool (p y))

range_contains : (n k : ℕ) → k < n → Contains (range_with_len 0 n) k
range_contains n k h =
    (k, omega (arith, h, length-range_with_len 0 n), omega (arith, get_or-range_with_len 0 n k k h))

range_increases : (n : ℕ) → IsStrictlyIncreasing (range_with_len 0 n)
range_increases n k h =
    let l : k + 1 < n = omega (arith, h, length-range_with_len 0 n) in
    omega (arith, get_or-range_with_len 0 n k 0 (omega (arith, l)), get_or-range_with_len 0 n (k + 1) 0 l)

div_mono : (a b c : ℕ) → a ≤ b → a / c ≤ b / c
div_mono a b zero h = omega (arith, div-zero a, div-zero b)
div_mono a b (suc c) h = le-div (a / suc c) b (suc c) (omega arith) (le_trans (div-mul-le_self a (suc c)) h)

pub block_mono : (s : Shape) (x y : ℕ) → x ≤ y → block_of s x ≤ block_of s y
block_mono s x y h = div_mono (x - s.ipos + s.opos) (y - s.ipos + s.opos) s.size (omega (arith, h))

abbrev pub stands : Wanted → ℕ → ℕ → Bool
stands w k x = has_wanted_type w x && nat_eq (block_of w.shape x) k

abbrev pub IsOne : Wanted → ℕ → Type 0
IsOne w k = (x : ℕ) × (x < length w.statuses) × (has_wanted_type w x ≡ true) × (block_of w.shape x ≡ k)

pub one_from : (w : Wanted) (k : ℕ) → is_listed w k ≡ true → IsOne w k
one_from w k h =
    let n = length w.statuses in
    let a = Any-from_list_any (stands w k) (range_with_len 0 n) h in
    let p = and_parts (has_wanted_type w a.1) (nat_eq (block_of w.shape a.1) k) a.4 in
    let l : a.0 < n = omega (arith, a.2, length-range_with_len 0 n) in
    (a.1, omega (arith, l, a.3, get_or-range_with_len 0 n a.0 a.1 l), p.0, eqb-true (block_of w.shape a.1) k p.1)

pub listed_from : (w : Wanted) (k : ℕ) → IsOne w k → is_listed w k ≡ true
listed_from w k o =
    let n = length w.statuses in
    let c = range_contains n o.0 o.1 in
    list_any-from_Any (stands w k) (range_with_len 0 n) (
      c.0,
      o.0,
      c.1,
      c.2,
      and_from (has_wanted_type w o.0) (nat_eq (block_of w.shape o.0) k) o.2
          (eq-eqb (block_of w.shape o.0) k o.3),
    )

pub listed_are : ListedAre
listed_are w =
    let n = block_of w.shape (length w.statuses) + 1 in (
      IsStrictlyIncreasing-filter (is_listed w) (range_with_len 0 n) (range_increases n),
      λ k. (
        λ c. one_from w k (contains_passes (is_listed w) (range_with_len 0 n) k c),
        λ o. contains_kept (is_listed w) (range_with_len 0 n) k
            (range_contains n k (omega (arith, o.3, block_mono w.shape o.0 (length w.statuses) (omega (arith, o.1)))))
            (listed_from w k o),
      ),
    )

pub stands_in_one : StandsInOne
stands_in_one s k x h = (
  λ t. sym (eqb-true (block_of s x) k (and_parts (nat_le s.ipos x) (nat_eq (block_of s x) k) t).1),
  λ e. and_from (nat_le s.ipos x) (nat_eq (block_of s x) k) (le-leb s.ipos x h) (eq-eqb (block_of s x) k (sym e)),
)

-- from one place on stand the positions of the blocks from a number on
abbrev pub Begins : Shape → (least from : ℕ) → Type 0
Begins s least from = (x : ℕ) → x < 2 ^ 63 → s.ipos ≤ x → place_from s.ipos s.opos x < 2 ^ 63
    → (least ≤ block_of s x) ↔ (from ≤ x)

-- each position of a domain stands in a block
abbrev pub Stand : Shape → (domain : ℕ → Bool) → Type 0
Stand s domain = ((x : ℕ) → domain x ≡ true → s.ipos ≤ x) × AreAllPlaced domain s.ipos s.opos

-- a wanted position of a block from a number on is at that place or past it
stands_after : (w : Wanted) (least from x : ℕ) → length w.statuses < 2 ^ 63 → Stand w.shape w.domain
    → Begins w.shape least from → x < length w.statuses → has_wanted_type w x ≡ true
    → (least ≤ block_of w.shape x) ↔ (from ≤ x)
stands_after w least from x short stand begins l h =
    let d = (and_parts (w.domain x) (has_type w.types (status_at w.statuses x)) h).0 in
    begins x (omega (arith, l, short)) (stand.0 x d) (omega (arith, stand.1 x d))

-- the block of the first wanted position from there on is the first that is listed
first_listed : (w : Wanted) (least from found : ℕ) → length w.statuses < 2 ^ 63 → Stand w.shape w.domain
    → Begins w.shape least from → found < length w.statuses
    → IsFirst (IsIn (is_typed w.types w.domain w.statuses)) from found
    → IsFirst (IsListed w) least (block_of w.shape found)
first_listed w least from found short stand begins l f = record {
  after = (stands_after w least from found short stand begins l f.holds).1 f.after;
  holds = listed_from w (block_of w.shape found) (found, l, f.holds, refl);
  least = λ k a h.
      let o = one_from w k h in
      let b : least ≤ block_of w.shape o.0 = omega (arith, a, o.3) in
      let past : from ≤ o.0 = (stands_after w least from o.0 short stand begins o.1 o.2).0 b in
      omega (arith, o.3, block_mono w.shape found o.0 (f.least o.0 past o.2));
}

none_listed : (w : Wanted) (least from : ℕ) → length w.statuses < 2 ^ 63 → Stand w.shape w.domain
    → Begins w.shape least from
    → ((x : ℕ) → from ≤ x → x < length w.statuses → IsIn (is_typed w.types w.domain w.statuses) x → ⊥)
    → (k : ℕ) → least ≤ k → IsListed w k → ⊥
none_listed w least from short stand begins none k a h =
    let o = one_from w k h in
    let b : least ≤ block_of w.shape o.0 = omega (arith, a, o.3) in
    none o.0 ((stands_after w least from o.0 short stand begins o.1 o.2).0 b) o.1 o.2

-- the same of a listing, seen from inside and from outside
pub next_listed : (t s : ListingState) (domain : ℕ → Bool) (statuses : List Status) (from found : ℕ) → t ≡ s
    → length statuses < 2 ^ 63 → Stand s.shape domain → Begins t.shape t.least from → found < length statuses
    → IsFirst (IsIn (is_typed t.types domain statuses)) from found
    → IsFirst (IsListed (wanted_of s domain statuses)) s.least (block_of t.shape found)
next_listed t s domain statuses from found e short stand begins l f =
    let P : ListingState → Type 0 = λ v. Stand v.shape domain
    → IsFirst (IsListed (wanted_of v domain statuses)) v.least (block_of t.shape found) in
    subst P e (λ stand. first_listed (wanted_of t domain statuses) t.least from found short stand begins l f) stand

pub no_more_listed : (t s : ListingState) (domain : ℕ → Bool) (statuses : List Status) (from : ℕ) → t ≡ s
    → length statuses < 2 ^ 63 → Stand s.shape domain → Begins t.shape t.least from
    → ((x : ℕ) → from ≤ x → x < length statuses → IsIn (is_typed t.types domain statuses) x → ⊥)
    → (k : ℕ) → s.least ≤ k → IsListed (wanted_of s domain statuses) k → ⊥
no_more_listed t s domain statuses from e short stand begins none =
    let P : ListingState → Type 0 = λ v. Stand v.shape domain
    → (k : ℕ) → v.least ≤ k → IsListed (wanted_of v domain statuses) k → ⊥ in
    subst P e (λ stand. none_listed (wanted_of t domain statuses) t.least from short stand begins none) stand
