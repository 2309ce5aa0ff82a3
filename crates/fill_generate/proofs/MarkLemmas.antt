-- What is marked of a piece that was looked up.
use Rattle.std.proofs.Common.{◌≡◌, ◌⊎◌, ℕ, zero, suc, ◌+◌, ◌-◌, ◌*◌, ◌/◌, ◌<◌, ◌≤◌, min, max, Bool, true, false, ◌&&◌, ◌||◌, nat_le, nat_lt, List, [], ◌∷◌, drop, length, Option, Some, None, refl, sym, ap, subst, ◌∙◌, arith, inl, inr, ⊎_elim}
use Rattle.std.specs.List.{slice_get, slice_range, list_any, range_with_len}
use Rattle.std.proofs.lemmas.Bool.{cases_lt, and_from, and_parts, true≢false, lt-ltb, le-leb, ltb-true, leb-true}
use Rattle.std.proofs.Math.Nat.{lt-div-mul-add, div-mul-le_self, suc-mul}
use Rattle.std.proofs.lemmas.Nat.{div_below, le-div}
use Rattle.std.proofs.lemmas.List.{length-take}
use Rattle.std.proofs.lemmas.Option.{slice_get_within, same_Some}
use Rattle.block_list.specs.declared.status.Status.{Status}
use Rattle.block_list.specs.declared.status.Status.TheVariants.{Finished}
use Rattle.block_list.specs.Map.{marked}
use Rattle.block_list.proofs.Places.{length-marked}
use Rattle.block_list.proofs.HeldLemmas.{slice_get-drop}
use Rattle.faulty_source.specs.Journal.{floor}
use Rattle.rescue_rules.specs.Setting.{Setting}
use Rattle.rescue_rules.specs.Preparation.{if_asked, changed_from}
use Rattle.rescue_rules.proofs.MarkLemmas.{marked_inside, marked_outside, slice_get-take}
use Rattle.rescue_rules.proofs.PreparationLemmas.{length_changed}
use Rattle.rescue_rules.proofs.SearchLemmas.{true_or_false}
use Rattle.map_preparation.proofs.PrepareLemmas.{changed_is}
use Rattle.sweep_rules.specs.Sweep.{Swept, is_not_zero, is_there, part_of, is_generated}
use Rattle.fill_generate.specs.Marking.{is_byte, finished_at, finished_between, piece_at}

-- two tests that pass together are one
alike_from : (a b : Bool) → (a ≡ true → b ≡ true) → (b ≡ true → a ≡ true) → a ≡ b
alike_from true b there back = sym (there refl)
alike_from false true there back = back refl
alike_from false false there back = refl

-- a change by position, by tests that are alike
changed_alike : (P Q : ℕ → Bool) (change : Status → Status) (at : ℕ) (map : List Status) → ((x : ℕ) → P x ≡ Q x)
    → changed_from P change at map ≡ changed_from Q change at map
changed_alike P Q change at [] alike = refl
changed_alike P Q change at (status ∷ map) alike =
    let first : if_asked (P at) change status ≡ if_asked (Q at) change status = ap (λ (b : Bool). if_asked b change status) (alike at) in
    let rest : changed_from P change (at + 1) map ≡ changed_from Q change (at + 1) map = changed_alike P Q change (at + 1) map alike in
    cc

changed_none : (P : ℕ → Bool) (change : Status → Status) (at : ℕ) (map : List Status) → ((x : ℕ) → P x ≡ false)
    → changed_from P change at map ≡ map
changed_none P change at [] none = refl
changed_none P change at (status ∷ map) none =
    let first : if_asked (P at) change status ≡ status = ap (λ (b : Bool). if_asked b change status) (none at) in
    let rest : changed_from P change (at + 1) map ≡ map = changed_none P change (at + 1) map none in
    cc

abbrev finish : Status → Status
finish status = Finished

finished_twice : (a b : Bool) (status : Status) → if_asked b finish (if_asked a finish status) ≡ if_asked (a || b) finish status
finished_twice true true status = refl
finished_twice true false status = refl
finished_twice false b status = refl

joined_from : (P Q : ℕ → Bool) (at : ℕ) (map : List Status)
    → changed_from Q finish at (changed_from P finish at map) ≡ changed_from (λ x. P x || Q x) finish at map
joined_from P Q at [] = refl
joined_from P Q at (status ∷ map) =
    let first : if_asked (Q at) finish (if_asked (P at) finish status) ≡ if_asked (P at || Q at) finish status =
    finished_twice (P at) (Q at) status in
    let rest : changed_from Q finish (at + 1) (changed_from P finish (at + 1) map) ≡ changed_from (λ x. P x || Q x) finish (at + 1) map =
    joined_from P Q (at + 1) map in
    cc

-- what is finished by two tests one after the other
pub finished_join : (P Q R : ℕ → Bool) (map : List Status) → ((x : ℕ) → (P x || Q x) ≡ R x)
    → finished_at Q (finished_at P map) ≡ finished_at R map
finished_join P Q R map alike = joined_from P Q 0 map ∙ changed_alike (λ x. P x || Q x) R finish 0 map alike

pub length_finished : (P : ℕ → Bool) (map : List Status) → length (finished_at P map) ≡ length map
length_finished P map = length_changed P finish 0 map

-- positions from one up to another
abbrev pub is_between : (from to x : ℕ) → Bool
is_between from to x = nat_le from x && nat_lt x to

between_from : (from to x : ℕ) → from ≤ x → x < to → is_between from to x ≡ true
between_from from to x low high = and_from (nat_le from x) (nat_lt x to) (le-leb from x low) (lt-ltb x to high)

between_parts : (from to x : ℕ) → is_between from to x ≡ true → (from ≤ x) × (x < to)
between_parts from to x is =
    let both = and_parts (nat_le from x) (nat_lt x to) is in (leb-true from x both.0, ltb-true x to both.1)

-- a mark is what is finished between its ends
asked_on : (b : Bool) (status : Status) → b ≡ true → if_asked b finish status ≡ Finished
asked_on b status is = ap (λ (c : Bool). if_asked c finish status) is

asked_off : (b : Bool) (status : Status) → (b ≡ true → ⊥) → if_asked b finish status ≡ status
asked_off true status off = absurd (off refl)
asked_off false status off = refl

pub marked_is : (map : List Status) (from to : ℕ) → from ≤ to → to ≤ length map
    → marked map from (to - from) Finished ≡ finished_between from to map
marked_is map from to order within =
    let there : from + (to - from) ≤ length map = omega (arith, order, within) in
    changed_is (is_between from to) finish map (marked map from (to - from) Finished) (record {
      size = length-marked map from (to - from) Finished there;
      each = λ x status has.
          ⊎_elim
          (λ (on : is_between from to x ≡ true).
          let ends : (from ≤ x) × (x < to) = between_parts from to x on in
          marked_inside map from (to - from) Finished x there ends.0 (omega (arith, order, ends.0, ends.1))
          ∙ ap (λ (t : Status). Some t) (sym (asked_on (is_between from to x) status on)))
          (λ (off : is_between from to x ≡ false).
          let out : (is_between from to x ≡ true) → ⊥ = λ on. true≢false (sym on ∙ off) in
          let apart : (x < from) ⊎ (from + (to - from) ≤ x) =
          ⊎_elim (λ (lt : x < from). inl lt)
          (λ (low : from ≤ x). ⊎_elim (λ (high : x < to). absurd (out (between_from from to x low high)))
          (λ (far : to ≤ x). inr (omega (arith, order, far))) (cases_lt x to))
          (cases_lt x from) in
          marked_outside map from (to - from) Finished x there apart ∙ has
          ∙ ap (λ (t : Status). Some t) (sym (asked_off (is_between from to x) status out)))
          (true_or_false (is_between from to x));
    })

pub nothing_between : (map : List Status) (from to : ℕ) → to ≤ from → finished_between from to map ≡ map
nothing_between map from to order =
    changed_none (is_between from to) finish 0 map
    (λ x. ⊎_elim (λ (on : is_between from to x ≡ true). let ends = between_parts from to x on in absurd (omega (arith, order, ends.0, ends.1)))
    (λ (off : is_between from to x ≡ false). off) (true_or_false (is_between from to x)))

or_right : (a b : Bool) → b ≡ true → (a || b) ≡ true
or_right true b on = refl
or_right false b on = on

or_left : (a b : Bool) → a ≡ true → (a || b) ≡ true
or_left true b on = refl
or_left false b on = absurd (true≢false (sym on))

or_parts : (a b : Bool) → (a || b) ≡ true → (a ≡ true) ⊎ (b ≡ true)
or_parts true b is = inl refl
or_parts false b is = inr is

-- Tests of lists.
pub any_by : {A : Type 0} (p : A → Bool) (xs : List A) (i : ℕ) (x : A) → slice_get xs i ≡ Some x → p x ≡ true → list_any p xs ≡ true
any_by p [] i x is on = absurd (cc)
any_by p (y ∷ xs) zero x is on = let same : y ≡ x = same_Some y x is in rw (same, on) refl
any_by p (y ∷ xs) (suc i) x is on = or_right (p y) (list_any p xs) (any_by p xs i x is on)

pub record AnyAt {A : Type 0} (p : A → Bool) (xs : List A) : Type 0 where
  pub place : ℕ
  pub item : A
  pub has : slice_get xs place ≡ Some item
  pub on : p item ≡ true

pub any_at : {A : Type 0} (p : A → Bool) (xs : List A) → list_any p xs ≡ true → AnyAt p xs
any_at p [] is = absurd (true≢false (sym is))
any_at p (x ∷ xs) is =
    ⊎_elim (λ (on : p x ≡ true). record { place = 0; item = x; has = refl; on = on })
    (λ (off : p x ≡ false).
    let a : AnyAt p xs = any_at p xs (subst (λ (b : Bool). (b || list_any p xs) ≡ true) off is) in
    record { place = suc a.place; item = a.item; has = a.has; on = a.on })
    (true_or_false (p x))

pub range_at : (a n i : ℕ) → i < n → slice_get (range_with_len a n) i ≡ Some (a + i)
range_at a zero i lt = absurd (omega (arith, lt))
range_at a (suc n) zero lt = let e : a ≡ a + 0 = omega arith in ap (λ (k : ℕ). Some k) e
range_at a (suc n) (suc i) lt = let e : a + 1 + i ≡ a + suc i = omega arith in range_at (a + 1) n i (omega (arith, lt)) ∙ ap (λ (k : ℕ). Some k) e

pub range_length : (a n : ℕ) → length (range_with_len a n) ≡ n
range_length a zero = refl
range_length a (suc n) = let e = range_length (a + 1) n in omega (arith, e)

-- What is marked of a piece, by the sector alone.
abbrev pub is_held : (sector : ℕ) → Swept → ℕ → Bool
is_held sector e x =
    nat_le e.pos x && nat_lt x (e.pos + length e.got) && list_any (is_there e) (part_of sector e x)

pub held_is : (s : Setting) (sector : ℕ) (e : Swept) (x : ℕ) → s.sector ≡ sector → is_held sector e x ≡ is_generated s e x
held_is s sector e x same = ap (λ (k : ℕ). is_held k e x) (sym same)

record Held (sector : ℕ) (e : Swept) (x : ℕ) : Type 0 where
  low : e.pos ≤ x
  high : x < e.pos + length e.got
  some : list_any (is_there e) (part_of sector e x) ≡ true

held_parts : (sector : ℕ) (e : Swept) (x : ℕ) → is_held sector e x ≡ true → Held sector e x
held_parts sector e x is =
    let a = and_parts (nat_le e.pos x && nat_lt x (e.pos + length e.got)) (list_any (is_there e) (part_of sector e x)) is in
    let b = and_parts (nat_le e.pos x) (nat_lt x (e.pos + length e.got)) a.0 in
    record { low = leb-true e.pos x b.0; high = ltb-true x (e.pos + length e.got) b.1; some = a.1 }

held_by : (sector : ℕ) (e : Swept) (x : ℕ) → Held sector e x → is_held sector e x ≡ true
held_by sector e x h =
    and_from (nat_le e.pos x && nat_lt x (e.pos + length e.got)) (list_any (is_there e) (part_of sector e x))
    (and_from (nat_le e.pos x) (nat_lt x (e.pos + length e.got)) (le-leb e.pos x h.low)
    (lt-ltb x (e.pos + length e.got) h.high))
    h.some

-- Parts of a piece: from a position up to the next multiple of the sector, or the end of what was given.
quotient_is : (x k q : ℕ) → 0 < k → q * k ≤ x → x < (q + 1) * k → x / k ≡ q
quotient_is x k q some low high =
    let a : x / k < q + 1 = div_below x k (q + 1) some high in
    let b : q ≤ x / k = le-div q x k some low in
    omega arith

pub quotients_ascend : (x y k : ℕ) → 0 < k → x ≤ y → x / k ≤ y / k
quotients_ascend x y k some le =
    let low : x / k * k ≤ x = div-mul-le_self x k in
    le-div (x / k) y k some (omega (arith, low, le))

next_times : (q k : ℕ) → (q + 1) * k ≡ q * k + k
next_times q k = let more : q + 1 ≡ suc q = omega arith in ap (λ (n : ℕ). n * k) more ∙ suc-mul q k

-- a part that begins where it is cut, and ends before the next cut
pub record IsPart (sector pos end at to : ℕ) : Type 0 where
  pub some : 0 < sector
  pub cut : max pos (floor sector at) ≡ at
  pub begun : at < end
  pub ends : to ≡ min end (floor sector at + sector)

pub part_on : (sector pos end at to : ℕ) → IsPart sector pos end at to → (at < to) × (to ≤ end)
part_on sector pos end at to p =
    let next : at < at / sector * sector + sector = lt-div-mul-add {a = at} {b = sector} p.some in
    (omega (arith, p.begun, p.ends, next), omega (arith, p.ends))

-- each position of a part is cut where it begins,
part_floor : (sector pos end at to x : ℕ) → IsPart sector pos end at to → at ≤ x → x < to → x / sector ≡ at / sector
part_floor sector pos end at to x p low high =
    let from : at / sector * sector ≤ at = div-mul-le_self at sector in
    let next : (at / sector + 1) * sector ≡ at / sector * sector + sector = next_times (at / sector) sector in
    quotient_is x sector (at / sector) p.some (omega (arith, from, low)) (omega (arith, next, high, p.ends))

-- and where it ends before the end of what was given the next part begins
pub part_next : (sector pos end at to : ℕ) → IsPart sector pos end at to → pos ≤ at → to < end
    → (to / sector ≡ at / sector + 1) × (max pos (floor sector to) ≡ to)
part_next sector pos end at to p after more =
    let q : ℕ = at / sector in
    let next : (q + 1) * sector ≡ q * sector + sector = next_times q sector in
    let later : (q + 1 + 1) * sector ≡ (q + 1) * sector + sector = next_times (q + 1) sector in
    let here : to ≡ (q + 1) * sector = omega (arith, next, p.ends, more) in
    let is : to / sector ≡ q + 1 = quotient_is to sector (q + 1) p.some (omega (arith, here)) (omega (arith, here, later, p.some)) in
    let cut : to / sector * sector ≡ to = rw is (sym here) in
    let on : at < to = (part_on sector pos end at to p).0 in
    (is, omega (arith, cut, on, after))

-- A part has a byte other than zero where one of its positions is held: then all are.
pub record Part (sector pos len : ℕ) (bytes : List ℕ) (at to : ℕ) : Type 0 where
  pub is : IsPart sector pos (pos + length bytes) at to
  pub low : pos ≤ at
  pub few : length bytes ≤ len

abbrev pub bytes_in : (pos : ℕ) → List ℕ → (at to : ℕ) → List ℕ
bytes_in pos bytes at to = slice_range bytes (at - pos) (to - pos)

-- the part of a position is that part, perhaps with positions past what was given
part_begins : (sector pos len : ℕ) (bytes : List ℕ) (at to x : ℕ) → Part sector pos len bytes at to → at ≤ x → x < to
    → max pos (floor sector x) ≡ at
part_begins sector pos len bytes at to x p low high =
    ap (λ (q : ℕ). max pos (q * sector)) (part_floor sector pos (pos + length bytes) at to x p.is low high) ∙ p.is.cut

part_stops : (sector pos len : ℕ) (bytes : List ℕ) (at to x : ℕ) → Part sector pos len bytes at to → at ≤ x → x < to
    → min (pos + len) (floor sector x + sector) ≡ min (pos + len) (floor sector at + sector)
part_stops sector pos len bytes at to x p low high =
    ap (λ (q : ℕ). min (pos + len) (q * sector + sector)) (part_floor sector pos (pos + length bytes) at to x p.is low high)

is_some_byte : (o : Option ℕ) → is_not_zero o ≡ true → (b : ℕ) × (o ≡ Some b) × (is_byte b ≡ true)
is_some_byte None is = absurd (true≢false (sym is))
is_some_byte (Some b) is = (b, refl, is)

slice_at : (bytes : List ℕ) (i j k : ℕ) → k < j - i → slice_get (slice_range bytes i j) k ≡ slice_get bytes (i + k)
slice_at bytes i j k lt = slice_get-take (j - i) (drop i bytes) k lt ∙ slice_get-drop i bytes k

-- a byte of the part is one that is there
pub byte_holds : (sector pos len : ℕ) (bytes : List ℕ) (at to x : ℕ) → Part sector pos len bytes at to → at ≤ x → x < to
    → list_any is_byte (bytes_in pos bytes at to) ≡ true → is_held sector (piece_at pos len bytes) x ≡ true
byte_holds sector pos len bytes at to x p low high any =
    let e : Swept = piece_at pos len bytes in
    let a : AnyAt is_byte (bytes_in pos bytes at to) = any_at is_byte (bytes_in pos bytes at to) any in
    let on : (at < to) × (to ≤ pos + length bytes) = part_on sector pos (pos + length bytes) at to p.is in
    let i : ℕ = a.place in
    let size : length (bytes_in pos bytes at to) ≡ min (to - pos - (at - pos)) (length (drop (at - pos) bytes)) =
    length-take (to - pos - (at - pos)) (drop (at - pos) bytes) in
    let within : i < length (bytes_in pos bytes at to) = slice_get_within (bytes_in pos bytes at to) i a.item a.has in
    let few : i < to - pos - (at - pos) = omega (arith, size, within) in
    let there : slice_get bytes (at - pos + i) ≡ Some a.item = sym (slice_at bytes (at - pos) (to - pos) i few) ∙ a.has in
    let place : at + i - pos ≡ at - pos + i = omega (arith, p.low) in
    let holds : is_there e (at + i) ≡ true = ap is_not_zero (ap (slice_get bytes) place ∙ there) ∙ a.on in
    let n : ℕ = min (pos + len) (floor sector at + sector) - at in
    let inside : i < n = omega (arith, few, on.0, on.1, p.low, p.is.ends, p.few) in
    let seen : list_any (is_there e) (range_with_len at n) ≡ true =
    any_by (is_there e) (range_with_len at n) i (at + i) (range_at at n i inside) holds in
    held_by sector e x (record {
      low = omega (arith, p.low, low);
      high = omega (arith, high, on.1);
      some = rw (part_begins sector pos len bytes at to x p low high, part_stops sector pos len bytes at to x p low high) seen;
    })

-- and where a position is held there is such a byte
pub held_has : (sector pos len : ℕ) (bytes : List ℕ) (at to x : ℕ) → Part sector pos len bytes at to → at ≤ x → x < to
    → is_held sector (piece_at pos len bytes) x ≡ true → list_any is_byte (bytes_in pos bytes at to) ≡ true
held_has sector pos len bytes at to x p low high is =
    let e : Swept = piece_at pos len bytes in
    let h : Held sector e x = held_parts sector e x is in
    let n : ℕ = min (pos + len) (floor sector at + sector) - at in
    let any : list_any (is_there e) (range_with_len at n) ≡ true =
    rw (part_begins sector pos len bytes at to x p low high, part_stops sector pos len bytes at to x p low high) at h.some in
    let a : AnyAt (is_there e) (range_with_len at n) = any_at (is_there e) (range_with_len at n) any in
    let inside : a.place < n = omega (arith, slice_get_within (range_with_len at n) a.place a.item a.has, range_length at n) in
    let y : a.item ≡ at + a.place = same_Some a.item (at + a.place) (sym a.has ∙ range_at at n a.place inside) in
    let byte : (b : ℕ) × (slice_get bytes (a.item - pos) ≡ Some b) × (is_byte b ≡ true) = is_some_byte (slice_get bytes (a.item - pos)) a.on in
    let place : a.item - pos ≡ at - pos + a.place = omega (arith, y, p.low) in
    let there : slice_get bytes (at - pos + a.place) ≡ Some byte.0 = ap (slice_get bytes) (sym place) ∙ byte.1 in
    let given : at - pos + a.place < length bytes = slice_get_within bytes (at - pos + a.place) byte.0 there in
    let few : a.place < to - pos - (at - pos) = omega (arith, given, inside, p.low, p.is.ends, p.is.begun) in
    any_by is_byte (bytes_in pos bytes at to) a.place byte.0 (slice_at bytes (at - pos) (to - pos) a.place few ∙ there) byte.2

-- Marking part by part: what lies before `from` is marked, what lies between `from` and `at` is held and isn't marked yet.
pub record Marking (sector pos : ℕ) (bytes : List ℕ) (old map : List Status) (spare from at : ℕ) : Type 0 where
  pub low : pos ≤ from
  pub mid : from ≤ at
  pub high : at ≤ pos + length bytes
  pub cut : at < pos + length bytes → max pos (floor sector at) ≡ at
  pub held : (len x : ℕ) → length bytes ≤ len → from ≤ x → x < at → is_held sector (piece_at pos len bytes) x ≡ true
  pub marks : (len : ℕ) → length bytes ≤ len
      → map ≡ finished_at (λ x. is_held sector (piece_at pos len bytes) x && nat_lt x from) old
  pub room : at < pos + length bytes → 2 * ((pos + length bytes) / sector - at / sector) + 4 ≤ spare
  pub left : 2 ≤ spare
  pub size : length map ≡ length old

-- of what lies before a position
before_parts : (sector : ℕ) (e : Swept) (from x : ℕ) → (is_held sector e x && nat_lt x from) ≡ true
    → (is_held sector e x ≡ true) × (x < from)
before_parts sector e from x is =
    let both = and_parts (is_held sector e x) (nat_lt x from) is in (both.0, ltb-true x from both.1)

before_by : (sector : ℕ) (e : Swept) (from x : ℕ) → is_held sector e x ≡ true → x < from
    → (is_held sector e x && nat_lt x from) ≡ true
before_by sector e from x is lt = and_from (is_held sector e x) (nat_lt x from) is (lt-ltb x from lt)

off_by : (b : Bool) → (b ≡ true → ⊥) → b ≡ false
off_by true off = absurd (off refl)
off_by false off = refl

pub marking_begins : (sector pos : ℕ) (bytes : List ℕ) (map : List Status) (spare : ℕ)
    → 2 * ((pos + length bytes) / sector - pos / sector) + 4 ≤ spare → Marking sector pos bytes map map spare pos pos
marking_begins sector pos bytes map spare room = record {
  low = omega arith;
  mid = omega arith;
  high = omega arith;
  cut = λ begun. let le = div-mul-le_self pos sector in omega (arith, le);
  held = λ len x few low high. absurd (omega (arith, low, high));
  marks = λ len few. sym (changed_none (λ x. is_held sector (piece_at pos len bytes) x && nat_lt x pos) finish 0 map
      (λ x. off_by (is_held sector (piece_at pos len bytes) x && nat_lt x pos)
      (λ on. let both = before_parts sector (piece_at pos len bytes) pos x on in
      omega (arith, (held_parts sector (piece_at pos len bytes) x both.0).low, both.1))));
  room = λ begun. room;
  left = omega (arith, room);
  size = refl;
}

part_of_marking : (sector pos len : ℕ) (bytes : List ℕ) (old map : List Status) (spare from at to : ℕ) → 0 < sector
    → Marking sector pos bytes old map spare from at → at < pos + length bytes
    → to ≡ min (pos + length bytes) (floor sector at + sector) → length bytes ≤ len → Part sector pos len bytes at to
part_of_marking sector pos len bytes old map spare from at to some m begun ends few = record {
  is = record { some = some; cut = m.cut begun; begun = begun; ends = ends };
  low = omega (arith, m.low, m.mid);
  few = few;
}

-- a part that is held is marked later,
pub marking_holds : (sector pos : ℕ) (bytes : List ℕ) (old map : List Status) (spare from at to : ℕ) → 0 < sector
    → Marking sector pos bytes old map spare from at → at < pos + length bytes
    → to ≡ min (pos + length bytes) (floor sector at + sector) → list_any is_byte (bytes_in pos bytes at to) ≡ true
    → Marking sector pos bytes old map spare from to
marking_holds sector pos bytes old map spare from at to some m begun ends any =
    let own : Part sector pos (length bytes) bytes at to =
    part_of_marking sector pos (length bytes) bytes old map spare from at to some m begun ends (omega arith) in
    let on : (at < to) × (to ≤ pos + length bytes) = part_on sector pos (pos + length bytes) at to own.is in
    record {
      low = m.low;
      mid = omega (arith, m.mid, on.0);
      high = on.1;
      cut = λ more. (part_next sector pos (pos + length bytes) at to own.is own.low more).1;
      held = λ len x few low high.
          ⊎_elim (λ (lt : x < at). m.held len x few low lt)
          (λ (ge : at ≤ x). byte_holds sector pos len bytes at to x
          (part_of_marking sector pos len bytes old map spare from at to some m begun ends few) ge high any)
          (cases_lt x at);
      marks = m.marks;
      room = λ more. let next = (part_next sector pos (pos + length bytes) at to own.is own.low more).0 in
          omega (arith, next, m.room begun);
      left = m.left;
      size = m.size;
    }

-- and at one that isn't held what was held before it is marked.
pub marking_marks : (sector pos : ℕ) (bytes : List ℕ) (old map map' : List Status) (spare spare' from at to : ℕ) → 0 < sector
    → Marking sector pos bytes old map spare from at → at < pos + length bytes
    → to ≡ min (pos + length bytes) (floor sector at + sector) → list_any is_byte (bytes_in pos bytes at to) ≡ false
    → map' ≡ finished_between from at map → spare ≤ spare' + 2 → Marking sector pos bytes old map' spare' to to
marking_marks sector pos bytes old map map' spare spare' from at to some m begun ends none is costs =
    let own : Part sector pos (length bytes) bytes at to =
    part_of_marking sector pos (length bytes) bytes old map spare from at to some m begun ends (omega arith) in
    let ahead : (at < to) × (to ≤ pos + length bytes) = part_on sector pos (pos + length bytes) at to own.is in
    record {
      low = omega (arith, m.low, m.mid, ahead.0);
      mid = omega arith;
      high = ahead.1;
      cut = λ more. (part_next sector pos (pos + length bytes) at to own.is own.low more).1;
      held = λ len x few low high. absurd (omega (arith, low, high));
      marks = λ len few.
          let e : Swept = piece_at pos len bytes in
          let part : Part sector pos len bytes at to =
          part_of_marking sector pos len bytes old map spare from at to some m begun ends few in
          let P : ℕ → Bool = λ x. is_held sector e x && nat_lt x from in
          let R : ℕ → Bool = λ x. is_held sector e x && nat_lt x to in
          is ∙ ap (finished_between from at) (m.marks len few)
          ∙ finished_join P (is_between from at) R old (λ x.
          alike_from (P x || is_between from at x) (R x)
          (λ either. ⊎_elim
          (λ (before : P x ≡ true). let both = before_parts sector e from x before in
          before_by sector e to x both.0 (omega (arith, both.1, m.mid, ahead.0)))
          (λ (between : is_between from at x ≡ true). let both = between_parts from at x between in
          before_by sector e to x (m.held len x few both.0 both.1) (omega (arith, both.1, ahead.0)))
          (or_parts (P x) (is_between from at x) either))
          (λ on. let both = before_parts sector e to x on in
          ⊎_elim (λ (lt : x < from). or_left (P x) (is_between from at x) (before_by sector e from x both.0 lt))
          (λ (low : from ≤ x). ⊎_elim
          (λ (lt : x < at). or_right (P x) (is_between from at x) (between_from from at x low lt))
          (λ (ge : at ≤ x). absurd (true≢false (sym (held_has sector pos len bytes at to x part ge both.1 both.0) ∙ none)))
          (cases_lt x at))
          (cases_lt x from)));
      room = λ more.
          let next = (part_next sector pos (pos + length bytes) at to own.is own.low more).0 in
          let later : to / sector ≤ (pos + length bytes) / sector = quotients_ascend to (pos + length bytes) sector some ahead.1 in
          omega (arith, next, later, m.room begun, costs);
      left = omega (arith, m.room begun, costs);
      size = ap length is ∙ length_finished (is_between from at) map ∙ m.size;
    }

-- At the end all that is held is marked.
pub marking_ends : (sector pos : ℕ) (bytes : List ℕ) (old map map' : List Status) (spare from at : ℕ)
    → Marking sector pos bytes old map spare from at → pos + length bytes ≤ at → map' ≡ finished_between from at map
    → (s : Setting) (len : ℕ) → s.sector ≡ sector → length bytes ≤ len
    → map' ≡ finished_at (is_generated s (piece_at pos len bytes)) old
marking_ends sector pos bytes old map map' spare from at m done marked s len same few =
    let e : Swept = piece_at pos len bytes in
    let P : ℕ → Bool = λ x. is_held sector e x && nat_lt x from in
    marked ∙ ap (finished_between from at) (m.marks len few)
    ∙ finished_join P (is_between from at) (is_generated s e) old (λ x.
    alike_from (P x || is_between from at x) (is_generated s e x)
    (λ either. sym (held_is s sector e x same) ∙ ⊎_elim
    (λ (before : P x ≡ true). (before_parts sector e from x before).0)
    (λ (between : is_between from at x ≡ true). let both = between_parts from at x between in m.held len x few both.0 both.1)
    (or_parts (P x) (is_between from at x) either))
    (λ is. let held : is_held sector e x ≡ true = held_is s sector e x same ∙ is in
    let high : x < pos + length bytes = (held_parts sector e x held).high in
    ⊎_elim (λ (lt : x < from). or_left (P x) (is_between from at x) (before_by sector e from x held lt))
    (λ (low : from ≤ x). or_right (P x) (is_between from at x) (between_from from at x low (omega (arith, high, done))))
    (cases_lt x from)))
