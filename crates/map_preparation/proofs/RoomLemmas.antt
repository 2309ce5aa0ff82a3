-- How many ranges a change has to make, and how much room they take.
use Rattle.std.proofs.Common.{◌≡◌, ◌≢◌, ℕ, zero, suc, ◌+◌, ◌*◌, ◌≤◌, ◌<◌, Bool, true, false, if◌then◌else◌, List, length, Option, Some, None, Ok, refl, sym, ◌∙◌, ap, subst, arith, ⊎_elim}
use Rattle.std.specs.List.{slice_get}
use Rattle.std.specs.Option.{SomeIff, ok_or}
use Rattle.std.proofs.lemmas.Bool.{cases_lt}
use Rattle.std.proofs.lemmas.Option.{same_Some, slice_get_within, slice_get-get_or}
use Rattle.block_list.specs.declared.status.Status.{Status}
use Rattle.block_list.specs.declared.status.Status.TheVariants.{NonTrimmed, NonScraped, BadSector}
use Rattle.block_list.specs.Status.{same}
use Rattle.block_list.specs.Map.{Has}
use Rattle.block_list.specs.Places.{IsFirst, IsRangeUp}
use Rattle.rescue_rules.specs.Preparation.{if_asked, prepared_status, IsChanged}
use Rattle.rescue_domain.specs.Search.{IsMarked}
use Rattle.map_preparation.proofs.PrepareLemmas.{below, as_it_was}
use Rattle.map_preparation.specs.Preparing.{replaced, HasRanges, HasChanges, TakesRoom}

-- two properties that hold at the same positions
module _ (P Q : ℕ → Type 0) where
  pub first_alike : (from start : ℕ) → ((x : ℕ) → from ≤ x → P x → Q x) → ((x : ℕ) → from ≤ x → Q x → P x)
      → IsFirst P from start → IsFirst Q from start
  first_alike from start to back h = record {
    after = h.after;
    holds = to start h.after h.holds;
    least = λ y le q. h.least y le (back y le q);
  }

  pub range_alike : (from start end : ℕ) → from ≤ start → ((x : ℕ) → from ≤ x → P x → Q x)
      → ((x : ℕ) → from ≤ x → Q x → P x) → IsRangeUp P start end → IsRangeUp Q start end
  range_alike from start end le to back h = record {
    begun = h.begun;
    within = λ y a b. to y (omega (arith, le, a)) (h.within y a b);
    stops = λ q. h.stops (back end (omega (arith, le, h.begun)) q);
  }

  pub ranges_alike : (from count : ℕ) → ((x : ℕ) → from ≤ x → P x → Q x) → ((x : ℕ) → from ≤ x → Q x → P x)
      → HasRanges P from count → HasRanges Q from count
  ranges_alike from zero to back h = λ x le q. h x le (back x le q)
  ranges_alike from (suc count) to back h = (
    h.0,
    h.1,
    first_alike from h.0 to back h.2,
    range_alike from h.0 h.1 h.2.after to back h.3,
    ranges_alike h.1 count (λ x le p. to x (omega (arith, le, h.2.after, h.3.begun)) p)
        (λ x le q. back x (omega (arith, le, h.2.after, h.3.begun)) q) h.4,
  )

-- a first range is the first of them all
module _ (P : ℕ → Type 0) (from start end : ℕ) (first : IsFirst P from start) (range : IsRangeUp P start end) where
  same_start : (start' : ℕ) → IsFirst P from start' → start' ≡ start
  same_start start' f =
      omega (arith, f.least start first.after first.holds, first.least start' f.after f.holds)

  same_end : (start' end' : ℕ) → start' ≡ start → IsRangeUp P start' end' → end' ≡ end
  same_end start' end' is u = ⊎_elim
      (λ (l : end' < end). absurd (u.stops (range.within end' (omega (arith, is, u.begun)) l)))
      (λ (le : end ≤ end'). ⊎_elim
      (λ (l : end < end'). absurd (range.stops (u.within end (omega (arith, is, range.begun)) l)))
      (λ (le' : end' ≤ end). omega (arith, le, le'))
      (cases_lt end end'))
      (cases_lt end' end)

  pub ranges_after : (count : ℕ) → HasRanges P from count → (rest : ℕ) × (count ≡ suc rest) × HasRanges P end rest
  ranges_after zero h = absurd (h start first.after first.holds)
  ranges_after (suc count) h =
      let is : h.1 ≡ end = same_end h.0 h.1 (same_start h.0 h.2) h.3 in
      (count, refl, subst (λ (e : ℕ). HasRanges P e count) is h.4)

none_within : (map : List Status) (x : ℕ) (s : Status) → slice_get map x ≡ None → x < length map → ⊥
none_within map x s none l =
    let some = slice_get-get_or map x s l in cc

-- a change that leaves one status, and makes it of no other, leaves its positions
module _ (domain : ℕ → Bool) (change : Status → Status) (status : Status) (old new : List Status)
    (c : IsChanged domain change old new) (stays : change status ≡ status)
    (alone : (s : Status) → change s ≡ status → s ≡ status) where
  marked_still : (x : ℕ) → IsMarked domain old status x → IsMarked domain new status x
  marked_still x m = record {
    within = m.within;
    has = subst (λ (s : Status). Has new s x)
        (ap (λ (b : Bool). if_asked b change status) m.within ∙ stays) (c.each x status m.has);
  }

  was_marked : (x : ℕ) (found : Option Status) → slice_get old x ≡ found → x < length old
      → IsMarked domain new status x → IsMarked domain old status x
  was_marked x None is l m = absurd (none_within old x status is l)
  was_marked x (Some s) is l m =
      let becomes : Has new (if_asked (domain x) change s) x = c.each x s is in
      let same : change s ≡ status
      = ap (λ (b : Bool). if_asked b change s) (sym m.within)
      ∙ same_Some (if_asked (domain x) change s) status (sym becomes ∙ m.has) in
      record { within = m.within; has = is ∙ ap (λ (t : Status). Some t) (alone s same) }

  pub changes_still : (to : Status) (ranges : ℕ) → HasChanges domain old status to ranges
      → HasChanges domain new status to ranges
  changes_still to ranges h = record {
    some = λ apart. ranges_alike (IsMarked domain old status) (IsMarked domain new status) 0 ranges
        (λ x le m. marked_still x m)
        (λ x le m. was_marked x (slice_get old x) refl
        (omega (arith, slice_get_within new x status m.has, c.size)) m) (h.some apart);
    none = h.none;
  }

-- nothing becomes a status that is replaced later
by_same : (b : Bool) (to s status : Status) → (if b then to else s) ≡ status → to ≢ status → s ≡ status
by_same true to s status is apart = absurd (apart is)
by_same false to s status is apart = is

pub replaced_alone : (from to status : Status) → to ≢ status → (s : Status) → replaced from to s ≡ status → s ≡ status
replaced_alone from to status apart s is = by_same (same s from) to s status is apart

pub trimmed_unscraped : (try_again retrim : Bool) → prepared_status try_again retrim NonTrimmed ≢ NonScraped
trimmed_unscraped false false = λ e. cc
trimmed_unscraped false true = λ e. cc
trimmed_unscraped true false = λ e. cc
trimmed_unscraped true true = λ e. cc

pub trimmed_good : (try_again retrim : Bool) → prepared_status try_again retrim NonTrimmed ≢ BadSector
trimmed_good false false = λ e. cc
trimmed_good false true = λ e. cc
trimmed_good true false = λ e. cc
trimmed_good true true = λ e. cc

pub scraped_good : (try_again retrim : Bool) → prepared_status try_again retrim NonScraped ≢ BadSector
scraped_good false false = λ e. cc
scraped_good false true = λ e. cc
scraped_good true false = λ e. cc
scraped_good true true = λ e. cc

-- so many ranges lie in front of a position, for which so much room is taken
pub record Counted (domain : ℕ → Bool) (map : List Status) (from : Status) (at others room : ℕ) : Type 0 where
  pub ranges : ℕ
  pub front : (rest : ℕ) → HasRanges (IsMarked domain map from) at rest → HasRanges (IsMarked domain map from) 0 (ranges + rest)
  pub total : room ≡ others + 2 * ranges

-- a sum that was found
pub found_sum : {E : Type 0} (P : Type 0) (o : Option ℕ) (sum n : ℕ) (e : E) → SomeIff o P sum → ok_or o e ≡ Ok n
    → n ≡ sum
found_sum P None sum n e h is = absurd (cc)
found_sum P (Some m) sum n e h is = let same : m ≡ sum = h.1 in cc

module _ (domain : ℕ → Bool) (map : List Status) (from : Status) (at others room : ℕ)
    (h : Counted domain map from at others room) where
  pub counted_more : (start end room' : ℕ) → IsFirst (IsMarked domain map from) at start
      → IsRangeUp (IsMarked domain map from) start end → room' ≡ room + 2 → Counted domain map from end others room'
  counted_more start end room' first range more = record {
    ranges = h.ranges + 1;
    front = λ rest r.
        let same : h.ranges + 1 + rest ≡ h.ranges + suc rest = omega arith in
        rw same (h.front (suc rest) (start, end, first, range, r));
    total = omega (arith, h.total, more);
  }

  pub counted_all : (to : Status) → from ≢ to → ((x : ℕ) → at ≤ x → IsMarked domain map from x → ⊥)
      → TakesRoom domain map from to others room
  counted_all to apart none = record {
    ranges = h.ranges;
    changes = record {
      some = λ off. let same : h.ranges ≡ h.ranges + 0 = omega arith in rw same (h.front 0 none);
      none = λ is. absurd (apart is);
    };
    total = h.total;
  }

-- what is spare after some of the changes, by how many ranges are left
abbrev pub Spends : (domain : ℕ → Bool) → (old : List Status) → (from : Status) → (at before now : ℕ) → Type 0
Spends domain old from at before now =
    (ranges : ℕ) → HasRanges (IsMarked domain old from) 0 ranges
    → (left : ℕ) × HasRanges (IsMarked domain old from) at left × (before + 2 * left ≤ now + 2 * ranges)

-- of a domain, the positions before one have a status replaced; those past it are as they were
module _ (domain : ℕ → Bool) (from to : Status) (at : ℕ) (old mid : List Status)
    (i : IsChanged (below domain at) (replaced from to) old mid) where
  marked_ahead : (x : ℕ) → at ≤ x → IsMarked domain old from x → IsMarked domain mid from x
  marked_ahead x le m =
      record { within = m.within; has = as_it_was domain from to at old mid i x from le m.has }

  found_ahead : (x : ℕ) (found : Option Status) → slice_get old x ≡ found → x < length old → at ≤ x
      → IsMarked domain mid from x → IsMarked domain old from x
  found_ahead x None is l le m = absurd (none_within old x from is l)
  found_ahead x (Some s) is l le m =
      let same : s ≡ from = same_Some s from (sym (as_it_was domain from to at old mid i x s le is) ∙ m.has) in
      record { within = m.within; has = is ∙ ap (λ (t : Status). Some t) same }

  were_ahead : (x : ℕ) → at ≤ x → IsMarked domain mid from x → IsMarked domain old from x
  were_ahead x le m =
      found_ahead x (slice_get old x) refl (omega (arith, slice_get_within mid x from m.has, i.size)) le m

  module _ (start end : ℕ) (first : IsFirst (IsMarked domain mid from) at start)
      (range : IsRangeUp (IsMarked domain mid from) start end) where
    one_less : (left : ℕ) → HasRanges (IsMarked domain old from) at left
        → (rest : ℕ) × (left ≡ suc rest) × HasRanges (IsMarked domain old from) end rest
    one_less left h =
        ranges_after (IsMarked domain old from) at start end
        (first_alike (IsMarked domain mid from) (IsMarked domain old from) at start were_ahead marked_ahead first)
        (range_alike (IsMarked domain mid from) (IsMarked domain old from) at start end first.after were_ahead
        marked_ahead range) left h

    pub spare_left : (before now ranges : ℕ) → Spends domain old from at before now
        → HasRanges (IsMarked domain old from) 0 ranges → 2 * ranges ≤ before → 2 ≤ now
    spare_left before now ranges h r le =
        let s = h ranges r in
        let l = one_less s.0 s.1 in
        omega (arith, s.2, l.1, le)

    pub spends_more : (before now now' : ℕ) → now ≤ now' + 2 → Spends domain old from at before now
        → Spends domain old from end before now'
    spends_more before now now' more h = λ ranges r.
        let s = h ranges r in
        let l = one_less s.0 s.1 in
        (l.0, l.2, omega (arith, s.2, l.1, more))
