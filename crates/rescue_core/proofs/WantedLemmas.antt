-- What a pass asks for, and its request by what a search finds.
use Rattle.std.proofs.Common.{◌≡◌, ℕ, ◌-◌, ◌<◌, ◌≤◌, Bool, true, false, ◌&&◌, if◌then◌else◌, nat_le, nat_lt, List, ◌∷◌, length, drop, Option, Some, None, IfNone, refl, sym, ap, subst, ◌∙◌, arith, ⊎_elim}
use Rattle.std.specs.List.{slice_get}
use Rattle.std.proofs.lemmas.Bool.{cases_lt, and_from, and_parts, le-leb, lt-ltb, true≢false, false_from_ne_true}
use Rattle.std.proofs.lemmas.Option.{slice_get_within}
use Rattle.block_list.specs.declared.status.Status.{Status}
use Rattle.block_list.specs.declared.status.Status.TheVariants.{NonTrimmed}
use Rattle.block_list.proofs.StretchLemmas.{same_self, equal_from_same}
use Rattle.rescue_rules.specs.declared.phase.Phase.{Phase}
use Rattle.rescue_rules.specs.declared.phase.Phase.TheVariants.{Trimming}
use Rattle.rescue_rules.specs.declared.stop.TrimMode.{TrimMode}
use Rattle.rescue_rules.specs.declared.stop.TrimMode.TheVariants.{Lead}
use Rattle.rescue_rules.specs.declared.progress.Progress.{Progress}
use Rattle.faulty_source.specs.Ends.{is_before}
use Rattle.rescue_rules.specs.Setting.{Setting}
use Rattle.rescue_rules.specs.Passes.{Pass, taken, is_up, numbered}
use Rattle.rescue_rules.specs.Machine.{Machine, Search, has_taken, is_live, is_wanted, IsWanted, search_of, IsNextRange, cut_start, cut_end, IsRequest, is_ahead, has_request}
use Rattle.rescue_rules.proofs.SearchLemmas.{request_found}
use Rattle.rescue_core.specs.RunState.{RunState, setting_in, led_from, IsLed}
use Rattle.rescue_domain.specs.Search.{IsMarked}
use Rattle.rescue_core.specs.Requesting.{StandsAt, IsCutOf}
use Rattle.rescue_core.proofs.RequestLemmas.{start_up, lead_search}

-- what is left of a setting's domain
abbrev pub left_in : Setting → Option ℕ → ℕ → Bool
left_in s over x = s.domain x && is_before over x

-- a pass asks for what is marked with its phase's status
marked_wanted : (s : Setting) (m : Machine) (p : Pass) (x : ℕ) → m.passes ≡ p ∷ drop 1 m.passes
    → IsMarked (is_live s m) m.map (taken p.phase) x
    → is_wanted s m x ≡ true
marked_wanted s m p x begins marked =
    and_from (is_live s m x) (has_taken m.passes (slice_get m.map x)) marked.within
    (ap (λ (ps : List Pass). has_taken ps (slice_get m.map x)) begins ∙ ap (has_taken (p ∷ drop 1 m.passes)) marked.has
    ∙ same_self (taken p.phase))

taken_is : (p : Pass) (ps : List Pass) (status : Option Status) → has_taken (p ∷ ps) status ≡ true → status ≡ Some (taken p.phase)
taken_is p ps None is = absurd (true≢false (sym is))
taken_is p ps (Some status) is = ap (λ (t : Status). Some t) (equal_from_same status (taken p.phase) is)

wanted_marked : (s : Setting) (m : Machine) (p : Pass) (x : ℕ) → m.passes ≡ p ∷ drop 1 m.passes → is_wanted s m x ≡ true
    → IsMarked (is_live s m) m.map (taken p.phase) x
wanted_marked s m p x begins wanted =
    let both = and_parts (is_live s m x) (has_taken m.passes (slice_get m.map x)) wanted in
    record {
      within = both.0;
      has = taken_is p (drop 1 m.passes) (slice_get m.map x) (ap (λ (ps : List Pass). has_taken ps (slice_get m.map x)) (sym begins) ∙ both.1);
    }

-- a range of one property is a range of another that means the same
range_alike : (up : Bool) (P Q : ℕ → Type 0) (from start end : ℕ) → ((x : ℕ) → P x → Q x) → ((x : ℕ) → Q x → P x)
    → IsNextRange up P from start end → IsNextRange up Q from start end
range_alike true P Q from start end there back r = (
  record {
    after = r.0.after;
    holds = there start r.0.holds;
    least = λ y after holds. r.0.least y after (back y holds);
  },
  record {
    begun = r.1.begun;
    within = λ y low high. there y (r.1.within y low high);
    stops = λ holds. r.1.stops (back end holds);
  },
)
range_alike false P Q from start end there back r = (
  record {
    below = r.0.below;
    some = r.0.some;
    holds = there (end - 1) r.0.holds;
    greatest = λ y below holds. r.0.greatest y below (back y holds);
  },
  record {
    begun = r.1.begun;
    within = λ y low high. there y (r.1.within y low high);
    stops = λ y before holds. r.1.stops y before (back y holds);
  },
)

-- a range that was found lies in the map
last_marked : (up : Bool) (domain : ℕ → Bool) (map : List Status) (status : Status) (from start end : ℕ)
    → IsNextRange up (IsMarked domain map status) from start end → (start < end) × IsMarked domain map status (end - 1)
last_marked true domain map status from start end r =
    (r.1.begun, r.1.within (end - 1) (omega (arith, r.1.begun)) (omega (arith, r.1.begun)))
last_marked false domain map status from start end r =
    (r.1.begun, r.1.within (end - 1) (omega (arith, r.1.begun)) (omega (arith, r.1.begun)))

pub range_there : (up : Bool) (domain : ℕ → Bool) (map : List Status) (status : Status) (from start end : ℕ)
    → IsNextRange up (IsMarked domain map status) from start end → end ≤ length map
range_there up domain map status from start end r =
    let last = last_marked up domain map status from start end r in
    omega (arith, last.0, slice_get_within map (end - 1) status last.1.has)

-- what is cut from a range that a machine's search finds is its request
pub request_is : (s : Setting) (m : Machine) (phase : Phase) (progress : Progress) (map : List Status) (over : Option ℕ)
    (status : Status) (f : Search) (start end pos to : ℕ) → StandsAt m phase progress map over → status ≡ taken phase
    → f ≡ search_of s m → IsNextRange f.up (IsMarked (left_in s over) map status) f.from start end → pos ≡ cut_start f s.sector start end
    → to ≡ cut_end f s.sector start end → IsRequest s m pos to
request_is s m phase progress map over status f start end pos to stands asks is range starts ends =
    let p : Pass = numbered phase progress.pass in
    let marked : IsNextRange f.up (IsMarked (is_live s m) m.map (taken phase)) f.from start end
    = subst (λ (o : Option ℕ). IsNextRange f.up (IsMarked (left_in s o) m.map (taken phase)) f.from start end) (sym stands.over)
    (subst (λ (statuses : List Status). IsNextRange f.up (IsMarked (left_in s over) statuses (taken phase)) f.from start end)
    (sym stands.map)
    (subst (λ (t : Status). IsNextRange f.up (IsMarked (left_in s over) map t) f.from start end) asks range)) in
    let wanted : IsNextRange f.up (IsWanted s m) f.from start end
    = range_alike f.up (IsMarked (is_live s m) m.map (taken phase)) (IsWanted s m) f.from start end
    (λ x holds. marked_wanted s m p x stands.passes holds) (λ x holds. wanted_marked s m p x stands.passes holds) marked in
    record {
      start = start;
      end = end;
      range = subst (λ (g : Search). IsNextRange g.up (IsWanted s m) g.from start end) is wanted;
      starts = starts ∙ ap (λ (g : Search). cut_start g s.sector start end) is;
      ends = ends ∙ ap (λ (g : Search). cut_end g s.sector start end) is;
    }

-- where a range is, something lies ahead
some_ahead : (up : Bool) (P : ℕ → Type 0) (from start end : ℕ) → IsNextRange up P from start end
    → ((x : ℕ) → P x → (if up then nat_le from x else nat_lt x from) ≡ true → ⊥) → ⊥
some_ahead true P from start end r none = none start r.0.holds (le-leb from start r.0.after)
some_ahead false P from start end r none =
    none (end - 1) r.0.holds (lt-ltb (end - 1) from (omega (arith, r.0.some, r.0.below)))

-- where nothing that is marked lies ahead a machine has no request
pub no_request : (s : Setting) (m : Machine) (phase : Phase) (progress : Progress) (map : List Status) (over : Option ℕ)
    (status : Status) (f : Search) → StandsAt m phase progress map over → status ≡ taken phase → f ≡ search_of s m
    → ((x : ℕ) → is_ahead f x ≡ true → IsMarked (left_in s over) map status x → ⊥) → has_request s m ≡ false
no_request s m phase progress map over status f stands asks is none =
    false_from_ne_true (has_request s m) (λ has.
    let found = request_found s m has in
    let g : Search = search_of s m in
    some_ahead g.up (IsWanted s m) g.from found.2.start found.2.end found.2.range (λ x wanted ahead.
    none x (subst (λ (h : Search). is_ahead h x ≡ true) (sym is) ahead)
    (subst (λ (t : Status). IsMarked (left_in s over) map t x) (sym asks)
    (subst (λ (statuses : List Status). IsMarked (left_in s over) statuses (taken phase) x) stands.map
    (subst (λ (o : Option ℕ). IsMarked (left_in s o) m.map (taken phase) x) stands.over
    (wanted_marked s m (numbered phase progress.pass) x stands.passes wanted))))))

-- what is cut of the next range of a machine's search is its request
pub cut_is : (s : Setting) (m : Machine) (phase : Phase) (progress : Progress) (map : List Status) (over : Option ℕ)
    (status : Status) (f : Search) (pos to : ℕ) → StandsAt m phase progress map over → status ≡ taken phase
    → f ≡ search_of s m → IsCutOf f s.sector (left_in s over) map status pos to → IsRequest s m pos to
cut_is s m phase progress map over status f pos to stands asks is cut =
    request_is s m phase progress map over status f cut.start cut.end pos to stands asks is cut.range cut.starts cut.ends

-- before a range, upwards, trimming finds the same from where nothing is left before
abbrev upwards : ℕ → ℕ → Search
upwards from size = record { up = true; from = from; front = true; size = size }

abbrev IsClear : (domain : ℕ → Bool) → List Status → ℕ → Type 0
IsClear domain map from = (x : ℕ) → x < from → IsMarked domain map NonTrimmed x → ⊥

clear_range : (domain : ℕ → Bool) (map : List Status) (from start end : ℕ) → IsClear domain map from
    → IsNextRange true (IsMarked domain map NonTrimmed) from start end
    → IsNextRange true (IsMarked domain map NonTrimmed) 0 start end
clear_range domain map from start end clear range = (
  record {
    after = omega arith;
    holds = range.0.holds;
    least = λ y after holds. ⊎_elim (λ (lt : y < from). absurd (clear y lt holds))
        (λ (ge : from ≤ y). range.0.least y ge holds) (cases_lt y from);
  },
  range.1,
)

from_front : (s : Setting) (m : Machine) (progress : Progress) (map : List Status) {over : Option ℕ}
    → StandsAt m Trimming progress map over → progress.mode ≡ Lead → is_up s (numbered Trimming progress.pass) ≡ true → upwards 0 s.sector ≡ search_of s m
from_front s m progress map stands lead up =
    lead_search s m Trimming progress map 0 true stands refl lead (sym up)
    (sym (start_up s (numbered Trimming progress.pass) map up))

pub lead_is : (s : Setting) (m : Machine) (progress : Progress) (map : List Status) (over : Option ℕ) (pos to : ℕ)
    → StandsAt m Trimming progress map over → progress.mode ≡ Lead → is_up s (numbered Trimming progress.pass) ≡ true
    → IsClear (left_in s over) map progress.cursor
    → IsCutOf (upwards progress.cursor s.sector) s.sector (left_in s over) map NonTrimmed pos to → IsRequest s m pos to
lead_is s m progress map over pos to stands lead up clear cut =
    request_is s m Trimming progress map over NonTrimmed (upwards 0 s.sector) cut.start cut.end pos to stands refl
    (from_front s m progress map stands lead up)
    (clear_range (left_in s over) map progress.cursor cut.start cut.end clear cut.range) cut.starts cut.ends

pub lead_none : (s : Setting) (m : Machine) (progress : Progress) (map : List Status) (over : Option ℕ)
    → StandsAt m Trimming progress map over → progress.mode ≡ Lead → is_up s (numbered Trimming progress.pass) ≡ true
    → IsClear (left_in s over) map progress.cursor
    → ((x : ℕ) → is_ahead (upwards progress.cursor s.sector) x ≡ true → IsMarked (left_in s over) map NonTrimmed x → ⊥)
    → has_request s m ≡ false
lead_none s m progress map over stands lead up clear none =
    no_request s m Trimming progress map over NonTrimmed (upwards 0 s.sector) stands refl
    (from_front s m progress map stands lead up)
    (λ x ahead marked. ⊎_elim (λ (lt : x < progress.cursor). clear x lt marked)
    (λ (ge : progress.cursor ≤ x). none x (le-leb progress.cursor x ge) marked) (cases_lt x progress.cursor))

pub if_none : {X P Q : Type 0} (o : Option X) → (P → Q) → IfNone o P → IfNone o Q
if_none None next holds = next holds
if_none (Some x) next holds = holds

-- nothing is left to trim before the cursor of a run that trims upwards, before a range
pub led_clear : (r : RunState) → r.phase ≡ Trimming → is_up (setting_in r) (numbered r.phase r.pass) ≡ true
    → r.machine.progress.mode ≡ Lead → IsLed r
    → IsClear (is_live (setting_in r) r.machine) r.machine.map r.machine.progress.cursor
led_clear r phase up lead led x below marked =
    led phase up x (subst (λ (mode : TrimMode). x < led_from mode r.machine.progress.cursor) (sym lead) below) marked.within marked.has
