-- How a state goes on over passes without a request.
use Rattle.std.proofs.Common.{◌≡◌, ◌⊎◌, ℕ, true, false, if◌then◌else◌, List, [], ◌∷◌, drop, All, Option, Some, None, refl, sym, ap, subst, ◌∙◌, inl, inr}
use Rattle.std.specs.List.{slice_get}
use Rattle.std.proofs.lemmas.Bool.{and_parts, cond-true, cond-false, cond_both, false_from_ne_true, true≢false}
use Rattle.std.proofs.lemmas.List.Elements.{All-nil, All-head, All-tail, All-drop}
use Rattle.block_list.specs.declared.status.Status.{Status}
use Rattle.block_list.proofs.StretchLemmas.{equal_from_same}
use Rattle.mapfile_text.specs.declared.state.MapState.{MapState}
use Rattle.rescue_rules.specs.declared.stop.TrimMode.TheVariants.{Lead, Tail}
use Rattle.rescue_rules.specs.Setting.{Setting}
use Rattle.rescue_rules.specs.Passes.{Pass, taken}
use Rattle.rescue_rules.specs.Machine.{Machine, has_taken, is_live, is_wanted, has_request}
use Rattle.rescue_rules.specs.Moves.{begun, ended, at_next, no_pass_left, ready}
use Rattle.rescue_rules.specs.Preparation.{prepared}
use Rattle.rescue_rules.specs.Beginning.{shown_at_first, machine_of, goes_on_from, machine_over}
use Rattle.rescue_rules.specs.MachineLaws.{IsInOrder, HasNone, StateLeadsOn}
use Rattle.rescue_rules.proofs.SearchLemmas.{wanted_found}

-- The mode at a pass's start is in order.
pub order_lead : (s : Setting) (m : Machine) → m.progress.mode ≡ Lead → IsInOrder s m
order_lead s m is = record {
  tail = λ low at. let e : Tail low ≡ Lead = sym at ∙ is in absurd (cc);
  lead = λ off. is;
}

pub order_begun : (s : Setting) (m : Machine) (p : Pass) (ps : List Pass) → IsInOrder s (begun s m p ps)
order_begun s m p ps = order_lead s (begun s m p ps) refl

pub order_next : (s : Setting) (m : Machine) (ps : List Pass) → IsInOrder s (at_next s m ps)
order_next s m [] = order_lead s (ended m) refl
order_next s m (p ∷ ps) =
    cond_both (has_request s (begun s m p ps)) (begun s m p ps) (at_next s m ps) (IsInOrder s)
    (λ on. order_begun s m p ps) (λ off. order_next s m ps)

pub order_ready : (s : Setting) (m : Machine) → IsInOrder s m → IsInOrder s (ready s m)
order_ready s m order =
    cond_both (has_request s m) m (at_next s m (drop 1 m.passes)) (IsInOrder s)
    (λ on. order) (λ off. order_next s m (drop 1 m.passes))

pub order_begins : (s : Setting) (map : List Status) (from : Option MapState) (shown : MapState) (time : ℕ)
    → IsInOrder s (machine_of s map from shown time)
order_begins s map from shown time = order_lead s (machine_of s map from shown time) refl

pub order_over : (s : Setting) (statuses : List Status) (state : Option MapState) (time : ℕ)
    → IsInOrder s (machine_over s statuses state time)
order_over s statuses state time =
    order_begins s (prepared s.domain s.try_again s.retrim statuses) (goes_on_from s.try_again state) (shown_at_first state) time

-- What stands in a state that goes on: all but the passes, the cursor, the mode and the skip.
pub record Stays (m n : Machine) : Type 0 where
  pub map : n.map ≡ m.map
  pub tally : n.tally ≡ m.tally

stays_same : (m : Machine) → Stays m m
stays_same m = record { map = refl; tally = refl }

stays_begun : (s : Setting) (m : Machine) (p : Pass) (ps : List Pass) → Stays m (begun s m p ps)
stays_begun s m p ps = record { map = refl; tally = refl }

pub stays_next : (s : Setting) (m : Machine) (ps : List Pass) → Stays m (at_next s m ps)
stays_next s m [] = record { map = refl; tally = refl }
stays_next s m (p ∷ ps) =
    cond_both (has_request s (begun s m p ps)) (begun s m p ps) (at_next s m ps) (Stays m)
    (λ on. stays_begun s m p ps)
    (λ off. stays_next s m ps)

pub stays_ready : (s : Setting) (m : Machine) → Stays m (ready s m)
stays_ready s m =
    cond_both (has_request s m) m (at_next s m (drop 1 m.passes)) (Stays m)
    (λ on. stays_same m) (λ off. stays_next s m (drop 1 m.passes))

-- A state with a request stands,
pub ready_here : (s : Setting) (m : Machine) → has_request s m ≡ true → ready s m ≡ m
ready_here s m on = cond-true (has_request s m) m (at_next s m (drop 1 m.passes)) on

-- and one without goes on as the start of the next pass does.
next_begun : (s : Setting) (m : Machine) (p : Pass) (ps qs : List Pass) → at_next s (begun s m p ps) qs ≡ at_next s m qs
next_begun s m p ps [] = refl
next_begun s m p ps (q ∷ qs) =
    ap (λ n. if has_request s (begun s m q qs) then begun s m q qs else n) (next_begun s m p ps qs)

pub ready_on : (s : Setting) (m : Machine) (c p : Pass) (ps : List Pass) → has_request s m ≡ false → m.passes ≡ c ∷ p ∷ ps
    → ready s m ≡ ready s (begun s m p ps)
ready_on s m c p ps off is =
    cond-false (has_request s m) m (at_next s m (drop 1 m.passes)) off
    ∙ ap (λ qs. at_next s m (drop 1 qs)) is
    ∙ ap (λ n. if has_request s (begun s m p ps) then begun s m p ps else n) (sym (next_begun s m p ps ps))

taken_has : (s : Setting) (map : List Status) (p : Pass) (ps : List Pass) (o : Option Status) → has_taken (p ∷ ps) o ≡ true
    → o ≡ Some (taken p.phase)
taken_has s map p ps None is = absurd (cc)
taken_has s map p ps (Some status) is = ap (λ (t : Status). Some t) (equal_from_same status (taken p.phase) is)

pub request_none : (s : Setting) (m : Machine) (p : Pass) (ps : List Pass) → m.passes ≡ p ∷ ps → HasNone s m p
    → has_request s m ≡ false
request_none s m p ps is none =
    false_from_ne_true (has_request s m) (λ on.
    let w : (x : ℕ) × (is_wanted s m x ≡ true) = wanted_found s m on in
    let both : (is_live s m w.0 ≡ true) × (has_taken m.passes (slice_get m.map w.0) ≡ true)
    = and_parts (is_live s m w.0) (has_taken m.passes (slice_get m.map w.0)) w.1 in
    none w.0 both.0 (taken_has s m.map p ps (slice_get m.map w.0)
    (subst (λ (qs : List Pass). has_taken qs (slice_get m.map w.0) ≡ true) is both.1)))

pub next_end : (s : Setting) (m : Machine) (ps : List Pass) → All (HasNone s m) ps → at_next s m ps ≡ ended m
next_end s m [] none = refl
next_end s m (p ∷ ps) none =
    cond-false (has_request s (begun s m p ps)) (begun s m p ps) (at_next s m ps)
    (request_none s (begun s m p ps) p ps refl (All-head (HasNone s m) p ps none))
    ∙ next_end s m ps (All-tail (HasNone s m) p ps none)

-- no request is left where no position of the domain has a status that a pass asks for
pub no_request : (s : Setting) (m : Machine) → All (HasNone s m) m.passes → has_request s m ≡ false
no_request s m none = of m.passes refl none
  where
    of : (ps : List Pass) → m.passes ≡ ps → All (HasNone s m) ps → has_request s m ≡ false
    of [] is h = false_from_ne_true (has_request s m) (λ on.
        let w : (x : ℕ) × (is_wanted s m x ≡ true) = wanted_found s m on in
        true≢false (sym (and_parts (is_live s m w.0) (has_taken m.passes (slice_get m.map w.0)) w.1).1
        ∙ ap (λ qs. has_taken qs (slice_get m.map w.0)) is))
    of (p ∷ ps) is h = request_none s m p ps is (All-head (HasNone s m) p ps h)

-- so such a state goes on to the end
pub ready_end : (s : Setting) (m : Machine) → All (HasNone s m) m.passes → ready s m ≡ ended m
ready_end s m none =
    cond-false (has_request s m) m (at_next s m (drop 1 m.passes)) (no_request s m none)
    ∙ next_end s m (drop 1 m.passes) (All-drop (HasNone s m) 1 m.passes none)

-- Going on leads to a request, or to the end.
next_leads : (s : Setting) (m : Machine) (ps : List Pass)
    → (has_request s (at_next s m ps) ≡ true) ⊎ (at_next s m ps ≡ ended m)
next_leads s m [] = inr refl
next_leads s m (p ∷ ps) =
    cond_both (has_request s (begun s m p ps)) (begun s m p ps) (at_next s m ps)
    (λ (n : Machine). (has_request s n ≡ true) ⊎ (n ≡ ended m))
    (λ on. inl on) (λ off. next_leads s m ps)

pub ready_leads : (s : Setting) (m : Machine) → (has_request s (ready s m) ≡ true) ⊎ (ready s m ≡ ended m)
ready_leads s m =
    cond_both (has_request s m) m (at_next s m (drop 1 m.passes))
    (λ (n : Machine). (has_request s n ≡ true) ⊎ (n ≡ ended m))
    (λ on. inl on) (λ off. next_leads s m (drop 1 m.passes))

-- A state has no request where no pass is left.
none_is : (ps : List Pass) → no_pass_left ps ≡ true → ps ≡ []
none_is [] none = refl
none_is (p ∷ ps) none = absurd (cc)

pub spent_request : (s : Setting) (m : Machine) → no_pass_left m.passes ≡ true → has_request s m ≡ false
spent_request s m none =
    no_request s m (subst (All (HasNone s m)) (sym (none_is m.passes none)) (All-nil (HasNone s m)))

pub state_leads_on : StateLeadsOn
state_leads_on s m = record { there = ready_leads s m; spent = ready_end s m }
