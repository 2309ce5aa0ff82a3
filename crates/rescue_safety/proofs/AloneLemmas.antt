-- A chain of rescues is a mixed chain whose runs are all rescues, and holds as much.
use Rattle.std.proofs.Common.{◌≡◌, ◌≢◌, ◌⊎◌, inl, inr, ⊎_elim, ℕ, Bool, true, false, if◌then◌else◌, List, [], ◌∷◌, take, All, Option, Some, refl, sym, ap, ◌∙◌, subst}
use Rattle.std.proofs.lemmas.Bool.{cases_Bool}
use Rattle.std.proofs.lemmas.List.Elements.{All-nil, All-cons, All-head, All-tail, All-weaker}
use Rattle.crash_site.specs.Files.{File, bytes_of}
use Rattle.rescue_rules.specs.Given.{last_of_both}
use Rattle.rescue_rules.specs.Stops.{Before, has_barrier}
use Rattle.rescue_safety.specs.Safe.{Target, Run, by_then, gives}
use Rattle.rescue_safety.specs.Holds.{StillHolds}
use Rattle.rescue_safety.specs.Owed.{last_given, pairs_of, HoldsLast}
use Rattle.rescue_safety.specs.Rescue.{run_of}
use Rattle.rescue_safety.specs.Runs.{resting, NextBegins, Link, IsChain, all_give}
use Rattle.rescue_safety.specs.MixedRuns.{MixedLink, after_barrier, IsRescue, IsLink, OfRescue, AreLinked, IsMixedChain, all_given}
use Rattle.rescue_safety.specs.Laws.{ManyRunsHold, ManyRunsHoldAnywhere}
use Rattle.rescue_safety.specs.MixedLaws.{ChainIsMixed, MixedIsChain}
use Rattle.rescue_safety.proofs.LastGiven.{last_after, given_is_last}
use Rattle.rescue_safety.proofs.DryLemmas.{none_given_early}
use Rattle.rescue_safety.proofs.ChainLemmas.{mixed_runs_hold, mixed_runs_hold_anywhere}

-- ---- what one run gave

-- as pairs, and by its reads
link_gave : (t : Target) (l : MixedLink) (q : IsRescue t l) (x : ℕ)
    → last_given l.gave x ≡ gives (by_then (run_of q.rescue q.reads) q.step.moment) x
link_gave t l q x =
    let d : Run = by_then (run_of q.rescue q.reads) q.step.moment in
    let some : Bool → ℕ → Option ℕ = λ c y. last_given (if c then pairs_of d.sector d.reads else []) y in
    ap (λ (gs : List (ℕ × ℕ)). last_given gs x) q.gave
    ∙ ⊎_elim
    (λ (is : has_barrier (take q.step.moment d.calls) ≡ true).
    ap (λ (c : Bool). some c x) is ∙ given_is_last d.sector d.reads x)
    (λ (off : has_barrier (take q.step.moment d.calls) ≡ false).
    ap (λ (c : Bool). some c x) off ∙ sym (none_given_early q.rescue q.reads q.step.moment x off))
    (cases_Bool (has_barrier (take q.step.moment d.calls)))

-- ---- a rescue as a link of either kind

-- what a run of a chain did, by its reads
abbrev run_in : {t : Target} → Link t → Run
run_in l = run_of l.rescue l.reads

some_same : (m n : List ℕ) → Some m ≡ Some n → m ≡ n
some_same m n is = cc

module _ (t : Target) where
  abbrev as_mixed : Link t → MixedLink
  as_mixed l = record {
    before = (run_in l).past;
    next = l.next;
    gave = after_barrier (take l.moment (run_in l).calls)
        (pairs_of (run_in l).sector (by_then (run_in l) l.moment).reads);
  }

  abbrev as_rescue : (l : Link t) → IsRescue t (as_mixed l)
  as_rescue l = record {
    rescue = l.rescue;
    reads = l.reads;
    are_seen = l.are_seen;
    step = record {
      outfile = l.outfile;
      mapfile = l.rescue.named ∙ ap (λ (m : List ℕ). Some m) l.mapfile;
      places = l.places;
      moment = l.moment;
      within = l.within;
      before = refl;
      next = l.begins;
    };
    gave = refl;
  }

  abbrev alone : (l : MixedLink) → IsRescue t l → Link t
  alone l q = record {
    rescue = q.rescue;
    reads = q.reads;
    are_seen = q.are_seen;
    outfile = q.step.outfile;
    mapfile = some_same q.rescue.mapfile t.mapfile (sym q.rescue.named ∙ q.step.mapfile);
    places = q.step.places;
    moment = q.step.moment;
    within = q.step.within;
    next = l.next;
    begins = subst (λ (n : Before). NextBegins t.outfile n q.rescue.did.call.calls q.step.moment l.next) q.step.before
        q.step.next;
  }

  -- ---- a chain

  abbrev all_mixed : List (Link t) → List MixedLink
  all_mixed [] = []
  all_mixed (l ∷ ls) = as_mixed l ∷ all_mixed ls

  are_rescues : (ls : List (Link t)) → All (IsRescue t) (all_mixed ls)
  are_rescues [] = All-nil (IsRescue t)
  are_rescues (l ∷ ls) = All-cons (IsRescue t) (as_mixed l) (all_mixed ls) (as_rescue l) (are_rescues ls)

  mixed_linked : (from to : Before) (ls : List (Link t)) → IsChain from ls to → AreLinked from (all_mixed ls) to
  mixed_linked from to [] joined = joined
  mixed_linked from to (l ∷ ls) joined = (joined.0, mixed_linked l.next to ls joined.1)

  mixed_gave : (ls : List (Link t)) (x : ℕ) → last_given (all_given (all_mixed ls)) x ≡ all_give ls x
  mixed_gave [] x = refl
  mixed_gave (l ∷ ls) x =
      last_after (as_mixed l).gave (all_given (all_mixed ls)) x
      ∙ ap (λ (o : Option ℕ). last_of_both o (last_given (as_mixed l).gave x)) (mixed_gave ls x)
      ∙ ap (λ (o : Option ℕ). last_of_both (all_give ls x) o) (link_gave t (as_mixed l) (as_rescue l) x)

  mixed : (from to : Before) (ls : List (Link t)) → t.outfile ≢ t.mapfile → IsChain from ls to
      → IsMixedChain t from (all_mixed ls) to
  mixed from to ls apart chain = record {
    apart = apart;
    each = All-weaker (IsRescue t) (IsLink t) (λ l r. OfRescue r) (all_mixed ls) (are_rescues ls);
    joined = mixed_linked from to ls chain;
  }

  abbrev all_alone : (ls : List MixedLink) → All (IsRescue t) ls → List (Link t)
  all_alone [] each = []
  all_alone (l ∷ ls) each =
      alone l (All-head (IsRescue t) l ls each) ∷ all_alone ls (All-tail (IsRescue t) l ls each)

  alone_joined : (from to : Before) (ls : List MixedLink) (each : All (IsRescue t) ls) → AreLinked from ls to
      → IsChain from (all_alone ls each) to
  alone_joined from to [] each joined = joined
  alone_joined from to (l ∷ ls) each joined =
      let q : IsRescue t l = All-head (IsRescue t) l ls each in
      (sym q.step.before ∙ joined.0, alone_joined l.next to ls (All-tail (IsRescue t) l ls each) joined.1)

  alone_gave : (ls : List MixedLink) (each : All (IsRescue t) ls) (x : ℕ)
      → last_given (all_given ls) x ≡ all_give (all_alone ls each) x
  alone_gave [] each x = refl
  alone_gave (l ∷ ls) each x =
      let rest : All (IsRescue t) ls = All-tail (IsRescue t) l ls each in
      last_after l.gave (all_given ls) x
      ∙ ap (λ (o : Option ℕ). last_of_both o (last_given l.gave x)) (alone_gave ls rest x)
      ∙ ap (λ (o : Option ℕ). last_of_both (all_give (all_alone ls rest) x) o)
      (link_gave t l (All-head (IsRescue t) l ls each) x)

  -- what a mixed chain holds
  holds_alone : (ls : List (Link t)) (image : List ℕ) (x : ℕ)
      → HoldsLast t (last_given (all_given (all_mixed ls))) image x → HoldsLast t (all_give ls) image x
  holds_alone ls image x h = record {
    byte = h.byte;
    given = sym (mixed_gave ls x) ∙ h.given;
    place = h.place;
    at = h.at;
    holds = h.holds;
  }

  either : (before : Before) (found : List ℕ → Option File) (ls : List (Link t)) (x : ℕ)
      → StillHolds t before found x ⊎ HoldsLast t (last_given (all_given (all_mixed ls))) (bytes_of (found t.outfile)) x
      → StillHolds t before found x ⊎ HoldsLast t (all_give ls) (bytes_of (found t.outfile)) x
  either before found ls x (inl h) = inl h
  either before found ls x (inr h) = inr (holds_alone ls (bytes_of (found t.outfile)) x h)

pub chain_is_mixed : ChainIsMixed
chain_is_mixed t from to ls apart chain =
    (all_mixed t ls, mixed t from to ls apart chain, are_rescues t ls, λ x. mixed_gave t ls x)

pub mixed_is_chain : MixedIsChain
mixed_is_chain t from to ls chain each =
    (all_alone t ls each, alone_joined t from to ls each chain.joined, λ x. alone_gave t ls each x)

pub many_runs_hold : ManyRunsHold
many_runs_hold t files found ls to x apart chain left finished =
    either t (resting files) found ls x
    (mixed_runs_hold t files found (all_mixed t ls) to x (mixed t (resting files) to ls apart chain) left finished)

pub many_runs_hold_anywhere : ManyRunsHoldAnywhere
many_runs_hold_anywhere t found l ls to x is apart chain left finished =
    either t (run_in l).past found (l ∷ ls) x
    (mixed_runs_hold_anywhere t found (as_mixed t l) (all_mixed t ls) to x (as_rescue t l) is
    (mixed t (run_in l).past to (l ∷ ls) apart chain) left finished)
