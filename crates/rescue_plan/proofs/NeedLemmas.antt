-- A plan of a setting, and of what it needs of that.
use Rattle.std.proofs.Common.{◌≡◌, ℕ, zero, suc, ◌+◌, Bool, true, false, List, ◌∷◌, None, refl, sym, ap, subst, ◌∙◌}
use Rattle.std.specs.List.{slice_index_or}
use Rattle.block_list.specs.declared.status.Status.{Status}
use Rattle.block_list.specs.declared.status.Status.TheVariants.{NonTried}
use Rattle.rescue_rules.specs.Setting.{Setting}
use Rattle.rescue_rules.specs.Preparation.{changed_from, if_asked, prepared, prepared_status}
use Rattle.rescue_rules.specs.Beginning.{machine_of, nothing_shown}
use Rattle.rescue_rules.specs.Machine.{Machine, IsRequest}
use Rattle.rescue_rules.specs.Step.{Event}
use Rattle.rescue_rules.specs.Moves.{Move, moves, state_after, has_ended, IsMove, IsRun}
use Rattle.plan_source.specs.Lines.{PlannedRead}
use Rattle.rescue_plan.specs.Plan.{BeginsPlan, IsPlan, plan_start, untried_map}
use Rattle.rescue_plan.specs.Laws.{PlanNeedsNoOutput, plan_part}

-- ---- a map that wasn't tried stays so when it is prepared

untried_stays : (try_again retrim : Bool) → prepared_status try_again retrim NonTried ≡ NonTried
untried_stays false false = refl
untried_stays false true = refl
untried_stays true false = refl
untried_stays true true = refl

one_stays : (inside : Bool) (change : Status → Status) → change NonTried ≡ NonTried → if_asked inside change NonTried ≡ NonTried
one_stays true change same = same
one_stays false change same = refl

all_stay : (domain : ℕ → Bool) (change : Status → Status) (x n : ℕ) → change NonTried ≡ NonTried
    → changed_from domain change x (untried_map n) ≡ untried_map n
all_stay domain change x zero same = refl
all_stay domain change x (suc n) same =
    ap (λ (t : Status). t ∷ changed_from domain change (x + 1) (untried_map n)) (one_stays (domain x) change same)
    ∙ ap (λ (map : List Status). NonTried ∷ map) (all_stay domain change (x + 1) n same)

prepared_none : (s : Setting) (n : ℕ) → prepared s.domain s.try_again s.retrim (untried_map n) ≡ untried_map n
prepared_none s n =
    all_stay s.domain (prepared_status s.try_again s.retrim) 0 n (untried_stays s.try_again s.retrim)

-- so both plans begin in one state
start_is : (s : Setting) (n : ℕ) → plan_start (plan_part s) n ≡ plan_start s n
start_is s n =
    ap (λ (map : List Status). machine_of s map None nothing_shown 0)
    (prepared_none (plan_part s) n ∙ sym (prepared_none s n))

-- ---- a run is one of both

request_to : (s : Setting) (m : Machine) (p q : ℕ) → IsRequest s m p q → IsRequest (plan_part s) m p q
request_to s m p q r = record { start = r.start; end = r.end; range = r.range; starts = r.starts; ends = r.ends }

request_from : (s : Setting) (m : Machine) (p q : ℕ) → IsRequest (plan_part s) m p q → IsRequest s m p q
request_from s m p q r = record { start = r.start; end = r.end; range = r.range; starts = r.starts; ends = r.ends }

move_to : (s : Setting) (v : Move) → IsMove s v → IsMove (plan_part s) v
move_to s v is = record {
  request = request_to s v.before v.event.reading.pos (v.event.reading.pos + v.event.reading.asked) is.request;
  few = is.few;
  within = is.within;
}

move_from : (s : Setting) (v : Move) → IsMove (plan_part s) v → IsMove s v
move_from s v is = record {
  request = request_from s v.before v.event.reading.pos (v.event.reading.pos + v.event.reading.asked) is.request;
  few = is.few;
  within = is.within;
}

run_to : (s : Setting) (m : Machine) (es : List Event) → IsRun s m es → IsRun (plan_part s) m es
run_to s m es run =
    record { each = λ k d within. move_to s (slice_index_or (moves s m es) k d) (run.each k d within) }

run_from : (s : Setting) (m : Machine) (es : List Event) → IsRun (plan_part s) m es → IsRun s m es
run_from s m es run =
    record { each = λ k d within. move_from s (slice_index_or (moves s m es) k d) (run.each k d within) }

-- ---- plans

module _ (s : Setting) (n : ℕ) (test : List Status) (reads : List PlannedRead) where
  begins_to : BeginsPlan s n test reads → BeginsPlan (plan_part s) n test reads
  begins_to b = record {
    events = b.events;
    still = b.still;
    run = subst (λ (m : Machine). IsRun (plan_part s) m b.events) (sym (start_is s n)) (run_to s (plan_start s n) b.events b.run);
    seen = b.seen;
    are = b.are;
  }

  begins_from : BeginsPlan (plan_part s) n test reads → BeginsPlan s n test reads
  begins_from b = record {
    events = b.events;
    still = b.still;
    run = run_from s (plan_start s n) b.events (subst (λ (m : Machine). IsRun (plan_part s) m b.events) (start_is s n) b.run);
    seen = b.seen;
    are = b.are;
  }

  plan_to : IsPlan s n test reads → IsPlan (plan_part s) n test reads
  unfolding begins_to
  plan_to p = record {
    begins = begins_to p.begins;
    ended = ap (λ (m : Machine). has_ended s (state_after s m p.begins.events)) (start_is s n) ∙ p.ended;
  }

  plan_from : IsPlan (plan_part s) n test reads → IsPlan s n test reads
  unfolding begins_from
  plan_from p = record {
    begins = begins_from p.begins;
    ended = ap (λ (m : Machine). has_ended s (state_after s m p.begins.events)) (sym (start_is s n)) ∙ p.ended;
  }

pub plan_needs_no_output : PlanNeedsNoOutput
plan_needs_no_output s n test reads = record {
  begin = (begins_from s n test reads, begins_to s n test reads);
  are = (plan_from s n test reads, plan_to s n test reads);
}
