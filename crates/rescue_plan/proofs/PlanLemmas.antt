-- There is one plan at most, and what a rescue reads in test mode is the plan's.
use Rattle.std.proofs.Common.{◌≡◌, ⊎_elim, ℕ, ◌+◌, ◌≤◌, true, false, nat_lt, is_none, List, [], ◌∷◌, ◌++◌, length, map, take, All, None, slice_get, refl, sym, ap, subst, ◌∙◌, arith, length-append}
use Rattle.std.proofs.lemmas.Bool.{and_parts, cases_Bool, cond_both}
use Rattle.std.proofs.lemmas.List.{append-nil, length-take-le, nil_from_length}
use Rattle.std.proofs.lemmas.List.Elements.{All-nil, All-cons, All-head, All-tail}
use Rattle.block_list.specs.declared.status.Status.{Status}
use Rattle.faulty_source.specs.Journal.{Reading, is_whole}
use Rattle.rescue_domain.specs.Testing.{finished_front, seen}
use Rattle.rescue_domain.proofs.TestingLemmas.{front_is}
use Rattle.rescue_rules.specs.Setting.{Setting}
use Rattle.rescue_rules.specs.Passes.{Pass}
use Rattle.rescue_rules.specs.Machine.{Machine, is_live, has_taken, IsRequest}
use Rattle.rescue_rules.specs.Step.{Event, limit_met}
use Rattle.rescue_rules.specs.Moves.{ready, move_of, state_after, IsRun, no_pass_left, has_ended}
use Rattle.rescue_rules.specs.Beginning.{machine_over}
use Rattle.rescue_rules.specs.Events.{reads_of}
use Rattle.rescue_rules.proofs.MoveLemmas.{run_first, run_rest}
use Rattle.rescue_rules.proofs.RequestLemmas.{one_request}
use Rattle.rescue_rules.proofs.SearchLemmas.{wanted_found, request_seen}
use Rattle.ddrescue_words.specs.declared.options.Options.{Options}
use Rattle.ddrescue_words.proofs.CommandLemmas.{not_above}
use Rattle.rescue_sample.specs.Line.{IsStill}
use Rattle.task_files.specs.Asked.{setting_of}
use Rattle.ddrescueplan_words.specs.Command.{ArePlain}
use Rattle.plan_source.specs.Lines.{PlannedRead, planned}
use Rattle.plan_source.proofs.AnswerLemmas.{passed_eq}
use Rattle.rescue_plan.specs.Plan.{IsPlannedIn, BeginsPlan, IsPlan, untried_map, plan_setting, plan_start}
use Rattle.rescue_plan.specs.Laws.{AreUnlimited, BeginWith, EndsShort, PlanIsOne, RescuesArePlanned}
use Rattle.rescue_plan.proofs.SimilarLemmas.{IsUnlimited, SameShape, SameShapes, plain, quiet, ready_alike, request_alike, after_alike, run_alike, state_alike, ended_alike}

-- an event at the time 0
abbrev pub still : Event → Event
still e = record { reading = e.reading; before = 0; after = 0 }

reads_still : (es : List Event) → reads_of (map still es) ≡ reads_of es
reads_still [] = refl
reads_still (e ∷ es) = ap (λ (rs : List Reading). e.reading ∷ rs) (reads_still es)

shapes_still : (es : List Event) → SameShapes es (map still es)
shapes_still [] = tt
shapes_still (e ∷ es) = (record { pos = refl; asked = refl; given = refl; ended = refl }, shapes_still es)

are_still : (es : List Event) → All IsStill (map still es)
are_still [] = All-nil IsStill
are_still (e ∷ es) = All-cons IsStill (still e) (map still es) (record { before = refl; after = refl }) (are_still es)

-- the state in which a rescue begins over a map that wasn't tried
abbrev start_of_run : Setting → (n time : ℕ) → Machine
start_of_run s n time = machine_over s (untried_map n) None time

-- The reads of a run, at whatever times, in which each gives what is finished, are the first ones of a plan,
module _ (s : Setting) (u : IsUnlimited s) (n time : ℕ) (test : List Status) (es : List Event)
    (run : IsRun s (start_of_run s n time) es) (seen_all : All (IsPlannedIn test) (reads_of es)) where
  pub begins_by : BeginsPlan (plain s) n test (map planned (reads_of es))
  begins_by = record {
    events = map still es;
    still = are_still es;
    run = run_alike s u (start_of_run s n time) (plan_start (plain s) n) es (map still es) refl (shapes_still es) run;
    seen = subst (λ (rs : List Reading). All (IsPlannedIn test) rs) (sym (reads_still es)) seen_all;
    are = ap (map planned) (reads_still es);
  }

  -- and all of it where no request is left
  pub plan_by : has_ended s (state_after s (start_of_run s n time) es) ≡ true
      → IsPlan (plain s) n test (map planned (reads_of es))
  unfolding begins_by
  plan_by over = record {
    begins = begins_by;
    ended = ended_alike s u (state_after s (start_of_run s n time) es)
        (state_after (plain s) (plan_start (plain s) n) (map still es))
        (state_alike s u (start_of_run s n time) (plan_start (plain s) n) es (map still es) refl (shapes_still es)) over;
  }

-- ---- one plan

planned_same : (p a g p' a' g' : ℕ) → p ≡ p' → a ≡ a' → g ≡ g'
    → ◌≡◌ {A = PlannedRead} (record { pos = p; asked = a; given = g }) (record { pos = p'; asked = a'; given = g' })
planned_same p a g p' a' g' x y z =
    ap (λ (k : ℕ). record { pos = k; asked = a; given = g }) x
    ∙ ap (λ (k : ℕ). record { pos = p'; asked = k; given = g }) y
    ∙ ap (λ (k : ℕ). record { pos = p'; asked = a'; given = k }) z

no_passes : (ps : List Pass) → no_pass_left ps ≡ true → ps ≡ []
no_passes [] none = refl
no_passes (p ∷ ps) none = absurd (cc)

-- a state at the end has no request
none_asked : (s : Setting) (m : Machine) (p q : ℕ) → no_pass_left m.passes ≡ true → IsRequest s m p q → ⊥
none_asked s m p q none r =
    let x = wanted_found s m (request_seen s m p q r) in
    let taken : has_taken m.passes (slice_get m.map x.0) ≡ true =
    (and_parts (is_live s m x.0) (has_taken m.passes (slice_get m.map x.0)) x.1).1 in
    let off : false ≡ true = subst (λ (ps : List Pass). has_taken ps (slice_get m.map x.0) ≡ true)
    (no_passes m.passes none) taken in
    absurd (cc off)

module _ (s : Setting) (u : IsUnlimited s) (test : List Status) where
  -- Two runs from states that differ in times and counts alone, in which each read gives what is finished: the second one
  -- went on to its end, so it begins with the first.
  agree : (m k : Machine) (es fs : List Event) → quiet k ≡ quiet m → IsRun s m es → IsRun (plain s) k fs
      → All (IsPlannedIn test) (reads_of es) → All (IsPlannedIn test) (reads_of fs)
      → has_ended (plain s) (state_after (plain s) k fs) ≡ true
      → BeginWith (map planned (reads_of es)) (map planned (reads_of fs))
  agree m k [] fs same run run' seen_all seen_all' over = record { more = map planned (reads_of fs); are = refl }
  agree m k (e ∷ es) [] same run run' seen_all seen_all' over =
      let r : IsRequest (plain s) (ready (plain s) k) e.reading.pos (e.reading.pos + e.reading.asked) =
      request_alike s u (ready s m) (ready (plain s) k) e.reading.pos (e.reading.pos + e.reading.asked)
      (ready_alike s u m k same) (run_first s m e es run).request in
      let left = (and_parts (no_pass_left (ready (plain s) k).passes) (is_none (limit_met (plain s) k)) over).0 in
      absurd (none_asked (plain s) (ready (plain s) k) e.reading.pos (e.reading.pos + e.reading.asked) left r)
  agree m k (e ∷ es) (f ∷ fs) same run run' seen_all seen_all' over =
      let a = e.reading in
      let b = f.reading in
      let K : Machine = ready (plain s) k in
      let r : IsRequest (plain s) K a.pos (a.pos + a.asked) =
      request_alike s u (ready s m) K a.pos (a.pos + a.asked) (ready_alike s u m k same) (run_first s m e es run).request in
      let one = one_request (plain s) K a.pos (a.pos + a.asked) b.pos (b.pos + b.asked) r
      (run_first (plain s) k f fs run').request in
      let pos : b.pos ≡ a.pos = sym one.0 in
      let asked : b.asked ≡ a.asked = omega (arith, one.0, one.1) in
      let p : IsPlannedIn test a = All-head (IsPlannedIn test) a (reads_of es) seen_all in
      let q : IsPlannedIn test b = All-head (IsPlannedIn test) b (reads_of fs) seen_all' in
      let given : length b.given ≡ length a.given =
      q.given ∙ ap (λ (x : ℕ). finished_front test x b.asked) pos ∙ ap (finished_front test a.pos) asked ∙ sym p.given in
      let shape : SameShape a b = record { pos = pos; asked = asked; given = given; ended = q.ended ∙ sym p.ended } in
      let rest = agree (move_of s m e).after (move_of (plain s) k f).after es fs (after_alike s u m k e f same shape)
      (run_rest s m e es run) (run_rest (plain s) k f fs run')
      (All-tail (IsPlannedIn test) a (reads_of es) seen_all) (All-tail (IsPlannedIn test) b (reads_of fs) seen_all') over in
      record {
        more = rest.more;
        are = ap (λ (rs : List PlannedRead). planned a ∷ rs) rest.are
            ∙ ap (λ (r : PlannedRead). r ∷ map planned (reads_of fs))
            (planned_same a.pos a.asked (length a.given) b.pos b.asked (length b.given) (sym pos) (sym asked) (sym given));
      }

-- options of a plan set no limit
pub limits_none : (o : Options) → ArePlain o → AreUnlimited o
limits_none o are = record { rate = are.rate; limits = are.limits }

-- what such options ask for has no limit, and no read is slow
pub unlimited : (o : Options) (n : ℕ) → AreUnlimited o → IsUnlimited (plan_setting o n)
unlimited o n are = record { rate = are.rate; limits = are.limits }

pub begin_with : (o : Options) (n : ℕ) (test : List Status) (first reads : List PlannedRead) → AreUnlimited o
    → BeginsPlan (plan_setting o n) n test first → IsPlan (plan_setting o n) n test reads → BeginWith first reads
begin_with o n test first reads are b p =
    let s : Setting = plan_setting o n in
    let g = agree s (unlimited o n are) test (plan_start s n) (plan_start s n) b.events p.begins.events refl b.run
    p.begins.run b.seen p.begins.seen p.ended in
    record { more = g.more; are = ap (λ (rs : List PlannedRead). rs ++ g.more) (sym b.are) ∙ g.are ∙ p.begins.are }

-- lists that begin with each other are one
one_list : (xs ys : List PlannedRead) → BeginWith xs ys → BeginWith ys xs → xs ≡ ys
one_list xs ys f g =
    let none : length f.more ≡ 0 = omega (
      arith,
      ap length f.are,
      ap length g.are,
      length-append xs f.more,
      length-append ys g.more,
    ) in
    sym (append-nil xs) ∙ ap (λ (rs : List PlannedRead). xs ++ rs) (sym (nil_from_length f.more none)) ∙ f.are

pub plan_is_one : PlanIsOne
plan_is_one o n test reads are p = record {
  begins = λ first b. begin_with o n test first reads are b p;
  alone = λ other q. one_list other reads (begin_with o n test other reads are q.begins p)
      (begin_with o n test reads other are p.begins q);
}

-- ---- a rescue in test mode

-- a whole read doesn't meet the end
not_ended : (r : Reading) → is_whole r ≡ true → EndsShort r → r.ended ≡ false
not_ended r whole ends =
    ⊎_elim (λ (end : r.ended ≡ true). absurd (omega (arith, passed_eq (length r.given) r.asked whole, ends end)))
    (λ (on : r.ended ≡ false). on) (cases_Bool r.ended)

-- and is seen as one of a plan
seen_planned : (test : List Status) (r : Reading) → is_whole r ≡ true → r.ended ≡ false → IsPlannedIn test (seen test r)
seen_planned test r whole on =
    let n : ℕ = length r.given in
    let all : n ≡ r.asked = passed_eq n r.asked whole in
    let front : ℕ = finished_front test r.pos n in
    let few : front ≤ n = (front_is test r.pos n).few in
    cond_both (nat_lt front n) (record r { given = take front r.given; ended = false }) r (IsPlannedIn test)
    (λ less. record {
      given = length-take-le front r.given few ∙ ap (finished_front test r.pos) all;
      ended = refl;
    })
    (λ more. record {
      given =
          let is : n ≡ front = omega (arith, not_above front n more, few) in
          is ∙ ap (finished_front test r.pos) all;
      ended = on;
    })

all_seen : (test : List Status) (raw : List Reading) → All (λ r. is_whole r ≡ true) raw
    → All EndsShort raw → All (IsPlannedIn test) (map (seen test) raw)
all_seen test [] whole on = All-nil (IsPlannedIn test)
all_seen test (r ∷ raw) whole on =
    All-cons (IsPlannedIn test) (seen test r) (map (seen test) raw)
    (seen_planned test r (All-head (λ (r : Reading). is_whole r ≡ true) r raw whole)
    (not_ended r (All-head (λ (r : Reading). is_whole r ≡ true) r raw whole)
    (All-head EndsShort r raw on)))
    (all_seen test raw (All-tail (λ (r : Reading). is_whole r ≡ true) r raw whole)
    (All-tail EndsShort r raw on))

pub rescues_are_planned : RescuesArePlanned
rescues_are_planned c line n time test raw es are k =
    let s : Setting = setting_of c line n (record { domain = None; test = None; listed = None }) in
    let u : IsUnlimited s = record { rate = are.rate; limits = are.limits } in
    let run : IsRun s (start_of_run s n time) es =
    subst (λ (map : List Status). IsRun s (machine_over s map None time) es) k.fresh.map_is k.run in
    let seen_all : All (IsPlannedIn test) (reads_of es) =
    subst (λ (rs : List Reading). All (IsPlannedIn test) rs) k.seen_are (all_seen test raw k.whole k.ends) in
    record {
      first = begins_by s u n time test es run seen_all;
      all = λ over. plan_by s u n time test es run seen_all over;
    }
