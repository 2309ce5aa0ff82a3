-- What any stop of the kernel leaves, the site's record may leave.
use Rattle.std.proofs.Common.{◌≡◌, inl, inr, ℕ, suc, List, [], ◌∷◌, ◌++◌, length, Option, None, refl, sym, ◌∙◌, ap, subst, append-nil, append_assoc, length-append, arith}
use Rattle.std.proofs.lemmas.Bool.{cases_Bool}
use Rattle.kernel_files.specs.Volume.{Volume, Entry as Step, after as after_steps, IsAtRest}
use Rattle.kernel_files.specs.Stops.{Along}
use Rattle.crash_site.specs.Disk.{at_rest}
use Rattle.site_record.specs.Record.{Note}
use Rattle.kernel_laws.specs.Laws.{Deed, Runs, entries, steps_of, first_folder, IsLeft}
use Rattle.kernel_laws.specs.Deeds.{deeds_of, total, RunsTo}
use Rattle.kernel_laws.specs.Site.{AlongDeeds, AreLeft, AnyStopIsLeft}
use Rattle.kernel_laws.proofs.Stops.{run_append}
use Rattle.kernel_laws.proofs.Refined.{each_stop, each_end}
use Rattle.kernel_laws.proofs.Deeds.{steps_append, steps_all, runs_to_runs}

-- from some deeds of a run on
along_deeds : (v : Volume) (all : List Deed) → IsAtRest v → Runs v (at_rest (first_folder v)) None None all
    → (later before : List Deed) → before ++ later ≡ all
    → AlongDeeds (IsLeft (first_folder v) (entries all)) (length before) (after_steps v (steps_of before)) later
along_deeds v all rest run [] before is =
    subst (λ (l : List Deed). IsLeft (first_folder v) (entries all) (length l) (after_steps v (steps_of l)))
    (sym (sym (append-nil before) ∙ is)) (each_end v all rest run)
along_deeds v all rest run (a ∷ later) before is =
    let w : Volume = after_steps v (steps_of before) in
    let here : Along (IsLeft (first_folder v) (entries all) (length before)) w a.steps =
    subst (λ (l : List Deed). Along (IsLeft (first_folder v) (entries l) (length before)) w a.steps) is
    (each_stop v before a later rest
    (subst (λ (l : List Deed). Runs v (at_rest (first_folder v)) None None l) (sym is) run)) in
    let reached : after_steps v (steps_of (before ++ a ∷ [])) ≡ after_steps w a.steps =
    ap (λ (l : List Step). after_steps v l) (steps_append before (a ∷ []))
    ∙ ap (λ (l : List Step). after_steps v (steps_of before ++ l)) (append-nil a.steps)
    ∙ run_append v (steps_of before) a.steps in
    let count : length (before ++ a ∷ []) ≡ suc (length before) =
    length-append before (a ∷ []) ∙ omega arith in
    let next : AlongDeeds (IsLeft (first_folder v) (entries all)) (suc (length before)) (after_steps w a.steps) later =
    subst (λ (u : Volume). AlongDeeds (IsLeft (first_folder v) (entries all)) (suc (length before)) u later) reached
    (subst (λ (k : ℕ). AlongDeeds (IsLeft (first_folder v) (entries all)) k
    (after_steps v (steps_of (before ++ a ∷ []))) later) count
    (along_deeds v all rest run later (before ++ a ∷ []) (append_assoc before (a ∷ []) later ∙ is))) in
    (here, next)

run_is_left : (v : Volume) (ns : List Note) (es : List Step) (p q : Option ℕ) → total ns ≡ length es → IsAtRest v
    → RunsTo v (at_rest (first_folder v)) None None (deeds_of ns es) p q → AreLeft v ns es
run_is_left v ns es p q counted rest run = (
  steps_all ns es counted,
  along_deeds v (deeds_of ns es) rest
      (runs_to_runs (deeds_of ns es) v (at_rest (first_folder v)) None None p q run) (deeds_of ns es) [] refl,
)

pub any_stop_is_left : AnyStopIsLeft
any_stop_is_left v ns es o h suits =
    elim (cases_Bool o.is_dropped) [
      | inl dropped ↦
          let gone = h.gone dropped suits in run_is_left v ns es gone.0 gone.1 h.counted suits.rest gone.2
      | inr kept ↦ run_is_left v ns es o.draft o.image h.counted suits.rest (h.run kept suits).runs
    ]
