-- What is shown step by step holds of the work.
use Rattle.std.proofs.Common.{◌≡◌, ℕ, List, [], ◌∷◌, ◌++◌, map, Some, None, refl, sym, inl, inr, subst}
use Rattle.crash_site.specs.declared.site.SiteCall.TheVariants.{MapRead}
use Rattle.crash_site.specs.Calls.{Call, Entry, Done as Returned}
use Rattle.program_promise.specs.Work.{Opening, Opened, Deeds, with_calls, with_opens, Faults, WorkStep, Take, Look, Open, Make, Read, Works}
use Rattle.program_promise.specs.Holds.{Holds, after_calls, after_open}

-- a property of deeds that a step's calls stand in front of
back : {E : Type 0} (P : E → Deeds → Type 0) (e : E) (d : Deeds) (calls : List Call) (rest : List Entry)
    → d.gain.calls ≡ map Returned calls ++ rest → P e (after_calls calls (with_calls d rest)) → P e d
back P e d calls rest is p = subst (λ (cs : List Entry). P e (with_calls d cs)) (sym is) p

back_open : {E : Type 0} (P : E → Deeds → Type 0) (e : E) (d : Deeds) (name : List ℕ) (rest : List Opening)
    → d.opens ≡ Opened name ∷ rest → P e (after_open name (with_opens d rest)) → P e d
back_open P e d name rest is p = subst (λ (os : List Opening). P e (with_opens d os)) (sym is) p

pub holds : {E : Type 0} (f : Faults E) (steps : List (WorkStep E)) (run P : E → Deeds → Type 0) → Holds f steps run P
    → (e : E) (d : Deeds) → Works f steps run e d → P e d
holds f [] run P h e d w = h e d w
holds f (Take ∷ more) run P h e d (inl (is, idle)) = subst (λ v. P v d) (sym is) (h.0 d idle)
holds f (Take ∷ more) run P h e d (inr w) = holds f more run P h.1 e d w
holds f (Look refuses ∷ more) run P h e d (inl (refused, idle)) = h.0 e d refused idle
holds f (Look refuses ∷ more) run P h e d (inr (passed, w)) = holds f more run P (h.1 passed) e d w
holds f (Open name ∷ more) run P h e d (inl (is, opens, gain)) = subst (λ v. P v d) (sym is) (h.0 d opens gain)
holds f (Open name ∷ more) run P h e d (inr (rest, is, w)) =
    back_open P e d name rest is (holds f more run (λ v x. P v (after_open name x)) h.1 e (with_opens d rest) w)
holds f (Make calls ∷ more) run P h e d (inl (call, is, broke, only)) =
    subst (λ v. P v d) (sym is) (h.0 call d broke only)
holds f (Make calls ∷ more) run P h e d (inr (rest, is, w)) =
    back P e d calls rest is (holds f more run (λ v x. P v (after_calls calls x)) h.1 e (with_calls d rest) w)
holds f (Read None file ∷ more) run P h e d (inl (is, idle)) = subst (λ v. P v d) (sym is) ((h.0 refl).0 d idle)
holds f (Read None file ∷ more) run P h e d (inr (none, w)) = holds f more run P ((h.0 refl).1 none) e d w
holds f (Read (Some n) file ∷ more) run P h e d (inl (load, is, begins, broke, only)) =
    subst (λ v. P v d) (sym is) ((h.1 n refl).0 load d begins broke only)
holds f (Read (Some n) file ∷ more) run P h e d (inr (inl (load, is, begins, all, only))) =
    subst (λ v. P v d) (sym is) ((h.1 n refl).1 load d begins all only)
holds f (Read (Some n) file ∷ more) run P h e d (inr (inr (load, rest, loaded, is, w))) =
    back P e d load rest is (holds f more run (λ v x. P v (after_calls load x)) ((h.1 n refl).2 load loaded) e (with_calls d rest) w)

-- What follows from that holds too.
pub holds_more : {E : Type 0} (f : Faults E) (steps : List (WorkStep E)) (run P Q : E → Deeds → Type 0)
    → ((e : E) (d : Deeds) → P e d → Q e d) → Holds f steps run P → Holds f steps run Q
holds_more f [] run P Q more h = λ e d r. more e d (h e d r)
holds_more f (Take ∷ steps) run P Q more h = ((λ d idle. more f.memory d (h.0 d idle)), holds_more f steps run P Q more h.1)
holds_more f (Look refuses ∷ steps) run P Q more h =
    ((λ e d r idle. more e d (h.0 e d r idle)), λ passed. holds_more f steps run P Q more (h.1 passed))
holds_more f (Open name ∷ steps) run P Q more h = (
  (λ d opens gain. more f.input d (h.0 d opens gain)),
  holds_more f steps run (λ e d. P e (after_open name d)) (λ e d. Q e (after_open name d))
      (λ e d. more e (after_open name d)) h.1,
)
holds_more f (Make calls ∷ steps) run P Q more h = (
  (λ call d broke only. more (f.call call) d (h.0 call d broke only)),
  holds_more f steps run (λ e d. P e (after_calls calls d)) (λ e d. Q e (after_calls calls d)) (λ e d. more e (after_calls calls d)) h.1,
)
holds_more f (Read name file ∷ steps) run P Q more h = (
  (λ no. ((λ d idle. more f.memory d ((h.0 no).0 d idle)), λ absent. holds_more f steps run P Q more ((h.0 no).1 absent))),
  λ n is. (
    (λ load d begins broke only. more (f.call MapRead) d ((h.1 n is).0 load d begins broke only)),
    (λ load d begins all only. more f.memory d ((h.1 n is).1 load d begins all only)),
    λ load loaded.
        holds_more f steps run (λ e d. P e (after_calls load d)) (λ e d. Q e (after_calls load d)) (λ e d. more e (after_calls load d))
        ((h.1 n is).2 load loaded),
  ),
)
