-- Any work in steps has one verdict, and goes on to its run where nothing is refused and nothing fails.
use Rattle.std.proofs.Common.{◌≡◌, List, [], ◌∷◌, Some, None, inl, inr, subst}
use Rattle.crash_site.specs.declared.site.SiteCall.TheVariants.{MapRead}
use Rattle.program_promise.specs.Work.{Deeds, Faults, WorkStep, Take, Look, Open, Make, Read, Works}
use Rattle.program_promise.specs.Verdicts.{RefuseOnce, RefuseNothing, AreVerdicts, HasOneVerdict}

-- two answers of one work on the same outside, each for no fault, are one
verdict_of : {E : Type 0} (f : Faults E) (V : E → Type 0) → AreVerdicts f V → (steps : List (WorkStep E)) (run : E → Deeds → Type 0)
    → RefuseOnce steps → ((e e' : E) (d d' : Deeds) → run e d → run e' d' → V e → V e' → e ≡ e')
    → (e e' : E) (d d' : Deeds) → Works f steps run e d → Works f steps run e' d' → V e → V e' → e ≡ e'
verdict_of f V never [] run once last e e' d d' w w' v v' = last e e' d d' w w' v v'
verdict_of f V never (Take ∷ more) run once last e e' d d' (inl (is, idle)) w' v v' = absurd (never.memory (subst V is v))
verdict_of f V never (Take ∷ more) run once last e e' d d' (inr w) (inl (is, idle)) v v' = absurd (never.memory (subst V is v'))
verdict_of f V never (Take ∷ more) run once last e e' d d' (inr w) (inr w') v v' = verdict_of f V never more run once last e e' d d' w w' v v'
verdict_of f V never (Look refuses ∷ more) run once last e e' d d' (inl (r, idle)) (inl (r', idle')) v v' = once.0 e e' r r'
verdict_of f V never (Look refuses ∷ more) run once last e e' d d' (inl (r, idle)) (inr (passed, w')) v v' = absurd (passed e r)
verdict_of f V never (Look refuses ∷ more) run once last e e' d d' (inr (passed, w)) (inl (r', idle')) v v' = absurd (passed e' r')
verdict_of f V never (Look refuses ∷ more) run once last e e' d d' (inr (passed, w)) (inr (passed', w')) v v' =
    verdict_of f V never more run once.1 last e e' d d' w w' v v'
verdict_of f V never (Open name ∷ more) run once last e e' d d' (inl (is, opens, gain)) w' v v' = absurd (never.input (subst V is v))
verdict_of f V never (Open name ∷ more) run once last e e' d d' (inr (rest, is, w)) (inl (is', opens, gain)) v v' =
    absurd (never.input (subst V is' v'))
verdict_of f V never (Open name ∷ more) run once last e e' d d' (inr (rest, is, w)) (inr (rest', is', w')) v v' =
    verdict_of f V never more run once last e e' _ _ w w' v v'
verdict_of f V never (Make calls ∷ more) run once last e e' d d' (inl (call, is, broke, only)) w' v v' =
    absurd (never.call call (subst V is v))
verdict_of f V never (Make calls ∷ more) run once last e e' d d' (inr (rest, is, w)) (inl (call, is', broke, only)) v v' =
    absurd (never.call call (subst V is' v'))
verdict_of f V never (Make calls ∷ more) run once last e e' d d' (inr (rest, is, w)) (inr (rest', is', w')) v v' =
    verdict_of f V never more run once last e e' _ _ w w' v v'
verdict_of f V never (Read None file ∷ more) run once last e e' d d' (inl (is, idle)) w' v v' = absurd (never.memory (subst V is v))
verdict_of f V never (Read None file ∷ more) run once last e e' d d' (inr (none, w)) (inl (is, idle)) v v' =
    absurd (never.memory (subst V is v'))
verdict_of f V never (Read None file ∷ more) run once last e e' d d' (inr (none, w)) (inr (none', w')) v v' =
    verdict_of f V never more run once last e e' d d' w w' v v'
verdict_of f V never (Read (Some n) file ∷ more) run once last e e' d d' (inl (load, is, begins, broke, only)) w' v v' =
    absurd (never.call MapRead (subst V is v))
verdict_of f V never (Read (Some n) file ∷ more) run once last e e' d d' (inr (inl (load, is, begins, all, only))) w' v v' =
    absurd (never.memory (subst V is v))
verdict_of f V never (Read (Some n) file ∷ more) run once last e e' d d' (inr (inr w)) (inl (load, is, begins, broke, only)) v v' =
    absurd (never.call MapRead (subst V is v'))
verdict_of f V never (Read (Some n) file ∷ more) run once last e e' d d' (inr (inr w)) (inr (inl (load, is, begins, all, only))) v v' =
    absurd (never.memory (subst V is v'))
verdict_of f V never (Read (Some n) file ∷ more) run once last e e' d d' (inr (inr (load, rest, loaded, is, w)))
    (inr (inr (load', rest', loaded', is', w'))) v v' =
    verdict_of f V never more run once last e e' _ _ w w' v v'

pub one_verdict : HasOneVerdict
one_verdict E f V never steps run once last e e' d d' w w' v v' = verdict_of f V never steps run once last e e' d d' w w' v v'

-- where nothing is refused, an answer for no fault is one of the run
pub goes_to_run : {E : Type 0} (f : Faults E) (V : E → Type 0) → AreVerdicts f V → (steps : List (WorkStep E)) (run : E → Deeds → Type 0)
    → RefuseNothing steps → (e : E) (d : Deeds) → Works f steps run e d → V e → (did : Deeds) × run e did
goes_to_run f V never [] run pass e d w v = (d, w)
goes_to_run f V never (Take ∷ more) run pass e d (inl (is, idle)) v = absurd (never.memory (subst V is v))
goes_to_run f V never (Take ∷ more) run pass e d (inr w) v = goes_to_run f V never more run pass e d w v
goes_to_run f V never (Look refuses ∷ more) run pass e d (inl (r, idle)) v = absurd (pass.0 e r)
goes_to_run f V never (Look refuses ∷ more) run pass e d (inr (passed, w)) v = goes_to_run f V never more run pass.1 e d w v
goes_to_run f V never (Open name ∷ more) run pass e d (inl (is, opens, gain)) v = absurd (never.input (subst V is v))
goes_to_run f V never (Open name ∷ more) run pass e d (inr (rest, is, w)) v = goes_to_run f V never more run pass e _ w v
goes_to_run f V never (Make calls ∷ more) run pass e d (inl (call, is, broke, only)) v = absurd (never.call call (subst V is v))
goes_to_run f V never (Make calls ∷ more) run pass e d (inr (rest, is, w)) v = goes_to_run f V never more run pass e _ w v
goes_to_run f V never (Read None file ∷ more) run pass e d (inl (is, idle)) v = absurd (never.memory (subst V is v))
goes_to_run f V never (Read None file ∷ more) run pass e d (inr (none, w)) v = goes_to_run f V never more run pass e d w v
goes_to_run f V never (Read (Some n) file ∷ more) run pass e d (inl (load, is, begins, broke, only)) v =
    absurd (never.call MapRead (subst V is v))
goes_to_run f V never (Read (Some n) file ∷ more) run pass e d (inr (inl (load, is, begins, all, only))) v =
    absurd (never.memory (subst V is v))
goes_to_run f V never (Read (Some n) file ∷ more) run pass e d (inr (inr (load, rest, loaded, is, w))) v =
    goes_to_run f V never more run pass e _ w v
