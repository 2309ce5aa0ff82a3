-- What answers work may have on one outside, whatever fails. For contracts, laws and proofs: no promise uses it.
use Rattle.std.specs.Prelude.{◌≡◌, ⊤, List, [], ◌∷◌}
use Rattle.crash_site.specs.declared.site.SiteCall.{SiteCall}
use Rattle.program_promise.specs.Work.{Deeds, Faults, WorkStep, Take, Look, Open, Make, Read, Works}

-- at most one answer meets this
abbrev pub IsOnce : {E : Type 0} → (E → Type 0) → Type 0
IsOnce {E} P = (v w : E) → P v → P w → v ≡ w

-- each refusal has one answer
abbrev pub RefuseOnce : {E : Type 0} → List (WorkStep E) → Type 0
RefuseOnce [] = ⊤
RefuseOnce (Take ∷ more) = RefuseOnce more
RefuseOnce {E} (Look refuses ∷ more) = IsOnce refuses × RefuseOnce more
RefuseOnce (Open name ∷ more) = RefuseOnce more
RefuseOnce (Make calls ∷ more) = RefuseOnce more
RefuseOnce (Read name file ∷ more) = RefuseOnce more

-- nothing is refused
abbrev pub RefuseNothing : {E : Type 0} → List (WorkStep E) → Type 0
RefuseNothing [] = ⊤
RefuseNothing (Take ∷ more) = RefuseNothing more
RefuseNothing {E} (Look refuses ∷ more) = ((v : E) → refuses v → ⊥) × RefuseNothing more
RefuseNothing (Open name ∷ more) = RefuseNothing more
RefuseNothing (Make calls ∷ more) = RefuseNothing more
RefuseNothing (Read name file ∷ more) = RefuseNothing more

-- verdicts: answers that aren't for a fault
pub record AreVerdicts {E : Type 0} (f : Faults E) (verdict : E → Type 0) : Type 0 where
  pub memory : verdict f.memory → ⊥
  pub input : verdict f.input → ⊥
  pub call : (call : SiteCall) → verdict (f.call call) → ⊥

-- If each refusal has one answer, and so has what is run after the steps, the work has one verdict at most.
abbrev pub HasOneVerdict : Type 1
HasOneVerdict = (E : Type 0) (f : Faults E) (verdict : E → Type 0) → AreVerdicts f verdict
    → (steps : List (WorkStep E)) (run : E → Deeds → Type 0) → RefuseOnce steps
    → ((e e' : E) (d d' : Deeds) → run e d → run e' d' → verdict e → verdict e' → e ≡ e')
    → (e e' : E) (d d' : Deeds) → Works f steps run e d → Works f steps run e' d' → verdict e → verdict e' → e ≡ e'
