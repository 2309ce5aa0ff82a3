-- A part of some work: rows in which it stopped, or through which it went.
use Rattle.std.specs.Prelude.{◌≡◌, IsTrue, List, [], ◌∷◌, ◌++◌, map, Option, Some, None, Result, Ok, Err}
use Rattle.crash_site.specs.Files.{File}
use Rattle.crash_site.specs.Calls.{Call, Entry, Done as Returned}
use Rattle.crash_site.specs.SiteState.{SiteState}
use Rattle.mapfile_save.specs.Loading.{IsLoad}
use Rattle.program_promise.specs.Work.{Deeds, Faults, WorkStep, Take, Look, Open, Make, Read, Works}

-- calls on the files, and nothing else
abbrev pub only_calls : List Entry → Deeds
only_calls calls = record { opens = []; gain = record { calls = calls; reads = []; times = [] } }

-- the work stopped in one of these rows, by these calls
abbrev pub StoppedIn : {E : Type 0} → Faults E → List (WorkStep E) → E → List Entry → Type 0
StoppedIn {E} f rows e calls = Works f rows (λ v d. ⊥) e (only_calls calls)

-- the work went through all of these rows, by these calls
abbrev pub WentThrough : {E : Type 0} → List (WorkStep E) → List Entry → Type 0
WentThrough [] calls = calls ≡ []
WentThrough (Take ∷ more) calls = WentThrough more calls
WentThrough {E} (Look refuses ∷ more) calls = ((v : E) → refuses v → ⊥) × WentThrough more calls
WentThrough (Open name ∷ more) calls = ⊥
WentThrough (Make made ∷ more) calls =
    (rest : List Entry) × (calls ≡ map Returned made ++ rest) × WentThrough more rest
WentThrough (Read None file ∷ more) calls = (file ≡ None) × WentThrough more calls
WentThrough (Read (Some name) file ∷ more) calls =
    (load : List Call) × (rest : List Entry) × IsLoad name file load × (calls ≡ map Returned load ++ rest)
    × WentThrough more rest

-- the work went through all of these rows or stopped in one of them, by the outcome
abbrev pub Did : {E T : Type 0} → Faults E → List (WorkStep E) → (T → Type 0) → Result T E → List Entry → Type 0
Did f rows Holds (Ok x) calls = Holds x × WentThrough rows calls
Did f rows Holds (Err e) calls = StoppedIn f rows e calls

-- What rows did that find one file: there is such a file, of which what came of it holds, and there are calls. If the
-- site tells, these are its own.
pub record DidPart {E T : Type 0} (f : Faults E) (rows : Option File → List (WorkStep E)) (own : Option File)
    (Holds : T → Option File → Type 0) (result : Result T E) (old new : SiteState) : Type 0 where
  pub file : Option File
  pub calls : List Entry
  pub is_own : IsTrue old.tells → file ≡ own
  pub gained : IsTrue old.tells → new.calls ≡ old.calls ++ calls
  pub did : Did f (rows file) (λ x. Holds x file) result calls
