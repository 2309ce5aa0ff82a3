-- What an answer of any work is: one of a row that it stopped in, or one of the run after the rows.
use Rattle.mapfile_save.specs.Loading.{IsLoad}
use Rattle.crash_site.specs.Calls.{Call, Entry, Done as Returned}
use Rattle.crash_site.specs.Files.{File}
use Rattle.std.specs.Bool.{⊤}
use Rattle.std.proofs.Common.{◌≡◌, ◌⊎◌, List, [], ◌∷◌, Some, None, refl, sym, ◌∙◌, inl, inr, ℕ, ◌++◌, map, Option}
use Rattle.crash_site.specs.declared.site.SiteCall.{SiteCall}
use Rattle.crash_site.specs.declared.site.SiteCall.TheVariants.{MapRead}
use Rattle.mapfile_save.specs.Saving.{IsNameIn}
use Rattle.program_promise.specs.Work.{Deeds, Faults, WorkStep, Take, Look, Open, Make, Read, Works, Opening, with_calls, with_opens}
use Rattle.program_promise.proofs.GainLemmas.{broke_named}

-- one of the rows makes this call
abbrev pub IsCalled : {E : Type 0} → SiteCall → List (WorkStep E) → Type 0
IsCalled call [] = ⊥
IsCalled call (Take ∷ more) = IsCalled call more
IsCalled call (Look refuses ∷ more) = IsCalled call more
IsCalled call (Open name ∷ more) = IsCalled call more
IsCalled call (Make calls ∷ more) = IsNameIn call calls ⊎ IsCalled call more
IsCalled call (Read name file ∷ more) = (call ≡ MapRead) ⊎ IsCalled call more

-- one of them refuses so
abbrev pub IsRefused : {E : Type 0} → List (WorkStep E) → E → Type 0
IsRefused [] e = ⊥
IsRefused (Take ∷ more) e = IsRefused more e
IsRefused (Look refuses ∷ more) e = refuses e ⊎ IsRefused more e
IsRefused (Open name ∷ more) e = IsRefused more e
IsRefused (Make calls ∷ more) e = IsRefused more e
IsRefused (Read name file ∷ more) e = IsRefused more e

-- where they read no name, they found no file
abbrev pub FindNone : {E : Type 0} → List (WorkStep E) → Type 0
FindNone [] = ⊤
FindNone (Take ∷ more) = FindNone more
FindNone (Look refuses ∷ more) = FindNone more
FindNone (Open name ∷ more) = FindNone more
FindNone (Make calls ∷ more) = FindNone more
FindNone (Read name file ∷ more) = (name ≡ None → file ≡ None) × FindNone more

-- an answer of work that stopped in one of the rows
pub data Stops {E : Type 0} (f : Faults E) (steps : List (WorkStep E)) (e : E) : Type 0 where
  Starved : e ≡ f.memory → Stops f steps e
  Unopened : e ≡ f.input → Stops f steps e
  Broken : (call : SiteCall) → e ≡ f.call call → IsCalled call steps → Stops f steps e
  Refused : IsRefused steps e → Stops f steps e

-- the work stopped in a row, and then nothing was read, or it went on to its run, which did all that was read
pub data Came {E : Type 0} (f : Faults E) (steps : List (WorkStep E)) (run : E → Deeds → Type 0) (e : E) (d : Deeds)
    : Type 0 where
  Stopped : Stops f steps e → d.gain.reads ≡ [] → Came f steps run e d
  Went : (x : Deeds) → run e x → x.gain.reads ≡ d.gain.reads → FindNone steps → Came f steps run e d

-- after one more row
called_later : {E : Type 0} (s : WorkStep E) (more : List (WorkStep E)) (call : SiteCall) → IsCalled call more → IsCalled call (s ∷ more)
called_later (Make calls) more call called = inr called
called_later (Read name file) more call called = inr called
called_later _ more call called = called

refused_later : {E : Type 0} (s : WorkStep E) (more : List (WorkStep E)) (e : E) → IsRefused more e → IsRefused (s ∷ more) e
refused_later (Look refuses) more e refused = inr refused
refused_later _ more e refused = refused

stops_later : {E : Type 0} (f : Faults E) (s : WorkStep E) (more : List (WorkStep E)) (e : E) → Stops f more e → Stops f (s ∷ more) e
stops_later f s more e (Starved is) = Starved is
stops_later f s more e (Unopened is) = Unopened is
stops_later f s more e (Broken call is called) = Broken call is (called_later s more call called)
stops_later f s more e (Refused refused) = Refused (refused_later s more e refused)

came_later : {E : Type 0} (f : Faults E) (s : WorkStep E) (more : List (WorkStep E)) (run : E → Deeds → Type 0) (e : E) (d x : Deeds)
    → x.gain.reads ≡ d.gain.reads → (FindNone more → FindNone (s ∷ more)) → Came f more run e x → Came f (s ∷ more) run e d
came_later f s more run e d x same none (Stopped stops unread) = Stopped (stops_later f s more e stops) (sym same ∙ unread)
came_later f s more run e d x same none (Went y ran reads found) = Went y ran (reads ∙ same) (none found)

pub came : {E : Type 0} (f : Faults E) (steps : List (WorkStep E)) (run : E → Deeds → Type 0) (e : E) (d : Deeds)
    → Works f steps run e d → Came f steps run e d
came f [] run e d w = Went d w refl tt
came f (Take ∷ more) run e d (inl (is, idle)) = Stopped (Starved is) idle.gain.reads
came f (Take ∷ more) run e d (inr w) = came_later f Take more run e d d refl (λ none. none) (came f more run e d w)
came f (Look refuses ∷ more) run e d (inl (refused, idle)) = Stopped (Refused (inl refused)) idle.gain.reads
came f (Look refuses ∷ more) run e d (inr (passed, w)) =
    came_later f (Look refuses) more run e d d refl (λ none. none) (came f more run e d w)
came f (Open name ∷ more) run e d (inl (is, opens, gain)) = Stopped (Unopened is) gain.reads
came f (Open name ∷ more) run e d (inr (rest, is, w)) =
    came_later f (Open name) more run e d _ refl (λ none. none) (came f more run e _ w)
came f (Make calls ∷ more) run e d (inl (call, is, broke, only)) =
    Stopped (Broken call is (inl (broke_named call calls [] d.gain.calls broke))) only.reads
came f (Make calls ∷ more) run e d (inr (rest, is, w)) =
    came_later f (Make calls) more run e d _ refl (λ none. none) (came f more run e _ w)
came f (Read None file ∷ more) run e d (inl (is, idle)) = Stopped (Starved is) idle.gain.reads
came f (Read None file ∷ more) run e d (inr (none, w)) =
    came_later f (Read None file) more run e d d refl (λ found. ((λ is. none), found)) (came f more run e d w)
came f (Read (Some name) file ∷ more) run e d (inl (load, is, begins, broke, only)) =
    Stopped (Broken MapRead is (inl refl)) only.reads
came f (Read (Some name) file ∷ more) run e d (inr (inl (load, is, begins, all, only))) = Stopped (Starved is) only.reads
came f (Read (Some name) file ∷ more) run e d (inr (inr (load, rest, loaded, is, w))) =
    came_later f (Read (Some name) file) more run e d _ refl (λ found. ((λ none. absurd (cc)), found)) (came f more run e _ w)

-- a load of the file of a name, if there is a name
abbrev pub IsLoadIf : Option (List ℕ) → Option File → List Call → Type 0
IsLoadIf None file load = load ≡ []
IsLoadIf (Some name) file load = IsLoad name file load

-- what was done in rows that the work went through, and then by its run
abbrev pub Passed : {E : Type 0} → List (WorkStep E) → (E → Deeds → Type 0) → E → Deeds → Type 0
Passed [] run e d = run e d
Passed (Take ∷ more) run e d = Passed more run e d
Passed (Look refuses ∷ more) run e d = Passed more run e d
Passed (Open name ∷ more) run e d = (rest : List Opening) × Passed more run e (with_opens d rest)
Passed (Make calls ∷ more) run e d =
    (rest : List Entry) × (d.gain.calls ≡ map Returned calls ++ rest) × Passed more run e (with_calls d rest)
Passed (Read name file ∷ more) run e d =
    (load : List Call) × (rest : List Entry) × IsLoadIf name file load × (d.gain.calls ≡ map Returned load ++ rest)
    × Passed more run e (with_calls d rest)

-- an answer of which no row stops is one of the run after them all
pub passed : {E : Type 0} (f : Faults E) (steps : List (WorkStep E)) (run : E → Deeds → Type 0) (e : E) (d : Deeds)
    → (Stops f steps e → ⊥) → Works f steps run e d → Passed steps run e d
passed f [] run e d never w = w
passed f (Take ∷ more) run e d never (inl (is, idle)) = absurd (never (Starved is))
passed f (Take ∷ more) run e d never (inr w) = passed f more run e d (λ s. never (stops_later f Take more e s)) w
passed f (Look refuses ∷ more) run e d never (inl (refused, idle)) = absurd (never (Refused (inl refused)))
passed f (Look refuses ∷ more) run e d never (inr (accepted, w)) =
    passed f more run e d (λ s. never (stops_later f (Look refuses) more e s)) w
passed f (Open name ∷ more) run e d never (inl (is, opens, gain)) = absurd (never (Unopened is))
passed f (Open name ∷ more) run e d never (inr (rest, is, w)) =
    (rest, passed f more run e (with_opens d rest) (λ s. never (stops_later f (Open name) more e s)) w)
passed f (Make calls ∷ more) run e d never (inl (call, is, broke, only)) =
    absurd (never (Broken call is (inl (broke_named call calls [] d.gain.calls broke))))
passed f (Make calls ∷ more) run e d never (inr (rest, is, w)) =
    (rest, is, passed f more run e (with_calls d rest) (λ s. never (stops_later f (Make calls) more e s)) w)
passed f (Read None file ∷ more) run e d never (inl (is, idle)) = absurd (never (Starved is))
passed f (Read None file ∷ more) run e d never (inr (none, w)) =
    ([], d.gain.calls, refl, refl, passed f more run e d (λ s. never (stops_later f (Read None file) more e s)) w)
passed f (Read (Some name) file ∷ more) run e d never (inl (load, is, begins, broke, only)) =
    absurd (never (Broken MapRead is (inl refl)))
passed f (Read (Some name) file ∷ more) run e d never (inr (inl (load, is, begins, all, only))) = absurd (never (Starved is))
passed f (Read (Some name) file ∷ more) run e d never (inr (inr (load, rest, loaded, is, w))) = (
  load,
  rest,
  loaded,
  is,
  passed f more run e (with_calls d rest) (λ s. never (stops_later f (Read (Some name) file) more e s)) w,
)
