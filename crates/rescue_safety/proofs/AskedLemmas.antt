-- What is finished, or was given, no later read asks for.
use Rattle.std.proofs.Common.{◌≡◌, ⊎_elim, ℕ, zero, suc, ◌+◌, true, false, if◌then◌else◌, nat_eq, List, [], ◌∷◌, ◌++◌, take, All, Option, Some, None, refl, sym, ap, ◌∙◌, subst}
use Rattle.std.specs.List.{slice_get}
use Rattle.std.proofs.lemmas.Bool.{cases_Bool}
use Rattle.std.proofs.lemmas.List.Elements.{All-nil, All-cons, All-head, All-tail}
use Rattle.block_list.specs.declared.status.Status.{Status}
use Rattle.block_list.specs.declared.status.Status.TheVariants.{Finished}
use Rattle.block_list.specs.Map.{Has}
use Rattle.mapfile_text.specs.declared.state.MapState.{MapState}
use Rattle.faulty_source.specs.Journal.{Reading, kept, covers}
use Rattle.crash_site.specs.Files.{File}
use Rattle.rescue_rules.specs.Setting.{Setting, IsSensible}
use Rattle.rescue_rules.specs.Machine.{Machine}
use Rattle.rescue_rules.specs.MachineLaws.{AsksFor, IsInOrder, StepsBy}
use Rattle.rescue_rules.specs.Step.{Event}
use Rattle.rescue_rules.specs.Moves.{ready, move_of, IsRun}
use Rattle.rescue_rules.specs.Events.{began_at, reads_of}
use Rattle.rescue_rules.specs.Given.{given}
use Rattle.rescue_rules.specs.Stops.{files_before}
use Rattle.rescue_rules.specs.Work.{Gain, Goes, InMaps, AfterMaps, begins, events_in}
use Rattle.rescue_rules.proofs.FinishLemmas.{run_steps}
use Rattle.rescue_rules.proofs.GivenLemmas.{given_uncovered}
use Rattle.rescue_rules.proofs.GoesLemmas.{Course, Way, AnyMap, OneMap, way}
use Rattle.rescue_rules.proofs.MoveLemmas.{run_rest}
use Rattle.rescue_rules.proofs.PreparationLemmas.{prepares_no_finished}
use Rattle.rescue_rules.proofs.ReadyLemmas.{order_over, stays_ready}
use Rattle.rescue_rules.proofs.StepLemmas.{finished_unwanted}
use Rattle.rescue_safety.specs.Saves.{CallsFinished}
use Rattle.rescue_safety.specs.Safe.{Run, reads_until, by_then, gives, IsHeld}
use Rattle.rescue_safety.specs.Rescue.{Rescue, run_of}
use Rattle.rescue_safety.specs.AskedLaws.{NoneIsReadAgain, NothingIsReadTwice}
use Rattle.rescue_safety.proofs.BegunLemmas.{writes_in}
use Rattle.rescue_safety.proofs.ClaimLemmas.{Ran, goes_ran, never_some}
use Rattle.rescue_safety.proofs.FinishedLemmas.{StandsFinished, stands_finished}
use Rattle.rescue_safety.proofs.SafeLemmas.{s, g, b, on, ok, goes, map_is, seen_alone, safe_anywhere}

-- the reads by then are the first ones
pub until_front : (sector : ℕ) (rs : List Reading) (n : ℕ) → (rest : List Reading)
    × (rs ≡ reads_until sector n rs ++ rest)
until_front sector [] n = ([], refl)
until_front sector (r ∷ rs) zero = (r ∷ rs, refl)
until_front sector (r ∷ rs) (suc n) =
    let more = until_front sector rs (if nat_eq (kept sector r) 0 then suc n else n) in
    (more.0, ap (λ (l : List Reading). r ∷ l) more.1)

-- a read asks for other positions than x
abbrev AsksNot : ℕ → Reading → Type 0
AsksNot x r = AsksFor r x → ⊥

all_back : (x : ℕ) (rs qs : List Reading) → All (AsksNot x) (rs ++ qs) → All (AsksNot x) qs
all_back x [] qs all = all
all_back x (r ∷ rs) qs all = all_back x rs qs (All-tail (AsksNot x) r (rs ++ qs) all)

-- ---- a run

module _ (s : Setting) (ok : IsSensible s) (x : ℕ) where
  -- what was finished when it began, no read of it asks for
  finished_unasked : (m : Machine) (es : List Event) → IsInOrder s m → IsRun s m es → Has m.map Finished x
      → All (AsksNot x) (reads_of es)
  finished_unasked m [] order run has = All-nil (AsksNot x)
  finished_unasked m (e ∷ es) order run has =
      let b : StepsBy s (ready s m) e = run_steps s ok m e es order run in
      let here : Has (ready s m).map Finished x
      = ap (λ (map : List Status). slice_get map x) (stays_ready s m).map ∙ has in
      All-cons (AsksNot x) e.reading (reads_of es)
      (λ (a : AsksFor e.reading x). finished_unwanted s (ready s m) x here (b.wanted x a.from a.to))
      (finished_unasked (move_of s m e).after es b.order (run_rest s m e es run) (b.stays x here))

  -- what some reads gave, none asks for after them
  given_unasked : (m : Machine) (es : List Event) (before after : List Reading) (byte : ℕ) → IsInOrder s m
      → IsRun s m es → reads_of es ≡ before ++ after → given s.sector before x ≡ Some byte → All (AsksNot x) after
  given_unasked m es [] after byte order run is gave = absurd (never_some byte None refl gave)
  given_unasked m [] (r ∷ before) after byte order run is gave = absurd (cc)
  given_unasked m (e ∷ es) (r ∷ before) after byte order run is gave =
      let same : e.reading ≡ r = cc in
      let tail : reads_of es ≡ before ++ after = cc in
      let n : Machine = (move_of s m e).after in
      let b : StepsBy s (ready s m) e = run_steps s ok m e es order run in
      let rest : IsRun s n es = run_rest s m e es run in
      ⊎_elim
      (λ (on : covers s.sector e.reading x ≡ true).
      all_back x before after
      (subst (λ (rs : List Reading). All (AsksNot x) rs) tail
      (finished_unasked n es b.order rest (b.finishes x on))))
      (λ (off : covers s.sector e.reading x ≡ false).
      given_unasked n es before after byte b.order rest tail
      (sym (given_uncovered s.sector r before x (ap (λ (q : Reading). covers s.sector q x) (sym same) ∙ off)) ∙ gave))
      (cases_Bool (covers s.sector e.reading x))

-- ---- a rescue

unread_unasked : (x : ℕ) (before after : List Reading) → [] ≡ before ++ after → All (AsksNot x) after
unread_unasked x [] after is = subst (λ (rs : List Reading). All (AsksNot x) rs) is (All-nil (AsksNot x))
unread_unasked x (r ∷ before) after is = absurd (cc)

module _ (s : Setting) (ok : IsSensible s) (files : List ℕ → Option File) (before after : List Reading) (x byte : ℕ)
    (gave : given s.sector before x ≡ Some byte) where
  course_unasked : (began : List Status) (state : Option MapState) (g : Gain) → Course s began state g
      → g.reads ≡ before ++ after → All (AsksNot x) after
  course_unasked began state g c is =
      given_unasked s ok x (begins s began state g) (events_in g) before after byte
      (order_over s began state (began_at g.times)) c.run (c.reads ∙ is) gave

  way_unasked : (g : Gain) → Way s files g → g.reads ≡ before ++ after → All (AsksNot x) after
  way_unasked g (AnyMap any) is = course_unasked [] None g (any [] None) is
  way_unasked g (OneMap map at was course) is = course_unasked map at g course is

  goes_unasked : (g : Gain) → s.has_mapfile ≡ true → Goes s files g → g.reads ≡ before ++ after → All (AsksNot x) after
  goes_unasked g named (InMaps maps reads none broke) is = unread_unasked x before after (sym none ∙ is)
  goes_unasked g named (AfterMaps maps rest reads same goes_on) is =
      way_unasked (record g { calls = rest }) (way s files (record g { calls = rest }) named goes_on) is

later_unasked : (r : Rescue) (before after : List Reading) (x byte : ℕ) → (g r).reads ≡ before ++ after
    → gives (run_of r before) x ≡ Some byte → All (AsksNot x) after
later_unasked r before after x byte is gave =
    goes_unasked (s r) (ok r) (files_before (b r)) before after x byte gave (g r) (on r) (goes r) is

pub nothing_is_read_twice : NothingIsReadTwice
nothing_is_read_twice r reads before later after x byte seen is gave =
    All-head (AsksNot x) later after
    (later_unasked r before (later ∷ after) x byte (sym (seen_alone r reads seen) ∙ is) gave)

-- what the mapfile from before calls finished, no read asks for
old_unasked : (r : Rescue) (x : ℕ) → CallsFinished (files_before (b r) r.mapfile) x → All (AsksNot x) (g r).reads
old_unasked r x was =
    let was' : CallsFinished (files_before (b r) (s r).names.map) x
    = subst (λ (m : List ℕ). CallsFinished (files_before (b r) m) x) (sym (map_is r)) was in
    let f : StandsFinished (files_before (b r) (s r).names.map) (s r).end x
    = stands_finished (files_before (b r) (s r).names.map) (s r).end x was' in
    let ran : Ran (s r) f.map f.state (g r)
    = goes_ran (s r) (files_before (b r)) (g r) f.map f.state (on r) (goes r) f.stands in
    subst (λ (rs : List Reading). All (AsksNot x) rs) ran.reads
    (finished_unasked (s r) (ok r) x (begins (s r) f.map f.state (g r)) (events_in (g r))
    (order_over (s r) f.map f.state (began_at (g r).times)) ran.run
    (((prepares_no_finished (s r).domain (s r).try_again (s r).retrim f.map).each x).0 f.has))

pub none_is_read_again : NoneIsReadAgain
none_is_read_again r reads k files x seen le left is fin =
    let d : Run = by_then (run_of r reads) k in
    let held : IsHeld d k files = ((safe_anywhere r reads seen).safe k files le left).past_barrier is in
    let same : reads ≡ (g r).reads = seen_alone r reads seen in
    let cut = until_front r.command.options.sector reads (writes_in (take (k + 1) r.did.call.calls)) in (
      cut.0,
      cut.1,
      ⊎_elim
          (λ (was : CallsFinished (files_before (b r) r.mapfile) x).
          all_back x d.reads cut.0
          (subst (λ (rs : List Reading). All (AsksNot x) rs) (sym same ∙ cut.1) (old_unasked r x was)))
          (λ (gave : (byte : ℕ) × (gives (by_then (run_of r reads) k) x ≡ Some byte)).
          later_unasked r d.reads cut.0 x gave.0 (sym same ∙ cut.1) gave.1)
          (held.claimed x fin),
    )
