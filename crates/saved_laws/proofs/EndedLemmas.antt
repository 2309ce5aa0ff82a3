-- What a rescue did at its end, unless a call on its files failed.
use Rattle.std.proofs.Common.{◌≡◌, ◌⊎◌, inl, inr, ⊎_elim, ℕ, ◌≤◌, true, List, [], ◌∷◌, ◌++◌, drop, map, Option, Some, None, option_map, is_some, refl, sym, ap, ◌∙◌, subst, arith}
use Rattle.std.proofs.lemmas.List.{length-drop, map-append}
use Rattle.block_list.specs.declared.status.Status.{Status}
use Rattle.mapfile_text.specs.declared.state.MapState.{MapState}
use Rattle.crash_site.specs.declared.site.SiteCall.{SiteCall}
use Rattle.crash_site.specs.Files.{File}
use Rattle.crash_site.specs.Calls.{Call, Entry, Done as Returned, image_open}
use Rattle.mapfile_save.specs.MapNames.{names_of}
use Rattle.rescue_rules.specs.declared.stop.Stop.{Stop}
use Rattle.rescue_rules.specs.declared.stop.RunEnd.{RunEnd}
use Rattle.rescue_rules.specs.Setting.{Setting}
use Rattle.rescue_rules.specs.Start.{Stands}
use Rattle.rescue_rules.specs.Machine.{Machine}
use Rattle.rescue_rules.specs.Step.{Event}
use Rattle.rescue_rules.specs.Events.{reads_of}
use Rattle.rescue_rules.specs.RunCalls.{run_calls, end_calls}
use Rattle.rescue_rules.specs.Stops.{is_settle}
use Rattle.rescue_rules.specs.Work.{Gain, begins, events_in, mapfile_in, Ends, IsSaved as RunSaved, IsUnsaved, IsBroken}
use Rattle.rescue_rules.proofs.GoesLemmas.{timed}
use Rattle.program_promise.specs.Work.{Deeds, Faults, WorkStep, Take, Look, Open, Make, Read, Works, with_calls, with_opens}
use Rattle.program_promise.proofs.AnswerLemmas.{Passed}
use Rattle.program_promise.proofs.FrontLemmas.{made_both}
use Rattle.task_files.specs.declared.ending.Ending.{Ending}
use Rattle.task_files.specs.declared.ending.Ending.TheVariants.{SiteFault}
use Rattle.task_files.specs.Asked.{Maps, setting_of}
use Rattle.task_files.specs.Maps.{found_in, mapfile_of}
use Rattle.task_files.specs.Work.{answer_of, Rescues, rescue_faults, rescue_rows, worked_rows, barrier_of}
use Rattle.ddrescue_words.specs.Command.{Command}
use Rattle.rescue_safety.proofs.BegunLemmas.{count_both}
use Rattle.rescue_safety.proofs.SettleLemmas.{settled}
use Rattle.ddrescue_laws.proofs.DoneLemmas.{file_in}

-- work that read nothing, or went through its rows
passed_or : {E : Type 0} (f : Faults E) (steps : List (WorkStep E)) (run : E → Deeds → Type 0) (e : E) (d : Deeds)
    → Works f steps run e d → (d.gain.reads ≡ []) ⊎ Passed steps run e d
passed_or f [] run e d w = inr w
passed_or f (Take ∷ more) run e d (inl (is, idle)) = inl idle.gain.reads
passed_or f (Take ∷ more) run e d (inr w) = passed_or f more run e d w
passed_or f (Look refuses ∷ more) run e d (inl (refused, idle)) = inl idle.gain.reads
passed_or f (Look refuses ∷ more) run e d (inr (accepted, w)) = passed_or f more run e d w
passed_or f (Open name ∷ more) run e d (inl (is, opens, gain)) = inl gain.reads
passed_or f (Open name ∷ more) run e d (inr (rest, is, w)) =
    ⊎_elim (λ (none : d.gain.reads ≡ []). inl none)
    (λ (p : Passed more run e (with_opens d rest)). inr (rest, p)) (passed_or f more run e (with_opens d rest) w)
passed_or f (Make calls ∷ more) run e d (inl (call, is, broke, only)) = inl only.reads
passed_or f (Make calls ∷ more) run e d (inr (rest, is, w)) =
    ⊎_elim (λ (none : d.gain.reads ≡ []). inl none)
    (λ (p : Passed more run e (with_calls d rest)). inr (rest, is, p)) (passed_or f more run e (with_calls d rest) w)
passed_or f (Read None file ∷ more) run e d (inl (is, idle)) = inl idle.gain.reads
passed_or f (Read None file ∷ more) run e d (inr (none, w)) =
    ⊎_elim (λ (none : d.gain.reads ≡ []). inl none)
    (λ (p : Passed more run e d). inr ([], d.gain.calls, refl, refl, p)) (passed_or f more run e d w)
passed_or f (Read (Some name) file ∷ more) run e d (inl (load, is, begins, broke, only)) = inl only.reads
passed_or f (Read (Some name) file ∷ more) run e d (inr (inl (load, is, begins, all, only))) = inl only.reads
passed_or f (Read (Some name) file ∷ more) run e d (inr (inr (load, rest, loaded, is, w))) =
    ⊎_elim (λ (none : d.gain.reads ≡ []). inl none)
    (λ (p : Passed more run e (with_calls d rest)). inr (load, rest, loaded, is, p)) (passed_or f more run e (with_calls d rest) w)

-- no call on the files failed, by an answer
abbrev pub NoneFailed : Ending → Type 0
NoneFailed e = (call : SiteCall) (earlier : Option Stop) → e ≡ SiteFault call earlier → ⊥

-- the calls of a run, and of its end
abbrev pub last_calls : Setting → Machine → List Event → List Entry
last_calls s m es = map Returned (run_calls s m es ++ end_calls s m es)

ends_saved : (s : Setting) (m : Machine) (events : List Event) (calls : List Entry) (e : Ending) (end : RunEnd)
    → NoneFailed e → e ≡ answer_of end → Ends s m events calls end → calls ≡ last_calls s m events
ends_saved s m events calls e end none is (RunSaved stop ends same all) = all
ends_saved s m events calls e end none is (IsUnsaved stop call ends same broke) =
    absurd (none call stop (is ∙ ap answer_of same))
ends_saved s m events calls e end none is (IsBroken before last call split same broke) =
    absurd (none call None (is ∙ ap answer_of same))

-- what a rescue did whose calls all returned
pub record EndedWork (s : Setting) (files : List ℕ → Option File) (g : Gain) : Type 0 where
  pub front : List Entry
  pub statuses : List Status
  pub state : Option MapState
  pub stands : Stands (mapfile_in s files) s.end statuses state
  pub reads : reads_of (events_in g) ≡ g.reads
  pub settles : s.has_mapfile ≡ true → 1 ≤ settled front
  pub calls : g.calls ≡ front ++ last_calls s (begins s statuses state g) (events_in g)

-- the barrier settles a mapfile
barrier_settles : (mapfile : Option (List ℕ)) → is_some (option_map names_of mapfile) ≡ true
    → 1 ≤ settled (map Returned (barrier_of mapfile))
barrier_settles None is = absurd (cc)
barrier_settles (Some name) is =
    let one : settled (map Returned (barrier_of (Some name))) ≡ 1 = refl in omega (arith, one)

front_settles : (front load : List Call) (mapfile : Option (List ℕ)) → is_some (option_map names_of mapfile) ≡ true
    → 1 ≤ settled (map Returned (front ++ (barrier_of mapfile ++ load)))
front_settles front load mapfile is =
    omega (
      arith,
      barrier_settles mapfile is,
      ap settled (map-append Returned front (barrier_of mapfile ++ load)),
      count_both is_settle (map Returned front) (map Returned (barrier_of mapfile ++ load)),
      ap settled (map-append Returned (barrier_of mapfile) load),
      count_both is_settle (map Returned (barrier_of mapfile)) (map Returned load),
    )

module _ (c : Command) (line : List ℕ) (end : ℕ) (maps : Maps) (files : List ℕ → Option File) (lines : List (List ℕ))
    (e : Ending) (none : NoneFailed e) where
  abbrev s : Setting
  s = setting_of c line end maps

  ended_run : (g : Gain) (front run : List Entry) → g.calls ≡ front ++ run
      → ((setting_of c line end maps).has_mapfile ≡ true → 1 ≤ settled front)
      → (d : Deeds) → d.gain ≡ record g { calls = run } → Rescues (setting_of c line end maps) (mapfile_of c files) lines e d
      → (g.reads ≡ []) ⊎ EndedWork (setting_of c line end maps) files g
  ended_run g front run grew settles d same (opens, (statuses, state, stands, inl unbegun)) =
      inl (sym (ap (λ (h : Gain). h.reads) same) ∙ unbegun.reads)
  ended_run g front run grew settles d same (opens, (statuses, state, stands, inr ran)) =
      let ends = ends_saved s (begins s statuses state d.gain) (events_in d.gain) d.gain.calls e ran.end none
      ran.answer ran.runs.ends in
      inr (record {
        front = front;
        statuses = statuses;
        state = state;
        stands = subst (λ (f : Option File). Stands f end statuses state) (file_in c c.mapfile line end maps files) stands;
        reads = subst (λ (h : Gain). reads_of (events_in h) ≡ h.reads) same
            (timed d.gain.reads (drop 1 d.gain.times) (omega (arith, ran.runs.times, length-drop 1 d.gain.times)));
        settles = settles;
        calls = grew ∙ ap (λ (l : List Entry). front ++ l)
            (subst (λ (h : Gain). h.calls ≡ last_calls s (begins s statuses state h) (events_in h)) same ends);
      })

  ended_after : (d : Deeds)
      → Passed (worked_rows c (found_in c files) end) (Rescues (setting_of c line end maps) (mapfile_of c files) lines) e d
      → (d.gain.reads ≡ []) ⊎ EndedWork (setting_of c line end maps) files d.gain
  ended_after d (
    domain,
    tests,
    domain_is,
    grew,
    (test, rest, test_is, grew', (os, (back, out, (more, settled, (load, run, loaded, all, ran))))),
  ) =
      let front : List Call = ((domain ++ test) ++ (image_open c.outfile true ∷ [])) ++ (barrier_of c.mapfile ++ load) in
      ended_run d.gain (map Returned front) run
      (grew ∙ ap (λ (l : List Entry). map Returned domain ++ l) grew' ∙ made_both domain test rest
      ∙ ap (λ (l : List Entry). map Returned (domain ++ test) ++ l) out
      ∙ made_both (domain ++ test) (image_open c.outfile true ∷ []) back
      ∙ ap (λ (l : List Entry). map Returned ((domain ++ test) ++ (image_open c.outfile true ∷ [])) ++ l)
      (settled ∙ ap (λ (l : List Entry). map Returned (barrier_of c.mapfile) ++ l) all ∙ made_both (barrier_of c.mapfile) load run)
      ∙ made_both ((domain ++ test) ++ (image_open c.outfile true ∷ [])) (barrier_of c.mapfile ++ load) run)
      (λ named. front_settles ((domain ++ test) ++ (image_open c.outfile true ∷ [])) load c.mapfile named)
      _ refl ran

  pub ended_works : (d : Deeds)
      → Works rescue_faults (rescue_rows c (found_in c files) end) (Rescues (setting_of c line end maps) (mapfile_of c files) lines) e d
      → (d.gain.reads ≡ []) ⊎ EndedWork (setting_of c line end maps) files d.gain
  ended_works d w =
      ⊎_elim (λ (unread : d.gain.reads ≡ []). inl unread)
      (λ (p : Passed (rescue_rows c (found_in c files) end) (Rescues (setting_of c line end maps) (mapfile_of c files) lines) e d).
      ended_after d p)
      (passed_or rescue_faults (rescue_rows c (found_in c files) end)
      (Rescues (setting_of c line end maps) (mapfile_of c files) lines) e d w)
