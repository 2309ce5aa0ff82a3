-- How far a filling or a generating came over its files, by the rows of its work.
use Rattle.std.proofs.Common.{◌≡◌, ℕ, ◌≤◌, Bool, true, false, ◌⊎◌, List, [], ◌∷◌, ◌++◌, map, length, Option, Some, None, refl, sym, ap, ◌∙◌, inl, inr, subst, arith, append-nil}
use Rattle.crash_site.specs.declared.site.SiteCall.TheVariants.{MapRead}
use Rattle.crash_site.specs.Files.{File}
use Rattle.crash_site.specs.Calls.{Call, Entry, Done as Returned, image_open, image_sync, map_settle}
use Rattle.crash_site.specs.CallsMade.{Lost, BrokeAt}
use Rattle.block_list.specs.declared.status.Status.{Status}
use Rattle.mapfile_text.specs.declared.state.MapState.{MapState}
use Rattle.mapfile_save.specs.Loading.{BeginsLoad, IsLoad, barrier_calls}
use Rattle.rescue_rules.specs.declared.stop.RunEnd.{RunEnd}
use Rattle.rescue_rules.specs.Setting.{Setting}
use Rattle.rescue_rules.specs.Start.{Stands}
use Rattle.rescue_rules.specs.Work.{Gain}
use Rattle.rescue_rules.proofs.BarrierLemmas.{Opens}
use Rattle.rescue_rules.proofs.MapfileLemmas.{opening_by}
use Rattle.sweep_rules.specs.Sweep.{Sweeper, Swept}
use Rattle.sweep_rules.specs.SweepWork.{Sweeps, sweep_opening}
use Rattle.sweep_rules.specs.SweepOpens.{EndsEarly, InOpening, InLoad, OpensOrEnds}
use Rattle.sweep_rules.proofs.EndLemmas.{opening_is}
use Rattle.program_promise.specs.Work.{Deeds, WorkStep, Read, Look, Works, IsIdle, with_calls}
use Rattle.program_promise.proofs.GainLemmas.{lost_after, broke_after}
use Rattle.ddrescue_words.specs.declared.options.Options.{Options}
use Rattle.task_files.specs.declared.ending.Ending.{Ending}
use Rattle.task_files.specs.declared.ending.Ending.TheVariants.{NoOutput}
use Rattle.task_files.specs.Refusals.{MapfileRefused, OutputRefused, PlacesRefused}
use Rattle.task_files.specs.Work.{rescue_faults, load_rows, missing_rows, output_rows}
use Rattle.task_sweeps.specs.Modes.{MaySweep, ThenSweep}

-- How far it came: no sweep began; or one did over the map that its mapfile stands for, and the output was there, or was

-- made.
pub data SweepGoes (s : Setting) (w : Sweeper) (files : List ℕ → Option File) (pieces : List Swept) (end : RunEnd) (g : Gain)
    : Type 0 where
  Unbegun : EndsEarly s w.makes files g.calls → OpensOrEnds w.makes (files s.outfile) g.calls → g.times ≡ []
      → SweepGoes s w files pieces end g
  Begun : Opens w.makes (files s.outfile) → (load : List Call) (statuses : List Status) (state : Option MapState)
      (rest : List Entry) → IsLoad s.names.map (files s.names.map) load → Stands (files s.names.map) s.end statuses state
      → g.calls ≡ map Returned (sweep_opening s w.makes ++ load) ++ rest
      → (sweeps : Sweeps s w statuses state (record g { calls = rest }) end) → sweeps.events ≡ pieces
      → SweepGoes s w files pieces end g

-- an output that was opened, and one for which there was one call at most
opens_or : (makes : Bool) (file : Option File) (calls : List Entry) → Opens makes file → OpensOrEnds makes file calls
opens_or true file calls opens = tt
opens_or false None calls opens = absurd opens
opens_or false (Some f) calls opens = tt

ends_or : (makes : Bool) (file : Option File) (calls : List Entry) → length calls ≤ 1 → OpensOrEnds makes file calls
ends_or true file calls few = tt
ends_or false None calls few = few
ends_or false (Some f) calls few = tt

-- An output that isn't made is there, or that is refused.
missing_goes : (makes : Bool) (file : Option File) (look : WorkStep Ending) (more : List (WorkStep Ending))
    (run : Ending → Deeds → Type 0) (e : Ending) (d : Deeds)
    → Works rescue_faults ((missing_rows makes file ++ look ∷ []) ++ more) run e d
    → IsIdle d ⊎ (Opens makes file × Works rescue_faults (look ∷ more) run e d)
missing_goes true file look more run e d w = inr (tt, w)
missing_goes false None look more run e d (inl (missing, idle)) = inl idle
missing_goes false None look more run e d (inr (passes, w)) = absurd (passes NoOutput (refl, refl))
missing_goes false (Some f) look more run e d (inl (missing, idle)) = inl idle
missing_goes false (Some f) look more run e d (inr (passes, w)) = inr (tt, w)

-- the rows after the opening of the output
abbrev pub rows_after : Setting → (List ℕ → Option File) → Options → (limit : ℕ) → List (WorkStep Ending)
rows_after s files o limit =
    load_rows (Some s.names.map) (files s.names.map) ++ Look (PlacesRefused o limit) ∷ []

-- the rows over the files
abbrev pub sweep_rows : Setting → (makes forced : Bool) → (List ℕ → Option File) → Options → (limit : ℕ) → List (WorkStep Ending)
sweep_rows s makes forced files o limit =
    output_rows makes forced s.outfile (files s.outfile) ++ rows_after s files o limit

module _ (s : Setting) (w : Sweeper) (files : List ℕ → Option File) (pieces : List Swept) (end : RunEnd)
    (lines : List (List ℕ)) (on : s.has_mapfile ≡ true) where
  abbrev Goes : Gain → Type 0
  Goes g = SweepGoes s w files pieces end g

  abbrev Sweeping : Ending → Deeds → Type 0
  Sweeping = ThenSweep s w (files s.names.map) pieces end lines

  abbrev opening : List Call
  opening = opening_by s w.makes

  abbrev OpensOutput : Gain → Type 0
  OpensOutput g = OpensOrEnds w.makes (files s.outfile) g.calls

  -- it stopped in the opening
  in_opening : (g : Gain) (front back : List Call) → front ++ back ≡ opening → OpensOutput g → g.times ≡ []
      → (g.calls ≡ map Returned front)
      ⊎ ((call : Call) × (rest : List Call) × (back ≡ call ∷ rest) × Lost call (map Returned front) g.calls) → Goes g
  in_opening g front back is opens none h = Unbegun (InOpening front back (is ∙ sym (opening_is s w.makes on)) h) opens none

  -- in the load, or after it
  in_load : (g : Gain) (load : List Call) → BeginsLoad s.names.map (files s.names.map) load → Opens w.makes (files s.outfile)
      → g.times ≡ [] → (g.calls ≡ map Returned (opening ++ load)) ⊎ BrokeAt MapRead (opening ++ load) [] g.calls → Goes g
  in_load g load begins opens none h =
      Unbegun (InLoad load begins
      (subst (λ (l : List Call). (g.calls ≡ map Returned (l ++ load)) ⊎ BrokeAt MapRead (l ++ load) [] g.calls)
      (sym (opening_is s w.makes on)) h)) (opens_or w.makes (files s.outfile) g.calls opens) none

  alone : (load : List Call) (calls rest : List Entry) → calls ≡ map Returned (opening ++ load) ++ rest
      → rest ≡ [] → calls ≡ map Returned (opening ++ load)
  alone load calls rest grew none =
      grew ∙ ap (λ (r : List Entry). map Returned (opening ++ load) ++ r) none ∙ append-nil (map Returned (opening ++ load))

  -- a sweep over the map that was loaded, which may not have begun
  over_load : (e : Ending) (g : Gain) (load : List Call) (statuses : List Status) (state : Option MapState)
      (rest : List Entry) → Opens w.makes (files s.outfile) → IsLoad s.names.map (files s.names.map) load
      → Stands (files s.names.map) s.end statuses state → g.calls ≡ map Returned (opening ++ load) ++ rest
      → MaySweep s w statuses state pieces end lines e (record g { calls = rest }) → Goes g
  over_load e g load statuses state rest opens loaded stands grew (inl un) =
      in_load g load loaded.begins opens un.0.times (inl (alone load g.calls rest grew un.0.calls))
  over_load e g load statuses state rest opens loaded stands grew (inr swept) =
      Begun opens load statuses state rest loaded stands
      (subst (λ (l : List Call). g.calls ≡ map Returned (l ++ load) ++ rest) (sym (opening_is s w.makes on)) grew)
      swept.sweeps swept.pieces_are

  -- what follows the load
  after_load : (o : Options) (limit : ℕ) (e : Ending) (d : Deeds) (load : List Call) (rest : List Entry)
      → Opens w.makes (files s.outfile) → IsLoad s.names.map (files s.names.map) load
      → d.gain.calls ≡ map Returned (opening ++ load) ++ rest
      → Works rescue_faults (Look (MapfileRefused (files s.names.map)) ∷ Look (PlacesRefused o limit) ∷ []) Sweeping e
      (with_calls d rest) → Goes d.gain
  after_load o limit e d load rest opens loaded grew (inl (refused, none)) =
      in_load d.gain load loaded.begins opens none.gain.times (inl (alone load d.gain.calls rest grew none.gain.calls))
  after_load o limit e d load rest opens loaded grew (inr (accepted, inl (refused, none))) =
      in_load d.gain load loaded.begins opens none.gain.times (inl (alone load d.gain.calls rest grew none.gain.calls))
  after_load o limit e d load rest opens loaded grew (inr (accepted, inr (placed, sweep))) =
      over_load e d.gain load sweep.statuses sweep.state rest opens loaded sweep.stands grew sweep.sweeps

  broke_in_load : (load : List Call) (calls more : List Entry) → calls ≡ map Returned opening ++ more
      → BrokeAt MapRead load [] more → BrokeAt MapRead (opening ++ load) [] calls
  broke_in_load load calls more grew broke =
      let P : List Entry → Type 0 = λ r. BrokeAt MapRead load (map Returned opening) r in
      inr (inr (inr (subst P (sym grew) (broke_after MapRead load (map Returned opening) [] more broke))))

  -- the mapfile is read
  after_barrier : (o : Options) (limit : ℕ) (e : Ending) (d : Deeds) (more : List Entry) → Opens w.makes (files s.outfile)
      → d.gain.calls ≡ map Returned opening ++ more
      → Works rescue_faults (Read (Some s.names.map) (files s.names.map) ∷ Look (MapfileRefused (files s.names.map))
      ∷ Look (PlacesRefused o limit) ∷ []) Sweeping e (with_calls d more) → Goes d.gain
  after_barrier o limit e d more opens grew (inl (load, is, begins, broke, only)) =
      in_load d.gain load begins opens only.times (inr (broke_in_load load d.gain.calls more grew broke))
  after_barrier o limit e d more opens grew (inr (inl (load, is, begins, all, only))) =
      in_load d.gain load begins opens only.times
      (inl (grew ∙ ap (λ (r : List Entry). map Returned opening ++ r) all))
  after_barrier o limit e d more opens grew (inr (inr (load, rest, loaded, all, next))) =
      after_load o limit e d load rest opens loaded (grew ∙ ap (λ (r : List Entry). map Returned opening ++ r) all) next

  abbrev first : List Entry
  first = Returned (image_open s.outfile w.makes) ∷ []

  lost_first : (c : Call) (made : List Entry) (calls rest : List Entry) → calls ≡ first ++ rest → Lost c made rest
      → Lost c (first ++ made) calls
  lost_first c made calls rest grew lost =
      subst (λ (l : List Entry). Lost c (first ++ made) l) (sym grew) (lost_after c first made rest lost)

  -- what follows the opening of the output
  after_output : (o : Options) (limit : ℕ) (e : Ending) (d : Deeds) (rest : List Entry) → Opens w.makes (files s.outfile)
      → d.gain.calls ≡ first ++ rest → Works rescue_faults (rows_after s files o limit) Sweeping e (with_calls d rest)
      → Goes d.gain
  after_output o limit e d rest opens grew (inl (call, is, inl (name, lost), only)) =
      in_opening d.gain (image_open s.outfile w.makes ∷ []) (barrier_calls s.names) refl
      (opens_or w.makes (files s.outfile) d.gain.calls opens) only.times
      (inr (map_settle s.names.map, image_sync ∷ [], refl, lost_first (map_settle s.names.map) [] d.gain.calls rest grew lost))
  after_output o limit e d rest opens grew (inl (call, is, inr (inl (name, lost)), only)) =
      in_opening d.gain (image_open s.outfile w.makes ∷ map_settle s.names.map ∷ []) (image_sync ∷ []) refl
      (opens_or w.makes (files s.outfile) d.gain.calls opens) only.times
      (inr (
        image_sync,
        [],
        refl,
        lost_first image_sync (Returned (map_settle s.names.map) ∷ []) d.gain.calls rest grew lost,
      ))
  after_output o limit e d rest opens grew (inl (call, is, inr (inr broke), only)) = absurd broke
  after_output o limit e d rest opens grew (inr (more, grew', read)) =
      after_barrier o limit e d more opens (grew ∙ ap (λ (r : List Entry). first ++ r) grew') read

  few_lost : (c : Call) (calls : List Entry) → Lost c [] calls → length calls ≤ 1
  few_lost c calls (inl is) = let one : length calls ≡ 1 = ap length is.1 in omega (arith, one)
  few_lost c calls (inr is) = let none : length calls ≡ 0 = ap length is in omega (arith, none)

  -- an output that isn't there, or isn't written to
  only_first : (g : Gain) (rest : List Entry) → g.calls ≡ first ++ rest → rest ≡ [] → g.times ≡ [] → Goes g
  only_first g rest grew none still =
      let calls : g.calls ≡ first = grew ∙ ap (λ (r : List Entry). first ++ r) none in
      let one : length g.calls ≡ 1 = ap length calls in
      in_opening g (image_open s.outfile w.makes ∷ []) (barrier_calls s.names) refl
      (ends_or w.makes (files s.outfile) g.calls (omega (arith, one))) still (inl calls)

  after_missing : (forced : Bool) (o : Options) (limit : ℕ) (e : Ending) (d : Deeds) (rest : List Entry)
      → d.gain.calls ≡ first ++ rest
      → IsIdle (with_calls d rest) ⊎ (Opens w.makes (files s.outfile)
      × Works rescue_faults (Look (OutputRefused forced (files s.outfile)) ∷ rows_after s files o limit) Sweeping e
      (with_calls d rest)) → Goes d.gain
  after_missing forced o limit e d rest grew (inl idle) = only_first d.gain rest grew idle.gain.calls idle.gain.times
  after_missing forced o limit e d rest grew (inr (opens, inl (refused, idle))) =
      only_first d.gain rest grew idle.gain.calls idle.gain.times
  after_missing forced o limit e d rest grew (inr (opens, inr (passes, next))) =
      after_output o limit e d rest opens grew next

  -- the whole of it
  pub files_go : (forced : Bool) (o : Options) (limit : ℕ) (e : Ending) (d : Deeds)
      → Works rescue_faults (sweep_rows s w.makes forced files o limit) Sweeping e d → Goes d.gain
  files_go forced o limit e d (inl (call, is, inl (name, lost), only)) =
      in_opening d.gain [] opening refl
      (ends_or w.makes (files s.outfile) d.gain.calls (few_lost (image_open s.outfile w.makes) d.gain.calls lost)) only.times
      (inr (image_open s.outfile w.makes, barrier_calls s.names, refl, lost))
  files_go forced o limit e d (inl (call, is, inr broke, only)) = absurd broke
  files_go forced o limit e d (inr (rest, grew, next)) =
      after_missing forced o limit e d rest grew
      (missing_goes w.makes (files s.outfile) (Look (OutputRefused forced (files s.outfile))) (rows_after s files o limit)
      Sweeping e (with_calls d rest) next)
