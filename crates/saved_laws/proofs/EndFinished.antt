-- What a rescue read is finished at each stop after its end.
use Rattle.std.proofs.Common.{◌≡◌, ◌⊎◌, ⊎_elim, ℕ, ◌≤◌, Bool, true, false, if◌then◌else◌, nat_eq, List, [], ◌∷◌, ◌++◌, length, take, map, Option, Some, None, refl, sym, ap, ◌∙◌, subst, arith, append_assoc}
use Rattle.std.proofs.Math.Seq.{take-length}
use Rattle.std.proofs.lemmas.List.{map-append}
use Rattle.mapfile_text.specs.Pieces.{pieces_of}
use Rattle.faulty_source.specs.Journal.{Reading, kept}
use Rattle.crash_site.specs.Files.{File}
use Rattle.crash_site.specs.Calls.{Call, Entry, Done, image_sync, draft_begin, draft_append, draft_sync, draft_publish, map_settle}
use Rattle.mapfile_save.specs.MapNames.{MapNames}
use Rattle.mapfile_save.specs.Saving.{save_calls}
use Rattle.rescue_rules.specs.Setting.{Setting, IsSensible, place}
use Rattle.rescue_rules.specs.Machine.{Machine}
use Rattle.rescue_rules.specs.Step.{Event}
use Rattle.rescue_rules.specs.Moves.{move_of, state_after}
use Rattle.rescue_rules.specs.Events.{reads_of}
use Rattle.rescue_rules.specs.Given.{given, last_of_both}
use Rattle.rescue_rules.specs.RunCalls.{write_calls, due_calls, move_calls, run_calls, end_calls}
use Rattle.rescue_rules.specs.Snapshots.{text_of, snapshot_of, is_due, last_snapshot}
use Rattle.rescue_rules.specs.Stops.{has_barrier, is_write, LeftBy}
use Rattle.rescue_rules.specs.Work.{begins, events_in}
use Rattle.rescue_rules.proofs.CutLemmas.{add}
use Rattle.rescue_rules.proofs.MapfileLemmas.{end_is}
use Rattle.option_words.specs.Words.{command_line}
use Rattle.program_promise.specs.Work.{Works}
use Rattle.task_files.specs.Maps.{Found}
use Rattle.task_files.specs.Names.{program_name}
use Rattle.task_files.specs.Work.{Rescues, rescue_faults, rescue_rows}
use Rattle.ddrescue_cli.specs.ToldParts.{files_of, asked_of}
use Rattle.rescue_safety.specs.Saves.{CallsFinished}
use Rattle.rescue_safety.specs.Safe.{Run, by_then, gives}
use Rattle.rescue_safety.specs.Holds.{HoldsGiven, StillHolds}
use Rattle.rescue_safety.specs.AskedFor.{AreSeen}
use Rattle.rescue_safety.specs.Rescue.{Rescue, run_of}
use Rattle.saved_laws.specs.Laws.{FinishedAtEnd}
use Rattle.rescue_safety.proofs.BegunLemmas.{writes_in, count_both, begun, begun_step, own, is_kept, write_counted, save_unwritten}
use Rattle.rescue_safety.proofs.ClaimLemmas.{never_some}
use Rattle.saved_laws.proofs.EndedLemmas.{NoneFailed, EndedWork, ended_works}
use Rattle.rescue_safety.proofs.SafeLemmas.{p, w, s, g, b, on, ok, calls_are, map_is, safe_anywhere, seen_alone, given_by_then}
use Rattle.rescue_safety.proofs.HoldsLemmas.{holds_finished}
use Rattle.saved_laws.proofs.SavedLemmas.{began_or, found_finished, synced}

module _ (s : Setting) (ok : IsSensible s) (x : ℕ) where
  due_counted : (due : Bool) (names : MapNames) (text : List ℕ) (es : List Entry)
      → writes_in (map Done (if due then save_calls names text else []) ++ es) ≡ writes_in es
  due_counted true names text es = save_unwritten s ok x names text es
  due_counted false names text es = refl

  -- the writes of a whole run are those of all its reads
  pub all_begun : (m : Machine) (es : List Event) (rest : List Entry)
      → begun s.sector x (writes_in (map Done (run_calls s m es) ++ rest)) (reads_of es) ≡ given s.sector (reads_of es) x
  all_begun m [] rest = refl
  all_begun m (e ∷ es) rest =
      let n : Machine = (move_of s m e).after in
      let r : Reading = e.reading in
      let write : List Call = write_calls s r in
      let due : List Call = due_calls s (move_of s m e) in
      let more : List Call = run_calls s n es in
      let later : List Entry = map Done more ++ rest in
      let split : map Done (move_calls s (move_of s m e) ++ more) ++ rest ≡ map Done write ++ (map Done due ++ later)
      = ap (λ (l : List Call). map Done l ++ rest) (append_assoc write due more)
      ∙ ap (λ (l : List Entry). l ++ rest) (map-append Done write (due ++ more))
      ∙ append_assoc (map Done write) (map Done (due ++ more)) rest
      ∙ ap (λ (l : List Entry). map Done write ++ (l ++ rest)) (map-append Done due more)
      ∙ ap (λ (l : List Entry). map Done write ++ l) (append_assoc (map Done due) (map Done more) rest) in
      let count : writes_in (map Done (run_calls s m (e ∷ es)) ++ rest) ≡ add (is_kept s.sector x r) (writes_in later)
      = ap writes_in split
      ∙ write_counted s ok x (nat_eq (kept s.sector r) 0) (place s r.pos) (take (kept s.sector r) r.given) (map Done due ++ later)
      ∙ ap (λ (k : ℕ). add (is_kept s.sector x r) k)
      (due_counted (is_due s (move_of s m e)) s.names (text_of s.line (snapshot_of n)) later) in
      ap (λ (k : ℕ). begun s.sector x k (r ∷ reads_of es)) count
      ∙ begun_step s.sector x (writes_in later) r (reads_of es)
      ∙ ap (λ (o : Option ℕ). last_of_both o (own s.sector x r)) (all_begun n es rest)

-- a save as a sync, more, and a settle
save_parts : (names : MapNames) (text : List ℕ) → (saving : List Entry)
    × (map Done (save_calls names text) ≡ Done image_sync ∷ (saving ++ Done (map_settle names.map) ∷ []))
save_parts names text =
    let appends : List Call = map draft_append (pieces_of text) in
    let end : List Entry = Done draft_sync ∷ Done (draft_publish names.map) ∷ [] in (
      Done (draft_begin names.draft) ∷ (map Done appends ++ end),
      ap (λ (l : List Entry). Done image_sync ∷ Done (draft_begin names.draft) ∷ l)
          (map-append Done appends (draft_sync ∷ draft_publish names.map ∷ map_settle names.map ∷ [])
          ∙ sym (append_assoc (map Done appends) end (Done (map_settle names.map) ∷ []))),
    )

module _ (r : Rescue) (work : EndedWork (s r) (files_of r.did.call.told) (g r)) where
  abbrev m : Machine
  m = begins (s r) work.statuses work.state (g r)

  abbrev es : List Event
  es = events_in (g r)

  abbrev first : List Entry
  first = work.front

  abbrev moved : List Entry
  moved = map Done (run_calls (s r) m es)

  abbrev text : List ℕ
  text = text_of (s r).line (last_snapshot (s r) (state_after (s r) m es))

  abbrev saving : List Entry
  saving = (save_parts (s r).names text).0

  calls_end : (g r).calls ≡ (first ++ moved) ++ Done image_sync ∷ (saving ++ Done (map_settle (s r).names.map) ∷ [])
  calls_end =
      let end : List Call = end_calls (s r) m es in
      work.calls
      ∙ ap (λ (l : List Entry). first ++ l) (map-append Done (run_calls (s r) m es) end)
      ∙ sym (append_assoc first moved (map Done end))
      ∙ ap (λ (l : List Call). (first ++ moved) ++ map Done l) (end_is (s r) m es (on r))
      ∙ ap (λ (l : List Entry). (first ++ moved) ++ l) (save_parts (s r).names text).1

  all_gave : (x : ℕ) → begun (s r).sector x (writes_in (first ++ moved)) (g r).reads ≡ given (s r).sector (g r).reads x
  all_gave x =
      let same : writes_in (first ++ moved) ≡ writes_in (moved ++ first)
      = omega (arith, count_both is_write first moved, count_both is_write moved first) in
      ap (λ (n : ℕ). begun (s r).sector x n (g r).reads) same
      ∙ ap (λ (rs : List Reading). begun (s r).sector x (writes_in (moved ++ first)) rs) (sym work.reads)
      ∙ all_begun (s r) (ok r) x m es first
      ∙ ap (λ (rs : List Reading). given (s r).sector rs x) work.reads

  ended_finished : (found : List ℕ → Option File) (x byte : ℕ) → LeftBy (b r) (g r).calls (length (g r).calls) found
      → given (s r).sector (g r).reads x ≡ Some byte → CallsFinished (found (s r).names.map) x
  ended_finished found x byte left gave =
      let before : List Entry = first ++ moved in
      let here = take-length (g r).calls ∙ calls_end in
      found_finished r (length (g r).calls) found before saving [] (s r).names.map x byte (omega arith) left here
      (all_gave x ∙ gave)
      (began_or r (length (g r).calls) found before saving [] (s r).names.map x byte (omega arith) left here
      (all_gave x ∙ gave))

  pub ended_barrier : has_barrier (take (length (g r).calls) (g r).calls) ≡ true
  ended_barrier =
      ap has_barrier (take-length (g r).calls ∙ calls_end)
      ∙ synced (first ++ moved) (saving ++ Done (map_settle (s r).names.map) ∷ [])

-- what a rescue did of whose calls none failed
pub ended_of : (r : Rescue) → NoneFailed r.did.call.told.answer
    → ((g r).reads ≡ []) ⊎ EndedWork (s r) (files_of r.did.call.told) (g r)
ended_of r never =
    ended_works r.command (command_line program_name r.did.call.told.words) (w r).end (w r).maps (files_of r.did.call.told)
    (w r).lines r.did.call.told.answer never (w r).did
    (subst
    (λ (f : Found). Works rescue_faults (rescue_rows r.command f (w r).end)
    (Rescues (asked_of r.command r.did.call.told (w r)) f.mapfile (w r).lines) r.did.call.told.answer (w r).did)
    ((p r).agrees.agrees.found r.did.call.site_tells) (p r).work)

-- what is finished, and was given, is held
given_held : (r : Rescue) (reads : List Reading) (k : ℕ) (files : List ℕ → Option File) (x byte : ℕ) → AreSeen r reads
    → k ≤ length r.did.call.calls → LeftBy (b r) r.did.call.calls k files
    → has_barrier (take k r.did.call.calls) ≡ true → CallsFinished (files r.mapfile) x
    → gives (run_of r reads) x ≡ Some byte → HoldsGiven (run_of r reads) files x
given_held r reads k files x byte seen le left barrier fin gave =
    let d : Run = run_of r reads in
    let same : gives (by_then d k) x ≡ gives d x
    = given_by_then r reads k files x seen le left barrier fin in
    ⊎_elim
    (λ (h : HoldsGiven (by_then d k) files x).
    record { byte = h.byte; given = sym same ∙ h.given; own = h.own; place = h.place; at = h.at; holds = h.holds })
    (λ (h : (gives (by_then d k) x ≡ None) × StillHolds d.target d.past files x).
    absurd (never_some byte (gives d x) (sym same ∙ h.0) gave))
    ((holds_finished d k files (safe_anywhere r reads seen) le left).past_barrier barrier x fin)

pub finished_at_end : FinishedAtEnd
finished_at_end r reads files x byte seen never left gave =
    let gave' : given (s r).sector (g r).reads x ≡ Some byte
    = subst (λ (rs : List Reading). given r.command.options.sector rs x ≡ Some byte) (seen_alone r reads seen) gave in
    let found : List ℕ → Option File = files_of r.did.call.told in
    ⊎_elim
    (λ (unread : (g r).reads ≡ []).
    absurd (never_some byte (given (s r).sector (g r).reads x) (ap (λ (rs : List Reading). given (s r).sector rs x) unread) gave'))
    (λ (work : EndedWork (s r) found (g r)).
    let fin : CallsFinished (files r.mapfile) x
    = subst (λ (m : List ℕ). CallsFinished (files m) x) (map_is r)
    (ended_finished r work files x byte
    (subst (λ (l : List Entry). LeftBy (b r) l (length l) files) (calls_are r) left) gave') in (
      fin,
      given_held r reads (length r.did.call.calls) files x byte seen (omega arith) left
          (subst (λ (l : List Entry). has_barrier (take (length l) l) ≡ true) (sym (calls_are r)) (ended_barrier r work)) fin gave,
    ))
    (ended_of r never)
