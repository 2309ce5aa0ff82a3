-- Each read of which something is kept is written once, in order.
use Rattle.std.proofs.Common.{◌≡◌, ⊎_elim, ℕ, ◌+◌, ◌-◌, ◌≤◌, Bool, true, false, if◌then◌else◌, nat_eq, List, [], ◌∷◌, ◌++◌, take, map, All, Option, Some, None, refl, sym, ap, ◌∙◌, subst, arith, append_assoc, append-nil}
use Rattle.std.specs.List.{flat_map}
use Rattle.std.proofs.lemmas.List.Elements.{All-nil, All-cons, All-head, All-tail, All-append}
use Rattle.block_list.specs.declared.status.Status.{Status}
use Rattle.mapfile_text.specs.declared.state.MapState.{MapState}
use Rattle.mapfile_text.specs.Pieces.{pieces_of}
use Rattle.faulty_source.specs.Journal.{Reading, kept}
use Rattle.crash_site.specs.declared.site.SiteCall.TheVariants.{MapRead as MapReadName}
use Rattle.crash_site.specs.Files.{File}
use Rattle.crash_site.specs.Calls.{Call, image_open, image_write, image_sync, draft_begin, draft_append, draft_sync, draft_publish, map_settle, Entry, Done, Failed}
use Rattle.crash_site.specs.CallsMade.{unanswered}
use Rattle.mapfile_save.specs.MapNames.{MapNames}
use Rattle.mapfile_save.specs.Saving.{fill_calls, save_calls}
use Rattle.rescue_rules.specs.Setting.{Setting, IsSensible, place}
use Rattle.rescue_rules.specs.Machine.{Machine}
use Rattle.rescue_rules.specs.MachineLaws.{IsInOrder, StepsBy}
use Rattle.rescue_rules.specs.Step.{Event}
use Rattle.rescue_rules.specs.Moves.{ready, move_of, state_after, IsRun}
use Rattle.rescue_rules.specs.Events.{began_at, reads_of}
use Rattle.rescue_rules.specs.Deeds.{save_of, deed_calls}
use Rattle.rescue_rules.specs.RunDeeds.{run_deeds}
use Rattle.rescue_rules.specs.RunCalls.{write_calls}
use Rattle.rescue_rules.specs.Snapshots.{Snapshot, text_of, snapshot_of, is_due, last_snapshot}
use Rattle.rescue_rules.specs.Work.{Gain, begins, events_in, AreMapReads, Goes, InMaps, AfterMaps}
use Rattle.rescue_rules.proofs.CutLemmas.{Cut}
use Rattle.rescue_rules.proofs.DeedStages.{last_calls, all_calls}
use Rattle.rescue_rules.proofs.FinishLemmas.{run_steps}
use Rattle.rescue_rules.proofs.GoesLemmas.{Course, Way, AnyMap, OneMap, way, broke_cut}
use Rattle.rescue_rules.proofs.MapfileLemmas.{opening_by}
use Rattle.rescue_rules.proofs.MoveLemmas.{run_rest}
use Rattle.rescue_rules.proofs.ReadyLemmas.{order_over}
use Rattle.rescue_rules.proofs.StepLemmas.{wanted_domain}
use Rattle.rescue_safety.specs.Safe.{Target}
use Rattle.rescue_safety.specs.Written.{written_in, kept_in}
use Rattle.rescue_safety.proofs.SaveLemmas.{Made, course_made}
use Rattle.rescue_safety.proofs.ThenLemmas.{IsDry, reads_dry, all_dry, load, front, run_calls}

-- ---- one call

abbrev written_of : Call → List (ℕ × List ℕ)
written_of (image_write pos piece) = (pos, piece) ∷ []
written_of call = []

done_step : (c : Call) (es : List Entry) → written_in (Done c ∷ es) ≡ written_of c ++ written_in es
done_step (image_open name make) es = refl
done_step _ es = refl

failed_step : (c : Call) (steps : ℕ) (es : List Entry)
    → written_in (Failed c steps ∷ es) ≡ written_of c ++ written_in es
failed_step (image_open name make) steps es = refl
failed_step _ steps es = refl

unanswered_written : (c : Call) → written_of (unanswered c) ≡ written_of c
unanswered_written (image_open name make) = refl
unanswered_written _ = refl

dry_written : (c : Call) → IsDry c → written_of c ≡ []
dry_written (image_write pos piece) dry = let e : true ≡ false = dry in absurd (cc)
dry_written _ dry = refl

-- ---- calls one after the other

-- what calls write that return
abbrev all_written : List Call → List (ℕ × List ℕ)
all_written cs = flat_map written_of cs

both_written : (cs ds : List Call) → all_written (cs ++ ds) ≡ all_written cs ++ all_written ds
both_written [] ds = refl
both_written (c ∷ cs) ds =
    ap (λ (l : List (ℕ × List ℕ)). written_of c ++ l) (both_written cs ds)
    ∙ sym (append_assoc (written_of c) (all_written cs) (all_written ds))

none_written : (cs : List Call) → All IsDry cs → all_written cs ≡ []
none_written [] dry = refl
none_written (c ∷ cs) dry =
    ap (λ (l : List (ℕ × List ℕ)). l ++ all_written cs) (dry_written c (All-head IsDry c cs dry))
    ∙ none_written cs (All-tail IsDry c cs dry)

-- a part of calls writes the first of what they write
pub record IsFront (front all : List (ℕ × List ℕ)) : Type 0 where
  pub rest : List (ℕ × List ℕ)
  pub is : all ≡ front ++ rest

cut_written : (cs : List Call) (es : List Entry) → Cut cs es → IsFront (written_in es) (all_written cs)
cut_written cs [] cut = record { rest = all_written cs; is = refl }
cut_written [] (e ∷ es) cut = absurd cut
cut_written (c ∷ cs) (Done x ∷ es) cut =
    let f : IsFront (written_in es) (all_written cs) = cut_written cs es cut.1 in
    let own : written_in (Done x ∷ es) ≡ written_of c ++ written_in es
    = done_step x es ∙ ap (λ (z : Call). written_of z ++ written_in es) cut.0 in
    record {
      rest = f.rest;
      is = ap (λ (l : List (ℕ × List ℕ)). written_of c ++ l) f.is
          ∙ sym (append_assoc (written_of c) (written_in es) f.rest)
          ∙ ap (λ (l : List (ℕ × List ℕ)). l ++ f.rest) (sym own);
    }
cut_written (c ∷ cs) (Failed x steps ∷ es) cut =
    let same : written_of x ≡ written_of c
    = ⊎_elim (λ (is : x ≡ c). ap written_of is) (λ (is : x ≡ unanswered c). ap written_of is ∙ unanswered_written c) cut.0 in
    let own : written_in (Failed x steps ∷ es) ≡ written_of c
    = ap (λ (l : List Entry). written_in (Failed x steps ∷ l)) cut.1 ∙ failed_step x steps [] ∙ append-nil
    (written_of x) ∙ same in
    record { rest = all_written cs; is = ap (λ (l : List (ℕ × List ℕ)). l ++ all_written cs) (sym own) }

-- ---- a save writes nothing

appends_dry : (ps : List (List ℕ)) → All IsDry (map draft_append ps)
appends_dry [] = All-nil IsDry
appends_dry (p ∷ ps) = All-cons IsDry (draft_append p) (map draft_append ps) refl (appends_dry ps)

pub save_dry : (names : MapNames) (text : List ℕ) → All IsDry (save_calls names text)
save_dry names text =
    let end : List Call = draft_sync ∷ draft_publish names.map ∷ map_settle names.map ∷ [] in
    All-cons IsDry image_sync (draft_begin names.draft ∷ (fill_calls text ++ end)) refl
    (All-cons IsDry (draft_begin names.draft) (fill_calls text ++ end) refl
    (All-append IsDry (fill_calls text) end
    (appends_dry (pieces_of text))
    (All-cons IsDry draft_sync (draft_publish names.map ∷ map_settle names.map ∷ []) refl
    (All-cons IsDry (draft_publish names.map) (map_settle names.map ∷ []) refl
    (All-cons IsDry (map_settle names.map) [] refl (All-nil IsDry))))))

saves_dry : (s : Setting) (save : Option Snapshot) → All IsDry (save_of s save)
saves_dry s None = All-nil IsDry
saves_dry s (Some p) = save_dry s.names (text_of s.line p)

-- ---- a run

module _ (t : Target) (s : Setting) (ok : IsSensible s) (from : s.input_position ≡ t.from) (to : s.output_position ≡ t.to) where
  one_written : (none : Bool) (at at' : ℕ) (piece : List ℕ) → at ≡ at'
      → all_written (if none then [] else image_write at piece ∷ []) ≡ (if none then [] else (at', piece) ∷ [])
  one_written true at at' piece is = refl
  one_written false at at' piece is = ap (λ (n : ℕ). (n, piece) ∷ []) is

  run_written : (m : Machine) (es : List Event) (last : Snapshot) → IsInOrder s m → IsRun s m es
      → all_written (all_calls s (run_deeds s m es) last) ≡ kept_in t s.sector (reads_of es)
  run_written m [] last order run = none_written (last_calls s last) (save_dry s.names (text_of s.line last))
  run_written m (e ∷ es) last order run =
      let n : Machine = (move_of s m e).after in
      let r : Reading = e.reading in
      let b : StepsBy s (ready s m) e = run_steps s ok m e es order run in
      let first : s.input_position ≤ r.pos
      = ok.from r.pos (wanted_domain s (ready s m) r.pos (b.wanted r.pos (omega arith) (omega (arith, b.some)))) in
      let at : place s r.pos ≡ r.pos + t.to - t.from = omega (arith, first, from, to) in
      let write : List Call = write_calls s r in
      let due : Option Snapshot = if is_due s (move_of s m e) then Some (snapshot_of n) else None in
      let later : List Call = all_calls s (run_deeds s n es) last in
      let deeds : List Call = flat_map (deed_calls s) (run_deeds s n es) in
      ap all_written (append_assoc (write ++ save_of s due) deeds (last_calls s last) ∙ append_assoc write (save_of s due) later)
      ∙ both_written write (save_of s due ++ later)
      ∙ ap (λ (l : List (ℕ × List ℕ)). all_written write ++ l)
      (both_written (save_of s due) later
      ∙ ap (λ (l : List (ℕ × List ℕ)). l ++ all_written later) (none_written (save_of s due) (saves_dry s due))
      ∙ run_written n es last b.order (run_rest s m e es run))
      ∙ ap (λ (l : List (ℕ × List ℕ)). l ++ kept_in t s.sector (reads_of es))
      (one_written (nat_eq (kept s.sector r) 0) (place s r.pos) (r.pos + t.to - t.from) (take (kept s.sector r) r.given) at)

  abbrev Written : Gain → Type 0
  Written g = IsFront (written_in g.calls) (kept_in t s.sector g.reads)

  made_written : (began : List Status) (state : Option MapState) (g : Gain) (made : Made s began state g)
      → IsInOrder s (begins s began state g) → IsRun s (begins s began state g) (events_in g)
      → IsFront (written_in g.calls) (kept_in t s.sector (reads_of (events_in g)))
  made_written began state g made order run =
      let head : List Call = front s began state g made in
      let body : List Call = run_calls s began state g made in
      let all : List Call = made.maps ++ (opening_by s true ++ (load s began state g made ++ body)) in
      let same : all_written all ≡ kept_in t s.sector (reads_of (events_in g))
      = ap all_written (sym (append_assoc made.maps (opening_by s true ++ load s began state g made) body
      ∙ ap (λ (l : List Call). made.maps ++ l) (append_assoc (opening_by s true) (load s began state g made) body)))
      ∙ both_written head body
      ∙ ap (λ (l : List (ℕ × List ℕ)). l ++ all_written body) (none_written head (all_dry s began state g made))
      ∙ run_written (begins s began state g) (events_in g)
      (last_snapshot s (state_after s (begins s began state g) (events_in g))) order run in
      subst (λ (l : List (ℕ × List ℕ)). IsFront (written_in g.calls) l) same (cut_written all g.calls made.cut)

  course_written : (began : List Status) (state : Option MapState) (g : Gain) (maps : List Call) (rest : List Entry)
      → AreMapReads maps → g.calls ≡ map Done maps ++ rest → Course s began state (record g { calls = rest }) → Written g
  course_written began state g maps rest reads is c =
      subst (λ (rs : List Reading). IsFront (written_in g.calls) (kept_in t s.sector rs)) c.reads
      (made_written began state g (course_made s began state g maps rest reads is c)
      (order_over s began state (began_at g.times)) c.run)

  way_written : (files : List ℕ → Option File) (g : Gain) (maps : List Call) (rest : List Entry)
      → AreMapReads maps → g.calls ≡ map Done maps ++ rest → Way s files (record g { calls = rest }) → Written g
  way_written files g maps rest reads is (AnyMap any) = course_written [] None g maps rest reads is (any [] None)
  way_written files g maps rest reads is (OneMap map at was course) = course_written map at g maps rest reads is course

  pub goes_written : (files : List ℕ → Option File) (g : Gain) → s.has_mapfile ≡ true → Goes s files g → Written g
  goes_written files g on (InMaps maps reads never broke) =
      subst (λ (rs : List Reading). IsFront (written_in g.calls) (kept_in t s.sector rs)) (sym never)
      (subst (λ (l : List (ℕ × List ℕ)). IsFront (written_in g.calls) l) (none_written maps (reads_dry maps reads))
      (cut_written maps g.calls (broke_cut MapReadName [] maps g.calls broke)))
  goes_written files g on (AfterMaps maps rest reads is goes) =
      way_written files g maps rest reads is (way s files (record g { calls = rest }) on goes)
