-- A sweep's calls are a cut of its deeds', and it stops safely where it keeps what it promises.
use Rattle.std.proofs.Common.{◌≡◌, ◌⊎◌, inl, inr, ℕ, ◌<◌, ◌^◌, Bool, true, false, is_none, if◌then◌else◌, List, [], ◌∷◌, ◌++◌, length, map, All, Option, Some, None, refl, sym, ◌∙◌, ap, subst, append_assoc, append-nil}
use Rattle.std.specs.List.{flat_map}
use Rattle.std.proofs.lemmas.Grind.{flat_map-append}
use Rattle.block_list.specs.declared.status.Status.{Status}
use Rattle.mapfile_text.specs.declared.state.MapState.{MapState}
use Rattle.crash_site.specs.Files.{File}
use Rattle.crash_site.specs.Calls.{Call, Entry, Done, image_open}
use Rattle.mapfile_save.specs.Loading.{barrier_calls}
use Rattle.rescue_rules.specs.declared.stop.Stop.{Stop}
use Rattle.rescue_rules.specs.declared.stop.RunEnd.{RunEnd}
use Rattle.rescue_rules.specs.Setting.{Setting}
use Rattle.rescue_rules.specs.Start.{Stands}
use Rattle.rescue_rules.specs.Snapshots.{Snapshot}
use Rattle.rescue_rules.specs.Events.{began_at}
use Rattle.rescue_rules.specs.RunCalls.{closing_calls}
use Rattle.rescue_rules.specs.Work.{Gain, end_of}
use Rattle.rescue_rules.specs.Laws.{AreThreeNames, AreTimes}
use Rattle.rescue_rules.specs.Deeds.{Deed, deed_calls, save_of, doing_calls, some_save, saves_in}
use Rattle.rescue_rules.specs.Stops.{Before, files_before, CouldBeOutput}
use Rattle.rescue_rules.specs.StopsBy.{StopsBy}
use Rattle.rescue_rules.proofs.CutLemmas.{Cut, cut_all, cut_more}
use Rattle.rescue_rules.proofs.BarrierLemmas.{Opens}
use Rattle.rescue_rules.proofs.MapfileLemmas.{opening_by}
use Rattle.rescue_rules.proofs.StandsLemmas.{stands_for_one, stands_small}
use Rattle.rescue_rules.proofs.SnapshotLemmas.{IsReadable}
use Rattle.rescue_rules.proofs.DeedStages.{last_calls, all_calls, doing_is}
use Rattle.rescue_rules.proofs.StopsByLemmas.{CutOf, SafeRun, OneMap}
use Rattle.rescue_rules.proofs.KeptLemmas.{stops_by}
use Rattle.rescue_rules.proofs.GoesLemmas.{broke_cut, past_load}
use Rattle.rescue_rules.proofs.StopsLemmas.{first_small}
use Rattle.sweep_rules.specs.Sweep.{Sweeper, Sweep, Swept, IsPiece, after_piece, after_pieces, due_save, sweep_end, deeds_of}
use Rattle.sweep_rules.specs.SweepWork.{SweepEnds, IsSaved, IsUnsaved, IsCut, IsBroken, sweep_calls, lost_call, sweep_begins, sweep_opening}
use Rattle.sweep_rules.specs.SweepStops.{SweepsOver, has_swept_out, sweep_saves}
use Rattle.sweep_rules.proofs.SavedLemmas.{pieces_timed, begins_tame, all_readable}

-- the call of the next piece, as a deed
abbrev pub lost_deed : Sweeper → (p q : ℕ) → Deed
lost_deed w p q = record { calls = lost_call w p q ∷ []; save = None }

-- what a sweep does after the pieces that it did: nothing, or that call, which failed
abbrev pub IsTail : Setting → Sweeper → Sweep → List Deed → Type 0
IsTail s w m tail =
    (tail ≡ []) ⊎ ((p : ℕ) × (q : ℕ) × IsPiece s w m p q × (tail ≡ lost_deed w p q ∷ []))

-- so its calls are a cut
pub record Tailed (s : Setting) (w : Sweeper) (m : Sweep) (es : List Swept) (last : Snapshot) (calls : List Entry)
    : Type 0 where
  pub tail : List Deed
  pub is_tail : IsTail s w (after_pieces w m es) tail
  pub cut : Cut (all_calls s (deeds_of w m es ++ tail) last) calls

no_tail : (s : Setting) (w : Sweeper) (m : Sweep) (es : List Swept) (last : Snapshot) (calls : List Entry)
    → Cut (all_calls s (deeds_of w m es) last) calls → Tailed s w m es last calls
no_tail s w m es last calls h = record {
  tail = [];
  is_tail = inl refl;
  cut = subst (λ (l : List Deed). Cut (all_calls s l last) calls) (sym (append-nil (deeds_of w m es))) h;
}

deeds_more : (w : Sweeper) (m : Sweep) (before : List Swept) (e : Swept)
    → deeds_of w m (before ++ e ∷ [])
    ≡ deeds_of w m before ++ record { calls = w.call e ∷ []; save = due_save w (after_pieces w m before) e } ∷ []
deeds_more w m [] e = refl
deeds_more w m (x ∷ xs) e =
    ap (λ (l : List Deed). record { calls = w.call x ∷ []; save = due_save w m x } ∷ l) (deeds_more w (after_piece w m x) xs e)

swept_out_of : (stop : Option Stop) → has_swept_out (end_of stop) ≡ is_none stop
swept_out_of None = refl
swept_out_of (Some stop) = refl

ends_tailed : (s : Setting) (w : Sweeper) (m : Sweep) (es : List Swept) (calls : List Entry) (end : RunEnd)
    → s.has_mapfile ≡ true → SweepEnds s w m es calls end
    → Tailed s w m es (sweep_end (has_swept_out end) (after_pieces w m es)) calls
ends_tailed s w m es calls end on (IsSaved stop by end_is is) =
    let deeds : List Deed = deeds_of w m es in
    let out : has_swept_out end ≡ is_none stop = ap has_swept_out end_is ∙ swept_out_of stop in
    let last : Snapshot = sweep_end (is_none stop) (after_pieces w m es) in
    no_tail s w m es (sweep_end (has_swept_out end) (after_pieces w m es)) calls
    (subst (λ (b : Bool). Cut (all_calls s deeds (sweep_end b (after_pieces w m es))) calls) (sym out)
    (subst (λ (l : List Call). Cut l calls) (doing_is s deeds last on)
    (subst (λ (l : List Entry). Cut (doing_calls s deeds last) l) (sym is) (cut_all (doing_calls s deeds last)))))
ends_tailed s w m es calls end on (IsUnsaved stop call by end_is broke) =
    let deeds : List Deed = deeds_of w m es in
    let out : has_swept_out end ≡ is_none stop = ap has_swept_out end_is in
    let last : Snapshot = sweep_end (is_none stop) (after_pieces w m es) in
    no_tail s w m es (sweep_end (has_swept_out end) (after_pieces w m es)) calls
    (subst (λ (b : Bool). Cut (all_calls s deeds (sweep_end b (after_pieces w m es))) calls) (sym out)
    (subst (λ (l : List Call). Cut l calls) (doing_is s deeds last on)
    (broke_cut call (sweep_calls s w m es) (closing_calls s last) calls broke)))
ends_tailed s w m es calls end on (IsCut p q piece end_is broke) =
    let deeds : List Deed = deeds_of w m es in
    let last : Snapshot = sweep_end (has_swept_out end) (after_pieces w m es) in
    record {
      tail = lost_deed w p q ∷ [];
      is_tail = inr (p, q, piece, refl);
      cut = cut_more (flat_map (deed_calls s) (deeds ++ lost_deed w p q ∷ [])) (last_calls s last) calls
          (subst (λ (l : List Call). Cut l calls) (sym (flat_map-append (deed_calls s) deeds (lost_deed w p q ∷ [])))
          (broke_cut _ (sweep_calls s w m es) (lost_call w p q ∷ []) calls broke));
    }
ends_tailed s w m es calls end on (IsBroken before last call is end_is broke) =
    let saved : List Call = save_of s (due_save w (after_pieces w m before) last) in
    let deed : Deed = record { calls = w.call last ∷ []; save = due_save w (after_pieces w m before) last } in
    let all : flat_map (deed_calls s) (deeds_of w m es) ≡ (sweep_calls s w m before ++ w.call last ∷ []) ++ saved
    = ap (λ (l : List Swept). flat_map (deed_calls s) (deeds_of w m l)) is
    ∙ ap (λ (l : List Deed). flat_map (deed_calls s) l) (deeds_more w m before last)
    ∙ flat_map-append (deed_calls s) (deeds_of w m before) (deed ∷ [])
    ∙ ap (λ (l : List Call). sweep_calls s w m before ++ l) (append-nil (w.call last ∷ saved))
    ∙ sym (append_assoc (sweep_calls s w m before) (w.call last ∷ []) saved) in
    no_tail s w m es (sweep_end (has_swept_out end) (after_pieces w m es)) calls
    (cut_more (flat_map (deed_calls s) (deeds_of w m es))
    (last_calls s (sweep_end (has_swept_out end) (after_pieces w m es))) calls
    (subst (λ (l : List Call). Cut l calls) (sym all)
    (broke_cut call (sweep_calls s w m before ++ w.call last ∷ []) saved calls broke)))

-- the tail saves nothing
tail_saves : (s : Setting) (w : Sweeper) (m : Sweep) (tail : List Deed) → IsTail s w m tail
    → flat_map (λ (d : Deed). some_save d.save) tail ≡ []
tail_saves s w m tail (inl is) = ap (λ (l : List Deed). flat_map (λ (d : Deed). some_save d.save) l) is
tail_saves s w m tail (inr h) = ap (λ (l : List Deed). flat_map (λ (d : Deed). some_save d.save) l) h.3

pub saves_tailed : (s : Setting) (w : Sweeper) (m : Sweep) (deeds tail : List Deed) (last : Snapshot) → IsTail s w m tail
    → saves_in deeds last ≡ saves_in (deeds ++ tail) last
saves_tailed s w m deeds tail last is =
    sym (ap (λ (l : List Snapshot). l ++ last ∷ [])
    (flat_map-append (λ (d : Deed). some_save d.save) deeds tail
    ∙ ap (λ (l : List Snapshot). flat_map (λ (d : Deed). some_save d.save) deeds ++ l) (tail_saves s w m tail is)
    ∙ append-nil (flat_map (λ (d : Deed). some_save d.save) deeds)))

pub end_map : (done : Bool) (m : Sweep) → (sweep_end done m).map ≡ m.map
end_map true m = refl
end_map false m = refl

pub opening_is : (s : Setting) (makes : Bool) → s.has_mapfile ≡ true → sweep_opening s makes ≡ opening_by s makes
opening_is s makes on = ap (λ (b : Bool). image_open s.outfile makes ∷ (if b then barrier_calls s.names else [])) on

-- a sweep over what its mapfile stood for
module _ (b : Before) (s : Setting) (w : Sweeper) (g : Gain) (statuses : List Status) (state : Option MapState)
    (on : s.has_mapfile ≡ true) (o : SweepsOver s w b statuses state g) where
  abbrev pub first : Sweep
  first = sweep_begins w statuses state g

  abbrev pub last_of : Snapshot
  last_of = sweep_end (has_swept_out o.end) (after_pieces w first o.sweeps.events)

  pub tailed : Tailed s w first o.sweeps.events last_of o.rest
  tailed = ends_tailed s w first o.sweeps.events o.rest o.end on o.sweeps.ends

  pub course : CutOf s w.makes (deeds_of w first o.sweeps.events ++ tailed.tail) last_of g.calls
  course =
      let load = (o.loads.all on).begins in
      let calls_are : g.calls ≡ map Done (opening_by s w.makes ++ o.load) ++ o.rest
      = o.calls ∙ ap (λ (l : List Call). map Done (l ++ o.load) ++ o.rest) (opening_is s w.makes on) in
      let more : List Call = all_calls s (deeds_of w first o.sweeps.events ++ tailed.tail) last_of in
      record {
        given = load.given;
        at = _;
        answer = load.answer;
        cut = subst (λ (l : List Call). Cut (opening_by s w.makes ++ (l ++ more)) g.calls) load.calls_are
            (subst (λ (l : List Entry). Cut (opening_by s w.makes ++ (o.load ++ more)) l) (sym calls_are)
            (past_load s w.makes o.load more o.rest tailed.cut));
      }

  saves_readable : (sizes : (map : List Status) (e : Swept) → length (w.marks map e) ≡ length map) → s.end < 2 ^ 63
      → AreTimes g.times → (began : List Status) (shown : Option MapState)
      → Stands (files_before b s.names.map) s.end began shown
      → All (IsReadable s.end) (sweep_saves w began shown g o.sweeps.events o.end)
  saves_readable sizes low times began shown stands =
      let same = stands_for_one (files_before b s.names.map) s.end statuses began state shown o.stands stands in
      subst (λ (n : Option MapState). All (IsReadable s.end) (sweep_saves w began n g o.sweeps.events o.end)) same.1
      (subst (λ (m : List Status). All (IsReadable s.end) (sweep_saves w m state g o.sweeps.events o.end)) same.0
      (all_readable s w sizes first o.sweeps.events (has_swept_out o.end) o.sweeps.run
      (pieces_timed g.times o.sweeps.events times o.sweeps.times)
      (begins_tame s w statuses state (began_at g.times) (first_small g.times times)
      (stands_small (files_before b s.names.map) s.end statuses state low o.stands))))

  -- a sweep that is a safe run stops safely
  pub sweep_stops_by : (promise : List ℕ → List Status → Option MapState → ℕ → List Status → List ℕ → Type 0)
      (free : List Status → Option MapState → ℕ → List Status → ℕ → Type 0)
      → ((map : List Status) (e : Swept) → length (w.marks map e) ≡ length map) → AreThreeNames s → s.end < 2 ^ 63
      → AreTimes g.times → Opens w.makes (files_before b s.outfile)
      → ((was : File) → CouldBeOutput b s.outfile s.names.draft was
      → SafeRun (promise was.bytes statuses state) (free statuses state) w.makes s was.bytes statuses
      (sweep_saves w statuses state g o.sweeps.events o.end) g.calls)
      → StopsBy (λ began shown. sweep_saves w began shown g o.sweeps.events o.end) promise w.makes b s g.calls
  sweep_stops_by promise free sizes three low times opens is_safe =
      stops_by (λ began shown. sweep_saves w began shown g o.sweeps.events o.end) promise free w.makes b s g.calls three
      opens (λ was could. OneMap statuses state o.stands (is_safe was could)) (saves_readable sizes low times)
