-- What a rescue does by the time it is stopped, by the reads whose bytes had begun to be written.
use Rattle.std.proofs.Common.{◌≡◌, ⊎_elim, ℕ, ◌+◌, ◌≤◌, Bool, true, false, if◌then◌else◌, nat_eq, List, [], ◌∷◌, ◌++◌, take, map, All, Some, None, sym, ap, ◌∙◌, subst, arith, append_assoc}
use Rattle.std.specs.List.{flat_map}
use Rattle.faulty_source.specs.Journal.{Reading, kept}
use Rattle.crash_site.specs.Calls.{Call, image_open, image_read, image_write, image_sync, map_read, draft_begin, draft_append, draft_sync, draft_publish, map_settle, map_remove, Entry, Done, Failed}
use Rattle.mapfile_save.specs.Saving.{save_calls}
use Rattle.rescue_rules.specs.Setting.{Setting, IsSensible, place}
use Rattle.rescue_rules.specs.Machine.{Machine}
use Rattle.rescue_rules.specs.MachineLaws.{IsInOrder, StepsBy}
use Rattle.rescue_rules.specs.Step.{Event}
use Rattle.rescue_rules.specs.Moves.{ready, move_of, IsRun}
use Rattle.rescue_rules.specs.Events.{reads_of}
use Rattle.rescue_rules.specs.Deeds.{deed_calls, save_of}
use Rattle.rescue_rules.specs.RunDeeds.{run_deeds}
use Rattle.rescue_rules.specs.RunCalls.{write_calls}
use Rattle.rescue_rules.specs.Snapshots.{Snapshot, text_of, snapshot_of, is_due}
use Rattle.rescue_rules.specs.StopsBy.{IsUnwritten}
use Rattle.rescue_rules.proofs.CutLemmas.{Cut, add, cut_all}
use Rattle.rescue_rules.proofs.DeedStages.{last_calls, all_calls}
use Rattle.rescue_rules.proofs.FinishLemmas.{run_steps}
use Rattle.rescue_rules.proofs.MoveLemmas.{run_rest}
use Rattle.rescue_rules.proofs.StepLemmas.{wanted_domain}
use Rattle.rescue_safety.specs.Safe.{reads_until}
use Rattle.rescue_safety.proofs.SpareLemmas.{Spares, cut_unwritten, save_spares, write_spares, later_none, earlier_none, Ungiven, reading_spares}
use Rattle.rescue_safety.proofs.BegunLemmas.{writes_in, Past, cut_split, begun, own, is_kept, begun_step, write_counted, save_unwritten}

-- places that neither of two lists of calls writes
pub unwritten_both : (y : ℕ) (es fs : List Entry) → IsUnwritten es y → IsUnwritten fs y → IsUnwritten (es ++ fs) y
unwritten_both y [] fs h k = k
unwritten_both y (Done (image_open name make) ∷ es) fs h k = unwritten_both y es fs h k
unwritten_both y (Done (image_read pos asked answer) ∷ es) fs h k = unwritten_both y es fs h k
unwritten_both y (Done (image_write pos piece) ∷ es) fs h k = (h.0, unwritten_both y es fs h.1 k)
unwritten_both y (Done image_sync ∷ es) fs h k = unwritten_both y es fs h k
unwritten_both y (Done (map_read name pos asked answer) ∷ es) fs h k = unwritten_both y es fs h k
unwritten_both y (Done (draft_begin name) ∷ es) fs h k = unwritten_both y es fs h k
unwritten_both y (Done (draft_append piece) ∷ es) fs h k = unwritten_both y es fs h k
unwritten_both y (Done draft_sync ∷ es) fs h k = unwritten_both y es fs h k
unwritten_both y (Done (draft_publish name) ∷ es) fs h k = unwritten_both y es fs h k
unwritten_both y (Done (map_settle name) ∷ es) fs h k = unwritten_both y es fs h k
unwritten_both y (Done (map_remove name) ∷ es) fs h k = unwritten_both y es fs h k
unwritten_both y (Failed (image_open name make) steps ∷ es) fs h k = unwritten_both y es fs h k
unwritten_both y (Failed (image_read pos asked answer) steps ∷ es) fs h k = unwritten_both y es fs h k
unwritten_both y (Failed (image_write pos piece) steps ∷ es) fs h k = (h.0, unwritten_both y es fs h.1 k)
unwritten_both y (Failed image_sync steps ∷ es) fs h k = unwritten_both y es fs h k
unwritten_both y (Failed (map_read name pos asked answer) steps ∷ es) fs h k = unwritten_both y es fs h k
unwritten_both y (Failed (draft_begin name) steps ∷ es) fs h k = unwritten_both y es fs h k
unwritten_both y (Failed (draft_append piece) steps ∷ es) fs h k = unwritten_both y es fs h k
unwritten_both y (Failed draft_sync steps ∷ es) fs h k = unwritten_both y es fs h k
unwritten_both y (Failed (draft_publish name) steps ∷ es) fs h k = unwritten_both y es fs h k
unwritten_both y (Failed (map_settle name) steps ∷ es) fs h k = unwritten_both y es fs h k
unwritten_both y (Failed (map_remove name) steps ∷ es) fs h k = unwritten_both y es fs h k

-- returned calls that spare a place
pub all_unwritten : (y : ℕ) (cs : List Call) → All (Spares y) cs → IsUnwritten (map Done cs) y
all_unwritten y cs all = cut_unwritten y cs (map Done cs) all (cut_all cs)

-- a part of a write writes once, unless it is nothing
one_part : (pos : ℕ) (piece : List ℕ) (e : Entry) (es : List Entry) → Cut (image_write pos piece ∷ []) (e ∷ es)
    → writes_in (e ∷ es) ≡ 1
one_part pos piece (Done x) [] cut = ap (λ (z : Call). writes_in (Done z ∷ [])) cut.0
one_part pos piece (Done x) (z ∷ zs) cut = absurd cut.1
one_part pos piece (Failed x steps) es cut =
    ap (λ (l : List Entry). writes_in (Failed x steps ∷ l)) cut.1
    ∙ ap (λ (z : Call). writes_in (Failed z steps ∷ []))
    (⊎_elim (λ (is : x ≡ image_write pos piece). is) (λ (is : x ≡ image_write pos piece). is) cut.0)

one_written : (none : Bool) (pos : ℕ) (piece : List ℕ) (e : Entry) (es : List Entry)
    → Cut (if none then [] else image_write pos piece ∷ []) (e ∷ es) → writes_in (e ∷ es) ≡ 1
one_written true pos piece e es cut = absurd cut
one_written false pos piece e es cut = one_part pos piece e es cut

-- ---- a run

module _ (s : Setting) (ok : IsSensible s) (y : ℕ) where
  -- the reads that had begun to be written gave the position of this place no byte
  abbrev NotBegun : ℕ → List Reading → Type 0
  NotBegun n rs = Ungiven s ok y (reads_until s.sector n rs)

  module _ (m : Machine) (e : Event) (es : List Event) (last : Snapshot) (order : IsInOrder s m) (run : IsRun s m (e ∷ es))
    where
      abbrev n : Machine
      n = (move_of s m e).after

      abbrev r : Reading
      r = e.reading

      abbrev rs : List Reading
      rs = reads_of es

      abbrev later : List Call
      later = all_calls s (run_deeds s n es) last

      abbrev write : List Call
      write = write_calls s r

      steps : StepsBy s (ready s m) e
      steps = run_steps s ok m e es order run

      first : s.input_position ≤ r.pos
      first = ok.from r.pos (wanted_domain s (ready s m) r.pos (steps.wanted r.pos (omega arith) (omega (arith, steps.some))))

      -- if this read gave the place none, its write spares it
      own_spares : (rs' : List Reading) → Ungiven s ok y (r ∷ rs') → All (Spares y) write
      own_spares rs' none =
          write_spares y (nat_eq (kept s.sector r) 0) (place s r.pos) (take (kept s.sector r) r.given)
          (reading_spares s ok y r rs' first steps.kept_given none)

      -- a read more that had begun
      split_begun : (k : ℕ) → NotBegun (add (is_kept s.sector 0 r) k) (r ∷ rs)
          → NotBegun k rs × ((x : ℕ) → y + s.input_position ≡ x + s.output_position → own s.sector x r ≡ None)
      split_begun k none = (
        λ x at. later_none (begun s.sector x k rs) (own s.sector x r) (sym (begun_step s.sector x k r rs) ∙ none x at),
        λ x at. earlier_none (begun s.sector x k rs) (own s.sector x r) (sym (begun_step s.sector x k r rs) ∙ none x at),
      )

      own_only : ((x : ℕ) → y + s.input_position ≡ x + s.output_position → own s.sector x r ≡ None) → Ungiven s ok y (r ∷ [])
      own_only none x at = none x at

      after_write : (due : Bool) (part : List Entry)
          → ((rest : List Entry) → Cut later rest → NotBegun (writes_in rest) rs → IsUnwritten rest y)
          → Cut (save_of s (if due then Some (snapshot_of n) else None) ++ later) part → NotBegun (writes_in part) rs
          → IsUnwritten part y
      after_write false part ih cut none = ih part cut none
      after_write true part ih cut none =
          let save : List Call = save_calls s.names (text_of s.line (snapshot_of n)) in
          let spared : All (Spares y) save = save_spares y s.names (text_of s.line (snapshot_of n)) in
          ⊎_elim (λ (c : Cut save part). cut_unwritten y save part spared c)
          (λ (c : Past save later part).
          let same : writes_in part ≡ writes_in c.rest
          = ap writes_in c.is ∙ save_unwritten s ok 0 s.names (text_of s.line (snapshot_of n)) c.rest in
          subst (λ (l : List Entry). IsUnwritten l y) (sym c.is)
          (unwritten_both y (map Done save) c.rest (all_unwritten y save spared)
          (ih c.rest c.cut (subst (λ (k : ℕ). NotBegun k rs) same none))))
          (cut_split save later part cut)

      -- the write itself, or a part of it
      in_write : (part : List Entry) → Cut write part → NotBegun (writes_in part) (r ∷ rs) → IsUnwritten part y
      in_write [] cut none = tt
      in_write (e' ∷ es') cut none =
          let one : writes_in (e' ∷ es') ≡ 1
          = one_written (nat_eq (kept s.sector r) 0) (place s r.pos) (take (kept s.sector r) r.given) e' es' cut in
          cut_unwritten y write (e' ∷ es')
          (own_spares (reads_until s.sector (if nat_eq (kept s.sector r) 0 then 1 else 0) rs)
          (subst (λ (k : ℕ). NotBegun k (r ∷ rs)) one none)) cut

      unwritten_more : (part : List Entry)
          → ((rest : List Entry) → Cut later rest → NotBegun (writes_in rest) rs → IsUnwritten rest y)
          → Cut (all_calls s (run_deeds s m (e ∷ es)) last) part → NotBegun (writes_in part) (r ∷ rs) → IsUnwritten part y
      unwritten_more part ih cut none =
          let due : Bool = is_due s (move_of s m e) in
          let save : List Call = save_of s (if due then Some (snapshot_of n) else None) in
          let deeds : List Call = flat_map (deed_calls s) (run_deeds s n es) in
          let here : Cut (write ++ (save ++ later)) part
          = subst (λ (l : List Call). Cut l part)
          (append_assoc (write ++ save) deeds (last_calls s last) ∙ append_assoc write save later) cut in
          ⊎_elim (λ (c : Cut write part). in_write part c none)
          (λ (c : Past write (save ++ later) part).
          let count : writes_in part ≡ add (is_kept s.sector 0 r) (writes_in c.rest)
          = ap writes_in c.is
          ∙ write_counted s ok 0 (nat_eq (kept s.sector r) 0) (place s r.pos) (take (kept s.sector r) r.given) c.rest in
          let both = split_begun (writes_in c.rest) (subst (λ (k : ℕ). NotBegun k (r ∷ rs)) count none) in
          subst (λ (l : List Entry). IsUnwritten l y) (sym c.is)
          (unwritten_both y (map Done write) c.rest (all_unwritten y write (own_spares [] (own_only both.1)))
          (after_write due c.rest ih c.cut both.0)))
          (cut_split write (save ++ later) part here)

  pub run_unwritten : (m : Machine) (es : List Event) (last : Snapshot) (part : List Entry) → IsInOrder s m → IsRun s m es
      → Cut (all_calls s (run_deeds s m es) last) part → NotBegun (writes_in part) (reads_of es) → IsUnwritten part y
  run_unwritten m [] last part order run cut none =
      cut_unwritten y (last_calls s last) part (save_spares y s.names (text_of s.line last)) cut
  run_unwritten m (e ∷ es) last part order run cut none =
      unwritten_more m e es last order run part
      (λ rest c few. run_unwritten (move_of s m e).after es last rest (run_steps s ok m e es order run).order
      (run_rest s m e es run) c few)
      cut none
