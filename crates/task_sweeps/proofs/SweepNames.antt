-- A sweep needs neither the names of its input and its output, nor the input's length, nor whether more is said.
use Rattle.std.proofs.Common.{◌≡◌, ℕ, ◌+◌, List, [], ◌∷◌, ◌++◌, map, Option, Some, None, is_none, refl, ap, ◌∙◌, subst}
use Rattle.std.specs.List.{flat_map}
use Rattle.crash_site.specs.Calls.{Call, Entry, Done}
use Rattle.crash_site.specs.CallsMade.{BrokeAt, call_name}
use Rattle.rescue_rules.specs.declared.stop.Stop.{Stop}
use Rattle.rescue_rules.specs.declared.stop.Stop.TheVariants.{SourceLost, Site, LimitMet, NoMemory}
use Rattle.rescue_rules.specs.declared.stop.RunEnd.{RunEnd}
use Rattle.rescue_rules.specs.Setting.{Setting}
use Rattle.rescue_rules.specs.Nameless.{nameless}
use Rattle.rescue_rules.specs.Snapshots.{Snapshot}
use Rattle.rescue_rules.specs.Lines.{is_done, last_front, report_text}
use Rattle.rescue_rules.specs.RunCalls.{closing_calls}
use Rattle.rescue_rules.specs.Deeds.{Deed, save_of, deed_calls, doing_calls}
use Rattle.sweep_rules.specs.Sweep.{Sweeper, Sweep, Swept, IsPiece, IsSweep, after_piece, after_pieces, deeds_of, due_save, sweep_end}
use Rattle.sweep_rules.specs.SweepWork.{SweepEndsBy, SweepEnds, IsSaved, IsUnsaved, IsCut, IsBroken, sweep_calls, pieces_lines, piece_lines, sweep_lines, sweep_report, lost_call}

module _ (s : Setting) (w : Sweeper) where
  piece_named : (m : Sweep) (p q : ℕ) → IsPiece (nameless s) w m p q → IsPiece s w m p q
  piece_named m p q h = record { end = h.end; range = h.range; ends = h.ends }

  pub sweep_named : (m : Sweep) (es : List Swept) → IsSweep (nameless s) w m es → IsSweep s w m es
  sweep_named m [] h = tt
  sweep_named m (e ∷ es) h = (piece_named m e.pos (e.pos + e.len) h.0, h.1, sweep_named (after_piece w m e) es h.2)

  save_named : (o : Option Snapshot) → save_of (nameless s) o ≡ save_of s o
  save_named None = refl
  save_named (Some p) = refl

  deed_named : (d : Deed) → deed_calls (nameless s) d ≡ deed_calls s d
  deed_named d = ap (λ (calls : List Call). d.calls ++ calls) (save_named d.save)

  deeds_named : (ds : List Deed) → flat_map (deed_calls (nameless s)) ds ≡ flat_map (deed_calls s) ds
  deeds_named [] = refl
  deeds_named (d ∷ ds) =
      ap (λ (calls : List Call). calls ++ flat_map (deed_calls (nameless s)) ds) (deed_named d)
      ∙ ap (λ (calls : List Call). deed_calls s d ++ calls) (deeds_named ds)

  doing_named : (ds : List Deed) (last : Snapshot) → doing_calls (nameless s) ds last ≡ doing_calls s ds last
  doing_named ds last = ap (λ (calls : List Call). calls ++ closing_calls s last) (deeds_named ds)

  by_named : (stop : Option Stop) (m : Sweep) → SweepEndsBy stop (nameless s) w m → SweepEndsBy stop s w m
  by_named (Some NoMemory) m by = (by.0, (by.1.0, by.1.1, piece_named m by.1.0 by.1.1 by.1.2))
  by_named _ m by = by

  pub ends_named : (m : Sweep) (es : List Swept) (calls : List Entry) (end : RunEnd)
      → SweepEnds (nameless s) w m es calls end → SweepEnds s w m es calls end
  ends_named m es calls end (IsSaved stop by is all) =
      IsSaved stop (by_named stop (after_pieces w m es) by) is
      (all ∙ ap (map Done) (doing_named (deeds_of w m es) (sweep_end (is_none stop) (after_pieces w m es))))
  ends_named m es calls end (IsUnsaved stop call by is broke) =
      let P : List Call → Type 0 = λ front.
      BrokeAt call (closing_calls s (sweep_end (is_none stop) (after_pieces w m es))) (map Done front) calls in
      IsUnsaved stop call (by_named stop (after_pieces w m es) by) is (subst P (deeds_named (deeds_of w m es)) broke)
  ends_named m es calls end (IsCut p q piece is broke) =
      let P : List Call → Type 0 = λ front.
      BrokeAt (call_name (lost_call w p q)) (lost_call w p q ∷ []) (map Done front) calls in
      IsCut p q (piece_named (after_pieces w m es) p q piece) is (subst P (deeds_named (deeds_of w m es)) broke)
  ends_named m es calls end (IsBroken before last call split is broke) =
      let due : Option Snapshot = due_save w (after_pieces w m before) last in
      let P : List Call → Type 0 = λ front. BrokeAt call (save_of (nameless s) due) (map Done (front ++ w.call last ∷ [])) calls in
      let Q : List Call → Type 0 = λ save.
      BrokeAt call save (map Done (sweep_calls s w m before ++ w.call last ∷ [])) calls in
      IsBroken before last call split is
      (subst Q (save_named due) (subst P (deeds_named (deeds_of w m before)) broke))

  pieces_named : (m : Sweep) (es : List Swept) → pieces_lines (nameless s) w m es ≡ pieces_lines s w m es
  pieces_named m [] = refl
  pieces_named m (e ∷ es) = ap (λ (lines : List (List ℕ)). piece_lines s w m e ++ lines) (pieces_named (after_piece w m e) es)

  pub lines_named : (m : Sweep) (es : List Swept) (end : RunEnd)
      → sweep_lines (nameless s) w m es end ≡ sweep_lines s w m es end
  lines_named m es end =
      ap
      (λ (lines : List (List ℕ)).
      lines ++ report_text (last_front (is_done end)) (sweep_report s (after_pieces w m es)) ∷ [])
      (pieces_named m es)
