-- What a sweep saves can be printed and read again.
use Rattle.std.proofs.Common.{◌≡◌, ℕ, ◌+◌, ◌^◌, ◌<◌, ◌≤◌, Bool, true, false, if◌then◌else◌, List, [], ◌∷◌, length, map, All, Option, Some, None, sym, arith}
use Rattle.std.specs.List.{flat_map}
use Rattle.std.proofs.lemmas.List.Elements.{All-append, All-nil, All-cons, All-head, All-tail, All-same}
use Rattle.block_list.specs.declared.status.Status.{Status}
use Rattle.mapfile_text.specs.declared.state.MapState.{MapState}
use Rattle.rescue_rules.specs.Setting.{Setting}
use Rattle.rescue_rules.specs.Events.{began_at}
use Rattle.rescue_rules.specs.Laws.{AreTimes}
use Rattle.rescue_rules.specs.Deeds.{Deed, some_save, saves_in}
use Rattle.rescue_rules.proofs.StandsLemmas.{IsPrintable, IsSmall}
use Rattle.rescue_rules.proofs.SnapshotLemmas.{IsReadable}
use Rattle.sweep_rules.specs.Sweep.{Sweeper, Sweep, Swept, sweep_over, IsSweep, after_piece, after_pieces, is_save_due, sweep_snapshot, sweep_end, due_save, deeds_of}
use Rattle.sweep_rules.proofs.SweepLemmas.{Within, piece_within}

-- a piece with a reading that a clock can give
abbrev pub IsTimed : Swept → Type 0
IsTimed e = e.after < 2 ^ 64

all_after : (es : List Swept) → AreTimes (map (λ (e : Swept). e.after) es) → All IsTimed es
all_after [] h = All-nil IsTimed
all_after (e ∷ es) h =
    All-cons IsTimed e es (All-head (λ (t : ℕ). t < 2 ^ 64) e.after (map (λ (e : Swept). e.after) es) h)
    (all_after es (All-tail (λ (t : ℕ). t < 2 ^ 64) e.after (map (λ (e : Swept). e.after) es) h))

-- the pieces of a run whose clock was read at its start, and after each of them
pub pieces_timed : (times : List ℕ) (es : List Swept) → AreTimes times
    → times ≡ began_at times ∷ map (λ (e : Swept). e.after) es → All IsTimed es
pieces_timed times es h is =
    all_after es (All-tail (λ (t : ℕ). t < 2 ^ 64) (began_at times) (map (λ (e : Swept). e.after) es)
    (All-same (λ (t : ℕ). t < 2 ^ 64) (began_at times ∷ map (λ (e : Swept). e.after) es) times (sym is) h))

-- a state whose snapshot can be printed
pub record IsTame (s : Setting) (m : Sweep) : Type 0 where
  pub long : s.end ≤ length m.map
  pub short : length m.map < 2 ^ 63
  pub shown : IsPrintable m.tally.shown
  pub began : m.tally.began < 2 ^ 64
  pub now : m.tally.now < 2 ^ 64

snapshot_readable : (s : Setting) (m : Sweep) → IsTame s m → IsReadable s.end (sweep_snapshot m)
snapshot_readable s m h =
    record { long = h.long; short = h.short; shown = h.shown; began = h.began; now = h.now }

end_readable : (s : Setting) (done : Bool) (m : Sweep) → IsTame s m → IsReadable s.end (sweep_end done m)
end_readable s true m h = record {
  long = h.long;
  short = h.short;
  shown = record { pos = h.shown.pos; some = omega arith; pass = omega arith };
  began = h.began;
  now = h.now;
}
end_readable s false m h = snapshot_readable s m h

if_readable : (s : Setting) (due : Bool) (m : Sweep) → IsTame s m
    → All (IsReadable s.end) (some_save (if due then Some (sweep_snapshot m) else None))
if_readable s true m h =
    All-cons (IsReadable s.end) (sweep_snapshot m) [] (snapshot_readable s m h) (All-nil (IsReadable s.end))
if_readable s false m h = All-nil (IsReadable s.end)

-- over a map that a mapfile stands for
pub begins_tame : (s : Setting) (w : Sweeper) (began : List Status) (state : Option MapState) (time : ℕ)
    → time < 2 ^ 64 → IsSmall s.end began state → IsTame s (sweep_over w began state time)
begins_tame s w began state time first small =
    record { long = small.long; short = small.short; shown = small.shown; began = first; now = first }

module _ (s : Setting) (w : Sweeper) (sizes : (map : List Status) (e : Swept) → length (w.marks map e) ≡ length map) where
  tame_piece : (m : Sweep) (e : Swept) → Within s m e.pos (e.pos + e.len) → IsTimed e → IsTame s m → IsTame s (after_piece w m e)
  tame_piece m e in_it timed h =
      let size : length (w.marks m.map e) ≡ length m.map = sizes m.map e in
      record {
        long = omega (arith, h.long, size);
        short = omega (arith, h.short, size);
        shown = record { pos = omega (arith, in_it.inside, h.short); some = omega arith; pass = omega arith };
        began = h.began;
        now = timed;
      }

  dues_readable : (m : Sweep) (es : List Swept) → IsSweep s w m es → All IsTimed es → IsTame s m
      → All (IsReadable s.end) (flat_map (λ (d : Deed). some_save d.save) (deeds_of w m es)) × IsTame s (after_pieces w m es)
  dues_readable m [] sweep timed h = (All-nil (IsReadable s.end), h)
  dues_readable m (e ∷ es) sweep timed h =
      let next : IsTame s (after_piece w m e)
      = tame_piece m e (piece_within s w m e.pos (e.pos + e.len) sweep.0) (All-head IsTimed e es timed) h in
      let rest = dues_readable (after_piece w m e) es sweep.2 (All-tail IsTimed e es timed) next in (
        All-append (IsReadable s.end) (some_save (due_save w m e))
            (flat_map (λ (d : Deed). some_save d.save) (deeds_of w (after_piece w m e) es))
            (if_readable s (is_save_due m e) (after_piece w m e) next) rest.0,
        rest.1,
      )

  pub all_readable : (m : Sweep) (es : List Swept) (done : Bool) → IsSweep s w m es → All IsTimed es → IsTame s m
      → All (IsReadable s.end) (saves_in (deeds_of w m es) (sweep_end done (after_pieces w m es)))
  all_readable m es done sweep timed h =
      let dues = dues_readable m es sweep timed h in
      All-append (IsReadable s.end) (flat_map (λ (d : Deed). some_save d.save) (deeds_of w m es))
      (sweep_end done (after_pieces w m es) ∷ []) dues.0
      (All-cons (IsReadable s.end) (sweep_end done (after_pieces w m es)) [] (end_readable s done (after_pieces w m es) dues.1)
      (All-nil (IsReadable s.end)))
