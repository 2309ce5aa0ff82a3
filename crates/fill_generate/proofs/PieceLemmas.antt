-- A piece of a sweep, by what was done for it.
use Rattle.std.proofs.Common.{◌≡◌, ℕ, ◌+◌, ◌-◌, ◌/◌, nat_le, Bool, true, false, IsTrue, List, [], ◌∷◌, ◌++◌, take, Some, None, if◌then◌else◌, refl, sym, ap, subst, ◌∙◌, arith, inl}
use Rattle.crash_site.specs.Calls.{Call, Done, image_write, image_read}
use Rattle.crash_site.specs.CallsMade.{Lost, call_name}
use Rattle.crash_site.specs.SiteState.{SiteState}
use Rattle.crash_site.specs.SiteChanges.{Makes, Breaks}
use Rattle.fault_count.specs.Counts.{Rose}
use Rattle.mapfile_text.specs.declared.state.Current.{Current}
use Rattle.mapfile_save.specs.Saving.{save_calls, IsNameIn}
use Rattle.rescue_console.specs.ClockState.{ClockState}
use Rattle.rescue_console.specs.ConsoleState.{ConsoleState}
use Rattle.rescue_console.specs.Speaking.{SpeaksOn, out_pieces}
use Rattle.block_list.specs.declared.types.TypeSet.{TypeSet}
use Rattle.rescue_rules.specs.declared.stop.Stop.{Stop}
use Rattle.rescue_rules.specs.declared.stop.Stop.TheVariants.{Site}
use Rattle.rescue_rules.specs.Setting.{Setting, place}
use Rattle.rescue_rules.specs.Snapshots.{Snapshot, text_of}
use Rattle.rescue_rules.specs.Step.{save_interval}
use Rattle.rescue_rules.specs.Said.{is_line_due}
use Rattle.rescue_rules.specs.Lines.{phase_front, report_text}
use Rattle.rescue_rules.specs.Deeds.{save_of}
use Rattle.sweep_rules.specs.Sweep.{Sweeper, Sweep, Swept, after_piece, due_save, sweep_snapshot, filler, generator}
use Rattle.sweep_rules.specs.SweepWork.{piece_lines, lost_call, sweep_report}
use Rattle.rescue_core.proofs.ObjectLemmas.{makes_more}
use Rattle.rescue_rules.specs.Across.{Across}
use Rattle.fill_generate.specs.declared.sweeping.Piece.{Piece}
use Rattle.fill_generate.specs.declared.mode.SweepMode.TheVariants.{Fill, Generate}
use Rattle.fill_generate.specs.Modes.{IsSweeperOf, current_in}
use Rattle.fill_generate.specs.SweepState.{SweepState, setting_of, standing, moved}
use Rattle.fill_generate.specs.Sweeping.{around}
use Rattle.fill_generate.specs.Steps.{IsFound, heard_as, line_after, save_after, DoesPiece, DidPiece, StepsPastPiece, BreaksSave, Halted, Uncalled, Unsaved}
use Rattle.fill_generate.proofs.TellLemmas.{breaks_after}

-- a piece that was done, with what the output gave for it, at this time
abbrev pub done_at : Piece → (got : List ℕ) → (after : ℕ) → Swept
done_at piece got after = record { pos = piece.pos; len = piece.len; got = got; after = after }

-- the state with a piece marked
abbrev pub marked_with : Sweeper → SweepState → Swept → SweepState
marked_with w r e = standing r (record r.sweep { map = w.marks r.sweep.map e })

-- the state after it
stands_after : (w : Sweeper) (r r1 r2 : SweepState) (piece : Piece) (got : List ℕ) (written after : ℕ) (o : Across)
    → IsSweeperOf r.mode w → r1 ≡ marked_with w r (done_at piece got after) → w.writes (done_at piece got after) ≡ written
    → StepsPastPiece piece written after r1 r2 o → r2 ≡ heard_as (standing r (after_piece w r.sweep (done_at piece got after))) r2.heard
stands_after w r r1 r2 piece got written after o of marked writes p =
    let e : Swept = done_at piece got after in
    p.stands
    ∙ ap (λ (q : SweepState). heard_as (standing q (moved (current_in q.mode) q.sweep piece.pos piece.len written after)) r2.heard) marked
    ∙ ap (λ (c : Current). heard_as (standing r (moved c (marked_with w r e).sweep piece.pos piece.len written after)) r2.heard) (sym of.current)
    ∙ ap (λ (n : ℕ). heard_as (standing r (moved w.current (marked_with w r e).sweep piece.pos piece.len n after)) r2.heard) (sym writes)

-- the line after it, if it is said in this phase
abbrev lines_with : Setting → Sweeper → Sweep → Swept → Current → List (List ℕ)
lines_with s w m e current =
    if is_line_due m.tally.said current (e.after / 1000)
    then report_text (phase_front (after_piece w m e).tally.shown) (sweep_report s (after_piece w m e)) ∷ []
    else []

pub takes : (G : Swept → Type 0) (w : Sweeper) (r r1 r2 : SweepState) (piece : Piece) (got : List ℕ) (written after : ℕ) (o : Across)
    → IsSweeperOf r.mode w → IsFound r piece → w.gives (done_at piece got after) ≡ true → G (done_at piece got after)
    → r1 ≡ marked_with w r (done_at piece got after) → w.writes (done_at piece got after) ≡ written
    → StepsPastPiece piece written after r1 r2 o
    → DoesPiece G (setting_of r) w r.sweep r2.sweep r.heard r2.heard (done_at piece got after) o
takes G w r r1 r2 piece got written after o of found gives given marked writes p =
    let e : Swept = done_at piece got after in
    let s : Setting = setting_of r in
    let there : r2 ≡ heard_as (standing r (after_piece w r.sweep e)) r2.heard =
    stands_after w r r1 r2 piece got written after o of marked writes p in
    let lines : line_after r1 r2 after ≡ piece_lines s w r.sweep e =
    ap (λ (q : SweepState). line_after q r2 after) marked
    ∙ ap (λ (q : SweepState). line_after (marked_with w r e) q after) there
    ∙ ap (λ (c : Current). lines_with s w r.sweep e c) (sym of.current) in
    record {
      asks = found.next w of;
      gives = gives;
      given = given;
      steps = ap (λ (q : SweepState). q.sweep) there;
      timed = p.timed;
      fit = p.fit;
      says = subst (λ (ls : List (List ℕ)). SpeaksOn (out_pieces ls) r.heard r2.heard o.console o.console') lines
          (subst (λ (h : Bool). SpeaksOn (out_pieces (line_after r1 r2 after)) h r2.heard o.console o.console')
          (ap (λ (q : SweepState). q.heard) marked) p.says);
    }

-- the save that is due after it
save_if : (s : Setting) (due : Bool) (p : Snapshot)
    → (if due then save_calls s.names (text_of s.line p) else []) ≡ save_of s (if due then Some p else None)
save_if s true p = refl
save_if s false p = refl

pub save_is : (w : Sweeper) (r r1 r2 : SweepState) (piece : Piece) (got : List ℕ) (written after : ℕ) (o : Across)
    → IsSweeperOf r.mode w → r1 ≡ marked_with w r (done_at piece got after) → w.writes (done_at piece got after) ≡ written
    → StepsPastPiece piece written after r1 r2 o
    → save_after r1 r2 after ≡ save_of (setting_of r) (due_save w r.sweep (done_at piece got after))
save_is w r r1 r2 piece got written after o of marked writes p =
    let e : Swept = done_at piece got after in
    ap (λ (q : SweepState). save_after q r2 after) marked
    ∙ ap (λ (q : SweepState). save_after (marked_with w r e) q after)
    (stands_after w r r1 r2 piece got written after o of marked writes p)
    ∙ save_if (setting_of r) (nat_le (r.sweep.tally.due_at + save_interval) after) (sweep_snapshot (after_piece w r.sweep e))

-- A piece was done, with its call and the save that was due,
pub took : (G : Swept → Type 0) (w : Sweeper) (r r1 r2 : SweepState) (piece : Piece) (got : List ℕ) (written after : ℕ)
    (a b c : SiteState) (k l : ClockState) (x y : ConsoleState) → b.tells ≡ a.tells
    → IsSweeperOf r.mode w → IsFound r piece → w.gives (done_at piece got after) ≡ true → G (done_at piece got after)
    → r1 ≡ marked_with w r (done_at piece got after) → w.writes (done_at piece got after) ≡ written
    → Makes (w.call (done_at piece got after) ∷ []) a b → StepsPastPiece piece written after r1 r2 (around b c k l x y)
    → Makes (save_after r1 r2 after) b c
    → DidPiece G (setting_of r) w r.sweep r2.sweep r.heard r2.heard (around a c k l x y)
took G w r r1 r2 piece got written after a b c k l x y tells of found gives given marked writes call p saves =
    let e : Swept = done_at piece got after in
    let s : Setting = setting_of r in
    let t : DoesPiece G s w r.sweep r2.sweep r.heard r2.heard e (around b c k l x y) =
    takes G w r r1 r2 piece got written after (around b c k l x y) of found gives given marked writes p in
    record {
      event = e;
      takes = record { asks = t.asks; gives = t.gives; given = t.given; steps = t.steps; timed = t.timed; fit = t.fit; says = t.says };
      calls = makes_more (w.call e ∷ []) (save_of s (due_save w r.sweep e)) a b c tells call
          (subst (λ (cs : List Call). Makes cs b c)
          (save_is w r r1 r2 piece got written after (around b c k l x y) of marked writes p) saves);
    }

-- or with a save that broke off
pub unsaved : (G : Swept → Type 0) (w : Sweeper) (r r1 r2 : SweepState) (piece : Piece) (got : List ℕ) (written after : ℕ)
    (stop : Stop) (a b c : SiteState) (k l : ClockState) (x y : ConsoleState) → b.tells ≡ a.tells
    → IsSweeperOf r.mode w → IsFound r piece → w.gives (done_at piece got after) ≡ true → G (done_at piece got after)
    → r1 ≡ marked_with w r (done_at piece got after) → w.writes (done_at piece got after) ≡ written
    → Makes (w.call (done_at piece got after) ∷ []) a b → StepsPastPiece piece written after r1 r2 (around b c k l x y)
    → BreaksSave stop (save_after r1 r2 after) b c
    → Halted G (setting_of r) w r.sweep r2.sweep r.heard r2.heard stop (around a c k l x y)
unsaved G w r r1 r2 piece got written after stop a b c k l x y tells of found gives given marked writes call p broke =
    let e : Swept = done_at piece got after in
    let s : Setting = setting_of r in
    let t : DoesPiece G s w r.sweep r2.sweep r.heard r2.heard e (around b c k l x y) =
    takes G w r r1 r2 piece got written after (around b c k l x y) of found gives given marked writes p in
    let saves : save_after r1 r2 after ≡ save_of s (due_save w r.sweep e) =
    save_is w r r1 r2 piece got written after (around b c k l x y) of marked writes p in
    Unsaved e
    (record { asks = t.asks; gives = t.gives; given = t.given; steps = t.steps; timed = t.timed; fit = t.fit; says = t.says })
    broke.call broke.is
    (breaks_after broke.call (w.call e ∷ []) (save_of s (due_save w r.sweep e)) a b c tells call
    (subst (λ (cs : List Call). IsNameIn broke.call cs) saves broke.named)
    (subst (λ (cs : List Call). Breaks broke.call cs b c) saves broke.breaks))

-- or its call failed
pub size_back : (p n : ℕ) → (p + n) - p ≡ n
size_back p n = omega arith

pub uncalled : (G : Swept → Type 0) (w : Sweeper) (r r2 : SweepState) (piece : Piece) (stop : Stop) (call : Call) (a c : SiteState)
    (k : ClockState) (x : ConsoleState) → IsSweeperOf r.mode w → IsFound r piece
    → lost_call w piece.pos (piece.pos + piece.len) ≡ call → stop ≡ Site (call_name call) → r2 ≡ r
    → Breaks (call_name call) (call ∷ []) a c
    → Halted G (setting_of r) w r.sweep r2.sweep r.heard r2.heard stop (around a c k k x x)
uncalled G w r r2 piece stop call a c k x of found lost is stands broke =
    Uncalled piece.pos (piece.pos + piece.len) (found.next w of)
    (is ∙ ap (λ (d : Call). Site (call_name d)) (sym lost))
    (ap (λ (q : SweepState). q.sweep) stands) (ap (λ (q : SweepState). q.heard) stands)
    (subst (λ (d : Call). Breaks (call_name d) (d ∷ []) a c) (sym lost) broke) refl refl

pub breaks_one : (call : Call) (a c : SiteState) → (IsTrue a.tells → Lost call a.calls c.calls) → Rose a.faults c.faults
    → Breaks (call_name call) (call ∷ []) a c
breaks_one call a c lost rose = record { broke = λ tells. inl (refl, lost tells); rose = rose }

pub makes_one : (call : Call) (a b : SiteState)
    → (IsTrue a.tells → b.calls ≡ a.calls ++ Done call ∷ []) → b.faults ≡ a.faults → Makes (call ∷ []) a b
makes_one call a b done kept = record { made = done; faults = kept }

-- the calls of the two kinds
pub lost_write : (s : Setting) (types : TypeSet) (buffer : List ℕ) (p n : ℕ)
    → lost_call (filler s types buffer) p (p + n) ≡ image_write (place s p) (take n buffer)
lost_write s types buffer p n = ap (λ (k : ℕ). image_write (place s p) (take k buffer)) (size_back p n)

pub lost_read : (s : Setting) (p n : ℕ) → lost_call (generator s) p (p + n) ≡ image_read (place s p) n None
lost_read s p n = ap (λ (k : ℕ). image_read (place s p) k None) (size_back p n)

pub fills_is : (r : SweepState) (s : Setting) (types : TypeSet) (buffer : List ℕ) → r.mode ≡ Fill types
    → IsSweeperOf r.mode (filler s types buffer)
fills_is r s types buffer is = rw is (record { takes = λ status. refl; current = refl })

pub generates_is : (r : SweepState) (s : Setting) → r.mode ≡ Generate → IsSweeperOf r.mode (generator s)
generates_is r s is = rw is (record { takes = λ status. refl; current = refl })
