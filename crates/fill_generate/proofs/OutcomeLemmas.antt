-- A piece by its outcome.
use Rattle.std.proofs.Common.{◌≡◌, ℕ, ◌+◌, Bool, true, false, List, [], ◌∷◌, length, None, Result, Ok, Err, OnOk, IfErr, refl, sym, ap, subst, ◌∙◌}
use Rattle.std.proofs.lemmas.Bool.{le-leb}
use Rattle.crash_site.specs.Calls.{image_read}
use Rattle.crash_site.specs.SiteState.{SiteState}
use Rattle.crash_site.specs.SiteChanges.{Keeps as SiteKeeps, Stays as SiteStays, Makes}
use Rattle.faulty_source.proofs.Keeping.{stays_self}
use Rattle.mapfile_save.proofs.FillLemmas.{keeps_more}
use Rattle.rescue_console.specs.ClockState.{ClockState, Keeps as ClockKeeps}
use Rattle.rescue_console.specs.ConsoleState.{ConsoleState}
use Rattle.rescue_rules.specs.declared.stop.Stop.{Stop}
use Rattle.rescue_rules.specs.Setting.{Setting, place}
use Rattle.rescue_core.specs.Closing.{drafting_at_stop}
use Rattle.sweep_rules.specs.Sweep.{Sweeper, Sweep, Swept, generator}
use Rattle.rescue_core.proofs.ObjectLemmas.{clock_self}
use Rattle.rescue_rules.specs.Across.{Across, ObjectsStay, no_source}
use Rattle.fill_generate.specs.declared.mode.SweepMode.TheVariants.{Generate}
use Rattle.fill_generate.specs.declared.sweeping.Piece.{Piece}
use Rattle.fill_generate.specs.Modes.{IsSweeperOf, current_in}
use Rattle.fill_generate.specs.SweepState.{SweepState, setting_of, standing, moved}
use Rattle.fill_generate.specs.Sweeping.{around}
use Rattle.fill_generate.specs.Steps.{IsFound, EndsPiece, PieceEnds, LooksUp, LooksNot, NoRoom, NoRead, Halted, Starved, IsLookedUp, gone_to, heard_as}
use Rattle.fill_generate.proofs.PieceLemmas.{done_at, marked_with, took, unsaved, uncalled, lost_read, generates_is}

-- after a piece the same sweep is elsewhere
gone_after : (w : Sweeper) (r r1 r2 : SweepState) (e : Swept) (m : Sweep) (h : Bool) → r1 ≡ marked_with w r e
    → r2 ≡ heard_as (standing r1 m) h → r2 ≡ gone_to r r2
gone_after w r r1 r2 e m h marked is =
    let there : r2 ≡ heard_as (standing r m) h = is ∙ ap (λ (q : SweepState). heard_as (standing q m) h) marked in
    there ∙ ap (λ (q : SweepState). gone_to r q) (sym there)

pub goes_after : {T : Type 0} (result : Result T Stop) (piece : Piece) (written : ℕ) (r r2 : SweepState) (o : Across)
    → EndsPiece result piece written r r2 o → r2 ≡ gone_to r r2
goes_after result piece written r r2 o ends =
    ends.passes.stands ∙ ap (λ (q : SweepState). gone_to r q) (sym ends.passes.stands)

ok_so : {T : Type 0} (result : Result T Stop) (P : Type 0) → P → OnOk result P
ok_so (Ok v) P holds = holds
ok_so (Err stop) P holds = tt

pub passes_after : {T : Type 0} (result : Result T Stop) (piece : Piece) (written : ℕ) (r r2 : SweepState) (o : Across)
    → EndsPiece result piece written r r2 o → OnOk result (r2.sweep.cursor ≡ piece.pos + piece.len)
passes_after result piece written r r2 o ends =
    ok_so result (r2.sweep.cursor ≡ piece.pos + piece.len) (ap (λ (q : SweepState). q.sweep.cursor) ends.passes.stands)

-- Its call returned.
pub piece_ends : {T : Type 0} (G : Swept → Type 0) (w : Sweeper) (r r1 r2 : SweepState) (piece : Piece) (got : List ℕ) (written : ℕ)
    (result : Result T Stop) (a b c : SiteState) (k l : ClockState) (x y : ConsoleState) → b.tells ≡ a.tells → IsSweeperOf r.mode w
    → IsFound r piece → ((t : ℕ) → w.gives (done_at piece got t) ≡ true) → ((t : ℕ) → G (done_at piece got t))
    → ((t : ℕ) → r1 ≡ marked_with w r (done_at piece got t)) → ((t : ℕ) → w.writes (done_at piece got t) ≡ written)
    → ((t : ℕ) → Makes (w.call (done_at piece got t) ∷ []) a b) → EndsPiece result piece written r1 r2 (around b c k l x y)
    → OnOk result (c.is_drafting ≡ false) → IfErr result (λ stop. c.is_drafting ≡ drafting_at_stop stop)
    → ObjectsStay (around a c k l x y) → PieceEnds G result w piece r r2 (around a c k l x y)
piece_ends G w r r1 r2 piece got written (Ok v) a b c k l x y tells of found gives given marked writes call ends no_draft left objects = record {
  stands = gone_after w r r1 r2 (done_at piece got ends.after)
      (moved (current_in r1.mode) r1.sweep piece.pos piece.len written ends.after) r2.heard (marked ends.after)
      ends.passes.stands;
  took = took G w r r1 r2 piece got written ends.after a b c k l x y tells of found (gives ends.after) (given ends.after)
      (marked ends.after) (writes ends.after) (call ends.after) ends.passes ends.made;
  passed = ap (λ (q : SweepState). q.sweep.cursor) ends.passes.stands;
  halted = tt;
  no_draft = no_draft;
  draft_left = tt;
  objects = objects;
}
piece_ends G w r r1 r2 piece got written (Err stop) a b c k l x y tells of found gives given marked writes call ends no_draft left objects = record {
  stands = gone_after w r r1 r2 (done_at piece got ends.after)
      (moved (current_in r1.mode) r1.sweep piece.pos piece.len written ends.after) r2.heard (marked ends.after)
      ends.passes.stands;
  took = tt;
  passed = tt;
  halted = unsaved G w r r1 r2 piece got written ends.after stop a b c k l x y tells of found (gives ends.after) (given ends.after)
      (marked ends.after) (writes ends.after) (call ends.after) ends.passes ends.broke;
  no_draft = tt;
  draft_left = left;
  objects = objects;
}

-- It was looked up,
pub looks : {T : Type 0} (r r1 r2 : SweepState) (piece : Piece) (result : Result T Stop) (a b c : SiteState) (k l : ClockState)
    (x y : ConsoleState) → r.mode ≡ Generate → IsFound r piece → LooksUp piece r r1 a b → SiteStays a b → SiteKeeps b c
    → c.is_open ≡ b.is_open → a.is_open ≡ true → ClockKeeps k l → EndsPiece result piece 0 r1 r2 (around b c k l x y)
    → OnOk result (c.is_drafting ≡ false) → IfErr result (λ stop. c.is_drafting ≡ drafting_at_stop stop)
    → PieceEnds (IsLookedUp (setting_of r) a) result (generator (setting_of r)) piece r r2 (around a c k l x y)
looks r r1 r2 piece result a b c k l x y mode found looked stays keeps same opened clock ends no_draft left =
    let s : Setting = setting_of r in
    piece_ends (IsLookedUp s a) (generator s) r r1 r2 piece looked.got 0 result a b c k l x y stays.keeps.tells
    (generates_is r s mode) found (λ t. le-leb (length looked.got) piece.len looked.few) (λ t tells apart. looked.told tells)
    (λ t. looked.marks) (λ t. refl) (λ t. looked.calls) ends no_draft left
    (record {
      source = stays_self no_source;
      site = keeps_more a b c stays.keeps keeps;
      image = same ∙ stays.image ∙ opened;
      clock = clock;
    })

-- or wasn't.
looks_nowhere : (G : Swept → Type 0) (r r1 : SweepState) (piece : Piece) (stop : Stop) (a c : SiteState) (k : ClockState)
    (x : ConsoleState) → r.mode ≡ Generate → IsFound r piece → r1 ≡ r → LooksNot stop piece r a c
    → Halted G (setting_of r) (generator (setting_of r)) r.sweep r1.sweep r.heard r1.heard stop (around a c k k x x)
looks_nowhere G r r1 piece stop a c k x mode found stands (NoRoom is same) =
    Starved is refl (ap (λ (q : SweepState). q.sweep) stands) (ap (λ (q : SweepState). q.heard) stands) same refl refl
looks_nowhere G r r1 piece stop a c k x mode found stands (NoRead is breaks) =
    let s : Setting = setting_of r in
    uncalled G (generator s) r r1 piece stop (image_read (place s piece.pos) piece.len None) a c k x (generates_is r s mode)
    found (lost_read s piece.pos piece.len) is stands breaks

left_then : (r : SweepState) (piece : Piece) (stop : Stop) (a c : SiteState) → LooksNot stop piece r a c
    → c.is_drafting ≡ false → c.is_drafting ≡ drafting_at_stop stop
left_then r piece stop a c (NoRoom is same) no_draft = no_draft ∙ ap drafting_at_stop (sym is)
left_then r piece stop a c (NoRead is breaks) no_draft = no_draft ∙ ap drafting_at_stop (sym is)

pub looks_not : {T : Type 0} (G : Swept → Type 0) (r r1 : SweepState) (piece : Piece) (stop : Stop) (result : Result T Stop)
    (a c : SiteState) (k : ClockState) (x : ConsoleState) → r.mode ≡ Generate → IsFound r piece → r1 ≡ r
    → LooksNot stop piece r a c → SiteStays a c → a.is_drafting ≡ false → a.is_open ≡ true → result ≡ Err stop
    → PieceEnds G result (generator (setting_of r)) piece r r1 (around a c k k x x)
looks_not {T} G r r1 piece stop result a c k x mode found stands not stays no_draft opened is =
    subst (λ (t : Result T Stop). PieceEnds G t (generator (setting_of r)) piece r r1 (around a c k k x x)) (sym is) (record {
      stands = stands ∙ ap (λ (q : SweepState). gone_to r q) (sym stands);
      took = tt;
      passed = tt;
      halted = looks_nowhere G r r1 piece stop a c k x mode found stands not;
      no_draft = tt;
      draft_left = left_then r piece stop a c not (stays.draft ∙ no_draft);
      objects = record {
        source = stays_self no_source;
        site = stays.keeps;
        image = stays.image ∙ opened;
        clock = clock_self k;
      };
    })
