-- What is due after a piece, and at the end of a sweep.
use Rattle.std.proofs.Common.{◌≡◌, ℕ, ◌+◌, ◌/◌, ◌<◌, ◌^◌, nat_le, Bool, true, List, [], ◌∷◌, Option, Some, None, is_none, is_some, if◌then◌else◌, Ok, Err, refl, sym, ap, subst, ◌∙◌}
use Rattle.std.proofs.lemmas.Bool.{cond-true}
use Rattle.block_list.specs.declared.block.Range.{Range}
use Rattle.block_list.specs.declared.status.Status.{Status}
use Rattle.crash_site.specs.Calls.{Call, image_sync}
use Rattle.crash_site.specs.SiteState.{SiteState}
use Rattle.crash_site.specs.SiteChanges.{Makes, Breaks}
use Rattle.mapfile_save.specs.Saving.{save_calls, IsNameIn}
use Rattle.crash_site.specs.declared.site.SiteCall.{SiteCall}
use Rattle.rescue_console.specs.ClockState.{ClockState, Reads as ReadsClock}
use Rattle.rescue_console.specs.ConsoleState.{ConsoleState}
use Rattle.rescue_console.specs.Speaking.{SpeaksOn, SpokenPiece, out_pieces}
use Rattle.rescue_domain.specs.Parts.{covers}
use Rattle.rescue_rules.specs.declared.stop.Stop.{Stop}
use Rattle.rescue_rules.specs.declared.stop.Stop.TheVariants.{Site}
use Rattle.rescue_rules.specs.declared.stop.RunEnd.{RunEnd}
use Rattle.rescue_rules.specs.declared.tally.Tally.{Tally}
use Rattle.rescue_rules.specs.Counts.{counts_of}
use Rattle.rescue_rules.specs.Snapshots.{Snapshot, text_of}
use Rattle.rescue_rules.specs.RunCalls.{closing_calls}
use Rattle.rescue_rules.specs.Said.{is_line_due}
use Rattle.rescue_rules.specs.Step.{save_interval}
use Rattle.rescue_rules.specs.Lines.{phase_front, report_text}
use Rattle.rescue_core.specs.declared.keeper.Keeper.{Keeper}
use Rattle.run_options.specs.declared.settings.Settings.{Settings}
use Rattle.mapfile_save.specs.MapNames.{names_in}
use Rattle.rescue_core.specs.Keeping.{saves_of, last_calls}
use Rattle.rescue_core.specs.Closing.{closing_with}
use Rattle.rescue_core.proofs.ClosingLemmas.{said_with, last_with}
use Rattle.sweep_rules.specs.Sweep.{Sweep, sweep_snapshot, sweep_end}
use Rattle.sweep_rules.specs.SweepWork.{sweep_report}
use Rattle.rescue_rules.specs.Across.{Across}
use Rattle.fill_generate.specs.declared.sweeping.Piece.{Piece}
use Rattle.fill_generate.specs.Modes.{current_in}
use Rattle.fill_generate.specs.SweepState.{SweepState, setting_for, setting_of, sweep_at, standing, moved}
use Rattle.fill_generate.specs.Sweeping.{around}
use Rattle.fill_generate.specs.Steps.{heard_as, line_after, save_after, StepsPastPiece, EndsPiece}

-- the line of a sweep, if it is due
abbrev pub line_if : SweepState → Bool → List (List ℕ)
line_if r due = if due then report_text (phase_front r.sweep.tally.shown) (sweep_report (setting_of r) r.sweep) ∷ [] else []

abbrev pub save_if : SweepState → Bool → List Call
save_if r due = if due then save_calls r.names (text_of r.line (sweep_snapshot r.sweep)) else []

-- The state after a piece, what is said of it and whether it is heard.
pub record After (piece : Piece) (written after : ℕ) (line : Bool) (r r1 r2 r3 : SweepState) (o : Across) : Type 0 where
  pub timed : ReadsClock (after ∷ []) o.clock o.clock'
  pub fit : after < 2 ^ 64
  pub moves : r1 ≡ standing r (moved (current_in r.mode) r.sweep piece.pos piece.len written after)
  pub due : line ≡ is_line_due r.sweep.tally.said (current_in r.mode) (after / 1000)
  pub hears : r2 ≡ heard_as r1 r2.heard
  pub says : SpeaksOn (out_pieces (line_if r1 line)) r1.heard r2.heard o.console o.console'
  pub stays : r3 ≡ r2

after_is : (piece : Piece) (written after : ℕ) (line : Bool) (r r1 r2 r3 : SweepState) (o : Across)
    → After piece written after line r r1 r2 r3 o
    → r2 ≡ heard_as (standing r (moved (current_in r.mode) r.sweep piece.pos piece.len written after)) r2.heard
after_is piece written after line r r1 r2 r3 o b =
    b.hears ∙ ap (λ (q : SweepState). heard_as q r2.heard) b.moves

pub passes : (piece : Piece) (written after : ℕ) (line : Bool) (r r1 r2 r3 : SweepState) (o : Across)
    → After piece written after line r r1 r2 r3 o → StepsPastPiece piece written after r r3 o
passes piece written after line r r1 r2 r3 o b =
    let m : Sweep = moved (current_in r.mode) r.sweep piece.pos piece.len written after in
    let there : r2 ≡ heard_as (standing r m) r2.heard = after_is piece written after line r r1 r2 r3 o b in
    let lines : line_if r1 line ≡ line_after r r2 after =
    ap (λ (q : SweepState). line_if q line) b.moves ∙ ap (line_if (standing r m)) b.due
    ∙ ap (λ (q : SweepState). line_after r q after) (sym there) in
    subst (λ (q : SweepState). StepsPastPiece piece written after r q o) (sym b.stays) (record {
      timed = b.timed;
      fit = b.fit;
      stands = there;
      says = subst (λ (h : Bool). SpeaksOn (out_pieces (line_after r r2 after)) h r2.heard o.console o.console')
          (ap (λ (q : SweepState). q.heard) b.moves)
          (subst (λ (ls : List (List ℕ)). SpeaksOn (out_pieces ls) r1.heard r2.heard o.console o.console') lines b.says);
    })

-- the save that is due
pub due_is : (piece : Piece) (written after : ℕ) (line save : Bool) (r r1 r2 r3 : SweepState) (o : Across)
    → After piece written after line r r1 r2 r3 o → save ≡ nat_le (r.sweep.tally.due_at + save_interval) after
    → save_if r2 save ≡ save_after r r3 after
due_is piece written after line save r r1 r2 r3 o b is =
    let m : Sweep = moved (current_in r.mode) r.sweep piece.pos piece.len written after in
    let due : Bool = nat_le (r.sweep.tally.due_at + save_interval) after in
    let there : r2 ≡ heard_as (standing r m) r2.heard = after_is piece written after line r r1 r2 r3 o b in
    ap (save_if r2) is ∙ ap (λ (q : SweepState). save_if q due) there
    ∙ ap (λ (q : SweepState). save_after r q after) (sym there)
    ∙ ap (λ (q : SweepState). save_after r q after) (sym b.stays)

-- the saves of a keeper that has a mapfile
pub saves_named : (k : Keeper) (p : Snapshot) → is_some k.names ≡ true
    → saves_of k p ≡ save_calls (names_in k.names) (text_of k.heading.line p)
saves_named k p there = cond-true (is_some k.names) (save_calls (names_in k.names) (text_of k.heading.line p)) [] there

end_is : (stop : Option Stop) (map : List Status) (cursor : ℕ) (t : Tally)
    → closing_with stop map t ≡ sweep_end (is_none stop) (sweep_at map cursor t)
end_is None map cursor t = refl
end_is (Some stop) map cursor t = refl

-- and its last calls
pub last_named : (stop : Option Stop) (settings : Settings) (domain : List Range) (map : List Status) (cursor : ℕ)
    (k : Keeper) → is_some k.names ≡ true
    → last_calls k (closing_with stop map k.tally)
    ≡ closing_calls (setting_for settings domain (names_in k.names) k.heading.line)
    (sweep_end (is_none stop) (sweep_at map cursor k.tally))
last_named stop settings domain map cursor k there =
    cond-true (is_some k.names) (save_calls (names_in k.names) (text_of k.heading.line (closing_with stop map k.tally)))
    (image_sync ∷ []) there
    ∙ ap (λ (p : Snapshot). save_calls (names_in k.names) (text_of k.heading.line p)) (end_is stop map cursor k.tally)

-- what is said of a sweep after a piece, and at its end
abbrev pub said_in : SweepState → List SpokenPiece
said_in r = said_with (counts_of (covers r.domain) r.sweep.map) r.sweep.tally

abbrev pub last_in : RunEnd → SweepState → List SpokenPiece
last_in end r = last_with (counts_of (covers r.domain) r.sweep.map) end r.sweep.tally

-- What was done after a piece, with the save that was due,
pub ends_whole : {T : Type 0} (v : T) (piece : Piece) (written after : ℕ) (line save : Bool) (r r1 r2 r3 : SweepState) (a c : SiteState)
    (k l : ClockState) (x y : ConsoleState) → ReadsClock (after ∷ []) k l → after < 2 ^ 64
    → r1 ≡ standing r (moved (current_in r.mode) r.sweep piece.pos piece.len written after)
    → line ≡ is_line_due r.sweep.tally.said (current_in r.mode) (after / 1000)
    → save ≡ nat_le (r.sweep.tally.due_at + save_interval) after → r2 ≡ heard_as r1 r2.heard
    → SpeaksOn (out_pieces (line_if r1 line)) r1.heard r2.heard x y → r3 ≡ r2 → Makes (save_if r2 save) a c
    → EndsPiece {T = T} (Ok v) piece written r r3 (around a c k l x y)
ends_whole v piece written after line save r r1 r2 r3 a c k l x y timed fit moves due is hears says stays makes =
    let b : After piece written after line r r1 r2 r3 (around a c k l x y) =
    record { timed = timed; fit = fit; moves = moves; due = due; hears = hears; says = says; stays = stays } in
    record {
      after = after;
      passes = passes piece written after line r r1 r2 r3 (around a c k l x y) b;
      made = subst (λ (cs : List Call). Makes cs a c)
          (due_is piece written after line save r r1 r2 r3 (around a c k l x y) b is) makes;
      broke = tt;
    }

-- or with one that broke off
pub ends_broken : {T : Type 0} (call : SiteCall) (piece : Piece) (written after : ℕ) (line save : Bool) (r r1 r2 r3 : SweepState)
    (a c : SiteState) (k l : ClockState) (x y : ConsoleState) → ReadsClock (after ∷ []) k l → after < 2 ^ 64
    → r1 ≡ standing r (moved (current_in r.mode) r.sweep piece.pos piece.len written after)
    → line ≡ is_line_due r.sweep.tally.said (current_in r.mode) (after / 1000)
    → save ≡ nat_le (r.sweep.tally.due_at + save_interval) after → r2 ≡ heard_as r1 r2.heard
    → SpeaksOn (out_pieces (line_if r1 line)) r1.heard r2.heard x y → r3 ≡ r2 → IsNameIn call (save_if r2 save)
    → Breaks call (save_if r2 save) a c
    → EndsPiece {T = T} (Err (Site call)) piece written r r3 (around a c k l x y)
ends_broken call piece written after line save r r1 r2 r3 a c k l x y timed fit moves due is hears says stays named breaks =
    let b : After piece written after line r r1 r2 r3 (around a c k l x y) =
    record { timed = timed; fit = fit; moves = moves; due = due; hears = hears; says = says; stays = stays } in
    let saves : save_if r2 save ≡ save_after r r3 after =
    due_is piece written after line save r r1 r2 r3 (around a c k l x y) b is in
    record {
      after = after;
      passes = passes piece written after line r r1 r2 r3 (around a c k l x y) b;
      made = tt;
      broke = record {
        call = call;
        is = refl;
        named = subst (λ (cs : List Call). IsNameIn call cs) saves named;
        breaks = subst (λ (cs : List Call). Breaks call cs a c) saves breaks;
      };
    }
