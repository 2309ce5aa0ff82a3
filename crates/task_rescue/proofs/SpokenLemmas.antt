-- What a run says up to its end, or to where it stopped.
use Rattle.std.proofs.Common.{◌≡◌, ℕ, ◌+◌, ◌-◌, Bool, true, false, ◌&&◌, if◌then◌else◌, List, [], ◌∷◌, ◌++◌, map, length, take, Option, inl, inr, sym, ap, ◌∙◌, arith, subst, length-append, None}
use Rattle.std.proofs.Math.Seq.{take-append_seam}
use Rattle.block_list.specs.declared.status.Status.{Status}
use Rattle.mapfile_text.specs.Pieces.{pieces_of}
use Rattle.faulty_source.specs.SourceState.{SourceState}
use Rattle.crash_site.specs.declared.site.SiteCall.{SiteCall}
use Rattle.crash_site.specs.Calls.{Call, draft_append, draft_sync}
use Rattle.crash_site.specs.SiteState.{SiteState}
use Rattle.mapfile_save.specs.MapNames.{MapNames}
use Rattle.mapfile_save.specs.Saving.{IsNameIn, publish_calls, save_calls}
use Rattle.rescue_console.specs.ClockState.{ClockState}
use Rattle.rescue_console.specs.ConsoleState.{ConsoleState}
use Rattle.rescue_console.specs.Speaking.{SpeaksOn, out_pieces}
use Rattle.transfer_token.specs.declared.token.Request.{Request}
use Rattle.rescue_rules.specs.declared.report.Counts.{Counts}
use Rattle.rescue_rules.specs.declared.report.Report.{Report}
use Rattle.rescue_rules.specs.declared.stop.Stop.{Stop}
use Rattle.rescue_rules.specs.declared.stop.RunEnd.{RunEnd}
use Rattle.rescue_rules.specs.declared.tally.Tally.{Tally}
use Rattle.rescue_rules.specs.Setting.{Setting}
use Rattle.rescue_rules.specs.Machine.{Machine, IsRequest, is_live}
use Rattle.rescue_rules.specs.Step.{Event, limit_met}
use Rattle.rescue_rules.specs.Moves.{state_after, IsRun}
use Rattle.rescue_rules.specs.Counts.{counts_of}
use Rattle.rescue_rules.specs.Lines.{is_done, ends_at_write, is_image_write, last_front, last_line, lines_of, marked_events, move_lines, report_of, report_text, run_lines}
use Rattle.faulty_source.specs.Ends.{is_before}
use Rattle.rescue_rules.specs.Across.{Across}
use Rattle.rescue_core.specs.RunState.{RunState, setting_in}
use Rattle.rescue_core.specs.Turning.{IsEvent, stepped, move_by, move_pieces}
use Rattle.rescue_rules.specs.Work.{end_of}
use Rattle.rescue_core.specs.Closing.{LastSave, Saved, Unsaved, last_pieces}
use Rattle.rescue_core.proofs.ObjectLemmas.{says_more}
use Rattle.rescue_phases.specs.Turns.{IsAlike, Went}
use Rattle.rescue_phases.proofs.AlikeLemmas.{RunMore, alike_on, run_more}
use Rattle.rescue_phases.proofs.TurnLemmas.{IsOneMove, one_move}

-- alike states tell the same
pub report_alike : (s : Setting) (m n : Machine) → IsAlike s m n → report_of s n ≡ report_of s m
report_alike s m n alike =
    let live : is_live s n ≡ is_live s m = ap (λ (t : Tally). λ x. s.domain x && is_before t.over x) alike.tally in
    let C : (ℕ → Bool) → List Status → Counts = counts_of in
    let counts : C (is_live s n) n.map ≡ C (is_live s m) m.map = cc in
    cc

last_alike : (s t : Setting) (done : Bool) (m n : Machine) → t ≡ s → IsAlike s m n → last_line t done n ≡ last_line s done m
last_alike s t done m n same alike =
    ap (λ (u : Setting). last_line u done n) same
    ∙ ap (λ (r : Report). report_text (last_front done) r) (report_alike s m n alike)

-- which events were marked, by how a run ended
marked_all : (end : RunEnd) (es : List Event) → ends_at_write end ≡ false → marked_events end es ≡ es
marked_all end es off = ap (λ (b : Bool). if b then take (length es - 1) es else es) off

marked_front : (end : RunEnd) (es : List Event) (e : Event) → ends_at_write end ≡ true
    → marked_events end (es ++ e ∷ []) ≡ es
marked_front end es e on =
    let all : List Event = es ++ e ∷ [] in
    let front : length all - 1 ≡ length es = omega (arith, length-append es (e ∷ [])) in
    ap (λ (b : Bool). if b then take (length all - 1) all else all) on
    ∙ ap (λ (n : ℕ). take n all) front ∙ take-append_seam es (e ∷ [])

-- no call of a save is a write to the output
appends_write_none : (call : SiteCall) (ps : List (List ℕ)) (rest : List Call)
    → (IsNameIn call rest → is_image_write call ≡ false) → IsNameIn call (map draft_append ps ++ rest) → is_image_write call ≡ false
appends_write_none call [] rest later h = later h
appends_write_none call (p ∷ ps) rest later (inl is) = ap is_image_write is
appends_write_none call (p ∷ ps) rest later (inr h) = appends_write_none call ps rest later h

publish_writes_none : (call : SiteCall) (n : MapNames) → IsNameIn call (draft_sync ∷ publish_calls n)
    → is_image_write call ≡ false
publish_writes_none call n (inl is) = ap is_image_write is
publish_writes_none call n (inr (inl is)) = ap is_image_write is
publish_writes_none call n (inr (inr (inl is))) = ap is_image_write is
publish_writes_none call n (inr (inr (inr h))) = absurd h

pub save_writes_none : (call : SiteCall) (n : MapNames) (text : List ℕ) → IsNameIn call (save_calls n text)
    → is_image_write call ≡ false
save_writes_none call n text (inl is) = ap is_image_write is
save_writes_none call n text (inr (inl is)) = ap is_image_write is
save_writes_none call n text (inr (inr h)) =
    appends_write_none call (pieces_of text) (draft_sync ∷ publish_calls n) (publish_writes_none call n) h

-- nor did a run end at one whose last calls were made
pub saves_written : (stop : Option Stop) (r : RunState) (end : RunEnd) (a b : SiteState)
    → ends_at_write (end_of stop) ≡ false → LastSave stop r end a b → ends_at_write end ≡ false
saves_written stop r end a b off (Saved is makes rest) = ap ends_at_write is ∙ off
saves_written stop r end a b off (Unsaved call is named breaks rest) = ap ends_at_write is

-- The lines of a run whose marked events led to a state or to one alike, after which the last line was said.
module _ (r r1 : RunState) (es : List Event) (end : RunEnd) (heard : Bool) (x y z : ConsoleState)
    (same : setting_in r1 ≡ setting_in r)
    (alike : IsAlike (setting_in r) (state_after (setting_in r) r.machine es) r1.machine)
    (front : SpeaksOn (out_pieces (run_lines (setting_in r) r.machine es)) r.heard r1.heard x y)
    (last : SpeaksOn (last_pieces r1 end) r1.heard heard y z) where
  says_last : SpeaksOn
      (out_pieces (run_lines (setting_in r) r.machine es
      ++ last_line (setting_in r) (is_done end) (state_after (setting_in r) r.machine es) ∷ [])) r.heard heard x z
  says_last =
      let s : Setting = setting_in r in
      let m : Machine = state_after s r.machine es in
      says_more (run_lines s r.machine es) (last_line s (is_done end) m ∷ []) r.heard r1.heard heard x y z front
      (subst (λ (line : List ℕ). SpeaksOn (out_pieces (line ∷ [])) r1.heard heard y z)
      (last_alike s (setting_in r1) (is_done end) m r1.machine same alike) last)

  -- those of all events that it had,
  says_by : (events : List Event) → marked_events end events ≡ es
      → SpeaksOn (out_pieces (lines_of (setting_in r) r.machine events end)) r.heard heard x z
  says_by events are =
      let s : Setting = setting_in r in
      subst
      (λ (marked : List Event). SpeaksOn
      (out_pieces (run_lines s r.machine marked ++ last_line s (is_done end) (state_after s r.machine marked) ∷ []))
      r.heard heard x z)
      (sym are) says_last

  -- which were all marked,
  pub says_all : ends_at_write end ≡ false
      → SpeaksOn (out_pieces (lines_of (setting_in r) r.machine es end)) r.heard heard x z
  says_all off = says_by es (marked_all end es off)

  -- or all but the last, whose write failed
  pub says_front : (e : Event) → ends_at_write end ≡ true
      → SpeaksOn (out_pieces (lines_of (setting_in r) r.machine (es ++ e ∷ []) end)) r.heard heard x z
  says_front e on = says_by (es ++ e ∷ []) (marked_front end es e on)

-- turns, and one more event that was marked, with its line
pub record SaidMore (r r2 : RunState) (es : List Event) (x z : ConsoleState) : Type 0 where
  pub same : setting_in r2 ≡ setting_in r
  pub alike : IsAlike (setting_in r) (state_after (setting_in r) r.machine es) r2.machine
  pub says : SpeaksOn (out_pieces (run_lines (setting_in r) r.machine es)) r.heard r2.heard x z

pub said_more : (r r1 r2 : RunState) (request : Request) (e : Event) (o : Across) (source2 : SourceState)
    (clock2 : ClockState) (console2 : ConsoleState) → (w : Went r r1 o) → limit_met (setting_in r1) r1.machine ≡ None
    → IsRequest (setting_in r1) r1.machine request.pos (request.pos + request.len)
    → IsEvent request e o.source' source2 o.clock' clock2 → r2 ≡ stepped r1 e r2.heard
    → SpeaksOn (move_pieces r1 e) r1.heard r2.heard o.console' console2
    → SaidMore r r2 (w.events ++ e ∷ []) o.console console2
said_more r r1 r2 request e o source2 clock2 console2 w within asks is steps says =
    let s : Setting = setting_in r in
    let n : Machine = (move_by r1 e).after in
    let stands : setting_in r1 ≡ s = ap setting_in w.stands in
    let one : IsOneMove r1 e = one_move r1 request e o.source' source2 o.clock' clock2 within asks is in
    let run : IsRun s r1.machine (e ∷ []) =
    subst (λ (t : Setting). IsRun t r1.machine (e ∷ [])) stands one.run in
    let more : RunMore s r.machine r1.machine w.events (e ∷ []) =
    run_more s r.machine r1.machine w.events (e ∷ []) w.run w.state run in
    let next : IsAlike s (state_after s r1.machine (e ∷ [])) n =
    subst (λ (t : Setting). IsAlike t (state_after t r1.machine (e ∷ [])) n) stands one.state in
    let lines : move_lines (setting_in r1) (move_by r1 e) ≡ run_lines s r1.machine (e ∷ []) =
    sym one.lines ∙ ap (λ (t : Setting). run_lines t r1.machine (e ∷ [])) stands in
    let line : SpeaksOn (out_pieces (run_lines s r1.machine (e ∷ []))) r1.heard r2.heard o.console' console2 =
    subst (λ (ls : List (List ℕ)). SpeaksOn (out_pieces ls) r1.heard r2.heard o.console' console2) lines says in
    record {
      same = ap setting_in steps ∙ stands;
      alike = subst (λ (k : Machine). IsAlike s (state_after s r.machine (w.events ++ e ∷ [])) k)
          (sym (ap (λ (q : RunState). q.machine) steps))
          (alike_on s (state_after s r.machine (w.events ++ e ∷ [])) (state_after s r1.machine (e ∷ [])) n more.state next);
      says = subst (λ (ls : List (List ℕ)). SpeaksOn (out_pieces ls) r.heard r2.heard o.console console2)
          (sym more.lines)
          (says_more (run_lines s r.machine w.events) (run_lines s r1.machine (e ∷ [])) r.heard r1.heard r2.heard o.console
          o.console' console2 w.says line);
    }
