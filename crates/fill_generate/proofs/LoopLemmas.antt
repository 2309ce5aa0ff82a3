-- Pieces of a sweep, one after another.
use Rattle.std.proofs.Common.{◌≡◌, ℕ, ◌+◌, ◌<◌, ◌^◌, Bool, true, List, [], ◌∷◌, ◌++◌, refl, sym, ap, subst, ◌∙◌, append_assoc, append-nil, inl}
use Rattle.std.specs.List.{flat_map}
use Rattle.std.proofs.lemmas.List.{map-append}
use Rattle.std.proofs.lemmas.List.Elements.{All-nil, All-cons, All-append}
use Rattle.std.proofs.lemmas.Grind.{flat_map-append}
use Rattle.crash_site.specs.Calls.{Call}
use Rattle.crash_site.specs.CallsMade.{call_name}
use Rattle.crash_site.specs.SiteState.{SiteState}
use Rattle.crash_site.specs.SiteChanges.{Makes}
use Rattle.rescue_console.specs.ClockState.{ClockState, Reads as ReadsClock}
use Rattle.rescue_console.specs.ConsoleState.{ConsoleState}
use Rattle.rescue_console.specs.Speaking.{SpeaksOn, out_pieces}
use Rattle.rescue_console.proofs.SpeakingLemmas.{says_none}
use Rattle.rescue_rules.specs.declared.stop.Stop.{Stop}
use Rattle.rescue_rules.specs.Setting.{Setting}
use Rattle.rescue_rules.specs.Laws.{AreTimes}
use Rattle.rescue_rules.specs.Deeds.{Deed, save_of, deed_calls}
use Rattle.sweep_rules.specs.Sweep.{Sweeper, Sweep, Swept, IsPiece, IsSweep, after_piece, after_pieces, due_save, deeds_of}
use Rattle.sweep_rules.specs.SweepWork.{sweep_calls, piece_lines, pieces_lines, lost_call}
use Rattle.rescue_core.proofs.ObjectLemmas.{timed_none, timed_more, makes_none, makes_more, says_more}
use Rattle.fill_generate.specs.Sweeping.{around, BreaksAfter, times_after, IsStarved, IsCut, IsBroken}
use Rattle.fill_generate.specs.Steps.{deed_of, DoesPiece, DidPiece, Halted, Starved, Uncalled, Unsaved, SweepWent, WentOn, WentUpTo}
use Rattle.fill_generate.proofs.TellLemmas.{breaks_after, breaks_more}

pub swept_more : (w : Sweeper) (m : Sweep) (es : List Swept) (e : Swept)
    → after_pieces w m (es ++ e ∷ []) ≡ after_piece w (after_pieces w m es) e
swept_more w m [] e = refl
swept_more w m (d ∷ es) e = swept_more w (after_piece w m d) es e

sweep_more : (s : Setting) (w : Sweeper) (m : Sweep) (es : List Swept) (e : Swept) → IsSweep s w m es
    → IsPiece s w (after_pieces w m es) e.pos (e.pos + e.len) → w.gives e ≡ true → IsSweep s w m (es ++ e ∷ [])
sweep_more s w m [] e run piece gives = (piece, gives, tt)
sweep_more s w m (d ∷ es) e run piece gives = (run.0, run.1, sweep_more s w (after_piece w m d) es e run.2 piece gives)

deeds_more : (w : Sweeper) (m : Sweep) (es : List Swept) (e : Swept)
    → deeds_of w m (es ++ e ∷ []) ≡ deeds_of w m es ++ deed_of w (after_pieces w m es) e ∷ []
deeds_more w m [] e = refl
deeds_more w m (d ∷ es) e = ap (λ (ds : List Deed). deed_of w m d ∷ ds) (deeds_more w (after_piece w m d) es e)

pub calls_more : (s : Setting) (w : Sweeper) (m : Sweep) (es : List Swept) (e : Swept)
    → sweep_calls s w m (es ++ e ∷ []) ≡ sweep_calls s w m es ++ deed_calls s (deed_of w (after_pieces w m es) e)
calls_more s w m es e =
    ap (flat_map (deed_calls s)) (deeds_more w m es e)
    ∙ flat_map-append (deed_calls s) (deeds_of w m es) (deed_of w (after_pieces w m es) e ∷ [])
    ∙ ap (λ (cs : List Call). sweep_calls s w m es ++ cs) (append-nil (deed_calls s (deed_of w (after_pieces w m es) e)))

pub lines_more : (s : Setting) (w : Sweeper) (m : Sweep) (es : List Swept) (e : Swept)
    → pieces_lines s w m (es ++ e ∷ []) ≡ pieces_lines s w m es ++ piece_lines s w (after_pieces w m es) e
lines_more s w m [] e = append-nil (piece_lines s w m e)
lines_more s w m (d ∷ es) e =
    ap (λ (ls : List (List ℕ)). piece_lines s w m d ++ ls) (lines_more s w (after_piece w m d) es e)
    ∙ sym (append_assoc (piece_lines s w m d) (pieces_lines s w (after_piece w m d) es) (piece_lines s w (after_pieces w (after_piece w m d) es) e))

-- no piece
went_none : (G : Swept → Type 0) (s : Setting) (w : Sweeper) (m : Sweep) (h : Bool) (d : SiteState) (k : ClockState) (x : ConsoleState)
    → SweepWent G s w m m h h [] (around d d k k x x)
went_none G s w m h d k x = record {
  run = tt;
  given = All-nil G;
  state = refl;
  timed = timed_none k;
  fit = All-nil (λ t. t < 2 ^ 64);
  says = says_none h x;
}

-- one more
went_more : (G : Swept → Type 0) (s : Setting) (w : Sweeper) (m m1 m2 : Sweep) (h h1 h2 : Bool) (es : List Swept) (e : Swept)
    (d e1 f : SiteState) (k l n : ClockState) (x y z : ConsoleState)
    → SweepWent G s w m m1 h h1 es (around d e1 k l x y) → DoesPiece G s w m1 m2 h1 h2 e (around e1 f l n y z)
    → SweepWent G s w m m2 h h2 (es ++ e ∷ []) (around d f k n x z)
went_more G s w m m1 m2 h h1 h2 es e d e1 f k l n x y z g t =
    let small : ℕ → Type 0 = λ n. n < 2 ^ 64 in
    let time : Swept → ℕ = λ e. e.after in
    let times : times_after es ++ e.after ∷ [] ≡ times_after (es ++ e ∷ []) = sym (map-append time es (e ∷ [])) in
    let there : IsPiece s w (after_pieces w m es) e.pos (e.pos + e.len) = subst (λ (q : Sweep). IsPiece s w q e.pos (e.pos + e.len)) g.state t.asks in
    record {
      run = sweep_more s w m es e g.run there t.gives;
      given = All-append G es (e ∷ []) g.given (All-cons G e [] t.given (All-nil G));
      state = t.steps ∙ ap (λ (q : Sweep). after_piece w q e) g.state ∙ sym (swept_more w m es e);
      timed = subst (λ (ts : List ℕ). ReadsClock ts k n) times (timed_more (times_after es) (e.after ∷ []) k l n g.timed t.timed);
      fit = subst AreTimes times (All-append small (times_after es) (e.after ∷ []) g.fit
          (All-cons small e.after [] t.fit (All-nil small)));
      says = subst (λ (ls : List (List ℕ)). SpeaksOn (out_pieces ls) h h2 x z) (sym (lines_more s w m es e))
          (says_more (pieces_lines s w m es) (piece_lines s w (after_pieces w m es) e) h h1 h2 x y z g.says
          (subst (λ (q : Sweep). SpeaksOn (out_pieces (piece_lines s w q e)) h1 h2 y z) g.state t.says));
    }

-- nothing done after them
went_still : (G : Swept → Type 0) (s : Setting) (w : Sweeper) (m m1 m2 : Sweep) (h h1 h2 : Bool) (es : List Swept)
    (d e f : SiteState) (k l n : ClockState) (x y z : ConsoleState) → SweepWent G s w m m1 h h1 es (around d e k l x y)
    → m2 ≡ m1 → h2 ≡ h1 → n ≡ l → z ≡ y → SweepWent G s w m m2 h h2 es (around d f k n x z)
went_still G s w m m1 m2 h h1 h2 es d e f k l n x y z g state heard clock console = record {
  run = g.run;
  given = g.given;
  state = state ∙ g.state;
  timed = subst (λ (c : ClockState). ReadsClock (times_after es) k c) (sym clock) g.timed;
  fit = g.fit;
  says = subst (λ (c : ConsoleState). SpeaksOn (out_pieces (pieces_lines s w m es)) h h2 x c) (sym console)
      (subst (λ (b : Bool). SpeaksOn (out_pieces (pieces_lines s w m es)) h b x y) (sym heard) g.says);
}

pub begins : (G : Swept → Type 0) (s : Setting) (w : Sweeper) (m : Sweep) (h : Bool) (d : SiteState) (k : ClockState) (x : ConsoleState)
    → WentOn G s w m m h h (around d d k k x x)
begins G s w m h d k x = record { events = []; went = went_none G s w m h d k x; made = makes_none d }

pub goes_on : (G : Swept → Type 0) (s : Setting) (w : Sweeper) (m m1 m2 : Sweep) (h h1 h2 : Bool)
    (d e f : SiteState) (k l n : ClockState) (x y z : ConsoleState) → e.tells ≡ d.tells
    → WentOn G s w m m1 h h1 (around d e k l x y) → DidPiece G s w m1 m2 h1 h2 (around e f l n y z)
    → WentOn G s w m m2 h h2 (around d f k n x z)
goes_on G s w m m1 m2 h h1 h2 d e f k l n x y z tells g t =
    let calls : Makes (deed_calls s (deed_of w (after_pieces w m g.events) t.event)) e f =
    subst (λ (q : Sweep). Makes (deed_calls s (deed_of w q t.event)) e f) g.went.state t.calls in
    record {
      events = g.events ++ t.event ∷ [];
      went = went_more G s w m m1 m2 h h1 h2 g.events t.event d e f k l n x y z g.went t.takes;
      made = subst (λ (cs : List Call). Makes cs d f) (sym (calls_more s w m g.events t.event))
          (makes_more (sweep_calls s w m g.events) (deed_calls s (deed_of w (after_pieces w m g.events) t.event)) d e f tells
          g.made calls);
    }

pub halts : (G : Swept → Type 0) (s : Setting) (w : Sweeper) (m m1 m2 : Sweep) (h h1 h2 : Bool) (stop : Stop) (p q : ℕ)
    (d e f : SiteState) (k l n : ClockState) (x y z : ConsoleState) → e.tells ≡ d.tells → IsPiece s w m1 p q
    → WentOn G s w m m1 h h1 (around d e k l x y) → Halted G s w m1 m2 h1 h2 stop (around e f l n y z)
    → WentUpTo G s w m m2 h h2 stop (around d f k n x z)
halts G s w m m1 m2 h h1 h2 stop p q d e f k l n x y z tells piece g
    (Starved is starves state heard site clock console) = record {
      events = g.events;
      went = went_still G s w m m1 m2 h h1 h2 g.events d e f k l n x y z g.went state heard clock console;
      stops = IsStarved is starves p q (subst (λ (v : Sweep). IsPiece s w v p q) g.went.state piece)
          (subst (λ (c : SiteState). Makes (sweep_calls s w m g.events) d c) (sym site) g.made);
    }
halts G s w m m1 m2 h h1 h2 stop p q d e f k l n x y z tells piece g
    (Uncalled a b asks is state heard breaks clock console) = record {
      events = g.events;
      went = went_still G s w m m1 m2 h h1 h2 g.events d e f k l n x y z g.went state heard clock console;
      stops = IsCut a b (subst (λ (v : Sweep). IsPiece s w v a b) g.went.state asks) is
          (breaks_after (call_name (lost_call w a b)) (sweep_calls s w m g.events) (lost_call w a b ∷ []) d e f tells g.made
          (inl refl) breaks);
    }
halts G s w m m1 m2 h h1 h2 stop p q d e f k l n x y z tells piece g (Unsaved event takes call is broke) = record {
  events = g.events ++ event ∷ [];
  went = went_more G s w m m1 m2 h h1 h2 g.events event d e f k l n x y z g.went takes;
  stops = IsBroken g.events event call refl is
      (breaks_more call (sweep_calls s w m g.events) (w.call event ∷ [])
      (save_of s (due_save w (after_pieces w m g.events) event)) d e f tells g.made
      (subst (λ (v : Sweep). BreaksAfter call (w.call event ∷ []) (save_of s (due_save w v event)) e f) g.went.state broke));
}
