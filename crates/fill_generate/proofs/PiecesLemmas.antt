-- All pieces of a sweep, by the outcome of each.
use Rattle.std.proofs.Common.{◌≡◌, ℕ, ◌+◌, ◌-◌, ◌^◌, ◌<◌, Bool, false, List, [], Result, Ok, Err, refl, sym, ap, subst, ◌∙◌, arith}
use Rattle.crash_site.specs.SiteState.{SiteState}
use Rattle.rescue_console.specs.ClockState.{ClockState}
use Rattle.rescue_console.specs.ConsoleState.{ConsoleState}
use Rattle.rescue_rules.specs.declared.stop.Stop.{Stop}
use Rattle.rescue_rules.specs.Setting.{Setting}
use Rattle.sweep_rules.specs.Sweep.{Sweeper, Sweep, Swept, IsPiece, IsSweptOut, filler, generator}
use Rattle.block_list.specs.declared.types.TypeSet.{TypeSet}
use Rattle.rescue_rules.specs.Across.{Across, ObjectsStay}
use Rattle.fill_generate.specs.declared.mode.SweepMode.{SweepMode}
use Rattle.fill_generate.specs.declared.mode.SweepMode.TheVariants.{Fill, Generate}
use Rattle.fill_generate.specs.declared.sweeping.Piece.{Piece}
use Rattle.fill_generate.specs.Modes.{IsSweeperOf}
use Rattle.fill_generate.specs.SweepState.{SweepState, setting_of}
use Rattle.fill_generate.specs.Sweeping.{around}
use Rattle.fill_generate.specs.Steps.{IsFound, DoesPiece, DidPiece, Halted, Starved, Uncalled, Unsaved, WentOn, PieceEnds, PiecesEnd, IsLookedUp, gone_to}
use Rattle.fill_generate.proofs.TellLemmas.{objects_stay}
use Rattle.fill_generate.proofs.LoopLemmas.{goes_on, halts}
use Rattle.fill_generate.proofs.ImageLemmas.{looked_before}

-- the sweep that is elsewhere after two steps
pub gone_on : (r r1 r2 : SweepState) → r1 ≡ gone_to r r1 → r2 ≡ gone_to r1 r2 → r2 ≡ gone_to r r2
gone_on r r1 r2 first then_ = then_ ∙ ap (λ (q : SweepState). gone_to q r2) first

-- a sweeper of each mode
abbrev sweeper_of : SweepMode → Setting → Sweeper
sweeper_of (Fill types) s = filler s types []
sweeper_of Generate s = generator s

sweeper_is : (mode : SweepMode) (s : Setting) → IsSweeperOf mode (sweeper_of mode s)
sweeper_is (Fill types) s = record { takes = λ status. refl; current = refl }
sweeper_is Generate s = record { takes = λ status. refl; current = refl }

-- after a piece fewer positions lie ahead
pub less_ahead : (r r2 : SweepState) (piece : Piece) → IsFound r piece → r2.sweep.cursor ≡ piece.pos + piece.len
    → 2 ^ 63 - r2.sweep.cursor < 2 ^ 63 - r.sweep.cursor
less_ahead r r2 piece found passed =
    let w : Sweeper = sweeper_of r.mode (setting_of r) in
    let next : IsPiece (setting_of r) w r.sweep piece.pos (piece.pos + piece.len) = found.next w (sweeper_is r.mode (setting_of r)) in
    omega (arith, next.range.0.after, found.some, found.short, passed)

-- a piece as the sweep at its beginning sees it
pub found_since : (r r1 : SweepState) (piece : Piece) → r1 ≡ gone_to r r1 → IsFound r1 piece → IsFound (gone_to r r1) piece
found_since r r1 piece stands found = subst (λ (q : SweepState). IsFound q piece) stands found

-- one more piece
pub pieces_more : {T : Type 0} (G : Swept → Type 0) (w : Sweeper) (r r1 r2 : SweepState) (piece : Piece) (v : T)
    (d e f : SiteState) (k l n : ClockState) (x y z : ConsoleState) → r1 ≡ gone_to r r1 → ObjectsStay (around d e k l x y)
    → WentOn G (setting_of r) w r.sweep r1.sweep r.heard r1.heard (around d e k l x y)
    → PieceEnds {T = T} G (Ok v) w piece (gone_to r r1) r2 (around e f l n y z)
    → WentOn G (setting_of r) w r.sweep r2.sweep r.heard r2.heard (around d f k n x z)
pieces_more G w r r1 r2 piece v d e f k l n x y z stands objects went ends =
    goes_on G (setting_of r) w r.sweep r1.sweep r2.sweep r.heard r1.heard r2.heard d e f k l n x y z objects.site.tells went
    ends.took

-- a piece at which it stopped
pub pieces_halt : {T U : Type 0} (G : Swept → Type 0) (w : Sweeper) (r r1 r2 : SweepState) (piece : Piece) (stop : Stop)
    (result : Result T Stop) (d e f : SiteState) (k l n : ClockState) (x y z : ConsoleState)
    → r1 ≡ gone_to r r1 → ObjectsStay (around d e k l x y)
    → WentOn G (setting_of r) w r.sweep r1.sweep r.heard r1.heard (around d e k l x y) → IsSweeperOf r.mode w
    → IsFound (gone_to r r1) piece → PieceEnds {T = U} G (Err stop) w piece (gone_to r r1) r2 (around e f l n y z)
    → result ≡ Err stop → PiecesEnd G result w r r2 (around d f k n x z)
pieces_halt {T} G w r r1 r2 piece stop result d e f k l n x y z stands objects went of found ends is =
    subst (λ (t : Result T Stop). PiecesEnd G t w r r2 (around d f k n x z)) (sym is) (record {
      stands = ends.stands;
      went = tt;
      out = tt;
      halted = halts G (setting_of r) w r.sweep r1.sweep r2.sweep r.heard r1.heard r2.heard stop piece.pos (piece.pos + piece.len)
          d e f k l n x y z objects.site.tells (found.next w of) went ends.halted;
      no_draft = tt;
      draft_left = ends.draft_left;
      objects = objects_stay d e f k l n x y z objects ends.objects;
    })

-- none is left
pub pieces_out : {T : Type 0} (G : Swept → Type 0) (w : Sweeper) (r r1 : SweepState) (v : T) (d e : SiteState) (k l : ClockState)
    (x y : ConsoleState) → r1 ≡ gone_to r r1 → IsSweeperOf r.mode w
    → ((u : Sweeper) → IsSweeperOf r1.mode u → IsSweptOut (setting_of r1) u r1.sweep)
    → WentOn G (setting_of r) w r.sweep r1.sweep r.heard r1.heard (around d e k l x y) → e.is_drafting ≡ false
    → ObjectsStay (around d e k l x y) → PiecesEnd {T = T} G (Ok v) w r r1 (around d e k l x y)
pieces_out G w r r1 v d e k l x y stands of none went no_draft objects = record {
  stands = stands;
  went = went;
  out = subst (λ (q : SweepState). IsSweptOut (setting_of q) w q.sweep) stands
      (none w (subst (λ (q : SweepState). IsSweeperOf q.mode w) (sym stands) of));
  halted = tt;
  no_draft = no_draft;
  draft_left = tt;
  objects = objects;
}

-- the objects are handed back as they are
pub pieces_as : {T : Type 0} {G : Swept → Type 0} {result : Result T Stop} {w : Sweeper} {r r1 : SweepState} {d e f : SiteState}
    {k l n : ClockState} {x y z : ConsoleState} → e ≡ f → l ≡ n → y ≡ z → PiecesEnd G result w r r1 (around d e k l x y)
    → PiecesEnd G result w r r1 (around d f k n x z)
pieces_as {T} {G} {result} {w} {r} {r1} {d} {e} {f} {k} {l} {n} {x} {y} {z} site clock console ends =
    subst (λ (a : SiteState). PiecesEnd G result w r r1 (around d a k n x z)) site
    (subst (λ (b : ClockState). PiecesEnd G result w r r1 (around d e k b x z)) clock
    (subst (λ (c : ConsoleState). PiecesEnd G result w r r1 (around d e k l x c)) console ends))

-- what holds of a piece's event besides may be weaker
takes_weaker : (G H : Swept → Type 0) (s : Setting) (w : Sweeper) (m m' : Sweep) (h h' : Bool) (e : Swept) (o : Across)
    → ((e : Swept) → G e → H e) → DoesPiece G s w m m' h h' e o → DoesPiece H s w m m' h h' e o
takes_weaker G H s w m m' h h' e o weaker t = record {
  asks = t.asks;
  gives = t.gives;
  given = weaker e t.given;
  steps = t.steps;
  timed = t.timed;
  fit = t.fit;
  says = t.says;
}

took_weaker : (G H : Swept → Type 0) (s : Setting) (w : Sweeper) (m m' : Sweep) (h h' : Bool) (o : Across)
    → ((e : Swept) → G e → H e) → DidPiece G s w m m' h h' o → DidPiece H s w m m' h h' o
took_weaker G H s w m m' h h' o weaker t =
    record { event = t.event; takes = takes_weaker G H s w m m' h h' t.event o weaker t.takes; calls = t.calls }

halted_weaker : (G H : Swept → Type 0) (s : Setting) (w : Sweeper) (m m' : Sweep) (h h' : Bool) (stop : Stop) (o : Across)
    → ((e : Swept) → G e → H e) → Halted G s w m m' h h' stop o → Halted H s w m m' h h' stop o
halted_weaker G H s w m m' h h' stop o weaker (Starved a b c d e f g) = Starved a b c d e f g
halted_weaker G H s w m m' h h' stop o weaker (Uncalled p q a b c d e f g) = Uncalled p q a b c d e f g
halted_weaker G H s w m m' h h' stop o weaker (Unsaved event takes call is broke) =
    Unsaved event (takes_weaker G H s w m m' h h' event o weaker takes) call is broke

piece_weaker : {T : Type 0} (G H : Swept → Type 0) (result : Result T Stop) (w : Sweeper) (piece : Piece) (r r' : SweepState)
    (o : Across) → ((e : Swept) → G e → H e) → PieceEnds G result w piece r r' o → PieceEnds H result w piece r r' o
piece_weaker G H (Ok v) w piece r r' o weaker p = record {
  stands = p.stands;
  took = took_weaker G H (setting_of r) w r.sweep r'.sweep r.heard r'.heard o weaker p.took;
  passed = p.passed;
  halted = tt;
  no_draft = p.no_draft;
  draft_left = tt;
  objects = p.objects;
}
piece_weaker G H (Err stop) w piece r r' o weaker p = record {
  stands = p.stands;
  took = tt;
  passed = tt;
  halted = halted_weaker G H (setting_of r) w r.sweep r'.sweep r.heard r'.heard stop o weaker p.halted;
  no_draft = tt;
  draft_left = p.draft_left;
  objects = p.objects;
}

pub fills_since : {T : Type 0} (types : TypeSet) (buffer : List ℕ) (G : Swept → Type 0) (result : Result T Stop) (piece : Piece)
    (r r1 r2 : SweepState) (o : Across) → r1 ≡ gone_to r r1
    → PieceEnds G result (filler (setting_of r1) types buffer) piece r1 r2 o
    → PieceEnds G result (filler (setting_of r) types buffer) piece (gone_to r r1) r2 o
fills_since types buffer G result piece r r1 r2 o stands p =
    subst (λ (q : SweepState). PieceEnds G result (filler (setting_of q) types buffer) piece q r2 o) stands p

-- and what it looked up is what the output held at the beginning
pub looks_since : {T : Type 0} (result : Result T Stop) (piece : Piece) (r r1 r2 : SweepState) (d e : SiteState) (k l : ClockState)
    (x y : ConsoleState) (o : Across) → r1 ≡ gone_to r r1 → ObjectsStay (around d e k l x y)
    → WentOn (IsLookedUp (setting_of r) d) (setting_of r) (generator (setting_of r)) r.sweep r1.sweep r.heard r1.heard
    (around d e k l x y)
    → PieceEnds (IsLookedUp (setting_of r1) e) result (generator (setting_of r1)) piece r1 r2 o
    → PieceEnds (IsLookedUp (setting_of r) d) result (generator (setting_of r)) piece (gone_to r r1) r2 o
looks_since result piece r r1 r2 d e k l x y o stands objects went p =
    let s : Setting = setting_of r in
    piece_weaker (IsLookedUp s e) (IsLookedUp s d) result (generator s) piece (gone_to r r1) r2 o
    (λ (event : Swept). looked_before s r.sweep went.events d e objects.site went.made event)
    (subst (λ (q : SweepState). PieceEnds (IsLookedUp (setting_of q) e) result (generator (setting_of q)) piece q r2 o) stands p)
