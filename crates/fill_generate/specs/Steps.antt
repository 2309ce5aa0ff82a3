-- The pieces of a sweep one after another, and one at which it stops. For contracts and proofs: no promise uses it.
use Rattle.std.specs.Prelude.{◌≡◌, ℕ, ◌+◌, ◌/◌, ◌<◌, ◌≤◌, ◌^◌, nat_le, Bool, true, false, IsTrue, List, take, drop, [], ◌∷◌, length, All, Option, Some, None, is_none, if◌then◌else◌, Result, OnOk, IfErr}
use Rattle.crash_site.specs.declared.site.SiteCall.{SiteCall}
use Rattle.crash_site.specs.declared.site.SiteCall.TheVariants.{ImageRead}
use Rattle.crash_site.specs.Files.{bytes_of}
use Rattle.crash_site.specs.Calls.{Call, image_read}
use Rattle.crash_site.specs.CallsMade.{call_name}
use Rattle.crash_site.specs.SiteState.{SiteState, image_in}
use Rattle.crash_site.specs.SiteChanges.{Makes, Breaks}
use Rattle.rescue_console.specs.ClockState.{Reads as ReadsClock}
use Rattle.rescue_console.specs.Speaking.{SpeaksOn, out_pieces}
use Rattle.rescue_rules.specs.declared.stop.Stop.{Stop}
use Rattle.rescue_rules.specs.declared.stop.Stop.TheVariants.{Site, NoMemory}
use Rattle.rescue_rules.specs.declared.stop.RunEnd.{RunEnd}
use Rattle.rescue_rules.specs.Across.{Across, ObjectsStay}
use Rattle.rescue_rules.specs.Setting.{Setting, place}
use Rattle.rescue_rules.specs.RunCalls.{closing_calls}
use Rattle.rescue_rules.specs.Said.{is_line_due}
use Rattle.rescue_rules.specs.Step.{save_interval}
use Rattle.rescue_rules.specs.Snapshots.{text_of}
use Rattle.rescue_rules.specs.Lines.{phase_front, report_text}
use Rattle.mapfile_save.specs.Saving.{save_calls, IsNameIn}
use Rattle.rescue_rules.specs.Laws.{AreTimes}
use Rattle.rescue_rules.specs.Deeds.{Deed, save_of, deed_calls}
use Rattle.sweep_rules.specs.Sweep.{Sweeper, Sweep, Swept, IsPiece, IsSweep, IsSweptOut, is_generated, after_piece, after_pieces, due_save, sweep_snapshot, sweep_end}
use Rattle.sweep_rules.specs.SweepWork.{sweep_report, sweep_calls, piece_lines, pieces_lines, lost_call}
use Rattle.fill_generate.specs.declared.sweeping.Piece.{Piece}
use Rattle.fill_generate.specs.SweepState.{SweepState, setting_of, standing, moved}
use Rattle.fill_generate.specs.Modes.{IsSweeperOf, current_in}
use Rattle.fill_generate.specs.Sweeping.{BreaksAfter, SweepStopsAt, times_after, IsApart}
use Rattle.fill_generate.specs.Marking.{finished_at, piece_at}
use Rattle.rescue_core.specs.Closing.{drafting_at_stop, EndsBy}

-- what a piece does on the files
abbrev pub deed_of : Sweeper → Sweep → Swept → Deed
deed_of w m e = record { calls = w.call e ∷ []; save = due_save w m e }

-- A piece as it is found: the next one of each sweeper of its kind. It lies at the input position or past it, isn't
-- empty, and has places in the output.
pub record IsFound (r : SweepState) (p : Piece) : Type 0 where
  pub next : (w : Sweeper) → IsSweeperOf r.mode w → IsPiece (setting_of r) w r.sweep p.pos (p.pos + p.len)
  pub from : r.settings.input_position ≤ p.pos
  pub some : 0 < p.len
  pub few : p.len ≤ r.settings.cluster
  pub within : p.pos + p.len ≤ length r.sweep.map
  pub short : p.pos + p.len < 2 ^ 63
  pub placed : place (setting_of r) p.pos + p.len < 2 ^ 63

-- this sweep, heard or not
abbrev pub heard_as : SweepState → Bool → SweepState
heard_as r heard = record r { heard = heard }

-- the line after a piece, if one is due at this time
abbrev pub line_after : (r r' : SweepState) → (after : ℕ) → List (List ℕ)
line_after r r' after =
    if is_line_due r.sweep.tally.said (current_in r.mode) (after / 1000)
    then report_text (phase_front r'.sweep.tally.shown) (sweep_report (setting_of r) r'.sweep) ∷ []
    else []

-- the calls of the save after a piece, if one is due at this time
abbrev pub save_after : (r r' : SweepState) → (after : ℕ) → List Call
save_after r r' after =
    if nat_le (r.sweep.tally.due_at + save_interval) after
    then save_calls r.names (text_of r.line (sweep_snapshot r'.sweep)) else []

-- a stop at one of these calls, which failed
pub record BreaksSave (stop : Stop) (calls : List Call) (site site' : SiteState) : Type 0 where
  pub call : SiteCall
  pub is : stop ≡ Site call
  pub named : IsNameIn call calls
  pub breaks : Breaks call calls site site'

-- a piece for which the output gave these bytes
abbrev pub got_at : Piece → List ℕ → Swept
got_at piece got = piece_at piece.pos piece.len got

-- What a sweeper does to pieces by a setting, with what holds of each event besides.
module _ (G : Swept → Type 0) (s : Setting) (w : Sweeper) where
  -- A piece was done: its event, the state after it, the reading of the clock, and its line.
  pub record DoesPiece (m m' : Sweep) (heard heard' : Bool) (e : Swept) (o : Across) : Type 0 where
    pub asks : IsPiece s w m e.pos (e.pos + e.len)
    pub gives : w.gives e ≡ true
    pub given : G e
    pub steps : m' ≡ after_piece w m e
    pub timed : ReadsClock (e.after ∷ []) o.clock o.clock'
    pub fit : e.after < 2 ^ 64
    pub says : SpeaksOn (out_pieces (piece_lines s w m e)) heard heard' o.console o.console'

  -- A piece was done, with its call and the save that was due.
  pub record DidPiece (m m' : Sweep) (heard heard' : Bool) (o : Across) : Type 0 where
    pub event : Swept
    pub takes : DoesPiece m m' heard heard' event o
    pub calls : Makes (deed_calls s (deed_of w m event)) o.site o.site'

  -- A sweep stopped at a piece:
  pub data Halted (m m' : Sweep) (heard heard' : Bool) (stop : Stop) (o : Across) : Type 0 where
    -- for lack of memory, before its call
    Starved : stop ≡ NoMemory → w.starves ≡ true → m' ≡ m → heard' ≡ heard → o.site' ≡ o.site → o.clock' ≡ o.clock
        → o.console' ≡ o.console → Halted m m' heard heard' stop o
    -- at its call
    Uncalled : (p q : ℕ) → IsPiece s w m p q → stop ≡ Site (call_name (lost_call w p q)) → m' ≡ m → heard' ≡ heard
        → Breaks (call_name (lost_call w p q)) (lost_call w p q ∷ []) o.site o.site' → o.clock' ≡ o.clock
        → o.console' ≡ o.console → Halted m m' heard heard' stop o
    -- at the save that was due after it
    Unsaved : (event : Swept) → DoesPiece m m' heard heard' event o → (call : SiteCall) → stop ≡ Site call
        → BreaksAfter call (w.call event ∷ []) (save_of s (due_save w m event)) o.site o.site'
        → Halted m m' heard heard' stop o

  -- Pieces one after another, without their calls.
  pub record SweepWent (m m' : Sweep) (heard heard' : Bool) (es : List Swept) (o : Across) : Type 0 where
    pub run : IsSweep s w m es
    pub given : All G es
    pub state : m' ≡ after_pieces w m es
    pub timed : ReadsClock (times_after es) o.clock o.clock'
    pub fit : AreTimes (times_after es)
    pub says : SpeaksOn (out_pieces (pieces_lines s w m es)) heard heard' o.console o.console'

  -- Whole pieces one after another, with their calls.
  pub record WentOn (m m' : Sweep) (heard heard' : Bool) (o : Across) : Type 0 where
    pub events : List Swept
    pub went : SweepWent m m' heard heard' events o
    pub made : Makes (sweep_calls s w m events) o.site o.site'

  -- Pieces one after another, up to one at which the sweep stopped.
  pub record WentUpTo (m m' : Sweep) (heard heard' : Bool) (stop : Stop) (o : Across) : Type 0 where
    pub events : List Swept
    pub went : SweepWent m m' heard heard' events o
    pub stops : SweepStopsAt s w m events stop o.site o.site'

-- the end of a sweep saves its map; but after a failed call on its files it makes no more
abbrev pub ClosesFiles : Setting → Sweep → Option Stop → RunEnd → (site site' : SiteState) → Type 0
ClosesFiles s m stop end site site' =
    EndsBy (closing_calls s (sweep_end (is_none stop) m)) stop end site site'

-- After a piece of which this many bytes were written, at this time: the reading of the clock, the state, and the line.
pub record StepsPastPiece (piece : Piece) (written after : ℕ) (r r' : SweepState) (o : Across) : Type 0 where
  pub timed : ReadsClock (after ∷ []) o.clock o.clock'
  pub fit : after < 2 ^ 64
  pub stands : r' ≡ heard_as (standing r
      (moved (current_in r.mode) r.sweep piece.pos piece.len written after)) r'.heard
  pub says : SpeaksOn (out_pieces (line_after r r' after)) r.heard r'.heard o.console o.console'

-- what follows a piece, with its save, if one is due, or with one that broke off
pub record EndsPiece {T : Type 0} (result : Result T Stop) (piece : Piece) (written : ℕ) (r r' : SweepState)
    (o : Across) : Type 0 where
  pub after : ℕ
  pub passes : StepsPastPiece piece written after r r' o
  pub made : OnOk result (Makes (save_after r r' after) o.site o.site')
  pub broke : IfErr result (λ stop. BreaksSave stop (save_after r r' after) o.site o.site')

-- A piece was looked up in the output, and what it gave was marked. If the site tells, that is what the output held.
pub record LooksUp (piece : Piece) (r r' : SweepState) (site site' : SiteState) : Type 0 where
  pub got : List ℕ
  pub few : length got ≤ piece.len
  pub marks : r' ≡ standing r (record r.sweep {
    map = finished_at (is_generated (setting_of r) (got_at piece got)) r.sweep.map;
  })
  pub calls : Makes (image_read (place (setting_of r) piece.pos) piece.len (Some (length got)) ∷ []) site site'
  pub told : IsTrue site.tells
      → got ≡ take piece.len (drop (place (setting_of r) piece.pos) (bytes_of (image_in site)))

-- memory ran out before a piece was looked up, or its read failed
pub data LooksNot (stop : Stop) (piece : Piece) (r : SweepState) (site site' : SiteState) : Type 0 where
  NoRoom : stop ≡ NoMemory → site' ≡ site → LooksNot stop piece r site site'
  NoRead : stop ≡ Site ImageRead
      → Breaks ImageRead (image_read (place (setting_of r) piece.pos) piece.len None ∷ []) site site'
      → LooksNot stop piece r site site'

-- what a piece gave that was looked up is what the output holds, if the site tells and saves don't overwrite the output
abbrev pub IsLookedUp : Setting → SiteState → Swept → Type 0
IsLookedUp s site e =
    IsTrue site.tells → IsApart s.names site → e.got ≡ take e.len (drop (place s e.pos) (bytes_of (image_in site)))

-- this sweep at another state, heard or not
abbrev pub gone_to : (r r' : SweepState) → SweepState
gone_to r r' = record r { sweep = r'.sweep; heard = r'.heard }

-- By the outcome, with what holds of each event besides:
module _ {T : Type 0} (G : Swept → Type 0) where
  -- what comes of a piece
  pub record PieceEnds (result : Result T Stop) (w : Sweeper) (piece : Piece) (r r' : SweepState) (o : Across)
      : Type 0 where
    pub stands : r' ≡ gone_to r r'
    pub took : OnOk result (DidPiece G (setting_of r) w r.sweep r'.sweep r.heard r'.heard o)
    pub passed : OnOk result (r'.sweep.cursor ≡ piece.pos + piece.len)
    pub halted : IfErr result (λ stop. Halted G (setting_of r) w r.sweep r'.sweep r.heard r'.heard stop o)
    pub no_draft : OnOk result (o.site'.is_drafting ≡ false)
    pub draft_left : IfErr result (λ stop. o.site'.is_drafting ≡ drafting_at_stop stop)
    pub objects : ObjectsStay o

  -- what comes of all pieces that are left
  pub record PiecesEnd (result : Result T Stop) (w : Sweeper) (r r' : SweepState) (o : Across) : Type 0 where
    pub stands : r' ≡ gone_to r r'
    pub went : OnOk result (WentOn G (setting_of r) w r.sweep r'.sweep r.heard r'.heard o)
    pub out : OnOk result (IsSweptOut (setting_of r) w r'.sweep)
    pub halted : IfErr result (λ stop. WentUpTo G (setting_of r) w r.sweep r'.sweep r.heard r'.heard stop o)
    pub no_draft : OnOk result (o.site'.is_drafting ≡ false)
    pub draft_left : IfErr result (λ stop. o.site'.is_drafting ≡ drafting_at_stop stop)
    pub objects : ObjectsStay o
