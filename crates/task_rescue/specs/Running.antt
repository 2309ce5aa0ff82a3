-- How the run of a rescue goes, by what the objects tell. For contracts, laws and proofs: no promise uses it.
use Rattle.std.specs.Prelude.{◌≡◌, ℕ, ◌<◌, ◌^◌, Bool, true, false, IsTrue, List, ◌++◌, length, All, Option, IfSome, option_map}
use Rattle.block_list.specs.declared.status.Status.{Status}
use Rattle.run_options.specs.Settings.{Suits, HasPlaces}
use Rattle.mapfile_text.specs.declared.state.MapState.{MapState}
use Rattle.mapfile_save.specs.MapNames.{MapNames}
use Rattle.faulty_source.specs.SourceState.{SourceState}
use Rattle.crash_site.specs.Calls.{Entry}
use Rattle.crash_site.specs.SiteState.{SiteState}
use Rattle.rescue_console.specs.ClockState.{Reads as ReadsClock}
use Rattle.rescue_console.specs.Speaking.{SpeaksOn, out_pieces}
use Rattle.rescue_domain.specs.Parts.{covers}
use Rattle.rescue_rules.specs.declared.stop.RunEnd.{RunEnd}
use Rattle.rescue_rules.specs.Step.{Event}
use Rattle.rescue_rules.specs.Moves.{IsRun}
use Rattle.rescue_rules.specs.Preparation.{prepared}
use Rattle.rescue_rules.specs.Beginning.{goes_on_from, shown_at_first, machine_of}
use Rattle.rescue_rules.specs.Events.{reads_of, times_of}
use Rattle.rescue_rules.specs.Laws.{AreTimes}
use Rattle.rescue_rules.specs.Work.{Ends, lost_reads}
use Rattle.rescue_rules.specs.Lines.{lines_of, opening_lines}
use Rattle.rescue_core.specs.RunState.{RunState, setting_in}
use Rattle.rescue_rules.specs.Across.{Across}
use Rattle.faulty_source.specs.Journal.{IsFrom}
use Rattle.rescue_phases.specs.Copying.{MayCopy}
use Rattle.ddrescue_words.specs.declared.options.Options.{Options}
use Rattle.ddrescue_words.specs.Options.{cluster_of}
use Rattle.ddrescue_words.specs.Command.{Command}
use Rattle.task_rescue.specs.declared.ready.RunMemory.{RunMemory}
use Rattle.task_files.specs.Asked.{Maps, domain_asked, setting_of}
use Rattle.task_files.specs.Settings.{settings_by, lines_in}

-- the input and the output are open, and no draft is begun
pub record AreReady (source : SourceState) (site : SiteState) : Type 0 where
  pub input : source.is_open ≡ true
  pub image : site.is_open ≡ true
  pub no_draft : site.is_drafting ≡ false

-- A run up to its end, or to where it stopped, which is heard after it or not: its events, its readings of the clock,
-- its calls, and its lines. The spare reading of the clock is the one before a lost read.
pub record WentToEnd (r : RunState) (end : RunEnd) (heard : Bool) (o : Across) : Type 0 where
  pub events : List Event
  pub spare : List ℕ
  pub lost : length spare ≡ lost_reads end
  pub run : IsRun (setting_in r) r.machine events
  pub read : IsTrue o.source.tells → o.source'.journal ≡ o.source.journal ++ reads_of events
  pub right : IsTrue o.source.tells → All (IsFrom o.source.bytes) (reads_of events)
  pub timed : ReadsClock (times_of events ++ spare) o.clock o.clock'
  pub fit : AreTimes (times_of events ++ spare)
  pub gained : List Entry
  pub grew : IsTrue o.site.tells → o.site'.calls ≡ o.site.calls ++ gained
  pub ends : Ends (setting_in r) r.machine events gained end
  pub says : SpeaksOn (out_pieces (lines_of (setting_in r) r.machine events end)) r.heard heard o.console o.console'

-- A run at its start over what is made of a map, with these names of a mapfile and its draft if there is one, this
-- command line, these options and these maps. It is for an input with a length, goes by the state that its mapfile
-- showed, and is heard or not.
pub record IsRunOver (names : Option MapNames) (line : List ℕ) (o : Options) (end : ℕ) (maps : Maps)
    (statuses : List Status) (state : Option MapState) (moment : ℕ) (heard : Bool) (r : RunState) : Type 0 where
  pub copying : MayCopy r
  pub places : HasPlaces r.settings (covers r.domain)
  pub settings_are : r.settings ≡ settings_by o
  pub names_are : r.names ≡ names
  pub line_is : r.line ≡ line
  pub heard_is : r.heard ≡ heard
  pub domain : (x : ℕ) → covers r.domain x ≡ domain_asked o end maps x
  pub machine : r.machine ≡ machine_of (setting_in r) (prepared (covers r.domain) o.try_again o.retrim statuses)
      (goes_on_from o.try_again state) (shown_at_first state) moment

-- What a run begins with over a map: the domain that a command and maps ask for of an input with a length, and what is
-- made of the map. Also the state that its mapfile showed, and the line that says how much is asked for, if there is
-- one.
pub record IsReady (c : Command) (end : ℕ) (maps : Maps) (statuses : List Status) (state : Option MapState)
    (ready : RunMemory) : Type 0 where
  pub domain : (x : ℕ) → covers ready.domain x ≡ domain_asked c.options end maps x
  pub map : ready.tiles.statuses ≡ prepared (covers ready.domain) c.options.try_again c.options.retrim statuses
  pub state_is : ready.state ≡ state
  pub opening : (line : List ℕ) → lines_in (option_map (λ l. l.items) ready.opening)
      ≡ opening_lines (setting_of c line end maps) (length statuses)

-- what a run begins with suits it: a domain for its map, which isn't too long, a state within limits, and room for a
-- cluster
pub record MayBegin (o : Options) (ready : RunMemory) : Type 0 where
  pub suits : Suits (settings_by o) (covers ready.domain) (length ready.tiles.statuses)
  pub short : length ready.tiles.statuses < 2 ^ 63
  pub pos : IfSome ready.state (λ shown. shown.pos < 2 ^ 63)
  pub pass : IfSome ready.state (λ shown. 0 < shown.pass)
  pub room : length ready.buf.items ≡ cluster_of o
