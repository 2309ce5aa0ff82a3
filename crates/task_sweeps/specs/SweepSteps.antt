-- What the steps of fill mode and of generate mode did, whether the objects tell or not.
-- For contracts and proofs: no promise uses it.
use Rattle.std.specs.Prelude.{◌≡◌, ◌⊎◌, ℕ, ◌<◌, ◌^◌, Bool, IsTrue, List, [], ◌++◌, length, Option, option_map}
use Rattle.block_list.specs.declared.status.Status.{Status}
use Rattle.block_list.specs.Tiled.{Tiled}
use Rattle.block_list.specs.declared.types.TypeSet.{TypeSet}
use Rattle.run_options.specs.Settings.{IsSound, Suits, HasPlaces}
use Rattle.mapfile_text.specs.declared.state.MapState.{MapState}
use Rattle.mapfile_text.specs.HeadingLines.{HeadingLines}
use Rattle.crash_site.specs.Files.{bytes_of}
use Rattle.crash_site.specs.SiteState.{image_in}
use Rattle.mapfile_save.specs.MapNames.{MapNames}
use Rattle.rescue_console.specs.Speaking.{SpeaksOn, out_pieces}
use Rattle.rescue_domain.specs.Parts.{covers}
use Rattle.rescue_rules.specs.declared.stop.RunEnd.{RunEnd}
use Rattle.rescue_rules.specs.Setting.{Setting}
use Rattle.rescue_rules.specs.Laws.{AreTimes}
use Rattle.rescue_rules.specs.Lines.{opening_lines}
use Rattle.rescue_rules.specs.Work.{Gain}
use Rattle.rescue_rules.specs.Across.{Across}
use Rattle.sweep_rules.specs.Sweep.{Sweeper, Swept, generator}
use Rattle.sweep_rules.specs.SweepLaws.{AreGiven}
use Rattle.fill_generate.specs.declared.job.Job.{Job}
use Rattle.fill_generate.specs.Sweeping.{IsApart}
use Rattle.ddrescue_words.specs.declared.options.Options.{Options}
use Rattle.ddrescue_words.specs.Command.{Command}
use Rattle.task_sweeps.specs.declared.sweep.SweepReady.{SweepReady}
use Rattle.task_files.specs.declared.ending.Ending.{Ending}
use Rattle.task_files.specs.Asked.{Maps, domain_asked, setting_of}
use Rattle.task_files.specs.Maps.{AreAskedFor}
use Rattle.task_files.specs.Findings.{Findings, Agrees}
use Rattle.task_files.specs.Steps.{IsOnlyMaps}
use Rattle.task_files.specs.Settings.{lines_in, settings_by}
use Rattle.task_sweeps.specs.Modes.{AreMapsOfSweep, IsMapEnd, MaySweep, Fills, Generates, fill_setting}

-- What a sweep begins with over a map: the domain that a command and maps ask for below a limit, and the map as it is.
-- The state is the one that its mapfile showed, and the line, if there is one, says how much is asked for.
pub record IsSweepReady (c : Command) (limit : ℕ) (maps : Maps) (statuses : List Status) (state : Option MapState)
    (ready : SweepReady) : Type 0 where
  pub domain : (x : ℕ) → covers ready.domain x ≡ domain_asked c.options limit maps x
  pub map : ready.tiles.statuses ≡ statuses
  pub state_is : ready.state ≡ state
  pub opening : (line : List ℕ) → lines_in (option_map (λ l. l.items) ready.opening)
      ≡ opening_lines (setting_of c line limit maps) (length statuses)
  pub suits : Suits (settings_by c.options) (covers ready.domain) (length statuses)

-- what a sweep is asked to do over a map, from a moment on, which is heard or not
pub record IsJobOver (names : MapNames) (heading : HeadingLines) (o : Options) (limit : ℕ) (maps : Maps)
    (statuses : List Status) (state : Option MapState) (moment : ℕ) (heard : Bool) (job : Job Tiled)
    : Type 0 where
  pub settings_are : job.settings ≡ settings_by o
  pub sound : IsSound job.settings
  pub domain : (x : ℕ) → covers job.domain x ≡ domain_asked o limit maps x
  pub suits : Suits job.settings (covers job.domain) (length statuses)
  pub places : HasPlaces job.settings (covers job.domain)
  pub map : job.tiles.statuses ≡ statuses
  pub state_is : job.loaded ≡ state
  pub names_are : job.names ≡ names
  pub heading_is : job.heading ≡ heading
  pub moment_is : job.moment ≡ moment
  pub heard_is : job.heard ≡ heard

-- The record gained this at its end if the site tells, and the readings if the clock tells. Nothing was read: the input
-- is as it was.
pub record GainsUnread (o : Across) (g : Gain) : Type 0 where
  pub unread : o.source' ≡ o.source
  pub calls : IsTrue o.site.tells → o.site'.calls ≡ o.site.calls ++ g.calls
  pub reads : g.reads ≡ []
  pub times : IsTrue o.clock'.tells → o.clock'.readings ≡ o.clock.readings ++ g.times
  pub fit : AreTimes g.times

-- what a sweep did over a map that it began with, up to its end or to where it stopped, and what it said
pub record DidSweep (s : Setting) (w : Sweeper) (statuses : List Status) (state : Option MapState)
    (heard heard' : Bool) (e : Ending) (o : Across) : Type 0 where
  pub gain : Gain
  pub gains : GainsUnread o gain
  pub pieces : List Swept
  pub end : RunEnd
  pub lines : List (List ℕ)
  pub says : SpeaksOn (out_pieces lines) heard heard' o.console o.console'
  pub sweeps : MaySweep s w statuses state pieces end lines e gain

-- what a generating did: its pieces gave what the open output held, which the saves don't overwrite
pub record DidGenerate (s : Setting) (statuses : List Status) (state : Option MapState) (heard heard' : Bool)
    (e : Ending) (o : Across) : Type 0 where
  pub did : DidSweep s (generator s) statuses state heard heard' e o
  pub given : IsTrue o.site.tells → IsApart s.names o.site → AreGiven s (bytes_of (image_in o.site)) did.pieces

-- What was outside, as far as it agrees with what is told, and what maps say of it.
pub record IsOutside (c : Command) (o : Across) (w : Findings) : Type 0 where
  pub agrees : Agrees c o w.found w.end w.maps w.did
  pub asked_maps : AreAskedFor c w.maps
  pub are_maps : AreMapsOfSweep c w.found w.maps
  pub fit : AreTimes w.did.gain.times

-- what a filling did after the words
pub record WorkedFill (types : TypeSet) (c : Command) (line : List ℕ) (heard heard' : Bool) (e : Ending) (o : Across)
    : Type 0 where
  pub outside : Findings
  pub is_outside : IsOutside c o outside
  pub top : ℕ
  pub tops : IsMapEnd outside.found.mapfile top
  pub buffer : List ℕ
  pub pieces : List Swept
  pub end : RunEnd
  pub works : Fills types c outside.found outside.end top (fill_setting c line top outside.maps) buffer pieces end
      outside.lines e outside.did
  pub silent : outside.did.gain.times ≡ [] → (outside.lines ≡ []) × (pieces ≡ [])
  pub says : SpeaksOn (out_pieces outside.lines) heard heard' o.console o.console'

-- what a generating did after the words
pub record WorkedGenerate (c : Command) (line : List ℕ) (heard heard' : Bool) (e : Ending) (o : Across) : Type 0 where
  pub outside : Findings
  pub is_outside : IsOutside c o outside
  pub pieces : List Swept
  pub end : RunEnd
  pub works : Generates c outside.found outside.end (setting_of c line outside.end outside.maps) pieces end
      outside.lines e outside.did
  -- the input's length is known if more than maps was read
  pub short : IsOnlyMaps outside.did.gain ⊎ (outside.end < 2 ^ 63)
  pub given : IsTrue o.site.tells
      → AreGiven (setting_of c line outside.end outside.maps) (bytes_of outside.found.output) pieces
  pub silent : outside.did.gain.times ≡ [] → (outside.lines ≡ []) × (pieces ≡ [])
  pub says : SpeaksOn (out_pieces outside.lines) heard heard' o.console o.console'
