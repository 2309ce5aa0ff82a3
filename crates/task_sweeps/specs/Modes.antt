-- The work of fill mode and of generate mode: their steps in order, and the sweep after them.
use Rattle.std.specs.Prelude.{◌≡◌, ◌⊎◌, ℕ, true, false, List, [], ◌∷◌, ◌++◌, length, Option, None}
use Rattle.block_list.specs.declared.status.Status.{Status}
use Rattle.block_list.specs.declared.types.TypeSet.{TypeSet}
use Rattle.mapfile_text.specs.declared.state.MapState.{MapState}
use Rattle.crash_site.specs.Files.{File}
use Rattle.mapfile_resume.specs.Named.{map_mode}
use Rattle.rescue_rules.specs.declared.stop.RunEnd.{RunEnd}
use Rattle.rescue_rules.specs.Setting.{Setting}
use Rattle.rescue_rules.specs.Start.{Stands}
use Rattle.rescue_rules.specs.Lines.{opening_lines}
use Rattle.rescue_rules.specs.Work.{Gain}
use Rattle.rescue_rules.specs.Stops.{Before}
use Rattle.rescue_rules.specs.StopsBy.{StopsBy}
use Rattle.sweep_rules.specs.Sweep.{Sweeper, Swept, filler, generator}
use Rattle.sweep_rules.specs.SweepWork.{Sweeps, sweep_begins, sweep_lines}
use Rattle.sweep_rules.specs.SweepStops.{FillPromise, GeneratePromise, pieces_before, sweep_saves}
use Rattle.program_promise.specs.Work.{Deeds, WorkStep, Take, Look, Open, Works}
use Rattle.ddrescue_words.specs.Options.{cluster_of}
use Rattle.ddrescue_words.specs.Command.{Command}
use Rattle.task_files.specs.declared.ending.Ending.{Ending}
use Rattle.task_files.specs.declared.ending.Which.TheVariants.{DomainMap}
use Rattle.task_files.specs.Asked.{Maps, setting_of}
use Rattle.task_files.specs.Maps.{Found, IsListing, IsNamedMap, MapfileLists}
use Rattle.task_files.specs.Refusals.{NamesRefused, PatternEmpty}
use Rattle.task_sweeps.specs.Pattern.{ThenPattern}
use Rattle.task_files.specs.Work.{IsUnbegun, answer_of, files_rows, map_rows, rescue_faults}

-- ---- what is asked for

-- how far the map reaches that a mapfile stands for, if it is a map
abbrev pub IsMapEnd : (mapfile : Option File) → (top : ℕ) → Type 0
IsMapEnd mapfile top = (first end : ℕ) → MapfileLists mapfile first end → end ≡ top

-- The maps of a sweep are what the files are that were found. No test map goes with one.
pub record AreMapsOfSweep (c : Command) (found : Found) (maps : Maps) : Type 0 where
  pub domain : IsNamedMap c.domain_map (map_mode c.options.loose) found.domain maps.domain
  pub listed : IsListing c found.mapfile maps.listed
  pub untested : maps.test ≡ None

-- What a filling asks for over a map that reaches so far: of the map alone, since its input is a pattern that has no
-- length. (What a generating asks for is what a rescue does.)
abbrev pub fill_setting : Command → (line : List ℕ) → (top : ℕ) → Maps → Setting
fill_setting c line top maps = record (setting_of c line top maps) { end = 0 }

-- ---- the steps

-- what comes first: the names are checked, and the map that an option names is read
abbrev pub named_rows : Command → Found → List (WorkStep Ending)
named_rows c found =
    Take ∷ Look (NamesRefused c) ∷ map_rows DomainMap (map_mode c.options.loose) c.domain_map found.domain

-- The steps of a filling up to the read of its pattern, which takes memory.
abbrev pub fill_rows : Command → Found → (end : ℕ) → List (WorkStep Ending)
fill_rows c found end = named_rows c found ++ Open c.infile ∷ Look (PatternEmpty end) ∷ Take ∷ []

-- All steps of a generating, which makes no output.
abbrev pub generate_rows : Command → Found → (end : ℕ) → List (WorkStep Ending)
generate_rows c found end = named_rows c found ++ Open c.infile ∷ files_rows false c found end

-- ---- the sweep after them

-- By a setting and what a sweeper does:
module _ (s : Setting) (w : Sweeper) where
  module _ (statuses : List Status) (state : Option MapState) where
    -- a sweep over a map, by its pieces and its end, and what it said
    pub record SweptOver (pieces : List Swept) (end : RunEnd) (lines : List (List ℕ)) (e : Ending) (g : Gain)
        : Type 0 where
      pub answer : e ≡ answer_of end
      pub sweeps : Sweeps s w statuses state g end
      pub pieces_are : sweeps.events ≡ pieces
      pub says : lines
          ≡ opening_lines s (length statuses) ++ sweep_lines s w (sweep_begins w statuses state g) pieces end

    -- the sweep, or none if memory ran out before it began
    abbrev pub MaySweep : List Swept → RunEnd → (lines : List (List ℕ)) → Ending → Gain → Type 0
    MaySweep pieces end lines e g =
        (IsUnbegun e g lines × (pieces ≡ [])) ⊎ SweptOver pieces end lines e g

  -- the sweep over the map that the mapfile stands for, which opens no input
  pub record ThenSweep (mapfile : Option File) (pieces : List Swept) (end : RunEnd) (lines : List (List ℕ))
      (e : Ending) (d : Deeds) : Type 0 where
    pub opens : d.opens ≡ []
    pub statuses : List Status
    pub state : Option MapState
    pub stands : Stands mapfile s.end statuses state
    pub sweeps : MaySweep statuses state pieces end lines e d.gain

-- What follows the steps of a filling over a map that reaches so far: the pattern is read, which fills the buffer, then
-- come the steps on the files, and the sweep.
abbrev pub ThenFill : (types : TypeSet) → Command → Found → (input_end top : ℕ) → Setting → (buffer : List ℕ)
    → List Swept → RunEnd → (lines : List (List ℕ)) → Ending → Deeds → Type 0
ThenFill types c found input_end top s buffer pieces end lines =
    ThenPattern (cluster_of c.options) input_end buffer
    (Works rescue_faults (files_rows true c found top)
    (ThenSweep s (filler s types buffer) found.mapfile pieces end lines))

-- The work of a filling.
abbrev pub Fills : (types : TypeSet) → Command → Found → (input_end top : ℕ) → Setting → (buffer : List ℕ)
    → List Swept → RunEnd → (lines : List (List ℕ)) → Ending → Deeds → Type 0
Fills types c found input_end top s buffer pieces end lines =
    Works rescue_faults (fill_rows c found input_end) (ThenFill types c found input_end top s buffer pieces end lines)

-- The work of a generating.
abbrev pub Generates : Command → Found → (input_end : ℕ) → Setting → List Swept → RunEnd → (lines : List (List ℕ))
    → Ending → Deeds → Type 0
Generates c found input_end s pieces end lines =
    Works rescue_faults (generate_rows c found input_end) (ThenSweep s (generator s) found.mapfile pieces end lines)

-- ---- what is found after a stop

-- At whatever moment a filling is stopped, the mapfile found is the one it began with or one that it saved, with the
-- map that it began with. The output holds the buffer's front in each piece that came before that save.
abbrev pub FillStops : Before → Setting → (types : TypeSet) → (buffer : List ℕ) → List Swept → RunEnd → Gain → Type 0
FillStops b s types buffer pieces end g =
    let w = filler s types buffer in
    StopsBy (λ began shown. sweep_saves w began shown g pieces end)
    (λ old began shown number map image. FillPromise s buffer began
    (pieces_before w (sweep_begins w began shown g) pieces number) map image) true b s g.calls

-- At whatever moment a generating is stopped, what the mapfile found calls finished was so when it began, or has a byte
-- in the output, whose old bytes stay.
abbrev pub GenerateStops : Before → Setting → List Swept → RunEnd → Gain → Type 0
GenerateStops b s pieces end g =
    StopsBy (λ began shown. sweep_saves (generator s) began shown g pieces end)
    (λ old began shown number map image. GeneratePromise s old began map image) false b s g.calls
