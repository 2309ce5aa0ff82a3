-- The rescue of a sample: what it asks for, its step, and the line on it.
use Rattle.std.specs.Prelude.{◌≡◌, ℕ, Bool, true, IsTrue, List, [], ◌∷◌, ◌++◌, length, replicate, None, codes}
use Rattle.block_list.specs.declared.status.Status.TheVariants.{NonTried}
use Rattle.faulty_source.specs.SourceState.{SourceState}
use Rattle.rescue_console.specs.ClockState.{ClockState, Reads as ReadsClock}
use Rattle.rescue_console.specs.ConsoleState.{ConsoleState}
use Rattle.rescue_console.specs.Speaking.{SpeaksOn, out_pieces}
use Rattle.rescue_domain.specs.Parts.{covers}
use Rattle.rescue_rules.specs.declared.report.Counts.{Counts}
use Rattle.rescue_rules.specs.Setting.{Setting}
use Rattle.rescue_rules.specs.Nameless.{nameless}
use Rattle.rescue_rules.specs.Machine.{Machine}
use Rattle.rescue_rules.specs.Step.{Event}
use Rattle.rescue_rules.specs.Moves.{state_after, has_ended, IsRun}
use Rattle.rescue_rules.specs.Counts.{counts_of}
use Rattle.rescue_rules.specs.Beginning.{machine_over}
use Rattle.rescue_rules.specs.Events.{reads_of, times_of}
use Rattle.rescue_core.specs.RunState.{RunState, setting_in}
use Rattle.rescue_sample.specs.Sample.{sample_size}
use Rattle.rescue_sample.specs.Line.{IsSampleLine}
use Rattle.program_promise.specs.Work.{Deeds, WorkStep, Take, Works}
use Rattle.program_promise.specs.Parts.{only_calls}
use Rattle.ddrescue_words.specs.Asking.{sample_command}
use Rattle.task_files.specs.declared.ending.Ending.{Ending}
use Rattle.task_files.specs.declared.ending.Ending.TheVariants.{Done, NoMemory}
use Rattle.task_files.specs.Asked.{no_maps, setting_of}
use Rattle.task_files.specs.Work.{rescue_faults}

-- what the rescue of a sample with this number of bytes asks for; a run needs no names
abbrev pub sample_setting : (end : ℕ) → Setting
sample_setting end = nameless (setting_of sample_command (codes "ddrescue -r 1 in out map") end no_maps)

-- where the rescue of a sample begins at some time: nothing was tried
abbrev pub sample_start : (end time : ℕ) → Machine
sample_start end time = machine_over (sample_setting end) (replicate end NonTried) None time

-- the line of a sample of `kib` KiB: that of the rescue of the sample, which begins at 0
abbrev pub IsLineOf : (kib : ℕ) → (line : List ℕ) → Type 0
IsLineOf kib line = IsSampleLine kib (sample_setting (sample_size kib)) (sample_start (sample_size kib) 0) line

-- The step of the rescue of a sample: it takes memory.
abbrev pub sample_rows : List (WorkStep Ending)
sample_rows = Take ∷ []

-- The sample is rescued, and its line is put.
abbrev pub Samples : (kib : ℕ) → (lines : List (List ℕ)) → Ending → Deeds → Type 0
Samples kib lines e d = (e ≡ Done) × (line : List ℕ) × IsLineOf kib line × (lines ≡ line ∷ [])

-- what the rescue of a sample answers, and says on the console of one who is heard or not
pub record TellsSample (kib : ℕ) (heard heard' : Bool) (e : Ending) (console console' : ConsoleState) : Type 0 where
  pub lines : List (List ℕ)
  pub works : Works rescue_faults sample_rows (Samples kib lines) e (only_calls [])
  pub silent : e ≡ NoMemory → lines ≡ []
  pub says : SpeaksOn (out_pieces lines) heard heard' console console'

-- a run up to its end, with its reads, its readings of the clock, and what there is in its last map
pub record RanToEnd (r : RunState) (counts : Counts) (source source' : SourceState) (clock clock' : ClockState)
    : Type 0 where
  pub events : List Event
  pub run : IsRun (setting_in r) r.machine events
  pub over : has_ended (setting_in r) (state_after (setting_in r) r.machine events) ≡ true
  pub read : IsTrue source.tells → source'.journal ≡ source.journal ++ reads_of events
  pub bytes : IsTrue source.tells → source'.bytes ≡ source.bytes
  pub timed : ReadsClock (times_of events) clock clock'
  pub counts_are : counts ≡ counts_of (covers r.domain) (state_after (setting_in r) r.machine events).map

-- the rescue of a sample over any input up to its end, from the reading of the clock on with which it begins
pub record RanSample (counts : Counts) (source source' : SourceState) (clock clock' : ClockState) : Type 0 where
  pub end : ℕ
  pub own_end : IsTrue source.tells → end ≡ length source.bytes
  pub time : ℕ
  pub events : List Event
  pub run : IsRun (sample_setting end) (sample_start end time) events
  pub over : has_ended (sample_setting end) (state_after (sample_setting end) (sample_start end time) events) ≡ true
  pub read : IsTrue source.tells → source'.journal ≡ source.journal ++ reads_of events
  pub bytes : IsTrue source.tells → source'.bytes ≡ source.bytes
  pub timed : ReadsClock (time ∷ times_of events) clock clock'
  pub counts_are : counts ≡ counts_of (sample_setting end).domain
      (state_after (sample_setting end) (sample_start end time) events).map
