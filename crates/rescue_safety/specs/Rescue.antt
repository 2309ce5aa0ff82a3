-- Calls of `ddrescue` of which all is told.
use Rattle.std.specs.Prelude.{◌≡◌, ℕ, IsTrue, List, ◌++◌, Option, Some, unwrap_or}
use Rattle.faulty_source.specs.Journal.{Reading}
use Rattle.crash_site.specs.Files.{File}
use Rattle.crash_site.specs.Calls.{Entry}
use Rattle.crash_site.specs.SiteState.{files_in}
use Rattle.ddrescue_words.specs.Command.{Command}
use Rattle.ddrescue_words.specs.Asking.{Asks}
use Rattle.ddrescue_cli.specs.Told.{Told, calls_before}
use Rattle.ddrescue_cli.specs.Ddrescue.{Ddrescue}
use Rattle.rescue_safety.specs.Safe.{Target, Run}

-- An object tells if its contracts speak of what it holds; those in memory do. The real forms have the same contracts,
-- and the programs can't see which they have.

-- A call of `ddrescue` on files that tell what was done on them, and the calls that it made.
pub record Invocation : Type 0 where
  pub told : Told
  -- the call was one of `ddrescue`: this is what its contract ensures
  pub promised : Ddrescue told
  pub site_tells : IsTrue told.before.site.tells
  pub calls : List Entry
  pub made : told.after.site.calls ≡ told.before.site.calls ++ calls

-- An invocation whose input tells, and the reads that the input answered.
pub record Observed : Type 0 where
  pub call : Invocation
  pub source_tells : IsTrue call.told.before.source.tells
  pub reads : List Reading
  pub read : call.told.after.source.journal ≡ call.told.before.source.journal ++ reads

-- An invocation whose words ask for a rescue with a mapfile.
pub record Rescue : Type 0 where
  pub did : Observed
  pub command : Command
  pub asks : Asks did.call.told.words command
  pub mapfile : List ℕ
  pub named : command.mapfile ≡ Some mapfile

-- The target of a command with a mapfile of this name; if no option gives the output position, it is the input's.
abbrev pub target_of : Command → (mapfile : List ℕ) → Target
target_of c mapfile = record {
  outfile = c.outfile;
  mapfile = mapfile;
  from = c.options.input_position;
  to = unwrap_or c.options.output_position c.options.input_position;
}

-- what an invocation did on a target, in sectors of this size, by these reads
abbrev pub run_by : Observed → Target → (sector : ℕ) → (reads : List Reading) → Run
run_by o t sector reads = record {
  target = t;
  past = calls_before o.call.told;
  calls = o.call.calls;
  input = o.call.told.before.source.bytes;
  sector = sector;
  reads = reads;
}

-- what a rescue did, by these reads
abbrev pub run_of : Rescue → (reads : List Reading) → Run
run_of r reads = run_by r.did (target_of r.command r.mapfile) r.command.options.sector reads

-- the files as they read when a rescue began
abbrev pub files_at_first : Rescue → List ℕ → Option File
files_at_first r = files_in r.did.call.told.before.site
