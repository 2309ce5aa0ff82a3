-- Parts of what is told of a call: its objects, the files before it, and what its words asked for.
use Rattle.std.specs.Prelude.{ℕ, List, Option}
use Rattle.option_words.specs.Words.{command_line}
use Rattle.crash_site.specs.Files.{File}
use Rattle.crash_site.specs.SiteState.{files_in}
use Rattle.rescue_rules.specs.Setting.{Setting}
use Rattle.rescue_rules.specs.Across.{Across, across as across_states}
use Rattle.ddrescue_words.specs.Command.{Command}
use Rattle.program_promise.specs.World.{WorldState}
use Rattle.task_files.specs.Names.{program_name}
use Rattle.task_files.specs.Asked.{setting_of}
use Rattle.task_files.specs.Findings.{Findings}
use Rattle.ddrescue_cli.specs.Told.{Told}

-- the objects of a run
abbrev pub across : (old new : WorldState) → Across
across old new =
    across_states old.source new.source old.site new.site old.clock new.clock old.console new.console

-- the files as they read before the call
abbrev pub files_of : Told → List ℕ → Option File
files_of t = files_in t.before.site

-- what a command asks for of what was outside
abbrev pub asked_of : Command → Told → Findings → Setting
asked_of c t o = setting_of c (command_line program_name t.words) o.end o.maps
