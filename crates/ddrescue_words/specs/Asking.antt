-- What the words of a rescue ask for, or why they are refused.
use Rattle.std.specs.Prelude.{◌≡◌, ℕ, ◌^◌, ◌<◌, ◌≤◌, Bool, true, not, ◌||◌, find, List, [], ◌∷◌, length, nat_eq, nat_lt, Option, Some, None, Result, Ok, Err, IfSome, option_map, codes, if◌then◌else◌, max, false, is_some}
use Rattle.size_suffixes.specs.Sectors.{largest_cluster, largest_sector}
use Rattle.block_list.specs.declared.types.TypeSet.{TypeSet}
use Rattle.option_words.specs.Words.{word}
use Rattle.option_words.specs.declared.row.Row.{Row}
use Rattle.option_words.specs.declared.reading.Item.{Item}
use Rattle.option_words.specs.declared.fault.UsageFault.{UsageFault}
use Rattle.option_words.specs.declared.fault.UsageFault.TheVariants.{BadValue, Conflict, Operands}
use Rattle.option_words.specs.declared.command_error.CommandError.{CommandError}
pub use Rattle.option_words.specs.Values.{IsWord, empty_operand}
use Rattle.option_words.specs.Values.{domain_letter, is_given, is_of, last_of, last_value, quiet_letter, word_in}
pub use Rattle.option_words.specs.Grammar.{Unread, Wrong, unless_empty, unread_error}
use Rattle.option_words.specs.Grammar.{Grammar, AreOptionsOf, AskFor, AreRefusedBy, IsAskedWithin, IsRefusalBy, IsErrorBy}
use Rattle.run_options.specs.Passes.{all_phases_once}
use Rattle.ddrescue_words.specs.declared.options.Options.{Options}
use Rattle.ddrescue_words.specs.declared.command.Command.{Command as CommandCode}
use Rattle.ddrescue_words.specs.declared.command.Task.{Task as TaskCode}
use Rattle.ddrescue_words.specs.declared.command.Task.TheVariants.{Rescue as RescueCode, Fill as FillCode, Generate as GenerateCode, Sample as SampleCode}
use Rattle.ddrescue_words.specs.Options.{cluster_letter, cluster_of, fill_letter, generate_letter, in_sectors, largest_sample, most_retries, no_options, option_meanings, options_in, sample_place, sectors_of, test_letter}
use Rattle.ddrescue_words.specs.Command.{Command, Task, Rescue, Fill, Generate, Sample}

-- the command that the code hands on
abbrev pub told_by : CommandCode → Command
told_by c = record {
  infile = c.infile.now;
  outfile = c.outfile.now;
  mapfile = option_map (λ m. m.now) c.mapfile;
  domain_map = option_map (λ m. m.now) c.domain_map;
  test_map = option_map (λ m. m.now) c.test_map;
  options = c.options;
}

-- the task that the code hands on
abbrev pub task_by : TaskCode → Task
task_by (RescueCode c) = Rescue (told_by c)
task_by (FillCode types c) = Fill types (told_by c)
task_by (GenerateCode c) = Generate (told_by c)
task_by (SampleCode kib quiet) = Sample kib quiet

-- What the rescue of a sample is: that of the words `-r 1 in out map`.
abbrev pub sample_command : Command
sample_command = record {
  infile = codes "in";
  outfile = codes "out";
  mapfile = Some (codes "map");
  domain_map = None;
  test_map = None;
  options = record (no_options 512) { passes = record all_phases_once { retries = 1 } };
}

-- the names of the maps that options give
pub record MapOptions : Type 0 where
  pub domain : Option (List ℕ)
  pub test : Option (List ℕ)

-- the names of the maps, by the last option of each letter
abbrev pub maps_in : List (List ℕ) → List Item → MapOptions
maps_in words items = record {
  domain = last_value option_meanings words domain_letter items;
  test = last_value option_meanings words test_letter items;
}

-- ---- options that don't go together

-- the word of the first option of a letter, if it is given
abbrev pub first_word : (letter : ℕ) → List Item → Option ℕ
first_word letter items = option_map (λ i. i.word) (find (is_of option_meanings letter) items)

-- the later one of two words, if there are two
abbrev pub later_word : Option ℕ → Option ℕ → Option ℕ
later_word None other = None
later_word (Some n) None = None
later_word (Some n) (Some k) = Some (max n k)

-- One mode goes with no other: the word of the one that comes later for the first time.
abbrev pub modes_conflict : List Item → Option ℕ
modes_conflict items = later_word (first_word fill_letter items) (first_word generate_letter items)

-- a mode is given
abbrev pub is_mode_given : List Item → Bool
is_mode_given items = is_given option_meanings fill_letter items || is_given option_meanings generate_letter items

-- A test map goes with no mode: the word of the first one, if a mode is given.
abbrev pub test_conflict : List Item → Option ℕ
test_conflict items = if is_mode_given items then first_word test_letter items else None

-- the options that go with a sample: that of a sample, and the one that asks that nothing be said
abbrev pub goes_with_sample : Item → Bool
goes_with_sample i = nat_eq i.row sample_place || is_of option_meanings quiet_letter i

-- the word of the first option that doesn't go with a sample
abbrev pub sample_conflict : List Item → Option ℕ
sample_conflict items = option_map (λ i. i.word) (find (λ i. not (goes_with_sample i)) items)

-- the first of two words that there is
abbrev pub first_found : Option ℕ → Option ℕ → Option ℕ
first_found (Some n) other = Some n
first_found None other = other

-- the word of an option that doesn't go with others, if there is one: modes come first, then a test map, then a sample
abbrev pub conflict_in : (sampled : Bool) → List Item → Option ℕ
conflict_in sampled items =
    first_found (modes_conflict items)
    (first_found (test_conflict items) (if sampled then sample_conflict items else None))

-- ---- operands, and what is asked for

-- A mapfile is wanted if it says what is to be rescued, filled or generated.
abbrev pub wants_mapfile : Options → Bool
wants_mapfile o = (o.complete_only || is_some o.fill) || o.generate

-- The files of two operands or three; another number is refused, and so are two if a mapfile is wanted.
abbrev pub command_with : List (List ℕ) → MapOptions → Options → (operands : List ℕ) → Result Command UsageFault
command_with words m o [] = Err (Operands 0)
command_with words m o (i ∷ []) = Err (Operands 1)
command_with words m o (i ∷ out ∷ []) =
    if wants_mapfile o then Err (Operands 2)
    else Ok (record {
      infile = word words i;
      outfile = word words out;
      mapfile = None;
      domain_map = m.domain;
      test_map = m.test;
      options = o;
    })
command_with words m o (i ∷ out ∷ map ∷ []) =
    Ok (record {
      infile = word words i;
      outfile = word words out;
      mapfile = Some (word words map);
      domain_map = m.domain;
      test_map = m.test;
      options = o;
    })
command_with words m o (i ∷ out ∷ map ∷ n ∷ more) = Err (Operands (length (i ∷ out ∷ map ∷ n ∷ more)))

-- what files are for, by the mode that options give, if they give one
abbrev pub mode_task : (fill : Option TypeSet) → (generates : Bool) → Command → Task
mode_task (Some types) generates c = Fill types c
mode_task None true c = Generate c
mode_task None false c = Rescue c

-- the task of a command by its options, or its fault
abbrev pub files_task : Options → Result Command UsageFault → Result Task UsageFault
files_task o (Ok c) = Ok (mode_task o.fill o.generate c)
files_task o (Err fault) = Err fault

-- A sample goes with no operand.
abbrev pub sample_task : (kib : ℕ) → (quiet : Bool) → (operands : List ℕ) → Result Task UsageFault
sample_task kib quiet [] = Ok (Sample kib quiet)
sample_task kib quiet (n ∷ more) = Err (Operands (length (n ∷ more)))

-- what options ask for, by the sample that they give, if they give one
abbrev pub task_with : List (List ℕ) → List Item → Options → (sample : Option ℕ) → (operands : List ℕ)
    → Result Task UsageFault
task_with words items o None operands = files_task o (command_with words (maps_in words items) o operands)
task_with words items o (Some kib) operands = sample_task kib o.quiet operands

-- a task or its fault, unless an option doesn't go with others
abbrev pub unless_conflict : Option ℕ → Result Task UsageFault → Result Task UsageFault
unless_conflict (Some n) r = Err (Conflict n)
unless_conflict None r = r

-- options that give a cluster that is too large
abbrev pub is_too_large : Options → Bool
is_too_large o = nat_lt largest_cluster (cluster_of o)

-- the word of the option that gives the cluster
abbrev pub cluster_word : List Item → ℕ
cluster_word items = word_in (last_of option_meanings cluster_letter items)

-- What a reading of the words asks for, or its first fault: a bad value, then a cluster that is too large, then an
-- option that doesn't go with others, then the operands.
abbrev pub task_from : List (List ℕ) → List Item → Result Options ℕ → (operands : List ℕ) → Result Task UsageFault
task_from words items (Err n) operands = Err (BadValue n)
task_from words items (Ok o) operands =
    if is_too_large o then Err (BadValue (cluster_word items))
    else unless_empty (empty_operand words operands)
    (unless_conflict (conflict_in (is_some o.sample) items) (task_with words items o o.sample operands))

-- what words ask for by their options and operands, or their first fault
abbrev pub task_in : List (List ℕ) → List Item → (operands : List ℕ) → Result Task UsageFault
task_in words items operands = task_from words items (options_in words items) operands

-- the grammar of a rescue
abbrev pub rescue_grammar : Grammar Task
rescue_grammar = record { options = option_meanings; quiet = quiet_letter; asked = task_in }

-- rows of a table that are the options of a rescue
abbrev pub AreOptions : List Row → Type 0
AreOptions rows = AreOptionsOf rescue_grammar rows

-- the words ask for this
abbrev pub AskTask : List (List ℕ) → Task → Type 0
AskTask words task = AskFor rescue_grammar words task

-- the words ask for this rescue
abbrev pub Asks : List (List ℕ) → Command → Type 0
Asks words c = AskTask words (Rescue c)

-- the words ask for the rescue of a sample of `kib` KiB
abbrev pub AskSample : List (List ℕ) → (kib : ℕ) → (quiet : Bool) → Type 0
AskSample words kib quiet = AskTask words (Sample kib quiet)

-- the words are refused for this fault
abbrev pub AreRefused : List (List ℕ) → UsageFault → Type 0
AreRefused words fault = AreRefusedBy rescue_grammar words fault

-- options within their limits
pub record AreInLimits (o : Options) : Type 0 where
  pub sector : 0 < o.sector
  pub sector_max : o.sector ≤ largest_sector
  pub sectors : 0 < sectors_of o o.cluster_sectors
  pub cluster_max : cluster_of o ≤ largest_cluster
  pub skip : o.skip ≤ o.skip_max
  pub skip_max : in_sectors o o.skip_max < 2 ^ 63
  pub input_position : o.input_position < 2 ^ 63
  pub output_position : IfSome o.output_position (λ n. n < 2 ^ 63)
  pub retries : o.passes.retries ≤ most_retries

-- a task asks that nothing be said
abbrev pub is_quiet : Task → Bool
is_quiet (Rescue c) = c.options.quiet
is_quiet (Fill types c) = c.options.quiet
is_quiet (Generate c) = c.options.quiet
is_quiet (Sample kib quiet) = quiet

-- options within their limits, with a mapfile
pub record HasMapfile (c : Command) : Type 0 where
  pub limits : AreInLimits c.options
  pub named : is_some c.mapfile ≡ true

-- the size of a sample in KiB
pub record IsSampleSize (kib : ℕ) : Type 0 where
  pub low : 1 ≤ kib
  pub high : kib ≤ largest_sample

-- a task within its limits, with a mapfile if one is wanted
abbrev pub IsInLimits : Task → Type 0
IsInLimits (Rescue c) = AreInLimits c.options
IsInLimits (Fill types c) = HasMapfile c
IsInLimits (Generate c) = HasMapfile c
IsInLimits (Sample kib quiet) = IsSampleSize kib

-- this is what the words ask for, and nothing else, and it is within its limits
abbrev pub IsAsked : List (List ℕ) → Task → Type 0
IsAsked words task = IsAskedWithin rescue_grammar words task (IsInLimits task) (is_quiet task)

-- what the code hands on is what the words ask for, and nothing else
abbrev pub IsTask : List (List ℕ) → TaskCode → Type 0
IsTask words task = IsAsked words (task_by task)

-- the words are refused for this fault, and ask for nothing; `quiet` says whether they ask for no message
abbrev pub IsRefusal : List (List ℕ) → UsageFault → (quiet : Bool) → Type 0
IsRefusal words fault quiet = IsRefusalBy rescue_grammar words fault quiet

-- why words ask for nothing; lack of memory is free
abbrev pub IsErrorOf : List (List ℕ) → CommandError → Type 0
IsErrorOf words error = IsErrorBy rescue_grammar words error
