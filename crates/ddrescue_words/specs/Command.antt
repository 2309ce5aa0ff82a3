-- What a rescue may be asked to do: its files and its options, and the tasks beside it.
use Rattle.std.specs.Prelude.{ℕ, Bool, List, Option}
use Rattle.block_list.specs.declared.types.TypeSet.{TypeSet}
use Rattle.ddrescue_words.specs.declared.options.Options.{Options}

-- The names of the infile, the outfile and, if there is one, the mapfile. The names of the map of what is to be rescued
-- and of the map of what may be read, if these are named. What the options say.
pub record Command : Type 0 where
  pub infile : List ℕ
  pub outfile : List ℕ
  pub mapfile : Option (List ℕ)
  pub domain_map : Option (List ℕ)
  pub test_map : Option (List ℕ)
  pub options : Options

-- what words ask for
pub data Task : Type 0 where
  -- a rescue
  Rescue : Command → Task
  -- that a pattern be written over what has one of these statuses in the mapfile
  Fill : (types : TypeSet) → Command → Task
  -- that the mapfile be made from what the outfile holds
  Generate : Command → Task
  -- the rescue of a sample of `kib` KiB, without a message if `quiet`
  Sample : (kib : ℕ) → (quiet : Bool) → Task
