-- What a rescue is asked to do.
use Rattle.std.specs.Prelude.{ℕ, ◌+◌, ◌-◌, ◌*◌, ◌^◌, ◌<◌, ◌≤◌, ◌≡◌, Bool, true, List}
use Rattle.run_options.specs.declared.limits.Limits.{Limits}
use Rattle.run_options.specs.declared.passes.Passes.{Passes}
use Rattle.run_options.specs.declared.skips.Skips.{Skips}
use Rattle.mapfile_save.specs.MapNames.{MapNames}

-- What the words of a rescue ask for, once its input's length is known. Sizes and positions are in bytes.
pub record Setting : Type 0 where
  -- the input and the output, and whether the output may be something else than a regular file
  pub infile : List ℕ
  pub outfile : List ℕ
  pub forced : Bool
  -- whether there is a mapfile; without one nothing is saved, and the output is synced at the end
  pub has_mapfile : Bool
  -- the names of the mapfile and of its draft, which mean nothing if there is none
  pub names : MapNames
  -- the command line, as a mapfile shows it
  pub line : List ℕ
  -- the input's length, the positions that are rescued, and where the one at `input_position` is in the output
  pub end : ℕ
  pub domain : ℕ → Bool
  pub input_position : ℕ
  pub output_position : ℕ
  -- whether what a mapfile calls failed is tried again, and whether it is trimmed again
  pub try_again : Bool
  pub retrim : Bool
  -- a read is cut at a multiple of the sector; copying asks for a cluster at most, the other phases for a sector
  pub sector : ℕ
  pub cluster : ℕ
  -- how far copying jumps after a failed or slow read, and which read is slow
  pub skips : Skips
  -- which phases there are, how often retrying goes over the bad sectors, and the directions of the passes
  pub passes : Passes
  -- what may fail, and for how long, before it stops
  pub limits : Limits
  -- whether a first line says how much is asked for
  pub verbose : Bool

-- where a position is in the output
abbrev pub place : Setting → ℕ → ℕ
place s x = x - s.input_position + s.output_position

-- a setting that words can ask for: a sector isn't empty, a cluster is some whole sectors, the domain begins at
-- `input_position` or past it, and the number of a pass can be printed
pub record IsSensible (s : Setting) : Type 0 where
  pub sector : 0 < s.sector
  pub sectors : ℕ
  pub some : 0 < sectors
  pub cluster : s.cluster ≡ sectors * s.sector
  pub from : (x : ℕ) → s.domain x ≡ true → s.input_position ≤ x
  pub retries : s.passes.retries < 2 ^ 32
