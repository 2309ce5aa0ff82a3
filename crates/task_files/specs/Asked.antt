-- What a command asks for of an input.
use Rattle.std.specs.Prelude.{ℕ, Bool, List, Option, Some, None, is_some, unwrap_or, option_map}
use Rattle.run_options.specs.declared.skips.Skips.{Skips}
use Rattle.mapfile_save.specs.MapNames.{MapNames, names_of, names_in}
use Rattle.block_list.specs.declared.status.Status.{Status}
use Rattle.rescue_domain.specs.Domain.{whole_domain, in_map, listed_in}
use Rattle.rescue_domain.specs.Places.{place_from, AreAllPlaced, IsAnyBeyond}
use Rattle.rescue_rules.specs.Setting.{Setting}
use Rattle.ddrescue_words.specs.declared.options.Options.{Options}
use Rattle.ddrescue_words.specs.Options.{cluster_of, in_sectors}
use Rattle.ddrescue_words.specs.Command.{Command}

-- the place of a position in the output
abbrev pub place_by : Options → ℕ → ℕ
place_by o x = place_from o.input_position (unwrap_or o.output_position o.input_position) x

-- each position that is asked for of an input with this length ends in the output below 2^63
abbrev pub ArePlacedBy : Options → (end : ℕ) → Type 0
ArePlacedBy o end = AreAllPlaced (whole_domain o.input_position o.size end) o.input_position
    (unwrap_or o.output_position o.input_position)

-- a position that is asked for of an input with this length would end in the output at 2^63 or past it
abbrev pub IsBeyond : Options → (end : ℕ) → Type 0
IsBeyond o end = IsAnyBeyond (whole_domain o.input_position o.size end) o.input_position
    (unwrap_or o.output_position o.input_position)

-- What maps say of the positions that are to be rescued: the statuses of the domain map and of the test map, if they
-- are named. If only the positions that the mapfile lists are to be rescued: where these begin and end.
pub record Maps : Type 0 where
  pub domain : Option (List Status)
  pub test : Option (List Status)
  pub listed : Option (ℕ × ℕ)

-- no map says anything of the positions
abbrev pub no_maps : Maps
no_maps = record { domain = None; test = None; listed = None }

-- the positions from one on, below another, if these are given
abbrev pub in_list : (ℕ → Bool) → Option (ℕ × ℕ) → ℕ → Bool
in_list domain None = domain
in_list domain (Some k) = listed_in domain k.0 k.1

-- The domain that options and maps ask for of an input with this length: each position of the input from the input
-- position on, and no more than the size. Of these, it is what is finished in the domain map, and what the mapfile
-- lists.
abbrev pub domain_asked : Options → (end : ℕ) → Maps → ℕ → Bool
domain_asked o end maps = in_list (in_map (whole_domain o.input_position o.size end) maps.domain) maps.listed

-- the skips of copying, in whole sectors
abbrev pub skips_asked : Options → Skips
skips_asked o = record { first = in_sectors o o.skip; most = in_sectors o o.skip_max; min_rate = o.min_rate }

-- what files with these names, this command line, these options and these maps ask for of an input with this length
abbrev pub setting_asked : (infile outfile : List ℕ) → Option MapNames → (line : List ℕ) → Options → (end : ℕ) → Maps
    → Setting
setting_asked infile outfile names line o end maps = record {
  infile = infile;
  outfile = outfile;
  forced = o.forced;
  has_mapfile = is_some names;
  names = names_in names;
  line = line;
  end = end;
  domain = domain_asked o end maps;
  input_position = o.input_position;
  output_position = unwrap_or o.output_position o.input_position;
  try_again = o.try_again;
  retrim = o.retrim;
  sector = o.sector;
  cluster = cluster_of o;
  skips = skips_asked o;
  passes = o.passes;
  limits = o.limits;
  verbose = o.verbose;
}

-- the names of the mapfile and its draft, if there is a mapfile
abbrev pub names_by : Command → Option MapNames
names_by c = option_map names_of c.mapfile

-- what a command asks for of an input with this length, by the maps that it names
abbrev pub setting_of : Command → (line : List ℕ) → (end : ℕ) → Maps → Setting
setting_of c line end maps = setting_asked c.infile c.outfile (names_by c) line c.options end maps
