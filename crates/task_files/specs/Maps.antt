-- The maps that the options of a rescue name, and what they stand for.
use Rattle.std.specs.Prelude.{◌≡◌, ℕ, ◌≤◌, Bool, true, false, List, length, map, Option, Some, None, is_some}
use Rattle.block_list.specs.declared.status.Status.{Status}
use Rattle.mapfile_text.specs.declared.state.MapState.{MapState}
use Rattle.mapfile_text.specs.declared.read.Mode.{Mode}
use Rattle.mapfile_text.specs.declared.read.Mode.TheVariants.{Tight}
use Rattle.mapfile_text.specs.MapText.{text_limit, IsMapText, Blank}
use Rattle.faulty_source.specs.Journal.{Reading}
use Rattle.crash_site.specs.Files.{File, file_named}
use Rattle.mapfile_resume.specs.Named.{map_mode, IsMapOf}
use Rattle.rescue_domain.specs.Testing.{seen}
use Rattle.ddrescue_words.specs.Command.{Command}
use Rattle.task_files.specs.Asked.{Maps}

-- The positions that a mapfile lists, from the first block's beginning up to the last one's end. A mapfile without
-- blocks, one of comments and blank lines alone, and an absent one list no position.
pub data MapfileLists (mapfile : Option File) (first end : ℕ) : Type 0 where
  NoFile : mapfile ≡ None → first ≡ 0 → end ≡ 0 → MapfileLists mapfile first end
  NoText : (there : File) → mapfile ≡ Some there → Blank there.bytes → first ≡ 0 → end ≡ 0
      → MapfileLists mapfile first end
  Blocks : (there : File) → mapfile ≡ Some there → length there.bytes ≤ text_limit
      → (shown : MapState) → (listed : Bool) → (statuses : List Status)
      → IsMapText there.bytes Tight shown first listed statuses → end ≡ length statuses → MapfileLists mapfile first end

-- the mapfile of a command among files, if there is one
abbrev pub mapfile_of : Command → (List ℕ → Option File) → Option File
mapfile_of c files = file_named c.mapfile files

-- There is a map only if an option asks for it.
pub record AreAskedFor (c : Command) (maps : Maps) : Type 0 where
  pub domain : c.domain_map ≡ None → maps.domain ≡ None
  pub test : c.test_map ≡ None → maps.test ≡ None
  pub whole : c.options.complete_only ≡ false → maps.listed ≡ None

-- the files that steps of the work found, each at its own moment
pub record Found : Type 0 where
  pub domain : Option File
  pub test : Option File
  pub output : Option File
  pub mapfile : Option File

-- what a command finds among files that don't change
abbrev pub found_in : Command → (List ℕ → Option File) → Found
found_in c files = record {
  domain = file_named c.domain_map files;
  test = file_named c.test_map files;
  output = files c.outfile;
  mapfile = mapfile_of c files;
}

-- a map that an option names has the statuses that its file has, if it has some
abbrev pub IsNamedMap : (name : Option (List ℕ)) → Mode → Option File → (statuses : Option (List Status)) → Type 0
IsNamedMap name mode file statuses =
    (map : List Status) → is_some name ≡ true → IsMapOf file mode map → statuses ≡ Some map

-- what the mapfile lists, if that is asked for
abbrev pub IsListing : Command → (mapfile : Option File) → (listed : Option (ℕ × ℕ)) → Type 0
IsListing c mapfile listed =
    (first end : ℕ) → c.options.complete_only ≡ true → MapfileLists mapfile first end → listed ≡ Some (first, end)

-- The maps are what the files are that were found. If a file isn't there or is no map, the maps may be any: then the
-- rescue is refused.
pub record AreMapsIn (c : Command) (found : Found) (maps : Maps) : Type 0 where
  pub domain : IsNamedMap c.domain_map (map_mode c.options.loose) found.domain maps.domain
  pub test : IsNamedMap c.test_map (map_mode c.options.loose) found.test maps.test
  pub listed : IsListing c found.mapfile maps.listed

-- reads as they are seen: in test mode each gives what comes before the first position that isn't finished in the test
-- map
abbrev pub seen_through : Option (List Status) → List Reading → List Reading
seen_through None reads = reads
seen_through (Some test) reads = map (seen test) reads
