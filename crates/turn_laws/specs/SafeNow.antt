-- What makes a run safe, stated of its files as they are.
use Rattle.std.specs.Prelude.{◌≡◌, ℕ, ◌≤◌, ◌<◌, true, false, List, [], length, Option, Some}
use Rattle.block_list.specs.declared.status.Status.{Status}
use Rattle.block_list.specs.declared.status.Status.TheVariants.{Finished}
use Rattle.block_list.specs.Map.{Has}
use Rattle.faulty_source.specs.Journal.{Reading}
use Rattle.crash_site.specs.Files.{File}
use Rattle.crash_site.specs.Disk.{Disk}
use Rattle.crash_site.specs.Left.{IsLoose, MayShow}
use Rattle.rescue_rules.specs.Setting.{Setting, place}
use Rattle.rescue_rules.specs.Held.{Held}
use Rattle.rescue_rules.specs.Machine.{Machine}
use Rattle.turn_laws.specs.Safe.{HasMap}

-- no range lies where a map promises a byte of an output with these bytes at the start
pub record IsClear (s : Setting) (start : List ℕ) (map : List Status) (ranges : List (ℕ × ℕ)) : Type 0 where
  pub firm : (x : ℕ) → s.domain x ≡ true → Has map Finished x → IsLoose ranges (place s x) → ⊥
  pub outside : (y : ℕ) → y < length start → ((x : ℕ) → s.domain x ≡ true → place s x ≡ y → ⊥) → IsLoose ranges y → ⊥

-- By the bytes that the output had at the start, and the reads so far:
module _ (s : Setting) (start : List ℕ) (reads : List Reading) where
  -- A mapfile that may be found has a map; what this calls finished, the current map does. The output that was synced
  -- holds what it promises, and no range written since lies where it promises a byte.
  pub record IsBacked (now : List Status) (synced : List ℕ) (loose : List (ℕ × ℕ)) (mapfile : Option File)
      : Type 0 where
    pub map : List Status
    pub has : HasMap s mapfile map
    pub fewer : (x : ℕ) → s.domain x ≡ true → Has map Finished x → Has now Finished x
    pub held : Held s reads start map synced
    pub clear : IsClear s start map loose

  -- The output is open, and one file of it was synced. As it reads it is no shorter than at the start, and holds what
  -- the current map promises, of which nothing is lost. Each mapfile that may be found is backed. A draft may be begun,
  -- or not.
  pub record IsSafeNow (m : Machine) (d : Disk) : Type 0 where
    pub image : d.reads.image ≡ Some s.outfile
    pub synced : File
    pub loose : List (ℕ × ℕ)
    pub lost : List (ℕ × ℕ)
    pub shows : d.shows s.outfile
        ≡ record {
          durable = record { file = Some synced; loose = loose; lost = lost };
          since = [];
          any_text = false;
          anything = false;
        }
    pub now : File
    pub reads_as : d.reads.files s.outfile ≡ Some now
    pub longer : length start ≤ length now.bytes
    pub current : Held s reads start m.map now.bytes
    pub unlost : IsClear s start m.map lost
    pub maps : (mapfile : Option File) → MayShow (d.shows s.names.map) mapfile
        → IsBacked m.map synced.bytes loose mapfile
