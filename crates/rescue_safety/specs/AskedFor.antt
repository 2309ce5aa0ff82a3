-- What options change of a rescue: the reads that it saw, and the positions that are asked for.
use Rattle.std.specs.Prelude.{◌≡◌, ℕ, ◌+◌, ◌<◌, ◌≤◌, true, List, [], length, map, Some, None, IfSome}
use Rattle.block_list.specs.declared.status.Status.{Status}
use Rattle.block_list.specs.declared.status.Status.TheVariants.{Finished}
use Rattle.block_list.specs.Map.{Has}
use Rattle.faulty_source.specs.Journal.{Reading}
use Rattle.mapfile_resume.specs.Named.{map_mode, IsMapOf}
use Rattle.rescue_domain.specs.Testing.{seen}
use Rattle.task_files.specs.Maps.{MapfileLists, mapfile_of}
use Rattle.rescue_safety.specs.Rescue.{Rescue, files_at_first}

-- The reads as the rescue saw them, if there was one: as they were; or, with a test map, each gave only what comes
-- before the first position that isn't finished in that map.
pub data AreSeen (r : Rescue) (reads : List Reading) : Type 0 where
  NoRead : r.did.reads ≡ [] → reads ≡ [] → AreSeen r reads
  Untested : r.command.test_map ≡ None → reads ≡ r.did.reads → AreSeen r reads
  Tested : (name : List ℕ) (statuses : List Status) → r.command.test_map ≡ Some name
      → IsMapOf (files_at_first r name) (map_mode r.command.options.loose) statuses
      → reads ≡ map (seen statuses) r.did.reads
      → AreSeen r reads

-- The position x is asked for: it lies in the input, at the input position or past it, within the size. With a domain
-- map it is finished there. If only what the mapfile lists is asked for, the mapfile lists it.
pub record IsAskedFor (r : Rescue) (x : ℕ) : Type 0 where
  pub from : r.command.options.input_position ≤ x
  pub within : x < length r.did.call.told.before.source.bytes
  pub size : IfSome r.command.options.size (λ n. x < r.command.options.input_position + n)
  pub domain : (name : List ℕ) (statuses : List Status) → r.command.domain_map ≡ Some name
      → IsMapOf (files_at_first r name) (map_mode r.command.options.loose) statuses → Has statuses Finished x
  pub listed : (first end : ℕ) → r.command.options.complete_only ≡ true
      → MapfileLists (mapfile_of r.command (files_at_first r)) first end → (first ≤ x) × (x < end)
