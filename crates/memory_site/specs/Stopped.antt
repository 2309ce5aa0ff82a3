-- How a site in memory finds the files that a stop leaves: it makes its calls again.
-- For contracts and proofs: no promise uses it.
use Rattle.std.specs.Prelude.{◌≡◌, ℕ, List, Option}
use Rattle.memory_site.specs.declared.memory.stop.Replay.{Replay}
use Rattle.crash_site.specs.Files.{File}
use Rattle.crash_site.specs.Disk.{Disk}
use Rattle.memory_site.specs.Marks.{marked_of, FollowDisk}
use Rattle.memory_site.specs.MemoryFolder.{folder_of}

-- the calls of a disk were made again, and left these files
pub record Replays (r : Replay) (d : Disk) (files : List ℕ → Option File) : Type 0 where
  pub reads : d.reads ≡ folder_of r.reads
  pub firm : d.firm ≡ r.firm
  pub marks : FollowDisk d (marked_of r.marks)
  pub left : (folder_of r.left).files ≡ files
