use Rattle.std.proofs.Common.{take, ◌≡◌, List, ℕ, Option}
use Rattle.crash_site.specs.Files.{File}
use Rattle.crash_site.specs.Disk.{Disk, at_rest, disk_after}
use Rattle.memory_site.specs.FilesLeft.{left_along}
use Rattle.memory_site.specs.declared.memory.stop.Left.{Left}
use Rattle.memory_site.specs.declared.memory.stop.Replay.{Replay}
use Rattle.memory_site.specs.MemoryFolder.{folder_of}
use Rattle.memory_site.specs.CallLog.{entries_of}
use Rattle.memory_site.specs.Stopped.{Replays}
use Rattle.memory_site.proofs.memory.stop.left_at.Given as goal

-- the calls so far were made again
pub record SoFar (replay : Replay) (asked : Left) (d : Disk) (files : List ℕ → Option File) : Type 0 where
  pub replays : Replays replay d files
  pub kind : replay.kind ≡ asked

abbrev pub invariant-loop-i : goal.invariant-loop-i
invariant-loop-i l = SoFar l.replay l.fn.kind (disk_after (at_rest (folder_of l.start)) (take l.i (entries_of l.log)))
    (left_along l.fn.kind (at_rest (folder_of l.start)) (folder_of l.start).files (take l.i (entries_of l.log)))
