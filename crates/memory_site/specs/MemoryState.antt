-- What a site in memory tells of itself. For contracts and proofs: no promise uses it.
use Rattle.std.specs.Prelude.{ℕ, true, List, Option, is_some}
use Rattle.memory_site.specs.declared.memory.MemorySite.{MemorySite}
use Rattle.crash_site.specs.SiteState.{SiteState}
use Rattle.memory_site.specs.MemoryFolder.{name_of, folder_of}
use Rattle.memory_site.specs.CallLog.{entries_of}

-- the name of its open image
abbrev pub open_image_name : MemorySite → Option (List ℕ)
open_image_name s = name_of s.folder.image

-- the name of its begun draft
abbrev pub begun_draft : MemorySite → Option (List ℕ)
begun_draft s = name_of s.folder.draft

-- what it tells of itself
abbrev pub state_of : MemorySite → SiteState
state_of s = record {
  tells = true;
  start = folder_of s.start;
  calls = entries_of s.log;
  is_open = is_some (open_image_name s);
  is_drafting = is_some (begun_draft s);
  faults = s.log.faults;
  is_scheduled = true;
  schedule = s.log.schedule;
  starved = s.log.starving;
}
