-- Which ranges of the files that a stop leaves aren't synced, folded over the record of the calls.
-- For contracts, laws and proofs: no promise uses it.
use Rattle.std.specs.Prelude.{ℕ, ◌+◌, ◌-◌, Bool, true, false, List, [], ◌∷◌, length, Option, Some, None, if◌then◌else◌}
use Rattle.std.specs.Str.{bytes_eq}
use Rattle.memory_site.specs.declared.memory.stop.Left.TheVariants.{Newest}
use Rattle.crash_site.specs.Files.{File, bytes_of}
use Rattle.crash_site.specs.Calls.{Call, Entry, Done, Failed, image_open, image_read, image_write, image_sync, map_read, draft_begin, draft_append, draft_sync, draft_publish, map_settle, map_remove}
use Rattle.crash_site.specs.Folder.{Folder}
use Rattle.crash_site.specs.Disk.{Disk, lost_in, at_rest, entered}
use Rattle.crash_site.specs.Left.{until}
use Rattle.memory_site.specs.FilesLeft.{begins_at, sure_name, left_entry}

-- ranges by name, with others under one
abbrev pub with_ranges : List ℕ → List (ℕ × ℕ) → (List ℕ → List (ℕ × ℕ)) → List ℕ → List (ℕ × ℕ)
with_ranges name ranges unsynced n = if bytes_eq n name then ranges else unsynced n

-- ranges by name, with others under one, if there is a name
abbrev pub ranges_at : Option (List ℕ) → (List ℕ → List (ℕ × ℕ)) → (List ℕ → List (ℕ × ℕ)) → List ℕ → List (ℕ × ℕ)
ranges_at None ranges unsynced = unsynced
ranges_at (Some name) ranges unsynced = with_ranges name (ranges name) unsynced

-- the ranges of a file that an open leaves: none of one that it made
abbrev pub opened_ranges : (make : Bool) → (reads left : Option File) → List (ℕ × ℕ) → List (ℕ × ℕ)
opened_ranges true None None ranges = []
opened_ranges true None (Some f) ranges = ranges
opened_ranges true (Some r) left ranges = ranges
opened_ranges false reads left ranges = ranges

-- a write makes its range unsynced, and the gap before it
abbrev pub written_ranges : (reads left : Option File) → ℕ → List ℕ → List (ℕ × ℕ) → List (ℕ × ℕ)
written_ranges None None pos piece ranges =
    (begins_at None pos, pos + length piece - begins_at None pos) ∷ []
written_ranges (Some r) None pos piece ranges = ranges
written_ranges reads (Some f) pos piece ranges =
    (begins_at (Some f) pos, pos + length piece - begins_at (Some f) pos) ∷ ranges

-- all of a text is unsynced that is published without a sync
abbrev pub text_ranges : (firm : Bool) → Option File → List (ℕ × ℕ)
text_ranges true file = []
text_ranges false file = (0, length (bytes_of file)) ∷ []

-- ranges moved from the name of the draft, if there is one, to this one
abbrev pub ranges_moved : Option (List ℕ) → List ℕ → (List ℕ → List (ℕ × ℕ)) → (List ℕ → List (ℕ × ℕ)) → List ℕ
    → List (ℕ × ℕ)
ranges_moved None name ranges unsynced = unsynced
ranges_moved (Some draft) name ranges unsynced = with_ranges name (ranges draft) (with_ranges draft [] unsynced)

-- the ranges that aren't synced of each file that a call leaves which was made in any part
abbrev pub part_unsynced : Call → (reads : Folder) → (firm : Bool) → (files : List ℕ → Option File)
    → (List ℕ → List (ℕ × ℕ)) → List ℕ → List (ℕ × ℕ)
part_unsynced (image_open name make) reads firm files unsynced =
    with_ranges name (opened_ranges make (reads.files name) (files name) (unsynced name)) unsynced
part_unsynced (image_read pos asked answer) reads firm files unsynced = unsynced
part_unsynced (image_write pos piece) reads firm files unsynced =
    ranges_at reads.image (λ n. written_ranges (reads.files n) (files n) pos piece (unsynced n)) unsynced
part_unsynced image_sync reads firm files unsynced = unsynced
part_unsynced (map_read name pos asked answer) reads firm files unsynced = unsynced
part_unsynced (draft_begin name) reads firm files unsynced = with_ranges name [] unsynced
part_unsynced (draft_append piece) reads firm files unsynced = ranges_at reads.draft (λ n. []) unsynced
part_unsynced draft_sync reads firm files unsynced = unsynced
part_unsynced (draft_publish name) reads firm files unsynced =
    ranges_moved reads.draft name (λ n. text_ranges firm (reads.files n)) unsynced
part_unsynced (map_settle name) reads firm files unsynced = unsynced
part_unsynced (map_remove name) reads firm files unsynced = with_ranges name [] unsynced

-- the ranges that aren't synced under a name that a call made sure which returned Ok: those of the image that are lost
abbrev pub sure_ranges : Call → Disk → List ℕ → List (ℕ × ℕ)
sure_ranges image_sync d n = lost_in (d.shows n)
sure_ranges call d n = []

-- the ranges that aren't synced after a call
abbrev pub entry_unsynced : Disk → Entry → (files : List ℕ → Option File) → (List ℕ → List (ℕ × ℕ)) → List ℕ
    → List (ℕ × ℕ)
entry_unsynced d (Done call) files unsynced =
    ranges_at (sure_name call d.reads) (sure_ranges call d) (part_unsynced call d.reads d.firm files unsynced)
entry_unsynced d (Failed call steps) files unsynced = part_unsynced call d.reads d.firm files unsynced

-- the ranges that aren't synced after the calls of a record
abbrev pub along_unsynced : Disk → (files : List ℕ → Option File) → (List ℕ → List (ℕ × ℕ)) → List Entry → List ℕ
    → List (ℕ × ℕ)
along_unsynced d files unsynced [] = unsynced
along_unsynced d files unsynced (e ∷ es) =
    along_unsynced (entered d e) (left_entry Newest d e files) (entry_unsynced d e files unsynced) es

-- the ranges that aren't synced of each file if the first k calls have returned and the next is in progress
abbrev pub unsynced_at : Folder → List Entry → ℕ → List ℕ → List (ℕ × ℕ)
unsynced_at start calls k = along_unsynced (at_rest start) start.files (λ n. []) (until k calls)
