-- Which files a stop of each kind leaves, folded over the record of the calls.
-- For contracts, laws and proofs: no promise uses it.
use Rattle.std.specs.Prelude.{ℕ, zero, suc, ◌+◌, ◌-◌, min, Bool, true, false, ◌&&◌, ◌||◌, nat_le, nat_lt, if◌then◌else◌, List, [], ◌∷◌, ◌++◌, length, replicate, Option, Some, None}
use Rattle.memory_site.specs.declared.memory.stop.Left.{Left}
use Rattle.memory_site.specs.declared.memory.stop.Left.TheVariants.{Oldest, Newest, Garbage}
use Rattle.crash_site.specs.Files.{File, bytes_of, empty_file, put, written_file}
use Rattle.crash_site.specs.Calls.{Call, image_open, image_read, image_write, image_sync, map_read, draft_begin, draft_append, draft_sync, draft_publish, map_settle, map_remove, Entry, Done, Failed}
use Rattle.crash_site.specs.Folder.{Folder}
use Rattle.crash_site.specs.Disk.{Disk, lost_in, at_rest, entered}
use Rattle.crash_site.specs.Left.{until}

-- the byte that is found where any may be
abbrev pub any_byte : ℕ
any_byte = 90

-- a text with other bytes
abbrev pub spoilt : Option File → Option File
spoilt None = None
spoilt (Some f) = Some (record { bytes = replicate (length f.bytes) any_byte; regular = true })

-- where a write of a file at a place begins to change it: before the place, if there is a gap
abbrev pub begins_at : Option File → ℕ → ℕ
begins_at file pos = min pos (length (bytes_of file))

-- a file with a piece written at a place, or other bytes there and in the gap before it
abbrev pub over : (garbage : Bool) → Option File → ℕ → List ℕ → File
over false file pos piece = written_file file pos piece
over true file pos piece =
    written_file file (begins_at file pos) (replicate (pos + length piece - begins_at file pos) any_byte)

-- an open makes a file if that is asked, none reads and none is left
abbrev pub opened_over : (make : Bool) → (reads left : Option File) → Option File
opened_over true None None = Some empty_file
opened_over true None (Some f) = Some f
opened_over true (Some r) left = left
opened_over false reads left = left

-- a write goes to the file that is left, or to a new one if none reads either
abbrev pub written_on : (garbage : Bool) → (reads left : Option File) → ℕ → List ℕ → Option File
written_on garbage None None pos piece = Some (over garbage None pos piece)
written_on garbage (Some r) None pos piece = None
written_on garbage reads (Some f) pos piece = Some (over garbage (Some f) pos piece)

-- a publish leaves the draft's file, or other bytes in its place if it isn't synced
abbrev pub published_as : (garbage firm : Bool) → Option File → Option File
published_as true false file = spoilt file
published_as true true file = file
published_as false firm file = file

-- files with another one under this name, if there is one
abbrev pub with_some : Option (List ℕ) → (List ℕ → Option File) → (files : List ℕ → Option File) → List ℕ → Option File
with_some None file files = files
with_some (Some name) file files = put files name (file name)

-- files moved from the name of the draft, if there is one, to this one
abbrev pub moved_to : Option (List ℕ) → List ℕ → (List ℕ → Option File) → (files : List ℕ → Option File)
    → List ℕ → Option File
moved_to None name file files = files
moved_to (Some draft) name file files = put (put files draft None) name (file draft)

-- what a call that was made leaves, with other bytes where any may be, or not
abbrev pub made_part : (garbage : Bool) → Call → (reads : Folder) → (firm : Bool) → (files : List ℕ → Option File)
    → List ℕ → Option File
made_part garbage (image_open name make) reads firm files =
    put files name (opened_over make (reads.files name) (files name))
made_part garbage (image_read pos asked answer) reads firm files = files
made_part garbage (image_write pos piece) reads firm files =
    with_some reads.image (λ n. written_on garbage (reads.files n) (files n) pos piece) files
made_part garbage image_sync reads firm files = files
made_part garbage (map_read name pos asked answer) reads firm files = files
made_part garbage (draft_begin name) reads firm files = put files name (Some empty_file)
made_part garbage (draft_append piece) reads firm files =
    with_some reads.draft (λ n. Some (record { bytes = bytes_of (reads.files n) ++ piece; regular = true })) files
made_part garbage draft_sync reads firm files = files
made_part garbage (draft_publish name) reads firm files =
    moved_to reads.draft name (λ n. published_as garbage firm (reads.files n)) files
made_part garbage (map_settle name) reads firm files = files
made_part garbage (map_remove name) reads firm files = put files name None

-- what a call leaves that was made in any part
abbrev pub left_part : Left → Call → (reads : Folder) → (firm : Bool) → (files : List ℕ → Option File)
    → List ℕ → Option File
left_part Oldest call reads firm files = files
left_part Newest call reads firm files = made_part false call reads firm files
left_part Garbage call reads firm files = made_part true call reads firm files

-- the name under which a call that returned Ok makes sure what reads
abbrev pub sure_name : Call → Folder → Option (List ℕ)
sure_name image_sync d = d.image
sure_name (map_settle name) d = Some name
sure_name call d = None

-- a place is in one of these ranges
abbrev pub lies_in : List (ℕ × ℕ) → ℕ → Bool
lies_in [] x = false
lies_in (r ∷ rs) x = (nat_le r.0 x && nat_lt x (r.0 + r.1)) || lies_in rs x

-- bytes, the first of them at a place, with other bytes wherever there is a mark
abbrev pub spoilt_from : (mark : ℕ → Bool) → ℕ → List ℕ → List ℕ
spoilt_from mark x [] = []
spoilt_from mark x (b ∷ bs) = (if mark x then any_byte else b) ∷ spoilt_from mark (suc x) bs

-- a file with other bytes wherever there is a mark, as far as it goes
abbrev pub spoilt_at : (mark : ℕ → Bool) → Option File → Option File
spoilt_at mark None = None
spoilt_at mark (Some f) = Some (record { bytes = spoilt_from mark zero f.bytes; regular = f.regular })

-- What a call that returned Ok makes sure under a name: the file as it reads. If some of an image is lost, its sync
-- doesn't make that sure, and Garbage puts other bytes there.
abbrev pub sure_file : Call → Left → Disk → List ℕ → Option File
sure_file image_sync Garbage d n = spoilt_at (lies_in (lost_in (d.shows n))) (d.reads.files n)
sure_file call kind d n = d.reads.files n

-- what a call leaves
abbrev pub left_entry : Left → Disk → Entry → (files : List ℕ → Option File) → List ℕ → Option File
left_entry kind d (Done call) files =
    with_some (sure_name call d.reads) (sure_file call kind d) (left_part kind call d.reads d.firm files)
left_entry kind d (Failed call steps) files = left_part kind call d.reads d.firm files

-- what the calls of a record leave
abbrev pub left_along : Left → Disk → (files : List ℕ → Option File) → List Entry → List ℕ → Option File
left_along kind d files [] = files
left_along kind d files (e ∷ es) = left_along kind (entered d e) (left_entry kind d e files) es

-- The files that a stop of this kind leaves if the first k calls of the record have returned and the next, if there is
-- one, is in progress.
abbrev pub files_left : Left → Folder → List Entry → ℕ → List ℕ → Option File
files_left kind start calls k = left_along kind (at_rest start) start.files (until k calls)
