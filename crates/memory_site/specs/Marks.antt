-- Which bytes of the newest version under each name aren't durable, and which of them are lost, as a site marks them.
-- For contracts and proofs: no promise uses it.
use Rattle.std.specs.Prelude.{◌≡◌, ℕ, Bool, true, false, nat_lt, List, length, replicate, Option, Some, None, slice_index_or}
use Rattle.memory_site.specs.declared.memory.marks.Marks.{Marks}
use Rattle.memory_site.specs.declared.memory.stop.Left.{Left}
use Rattle.memory_site.specs.declared.memory.stop.Left.TheVariants.{Garbage}
use Rattle.crash_site.specs.Files.{File, bytes_of, draft_of, put, written_file}
use Rattle.crash_site.specs.Calls.{Call, image_open, image_write, image_sync, draft_publish, map_settle, map_remove}
use Rattle.crash_site.specs.Folder.{Folder}
use Rattle.crash_site.specs.Disk.{Version, Disk, newest}
use Rattle.memory_site.specs.MemoryFolder.{folder_of}
use Rattle.memory_site.specs.FilesLeft.{lies_in, spoilt_at}

-- Marks under each name: of the bytes that aren't durable, and of those that are lost. A byte that isn't 0 marks its
-- place.
pub record Marked : Type 0 where
  pub loose : List ℕ → Option File
  pub lost : List ℕ → Option File

-- a place is marked
abbrev pub is_marked : Option File → ℕ → Bool
is_marked marks x = nat_lt 0 (slice_index_or (bytes_of marks) x 0)

-- the marks that folders in memory keep
abbrev pub marked_of : Marks → Marked
marked_of m = record { loose = (folder_of m.loose).files; lost = (folder_of m.lost).files }

-- marks with this byte at each place of a range
abbrev pub with_marks : (mark pos len : ℕ) → Option File → Option File
with_marks mark pos len marks = Some (written_file marks pos (replicate len mark))

-- marks changed under a name, if there is one
abbrev pub marked_at : Option (List ℕ) → (List ℕ → Marked → Marked) → Marked → Marked
marked_at None change m = m
marked_at (Some name) change m = change name m

-- a file was made, published or removed under a name
abbrev pub cleared : List ℕ → Marked → Marked
cleared name m = record { loose = put m.loose name None; lost = put m.lost name None }

-- a file was made under a name if none read there
abbrev pub cleared_if_absent : Option File → List ℕ → Marked → Marked
cleared_if_absent None name m = cleared name m
cleared_if_absent (Some f) name m = m

-- a range was written
abbrev pub range_loose : (pos len : ℕ) → List ℕ → Marked → Marked
range_loose pos len name m = record {
  loose = put m.loose name (with_marks 1 pos len (m.loose name));
  lost = put m.lost name (with_marks 0 pos len (m.lost name));
}

-- a write of a range failed
abbrev pub range_lost : (pos len : ℕ) → List ℕ → Marked → Marked
range_lost pos len name m =
    record { loose = m.loose; lost = put m.lost name (with_marks 1 pos len (m.lost name)) }

-- a sync failed: what isn't durable is lost
abbrev pub all_lost : List ℕ → Marked → Marked
all_lost name m = record { loose = m.loose; lost = put m.lost name (m.loose name) }

-- a sync returned: what is lost isn't durable, and all else is
abbrev pub lost_loose : List ℕ → Marked → Marked
lost_loose name m = record { loose = put m.loose name (m.lost name); lost = m.lost }

-- a range was written, of a file that was made if none read
abbrev pub range_written : Folder → (pos len : ℕ) → List ℕ → Marked → Marked
range_written reads pos len name m =
    range_loose pos len name (cleared_if_absent (reads.files name) name m)

-- the marks after a call that was made in any part
abbrev pub part_marked : Call → (reads : Folder) → Marked → Marked
part_marked (image_open name true) reads m = cleared_if_absent (reads.files name) name m
part_marked (image_open name false) reads m = m
part_marked (image_write pos piece) reads m = marked_at reads.image (range_written reads pos (length piece)) m
part_marked (draft_publish name) reads m = marked_at reads.draft (λ draft. cleared name) m
part_marked (map_settle name) reads m = cleared_if_absent (reads.files (draft_of name)) (draft_of name) m
part_marked (map_remove name) reads m = cleared name m
part_marked call reads m = m

-- the marks after a call that returned Ok, from those after it was made in any part
abbrev pub return_marked : Call → (reads : Folder) → Marked → Marked
return_marked image_sync reads m = marked_at reads.image lost_loose m
return_marked (map_settle name) reads m = cleared name m
return_marked call reads m = m

-- the marks after a call that failed, from those after it was made in any part
abbrev pub failed_marked : Call → (reads : Folder) → Marked → Marked
failed_marked (image_write pos piece) reads m = marked_at reads.image (range_lost pos (length piece)) m
failed_marked image_sync reads m = marked_at reads.image all_lost m
failed_marked call reads m = m

-- the marks of a version's loose and lost ranges
pub record AreMarksOf (v : Version) (loose_marks lost_marks : Option File) : Type 0 where
  pub loose : (x : ℕ) → lies_in v.loose x ≡ is_marked loose_marks x
  pub lost : (x : ℕ) → lies_in v.lost x ≡ is_marked lost_marks x

-- the marks of the newest version under each name
abbrev pub FollowDisk : Disk → Marked → Type 0
FollowDisk d m = (n : List ℕ) → AreMarksOf (newest (d.shows n).durable (d.shows n).since) (m.loose n) (m.lost n)

-- what a call that returned Ok makes sure under a name, by the marks of what is lost
abbrev pub sure_marked : Call → Left → (reads : Folder) → (lost : List ℕ → Option File) → List ℕ → Option File
sure_marked image_sync Garbage reads lost n = spoilt_at (is_marked (lost n)) (reads.files n)
sure_marked call kind reads lost n = reads.files n
