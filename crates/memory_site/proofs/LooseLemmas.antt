-- The ranges that aren't synced are those of the version that is found.
use Rattle.std.proofs.Common.{◌≡◌, inl, inr, ⊎_elim, ℕ, ◌+◌, ◌-◌, ◌≤◌, ◌<◌, min, max, Bool, true, false, cond, List, [], ◌∷◌, ◌++◌, length, map, Option, Some, None, refl, sym, subst, arith}
use Rattle.std.specs.Str.{bytes_eq}
use Rattle.std.proofs.lemmas.Bool.{cases_lt}
use Rattle.memory_site.specs.declared.memory.stop.Left.TheVariants.{Newest}
use Rattle.crash_site.specs.Files.{File, empty_file, draft_of, bytes_of, put, written}
use Rattle.crash_site.specs.Calls.{Call, Entry, Done, Failed, image_open, image_read, image_write, image_sync, map_read, draft_begin, draft_append, draft_sync, draft_publish, map_settle, map_remove}
use Rattle.crash_site.specs.Folder.{Folder}
use Rattle.crash_site.specs.Disk.{Version, Showing, Disk, lost_in, lose, lose_all, in_each, synced, lost_by, whole, only, at_rest, or_this, loosen, loosened, with_range, with_opened, under, under_some, with_draft, with_text, publishing, after_part, after_return, entered, disk_after}
use Rattle.crash_site.specs.Left.{IsLoose, MatchesFile, until}
use Rattle.memory_site.specs.FilesLeft.{opened_over, written_on, published_as, with_some, moved_to, made_part, left_entry, left_along, files_left}
use Rattle.memory_site.specs.Unsynced.{with_ranges, ranges_at, opened_ranges, written_ranges, text_ranges, ranges_moved, part_unsynced, entry_unsynced, along_unsynced, unsynced_at}
use Rattle.memory_site.specs.LeftLaws.{IsUnsure, IsUnsyncedOf, IsUnsyncedOfOne, IsWholeUnsynced, MayBeUnsynced}
use Rattle.crash_site.proofs.Written.{length-written}
use Rattle.crash_site.proofs.DiskLemmas.{holds_self, holds_more, version_written, same_name}

-- a version as it was made

sure_inside : (o : Option File) (x : ℕ) → x < length (bytes_of o) → IsUnsure (whole o) x → IsLoose [] x
sure_inside o x lt (inl l) = l
sure_inside o x lt (inr le) = absurd (omega (arith, lt, le))

self_unsynced : (o : Option File) → IsUnsyncedOf (whole o) o []
self_unsynced o =
    record { matches = holds_self o []; all = λ x lt u. sure_inside o x lt u; alone = λ x lt l. absurd l }

-- A write of a version.

range_inside : (size pos len x : ℕ) → size ≤ x → x < max size (pos + len)
    → (min pos size ≤ x) × (x < min pos size + (pos + len - min pos size))
range_inside size pos len x le lt = (omega (arith, le), omega (arith, le, lt))

version_size : (o : Option File) (loose : List (ℕ × ℕ)) (g : File) → MatchesFile o loose (Some g)
    → length (bytes_of o) ≤ length g.bytes
version_size None loose g h = absurd h
version_size (Some f) loose g h = h.no_shorter

grown_all : (v : Version) (g : File) (pos len x : ℕ) (ranges : List (ℕ × ℕ)) → IsUnsyncedOf v (Some g) ranges
    → x < max (length g.bytes) (pos + len) → IsUnsure (loosen pos len v) x
    → IsLoose ((min pos (length g.bytes), pos + len - min pos (length g.bytes)) ∷ ranges) x
grown_all v g pos len x ranges h lt (inl (inl l)) = inl (omega (arith, l.0), omega (arith, l.0, l.1))
grown_all v g pos len x ranges h lt (inl (inr l)) = elim (cases_lt x (length g.bytes)) [
  | inl below ↦ inr (h.all x below (inl l))
  | inr le ↦ inl (range_inside (length g.bytes) pos len x le lt)
]
grown_all v g pos len x ranges h lt (inr l) = elim (cases_lt x (length g.bytes)) [
  | inl below ↦ inr (h.all x below (inr l))
  | inr le ↦ inl (range_inside (length g.bytes) pos len x le lt)
]

still_unsure : (v : Version) (pos len x : ℕ) → IsUnsure v x → IsUnsure (loosen pos len v) x
still_unsure v pos len x (inl l) = inl (inr l)
still_unsure v pos len x (inr le) = inr le

grown_alone : (v : Version) (g : File) (pos len x : ℕ) (ranges : List (ℕ × ℕ)) → IsUnsyncedOf v (Some g) ranges
    → IsLoose ((min pos (length g.bytes), pos + len - min pos (length g.bytes)) ∷ ranges) x
    → IsUnsure (loosen pos len v) x
grown_alone v g pos len x ranges h (inl l) =
    let size = version_size v.file v.loose g h.matches in
    elim (cases_lt x pos) [
      | inl before ↦ inr (omega (arith, l.0, before, size))
      | inr le ↦ inl (inl (le, omega (arith, l.0, l.1, le)))
    ]
grown_alone v g pos len x ranges h (inr l) = elim (cases_lt x (length g.bytes)) [
  | inl below ↦ still_unsure v pos len x (h.alone x below l)
  | inr le ↦ inr (omega (arith, le, version_size v.file v.loose g h.matches))
]

version_unsynced : (v : Version) (g : File) (pos : ℕ) (piece : List ℕ) (ranges : List (ℕ × ℕ))
    → IsUnsyncedOf v (Some g) ranges
    → IsUnsyncedOf (loosen pos (length piece) v)
    (Some (record { bytes = written g.bytes pos piece; regular = g.regular }))
    ((min pos (length g.bytes), pos + length piece - min pos (length g.bytes)) ∷ ranges)
version_unsynced v g pos piece ranges h = record {
  matches = version_written v.file v.loose g pos (length piece) pos piece
      (record { end = omega arith; from = omega arith; gap = omega arith }) h.matches;
  all = λ x lt u. grown_all v g pos (length piece) x ranges h (omega (arith, lt, length-written g.bytes pos piece)) u;
  alone = λ x lt l. grown_alone v g pos (length piece) x ranges h l;
}

one_unsynced : (vs : List Version) (g : File) (pos : ℕ) (piece : List ℕ) (ranges : List (ℕ × ℕ))
    → IsUnsyncedOfOne vs (Some g) ranges
    → IsUnsyncedOfOne (map (loosen pos (length piece)) vs)
    (Some (record { bytes = written g.bytes pos piece; regular = g.regular }))
    ((min pos (length g.bytes), pos + length piece - min pos (length g.bytes)) ∷ ranges)
one_unsynced [] g pos piece ranges h = absurd h
one_unsynced (v ∷ vs) g pos piece ranges (inl h) = inl (version_unsynced v g pos piece ranges h)
one_unsynced (v ∷ vs) g pos piece ranges (inr h) = inr (one_unsynced vs g pos piece ranges h)

whole_unsynced : (g : File) (pos : ℕ) (piece : List ℕ) (ranges : List (ℕ × ℕ)) → IsWholeUnsynced (Some g) ranges
    → IsWholeUnsynced (Some (record { bytes = written g.bytes pos piece; regular = g.regular }))
    ((min pos (length g.bytes), pos + length piece - min pos (length g.bytes)) ∷ ranges)
whole_unsynced g pos piece ranges h = λ x lt. elim (cases_lt x (length g.bytes)) [
  | inl below ↦ inr (h x below)
  | inr le ↦ inl (range_inside (length g.bytes) pos (length piece) x le
      (omega (arith, lt, length-written g.bytes pos piece)))
]

there_unsynced : (s : Showing) (g : File) (pos : ℕ) (piece : List ℕ) (ranges : List (ℕ × ℕ))
    → MayBeUnsynced s (Some g) ranges
    → MayBeUnsynced (loosened pos (length piece) s)
    (Some (record { bytes = written g.bytes pos piece; regular = g.regular }))
    ((min pos (length g.bytes), pos + length piece - min pos (length g.bytes)) ∷ ranges)
there_unsynced s g pos piece ranges (inl h) = inl h
there_unsynced s g pos piece ranges (inr (inl h)) = inr (inl (h.0, whole_unsynced g pos piece ranges h.1))
there_unsynced s g pos piece ranges (inr (inr h)) =
    inr (inr (one_unsynced (s.durable ∷ s.since) g pos piece ranges h))

-- A write where no file is.

outside_none : {P : Type 0} (x : ℕ) → x < length (bytes_of None) → P
outside_none x lt = absurd (let below : x < 0 = lt in omega (arith, below))

one_gone : (vs : List Version) (pos len : ℕ) (ranges : List (ℕ × ℕ)) → IsUnsyncedOfOne vs None ranges
    → IsUnsyncedOfOne (map (loosen pos len) vs) None ranges
one_gone [] pos len ranges h = absurd h
one_gone (v ∷ vs) pos len ranges (inl h) = inl (record {
  matches = holds_more v.file (pos, len) v.loose None h.matches;
  all = λ x lt u. outside_none x lt;
  alone = λ x lt l. outside_none x lt;
})
one_gone (v ∷ vs) pos len ranges (inr h) = inr (one_gone vs pos len ranges h)

gone_unsynced : (s : Showing) (pos len : ℕ) (ranges : List (ℕ × ℕ)) → MayBeUnsynced s None ranges
    → MayBeUnsynced (loosened pos len s) None ranges
gone_unsynced s pos len ranges (inl h) = inl h
gone_unsynced s pos len ranges (inr (inl h)) = inr (inl h)
gone_unsynced s pos len ranges (inr (inr h)) = inr (inr (one_gone (s.durable ∷ s.since) pos len ranges h))

-- One version more.

add_unsynced : (o : Option File) (s : Showing) (was : Option File) (ranges : List (ℕ × ℕ))
    → MayBeUnsynced s was ranges → MayBeUnsynced (or_this o s) was ranges
add_unsynced o s was ranges (inl h) = inl h
add_unsynced o s was ranges (inr (inl h)) = inr (inl h)
add_unsynced o s was ranges (inr (inr (inl h))) = inr (inr (inl h))
add_unsynced o s was ranges (inr (inr (inr h))) = inr (inr (inr (inr h)))

-- What each call makes of one file.

open_unsynced : (make : Bool) (reads o : Option File) (s : Showing) (ranges : List (ℕ × ℕ)) → MayBeUnsynced s o ranges
    → MayBeUnsynced (with_opened make reads s) (opened_over make reads o) (opened_ranges make reads o ranges)
open_unsynced true None None s ranges h = inr (inr (inr (inl (self_unsynced (Some empty_file)))))
open_unsynced true None (Some f) s ranges h = add_unsynced (Some empty_file) s (Some f) ranges h
open_unsynced true (Some r) o s ranges h = h
open_unsynced false reads o s ranges h = h

write_unsynced : (reads o : Option File) (s : Showing) (pos : ℕ) (piece : List ℕ) (ranges : List (ℕ × ℕ))
    → MayBeUnsynced s o ranges
    → MayBeUnsynced (with_range pos (length piece) reads s) (written_on false reads o pos piece)
    (written_ranges reads o pos piece ranges)
write_unsynced None None s pos piece ranges h = inr (inr (inr (inl
    (version_unsynced (whole (Some empty_file)) empty_file pos piece [] (self_unsynced (Some empty_file))))))
write_unsynced (Some r) None s pos piece ranges h = gone_unsynced s pos (length piece) ranges h
write_unsynced None (Some g) s pos piece ranges h =
    there_unsynced (or_this (Some empty_file) s) g pos piece ranges
    (add_unsynced (Some empty_file) s (Some g) ranges h)
write_unsynced (Some r) (Some g) s pos piece ranges h = there_unsynced s g pos piece ranges h

text_unsynced : (firm : Bool) (file reads : Option File) (s : Showing)
    → MayBeUnsynced (with_text file firm reads s) (published_as false firm file) (text_ranges firm file)
text_unsynced true file reads s = inr (inr (inr (inl (self_unsynced file))))
text_unsynced false file reads s = inr (inl (refl, λ x lt. inl (omega arith, omega (arith, lt))))

-- Files by name.

-- the ranges of each of these files are those that the disk leaves loose
abbrev AllUnsynced : Disk → (List ℕ → Option File) → (List ℕ → List (ℕ × ℕ)) → Type 0
AllUnsynced d was ranges = (n : List ℕ) → MayBeUnsynced (d.shows n) (was n) (ranges n)

pick_unsynced : (b : Bool) (x y : Showing) (v w : Option File) (r l : List (ℕ × ℕ))
    → (b ≡ true → MayBeUnsynced x v r) → MayBeUnsynced y w l
    → MayBeUnsynced (cond b x y) (cond b v w) (cond b r l)
pick_unsynced true x y v w r l h k = h refl
pick_unsynced false x y v w r l h k = k

put_unsynced : (d : Disk) (name : List ℕ) (change : Option File → Showing → Showing) (f : List ℕ → Option File)
    (l : List ℕ → List (ℕ × ℕ)) (v : Option File) (r : List (ℕ × ℕ))
    → ((n : List ℕ) → n ≡ name → MayBeUnsynced (change (d.reads.files n) (d.shows n)) v r) → AllUnsynced d f l
    → AllUnsynced (under name change d) (put f name v) (with_ranges name r l)
put_unsynced d name change f l v r here h = λ n. pick_unsynced (bytes_eq n name)
    (change (d.reads.files n) (d.shows n)) (d.shows n) v (f n) r (l n) (λ e. here n (same_name n name e)) (h n)

open_all : (d : Disk) (name : List ℕ) (make : Bool) (f : List ℕ → Option File) (l : List ℕ → List (ℕ × ℕ))
    → AllUnsynced d f l
    → AllUnsynced (under name (with_opened make) d) (put f name (opened_over make (d.reads.files name) (f name)))
    (with_ranges name (opened_ranges make (d.reads.files name) (f name) (l name)) l)
open_all d name make f l h = put_unsynced d name (with_opened make) f l
    (opened_over make (d.reads.files name) (f name)) (opened_ranges make (d.reads.files name) (f name) (l name))
    (λ n same. subst (λ (m : List ℕ). MayBeUnsynced (with_opened make (d.reads.files n) (d.shows n))
    (opened_over make (d.reads.files m) (f m)) (opened_ranges make (d.reads.files m) (f m) (l m))) same
    (open_unsynced make (d.reads.files n) (f n) (d.shows n) (l n) (h n))) h

write_all : (d : Disk) (image : Option (List ℕ)) (pos : ℕ) (piece : List ℕ) (f : List ℕ → Option File)
    (l : List ℕ → List (ℕ × ℕ)) → AllUnsynced d f l
    → AllUnsynced (under_some image (with_range pos (length piece)) d)
    (with_some image (λ n. written_on false (d.reads.files n) (f n) pos piece) f)
    (ranges_at image (λ n. written_ranges (d.reads.files n) (f n) pos piece (l n)) l)
write_all d None pos piece f l h = h
write_all d (Some name) pos piece f l h = put_unsynced d name (with_range pos (length piece)) f l
    (written_on false (d.reads.files name) (f name) pos piece)
    (written_ranges (d.reads.files name) (f name) pos piece (l name))
    (λ n same. subst (λ (m : List ℕ). MayBeUnsynced (with_range pos (length piece) (d.reads.files n) (d.shows n))
    (written_on false (d.reads.files m) (f m) pos piece) (written_ranges (d.reads.files m) (f m) pos piece (l m)))
    same (write_unsynced (d.reads.files n) (f n) (d.shows n) pos piece (l n) (h n))) h

append_all : (d : Disk) (draft : Option (List ℕ)) (file : List ℕ → Option File) (f : List ℕ → Option File)
    (l : List ℕ → List (ℕ × ℕ)) → AllUnsynced d f l
    → AllUnsynced (under_some draft with_draft d) (with_some draft file f) (ranges_at draft (λ n. []) l)
append_all d None file f l h = h
append_all d (Some name) file f l h = put_unsynced d name with_draft f l (file name) [] (λ n same. inl refl) h

publish_all : (d : Disk) (draft : Option (List ℕ)) (name : List ℕ) (f : List ℕ → Option File)
    (l : List ℕ → List (ℕ × ℕ)) → AllUnsynced d f l
    → AllUnsynced (publishing draft name d)
    (moved_to draft name (λ n. published_as false d.firm (d.reads.files n)) f)
    (ranges_moved draft name (λ n. text_ranges d.firm (d.reads.files n)) l)
publish_all d None name f l h = h
publish_all d (Some draft) name f l h =
    put_unsynced (under draft with_draft d) name (with_text (d.reads.files draft) d.firm) (put f draft None)
    (with_ranges draft [] l) (published_as false d.firm (d.reads.files draft))
    (text_ranges d.firm (d.reads.files draft))
    (λ n same. text_unsynced d.firm (d.reads.files draft) (d.reads.files n) ((under draft with_draft d).shows n))
    (put_unsynced d draft with_draft f l None [] (λ n same. inl refl) h)

pick_lost : (b : Bool) (x y : Showing) (was : Option File) (ranges : List (ℕ × ℕ)) → MayBeUnsynced x was ranges
    → MayBeUnsynced y was ranges → MayBeUnsynced (cond b x y) was ranges
pick_lost true x y was ranges h g = h
pick_lost false x y was ranges h g = g

looked_unsynced : (file : Option File) (s : Showing) (was : Option File) (ranges : List (ℕ × ℕ))
    → MayBeUnsynced s was ranges → MayBeUnsynced (with_opened true file s) was ranges
looked_unsynced None s was ranges h = add_unsynced (Some empty_file) s was ranges h
looked_unsynced (Some f) s was ranges h = h

-- a look at a name, which may make an empty file there
looked_all : (d : Disk) (name : List ℕ) (f : List ℕ → Option File) (l : List ℕ → List (ℕ × ℕ)) → AllUnsynced d f l
    → AllUnsynced (under name (with_opened true) d) f l
looked_all d name f l h =
    λ n. pick_lost (bytes_eq n name) (with_opened true (d.reads.files n) (d.shows n)) (d.shows n) (f n) (l n)
    (looked_unsynced (d.reads.files n) (d.shows n) (f n) (l n) (h n)) (h n)

part_unsynced_all : (d : Disk) (call : Call) (f : List ℕ → Option File) (l : List ℕ → List (ℕ × ℕ))
    → AllUnsynced d f l
    → AllUnsynced (after_part call d) (made_part false call d.reads d.firm f) (part_unsynced call d.reads d.firm f l)
part_unsynced_all d (image_open name make) f l h = open_all d name make f l h
part_unsynced_all d (image_write pos piece) f l h = write_all d d.reads.image pos piece f l h
part_unsynced_all d (draft_begin name) f l h =
    put_unsynced d name with_draft f l (Some empty_file) [] (λ n same. inl refl) h
part_unsynced_all d (draft_append piece) f l h = append_all d d.reads.draft
    (λ n. Some (record { bytes = bytes_of (d.reads.files n) ++ piece; regular = true })) f l h
part_unsynced_all d (draft_publish name) f l h = publish_all d d.reads.draft name f l h
part_unsynced_all d (map_settle name) f l h = looked_all d (draft_of name) f l h
part_unsynced_all d (map_remove name) f l h = put_unsynced d name (λ file s. or_this None s) f l None []
    (λ n same. inr (inr (inr (inl (self_unsynced None))))) h
part_unsynced_all d _ f l h = h

sure_all : (d : Disk) (o : Option (List ℕ)) (f : List ℕ → Option File) (l : List ℕ → List (ℕ × ℕ))
    → AllUnsynced d f l
    → AllUnsynced (under_some o (λ file s. only file) d) (with_some o d.reads.files f) (ranges_at o (λ n. []) l)
sure_all d None f l h = h
sure_all d (Some name) f l h = put_unsynced d name (λ file s. only file) f l (d.reads.files name) []
    (λ n same. subst (λ (m : List ℕ). MayBeUnsynced (only (d.reads.files n)) (d.reads.files m) []) same
    (inr (inr (inl (self_unsynced (d.reads.files n)))))) h

-- a version that was synced, of which these ranges are lost
lost_unsynced : (o : Option File) (lost : List (ℕ × ℕ))
    → IsUnsyncedOf (record { file = o; loose = lost; lost = lost }) o lost
lost_unsynced o lost = record {
  matches = holds_self o lost;
  all = λ x lt u. ⊎_elim (λ l. l) (λ le. absurd (omega (arith, lt, le))) u;
  alone = λ x lt l. inl l;
}

sync_all : (d : Disk) (o : Option (List ℕ)) (f : List ℕ → Option File) (l : List ℕ → List (ℕ × ℕ))
    → AllUnsynced d f l
    → AllUnsynced (under_some o synced d) (with_some o d.reads.files f) (ranges_at o (λ n. lost_in (d.shows n)) l)
sync_all d None f l h = h
sync_all d (Some name) f l h = put_unsynced d name synced f l (d.reads.files name) (lost_in (d.shows name))
    (λ n same. subst (λ (m : List ℕ). MayBeUnsynced (synced (d.reads.files n) (d.shows n)) (d.reads.files m)
    (lost_in (d.shows m))) same (inr (inr (inl (lost_unsynced (d.reads.files n) (lost_in (d.shows n))))))) h

-- what is lost by a call that fails shows nothing more
one_lost : (change : Version → Version) → ((v : Version) → (was : Option File) (ranges : List (ℕ × ℕ))
    → IsUnsyncedOf v was ranges → IsUnsyncedOf (change v) was ranges) → (vs : List Version)
    (was : Option File) (ranges : List (ℕ × ℕ)) → IsUnsyncedOfOne vs was ranges
    → IsUnsyncedOfOne (map change vs) was ranges
one_lost change same [] was ranges h = h
one_lost change same (v ∷ vs) was ranges (inl h) = inl (same v was ranges h)
one_lost change same (v ∷ vs) was ranges (inr h) = inr (one_lost change same vs was ranges h)

each_lost : (change : Version → Version)
    → ((v : Version) (was : Option File) (ranges : List (ℕ × ℕ)) → IsUnsyncedOf v was ranges
    → IsUnsyncedOf (change v) was ranges)
    → (s : Showing) (was : Option File) (ranges : List (ℕ × ℕ)) → MayBeUnsynced s was ranges
    → MayBeUnsynced (in_each change s) was ranges
each_lost change same s was ranges (inl any) = inl any
each_lost change same s was ranges (inr (inl w)) = inr (inl w)
each_lost change same s was ranges (inr (inr h)) = inr (inr (one_lost change same (s.durable ∷ s.since) was ranges h))

some_lost : (d : Disk) (o : Option (List ℕ)) (change : Version → Version)
    → ((v : Version) (was : Option File) (ranges : List (ℕ × ℕ)) → IsUnsyncedOf v was ranges
    → IsUnsyncedOf (change v) was ranges)
    → (f : List ℕ → Option File) (l : List ℕ → List (ℕ × ℕ)) → AllUnsynced d f l
    → AllUnsynced (under_some o (λ file s. in_each change s) d) f l
some_lost d None change same f l h = h
some_lost d (Some name) change same f l h =
    λ n. pick_lost (bytes_eq n name) (in_each change (d.shows n)) (d.shows n) (f n) (l n)
    (each_lost change same (d.shows n) (f n) (l n) (h n)) (h n)

same_unsynced : (v u : Version) → u.file ≡ v.file → u.loose ≡ v.loose → (was : Option File) (ranges : List (ℕ × ℕ))
    → IsUnsyncedOf v was ranges → IsUnsyncedOf u was ranges
same_unsynced v u file loose was ranges h = record {
  matches = subst (λ (o : Option File). MatchesFile o u.loose was) (sym file)
      (subst (λ (r : List (ℕ × ℕ)). MatchesFile v.file r was) (sym loose) h.matches);
  all = λ x lt un. h.all x lt (⊎_elim (λ l. inl (subst (λ (r : List (ℕ × ℕ)). IsLoose r x) loose l))
      (λ le. inr (subst (λ (o : Option File). length (bytes_of o) ≤ x) file le)) un);
  alone = λ x lt l. ⊎_elim (λ m. inl (subst (λ (r : List (ℕ × ℕ)). IsLoose r x) (sym loose) m))
      (λ le. inr (subst (λ (o : Option File). length (bytes_of o) ≤ x) (sym file) le)) (h.alone x lt l);
}

lost_all : (d : Disk) (call : Call) (f : List ℕ → Option File) (l : List ℕ → List (ℕ × ℕ)) → AllUnsynced d f l
    → AllUnsynced (lost_by call d) f l
lost_all d (image_write pos piece) f l h = some_lost d d.reads.image (lose pos (length piece))
    (λ v was ranges. same_unsynced v (lose pos (length piece) v) refl refl was ranges) f l h
lost_all d image_sync f l h =
    some_lost d d.reads.image lose_all (λ v was ranges. same_unsynced v (lose_all v) refl refl was ranges) f l h
lost_all d _ f l h = h

done_all : (d : Disk) (call : Call) (f : List ℕ → Option File) (l : List ℕ → List (ℕ × ℕ))
    → AllUnsynced d f l
    → AllUnsynced (after_return call d) (left_entry Newest d (Done call) f) (entry_unsynced d (Done call) f l)
done_all d (image_open name make) f l h = part_unsynced_all d (image_open name make) f l h
done_all d (image_write pos piece) f l h = part_unsynced_all d (image_write pos piece) f l h
done_all d image_sync f l h = sync_all d d.reads.image f l h
done_all d (draft_begin name) f l h = part_unsynced_all d (draft_begin name) f l h
done_all d (draft_append piece) f l h = part_unsynced_all d (draft_append piece) f l h
done_all d (draft_publish name) f l h = part_unsynced_all d (draft_publish name) f l h
done_all d (map_settle name) f l h =
    sure_all (after_part (map_settle name) d) (Some name) f l (looked_all d (draft_of name) f l h)
done_all d (map_remove name) f l h = part_unsynced_all d (map_remove name) f l h
done_all d _ f l h = h

failed_all : (d : Disk) (call : Call) (steps : ℕ) (f : List ℕ → Option File) (l : List ℕ → List (ℕ × ℕ))
    → AllUnsynced d f l
    → AllUnsynced (entered d (Failed call steps)) (left_entry Newest d (Failed call steps) f)
    (entry_unsynced d (Failed call steps) f l)
failed_all d call steps f l h = lost_all (after_part call d) call (made_part false call d.reads d.firm f)
    (part_unsynced call d.reads d.firm f l) (part_unsynced_all d call f l h)

along_all : (d : Disk) (f : List ℕ → Option File) (l : List ℕ → List (ℕ × ℕ)) (es : List Entry) → AllUnsynced d f l
    → AllUnsynced (disk_after d es) (left_along Newest d f es) (along_unsynced d f l es)
along_all d f l [] h = h
along_all d f l (Done call ∷ es) h = along_all (entered d (Done call)) (left_entry Newest d (Done call) f)
    (entry_unsynced d (Done call) f l) es (done_all d call f l h)
along_all d f l (Failed call steps ∷ es) h = along_all (entered d (Failed call steps))
    (left_entry Newest d (Failed call steps) f) (entry_unsynced d (Failed call steps) f l) es
    (failed_all d call steps f l h)

pub unsynced_left : (start : Folder) (calls : List Entry) (k : ℕ) (n : List ℕ)
    → MayBeUnsynced ((disk_after (at_rest start) (until k calls)).shows n) (files_left Newest start calls k n)
    (unsynced_at start calls k n)
unsynced_left start calls k n = along_all (at_rest start) start.files (λ n. []) (until k calls)
    (λ n. inr (inr (inl (self_unsynced (start.files n))))) n
