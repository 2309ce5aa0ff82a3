-- Files that a stop of each kind leaves may be left.
use Rattle.std.proofs.Common.{◌≡◌, inl, inr, ⊎_elim, ℕ, ◌+◌, ◌-◌, Bool, true, false, if◌then◌else◌, List, [], ◌∷◌, ◌++◌, length, replicate, get_or, Option, Some, None, refl, sym, ◌∙◌, ap, subst, arith}
use Rattle.std.proofs.lemmas.List.{length-replicate}
use Rattle.memory_site.specs.declared.memory.stop.Left.{Left}
use Rattle.memory_site.specs.declared.memory.stop.Left.TheVariants.{Oldest, Newest, Garbage}
use Rattle.crash_site.specs.Files.{File, empty_file, bytes_of, put, written_file}
use Rattle.crash_site.specs.Calls.{Call, Entry, Done, Failed, image_open, image_read, image_write, image_sync, map_read, draft_begin, draft_append, draft_sync, draft_publish, map_settle, map_remove}
use Rattle.crash_site.specs.Folder.{Folder}
use Rattle.crash_site.specs.Disk.{Showing, Disk, lost_in, synced, only, at_rest, with_range, under, under_some, with_draft, with_text, publishing, after_part, after_return, entered, disk_after}
use Rattle.crash_site.specs.Left.{MatchesFile, MayShow, Leaves, MayBeLeft, until}
use Rattle.memory_site.specs.FilesLeft.{any_byte, spoilt, begins_at, over, opened_over, written_on, published_as, with_some, moved_to, made_part, left_part, lies_in, spoilt_at, sure_file, left_entry, left_along, files_left}
use Rattle.crash_site.proofs.DiskLemmas.{CoversRange, leaves_at, leaves_put, leaves_part, loosened_widens, leaves_made, leaves_removed, leaves_sure, stands_written, stands_made, stands_published, stands_only, stands_synced, leaves_lost, stands_any, same_name, rest_sound}
use Rattle.crash_site.proofs.RangeLemmas.{loose_or_not}
use Rattle.memory_site.proofs.GarbageLemmas.{lies_not, spoilt_size, spoilt_there}
use Rattle.memory_site.proofs.PlaceLemmas.{put-same}

-- each call, made in any part

opened_stands : (d : Disk) (name : List ℕ) (make : Bool) (reads left : Option File) (f : List ℕ → Option File)
    → d.reads.files name ≡ reads → f name ≡ left → Leaves d f
    → Leaves (after_part (image_open name make) d) (put f name (opened_over make reads left))
opened_stands d name true None None f r l h = leaves_made d name f r h
opened_stands d name true None (Some g) f r l h =
    subst (Leaves (after_part (image_open name true) d)) (sym (put-same f name (Some g) l))
    (leaves_part d (image_open name true) f h)
opened_stands d name true (Some g) left f r l h =
    subst (Leaves (after_part (image_open name true) d)) (sym (put-same f name left l))
    (leaves_part d (image_open name true) f h)
opened_stands d name false reads left f r l h =
    subst (Leaves (after_part (image_open name false) d)) (sym (put-same f name left l))
    (leaves_part d (image_open name false) f h)

stands_over : (file : Option File) (reads : Option File) (s : Showing) (pos len at : ℕ) (piece : List ℕ)
    → CoversRange pos len (length (bytes_of file)) at piece → (file ≡ None → reads ≡ None) → MayShow s file
    → MayShow (with_range pos len reads s) (Some (written_file file at piece))
stands_over None reads s pos len at piece c both h =
    subst (λ (o : Option File). MayShow (with_range pos len o s) (Some (written_file None at piece))) (sym (both refl))
    (stands_made s pos len at piece c)
stands_over (Some f) reads s pos len at piece c both h = stands_written reads s f pos len at piece c h

over_stands : (garbage : Bool) (file : Option File) (reads : Option File) (s : Showing) (pos : ℕ) (piece : List ℕ)
    → (file ≡ None → reads ≡ None) → MayShow s file
    → MayShow (with_range pos (length piece) reads s) (Some (over garbage file pos piece))
over_stands false file reads s pos piece both h = stands_over file reads s pos (length piece) pos piece
    (record { end = omega arith; from = omega arith; gap = omega arith }) both h
over_stands true file reads s pos piece both h =
    let size : length (replicate {A = ℕ} (pos + length piece - begins_at file pos) any_byte)
    ≡ pos + length piece - begins_at file pos =
    length-replicate {A = ℕ} (pos + length piece - begins_at file pos) any_byte in
    stands_over file reads s pos (length piece) (begins_at file pos)
    (replicate (pos + length piece - begins_at file pos) any_byte)
    (record { end = omega (arith, size); from = omega (arith, size); gap = omega (arith, size) }) both h

put_over : (garbage : Bool) (d : Disk) (name : List ℕ) (left : Option File) (f : List ℕ → Option File) (pos : ℕ)
    (piece : List ℕ) → (left ≡ None → d.reads.files name ≡ None) → f name ≡ left → Leaves d f
    → Leaves (under name (with_range pos (length piece)) d) (put f name (Some (over garbage left pos piece)))
put_over garbage d name left f pos piece both l h =
    leaves_put d name (with_range pos (length piece)) f (Some (over garbage left pos piece)) h
    (λ n e.
    let here : n ≡ name = same_name n name e in
    over_stands garbage left (d.reads.files n) (d.shows n) pos piece
    (λ none. ap d.reads.files here ∙ both none)
    (subst (MayShow (d.shows n)) (ap f here ∙ l) (h n)))

write_stands : (garbage : Bool) (d : Disk) (name : List ℕ) (reads left : Option File) (f : List ℕ → Option File)
    (pos : ℕ) (piece : List ℕ) → d.reads.files name ≡ reads → f name ≡ left → Leaves d f
    → Leaves (under name (with_range pos (length piece)) d) (put f name (written_on garbage reads left pos piece))
write_stands garbage d name None None f pos piece r l h =
    put_over garbage d name None f pos piece (λ none. r) l h
write_stands garbage d name (Some g) None f pos piece r l h =
    subst (Leaves (under name (with_range pos (length piece)) d)) (sym (put-same f name None l))
    (leaves_at d name (with_range pos (length piece)) f (loosened_widens pos (length piece)) h)
write_stands garbage d name None (Some w) f pos piece r l h =
    put_over garbage d name (Some w) f pos piece (λ none. r) l h
write_stands garbage d name (Some g) (Some w) f pos piece r l h =
    put_over garbage d name (Some w) f pos piece (λ none. absurd (cc)) l h

written_stands : (garbage : Bool) (d : Disk) (image : Option (List ℕ)) (f : List ℕ → Option File) (pos : ℕ)
    (piece : List ℕ) → Leaves d f
    → Leaves (under_some image (with_range pos (length piece)) d)
    (with_some image (λ n. written_on garbage (d.reads.files n) (f n) pos piece) f)
written_stands garbage d None f pos piece h = h
written_stands garbage d (Some name) f pos piece h =
    write_stands garbage d name (d.reads.files name) (f name) f pos piece refl refl h

appended_stands : (d : Disk) (draft : Option (List ℕ)) (file : List ℕ → Option File) (f : List ℕ → Option File)
    → Leaves d f → Leaves (under_some draft with_draft d) (with_some draft file f)
appended_stands d None file f h = h
appended_stands d (Some name) file f h = leaves_put d name with_draft f (file name) h (λ n is. inl refl)

spoilt_stands : (file reads : Option File) (s : Showing) → MayShow (with_text file false reads s) (spoilt file)
spoilt_stands None reads s = stands_published None false reads s
spoilt_stands (Some f) reads s = stands_any (Some f) reads s (replicate (length f.bytes) any_byte)

published_stands : (garbage firm : Bool) (file reads : Option File) (s : Showing)
    → MayShow (with_text file firm reads s) (published_as garbage firm file)
published_stands true false file reads s = spoilt_stands file reads s
published_stands true true file reads s = stands_published file true reads s
published_stands false firm file reads s = stands_published file firm reads s

moved_stands : (garbage : Bool) (d : Disk) (draft : Option (List ℕ)) (name : List ℕ) (f : List ℕ → Option File)
    → Leaves d f
    → Leaves (publishing draft name d)
    (moved_to draft name (λ n. published_as garbage d.firm (d.reads.files n)) f)
moved_stands garbage d None name f h = h
moved_stands garbage d (Some draft) name f h =
    leaves_put (under draft with_draft d) name (with_text (d.reads.files draft) d.firm) (put f draft None)
    (published_as garbage d.firm (d.reads.files draft))
    (leaves_put d draft with_draft f None h (λ n is. inl refl))
    (λ n is. published_stands garbage d.firm (d.reads.files draft) (d.reads.files n)
    ((under draft with_draft d).shows n))

made_stands : (garbage : Bool) (d : Disk) (call : Call) (f : List ℕ → Option File) → Leaves d f
    → Leaves (after_part call d) (made_part garbage call d.reads d.firm f)
made_stands garbage d (image_open name make) f h =
    opened_stands d name make (d.reads.files name) (f name) f refl refl h
made_stands garbage d (image_write pos piece) f h = written_stands garbage d d.reads.image f pos piece h
made_stands garbage d (draft_begin name) f h = leaves_put d name with_draft f (Some empty_file) h (λ n is. inl refl)
made_stands garbage d (draft_append piece) f h = appended_stands d d.reads.draft
    (λ n. Some (record { bytes = bytes_of (d.reads.files n) ++ piece; regular = true })) f h
made_stands garbage d (draft_publish name) f h = moved_stands garbage d d.reads.draft name f h
made_stands garbage d (map_settle name) f h = leaves_part d (map_settle name) f h
made_stands garbage d (map_remove name) f h = leaves_removed d name f h
made_stands garbage d _ f h = h

part_stands : (kind : Left) (d : Disk) (call : Call) (f : List ℕ → Option File) → Leaves d f
    → Leaves (after_part call d) (left_part kind call d.reads d.firm f)
part_stands Oldest d call f h = leaves_part d call f h
part_stands Newest d call f h = made_stands false d call f h
part_stands Garbage d call f h = made_stands true d call f h

-- a call that returned Ok

spoilt_matches : (ranges : List (ℕ × ℕ)) (o : Option File) → MatchesFile o ranges (spoilt_at (lies_in ranges) o)
spoilt_matches ranges None = tt
spoilt_matches ranges (Some f) = record {
  stands = λ x lt. ⊎_elim (λ l. inl l)
      (λ no. inr (spoilt_there (lies_in ranges) f.bytes x lt
      ∙ ap (λ (b : Bool). if b then any_byte else get_or f.bytes x 0) (lies_not ranges x no))) (loose_or_not ranges x);
  no_shorter = omega (arith, spoilt_size (lies_in ranges) 0 f.bytes);
  no_longer = omega (arith, spoilt_size (lies_in ranges) 0 f.bytes);
  regular = refl;
}

synced_stands : (kind : Left) (d : Disk) (o : Option (List ℕ)) (f : List ℕ → Option File) → Leaves d f
    → Leaves (under_some o synced d) (with_some o (sure_file image_sync kind d) f)
synced_stands kind d None f h = h
synced_stands Oldest d (Some name) f h = leaves_sure d name synced f stands_synced h
synced_stands Newest d (Some name) f h = leaves_sure d name synced f stands_synced h
synced_stands Garbage d (Some name) f h =
    leaves_put d name synced f (spoilt_at (lies_in (lost_in (d.shows name))) (d.reads.files name)) h
    (λ n is. subst (λ (m : List ℕ). MayShow (synced (d.reads.files n) (d.shows n))
    (spoilt_at (lies_in (lost_in (d.shows m))) (d.reads.files m))) (same_name n name is)
    (inr (inr (inl (spoilt_matches (lost_in (d.shows n)) (d.reads.files n))))))

sure_stands : (d : Disk) (o : Option (List ℕ)) (change : Option File → Showing → Showing) (f : List ℕ → Option File)
    → ((file : Option File) (s : Showing) → MayShow (change file s) file) → Leaves d f
    → Leaves (under_some o change d) (with_some o d.reads.files f)
sure_stands d None change f sure h = h
sure_stands d (Some name) change f sure h = leaves_sure d name change f sure h

done_stands : (kind : Left) (d : Disk) (call : Call) (f : List ℕ → Option File) → Leaves d f
    → Leaves (after_return call d) (left_entry kind d (Done call) f)
done_stands kind d (image_open name make) f h = part_stands kind d (image_open name make) f h
done_stands kind d (image_read pos asked answer) f h = part_stands kind d (image_read pos asked answer) f h
done_stands kind d (image_write pos piece) f h = part_stands kind d (image_write pos piece) f h
done_stands kind d image_sync f h =
    synced_stands kind d d.reads.image (left_part kind image_sync d.reads d.firm f) (part_stands kind d image_sync f h)
done_stands kind d (map_read name pos asked answer) f h = part_stands kind d (map_read name pos asked answer) f h
done_stands kind d (draft_begin name) f h = part_stands kind d (draft_begin name) f h
done_stands kind d (draft_append piece) f h = part_stands kind d (draft_append piece) f h
done_stands kind d draft_sync f h = part_stands kind d draft_sync f h
done_stands kind d (draft_publish name) f h = part_stands kind d (draft_publish name) f h
done_stands kind d (map_settle name) f h = sure_stands (after_part (map_settle name) d) (Some name)
    (λ file s. only file)
    (left_part kind (map_settle name) d.reads d.firm f) (λ file s. stands_only file)
    (part_stands kind d (map_settle name) f h)
done_stands kind d (map_remove name) f h = part_stands kind d (map_remove name) f h

-- the calls of a record

along_stands : (kind : Left) (d : Disk) (f : List ℕ → Option File) (es : List Entry) → Leaves d f
    → Leaves (disk_after d es) (left_along kind d f es)
along_stands kind d f [] h = h
along_stands kind d f (Done call ∷ es) h =
    along_stands kind (entered d (Done call)) (left_entry kind d (Done call) f) es (done_stands kind d call f h)
along_stands kind d f (Failed call steps ∷ es) h =
    along_stands kind (entered d (Failed call steps)) (left_entry kind d (Failed call steps) f) es
    (leaves_lost (after_part call d) call (left_part kind call d.reads d.firm f) (part_stands kind d call f h))

pub kind_stands : (kind : Left) (start : Folder) (calls : List Entry) (k : ℕ)
    → MayBeLeft start calls k (files_left kind start calls k)
kind_stands kind start calls k =
    along_stands kind (at_rest start) start.files (until k calls) (rest_sound start)
