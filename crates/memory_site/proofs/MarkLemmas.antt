-- The marks of a site in memory follow what a stop may show.
use Rattle.std.proofs.Common.{◌≡◌, ◌⊎◌, inl, inr, ⊎_elim, ℕ, ◌+◌, ◌-◌, ◌≤◌, ◌<◌, min, Bool, true, false, cond, nat_lt, if◌then◌else◌, List, ◌∷◌, ◌++◌, length, length-append, take, drop, replicate, get_or, Option, Some, None, refl, sym, ◌∙◌, ap, subst, arith}
use Rattle.std.specs.List.{flat_map}
use Rattle.std.specs.Str.{bytes_eq}
use Rattle.std.proofs.Math.Path.{fun_ext}
use Rattle.std.proofs.lemmas.Bool.{cases_lt}
use Rattle.std.proofs.lemmas.List.{get_or-replicate, get_or_past, get_or_append_left, get_or-append_right, get_or-take, length-take, length-replicate, ext_get_or}
use Rattle.memory_site.specs.declared.memory.stop.Left.{Left}
use Rattle.memory_site.specs.declared.memory.stop.Left.TheVariants.{Oldest, Newest, Garbage}
use Rattle.crash_site.specs.Files.{File, empty_file, bytes_of, draft_of, put, written, written_file}
use Rattle.crash_site.specs.Calls.{Call, Done, Failed, image_open, image_read, image_write, image_sync, map_read, draft_begin, draft_append, draft_sync, draft_publish, map_settle, map_remove}
use Rattle.crash_site.specs.Folder.{Folder}
use Rattle.crash_site.specs.Disk.{Version, Showing, Disk, without, newest, lost_in, synced, lose, lose_all, lost_by, loosen, in_each, whole, only, or_this, with_range, with_opened, under, under_some, with_draft, with_text, publishing, after_part, after_return, entered}
use Rattle.crash_site.proofs.DiskLemmas.{same_name}
use Rattle.crash_site.proofs.NestLemmas.{newest_of}
use Rattle.crash_site.proofs.RangeLemmas.{loose_or_not, without_in, without_out, without_rest}
use Rattle.crash_site.proofs.Written.{written_before, written_inside, written_after}
use Rattle.memory_site.specs.FilesLeft.{any_byte, lies_in, spoilt_from, spoilt_at, sure_file}
use Rattle.memory_site.specs.Marks.{Marked, is_marked, with_marks, marked_at, cleared, cleared_if_absent, range_lost, all_lost, lost_loose, range_written, part_marked, return_marked, failed_marked, AreMarksOf, FollowDisk, sure_marked}
use Rattle.memory_site.proofs.GarbageLemmas.{lies, lies_not, spoilt_size, spoilt_there}

pub same_marks : (a b : Marked) → a.loose ≡ b.loose → a.lost ≡ b.lost → a ≡ b
same_marks a b loose lost = λ i. record { loose = loose i; lost = lost i }

pub ruleset mark_lemmas = (same_marks)

-- A range that is marked.

bytes_written : (marks : Option File) (pos : ℕ) (piece : List ℕ)
    → bytes_of (Some (written_file marks pos piece)) ≡ written (bytes_of marks) pos piece
bytes_written None pos piece = refl
bytes_written (Some f) pos piece = refl

-- a gap before the place is filled with zeros
written_gap : (old : List ℕ) (pos : ℕ) (piece : List ℕ) (x : ℕ) → x < pos → length old ≤ x
    → get_or (written old pos piece) x 0 ≡ 0
written_gap old pos piece x low past =
    let zeros : List ℕ = replicate (pos - length old) 0 in
    let room : x < length (take pos (old ++ zeros)) = omega (
      arith,
      low,
      length-take pos (old ++ zeros),
      length-append old zeros,
      length-replicate {A = ℕ} (pos - length old) 0,
    ) in
    get_or_append_left (take pos (old ++ zeros) ++ piece) (drop (pos + length piece) old) 0 x
    (omega (arith, room, length-append (take pos (old ++ zeros)) piece))
    ∙ get_or_append_left (take pos (old ++ zeros)) piece 0 x room
    ∙ get_or-take pos (old ++ zeros) x 0 low
    ∙ get_or-append_right old zeros (length old) x 0 refl past
    ∙ get_or-replicate (pos - length old) (x - length old) 0 0 (omega (arith, low, past))

written_outside : (old : List ℕ) (pos : ℕ) (piece : List ℕ) (x : ℕ) → (x < pos) ⊎ (pos + length piece ≤ x)
    → get_or (written old pos piece) x 0 ≡ get_or old x 0
written_outside old pos piece x (inl low) = elim (cases_lt x (length old)) [
  | inl has ↦ written_before old pos piece x low has
  | inr past ↦ written_gap old pos piece x low past ∙ sym (get_or_past old x 0 past)
]
written_outside old pos piece x (inr high) = written_after old pos piece x high

marked_inside : (mark pos len : ℕ) (marks : Option File) (x : ℕ) → pos ≤ x → x < pos + len
    → is_marked (with_marks mark pos len marks) x ≡ nat_lt 0 mark
marked_inside mark pos len marks x from to =
    ap (nat_lt 0) (ap (λ (bytes : List ℕ). get_or bytes x 0) (bytes_written marks pos (replicate len mark))
    ∙ written_inside (bytes_of marks) pos (replicate len mark) x from
    (omega (arith, to, length-replicate {A = ℕ} len mark))
    ∙ get_or-replicate len (x - pos) mark 0 (omega (arith, from, to)))

marked_outside : (mark pos len : ℕ) (marks : Option File) (x : ℕ) → (x < pos) ⊎ (pos + len ≤ x)
    → is_marked (with_marks mark pos len marks) x ≡ is_marked marks x
marked_outside mark pos len marks x out =
    ap (nat_lt 0) (ap (λ (bytes : List ℕ). get_or bytes x 0) (bytes_written marks pos (replicate len mark))
    ∙ written_outside (bytes_of marks) pos (replicate len mark) x
    (⊎_elim (λ low. inl low) (λ high. inr (omega (arith, high, length-replicate {A = ℕ} len mark))) out))

-- a place lies in a range or not
place : (pos len x : ℕ) → ((pos ≤ x) × (x < pos + len)) ⊎ ((x < pos) ⊎ (pos + len ≤ x))
place pos len x = elim (cases_lt x pos) [
  | inl low ↦ inr (inl low)
  | inr from ↦ elim (cases_lt x (pos + len)) [
    | inl to ↦ inl (from, to)
    | inr high ↦ inr (inr high)
  ]
]

not_within : (pos len x : ℕ) → (x < pos) ⊎ (pos + len ≤ x) → (pos ≤ x) × (x < pos + len) → ⊥
not_within pos len x (inl low) h = omega (arith, low, h.0)
not_within pos len x (inr high) h = omega (arith, high, h.1)

-- ranges and one more
more_inside : (pos len : ℕ) (a : List (ℕ × ℕ)) (x : ℕ) → pos ≤ x → x < pos + len → lies_in ((pos, len) ∷ a) x ≡ true
more_inside pos len a x from to = lies ((pos, len) ∷ a) x (inl (from, to))

more_outside : (pos len : ℕ) (a : List (ℕ × ℕ)) (x : ℕ) → (x < pos) ⊎ (pos + len ≤ x)
    → lies_in ((pos, len) ∷ a) x ≡ lies_in a x
more_outside pos len a x out = elim (loose_or_not a x) [
  | inl l ↦ lies ((pos, len) ∷ a) x (inr l) ∙ sym (lies a x l)
  | inr apart ↦ lies_not ((pos, len) ∷ a) x (λ h. ⊎_elim (not_within pos len x out) apart h) ∙ sym (lies_not a x apart)
]

less_inside : (pos len : ℕ) (a : List (ℕ × ℕ)) (x : ℕ) → pos ≤ x → x < pos + len
    → lies_in (flat_map (without pos len) a) x ≡ false
less_inside pos len a x from to = lies_not (flat_map (without pos len) a) x
    (λ h. not_within pos len x (without_out pos len a x h) (from, to))

less_outside : (pos len : ℕ) (a : List (ℕ × ℕ)) (x : ℕ) → (x < pos) ⊎ (pos + len ≤ x)
    → lies_in (flat_map (without pos len) a) x ≡ lies_in a x
less_outside pos len a x out = elim (loose_or_not a x) [
  | inl l ↦ lies (flat_map (without pos len) a) x (without_rest pos len a x l out) ∙ sym (lies a x l)
  | inr apart ↦ lies_not (flat_map (without pos len) a) x (λ h. apart (without_in pos len a x h))
      ∙ sym (lies_not a x apart)
]

marks_more : (pos len : ℕ) (a : List (ℕ × ℕ)) (marks : Option File) (x : ℕ) → lies_in a x ≡ is_marked marks x
    → lies_in ((pos, len) ∷ a) x ≡ is_marked (with_marks 1 pos len marks) x
marks_more pos len a marks x h = elim (place pos len x) [
  | inl w ↦ more_inside pos len a x w.0 w.1 ∙ sym (marked_inside 1 pos len marks x w.0 w.1)
  | inr out ↦ more_outside pos len a x out ∙ h ∙ sym (marked_outside 1 pos len marks x out)
]

marks_less : (pos len : ℕ) (a : List (ℕ × ℕ)) (marks : Option File) (x : ℕ) → lies_in a x ≡ is_marked marks x
    → lies_in (flat_map (without pos len) a) x ≡ is_marked (with_marks 0 pos len marks) x
marks_less pos len a marks x h = elim (place pos len x) [
  | inl w ↦ less_inside pos len a x w.0 w.1 ∙ sym (marked_inside 0 pos len marks x w.0 w.1)
  | inr out ↦ less_outside pos len a x out ∙ h ∙ sym (marked_outside 0 pos len marks x out)
]

-- What each call makes of the newest version under one name.

abbrev Follow : Showing → Option File → Option File → Type 0
Follow s loose lost = AreMarksOf (newest s.durable s.since) loose lost

none_marked : (file : Option File) → AreMarksOf (whole file) None None
none_marked file = record { loose = λ x. refl; lost = λ x. refl }

loosen_marked : (pos len : ℕ) (v : Version) (loose lost : Option File) → AreMarksOf v loose lost
    → AreMarksOf (loosen pos len v) (with_marks 1 pos len loose) (with_marks 0 pos len lost)
loosen_marked pos len v loose lost h = record {
  loose = λ x. marks_more pos len v.loose loose x (h.loose x);
  lost = λ x. marks_less pos len v.lost lost x (h.lost x);
}

lose_marked : (pos len : ℕ) (v : Version) (loose lost : Option File) → AreMarksOf v loose lost
    → AreMarksOf (lose pos len v) loose (with_marks 1 pos len lost)
lose_marked pos len v loose lost h =
    record { loose = h.loose; lost = λ x. marks_more pos len v.lost lost x (h.lost x) }

each_marked : (change : Version → Version) (s : Showing) (loose lost : Option File)
    → AreMarksOf (change (newest s.durable s.since)) loose lost → Follow (in_each change s) loose lost
each_marked change s loose lost h =
    subst (λ (v : Version). AreMarksOf v loose lost) (sym (newest_of change s.durable s.since)) h

write_marked : (pos len : ℕ) (file : Option File) (s : Showing) (loose lost : Option File)
    → Follow (with_opened true file s) loose lost
    → Follow (with_range pos len file s) (with_marks 1 pos len loose) (with_marks 0 pos len lost)
write_marked pos len None s loose lost h = each_marked (loosen pos len) (or_this (Some empty_file) s) _ _
    (loosen_marked pos len (newest (or_this (Some empty_file) s).durable (or_this (Some empty_file) s).since) loose lost
    h)
write_marked pos len (Some f) s loose lost h = each_marked (loosen pos len) s _ _
    (loosen_marked pos len (newest s.durable s.since) loose lost h)

-- What each call makes of the marks under all names.

by_name : (b : Bool) (x y : Showing) (a a' c c' : Option File) → (b ≡ true → Follow x a c)
    → (b ≡ false → Follow y a' c')
    → Follow (cond b x y) (cond b a a') (cond b c c')
by_name true x y a a' c c' h k = h refl
by_name false x y a a' c c' h k = k refl

stays : (b : Bool) (x y : Showing) (a c : Option File) → (b ≡ true → Follow x a c) → Follow y a c
    → Follow (cond b x y) a c
stays true x y a c h k = h refl
stays false x y a c h k = k

put_marked : (d : Disk) (name : List ℕ) (change : Option File → Showing → Showing) (m : Marked) (a c : Option File)
    → ((n : List ℕ) → n ≡ name → Follow (change (d.reads.files n) (d.shows n)) a c) → FollowDisk d m
    → FollowDisk (under name change d) (record { loose = put m.loose name a; lost = put m.lost name c })
put_marked d name change m a c here h = λ n.
    by_name (bytes_eq n name) (change (d.reads.files n) (d.shows n)) (d.shows n) a (m.loose n) c (m.lost n)
    (λ e. here n (same_name n name e)) (λ e. h n)

-- a change that leaves the newest version
same_marked : (d : Disk) (name : List ℕ) (change : Option File → Showing → Showing) (m : Marked)
    → ((n : List ℕ) → n ≡ name → Follow (change (d.reads.files n) (d.shows n)) (m.loose n) (m.lost n)) → FollowDisk d m
    → FollowDisk (under name change d) m
same_marked d name change m here h = λ n. stays (bytes_eq n name) (change (d.reads.files n) (d.shows n)) (d.shows n)
    (m.loose n) (m.lost n) (λ e. here n (same_name n name e)) (h n)

absent_at : (d : Disk) (name : List ℕ) (m : Marked) (o : Option File) → d.reads.files name ≡ o → FollowDisk d m
    → FollowDisk (under name (with_opened true) d) (cleared_if_absent o name m)
absent_at d name m None is h = put_marked d name (with_opened true) m None None
    (λ n same. subst (λ (o : Option File). Follow (with_opened true o (d.shows n)) None None)
    (sym (ap d.reads.files same ∙ is)) (none_marked (Some empty_file))) h
absent_at d name m (Some f) is h = same_marked d name (with_opened true) m
    (λ n same. subst (λ (o : Option File). Follow (with_opened true o (d.shows n)) (m.loose n) (m.lost n))
    (sym (ap d.reads.files same ∙ is)) (h n)) h

absent_marked : (d : Disk) (name : List ℕ) (m : Marked) → FollowDisk d m
    → FollowDisk (under name (with_opened true) d) (cleared_if_absent (d.reads.files name) name m)
absent_marked d name m h = absent_at d name m (d.reads.files name) refl h

open_marked : (d : Disk) (name : List ℕ) (make : Bool) (m : Marked) → FollowDisk d m
    → FollowDisk (under name (with_opened make) d) (part_marked (image_open name make) d.reads m)
open_marked d name true m h = absent_marked d name m h
open_marked d name false m h = same_marked d name (with_opened false) m (λ n same. h n) h

written_marked : (d : Disk) (name : List ℕ) (pos len : ℕ) (m : Marked) → FollowDisk d m
    → FollowDisk (under name (with_range pos len) d) (range_written d.reads pos len name m)
written_marked d name pos len m h =
    let w : Marked = cleared_if_absent (d.reads.files name) name m in
    let made : FollowDisk (under name (with_opened true) d) w = absent_marked d name m h in
    λ n. by_name (bytes_eq n name) (with_range pos len (d.reads.files n) (d.shows n)) (d.shows n)
    (with_marks 1 pos len (w.loose name)) (w.loose n) (with_marks 0 pos len (w.lost name)) (w.lost n)
    (λ e. subst (λ (k : List ℕ). Follow (with_range pos len (d.reads.files n) (d.shows n))
    (with_marks 1 pos len (w.loose k)) (with_marks 0 pos len (w.lost k))) (same_name n name e)
    (write_marked pos len (d.reads.files n) (d.shows n) (w.loose n) (w.lost n)
    (subst (λ (b : Bool). Follow (cond b (with_opened true (d.reads.files n) (d.shows n)) (d.shows n)) (w.loose n)
    (w.lost n)) e (made n))))
    (λ e. subst (λ (b : Bool). Follow (cond b (with_opened true (d.reads.files n) (d.shows n)) (d.shows n)) (w.loose n)
    (w.lost n)) e (made n))

some_written : (d : Disk) (image : Option (List ℕ)) (pos len : ℕ) (m : Marked) → FollowDisk d m
    → FollowDisk (under_some image (with_range pos len) d) (marked_at image (range_written d.reads pos len) m)
some_written d None pos len m h = h
some_written d (Some name) pos len m h = written_marked d name pos len m h

publish_marked : (d : Disk) (draft : Option (List ℕ)) (name : List ℕ) (m : Marked) → FollowDisk d m
    → FollowDisk (publishing draft name d) (marked_at draft (λ draft. cleared name) m)
publish_marked d None name m h = h
publish_marked d (Some draft) name m h =
    put_marked (under draft with_draft d) name (with_text (d.reads.files draft) d.firm) m None None
    (λ n same. none_marked (d.reads.files draft)) (same_marked d draft with_draft m (λ n same. h n) h)

append_marked : (d : Disk) (draft : Option (List ℕ)) (m : Marked) → FollowDisk d m
    → FollowDisk (under_some draft with_draft d) m
append_marked d None m h = h
append_marked d (Some draft) m h = same_marked d draft with_draft m (λ n same. h n) h

part_follows : (d : Disk) (call : Call) (m : Marked) → FollowDisk d m
    → FollowDisk (after_part call d) (part_marked call d.reads m)
part_follows d (image_open name make) m h = open_marked d name make m h
part_follows d (image_write pos piece) m h = some_written d d.reads.image pos (length piece) m h
part_follows d (draft_begin name) m h = same_marked d name with_draft m (λ n same. h n) h
part_follows d (draft_append piece) m h = append_marked d d.reads.draft m h
part_follows d (draft_publish name) m h = publish_marked d d.reads.draft name m h
part_follows d (map_settle name) m h = absent_marked d (draft_of name) m h
part_follows d (map_remove name) m h =
    put_marked d name (λ file s. or_this None s) m None None (λ n same. none_marked None) h
part_follows d _ m h = h

sync_marked : (d : Disk) (image : Option (List ℕ)) (m : Marked) → FollowDisk d m
    → FollowDisk (under_some image synced d) (marked_at image lost_loose m)
sync_marked d None m h = h
sync_marked d (Some name) m h = λ n. by_one (bytes_eq n name) (synced (d.reads.files n) (d.shows n)) (d.shows n)
    (m.lost name) (m.loose n) (m.lost n)
    (λ e. record {
      loose = λ x. (h n).lost x ∙ ap (λ (k : List ℕ). is_marked (m.lost k) x) (same_name n name e);
      lost = (h n).lost;
    }) (h n)
  where
    by_one : (b : Bool) (x y : Showing) (a a' c : Option File) → (b ≡ true → Follow x a c) → Follow y a' c
        → Follow (cond b x y) (cond b a a') c
    by_one true x y a a' c h k = h refl
    by_one false x y a a' c h k = k

return_follows : (d : Disk) (call : Call) (m : Marked) → FollowDisk d m
    → FollowDisk (after_return call d) (return_marked call d.reads (part_marked call d.reads m))
return_follows d (image_open name make) m h = part_follows d (image_open name make) m h
return_follows d (image_write pos piece) m h = part_follows d (image_write pos piece) m h
return_follows d image_sync m h = sync_marked d d.reads.image m h
return_follows d (draft_begin name) m h = part_follows d (draft_begin name) m h
return_follows d (draft_append piece) m h = part_follows d (draft_append piece) m h
return_follows d (draft_publish name) m h = part_follows d (draft_publish name) m h
return_follows d (map_settle name) m h =
    put_marked (under (draft_of name) (with_opened true) d) name (λ file s. only file)
    (part_marked (map_settle name) d.reads m) None None (λ n same. none_marked (d.reads.files n))
    (part_follows d (map_settle name) m h)
return_follows d (map_remove name) m h = part_follows d (map_remove name) m h
return_follows d _ m h = h

-- a call that failed
by_lost : (b : Bool) (x y : Showing) (a c c' : Option File) → (b ≡ true → Follow x a c) → Follow y a c'
    → Follow (cond b x y) a (cond b c c')
by_lost true x y a c c' h k = h refl
by_lost false x y a c c' h k = k

range_failed : (d : Disk) (image : Option (List ℕ)) (pos len : ℕ) (m : Marked) → FollowDisk d m
    → FollowDisk (under_some image (λ file s. in_each (lose pos len) s) d) (marked_at image (range_lost pos len) m)
range_failed d None pos len m h = h
range_failed d (Some name) pos len m h = λ n. by_lost (bytes_eq n name) (in_each (lose pos len) (d.shows n)) (d.shows n)
    (m.loose n) (with_marks 1 pos len (m.lost name)) (m.lost n)
    (λ e. each_marked (lose pos len) (d.shows n) (m.loose n) (with_marks 1 pos len (m.lost name))
    (subst (λ (k : List ℕ). AreMarksOf (lose pos len (newest (d.shows n).durable (d.shows n).since)) (m.loose n)
    (with_marks 1 pos len (m.lost k))) (same_name n name e)
    (lose_marked pos len (newest (d.shows n).durable (d.shows n).since) (m.loose n) (m.lost n) (h n)))) (h n)

sync_failed : (d : Disk) (image : Option (List ℕ)) (m : Marked) → FollowDisk d m
    → FollowDisk (under_some image (λ file s. in_each lose_all s) d) (marked_at image all_lost m)
sync_failed d None m h = h
sync_failed d (Some name) m h = λ n. by_lost (bytes_eq n name) (in_each lose_all (d.shows n)) (d.shows n)
    (m.loose n) (m.loose name) (m.lost n)
    (λ e. each_marked lose_all (d.shows n) (m.loose n) (m.loose name) (record {
      loose = (h n).loose;
      lost = λ x. (h n).loose x ∙ ap (λ (k : List ℕ). is_marked (m.loose k) x) (same_name n name e);
    })) (h n)

lost_follows : (d : Disk) (call : Call) (m : Marked) → FollowDisk d m
    → FollowDisk (lost_by call d) (failed_marked call d.reads m)
lost_follows d (image_write pos piece) m h = range_failed d d.reads.image pos (length piece) m h
lost_follows d image_sync m h = sync_failed d d.reads.image m h
lost_follows d _ m h = h

some_reads : (o : Option (List ℕ)) (change : Option File → Showing → Showing) (d : Disk)
    → (under_some o change d).reads ≡ d.reads
some_reads None change d = refl
some_reads (Some name) change d = refl

publishing_reads : (o : Option (List ℕ)) (name : List ℕ) (d : Disk) → (publishing o name d).reads ≡ d.reads
publishing_reads None name d = refl
publishing_reads (Some draft) name d = refl

part_reads : (d : Disk) (call : Call) → (after_part call d).reads ≡ d.reads
part_reads d (image_write pos piece) = some_reads d.reads.image (with_range pos (length piece)) d
part_reads d (draft_append piece) = some_reads d.reads.draft with_draft d
part_reads d (draft_publish name) = publishing_reads d.reads.draft name d
part_reads d _ = refl

-- The marks that the code keeps.

pub made_follow : (d : Disk) (call : Call) (reads : Folder) (was part now : Marked) → d.reads ≡ reads
    → part ≡ part_marked call reads was → now ≡ return_marked call reads part → FollowDisk d was
    → FollowDisk (entered d (Done call)) now
made_follow d call reads was part now r p e h =
    subst (FollowDisk (entered d (Done call))) (sym (e ∙ ap (return_marked call reads) p))
    (subst (λ (x : Folder). FollowDisk (entered d (Done call)) (return_marked call x (part_marked call x was))) r
    (return_follows d call was h))

pub failed_follow : (d : Disk) (call : Call) (steps : ℕ) (reads : Folder) (was part now : Marked) → d.reads ≡ reads
    → part ≡ part_marked call reads was → now ≡ failed_marked call reads part → FollowDisk d was
    → FollowDisk (entered d (Failed call steps)) now
failed_follow d call steps reads was part now r p e h =
    subst (FollowDisk (entered d (Failed call steps))) (sym (e ∙ ap (failed_marked call reads) p))
    (subst (λ (x : Folder). FollowDisk (entered d (Failed call steps)) (failed_marked call x (part_marked call x was)))
    r (subst (λ (x : Folder). FollowDisk (lost_by call (after_part call d))
    (failed_marked call x (part_marked call d.reads was))) (part_reads d call)
    (lost_follows (after_part call d) call (part_marked call d.reads was) (part_follows d call was h))))

-- what is lost, by the marks
spoilt_follows : (d : Disk) (m : Marked) → FollowDisk d m → (n : List ℕ)
    → spoilt_at (is_marked (m.lost n)) (d.reads.files n) ≡ spoilt_at (lies_in (lost_in (d.shows n))) (d.reads.files n)
spoilt_follows d m h n = ap (λ (mark : ℕ → Bool). spoilt_at mark (d.reads.files n)) (sym (fun_ext (λ x. (h n).lost x)))

pub sure_follows : (d : Disk) (m : Marked) (call : Call) (kind : Left) → FollowDisk d m
    → sure_marked call kind d.reads m.lost ≡ sure_file call kind d
sure_follows d m image_sync Oldest h = refl
sure_follows d m image_sync Newest h = refl
sure_follows d m image_sync Garbage h = fun_ext (spoilt_follows d m h)
sure_follows d m _ kind h = refl

-- Bytes that are spoilt one after another.

-- below i they are spoilt wherever there is a mark, and the rest are as they were
pub record SpoiltTo (mark : ℕ → Bool) (i : ℕ) (was now : List ℕ) : Type 0 where
  pub size : length now ≡ length was
  pub below : (x : ℕ) → x < length was → x < i → get_or now x 0 ≡ (if mark x then any_byte else get_or was x 0)
  pub above : (x : ℕ) → x < length was → i ≤ x → get_or now x 0 ≡ get_or was x 0

pub spoilt_end : (marks : List ℕ) (i : ℕ) (was now : List ℕ) → min (length was) (length marks) ≤ i
    → SpoiltTo (λ x. nat_lt 0 (get_or marks x 0)) i was now → now ≡ spoilt_from (λ x. nat_lt 0 (get_or marks x 0)) 0 was
spoilt_end marks i was now past h =
    let mark : ℕ → Bool = λ x. nat_lt 0 (get_or marks x 0) in
    ext_get_or 0 now (spoilt_from mark 0 was) (h.size ∙ sym (spoilt_size mark 0 was))
    (λ x lt. let within : x < length was = omega (arith, lt, h.size) in
    elim (cases_lt x i) [
      | inl low ↦ h.below x within low ∙ sym (spoilt_there mark was x within)
      | inr from ↦ h.above x within from
          ∙ sym (spoilt_there mark was x within ∙ ap (λ (b : Bool). if b then any_byte else get_or was x 0)
          (ap (nat_lt 0) (get_or_past marks x 0 (omega (arith, past, from, within)))))
    ])
