-- Garbage leaves other bytes in ranges that aren't synced, and elsewhere what Newest leaves.
use Rattle.std.proofs.Common.{◌≡◌, inl, inr, ℕ, zero, suc, ◌+◌, ◌-◌, ◌≤◌, ◌<◌, min, Bool, true, false, cond, ◌&&◌, ◌||◌, nat_le, nat_lt, if◌then◌else◌, List, [], ◌∷◌, ◌++◌, length, replicate, get_or, Option, Some, None, refl, sym, ◌∙◌, ap, subst, arith}
use Rattle.std.specs.Str.{bytes_eq}
use Rattle.std.proofs.lemmas.Bool.{cases_lt}
use Rattle.std.proofs.lemmas.Bool.Decides.{nat_tests}
use Rattle.std.proofs.Math.Bool.{or-true}
use Rattle.std.proofs.lemmas.List.{get_or-replicate, length-replicate}
use Rattle.memory_site.specs.declared.memory.stop.Left.TheVariants.{Newest, Garbage}
use Rattle.crash_site.specs.Files.{File, empty_file, bytes_of, put, written}
use Rattle.crash_site.specs.Calls.{Call, Entry, Done, Failed, image_open, image_read, image_write, image_sync, map_read, draft_begin, draft_append, draft_sync, draft_publish, map_settle, map_remove}
use Rattle.crash_site.specs.Folder.{Folder}
use Rattle.crash_site.specs.Disk.{Disk, lost_in, at_rest, entered}
use Rattle.crash_site.specs.Left.{IsLoose, until}
use Rattle.memory_site.specs.FilesLeft.{any_byte, begins_at, over, opened_over, written_on, published_as, with_some, moved_to, made_part, sure_name, lies_in, spoilt_from, spoilt_at, sure_file, left_entry, left_along, files_left}
use Rattle.memory_site.specs.Unsynced.{with_ranges, ranges_at, opened_ranges, written_ranges, text_ranges, ranges_moved, part_unsynced, sure_ranges, entry_unsynced, along_unsynced, unsynced_at}
use Rattle.memory_site.specs.LeftLaws.{HasSpoilt, IsSpoilt}
use Rattle.crash_site.proofs.Written.{length-written, written_before, written_inside, written_after}

-- one file

same_file : (o : Option File) → IsSpoilt o [] o
same_file None = tt
same_file (Some f) = record { size = refl; other = λ x lt h. absurd h; same = λ x lt h. refl; regular = λ h. h }

-- One file, with other bytes in some ranges.

pub within : (pos len x : ℕ) → pos ≤ x → x < pos + len → (nat_le pos x && nat_lt x (pos + len)) ≡ true
within pos len x from to = grind (arith, nat_tests)

outside : (pos len x : ℕ) (b : Bool) → (nat_le pos x && nat_lt x (pos + len)) ≡ b
    → ((pos ≤ x) × (x < pos + len) → ⊥) → b ≡ false
outside pos len x true is apart = absurd (apart (grind (arith, nat_tests), grind (arith, nat_tests)))
outside pos len x false is apart = refl

pub lies : (ranges : List (ℕ × ℕ)) (x : ℕ) → IsLoose ranges x → lies_in ranges x ≡ true
lies [] x l = absurd l
lies (r ∷ rs) x (inl h) = ap (λ (b : Bool). b || lies_in rs x) (within r.0 r.1 x h.0 h.1)
lies (r ∷ rs) x (inr h) =
    ap (λ (b : Bool). (nat_le r.0 x && nat_lt x (r.0 + r.1)) || b) (lies rs x h)
    ∙ or-true (nat_le r.0 x && nat_lt x (r.0 + r.1))

pub lies_not : (ranges : List (ℕ × ℕ)) (x : ℕ) → (IsLoose ranges x → ⊥) → lies_in ranges x ≡ false
lies_not [] x apart = refl
lies_not (r ∷ rs) x apart =
    ap (λ (b : Bool). b || lies_in rs x)
    (outside r.0 r.1 x (nat_le r.0 x && nat_lt x (r.0 + r.1)) refl (λ h. apart (inl h)))
    ∙ lies_not rs x (λ h. apart (inr h))

pub spoilt_size : (mark : ℕ → Bool) (x : ℕ) (bytes : List ℕ) → length (spoilt_from mark x bytes) ≡ length bytes
spoilt_size mark x [] = refl
spoilt_size mark x (b ∷ bs) = ap suc (spoilt_size mark (suc x) bs)

spoilt_past : (mark : ℕ → Bool) (from : ℕ) (bytes : List ℕ) (i : ℕ) → i < length bytes
    → get_or (spoilt_from mark from bytes) i 0 ≡ (if mark (from + i) then any_byte else get_or bytes i 0)
spoilt_past mark from [] i lt = absurd (omega (arith, lt))
spoilt_past mark from (b ∷ bs) zero lt =
    ap (λ (x : ℕ). if mark x then any_byte else b) (let e : from ≡ from + 0 = omega arith in e)
spoilt_past mark from (b ∷ bs) (suc i) lt =
    spoilt_past mark (suc from) bs i (omega (arith, lt))
    ∙ ap (λ (x : ℕ). if mark x then any_byte else get_or bs i 0)
    (let e : suc from + i ≡ from + suc i = omega arith in e)

pub spoilt_there : (mark : ℕ → Bool) (bytes : List ℕ) (i : ℕ) → i < length bytes
    → get_or (spoilt_from mark 0 bytes) i 0 ≡ (if mark i then any_byte else get_or bytes i 0)
spoilt_there mark bytes i lt =
    spoilt_past mark 0 bytes i lt
    ∙ ap (λ (x : ℕ). if mark x then any_byte else get_or bytes i 0) (let e : 0 + i ≡ i = omega arith in e)

lost_spoilt : (ranges : List (ℕ × ℕ)) (o : Option File) → IsSpoilt o ranges (spoilt_at (lies_in ranges) o)
lost_spoilt ranges None = tt
lost_spoilt ranges (Some f) = record {
  size = spoilt_size (lies_in ranges) 0 f.bytes;
  other = λ x lt loose. spoilt_there (lies_in ranges) f.bytes x lt
      ∙ ap (λ (b : Bool). if b then any_byte else get_or f.bytes x 0) (lies ranges x loose);
  same = λ x lt outside. spoilt_there (lies_in ranges) f.bytes x lt
      ∙ ap (λ (b : Bool). if b then any_byte else get_or f.bytes x 0) (lies_not ranges x outside);
  regular = λ h. h;
}

-- what a call makes sure
sure_spoilt : (d : Disk) (call : Call) (n : List ℕ)
    → IsSpoilt (sure_file call Newest d n) (sure_ranges call d n) (sure_file call Garbage d n)
sure_spoilt d image_sync n = lost_spoilt (lost_in (d.shows n)) (d.reads.files n)
sure_spoilt d _ n = same_file (d.reads.files n)

-- A write of both files, of the piece and of other bytes.

any_length : (pos at : ℕ) (piece : List ℕ)
    → length (replicate (pos + length piece - at) any_byte) ≡ pos + length piece - at
any_length pos at piece = length-replicate {A = ℕ} (pos + length piece - at) any_byte

write_size : (f g piece : List ℕ) (pos at : ℕ) → length g ≡ length f → at ≡ min pos (length f)
    → length (written g at (replicate (pos + length piece - at) any_byte)) ≡ length (written f pos piece)
write_size f g piece pos at size begins = omega (
  arith,
  length-written f pos piece,
  length-written g at (replicate (pos + length piece - at) any_byte),
  any_length pos at piece,
  size,
  begins,
)

later_range : (from len x : ℕ) (ranges : List (ℕ × ℕ)) → IsLoose ((from, len) ∷ ranges) x
    → ((from ≤ x) → (x < from + len) → ⊥) → IsLoose ranges x
later_range from len x ranges (inl h) outside = absurd (outside h.0 h.1)
later_range from len x ranges (inr h) outside = h

write_other : (f g piece : List ℕ) (pos at x : ℕ) (ranges : List (ℕ × ℕ)) → length g ≡ length f
    → at ≡ min pos (length f)
    → ((y : ℕ) → y < length f → IsLoose ranges y → get_or g y 0 ≡ any_byte)
    → x < length (written f pos piece) → IsLoose ((at, pos + length piece - at) ∷ ranges) x
    → get_or (written g at (replicate (pos + length piece - at) any_byte)) x 0 ≡ any_byte
write_other f g piece pos at x ranges size begins other lt loose =
    let any = any_length pos at piece in
    let bytes : List ℕ = replicate (pos + length piece - at) any_byte in
    let new = length-written f pos piece in
    elim (cases_lt x at) [
      | inl below ↦ written_before g at bytes x below (omega (arith, size, begins, below))
          ∙ other x (omega (arith, begins, below))
          (later_range at (pos + length piece - at) x ranges loose (λ le l. omega (arith, le, below)))
      | inr from ↦ elim (cases_lt x (pos + length piece)) [
        | inl within ↦ written_inside g at bytes x from (omega (arith, any, begins, within))
            ∙ get_or-replicate (pos + length piece - at) (x - at) any_byte 0 (omega (arith, begins, from, within))
        | inr past ↦ written_after g at bytes x (omega (arith, any, begins, past))
            ∙ other x (omega (arith, lt, new, past))
            (later_range at (pos + length piece - at) x ranges loose (λ le l. omega (arith, l, begins, past)))
      ]
    ]

write_same : (f g piece : List ℕ) (pos at x : ℕ) (ranges : List (ℕ × ℕ)) → length g ≡ length f
    → at ≡ min pos (length f)
    → ((y : ℕ) → y < length f → (IsLoose ranges y → ⊥) → get_or g y 0 ≡ get_or f y 0)
    → x < length (written f pos piece) → (IsLoose ((at, pos + length piece - at) ∷ ranges) x → ⊥)
    → get_or (written g at (replicate (pos + length piece - at) any_byte)) x 0 ≡ get_or (written f pos piece) x 0
write_same f g piece pos at x ranges size begins same lt outside =
    let any = any_length pos at piece in
    let bytes : List ℕ = replicate (pos + length piece - at) any_byte in
    let new = length-written f pos piece in
    elim (cases_lt x at) [
      | inl below ↦ written_before g at bytes x below (omega (arith, size, begins, below))
          ∙ same x (omega (arith, begins, below)) (λ h. outside (inr h))
          ∙ sym (written_before f pos piece x (omega (arith, begins, below)) (omega (arith, begins, below)))
      | inr from ↦ elim (cases_lt x (pos + length piece)) [
        | inl within ↦ absurd (outside (inl (from, omega (arith, begins, within))))
        | inr past ↦ written_after g at bytes x (omega (arith, any, begins, past))
            ∙ same x (omega (arith, lt, new, past)) (λ h. outside (inr h))
            ∙ sym (written_after f pos piece x past)
      ]
    ]

bytes_spoilt : (f g : File) (piece : List ℕ) (pos at : ℕ) (ranges : List (ℕ × ℕ)) → at ≡ min pos (length f.bytes)
    → HasSpoilt f ranges g
    → HasSpoilt (record { bytes = written f.bytes pos piece; regular = f.regular })
    ((at, pos + length piece - at) ∷ ranges)
    (record { bytes = written g.bytes at (replicate (pos + length piece - at) any_byte); regular = g.regular })
bytes_spoilt f g piece pos at ranges begins h = record {
  size = write_size f.bytes g.bytes piece pos at h.size begins;
  other = λ x lt loose. write_other f.bytes g.bytes piece pos at x ranges h.size begins h.other lt loose;
  same = λ x lt outside. write_same f.bytes g.bytes piece pos at x ranges h.size begins h.same lt outside;
  regular = h.regular;
}

over_spoilt : (o p : Option File) (pos : ℕ) (piece : List ℕ) (ranges : List (ℕ × ℕ)) → IsSpoilt o ranges p
    → IsSpoilt (Some (over false o pos piece))
    ((begins_at o pos, pos + length piece - begins_at o pos) ∷ ranges) (Some (over true p pos piece))
over_spoilt None None pos piece ranges h =
    bytes_spoilt empty_file empty_file piece pos (min pos 0) ranges refl
    (record {
      size = refl;
      other = λ x lt loose. absurd (let below : x < 0 = lt in omega (arith, below));
      same = λ x lt outside. refl;
      regular = λ r. r;
    })
over_spoilt None (Some g) pos piece ranges h = absurd h
over_spoilt (Some f) None pos piece ranges h = absurd h
over_spoilt (Some f) (Some g) pos piece ranges h =
    subst (λ (m : ℕ). HasSpoilt (record { bytes = written f.bytes pos piece; regular = f.regular })
    ((min pos (length f.bytes), pos + length piece - min pos (length f.bytes)) ∷ ranges)
    (record { bytes = written g.bytes m (replicate (pos + length piece - m) any_byte); regular = g.regular }))
    (ap (min pos) (sym h.size))
    (bytes_spoilt f g piece pos (min pos (length f.bytes)) ranges refl h)

-- What each call makes of one file.

open_spoilt : (make : Bool) (reads o p : Option File) (ranges : List (ℕ × ℕ)) → IsSpoilt o ranges p
    → IsSpoilt (opened_over make reads o) (opened_ranges make reads o ranges) (opened_over make reads p)
open_spoilt true None None None ranges h = same_file (Some empty_file)
open_spoilt true None None (Some g) ranges h = absurd h
open_spoilt true None (Some f) None ranges h = absurd h
open_spoilt true None (Some f) (Some g) ranges h = h
open_spoilt true (Some r) o p ranges h = h
open_spoilt false reads o p ranges h = h

write_spoilt : (reads o p : Option File) (pos : ℕ) (piece : List ℕ) (ranges : List (ℕ × ℕ)) → IsSpoilt o ranges p
    → IsSpoilt (written_on false reads o pos piece) (written_ranges reads o pos piece ranges)
    (written_on true reads p pos piece)
write_spoilt None None None pos piece ranges h = over_spoilt None None pos piece [] tt
write_spoilt (Some r) None None pos piece ranges h = tt
write_spoilt None None (Some g) pos piece ranges h = absurd h
write_spoilt (Some r) None (Some g) pos piece ranges h = absurd h
write_spoilt None (Some f) None pos piece ranges h = absurd h
write_spoilt (Some r) (Some f) None pos piece ranges h = absurd h
write_spoilt None (Some f) (Some g) pos piece ranges h = over_spoilt (Some f) (Some g) pos piece ranges h
write_spoilt (Some r) (Some f) (Some g) pos piece ranges h = over_spoilt (Some f) (Some g) pos piece ranges h

text_spoilt : (firm : Bool) (o : Option File)
    → IsSpoilt (published_as false firm o) (text_ranges firm o) (published_as true firm o)
text_spoilt true o = same_file o
text_spoilt false None = tt
text_spoilt false (Some f) = record {
  size = length-replicate {A = ℕ} (length f.bytes) any_byte;
  other = λ x lt loose. get_or-replicate (length f.bytes) x any_byte 0 lt;
  same = λ x lt outside. absurd (outside (inl (omega arith, omega (arith, lt))));
  regular = λ r. refl;
}

-- Files by name.

pick_spoilt : (b : Bool) (v w x y : Option File) (r l : List (ℕ × ℕ)) → IsSpoilt v r w → IsSpoilt x l y
    → IsSpoilt (cond b v x) (cond b r l) (cond b w y)
pick_spoilt true v w x y r l h k = h
pick_spoilt false v w x y r l h k = k

-- each of these files has other bytes in its ranges
abbrev AllSpoilt : (was : List ℕ → Option File) → (List ℕ → List (ℕ × ℕ)) → (found : List ℕ → Option File) → Type 0
AllSpoilt was ranges found = (n : List ℕ) → IsSpoilt (was n) (ranges n) (found n)

put_spoilt : (f g : List ℕ → Option File) (l : List ℕ → List (ℕ × ℕ)) (name : List ℕ) (v w : Option File)
    (r : List (ℕ × ℕ)) → IsSpoilt v r w → AllSpoilt f l g
    → AllSpoilt (put f name v) (with_ranges name r l) (put g name w)
put_spoilt f g l name v w r here h =
    λ n. pick_spoilt (bytes_eq n name) v w (f n) (g n) r (l n) here (h n)

some_spoilt : (o : Option (List ℕ)) (v w : List ℕ → Option File) (r : List ℕ → List (ℕ × ℕ))
    (f g : List ℕ → Option File) (l : List ℕ → List (ℕ × ℕ)) → AllSpoilt v r w → AllSpoilt f l g
    → AllSpoilt (with_some o v f) (ranges_at o r l) (with_some o w g)
some_spoilt None v w r f g l here h = h
some_spoilt (Some name) v w r f g l here h = put_spoilt f g l name (v name) (w name) (r name) (here name) h

moved_spoilt : (o : Option (List ℕ)) (name : List ℕ) (v w : List ℕ → Option File) (r : List ℕ → List (ℕ × ℕ))
    (f g : List ℕ → Option File) (l : List ℕ → List (ℕ × ℕ)) → AllSpoilt v r w → AllSpoilt f l g
    → AllSpoilt (moved_to o name v f) (ranges_moved o name r l) (moved_to o name w g)
moved_spoilt None name v w r f g l here h = h
moved_spoilt (Some draft) name v w r f g l here h =
    put_spoilt (put f draft None) (put g draft None) (with_ranges draft [] l) name (v draft) (w draft) (r draft)
    (here draft) (put_spoilt f g l draft None None [] tt h)

part_spoilt : (call : Call) (reads : Folder) (firm : Bool) (f g : List ℕ → Option File) (l : List ℕ → List (ℕ × ℕ))
    → AllSpoilt f l g
    → AllSpoilt (made_part false call reads firm f) (part_unsynced call reads firm f l)
    (made_part true call reads firm g)
part_spoilt (image_open name make) reads firm f g l h =
    put_spoilt f g l name (opened_over make (reads.files name) (f name)) (opened_over make (reads.files name) (g name))
    (opened_ranges make (reads.files name) (f name) (l name))
    (open_spoilt make (reads.files name) (f name) (g name) (l name) (h name)) h
part_spoilt (image_write pos piece) reads firm f g l h =
    some_spoilt reads.image (λ n. written_on false (reads.files n) (f n) pos piece)
    (λ n. written_on true (reads.files n) (g n) pos piece)
    (λ n. written_ranges (reads.files n) (f n) pos piece (l n)) f g l
    (λ n. write_spoilt (reads.files n) (f n) (g n) pos piece (l n) (h n)) h
part_spoilt (draft_begin name) reads firm f g l h =
    put_spoilt f g l name (Some empty_file) (Some empty_file) [] (same_file (Some empty_file)) h
part_spoilt (draft_append piece) reads firm f g l h =
    some_spoilt reads.draft (λ n. Some (record { bytes = bytes_of (reads.files n) ++ piece; regular = true }))
    (λ n. Some (record { bytes = bytes_of (reads.files n) ++ piece; regular = true })) (λ n. []) f g l
    (λ n. same_file (Some (record { bytes = bytes_of (reads.files n) ++ piece; regular = true }))) h
part_spoilt (draft_publish name) reads firm f g l h =
    moved_spoilt reads.draft name (λ n. published_as false firm (reads.files n))
    (λ n. published_as true firm (reads.files n)) (λ n. text_ranges firm (reads.files n)) f g l
    (λ n. text_spoilt firm (reads.files n)) h
part_spoilt (map_remove name) reads firm f g l h = put_spoilt f g l name None None [] tt h
part_spoilt _ reads firm f g l h = h

entry_spoilt : (d : Disk) (e : Entry) (f g : List ℕ → Option File) (l : List ℕ → List (ℕ × ℕ)) → AllSpoilt f l g
    → AllSpoilt (left_entry Newest d e f) (entry_unsynced d e f l) (left_entry Garbage d e g)
entry_spoilt d (Done call) f g l h =
    some_spoilt (sure_name call d.reads) (sure_file call Newest d) (sure_file call Garbage d) (sure_ranges call d)
    (made_part false call d.reads d.firm f) (made_part true call d.reads d.firm g)
    (part_unsynced call d.reads d.firm f l) (sure_spoilt d call)
    (part_spoilt call d.reads d.firm f g l h)
entry_spoilt d (Failed call steps) f g l h = part_spoilt call d.reads d.firm f g l h

along_spoilt : (d : Disk) (f g : List ℕ → Option File) (l : List ℕ → List (ℕ × ℕ)) (es : List Entry) → AllSpoilt f l g
    → AllSpoilt (left_along Newest d f es) (along_unsynced d f l es) (left_along Garbage d g es)
along_spoilt d f g l [] h = h
along_spoilt d f g l (e ∷ es) h =
    along_spoilt (entered d e) (left_entry Newest d e f) (left_entry Garbage d e g) (entry_unsynced d e f l) es
    (entry_spoilt d e f g l h)

pub garbage_left : (start : Folder) (calls : List Entry) (k : ℕ) (n : List ℕ)
    → IsSpoilt (files_left Newest start calls k n) (unsynced_at start calls k n) (files_left Garbage start calls k n)
garbage_left start calls k = along_spoilt (at_rest start) start.files start.files (λ n. []) (until k calls)
    (λ n. same_file (start.files n))
