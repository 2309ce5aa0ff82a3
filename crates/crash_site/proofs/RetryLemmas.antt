-- A sync that is made again after it failed, and a map that is published then.
use Rattle.std.proofs.Common.{◌≡◌, inl, inr, ℕ, ◌+◌, true, false, List, [], ◌∷◌, length, Option, Some, None, refl, sym, ◌∙◌, ap, subst, arith}
use Rattle.std.specs.Str.{bytes_eq}
use Rattle.std.proofs.lemmas.Bool.{cases_lt, cond-true}
use Rattle.crash_site.specs.Files.{File, empty_file, put, written_file}
use Rattle.crash_site.specs.Calls.{Done, Failed, image_open, image_write, image_sync, draft_begin, draft_append, draft_sync, draft_publish, map_settle}
use Rattle.crash_site.specs.Folder.{Folder, opened}
use Rattle.crash_site.specs.Disk.{Disk, only, lose_all, in_each, lost_in, synced, at_rest, with_range, with_opened, under, under_some, after_part, entered}
use Rattle.crash_site.specs.Left.{Matches, MatchesFile, MayShow, Leaves}
use Rattle.crash_site.proofs.DiskLemmas.{leaves_part, leaves_failed, leaves_put, leaves_sure, rest_sound, same_name, stands_only}
use Rattle.crash_site.proofs.LawLemmas.{own_name, put_other}
use Rattle.crash_site.proofs.Written.{length-written}
use Rattle.crash_site.specs.LostLaws.{RetriedSyncMayLose, SilentErrorLoses}
use Rattle.crash_site.proofs.ResolveLemmas.{written_out}
use Rattle.crash_site.proofs.RunLemmas.{some_own, piece_own, piece_image}

abbrev opened_file : Option File → File
opened_file None = empty_file
opened_file (Some f) = f

opened_image : (d : Folder) (name : List ℕ) (o : Option File) → (opened d name true o).image ≡ Some name
opened_image d name None = refl
opened_image d name (Some f) = refl

put_own : (f : List ℕ → Option File) (name : List ℕ) (v : Option File) → put f name v name ≡ v
put_own f name v = cond-true (bytes_eq name name) v (f name) (own_name name)

opened_own : (d : Folder) (name : List ℕ) (o : Option File) → d.files name ≡ o
    → (opened d name true o).files name ≡ Some (opened_file o)
opened_own d name None is = put_own d.files name (Some empty_file)
opened_own d name (Some f) is = is

-- what was lost when the sync failed
lost_then : (o : Option File) (pos len : ℕ)
    → lost_in (in_each lose_all (with_range pos len (Some (opened_file o)) (with_opened true o (only o)))) ≡
    (pos, len) ∷ []
lost_then None pos len = refl
lost_then (Some f) pos len = refl

other_piece : (f : File) (pos : ℕ) (piece other : List ℕ) → length other ≡ length piece
    → Matches (written_file (Some f) pos piece) ((pos, length piece) ∷ []) (written_file (Some f) pos other)
other_piece f pos piece other same = record {
  stands = λ x lt. elim (cases_lt x pos) [
    | inl low ↦ inr (written_out f.bytes pos other x (inl low) ∙ sym (written_out f.bytes pos piece x (inl low)))
    | inr le ↦ elim (cases_lt x (pos + length piece)) [
      | inl here ↦ inl (inl (le, here))
      | inr high ↦ inr (written_out f.bytes pos other x (inr (omega (arith, same, high)))
          ∙ sym (written_out f.bytes pos piece x (inr high)))
    ]
  ];
  no_shorter = omega (arith, same, length-written f.bytes pos piece, length-written f.bytes pos other);
  no_longer = omega (arith, same, length-written f.bytes pos piece, length-written f.bytes pos other);
  regular = refl;
}

written_opened : (o : Option File) (pos : ℕ) (piece : List ℕ)
    → written_file (Some (opened_file o)) pos piece ≡ written_file o pos piece
written_opened None pos piece = refl
written_opened (Some f) pos piece = refl

under_named : (d : Disk) (o : Option (List ℕ)) (name : List ℕ) (f : List ℕ → Option File) → o ≡ Some name
    → Leaves (under name synced d) f → Leaves (under_some o synced d) f
under_named d o name f is h = subst (λ (p : Option (List ℕ)). Leaves (under_some p synced d) f) (sym is) h

-- after a sync that returned, another piece may be found in place of one that was lost
left_other : (d : Disk) (files : List ℕ → Option File) (o : Option File) (image : List ℕ) (pos : ℕ)
    (piece other : List ℕ)
    → d.reads.image ≡ Some image
    → d.reads.files image ≡ Some (written_file (Some (opened_file o)) pos piece)
    → lost_in (d.shows image) ≡ (pos, length piece) ∷ [] → length other ≡ length piece → Leaves d files
    → Leaves (under_some d.reads.image synced d) (put files image (Some (written_file o pos other)))
left_other d files o image pos piece other open_ reads lost same h =
    let old : File = written_file (Some (opened_file o)) pos piece in
    let new : Option File = Some (written_file o pos other) in
    let may : MayShow (synced (d.reads.files image) (d.shows image)) new =
    inr (inr (inl
    (subst (λ (r : List (ℕ × ℕ)). MatchesFile (d.reads.files image) r new) (sym lost)
    (subst (λ (f : Option File). MatchesFile f ((pos, length piece) ∷ []) new) (sym reads)
    (subst (λ (g : File). MatchesFile (Some old) ((pos, length piece) ∷ []) (Some g))
    (written_opened o pos other) (other_piece (opened_file o) pos piece other same)))))) in
    under_named d d.reads.image image (put files image new) open_
    (leaves_put d image synced files new h
    (λ n is. subst (λ (m : List ℕ). MayShow (synced (d.reads.files m) (d.shows m)) new)
    (sym (same_name n image is)) may))

pub retried_loses : RetriedSyncMayLose
retried_loses start image draft name pos piece other text apart same =
    let o : Option File = start.files image in
    let len : ℕ = length piece in
    let new : Option File = Some (written_file (start.files image) pos other) in
    let d0 : Disk = at_rest start in
    let d1 : Disk = entered d0 (Done (image_open image true)) in
    let d2 : Disk = entered d1 (Done (image_write pos piece)) in
    let d3 : Disk = entered d2 (Failed image_sync 0) in
    let d4 : Disk = entered d3 (Done image_sync) in
    let d5 : Disk = entered d4 (Done (draft_begin draft)) in
    let d6 : Disk = entered d5 (Done (draft_append text)) in
    let d7 : Disk = entered d6 (Done draft_sync) in
    let d8 : Disk = entered d7 (Done (draft_publish name)) in
    let im1 : d1.reads.image ≡ Some image = opened_image start image o in
    let im2 : d2.reads.image ≡ Some image = piece_image d1.reads d1.reads.image pos piece ∙ im1 in
    let reads1 : d1.reads.files image ≡ Some (opened_file o) = opened_own start image o refl in
    let reads3 : d3.reads.files image ≡ Some (written_file (Some (opened_file o)) pos piece) =
    piece_own d1.reads d1.reads.image image pos piece im1 ∙ ap
    (λ (f : Option File). Some (written_file f pos piece)) reads1 in
    let shows1 : d1.shows image ≡ with_opened true o (only o) =
    cond-true (bytes_eq image image) (with_opened true o (only o)) (only o) (own_name image) in
    let shows2 : d2.shows image ≡ with_range pos len (Some (opened_file o)) (with_opened true o (only o)) =
    some_own d1 d1.reads.image image (with_range pos len) im1
    ∙ ap (λ (f : Option File). with_range pos len f (d1.shows image)) reads1
    ∙ ap (with_range pos len (Some (opened_file o))) shows1 in
    let shows3 : d3.shows image ≡ in_each lose_all (with_range pos len (Some (opened_file o))
    (with_opened true o (only o))) =
    some_own d2 d2.reads.image image (λ f s. in_each lose_all s) im2 ∙ ap (in_each lose_all) shows2 in
    let lost : lost_in (d3.shows image) ≡ (pos, len) ∷ [] = ap lost_in shows3 ∙ lost_then o pos len in
    let h1 : Leaves d1 start.files = leaves_part d0 (image_open image true) start.files (rest_sound start) in
    let h2 : Leaves d2 start.files = leaves_part d1 (image_write pos piece) start.files h1 in
    let h3 : Leaves d3 start.files = leaves_failed d2 image_sync start.files h2 in
    let f4 : List ℕ → Option File = put start.files image new in
    let h4 : Leaves d4 f4 = left_other d3 start.files o image pos piece other im2 reads3 lost same h3 in
    let h5 : Leaves d5 f4 = leaves_part d4 (draft_begin draft) f4 h4 in
    let h6 : Leaves d6 f4 = leaves_part d5 (draft_append text) f4 h5 in
    let h8 : Leaves d8 f4 = leaves_part d7 (draft_publish name) f4 h6 in
    let h9 = leaves_sure (after_part (map_settle name) d8) name (λ file s. only file) f4 (λ file s. stands_only file)
    (leaves_part d8 (map_settle name) f4 h8) in (
      put f4 name (d8.reads.files name),
      h9,
      put_other f4 name image (d8.reads.files name) apart ∙ put_own start.files image new,
      put_own f4 name (d8.reads.files name),
    )

-- An image that is there is opened again.

open_same : (d : Disk) (name : List ℕ) → (entered d (Done (image_open name false))).shows name ≡ d.shows name
open_same d name = cond-true (bytes_eq name name) (d.shows name) (d.shows name) (own_name name)

opened_there : (d : Folder) (name : List ℕ) (f : File) → d.files name ≡ Some f
    → (opened d name false (d.files name)).image ≡ Some name
opened_there d name f is = ap (λ (o : Option File). (opened d name false o).image) is

opened_reads : (d : Folder) (name : List ℕ) (f : File) → d.files name ≡ Some f
    → (opened d name false (d.files name)).files name ≡ Some f
opened_reads d name f is = ap (λ (o : Option File). (opened d name false o).files name) is ∙ is

pub silent_loses : SilentErrorLoses
silent_loses start image pos piece =
    let o : Option File = start.files image in
    let len : ℕ = length piece in
    let written : File = written_file (Some (opened_file o)) pos piece in
    let d1 : Disk = entered (at_rest start) (Done (image_open image true)) in
    let d2 : Disk = entered d1 (Done (image_write pos piece)) in
    let d3 : Disk = entered d2 (Done (image_open image false)) in
    let d4 : Disk = entered d3 (Failed image_sync 0) in
    let d5 : Disk = entered d4 (Done (image_open image false)) in
    let im1 : d1.reads.image ≡ Some image = opened_image start image o in
    let reads1 : d1.reads.files image ≡ Some (opened_file o) = opened_own start image o refl in
    let reads2 : d2.reads.files image ≡ Some written =
    piece_own d1.reads d1.reads.image image pos piece im1
    ∙ ap (λ (f : Option File). Some (written_file f pos piece)) reads1 in
    let im3 : d3.reads.image ≡ Some image = opened_there d2.reads image written reads2 in
    let reads3 : d3.reads.files image ≡ Some written = opened_reads d2.reads image written reads2 in
    let im5 : d5.reads.image ≡ Some image = opened_there d4.reads image written reads3 in
    let reads5 : d5.reads.files image ≡ Some written = opened_reads d4.reads image written reads3 in
    let shows1 : d1.shows image ≡ with_opened true o (only o) =
    cond-true (bytes_eq image image) (with_opened true o (only o)) (only o) (own_name image) in
    let shows2 : d2.shows image ≡ with_range pos len (Some (opened_file o)) (with_opened true o (only o)) =
    some_own d1 d1.reads.image image (with_range pos len) im1
    ∙ ap (λ (f : Option File). with_range pos len f (d1.shows image)) reads1
    ∙ ap (with_range pos len (Some (opened_file o))) shows1 in
    let shows4 : d4.shows image ≡ in_each lose_all (with_range pos len (Some (opened_file o))
    (with_opened true o (only o))) =
    some_own d3 d3.reads.image image (λ f s. in_each lose_all s) im3
    ∙ ap (in_each lose_all) (open_same d2 image ∙ shows2) in
    let lost : lost_in (d5.shows image) ≡ (pos, len) ∷ [] =
    ap lost_in (open_same d4 image) ∙ ap lost_in shows4 ∙ lost_then o pos len in
    let h1 : Leaves d1 start.files =
    leaves_part (at_rest start) (image_open image true) start.files (rest_sound start) in
    let h2 : Leaves d2 start.files = leaves_part d1 (image_write pos piece) start.files h1 in
    let h3 : Leaves d3 start.files = leaves_part d2 (image_open image false) start.files h2 in
    let h4 : Leaves d4 start.files = leaves_failed d3 image_sync start.files h3 in
    let h5 : Leaves d5 start.files = leaves_part d4 (image_open image false) start.files h4 in (
      ap lost_in (some_own d5 d5.reads.image image synced im5) ∙ lost,
      λ other same. left_other d5 start.files o image pos piece other im5 reads5 lost same h5,
    )
