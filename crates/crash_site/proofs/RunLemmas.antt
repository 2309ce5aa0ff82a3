-- A run on an image that had lost ranges when it began.
use Rattle.std.proofs.Common.{◌≡◌, ◌⊎◌, inl, inr, ⊎_elim, ℕ, zero, suc, ◌+◌, true, false, cond, List, [], ◌∷◌, ◌++◌, length, Option, Some, None, refl, sym, ◌∙◌, ap, subst, arith}
use Rattle.std.specs.Str.{bytes_eq}
use Rattle.std.proofs.lemmas.Bool.{cases_Bool, cond-true, cond-false}
use Rattle.std.proofs.lemmas.Option.{same_Some}
use Rattle.crash_site.specs.Files.{File, bytes_of, empty_file, draft_of, put, written_file}
use Rattle.crash_site.specs.Calls.{Call, Entry, Done, Failed, image_open, image_read, image_write, image_sync, map_read, draft_begin, draft_append, draft_sync, draft_publish, map_settle, map_remove}
use Rattle.crash_site.specs.Folder.{Folder, with_piece, appended, published as moved, after_done, after}
use Rattle.crash_site.specs.Disk.{Showing, Disk, only, lose, lose_all, in_each, lost_in, synced, at_rest, or_this, with_range, with_opened, under, under_some, with_draft, with_text, publishing, after_part, after_return, entered, disk_after}
use Rattle.crash_site.specs.Left.{MayShow, Leaves, until}
use Rattle.crash_site.specs.Changes.{Changes}
use Rattle.crash_site.proofs.DiskLemmas.{run-append, run_reads, same_name, reads_rest}
use Rattle.crash_site.proofs.LawLemmas.{own_name, other_name, at_other, some_other, part_other, done_other, shows_synced, left_past}
use Rattle.crash_site.proofs.NestLemmas.{nested_run, nested_rest, synced_narrows}
use Rattle.crash_site.proofs.Touches.{Touch, Wrote, Synced, Unwrote, Unsynced, Image, touched, touched_by, AreOfRun, after_sync}
use Rattle.crash_site.specs.LostLaws.{IsCallOn, RunsOn, with_image, LostIsResolvedAfter}
use Rattle.crash_site.proofs.ResolveLemmas.{lost_resolved}

-- ---- the image's own calls

-- the calls on the image among those of a run
abbrev pub touches : List Entry → List Touch
touches [] = []
touches (Done (image_write pos piece) ∷ es) = Wrote pos piece ∷ touches es
touches (Done image_sync ∷ es) = Synced ∷ touches es
touches (Failed (image_write pos piece) steps ∷ es) = Unwrote pos piece ∷ touches es
touches (Failed image_sync steps ∷ es) = Unsynced ∷ touches es
touches (e ∷ es) = touches es

none_touched : (es : List Entry) → es ≡ [] → touches es ≡ []
none_touched es is = ap touches is

run_touches : (o : List ℕ) (d : Folder) (es : List Entry) → RunsOn o d es → AreOfRun (touches es)
run_touches o d [] h = tt
run_touches o d (Done (image_open name make) ∷ es) h = absurd h.0
run_touches o d (Done (image_read pos asked answer) ∷ es) h =
    run_touches o (after_done d (image_read pos asked answer)) es h.1
run_touches o d (Done (image_write pos piece) ∷ es) h = run_touches o (after_done d (image_write pos piece)) es h.1
run_touches o d (Done image_sync ∷ es) h = run_touches o (after_done d image_sync) es h.1
run_touches o d (Done (map_read name pos asked answer) ∷ es) h =
    run_touches o (after_done d (map_read name pos asked answer)) es h.1
run_touches o d (Done (draft_begin name) ∷ es) h = run_touches o (after_done d (draft_begin name)) es h.1
run_touches o d (Done (draft_append piece) ∷ es) h = run_touches o (after_done d (draft_append piece)) es h.1
run_touches o d (Done draft_sync ∷ es) h = run_touches o (after_done d draft_sync) es h.1
run_touches o d (Done (draft_publish name) ∷ es) h = run_touches o (after_done d (draft_publish name)) es h.1
run_touches o d (Done (map_settle name) ∷ es) h = run_touches o (after_done d (map_settle name)) es h.1
run_touches o d (Done (map_remove name) ∷ es) h = run_touches o (after_done d (map_remove name)) es h.1
run_touches o d (Failed call steps ∷ []) h = last call
  where
    last : (call : Call) → AreOfRun (touches (Failed call steps ∷ []))
    last (image_open name make) = tt
    last (image_read pos asked answer) = tt
    last (image_write pos piece) = refl
    last image_sync = refl
    last (map_read name pos asked answer) = tt
    last (draft_begin name) = tt
    last (draft_append piece) = tt
    last draft_sync = tt
    last (draft_publish name) = tt
    last (map_settle name) = tt
    last (map_remove name) = tt
run_touches o d (Failed call steps ∷ e ∷ es) h = absurd (let none : e ∷ es ≡ [] = h.1 in cc)

pub some_own : (d : Disk) (o : Option (List ℕ)) (name : List ℕ) (change : Option File → Showing → Showing)
    → o ≡ Some name
    → (under_some o change d).shows name ≡ change (d.reads.files name) (d.shows name)
some_own d None name change is = absurd (cc)
some_own d (Some n) name change is =
    let same : n ≡ name = same_Some n name is in
    cond-true (bytes_eq name n) (change (d.reads.files name) (d.shows name)) (d.shows name)
    (ap (λ (m : List ℕ). bytes_eq name m) same ∙ own_name name)

pub piece_own : (d : Folder) (o : Option (List ℕ)) (name : List ℕ) (pos : ℕ) (piece : List ℕ) → o ≡ Some name
    → (with_piece d o pos piece).files name ≡ Some (written_file (d.files name) pos piece)
piece_own d None name pos piece is = absurd (cc)
piece_own d (Some n) name pos piece is =
    let same : n ≡ name = same_Some n name is in
    cond-true (bytes_eq name n) (Some (written_file (d.files n) pos piece)) (d.files name)
    (ap (λ (m : List ℕ). bytes_eq name m) same ∙ own_name name)
    ∙ ap (λ (m : List ℕ). Some (written_file (d.files m) pos piece)) same

pub piece_image : (d : Folder) (o : Option (List ℕ)) (pos : ℕ) (piece : List ℕ)
    → (with_piece d o pos piece).image ≡ d.image
piece_image d None pos piece = refl
piece_image d (Some n) pos piece = refl

appended_image : (d : Folder) (o : Option (List ℕ)) (piece : List ℕ) → (appended d o piece).image ≡ d.image
appended_image d None piece = refl
appended_image d (Some n) piece = refl

moved_image : (d : Folder) (o : Option (List ℕ)) (name : List ℕ) → (moved d o name).image ≡ d.image
moved_image d None name = refl
moved_image d (Some n) name = refl

-- the image of a disk
pub record At (o : List ℕ) (d : Disk) (i : Image) : Type 0 where
  pub image : d.reads.image ≡ Some o
  pub reads : d.reads.files o ≡ Some i.reads
  pub shows : d.shows o ≡ i.shows

-- a call that leaves the image
stays : (o : List ℕ) (d : Disk) (call : Call) (i : Image) → (Changes d.reads call o → ⊥)
    → (after_return call d).shows o ≡ d.shows o → (after_done d.reads call).image ≡ d.reads.image → At o d i
    → At o (entered d (Done call)) i
stays o d call i off shown image h = record {
  image = image ∙ h.image;
  reads = done_other d.reads call o off ∙ h.reads;
  shows = shown ∙ h.shows;
}

at_done : (o : List ℕ) (d : Disk) (call : Call) (es : List Entry) (i : Image) → IsCallOn o d.reads call → At o d i
    → ((j : Image) → At o (entered d (Done call)) j
    → (disk_after (entered d (Done call)) es).shows o ≡ (touched_by j (touches es)).shows)
    → (disk_after (entered d (Done call)) es).shows o ≡ (touched_by i (touches (Done call ∷ es))).shows
at_done o d (image_open name make) es i of h go = absurd of
at_done o d (image_read pos asked answer) es i of h go =
    go i (record { image = h.image; reads = h.reads; shows = h.shows })
at_done o d (image_write pos piece) es i of h go = go (touched i (Wrote pos piece)) (record {
  image = piece_image d.reads d.reads.image pos piece ∙ h.image;
  reads = piece_own d.reads d.reads.image o pos piece h.image
      ∙ ap (λ (f : Option File). Some (written_file f pos piece)) h.reads;
  shows = some_own d d.reads.image o (with_range pos (length piece)) h.image
      ∙ ap (λ (f : Option File). with_range pos (length piece) f (d.shows o)) h.reads
      ∙ ap (with_range pos (length piece) (Some i.reads)) h.shows;
})
at_done o d image_sync es i of h go = go (touched i Synced) (record {
  image = h.image;
  reads = h.reads;
  shows = some_own d d.reads.image o synced h.image ∙ ap (λ (f : Option File). synced f (d.shows o)) h.reads
      ∙ ap (synced (Some i.reads)) h.shows;
})
at_done o d (map_read name pos asked answer) es i of h go =
    go i (record { image = h.image; reads = h.reads; shows = h.shows })
at_done o d (draft_begin name) es i of h go =
    go i (stays o d (draft_begin name) i of (part_other d (draft_begin name) o of) refl h)
at_done o d (draft_append piece) es i of h go =
    go i (stays o d (draft_append piece) i of (part_other d (draft_append piece) o of)
    (appended_image d.reads d.reads.draft piece) h)
at_done o d draft_sync es i of h go = go i (record { image = h.image; reads = h.reads; shows = h.shows })
at_done o d (draft_publish name) es i of h go =
    go i (stays o d (draft_publish name) i of (part_other d (draft_publish name) o of)
    (moved_image d.reads d.reads.draft name) h)
at_done o d (map_settle name) es i of h go =
    go i (record {
      image = h.image;
      reads = h.reads;
      shows = at_other (after_part (map_settle name) d) name o (λ file s. only file) of.0
          ∙ part_other d (map_settle name) o of.1 ∙ h.shows;
    })
at_done o d (map_remove name) es i of h go =
    go i (stays o d (map_remove name) i of (part_other d (map_remove name) o of) refl h)

wrote_reads : (d : Disk) (o : Option (List ℕ)) (change : Option File → Showing → Showing)
    → (under_some o change d).reads ≡ d.reads
wrote_reads d None change = refl
wrote_reads d (Some n) change = refl

at_failed : (o : List ℕ) (d : Disk) (call : Call) (steps : ℕ) (i : Image) → IsCallOn o d.reads call → At o d i
    → (entered d (Failed call steps)).shows o ≡ (touched_by i (touches (Failed call steps ∷ []))).shows
at_failed o d (image_open name make) steps i of h = absurd of
at_failed o d (image_read pos asked answer) steps i of h = h.shows
at_failed o d (image_write pos piece) steps i of h =
    let mid : Disk = under_some d.reads.image (with_range pos (length piece)) d in
    some_own mid mid.reads.image o (λ file s. in_each (lose pos (length piece)) s)
    (ap (λ (r : Folder). r.image) (wrote_reads d d.reads.image (with_range pos (length piece))) ∙ h.image)
    ∙ ap (in_each (lose pos (length piece)))
    (some_own d d.reads.image o (with_range pos (length piece)) h.image
    ∙ ap (λ (f : Option File). with_range pos (length piece) f (d.shows o)) h.reads
    ∙ ap (with_range pos (length piece) (Some i.reads)) h.shows)
at_failed o d image_sync steps i of h =
    some_own d d.reads.image o (λ file s. in_each lose_all s) h.image ∙ ap (in_each lose_all) h.shows
at_failed o d (map_read name pos asked answer) steps i of h = h.shows
at_failed o d (draft_begin name) steps i of h = part_other d (draft_begin name) o of ∙ h.shows
at_failed o d (draft_append piece) steps i of h = part_other d (draft_append piece) o of ∙ h.shows
at_failed o d draft_sync steps i of h = h.shows
at_failed o d (draft_publish name) steps i of h = part_other d (draft_publish name) o of ∙ h.shows
at_failed o d (map_settle name) steps i of h = part_other d (map_settle name) o of.1 ∙ h.shows
at_failed o d (map_remove name) steps i of h = part_other d (map_remove name) o of ∙ h.shows

pub at_run : (o : List ℕ) (d : Disk) (es : List Entry) (i : Image) → RunsOn o d.reads es → At o d i
    → (disk_after d es).shows o ≡ (touched_by i (touches es)).shows
at_run o d [] i run h = h.shows
at_run o d (Done call ∷ es) i run h =
    at_done o d call es i run.0 h (λ j there. at_run o (entered d (Done call)) es j run.1 there)
at_run o d (Failed call steps ∷ []) i run h = at_failed o d call steps i run.0 h
at_run o d (Failed call steps ∷ e ∷ es) i run h = absurd (let none : e ∷ es ≡ [] = run.1 in cc)

-- ---- other files

-- two disks that differ at most in the image
record Off (o : List ℕ) (d d' : Disk) : Type 0 where
  pub image : d'.reads.image ≡ d.reads.image
  pub draft : d'.reads.draft ≡ d.reads.draft
  pub firm : d'.firm ≡ d.firm
  pub files : (n : List ℕ) → (n ≡ o → ⊥) → d'.reads.files n ≡ d.reads.files n
  pub shows : (n : List ℕ) → (n ≡ o → ⊥) → d'.shows n ≡ d.shows n

under_off : (o : List ℕ) (d d' : Disk) (name n : List ℕ) (change : Option File → Showing → Showing) → Off o d d'
    → (n ≡ o → ⊥) → (under name change d').shows n ≡ (under name change d).shows n
under_off o d d' name n change h apart =
    λ i. cond (bytes_eq n name) (change (h.files n apart i) (h.shows n apart i)) (h.shows n apart i)

some_off : (o : List ℕ) (d d' : Disk) (name : Option (List ℕ)) (n : List ℕ) (change : Option File → Showing → Showing)
    → Off o d d' → (n ≡ o → ⊥) → (under_some name change d').shows n ≡ (under_some name change d).shows n
some_off o d d' None n change h apart = h.shows n apart
some_off o d d' (Some name) n change h apart = under_off o d d' name n change h apart

publishing_off : (o : List ℕ) (d d' : Disk) (draft : Option (List ℕ)) (name n : List ℕ) → Off o d d'
    → (draft ≡ Some o → ⊥)
    → (n ≡ o → ⊥) → (publishing draft name d').shows n ≡ (publishing draft name d).shows n
publishing_off o d d' None name n h off apart = h.shows n apart
publishing_off o d d' (Some draft) name n h off apart =
    let from : d'.reads.files draft ≡ d.reads.files draft
    = h.files draft (λ e. off (ap (λ (m : List ℕ). Some m) e)) in
    λ i. cond (bytes_eq n name)
    (with_text (from i) (h.firm i) (h.files n apart i)
    (cond (bytes_eq n draft) (with_draft (h.files n apart i) (h.shows n apart i)) (h.shows n apart i)))
    (cond (bytes_eq n draft) (with_draft (h.files n apart i) (h.shows n apart i)) (h.shows n apart i))

put_off : (f f' : List ℕ → Option File) (name n : List ℕ) (v v' : Option File) → v' ≡ v → f' n ≡ f n
    → put f' name v' n ≡ put f name v n
put_off f f' name n v v' same rest = λ i. cond (bytes_eq n name) (same i) (rest i)

piece_draft : (d : Folder) (o : Option (List ℕ)) (pos : ℕ) (piece : List ℕ) → (with_piece d o pos piece).draft ≡ d.draft
piece_draft d None pos piece = refl
piece_draft d (Some n) pos piece = refl

appended_draft : (d : Folder) (o : Option (List ℕ)) (piece : List ℕ) → (appended d o piece).draft ≡ d.draft
appended_draft d None piece = refl
appended_draft d (Some n) piece = refl

moved_none : (d : Folder) (o : Option (List ℕ)) (name : List ℕ) → d.draft ≡ o → (moved d o name).draft ≡ None
moved_none d None name is = is
moved_none d (Some n) name is = refl

appended_off : (o : List ℕ) (d d' : Disk) (draft : Option (List ℕ)) (piece n : List ℕ) → Off o d d'
    → (draft ≡ Some o → ⊥)
    → (n ≡ o → ⊥) → (appended d'.reads draft piece).files n ≡ (appended d.reads draft piece).files n
appended_off o d d' None piece n h off apart = h.files n apart
appended_off o d d' (Some draft) piece n h off apart =
    let from : d'.reads.files draft ≡ d.reads.files draft = h.files draft (λ e. off (ap (λ (m : List ℕ). Some m) e)) in
    put_off d.reads.files d'.reads.files draft n (Some
    (record { bytes = bytes_of (d.reads.files draft) ++ piece; regular = true }))
    (Some (record { bytes = bytes_of (d'.reads.files draft) ++ piece; regular = true }))
    (ap (λ (f : Option File). Some (record { bytes = bytes_of f ++ piece; regular = true })) from) (h.files n apart)

moved_off : (o : List ℕ) (d d' : Disk) (draft : Option (List ℕ)) (name n : List ℕ) → Off o d d' → (draft ≡ Some o → ⊥)
    → (n ≡ o → ⊥) → (moved d'.reads draft name).files n ≡ (moved d.reads draft name).files n
moved_off o d d' None name n h off apart = h.files n apart
moved_off o d d' (Some draft) name n h off apart =
    let from : d'.reads.files draft ≡ d.reads.files draft = h.files draft (λ e. off (ap (λ (m : List ℕ). Some m) e)) in
    put_off (put d.reads.files draft None) (put d'.reads.files draft None) name n (d.reads.files draft)
    (d'.reads.files draft) from
    (put_off d.reads.files d'.reads.files draft n None None refl (h.files n apart))

-- the image's name is not another one
not_image : (d : Disk) (o n : List ℕ) → d.reads.image ≡ Some o → (n ≡ o → ⊥) → d.reads.image ≡ Some n → ⊥
not_image d o n is apart other = apart (same_Some n o (sym other ∙ is))

off_done : (o : List ℕ) (d d' : Disk) (call : Call) → d.reads.image ≡ Some o → IsCallOn o d.reads call → Off o d d'
    → Off o (entered d (Done call)) (entered d' (Done call))
off_done o d d' (image_open name make) im of h = absurd of
off_done o d d' (image_read pos asked answer) im of h = h
off_done o d d' (image_write pos piece) im of h = record {
  image = piece_image d'.reads d'.reads.image pos piece ∙ h.image ∙ sym (piece_image d.reads d.reads.image pos piece);
  draft = piece_draft d'.reads d'.reads.image pos piece ∙ h.draft ∙ sym (piece_draft d.reads d.reads.image pos piece);
  firm = wrote_firm d' d'.reads.image ∙ h.firm ∙ sym (wrote_firm d d.reads.image);
  files = λ n apart.
      done_other d'.reads (image_write pos piece) n (not_image d' o n (h.image ∙ im) apart) ∙ h.files n apart
      ∙ sym (done_other d.reads (image_write pos piece) n (not_image d o n im apart));
  shows = λ n apart.
      part_other d' (image_write pos piece) n (not_image d' o n (h.image ∙ im) apart) ∙ h.shows n apart
      ∙ sym (part_other d (image_write pos piece) n (not_image d o n im apart));
}
  where
    wrote_firm : (e : Disk) (p : Option (List ℕ)) → (under_some p (with_range pos (length piece)) e).firm ≡ e.firm
    wrote_firm e None = refl
    wrote_firm e (Some m) = refl
off_done o d d' image_sync im of h = record {
  image = h.image;
  draft = h.draft;
  firm = sync_firm d' d'.reads.image ∙ h.firm ∙ sym (sync_firm d d.reads.image);
  files = h.files;
  shows = λ n apart.
      some_other d' d'.reads.image n synced (not_image d' o n (h.image ∙ im) apart) ∙ h.shows n apart
      ∙ sym (some_other d d.reads.image n synced (not_image d o n im apart));
}
  where
    sync_firm : (e : Disk) (p : Option (List ℕ)) → (under_some p synced e).firm ≡ e.firm
    sync_firm e None = refl
    sync_firm e (Some m) = refl
off_done o d d' (map_read name pos asked answer) im of h = h
off_done o d d' (draft_begin name) im of h = record {
  image = h.image;
  draft = refl;
  firm = refl;
  files = λ n apart. put_off d.reads.files d'.reads.files name n (Some empty_file) (Some empty_file) refl
      (h.files n apart);
  shows = λ n apart. under_off o d d' name n with_draft h apart;
}
off_done o d d' (draft_append piece) im of h = record {
  image = appended_image d'.reads d'.reads.draft piece ∙ h.image ∙ sym (appended_image d.reads d.reads.draft piece);
  draft = appended_draft d'.reads d'.reads.draft piece ∙ h.draft ∙ sym (appended_draft d.reads d.reads.draft piece);
  firm = refl;
  files = λ n apart.
      ap (λ (r : Option (List ℕ)). (appended d'.reads r piece).files n) h.draft
      ∙ appended_off o d d' d.reads.draft piece n h of apart;
  shows = λ n apart.
      ap (λ (r : Option (List ℕ)). (under_some r with_draft d').shows n) h.draft
      ∙ some_off o d d' d.reads.draft n with_draft h apart;
}
off_done o d d' draft_sync im of h =
    record { image = h.image; draft = h.draft; firm = refl; files = h.files; shows = h.shows }
off_done o d d' (draft_publish name) im of h = record {
  image = moved_image d'.reads d'.reads.draft name ∙ h.image ∙ sym (moved_image d.reads d.reads.draft name);
  draft = moved_none d'.reads d'.reads.draft name refl ∙ sym (moved_none d.reads d.reads.draft name refl);
  firm = publish_firm d' d'.reads.draft ∙ h.firm ∙ sym (publish_firm d d.reads.draft);
  files = λ n apart.
      ap (λ (r : Option (List ℕ)). (moved d'.reads r name).files n) h.draft
      ∙ moved_off o d d' d.reads.draft name n h (λ e. of (inl e)) apart;
  shows = λ n apart.
      ap (λ (r : Option (List ℕ)). (publishing r name d').shows n) h.draft
      ∙ publishing_off o d d' d.reads.draft name n h (λ e. of (inl e)) apart;
}
  where
    publish_firm : (e : Disk) (p : Option (List ℕ)) → (publishing p name e).firm ≡ e.firm
    publish_firm e None = refl
    publish_firm e (Some m) = refl
off_done o d d' (map_settle name) im of h = record {
  image = h.image;
  draft = h.draft;
  firm = h.firm;
  files = h.files;
  shows = λ n apart. under_off o (after_part (map_settle name) d) (after_part (map_settle name) d') name n
      (λ file s. only file)
      (record {
        image = h.image;
        draft = h.draft;
        firm = h.firm;
        files = h.files;
        shows = λ m off. under_off o d d' (draft_of name) m (with_opened true) h off;
      }) apart;
}
off_done o d d' (map_remove name) im of h = record {
  image = h.image;
  draft = h.draft;
  firm = h.firm;
  files = λ n apart. put_off d.reads.files d'.reads.files name n None None refl (h.files n apart);
  shows = λ n apart. under_off o d d' name n (λ file s. or_this None s) h apart;
}

unwrote_other : (d : Disk) (o n : List ℕ) (pos : ℕ) (piece : List ℕ) (steps : ℕ) → d.reads.image ≡ Some o → (n ≡ o → ⊥)
    → (entered d (Failed (image_write pos piece) steps)).shows n ≡ d.shows n
unwrote_other d o n pos piece steps im apart =
    let mid : Disk = under_some d.reads.image (with_range pos (length piece)) d in
    some_other mid mid.reads.image n (λ file s. in_each (lose pos (length piece)) s)
    (not_image mid o n (ap (λ (r : Folder). r.image) (wrote_reads d d.reads.image (with_range pos (length piece))) ∙ im)
    apart)
    ∙ part_other d (image_write pos piece) n (not_image d o n im apart)

off_failed : (o : List ℕ) (d d' : Disk) (call : Call) (steps : ℕ) → d.reads.image ≡ Some o → IsCallOn o d.reads call
    → Off o d d' → (n : List ℕ) → (n ≡ o → ⊥)
    → (entered d' (Failed call steps)).shows n ≡ (entered d (Failed call steps)).shows n
off_failed o d d' (image_open name make) steps im of h n apart = absurd of
off_failed o d d' (image_read pos asked answer) steps im of h n apart = h.shows n apart
off_failed o d d' (image_write pos piece) steps im of h n apart =
    unwrote_other d' o n pos piece steps (h.image ∙ im) apart ∙ h.shows n apart
    ∙ sym (unwrote_other d o n pos piece steps im apart)
off_failed o d d' image_sync steps im of h n apart =
    some_other d' d'.reads.image n (λ file s. in_each lose_all s) (not_image d' o n (h.image ∙ im) apart)
    ∙ h.shows n apart
    ∙ sym (some_other d d.reads.image n (λ file s. in_each lose_all s) (not_image d o n im apart))
off_failed o d d' (map_read name pos asked answer) steps im of h n apart = h.shows n apart
off_failed o d d' (draft_begin name) steps im of h n apart = under_off o d d' name n with_draft h apart
off_failed o d d' (draft_append piece) steps im of h n apart =
    ap (λ (r : Option (List ℕ)). (under_some r with_draft d').shows n) h.draft
    ∙ some_off o d d' d.reads.draft n with_draft h apart
off_failed o d d' draft_sync steps im of h n apart = h.shows n apart
off_failed o d d' (draft_publish name) steps im of h n apart =
    ap (λ (r : Option (List ℕ)). (publishing r name d').shows n) h.draft
    ∙ publishing_off o d d' d.reads.draft name n h (λ e. of (inl e)) apart
off_failed o d d' (map_settle name) steps im of h n apart = under_off o d d' (draft_of name) n
    (with_opened true) h apart
off_failed o d d' (map_remove name) steps im of h n apart = under_off o d d' name n (λ file s. or_this None s) h apart

pub image_done : (o : List ℕ) (d : Folder) (call : Call) → IsCallOn o d call → (after_done d call).image ≡ d.image
image_done o d (image_open name make) of = absurd of
image_done o d (image_read pos asked answer) of = refl
image_done o d (image_write pos piece) of = piece_image d d.image pos piece
image_done o d image_sync of = refl
image_done o d (map_read name pos asked answer) of = refl
image_done o d (draft_begin name) of = refl
image_done o d (draft_append piece) of = appended_image d d.draft piece
image_done o d draft_sync of = refl
image_done o d (draft_publish name) of = moved_image d d.draft name
image_done o d (map_settle name) of = refl
image_done o d (map_remove name) of = refl

off_run : (o : List ℕ) (d d' : Disk) (es : List Entry) → d.reads.image ≡ Some o → RunsOn o d.reads es → Off o d d'
    → (n : List ℕ) → (n ≡ o → ⊥) → (disk_after d' es).shows n ≡ (disk_after d es).shows n
off_run o d d' [] im run h n apart = h.shows n apart
off_run o d d' (Done call ∷ es) im run h n apart =
    off_run o (entered d (Done call)) (entered d' (Done call)) es (image_done o d.reads call run.0 ∙ im) run.1
    (off_done o d d' call im run.0 h) n apart
off_run o d d' (Failed call steps ∷ []) im run h n apart = off_failed o d d' call steps im run.0 h n apart
off_run o d d' (Failed call steps ∷ e ∷ es) im run h n apart = absurd (let none : e ∷ es ≡ [] = run.1 in cc)

-- the other disk's calls are a run's, too
of_alike : (o : List ℕ) (d d' : Folder) (call : Call) → d'.draft ≡ d.draft → IsCallOn o d call → IsCallOn o d' call
of_alike o d d' (image_open name make) same of = of
of_alike o d d' (image_read pos asked answer) same of = of
of_alike o d d' (image_write pos piece) same of = of
of_alike o d d' image_sync same of = of
of_alike o d d' (map_read name pos asked answer) same of = of
of_alike o d d' (draft_begin name) same of = of
of_alike o d d' (draft_append piece) same of = λ e. of (sym same ∙ e)
of_alike o d d' draft_sync same of = of
of_alike o d d' (draft_publish name) same of = λ e. of (⊎_elim (λ a. inl (sym same ∙ a)) (λ b. inr b) e)
of_alike o d d' (map_settle name) same of = of
of_alike o d d' (map_remove name) same of = of

runs_alike : (o : List ℕ) (d d' : Disk) (es : List Entry) → d.reads.image ≡ Some o → Off o d d' → RunsOn o d.reads es
    → RunsOn o d'.reads es
runs_alike o d d' [] im h run = tt
runs_alike o d d' (Done call ∷ es) im h run = (
  of_alike o d.reads d'.reads call h.draft run.0,
  runs_alike o (entered d (Done call)) (entered d' (Done call)) es (image_done o d.reads call run.0 ∙ im)
      (off_done o d d' call im run.0 h) run.1,
)
runs_alike o d d' (Failed call steps ∷ es) im h run = (of_alike o d.reads d'.reads call h.draft run.0, run.1)

-- a stop cuts a run to one that ends by a call in progress
runs_until : (o : List ℕ) (d : Folder) (es : List Entry) (k : ℕ) → RunsOn o d es → RunsOn o d (until k es)
runs_until o d [] zero run = tt
runs_until o d [] (suc k) run = tt
runs_until o d (Done call ∷ es) zero run = (run.0, refl)
runs_until o d (Failed call steps ∷ es) zero run = (run.0, refl)
runs_until o d (Done call ∷ es) (suc k) run = (run.0, runs_until o (after_done d call) es k run.1)
runs_until o d (Failed call steps ∷ []) (suc zero) run = (run.0, refl)
runs_until o d (Failed call steps ∷ []) (suc (suc k)) run = (run.0, refl)
runs_until o d (Failed call steps ∷ e ∷ es) (suc k) run = absurd (let none : e ∷ es ≡ [] = run.1 in cc)

pub resolved_after : LostIsResolvedAfter
resolved_after start before calls o file k found open_ there run h =
    let d : Disk = disk_after (at_rest start) before in
    let d1 : Disk = entered d (Done image_sync) in
    let reads : d.reads ≡ after start before = run_reads (at_rest start) before in
    let lost : List (ℕ × ℕ) = lost_in (d.shows o) in
    let im : d.reads.image ≡ Some o = ap (λ (r : Folder). r.image) reads ∙ open_ in
    let is : d.reads.files o ≡ Some file = ap (λ (r : Folder). r.files o) reads ∙ there in
    let es : List Entry = until k calls in
    let here : RunsOn o d1.reads es = runs_until o d1.reads calls k (subst (λ (r : Folder). RunsOn o r calls)
    (sym reads) run) in
    let left : Leaves (disk_after d1 es) found
    = left_past start before (Done image_sync ∷ calls) (suc k) (length before + (1 + k)) found (omega arith) h in
    let at : At o d1 (after_sync file lost) = record {
      image = im;
      reads = is;
      shows = shows_synced d d.reads.image o im ∙ ap (λ (f : Option File). synced f (d.shows o)) is;
    } in
    let w = lost_resolved file lost (touches es) (found o) (run_touches o d1.reads es here)
    (subst (λ (s : Showing). MayShow s (found o)) (at_run o d1 es (after_sync file lost) here at) (left o)) in
    let was : File = w.0 in
    let d2 : Disk = with_image o was d1 in
    let off : Off o d1 d2 = record {
      image = refl;
      draft = refl;
      firm = refl;
      files = λ n apart. cond-false (bytes_eq n o) (Some was) (d1.reads.files n) (other_name n o apart);
      shows = λ n apart. cond-false (bytes_eq n o) (only (Some was)) (d1.shows n) (other_name n o apart);
    } in
    let at2 : At o d2 (after_sync was []) = record {
      image = im;
      reads = cond-true (bytes_eq o o) (Some was) (d1.reads.files o) (own_name o);
      shows = cond-true (bytes_eq o o) (only (Some was)) (d1.shows o) (own_name o);
    } in
    let run2 : RunsOn o d2.reads es = runs_alike o d1 d2 es im off here in
    let own : MayShow ((disk_after d2 es).shows o) (found o)
    = subst (λ (s : Showing). MayShow s (found o)) (sym (at_run o d2 es (after_sync was []) run2 at2)) w.2 in
    let all : Leaves (disk_after d2 es) found = λ n. elim (cases_Bool (bytes_eq n o)) [
      | inl same ↦ subst (λ (m : List ℕ). MayShow ((disk_after d2 es).shows m) (found m)) (sym (same_name n o same)) own
      | inr other ↦ subst (λ (s : Showing). MayShow s (found n))
          (sym (off_run o d1 d2 es im here off n (λ e. absurd (apart_name n o e other)))) (left n)
    ] in (
      was,
      w.1,
      synced_narrows (Some file) (d.shows o) (Some was) (nested_run (at_rest start) before (nested_rest start) o)
          (subst (λ (f : Option File). MayShow (d.shows o) f) is
          (subst (λ (r : Folder). MayShow (d.shows o) (r.files o)) (sym reads) (reads_rest start before o)))
          (inr (inr (inl w.1))),
      subst (λ (x : Disk). Leaves (disk_after (with_image o was x) es) found)
          (sym (run-append (at_rest start) before (Done image_sync ∷ []))) all,
    )
  where
    apart_name : (n o : List ℕ) → n ≡ o → bytes_eq n o ≡ false → ⊥
    apart_name n o e off = absurd (let on : bytes_eq n o ≡ true = ap (λ m. bytes_eq m o) e ∙ own_name o in cc)
