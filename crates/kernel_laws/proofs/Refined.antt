-- Each stop of the kernel is one of the site.
use Rattle.std.proofs.Common.{◌≡◌, ◌⊎◌, inl, inr, ℕ, suc, true, List, [], ◌∷◌, ◌++◌, length, Option, Some, None, refl, sym, ◌∙◌, ap, subst}
use Rattle.std.specs.Str.{bytes_eq}
use Rattle.std.proofs.lemmas.Bool.{cases_Bool, cond-false, cond-true}
use Rattle.kernel_files.specs.Volume.{Volume, Entry as Step, after as after_steps, sync_file, rename, unlink, Done as Did, LeavesOne, Leaves as LeavesEntry, IsAtRest}
use Rattle.kernel_files.specs.Stops.{Along}
use Rattle.kernel_files.proofs.Volumes.{other_name}
use Rattle.crash_site.specs.Files.{File, draft_of}
use Rattle.crash_site.specs.Calls.{Call, Entry, Done, Failed, image_open, image_read, image_write, image_sync, map_read, draft_begin, draft_append, draft_sync, draft_publish, map_settle, map_remove}
use Rattle.crash_site.specs.Folder.{appended, published}
use Rattle.crash_site.specs.Disk.{Showing, Disk, only, or_this, lose_all, in_each, with_draft, with_opened, with_text, publishing, under, under_some, synced as shown_synced, at_rest, entered, disk_after}
use Rattle.crash_site.specs.Left.{MayShow, until, in_part, Leaves}
use Rattle.crash_site.proofs.DiskLemmas.{holds_self}
use Rattle.crash_site.proofs.LawLemmas.{until_all}
use Rattle.kernel_laws.specs.Refines.{as_file, read_at, files_of, Within, IsAmong, IsFirm, Refines, Begun, Imaged, ImageIs, Follows}
use Rattle.kernel_laws.specs.Laws.{EachCallRefines, EachFailureRefines, EachStopRefines, EachEndRefines, Deed, Runs, entries, steps_of, first_folder, IsLeft}
use Rattle.kernel_laws.specs.Calls.{IsApart, SyncsImage, BreaksSync, BreaksSettle, Enters}
use Rattle.kernel_laws.proofs.Nodes.{file_with, firm_reads}
use Rattle.kernel_laws.proofs.Names.{whole_found}
use Rattle.kernel_laws.proofs.Stops.{along_map, run_append}
use Rattle.kernel_laws.proofs.Begins.{Keeps, Fails, begins, breaks_begin}
use Rattle.kernel_laws.proofs.Drafts.{appends, syncs, breaks_append, breaks_sync}
use Rattle.kernel_laws.proofs.Publishes.{publishes, breaks_publish}
use Rattle.kernel_laws.proofs.Removes.{removes, breaks_remove}
use Rattle.kernel_laws.proofs.Settles.{settles, breaks_settle}
use Rattle.kernel_laws.proofs.Spares.{AvoidsAll, image_kept, other_else, begins_avoid, begin_avoids, appends_avoid, append_avoids, settles_avoid, settle_avoids}
use Rattle.kernel_laws.proofs.ImageCalls.{KeepsAll, FailsAll, writes, breaks_write, syncs as syncs_image, breaks_sync as breaks_sync_image}
use Rattle.kernel_laws.proofs.Opens.{opens, breaks_open}

-- One call.

to_keeps : (v : Volume) (d : Disk) (call : Call) (es fs : List Step) (p q : Option ℕ) → es ≡ fs → p ≡ q
    → Keeps v d call fs q
    → Keeps v d call es p
to_keeps v d call es fs p q e f h =
    subst (λ (x : Option ℕ). Keeps v d call es x) (sym f) (subst (λ (l : List Step). Keeps v d call l q) (sym e) h)

to_fails : (v : Volume) (d : Disk) (call : Call) (steps : ℕ) (es fs : List Step) (p q : Option ℕ) → es ≡ fs → p ≡ q
    → Fails v d call steps fs q → Fails v d call steps es p
to_fails v d call steps es fs p q e f h =
    subst (λ (x : Option ℕ). Fails v d call steps es x) (sym f) (subst (λ (l : List Step). Fails v d call steps l q) (sym e) h)

as_some : (v : Volume) (d : Disk) (o : Option ℕ) (i : ℕ) → o ≡ Some i → Refines v d o → Refines v d (Some i)
as_some v d o i e r = subst (λ (x : Option ℕ). Refines v d x) e r

-- the draft's name, as the site knows it
draft_name : (v : Volume) (d : Disk) (i : ℕ) (draft : List ℕ) (r : Refines v d (Some i)) → d.reads.draft ≡ Some draft
    → Begun draft i v
draft_name v d i draft r at =
    let same : r.draft.0 ≡ draft = (let e : Some r.draft.0 ≡ Some draft = sym r.draft.1 ∙ at in cc) in
    subst (λ (n : List ℕ). Begun n i v) same r.draft.2

-- The image, after calls on other files.

kept_image : (v : Volume) (d : Disk) (k : Option ℕ) → ((n : List ℕ) → IsAmong (v.names n) (v.may n)) → ImageIs v d k
    → (es : List Step) (e : Disk) → e.reads.image ≡ d.reads.image
    → ((i : ℕ) (name : List ℕ) → k ≡ Some i → Imaged name i v d
    → AvoidsAll name i es × (e.reads.draft ≡ Some name → ⊥) × (e.shows name ≡ d.shows name)) → ImageIs (after_steps v es) e k
kept_image v d None here is es e image h = image ∙ is
kept_image v d (Some i) here is es e image h =
    let a = h i is.0 refl is.1 in (is.0, image_kept is.0 i v d is.1 here e es a.0 image a.1 a.2)

no_name : (n : List ℕ) → None ≡ Some n → ⊥
no_name n e = cc

same_text : (m n : List ℕ) → Some m ≡ Some n → m ≡ n
same_text m n e = cc

-- a name that isn't the image's
not_it : (v : Volume) (d : Disk) (i : ℕ) (name n : List ℕ) → Imaged name i v d → IsApart d.reads n → name ≡ n → ⊥
not_it v d i name n m apart e = apart (m.image ∙ ap (λ (x : List ℕ). Some x) e)

else_shows : (d : Disk) (name n : List ℕ) (change : Option File → Showing → Showing) → (name ≡ n → ⊥)
    → (under n change d).shows name ≡ d.shows name
else_shows d name n change apart =
    cond-false (bytes_eq name n) (change (d.reads.files name) (d.shows name)) (d.shows name) (other_name name n apart)

-- the trial of a draft doesn't change what may be shown of a file that is there
trial_shows : (d : Disk) (name n : List ℕ) (f : File) → d.reads.files name ≡ Some f
    → (under n (with_opened true) d).shows name ≡ d.shows name
trial_shows d name n f is =
    elim (cases_Bool (bytes_eq name n)) [
      | inl e ↦ cond-true (bytes_eq name n) (with_opened true (d.reads.files name) (d.shows name)) (d.shows name) e
          ∙ ap (λ (x : Option File). with_opened true x (d.shows name)) is
      | inr e ↦ cond-false (bytes_eq name n) (with_opened true (d.reads.files name) (d.shows name)) (d.shows name) e
    ]

module _ (v : Volume) (d : Disk) (o : Option ℕ) (r : Refines v d o) where
  there : (i : ℕ) (name : List ℕ) → Imaged name i v d → d.reads.files name ≡ Some (file_with (v.nodes i).bytes)
  there i name m = r.reads name ∙ ap (λ (e : Option ℕ). as_file (read_at v.nodes e)) m.begun.named

  settle_shows : (i : ℕ) (name n : List ℕ) → Imaged name i v d → IsApart d.reads n
      → (entered d (Done (map_settle n))).shows name ≡ d.shows name
  settle_shows i name n m apart =
      else_shows (under (draft_of n) (with_opened true) d) name n (λ file s. only file) (not_it v d i name n m apart)
      ∙ trial_shows d name (draft_of n) (file_with (v.nodes i).bytes) (there i name m)

  append_shows : (i : ℕ) (name draft : List ℕ) → Imaged name i v d → d.reads.draft ≡ Some draft
      → (under_some d.reads.draft with_draft d).shows name ≡ d.shows name
  append_shows i name draft m is =
      ap (λ (q : Option (List ℕ)). (under_some q with_draft d).shows name) is
      ∙ else_shows d name draft with_draft (λ e. m.draft (is ∙ ap (λ (x : List ℕ). Some x) (sym e)))

  publish_shows : (i : ℕ) (name draft n : List ℕ) → Imaged name i v d → d.reads.draft ≡ Some draft → IsApart d.reads n
      → (publishing d.reads.draft n d).shows name ≡ d.shows name
  publish_shows i name draft n m is apart =
      ap (λ (q : Option (List ℕ)). (publishing q n d).shows name) is
      ∙ else_shows (under draft with_draft d) name n (with_text (d.reads.files draft) d.firm) (not_it v d i name n m apart)
      ∙ else_shows d name draft with_draft (λ e. m.draft (is ∙ ap (λ (x : List ℕ). Some x) (sym e)))

  -- the file of the open draft isn't the image's
  draft_else : (i : ℕ) (name draft : List ℕ) (j : ℕ) → Imaged name i v d → d.reads.draft ≡ Some draft → Begun draft j v
      → j ≡ i → ⊥
  draft_else i name draft j m is b =
      other_else name i v d m r.here draft j (λ e. m.draft (is ∙ ap (λ (x : List ℕ). Some x) (sym e))) b.named

-- a file call, and the image that stays open
all_kept : (v : Volume) (d : Disk) (call : Call) (es : List Step) (k p q : Option ℕ) → Keeps v d call es p → q ≡ k
    → ImageIs (after_steps v es) (entered d (Done call)) k
    → KeepsAll v d call es p q
all_kept v d call es k p q h is image =
    (h.0, record { files = h.1; image = subst (λ (x : Option ℕ). ImageIs (after_steps v es) (entered d (Done call)) x) (sym is) image })

all_failed : (v : Volume) (d : Disk) (call : Call) (steps : ℕ) (es : List Step) (k p q : Option ℕ)
    → Fails v d call steps es p → q ≡ k
    → ImageIs (after_steps v es) (entered d (Failed call steps)) k → FailsAll v d call steps es p q
all_failed v d call steps es k p q h is image =
    (h.0, record { files = h.1; image = subst (λ (x : Option ℕ). ImageIs (after_steps v es) (entered d (Failed call steps)) x) (sym is) image })

-- the same by other names of what is open after it
all_by : (v : Volume) (d : Disk) (call : Call) (es : List Step) (p q x y : Option ℕ) → p ≡ x → q ≡ y
    → KeepsAll v d call es x y → KeepsAll v d call es p q
all_by v d call es p q x y e f h =
    subst (λ (a : Option ℕ). KeepsAll v d call es a q) (sym e) (subst (λ (b : Option ℕ). KeepsAll v d call es x b) (sym f) h)

failed_by : (v : Volume) (d : Disk) (call : Call) (steps : ℕ) (es : List Step) (p q x y : Option ℕ) → p ≡ x → q ≡ y
    → FailsAll v d call steps es x y → FailsAll v d call steps es p q
failed_by v d call steps es p q x y e f h =
    subst (λ (a : Option ℕ). FailsAll v d call steps es a q) (sym e)
    (subst (λ (b : Option ℕ). FailsAll v d call steps es x b) (sym f) h)

as_image : (v : Volume) (d : Disk) (k : Option ℕ) (i : ℕ) → k ≡ Some i → ImageIs v d k → ImageIs v d (Some i)
as_image v d k i e h = subst (λ (x : Option ℕ). ImageIs v d x) e h

-- a call that changes nothing
idle : (v : Volume) (e : Disk) (o k p q : Option ℕ) (es : List Step) → es ≡ [] → p ≡ o → q ≡ k
    → Follows v e o k → Along (Within e) v es × Follows (after_steps v es) e p q
idle v e o k p q es none as_p as_q h =
    subst (λ (l : List Step). Along (Within e) v l × Follows (after_steps v l) e p q) (sym none)
    (subst (λ (a : Option ℕ). Within e v × Follows v e a q) (sym as_p)
    (subst (λ (b : Option ℕ). Within e v × Follows v e o b) (sym as_q) (h.files.shows, h)))

sync_idle : (v : Volume) (d : Disk) (o p q : Option ℕ) (es : List Step) → Follows v d o None → es ≡ [] → p ≡ o → q ≡ None
    → KeepsAll v d image_sync es p q
sync_idle v d o p q es h none as_p as_q =
    let is : d.reads.image ≡ None = h.image in
    let same : Follows v (entered d (Done image_sync)) o None =
    subst (λ (x : Disk). Follows v (record x { reads = d.reads }) o None)
    (sym (ap (λ (i : Option (List ℕ)). under_some i shown_synced d) is))
    (record { files = record { shows = h.files.shows; reads = h.files.reads; here = h.files.here; sound = h.files.sound; draft = h.files.draft }; image = h.image }) in
    let part : Within (entered d (Failed image_sync 0)) v =
    subst (λ (x : Disk). Within (record x { reads = d.reads }) v)
    (sym (ap (λ (i : Option (List ℕ)). under_some i (λ file s. in_each lose_all s) d) is)) h.files.shows in
    all_by v d image_sync es p q o None as_p as_q
    (subst (λ (l : List Step). KeepsAll v d image_sync l o None) (sym none) (part, same))

sync_fails_idle : (v : Volume) (d : Disk) (o p q : Option ℕ) (steps : ℕ) (es : List Step) → Follows v d o None → es ≡ []
    → p ≡ o → q ≡ None → FailsAll v d image_sync steps es p q
sync_fails_idle v d o p q steps es h none as_p as_q =
    let is : d.reads.image ≡ None = h.image in
    let same : Follows v (entered d (Failed image_sync steps)) o None =
    subst (λ (x : Disk). Follows v (record x { reads = d.reads }) o None)
    (sym (ap (λ (i : Option (List ℕ)). under_some i (λ file s. in_each lose_all s) d) is))
    (record { files = record { shows = h.files.shows; reads = h.files.reads; here = h.files.here; sound = h.files.sound; draft = h.files.draft }; image = h.image }) in
    failed_by v d image_sync steps es p q o None as_p as_q
    (subst (λ (l : List Step). FailsAll v d image_sync steps l o None) (sym none) (same.files.shows, same))

sync_by : (v : Volume) (d : Disk) (o k p q : Option ℕ) (es : List Step) → Follows v d o k → SyncsImage v d.reads k es
    → p ≡ o → q ≡ k → KeepsAll v d image_sync es p q
sync_by v d o None p q es h m as_p as_q = sync_idle v d o p q es h m as_p as_q
sync_by v d o (Some i) p q es h m as_p as_q =
    all_by v d image_sync es p q o (Some i) as_p as_q (syncs_image v d o i h.image.0 h.files h.image.1 es m)

sync_fails : (v : Volume) (d : Disk) (o k p q : Option ℕ) (steps : ℕ) (es : List Step) → Follows v d o k
    → BreaksSync d.reads k es
    → p ≡ o → q ≡ k → FailsAll v d image_sync steps es p q
sync_fails v d o None p q steps es h m as_p as_q = sync_fails_idle v d o p q steps es h m as_p as_q
sync_fails v d o (Some i) p q steps es h m as_p as_q =
    failed_by v d image_sync steps es p q o (Some i) as_p as_q
    (breaks_sync_image v d o i h.image.0 h.files h.image.1 steps es m)

-- a settle that failed, of whatever image
settle_avoided : (v : Volume) (d : Disk) (k : Option ℕ) (i : ℕ) (name n : List ℕ) (steps : ℕ) (es : List Step) → k ≡ Some i
    → (m : Imaged name i v d) → ((x : List ℕ) → IsAmong (v.names x) (v.may x)) → (name ≡ n → ⊥) → BreaksSettle v k n steps es
    → AvoidsAll name i es
settle_avoided v d k i name n steps es is m here apart h =
    settle_avoids name i v d m here n steps es apart (subst (λ (x : Option ℕ). BreaksSettle v x n steps es) is h)

remove_avoided : (name n : List ℕ) (i : ℕ) (v : Volume) (es : List Step) → (name ≡ n → ⊥)
    → ((v.names n ≡ None) × (es ≡ [])) ⊎ (es ≡ Did (unlink n) ∷ []) → AvoidsAll name i es
remove_avoided name n i v es apart (inl is) = subst (AvoidsAll name i) (sym is.1) tt
remove_avoided name n i v es apart (inr is) = subst (AvoidsAll name i) (sym is) (apart, tt)

pub each_call : EachCallRefines
each_call v d o k p q (image_open name make) es h m =
    all_by v d (image_open name make) es p q o q m.1 refl (opens v d o name h.files make es q m.0)
each_call v d o k p q (image_read pos asked answer) es h m =
    idle v (entered d (Done (image_read pos asked answer))) o k p q es m.0 m.1 m.2 h
each_call v d o k p q (image_write pos piece) es h m =
    let image : ImageIs v d (Some m.0) = as_image v d k m.0 m.1 h.image in
    all_by v d (image_write pos piece) es p q o (Some m.0) m.4 (m.5 ∙ m.1)
    (writes v d o m.0 image.0 h.files image.1 pos piece es m.2 m.3)
each_call v d o k p q image_sync es h m = sync_by v d o k p q es h m.0 m.1 m.2
each_call v d o k p q (map_read name pos asked answer) es h m =
    idle v (entered d (Done (map_read name pos asked answer))) o k p q es m.0 m.1 m.2 h
each_call v d o k p q (draft_begin name) es h m =
    all_kept v d (draft_begin name) es k p q
    (to_keeps v d (draft_begin name) es es p (Some m.0) refl m.2 (begins name d v o m.0 es h.files m.1)) m.4
    (kept_image v d k h.files.here h.image es (entered d (Done (draft_begin name))) refl (λ i n is a. (
      begins_avoid n i v d a h.files.here name m.0 es (not_it v d i n name a m.3) m.1,
      λ e. not_it v d i n name a m.3 (sym (same_text name n e)),
      else_shows d n name with_draft (not_it v d i n name a m.3),
    )))
each_call v d o k p q (draft_append piece) es h m =
    let r : Refines v d (Some m.0) = as_some v d o m.0 m.1 h.files in
    all_kept v d (draft_append piece) es k p q
    (to_keeps v d (draft_append piece) es es p (Some m.0) refl m.3 (appends v d m.0 r piece es m.2)) m.4
    (kept_image v d k r.here h.image es (entered d (Done (draft_append piece)))
    (ap (λ (x : Option (List ℕ)). (appended d.reads x piece).image) r.draft.1) (λ i n is a. (
      appends_avoid n i v d a r.here m.0 piece es (draft_else v d (Some m.0) r i n r.draft.0 m.0 a r.draft.1 r.draft.2) m.2,
      λ e. a.draft (sym (ap (λ (x : Option (List ℕ)). (appended d.reads x piece).draft) r.draft.1) ∙ e),
      append_shows v d (Some m.0) r i n r.draft.0 a r.draft.1,
    )))
each_call v d o k p q draft_sync es h m =
    let r : Refines v d (Some m.0) = as_some v d o m.0 m.1 h.files in
    all_kept v d draft_sync es k p q
    (to_keeps v d draft_sync es (Did (sync_file m.0) ∷ []) p (Some m.0) m.3 m.4 (syncs v d m.0 r m.2)) m.5
    (kept_image v d k r.here h.image es (entered d (Done draft_sync)) refl (λ i n is a. (
      subst (AvoidsAll n i) (sym m.3) (draft_else v d (Some m.0) r i n r.draft.0 m.0 a r.draft.1 r.draft.2, tt),
      a.draft,
      refl,
    )))
each_call v d o k p q (draft_publish name) es h m =
    let s : Refines v d (Some m.0) = as_some v d o m.0 m.2 h.files in
    all_kept v d (draft_publish name) es k p q
    (to_keeps v d (draft_publish name) es (Did (rename m.1 name) ∷ []) p None m.5 m.6
    (publishes v d m.1 name m.0 m.4 s m.3 (draft_name v d m.0 m.1 s m.3) s.draft.4)) m.8
    (kept_image v d k s.here h.image es (entered d (Done (draft_publish name)))
    (ap (λ (x : Option (List ℕ)). (published d.reads x name).image) m.3) (λ i n is a. (
      subst (AvoidsAll n i) (sym m.5)
          ((λ e. a.draft (m.3 ∙ ap (λ (x : List ℕ). Some x) (sym e)), not_it v d i n name a m.7), tt),
      λ e. no_name n (sym (ap (λ (x : Option (List ℕ)). (published d.reads x name).draft) m.3) ∙ e),
      publish_shows v d (Some m.0) s i n m.1 name a m.3 m.7,
    )))
each_call v d o k p q (map_settle name) es h m =
    all_kept v d (map_settle name) es k p q
    (to_keeps v d (map_settle name) es es p o refl m.2 (settles v d o name h.files m.0 es m.1)) m.4
    (kept_image v d k h.files.here h.image es (entered d (Done (map_settle name))) refl (λ i n is a. (
      settles_avoid n i v d a h.files.here name es (not_it v d i n name a m.3) m.1,
      a.draft,
      settle_shows v d o h.files i n name a m.3,
    )))
each_call v d o k p q (map_remove name) es h m =
    all_kept v d (map_remove name) es k p q
    (to_keeps v d (map_remove name) es es p o refl m.2 (removes v d o name h.files m.0 es m.1)) m.4
    (kept_image v d k h.files.here h.image es (entered d (Done (map_remove name))) refl (λ i n is a. (
      remove_avoided n name i v es (not_it v d i n name a m.3) m.1,
      a.draft,
      else_shows d n name (λ file s. or_this None s) (not_it v d i n name a m.3),
    )))

pub each_failure : EachFailureRefines
each_failure v d o k p q (image_open name make) steps es h m =
    failed_by v d (image_open name make) steps es p q o None m.1 m.2 (breaks_open v d o name h.files make steps es m.0)
each_failure v d o k p q (image_read pos asked answer) steps es h m =
    idle v (entered d (Failed (image_read pos asked answer) steps)) o k p q es m.0 m.1 m.2 h
each_failure v d o k p q (image_write pos piece) steps es h m =
    let image : ImageIs v d (Some m.0) = as_image v d k m.0 m.1 h.image in
    failed_by v d (image_write pos piece) steps es p q o (Some m.0) m.4 (m.5 ∙ m.1)
    (breaks_write v d o m.0 image.0 h.files image.1 pos piece steps es m.3)
each_failure v d o k p q image_sync steps es h m = sync_fails v d o k p q steps es h m.0 m.1 m.2
each_failure v d o k p q (map_read name pos asked answer) steps es h m =
    idle v (entered d (Failed (map_read name pos asked answer) steps)) o k p q es m.0 m.1 m.2 h
each_failure v d o k p q (draft_begin name) steps es h m =
    all_failed v d (draft_begin name) steps es k p q
    (to_fails v d (draft_begin name) steps es es p None refl m.1 (breaks_begin name d v o steps es h.files m.0)) m.3
    (kept_image v d k h.files.here h.image es (entered d (Failed (draft_begin name) steps)) refl (λ i n is a. (
      begin_avoids n i v d a h.files.here name steps es (not_it v d i n name a m.2) m.0,
      no_name n,
      else_shows d n name with_draft (not_it v d i n name a m.2),
    )))
each_failure v d o k p q (draft_append piece) steps es h m =
    let r : Refines v d (Some m.0) = as_some v d o m.0 m.1 h.files in
    all_failed v d (draft_append piece) steps es k p q
    (to_fails v d (draft_append piece) steps es es p (Some m.0) refl m.3 (breaks_append v d m.0 r piece steps es m.2)) m.4
    (kept_image v d k r.here h.image es (entered d (Failed (draft_append piece) steps)) refl (λ i n is a. (
      append_avoids n i v d a r.here m.0 piece steps es (draft_else v d (Some m.0) r i n r.draft.0 m.0 a r.draft.1 r.draft.2) m.2,
      a.draft,
      append_shows v d (Some m.0) r i n r.draft.0 a r.draft.1,
    )))
each_failure v d o k p q draft_sync steps es h m =
    let r : Refines v d (Some m.0) = as_some v d o m.0 m.1 h.files in
    all_failed v d draft_sync steps es k p q
    (to_fails v d draft_sync steps es es p (Some m.0) refl m.3 (breaks_sync v d m.0 r steps es m.2)) m.4
    (kept_image v d k r.here h.image es (entered d (Failed draft_sync steps)) refl (λ i n is a. (
      elim m.2 [
        | inl e ↦ subst (AvoidsAll n i) (sym e) tt
        | inr e ↦ subst (AvoidsAll n i) (sym e) (draft_else v d (Some m.0) r i n r.draft.0 m.0 a r.draft.1 r.draft.2, tt)
      ],
      a.draft,
      refl,
    )))
each_failure v d o k p q (draft_publish name) steps es h m =
    let s : Refines v d (Some m.0) = as_some v d o m.0 m.2 h.files in
    all_failed v d (draft_publish name) steps es k p q
    (to_fails v d (draft_publish name) steps es es p None refl m.6
    (breaks_publish v d m.1 name m.0 m.4 s m.3 (draft_name v d m.0 m.1 s m.3) s.draft.4 steps es m.5)) m.8
    (kept_image v d k s.here h.image es (entered d (Failed (draft_publish name) steps)) refl (λ i n is a. (
      elim m.5 [
        | inl e ↦ subst (AvoidsAll n i) (sym e) tt
        | inr e ↦ subst (AvoidsAll n i) (sym e)
            ((λ same. a.draft (m.3 ∙ ap (λ (x : List ℕ). Some x) (sym same)), not_it v d i n name a m.7), tt)
      ],
      no_name n,
      publish_shows v d (Some m.0) s i n m.1 name a m.3 m.7,
    )))
each_failure v d o k p q (map_settle name) steps es h m =
    all_failed v d (map_settle name) steps es k p q
    (to_fails v d (map_settle name) steps es es p o refl m.2 (breaks_settle v d o name h.files m.0 k steps es m.1)) m.4
    (kept_image v d k h.files.here h.image es (entered d (Failed (map_settle name) steps)) refl (λ i n is a. (
      settle_avoided v d k i n name steps es is a h.files.here (not_it v d i n name a m.3) m.1,
      a.draft,
      trial_shows d n (draft_of name) (file_with (v.nodes i).bytes) (there v d o h.files i n a),
    )))
each_failure v d o k p q (map_remove name) steps es h m =
    all_failed v d (map_remove name) steps es k p q
    (to_fails v d (map_remove name) steps es es p o refl m.2 (breaks_remove v d o name h.files m.0 steps es m.1)) m.4
    (kept_image v d k h.files.here h.image es (entered d (Failed (map_remove name) steps)) refl (λ i n is a. (
      elim m.1 [
        | inl e ↦ subst (AvoidsAll n i) (sym e) tt
        | inr e ↦ subst (AvoidsAll n i) (sym e) (not_it v d i n name a m.3, tt)
      ],
      a.draft,
      else_shows d n name (λ file s. or_this None s) (not_it v d i n name a m.3),
    )))

-- A whole record.

-- at each stop within a call, what is left is what the site's model says of that call in progress
pub enters_along : (v : Volume) (d : Disk) (o k p q : Option ℕ) (e : Entry) (es : List Step) → Follows v d o k
    → Enters v d.reads o k e es p q
    → Along (Within (entered d (in_part e))) v es × Follows (after_steps v es) (entered d e) p q
enters_along v d o k p q (Done call) es r m = each_call v d o k p q call es r m
enters_along v d o k p q (Failed call steps) es r m = each_failure v d o k p q call steps es r m

-- where the calls before have led
pub record Reached (v : Volume) (d : Disk) (deed : Deed) : Type 0 where
  pub o : Option ℕ
  pub k : Option ℕ
  pub p : Option ℕ
  pub q : Option ℕ
  pub follows : Follows v d o k
  pub makes : Enters v d.reads o k deed.entry deed.steps p q

reached : (before : List Deed) (deed : Deed) (later : List Deed) (v : Volume) (d : Disk) (o k : Option ℕ) → Follows v d o k
    → Runs v d o k (before ++ deed ∷ later) → Reached (after_steps v (steps_of before)) (disk_after d (entries before)) deed
reached [] deed later v d o k r run = record { o = o; k = k; p = run.0; q = run.1; follows = r; makes = run.2 }
reached (a ∷ before) deed later v d o k r run =
    let next = (enters_along v d o k run.0 run.1 a.entry a.steps r run.2).1 in
    let h : Reached (after_steps (after_steps v a.steps) (steps_of before)) (disk_after (entered d a.entry) (entries before)) deed =
    reached before deed later (after_steps v a.steps) (entered d a.entry) run.0 run.1 next run.3 in
    subst (λ (w : Volume). Reached w (disk_after (entered d a.entry) (entries before)) deed) (sym (run_append v a.steps (steps_of before))) h

pub ended : (deeds : List Deed) (v : Volume) (d : Disk) (o k : Option ℕ) → Follows v d o k → Runs v d o k deeds
    → Within (disk_after d (entries deeds)) (after_steps v (steps_of deeds))
ended [] v d o k r run = r.files.shows
ended (a ∷ deeds) v d o k r run =
    let next = (enters_along v d o k run.0 run.1 a.entry a.steps r run.2).1 in
    subst (λ (w : Volume). Within (disk_after (entered d a.entry) (entries deeds)) w) (sym (run_append v a.steps (steps_of deeds)))
    (ended deeds (after_steps v a.steps) (entered d a.entry) run.0 run.1 next run.3)

first_files : (v : Volume) → IsAtRest v → Refines v (at_rest (first_folder v)) None
first_files v rest =
    let firm : (i : ℕ) → IsFirm (v.nodes i) = λ i. record { loose = rest.loose i; durable = rest.durable i } in
    record {
      shows = λ n found h.
          let k : LeavesEntry v.nodes (v.names n) found ⊎ ⊥ = subst (λ (l : List (Option ℕ)). LeavesOne v.nodes l found) (rest.may n) h in
          elim k [
            | inl now ↦ subst (λ (f : Option (List ℕ)). MayShow ((at_rest (first_folder v)).shows n) (as_file f))
                (sym (whole_found v.nodes (v.names n) found (λ j e. firm j) now)) (inr (inr (inl (holds_self (files_of v n) []))))
            | inr none ↦ absurd none
          ];
      reads = λ n. refl;
      here = λ n. subst (λ (l : List (Option ℕ)). IsAmong (v.names n) l) (sym (rest.may n)) (inl refl);
      sound = λ i. firm_reads (v.nodes i) (firm i);
      draft = tt;
    }

pub at_first : (v : Volume) → IsAtRest v → Follows v (at_rest (first_folder v)) None None
at_first v rest = record { files = first_files v rest; image = refl }

-- the disk of the site while the call is made
while_made : (d : Disk) (before : List Deed) (deed : Deed) (later : List Deed)
    → disk_after d (until (length before) (entries (before ++ deed ∷ later))) ≡ entered (disk_after d (entries before)) (in_part deed.entry)
while_made d [] deed later = refl
while_made d (a ∷ before) deed later = while_made (entered d a.entry) before deed later

pub each_stop : EachStopRefines
each_stop v before deed later rest run =
    let d : Disk = at_rest (first_folder v) in
    let h : Reached (after_steps v (steps_of before)) (disk_after d (entries before)) deed = reached before deed later v d None None (at_first v rest) run in
    let along = (enters_along (after_steps v (steps_of before)) (disk_after d (entries before)) h.o h.k h.p h.q deed.entry deed.steps h.follows h.makes).0 in
    along_map (Within (entered (disk_after d (entries before)) (in_part deed.entry)))
    (IsLeft (first_folder v) (entries (before ++ deed ∷ later)) (length before))
    (λ w within found finds. subst (λ (e : Disk). Leaves e (λ n. as_file (found n))) (sym (while_made d before deed later))
    (λ n. within n (found n) (finds n)))
    (after_steps v (steps_of before)) deed.steps along

all_entries : (deeds : List Deed) → length (entries deeds) ≡ length deeds
all_entries [] = refl
all_entries (a ∷ deeds) = ap (λ (k : ℕ). suc k) (all_entries deeds)

pub each_end : EachEndRefines
each_end v deeds rest run found finds =
    let d : Disk = at_rest (first_folder v) in
    let all : until (length deeds) (entries deeds) ≡ entries deeds =
    ap (λ (k : ℕ). until k (entries deeds)) (sym (all_entries deeds)) ∙ until_all (entries deeds) in
    subst (λ (es : List Entry). Leaves (disk_after d es) (λ n. as_file (found n))) (sym all)
    (λ n. ended deeds v d None None (at_first v rest) run n (found n) (finds n))
