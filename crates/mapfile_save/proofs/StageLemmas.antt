-- How far a save's disk has come, and what a stop may show there.
use Rattle.std.proofs.Common.{◌≡◌, ◌≢◌, ◌⊎◌, inl, inr, ⊎_elim, ℕ, Bool, true, false, cond, List, [], ◌++◌, Option, Some, None, refl, sym, ap, subst, ◌∙◌}
use Rattle.std.specs.Str.{bytes_eq}
use Rattle.std.proofs.lemmas.Bool.{cases_Bool, cond-true}
use Rattle.crash_site.specs.Files.{File, bytes_of, empty_file}
use Rattle.crash_site.specs.Calls.{Done, Failed, image_sync, draft_begin, draft_append, draft_sync, draft_publish, map_settle}
use Rattle.crash_site.specs.Folder.{Folder, appended}
use Rattle.crash_site.specs.Disk.{Showing, Disk, synced, lose_all, in_each, only, under, under_some, with_draft, with_text, publishing, after_part, entered}
use Rattle.crash_site.specs.Left.{MayShow, Leaves}
use Rattle.crash_site.proofs.DiskLemmas.{same_name, unsynced_shows}
use Rattle.crash_site.proofs.NestLemmas.{Nests, Nested, synced_narrows}
use Rattle.crash_site.proofs.LawLemmas.{own_name, at_other, part_other, done_other, failed_other, same_held, found_only, shows_synced}
use Rattle.mapfile_save.specs.MapNames.{MapNames, HasOwnDraft}
use Rattle.mapfile_save.specs.SaveStops.{text_file, ImageIsDurable, IsOldOrNew, Old, New}

-- The image is synced, and beside the draft nothing may be shown that couldn't be before.
pub record Synced (names : MapNames) (was now : Disk) : Type 0 where
  pub shows : (n : List ℕ) (f : Option File) → n ≢ names.draft → MayShow (now.shows n) f → MayShow (was.shows n) f
  pub image : ImageIsDurable names was now
  pub reads : (n : List ℕ) → n ≢ names.draft → now.reads.files n ≡ was.reads.files n
  pub selected : now.reads.image ≡ was.reads.image

-- The draft is begun and holds this text.
pub record Drafting (names : MapNames) (text : List ℕ) (was now : Disk) : Type 0 where
  pub synced : Synced names was now
  pub draft : now.reads.draft ≡ Some names.draft
  pub holds : now.reads.files names.draft ≡ Some (text_file text)

-- The mapfile reads as this text; a stop shows that or what could be shown before.
pub record ShowsNew (names : MapNames) (text : List ℕ) (was now : Disk) : Type 0 where
  pub here : (f : Option File) → names.map ≢ names.draft → MayShow (now.shows names.map) f
      → MayShow (was.shows names.map) f ⊎ (f ≡ Some (text_file text))
  pub shows : (n : List ℕ) (f : Option File) → n ≢ names.map → n ≢ names.draft → MayShow (now.shows n) f → MayShow (was.shows n) f
  pub image : ImageIsDurable names was now

-- every name but the draft's shows an old file or the new mapfile
abbrev pub IsSafe : MapNames → List ℕ → Disk → Disk → Type 0
IsSafe names text was now =
    (name : List ℕ) (f : Option File) → name ≢ names.draft → MayShow (now.shows name) f
    → IsOldOrNew names text was now name f

pub synced_safe : (names : MapNames) (text : List ℕ) (was now : Disk) → Synced names was now → IsSafe names text was now
synced_safe names text was now s = λ name f apart h. Old (s.shows name f apart h)

-- what is found under a name, where that is the mapfile's
old_or_new : (names : MapNames) (text : List ℕ) (was now : Disk) (f : Option File) → ImageIsDurable names was now
    → MayShow (was.shows names.map) f ⊎ (f ≡ Some (text_file text))
    → IsOldOrNew names text was now names.map f
old_or_new names text was now f image (inl old) = Old old
old_or_new names text was now f image (inr new) = New refl new image

pub published_safe : (names : MapNames) (text : List ℕ) (was now : Disk) → ShowsNew names text was now → IsSafe names text was now
published_safe names text was now p = λ name f apart h. elim (cases_Bool (bytes_eq name names.map)) [
  | inl is ↦
      let same : name ≡ names.map = same_name name names.map is in
      subst (λ (n : List ℕ). IsOldOrNew names text was now n f) (sym same)
      (old_or_new names text was now f p.image
      (p.here f (subst (λ (n : List ℕ). n ≢ names.draft) same apart) (subst (λ (n : List ℕ). MayShow (now.shows n) f) same h)))
  | inr other ↦
      let apart_map : name ≢ names.map =
      λ e. absurd (let is : bytes_eq name names.map ≡ true = ap (λ n. bytes_eq n names.map) e ∙ own_name names.map in cc)
      in
      Old (p.shows name f apart_map apart h)
]

-- A change under the draft's name alone keeps what was synced.
pub moves_on : (names : MapNames) (was now next : Disk) → ((n : List ℕ) → n ≢ names.draft → next.shows n ≡ now.shows n)
    → ((n : List ℕ) → n ≢ names.draft → next.reads.files n ≡ now.reads.files n) → next.reads.image ≡ now.reads.image
    → Synced names was now → Synced names was next
moves_on names was now next same_shows same_reads same_image s = record {
  shows = λ n f apart h. s.shows n f apart (subst (λ (x : Showing). MayShow x f) (same_shows n apart) h);
  image = λ image is apart_map apart. same_shows image apart ∙ s.image image is apart_map apart;
  reads = λ n apart. same_reads n apart ∙ s.reads n apart;
  selected = same_image ∙ s.selected;
}

sync_shows : (b : Bool) (file : Option File) (s : Showing) (f : Option File) → Nests s → MayShow s file
    → MayShow (cond b (synced file s) s) f → MayShow s f
sync_shows true file s f nests reads h = synced_narrows file s f nests reads h
sync_shows false file s f nests reads h = h

some_sync_shows : (d : Disk) (image : Option (List ℕ)) (n : List ℕ) (f : Option File) → Nested d
    → Leaves d d.reads.files → MayShow ((under_some image synced d).shows n) f → MayShow (d.shows n) f
some_sync_shows d None n f nested reads h = h
some_sync_shows d (Some image) n f nested reads h =
    sync_shows (bytes_eq n image) (d.reads.files n) (d.shows n) f (nested n) (reads n) h

unsync_shows : (b : Bool) (s : Showing) (f : Option File) → MayShow (cond b (in_each lose_all s) s) f → MayShow s f
unsync_shows true s f h = unsynced_shows s f h
unsync_shows false s f h = h

-- a sync that failed shows nothing more
pub some_unsync_shows : (d : Disk) (image : Option (List ℕ)) (n : List ℕ) (f : Option File)
    → MayShow ((under_some image (λ file s. in_each lose_all s) d).shows n) f → MayShow (d.shows n) f
some_unsync_shows d None n f h = h
some_unsync_shows d (Some image) n f h = unsync_shows (bytes_eq n image) (d.shows n) f h

pub image_synced : (names : MapNames) (was : Disk) → Nested was → Leaves was was.reads.files
    → Synced names was (entered was (Done image_sync))
image_synced names was nested reads = record {
  shows = λ n f apart h. some_sync_shows was was.reads.image n f nested reads h;
  image = λ image is apart_map apart. shows_synced was was.reads.image image is;
  reads = λ n apart. refl;
  selected = refl;
}

pub begun_in_part : (names : MapNames) (steps : ℕ) (was now : Disk) → Synced names was now
    → Synced names was (entered now (Failed (draft_begin names.draft) steps))
begun_in_part names steps was now s =
    moves_on names was now (entered now (Failed (draft_begin names.draft) steps))
    (λ n apart. part_other now (draft_begin names.draft) n apart)
    (λ n apart. failed_other now.reads (draft_begin names.draft) steps n apart) refl s

pub draft_begun : (names : MapNames) (was now : Disk) → Synced names was now
    → Drafting names [] was (entered now (Done (draft_begin names.draft)))
draft_begun names was now s = record {
  synced = moves_on names was now (entered now (Done (draft_begin names.draft)))
      (λ n apart. part_other now (draft_begin names.draft) n apart)
      (λ n apart. done_other now.reads (draft_begin names.draft) n apart) refl s;
  draft = refl;
  holds = cond-true (bytes_eq names.draft names.draft) (Some empty_file) (now.reads.files names.draft) (own_name names.draft);
}

-- the draft's own name
is_the_draft : (now : Disk) (names : MapNames) (n : List ℕ) → now.reads.draft ≡ Some names.draft → n ≢ names.draft
    → now.reads.draft ≡ Some n → ⊥
is_the_draft now names n is apart e = apart (let same : Some n ≡ Some names.draft = sym e ∙ is in cc)

pub appended_in_part : (names : MapNames) (text piece : List ℕ) (steps : ℕ) (was now : Disk)
    → Drafting names text was now
    → Synced names was (entered now (Failed (draft_append piece) steps))
appended_in_part names text piece steps was now d =
    moves_on names was now (entered now (Failed (draft_append piece) steps))
    (λ n apart. part_other now (draft_append piece) n (is_the_draft now names n d.draft apart))
    (λ n apart. failed_other now.reads (draft_append piece) steps n (is_the_draft now names n d.draft apart)) refl
    d.synced

pub appended_draft : (r : Folder) (o : Option (List ℕ)) (piece : List ℕ) → (appended r o piece).draft ≡ r.draft
appended_draft r None piece = refl
appended_draft r (Some draft) piece = refl

pub appended_image : (r : Folder) (o : Option (List ℕ)) (piece : List ℕ) → (appended r o piece).image ≡ r.image
appended_image r None piece = refl
appended_image r (Some draft) piece = refl

appended_holds : (r : Folder) (o : Option (List ℕ)) (draft text piece : List ℕ) → o ≡ Some draft → r.files draft ≡ Some (text_file text)
    → (appended r o piece).files draft ≡ Some (text_file (text ++ piece))
appended_holds r None draft text piece is holds = absurd (cc)
appended_holds r (Some name) draft text piece is holds =
    let same : name ≡ draft = cc in
    subst (λ (n : List ℕ). (appended r (Some n) piece).files draft ≡ Some (text_file (text ++ piece))) (sym same)
    (cond-true (bytes_eq draft draft) (Some (text_file (bytes_of (r.files draft) ++ piece))) (r.files draft) (own_name draft)
    ∙ ap (λ (f : Option File). Some (text_file (bytes_of f ++ piece))) holds)

pub appended_more : (names : MapNames) (text piece : List ℕ) (was now : Disk) → Drafting names text was now
    → Drafting names (text ++ piece) was (entered now (Done (draft_append piece)))
appended_more names text piece was now d = record {
  synced = moves_on names was now (entered now (Done (draft_append piece)))
      (λ n apart. part_other now (draft_append piece) n (is_the_draft now names n d.draft apart))
      (λ n apart. done_other now.reads (draft_append piece) n (is_the_draft now names n d.draft apart))
      (appended_image now.reads now.reads.draft piece) d.synced;
  draft = appended_draft now.reads now.reads.draft piece ∙ d.draft;
  holds = appended_holds now.reads now.reads.draft names.draft text piece d.draft d.holds;
}

pub firm_kept : (names : MapNames) (text : List ℕ) (was now : Disk) → Drafting names text was now
    → Drafting names text was (entered now (Done draft_sync))
firm_kept names text was now d = record {
  synced = moves_on names was now (entered now (Done draft_sync)) (λ n apart. refl) (λ n apart. refl) refl d.synced;
  draft = d.draft;
  holds = d.holds;
}

-- a firm text may be shown, or what could be before
text_shown : (firm : Bool) (file reads : Option File) (s : Showing) (f : Option File) → firm ≡ true
    → MayShow (with_text file firm reads s) f → MayShow s f ⊎ (f ≡ file)
text_shown true file reads s f is (inl any) = inl (inl any)
text_shown true file reads s f is (inr (inl text)) = inl (inr (inl text))
text_shown true file reads s f is (inr (inr (inl durable))) = inl (inr (inr (inl durable)))
text_shown true file reads s f is (inr (inr (inr (inl new)))) = inr (same_held file f new)
text_shown true file reads s f is (inr (inr (inr (inr since)))) = inl (inr (inr (inr since)))
text_shown false file reads s f is h = absurd (cc)

-- what a stop shows under the mapfile's name where the draft is published
shown_there : (d : Disk) (o : Option (List ℕ)) (draft name : List ℕ) (f : Option File) → o ≡ Some draft → d.firm ≡ true → name ≢ draft
    → MayShow ((publishing o name d).shows name) f → MayShow (d.shows name) f ⊎ (f ≡ d.reads.files draft)
shown_there d None draft name f is firm apart h = absurd (cc)
shown_there d (Some from) draft name f is firm apart h =
    let same : from ≡ draft = cc in
    let before : Showing = (under from with_draft d).shows name in
    let e : (publishing (Some from) name d).shows name ≡ with_text (d.reads.files from) d.firm (d.reads.files name) (d.shows name) =
    cond-true (bytes_eq name name) (with_text (d.reads.files from) d.firm (d.reads.files name) before) before (own_name name)
    ∙ ap (λ (s : Showing). with_text (d.reads.files from) d.firm (d.reads.files name) s)
    (at_other d from name with_draft (λ x. apart (x ∙ same)))
    in
    ⊎_elim (λ old. inl old) (λ new. inr (new ∙ ap d.reads.files same))
    (text_shown d.firm (d.reads.files from) (d.reads.files name) (d.shows name) f firm (subst (λ (s : Showing). MayShow s f) e h))

-- neither the mapfile nor the draft changes under other names
pub is_other : (now : Disk) (names : MapNames) (n : List ℕ) → now.reads.draft ≡ Some names.draft → n ≢ names.map
    → n ≢ names.draft → ((now.reads.draft ≡ Some n) ⊎ (n ≡ names.map)) → ⊥
is_other now names n is apart_map apart (inl e) = is_the_draft now names n is apart e
is_other now names n is apart_map apart (inr e) = apart_map e

pub published_in_part : (names : MapNames) (text : List ℕ) (was now : Disk) → Drafting names text was now → now.firm ≡ true
    → ShowsNew names text was (after_part (draft_publish names.map) now)
published_in_part names text was now d firm = record {
  here = λ f apart h. ⊎_elim (λ old. inl (d.synced.shows names.map f apart old))
      (λ new. inr (new ∙ d.holds))
      (shown_there now now.reads.draft names.draft names.map f d.draft firm apart h);
  shows = λ n f apart_map apart h. d.synced.shows n f apart
      (subst (λ (s : Showing). MayShow s f) (part_other now (draft_publish names.map) n (is_other now names n d.draft apart_map apart)) h);
  image = λ image is apart_map apart.
      part_other now (draft_publish names.map) image (is_other now names image d.draft apart_map apart)
      ∙ d.synced.image image is apart_map apart;
}

pub reshown : (names : MapNames) (text : List ℕ) (was now next : Disk)
    → ((n : List ℕ) → n ≢ names.draft → next.shows n ≡ now.shows n) → ShowsNew names text was now
    → ShowsNew names text was next
reshown names text was now next same p = record {
  here = λ f apart h. p.here f apart (subst (λ (s : Showing). MayShow s f) (same names.map apart) h);
  shows = λ n f apart_map apart h. p.shows n f apart_map apart (subst (λ (s : Showing). MayShow s f) (same n apart) h);
  image = λ image is apart_map apart. same image apart ∙ p.image image is apart_map apart;
}

pub settled_shows : (now : Disk) (name : List ℕ) (file : Option File) → now.reads.files name ≡ file
    → (entered now (Done (map_settle name))).shows name ≡ only file
settled_shows now name file is =
    cond-true (bytes_eq name name) (only (now.reads.files name)) ((after_part (map_settle name) now).shows name)
    (own_name name)
    ∙ ap (λ (o : Option File). only o) is

-- a settle looks at the draft's name, and changes nothing under others before it returns
pub looked_other : (names : MapNames) (now : Disk) (n : List ℕ) → HasOwnDraft names → n ≢ names.draft
    → (after_part (map_settle names.map) now).shows n ≡ now.shows n
looked_other names now n own apart = part_other now (map_settle names.map) n (λ e. apart (e ∙ sym own))

settled_other : (names : MapNames) (now : Disk) (n : List ℕ) → HasOwnDraft names → n ≢ names.map → n ≢ names.draft
    → (entered now (Done (map_settle names.map))).shows n ≡ now.shows n
settled_other names now n own apart_map apart =
    at_other (after_part (map_settle names.map) now) names.map n (λ file s. only file) apart_map
    ∙ looked_other names now n own apart

-- what was published and then settled
pub settled : (names : MapNames) (text : List ℕ) (was now : Disk) → HasOwnDraft names
    → now.reads.files names.map ≡ Some (text_file text) → ShowsNew names text was now
    → ShowsNew names text was (entered now (Done (map_settle names.map)))
settled names text was now own reads p = record {
  here = λ f apart h.
      let file : Option File = Some (text_file text) in
      let sure : (entered now (Done (map_settle names.map))).shows names.map ≡ only file = settled_shows now names.map file reads in
      let same : f ≡ file = found_only file f (subst (λ (s : Showing). MayShow s f) sure h) in
      inr same;
  shows = λ n f apart_map apart h.
      p.shows n f apart_map apart (subst (λ (s : Showing). MayShow s f)
      (settled_other names now n own apart_map apart) h);
  image = λ image is apart_map apart.
      settled_other names now image own apart_map apart ∙ p.image image is apart_map apart;
}
