-- Oldest leaves what was durable.
use Rattle.std.proofs.Common.{◌≡◌, inl, inr, ℕ, Bool, true, false, cond, List, [], ◌∷◌, length, take, drop, Option, Some, None, refl, sym, ◌∙◌, ap}
use Rattle.std.proofs.lemmas.Bool.{cases_Bool, cond-true, cond-false}
use Rattle.std.specs.Str.{bytes_eq}
use Rattle.memory_site.specs.declared.memory.stop.Left.TheVariants.{Oldest}
use Rattle.crash_site.specs.Files.{File, draft_of}
use Rattle.crash_site.specs.Calls.{Call, Entry, Done, Failed, image_open, image_read, image_write, image_sync, map_read, draft_begin, draft_append, draft_sync, draft_publish, map_settle, map_remove}
use Rattle.crash_site.specs.Folder.{Folder}
use Rattle.crash_site.specs.Disk.{Showing, Disk, lose, lose_all, in_each, synced, lost_by, only, at_rest, or_this, with_range, with_opened, under, under_some, with_draft, with_text, publishing, after_part, after_return, entered, disk_after}
use Rattle.crash_site.specs.Left.{in_progress}
use Rattle.memory_site.specs.FilesLeft.{with_some, sure_name, sure_file, left_entry, left_along, files_left}
use Rattle.memory_site.specs.LeftLaws.{durable_files}
use Rattle.crash_site.proofs.DiskLemmas.{same_name}
use Rattle.memory_site.proofs.StopLemmas.{along-append}

-- What was durable: no call in progress changes that.

at_durable : (b : Bool) (x y : Showing) → x.durable.file ≡ y.durable.file → (cond b x y).durable.file ≡ y.durable.file
at_durable true x y e = e
at_durable false x y e = refl

made_durable : (make : Bool) (file : Option File) (s : Showing)
    → (with_opened make file s).durable.file ≡ s.durable.file
made_durable true None s = refl
made_durable true (Some f) s = refl
made_durable false file s = refl

loosened_durable : (pos len : ℕ) (file : Option File) (s : Showing)
    → (with_range pos len file s).durable.file ≡ s.durable.file
loosened_durable pos len None s = refl
loosened_durable pos len (Some f) s = refl

some_durable : (d : Disk) (o : Option (List ℕ)) (change : Option File → Showing → Showing) (n : List ℕ)
    → ((file : Option File) (s : Showing) → (change file s).durable.file ≡ s.durable.file)
    → durable_files (under_some o change d) n ≡ durable_files d n
some_durable d None change n same = refl
some_durable d (Some name) change n same =
    at_durable (bytes_eq n name) (change (d.reads.files n) (d.shows n)) (d.shows n) (same (d.reads.files n) (d.shows n))

published_durable : (d : Disk) (o : Option (List ℕ)) (name n : List ℕ)
    → durable_files (publishing o name d) n ≡ durable_files d n
published_durable d None name n = refl
published_durable d (Some draft) name n =
    some_durable (under draft with_draft d) (Some name) (with_text (d.reads.files draft) d.firm) n (λ file s. refl)
    ∙ some_durable d (Some draft) with_draft n (λ file s. refl)

pub part_durable : (d : Disk) (call : Call) (n : List ℕ) → durable_files (after_part call d) n ≡ durable_files d n
part_durable d (image_open name make) n = some_durable d (Some name) (with_opened make) n (made_durable make)
part_durable d (image_write pos piece) n =
    some_durable d d.reads.image (with_range pos (length piece)) n (loosened_durable pos (length piece))
part_durable d (draft_begin name) n = some_durable d (Some name) with_draft n (λ file s. refl)
part_durable d (draft_append piece) n = some_durable d d.reads.draft with_draft n (λ file s. refl)
part_durable d (draft_publish name) n = published_durable d d.reads.draft name n
part_durable d (map_settle name) n =
    some_durable d (Some (draft_of name)) (with_opened true) n (made_durable true)
part_durable d (map_remove name) n = some_durable d (Some name) (λ file s. or_this None s) n (λ file s. refl)
part_durable d _ n = refl

sure_some : (d : Disk) (o : Option (List ℕ)) (change : Option File → Showing → Showing) (f : List ℕ → Option File)
    (n : List ℕ) → ((file : Option File) (s : Showing) → (change file s).durable.file ≡ file) → f n ≡ durable_files d n
    → with_some o d.reads.files f n ≡ durable_files (under_some o change d) n
sure_some d None change f n same h = h
sure_some d (Some name) change f n same h = elim (cases_Bool (bytes_eq n name)) [
  | inl is ↦ cond-true (bytes_eq n name) (d.reads.files name) (f n) is ∙ ap d.reads.files (sym (same_name n name is))
      ∙ sym (same (d.reads.files n) (d.shows n))
      ∙ ap (λ (s : Showing). s.durable.file)
      (sym (cond-true (bytes_eq n name) (change (d.reads.files n) (d.shows n)) (d.shows n) is))
  | inr other ↦ cond-false (bytes_eq n name) (d.reads.files name) (f n) other ∙ h
      ∙ ap (λ (s : Showing). s.durable.file)
      (sym (cond-false (bytes_eq n name) (change (d.reads.files n) (d.shows n)) (d.shows n) other))
]

pub done_durable : (d : Disk) (call : Call) (f : List ℕ → Option File) (n : List ℕ) → f n ≡ durable_files d n
    → with_some (sure_name call d.reads) (sure_file call Oldest d) f n ≡ durable_files (after_return call d) n
done_durable d (image_open name make) f n h = h ∙ sym (part_durable d (image_open name make) n)
done_durable d (image_write pos piece) f n h = h ∙ sym (part_durable d (image_write pos piece) n)
done_durable d image_sync f n h = sure_some d d.reads.image synced f n (λ file s. refl) h
done_durable d (draft_begin name) f n h = h ∙ sym (part_durable d (draft_begin name) n)
done_durable d (draft_append piece) f n h = h ∙ sym (part_durable d (draft_append piece) n)
done_durable d (draft_publish name) f n h = h ∙ sym (part_durable d (draft_publish name) n)
done_durable d (map_settle name) f n h =
    sure_some (after_part (map_settle name) d) (Some name) (λ file s. only file) f n (λ file s. refl)
    (h ∙ sym (part_durable d (map_settle name) n))
done_durable d (map_remove name) f n h = h ∙ sym (part_durable d (map_remove name) n)
done_durable d _ f n h = h

-- what is lost is durable still
lost_durable : (d : Disk) (call : Call) (n : List ℕ) → durable_files (lost_by call d) n ≡ durable_files d n
lost_durable d (image_write pos piece) n =
    some_durable d d.reads.image (λ file s. in_each (lose pos (length piece)) s) n (λ file s. refl)
lost_durable d image_sync n = some_durable d d.reads.image (λ file s. in_each lose_all s) n (λ file s. refl)
lost_durable d _ n = refl

entry_durable : (d : Disk) (e : Entry) (f : List ℕ → Option File) → ((n : List ℕ) → f n ≡ durable_files d n)
    → (n : List ℕ) → left_entry Oldest d e f n ≡ durable_files (entered d e) n
entry_durable d (Done call) f h n = done_durable d call f n (h n)
entry_durable d (Failed call steps) f h n =
    h n ∙ sym (part_durable d call n) ∙ sym (lost_durable (after_part call d) call n)

along_durable : (d : Disk) (f : List ℕ → Option File) (es : List Entry) → ((n : List ℕ) → f n ≡ durable_files d n)
    → (n : List ℕ) → left_along Oldest d f es n ≡ durable_files (disk_after d es) n
along_durable d f [] h n = h n
along_durable d f (e ∷ es) h n = along_durable (entered d e) (left_entry Oldest d e f) es (entry_durable d e f h) n

-- the call in progress changes nothing
begun_durable : (d : Disk) (f : List ℕ → Option File) (es : List Entry) → left_along Oldest d f (in_progress es) ≡ f
begun_durable d f [] = refl
begun_durable d f (Done call ∷ es) = refl
begun_durable d f (Failed call steps ∷ es) = refl

pub oldest_left : (start : Folder) (calls : List Entry) (k : ℕ) (n : List ℕ)
    → files_left Oldest start calls k n ≡ durable_files (disk_after (at_rest start) (take k calls)) n
oldest_left start calls k n =
    ap (λ (f : List ℕ → Option File). f n)
    (along-append Oldest (at_rest start) start.files (take k calls) (in_progress (drop k calls))
    ∙ begun_durable (disk_after (at_rest start) (take k calls))
    (left_along Oldest (at_rest start) start.files (take k calls)) (drop k calls))
    ∙ along_durable (at_rest start) start.files (take k calls) (λ m. refl) n
