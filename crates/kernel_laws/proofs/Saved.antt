-- A text that was saved is left, and so is an image that was synced.
use Rattle.std.proofs.Common.{◌≡◌, inl, inr, ℕ, ◌+◌, List, [], ◌∷◌, ◌++◌, length, Option, None, sym, ◌∙◌, ap, subst, append-nil, arith}
use Rattle.std.specs.Str.{bytes_eq}
use Rattle.std.proofs.lemmas.Bool.{cases_Bool, cond-false, cond-true}
use Rattle.std.proofs.lemmas.List.{length-append}
use Rattle.kernel_files.specs.Volume.{Volume, after as after_steps, IsAtRest, MayFind}
use Rattle.kernel_files.proofs.Volumes.{own_name}
use Rattle.crash_site.specs.Files.{File, put}
use Rattle.crash_site.specs.Calls.{Entry, Done, image_sync}
use Rattle.crash_site.specs.Folder.{Folder, after}
use Rattle.crash_site.specs.Disk.{Disk, lost_in, at_rest, disk_after}
use Rattle.crash_site.specs.Left.{MatchesFile, MayShow, Leaves, MayBeLeft}
use Rattle.crash_site.specs.Laws.{settles}
use Rattle.crash_site.proofs.DiskLemmas.{reads_run, rest_sound}
use Rattle.crash_site.proofs.LawLemmas.{until_all, settled_text, synced_is_found}
use Rattle.kernel_laws.specs.Refines.{as_file, Within}
use Rattle.kernel_laws.specs.Laws.{SavedTextIsLeft, SyncedImageIsLeft, Deed, Runs, entries, steps_of, first_folder}
use Rattle.kernel_laws.proofs.Names.{is_name}
use Rattle.kernel_laws.proofs.Deeds.{entries_append}
use Rattle.kernel_laws.proofs.Refined.{at_first, ended}

-- this file under a name, and under the others what reads
left_at : (d : Disk) (name : List ℕ) (file : Option File) → MayShow (d.shows name) file → Leaves d d.reads.files
    → Leaves d (put d.reads.files name file)
left_at d name file here reads n =
    elim (cases_Bool (bytes_eq n name)) [
      | inl e ↦ subst (λ (f : Option File). MayShow (d.shows n) f) (sym (cond-true (bytes_eq n name) file (d.reads.files n) e))
          (subst (λ (m : List ℕ). MayShow (d.shows m) file) (sym (is_name n name e)) here)
      | inr e ↦ subst (λ (f : Option File). MayShow (d.shows n) f) (sym (cond-false (bytes_eq n name) file (d.reads.files n) e))
          (reads n)
    ]

-- what the kernel leaves under a name after a run, beside the files that read
run_left : (v : Volume) (deeds : List Deed) (calls : List Entry) (name : List ℕ) (found : Option (List ℕ)) → IsAtRest v
    → Runs v (at_rest (first_folder v)) None None deeds → entries deeds ≡ calls → MayFind (after_steps v (steps_of deeds)) name found
    → MayBeLeft (first_folder v) calls (length calls)
    (put (disk_after (at_rest (first_folder v)) calls).reads.files name (as_file found))
run_left v deeds calls name found rest run same finds =
    let start : Folder = first_folder v in
    let d : Disk = disk_after (at_rest start) calls in
    let within : Within d (after_steps v (steps_of deeds)) =
    subst (λ (es : List Entry). Within (disk_after (at_rest start) es) (after_steps v (steps_of deeds))) same
    (ended deeds v (at_rest start) None None (at_first v rest) run) in
    let left : Leaves d (put d.reads.files name (as_file found)) =
    left_at d name (as_file found) (within name found finds) (reads_run (at_rest start) calls (rest_sound start)) in
    subst (λ (es : List Entry). Leaves (disk_after (at_rest start) es) (put d.reads.files name (as_file found))) (sym (until_all calls)) left

pub saved : SavedTextIsLeft
saved v before save draft name found rest run is begun finds =
    let start : Folder = first_folder v in
    let calls : List Entry = entries before ++ settles name in
    let same : entries (before ++ save) ≡ calls =
    entries_append before save ∙ ap (λ (l : List Entry). entries before ++ l) is in
    let reads : List ℕ → Option File = (disk_after (at_rest start) calls).reads.files in
    let all : MayBeLeft start calls (length calls) (put reads name (as_file found)) =
    run_left v (before ++ save) calls name found rest run same finds in
    let size : length calls ≡ length (entries before) + 3 = length-append (entries before) (settles name) in
    sym (cond-true (bytes_eq name name) (as_file found) (reads name) (own_name name))
    ∙ settled_text start (entries before) [] draft name (length calls) (put reads name (as_file found)) begun tt (omega (arith, size))
    (subst (λ (l : List Entry). MayBeLeft start l (length calls) (put reads name (as_file found))) (sym (append-nil calls)) all)

pub synced : SyncedImageIsLeft
synced v before sync name found rest run is image finds =
    let start : Folder = first_folder v in
    let calls : List Entry = entries before ++ Done image_sync ∷ [] in
    let same : entries (before ++ sync ∷ []) ≡ calls =
    entries_append before (sync ∷ []) ∙ ap (λ (e : Entry). entries before ++ e ∷ []) is in
    let reads : List ℕ → Option File = (disk_after (at_rest start) calls).reads.files in
    let all : MayBeLeft start calls (length calls) (put reads name (as_file found)) =
    run_left v (before ++ sync ∷ []) calls name found rest run same finds in
    let size : length calls ≡ length (entries before) + 1 = length-append (entries before) (Done image_sync ∷ []) in
    subst (λ (f : Option File). MatchesFile ((after start (entries before)).files name)
    (lost_in ((disk_after (at_rest start) (entries before)).shows name)) f)
    (cond-true (bytes_eq name name) (as_file found) (reads name) (own_name name))
    (synced_is_found start (entries before) [] name (length calls) (put reads name (as_file found)) image tt (omega (arith, size)) all)
