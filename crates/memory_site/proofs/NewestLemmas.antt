-- Newest leaves what reads, where no call failed.
use Rattle.std.proofs.Common.{◌≡◌, ℕ, suc, Bool, true, false, List, [], ◌∷◌, ◌++◌, take, drop, Option, Some, None, refl, sym, ◌∙◌, ap, arith}
use Rattle.memory_site.specs.declared.memory.stop.Left.TheVariants.{Newest}
use Rattle.crash_site.specs.Files.{File, bytes_of, put, written_file}
use Rattle.crash_site.specs.Calls.{Call, Entry, Done, Failed, image_open, image_read, image_write, image_sync, map_read, draft_begin, draft_append, draft_sync, draft_publish, map_settle, map_remove}
use Rattle.crash_site.specs.CallsMade.{IsDone, AllDone}
use Rattle.crash_site.specs.Folder.{Folder, opened, with_piece, appended, published, after_done, after}
use Rattle.crash_site.specs.Disk.{Disk, at_rest, entered, disk_after}
use Rattle.crash_site.specs.Left.{in_progress}
use Rattle.memory_site.specs.FilesLeft.{opened_over, written_on, with_some, moved_to, made_part, left_entry, left_along, files_left}
use Rattle.memory_site.specs.LeftLaws.{completed}
use Rattle.memory_site.proofs.PlaceLemmas.{put-same}
use Rattle.crash_site.proofs.DiskLemmas.{run_reads}
use Rattle.memory_site.proofs.StopLemmas.{along-append}
use Rattle.crash_site.proofs.LawLemmas.{after-append}

-- each call, where the files are left as they read

open_reads : (d : Folder) (name : List ℕ) (make : Bool) (o : Option File) → d.files name ≡ o
    → put d.files name (opened_over make o o) ≡ (opened d name make o).files
open_reads d name true None is = refl
open_reads d name true (Some f) is = put-same d.files name (Some f) is
open_reads d name false None is = put-same d.files name None is
open_reads d name false (Some f) is = put-same d.files name (Some f) is

write_on_reads : (o : Option File) (pos : ℕ) (piece : List ℕ)
    → written_on false o o pos piece ≡ Some (written_file o pos piece)
write_on_reads None pos piece = refl
write_on_reads (Some f) pos piece = refl

write_reads : (d : Folder) (image : Option (List ℕ)) (pos : ℕ) (piece : List ℕ)
    → with_some image (λ n. written_on false (d.files n) (d.files n) pos piece) d.files
    ≡ (with_piece d image pos piece).files
write_reads d None pos piece = refl
write_reads d (Some name) pos piece = ap (put d.files name) (write_on_reads (d.files name) pos piece)

append_reads : (d : Folder) (draft : Option (List ℕ)) (piece : List ℕ)
    → with_some draft (λ n. Some (record { bytes = bytes_of (d.files n) ++ piece; regular = true })) d.files
    ≡ (appended d draft piece).files
append_reads d None piece = refl
append_reads d (Some name) piece = refl

publish_reads : (d : Folder) (draft : Option (List ℕ)) (name : List ℕ)
    → moved_to draft name (λ n. d.files n) d.files ≡ (published d draft name).files
publish_reads d None name = refl
publish_reads d (Some draft) name = refl

part_reads : (d : Folder) (call : Call) (firm : Bool)
    → made_part false call d firm d.files ≡ (after_done d call).files
part_reads d (image_open name make) firm = open_reads d name make (d.files name) refl
part_reads d (image_write pos piece) firm = write_reads d d.image pos piece
part_reads d (draft_append piece) firm = append_reads d d.draft piece
part_reads d (draft_publish name) firm = publish_reads d d.draft name
part_reads d _ firm = refl

-- what a call makes sure reads so already
sure_reads : (d : Folder) (o : Option (List ℕ)) → with_some o d.files d.files ≡ d.files
sure_reads d None = refl
sure_reads d (Some name) = put-same d.files name (d.files name) refl

done_reads : (d : Disk) (call : Call) → left_entry Newest d (Done call) d.reads.files ≡ (after_done d.reads call).files
done_reads d (image_open name make) = part_reads d.reads (image_open name make) d.firm
done_reads d (image_write pos piece) = part_reads d.reads (image_write pos piece) d.firm
done_reads d image_sync = sure_reads d.reads d.reads.image
done_reads d (draft_append piece) = part_reads d.reads (draft_append piece) d.firm
done_reads d (draft_publish name) = part_reads d.reads (draft_publish name) d.firm
done_reads d (map_settle name) = sure_reads d.reads (Some name)
done_reads d _ = refl

-- the calls of a record

first_done : (e : Entry) (es : List Entry) → AllDone (e ∷ es) → IsDone e
first_done e es h = h 0 e (omega arith)

later_done : (e : Entry) (es : List Entry) → AllDone (e ∷ es) → AllDone es
later_done e es h = λ i x lt. h (suc i) x (omega (arith, lt))

along_reads : (d : Disk) (f : List ℕ → Option File) (es : List Entry) → AllDone es → f ≡ d.reads.files
    → left_along Newest d f es ≡ (disk_after d es).reads.files
along_reads d f [] all e = e
along_reads d f (Failed call steps ∷ es) all e = absurd (first_done (Failed call steps) es all)
along_reads d f (Done call ∷ es) all e =
    along_reads (entered d (Done call)) (left_entry Newest d (Done call) f) es (later_done (Done call) es all)
    (ap (left_entry Newest d (Done call)) e ∙ done_reads d call)

begun_reads : (d : Disk) (es : List Entry)
    → left_along Newest d d.reads.files (in_progress es) ≡ (after d.reads (completed es)).files
begun_reads d [] = refl
begun_reads d (Done call ∷ es) = part_reads d.reads call d.firm
begun_reads d (Failed call steps ∷ es) = part_reads d.reads call d.firm

pub newest_left : (start : Folder) (calls : List Entry) (k : ℕ) (n : List ℕ) → AllDone (take k calls)
    → files_left Newest start calls k n ≡ (after start (take k calls ++ completed (drop k calls))).files n
newest_left start calls k n all =
    let d : Disk = disk_after (at_rest start) (take k calls) in
    ap (λ (f : List ℕ → Option File). f n)
    (along-append Newest (at_rest start) start.files (take k calls) (in_progress (drop k calls))
    ∙ ap (λ (f : List ℕ → Option File). left_along Newest d f (in_progress (drop k calls)))
    (along_reads (at_rest start) start.files (take k calls) all refl)
    ∙ begun_reads d (drop k calls)
    ∙ ap (λ (r : Folder). (after r (completed (drop k calls))).files) (run_reads (at_rest start) (take k calls))
    ∙ sym (ap (λ (r : Folder). r.files) (after-append start (take k calls) (completed (drop k calls)))))
