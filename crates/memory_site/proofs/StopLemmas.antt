-- What each call made again leaves.
use Rattle.std.proofs.Common.{◌≡◌, ℕ, suc, ◌+◌, ◌<◌, Bool, true, false, List, [], ◌∷◌, ◌++◌, length, take, drop, map, get_or, Option, Some, None, Result, Ok, Err, OnOk, refl, sym, ◌∙◌, ap, subst, arith}
use Rattle.std.proofs.lemmas.List.{get_or-map, length-map}
use Rattle.std.proofs.Math.Seq.{take-suc, drop-cons}
use Rattle.memory_site.specs.declared.memory.call_log.LoggedCall.{LoggedCall}
use Rattle.memory_site.specs.declared.memory.stop.Left.{Left}
use Rattle.memory_site.specs.declared.memory.stop.Replay.{Replay}
use Rattle.memory_site.specs.declared.memory.stop.Left.TheVariants.{Oldest, Newest, Garbage}
use Rattle.memory_site.specs.CallLog.{call_of, entry_as, entry_of}
use Rattle.crash_site.specs.Files.{File}
use Rattle.crash_site.specs.Calls.{Call, Entry, Done, Failed, image_open, image_read, image_write, image_sync, map_read, draft_begin, draft_append, draft_sync, draft_publish, map_settle, map_remove}
use Rattle.crash_site.specs.CallsMade.{unanswered}
use Rattle.crash_site.specs.Folder.{Folder}
use Rattle.crash_site.specs.Disk.{Disk, at_rest, entered, disk_after}
use Rattle.crash_site.specs.Left.{in_part, in_progress}
use Rattle.memory_site.specs.FilesLeft.{with_some, made_part, left_part, sure_name, sure_file, left_entry, left_along, files_left}
use Rattle.memory_site.specs.Marks.{Marked, FollowDisk, sure_marked}
use Rattle.memory_site.specs.Stopped.{Replays}
use Rattle.crash_site.proofs.DiskLemmas.{run-append}
use Rattle.memory_site.proofs.MarkLemmas.{sure_follows}

pub on_ok : {T E P Q : Type 0} (r : Result T E) → (P → Q) → OnOk r P → OnOk r Q
on_ok (Ok v) f p = f p
on_ok (Err e) f p = tt

-- A call that is answered or not leaves the same.

part_unanswered : (garbage : Bool) (call : Call) (reads : Folder) (firm : Bool) (f : List ℕ → Option File)
    → made_part garbage (unanswered call) reads firm f ≡ made_part garbage call reads firm f
part_unanswered garbage (image_open name make) reads firm f = refl
part_unanswered garbage _ reads firm f = refl

pub left_unanswered : (kind : Left) (call : Call) (reads : Folder) (firm : Bool) (f : List ℕ → Option File)
    → left_part kind (unanswered call) reads firm f ≡ left_part kind call reads firm f
left_unanswered Oldest call reads firm f = refl
left_unanswered Newest call reads firm f = part_unanswered false call reads firm f
left_unanswered Garbage call reads firm f = part_unanswered true call reads firm f

entered_unanswered : (d : Disk) (call : Call) (steps : ℕ)
    → entered d (Failed (unanswered call) steps) ≡ entered d (Failed call steps)
entered_unanswered d (image_open name make) steps = refl
entered_unanswered d _ steps = refl

-- One call made again.

pub left_here : (kind : Left) (call : Call) (d : Disk) (reads : Folder) (firm : Bool) (f was now : List ℕ → Option File)
    → d.reads ≡ reads → d.firm ≡ firm → was ≡ f → now ≡ left_part kind call reads firm was
    → now ≡ left_part kind call d.reads d.firm f
left_here kind call d reads firm f was now r b w e =
    e
    ∙ ap (left_part kind call reads firm) w
    ∙ ap (λ (x : Folder). left_part kind call x firm f) (sym r)
    ∙ ap (λ (x : Bool). left_part kind call d.reads x f) (sym b)

pub left_done : (kind : Left) (call : Call) (d : Disk) (reads : Folder) (firm : Bool) (m : Marked)
    (f was now left : List ℕ → Option File) → d.reads ≡ reads → d.firm ≡ firm → FollowDisk d m → was ≡ f
    → now ≡ left_part kind call reads firm was
    → left ≡ with_some (sure_name call reads) (sure_marked call kind reads m.lost) now
    → left ≡ left_entry kind d (Done call) f
left_done kind call d reads firm m f was now left r b h w e s =
    s
    ∙ ap (λ (x : Folder). with_some (sure_name call x) (sure_marked call kind x m.lost) now) (sym r)
    ∙ ap (λ (sure : List ℕ → Option File). with_some (sure_name call d.reads) sure now) (sure_follows d m call kind h)
    ∙ ap (with_some (sure_name call d.reads) (sure_file call kind d))
    (left_here kind call d reads firm f was now r b w e)

pub fails_again : (r : Replay) (d : Disk) (f : List ℕ → Option File) (kind : Left) (l : LoggedCall) (steps : ℕ)
    → l.failed ≡ Some steps
    → Replays r (entered d (Failed (call_of l.act) steps)) (left_entry kind d (Failed (call_of l.act) steps) f)
    → Replays r (entered d (entry_of l)) (left_entry kind d (entry_of l) f)
fails_again r d f kind l steps is h =
    let call = call_of l.act in
    subst (λ (e : Entry). Replays r (entered d e) (left_entry kind d e f))
    (sym (ap (λ (o : Option ℕ). entry_as o call) is))
    (subst (λ (x : Disk). Replays r x (left_entry kind d (Failed (unanswered call) steps) f))
    (sym (entered_unanswered d call steps))
    (subst (Replays r (entered d (Failed call steps))) (sym (left_unanswered kind call d.reads d.firm f)) h))

pub makes_again : (r : Replay) (d : Disk) (f : List ℕ → Option File) (kind : Left) (l : LoggedCall) → l.failed ≡ None
    → Replays r (entered d (Done (call_of l.act))) (left_entry kind d (Done (call_of l.act)) f)
    → Replays r (entered d (entry_of l)) (left_entry kind d (entry_of l) f)
makes_again r d f kind l is h = subst (λ (e : Entry). Replays r (entered d e) (left_entry kind d e f))
    (sym (ap (λ (o : Option ℕ). entry_as o (call_of l.act)) is)) h

-- The calls of a record.

pub along-append : (kind : Left) (d : Disk) (f : List ℕ → Option File) (xs ys : List Entry)
    → left_along kind d f (xs ++ ys) ≡ left_along kind (disk_after d xs) (left_along kind d f xs) ys
along-append kind d f [] ys = refl
along-append kind d f (x ∷ xs) ys = along-append kind (entered d x) (left_entry kind d x f) xs ys

-- one call more than the first i
take_more : (ls : List LoggedCall) (i : ℕ) (l : LoggedCall) → i < length ls → l ≡ get_or ls i l
    → take (i + 1) (map entry_of ls) ≡ take i (map entry_of ls) ++ entry_of l ∷ []
take_more ls i l lt is =
    let within : i < length (map entry_of ls) = omega (arith, length-map ls entry_of) in
    ap (λ (m : ℕ). take m (map entry_of ls)) (let e : i + 1 ≡ suc i = omega arith in e)
    ∙ take-suc (map entry_of ls) i (entry_of l) within
    ∙ ap (λ (e : Entry). take i (map entry_of ls) ++ e ∷ [])
    (get_or-map entry_of ls i l (entry_of l) within_list ∙ ap entry_of (sym is))
  where
    within_list : i < length ls
    within_list = lt

pub disk_more : (s : Disk) (ls : List LoggedCall) (i : ℕ) (l : LoggedCall) → i < length ls → l ≡ get_or ls i l
    → entered (disk_after s (take i (map entry_of ls))) (entry_of l) ≡ disk_after s (take (i + 1) (map entry_of ls))
disk_more s ls i l lt is = sym (ap (disk_after s) (take_more ls i l lt is)
    ∙ run-append s (take i (map entry_of ls)) (entry_of l ∷ []))

pub left_more : (kind : Left) (s : Disk) (f : List ℕ → Option File) (ls : List LoggedCall) (i : ℕ) (l : LoggedCall)
    → i < length ls → l ≡ get_or ls i l
    → left_entry kind (disk_after s (take i (map entry_of ls))) (entry_of l)
    (left_along kind s f (take i (map entry_of ls)))
    ≡ left_along kind s f (take (i + 1) (map entry_of ls))
left_more kind s f ls i l lt is = sym (ap (left_along kind s f) (take_more ls i l lt is)
    ∙ along-append kind s f (take i (map entry_of ls)) (entry_of l ∷ []))

in_part_left : (kind : Left) (d : Disk) (failed : Option ℕ) (call : Call) (f : List ℕ → Option File)
    → left_entry kind d (in_part (entry_as failed call)) f ≡ left_part kind call d.reads d.firm f
in_part_left kind d (Some steps) call f = left_unanswered kind call d.reads d.firm f
in_part_left kind d None call f = refl

-- The call after the first k is in progress, if there is one.
pub next_left : (kind : Left) (d : Disk) (ls : List LoggedCall) (k : ℕ) (l : LoggedCall) (f : List ℕ → Option File)
    → k < length ls → l ≡ get_or ls k l
    → left_part kind (call_of l.act) d.reads d.firm f ≡ left_along kind d f (in_progress (drop k (map entry_of ls)))
next_left kind d ls k l f lt is =
    sym (ap (λ (es : List Entry). left_along kind d f (in_progress es))
    (drop-cons (map entry_of ls) k (entry_of l) (omega (arith, length-map ls entry_of))
    ∙ ap (λ (e : Entry). e ∷ drop (suc k) (map entry_of ls))
    (get_or-map entry_of ls k l (entry_of l) lt ∙ ap entry_of (sym is)))
    ∙ in_part_left kind d l.failed (call_of l.act) f)

-- All calls of a record, and then the one in progress.
pub left_from : (kind asked : Left) (start : Folder) (es : List Entry) (i k : ℕ) (g : List ℕ → Option File) → i ≡ k
    → kind ≡ asked
    → g ≡ left_along kind (disk_after (at_rest start) (take i es))
    (left_along asked (at_rest start) start.files (take i es)) (in_progress (drop k es))
    → g ≡ files_left asked start es k
left_from kind asked start es i k g same is e =
    e
    ∙ ap (λ (x : Left). left_along x (disk_after (at_rest start) (take i es))
    (left_along asked (at_rest start) start.files (take i es)) (in_progress (drop k es))) is
    ∙ ap (λ (m : ℕ). left_along asked (disk_after (at_rest start) (take m es))
    (left_along asked (at_rest start) start.files (take m es)) (in_progress (drop k es))) same
    ∙ sym (along-append asked (at_rest start) start.files (take k es) (in_progress (drop k es)))
