-- Without a failed write or sync of an image nothing is lost.
use Rattle.std.proofs.Common.{◌≡◌, All, ℕ, Bool, true, false, cond, List, [], ◌∷◌, map, length, Option, Some, None, refl, ap}
use Rattle.std.specs.List.{flat_map}
use Rattle.std.specs.Str.{bytes_eq}
use Rattle.crash_site.specs.Files.{File, draft_of}
use Rattle.crash_site.specs.Calls.{Call, Entry, Done, Failed, image_open, image_read, image_write, image_sync, map_read, draft_begin, draft_append, draft_sync, draft_publish, map_settle, map_remove}
use Rattle.crash_site.specs.Disk.{Version, Showing, Disk, without, loosen, newest, lost_in, synced, only, or_this, with_range, with_opened, under, under_some, with_draft, with_text, publishing, after_part, after_return, at_rest, entered, disk_after}
use Rattle.crash_site.specs.LostLaws.{LosesNone, NothingIsLost}
use Rattle.std.proofs.lemmas.List.Elements.{All-head, All-tail}

-- nothing of any file is lost
abbrev pub NoneLost : Disk → Type 0
NoneLost d = (n : List ℕ) → lost_in (d.shows n) ≡ []

abbrev Keeps : (Option File → Showing → Showing) → Type 0
Keeps change = (file : Option File) (s : Showing) → lost_in s ≡ [] → lost_in (change file s) ≡ []

loosened_lost : (pos len : ℕ) (v : Version) (vs : List Version) → (newest v vs).lost ≡ []
    → (newest (loosen pos len v) (map (loosen pos len) vs)).lost ≡ []
loosened_lost pos len v [] is = ap (flat_map (without pos len)) is
loosened_lost pos len v (u ∷ us) is = ap (flat_map (without pos len)) is

range_keeps : (pos len : ℕ) → Keeps (with_range pos len)
range_keeps pos len None s is = refl
range_keeps pos len (Some f) s is = loosened_lost pos len s.durable s.since is

opened_keeps : (make : Bool) → Keeps (with_opened make)
opened_keeps true None s is = refl
opened_keeps true (Some f) s is = is
opened_keeps false file s is = is

either : (b : Bool) (x y : Showing) → lost_in x ≡ [] → lost_in y ≡ [] → lost_in (cond b x y) ≡ []
either true x y h g = h
either false x y h g = g

under_keeps : (d : Disk) (name : List ℕ) (change : Option File → Showing → Showing) → Keeps change → NoneLost d
    → NoneLost (under name change d)
under_keeps d name change keeps h = λ n. either (bytes_eq n name) (change (d.reads.files n) (d.shows n)) (d.shows n)
    (keeps (d.reads.files n) (d.shows n) (h n)) (h n)

some_keeps : (d : Disk) (name : Option (List ℕ)) (change : Option File → Showing → Showing) → Keeps change → NoneLost d
    → NoneLost (under_some name change d)
some_keeps d None change keeps h = h
some_keeps d (Some name) change keeps h = under_keeps d name change keeps h

publishing_keeps : (d : Disk) (o : Option (List ℕ)) (name : List ℕ) → NoneLost d → NoneLost (publishing o name d)
publishing_keeps d None name h = h
publishing_keeps d (Some draft) name h =
    under_keeps (under draft with_draft d) name (with_text (d.reads.files draft) d.firm) (λ file s is. refl)
    (under_keeps d draft with_draft (λ file s is. is) h)

part_keeps : (d : Disk) (call : Call) → NoneLost d → NoneLost (after_part call d)
part_keeps d (image_open name make) h = under_keeps d name (with_opened make) (opened_keeps make) h
part_keeps d (image_read pos asked answer) h = h
part_keeps d (image_write pos piece) h =
    some_keeps d d.reads.image (with_range pos (length piece)) (range_keeps pos (length piece)) h
part_keeps d image_sync h = h
part_keeps d (map_read name pos asked answer) h = h
part_keeps d (draft_begin name) h = under_keeps d name with_draft (λ file s is. is) h
part_keeps d (draft_append piece) h = some_keeps d d.reads.draft with_draft (λ file s is. is) h
part_keeps d draft_sync h = h
part_keeps d (draft_publish name) h = publishing_keeps d d.reads.draft name h
part_keeps d (map_settle name) h = under_keeps d (draft_of name) (with_opened true) (opened_keeps true) h
part_keeps d (map_remove name) h = under_keeps d name (λ file s. or_this None s) (λ file s is. refl) h

done_keeps : (d : Disk) (call : Call) → NoneLost d → NoneLost (after_return call d)
done_keeps d (image_open name make) h = part_keeps d (image_open name make) h
done_keeps d (image_read pos asked answer) h = h
done_keeps d (image_write pos piece) h = part_keeps d (image_write pos piece) h
done_keeps d image_sync h = some_keeps d d.reads.image synced (λ file s is. is) h
done_keeps d (map_read name pos asked answer) h = h
done_keeps d (draft_begin name) h = part_keeps d (draft_begin name) h
done_keeps d (draft_append piece) h = part_keeps d (draft_append piece) h
done_keeps d draft_sync h = h
done_keeps d (draft_publish name) h = part_keeps d (draft_publish name) h
done_keeps d (map_settle name) h =
    under_keeps (after_part (map_settle name) d) name (λ file s. only file) (λ file s is. refl)
    (part_keeps d (map_settle name) h)
done_keeps d (map_remove name) h = part_keeps d (map_remove name) h

failed_keeps : (d : Disk) (call : Call) (steps : ℕ) → LosesNone (Failed call steps) → NoneLost d
    → NoneLost (entered d (Failed call steps))
failed_keeps d (image_open name make) steps ok h = part_keeps d (image_open name make) h
failed_keeps d (image_read pos asked answer) steps ok h = h
failed_keeps d (image_write pos piece) steps ok h = absurd ok
failed_keeps d image_sync steps ok h = absurd ok
failed_keeps d (map_read name pos asked answer) steps ok h = h
failed_keeps d (draft_begin name) steps ok h = part_keeps d (draft_begin name) h
failed_keeps d (draft_append piece) steps ok h = part_keeps d (draft_append piece) h
failed_keeps d draft_sync steps ok h = h
failed_keeps d (draft_publish name) steps ok h = part_keeps d (draft_publish name) h
failed_keeps d (map_settle name) steps ok h = part_keeps d (map_settle name) h
failed_keeps d (map_remove name) steps ok h = part_keeps d (map_remove name) h

pub none_lost_step : (d : Disk) (e : Entry) → LosesNone e → NoneLost d → NoneLost (entered d e)
none_lost_step d (Done call) ok h = done_keeps d call h
none_lost_step d (Failed call steps) ok h = failed_keeps d call steps ok h

pub none_lost_run : (d : Disk) (es : List Entry) → All LosesNone es → NoneLost d → NoneLost (disk_after d es)
none_lost_run d [] ok h = h
none_lost_run d (e ∷ es) ok h =
    none_lost_run (entered d e) es (All-tail LosesNone e es ok) (none_lost_step d e (All-head LosesNone e es ok) h)

pub nothing_lost : NothingIsLost
nothing_lost start calls name ok = none_lost_run (at_rest start) calls ok (λ n. refl) name
