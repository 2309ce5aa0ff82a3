-- What is lost stays lost until it is written again.
use Rattle.std.specs.Bool.{⊤}
use Rattle.std.proofs.Common.{◌≡◌, ◌⊎◌, get_or, inl, inr, ⊎_elim, ℕ, zero, suc, ◌+◌, ◌≤◌, ◌<◌, Bool, true, false, cond, List, [], ◌∷◌, ◌++◌, length, map, take, Option, Some, None, refl, sym, ◌∙◌, ap, subst, arith}
use Rattle.std.specs.Str.{bytes_eq}
use Rattle.std.proofs.lemmas.Bool.{cases_Bool, cases_lt, cond-true, cond-false}
use Rattle.std.proofs.lemmas.List.Elements.{All-head, All-tail}
use Rattle.crash_site.specs.Files.{File, bytes_of, empty_file, written_file}
use Rattle.crash_site.specs.Calls.{Call, Entry, Done, Failed, image_open, image_read, image_write, image_sync, map_read, draft_begin, draft_append, draft_sync, draft_publish, map_settle, map_remove}
use Rattle.crash_site.specs.CallsMade.{IsDone, AllDone}
use Rattle.crash_site.specs.Folder.{Folder, opened, with_piece, if_any, after_done, after_failed, after}
use Rattle.crash_site.specs.Disk.{Version, Showing, Disk, loosen, lose, lose_all, in_each, loosened, newest, lost_in, synced, only, at_rest, or_this, with_range, with_opened, under, under_some, lost_by, after_part, after_return, entered, disk_after}
use Rattle.crash_site.specs.Left.{IsLoose, Matches, MatchesFile, MatchesOne, MayShow, Leaves}
use Rattle.crash_site.specs.Changes.{Changes, call_in}
use Rattle.crash_site.specs.LostLaws.{NoneSyncs, LosesPiece, SparesPlace, SparePlace, with_byte, WholeImageIsFound, LostStays, RewrittenIsFound, IsCallOn, RunsOn}
use Rattle.crash_site.proofs.Touches.{Wrote, Synced, Image, touched, touched_by}
use Rattle.crash_site.proofs.DiskLemmas.{run-append, run_reads, step_reads, same_name, reads_rest}
use Rattle.crash_site.proofs.LawLemmas.{at_other, part_other, part_reads, done_other, failed_other, until_all, whole_held, synced_is_found}
use Rattle.crash_site.proofs.NestLemmas.{newest_of}
use Rattle.crash_site.proofs.RangeLemmas.{without_in, without_out, without_rest}
use Rattle.crash_site.proofs.ResolveLemmas.{written_out}
use Rattle.crash_site.proofs.RunLemmas.{At, at_run, image_done, touches, some_own, piece_own, piece_image}
use Rattle.crash_site.proofs.Written.{length-written}

-- ---- a place that is lost

-- a place is loose in each of these versions
abbrev LooseIn : ℕ → List Version → Type 0
LooseIn x [] = ⊤
LooseIn x (v ∷ vs) = IsLoose v.loose x × LooseIn x vs

-- a place is loose in each version that may be shown
abbrev Loose : ℕ → Showing → Type 0
Loose x s = LooseIn x (s.durable ∷ s.since)

-- a place is lost, and any byte may be there in each version
record Gone (x : ℕ) (s : Showing) : Type 0 where
  pub top : IsLoose (lost_in s) x
  pub each : Loose x s

loose_more : (x pos len : ℕ) (vs : List Version) → LooseIn x vs → LooseIn x (map (loosen pos len) vs)
loose_more x pos len [] h = tt
loose_more x pos len (v ∷ vs) h = (inr h.0, loose_more x pos len vs h.1)

loose_lost : (x pos len : ℕ) (vs : List Version) → LooseIn x vs → LooseIn x (map (lose pos len) vs)
loose_lost x pos len [] h = tt
loose_lost x pos len (v ∷ vs) h = (h.0, loose_lost x pos len vs h.1)

loose_all : (x : ℕ) (vs : List Version) → LooseIn x vs → LooseIn x (map lose_all vs)
loose_all x [] h = tt
loose_all x (v ∷ vs) h = (h.0, loose_all x vs h.1)

-- also where the range was just written
loose_wrote : (x pos len : ℕ) (vs : List Version) → pos ≤ x → x < pos + len → LooseIn x (map (loosen pos len) vs)
loose_wrote x pos len [] le lt = tt
loose_wrote x pos len (v ∷ vs) le lt = (inl (le, lt), loose_wrote x pos len vs le lt)

loose_newest : (x : ℕ) (d : Version) (vs : List Version) → LooseIn x (d ∷ vs) → IsLoose (newest d vs).loose x
loose_newest x d [] h = h.0
loose_newest x d (v ∷ vs) h = h.1.0

gone_loosened : (x pos len : ℕ) (s : Showing) → (x < pos) ⊎ (pos + len ≤ x) → Gone x s → Gone x (loosened pos len s)
gone_loosened x pos len s out h = record {
  top = subst (λ (v : Version). IsLoose v.lost x) (sym (newest_of (loosen pos len) s.durable s.since))
      (without_rest pos len (lost_in s) x h.top out);
  each = loose_more x pos len (s.durable ∷ s.since) h.each;
}

gone_losing : (x pos len : ℕ) (s : Showing) → Gone x s → Gone x (in_each (lose pos len) s)
gone_losing x pos len s h = record {
  top = subst (λ (v : Version). IsLoose v.lost x) (sym (newest_of (lose pos len) s.durable s.since)) (inr h.top);
  each = loose_lost x pos len (s.durable ∷ s.since) h.each;
}

all_gone : (x : ℕ) (s : Showing) → Loose x s → Gone x (in_each lose_all s)
all_gone x s each = record {
  top = subst (λ (v : Version). IsLoose v.lost x) (sym (newest_of lose_all s.durable s.since))
      (loose_newest x s.durable s.since each);
  each = loose_all x (s.durable ∷ s.since) each;
}

gone_synced : (x : ℕ) (file : Option File) (s : Showing) → Gone x s → Gone x (synced file s)
gone_synced x file s h = record { top = h.top; each = (h.top, tt) }

gone_now : (x pos len : ℕ) (s : Showing) → pos ≤ x → x < pos + len
    → Gone x (in_each (lose pos len) (loosened pos len s))
gone_now x pos len s le lt = record {
  top = subst (λ (v : Version). IsLoose v.lost x)
      (sym (newest_of (lose pos len) (loosen pos len s.durable) (map (loosen pos len) s.since))) (inl (le, lt));
  each = loose_lost x pos len (map (loosen pos len) (s.durable ∷ s.since))
      (loose_wrote x pos len (s.durable ∷ s.since) le lt);
}

wrote_each : (x pos len : ℕ) (file : Option File) (s : Showing) → pos ≤ x → x < pos + len
    → Loose x (with_range pos len file s)
wrote_each x pos len None s le lt = loose_wrote x pos len (s.durable ∷ (or_this (Some empty_file) s).since) le lt
wrote_each x pos len (Some f) s le lt = loose_wrote x pos len (s.durable ∷ s.since) le lt

unwrote_gone : (x pos len : ℕ) (file : Option File) (s : Showing) → pos ≤ x → x < pos + len
    → Gone x (in_each (lose pos len) (with_range pos len file s))
unwrote_gone x pos len None s le lt = gone_now x pos len (or_this (Some empty_file) s) le lt
unwrote_gone x pos len (Some f) s le lt = gone_now x pos len s le lt

-- ---- along calls that spare it

abbrev SyncKeeps : (Showing → Type 0) → Type 0
SyncKeeps P = (file : Option File) (s : Showing) → P s → P (synced file s)

-- a property that calls keep which spare a place, except perhaps a sync that returns
record Keeps (x : ℕ) (P : Showing → Type 0) : Type 0 where
  pub wrote : (pos len : ℕ) (s : Showing) → (x < pos) ⊎ (pos + len ≤ x) → P s → P (loosened pos len s)
  pub unwrote : (pos len : ℕ) (s : Showing) → P s → P (in_each (lose pos len) s)
  pub unsynced : (s : Showing) → P s → P (in_each lose_all s)

gone_keeps : (x : ℕ) → Keeps x (Gone x)
gone_keeps x = record {
  wrote = gone_loosened x;
  unwrote = gone_losing x;
  unsynced = λ s h. all_gone x s h.each;
}

loose_keeps : (x : ℕ) → Keeps x (Loose x)
loose_keeps x = record {
  wrote = λ pos len s out h. loose_more x pos len (s.durable ∷ s.since) h;
  unwrote = λ pos len s h. loose_lost x pos len (s.durable ∷ s.since) h;
  unsynced = λ s h. loose_all x (s.durable ∷ s.since) h;
}

-- what the image shows has a property, and the place lies in the file as it reads
record KeptAt (P : Showing → Type 0) (image : List ℕ) (x : ℕ) (d : Disk) : Type 0 where
  pub kept : P (d.shows image)
  pub within : x < length (bytes_of (d.reads.files image))

pick_kept : (P : Showing → Type 0) (b : Bool) (s t : Showing) → (b ≡ true → P s) → P t → P (cond b s t)
pick_kept P true s t h g = h refl
pick_kept P false s t h g = g

under_kept : (P : Showing → Type 0) (d : Disk) (name image : List ℕ) (change : Option File → Showing → Showing)
    → (image ≡ name → P (change (d.reads.files image) (d.shows image))) → P (d.shows image)
    → P ((under name change d).shows image)
under_kept P d name image change h g =
    pick_kept P (bytes_eq image name) (change (d.reads.files image) (d.shows image)) (d.shows image)
    (λ is. h (same_name image name is)) g

some_kept : (P : Showing → Type 0) (d : Disk) (o : Option (List ℕ)) (image : List ℕ)
    (change : Option File → Showing → Showing)
    → (o ≡ Some image → P (change (d.reads.files image) (d.shows image))) → P (d.shows image)
    → P ((under_some o change d).shows image)
some_kept P d None image change h g = g
some_kept P d (Some name) image change h g =
    under_kept P d name image change (λ is. h (ap (λ (n : List ℕ). Some n) (sym is))) g

-- an open changes nothing of a file that is there
opened_kept : (P : Showing → Type 0) (x : ℕ) (make : Bool) (file : Option File) (s : Showing)
    → x < length (bytes_of file) → P s → P (with_opened make file s)
opened_kept P x make None s lt h = absurd (let no : x < 0 = lt in omega arith)
opened_kept P x true (Some f) s lt h = h
opened_kept P x false (Some f) s lt h = h

ranged_kept : (P : Showing → Type 0) (x : ℕ) → Keeps x P → (pos len : ℕ) (file : Option File) (s : Showing)
    → x < length (bytes_of file) → (x < pos) ⊎ (pos + len ≤ x) → P s → P (with_range pos len file s)
ranged_kept P x keeps pos len None s lt out h = absurd (let no : x < 0 = lt in omega arith)
ranged_kept P x keeps pos len (Some f) s lt out h = keeps.wrote pos len s out h

-- also where nothing but the name of the open image is asked of it
spared : (P : Showing → Type 0) (image : List ℕ) (d : Disk) (call : Call) → (Changes d.reads call image → ⊥)
    → P (d.shows image) → P ((after_part call d).shows image)
spared P image d call apart h = subst (λ (s : Showing). P s) (sym (part_other d call image apart)) h

part_kept : (P : Showing → Type 0) (image : List ℕ) (x : ℕ) (d : Disk) (call : Call) → Keeps x P
    → SparesPlace image x d.reads call → KeptAt P image x d → P ((after_part call d).shows image)
part_kept P image x d (image_open name make) keeps sp h =
    under_kept P d name image (with_opened make)
    (λ is. opened_kept P x make (d.reads.files image) (d.shows image) h.within h.kept) h.kept
part_kept P image x d (image_read pos asked answer) keeps sp h = h.kept
part_kept P image x d (image_write pos piece) keeps sp h =
    some_kept P d d.reads.image image (with_range pos (length piece))
    (λ is. ranged_kept P x keeps pos (length piece) (d.reads.files image) (d.shows image) h.within (sp is) h.kept)
    h.kept
part_kept P image x d image_sync keeps sp h = h.kept
part_kept P image x d (map_read name pos asked answer) keeps sp h = h.kept
part_kept P image x d (draft_begin name) keeps sp h = spared P image d (draft_begin name) sp h.kept
part_kept P image x d (draft_append piece) keeps sp h = spared P image d (draft_append piece) sp h.kept
part_kept P image x d draft_sync keeps sp h = h.kept
part_kept P image x d (draft_publish name) keeps sp h = spared P image d (draft_publish name) sp h.kept
part_kept P image x d (map_settle name) keeps sp h = spared P image d (map_settle name) sp.1 h.kept
part_kept P image x d (map_remove name) keeps sp h = spared P image d (map_remove name) sp h.kept

done_kept : (P : Showing → Type 0) (image : List ℕ) (x : ℕ) (d : Disk) (call : Call) → Keeps x P
    → (Done call ≡ Done image_sync → d.reads.image ≡ Some image → SyncKeeps P)
    → SparesPlace image x d.reads call → KeptAt P image x d → P ((after_return call d).shows image)
done_kept P image x d (image_open name make) keeps syncs sp h =
    part_kept P image x d (image_open name make) keeps sp h
done_kept P image x d (image_read pos asked answer) keeps syncs sp h = h.kept
done_kept P image x d (image_write pos piece) keeps syncs sp h =
    part_kept P image x d (image_write pos piece) keeps sp h
done_kept P image x d image_sync keeps syncs sp h =
    some_kept P d d.reads.image image synced
    (λ is. syncs refl is (d.reads.files image) (d.shows image) h.kept) h.kept
done_kept P image x d (map_read name pos asked answer) keeps syncs sp h = h.kept
done_kept P image x d (draft_begin name) keeps syncs sp h = part_kept P image x d (draft_begin name) keeps sp h
done_kept P image x d (draft_append piece) keeps syncs sp h = part_kept P image x d (draft_append piece) keeps sp h
done_kept P image x d draft_sync keeps syncs sp h = h.kept
done_kept P image x d (draft_publish name) keeps syncs sp h = part_kept P image x d (draft_publish name) keeps sp h
done_kept P image x d (map_settle name) keeps syncs sp h =
    subst (λ (s : Showing). P s)
    (sym (at_other (after_part (map_settle name) d) name image (λ file s. only file) sp.0))
    (part_kept P image x d (map_settle name) keeps sp h)
done_kept P image x d (map_remove name) keeps syncs sp h = part_kept P image x d (map_remove name) keeps sp h

lost_kept : (P : Showing → Type 0) (image : List ℕ) (x : ℕ) (d : Disk) (call : Call) → Keeps x P → P (d.shows image)
    → P ((lost_by call d).shows image)
lost_kept P image x d (image_open name make) keeps h = h
lost_kept P image x d (image_read pos asked answer) keeps h = h
lost_kept P image x d (image_write pos piece) keeps h =
    some_kept P d d.reads.image image (λ file s. in_each (lose pos (length piece)) s)
    (λ is. keeps.unwrote pos (length piece) (d.shows image) h) h
lost_kept P image x d image_sync keeps h =
    some_kept P d d.reads.image image (λ file s. in_each lose_all s) (λ is. keeps.unsynced (d.shows image) h) h
lost_kept P image x d (map_read name pos asked answer) keeps h = h
lost_kept P image x d (draft_begin name) keeps h = h
lost_kept P image x d (draft_append piece) keeps h = h
lost_kept P image x d draft_sync keeps h = h
lost_kept P image x d (draft_publish name) keeps h = h
lost_kept P image x d (map_settle name) keeps h = h
lost_kept P image x d (map_remove name) keeps h = h

-- ---- the file as it reads keeps the place

pick_in : (x : ℕ) (b : Bool) (f g : Option File) → (b ≡ true → x < length (bytes_of f)) → x < length (bytes_of g)
    → x < length (bytes_of (cond b f g))
pick_in x true f g h t = h refl
pick_in x false f g h t = t

opened_in : (image name : List ℕ) (x : ℕ) (d : Folder) (make : Bool) (o : Option File) → d.files name ≡ o
    → x < length (bytes_of (d.files image)) → x < length (bytes_of ((opened d name make o).files image))
opened_in image name x d make (Some f) is h = h
opened_in image name x d false None is h = h
opened_in image name x d true None is h =
    pick_in x (bytes_eq image name) (Some empty_file) (d.files image)
    (λ same. absurd (let none : d.files image ≡ None = ap d.files (same_name image name same) ∙ is in
    let lt : x < length (bytes_of None) = subst (λ (f : Option File). x < length (bytes_of f)) none h in
    let no : x < 0 = lt in omega arith)) h

written_in : (x pos : ℕ) (piece : List ℕ) (o : Option File) → x < length (bytes_of o)
    → x < length (written_file o pos piece).bytes
written_in x pos piece None lt = absurd (let no : x < 0 = lt in omega arith)
written_in x pos piece (Some f) lt = omega (arith, lt, length-written f.bytes pos piece)

piece_in : (image : List ℕ) (x : ℕ) (d : Folder) (o : Option (List ℕ)) (pos : ℕ) (piece : List ℕ)
    → x < length (bytes_of (d.files image)) → x < length (bytes_of ((with_piece d o pos piece).files image))
piece_in image x d None pos piece h = h
piece_in image x d (Some name) pos piece h =
    pick_in x (bytes_eq image name) (Some (written_file (d.files name) pos piece)) (d.files image)
    (λ same. written_in x pos piece (d.files name)
    (subst (λ (n : List ℕ). x < length (bytes_of (d.files n))) (same_name image name same) h)) h

any_in : (x : ℕ) (steps : ℕ) (made before : List ℕ → Option File) (image : List ℕ) → x < length (bytes_of (made image))
    → x < length (bytes_of (before image)) → x < length (bytes_of (if_any steps made before image))
any_in x zero made before image m b = b
any_in x (suc n) made before image m b = m

same_in : (x : ℕ) (f g : Option File) → f ≡ g → x < length (bytes_of g) → x < length (bytes_of f)
same_in x f g is h = subst (λ (o : Option File). x < length (bytes_of o)) (sym is) h

done_in : (image : List ℕ) (x : ℕ) (d : Folder) (call : Call) → SparesPlace image x d call
    → x < length (bytes_of (d.files image)) → x < length (bytes_of ((after_done d call).files image))
done_in image x d (image_open name make) sp h = opened_in image name x d make (d.files name) refl h
done_in image x d (image_read pos asked answer) sp h = h
done_in image x d (image_write pos piece) sp h = piece_in image x d d.image pos piece h
done_in image x d image_sync sp h = h
done_in image x d (map_read name pos asked answer) sp h = h
done_in image x d (draft_begin name) sp h =
    same_in x _ (d.files image) (done_other d (draft_begin name) image sp) h
done_in image x d (draft_append piece) sp h =
    same_in x _ (d.files image) (done_other d (draft_append piece) image sp) h
done_in image x d draft_sync sp h = h
done_in image x d (draft_publish name) sp h =
    same_in x _ (d.files image) (done_other d (draft_publish name) image sp) h
done_in image x d (map_settle name) sp h = h
done_in image x d (map_remove name) sp h =
    same_in x _ (d.files image) (done_other d (map_remove name) image sp) h

failed_in : (image : List ℕ) (x : ℕ) (d : Folder) (call : Call) (steps : ℕ) → SparesPlace image x d call
    → x < length (bytes_of (d.files image)) → x < length (bytes_of ((after_failed d call steps).files image))
failed_in image x d (image_open name make) steps sp h =
    any_in x steps (opened d name make (d.files name)).files d.files image
    (opened_in image name x d make (d.files name) refl h) h
failed_in image x d (image_read pos asked answer) steps sp h = h
failed_in image x d (image_write pos piece) steps sp h =
    any_in x steps (with_piece d d.image pos (take steps piece)).files d.files image
    (piece_in image x d d.image pos (take steps piece) h) h
failed_in image x d image_sync steps sp h = h
failed_in image x d (map_read name pos asked answer) steps sp h = h
failed_in image x d (draft_begin name) steps sp h =
    same_in x _ (d.files image) (failed_other d (draft_begin name) steps image sp) h
failed_in image x d (draft_append piece) steps sp h =
    same_in x _ (d.files image) (failed_other d (draft_append piece) steps image sp) h
failed_in image x d draft_sync steps sp h = h
failed_in image x d (draft_publish name) steps sp h = h
failed_in image x d (map_settle name) steps sp h =
    same_in x _ (d.files image) (failed_other d (map_settle name) steps image sp.1) h
failed_in image x d (map_remove name) steps sp h = h

kept_step : (P : Showing → Type 0) (image : List ℕ) (x : ℕ) (d : Disk) (e : Entry) → Keeps x P
    → (e ≡ Done image_sync → d.reads.image ≡ Some image → SyncKeeps P) → SparesPlace image x d.reads (call_in e)
    → KeptAt P image x d → KeptAt P image x (entered d e)
kept_step P image x d (Done call) keeps syncs sp h = record {
  kept = done_kept P image x d call keeps syncs sp h;
  within = done_in image x d.reads call sp h.within;
}
kept_step P image x d (Failed call steps) keeps syncs sp h = record {
  kept = lost_kept P image x (after_part call d) call keeps (part_kept P image x d call keeps sp h);
  within = failed_in image x d.reads call steps sp h.within;
}

gone_run : (image : List ℕ) (x : ℕ) (d : Disk) (es : List Entry) → SparePlace image x d.reads es
    → KeptAt (Gone x) image x d → KeptAt (Gone x) image x (disk_after d es)
gone_run image x d [] sp h = h
gone_run image x d (e ∷ es) sp h =
    gone_run image x (entered d e) es (subst (λ (r : Folder). SparePlace image x r es) (sym (step_reads d e)) sp.1)
    (kept_step (Gone x) image x d e (gone_keeps x) (λ is own. gone_synced x) sp.0 h)

loose_run : (image : List ℕ) (x : ℕ) (d : Disk) (es : List Entry) → SparePlace image x d.reads es
    → NoneSyncs image d.reads es → KeptAt (Loose x) image x d → KeptAt (Loose x) image x (disk_after d es)
loose_run image x d [] sp none h = h
loose_run image x d (e ∷ es) sp none h =
    loose_run image x (entered d e) es (subst (λ (r : Folder). SparePlace image x r es) (sym (step_reads d e)) sp.1)
    (subst (λ (r : Folder). NoneSyncs image r es) (sym (step_reads d e)) none.1)
    (kept_step (Loose x) image x d e (loose_keeps x) (λ is own. absurd (none.0 is own)) sp.0 h)

-- ---- any byte may be there

byte_matches : (f g : File) (loose : List (ℕ × ℕ)) (x byte : ℕ) → IsLoose loose x → x < length g.bytes
    → Matches f loose g → Matches f loose (written_file (Some g) x (byte ∷ []))
byte_matches f g loose x byte l lt h = record {
  stands = λ y has. elim (cases_lt y x) [
    | inl low ↦ ⊎_elim (λ m. inl m) (λ e. inr (written_out g.bytes x (byte ∷ []) y (inl low) ∙ e)) (h.stands y has)
    | inr le ↦ elim (cases_lt x y) [
      | inl high ↦ ⊎_elim (λ m. inl m)
          (λ e. inr (written_out g.bytes x (byte ∷ []) y (inr (omega (arith, high))) ∙ e)) (h.stands y has)
      | inr same ↦ inl (subst (λ (z : ℕ). IsLoose loose z) (let e : x ≡ y = omega (arith, le, same) in e) l)
    ]
  ];
  no_shorter = omega (arith, h.no_shorter, lt, length-written g.bytes x (byte ∷ []));
  no_longer = omega (arith, h.no_longer, lt, length-written g.bytes x (byte ∷ []));
  regular = h.regular;
}

byte_file : (o : Option File) (g : File) (loose : List (ℕ × ℕ)) (x byte : ℕ) → IsLoose loose x → x < length g.bytes
    → MatchesFile o loose (Some g) → MatchesFile o loose (Some (written_file (Some g) x (byte ∷ [])))
byte_file None g loose x byte l lt h = absurd h
byte_file (Some f) g loose x byte l lt h = byte_matches f g loose x byte l lt h

byte_one : (vs : List Version) (g : File) (x byte : ℕ) → LooseIn x vs → x < length g.bytes → MatchesOne vs (Some g)
    → MatchesOne vs (Some (written_file (Some g) x (byte ∷ [])))
byte_one [] g x byte l lt h = absurd h
byte_one (v ∷ vs) g x byte l lt (inl h) = inl (byte_file v.file g v.loose x byte l.0 lt h)
byte_one (v ∷ vs) g x byte l lt (inr h) = inr (byte_one vs g x byte l.1 lt h)

byte_shown : (s : Showing) (o : Option File) (x byte : ℕ) → Loose x s → x < length (bytes_of o)
    → MayShow s o → MayShow s (Some (written_file o x (byte ∷ [])))
byte_shown s None x byte l lt h = absurd (let no : x < 0 = lt in omega arith)
byte_shown s (Some g) x byte l lt (inl d) = inl d
byte_shown s (Some g) x byte l lt (inr (inl w)) = inr (inl w)
byte_shown s (Some g) x byte l lt (inr (inr h)) = inr (inr (byte_one (s.durable ∷ s.since) g x byte l lt h))

byte_leaves : (image : List ℕ) (x byte : ℕ) (d : Disk) → KeptAt (Gone x) image x d → Leaves d d.reads.files
    → Leaves d (with_byte image x byte d.reads.files)
byte_leaves image x byte d h sound = λ n. elim (cases_Bool (bytes_eq n image)) [
  | inl is ↦ subst (λ (f : Option File). MayShow (d.shows n) f)
      (sym (cond-true (bytes_eq n image) (Some (written_file (d.reads.files image) x (byte ∷ [])))
      (d.reads.files n) is))
      (subst (λ (m : List ℕ). MayShow (d.shows m) (Some (written_file (d.reads.files image) x (byte ∷ []))))
      (sym (same_name n image is))
      (byte_shown (d.shows image) (d.reads.files image) x byte h.kept.each h.within (sound image)))
  | inr is ↦ subst (λ (f : Option File). MayShow (d.shows n) f)
      (sym (cond-false (bytes_eq n image) (Some (written_file (d.reads.files image) x (byte ∷ [])))
      (d.reads.files n) is))
      (sound n)
]

wrote_here : (d : Disk) (image : List ℕ) (pos : ℕ) (piece : List ℕ) → d.reads.image ≡ Some image
    → (after_part (image_write pos piece) d).shows image
    ≡ with_range pos (length piece) (d.reads.files image) (d.shows image)
wrote_here d image pos piece open_ = some_own d d.reads.image image (with_range pos (length piece)) open_

-- a write that fails loses its range
unwrote_here : (d : Disk) (image : List ℕ) (pos : ℕ) (piece : List ℕ) (steps x : ℕ)
    → d.reads.image ≡ Some image → pos ≤ x
    → x < pos + length piece → Gone x ((entered d (Failed (image_write pos piece) steps)).shows image)
unwrote_here d image pos piece steps x open_ le lt =
    let mid : Disk = after_part (image_write pos piece) d in
    let mid_open : mid.reads.image ≡ Some image = ap (λ (r : Folder). r.image)
    (part_reads d (image_write pos piece)) ∙ open_ in
    subst (λ (s : Showing). Gone x s)
    (sym (some_own mid mid.reads.image image (λ file s. in_each (lose pos (length piece)) s) mid_open
    ∙ ap (in_each (lose pos (length piece))) (wrote_here d image pos piece open_)))
    (unwrote_gone x pos (length piece) (d.reads.files image) (d.shows image) le lt)

wrote_long : (o : Option File) (pos : ℕ) (piece : List ℕ) → pos + length piece ≤ length (written_file o pos piece).bytes
wrote_long None pos piece = omega (arith, length-written [] pos piece)
wrote_long (Some f) pos piece = omega (arith, length-written f.bytes pos piece)

-- a sync that fails loses what was written since the last one that returned
unsynced_here : (d : Disk) (image : List ℕ) (pos : ℕ) (piece : List ℕ) (between : List Entry) (steps x : ℕ)
    → d.reads.image ≡ Some image → pos ≤ x → x < pos + length piece
    → SparePlace image x (after_done d.reads (image_write pos piece)) between
    → NoneSyncs image (after_done d.reads (image_write pos piece)) between
    → (after d.reads (Done (image_write pos piece) ∷ between)).image ≡ Some image
    → Gone x ((disk_after d (Done (image_write pos piece) ∷ (between ++ Failed image_sync steps ∷ []))).shows image)
unsynced_here d image pos piece between steps x open_ le lt spare none last =
    let done : Disk = entered d (Done (image_write pos piece)) in
    let end : Disk = disk_after done between in
    let at : KeptAt (Loose x) image x done = record {
      kept = subst (λ (s : Showing). Loose x s) (sym (wrote_here d image pos piece open_))
          (wrote_each x pos (length piece) (d.reads.files image) (d.shows image) le lt);
      within = same_in x (done.reads.files image) (Some (written_file (d.reads.files image) pos piece))
          (piece_own d.reads d.reads.image image pos piece open_)
          (omega (arith, lt, wrote_long (d.reads.files image) pos piece));
    } in
    let loose : KeptAt (Loose x) image x end = loose_run image x done between spare none at in
    let end_open : end.reads.image ≡ Some image = ap (λ (r : Folder). r.image) (run_reads done between) ∙ last in
    subst (λ (z : Disk). Gone x (z.shows image)) (sym (run-append done between (Failed image_sync steps ∷ [])))
    (subst (λ (s : Showing). Gone x s)
    (sym (some_own end end.reads.image image (λ file s. in_each lose_all s) end_open))
    (all_gone x (end.shows image) loose.kept))

-- the calls that lose a piece
piece_gone : (d : Disk) (image : List ℕ) (pos : ℕ) (piece : List ℕ) (x : ℕ) (lost : List Entry)
    → d.reads.image ≡ Some image → LosesPiece image pos piece x d.reads lost → pos ≤ x → x < pos + length piece
    → Gone x ((disk_after d lost).shows image)
piece_gone d image pos piece x lost open_ loses le lt = ⊎_elim
    (λ is. subst (λ (l : List Entry). Gone x ((disk_after d l).shows image)) (sym is)
    (unwrote_here d image pos piece loses.0 x open_ le lt))
    (λ h. subst (λ (l : List Entry). Gone x ((disk_after d l).shows image)) (sym h.4)
    (unsynced_here d image pos piece h.0 loses.0 x open_ le lt h.1 h.2 h.3)) loses.1

pub lost_stays : LostStays
lost_stays start before lost since image pos piece x byte open_ loses le lt within spare =
    let d0 : Disk = disk_after (at_rest start) before in
    let d1 : Disk = disk_after (at_rest start) (before ++ lost) in
    let all : List Entry = (before ++ lost) ++ since in
    let here : d1 ≡ disk_after d0 lost = run-append (at_rest start) before lost in
    let there : disk_after (at_rest start) all ≡ disk_after d1 since = run-append (at_rest start)
    (before ++ lost) since in
    let reads : d1.reads ≡ after start (before ++ lost) = run_reads (at_rest start) (before ++ lost) in
    let reads0 : d0.reads ≡ after start before = run_reads (at_rest start) before in
    let gone : Gone x (d1.shows image) = subst (λ (d : Disk). Gone x (d.shows image)) (sym here)
    (piece_gone d0 image pos piece x lost (ap (λ (r : Folder). r.image) reads0 ∙ open_)
    (subst (λ (r : Folder). LosesPiece image pos piece x r lost) (sym reads0) loses) le lt) in
    let at : KeptAt (Gone x) image x d1 = record {
      kept = gone;
      within = subst (λ (r : Folder). x < length (bytes_of (r.files image))) (sym reads) within;
    } in
    let last : KeptAt (Gone x) image x (disk_after (at_rest start) all) =
    subst (λ (d : Disk). KeptAt (Gone x) image x d) (sym there)
    (gone_run image x d1 since (subst (λ (r : Folder). SparePlace image x r since) (sym reads) spare) at) in
    let end : (disk_after (at_rest start) all).reads ≡ after start all = run_reads (at_rest start) all in
    let sound : Leaves (disk_after (at_rest start) all) (disk_after (at_rest start) all).reads.files
    = subst (λ (r : Folder). Leaves (disk_after (at_rest start) all) r.files) (sym end) (reads_rest start all) in
    subst (λ (l : List Entry). Leaves (disk_after (at_rest start) l) (with_byte image x byte (after start all).files))
    (sym (until_all all))
    (subst (λ (r : Folder). Leaves (disk_after (at_rest start) all) (with_byte image x byte r.files)) end
    (byte_leaves image x byte (disk_after (at_rest start) all) last sound))

-- ---- what is written again

-- a place isn't lost
abbrev Free : ℕ → Showing → Type 0
Free x s = IsLoose (lost_in s) x → ⊥

free_loosened : (x pos len : ℕ) (s : Showing) → Free x s → Free x (loosened pos len s)
free_loosened x pos len s free l = free (without_in pos len (lost_in s) x
    (subst (λ (v : Version). IsLoose v.lost x) (newest_of (loosen pos len) s.durable s.since) l))

free_wrote : (x pos len : ℕ) (s : Showing) → pos ≤ x → x < pos + len → Free x (loosened pos len s)
free_wrote x pos len s le lt l = absurd (⊎_elim (λ (low : x < pos). omega (arith, low, le))
    (λ (high : pos + len ≤ x). omega (arith, high, lt)) (without_out pos len (lost_in s) x
    (subst (λ (v : Version). IsLoose v.lost x) (newest_of (loosen pos len) s.durable s.since) l)))

free_range : (x pos len : ℕ) (file : Option File) (s : Showing) → pos ≤ x → x < pos + len
    → Free x (with_range pos len file s)
free_range x pos len None s le lt = free_wrote x pos len (or_this (Some empty_file) s) le lt
free_range x pos len (Some f) s le lt = free_wrote x pos len s le lt

free_touched : (x : ℕ) (i : Image) (es : List Entry) → AllDone es → Free x i.shows
    → Free x (touched_by i (touches es)).shows
free_touched x i [] ok free = free
free_touched x i (Failed call steps ∷ es) ok free = absurd (All-head IsDone (Failed call steps) es ok)
free_touched x i (Done (image_open name make) ∷ es) ok free =
    free_touched x i es (All-tail IsDone (Done (image_open name make)) es ok) free
free_touched x i (Done (image_read pos asked answer) ∷ es) ok free =
    free_touched x i es (All-tail IsDone (Done (image_read pos asked answer)) es ok) free
free_touched x i (Done (image_write pos piece) ∷ es) ok free =
    free_touched x (touched i (Wrote pos piece)) es (All-tail IsDone (Done (image_write pos piece)) es ok)
    (free_loosened x pos (length piece) i.shows free)
free_touched x i (Done image_sync ∷ es) ok free = free_touched x (touched i Synced) es
    (All-tail IsDone (Done image_sync) es ok) free
free_touched x i (Done (map_read name pos asked answer) ∷ es) ok free =
    free_touched x i es (All-tail IsDone (Done (map_read name pos asked answer)) es ok) free
free_touched x i (Done (draft_begin name) ∷ es) ok free =
    free_touched x i es (All-tail IsDone (Done (draft_begin name)) es ok) free
free_touched x i (Done (draft_append piece) ∷ es) ok free =
    free_touched x i es (All-tail IsDone (Done (draft_append piece)) es ok) free
free_touched x i (Done draft_sync ∷ es) ok free = free_touched x i es (All-tail IsDone (Done draft_sync) es ok) free
free_touched x i (Done (draft_publish name) ∷ es) ok free =
    free_touched x i es (All-tail IsDone (Done (draft_publish name)) es ok) free
free_touched x i (Done (map_settle name) ∷ es) ok free =
    free_touched x i es (All-tail IsDone (Done (map_settle name)) es ok) free
free_touched x i (Done (map_remove name) ∷ es) ok free =
    free_touched x i es (All-tail IsDone (Done (map_remove name)) es ok) free

-- a place that is free of what was lost is found as it reads
found_free : (o found : Option File) (lost : List (ℕ × ℕ)) (x : ℕ) → (IsLoose lost x → ⊥) → x < length (bytes_of o)
    → MatchesFile o lost found → get_or (bytes_of found) x 0 ≡ get_or (bytes_of o) x 0
found_free None found lost x free lt h = absurd (let no : x < 0 = lt in omega arith)
found_free (Some f) None lost x free lt h = absurd h
found_free (Some f) (Some g) lost x free lt h = ⊎_elim (λ l. absurd (free l)) (λ e. e) (h.stands x lt)

run_in : (image : List ℕ) (x : ℕ) (d : Folder) (call : Call) → IsCallOn image d call
    → x < length (bytes_of (d.files image)) → x < length (bytes_of ((after_done d call).files image))
run_in image x d (image_open name make) of h = absurd of
run_in image x d (image_read pos asked answer) of h = h
run_in image x d (image_write pos piece) of h = piece_in image x d d.image pos piece h
run_in image x d image_sync of h = h
run_in image x d (map_read name pos asked answer) of h = h
run_in image x d (draft_begin name) of h = same_in x _ (d.files image) (done_other d (draft_begin name) image of) h
run_in image x d (draft_append piece) of h = same_in x _ (d.files image) (done_other d (draft_append piece) image of) h
run_in image x d draft_sync of h = h
run_in image x d (draft_publish name) of h = same_in x _ (d.files image) (done_other d (draft_publish name) image of) h
run_in image x d (map_settle name) of h = h
run_in image x d (map_remove name) of h = same_in x _ (d.files image) (done_other d (map_remove name) image of) h

-- the image stays open along such calls, and no shorter
record OpenAt (image : List ℕ) (x : ℕ) (d : Folder) : Type 0 where
  pub open_ : d.image ≡ Some image
  pub within : x < length (bytes_of (d.files image))

still_open : (image : List ℕ) (x : ℕ) (d : Folder) (es : List Entry) → AllDone es → RunsOn image d es → OpenAt image x d
    → OpenAt image x (after d es)
still_open image x d [] ok run h = h
still_open image x d (Failed call steps ∷ es) ok run h = absurd (All-head IsDone (Failed call steps) es ok)
still_open image x d (Done call ∷ es) ok run h =
    still_open image x (after_done d call) es (All-tail IsDone (Done call) es ok) run.1
    (record { open_ = image_done image d call run.0 ∙ h.open_; within = run_in image x d call run.0 h.within })

pub whole_is_found : WholeImageIsFound
whole_is_found start before since image k found is none spares lt h =
    whole_held ((after start before).files image) (lost_in ((disk_after (at_rest start) before).shows image))
    (found image)
    none (synced_is_found start before since image k found is spares lt h)

pub rewritten : RewrittenIsFound
rewritten start before between since image pos piece x k found open_ le lt ok runs spares past h =
    let write : Entry = Done (image_write pos piece) in
    let d0 : Disk = disk_after (at_rest start) before in
    let d1 : Disk = entered d0 write in
    let all : List Entry = before ++ write ∷ between in
    let image0 : d0.reads.image ≡ Some image = ap (λ (r : Folder). r.image)
    (run_reads (at_rest start) before) ∙ open_ in
    let reads1 : d1.reads ≡ after start (before ++ write ∷ []) =
    sym (ap (λ (d : Disk). d.reads) (run-append (at_rest start) before (write ∷ [])))
    ∙ run_reads (at_rest start) (before ++ write ∷ []) in
    let i : Image = record {
      reads = written_file (d0.reads.files image) pos piece;
      shows = with_range pos (length piece) (d0.reads.files image) (d0.shows image);
    } in
    let at : At image d1 i = record {
      image = piece_image d0.reads d0.reads.image pos piece ∙ image0;
      reads = piece_own d0.reads d0.reads.image image pos piece image0;
      shows = some_own d0 d0.reads.image image (with_range pos (length piece)) image0;
    } in
    let end : disk_after (at_rest start) all ≡ disk_after d1 between = run-append (at_rest start) before
    (write ∷ between) in
    let run1 : RunsOn image d1.reads between = subst (λ (r : Folder). RunsOn image r between) (sym reads1) runs in
    let shown : (disk_after (at_rest start) all).shows image ≡ (touched_by i (touches between)).shows =
    ap (λ (d : Disk). d.shows image) end ∙ at_run image d1 between i run1 at in
    let free : Free x ((disk_after (at_rest start) all).shows image) =
    subst (λ (s : Showing). Free x s) (sym shown)
    (free_touched x i between ok (free_range x pos (length piece) (d0.reads.files image) (d0.shows image) le lt)) in
    let same : after start all ≡ after d1.reads between =
    sym (run_reads (at_rest start) all) ∙ ap (λ (d : Disk). d.reads) end ∙ run_reads d1 between in
    let first : OpenAt image x d1.reads = record {
      open_ = at.image;
      within = same_in x (d1.reads.files image) (Some i.reads) at.reads
          (omega (arith, lt, wrote_long (d0.reads.files image) pos piece));
    } in
    let last : OpenAt image x (after start all) =
    subst (λ (r : Folder). OpenAt image x r) (sym same) (still_open image x d1.reads between ok run1 first) in
    found_free ((after start all).files image) (found image)
    (lost_in ((disk_after (at_rest start) all).shows image)) x free
    last.within (synced_is_found start all since image k found last.open_ spares past h)
