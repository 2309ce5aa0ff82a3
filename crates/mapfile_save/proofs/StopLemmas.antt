-- What a stop within a save leaves, and what it leaves where it returned Ok.
use Rattle.std.proofs.Common.{◌≡◌, ◌≢◌, ℕ, ◌≤◌, true, false, IsTrue, List, [], ◌∷◌, ◌++◌, map, length, Option, Some, None, Result, Ok, Err, OnOk, refl, sym, ap, subst, ◌∙◌, append-nil, append_assoc}
use Rattle.std.specs.Str.{bytes_eq}
use Rattle.std.specs.List.{concat}
use Rattle.std.proofs.lemmas.Bool.{cond-true}
use Rattle.crash_site.specs.Files.{File, put}
use Rattle.crash_site.specs.Calls.{Entry, Done, Failed, image_sync, draft_begin, draft_append, draft_sync, draft_publish, map_settle}
use Rattle.crash_site.specs.Folder.{Folder, published as moved}
use Rattle.crash_site.specs.Disk.{Disk, at_rest, entered, disk_after}
use Rattle.crash_site.specs.Left.{until, Leaves, MayBeLeft}
use Rattle.crash_site.specs.Along.{AlongCalls}
use Rattle.crash_site.specs.SiteState.{SiteState}
use Rattle.crash_site.proofs.DiskLemmas.{reads_run, rest_sound, run-append}
use Rattle.crash_site.proofs.LawLemmas.{own_name, put_other, done_other, moved_own}
use Rattle.crash_site.proofs.NestLemmas.{Nested, nested_run, nested_rest}
use Rattle.crash_site.proofs.AlongLemmas.{WentOn, made_goes, broke_goes, stop_past}
use Rattle.mapfile_text.specs.Pieces.{pieces_of}
use Rattle.mapfile_text.proofs.PieceLemmas.{in_pieces}
use Rattle.mapfile_save.specs.declared.draft.SaveFault.{SaveFault}
use Rattle.mapfile_save.specs.MapNames.{MapNames, HasOwnDraft}
use Rattle.mapfile_save.specs.Saving.{publish_calls, save_calls, Saves}
use Rattle.mapfile_save.specs.SaveStops.{disk_of, text_file, IsOldOrNew, Old, StopsInSave, IsSaved}
use Rattle.mapfile_save.proofs.StageLemmas.{Drafting, ShowsNew, IsSafe, synced_safe, published_safe, image_synced, some_unsync_shows, begun_in_part, draft_begun, appended_in_part, appended_more, firm_kept, published_in_part, moves_on, reshown, looked_other, settled, settled_shows, is_other}

-- and leaves none under the draft's
moved_draft : (r : Folder) (o : Option (List ℕ)) (draft name : List ℕ) → o ≡ Some draft → draft ≢ name → (moved r o name).files draft ≡ None
moved_draft r None draft name is apart = absurd (cc)
moved_draft r (Some from) draft name is apart =
    let same : from ≡ draft = cc in
    put_other (put r.files from None) name draft (r.files from) apart
    ∙ ap (λ (n : List ℕ). put r.files n None draft) same
    ∙ cond-true (bytes_eq draft draft) None (r.files draft) (own_name draft)

pub moved_image : (r : Folder) (o : Option (List ℕ)) (name : List ℕ) → (moved r o name).image ≡ r.image
moved_image r None name = refl
moved_image r (Some from) name = refl

moved_none : (r : Folder) (o : Option (List ℕ)) (draft name : List ℕ) → o ≡ Some draft → (moved r o name).draft ≡ None
moved_none r None draft name is = absurd (cc)
moved_none r (Some from) draft name is = refl

-- the disk after a publish that returned Ok
pub record AfterPublish (names : MapNames) (text : List ℕ) (was now : Disk) : Type 0 where
  pub published : ShowsNew names text was now
  pub map : now.reads.files names.map ≡ Some (text_file text)
  pub draft : names.draft ≢ names.map → now.reads.files names.draft ≡ None
  pub others : (n : List ℕ) → n ≢ names.map → n ≢ names.draft → now.reads.files n ≡ was.reads.files n
  pub still_open : now.reads.image ≡ was.reads.image
  pub none_begun : now.reads.draft ≡ None

was_moved : (names : MapNames) (text : List ℕ) (was now : Disk) → Drafting names text was now → now.firm ≡ true
    → AfterPublish names text was (entered now (Done (draft_publish names.map)))
was_moved names text was now d firm = record {
  published = reshown names text was _ (entered now (Done (draft_publish names.map))) (λ n apart. refl)
      (published_in_part names text was now d firm);
  map = moved_own now.reads now.reads.draft names.draft names.map d.draft ∙ d.holds;
  draft = λ apart. moved_draft now.reads now.reads.draft names.draft names.map d.draft apart;
  others = λ n apart_map apart.
      done_other now.reads (draft_publish names.map) n (is_other now names n d.draft apart_map apart) ∙ d.synced.reads n apart;
  still_open = moved_image now.reads now.reads.draft names.map ∙ d.synced.selected;
  none_begun = moved_none now.reads now.reads.draft names.draft names.map d.draft;
}

along_publish : (names : MapNames) (text : List ℕ) (was now : Disk) → HasOwnDraft names → Drafting names text was now
    → now.firm ≡ true → AlongCalls (IsSafe names text was) now (publish_calls names)
along_publish names text was now own d firm =
    let m = was_moved names text was now d firm in
    let p : Disk = entered now (Done (draft_publish names.map)) in (
      synced_safe names text was now d.synced,
      (λ steps. published_safe names text was _
          (reshown names text was _ (entered now (Failed (draft_publish names.map) steps)) (λ n apart. refl)
          (published_in_part names text was now d firm))),
      (
        published_safe names text was p m.published,
        (λ steps. published_safe names text was _
            (reshown names text was p (entered p (Failed (map_settle names.map) steps))
            (λ n apart. looked_other names p n own apart) m.published)),
        published_safe names text was _ (settled names text was p own m.map m.published),
      ),
    )

along_firm : (names : MapNames) (text : List ℕ) (was now : Disk) → HasOwnDraft names → Drafting names text was now
    → AlongCalls (IsSafe names text was) now (draft_sync ∷ publish_calls names)
along_firm names text was now own d = (
  synced_safe names text was now d.synced,
  (λ steps. synced_safe names text was _
      (moves_on names was now (entered now (Failed draft_sync steps)) (λ n apart. refl)
      (λ n apart. refl) refl d.synced)),
  along_publish names text was (entered now (Done draft_sync)) own (firm_kept names text was now d) refl,
)

-- a text so far and the pieces that are left
along_fill : (names : MapNames) (text so_far : List ℕ) (was now : Disk) (ps : List (List ℕ))
    → HasOwnDraft names → so_far ++ concat ps ≡ text → Drafting names so_far was now
    → AlongCalls (IsSafe names text was) now (map draft_append ps ++ draft_sync ∷ publish_calls names)
along_fill names text so_far was now [] own e d =
    along_firm names text was now own (subst (λ (t : List ℕ). Drafting names t was now) (sym (append-nil so_far) ∙ e) d)
along_fill names text so_far was now (p ∷ ps) own e d = (
  synced_safe names text was now d.synced,
  (λ steps. synced_safe names text was _ (appended_in_part names so_far p steps was now d)),
  along_fill names text (so_far ++ p) was (entered now (Done (draft_append p))) ps own
      (append_assoc so_far p (concat ps) ∙ e)
      (appended_more names so_far p was now d),
)

along_save : (names : MapNames) (text : List ℕ) (was : Disk) → HasOwnDraft names → Nested was
    → Leaves was was.reads.files
    → AlongCalls (IsSafe names text was) was (save_calls names text)
along_save names text was own nested reads =
    let s = image_synced names was nested reads in
    let d : Disk = entered was (Done image_sync) in (
      (λ name f apart h. Old h),
      (λ steps name f apart h. Old (some_unsync_shows was was.reads.image name f h)),
      (
        synced_safe names text was d s,
        (λ steps. synced_safe names text was _ (begun_in_part names steps was d s)),
        along_fill names text [] was (entered d (Done (draft_begin names.draft))) (pieces_of text) own
            (in_pieces text).together
            (draft_begun names was d s),
      ),
    )

settled_saved : (names : MapNames) (text : List ℕ) (was now : Disk) → HasOwnDraft names → Drafting names text was now
    → now.firm ≡ true → IsSaved names text was (disk_after now (map Done (publish_calls names)))
settled_saved names text was now own d firm =
    let m = was_moved names text was now d firm in
    let p : Disk = entered now (Done (draft_publish names.map)) in
    record {
      map_sure = settled_shows p names.map (Some (text_file text)) m.map;
      map_reads = m.map;
      image = (settled names text was p own m.map m.published).image;
      no_draft = m.draft;
      others = m.others;
      still_open = m.still_open;
      none_begun = m.none_begun;
      no_wider = λ n f apart_map apart h. (settled names text was p own m.map m.published).shows n f apart_map apart h;
    }

filled_saved : (names : MapNames) (text so_far : List ℕ) (was now : Disk) (ps : List (List ℕ))
    → HasOwnDraft names → so_far ++ concat ps ≡ text → Drafting names so_far was now
    → IsSaved names text was (disk_after now (map Done (map draft_append ps ++ draft_sync ∷ publish_calls names)))
filled_saved names text so_far was now [] own e d =
    settled_saved names text was (entered now (Done draft_sync)) own
    (firm_kept names text was now (subst (λ (t : List ℕ). Drafting names t was now) (sym (append-nil so_far) ∙ e) d)) refl
filled_saved names text so_far was now (p ∷ ps) own e d =
    filled_saved names text (so_far ++ p) was (entered now (Done (draft_append p))) ps own
    (append_assoc so_far p (concat ps) ∙ e)
    (appended_more names so_far p was now d)

all_saved : (names : MapNames) (text : List ℕ) (was : Disk) → HasOwnDraft names → Nested was
    → Leaves was was.reads.files
    → IsSaved names text was (disk_after was (map Done (save_calls names text)))
all_saved names text was own nested reads =
    let d : Disk = entered was (Done image_sync) in
    filled_saved names text [] was (entered d (Done (draft_begin names.draft))) (pieces_of text) own
    (in_pieces text).together
    (draft_begun names was d (image_synced names was nested reads))

-- what reads is one outcome
reads_sound : (start : Folder) (calls : List Entry)
    → Leaves (disk_after (at_rest start) calls) (disk_after (at_rest start) calls).reads.files
reads_sound start calls = reads_run (at_rest start) calls (rest_sound start)

stops_along : (names : MapNames) (text : List ℕ) (start start' : Folder) (old new : List Entry) → HasOwnDraft names
    → start' ≡ start → WentOn (save_calls names text) old new
    → (k : ℕ) (found : List ℕ → Option File) → length old ≤ k → MayBeLeft start' new k found → (name : List ℕ) → name ≢ names.draft
    → IsOldOrNew names text (disk_after (at_rest start) old) (disk_after (at_rest start') (until k new)) name (found name)
stops_along names text start start' old new own same went k found le left name apart =
    let was : Disk = disk_after (at_rest start) old in
    let safe : IsSafe names text was (disk_after (at_rest start) (until k new)) =
    stop_past (IsSafe names text was) start (save_calls names text) old new k le went (along_save names text was own
    (nested_run (at_rest start) old (nested_rest start)) (reads_sound start old))
    in
    subst
    (λ (s : Folder). MayBeLeft s new k found → IsOldOrNew names text was (disk_after (at_rest s) (until k new)) name (found name))
    (sym same)
    (λ here. safe name (found name) apart (here name)) left

-- the calls of a save, whatever its outcome
goes_on : {T : Type 0} (names : MapNames) (text : List ℕ) (result : Result T SaveFault) (old new : SiteState) → IsTrue old.tells
    → Saves (save_calls names text) false result old new → WentOn (save_calls names text) old.calls new.calls
goes_on names text (Ok x) old new tells s = made_goes (save_calls names text) old.calls new.calls (s.made.made tells)
goes_on names text (Err e) old new tells s = broke_goes e.call (save_calls names text) old.calls new.calls (s.broke.broke tells)

pub stops_in_save : {T : Type 0} (names : MapNames) (text : List ℕ) (result : Result T SaveFault) (old new : SiteState) → IsTrue old.tells
    → HasOwnDraft names → Saves (save_calls names text) false result old new → StopsInSave names text old new
stops_in_save names text result old new tells own s =
    λ k found le most left name apart.
    stops_along names text old.start new.start old.calls new.calls own (s.keeps.start tells)
    (goes_on names text result old new tells s) k found le left name apart

is_saved : {T : Type 0} (names : MapNames) (text : List ℕ) (x : T) (old new : SiteState) → IsTrue old.tells
    → HasOwnDraft names → Saves (save_calls names text) false (Ok x) old new
    → IsSaved names text (disk_of old) (disk_of new)
is_saved names text x old new tells own s =
    let same : disk_of new ≡ disk_after (disk_of old) (map Done (save_calls names text)) =
    ap (λ (f : Folder). disk_after (at_rest f) new.calls) (s.keeps.start tells)
    ∙ ap (disk_after (at_rest old.start)) (s.made.made tells)
    ∙ run-append (at_rest old.start) old.calls (map Done (save_calls names text))
    in
    subst (λ (d : Disk). IsSaved names text (disk_of old) d) (sym same)
    (all_saved names text (disk_of old) own (nested_run (at_rest old.start) old.calls (nested_rest old.start))
    (reads_sound old.start old.calls))

pub saved_where_ok : {T : Type 0} (names : MapNames) (text : List ℕ) (result : Result T SaveFault) (old new : SiteState)
    → Saves (save_calls names text) false result old new
    → OnOk result (IsTrue old.tells → HasOwnDraft names → IsSaved names text (disk_of old) (disk_of new))
saved_where_ok names text (Ok x) old new s = λ tells own. is_saved names text x old new tells own s
saved_where_ok names text (Err e) old new s = tt
