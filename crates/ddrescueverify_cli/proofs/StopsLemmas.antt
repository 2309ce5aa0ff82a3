-- What a stop of the work finds, by the calls that it made.
use Rattle.std.proofs.Common.{◌≡◌, ◌≢◌, ◌⊎◌, ℕ, zero, suc, ◌+◌, ◌-◌, ◌<◌, ◌≤◌, Bool, true, false, cond, ◌||◌, IsTrue, List, [], ◌∷◌, ◌++◌, map, length, take, Option, Some, None, refl, sym, ap, ◌∙◌, inl, inr, subst, arith, append_assoc, length-append}
use Rattle.std.specs.Str.{bytes_eq}
use Rattle.std.specs.List.{list_any}
use Rattle.std.proofs.lemmas.Bool.{cases_lt, cond_both}
use Rattle.mapfile_text.specs.Printed.{printed}
use Rattle.faulty_source.specs.SourceState.{SourceState}
use Rattle.crash_site.specs.Files.{File, bytes_of, empty_file}
use Rattle.crash_site.specs.Calls.{Entry, Done as Returned, image_open, image_sync, map_settle}
use Rattle.crash_site.specs.Folder.{Folder, opened}
use Rattle.crash_site.specs.Along.{Along, AlongCalls, GoesAlong}
use Rattle.crash_site.specs.Disk.{Showing, Disk, only, lose_all, in_each, lost_in, synced, with_opened, under_some, after_part, at_rest, entered, disk_after}
use Rattle.crash_site.specs.Left.{MatchesFile, MayShow, Leaves, until, MayBeLeft}
use Rattle.crash_site.specs.SiteState.{SiteState, files_in}
use Rattle.crash_site.proofs.AlongLemmas.{along_until, along_calls}
use Rattle.crash_site.proofs.DiskLemmas.{reads_run, rest_sound, run-append, run_reads, same_name, unsynced_shows}
use Rattle.crash_site.proofs.NestLemmas.{Nested, nested_run, nested_rest, synced_narrows}
use Rattle.crash_site.proofs.LawLemmas.{at_other, found_lasting, found_only, other_name, own_name, until_all, left_past}
use Rattle.mapfile_save.specs.MapNames.{names_of}
use Rattle.mapfile_save.specs.Saving.{save_calls}
use Rattle.mapfile_save.specs.SaveStops.{disk_of, text_file, IsOldOrNew, Old, New, IsSaved, IsEmptyDraft, LeftAt, CouldBefore}
use Rattle.rescue_rules.specs.Start.{Stands as StandsFor}
use Rattle.rescue_rules.specs.Stops.{has_barrier, is_sync}
use Rattle.program_promise.specs.Work.{Deeds, Works}
use Rattle.program_promise.proofs.ReadLemmas.{AreReads, reads_at, reads_keep, reads_until}
use Rattle.program_promise.proofs.SavedLemmas.{HasSaved, stops_by_save, saved_by, save_after}
use Rattle.rescue_verify.specs.Across.{across}
use Rattle.rescue_verify.specs.Looks.{Look, reads_of, seen_in}
use Rattle.rescue_verify.specs.Verified.{judged_by}
use Rattle.ddrescueverify_words.specs.Command.{Command}
use Rattle.mapfile_save.proofs.NameLemmas.{apart_draft}
use Rattle.rescue_rules.proofs.BeforeLemmas.{look_shown}
use Rattle.rescue_rules.proofs.SearchLemmas.{never_both}
use Rattle.ddrescueverify_cli.specs.declared.ending.VerifyEnding.{VerifyEnding}
use Rattle.ddrescueverify_cli.specs.Answers.{is_saved}
use Rattle.ddrescueverify_cli.specs.Asked.{heading_of, shown_by}
use Rattle.ddrescueverify_cli.specs.Stops.{IsVerifiedMap, StopsSafely}
use Rattle.ddrescueverify_cli.specs.Outside.{Agrees, Found, Outside, place_by}
use Rattle.ddrescueverify_cli.specs.Work.{Verifies, verify_faults, verify_rows}
use Rattle.ddrescueverify_cli.proofs.ShapeLemmas.{Early, IsNewText, Reads, Saving, Shape, opening, opening_calls, shape_of}

-- ---- a save after other calls

-- ---- what a stop may show up to the barrier, and after it

-- This could be found under a name on a disk, or it is a draft that was absent there, empty.
abbrev IsFrom : (draft : List ℕ) → Disk → (name : List ℕ) → (found : Option File) → Type 0
IsFrom draft was name found =
    MayShow (was.shows name) found ⊎ ((name ≡ draft) × (was.reads.files name ≡ None) × (found ≡ Some empty_file))

-- all that may be found on a disk could be found on another, or is such a draft
abbrev Narrower : (draft : List ℕ) → Disk → Disk → Type 0
Narrower draft was d =
    (name : List ℕ) (found : Option File) → MayShow (d.shows name) found → IsFrom draft was name found

-- what is shown where nothing is made
same_shown : (b : Bool) (s : Showing) → cond b s s ≡ s
same_shown true s = refl
same_shown false s = refl

module _ (c : Command) (was : Disk) (sound : Leaves was was.reads.files) (nested : Nested was) where
  abbrev draft_name : List ℕ
  draft_name = (names_of c.mapfile).draft

  abbrev at_open : Disk
  at_open = entered was (Returned (image_open c.outfile false))

  abbrev at_settle : Disk
  at_settle = entered at_open (Returned (map_settle c.mapfile))

  abbrev at_sync : Disk
  at_sync = entered at_settle (Returned image_sync)

  -- the open makes no file, so it shows what was shown
  open_same : (name : List ℕ) → at_open.shows name ≡ was.shows name
  open_same name = same_shown (bytes_eq name c.outfile) (was.shows name)

  open_shows : Narrower draft_name was at_open
  open_shows name found h = inl (subst (λ (s : Showing). MayShow s found) (open_same name) h)

  open_files : (file : Option File) → (opened was.reads c.outfile false file).files ≡ was.reads.files
  open_files None = refl
  open_files (Some f) = refl

  files_stand : at_open.reads.files ≡ was.reads.files
  files_stand = open_files (was.reads.files c.outfile)

  -- what reads could be found
  as_it_reads : (name : List ℕ) (found : Option File) → found ≡ at_open.reads.files name → MayShow (was.shows name) found
  as_it_reads name found is =
      let own : found ≡ was.reads.files name =
      is ∙ ap (λ (files : List ℕ → Option File). files name) files_stand in
      subst (λ (f : Option File). MayShow (was.shows name) f) (sym own) (sound name)

  -- while the mapfile is settled, its draft is looked at
  abbrev at_look : Disk
  at_look = after_part (map_settle c.mapfile) at_open

  look_shows : Narrower draft_name was at_look
  look_shows name found h =
      elim (look_shown (bytes_eq name draft_name) (at_open.reads.files name) (at_open.shows name) found h) [
        | inl old ↦ open_shows name found old
        | inr made ↦ inr (
          same_name name draft_name made.0,
          ap (λ (files : List ℕ → Option File). files name) (sym files_stand) ∙ made.1,
          made.2,
        )
      ]

  settle_shows : Narrower draft_name was at_settle
  settle_shows name found =
      let P : Showing → Type 0 = λ s. MayShow s found → IsFrom draft_name was name found in
      cond_both (bytes_eq name c.mapfile) (only (at_open.reads.files name)) (at_look.shows name) P
      (λ on h. inl (as_it_reads name found (found_only (at_open.reads.files name) found h)))
      (λ off h. look_shows name found h)

  -- a sync that fails shows nothing more
  unsynced_narrows : (o : Option (List ℕ)) (name : List ℕ) (found : Option File)
      → MayShow ((under_some o (λ file s. in_each lose_all s) at_settle).shows name) found
      → IsFrom draft_name was name found
  unsynced_narrows None name found h = settle_shows name found h
  unsynced_narrows (Some image) name found h =
      let P : Showing → Type 0 = λ s. MayShow s found → IsFrom draft_name was name found in
      cond_both (bytes_eq name image) (in_each lose_all (at_settle.shows name)) (at_settle.shows name) P
      (λ on g. settle_shows name found (unsynced_shows (at_settle.shows name) found g))
      (λ off g. settle_shows name found g) h

  -- nor one that returns
  sound_settle : Leaves at_settle at_settle.reads.files
  sound_settle =
      reads_run was (Returned (image_open c.outfile false) ∷ Returned (map_settle c.mapfile) ∷ []) sound

  nested_settle : Nested at_settle
  nested_settle =
      nested_run was (Returned (image_open c.outfile false) ∷ Returned (map_settle c.mapfile) ∷ []) nested

  synced_shows : (o : Option (List ℕ)) (name : List ℕ) (found : Option File)
      → MayShow ((under_some o synced at_settle).shows name) found → IsFrom draft_name was name found
  synced_shows None name found h = settle_shows name found h
  synced_shows (Some image) name found h =
      let P : Showing → Type 0 = λ s. MayShow s found → IsFrom draft_name was name found in
      cond_both (bytes_eq name image) (synced (at_settle.reads.files name) (at_settle.shows name))
      (at_settle.shows name) P
      (λ on g. settle_shows name found (synced_narrows (at_settle.reads.files name) (at_settle.shows name) found
      (nested_settle name) (sound_settle name) g))
      (λ off g. settle_shows name found g) h

  sync_shows : Narrower draft_name was at_sync
  sync_shows name found h = synced_shows at_settle.reads.image name found h

  along_opening : AlongCalls (Narrower draft_name was) was (opening_calls c)
  along_opening = (
    (λ name found h. inl h),
    (λ steps. open_shows),
    (
      open_shows,
      (λ steps. look_shows),
      (settle_shows, (λ steps name found. unsynced_narrows at_settle.reads.image name found), sync_shows),
    ),
  )

  module _ (f : File) (there : was.reads.files c.outfile ≡ Some f) (apart : c.outfile ≢ c.mapfile)
      (off : c.outfile ≢ draft_name) where
    image_is : at_settle.reads.image ≡ Some c.outfile
    image_is = ap (λ (o : Option File). (opened was.reads c.outfile false o).image) there

    -- what is shown after the sync under a name
    shown_as : (name : List ℕ) (found : Option File) → MayShow (at_sync.shows name) found
        → MayShow (cond (bytes_eq name c.outfile) (synced (at_settle.reads.files name) (at_settle.shows name))
        (at_settle.shows name)) found
    shown_as name found h =
        subst (λ (o : Option (List ℕ)). MayShow ((under_some o synced at_settle).shows name) found) image_is h

    -- the settle shows of the output what was shown
    output_same : at_settle.shows c.outfile ≡ was.shows c.outfile
    output_same =
        at_other at_look c.mapfile c.outfile (λ file s. only file) apart
        ∙ at_other at_open draft_name c.outfile (with_opened true) off ∙ open_same c.outfile

    output_sure : (found : Option File) → MayShow (at_sync.shows c.outfile) found
        → MatchesFile (was.reads.files c.outfile) (lost_in (was.shows c.outfile)) found
    output_sure found h =
        let own : MayShow (synced (at_open.reads.files c.outfile) (at_settle.shows c.outfile)) found =
        subst (λ (b : Bool). MayShow (cond b (synced (at_settle.reads.files c.outfile) (at_settle.shows c.outfile))
        (at_settle.shows c.outfile)) found) (own_name c.outfile) (shown_as c.outfile found h) in
        subst (λ (o : Option File). MatchesFile o (lost_in (was.shows c.outfile)) found)
        (ap (λ (files : List ℕ → Option File). files c.outfile) files_stand)
        (subst (λ (s : Showing). MatchesFile (at_open.reads.files c.outfile) (lost_in s) found) output_same
        (found_lasting (at_open.reads.files c.outfile) (lost_in (at_settle.shows c.outfile)) found own))

    mapfile_sure : (found : Option File) → MayShow (at_sync.shows c.mapfile) found → found ≡ was.reads.files c.mapfile
    mapfile_sure found h =
        let settled : MayShow (at_settle.shows c.mapfile) found =
        subst (λ (b : Bool). MayShow (cond b (synced (at_settle.reads.files c.mapfile) (at_settle.shows c.mapfile))
        (at_settle.shows c.mapfile)) found) (other_name c.mapfile c.outfile (λ e. apart (sym e)))
        (shown_as c.mapfile found h) in
        found_only (at_open.reads.files c.mapfile) found
        (subst (λ (b : Bool). MayShow (cond b (only (at_open.reads.files c.mapfile)) (at_look.shows c.mapfile)) found)
        (own_name c.mapfile) settled)
        ∙ ap (λ (files : List ℕ → Option File). files c.mapfile) files_stand

-- ---- each stop

-- one of two isn't so where neither is
or_false_by : (a b b' : Bool) → (a || b) ≡ false → (b ≡ false → b' ≡ false) → (a || b') ≡ false
or_false_by true b b' none step = none
or_false_by false b b' none step = step none

no_sync : (calls : List Entry) (k : ℕ) → list_any is_sync calls ≡ false → list_any is_sync (take k calls) ≡ false
no_sync [] zero none = refl
no_sync [] (suc k) none = refl
no_sync (e ∷ calls) zero none = refl
no_sync (e ∷ calls) (suc k) none =
    or_false_by (is_sync e) (list_any is_sync calls) (list_any is_sync (take k calls)) none (no_sync calls k)

-- some file
there_by : (file : Option File) → (file ≡ None → ⊥) → (f : File) × (file ≡ Some f)
there_by None there = absurd (there refl)
there_by (Some f) there = (f, refl)

-- What a stop found: all that could be found before, or the output as it was, except where it was lost before, and the
-- mapfile as it was or new.
data AtStop (c : Command) (IsNew : Option File → Type 0) (site : SiteState) (calls : List Entry) (k : ℕ)
    (files : List ℕ → Option File) : Type 0 where
  Before : has_barrier (take k calls) ≡ false
      → ((name : List ℕ) → CouldBefore site name (files name)
      ⊎ IsEmptyDraft site (names_of c.mapfile).draft name (files name))
      → AtStop c IsNew site calls k files
  After : has_barrier (take k calls) ≡ true
      → MatchesFile (files_in site c.outfile) (lost_in ((disk_of site).shows c.outfile)) (files c.outfile)
      → (files c.mapfile ≡ files_in site c.mapfile) ⊎ IsNew (files c.mapfile)
      → ((name : List ℕ) → name ≢ c.outfile → name ≢ c.mapfile → name ≢ (names_of c.mapfile).draft
      → CouldBefore site name (files name))
      → AtStop c IsNew site calls k files

module _ (c : Command) (site : SiteState) (apart : c.outfile ≢ c.mapfile)
    (draft : c.outfile ≢ (names_of c.mapfile).draft) where
  abbrev before : Disk
  before = disk_of site

  sound : Leaves before before.reads.files
  sound = reads_run (at_rest site.start) site.calls (rest_sound site.start)

  nested : Nested before
  nested = nested_run (at_rest site.start) site.calls (nested_rest site.start)

  own_files : (name : List ℕ) → before.reads.files name ≡ files_in site name
  own_files name = ap (λ (d : Folder). d.files name) (run_reads (at_rest site.start) site.calls)

  -- what could be found on the disk before, by the files that read
  could : (name : List ℕ) (found : Option File) → IsFrom (names_of c.mapfile).draft before name found
      → CouldBefore site name found ⊎ IsEmptyDraft site (names_of c.mapfile).draft name found
  could name found (inl old) = inl old
  could name found (inr made) = inr (made.0, sym (own_files name) ∙ made.1, made.2)

  -- a name that isn't the draft's
  could_else : (name : List ℕ) (found : Option File) → name ≢ (names_of c.mapfile).draft
      → IsFrom (names_of c.mapfile).draft before name found → CouldBefore site name found
  could_else name found other (inl old) = old
  could_else name found other (inr made) = absurd (other made.0)

  output_held : (found : Option File)
      → MatchesFile (before.reads.files c.outfile) (lost_in (before.shows c.outfile)) found
      → MatchesFile (files_in site c.outfile) (lost_in ((disk_of site).shows c.outfile)) found
  output_held found h =
      subst (λ (o : Option File). MatchesFile o (lost_in (before.shows c.outfile)) found) (own_files c.outfile) h

  leaves_at : (calls : List Entry) (k : ℕ) (files : List ℕ → Option File) → LeftAt site calls k files
      → Leaves (disk_after before (until k calls)) files
  leaves_at calls k files left = left_past site.start site.calls calls k (length site.calls + k) files refl left

  module _ (IsNew : Option File → Type 0) where
    -- after the barrier nothing but reads was made
    at_barrier : (f : File) → before.reads.files c.outfile ≡ Some f → (calls : List Entry) (k : ℕ)
        (files : List ℕ → Option File) → has_barrier (take k calls) ≡ true
        → Leaves (at_sync c before sound nested) files → AtStop c IsNew site calls k files
    at_barrier f there calls k files passed left =
        After passed
        (output_held (files c.outfile)
        (output_sure c before sound nested f there apart draft (files c.outfile) (left c.outfile)))
        (inl (mapfile_sure c before sound nested f there apart draft (files c.mapfile) (left c.mapfile)
        ∙ own_files c.mapfile))
        (λ name output map other.
        could_else name (files name) other (sync_shows c before sound nested name (files name) (left name)))

    -- up to the barrier, whatever follows it
    up_to : (more : List Entry) (k : ℕ) (files : List ℕ → Option File) → k < 3
        → Leaves (disk_after before (until k (opening c ++ more))) files → AtStop c IsNew site (opening c ++ more) k files
    up_to more zero files less left =
        Before refl (λ name. could name (files name) (open_shows c before sound nested name (files name) (left name)))
    up_to more (suc zero) files less left =
        Before refl (λ name. could name (files name) (look_shows c before sound nested name (files name) (left name)))
    up_to more (suc (suc zero)) files less left =
        Before refl (λ name. could name (files name)
        (unsynced_narrows c before sound nested (at_settle c before sound nested).reads.image name
        (files name) (left name)))
    up_to more (suc (suc (suc k))) files less left = absurd (omega arith)

    early_stop : (calls : List Entry) (k : ℕ) (files : List ℕ → Option File) → list_any is_sync calls ≡ false
        → GoesAlong (opening_calls c) calls → LeftAt site calls k files → AtStop c IsNew site calls k files
    early_stop calls k files none goes left =
        Before (no_sync calls k none)
        (λ name. could name (files name)
        (along_until (Narrower (names_of c.mapfile).draft before) before calls k
        (along_calls (Narrower (names_of c.mapfile).draft before) before (opening_calls c) calls
        (along_opening c before sound nested) goes) name (files name) (leaves_at calls k files left name)))

    reads_stop : (f : File) → before.reads.files c.outfile ≡ Some f → (reads : List Entry) (k : ℕ)
        (files : List ℕ → Option File) → AreReads reads → LeftAt site (opening c ++ reads) k files
        → AtStop c IsNew site (opening c ++ reads) k files
    reads_stop f there reads zero files are left = up_to reads zero files (omega arith) (leaves_at _ zero files left)
    reads_stop f there reads (suc zero) files are left = up_to reads 1 files (omega arith) (leaves_at _ 1 files left)
    reads_stop f there reads (suc (suc zero)) files are left = up_to reads 2 files (omega arith) (leaves_at _ 2 files left)
    reads_stop f there reads (suc (suc (suc j))) files are left =
        at_barrier f there (opening c ++ reads) (suc (suc (suc j))) files refl
        (subst (λ (d : Disk). Leaves d files) (reads_at (at_sync c before sound nested) reads j are)
        (leaves_at _ (suc (suc (suc j))) files left))

    -- after the barrier
    after_at : (k n : ℕ) → k ≡ 3 + n → (more : List Entry) → has_barrier (take k (opening c ++ more)) ≡ true
    after_at k n is more =
        let at : k ≡ suc (suc (suc n)) = omega arith in
        subst (λ (m : ℕ). has_barrier (take m (opening c ++ more)) ≡ true) (sym at) refl

    -- a stop within the save finds the mapfile as it was, or new
    save_stop : (f : File) → before.reads.files c.outfile ≡ Some f → (reads rest : List Entry) (text : List ℕ)
        → ((found : Option File) → found ≡ Some (text_file text) → IsNew found) → AreReads reads
        → HasSaved (names_of c.mapfile) text [] rest → (k j : ℕ) → k ≡ 3 + (length reads + j)
        → k ≤ length (opening c ++ (reads ++ rest)) → (files : List ℕ → Option File)
        → LeftAt site (opening c ++ (reads ++ rest)) k files → AtStop c IsNew site (opening c ++ (reads ++ rest)) k files
    save_stop f there reads rest text new are saved k j is le files left =
        let old : List Entry = site.calls ++ (opening c ++ reads) in
        let all : site.calls ++ (opening c ++ (reads ++ rest)) ≡ old ++ rest =
        sym (append_assoc site.calls (opening c ++ reads) rest) in
        let disk : disk_after (at_rest site.start) old ≡ at_sync c before sound nested =
        run-append (at_rest site.start) site.calls (opening c ++ reads)
        ∙ reads_keep (at_sync c before sound nested) reads are in
        let olds : length old ≡ length site.calls + length (opening c ++ reads) =
        length-append site.calls (opening c ++ reads) in
        let news : length (old ++ rest) ≡ length old + length rest = length-append old rest in
        let rests : length (reads ++ rest) ≡ length reads + length rest = length-append reads rest in
        let found : (name : List ℕ) → name ≢ (names_of c.mapfile).draft
        → IsOldOrNew (names_of c.mapfile) text (disk_after (at_rest site.start) old)
        (disk_after (at_rest site.start) (until (length site.calls + k) (old ++ rest))) name (files name) =
        λ name other. stops_by_save (names_of c.mapfile) text site.start old (old ++ rest) refl
        (save_after (names_of c.mapfile) text old rest saved) (length site.calls + k) files
        (omega (arith, olds, is)) (omega (arith, olds, news, rests, is, le))
        (subst (λ (es : List Entry). MayBeLeft site.start es (length site.calls + k) files) all left) name other in
        let here : (name : List ℕ) (file : Option File) → MayShow ((disk_after (at_rest site.start) old).shows name) file
        → MayShow ((at_sync c before sound nested).shows name) file =
        λ name file h. subst (λ (d : Disk). MayShow (d.shows name) file) disk h in
        After (after_at k (length reads + j) is (reads ++ rest))
        (elim (found c.outfile draft) [
          | Old h ↦
              output_held (files c.outfile)
              (output_sure c before sound nested f there apart draft (files c.outfile)
              (here c.outfile (files c.outfile) h))
          | New same is_text durable ↦ absurd (apart same)
        ])
        (elim (found c.mapfile (apart_draft c.mapfile)) [
          | Old h ↦
              inl (mapfile_sure c before sound nested f there apart draft (files c.mapfile)
              (here c.mapfile (files c.mapfile) h) ∙ own_files c.mapfile)
          | New same is_text durable ↦ inr (new (files c.mapfile) is_text)
        ])
        (λ name output map other. elim (found name other) [
          | Old h ↦
              could_else name (files name) other
              (sync_shows c before sound nested name (files name) (here name (files name) h))
          | New same is_text durable ↦ absurd (map same)
        ])

    saving_stop : (f : File) → before.reads.files c.outfile ≡ Some f → (reads rest : List Entry) (text : List ℕ)
        → ((found : Option File) → found ≡ Some (text_file text) → IsNew found) → AreReads reads
        → HasSaved (names_of c.mapfile) text [] rest → (k : ℕ) → k ≤ length (opening c ++ (reads ++ rest))
        → (files : List ℕ → Option File) → LeftAt site (opening c ++ (reads ++ rest)) k files
        → AtStop c IsNew site (opening c ++ (reads ++ rest)) k files
    saving_stop f there reads rest text new are saved zero le files left =
        up_to (reads ++ rest) zero files (omega arith) (leaves_at _ zero files left)
    saving_stop f there reads rest text new are saved (suc zero) le files left =
        up_to (reads ++ rest) 1 files (omega arith) (leaves_at _ 1 files left)
    saving_stop f there reads rest text new are saved (suc (suc zero)) le files left =
        up_to (reads ++ rest) 2 files (omega arith) (leaves_at _ 2 files left)
    saving_stop f there reads rest text new are saved (suc (suc (suc j))) le files left =
        elim (cases_lt j (length reads)) [
          | inl within ↦
              at_barrier f there (opening c ++ (reads ++ rest)) (suc (suc (suc j))) files refl
              (subst (λ (d : Disk). Leaves d files) (reads_until (at_sync c before sound nested) reads
              rest j are within)
              (leaves_at _ (suc (suc (suc j))) files left))
          | inr past ↦
              save_stop f there reads rest text new are saved (suc (suc (suc j))) (j - length reads) (omega (arith, past))
              le files left
        ]

    at_stop : (saved : Bool) (IsText : List ℕ → Type 0) (calls : List Entry)
        → ((text : List ℕ) (found : Option File) → IsText text → found ≡ Some (text_file text) → IsNew found)
        → Shape c (files_in site c.outfile ≡ None → ⊥) saved IsText calls → (k : ℕ) → k ≤ length calls
        → (files : List ℕ → Option File) → LeftAt site calls k files → AtStop c IsNew site calls k files
    at_stop saved IsText calls new (Early short none goes) k le files left = early_stop calls k files none goes left
    at_stop saved IsText calls new (Reads reads there short are is) k le files left =
        let f = there_by (files_in site c.outfile) there in
        rw is (reads_stop f.0 (own_files c.outfile ∙ f.1) reads k files are (rw is at left))
    at_stop saved IsText calls new (Saving reads rest text there are is_text has whole is) k le files left =
        let f = there_by (files_in site c.outfile) there in
        rw is (saving_stop f.0 (own_files c.outfile ∙ f.1) reads rest text (λ found. new text found is_text) are has k
        (rw is at le) files (rw is at left))

    -- and once all is saved, the new one
    kept_at_end : (IsText : List ℕ → Type 0) (saved : Bool) (calls : List Entry)
        → ((text : List ℕ) (found : Option File) → IsText text → found ≡ Some (text_file text) → IsNew found)
        → Shape c (files_in site c.outfile ≡ None → ⊥) saved IsText calls → saved ≡ true
        → (files : List ℕ → Option File) → LeftAt site calls (length calls) files → IsNew (files c.mapfile)
    kept_at_end IsText saved calls new (Early short none goes) whole_saved files left =
        let no : true ≡ false = sym whole_saved ∙ short in absurd (cc)
    kept_at_end IsText saved calls new (Reads reads there short are is) whole_saved files left =
        let no : true ≡ false = sym whole_saved ∙ short in absurd (cc)
    kept_at_end IsText saved calls new (Saving reads rest text there are is_text has whole is) whole_saved files left =
        let old : List Entry = site.calls ++ (opening c ++ reads) in
        let all : site.calls ++ calls ≡ old ++ map Returned (save_calls (names_of c.mapfile) text) =
        ap (λ (r : List Entry). site.calls ++ r) is ∙ sym (append_assoc site.calls (opening c ++ reads) rest)
        ∙ ap (λ (r : List Entry). old ++ r) (whole whole_saved) in
        let sure : IsSaved (names_of c.mapfile) text (disk_after (at_rest site.start) old)
        (disk_after (at_rest site.start) (site.calls ++ calls)) =
        saved_by (names_of c.mapfile) text site.start old (site.calls ++ calls) refl all in
        let same : disk_after before (until (length calls) calls) ≡ disk_after (at_rest site.start) (site.calls ++ calls) =
        ap (disk_after before) (until_all calls) ∙ sym (run-append (at_rest site.start) site.calls calls) in
        let shown : MayShow (only (Some (text_file text))) (files c.mapfile) =
        subst (λ (s : Showing). MayShow s (files c.mapfile)) sure.map_sure
        (subst (λ (d : Disk). MayShow (d.shows c.mapfile) (files c.mapfile)) same
        (leaves_at calls (length calls) files left c.mapfile)) in
        new text (files c.mapfile) is_text (found_only (Some (text_file text)) (files c.mapfile) shown)

-- ---- all of it

-- a call that made none leaves at any stop what could be found before
pub nothing_stops : (c : Command) (line : List ℕ) (o : Outside) (did : Deeds) (site : SiteState) (e : VerifyEnding)
    → did.gain.calls ≡ [] → is_saved e ≡ false → StopsSafely c line o did site e
nothing_stops c line o did site e none short =
    let could : (k : ℕ) (files : List ℕ → Option File) (name : List ℕ) → LeftAt site did.gain.calls k files
    → CouldBefore site name (files name) =
    let P : Disk → Type 0 =
    λ d. (n : List ℕ) (found : Option File) → MayShow (d.shows n) found → MayShow ((disk_of site).shows n) found in
    λ k files name left. along_until P (disk_of site) did.gain.calls k
    (subst (Along P (disk_of site)) (sym none) (λ n found h. h)) name (files name)
    (left_past site.start site.calls did.gain.calls k (length site.calls + k) files refl left name) in
    let early : (k : ℕ) → has_barrier (take k did.gain.calls) ≡ false =
    λ k. no_sync did.gain.calls k (ap (list_any is_sync) none) in
    record {
      before = λ k files name le left before. inl (could k files name left);
      output = λ k files le left late. absurd (never_both _ late (early k));
      mapfile = λ k files le left late. absurd (never_both _ late (early k));
      kept = λ files saved left. absurd (never_both _ saved short);
      others = λ k files name le left output map other. could k files name left;
    }

module _ (c : Command) (o : Outside) (did : Deeds) (e : VerifyEnding) (source source' : SourceState)
    (site site' : SiteState) (agrees : Agrees c o did (across source source' site site')) (tells : IsTrue site.tells)
    (works : Works verify_faults (verify_rows c o.found o.end) (Verifies c o.line o.found o.end o.looks) e did) where
  -- the shape of the calls of a whole call
  pub own_shape : Shape c (files_in site c.outfile ≡ None → ⊥) (is_saved e)
      (IsNewText c o.line o.found.mapfile o.end o.looks) did.gain.calls
  own_shape =
      subst (λ (f : Option File). Shape c (f ≡ None → ⊥) (is_saved e)
      (IsNewText c o.line o.found.mapfile o.end o.looks) did.gain.calls)
      (ap (λ (x : Found). x.output) (agrees.found tells)) (shape_of c o.line o.found o.end o.looks e did works)

  abbrev IsNewMap : Option File → Type 0
  IsNewMap = IsVerifiedMap c o.line o site

  -- a text is that of the verified map
  new_is : (text : List ℕ) (found : Option File) → IsNewText c o.line o.found.mapfile o.end o.looks text
      → found ≡ Some (text_file text) → IsNewMap found
  new_is text found n is =
      let looks : o.looks ≡ map (seen_in (bytes_of (files_in site c.outfile)) (place_by c)) (reads_of o.looks) =
      agrees.seen tells in
      record {
        statuses = n.statuses;
        shown = n.shown;
        stands = subst (λ (f : Option File). StandsFor f o.end n.statuses (Some n.shown))
            (ap (λ (x : Found). x.mapfile) (agrees.found tells)) n.stands;
        all = n.all;
        is = is ∙ ap (λ (x : List ℕ). Some (text_file x))
            (n.is ∙ ap (λ (ls : List Look). printed (heading_of o.line) (shown_by n.shown o.looks)
            (judged_by n.statuses ls)) looks);
      }

  module _ (apart : c.outfile ≢ c.mapfile) (draft : c.outfile ≢ (names_of c.mapfile).draft) where
    stop_at : (k : ℕ) → k ≤ length did.gain.calls → (files : List ℕ → Option File)
        → LeftAt site did.gain.calls k files → AtStop c IsNewMap site did.gain.calls k files
    stop_at k le files left =
        at_stop c site apart draft IsNewMap (is_saved e) (IsNewText c o.line o.found.mapfile o.end o.looks)
        did.gain.calls new_is own_shape k le files left

    pub stops_safely : StopsSafely c o.line o did site e
    stops_safely = record {
      before = λ k files name le left early. elim (stop_at k le files left) [
        | Before none found ↦ found name
        | After passed output map others ↦ absurd (never_both _ passed early)
      ];
      output = λ k files le left late. elim (stop_at k le files left) [
        | Before none found ↦ absurd (never_both _ late none)
        | After passed output map others ↦ output
      ];
      mapfile = λ k files le left late. elim (stop_at k le files left) [
        | Before none found ↦ absurd (never_both _ late none)
        | After passed output map others ↦ map
      ];
      kept = λ files saved left.
          kept_at_end c site apart draft IsNewMap (IsNewText c o.line o.found.mapfile o.end o.looks) (is_saved e)
          did.gain.calls new_is own_shape saved files left;
      others = λ k files name le left output map other. elim (stop_at k le files left) [
        | Before none found ↦ elim (found name) [ inl old ↦ old | inr made ↦ absurd (other made.0) ]
        | After passed out map' others ↦ others name output map other
      ];
    }
