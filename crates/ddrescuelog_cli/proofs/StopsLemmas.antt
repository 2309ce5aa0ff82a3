-- What a stop of the work finds, by the calls that it made.
use Rattle.std.proofs.Common.{◌≡◌, ◌≢◌, ◌⊎◌, ℕ, ◌+◌, ◌-◌, ◌≤◌, Bool, true, false, cond, List, [], ◌++◌, map, length, Option, Some, None, Ok, refl, sym, ap, ◌∙◌, inl, inr, subst, arith, append_assoc, append-nil, length-append}
use Rattle.std.specs.Str.{bytes_eq}
use Rattle.std.proofs.lemmas.Bool.{cases_lt, cond_both}
use Rattle.std.proofs.lemmas.Slice.Eq.{bytes_eq-Decides}
use Rattle.block_list.specs.declared.status.Status.{Status}
use Rattle.crash_site.specs.Files.{File, empty_file, draft_of}
use Rattle.crash_site.specs.Calls.{Call, Entry, Done as Returned, map_remove, map_settle}
use Rattle.crash_site.specs.Folder.{Folder}
use Rattle.crash_site.specs.Disk.{Showing, Disk, only, or_this, after_part, at_rest, entered, disk_after}
use Rattle.crash_site.specs.Left.{MayShow, Leaves, until, MayBeLeft}
use Rattle.crash_site.specs.Along.{AlongCalls}
use Rattle.crash_site.specs.SiteState.{SiteState}
use Rattle.crash_site.proofs.DiskLemmas.{run-append, run_reads}
use Rattle.crash_site.proofs.LawLemmas.{found_only, own_name, put_other, until_past, until_all, left_past}
use Rattle.crash_site.proofs.AlongLemmas.{WentOn, along_until, along_calls, made_goes, broke_goes}
use Rattle.mapfile_save.specs.MapNames.{names_of}
use Rattle.mapfile_save.specs.Saving.{save_calls}
use Rattle.mapfile_save.specs.SaveStops.{disk_of, text_file, Old, New, IsSaved, IsEmptyDraft, LeftAt, CouldBefore}
use Rattle.rescue_rules.proofs.BeforeLemmas.{or_found, look_shown}
use Rattle.program_promise.specs.Work.{IsIdle}
use Rattle.ddrescuelog_words.specs.declared.mode.LogMode.{LogMode}
use Rattle.ddrescuelog_words.specs.declared.mode.LogMode.TheVariants.{Create, Test, Compare}
use Rattle.ddrescuelog_words.specs.Modes.{creates}
use Rattle.ddrescuelog_words.specs.Command.{Command}
use Rattle.map_algebra.specs.Compare.{IsDoneIn}
use Rattle.map_algebra.specs.Numbers.{numbers_in}
use Rattle.mapfile_save.proofs.NameLemmas.{apart_draft}
use Rattle.program_promise.proofs.ReadLemmas.{AreReads, reads_keep, reads_until, same_reads}
use Rattle.program_promise.proofs.SavedLemmas.{HasSaved, stops_by_save, saved_by, save_after}
use Rattle.ddrescuelog_cli.specs.declared.ending.LogEnding.{LogEnding}
use Rattle.ddrescuelog_cli.specs.declared.ending.LogEnding.TheVariants.{Done, NotDone, ListTooLong}
use Rattle.program_promise.specs.Parts.{only_calls}
use Rattle.ddrescuelog_cli.specs.Modes.{EndsPrinted, EndsSaved, EndsCreated, EndsAs, removal_calls, Replaces}
use Rattle.ddrescuelog_cli.specs.Maps.{Found, Maps, domain_of, shape_of}
use Rattle.ddrescuelog_cli.specs.Refusals.{ListRefused}
use Rattle.ddrescuelog_cli.specs.Results.{IsCreated}
use Rattle.ddrescuelog_cli.specs.Answers.{row_of}
use Rattle.ddrescuelog_cli.specs.Work.{LogWorks}
use Rattle.ddrescuelog_cli.specs.Stops.{IsChanging, StopsSafely, OnlyReads, LeavesFiles}
use Rattle.ddrescuelog_cli.proofs.FoundLemmas.{done_of}
use Rattle.ddrescuelog_cli.proofs.StandLemmas.{leave_all}
use Rattle.ddrescuelog_cli.proofs.AfterReadsLemmas.{AfterReads, IsShort, after_works}

-- ---- calls after reads

-- A stop after the reads finds what it would find without them.
pub left_after : (site : SiteState) (front rest calls : List Entry) → calls ≡ front ++ rest → AreReads front
    → (k : ℕ) (files : List ℕ → Option File) → LeftAt site calls k files
    → Leaves (disk_of site) files
    ⊎ ((j : ℕ) × (k ≡ length front + j) × Leaves (disk_after (disk_of site) (until j rest)) files)
left_after site front rest calls grew reads k files left =
    let here : Leaves (disk_after (disk_of site) (until k (front ++ rest))) files =
    subst (λ (es : List Entry). Leaves (disk_after (disk_of site) (until k es)) files) grew
    (left_past site.start site.calls calls k (length site.calls + k) files refl left) in
    let at : Disk → Type 0 = λ d. Leaves d files in
    elim (cases_lt k (length front)) [
      | inl within ↦ inl (subst at (reads_until (disk_of site) front rest k reads within) here)
      | inr past ↦
          let j : ℕ = k - length front in
          let is : k ≡ length front + j = omega (arith, past) in
          inr (
            j,
            is,
            subst at
                (ap (disk_after (disk_of site)) (until_past front rest j k is)
                ∙ run-append (disk_of site) front (until j rest)
                ∙ ap (λ (d : Disk). disk_after d (until j rest)) (reads_keep (disk_of site) front reads))
                here,
          )
    ]

-- ---- what a mode leaves

-- each file that a stop finds could be found before, or is what the mode leaves in the mapfile's place; and a mode that
-- settles the mapfile may leave an empty draft
abbrev pub EachFound : LogMode → Command → (line list : List ℕ) → Maps → SiteState → List Entry → Type 0
EachFound mode c line list m site calls =
    (k : ℕ) (files : List ℕ → Option File) → k ≤ length calls → LeftAt site calls k files
    → (name : List ℕ) → (creates mode ≡ true → name ≢ (names_of c.mapfile).draft)
    → CouldBefore site name (files name)
    ⊎ (((name ≡ c.mapfile) × Replaces mode c line list m (files c.mapfile))
    ⊎ (IsChanging mode × IsEmptyDraft site (names_of c.mapfile).draft name (files name)))

-- and after an answer that it is done, only that
abbrev pub KeptBy : LogMode → Command → (line list : List ℕ) → Maps → SiteState → List Entry → LogEnding → Type 0
KeptBy mode c line list m site calls answer =
    (files : List ℕ → Option File) → answer ≡ Done → IsChanging mode → LeftAt site calls (length calls) files
    → Replaces mode c line list m (files c.mapfile)

pub record Leaving (mode : LogMode) (c : Command) (line list : List ℕ) (m : Maps) (site : SiteState)
    (calls : List Entry) (answer : LogEnding) : Type 0 where
  pub each : EachFound mode c line list m site calls
  pub kept : KeptBy mode c line list m site calls answer

-- where nothing but reads was called, and the answer isn't that it is done
leaves_all : (mode : LogMode) (c : Command) (line list : List ℕ) (m : Maps) (site : SiteState) (calls : List Entry)
    (e : LogEnding) → AreReads calls → (e ≡ Done → IsChanging mode → ⊥) → Leaving mode c line list m site calls e
leaves_all mode c line list m site calls e reads short = record {
  each = λ k files le left name apart.
      inl (leave_all site calls reads k files (record { within = le; left = left }) name);
  kept = λ files done changing left. absurd (short done changing);
}

-- ---- a mapfile that is removed

-- what may be found while it is removed
abbrev IsRemoved : List ℕ → (was : Disk) → (n : List ℕ) → (found : Option File) → Type 0
IsRemoved name was n found = MayShow (was.shows n) found ⊎ (((n ≡ name) × (found ≡ None))
    ⊎ ((n ≡ draft_of name) × (was.reads.files n ≡ None) × (found ≡ Some empty_file)))

abbrev FoundRemoved : List ℕ → (was : Disk) → Disk → Type 0
FoundRemoved name was d =
    (n : List ℕ) (found : Option File) → MayShow (d.shows n) found → IsRemoved name was n found

-- what a disk shows under a name, by whether that is the mapfile's
removed_shows : (name : List ℕ) (was : Disk) (d : Disk) (changed : Showing) (n : List ℕ) (found : Option File)
    → (bytes_eq n name ≡ true → MayShow changed found → MayShow (was.shows n) found ⊎ (found ≡ None))
    → MayShow (cond (bytes_eq n name) changed (was.shows n)) found → IsRemoved name was n found
removed_shows name was d changed n found own =
    let P : Showing → Type 0 = λ s. MayShow s found → IsRemoved name was n found in
    cond_both (bytes_eq n name) changed (was.shows n) P
    (λ on h. elim (own on h) [ inl old ↦ inl old | inr none ↦ inr (inl ((bytes_eq-Decides n name).0 on, none)) ])
    (λ off h. inl h)

module _ (name : List ℕ) (was : Disk) where
  abbrev gone : Disk
  gone = entered was (Returned (map_remove name))

  -- while the name is settled, its draft is looked at
  abbrev at_look : Disk
  at_look = after_part (map_settle name) gone

  gone_shows : FoundRemoved name was gone
  gone_shows n found =
      removed_shows name was gone (or_this None (was.shows n)) n found (λ on h. or_found None (was.shows n) found h)

  look_shows : FoundRemoved name was at_look
  look_shows n found h =
      elim (look_shown (bytes_eq n (draft_of name)) (gone.reads.files n) (gone.shows n) found h) [
        | inl old ↦ gone_shows n found old
        | inr made ↦
            let is : n ≡ draft_of name = (bytes_eq-Decides n (draft_of name)).0 made.0 in
            let apart : n ≢ name = λ e. apart_draft name (sym e ∙ is) in
            inr (inr (is, sym (put_other was.reads.files name n None apart) ∙ made.1, made.2))
      ]

  settled_shows : FoundRemoved name was (entered gone (Returned (map_settle name)))
  settled_shows n found =
      let P : Showing → Type 0 = λ s. MayShow s found → IsRemoved name was n found in
      cond_both (bytes_eq n name) (only (gone.reads.files n)) (at_look.shows n) P
      (λ on g. inr (inl (
        (bytes_eq-Decides n name).0 on,
        found_only (gone.reads.files n) found g ∙ ap (λ (b : Bool). cond b None (was.reads.files n)) on,
      )))
      (λ off g. look_shows n found g)

  along_removal : AlongCalls (FoundRemoved name was) was (removal_calls name)
  along_removal = (
    (λ n found h. inl h),
    (λ steps. gone_shows),
    (gone_shows, (λ steps. look_shows), settled_shows),
  )

-- what holds along calls that were made holds at each stop of them
found_along : (P : Disk → Type 0) (d : Disk) (calls : List Call) (rest : List Entry) (j : ℕ) → WentOn calls [] rest
    → AlongCalls P d calls → P (disk_after d (until j rest))
found_along P d calls rest j w h =
    subst (λ (es : List Entry). P (disk_after d (until j es))) (sym w.is)
    (along_until P d w.since j (along_calls P d calls w.since h w.goes))

-- what may be found once all calls returned
left_whole : (site : SiteState) (calls : List Entry) (files : List ℕ → Option File)
    → LeftAt site calls (length calls) files → Leaves (disk_after (disk_of site) calls) files
left_whole site calls files left =
    subst (λ (es : List Entry). Leaves (disk_after (disk_of site) es) files) (until_all calls)
    (left_past site.start site.calls calls (length calls) (length site.calls + length calls) files refl left)

-- after its reads
disk_past_reads : (d : Disk) (front rest calls : List Entry) → calls ≡ front ++ rest → AreReads front
    → disk_after d calls ≡ disk_after d rest
disk_past_reads d front rest calls grew reads =
    ap (disk_after d) grew ∙ run-append d front rest ∙ ap (λ (x : Disk). disk_after x rest) (reads_keep d front reads)

-- a mapfile that was removed isn't found
removed_sure : (name : List ℕ) (d : Disk) (found : Option File)
    → MayShow ((disk_after d (map Returned (removal_calls name))).shows name) found → found ≡ None
removed_sure name d found h =
    let removed : Disk = entered d (Returned (map_remove name)) in
    let own : bytes_eq name name ≡ true = own_name name in
    found_only (removed.reads.files name) found
    (subst (λ (b : Bool). MayShow (cond b (only (removed.reads.files name))
    ((after_part (map_settle name) removed).shows name)) found) own h)
    ∙ ap (λ (b : Bool). cond b None (d.reads.files name)) own

module _ (c : Command) (line list : List ℕ) (m : Maps) (site : SiteState) (front rest calls : List Entry)
    (grew : calls ≡ front ++ rest) (reads : AreReads front) where
  removal_each : IsDoneIn (domain_of c m) m.statuses → WentOn (removal_calls c.mapfile) [] rest
      → EachFound (Test true) c line list m site calls
  removal_each done went k files le left name apart =
      elim (left_after site front rest calls grew reads k files left) [
        | inl l ↦ inl (l name)
        | inr (j, is, l) ↦
            elim (found_along (FoundRemoved c.mapfile (disk_of site)) (disk_of site) (removal_calls c.mapfile) rest j
            went (along_removal c.mapfile (disk_of site)) name (files name) (l name)) [
              | inl old ↦ inl old
              | inr (inl (same, none)) ↦ inr (inl (same, (done, ap files (sym same) ∙ none)))
              | inr (inr made) ↦
                  inr (inr (
                    tt,
                    (
                      made.0,
                      sym (ap (λ (d : Folder). d.files name) (run_reads (at_rest site.start) site.calls))
                          ∙ made.1,
                      made.2,
                    ),
                  ))
            ]
      ]

  removal_kept : (e : LogEnding) → IsDoneIn (domain_of c m) m.statuses
      → (e ≡ Done → rest ≡ map Returned (removal_calls c.mapfile)) → KeptBy (Test true) c line list m site calls e
  removal_kept e done all files is changing left =
      let here : Leaves (disk_after (disk_of site) rest) files =
      subst (λ (d : Disk). Leaves d files) (disk_past_reads (disk_of site) front rest calls grew reads)
      (left_whole site calls files left) in (
        done,
        removed_sure c.mapfile (disk_of site) (files c.mapfile)
            (subst (λ (es : List Entry). MayShow ((disk_after (disk_of site) es).shows c.mapfile) (files c.mapfile))
            (all is)
            (here c.mapfile)),
      )

-- only reads were called if nothing comes after them
reads_alone : (front rest calls : List Entry) → calls ≡ front ++ rest → AreReads front → rest ≡ [] → AreReads calls
reads_alone front rest calls grew reads none =
    same_reads calls front (grew ∙ ap (λ (r : List Entry). front ++ r) none ∙ append-nil front) reads

-- ---- a map that is saved

module _ (listed other : Status) (c : Command) (line list : List ℕ) (m : Maps) (site : SiteState)
    (front rest calls : List Entry) (grew : calls ≡ front ++ rest) (reads : AreReads front) where
  -- all calls are those before the save, and its own
  all_calls : site.calls ++ calls ≡ (site.calls ++ front) ++ rest
  all_calls = ap (λ (r : List Entry). site.calls ++ r) grew ∙ sym (append_assoc site.calls front rest)

  before_save : disk_after (at_rest site.start) (site.calls ++ front) ≡ disk_of site
  before_save = run-append (at_rest site.start) site.calls front ∙ reads_keep (disk_of site) front reads

  -- what is left at a stop within the save
  save_found : (text : List ℕ) → HasSaved (names_of c.mapfile) text [] rest → (k j : ℕ) → k ≡ length front + j
      → k ≤ length calls → (files : List ℕ → Option File) → LeftAt site calls k files → (name : List ℕ)
      → name ≢ (names_of c.mapfile).draft
      → CouldBefore site name (files name) ⊎ ((name ≡ c.mapfile) × (files c.mapfile ≡ Some (text_file text)))
  save_found text saved k j is le files left name apart =
      let at : ℕ = length site.calls + k in
      let fronts : length (site.calls ++ front) ≡ length site.calls + length front = length-append site.calls front in
      let alls : length (site.calls ++ calls) ≡ length site.calls + length calls = length-append site.calls calls in
      let ends : length (site.calls ++ calls) ≡ length ((site.calls ++ front) ++ rest) = ap length all_calls in
      let here : MayBeLeft site.start ((site.calls ++ front) ++ rest) at files =
      subst (λ (es : List Entry). MayBeLeft site.start es at files) all_calls left in
      elim (stops_by_save (names_of c.mapfile) text site.start (site.calls ++ front)
      ((site.calls ++ front) ++ rest) refl
      (save_after (names_of c.mapfile) text (site.calls ++ front) rest saved) at files (omega (arith, fronts, is))
      (omega (arith, alls, ends, le)) here name apart) [
        | Old old ↦ inl (subst (λ (d : Disk). MayShow (d.shows name) (files name)) before_save old)
        | New same is_text durable ↦ inr (same, ap files (sym same) ∙ is_text)
      ]

  created_each : (numbers text : List ℕ) → numbers_in (shape_of c.options) list ≡ Ok numbers
      → IsCreated c listed other line m numbers text → HasSaved (names_of c.mapfile) text [] rest
      → EachFound (Create listed other) c line list m site calls
  created_each numbers text are is saved k files le left name apart =
      elim (left_after site front rest calls grew reads k files left) [
        | inl l ↦ inl (l name)
        | inr (j, at, l) ↦
            elim (save_found text saved k j at le files left name (apart refl)) [
              | inl old ↦ inl old
              | inr (same, there) ↦ inr (inl (same, (numbers, text, are, is, there)))
            ]
      ]

  created_kept : (e : LogEnding) (numbers text : List ℕ) → numbers_in (shape_of c.options) list ≡ Ok numbers
      → IsCreated c listed other line m numbers text
      → (e ≡ Done → rest ≡ map Returned (save_calls (names_of c.mapfile) text))
      → KeptBy (Create listed other) c line list m site calls e
  created_kept e numbers text are is all files done changing left =
      let made : (site.calls ++ front) ++ rest
      ≡ (site.calls ++ front) ++ map Returned (save_calls (names_of c.mapfile) text) =
      ap (λ (r : List Entry). (site.calls ++ front) ++ r) (all done) in
      let sure : IsSaved (names_of c.mapfile) text (disk_after (at_rest site.start) (site.calls ++ front))
      (disk_after (at_rest site.start) ((site.calls ++ front) ++ rest)) =
      saved_by (names_of c.mapfile) text site.start (site.calls ++ front) ((site.calls ++ front) ++ rest) refl made in
      let same : disk_after (disk_of site) calls ≡ disk_after (at_rest site.start) ((site.calls ++ front) ++ rest) =
      sym (run-append (at_rest site.start) site.calls calls) ∙ ap (disk_after (at_rest site.start)) all_calls in
      let shown : MayShow (only (Some (text_file text))) (files c.mapfile) =
      subst (λ (s : Showing). MayShow s (files c.mapfile)) sure.map_sure
      (subst (λ (d : Disk). MayShow (d.shows c.mapfile) (files c.mapfile)) same
      (left_whole site calls files left c.mapfile)) in
      (numbers, text, are, is, found_only (Some (text_file text)) (files c.mapfile) shown)

-- ---- by the mode

printed_calls : (e : LogEnding) (rest : List Entry) → EndsPrinted e (only_calls rest) → rest ≡ []
printed_calls e rest (inl w) = w.1.gain.calls
printed_calls e rest (inr w) = w.1.gain.calls

-- a mode that only reads calls nothing after its maps
pub reads_run : (mode : LogMode) (c : Command) (line list : List ℕ) (m : Maps) (e : LogEnding) (rest : List Entry)
    → OnlyReads mode → EndsAs mode c line list m e (only_calls rest) → rest ≡ []
reads_run (Create listed other) c line list m e rest only w = absurd (only tt)
reads_run (Test true) c line list m e rest only w = absurd (only tt)
reads_run (Test false) c line list m e rest only w = w.1.gain.calls
reads_run (Compare finished) c line list m e rest only w = w.1.gain.calls
reads_run _ c line list m e rest only w = printed_calls e rest w

-- nor does any mode after an answer that leaves the files
reads_early : (mode : LogMode) (c : Command) (line list : List ℕ) (m : Maps) (e : LogEnding) (rest : List Entry)
    → LeavesFiles e → EndsAs mode c line list m e (only_calls rest) → rest ≡ []
reads_early (Create listed other) c line list m e rest leaves (inl (is, idle)) = idle.gain.calls
reads_early (Create listed other) c line list m e rest leaves (inr (inl (refused, idle))) = idle.gain.calls
reads_early (Create listed other) c line list m e rest leaves
    (inr (inr (passed, (numbers, text, are, is, inl (call, at, broke, alone))))) =
    absurd (leaves.kept (ap (λ (x : LogEnding). (row_of x).kind) at))
reads_early (Create listed other) c line list m e rest leaves
    (inr (inr (passed, (numbers, text, are, is, inr (more, made, ends))))) = absurd (leaves.short ends.0)
reads_early (Test true) c line list m e rest leaves (inl (refused, idle)) = idle.gain.calls
reads_early (Test true) c line list m e rest leaves (inr (passed, inl (call, at, broke, alone))) =
    absurd (leaves.kept (ap (λ (x : LogEnding). (row_of x).kind) at))
reads_early (Test true) c line list m e rest leaves (inr (passed, inr (more, made, ends))) =
    absurd (leaves.short ends.0)
reads_early o c line list m e rest leaves w =
    reads_run o c line list m e rest (λ x. x) w

-- nothing was called after these
pub none_more : (made rest more : List Entry) → rest ≡ made ++ more → IsIdle (only_calls more) → rest ≡ made
none_more made rest more grew idle = grew ∙ ap (λ (r : List Entry). made ++ r) idle.gain.calls ∙ append-nil made

module _ (c : Command) (line list : List ℕ) (m : Maps) (site : SiteState) (e : LogEnding)
    (front rest calls : List Entry) (grew : calls ≡ front ++ rest) (reads : AreReads front) where
  -- nothing was called after the reads
  nothing_leaves : (mode : LogMode) → rest ≡ [] → (e ≡ Done → IsChanging mode → ⊥)
      → Leaving mode c line list m site calls e
  nothing_leaves mode none short =
      leaves_all mode c line list m site calls e (reads_alone front rest calls grew reads none) short

  removed_leaves : EndsAs (Test true) c line list m e (only_calls rest)
      → Leaving (Test true) c line list m site calls e
  removed_leaves (inl (refused, idle)) =
      nothing_leaves (Test true) idle.gain.calls (λ done changing. let is : e ≡ NotDone = refused.1 in cc)
  removed_leaves (inr (passed, inl (call, is, broke, alone))) = record {
    each = removal_each c line list m site front rest calls grew reads (done_of c m passed)
        (broke_goes call (removal_calls c.mapfile) [] rest broke);
    kept = removal_kept c line list m site front rest calls grew reads e (done_of c m passed) (λ done. absurd (cc));
  }
  removed_leaves (inr (passed, inr (more, made, ends))) =
      let all : rest ≡ map Returned (removal_calls c.mapfile) =
      none_more (map Returned (removal_calls c.mapfile)) rest more made ends.1 in
      record {
        each = removal_each c line list m site front rest calls grew reads (done_of c m passed)
            (made_goes (removal_calls c.mapfile) [] rest all);
        kept = removal_kept c line list m site front rest calls grew reads e (done_of c m passed) (λ done. all);
      }

  saved_leaves : (listed other : Status) (numbers text : List ℕ) → numbers_in (shape_of c.options) list ≡ Ok numbers
      → IsCreated c listed other line m numbers text → EndsSaved c text e (only_calls rest)
      → Leaving (Create listed other) c line list m site calls e
  saved_leaves listed other numbers text are is (inl (call, at, broke, alone)) = record {
    each = created_each listed other c line list m site front rest calls grew reads numbers text are is
        (inr (call, broke));
    kept = created_kept listed other c line list m site front rest calls grew reads e numbers text are is
        (λ done. absurd (cc));
  }
  saved_leaves listed other numbers text are is (inr (more, made, ends)) =
      let all : rest ≡ map Returned (save_calls (names_of c.mapfile) text) =
      none_more (map Returned (save_calls (names_of c.mapfile) text)) rest more made ends.1 in
      record {
        each = created_each listed other c line list m site front rest calls grew reads numbers text are is (inl all);
        kept = created_kept listed other c line list m site front rest calls grew reads e numbers text are is
            (λ done. all);
      }

  list_short : ListRefused c.options list e → e ≡ Done → ⊥
  list_short (inl long) done = let is : e ≡ ListTooLong = long.1 in cc
  list_short (inr (line, short, bad, is)) done = cc

  created_leaves : (listed other : Status) → EndsCreated listed other c line list m e (only_calls rest)
      → Leaving (Create listed other) c line list m site calls e
  created_leaves listed other (inl (is, idle)) =
      nothing_leaves (Create listed other) idle.gain.calls (λ done changing. cc)
  created_leaves listed other (inr (inl (refused, idle))) =
      nothing_leaves (Create listed other) idle.gain.calls (λ done changing. list_short refused done)
  created_leaves listed other (inr (inr (passed, (numbers, text, are, is, saves)))) =
      saved_leaves listed other numbers text are is saves

  mode_leaves : (mode : LogMode) → EndsAs mode c line list m e (only_calls rest)
      → Leaving mode c line list m site calls e
  mode_leaves (Create listed other) w = created_leaves listed other w
  mode_leaves (Test true) w = removed_leaves w
  mode_leaves o w =
      nothing_leaves o (reads_run o c line list m e rest (λ x. x) w) (λ done x. x)

-- ---- all of it

-- the work of a mode that only reads calls nothing but reads, and so does any whose answer leaves the files
pub works_read : (c : Command) (line list : List ℕ) (found : Found) (m : Maps) (e : LogEnding) (calls : List Entry)
    → OnlyReads c.mode ⊎ LeavesFiles e → LogWorks c line list found m e (only_calls calls) → AreReads calls
works_read c line list found m e calls leaves w =
    let b : AfterReads IsShort (EndsAs c.mode c line list m) e calls =
    after_works (creates c.mode) c line list found m e calls w in
    reads_alone b.front b.rest calls b.grew b.reads
    (elim b.ends [
      | inl stopped ↦ stopped.0
      | inr ends ↦
          elim leaves [
            | inl only ↦ reads_run c.mode c line list m e b.rest only ends
            | inr early ↦ reads_early c.mode c line list m e b.rest early ends
          ]
    ])

works_leave : (c : Command) (line list : List ℕ) (found : Found) (m : Maps) (site : SiteState) (e : LogEnding)
    (calls : List Entry) → LogWorks c line list found m e (only_calls calls)
    → Leaving c.mode c line list m site calls e
works_leave c line list found m site e calls w =
    let b : AfterReads IsShort (EndsAs c.mode c line list m) e calls =
    after_works (creates c.mode) c line list found m e calls w in
    elim b.ends [
      | inl stopped ↦ nothing_leaves c line list m site e b.front b.rest calls b.grew b.reads c.mode stopped.0
          (λ done changing. stopped.1 done)
      | inr ends ↦ mode_leaves c line list m site e b.front b.rest calls b.grew b.reads c.mode ends
    ]

-- a stop of the work is safe, whatever was called before
pub stops_safely : (c : Command) (line list : List ℕ) (found : Found) (m : Maps) (site : SiteState) (e : LogEnding)
    (calls : List Entry) → LogWorks c line list found m e (only_calls calls)
    → StopsSafely c line list m site calls e
stops_safely c line list found m site e calls w =
    let l : Leaving c.mode c line list m site calls e = works_leave c line list found m site e calls w in
    λ k files stop. record {
      mapfile =
          elim (l.each k files stop.within stop.left c.mapfile (λ on. apart_draft c.mapfile)) [
            | inl old ↦ inl old
            | inr (inl new) ↦ inr new.1
            | inr (inr made) ↦ absurd (apart_draft c.mapfile made.1.0)
          ];
      kept = λ over.
          l.kept files over.done over.changes (subst (λ (n : ℕ). LeftAt site calls n files) over.last stop.left);
      others = λ name apart draft.
          elim (l.each k files stop.within stop.left name draft) [
            | inl old ↦ inl old
            | inr (inl new) ↦ absurd (apart new.0)
            | inr (inr made) ↦ inr made
          ];
    }
