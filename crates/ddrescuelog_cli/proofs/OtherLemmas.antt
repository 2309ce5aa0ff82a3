-- Files that the work leaves as they read.
use Rattle.std.proofs.Common.{◌≡◌, ◌≢◌, ◌⊎◌, ℕ, zero, suc, true, List, [], ◌∷◌, ◌++◌, map, Option, Some, None, refl, sym, ap, ◌∙◌, inl, inr}
use Rattle.std.specs.Str.{bytes_eq}
use Rattle.std.proofs.lemmas.Bool.{cases_Bool, cond-true, cond-false}
use Rattle.crash_site.specs.Files.{File, empty_file, draft_of}
use Rattle.crash_site.specs.Calls.{Call, Entry, Done as Returned, Failed, map_remove, map_settle}
use Rattle.crash_site.specs.Folder.{Folder, opened, after, after_done, after_failed}
use Rattle.crash_site.specs.Along.{GoesAlong}
use Rattle.crash_site.specs.SiteState.{SiteState, files_in}
use Rattle.crash_site.proofs.DiskLemmas.{same_name}
use Rattle.crash_site.proofs.LawLemmas.{after-append, put_other}
use Rattle.crash_site.proofs.AlongLemmas.{WentOn, broke_goes, made_goes}
use Rattle.mapfile_save.specs.MapNames.{names_of}
use Rattle.mapfile_save.specs.Saving.{save_calls}
use Rattle.mapfile_save.specs.SaveStops.{IsEmptyDraft}
use Rattle.ddrescuelog_words.specs.declared.mode.LogMode.{LogMode}
use Rattle.ddrescuelog_words.specs.declared.mode.LogMode.TheVariants.{Create, Test}
use Rattle.ddrescuelog_words.specs.Modes.{creates}
use Rattle.ddrescuelog_words.specs.Command.{Command}
use Rattle.program_promise.specs.Kinds.{AtCall, Failed as FailedKind}
use Rattle.ddrescuelog_cli.specs.declared.ending.LogEnding.{LogEnding}
use Rattle.ddrescuelog_cli.specs.Answers.{row_of}
use Rattle.program_promise.specs.Parts.{only_calls}
use Rattle.program_promise.proofs.SpareLemmas.{AllSpare, spared, save_spares}
use Rattle.ddrescuelog_cli.specs.Modes.{EndsSaved, EndsAs, removal_calls}
use Rattle.ddrescuelog_cli.specs.Maps.{Found, Maps}
use Rattle.ddrescuelog_cli.specs.Stops.{IsChanging}
use Rattle.ddrescuelog_cli.specs.Work.{LogWorks}
use Rattle.program_promise.proofs.ReadLemmas.{reads_leave}
use Rattle.ddrescuelog_cli.proofs.AfterReadsLemmas.{AfterReads, IsShort, after_works}
use Rattle.ddrescuelog_cli.proofs.StopsLemmas.{none_more, reads_run}

-- ---- by the mode

-- what the calls of a mode leave as it reads
abbrev Leaves : List ℕ → List Entry → Type 0
Leaves n rest = (d : Folder) → (after d rest).files n ≡ d.files n

nothing_leaves : (n : List ℕ) (rest : List Entry) → rest ≡ [] → Leaves n rest
nothing_leaves n rest none d = ap (λ (r : List Entry). (after d r).files n) none

calls_leave : (n : List ℕ) (calls : List Call) (rest : List Entry) → ((d : Folder) → AllSpare n d calls)
    → WentOn calls [] rest → Leaves n rest
calls_leave n calls rest spare went d =
    ap (λ (r : List Entry). (after d r).files n) went.is ∙ spared n d calls went.since (spare d) went.goes

-- the file under a name reads as it did; or it is the draft, which was absent and is made, empty
abbrev OrMade : (draft n : List ℕ) → Folder → (now : List ℕ → Option File) → Type 0
OrMade draft n d now = (now n ≡ d.files n) ⊎ ((n ≡ draft) × (d.files n ≡ None) × (now n ≡ Some empty_file))

looked : (d : Folder) (draft n : List ℕ) (o : Option File) → d.files draft ≡ o
    → OrMade draft n d (opened d draft true o).files
looked d draft n (Some f) is = inl refl
looked d draft n None is = elim (cases_Bool (bytes_eq n draft)) [
  | inl on ↦ inr (
    same_name n draft on,
    ap d.files (same_name n draft on) ∙ is,
    cond-true (bytes_eq n draft) (Some empty_file) (d.files n) on,
  )
  | inr off ↦ inl (cond-false (bytes_eq n draft) (Some empty_file) (d.files n) off)
]

-- a settle that failed
unsettled : (d : Folder) (name n : List ℕ) (steps : ℕ)
    → OrMade (draft_of name) n d (after_failed d (map_settle name) steps).files
unsettled d name n zero = inl refl
unsettled d name n (suc steps) = looked d (draft_of name) n (d.files (draft_of name)) refl

-- a removal, as far as it came
removed : (name n : List ℕ) (d : Folder) (es : List Entry) → n ≢ name → GoesAlong (removal_calls name) es
    → OrMade (draft_of name) n d (after d es).files
removed name n d [] other goes = inl refl
removed name n d (Failed c steps ∷ es) other goes =
    inl (ap (λ (r : List Entry). (after (after_failed d c steps) r).files n) goes.1
    ∙ ap (λ (x : Call). (after_failed d x steps).files n) goes.0)
removed name n d (Returned c ∷ []) other goes =
    inl (ap (λ (x : Call). (after_done d x).files n) goes.0 ∙ put_other d.files name n None other)
removed name n d (Returned c ∷ Returned s ∷ []) other goes =
    inl (ap (λ (x : Call). (after_done (after_done d c) x).files n) goes.1.0
    ∙ ap (λ (x : Call). (after_done d x).files n) goes.0 ∙ put_other d.files name n None other)
removed name n d (Returned c ∷ Returned s ∷ (e ∷ es)) other goes = absurd goes.1.1
removed name n d (Returned c ∷ Failed s steps ∷ es) other goes =
    let mid : Folder = after_done d (map_remove name) in
    let is : (after d (Returned c ∷ Failed s steps ∷ es)).files n ≡ (after_failed mid (map_settle name) steps).files n =
    ap (λ (r : List Entry). (after (after_failed (after_done d c) s steps) r).files n) goes.1.1
    ∙ ap (λ (x : Call). (after_failed (after_done d c) x steps).files n) goes.1.0
    ∙ ap (λ (x : Call). (after_failed (after_done d x) (map_settle name) steps).files n) goes.0 in
    let gone : mid.files n ≡ d.files n = put_other d.files name n None other in
    elim (unsettled mid name n steps) [
      | inl same ↦ inl (is ∙ same ∙ gone)
      | inr made ↦ inr (made.0, sym gone ∙ made.1, is ∙ made.2)
    ]

module _ (c : Command) (line list : List ℕ) (m : Maps) (e : LogEnding) (rest : List Entry) (n : List ℕ)
    (other : n ≢ c.mapfile) where
  -- the calls of a mode leave this as it reads, but a -d of which one fails may make an empty draft
  abbrev ModeLeaves : LogMode → Type 0
  ModeLeaves mode = (d : Folder)
      → ((after d rest).files n ≡ d.files n)
      ⊎ (((row_of e).kind ≡ FailedKind AtCall) × IsChanging mode × (n ≡ (names_of c.mapfile).draft) × (d.files n ≡ None)
      × ((after d rest).files n ≡ Some empty_file))

  removal_breaks : (row_of e).kind ≡ FailedKind AtCall → WentOn (removal_calls c.mapfile) [] rest
      → ModeLeaves (Test true)
  removal_breaks broke went d =
      let is : (after d rest).files n ≡ (after d went.since).files n =
      ap (λ (r : List Entry). (after d r).files n) went.is in
      elim (removed c.mapfile n d went.since other went.goes) [
        | inl same ↦ inl (is ∙ same)
        | inr made ↦ inr (broke, tt, made.0, made.1, is ∙ made.2)
      ]

  removal_leaves : EndsAs (Test true) c line list m e (only_calls rest) → ModeLeaves (Test true)
  removal_leaves (inl (refused, idle)) = λ d. inl (nothing_leaves n rest idle.gain.calls d)
  removal_leaves (inr (passed, inl (call, is, broke, alone))) =
      removal_breaks (ap (λ (x : LogEnding). (row_of x).kind) is)
      (broke_goes call (removal_calls c.mapfile) [] rest broke)
  removal_leaves (inr (passed, inr (more, made, ends))) =
      λ d. inl (ap (λ (r : List Entry). (after d r).files n)
      (none_more (map Returned (removal_calls c.mapfile)) rest more made ends.1)
      ∙ put_other d.files c.mapfile n None other)

  save_leaves : (text : List ℕ) → n ≢ (names_of c.mapfile).draft → EndsSaved c text e (only_calls rest)
      → Leaves n rest
  save_leaves text apart (inl (call, is, broke, alone)) =
      calls_leave n (save_calls (names_of c.mapfile) text) rest
      (λ d. save_spares (names_of c.mapfile) n refl other apart d text)
      (broke_goes call (save_calls (names_of c.mapfile) text) [] rest broke)
  save_leaves text apart (inr (more, made, ends)) =
      calls_leave n (save_calls (names_of c.mapfile) text) rest
      (λ d. save_spares (names_of c.mapfile) n refl other apart d text)
      (made_goes (save_calls (names_of c.mapfile) text) [] rest
      (none_more (map Returned (save_calls (names_of c.mapfile) text)) rest more made ends.1))

  mode_leaves : (mode : LogMode) → (creates mode ≡ true → n ≢ (names_of c.mapfile).draft)
      → EndsAs mode c line list m e (only_calls rest) → ModeLeaves mode
  mode_leaves (Create listed remaining) apart (inl (is, idle)) = λ d. inl (nothing_leaves n rest idle.gain.calls d)
  mode_leaves (Create listed remaining) apart (inr (inl (refused, idle))) =
      λ d. inl (nothing_leaves n rest idle.gain.calls d)
  mode_leaves (Create listed remaining) apart (inr (inr (passed, (numbers, text, are, is, saves)))) =
      λ d. inl (save_leaves text (apart refl) saves d)
  mode_leaves (Test true) apart w = removal_leaves w
  mode_leaves o apart w =
      λ d. inl (nothing_leaves n rest (reads_run o c line list m e rest (λ x. x) w) d)

-- ---- all of it

-- a file that isn't the mapfile nor its draft reads as it did; and a -d that failed may have made an empty draft
pub others_stand : (c : Command) (line list : List ℕ) (found : Found) (m : Maps) (e : LogEnding)
    (old new : SiteState) (calls : List Entry) → new.start ≡ old.start → new.calls ≡ old.calls ++ calls
    → LogWorks c line list found m e (only_calls calls) → (name : List ℕ) → name ≢ c.mapfile
    → (creates c.mode ≡ true → name ≢ (names_of c.mapfile).draft)
    → (files_in new name ≡ files_in old name)
    ⊎ (((row_of e).kind ≡ FailedKind AtCall) × IsChanging c.mode
    × IsEmptyDraft old (names_of c.mapfile).draft name (files_in new name))
others_stand c line list found m e old new calls start grew w name other apart =
    let b : AfterReads IsShort (EndsAs c.mode c line list m) e calls =
    after_works (creates c.mode) c line list found m e calls w in
    let was : Folder = after old.start old.calls in
    let rest : ModeLeaves c line list m e b.rest name other c.mode =
    elim b.ends [
      | inl stopped ↦ λ d. inl (nothing_leaves name b.rest stopped.0 d)
      | inr ends ↦ mode_leaves c line list m e b.rest name other c.mode apart ends
    ] in
    let is : files_in new name ≡ (after was b.rest).files name =
    ap (λ (s : Folder). (after s new.calls).files name) start
    ∙ ap (λ (r : List Entry). (after old.start r).files name) grew
    ∙ ap (λ (f : Folder). f.files name)
    (after-append old.start old.calls calls
    ∙ ap (after was) b.grew
    ∙ after-append was b.front b.rest
    ∙ ap (λ (f : Folder). after f b.rest) (reads_leave was b.front b.reads)) in
    elim (rest was) [
      | inl same ↦ inl (is ∙ same)
      | inr made ↦ inr (made.0, made.1, (made.2, made.3, is ∙ made.4))
    ]
