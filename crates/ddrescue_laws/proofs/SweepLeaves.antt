-- What a filling and a generating leave of the files that came to no sweep.
use Rattle.std.proofs.Common.{◌≡◌, ◌⊎◌, ℕ, zero, suc, Bool, true, false, ◌||◌, List, [], ◌∷◌, ◌++◌, map, Option, Some, None, refl, sym, ap, ◌∙◌, inl, inr, subst}
use Rattle.std.specs.Prelude.{IsTrue}
use Rattle.std.specs.List.{list_any}
use Rattle.std.proofs.lemmas.List.Elements.{All-head, All-tail}
use Rattle.block_list.specs.declared.types.TypeSet.{TypeSet}
use Rattle.crash_site.specs.Files.{File, empty_file, draft_of}
use Rattle.crash_site.specs.Calls.{Call, Entry, Done, Failed, image_open, image_sync, map_read, map_settle}
use Rattle.crash_site.specs.CallsMade.{unanswered}
use Rattle.crash_site.specs.Folder.{Folder, opened, after, after_done, after_failed}
use Rattle.crash_site.specs.SiteState.{files_in}
use Rattle.crash_site.proofs.LawLemmas.{after-append, put_other}
use Rattle.option_words.specs.Words.{command_line}
use Rattle.rescue_rules.specs.declared.stop.RunEnd.{RunEnd}
use Rattle.rescue_rules.specs.Setting.{Setting}
use Rattle.rescue_rules.specs.Work.{Gain, is_map_read, AreMapReads}
use Rattle.rescue_rules.proofs.CutLemmas.{IsOf, Cut}
use Rattle.rescue_rules.proofs.MapfileLemmas.{opening_by}
use Rattle.rescue_rules.proofs.SaveStages.{put_own}
use Rattle.mapfile_save.specs.Loading.{barrier_calls}
use Rattle.sweep_rules.specs.Sweep.{Sweeper, Swept, filler, generator}
use Rattle.program_promise.proofs.FrontLemmas.{reads_stand}
use Rattle.ddrescue_words.specs.Command.{Command, Fill, Generate}
use Rattle.ddrescue_words.specs.Asking.{AskTask}
use Rattle.ddrescue_words.proofs.CommandLemmas.{reading_asks}
use Rattle.task_files.specs.Names.{program_name}
use Rattle.task_files.specs.Maps.{Found}
use Rattle.task_files.specs.Findings.{Findings}
use Rattle.ddrescue_laws.specs.LeftAfter.{AllStand, OutputMade, DraftMade, OutputAndDraftMade, draft_asked, has_unsettled, is_unsettled}
use Rattle.ddrescue_cli.specs.Tasks.{with_did}
use Rattle.ddrescue_cli.specs.Told.{Told}
use Rattle.ddrescue_cli.specs.ToldParts.{files_of, asked_of}
use Rattle.task_sweeps.specs.Modes.{Fills, Generates, fill_setting}
use Rattle.ddrescue_cli.specs.Ddrescue.{Ddrescue, TaskDone}
use Rattle.ddrescue_laws.specs.ModeLaws.{UnbegunFillLeaves, UnbegunGenerateLeaves, promised_fill, promised_generate}
use Rattle.ddrescue_cli.proofs.EarlyCut.{EarlyCut, early_cut}
use Rattle.ddrescue_laws.proofs.LeftAfterLemmas.{made_there}
use Rattle.ddrescue_cli.proofs.PromiseLemmas.{named_on}
use Rattle.ddrescue_cli.proofs.SweepGoes.{Unbegun, Begun}
use Rattle.ddrescue_cli.proofs.SweepWay.{SweepWay, InMaps, AfterMaps, fill_way, generate_way}

-- a call that changes nothing of a folder, whether it returned or failed
record IsStill (c : Call) : Type 0 where
  done : (d : Folder) → after_done d c ≡ d
  failed : (d : Folder) (steps : ℕ) → after_failed d c steps ≡ d
  unanswered_ : (d : Folder) (steps : ℕ) → after_failed d (unanswered c) steps ≡ d

read_still : (c : Call) → is_map_read c ≡ true → IsStill c
read_still (map_read name at size answer) is =
    record { done = λ d. refl; failed = λ d steps. refl; unanswered_ = λ d steps. refl }
read_still c is = absurd (cc)

still_failed : (c x : Call) (d : Folder) (steps : ℕ) → IsOf c x → IsStill c → after_failed d x steps ≡ d
still_failed c x d steps (inl is) still = ap (λ (z : Call). after_failed d z steps) is ∙ still.failed d steps
still_failed c x d steps (inr is) still = ap (λ (z : Call). after_failed d z steps) is ∙ still.unanswered_ d steps

-- reads of maps, of which the last may have failed
reads_cut : (maps : List Call) (es : List Entry) (d : Folder) → AreMapReads maps → Cut maps es → after d es ≡ d
reads_cut maps [] d reads cut = refl
reads_cut [] (e ∷ es) d reads cut = absurd cut
reads_cut (c ∷ maps) (Done x ∷ es) d reads cut =
    ap (λ (f : Folder). after f es)
    (ap (after_done d) cut.0 ∙ (read_still c (All-head (λ c. is_map_read c ≡ true) c maps reads)).done d)
    ∙ reads_cut maps es d (All-tail (λ c. is_map_read c ≡ true) c maps reads) cut.1
reads_cut (c ∷ maps) (Failed x steps ∷ es) d reads cut =
    ap (λ (l : List Entry). after (after_failed d x steps) l) cut.1
    ∙ still_failed c x d steps cut.0 (read_still c (All-head (λ c. is_map_read c ≡ true) c maps reads))

-- files after calls among which no settle failed are these; or one failed, and an absent draft was made
abbrev StandsOrDrafted : (draftfile : List ℕ) → List Entry → (files files' : List ℕ → Option File) → Type 0
StandsOrDrafted draftfile calls files files' =
    (files' ≡ files) ⊎ ((has_unsettled calls ≡ true) × DraftMade draftfile files files')

looked_at : (d : Folder) (draft : List ℕ) (o : Option File) → d.files draft ≡ o
    → ((opened d draft true o).files ≡ d.files) ⊎ DraftMade draft d.files (opened d draft true o).files
looked_at d draft (Some f) is = inl refl
looked_at d draft None is = inr (record {
  absent = is;
  made = put_own d.files draft (Some empty_file);
  others = λ name apart. put_other d.files draft name (Some empty_file) apart;
})

settle_failed : (d : Folder) (name : List ℕ) (steps : ℕ) → StandsOrDrafted (draft_of name)
    (Failed (map_settle name) steps ∷ []) d.files (after_failed d (map_settle name) steps).files
settle_failed d name zero = inl refl
settle_failed d name (suc steps) = elim (looked_at d (draft_of name) (d.files (draft_of name)) refl) [
  | inl same ↦ inl same
  | inr made ↦ inr (refl, made)
]

-- also where the call that failed is listed without an answer
settle_of : (name : List ℕ) (x : Call) → IsOf (map_settle name) x → x ≡ map_settle name
settle_of name x (inl is) = is
settle_of name x (inr is) = is

-- the barrier's calls, in front of reads
barrier_cut : (s : Setting) (load : List Call) (es : List Entry) (d : Folder) → AreMapReads load
    → Cut (barrier_calls s.names ++ load) es → StandsOrDrafted (draft_of s.names.map) es d.files (after d es).files
barrier_cut s load [] d reads cut = inl refl
barrier_cut s load (Done x ∷ []) d reads cut = inl (ap (λ (c : Call). (after_done d c).files) cut.0)
barrier_cut s load (Done x ∷ Done y ∷ es) d reads cut =
    inl (ap (λ (f : Folder). f.files)
    (ap (λ (f : Folder). after (after_done f y) es) (ap (after_done d) cut.0)
    ∙ ap (λ (f : Folder). after f es) (ap (after_done d) cut.1.0) ∙ reads_cut load es d reads cut.1.1))
barrier_cut s load (Done x ∷ Failed y steps ∷ es) d reads cut =
    inl (ap (λ (f : Folder). f.files)
    (ap (λ (f : Folder). after (after_failed f y steps) es) (ap (after_done d) cut.0)
    ∙ ap (λ (l : List Entry). after (after_failed d y steps) l) cut.1.1
    ∙ still_failed image_sync y d steps cut.1.0
    (record { done = λ d. refl; failed = λ d steps. refl; unanswered_ = λ d steps. refl })))
barrier_cut s load (Failed x steps ∷ es) d reads cut =
    let is : Failed x steps ∷ es ≡ Failed (map_settle s.names.map) steps ∷ [] =
    ap (λ (c : Call). Failed c steps ∷ es) (settle_of s.names.map x cut.0)
    ∙ ap (λ (l : List Entry). Failed (map_settle s.names.map) steps ∷ l) cut.1 in
    subst (λ (l : List Entry). StandsOrDrafted (draft_of s.names.map) l d.files (after d l).files) (sym is)
    (settle_failed d s.names.map steps)

-- the files, and what an open leaves of them, and then a settle that failed
abbrev pub LeavesBy : (makes : Bool) → (outfile draftfile : List ℕ) → List Entry
    → (files files' : List ℕ → Option File) → Type 0
LeavesBy true outfile draftfile calls files files' =
    (AllStand files files' ⊎ OutputMade outfile files files')
    ⊎ ((has_unsettled calls ≡ true) × OutputAndDraftMade outfile draftfile files files')
LeavesBy false outfile draftfile calls files files' =
    AllStand files files' ⊎ ((has_unsettled calls ≡ true) × DraftMade draftfile files files')

stands_by : (makes : Bool) (outfile draftfile : List ℕ) (calls : List Entry) (files files' : List ℕ → Option File)
    → files' ≡ files → LeavesBy makes outfile draftfile calls files files'
stands_by true outfile draftfile calls files files' is = inl (inl (λ name. ap (λ f. f name) is))
stands_by false outfile draftfile calls files files' is = inl (λ name. ap (λ f. f name) is)

unmade_by : (d : Folder) (outfile : List ℕ) (file : Option File) → (opened d outfile false file).files ≡ d.files
unmade_by d outfile None = refl
unmade_by d outfile (Some f) = refl

-- what calls after an open leave
opened_by : (makes : Bool) (outfile draftfile : List ℕ) (d : Folder) (calls : List Entry) (files' : List ℕ
    → Option File)
    → StandsOrDrafted draftfile calls (opened d outfile makes (d.files outfile)).files files'
    → LeavesBy makes outfile draftfile calls d.files files'
opened_by true outfile draftfile d calls files' (inl same) =
    inl (inr (subst (λ (f : List ℕ → Option File). OutputMade outfile d.files f) (sym same)
    (made_there d outfile (d.files outfile) refl)))
opened_by true outfile draftfile d calls files' (inr drafted) = inr (
  drafted.0,
  ((opened d outfile true (d.files outfile)).files, made_there d outfile (d.files outfile) refl, drafted.1),
)
opened_by false outfile draftfile d calls files' (inl same) =
    inl (λ name. ap (λ (f : List ℕ → Option File). f name) (same ∙ unmade_by d outfile (d.files outfile)))
opened_by false outfile draftfile d calls files' (inr drafted) = inr (
  drafted.0,
  subst (λ (f : List ℕ → Option File). DraftMade draftfile f files') (unmade_by d outfile (d.files outfile)) drafted.1,
)

-- an open that failed
failed_open : (makes : Bool) (outfile draftfile : List ℕ) (d : Folder) (calls : List Entry) (steps : ℕ)
    → LeavesBy makes outfile draftfile calls d.files (after_failed d (image_open outfile makes) steps).files
failed_open makes outfile draftfile d calls zero = stands_by makes outfile draftfile calls d.files d.files refl
failed_open true outfile draftfile d calls (suc steps) = inl (inr (made_there d outfile (d.files outfile) refl))
failed_open false outfile draftfile d calls (suc steps) =
    stands_by false outfile draftfile calls d.files _ (unmade_by d outfile (d.files outfile))

open_of : (name : List ℕ) (makes : Bool) (x : Call) → IsOf (image_open name makes) x → x ≡ image_open name makes
open_of name makes x (inl is) = is
open_of name makes x (inr is) = is

opening_cut : (s : Setting) (makes : Bool) (load : List Call) (es : List Entry) (d : Folder) → AreMapReads load
    → Cut (opening_by s makes ++ load) es
    → LeavesBy makes s.outfile (draft_of s.names.map) es d.files (after d es).files
opening_cut s makes load [] d reads cut = stands_by makes s.outfile (draft_of s.names.map) [] d.files d.files refl
opening_cut s makes load (Done x ∷ es) d reads cut =
    subst (λ (c : Call). LeavesBy makes s.outfile (draft_of s.names.map) (Done c ∷ es) d.files
    (after (after_done d c) es).files)
    (sym cut.0)
    (opened_by makes s.outfile (draft_of s.names.map) d (Done (image_open s.outfile makes) ∷ es) _
    (barrier_cut s load es (after_done d (image_open s.outfile makes)) reads cut.1))
opening_cut s makes load (Failed x steps ∷ es) d reads cut =
    subst (λ (l : List Entry). LeavesBy makes s.outfile (draft_of s.names.map) (Failed x steps ∷ l) d.files
    (after (after_failed d x steps) l).files) (sym cut.1)
    (subst (λ (c : Call). LeavesBy makes s.outfile (draft_of s.names.map) (Failed c steps ∷ []) d.files
    (after_failed d c steps).files) (sym (open_of s.outfile makes x cut.0))
    (failed_open makes s.outfile (draft_of s.names.map) d (Failed (image_open s.outfile makes) steps ∷ []) steps))

-- more calls in front
any_later : (f : Entry → Bool) (xs ys : List Entry) → list_any f ys ≡ true → list_any f (xs ++ ys) ≡ true
any_later f [] ys is = is
any_later f (x ∷ xs) ys is = either_true (f x) (list_any f (xs ++ ys)) (any_later f xs ys is)
  where
    either_true : (a b : Bool) → b ≡ true → (a || b) ≡ true
    either_true true b is = refl
    either_true false b is = is

leaves_later : (makes : Bool) (outfile draftfile : List ℕ) (front calls : List Entry)
    (files files' : List ℕ → Option File) → LeavesBy makes outfile draftfile calls files files'
    → LeavesBy makes outfile draftfile (front ++ calls) files files'
leaves_later true outfile draftfile front calls files files' (inl same) = inl same
leaves_later true outfile draftfile front calls files files' (inr made) =
    inr (any_later is_unsettled front calls made.0, made.1)
leaves_later false outfile draftfile front calls files files' (inl same) = inl same
leaves_later false outfile draftfile front calls files files' (inr made) =
    inr (any_later is_unsettled front calls made.0, made.1)

-- what a sweep leaves that never began
way_leaves : (ready : Type 0) (s : Setting) (w : Sweeper) (d : Folder) (pieces : List Swept) (end : RunEnd) (g : Gain)
    → s.has_mapfile ≡ true → g.times ≡ [] → SweepWay ready s w d.files pieces end g
    → LeavesBy w.makes s.outfile (draft_of s.names.map) g.calls d.files (after d g.calls).files
way_leaves ready s w d pieces end g on still (InMaps maps reads cut none) =
    stands_by w.makes s.outfile (draft_of s.names.map) g.calls d.files _
    (ap (λ (f : Folder). f.files) (reads_cut maps g.calls d reads cut))
way_leaves ready s w d pieces end g on still (AfterMaps maps h reads grew timed is (Unbegun ends opens none)) =
    let e : EarlyCut s w.makes h.calls = early_cut s w.makes d.files h.calls on ends in
    let same : after d g.calls ≡ after d h.calls =
    ap (after d) grew ∙ after-append d (map Done maps) h.calls
    ∙ ap (λ (f : Folder). after f h.calls) (reads_stand maps d reads) in
    subst (λ (f : Folder). LeavesBy w.makes s.outfile (draft_of s.names.map) g.calls d.files f.files) (sym same)
    (subst (λ (l : List Entry). LeavesBy w.makes s.outfile (draft_of s.names.map) l d.files (after d h.calls).files)
    (sym grew)
    (leaves_later w.makes s.outfile (draft_of s.names.map) (map Done maps) h.calls d.files (after d h.calls).files
    (opening_cut s w.makes e.load h.calls d e.reads e.cut)))
way_leaves ready s w d pieces end g on still
    (AfterMaps maps h reads grew timed is (Begun opens load statuses state rest loaded stands all sweeps are)) =
    absurd (let never : [] ≡ _ = sym still ∙ sym timed ∙ sweeps.times in cc)

-- the folder after a call
folder_after : (t : Told) (gained : List Entry) → t.after.site.start ≡ t.before.site.start → t.after.site.calls ≡ t.before.site.calls ++ gained
    → files_in t.after.site ≡ (after (after t.before.site.start t.before.site.calls) gained).files
folder_after t gained started grew =
    ap (λ (f : Folder). (after f t.after.site.calls).files) started
    ∙ ap (λ (l : List Entry). (after t.before.site.start l).files) grew
    ∙ ap (λ (f : Folder). f.files) (after-append t.before.site.start t.before.site.calls gained)

-- by whether a settle failed among the calls
pub fill_leaves : (t : Told) (types : TypeSet) (c : Command) (d : Ddrescue t) (asks : AskTask t.words (Fill types c))
    → IsTrue t.before.site.tells → (promised_fill d asks).did.gain.times ≡ []
    → LeavesBy true c.outfile (draft_asked c) (promised_fill d asks).did.gain.calls (files_of t) (files_in t.after.site)
fill_leaves t types c d asks tells still =
    let p : TaskDone (Fill types c) t = promised_fill d asks in
    let o : Findings = with_did p.outside p.did in
    let line : List ℕ = command_line program_name t.words in
    let s : Setting = fill_setting c line p.outside.top o.maps in
    let named = (reading_asks t.words asks.rows asks.items asks.operands (Fill types c) asks.options asks.reading
    asks.is).limits.named in
    subst (λ (files : List ℕ → Option File). LeavesBy true c.outfile (draft_asked c) o.did.gain.calls
    (files_of t) files)
    (sym (folder_after t o.did.gain.calls (d.does.keeps.site.start tells) (p.agrees.agrees.calls tells)))
    (way_leaves _ s (filler s types p.outside.buffer) (after t.before.site.start t.before.site.calls) p.outside.pieces p.outside.swept o.did.gain
    (named_on c.mapfile named) still
    (fill_way (files_of t) line o.end p.outside.top o.maps types p.outside.buffer p.outside.pieces p.outside.swept o.lines t.answer o.did c named
    (subst (λ (found : Found). Fills types c found o.end p.outside.top s p.outside.buffer p.outside.pieces p.outside.swept o.lines t.answer o.did)
    (p.agrees.agrees.found tells) p.work)))

pub unbegun_fill_leaves : UnbegunFillLeaves
unbegun_fill_leaves = fill_leaves

pub generate_leaves : (t : Told) (c : Command) (d : Ddrescue t) (asks : AskTask t.words (Generate c))
    → IsTrue t.before.site.tells → (promised_generate d asks).did.gain.times ≡ []
    → LeavesBy false c.outfile (draft_asked c) (promised_generate d asks).did.gain.calls (files_of t)
    (files_in t.after.site)
generate_leaves t c d asks tells still =
    let p : TaskDone (Generate c) t = promised_generate d asks in
    let o : Findings = with_did p.outside p.did in
    let line : List ℕ = command_line program_name t.words in
    let s : Setting = asked_of c t o in
    let named = (reading_asks t.words asks.rows asks.items asks.operands (Generate c) asks.options asks.reading
    asks.is).limits.named in
    subst (λ (files : List ℕ → Option File). LeavesBy false c.outfile (draft_asked c) o.did.gain.calls
    (files_of t) files)
    (sym (folder_after t o.did.gain.calls (d.does.keeps.site.start tells) (p.agrees.agrees.calls tells)))
    (way_leaves _ s (generator s) (after t.before.site.start t.before.site.calls) p.outside.pieces p.outside.swept o.did.gain (named_on c.mapfile named)
    still
    (generate_way (files_of t) line o.end o.maps p.outside.pieces p.outside.swept o.lines t.answer o.did c named
    (subst (λ (found : Found). Generates c found o.end s p.outside.pieces p.outside.swept o.lines t.answer o.did) (p.agrees.agrees.found tells)
    p.work)))

pub unbegun_generate_leaves : UnbegunGenerateLeaves
unbegun_generate_leaves = generate_leaves
