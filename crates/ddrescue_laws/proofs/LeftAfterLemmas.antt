-- What an answer before the first read leaves of the files.
use Rattle.std.proofs.Common.{◌≡◌, ℕ, zero, suc, Bool, true, false, ◌||◌, is_some, List, [], ◌∷◌, ◌++◌, ◌⊎◌, map, Option, Some, None, refl, sym, ap, ◌∙◌, inl, inr, subst}
use Rattle.crash_site.specs.declared.site.SiteCall.{SiteCall}
use Rattle.crash_site.specs.declared.site.SiteCall.TheVariants.{ImageOpen, ImageSync, MapRead, MapSettle}
use Rattle.crash_site.specs.Files.{File, empty_file}
use Rattle.crash_site.specs.Folder.{Folder, opened, after, after_failed}
use Rattle.crash_site.specs.SiteState.{files_in}
use Rattle.crash_site.specs.Calls.{Call, Entry, Done as Returned, image_open}
use Rattle.crash_site.specs.CallsMade.{BrokeAt}
use Rattle.crash_site.proofs.LawLemmas.{put_other, after-append}
use Rattle.mapfile_save.specs.Loading.{BeginsLoad}
use Rattle.mapfile_text.specs.declared.read.Mode.{Mode}
use Rattle.mapfile_text.specs.declared.read.MapError.{MapError}
use Rattle.rescue_rules.specs.declared.stop.Stop.{Stop}
use Rattle.rescue_rules.specs.declared.stop.Stop.TheVariants.{SourceLost as InputLost, Site, LimitMet as Limited, NoMemory as NoRoom}
use Rattle.option_words.specs.declared.fault.UsageFault.TheVariants.{PlaceTooLarge}
use Rattle.rescue_rules.specs.declared.stop.RunEnd.{RunEnd}
use Rattle.rescue_rules.specs.declared.stop.RunEnd.TheVariants.{Done as Finished, Stopped, SaveFailed}
use Rattle.ddrescue_words.specs.Command.{Command, Rescue}
use Rattle.task_files.specs.declared.ending.Ending.{Ending}
use Rattle.task_files.specs.declared.ending.Ending.TheVariants.{Done, Usage, SourceFault, MapRefused, SourceLost, SiteFault, NoMemory, LimitMet}
use Rattle.task_files.specs.declared.ending.Which.{Which}
use Rattle.task_files.specs.declared.ending.Which.TheVariants.{DomainMap, TestMap, RunMap}
use Rattle.task_files.specs.Maps.{Found, found_in}
use Rattle.task_files.specs.Refusals.{is_other, NamedMapRefused, PlacesRefused}
use Rattle.ddrescue_laws.specs.InputRead.{IsBeforeReads}
use Rattle.ddrescue_laws.specs.LeftAfter.{names_maps, AllStand, made_of, OutputMade, IsAfterOutput, IsMapReadFault, IsOpenFault, IsLeft}
use Rattle.ddrescue_cli.specs.Tasks.{with_did}
use Rattle.ddrescue_cli.specs.ToldParts.{files_of, asked_of}
use Rattle.task_files.specs.Findings.{Findings}
use Rattle.task_files.specs.Work.{Rescues, answer_of, rescue_faults, rescue_rows, barrier_of}
use Rattle.ddrescue_cli.specs.Ddrescue.{TaskDone}
use Rattle.ddrescue_laws.specs.Laws.{FilesAreLeft}
use Rattle.program_promise.proofs.FrontLemmas.{load_reads, reads_stand, broken_stands}
use Rattle.program_promise.specs.Work.{Deeds, Look, Read, Works}
use Rattle.program_promise.specs.Holds.{Holds, after_calls}
use Rattle.program_promise.proofs.HoldsLemmas.{holds, holds_more}
use Rattle.mapfile_save.specs.Saving.{IsNameIn}
use Rattle.rescue_rules.proofs.SaveStages.{put_own}
use Rattle.program_promise.proofs.GainLemmas.{broke_named}
use Rattle.ddrescue_cli.proofs.RowLemmas.{EndsRun, rescue_ends, after_domain, after_mapfile, after_test, open_call, of_barrier}
use Rattle.ddrescue_cli.proofs.LateLemmas.{IsRunCall, IsLate, rescue_late}

-- what calls leave of a folder
abbrev pub Leaves : Command → (before now : Folder) → Ending → Deeds → Type 0
Leaves c before now e d = IsLeft e (names_maps c) c.outfile before.files (after now d.gain.calls).files

none_done : (now : Folder) (calls : List Entry) → calls ≡ [] → (after now calls).files ≡ now.files
none_done now calls none = ap (λ (cs : List Entry). (after now cs).files) none

all_stand : (files files' : List ℕ → Option File) → files' ≡ files → AllStand files files'
all_stand files files' same = λ name. ap (λ f. f name) same

pub made_there : (d : Folder) (out : List ℕ) (f : Option File) → d.files out ≡ f → OutputMade out d.files (opened d out true f).files
made_there d out None is = record {
  output = put_own d.files out (Some empty_file) ∙ ap made_of (sym is);
  others = λ name apart. put_other d.files out name (Some empty_file) apart;
}
made_there d out (Some f) is = record { output = is ∙ ap made_of (sym is); others = λ name apart. refl }

other_stands : (d : Folder) (out : List ℕ) (f : Option File) → is_other f ≡ true → (opened d out true f).files ≡ d.files
other_stands d out None is = absurd (cc)
other_stands d out (Some f) is = refl

-- an open that failed may have made the output
failed_open : (d : Folder) (out : List ℕ) (steps : ℕ)
    → AllStand d.files (after_failed d (image_open out true) steps).files
    ⊎ OutputMade out d.files (after_failed d (image_open out true) steps).files
failed_open d out zero = inl (λ name. refl)
failed_open d out (suc steps) = inr (made_there d out (d.files out) refl)

made_or_not : (d : Folder) (out : List ℕ) (new : List Entry) → BrokeAt ImageOpen (image_open out true ∷ []) [] new
    → AllStand d.files (after d new).files ⊎ OutputMade out d.files (after d new).files
made_or_not d out new (inl (name, inl lost)) =
    subst (λ (r : List Entry). AllStand d.files (after d r).files ⊎ OutputMade out d.files (after d r).files)
    (sym lost.1)
    (failed_open d out lost.0)
made_or_not d out new (inl (name, inr lost)) =
    inl (all_stand d.files _ (ap (λ (r : List Entry). (after d r).files) lost))
made_or_not d out new (inr b) = absurd b

-- reads of a map
broken_read : (now : Folder) (name : List ℕ) (file : Option File) (load : List Call) (new : List Entry) → BeginsLoad name file load
    → BrokeAt MapRead load [] new → (after now new).files ≡ now.files
broken_read now name file load new begins broke =
    ap (λ (d : Folder). d.files) (broken_stands MapRead load now [] new (load_reads name file load begins) broke)

after_read : (c : Command) (before now : Folder) (name : List ℕ) (file : Option File) (load : List Call) → BeginsLoad name file load
    → (e : Ending) (d : Deeds) → Leaves c before now e d → Leaves c before now e (after_calls load d)
after_read c before now name file load begins e d left =
    let same : after now (map Returned load ++ d.gain.calls) ≡ after now d.gain.calls =
    after-append now (map Returned load) d.gain.calls
    ∙ ap (λ (n : Folder). after n d.gain.calls) (reads_stand load now (load_reads name file load begins)) in
    subst (λ (n : Folder). IsLeft e (names_maps c) c.outfile before.files n.files) (sym same) left

after_barrier : (c : Command) (before now : Folder) (mapfile : Option (List ℕ)) (e : Ending) (d : Deeds) → Leaves c before now e d
    → Leaves c before now e (after_calls (barrier_of mapfile) d)
after_barrier c before now None e d left = left
after_barrier c before now (Some n) e d left = left

-- which answers leave what
not_after : (e : Ending) → (e ≡ Usage PlaceTooLarge → ⊥) → ((error : MapError) → e ≡ MapRefused RunMap error → ⊥)
    → IsAfterOutput e → ⊥
not_after e place map (inl is) = place is
not_after e place map (inr (error, is)) = map error is

stands_left : (e : Ending) (maps : Bool) (out : List ℕ) (files files' : List ℕ → Option File) → (IsAfterOutput e → ⊥)
    → (IsMapReadFault e → ⊥) → AllStand files files' → IsLeft e maps out files files'
stands_left e maps out files files' early other stand = record {
  made = λ later. absurd (early later);
  read = λ fault. absurd (other fault);
  opened = λ fault. inl stand;
  stand = λ before later fault unopened. stand;
}

-- a refusal before the output is open
abbrev is_early : Ending → Bool
is_early (Usage fault) = false
is_early (MapRefused RunMap error) = false
is_early (SiteFault call earlier) = false
is_early e = true

early_left : (e v : Ending) (maps : Bool) (out : List ℕ) (files files' : List ℕ → Option File) → e ≡ v → is_early v ≡ true
    → AllStand files files' → IsLeft e maps out files files'
early_left e v maps out files files' is early stand =
    let apart : (x : Ending) → e ≡ x → is_early x ≡ true = λ x same. ap is_early (sym same ∙ is) ∙ early in
    stands_left e maps out files files'
    (not_after e (λ same. let no : false ≡ true = apart (Usage PlaceTooLarge) same in cc)
    (λ error same. let no : false ≡ true = apart (MapRefused RunMap error) same in cc))
    (λ fault. let no : false ≡ true = apart (SiteFault MapRead fault.0) fault.1 in cc) stand

opened_left : (maps : Bool) (out : List ℕ) (files files' : List ℕ → Option File)
    → AllStand files files' ⊎ OutputMade out files files' → IsLeft (SiteFault ImageOpen None) maps out files files'
opened_left maps out files files' left = record {
  made = λ later. absurd (not_after (SiteFault ImageOpen None) (λ x. cc) (λ error x. cc) later);
  read = λ fault. let x = fault.1 in absurd (cc);
  opened = λ fault. left;
  stand = λ before later fault unopened. absurd (unopened (None, refl));
}

made_left : (e : Ending) (maps : Bool) (out : List ℕ) (files files' : List ℕ → Option File) → IsAfterOutput e
    → (IsMapReadFault e → ⊥) → OutputMade out files files' → IsLeft e maps out files files'
made_left e maps out files files' later other made = record {
  made = λ is. made;
  read = λ fault. absurd (other fault);
  opened = λ fault. inr made;
  stand = λ before early fault unopened. absurd (early later);
}

read_left : (maps : Bool) (out : List ℕ) (files files' : List ℕ → Option File)
    → OutputMade out files files' ⊎ ((maps ≡ true) × AllStand files files')
    → IsLeft (SiteFault MapRead None) maps out files files'
read_left maps out files files' left = record {
  made = λ later. absurd (not_after (SiteFault MapRead None) (λ x. cc) (λ error x. cc) later);
  read = λ fault. left;
  opened = λ fault. let x = fault.1 in absurd (cc);
  stand = λ before early other unopened. absurd (other (None, refl));
}

late_left : (e : Ending) (maps : Bool) (out : List ℕ) (files files' : List ℕ → Option File) → (IsBeforeReads e → ⊥)
    → (IsAfterOutput e → ⊥) → (IsMapReadFault e → ⊥) → (IsOpenFault e → ⊥) → IsLeft e maps out files files'
late_left e maps out files files' late early other opening = record {
  made = λ later. absurd (early later);
  read = λ fault. absurd (other fault);
  opened = λ fault. absurd (opening fault);
  stand = λ before later fault unopened. absurd (late before);
}

starved_left : (maps : Bool) (out : List ℕ) (files files' : List ℕ → Option File) → IsLeft NoMemory maps out files files'
starved_left maps out files files' =
    late_left NoMemory maps out files files' (λ before. before.room refl) (not_after NoMemory (λ x. cc) (λ error x. cc))
    (λ fault. let x = fault.1 in cc) (λ fault. let x = fault.1 in cc)

named_leaves : (which : Which) (mode : Mode) (file : Option File) (c : Command) (e : Ending) (files files' : List ℕ → Option File)
    → (which ≡ RunMap → ⊥) → NamedMapRefused which mode file e → AllStand files files'
    → IsLeft e (names_maps c) c.outfile files files'
named_leaves RunMap mode file c e files files' apart refused stand = absurd (apart refl)
named_leaves which mode file c e files files' apart (inl (none, is)) stand =
    early_left e _ (names_maps c) c.outfile files files' is refl stand
named_leaves which mode file c e files files' apart (inr (error, why, is)) stand =
    early_left e _ (names_maps c) c.outfile files files' is refl stand

call_leaves : (call : SiteCall) (maps : Bool) (out : List ℕ) (files files' : List ℕ → Option File) → IsRunCall call
    → (earlier : Option Stop) → IsLeft (SiteFault call earlier) maps out files files'
call_leaves ImageOpen maps out files files' own earlier = absurd own
call_leaves MapRead maps out files files' own earlier = absurd own
call_leaves call maps out files files' own earlier =
    late_left (SiteFault call earlier) maps out files files' (λ before. before.call call earlier refl)
    (not_after (SiteFault call earlier) (λ x. cc) (λ error x. cc)) (λ fault. let x = fault.1 in cc)
    (λ fault. let x = fault.1 in cc)

barrier_leaves : (c : Command) (call : SiteCall) (files files' : List ℕ → Option File) → IsNameIn call (barrier_of c.mapfile)
    → IsLeft (SiteFault call None) (names_maps c) c.outfile files files'
barrier_leaves c call files files' named =
    of_barrier (λ (v : SiteCall). IsLeft (SiteFault v None) (names_maps c) c.outfile files files')
    (call_leaves MapSettle (names_maps c) c.outfile files files' tt None)
    (call_leaves ImageSync (names_maps c) c.outfile files files' tt None) call c.mapfile named

end_leaves : (end : RunEnd) (maps : Bool) (out : List ℕ) (files files' : List ℕ → Option File) → IsLate (answer_of end)
    → IsLeft (answer_of end) maps out files files'
end_leaves Finished maps out files files' late =
    late_left Done maps out files files' (λ before. before.done refl) (not_after Done (λ x. cc) (λ error x. cc))
    (λ fault. let x = fault.1 in cc) (λ fault. let x = fault.1 in cc)
end_leaves (Stopped InputLost) maps out files files' late =
    late_left SourceLost maps out files files' (λ before. before.lost refl) (not_after SourceLost (λ x. cc) (λ error x. cc))
    (λ fault. let x = fault.1 in cc) (λ fault. let x = fault.1 in cc)
end_leaves (Stopped (Site call)) maps out files files' late =
    call_leaves call maps out files files' (late.names call None refl) None
end_leaves (Stopped (Limited limit)) maps out files files' late =
    late_left (LimitMet limit) maps out files files' (λ before. before.within limit refl)
    (not_after (LimitMet limit) (λ x. cc) (λ error x. cc)) (λ fault. let x = fault.1 in cc)
    (λ fault. let x = fault.1 in cc)
end_leaves (Stopped NoRoom) maps out files files' late = starved_left maps out files files'
end_leaves (SaveFailed call earlier) maps out files files' late =
    call_leaves call maps out files files' (late.names call earlier refl) earlier

run_leaves : (e : Ending) (maps : Bool) (out : List ℕ) (files files' : List ℕ → Option File) → EndsRun e → IsLate e
    → IsLeft e maps out files files'
run_leaves e maps out files files' (end, is) late =
    subst (λ (v : Ending). IsLeft v maps out files files') (sym is)
    (end_leaves end maps out files files' (let L : Ending → Type 0 = IsLate in subst L is late))

-- an option names a map
or_true : (b : Bool) → (b || true) ≡ true
or_true true = refl
or_true false = refl

names_domain : (c : Command) (name : List ℕ) → c.domain_map ≡ Some name → names_maps c ≡ true
names_domain c name is = ap (λ (n : Option (List ℕ)). is_some n || is_some c.test_map) is

names_test : (c : Command) (name : List ℕ) → c.test_map ≡ Some name → names_maps c ≡ true
names_test c name is = ap (λ (n : Option (List ℕ)). is_some c.domain_map || is_some n) is ∙ or_true (is_some c.domain_map)

-- every file is as it was, but that an absent output was made, as the answer says
pub leaves_steps : (c : Command) (here : Folder) (end : ℕ) (run : Ending → Deeds → Type 0)
    → ((e : Ending) (d : Deeds) → run e d → EndsRun e) → ((e : Ending) (d : Deeds) → run e d → IsLate e)
    → Holds rescue_faults (rescue_rows c (found_in c here.files) end) run (Leaves c here here)
leaves_steps c here end run ends late =
    let found : Found = found_in c here.files in
    let now : Folder = opened here c.outfile true (here.files c.outfile) in
    let made : OutputMade c.outfile here.files now.files = made_there here c.outfile (here.files c.outfile) refl in
    let Made : (List ℕ → Option File) → Type 0 = λ files. OutputMade c.outfile here.files files in
    let P : Ending → Deeds → Type 0 = Leaves c here here in
    let Q : Ending → Deeds → Type 0 = Leaves c here now in
    let last : Holds rescue_faults (Look (PlacesRefused c.options end) ∷ []) run Q = (
      (λ e d r idle.
          let is = r.1 in
          subst (λ (v : Ending). Q v d) (sym is)
          (made_left (Usage PlaceTooLarge) (names_maps c) c.outfile here.files _ (inl refl) (λ fault. let x = fault.1 in cc)
          (subst Made (sym (none_done now d.gain.calls idle.gain.calls)) made))),
      λ placed e d r. run_leaves e (names_maps c) c.outfile here.files _ (ends e d r) (late e d r),
    ) in
    let refusal : Holds rescue_faults (after_mapfile c found end) run Q = (
      (λ e d r idle.
          let is = r.3 in
          subst (λ (v : Ending). Q v d) (sym is)
          (made_left (MapRefused RunMap r.0) (names_maps c) c.outfile here.files _ (inr (r.0, refl))
          (λ fault. let x = fault.1 in cc) (subst Made (sym (none_done now d.gain.calls idle.gain.calls)) made))),
      λ passed. last,
    ) in
    let load : Holds rescue_faults (Read c.mapfile found.mapfile ∷ after_mapfile c found end) run Q = (
      (λ no. ((λ d idle. starved_left (names_maps c) c.outfile here.files _), λ absent. refusal)),
      λ n is. (
        (λ load d begins broke only.
            read_left (names_maps c) c.outfile here.files _
            (inl (subst Made (sym (broken_read now n found.mapfile load d.gain.calls begins broke)) made))),
        (λ load d begins all only. starved_left (names_maps c) c.outfile here.files _),
        λ load loaded.
            holds_more rescue_faults (after_mapfile c found end) run Q (λ e d. Q e (after_calls load d))
            (after_read c here now n found.mapfile load loaded.begins) refusal,
      ),
    ) in
    let rest : Holds rescue_faults (after_test c found end) run P = (
      (λ e d r idle.
          named_leaves TestMap _ found.test c e here.files _ (λ is. cc) r.1
          (all_stand here.files _ (none_done here d.gain.calls idle.gain.calls))),
      λ test. (
        (λ d opens gain.
            early_left SourceFault _ (names_maps c) c.outfile here.files _ refl refl
            (all_stand here.files _ (none_done here d.gain.calls gain.calls))),
        (
          (λ call d broke only.
              let is : call ≡ ImageOpen = open_call call c.outfile [] d.gain.calls broke in
              subst (λ (v : SiteCall). P (SiteFault v None) d) (sym is)
              (opened_left (names_maps c) c.outfile here.files _
              (made_or_not here c.outfile d.gain.calls
              (subst (λ (v : SiteCall). BrokeAt v (image_open c.outfile true ∷ []) [] d.gain.calls) is broke)))),
          (
            (λ e d r idle.
                early_left e _ (names_maps c) c.outfile here.files _ r.2 refl
                (all_stand here.files _
                (none_done now d.gain.calls idle.gain.calls ∙ other_stands here c.outfile (here.files c.outfile) r.1))),
            λ output. (
              (λ call d broke only. barrier_leaves c call here.files _ (broke_named call (barrier_of c.mapfile) [] d.gain.calls broke)),
              holds_more rescue_faults (Read c.mapfile found.mapfile ∷ after_mapfile c found end) run Q
                  (λ e d. Q e (after_calls (barrier_of c.mapfile) d)) (after_barrier c here now c.mapfile) load,
            ),
          ),
        ),
      ),
    ) in
    let maps : Holds rescue_faults (after_domain c found end) run P = (
      (λ e d r idle.
          named_leaves DomainMap _ found.domain c e here.files _ (λ is. cc) r.1
          (all_stand here.files _ (none_done here d.gain.calls idle.gain.calls))),
      λ domain. (
        (λ no. ((λ d idle. starved_left (names_maps c) c.outfile here.files _), λ absent. rest)),
        λ n is. (
          (λ load d begins broke only.
              read_left (names_maps c) c.outfile here.files _
              (inr (names_test c n is, all_stand here.files _ (broken_read here n found.test load d.gain.calls begins broke)))),
          (λ load d begins all only. starved_left (names_maps c) c.outfile here.files _),
          λ load loaded.
              holds_more rescue_faults (after_test c found end) run P (λ e d. P e (after_calls load d))
              (after_read c here here n found.test load loaded.begins) rest,
        ),
      ),
    ) in (
      (λ d idle. starved_left (names_maps c) c.outfile here.files _),
      (
        (λ e d r idle.
            early_left e _ (names_maps c) c.outfile here.files _ r.3 refl
            (all_stand here.files _ (none_done here d.gain.calls idle.gain.calls))),
        λ apart. (
          (λ no. ((λ d idle. starved_left (names_maps c) c.outfile here.files _), λ absent. maps)),
          λ n is. (
            (λ load d begins broke only.
                read_left (names_maps c) c.outfile here.files _
                (inr (names_domain c n is, all_stand here.files _ (broken_read here n found.domain load d.gain.calls begins broke)))),
            (λ load d begins all only. starved_left (names_maps c) c.outfile here.files _),
            λ load loaded.
                holds_more rescue_faults (after_domain c found end) run P (λ e d. P e (after_calls load d))
                (after_read c here here n found.domain load loaded.begins) maps,
          ),
        ),
      ),
    )

pub files_are_left : FilesAreLeft
files_are_left t c d asks tells =
    let p : TaskDone (Rescue c) t = d.does.asked_for (Rescue c) asks in
    let o : Findings = with_did p.outside p.did in
    let here : Folder = after t.before.site.start t.before.site.calls in
    let found : Found = found_in c (files_of t) in
    let run : Ending → Deeds → Type 0 = Rescues (asked_of c t o) found.mapfile o.lines in
    let works : Works rescue_faults (rescue_rows c found o.end) run t.answer o.did =
    subst (λ (f : Found). Works rescue_faults (rescue_rows c f o.end) (Rescues (asked_of c t o) f.mapfile o.lines) t.answer
    o.did)
    (p.agrees.agrees.found tells) p.work in
    let now : files_in t.after.site ≡ (after here o.did.gain.calls).files =
    ap (λ (s : Folder). (after s t.after.site.calls).files) (d.does.keeps.site.start tells)
    ∙ ap (λ (cs : List Entry). (after t.before.site.start cs).files) (p.agrees.agrees.calls tells)
    ∙ ap (λ (f : Folder). f.files) (after-append t.before.site.start t.before.site.calls o.did.gain.calls) in
    subst (λ (fs : List ℕ → Option File). IsLeft t.answer (names_maps c) c.outfile (files_of t) fs) (sym now)
    (holds rescue_faults (rescue_rows c found o.end) run (Leaves c here here)
    (leaves_steps c here o.end run (rescue_ends (asked_of c t o) found.mapfile o.lines)
    (rescue_late (asked_of c t o) found.mapfile o.lines)) t.answer o.did works)
