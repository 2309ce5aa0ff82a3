-- Work that only reads maps changes no file.
use Rattle.std.proofs.Common.{◌≡◌, List, [], ◌∷◌, ◌++◌, map, Some, None, ap, ◌∙◌, inl, inr}
use Rattle.std.specs.Prelude.{⊤}
use Rattle.crash_site.specs.declared.site.SiteCall.TheVariants.{MapRead}
use Rattle.crash_site.specs.Calls.{Entry, Done as Returned}
use Rattle.crash_site.specs.Folder.{Folder, after}
use Rattle.crash_site.specs.SiteState.{SiteState, files_in}
use Rattle.crash_site.proofs.LawLemmas.{after-append}
use Rattle.rescue_rules.specs.Work.{AreMapReads}
use Rattle.program_promise.specs.Work.{Deeds, WorkStep, Take, Look, Open, Make, Read, Works, with_calls}
use Rattle.program_promise.proofs.FrontLemmas.{load_reads}
use Rattle.program_promise.proofs.ReadLemmas.{AreReads, same_reads, maps_are, maps_then, maps_broke, reads_leave}
use Rattle.ddrescuelog_cli.specs.declared.ending.LogEnding.{LogEnding}
use Rattle.program_promise.specs.Parts.{only_calls, WentThrough, StoppedIn}
use Rattle.ddrescuelog_cli.specs.Modes.{log_faults}

-- ---- rows

-- rows that make no other call
abbrev pub OnlyRead : List (WorkStep LogEnding) → Type 0
OnlyRead [] = ⊤
OnlyRead (Take ∷ more) = OnlyRead more
OnlyRead (Look refuses ∷ more) = OnlyRead more
OnlyRead (Open name ∷ more) = ⊥
OnlyRead (Make calls ∷ more) = AreMapReads calls × OnlyRead more
OnlyRead (Read name file ∷ more) = OnlyRead more

-- so the calls are reads, if those of the run after the rows are
pub work_reads : (rows : List (WorkStep LogEnding)) (run : LogEnding → Deeds → Type 0) → OnlyRead rows
    → ((e : LogEnding) (d : Deeds) → run e d → AreReads d.gain.calls) → (e : LogEnding) (d : Deeds)
    → Works log_faults rows run e d → AreReads d.gain.calls
work_reads [] run only last e d w = last e d w
work_reads (Take ∷ rows) run only last e d (inl w) = same_reads d.gain.calls [] w.1.gain.calls tt
work_reads (Take ∷ rows) run only last e d (inr w) = work_reads rows run only last e d w
work_reads (Look refuses ∷ rows) run only last e d (inl w) = same_reads d.gain.calls [] w.1.gain.calls tt
work_reads (Look refuses ∷ rows) run only last e d (inr w) = work_reads rows run only last e d w.1
work_reads (Open name ∷ rows) run only last e d w = absurd only
work_reads (Make calls ∷ rows) run only last e d (inl w) = maps_broke w.0 calls [] d.gain.calls only.0 tt w.2
work_reads (Make calls ∷ rows) run only last e d (inr w) =
    maps_then calls w.0 d.gain.calls w.1 only.0 (work_reads rows run only.1 last e (with_calls d w.0) w.2)
work_reads (Read None file ∷ rows) run only last e d (inl w) = same_reads d.gain.calls [] w.1.gain.calls tt
work_reads (Read None file ∷ rows) run only last e d (inr w) = work_reads rows run only last e d w.1
work_reads (Read (Some name) file ∷ rows) run only last e d (inl w) =
    maps_broke MapRead w.0 [] d.gain.calls (load_reads name file w.0 w.2) tt w.3
work_reads (Read (Some name) file ∷ rows) run only last e d (inr (inl w)) =
    same_reads d.gain.calls (map Returned w.0) w.3 (maps_are w.0 (load_reads name file w.0 w.2))
work_reads (Read (Some name) file ∷ rows) run only last e d (inr (inr w)) =
    maps_then w.0 w.1 d.gain.calls w.3 (load_reads name file w.0 w.2.begins)
    (work_reads rows run only last e (with_calls d w.1) w.4)

pub stopped_reads : (rows : List (WorkStep LogEnding)) (e : LogEnding) (calls : List Entry) → OnlyRead rows
    → StoppedIn log_faults rows e calls → AreReads calls
stopped_reads rows e calls only stopped =
    work_reads rows (λ e d. ⊥) only (λ e d never. absurd never) e (only_calls calls) stopped

pub through_reads : (rows : List (WorkStep LogEnding)) (calls : List Entry) → OnlyRead rows → WentThrough rows calls
    → AreReads calls
through_reads [] calls only t = same_reads calls [] t tt
through_reads (Take ∷ rows) calls only t = through_reads rows calls only t
through_reads (Look refuses ∷ rows) calls only t = through_reads rows calls only t.1
through_reads (Open name ∷ rows) calls only t = absurd t
through_reads (Make made ∷ rows) calls only t =
    maps_then made t.0 calls t.1 only.0 (through_reads rows t.0 only.1 t.2)
through_reads (Read None file ∷ rows) calls only t = through_reads rows calls only t.1
through_reads (Read (Some name) file ∷ rows) calls only t =
    maps_then t.0 t.1 calls t.3 (load_reads name file t.0 t.2.begins) (through_reads rows t.1 only t.4)

-- such calls leave the files as they read
pub files_stand : (old new : SiteState) (calls : List Entry) → new.start ≡ old.start → new.calls ≡ old.calls ++ calls
    → AreReads calls → files_in new ≡ files_in old
files_stand old new calls start grew reads =
    ap (λ (s : Folder). (after s new.calls).files) start
    ∙ ap (λ (c : List Entry). (after old.start c).files) grew
    ∙ ap (λ (d : Folder). d.files)
    (after-append old.start old.calls calls ∙ reads_leave (after old.start old.calls) calls reads)
