-- All files are left as they were, since maps are read and nothing else is called.
use Rattle.std.proofs.Common.{◌≡◌, ℕ, ◌-◌, ◌≤◌, Bool, List, [], ◌∷◌, ◌++◌, length, map, Option, Some, None, sym, ap, subst, ◌∙◌, inl, inr, arith}
use Rattle.mapfile_text.specs.declared.read.Mode.{Mode}
use Rattle.mapfile_text.specs.declared.read.Mode.TheVariants.{Tight}
use Rattle.crash_site.specs.declared.site.SiteCall.TheVariants.{MapRead}
use Rattle.crash_site.specs.Files.{File}
use Rattle.crash_site.specs.Folder.{Folder, after}
use Rattle.crash_site.specs.Calls.{Entry, Done as Returned}
use Rattle.crash_site.specs.Disk.{Disk}
use Rattle.crash_site.specs.Left.{MayBeLeft, MayShow}
use Rattle.crash_site.specs.SiteState.{SiteState}
use Rattle.crash_site.proofs.LawLemmas.{after-append, left_past}
use Rattle.mapfile_resume.specs.Named.{map_mode}
use Rattle.mapfile_save.specs.SaveStops.{CouldBefore, disk_of}
use Rattle.program_promise.specs.Work.{Deeds, Take, WorkStep, Works}
use Rattle.program_promise.proofs.FrontLemmas.{load_reads}
use Rattle.program_promise.proofs.ReadLemmas.{AreReads, maps_are, maps_broke, maps_then, reads_at, reads_leave, same_reads}
use Rattle.program_promise.specs.World.{WorldState, Told}
use Rattle.program_promise.specs.Promise.{Says, Nothing, Message}
use Rattle.ddrescueshow_words.specs.Command.{Command}
use Rattle.ddrescueshow_cli.specs.declared.ending.Which.{Which}
use Rattle.ddrescueshow_cli.specs.declared.ending.Which.TheVariants.{RunMap, DomainMap}
use Rattle.ddrescueshow_cli.specs.declared.ending.ShowEnding.{ShowEnding}
use Rattle.ddrescueshow_cli.specs.Work.{Found, PutsAll, ShowWorks, map_rows, show_faults}
use Rattle.ddrescueshow_cli.specs.Ddrescueshow.{show_program}
use Rattle.ddrescueshow_cli.specs.Laws.{FilesStand, LeavesAllFiles}

none_read : (calls : List Entry) → calls ≡ [] → AreReads calls
none_read calls is = same_reads calls [] is tt

read_reads : (which : Which) (mode : Mode) (name : Option (List ℕ)) (file : Option File)
    (more : List (WorkStep ShowEnding)) (e : ShowEnding) (d : Deeds)
    → ((x : Deeds) → Works show_faults more PutsAll e x → AreReads x.gain.calls)
    → Works show_faults (map_rows which mode name file ++ more) PutsAll e d → AreReads d.gain.calls
read_reads which mode None file more e d then (inl w) = none_read d.gain.calls w.1.gain.calls
read_reads which mode None file more e d then (inr (none, inl w)) = none_read d.gain.calls w.1.gain.calls
read_reads which mode None file more e d then (inr (none, inr w)) = then d w.1
read_reads which mode (Some name) file more e d then (inl (load, is, begins, broke, only)) =
    maps_broke MapRead load [] d.gain.calls (load_reads name file load begins) tt broke
read_reads which mode (Some name) file more e d then (inr (inl (load, is, begins, all, only))) =
    same_reads d.gain.calls (map Returned load) all (maps_are load (load_reads name file load begins))
read_reads which mode (Some name) file more e d then (inr (inr (load, rest, is, split, inl w))) =
    maps_then load rest d.gain.calls split (load_reads name file load is.begins) (none_read rest w.1.gain.calls)
read_reads which mode (Some name) file more e d then (inr (inr (load, rest, is, split, inr w))) =
    maps_then load rest d.gain.calls split (load_reads name file load is.begins) (then _ w.1)

last_reads : (e : ShowEnding) (d : Deeds) → Works show_faults (Take ∷ []) PutsAll e d → AreReads d.gain.calls
last_reads e d (inl w) = none_read d.gain.calls w.1.gain.calls
last_reads e d (inr w) = none_read d.gain.calls w.1.gain.calls

work_reads : (c : Command) (found : Found) (e : ShowEnding) (d : Deeds) → ShowWorks c found e d → AreReads d.gain.calls
work_reads c found e d (inl w) = none_read d.gain.calls w.1.gain.calls
work_reads c found e d (inr (inl w)) = none_read d.gain.calls w.1.gain.calls
work_reads c found e d (inr (inr (fits, w))) =
    read_reads RunMap Tight (Some c.mapfile) found.mapfile
    (map_rows DomainMap (map_mode c.options.loose) c.domain_map found.domain ++ Take ∷ []) e d
    (λ x v. read_reads DomainMap (map_mode c.options.loose) c.domain_map found.domain (Take ∷ []) e x (last_reads e) v) w

-- a stop after calls, within reads that follow them, finds what a stop before these could
stop_finds : (old : SiteState) (calls all : List Entry) (k : ℕ) (files : List ℕ → Option File) (name : List ℕ)
    → AreReads calls → all ≡ old.calls ++ calls → length old.calls ≤ k → MayBeLeft old.start all k files
    → CouldBefore old name (files name)
stop_finds old calls all k files name reads is past left =
    let j : ℕ = k - length old.calls in
    subst (λ (d : Disk). MayShow (d.shows name) (files name)) (reads_at (disk_of old) calls j reads)
    (left_past old.start old.calls calls j k files (omega (arith, past))
    (subst (λ (es : List Entry). MayBeLeft old.start es k files) is left) name)

all_left : (old new : SiteState) (calls : List Entry) → AreReads calls → new.start ≡ old.start
    → new.calls ≡ old.calls ++ calls → LeavesAllFiles old new
all_left old new calls reads same grew = record {
  reads = λ name. ap (λ (f : Folder). f.files name)
      (ap (λ s. after s new.calls) same
      ∙ ap (after old.start) grew
      ∙ after-append old.start old.calls calls
      ∙ reads_leave (after old.start old.calls) calls reads);
  stops = λ k files name past within left.
      stop_finds old calls new.calls k files name reads grew past
      (subst (λ (s : Folder). MayBeLeft s new.calls k files) same left);
}

-- what is said changes no file
said_stands : (terminal : Bool) (t : Told ShowEnding) (between : WorldState) → Says (show_program terminal) t between
    → t.after.site ≡ between.site
said_stands terminal t between (Nothing why is) = ap (λ (w : WorldState). w.site) is
said_stands terminal t between (Message loud quiet is puts schedule) = ap (λ (w : WorldState). w.site) is

pub all_files_stand : FilesStand
all_files_stand terminal t c d asks tells =
    let done = d.asked_for c asks in
    subst (λ (s : SiteState). LeavesAllFiles t.before.site s) (sym (said_stands terminal t d.between d.says))
    (all_left t.before.site d.between.site done.did.gain.calls
    (work_reads c done.outside t.answer done.did done.work) (d.keeps.keeps.start tells) (done.agrees.calls tells))
