-- What a task does that did nothing: memory ran out, or two files have one name.
use Rattle.std.proofs.Common.{◌≡◌, ◌⊎◌, ℕ, true, false, List, [], length, Some, refl, sym, inl, inr, subst, append-nil}
use Rattle.std.proofs.lemmas.List.Elements.{All-nil}
use Rattle.crash_site.specs.SiteState.{files_in}
use Rattle.rescue_rules.specs.Held.{Held}
use Rattle.rescue_rules.specs.StopsBy.{saves_of}
use Rattle.rescue_rules.specs.declared.stop.Stop.TheVariants.{NoMemory as NoRoom}
use Rattle.rescue_rules.specs.declared.stop.RunEnd.TheVariants.{Stopped as RunStopped}
use Rattle.faulty_source.specs.Journal.{IsFrom}
use Rattle.program_promise.specs.Work.{IsIdle, Works}
use Rattle.program_promise.specs.Parts.{only_calls}
use Rattle.ddrescue_words.specs.Command.{Command, Task, Rescue, Fill, Generate, Sample}
use Rattle.ddrescue_words.specs.Asking.{sample_command}
use Rattle.program_promise.specs.World.{WorldState}
use Rattle.program_promise.specs.Promise.{DoneFor}
use Rattle.task_files.specs.declared.ending.Ending.{Ending}
use Rattle.task_files.specs.declared.ending.Ending.TheVariants.{NoMemory}
use Rattle.task_files.specs.Answers.{files_of_task}
use Rattle.task_files.specs.Asked.{Maps, no_maps}
use Rattle.task_files.specs.Maps.{Found, AreAskedFor, found_in}
use Rattle.task_files.specs.Refusals.{NamesRefused}
use Rattle.task_files.specs.Work.{rescue_faults}
use Rattle.ddrescue_cli.specs.Told.{calls_of}
use Rattle.ddrescue_cli.specs.Tasks.{TaskOutside, AgreesOver, TaskAgrees, TaskIsSilent, TaskRuns, TaskStops, asked_by, task_rows}
use Rattle.ddrescue_cli.specs.Ddrescue.{rescue_program}
use Rattle.ddrescue_cli.proofs.GoesLemmas.{nothing_stops_by}
use Rattle.task_files.proofs.ListingLemmas.{one_listing}
use Rattle.task_files.proofs.MapsLemmas.{maps_for}
use Rattle.task_files.proofs.OpenedLemmas.{none_seen}
use Rattle.task_sweeps.proofs.SweepMaps.{sweep_maps_for}

pub nothing : IsIdle (only_calls [])
nothing = record { opens = refl; gain = record { calls = refl; reads = refl; times = refl } }

-- what answers a task before anything was done: the names are refused, or memory ran out
abbrev pub RefusesTask : Task → Ending → Type 0
RefusesTask (Rescue c) e = NamesRefused c e ⊎ (e ≡ NoMemory)
RefusesTask (Fill types c) e = NamesRefused c e ⊎ (e ≡ NoMemory)
RefusesTask (Generate c) e = NamesRefused c e ⊎ (e ≡ NoMemory)
RefusesTask (Sample kib quiet) e = e ≡ NoMemory

pub starves_task : (task : Task) → RefusesTask task NoMemory
starves_task (Sample kib quiet) = refl
starves_task _ = inr refl

-- ---- what was outside then

abbrev pub still_found : Task → WorldState → Found
still_found (Rescue c) w = found_in c (files_in w.site)
still_found (Fill types c) w = found_in c (files_in w.site)
still_found (Generate c) w = found_in c (files_in w.site)
still_found (Sample kib quiet) w = found_in sample_command (files_in w.site)

abbrev pub still_maps : Task → Found → Maps
still_maps (Rescue c) found = (maps_for c found).maps
still_maps (Fill types c) found = (sweep_maps_for c found).maps
still_maps (Generate c) found = (sweep_maps_for c found).maps
still_maps (Sample kib quiet) found = no_maps

abbrev pub outside_over : Found → Maps → WorldState → TaskOutside
outside_over found maps w = record {
  found = found;
  end = length w.source.bytes;
  maps = maps;
  top = (one_listing found.mapfile).end;
  lines = [];
  buffer = [];
  pieces = [];
  swept = RunStopped NoRoom;
}

abbrev pub still_outside : Task → WorldState → TaskOutside
still_outside task w = outside_over (still_found task w) (still_maps task (still_found task w)) w

-- what is told agrees with it
still_over : (c : Command) (AreMaps : Found → Maps → Type 0) (maps : Maps) (w : WorldState) → AreAskedFor c maps
    → AreMaps (found_in c (files_in w.site)) maps
    → AgreesOver c AreMaps (outside_over (found_in c (files_in w.site)) maps w) (only_calls []) w w
still_over c AreMaps maps w asked are = record {
  agrees = record {
    opens = refl;
    found = λ tells. refl;
    calls = λ tells. sym (append-nil w.site.calls);
    end = λ tells. refl;
    reads = λ tells. record {
      raw = [];
      journal = sym (append-nil w.source.journal);
      seen_are = none_seen maps.test;
      right = All-nil (IsFrom w.source.bytes);
    };
    times = λ tells. sym (append-nil w.clock.readings);
  };
  asked_maps = asked;
  are_maps = are;
  tops = λ first end lists. ((one_listing (found_in c (files_in w.site)).mapfile).only first end lists).end_is;
}

pub still_agrees : (task : Task) (w : WorldState) → TaskAgrees task (still_outside task w) (only_calls []) w w
still_agrees (Rescue c) w =
    let m = maps_for c (found_in c (files_in w.site)) in still_over c _ m.maps w m.asked m.are
still_agrees (Fill types c) w =
    let m = sweep_maps_for c (found_in c (files_in w.site)) in still_over c _ m.maps w m.asked m.are
still_agrees (Generate c) w =
    let m = sweep_maps_for c (found_in c (files_in w.site)) in still_over c _ m.maps w m.asked m.are
still_agrees (Sample kib quiet) w = (refl, refl)

-- ---- its work

pub still_works : (task : Task) (line : List ℕ) (o : TaskOutside) (e : Ending) → RefusesTask task e
    → Works rescue_faults (task_rows task o) (TaskRuns task line o) e (only_calls [])
still_works (Rescue c) line o e (inl refused) = inr (inl (refused, nothing))
still_works (Rescue c) line o e (inr is) = inl (is, nothing)
still_works (Fill types c) line o e (inl refused) = inr (inl (refused, nothing))
still_works (Fill types c) line o e (inr is) = inl (is, nothing)
still_works (Generate c) line o e (inl refused) = inr (inl (refused, nothing))
still_works (Generate c) line o e (inr is) = inl (is, nothing)
still_works (Sample kib quiet) line o e is = inl (is, nothing)

pub still_silent : (task : Task) (e : Ending) (w : WorldState) → TaskIsSilent task (still_outside task w) e (only_calls [])
still_silent (Sample kib quiet) e w = λ starved. refl
still_silent _ e w = λ none. (refl, refl)

pub still_stops : (task : Task) (line : List ℕ) (w : WorldState)
    → TaskStops task line (still_outside task w) (only_calls []) w.site
still_stops (Rescue c) line w = λ on.
    let s = asked_by c line (still_outside (Rescue c) w) in
    nothing_stops_by (λ began state. saves_of s began state (only_calls []).gain)
    (λ old began state n map image. Held s [] old map image)
    true (calls_of w.site) s (only_calls []).gain nothing.gain
still_stops (Fill types c) line w = nothing_stops_by _ _ true (calls_of w.site) _ (only_calls []).gain nothing.gain
still_stops (Generate c) line w =
    (All-nil _, nothing_stops_by _ _ false (calls_of w.site) _ (only_calls []).gain nothing.gain)
still_stops (Sample kib quiet) line w = tt

-- what is done so
abbrev pub still_done : (task : Task) (line : List ℕ) (e : Ending) (w : WorldState) → RefusesTask task e
    → DoneFor rescue_program task line e w w
still_done task line e w refused = record {
  outside = still_outside task w;
  did = only_calls [];
  agrees = still_agrees task w;
  work = still_works task line (still_outside task w) e refused;
  leaves = record { silent = still_silent task e w; stops = λ tells. still_stops task line w };
}

-- by the names of its files
pub over_refuses : (task : Task) (c : Command) (e : Ending) → files_of_task task ≡ Some c → NamesRefused c e ⊎ (e ≡ NoMemory)
    → RefusesTask task e
over_refuses (Rescue x) c e over refused =
    let same : c ≡ x = cc in subst (λ (y : Command). NamesRefused y e ⊎ (e ≡ NoMemory)) same refused
over_refuses (Fill types x) c e over refused =
    let same : c ≡ x = cc in subst (λ (y : Command). NamesRefused y e ⊎ (e ≡ NoMemory)) same refused
over_refuses (Generate x) c e over refused =
    let same : c ≡ x = cc in subst (λ (y : Command). NamesRefused y e ⊎ (e ≡ NoMemory)) same refused
over_refuses (Sample kib quiet) c e over refused = absurd (cc)
