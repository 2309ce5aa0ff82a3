-- A run whose last save shows anything of the map that it has come to keeps its promise at whatever moment it is stopped.
use Rattle.std.proofs.Common.{◌≡◌, ℕ, suc, ◌+◌, true, false, List, [], ◌∷◌, ◌++◌, take, Option, Some, None, refl, sym, ap, subst, ◌∙◌}
use Rattle.std.specs.List.{count_by}
use Rattle.block_list.specs.declared.status.Status.{Status}
use Rattle.faulty_source.specs.Journal.{Reading}
use Rattle.crash_site.specs.Files.{File, bytes_of}
use Rattle.crash_site.specs.FileAnswers.{kind_of}
use Rattle.crash_site.specs.Calls.{Call, Entry}
use Rattle.crash_site.specs.Disk.{Disk, disk_after}
use Rattle.crash_site.specs.Left.{Leaves, until}
use Rattle.rescue_rules.specs.Setting.{Setting, IsSensible}
use Rattle.rescue_rules.specs.Machine.{Machine}
use Rattle.rescue_rules.specs.Step.{Event}
use Rattle.rescue_rules.specs.Moves.{moves, state_after, IsRun}
use Rattle.rescue_rules.specs.Events.{reads_of}
use Rattle.rescue_rules.specs.Snapshots.{Snapshot, last_snapshot}
use Rattle.rescue_rules.specs.RunCalls.{run_calls, closing_calls}
use Rattle.rescue_rules.specs.RunStops.{ComesTo, Rests}
use Rattle.rescue_rules.specs.Stops.{is_settle, is_write}
use Rattle.rescue_rules.specs.StopsBy.{is_publish, IsSave}
use Rattle.rescue_rules.specs.Held.{Held}
use Rattle.rescue_rules.specs.Laws.{AreThreeNames}
use Rattle.rescue_rules.specs.MachineLaws.{IsInOrder}
use Rattle.rescue_rules.specs.Preparation.{AreFinishedAlike}
use Rattle.rescue_rules.specs.Deeds.{Deed, doing_calls, saves_in, image_after}
use Rattle.rescue_rules.specs.RunDeeds.{run_deeds}
use Rattle.rescue_rules.proofs.CutLemmas.{Cut}
use Rattle.rescue_rules.proofs.SaveStages.{Doing}
use Rattle.rescue_rules.proofs.DeedStages.{Kept, deeds_stop_safely}
use Rattle.rescue_rules.proofs.KeepLemmas.{saved_map_is, SavesOn, KeepsMaps, Promise, Free, keeps_up}
use Rattle.rescue_rules.proofs.RunDeedLemmas.{calls_alike, Holding, Writable, run_outlasts, run_first, run_keeps_up, last_map}
use Rattle.rescue_rules.proofs.RunStopLemmas.{comes_cut}

-- what a last save promises, it promises by its map alone
saves_by : (promise : ℕ → List Status → List ℕ → Type 0) (free : ℕ → List Status → ℕ → Type 0) (n : ℕ)
    (map : List Status) (image : List ℕ) (save : Option Snapshot) (next next' : ℕ → List Status → Type 0)
    → ((k : ℕ) (t : List Status) → next k t → next' k t) → SavesOn promise free n map image save next
    → SavesOn promise free n map image save next'
saves_by promise free n map image None next next' go h = go n map h
saves_by promise free n map image (Some p) next next' go h = (h.0, go (suc n) p.map h.1)

keeps_last : (promise : ℕ → List Status → List ℕ → Type 0) (free : ℕ → List Status → ℕ → Type 0) (n : ℕ)
    (map : List Status) (image : List ℕ) (ds : List Deed) (p q : Snapshot) → q.map ≡ p.map
    → KeepsMaps promise free n map image ds p → KeepsMaps promise free n map image ds q
keeps_last promise free n map image [] p q same h =
    subst (λ (t : List Status). promise (suc n) t image) (sym same) h
keeps_last promise free n map image (d ∷ ds) p q same h = (
  h.0,
  saves_by promise free n map (image_after image d.calls) d.save
      (λ k t. KeepsMaps promise free k t (image_after image d.calls) ds p)
      (λ k t. KeepsMaps promise free k t (image_after image d.calls) ds q)
      (λ k t keeps. keeps_last promise free k t (image_after image d.calls) ds p q same keeps) h.1,
)

-- such a run, its saves and its calls
abbrev pub saves_with : Setting → Machine → List Event → (last : Snapshot) → List Snapshot
saves_with s m es last = saves_in (run_deeds s m es) last

calls_with : (s : Setting) (m : Machine) (es : List Event) (last : Snapshot)
    → doing_calls s (run_deeds s m es) last ≡ run_calls s m es ++ closing_calls s last
calls_with s m es last = ap (λ (c : List Call). c ++ closing_calls s last) (calls_alike s (moves s m es))

-- what is found of it: a mapfile with its number, and what that one's map promises
pub record Holds (s : Setting) (began : List Status) (m : Machine) (es : List Event) (last : Snapshot) (d : Disk)
    (files : List ℕ → Option File) : Type 0 where
  pub number : ℕ
  pub statuses : List Status
  pub is_save : IsSave (d.reads.files s.names.map) began s.line (saves_with s m es last) number (files s.names.map)
      statuses
  pub held : Held s (reads_of es) (bytes_of (d.reads.files s.outfile)) statuses (bytes_of (files s.outfile))

pub last_holds : (s : Setting) (began : List Status) (m : Machine) (es : List Event) (last : Snapshot) (d : Disk)
    (calls : List Entry) (k : ℕ) (files : List ℕ → Option File) → IsSensible s → s.has_mapfile ≡ true
    → AreThreeNames s → IsInOrder s m → AreFinishedAlike began m.map → IsRun s m es
    → last.map ≡ (state_after s m es).map → Rests s d → ComesTo (run_calls s m es ++ closing_calls s last) calls
    → Leaves (disk_after d (until k calls)) files → Holds s began m es last d files
last_holds s began m es last d calls k files ok on three order alike run same rests comes leaves =
    let reads : List Reading = reads_of es in
    let start : List ℕ = bytes_of (d.reads.files s.outfile) in
    let deeds : List Deed = run_deeds s m es in
    let saves : List Snapshot = saves_with s m es last in
    let own : Snapshot = last_snapshot s (state_after s m es) in
    let a : Doing = record {
      s = s;
      mapfile = d.reads.files s.names.map;
      began = began;
      start = start;
      kind = kind_of (d.reads.files s.outfile) false;
      saves = saves;
    } in
    let H : ℕ → List Status → List ℕ → Type 0 = Holding s ok reads start in
    let W : ℕ → List Status → ℕ → Type 0 = Writable s ok reads start in
    let keeps : KeepsMaps H W 0 began start deeds last
    = keeps_last H W 0 began start deeds own last (same ∙ sym (last_map s (state_after s m es)))
    (run_keeps_up s ok reads start began m es refl order alike run) in
    let found : Kept (Promise H W began saves) a (count_by is_settle (take k calls))
    (count_by is_publish (take (k + 1) calls)) (count_by is_write (take (k + 1) calls)) files
    = deeds_stop_safely (Promise H W began saves) (Free H W began saves) a d
    (record { rests = rests; mapfile = refl; start = refl; kind = refl })
    (run_first s ok reads start began m es refl order alike run) deeds last calls k files on three
    (run_outlasts s ok reads start began saves) refl
    (keeps_up H W began saves deeds last 0 began start [] refl refl refl keeps)
    (subst (λ (l : List Call). Cut l calls) (sym (calls_with s m es last)) (comes_cut _ calls comes)) leaves in
    record {
      number = found.number;
      statuses = found.statuses;
      is_save = found.is_save;
      held = subst (λ (t : List Status). Held s reads start t (bytes_of (files s.outfile)))
          (saved_map_is (d.reads.files s.names.map) began s.line saves found.number (files s.names.map) found.statuses
          found.is_save)
          found.held;
    }
