-- What a sweep promises at whatever moment it is stopped.
use Rattle.std.specs.Prelude.{◌≡◌, ◌⊎◌, ℕ, zero, suc, ◌+◌, ◌<◌, ◌^◌, Bool, true, false, is_none, List, [], ◌∷◌, ◌++◌, length, map, slice_get, All, Option, Some, if◌then◌else◌}
use Rattle.block_list.specs.declared.status.Status.{Status}
use Rattle.block_list.specs.declared.status.Status.TheVariants.{Finished as Rescued}
use Rattle.block_list.specs.declared.types.TypeSet.{TypeSet}
use Rattle.block_list.specs.Map.{Has}
use Rattle.mapfile_text.specs.declared.state.MapState.{MapState}
use Rattle.crash_site.specs.Files.{File, bytes_of}
use Rattle.crash_site.specs.Calls.{Call, Entry, Done}
use Rattle.rescue_rules.specs.declared.stop.RunEnd.{RunEnd}
use Rattle.rescue_rules.specs.declared.stop.RunEnd.TheVariants.{Done as Finished, Stopped, SaveFailed}
use Rattle.rescue_rules.specs.Setting.{Setting, IsSensible, place}
use Rattle.rescue_rules.specs.Start.{Stands}
use Rattle.rescue_rules.specs.Snapshots.{Snapshot}
use Rattle.rescue_rules.specs.Work.{Gain, IsLoadOf}
use Rattle.rescue_rules.specs.Deeds.{saves_in}
use Rattle.rescue_rules.specs.Stops.{Before, files_before}
use Rattle.rescue_rules.specs.StopsBy.{StopsBy}
use Rattle.rescue_rules.specs.Laws.{AreThreeNames, AreTimes}
use Rattle.sweep_rules.specs.Sweep.{Sweeper, Sweep, Swept, filler, generator, after_piece, after_pieces, is_save_due, sweep_end, deeds_of}
use Rattle.sweep_rules.specs.SweepLaws.{AreGiven}
use Rattle.sweep_rules.specs.SweepWork.{Sweeps, sweep_begins, sweep_opening}

-- the pieces before the save with a number: none for the mapfile that was there, all for the last save
abbrev pub pieces_before : Sweeper → Sweep → List Swept → (number : ℕ) → List Swept
pieces_before w m [] number = []
pieces_before w m (e ∷ es) zero = []
pieces_before w m (e ∷ es) (suc n) = e ∷ pieces_before w (after_piece w m e) es (if is_save_due m e then n else suc n)

-- each of these pieces holds the buffer's front
abbrev pub AreFilled : Setting → (buffer : List ℕ) → (pieces : List Swept) → (image : List ℕ) → Type 0
AreFilled s buffer pieces image =
    All (λ e. (i : ℕ) → i < e.len → slice_get image (place s e.pos + i) ≡ slice_get buffer i) pieces

-- What the mapfile with a number promises in fill mode: its map is the one that the mapfile gave, and each piece that
-- came before that save holds the buffer's front.
pub record FillPromise (s : Setting) (buffer : List ℕ) (began : List Status) (before : List Swept) (map : List Status)
    (image : List ℕ) : Type 0 where
  pub same : map ≡ began
  pub filled : AreFilled s buffer before image

-- What a mapfile promises in generate mode: what its map calls finished was finished in the map that the sweep began
-- with, or has a byte in the output; and the output's old bytes stay.
pub record GeneratePromise (s : Setting) (old : List ℕ) (began map : List Status) (image : List ℕ) : Type 0 where
  pub held : (x : ℕ) → Has map Rescued x → Has began Rescued x ⊎ ((b : ℕ) × (slice_get image (place s x) ≡ Some b))
  pub stands : (y : ℕ) → y < length old → slice_get image y ≡ slice_get old y

-- a sweep is the last part of what was done, after the opening's calls and the mapfile's
pub record SweepsOver (s : Setting) (w : Sweeper) (b : Before) (statuses : List Status) (state : Option MapState)
    (g : Gain) : Type 0 where
  pub load : List Call
  pub loads : IsLoadOf s (files_before b) load
  pub stands : Stands (files_before b s.names.map) s.end statuses state
  pub rest : List Entry
  pub calls : g.calls ≡ map Done (sweep_opening s w.makes ++ load) ++ rest
  pub end : RunEnd
  pub sweeps : Sweeps s w statuses state (record g { calls = rest }) end

-- no piece was left, whatever became of the last save
abbrev pub has_swept_out : RunEnd → Bool
has_swept_out Finished = true
has_swept_out (Stopped stop) = false
has_swept_out (SaveFailed call earlier) = is_none earlier

-- what a sweep saves, over a map
abbrev pub sweep_saves : Sweeper → List Status → Option MapState → Gain → List Swept → RunEnd → List Snapshot
sweep_saves w statuses state g es end =
    saves_in (deeds_of w (sweep_begins w statuses state g) es)
    (sweep_end (has_swept_out end) (after_pieces w (sweep_begins w statuses state g) es))

-- law: a filling stops safely
abbrev pub FillsSafely : Type 0
FillsSafely = (b : Before) (s : Setting) (types : TypeSet) (buffer : List ℕ) (g : Gain) (statuses : List Status)
    (state : Option MapState) → IsSensible s → s.has_mapfile ≡ true → AreThreeNames s → s.end < 2 ^ 63
    → AreTimes g.times → length buffer ≡ s.cluster
    → (o : SweepsOver s (filler s types buffer) b statuses state g)
    → StopsBy (λ began shown. sweep_saves (filler s types buffer) began shown g o.sweeps.events o.end)
    (λ old began shown number map image. FillPromise s buffer began
    (pieces_before (filler s types buffer) (sweep_begins (filler s types buffer) began shown g) o.sweeps.events number)
    map image) true b s g.calls

-- law: a generating over an output that is there, which was given what that holds, stops safely, and changes nothing of
-- the output
abbrev pub GeneratesSafely : Type 0
GeneratesSafely = (b : Before) (s : Setting) (g : Gain) (statuses : List Status) (state : Option MapState) (file : File)
    → IsSensible s → s.has_mapfile ≡ true → AreThreeNames s → s.end < 2 ^ 63 → AreTimes g.times
    → files_before b s.outfile ≡ Some file
    → (o : SweepsOver s (generator s) b statuses state g)
    → AreGiven s (bytes_of (files_before b s.outfile)) o.sweeps.events
    → StopsBy (λ began shown. sweep_saves (generator s) began shown g o.sweeps.events o.end)
    (λ old began shown number map image. GeneratePromise s old began map image)
    false b s g.calls
