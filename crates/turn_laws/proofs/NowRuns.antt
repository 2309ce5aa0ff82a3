-- A run that is safe as its files stand stays so, and is safe however it goes on.
use Rattle.std.proofs.Common.{◌≡◌, ◌⊎◌, inl, inr, ⊎_elim, ℕ, zero, suc, ◌+◌, ◌-◌, ◌≤◌, ◌<◌, Bool, true, false, if◌then◌else◌, nat_eq, List, [], ◌∷◌, ◌++◌, length, map, take, Option, Some, refl, sym, ap, subst, ◌∙◌, arith, append_assoc, append-nil}
use Rattle.std.specs.List.{slice_get, flat_map}
use Rattle.std.proofs.lemmas.Bool.{eqb-true}
use Rattle.std.proofs.lemmas.List.{map-append, length-take, length-take-le}
use Rattle.std.proofs.lemmas.List.Elements.{All-nil, All-cons}
use Rattle.block_list.specs.declared.status.Status.{Status}
use Rattle.block_list.specs.declared.status.Status.TheVariants.{Finished}
use Rattle.block_list.specs.Map.{Has}
use Rattle.faulty_source.specs.Journal.{Reading, kept, covers}
use Rattle.crash_site.specs.Files.{File, written, written_file}
use Rattle.crash_site.specs.Calls.{Call, Done, Failed, image_write, image_sync}
use Rattle.crash_site.specs.Folder.{Folder, after_failed}
use Rattle.crash_site.specs.Disk.{Showing, Disk, without, lose, in_each, with_range, loosened, after_part, entered, disk_after}
use Rattle.crash_site.specs.Left.{IsLoose, Matches, MayShow, Leaves}
use Rattle.crash_site.proofs.DiskLemmas.{run-append, holds_self, holds_more, version_written}
use Rattle.crash_site.proofs.RangeLemmas.{without_in, without_out}
use Rattle.crash_site.proofs.LawLemmas.{part_other, part_reads, some_other}
use Rattle.mapfile_save.specs.Saving.{save_calls}
use Rattle.rescue_rules.specs.Setting.{Setting, IsSensible, place}
use Rattle.rescue_rules.specs.Machine.{Machine, is_wanted}
use Rattle.rescue_rules.specs.Step.{Event}
use Rattle.rescue_rules.specs.Moves.{Move, ready, move_of, state_after, IsMove, IsRun}
use Rattle.rescue_rules.specs.Events.{reads_of}
use Rattle.rescue_rules.specs.Snapshots.{Snapshot, text_of, snapshot_of, is_due}
use Rattle.rescue_rules.specs.RunCalls.{write_calls, due_calls, move_calls, run_calls, closing_calls}
use Rattle.rescue_rules.specs.Held.{Held}
use Rattle.rescue_rules.specs.MachineLaws.{StepsBy}
use Rattle.rescue_rules.proofs.SaveStages.{one_version, under_own, piece_own, piece_image, image_apart}
use Rattle.rescue_rules.proofs.GivenLemmas.{Covered, covered_here}
use Rattle.rescue_rules.proofs.HoldLemmas.{Unfinished, held_loose, held_more, held_by_event, length-output_by}
use Rattle.rescue_rules.proofs.MoveLemmas.{run_first, run_rest}
use Rattle.rescue_rules.proofs.StepLemmas.{finished_unwanted, wanted_domain}
use Rattle.rescue_rules.proofs.ReadyLemmas.{stays_ready}
use Rattle.rescue_rules.proofs.FinishLemmas.{run_steps, finished_stands}
use Rattle.turn_laws.specs.Safe.{IsHeldIn}
use Rattle.turn_laws.specs.SafeNow.{IsClear, IsBacked, IsSafeNow}
use Rattle.turn_laws.specs.NowLaws.{IsMapped, NowIsSafe, RunStaysSafeNow}
use Rattle.turn_laws.proofs.NowLemmas.{EachStop, each_then, each_to, each_stop, shown_found, found_of}
use Rattle.turn_laws.proofs.NowSaves.{saving_calls, each_saving, saved_now, unsynced_shown}

-- the first event of a run is a run
pub run_one : (s : Setting) (m : Machine) (e : Event) (es : List Event) → IsRun s m (e ∷ es) → IsRun s m (e ∷ [])
run_one s m e es run =
    record { each = All-cons (IsMove s) (move_of s m e) [] (run_first s m e es run) (All-nil (IsMove s)) }

-- what is written of a read, and where
abbrev pub piece_of : Setting → Event → List ℕ
piece_of s e = take (kept s.sector e.reading) e.reading.given

abbrev pub write_of : Setting → Event → Call
write_of s e = image_write (place s e.reading.pos) (piece_of s e)

-- an event writes places of positions that aren't finished yet
writes_unfinished : (s : Setting) (m : Machine) (e : Event) → IsMapped s m → IsRun s m (e ∷ []) → (y : ℕ)
    → place s e.reading.pos ≤ y → y < place s e.reading.pos + length (piece_of s e) → Unfinished s m.map y
writes_unfinished s m e by run y from to =
    let r : Reading = e.reading in
    let ok : IsSensible s = by.sensible in
    let b : StepsBy s (ready s m) e = run_steps s ok m e [] by.order run in
    let size : length (take (kept s.sector r) r.given) ≡ kept s.sector r
    = length-take-le (kept s.sector r) r.given b.kept_given in
    let x : ℕ = r.pos + (y - place s r.pos) in
    let first : s.input_position ≤ r.pos
    = ok.from r.pos (wanted_domain s (ready s m) r.pos (b.wanted r.pos (omega arith) (omega (arith, b.some)))) in
    let wanted : is_wanted s (ready s m) x ≡ true
    = b.wanted x (omega arith) (omega (arith, to, from, size, b.kept_asked)) in
    record {
      x = x;
      inside = wanted_domain s (ready s m) x wanted;
      unfinished = λ is. finished_unwanted s (ready s m) x
          (ap (λ (map : List Status). slice_get map x) (stays_ready s m).map ∙ is) wanted;
      at = omega (arith, first, from);
    }

-- such places are none that a map promises
more_clear : (s : Setting) (start : List ℕ) (now map : List Status) (ranges : List (ℕ × ℕ)) (pos len : ℕ) → IsSensible s
    → ((y : ℕ) → pos ≤ y → y < pos + len → Unfinished s now y)
    → ((x : ℕ) → s.domain x ≡ true → Has map Finished x → Has now Finished x)
    → IsClear s start map ranges → IsClear s start map ((pos, len) ∷ ranges)
more_clear s start now map ranges pos len ok unfinished fewer c = record {
  firm = λ x inside has off. ⊎_elim
      (λ (here : (pos ≤ place s x) × (place s x < pos + len)).
      let u : Unfinished s now (place s x) = unfinished (place s x) here.0 here.1 in
      let one : x ≡ u.x = omega (arith, u.at, ok.from x inside, ok.from u.x u.inside) in
      u.unfinished (subst (λ (z : ℕ). Has now Finished z) one (fewer x inside has)))
      (λ (old : IsLoose ranges (place s x)). c.firm x inside has old) off;
  outside = λ y old apart off. ⊎_elim
      (λ (here : (pos ≤ y) × (y < pos + len)).
      let u : Unfinished s now y = unfinished y here.0 here.1 in
      apart u.x u.inside u.at)
      (λ (was : IsLoose ranges y). c.outside y old apart was) off;
}

-- what is backed is so while such places are written
loosened_backed : (s : Setting) (start : List ℕ) (reads : List Reading) (now : List Status) (synced : List ℕ)
    (loose : List (ℕ × ℕ)) (mapfile : Option File) (pos len : ℕ) → IsSensible s
    → ((y : ℕ) → pos ≤ y → y < pos + len → Unfinished s now y)
    → IsBacked s start reads now synced loose mapfile → IsBacked s start reads now synced ((pos, len) ∷ loose) mapfile
loosened_backed s start reads now synced loose mapfile pos len ok unfinished b = record {
  map = b.map;
  has = b.has;
  fewer = b.fewer;
  held = b.held;
  clear = more_clear s start now b.map loose pos len ok unfinished b.fewer b.clear;
}

wrote_shows : (s : Setting) (start : List ℕ) (reads : List Reading) (m : Machine) (d : Disk) (pos : ℕ)
    (piece : List ℕ) (n : IsSafeNow s start reads m d)
    → (after_part (image_write pos piece) d).shows s.outfile
    ≡ one_version n.synced ((pos, length piece) ∷ n.loose) (flat_map (without pos (length piece)) n.lost)
wrote_shows s start reads m d pos piece n =
    under_own d d.reads.image s.outfile (with_range pos (length piece)) n.image
    ∙ ap (λ (f : Option File). with_range pos (length piece) f (d.shows s.outfile)) n.reads_as
    ∙ ap (loosened pos (length piece)) n.shows

wrote_maps : (s : Setting) (start : List ℕ) (reads : List Reading) (m : Machine) (d : Disk) (e : Event)
    → IsMapped s m → IsRun s m (e ∷ []) → (n : IsSafeNow s start reads m d) → (mapfile : Option File)
    → MayShow ((after_part (write_of s e) d).shows s.names.map) mapfile
    → IsBacked s start reads m.map n.synced.bytes ((place s e.reading.pos, length (piece_of s e)) ∷ n.loose) mapfile
wrote_maps s start reads m d e by run n mapfile may =
    loosened_backed s start reads m.map n.synced.bytes n.loose mapfile (place s e.reading.pos) (length (piece_of s e))
    by.sensible (writes_unfinished s m e by run)
    (n.maps mapfile (subst (λ (v : Showing). MayShow v mapfile)
    (part_other d (write_of s e) s.names.map (image_apart d.reads.image s.outfile s.names.map n.image by.names.map)) may))

-- it is no longer lost where it was written
fewer_clear : (s : Setting) (start : List ℕ) (map : List Status) (lost : List (ℕ × ℕ)) (pos len : ℕ)
    → IsClear s start map lost → IsClear s start map (flat_map (without pos len) lost)
fewer_clear s start map lost pos len c = record {
  firm = λ x inside has off. c.firm x inside has (without_in pos len lost (place s x) off);
  outside = λ y old apart off. c.outside y old apart (without_in pos len lost y off);
}

-- the output as it reads after some bytes of a write
part_of : (steps : ℕ) → File → (pos : ℕ) → (piece : List ℕ) → File
part_of zero now pos piece = now
part_of (suc k) now pos piece = written_file (Some now) pos (take (suc k) piece)

part_reads_as : (d : Folder) (out : List ℕ) (steps : ℕ) (now : File) (pos : ℕ) (piece : List ℕ) → d.image ≡ Some out
    → d.files out ≡ Some now
    → (after_failed d (image_write pos piece) steps).files out ≡ Some (part_of steps now pos piece)
unfolding part_of
part_reads_as d out zero now pos piece image is = is
part_reads_as d out (suc k) now pos piece image is =
    piece_own d d.image out pos (take (suc k) piece) image
    ∙ ap (λ (f : Option File). Some (written_file f pos (take (suc k) piece))) is

-- it differs from what read at most in the range of the write
part_matches : (steps : ℕ) (now : File) (pos : ℕ) (piece : List ℕ)
    → Matches now ((pos, length piece) ∷ []) (part_of steps now pos piece)
unfolding part_of
part_matches zero now pos piece = holds_more (Some now) (pos, length piece) [] (Some now) (holds_self (Some now) [])
part_matches (suc k) now pos piece =
    version_written (Some now) [] now pos (length piece) pos (take (suc k) piece)
    (record {
      end = omega (arith, length-take (suc k) piece);
      from = omega arith;
      gap = omega arith;
    }) (holds_self (Some now) [])

-- one range of places that aren't finished
owned_range : (s : Setting) (map : List Status) (pos len y : ℕ)
    → ((y : ℕ) → pos ≤ y → y < pos + len → Unfinished s map y) → IsLoose ((pos, len) ∷ []) y → Unfinished s map y
owned_range s map pos len y unfinished (inl here) = unfinished y here.0 here.1
owned_range s map pos len y unfinished (inr none) = absurd none

-- a write that failed, after any of its steps
pub failed_write : (s : Setting) (start : List ℕ) (reads : List Reading) (m : Machine) (d : Disk)
    (e : Event) (steps : ℕ)
    → IsMapped s m → IsRun s m (e ∷ []) → IsSafeNow s start reads m d
    → IsSafeNow s start reads m (entered d (Failed (write_of s e) steps))
failed_write s start reads m d e steps by run n =
    let pos : ℕ = place s e.reading.pos in
    let piece : List ℕ = piece_of s e in
    let mid : Disk = after_part (image_write pos piece) d in
    let image : mid.reads.image ≡ Some s.outfile =
    ap (λ (r : Folder). r.image) (part_reads d (image_write pos piece)) ∙ n.image in
    let unfinished : (y : ℕ) → pos ≤ y → y < pos + length piece → Unfinished s m.map y =
    writes_unfinished s m e by run in
    let part : File = part_of steps n.now pos piece in
    let held : Held s reads start m.map part.bytes × (length start ≤ length part.bytes) =
    held_loose s by.sensible reads start m.map n.now ((pos, length piece) ∷ []) part
    (part_matches steps n.now pos piece) (λ y. owned_range s m.map pos (length piece) y unfinished)
    n.longer n.current in
    record {
      image = n.image;
      synced = n.synced;
      loose = (pos, length piece) ∷ n.loose;
      lost = (pos, length piece) ∷ flat_map (without pos (length piece)) n.lost;
      shows = under_own mid mid.reads.image s.outfile (λ f v. in_each (lose pos (length piece)) v) image
          ∙ ap (in_each (lose pos (length piece))) (wrote_shows s start reads m d pos piece n);
      now = part;
      reads_as = part_reads_as d.reads s.outfile steps n.now pos piece n.image n.reads_as;
      longer = held.1;
      current = held.0;
      unlost = more_clear s start m.map m.map (flat_map (without pos (length piece)) n.lost) pos (length piece)
          by.sensible unfinished (λ x inside has. has) (fewer_clear s start m.map n.lost pos (length piece) n.unlost);
      maps = λ mapfile may. wrote_maps s start reads m d e by run n mapfile
          (subst (λ (v : Showing). MayShow v mapfile)
          (some_other mid mid.reads.image s.names.map (λ f v. in_each (lose pos (length piece)) v)
          (image_apart mid.reads.image s.outfile s.names.map image by.names.map)) may);
    }

-- what was finished is not read again
read_backed : (s : Setting) (start : List ℕ) (reads : List Reading) (m : Machine) (e : Event) (synced : List ℕ)
    (loose : List (ℕ × ℕ)) (mapfile : Option File) → IsMapped s m → IsRun s m (e ∷ [])
    → IsBacked s start reads m.map synced loose mapfile
    → IsBacked s start (reads ++ e.reading ∷ []) m.map synced loose mapfile
read_backed s start reads m e synced loose mapfile by run b = record {
  map = b.map;
  has = b.has;
  fewer = b.fewer;
  held = held_more s reads (e.reading ∷ []) start b.map synced
      (λ x inside has. (finished_stands s m (e ∷ []) x by.sensible by.order run (b.fewer x inside has)).0) b.held;
  clear = b.clear;
}

next_backed : (s : Setting) (start : List ℕ) (reads : List Reading) (m : Machine) (e : Event) (synced : List ℕ)
    (loose : List (ℕ × ℕ)) (mapfile : Option File) → IsMapped s m → IsRun s m (e ∷ [])
    → IsBacked s start reads m.map synced loose mapfile
    → IsBacked s start (reads ++ e.reading ∷ []) (move_of s m e).after.map synced loose mapfile
next_backed s start reads m e synced loose mapfile by run b =
    let r : IsBacked s start (reads ++ e.reading ∷ []) m.map synced loose mapfile
    = read_backed s start reads m e synced loose mapfile by run b in
    record {
      map = r.map;
      has = r.has;
      fewer = λ x inside has. (finished_stands s m (e ∷ []) x by.sensible by.order run (r.fewer x inside has)).1;
      held = r.held;
      clear = r.clear;
    }

-- its read alone
pub read_now : (s : Setting) (start : List ℕ) (reads : List Reading) (m : Machine) (d : Disk) (e : Event)
    → IsMapped s m → IsRun s m (e ∷ []) → IsSafeNow s start reads m d
    → IsSafeNow s start (reads ++ e.reading ∷ []) m d
read_now s start reads m d e by run n = record {
  image = n.image;
  synced = n.synced;
  loose = n.loose;
  lost = n.lost;
  shows = n.shows;
  now = n.now;
  reads_as = n.reads_as;
  longer = n.longer;
  current = held_more s reads (e.reading ∷ []) start m.map n.now.bytes
      (λ x inside has. (finished_stands s m (e ∷ []) x by.sensible by.order run has).0) n.current;
  unlost = n.unlost;
  maps = λ mapfile may.
      read_backed s start reads m e n.synced.bytes n.loose mapfile by run (n.maps mapfile may);
}

-- what is finished then was so before, or was written
newly_finished : (s : Setting) (m : Machine) (e : Event) (x : ℕ) → IsMapped s m → IsRun s m (e ∷ [])
    → s.domain x ≡ true → Has (move_of s m e).after.map Finished x
    → Has m.map Finished x
    ⊎ ((place s e.reading.pos ≤ place s x) × (place s x < place s e.reading.pos + length (piece_of s e)))
newly_finished s m e x by run inside has =
    let r : Reading = e.reading in
    let ok : IsSensible s = by.sensible in
    let b : StepsBy s (ready s m) e = run_steps s ok m e [] by.order run in
    let first : s.input_position ≤ r.pos
    = ok.from r.pos (wanted_domain s (ready s m) r.pos (b.wanted r.pos (omega arith) (omega (arith, b.some)))) in
    ⊎_elim
    (λ (was : Has (ready s m).map Finished x).
    inl (sym (ap (λ (map : List Status). slice_get map x) (stays_ready s m).map) ∙ was))
    (λ (on : covers s.sector r x ≡ true).
    let c : Covered s.sector r x = covered_here s.sector r x on in
    inr (
      omega (arith, c.from, first),
      omega (
        arith,
        c.from,
        c.to,
        first,
        length-take-le (kept s.sector r) r.given
            b.kept_given,
      ),
    ))
    (b.only x has)

-- so nothing of it is lost
next_clear : (s : Setting) (start : List ℕ) (m : Machine) (e : Event) (lost : List (ℕ × ℕ)) → IsMapped s m
    → IsRun s m (e ∷ []) → IsClear s start m.map lost
    → IsClear s start (move_of s m e).after.map
    (flat_map (without (place s e.reading.pos) (length (piece_of s e))) lost)
next_clear s start m e lost by run c = record {
  firm = λ x inside has off. ⊎_elim
      (λ (was : Has m.map Finished x).
      c.firm x inside was (without_in (place s e.reading.pos) (length (piece_of s e)) lost (place s x) off))
      (λ (here : (place s e.reading.pos ≤ place s x) × (place s x < place s e.reading.pos + length (piece_of s e))).
      ⊎_elim (λ (before : place s x < place s e.reading.pos). absurd (omega (arith, before, here.0)))
      (λ (past : place s e.reading.pos + length (piece_of s e) ≤ place s x). absurd (omega (arith, past, here.1)))
      (without_out (place s e.reading.pos) (length (piece_of s e)) lost (place s x) off))
      (newly_finished s m e x by run inside has);
  outside = λ y old apart off.
      c.outside y old apart (without_in (place s e.reading.pos) (length (piece_of s e)) lost y off);
}

-- where nothing is written nothing is finished
still_clear : (s : Setting) (start : List ℕ) (m : Machine) (e : Event) (lost : List (ℕ × ℕ)) → IsMapped s m
    → IsRun s m (e ∷ []) → nat_eq (kept s.sector e.reading) 0 ≡ true → IsClear s start m.map lost
    → IsClear s start (move_of s m e).after.map lost
still_clear s start m e lost by run none c = record {
  firm = λ x inside has off. ⊎_elim (λ (was : Has m.map Finished x). c.firm x inside was off)
      (λ (here : (place s e.reading.pos ≤ place s x) × (place s x < place s e.reading.pos + length (piece_of s e))).
      absurd (omega (
        arith,
        here.0,
        here.1,
        eqb-true (kept s.sector e.reading) 0 none,
        length-take (kept s.sector e.reading) e.reading.given,
      )))
      (newly_finished s m e x by run inside has);
  outside = c.outside;
}

-- its write, or none
wrote_by : (none : Bool) (s : Setting) (start : List ℕ) (reads : List Reading) (m : Machine) (d : Disk) (e : Event)
    → nat_eq (kept s.sector e.reading) 0 ≡ none
    → IsMapped s m → IsRun s m (e ∷ []) → (n : IsSafeNow s start reads m d)
    → Held s (reads ++ e.reading ∷ []) start (move_of s m e).after.map
    (if none then n.now.bytes else written n.now.bytes (place s e.reading.pos) (piece_of s e))
    → length start ≤ length (if none then n.now.bytes else written n.now.bytes (place s e.reading.pos) (piece_of s e))
    → IsSafeNow s start (reads ++ e.reading ∷ []) (move_of s m e).after
    (disk_after d (map Done (if none then [] else write_of s e ∷ [])))
wrote_by true s start reads m d e none by run n held longer = record {
  image = n.image;
  synced = n.synced;
  loose = n.loose;
  lost = n.lost;
  shows = n.shows;
  now = n.now;
  reads_as = n.reads_as;
  longer = longer;
  current = held;
  unlost = still_clear s start m e n.lost by run none n.unlost;
  maps = λ mapfile may.
      next_backed s start reads m e n.synced.bytes n.loose mapfile by run (n.maps mapfile may);
}
wrote_by false s start reads m d e some by run n held longer =
    let pos : ℕ = place s e.reading.pos in
    let piece : List ℕ = piece_of s e in
    record {
      image = piece_image d.reads d.reads.image pos piece ∙ n.image;
      synced = n.synced;
      loose = (pos, length piece) ∷ n.loose;
      lost = flat_map (without pos (length piece)) n.lost;
      shows = wrote_shows s start reads m d pos piece n;
      now = written_file (Some n.now) pos piece;
      reads_as = piece_own d.reads d.reads.image s.outfile pos piece n.image
          ∙ ap (λ (f : Option File). Some (written_file f pos piece)) n.reads_as;
      longer = longer;
      current = held;
      unlost = next_clear s start m e n.lost by run n.unlost;
      maps = λ mapfile may.
          next_backed s start reads m e n.synced.bytes ((pos, length piece) ∷ n.loose) mapfile by run
          (wrote_maps s start reads m d e by run n mapfile may);
    }

pub wrote_now : (s : Setting) (start : List ℕ) (reads : List Reading) (m : Machine) (d : Disk) (e : Event)
    → IsMapped s m → IsRun s m (e ∷ []) → IsSafeNow s start reads m d
    → IsSafeNow s start (reads ++ e.reading ∷ []) (move_of s m e).after
    (disk_after d (map Done (write_calls s e.reading)))
wrote_now s start reads m d e by run n =
    wrote_by (nat_eq (kept s.sector e.reading) 0) s start reads m d e refl by run n
    (held_by_event s by.sensible m e [] reads start n.now.bytes by.order run n.longer n.current)
    (omega (arith, n.longer, length-output_by s n.now.bytes e.reading))

-- the state that an event leads to goes by the rules too
pub mapped_next : (s : Setting) (m : Machine) (e : Event) → IsMapped s m → IsRun s m (e ∷ [])
    → IsMapped s (move_of s m e).after
mapped_next s m e by run = record {
  sensible = by.sensible;
  mapfile = by.mapfile;
  names = by.names;
  order = (run_steps s by.sensible m e [] by.order run).order;
}

-- the save that is due
due_by : (due : Bool) (s : Setting) (start : List ℕ) (reads : List Reading) (m : Machine) (d : Disk) → IsMapped s m
    → IsSafeNow s start reads m d
    → IsSafeNow s start reads m
    (disk_after d (map Done (if due then save_calls s.names (text_of s.line (snapshot_of m)) else [])))
due_by true s start reads m d by n = saved_now s start reads m (snapshot_of m) d by.names refl n
due_by false s start reads m d by n = n

due_now : (s : Setting) (start : List ℕ) (reads : List Reading) (d : Disk) (v : Move) → IsMapped s v.after
    → IsSafeNow s start reads v.after d → IsSafeNow s start reads v.after (disk_after d (map Done (due_calls s v)))
due_now s start reads d v by n = due_by (is_due s v) s start reads v.after d by n

-- a whole move
pub moved_now : (s : Setting) (start : List ℕ) (reads : List Reading) (m : Machine) (d : Disk) (e : Event)
    → IsMapped s m → IsRun s m (e ∷ []) → IsSafeNow s start reads m d
    → IsSafeNow s start (reads ++ e.reading ∷ []) (move_of s m e).after
    (disk_after d (map Done (move_calls s (move_of s m e))))
moved_now s start reads m d e by run n =
    let v : Move = move_of s m e in
    let w : List Call = write_calls s e.reading in
    let due : List Call = due_calls s v in
    let to : Disk = disk_after d (map Done w) in
    let all : List Reading = reads ++ e.reading ∷ [] in
    subst (λ (l : Disk). IsSafeNow s start all v.after l)
    (sym (ap (disk_after d) (map-append Done w due) ∙ run-append d (map Done w) (map Done due)))
    (due_now s start all to v (mapped_next s m e by run) (wrote_now s start reads m d e by run n))

pub run_stays_safe_now : RunStaysSafeNow
run_stays_safe_now s start reads m d [] by n run =
    subst (λ (rs : List Reading). IsSafeNow s start rs m d) (sym (append-nil reads)) n
run_stays_safe_now s start reads m d (e ∷ es) by n run =
    let v : Move = move_of s m e in
    let now : List Call = move_calls s v in
    let more : List Call = run_calls s v.after es in
    let one : IsRun s m (e ∷ []) = run_one s m e es run in
    let rest : IsSafeNow s start ((reads ++ e.reading ∷ []) ++ reads_of es) (state_after s v.after es)
    (disk_after (disk_after d (map Done now)) (map Done more))
    = run_stays_safe_now s start (reads ++ e.reading ∷ []) v.after (disk_after d (map Done now)) es
    (mapped_next s m e by one) (moved_now s start reads m d e by one n) (run_rest s m e es run) in
    subst (λ (rs : List Reading). IsSafeNow s start rs (state_after s v.after es) (disk_after d (map Done (now ++ more))))
    (append_assoc reads (e.reading ∷ []) (reads_of es))
    (subst (λ (l : Disk). IsSafeNow s start ((reads ++ e.reading ∷ []) ++ reads_of es) (state_after s v.after es) l)
    (sym (run-append d (map Done now) (map Done more)) ∙ ap (disk_after d) (sym (map-append Done now more))) rest)

-- what is found is held
abbrev Finds : Setting → (start : List ℕ) → List Reading → Disk → Type 0
Finds s start reads d = (files : List ℕ → Option File) → Leaves d files → IsHeldIn s start reads files

write_stops : (none : Bool) (P : Disk → Type 0) (d : Disk) (c : Call) → P d
    → ((steps : ℕ) → P (entered d (Failed c steps)))
    → P (disk_after d (map Done (if none then [] else c ∷ []))) → EachStop P d (if none then [] else c ∷ [])
write_stops true P d c here failed made = made
write_stops false P d c here failed made = (here, failed, made)

-- at each stop of a save of the map that a run has come to
save_stops : (s : Setting) (start : List ℕ) (reads : List Reading) (m : Machine) (d : Disk) (es : List Event)
    (p : Snapshot) → IsMapped s m → p.map ≡ m.map → IsSafeNow s start reads m d → IsRun s m es
    → EachStop (Finds s start (reads ++ reads_of es)) d (save_calls s.names (text_of s.line p))
save_stops s start reads m d es p by same n run = (
  (λ files leaves. found_of s start reads m d es files by n run leaves),
  (λ steps files leaves. shown_found s start reads m (entered d (Failed image_sync steps)) es files by
      (unsynced_shown s start reads m d steps by.names n) run leaves),
  each_to (λ l. IsSafeNow s start reads m l) (Finds s start (reads ++ reads_of es)) (entered d (Done image_sync))
      (saving_calls s p) (λ l k files leaves. found_of s start reads m l es files by k run leaves)
      (each_saving s start reads m p d by.names same n),
)

-- of the save that is due
due_stops : (due : Bool) (s : Setting) (start : List ℕ) (reads : List Reading) (m : Machine) (d : Disk)
    (es : List Event) → IsMapped s m → IsSafeNow s start reads m d → IsRun s m es
    → EachStop (Finds s start (reads ++ reads_of es)) d
    (if due then save_calls s.names (text_of s.line (snapshot_of m)) else [])
due_stops true s start reads m d es by n run = save_stops s start reads m d es (snapshot_of m) by refl n run
due_stops false s start reads m d es by n run = λ files leaves. found_of s start reads m d es files by n run leaves

-- at each stop of a run and of its last save
run_stops : (s : Setting) (start : List ℕ) (reads : List Reading) (m : Machine) (d : Disk) (es : List Event)
    (last : Snapshot) → IsMapped s m → IsSafeNow s start reads m d → IsRun s m es → last.map ≡ (state_after s m es).map
    → EachStop (Finds s start (reads ++ reads_of es)) d (run_calls s m es ++ closing_calls s last)
run_stops s start reads m d [] last by n run same =
    let save : List Call = save_calls s.names (text_of s.line last) in
    subst (λ (b : Bool). EachStop (Finds s start (reads ++ [])) d (if b then save else image_sync ∷ [])) (sym by.mapfile)
    (save_stops s start reads m d [] last by same n run)
run_stops s start reads m d (e ∷ es) last by n run same =
    let v : Move = move_of s m e in
    let w : List Call = write_calls s e.reading in
    let due : List Call = due_calls s v in
    let more : List Call = run_calls s v.after es in
    let one : IsRun s m (e ∷ []) = run_one s m e es run in
    let rest : IsRun s v.after es = run_rest s m e es run in
    let all : List Reading = reads ++ reads_of (e ∷ es) in
    let front : List Reading = reads ++ e.reading ∷ [] in
    let to : Disk = disk_after d (map Done w) in
    let by' : IsMapped s v.after = mapped_next s m e by one in
    let wrote : IsSafeNow s start front v.after to = wrote_now s start reads m d e by one n in
    let finds : (l : Disk) → IsSafeNow s start front v.after l → Finds s start all l
    = λ l k files leaves. subst (λ (rs : List Reading). IsHeldIn s start rs files)
    (append_assoc reads (e.reading ∷ []) (reads_of es)) (found_of s start front v.after l es files by' k rest leaves) in
    let saves : EachStop (Finds s start all) to due
    = subst (λ (rs : List Reading). EachStop (Finds s start rs) to due) (append_assoc reads (e.reading ∷ [])
    (reads_of es))
    (due_stops (is_due s v) s start front v.after to es by' wrote rest) in
    let moving : EachStop (Finds s start all) d (w ++ due)
    = each_then (Finds s start all) d w due
    (write_stops (nat_eq (kept s.sector e.reading) 0) (Finds s start all) d (write_of s e)
    (λ files leaves. found_of s start reads m d (e ∷ es) files by n run leaves)
    (λ steps files leaves. found_of s start reads m (entered d (Failed (write_of s e) steps)) (e ∷ es) files by
    (failed_write s start reads m d e steps by one n) run leaves)
    (finds to wrote))
    saves in
    subst (λ (cs : List Call). EachStop (Finds s start all) d cs)
    (sym (append_assoc (w ++ due) more (closing_calls s last)))
    (each_then (Finds s start all) d (w ++ due) (more ++ closing_calls s last) moving
    (subst (λ (rs : List Reading). EachStop (Finds s start rs) (disk_after d (map Done (w ++ due)))
    (more ++ closing_calls s last)) (append_assoc reads (e.reading ∷ []) (reads_of es))
    (run_stops s start front v.after (disk_after d (map Done (w ++ due))) es last by'
    (moved_now s start reads m d e by one n) rest same)))

pub now_is_safe : NowIsSafe
now_is_safe s start reads m d by n = record {
  each = λ es last calls k files run same comes leaves.
      each_stop (Finds s start (reads ++ reads_of es)) d (run_calls s m es ++ closing_calls s last) calls k
      (run_stops s start reads m d es last by n run same) comes files leaves;
}
