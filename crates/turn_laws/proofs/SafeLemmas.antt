-- A run that goes on stays safe.
use Rattle.std.proofs.Common.{ℕ, zero, suc, ◌+◌, List, [], ◌∷◌, ◌++◌, length, map, Option, refl, sym, ap, subst, ◌∙◌, append_assoc, append-nil}
use Rattle.std.proofs.lemmas.List.{map-append}
use Rattle.std.proofs.lemmas.List.Elements.{All-nil, All-cons, All-head}
use Rattle.block_list.specs.declared.status.Status.{Status}
use Rattle.mapfile_text.specs.declared.state.MapState.{MapState}
use Rattle.faulty_source.specs.Journal.{Reading}
use Rattle.crash_site.specs.Files.{File}
use Rattle.crash_site.specs.Calls.{Call, Entry, Done, Failed}
use Rattle.crash_site.specs.Disk.{Disk, disk_after}
use Rattle.crash_site.specs.Left.{Leaves, until}
use Rattle.crash_site.proofs.DiskLemmas.{run-append}
use Rattle.crash_site.proofs.LawLemmas.{until_past}
use Rattle.rescue_rules.specs.Setting.{Setting}
use Rattle.rescue_rules.specs.Start.{Stands}
use Rattle.rescue_rules.specs.Machine.{Machine}
use Rattle.rescue_rules.specs.Step.{Event}
use Rattle.rescue_rules.specs.Moves.{Move, move_of, moves, state_after, IsMove, IsRun}
use Rattle.rescue_rules.specs.Events.{reads_of}
use Rattle.rescue_rules.specs.Snapshots.{Snapshot, snapshot_of}
use Rattle.rescue_rules.specs.RunCalls.{move_calls, run_calls, closing_calls}
use Rattle.rescue_rules.specs.RunStops.{ComesTo}
use Rattle.rescue_rules.specs.StopsBy.{IsSave}
use Rattle.rescue_rules.proofs.MoveLemmas.{run_rest}
use Rattle.turn_laws.specs.Safe.{HasMap, Read, Saved, IsHeldIn, IsSafe}
use Rattle.turn_laws.proofs.LastLemmas.{Holds, last_holds}
use Rattle.turn_laws.specs.Laws.{RestIsSafe, SafeIsHeld, RunStaysSafe, RunIsHeld}

pub comes_all : (cs : List Call) → ComesTo cs (map Done cs)
comes_all [] = tt
comes_all (c ∷ cs) = (refl, comes_all cs)

pub comes_past : (cs more : List Call) (es : List Entry) → ComesTo more es → ComesTo (cs ++ more) (map Done cs ++ es)
comes_past [] more es h = h
comes_past (c ∷ cs) more es h = (refl, comes_past cs more es h)

pub comes_more : (cs more : List Call) (es : List Entry) → ComesTo cs es → ComesTo (cs ++ more) es
comes_more [] more [] h = tt
comes_more [] more (e ∷ es) h = absurd h
comes_more (c ∷ cs) more [] h = tt
comes_more (c ∷ cs) more (Done x ∷ es) h = (h.0, comes_more cs more es h.1)
comes_more (c ∷ cs) more (Failed x steps ∷ es) h = h

-- a mapfile that is a save of a run, or the one that it began with, has a map
has_map_of : (s : Setting) (old found : Option File) (began : List Status) (state : Option MapState)
    (saves : List Snapshot) (number : ℕ) (statuses : List Status) → Stands old s.end began state
    → IsSave old began s.line saves number found statuses → HasMap s found statuses
has_map_of s old found began state saves zero statuses stands is =
    Read state (subst (λ (f : Option File). Stands f s.end statuses state) (sym is.0)
    (subst (λ (map : List Status). Stands old s.end map state) (sym is.1) stands))
has_map_of s old found began state saves (suc n) statuses stands is = Saved is.0 is.2 is.3

pub rest_is_safe : RestIsSafe
rest_is_safe s began state m d ok on three order alike rests stands = record {
  each = λ es last calls k files run same comes leaves.
      let holds : Holds s began m es last d files
      = last_holds s began m es last d calls k files ok on three order alike run same rests comes leaves in
      record {
        map = holds.statuses;
        has = has_map_of s (d.reads.files s.names.map) (files s.names.map) began state _ holds.number holds.statuses
            stands holds.is_save;
        held = holds.held;
      };
}

pub safe_is_held : SafeIsHeld
safe_is_held s start reads m d files safe leaves =
    subst (λ (rs : List Reading). IsHeldIn s start rs files) (append-nil reads)
    (safe.each [] (snapshot_of m) [] 0 files (record { each = All-nil (IsMove s) }) refl tt leaves)

-- a move of a run leaves it safe
move_stays_safe : (s : Setting) (start : List ℕ) (reads : List Reading) (m : Machine) (d : Disk) (e : Event)
    → IsSafe s start reads m d → IsMove s (move_of s m e)
    → IsSafe s start (reads ++ e.reading ∷ []) (move_of s m e).after
    (disk_after d (map Done (move_calls s (move_of s m e))))
move_stays_safe s start reads m d e safe move =
    let v : Move = move_of s m e in
    let now : List Call = move_calls s v in
    let made : List Entry = map Done now in
    record {
      each = λ es last calls k files run same comes leaves.
          let run' : IsRun s m (e ∷ es) = record { each = All-cons (IsMove s) v (moves s v.after es) move run.each } in
          let comes' : ComesTo (run_calls s m (e ∷ es) ++ closing_calls s last) (made ++ calls)
          = subst (λ (l : List Call). ComesTo l (made ++ calls))
          (sym (append_assoc now (run_calls s v.after es) (closing_calls s last)))
          (comes_past now (run_calls s v.after es ++ closing_calls s last) calls comes) in
          let leaves' : Leaves (disk_after d (until (length made + k) (made ++ calls))) files
          = subst (λ (l : Disk). Leaves l files)
          (sym (ap (disk_after d) (until_past made calls k (length made + k) refl) ∙ run-append d made (until k calls)))
          leaves in
          subst (λ (rs : List Reading). IsHeldIn s start rs files)
          (sym (append_assoc reads (e.reading ∷ []) (reads_of es)))
          (safe.each (e ∷ es) last (made ++ calls) (length made + k) files run' same comes' leaves');
    }

pub run_stays_safe : RunStaysSafe
run_stays_safe s start reads m d [] safe run =
    subst (λ (rs : List Reading). IsSafe s start rs m d) (sym (append-nil reads)) safe
run_stays_safe s start reads m d (e ∷ es) safe run =
    let v : Move = move_of s m e in
    let now : List Call = move_calls s v in
    let more : List Call = run_calls s v.after es in
    let first : IsSafe s start (reads ++ e.reading ∷ []) v.after (disk_after d (map Done now))
    = move_stays_safe s start reads m d e safe (All-head (IsMove s) v (moves s v.after es) run.each) in
    let rest : IsSafe s start ((reads ++ e.reading ∷ []) ++ reads_of es) (state_after s v.after es)
    (disk_after (disk_after d (map Done now)) (map Done more))
    = run_stays_safe s start (reads ++ e.reading ∷ []) v.after (disk_after d (map Done now)) es first
    (run_rest s m e es run) in
    subst (λ (rs : List Reading). IsSafe s start rs (state_after s v.after es) (disk_after d (map Done (now ++ more))))
    (append_assoc reads (e.reading ∷ []) (reads_of es))
    (subst (λ (l : Disk). IsSafe s start ((reads ++ e.reading ∷ []) ++ reads_of es) (state_after s v.after es) l)
    (sym (run-append d (map Done now) (map Done more)) ∙ ap (disk_after d) (sym (map-append Done now more))) rest)

pub run_is_held : RunIsHeld
run_is_held s start reads m d es last calls k files safe run same comes leaves =
    safe.each es last calls k files run same comes leaves
