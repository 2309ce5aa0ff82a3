-- What a run without a mapfile writes.
use Rattle.std.proofs.Common.{◌≡◌, ℕ, Bool, true, false, nat_eq, if◌then◌else◌, List, [], ◌∷◌, ◌++◌, map, take, Option, Some, None, refl, sym, ap, ◌∙◌, subst, append-nil}
use Rattle.std.proofs.lemmas.List.{map-append}
use Rattle.faulty_source.specs.Journal.{kept}
use Rattle.crash_site.specs.Files.{File, bytes_of, empty_file, written, written_file}
use Rattle.crash_site.specs.Calls.{Call, Entry, Done as Returned, image_open, image_write, image_sync}
use Rattle.crash_site.specs.Folder.{Folder, opened, with_piece, after}
use Rattle.crash_site.proofs.LawLemmas.{after-append}
use Rattle.mapfile_save.specs.Saving.{save_calls}
use Rattle.rescue_rules.specs.Setting.{Setting, place}
use Rattle.rescue_rules.specs.Machine.{Machine}
use Rattle.rescue_rules.specs.Step.{Event}
use Rattle.rescue_rules.specs.Moves.{Move, move_of, state_after}
use Rattle.rescue_rules.specs.Snapshots.{text_of, last_snapshot}
use Rattle.rescue_rules.specs.RunCalls.{write_calls, output_by, output_after, move_calls, run_calls, end_calls}
use Rattle.rescue_rules.proofs.BarrierLemmas.{opened_image}
use Rattle.rescue_rules.proofs.SaveStages.{put_own}

-- the output is open, and holds these bytes
pub record Holds (outfile : List ℕ) (bytes : List ℕ) (d : Folder) : Type 0 where
  pub image : d.image ≡ Some outfile
  pub holds : bytes_of (d.files outfile) ≡ bytes

opened_holds : (d : Folder) (name : List ℕ) (o : Option File) → d.files name ≡ o
    → bytes_of ((opened d name true o).files name) ≡ bytes_of (d.files name)
opened_holds d name None is = ap bytes_of (put_own d.files name (Some empty_file)) ∙ sym (ap bytes_of is)
opened_holds d name (Some f) is = refl

holds_opened : (d : Folder) (outfile : List ℕ)
    → Holds outfile (bytes_of (d.files outfile)) (after d (Returned (image_open outfile true) ∷ []))
holds_opened d outfile = record {
  image = opened_image d outfile (d.files outfile);
  holds = opened_holds d outfile (d.files outfile) refl;
}

written_bytes : (o : Option File) (pos : ℕ) (piece : List ℕ) → (written_file o pos piece).bytes ≡ written (bytes_of o) pos piece
written_bytes None pos piece = refl
written_bytes (Some f) pos piece = refl

holds_written : (outfile bytes : List ℕ) (d : Folder) (pos : ℕ) (piece : List ℕ) → Holds outfile bytes d
    → Holds outfile (written bytes pos piece) (with_piece d d.image pos piece)
holds_written outfile bytes d pos piece h =
    let own : Holds outfile (written bytes pos piece) (with_piece d (Some outfile) pos piece) =
    record {
      image = h.image;
      holds = ap bytes_of (put_own d.files outfile (Some (written_file (d.files outfile) pos piece)))
          ∙ written_bytes (d.files outfile) pos piece ∙ ap (λ (b : List ℕ). written b pos piece) h.holds;
    } in
    subst (λ (o : Option (List ℕ)). Holds outfile (written bytes pos piece) (with_piece d o pos piece)) (sym h.image) own

-- a read's write, if it has one
holds_or : (outfile bytes : List ℕ) (d : Folder) (pos : ℕ) (piece : List ℕ) (none : Bool) → Holds outfile bytes d
    → Holds outfile (if none then bytes else written bytes pos piece)
    (after d (map Returned (if none then [] else image_write pos piece ∷ [])))
holds_or outfile bytes d pos piece true h = h
holds_or outfile bytes d pos piece false h = holds_written outfile bytes d pos piece h

-- without a mapfile a move makes no other call
no_due : (s : Setting) (v : Move) → s.has_mapfile ≡ false → move_calls s v ≡ write_calls s v.event.reading
no_due s v off =
    ap (λ (b : Bool). move_calls (record s { has_mapfile = b }) v) off ∙ append-nil (write_calls s v.event.reading)

-- a run's writes
holds_run : (s : Setting) (m : Machine) (es : List Event) (outfile bytes : List ℕ) (d : Folder) → s.has_mapfile ≡ false
    → Holds outfile bytes d → Holds outfile (output_after s bytes es) (after d (map Returned (run_calls s m es)))
holds_run s m [] outfile bytes d off h = h
holds_run s m (e ∷ es) outfile bytes d off h =
    let v : Move = move_of s m e in
    let writes : List Call = write_calls s e.reading in
    let rest : List Call = run_calls s v.after es in
    let next : Folder = after d (map Returned writes) in
    let calls : after d (map Returned (move_calls s v ++ rest)) ≡ after next (map Returned rest) =
    ap (λ (cs : List Call). after d (map Returned (cs ++ rest))) (no_due s v off)
    ∙ ap (after d) (map-append Returned writes rest) ∙ after-append d (map Returned writes) (map Returned rest) in
    subst (Holds outfile (output_after s bytes (e ∷ es))) (sym calls)
    (holds_run s v.after es outfile (output_by s bytes e.reading) next off
    (holds_or outfile bytes d (place s e.reading.pos) (take (kept s.sector e.reading) e.reading.given) (nat_eq (kept s.sector e.reading) 0) h))

-- and all that a rescue without a mapfile leaves, whose calls returned
pub holds_whole : (s : Setting) (m : Machine) (es : List Event) (d : Folder) → s.has_mapfile ≡ false
    → Holds s.outfile (output_after s (bytes_of (d.files s.outfile)) es)
    (after d (Returned (image_open s.outfile true) ∷ map Returned (run_calls s m es ++ end_calls s m es)))
holds_whole s m es d off =
    let start : Folder = after d (Returned (image_open s.outfile true) ∷ []) in
    let run : List Entry = map Returned (run_calls s m es) in
    let save : List Call = save_calls s.names (text_of s.line (last_snapshot s (state_after s m es))) in
    let calls : map Returned (run_calls s m es ++ end_calls s m es) ≡ run ++ Returned image_sync ∷ [] =
    ap (λ (b : Bool). map Returned (run_calls s m es ++ (if b then save else image_sync ∷ []))) off
    ∙ map-append Returned (run_calls s m es) (image_sync ∷ []) in
    let all : after start (map Returned (run_calls s m es ++ end_calls s m es)) ≡ after start run =
    ap (after start) calls ∙ after-append start run (Returned image_sync ∷ []) in
    subst (Holds s.outfile (output_after s (bytes_of (d.files s.outfile)) es)) (sym all)
    (holds_run s m es s.outfile (bytes_of (d.files s.outfile)) start off (holds_opened d s.outfile))
