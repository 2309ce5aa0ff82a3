-- How many settles and publishes the calls of a whole rescue have.
use Rattle.std.specs.Bool.{⊤}
use Rattle.std.proofs.Common.{◌≡◌, ℕ, suc, ◌+◌, Bool, true, false, nat_eq, List, [], ◌∷◌, ◌++◌, length, map, filter, Option, if◌then◌else◌, refl, sym, ap, ◌∙◌, subst, arith, append_assoc, append-nil}
use Rattle.std.specs.List.{count_by, flat_map}
use Rattle.std.proofs.lemmas.List.{map-append}
use Rattle.faulty_source.specs.Journal.{Reading, kept}
use Rattle.mapfile_text.specs.Pieces.{pieces_of}
use Rattle.crash_site.specs.declared.site.MapRead.{MapRead}
use Rattle.crash_site.specs.Files.{File}
use Rattle.crash_site.specs.Calls.{Call, Entry, Done as Returned, image_write, map_read, draft_append, draft_sync}
use Rattle.mapfile_save.specs.MapNames.{MapNames}
use Rattle.mapfile_save.specs.Saving.{begin_calls, fill_calls, publish_calls, save_calls}
use Rattle.mapfile_save.specs.Loading.{piece_size, piece_reads, BeginsLoad}
use Rattle.rescue_rules.specs.Setting.{Setting, place}
use Rattle.rescue_rules.specs.Machine.{Machine}
use Rattle.rescue_rules.specs.Step.{Event}
use Rattle.rescue_rules.specs.Moves.{Move, moves}
use Rattle.rescue_rules.specs.Snapshots.{is_due}
use Rattle.rescue_rules.specs.RunCalls.{write_calls, due_calls, move_calls, run_calls, end_calls}
use Rattle.rescue_rules.specs.Stops.{is_settle}
use Rattle.rescue_rules.specs.StopsBy.{is_publish}
use Rattle.rescue_rules.proofs.CutLemmas.{add, tally, tally_is}
use Rattle.rescue_rules.proofs.MapfileLemmas.{end_is}
use Rattle.ddrescue_cli.proofs.GoesLemmas.{settled}

-- none of these calls counts
abbrev pub Quiet : (Entry → Bool) → List Call → Type 0
Quiet f [] = ⊤
Quiet f (c ∷ cs) = (f (Returned c) ≡ false) × Quiet f cs

pub quiet_append : (f : Entry → Bool) (xs ys : List Call) → Quiet f xs → Quiet f ys → Quiet f (xs ++ ys)
quiet_append f [] ys p q = q
quiet_append f (c ∷ cs) ys p q = (p.0, quiet_append f cs ys p.1 q)

-- these calls count for so much
abbrev pub Adds : (Entry → Bool) → List Call → ℕ → Type 0
Adds f calls k = (more : List Entry) (n : ℕ) → tally f (map Returned calls ++ more) n ≡ tally f more (n + k)

pub adds_quiet : (f : Entry → Bool) (cs : List Call) → Quiet f cs → Adds f cs 0
adds_quiet f [] q more n = ap (tally f more) (let e : n ≡ n + 0 = omega arith in e)
adds_quiet f (c ∷ cs) q more n =
    ap (λ (b : Bool). tally f (map Returned cs ++ more) (add b n)) q.0 ∙ adds_quiet f cs q.1 more n

pub adds_append : (f : Entry → Bool) (xs ys : List Call) (j k l : ℕ) → Adds f xs j → Adds f ys k → j + k ≡ l → Adds f (xs ++ ys) l
adds_append f xs ys j k l p q sum more n =
    ap (λ (r : List Entry). tally f (r ++ more) n) (map-append Returned xs ys)
    ∙ ap (λ (r : List Entry). tally f r n) (append_assoc (map Returned xs) (map Returned ys) more)
    ∙ p (map Returned ys ++ more) n ∙ q more (n + j)
    ∙ ap (tally f more) (let e : n + j + k ≡ n + l = omega (arith, sum) in e)

-- the kinds of calls that come in any number don't count
pub record Ignores (f : Entry → Bool) : Type 0 where
  pub read : (name : List ℕ) (pos asked : ℕ) (answer : Option MapRead) → f (Returned (map_read name pos asked answer)) ≡ false
  pub write : (pos : ℕ) (piece : List ℕ) → f (Returned (image_write pos piece)) ≡ false
  pub append : (piece : List ℕ) → f (Returned (draft_append piece)) ≡ false

quiet_pieces : (f : Entry → Bool) (name : List ℕ) (pos : ℕ) (given : List ℕ) → Ignores f → Quiet f (piece_reads name pos given)
quiet_pieces f name pos [] i = tt
quiet_pieces f name pos (n ∷ ns) i = (i.read name pos piece_size _, quiet_pieces f name (pos + n) ns i)

pub quiet_load : (f : Entry → Bool) (name : List ℕ) (file : Option File) (load : List Call) → Ignores f
    → BeginsLoad name file load → Quiet f load
quiet_load f name file load i b =
    let P : List Call → Type 0 = λ l. Quiet f l in
    subst P (sym b.calls_are)
    (quiet_append f (piece_reads name 0 b.given) _ (quiet_pieces f name 0 b.given i) (i.read name _ piece_size b.answer, tt))

quiet_appends : (f : Entry → Bool) (ps : List (List ℕ)) → Ignores f → Quiet f (map draft_append ps)
quiet_appends f [] i = tt
quiet_appends f (p ∷ ps) i = (i.append p, quiet_appends f ps i)

-- and a save counts once
pub record CountsSaves (f : Entry → Bool) : Type 0 where
  pub ignores : Ignores f
  pub begins : (names : MapNames) → Quiet f (begin_calls names)
  pub ends : (names : MapNames) → Adds f (draft_sync ∷ publish_calls names) 1

pub adds_save : (f : Entry → Bool) (names : MapNames) (text : List ℕ) → CountsSaves f → Adds f (save_calls names text) 1
adds_save f names text c =
    adds_append f (begin_calls names) (fill_calls text ++ draft_sync ∷ publish_calls names) 0 1 1
    (adds_quiet f (begin_calls names) (c.begins names))
    (adds_append f (fill_calls text) (draft_sync ∷ publish_calls names) 0 1 1
    (adds_quiet f (fill_calls text) (quiet_appends f (pieces_of text) c.ignores)) (c.ends names) (omega arith)) (omega arith)

quiet_write : (f : Entry → Bool) (pos : ℕ) (piece : List ℕ) (none : Bool) → Ignores f
    → Quiet f (if none then [] else image_write pos piece ∷ [])
quiet_write f pos piece true i = tt
quiet_write f pos piece false i = (i.write pos piece, tt)

quiet_writes : (f : Entry → Bool) (s : Setting) (r : Reading) → Ignores f → Quiet f (write_calls s r)
quiet_writes f s r i = quiet_write f (place s r.pos) _ (nat_eq (kept s.sector r) 0) i

-- how many saves are due
abbrev pub dues : Setting → List Move → ℕ
dues s vs = length (filter (is_due s) vs)

adds_due : (f : Entry → Bool) (calls : List Call) (v : Move) (vs : List Move) (due : Bool) → Adds f calls 1
    → Adds f (if due then calls else []) (length (if due then v ∷ [] else []))
adds_due f calls v vs true one = one
adds_due f calls v vs false one = adds_quiet f [] tt

dues_more : (s : Setting) (v : Move) (vs : List Move) (due : Bool) (rest : List Move)
    → length (if due then v ∷ [] else []) + length rest ≡ length (if due then v ∷ rest else rest)
dues_more s v vs true rest = omega arith
dues_more s v vs false rest = omega arith

adds_moves : (f : Entry → Bool) (s : Setting) (vs : List Move) → CountsSaves f → Adds f (flat_map (move_calls s) vs) (dues s vs)
adds_moves f s [] c = adds_quiet f [] tt
adds_moves f s (v ∷ vs) c =
    let one : ℕ = length (if is_due s v then v ∷ [] else []) in
    adds_append f (move_calls s v) (flat_map (move_calls s) vs) one (dues s vs) (dues s (v ∷ vs))
    (adds_append f (write_calls s v.event.reading) (due_calls s v) 0 one one
    (adds_quiet f (write_calls s v.event.reading) (quiet_writes f s v.event.reading c.ignores))
    (adds_due f _ v vs (is_due s v) (adds_save f s.names _ c)) (omega arith))
    (adds_moves f s vs c) (dues_more s v vs (is_due s v) (filter (is_due s) vs))

-- and so do the calls of a run's end with a mapfile
adds_end : (f : Entry → Bool) (s : Setting) (m : Machine) (events : List Event) → s.has_mapfile ≡ true → CountsSaves f
    → Adds f (end_calls s m events) 1
adds_end f s m events on c = subst (λ (calls : List Call). Adds f calls 1) (sym (end_is s m events on)) (adds_save f s.names _ c)

-- the calls after the barrier
abbrev pub run_entries : Setting → (load : List Call) → Machine → List Event → List Entry
run_entries s load m events = map Returned load ++ map Returned (run_calls s m events ++ end_calls s m events)

tally_run : (f : Entry → Bool) (s : Setting) (file : Option File) (load : List Call) (m : Machine) (events : List Event) (n : ℕ)
    → s.has_mapfile ≡ true → CountsSaves f → BeginsLoad s.names.map file load
    → tally f (run_entries s load m events) n ≡ n + (dues s (moves s m events) + 1)
tally_run f s file load m events n on c b =
    let run : List Call = run_calls s m events ++ end_calls s m events in
    let k : ℕ = dues s (moves s m events) in
    let all : Adds f run (k + 1) = adds_append f (run_calls s m events) (end_calls s m events) k 1 (k + 1)
    (adds_moves f s (moves s m events) c) (adds_end f s m events on c) refl in
    adds_quiet f load (quiet_load f s.names.map file load c.ignores b) (map Returned run) n
    ∙ ap (λ (r : List Entry). tally f r (n + 0)) (sym (append-nil (map Returned run)))
    ∙ all [] (n + 0) ∙ (let e : n + 0 + (k + 1) ≡ n + (k + 1) = omega arith in e)

pub settles : CountsSaves is_settle
settles = record {
  ignores = record { read = λ name pos asked answer. refl; write = λ pos piece. refl; append = λ piece. refl };
  begins = λ names. (refl, (refl, tt));
  ends = λ names more n. ap (tally is_settle more) (let e : suc n ≡ n + 1 = omega arith in e);
}

pub publishes : CountsSaves is_publish
publishes = record {
  ignores = record { read = λ name pos asked answer. refl; write = λ pos piece. refl; append = λ piece. refl };
  begins = λ names. (refl, (refl, tt));
  ends = λ names more n. ap (tally is_publish more) (let e : suc n ≡ n + 1 = omega arith in e);
}

-- one settle in the barrier, and one in each save
pub settles_once_more : (s : Setting) (file : Option File) (load : List Call) (m : Machine) (events : List Event)
    → s.has_mapfile ≡ true → BeginsLoad s.names.map file load
    → count_by is_settle (settled s ++ run_entries s load m events) ≡ 1 + (dues s (moves s m events) + 1)
settles_once_more s file load m events on b =
    tally_is is_settle (settled s ++ run_entries s load m events) ∙ tally_run is_settle s file load m events 1 on settles b

-- one publish in each save
pub publishes_each : (s : Setting) (file : Option File) (load : List Call) (m : Machine) (events : List Event)
    → s.has_mapfile ≡ true → BeginsLoad s.names.map file load
    → count_by is_publish (settled s ++ run_entries s load m events) ≡ dues s (moves s m events) + 1
publishes_each s file load m events on b =
    tally_is is_publish (settled s ++ run_entries s load m events) ∙ tally_run is_publish s file load m events 0 on publishes b
    ∙ (let e : 0 + (dues s (moves s m events) + 1) ≡ dues s (moves s m events) + 1 = omega arith in e)
