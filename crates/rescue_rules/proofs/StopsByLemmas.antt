-- The calls of a run after its barrier, and what is known of the run.
use Rattle.std.proofs.Common.{◌≡◌, ℕ, zero, suc, ◌+◌, ◌-◌, Bool, true, false, ◌||◌, List, [], ◌∷◌, ◌++◌, take, Option, None, refl, sym, ◌∙◌, ap, subst, arith, append_assoc}
use Rattle.std.specs.List.{list_any, count_by}
use Rattle.block_list.specs.declared.status.Status.{Status}
use Rattle.mapfile_text.specs.declared.state.MapState.{MapState}
use Rattle.crash_site.specs.declared.site.MapRead.{MapRead}
use Rattle.crash_site.specs.Files.{File}
use Rattle.crash_site.specs.Calls.{Call, Entry, Done, Failed, image_open, image_sync, map_read, map_settle}
use Rattle.crash_site.specs.Folder.{Folder}
use Rattle.crash_site.specs.Disk.{Disk, at_rest, disk_after}
use Rattle.crash_site.specs.Left.{until}
use Rattle.crash_site.proofs.DiskLemmas.{run_reads}
use Rattle.mapfile_save.specs.Loading.{piece_size, piece_reads}
use Rattle.rescue_rules.specs.Setting.{Setting}
use Rattle.rescue_rules.specs.Start.{Stands}
use Rattle.rescue_rules.specs.Snapshots.{Snapshot}
use Rattle.rescue_rules.specs.Deeds.{Deed, saves_in, Outlasts}
use Rattle.rescue_rules.specs.Stops.{Before, files_before, is_sync, is_settle, is_write, has_barrier}
use Rattle.rescue_rules.specs.StopsBy.{is_publish}
use Rattle.rescue_rules.proofs.StandsLemmas.{stands_for_one}
use Rattle.rescue_rules.proofs.CutLemmas.{Cut, add, tally, tally_is, Each}
use Rattle.rescue_rules.proofs.MapfileLemmas.{opening_by}
use Rattle.rescue_rules.proofs.BeforeLemmas.{disk_before}
use Rattle.rescue_rules.proofs.DeedStages.{all_calls}
use Rattle.rescue_rules.proofs.KeepLemmas.{KeepsMaps, Promise, Free}
use Rattle.rescue_rules.proofs.OthersLemmas.{reads_of}

-- what reads before a run
pub reads_before : (b : Before) (name : List ℕ) → (disk_before b).reads.files name ≡ files_before b name
reads_before b name = ap (λ (r : Folder). r.files name) (run_reads (at_rest b.start) b.earlier)

-- loads change nothing
module _ (P : ℕ → ℕ → ℕ → Disk → Type 0) where
  each_piece_read : (name : List ℕ) (pos : ℕ) (given : List ℕ) (d : Disk) (rest : List Call)
      → P 0 0 0 d → Each P 0 0 0 d rest → Each P 0 0 0 d (piece_reads name pos given ++ rest)
  each_piece_read name pos [] d rest f h = h
  each_piece_read name pos (n ∷ ns) d rest f h = (f, (λ steps. f), each_piece_read name (pos + n) ns d rest f h)

  pub each_load : (name : List ℕ) (given : List ℕ) (at : ℕ) (answer : Option MapRead) (d : Disk)
      (rest : List Call) → P 0 0 0 d → Each P 0 0 0 d rest
      → Each P 0 0 0 d ((piece_reads name 0 given ++ map_read name at piece_size answer ∷ []) ++ rest)
  each_load name given at answer d rest f h =
      subst (λ (l : List Call). Each P 0 0 0 d l)
      (sym (append_assoc (piece_reads name 0 given) (map_read name at piece_size answer ∷ []) rest))
      (each_piece_read name 0 given d (map_read name at piece_size answer ∷ rest) f (f, (λ steps. f), h))

-- the calls after a barrier that has returned
pub record Past (s : Setting) (makes : Bool) (tail : List Call) (es : List Entry) (k : ℕ) : Type 0 where
  pub rest : List Entry
  pub j : ℕ
  pub es_is : es ≡ Done (image_open s.outfile makes) ∷ Done (map_settle s.names.map) ∷ Done image_sync ∷ rest
  pub k_is : k ≡ suc (suc (suc j))
  pub cut : Cut tail rest

-- a call of a cut that has returned
pub record Peeled (c : Call) (tail : List Call) (es : List Entry) (k : ℕ) : Type 0 where
  pub rest : List Entry
  pub j : ℕ
  pub es_is : es ≡ Done c ∷ rest
  pub k_is : k ≡ suc j
  pub cut : Cut tail rest

pub peel : (c : Call) (tail : List Call) (es : List Entry) (k : ℕ) → Cut (c ∷ tail) es → has_barrier (take k es) ≡ true
    → Peeled c tail es k
peel c tail [] (suc k) cut is = absurd (cc)
peel c tail (Failed x steps ∷ es) (suc zero) cut is = absurd (cc)
peel c tail (Failed x steps ∷ es) (suc (suc k)) cut is =
    absurd (let none : has_barrier (take (suc k) []) ≡ true = subst
    (λ (l : List Entry). has_barrier (take (suc k) l) ≡ true) cut.1 is in cc)
peel c tail (Done x ∷ es) (suc k) cut is =
    record { rest = es; j = k; es_is = ap (λ (z : Call). Done z ∷ es) cut.0; k_is = refl; cut = cut.1 }
peel c tail _ zero cut is = absurd (cc)

other_test : (a b : Bool) → a ≡ false → (a || b) ≡ true → b ≡ true
other_test true b off is = absurd (cc)
other_test false b off is = is

-- the barrier is in what follows a call that is none
pub barrier_after : (c : Call) (tail : List Call) (es : List Entry) (k : ℕ) → is_sync (Done c) ≡ false
    → (p : Peeled c tail es k) → has_barrier (take k es) ≡ true
    → has_barrier (take p.j p.rest) ≡ true
barrier_after c tail es k off p is =
    let here : has_barrier (take (suc p.j) (Done c ∷ p.rest)) ≡ true
    = subst (λ (m : ℕ). has_barrier (take m (Done c ∷ p.rest)) ≡ true) p.k_is
    (subst (λ (l : List Entry). has_barrier (take k l) ≡ true) p.es_is is) in
    other_test (is_sync (Done c)) (has_barrier (take p.j p.rest)) off here

pub past : (s : Setting) (makes : Bool) (tail : List Call) (es : List Entry) (k : ℕ)
    → Cut (opening_by s makes ++ tail) es
    → has_barrier (take k es) ≡ true → Past s makes tail es k
past s makes tail es k cut is =
    let p1 = peel (image_open s.outfile makes) (map_settle s.names.map ∷ image_sync ∷ tail) es k cut is in
    let is1 = barrier_after (image_open s.outfile makes) (map_settle s.names.map ∷ image_sync ∷ tail) es k refl p1 is in
    let p2 = peel (map_settle s.names.map) (image_sync ∷ tail) p1.rest p1.j p1.cut is1 in
    let is2 = barrier_after (map_settle s.names.map) (image_sync ∷ tail) p1.rest p1.j refl p2 is1 in
    let p3 = peel image_sync tail p2.rest p2.j p2.cut is2 in
    record {
      rest = p3.rest;
      j = p3.j;
      es_is = p1.es_is
          ∙ ap (λ (l : List Entry). Done (image_open s.outfile makes) ∷ l)
          (p2.es_is ∙ ap (λ (l : List Entry). Done (map_settle s.names.map) ∷ l) p3.es_is);
      k_is = p1.k_is ∙ ap suc (p2.k_is ∙ ap suc p3.k_is);
      cut = p3.cut;
    }

tally_add : (f : Entry → Bool) (es : List Entry) (b : Bool) (n : ℕ) → ((m : ℕ) → tally f es (suc m) ≡ suc (tally f es m))
    → tally f es (add b (suc n)) ≡ suc (tally f es (add b n))
tally_add f es true n more = more (suc n)
tally_add f es false n more = more n

pub tally_more : (f : Entry → Bool) (es : List Entry) (n : ℕ) → tally f es (suc n) ≡ suc (tally f es n)
tally_more f [] n = refl
tally_more f (e ∷ es) n = tally_add f es (f e) n (λ m. tally_more f es m)

un_step : (f : Entry → Bool) (es : List Entry) (b : Bool) → (b || list_any f es) ≡ false
    → (list_any f es ≡ false → tally f es 0 ≡ 0) → tally f es (add b 0) ≡ 0
un_step f es true none later = absurd (cc)
un_step f es false none later = later none

-- no write among these
pub uncounted : (f : Entry → Bool) (es : List Entry) → list_any f es ≡ false → tally f es 0 ≡ 0
uncounted f [] none = refl
uncounted f (e ∷ es) none = un_step f es (f e) none (uncounted f es)

-- what holds where so many calls have returned
abbrev pub AtStop : (P : ℕ → ℕ → ℕ → Disk → Type 0) → Disk → List Entry → ℕ → Type 0
AtStop P d es k =
    P (count_by is_settle (take k es) - 1) (count_by is_publish (take (suc k) es))
    (count_by is_write (take (suc k) es)) (disk_after d (until k es))

pub tallied : (P : ℕ → ℕ → ℕ → Disk → Type 0) (d : Disk) (es : List Entry) (k r : ℕ)
    → tally is_settle (take k es) 0 ≡ suc r
    → P r (tally is_publish (take (suc k) es) 0) (tally is_write (take (suc k) es) 0) (disk_after d (until k es))
    → AtStop P d es k
tallied P d es k r is h =
    let less : r ≡ count_by is_settle (take k es) - 1 = omega (arith, is, tally_is is_settle (take k es)) in
    subst (λ (n : ℕ). P n (count_by is_publish (take (suc k) es)) (count_by is_write (take (suc k) es))
    (disk_after d (until k es))) less
    (subst (λ (p : ℕ). P r p (count_by is_write (take (suc k) es)) (disk_after d (until k es)))
    (sym (tally_is is_publish (take (suc k) es)))
    (subst (λ (w : ℕ). P r (tally is_publish (take (suc k) es) 0) w (disk_after d (until k es)))
    (sym (tally_is is_write (take (suc k) es))) h))

-- calls that are a cut of an opening, a load and a run
pub record CutOf (s : Setting) (makes : Bool) (deeds : List Deed) (last : Snapshot) (calls : List Entry) : Type 0 where
  pub given : List ℕ
  pub at : ℕ
  pub answer : Option MapRead
  pub cut : Cut (opening_by s makes ++ (reads_of s given at answer ++ all_calls s deeds last)) calls

-- What is known of a run over a map and an output: it makes these calls and saves, and keeps up with what it promises.
pub record SafeRun (promise : ℕ → List Status → List ℕ → Type 0) (free : ℕ → List Status → ℕ → Type 0) (makes : Bool)
    (s : Setting) (old : List ℕ) (began : List Status) (saves : List Snapshot) (calls : List Entry) : Type 0 where
  pub deeds : List Deed
  pub last : Snapshot
  pub saves_are : saves ≡ saves_in deeds last
  pub outlasts : Outlasts (Promise promise free began saves) (Free promise free began saves) old
  pub first : promise 0 began old
  pub keeps : KeepsMaps promise free 0 began old deeds last
  pub course : CutOf s makes deeds last calls

-- so it is over any map, where none was read, or over the one that the mapfile stands for
pub data OverMaps (holds : List Status → Option MapState → Type 0) (mapfile : Option File) (end : ℕ) : Type 0 where
  AnyMap : ((began : List Status) (state : Option MapState) → holds began state) → OverMaps holds mapfile end
  OneMap : (began : List Status) (state : Option MapState) → Stands mapfile end began state → holds began state
      → OverMaps holds mapfile end

-- over maps, what holds leads to what follows from it
pub along : (one two : List Status → Option MapState → Type 0) (mapfile : Option File) (end : ℕ)
    → ((began : List Status) (state : Option MapState) → one began state → two began state)
    → OverMaps one mapfile end → OverMaps two mapfile end
along one two mapfile end to (AnyMap any) = AnyMap (λ began state. to began state (any began state))
along one two mapfile end to (OneMap map at was p) = OneMap map at was (to map at p)

pub holds_over : (holds : List Status → Option MapState → Type 0) (mapfile : Option File) (end : ℕ) (began : List Status)
    (state : Option MapState) → OverMaps holds mapfile end → Stands mapfile end began state → holds began state
holds_over holds mapfile end began state (AnyMap any) stands = any began state
holds_over holds mapfile end began state (OneMap map at was p) stands =
    let same = stands_for_one mapfile end map began at state was stands in
    subst (λ (n : Option MapState). holds began n) same.1 (subst (λ (m : List Status). holds m at) same.0 p)

pub holds_over_some : (holds : List Status → Option MapState → Type 0) (mapfile : Option File) (end : ℕ)
    → OverMaps holds mapfile end
    → (began : List Status) × (state : Option MapState) × holds began state
holds_over_some holds mapfile end (AnyMap any) = ([], None, any [] None)
holds_over_some holds mapfile end (OneMap map at was p) = (map, at, p)
