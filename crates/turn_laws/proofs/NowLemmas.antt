-- What may be found of a run that is safe as its files stand, and what leaves it so.
use Rattle.std.proofs.Common.{◌≡◌, ℕ, zero, suc, ◌<◌, true, List, [], ◌∷◌, ◌++◌, length, map, get_or, Option, Some, None, refl, sym, ap, subst, ◌∙◌, arith}
use Rattle.std.specs.List.{slice_get}
use Rattle.std.proofs.lemmas.Option.{slice_get-get_or, slice_get_within}
use Rattle.block_list.specs.declared.status.Status.{Status}
use Rattle.block_list.specs.declared.status.Status.TheVariants.{Finished}
use Rattle.block_list.specs.Map.{Has}
use Rattle.faulty_source.specs.Journal.{Reading}
use Rattle.crash_site.specs.Files.{File, bytes_of}
use Rattle.crash_site.specs.Calls.{Call, Entry, Done, Failed}
use Rattle.crash_site.specs.Disk.{Showing, Disk, entered, disk_after}
use Rattle.crash_site.specs.Left.{Matches, MayShow, Leaves, until}
use Rattle.crash_site.proofs.LawLemmas.{found_only}
use Rattle.rescue_rules.specs.Setting.{Setting, place}
use Rattle.rescue_rules.specs.Start.{Stands}
use Rattle.rescue_rules.specs.Held.{Held}
use Rattle.rescue_rules.specs.Machine.{Machine}
use Rattle.rescue_rules.specs.Step.{Event}
use Rattle.rescue_rules.specs.Moves.{IsRun}
use Rattle.rescue_rules.specs.Events.{reads_of}
use Rattle.rescue_rules.specs.RunStops.{ComesTo}
use Rattle.rescue_rules.proofs.SaveStages.{one_version, shown_matches, never_none}
use Rattle.rescue_rules.proofs.HoldLemmas.{held_more, held_at_first, loose_same}
use Rattle.rescue_rules.proofs.FinishLemmas.{finished_stands}
use Rattle.turn_laws.specs.Safe.{Read, IsHeldIn}
use Rattle.turn_laws.specs.SafeNow.{IsBacked, IsSafeNow}
use Rattle.turn_laws.specs.NowLaws.{IsMapped, RestIsSafeNow}

-- what holds before each of these calls, after it if it failed, and after them all
abbrev pub EachStop : (Disk → Type 0) → Disk → List Call → Type 0
EachStop P d [] = P d
EachStop P d (c ∷ cs) =
    P d × ((steps : ℕ) → P (entered d (Failed c steps))) × EachStop P (entered d (Done c)) cs

pub each_first : (P : Disk → Type 0) (d : Disk) (cs : List Call) → EachStop P d cs → P d
each_first P d [] h = h
each_first P d (c ∷ cs) h = h.0

pub each_last : (P : Disk → Type 0) (d : Disk) (cs : List Call) → EachStop P d cs → P (disk_after d (map Done cs))
each_last P d [] h = h
each_last P d (c ∷ cs) h = each_last P (entered d (Done c)) cs h.2

pub each_then : (P : Disk → Type 0) (d : Disk) (cs more : List Call) → EachStop P d cs
    → EachStop P (disk_after d (map Done cs)) more → EachStop P d (cs ++ more)
each_then P d [] more h next = next
each_then P d (c ∷ cs) more h next = (h.0, h.1, each_then P (entered d (Done c)) cs more h.2 next)

pub each_to : (P Q : Disk → Type 0) (d : Disk) (cs : List Call) → ((e : Disk) → P e → Q e) → EachStop P d cs
    → EachStop Q d cs
each_to P Q d [] go h = go d h
each_to P Q d (c ∷ cs) go h =
    (go d h.0, (λ steps. go (entered d (Failed c steps)) (h.1 steps)), each_to P Q (entered d (Done c)) cs go h.2)

one_failed : (P : Disk → Type 0) (d : Disk) (x : Call) (steps k : ℕ) → P (entered d (Failed x steps))
    → P (disk_after d (until k (Failed x steps ∷ [])))
one_failed P d x steps zero h = h
one_failed P d x steps (suc zero) h = h
one_failed P d x steps (suc (suc k)) h = h

-- so it holds at each stop within them,
pub each_stop : (P : Disk → Type 0) (d : Disk) (cs : List Call) (es : List Entry) (k : ℕ) → EachStop P d cs
    → ComesTo cs es → P (disk_after d (until k es))
each_stop P d cs [] zero h comes = each_first P d cs h
each_stop P d cs [] (suc k) h comes = each_first P d cs h
each_stop P d [] (e ∷ es) k h comes = absurd comes
each_stop P d (c ∷ cs) (Done x ∷ es) zero h comes =
    subst (λ (z : Call). P (entered d (Failed z 0))) (sym comes.0) (h.1 0)
each_stop P d (c ∷ cs) (Done x ∷ es) (suc k) h comes =
    subst (λ (z : Call). P (disk_after (entered d (Done z)) (until k es))) (sym comes.0)
    (each_stop P (entered d (Done c)) cs es k h.2 comes.1)
each_stop P d (c ∷ cs) (Failed x steps ∷ es) k h comes =
    subst (λ (l : List Entry). P (disk_after d (until k (Failed x steps ∷ l)))) (sym comes.1)
    (one_failed P d x steps k (subst (λ (z : Call). P (entered d (Failed z steps))) (sym comes.0) (h.1 steps)))

-- and after as many of them as were made
pub each_made : (P : Disk → Type 0) (d : Disk) (cs : List Call) (es : List Entry) → EachStop P d cs → ComesTo cs es
    → P (disk_after d es)
each_made P d cs [] h comes = each_first P d cs h
each_made P d [] (e ∷ es) h comes = absurd comes
each_made P d (c ∷ cs) (Done x ∷ es) h comes =
    subst (λ (z : Call). P (disk_after (entered d (Done z)) es)) (sym comes.0)
    (each_made P (entered d (Done c)) cs es h.2 comes.1)
each_made P d (c ∷ cs) (Failed x steps ∷ es) h comes =
    subst (λ (l : List Entry). P (disk_after d (Failed x steps ∷ l))) (sym comes.1)
    (subst (λ (z : Call). P (entered d (Failed z steps))) (sym comes.0) (h.1 steps))

-- What is shown of a run's output and mapfile, whatever is lost of the output.
pub record Shown (s : Setting) (start : List ℕ) (reads : List Reading) (m : Machine) (d : Disk) : Type 0 where
  pub synced : File
  pub loose : List (ℕ × ℕ)
  pub lost : List (ℕ × ℕ)
  pub shows : d.shows s.outfile ≡ one_version synced loose lost
  pub maps : (mapfile : Option File) → MayShow (d.shows s.names.map) mapfile
      → IsBacked s start reads m.map synced.bytes loose mapfile

safe_shown : (s : Setting) (start : List ℕ) (reads : List Reading) (m : Machine) (d : Disk)
    → IsSafeNow s start reads m d → Shown s start reads m d
safe_shown s start reads m d n =
    record { synced = n.synced; loose = n.loose; lost = n.lost; shows = n.shows; maps = n.maps }

-- what is found of an output of which ranges are loose
found_file : (f : File) (loose lost : List (ℕ × ℕ)) (found : Option File) → MayShow (one_version f loose lost) found
    → (g : File) × (found ≡ Some g) × Matches f loose g
found_file f loose lost None may = absurd (never_none f loose lost may)
found_file f loose lost (Some g) may = (g, refl, shown_matches f loose lost g may)

within_old : (xs ys : List ℕ) (i : ℕ) → slice_get xs i ≡ slice_get ys i → i < length ys → i < length xs
within_old xs ys i same old = slice_get_within xs i (get_or ys i 0) (same ∙ slice_get-get_or ys i 0 old)

-- it holds what was promised by an output in which nothing promised is loose
held_apart : (s : Setting) (start : List ℕ) (reads : List Reading) (now : List Status) (f g : File)
    (loose : List (ℕ × ℕ)) (mapfile : Option File) (b : IsBacked s start reads now f.bytes loose mapfile)
    → Matches f loose g → Held s reads start b.map g.bytes
held_apart s start reads now f g loose mapfile b m = record {
  rescued = λ x byte inside is gave.
      let here : slice_get f.bytes (place s x) ≡ Some byte = b.held.rescued x byte inside is gave in
      loose_same f loose g (place s x) m (b.clear.firm x inside is) (slice_get_within f.bytes (place s x) byte here)
      ∙ here;
  stood = λ x inside is none old.
      let here : slice_get f.bytes (place s x) ≡ slice_get start (place s x) = b.held.stood x inside is none old in
      loose_same f loose g (place s x) m (b.clear.firm x inside is) (within_old f.bytes start (place s x) here old)
      ∙ here;
  outside = λ y old apart.
      let here : slice_get f.bytes y ≡ slice_get start y = b.held.outside y old apart in
      loose_same f loose g y m (b.clear.outside y old apart) (within_old f.bytes start y here old) ∙ here;
}

-- what is found of a run so shown is held
pub shown_held : (s : Setting) (start : List ℕ) (reads : List Reading) (m : Machine) (d : Disk)
    (files : List ℕ → Option File) (n : Shown s start reads m d) → Leaves d files
    → (b : IsBacked s start reads m.map n.synced.bytes n.loose (files s.names.map))
    → Held s reads start b.map (bytes_of (files s.outfile))
shown_held s start reads m d files n leaves b =
    let f : (g : File) × (files s.outfile ≡ Some g) × Matches n.synced n.loose g
    = found_file n.synced n.loose n.lost (files s.outfile)
    (subst (λ (v : Showing). MayShow v (files s.outfile)) n.shows (leaves s.outfile)) in
    subst (λ (i : List ℕ). Held s reads start b.map i) (sym (ap bytes_of f.1))
    (held_apart s start reads m.map n.synced f.0 n.loose (files s.names.map) b f.2)

-- so it is by the reads that it goes on to make
pub shown_found : (s : Setting) (start : List ℕ) (reads : List Reading) (m : Machine) (d : Disk) (es : List Event)
    (files : List ℕ → Option File) → IsMapped s m → Shown s start reads m d → IsRun s m es → Leaves d files
    → IsHeldIn s start (reads ++ reads_of es) files
shown_found s start reads m d es files by n run leaves =
    let b : IsBacked s start reads m.map n.synced.bytes n.loose (files s.names.map)
    = n.maps (files s.names.map) (leaves s.names.map) in
    record {
      map = b.map;
      has = b.has;
      held = held_more s reads (reads_of es) start b.map (bytes_of (files s.outfile))
          (λ x inside is. (finished_stands s m es x by.sensible by.order run (b.fewer x inside is)).0)
          (shown_held s start reads m d files n leaves b);
    }

-- so it is of a safe run
pub found_of : (s : Setting) (start : List ℕ) (reads : List Reading) (m : Machine) (d : Disk) (es : List Event)
    (files : List ℕ → Option File) → IsMapped s m → IsSafeNow s start reads m d → IsRun s m es → Leaves d files
    → IsHeldIn s start (reads ++ reads_of es) files
found_of s start reads m d es files by n run leaves =
    shown_found s start reads m d es files by (safe_shown s start reads m d n) run leaves

-- a map promises no more than one that finishes more
pub held_fewer : (s : Setting) (reads : List Reading) (start : List ℕ) (less more : List Status) (image : List ℕ)
    → ((x : ℕ) → s.domain x ≡ true → Has less Finished x → Has more Finished x) → Held s reads start more image
    → Held s reads start less image
held_fewer s reads start less more image fewer h = record {
  rescued = λ x byte inside is gave. h.rescued x byte inside (fewer x inside is) gave;
  stood = λ x inside is none old. h.stood x inside (fewer x inside is) none old;
  outside = h.outside;
}

pub rest_is_safe_now : RestIsSafeNow
rest_is_safe_now s began state m d alike rests stands =
    let start : List ℕ = bytes_of (d.reads.files s.outfile) in
    let bytes : rests.file.bytes ≡ start = sym (ap bytes_of rests.reads) in
    record {
      image = rests.image;
      synced = rests.file;
      loose = [];
      lost = [];
      shows = rests.output;
      now = rests.file;
      reads_as = rests.reads;
      longer = omega (arith, ap length bytes);
      current = subst (λ (i : List ℕ). Held s [] start m.map i) (sym bytes) (held_at_first s m.map start);
      unlost = record { firm = λ x inside has off. off; outside = λ y old apart off. off };
      maps = λ mapfile may.
          let is : mapfile ≡ d.reads.files s.names.map
          = found_only (d.reads.files s.names.map) mapfile
          (subst (λ (v : Showing). MayShow v mapfile) rests.mapfile may) in
          record {
            map = began;
            has = Read state (subst (λ (f : Option File). Stands f s.end began state) (sym is) stands);
            fewer = λ x inside has. (alike.each x).0 has;
            held = subst (λ (i : List ℕ). Held s [] start began i) (sym bytes) (held_at_first s began start);
            clear = record { firm = λ x inside has off. off; outside = λ y old apart off. off };
          };
    }
