-- What a map promises of the output as a run goes on.
use Rattle.std.proofs.Common.{◌≡◌, ◌⊎◌, ℕ, ◌+◌, ◌-◌, ◌<◌, ◌≤◌, true, false, nat_eq, List, [], ◌∷◌, ◌++◌, length, take, map, get_or, Some, None, refl, sym, ap, subst, ◌∙◌, arith, inl, inr, ⊎_elim, append_assoc, append-nil}
use Rattle.std.specs.List.{slice_get}
use Rattle.std.proofs.lemmas.Bool.{cases_lt, cases_Bool, eqb-true, cond_both, true≢false}
use Rattle.std.proofs.lemmas.List.{length-take-le}
use Rattle.std.proofs.lemmas.Option.{slice_get-get_or, slice_get_within, none-some}
use Rattle.block_list.specs.declared.status.Status.{Status}
use Rattle.block_list.specs.declared.status.Status.TheVariants.{Finished}
use Rattle.block_list.specs.Map.{Has}
use Rattle.faulty_source.specs.Journal.{Reading, kept, covers}
use Rattle.crash_site.specs.Files.{File, written}
use Rattle.crash_site.specs.Left.{IsLoose, Matches}
use Rattle.rescue_rules.specs.Setting.{Setting, IsSensible, place}
use Rattle.rescue_rules.specs.Machine.{Machine}
use Rattle.rescue_rules.specs.Step.{Event, step}
use Rattle.rescue_rules.specs.Moves.{ready, move_of, state_after, IsRun}
use Rattle.rescue_rules.specs.Events.{reads_of}
use Rattle.rescue_rules.specs.RunCalls.{output_by, output_after}
use Rattle.rescue_rules.specs.Given.{given}
use Rattle.rescue_rules.specs.Held.{Held}
use Rattle.rescue_rules.specs.MachineLaws.{IsInOrder, StepsBy, RunHolds}
use Rattle.rescue_rules.proofs.MarkLemmas.{slice_get-take}
use Rattle.rescue_rules.proofs.WriteLemmas.{length-written, written_inside, written_outside}
use Rattle.rescue_rules.proofs.GivenLemmas.{covers_here, Covered, covered_here, kept_given, given_before, given_after, given_off}
use Rattle.rescue_rules.proofs.StepLemmas.{wanted_domain}
use Rattle.rescue_rules.proofs.MoveLemmas.{run_rest}
use Rattle.rescue_rules.proofs.ReadyLemmas.{stays_ready}
use Rattle.rescue_rules.proofs.FinishLemmas.{run_steps}

-- The image of an event's read: what is kept of it stands at its place, and all else stood.
pub length-output_by : (s : Setting) (image : List ℕ) (r : Reading) → length image ≤ length (output_by s image r)
length-output_by s image r =
    cond_both (nat_eq (kept s.sector r) 0) image (written image (place s r.pos) (take (kept s.sector r) r.given))
    (λ (bytes : List ℕ). length image ≤ length bytes)
    (λ none. omega arith)
    (λ some. (length-written image (place s r.pos) (take (kept s.sector r) r.given)).0)

output_apart : (s : Setting) (image : List ℕ) (r : Reading) (y : ℕ) → y < length image
    → (y < place s r.pos) ⊎ (place s r.pos + kept s.sector r ≤ y) → slice_get (output_by s image r) y ≡ slice_get image y
output_apart s image r y within apart =
    cond_both (nat_eq (kept s.sector r) 0) image (written image (place s r.pos) (take (kept s.sector r) r.given))
    (λ (bytes : List ℕ). slice_get bytes y ≡ slice_get image y)
    (λ none. refl)
    (λ some. written_outside image (place s r.pos) (take (kept s.sector r) r.given) y within
    (⊎_elim (λ (lt : y < place s r.pos). inl lt)
    (λ (ge : place s r.pos + kept s.sector r ≤ y).
    inr (omega (arith, length-take-le (kept s.sector r) r.given (kept_given s.sector r)))) apart))

output_here : (s : Setting) (image : List ℕ) (r : Reading) (y k : ℕ) → place s r.pos + k ≡ y → k < kept s.sector r
    → slice_get (output_by s image r) y ≡ slice_get r.given k
output_here s image r y k at lt =
    cond_both (nat_eq (kept s.sector r) 0) image (written image (place s r.pos) (take (kept s.sector r) r.given))
    (λ (bytes : List ℕ). slice_get bytes y ≡ slice_get r.given k)
    (λ none. absurd (omega (arith, eqb-true (kept s.sector r) 0 none)))
    (λ some. written_inside image (place s r.pos) (take (kept s.sector r) r.given) y k at
    (omega (arith, length-take-le (kept s.sector r) r.given (kept_given s.sector r)))
    ∙ slice_get-take (kept s.sector r) r.given k lt)

-- a read of positions of the domain alone
record OfDomain (s : Setting) (r : Reading) : Type 0 where
  low : s.input_position ≤ r.pos
  each : (x : ℕ) → r.pos ≤ x → x < r.pos + kept s.sector r → s.domain x ≡ true

move_of_domain : (s : Setting) (ok : IsSensible s) (m : Machine) (e : Event) → StepsBy s m e → OfDomain s e.reading
move_of_domain s ok m e b =
    let r : Reading = e.reading in record {
      low = ok.from r.pos (wanted_domain s m r.pos (b.wanted r.pos (omega arith) (omega (arith, b.some))));
      each = λ x from to. wanted_domain s m x (b.wanted x from (omega (arith, b.kept_asked)));
    }

-- a position that it doesn't cover has its place outside
place_apart : (s : Setting) (r : Reading) (x : ℕ) → OfDomain s r → s.input_position ≤ x → covers s.sector r x ≡ false
    → (place s x < place s r.pos) ⊎ (place s r.pos + kept s.sector r ≤ place s x)
place_apart s r x d low off =
    ⊎_elim (λ (lt : x < r.pos). inl (omega (arith, d.low)))
    (λ (from : r.pos ≤ x). ⊎_elim
    (λ (to : x < r.pos + kept s.sector r). absurd (true≢false (sym (covers_here s.sector r x from to) ∙ off)))
    (λ (ge : r.pos + kept s.sector r ≤ x). inr (omega (arith, d.low)))
    (cases_lt x (r.pos + kept s.sector r)))
    (cases_lt x r.pos)

-- and a place that no position of the domain has is outside too
other_apart : (s : Setting) (r : Reading) (y : ℕ) → OfDomain s r → ((x : ℕ) → s.domain x ≡ true → place s x ≡ y → ⊥)
    → (y < place s r.pos) ⊎ (place s r.pos + kept s.sector r ≤ y)
other_apart s r y d apart =
    ⊎_elim (λ (lt : y < place s r.pos). inl lt)
    (λ (from : place s r.pos ≤ y). ⊎_elim
    (λ (to : y < place s r.pos + kept s.sector r).
    let x : ℕ = r.pos + (y - place s r.pos) in
    absurd (apart x (d.each x (omega arith) (omega arith)) (omega (arith, d.low))))
    (λ (ge : place s r.pos + kept s.sector r ≤ y). inr ge)
    (cases_lt y (place s r.pos + kept s.sector r)))
    (cases_lt y (place s r.pos))

-- A map that holds goes on to hold when an event's read is written.
held_covered : (s : Setting) (ok : IsSensible s) (front : List Reading) (image : List ℕ) (r : Reading) (x : ℕ)
    → OfDomain s r → s.input_position ≤ x → covers s.sector r x ≡ true
    → slice_get (output_by s image r) (place s x) ≡ given s.sector (front ++ r ∷ []) x
held_covered s ok front image r x d low covered =
    let c : Covered s.sector r x = covered_here s.sector r x covered in
    output_here s image r (place s x) (x - r.pos) (omega (arith, c.from, d.low)) (omega (arith, c.from, c.to))
    ∙ sym (given_after s.sector front r x covered)

-- a position that a read covers was given
covered_given : (s : Setting) (front : List Reading) (r : Reading) (x : ℕ) → covers s.sector r x ≡ true
    → given s.sector (front ++ r ∷ []) x ≡ None → ⊥
covered_given s front r x covered none =
    let c : Covered s.sector r x = covered_here s.sector r x covered in
    none-some (get_or r.given (x - r.pos) 0)
    (sym none ∙ given_after s.sector front r x covered
    ∙ slice_get-get_or r.given (x - r.pos) 0 (omega (arith, c.from, c.to, kept_given s.sector r)))

-- what is finished after a move and not covered by it was finished before it
uncovered_finished : (s : Setting) (m : Machine) (e : Event) (x : ℕ) → StepsBy s m e → covers s.sector e.reading x ≡ false
    → Has (step s m e).map Finished x → Has m.map Finished x
uncovered_finished s m e x b off is =
    ⊎_elim (λ (before : Has m.map Finished x). before)
    (λ (on : covers s.sector e.reading x ≡ true). absurd (true≢false (sym on ∙ off)))
    (b.only x is)

pub held_by_step : (s : Setting) (ok : IsSensible s) (m : Machine) (e : Event) (front : List Reading) (old image : List ℕ)
    → StepsBy s m e → length old ≤ length image → Held s front old m.map image
    → Held s (front ++ e.reading ∷ []) old (step s m e).map (output_by s image e.reading)
held_by_step s ok m e front old image b longer h =
    let r : Reading = e.reading in
    let d : OfDomain s r = move_of_domain s ok m e b in
    record {
      rescued = λ x byte inside is gave. ⊎_elim
          (λ (on : covers s.sector r x ≡ true). held_covered s ok front image r x d (ok.from x inside) on ∙ gave)
          (λ (off : covers s.sector r x ≡ false).
          let before : slice_get image (place s x) ≡ Some byte
          = h.rescued x byte inside (uncovered_finished s m e x b off is) (sym (given_off s.sector front r x off) ∙ gave) in
          output_apart s image r (place s x) (slice_get_within image (place s x) byte before)
          (place_apart s r x d (ok.from x inside) off)
          ∙ before)
          (cases_Bool (covers s.sector r x));
      stood = λ x inside is none old_place. ⊎_elim
          (λ (on : covers s.sector r x ≡ true). absurd (covered_given s front r x on none))
          (λ (off : covers s.sector r x ≡ false).
          output_apart s image r (place s x) (omega arith) (place_apart s r x d (ok.from x inside) off)
          ∙ h.stood x inside (uncovered_finished s m e x b off is) (sym (given_off s.sector front r x off) ∙ none) old_place)
          (cases_Bool (covers s.sector r x));
      outside = λ y old_place apart.
          output_apart s image r y (omega arith) (other_apart s r y d apart) ∙ h.outside y old_place apart;
    }

-- reads that give nothing for finished positions leave a map's promise
pub held_more : (s : Setting) (front back : List Reading) (old : List ℕ) (map : List Status) (image : List ℕ)
    → ((x : ℕ) → s.domain x ≡ true → Has map Finished x → given s.sector back x ≡ None)
    → Held s front old map image → Held s (front ++ back) old map image
held_more s front back old map image none h = record {
  rescued = λ x b inside is gave.
      h.rescued x b inside is (sym (given_before s.sector front back x (none x inside is)) ∙ gave);
  stood = λ x inside is unread old_place.
      h.stood x inside is (sym (given_before s.sector front back x (none x inside is)) ∙ unread) old_place;
  outside = h.outside;
}

-- a place that may be written while a map's promise holds: that of a position of the domain that isn't finished
pub record Unfinished (s : Setting) (map : List Status) (y : ℕ) : Type 0 where
  pub x : ℕ
  pub inside : s.domain x ≡ true
  pub unfinished : Has map Finished x → ⊥
  pub at : place s x ≡ y

-- such a file matches another in all but such places
pub loose_same : (f : File) (loose : List (ℕ × ℕ)) (g : File) (y : ℕ) → Matches f loose g → (IsLoose loose y → ⊥)
    → y < length f.bytes → slice_get g.bytes y ≡ slice_get f.bytes y
loose_same f loose g y m firm within =
    ⊎_elim (λ (off : IsLoose loose y). absurd (firm off))
    (λ (e : get_or g.bytes y 0 ≡ get_or f.bytes y 0).
    slice_get-get_or g.bytes y 0 (omega (arith, m.no_shorter)) ∙ ap (λ (b : ℕ). Some b) e
    ∙ sym (slice_get-get_or f.bytes y 0 within))
    (m.stands y within)

finished_firm : (s : Setting) (ok : IsSensible s) (map : List Status) (loose : List (ℕ × ℕ)) (x : ℕ)
    → ((y : ℕ) → IsLoose loose y → Unfinished s map y) → s.domain x ≡ true → Has map Finished x
    → IsLoose loose (place s x) → ⊥
finished_firm s ok map loose x owned inside is off =
    let u : Unfinished s map (place s x) = owned (place s x) off in
    let one : x ≡ u.x = omega (arith, u.at, ok.from x inside, ok.from u.x u.inside) in
    u.unfinished (subst (λ (z : ℕ). Has map Finished z) one is)

pub held_loose : (s : Setting) (ok : IsSensible s) (reads : List Reading) (old : List ℕ) (map : List Status) (f : File)
    (loose : List (ℕ × ℕ)) (g : File) → Matches f loose g → ((y : ℕ) → IsLoose loose y → Unfinished s map y)
    → length old ≤ length f.bytes → Held s reads old map f.bytes
    → Held s reads old map g.bytes × (length old ≤ length g.bytes)
held_loose s ok reads old map f loose g m owned longer h = (
  record {
    rescued = λ x b inside is gave.
        let here : slice_get f.bytes (place s x) ≡ Some b = h.rescued x b inside is gave in
        loose_same f loose g (place s x) m (finished_firm s ok map loose x owned inside is)
        (slice_get_within f.bytes (place s x) b here)
        ∙ here;
    stood = λ x inside is none old_place.
        loose_same f loose g (place s x) m (finished_firm s ok map loose x owned inside is) (omega arith)
        ∙ h.stood x inside is none old_place;
    outside = λ y old_place apart.
        loose_same f loose g y m (λ off. apart (owned y off).x (owned y off).inside (owned y off).at) (omega arith)
        ∙ h.outside y old_place apart;
  },
  omega (arith, m.no_shorter),
)

-- the same over an event of a run
pub held_by_event : (s : Setting) (ok : IsSensible s) (m : Machine) (e : Event) (es : List Event) (front : List Reading)
    (old image : List ℕ) → IsInOrder s m → IsRun s m (e ∷ es) → length old ≤ length image → Held s front old m.map image
    → Held s (front ++ e.reading ∷ []) old (move_of s m e).after.map (output_by s image e.reading)
held_by_event s ok m e es front old image order run longer h =
    held_by_step s ok (ready s m) e front old image (run_steps s ok m e es order run) longer
    (subst (λ (map : List Status). Held s front old map image) (sym (stays_ready s m).map) h)

-- and over a run
pub held_by_run : (s : Setting) (ok : IsSensible s) (m : Machine) (es : List Event) (front : List Reading)
    (old image : List ℕ) → IsInOrder s m → IsRun s m es → length old ≤ length image → Held s front old m.map image
    → Held s (front ++ reads_of es) old (state_after s m es).map (output_after s image es)
    × (length old ≤ length (output_after s image es))
held_by_run s ok m [] front old image order run longer h =
    (subst (λ (reads : List Reading). Held s reads old m.map image) (sym (append-nil front)) h, longer)
held_by_run s ok m (e ∷ es) front old image order run longer h =
    let n : Machine = (move_of s m e).after in
    let next : List ℕ = output_by s image e.reading in
    let later : Held s ((front ++ e.reading ∷ []) ++ reads_of es) old (state_after s n es).map (output_after s next es)
    × (length old ≤ length (output_after s next es))
    = held_by_run s ok n es (front ++ e.reading ∷ []) old next (run_steps s ok m e es order run).order
    (run_rest s m e es run) (omega (arith, length-output_by s image e.reading))
    (held_by_event s ok m e es front old image order run longer h) in (
      subst (λ (reads : List Reading). Held s reads old (state_after s n es).map (output_after s next es))
          (append_assoc front (e.reading ∷ []) (reads_of es)) later.0,
      later.1,
    )

-- before any read a map holds with what stood there
pub held_at_first : (s : Setting) (map : List Status) (old : List ℕ) → Held s [] old map old
held_at_first s map old = record {
  rescued = λ x b inside is gave. absurd (none-some b gave);
  stood = λ x inside is none old_place. refl;
  outside = λ y old_place apart. refl;
}

pub run_holds : RunHolds
run_holds s m es old ok order run =
    (held_by_run s ok m es [] old old order run (omega arith) (held_at_first s m.map old)).0
