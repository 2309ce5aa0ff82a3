-- What an event does to a position.
use Rattle.std.proofs.Common.{◌≡◌, ◌⊎◌, ℕ, ◌+◌, ◌-◌, ◌<◌, ◌≤◌, true, false, List, length, refl, ap, subst, ◌∙◌, arith, inl, inr, ⊎_elim}
use Rattle.std.specs.List.{slice_get}
use Rattle.std.proofs.lemmas.Bool.{cases_lt, cond_both, cond-true}
use Rattle.block_list.specs.declared.status.Status.{Status}
use Rattle.block_list.specs.declared.status.Status.TheVariants.{NonTrimmed, NonScraped, Finished}
use Rattle.block_list.specs.Map.{Has, marked}
use Rattle.block_list.proofs.Places.{length-marked}
use Rattle.faulty_source.specs.Ends.{is_before}
use Rattle.faulty_source.specs.Journal.{Reading, is_failed, kept}
use Rattle.rescue_rules.specs.declared.stop.TrimMode.{TrimMode}
use Rattle.rescue_rules.specs.declared.stop.TrimMode.TheVariants.{Lead, Tail}
use Rattle.rescue_rules.specs.declared.phase.Phase.{Phase}
use Rattle.rescue_rules.specs.Setting.{Setting, IsSensible}
use Rattle.rescue_rules.specs.Passes.{taken}
use Rattle.rescue_rules.specs.Machine.{Machine, pass_of, IsRequest}
use Rattle.rescue_rules.specs.Step.{Event, is_trimming, rest_status, scraped, over_after, step}
use Rattle.rescue_rules.specs.MachineLaws.{IsInOrder, StepsBy, AsksFor}
use Rattle.rescue_rules.proofs.MarkLemmas.{marked_inside, marked_outside}
use Rattle.rescue_rules.proofs.OverLemmas.{good_reaches}
use Rattle.rescue_rules.proofs.StatusLemmas.{wanted_taken}
use Rattle.rescue_rules.proofs.StepLemmas.{asks_back, tail_trims, trims_is, with_kept}

-- A position that was asked for is finished, or was missed by a read that failed, or stands and isn't left of the domain
-- any more. One that wasn't asked for lies between the front and the back of a range that is trimmed, and is left for
-- scraping, or it stands.
pub data Change (s : Setting) (m : Machine) (r : Reading) (map : List Status) (x : ℕ) : Type 0 where
  Kept : AsksFor r x → Has map Finished x → Change s m r map x
  Missed : AsksFor r x → is_failed r ≡ true → (size : ℕ) → Has map (rest_status s m size) x → Change s m r map x
  CutOff : AsksFor r x → (is_before (over_after m r) x ≡ true → ⊥) → slice_get map x ≡ slice_get m.map x
      → Change s m r map x
  Between : (AsksFor r x → ⊥) → is_trimming m ≡ true → Has m.map NonTrimmed x → Has map NonScraped x
      → Change s m r map x
  Stands : (AsksFor r x → ⊥) → slice_get map x ≡ slice_get m.map x → Change s m r map x

-- what is marked for scraping at a range's back lies before the read,
pub scraped_past : (mode : TrimMode) (p : ℕ) (map : List Status) (x : ℕ) → p ≤ length map
    → ((low : ℕ) → mode ≡ Tail low → low ≤ p) → p ≤ x → slice_get (scraped mode p map) x ≡ slice_get map x
scraped_past Lead p map x there back from = refl
scraped_past (Tail low) p map x there back from =
    let le : low ≤ p = back low refl in
    marked_outside map low (p - low) NonScraped x (omega arith) (inr (omega arith))

-- and not before the range's beginning
scraped_before : (mode : TrimMode) (p : ℕ) (map : List Status) (x : ℕ) → p ≤ length map
    → ((low : ℕ) → mode ≡ Tail low → low ≤ p) → x < p → (slice_get (scraped mode p map) x ≡ slice_get map x)
    ⊎ ((low : ℕ) × (mode ≡ Tail low) × (low ≤ x) × Has (scraped mode p map) NonScraped x)
scraped_before Lead p map x there back to = inl refl
scraped_before (Tail low) p map x there back to =
    let le : low ≤ p = back low refl in
    ⊎_elim (λ (lt : x < low). inl (marked_outside map low (p - low) NonScraped x (omega arith) (inl lt)))
    (λ (from : low ≤ x). inr (
      low,
      refl,
      from,
      marked_inside map low (p - low) NonScraped x (omega arith) from
          (omega arith),
    ))
    (cases_lt x low)

-- what was asked for, and what lies before it as far as the beginning of a range that is trimmed
record Asked (s : Setting) (m : Machine) (r : Reading) : Type 0 where
  there : r.pos + r.asked ≤ length m.map
  few : kept s.sector r ≤ r.asked
  back : (low : ℕ) → m.progress.mode ≡ Tail low → low ≤ r.pos
  between : (low x : ℕ) → m.progress.mode ≡ Tail low → low ≤ x → x < r.pos → Has m.map NonTrimmed x
  trims : (low : ℕ) → m.progress.mode ≡ Tail low → is_trimming m ≡ true

asked : (s : Setting) (m : Machine) (e : Event) → IsSensible s → IsInOrder s m
    → IsRequest s m e.reading.pos (e.reading.pos + e.reading.asked) → StepsBy s m e → Asked s m e.reading
asked s m e ok order request by =
    let p : ℕ = e.reading.pos in
    let q : ℕ = e.reading.pos + e.reading.asked in
    record {
      there = by.there;
      few = by.kept_asked;
      back = λ low is. (asks_back s ok m p q low order request is).after;
      between = λ low x is from to.
          let has : Has m.map (taken (pass_of m).phase) x =
          wanted_taken s m x ((asks_back s ok m p q low order request is).wanted x from to) in
          subst (λ (phase : Phase). Has m.map (taken phase) x)
          (trims_is (pass_of m).phase (tail_trims s m low order is)) has;
      trims = λ low is. tail_trims s m low order is;
    }

abbrev with_rest : Setting → Machine → Reading → List Status
with_rest s m r =
    marked (with_kept s m r) (r.pos + kept s.sector r) (r.asked - kept s.sector r)
    (rest_status s m (r.asked - kept s.sector r))

size_kept : (s : Setting) (m : Machine) (r : Reading) → Asked s m r → length (with_kept s m r) ≡ length m.map
size_kept s m r a = length-marked m.map r.pos (kept s.sector r) Finished (omega (arith, a.there, a.few))

size_rest : (s : Setting) (m : Machine) (r : Reading) → Asked s m r → length (with_rest s m r) ≡ length m.map
size_rest s m r a =
    length-marked (with_kept s m r) (r.pos + kept s.sector r) (r.asked - kept s.sector r)
    (rest_status s m (r.asked - kept s.sector r)) (omega (arith, size_kept s m r a, a.there, a.few))
    ∙ size_kept s m r a

kept_inside : (s : Setting) (m : Machine) (r : Reading) (x : ℕ) → Asked s m r → r.pos ≤ x → x < r.pos + kept s.sector r
    → Has (with_kept s m r) Finished x
kept_inside s m r x a from to = marked_inside m.map r.pos (kept s.sector r) Finished x (omega (arith, a.there, a.few))
    from to

kept_outside : (s : Setting) (m : Machine) (r : Reading) (x : ℕ) → Asked s m r
    → (x < r.pos) ⊎ (r.pos + kept s.sector r ≤ x) → slice_get (with_kept s m r) x ≡ slice_get m.map x
kept_outside s m r x a apart = marked_outside m.map r.pos (kept s.sector r) Finished x (omega (arith, a.there, a.few))
    apart

rest_inside : (s : Setting) (m : Machine) (r : Reading) (x : ℕ) → Asked s m r → r.pos + kept s.sector r ≤ x
    → x < r.pos + r.asked → Has (with_rest s m r) (rest_status s m (r.asked - kept s.sector r)) x
rest_inside s m r x a from to =
    marked_inside (with_kept s m r) (r.pos + kept s.sector r) (r.asked - kept s.sector r)
    (rest_status s m (r.asked - kept s.sector r)) x (omega (arith, size_kept s m r a, a.there, a.few)) from
    (omega (arith, a.few))

rest_outside : (s : Setting) (m : Machine) (r : Reading) (x : ℕ) → Asked s m r
    → (x < r.pos + kept s.sector r) ⊎ (r.pos + r.asked ≤ x)
    → slice_get (with_rest s m r) x ≡ slice_get (with_kept s m r) x
rest_outside s m r x a apart =
    marked_outside (with_kept s m r) (r.pos + kept s.sector r) (r.asked - kept s.sector r)
    (rest_status s m (r.asked - kept s.sector r)) x (omega (arith, size_kept s m r a, a.there, a.few))
    (⊎_elim (λ (lt : x < r.pos + kept s.sector r). inl lt) (λ (ge : r.pos + r.asked ≤ x). inr (omega (arith, a.few)))
    apart)

-- a read that didn't fail,
change_good : (s : Setting) (m : Machine) (r : Reading) (x : ℕ) → Asked s m r → is_failed r ≡ false
    → Change s m r (with_kept s m r) x
change_good s m r x a good =
    ⊎_elim (λ (lt : x < r.pos). Stands (λ asks. omega (arith, lt, asks.from)) (kept_outside s m r x a (inl lt)))
    (λ (from : r.pos ≤ x). ⊎_elim
    (λ (here : x < r.pos + kept s.sector r). Kept (record { from = from; to = omega (arith, here, a.few) })
    (kept_inside s m r x a from here))
    (λ (late : r.pos + kept s.sector r ≤ x). ⊎_elim
    (λ (to : x < r.pos + r.asked). CutOff (record { from = from; to = to })
    (λ before. let far : r.pos + r.asked ≤ x = good_reaches m r s.sector x good before late in omega (arith, far, to))
    (kept_outside s m r x a (inr late)))
    (λ (ge : r.pos + r.asked ≤ x). Stands (λ asks. omega (arith, ge, asks.to)) (kept_outside s m r x a (inr late)))
    (cases_lt x (r.pos + r.asked)))
    (cases_lt x (r.pos + kept s.sector r)))
    (cases_lt x r.pos)

-- and one that failed, before what it asked for,
change_before : (s : Setting) (m : Machine) (r : Reading) (x : ℕ) → Asked s m r → x < r.pos
    → Change s m r (scraped m.progress.mode r.pos (with_rest s m r)) x
change_before s m r x a to =
    let apart : AsksFor r x → ⊥ = λ asks. omega (arith, to, asks.from) in
    let map : List Status = scraped m.progress.mode r.pos (with_rest s m r) in
    ⊎_elim
    (λ (same : slice_get map x ≡ slice_get (with_rest s m r) x).
    Stands apart (same ∙ rest_outside s m r x a (inl (omega arith)) ∙ kept_outside s m r x a (inl to)))
    (λ (is : (low : ℕ) × (m.progress.mode ≡ Tail low) × (low ≤ x) × Has map NonScraped x).
    Between apart (a.trims is.0 is.1) (a.between is.0 x is.1 is.2 to) is.3)
    (scraped_before m.progress.mode r.pos (with_rest s m r) x (omega (arith, size_rest s m r a, a.there)) a.back to)

-- and past its position
change_past : (s : Setting) (m : Machine) (r : Reading) (x : ℕ) → Asked s m r → is_failed r ≡ true → r.pos ≤ x
    → Change s m r (scraped m.progress.mode r.pos (with_rest s m r)) x
change_past s m r x a failed from =
    let same : slice_get (scraped m.progress.mode r.pos (with_rest s m r)) x ≡ slice_get (with_rest s m r) x =
    scraped_past m.progress.mode r.pos (with_rest s m r) x (omega (arith, size_rest s m r a, a.there)) a.back from in
    ⊎_elim
    (λ (to : x < r.pos + kept s.sector r).
    Kept (record { from = from; to = omega (arith, to, a.few) })
    (same ∙ rest_outside s m r x a (inl to) ∙ kept_inside s m r x a from to))
    (λ (late : r.pos + kept s.sector r ≤ x). ⊎_elim
    (λ (to : x < r.pos + r.asked).
    Missed (record { from = from; to = to }) failed (r.asked - kept s.sector r) (same ∙ rest_inside s m r x a late to))
    (λ (ge : r.pos + r.asked ≤ x).
    Stands (λ asks. omega (arith, ge, asks.to)) (same ∙ rest_outside s m r x a (inr ge)
    ∙ kept_outside s m r x a (inr late)))
    (cases_lt x (r.pos + r.asked)))
    (cases_lt x (r.pos + kept s.sector r))

pub changes : (s : Setting) (m : Machine) (e : Event) (x : ℕ) → IsSensible s → IsInOrder s m
    → IsRequest s m e.reading.pos (e.reading.pos + e.reading.asked) → StepsBy s m e
    → Change s m e.reading (step s m e).map x
changes s m e x ok order request by =
    let r : Reading = e.reading in
    let a : Asked s m r = asked s m e ok order request by in
    cond_both (is_failed r) (scraped m.progress.mode r.pos (with_rest s m r)) (with_kept s m r)
    (λ (map : List Status). Change s m r map x)
    (λ failed. ⊎_elim (λ (to : x < r.pos). change_before s m r x a to)
    (λ (from : r.pos ≤ x). change_past s m r x a failed from)
    (cases_lt x r.pos))
    (λ good. change_good s m r x a good)

-- after a failed read at a range's back all that lies between its front and its back is for scraping
pub change_between : (s : Setting) (m : Machine) (e : Event) (low x : ℕ) → IsSensible s → IsInOrder s m
    → IsRequest s m e.reading.pos (e.reading.pos + e.reading.asked) → StepsBy s m e → is_failed e.reading ≡ true
    → m.progress.mode ≡ Tail low → low ≤ x → x < e.reading.pos → Has (step s m e).map NonScraped x
change_between s m e low x ok order request by failed is from to =
    let r : Reading = e.reading in
    let a : Asked s m r = asked s m e ok order request by in
    ap (λ (map : List Status). slice_get map x)
    (cond-true (is_failed r) (scraped m.progress.mode r.pos (with_rest s m r)) (with_kept s m r) failed)
    ∙ ap (λ (mode : TrimMode). slice_get (scraped mode r.pos (with_rest s m r)) x) is
    ∙ marked_inside (with_rest s m r) low (r.pos - low) NonScraped x
    (omega (arith, size_rest s m r a, a.there, a.back low is)) from (omega (arith, to, a.back low is))
