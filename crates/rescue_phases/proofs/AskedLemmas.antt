-- What a read after copying asked for is finished after it, or bad, if it is still left of the domain.
use Rattle.std.proofs.Common.{◌≡◌, ◌⊎◌, ℕ, ◌+◌, ◌-◌, ◌<◌, ◌≤◌, Bool, true, false, ◌&&◌, nat_lt, if◌then◌else◌, List, length, Some, sym, ap, ◌∙◌, arith, inl, inr, ⊎_elim}
use Rattle.std.proofs.lemmas.Bool.{cases_lt, cond_both}
use Rattle.std.proofs.lemmas.Option.{same_Some}
use Rattle.block_list.specs.declared.status.Status.{Status}
use Rattle.block_list.specs.declared.status.Status.TheVariants.{NonTrimmed, BadSector, Finished}
use Rattle.block_list.specs.Map.{Has, marked}
use Rattle.block_list.proofs.Places.{length-marked}
use Rattle.faulty_source.specs.Ends.{is_before}
use Rattle.faulty_source.specs.Journal.{Reading, is_failed, kept}
use Rattle.rescue_rules.specs.declared.stop.TrimMode.TheVariants.{Tail}
use Rattle.rescue_rules.specs.Setting.{Setting, IsSensible}
use Rattle.rescue_rules.specs.Machine.{Machine, IsRequest}
use Rattle.rescue_rules.specs.Step.{Event, is_copying, rest_status, scraped, over_after, step}
use Rattle.rescue_rules.specs.MachineLaws.{IsInOrder, StepsBy}
use Rattle.rescue_rules.proofs.GivenLemmas.{covers_here}
use Rattle.rescue_rules.proofs.MarkLemmas.{marked_inside}
use Rattle.rescue_rules.proofs.OverLemmas.{good_reaches}
use Rattle.rescue_rules.proofs.StepLemmas.{asks_back, move_steps}
use Rattle.rescue_core.proofs.ChangeLemmas.{scraped_past}

-- An event of a request of a phase after copying, and what it does.
pub record StepsLater (s : Setting) (m : Machine) (e : Event) : Type 0 where
  pub steps : StepsBy s m e
  pub later : is_copying m ≡ false
  pub back : (low : ℕ) → m.progress.mode ≡ Tail low → low ≤ e.reading.pos

pub steps_later : (s : Setting) (m : Machine) (e : Event) → IsSensible s → IsInOrder s m → is_copying m ≡ false
    → IsRequest s m e.reading.pos (e.reading.pos + e.reading.asked) → length e.reading.given ≤ e.reading.asked → StepsLater s m e
steps_later s m e ok order later asks few = record {
  steps = move_steps s m e ok order asks few;
  later = later;
  back = λ low at. (asks_back s ok m e.reading.pos (e.reading.pos + e.reading.asked) low order asks at).after;
}

-- what isn't kept is bad
rest_bad : (s : Setting) (m : Machine) (size : ℕ) → is_copying m ≡ false → rest_status s m size ≡ BadSector
rest_bad s m size later = ap (λ (c : Bool). if c && nat_lt s.sector size then NonTrimmed else BadSector) later

rest_marked : (s : Setting) (m : Machine) (e : Event) (x : ℕ) → StepsLater s m e
    → is_before (over_after m e.reading) x ≡ true → e.reading.pos + kept s.sector e.reading ≤ x
    → x < e.reading.pos + e.reading.asked → Has (step s m e).map BadSector x
rest_marked s m e x l before from to =
    let r : Reading = e.reading in
    let k : ℕ = kept s.sector r in
    let t : Status = rest_status s m (r.asked - k) in
    let whole : List Status = marked m.map r.pos k Finished in
    let rest : List Status = marked whole (r.pos + k) (r.asked - k) t in
    let size : length whole ≡ length m.map = length-marked m.map r.pos k Finished (omega (arith, l.steps.there, l.steps.kept_asked)) in
    let there : r.pos + k + (r.asked - k) ≤ length whole = omega (arith, size, l.steps.there, l.steps.kept_asked) in
    let size_rest : length rest ≡ length whole = length-marked whole (r.pos + k) (r.asked - k) t there in
    cond_both (is_failed r) (scraped m.progress.mode r.pos rest) whole (λ (map : List Status). Has map BadSector x)
    (λ failed.
    scraped_past m.progress.mode r.pos rest x (omega (arith, size, size_rest, l.steps.there)) l.back (omega (arith, from))
    ∙ marked_inside whole (r.pos + k) (r.asked - k) t x there from (omega (arith, to, l.steps.kept_asked))
    ∙ ap (λ (u : Status). Some u) (rest_bad s m (r.asked - k) l.later))
    (λ good. let far : r.pos + r.asked ≤ x = good_reaches m r s.sector x good before from in absurd (omega (arith, far, to)))

-- So a position with another status wasn't asked for.
pub unasked : (s : Setting) (m : Machine) (e : Event) (u : Status) (x : ℕ) → StepsLater s m e
    → is_before (over_after m e.reading) x ≡ true → (Finished ≡ u → ⊥) → (BadSector ≡ u → ⊥)
    → Has (step s m e).map u x → (x < e.reading.pos) ⊎ (e.reading.pos + e.reading.asked ≤ x)
unasked s m e u x l before unfinished well has =
    let r : Reading = e.reading in
    let k : ℕ = kept s.sector r in
    ⊎_elim (λ (below : x < r.pos). inl below)
    (λ (from : r.pos ≤ x). ⊎_elim
    (λ (here : x < r.pos + k).
    absurd (unfinished (same_Some Finished u (sym (l.steps.finishes x (covers_here s.sector r x from here)) ∙ has))))
    (λ (past : r.pos + k ≤ x). ⊎_elim
    (λ (to : x < r.pos + r.asked). absurd (well (same_Some BadSector u (sym (rest_marked s m e x l before past to) ∙ has))))
    (λ (above : r.pos + r.asked ≤ x). inr above)
    (cases_lt x (r.pos + r.asked)))
    (cases_lt x (r.pos + k)))
    (cases_lt x r.pos)
