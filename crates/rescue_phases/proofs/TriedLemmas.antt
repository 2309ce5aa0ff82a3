-- What a read asked for isn't non-tried after it, if it is still left of the domain.
use Rattle.std.proofs.Common.{◌≡◌, ◌⊎◌, ℕ, ◌+◌, ◌-◌, ◌<◌, ◌≤◌, true, List, length, Some, sym, ap, ◌∙◌, arith, inl, inr, ⊎_elim}
use Rattle.std.specs.List.{slice_get}
use Rattle.std.proofs.lemmas.Bool.{cond_both, cases_lt}
use Rattle.block_list.specs.declared.status.Status.{Status}
use Rattle.block_list.specs.declared.status.Status.TheVariants.{NonTried, NonTrimmed, BadSector, Finished}
use Rattle.block_list.specs.Map.{Has, marked}
use Rattle.block_list.proofs.Places.{length-marked}
use Rattle.faulty_source.specs.Ends.{is_before}
use Rattle.faulty_source.specs.Journal.{Reading, is_failed, kept}
use Rattle.rescue_rules.specs.declared.stop.TrimMode.{TrimMode}
use Rattle.rescue_rules.specs.declared.stop.TrimMode.TheVariants.{Lead}
use Rattle.rescue_rules.specs.Setting.{Setting}
use Rattle.rescue_rules.specs.Machine.{Machine}
use Rattle.rescue_rules.specs.Step.{rest_status, scraped, over_after, map_after}
use Rattle.rescue_rules.proofs.OverLemmas.{good_reaches}
use Rattle.rescue_rules.proofs.MarkLemmas.{marked_inside, marked_outside}

-- what a read makes isn't non-tried
rest_tried : (s : Setting) (m : Machine) (size : ℕ) → rest_status s m size ≡ NonTried → ⊥
rest_tried s m size =
    cond_both _ NonTrimmed BadSector (λ (t : Status). t ≡ NonTried → ⊥) (λ on is. cc) (λ off is. cc)

-- a mark on a stretch, at a place
record Marked (map map' : List Status) (pos size : ℕ) (t : Status) (x : ℕ) : Type 0 where
  inside : pos ≤ x → x < pos + size → Has map' t x
  outside : (x < pos) ⊎ (pos + size ≤ x) → slice_get map' x ≡ slice_get map x

marks : (map : List Status) (pos size : ℕ) (t : Status) (x : ℕ) → pos + size ≤ length map
    → Marked map (marked map pos size t) pos size t x
marks map pos size t x there = record {
  inside = λ from to. marked_inside map pos size t x there from to;
  outside = λ apart. marked_outside map pos size t x there apart;
}

-- after a mark of another status a position is non-tried only if it was, and apart from the mark
unmarked : (map map' : List Status) (pos size : ℕ) (t : Status) (x : ℕ) → Marked map map' pos size t x → (t ≡ NonTried → ⊥)
    → Has map' NonTried x → Has map NonTried x × ((x < pos) ⊎ (pos + size ≤ x))
unmarked map map' pos size t x m other has =
    ⊎_elim
    (λ (below : x < pos). (sym (m.outside (inl below)) ∙ has, inl below))
    (λ (from : pos ≤ x). ⊎_elim
    (λ (to : x < pos + size). let same : Some t ≡ Some NonTried = sym (m.inside from to) ∙ has in absurd (other cc))
    (λ (above : pos + size ≤ x). (sym (m.outside (inr above)) ∙ has, inr above))
    (cases_lt x (pos + size)))
    (cases_lt x pos)

-- A read leaves non-tried of what is left only what was so, and was not asked for.
pub untried : (s : Setting) (m : Machine) (r : Reading) (x : ℕ) → m.progress.mode ≡ Lead → r.pos + r.asked ≤ length m.map
    → kept s.sector r ≤ r.asked → is_before (over_after m r) x ≡ true → Has (map_after s m r) NonTried x
    → Has m.map NonTried x × ((x < r.pos) ⊎ (r.pos + r.asked ≤ x))
untried s m r x lead there few before =
    let k : ℕ = kept s.sector r in
    let good : List Status = marked m.map r.pos k Finished in
    let t : Status = rest_status s m (r.asked - k) in
    let rest : List Status = marked good (r.pos + k) (r.asked - k) t in
    let size : length good ≡ length m.map = length-marked m.map r.pos k Finished (omega (arith, there, few)) in
    let first : Marked m.map good r.pos k Finished x = marks m.map r.pos k Finished x (omega (arith, there, few)) in
    let second : Marked good rest (r.pos + k) (r.asked - k) t x =
    marks good (r.pos + k) (r.asked - k) t x (omega (arith, there, few, size)) in
    let finished : Finished ≡ NonTried → ⊥ = λ is. cc in
    cond_both (is_failed r) (scraped m.progress.mode r.pos rest) good
    (λ (map : List Status). Has map NonTried x → Has m.map NonTried x × ((x < r.pos) ⊎ (r.pos + r.asked ≤ x)))
    (λ failed has.
    let left : Has rest NonTried x = ap (λ (mode : TrimMode). slice_get (scraped mode r.pos rest) x) (sym lead) ∙ has in
    let later : Has good NonTried x × ((x < r.pos + k) ⊎ (r.pos + k + (r.asked - k) ≤ x)) =
    unmarked good rest (r.pos + k) (r.asked - k) t x second (rest_tried s m (r.asked - k)) left in
    let was : Has m.map NonTried x × ((x < r.pos) ⊎ (r.pos + k ≤ x)) = unmarked m.map good r.pos k Finished x first finished later.0 in (
      was.0,
      ⊎_elim (λ (below : x < r.pos). inl below)
          (λ (above : r.pos + k ≤ x). ⊎_elim
          (λ (inside : x < r.pos + k). absurd (omega (arith, above, inside)))
          (λ (past : r.pos + k + (r.asked - k) ≤ x). inr (omega (arith, past, few)))
          later.1) was.1,
    ))
    (λ all has.
    let was : Has m.map NonTried x × ((x < r.pos) ⊎ (r.pos + k ≤ x)) = unmarked m.map good r.pos k Finished x first finished has in (
      was.0,
      ⊎_elim (λ (below : x < r.pos). inl below)
          (λ (above : r.pos + k ≤ x). inr (good_reaches m r s.sector x all before above)) was.1,
    ))
