-- The positions that a sweep takes, and its next piece.
use Rattle.std.proofs.Common.{◌≡◌, ℕ, zero, suc, ◌+◌, ◌-◌, ◌*◌, ◌^◌, ◌<◌, ◌≤◌, min, Bool, true, false, ◌&&◌, List, length, Option, Some, None, refl, sym, ap, subst, ◌∙◌, arith, ⊎_elim}
use Rattle.std.specs.List.{slice_get}
use Rattle.std.proofs.Math.Nat.{suc-mul, div-mul-le_self}
use Rattle.std.proofs.lemmas.Bool.{cases_lt, and_parts, true≢false}
use Rattle.std.proofs.lemmas.Option.{slice_get_within}
use Rattle.block_list.specs.declared.status.Status.{Status}
use Rattle.block_list.specs.Places.{IsFirst, IsRangeUp}
use Rattle.faulty_source.specs.Journal.{floor}
use Rattle.rescue_domain.specs.Parts.{covers}
use Rattle.run_options.specs.declared.settings.Settings.{Settings}
use Rattle.rescue_rules.proofs.RoundLemmas.{floor_beyond}
use Rattle.rescue_rules.specs.Setting.{Setting}
use Rattle.rescue_rules.specs.Counts.{passes, passing}
use Rattle.sweep_rules.specs.Sweep.{Sweeper, Sweep, IsTaken, IsPiece}
use Rattle.run_options.specs.Settings.{IsSound}
use Rattle.rescue_rules.proofs.SearchLemmas.{true_or_false}
use Rattle.fill_generate.specs.declared.mode.SweepMode.{SweepMode}
use Rattle.fill_generate.specs.Modes.{takes_in, is_taken, IsTakenIn, IsSweeperOf}
use Rattle.fill_generate.specs.SweepState.{SweepState, setting_of, IsSweeping}
use Rattle.fill_generate.specs.Steps.{IsFound}

-- a position that is taken lies in the map
passes_some : (test : Status → Bool) (o : Option Status) → passes test o ≡ true → (status : Status) × (o ≡ Some status)
passes_some test None is = absurd (true≢false (sym is))
passes_some test (Some status) is = (status, refl)

pub taken_there : (test : Status → Bool) (domain : ℕ → Bool) (map : List Status) (x : ℕ)
    → passing test domain map x ≡ true → x < length map
taken_there test domain map x is =
    let found : (status : Status) × (slice_get map x ≡ Some status) =
    passes_some test (slice_get map x) (and_parts (domain x) (passes test (slice_get map x)) is).1 in
    slice_get_within map x found.0 found.1

-- a sweeper takes what its kind takes
passes_alike : (f g : Status → Bool) (o : Option Status) → ((status : Status) → f status ≡ g status) → passes f o ≡ passes g o
passes_alike f g None alike = refl
passes_alike f g (Some status) alike = alike status

pub taken_alike : (mode : SweepMode) (w : Sweeper) (domain : ℕ → Bool) (map : List Status) (x : ℕ) → IsSweeperOf mode w
    → passing w.takes domain map x ≡ is_taken mode domain map x
taken_alike mode w domain map x of =
    ap (λ (b : Bool). domain x && b) (passes_alike w.takes (takes_in mode) (slice_get map x) of.takes)

-- the end of the range of positions that pass a test, of which none lies past a top
ends_from : (f : ℕ → Bool) (n x top : ℕ) → x + n ≡ top → ((y : ℕ) → f y ≡ true → y < top) → f x ≡ true
    → (end : ℕ) × IsRangeUp (λ y. f y ≡ true) x end
ends_from f zero x top is below holds = absurd (omega (arith, below x holds, is))
ends_from f (suc n) x top is below holds =
    ⊎_elim
    (λ (next : f (x + 1) ≡ true).
    let more : (end : ℕ) × IsRangeUp (λ y. f y ≡ true) (x + 1) end = ends_from f n (x + 1) top (omega (arith, is)) below next in
    let range : IsRangeUp (λ y. f y ≡ true) x more.0 = record {
      begun = omega (arith, more.1.begun);
      within = λ y low high. ⊎_elim (λ (lt : x < y). more.1.within y (omega (arith, lt)) high)
          (λ (le : y ≤ x). ap f (omega (arith, le, low)) ∙ holds) (cases_lt x y);
      stops = more.1.stops;
    } in (more.0, range))
    (λ (next : f (x + 1) ≡ false).
    let range : IsRangeUp (λ y. f y ≡ true) x (x + 1) = record {
      begun = omega arith;
      within = λ y low high. ap f (omega (arith, low, high)) ∙ holds;
      stops = λ on. true≢false (sym on ∙ next);
    } in (x + 1, range))
    (true_or_false (f (x + 1)))

-- What was found up to a limit, and up to the map's end, is the next piece.
pub piece_is : (mode : SweepMode) (s : Setting) (w : Sweeper) (m : Sweep) (p q limit most : ℕ) → IsSweeperOf mode w
    → IsFirst (IsTakenIn mode s.domain m.map) m.cursor p → limit ≡ floor s.sector (p + s.cluster)
    → most ≡ min limit (length m.map) → p < q → q ≤ most
    → ((y : ℕ) → p ≤ y → y < q → IsTakenIn mode s.domain m.map y)
    → (q < most → IsTakenIn mode s.domain m.map q → ⊥) → IsPiece s w m p q
piece_is mode s w m p q limit most of first is cut some few within stops =
    let there : (x : ℕ) → IsTakenIn mode s.domain m.map x → IsTaken s w m x = λ x on. taken_alike mode w s.domain m.map x of ∙ on in
    let back : (x : ℕ) → IsTaken s w m x → IsTakenIn mode s.domain m.map x = λ x on. sym (taken_alike mode w s.domain m.map x of) ∙ on in
    let top : ℕ = length m.map in
    let f : ℕ → Bool = passing w.takes s.domain m.map in
    let below : (y : ℕ) → f y ≡ true → y < top = λ y on. taken_there w.takes s.domain m.map y on in
    let start : IsFirst (IsTaken s w m) m.cursor p = record {
      after = first.after;
      holds = there p first.holds;
      least = λ y from on. first.least y from (back y on);
    } in
    let low : p < top = below p start.holds in
    let found : (end : ℕ) × IsRangeUp (λ y. f y ≡ true) p end = ends_from f (top - p) p top (omega (arith, low)) below start.holds in
    let far : q ≤ found.0 =
    ⊎_elim (λ (lt : found.0 < q). absurd (found.1.stops (there found.0 (within found.0 (omega (arith, found.1.begun)) lt))))
    (λ (le : q ≤ found.0). le) (cases_lt found.0 q) in
    let last : found.0 ≤ top =
    let begun : p < found.0 = found.1.begun in
    let y : found.0 - 1 < top = below (found.0 - 1) (found.1.within (found.0 - 1) (omega (arith, begun)) (omega (arith, begun))) in
    omega (arith, y) in
    let near : (q < most) → found.0 ≤ q = λ lt.
    ⊎_elim (λ (gt : q < found.0). absurd (stops lt (back q (found.1.within q (omega (arith, some)) gt)))) (λ (le : found.0 ≤ q). le)
    (cases_lt q found.0) in
    let ends : q ≡ min found.0 limit =
    ⊎_elim (λ (lt : q < most). let le : found.0 ≤ q = near lt in omega (arith, le, far, cut, lt))
    (λ (ge : most ≤ q). omega (arith, ge, few, far, last, cut)) (cases_lt q most) in
    record { end = found.0; range = (start, found.1); ends = ends ∙ ap (min found.0) is }

-- a cluster has a sector at least
pub cluster_some : (settings : Settings) → IsSound settings → settings.sector ≤ settings.cluster
cluster_some settings sound =
    let more : suc (sound.sectors - 1) ≡ sound.sectors = omega (arith, sound.some) in
    let is : sound.sectors * settings.sector ≡ (sound.sectors - 1) * settings.sector + settings.sector =
    ap (λ (n : ℕ). n * settings.sector) (sym more) ∙ suc-mul (sound.sectors - 1) settings.sector in
    omega (arith, sound.cluster, is)

pub limit_beyond : (settings : Settings) (pos : ℕ) → IsSound settings → pos < floor settings.sector (pos + settings.cluster)
limit_beyond settings pos sound = floor_beyond settings.sector pos settings.cluster sound.sector (cluster_some settings sound)

-- the piece that was found
pub found_is : (r : SweepState) (pos limit most end : ℕ) → IsSweeping r
    → IsFirst (IsTakenIn r.mode (covers r.domain) r.sweep.map) r.sweep.cursor pos → pos < length r.sweep.map
    → length r.sweep.map < 2 ^ 63 → limit ≡ floor r.settings.sector (pos + r.settings.cluster) → most ≡ min limit (length r.sweep.map)
    → pos ≤ end → end ≤ most → ((y : ℕ) → pos ≤ y → y < end → IsTakenIn r.mode (covers r.domain) r.sweep.map y)
    → (end < most → IsTakenIn r.mode (covers r.domain) r.sweep.map end → ⊥)
    → IsFound r (record { pos = pos; len = end - pos })
found_is r pos limit most end h first there short is cut least few within stops =
    let beyond : pos < limit = rw is (limit_beyond r.settings pos h.sound) in
    let some : pos < end =
    ⊎_elim (λ (lt : pos < end). lt)
    (λ (ge : end ≤ pos). let same : pos ≡ end = omega (arith, ge, least) in
    absurd (stops (omega (arith, same, beyond, there, cut)) (subst (IsTakenIn r.mode (covers r.domain) r.sweep.map) same first.holds)))
    (cases_lt pos end) in
    let floor_low : floor r.settings.sector (pos + r.settings.cluster) ≤ pos + r.settings.cluster =
    div-mul-le_self (pos + r.settings.cluster) r.settings.sector in
    let back : pos + (end - pos) ≡ end = omega (arith, least) in
    let in_domain : (y : ℕ) → IsTakenIn r.mode (covers r.domain) r.sweep.map y → covers r.domain y ≡ true =
    λ y on. (and_parts (covers r.domain y) (passes (takes_in r.mode) (slice_get r.sweep.map y)) on).0 in
    let own : covers r.domain pos ≡ true = in_domain pos first.holds in
    let final : covers r.domain (end - 1) ≡ true = in_domain (end - 1) (within (end - 1) (omega (arith, some)) (omega (arith, some))) in
    let from : r.settings.input_position ≤ pos = h.suits.from pos own in
    let placed : end - 1 - r.settings.input_position + r.settings.output_position < 2 ^ 63 - 1 = h.places.low (end - 1) final in
    record {
      next = λ w of. subst (λ (q : ℕ). IsPiece (setting_of r) w r.sweep pos q) (sym back)
          (piece_is r.mode (setting_of r) w r.sweep pos end limit most of first is cut some few within stops);
      from = from;
      some = omega (arith, some);
      few = omega (arith, few, cut, is, floor_low);
      within = omega (arith, back, few, cut);
      short = omega (arith, back, few, cut, short);
      placed = omega (arith, back, placed, from, some);
    }
