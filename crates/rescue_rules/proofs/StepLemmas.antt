-- What a request asks for, and what an event of it does.
use Rattle.std.proofs.Common.{◌≡◌, ◌⊎◌, ℕ, ◌+◌, ◌-◌, ◌*◌, ◌<◌, ◌≤◌, Bool, true, false, ◌&&◌, not, nat_lt, Option, List, [], ◌∷◌, length, map, Some, refl, sym, ap, subst, ◌∙◌, arith, inl, inr, ⊎_elim}
use Rattle.std.specs.List.{slice_get}
use Rattle.std.proofs.Math.Nat.{mul-le-mul_right}
use Rattle.std.proofs.lemmas.Bool.{cases_lt, ltb-true, and_parts, and_from, not-true, not-false, cases_Bool, cond-true, cond-false, cond_both, true_from_ne_false, true≢false}
use Rattle.std.proofs.lemmas.Option.{same_Some}
use Rattle.block_list.specs.declared.status.Status.{Status}
use Rattle.block_list.specs.declared.status.Status.TheVariants.{NonTrimmed, NonScraped, BadSector, Finished}
use Rattle.block_list.specs.Status.{same}
use Rattle.block_list.specs.Map.{Has, marked}
use Rattle.block_list.proofs.Places.{length-marked}
use Rattle.faulty_source.specs.Ends.{is_before}
use Rattle.faulty_source.specs.Journal.{Reading, is_failed, kept, covers}
use Rattle.rescue_rules.specs.declared.stop.TrimMode.{TrimMode}
use Rattle.rescue_rules.specs.declared.stop.TrimMode.TheVariants.{Lead, Tail}
use Rattle.rescue_rules.specs.declared.phase.Phase.{Phase}
use Rattle.rescue_rules.specs.declared.phase.Phase.TheVariants.{Copying, Trimming, Scraping, Retrying}
use Rattle.rescue_rules.specs.Setting.{Setting, IsSensible}
use Rattle.rescue_rules.specs.Passes.{Pass, taken}
use Rattle.rescue_rules.specs.Machine.{Machine, pass_of, has_taken, is_live, is_wanted, IsWanted, Search, search_in, search_of, IsNextRange, cut_start, cut_end, IsRequest}
use Rattle.rescue_rules.specs.Step.{Event, trims, is_copying, is_trimming, rest_status, scraped, over_after, map_after, mode_after, step}
use Rattle.rescue_rules.specs.MachineLaws.{IsInOrder, MoveSteps}
use Rattle.rescue_rules.proofs.MarkLemmas.{marked_inside, marked_outside}
use Rattle.rescue_rules.proofs.RoundLemmas.{Inside, cut_inside}
use Rattle.rescue_rules.proofs.OverLemmas.{before_over, failed_over}
use Rattle.rescue_rules.proofs.GivenLemmas.{covers_here, Covered, covered_here, kept_given}
use Rattle.rescue_rules.proofs.SearchLemmas.{wanted_within}

-- a stretch of places
record Stretch (P : ℕ → Type 0) (start end : ℕ) : Type 0 where
  begun : start < end
  within : (x : ℕ) → start ≤ x → x < end → P x

next_stretch : (up : Bool) (P : ℕ → Type 0) (from start end : ℕ) → IsNextRange up P from start end → Stretch P start end
next_stretch true P from start end r = record { begun = r.1.begun; within = r.1.within }
next_stretch false P from start end r = record { begun = r.1.begun; within = r.1.within }

-- no search asks for less than a sector
size_in : (s : Setting) (ok : IsSensible s) (m : Machine) (phase : Phase) (mode : TrimMode)
    → s.sector ≤ (search_in s m phase mode).size
size_in s ok m Copying mode =
    let up : 1 * s.sector ≤ ok.sectors * s.sector = mul-le-mul_right s.sector ok.some in omega (arith, ok.cluster, up)
size_in s ok m Trimming Lead = omega arith
size_in s ok m Trimming (Tail low) = omega arith
size_in s ok m Scraping mode = omega arith
size_in s ok m Retrying mode = omega arith

-- a request lies inside the range that it is taken from
request_inside : (s : Setting) (ok : IsSensible s) (m : Machine) (p q : ℕ) (r : IsRequest s m p q)
    → Inside r.start r.end p q
request_inside s ok m p q r =
    let f : Search = search_of s m in
    let begun : r.start < r.end = (next_stretch f.up (IsWanted s m) f.from r.start r.end r.range).begun in
    let i : Inside r.start r.end (cut_start f s.sector r.start r.end) (cut_end f s.sector r.start r.end)
    = cut_inside f.front s.sector f.size r.start r.end ok.sector (size_in s ok m (pass_of m).phase m.progress.mode) begun in
    subst (λ (x : ℕ). Inside r.start r.end x q) (sym r.starts)
    (subst (λ (x : ℕ). Inside r.start r.end (cut_start f s.sector r.start r.end) x) (sym r.ends) i)

-- it asks for wanted positions alone, and for some
pub record Asks (s : Setting) (m : Machine) (p q : ℕ) : Type 0 where
  pub some : p < q
  pub there : q ≤ length m.map
  pub wanted : (x : ℕ) → p ≤ x → x < q → is_wanted s m x ≡ true

pub request_asks : (s : Setting) (ok : IsSensible s) (m : Machine) (p q : ℕ) → IsRequest s m p q → Asks s m p q
request_asks s ok m p q r =
    let f : Search = search_of s m in
    let range : Stretch (IsWanted s m) r.start r.end = next_stretch f.up (IsWanted s m) f.from r.start r.end r.range in
    let i : Inside r.start r.end p q = request_inside s ok m p q r in
    let wanted : (x : ℕ) → p ≤ x → x < q → is_wanted s m x ≡ true
    = λ x from to. range.within x (omega (arith, i.from)) (omega (arith, i.to)) in
    let last : q - 1 < length m.map = wanted_within s m (q - 1) (wanted (q - 1) (omega (arith, i.some)) (omega (arith, i.some))) in
    record { some = i.some; there = omega (arith, i.some); wanted = wanted }

-- no phase asks for finished positions
never_taken : (phase : Phase) → same Finished (taken phase) ≡ false
never_taken Copying = refl
never_taken _ = refl

none_taken : (ps : List Pass) → has_taken ps (Some Finished) ≡ false
none_taken [] = refl
none_taken (p ∷ ps) = never_taken p.phase

pub finished_unwanted : (s : Setting) (m : Machine) (x : ℕ) → Has m.map Finished x → is_wanted s m x ≡ true → ⊥
finished_unwanted s m x has wanted =
    let t : has_taken m.passes (slice_get m.map x) ≡ true
    = (and_parts (is_live s m x) (has_taken m.passes (slice_get m.map x)) wanted).1 in
    true≢false (sym t ∙ ap (has_taken m.passes) has ∙ none_taken m.passes)

pub wanted_domain : (s : Setting) (m : Machine) (x : ℕ) → is_wanted s m x ≡ true → s.domain x ≡ true
wanted_domain s m x wanted =
    (and_parts (s.domain x) (is_before m.tally.over x)
    (and_parts (is_live s m x) (has_taken m.passes (slice_get m.map x)) wanted).0).0

-- in the mode of a range's back, trimming asks for the back of the range that begins there
pub trims_is : (phase : Phase) → trims phase ≡ true → phase ≡ Trimming
trims_is Trimming is = refl
trims_is _ is = absurd (cc)

pub tail_trims : (s : Setting) (m : Machine) (low : ℕ) → IsInOrder s m → m.progress.mode ≡ Tail low → is_trimming m ≡ true
tail_trims s m low order is = true_from_ne_false (is_trimming m) (λ off. let e : Tail low ≡ Lead = sym is ∙ order.lead off in absurd (cc))

tail_search : (s : Setting) (m : Machine) (low : ℕ) → IsInOrder s m → m.progress.mode ≡ Tail low
    → search_of s m ≡ search_in s m Trimming (Tail low)
tail_search s m low order is =
    ap (λ phase. search_in s m phase m.progress.mode) (trims_is (pass_of m).phase (tail_trims s m low order is))
    ∙ ap (search_in s m Trimming) is

tail_start : (s : Setting) (m : Machine) (p q low : ℕ) → IsInOrder s m → m.progress.mode ≡ Tail low → (r : IsRequest s m p q)
    → r.start ≡ low
tail_start s m p q low order is r =
    let range : IsNextRange true (IsWanted s m) low r.start r.end
    = subst (λ (f : Search). IsNextRange f.up (IsWanted s m) f.from r.start r.end) (tail_search s m low order is) r.range in
    omega (arith, range.0.after, range.0.least low (omega arith) (order.tail low is))

-- and what lies before the request from there on is wanted too
pub record AsksBack (s : Setting) (m : Machine) (p low : ℕ) : Type 0 where
  pub after : low ≤ p
  pub wanted : (x : ℕ) → low ≤ x → x < p → is_wanted s m x ≡ true

pub asks_back : (s : Setting) (ok : IsSensible s) (m : Machine) (p q low : ℕ) → IsInOrder s m → IsRequest s m p q
    → m.progress.mode ≡ Tail low → AsksBack s m p low
asks_back s ok m p q low order r is =
    let f : Search = search_of s m in
    let range : Stretch (IsWanted s m) r.start r.end = next_stretch f.up (IsWanted s m) f.from r.start r.end r.range in
    let i : Inside r.start r.end p q = request_inside s ok m p q r in
    let at : r.start ≡ low = tail_start s m p q low order is r in
    record {
      after = omega (arith, i.from, at);
      wanted = λ x from to. range.within x (omega (arith, at)) (omega (arith, i.to, i.some));
    }

-- what lies between a range's front and its back is marked, and nothing else, and not as finished
length-scraped : (mode : TrimMode) (p : ℕ) (map : List Status) → p ≤ length map → ((low : ℕ) → mode ≡ Tail low → low ≤ p)
    → length (scraped mode p map) ≡ length map
length-scraped Lead p map there back = refl
length-scraped (Tail low) p map there back = length-marked map low (p - low) NonScraped (omega (arith, back low refl))

pub scraped_outside : (mode : TrimMode) (p : ℕ) (map : List Status) (x : ℕ) → p ≤ length map
    → ((low : ℕ) → mode ≡ Tail low → low ≤ p) → ((low : ℕ) → mode ≡ Tail low → (x < low) ⊎ (p ≤ x))
    → slice_get (scraped mode p map) x ≡ slice_get map x
scraped_outside Lead p map x there back apart = refl
scraped_outside (Tail low) p map x there back apart =
    let le : low ≤ p = back low refl in
    marked_outside map low (p - low) NonScraped x (omega arith)
    (⊎_elim (λ (lt : x < low). inl lt) (λ (ge : p ≤ x). inr (omega arith)) (apart low refl))

scraped_only : (mode : TrimMode) (p : ℕ) (map : List Status) (x : ℕ) → p ≤ length map
    → ((low : ℕ) → mode ≡ Tail low → low ≤ p) → Has (scraped mode p map) Finished x → Has map Finished x
scraped_only Lead p map x there back has = has
scraped_only (Tail low) p map x there back has =
    let le : low ≤ p = back low refl in
    ⊎_elim (λ (lt : x < low). sym (marked_outside map low (p - low) NonScraped x (omega arith) (inl lt)) ∙ has)
    (λ (from : low ≤ x). ⊎_elim
    (λ (to : x < p).
    let is : Has (scraped (Tail low) p map) NonScraped x
    = marked_inside map low (p - low) NonScraped x (omega arith) from (omega arith) in
    let e : NonScraped ≡ Finished = same_Some NonScraped Finished (sym is ∙ has) in absurd (cc))
    (λ (ge : p ≤ x). sym (marked_outside map low (p - low) NonScraped x (omega arith) (inr (omega arith))) ∙ has)
    (cases_lt x p))
    (cases_lt x low)

-- a read of a request, of which no more is kept than was asked for
pub record Taking (s : Setting) (m : Machine) (r : Reading) : Type 0 where
  pub asks : Asks s m r.pos (r.pos + r.asked)
  pub back : (low : ℕ) → m.progress.mode ≡ Tail low → AsksBack s m r.pos low
  pub few : kept s.sector r ≤ r.asked

pub read_takes : (s : Setting) (m : Machine) (r : Reading) → IsSensible s → IsInOrder s m
    → IsRequest s m r.pos (r.pos + r.asked) → length r.given ≤ r.asked → Taking s m r
read_takes s m r ok order request few =
    let given : kept s.sector r ≤ length r.given = kept_given s.sector r in
    record {
      asks = request_asks s ok m r.pos (r.pos + r.asked) request;
      back = λ low is. asks_back s ok m r.pos (r.pos + r.asked) low order request is;
      few = omega arith;
    }

-- the map with the kept part marked, and with the rest marked too
abbrev pub with_kept : Setting → Machine → Reading → List Status
with_kept s m r = marked m.map r.pos (kept s.sector r) Finished

abbrev pub with_rest : Setting → Machine → Reading → List Status
with_rest s m r =
    marked (with_kept s m r) (r.pos + kept s.sector r) (r.asked - kept s.sector r) (rest_status s m (r.asked - kept s.sector r))

length-with_kept : (s : Setting) (m : Machine) (r : Reading) → Taking s m r → length (with_kept s m r) ≡ length m.map
length-with_kept s m r t = length-marked m.map r.pos (kept s.sector r) Finished (omega (arith, t.asks.there, t.few))

pub rest_there : (s : Setting) (m : Machine) (r : Reading) → Taking s m r
    → r.pos + kept s.sector r + (r.asked - kept s.sector r) ≤ length (with_kept s m r)
rest_there s m r t = omega (arith, length-with_kept s m r t, t.asks.there, t.few)

length-with_rest : (s : Setting) (m : Machine) (r : Reading) → Taking s m r → length (with_rest s m r) ≡ length m.map
length-with_rest s m r t =
    length-marked (with_kept s m r) (r.pos + kept s.sector r) (r.asked - kept s.sector r)
    (rest_status s m (r.asked - kept s.sector r)) (rest_there s m r t)
    ∙ length-with_kept s m r t

pub back_low : (s : Setting) (m : Machine) (r : Reading) → Taking s m r → (low : ℕ) → m.progress.mode ≡ Tail low → low ≤ r.pos
back_low s m r t low is = (t.back low is).after

pub pos_there : (s : Setting) (m : Machine) (r : Reading) → Taking s m r → r.pos ≤ length (with_rest s m r)
pos_there s m r t = omega (arith, length-with_rest s m r t, t.asks.there)

-- a read leaves the map's length
pub length-map_after : (s : Setting) (m : Machine) (r : Reading) → Taking s m r → length (map_after s m r) ≡ length m.map
length-map_after s m r t =
    cond_both (is_failed r) (scraped m.progress.mode r.pos (with_rest s m r)) (with_kept s m r)
    (λ (map : List Status). length map ≡ length m.map)
    (λ failed. length-scraped m.progress.mode r.pos (with_rest s m r) (pos_there s m r t) (back_low s m r t)
    ∙ length-with_rest s m r t)
    (λ good. length-with_kept s m r t)

-- outside what was asked for
abbrev pub Apart : Reading → ℕ → Type 0
Apart r x = (x < r.pos) ⊎ (r.pos + r.asked ≤ x)

pub kept_apart : (s : Setting) (m : Machine) (r : Reading) (x : ℕ) → Taking s m r → Apart r x
    → slice_get (with_kept s m r) x ≡ slice_get m.map x
kept_apart s m r x t apart =
    marked_outside m.map r.pos (kept s.sector r) Finished x (omega (arith, t.asks.there, t.few))
    (⊎_elim (λ (lt : x < r.pos). inl lt) (λ (ge : r.pos + r.asked ≤ x). inr (omega (arith, t.few))) apart)

pub rest_apart : (s : Setting) (m : Machine) (r : Reading) (x : ℕ) → Taking s m r → Apart r x
    → slice_get (with_rest s m r) x ≡ slice_get m.map x
rest_apart s m r x t apart =
    marked_outside (with_kept s m r) (r.pos + kept s.sector r) (r.asked - kept s.sector r)
    (rest_status s m (r.asked - kept s.sector r)) x (rest_there s m r t)
    (⊎_elim (λ (lt : x < r.pos). inl (omega arith)) (λ (ge : r.pos + r.asked ≤ x). inr (omega (arith, t.few))) apart)
    ∙ kept_apart s m r x t apart

-- a read leaves what is outside, but for what lies between a range's front and its back
after_apart : (s : Setting) (m : Machine) (r : Reading) (x : ℕ) → Taking s m r → Apart r x
    → ((low : ℕ) → m.progress.mode ≡ Tail low → (x < low) ⊎ (r.pos ≤ x)) → slice_get (map_after s m r) x ≡ slice_get m.map x
after_apart s m r x t apart off =
    cond_both (is_failed r) (scraped m.progress.mode r.pos (with_rest s m r)) (with_kept s m r)
    (λ (map : List Status). slice_get map x ≡ slice_get m.map x)
    (λ failed. scraped_outside m.progress.mode r.pos (with_rest s m r) x (pos_there s m r t) (back_low s m r t) off
    ∙ rest_apart s m r x t apart)
    (λ good. kept_apart s m r x t apart)

-- it makes nothing finished there
only_apart : (s : Setting) (m : Machine) (r : Reading) (x : ℕ) → Taking s m r → Apart r x → Has (map_after s m r) Finished x
    → Has m.map Finished x
only_apart s m r x t apart =
    cond_both (is_failed r) (scraped m.progress.mode r.pos (with_rest s m r)) (with_kept s m r)
    (λ (map : List Status). Has map Finished x → Has m.map Finished x)
    (λ failed has. sym (rest_apart s m r x t apart)
    ∙ scraped_only m.progress.mode r.pos (with_rest s m r) x (pos_there s m r t) (back_low s m r t) has)
    (λ good has. sym (kept_apart s m r x t apart) ∙ has)

-- what is kept becomes finished
pub kept_finished : (s : Setting) (m : Machine) (r : Reading) (x : ℕ) → Taking s m r → r.pos ≤ x → x < r.pos + kept s.sector r
    → Has (map_after s m r) Finished x
kept_finished s m r x t from to =
    let is : Has (with_kept s m r) Finished x
    = marked_inside m.map r.pos (kept s.sector r) Finished x (omega (arith, t.asks.there, t.few)) from to in
    cond_both (is_failed r) (scraped m.progress.mode r.pos (with_rest s m r)) (with_kept s m r)
    (λ (map : List Status). Has map Finished x)
    (λ failed. scraped_outside m.progress.mode r.pos (with_rest s m r) x (pos_there s m r t) (back_low s m r t) (λ low at. inr from)
    ∙ marked_outside (with_kept s m r) (r.pos + kept s.sector r) (r.asked - kept s.sector r)
    (rest_status s m (r.asked - kept s.sector r)) x (rest_there s m r t) (inl to)
    ∙ is)
    (λ good. is)

rest_not_finished : (s : Setting) (m : Machine) (size : ℕ) → rest_status s m size ≡ Finished → ⊥
rest_not_finished s m size =
    cond_both (is_copying m && nat_lt s.sector size) NonTrimmed BadSector (λ (status : Status). status ≡ Finished → ⊥)
    (λ is e. absurd (cc)) (λ is e. absurd (cc))

-- what is past it gets the status of the rest if the read failed,
pub rest_marked : (s : Setting) (m : Machine) (r : Reading) (x : ℕ) → Taking s m r → is_failed r ≡ true
    → r.pos + kept s.sector r ≤ x → x < r.pos + r.asked
    → Has (map_after s m r) (rest_status s m (r.asked - kept s.sector r)) x
rest_marked s m r x t failed from to =
    ap (λ (map : List Status). slice_get map x)
    (cond-true (is_failed r) (scraped m.progress.mode r.pos (with_rest s m r)) (with_kept s m r) failed)
    ∙ scraped_outside m.progress.mode r.pos (with_rest s m r) x (pos_there s m r t) (back_low s m r t)
    (λ low at. inr (omega (arith, from)))
    ∙ marked_inside (with_kept s m r) (r.pos + kept s.sector r) (r.asked - kept s.sector r)
    (rest_status s m (r.asked - kept s.sector r)) x (rest_there s m r t) from (omega (arith, t.few))

-- and else it stands
pub rest_stands : (s : Setting) (m : Machine) (r : Reading) (x : ℕ) → Taking s m r → is_failed r ≡ false
    → r.pos + kept s.sector r ≤ x → slice_get (map_after s m r) x ≡ slice_get m.map x
rest_stands s m r x t good from =
    ap (λ (map : List Status). slice_get map x)
    (cond-false (is_failed r) (scraped m.progress.mode r.pos (with_rest s m r)) (with_kept s m r) good)
    ∙ marked_outside m.map r.pos (kept s.sector r) Finished x (omega (arith, t.asks.there, t.few)) (inr from)

-- so it isn't finished
rest_unfinished : (s : Setting) (m : Machine) (r : Reading) (x : ℕ) → Taking s m r → r.pos + kept s.sector r ≤ x
    → x < r.pos + r.asked → Has (map_after s m r) Finished x → ⊥
rest_unfinished s m r x t from to has =
    ⊎_elim
    (λ (failed : is_failed r ≡ true). rest_not_finished s m (r.asked - kept s.sector r)
    (same_Some (rest_status s m (r.asked - kept s.sector r)) Finished (sym (rest_marked s m r x t failed from to) ∙ has)))
    (λ (good : is_failed r ≡ false). finished_unwanted s m x (sym (rest_stands s m r x t good from) ∙ has)
    (t.asks.wanted x (omega (arith, from)) to))
    (cases_Bool (is_failed r))

after_only : (s : Setting) (m : Machine) (r : Reading) (x : ℕ) → Taking s m r → Has (map_after s m r) Finished x
    → Has m.map Finished x ⊎ (covers s.sector r x ≡ true)
after_only s m r x t has =
    ⊎_elim (λ (lt : x < r.pos). inl (only_apart s m r x t (inl lt) has))
    (λ (from : r.pos ≤ x). ⊎_elim
    (λ (to : x < r.pos + r.asked). ⊎_elim
    (λ (here : x < r.pos + kept s.sector r). inr (covers_here s.sector r x from here))
    (λ (past : r.pos + kept s.sector r ≤ x). absurd (rest_unfinished s m r x t past to has))
    (cases_lt x (r.pos + kept s.sector r)))
    (λ (ge : r.pos + r.asked ≤ x). inl (only_apart s m r x t (inr ge) has))
    (cases_lt x (r.pos + r.asked)))
    (cases_lt x r.pos)

-- a finished position isn't asked for
finished_apart : (s : Setting) (m : Machine) (r : Reading) (x : ℕ) → Taking s m r → Has m.map Finished x → Apart r x
finished_apart s m r x t has =
    ⊎_elim (λ (lt : x < r.pos). inl lt)
    (λ (from : r.pos ≤ x). ⊎_elim
    (λ (to : x < r.pos + r.asked). absurd (finished_unwanted s m x has (t.asks.wanted x from to)))
    (λ (ge : r.pos + r.asked ≤ x). inr ge)
    (cases_lt x (r.pos + r.asked)))
    (cases_lt x r.pos)

finished_off : (s : Setting) (m : Machine) (r : Reading) (x : ℕ) → Taking s m r → Has m.map Finished x → (low : ℕ)
    → m.progress.mode ≡ Tail low → (x < low) ⊎ (r.pos ≤ x)
finished_off s m r x t has low is =
    ⊎_elim (λ (lt : x < low). inl lt)
    (λ (from : low ≤ x). ⊎_elim
    (λ (to : x < r.pos). absurd (finished_unwanted s m x has ((t.back low is).wanted x from to)))
    (λ (ge : r.pos ≤ x). inr ge)
    (cases_lt x r.pos))
    (cases_lt x low)

-- the mode after a read is at a range's back only if it failed and that range has more, or if it was there
tail_after : (mode : TrimMode) (whole more : Bool) (p q low : ℕ) (P : ℕ → Type 0) → (whole ≡ false → more ≡ true → P q)
    → ((at : ℕ) → mode ≡ Tail at → whole ≡ true → at < p → P at) → mode_after mode whole more p q ≡ Tail low → P low
tail_after Lead true more p q low P new old is = absurd (cc)
tail_after Lead false true p q low P new old is = let e : q ≡ low = cc in subst P e (new refl refl)
tail_after Lead false false p q low P new old is = absurd (cc)
tail_after (Tail at) true more p q low P new old is =
    cond_both (nat_lt at p) (Tail at) Lead (λ (mode : TrimMode). mode ≡ Tail low → P low)
    (λ lt is. let e : at ≡ low = cc in subst P e (old at refl refl (ltb-true at p lt)))
    (λ ge is. absurd (cc))
    is
tail_after (Tail at) false more p q low P new old is = absurd (cc)

step_tail : (s : Setting) (m : Machine) (e : Event) → IsInOrder s m → Taking s m e.reading → (low : ℕ)
    → (step s m e).progress.mode ≡ Tail low → is_wanted s (step s m e) low ≡ true
step_tail s m e order t low =
    let r : Reading = e.reading in
    let n : Machine = record m { map = map_after s m r } in
    cond_both (is_trimming m) (mode_after m.progress.mode (not (is_failed r)) (is_wanted s n (r.pos + r.asked)) r.pos (r.pos + r.asked)) Lead
    (λ (mode : TrimMode). mode ≡ Tail low → is_wanted s (step s m e) low ≡ true)
    (λ on. tail_after m.progress.mode (not (is_failed r)) (is_wanted s n (r.pos + r.asked)) r.pos (r.pos + r.asked) low
    (λ (x : ℕ). is_wanted s (step s m e) x ≡ true)
    (λ failed more.
    ap (λ (o : Option ℕ). (s.domain (r.pos + r.asked) && is_before o (r.pos + r.asked)) && has_taken m.passes (slice_get (map_after s m r) (r.pos + r.asked)))
    (failed_over m r (not-false (is_failed r) failed))
    ∙ more)
    (λ at is good lt.
    let wanted : is_wanted s m at ≡ true = order.tail at is in
    let parts = and_parts (is_live s m at) (has_taken m.passes (slice_get m.map at)) wanted in
    let live = and_parts (s.domain at) (is_before m.tally.over at) parts.0 in
    let same : slice_get (map_after s m r) at ≡ slice_get m.map at
    = ap (λ (map : List Status). slice_get map at)
    (cond-false (is_failed r) (scraped m.progress.mode r.pos (with_rest s m r)) (with_kept s m r) (not-true (is_failed r) good))
    ∙ kept_apart s m r at t (inl lt) in
    and_from (s.domain at && is_before (over_after m r) at) (has_taken m.passes (slice_get (map_after s m r) at))
    (and_from (s.domain at) (is_before (over_after m r) at) live.0 (before_over m r at live.1 lt))
    (ap (λ (o : Option Status). has_taken m.passes o) same ∙ parts.1)))
    (λ off is. absurd (cc))

step_lead : (s : Setting) (m : Machine) (e : Event) → is_trimming (step s m e) ≡ false → (step s m e).progress.mode ≡ Lead
step_lead s m e off =
    let r : Reading = e.reading in
    let n : Machine = record m { map = map_after s m r } in
    cond-false (is_trimming m) (mode_after m.progress.mode (not (is_failed r)) (is_wanted s n (r.pos + r.asked)) r.pos (r.pos + r.asked)) Lead off

pub move_steps : MoveSteps
move_steps s m e ok order request few =
    let r : Reading = e.reading in
    let t : Taking s m r = read_takes s m r ok order request few in
    record {
      some = omega (arith, t.asks.some);
      there = t.asks.there;
      wanted = t.asks.wanted;
      kept_given = kept_given s.sector r;
      kept_asked = t.few;
      finishes = λ x is. let c : Covered s.sector r x = covered_here s.sector r x is in kept_finished s m r x t c.from c.to;
      stays = λ x has.
          after_apart s m r x t (finished_apart s m r x t has) (finished_off s m r x t has) ∙ has;
      only = λ x has. after_only s m r x t has;
      size = length-map_after s m r t;
      order = record { tail = step_tail s m e order t; lead = step_lead s m e };
    }
