-- What holds of a run's request, and the parts of the run after an event of it.
use Rattle.std.proofs.Common.{◌≡◌, ℕ, ◌+◌, ◌-◌, ◌*◌, ◌^◌, ◌<◌, ◌≤◌, min, max, Bool, true, false, ◌&&◌, if◌then◌else◌, List, [], ◌∷◌, length, Option, Some, None, refl, sym, ap, ◌∙◌, arith}
use Rattle.std.specs.List.{slice_get, slice_index_or}
use Rattle.std.proofs.Math.Nat.{div-mul-le_self, mul-le-mul_right}
use Rattle.std.proofs.lemmas.Bool.{and_parts}
use Rattle.size_suffixes.specs.Sectors.{largest_cluster}
use Rattle.block_list.specs.declared.status.Status.{Status}
use Rattle.block_list.specs.Status.{same}
use Rattle.block_list.specs.declared.tiles.Tiles.{Ghosts as TilesGhosts}
use Rattle.faulty_source.specs.Journal.{floor}
use Rattle.rescue_domain.specs.Parts.{covers}
use Rattle.rescue_rules.specs.declared.stop.TrimMode.{TrimMode}
use Rattle.rescue_rules.specs.declared.stop.TrimMode.TheVariants.{Lead, Tail}
use Rattle.rescue_rules.specs.declared.phase.Phase.{Phase}
use Rattle.rescue_rules.specs.declared.phase.Phase.TheVariants.{Copying, Trimming, Scraping, Retrying}
use Rattle.rescue_rules.specs.declared.tally.Tally.{Tally}
use Rattle.rescue_rules.specs.declared.progress.Progress.{Progress}
use Rattle.rescue_rules.specs.Setting.{Setting, IsSensible}
use Rattle.rescue_rules.specs.Passes.{Pass, taken, numbered, passes_from}
use Rattle.rescue_rules.specs.Machine.{Machine, pass_of, has_taken, is_live, is_wanted, ceiling, Search, search_in, search_of, cut_start, cut_end, IsRequest}
use Rattle.rescue_rules.specs.Step.{Event, step}
use Rattle.rescue_rules.proofs.RoundLemmas.{ceiling_above}
use Rattle.rescue_rules.proofs.StepLemmas.{Asks, request_asks, wanted_domain, asks_back}
use Rattle.rescue_core.specs.declared.running.Running.{Running}
use Rattle.run_options.specs.Settings.{HasPlaces}
use Rattle.rescue_core.specs.RunState.{RunState, setting_in, run_of, IsRunning}
use Rattle.rescue_core.specs.Turning.{stepped}
use Rattle.rescue_core.specs.TurnParts.{IsBackOf}
use Rattle.rescue_core.proofs.StageLemmas.{running_sensible}

-- no search asks for more than a cluster
size_most : (s : Setting) (ok : IsSensible s) (m : Machine) (phase : Phase) (mode : TrimMode) → s.sector ≤ s.cluster
    → (search_in s m phase mode).size ≤ s.cluster
size_most s ok m Copying mode le = omega arith
size_most s ok m Trimming Lead le = le
size_most s ok m Trimming (Tail low) le = le
size_most s ok m Scraping mode le = le
size_most s ok m Retrying mode le = le

cut_few : (front : Bool) (b size start end : ℕ) → 0 < b
    → (if front then min end (floor b (start + size)) else end)
    ≤ (if front then start else max start (ceiling b (end - size))) + size
cut_few true b size start end some = omega (arith, div-mul-le_self (start + size) b)
cut_few false b size start end some = omega (arith, ceiling_above b (end - size) some)

sector_in : (s : Setting) (ok : IsSensible s) → s.sector ≤ s.cluster
sector_in s ok =
    let up : 1 * s.sector ≤ ok.sectors * s.sector = mul-le-mul_right s.sector ok.some in omega (arith, ok.cluster, up)

request_few : (s : Setting) (ok : IsSensible s) (m : Machine) (p q : ℕ) → IsRequest s m p q → q ≤ p + s.cluster
request_few s ok m p q r =
    let f : Search = search_of s m in
    let few : cut_end f s.sector r.start r.end ≤ cut_start f s.sector r.start r.end + f.size
    = cut_few f.front s.sector f.size r.start r.end ok.sector in
    omega (arith, few, size_most s ok m (pass_of m).phase m.progress.mode (sector_in s ok), r.starts, r.ends)

-- what a turn needs of its request: it fits the buffer and the map
pub record Fits (r : RunState) (room pos len : ℕ) : Type 0 where
  pub some : 0 < len
  pub few : len ≤ room
  pub most : room ≤ largest_cluster
  pub there : pos + len ≤ length r.machine.map
  pub short : pos + len < 2 ^ 63
  pub back : IsBackOf r.machine.progress.mode pos
  pub wanted : is_wanted (setting_in r) r.machine pos ≡ true

back_of : (mode : TrimMode) (pos : ℕ) → ((low : ℕ) → mode ≡ Tail low → low ≤ pos) → IsBackOf mode pos
back_of Lead pos h = tt
back_of (Tail low) pos h = h low refl

pub request_fits : (r : RunState) (room pos len : ℕ) → IsRunning r room
    → IsRequest (setting_in r) r.machine pos (pos + len) → Fits r room pos len
request_fits r room pos len i request =
    let s : Setting = setting_in r in
    let ok : IsSensible s = running_sensible r room i in
    let asks : Asks s r.machine pos (pos + len) = request_asks s ok r.machine pos (pos + len) request in
    record {
      some = omega (arith, asks.some);
      few = omega (arith, request_few s ok r.machine pos (pos + len) request, i.room_is);
      most = omega (arith, i.room_is, i.sound.cluster_max);
      there = asks.there;
      short = omega (arith, asks.there, i.short);
      back = back_of r.machine.progress.mode pos
          (λ low is. (asks_back s ok r.machine pos (pos + len) low i.order request is).after);
      wanted = asks.wanted pos (omega arith) asks.some;
    }

-- and the output, if that has places for the domain
pub request_place : (r : RunState) (room pos len : ℕ) → IsRunning r room → HasPlaces r.settings (covers r.domain)
    → IsRequest (setting_in r) r.machine pos (pos + len)
    → pos - r.settings.input_position + r.settings.output_position + len < 2 ^ 63
request_place r room pos len i places request =
    let s : Setting = setting_in r in
    let asks : Asks s r.machine pos (pos + len)
    = request_asks s (running_sensible r room i) r.machine pos (pos + len) request in
    let first : covers r.domain pos ≡ true
    = wanted_domain s r.machine pos (asks.wanted pos (omega arith) asks.some) in
    let last : covers r.domain (pos + len - 1) ≡ true
    = wanted_domain s r.machine (pos + len - 1)
    (asks.wanted (pos + len - 1) (omega (arith, asks.some)) (omega (arith, asks.some))) in
    omega (arith, asks.some, places.low (pos + len - 1) last, i.suits.from pos first)

-- what a phase asks for, by the passes that a run is in
taken_in : (ps : List Pass) (phase : Phase) (n k : ℕ) (status found : Option Status) → has_taken ps found ≡ true
    → slice_index_or ps 0 (numbered Copying 1) ≡ numbered phase n
    → has_taken (numbered phase k ∷ []) status ≡ has_taken ps status
taken_in [] phase n k status found has is = absurd (cc)
taken_in (p ∷ ps) phase n k None found has is = refl
taken_in (p ∷ ps) phase n k (Some status) found has is =
    ap (λ (x : Pass). same status (taken x.phase)) (sym is)

pub wanted_in : (s : Setting) (m : Machine) (map : List Status) (phase : Phase) (n k pos x : ℕ)
    → is_wanted s m pos ≡ true → pass_of m ≡ numbered phase n
    → (is_live s m x && has_taken (numbered phase k ∷ []) (slice_get map x))
    ≡ (is_live s m x && has_taken m.passes (slice_get map x))
wanted_in s m map phase n k pos x wanted pass =
    ap (λ b. is_live s m x && b)
    (taken_in m.passes phase n k (slice_get map x) (slice_get m.map pos)
    (and_parts (is_live s m pos) (has_taken m.passes (slice_get m.map pos)) wanted).1 pass)

-- a run with these marks, at this place, that has come to this
abbrev pub run_with : {T : Type 0} → TilesGhosts T → Running T → List Status → Progress → Tally → RunState
run_with t r map progress tally = record (run_of t r) {
  pass = progress.pass;
  machine = record {
    map = map;
    passes = passes_from (setting_in (run_of t r)) r.phase progress.pass;
    progress = progress;
    tally = tally;
  };
}

-- after an event
pub run_steps : {T : Type 0} (t : TilesGhosts T) (r : Running T) (map : List Status) (progress : Progress)
    (tally : Tally) (e : Event) → map ≡ (step (setting_in (run_of t r)) (run_of t r).machine e).map
    → progress ≡ (step (setting_in (run_of t r)) (run_of t r).machine e).progress
    → tally ≡ (step (setting_in (run_of t r)) (run_of t r).machine e).tally
    → run_with t r map progress tally ≡ stepped (run_of t r) e r.keeper.heard
run_steps t r map progress tally e map_is place_is tally_is =
    let n : Machine = step (setting_in (run_of t r)) (run_of t r).machine e in
    ap (λ (l : List Status). run_with t r l progress tally) map_is
    ∙ ap (λ (p : Progress). run_with t r n.map p tally) place_is
    ∙ ap (λ (y : Tally). run_with t r n.map n.progress y) tally_is
