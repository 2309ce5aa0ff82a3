-- What a run leaves that goes on to its end from wherever it is under way.
use Rattle.std.proofs.Common.{◌≡◌, ℕ, ◌<◌, true, false, Contains, List, [], length, get_or, Option, is_none, refl, arith, ⊎_elim}
use Rattle.std.proofs.lemmas.Bool.{and_parts, cases_Bool}
use Rattle.std.proofs.lemmas.Option.{slice_get-get_or, slice_get_within}
use Rattle.block_list.specs.declared.status.Status.{Status}
use Rattle.block_list.specs.declared.status.Status.TheVariants.{NonTried, NonTrimmed, NonScraped, BadSector, Finished}
use Rattle.block_list.specs.Map.{Has}
use Rattle.mapfile_text.specs.declared.state.MapState.{MapState}
use Rattle.faulty_source.specs.Ends.{is_before}
use Rattle.rescue_rules.specs.declared.phase.Phase.TheVariants.{Copying, Trimming, Scraping, Retrying}
use Rattle.rescue_rules.specs.Setting.{Setting, IsSensible}
use Rattle.rescue_rules.specs.Passes.{Pass, taken, numbered, copying_passes, passes_after}
use Rattle.rescue_rules.specs.Machine.{Machine, is_live}
use Rattle.rescue_rules.specs.Step.{Event, limit_met}
use Rattle.rescue_rules.specs.Moves.{ready, no_pass_left, state_after, IsRun}
use Rattle.rescue_rules.specs.Beginning.{first_pass, machine_of}
use Rattle.rescue_rules.proofs.FitLemmas.{run_size, first_few}
use Rattle.rescue_rules.proofs.OverLemmas.{live_before}
use Rattle.rescue_rules.proofs.ReadyLemmas.{order_begins}
use Rattle.run_laws.specs.Endings.{IsLeftWell, Rescued as RescuedAll, Untrimmed as UntrimmedAll, Unscraped as UnscrapedAll, Bad as BadAll}
use Rattle.run_laws.proofs.FailLemmas.{owed_fails, none_owed}
use Rattle.run_laws.proofs.OrderLemmas.{after_contains, has_trimming, has_scraping, has_retrying}
use Rattle.run_laws.proofs.OwedLemmas.{Owes, owes_ready, owes_contains}
use Rattle.run_laws.proofs.RunLemmas.{MayRun, run_live}
use Rattle.run_laws.proofs.EndingLemmas.{owes_last}
use Rattle.turn_laws.specs.UnderWay.{StillComes, Later, IsUnderWay, IsLeftWellSince, Rescued, Untrimmed, Unscraped, Bad}
use Rattle.turn_laws.specs.EndLaws.{StartIsUnderWay, UnderWayEndsWell, SinceStartIsWell}
use Rattle.turn_laws.proofs.WayLemmas.{owes_by, comes_by, may_run, run_stays_under_way}

-- the passes after copying come to each
comes_after : (s : Setting) (map : List Status) (from : Option MapState) (shown : MapState) (time : ℕ) (p : Pass)
    (x : ℕ) → Contains (passes_after s Copying) p → StillComes s (machine_of s map from shown time) p x
comes_after s map from shown time p x has = Later (after_contains s (first_pass from) p (first_few from) has)

pub start_is_under_way : StartIsUnderWay
start_is_under_way s map from shown time = record {
  order = order_begins s map from shown time;
  first = first_pass from;
  past = [];
  passes = refl;
  tried = λ x live has. comes_by s (machine_of s map from shown time) (numbered Copying copying_passes) x
      (owes_last s map from shown time x (slice_get_within map x NonTried has));
  trimmed = λ on x live has. comes_after s map from shown time (numbered Trimming 1) x (has_trimming s on);
  scraped = λ on x live has. comes_after s map from shown time (numbered Scraping 1) x (has_scraping s on);
}

none_comes : (s : Setting) (m : Machine) (p : Pass) (x : ℕ) → MayRun s m → no_pass_left (ready s m).passes ≡ true
    → is_live s m x ≡ true → Has m.map (taken p.phase) x → StillComes s m p x → ⊥
none_comes s m p x may none live has comes =
    let owes : Owes s (ready s m) p x
    = owes_ready s m p x may.order may.passes (slice_get_within m.map x (taken p.phase) has) live (λ all. has)
    (owes_by s m p x (live_before s m x live) comes) in
    none_owed (ready s m).passes p none (owes_contains s (ready s m) p x owes)

-- a run from a state under way that went on to its end
record Ended (s : Setting) (m : Machine) (es : List Event) : Type 0 where
  ok : IsSensible s
  began : IsUnderWay s m
  run : IsRun s m es
  over : no_pass_left (ready s (state_after s m es)).passes ≡ true
  came : IsUnderWay s (state_after s m es)

left_well : (s : Setting) (m : Machine) (es : List Event) (x : ℕ) (t : Status) → Ended s m es
    → is_live s (state_after s m es) x ≡ true → x < length m.map → Has (state_after s m es).map t x
    → IsLeftWellSince s m es x
left_well s m es x NonTried e live within has =
    let k : Machine = state_after s m es in
    absurd (none_comes s k (numbered Copying copying_passes) x (may_run s k e.came) e.over live has
    (e.came.tried x live has))
left_well s m es x NonTrimmed e live within has =
    let k : Machine = state_after s m es in
    ⊎_elim
    (λ (on : s.passes.trims ≡ true). absurd (none_comes s k (numbered Trimming 1) x (may_run s k e.came) e.over live has
    (e.came.trimmed on x live has)))
    (λ (off : s.passes.trims ≡ false). Untrimmed off has)
    (cases_Bool s.passes.trims)
left_well s m es x NonScraped e live within has =
    let k : Machine = state_after s m es in
    ⊎_elim
    (λ (on : s.passes.scrapes ≡ true). absurd (none_comes s k (numbered Scraping 1) x (may_run s k e.came) e.over live has
    (e.came.scraped on x live has)))
    (λ (off : s.passes.scrapes ≡ false). Unscraped off has)
    (cases_Bool s.passes.scrapes)
left_well s m es x BadSector e live within has =
    let before : is_before m.tally.over x ≡ true = live_before s m x (run_live s m es x live) in
    Bad has (λ n comes.
    (owed_fails s m es (numbered Retrying n) x e.ok (may_run s m e.began) e.run e.over (record { last = λ is. absurd (cc) })
    live within has (owes_by s m (numbered Retrying n) x before comes)).there)
left_well s m es x Finished e live within has = Rescued has

pub under_way_ends_well : UnderWayEndsWell
under_way_ends_well s m es ok w run ended =
    let k : Machine = state_after s m es in
    let e : Ended s m es = record {
      ok = ok;
      began = w;
      run = run;
      over = (and_parts (no_pass_left (ready s k).passes) (is_none (limit_met s k)) ended).0;
      came = run_stays_under_way s m es ok w run;
    } in
    let size : length k.map ≡ length m.map = run_size s ok m es w.order run in
    record {
      each = λ x live within. left_well s m es x (get_or k.map x NonTried) e live within
          (slice_get-get_or k.map x NonTried (omega (arith, size, within)));
    }

since_start : (s : Setting) (map : List Status) (from : Option MapState) (shown : MapState) (time : ℕ)
    (es : List Event) (x : ℕ) → IsLeftWellSince s (machine_of s map from shown time) es x
    → IsLeftWell s (machine_of s map from shown time) es x
since_start s map from shown time es x (Rescued has) = RescuedAll has
since_start s map from shown time es x (Untrimmed off has) = UntrimmedAll off has
since_start s map from shown time es x (Unscraped off has) = UnscrapedAll off has
since_start s map from shown time es x (Bad has each) =
    BadAll has (λ n some few. each n
    (comes_after s map from shown time (numbered Retrying n) x (has_retrying s n some few)))

pub since_start_is_well : SinceStartIsWell
since_start_is_well s map from shown time es w =
    record { each = λ x live within. since_start s map from shown time es x (w.each x live within) }
