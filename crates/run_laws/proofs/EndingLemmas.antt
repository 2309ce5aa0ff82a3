-- What a run leaves that went on to its end.
use Rattle.std.proofs.Common.{◌≡◌, ℕ, ◌<◌, ◌≤◌, min, Bool, true, false, nat_eq, Contains, List, ◌∷◌, length, get_or, Option, Some, None, is_none, refl, sym, ap, subst, ◌∙◌, arith, ⊎_elim}
use Rattle.std.specs.List.{slice_index_or}
use Rattle.std.proofs.lemmas.Bool.{and_parts, cases_lt, cases_Bool, cond-true, eq-eqb}
use Rattle.std.proofs.lemmas.Option.{slice_get-get_or}
use Rattle.block_list.specs.declared.status.Status.{Status}
use Rattle.block_list.specs.declared.status.Status.TheVariants.{NonTried, NonTrimmed, NonScraped, BadSector, Finished}
use Rattle.block_list.specs.Map.{Has}
use Rattle.mapfile_text.specs.declared.state.MapState.{MapState}
use Rattle.faulty_source.specs.Ends.{is_before}
use Rattle.rescue_rules.specs.declared.phase.Phase.TheVariants.{Copying, Trimming, Scraping, Retrying}
use Rattle.rescue_rules.specs.Setting.{Setting, IsSensible}
use Rattle.rescue_rules.specs.Passes.{Pass, taken, is_up, numbered, copying_passes, passes_after, passes_from}
use Rattle.rescue_rules.specs.Machine.{Machine, pass_of, start_of, is_live}
use Rattle.rescue_rules.specs.Step.{Event, limit_met}
use Rattle.rescue_rules.specs.Moves.{ready, no_pass_left, moves, state_after, has_ended, IsRun}
use Rattle.rescue_rules.specs.Beginning.{first_pass, first_cursor, machine_of}
use Rattle.rescue_rules.proofs.FitLemmas.{run_size, first_few}
use Rattle.rescue_rules.proofs.ReadyLemmas.{order_begins}
use Rattle.run_laws.specs.Endings.{IsLeftWell, Rescued, Untrimmed, Unscraped, Bad}
use Rattle.run_laws.specs.Laws.{RunEndsWell}
use Rattle.run_laws.proofs.CursorLemmas.{LiesAhead, IsLeft, JumpsNever, start_by}
use Rattle.run_laws.proofs.FailLemmas.{Fails, owed_fails}
use Rattle.run_laws.proofs.OrderLemmas.{ordered_from, after_contains, has_last, has_trimming, has_scraping, has_retrying}
use Rattle.run_laws.proofs.OwedLemmas.{Owes, Now, Later}
use Rattle.run_laws.proofs.RunLemmas.{MayRun}

-- a pass's start leaves each position
left_at_start : (s : Setting) (m : Machine) (p : Pass) (x : ℕ) → pass_of m ≡ p → m.progress.cursor ≡ start_of s p m.map
    → x < length m.map → is_before m.tally.over x ≡ true → IsLeft s m x
left_at_start s m p x is starts within before =
    let at : m.progress.cursor ≡ start_of s (pass_of m) m.map = starts ∙ ap (λ (q : Pass). start_of s q m.map) (sym is) in
    let up : Bool = is_up s (pass_of m) in
    record {
      before = before;
      ahead = λ off. subst (λ (n : ℕ). LiesAhead up n x) (sym at) (start_by up (length m.map) x within);
    }

-- the last pass of copying begins at its own start
last_cursor : (s : Setting) (from : Option MapState) (map : List Status) → first_pass from ≡ 5
    → first_cursor s from map ≡ start_of s (numbered Copying 5) map
last_cursor s None map last = absurd (omega (arith, last))
last_cursor s (Some state) map last =
    cond-true (nat_eq (min state.pass copying_passes) copying_passes) (start_of s (numbered Copying copying_passes) map)
    (min state.pos (length map)) (eq-eqb (min state.pass copying_passes) copying_passes last)

-- A run has copying's last pass to come to each position,
pub owes_last : (s : Setting) (map : List Status) (from : Option MapState) (shown : MapState) (time x : ℕ) → x < length map
    → Owes s (machine_of s map from shown time) (numbered Copying 5) x
owes_last s map from shown time x within =
    let m : Machine = machine_of s map from shown time in
    let few : first_pass from ≤ 5 = first_few from in
    ⊎_elim (λ (less : first_pass from < 5). Later (has_last s (first_pass from) less))
    (λ (ge : 5 ≤ first_pass from).
    let last : first_pass from ≡ 5 = omega (arith, few, ge) in
    let are : m.passes ≡ numbered Copying 5 ∷ passes_after s Copying = ap (passes_from s Copying) last in
    let here : pass_of m ≡ numbered Copying 5 =
    ap (λ (ps : List Pass). slice_index_or ps 0 (numbered Copying 1)) are in
    Now (passes_after s Copying) are (left_at_start s m (numbered Copying 5) x here (last_cursor s from map last)
    within refl))
    (cases_lt (first_pass from) 5)

-- and the passes after copying
owes_after : (s : Setting) (map : List Status) (from : Option MapState) (shown : MapState) (time x : ℕ) (p : Pass)
    → Contains (passes_after s Copying) p → Owes s (machine_of s map from shown time) p x
owes_after s map from shown time x p has = Later (after_contains s (first_pass from) p (first_few from) has)

-- a run that went on to its end
record Ended (s : Setting) (m : Machine) (es : List Event) : Type 0 where
  ok : IsSensible s
  may : MayRun s m
  run : IsRun s m es
  over : no_pass_left (ready s (state_after s m es)).passes ≡ true

ended_by : (s : Setting) (map : List Status) (from : Option MapState) (shown : MapState) (time : ℕ) (es : List Event)
    → IsSensible s → IsRun s (machine_of s map from shown time) es
    → has_ended s (state_after s (machine_of s map from shown time) es) ≡ true
    → Ended s (machine_of s map from shown time) es
ended_by s map from shown time es ok run ended =
    let m : Machine = machine_of s map from shown time in
    let k : Machine = state_after s m es in
    record {
      ok = ok;
      may = record { order = order_begins s map from shown time; passes = ordered_from s Copying (first_pass from) };
      run = run;
      over = (and_parts (no_pass_left (ready s k).passes) (is_none (limit_met s k)) ended).0;
    }

-- a position that is left of the domain and has a pass's status at the end failed in that pass, which is one of retrying
fails : (s : Setting) (m : Machine) (es : List Event) (p : Pass) (x : ℕ) → Ended s m es → JumpsNever p
    → is_live s (state_after s m es) x ≡ true
    → x < length m.map → Has (state_after s m es).map (taken p.phase) x → Owes s m p x → Fails p (moves s m es) x
fails s m es p x e never inside within has owes =
    owed_fails s m es p x e.ok e.may e.run e.over never inside within has owes

-- so that no position is non-tried, nor non-trimmed or non-scraped after a phase that is on.
left_well : (s : Setting) (map : List Status) (from : Option MapState) (shown : MapState) (time : ℕ) (es : List Event)
    (x : ℕ) (t : Status)
    → Ended s (machine_of s map from shown time) es
    → is_live s (state_after s (machine_of s map from shown time) es) x ≡ true → x < length map
    → Has (state_after s (machine_of s map from shown time) es).map t x
    → IsLeftWell s (machine_of s map from shown time) es x
left_well s map from shown time es x NonTried e inside within has =
    let p : Pass = numbered Copying 5 in
    let f : Fails p (moves s (machine_of s map from shown time) es) x =
    fails s (machine_of s map from shown time) es p x e (record { last = λ is. omega arith }) inside within has
    (owes_last s map from shown time x within) in
    let never : Copying ≡ Retrying = f.retries in
    absurd (cc)
left_well s map from shown time es x NonTrimmed e inside within has =
    let p : Pass = numbered Trimming 1 in
    ⊎_elim
    (λ (on : s.passes.trims ≡ true).
    let f : Fails p (moves s (machine_of s map from shown time) es) x =
    fails s (machine_of s map from shown time) es p x e (record { last = λ is. absurd (cc) }) inside within has
    (owes_after s map from shown time x p (has_trimming s on)) in
    let never : Trimming ≡ Retrying = f.retries in
    absurd (cc))
    (λ (off : s.passes.trims ≡ false). Untrimmed off has)
    (cases_Bool s.passes.trims)
left_well s map from shown time es x NonScraped e inside within has =
    let p : Pass = numbered Scraping 1 in
    ⊎_elim
    (λ (on : s.passes.scrapes ≡ true).
    let f : Fails p (moves s (machine_of s map from shown time) es) x =
    fails s (machine_of s map from shown time) es p x e (record { last = λ is. absurd (cc) }) inside within has
    (owes_after s map from shown time x p (has_scraping s on)) in
    let never : Scraping ≡ Retrying = f.retries in
    absurd (cc))
    (λ (off : s.passes.scrapes ≡ false). Unscraped off has)
    (cases_Bool s.passes.scrapes)
left_well s map from shown time es x BadSector e inside within has =
    Bad has (λ n some few.
    (fails s (machine_of s map from shown time) es (numbered Retrying n) x e (record { last = λ is. absurd (cc) })
    inside within has
    (owes_after s map from shown time x (numbered Retrying n) (has_retrying s n some few))).there)
left_well s map from shown time es x Finished e inside within has = Rescued has

pub run_ends_well : RunEndsWell
run_ends_well s map from shown time es ok run ended =
    let m : Machine = machine_of s map from shown time in
    let k : Machine = state_after s m es in
    let e : Ended s m es = ended_by s map from shown time es ok run ended in
    let size : length k.map ≡ length map = run_size s ok m es e.may.order run in
    record {
      each = λ x inside within.
          left_well s map from shown time es x (get_or k.map x NonTried) e inside within
          (slice_get-get_or k.map x NonTried (omega (arith, size, within)));
    }
