-- Scraping and retrying go over the map once, from the cursor on.
use Rattle.std.proofs.Common.{◌≡◌, ◌⊎◌, ℕ, ◌+◌, ◌<◌, ◌≤◌, Bool, true, false, ◌&&◌, nat_le, if◌then◌else◌, length, sym, ap, ◌∙◌, arith, subst}
use Rattle.std.proofs.lemmas.Bool.{cond-false}
use Rattle.faulty_source.specs.Journal.{is_failed}
use Rattle.rescue_rules.specs.declared.phase.Phase.{Phase}
use Rattle.rescue_rules.specs.declared.phase.Phase.TheVariants.{Scraping, Retrying}
use Rattle.rescue_rules.specs.Setting.{Setting}
use Rattle.rescue_rules.specs.Passes.{Pass, is_up, numbered}
use Rattle.rescue_rules.specs.Machine.{Machine, pass_of, start_of, IsWanted, Search, search_in, search_of, is_ahead, IsRequest}
use Rattle.rescue_rules.specs.Step.{Event, copies, trims, is_copying, is_trimming, is_slow, reach, cursor_after, step}
use Rattle.rescue_rules.specs.MachineLaws.{StepsBy}
use Rattle.rescue_phases.proofs.CopyingLemmas.{searched, IsNearest, IsFoundBy, nearest_by, cursor_by, ahead_by, less_by, takes_by, lies_ahead, still_ahead, start_ahead}
use Rattle.rescue_phases.proofs.TopLemmas.{top_of, top_within, reach_few}

-- a state of such a pass
pub record Sweeps (s : Setting) (m : Machine) : Type 0 where
  pub search : search_of s m ≡ searched (is_up s (pass_of m)) m.progress.cursor s.sector
  pub copying : is_copying m ≡ false
  pub trimming : is_trimming m ≡ false

pub scraping_sweeps : (s : Setting) (m : Machine) (number : ℕ) → pass_of m ≡ numbered Scraping number → Sweeps s m
scraping_sweeps s m number is = record {
  search = ap (λ (phase : Phase). search_in s m phase m.progress.mode) (ap (λ (p : Pass). p.phase) is);
  copying = ap (λ (p : Pass). copies p.phase) is;
  trimming = ap (λ (p : Pass). trims p.phase) is;
}

pub retrying_sweeps : (s : Setting) (m : Machine) (number : ℕ) → pass_of m ≡ numbered Retrying number → Sweeps s m
retrying_sweeps s m number is = record {
  search = ap (λ (phase : Phase). search_in s m phase m.progress.mode) (ap (λ (p : Pass). p.phase) is);
  copying = ap (λ (p : Pass). copies p.phase) is;
  trimming = ap (λ (p : Pass). trims p.phase) is;
}

nearest : (s : Setting) (m : Machine) (p q : ℕ) → Sweeps s m → IsRequest s m p q
    → IsNearest (is_up s (pass_of m)) (IsWanted s m) m.progress.cursor p q
nearest s m p q w asks =
    let P : ℕ → Type 0 = IsWanted s m in
    nearest_by (is_up s (pass_of m)) P m.progress.cursor s.sector s.sector asks.start asks.end p q
    (subst (λ (f : Search). IsFoundBy f P s.sector asks.start asks.end p q) w.search (asks.range, asks.starts, asks.ends))

-- no phase but copying jumps
cursor_is : (s : Setting) (m : Machine) (e : Event) → Sweeps s m → cursor_after s m e
    ≡ cursor_by (is_up s (pass_of m)) (length m.map) e.reading.pos (reach e.reading) 0
cursor_is s m e w =
    let p : ℕ = e.reading.pos in
    let far : Bool = if is_failed e.reading then nat_le (pass_of m).number 4 else is_slow s e && nat_le (pass_of m).number 2 in
    let by : ℕ → ℕ = cursor_by (is_up s (pass_of m)) (length m.map) p (reach e.reading) in
    cond-false (is_trimming m) p (by (if is_copying m && far then m.progress.skip else 0)) w.trimming
    ∙ ap (λ (c : Bool). by (if c && far then m.progress.skip else 0)) w.copying

-- A read leaves less of the map ahead,
pub sweeps_on : (s : Setting) (m : Machine) (e : Event) → Sweeps s m
    → IsRequest s m e.reading.pos (e.reading.pos + e.reading.asked) → StepsBy s m e
    → ahead_by (is_up s (pass_of m)) (top_of (step s m e)) (cursor_after s m e)
    < ahead_by (is_up s (pass_of m)) (top_of m) m.progress.cursor
sweeps_on s m e w asks by =
    let p : ℕ = e.reading.pos in
    let q : ℕ = e.reading.pos + e.reading.asked in
    less_by (is_up s (pass_of m)) (IsWanted s m) (length m.map) (top_of m) (top_of (step s m e)) m.progress.cursor p q
    (reach e.reading) 0 (cursor_after s m e) (nearest s m p q w asks) (takes_by s m e by) (top_within m)
    (omega (arith, top_within (step s m e), by.size)) (cursor_is s m e w)

-- and all that lay ahead and wasn't asked for lies ahead still.
pub ahead_is : (s : Setting) (m : Machine) (x : ℕ) → Sweeps s m
    → is_ahead (search_of s m) x ≡ lies_ahead (is_up s (pass_of m)) m.progress.cursor x
ahead_is s m x w = ap (λ (f : Search). is_ahead f x) w.search

pub ahead_still : (s : Setting) (m : Machine) (e : Event) (x : ℕ) → Sweeps s m
    → IsRequest s m e.reading.pos (e.reading.pos + e.reading.asked) → length e.reading.given ≤ e.reading.asked
    → IsWanted s m x → is_ahead (search_of s m) x ≡ true
    → (x < e.reading.pos) ⊎ (e.reading.pos + e.reading.asked ≤ x)
    → lies_ahead (is_up s (pass_of m)) (cursor_after s m e) x ≡ true
ahead_still s m e x w asks few wanted ahead apart =
    let p : ℕ = e.reading.pos in
    let q : ℕ = e.reading.pos + e.reading.asked in
    still_ahead (is_up s (pass_of m)) (IsWanted s m) (length m.map) m.progress.cursor p q (reach e.reading) (cursor_after s m e) x
    (nearest s m p q w asks) (reach_few e.reading few) (cursor_is s m e w) (sym (ahead_is s m x w) ∙ ahead) wanted apart

-- All lies ahead of a pass's start.
pub ahead_at_start : (s : Setting) (m : Machine) (x : ℕ) → Sweeps s m → m.progress.cursor ≡ start_of s (pass_of m) m.map
    → x < length m.map → is_ahead (search_of s m) x ≡ true
ahead_at_start s m x w begins there =
    ahead_is s m x w ∙ ap (λ (n : ℕ). lies_ahead (is_up s (pass_of m)) n x) begins
    ∙ start_ahead (is_up s (pass_of m)) (length m.map) x there
