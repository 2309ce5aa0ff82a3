-- A run within a pass after copying stays so in a turn.
use Rattle.std.proofs.Common.{◌≡◌, ℕ, suc, ◌+◌, ◌-◌, ◌<◌, ◌≤◌, Bool, true, false, List, [], ◌∷◌, ◌++◌, length, map, drop, take, Some, None, refl, sym, ap, ◌∙◌, arith, subst, ⊎_elim}
use Rattle.std.specs.List.{slice_get, slice_index_or, range_with_len}
use Rattle.std.proofs.lemmas.Bool.{and_from, le-leb, true≢false}
use Rattle.block_list.specs.declared.status.Status.TheVariants.{NonTrimmed, NonScraped}
use Rattle.block_list.specs.Map.{Has}
use Rattle.block_list.proofs.StretchLemmas.{same_self}
use Rattle.rescue_rules.specs.declared.stop.TrimMode.{TrimMode}
use Rattle.rescue_rules.specs.declared.stop.TrimMode.TheVariants.{Lead, Tail}
use Rattle.rescue_rules.specs.declared.phase.Phase.{Phase}
use Rattle.rescue_rules.specs.declared.phase.Phase.TheVariants.{Copying, Trimming, Scraping, Retrying}
use Rattle.rescue_rules.specs.Setting.{Setting, IsSensible}
use Rattle.rescue_rules.specs.Passes.{Pass, taken, is_up, numbered, passes_after, passes_from}
use Rattle.rescue_rules.specs.Machine.{Machine, pass_of, has_taken, is_live, is_wanted, Search, search_in, search_of, is_ahead, IsRequest, has_request}
use Rattle.rescue_rules.specs.Step.{Event, copies, is_copying, limit_met, step}
use Rattle.rescue_rules.specs.MachineLaws.{IsInOrder}
use Rattle.rescue_rules.proofs.OverLemmas.{live_was, wanted_live, wanted_before}
use Rattle.rescue_rules.proofs.ReadyLemmas.{order_begun}
use Rattle.rescue_rules.proofs.SearchLemmas.{wanted_within}
use Rattle.rescue_rules.proofs.StatusLemmas.{non_trimmed_stood, non_scraped_stood, wanted_taken}
use Rattle.rescue_core.specs.RunState.{RunState, setting_in, passed, IsGone}
use Rattle.rescue_core.specs.Turning.{stepped}
use Rattle.rescue_phases.specs.Copying.{LeavesNone}
use Rattle.rescue_phases.proofs.CopyingLemmas.{ahead_of, wanted_seen, start_ahead}
use Rattle.rescue_phases.proofs.TopLemmas.{top_of, below_top, before_top, top_less}
use Rattle.rescue_phases.specs.Passing.{IsPassOf, PhaseLeavesNone, IsBeforePass}
use Rattle.rescue_phases.proofs.AskedLemmas.{StepsLater, steps_later, unasked}
use Rattle.rescue_phases.proofs.CountLemmas.{count, fewer, front_has, front_had, front_within}
use Rattle.rescue_phases.proofs.SweepLemmas.{Sweeps, scraping_sweeps, retrying_sweeps, sweeps_on, ahead_is, ahead_still, ahead_at_start}

-- A run within such a pass: it has met no limit, and those after it follow; and in scraping each position that it asks
-- for lies ahead of its cursor.
pub record IsInPass (r : RunState) : Type 0 where
  pub sensible : IsSensible (setting_in r)
  pub within : limit_met (setting_in r) r.machine ≡ None
  pub there : IsPassOf (setting_in r) r.phase r.pass
  pub passes : r.machine.passes ≡ numbered r.phase r.pass ∷ passes_from (setting_in r) r.phase (r.pass + 1)
  pub order : IsInOrder (setting_in r) r.machine
  pub scrapes : r.phase ≡ Scraping → LeavesNone (setting_in r) r.machine

pass_is : (r : RunState) → IsInPass r → pass_of r.machine ≡ numbered r.phase r.pass
pass_is r i = ap (λ (ps : List Pass). slice_index_or ps 0 (numbered Copying 1)) i.passes

phase_is : (r : RunState) → IsInPass r → (pass_of r.machine).phase ≡ r.phase
phase_is r i = ap (λ (p : Pass). p.phase) (pass_is r i)

never_copies : (s : Setting) (phase : Phase) (number : ℕ) → IsPassOf s phase number → copies phase ≡ false
never_copies s Copying number there = absurd there
never_copies s _ number there = refl

later_is : (r : RunState) → IsInPass r → is_copying r.machine ≡ false
later_is r i = ap copies (phase_is r i) ∙ never_copies (setting_in r) r.phase r.pass i.there

-- it asks for the positions that are left of the domain with its phase's status
wants : (r : RunState) (x : ℕ) → IsInPass r → is_live (setting_in r) r.machine x ≡ true
    → Has r.machine.map (taken r.phase) x
    → is_wanted (setting_in r) r.machine x ≡ true
wants r x i inside has =
    let ps : List Pass = numbered r.phase r.pass ∷ passes_from (setting_in r) r.phase (r.pass + 1) in
    let takes : has_taken r.machine.passes (slice_get r.machine.map x) ≡ true =
    ap (λ (qs : List Pass). has_taken qs (slice_get r.machine.map x)) i.passes ∙ ap (has_taken ps) has ∙ same_self (taken r.phase) in
    and_from (is_live (setting_in r) r.machine x) (has_taken r.machine.passes (slice_get r.machine.map x)) inside takes

-- what a turn leaves to read: in trimming the non-trimmed positions that are left, and else the map ahead of the cursor
abbrev pub left_of : Phase → RunState → ℕ
left_of Copying r = ahead_of r
left_of Trimming r = count NonTrimmed (take (top_of r.machine) r.machine.map)
left_of Scraping r = ahead_of r
left_of Retrying r = ahead_of r

trims_less : (r : RunState) (e : Event) (heard : Bool) → IsInPass r → StepsLater (setting_in r) r.machine e → r.phase ≡ Trimming
    → left_of Trimming (stepped r e heard) < left_of Trimming r
trims_less r e heard i l is =
    let s : Setting = setting_in r in
    let m : Machine = r.machine in
    let n : Machine = step s m e in
    let p : ℕ = e.reading.pos in
    let wanted : is_wanted s m p ≡ true = l.steps.wanted p (omega arith) (omega (arith, l.steps.some)) in
    let has : Has m.map NonTrimmed p =
    subst (λ (phase : Phase). Has m.map (taken phase) p) (phase_is r i ∙ is) (wanted_taken s m p wanted) in
    let below : p < top_of m = below_top m p (wanted_within s m p wanted) (wanted_before s m p wanted) in
    fewer NonTrimmed (take (top_of m) m.map) (take (top_of n) n.map) p
    (λ x has. let within : x < top_of n = front_within (top_of n) n.map x NonTrimmed has in
    front_has (top_of m) m.map x NonTrimmed (top_less m n e.reading x refl l.steps.size within)
    (⊎_elim (λ (was : Has m.map NonTrimmed x). was)
    (λ (on : is_copying m ≡ true). absurd (true≢false (sym on ∙ l.later)))
    (non_trimmed_stood s m e.reading x (front_had (top_of n) n.map x NonTrimmed has))))
    (front_has (top_of m) m.map p NonTrimmed below has)
    (λ has. ⊎_elim (λ (low : p < p). omega (arith, low)) (λ (high : p + e.reading.asked ≤ p). omega (arith, high, l.steps.some))
    (unasked s m e NonTrimmed p l (before_top n p (front_within (top_of n) n.map p NonTrimmed has)) (λ same. cc) (λ same. cc)
    (front_had (top_of n) n.map p NonTrimmed has)))

sweeps_less : (r : RunState) (e : Event) (heard : Bool) → Sweeps (setting_in r) r.machine → StepsLater (setting_in r) r.machine e
    → IsRequest (setting_in r) r.machine e.reading.pos (e.reading.pos + e.reading.asked) → ahead_of (stepped r e heard) < ahead_of r
sweeps_less r e heard w l asks =
    sweeps_on (setting_in r) r.machine e w asks l.steps

sweeps_in : (r : RunState) (phase : Phase) → IsInPass r → r.phase ≡ phase → pass_of r.machine ≡ numbered phase r.pass
sweeps_in r phase i is = pass_is r i ∙ ap (λ (at : Phase). numbered at r.pass) is

reads_less : (phase : Phase) (r : RunState) (e : Event) (heard : Bool) → IsInPass r → StepsLater (setting_in r) r.machine e
    → IsRequest (setting_in r) r.machine e.reading.pos (e.reading.pos + e.reading.asked) → r.phase ≡ phase
    → left_of phase (stepped r e heard) < left_of phase r
reads_less Copying r e heard i l asks is = absurd (subst (λ (phase : Phase). IsPassOf (setting_in r) phase r.pass) is i.there)
reads_less Trimming r e heard i l asks is = trims_less r e heard i l is
reads_less Scraping r e heard i l asks is =
    sweeps_less r e heard (scraping_sweeps (setting_in r) r.machine r.pass (sweeps_in r Scraping i is)) l asks
reads_less Retrying r e heard i l asks is =
    sweeps_less r e heard (retrying_sweeps (setting_in r) r.machine r.pass (sweeps_in r Retrying i is)) l asks

-- after a turn of scraping each position that it asks for lies ahead of its cursor
scrapes_all : (r : RunState) (e : Event) → IsInPass r → StepsLater (setting_in r) r.machine e
    → IsRequest (setting_in r) r.machine e.reading.pos (e.reading.pos + e.reading.asked)
    → length e.reading.given ≤ e.reading.asked → r.phase ≡ Scraping → LeavesNone (setting_in r) (step (setting_in r) r.machine e)
scrapes_all r e i l asks few is =
    let s : Setting = setting_in r in
    let m : Machine = r.machine in
    let n : Machine = step s m e in
    let here : pass_of m ≡ numbered Scraping r.pass = sweeps_in r Scraping i is in
    let w : Sweeps s m = scraping_sweeps s m r.pass here in
    record {
      ahead = λ x wanted.
          let has : Has n.map NonScraped x =
          subst (λ (p : Pass). Has n.map (taken p.phase) x) here (wanted_taken s n x wanted) in
          let was : Has m.map NonScraped x =
          ⊎_elim (λ (was : Has m.map NonScraped x). was)
          (λ (back : (low : ℕ) × (m.progress.mode ≡ Tail low)).
          let e : Tail back.0 ≡ Lead = sym back.1 ∙ i.order.lead w.trimming in absurd (cc))
          (non_scraped_stood s m e.reading x has) in
          let before : is_wanted s m x ≡ true =
          wants r x i (live_was s m n e.reading x refl (wanted_live s n x wanted)) (subst (λ (phase : Phase). Has m.map (taken phase) x) (sym is) was) in
          ahead_is s n x (scraping_sweeps s n r.pass here)
          ∙ ahead_still s m e x w asks few before ((i.scrapes is).ahead x before)
          (unasked s m e NonScraped x l (wanted_before s n x wanted) (λ same. cc) (λ same. cc) has);
    }

-- An event of its request, and what it does.
pub record PassStep (r : RunState) (e : Event) (heard : Bool) : Type 0 where
  pub less : left_of r.phase (stepped r e heard) < left_of r.phase r
  pub inside : IsInPass (stepped r e heard)

pub passes_step : (r : RunState) (e : Event) (heard : Bool) → IsInPass r
    → IsRequest (setting_in r) r.machine e.reading.pos (e.reading.pos + e.reading.asked)
    → length e.reading.given ≤ e.reading.asked → limit_met (setting_in r) (stepped r e heard).machine ≡ None
    → PassStep r e heard
passes_step r e heard i asks few within =
    let l : StepsLater (setting_in r) r.machine e =
    steps_later (setting_in r) r.machine e i.sensible i.order (later_is r i) asks few in
    record {
      less = reads_less r.phase r e heard i l asks refl;
      inside = record {
        sensible = i.sensible;
        within = within;
        there = i.there;
        passes = i.passes;
        order = l.steps.order;
        scrapes = λ is. scrapes_all r e i l asks few is;
      };
    }

-- If it has no request left, trimming has left no position that it asks for either:
-- it isn't at a run's back, whose front would be ahead,
trims_lead : (r : RunState) → IsInPass r → r.phase ≡ Trimming → has_request (setting_in r) r.machine ≡ false
    → r.machine.progress.mode ≡ Lead
trims_lead r i is none = of r.machine.progress.mode refl
  where
    of : (mode : TrimMode) → r.machine.progress.mode ≡ mode → mode ≡ Lead
    of Lead at = refl
    of (Tail low) at =
        let s : Setting = setting_in r in
        let m : Machine = r.machine in
        let wanted : is_wanted s m low ≡ true = i.order.tail low at in
        let search : search_of s m ≡ search_in s m Trimming (Tail low) =
        ap (λ (phase : Phase). search_in s m phase m.progress.mode) (phase_is r i ∙ is) ∙ ap (search_in s m Trimming) at in
        let ahead : is_ahead (search_of s m) low ≡ true =
        ap (λ (f : Search). is_ahead f low) search ∙ le-leb low low (omega arith) in
        absurd (true≢false (sym (wanted_seen s m low wanted ahead) ∙ none))

-- and before a run all of the map is ahead.
trims_all : (r : RunState) → IsInPass r → r.phase ≡ Trimming → has_request (setting_in r) r.machine ≡ false
    → LeavesNone (setting_in r) r.machine
trims_all r i is none =
    let s : Setting = setting_in r in
    let m : Machine = r.machine in
    let search : search_of s m ≡ search_in s m Trimming Lead =
    ap (λ (phase : Phase). search_in s m phase m.progress.mode) (phase_is r i ∙ is)
    ∙ ap (search_in s m Trimming) (trims_lead r i is none) in
    record {
      ahead = λ x wanted. ap (λ (f : Search). is_ahead f x) search
          ∙ start_ahead (is_up s (pass_of m)) (length m.map) x (wanted_within s m x wanted);
    }

gone : (r : RunState) (phase : Phase) → IsInPass r → r.phase ≡ phase → has_request (setting_in r) r.machine ≡ false
    → LeavesNone (setting_in r) r.machine → IsGone (taken phase) r
gone r phase i is none all x inside has =
    let s : Setting = setting_in r in
    let wanted : is_wanted s r.machine x ≡ true =
    wants r x i inside (subst (λ (at : Phase). Has r.machine.map (taken at) x) (sym is) has) in
    true≢false (sym (wanted_seen s r.machine x wanted (all.ahead x wanted)) ∙ none)

-- So a phase is done whose pass has no request left.
pub is_done : (phase : Phase) (r : RunState) → IsInPass r → r.phase ≡ phase → has_request (setting_in r) r.machine ≡ false
    → PhaseLeavesNone phase r
is_done Copying r i is none = tt
is_done Trimming r i is none = gone r Trimming i is none (trims_all r i is none)
is_done Scraping r i is none = gone r Scraping i is none (i.scrapes is)
is_done Retrying r i is none = tt

-- The passes of a phase from one on begin with that one.
first_is : (s : Setting) (phase : Phase) (number : ℕ) → IsPassOf s phase number
    → passes_from s phase number ≡ numbered phase number ∷ passes_from s phase (number + 1)
first_is s Copying number there = absurd there
first_is s Trimming number there =
    subst (λ (n : ℕ). passes_from s Trimming n ≡ numbered Trimming n ∷ passes_from s Trimming (n + 1)) (sym there) refl
first_is s Scraping number there =
    subst (λ (n : ℕ). passes_from s Scraping n ≡ numbered Scraping n ∷ passes_from s Scraping (n + 1)) (sym there) refl
first_is s Retrying number there =
    let some : s.passes.retries + 1 - number ≡ suc (s.passes.retries + 1 - (number + 1)) = omega (arith, there) in
    ap (λ (n : ℕ). map (numbered Retrying) (range_with_len number n) ++ passes_after s Retrying) some

-- So a run goes on with that pass,
pub record GoesNext (phase : Phase) (number : ℕ) (r : RunState) : Type 0 where
  pub first : Pass
  pub passes : r.machine.passes ≡ first ∷ numbered phase number ∷ drop 2 r.machine.passes
  pub next : slice_get r.machine.passes 1 ≡ Some (numbered phase number)

goes_by : (ps qs : List Pass) (p : Pass) → drop 1 ps ≡ p ∷ qs → (first : Pass) × (ps ≡ first ∷ p ∷ drop 2 ps)
goes_by [] qs p is = absurd (cc)
goes_by (a ∷ []) qs p is = absurd (cc)
goes_by (a ∷ b ∷ ps) qs p is = (a, let e : b ≡ p = cc in ap (λ (b : Pass). a ∷ b ∷ ps) e)

pub goes_next : (phase : Phase) (number : ℕ) (r : RunState) → IsBeforePass phase number r → IsPassOf (setting_in r) phase number
    → GoesNext phase number r
goes_next phase number r b there =
    let s : Setting = setting_in r in
    let ps : List Pass = r.machine.passes in
    let by : (first : Pass) × (ps ≡ first ∷ numbered phase number ∷ drop 2 ps) =
    goes_by ps (passes_from s phase (number + 1)) (numbered phase number) (b.left ∙ first_is s phase number there) in
    record { first = by.0; passes = by.1; next = ap (λ (qs : List Pass). slice_get qs 1) by.1 }

-- at whose start it is within it.
pub begins_pass : (phase : Phase) (number : ℕ) (r : RunState) → IsBeforePass phase number r
    → IsPassOf (setting_in r) phase number → IsInPass (passed r phase number)
begins_pass phase number r b there =
    let s : Setting = setting_in r in
    let p : Pass = numbered phase number in
    let by : GoesNext phase number r = goes_next phase number r b there in
    let n : Machine = (passed r phase number).machine in
    record {
      sensible = b.sensible;
      within = b.within;
      there = there;
      passes = sym (ap (λ (ps : List Pass). drop 1 ps) by.passes) ∙ b.left ∙ first_is s phase number there;
      order = order_begun s r.machine p (drop 2 r.machine.passes);
      scrapes = λ is. record {
        ahead = λ x wanted.
            ahead_at_start s n x (scraping_sweeps s n number (ap (λ (at : Phase). numbered at number) is)) refl
            (wanted_within s n x wanted);
      };
    }
