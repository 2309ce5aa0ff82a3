-- The first limit of three that is met.
use Rattle.std.proofs.Common.{◌≡◌, ℕ, ◌-◌, Bool, true, false, Option, Some, None, not, refl, sym, ap, ◌∙◌, if◌then◌else◌}
use Rattle.rescue_rules.specs.declared.report.Counts.{Counts}
use Rattle.rescue_rules.specs.declared.stop.Limit.{Limit}
use Rattle.rescue_rules.specs.declared.stop.Limit.TheVariants.{TooManyErrors, TooManyAreas, TimedOut}
use Rattle.rescue_rules.specs.Setting.{Setting}
use Rattle.rescue_rules.specs.Machine.{Machine}
use Rattle.rescue_rules.specs.Step.{areas_allowed, areas_of, exceeds, limit_met, time_allowed}
use Rattle.rescue_core.specs.RunState.{RunState, HasCounts, setting_in, run_of}
use Rattle.rescue_core.proofs.running.Running.limit.Goals as goal

-- the later two limits are looked at if the first one isn't met
asked_later : (unbegun errors : Bool) (first later : Option Limit) → unbegun ≡ false → errors ≡ false
    → later ≡ (if unbegun then None else if errors then first else later)
asked_later true errors first later begun few = absurd (cc)
asked_later false true first later begun few = absurd (cc)
asked_later false false first later begun few = refl

-- by the number of areas and the time
abbrev late_limit : Setting → Machine → Option Limit
late_limit s m =
    if exceeds (time_allowed s) (m.tally.now - m.tally.whole_at) then Some (TimedOut (m.tally.now - m.tally.whole_at))
    else None

abbrev later_limit : Setting → Machine → (areas : ℕ) → Option Limit
later_limit s m areas = if exceeds (areas_allowed s m) areas then Some (TooManyAreas areas) else late_limit s m

met_later : (r : RunState) (counts : Counts) → HasCounts r counts → not r.machine.tally.had_event ≡ false
    → exceeds (setting_in r).limits.errors r.machine.tally.failed ≡ false
    → later_limit (setting_in r) r.machine counts.failed.areas ≡ limit_met (setting_in r) r.machine
met_later r counts counted begun few =
    let s : Setting = setting_in r in
    let m : Machine = r.machine in
    ap (λ (c : Counts). later_limit s m c.failed.areas) counted.counts_are
    ∙ asked_later (not m.tally.had_event) (exceeds s.limits.errors m.tally.failed) (Some (TooManyErrors m.tally.failed))
    (later_limit s m (areas_of s m)) begun few

chosen : (b : Bool) (x y : Option Limit) → b ≡ true → x ≡ (if b then x else y)
chosen true x y is = refl
chosen false x y is = absurd (cc)

passed_over : (b : Bool) (x y : Option Limit) → b ≡ false → y ≡ (if b then x else y)
passed_over true x y is = absurd (cc)
passed_over false x y is = refl

pub returns-then-has_too_many : goal.returns-then-has_too_many
returns-then-has_too_many g c =
    let r : RunState = run_of g.T.Tiles c.args.self.now in
    let n : ℕ = c.args.self.now.counts.failed.areas in
    chosen (exceeds (areas_allowed (setting_in r) r.machine) n) (Some (TooManyAreas n))
    (late_limit (setting_in r) r.machine)
    (sym c.has_too_many.ensures ∙ c.if-has_too_many.true)
    ∙ met_later r c.args.self.now.counts c.requires (cc c.if-not-self.false)
    (sym c.exceeds.ensures ∙ c.if-exceeds.false)

pub returns-else-has_too_many : goal.returns-else-has_too_many
returns-else-has_too_many g c =
    let r : RunState = run_of g.T.Tiles c.args.self.now in
    let n : ℕ = c.args.self.now.counts.failed.areas in
    c.late.ensures
    ∙ passed_over (exceeds (areas_allowed (setting_in r) r.machine) n) (Some (TooManyAreas n))
    (late_limit (setting_in r) r.machine) (sym c.has_too_many.ensures ∙ c.if-has_too_many.false)
    ∙ met_later r c.args.self.now.counts c.requires (cc c.if-not-self.false)
    (sym c.exceeds.ensures ∙ c.if-exceeds.false)
