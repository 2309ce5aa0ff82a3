-- How a run comes to a phase over passes that are spent.
use Rattle.std.specs.Prelude.{◌≡◌, ◌≢◌, ⊤, ℕ, ◌≤◌, false, if◌then◌else◌, List, [], ◌∷◌, ◌++◌, drop, slice_get, All, Some, None}
use Rattle.rescue_rules.specs.declared.phase.Phase.{Phase}
use Rattle.rescue_rules.specs.declared.phase.Phase.TheVariants.{Copying, Trimming, Scraping, Retrying}
use Rattle.rescue_rules.specs.Setting.{Setting, IsSensible}
use Rattle.rescue_rules.specs.Passes.{Pass, numbered, copying_passes, passes_in, passes_after, passes_from}
use Rattle.rescue_rules.specs.Machine.{has_request}
use Rattle.rescue_rules.specs.MachineLaws.{IsInOrder, HasNone}
use Rattle.rescue_rules.specs.Step.{limit_met}
use Rattle.rescue_core.specs.RunState.{RunState, setting_in, passed}
use Rattle.rescue_core.specs.Stages.{Reached, Copied, Trimmed, Scraped, Over, Known}
use Rattle.rescue_phases.specs.Turns.{IsAlike}
use Rattle.rescue_phases.specs.Copying.{MayCopy}
use Rattle.rescue_phases.specs.Past.{IsPast}
use Rattle.turn_laws.specs.UnderWay.{IsUnderWay}

-- a run that has begun these passes, one after another
abbrev pub passed_over : RunState → List Pass → RunState
passed_over r [] = r
passed_over r (p ∷ ps) = passed_over (passed r p.phase p.number) ps

-- a run may begin these passes: each is the next one of a pass that has no request left, as `begin_pass` asks
abbrev pub MayPassOver : RunState → List Pass → Type 0
MayPassOver r [] = ⊤
MayPassOver r (p ∷ ps) =
    (slice_get r.machine.passes 1 ≡ Some (numbered p.phase p.number))
    × (has_request (setting_in r) r.machine ≡ false) × MayPassOver (passed r p.phase p.number) ps

-- Over these passes a run comes to where the phase after this one takes it, with the same reads to come.
pub record LeadsPast (phase : Phase) (r : RunState) (spent : List Pass) : Type 0 where
  pub may : MayPassOver r spent
  pub is_past : IsPast phase (passed_over r spent)
  pub alike : IsAlike (setting_in r) r.machine (passed_over r spent).machine

-- A run whose pass has no request left, and whose passes up to those after a phase have no position to ask for, may
-- begin these, and then be handed to the next phase.
abbrev pub SpentLeadsPast : Type 0
SpentLeadsPast = (r : RunState) (phase : Phase) (spent : List Pass) → IsSensible (setting_in r)
    → limit_met (setting_in r) r.machine ≡ None → has_request (setting_in r) r.machine ≡ false
    → drop 1 r.machine.passes ≡ spent ++ passes_after (setting_in r) phase
    → All (HasNone (setting_in r) r.machine) spent → LeadsPast phase r spent

-- the passes up to the end of a phase, from one of copying on
abbrev pub passes_up_to : Setting → Phase → (number : ℕ) → List Pass
passes_up_to s Copying number = passes_in s Copying number
passes_up_to s Trimming number = passes_in s Copying number ++ (if s.passes.trims then passes_in s Trimming 1 else [])
passes_up_to s Scraping number =
    (passes_in s Copying number ++ (if s.passes.trims then passes_in s Trimming 1 else []))
    ++ (if s.passes.scrapes then passes_in s Scraping 1 else [])
passes_up_to s Retrying number = passes_from s Copying number

-- what the type of a run knows that the phase after this one takes
abbrev pub known_past : Phase → Reached
known_past Copying = Copied
known_past Trimming = Trimmed
known_past Scraping = Scraped
known_past Retrying = Over

-- By what its type knows, a run that is in any pass of copying still may be handed over spent passes to trimming, to
-- scraping or to retrying.
abbrev pub TypedLeadsPast : Type 0
TypedLeadsPast = (r : RunState) (phase : Phase) → phase ≢ Retrying → IsSensible (setting_in r)
    → limit_met (setting_in r) r.machine ≡ None → r.pass ≤ copying_passes
    → r.machine.passes ≡ passes_from (setting_in r) Copying r.pass → Known (known_past phase) r
    → LeadsPast phase r (drop 1 (passes_up_to (setting_in r) phase r.pass))

-- Copying takes a run that is under way in any of its passes, wherever its cursor.
abbrev pub UnderWayMayCopy : Type 0
UnderWayMayCopy = (r : RunState) → IsSensible (setting_in r) → limit_met (setting_in r) r.machine ≡ None
    → r.phase ≡ Copying → r.pass ≤ copying_passes → r.machine.passes ≡ passes_from (setting_in r) Copying r.pass
    → IsUnderWay (setting_in r) r.machine → MayCopy r

-- Each run that copying takes is under way.
abbrev pub CopyingIsUnderWay : Type 0
CopyingIsUnderWay = (r : RunState) → MayCopy r → IsUnderWay (setting_in r) r.machine

-- A run that is past a phase is under way, by what its type knows, and may be handed to the next.
abbrev pub PastIsUnderWay : Type 0
PastIsUnderWay = (r : RunState) (phase : Phase) (first : ℕ) (past : List Pass) → IsInOrder (setting_in r) r.machine
    → past ++ r.machine.passes ≡ passes_from (setting_in r) Copying first → IsPast phase r
    → Known (known_past phase) r → IsUnderWay (setting_in r) r.machine
