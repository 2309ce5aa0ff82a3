-- The run of a rescue: its events, and the states that they lead through.
use Rattle.std.specs.Prelude.{◌≡◌, ◌+◌, ◌≤◌, ◌&&◌, List, [], ◌∷◌, length, drop, All, None, Bool, true, false, is_none, if◌then◌else◌}
use Rattle.rescue_rules.specs.declared.stop.TrimMode.TheVariants.{Lead}
use Rattle.rescue_rules.specs.Setting.{Setting}
use Rattle.rescue_rules.specs.Passes.{Pass}
use Rattle.rescue_rules.specs.Machine.{Machine, at_start, IsRequest, has_request}
use Rattle.rescue_rules.specs.Step.{Event, step, limit_met}

-- the state at the start of a pass, which others follow
abbrev pub begun : Setting → Machine → Pass → List Pass → Machine
begun s m p ps = record m { passes = p ∷ ps; progress = at_start s p m.map }

-- the state at the end, where no pass is left
abbrev pub ended : Machine → Machine
ended m = record m { passes = []; progress = record { pass = 0; cursor = 0; mode = Lead; skip = 0 } }

-- the state at the start of the first of these passes that has a request, or at the end
abbrev pub at_next : Setting → Machine → List Pass → Machine
at_next s m [] = ended m
at_next s m (p ∷ ps) = if has_request s (begun s m p ps) then begun s m p ps else at_next s m ps

-- the state goes on over passes without a request
abbrev pub ready : Setting → Machine → Machine
ready s m = if has_request s m then m else at_next s m (drop 1 m.passes)

-- an event between the states before it and after it
pub record Move : Type 0 where
  pub before : Machine
  pub event : Event
  pub after : Machine

-- the move that an event makes from a state, which first goes on over passes without a request
abbrev pub move_of : Setting → Machine → Event → Move
move_of s m e = record { before = ready s m; event = e; after = step s (ready s m) e }

-- the moves that events make
abbrev pub moves : Setting → Machine → List Event → List Move
moves s m [] = []
moves s m (e ∷ es) = move_of s m e ∷ moves s (move_of s m e).after es

-- the state that events lead to
abbrev pub state_after : Setting → Machine → List Event → Machine
state_after s m [] = m
state_after s m (e ∷ es) = state_after s (move_of s m e).after es

-- an event reads the request of the state before it, which has met no limit
pub record IsMove (s : Setting) (v : Move) : Type 0 where
  pub request : IsRequest s v.before v.event.reading.pos (v.event.reading.pos + v.event.reading.asked)
  pub few : length v.event.reading.given ≤ v.event.reading.asked
  pub within : limit_met s v.before ≡ None

-- events are a run from a state
pub record IsRun (s : Setting) (m : Machine) (events : List Event) : Type 0 where
  pub each : All (IsMove s) (moves s m events)

-- no pass is left
abbrev pub no_pass_left : List Pass → Bool
no_pass_left [] = true
no_pass_left (p ∷ ps) = false

-- no pass has a request left, and no limit was met
abbrev pub has_ended : Setting → Machine → Bool
has_ended s m = no_pass_left (ready s m).passes && is_none (limit_met s m)
