-- What the definitions mean.
use Rattle.std.specs.Prelude.{◌≡◌, ℕ, true, List, slice_get, Option, Some}
use Rattle.block_list.specs.declared.status.Status.{Status}
use Rattle.mapfile_text.specs.declared.state.MapState.{MapState}
use Rattle.rescue_rules.specs.declared.phase.Phase.{Phase}
use Rattle.rescue_rules.specs.Setting.{Setting, IsSensible}
use Rattle.rescue_rules.specs.Passes.{passes_from}
use Rattle.rescue_rules.specs.Machine.{Machine}
use Rattle.rescue_rules.specs.MachineLaws.{IsInOrder, AsksFor}
use Rattle.rescue_rules.specs.Step.{Event, is_copying}
use Rattle.rescue_rules.specs.Moves.{Move, moves, state_after, has_ended, IsRun}
use Rattle.rescue_rules.specs.Beginning.{machine_of}
use Rattle.run_laws.specs.Bounds.{AskFew}
use Rattle.run_laws.specs.Endings.{EndsWell}

-- A position is asked at most once in copying: two moves of copying that ask for it are one.
abbrev pub CopyingAsksOnce : Type 0
CopyingAsksOnce = (s : Setting) (m : Machine) (events : List Event) (i j x : ℕ) (v w : Move)
    → IsSensible s → IsInOrder s m → IsRun s m events
    → slice_get (moves s m events) i ≡ Some v → slice_get (moves s m events) j ≡ Some w
    → is_copying v.before ≡ true → is_copying w.before ≡ true → AsksFor v.event.reading x → AsksFor w.event.reading x
    → i ≡ j

-- A run whose passes are all those from one of them on asks for a position as few times as `AskFew` says.
abbrev pub RunAsksFew : Type 0
RunAsksFew = (s : Setting) (m : Machine) (phase : Phase) (number : ℕ) (events : List Event) → IsSensible s
    → IsInOrder s m → m.passes ≡ passes_from s phase number → IsRun s m events → AskFew s m events

-- A run from its start, or from where a mapfile's copying was, that has no request left and met no limit, ends well.
abbrev pub RunEndsWell : Type 0
RunEndsWell = (s : Setting) (map : List Status) (from : Option MapState) (shown : MapState) (time : ℕ)
    (events : List Event) → IsSensible s → IsRun s (machine_of s map from shown time) events
    → has_ended s (state_after s (machine_of s map from shown time) events) ≡ true
    → EndsWell s (machine_of s map from shown time) events
