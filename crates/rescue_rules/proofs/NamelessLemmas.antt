-- A run with the names of its input and its output, and without them.
use Rattle.std.proofs.Common.{ℕ, ◌+◌, List, refl}
use Rattle.std.specs.List.{slice_index_or}
use Rattle.rescue_rules.specs.Setting.{Setting}
use Rattle.rescue_rules.specs.Machine.{Machine, IsRequest}
use Rattle.rescue_rules.specs.Step.{Event}
use Rattle.rescue_rules.specs.Moves.{Move, moves, IsMove, IsRun}
use Rattle.rescue_rules.specs.Nameless.{nameless, RunNeedsNoNames}

-- What is so without the names is so with them,
pub request_named : (s : Setting) (m : Machine) (p q : ℕ) → IsRequest (nameless s) m p q → IsRequest s m p q
request_named s m p q r = record { start = r.start; end = r.end; range = r.range; starts = r.starts; ends = r.ends }

pub move_named : (s : Setting) (v : Move) → IsMove (nameless s) v → IsMove s v
move_named s v is = record {
  request = request_named s v.before v.event.reading.pos (v.event.reading.pos + v.event.reading.asked) is.request;
  few = is.few;
  within = is.within;
}

pub run_named : (s : Setting) (m : Machine) (es : List Event) → IsRun (nameless s) m es → IsRun s m es
run_named s m es run =
    record { each = λ k d within. move_named s (slice_index_or (moves s m es) k d) (run.each k d within) }

-- and the other way round.
pub request_nameless : (s : Setting) (m : Machine) (p q : ℕ) → IsRequest s m p q → IsRequest (nameless s) m p q
request_nameless s m p q r = record { start = r.start; end = r.end; range = r.range; starts = r.starts; ends = r.ends }

pub move_nameless : (s : Setting) (v : Move) → IsMove s v → IsMove (nameless s) v
move_nameless s v is = record {
  request = request_nameless s v.before v.event.reading.pos (v.event.reading.pos + v.event.reading.asked) is.request;
  few = is.few;
  within = is.within;
}

pub run_nameless : (s : Setting) (m : Machine) (es : List Event) → IsRun s m es → IsRun (nameless s) m es
run_nameless s m es run =
    record { each = λ k d within. move_nameless s (slice_index_or (moves s m es) k d) (run.each k d within) }

pub runs_alike : RunNeedsNoNames
runs_alike s m es = record {
  run = (run_named s m es, run_nameless s m es);
  moves_are = refl;
  state = refl;
  calls = refl;
  last = refl;
  saves = refl;
  lines = λ end. refl;
}
