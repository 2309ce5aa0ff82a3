-- What is promised of a map with nothing finished.
use Rattle.rescue_rules.specs.Laws.{PromiseOfNothing}

pub promise_of_nothing : PromiseOfNothing
promise_of_nothing s reads start map image none = (
  λ held. held.outside,
  λ outside. record {
    rescued = λ x b is_in has gave. absurd (none x is_in has);
    stood = λ x is_in has ungiven old. absurd (none x is_in has);
    outside = outside;
  },
)
