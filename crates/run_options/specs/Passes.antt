-- A run of each phase but retrying.
use Rattle.std.specs.Prelude.{true, false}
use Rattle.run_options.specs.declared.passes.Passes.{Passes}

-- the first pass goes upwards, and those after it alternate
abbrev pub all_phases_once : Passes
all_phases_once = record { trims = true; scrapes = true; retries = 0; reverse = false; one_way = false }
