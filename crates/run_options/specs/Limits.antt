-- A run without limits.
use Rattle.std.specs.Prelude.{None}
use Rattle.run_options.specs.declared.limits.Limits.{Limits}

-- no limit on errors, on bad areas or on time
abbrev pub no_limits : Limits
no_limits = record { errors = None; areas = None; timeout = None }
