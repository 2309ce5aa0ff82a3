-- What lies before the end that reads of an input met.
use Rattle.std.specs.Prelude.{ℕ, Bool, true, nat_lt, Option, Some, None}

-- a position lies before an end, if one was met
abbrev pub is_before : Option ℕ → ℕ → Bool
is_before None x = true
is_before (Some end) x = nat_lt x end
