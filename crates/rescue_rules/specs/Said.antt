-- When a line is put.
use Rattle.std.specs.Prelude.{ℕ, ◌+◌, ◌-◌, ◌^◌, min, Bool, true, not, ◌||◌, nat_eq, nat_lt, Option, Some, None, if◌then◌else◌}
use Rattle.mapfile_text.specs.declared.state.Current.{Current}
use Rattle.mapfile_text.specs.Printed.{current_symbol}
use Rattle.rescue_rules.specs.declared.report.Said.{Said}

-- a line was put in a phase, which a mapfile shows by its character
abbrev pub is_said_in : Said → Current → Bool
is_said_in said current = nat_eq (current_symbol said.current) (current_symbol current)

-- A line is due after an event that is the first of its phase, or whose second is later than that of the last line.
-- (The first event of each phase has its line, and no phase comes twice: so the phase of the last line is that of the
-- last event.)
abbrev pub is_line_due : Option Said → (current : Current) → (second : ℕ) → Bool
is_line_due None current second = true
is_line_due (Some said) current second = not (is_said_in said current) || nat_lt said.second second

-- the line that was put last, after an event
abbrev pub said_after : Option Said → (current : Current) → (second : ℕ) → Option Said
said_after said current second =
    if is_line_due said current second then Some (record { current = current; second = second }) else said

-- a count of bytes stays at the end of its type
abbrev pub more_written : (written more : ℕ) → ℕ
more_written written more = min (2 ^ 64 - 1) (written + more)
