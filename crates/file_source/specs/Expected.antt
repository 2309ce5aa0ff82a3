-- How far an input is read ahead. For contracts and proofs: no promise uses it.
use Rattle.std.specs.Prelude.{ℕ, ◌-◌, ◌&&◌, ◌||◌, nat_le, if◌then◌else◌}
use Rattle.real_files.specs.Ahead.{Ahead}

-- How many bytes may be read ahead from a position on, if positions from one up to another are expected: those up to
-- the end of these, if the position is one of them or follows them. None up to where the last read ahead asked, if that
-- one didn't come whole: a place there can't be read.
abbrev pub most_ahead : Ahead → (from to pos : ℕ) → ℕ
most_ahead ahead from to pos =
    if (ahead.is_whole || nat_le ahead.asked_to pos) && nat_le from pos then to - pos else 0
