-- How fast a rescue was lately, by the lines of its figures.
-- For contracts and proofs: no promise uses it.
use Rattle.std.specs.Prelude.{ℕ, ◌+◌, ◌-◌, ◌/◌, Bool, true, false, ◌||◌, nat_eq, nat_le, nat_lt, List, [], ◌∷◌, ◌++◌, length, slice_get, take, Option, Some, None, if◌then◌else◌}
use Rattle.ddrescueshow_cli.specs.declared.rate.Sample.{Sample}

-- how many bytes a second were rescued from an earlier line up to a later one
abbrev pub rate_between : (earlier later : Sample) → Option ℕ
rate_between earlier later =
    if nat_lt earlier.seconds later.seconds
    then Some ((later.rescued - earlier.rescued) / (later.seconds - earlier.seconds)) else None

-- ---- the lines that count, the earliest one first

-- the last one
abbrev pub last_of : List Sample → Option Sample
last_of lines = slice_get lines (length lines - 1)

-- a line tells of less than the last one that counts
abbrev pub tells_less : (now : Sample) → (last : Option Sample) → Bool
tells_less now None = false
tells_less now (Some last) = nat_lt now.seconds last.seconds || nat_lt now.rescued last.rescued

-- those of the rescue that a line is of: none if it tells of less than the last one, and so begins anew
abbrev pub of_rescue : (now : Sample) → List Sample → List Sample
of_rescue now lines = if tells_less now (last_of lines) then [] else lines

-- the first of these is ten seconds old or older
abbrev pub begins_old : (now : Sample) → List Sample → Bool
begins_old now [] = false
begins_old now (line ∷ lines) = nat_le (line.seconds + 10) now.seconds

-- those from the last one on that is ten seconds old or older; all if none is
abbrev pub of_ten_seconds : (now : Sample) → List Sample → List Sample
of_ten_seconds now [] = []
of_ten_seconds now (line ∷ lines) = if begins_old now lines then of_ten_seconds now lines else line ∷ lines

-- those that count at a line
abbrev pub lines_at : (now : Sample) → List Sample → List Sample
lines_at now lines = of_ten_seconds now (of_rescue now lines)

-- the rate at a line, from the first of those that count; none if there is none yet
abbrev pub rate_from : (now : Sample) → List Sample → Option ℕ
rate_from now [] = None
rate_from now (earlier ∷ lines) = rate_between earlier now

-- the last one is of the same second
abbrev pub is_of_second : (now : Sample) → (last : Option Sample) → Bool
is_of_second now None = false
is_of_second now (Some last) = nat_eq last.seconds now.seconds

-- Those that count after a line: of one second the first one does. There are sixteen at most.
abbrev pub lines_with : (now : Sample) → List Sample → List Sample
lines_with now lines = if is_of_second now (last_of lines) then lines else take 16 (lines ++ now ∷ [])
