-- What a read answers: how many bytes it gave, and whether it met the input's end.
-- For contracts and proofs: no promise uses it.
use Rattle.std.specs.Prelude.{ℕ, Bool, true, false}
use Rattle.faulty_source.specs.declared.source.Got.{Got}
use Rattle.faulty_source.specs.declared.source.Got.TheVariants.{Read, End}

-- how many bytes it gave
abbrev pub count_of : Got → ℕ
count_of (Read n) = n
count_of (End n) = n

-- the read met the input's end
abbrev pub is_end : Got → Bool
is_end (Read n) = false
is_end (End n) = true
