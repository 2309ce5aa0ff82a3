-- Reads of whole sectors, for a buffer that wants a part of them. For contracts and proofs: no promise uses it.
use Rattle.std.specs.Prelude.{◌≡◌, ℕ, ◌-◌, min, List, length, take, drop, Option}
use Rattle.std.specs.Io.KnownBytes.{Consumes}

-- A reader gave these bytes. Those that follow the first `skip` of them are in the buffer, as many as it takes: no
-- byte of the front, none that didn't come.
pub record GivesPast (skip : ℕ) (before after : Option (List ℕ)) (n : ℕ) (buf : List ℕ) : Type 0 where
  pub came : List ℕ
  pub consumes : Consumes before after came
  pub count : n ≡ min (length came - skip) (length buf)
  pub bytes : take n buf ≡ take n (drop skip came)
