-- What generate mode marks, by the bytes that an output gave. For contracts and proofs: no promise uses it.
use Rattle.std.specs.Prelude.{ℕ, Bool, not, ◌&&◌, nat_eq, nat_le, nat_lt, List}
use Rattle.block_list.specs.declared.status.Status.{Status}
use Rattle.block_list.specs.declared.status.Status.TheVariants.{Finished}
use Rattle.rescue_rules.specs.Preparation.{changed_from}
use Rattle.sweep_rules.specs.Sweep.{Swept}

-- a byte is other than zero
abbrev pub is_byte : ℕ → Bool
is_byte b = not (nat_eq b 0)

-- the map with these of its positions finished
abbrev pub finished_at : (ℕ → Bool) → List Status → List Status
finished_at positions map = changed_from positions (λ status. Finished) 0 map

-- the map with its positions from one up to another finished
abbrev pub finished_between : (from to : ℕ) → List Status → List Status
finished_between from to map = finished_at (λ x. nat_le from x && nat_lt x to) map

-- a piece at a position, for which the output gave these bytes
abbrev pub piece_at : (pos len : ℕ) → (got : List ℕ) → Swept
piece_at pos len got = record { pos = pos; len = len; got = got; after = 0 }
