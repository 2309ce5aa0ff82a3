-- Blocks of the output, by their numbers.
use Rattle.std.specs.Prelude.{◌≡◌, ℕ, ◌+◌, ◌-◌, ◌*◌, ◌/◌, ◌^◌, ◌<◌, ◌≤◌, Bool, true, ◌&&◌, nat_eq, nat_le, List}
use Rattle.std.specs.List.{list_any}
use Rattle.rescue_domain.specs.Places.{place_from}
use Rattle.map_algebra.specs.declared.shape.Shape.{Shape}

-- blocks aren't empty, and numbers of such a shape are below 2^63
pub record IsShape (s : Shape) : Type 0 where
  pub some : 0 < s.size
  pub short : s.size < 2 ^ 63
  pub from : s.ipos < 2 ^ 63
  pub to : s.opos < 2 ^ 63

-- the number of the block that a position lies in, in the output
abbrev pub block_of : Shape → ℕ → ℕ
block_of s x = place_from s.ipos s.opos x / s.size

-- a position lies in a block; none before the input position does
abbrev pub is_in_block : Shape → (k x : ℕ) → Bool
is_in_block s k x = nat_le s.ipos x && nat_eq (block_of s x) k

-- where the positions of a block begin
abbrev pub begin_of : Shape → (k : ℕ) → ℕ
begin_of s k = s.ipos + (k * s.size - s.opos)

-- where the positions of a block end: where they begin, if it has none
abbrev pub end_of : Shape → (k : ℕ) → ℕ
end_of s k = s.ipos + (k * s.size + s.size - s.opos)

-- a position lies in one of these blocks
abbrev pub is_in_blocks : Shape → List ℕ → ℕ → Bool
is_in_blocks s ks x = list_any (λ k. is_in_block s k x) ks

-- the end past all positions in these blocks, 0 if there are none
pub record IsEndOfBlocks (s : Shape) (ks : List ℕ) (end : ℕ) : Type 0 where
  pub within : (x : ℕ) → is_in_blocks s ks x ≡ true → x < end
  pub least : (other : ℕ) → ((x : ℕ) → is_in_blocks s ks x ≡ true → x < other) → end ≤ other
