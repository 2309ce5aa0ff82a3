-- Where positions are in the output.
use Rattle.std.specs.Prelude.{◌≡◌, ℕ, ◌+◌, ◌-◌, ◌^◌, ◌<◌, ◌≤◌, Bool, true}

-- a position is in the output as far past the output position as it is past the input position
abbrev pub place_from : (from to : ℕ) → ℕ → ℕ
place_from from to x = x - from + to

-- each position of a domain ends there below 2^63
abbrev pub AreAllPlaced : (domain : ℕ → Bool) → (from to : ℕ) → Type 0
AreAllPlaced domain from to = (x : ℕ) → domain x ≡ true → place_from from to x < 2 ^ 63 - 1

-- a position of a domain would end in the output at 2^63 or past it
abbrev pub IsAnyBeyond : (domain : ℕ → Bool) → (from to : ℕ) → Type 0
IsAnyBeyond domain from to = (x : ℕ) × (domain x ≡ true) × (2 ^ 63 ≤ place_from from to x + 1)
