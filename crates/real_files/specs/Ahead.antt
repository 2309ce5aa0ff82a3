-- What a file gave before it was asked for. For contracts and proofs: no promise uses it.
use Rattle.std.specs.Prelude.{◌≡◌, ℕ, ◌+◌, ◌-◌, ◌≤◌, min, Bool, true, false, ◌&&◌, nat_eq, nat_le, List, [], ◌++◌, length, drop, slice_range, Option}
use Rattle.std.specs.Io.KnownBytes.{Consumes}

-- the bytes that were read ahead and weren't given yet, the position of the first one, how many there is room for,
-- whether the last read ahead came whole, and the position up to which it asked
pub record Ahead : Type 0 where
  pub pos : ℕ
  pub bytes : List ℕ
  pub room : ℕ
  pub is_whole : Bool
  pub asked_to : ℕ

-- this number of bytes from a position on are held
abbrev pub holds : Ahead → (pos asked : ℕ) → Bool
holds a pos asked = nat_le a.pos pos && nat_le (pos + asked) (a.pos + length a.bytes)

-- this number of the bytes held, from a position on
abbrev pub held_at : Ahead → (pos asked : ℕ) → List ℕ
held_at a pos asked = slice_range a.bytes (pos - a.pos) (pos - a.pos + asked)

-- what is held after this number of bytes from a position on were given: the bytes that follow them
abbrev pub held_after : Ahead → (pos asked : ℕ) → Ahead
held_after a pos asked = record a { pos = pos + asked; bytes = drop (pos - a.pos + asked) a.bytes }

-- nothing is held, as at the beginning
abbrev pub nothing_held : (room : ℕ) → Ahead
nothing_held room = record { pos = 0; bytes = []; room = room; is_whole = true; asked_to = 0 }

-- how many bytes a read ahead asks for: as many as there is room for, but not more than these
abbrev pub asked_ahead : Ahead → (most : ℕ) → ℕ
asked_ahead a most = min a.room most

-- The piece was held: it was given, and what follows it is held.
pub record GivesHeld (pos : ℕ) (buf : List ℕ) (old new : Ahead) : Type 0 where
  pub given : buf ≡ held_at old pos (length buf)
  pub after : new ≡ held_after old pos (length buf)

-- One read ahead gave these bytes. They are the piece and what is held from then on, or they don't reach as far as the
-- piece, and are dropped. Fewer than it asked for say that it didn't come whole.
pub record ReadsAhead (pos most : ℕ) (given : Bool) (before after : Option (List ℕ)) (buf buf' : List ℕ)
    (old new : Ahead) : Type 0 where
  pub came : List ℕ
  pub consumes : Consumes before after came
  pub few : length came ≤ asked_ahead old most
  pub whole : new.is_whole ≡ nat_eq (length came) (asked_ahead old most)
  pub up_to : new.asked_to ≡ pos + asked_ahead old most
  pub reach : given ≡ nat_le (length buf) (length came)
  pub pieces : given ≡ true → (came ≡ buf' ++ new.bytes) × (new.pos ≡ pos + length buf)
  pub dropped : given ≡ false → (buf' ≡ buf) × (new.bytes ≡ [])
  pub room : new.room ≡ old.room
