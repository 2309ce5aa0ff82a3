-- A sample: a generated input, with bad sectors that are drawn.
use Rattle.std.specs.Prelude.{◌≡◌, ℕ, zero, suc, ◌+◌, ◌*◌, ◌/◌, ◌%◌, ◌^◌, ◌<◌, ◌≤◌, Bool, true, false, not, ◌||◌, nat_eq, List, length, map, slice_range, All, count_by}
use Rattle.std.specs.List.{list_any, range_with_len}
use Rattle.faulty_source.specs.declared.journal.ReadEntry.{ReadEntry}
use Rattle.faulty_source.specs.Journal.{Reading, is_failed}
use Rattle.rescue_sample.specs.declared.source.Answered.{Answered}

-- the byte at a position
abbrev pub sample_byte : ℕ → ℕ
sample_byte x = x % 251

-- how many bytes a sample of `kib` KiB has
abbrev pub sample_size : (kib : ℕ) → ℕ
sample_size kib = kib * 1024

-- the bytes of a sample of `kib` KiB
abbrev pub sample_bytes : (kib : ℕ) → List ℕ
sample_bytes kib = map sample_byte (range_with_len 0 (sample_size kib))

-- what follows a value that was drawn
abbrev pub next_drawn : ℕ → ℕ
next_drawn value = (value * 6364136223846793005 + 1442695040888963407) % 2 ^ 64

-- the values of a sample: the one with the number 0 is its size in KiB, and the others are drawn
abbrev pub drawn : (kib k : ℕ) → ℕ
drawn kib zero = kib
drawn kib (suc k) = next_drawn (drawn kib k)

-- the sector that a value means; a sector has 512 bytes
abbrev pub sector_meant : (kib value : ℕ) → ℕ
sector_meant kib value = value / 2 ^ 33 % (2 * kib)

-- the bad sectors: those of the values from the first one drawn on, one for each 64 KiB begun
abbrev pub bad_sectors : (kib : ℕ) → List ℕ
bad_sectors kib = map (λ k. sector_meant kib (drawn kib k)) (range_with_len 1 (kib / 64 + 1))

-- a position lies in one of these sectors
abbrev pub is_in_one : List ℕ → ℕ → Bool
is_in_one sectors x = list_any (λ sector. nat_eq (x / 512) sector) sectors

-- the position is bad forever
abbrev pub is_bad : (kib x : ℕ) → Bool
is_bad kib x = is_in_one (bad_sectors kib) x

-- What a read of asked bytes at pos is answered. A read that meets a bad position before the sample's end gives what
-- comes before that. Any other gives all that there is, and meets the end if that is less than was asked for.
pub record IsSampleAnswer (kib pos asked given : ℕ) (ended : Bool) : Type 0 where
  pub few : given ≤ asked
  pub good : (x : ℕ) → pos ≤ x → x < pos + given → is_bad kib x ≡ false
  pub there : 0 < given → pos + given ≤ sample_size kib
  pub over : ended ≡ true → (given < asked) × (sample_size kib ≤ pos + given)
  pub failed : ended ≡ false → given < asked → (pos + given < sample_size kib) × (is_bad kib (pos + given) ≡ true)

-- a read of a sample: it gave the sample's bytes, and as many as it has to
pub record IsSampleRead (kib : ℕ) (r : Reading) : Type 0 where
  pub from : r.given ≡ slice_range (sample_bytes kib) r.pos (r.pos + length r.given)
  pub answer : IsSampleAnswer kib r.pos r.asked (length r.given) r.ended

-- an entry of the list of reads says that its read failed
abbrev pub entry_failed : ReadEntry → Bool
entry_failed e = not (nat_eq e.given e.asked || e.ended)

-- reads of a sample, counted
pub record AreSampleReads (kib : ℕ) (journal : List Reading) (counts : Answered) : Type 0 where
  pub each : All (IsSampleRead kib) journal
  pub reads : counts.reads ≡ length journal
  pub failed : counts.failed ≡ count_by is_failed journal
