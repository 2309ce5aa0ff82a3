-- How many more blocks there is room for. For contracts and proofs: no promise uses it.
use Rattle.std.specs.Prelude.{◌≡◌, ℕ, ◌+◌, ◌-◌, ◌*◌, ◌<◌, ◌≤◌, max, min}

-- How many more blocks there is room for, by the number of pages, the entries that there is room for, and the numbers
-- of entries and blocks. Each block takes a page at most, and pages that are half full hold all, whatever the order of
-- the edits.
abbrev pub room_for : (pages capacity entries blocks : ℕ) → ℕ
room_for pages capacity entries blocks =
    max (min pages capacity - entries) (32 * min pages capacity - blocks)

-- pages and entries suffice for some blocks that come in the place of those of the pages that are taken out
pub record HasPagesFor (named taken blocks made room : ℕ) : Type 0 where
  pub pages : 64 * named + blocks ≤ 64 * (made + taken)
  pub entries : 64 * named + blocks ≤ 64 * (room + taken)

-- there is room for a mark: for one block more, and for two if the mark ends before the map does
pub record HasRoomForMark (past end spare : ℕ) : Type 0 where
  pub one : 1 ≤ spare
  pub two : past < end → 2 ≤ spare

-- a mark adds at most two blocks, and at most one if it reaches the map's end
pub record AddsFew (past end old new : ℕ) : Type 0 where
  pub two : new ≤ old + 2
  pub one : end ≤ past → new ≤ old + 1

-- there are as many pages as before, room for no fewer entries, and room to note each page as free
pub record KeepsRoom (old_pages old_room new_pages new_room capacity : ℕ) : Type 0 where
  pub pages : new_pages ≡ old_pages
  pub entries : old_room ≤ new_room
  pub free : new_pages ≤ capacity

-- there are as many entries and pages as before, and as much room
pub record KeepsSizes (old_entries old_pages old_room new_entries new_pages new_room : ℕ) : Type 0 where
  pub entries : new_entries ≡ old_entries
  pub pages : new_pages ≡ old_pages
  pub room : new_room ≡ old_room
