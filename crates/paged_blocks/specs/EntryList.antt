-- A list of entries with a gap. For contracts and proofs: no promise uses it.
use Rattle.std.specs.Prelude.{ℕ, ◌+◌, ◌≤◌, List, ◌++◌, min, reverse, vec_len, vec_capacity}
use Rattle.block_pages.specs.declared.page_entry.PageEntry.{PageEntry}
use Rattle.paged_blocks.specs.declared.entry_list.Entries.TheInside.{Inside}

-- entries, and for how many there is room
pub record EntryList : Type 0 where
  pub items : List PageEntry
  pub room : ℕ

-- the list of entries: those after the gap are kept last first, and all may come to lie on either side of it
abbrev pub listed_entries : Inside → EntryList
listed_entries e =
    record { items = e.front.items ++ reverse e.back.items; room = min (vec_capacity e.front) (vec_capacity e.back) }

-- there is room for all entries on each side of the gap
pub record HasRoomForAll (e : Inside) : Type 0 where
  pub fits : vec_len e.front + vec_len e.back ≤ min (vec_capacity e.front) (vec_capacity e.back)
