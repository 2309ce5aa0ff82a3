-- How the tree of pages is kept. For contracts and proofs: no promise uses it.
use Rattle.std.specs.Prelude.{◌≡◌, ℕ, ◌≤◌, length, vec_len, vec_capacity}
use Rattle.std.specs.List.{flat_map}
use Rattle.block_list.specs.Stretches.{covered}
use Rattle.paged_blocks.specs.declared.page_tree.Pages.TheInside.{Inside}
use Rattle.paged_blocks.specs.Paging.{flat, IsKeptInPages}
use Rattle.paged_blocks.specs.Room.{room_for}

-- the end is that of the pages, and there is room to note each page as free
pub record IsPaged (t : Inside) : Type 0 where
  pub kept : IsKeptInPages t.pages.items t.entries.items t.free.items
  pub ends : t.end ≡ length (flat_map covered (flat t.pages.items t.entries.items))
  pub room : vec_len t.pages ≤ vec_capacity t.free

-- how many more blocks there is room for
abbrev pub spare_of : Inside → ℕ
spare_of t =
    room_for (vec_len t.pages) t.entries.room (length t.entries.items) (length (flat t.pages.items t.entries.items))
