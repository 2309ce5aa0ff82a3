use Rattle.std.proofs.Common.{◌≡◌, ◌-◌, ◌≤◌, vec_len, vec_capacity}
use Rattle.paged_blocks.specs.Paging.{flat, IsKeptInPages}
use Rattle.paged_blocks.proofs.room.add_pages.Given as goal

abbrev pub invariant-loop-pages : goal.invariant-loop-pages
invariant-loop-pages l = record {
  kept : IsKeptInPages l.pages.items l.entries.items l.free.items;
  flat : flat l.pages.items l.entries.items ≡ flat l.initial.pages.items l.entries.items;
  more : vec_len l.initial.pages ≤ vec_len l.pages;
  room : vec_len l.pages ≤ vec_capacity l.free;
  capacity : l.wanted ≤ vec_capacity l.free;
}

abbrev pub decreases-loop-pages : goal.decreases-loop-pages
decreases-loop-pages l = l.wanted - vec_len l.pages
