use Rattle.std.proofs.Common.{◌≡◌, ◌+◌, ◌-◌, ◌*◌, ◌<◌, ◌≤◌, ◌++◌, length, take, drop, vec_len, vec_capacity}
use Rattle.paged_blocks.specs.Paging.{flat, short_pages, AreFiled}
use Rattle.paged_blocks.proofs.marks.refill.deal.Given as goal

abbrev pub invariant-loop-made : goal.invariant-loop-made
invariant-loop-made l = record {
  filed : AreFiled l.pages.items l.entries.items l.free.items;
  index : l.k ≤ length l.entries.items;
  within : l.made ≤ length l.blocks;
  front : flat l.pages.items (take l.k l.entries.items)
      ≡ flat l.initial.pages.items (take l.first l.initial.entries.items) ++ take l.made l.blocks;
  back : flat l.pages.items (drop l.k l.entries.items)
      ≡ flat l.initial.pages.items (drop l.first l.initial.entries.items);
  half : 32 ≤ length l.blocks → short_pages l.entries.items ≡ short_pages l.initial.entries.items;
  rest : 32 ≤ length l.blocks → l.made < length l.blocks → l.made + 32 ≤ length l.blocks;
  none : l.made ≡ 0 → length l.entries.items ≡ length l.initial.entries.items;
  one : length l.blocks < 32 → 0 < l.made → (l.made ≡ length l.blocks);
  more : length l.blocks < 32 → 0 < l.made → length l.entries.items ≡ length l.initial.entries.items + 1;
  full : l.made + 64 < length l.blocks → 64 * length l.entries.items ≤ 64 * length l.initial.entries.items + l.made;
  less : l.made < length l.blocks → 64 * length l.entries.items < 64 * length l.initial.entries.items + length l.blocks;
  few : 64 * length l.entries.items < 64 * length l.initial.entries.items + length l.blocks + 64;
  pages : vec_len l.pages ≡ vec_len l.initial.pages;
  capacity : l.initial.entries.room ≤ l.entries.room;
  free : vec_capacity l.free ≡ vec_capacity l.initial.free;
}

abbrev pub decreases-loop-made : goal.decreases-loop-made
decreases-loop-made l = length l.blocks - l.made
