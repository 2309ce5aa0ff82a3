use Rattle.std.proofs.Common.{◌<◌, length, arith}
use Rattle.paged_blocks.proofs.PagingLemmas.{no_entry, entries_rise, blocks_rise, some_entry, first_entry, first_block_begins, named, held_in_page}
use Rattle.paged_blocks.proofs.search.by_position.held_counted.Goals as goal

pub last_before-last-requires : goal.last_before-last-requires
last_before-last-requires g c = record {
  sorted = entries_rise _ _ c.requires.paging;
  some = some_entry _ _ _ c.requires.some c.requires.within;
  first = λ d. first_entry _ _ _ d c.requires.paging c.requires.some c.requires.within;
}

pub before-requires : goal.before-requires
before-requires g c =
    let h : c.last_before-last.result < length c.args.entries.now.items = omega (arith, c.last_before-last.ensures.place.within) in
    let q = named _ _ _ no_entry _ c.requires.paging h (rw (c.at.ensures no_entry) at c.index-pages-at.is) in
    record {
      sorted = rw q (blocks_rise _ _ _ no_entry c.requires.paging h);
      some = rw q ((c.requires.paging.each _ no_entry h).some);
      first = λ d. rw q (first_block_begins _ _ _ _ no_entry d c.requires.paging c.last_before-last.ensures.place);
    }

pub returns-clause-held : goal.returns-clause-held
returns-clause-held g c =
    let h : c.last_before-last.result < length c.args.entries.now.items = omega (arith, c.last_before-last.ensures.place.within) in
    held_in_page _ _ _ _ _ no_entry _ c.requires.paging c.requires.some c.requires.within c.last_before-last.ensures.place
    (named _ _ _ no_entry _ c.requires.paging h (rw (c.at.ensures no_entry) at c.index-pages-at.is)) c.before-2.ensures.place
