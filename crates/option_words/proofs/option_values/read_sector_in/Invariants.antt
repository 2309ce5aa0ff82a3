-- The sector so far, and what the others give then, is what all give; and it is accepted.
use Rattle.std.proofs.Common.{◌≡◌, map, drop, Ok}
use Rattle.size_suffixes.specs.Sectors.{IsSector}
use Rattle.option_words.specs.Rows.{meaning_of_row}
use Rattle.option_words.specs.Values.{default_sector, set_in_turn, with_sector}
use Rattle.option_words.proofs.option_values.read_sector_in.Given as goal

abbrev pub invariant-loop-item : goal.invariant-loop-item
invariant-loop-item l = record {
  set : set_in_turn (with_sector (map meaning_of_row l.table) l.letter l.words) (Ok default_sector) l.items
      ≡ set_in_turn (with_sector (map meaning_of_row l.table) l.letter l.words) (Ok l.sector)
      (drop l.item-index l.items);
  sector : IsSector l.sector;
}
