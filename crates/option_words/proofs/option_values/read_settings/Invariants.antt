-- What the options so far set, and the others then, is what all set.
use Rattle.std.proofs.Common.{◌≡◌, drop, Ok}
use Rattle.option_words.specs.Values.{with_item, set_in_turn}
use Rattle.option_words.proofs.option_values.read_settings.Given as goal

abbrev pub invariant-loop-item : goal.invariant-loop-item
invariant-loop-item g l =
    set_in_turn (with_item g.O.OptionValues.rows l.sector l.words) (Ok l.fn.none) l.items
    ≡ set_in_turn (with_item g.O.OptionValues.rows l.sector l.words) (Ok l.options) (drop l.item-index l.items)
