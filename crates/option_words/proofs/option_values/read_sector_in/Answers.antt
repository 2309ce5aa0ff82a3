-- What an option gives is accepted.
use Rattle.std.proofs.Common.{◌≡◌, ◌∙◌, ◌<◌, map, sym, length, get_or, Ok, None, arith}
use Rattle.option_words.specs.Rows.{meaning_of_row}
use Rattle.option_words.specs.declared.reading.Item.{Item}
use Rattle.option_words.specs.Values.{with_sector}
use Rattle.option_words.proofs.TurnLemmas.{sector_step, set_step}
use Rattle.option_words.proofs.option_values.read_sector_in.Goals as goal

pub loop-item-preserved : goal.loop-item-preserved
loop-item-preserved c =
    let l = c.loop-item in
    let options = map meaning_of_row c.args.table.now in
    let f = with_sector options c.args.letter c.args.words.now in
    let items = c.args.items.now in
    let n = c.in_ok-sector.sector in
    let d : Item = record { row = 0; word = 0; value = None } in
    let item = get_or items l.item-index d in
    let within : l.item-index < length items = omega arith in
    let set : f l.sector item ≡ Ok n = sym c.set_sector.ensures ∙ c.in_ok-sector.was in
    record {
      set = l.invariant.set ∙ set_step f l.sector n items l.item-index d within set;
      sector = sector_step options c.args.letter c.args.words.now l.sector n item l.invariant.sector set;
    }
