-- The rows are the program's options, so what they read is what the program's words are read as.
use Rattle.std.proofs.Common.{◌≡◌, map, refl, ◌∙◌, ap}
use Rattle.option_words.specs.Asked.{CannotRead, Refuses}
use Rattle.option_words.specs.Rows.{meaning_of_row}
use Rattle.option_words.specs.Values.{is_given, quiet_letter}
use Rattle.option_words.specs.declared.command_error.CommandError.TheVariants.{Usage}
use Rattle.option_words.proofs.MeaningLemmas.{operands_named}
use Rattle.option_words.proofs.asked.read_asked.Goals as goal

pub returns-in-Err-clause-refused : goal.returns-in-Err-clause-refused
returns-in-Err-clause-refused g c =
    let options = ap (map meaning_of_row) c.of-table.ensures ∙ c.rows.ensures.options in
    CannotRead c.of-table.result c.in-Err.fault options c.in-Err.ensures.fault c.unread.ensures

pub of_reading-requires : goal.of_reading-requires
of_reading-requires g c κs =
    let r = c.in-Ok.reading in
    let options = ap (map meaning_of_row) c.of-table.ensures ∙ c.rows.ensures.options in
    let operands = operands_named c.args.words.now c.of-table.result r.items.items r.operands.items c.in-Ok.ensures.reading in
    ((refl, tt), (options, (c.in-Ok.ensures.spots, operands)))

pub returns-clause-refused : goal.returns-clause-refused
returns-clause-refused g c =
    let r = c.in-Ok.reading in
    let f = c.in-Err-of_reading.fault in
    let options = ap (map meaning_of_row) c.of-table.ensures ∙ c.rows.ensures.options in
    let same = ap (λ is. Usage f (is_given (map meaning_of_row c.of-table.result) quiet_letter is)) c.deref.ensures.value in
    Refuses c.of-table.result r.items.items r.operands.items f options c.in-Ok.ensures.reading
    c.in-Err-of_reading.ensures.refused (c.usage_error.ensures ∙ same)
