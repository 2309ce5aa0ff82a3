-- Options that are accepted have a sector.
use Rattle.std.proofs.Common.{◌∙◌, sym}
use Rattle.ddrescue_words.proofs.OptionLemmas.{options_keep}
use Rattle.ddrescue_words.proofs.command.TaskAsked.of_reading.Goals as goal

pub is_too_large-requires : goal.is_too_large-requires
is_too_large-requires c = let keeps = options_keep c.args.words.now c.deref.result.now c.in-Ok.options
    (sym c.read_options.ensures ∙ c.in-Ok.is) in keeps.range.sector.low
