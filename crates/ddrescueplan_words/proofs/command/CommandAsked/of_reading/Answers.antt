-- Options that are accepted have a sector within its limits.
use Rattle.std.proofs.Common.{◌∙◌, sym}
use Rattle.ddrescueplan_words.proofs.OptionLemmas.{options_keep}
use Rattle.ddrescueplan_words.proofs.command.CommandAsked.of_reading.Goals as goal

pub is_too_large-requires : goal.is_too_large-requires
is_too_large-requires c = let keeps = options_keep c.args.words.now c.deref.result.now c.in-Ok.options
    (sym c.read_options.ensures ∙ c.in-Ok.is) in keeps.range.limits.sector.low

pub name_operands-requires-clause-sector : goal.name_operands-requires-clause-sector
name_operands-requires-clause-sector c = let keeps = options_keep c.args.words.now c.deref.result.now c.in-Ok.options
    (sym c.read_options.ensures ∙ c.in-Ok.is) in keeps.range.limits.sector
