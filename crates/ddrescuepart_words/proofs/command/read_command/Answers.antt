-- The words ask for what their reading asks for.
use Rattle.std.proofs.Common.{refl}
use Rattle.option_words.proofs.MeaningLemmas.{refused_as}
use Rattle.ddrescuepart_words.specs.Command.{part_grammar, told_by}
use Rattle.ddrescuepart_words.proofs.CommandLemmas.{reading_asks}
use Rattle.ddrescuepart_words.proofs.command.read_command.Goals as goal

pub returns-in-Ok-clause-asked : goal.returns-in-Ok-clause-asked
returns-in-Ok-clause-asked c = let a = c.in-Ok.ensures.asked in
    reading_asks c.args.words.now a.rows a.items a.operands (told_by c.in-Ok.asked) (record { meanings = a.meanings }) a.reading a.is

pub returns-in-Err-clause-refused : goal.returns-in-Err-clause-refused
returns-in-Err-clause-refused c =
    refused_as part_grammar c.args.words.now c.in-Err.refusal.error refl c.in-Err.ensures.refused
