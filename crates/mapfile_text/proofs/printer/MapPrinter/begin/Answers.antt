use Rattle.mapfile_text.proofs.PartLemmas.{begin_is_printed}
use Rattle.mapfile_text.proofs.printer.MapPrinter.begin.Goals as goal

pub returns : goal.returns
returns c = begin_is_printed
