use Rattle.mapfile_text.proofs.ReadPrinted.{printed_is_read}
use Rattle.mapfile_text.proofs.laws.printed_text_is_read.Goals as goal

pub returns : goal.returns
returns c = printed_is_read
