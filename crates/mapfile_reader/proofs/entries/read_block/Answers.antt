-- A block that was cut to end at 2^63 or more ends there.
use Rattle.std.proofs.Common.{◌≡◌, ◌+◌, ◌≤◌, ◌^◌, Some, inr, sym, ap, ◌∙◌, arith}
use Rattle.std.specs.Option.{option_map}
use Rattle.mapfile_text.specs.declared.read.MapError.TheVariants.{TooLarge}
use Rattle.mapfile_text.specs.Fields.{block_of}
use Rattle.mapfile_reader.specs.Cursor.{line_of}
use Rattle.mapfile_reader.specs.Reading.{capped_block}
use Rattle.mapfile_reader.proofs.EntryLemmas.{large_block}
use Rattle.mapfile_reader.proofs.entries.read_block.Goals as goal

pub returns-else-saturating_add-lt-LIMIT-clause-fault : goal.returns-else-saturating_add-lt-LIMIT-clause-fault
returns-else-saturating_add-lt-LIMIT-clause-fault c =
    let spelled : Some c.in-Some.block ≡ option_map capped_block (block_of (line_of c.args.line.now).fields) =
    sym c.in-Some.is ∙ c.capped_block.ensures.block in
    let large : 2 ^ 63 ≤ c.in-Some.block.pos + c.in-Some.block.size = omega arith in
    let found = large_block _ _ spelled large in
    inr (ap TooLarge c.number-number.ensures, found.0, found.1, found.2)
