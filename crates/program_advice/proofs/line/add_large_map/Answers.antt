-- Five pieces are added, one after another.
use Rattle.std.proofs.Common.{codes}
use Rattle.std.specs.Fmt.{decimal}
use Rattle.program_advice.specs.Lines.{named_text}
use Rattle.program_advice.proofs.LineLemmas.{five_added}
use Rattle.program_advice.proofs.line.add_large_map.Goals as goal

pub returns-clause-text : goal.returns-clause-text
returns-clause-text c =
    five_added c.args.line.now.items (codes "memory is short, and ") (named_text c.args.file) (codes " has ")
    (decimal c.args.bytes) (codes " B: end other programs and give the same command") c.add.new.line.items
    c.add_named.new.line.items c.add-2.new.line.items c.add-3.new.line.items c.add-4.new.line.items c.add.ensures.text
    c.add_named.ensures.text c.add-2.ensures.text (rw c.format.ensures.text at c.add-3.ensures.text)
    c.add-4.ensures.text
