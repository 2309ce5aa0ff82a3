-- Four pieces are added, one after another.
use Rattle.std.proofs.Common.{codes}
use Rattle.program_advice.specs.Lines.{cut, quoted}
use Rattle.program_advice.proofs.LineLemmas.{four_added}
use Rattle.program_advice.proofs.line.add_unsaved.Goals as goal

pub returns-clause-text : goal.returns-clause-text
returns-clause-text c =
    four_added c.args.line.now.items (codes "cannot save ") (quoted c.args.name.now) (codes ": ") (cut 60 c.args.reason.now)
    c.add.new.line.items c.add_quoted.new.line.items c.add-2.new.line.items c.add_cut.new.line.items
    c.add.ensures.text c.add_quoted.ensures.text c.add-2.ensures.text
    (rw c.as_bytes.ensures.value at c.add_cut.ensures.text)
