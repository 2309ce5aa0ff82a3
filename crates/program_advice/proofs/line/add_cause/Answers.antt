-- Three pieces are added, one after another.
use Rattle.std.proofs.Common.{codes}
use Rattle.program_advice.specs.Lines.{named_text, use_text}
use Rattle.program_advice.proofs.LineLemmas.{three_added}
use Rattle.program_advice.proofs.line.add_cause.Goals as goal

pub returns-in-DeviceInUse-clause-text : goal.returns-in-DeviceInUse-clause-text
returns-in-DeviceInUse-clause-text c =
    let said = c.in-DeviceInUse in
    rw said.is (three_added c.args.line.now.items (named_text said.file) (codes " is in use: ")
    (use_text said.device.now said.by) c.add_named-in-DeviceInUse.new.line.items c.add-in-DeviceInUse.new.line.items
    c.add_use.new.line.items c.add_named-in-DeviceInUse.ensures.text c.add-in-DeviceInUse.ensures.text
    c.add_use.ensures.text)
