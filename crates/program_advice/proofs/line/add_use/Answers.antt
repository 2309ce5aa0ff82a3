-- Three pieces are added, one after another.
use Rattle.std.proofs.Common.{codes}
use Rattle.program_advice.specs.Lines.{device_text, quoted}
use Rattle.program_advice.proofs.LineLemmas.{three_added}
use Rattle.program_advice.proofs.line.add_use.Goals as goal

pub returns-in-Mount-clause-text : goal.returns-in-Mount-clause-text
returns-in-Mount-clause-text c =
    rw c.in-Mount.is (three_added c.args.line.now.items (device_text c.args.device.now) (codes " is mounted at ")
    (quoted c.in-Mount.folder.now) c.add_device.new.line.items c.add.new.line.items c.add_quoted.new.line.items
    c.add_device.ensures.text c.add.ensures.text c.add_quoted.ensures.text)

pub returns-in-Device-clause-text : goal.returns-in-Device-clause-text
returns-in-Device-clause-text c =
    rw c.in-Device.is (three_added c.args.line.now.items (device_text c.in-Device.name.now) (codes " is made of ")
    (device_text c.args.device.now) c.add_device-in-Device.new.line.items c.add-in-Device.new.line.items
    c.add_device-in-Device-2.new.line.items c.add_device-in-Device.ensures.text c.add-in-Device.ensures.text
    c.add_device-in-Device-2.ensures.text)
