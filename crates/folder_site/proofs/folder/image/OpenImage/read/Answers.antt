use Rattle.std.proofs.Common.{length, ◌∙◌}
use Rattle.kernel_files.specs.Answers.{bytes_at}
use Rattle.folder_site.specs.Told.{IsHeld}
use Rattle.folder_site.proofs.AheadReads.{gives_part, gives_read, left_there, given_read}
use Rattle.folder_site.proofs.folder.image.OpenImage.read.Goals as goal

pub returns-then-give-clause-read : goal.returns-then-give-clause-read
returns-then-give-clause-read g c told h =
    let t = g.K.Kernel.told c.args.kernel.now in
    let i = g.K.Kernel.number c.args.self.now.file in
    let e = c.give.ensures in
    gives_read _ _ (bytes_at t i) c.args.pos _ c.give.result _ _ c.args.buf.now c.give.new.buf c.args.ahead.now
    c.give.new.self (c.new-cursor.ensures ∙ left_there t i c.args.pos told) c.give.auto.buf e.held e.past e.ahead
    c.if-give.true h

pub returns-then-give-clause-held : goal.returns-then-give-clause-held
returns-then-give-clause-held g c told h =
    let t = g.K.Kernel.told c.args.kernel.now in
    let i = g.K.Kernel.number c.args.self.now.file in
    let e = c.give.ensures in
    (gives_part _ _ (bytes_at t i) c.args.pos _ c.give.result _ _ c.args.buf.now c.give.new.buf c.args.ahead.now
    c.give.new.self (c.new-cursor.ensures ∙ left_there t i c.args.pos told) c.give.auto.buf e.held e.past e.ahead
    c.if-give.true h).1

pub returns-clause-read : goal.returns-clause-read
returns-clause-read g c =
    let t = g.K.Kernel.told c.args.kernel.now in
    let i = g.K.Kernel.number c.args.self.now.file in
    given_read c.read_whole.result t i c.args.pos (length c.give.new.buf) c.read_whole.new.buf (IsHeld (bytes_at t i)
    c.args.ahead.now) c.read_whole.auto.buf c.read_whole.ensures.count c.read_whole.ensures.read
