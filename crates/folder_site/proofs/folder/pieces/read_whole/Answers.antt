use Rattle.std.proofs.Common.{length, arith}
use Rattle.folder_site.proofs.Looks.{whole_read, ok_given, from_here}
use Rattle.folder_site.proofs.folder.pieces.read_whole.Goals as goal

pub returns-clause-read : goal.returns-clause-read
returns-clause-read g c =
    let same = c.fill-got.ensures.same in
    let count = c.fill-got.ensures.count in
    whole_read (g.K.Kernel.told c.args.kernel.now) (g.K.Kernel.number c.args.file.now) c.args.pos
    (length c.args.buf.now) c.fill-got.result.got c.fill-got.new.buf _ (omega (arith, same, count))
    (from_here _ _ _ _ c.new.ensures c.fill-got.ensures.came)
    (ok_given c.fill-got.result.outcome _ _ c.in_ok-outcome.was c.fill-got.ensures.end)
