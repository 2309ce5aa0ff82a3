use Rattle.std.proofs.Common.{◌≡◌, ℕ, ◌+◌, ◌<◌, length, take, sym, subst}
use Rattle.std.specs.Io.KnownBytes.{Consumes, IsAtEnd}
use Rattle.folder_site.specs.Pieces.{left_of}
use Rattle.folder_site.proofs.Looks.{read_consumes, read_ends}
use Rattle.folder_site.proofs.folder.pieces.KernelCursorRead.read.Goals as goal

pub returns-clause-bytes : goal.returns-clause-bytes
returns-clause-bytes g c =
    let t = g.K.Kernel.told c.args.self.now.kernel.now in
    let i = g.K.Kernel.number c.args.self.now.file.now in
    let pos = c.args.self.now.pos in
    let n = c.in_ok-count.count in
    let buf = c.read_at.new.buf in
    let at : c.in-Some.end ≡ pos + n = c.in-Some.ensures.1 in
    subst
    (λ (e : ℕ). Consumes (left_of t i pos) (left_of t i e) (take n buf) × (n ≡ 0 → 0 < length buf → IsAtEnd (left_of t i e)))
    (sym at)
    (read_consumes t i pos n buf c.in_ok-count.ensures.read, read_ends t i pos n buf c.in_ok-count.ensures.read)
