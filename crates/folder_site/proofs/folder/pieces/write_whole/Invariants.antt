use Rattle.std.specs.Prelude.{◌≤◌, length}
use Rattle.kernel_files.specs.Steps.{MadeBy}
use Rattle.folder_site.specs.Pieces.{WritesTo}
use Rattle.folder_site.proofs.folder.pieces.write_whole.Given as goal

-- what is left is what isn't written yet
abbrev pub invariant-loop : goal.invariant-loop
invariant-loop g l =
    (length l.rest ≤ length l.fn.piece)
    × MadeBy (WritesTo (g.K.Kernel.number l.file) l.fn.pos l.fn.piece l.rest) (g.K.Kernel.told l.fn.kernel)
    (g.K.Kernel.told l.kernel)
