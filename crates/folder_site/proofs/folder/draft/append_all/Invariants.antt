use Rattle.kernel_files.specs.Steps.{MadeBy}
use Rattle.folder_site.specs.Drafts.{AppendsTo}
use Rattle.folder_site.proofs.folder.draft.append_all.Given as goal

-- what is left is what isn't written yet
abbrev pub invariant-loop : goal.invariant-loop
invariant-loop g l =
    MadeBy (AppendsTo (g.K.Kernel.number l.file) l.fn.piece l.rest) (g.K.Kernel.told l.fn.kernel) (g.K.Kernel.told l.kernel)
