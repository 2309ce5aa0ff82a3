use Rattle.std.proofs.lemmas.Result.{err_from_is_err_and}
use Rattle.kernel_files.proofs.Steps.{made_done}
use Rattle.folder_site.proofs.Settles.{both_synced, file_broken}
use Rattle.folder_site.proofs.folder.settle.sync_found.Goals as goal

pub returns-in_err-sync_reached-clause-err : goal.returns-in_err-sync_reached-clause-err
returns-in_err-sync_reached-clause-err g c =
    let q = err_from_is_err_and c.from_residual-in_err-sync_reached.result c.from_residual-in_err-sync_reached.ensures.1 in
    rw q.1
    (file_broken c.args.name.now (g.K.Kernel.told c.args.kernel.now) (g.K.Kernel.told c.sync_folder_of.new.kernel)
    (g.K.Kernel.told c.sync_reached.new.kernel) (made_done _ _ _ _ _ c.in_ok-sync_folder_of.was c.sync_folder_of.ensures)
    c.in_err-sync_reached.ensures.err)

pub returns-clause-ok : goal.returns-clause-ok
returns-clause-ok g c =
    both_synced c.args.name.now (g.K.Kernel.told c.args.kernel.now) (g.K.Kernel.told c.sync_folder_of.new.kernel)
    (g.K.Kernel.told c.sync_reached.new.kernel) (made_done _ _ _ _ _ c.in_ok-sync_folder_of.was c.sync_folder_of.ensures)
    c.in_ok-sync_reached.ensures.ok
