use Rattle.kernel_files.proofs.Steps.{ok_map, err_map}
use Rattle.folder_site.proofs.Settles.{settled, not_synced}
use Rattle.folder_site.proofs.folder.settle.settle.Goals as goal

pub returns-clause-ok : goal.returns-clause-ok
returns-clause-ok g c =
    ok_map _ _ c.sync_map.result
    (settled c.args.name.now (g.K.Kernel.told c.args.kernel.now) (g.K.Kernel.told c.ask_for_saves.new.kernel)
    (g.K.Kernel.told c.sync_map.new.kernel) c.in_ok-ask_for_saves.ensures.ok)
    c.sync_map.ensures.ok

pub returns-clause-err : goal.returns-clause-err
returns-clause-err g c =
    err_map _ _ c.sync_map.result
    (not_synced c.args.name.now (g.K.Kernel.told c.args.kernel.now) (g.K.Kernel.told c.ask_for_saves.new.kernel)
    (g.K.Kernel.told c.sync_map.new.kernel) c.in_ok-ask_for_saves.ensures.ok)
    c.sync_map.ensures.err
