use Rattle.std.proofs.Common.{◌≡◌, true}
use Rattle.std.proofs.lemmas.Result.{err_from_is_err_and}
use Rattle.folder_site.proofs.Images.{image_made_late, image_not_made, not_opened}
use Rattle.folder_site.proofs.folder.image.open_image.Goals as goal

pub returns-in_err-copy-clause-err : goal.returns-in_err-copy-clause-err
returns-in_err-copy-clause-err g c =
    let t = g.K.Kernel.told c.args.kernel.now in
    let q = err_from_is_err_and c.from_residual.result c.from_residual.ensures.1 in
    rw q.1 (not_opened c.args.name.now c.args.make t t)

pub returns-in_err-image-clause-err : goal.returns-in_err-image-clause-err
returns-in_err-image-clause-err g c =
    let t = g.K.Kernel.told c.args.kernel.now in
    let q = err_from_is_err_and c.from_residual-in_err-image.result c.from_residual-in_err-image.ensures.1 in
    rw q.1 (not_opened c.args.name.now c.args.make t t)

pub returns-in_err-file-2-clause-err : goal.returns-in_err-file-2-clause-err
returns-in_err-file-2-clause-err g c =
    let q = err_from_is_err_and c.from_residual-in_err-file-2.result c.from_residual-in_err-file-2.ensures.1 in
    let on : c.args.make ≡ true = search in
    rw q.1
    (image_not_made c.args.name.now c.args.make (g.K.Kernel.told c.args.kernel.now)
    (g.K.Kernel.told c.make_image.new.kernel) on c.in_err-file-2.ensures.err)

pub returns-in_err-image-2-clause-err : goal.returns-in_err-image-2-clause-err
returns-in_err-image-2-clause-err g c =
    let q = err_from_is_err_and c.from_residual-in_err-image-2.result c.from_residual-in_err-image-2.ensures.1 in
    let on : c.args.make ≡ true = search in
    rw q.1
    (image_made_late c.args.name.now c.args.make (g.K.Kernel.told c.args.kernel.now)
    (g.K.Kernel.told c.make_image.new.kernel) _ on c.in_ok-file-2.ensures.ok)
