use Rattle.std.proofs.Common.{ℕ, refl, sym, subst}
use Rattle.std.proofs.lemmas.Result.{err_from_is_err_and}
use Rattle.kernel_files.specs.Answers.{volume}
use Rattle.kernel_files.specs.Steps.{MadeBy}
use Rattle.kernel_files.specs.MapCalls.{Begins}
use Rattle.kernel_files.proofs.Steps.{made_done, made_broken}
use Rattle.folder_site.proofs.Drafts.{cleared, not_created, begun, begun_late}
use Rattle.folder_site.proofs.folder.draft.OpenDraft.begin.Goals as goal

pub returns-in_err-copy-clause-err : goal.returns-in_err-copy-clause-err
returns-in_err-copy-clause-err g c =
    let old = g.K.Kernel.told c.args.kernel.now in
    let q = err_from_is_err_and c.from_residual-in_err-copy.result c.from_residual-in_err-copy.ensures.1 in
    rw q.1 (cleared c.args.name.now old old (g.K.Kernel.told c.clear_name.new.kernel) c.in_ok-clear_name.ensures.ok)

pub returns-in_err-file-clause-err : goal.returns-in_err-file-clause-err
returns-in_err-file-clause-err g c =
    let old = g.K.Kernel.told c.args.kernel.now in
    let mid = g.K.Kernel.told c.clear_name.new.kernel in
    let k = c.make_draft.ensures in
    let q = err_from_is_err_and c.from_residual-in_err-file.result c.from_residual-in_err-file.ensures.1 in
    rw q.1
    (not_created c.args.name.now old mid _ k.0 k.1 c.in_ok-clear_name.ensures.ok
    (made_broken _ _ _ _ _ c.in_err-file.was k.4))

pub returns-in_err-lock-clause-err : goal.returns-in_err-lock-clause-err
returns-in_err-lock-clause-err g c =
    let old = g.K.Kernel.told c.args.kernel.now in
    let mid = g.K.Kernel.told c.clear_name.new.kernel in
    let k = c.make_draft.ensures in
    let q = err_from_is_err_and c.from_residual-in_err-lock.result c.from_residual-in_err-lock.ensures.1 in
    rw q.1
    (begun_late c.args.name.now old mid _ k.0
    (begun c.args.name.now old mid _ k.0 k.1 c.in_ok-clear_name.ensures.ok (made_done _ _ _ _ _ c.in_ok-file.was k.4)))

pub returns-in_err-identity-clause-err : goal.returns-in_err-identity-clause-err
returns-in_err-identity-clause-err g c =
    let old = g.K.Kernel.told c.args.kernel.now in
    let mid = g.K.Kernel.told c.clear_name.new.kernel in
    let k = c.make_draft.ensures in
    let q = err_from_is_err_and c.from_residual-in_err-identity.result c.from_residual-in_err-identity.ensures.1 in
    rw q.1
    (begun_late c.args.name.now old mid _ k.0
    (begun c.args.name.now old mid _ k.0 k.1 c.in_ok-clear_name.ensures.ok (made_done _ _ _ _ _ c.in_ok-file.was k.4)))

pub returns-clause-ok : goal.returns-clause-ok
returns-clause-ok g c =
    let old = g.K.Kernel.told c.args.kernel.now in
    let mid = g.K.Kernel.told c.clear_name.new.kernel in
    let k = c.in_ok-file.ensures in
    let new = g.K.Kernel.told c.make_draft.new.kernel in
    subst (λ (i : ℕ). MadeBy (Begins (volume old) c.args.name.now i) old new) (sym k.2)
    (begun c.args.name.now old mid new k.0 k.1 c.in_ok-clear_name.ensures.ok (made_done _ _ _ _ _ refl k.4))
