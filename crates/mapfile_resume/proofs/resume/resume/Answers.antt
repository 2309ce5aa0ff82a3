-- What was read after the barrier.
use Rattle.mapfile_resume.proofs.ResumeLemmas.{resumed_read, resumed_told, resumed_settled, unresumed}
use Rattle.mapfile_resume.proofs.resume.resume.Goals as goal

pub returns-clause-told : goal.returns-clause-told
returns-clause-told g c = λ tells.
    rw c.answer.ensures (resumed_told c.args.names.now c.load_map.result _ _
    (g.D.Site.state c.load_map.new.site) tells c.in_default.ensures.stays.keeps c.in_default.ensures.made
    (rw c.map.ensures at c.load_map.ensures.told))

pub returns-clause-settled : goal.returns-clause-settled
returns-clause-settled g c = λ tells.
    rw c.answer.ensures (resumed_settled c.args.names.now c.load_map.result _ _ _ tells c.in_default.ensures.stays.keeps c.load_map.ensures.stays.keeps
    c.in_default.ensures.made (rw c.map.ensures at c.load_map.ensures.told))

pub returns-clause-read : goal.returns-clause-read
returns-clause-read g c =
    rw c.answer.ensures (resumed_read c.args.names.now c.load_map.result _ _ c.in_default.ensures.stays.keeps c.in_default.ensures.made
    (rw c.map.ensures at c.load_map.ensures.read))

pub returns-in-Err-clause-read : goal.returns-in-Err-clause-read
returns-in-Err-clause-read g c = unresumed _ _ c.in-Err.call
