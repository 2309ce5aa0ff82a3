use Rattle.std.proofs.Common.{arith}
use Rattle.fill_generate.proofs.EndPieceLemmas.{ends_whole, ends_broken}
use Rattle.fill_generate.proofs.sweeping.Sweeping.end_piece.Goals as goal

pub returns-in-Ok-clause-ends : goal.returns-in-Ok-clause-ends
returns-in-Ok-clause-ends g c =
    ends_whole _ c.args.piece c.args.written c.now_ms-after.result c.pass-due.result.speaks c.pass-due.result.saves c.args.self.now
    c.pass-due.new.self c.say_due.new.self c.save_due.new.self _ _ _ _ _ _ c.now_ms-after.ensures.told (omega arith)
    c.pass-due.ensures.moved c.pass-due.ensures.speaks c.pass-due.ensures.saves c.say_due.ensures.stands c.say_due.ensures.says
    c.in-Ok.ensures.stands c.in-Ok.ensures.call.made

pub returns-in-Err-clause-ends : goal.returns-in-Err-clause-ends
returns-in-Err-clause-ends g c =
    ends_broken c.in-Err.fault.call c.args.piece c.args.written c.now_ms-after.result c.pass-due.result.speaks
    c.pass-due.result.saves c.args.self.now c.pass-due.new.self c.say_due.new.self c.save_due.new.self _ _ _ _ _ _
    c.now_ms-after.ensures.told (omega arith) c.pass-due.ensures.moved c.pass-due.ensures.speaks c.pass-due.ensures.saves
    c.say_due.ensures.stands c.say_due.ensures.says c.in-Err.ensures.stands c.in-Err.ensures.call.named
    c.in-Err.ensures.call.broke
