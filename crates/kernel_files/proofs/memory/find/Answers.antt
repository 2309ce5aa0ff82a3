use Rattle.std.proofs.Common.{◌≡◌, ◌-◌, take, sym, ◌∙◌, arith}
use Rattle.kernel_files.specs.Answers.{volume}
use Rattle.kernel_files.specs.Log.{creates, told_of}
use Rattle.kernel_files.proofs.Logs.{creates_next, names_next}
use Rattle.kernel_files.proofs.memory.find.Goals as goal

pub overflow_sub-number : goal.overflow_sub-number
overflow_sub-number c =
    let e = creates_next c.args.log.now c.loop-end.end c.index-log-end.result c.loop-end.invariant.within (omega arith) c.index-log-end.is in
    omega (arith, e, c.loop-end.invariant.counted, c.makes-number.ensures)

pub loop-end-preserved : goal.loop-end-preserved
loop-end-preserved c =
    let acts = c.args.log.now in
    let end = c.loop-end.end in
    let e = creates_next acts end c.index-log-end.result c.loop-end.invariant.within (omega arith) c.index-log-end.is in
    let counted : c.loop-end.number - c.makes-number.result ≡ creates (take (end - 1) acts) =
    omega (arith, e, c.loop-end.invariant.counted, c.makes-number.ensures) in
    record {
      within = omega (arith, c.loop-end.invariant.within);
      counted = counted;
      leads = c.loop-end.invariant.leads
          ∙ names_next acts end (c.loop-end.number - c.makes-number.result) c.index-log-end-in-loop-end.result c.loop-end.wanted.now
          c.loop-end.invariant.within (omega arith) c.index-log-end-in-loop-end.is counted
          ∙ c.in-Ok.ensures.on (volume (told_of (take (end - 1) acts)));
    }

pub returns-in-Err : goal.returns-in-Err
returns-in-Err c =
    let acts = c.args.log.now in
    let end = c.loop-end.end in
    let e = creates_next acts end c.index-log-end.result c.loop-end.invariant.within (omega arith) c.index-log-end.is in
    let counted : c.loop-end.number - c.makes-number.result ≡ creates (take (end - 1) acts) =
    omega (arith, e, c.loop-end.invariant.counted, c.makes-number.ensures) in
    sym (c.loop-end.invariant.leads
    ∙ names_next acts end (c.loop-end.number - c.makes-number.result) c.index-log-end-in-loop-end.result c.loop-end.wanted.now
    c.loop-end.invariant.within (omega arith) c.index-log-end-in-loop-end.is counted
    ∙ c.in-Err.ensures.here (volume (told_of (take (end - 1) acts))))
