use Rattle.std.proofs.Common.{◌≡◌, ℕ, suc, ◌+◌, take, sym, ◌∙◌, ap, arith}
use Rattle.std.proofs.lemmas.List.{length-take}
use Rattle.kernel_files.specs.Volume.{Volume, after_done}
use Rattle.kernel_files.specs.Answers.{volume, bytes_at}
use Rattle.kernel_files.specs.Log.{creates, call_at, told_of}
use Rattle.kernel_files.proofs.Logs.{makes_one, creates_below, creates_suc, volume_next}
use Rattle.kernel_files.proofs.memory.replay.Goals as goal

pub overflow_add-made : goal.overflow_add-made
overflow_add-made c =
    let before = creates_below (take c.loop-act.act-index c.args.log.now) in
    let size = length-take c.loop-act.act-index c.args.log.now in
    let one = makes_one c.act-item.result in
    omega (arith, before, size, one, c.loop-act.invariant.counted, c.makes-made.ensures)

pub loop-act-preserved : goal.loop-act-preserved
loop-act-preserved c =
    let acts = c.args.log.now in
    let k = c.loop-act.act-index in
    let a = c.act-item.result in
    let i = c.args.number in
    let v : Volume = volume (told_of (take k acts)) in
    let next : suc k ≡ k + 1 = omega arith in record {
      played = sym (c.in_ok-bytes.ensures v (sym c.loop-act.invariant.played))
          ∙ ap (λ (m : ℕ). ((after_done (call_at m a) v).nodes i).bytes) c.loop-act.invariant.counted
          ∙ ap (λ (w : Volume). (w.nodes i).bytes) (sym (volume_next acts k a (omega arith) c.act-item.is))
          ∙ ap (λ (j : ℕ). bytes_at (told_of (take j acts)) i) next;
      counted = (let s = creates_suc acts k a (omega arith) c.act-item.is in
          let same : creates (take (suc k) acts) ≡ creates (take (k + 1) acts) = ap (λ (j : ℕ). creates (take j acts)) next in
          omega (arith, s, same, c.loop-act.invariant.counted, c.makes-made.ensures));
    }
