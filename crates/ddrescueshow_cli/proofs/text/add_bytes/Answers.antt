use Rattle.std.proofs.Common.{rules, sym, append-nil, arith}
use Rattle.ddrescueshow_cli.proofs.DrawLemmas.{bytes_more, bytes_to}
use Rattle.ddrescueshow_cli.proofs.text.add_bytes.Goals as goal

pub loop-done-init : goal.loop-done-init
loop-done-init c = record { text = sym (append-nil _); within = omega arith }

pub loop-done-preserved : goal.loop-done-preserved
loop-done-preserved c = record {
  text = bytes_more _ _ c.push.new.self.items _ _ c.loop-done.invariant.text (search rules);
  within = omega arith;
}

pub returns : goal.returns
returns c = bytes_to _ _ _ _ _ c.loop-done.invariant.text (omega arith) c.loop-done.invariant.within
