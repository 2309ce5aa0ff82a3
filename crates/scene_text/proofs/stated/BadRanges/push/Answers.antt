use Rattle.std.proofs.Common.{rules, arith}
use Rattle.scene_text.proofs.BadRangesLemmas.{AreApart-push}
use Rattle.scene_text.proofs.stated.BadRanges.push.Goals as goal

pub invariant_of-self-2 : goal.invariant_of-self-2
invariant_of-self-2 c =
    AreApart-push
    c.self.inside.ranges.items c.push.new.self.items c.args.range c.self.inside.end
    (search rules) c.self.invariant.0 c.self.invariant.1 (omega arith) (omega arith)
