use Rattle.std.proofs.Common.{◌≡◌, ◌++◌, min, length, take, drop, length-append, arith}
use Rattle.std.proofs.lemmas.List.{length-take-le, length-drop}
use Rattle.task_sweeps.proofs.PatternLemmas.{short_read, whole_read}
use Rattle.task_sweeps.proofs.pattern.read_front.Goals as goal

pub returns-then-count-front-clause-reads : goal.returns-then-count-front-clause-reads
returns-then-count-front-clause-reads g c =
    let is : c.min-front.result ≡ min (length c.args.buffer.now) c.args.end = grind arith in
    let cut : length (take c.min-front.result c.args.buffer.now) ≡ c.min-front.result =
    length-take-le c.min-front.result c.args.buffer.now (omega arith) in
    short_read (length c.args.buffer.now) c.args.end _ c.read_at.new.buf _ c.in-Ok.got
    (g.S.Source.state c.args.source.now) (g.S.Source.state c.read_at.new.self) (rw cut is)
    (record {
      long = omega arith;
      count = c.in-Ok.ensures.count;
      right = c.in-Ok.ensures.call.right;
      told = c.in-Ok.ensures.call.told;
    }) (omega (arith, cut))

pub returns-clause-reads : goal.returns-clause-reads
returns-clause-reads g c =
    let is : c.min-front.result ≡ min (length c.args.buffer.now) c.args.end = grind arith in
    let cut : length (take c.min-front.result c.args.buffer.now) ≡ c.min-front.result =
    length-take-le c.min-front.result c.args.buffer.now (omega arith) in
    let whole : length (c.read_at.new.buf ++ drop c.min-front.result c.args.buffer.now) ≡ length c.args.buffer.now =
    omega (
      arith,
      cut,
      length-append c.read_at.new.buf (drop c.min-front.result c.args.buffer.now),
      length-drop c.min-front.result c.args.buffer.now,
    ) in
    whole_read (length c.args.buffer.now) c.args.end _ c.min-front.result c.read_at.new.buf
    (drop c.min-front.result c.args.buffer.now) c.repeat_front.new.buffer c.in-Ok.got
    (g.S.Source.state c.args.source.now) (g.S.Source.state c.read_at.new.self) cut (rw cut is)
    (record {
      long = omega arith;
      count = c.in-Ok.ensures.count;
      right = c.in-Ok.ensures.call.right;
      told = c.in-Ok.ensures.call.told;
    }) (omega (arith, cut)) whole
    (record { some = omega arith; long = c.repeat_front.ensures.long; each = c.repeat_front.ensures.each })
