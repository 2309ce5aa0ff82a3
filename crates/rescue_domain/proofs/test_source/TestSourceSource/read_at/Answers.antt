use Rattle.std.proofs.Common.{◌<◌, ◌≤◌, length, arith}
use Rattle.faulty_source.specs.Got.{count_of}
use Rattle.rescue_domain.specs.Testing.{finished_front}
use Rattle.rescue_domain.proofs.TestingLemmas.{read_cut, read_all}
use Rattle.rescue_domain.proofs.test_source.TestSourceSource.read_at.Goals as goal

pub returns-then-front-given-clause-call : goal.returns-then-front-given-clause-call
returns-then-front-given-clause-call g c =
    let got = c.in_ok-got.got in
    let statuses = g.T.Tiles.statuses c.args.self.now.tiles.now in
    let front = rw c.count-given.ensures at c.count_finished-front.ensures in
    let l : count_of got ≤ length c.read_at.new.buf = omega (arith, c.in_ok-got.ensures.count) in
    let fewer : finished_front statuses c.args.pos (count_of got) < count_of got
    = omega (arith, front, c.count-given.ensures, c.if-front-given.true) in
    rw front (read_cut _ statuses c.args.pos _ got _ l _ _ c.in_ok-got.ensures.call fewer)

pub returns-else-front-given-clause-call : goal.returns-else-front-given-clause-call
returns-else-front-given-clause-call g c =
    let got = c.in_ok-got.got in
    let statuses = g.T.Tiles.statuses c.args.self.now.tiles.now in
    let front = rw c.count-given.ensures at c.count_finished-front.ensures in
    let l : count_of got ≤ length c.read_at.new.buf = omega (arith, c.in_ok-got.ensures.count) in
    let all : count_of got ≤ finished_front statuses c.args.pos (count_of got)
    = omega (arith, front, c.count-given.ensures, c.if-front-given.false) in
    read_all _ statuses c.args.pos _ got _ l _ _ c.in_ok-got.ensures.call all
