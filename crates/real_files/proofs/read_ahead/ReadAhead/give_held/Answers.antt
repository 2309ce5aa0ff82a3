use Rattle.std.proofs.Common.{length, arith, rules}
use Rattle.real_files.proofs.AheadLemmas.{gives_held}
use Rattle.real_files.proofs.read_ahead.ReadAhead.give_held.Goals as goal

pub returns-clause-given : goal.returns-clause-given
returns-clause-given c = λ given.
    gives_held c.self.inside.pos c.args.pos c.self.inside.begin c.self.inside.end (length c.args.buf.now)
    c.self.inside.is_whole c.self.inside.asked_to _ c.self.inside.room.items _ (search rules) (omega arith)
    (search rules) (omega arith) (search rules)
