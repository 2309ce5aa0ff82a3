use Rattle.std.proofs.Common.{◌-◌, arith}
use Rattle.paged_blocks.proofs.EntryListLemmas.{joined_front, joined_back}
use Rattle.paged_blocks.proofs.entry_list.part.Goals as goal

pub returns-else-k-begun-clause-front : goal.returns-else-k-begun-clause-front
returns-else-k-begun-clause-front c =
    joined_front c.args.front.now.items c.args.back.now.items _ c.args.k (c.len.result - (c.args.k - c.len-begun.result))
    (omega (arith, c.len-begun.ensures, c.args.front.now.ok.0))
    (omega (arith, c.requires.index, c.len-begun.ensures, c.len.ensures, c.args.front.now.ok.0, c.args.back.now.ok.0))
    c.pass-else-k-begun.ensures.to

pub returns-else-k-begun-clause-back : goal.returns-else-k-begun-clause-back
returns-else-k-begun-clause-back c =
    rw c.pass-else-k-begun.ensures.from
    (joined_back c.args.front.now.items c.args.back.now.items c.args.k (c.len.result - (c.args.k - c.len-begun.result))
    (omega (arith, c.len-begun.ensures, c.args.front.now.ok.0))
    (omega (arith, c.requires.index, c.len-begun.ensures, c.len.ensures, c.args.front.now.ok.0, c.args.back.now.ok.0)))
