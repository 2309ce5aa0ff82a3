use Rattle.std.proofs.Common.{arith}
use Rattle.block_pages.proofs.PageLemmas.{first_end, last_end}
use Rattle.block_pages.proofs.page.end_of.Goals as goal

pub returns-then-i-starts : goal.returns-then-i-starts
returns-then-i-starts c = first_end c.args.starts.now c.args.end c.args.i 0 (omega arith)

pub returns : goal.returns
returns c = last_end c.args.starts.now c.args.end c.args.i (omega arith)
