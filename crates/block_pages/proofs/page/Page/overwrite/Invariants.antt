use Rattle.std.proofs.Common.{take}
use Rattle.block_pages.proofs.SpliceLemmas.{IsPutOver}
use Rattle.block_pages.proofs.page.Page.overwrite.Given as goal

abbrev pub invariant-loop-i : goal.invariant-loop-i
invariant-loop-i l = IsPutOver l.initial.self-inside l.self-inside l.from (take l.i l.new)
