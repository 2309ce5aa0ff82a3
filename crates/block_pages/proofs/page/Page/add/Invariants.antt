use Rattle.std.proofs.Common.{◌≡◌, ◌++◌, take}
use Rattle.block_pages.proofs.page.Page.add.Given as goal

abbrev pub invariant-loop-i : goal.invariant-loop-i
invariant-loop-i l = l.self ≡ l.initial.self ++ take l.i l.piece
