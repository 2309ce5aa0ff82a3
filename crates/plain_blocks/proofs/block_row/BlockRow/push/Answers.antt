use Rattle.std.proofs.Common.{◌≡◌, ◌∙◌, ap}
use Rattle.plain_blocks.specs.Row.{Lined, rows}
use Rattle.plain_blocks.proofs.RowLemmas.{rows_push}
use Rattle.plain_blocks.proofs.block_row.BlockRow.push.Goals as goal

pub returns-clause-items : goal.returns-clause-items
returns-clause-items c =
    let same : rows 0 c.self.inside.ends.items c.self.inside.statuses.items ≡ c.args.self.now.items =
    ap (λ (x : Lined). x.items) c.self.view_is ∙ c.reserve.ensures.items in
    rw (c.push_reserved.ensures.items, c.push_reserved-2.ensures.items, ← same)
    (rows_push _ _ _ c.self.invariant.alike (rw (← same) at c.requires.tiled) (rw (← same) at c.requires.starts))
