use Rattle.std.proofs.Common.{◌≡◌, List, ap, ◌∙◌, sym, arith}
use Rattle.std.specs.List.{flat_map}
use Rattle.std.proofs.lemmas.Bool.{leb-true}
use Rattle.block_list.specs.declared.status.Status.{Status}
use Rattle.block_list.specs.Map.{marked}
use Rattle.block_list.specs.Stretches.{covered}
use Rattle.block_list.proofs.HeldLemmas.{stretch_within, marked_already}
use Rattle.paged_blocks.specs.Paging.{flat}
use Rattle.paged_blocks.proofs.search.by_position.is_marked.Goals as goal

pub overflow_add-result : goal.overflow_add-result
overflow_add-result c = omega (arith, c.requires.within, c.requires.paging.tiled.short)

pub overflow_add-result-2 : goal.overflow_add-result-2
overflow_add-result-2 c = omega (arith, stretch_within _ _ c.stretch_at-held.ensures.stretch, c.requires.paging.tiled.short)

pub returns : goal.returns
returns c = λ t.
    let e : c.stretch_at-held.result.status ≡ c.args.block.status = c.is.ensures.0 c.if-not-is.false in
    let map : List Status = flat_map covered (flat c.args.pages.now c.args.entries.now.items) in
    ap (λ s. marked map c.args.block.pos c.args.block.size s) (sym e)
    ∙ marked_already map c.args.block.pos c.args.block.size c.stretch_at-held.result c.stretch_at-held.ensures
    (leb-true _ _ t)
