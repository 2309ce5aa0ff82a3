use Rattle.std.proofs.Common.{◌≡◌, ◌∙◌, ap, length, arith, rules, length-append, Err, inl, inr}
use Rattle.std.specs.List.{flat_map}
use Rattle.std.proofs.lemmas.List.{length-replicate}
use Rattle.plain_blocks.specs.declared.plain_tiles.PushError.TheVariants.{NoMemory}
use Rattle.block_list.specs.Stretches.{covered}
use Rattle.block_list.proofs.TileLemmas.{tiles_up_to}
use Rattle.plain_blocks.proofs.PushLemmas.{fault_passed, fault_was_there, no_fault}
use Rattle.plain_blocks.proofs.TilingLemmas.{tiled_from_tiling, tiling_end}
use Rattle.plain_blocks.proofs.plain_tiles.PlainTiles.push.Goals as goal

pub append-requires-clause-tiled : goal.append-requires-clause-tiled
append-requires-clause-tiled c = tiled_from_tiling _ c.self.invariant

pub append-requires-clause-after : goal.append-requires-clause-after
append-requires-clause-after c = omega (arith, tiling_end _ c.self.invariant, c.in_ok-end.ensures.begins)

pub returns-in_err-end-clause-answer : goal.returns-in_err-end-clause-answer
returns-in_err-end-clause-answer c =
    let q : c.from_residual.result ≡ Err c.in_err-end.field-0.0 = search rules in
    rw (← c.self.view_is, ← tiling_end _ c.self.invariant) (fault_passed _ c.end_after.result _ _ _ c.end_after.ensures.answer c.in_err-end.was q)

pub returns-in_err-end-clause-joins : goal.returns-in_err-end-clause-joins
returns-in_err-end-clause-joins c =
    rw (← c.self.view_is, ← tiling_end _ c.self.invariant)
    (λ none room. fault_was_there _ c.end_after.result _ _ c.end_after.ensures.answer c.in_err-end.was none)

pub returns-in_err-append-clause-answer : goal.returns-in_err-append-clause-answer
returns-in_err-append-clause-answer c =
    let q : c.from_residual-in_err-append.result ≡ Err NoMemory = search rules in
    rw (← c.self.view_is, ← tiling_end _ c.self.invariant) (no_fault _ c.end_after.result _ _ _ c.end_after.ensures.answer c.in_ok-end.was (inr q))

pub invariant_of-self-then-block-gt0 : goal.invariant_of-self-then-block-gt0
invariant_of-self-then-block-gt0 c =
    let added = c.in_ok-append.ensures.added in
    let e : length (flat_map covered c.append.new.blocks.items) ≡ c.in_ok-end.end =
    ap length added ∙ omega (
      arith,
      length-append (flat_map covered c.self.inside.blocks.items) (covered c.args.block),
      length-replicate c.args.block.size c.args.block.status,
      tiling_end _ c.self.invariant,
      c.in_ok-end.ensures.ends,
      c.in_ok-end.ensures.begins,
    ) in
    record {
      tiled = tiles_up_to _ _ c.append.ensures.tiled e;
      merged = c.append.ensures.merged;
      short = c.in_ok-end.ensures.short;
    }

pub returns-in_ok-append-clause-answer : goal.returns-in_ok-append-clause-answer
returns-in_ok-append-clause-answer c =
    rw (← c.self.view_is, ← tiling_end _ c.self.invariant)
    (no_fault _ c.end_after.result _ _ _ c.end_after.ensures.answer c.in_ok-end.was (inl (search rules)))

pub returns-else-block-gt0-clause-answer : goal.returns-else-block-gt0-clause-answer
returns-else-block-gt0-clause-answer c =
    rw (← c.self.view_is, ← tiling_end _ c.self.invariant)
    (no_fault _ c.end_after.result _ _ _ c.end_after.ensures.answer c.in_ok-end.was (inl (search rules)))
