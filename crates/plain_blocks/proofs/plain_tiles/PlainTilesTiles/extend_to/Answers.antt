use Rattle.std.proofs.Common.{◌≡◌, ◌-◌, ◌++◌, ap, sym, ◌∙◌, length, replicate, ◌≤◌, length-append, append-nil, arith}
use Rattle.std.specs.List.{flat_map}
use Rattle.std.proofs.lemmas.List.{length-replicate}
use Rattle.block_list.specs.declared.status.Status.TheVariants.{NonTried}
use Rattle.block_list.specs.Stretches.{covered}
use Rattle.block_list.proofs.TileLemmas.{tiles_up_to}
use Rattle.plain_blocks.proofs.PushLemmas.{on_success}
use Rattle.plain_blocks.proofs.TilingLemmas.{tiled_from_tiling, tiling_end}
use Rattle.plain_blocks.proofs.plain_tiles.PlainTilesTiles.extend_to.Goals as goal

pub append-requires-clause-tiled : goal.append-requires-clause-tiled
append-requires-clause-tiled c = tiled_from_tiling _ c.self.invariant

pub append-requires-clause-after : goal.append-requires-clause-after
append-requires-clause-after c = omega (arith, tiling_end _ c.self.invariant)

pub invariant_of-self : goal.invariant_of-self
invariant_of-self c =
    let n = c.args.end - c.self.inside.end in
    let room : 1 ≤ c.self.inside.blocks.spare = rw (← c.self.view_is) at c.requires.spare in
    let added = on_success c.append.result _ (c.append.ensures.full room) c.append.ensures.added in
    let e : length (flat_map covered c.append.new.blocks.items) ≡ c.args.end =
    ap length added ∙ omega (
      arith,
      length-append (flat_map covered c.self.inside.blocks.items) (replicate n NonTried),
      length-replicate n NonTried,
      tiling_end _ c.self.invariant,
    ) in
    record {
      tiled = tiles_up_to _ _ c.append.ensures.tiled e;
      merged = c.append.ensures.merged;
      short = c.requires.short;
    }

pub returns-then-self-end-clause-extended : goal.returns-then-self-end-clause-extended
returns-then-self-end-clause-extended c =
    let room : 1 ≤ c.self.inside.blocks.spare = rw (← c.self.view_is) at c.requires.spare in
    let added = on_success c.append.result _ (c.append.ensures.full room) c.append.ensures.added in
    rw (← c.self.view_is)
    (added ∙ ap (λ n. flat_map covered c.self.inside.blocks.items ++ replicate (c.args.end - n) NonTried) (tiling_end _ c.self.invariant))

pub returns-else-self-end-clause-extended : goal.returns-else-self-end-clause-extended
returns-else-self-end-clause-extended c =
    let m = c.args.self.now.statuses in
    let e : c.args.end - length m ≡ 0 = rw (← c.self.view_is) (omega (arith, tiling_end _ c.self.invariant)) in
    sym (ap (λ n. m ++ replicate n NonTried) e ∙ append-nil m)
