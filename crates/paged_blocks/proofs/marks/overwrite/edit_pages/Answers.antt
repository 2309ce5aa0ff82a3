use Rattle.std.proofs.Common.{◌∙◌, arith, length, vec_len}
use Rattle.paged_blocks.proofs.RewriteLemmas.{region_size, region_room}
use Rattle.paged_blocks.proofs.marks.overwrite.edit_pages.Goals as goal

pub refill-requires-clause-whole : goal.refill-requires-clause-whole
refill-requires-clause-whole c = record {
  tiled = rw (rw c.deref.ensures.value at c.region_of-region.ensures.same) c.requires.whole.tiled;
  merged = rw (rw c.deref.ensures.value at c.region_of-region.ensures.same) c.requires.whole.merged;
}

pub refill-requires-clause-fit : goal.refill-requires-clause-fit
refill-requires-clause-fit c =
    let r = region_room _ _ c.args.free.now.items (vec_len c.args.pages.now) c.args.entries.now.room
    (length c.args.entries.now.items) c.args.edit.now c.region_of-region.result c.requires.kept c.requires.edit
    c.region_of-region.ensures.region (rw c.deref.ensures.value at c.region_of-region.ensures.same) (omega (arith))
    c.requires.spare in
    record { pages = omega (arith, r); entries = omega (arith, r) }

pub returns-clause-flat : goal.returns-clause-flat
returns-clause-flat c =
    c.refill.ensures.flat ∙ rw c.deref.ensures.value at c.region_of-region.ensures.same

pub returns-clause-few : goal.returns-clause-few
returns-clause-few c =
    omega (
      arith,
      c.refill.ensures.few,
      region_size _ _ _ c.args.edit.now c.region_of-region.result c.requires.kept c.requires.edit
          c.region_of-region.ensures.region
          (rw c.deref.ensures.value at c.region_of-region.ensures.same),
    )
