use Rattle.std.proofs.Common.{arith}
use Rattle.paged_blocks.proofs.GainLemmas.{marked_pieces}
use Rattle.paged_blocks.proofs.ShortListLemmas.{formed_few, formed_many, few_room, few_spare, many_spare}
use Rattle.paged_blocks.proofs.paged_tiles.PagedTilesTiles.set.Goals.{in-Few, in-Many}
use Rattle.paged_blocks.proofs.paged_tiles.PagedTilesTiles.set.Goals as goal

pub invariant_of-self : goal.invariant_of-self
invariant_of-self c = elim c.match-self.branch [
  | in-Few w ↦
      let m = marked_pieces w.in-Few.tiles.statuses c.args.pos c.args.size c.args.status in
      let r = few_room _ _ _ 2 c.self.view_is w.in-Few.is (omega arith) c.requires.spare in
      rw w.self-inside-is (formed_few _ (rw w.set.ensures.marked (omega arith)))
  | in-Many w ↦ rw w.self-inside-is (formed_many _)
]

pub returns-clause-spare : goal.returns-clause-spare
returns-clause-spare c = elim c.match-self.branch [
  | in-Few w ↦
      let m = marked_pieces w.in-Few.tiles.statuses c.args.pos c.args.size c.args.status in
      rw w.self-inside-is (few_spare _ _ _ w.set.new.self 2 c.self.view_is w.in-Few.is w.set.ensures.spare
      (rw w.set.ensures.marked m))
  | in-Many w ↦ rw w.self-inside-is (many_spare _ _ _ w.set-in-Many.new.self 2 c.self.view_is w.in-Many.is w.set-in-Many.ensures.spare)
]
