use Rattle.std.proofs.Common.{arith}
use Rattle.paged_blocks.proofs.GainLemmas.{extended_pieces}
use Rattle.paged_blocks.proofs.ShortListLemmas.{formed_few, formed_many, few_room, few_spare, many_spare}
use Rattle.paged_blocks.proofs.paged_tiles.PagedTilesTiles.extend_to.Goals.{in-Few, in-Many}
use Rattle.paged_blocks.proofs.paged_tiles.PagedTilesTiles.extend_to.Goals as goal

pub invariant_of-self : goal.invariant_of-self
invariant_of-self c = elim c.match-self.branch [
  | in-Few w ↦
      let m = extended_pieces w.in-Few.tiles.statuses c.args.end in
      let r = few_room _ _ _ 1 c.self.view_is w.in-Few.is (omega arith) c.requires.spare in
      rw w.self-inside-is (formed_few _ (rw w.extend_to.ensures.extended (omega arith)))
  | in-Many w ↦ rw w.self-inside-is (formed_many _)
]

pub returns-clause-spare : goal.returns-clause-spare
returns-clause-spare c = elim c.match-self.branch [
  | in-Few w ↦
      let m = extended_pieces w.in-Few.tiles.statuses c.args.end in
      rw w.self-inside-is (few_spare _ _ _ w.extend_to.new.self 1 c.self.view_is w.in-Few.is w.extend_to.ensures.spare
      (rw w.extend_to.ensures.extended m))
  | in-Many w ↦ rw w.self-inside-is (many_spare _ _ _ w.extend_to-in-Many.new.self 1 c.self.view_is w.in-Many.is w.extend_to-in-Many.ensures.spare)
]
