use Rattle.std.proofs.Common.{Bool, leb, leb-true, leb-false, rules}
use Rattle.std.proofs.lemmas.List.Sorted.{IsPartitionPoint-from_clause, IsPartitionedBy-leb}
use Rattle.block_list.specs.declared.block.Range.{Range}
use Rattle.rescue_domain.proofs.PartsLemmas.{ends_ascend, passes_before, fails_from}
use Rattle.rescue_domain.proofs.domain.ended_by.Goals as goal

pub returns : goal.returns
returns c =
    let test : Range → Bool = λ part. leb part.to c.args.x in
    let parted = IsPartitionedBy-leb (λ (part : Range). part.to) c.args.parts.now c.args.x (ends_ascend c.args.parts.now c.requires) in
    let point = IsPartitionPoint-from_clause test _ _ c.partition_point.ensures.partitioned parted (λ a r q k. search rules) in
    record {
      ended = λ i part l e. leb-true _ _ (passes_before test _ _ point i part l e);
      others = λ i part l e. leb-false _ _ (fails_from test _ _ point i part l e);
    }
