use Rattle.std.proofs.Common.{Bool, ltb, ltb-true, ltb-false, rules}
use Rattle.std.proofs.lemmas.List.Sorted.{IsPartitionPoint-from_clause, IsPartitionedBy-ltb}
use Rattle.block_list.specs.declared.block.Range.{Range}
use Rattle.rescue_domain.proofs.PartsLemmas.{starts_ascend, passes_before, fails_from}
use Rattle.rescue_domain.proofs.domain.begun_before.Goals as goal

pub returns : goal.returns
returns c =
    let test : Range → Bool = λ part. ltb part.from c.args.x in
    let parted = IsPartitionedBy-ltb (λ (part : Range). part.from) c.args.parts.now c.args.x (starts_ascend c.args.parts.now c.requires) in
    let point = IsPartitionPoint-from_clause test _ _ c.partition_point.ensures.partitioned parted (λ a r q k. search rules) in
    record {
      index = c.partition_point.ensures.bound;
      begun = λ i part l e. ltb-true _ _ (passes_before test _ _ point i part l e);
      others = λ i part l e. ltb-false _ _ (fails_from test _ _ point i part l e);
    }
