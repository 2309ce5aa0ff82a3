use Rattle.std.proofs.Common.{◌≡◌, take}
use Rattle.std.specs.List.{sum_by}
use Rattle.rescue_domain.proofs.SizeLemmas.{width, AreShort}
use Rattle.rescue_domain.proofs.domain.Domain.size.Given as goal

abbrev pub invariant-loop-part : goal.invariant-loop-part
invariant-loop-part l = record {
  sum : l.size ≡ sum_by width (take l.part-index l.part-items);
  short : AreShort l.part-items l.part-index;
}
