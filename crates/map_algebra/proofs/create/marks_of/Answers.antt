-- Sorted numbers are of the same blocks.
use Rattle.std.proofs.Common.{◌∙◌, All, sym, subst}
use Rattle.std.specs.List.Sorted.{IsNonDecreasing, IsPermutation}
use Rattle.std.proofs.lemmas.Bool.{MatchBool-at_true}
use Rattle.std.proofs.lemmas.List.Sorted.{All-permutation, non_decreasing_from_is_sorted}
use Rattle.std.proofs.lemmas.Result.{IfOk-weaker}
use Rattle.map_algebra.specs.Numbers.{IsInRange}
use Rattle.map_algebra.proofs.MarkLemmas.{marks_moved}
use Rattle.map_algebra.proofs.create.marks_of.Goals as goal

pub marks-requires-clause-order : goal.marks-requires-clause-order
marks-requires-clause-order c =
    MatchBool-at_true _ _ c.if-is_sorted.true
    (non_decreasing_from_is_sorted c.args.numbers.now c.is_sorted.result c.is_sorted.ensures.cases)

pub marks-requires-2-clause-limits : goal.marks-requires-2-clause-limits
marks-requires-2-clause-limits c =
    subst (All (IsInRange c.args.shape)) (sym c.deref.ensures.value)
    (All-permutation (IsInRange c.args.shape) c.args.numbers.now c.in_ok-sorted.sorted.items c.in_ok-sorted.ensures.same
    c.requires.limits)

pub returns : goal.returns
returns c =
    let moved : IsPermutation c.args.numbers.now c.deref.result.now =
    subst (IsPermutation c.args.numbers.now) (sym c.deref.ensures.value) c.in_ok-sorted.ensures.same in
    IfOk-weaker c.marks-2.result _ _
    (λ made e. e ∙ marks_moved c.args.shape c.args.numbers.now c.deref.result.now c.args.end moved) c.marks-2.ensures
