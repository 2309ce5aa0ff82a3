use Rattle.std.proofs.Common.{◌≡◌, ◌++◌}
use Rattle.std.specs.Prelude.{map}
use Rattle.std.specs.String.{string_bytes}
use Rattle.std.specs.Vec.Iter.{into_iter_items, into_iter_len}
use Rattle.program_start.proofs.words.words_of.Given as goal

abbrev pub invariant-loop-arg : goal.invariant-loop-arg
invariant-loop-arg l =
    l.words ++ map string_bytes (into_iter_items l.rest) ≡ map string_bytes (into_iter_items l.initial.rest)

abbrev pub decreases-loop-arg : goal.decreases-loop-arg
decreases-loop-arg l = into_iter_len l.rest
