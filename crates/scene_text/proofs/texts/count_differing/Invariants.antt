use Rattle.std.proofs.Common.{◌≡◌, ◌+◌, length}
use Rattle.scene_text.proofs.texts.count_differing.Given as goal

abbrev pub invariant-loop-wanted_rest : goal.invariant-loop-wanted_rest
invariant-loop-wanted_rest l =
    (l.count ≡ 0 → l.wanted_rest ≡ l.found_rest → l.fn.wanted ≡ l.fn.found)
    × (l.fn.wanted ≡ l.fn.found → l.wanted_rest ≡ l.found_rest)
    × (l.fn.wanted ≡ l.fn.found → l.count ≡ 0)

abbrev pub decreases-loop-wanted_rest : goal.decreases-loop-wanted_rest
decreases-loop-wanted_rest l = length l.wanted_rest + length l.found_rest
