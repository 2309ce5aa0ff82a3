use Rattle.std.proofs.Common.{◌≡◌, ◌≤◌, ◌-◌, length, take}
use Rattle.scene_text.proofs.TextLemmas.{IsBetween}
use Rattle.scene_text.proofs.texts.first_difference.Given as goal

abbrev pub invariant-loop-place : goal.invariant-loop-place
invariant-loop-place l =
    (take l.place l.wanted ≡ take l.place l.found)
    × (l.place ≤ length l.wanted)
    × (l.place ≤ length l.found)
    × IsBetween l.wanted l.found l.place

abbrev pub decreases-loop-place : goal.decreases-loop-place
decreases-loop-place l = length l.wanted - l.place
