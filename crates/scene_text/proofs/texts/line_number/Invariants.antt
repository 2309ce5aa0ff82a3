use Rattle.std.proofs.Common.{◌≡◌, ◌+◌, take, count_by, nat_eq}
use Rattle.scene_text.proofs.texts.line_number.Given as goal

abbrev pub invariant-loop-byte : goal.invariant-loop-byte
invariant-loop-byte l = l.number ≡ 1 + count_by (λ byte. nat_eq byte 10) (take l.byte-index l.byte-items)
