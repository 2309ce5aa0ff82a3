use Rattle.std.proofs.Common.{◌≡◌, length, map, take}
use Rattle.std.specs.List.{range_with_len}
use Rattle.rescue_sample.specs.Sample.{sample_byte}
use Rattle.rescue_sample.proofs.draw.fill.Given as goal

-- the bytes so far
abbrev pub invariant-loop-i : goal.invariant-loop-i
invariant-loop-i l = record {
  room : length l.buf ≡ length l.initial.buf;
  bytes : take l.i l.buf ≡ map sample_byte (range_with_len l.pos l.i);
}
