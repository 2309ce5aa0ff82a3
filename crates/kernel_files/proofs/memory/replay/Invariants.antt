use Rattle.std.proofs.Common.{◌≡◌, take}
use Rattle.kernel_files.specs.Answers.{bytes_at}
use Rattle.kernel_files.specs.Log.{creates, told_of}
use Rattle.kernel_files.proofs.memory.replay.Given as goal

-- the bytes after the calls that were played
abbrev pub invariant-loop-act : goal.invariant-loop-act
invariant-loop-act l = record {
  played : l.bytes.items ≡ bytes_at (told_of (take l.act-index l.log)) l.fn.number;
  counted : l.made ≡ creates (take l.act-index l.log);
}
