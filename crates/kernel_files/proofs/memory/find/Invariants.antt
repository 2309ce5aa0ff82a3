use Rattle.std.proofs.Common.{◌≡◌, ◌≤◌, take, length}
use Rattle.kernel_files.specs.Answers.{volume}
use Rattle.kernel_files.specs.Log.{creates, told_of}
use Rattle.kernel_files.proofs.memory.find.Given as goal

-- the calls that were passed lead the name where the others lead the one that is wanted
abbrev pub invariant-loop-end : goal.invariant-loop-end
invariant-loop-end l = record {
  within : l.end ≤ length l.log;
  counted : l.number ≡ creates (take l.end l.log);
  leads : (volume (told_of l.fn.log)).names l.fn.name ≡ (volume (told_of (take l.end l.log))).names l.wanted;
}

abbrev pub decreases-loop-end : goal.decreases-loop-end
decreases-loop-end l = l.end
