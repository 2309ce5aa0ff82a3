use Rattle.std.proofs.Common.{◌≡◌, ◌++◌, drop}
use Rattle.kernel_devices.proofs.names.unescaped.Given as goal
use Rattle.kernel_devices.specs.Names.{unescaped, unescaped_after}

abbrev pub invariant-loop-place : goal.invariant-loop-place
invariant-loop-place l = unescaped l.text ≡ l.name.items ++ unescaped_after l.skip (drop l.place l.text)
