use Rattle.std.proofs.Common.{◌≡◌, ℕ, ◌<◌, false, slice_index_or}
use Rattle.std.specs.Str.{bytes_eq}
use Rattle.memory_site.specs.declared.memory.places.NamedFile.{NamedFile}
use Rattle.memory_site.proofs.memory.places.find.Given as goal

abbrev pub invariant-loop-i : goal.invariant-loop-i
invariant-loop-i l = (k : ℕ) (d : NamedFile) → k < l.i → bytes_eq l.name (slice_index_or l.places k d).name.items ≡ false
