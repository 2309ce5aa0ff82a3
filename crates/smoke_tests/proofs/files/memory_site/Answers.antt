use Rattle.folder_site.proofs.Fresh.{new_in_memory}
use Rattle.smoke_tests.proofs.files.memory_site.Goals as goal

pub over-requires : goal.over-requires
over-requires c = new_in_memory _ _ c.new-kernel.ensures c.new-recorder.ensures
