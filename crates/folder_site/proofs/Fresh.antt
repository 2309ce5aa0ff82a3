-- A site over a kernel and a recorder in memory is new.
use Rattle.std.proofs.Common.{◌≡◌, List, [], Some, None, refl, ap}
use Rattle.kernel_files.specs.declared.memory.Act.{Act}
use Rattle.kernel_files.specs.Log.{empty_volume, entries_from, told_of}
use Rattle.site_record.specs.Record.{Noted}
use Rattle.site_record.specs.Memory.{nothing_noted}
use Rattle.folder_site.specs.Told.{IsSuited, IsNewSite}

no_files_suit : IsSuited empty_volume
no_files_suit = (
  record { may = λ n. refl; durable = λ i. refl; loose = λ i. refl; lost = λ i. refl },
  λ name i n is other. let none : None ≡ Some i = is in absurd (cc),
)

pub new_in_memory : (acts : List Act) (r : Noted) → acts ≡ [] → r ≡ nothing_noted → IsNewSite (told_of acts) r
new_in_memory acts r unmade unnoted = record {
  start = λ tells. no_files_suit;
  calls = λ tells. ap (entries_from 0) unmade;
  notes = λ tells. ap (λ (n : Noted). n.notes) unnoted;
}
