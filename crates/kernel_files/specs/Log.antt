-- The record of a kernel in memory. For contracts and proofs: no promise uses it.
use Rattle.std.specs.Prelude.{ℕ, ◌+◌, true, List, [], ◌∷◌, None}
use Rattle.kernel_files.specs.Volume.{Volume, Call, Entry, Done, create, write, append, sync_file, rename, unlink, sync_folder, folder_of, new_node}
use Rattle.kernel_files.specs.Answers.{Told}
use Rattle.kernel_files.specs.declared.memory.Act.{Act}
use Rattle.kernel_files.specs.declared.memory.Act.TheVariants.{Create, Write, Append, SyncFile, Rename, Unlink, SyncFolder}

-- how many files a call makes
abbrev pub makes : Act → ℕ
makes (Create name) = 1
makes (Write i pos piece) = 0
makes (Append i piece) = 0
makes (SyncFile i) = 0
makes (Rename from to) = 0
makes (Unlink name) = 0
makes (SyncFolder name) = 0

-- how many files were made
abbrev pub creates : List Act → ℕ
creates [] = 0
creates (a ∷ acts) = makes a + creates acts

-- a call, if this many files were made before
abbrev pub call_at : ℕ → Act → Call
call_at k (Create name) = create name.items k
call_at k (Write i pos piece) = write i pos piece.items
call_at k (Append i piece) = append i piece.items
call_at k (SyncFile i) = sync_file i
call_at k (Rename from to) = rename from.items to.items
call_at k (Unlink name) = unlink name.items
call_at k (SyncFolder name) = sync_folder (folder_of name.items)

-- the calls, if this many files were made before
abbrev pub entries_from : ℕ → List Act → List Entry
entries_from k [] = []
entries_from k (a ∷ acts) = Done (call_at k a) ∷ entries_from (makes a + k) acts

-- no files
abbrev pub empty_volume : Volume
empty_volume = record { nodes = λ i. new_node; names = λ n. None; may = λ n. None ∷ [] }

-- what a kernel in memory tells
abbrev pub told_of : List Act → Told
told_of acts = record { tells = true; start = empty_volume; calls = entries_from 0 acts }
