-- Files as Linux keeps them: names that lead to files, and what a stop of the machine may leave of both.
use Rattle.std.specs.Prelude.{◌≡◌, ◌⊎◌, ⊤, ℕ, ◌<◌, ◌≤◌, max, Bool, false, ◌||◌, List, [], ◌∷◌, ◌++◌, length, Option, Some, None, if◌then◌else◌, ◌==◌, slice_index_or}
use Rattle.std.specs.List.{flat_map}
use Rattle.std.specs.Str.{bytes_eq}
use Rattle.crash_site.specs.Files.{written}
use Rattle.crash_site.specs.Disk.{without}
use Rattle.crash_site.specs.Left.{IsLoose, loose_end}

-- A regular file, whatever its names: its bytes as they read; its bytes as its last sync that returned found them; and
-- the ranges written since. Some of these are lost: no sync makes them durable until they are written again.
pub record Node : Type 0 where
  pub bytes : List ℕ
  pub durable : List ℕ
  pub loose : List (ℕ × ℕ)
  pub lost : List (ℕ × ℕ)

-- The files by number, the file to which each name leads, and the entries that a stop may leave under it: those since
-- the last sync of its folder, in any choice for each name.
pub record Volume : Type 0 where
  pub nodes : ℕ → Node
  pub names : List ℕ → Option ℕ
  pub may : List ℕ → List (Option ℕ)

-- One system call that may change something, with what it was handed. A new file has a number of its own.
pub data Call : Type 0 where
  create : (name : List ℕ) → (node : ℕ) → Call
  write : (node : ℕ) → (pos : ℕ) → (piece : List ℕ) → Call
  append : (node : ℕ) → (piece : List ℕ) → Call
  sync_file : (node : ℕ) → Call
  rename : (from : List ℕ) → (to : List ℕ) → Call
  unlink : (name : List ℕ) → Call
  sync_folder : (folder : List ℕ) → Call

-- a call, and whether it failed
pub data Entry : Type 0 where
  Done : Call → Entry
  Failed : Call → Entry

-- whether a text has a slash
abbrev pub has_slash : List ℕ → Bool
has_slash [] = false
has_slash (c ∷ cs) = (c == 47) || has_slash cs

-- the folder of a name: its text up to the last slash, or no text if it has none
abbrev pub folder_of : List ℕ → List ℕ
folder_of [] = []
folder_of (c ∷ cs) = if has_slash (c ∷ cs) then c ∷ folder_of cs else []

-- a new file: it has no bytes
abbrev pub new_node : Node
new_node = record { bytes = []; durable = []; loose = []; lost = [] }

-- the files with one of them changed
abbrev pub at_node : ℕ → (Node → Node) → Volume → Volume
at_node i change v = record v { nodes = λ j. if j == i then change (v.nodes j) else v.nodes j }

-- a name leads to this, and a stop may leave that under it, or what it might leave before
abbrev pub lead : List ℕ → Option ℕ → Volume → Volume
lead name entry v =
    record v {
      names = λ n. if bytes_eq n name then entry else v.names n;
      may = λ n. if bytes_eq n name then entry ∷ v.may n else v.may n;
    }

-- a stop may leave this under a name, which leads to the same file as before
abbrev pub may_lead : List ℕ → Option ℕ → Volume → Volume
may_lead name entry v = record v { may = λ n. if bytes_eq n name then entry ∷ v.may n else v.may n }

-- a file of which a range was written; a write of no bytes changes nothing
abbrev pub with_piece : ℕ → List ℕ → Node → Node
with_piece pos [] f = f
with_piece pos (b ∷ bs) f =
    record f {
      bytes = written f.bytes pos (b ∷ bs);
      loose = (pos, length (b ∷ bs)) ∷ f.loose;
      lost = flat_map (without pos (length (b ∷ bs))) f.lost;
    }

-- a file to which a piece was added
abbrev pub with_end : List ℕ → Node → Node
with_end piece f =
    record f {
      bytes = f.bytes ++ piece;
      loose = (length f.bytes, length piece) ∷ f.loose;
      lost = flat_map (without (length f.bytes) (length piece)) f.lost;
    }

-- a file of which the write of a range failed: it reads as before
abbrev pub with_loss : ℕ → ℕ → Node → Node
with_loss pos len f = record f { loose = (pos, len) ∷ f.loose; lost = (pos, len) ∷ f.lost }

-- a file after a sync that returned: it is durable as it reads, except in what was lost
abbrev pub synced : Node → Node
synced f = record f { durable = f.bytes; loose = f.lost }

-- after a call that returned Ok
abbrev pub after_done : Call → Volume → Volume
after_done (create name i) v = lead name (Some i) (at_node i (λ f. new_node) v)
after_done (write i pos piece) v = at_node i (with_piece pos piece) v
after_done (append i piece) v = at_node i (with_end piece) v
after_done (sync_file i) v = at_node i synced v
after_done (rename from to) v = lead to (v.names from) (lead from None v)
after_done (unlink name) v = lead name None v
after_done (sync_folder folder) v =
    record v { may = λ n. if bytes_eq (folder_of n) folder then v.names n ∷ [] else v.may n }

-- After a call that failed, or in its middle. Nothing else reads, and a stop may leave any part of the call. A write
-- loses its range, and a sync of a file loses all that was loose.
abbrev pub after_part : Call → Volume → Volume
after_part (create name i) v = may_lead name (Some i) (at_node i (λ f. new_node) v)
after_part (write i pos piece) v = at_node i (with_loss pos (length piece)) v
after_part (append i piece) v = at_node i (λ f. with_loss (length f.bytes) (length piece) f) v
after_part (sync_file i) v = at_node i (λ f. record f { lost = f.loose }) v
after_part (rename from to) v = may_lead to (v.names from) (may_lead from None v)
after_part (unlink name) v = may_lead name None v
after_part (sync_folder folder) v = v

abbrev pub entered : Volume → Entry → Volume
entered v (Done call) = after_done call v
entered v (Failed call) = after_part call v

-- after the calls of a record
abbrev pub after : Volume → List Entry → Volume
after v [] = v
after v (e ∷ es) = after (entered v e) es

-- Bytes that a stop may leave of a file: its durable ones, except in the loose ranges, and past their end, where any
-- may be. They aren't fewer, and end at the latest where the furthest loose range does.
pub record MayRead (f : Node) (found : List ℕ) : Type 0 where
  pub stands : (x : ℕ) → x < length f.durable → IsLoose f.loose x
      ⊎ (slice_index_or found x 0 ≡ slice_index_or f.durable x 0)
  pub no_shorter : length f.durable ≤ length found
  pub no_longer : length found ≤ max (length f.durable) (loose_end f.loose)

-- a file that a stop leaves by an entry, or none
abbrev pub Leaves : (ℕ → Node) → Option ℕ → Option (List ℕ) → Type 0
Leaves nodes None None = ⊤
Leaves nodes None (Some found) = ⊥
Leaves nodes (Some i) None = ⊥
Leaves nodes (Some i) (Some found) = MayRead (nodes i) found

-- one of these entries is left
abbrev pub LeavesOne : (ℕ → Node) → List (Option ℕ) → Option (List ℕ) → Type 0
LeavesOne nodes [] found = ⊥
LeavesOne nodes (e ∷ es) found = Leaves nodes e found ⊎ LeavesOne nodes es found

-- what a stop may leave under a name
abbrev pub MayFind : Volume → List ℕ → Option (List ℕ) → Type 0
MayFind v name found = LeavesOne v.nodes (v.may name) found

-- no entry leads to this file
abbrev pub Free : ℕ → List (Option ℕ) → Type 0
Free i [] = ⊤
Free i (e ∷ es) = (e ≡ Some i → ⊥) × Free i es

-- a file that no name leads to, and none may lead to after a stop
pub record IsNew (v : Volume) (i : ℕ) : Type 0 where
  pub named : (n : List ℕ) → v.names n ≡ Some i → ⊥
  pub shown : (n : List ℕ) → Free i (v.may n)

-- all is durable as it reads
pub record IsAtRest (v : Volume) : Type 0 where
  pub may : (n : List ℕ) → v.may n ≡ v.names n ∷ []
  pub durable : (i : ℕ) → (v.nodes i).durable ≡ (v.nodes i).bytes
  pub loose : (i : ℕ) → (v.nodes i).loose ≡ []
  pub lost : (i : ℕ) → (v.nodes i).lost ≡ []
