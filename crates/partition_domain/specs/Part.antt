-- Which partition of a disk has a number, by the records that were read of it, in order, as bytes; and which record has
-- to be read next. Partitions 1 to 4 are the entries of the record at sector 0. Those from 5 on are given by the chain
-- of records in its first extended partition.
use Rattle.std.specs.Prelude.{◌≡◌, ℕ, ◌-◌, Bool, not, ◌&&◌, List, [], ◌∷◌, length, nat_le, nat_lt, slice_get, Option, Some, None, option_and_then, if◌then◌else◌}
use Rattle.std.specs.List.{list_all}
use Rattle.partition_domain.specs.declared.table.Partition.{Partition}
use Rattle.partition_domain.specs.Table.{table_entry, extended_entry, is_protected, is_record, is_used}
use Rattle.partition_domain.specs.Chain.{chain_limit, links_on, logical_partitions, next_in_chain}

-- a partition is an entry of the first record: the first four are
abbrev pub is_primary : (k : ℕ) → Bool
is_primary k = nat_le k 4

-- the partition of an entry of the first record, counted from 1, if it is used
abbrev pub primary : (main : List ℕ) → (k : ℕ) → Option Partition
primary main k =
    if is_used (table_entry main (k - 1))
    then Some (record { first = (table_entry main (k - 1)).first; count = (table_entry main (k - 1)).count }) else None

-- the partition of a chain, counted from 5, if it gives that
abbrev pub logical : (base : ℕ) → (chain : List (List ℕ)) → (k : ℕ) → Option Partition
logical base chain k = slice_get (logical_partitions base chain) (k - 5)

-- the first record is one, and protects nothing; and what was read after it are records
abbrev pub are_records : (main : List ℕ) → (chain : List (List ℕ)) → Bool
are_records main chain = is_record main && not (is_protected main) && list_all is_record chain

-- the partition of a number, if the records give it
abbrev pub partition_of : List (List ℕ) → (k : ℕ) → Option Partition
partition_of [] k = None
partition_of (main ∷ chain) k =
    if are_records main chain
    then (if is_primary k then primary main k else option_and_then (λ e. logical e.first chain k) (extended_entry main))
    else None

-- partition k begins at this sector and has this number of sectors
abbrev pub Part : List (List ℕ) → (k first count : ℕ) → Type 0
Part records k first count = partition_of records k ≡ Some (record { first = first; count = count })

-- a chain doesn't give a partition: it gives fewer
abbrev pub is_lacking : (base : ℕ) → (chain : List (List ℕ)) → (k : ℕ) → Bool
is_lacking base chain k = nat_le (length (logical_partitions base chain)) (k - 5)

-- a chain goes on after the records that were read of it: each links on, they don't give the partition, and they
-- aren't as many as are read at most
abbrev pub chain_goes_on : (base : ℕ) → (chain : List (List ℕ)) → (k : ℕ) → Bool
chain_goes_on base chain k = list_all links_on chain && is_lacking base chain k && nat_lt (length chain) chain_limit

-- the sector of the record of a chain that has to be read next, if there is one
abbrev pub next_of_chain : (base : ℕ) → (chain : List (List ℕ)) → (k : ℕ) → Option ℕ
next_of_chain base chain k = if chain_goes_on base chain k then Some (next_in_chain base chain) else None

-- The sector of the record that has to be read next for partition k, if there is one: first that at sector 0, and then,
-- unless the partition is one of its entries, those of the chain.
abbrev pub next : List (List ℕ) → (k : ℕ) → Option ℕ
next [] k = Some 0
next (main ∷ chain) k =
    if are_records main chain && not (is_primary k)
    then option_and_then (λ e. next_of_chain e.first chain k) (extended_entry main) else None
