-- The chain of records within an extended partition, which begins at a base: where its records lie, and which
-- partitions they give.
use Rattle.std.specs.Prelude.{ℕ, ◌+◌, Bool, List, [], ◌∷◌, ◌++◌, if◌then◌else◌}
use Rattle.partition_domain.specs.declared.table.Partition.{Partition}
use Rattle.partition_domain.specs.Table.{table_entry, is_used}

-- how many records of a chain are read at most
abbrev pub chain_limit : ℕ
chain_limit = 128

-- a record of a chain links to a further one: its second entry is used
abbrev pub links_on : List ℕ → Bool
links_on r = is_used (table_entry r 1)

-- the sector of the record to which one links, which is relative to the base
abbrev pub linked : (base : ℕ) → List ℕ → ℕ
linked base r = base + (table_entry r 1).first

-- the sector after records that begin at one: each lies where the one before links to
abbrev pub next_sector : (base at : ℕ) → List (List ℕ) → ℕ
next_sector base at [] = at
next_sector base at (r ∷ chain) = next_sector base (linked base r) chain

-- the partition that a record of a chain gives, whatever its type: its first entry, if that is used, relative to the
-- record's own sector
abbrev pub given_by : (at : ℕ) → List ℕ → List Partition
given_by at r =
    if is_used (table_entry r 0)
    then record { first = at + (table_entry r 0).first; count = (table_entry r 0).count } ∷ [] else []

-- the partitions that records give, in order, of which the first lies at a sector
abbrev pub given_from : (base at : ℕ) → List (List ℕ) → List Partition
given_from base at [] = []
given_from base at (r ∷ chain) = given_by at r ++ given_from base (linked base r) chain

-- the partitions of a chain, whose first record lies at the base
abbrev pub logical_partitions : (base : ℕ) → List (List ℕ) → List Partition
logical_partitions base chain = given_from base base chain

-- the sector after the records of a chain
abbrev pub next_in_chain : (base : ℕ) → List (List ℕ) → ℕ
next_in_chain base chain = next_sector base base chain
