-- What each step of the search for a partition does, by what a source tells.
-- For contracts and proofs: no promise uses it.
use Rattle.std.specs.Prelude.{◌≡◌, ⊤, ℕ, ◌+◌, ◌-◌, ◌<◌, ◌≤◌, ◌^◌, true, false, IsTrue, List, [], ◌∷◌, ◌++◌, length, All, nat_eq, slice_index_or, Option, Some, None, Result, Ok, Err, if◌then◌else◌}
use Rattle.std.specs.List.{list_all}
use Rattle.faulty_source.specs.Journal.{Reading, IsFrom}
use Rattle.faulty_source.specs.SourceState.{SourceState}
use Rattle.partition_domain.specs.declared.table.TableEntry.{TableEntry}
use Rattle.partition_domain.specs.declared.table.Partition.{Partition}
use Rattle.partition_domain.specs.declared.chain.Chain.{Chain}
use Rattle.partition_domain.specs.declared.chain.Link.{Link}
use Rattle.partition_domain.specs.declared.chain.Link.TheVariants.{Found, On, End}
use Rattle.partition_domain.specs.declared.stop.Refusal.TheVariants.{Unread, NoSignature, NoPartition}
use Rattle.partition_domain.specs.declared.stop.SearchStop.{SearchStop}
use Rattle.partition_domain.specs.declared.stop.SearchStop.TheVariants.{SourceLost, Refused}
use Rattle.partition_domain.specs.Table.{table_entries, extended_entry, has_signature, is_record, is_used, is_whole_sector, sector_size}
use Rattle.partition_domain.specs.Chain.{links_on, logical_partitions, next_in_chain}
use Rattle.partition_domain.specs.Part.{are_records, partition_of}
use Rattle.partition_domain.specs.Reads.{AreNext, IsSectorRead, RefusedBy, StoppedBy, records_of}

-- the source's journal gained these reads, which gave its own bytes
pub record Gained (reads : List Reading) (old new : SourceState) : Type 0 where
  pub told : IsTrue old.tells → new.journal ≡ old.journal ++ reads
  pub right : IsTrue old.tells → All (IsFrom old.bytes) reads

-- ---- one record

-- a read of the sector, and what it gave
pub record ReadsOne (sector : ℕ) (reads : List Reading) (last : List ℕ) : Type 0 where
  pub reading : Reading
  pub are : reads ≡ reading ∷ []
  pub is_read : IsSectorRead (Some sector) reading
  pub gave : reading.given ≡ last

-- why there are no entries: the record was lost, or is refused by itself
pub data StopsAs (sector : ℕ) (reads : List Reading) (e : SearchStop) : Type 0 where
  Lost : e ≡ SourceLost → reads ≡ [] → StopsAs sector reads e
  Short : (last : List ℕ) → e ≡ Refused (Unread sector) → ReadsOne sector reads last → length last < sector_size
      → StopsAs sector reads e
  Unsigned : (last : List ℕ) → e ≡ Refused (NoSignature sector) → ReadsOne sector reads last
      → is_whole_sector last ≡ true
      → has_signature last ≡ false → StopsAs sector reads e

-- the entries of a record that was read, or why there are none
abbrev pub SectorReadsAs : (sector : ℕ) → List Reading → Result (List TableEntry) SearchStop → Type 0
SectorReadsAs sector reads (Ok table) =
    (last : List ℕ) × ReadsOne sector reads last × (is_record last ≡ true) × (table ≡ table_entries last)
SectorReadsAs sector reads (Err e) = StopsAs sector reads e

-- what a read of a record did, by its outcome
pub record ReadsTable (sector : ℕ) (result : Result (List TableEntry) SearchStop) (old new : SourceState) : Type 0 where
  pub reads : List Reading
  pub gained : Gained reads old new
  pub as_ : SectorReadsAs sector reads result

-- ---- the chain

-- the numbers of a search in a chain are small, and it hasn't given the partition yet
pub record IsNear (k : ℕ) (c : Chain) : Type 0 where
  pub logical : 5 ≤ k
  pub at : c.at < 2 ^ 33
  pub given : c.given ≤ k - 5
  pub read : c.read ≤ 128

-- the numbers of a search are small after one more record, or those of the partition that it gives are
abbrev pub LeadsNear : (k : ℕ) → (c : Chain) → Link → Type 0
LeadsNear k c (Found p) = (p.first < 2 ^ 34) × (p.count < 2 ^ 32)
LeadsNear k c (On n) = IsNear k n × (n.read ≡ c.read + 1)
LeadsNear k c End = ⊤

-- the chain after a record with this second entry, if that is used
abbrev pub leads : (c : Chain) → (given : ℕ) → (second : TableEntry) → Link
leads c given second =
    if is_used second
    then On (record { base = c.base; at = c.base + second.first; given = given; read = c.read + 1 }) else End

-- what comes of a record with these first two entries
abbrev pub passes_by : (k : ℕ) → (c : Chain) → (first second : TableEntry) → Link
passes_by k c first second =
    if is_used first
    then (if nat_eq c.given (k - 5) then Found (record { first = c.at + first.first; count = first.count })
    else leads c (c.given + 1) second)
    else leads c c.given second

-- what comes of a record with these entries; the chain ends if there are fewer than two
abbrev pub link_past : (k : ℕ) → (c : Chain) → List TableEntry → Link
link_past k c [] = End
link_past k c (first ∷ []) = End
link_past k c (first ∷ second ∷ more) = passes_by k c first second

-- how far a chain was read, by the records that were read of it: each is one, and links on
pub record StandsAfter (main : List ℕ) (c : Chain) (chain : List (List ℕ)) : Type 0 where
  pub e : TableEntry
  pub is_extended : extended_entry main ≡ Some e
  pub base : c.base ≡ e.first
  pub are : are_records main chain ≡ true
  pub links : list_all links_on chain ≡ true
  pub at : c.at ≡ next_in_chain e.first chain
  pub given : c.given ≡ length (logical_partitions e.first chain)
  pub read : c.read ≡ length chain

-- what comes of the next record of a chain, by all records that were read of it
abbrev pub TurnsTo : (k : ℕ) → (main : List ℕ) → (chain : List (List ℕ)) → Result Link SearchStop → Type 0
TurnsTo k main chain (Ok (Found p)) = partition_of (main ∷ chain) k ≡ Some p
TurnsTo k main chain (Ok (On c)) = StandsAfter main c chain
TurnsTo k main chain (Ok End) = RefusedBy NoPartition k (main ∷ chain)
TurnsTo k main chain (Err e) = StoppedBy e k (main ∷ chain)

-- the next record was read, or lost
pub record TookRecord (k : ℕ) (main : List ℕ) (chain : List (List ℕ)) (result : Result Link SearchStop)
    (old new : SourceState) : Type 0 where
  pub reads : List Reading
  pub gained : Gained reads old new
  pub next : AreNext k (main ∷ chain) reads
  pub to : TurnsTo k main (chain ++ records_of reads) result

-- what a turn does, wherever the chain is
abbrev pub Turns : (k : ℕ) → (main : List ℕ) → (c : Chain) → (chain : List (List ℕ)) → Result Link SearchStop
    → (old new : SourceState) → Type 0
Turns k main c chain result old new = StandsAfter main c chain → TookRecord k main chain result old new

-- ---- the whole search

-- what a search comes to, by the records that were read
abbrev pub SearchFinds : (k : ℕ) → (records : List (List ℕ)) → Result Partition SearchStop → Type 0
SearchFinds k records (Ok p) = partition_of records k ≡ Some p
SearchFinds k records (Err e) = StoppedBy e k records

-- what a search did after these records
pub record Searched (k : ℕ) (before : List (List ℕ)) (result : Result Partition SearchStop) (old new : SourceState)
    : Type 0 where
  pub reads : List Reading
  pub gained : Gained reads old new
  pub next : AreNext k before reads
  pub to : SearchFinds k (before ++ records_of reads) result

-- the first record leads on to a chain, which begins at this sector
pub record LeadsToChain (main : List ℕ) (base : ℕ) : Type 0 where
  pub e : TableEntry
  pub are : are_records main [] ≡ true
  pub is_extended : extended_entry main ≡ Some e
  pub base_is : e.first ≡ base

-- what a search did after the first record
abbrev pub SearchesAfter : (k : ℕ) → (main : List ℕ) → Result Partition SearchStop → (old new : SourceState) → Type 0
SearchesAfter k main result old new = Searched k (main ∷ []) result old new

-- what a search did from its beginning
abbrev pub Searches : (k : ℕ) → Result Partition SearchStop → (old new : SourceState) → Type 0
Searches k result old new = Searched k [] result old new

-- the partition of one of the entries of the first record, counted from 1, if it is used
abbrev pub partition_at : List TableEntry → (k : ℕ) → Option Partition
partition_at table k =
    let e = slice_index_or table (k - 1) (record { kind = 0; first = 0; count = 0 }) in
    if is_used e then Some (record { first = e.first; count = e.count }) else None
