-- Which reads are made for a partition, and what each outcome of its search says of what they gave.
use Rattle.std.specs.Prelude.{◌≡◌, ⊤, ℕ, codes, ◌+◌, ◌*◌, ◌<◌, true, false, List, [], ◌∷◌, ◌++◌, length, map, Option, Some, None, is_some}
use Rattle.std.specs.List.{list_all}
use Rattle.fault_count.specs.Counts.{raised}
use Rattle.console_texts.specs.Texts.{numbered_text}
use Rattle.faulty_source.specs.Journal.{Reading}
use Rattle.partition_domain.specs.declared.table.TableEntry.{TableEntry}
use Rattle.partition_domain.specs.declared.stop.Refusal.{Refusal}
use Rattle.partition_domain.specs.declared.stop.Refusal.TheVariants.{Unread, NoSignature, Protective, NoPartition, ChainTooLong}
use Rattle.partition_domain.specs.declared.stop.SearchStop.{SearchStop}
use Rattle.partition_domain.specs.declared.stop.SearchStop.TheVariants.{SourceLost, Refused}
use Rattle.partition_domain.specs.Table.{extended_entry, has_signature, is_protected, is_record, is_whole_sector, sector_size}
use Rattle.partition_domain.specs.Chain.{chain_limit, links_on}
use Rattle.partition_domain.specs.Part.{are_records, is_lacking, is_primary, next, Part, primary}

-- ---- the reads

-- the records that reads gave, in order
abbrev pub records_of : List Reading → List (List ℕ)
records_of reads = map (λ r. r.given) reads

-- a read asks for the one sector that has to be read next, and for no more
abbrev pub IsSectorRead : Option ℕ → Reading → Type 0
IsSectorRead None r = ⊥
IsSectorRead (Some sector) r = (r.pos ≡ sector * sector_size) × (r.asked ≡ sector_size)

-- the reads after these records are those that have to be made next, in order
abbrev pub AreNext : (k : ℕ) → (before : List (List ℕ)) → List Reading → Type 0
AreNext k before [] = ⊤
AreNext k before (r ∷ reads) = IsSectorRead (next before k) r × AreNext k (before ++ r.given ∷ []) reads

-- ---- the outcomes, one a row

-- the last record, which was read at this sector
pub record IsLastRecord (k : ℕ) (records : List (List ℕ)) (sector : ℕ) (last : List ℕ) : Type 0 where
  pub before : List (List ℕ)
  pub are : records ≡ before ++ last ∷ []
  pub sector_is : next before k ≡ Some sector

-- a record wasn't read whole
pub record IsUnread (k : ℕ) (records : List (List ℕ)) (sector : ℕ) : Type 0 where
  pub last : List ℕ
  pub is_last : IsLastRecord k records sector last
  pub short : length last < sector_size

-- a record was read whole, and has no signature
pub record LacksSignature (k : ℕ) (records : List (List ℕ)) (sector : ℕ) : Type 0 where
  pub last : List ℕ
  pub is_last : IsLastRecord k records sector last
  pub whole : is_whole_sector last ≡ true
  pub unsigned : has_signature last ≡ false

-- the record at sector 0 has a protective entry
pub record IsDiskProtected (records : List (List ℕ)) : Type 0 where
  pub main : List ℕ
  pub are : records ≡ main ∷ []
  pub readable : is_record main ≡ true
  pub protected : is_protected main ≡ true

-- there is no partition k by the records: its entry isn't used, or there is no extended partition, or the chain ends
-- before it
pub data LacksPartition (k : ℕ) (records : List (List ℕ)) : Type 0 where
  Unused : (main : List ℕ) → records ≡ main ∷ [] → are_records main [] ≡ true → is_primary k ≡ true
      → primary main k ≡ None → LacksPartition k records
  Unextended : (main : List ℕ) → records ≡ main ∷ [] → are_records main [] ≡ true → is_primary k ≡ false
      → extended_entry main ≡ None → LacksPartition k records
  Ended : (main : List ℕ) (chain : List (List ℕ)) (e : TableEntry) → records ≡ main ∷ chain
      → are_records main chain ≡ true → is_primary k ≡ false → extended_entry main ≡ Some e
      → is_lacking e.first chain k ≡ true → list_all links_on chain ≡ false → LacksPartition k records

-- as many records of a chain were read as may be, and each links on, but they don't give partition k
pub record IsChainTooLong (k : ℕ) (records : List (List ℕ)) : Type 0 where
  pub main : List ℕ
  pub chain : List (List ℕ)
  pub e : TableEntry
  pub are : records ≡ main ∷ chain
  pub readable : are_records main chain ≡ true
  pub logical : is_primary k ≡ false
  pub is_extended : extended_entry main ≡ Some e
  pub lacking : is_lacking e.first chain k ≡ true
  pub links : list_all links_on chain ≡ true
  pub full : length chain ≡ chain_limit

-- the records give partition k
pub record HasPart (k : ℕ) (records : List (List ℕ)) : Type 0 where
  pub first : ℕ
  pub count : ℕ
  pub part : Part records k first count

-- What a refusal says to a person: the exit status, and the text.
abbrev pub said_of : Refusal → ℕ × List ℕ
said_of (Unread sector) = (2, numbered_text (codes "sector ") sector (codes ": unread"))
said_of (NoSignature sector) = (2, numbered_text (codes "sector ") sector (codes ": no signature"))
said_of Protective = (2, codes "protective partition table")
said_of NoPartition = (1, codes "no such partition")
said_of ChainTooLong = (2, codes "chain too long")

-- What a refusal says of the records that were read for partition k.
abbrev pub RefusedBy : Refusal → (k : ℕ) → (records : List (List ℕ)) → Type 0
RefusedBy (Unread sector) k records = IsUnread k records sector
RefusedBy (NoSignature sector) k records = LacksSignature k records sector
RefusedBy Protective k records = IsDiskProtected records
RefusedBy NoPartition k records = LacksPartition k records
RefusedBy ChainTooLong k records = IsChainTooLong k records

-- What a search that stopped says of the records that were read: the input was lost when a further one had to be read,
-- or they are refused.
abbrev pub StoppedBy : SearchStop → (k : ℕ) → (records : List (List ℕ)) → Type 0
StoppedBy SourceLost k records = is_some (next records k) ≡ true
StoppedBy (Refused refusal) k records = RefusedBy refusal k records

-- the count of losses after a search that stopped: it rose by one if and only if the input was lost
abbrev pub losses_after : SearchStop → (losses : ℕ) → ℕ
losses_after SourceLost losses = raised losses
losses_after (Refused refusal) losses = losses

-- What records that are all read lead to: the partition, or a refusal.
abbrev pub Brings : Option Refusal → (k : ℕ) → (records : List (List ℕ)) → Type 0
Brings None k records = HasPart k records
Brings (Some refusal) k records = RefusedBy refusal k records
