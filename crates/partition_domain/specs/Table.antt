-- The records of a PC's partition table (MBR), as bytes: four entries of 16 bytes from byte 446 on, and a signature.
use Rattle.std.specs.Prelude.{ℕ, ◌+◌, ◌*◌, ◌^◌, Bool, ◌&&◌, ◌||◌, not, List, [], ◌∷◌, length, nat_eq, slice_index, find, Option}
use Rattle.std.specs.List.{list_any}
use Rattle.partition_domain.specs.declared.table.TableEntry.{TableEntry}

-- how many bytes a sector has, and so a record
abbrev pub sector_size : ℕ
sector_size = 512

-- the number of 32 bits that begins at a byte, the lowest byte first
abbrev pub number_at : List ℕ → (at : ℕ) → ℕ
number_at r at =
    slice_index r at + slice_index r (at + 1) * 2 ^ 8 + slice_index r (at + 2) * 2 ^ 16
    + slice_index r (at + 3) * 2 ^ 24

-- the entry of a record that begins at a byte: its type at +4, its first sector at +8, its count of sectors at +12
abbrev pub entry_at : List ℕ → (at : ℕ) → TableEntry
entry_at r at = record { kind = slice_index r (at + 4); first = number_at r (at + 8); count = number_at r (at + 12) }

-- an entry of a record, counted from 0
abbrev pub table_entry : List ℕ → (n : ℕ) → TableEntry
table_entry r n = entry_at r (446 + 16 * n)

-- all four entries of a record
abbrev pub table_entries : List ℕ → List TableEntry
table_entries r = table_entry r 0 ∷ table_entry r 1 ∷ table_entry r 2 ∷ table_entry r 3 ∷ []

-- an entry is used
abbrev pub is_used : TableEntry → Bool
is_used e = not (nat_eq e.kind 0)

-- an entry is for an extended partition, which holds a chain of records
abbrev pub is_extended : TableEntry → Bool
is_extended e = nat_eq e.kind 0x05 || nat_eq e.kind 0x0F || nat_eq e.kind 0x85

-- an entry protects a disk that has a partition table of another kind
abbrev pub is_protective : TableEntry → Bool
is_protective e = nat_eq e.kind 0xEE

-- what was read is a whole sector
abbrev pub is_whole_sector : List ℕ → Bool
is_whole_sector r = nat_eq (length r) sector_size

-- what was read ends with the bytes 0x55 and 0xAA
abbrev pub has_signature : List ℕ → Bool
has_signature r = nat_eq (slice_index r 510) 0x55 && nat_eq (slice_index r 511) 0xAA

-- what was read is a record
abbrev pub is_record : List ℕ → Bool
is_record r = is_whole_sector r && has_signature r

-- a record protects its disk
abbrev pub is_protected : List ℕ → Bool
is_protected r = list_any is_protective (table_entries r)

-- the first entry of an extended partition, if there is one
abbrev pub extended_entry : List ℕ → Option TableEntry
extended_entry r = find is_extended (table_entries r)
