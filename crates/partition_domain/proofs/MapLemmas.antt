-- The map of a partition, as it is made: extended, and then marked.
use Rattle.std.proofs.Common.{◌≡◌, ℕ, ◌+◌, ◌-◌, ◌≤◌, max, List, [], ◌++◌, drop, replicate, sym, ap, ◌∙◌, arith, append-nil}
use Rattle.std.proofs.lemmas.List.{drop-replicate, replicate-append-replicate, take-replicate}
use Rattle.block_list.specs.declared.status.Status.{Status}
use Rattle.block_list.specs.declared.status.Status.TheVariants.{NonTried, Finished}
use Rattle.block_list.specs.Map.{extended, marked}
use Rattle.partition_domain.specs.declared.table.Partition.{Partition}
use Rattle.partition_domain.specs.DomainMap.{domain_map, size_of, start_of}

zero_less : (n : ℕ) → n - 0 ≡ n
zero_less n = omega arith

all_non_tried : (none : List Status) (end : ℕ) → none ≡ [] → extended none end ≡ replicate end NonTried
all_non_tried none end is =
    ap (λ (m : List Status). extended m end) is ∙ ap (λ (n : ℕ). replicate n NonTried) (zero_less end)

-- where the partition ends, or past that the input
past_part : (length_ start size : ℕ) → max length_ (start + size) - (start + size) ≡ length_ - (start + size)
past_part length_ start size = omega arith

pub map_marked : (p : Partition) (length_ : ℕ) (none grown made : List Status) → none ≡ []
    → grown ≡ extended none (max length_ (start_of p + size_of p))
    → made ≡ marked grown (start_of p) (size_of p) Finished → made ≡ domain_map length_ p
map_marked p length_ none grown made empty is_grown is_made =
    let start = start_of p in
    let size = size_of p in
    let end = max length_ (start + size) in
    let all : grown ≡ replicate end NonTried = is_grown ∙ all_non_tried none end empty in
    let inside : start ≤ end = omega arith in
    is_made ∙ ap (λ (m : List Status). marked m start size Finished) all
    ∙ ap (λ (f : List Status). f ++ replicate size Finished ++ drop (start + size) (replicate end NonTried))
    (take-replicate start end NonTried inside)
    ∙ ap (λ (b : List Status). replicate start NonTried ++ replicate size Finished ++ b)
    (drop-replicate (start + size) end NonTried ∙ ap (λ (n : ℕ). replicate n NonTried) (past_part length_ start size))

-- a partition of no sectors
pub map_unmarked : (p : Partition) (length_ : ℕ) (none made : List Status) → none ≡ [] → size_of p ≡ 0
    → made ≡ extended none (max length_ (start_of p + size_of p)) → made ≡ domain_map length_ p
map_unmarked p length_ none made empty no_size is_made =
    let start = start_of p in
    let size = size_of p in
    let end = max length_ (start + size) in
    let back = length_ - (start + size) in
    let sum : end ≡ start + back = omega (arith, no_size) in
    is_made ∙ all_non_tried none end empty ∙ ap (λ (n : ℕ). replicate n NonTried) sum
    ∙ sym (replicate-append-replicate start back NonTried)
    ∙ ap (λ (f : List Status). f ++ replicate back NonTried) (sym (append-nil (replicate start NonTried)))
    ∙ ap (λ (n : ℕ). replicate start NonTried ++ replicate n Finished ++ replicate back NonTried) (sym no_size)
