-- The search by the record at sector 0, and by the chain to which that leads.
use Rattle.std.proofs.Common.{◌≡◌, ℕ, zero, suc, ◌-◌, ◌<◌, ◌≤◌, true, false, cond, not, ◌&&◌, List, [], ◌∷◌, ◌++◌, find, slice_index_or, Option, Some, None, Result, Ok, Err, refl, sym, ap, ◌∙◌, subst, arith}
use Rattle.std.specs.List.{list_any}
use Rattle.std.specs.Option.{option_and_then}
use Rattle.std.proofs.lemmas.Bool.{and_from, cond-true, le-leb, not_from_false}
use Rattle.faulty_source.specs.SourceState.{SourceState}
use Rattle.faulty_source.specs.SourceChanges.{Stays}
use Rattle.partition_domain.specs.declared.table.TableEntry.{TableEntry}
use Rattle.partition_domain.specs.declared.table.Partition.{Partition}
use Rattle.partition_domain.specs.declared.stop.SearchStop.{SearchStop}
use Rattle.partition_domain.specs.declared.stop.SearchStop.TheVariants.{Refused}
use Rattle.partition_domain.specs.declared.stop.Refusal.TheVariants.{NoPartition}
use Rattle.partition_domain.specs.Table.{table_entries, table_entry, extended_entry, is_extended, is_protected, is_protective, is_record, is_used}
use Rattle.partition_domain.specs.Part.{are_records, is_primary, logical, primary}
use Rattle.partition_domain.specs.Reads.{AreNext, Unextended, Unused, records_of}
use Rattle.partition_domain.specs.Steps.{SearchFinds, LeadsToChain, ReadsTable, Searches, SearchesAfter, partition_at}
use Rattle.partition_domain.proofs.ChainLemmas.{not_primary}
use Rattle.partition_domain.proofs.ReadLemmas.{gained_more, next_more, one_after, read_next, records_more, stop_answers}

-- ---- an entry of the first record

-- the entry that no record has
abbrev no_entry : TableEntry
no_entry = record { kind = 0; first = 0; count = 0 }

entry_there : (main : List ℕ) (n : ℕ) → n < 4 → slice_index_or (table_entries main) n no_entry ≡ table_entry main n
entry_there main (suc (suc (suc (suc n)))) few = absurd (omega (arith, few))
entry_there main _ few = refl

-- the partition of an entry, if it is used
abbrev part_by : TableEntry → Option Partition
part_by e = cond (is_used e) (Some (record { first = e.first; count = e.count })) None

primary_is : (main : List ℕ) (k : ℕ) → 1 ≤ k → k ≤ 4 → partition_at (table_entries main) k ≡ primary main k
primary_is main k low high = ap part_by (entry_there main (k - 1) (omega (arith, low, high)))

-- ---- the first record

-- it couldn't be read
pub first_stopped : (k : ℕ) (e : SearchStop) (s t : SourceState) → ReadsTable 0 (Err e) s t → Searches k (Err e) s t
first_stopped k e s t r = record {
  reads = r.reads;
  gained = r.gained;
  next = read_next k [] 0 refl r.reads (Err e) r.as_;
  to = stop_answers k [] 0 refl r.reads e r.as_;
}

module _ (k : ℕ) (table : List TableEntry) (s t : SourceState) (r : ReadsTable 0 (Ok table) s t) where
  abbrev main : List ℕ
  main = r.as_.0

  after : records_of r.reads ≡ main ∷ []
  after = one_after [] 0 r.reads main r.as_.1

  next_first : AreNext k [] r.reads
  next_first = read_next k [] 0 refl r.reads (Ok table) r.as_

  -- it alone decides
  decided : (result : Result Partition SearchStop) → SearchFinds k (main ∷ []) result → Searches k result s t
  decided result comes = record {
    reads = r.reads;
    gained = r.gained;
    next = next_first;
    to = subst (λ (rs : List (List ℕ)). SearchFinds k rs result) (sym after) comes;
  }

  module _ (unprotected : list_any is_protective table ≡ false) where
    unprotected_is : is_protected main ≡ false
    unprotected_is = ap (λ (es : List TableEntry). list_any is_protective es) (sym r.as_.3) ∙ unprotected

    are : are_records main [] ≡ true
    are =
        and_from (is_record main && not (is_protected main)) true
        (and_from (is_record main) (not (is_protected main)) r.as_.2 (not_from_false (is_protected main) unprotected_is))
        refl

    at_is : (o : Option Partition) → 1 ≤ k → k ≤ 4 → partition_at table k ≡ o → primary main k ≡ o
    at_is o low high is =
        sym (primary_is main k low high) ∙ ap (λ (es : List TableEntry). partition_at es k) (sym r.as_.3) ∙ is

    pub first_found : (p : Partition) → 1 ≤ k → k ≤ 4 → partition_at table k ≡ Some p → Searches k (Ok p) s t
    first_found p low high is =
        let of = option_and_then (λ (e : TableEntry). logical e.first [] k) (extended_entry main) in
        decided (Ok p)
        (cond-true (are_records main []) (cond (is_primary k) (primary main k) of) None are
        ∙ cond-true (is_primary k) (primary main k) of (le-leb k 4 high) ∙ at_is (Some p) low high is)

    pub first_unused : 1 ≤ k → k ≤ 4 → partition_at table k ≡ None → Searches k (Err (Refused NoPartition)) s t
    first_unused low high is =
        decided (Err (Refused NoPartition)) (Unused main refl are (le-leb k 4 high) (at_is None low high is))

    extended_is : (o : Option TableEntry) → find is_extended table ≡ o → extended_entry main ≡ o
    extended_is o is = ap (λ (es : List TableEntry). find is_extended es) (sym r.as_.3) ∙ is

    pub first_unextended : 5 ≤ k → find is_extended table ≡ None → Searches k (Err (Refused NoPartition)) s t
    first_unextended low is =
        decided (Err (Refused NoPartition)) (Unextended main refl are (not_primary k low) (extended_is None is))

    -- it leads on to a chain
    pub first_led : (e : TableEntry) (u : SourceState) (result : Result Partition SearchStop)
        → find is_extended table ≡ Some e → Stays s t
        → ((m : List ℕ) → LeadsToChain m e.first → SearchesAfter k m result t u) → Searches k result s u
    first_led e u result is stays searches =
        let b = searches main (record { e = e; are = are; is_extended = extended_is (Some e) is; base_is = refl }) in
        let all : records_of (r.reads ++ b.reads) ≡ main ∷ records_of b.reads =
        records_more r.reads b.reads ∙ ap (λ (rs : List (List ℕ)). rs ++ records_of b.reads) after in
        record {
          reads = r.reads ++ b.reads;
          gained = gained_more r.reads b.reads s t u stays.keeps.tells stays.keeps.bytes r.gained b.gained;
          next = next_more k [] r.reads b.reads next_first
              (subst (λ (rs : List (List ℕ)). AreNext k rs b.reads) (sym after) b.next);
          to = subst (λ (rs : List (List ℕ)). SearchFinds k rs result) (sym all) b.to;
        }
