-- A turn of the search in a chain, and the search by turns.
use Rattle.std.proofs.Common.{◌≡◌, ℕ, ◌+◌, ◌-◌, ◌<◌, ◌≤◌, true, false, cond, nat_eq, List, [], ◌∷◌, ◌++◌, length, slice_get, Some, Result, Ok, Err, refl, sym, ap, ◌∙◌, subst, arith, append-nil, length-append}
use Rattle.std.proofs.lemmas.Bool.{cond_both, cond-true, cond-false, eqb-true, eqb-false}
use Rattle.faulty_source.specs.Journal.{Reading}
use Rattle.faulty_source.specs.SourceState.{SourceState}
use Rattle.faulty_source.specs.SourceChanges.{Stays}
use Rattle.partition_domain.specs.declared.table.TableEntry.{TableEntry}
use Rattle.partition_domain.specs.declared.table.Partition.{Partition}
use Rattle.partition_domain.specs.declared.chain.Chain.{Chain}
use Rattle.partition_domain.specs.declared.chain.Link.{Link}
use Rattle.partition_domain.specs.declared.chain.Link.TheVariants.{Found, On, End}
use Rattle.partition_domain.specs.declared.stop.SearchStop.{SearchStop}
use Rattle.partition_domain.specs.declared.stop.SearchStop.TheVariants.{Refused}
use Rattle.partition_domain.specs.declared.stop.Refusal.TheVariants.{NoPartition, ChainTooLong}
use Rattle.partition_domain.specs.Table.{table_entry, is_record, is_used}
use Rattle.partition_domain.specs.Chain.{given_by, links_on, logical_partitions, next_in_chain}
use Rattle.partition_domain.specs.Part.{are_records, next, partition_of}
use Rattle.partition_domain.specs.Reads.{AreNext, Ended, RefusedBy, StoppedBy, records_of}
use Rattle.partition_domain.specs.Steps.{Gained, LeadsToChain, IsNear, ReadsTable, Searched, StandsAfter, TookRecord, Turns, TurnsTo, leads, link_past, passes_by}
use Rattle.partition_domain.proofs.ChainLemmas.{all_more, are_more, given_after, item_after, lacks, next_on, not_all, not_primary, part_on, sector_after}
use Rattle.partition_domain.proofs.ReadLemmas.{gained_more, gained_none, next_more, one_after, read_next, records_more, stop_answers}

-- ---- the record that comes next

-- it is the one at which the chain stands
next_stands : (k : ℕ) (main : List ℕ) (c : Chain) (chain : List (List ℕ)) → IsNear k c → c.read < 128
    → (s : StandsAfter main c chain) → next (main ∷ chain) k ≡ Some c.at
next_stands k main c chain near more s =
    next_on main chain k s.e s.are (not_primary k near.logical) s.is_extended s.links
    (lacks s.e.first chain k (omega (arith, s.given, near.given))) (omega (arith, s.read, more))
    ∙ ap (λ (n : ℕ). Some n) (sym s.at)

module _ (k : ℕ) (main : List ℕ) (c : Chain) (chain : List (List ℕ)) (last : List ℕ) (near : IsNear k c)
    (s : StandsAfter main c chain) (is : is_record last ≡ true) where
  -- the records with this one, the partitions that they give, and the one that it gives, if it does
  abbrev grown : List (List ℕ)
  grown = chain ++ last ∷ []

  abbrev before : List Partition
  before = logical_partitions s.e.first chain

  abbrev part : Partition
  part = record { first = next_in_chain s.e.first chain + (table_entry last 0).first; count = (table_entry last 0).count }

  are_grown : are_records main grown ≡ true
  are_grown = are_more main chain last s.are is

  after : logical_partitions s.e.first grown ≡ before ++ given_by (next_in_chain s.e.first chain) last
  after = given_after s.e.first s.e.first chain last

  gives : is_used (table_entry last 0) ≡ true → logical_partitions s.e.first grown ≡ before ++ part ∷ []
  gives used = after ∙ ap (λ (ps : List Partition). before ++ ps) (cond-true (is_used (table_entry last 0)) _ _ used)

  gives_none : is_used (table_entry last 0) ≡ false → logical_partitions s.e.first grown ≡ before
  gives_none unused =
      after ∙ ap (λ (ps : List Partition). before ++ ps) (cond-false (is_used (table_entry last 0)) _ _ unused)
      ∙ append-nil before

  counts : is_used (table_entry last 0) ≡ true → length (logical_partitions s.e.first grown) ≡ c.given + 1
  counts used =
      ap length (gives used) ∙ length-append before (part ∷ []) ∙ ap (λ (n : ℕ). n + 1) (sym s.given)

  counts_none : is_used (table_entry last 0) ≡ false → length (logical_partitions s.e.first grown) ≡ c.given
  counts_none unused = ap length (gives_none unused) ∙ sym s.given

  abbrev To : Link → Type 0
  To link = TurnsTo k main grown (Ok link)

  -- it gives the partition
  abbrev gave : Link
  gave = Found (record { first = c.at + (table_entry last 0).first; count = (table_entry last 0).count })

  found : is_used (table_entry last 0) ≡ true → c.given ≡ k - 5 → To gave
  found used at =
      part_on main grown k s.e (record { first = c.at + (table_entry last 0).first; count = (table_entry last 0).count }) are_grown
      (not_primary k near.logical) s.is_extended
      (ap (λ (ps : List Partition). slice_get ps (k - 5)) (gives used)
      ∙ ap (λ (n : ℕ). slice_get (before ++ part ∷ []) n) (sym at ∙ s.given) ∙ item_after before part
      ∙ ap (λ (n : ℕ). Some (record { first = n + (table_entry last 0).first; count = (table_entry last 0).count })) (sym s.at))

  -- it links on, or the chain ends
  led : (given : ℕ) → length (logical_partitions s.e.first grown) ≡ given → given ≤ k - 5
      → To (leads c given (table_entry last 1))
  led given is_given few =
      cond_both (is_used (table_entry last 1))
      (On (record { base = c.base; at = c.base + (table_entry last 1).first; given = given; read = c.read + 1 })) End To
      (λ on. record {
        e = s.e;
        is_extended = s.is_extended;
        base = s.base;
        are = are_grown;
        links = all_more links_on chain last s.links on;
        at = ap (λ (n : ℕ). n + (table_entry last 1).first) s.base ∙ sym (sector_after s.e.first s.e.first chain last);
        given = sym is_given;
        read = ap (λ (n : ℕ). n + 1) s.read ∙ sym (length-append chain (last ∷ []));
      })
      (λ off. Ended main grown s.e refl are_grown (not_primary k near.logical) s.is_extended
      (lacks s.e.first grown k (omega (arith, is_given, few))) (not_all links_on chain last off))

  below : (c.given ≡ k - 5 → ⊥) → c.given + 1 ≤ k - 5
  below other = omega (arith, other, near.given)

  passed : To (passes_by k c (table_entry last 0) (table_entry last 1))
  passed =
      cond_both (is_used (table_entry last 0)) (cond (nat_eq c.given (k - 5)) gave (leads c (c.given + 1) (table_entry last 1)))
      (leads c c.given (table_entry last 1)) To
      (λ used. cond_both (nat_eq c.given (k - 5)) gave (leads c (c.given + 1) (table_entry last 1)) To
      (λ at. found used (eqb-true c.given (k - 5) at))
      (λ other. led (c.given + 1) (counts used) (below (eqb-false c.given (k - 5) other))))
      (λ unused. led c.given (counts_none unused) near.given)

-- ---- a turn

pub turn_read : (k : ℕ) (main : List ℕ) (c : Chain) (chain : List (List ℕ)) (table : List TableEntry) (link : Link)
    (old new : SourceState) → IsNear k c → c.read < 128 → ReadsTable c.at (Ok table) old new → link ≡ link_past k c table
    → Turns k main c chain (Ok link) old new
turn_read k main c chain table link old new near more t is = λ s.
    let at = next_stands k main c chain near more s in
    let last : List ℕ = t.as_.0 in
    let after : chain ++ records_of t.reads ≡ chain ++ last ∷ [] = one_after chain c.at t.reads last t.as_.1 in
    let comes : passes_by k c (table_entry last 0) (table_entry last 1) ≡ link = ap (link_past k c) (sym t.as_.3) ∙ sym is in
    record {
      reads = t.reads;
      gained = t.gained;
      next = read_next k (main ∷ chain) c.at at t.reads (Ok table) t.as_;
      to = subst (λ (rs : List (List ℕ)). TurnsTo k main rs (Ok link)) (sym after)
          (subst (λ (l : Link). TurnsTo k main (chain ++ last ∷ []) (Ok l)) comes
          (passed k main c chain last near s t.as_.2));
    }

pub turn_stopped : (k : ℕ) (main : List ℕ) (c : Chain) (chain : List (List ℕ)) (e : SearchStop)
    (old new : SourceState) → IsNear k c → c.read < 128 → ReadsTable c.at (Err e) old new
    → Turns k main c chain (Err e) old new
turn_stopped k main c chain e old new near more t = λ s.
    let at = next_stands k main c chain near more s in
    record {
      reads = t.reads;
      gained = t.gained;
      next = read_next k (main ∷ chain) c.at at t.reads (Err e) t.as_;
      to = stop_answers k (main ∷ chain) c.at at t.reads e t.as_;
    }

-- ---- the search by turns

-- how far a search has come after the first record: it leads on
pub record Searching (k : ℕ) (main : List ℕ) (c : Chain) (old new : SourceState) : Type 0 where
  pub reads : List Reading
  pub gained : Gained reads old new
  pub next : AreNext k (main ∷ []) reads
  pub stands : StandsAfter main c (records_of reads)

pub search_begun : (k : ℕ) (main : List ℕ) (base : ℕ) (s : SourceState) → LeadsToChain main base
    → Searching k main (record { base = base; at = base; given = 0; read = 0 }) s s
search_begun k main base s led = record {
  reads = [];
  gained = gained_none s s (λ tells. refl);
  next = tt;
  stands = record {
    e = led.e;
    is_extended = led.is_extended;
    base = sym led.base_is;
    are = led.are;
    links = refl;
    at = sym led.base_is;
    given = refl;
    read = refl;
  };
}

-- what the reads so far and one turn make together
record Joined (k : ℕ) (main : List ℕ) (xs ys : List Reading) (old new : SourceState) : Type 0 where
  gained : Gained (xs ++ ys) old new
  next : AreNext k (main ∷ []) (xs ++ ys)
  records : records_of (xs ++ ys) ≡ records_of xs ++ records_of ys

module _ (k : ℕ) (main : List ℕ) (c : Chain) (old mid new : SourceState) (stays : Stays old mid)
    (so_far : Searching k main c old mid) where
  joined : (result : Result Link SearchStop) (t : TookRecord k main (records_of so_far.reads) result mid new)
      → Joined k main so_far.reads t.reads old new
  joined result t = record {
    gained = gained_more so_far.reads t.reads old mid new stays.keeps.tells stays.keeps.bytes so_far.gained t.gained;
    next = next_more k (main ∷ []) so_far.reads t.reads so_far.next t.next;
    records = records_more so_far.reads t.reads;
  }

  pub search_on : (n : Chain) → Turns k main c (records_of so_far.reads) (Ok (On n)) mid new
      → Searching k main n old new
  search_on n turns =
      let t = turns so_far.stands in
      let j = joined (Ok (On n)) t in
      record {
        reads = so_far.reads ++ t.reads;
        gained = j.gained;
        next = j.next;
        stands = subst (StandsAfter main n) (sym j.records) t.to;
      }

  pub search_found : (p : Partition) → Turns k main c (records_of so_far.reads) (Ok (Found p)) mid new
      → Searched k (main ∷ []) (Ok p) old new
  search_found p turns =
      let t = turns so_far.stands in
      let j = joined (Ok (Found p)) t in
      record {
        reads = so_far.reads ++ t.reads;
        gained = j.gained;
        next = j.next;
        to = subst (λ (rs : List (List ℕ)). partition_of (main ∷ rs) k ≡ Some p) (sym j.records) t.to;
      }

  pub search_ended : Turns k main c (records_of so_far.reads) (Ok End) mid new
      → Searched k (main ∷ []) (Err (Refused NoPartition)) old new
  search_ended turns =
      let t = turns so_far.stands in
      let j = joined (Ok End) t in
      record {
        reads = so_far.reads ++ t.reads;
        gained = j.gained;
        next = j.next;
        to = subst (λ (rs : List (List ℕ)). RefusedBy NoPartition k (main ∷ rs)) (sym j.records) t.to;
      }

  pub search_stopped : (e : SearchStop) → Turns k main c (records_of so_far.reads) (Err e) mid new
      → Searched k (main ∷ []) (Err e) old new
  search_stopped e turns =
      let t = turns so_far.stands in
      let j = joined (Err e) t in
      record {
        reads = so_far.reads ++ t.reads;
        gained = j.gained;
        next = j.next;
        to = subst (λ (rs : List (List ℕ)). StoppedBy e k (main ∷ rs)) (sym j.records) t.to;
      }

-- as many records were read as may be
pub search_full : (k : ℕ) (main : List ℕ) (c : Chain) (old new : SourceState) → IsNear k c → 128 ≤ c.read
    → Searching k main c old new → Searched k (main ∷ []) (Err (Refused ChainTooLong)) old new
search_full k main c old new near full so_far =
    let s = so_far.stands in
    record {
      reads = so_far.reads;
      gained = so_far.gained;
      next = so_far.next;
      to = record {
        main = main;
        chain = records_of so_far.reads;
        e = s.e;
        are = refl;
        readable = s.are;
        logical = not_primary k near.logical;
        is_extended = s.is_extended;
        lacking = lacks s.e.first (records_of so_far.reads) k (omega (arith, s.given, near.given));
        links = s.links;
        full = omega (arith, s.read, near.read, full);
      };
    }
