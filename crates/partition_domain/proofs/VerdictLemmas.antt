-- A disk brings one answer at most: records bring one at most, after them nothing is read, and so the same was read.
use Rattle.std.proofs.Common.{◌≡◌, ◌⊎◌, ℕ, zero, suc, ◌-◌, ◌≤◌, Bool, true, false, cond, not, ◌&&◌, nat_le, nat_lt, List, [], ◌∷◌, ◌++◌, length, slice_get, Option, Some, None, is_some, refl, sym, ap, ◌∙◌, inl, inr, subst, arith, append_assoc, append-nil, length-append}
use Rattle.std.specs.List.{list_all}
use Rattle.std.specs.Option.{option_and_then}
use Rattle.std.proofs.lemmas.Bool.{and_from, and_left, and_parts, and_right, both_ways, cond_both, cond-true, cond-false, false_from_ne_true, le-ltb, leb-true, ne_eqb, not-true}
use Rattle.faulty_source.specs.Journal.{Reading}
use Rattle.partition_domain.specs.declared.table.TableEntry.{TableEntry}
use Rattle.partition_domain.specs.declared.table.Partition.{Partition}
use Rattle.partition_domain.specs.declared.stop.Refusal.{Refusal}
use Rattle.partition_domain.specs.declared.stop.Refusal.TheVariants.{Unread, NoSignature, Protective, NoPartition, ChainTooLong}
use Rattle.partition_domain.specs.Table.{extended_entry, has_signature, is_protected, is_record, is_whole_sector}
use Rattle.partition_domain.specs.Chain.{chain_limit, links_on, logical_partitions, next_in_chain}
use Rattle.partition_domain.specs.Part.{are_records, chain_goes_on, is_lacking, is_primary, logical, next, next_of_chain, partition_of, primary}
use Rattle.partition_domain.specs.Reads.{AreNext, Brings, Ended, HasPart, IsLastRecord, IsDiskProtected, IsSectorRead, IsChainTooLong, IsUnread, LacksPartition, LacksSignature, Unextended, Unused, records_of}
use Rattle.partition_domain.specs.Laws.{AreGivenBy, HasOneAnswer}
use Rattle.partition_domain.proofs.ChainLemmas.{not_all}

-- ---- records that are records

-- the first of several holds, of a condition that chooses something
chosen : {A : Type 0} (b : Bool) (x : Option A) (y : A) → cond b x None ≡ Some y → (b ≡ true) × (x ≡ Some y)
chosen true x y is = (refl, is)
chosen false x y is = absurd (cc)

are_all : (main : List ℕ) (chain : List (List ℕ)) → are_records main chain ≡ true
    → list_all is_record (main ∷ chain) ≡ true
are_all main chain are =
    let parts = and_parts (is_record main && not (is_protected main)) (list_all is_record chain) are in
    let front = and_parts (is_record main) (not (is_protected main)) parts.0 in
    and_from (is_record main) (list_all is_record chain) front.0 parts.1

unprotected : (main : List ℕ) (chain : List (List ℕ)) → are_records main chain ≡ true → is_protected main ≡ false
unprotected main chain are =
    let parts = and_parts (is_record main && not (is_protected main)) (list_all is_record chain) are in
    not-true (is_protected main) (and_parts (is_record main) (not (is_protected main)) parts.0).1

-- ---- the answers after records that are records

-- the partition is found
abbrev found : Option Refusal
found = None

-- what they bring, and that nothing is read after them
record Is (e : Option Refusal) (k : ℕ) (records : List (List ℕ)) (brought : Option Refusal) : Type 0 where
  all : list_all is_record records ≡ true
  is : e ≡ brought
  ends : next records k ≡ None

-- the chain is as long as any that is read, by its links, and there is one
abbrev is_long : (main : List ℕ) (chain : List (List ℕ)) (k : ℕ) → Bool
is_long main chain k = list_all links_on chain && not (is_primary k) && is_some (extended_entry main)

abbrev brought_by : (k : ℕ) → List (List ℕ) → Option Refusal
brought_by k [] = found
brought_by k (main ∷ chain) =
    cond (is_protected main) (Some Protective)
    (cond (is_some (partition_of (main ∷ chain) k)) found (cond (is_long main chain k) (Some ChainTooLong) (Some NoPartition)))

-- that of these records
abbrev IsOf : Option Refusal → (k : ℕ) → List (List ℕ) → Type 0
IsOf e k records = Is e k records (brought_by k records)

module _ (k : ℕ) (main : List ℕ) (chain : List (List ℕ)) where
  abbrev part : Option Partition
  part = partition_of (main ∷ chain) k

  abbrev of_chain : Option Partition
  of_chain = option_and_then (λ (e : TableEntry). logical e.first chain k) (extended_entry main)

  abbrev next_chain : Option ℕ
  next_chain = option_and_then (λ (e : TableEntry). next_of_chain e.first chain k) (extended_entry main)

  stops_primary : is_primary k ≡ true → next (main ∷ chain) k ≡ None
  stops_primary p =
      cond-false (are_records main chain && not (is_primary k)) next_chain None
      (and_right (are_records main chain) (not (is_primary k)) (ap not p))

  stops_chain : next_chain ≡ None → next (main ∷ chain) k ≡ None
  stops_chain none =
      cond_both (are_records main chain && not (is_primary k)) next_chain None (λ (o : Option ℕ). o ≡ None)
      (λ on. none) (λ off. refl)

  stops_extended : (e : TableEntry) → extended_entry main ≡ Some e → chain_goes_on e.first chain k ≡ false
      → next (main ∷ chain) k ≡ None
  stops_extended e is off = stops_chain
      (ap (λ (o : Option TableEntry). option_and_then (λ (e : TableEntry). next_of_chain e.first chain k) o) is
      ∙ cond-false (chain_goes_on e.first chain k) (Some (next_in_chain e.first chain)) None off)

  module _ (are : are_records main chain ≡ true) where
    rest_is : part ≡ cond (is_primary k) (primary main k) of_chain
    rest_is = cond-true (are_records main chain) (cond (is_primary k) (primary main k) of_chain) None are

    primary_is : is_primary k ≡ true → part ≡ primary main k
    primary_is p = rest_is ∙ cond-true (is_primary k) (primary main k) of_chain p

    logical_is : is_primary k ≡ false → part ≡ of_chain
    logical_is p = rest_is ∙ cond-false (is_primary k) (primary main k) of_chain p

    of_extended : (e : TableEntry) → is_primary k ≡ false → extended_entry main ≡ Some e
        → part ≡ slice_get (logical_partitions e.first chain) (k - 5)
    of_extended e p is =
        logical_is p ∙ ap (λ (o : Option TableEntry). option_and_then (λ (e : TableEntry). logical e.first chain k) o) is

    open_is : brought_by k (main ∷ chain)
        ≡ cond (is_some part) found (cond (is_long main chain k) (Some ChainTooLong) (Some NoPartition))
    open_is =
        cond-false (is_protected main) (Some Protective)
        (cond (is_some part) found (cond (is_long main chain k) (Some ChainTooLong) (Some NoPartition)))
        (unprotected main chain are)

    lacking_is : part ≡ None
        → brought_by k (main ∷ chain) ≡ cond (is_long main chain k) (Some ChainTooLong) (Some NoPartition)
    lacking_is none =
        open_is ∙ cond-false (is_some part) found (cond (is_long main chain k) (Some ChainTooLong) (Some NoPartition))
        (ap is_some none)

    short_is : part ≡ None → is_long main chain k ≡ false → next (main ∷ chain) k ≡ None
        → IsOf (Some NoPartition) k (main ∷ chain)
    short_is none short ends = record {
      all = are_all main chain are;
      is = sym (lacking_is none ∙ cond-false (is_long main chain k) (Some ChainTooLong) (Some NoPartition) short);
      ends = ends;
    }

    long_is : part ≡ None → is_long main chain k ≡ true → next (main ∷ chain) k ≡ None
        → IsOf (Some ChainTooLong) k (main ∷ chain)
    long_is none long ends = record {
      all = are_all main chain are;
      is = sym (lacking_is none ∙ cond-true (is_long main chain k) (Some ChainTooLong) (Some NoPartition) long);
      ends = ends;
    }

    found_is : (p : Partition) → part ≡ Some p → next (main ∷ chain) k ≡ None → IsOf found k (main ∷ chain)
    found_is p some ends = record {
      all = are_all main chain are;
      is = sym (open_is ∙ cond-true (is_some part) found (cond (is_long main chain k) (Some ChainTooLong) (Some NoPartition))
          (ap is_some some));
      ends = ends;
    }

-- nothing is past a list's end
past : (ps : List Partition) (n : ℕ) → length ps ≤ n → slice_get ps n ≡ None
past [] n few = refl
past (p ∷ ps) zero few = absurd (omega (arith, few))
past (p ∷ ps) (suc n) few = past ps n (omega (arith, few))

none_there : (base : ℕ) (chain : List (List ℕ)) (k : ℕ) → is_lacking base chain k ≡ true
    → slice_get (logical_partitions base chain) (k - 5) ≡ None
none_there base chain k lacking =
    past (logical_partitions base chain) (k - 5) (leb-true (length (logical_partitions base chain)) (k - 5) lacking)

not_none : (ps : List Partition) (n : ℕ) (p : Partition) → slice_get ps n ≡ Some p → nat_le (length ps) n ≡ false
not_none ps n p some =
    false_from_ne_true (nat_le (length ps) n)
    (λ few. let none : slice_get ps n ≡ None = past ps n (leb-true (length ps) n few) in
    let clash : None ≡ Some p = sym none ∙ some in absurd (cc))

-- the partition of a chain
chain_stops : (k : ℕ) (main : List ℕ) (chain : List (List ℕ)) (p : Partition) (o : Option TableEntry) → extended_entry main ≡ o
    → option_and_then (λ (e : TableEntry). logical e.first chain k) o ≡ Some p → next (main ∷ chain) k ≡ None
chain_stops k main chain p None is some = absurd (cc)
chain_stops k main chain p (Some e) is some =
    stops_extended k main chain e is
    (and_left (list_all links_on chain && is_lacking e.first chain k) (nat_lt (length chain) chain_limit)
    (and_right (list_all links_on chain) (is_lacking e.first chain k)
    (not_none (logical_partitions e.first chain) (k - 5) p some)))

part_stops : (k : ℕ) (main : List ℕ) (chain : List (List ℕ)) (p : Partition) (b : Bool) → is_primary k ≡ b
    → cond b (primary main k) (option_and_then (λ (e : TableEntry). logical e.first chain k) (extended_entry main)) ≡ Some p
    → next (main ∷ chain) k ≡ None
part_stops k main chain p true is some = stops_primary k main chain is
part_stops k main chain p false is some = chain_stops k main chain p (extended_entry main) refl some

done_is : (k : ℕ) (records : List (List ℕ)) → HasPart k records → IsOf found k records
done_is k [] h =
    let none : partition_of [] k ≡ Some (record { first = h.first; count = h.count }) = h.part in absurd (cc)
done_is k (main ∷ chain) h =
    let p : Partition = record { first = h.first; count = h.count } in
    let of = option_and_then (λ (e : TableEntry). logical e.first chain k) (extended_entry main) in
    let on = chosen (are_records main chain) (cond (is_primary k) (primary main k) of) p h.part in
    found_is k main chain on.0 p h.part (part_stops k main chain p (is_primary k) refl on.1)

protective_is : (k : ℕ) (records : List (List ℕ)) → IsDiskProtected records → IsOf (Some Protective) k records
protective_is k records h =
    let main = h.main in
    let refused : are_records main [] ≡ false =
    and_left (is_record main && not (is_protected main)) true
    (and_right (is_record main) (not (is_protected main)) (ap not h.protected)) in
    subst (λ (rs : List (List ℕ)). IsOf (Some Protective) k rs) (sym h.are) (record {
      all = and_from (is_record main) true h.readable refl;
      is = sym (cond-true (is_protected main) (Some Protective) _ h.protected);
      ends = cond-false (are_records main [] && not (is_primary k)) (next_chain k main []) None
          (and_left (are_records main []) (not (is_primary k)) refused);
    })

lacks_is : (k : ℕ) (records : List (List ℕ)) → LacksPartition k records → IsOf (Some NoPartition) k records
lacks_is k records (Unused main is are primary_k none) =
    let links = list_all links_on [] in
    subst (λ (rs : List (List ℕ)). IsOf (Some NoPartition) k rs) (sym is)
    (short_is k main [] are (primary_is k main [] are primary_k ∙ none)
    (and_left (links && not (is_primary k)) (is_some (extended_entry main))
    (and_right links (not (is_primary k)) (ap not primary_k)))
    (stops_primary k main [] primary_k))
lacks_is k records (Unextended main is are logical_k none) =
    subst (λ (rs : List (List ℕ)). IsOf (Some NoPartition) k rs) (sym is)
    (short_is k main [] are
    (logical_is k main [] are logical_k
    ∙ ap (λ (o : Option TableEntry). option_and_then (λ (e : TableEntry). logical e.first [] k) o) none)
    (and_right (list_all links_on [] && not (is_primary k)) (is_some (extended_entry main)) (ap is_some none))
    (stops_chain k main []
    (ap (λ (o : Option TableEntry). option_and_then (λ (e : TableEntry). next_of_chain e.first [] k) o) none)))
lacks_is k records (Ended main chain e is are logical_k found lacking unlinked) =
    let links = list_all links_on chain in
    subst (λ (rs : List (List ℕ)). IsOf (Some NoPartition) k rs) (sym is)
    (short_is k main chain are
    (of_extended k main chain are e logical_k found ∙ none_there e.first chain k lacking)
    (and_left (links && not (is_primary k)) (is_some (extended_entry main)) (and_left links (not (is_primary k)) unlinked))
    (stops_extended k main chain e found
    (and_left (links && is_lacking e.first chain k) (nat_lt (length chain) chain_limit)
    (and_left links (is_lacking e.first chain k) unlinked))))

long_chain_is : (k : ℕ) (records : List (List ℕ)) → IsChainTooLong k records → IsOf (Some ChainTooLong) k records
long_chain_is k records h =
    let chain = h.chain in
    let links = list_all links_on chain in
    subst (λ (rs : List (List ℕ)). IsOf (Some ChainTooLong) k rs) (sym h.are)
    (long_is k h.main chain h.readable
    (of_extended k h.main chain h.readable h.e h.logical h.is_extended ∙ none_there h.e.first chain k h.lacking)
    (and_from (links && not (is_primary k)) (is_some (extended_entry h.main))
    (and_from links (not (is_primary k)) h.links (ap not h.logical)) (ap is_some h.is_extended))
    (stops_extended k h.main chain h.e h.is_extended
    (and_right (links && is_lacking h.e.first chain k) (nat_lt (length chain) chain_limit)
    (le-ltb (length chain) chain_limit (omega (arith, h.full))))))

-- ---- the answers after a last record that isn't one

abbrev refusal : (sector : ℕ) → (last : List ℕ) → Option Refusal
refusal sector last = cond (is_whole_sector last) (Some (NoSignature sector)) (Some (Unread sector))

record IsRefusal (e : Option Refusal) (k : ℕ) (records : List (List ℕ)) : Type 0 where
  sector : ℕ
  last : List ℕ
  is_last : IsLastRecord k records sector last
  none : is_record last ≡ false
  is : e ≡ refusal sector last

unread_is : (k : ℕ) (records : List (List ℕ)) (sector : ℕ) → IsUnread k records sector
    → IsRefusal (Some (Unread sector)) k records
unread_is k records sector h =
    let short : is_whole_sector h.last ≡ false =
    ne_eqb (length h.last) 512 (λ same. omega (arith, same, h.short)) in
    record {
      sector = sector;
      last = h.last;
      is_last = h.is_last;
      none = and_left (is_whole_sector h.last) (has_signature h.last) short;
      is = sym (cond-false (is_whole_sector h.last) (Some (NoSignature sector)) (Some (Unread sector)) short);
    }

unsigned_is : (k : ℕ) (records : List (List ℕ)) (sector : ℕ) → LacksSignature k records sector
    → IsRefusal (Some (NoSignature sector)) k records
unsigned_is k records sector h = record {
  sector = sector;
  last = h.last;
  is_last = h.is_last;
  none = and_right (is_whole_sector h.last) (has_signature h.last) h.unsigned;
  is = sym (cond-true (is_whole_sector h.last) (Some (NoSignature sector)) (Some (Unread sector)) h.whole);
}

refused_is : (e : Option Refusal) (k : ℕ) (records : List (List ℕ)) → IsRefusal e k records
    → list_all is_record records ≡ false
refused_is e k records r =
    ap (λ (rs : List (List ℕ)). list_all is_record rs) r.is_last.are ∙ not_all is_record r.is_last.before r.last r.none

refused_ends : (k : ℕ) (records : List (List ℕ)) → list_all is_record records ≡ false → next records k ≡ None
refused_ends k [] none = absurd (cc)
refused_ends k (main ∷ chain) none =
    cond_both (are_records main chain && not (is_primary k)) (next_chain k main chain) None
    (λ (o : Option ℕ). o ≡ None)
    (λ on. absurd (both_ways (list_all is_record (main ∷ chain)) none
    (are_all main chain (and_parts (are_records main chain) (not (is_primary k)) on).0)))
    (λ off. refl)

snoc_same : (xs ys : List (List ℕ)) (x y : List ℕ) → xs ++ x ∷ [] ≡ ys ++ y ∷ [] → (xs ≡ ys) × (x ≡ y)
snoc_same [] [] x y e = (refl, cc)
snoc_same [] (b ∷ ys) x y e =
    let long = length-append ys (y ∷ []) in
    let same : length (x ∷ []) ≡ length (b ∷ (ys ++ y ∷ [])) = ap length e in
    absurd (omega (arith, long, same))
snoc_same (a ∷ xs) [] x y e =
    let long = length-append xs (x ∷ []) in
    let same : length (a ∷ (xs ++ x ∷ [])) ≡ length (y ∷ []) = ap length e in
    absurd (omega (arith, long, same))
snoc_same (a ∷ xs) (b ∷ ys) x y e =
    let heads : a ≡ b = cc in
    let tails : xs ++ x ∷ [] ≡ ys ++ y ∷ [] = cc in
    let rest = snoc_same xs ys x y tails in
    (ap (λ (z : List ℕ). z ∷ xs) heads ∙ ap (λ (zs : List (List ℕ)). b ∷ zs) rest.0, rest.1)

-- ---- one answer of the same records

abbrev Sorted : Option Refusal → (k : ℕ) → List (List ℕ) → Type 0
Sorted e k records = IsOf e k records ⊎ IsRefusal e k records

sorted : (o : Option Refusal) (k : ℕ) (records : List (List ℕ)) → Brings o k records → Sorted o k records
sorted None k records a = inl (done_is k records a)
sorted (Some (Unread sector)) k records a = inr (unread_is k records sector a)
sorted (Some (NoSignature sector)) k records a = inr (unsigned_is k records sector a)
sorted (Some Protective) k records a = inl (protective_is k records a)
sorted (Some NoPartition) k records a = inl (lacks_is k records a)
sorted (Some ChainTooLong) k records a = inl (long_chain_is k records a)

sorted_ends : (e : Option Refusal) (k : ℕ) (records : List (List ℕ)) → Sorted e k records → next records k ≡ None
sorted_ends e k records (inl a) = a.ends
sorted_ends e k records (inr r) = refused_ends k records (refused_is e k records r)

one_of : (k : ℕ) (records : List (List ℕ)) (e e' : Option Refusal) → Sorted e k records → Sorted e' k records → e ≡ e'
one_of k records e e' (inl a) (inl b) = a.is ∙ sym b.is
one_of k records e e' (inl a) (inr q) =
    absurd (both_ways (list_all is_record records) (refused_is e' k records q) a.all)
one_of k records e e' (inr r) (inl b) =
    absurd (both_ways (list_all is_record records) (refused_is e k records r) b.all)
one_of k records e e' (inr r) (inr q) =
    let same =
    snoc_same r.is_last.before q.is_last.before r.last q.last (sym r.is_last.are ∙ q.is_last.are) in
    let sectors : Some r.sector ≡ Some q.sector =
    sym r.is_last.sector_is ∙ ap (λ (rs : List (List ℕ)). next rs k) same.0 ∙ q.is_last.sector_is in
    let sector : r.sector ≡ q.sector = cc in
    r.is ∙ ap (λ (n : ℕ). refusal n r.last) sector ∙ ap (λ (l : List ℕ). refusal q.sector l) same.1 ∙ sym q.is

-- ---- the same records of one disk

same_pos : (o : Option ℕ) (x y : Reading) → IsSectorRead o x → IsSectorRead o y → x.pos ≡ y.pos
same_pos None x y a b = absurd a
same_pos (Some s) x y a b = a.0 ∙ sym b.0

module _ (k : ℕ) (disk : ℕ → List ℕ) where
  same_reads : (before : List (List ℕ)) (xs ys : List Reading) → AreNext k before xs → AreNext k before ys
      → AreGivenBy disk xs → AreGivenBy disk ys → next (before ++ records_of xs) k ≡ None
      → next (before ++ records_of ys) k ≡ None → records_of xs ≡ records_of ys
  same_reads before [] [] a b f g s t = refl
  same_reads before [] (y ∷ ys) a b f g s t =
      let none = ap (λ (rs : List (List ℕ)). next rs k) (sym (append-nil before)) ∙ s in
      absurd (subst (λ (o : Option ℕ). IsSectorRead o y) none b.0)
  same_reads before (x ∷ xs) [] a b f g s t =
      let none = ap (λ (rs : List (List ℕ)). next rs k) (sym (append-nil before)) ∙ t in
      absurd (subst (λ (o : Option ℕ). IsSectorRead o x) none a.0)
  same_reads before (x ∷ xs) (y ∷ ys) a b f g s t =
      let given : x.given ≡ y.given = f.0 ∙ ap disk (same_pos (next before k) x y a.0 b.0) ∙ sym g.0 in
      let rest =
      same_reads (before ++ x.given ∷ []) xs ys a.1
      (subst (λ (r : List ℕ). AreNext k (before ++ r ∷ []) ys) (sym given) b.1) f.1 g.1
      (ap (λ (rs : List (List ℕ)). next rs k) (append_assoc before (x.given ∷ []) (records_of xs)) ∙ s)
      (ap (λ (rs : List (List ℕ)). next rs k) (append_assoc before (x.given ∷ []) (records_of ys))
      ∙ ap (λ (r : List ℕ). next (before ++ r ∷ records_of ys) k) given ∙ t) in
      ap (λ (r : List ℕ). r ∷ records_of xs) given ∙ ap (λ (rs : List (List ℕ)). y.given ∷ rs) rest

pub has_one_answer : HasOneAnswer
has_one_answer k disk o o' reads reads' next next' f f' a a' =
    let so = sorted o k (records_of reads) a in
    let so' = sorted o' k (records_of reads') a' in
    let same =
    same_reads k disk [] reads reads' next next' f f' (sorted_ends o k (records_of reads) so)
    (sorted_ends o' k (records_of reads') so') in
    one_of k (records_of reads) o o' so (subst (λ (rs : List (List ℕ)). Sorted o' k rs) (sym same) so')
