-- One more record of a chain: what it adds, and when a chain goes on after records.
use Rattle.std.proofs.Common.{◌≡◌, ℕ, ◌-◌, ◌<◌, ◌≤◌, Bool, true, false, cond, not, ◌&&◌, nat_lt, List, [], ◌∷◌, ◌++◌, length, slice_get, Option, Some, None, refl, sym, ap, ◌∙◌, arith, append_assoc, append-nil}
use Rattle.std.specs.List.{list_all}
use Rattle.std.specs.Option.{option_and_then}
use Rattle.std.proofs.lemmas.Bool.{and_from, and_parts, and_right, cond-true, cond-false, le-leb, lt-ltb, lt-leb, ltb-true, not_from_false}
use Rattle.partition_domain.specs.declared.table.TableEntry.{TableEntry}
use Rattle.partition_domain.specs.declared.table.Partition.{Partition}
use Rattle.partition_domain.specs.Table.{extended_entry, is_protected, is_record}
use Rattle.partition_domain.specs.Chain.{chain_limit, given_by, given_from, linked, links_on, logical_partitions, next_in_chain, next_sector}
use Rattle.partition_domain.specs.Part.{are_records, chain_goes_on, is_lacking, is_primary, logical, next, next_of_chain, partition_of, primary}

-- ---- one more record

pub given_after : (base at : ℕ) (chain : List (List ℕ)) (r : List ℕ)
    → given_from base at (chain ++ r ∷ []) ≡ given_from base at chain ++ given_by (next_sector base at chain) r
given_after base at [] r = append-nil (given_by at r)
given_after base at (x ∷ chain) r =
    ap (λ (ps : List Partition). given_by at x ++ ps) (given_after base (linked base x) chain r)
    ∙ sym (append_assoc (given_by at x) (given_from base (linked base x) chain)
    (given_by (next_sector base (linked base x) chain) r))

pub sector_after : (base at : ℕ) (chain : List (List ℕ)) (r : List ℕ)
    → next_sector base at (chain ++ r ∷ []) ≡ linked base r
sector_after base at [] r = refl
sector_after base at (x ∷ chain) r = sector_after base (linked base x) chain r

pub all_more : (test : List ℕ → Bool) (chain : List (List ℕ)) (r : List ℕ) → list_all test chain ≡ true
    → test r ≡ true → list_all test (chain ++ r ∷ []) ≡ true
all_more test [] r all one = and_from (test r) true one refl
all_more test (x ∷ chain) r all one =
    let parts = and_parts (test x) (list_all test chain) all in
    and_from (test x) (list_all test (chain ++ r ∷ [])) parts.0 (all_more test chain r parts.1 one)

pub not_all : (test : List ℕ → Bool) (chain : List (List ℕ)) (r : List ℕ) → test r ≡ false
    → list_all test (chain ++ r ∷ []) ≡ false
not_all test [] r one = rw one refl
not_all test (x ∷ chain) r one = and_right (test x) (list_all test (chain ++ r ∷ [])) (not_all test chain r one)

pub are_more : (main : List ℕ) (chain : List (List ℕ)) (r : List ℕ) → are_records main chain ≡ true
    → is_record r ≡ true → are_records main (chain ++ r ∷ []) ≡ true
are_more main chain r are one =
    let front = is_record main && not (is_protected main) in
    let parts = and_parts front (list_all is_record chain) are in
    and_from front (list_all is_record (chain ++ r ∷ [])) parts.0 (all_more is_record chain r parts.1 one)

-- the item after a list
pub item_after : {X : Type 0} (xs : List X) (x : X) → slice_get (xs ++ x ∷ []) (length xs) ≡ Some x
item_after [] x = refl
item_after (y ∷ xs) x = item_after xs x

-- ---- what comes next

pub not_primary : (k : ℕ) → 5 ≤ k → is_primary k ≡ false
not_primary k low = lt-leb k 4 (omega (arith, low))

pub lacks : (base : ℕ) (chain : List (List ℕ)) (k : ℕ) → length (logical_partitions base chain) ≤ k - 5
    → is_lacking base chain k ≡ true
lacks base chain k few = le-leb (length (logical_partitions base chain)) (k - 5) few

-- the record after a chain that goes on
pub next_on : (main : List ℕ) (chain : List (List ℕ)) (k : ℕ) (e : TableEntry) → are_records main chain ≡ true
    → is_primary k ≡ false → extended_entry main ≡ Some e → list_all links_on chain ≡ true
    → is_lacking e.first chain k ≡ true → length chain < 128
    → next (main ∷ chain) k ≡ Some (next_in_chain e.first chain)
next_on main chain k e are logical is links lacking short =
    let short_is = lt-ltb (length chain) chain_limit short in
    let goes = and_from (list_all links_on chain && is_lacking e.first chain k) (nat_lt (length chain) chain_limit)
    (and_from (list_all links_on chain) (is_lacking e.first chain k) links lacking) short_is in
    cond-true (are_records main chain && not (is_primary k))
    (option_and_then (λ (e : TableEntry). next_of_chain e.first chain k) (extended_entry main)) None
    (and_from (are_records main chain) (not (is_primary k)) are (not_from_false (is_primary k) logical))
    ∙ ap (λ (o : Option TableEntry). option_and_then (λ (e : TableEntry). next_of_chain e.first chain k) o) is
    ∙ cond-true (chain_goes_on e.first chain k) (Some (next_in_chain e.first chain)) None goes

-- the partition that a chain gives
pub part_on : (main : List ℕ) (chain : List (List ℕ)) (k : ℕ) (e : TableEntry) (p : Partition)
    → are_records main chain ≡ true → is_primary k ≡ false → extended_entry main ≡ Some e
    → slice_get (logical_partitions e.first chain) (k - 5) ≡ Some p → partition_of (main ∷ chain) k ≡ Some p
part_on main chain k e p are logical_is is at =
    let of = option_and_then (λ (e : TableEntry). logical e.first chain k) (extended_entry main) in
    cond-true (are_records main chain) (cond (is_primary k) (primary main k) of) None are
    ∙ cond-false (is_primary k) (primary main k) of logical_is
    ∙ ap (λ (o : Option TableEntry). option_and_then (λ (e : TableEntry). logical e.first chain k) o) is ∙ at

-- ---- how many records there are in front of one

by_cond : (b : Bool) (x : Option ℕ) (s : ℕ) → cond b x None ≡ Some s → (b ≡ true) × (x ≡ Some s)
by_cond true x s is = (refl, is)
by_cond false x s is = absurd (cc)

limit_of : (chain : List (List ℕ)) (k s : ℕ) (o : Option TableEntry)
    → option_and_then (λ e. next_of_chain e.first chain k) o ≡ Some s → length chain < chain_limit
limit_of chain k s None is = absurd (cc)
limit_of chain k s (Some e) is =
    let on = by_cond (chain_goes_on e.first chain k) (Some (next_in_chain e.first chain)) s is in
    let parts = and_parts (list_all links_on chain && is_lacking e.first chain k) (nat_lt (length chain) chain_limit)
    on.0 in
    ltb-true (length chain) chain_limit parts.1

pub next_short : (records : List (List ℕ)) (k s : ℕ) → next records k ≡ Some s → length records ≤ 128
next_short [] k s is = omega arith
next_short (main ∷ chain) k s is =
    let on = by_cond (are_records main chain && not (is_primary k))
    (option_and_then (λ e. next_of_chain e.first chain k) (extended_entry main)) s is in
    let short = limit_of chain k s (extended_entry main) on.1 in
    omega (arith, short)
