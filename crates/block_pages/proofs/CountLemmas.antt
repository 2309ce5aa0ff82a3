-- How many positions of some blocks have a status.
use Rattle.std.specs.List.{flat_map, count_by}
use Rattle.std.proofs.Common.{◌≡◌, ℕ, zero, suc, ◌+◌, ◌<◌, ◌≤◌, List, ◌++◌, length, take, drop, get_or, cond, arith, ap, sym, ◌∙◌, refl}
use Rattle.std.proofs.lemmas.List.{take-append-drop}
use Rattle.std.proofs.lemmas.List.Sums.{sum_by-append}
use Rattle.block_list.specs.declared.status.Status.{Status}
use Rattle.block_list.specs.declared.block.Block.{Block}
use Rattle.block_list.specs.Status.{same}
use Rattle.block_list.specs.Stretches.{covered}
use Rattle.block_list.proofs.TileLemmas.{covered-append}
use Rattle.plain_blocks.proofs.LookupLemmas.{counted, counted_yes, counted_no, counted_all}
use Rattle.plain_blocks.proofs.EditLemmas.{no_block}
use Rattle.block_pages.specs.Search.{HasNoneOf}

-- how many positions of some blocks have a status
abbrev pub count_in : Status → List Block → ℕ
count_in s bs = count_by (λ z. same z s) (flat_map covered bs)

pub count_parts : (s : Status) (xs ys : List Block) → count_in s (xs ++ ys) ≡ count_in s xs + count_in s ys
count_parts s xs ys =
    ap (λ r. count_by (λ z. same z s) r) (covered-append xs ys)
    ∙ sum_by-append (λ z. cond (same z s) 1 0) (flat_map covered xs) (flat_map covered ys)

-- where no position of some blocks has a status, no block has it
pub none_counted : (bs : List Block) (s : Status) (k : ℕ) (d : Block) → count_in s bs ≡ 0 → k < length bs
    → 0 < (get_or bs k d).size → (get_or bs k d).status ≡ s → ⊥
none_counted bs s k d z h l e =
    let c = counted_yes bs k s d h e in
    let p = ap (λ r. count_in s r) (take-append-drop (k + 1) bs) in
    let q = count_parts s (take (k + 1) bs) (drop (k + 1) bs) in
    omega (arith, c, p, q)

-- where no block has a status, no position of theirs has it
counted_to : (bs : List Block) (s : Status) (n : ℕ) → n ≤ length bs → HasNoneOf bs s 0 n → counted bs s n ≡ 0
counted_to bs s zero h o = refl
counted_to bs s (suc n) h o =
    let z : suc n ≡ n + 1 = omega arith in
    let l : n < length bs = omega arith in
    rw z (counted_no bs n s no_block l (o.none n no_block (omega arith) (omega arith))
    ∙ counted_to bs s n (omega arith) (record { none = λ i d u v e. o.none i d u (omega arith) e }))

pub counted_none : (bs : List Block) (s : Status) → HasNoneOf bs s 0 (length bs) → count_in s bs ≡ 0
counted_none bs s o = sym (counted_all bs (length bs) s (omega arith)) ∙ counted_to bs s (length bs) (omega arith) o
