-- How much a search looks at.
use Rattle.std.proofs.Common.{◌≡◌, ℕ, zero, suc, ◌+◌, ◌-◌, ◌*◌, ◌/◌, ◌<◌, ◌≤◌, ◌^◌, List, length, get_or, arith, ⊎_elim}
use Rattle.std.proofs.lemmas.Bool.{cases_lt}
use Rattle.block_list.specs.declared.block.Block.{Block}
use Rattle.block_pages.specs.declared.page_entry.PageEntry.{PageEntry}
use Rattle.block_pages.proofs.HalvingLemmas.{below_power}
use Rattle.paged_blocks.specs.Walks.{IsWalk}
use Rattle.paged_blocks.specs.Paging.{blocks_of, flat, before, IsPaging, AreHalfFull}
use Rattle.paged_blocks.proofs.PagingLemmas.{no_entry, before_more, before_all}
use Rattle.paged_blocks.proofs.RefillLemmas.{long_at}

-- pages have at least 32 blocks each
pub half_between : (pages : List (List Block)) (es : List PageEntry) (i n : ℕ) → IsPaging pages es → AreHalfFull es
    → 1 < length es → i + n ≤ length es → before pages es i + 32 * n ≤ before pages es (i + n)
half_between pages es i zero p f h l = let z : i + zero ≡ i = omega arith in rw z (omega arith)
half_between pages es i (suc n) p f h l =
    let z : i + suc n ≡ i + n + 1 = omega arith in
    let v : i + n < length es = omega arith in
    rw z (omega (
      arith,
      half_between pages es i n p f h (omega arith),
      before_more pages es (i + n) no_entry v,
      (p.each (i + n) no_entry v).len,
      long_at es (i + n) no_entry (f.half h) v,
    ))

-- two pages have their blocks, and each of the others at least 32
pub two_pages : (pages : List (List Block)) (es : List PageEntry) (k m : ℕ) (e : PageEntry) → IsPaging pages es → AreHalfFull es
    → k < m → m < length es
    → 32 * (length es - 2) + length (blocks_of pages (get_or es k e)) + length (blocks_of pages (get_or es m e))
    ≤ length (flat pages es)
two_pages pages es k m e p f h l =
    let u : 1 < length es = omega arith in
    let a : k + 1 + (m - (k + 1)) ≡ m = omega arith in
    let b : m + 1 + (length es - (m + 1)) ≡ length es = omega arith in
    let z : 0 + k ≡ k = omega arith in
    omega (
      arith,
      rw z at (half_between pages es 0 k p f u (omega arith)),
      before_more pages es k e (omega arith),
      rw a at (half_between pages es (k + 1) (m - (k + 1)) p f u (omega arith)),
      before_more pages es m e l,
      rw b at (half_between pages es (m + 1) (length es - (m + 1)) p f u (omega arith)),
      before_all pages es (length es) (omega arith),
    )

pub two_pages_down : (pages : List (List Block)) (es : List PageEntry) (k m : ℕ) (e : PageEntry) → IsPaging pages es
    → AreHalfFull es → m < k → k < length es
    → 32 * (length es - 2) + length (blocks_of pages (get_or es k e)) + length (blocks_of pages (get_or es m e))
    ≤ length (flat pages es)
two_pages_down pages es k m e p f h l = omega (arith, two_pages pages es m k e p f h l)

pub one_page : (pages : List (List Block)) (es : List PageEntry) → IsPaging pages es → AreHalfFull es → 1 < length es
    → 32 * length es ≤ length (flat pages es)
one_page pages es p f u =
    let z : 0 + length es ≡ length es = omega arith in
    omega (arith, rw z at (half_between pages es 0 (length es) p f u (omega arith)), before_all pages es (length es) (omega arith))

-- what a search costs that looks into one page, and one that looks into two
pub looks_one : (entries total old found new : ℕ) → 0 < entries → (1 < entries → 32 * entries ≤ total)
    → ((n : ℕ) → entries ≤ 2 ^ n → found ≤ old + n + 7) → new ≤ found + 1 + 65 + (entries - 1)
    → new ≤ old + total / 16 + 130
looks_one entries total old found new h f c l =
    let e : entries - 1 + 1 ≡ entries = omega arith in
    let a : found ≤ old + (entries - 1) + 7 = c (entries - 1) (omega (arith, below_power (entries - 1))) in
    ⊎_elim (λ (u : 1 < entries). omega (arith, f u, a)) (λ (u : entries ≤ 1). omega (arith, a)) (cases_lt 1 entries)

pub looks_two : (entries total old found left past new n m : ℕ) → 1 < entries → 32 * (entries - 2) + n + m ≤ total
    → ((n : ℕ) → entries ≤ 2 ^ n → found ≤ old + n + 7) → n ≤ 64 → left < found + 1 + n → past ≤ left + (entries - 1)
    → IsWalk past new m → new ≤ old + total / 16 + 130
looks_two entries total old found left past new n m h f c b v l w =
    let a : found ≤ old + (entries - 1) + 7 = c (entries - 1) (omega (arith, below_power (entries - 1))) in
    omega (arith, a, w.within, w.few)
