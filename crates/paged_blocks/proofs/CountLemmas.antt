-- How many positions of all pages have a status.
use Rattle.std.specs.List.{flat_map}
use Rattle.std.proofs.Common.{◌≡◌, ℕ, ◌+◌, ◌<◌, ◌≤◌, List, [], ◌∷◌, ◌++◌, length, take, drop, get_or, append-nil, arith, ap, ◌∙◌}
use Rattle.std.proofs.lemmas.List.{take-append-drop, take_more, take_all}
use Rattle.std.proofs.lemmas.List.Sums.{count_by-le-length}
use Rattle.std.proofs.lemmas.Grind.{flat_map-append}
use Rattle.block_list.specs.declared.status.Status.{Status}
use Rattle.block_list.specs.declared.block.Block.{Block}
use Rattle.block_list.specs.Status.{same}
use Rattle.block_list.specs.Stretches.{covered}
use Rattle.block_pages.specs.declared.page_entry.PageEntry.{PageEntry}
use Rattle.block_pages.proofs.CountLemmas.{count_in, count_parts}
use Rattle.paged_blocks.specs.Paging.{blocks_of, flat}

-- how many positions of the first pages have a status
abbrev pub paged : List (List Block) → List PageEntry → Status → ℕ → ℕ
paged pages es s i = count_in s (flat pages (take i es))

pub paged_more : (pages : List (List Block)) (es : List PageEntry) (s : Status) (i : ℕ) (d : PageEntry) → i < length es
    → paged pages es s (i + 1) ≡ paged pages es s i + count_in s (blocks_of pages (get_or es i d))
paged_more pages es s i d h =
    let page : List Block = blocks_of pages (get_or es i d) in
    ap (λ r. count_in s (flat pages r)) (take_more es i d h)
    ∙ ap (λ r. count_in s r) (flat_map-append (blocks_of pages) (take i es) (get_or es i d ∷ []))
    ∙ count_parts s (flat pages (take i es)) (page ++ [])
    ∙ ap (λ r. paged pages es s i + count_in s r) (append-nil page)

pub paged_all : (pages : List (List Block)) (es : List PageEntry) (s : Status) (i : ℕ) → length es ≤ i
    → paged pages es s i ≡ count_in s (flat pages es)
paged_all pages es s i h = ap (λ r. count_in s (flat pages r)) (take_all i es h)

pub paged_end : (pages : List (List Block)) (es : List PageEntry) (s : Status) (i : ℕ)
    → paged pages es s i ≤ length (flat_map covered (flat pages es))
paged_end pages es s i =
    let front : List Block = flat pages (take i es) in
    let back : List Block = flat pages (drop i es) in
    let e = ap (λ r. count_in s (flat pages r)) (take-append-drop i es) in
    let f = ap (λ r. count_in s r) (flat_map-append (blocks_of pages) (take i es) (drop i es)) in
    omega (arith, e, f, count_parts s front back, count_by-le-length (λ z. same z s) (flat_map covered (flat pages es)))
