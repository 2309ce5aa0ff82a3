-- How many positions some blocks have of each status, where others come and go.
use Rattle.std.specs.List.{flat_map, slice_get}
use Rattle.std.proofs.Common.{◌≡◌, ℕ, ◌+◌, ◌-◌, ◌≤◌, List, [], ◌∷◌, ◌++◌, length, take, drop, slice_range, Some, Bool, true, false, refl, inl, inr, ◌⊎◌, arith, ap, sym, ◌∙◌, ⊎_elim}
use Rattle.std.proofs.lemmas.List.{length_push, take-append-drop, take_all, take_at}
use Rattle.std.proofs.lemmas.Option.{get_or_from_slice_get, slice_get_within}
use Rattle.block_list.specs.declared.status.Status.{Status}
use Rattle.block_list.specs.declared.block.Block.{Block}
use Rattle.block_list.specs.Status.{same}
use Rattle.block_list.specs.Stretches.{covered}
use Rattle.block_list.proofs.StretchLemmas.{same_self, equal_from_same}
use Rattle.plain_blocks.proofs.LookupLemmas.{counted_yes, counted_no, counted_end}
use Rattle.block_list.proofs.Places.{slice_get-append_right}
use Rattle.block_pages.specs.declared.status_counts.StatusCounts.{StatusCounts}
use Rattle.block_pages.specs.Tally.{tallied}
use Rattle.block_pages.specs.Splice.{spliced}
use Rattle.block_pages.proofs.CountLemmas.{count_in, count_parts}
use Rattle.block_pages.proofs.RangeLemmas.{range_more, part_short, take_on}

status_cases : (s t : Status) → (s ≡ t) ⊎ (s ≡ t → ⊥)
status_cases s t =
    let k : (v : Bool) → same s t ≡ v → (s ≡ t) ⊎ (s ≡ t → ⊥) = λ v. elim v as (λ v. same s t ≡ v → (s ≡ t) ⊎ (s ≡ t → ⊥)) [
      | true ↦ λ e. inl (equal_from_same s t e)
      | false ↦ λ e. inr (λ q. let f : same s t ≡ true = rw (← q) (same_self s) in cc)
    ] in
    k (same s t) refl

-- a block more counts its positions for its status
pub tally_yes : (page : List Block) (i : ℕ) (b : Block) → slice_get page i ≡ Some b
    → count_in b.status (take (i + 1) page) ≡ count_in b.status (take i page) + b.size
tally_yes page i b r =
    let h = slice_get_within page i b r in
    let e = get_or_from_slice_get page i b b r in
    omega (arith, counted_yes page i b.status b h (ap (λ (y : Block). y.status) e), ap (λ (y : Block). y.size) e)

pub tally_no : (page : List Block) (i : ℕ) (b : Block) (s : Status) → slice_get page i ≡ Some b → (s ≡ b.status → ⊥)
    → count_in s (take (i + 1) page) ≡ count_in s (take i page)
tally_no page i b s r o =
    let e = get_or_from_slice_get page i b b r in
    counted_no page i s b (slice_get_within page i b r) (λ q. o (sym q ∙ ap (λ (y : Block). y.status) e))

pub tally_step : (page : List Block) (i : ℕ) (b : Block) (old new : StatusCounts) → slice_get page i ≡ Some b
    → ((s : Status) → tallied old s ≡ count_in s (take i page)) → tallied new b.status ≡ tallied old b.status + b.size
    → ((s : Status) → (s ≡ b.status → ⊥) → tallied new s ≡ tallied old s)
    → (s : Status) → tallied new s ≡ count_in s (take (i + 1) page)
tally_step page i b old new r all more others s =
    ⊎_elim (λ (q : s ≡ b.status). rw q (omega (arith, more, all b.status, tally_yes page i b r)))
    (λ (q : s ≡ b.status → ⊥). omega (arith, others s q, all s, tally_no page i b s r q))
    (status_cases s b.status)

pub tally_fits : (page : List Block) (i : ℕ) (b : Block) (old : StatusCounts) → slice_get page i ≡ Some b
    → ((s : Status) → tallied old s ≡ count_in s (take i page))
    → tallied old b.status + b.size ≤ length (flat_map covered page)
tally_fits page i b old r all = omega (arith, all b.status, tally_yes page i b r, counted_end page (i + 1) b.status)

last_read : (bs : List Block) (b : Block) → slice_get (bs ++ b ∷ []) (length bs) ≡ Some b
last_read bs b =
    let z : length bs - length bs ≡ 0 = omega arith in
    slice_get-append_right bs (b ∷ []) (length bs) (omega arith) ∙ ap (λ n. slice_get (b ∷ []) n) z

last_front : (bs : List Block) (b : Block) → take (length bs) (bs ++ b ∷ []) ≡ bs
last_front bs b = take_at bs (b ∷ []) (length bs) refl

-- a tally of some blocks, with one more counted
tally_push : (bs : List Block) (b : Block) (old new : StatusCounts) → ((s : Status) → tallied old s ≡ count_in s bs)
    → tallied new b.status ≡ tallied old b.status + b.size
    → ((s : Status) → (s ≡ b.status → ⊥) → tallied new s ≡ tallied old s)
    → (s : Status) → tallied new s ≡ count_in s (bs ++ b ∷ [])
tally_push bs b old new all more others s =
    let page : List Block = bs ++ b ∷ [] in
    let w : take (length bs + 1) page ≡ page = take_all (length bs + 1) page (omega (arith, length_push bs b)) in
    tally_step page (length bs) b old new (last_read bs b) (λ t. all t ∙ ap (λ r. count_in t r) (sym (last_front bs b))) more others s
    ∙ ap (λ r. count_in s r) w

push_fits : (bs : List Block) (b : Block) (old : StatusCounts) → ((s : Status) → tallied old s ≡ count_in s bs)
    → tallied old b.status + b.size ≤ length (flat_map covered (bs ++ b ∷ []))
push_fits bs b old all =
    tally_fits (bs ++ b ∷ []) (length bs) b old (last_read bs b) (λ t. all t ∙ ap (λ r. count_in t r) (sym (last_front bs b)))

-- a tally of the blocks from one index up to another, with the next one counted
pub range_tally : (bs : List Block) (from i : ℕ) (b : Block) (old new : StatusCounts) → from ≤ i → slice_get bs i ≡ Some b
    → ((s : Status) → tallied old s ≡ count_in s (slice_range bs from i))
    → tallied new b.status ≡ tallied old b.status + b.size
    → ((s : Status) → (s ≡ b.status → ⊥) → tallied new s ≡ tallied old s)
    → (s : Status) → tallied new s ≡ count_in s (slice_range bs from (i + 1))
range_tally bs from i b old new h r all more others s =
    tally_push (slice_range bs from i) b old new all more others s ∙ ap (λ x. count_in s x) (range_more bs from i b h r)

pub range_fits : (bs : List Block) (from i : ℕ) (b : Block) (old : StatusCounts) → from ≤ i → slice_get bs i ≡ Some b
    → ((s : Status) → tallied old s ≡ count_in s (slice_range bs from i))
    → tallied old b.status + b.size ≤ length (flat_map covered bs)
range_fits bs from i b old h r all =
    omega (
      arith,
      push_fits (slice_range bs from i) b old all,
      ap (λ x. length (flat_map covered x)) (range_more bs from i b h r),
      part_short bs from (i + 1),
    )

-- the blocks from one index up to another have some of the positions of all
pub count_range : (s : Status) (bs : List Block) (from to : ℕ) → from ≤ to
    → count_in s (slice_range bs from to) ≤ count_in s bs
count_range s bs from to h =
    omega (
      arith,
      ap (λ r. count_in s r) (take_on bs from to h),
      count_parts s (take from bs) (slice_range bs from to),
      ap (λ r. count_in s r) (take-append-drop to bs),
      count_parts s (take to bs) (drop to bs),
    )

-- where others come in their place
pub count_spliced : (s : Status) (bs : List Block) (from to : ℕ) (new : List Block) → from ≤ to
    → count_in s (spliced bs from to new) + count_in s (slice_range bs from to) ≡ count_in s bs + count_in s new
count_spliced s bs from to new h =
    omega (
      arith,
      count_parts s (take from bs ++ new) (drop to bs),
      count_parts s (take from bs) new,
      ap (λ r. count_in s r) (take_on bs from to h),
      count_parts s (take from bs) (slice_range bs from to),
      ap (λ r. count_in s r) (take-append-drop to bs),
      count_parts s (take to bs) (drop to bs),
    )
