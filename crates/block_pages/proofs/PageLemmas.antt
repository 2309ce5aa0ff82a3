-- The blocks of a page as their begins, their statuses and the end of the last.
use Rattle.std.specs.List.{slice_get}
use Rattle.std.specs.List.Sorted.{IsNonDecreasingBy}
use Rattle.std.proofs.Common.{◌≡◌, ℕ, zero, suc, ◌+◌, ◌-◌, ◌<◌, ◌≤◌, List, [], ◌∷◌, ◌++◌, Some, length, take, drop, get_or, slice_range, refl, subst, arith, ap, sym, ◌∙◌}
use Rattle.std.proofs.lemmas.List.{drop-drop, length-drop, length-map, map-append, take-map, drop-map}
use Rattle.std.proofs.lemmas.List.Edits.{length-between}
use Rattle.std.proofs.Math.ListN.{get_or-map}
use Rattle.block_list.specs.declared.block.Block.{Block}
use Rattle.block_list.specs.declared.status.Status.{Status}
use Rattle.block_list.specs.Tiling.{AreTiles}
use Rattle.plain_blocks.proofs.EditLemmas.{no_block}
use Rattle.block_pages.specs.declared.page.Page.TheInside.{Inside}
use Rattle.block_pages.specs.declared.page.KeptStatus.{KeptStatus}
use Rattle.block_pages.specs.Rows.{first_or, rows, statuses_of, rows_of, IsPage, AreRow}
use Rattle.block_pages.specs.Search.{IsSearched}
use Rattle.block_pages.proofs.SearchLemmas.{block_begins}

pub rows_length : (ps : List ℕ) (ss : List Status) (end : ℕ) → length ss ≡ length ps → length (rows ps ss end) ≡ length ps
rows_length [] ss end e = refl
rows_length (p ∷ ps) [] end e = absurd (omega arith)
rows_length (p ∷ ps) (s ∷ ss) end e = ap suc (rows_length ps ss end (omega arith))

-- one more block after the last, which ends where it begins
pub rows_push : (low top : ℕ) (ps : List ℕ) (ss : List Status) (end : ℕ) (b : Block) → length ss ≡ length ps
    → AreTiles low (rows ps ss end ++ b ∷ []) top
    → rows (ps ++ b.pos ∷ []) (ss ++ b.status ∷ []) (b.pos + b.size) ≡ rows ps ss end ++ b ∷ []
rows_push low top [] [] end b e t =
    ap (λ n. record { pos = b.pos; size = n; status = b.status } ∷ []) (omega arith)
rows_push low top [] (s ∷ ss) end b e t = absurd (omega arith)
rows_push low top (p ∷ ps) [] end b e t = absurd (omega arith)
rows_push low top (p ∷ []) (s ∷ []) end b e t =
    let z : b.pos ≡ end = omega (arith, t.0, t.1, t.2.0) in
    let n : b.pos + b.size - b.pos ≡ b.size = omega arith in
    ap (λ q. record { pos = p; size = q - p; status = s } ∷ record { pos = b.pos; size = b.pos + b.size - b.pos; status = b.status } ∷ []) z
    ∙ ap (λ q. record { pos = p; size = end - p; status = s } ∷ record { pos = b.pos; size = q; status = b.status } ∷ []) n
rows_push low top (p ∷ []) (s ∷ t ∷ ss) end b e u = absurd (omega arith)
rows_push low top (p ∷ q ∷ ps) (s ∷ []) end b e u = absurd (omega arith)
rows_push low top (p ∷ q ∷ ps) (s ∷ t ∷ ss) end b e u =
    ap (λ r. record { pos = p; size = q - p; status = s } ∷ r)
    (rows_push (low + (q - p)) top (q ∷ ps) (t ∷ ss) end b (omega arith) u.2)

-- a part of a page
pub rows_drop : (ps : List ℕ) (ss : List Status) (end i : ℕ) → length ss ≡ length ps
    → drop i (rows ps ss end) ≡ rows (drop i ps) (drop i ss) end
rows_drop ps ss end zero e = refl
rows_drop [] ss end (suc i) e = refl
rows_drop (p ∷ ps) [] end (suc i) e = absurd (omega arith)
rows_drop (p ∷ ps) (s ∷ ss) end (suc i) e = rows_drop ps ss end i (omega arith)

first_taken : (ps : List ℕ) (end n : ℕ) → first_or (take n ps) (first_or (drop n ps) end) ≡ first_or ps end
first_taken ps end zero = refl
first_taken [] end (suc n) = refl
first_taken (p ∷ ps) end (suc n) = refl

rows_take : (ps : List ℕ) (ss : List Status) (end n : ℕ) → length ss ≡ length ps
    → take n (rows ps ss end) ≡ rows (take n ps) (take n ss) (first_or (drop n ps) end)
rows_take ps ss end zero e = refl
rows_take [] ss end (suc n) e = refl
rows_take (p ∷ ps) [] end (suc n) e = absurd (omega arith)
rows_take (p ∷ ps) (s ∷ ss) end (suc n) e =
    let b : ℕ → Block = λ x. record { pos = p; size = x - p; status = s } in
    ap (λ r. b (first_or ps end) ∷ r) (rows_take ps ss end n (omega arith))
    ∙ ap (λ x. b x ∷ rows (take n ps) (take n ss) (first_or (drop n ps) end)) (sym (first_taken ps end n))

pub rows_range : (ps : List ℕ) (ss : List Status) (end from to : ℕ) → length ss ≡ length ps → from ≤ to
    → slice_range (rows ps ss end) from to ≡ rows (slice_range ps from to) (slice_range ss from to) (first_or (drop to ps) end)
rows_range ps ss end from to e h =
    let n : ℕ = to - from in
    let z : from + n ≡ to = omega arith in
    ap (λ r. take n r) (rows_drop ps ss end from e)
    ∙ rows_take (drop from ps) (drop from ss) end n (omega (arith, length-drop from ps, length-drop from ss))
    ∙ ap (λ r. rows (slice_range ps from to) (slice_range ss from to) (first_or r end)) (drop-drop n from ps ∙ ap (λ x. drop x ps) z)

-- rows after others, of which the last ends where they begin
pub rows_join : (low top : ℕ) (ps : List ℕ) (ss : List Status) (end : ℕ) (qs : List ℕ) (ts : List Status) (last : ℕ)
    → length ss ≡ length ps → length ts ≡ length qs → 0 < length qs → AreTiles low (rows ps ss end ++ rows qs ts last) top
    → rows (ps ++ qs) (ss ++ ts) last ≡ rows ps ss end ++ rows qs ts last
rows_join low top [] [] end qs ts last e f h t = refl
rows_join low top [] (s ∷ ss) end qs ts last e f h t = absurd (omega arith)
rows_join low top (p ∷ ps) [] end qs ts last e f h t = absurd (omega arith)
rows_join low top (p ∷ []) (s ∷ []) end [] ts last e f h t = absurd (omega arith)
rows_join low top (p ∷ []) (s ∷ []) end (q ∷ qs) [] last e f h t = absurd (omega arith)
rows_join low top (p ∷ []) (s ∷ []) end (q ∷ qs) (u ∷ us) last e f h t =
    let z : q ≡ end = omega (arith, t.0, t.1, t.2.0) in
    ap (λ x. record { pos = p; size = x - p; status = s } ∷ rows (q ∷ qs) (u ∷ us) last) z
rows_join low top (p ∷ []) (s ∷ u ∷ ss) end qs ts last e f h t = absurd (omega arith)
rows_join low top (p ∷ q ∷ ps) (s ∷ []) end qs ts last e f h t = absurd (omega arith)
rows_join low top (p ∷ q ∷ ps) (s ∷ u ∷ ss) end qs ts last e f h t =
    ap (λ r. record { pos = p; size = q - p; status = s } ∷ r)
    (rows_join (low + (q - p)) top (q ∷ ps) (u ∷ ss) end qs ts last (omega arith) f h t.2)

-- a block by its index
pub rows_get : (ps : List ℕ) (ss : List Status) (end i : ℕ) (d : ℕ) (s : Status) → length ss ≡ length ps → i < length ps
    → slice_get (rows ps ss end) i
    ≡ Some (record { pos = get_or ps i d; size = first_or (drop (suc i) ps) end - get_or ps i d; status = get_or ss i s })
rows_get [] ss end i d s e h = absurd (omega arith)
rows_get (p ∷ ps) [] end i d s e h = absurd (omega arith)
rows_get (p ∷ ps) (z ∷ ss) end zero d s e h = refl
rows_get (p ∷ ps) (z ∷ ss) end (suc i) d s e h = rows_get ps ss end i d s (omega arith) (omega arith)

first_there : (ps : List ℕ) (end i d : ℕ) → i < length ps → first_or (drop i ps) end ≡ get_or ps i d
first_there [] end i d h = absurd (omega arith)
first_there (p ∷ ps) end zero d h = refl
first_there (p ∷ ps) end (suc i) d h = first_there ps end i d (omega arith)

first_none : (ps : List ℕ) (end i : ℕ) → length ps ≤ i → first_or (drop i ps) end ≡ end
first_none [] end zero h = refl
first_none [] end (suc i) h = refl
first_none (p ∷ ps) end zero h = absurd (omega arith)
first_none (p ∷ ps) end (suc i) h = first_none ps end i (omega arith)

-- where blocks begin
pub rows_begin : (ps : List ℕ) (ss : List Status) (end i d : ℕ) (b : Block) → length ss ≡ length ps → i < length ps
    → (get_or (rows ps ss end) i b).pos ≡ get_or ps i d
rows_begin [] ss end i d b e h = absurd (omega arith)
rows_begin (p ∷ ps) [] end i d b e h = absurd (omega arith)
rows_begin (p ∷ ps) (z ∷ ss) end zero d b e h = refl
rows_begin (p ∷ ps) (z ∷ ss) end (suc i) d b e h = rows_begin ps ss end i d b (omega arith) (omega arith)

-- which status blocks have
pub rows_status : (ps : List ℕ) (ss : List Status) (end i : ℕ) (b : Block) (s : Status) → length ss ≡ length ps → i < length ps
    → (get_or (rows ps ss end) i b).status ≡ get_or ss i s
rows_status [] ss end i b s e h = absurd (omega arith)
rows_status (p ∷ ps) [] end i b s e h = absurd (omega arith)
rows_status (p ∷ ps) (z ∷ ss) end zero b s e h = refl
rows_status (p ∷ ps) (z ∷ ss) end (suc i) b s e h = rows_status ps ss end i b s (omega arith) (omega arith)

-- a search among begins is one among blocks
pub rising_rows : (ps : List ℕ) (ss : List Status) (end : ℕ) → length ss ≡ length ps
    → IsNonDecreasingBy block_begins (rows ps ss end) → IsNonDecreasingBy (λ (x : ℕ). x) ps
rising_rows ps ss end e h i j d l u =
    omega (
      arith,
      h i j no_block l (omega (arith, rows_length ps ss end e)),
      rows_begin ps ss end i d no_block e (omega arith),
      rows_begin ps ss end j d no_block e u,
    )

pub searched_rows : (ps : List ℕ) (ss : List Status) (end at n : ℕ) → length ss ≡ length ps
    → IsSearched (λ (x : ℕ). x) ps at n → IsSearched block_begins (rows ps ss end) at n
searched_rows ps ss end at n e s = record {
  within = omega (arith, s.within, rows_length ps ss end e);
  before = λ i d l. omega (arith, rows_begin ps ss end i 0 d e (omega (arith, s.within)), s.before i 0 l);
  past = λ i d l u.
      let v : i < length ps = omega (arith, rows_length ps ss end e) in
      omega (arith, rows_begin ps ss end i 0 d e v, s.past i 0 l v);
}

-- a page has a status for each begin
pub alike : (p : Inside) → IsPage p → length (statuses_of p.statuses.items) ≡ length p.starts.items
alike p h = omega (arith, length-map p.statuses.items (λ (k : KeptStatus). k.status), h.alike)

-- a page with one more block
pub pushed : (ps : List ℕ) (ks : List KeptStatus) (end : ℕ) (b : Block) (self : List Block) → length (statuses_of ks) ≡ length ps
    → rows ps (statuses_of ks) end ≡ self → AreRow (self ++ b ∷ [])
    → rows (ps ++ b.pos ∷ []) (statuses_of (ks ++ record { status = b.status } ∷ [])) (b.pos + b.size) ≡ self ++ b ∷ []
pushed ps ks end b self e v r =
    let t : AreTiles r.low (rows ps (statuses_of ks) end ++ b ∷ []) r.end = rw v r.tiled in
    ap (λ ss. rows (ps ++ b.pos ∷ []) ss (b.pos + b.size)) (map-append (λ (k : KeptStatus). k.status) ks (record { status = b.status } ∷ []))
    ∙ rows_push r.low r.end ps (statuses_of ks) end b e t
    ∙ ap (λ bs. bs ++ b ∷ []) v

pub page_size : (p : Inside) (self : List Block) → rows_of p ≡ self → IsPage p → length self ≡ length p.starts.items
page_size p self v h = ap length (sym v) ∙ rows_length p.starts.items (statuses_of p.statuses.items) p.end (alike p h)

-- a block of a page
pub page_block : (p : Inside) (self : List Block) (i pos size : ℕ) (s : Status) (d : ℕ) (k : KeptStatus) → rows_of p ≡ self → IsPage p
    → i < length p.starts.items → pos ≡ get_or p.starts.items i d
    → size ≡ first_or (drop (i + 1) p.starts.items) p.end - pos → s ≡ (get_or p.statuses.items i k).status
    → slice_get self i ≡ Some (record { pos = pos; size = size; status = s })
page_block p self i pos size s d k v h l a b q =
    let ps : List ℕ = p.starts.items in
    let t : Status = get_or (statuses_of p.statuses.items) i k.status in
    let g = rows_get ps (statuses_of p.statuses.items) p.end i d k.status (alike p h) l in
    let m : t ≡ (get_or p.statuses.items i k).status = get_or-map (λ (x : KeptStatus). x.status) p.statuses.items i k in
    let z : suc i ≡ i + 1 = omega arith in
    let n : first_or (drop (suc i) ps) p.end - pos ≡ size = ap (λ x. first_or (drop x ps) p.end - pos) z ∙ sym b in
    ap (λ r. slice_get r i) (sym v) ∙ g
    ∙ ap (λ x. Some (record { pos = x; size = first_or (drop (suc i) ps) p.end - x; status = t })) (sym a)
    ∙ ap (λ x. Some (record { pos = pos; size = x; status = t })) n
    ∙ ap (λ x. Some (record { pos = pos; size = size; status = x })) (m ∙ sym q)

-- the status of a block of a page
pub page_status : (p : Inside) (self : List Block) (i : ℕ) (s : Status) (k : KeptStatus) → rows_of p ≡ self → IsPage p
    → i < length p.starts.items → s ≡ (get_or p.statuses.items i k).status → (d : Block) → s ≡ (get_or self i d).status
page_status p self i s k v h l q d =
    let t = rows_status p.starts.items (statuses_of p.statuses.items) p.end i d k.status (alike p h) l in
    let m : get_or (statuses_of p.statuses.items) i k.status ≡ (get_or p.statuses.items i k).status =
    get_or-map (λ (x : KeptStatus). x.status) p.statuses.items i k in
    q ∙ sym m ∙ sym t ∙ ap (λ (bs : List Block). (get_or bs i d).status) v

pub first_end : (ps : List ℕ) (end i d : ℕ) → i + 1 < length ps → get_or ps (i + 1) d ≡ first_or (drop (i + 1) ps) end
first_end ps end i d h = sym (first_there ps end (i + 1) d h)

pub last_end : (ps : List ℕ) (end i : ℕ) → length ps ≤ i + 1 → end ≡ first_or (drop (i + 1) ps) end
last_end ps end i h = sym (first_none ps end (i + 1) h)

-- a page with some blocks of another after its own
pub copied_rows : (own other : Inside) (self page : List Block) (from to : ℕ) (xs : List ℕ) (ks : List KeptStatus) (end : ℕ)
    → rows_of own ≡ self → IsPage own → rows_of other ≡ page → IsPage other → from < to → to ≤ length page
    → xs ≡ other.starts.items → ks ≡ other.statuses.items → end ≡ first_or (drop to other.starts.items) other.end
    → AreRow (self ++ slice_range page from to)
    → rows (own.starts.items ++ slice_range xs from to) (statuses_of (own.statuses.items ++ slice_range ks from to)) end
    ≡ self ++ slice_range page from to
copied_rows own other self page from to xs ks end u h v k l w xe ke ee r =
    let f : KeptStatus → Status = λ (x : KeptStatus). x.status in
    let ps : List ℕ = own.starts.items in
    let ss : List Status = statuses_of own.statuses.items in
    let qs : List ℕ = slice_range other.starts.items from to in
    let ts : List Status = slice_range (statuses_of other.statuses.items) from to in
    let last : ℕ = first_or (drop to other.starts.items) other.end in
    let size = page_size other page v k in
    let a : statuses_of (own.statuses.items ++ slice_range other.statuses.items from to) ≡ ss ++ ts =
    map-append f own.statuses.items (slice_range other.statuses.items from to)
    ∙ ap (λ z. ss ++ z) (sym (take-map f (to - from) (drop from other.statuses.items))
    ∙ ap (λ z. take (to - from) z) (sym (drop-map f from other.statuses.items))) in
    let b : slice_range page from to ≡ rows qs ts last =
    ap (λ z. slice_range z from to) (sym v)
    ∙ rows_range other.starts.items (statuses_of other.statuses.items) other.end from to (alike other k) (omega arith) in
    let c : self ++ slice_range page from to ≡ rows ps ss own.end ++ rows qs ts last =
    ap (λ z. z ++ slice_range page from to) (sym u) ∙ ap (λ z. rows ps ss own.end ++ z) b in
    let n : length qs ≡ to - from = length-between other.starts.items from to (omega arith) in
    let m : length ts ≡ to - from = length-between (statuses_of other.statuses.items) from to (omega (arith, alike other k)) in
    let t : AreTiles r.low (rows ps ss own.end ++ rows qs ts last) r.end = subst (λ (z : List Block). AreTiles r.low z r.end) c r.tiled in
    rw (xe, ke, ee, a)
    (rows_join r.low r.end ps ss own.end qs ts last (alike own h) (omega arith) (omega arith) t ∙ sym c)
