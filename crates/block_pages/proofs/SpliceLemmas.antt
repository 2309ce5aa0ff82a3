-- Blocks that come in the place of others of a page.
use Rattle.std.specs.List.{slice_get}
use Rattle.std.proofs.Common.{◌≡◌, ℕ, zero, suc, ◌+◌, ◌-◌, ◌<◌, ◌≤◌, ◌^◌, List, [], ◌∷◌, ◌++◌, Some, length, map, take, drop, set, get_or, append_assoc, append-nil, length-append, refl, arith, ap, sym, subst, ◌∙◌, ⊎_elim}
use Rattle.std.proofs.lemmas.Bool.{cases_lt}
use Rattle.std.proofs.lemmas.List.{drop_more, set_at, take_at, take-append-drop, length_push, length-set, map-set, length-map, length-take-le, length-drop, map-append, take-map, drop-map, take_all, drop_all}
use Rattle.std.proofs.lemmas.Option.{slice_get_within}
use Rattle.block_list.specs.declared.block.Block.{Block}
use Rattle.block_list.specs.declared.status.Status.{Status}
use Rattle.block_list.specs.Tiling.{AreTiles}
use Rattle.block_list.proofs.TileLemmas.{tiles_split}
use Rattle.block_pages.specs.declared.page.Page.TheInside.{Inside}
use Rattle.block_pages.specs.declared.page.KeptStatus.{KeptStatus}
use Rattle.block_pages.specs.Splice.{spliced}
use Rattle.block_pages.specs.Rows.{rows, statuses_of, rows_of, IsPage, AreRow}
use Rattle.block_pages.proofs.RangeLemmas.{front_more}
use Rattle.block_pages.proofs.PageLemmas.{rows_drop, rows_length, alike}
use Rattle.block_pages.proofs.RowLemmas.{pushed_short, row_added, row_split}

-- what a block's begin and its status are
abbrev pub begin_of : Block → ℕ
begin_of b = b.pos

abbrev pub status_of : Block → Status
status_of b = b.status

-- a list with others in the place of as many of its own, from an index on
abbrev pub put_over : {A : Type 0} → List A → ℕ → List A → List A
put_over xs from ys = take from xs ++ ys ++ drop (from + length ys) xs

-- where the last of some blocks ends, or an end if there is none
abbrev pub end_or : List Block → ℕ → ℕ
end_or [] end = end
end_or (b ∷ bs) end = end_or bs (b.pos + b.size)

end_push : (bs : List Block) (b : Block) (end : ℕ) → end_or (bs ++ b ∷ []) end ≡ b.pos + b.size
end_push [] b end = refl
end_push (c ∷ bs) b end = end_push bs b (c.pos + c.size)

end_tiles : (low top end : ℕ) (bs : List Block) → 0 < length bs → AreTiles low bs top → top ≡ end_or bs end
end_tiles low top end [] h t = absurd (omega arith)
end_tiles low top end (b ∷ []) h t = omega (arith, t.0, t.2)
end_tiles low top end (b ∷ c ∷ bs) h t = end_tiles (low + b.size) top (b.pos + b.size) (c ∷ bs) (omega arith) t.2

-- rows end where the last one is to
rows_end : (low top : ℕ) (ps : List ℕ) (ss : List Status) (end : ℕ) → length ss ≡ length ps → 0 < length ps
    → AreTiles low (rows ps ss end) top → top ≡ end
rows_end low top [] ss end e h t = absurd (omega arith)
rows_end low top (p ∷ ps) [] end e h t = absurd (omega arith)
rows_end low top (p ∷ []) (s ∷ []) end e h t = omega (arith, t.0, t.1, t.2)
rows_end low top (p ∷ []) (s ∷ u ∷ ss) end e h t = absurd (omega arith)
rows_end low top (p ∷ q ∷ ps) (s ∷ []) end e h t = absurd (omega arith)
rows_end low top (p ∷ q ∷ ps) (s ∷ u ∷ ss) end e h t =
    rows_end (low + (q - p)) top (q ∷ ps) (u ∷ ss) end (omega arith) (omega arith) t.2

-- blocks are the rows of their begins and statuses
rows_own : (low top end : ℕ) (bs : List Block) → (0 < length bs → end ≡ top) → AreTiles low bs top
    → rows (map begin_of bs) (map status_of bs) end ≡ bs
rows_own low top end [] h t = refl
rows_own low top end (b ∷ []) h t =
    let z : end ≡ top = h (omega arith) in
    let n : end - b.pos ≡ b.size = omega (arith, t.0, t.2) in
    ap (λ x. record { pos = b.pos; size = x; status = b.status } ∷ []) n
rows_own low top end (b ∷ c ∷ bs) h t =
    let n : c.pos - b.pos ≡ b.size = omega (arith, t.0, t.2.0) in
    let back : List Block = rows (map begin_of (c ∷ bs)) (map status_of (c ∷ bs)) end in
    ap (λ x. record { pos = b.pos; size = x; status = b.status } ∷ back) n
    ∙ ap (λ r. b ∷ r) (rows_own (low + b.size) top end (c ∷ bs) (λ _. h (omega arith)) t.2)

rows_begins : (ps : List ℕ) (ss : List Status) (end : ℕ) → length ss ≡ length ps → map begin_of (rows ps ss end) ≡ ps
rows_begins [] ss end e = refl
rows_begins (p ∷ ps) [] end e = absurd (omega arith)
rows_begins (p ∷ ps) (s ∷ ss) end e = ap (λ r. p ∷ r) (rows_begins ps ss end (omega arith))

rows_statuses : (ps : List ℕ) (ss : List Status) (end : ℕ) → length ss ≡ length ps → map status_of (rows ps ss end) ≡ ss
rows_statuses [] [] end e = refl
rows_statuses [] (s ∷ ss) end e = absurd (omega arith)
rows_statuses (p ∷ ps) [] end e = absurd (omega arith)
rows_statuses (p ∷ ps) (s ∷ ss) end e = ap (λ r. s ∷ r) (rows_statuses ps ss end (omega arith))

over_map : {A : Type 0} (f : Block → A) (xs ys : List Block) (from : ℕ)
    → put_over (map f xs) from (map f ys) ≡ map f (put_over xs from ys)
over_map f xs ys from =
    let k : ℕ = from + length ys in
    ap (λ n. take from (map f xs) ++ map f ys ++ drop (from + n) (map f xs)) (length-map ys f)
    ∙ ap (λ r. r ++ map f ys ++ drop k (map f xs)) (take-map f from xs)
    ∙ ap (λ r. map f (take from xs) ++ map f ys ++ r) (drop-map f k xs)
    ∙ ap (λ r. r ++ map f (drop k xs)) (sym (map-append f (take from xs) ys))
    ∙ sym (map-append f (take from xs ++ ys) (drop k xs))

-- one more that was put over
over_push : {A : Type 0} (xs ys : List A) (from : ℕ) (y : A) → from + length ys < length xs
    → set (put_over xs from ys) (from + length ys) y ≡ put_over xs from (ys ++ y ∷ [])
over_push xs ys from y h =
    let k : ℕ = from + length ys in
    let front : List _ = take from xs ++ ys in
    let n : length front ≡ k =
    length-append (take from xs) ys ∙ ap (λ m. m + length ys) (length-take-le from xs (omega arith)) in
    let z : k + 1 ≡ from + length (ys ++ y ∷ []) = omega (arith, length_push ys y) in
    ap (λ r. set (front ++ r) k y) (drop_more xs k y h)
    ∙ set_at front (get_or xs k y) (drop (k + 1) xs) y k n
    ∙ ap (λ m. front ++ y ∷ drop m xs) z
    ∙ simp append_assoc

over_more : {A : Type 0} (f : Block → A) (xs now : List A) (from i : ℕ) (new : List Block) (b : Block)
    → from + length new ≤ length xs → slice_get new i ≡ Some b → now ≡ put_over xs from (map f (take i new))
    → set now (from + i) (f b) ≡ put_over xs from (map f (take (i + 1) new))
over_more f xs now from i new b h g q =
    let l : i < length new = slice_get_within new i b g in
    let n : length (map f (take i new)) ≡ i = length-map (take i new) f ∙ length-take-le i new (omega arith) in
    ap (λ r. set r (from + i) (f b)) q
    ∙ ap (λ m. set (put_over xs from (map f (take i new))) (from + m) (f b)) (sym n)
    ∙ over_push xs (map f (take i new)) from (f b) (omega arith)
    ∙ ap (λ r. put_over xs from r) (sym (map-append f (take i new) (b ∷ [])) ∙ ap (λ r. map f r) (front_more new i b g))

-- q is the page p with blocks put over as many others, from an index on
pub record IsPutOver (p q : Inside) (from : ℕ) (new : List Block) : Type 0 where
  pub starts : q.starts.items ≡ put_over p.starts.items from (map begin_of new)
  pub statuses : statuses_of q.statuses.items ≡ put_over (statuses_of p.statuses.items) from (map status_of new)
  pub fits : length q.starts.items ≡ length p.starts.items
  pub alike : length q.statuses.items ≡ length q.starts.items
  pub before : from + length new < length p.starts.items → q.end ≡ p.end
  pub past : length p.starts.items ≤ from + length new → q.end ≡ end_or new p.end

nothing_over : {A : Type 0} (xs : List A) (from : ℕ) → xs ≡ put_over xs from []
nothing_over xs from =
    let z : from + 0 ≡ from = omega arith in
    sym (ap (λ r. r ++ drop (from + 0) xs) (append-nil (take from xs))
    ∙ ap (λ n. take from xs ++ drop n xs) z
    ∙ take-append-drop from xs)

pub none_over : (p : Inside) (from : ℕ) → IsPage p → IsPutOver p p from []
none_over p from k = record {
  starts = nothing_over p.starts.items from;
  statuses = nothing_over (statuses_of p.statuses.items) from;
  fits = refl;
  alike = k.alike;
  before = λ _. refl;
  past = λ _. refl;
}

-- what a list is after a write of it as a slice
pub written : {A : Type 0} (xs read : List A) (k : ℕ) (y : A) → read ≡ xs
    → take (length xs) (set read k y ++ drop (length (set read k y)) xs) ≡ set xs k y
written xs read k y e =
    take_at (set read k y) (drop (length (set read k y)) xs) (length xs) (length-set read k y ∙ ap length e)
    ∙ ap (λ r. set r k y) e

pub block_over : (p q r : Inside) (from i : ℕ) (new : List Block) (b : Block) → IsPage p
    → from + length new ≤ length p.starts.items → slice_get new i ≡ Some b → IsPutOver p q from (take i new)
    → r.starts.items ≡ set q.starts.items (from + i) b.pos
    → r.statuses.items ≡ set q.statuses.items (from + i) (record { status = b.status })
    → (from + i + 1 < length p.starts.items → r.end ≡ q.end)
    → (length p.starts.items ≤ from + i + 1 → r.end ≡ b.pos + b.size)
    → IsPutOver p r from (take (i + 1) new)
block_over p q r from i new b k w g o starts statuses before past =
    let f : KeptStatus → Status = λ (x : KeptStatus). x.status in
    let l : i < length new = slice_get_within new i b g in
    let n : length (take i new) ≡ i = length-take-le i new (omega arith) in
    let m : length (take (i + 1) new) ≡ i + 1 = length-take-le (i + 1) new (omega arith) in
    record {
      starts = starts ∙ over_more begin_of p.starts.items q.starts.items from i new b w g o.starts;
      statuses = ap statuses_of statuses
          ∙ map-set f q.statuses.items (from + i) (record { status = b.status })
          ∙ over_more status_of (statuses_of p.statuses.items) (statuses_of q.statuses.items) from i new b
          (omega (arith, w, alike p k)) g o.statuses;
      fits = ap length starts ∙ length-set q.starts.items (from + i) b.pos ∙ o.fits;
      alike = ap length statuses ∙ length-set q.statuses.items (from + i) (record { status = b.status }) ∙ o.alike
          ∙ sym (ap length starts ∙ length-set q.starts.items (from + i) b.pos);
      before = λ h. before (omega arith) ∙ o.before (omega arith);
      past = λ h. past (omega arith)
          ∙ sym (ap (λ x. end_or x p.end) (sym (front_more new i b g)) ∙ end_push (take i new) b p.end);
    }

-- a block that comes ends before the positions do
pub new_short : (front new back : List Block) (i : ℕ) (b : Block) → AreRow (front ++ new ++ back)
    → slice_get new i ≡ Some b → b.pos + b.size < 2 ^ 63
new_short front new back i b r g =
    let middle : AreRow new = (row_split front new (row_split (front ++ new) back r).0).1 in
    pushed_short (take i new) b (row_added [] new (take i new) i b middle g refl)

-- the last of the blocks that were put over others ends where it is kept to
over_last : (low top : ℕ) (front new : List Block) (ps : List ℕ) (ss : List Status) (end : ℕ) → length ss ≡ length ps
    → (length new ≡ 0 → front ≡ rows ps ss end) → AreTiles low (front ++ new) top → 0 < length (front ++ new)
    → top ≡ end_or new end
over_last low top front [] ps ss end e f t h =
    let z : front ++ [] ≡ rows ps ss end = append-nil front ∙ f refl in
    let n : 0 < length ps = omega (arith, ap length z, rows_length ps ss end e, h) in
    rows_end low top ps ss end e n (subst (λ r. AreTiles low r top) z t)
over_last low top front (b ∷ bs) ps ss end e f t h =
    end_tiles _ top end (b ∷ bs) (omega arith) (tiles_split low front (b ∷ bs) top t).back

over_end : (low top : ℕ) (ps : List ℕ) (ss : List Status) (end last from : ℕ) (new : List Block) → length ss ≡ length ps
    → from + length new ≤ length ps → AreTiles low (put_over (rows ps ss end) from new) top
    → (from + length new < length ps → last ≡ end) → (length ps ≤ from + length new → last ≡ end_or new end)
    → 0 < length (put_over (rows ps ss end) from new) → last ≡ top
over_end low top ps ss end last from new e w t before past h =
    let bs : List Block = rows ps ss end in
    let k : ℕ = from + length new in
    let n = rows_length ps ss end e in
    ⊎_elim
    (λ (l : k < length ps).
    let back = (tiles_split low (take from bs ++ new) (drop k bs) top t).back in
    before l
    ∙ sym (rows_end _ top (drop k ps) (drop k ss) end (omega (arith, length-drop k ps, length-drop k ss))
    (omega (arith, length-drop k ps)) (rw (rows_drop ps ss end k e) at back)))
    (λ (l : length ps ≤ k).
    let z : put_over bs from new ≡ take from bs ++ new =
    ap (λ r. take from bs ++ new ++ r) (drop_all k bs (omega arith)) ∙ append-nil (take from bs ++ new) in
    past l
    ∙ sym (over_last low top (take from bs) new ps ss end e (λ y. take_all from bs (omega arith))
    (subst (λ r. AreTiles low r top) z t) (omega (arith, ap length z, h))))
    (cases_lt k (length ps))

pub overwritten : (p q : Inside) (self new : List Block) (from : ℕ) → rows_of p ≡ self → IsPage p
    → from + length new ≤ length self → AreRow (spliced self from (from + length new) new) → IsPutOver p q from new
    → rows_of q ≡ spliced self from (from + length new) new
overwritten p q self new from v k w r o =
    let ps : List ℕ = p.starts.items in
    let ss : List Status = statuses_of p.statuses.items in
    let e = alike p k in
    let bs : List Block = put_over self from new in
    let a : q.starts.items ≡ map begin_of bs =
    o.starts
    ∙ ap (λ x. put_over x from (map begin_of new)) (sym (rows_begins ps ss p.end e) ∙ ap (λ x. map begin_of x) v)
    ∙ over_map begin_of self new from in
    let b : statuses_of q.statuses.items ≡ map status_of bs =
    o.statuses
    ∙ ap (λ x. put_over x from (map status_of new)) (sym (rows_statuses ps ss p.end e) ∙ ap (λ x. map status_of x) v)
    ∙ over_map status_of self new from in
    let t : AreTiles r.low (put_over (rows ps ss p.end) from new) r.end = rw v r.tiled in
    let fits : from + length new ≤ length ps = omega (arith, ap length v, rows_length ps ss p.end e, w) in
    let last : 0 < length bs → q.end ≡ r.end =
    λ h. over_end r.low r.end ps ss p.end q.end from new e fits t o.before o.past (rw v h) in
    rw (a, b) (rows_own r.low r.end q.end bs last r.tiled)

-- the first of the blocks after an edit
pub begins_new : (bs new : List Block) (from to : ℕ) (b d : Block) → from ≡ 0 → slice_get new 0 ≡ Some b
    → (get_or (spliced bs from to new) 0 d).pos ≡ b.pos
begins_new bs [] from to b d e g = cc
begins_new bs (n ∷ new) zero to b d e g = cc
begins_new bs (n ∷ new) (suc from) to b d e g = absurd (omega arith)

pub begins_old : (bs new : List Block) (from to : ℕ) (d : Block) → 0 < from → from ≤ length bs
    → get_or (spliced bs from to new) 0 d ≡ get_or bs 0 d
begins_old [] new from to d h w = absurd (omega arith)
begins_old (b ∷ bs) new zero to d h w = absurd (omega arith)
begins_old (b ∷ bs) new (suc from) to d h w = refl
