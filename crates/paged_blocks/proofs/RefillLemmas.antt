-- Pages that are taken into use and set free, each named by one entry.
use Rattle.std.specs.List.{insert}
use Rattle.std.proofs.Common.{◌≡◌, ℕ, ◌+◌, ◌-◌, ◌*◌, ◌<◌, ◌≤◌, List, [], ◌∷◌, ◌++◌, length, take, drop, get_or, set, cond, nat_eq, nat_lt, Bool, true, false, All, refl, arith, ap, sym, ◌∙◌, append_assoc, append-nil, length-append, ⊎_elim, ◌⊎◌, inl, inr}
use Rattle.std.proofs.lemmas.Bool.{eq-eqb, ne_eqb, lt-ltb, le-ltb, cases_lt}
use Rattle.std.proofs.lemmas.List.{take-append-drop, take-set, drop-set, get_or_default, take_at, drop_at, length_push, length-set, length-take-le, length-drop, get_or-set_same, get_or-set_other, nil_from_length}
use Rattle.std.proofs.lemmas.List.Edits.{length-insert}
use Rattle.std.proofs.lemmas.List.Elements.{All-append, All-cons, All-take, All-drop, All-tail}
use Rattle.std.proofs.lemmas.List.Sums.{sum_by-cons, sum_by-append, sum_by_push, sum_by_more, sum_by-take-drop, get_or-le-sum_by, sum_by-insert}
use Rattle.std.proofs.lemmas.Grind.{flat_map-append}
use Rattle.block_list.specs.declared.block.Block.{Block}
use Rattle.block_pages.specs.declared.page_entry.PageEntry.{PageEntry}
use Rattle.block_pages.specs.PageEntries.{IsEntryOf}
use Rattle.paged_blocks.specs.Paging.{blocks_of, flat, AreHalfFull, IsEntry, IsRewritten, short_pages, naming, times_free, AreNumbered, AreFiled}

-- one for an entry that names a page, one for a number that is it, one for a short page
abbrev pub names : ℕ → PageEntry → ℕ
names n e = cond (nat_eq e.page n) 1 0

abbrev pub is_number : ℕ → ℕ → ℕ
is_number n m = cond (nat_eq m n) 1 0

abbrev pub is_short : PageEntry → ℕ
is_short e = cond (nat_lt e.len 32) 1 0

pub naming-append : (n : ℕ) (xs ys : List PageEntry) → naming n (xs ++ ys) ≡ naming n xs + naming n ys
naming-append n xs ys = sum_by-append (names n) xs ys

pub shorts-append : (xs ys : List PageEntry) → short_pages (xs ++ ys) ≡ short_pages xs + short_pages ys
shorts-append xs ys = sum_by-append is_short xs ys

pub naming-parts : (n : ℕ) (es : List PageEntry) (i : ℕ) → naming n (take i es) + naming n (drop i es) ≡ naming n es
naming-parts n es i = sum_by-take-drop (names n) es i

pub shorts-parts : (es : List PageEntry) (i : ℕ) → short_pages (take i es) + short_pages (drop i es) ≡ short_pages es
shorts-parts es i = sum_by-take-drop is_short es i

pub naming-push : (n : ℕ) (es : List PageEntry) (e : PageEntry) → naming n (es ++ e ∷ []) ≡ naming n es + names n e
naming-push n es e = sum_by_push (names n) es e

pub standing-push : (n : ℕ) (free : List ℕ) (m : ℕ) → times_free n (free ++ m ∷ []) ≡ times_free n free + is_number n m
standing-push n free m = sum_by_push (is_number n) free m

pub shorts-push : (es : List PageEntry) (e : PageEntry) → short_pages (es ++ e ∷ []) ≡ short_pages es + is_short e
shorts-push es e = sum_by_push is_short es e

-- a test counts for one at most
one_at_most : (b : Bool) → cond b 1 0 ≤ 1
one_at_most true = omega arith
one_at_most false = omega arith

pub names_one : (n : ℕ) (e : PageEntry) → names n e ≤ 1
names_one n e = one_at_most (nat_eq e.page n)

pub names_other : (n : ℕ) (e : PageEntry) → (e.page ≡ n → ⊥) → names n e ≡ 0
names_other n e o = ap (λ b. cond b 1 0) (ne_eqb e.page n o)

pub number_one : (n m : ℕ) → is_number n m ≤ 1
number_one n m = one_at_most (nat_eq m n)

pub other_number : (n m : ℕ) → (m ≡ n → ⊥) → is_number n m ≡ 0
other_number n m o = ap (λ b. cond b 1 0) (ne_eqb m n o)

pub is_long : (e : PageEntry) → 32 ≤ e.len → is_short e ≡ 0
is_long e l = ap (λ b. cond b 1 0) (le-ltb e.len 32 l)

is_itself : (n : ℕ) → is_number n n ≡ 1
is_itself n = ap (λ b. cond b 1 0) (eq-eqb n n refl)

-- none of the entries names the page
unnamed_at : (n : ℕ) (es : List PageEntry) (i : ℕ) (d : PageEntry) → naming n es ≡ 0 → i < length es → (get_or es i d).page ≡ n → ⊥
unnamed_at n es i d z h q =
    let one : names n (get_or es i d) ≡ 1 = ap (λ b. cond b 1 0) (eq-eqb (get_or es i d).page n q) in
    omega (arith, get_or-le-sum_by (names n) es i d h)

-- what such entries name stays where that page is written
written_flat : (pages : List (List Block)) (n : ℕ) (page : List Block) (es : List PageEntry) → naming n es ≡ 0
    → flat (set pages n page) es ≡ flat pages es
written_flat pages n page [] z = refl
written_flat pages n page (e ∷ es) z =
    let o = unnamed_at n (e ∷ es) 0 e z (omega arith) in
    let tail : naming n es ≡ 0 = omega (arith, sum_by-cons (names n) e es) in
    ap (λ r. r ++ flat (set pages n page) es) (get_or-set_other pages n e.page page [] o)
    ∙ ap (λ r. blocks_of pages e ++ r) (written_flat pages n page es tail)

-- an entry means the same where its page is the same
pub entry_same : (pages other : List (List Block)) (e : PageEntry) → length other ≡ length pages → blocks_of other e ≡ blocks_of pages e
    → IsEntry pages e → IsEntry other e
entry_same pages other e l q h = record {
  page = omega (arith, h.page);
  some = rw q h.some;
  len = rw q h.len;
  fits = rw q h.fits;
  begins = rw q h.begins;
  tally = rw q h.tally;
}

written_each : (pages : List (List Block)) (n : ℕ) (page : List Block) (es : List PageEntry) → naming n es ≡ 0
    → All (IsEntry pages) es → All (IsEntry (set pages n page)) es
written_each pages n page es z h i d l =
    entry_same pages (set pages n page) (get_or es i d) (length-set pages n page)
    (get_or-set_other pages n (get_or es i d).page page [] (unnamed_at n es i d z l)) (h i d l)

entry_written : (pages : List (List Block)) (n : ℕ) (page : List Block) (e : PageEntry) → n < length pages → 0 < length page
    → IsEntryOf page n e → IsEntry (set pages n page) e
entry_written pages n page e h s k =
    let q : blocks_of (set pages n page) e ≡ page =
    ap (λ i. get_or (set pages n page) i []) k.page ∙ get_or-set_same pages n page [] h in
    record {
      page = omega (arith, k.page, length-set pages n page);
      some = rw q s;
      len = rw q k.len;
      fits = rw q k.fits;
      begins = rw q k.begins;
      tally = rw q k.tally;
    }

-- a page was filed in front of the entry k
pub record IsPlaced (pages : List (List Block)) (es : List PageEntry) (k : ℕ) (page : List Block)
    (new : List (List Block)) (named : List PageEntry) (free : List ℕ) : Type 0 where
  pub filed : AreFiled new named free
  pub front : flat new (take (k + 1) named) ≡ flat pages (take k es) ++ page
  pub back : flat new (drop (k + 1) named) ≡ flat pages (drop k es)
  pub shorts : short_pages named ≤ short_pages es + 1
  pub half : 32 ≤ length page → short_pages named ≡ short_pages es

-- a free page's number stands nowhere else
pub record IsUnused (pages : List (List Block)) (es : List PageEntry) (rest : List ℕ) (n : ℕ) : Type 0 where
  pub there : n < length pages
  pub unnamed : naming n es ≡ 0

pub unused : (pages : List (List Block)) (es : List PageEntry) (free rest : List ℕ) (n : ℕ) → AreNumbered pages es free
    → free ≡ rest ++ n ∷ [] → IsUnused pages es rest n
unused pages es free rest n a q =
    let one : times_free n free ≡ times_free n rest + 1 =
    ap (λ r. times_free n r) q ∙ standing-push n rest n ∙ ap (λ x. times_free n rest + x) (is_itself n) in
    record {
      there = ⊎_elim (λ (l : n < length pages). l)
          (λ (l : length pages ≤ n). absurd (omega (arith, a.within n l))) (cases_lt n (length pages));
      unnamed = omega (arith, a.once n);
    }

placed_numbered : (pages : List (List Block)) (es : List PageEntry) (free rest : List ℕ) (n k : ℕ) (page : List Block) (e : PageEntry)
    → AreNumbered pages es free → free ≡ rest ++ n ∷ [] → k ≤ length es → e.page ≡ n
    → AreNumbered (set pages n page) (insert es k e) rest
placed_numbered pages es free rest n k page e a q l p =
    let same : (m : ℕ) → naming m (insert es k e) + times_free m rest ≡ naming m es + times_free m free =
    λ m.
    let z : times_free m free ≡ times_free m rest + is_number m n = ap (λ r. times_free m r) q ∙ standing-push m rest n in
    let w : names m e ≡ is_number m n = ap (λ i. is_number m i) p in
    omega (arith, sum_by-insert (names m) es k e) in
    record {
      once = λ m. omega (arith, same m, a.once m);
      within = λ m h. omega (arith, same m, a.within m (omega (arith, length-set pages n page)));
      all = omega (arith, length-insert es k e l, ap length q, length_push rest n, length-set pages n page, a.all);
    }

pub placed : (pages : List (List Block)) (es : List PageEntry) (free rest : List ℕ) (n k : ℕ) (page : List Block) (e : PageEntry)
    → AreFiled pages es free → free ≡ rest ++ n ∷ [] → k ≤ length es → 0 < length page → IsEntryOf page n e
    → IsPlaced pages es k page (set pages n page) (insert es k e) rest
placed pages es free rest n k page e a q l s h =
    let new : List (List Block) = set pages n page in
    let u = unused pages es free rest n a.numbered q in
    let front : List PageEntry = take k es in
    let back : List PageEntry = drop k es in
    let zf : naming n front ≡ 0 = omega (arith, naming-parts n es k, u.unnamed) in
    let zb : naming n back ≡ 0 = omega (arith, naming-parts n es k, u.unnamed) in
    let w : length (front ++ e ∷ []) ≡ k + 1 = omega (arith, length_push front e, length-take-le k es l) in
    let v : insert es k e ≡ (front ++ e ∷ []) ++ back = sym (append_assoc front (e ∷ []) back) in
    let own : blocks_of new e ≡ page = ap (λ i. get_or new i []) h.page ∙ get_or-set_same pages n page [] u.there in
    let ins : short_pages (insert es k e) ≡ short_pages es + is_short e = sum_by-insert is_short es k e in
    record {
      filed = record {
        each = All-append (IsEntry new) front (e ∷ back)
            (written_each pages n page front zf (All-take (IsEntry pages) k es a.each))
            (All-cons (IsEntry new) e back (entry_written pages n page e u.there s h)
            (written_each pages n page back zb (All-drop (IsEntry pages) k es a.each)));
        numbered = placed_numbered pages es free rest n k page e a.numbered q l h.page;
      };
      front = ap (λ r. flat new (take (k + 1) r)) v
          ∙ ap (λ r. flat new r) (take_at (front ++ e ∷ []) back (k + 1) w)
          ∙ flat_map-append (blocks_of new) front (e ∷ [])
          ∙ ap (λ r. flat new front ++ r) (append-nil (blocks_of new e) ∙ own)
          ∙ ap (λ r. r ++ page) (written_flat pages n page front zf);
      back = ap (λ r. flat new (drop (k + 1) r)) v
          ∙ ap (λ r. flat new r) (drop_at (front ++ e ∷ []) back (k + 1) w)
          ∙ written_flat pages n page back zb;
      shorts = let one : is_short e ≤ 1 = one_at_most (nat_lt e.len 32) in omega (arith, ins);
      half = λ m. let no : is_short e ≡ 0 = is_long e (omega (arith, h.len)) in omega (arith, ins);
    }

-- the number of one more entry became free
pub released_more : (es : List PageEntry) (free new : List ℕ) (n k : ℕ) (e : PageEntry) → k < length es → e ≡ get_or es k e
    → new ≡ free ++ e.page ∷ [] → times_free n new + naming n (take k es) ≡ times_free n free + naming n (take (k + 1) es)
released_more es free new n k e h p q =
    omega (
      arith,
      ap (λ r. times_free n r) q,
      standing-push n free e.page,
      sum_by_more (names n) es k e h,
      ap (λ (x : PageEntry). names n x) p,
    )

-- the numbers of all entries up to one became free
pub released_numbers : (es kept : List PageEntry) (free new : List ℕ) (n first past : ℕ) → kept ≡ take first es ++ drop past es
    → times_free n new + naming n (take first es) ≡ times_free n free + naming n (take past es)
    → naming n kept + times_free n new ≡ naming n es + times_free n free
released_numbers es kept free new n first past q h =
    omega (arith, ap (λ r. naming n r) q, naming-append n (take first es) (drop past es), naming-parts n es past)

-- the numbers of entries that were taken out became free
pub released : (pages : List (List Block)) (es kept : List PageEntry) (free new : List ℕ) (first past : ℕ)
    → AreFiled pages es free → first ≤ past → past ≤ length es → kept ≡ take first es ++ drop past es
    → ((n : ℕ) → naming n kept + times_free n new ≡ naming n es + times_free n free)
    → length kept + length new ≡ length es + length free → AreFiled pages kept new
released pages es kept free new first past a l u q same n = record {
  each = rw q (All-append (IsEntry pages) (take first es) (drop past es) (All-take (IsEntry pages) first es a.each)
      (All-drop (IsEntry pages) past es a.each));
  numbered = record {
    once = λ m. omega (arith, same m, a.numbered.once m);
    within = λ m h. omega (arith, same m, a.numbered.within m h);
    all = omega (arith, a.numbered.all);
  };
}

-- a list with another element at an index
set_parts : (es : List PageEntry) (k : ℕ) (e : PageEntry) → k < length es → set es k e ≡ take k es ++ e ∷ drop (k + 1) es
set_parts es k e h =
    sym (take-append-drop k (set es k e)) ∙ ap (λ r. r ++ drop k (set es k e)) (take-set es k e)
    ∙ ap (λ r. take k es ++ r) (drop-set es k e h)

-- a page that was written anew is as one that was freed and filed again
pub rewritten : (pages : List (List Block)) (es : List PageEntry) (free : List ℕ) (k : ℕ) (page : List Block)
    (new : List (List Block)) (named : List PageEntry) → AreFiled pages es free → k < length es → 0 < length page
    → IsRewritten pages es k page new named → IsPlaced pages (take k es ++ drop (k + 1) es) k page new named free
rewritten pages es free k page new named a h s w =
    let e : PageEntry = w.entry in
    let kept : List PageEntry = take k es ++ drop (k + 1) es in
    let more : List ℕ = free ++ e.page ∷ [] in
    let old : PageEntry = get_or es k e in
    let n : length (take k es) ≡ k = length-take-le k es (omega arith) in
    let q : more ≡ free ++ old.page ∷ [] = ap (λ m. free ++ m ∷ []) (w.number e) in
    let f : AreFiled pages kept more =
    released pages es kept free more k (k + 1) a (omega arith) (omega arith) refl
    (λ m. released_numbers es kept free more m k (k + 1) refl
    (released_more es free more m k old h (get_or_default es k e old h) q))
    (omega (
      arith,
      n,
      length-append (take k es) (drop (k + 1) es),
      length-drop (k + 1) es,
      length_push free e.page,
    )) in
    let p = placed pages kept more free e.page k page e f refl
    (omega (arith, n, length-append (take k es) (drop (k + 1) es))) s w.says in
    let z : insert kept k e ≡ named =
    ap (λ r. r ++ e ∷ drop k kept) (take_at (take k es) (drop (k + 1) es) k n)
    ∙ ap (λ r. take k es ++ e ∷ r) (drop_at (take k es) (drop (k + 1) es) k n)
    ∙ sym (set_parts es k e h) ∙ sym w.filed in
    rw (← z, w.written) p

pub rewritten_flat : (pages : List (List Block)) (es : List PageEntry) (free : List ℕ) (k : ℕ) (page : List Block)
    (new : List (List Block)) (named : List PageEntry) → k < length es
    → IsPlaced pages (take k es ++ drop (k + 1) es) k page new named free
    → flat new named ≡ flat pages (take k es) ++ page ++ flat pages (drop (k + 1) es)
rewritten_flat pages es free k page new named h p =
    let n : length (take k es) ≡ k = length-take-le k es (omega arith) in
    ap (λ r. flat new r) (sym (take-append-drop (k + 1) named))
    ∙ flat_map-append (blocks_of new) (take (k + 1) named) (drop (k + 1) named)
    ∙ ap (λ r. r ++ flat new (drop (k + 1) named)) p.front
    ∙ ap (λ r. flat pages (take k (take k es ++ drop (k + 1) es)) ++ page ++ r) p.back
    ∙ ap (λ r. flat pages r ++ page ++ flat pages (drop k (take k es ++ drop (k + 1) es))) (take_at (take k es) (drop (k + 1) es) k n)
    ∙ ap (λ r. flat pages (take k es) ++ page ++ flat pages r) (drop_at (take k es) (drop (k + 1) es) k n)

-- how many entries are left
pub taken_out : (es kept : List PageEntry) (first past : ℕ) → first ≤ past → past ≤ length es
    → kept ≡ take first es ++ drop past es → length kept + (past - first) ≡ length es
taken_out es kept first past l u q =
    omega (
      arith,
      ap length q,
      length-append (take first es) (drop past es),
      length-take-le first es (omega arith),
      length-drop past es,
    )

-- no page is short
pub long_at : (es : List PageEntry) (i : ℕ) (d : PageEntry) → short_pages es ≡ 0 → i < length es → 32 ≤ (get_or es i d).len
long_at es i d z h =
    ⊎_elim (λ (l : (get_or es i d).len < 32).
    let one : is_short (get_or es i d) ≡ 1 = ap (λ b. cond b 1 0) (lt-ltb (get_or es i d).len 32 l) in
    absurd (omega (arith, get_or-le-sum_by is_short es i d h)))
    (λ (l : 32 ≤ (get_or es i d).len). l) (cases_lt (get_or es i d).len 32)

-- pages that aren't short have at least 32 blocks each
pub many_blocks : (pages : List (List Block)) (es : List PageEntry) → All (IsEntry pages) es → short_pages es ≡ 0
    → 32 * length es ≤ length (flat pages es)
many_blocks pages [] h z = omega arith
many_blocks pages (e ∷ es) h z =
    let long : 32 ≤ e.len = long_at (e ∷ es) 0 e z (omega arith) in
    let tail : short_pages es ≡ 0 = omega (arith, sum_by-cons is_short e es) in
    let rest = many_blocks pages es (All-tail (IsEntry pages) e es h) tail in
    let first = h 0 e (omega arith) in
    omega (arith, first.len, length-append (blocks_of pages e) (flat pages es))

-- pages that no region holds aren't short
pub kept_long : (es kept : List PageEntry) (first past : ℕ) → AreHalfFull es → first ≤ past → past ≤ length es
    → (0 < length es → first < past) → kept ≡ take first es ++ drop past es → short_pages kept ≡ 0
kept_long es kept first past half l u taken q =
    ⊎_elim
    (λ (v : 1 < length es).
    omega (
      arith,
      half.half v,
      ap (λ r. short_pages r) q,
      shorts-append (take first es) (drop past es),
      shorts-parts es first,
      shorts-parts es past,
    ))
    (λ (v : length es ≤ 1).
    let none : length es + first ≤ past =
    ⊎_elim (λ (w : 0 < length es). omega (arith, taken w)) (λ (w : length es ≤ 0). omega arith) (cases_lt 0 (length es)) in
    let z : length kept ≡ 0 =
    omega (
      arith,
      ap length q,
      length-append (take first es) (drop past es),
      length-take-le first es (omega arith),
      length-drop past es,
      none,
    ) in
    ap (λ r. short_pages r) (nil_from_length kept z))
    (cases_lt 1 (length es))

-- those pages are no more than their blocks need where each is half full
pub kept_fits : (pages : List (List Block)) (es kept : List PageEntry) (blocks : List Block) (first past : ℕ)
    → All (IsEntry pages) kept → short_pages kept ≡ 0 → kept ≡ take first es ++ drop past es
    → 32 * length kept + length blocks ≤ length (flat pages (take first es) ++ blocks ++ flat pages (drop past es))
kept_fits pages es kept blocks first past h z q =
    let front : List Block = flat pages (take first es) in
    let back : List Block = flat pages (drop past es) in
    omega (
      arith,
      many_blocks pages kept h z,
      ap (λ r. length (flat pages r)) q,
      ap length (flat_map-append (blocks_of pages) (take first es) (drop past es)),
      length-append front back,
      length-append (front ++ blocks) back,
      length-append front blocks,
    )

-- the next page takes all that is left, or it and the rest have at least 32 blocks each
pub share : (left size : ℕ) → (left ≤ 64 → size ≡ left) → (64 < left → 32 ≤ size) → (64 < left → size + 32 ≤ left)
    → (size ≡ left) ⊎ ((32 ≤ size) × (size + 32 ≤ left))
share left size all half rest =
    ⊎_elim (λ (h : 64 < left). inr (half h, rest h)) (λ (h : left ≤ 64). inl (all h)) (cases_lt 64 left)
