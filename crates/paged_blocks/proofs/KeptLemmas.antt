-- Pages that are made from a plain list, and more pages.
use Rattle.std.specs.List.{flat_map}
use Rattle.std.proofs.Common.{◌≡◌, ℕ, zero, suc, ◌+◌, ◌-◌, ◌<◌, ◌≤◌, ◌^◌, List, [], ◌∷◌, ◌++◌, length, take, drop, get_or, slice_range, refl, arith, ap, sym, ◌∙◌, append-nil, length-drop, ⊎_elim, Result, Ok, Err, IsOk, is_ok, if◌then◌else◌}
use Rattle.std.proofs.lemmas.Bool.{cases_lt}
use Rattle.std.proofs.lemmas.List.{get_or_append_left, get_or_push, length_push, length-take-le, take_all}
use Rattle.std.proofs.lemmas.Grind.{flat_map-append}
use Rattle.std.proofs.Math.Seq.{take-add}
use Rattle.block_list.specs.declared.status.Status.{Status}
use Rattle.block_list.specs.declared.block.Block.{Block}
use Rattle.block_list.specs.Stretches.{covered, stretches}
use Rattle.block_list.specs.Edits.{IsTiled}
use Rattle.block_list.specs.Tiling.{AreTiles}
use Rattle.block_list.proofs.TileLemmas.{length_first, tiled_from_tiles}
use Rattle.block_list.proofs.ApartLemmas.{merged_from_apart, apart_from_merged}
use Rattle.block_list.proofs.StretchLemmas.{stretches_of_tiles, stretches_tiles, stretches_covered, stretches_apart}
use Rattle.block_pages.specs.declared.page_entry.PageEntry.{PageEntry}
use Rattle.block_pages.specs.PageEntries.{IsEntryOf}
use Rattle.block_pages.proofs.RangeLemmas.{part_short}
use Rattle.paged_blocks.specs.Paging.{blocks_of, flat, before, IsEntry, IsAdded, IsKeptInPages, IsPaging, short_pages, naming}
use Rattle.paged_blocks.proofs.PagingLemmas.{no_entry, before_le, before_more, before_all}
use Rattle.paged_blocks.proofs.RefillLemmas.{naming-push, shorts-push, names_other, names_one, is_long, other_number, number_one, standing-push}

-- an entry means the same where there are more pages
pub blocks_kept : (pages : List (List Block)) (page : List Block) (e : PageEntry) → e.page < length pages
    → blocks_of (pages ++ page ∷ []) e ≡ blocks_of pages e
blocks_kept pages page e h = get_or_append_left pages (page ∷ []) [] e.page h

pub flat_kept : (pages : List (List Block)) (page : List Block) (es : List PageEntry)
    → ((i : ℕ) (d : PageEntry) → i < length es → (get_or es i d).page < length pages)
    → flat (pages ++ page ∷ []) es ≡ flat pages es
flat_kept pages page [] h = refl
flat_kept pages page (e ∷ es) h =
    ap (λ r. r ++ flat (pages ++ page ∷ []) es) (blocks_kept pages page e (h 0 e (omega arith)))
    ∙ ap (λ r. blocks_of pages e ++ r) (flat_kept pages page es (λ i d l. h (suc i) d (omega arith)))

-- pages that were made from the first blocks of a list
pub record IsFilling (pages : List (List Block)) (es : List PageEntry) (bs : List Block) (made : ℕ) : Type 0 where
  pub within : made ≤ length bs
  pub same : flat pages es ≡ take made bs
  pub each : (i : ℕ) (d : PageEntry) → i < length es → IsEntry pages (get_or es i d)
  pub once : (n : ℕ) → naming n es ≤ 1
  pub fresh : (n : ℕ) → length pages ≤ n → naming n es ≡ 0
  pub number : length es ≡ length pages
  pub half : 64 < length bs → short_pages es ≡ 0
  pub few : length bs ≤ 64 → 0 < made → made ≡ length bs
  pub one : length bs ≤ 64 → length es ≤ 1
  pub none : made ≡ 0 → length es ≡ 0
  pub some : length es ≡ 0 → made ≡ 0
  pub rest : 64 < length bs → 0 < made → made < length bs → made + 32 ≤ length bs

entry_kept : (pages : List (List Block)) (page : List Block) (e : PageEntry) → IsEntry pages e → IsEntry (pages ++ page ∷ []) e
entry_kept pages page e h =
    let q = blocks_kept pages page e h.page in
    record {
      page = omega (arith, h.page, length_push pages page);
      some = rw q h.some;
      len = rw q h.len;
      fits = rw q h.fits;
      begins = rw q h.begins;
      tally = rw q h.tally;
    }

entry_new : (pages : List (List Block)) (page : List Block) (e : PageEntry) → 0 < length page → IsEntryOf page (length pages) e
    → IsEntry (pages ++ page ∷ []) e
entry_new pages page e s h =
    let q : blocks_of (pages ++ page ∷ []) e ≡ page = get_or_push pages page [] e.page (sym h.page) in
    record {
      page = omega (arith, h.page, length_push pages page);
      some = rw q s;
      len = rw q h.len;
      fits = rw q h.fits;
      begins = rw q h.begins;
      tally = rw q h.tally;
    }

-- what holds of each entry holds with one more of which it holds
each_more : (P : PageEntry → Type 0) (es : List PageEntry) (e : PageEntry) → ((i : ℕ) (d : PageEntry) → i < length es → P (get_or es i d)) → P e
    → (i : ℕ) (d : PageEntry) → i < length (es ++ e ∷ []) → P (get_or (es ++ e ∷ []) i d)
each_more P es e h new i d l =
    ⊎_elim
    (λ (v : i < length es). rw (get_or_append_left es (e ∷ []) d i v) (h i d v))
    (λ (v : length es ≤ i). rw (get_or_push es e d i (omega (arith, length_push es e))) new)
    (cases_lt i (length es))

pub filling_more : (pages : List (List Block)) (es : List PageEntry) (bs : List Block) (made to : ℕ) (page : List Block) (e : PageEntry)
    → IsFilling pages es bs made → page ≡ slice_range bs made to → made < to → to ≤ length bs
    → (length bs - made ≤ 64 → to ≡ length bs) → (64 < length bs - made → made + 32 ≤ to)
    → (64 < length bs - made → to + 32 ≤ length bs) → IsEntryOf page (length pages) e
    → IsFilling (pages ++ page ∷ []) (es ++ e ∷ []) bs to
filling_more pages es bs made to page e f q l u all half rest new =
    let n : length page ≡ to - made = ap length q ∙ length-take-le (to - made) (drop made bs) (omega (arith, length-drop made bs)) in
    let some : 0 < length page = omega arith in
    let last = entry_new pages page e some new in
    let z : made + (to - made) ≡ to = omega arith in
    let ps : List (List Block) = pages ++ page ∷ [] in
    let b : blocks_of ps e ≡ page = get_or_push pages page [] e.page (sym new.page) in
    let m = length_push es e in
    record {
      within = u;
      same = flat_map-append (blocks_of ps) es (e ∷ [])
          ∙ ap (λ r. r ++ (blocks_of ps e ++ [])) (flat_kept pages page es (λ i d v. (f.each i d v).page) ∙ f.same)
          ∙ ap (λ r. take made bs ++ r) (append-nil (blocks_of ps e) ∙ b ∙ q)
          ∙ sym (take-add made (to - made) bs) ∙ ap (λ k. take k bs) z;
      each = each_more (IsEntry ps) es e (λ i d v. entry_kept pages page (get_or es i d) (f.each i d v)) last;
      once = λ n. ⊎_elim
          (λ (v : n < length pages). omega (arith, naming-push n es e, names_other n e (λ x. absurd (omega (arith, new.page))), f.once n))
          (λ (v : length pages ≤ n). omega (arith, naming-push n es e, names_one n e, f.fresh n v))
          (cases_lt n (length pages));
      fresh = λ n h. omega (
        arith,
        naming-push n es e,
        names_other n e (λ x. absurd (omega (arith, new.page, length_push pages page))),
        f.fresh n (omega (arith, length_push pages page)),
      );
      number = omega (arith, m, length_push pages page, f.number);
      half = λ w.
          let long : 32 ≤ e.len =
          ⊎_elim (λ (x : 64 < length bs - made). omega (arith, new.len, half x))
          (λ (x : length bs - made ≤ 64).
          ⊎_elim (λ (y : 0 < made). omega (arith, new.len, all x, f.rest w y)) (λ (y : made ≤ 0). absurd (omega arith)) (cases_lt 0 made))
          (cases_lt 64 (length bs - made)) in
          omega (arith, shorts-push es e, is_long e long, f.half w);
      few = λ h w. all (omega arith);
      one = λ h.
          ⊎_elim (λ (y : 0 < made). absurd (omega (arith, f.few h y)))
          (λ (y : made ≤ 0). omega (arith, m, f.none (omega arith))) (cases_lt 0 made);
      none = λ h. absurd (omega arith);
      some = λ h. absurd (omega (arith, m));
      rest = λ h v w. ⊎_elim (λ (x : 64 < length bs - made). rest x) (λ (x : length bs - made ≤ 64). absurd (omega (arith, all x)))
          (cases_lt 64 (length bs - made));
    }

-- all of a map's stretches were put into pages
pub filled : (pages : List (List Block)) (es : List PageEntry) (map : List Status) (made : ℕ) → length map < 2 ^ 63
    → IsFilling pages es (stretches map) made → length (stretches map) ≤ made → IsKeptInPages pages es []
filled pages es map made s f h =
    let e : flat pages es ≡ stretches map = f.same ∙ take_all made (stretches map) h in
    let t : IsTiled (stretches map) = tiled_from_tiles (stretches map) (0 + length map) (stretches_tiles 0 map) (omega arith) in
    record {
      paging = record { tiled = rw e t; merged = rw e (merged_from_apart (stretches map) (stretches_apart 0 map)); each = f.each };
      half = record {
        half = λ u. ⊎_elim (λ (v : 64 < length (stretches map)). f.half v)
            (λ (v : length (stretches map) ≤ 64). absurd (omega (arith, f.one v))) (cases_lt 64 (length (stretches map)));
      };
      numbered = record {
        once = λ n. omega (arith, f.once n);
        within = λ n h. omega (arith, f.fresh n h);
        all = omega (arith, f.number);
      };
    }

pub filled_statuses : (pages : List (List Block)) (es : List PageEntry) (map : List Status) (made : ℕ)
    → IsFilling pages es (stretches map) made → length (stretches map) ≤ made → flat_map covered (flat pages es) ≡ map
filled_statuses pages es map made f h =
    ap (λ r. flat_map covered r) (f.same ∙ take_all made (stretches map) h) ∙ stretches_covered 0 map

pub range_short : (map : List Status) (made to : ℕ) (page : List Block) → page ≡ slice_range (stretches map) made to
    → length (flat_map covered page) ≤ length map
range_short map made to page q =
    omega (
      arith,
      ap (λ r. length (flat_map covered r)) q,
      part_short (stretches map) made to,
      ap length (stretches_covered 0 map),
    )

pub adding : (pages : List (List Block)) (es : List PageEntry) (bs : List Block) (made to : ℕ) (page : List Block)
    (new : List (List Block)) (named : List PageEntry) → IsFilling pages es bs made → page ≡ slice_range bs made to
    → made < to → to ≤ length bs → (length bs - made ≤ 64 → to ≡ length bs) → (64 < length bs - made → made + 32 ≤ to)
    → (64 < length bs - made → to + 32 ≤ length bs) → IsAdded pages es page new named → IsFilling new named bs to
adding pages es bs made to page new named f q l u all half rest a =
    rw (a.grown, a.known.2) (filling_more pages es bs made to page a.known.0 f q l u all half rest a.known.1)

pub block_there : (pages : List (List Block)) (es : List PageEntry) (k left i : ℕ) → before pages es k + left ≡ i
    → i < length (flat pages es) → k < length es
block_there pages es k left i e h =
    ⊎_elim (λ (l : k < length es). l) (λ (l : length es ≤ k). absurd (omega (arith, before_all pages es k l))) (cases_lt k (length es))

-- the blocks of all pages are the map's stretches
pub stretches_of_paging : (pages : List (List Block)) (es : List PageEntry) → IsPaging pages es
    → stretches (flat_map covered (flat pages es)) ≡ flat pages es
stretches_of_paging pages es p =
    stretches_of_tiles 0 (flat pages es) (length (flat_map covered (flat pages es))) p.tiled.tiled
    (apart_from_merged (flat pages es) p.merged)

-- a list has no more blocks than positions
tiles_len : (low : ℕ) (bs : List Block) (end : ℕ) → AreTiles low bs end → length bs ≤ length (flat_map covered bs)
tiles_len low [] end t = omega arith
tiles_len low (b ∷ bs) end t = omega (arith, length_first b bs, t.1, tiles_len (low + b.size) bs end t.2)

pub blocks_short : (bs : List Block) → IsTiled bs → length bs < 2 ^ 63
blocks_short bs t = omega (arith, tiles_len 0 bs (length (flat_map covered bs)) t.tiled, t.short)

-- a map has no more pages than blocks
entries_few : (pages : List (List Block)) (es : List PageEntry) (i : ℕ) → IsPaging pages es → i ≤ length es → i ≤ before pages es i
entries_few pages es zero p h = omega arith
entries_few pages es (suc i) p h =
    let z : suc i ≡ i + 1 = omega arith in
    rw z (omega (
      arith,
      before_more pages es i no_entry (omega arith),
      (p.each i no_entry (omega arith)).some,
      entries_few pages es i p (omega arith),
    ))

pub entries_short : (pages : List (List Block)) (es : List PageEntry) → IsPaging pages es → length es < 2 ^ 63
entries_short pages es p =
    omega (
      arith,
      entries_few pages es (length es) p (omega arith),
      before_le pages es (length es),
      blocks_short (flat pages es) p.tiled,
    )

-- one more page, which is free
pub page_added : (pages : List (List Block)) (es : List PageEntry) (free : List ℕ) (n : ℕ) (page : List Block) → IsKeptInPages pages es free
    → n ≡ length pages → IsKeptInPages (pages ++ page ∷ []) es (free ++ n ∷ [])
page_added pages es free n page k e =
    let q : flat (pages ++ page ∷ []) es ≡ flat pages es = flat_kept pages page es (λ i d l. (k.paging.each i d l).page) in
    record {
      paging = record {
        tiled = rw q k.paging.tiled;
        merged = rw q k.paging.merged;
        each = λ i d l. entry_kept pages page (get_or es i d) (k.paging.each i d l);
      };
      half = k.half;
      numbered = record {
        once = λ m. ⊎_elim
            (λ (v : m < length pages). omega (arith, standing-push m free n, other_number m n (λ x. absurd (omega arith)), k.numbered.once m))
            (λ (v : length pages ≤ m). omega (arith, standing-push m free n, number_one m n, k.numbered.within m v))
            (cases_lt m (length pages));
        within = λ m h. omega (
          arith,
          standing-push m free n,
          other_number m n (λ x. absurd (omega (arith, length_push pages page))),
          k.numbered.within m (omega (arith, length_push pages page)),
        );
        all = omega (arith, length_push pages page, length_push free n, k.numbered.all);
      };
    }

-- what holds after a call that succeeded
pub succeeded : {X T E : Type 0} (x y z : X) (r : Result T E) → IsOk r → y ≡ (if is_ok r then z else x) → y ≡ z
succeeded x y z (Ok t) h e = e
succeeded x y z (Err f) h e = cc
