-- An edit of two pages, of which each keeps its number of blocks.
use Rattle.std.proofs.Common.{◌≡◌, ℕ, ◌+◌, ◌-◌, ◌<◌, ◌≤◌, ◌∙◌, List, [], ◌++◌, All, length, take, drop, get_or, slice_range, refl, ap, sym, arith, append_assoc, append-nil, length-append, length-drop}
use Rattle.std.proofs.lemmas.List.{take-append-drop, take_at, drop_at, drop_all, drop_more, length-set, length-take-le, get_or-set_other, get_or_default}
use Rattle.block_list.specs.declared.block.Block.{Block}
use Rattle.block_list.specs.Tiling.{IsMerged}
use Rattle.block_list.specs.Edits.{IsTiled}
use Rattle.block_pages.specs.declared.page_entry.PageEntry.{PageEntry}
use Rattle.block_pages.specs.Splice.{spliced}
use Rattle.block_pages.specs.Rows.{AreRow}
use Rattle.block_pages.proofs.RangeLemmas.{range_front, range_back}
use Rattle.block_pages.proofs.RowLemmas.{row_middle, row_split}
use Rattle.paged_blocks.specs.declared.marks.edit.Edit.{Edit}
use Rattle.paged_blocks.specs.Paging.{blocks_of, flat, short_pages, IsEntry, IsPaging, IsKeptInPages, IsRewritten, AreFiled, AreHalfFull}
use Rattle.paged_blocks.specs.Marks.{edited, IsEdit}
use Rattle.paged_blocks.specs.TouchedPages.{StaysInTwoPages}
use Rattle.paged_blocks.proofs.PagingLemmas.{no_entry}
use Rattle.paged_blocks.proofs.RefillLemmas.{IsPlaced, rewritten, rewritten_flat, kept_long, long_at}
use Rattle.paged_blocks.proofs.TouchedLemmas.{touched_same}

-- a list with as many blocks in the place of others
pub alike_len : (bs : List Block) (from to : ℕ) (new : List Block) → from ≤ to → to ≤ length bs → from + length new ≡ to
    → length (spliced bs from to new) ≡ length bs
alike_len bs from to new l u e =
    omega (
      arith,
      length-append (take from bs ++ new) (drop to bs),
      length-append (take from bs) new,
      length-take-le from bs (omega arith),
      length-drop to bs,
    )

-- equal lists with fronts of one length have equal parts
same_front : (xs ys us vs : List Block) → length xs ≡ length us → xs ++ ys ≡ us ++ vs → xs ≡ us
same_front xs ys us vs n e =
    sym (take_at xs ys (length us) n) ∙ ap (λ r. take (length us) r) e ∙ take_at us vs (length us) refl

same_back : (xs ys us vs : List Block) → length xs ≡ length us → xs ++ ys ≡ us ++ vs → ys ≡ vs
same_back xs ys us vs n e =
    sym (drop_at xs ys (length us) n) ∙ ap (λ r. drop (length us) r) e ∙ drop_at us vs (length us) refl

-- what a page that was written anew leaves of the others: those before it, the next one, and those after that
pub record IsNextKept (pages : List (List Block)) (es : List PageEntry) (k l : ℕ) (page : List Block)
    (new : List (List Block)) (named : List PageEntry) : Type 0 where
  pub len : length named ≡ length es
  pub front : flat new (take l named) ≡ flat pages (take k es) ++ page
  pub next : blocks_of new (get_or named l no_entry) ≡ blocks_of pages (get_or es l no_entry)
  pub back : flat new (drop (l + 1) named) ≡ flat pages (drop (l + 1) es)

pub next_kept : (pages : List (List Block)) (es : List PageEntry) (free : List ℕ) (k l : ℕ) (page : List Block)
    (new : List (List Block)) (named : List PageEntry) → AreFiled pages es free → l ≡ k + 1 → l < length es
    → IsRewritten pages es k page new named → IsPlaced pages (take k es ++ drop (k + 1) es) k page new named free
    → IsNextKept pages es k l page new named
next_kept pages es free k l page new named a z h w p =
    let kept : List PageEntry = take k es ++ drop (k + 1) es in
    let n : length (take k es) ≡ k = length-take-le k es (omega arith) in
    let len : length named ≡ length es = ap length w.filed ∙ length-set es k w.entry in
    let entry : get_or named l no_entry ≡ get_or es l no_entry =
    ap (λ r. get_or r l no_entry) w.filed ∙ get_or-set_other es k l w.entry no_entry (λ q. absurd (omega (arith, q))) in
    let back : flat new (drop l named) ≡ flat pages (drop l es) =
    ap (λ i. flat new (drop i named)) z ∙ p.back ∙ ap (λ r. flat pages r) (drop_at (take k es) (drop (k + 1) es) k n)
    ∙ ap (λ i. flat pages (drop i es)) (sym z) in
    let parts : blocks_of new (get_or named l no_entry) ++ flat new (drop (l + 1) named)
    ≡ blocks_of pages (get_or es l no_entry) ++ flat pages (drop (l + 1) es) =
    ap (λ r. flat new r) (sym (drop_more named l no_entry (omega (arith, len)))) ∙ back
    ∙ ap (λ r. flat pages r) (drop_more es l no_entry h) in
    let alike : length (blocks_of new (get_or named l no_entry)) ≡ length (blocks_of pages (get_or es l no_entry)) =
    omega (
      arith,
      (p.filed.each l no_entry (omega (arith, len))).len,
      (a.each l no_entry h).len,
      ap (λ (e : PageEntry). e.len) entry,
    ) in
    record {
      len = len;
      front = ap (λ i. flat new (take i named)) z ∙ p.front
          ∙ ap (λ r. flat pages r ++ page) (take_at (take k es) (drop (k + 1) es) k n);
      next = same_front _ _ _ _ alike parts;
      back = same_back _ _ _ _ alike parts;
    }

-- the blocks of such an edit in two parts: as many as its first page, of which the length is known, had from the edit on,
-- and the others
pub record IsSplit (es : List PageEntry) (e : Edit) (len : ℕ) (front back : List Block) : Type 0 where
  pub count : ℕ
  pub counted : e.from + count ≡ len
  pub len_is : (d : PageEntry) → len ≡ (get_or es e.first d).len
  pub front_is : front ≡ take count e.new
  pub back_is : back ≡ drop count e.new

pub split_of : (es : List PageEntry) (e : Edit) (old : PageEntry) (m : ℕ) (front back : List Block) → StaysInTwoPages es e
    → ((d : PageEntry) → old ≡ get_or es e.first d) → front ≡ slice_range e.new 0 (old.len - e.from)
    → back ≡ slice_range e.new (old.len - e.from) m → m ≡ length e.new → IsSplit es e old.len front back
split_of es e old m front back s a f b n =
    let len : old.len ≡ (get_or es e.first no_entry).len = ap (λ (x : PageEntry). x.len) (a no_entry) in
    record {
      count = old.len - e.from;
      counted = omega (arith, len, s.front no_entry);
      len_is = λ d. ap (λ (x : PageEntry). x.len) (a d);
      front_is = f ∙ range_front e.new (old.len - e.from);
      back_is = b ∙ ap (λ i. slice_range e.new (old.len - e.from) i) n ∙ range_back e.new (old.len - e.from);
    }

-- how many blocks its second part has
pub back_len : (es : List PageEntry) (e : Edit) (len : ℕ) (front back : List Block) → StaysInTwoPages es e
    → IsSplit es e len front back → length back ≡ e.to
back_len es e len front back s p =
    omega (arith, ap length p.back_is, length-drop p.count e.new, s.alike no_entry, p.counted, p.len_is no_entry)

-- its first page keeps its length
pub front_long : (pages : List (List Block)) (es : List PageEntry) (e : Edit) (len : ℕ) (front back : List Block)
    → IsPaging pages es → e.first < length es → StaysInTwoPages es e → IsSplit es e len front back
    → 0 < length (spliced (blocks_of pages (get_or es e.first no_entry)) e.from len front)
front_long pages es e len front back p h s q =
    let own : List Block = blocks_of pages (get_or es e.first no_entry) in
    let size : len ≡ length own = omega (arith, q.len_is no_entry, (p.each e.first no_entry h).len) in
    let some : length front ≡ q.count =
    ap length q.front_is ∙ length-take-le q.count e.new (omega (arith, s.alike no_entry, q.counted, q.len_is no_entry)) in
    omega (
      arith,
      alike_len own e.from len front (omega (arith, q.counted)) (omega (arith, size)) (omega (arith, some, q.counted)),
      size,
      q.len_is no_entry,
      s.front no_entry,
    )

-- the entries say what the pages hold once the first page of such an edit was written anew, and its second page is as it was
pub first_written : (pages : List (List Block)) (es : List PageEntry) (free : List ℕ) (e : Edit) (page : List Block)
    (new : List (List Block)) (named : List PageEntry) → IsKeptInPages pages es free → IsEdit pages es e → StaysInTwoPages es e
    → 0 < length page → IsRewritten pages es e.first page new named
    → All (IsEntry new) named × (e.last < length named)
    × ((d : PageEntry) → blocks_of new (get_or named e.last d) ≡ blocks_of pages (get_or es e.last no_entry))
first_written pages es free e page new named k i s some w =
    let a : AreFiled pages es free = record { each = k.paging.each; numbered = k.numbered } in
    let p = rewritten pages es free e.first page new named a (omega (arith, i.order, i.last)) some w in
    let n = next_kept pages es free e.first e.last page new named a s.next i.last w p in
    let there : e.last < length named = omega (arith, n.len, i.last) in
    (p.filed.each, there, λ d. ap (λ x. blocks_of new x) (get_or_default named e.last d no_entry there) ∙ n.next)

-- its blocks in the first page and in the second
pub two_blocks : (own next new : List Block) (from to count : ℕ) → from + count ≡ length own
    → spliced own from (from + count) (take count new) ++ spliced next 0 to (drop count new)
    ≡ take from own ++ new ++ drop to next
two_blocks own next new from to count n =
    let ends : drop (from + count) own ≡ [] = drop_all (from + count) own (omega (arith, n)) in
    let front : spliced own from (from + count) (take count new) ≡ take from own ++ take count new =
    ap (λ r. take from own ++ take count new ++ r) ends ∙ append-nil (take from own ++ take count new) in
    let meet : (take from own ++ take count new) ++ (drop count new ++ drop to next)
    ≡ take from own ++ ((take count new ++ drop count new) ++ drop to next) = simp append_assoc in
    ap (λ r. r ++ (drop count new ++ drop to next)) front ∙ meet
    ∙ ap (λ r. take from own ++ (r ++ drop to next)) (take-append-drop count new)
    ∙ sym (append_assoc (take from own) new (drop to next))

-- they are in a row
pub two_rows : (pages : List (List Block)) (es : List PageEntry) (e : Edit) (len : ℕ) (front back : List Block) (d : PageEntry)
    → IsPaging pages es → IsEdit pages es e → IsSplit es e len front back → IsTiled (edited pages es e)
    → AreRow (spliced (blocks_of pages (get_or es e.first d)) e.from len front)
    × AreRow (spliced (blocks_of pages (get_or es e.last no_entry)) 0 e.to back)
two_rows pages es e len front back d p i q t =
    let own : List Block = blocks_of pages (get_or es e.first no_entry) in
    let next : List Block = blocks_of pages (get_or es e.last no_entry) in
    let h : e.first < length es = omega (arith, i.order, i.last) in
    let there : get_or es e.first d ≡ get_or es e.first no_entry = get_or_default es e.first d no_entry h in
    let f : flat pages (take e.first es) ++ (take e.from own ++ e.new ++ drop e.to next) ++ flat pages (drop (e.last + 1) es)
    ≡ edited pages es e = touched_same pages es e.first e.from e.last e.to no_entry e.new h (i.from no_entry) i.last (i.to no_entry) in
    let r : AreRow (take e.from own ++ e.new ++ drop e.to next) =
    row_middle (flat pages (take e.first es)) (take e.from own ++ e.new ++ drop e.to next) (flat pages (drop (e.last + 1) es)) (rw f t) in
    let n : e.from + q.count ≡ length own = omega (arith, q.counted, q.len_is no_entry, (p.each e.first no_entry h).len) in
    let rows = row_split (spliced own e.from (e.from + q.count) (take q.count e.new)) (spliced next 0 e.to (drop q.count e.new))
    (rw (two_blocks own next e.new e.from e.to q.count n) r) in
    (rw (there, q.front_is) (rw q.counted at rows.0), rw q.back_is rows.1)

-- what such an edit comes to
pub record IsDone (pages : List (List Block)) (es : List PageEntry) (free : List ℕ) (e : Edit) (new : List (List Block))
    (named : List PageEntry) : Type 0 where
  pub filed : AreFiled new named free
  pub half : AreHalfFull named
  pub flat_is : flat new named ≡ edited pages es e

pub two_done : (pages : List (List Block)) (es : List PageEntry) (free : List ℕ) (e : Edit) (len : ℕ) (front back : List Block)
    (mid : List (List Block)) (among : List PageEntry) (new : List (List Block)) (named : List PageEntry)
    → IsKeptInPages pages es free → IsEdit pages es e → StaysInTwoPages es e → IsSplit es e len front back
    → IsRewritten pages es e.first (spliced (blocks_of pages (get_or es e.first no_entry)) e.from len front) mid among
    → IsRewritten mid among e.last (spliced (blocks_of mid (get_or among e.last no_entry)) 0 e.to back) new named
    → IsDone pages es free e new named
two_done pages es free e len front back mid among new named k i s q firstly secondly =
    let l : ℕ = e.last in
    let own : List Block = blocks_of pages (get_or es e.first no_entry) in
    let next : List Block = blocks_of pages (get_or es l no_entry) in
    let one : List Block = spliced own e.from len front in
    let two : List Block = spliced (blocks_of mid (get_or among l no_entry)) 0 e.to back in
    let h : e.first < length es = omega (arith, i.order, i.last) in
    let a : AreFiled pages es free = record { each = k.paging.each; numbered = k.numbered } in
    let none : short_pages es ≡ 0 = k.half.half (omega (arith, i.last, s.next)) in
    let own_len : len ≡ length own = omega (arith, q.len_is no_entry, (a.each e.first no_entry h).len) in
    let front_len : length front ≡ q.count =
    ap length q.front_is ∙ length-take-le q.count e.new (omega (arith, s.alike no_entry, q.counted, q.len_is no_entry)) in
    let one_len : length one ≡ length own =
    alike_len own e.from len front (omega (arith, q.counted)) (omega (arith, own_len)) (omega (arith, front_len, q.counted)) in
    let one_long : 32 ≤ length one =
    omega (arith, one_len, long_at es e.first no_entry none h, (a.each e.first no_entry h).len) in
    let p = rewritten pages es free e.first one mid among a h (omega arith) firstly in
    let n = next_kept pages es free e.first l one mid among a s.next i.last firstly p in
    let half : AreHalfFull among = record {
      half = λ _. p.half one_long
          ∙ kept_long es (take e.first es ++ drop (e.first + 1) es) e.first (e.first + 1) k.half (omega arith) (omega arith)
          (λ _. omega arith) refl;
    } in
    let there : l < length among = omega (arith, n.len, i.last) in
    let second : two ≡ spliced next 0 e.to back = ap (λ r. spliced r 0 e.to back) n.next in
    let two_len : length two ≡ length next =
    ap length second ∙ alike_len next 0 e.to back (omega arith) (i.to no_entry) (omega (arith, back_len es e len front back s q)) in
    let two_long : 32 ≤ length two =
    omega (arith, two_len, long_at es l no_entry none i.last, (a.each l no_entry i.last).len) in
    let r = rewritten mid among free l two new named p.filed there (omega arith) secondly in
    let blocks : one ++ two ≡ take e.from own ++ e.new ++ drop e.to next =
    ap (λ x. spliced own e.from len x ++ two) q.front_is
    ∙ ap (λ x. spliced own e.from x (take q.count e.new) ++ two) (sym q.counted)
    ∙ ap (λ x. spliced own e.from (e.from + q.count) (take q.count e.new) ++ x) (second ∙ ap (λ x. spliced next 0 e.to x) q.back_is)
    ∙ two_blocks own next e.new e.from e.to q.count (omega (arith, q.counted, own_len)) in
    record {
      filed = r.filed;
      half = record {
        half = λ _. r.half two_long
            ∙ kept_long among (take l among ++ drop (l + 1) among) l (l + 1) half (omega arith) (omega arith)
            (λ _. omega arith) refl;
      };
      flat_is = rewritten_flat mid among free l two new named there r
          ∙ ap (λ x. x ++ two ++ flat mid (drop (l + 1) among)) n.front
          ∙ ap (λ x. (flat pages (take e.first es) ++ one) ++ two ++ x) n.back
          ∙ ap (λ x. x ++ flat pages (drop (l + 1) es)) (append_assoc (flat pages (take e.first es)) one two
          ∙ ap (λ x. flat pages (take e.first es) ++ x) blocks)
          ∙ touched_same pages es e.first e.from l e.to no_entry e.new h (i.from no_entry) i.last (i.to no_entry);
    }

pub two_kept : (pages : List (List Block)) (es : List PageEntry) (free : List ℕ) (e : Edit) (new : List (List Block))
    (named : List PageEntry) → IsTiled (edited pages es e) → IsMerged (edited pages es e)
    → IsDone pages es free e new named → IsKeptInPages new named free
two_kept pages es free e new named t m d = record {
  paging = record { tiled = rw d.flat_is t; merged = rw d.flat_is m; each = d.filed.each };
  half = d.half;
  numbered = d.filed.numbered;
}
