-- A picture in SVG is short.
use Rattle.std.proofs.Common.{◌≡◌, ℕ, zero, suc, ◌+◌, ◌-◌, ◌*◌, ◌/◌, ◌%◌, ◌^◌, ◌<◌, ◌≤◌, nat_eq, nat_lt, Bool, true, false, cond, ◌&&◌, List, [], ◌∷◌, ◌++◌, length, replicate, codes, Option, Some, None, refl, sym, ap, ◌∙◌, arith}
use Rattle.std.specs.Fmt.{decimal}
use Rattle.std.specs.List.{count_by, flat_map, range_with_len}
use Rattle.std.proofs.lemmas.Bool.Decides.{nat_tests}
use Rattle.std.proofs.lemmas.Fmt.{length-decimal-le}
use Rattle.std.proofs.lemmas.List.{length-append, length-replicate}
use Rattle.std.proofs.lemmas.List.FromFn.{length-range_with_len, length-map-range_with_len}
use Rattle.std.proofs.lemmas.List.Sums.{count_by-le-length}
use Rattle.std.proofs.Math.Nat.{mul-le-mul_right, one-le-mul}
use Rattle.block_list.specs.declared.areas.Count.{Count}
use Rattle.block_list.specs.declared.status.Status.{Status}
use Rattle.block_list.specs.declared.status.Status.TheVariants.{NonTried, NonTrimmed, NonScraped, BadSector, Finished}
use Rattle.block_list.specs.Areas.{begins_area}
use Rattle.map_counts.specs.declared.summary.Summary.{Summary}
use Rattle.map_counts.specs.Summary.{has_status, summary_of}
use Rattle.ddrescueshow_words.specs.Command.{AreInLimits}
use Rattle.ddrescueshow_words.specs.declared.options.ShowOptions.{ShowOptions}
use Rattle.ddrescueshow_cli.specs.declared.form.Form.TheVariants.{Svg}
use Rattle.ddrescueshow_cli.specs.declared.frame.Frame.{Frame}
use Rattle.ddrescueshow_cli.specs.declared.runs.Run.{Run}
use Rattle.ddrescueshow_cli.specs.Cells.{IsFrame, begin_of, cells_in, cells_of_row, end_shown, frame_of, rows_in}
use Rattle.ddrescueshow_cli.specs.Runs.{marks_of, run_at, runs_of}
use Rattle.ddrescueshow_cli.specs.Svg.{class_of, first_meanings, group_text, meaning_text, name_text, other_meanings, rect_text, svg_foot, svg_front, svg_head, svg_height, svg_width}
use Rattle.ddrescueshow_cli.specs.Picture.{bad_text, cell_text, figures_text, line_of, picture_text, row_text, run_text, share, share_text}
use Rattle.ddrescueshow_cli.specs.Laws.{AreCells, SvgIsShort}
use Rattle.ddrescueshow_cli.proofs.CellLemmas.{is_frame, rows_fit}
use Rattle.ddrescueshow_cli.proofs.DrawLemmas.{rows_are}
use Rattle.ddrescueshow_cli.proofs.FigureLemmas.{rescued_part, share_most}
use Rattle.ddrescueshow_cli.proofs.RunLemmas.{runs_are_cells}
use Rattle.ddrescueshow_cli.proofs.SizeLemmas.{begins_before, cell_short}

-- a number below 2^63 has at most 19 digits
long : (n : ℕ) → n < 10 ^ 19 → length (decimal n) ≤ 19
long n few = length-decimal-le 19 n (omega arith) few (omega (arith, few))

-- ---- the rows

class_short : (m : Option Status) → length (class_of m) ≤ 1
class_short (Some NonTried) = omega arith
class_short _ = omega arith

five : (n : ℕ) → n < 10 ^ 5 → length (decimal n) ≤ 5
five n few = length-decimal-le 5 n (omega arith) few (omega (arith, few))

rect_short : (r : Run) → r.from ≤ 1000 → r.count ≤ 1000 → length (rect_text r) ≤ 54
rect_short r from count =
    let x = five (10 * r.from) (omega (arith, from)) in
    let width = five (10 * r.count) (omega (arith, count)) in
    simp length-append (omega (arith, class_short r.shown, x, width))

group_short : (y : ℕ) → y < 10 ^ 5 → length (group_text y) ≤ 34
group_short y low = simp length-append (omega (arith, five y low))

front_short : (row position : ℕ) → row ≤ 1000 → position < 10 ^ 19 → length (svg_front row position) ≤ 99
front_short row position low few =
    simp length-append (omega (arith, five (16 * row) (omega (arith, low)), long position few))

-- texts that are put together
three_short : (a b c : List ℕ) (x y z : ℕ) → length a ≤ x → length b ≤ y → length c ≤ z
    → length (a ++ b ++ c) ≤ x + y + z
three_short a b c x y z p q r = simp length-append (omega (arith, p, q, r))

two_short : (a b : List ℕ) (x y : ℕ) → length a ≤ x → length b ≤ y → length (a ++ b) ≤ x + y
two_short a b x y p q = omega (arith, length-append a b, p, q)

at_most : (a b c : ℕ) → a ≤ b → b ≤ c → a ≤ c
at_most a b c p q = omega (arith, p, q)

below : (a b c : ℕ) → a ≤ b → b < c → a < c
below a b c p q = omega (arith, p, q)

one_more : (all front last : List ℕ) (n k : ℕ) → all ≡ front ++ last → length front ≤ n * k → length last ≤ k
    → length all ≤ suc n * k
one_more all front last n k is p q =
    let e = ap length is ∙ length-append front last in
    let more : suc n * k ≡ k + n * k = omega arith in
    omega (arith, e, more, p, q)

rects_short : (from : ℕ) (rs : List Run) (marks : List (Option Status)) → AreCells from rs marks
    → from + length marks ≤ 1000 → length (flat_map rect_text rs) ≤ 54 * length marks
rects_short from [] marks is within = omega arith
rects_short from (r ∷ rs) marks (rest, at, some, split, more) within =
    let l : length marks ≡ r.count + length rest =
    ap length split ∙ length-append (replicate r.count r.shown) rest
    ∙ ap (λ (n : ℕ). n + length rest) (length-replicate r.count r.shown) in
    let here = rect_short r (omega (arith, at, within)) (omega (arith, l, within)) in
    let later = rects_short (from + r.count) rs rest more (omega (arith, l, within)) in
    omega (arith, length-append (rect_text r) (flat_map rect_text rs), here, later, l, some)

module _ (f : Frame) (is : IsFrame f) (domain : ℕ → Bool) (statuses : List Status) where
  runs_short : (row : ℕ) → length (flat_map (run_text Svg) (runs_of (marks_of f domain statuses row))) ≤ 54 * f.width
  runs_short row =
      let count : length (marks_of f domain statuses row) ≡ cells_of_row f row
      = length-map-range_with_len _ (row * f.width) (cells_of_row f row) in
      let rects = rects_short 0 (runs_of (marks_of f domain statuses row)) (marks_of f domain statuses row)
      (runs_are_cells (marks_of f domain statuses row)) (omega (arith, count, is.wide)) in
      omega (arith, rects, count)

  row_short : (row : ℕ) → row < rows_in f → length (row_text Svg f domain statuses row) ≤ 104 + 54 * f.width
  row_short row within =
      let first : row * f.width < cells_in f = begins_before (cells_in f) f.width row is.width within in
      let before : row * f.width * f.cell < f.to - f.from
      = begins_before (f.to - f.from) f.cell (row * f.width) is.cell first in
      let front = front_short row (begin_of f (row * f.width)) (omega (arith, within, is.high))
      (omega (arith, before, is.short)) in
      let all = three_short (svg_front row (begin_of f (row * f.width)))
      (flat_map (run_text Svg) (runs_of (marks_of f domain statuses row))) (codes "</g>\n") 99 (54 * f.width) 5 front
      (runs_short row) (omega arith) in
      at_most _ _ _ all (omega arith)

  rows_short : (n : ℕ) → n ≤ rows_in f
      → length (flat_map (row_text Svg f domain statuses) (range_with_len 0 n)) ≤ n * (104 + 54 * f.width)
  rows_short zero within = omega arith
  rows_short (suc n) within =
      let s : n + 1 ≡ suc n = omega arith in
      one_more (flat_map (row_text Svg f domain statuses) (range_with_len 0 (suc n)))
      (flat_map (row_text Svg f domain statuses) (range_with_len 0 n)) (row_text Svg f domain statuses n) n
      (104 + 54 * f.width)
      (ap (λ (k : ℕ). flat_map (row_text Svg f domain statuses) (range_with_len 0 k)) (sym s)
      ∙ rows_are (row_text Svg f domain statuses) n)
      (rows_short n (omega (arith, within))) (row_short n (omega (arith, within)))

-- ---- the head and the foot

share_bound : (rescued size : ℕ) (none : Bool) → nat_eq size 0 ≡ none → rescued ≤ size
    → cond none 10000 (rescued * 10000 / size) ≤ 10000
share_bound rescued size true is part = omega arith
share_bound rescued size false is part = share_most rescued size part (grind (arith, nat_tests, is))

counted_few : (set : ℕ → Bool) (n : ℕ) → count_by set (range_with_len 0 n) ≤ n
counted_few set n = omega (arith, count_by-le-length set (range_with_len 0 n), length-range_with_len 0 n)

-- figures of at most 19 digits
few_figures : (n size : ℕ) (bad : Count) → n ≤ 10000 → size < 10 ^ 19 → bad.bytes < 10 ^ 19 → bad.areas < 10 ^ 19
    → length ((share_text n ++ codes " % of " ++ decimal size ++ codes " B rescued, ") ++ bad_text bad) ≤ 97
few_figures n size bad part few bytes areas =
    let whole = length-decimal-le 3 (n / 100) (omega arith) (omega (arith, part)) (omega (arith, part)) in
    let tenth = length-decimal-le 1 (n / 10 % 10) (omega arith) (omega arith) (omega arith) in
    let last = length-decimal-le 1 (n % 10) (omega arith) (omega arith) (omega arith) in
    simp length-append (omega (
      arith,
      whole,
      tenth,
      last,
      long size few,
      long bad.bytes bytes,
      long bad.areas areas,
    ))

figures_short : (domain : ℕ → Bool) (statuses : List Status) → length statuses < 2 ^ 63
    → length (figures_text (summary_of domain statuses)) ≤ 97
figures_short domain statuses short =
    let s : Summary = summary_of domain statuses in
    let n : ℕ = length statuses in
    let bad : ℕ → Bool = has_status domain statuses BadSector in
    few_figures (share (line_of s 4).bytes s.domain) s.domain (line_of s 3)
    (share_bound (line_of s 4).bytes s.domain (nat_eq s.domain 0) refl (rescued_part domain statuses))
    (omega (arith, counted_few domain n, short)) (omega (arith, counted_few bad n, short))
    (omega (arith, counted_few (begins_area bad) n, short))

head_short : (f : Frame) → IsFrame f → (figures cell : List ℕ) → length figures ≤ 97 → length cell ≤ 31
    → length (svg_head f figures cell) ≤ 1200
head_short f is figures cell short size =
    let width = five (svg_width f) (omega (arith, is.wide)) in
    let height = five (svg_height f) (omega (arith, is.high)) in
    simp length-append (omega (arith, width, height, short, size))

cell_short_text : (f : Frame) → f.cell < 10 ^ 19 → length (cell_text f) ≤ 31
cell_short_text f few = simp length-append (omega (arith, long f.cell few))

meaning_short : (y : ℕ) (shown : Option Status) (name : List ℕ) → y < 10 ^ 5 → length name ≤ 24
    → length (meaning_text y shown name) ≤ 144
meaning_short y shown name low short =
    three_short (group_text y) (rect_text (run_at 0 shown)) (name_text name) 34 54 56 (group_short y low)
    (rect_short (run_at 0 shown) (omega arith) (omega arith)) (simp length-append (omega (arith, short)))

first_short : length first_meanings ≤ 432
first_short =
    three_short (meaning_text 20 (Some Finished) (codes "finished")) (meaning_text 40 (Some NonTried) (codes "non-tried"))
    (meaning_text 60 (Some NonTrimmed) (codes "non-trimmed")) 144 144 144
    (meaning_short 20 (Some Finished) (codes "finished") (omega arith) (omega arith))
    (meaning_short 40 (Some NonTried) (codes "non-tried") (omega arith) (omega arith))
    (meaning_short 60 (Some NonTrimmed) (codes "non-trimmed") (omega arith) (omega arith))

others_short : length other_meanings ≤ 432
others_short =
    three_short (meaning_text 80 (Some NonScraped) (codes "non-scraped"))
    (meaning_text 100 (Some BadSector) (codes "bad-sector")) (meaning_text 120 None (codes "blank: not in the domain"))
    144 144 144 (meaning_short 80 (Some NonScraped) (codes "non-scraped") (omega arith) (omega arith))
    (meaning_short 100 (Some BadSector) (codes "bad-sector") (omega arith) (omega arith))
    (meaning_short 120 None (codes "blank: not in the domain") (omega arith) (omega arith))

foot_short : (f : Frame) → IsFrame f → length (svg_foot f) ≤ 910
foot_short f is =
    three_short (group_text (16 * rows_in f) ++ first_meanings) other_meanings (codes "</g>\n</svg>\n") 466 432 12
    (two_short (group_text (16 * rows_in f)) first_meanings 34 432
    (group_short (16 * rows_in f) (omega (arith, is.high))) first_short)
    others_short (omega arith)

-- ---- all of it

fits_in : (o : ShowOptions) (domain : ℕ → Bool) (statuses : List Status) → AreInLimits o → length statuses < 2 ^ 63
    → o.width * o.rows ≤ 16000
    → length (picture_text Svg (frame_of o (length statuses)) domain statuses) < 2 ^ 20
fits_in o domain statuses limits short few =
    let end : ℕ = length statuses in
    let f : Frame = frame_of o end in
    let is : IsFrame f = is_frame o end limits short in
    let span : ℕ = end_shown o.input_position o.size end - o.input_position in
    let some = one-le-mul limits.width limits.rows in
    let cell = cell_short span o.sector (o.width * o.rows) _ limits.sector some refl in
    let figures : List ℕ = figures_text (summary_of domain statuses) in
    let size = cell_short_text f (omega (arith, cell, is.short, limits.sector_max)) in
    let head = head_short f is figures (cell_text f) (figures_short domain statuses short) size in
    let rows = rows_short f is domain statuses (rows_in f) (omega arith) in
    let high : rows_in f * (104 + 54 * o.width) ≤ o.rows * (104 + 54 * o.width) = mul-le-mul_right (104 + 54 * o.width) (rows_fit o end limits) in
    let turned : o.rows * (104 + 54 * o.width) ≡ 104 * o.rows + 54 * (o.width * o.rows) = omega arith in
    let all = three_short (svg_head f figures (cell_text f))
    (flat_map (row_text Svg f domain statuses) (range_with_len 0 (rows_in f))) (svg_foot f) 1200
    (rows_in f * (104 + 54 * o.width)) 910 head rows (foot_short f is) in
    below _ _ _ all (omega (arith, high, turned, few, limits.rows_max))

pub svg_is_short : SvgIsShort
svg_is_short o domain statuses limits svg fits short =
    let few : nat_lt 16000 (o.width * o.rows) ≡ false
    = ap (λ (b : Bool). b && nat_lt 16000 (o.width * o.rows)) (sym svg) ∙ fits in
    fits_in o domain statuses limits short (grind (arith, nat_tests, few))
