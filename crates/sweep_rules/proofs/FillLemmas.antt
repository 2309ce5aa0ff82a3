-- A filling stops safely.
use Rattle.std.proofs.Common.{◌≡◌, ◌⊎◌, inl, inr, ⊎_elim, ℕ, zero, suc, ◌+◌, ◌-◌, ◌<◌, ◌≤◌, Bool, true, false, if◌then◌else◌, List, [], ◌∷◌, ◌++◌, length, take, All, get_or, Some, None, refl, sym, ◌∙◌, ap, subst, arith, append_assoc, append-nil}
use Rattle.std.specs.List.{slice_get}
use Rattle.std.proofs.lemmas.List.{length-take-le}
use Rattle.std.proofs.lemmas.List.Elements.{All-append, All-nil, All-cons, All-head, All-tail}
use Rattle.std.proofs.lemmas.Option.{slice_get-get_or, slice_get_within}
use Rattle.block_list.specs.declared.status.Status.{Status}
use Rattle.block_list.specs.declared.types.TypeSet.{TypeSet}
use Rattle.crash_site.specs.Files.{File, written}
use Rattle.crash_site.specs.Left.{IsLoose, Matches}
use Rattle.rescue_rules.specs.Setting.{Setting, IsSensible, place}
use Rattle.rescue_rules.specs.Snapshots.{Snapshot}
use Rattle.rescue_rules.specs.Deeds.{Deed, Outlasts}
use Rattle.rescue_rules.proofs.WriteLemmas.{written_inside, written_outside}
use Rattle.rescue_rules.proofs.MarkLemmas.{slice_get-take}
use Rattle.rescue_rules.proofs.HoldLemmas.{loose_same}
use Rattle.rescue_rules.proofs.KeepLemmas.{SavesOn, KeepsMaps, Promise, Free}
use Rattle.sweep_rules.specs.Sweep.{Sweeper, Sweep, Swept, IsSweep, filler, after_piece, after_pieces, is_save_due, sweep_snapshot, deeds_of}
use Rattle.sweep_rules.specs.SweepWork.{sweep_begins}
use Rattle.sweep_rules.specs.SweepStops.{pieces_before, AreFilled, FillPromise, sweep_saves, FillsSafely}
use Rattle.sweep_rules.proofs.SweepLemmas.{Within, piece_within}
use Rattle.sweep_rules.proofs.EndLemmas.{IsTail, saves_tailed, end_map, first, last_of, tailed, course, sweep_stops_by}

-- a place holds the buffer's front from a piece's beginning on
abbrev HoldsPiece : Setting → (buffer image : List ℕ) → Swept → Type 0
HoldsPiece s buffer image e = (i : ℕ) → i < e.len → slice_get image (place s e.pos + i) ≡ slice_get buffer i

-- a place is none of a piece's
abbrev IsOff : Setting → (y : ℕ) → Swept → Type 0
IsOff s y e = (y < place s e.pos) ⊎ (place s e.pos + e.len ≤ y)

-- the pieces in front of the mapfile that stood there are none
none_before : (w : Sweeper) (m : Sweep) (es : List Swept) → pieces_before w m es 0 ≡ []
none_before w m [] = refl
none_before w m (e ∷ es) = refl

-- what holds of all pieces holds of those in front of a save
before_all : (P : Swept → Type 0) (w : Sweeper) (es : List Swept) (m : Sweep) (n : ℕ) → All P es
    → All P (pieces_before w m es n)
before_all P w [] m n all = All-nil P
before_all P w (e ∷ es) m zero all = All-nil P
before_all P w (e ∷ es) m (suc n) all =
    All-cons P e (pieces_before w (after_piece w m e) es (if is_save_due m e then n else suc n)) (All-head P e es all)
    (before_all P w es (after_piece w m e) (if is_save_due m e then n else suc n) (All-tail P e es all))

-- what was filled outlasts writes elsewhere
filled_outlasts : (s : Setting) (buffer : List ℕ) (before : List Swept) (was now : File) (loose : List (ℕ × ℕ))
    → All (λ e. e.len ≤ length buffer) before → Matches was loose now
    → ((y : ℕ) → IsLoose loose y → All (IsOff s y) before) → AreFilled s buffer before was.bytes
    → AreFilled s buffer before now.bytes
filled_outlasts s buffer [] was now loose few m free h = All-nil (HoldsPiece s buffer now.bytes)
filled_outlasts s buffer (e ∷ es) was now loose few m free h =
    All-cons (HoldsPiece s buffer now.bytes) e es
    (λ i lt.
    let y : ℕ = place s e.pos + i in
    let is : slice_get was.bytes y ≡ slice_get buffer i = All-head (HoldsPiece s buffer was.bytes) e es h i lt in
    let short : e.len ≤ length buffer = All-head (λ (e : Swept). e.len ≤ length buffer) e es few in
    let some : slice_get buffer i ≡ Some (get_or buffer i 0) = slice_get-get_or buffer i 0 (omega (arith, lt, short)) in
    let there : y < length was.bytes = slice_get_within was.bytes y (get_or buffer i 0) (is ∙ some) in
    loose_same was loose now y m (λ l. ⊎_elim (λ (a : y < place s e.pos). absurd (omega (arith, a)))
    (λ (a : place s e.pos + e.len ≤ y). absurd (omega (arith, a, lt))) (All-head (IsOff s y) e es (free y l))) there
    ∙ is)
    (filled_outlasts s buffer es was now loose (All-tail (λ (e : Swept). e.len ≤ length buffer) e es few) m
    (λ y l. All-tail (IsOff s y) e es (free y l)) (All-tail (HoldsPiece s buffer was.bytes) e es h))

module _ (s : Setting) (types : TypeSet) (buffer : List ℕ) (ok : IsSensible s) (size : length buffer ≡ s.cluster) where
  -- a piece that lies below a cursor
  record IsBelow (cursor : ℕ) (e : Swept) : Type 0 where
    low : s.input_position ≤ e.pos
    end : e.pos + e.len ≤ cursor
    few : e.len ≤ length buffer

  below_more : (c c' : ℕ) (es : List Swept) → c ≤ c' → All (IsBelow c) es → All (IsBelow c') es
  below_more c c' [] le all = All-nil (IsBelow c')
  below_more c c' (e ∷ es) le all =
      let b : IsBelow c e = All-head (IsBelow c) e es all in
      All-cons (IsBelow c') e es (record { low = b.low; end = omega (arith, b.end, le); few = b.few })
      (below_more c c' es le (All-tail (IsBelow c) e es all))

  -- a place at or past another piece is none of theirs
  places_off : (c p y : ℕ) (es : List Swept) → c ≤ p → place s p ≤ y → All (IsBelow c) es → All (IsOff s y) es
  places_off c p y [] le from all = All-nil (IsOff s y)
  places_off c p y (e ∷ es) le from all =
      let b : IsBelow c e = All-head (IsBelow c) e es all in
      All-cons (IsOff s y) e es (inr (omega (arith, b.low, b.end, le, from)))
      (places_off c p y es le from (All-tail (IsBelow c) e es all))

  -- a write there leaves them
  writes_off : (c p : ℕ) (piece image : List ℕ) (es : List Swept) → c ≤ p → All (IsBelow c) es
      → AreFilled s buffer es image → AreFilled s buffer es (written image (place s p) piece)
  writes_off c p piece image [] le all h = All-nil (HoldsPiece s buffer (written image (place s p) piece))
  writes_off c p piece image (e ∷ es) le all h =
      let b : IsBelow c e = All-head (IsBelow c) e es all in
      All-cons (HoldsPiece s buffer (written image (place s p) piece)) e es
      (λ i lt.
      let y : ℕ = place s e.pos + i in
      let is : slice_get image y ≡ slice_get buffer i = All-head (HoldsPiece s buffer image) e es h i lt in
      let some : slice_get buffer i ≡ Some (get_or buffer i 0)
      = slice_get-get_or buffer i 0 (omega (arith, lt, b.few)) in
      written_outside image (place s p) piece y (slice_get_within image y (get_or buffer i 0) (is ∙ some))
      (inl (omega (arith, b.low, b.end, le, lt))) ∙ is)
      (writes_off c p piece image es le (All-tail (IsBelow c) e es all) (All-tail (HoldsPiece s buffer image) e es h))

  -- and holds what it writes
  writes_piece : (e : Swept) (image : List ℕ) → e.len ≤ length buffer
      → HoldsPiece s buffer (written image (place s e.pos) (take e.len buffer)) e
  writes_piece e image few i lt =
      written_inside image (place s e.pos) (take e.len buffer) (place s e.pos + i) i refl
      (omega (arith, lt, length-take-le e.len buffer few)) ∙ slice_get-take e.len buffer i lt

  -- the pieces of a sweep are a buffer at most
  piece_few : (m : Sweep) (p len : ℕ) → Within s m p (p + len) → len ≤ length buffer
  piece_few m p len h = omega (arith, h.few, size)

  pieces_few : (m : Sweep) (es : List Swept) → IsSweep s (filler s types buffer) m es
      → All (λ e. e.len ≤ length buffer) es
  pieces_few m [] sweep = All-nil (λ (e : Swept). e.len ≤ length buffer)
  pieces_few m (e ∷ es) sweep =
      All-cons (λ (e : Swept). e.len ≤ length buffer) e es
      (piece_few m e.pos e.len (piece_within s (filler s types buffer) m e.pos (e.pos + e.len) sweep.0))
      (pieces_few (after_piece (filler s types buffer) m e) es sweep.2)

  module _ (began : List Status) (pieces : ℕ → List Swept) where
    abbrev Filling : ℕ → List Status → List ℕ → Type 0
    Filling n map image = FillPromise s buffer began (pieces n) map image

    -- places of no piece in front of the last save
    abbrev Open : ℕ → List Status → ℕ → Type 0
    Open n map y = All (IsOff s y) (pieces n)

    fill_outlasts : (saves : List Snapshot) (start : List ℕ) → ((n : ℕ) → All (λ e. e.len ≤ length buffer) (pieces n))
        → Outlasts (Promise Filling Open began saves) (Free Filling Open began saves) start
    fill_outlasts saves start few = record {
      lasts = λ n was now loose m free long h. record {
        same = h.same;
        filled = filled_outlasts s buffer (pieces n) was now loose (few n) m free h.filled;
      };
    }

    -- a filling that has come to a state: the pieces that it did, and those that are in front of its last save
    record Filled (done : List Swept) (n : ℕ) (m : Sweep) (es : List Swept) (image : List ℕ) : Type 0 where
      kept : m.map ≡ began
      low : All (IsBelow m.cursor) done
      saved : All (IsBelow m.cursor) (pieces n)
      holds : AreFilled s buffer done image
      goes : (k j : ℕ) → k ≡ n + suc j → pieces k ≡ done ++ pieces_before (filler s types buffer) m es (suc j)

    fill_end : (done : List Swept) (n : ℕ) (m : Sweep) (image : List ℕ) (map : List Status) → map ≡ began
        → ((k j : ℕ) → k ≡ n + suc j → pieces k ≡ done ++ pieces_before (filler s types buffer) m [] (suc j))
        → AreFilled s buffer done image → FillPromise s buffer began (pieces (suc n)) map image
    fill_end done n m image map same goes holds = record {
      same = same;
      filled = subst (λ (l : List Swept). AreFilled s buffer l image)
          (sym (goes (suc n) 0 (omega arith) ∙ append-nil done)) holds;
    }

    fill_tail : (done : List Swept) (n : ℕ) (map : List Status) (m : Sweep) (image : List ℕ) (tail : List Deed)
        (last : Snapshot) → Filled done n m [] image → IsTail s (filler s types buffer) m tail → last.map ≡ m.map
        → KeepsMaps Filling Open n map image tail last
    fill_tail done n map m image tail last h (inl is) same =
        subst (λ (l : List Deed). KeepsMaps Filling Open n map image l last) (sym is)
        (fill_end done n m image last.map (same ∙ h.kept) h.goes h.holds)
    fill_tail done n map m image tail last h (inr t) same =
        let p : ℕ = t.0 in
        let q : ℕ = t.1 in
        let piece : List ℕ = take (q - p) buffer in
        let in_it : Within s m p q = piece_within s (filler s types buffer) m p q t.2 in
        subst (λ (l : List Deed). KeepsMaps Filling Open n map image l last) (sym t.3) (
          (λ y from to. places_off m.cursor p y (pieces n) in_it.past from h.saved, tt),
          fill_end done n m (written image (place s p) piece) last.map (same ∙ h.kept) h.goes
              (writes_off m.cursor p piece image done in_it.past h.low h.holds),
        )

    fill_due : (due : Bool) (done : List Swept) (n : ℕ) (map : List Status) (m : Sweep) (e : Swept) (es : List Swept)
        (image : List ℕ) → is_save_due m e ≡ due → (after_piece (filler s types buffer) m e).map ≡ began
        → All (IsBelow (e.pos + e.len)) (done ++ e ∷ []) → All (IsBelow (e.pos + e.len)) (pieces n)
        → AreFilled s buffer (done ++ e ∷ []) image
        → ((k j : ℕ) → k ≡ n + suc j → pieces k ≡ done ++ pieces_before (filler s types buffer) m (e ∷ es) (suc j))
        → (next : ℕ → List Status → Type 0)
        → ((k : ℕ) (t : List Status) → Filled (done ++ e ∷ []) k (after_piece (filler s types buffer) m e) es image → next k t)
        → SavesOn Filling Open n map image
        (if due then Some (sweep_snapshot (after_piece (filler s types buffer) m e)) else None) next
    fill_due true done n map m e es image is kept low saved holds goes next go =
        let w : Sweeper = filler s types buffer in
        let m' : Sweep = after_piece w m e in
        let later : (k j : ℕ) → k ≡ n + suc j → pieces k ≡ (done ++ e ∷ []) ++ pieces_before w m' es j
        = λ k j at. goes k j at
        ∙ ap (λ (b : Bool). done ++ e ∷ pieces_before w m' es (if b then j else suc j)) is
        ∙ sym (append_assoc done (e ∷ []) (pieces_before w m' es j)) in
        let here : pieces (suc n) ≡ done ++ e ∷ []
        = later (suc n) 0 (omega arith)
        ∙ ap (λ (l : List Swept). (done ++ e ∷ []) ++ l) (none_before w m' es) ∙ append-nil (done ++ e ∷ []) in (
          record { same = kept; filled = subst (λ (l : List Swept). AreFilled s buffer l image) (sym here) holds },
          go (suc n) m'.map (record {
            kept = kept;
            low = low;
            saved = subst (λ (l : List Swept). All (IsBelow (e.pos + e.len)) l) (sym here) low;
            holds = holds;
            goes = λ k j at. later k (suc j) (omega (arith, at));
          }),
        )
    fill_due false done n map m e es image is kept low saved holds goes next go =
        let w : Sweeper = filler s types buffer in
        let m' : Sweep = after_piece w m e in
        go n map (record {
          kept = kept;
          low = low;
          saved = saved;
          holds = holds;
          goes = λ k j at. goes k j at
              ∙ ap (λ (b : Bool). done ++ e ∷ pieces_before w m' es (if b then j else suc j)) is
              ∙ sym (append_assoc done (e ∷ []) (pieces_before w m' es (suc j)));
        })

    fill_keeps : (es : List Swept) (done : List Swept) (n : ℕ) (map : List Status) (m : Sweep) (image : List ℕ)
        (tail : List Deed) (last : Snapshot) → IsSweep s (filler s types buffer) m es → Filled done n m es image
        → IsTail s (filler s types buffer) (after_pieces (filler s types buffer) m es) tail
        → last.map ≡ (after_pieces (filler s types buffer) m es).map
        → KeepsMaps Filling Open n map image (deeds_of (filler s types buffer) m es ++ tail) last
    fill_keeps [] done n map m image tail last sweep h is_tail same = fill_tail done n map m image tail last h is_tail same
    fill_keeps (e ∷ es) done n map m image tail last sweep h is_tail same =
        let w : Sweeper = filler s types buffer in
        let m' : Sweep = after_piece w m e in
        let in_it : Within s m e.pos (e.pos + e.len) = piece_within s w m e.pos (e.pos + e.len) sweep.0 in
        let few : e.len ≤ length buffer = piece_few m e.pos e.len in_it in
        let on : m.cursor ≤ e.pos + e.len = omega (arith, in_it.past) in
        let after : List ℕ = written image (place s e.pos) (take e.len buffer) in
        let here : IsBelow (e.pos + e.len) e = record { low = ok.from e.pos in_it.some; end = omega arith; few = few } in (
          (λ y from to. places_off m.cursor e.pos y (pieces n) in_it.past from h.saved, tt),
          fill_due (is_save_due m e) done n map m e es after refl h.kept
              (All-append (IsBelow (e.pos + e.len)) done (e ∷ []) (below_more m.cursor (e.pos + e.len) done on h.low)
              (All-cons (IsBelow (e.pos + e.len)) e [] here (All-nil (IsBelow (e.pos + e.len)))))
              (below_more m.cursor (e.pos + e.len) (pieces n) on h.saved)
              (All-append (HoldsPiece s buffer after) done (e ∷ [])
              (writes_off m.cursor e.pos (take e.len buffer) image done in_it.past h.low h.holds)
              (All-cons (HoldsPiece s buffer after) e [] (writes_piece e image few) (All-nil (HoldsPiece s buffer after))))
              h.goes
              (λ k t. KeepsMaps Filling Open k t after (deeds_of w m' es ++ tail) last)
              (λ k t h'. fill_keeps es (done ++ e ∷ []) k t m' after tail last sweep.2 h' is_tail same),
        )

pub fills_safely : FillsSafely
fills_safely b s types buffer g statuses state ok on three low times size o =
    let w : Sweeper = filler s types buffer in
    let es : List Swept = o.sweeps.events in
    let m : Sweep = first b s w g statuses state on o in
    let t = tailed b s w g statuses state on o in
    let last : Snapshot = last_of b s w g statuses state on o in
    let pieces : ℕ → List Swept = pieces_before w m es in
    let none : pieces 0 ≡ [] = none_before w m es in
    sweep_stops_by b s w g statuses state on o
    (λ old began shown n map image. FillPromise s buffer began
    (pieces_before w (sweep_begins w began shown g) es n) map image)
    (λ began shown n map y. All (IsOff s y) (pieces_before w (sweep_begins w began shown g) es n))
    (λ map e. refl) three low times tt
    (λ was could. record {
      deeds = deeds_of w m es ++ t.tail;
      last = last;
      saves_are = saves_tailed s w (after_pieces w m es) (deeds_of w m es) t.tail last t.is_tail;
      outlasts = fill_outlasts s types buffer ok size statuses pieces
          (sweep_saves w statuses state g es o.end) was.bytes
          (λ n. before_all (λ (e : Swept). e.len ≤ length buffer) w es m n
          (pieces_few s types buffer ok size m es o.sweeps.run));
      first = record {
        same = refl;
        filled = subst (λ (l : List Swept). AreFilled s buffer l was.bytes) (sym none)
            (All-nil (HoldsPiece s buffer was.bytes));
      };
      keeps = fill_keeps s types buffer ok size statuses pieces es [] 0 statuses m was.bytes t.tail last o.sweeps.run
          (record {
            kept = refl;
            low = All-nil (IsBelow s types buffer ok size m.cursor);
            saved = subst (λ (l : List Swept). All (IsBelow s types buffer ok size m.cursor) l) (sym none)
                (All-nil (IsBelow s types buffer ok size m.cursor));
            holds = All-nil (HoldsPiece s buffer was.bytes);
            goes = λ k j at. ap pieces (let e : k ≡ suc j = omega (arith, at) in e);
          })
          t.is_tail (end_map _ (after_pieces w m es));
      course = course b s w g statuses state on o;
    })
