-- Where a generating read the output its pieces are.
use Rattle.std.proofs.Common.{◌≡◌, ⊎_elim, ℕ, ◌+◌, ◌-◌, ◌≤◌, Bool, true, false, if◌then◌else◌, List, [], ◌∷◌, ◌++◌, length, map, take, drop, All, Option, Some, None, is_none, refl, sym, ap, ◌∙◌, arith, append-nil, append_assoc}
use Rattle.std.specs.List.{flat_map, enumerate_from}
use Rattle.std.proofs.lemmas.List.{length-take, map-append, take_min}
use Rattle.std.proofs.lemmas.List.Elements.{All-nil, All-cons, All-head, All-tail, All-append}
use Rattle.mapfile_text.specs.Pieces.{pieces_of}
use Rattle.crash_site.specs.declared.site.SiteCall.{SiteCall}
use Rattle.crash_site.specs.Calls.{Call, image_open, image_read, image_write, image_sync, map_read, draft_begin, draft_append, draft_sync, draft_publish, map_settle, map_remove, Entry, Done, Failed}
use Rattle.crash_site.specs.CallsMade.{Lost, BrokeAt}
use Rattle.mapfile_save.specs.MapNames.{MapNames}
use Rattle.mapfile_save.specs.Loading.{barrier_calls}
use Rattle.mapfile_save.specs.Saving.{fill_calls, save_calls}
use Rattle.rescue_rules.specs.declared.stop.RunEnd.{RunEnd}
use Rattle.rescue_rules.specs.Setting.{Setting, place}
use Rattle.rescue_rules.specs.Snapshots.{Snapshot, text_of}
use Rattle.rescue_rules.specs.Deeds.{save_of}
use Rattle.rescue_rules.specs.RunCalls.{closing_calls}
use Rattle.rescue_rules.specs.Work.{is_map_read, AreMapReads}
use Rattle.rescue_rules.proofs.CutLemmas.{Cut}
use Rattle.rescue_rules.proofs.MapfileLemmas.{opening_by}
use Rattle.sweep_rules.specs.Sweep.{Sweep, Swept, generator, after_piece, after_pieces, due_save, sweep_end}
use Rattle.sweep_rules.specs.SweepLaws.{AreGiven}
use Rattle.sweep_rules.specs.SweepWork.{SweepEnds, IsSaved, IsUnsaved, IsCut, IsBroken, sweep_calls, sweep_opening, lost_call}
use Rattle.rescue_safety.specs.Safe.{Target}
use Rattle.rescue_safety.specs.MixedRuns.{looked_at}
use Rattle.rescue_safety.proofs.LookedLemmas.{pieces_given, StartFrom}

-- where calls read the output, and how many bytes each of them got
abbrev pub looks_in : List Entry → List (ℕ × ℕ)
looks_in [] = []
looks_in (Done (image_read at asked (Some n)) ∷ es) = (at, n) ∷ looks_in es
looks_in (e ∷ es) = looks_in es

-- the bytes of an output there
abbrev pub look_pairs : Target → (image : List ℕ) → List (ℕ × ℕ) → List (ℕ × ℕ)
look_pairs t image looks = flat_map (λ l. enumerate_from (l.0 + t.from - t.to) (take l.1 (drop l.0 image))) looks

-- ---- one call

abbrev look_of : Entry → List (ℕ × ℕ)
look_of (Done (image_read at asked (Some n))) = (at, n) ∷ []
look_of e = []

looks_step : (e : Entry) (es : List Entry) → looks_in (e ∷ es) ≡ look_of e ++ looks_in es
looks_step (Done (image_read at asked None)) es = refl
looks_step _ es = refl

looked_step : (t : Target) (image : List ℕ) (e : Entry) (es : List Entry)
    → looked_at t image (e ∷ es) ≡ look_pairs t image (look_of e) ++ looked_at t image es
looked_step t image (Done (image_read at asked (Some n))) es =
    ap (λ (l : List (ℕ × ℕ)). l ++ looked_at t image es) (sym (append-nil _))
looked_step t image _ es = refl

pairs_both : (t : Target) (image : List ℕ) (cs bs : List (ℕ × ℕ))
    → look_pairs t image (cs ++ bs) ≡ look_pairs t image cs ++ look_pairs t image bs
pairs_both t image [] bs = refl
pairs_both t image (a ∷ cs) bs =
    let here : List (ℕ × ℕ) = enumerate_from (a.0 + t.from - t.to) (take a.1 (drop a.0 image)) in
    ap (λ (l : List (ℕ × ℕ)). here ++ l) (pairs_both t image cs bs)
    ∙ sym (append_assoc here (look_pairs t image cs) (look_pairs t image bs))

pub looked_by : (t : Target) (image : List ℕ) (es : List Entry) → looked_at t image es ≡ look_pairs t image (looks_in es)
looked_by t image [] = refl
looked_by t image (e ∷ es) =
    looked_step t image e es
    ∙ ap (λ (l : List (ℕ × ℕ)). look_pairs t image (look_of e) ++ l) (looked_by t image es)
    ∙ sym (pairs_both t image (look_of e) (looks_in es))
    ∙ ap (look_pairs t image) (sym (looks_step e es))

-- calls one after the other
pub looks_both : (es fs : List Entry) → looks_in (es ++ fs) ≡ looks_in es ++ looks_in fs
looks_both [] fs = refl
looks_both (e ∷ es) fs =
    looks_step e (es ++ fs) ∙ ap (λ (l : List (ℕ × ℕ)). look_of e ++ l) (looks_both es fs)
    ∙ sym (append_assoc (look_of e) (looks_in es) (looks_in fs))
    ∙ ap (λ (l : List (ℕ × ℕ)). l ++ looks_in fs) (sym (looks_step e es))

-- ---- calls that don't read the output

abbrev pub IsBlind : Call → Type 0
IsBlind c = look_of (Done c) ≡ []

pub cut_looks : (cs : List Call) (es : List Entry) → All IsBlind cs → Cut cs es → looks_in es ≡ []
cut_looks cs [] blind cut = refl
cut_looks [] (e ∷ es) blind cut = absurd cut
cut_looks (c ∷ cs) (Done x ∷ es) blind cut =
    looks_step (Done x) es
    ∙ ap (λ (l : List (ℕ × ℕ)). l ++ looks_in es)
    (ap (λ (z : Call). look_of (Done z)) cut.0 ∙ All-head IsBlind c cs blind)
    ∙ cut_looks cs es (All-tail IsBlind c cs blind) cut.1
cut_looks (c ∷ cs) (Failed x steps ∷ es) blind cut = ap looks_in cut.1

blind_looks : (cs : List Call) → All IsBlind cs → looks_in (map Done cs) ≡ []
blind_looks [] blind = refl
blind_looks (c ∷ cs) blind =
    looks_step (Done c) (map Done cs)
    ∙ ap (λ (l : List (ℕ × ℕ)). l ++ looks_in (map Done cs)) (All-head IsBlind c cs blind)
    ∙ blind_looks cs (All-tail IsBlind c cs blind)

-- after other calls
blind_after : (es : List Entry) (cs : List Call) → All IsBlind cs → looks_in (es ++ map Done cs) ≡ looks_in es
blind_after es cs blind =
    looks_both es (map Done cs) ∙ ap (λ (l : List (ℕ × ℕ)). looks_in es ++ l) (blind_looks cs blind)
    ∙ append-nil (looks_in es)

pub blind_before : (cs : List Call) (es : List Entry) → All IsBlind cs → looks_in (map Done cs ++ es) ≡ looks_in es
blind_before cs es blind =
    looks_both (map Done cs) es ∙ ap (λ (l : List (ℕ × ℕ)). l ++ looks_in es) (blind_looks cs blind)

lost_looks : (c : Call) (old new : List Entry) → Lost c old new → looks_in new ≡ looks_in old
lost_looks c old new h =
    ⊎_elim
    (λ (is : (steps : ℕ) × (new ≡ old ++ Failed c steps ∷ [])).
    ap looks_in is.1 ∙ looks_both old (Failed c is.0 ∷ []) ∙ append-nil (looks_in old))
    (λ (is : new ≡ old). ap looks_in is) h

broke_looks : (at : SiteCall) (cs : List Call) (old new : List Entry) → All IsBlind cs → BrokeAt at cs old new
    → looks_in new ≡ looks_in old
broke_looks at [] old new blind h = absurd h
broke_looks at (c ∷ cs) old new blind h =
    ⊎_elim (λ lost. lost_looks c old new lost.1)
    (λ (rest : BrokeAt at cs (old ++ Done c ∷ []) new).
    broke_looks at cs (old ++ Done c ∷ []) new (All-tail IsBlind c cs blind) rest
    ∙ blind_after old (c ∷ []) (All-cons IsBlind c [] (All-head IsBlind c cs blind) (All-nil IsBlind))) h

-- ---- which calls don't

read_blind : (c : Call) → is_map_read c ≡ true → IsBlind c
read_blind (map_read name at size answer) is = refl
read_blind c is = absurd (cc)

pub reads_blind : (calls : List Call) → AreMapReads calls → All IsBlind calls
reads_blind [] reads = All-nil IsBlind
reads_blind (c ∷ calls) reads =
    All-cons IsBlind c calls (read_blind c (All-head (λ c. is_map_read c ≡ true) c calls reads))
    (reads_blind calls (All-tail (λ c. is_map_read c ≡ true) c calls reads))

barrier_blind : (names : MapNames) → All IsBlind (barrier_calls names)
barrier_blind names =
    All-cons IsBlind (map_settle names.map) (image_sync ∷ []) refl (All-cons IsBlind image_sync [] refl (All-nil IsBlind))

pub opening_blind : (s : Setting) (makes : Bool) → All IsBlind (opening_by s makes)
opening_blind s makes =
    All-cons IsBlind (image_open s.outfile makes) (barrier_calls s.names) refl (barrier_blind s.names)

barred_blind : (on : Bool) (names : MapNames) → All IsBlind (if on then barrier_calls names else [])
barred_blind true names = barrier_blind names
barred_blind false names = All-nil IsBlind

pub sweep_opening_blind : (s : Setting) (makes : Bool) → All IsBlind (sweep_opening s makes)
sweep_opening_blind s makes =
    All-cons IsBlind (image_open s.outfile makes) (if s.has_mapfile then barrier_calls s.names else []) refl
    (barred_blind s.has_mapfile s.names)

appends_blind : (ps : List (List ℕ)) → All IsBlind (map draft_append ps)
appends_blind [] = All-nil IsBlind
appends_blind (p ∷ ps) = All-cons IsBlind (draft_append p) (map draft_append ps) refl (appends_blind ps)

pub save_blind : (names : MapNames) (text : List ℕ) → All IsBlind (save_calls names text)
save_blind names text =
    let end : List Call = draft_sync ∷ draft_publish names.map ∷ map_settle names.map ∷ [] in
    All-cons IsBlind image_sync (draft_begin names.draft ∷ (fill_calls text ++ end)) refl
    (All-cons IsBlind (draft_begin names.draft) (fill_calls text ++ end) refl
    (All-append IsBlind (fill_calls text) end
    (appends_blind (pieces_of text))
    (All-cons IsBlind draft_sync (draft_publish names.map ∷ map_settle names.map ∷ []) refl
    (All-cons IsBlind (draft_publish names.map) (map_settle names.map ∷ []) refl
    (All-cons IsBlind (map_settle names.map) [] refl (All-nil IsBlind))))))

saves_blind : (s : Setting) (save : Option Snapshot) → All IsBlind (save_of s save)
saves_blind s None = All-nil IsBlind
saves_blind s (Some p) = save_blind s.names (text_of s.line p)

closing_blind : (on : Bool) (names : MapNames) (text : List ℕ)
    → All IsBlind (if on then save_calls names text else image_sync ∷ [])
closing_blind true names text = save_blind names text
closing_blind false names text = All-cons IsBlind image_sync [] refl (All-nil IsBlind)

-- ---- the pieces of a sweep

module _ (s : Setting) where
  abbrev pub piece_look : Swept → ℕ × ℕ
  piece_look e = (place s e.pos, length e.got)

  pieces_look : (m : Sweep) (es : List Swept) → looks_in (map Done (sweep_calls s (generator s) m es)) ≡ map piece_look es
  pieces_look m [] = refl
  pieces_look m (e ∷ es) =
      let read : Call = image_read (place s e.pos) e.len (Some (length e.got)) in
      let save : List Call = save_of s (due_save (generator s) m e) in
      let more : List Call = sweep_calls s (generator s) (after_piece (generator s) m e) es in
      ap looks_in (map-append Done (read ∷ save) more)
      ∙ looks_both (map Done (read ∷ save)) (map Done more)
      ∙ ap (λ (l : List (ℕ × ℕ)). l ++ looks_in (map Done more))
      (ap (λ (l : List (ℕ × ℕ)). piece_look e ∷ l) (blind_looks save (saves_blind s (due_save (generator s) m e))))
      ∙ ap (λ (l : List (ℕ × ℕ)). piece_look e ∷ l) (pieces_look (after_piece (generator s) m e) es)

  pub sweep_looks : (m : Sweep) (es : List Swept) (calls : List Entry) (end : RunEnd)
      → SweepEnds s (generator s) m es calls end → looks_in calls ≡ map piece_look es
  sweep_looks m es calls end (IsSaved stop by end_is is) =
      let all : List Call = sweep_calls s (generator s) m es in
      let last : List Call = closing_calls s (sweep_end (is_none stop) (after_pieces (generator s) m es)) in
      ap looks_in (is ∙ map-append Done all last)
      ∙ blind_after (map Done all) last (closing_blind s.has_mapfile s.names _) ∙ pieces_look m es
  sweep_looks m es calls end (IsUnsaved stop call by end_is broke) =
      let all : List Call = sweep_calls s (generator s) m es in
      let last : List Call = closing_calls s (sweep_end (is_none stop) (after_pieces (generator s) m es)) in
      broke_looks call last (map Done all) calls (closing_blind s.has_mapfile s.names _) broke ∙ pieces_look m es
  sweep_looks m es calls end (IsCut p q piece end_is broke) =
      broke_looks _ (lost_call (generator s) p q ∷ []) (map Done (sweep_calls s (generator s) m es)) calls
      (All-cons IsBlind (lost_call (generator s) p q) [] refl (All-nil IsBlind)) broke
      ∙ pieces_look m es
  sweep_looks m es calls end (IsBroken before last call es_is end_is broke) =
      let all : List Call = sweep_calls s (generator s) m before in
      let read : Call = image_read (place s last.pos) last.len (Some (length last.got)) in
      let save : List Call = save_of s (due_save (generator s) (after_pieces (generator s) m before) last) in
      broke_looks call save (map Done (all ++ read ∷ [])) calls
      (saves_blind s (due_save (generator s) (after_pieces (generator s) m before) last)) broke
      ∙ ap looks_in (map-append Done all (read ∷ []))
      ∙ looks_both (map Done all) (Done read ∷ [])
      ∙ ap (λ (l : List (ℕ × ℕ)). l ++ piece_look last ∷ []) (pieces_look m before)
      ∙ sym (map-append piece_look before (last ∷ []))
      ∙ ap (map piece_look) (sym es_is)

-- ---- and their bytes

-- as many bytes of a list as a front of it has are that front
front_taken : (n : ℕ) (xs : List ℕ) → take (length (take n xs)) xs ≡ take n xs
front_taken n xs = ap (λ (k : ℕ). take k xs) (length-take n xs) ∙ take_min n xs

pub looked_pieces : (t : Target) (s : Setting) (image : List ℕ) (es : List Swept) → s.input_position + t.to ≡ t.from + s.output_position
    → StartFrom s.input_position es → AreGiven s image es → look_pairs t image (map (piece_look s) es) ≡ pieces_given es
looked_pieces t s image [] places starts given = refl
looked_pieces t s image (e ∷ es) places starts given =
    let low : s.input_position ≤ e.pos = All-head (λ (e : Swept). s.input_position ≤ e.pos) e es starts in
    let got : e.got ≡ take e.len (drop (place s e.pos) image)
    = All-head (λ (e : Swept). e.got ≡ take e.len (drop (place s e.pos) image)) e es given in
    let at : place s e.pos + t.from - t.to ≡ e.pos = omega (arith, low, places) in
    let bytes : take (length e.got) (drop (place s e.pos) image) ≡ e.got
    = ap (λ (l : List ℕ). take (length l) (drop (place s e.pos) image)) got
    ∙ front_taken e.len (drop (place s e.pos) image) ∙ sym got in
    ap (λ (p : ℕ). enumerate_from p (take (length e.got) (drop (place s e.pos) image)) ++ look_pairs t image (map (piece_look s) es)) at
    ∙ ap (λ (l : List ℕ). enumerate_from e.pos l ++ look_pairs t image (map (piece_look s) es)) bytes
    ∙ ap (λ (l : List (ℕ × ℕ)). enumerate_from e.pos e.got ++ l)
    (looked_pieces t s image es places (All-tail (λ (e : Swept). s.input_position ≤ e.pos) e es starts)
    (All-tail (λ (e : Swept). e.got ≡ take e.len (drop (place s e.pos) image)) e es given))
