-- How many saves the calls of a sweep make, and which places they write.
use Rattle.std.proofs.Common.{◌≡◌, ◌⊎◌, ℕ, zero, suc, ◌+◌, ◌<◌, ◌≤◌, min, Bool, true, false, if◌then◌else◌, List, [], ◌∷◌, ◌++◌, length, map, take, Option, Some, None, refl, sym, ap, ◌∙◌, inl, inr, arith, append-nil, length-append}
use Rattle.std.specs.List.{count_by, flat_map}
use Rattle.std.proofs.lemmas.List.{length-take}
use Rattle.std.proofs.lemmas.List.Elements.{All-head, All-tail}
use Rattle.block_list.specs.declared.types.TypeSet.{TypeSet}
use Rattle.mapfile_text.specs.Pieces.{pieces_of}
use Rattle.crash_site.specs.Files.{File}
use Rattle.crash_site.specs.Calls.{Call, Entry, Done, image_write, map_read, draft_append, draft_sync}
use Rattle.mapfile_save.specs.MapNames.{MapNames}
use Rattle.mapfile_save.specs.Loading.{BeginsLoad}
use Rattle.mapfile_save.specs.Saving.{begin_calls, fill_calls, publish_calls, save_calls}
use Rattle.rescue_rules.specs.Setting.{Setting, place}
use Rattle.rescue_rules.specs.Snapshots.{Snapshot, text_of}
use Rattle.rescue_rules.specs.RunCalls.{closing_calls}
use Rattle.rescue_rules.specs.Deeds.{Deed, save_of, deed_calls, doing_calls, some_save}
use Rattle.rescue_rules.specs.Work.{is_map_read, AreMapReads}
use Rattle.rescue_rules.specs.Stops.{is_settle, is_write}
use Rattle.rescue_rules.specs.StopsBy.{is_publish, IsUnwritten}
use Rattle.rescue_rules.proofs.CutLemmas.{tally, tally_is}
use Rattle.rescue_rules.proofs.MapfileLemmas.{opening_by}
use Rattle.sweep_rules.specs.Sweep.{Sweeper, Sweep, Swept, filler, generator, after_piece, is_save_due, sweep_snapshot, due_save, deeds_of}
use Rattle.sweep_rules.specs.SweepStops.{pieces_before}
use Rattle.ddrescue_laws.specs.ModeLaws.{HasNoPiece}
use Rattle.ddrescue_laws.proofs.CountLemmas.{Quiet, Adds, Ignores, CountsSaves, quiet_load, adds_quiet, adds_append, adds_save, settles, publishes}
use Rattle.ddrescue_cli.proofs.SpareLemmas.{AreSpare, spare_append}

-- ---- the saves

-- those that are due after pieces
abbrev pub dues_of : Sweeper → Sweep → List Swept → List Snapshot
dues_of w m es = flat_map (λ (d : Deed). some_save d.save) (deeds_of w m es)

-- a test that no call of a piece passes
abbrev pub IgnoresPieces : (Entry → Bool) → Sweeper → Type 0
IgnoresPieces f w = (e : Swept) → f (Done (w.call e)) ≡ false

adds_save_of : (f : Entry → Bool) (s : Setting) (o : Option Snapshot) → CountsSaves f
    → Adds f (save_of s o) (length (some_save o))
adds_save_of f s None c = adds_quiet f [] tt
adds_save_of f s (Some p) c = adds_save f s.names (text_of s.line p) c

adds_pieces : (f : Entry → Bool) (s : Setting) (w : Sweeper) (m : Sweep) (es : List Swept) → CountsSaves f
    → IgnoresPieces f w → Adds f (flat_map (deed_calls s) (deeds_of w m es)) (length (dues_of w m es))
adds_pieces f s w m [] c off = adds_quiet f [] tt
adds_pieces f s w m (e ∷ es) c off =
    let save : Option Snapshot = due_save w m e in
    let one : ℕ = length (some_save save) in
    let more : List Snapshot = dues_of w (after_piece w m e) es in
    adds_append f (w.call e ∷ save_of s save) (flat_map (deed_calls s) (deeds_of w (after_piece w m e) es)) one (length more)
    (length (dues_of w m (e ∷ es)))
    (adds_append f (w.call e ∷ []) (save_of s save) 0 one one (adds_quiet f (w.call e ∷ []) (off e, tt))
    (adds_save_of f s save c) (omega arith))
    (adds_pieces f s w (after_piece w m e) es c off) (sym (length-append (some_save save) more))

adds_closing : (f : Entry → Bool) (s : Setting) (last : Snapshot) → s.has_mapfile ≡ true → CountsSaves f
    → Adds f (closing_calls s last) 1
adds_closing f s last on c = rw on (adds_save f s.names (text_of s.line last) c)

-- the calls of a whole sweep
abbrev pub sweep_calls_of : Setting → Sweeper → Sweep → List Swept → (last : Snapshot) → List Call
sweep_calls_of s w m es last = doing_calls s (deeds_of w m es) last

adds_doing : (f : Entry → Bool) (s : Setting) (w : Sweeper) (m : Sweep) (es : List Swept) (last : Snapshot)
    → s.has_mapfile ≡ true → CountsSaves f → IgnoresPieces f w
    → Adds f (sweep_calls_of s w m es last) (length (dues_of w m es) + 1)
adds_doing f s w m es last on c off =
    adds_append f (flat_map (deed_calls s) (deeds_of w m es)) (closing_calls s last) (length (dues_of w m es)) 1
    (length (dues_of w m es) + 1) (adds_pieces f s w m es c off) (adds_closing f s last on c) refl

quiet_read : (f : Entry → Bool) (c : Call) → Ignores f → is_map_read c ≡ true → f (Done c) ≡ false
quiet_read f (map_read name at size answer) i is = i.read name at size answer
quiet_read f c i is = absurd (cc)

quiet_reads : (f : Entry → Bool) (maps : List Call) → Ignores f → AreMapReads maps → Quiet f maps
quiet_reads f [] i reads = tt
quiet_reads f (c ∷ maps) i reads = (
  quiet_read f c i (All-head (λ c. is_map_read c ≡ true) c maps reads),
  quiet_reads f maps i (All-tail (λ c. is_map_read c ≡ true) c maps reads),
)

-- all calls of a sweep that is done
abbrev pub whole_calls : Setting → Sweeper → (maps load : List Call) → Sweep → List Swept → (last : Snapshot) → List Call
whole_calls s w maps load m es last = maps ++ (opening_by s w.makes ++ (load ++ sweep_calls_of s w m es last))

count_whole : (f : Entry → Bool) (s : Setting) (w : Sweeper) (maps load : List Call) (file : Option File) (m : Sweep)
    (es : List Swept) (last : Snapshot) (opens : ℕ) → s.has_mapfile ≡ true → CountsSaves f → IgnoresPieces f w
    → Adds f (opening_by s w.makes) opens → AreMapReads maps → BeginsLoad s.names.map file load
    → count_by f (map Done (whole_calls s w maps load m es last)) ≡ opens + (length (dues_of w m es) + 1)
count_whole f s w maps load file m es last opens on c off opening reads begins =
    let k : ℕ = length (dues_of w m es) + 1 in
    let all : List Call = whole_calls s w maps load m es last in
    let adds : Adds f all (opens + k) =
    adds_append f maps (opening_by s w.makes ++ (load ++ sweep_calls_of s w m es last)) 0 (opens + k) (opens + k)
    (adds_quiet f maps (quiet_reads f maps c.ignores reads))
    (adds_append f (opening_by s w.makes) (load ++ sweep_calls_of s w m es last) opens k (opens + k) opening
    (adds_append f load (sweep_calls_of s w m es last) 0 k k
    (adds_quiet f load (quiet_load f s.names.map file load c.ignores begins))
    (adds_doing f s w m es last on c off) (omega arith)) refl) (omega arith) in
    tally_is f (map Done all) ∙ ap (λ (l : List Entry). tally f l 0) (sym (append-nil (map Done all)))
    ∙ adds [] 0 ∙ (let none : 0 + (opens + k) ≡ opens + k = omega arith in none)

-- one settle in the barrier, and one in each save
pub settles_in : (s : Setting) (w : Sweeper) (maps load : List Call) (file : Option File) (m : Sweep) (es : List Swept)
    (last : Snapshot) → s.has_mapfile ≡ true → IgnoresPieces is_settle w → AreMapReads maps
    → BeginsLoad s.names.map file load
    → count_by is_settle (map Done (whole_calls s w maps load m es last)) ≡ 1 + (length (dues_of w m es) + 1)
settles_in s w maps load file m es last on off reads begins =
    count_whole is_settle s w maps load file m es last 1 on settles off
    (λ more n. ap (tally is_settle more) (let one : suc n ≡ n + 1 = omega arith in one)) reads begins

-- one publish in each save
pub publishes_in : (s : Setting) (w : Sweeper) (maps load : List Call) (file : Option File) (m : Sweep) (es : List Swept)
    (last : Snapshot) → s.has_mapfile ≡ true → IgnoresPieces is_publish w → AreMapReads maps
    → BeginsLoad s.names.map file load
    → count_by is_publish (map Done (whole_calls s w maps load m es last)) ≡ length (dues_of w m es) + 1
publishes_in s w maps load file m es last on off reads begins =
    count_whole is_publish s w maps load file m es last 0 on publishes off
    (λ more n. ap (tally is_publish more) (let none : n ≡ n + 0 = omega arith in none)) reads begins
    ∙ (let none : 0 + (length (dues_of w m es) + 1) ≡ length (dues_of w m es) + 1 = omega arith in none)

-- in front of the last save come all pieces
due_or : (due : Bool) (p : Snapshot) (more : List Snapshot) (n : ℕ)
    → suc n ≡ length (some_save (if due then Some p else None) ++ more) + 1
    → (if due then n else suc n) ≡ length more + 1
due_or true p more n is = omega (arith, is)
due_or false p more n is = is

pub all_before : (w : Sweeper) (m : Sweep) (es : List Swept) (number : ℕ) → number ≡ length (dues_of w m es) + 1
    → pieces_before w m es number ≡ es
all_before w m [] number is = refl
all_before w m (e ∷ es) zero is = absurd (omega (arith, is))
all_before w m (e ∷ es) (suc n) is =
    ap (λ (l : List Swept). e ∷ l)
    (all_before w (after_piece w m e) es (if is_save_due m e then n else suc n)
    (due_or (is_save_due m e) (sweep_snapshot (after_piece w m e)) (dues_of w (after_piece w m e) es) n is))

-- ---- the places

spare_appends : (ps : List (List ℕ)) → AreSpare (map draft_append ps)
spare_appends [] = tt
spare_appends (p ∷ ps) = (refl, spare_appends ps)

spare_save : (names : MapNames) (text : List ℕ) → AreSpare (save_calls names text)
spare_save names text =
    spare_append (begin_calls names) (fill_calls text ++ draft_sync ∷ publish_calls names) (refl, (refl, tt))
    (spare_append (fill_calls text) (draft_sync ∷ publish_calls names) (spare_appends (pieces_of text))
    (refl, (refl, (refl, tt))))

spare_save_of : (s : Setting) (o : Option Snapshot) → AreSpare (save_of s o)
spare_save_of s None = tt
spare_save_of s (Some p) = spare_save s.names (text_of s.line p)

spare_closing : (s : Setting) (last : Snapshot) → s.has_mapfile ≡ true → AreSpare (closing_calls s last)
spare_closing s last on = rw on (spare_save s.names (text_of s.line last))

-- a generating writes nothing
spare_looks : (s : Setting) (m : Sweep) (es : List Swept)
    → AreSpare (flat_map (deed_calls s) (deeds_of (generator s) m es))
spare_looks s m [] = tt
spare_looks s m (e ∷ es) = (
  refl,
  spare_append (save_of s (due_save (generator s) m e)) (flat_map (deed_calls s) (deeds_of (generator s) (after_piece (generator s) m e) es))
      (spare_save_of s (due_save (generator s) m e)) (spare_looks s (after_piece (generator s) m e) es),
)

pub spare_generating : (s : Setting) (m : Sweep) (es : List Swept) (last : Snapshot) → s.has_mapfile ≡ true
    → AreSpare (sweep_calls_of s (generator s) m es last)
spare_generating s m es last on =
    spare_append (flat_map (deed_calls s) (deeds_of (generator s) m es)) (closing_calls s last) (spare_looks s m es)
    (spare_closing s last on)

-- a filling writes at the places of its pieces alone
abbrev pub Spares : List Call → (y : ℕ) → Type 0
Spares cs y = IsUnwritten (map Done cs) y

spares_more : (c : Call) (cs ys : List Call) (y : ℕ) → Spares (c ∷ cs) y → Spares (cs ++ ys) y → Spares (c ∷ cs ++ ys) y
spares_more (image_write pos piece) cs ys y h more = (h.0, more)
spares_more c cs ys y h more = more

spares_rest : (c : Call) (cs : List Call) (y : ℕ) → Spares (c ∷ cs) y → Spares cs y
spares_rest (image_write pos piece) cs y h = h.1
spares_rest c cs y h = h

pub spares_append : (xs ys : List Call) (y : ℕ) → Spares xs y → Spares ys y → Spares (xs ++ ys) y
spares_append [] ys y p q = q
spares_append (c ∷ cs) ys y p q = spares_more c cs ys y p (spares_append cs ys y (spares_rest c cs y p) q)

spares_call : (c : Call) (cs : List Call) (y : ℕ) → is_write (Done c) ≡ false → Spares cs y → Spares (c ∷ cs) y
spares_call (image_write pos piece) cs y spare h = absurd (cc)
spares_call c cs y spare h = h

pub spares_spare : (cs : List Call) (y : ℕ) → AreSpare cs → Spares cs y
spares_spare [] y spare = tt
spares_spare (c ∷ cs) y spare = spares_call c cs y spare.0 (spares_spare cs y spare.1)

beside : (pos len y : ℕ) (buffer : List ℕ) → (y < pos) ⊎ (pos + len ≤ y) → (y < pos) ⊎ (pos + length (take len buffer) ≤ y)
beside pos len y buffer (inl before) = inl before
beside pos len y buffer (inr past) =
    let long : length (take len buffer) ≡ min len (length buffer) = length-take len buffer in
    inr (omega (arith, past, long))

spares_pieces : (s : Setting) (types : TypeSet) (buffer : List ℕ) (m : Sweep) (es : List Swept) (y : ℕ)
    → HasNoPiece s es y → Spares (flat_map (deed_calls s) (deeds_of (filler s types buffer) m es)) y
spares_pieces s types buffer m [] y off = tt
spares_pieces s types buffer m (e ∷ es) y off =
    let w : Sweeper = filler s types buffer in
    let save : List Call = save_of s (due_save w m e) in
    let more : List Call = flat_map (deed_calls s) (deeds_of w (after_piece w m e) es) in (
      beside (place s e.pos) e.len y buffer (All-head (λ (e : Swept). (y < place s e.pos) ⊎ (place s e.pos + e.len ≤ y)) e es off),
      spares_append save more y (spares_spare save y (spare_save_of s (due_save w m e)))
          (spares_pieces s types buffer (after_piece w m e) es y
          (All-tail (λ (e : Swept). (y < place s e.pos) ⊎ (place s e.pos + e.len ≤ y)) e es off)),
    )

pub spares_filling : (s : Setting) (types : TypeSet) (buffer : List ℕ) (m : Sweep) (es : List Swept) (last : Snapshot)
    (y : ℕ) → s.has_mapfile ≡ true → HasNoPiece s es y → Spares (sweep_calls_of s (filler s types buffer) m es last) y
spares_filling s types buffer m es last y on off =
    spares_append (flat_map (deed_calls s) (deeds_of (filler s types buffer) m es)) (closing_calls s last) y
    (spares_pieces s types buffer m es y off) (spares_spare (closing_calls s last) y (spare_closing s last on))
