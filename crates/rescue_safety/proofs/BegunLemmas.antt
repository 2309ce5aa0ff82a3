-- What a mapfile claims that was saved was given by reads whose bytes had begun to be written.
use Rattle.std.proofs.Common.{◌≡◌, ◌⊎◌, inl, inr, ⊎_elim, ℕ, zero, suc, ◌+◌, ◌-◌, ◌<◌, ◌≤◌, Bool, true, false, not, if◌then◌else◌, nat_eq, List, [], ◌∷◌, ◌++◌, length, take, map, Option, Some, None, refl, sym, ap, ◌∙◌, subst, arith, append_assoc, length-append}
use Rattle.std.specs.List.{count_by, slice_get, flat_map}
use Rattle.std.proofs.lemmas.Bool.{cases_Bool, cond-false, eqb-true}
use Rattle.std.proofs.lemmas.List.{map-append}
use Rattle.block_list.specs.declared.status.Status.TheVariants.{Finished}
use Rattle.block_list.specs.Map.{Has}
use Rattle.mapfile_text.specs.Pieces.{pieces_of}
use Rattle.faulty_source.specs.Journal.{Reading, kept, covers}
use Rattle.crash_site.specs.Calls.{Call, Entry, Done, Failed, image_write, image_sync, draft_append, draft_begin, draft_sync, draft_publish, map_settle}
use Rattle.mapfile_save.specs.MapNames.{MapNames}
use Rattle.mapfile_save.specs.Saving.{fill_calls, save_calls}
use Rattle.rescue_rules.specs.Setting.{Setting, IsSensible, place}
use Rattle.rescue_rules.specs.Machine.{Machine}
use Rattle.rescue_rules.specs.MachineLaws.{IsInOrder}
use Rattle.rescue_rules.specs.Step.{Event}
use Rattle.rescue_rules.specs.Moves.{move_of, IsRun}
use Rattle.rescue_rules.specs.Events.{reads_of}
use Rattle.rescue_rules.specs.Given.{given, last_of_both}
use Rattle.rescue_rules.specs.Deeds.{save_of, deed_calls}
use Rattle.rescue_rules.specs.RunDeeds.{run_deeds}
use Rattle.rescue_rules.specs.RunCalls.{write_calls}
use Rattle.rescue_rules.specs.Snapshots.{Snapshot, text_of, snapshot_of, is_due, snapshots}
use Rattle.rescue_rules.specs.Stops.{is_write}
use Rattle.rescue_rules.specs.StopsBy.{is_publish, published}
use Rattle.rescue_rules.proofs.CutLemmas.{Cut, add, tally, tally_is}
use Rattle.rescue_rules.proofs.GivenLemmas.{Covered, covered_here}
use Rattle.rescue_rules.proofs.DeedStages.{last_calls, all_calls}
use Rattle.rescue_rules.proofs.FinishLemmas.{run_steps, finished_stands}
use Rattle.rescue_rules.proofs.MoveLemmas.{run_rest}
use Rattle.rescue_rules.proofs.MoveStages.{due_first}
use Rattle.rescue_safety.specs.Safe.{reads_until}
use Rattle.rescue_safety.proofs.SpareLemmas.{later_none, earlier_none}
use Rattle.rescue_safety.proofs.Texts.{texts_in, Fronts, texts_published, cut_texts, saved_publish}

-- how many of these calls write the output
abbrev pub writes_in : List Entry → ℕ
writes_in calls = count_by is_write calls

-- ---- counting calls

tally_more : (f : Entry → Bool) (es : List Entry) (n : ℕ) → tally f es n ≡ n + tally f es 0
tally_more f [] n = omega arith
tally_more f (e ∷ es) n =
    ⊎_elim
    (λ (is : f e ≡ true).
    ap (λ (b : Bool). tally f es (add b n)) is ∙ tally_more f es (suc n)
    ∙ omega (arith, ap (λ (b : Bool). tally f es (add b 0)) is, tally_more f es 1))
    (λ (off : f e ≡ false).
    ap (λ (b : Bool). tally f es (add b n)) off ∙ tally_more f es n
    ∙ omega (arith, ap (λ (b : Bool). tally f es (add b 0)) off))
    (cases_Bool (f e))

tally_both : (f : Entry → Bool) (es fs : List Entry) (n : ℕ) → tally f (es ++ fs) n ≡ tally f fs (tally f es n)
tally_both f [] fs n = refl
tally_both f (e ∷ es) fs n = tally_both f es fs (add (f e) n)

-- the calls one after the other
pub count_both : (f : Entry → Bool) (es fs : List Entry) → count_by f (es ++ fs) ≡ count_by f es + count_by f fs
count_both f es fs =
    omega (
      arith,
      tally_is f (es ++ fs),
      tally_both f es fs 0,
      tally_more f fs (tally f es 0),
      tally_is f es,
      tally_is f fs,
    )

pub count_step : (f : Entry → Bool) (e : Entry) (es : List Entry) → count_by f (e ∷ es) ≡ add (f e) 0 + count_by f es
count_step f e es = omega (arith, tally_is f (e ∷ es), tally_more f es (add (f e) 0), tally_is f es)

-- a part of calls publishes no more than they do
pub cut_published : (cs : List Call) (es : List Entry) → Cut cs es → published es ≤ published (map Done cs)
cut_published cs es cut =
    let f : Fronts (texts_in es) (texts_in (map Done cs)) = cut_texts [] cs es cut in
    let sum : length (texts_in (map Done cs)) ≡ length (texts_in es) + length f.more
    = ap (λ (l : List (List ℕ)). length l) f.is ∙ length-append (texts_in es) f.more in
    omega (arith, sum, texts_published es, texts_published (map Done cs))

-- a save publishes once, and writes nothing
pub save_published : (names : MapNames) (text : List ℕ) → published (map Done (save_calls names text)) ≡ 1
save_published names text =
    let p = saved_publish names text [] [] (λ d. refl) [] in
    let one : length (texts_in (map Done (save_calls names text) ++ [])) ≡ 1 = ap (λ (l : List (List ℕ)). length l) p in
    omega (arith, one, texts_published (map Done (save_calls names text) ++ []), count_both is_publish (map Done (save_calls names text)) [])

appends_write : (ps : List (List ℕ)) (es : List Entry) → writes_in (map Done (map draft_append ps) ++ es) ≡ writes_in es
appends_write [] es = refl
appends_write (p ∷ ps) es =
    count_step is_write (Done (draft_append p)) (map Done (map draft_append ps) ++ es) ∙ omega (arith, appends_write ps es)

-- ---- a part of calls that come one after the other

pub record Past (cs ds : List Call) (es : List Entry) : Type 0 where
  pub rest : List Entry
  pub is : es ≡ map Done cs ++ rest
  pub cut : Cut ds rest

pub cut_split : (cs ds : List Call) (es : List Entry) → Cut (cs ++ ds) es → Cut cs es ⊎ Past cs ds es
cut_split [] ds es cut = inr (record { rest = es; is = refl; cut = cut })
cut_split (c ∷ cs) ds [] cut = inl tt
cut_split (c ∷ cs) ds (Done x ∷ es) cut =
    ⊎_elim (λ (front : Cut cs es). inl (cut.0, front))
    (λ (p : Past cs ds es).
    inr (record {
      rest = p.rest;
      is = ap (λ (z : Call). Done z ∷ es) cut.0 ∙ ap (λ (l : List Entry). Done c ∷ l) p.is;
      cut = p.cut;
    }))
    (cut_split cs ds es cut.1)
cut_split (c ∷ cs) ds (Failed x steps ∷ es) cut = inl cut

-- ---- what reads gave that had begun to be written

module _ (sector : ℕ) (x : ℕ) where
  abbrev pub begun : ℕ → List Reading → Option ℕ
  begun n rs = given sector (reads_until sector n rs) x

  abbrev pub own : Reading → Option ℕ
  own r = if covers sector r x then slice_get r.given (x - r.pos) else None

  abbrev pub is_kept : Reading → Bool
  is_kept r = not (nat_eq (kept sector r) 0)

  -- none gives a byte, if no read does
  pub none_begun : (n : ℕ) (rs : List Reading) → given sector rs x ≡ None → begun n rs ≡ None
  none_begun n [] none = refl
  none_begun zero (r ∷ rs) none = refl
  none_begun (suc n) (r ∷ rs) none =
      let rest = none_begun (if nat_eq (kept sector r) 0 then suc n else n) rs (later_none (given sector rs x) (own r) none) in
      ap (λ (o : Option ℕ). last_of_both o (own r)) rest ∙ earlier_none (given sector rs x) (own r) none

  none_kept : (r : Reading) → nat_eq (kept sector r) 0 ≡ true → own r ≡ None
  none_kept r none =
      ⊎_elim
      (λ (on : covers sector r x ≡ true).
      let c : Covered sector r x = covered_here sector r x on in
      let no : kept sector r ≡ 0 = eqb-true (kept sector r) 0 none in
      absurd (let e : ⊥ = omega (arith, c.from, c.to, no) in e))
      (λ (off : covers sector r x ≡ false). cond-false (covers sector r x) (slice_get r.given (x - r.pos)) None off)
      (cases_Bool (covers sector r x))

  pub begun_zero : (rs : List Reading) → begun zero rs ≡ None
  begun_zero [] = refl
  begun_zero (r ∷ rs) = refl

  none_over : (n : ℕ) (r : Reading) (rs : List Reading) → nat_eq (kept sector r) 0 ≡ true
      → begun n (r ∷ rs) ≡ last_of_both (begun n rs) (own r)
  none_over zero r rs none =
      sym (ap (λ (o : Option ℕ). last_of_both o (own r)) (begun_zero rs) ∙ none_kept r none)
  none_over (suc n) r rs none =
      ap (λ (b : Bool). last_of_both (begun (if b then suc n else n) rs) (own r)) none

  -- a read more
  pub begun_step : (n : ℕ) (r : Reading) (rs : List Reading)
      → begun (add (is_kept r) n) (r ∷ rs) ≡ last_of_both (begun n rs) (own r)
  begun_step n r rs =
      ⊎_elim
      (λ (none : nat_eq (kept sector r) 0 ≡ true).
      ap (λ (b : Bool). begun (add (not b) n) (r ∷ rs)) none ∙ none_over n r rs none)
      (λ (some : nat_eq (kept sector r) 0 ≡ false).
      ap (λ (b : Bool). begun (add (not b) n) (r ∷ rs)) some
      ∙ ap (λ (b : Bool). last_of_both (begun (if b then suc n else n) rs) (own r)) some)
      (cases_Bool (nat_eq (kept sector r) 0))

  -- so all that no later read gives
  begun_last : (n : ℕ) (r : Reading) (rs : List Reading) → given sector rs x ≡ None
      → begun (add (is_kept r) n) (r ∷ rs) ≡ given sector (r ∷ rs) x
  begun_last n r rs none =
      begun_step n r rs
      ∙ ap (λ (o : Option ℕ). last_of_both o (own r)) (none_begun n rs none ∙ sym none)

-- ---- a run

module _ (s : Setting) (ok : IsSensible s) (x : ℕ) where
  -- the writes of one read
  pub write_counted : (none : Bool) (pos : ℕ) (piece : List ℕ) (es : List Entry)
      → writes_in (map Done (if none then [] else image_write pos piece ∷ []) ++ es) ≡ add (not none) (writes_in es)
  write_counted true pos piece es = refl
  write_counted false pos piece es = count_step is_write (Done (image_write pos piece)) es ∙ omega arith

  pub write_unpublished : (none : Bool) (pos : ℕ) (piece : List ℕ)
      → published (map Done (if none then [] else image_write pos piece ∷ [])) ≡ 0
  write_unpublished true pos piece = refl
  write_unpublished false pos piece = refl

  pub save_unwritten : (names : MapNames) (text : List ℕ) (es : List Entry)
      → writes_in (map Done (save_calls names text) ++ es) ≡ writes_in es
  save_unwritten names text es =
      let fill : List Call = fill_calls text in
      let end : List Call = draft_sync ∷ draft_publish names.map ∷ map_settle names.map ∷ [] in
      let parts : map Done (fill ++ end) ++ es ≡ map Done fill ++ (map Done end ++ es)
      = ap (λ (l : List Entry). l ++ es) (map-append Done fill end) ∙ append_assoc (map Done fill) (map Done end) es in
      let sync = count_step is_write (Done image_sync) (Done (draft_begin names.draft) ∷ (map Done (fill ++ end) ++ es)) in
      let begin = count_step is_write (Done (draft_begin names.draft)) (map Done (fill ++ end) ++ es) in
      let filled : writes_in (map Done (fill ++ end) ++ es) ≡ writes_in (map Done end ++ es)
      = ap writes_in parts ∙ appends_write (pieces_of text) (map Done end ++ es) in
      omega (arith, sync, begin, filled, count_both is_write (map Done end) es)

  module _ (m : Machine) (e : Event) (es : List Event) (last : Snapshot) (order : IsInOrder s m) (run : IsRun s m (e ∷ es))
    where
      abbrev n : Machine
      n = (move_of s m e).after

      abbrev r : Reading
      r = e.reading

      abbrev rs : List Reading
      rs = reads_of es

      abbrev later : List Call
      later = all_calls s (run_deeds s n es) last

      abbrev Begun : List Entry → Type 0
      Begun part = begun s.sector x (writes_in part) rs ≡ given s.sector rs x

      abbrev Ends : List Entry → Type 0
      Ends part = begun s.sector x (add (is_kept s.sector x r) (writes_in part)) (r ∷ rs) ≡ given s.sector (r ∷ rs) x

      ends_later : (part : List Entry) → Begun part → Ends part
      ends_later part is =
          begun_step s.sector x (writes_in part) r rs ∙ ap (λ (o : Option ℕ). last_of_both o (own s.sector x r)) is

      none_later : Has n.map Finished x → given s.sector rs x ≡ None
      none_later has =
          (finished_stands s n es x ok (run_steps s ok m e es order run).order (run_rest s m e es run) has).0

      same_shot : (p : Snapshot) → Some (snapshot_of n) ≡ Some p → p ≡ snapshot_of n
      same_shot p is = cc

      after_write : (due : Bool) (part : List Entry) (i : ℕ) (p : Snapshot)
          → ((rest : List Entry) (j : ℕ) (q : Snapshot) → Cut later rest → slice_get (snapshots s n es) j ≡ Some q
          → j < published rest → Has q.map Finished x → Begun rest)
          → Cut (save_of s (if due then Some (snapshot_of n) else None) ++ later) part
          → slice_get ((if due then snapshot_of n ∷ [] else []) ++ snapshots s n es) i ≡ Some p → i < published part
          → Has p.map Finished x → Ends part
      after_write false part i p ih cut is low has = ends_later part (ih part i p cut is low has)
      after_write true part zero p ih cut is low has =
          begun_last s.sector x (writes_in part) r rs
          (none_later (subst (λ (q : Snapshot). Has q.map Finished x) (same_shot p is) has))
      after_write true part (suc i) p ih cut is low has =
          let save : List Call = save_calls s.names (text_of s.line (snapshot_of n)) in
          ⊎_elim
          (λ (c : Cut save part).
          absurd (let no : ⊥ = omega (
            arith,
            low,
            cut_published save part c,
            save_published s.names (text_of s.line (snapshot_of n)),
          ) in no))
          (λ (c : Past save later part).
          let more : published part ≡ 1 + published c.rest
          = ap published c.is ∙ count_both is_publish (map Done save) c.rest
          ∙ ap (λ (k : ℕ). k + published c.rest) (save_published s.names (text_of s.line (snapshot_of n))) in
          let same : writes_in part ≡ writes_in c.rest
          = ap writes_in c.is ∙ save_unwritten s.names (text_of s.line (snapshot_of n)) c.rest in
          subst (λ (k : ℕ). begun s.sector x (add (is_kept s.sector x r) k) (r ∷ rs) ≡ given s.sector (r ∷ rs) x) (sym same)
          (ends_later c.rest (ih c.rest i p c.cut is (omega (arith, low, more)) has)))
          (cut_split save later part cut)

      begun_more : (part : List Entry) (i : ℕ) (p : Snapshot)
          → ((rest : List Entry) (j : ℕ) (q : Snapshot) → Cut later rest → slice_get (snapshots s n es) j ≡ Some q
          → j < published rest → Has q.map Finished x → Begun rest)
          → Cut (all_calls s (run_deeds s m (e ∷ es)) last) part
          → slice_get (snapshots s m (e ∷ es)) i ≡ Some p → i < published part → Has p.map Finished x
          → begun s.sector x (writes_in part) (r ∷ rs) ≡ given s.sector (r ∷ rs) x
      begun_more part i p ih cut is low has =
          let write : List Call = write_calls s r in
          let due : Bool = is_due s (move_of s m e) in
          let save : List Call = save_of s (if due then Some (snapshot_of n) else None) in
          let deeds : List Call = flat_map (deed_calls s) (run_deeds s n es) in
          let here : Cut (write ++ (save ++ later)) part
          = subst (λ (l : List Call). Cut l part)
          (append_assoc (write ++ save) deeds (last_calls s last) ∙ append_assoc write save later) cut in
          ⊎_elim
          (λ (c : Cut write part).
          absurd (let no : ⊥ = omega (arith, low, cut_published write part c, write_unpublished (nat_eq (kept s.sector r) 0) (place s r.pos) (take (kept s.sector r) r.given)) in no))
          (λ (c : Past write (save ++ later) part).
          let same : published part ≡ published c.rest
          = ap published c.is ∙ count_both is_publish (map Done write) c.rest
          ∙ ap (λ (k : ℕ). k + published c.rest) (write_unpublished (nat_eq (kept s.sector r) 0) (place s r.pos) (take (kept s.sector r) r.given)) ∙ omega arith in
          let count : writes_in part ≡ add (is_kept s.sector x r) (writes_in c.rest)
          = ap writes_in c.is ∙ write_counted (nat_eq (kept s.sector r) 0) (place s r.pos) (take (kept s.sector r) r.given) c.rest in
          subst (λ (k : ℕ). begun s.sector x k (r ∷ rs) ≡ given s.sector (r ∷ rs) x) (sym count)
          (after_write due c.rest i p ih c.cut
          (subst (λ (l : List Snapshot). slice_get l i ≡ Some p) (due_first s m e es due refl) is)
          (omega (arith, low, same)) has))
          (cut_split write (save ++ later) part here)

  -- what a save finishes whose publishing had begun was given by reads whose bytes had begun to be written
  pub saved_begun : (m : Machine) (es : List Event) (last : Snapshot) (part : List Entry) (i : ℕ) (p : Snapshot)
      → IsInOrder s m → IsRun s m es → Cut (all_calls s (run_deeds s m es) last) part
      → slice_get (snapshots s m es) i ≡ Some p → i < published part → Has p.map Finished x
      → begun s.sector x (writes_in part) (reads_of es) ≡ given s.sector (reads_of es) x
  saved_begun m [] last part i p order run cut is low has = refl
  saved_begun m (e ∷ es) last part i p order run cut is low has =
      begun_more m e es last order run part i p
      (λ rest j q c at few fin. saved_begun (move_of s m e).after es last rest j q
      (run_steps s ok m e es order run).order (run_rest s m e es run) c at few fin)
      cut is low has
