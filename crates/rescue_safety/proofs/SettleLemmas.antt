-- A mapfile that a rescue saved is no older than what was published before a settle that returned.
use Rattle.std.proofs.Common.{◌≡◌, ⊎_elim, ℕ, zero, suc, ◌+◌, ◌≤◌, true, List, [], ◌∷◌, ◌++◌, length, take, map, All, Option, Some, None, refl, sym, ap, ◌∙◌, subst, arith, append_assoc, append-nil}
use Rattle.std.specs.List.{count_by, flat_map}
use Rattle.std.proofs.lemmas.List.{map-append}
use Rattle.std.proofs.lemmas.List.Elements.{All-head, All-tail}
use Rattle.block_list.specs.declared.status.Status.{Status}
use Rattle.mapfile_text.specs.declared.state.MapState.{MapState}
use Rattle.crash_site.specs.Calls.{Call, Entry, Done, Failed, image_sync, draft_begin, draft_sync, draft_publish, map_settle}
use Rattle.mapfile_save.specs.MapNames.{MapNames}
use Rattle.mapfile_save.specs.Saving.{fill_calls, save_calls}
use Rattle.rescue_rules.specs.Setting.{Setting}
use Rattle.rescue_rules.specs.Deeds.{Deed, save_of, deed_calls}
use Rattle.rescue_rules.specs.Moves.{moves, state_after}
use Rattle.rescue_rules.specs.RunDeeds.{run_deeds}
use Rattle.rescue_rules.specs.Snapshots.{Snapshot, text_of, last_snapshot}
use Rattle.rescue_rules.specs.Stops.{is_settle, returned}
use Rattle.rescue_rules.specs.StopsBy.{is_publish, published}
use Rattle.rescue_rules.specs.Work.{Gain, begins, events_in}
use Rattle.rescue_rules.proofs.CutLemmas.{Cut}
use Rattle.rescue_rules.proofs.DeedStages.{last_calls, all_calls}
use Rattle.rescue_rules.proofs.MapfileLemmas.{opening_by}
use Rattle.rescue_rules.proofs.OthersLemmas.{reads_of}
use Rattle.rescue_safety.proofs.Texts.{texts_in, IsStill, AreStill, cut_take, texts_published}
use Rattle.rescue_safety.proofs.SaveLemmas.{Made, calls_of_run, reads_still, opening_still, load_still, moves_still}
use Rattle.rescue_safety.proofs.QuietLemmas.{SavesNone}
use Rattle.rescue_safety.proofs.BegunLemmas.{Past, cut_split, count_both, count_step, cut_published, save_published}
use Rattle.rescue_safety.proofs.ThenLemmas.{still_published}

abbrev pub settled : List Entry → ℕ
settled es = count_by is_settle es

-- each part of these calls publishes at most n times more than it settles
abbrev pub Exceeds : ℕ → List Call → Type 0
Exceeds n cs = (es : List Entry) → Cut cs es → published es ≤ n + settled es

none_exceed : (n : ℕ) → Exceeds n []
none_exceed n [] cut = omega arith
none_exceed n (e ∷ es) cut = absurd cut

-- calls that publish nothing, and settle that often
still_exceed : (n more : ℕ) (cs ds : List Call) → published (map Done cs) ≡ 0 → more ≤ settled (map Done cs)
    → Exceeds (n + more) ds → Exceeds n (cs ++ ds)
still_exceed n more cs ds none few rest es cut =
    ⊎_elim (λ (c : Cut cs es). let le : published es ≤ n + settled es = omega (arith, cut_published cs es c, none) in le)
    (λ (p : Past cs ds es).
    let le : published es ≤ n + settled es = omega (
      arith,
      ap published p.is ∙ count_both is_publish (map Done cs) p.rest,
      ap settled p.is ∙ count_both is_settle (map Done cs) p.rest,
      none,
      few,
      rest p.rest p.cut,
    ) in le)
    (cut_split cs ds es cut)

pub save_settled : (names : MapNames) (text : List ℕ) → 1 ≤ settled (map Done (save_calls names text))
save_settled names text =
    let fill : List Call = fill_calls text in
    let end : List Call = draft_sync ∷ draft_publish names.map ∷ map_settle names.map ∷ [] in
    let one : settled (map Done end) ≡ 1 = refl in
    omega (
      arith,
      one,
      count_step is_settle (Done image_sync) (Done (draft_begin names.draft) ∷ map Done (fill ++ end)),
      count_step is_settle (Done (draft_begin names.draft)) (map Done (fill ++ end)),
      ap settled (map-append Done fill end),
      count_both is_settle (map Done fill) (map Done end),
    )

saved_exceed : (names : MapNames) (text : List ℕ) (ds : List Call) → Exceeds 1 ds → Exceeds 1 (save_calls names text ++ ds)
saved_exceed names text ds rest es cut =
    let cs : List Call = save_calls names text in
    ⊎_elim
    (λ (c : Cut cs es).
    let le : published es ≤ 1 + settled es = omega (arith, cut_published cs es c, save_published names text) in le)
    (λ (p : Past cs ds es).
    let le : published es ≤ 1 + settled es = omega (
      arith,
      ap published p.is ∙ count_both is_publish (map Done cs) p.rest,
      ap settled p.is ∙ count_both is_settle (map Done cs) p.rest,
      save_published names text,
      save_settled names text,
      rest p.rest p.cut,
    ) in le)
    (cut_split cs ds es cut)

save_exceeds : (s : Setting) (save : Option Snapshot) (ds : List Call) → Exceeds 1 ds → Exceeds 1 (save_of s save ++ ds)
save_exceeds s None ds rest = rest
save_exceeds s (Some p) ds rest = saved_exceed s.names (text_of s.line p) ds rest

deeds_exceed : (s : Setting) (deeds : List Deed) (last : Snapshot) → AreStill deeds → Exceeds 1 (all_calls s deeds last)
deeds_exceed s [] last still =
    subst (λ (l : List Call). Exceeds 1 l) (append-nil (last_calls s last))
    (saved_exceed s.names (text_of s.line last) [] (none_exceed 1))
deeds_exceed s (d ∷ ds) last still =
    subst (λ (l : List Call). Exceeds 1 l)
    (sym (append_assoc (deed_calls s d) (flat_map (deed_calls s) ds) (last_calls s last)
    ∙ append_assoc d.calls (save_of s d.save) (all_calls s ds last)))
    (still_exceed 1 0 d.calls (save_of s d.save ++ all_calls s ds last)
    (still_published d.calls (All-head (λ (e : Deed). All IsStill e.calls) d ds still)) (omega arith)
    (save_exceeds s d.save (all_calls s ds last)
    (deeds_exceed s ds last (All-tail (λ (e : Deed). All IsStill e.calls) d ds still))))

-- ---- the first of some calls

none_before : (es fs : List Entry) → es ++ fs ≡ [] → es ≡ []
none_before [] fs is = refl
none_before (e ∷ es) fs is = absurd (cc)

pub cut_before : (cs : List Call) (es fs : List Entry) → Cut cs (es ++ fs) → Cut cs es
cut_before cs [] fs cut = tt
cut_before [] (e ∷ es) fs cut = absurd cut
cut_before (c ∷ cs) (Done x ∷ es) fs cut = (cut.0, cut_before cs es fs cut.1)
cut_before (c ∷ cs) (Failed x steps ∷ es) fs cut = (cut.0, none_before es fs cut.1)

module _ (s : Setting) (began : List Status) (state : Option MapState) (g : Gain) (made : Made s began state g) where
  abbrev pub load : List Call
  load = reads_of s made.given made.at made.answer

  abbrev pub all : List Call
  all = made.maps ++ (opening_by s true ++ (reads_of s made.given made.at made.answer ++ calls_of_run s began state g))

  pub all_exceed : Exceeds 0 all
  all_exceed =
      still_exceed 0 0 made.maps (opening_by s true ++ (load ++ calls_of_run s began state g))
      (still_published made.maps (reads_still made.maps made.are_reads)) (omega arith)
      (still_exceed 0 1 (opening_by s true) (load ++ calls_of_run s began state g)
      (still_published (opening_by s true) (opening_still s true)) (omega arith)
      (still_exceed 1 0 load (calls_of_run s began state g)
      (still_published load (load_still s made.given made.at made.answer)) (omega arith)
      (deeds_exceed s (run_deeds s (begins s began state g) (events_in g))
      (last_snapshot s (state_after s (begins s began state g) (events_in g)))
      (moves_still s (moves s (begins s began state g) (events_in g))))))

  -- what was published before a settle that returned
  pub settled_before : (k : ℕ) (before after : List Entry) (name : List ℕ)
      → take k g.calls ≡ before ++ Done (map_settle name) ∷ after → length (texts_in before) ≤ returned (take k g.calls)
  settled_before k before after name is =
      let front : Cut all before
      = cut_before all before (Done (map_settle name) ∷ after)
      (subst (λ (l : List Entry). Cut all l) is (cut_take k all g.calls made.cut)) in
      omega (
        arith,
        all_exceed before front,
        texts_published before,
        ap settled is ∙ count_both is_settle before (Done (map_settle name) ∷ after),
        count_step is_settle (Done (map_settle name)) after,
      )

-- of a rescue that never began a run nothing was
pub none_settled : (calls : List Entry) (k : ℕ) (before after : List Entry) (name : List ℕ)
    → ((j : ℕ) → SavesNone calls j) → take k calls ≡ before ++ Done (map_settle name) ∷ after
    → length (texts_in before) ≤ 0
none_settled calls zero before after name none is =
    let no : before ++ Done (map_settle name) ∷ after ≡ [] = sym is in
    omega (arith, ap (λ (l : List Entry). length (texts_in l)) (none_before before (Done (map_settle name) ∷ after) no))
none_settled calls (suc j) before after name none is =
    let same : j + 1 ≡ suc j = omega arith in
    let whole : published (take (suc j) calls) ≡ 0
    = subst (λ (n : ℕ). published (take n calls) ≡ 0) same (none j).published in
    omega (
      arith,
      whole,
      texts_published before,
      ap published is ∙ count_both is_publish before (Done (map_settle name) ∷ after),
    )
