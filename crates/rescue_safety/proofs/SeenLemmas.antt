-- What a generating's save finishes was read before it was published.
use Rattle.std.proofs.Common.{◌≡◌, ◌⊎◌, inl, inr, ⊎_elim, ℕ, zero, suc, ◌+◌, ◌<◌, ◌≤◌, Bool, true, false, if◌then◌else◌, List, [], ◌∷◌, ◌++◌, length, map, take, drop, All, Option, Some, None, refl, sym, ap, subst, ◌∙◌, arith, append_assoc}
use Rattle.std.specs.List.{slice_get, flat_map}
use Rattle.std.proofs.lemmas.List.{take-append-drop}
use Rattle.std.proofs.lemmas.List.Elements.{All-nil, All-cons, All-head, All-tail}
use Rattle.block_list.specs.declared.status.Status.{Status}
use Rattle.block_list.specs.declared.status.Status.TheVariants.{Finished}
use Rattle.block_list.specs.Map.{Has}
use Rattle.mapfile_text.specs.declared.state.MapState.{MapState}
use Rattle.crash_site.specs.Files.{File}
use Rattle.crash_site.specs.Calls.{Call, Entry, Done, image_read}
use Rattle.mapfile_save.specs.Saving.{save_calls}
use Rattle.rescue_rules.specs.Setting.{Setting, place}
use Rattle.rescue_rules.specs.Snapshots.{Snapshot, text_of}
use Rattle.rescue_rules.specs.Deeds.{Deed, save_of, deed_calls, some_save, saves_in}
use Rattle.rescue_rules.specs.declared.stop.RunEnd.{RunEnd}
use Rattle.rescue_rules.specs.Work.{Gain}
use Rattle.rescue_rules.specs.StopsBy.{is_publish, published, IsSave}
use Rattle.rescue_rules.proofs.CutLemmas.{Cut}
use Rattle.rescue_rules.proofs.DeedStages.{last_calls, all_calls}
use Rattle.sweep_rules.specs.Sweep.{Sweep, Swept, generator, after_piece, after_pieces, is_save_due, sweep_snapshot, sweep_end, due_save, deeds_of}
use Rattle.sweep_rules.specs.SweepStops.{has_swept_out, sweep_saves}
use Rattle.sweep_rules.specs.SweepWork.{sweep_begins}
use Rattle.sweep_rules.proofs.EndLemmas.{end_map}
use Rattle.rescue_safety.proofs.Texts.{IsStill, cut_take}
use Rattle.rescue_safety.proofs.ThenLemmas.{still_published}
use Rattle.rescue_safety.proofs.BegunLemmas.{Past, cut_split, count_both, cut_published, save_published}
use Rattle.rescue_safety.proofs.LookedLemmas.{Gives, gives_later, swept_given}
use Rattle.rescue_safety.proofs.SweepLooks.{looks_in, looks_both, blind_before, save_blind, piece_look, IsBlind}

-- how many there are
abbrev pub count_of : List (ℕ × ℕ) → ℕ
count_of [] = zero
count_of (a ∷ ls) = suc (count_of ls)

-- how many reads of the output these calls have
abbrev pub seen_in : List Entry → ℕ
seen_in calls = count_of (looks_in calls)

-- the first of some looks are those of the first pieces
front_looks : (s : Setting) (ls more : List (ℕ × ℕ)) (es : List Swept) → map (piece_look s) es ≡ ls ++ more
    → ls ≡ map (piece_look s) (take (count_of ls) es)
front_looks s [] more es is = refl
front_looks s (a ∷ ls) more [] is = absurd (cc)
front_looks s (a ∷ ls) more (e ∷ es) is =
    let head : piece_look s e ≡ a = cc in
    let rest : map (piece_look s) es ≡ ls ++ more = cc in
    ap (λ (b : ℕ × ℕ). b ∷ ls) (sym head)
    ∙ ap (λ (l : List (ℕ × ℕ)). piece_look s e ∷ l) (front_looks s ls more es rest)

pub part_looks : (s : Setting) (calls : List Entry) (n : ℕ) (es : List Swept) → looks_in calls ≡ map (piece_look s) es
    → looks_in (take n calls) ≡ map (piece_look s) (take (seen_in (take n calls)) es)
part_looks s calls n es is =
    front_looks s (looks_in (take n calls)) (looks_in (drop n calls)) es
    (sym is ∙ ap looks_in (sym (take-append-drop n calls)) ∙ looks_both (take n calls) (drop n calls))

pub first_pieces : (P : Swept → Type 0) (n : ℕ) (es : List Swept) → All P es → All P (take n es)
first_pieces P zero es all = All-nil P
first_pieces P (suc n) [] all = All-nil P
first_pieces P (suc n) (e ∷ es) all =
    All-cons P e (take n es) (All-head P e es all) (first_pieces P n es (All-tail P e es all))

-- the calls of pieces, and then others
abbrev pub calls_of_pieces : Setting → (last : Snapshot) → (tail : List Deed) → Sweep → List Swept → List Call
calls_of_pieces s last tail m es = all_calls s (deeds_of (generator s) m es ++ tail) last

module _ (s : Setting) (x : ℕ) (last : Snapshot) (tail : List Deed) where
  abbrev calls_from : Sweep → List Swept → List Call
  calls_from m es = calls_of_pieces s last tail m es

  abbrev Seen : Sweep → List Swept → List Entry → Type 0
  Seen m es part = Has m.map Finished x ⊎ Gives (take (seen_in part) es) x

  same_shot : (p q : Snapshot) → Some q ≡ Some p → p ≡ q
  same_shot p q is = cc

  module _ (m : Sweep) (e : Swept) (es : List Swept) where
    abbrev n : Sweep
    n = after_piece (generator s) m e

    abbrev read : Call
    read = image_read (place s e.pos) e.len (Some (length e.got))

    abbrev Later : Type 0
    Later = (part : List Entry) (i : ℕ) (p : Snapshot) → Cut (calls_from n es) part
        → slice_get (saves_in (deeds_of (generator s) n es) last) i ≡ Some p → i < published part
        → Has p.map Finished x → Seen n es part

    step : (k : ℕ) → Has n.map Finished x ⊎ Gives (take k es) x → Has m.map Finished x ⊎ Gives (e ∷ take k es) x
    step k h =
        ⊎_elim (λ (was : Has n.map Finished x). swept_given s m e (take k es) x was)
        (λ (g : Gives (take k es) x). inr (gives_later e (take k es) x g)) h

    due_seen : (due : Bool) (part : List Entry) (i : ℕ) (p : Snapshot) → Later
        → Cut (save_of s (if due then Some (sweep_snapshot n) else None) ++ calls_from n es) part
        → slice_get (some_save (if due then Some (sweep_snapshot n) else None) ++ saves_in (deeds_of (generator s) n es) last) i ≡ Some p
        → i < published part → Has p.map Finished x → Has n.map Finished x ⊎ Gives (take (seen_in part) es) x
    due_seen false part i p later cut is low has = later part i p cut is low has
    due_seen true part zero p later cut is low has =
        inl (subst (λ (q : Snapshot). Has q.map Finished x) (same_shot p (sweep_snapshot n) is) has)
    due_seen true part (suc i) p later cut is low has =
        let save : List Call = save_calls s.names (text_of s.line (sweep_snapshot n)) in
        ⊎_elim
        (λ (c : Cut save part).
        absurd (let none : ⊥ = omega (
          arith,
          low,
          cut_published save part c,
          save_published s.names (text_of s.line (sweep_snapshot n)),
        ) in none))
        (λ (c : Past save (calls_from n es) part).
        let more : published part ≡ 1 + published c.rest
        = ap published c.is ∙ count_both is_publish (map Done save) c.rest
        ∙ ap (λ (k : ℕ). k + published c.rest) (save_published s.names (text_of s.line (sweep_snapshot n))) in
        let same : looks_in part ≡ looks_in c.rest
        = ap looks_in c.is ∙ blind_before save c.rest (save_blind s.names (text_of s.line (sweep_snapshot n))) in
        subst (λ (ls : List (ℕ × ℕ)). Has n.map Finished x ⊎ Gives (take (count_of ls) es) x) (sym same)
        (later c.rest i p c.cut is (omega (arith, low, more)) has))
        (cut_split save (calls_from n es) part cut)

  -- what such a save finishes was finished, or a piece gave it that had been read
  pub saved_seen : (m : Sweep) (es : List Swept) (part : List Entry) (i : ℕ) (p : Snapshot)
      → (Has last.map Finished x → Has (after_pieces (generator s) m es).map Finished x) → Cut (calls_from m es) part
      → slice_get (saves_in (deeds_of (generator s) m es) last) i ≡ Some p → i < published part → Has p.map Finished x
      → Seen m es part
  saved_seen m [] part zero p end cut is low has =
      inl (end (subst (λ (q : Snapshot). Has q.map Finished x) (same_shot p last is) has))
  saved_seen m [] part (suc i) p end cut is low has = absurd (cc)
  saved_seen m (e ∷ es) part i p end cut is low has =
      let n : Sweep = after_piece (generator s) m e in
      let read : Call = image_read (place s e.pos) e.len (Some (length e.got)) in
      let save : List Call = save_of s (due_save (generator s) m e) in
      let deeds : List Deed = deeds_of (generator s) n es in
      let here : Cut ((read ∷ []) ++ (save ++ calls_from n es)) part
      = subst (λ (l : List Call). Cut l part)
      (append_assoc (read ∷ save) (flat_map (deed_calls s) (deeds ++ tail)) (last_calls s last)
      ∙ ap (λ (l : List Call). read ∷ l) refl) cut in
      let saves : saves_in (deeds_of (generator s) m (e ∷ es)) last ≡ some_save (due_save (generator s) m e) ++ saves_in deeds last
      = append_assoc (some_save (due_save (generator s) m e)) (flat_map (λ (d : Deed). some_save d.save) deeds) (last ∷ []) in
      ⊎_elim
      (λ (c : Cut (read ∷ []) part).
      absurd (let none : ⊥ = omega (arith, low, cut_published (read ∷ []) part c) in none))
      (λ (c : Past (read ∷ []) (save ++ calls_from n es) part).
      let more : published part ≡ published c.rest
      = ap published c.is ∙ count_both is_publish (map Done (read ∷ [])) c.rest ∙ omega arith in
      let same : looks_in part ≡ piece_look s e ∷ looks_in c.rest = ap looks_in c.is in
      subst (λ (ls : List (ℕ × ℕ)). Has m.map Finished x ⊎ Gives (take (count_of ls) (e ∷ es)) x) (sym same)
      (step m e es (seen_in c.rest)
      (due_seen m e es (is_save_due m e) c.rest i p
      (λ rest j q cut' is' low' has'. saved_seen n es rest j q end cut' is' low' has')
      c.cut (subst (λ (l : List Snapshot). slice_get l i ≡ Some p) saves is) (omega (arith, low, more)) has)))
      (cut_split (read ∷ []) (save ++ calls_from n es) part here)

-- ---- a generating

-- The calls of one that began: they are blind and save nothing until the pieces come.
pub record Begins (s : Setting) (began : List Status) (state : Option MapState) (g : Gain) (pieces : List Swept)
    (end : RunEnd) : Type 0 where
  pub front : List Call
  pub still : All IsStill front
  pub blind : All IsBlind front
  pub tail : List Deed
  pub cut : Cut (front ++ calls_of_pieces s
      (sweep_end (has_swept_out end) (after_pieces (generator s) (sweep_begins (generator s) began state g) pieces)) tail
      (sweep_begins (generator s) began state g) pieces) g.calls

module _ (s : Setting) (began : List Status) (state : Option MapState) (g : Gain) (pieces : List Swept) (end : RunEnd)
    (b : Begins s began state g pieces end) where
  abbrev m : Sweep
  m = sweep_begins (generator s) began state g

  abbrev last : Snapshot
  last = sweep_end (has_swept_out end) (after_pieces (generator s) (sweep_begins (generator s) began state g) pieces)

  begins_seen : (k i : ℕ) (p : Snapshot) (x : ℕ) → slice_get (sweep_saves (generator s) began state g pieces end) i ≡ Some p
      → i < published (take k g.calls) → Has p.map Finished x
      → Has began Finished x ⊎ Gives (take (seen_in (take k g.calls)) pieces) x
  begins_seen k i p x is low has =
      let part : List Entry = take k g.calls in
      let more : List Call = calls_of_pieces s last b.tail m pieces in
      ⊎_elim
      (λ (c : Cut b.front part).
      absurd (let none : ⊥ = omega (arith, low, cut_published b.front part c, still_published b.front b.still) in none))
      (λ (c : Past b.front more part).
      let few : published part ≡ published (map Done b.front) + published c.rest
      = ap published c.is ∙ count_both is_publish (map Done b.front) c.rest in
      let same : looks_in part ≡ looks_in c.rest = ap looks_in c.is ∙ blind_before b.front c.rest b.blind in
      subst (λ (ls : List (ℕ × ℕ)). Has began Finished x ⊎ Gives (take (count_of ls) pieces) x) (sym same)
      (saved_seen s x last b.tail m pieces c.rest i p
      (λ h. subst (λ (l : List Status). Has l Finished x) (end_map (has_swept_out end) (after_pieces (generator s) m pieces)) h)
      c.cut is (omega (arith, low, few, still_published b.front b.still)) has))
      (cut_split b.front more part (cut_take k (b.front ++ more) g.calls b.cut))

  pub save_seen : (old found : Option File) (line : List ℕ) (k number : ℕ) (statuses : List Status) (x : ℕ)
      → IsSave old began line (sweep_saves (generator s) began state g pieces end) number found statuses
      → number ≤ published (take k g.calls) → Has statuses Finished x
      → Has began Finished x ⊎ Gives (take (seen_in (take k g.calls)) pieces) x
  save_seen old found line k zero statuses x is few has = inl (subst (λ (l : List Status). Has l Finished x) is.1 has)
  save_seen old found line k (suc i) statuses x is few has =
      begins_seen k i is.0 x is.1 (omega (arith, few)) (subst (λ (l : List Status). Has l Finished x) is.2 has)

-- what a save finishes was finished if nothing was published
pub none_saved : (old found : Option File) (began : List Status) (line : List ℕ) (saves : List Snapshot) (number : ℕ)
    (statuses : List Status) (x : ℕ) → IsSave old began line saves number found statuses → number ≤ 0
    → Has statuses Finished x → Has began Finished x
none_saved old found began line saves zero statuses x is few has = subst (λ (l : List Status). Has l Finished x) is.1 has
none_saved old found began line saves (suc i) statuses x is few has = absurd (let no_number : ⊥ = omega (arith, few) in no_number)
