-- Once a save has returned, so has the barrier, and nothing is read before it.
use Rattle.std.proofs.Common.{◌≡◌, ◌⊎◌, inl, inr, ⊎_elim, ℕ, ◌<◌, ◌≤◌, Bool, true, false, List, [], ◌∷◌, ◌++◌, take, map, Option, refl, sym, ap, ◌∙◌, subst, arith, append_assoc}
use Rattle.std.proofs.lemmas.List.Elements.{All-head, All-tail}
use Rattle.block_list.specs.declared.status.Status.{Status}
use Rattle.mapfile_text.specs.declared.state.MapState.{MapState}
use Rattle.crash_site.specs.Files.{File}
use Rattle.crash_site.specs.Calls.{Call, Entry, Done, Failed, image_open, image_sync, map_settle}
use Rattle.rescue_rules.specs.Setting.{Setting}
use Rattle.rescue_rules.specs.Stops.{files_before, has_barrier, is_settle, returned}
use Rattle.rescue_rules.specs.Work.{Gain, opening_calls, GoesOn, InOpening, InLoad, InRun, Goes, InMaps, AfterMaps, AreMapReads, is_map_read}
use Rattle.rescue_rules.proofs.CutLemmas.{Cut, add, cut_all}
use Rattle.rescue_rules.proofs.MapfileLemmas.{opening_by, opening_is}
use Rattle.rescue_safety.proofs.BegunLemmas.{Past, cut_split, count_both, count_step}
use Rattle.rescue_safety.proofs.SafeLemmas.{s, g, b, on, goes, calls_are, seen_alone}
use Rattle.rescue_safety.proofs.SaveLemmas.{Made, calls_of_run}
use Rattle.rescue_safety.proofs.SettleLemmas.{settled}
use Rattle.rescue_safety.proofs.Texts.{cut_take}
use Rattle.rescue_safety.proofs.ThenLemmas.{load as loaded}
use Rattle.saved_laws.specs.Laws.{ReadsComeAfterTheBarrier}
use Rattle.saved_laws.proofs.SavedLemmas.{synced}
use Rattle.rescue_safety.proofs.QuietLemmas.{unsettled}

-- ---- reads of maps settle nothing

abbrev IsMapRead : Call → Type 0
IsMapRead c = is_map_read c ≡ true

reads_unsettled : (cs : List Call) (es : List Entry) → AreMapReads cs → Cut cs es → settled es ≡ 0
reads_unsettled cs [] reads cut = refl
reads_unsettled [] (e ∷ es) reads cut = absurd cut
reads_unsettled (c ∷ cs) (Done z ∷ es) reads cut =
    omega (
      arith,
      count_step is_settle (Done z) es,
      reads_unsettled cs es (All-tail IsMapRead c cs reads) cut.1,
      ap (λ (b : Bool). add b 0)
          (ap (λ (d : Call). is_settle (Done d)) cut.0 ∙ unsettled c (All-head IsMapRead c cs reads)),
    )
reads_unsettled (c ∷ cs) (Failed z steps ∷ es) reads cut =
    ap (λ (l : List Entry). settled (Failed z steps ∷ l)) cut.1

-- ---- the opening

-- an image sync has returned among these calls
record IsSynced (es : List Entry) : Type 0 where
  front : List Entry
  rest : List Entry
  is : es ≡ front ++ Done image_sync ∷ rest

pub one_counts : (b : Bool) → add b 0 ≤ 1
one_counts true = omega arith
one_counts false = omega arith

at_most : (e : Entry) → settled (e ∷ []) ≤ 1
at_most e =
    omega (
      arith,
      count_step is_settle e [],
      one_counts (is_settle e),
      (let none : settled [] ≡ 0 = refl in none),
    )

opening_first : (name mapfile : List ℕ) (makes : Bool) (more : List Call) (es : List Entry)
    → Cut (image_open name makes ∷ map_settle mapfile ∷ image_sync ∷ more) es → IsSynced es ⊎ (settled es ≤ 1)
opening_first name mapfile makes more [] cut =
    inr (let le : settled [] ≤ 1 = omega (arith, (let none : settled [] ≡ 0 = refl in none)) in le)
opening_first name mapfile makes more (Failed x steps ∷ es) cut =
    inr (subst (λ (l : List Entry). settled (Failed x steps ∷ l) ≤ 1) (sym cut.1) (at_most (Failed x steps)))
opening_first name mapfile makes more (Done x ∷ []) cut = inr (at_most (Done x))
opening_first name mapfile makes more (Done x ∷ Failed y steps ∷ es) cut =
    inr (subst (λ (l : List Entry). settled (Done x ∷ Failed y steps ∷ l) ≤ 1) (sym cut.1.1)
    (omega (
      arith,
      count_step is_settle (Done x) (Failed y steps ∷ []),
      at_most (Done x),
      count_step is_settle (Done x) [],
      (let none : settled (Failed y steps ∷ []) ≡ 0 = refl in none),
      (let none : settled [] ≡ 0 = refl in none),
    )))
opening_first name mapfile makes more (Done x ∷ Done y ∷ []) cut =
    inr (omega (
      arith,
      count_step is_settle (Done x) (Done y ∷ []),
      at_most (Done y),
      ap (λ (b : Bool). add b 0) (ap (λ (d : Call). is_settle (Done d)) cut.0),
    ))
opening_first name mapfile makes more (Done x ∷ Done y ∷ Failed z steps ∷ es) cut =
    inr (subst (λ (l : List Entry). settled (Done x ∷ Done y ∷ Failed z steps ∷ l) ≤ 1) (sym cut.1.1.1)
    (omega (
      arith,
      count_step is_settle (Done x) (Done y ∷ Failed z steps ∷ []),
      count_step is_settle (Done y) (Failed z steps ∷ []),
      count_step is_settle (Done y) [],
      at_most (Done y),
      ap (λ (b : Bool). add b 0) (ap (λ (d : Call). is_settle (Done d)) cut.0),
      (let none : settled (Failed z steps ∷ []) ≡ 0 = refl in none),
      (let none : settled [] ≡ 0 = refl in none),
    )))
opening_first name mapfile makes more (Done x ∷ Done y ∷ Done z ∷ es) cut =
    inl (record {
      front = Done x ∷ Done y ∷ [];
      rest = es;
      is = ap (λ (d : Call). Done x ∷ Done y ∷ Done d ∷ es) cut.1.1.0;
    })

-- ---- a rescue

module _ (s : Setting) (began : List Status) (state : Option MapState) (g : Gain) (made : Made s began state g) where
  past_opening : (part rest : List Entry) → part ≡ map Done made.maps ++ rest → settled (map Done made.maps) ≡ 0
      → 0 < returned part → IsSynced rest ⊎ (settled rest ≤ 1) → has_barrier part ≡ true
  past_opening part rest is none some (inl synced_there) =
      ap has_barrier (is ∙ ap (λ (l : List Entry). map Done made.maps ++ l) synced_there.is
      ∙ sym (append_assoc (map Done made.maps) synced_there.front (Done image_sync ∷ synced_there.rest)))
      ∙ synced (map Done made.maps ++ synced_there.front) synced_there.rest
  past_opening part rest is none some (inr few) =
      absurd (let no : ⊥ = omega (
        arith,
        some,
        few,
        none,
        ap settled is ∙ count_both is_settle (map Done made.maps) rest,
      ) in no)

  pub saved_past : (k : ℕ) → 0 < returned (take k g.calls) → has_barrier (take k g.calls) ≡ true
  saved_past k some =
      let rest : List Call = opening_by s true ++ (loaded s began state g made ++ calls_of_run s began state g) in
      let part : List Entry = take k g.calls in
      ⊎_elim
      (λ (c : Cut made.maps part).
      absurd (let no : ⊥ = omega (arith, some, reads_unsettled made.maps part made.are_reads c) in no))
      (λ (c : Past made.maps rest part).
      past_opening part c.rest c.is
      (reads_unsettled made.maps (map Done made.maps) made.are_reads (cut_all made.maps)) some
      (opening_first s.outfile s.names.map true (loaded s began state g made ++ calls_of_run s began state g) c.rest c.cut))
      (cut_split made.maps rest part (cut_take k (made.maps ++ rest) g.calls made.cut))

-- ---- and reads come after it

module _ (s : Setting) (on : s.has_mapfile ≡ true) (files : List ℕ → Option File) where
  run_synced : (maps load : List Call) (rest : List Entry)
      → has_barrier (map Done maps ++ (map Done (opening_calls s ++ load) ++ rest)) ≡ true
  run_synced maps load rest =
      let two : List Entry = Done (image_open s.outfile true) ∷ Done (map_settle s.names.map) ∷ [] in
      ap (λ (l : List Call). has_barrier (map Done maps ++ (map Done (l ++ load) ++ rest))) (opening_is s on)
      ∙ ap has_barrier (sym (append_assoc (map Done maps) two (Done image_sync ∷ (map Done load ++ rest))))
      ∙ synced (map Done maps ++ two) (map Done load ++ rest)

  on_unread : (maps : List Call) (calls : List Entry) (g : Gain) → GoesOn s files g → calls ≡ map Done maps ++ g.calls
      → has_barrier calls ≡ false → g.reads ≡ []
  on_unread maps calls g (InOpening front back is none h) same off = none
  on_unread maps calls g (InLoad load there begins none h) same off = none
  on_unread maps calls g (InRun load statuses state end rest loaded stands is runs) same off =
      let on_it : has_barrier calls ≡ true
      = ap has_barrier (same ∙ ap (λ (l : List Entry). map Done maps ++ l) is) ∙ run_synced maps load rest in
      let no : true ≡ false = sym on_it ∙ off in
      absurd (cc)

  goes_unread : (g : Gain) → Goes s files g → has_barrier g.calls ≡ false → g.reads ≡ []
  goes_unread g (InMaps maps reads none broke) off = none
  goes_unread g (AfterMaps maps rest reads is goes_on) off =
      on_unread maps g.calls (record g { calls = rest }) goes_on is off

pub reads_come_after_the_barrier : ReadsComeAfterTheBarrier
reads_come_after_the_barrier r reads seen off =
    seen_alone r reads seen
    ∙ goes_unread (s r) (on r) (files_before (b r)) (g r) (goes r) (sym (ap has_barrier (calls_are r)) ∙ off)
