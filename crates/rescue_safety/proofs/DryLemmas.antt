-- A rescue writes nothing before its barrier has returned.
use Rattle.std.proofs.Common.{◌≡◌, inl, inr, ℕ, zero, suc, ◌+◌, Bool, true, false, ◌||◌, List, [], ◌∷◌, ◌++◌, take, map, All, Option, None, refl, sym, ap, ◌∙◌, subst, arith, append_assoc}
use Rattle.std.proofs.lemmas.Bool.{or_parts, or_right}
use Rattle.std.proofs.lemmas.List.Elements.{All-head, All-tail}
use Rattle.block_list.specs.declared.status.Status.{Status}
use Rattle.mapfile_text.specs.declared.state.MapState.{MapState}
use Rattle.faulty_source.specs.Journal.{Reading}
use Rattle.crash_site.specs.declared.site.SiteCall.TheVariants.{MapRead}
use Rattle.crash_site.specs.Files.{File}
use Rattle.crash_site.specs.Calls.{Call, image_write, Entry, Done, Failed}
use Rattle.crash_site.specs.CallsMade.{unanswered}
use Rattle.rescue_rules.specs.Setting.{Setting}
use Rattle.rescue_rules.specs.Given.{given}
use Rattle.rescue_rules.specs.Work.{Gain, AreMapReads, Goes, InMaps, AfterMaps}
use Rattle.rescue_rules.specs.Stops.{files_before, is_sync, is_write, has_barrier}
use Rattle.rescue_rules.proofs.CutLemmas.{IsOf, Cut, add}
use Rattle.rescue_rules.proofs.GoesLemmas.{Way, AnyMap, OneMap, way, broke_cut}
use Rattle.rescue_rules.proofs.MapfileLemmas.{opening_by}
use Rattle.rescue_safety.specs.Safe.{reads_until, by_then, gives}
use Rattle.rescue_safety.specs.Rescue.{Rescue, run_of}
use Rattle.rescue_safety.proofs.Texts.{cut_take}
use Rattle.rescue_safety.proofs.SaveLemmas.{Made, course_made}
use Rattle.rescue_safety.proofs.BegunLemmas.{writes_in, count_step}
use Rattle.rescue_safety.proofs.ThenLemmas.{IsDry, reads_dry, all_dry, front, load, run_calls}
use Rattle.rescue_safety.proofs.SafeLemmas.{s as setting_of, g as gain_of, b as past_of, on as is_on, goes as how_it_goes, calls_are}

-- ---- calls that write nothing

failed_writes : (c : Call) (steps : ℕ) → is_write (Failed c steps) ≡ is_write (Done c)
failed_writes (image_write pos piece) steps = refl
failed_writes c steps = refl

unanswered_writes : (c : Call) (steps : ℕ) → is_write (Failed (unanswered c) steps) ≡ is_write (Done c)
unanswered_writes (image_write pos piece) steps = refl
unanswered_writes c steps = refl

lost_dry : (c x : Call) (steps : ℕ) → IsOf c x → IsDry c → is_write (Failed x steps) ≡ false
lost_dry c x steps (inl is) dry = ap (λ (z : Call). is_write (Failed z steps)) is ∙ failed_writes c steps ∙ dry
lost_dry c x steps (inr is) dry = ap (λ (z : Call). is_write (Failed z steps)) is ∙ unanswered_writes c steps ∙ dry

step_dry : (e : Entry) (es : List Entry) → is_write e ≡ false → writes_in es ≡ 0 → writes_in (e ∷ es) ≡ 0
step_dry e es dry none =
    count_step is_write e es ∙ omega (arith, none, ap (λ (c : Bool). add c 0) dry)

none_taken : (n : ℕ) → writes_in (take n []) ≡ 0
none_taken zero = refl
none_taken (suc n) = refl

pub cut_dry : (cs : List Call) (es : List Entry) → All IsDry cs → Cut cs es → writes_in es ≡ 0
cut_dry cs [] dry cut = refl
cut_dry [] (e ∷ es) dry cut = absurd cut
cut_dry (c ∷ cs) (Done x ∷ es) dry cut =
    step_dry (Done x) es (ap (λ (z : Call). is_write (Done z)) cut.0 ∙ All-head IsDry c cs dry)
    (cut_dry cs es (All-tail IsDry c cs dry) cut.1)
cut_dry (c ∷ cs) (Failed x steps ∷ es) dry cut =
    step_dry (Failed x steps) es (lost_dry c x steps cut.0 (All-head IsDry c cs dry)) (ap writes_in cut.1)

-- ---- and among which the barrier returns

rest_synced : (c : Call) (cs : List Call) → is_sync (Done c) ≡ false → has_barrier (map Done (c ∷ cs)) ≡ true
    → has_barrier (map Done cs) ≡ true
rest_synced c cs off is = sym (ap (λ (d : Bool). d || has_barrier (map Done cs)) off) ∙ is

until_synced : (cs more : List Call) (es : List Entry) (k : ℕ) → All IsDry cs → has_barrier (map Done cs) ≡ true
    → Cut (cs ++ more) es → has_barrier (take k es) ≡ false → writes_in (take (suc k) es) ≡ 0
until_synced cs more [] k dry synced cut off = refl
until_synced [] more (e ∷ es) k dry synced cut off = let no : false ≡ true = synced in absurd (cc)
until_synced (c ∷ cs) more (Done x ∷ es) zero dry synced cut off =
    step_dry (Done x) [] (ap (λ (z : Call). is_write (Done z)) cut.0 ∙ All-head IsDry c cs dry) refl
until_synced (c ∷ cs) more (Done x ∷ es) (suc k) dry synced cut off =
    let both = or_parts (is_sync (Done x)) (has_barrier (take k es)) off in
    let none : is_sync (Done c) ≡ false = sym (ap (λ (z : Call). is_sync (Done z)) cut.0) ∙ both.0 in
    step_dry (Done x) (take (suc k) es) (ap (λ (z : Call). is_write (Done z)) cut.0 ∙ All-head IsDry c cs dry)
    (until_synced cs more es k (All-tail IsDry c cs dry) (rest_synced c cs none synced) cut.1 both.1)
until_synced (c ∷ cs) more (Failed x steps ∷ es) k dry synced cut off =
    step_dry (Failed x steps) (take k es) (lost_dry c x steps cut.0 (All-head IsDry c cs dry))
    (ap (λ (l : List Entry). writes_in (take k l)) cut.1 ∙ none_taken k)

opening_synced : (s : Setting) (maps loads : List Call)
    → has_barrier (map Done (maps ++ (opening_by s true ++ loads))) ≡ true
opening_synced s [] loads = refl
opening_synced s (c ∷ maps) loads =
    or_right (is_sync (Done c)) (has_barrier (map Done (maps ++ (opening_by s true ++ loads))))
    (opening_synced s maps loads)

-- ---- of a rescue

module _ (s : Setting) where
  made_dry : (began : List Status) (state : Option MapState) (g : Gain) (k : ℕ) → Made s began state g
      → has_barrier (take k g.calls) ≡ false → writes_in (take (suc k) g.calls) ≡ 0
  made_dry began state g k made off =
      until_synced (front s began state g made) (run_calls s began state g made) g.calls k
      (all_dry s began state g made) (opening_synced s made.maps (load s began state g made))
      (subst (λ (l : List Call). Cut l g.calls)
      (sym (append_assoc made.maps (opening_by s true ++ load s began state g made) (run_calls s began state g made)
      ∙ ap (λ (l : List Call). made.maps ++ l)
      (append_assoc (opening_by s true) (load s began state g made) (run_calls s began state g made)))) made.cut) off

  way_dry : (files : List ℕ → Option File) (g : Gain) (k : ℕ) (maps : List Call) (rest : List Entry)
      → AreMapReads maps → g.calls ≡ map Done maps ++ rest → Way s files (record g { calls = rest })
      → has_barrier (take k g.calls) ≡ false → writes_in (take (suc k) g.calls) ≡ 0
  way_dry files g k maps rest reads is (AnyMap any) off =
      made_dry [] None g k (course_made s [] None g maps rest reads is (any [] None)) off
  way_dry files g k maps rest reads is (OneMap began at was course) off =
      made_dry began at g k (course_made s began at g maps rest reads is course) off

  goes_dry : (files : List ℕ → Option File) (g : Gain) (k : ℕ) → s.has_mapfile ≡ true → Goes s files g
      → has_barrier (take k g.calls) ≡ false → writes_in (take (suc k) g.calls) ≡ 0
  goes_dry files g k on (InMaps maps reads never broke) off =
      cut_dry maps (take (suc k) g.calls) (reads_dry maps reads)
      (cut_take (suc k) maps g.calls (broke_cut MapRead [] maps g.calls broke))
  goes_dry files g k on (AfterMaps maps rest reads is goes) off =
      way_dry files g k maps rest reads is (way s files (record g { calls = rest }) on goes) off

none_until : (sector x : ℕ) (reads : List Reading) → given sector (reads_until sector zero reads) x ≡ None
none_until sector x [] = refl
none_until sector x (r ∷ rs) = refl

-- so nothing was given by then
pub none_given_early : (r : Rescue) (reads : List Reading) (k x : ℕ) → has_barrier (take k r.did.call.calls) ≡ false
    → gives (by_then (run_of r reads) k) x ≡ None
none_given_early r reads k x off =
    let early : has_barrier (take k (gain_of r).calls) ≡ false
    = subst (λ (l : List Entry). has_barrier (take k l) ≡ false) (calls_are r) off in
    let none : writes_in (take (suc k) (gain_of r).calls) ≡ 0
    = goes_dry (setting_of r) (files_before (past_of r)) (gain_of r) k (is_on r) (how_it_goes r) early in
    let next : suc k ≡ k + 1 = omega arith in
    let here : writes_in (take (k + 1) r.did.call.calls) ≡ 0
    = subst (λ (l : List Entry). writes_in (take (k + 1) l) ≡ 0) (sym (calls_are r))
    (subst (λ (n : ℕ). writes_in (take n (gain_of r).calls) ≡ 0) next none) in
    ap (λ (n : ℕ). given r.command.options.sector (reads_until r.command.options.sector n reads) x) here
    ∙ none_until r.command.options.sector x reads
