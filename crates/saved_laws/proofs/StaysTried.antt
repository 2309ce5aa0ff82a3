-- What was tried before a rescue is tried at each stop past its barrier.
use Rattle.std.proofs.Common.{◌≡◌, ◌≢◌, ⊎_elim, ℕ, zero, suc, ◌+◌, ◌≤◌, Bool, true, false, List, [], ◌∷◌, length, take, Option, refl, sym, ap, ◌∙◌, subst}
use Rattle.std.proofs.lemmas.Option.{none-some, same_Some}
use Rattle.block_list.specs.declared.status.Status.{Status}
use Rattle.block_list.specs.declared.status.Status.TheVariants.{NonTried, NonTrimmed, NonScraped, BadSector, Finished}
use Rattle.block_list.specs.Map.{Has}
use Rattle.mapfile_text.specs.declared.state.MapState.{MapState}
use Rattle.crash_site.specs.Files.{File}
use Rattle.crash_site.specs.Calls.{Entry}
use Rattle.rescue_rules.specs.Events.{began_at}
use Rattle.rescue_rules.specs.Preparation.{tried_again, trimmed_again, if_asked, prepared_status, changed_from}
use Rattle.rescue_rules.specs.Start.{Stands}
use Rattle.rescue_rules.specs.Stops.{files_before, has_barrier, LeftBy}
use Rattle.rescue_rules.specs.StopsBy.{IsSave, saves_of}
use Rattle.rescue_rules.specs.Work.{begins, events_in}
use Rattle.rescue_rules.proofs.ReadyLemmas.{order_over}
use Rattle.rescue_rules.proofs.SnapshotLemmas.{one_of}
use Rattle.rescue_safety.specs.Rescue.{Rescue}
use Rattle.rescue_safety.proofs.ClaimLemmas.{Ran, goes_ran}
use Rattle.rescue_safety.proofs.FinishedLemmas.{StandsAt, At}
use Rattle.rescue_safety.proofs.QuietLemmas.{SavesNone, none_or_stands}
use Rattle.rescue_safety.proofs.SafeLemmas.{s, g, b, on, ok, goes, over, calls_are, map_is}
use Rattle.saved_laws.specs.Failed.{Marks, MarksTried}
use Rattle.saved_laws.specs.Laws.{TriedIsKept}
use Rattle.saved_laws.proofs.FailedLemmas.{has_by}
use Rattle.saved_laws.proofs.TriedKept.{Tried, TriedIn, marks_tried, saves_tried}

-- ---- preparation

trimmed_tried : (u : Status) → u ≢ NonTried → trimmed_again u ≢ NonTried
trimmed_tried NonScraped t = λ is. absurd (cc)
trimmed_tried BadSector t = λ is. absurd (cc)
trimmed_tried _ t = t

prepared_tried : (again retrim : Bool) (u : Status) → if_asked again tried_again u ≢ NonTried
    → prepared_status again retrim u ≢ NonTried
prepared_tried again true u t = trimmed_tried (if_asked again tried_again u) t
prepared_tried again false u t = t

fresh_again : (again : Bool) → if_asked again tried_again NonTried ≡ NonTried
fresh_again true = refl
fresh_again false = refl

was_tried : (again : Bool) (u : Status) → if_asked again tried_again u ≢ NonTried → u ≢ NonTried
was_tried again u t is = t (ap (λ (v : Status). if_asked again tried_again v) is ∙ fresh_again again)

asked_tried : (asked : Bool) (change : Status → Status) (u : Status) → u ≢ NonTried → change u ≢ NonTried
    → if_asked asked change u ≢ NonTried
asked_tried true change u was now = now
asked_tried false change u was now = was

changed_tried : (domain : ℕ → Bool) (change : Status → Status) (at : ℕ) (map : List Status) (x : ℕ) (u : Status)
    → u ≢ NonTried → change u ≢ NonTried → Has map u x → Tried (changed_from domain change at map) x
changed_tried domain change at [] x u was now has = absurd (none-some u has)
changed_tried domain change at (w ∷ map) zero u was now has = record {
  status = if_asked (domain at) change w;
  other = subst (λ (v : Status). if_asked (domain at) change v ≢ NonTried) (sym (same_Some w u has))
      (asked_tried (domain at) change u was now);
  has = refl;
}
changed_tried domain change at (w ∷ map) (suc x) u was now has =
    let more : Tried (changed_from domain change (at + 1) map) x
    = changed_tried domain change (at + 1) map x u was now has in
    record { status = more.status; other = more.other; has = more.has }

-- ---- a stop

module _ (r : Rescue) (k : ℕ) (files : List ℕ → Option File) (u : Status) (x : ℕ) (le : k ≤ length (g r).calls)
    (left : LeftBy (b r) (g r).calls k files) (barrier : has_barrier (take k (g r).calls) ≡ true)
    (tried : if_asked (s r).try_again tried_again u ≢ NonTried)
    (marks : Marks (files_before (b r) (s r).names.map) u x) where
  abbrev old : Option File
  old = files_before (b r) (s r).names.map

  was : u ≢ NonTried
  was = was_tried (s r).try_again u tried

  number_tried : (began : List Status) (state : Option MapState) → Stands old (s r).end began state → (number : ℕ)
      → (found : Option File) (statuses : List Status)
      → IsSave old began (s r).line (saves_of (s r) began state (g r)) number found statuses → Tried statuses x
  number_tried began state there zero found statuses save =
      subst (λ (l : List Status). Tried l x) (sym save.1)
      (record { status = u; other = was; has = has_by u (λ is. was (sym is)) old (s r).end x began state there marks })
  number_tried began state there (suc n) found statuses save =
      let ran : Ran (s r) began state (g r) = goes_ran (s r) (files_before (b r)) (g r) began state (on r) (goes r) there in
      let has : Has began u x = has_by u (λ is. was (sym is)) old (s r).end x began state there marks in
      subst (λ (l : List Status). Tried l x) (sym save.2)
      (one_of (TriedIn (s r) (ok r) x) (saves_of (s r) began state (g r)) n save.0
      (saves_tried (s r) (ok r) x (begins (s r) began state (g r)) (events_in (g r))
      (order_over (s r) began state (began_at (g r).times)) ran.run
      (changed_tried (s r).domain (prepared_status (s r).try_again (s r).retrim) 0 began x u was
      (prepared_tried (s r).try_again (s r).retrim u tried) has)) save.1)

  found_over : StandsAt (files_before (b r) (s r).names.map) (s r).end → MarksTried (files (s r).names.map) x
  found_over (At began state there) =
      let kept = (over r k files le left barrier).kept began state there in
      let now : Tried kept.statuses x
      = number_tried began state there kept.number (files (s r).names.map) kept.statuses kept.is_save in
      marks_tried (files (s r).names.map) (s r).end x kept.statuses kept.shows kept.stands now

  pub found_still : MarksTried (files (s r).names.map) x
  found_still =
      ⊎_elim
      (λ (n : (j : ℕ) → SavesNone (g r).calls j).
      (u, was, subst (λ (f : Option File). Marks f u x) (sym ((over r k files le left barrier).mapfile (n k).published)) marks))
      found_over
      (none_or_stands (s r) (files_before (b r)) (g r) (on r) (goes r))

pub tried_is_kept : TriedIsKept
tried_is_kept r k files status x le left barrier tried marks =
    subst (λ (m : List ℕ). MarksTried (files m) x) (map_is r)
    (found_still r k files status x
    (subst (λ (l : List Entry). k ≤ length l) (calls_are r) le)
    (subst (λ (l : List Entry). LeftBy (b r) l k files) (calls_are r) left)
    (subst (λ (l : List Entry). has_barrier (take k l) ≡ true) (calls_are r) barrier) tried
    (subst (λ (m : List ℕ). Marks (files_before (b r) m) status x) (sym (map_is r)) marks))
