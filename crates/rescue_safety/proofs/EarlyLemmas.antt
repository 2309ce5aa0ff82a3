-- Maps that claim too much aren't owed.
use Rattle.std.proofs.Common.{◌≡◌, ℕ, Bool, true, false, List, [], ◌∷◌, Option, Some, None, refl, sym, ap, ◌∙◌, subst, arith, ⊎_elim}
use Rattle.std.specs.Prelude.{slice_get}
use Rattle.std.proofs.lemmas.Option.{none-some, same_Some}
use Rattle.block_list.specs.declared.status.Status.TheVariants.{Finished}
use Rattle.faulty_source.specs.Journal.{Reading}
use Rattle.crash_site.specs.Files.{File, bytes_of}
use Rattle.crash_site.specs.Folder.{Folder, after}
use Rattle.crash_site.specs.Laws.{early}
use Rattle.crash_site.specs.LostLaws.{retried}
use Rattle.crash_site.proofs.LawLemmas.{early_claims}
use Rattle.crash_site.proofs.RetryLemmas.{retried_loses}
use Rattle.rescue_rules.specs.Start.{Stands}
use Rattle.rescue_rules.specs.Beginning.{nothing_shown}
use Rattle.rescue_rules.specs.Snapshots.{Snapshot, text_of}
use Rattle.rescue_rules.proofs.StandsLemmas.{printed_stands}
use Rattle.rescue_safety.specs.Saves.{CallsFinished}
use Rattle.rescue_safety.specs.Safe.{Target}
use Rattle.rescue_safety.specs.Owed.{last_given, pairs_of, HoldsLast}
use Rattle.rescue_safety.specs.OwedFiles.{IsOwedIn, IsOwedAt}
use Rattle.rescue_safety.specs.Runs.{resting}
use Rattle.rescue_safety.specs.Early.{IsTooEarly, IsRetried, IsUnwrittenMap, unwritten}
use Rattle.rescue_safety.proofs.FinishedLemmas.{calls_finished}
use Rattle.rescue_safety.proofs.OwedLemmas.{owed_resting, reads_left}

-- One byte is read, and the map says that its position is finished.
abbrev files : List ℕ → Option File
files name = None

abbrev start : Folder
start = record { files = files; image = None; draft = None }

abbrev target : Target
target = record { outfile = 1 ∷ []; mapfile = 2 ∷ 3 ∷ []; from = 0; to = 0 }

abbrev draft : List ℕ
draft = 4 ∷ []

abbrev reading : Reading
reading = record { pos = 0; asked = 1; given = 7 ∷ []; ended = false }

abbrev shot : Snapshot
shot = record { map = Finished ∷ []; shown = nothing_shown; began = 0; now = 0 }

abbrev text : List ℕ
text = text_of [] shot

abbrev saved : Option File
saved = Some (record { bytes = text; regular = true })

abbrev none_old : ℕ → Bool
none_old x = false

-- nothing was finished
none_there : (x : ℕ) → CallsFinished None x → ⊥
none_there x c = let e : None ≡ Some c.there = c.is in cc

owed_at_first : IsOwedAt target [] none_old (resting files)
owed_at_first = owed_resting target [] none_old files (record { each = λ x fin. absurd (none_there x fin) })

-- what was saved finishes it
saved_stands : Stands saved 1 (Finished ∷ []) (Some nothing_shown)
saved_stands =
    printed_stands [] (record { bytes = text; regular = true }) 1 shot (omega arith) (omega arith)
    (record { pos = omega arith; some = omega arith; pass = omega arith }) (omega arith) (omega arith) refl

saved_finishes : CallsFinished saved 0
saved_finishes = calls_finished saved 1 0 (Finished ∷ []) (Some nothing_shown) saved_stands refl

-- and an output without bytes holds nothing
isnt_owed : (gave : List (ℕ × ℕ)) (found : List ℕ → Option File) → bytes_of (found target.outfile) ≡ []
    → found target.mapfile ≡ saved → IsOwedIn target gave none_old found → ⊥
isnt_owed gave found empty map owed =
    ⊎_elim (λ (is : false ≡ true). let e : false ≡ true = is in absurd (cc))
    (λ (h : HoldsLast target (last_given gave) (bytes_of (found target.outfile)) 0).
    none-some h.byte (subst (λ (l : List ℕ). slice_get l h.place ≡ Some h.byte) empty h.holds))
    (owed.each 0 (subst (λ (f : Option File). CallsFinished f 0) (sym map) saved_finishes))

-- the draft is published whole
published_whole : (after start (early target.outfile draft target.mapfile 0 reading.given text)).files target.mapfile ≡ saved
published_whole = refl

apart : target.outfile ≡ target.mapfile → ⊥
apart is = cc

pub early_map_is_not_owed : (t : Target) × (start : Folder) × (r : Reading) × IsTooEarly t start r
early_map_is_not_owed =
    let e = early_claims start target.outfile draft target.mapfile 0 reading.given text apart in (
      target,
      start,
      reading,
      record {
        whole = refl;
        place = 0;
        at = refl;
        draft = draft;
        text = text;
        breaks = record {
          before = owed_at_first;
          found = e.0;
          left = e.1;
          not_owed = isnt_owed (pairs_of 1 (reading ∷ [])) e.0
              (subst (λ (f : Option File). bytes_of f ≡ []) (sym e.2) refl) (e.3 ∙ published_whole);
        };
      },
    )

-- ---- synced again after a sync that failed

-- what was lost may be found with another byte
abbrev other : List ℕ
other = 8 ∷ []

other_isnt_owed : (found : List ℕ → Option File) → bytes_of (found target.outfile) ≡ other
    → found target.mapfile ≡ saved → IsOwedIn target (pairs_of 1 (reading ∷ [])) none_old found → ⊥
other_isnt_owed found bytes map owed =
    ⊎_elim (λ (is : false ≡ true). let e : false ≡ true = is in absurd (cc))
    (λ (h : HoldsLast target (last_given (pairs_of 1 (reading ∷ []))) (bytes_of (found target.outfile)) 0).
    let here : slice_get other h.place ≡ Some h.byte
    = subst (λ (l : List ℕ). slice_get l h.place ≡ Some h.byte) bytes h.holds in
    let at : h.place ≡ 0 = omega (arith, h.at) in
    let holds : Some 8 ≡ Some h.byte = subst (λ (n : ℕ). slice_get other n ≡ Some h.byte) at here in
    let given : Some 7 ≡ Some h.byte = h.given in
    let same : 8 ≡ 7 = same_Some 8 7 (holds ∙ sym given) in
    omega (arith, same))
    (owed.each 0 (subst (λ (f : Option File). CallsFinished f 0) (sym map) saved_finishes))

retried_whole : (after start (retried target.outfile draft target.mapfile 0 reading.given text)).files
    target.mapfile ≡ saved
retried_whole = refl

pub retried_sync_is_not_owed : (t : Target) × (start : Folder) × (r : Reading) × IsRetried t start r
retried_sync_is_not_owed =
    let e = retried_loses start target.outfile draft target.mapfile 0 reading.given other text apart refl in (
      target,
      start,
      reading,
      record {
        whole = refl;
        place = 0;
        at = refl;
        draft = draft;
        text = text;
        breaks = record {
          before = owed_at_first;
          found = e.0;
          left = e.1;
          not_owed = other_isnt_owed e.0 (ap bytes_of e.2) (e.3 ∙ retried_whole);
        };
      },
    )

-- ---- never written

abbrev never : List ℕ → Option File
never = (after start (unwritten target.outfile draft target.mapfile text)).files

pub unwritten_map_is_not_owed : (t : Target) × (start : Folder) × (r : Reading) × IsUnwrittenMap t start r
unwritten_map_is_not_owed = (
  target,
  start,
  reading,
  record {
    whole = refl;
    draft = draft;
    text = text;
    breaks = record {
      before = owed_at_first;
      found = never;
      left = reads_left (record { start = start; earlier = unwritten target.outfile draft target.mapfile text });
      not_owed = isnt_owed (pairs_of 1 (reading ∷ [])) never refl refl;
    };
  },
)
