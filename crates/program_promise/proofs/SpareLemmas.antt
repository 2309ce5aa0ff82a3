-- Calls that spare a file: a save, except for its mapfile and its draft.
use Rattle.std.proofs.Common.{◌≡◌, ◌≢◌, ℕ, List, [], ◌∷◌, ◌++◌, map, Option, Some, refl, sym, ap, ◌∙◌, inl, inr, subst}
use Rattle.std.specs.Prelude.{⊤}
use Rattle.crash_site.specs.Calls.{Call, Entry, Done as Returned, Failed, draft_append, draft_begin, draft_sync}
use Rattle.crash_site.specs.Changes.{Changes}
use Rattle.crash_site.specs.Folder.{Folder, appended, after, after_done, after_failed}
use Rattle.crash_site.specs.Along.{GoesAlong}
use Rattle.crash_site.proofs.LawLemmas.{done_other, failed_other}
use Rattle.mapfile_text.specs.Pieces.{pieces_of}
use Rattle.mapfile_save.specs.MapNames.{MapNames, HasOwnDraft}
use Rattle.mapfile_save.specs.Saving.{publish_calls, save_calls}
use Rattle.mapfile_save.proofs.StageLemmas.{appended_draft}

-- none of these calls changes a file, as they are made one after another
abbrev pub AllSpare : List ℕ → Folder → List Call → Type 0
AllSpare n d [] = ⊤
AllSpare n d (call ∷ calls) = (Changes d call n → ⊥) × AllSpare n (after_done d call) calls

-- so the file reads as it did, however far they came
pub spared : (n : List ℕ) (d : Folder) (calls : List Call) (es : List Entry) → AllSpare n d calls → GoesAlong calls es
    → (after d es).files n ≡ d.files n
spared n d calls [] spare goes = refl
spared n d [] (e ∷ es) spare goes = absurd goes
spared n d (call ∷ calls) (Returned c ∷ es) spare goes =
    let Q : Folder → Type 0 = λ f. (after f es).files n ≡ d.files n in
    subst (λ (x : Call). Q (after_done d x)) (sym goes.0)
    (spared n (after_done d call) calls es spare.1 goes.1 ∙ done_other d call n spare.0)
spared n d (call ∷ calls) (Failed c steps ∷ es) spare goes =
    ap (λ (r : List Entry). (after (after_failed d c steps) r).files n) goes.1
    ∙ ap (λ (x : Call). (after_failed d x steps).files n) goes.0 ∙ failed_other d call steps n spare.0

-- another name than the draft's
not_draft : (n draft : List ℕ) (o : Option (List ℕ)) → o ≡ Some draft → n ≢ draft → o ≡ Some n → ⊥
not_draft n draft o begun apart is =
    let both : Some draft ≡ Some n = sym begun ∙ is in
    apart (let same : draft ≡ n = cc in sym same)

module _ (names : MapNames) (n : List ℕ) (own : HasOwnDraft names) (other : n ≢ names.map)
    (apart : n ≢ names.draft) where
  fill_spares : (d : Folder) (pieces : List (List ℕ)) → d.draft ≡ Some names.draft
      → AllSpare n d (map draft_append pieces ++ draft_sync ∷ publish_calls names)
  fill_spares d [] begun = (
    (λ never. never),
    (
      (λ changes. elim changes [
        | inl is ↦ not_draft n names.draft d.draft begun apart is
        | inr is ↦ other is
      ]),
      ((λ e. apart (e ∙ sym own)), tt),
    ),
  )
  fill_spares d (piece ∷ pieces) begun = (
    not_draft n names.draft d.draft begun apart,
    fill_spares (appended d d.draft piece) pieces (appended_draft d d.draft piece ∙ begun),
  )

  pub save_spares : (d : Folder) (text : List ℕ) → AllSpare n d (save_calls names text)
  save_spares d text =
      ((λ never. never), (apart, fill_spares (after_done d (draft_begin names.draft)) (pieces_of text) refl))
