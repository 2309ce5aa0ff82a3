-- The calls on a draft keep what holds of a site over a kernel.
use Rattle.std.proofs.Common.{◌≡◌, ◌⊎◌, ℕ, Bool, true, false, List, [], ◌∷◌, ◌++◌, length, Option, Some, None, refl, sym, ◌∙◌, subst}
use Rattle.std.proofs.lemmas.Bool.{false≢true}
use Rattle.kernel_files.specs.Volume.{Volume, sync_file, rename, Entry as Step, Done as Did, Failed as Broke, after as after_steps}
use Rattle.kernel_files.specs.MapCalls.{Begins, Appends, BreaksBegin, BreaksAppend}
use Rattle.crash_site.specs.Calls.{draft_begin, draft_append, draft_sync, draft_publish}
use Rattle.crash_site.specs.Folder.{Folder}
use Rattle.site_record.specs.Record.{Note}
use Rattle.kernel_laws.specs.Deeds.{steps_in, folder_after}
use Rattle.kernel_laws.specs.Calls.{IsApart}
use Rattle.kernel_laws.specs.Site.{Opened, IsRun, Stands}
use Rattle.kernel_laws.proofs.StepsIn.{begin_steps, append_steps}
use Rattle.kernel_laws.proofs.Stands.{rest_of, stands_done, stands_failed}
use Rattle.kernel_laws.proofs.DraftHolds.{LeftIs, begins_hold, begin_holds, appends_hold, append_holds, syncs_hold, sync_holds, publishes_hold, publish_holds}

module _ (v : Volume) (ns : List Note) (es : List Step) (o : Opened) (n : Note) (fs : List Step) where
  abbrev w : Volume
  w = after_steps v es

  abbrev d : Folder
  d = folder_after v ns es

  apart : (name : List ℕ) → (o.image_name ≡ Some name → ⊥) → IsRun v ns es o → IsApart d name
  apart name other run e = other (sym run.image ∙ e)

  pub keeps_begin : (name : List ℕ) (i : ℕ) (left : Option (List ℕ)) → Stands v ns es o → o.is_dropped ≡ false
      → n.call ≡ draft_begin name → n.ok ≡ true → n.made ≡ length fs → (o.image_name ≡ Some name → ⊥) → LeftIs o left
      → Begins w name i fs
      → Stands v (ns ++ n ∷ []) (es ++ fs)
      (record o {
        draft = Some i;
        draft_name = Some name;
        is_firm = false;
        is_lost = false;
        left = left;
        is_closed = true;
      })
  keeps_begin name i left h kept call ok made other is_left begins =
      stands_done v ns es o
      (record o {
        draft = Some i;
        draft_name = Some name;
        is_firm = false;
        is_lost = false;
        left = left;
        is_closed = true;
      })
      n fs (draft_begin name) h kept call ok made kept (λ e. absurd (false≢true (sym e))) (λ b. (
        (i, begins, refl, apart name other b.run, refl),
        begins_hold w d o b.disk b.reads (rest_of v ns es o b.run) b.follows name i fs left other is_left begins,
      ))

  pub breaks_begin_kept : (name : List ℕ) (steps : ℕ) (left : Option (List ℕ)) (firm lost : Bool) → Stands v ns es o
      → o.is_dropped ≡ false
      → n.call ≡ draft_begin name → n.ok ≡ false → n.made ≡ length fs → (o.image_name ≡ Some name → ⊥) → LeftIs o left
      → BreaksBegin w name steps fs
      → Stands v (ns ++ n ∷ []) (es ++ fs)
      (record o { draft = None; draft_name = None; is_firm = firm; is_lost = lost; left = left; is_closed = true })
  breaks_begin_kept name steps left firm lost h kept call ok made other is_left breaks =
      stands_failed v ns es o
      (record o { draft = None; draft_name = None; is_firm = firm; is_lost = lost; left = left; is_closed = true })
      n fs (draft_begin name) h kept call ok made kept (λ e. absurd (false≢true (sym e))) (λ b. (
        (
          subst (λ (k : ℕ). BreaksBegin w name k fs) (begin_steps w name steps fs breaks) breaks,
          refl,
          apart name other b.run,
          refl,
        ),
        begin_holds w d o b.disk b.reads (rest_of v ns es o b.run) b.follows name steps fs left firm lost other is_left
            breaks (steps_in (draft_begin name) fs),
      ))

  pub keeps_append : (i : ℕ) (piece : List ℕ) → Stands v ns es o → o.is_dropped ≡ false
      → n.call ≡ draft_append piece → n.ok ≡ true → n.made ≡ length fs → o.draft ≡ Some i → Appends i piece fs
      → Stands v (ns ++ n ∷ []) (es ++ fs) (record o { is_firm = false; is_closed = true })
  keeps_append i piece h kept call ok made at appends =
      stands_done v ns es o (record o { is_firm = false; is_closed = true })
      n fs (draft_append piece) h kept call ok made kept (λ e. absurd (false≢true (sym e))) (λ b. (
        (i, at, appends, at, refl),
        appends_hold w d o b.disk b.reads (rest_of v ns es o b.run) b.follows i piece fs at appends,
      ))

  pub breaks_append_kept : (i : ℕ) (piece : List ℕ) (steps : ℕ) → Stands v ns es o → o.is_dropped ≡ false
      → n.call ≡ draft_append piece → n.ok ≡ false → n.made ≡ length fs → o.draft ≡ Some i
      → BreaksAppend i piece steps fs
      → Stands v (ns ++ n ∷ []) (es ++ fs) (record o { is_firm = false; is_lost = true; is_closed = true })
  breaks_append_kept i piece steps h kept call ok made at breaks =
      stands_failed v ns es o (record o { is_firm = false; is_lost = true; is_closed = true })
      n fs (draft_append piece) h kept call ok made kept (λ e. absurd (false≢true (sym e))) (λ b. (
        (i, at, append_steps i piece steps fs breaks, at, refl),
        append_holds w d o b.disk b.reads (rest_of v ns es o b.run) b.follows i piece steps fs at breaks
            (steps_in (draft_append piece) fs),
      ))

  pub keeps_draft_sync : (i : ℕ) → Stands v ns es o → o.is_dropped ≡ false
      → n.call ≡ draft_sync → n.ok ≡ true → n.made ≡ length fs → o.draft ≡ Some i → o.is_lost ≡ false
      → fs ≡ Did (sync_file i) ∷ []
      → Stands v (ns ++ n ∷ []) (es ++ fs) (record o { is_firm = true; is_closed = true })
  keeps_draft_sync i h kept call ok made at whole syncs =
      stands_done v ns es o (record o { is_firm = true; is_closed = true })
      n fs draft_sync h kept call ok made kept (λ e. absurd (false≢true (sym e))) (λ b. (
        (i, at, b.run.lost whole i at, syncs, at, refl),
        syncs_hold w d o b.disk b.reads (rest_of v ns es o b.run) b.follows i fs at whole syncs,
      ))

  pub breaks_draft_sync_kept : (i : ℕ) → Stands v ns es o → o.is_dropped ≡ false
      → n.call ≡ draft_sync → n.ok ≡ false → n.made ≡ length fs → o.draft ≡ Some i
      → (fs ≡ []) ⊎ (fs ≡ Broke (sync_file i) ∷ [])
      → Stands v (ns ++ n ∷ []) (es ++ fs) (record o { is_firm = false; is_lost = true; is_closed = true })
  breaks_draft_sync_kept i h kept call ok made at breaks =
      stands_failed v ns es o (record o { is_firm = false; is_lost = true; is_closed = true })
      n fs draft_sync h kept call ok made kept (λ e. absurd (false≢true (sym e))) (λ b. (
        (i, at, breaks, at, refl),
        sync_holds w d o b.disk b.reads (rest_of v ns es o b.run) b.follows i fs at breaks (steps_in draft_sync fs),
      ))

  pub keeps_publish : (draft name : List ℕ) (i : ℕ) → Stands v ns es o → o.is_dropped ≡ false
      → n.call ≡ draft_publish name → n.ok ≡ true → n.made ≡ length fs → o.draft ≡ Some i → o.draft_name ≡ Some draft
      → (draft ≡ name → ⊥) → (o.image_name ≡ Some name → ⊥) → o.is_firm ≡ true → fs ≡ Did (rename draft name) ∷ []
      → Stands v (ns ++ n ∷ []) (es ++ fs)
      (record o { draft = None; draft_name = None; is_firm = false; is_lost = false; is_closed = true })
  keeps_publish draft name i h kept call ok made at is else_ other firm moves =
      stands_done v ns es o
      (record o { draft = None; draft_name = None; is_firm = false; is_lost = false; is_closed = true })
      n fs (draft_publish name) h kept call ok made kept (λ e. absurd (false≢true (sym e))) (λ b. (
        (i, draft, at, b.run.draft ∙ is, else_, moves, refl, apart name other b.run, refl),
        publishes_hold w d o b.disk b.reads (rest_of v ns es o b.run) b.follows draft name i fs at is other firm moves,
      ))

  pub breaks_publish_kept : (draft name : List ℕ) (i : ℕ) → Stands v ns es o → o.is_dropped ≡ false
      → n.call ≡ draft_publish name → n.ok ≡ false → n.made ≡ length fs → o.draft ≡ Some i → o.draft_name ≡ Some draft
      → (draft ≡ name → ⊥) → (o.image_name ≡ Some name → ⊥) → o.is_firm ≡ true
      → (fs ≡ []) ⊎ (fs ≡ Broke (rename draft name) ∷ [])
      → Stands v (ns ++ n ∷ []) (es ++ fs)
      (record o { draft = None; draft_name = None; is_firm = false; is_lost = false; is_closed = true })
  breaks_publish_kept draft name i h kept call ok made at is else_ other firm breaks =
      stands_failed v ns es o
      (record o { draft = None; draft_name = None; is_firm = false; is_lost = false; is_closed = true })
      n fs (draft_publish name) h kept call ok made kept (λ e. absurd (false≢true (sym e))) (λ b. (
        (i, draft, at, b.run.draft ∙ is, else_, breaks, refl, apart name other b.run, refl),
        publish_holds w d o b.disk b.reads (rest_of v ns es o b.run) b.follows draft name i fs at is other firm breaks
            (steps_in (draft_publish name) fs),
      ))
