-- What holds of the files after a call on the draft.
use Rattle.std.proofs.Common.{◌≡◌, ◌⊎◌, inl, inr, ℕ, Bool, true, false, List, [], ◌∷◌, Option, Some, None, refl, sym, ◌∙◌, ap, subst}
use Rattle.std.specs.Str.{bytes_eq}
use Rattle.std.proofs.lemmas.Bool.{cases_Bool, false≢true}
use Rattle.kernel_files.specs.Volume.{Node, Volume, sync_file, rename, Entry as Step, Done as Did, Failed as Broke, after as after_steps}
use Rattle.kernel_files.specs.MapCalls.{Begins, Appends, BreaksBegin, BreaksAppend}
use Rattle.crash_site.specs.Calls.{draft_begin, draft_append, draft_sync, draft_publish}
use Rattle.crash_site.specs.Folder.{Folder, appended, published, after_done, after_failed}
use Rattle.crash_site.specs.Disk.{Disk}
use Rattle.kernel_laws.specs.Refines.{Refines, Begun, ImageIs, Follows}
use Rattle.kernel_laws.specs.Site.{Opened, IsCalm}
use Rattle.kernel_laws.proofs.Stands.{RestOfRun}
use Rattle.kernel_laws.proofs.Names.{is_name, not_name, free_at}
use Rattle.kernel_laws.proofs.Spares.{some_is, none_isnt}
use Rattle.kernel_laws.proofs.DraftFiles.{Only, only_appends, only_append, only_first, only_sync, only_failed_sync, appends_lost, sync_calm, Leads, begins_lead, begin_leads, begins_lost, moved_names, moved_may, half_moved_may}

-- The name that is left unsynced after a begin: that of the draft before it, if one is open and wasn't synced. Another
-- name isn't left then.
abbrev pub LeftIs : Opened → Option (List ℕ) → Type 0
LeftIs o left = ((o.draft_name ≡ None) × (left ≡ o.left))
    ⊎ (((i : ℕ) × (o.draft ≡ Some i) × (o.is_firm ≡ true) × (left ≡ o.left))
    ⊎ (((o.left ≡ None) ⊎ (o.left ≡ o.draft_name)) × (left ≡ o.draft_name)))

same_text : (m n : List ℕ) → Some m ≡ Some n → m ≡ n
same_text m n e = cc

no_text : (n : List ℕ) → None ≡ Some n → ⊥
no_text n e = cc

appended_image : (d : Folder) (x : Option (List ℕ)) (piece : List ℕ) → (appended d x piece).image ≡ d.image
appended_image d None piece = refl
appended_image d (Some n) piece = refl

appended_draft : (d : Folder) (x : Option (List ℕ)) (piece : List ℕ) → (appended d x piece).draft ≡ d.draft
appended_draft d None piece = refl
appended_draft d (Some n) piece = refl

published_image : (d : Folder) (x : Option (List ℕ)) (name : List ℕ) → (published d x name).image ≡ d.image
published_image d None name = refl
published_image d (Some n) name = refl

module _ (w : Volume) (d : Folder) (o : Opened) (k : Disk) (reads : k.reads ≡ d) (h : RestOfRun w d o)
    (f : Follows w k o.draft o.image) where
  -- the draft is a file of its own
  begun : (i : ℕ) → o.draft ≡ Some i → (name : List ℕ) × (o.draft_name ≡ Some name) × Begun name i w
  begun i at =
      let r : Refines w k (Some i) = subst (λ (x : Option ℕ). Refines w k x) at f.files in
      (r.draft.0, sym h.draft ∙ ap (λ (x : Folder). x.draft) (sym reads) ∙ r.draft.1, r.draft.2)

  -- the image's name isn't the draft's
  apart : (i : ℕ) (name : List ℕ) → o.image ≡ Some i → o.image_name ≡ Some name → o.draft_name ≡ Some name → ⊥
  apart i name at image draft =
      let m : ImageIs w k (Some i) = subst (λ (x : Option ℕ). ImageIs w k x) at f.image in
      let e : o.image_name ≡ Some m.0 = sym h.image ∙ ap (λ (x : Folder). x.image) (sym reads) ∙ m.1.image in
      m.1.draft (ap (λ (x : Folder). x.draft) reads ∙ h.draft ∙ draft ∙ sym image ∙ e)

  named : (i : ℕ) (draft : List ℕ) → o.draft ≡ Some i → o.draft_name ≡ Some draft → w.names draft ≡ Some i
  named i draft at is =
      let b = begun i at in
      let same : b.0 ≡ draft = same_text b.0 draft (sym b.1 ∙ is) in
      subst (λ (n : List ℕ). w.names n ≡ Some i) same b.2.named

  -- Its text and its sync.

  others_calm : (i : ℕ) → o.draft ≡ Some i → (u : Volume) → Only i w u → (n : List ℕ) (j : ℕ) → u.names n ≡ Some j
      → (o.image_name ≡ Some n → ⊥) → (o.draft_name ≡ Some n → ⊥) → (o.left ≡ Some n → ⊥) → IsCalm (u.nodes j)
  others_calm i at u t n j is image draft left =
      let b = begun i at in
      let was : w.names n ≡ Some j = ap (λ (x : List ℕ → Option ℕ). x n) (sym t.names) ∙ is in
      let other : j ≡ i → ⊥ = λ e. free_at i (w.names n) (w.may n)
      (b.2.apart n (λ same. draft (b.1 ∙ ap (λ (x : List ℕ). Some x) (sym same)))) (f.files.here n)
      (was ∙ ap (λ (x : ℕ). Some x) e) in
      subst (λ (x : Node). IsCalm x) (sym (t.others j other)) (h.calm n j was image draft left)

  content_holds : (i : ℕ) → o.draft ≡ Some i → (u : Volume) → Only i w u → (e : Folder) → e.image ≡ d.image
      → e.draft ≡ d.draft → (firm lost : Bool) → (firm ≡ true → IsCalm (u.nodes i))
      → (lost ≡ false → (u.nodes i).lost ≡ [])
      → RestOfRun u e (record o { is_firm = firm; is_lost = lost; is_closed = true })
  content_holds i at u t e image draft firm lost is_firm is_lost = record {
    image = image ∙ h.image;
    draft = draft ∙ h.draft;
    entry = λ none name j a b. ap (λ (x : List ℕ → List (Option ℕ)). x name) t.may ∙ h.entry none name j a b;
    firm = λ yes j b. subst (λ (x : ℕ). IsCalm (u.nodes x)) (some_is i j (sym at ∙ b)) (is_firm yes);
    lost = λ no j b. subst (λ (x : ℕ). (u.nodes x).lost ≡ []) (some_is i j (sym at ∙ b)) (is_lost no);
    calm = others_calm i at u t;
  }

  pub appends_hold : (i : ℕ) (piece : List ℕ) (es : List Step) → o.draft ≡ Some i → Appends i piece es
      → RestOfRun (after_steps w es) (after_done d (draft_append piece))
      (record o { is_firm = false; is_closed = true })
  appends_hold i piece es at made =
      content_holds i at (after_steps w es) (only_appends i w es piece w made (only_first i w))
      (after_done d (draft_append piece)) (appended_image d d.draft piece) (appended_draft d d.draft piece)
      false o.is_lost (λ e. absurd (false≢true e)) (λ e. appends_lost i es piece w made (h.lost e i at))

  pub append_holds : (i : ℕ) (piece : List ℕ) (steps : ℕ) (es : List Step) → o.draft ≡ Some i
      → BreaksAppend i piece steps es → (count : ℕ)
      → RestOfRun (after_steps w es) (after_failed d (draft_append piece) count)
      (record o { is_firm = false; is_lost = true; is_closed = true })
  append_holds i piece steps es at made count =
      content_holds i at (after_steps w es) (only_append i w steps piece es made)
      (after_failed d (draft_append piece) count) refl refl false true
      (λ e. absurd (false≢true e)) (λ e. absurd (false≢true (sym e)))

  pub syncs_hold : (i : ℕ) (es : List Step) → o.draft ≡ Some i → o.is_lost ≡ false → es ≡ Did (sync_file i) ∷ []
      → RestOfRun (after_steps w es) (after_done d draft_sync) (record o { is_firm = true; is_closed = true })
  syncs_hold i es at whole is =
      let none : (w.nodes i).lost ≡ [] = h.lost whole i at in
      subst (λ (l : List Step). RestOfRun (after_steps w l) d (record o { is_firm = true; is_closed = true })) (sym is)
      (content_holds i at (after_steps w (Did (sync_file i) ∷ [])) (only_sync i w) d refl refl true o.is_lost
      (λ e. sync_calm i w none) (λ e. (sync_calm i w none).lost))

  pub sync_holds : (i : ℕ) (es : List Step) → o.draft ≡ Some i → (es ≡ []) ⊎ (es ≡ Broke (sync_file i) ∷ [])
      → (count : ℕ)
      → RestOfRun (after_steps w es) (after_failed d draft_sync count)
      (record o { is_firm = false; is_lost = true; is_closed = true })
  sync_holds i es at broke count =
      content_holds i at (after_steps w es) (only_failed_sync i w es broke) d refl refl false true
      (λ e. absurd (false≢true e)) (λ e. absurd (false≢true (sym e)))

  -- Its begin.

  -- if the draft was synced, its own file is calm, too
  firm_calm : (i : ℕ) → o.draft ≡ Some i → o.is_firm ≡ true → (n : List ℕ) (j : ℕ) → w.names n ≡ Some j
      → (o.image_name ≡ Some n → ⊥) → (o.left ≡ Some n → ⊥) → IsCalm (w.nodes j)
  firm_calm i at firm n j is image left =
      let b = begun i at in
      elim (cases_Bool (bytes_eq n b.0)) [
        | inl t ↦
            let e : i ≡ j = some_is i j (sym b.2.named ∙ ap w.names (sym (is_name n b.0 t)) ∙ is) in
            subst (λ (x : ℕ). IsCalm (w.nodes x)) e (h.firm firm i at)
        | inr t ↦ h.calm n j is image (λ e. not_name n b.0 t (same_text n b.0 (sym e ∙ b.1))) left
      ]

  left_calm : (left : Option (List ℕ)) → LeftIs o left → (n : List ℕ) (j : ℕ) → w.names n ≡ Some j
      → (o.image_name ≡ Some n → ⊥) → (left ≡ Some n → ⊥) → IsCalm (w.nodes j)
  left_calm left (inl (none, same)) n j is image not_left =
      h.calm n j is image (λ e. no_text n (sym none ∙ e)) (λ e. not_left (same ∙ e))
  left_calm left (inr (inl (i, at, firm, same))) n j is image not_left =
      firm_calm i at firm n j is image (λ e. not_left (same ∙ e))
  left_calm left (inr (inr (inl none, same))) n j is image not_left =
      h.calm n j is image (λ e. not_left (same ∙ e)) (λ e. no_text n (sym none ∙ e))
  left_calm left (inr (inr (inr twice, same))) n j is image not_left =
      h.calm n j is image (λ e. not_left (same ∙ e)) (λ e. not_left (same ∙ sym twice ∙ e))

  led_calm : (name : List ℕ) (u : Volume) → Leads name w u → (left : Option (List ℕ)) → LeftIs o left
      → (n : List ℕ) (j : ℕ) → u.names n ≡ Some j → (o.image_name ≡ Some n → ⊥) → (left ≡ Some n → ⊥)
      → IsCalm (u.nodes j)
  led_calm name u t left is_left n j is image not_left =
      elim (t.led n j is) [
        | inl calm ↦ calm
        | inr old ↦ subst (λ (x : Node). IsCalm x) (sym old.1) (left_calm left is_left n j old.0 image not_left)
      ]

  led_entry : (name : List ℕ) → (o.image_name ≡ Some name → ⊥) → (u : Volume) → Leads name w u → o.has_folder ≡ false
      → (n : List ℕ) (i : ℕ) → o.image_name ≡ Some n → o.image ≡ Some i → u.may n ≡ Some i ∷ []
  led_entry name other u t none n i image at =
      t.may n (λ e. other (image ∙ ap (λ (x : List ℕ). Some x) e)) ∙ h.entry none n i image at

  pub begins_hold : (name : List ℕ) (i : ℕ) (es : List Step) (left : Option (List ℕ)) → (o.image_name ≡ Some name → ⊥)
      → LeftIs o left → Begins w name i es
      → RestOfRun (after_steps w es) (after_done d (draft_begin name))
      (record o {
        draft = Some i;
        draft_name = Some name;
        is_firm = false;
        is_lost = false;
        left = left;
        is_closed = true;
      })
  begins_hold name i es left other is_left made =
      let u : Volume = after_steps w es in
      let t : Leads name w u = begins_lead name w i es made in record {
        image = h.image;
        draft = refl;
        entry = led_entry name other u t;
        firm = λ e. absurd (false≢true e);
        lost = λ e j at. subst (λ (x : ℕ). (u.nodes x).lost ≡ []) (some_is i j at) (begins_lost name w i es made);
        calm = λ n j is image draft not_left. led_calm name u t left is_left n j is image not_left;
      }

  pub begin_holds : (name : List ℕ) (steps : ℕ) (es : List Step) (left : Option (List ℕ)) (firm lost : Bool)
      → (o.image_name ≡ Some name → ⊥) → LeftIs o left → BreaksBegin w name steps es → (count : ℕ)
      → RestOfRun (after_steps w es) (after_failed d (draft_begin name) count)
      (record o { draft = None; draft_name = None; is_firm = firm; is_lost = lost; left = left; is_closed = true })
  begin_holds name steps es left firm lost other is_left made count =
      let u : Volume = after_steps w es in
      let t : Leads name w u = begin_leads name w steps es made in record {
        image = h.image;
        draft = refl;
        entry = led_entry name other u t;
        firm = λ e j at. absurd (none_isnt j at);
        lost = λ e j at. absurd (none_isnt j at);
        calm = λ n j is image draft not_left. led_calm name u t left is_left n j is image not_left;
      }

  -- Its publish.

  abbrev closed : Opened
  closed = record o { draft = None; draft_name = None; is_firm = false; is_lost = false; is_closed = true }

  -- the image's entry after the draft's name and another one changed
  move_entry : (draft name : List ℕ) (u : Volume) → o.draft_name ≡ Some draft → (o.image_name ≡ Some name → ⊥)
      → ((n : List ℕ) → (n ≡ draft → ⊥) → (n ≡ name → ⊥) → u.may n ≡ w.may n) → o.has_folder ≡ false
      → (n : List ℕ) (i : ℕ) → o.image_name ≡ Some n → o.image ≡ Some i → u.may n ≡ Some i ∷ []
  move_entry draft name u is other may none n i image at =
      may n (λ e. apart i n at image (is ∙ ap (λ (x : List ℕ). Some x) (sym e)))
      (λ e. other (image ∙ ap (λ (x : List ℕ). Some x) e))
      ∙ h.entry none n i image at

  pub publishes_hold : (draft name : List ℕ) (i : ℕ) (es : List Step) → o.draft ≡ Some i → o.draft_name ≡ Some draft
      → (o.image_name ≡ Some name → ⊥) → o.is_firm ≡ true → es ≡ Did (rename draft name) ∷ []
      → RestOfRun (after_steps w es) (after_done d (draft_publish name)) closed
  publishes_hold draft name i es at is other firm made =
      let u : Volume = after_steps w (Did (rename draft name) ∷ []) in
      let there : w.names draft ≡ Some i = named i draft at is in
      subst (λ (l : List Step). RestOfRun (after_steps w l) (published d d.draft name) closed) (sym made) (record {
        image = published_image d d.draft name ∙ h.image;
        draft = ap (λ (x : Option (List ℕ)). (published d x name).draft) (h.draft ∙ is);
        entry = move_entry draft name u is other (moved_may draft name i w there);
        firm = λ e j none. absurd (none_isnt j none);
        lost = λ e j none. absurd (none_isnt j none);
        calm = λ n j leads image _ left. elim (moved_names draft name i w there n j leads) [
          | inl e ↦ subst (λ (x : ℕ). IsCalm (w.nodes x)) (sym e) (h.firm firm i at)
          | inr e ↦ h.calm n j e.1 image (λ same. e.0 (same_text n draft (sym same ∙ is))) left
        ];
      })

  -- nothing moved
  unmoved_holds : (draft name : List ℕ) (i : ℕ) (u : Volume) → o.draft ≡ Some i → o.draft_name ≡ Some draft
      → (o.image_name ≡ Some name → ⊥) → o.is_firm ≡ true → u.names ≡ w.names → u.nodes ≡ w.nodes
      → ((n : List ℕ) → (n ≡ draft → ⊥) → (n ≡ name → ⊥) → u.may n ≡ w.may n)
      → RestOfRun u (record d { draft = None }) closed
  unmoved_holds draft name i u at is other firm names nodes may = record {
    image = h.image;
    draft = refl;
    entry = move_entry draft name u is other may;
    firm = λ e j none. absurd (none_isnt j none);
    lost = λ e j none. absurd (none_isnt j none);
    calm = λ n j leads image _ left. subst (λ (x : ℕ → Node). IsCalm (x j)) (sym nodes)
        (firm_calm i at firm n j (ap (λ (x : List ℕ → Option ℕ). x n) (sym names) ∙ leads) image left);
  }

  pub publish_holds : (draft name : List ℕ) (i : ℕ) (es : List Step) → o.draft ≡ Some i → o.draft_name ≡ Some draft
      → (o.image_name ≡ Some name → ⊥) → o.is_firm ≡ true → (es ≡ []) ⊎ (es ≡ Broke (rename draft name) ∷ [])
      → (count : ℕ) → RestOfRun (after_steps w es) (after_failed d (draft_publish name) count) closed
  publish_holds draft name i es at is other firm (inl none) count =
      subst (λ (l : List Step). RestOfRun (after_steps w l) (record d { draft = None }) closed) (sym none)
      (unmoved_holds draft name i w at is other firm refl refl (λ n a b. refl))
  publish_holds draft name i es at is other firm (inr broke) count =
      let u : Volume = after_steps w (Broke (rename draft name) ∷ []) in
      subst (λ (l : List Step). RestOfRun (after_steps w l) (record d { draft = None }) closed) (sym broke)
      (unmoved_holds draft name i u at is other firm refl refl (half_moved_may draft name i w (named i draft at is)))
