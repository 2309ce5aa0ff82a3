-- What stands goes on to stand through a settle and a removal of a mapfile.
use Rattle.std.proofs.Common.{◌≡◌, inl, inr, ℕ, true, false, true≢false, List, [], ◌∷◌, ◌++◌, length, Option, Some, refl, sym, ◌∙◌, ap, subst}
use Rattle.kernel_files.specs.Volume.{Volume, unlink, Entry as Step, after as after_steps}
use Rattle.kernel_files.specs.Steps.{IsBroken}
use Rattle.kernel_files.specs.MapCalls.{SettlesFound, Removes, BreaksSettles}
use Rattle.crash_site.specs.Calls.{Call, map_settle, map_remove}
use Rattle.crash_site.specs.Folder.{Folder, after_done, after_failed}
use Rattle.crash_site.specs.Disk.{Disk}
use Rattle.site_record.specs.Record.{Note}
use Rattle.kernel_laws.specs.Refines.{Imaged, ImageIs, Follows}
use Rattle.kernel_laws.specs.Calls.{IsApart, Settles, BreaksSettle, Makes, Breaks}
use Rattle.kernel_laws.specs.Deeds.{steps_in}
use Rattle.kernel_laws.specs.Site.{Opened, IsCalm, Stands}
use Rattle.kernel_laws.proofs.Spares.{AvoidsAll, some_is, other_else, settles_avoid, settle_avoids}
use Rattle.kernel_laws.proofs.Asked.{settle_asked, failed_settle_asked}
use Rattle.kernel_laws.proofs.Calm.{settled_all, avoids_leave}
use Rattle.kernel_laws.proofs.StepsIn.{settle_steps}
use Rattle.kernel_laws.proofs.Stands.{RestOfRun, rest_of, stands_done, stands_failed}
use Rattle.kernel_laws.proofs.MapCalm.{Calmer, settles_calmer, breaks_settles_calmer, removes_calmer, breaks_remove_calmer}

-- after these calls an image can't be opened any more
abbrev closed : Opened → Opened
closed o = record o { is_closed = true }

-- A call, by the files and the disk of the site before it.

module _ (w : Volume) (d : Disk) (o : Opened) (f : Follows w d o.draft o.image) (rest : RestOfRun w d.reads o) where
  -- the open image is a file of its own
  imaged : (i : ℕ) → o.image ≡ Some i → ImageIs w d (Some i)
  imaged i is = subst (λ (k : Option ℕ). ImageIs w d k) is f.image

  imaged_as : (i : ℕ) (n : List ℕ) → o.image ≡ Some i → o.image_name ≡ Some n → Imaged n i w d
  imaged_as i n is named =
      let m : ImageIs w d (Some i) = imaged i is in
      let same : m.0 ≡ n = (let e : Some m.0 ≡ Some n = sym m.1.image ∙ rest.image ∙ named in cc) in
      subst (λ (x : List ℕ). Imaged x i w d) same m.1

  -- what holds after calls on other files and names
  after_call : (fs : List Step) (s : Folder) → s.image ≡ d.reads.image → s.draft ≡ d.reads.draft
      → Calmer w (after_steps w fs) → ((i : ℕ) (n : List ℕ) → Imaged n i w d → AvoidsAll n i fs)
      → RestOfRun (after_steps w fs) s (closed o)
  after_call fs s image draft calmer avoids = record {
    image = image ∙ rest.image;
    draft = draft ∙ rest.draft;
    entry = λ has n i named is.
        let m : Imaged n i w d = imaged_as i n is named in
        let may = rest.entry has n i named is in
        (settled_all n i fs w (avoids_leave n i fs (avoids i n m)) (record { named = m.begun.named; may = may })).may;
    firm = λ firm i is. calmer.nodes i (rest.firm firm i is);
    lost = λ none i is. calmer.lost i (rest.lost none i is);
    calm = λ n i leads a b c. elim (calmer.names n i leads) [
      | inl old ↦ calmer.nodes i (rest.calm n i old a b c)
      | inr calm ↦ calm
    ];
  }

  module _ (name : List ℕ) (apart : o.draft_name ≡ Some name → ⊥) (other : o.image_name ≡ Some name → ⊥) where
    draft_apart : d.reads.draft ≡ Some name → ⊥
    draft_apart e = apart (sym rest.draft ∙ e)

    image_apart : IsApart d.reads name
    image_apart e = other (sym rest.image ∙ e)

    -- the image's name isn't this one
    name_apart : (i : ℕ) (n : List ℕ) → Imaged n i w d → n ≡ name → ⊥
    name_apart i n m e = image_apart (m.image ∙ ap (λ (x : List ℕ). Some x) e)

    -- the file that has this name isn't the image
    file_apart : (i : ℕ) (n : List ℕ) → Imaged n i w d → w.names name ≡ Some i → ⊥
    file_apart i n m leads = other_else n i w d m f.files.here name i (name_apart i n m) leads refl

    -- a mapfile that isn't the draft that was left is calm
    calm_file : (o.left ≡ Some name → ⊥) → (j : ℕ) → w.names name ≡ Some j → IsCalm (w.nodes j)
    calm_file gone j leads = rest.calm name j leads other apart gone

    settle_done : (fs : List Step) → (o.left ≡ Some name → ⊥) → SettlesFound w name fs
        → Makes w d.reads o.draft o.image (map_settle name) fs o.draft o.image
        × RestOfRun (after_steps w fs) (after_done d.reads (map_settle name)) (closed o)
    settle_done fs gone h =
        let asked : Settles w name fs = settle_asked w name fs (λ j leads. (calm_file gone j leads).lost) h in (
          (draft_apart, asked, refl, image_apart, refl),
          after_call fs d.reads refl refl (settles_calmer w name fs h)
              (λ i n m. settles_avoid n i w d m f.files.here name fs (name_apart i n m) asked),
        )

    -- a settle that failed leaves the image alone
    broken_avoids : (fs : List Step) → BreaksSettles w name fs → (i : ℕ) (n : List ℕ) → Imaged n i w d
        → AvoidsAll n i fs
    broken_avoids fs h i n m =
        let b : (steps : ℕ) × BreaksSettle w (Some i) name steps fs =
        failed_settle_asked w (Some i) name fs
        (λ j is leads. file_apart i n m (leads ∙ ap (λ (k : ℕ). Some k) (sym (some_is i j is)))) h in
        settle_avoids n i w d m f.files.here name b.0 fs (name_apart i n m) b.1

    settle_failed : (fs : List Step) → (o.left ≡ Some name → ⊥) → BreaksSettles w name fs
        → Breaks w d.reads o.draft o.image (map_settle name) (steps_in (map_settle name) fs) fs o.draft o.image
        × RestOfRun (after_steps w fs) (after_failed d.reads (map_settle name) (steps_in (map_settle name) fs))
        (closed o)
    settle_failed fs gone h =
        let b : (steps : ℕ) × BreaksSettle w o.image name steps fs =
        failed_settle_asked w o.image name fs (λ j is leads. file_apart j (imaged j is).0 (imaged j is).1 leads) h in
        let counted : b.0 ≡ steps_in (map_settle name) fs = settle_steps w o.image name b.0 fs b.1 in
        let asked : BreaksSettle w o.image name (steps_in (map_settle name) fs) fs =
        subst (λ (k : ℕ). BreaksSettle w o.image name k fs) counted b.1 in (
          (draft_apart, asked, refl, image_apart, refl),
          after_call fs (after_failed d.reads (map_settle name) (steps_in (map_settle name) fs)) refl refl
              (breaks_settles_calmer w name fs (calm_file gone) h) (broken_avoids fs h),
        )

    remove_done : (fs : List Step) → Removes w name fs
        → Makes w d.reads o.draft o.image (map_remove name) fs o.draft o.image
        × RestOfRun (after_steps w fs) (after_done d.reads (map_remove name)) (closed o)
    remove_done fs h = (
      (draft_apart, h, refl, image_apart, refl),
      after_call fs (after_done d.reads (map_remove name)) refl refl (removes_calmer w name fs h) (λ i n m. elim h [
        | inl none ↦ subst (AvoidsAll n i) (sym none.1) tt
        | inr is ↦ subst (AvoidsAll n i) (sym is) (name_apart i n m, tt)
      ]),
    )

    remove_failed : (fs : List Step) → IsBroken (unlink name) fs
        → Breaks w d.reads o.draft o.image (map_remove name) 0 fs o.draft o.image
        × RestOfRun (after_steps w fs) (after_failed d.reads (map_remove name) 0) (closed o)
    remove_failed fs h = (
      (draft_apart, h, refl, image_apart, refl),
      after_call fs (after_failed d.reads (map_remove name) 0) refl refl (breaks_remove_calmer w name fs h)
          (λ i n m. elim h [
            | inl is ↦ subst (AvoidsAll n i) (sym is) tt
            | inr is ↦ subst (AvoidsAll n i) (sym is) (name_apart i n m, tt)
          ]),
    )

-- The lemmas, one for each call and outcome.

module _ (v : Volume) (ns : List Note) (es : List Step) (o : Opened) (n : Note) (fs : List Step) where
  abbrev w : Volume
  w = after_steps v es

  -- one call more, by the disk of the site before it
  done_by : (call : Call) → Stands v ns es o → o.is_dropped ≡ false → n.call ≡ call → n.ok ≡ true
      → n.made ≡ length fs → ((d : Disk) → Follows w d o.draft o.image → RestOfRun w d.reads o
      → Makes w d.reads o.draft o.image call fs o.draft o.image
      × RestOfRun (after_steps w fs) (after_done d.reads call) (closed o))
      → Stands v (ns ++ n ∷ []) (es ++ fs) (closed o)
  done_by call h kept is ok made shows =
      stands_done v ns es o (closed o) n fs call h kept is ok made kept (λ e. absurd (true≢false e))
      (λ b. subst (λ (r : Folder). Makes w r o.draft o.image call fs o.draft o.image
      × RestOfRun (after_steps w fs) (after_done r call) (closed o)) b.reads
      (shows b.disk b.follows (subst (λ (r : Folder). RestOfRun w r o) (sym b.reads) (rest_of v ns es o b.run))))

  failed_by : (call : Call) → Stands v ns es o → o.is_dropped ≡ false → n.call ≡ call → n.ok ≡ false
      → n.made ≡ length fs → ((d : Disk) → Follows w d o.draft o.image → RestOfRun w d.reads o
      → Breaks w d.reads o.draft o.image call (steps_in call fs) fs o.draft o.image
      × RestOfRun (after_steps w fs) (after_failed d.reads call (steps_in call fs)) (closed o))
      → Stands v (ns ++ n ∷ []) (es ++ fs) (closed o)
  failed_by call h kept is ok made shows =
      stands_failed v ns es o (closed o) n fs call h kept is ok made kept (λ e. absurd (true≢false e))
      (λ b. subst (λ (r : Folder). Breaks w r o.draft o.image call (steps_in call fs) fs o.draft o.image
      × RestOfRun (after_steps w fs) (after_failed r call (steps_in call fs)) (closed o)) b.reads
      (shows b.disk b.follows (subst (λ (r : Folder). RestOfRun w r o) (sym b.reads) (rest_of v ns es o b.run))))

  pub keeps_settle : (name : List ℕ) → Stands v ns es o → o.is_dropped ≡ false → n.call ≡ map_settle name
      → n.ok ≡ true → n.made ≡ length fs → SettlesFound w name fs → (o.draft_name ≡ Some name → ⊥)
      → (o.image_name ≡ Some name → ⊥) → (o.left ≡ Some name → ⊥)
      → Stands v (ns ++ n ∷ []) (es ++ fs) (record o { is_closed = true })
  keeps_settle name h kept is ok made settles apart other gone =
      done_by (map_settle name) h kept is ok made
      (λ d f rest. settle_done w d o f rest name apart other fs gone settles)

  pub breaks_settle_kept : (name : List ℕ) → Stands v ns es o → o.is_dropped ≡ false → n.call ≡ map_settle name
      → n.ok ≡ false → n.made ≡ length fs → BreaksSettles w name fs → (o.draft_name ≡ Some name → ⊥)
      → (o.image_name ≡ Some name → ⊥) → (o.left ≡ Some name → ⊥)
      → Stands v (ns ++ n ∷ []) (es ++ fs) (record o { is_closed = true })
  breaks_settle_kept name h kept is ok made breaks apart other gone =
      failed_by (map_settle name) h kept is ok made
      (λ d f rest. settle_failed w d o f rest name apart other fs gone breaks)

  pub keeps_remove : (name : List ℕ) → Stands v ns es o → o.is_dropped ≡ false → n.call ≡ map_remove name
      → n.ok ≡ true → n.made ≡ length fs → Removes w name fs → (o.draft_name ≡ Some name → ⊥)
      → (o.image_name ≡ Some name → ⊥) → Stands v (ns ++ n ∷ []) (es ++ fs) (record o { is_closed = true })
  keeps_remove name h kept is ok made removes apart other =
      done_by (map_remove name) h kept is ok made (λ d f rest. remove_done w d o f rest name apart other fs removes)

  pub breaks_remove_kept : (name : List ℕ) → Stands v ns es o → o.is_dropped ≡ false → n.call ≡ map_remove name
      → n.ok ≡ false → n.made ≡ length fs → IsBroken (unlink name) fs → (o.draft_name ≡ Some name → ⊥)
      → (o.image_name ≡ Some name → ⊥) → Stands v (ns ++ n ∷ []) (es ++ fs) (record o { is_closed = true })
  breaks_remove_kept name h kept is ok made broken apart other =
      failed_by (map_remove name) h kept is ok made (λ d f rest. remove_failed w d o f rest name apart other fs broken)
