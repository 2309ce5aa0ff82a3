-- What the calls on an image made.
use Rattle.std.proofs.Common.{◌≡◌, inl, inr, ℕ, Bool, true, false, IsTrue, List, [], ◌∷◌, ◌++◌, Option, Some, None, refl, sym, ◌∙◌, ap, subst}
use Rattle.kernel_files.specs.Volume.{sync_file, sync_folder, Entry, Done, Failed}
use Rattle.kernel_files.specs.Answers.{Told, volume}
use Rattle.kernel_files.specs.Steps.{MadeBy, IsDone, IsBroken}
use Rattle.kernel_files.specs.ImageCalls.{OpensOrMakes, BreaksMake, OpensImage, SyncsOpened, BreaksSyncsOpened}
use Rattle.kernel_files.proofs.Steps.{made_here, made_map, made_on}
use Rattle.folder_site.specs.Pieces.{BreaksOpenAt}

cat : (es fs a b : List Entry) → es ≡ a → fs ≡ b → es ++ fs ≡ a ++ b
cat es fs a b p q = ap (λ (l : List Entry). l ++ fs) p ∙ ap (λ (l : List Entry). a ++ l) q

-- The open.

module _ (name : List ℕ) (make : Bool) (old new : Told) where
  pub found_image : (i : ℕ) → (IsTrue old.tells → (volume old).names name ≡ Some i)
      → MadeBy (OpensImage (volume old) name make (Some i)) old old
  found_image i leads =
      made_map (λ (es : List Entry). es ≡ []) (OpensImage (volume old) name make (Some i)) old old
      (λ t es _ h. inl (leads t, h)) (made_here (λ (es : List Entry). es ≡ []) old refl)

  pub no_image : make ≡ false → (IsTrue old.tells → (volume old).names name ≡ None)
      → MadeBy (OpensImage (volume old) name make None) old old
  no_image off free =
      made_map (λ (es : List Entry). es ≡ []) (OpensImage (volume old) name make None) old old
      (λ t es _ h. (free t, off, h)) (made_here (λ (es : List Entry). es ≡ []) old refl)

  pub made_image : (i : ℕ) → make ≡ true → MadeBy (OpensOrMakes (volume old) name i) old new
      → MadeBy (OpensImage (volume old) name make (Some i)) old new
  made_image i on =
      made_map (OpensOrMakes (volume old) name i) (OpensImage (volume old) name make (Some i)) old new
      (λ t es _ h. elim h [ inl was ↦ inl was | inr made ↦ inr (made.0, on, made.1, made.2) ])

  pub not_opened : MadeBy (BreaksOpenAt (volume old) name make) old old
  not_opened = made_here (BreaksOpenAt (volume old) name make) old (0, inl (refl, refl))

  pub image_not_made : make ≡ true → MadeBy (BreaksMake (volume old) name) old new
      → MadeBy (BreaksOpenAt (volume old) name make) old new
  image_not_made on =
      made_map (BreaksMake (volume old) name) (BreaksOpenAt (volume old) name make) old new
      (λ t es _ h.
      elim h [
        | inl none ↦ (0, inl (refl, none))
        | inr fails ↦ (0, inr (fails.0, fails.1, on, fails.2, inl (refl, fails.3)))
      ])

  pub image_made_late : (i : ℕ) → make ≡ true → MadeBy (OpensOrMakes (volume old) name i) old new
      → MadeBy (BreaksOpenAt (volume old) name make) old new
  image_made_late i on =
      made_map (OpensOrMakes (volume old) name i) (BreaksOpenAt (volume old) name make) old new
      (λ t es _ h.
      elim h [
        | inl was ↦ (0, inl (refl, was.1))
        | inr made ↦ (1, inr (i, made.0, on, made.1, inr (refl, made.2)))
      ])

-- The sync.

both_done : (i : ℕ) (folder : Option (List ℕ)) (es : List Entry) → SyncsOpened i folder es → BreaksSyncsOpened i folder es
both_done i None es h = inr (inr (inl h))
both_done i (Some text) es h = inr (inr (inr (text, refl, inr h)))

module _ (i : ℕ) (folder : Option (List ℕ)) (old mid new : Told) where
  pub file_alone : folder ≡ None → MadeBy (IsDone (sync_file i)) old new → MadeBy (SyncsOpened i folder) old new
  file_alone none =
      made_map (IsDone (sync_file i)) (SyncsOpened i folder) old new
      (λ t es _ h. subst (λ (f : Option (List ℕ)). SyncsOpened i f es) (sym none) h)

  pub file_and_folder : (text : List ℕ) → folder ≡ Some text → MadeBy (IsDone (sync_file i)) old mid
      → MadeBy (IsDone (sync_folder text)) mid new → MadeBy (SyncsOpened i folder) old new
  file_and_folder text some =
      made_on (IsDone (sync_file i)) (IsDone (sync_folder text)) (SyncsOpened i folder) old mid new
      (λ t es fs _ h k.
      subst (λ (f : Option (List ℕ)). SyncsOpened i f (es ++ fs)) (sym some)
      (cat es fs (Done (sync_file i) ∷ []) (Done (sync_folder text) ∷ []) h k))

  pub file_not_synced : MadeBy (IsBroken (sync_file i)) old new → MadeBy (BreaksSyncsOpened i folder) old new
  file_not_synced =
      made_map (IsBroken (sync_file i)) (BreaksSyncsOpened i folder) old new
      (λ t es _ h. elim h [ inl none ↦ inl none | inr fails ↦ inr (inl fails) ])

  pub folder_not_synced : (text : List ℕ) → folder ≡ Some text → MadeBy (IsDone (sync_file i)) old mid
      → MadeBy (IsBroken (sync_folder text)) mid new → MadeBy (BreaksSyncsOpened i folder) old new
  folder_not_synced text some =
      made_on (IsDone (sync_file i)) (IsBroken (sync_folder text)) (BreaksSyncsOpened i folder) old mid new
      (λ t es fs _ h k.
      elim k [
        | inl none ↦ inr (inr (inl (cat es fs (Done (sync_file i) ∷ []) [] h none)))
        | inr fails ↦
            inr (inr (inr (text, some, inl (cat es fs (Done (sync_file i) ∷ []) (Failed (sync_folder text) ∷ []) h fails))))
      ])

  pub synced_late : MadeBy (SyncsOpened i folder) old new → MadeBy (BreaksSyncsOpened i folder) old new
  synced_late =
      made_map (SyncsOpened i folder) (BreaksSyncsOpened i folder) old new (λ t es _ h. both_done i folder es h)
