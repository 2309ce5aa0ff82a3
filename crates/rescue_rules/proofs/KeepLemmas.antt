-- A run whose promise speaks of the map of its mapfile keeps up.
use Rattle.std.proofs.Common.{◌≡◌, ℕ, zero, suc, List, [], ◌∷◌, ◌++◌, length, Option, Some, None, sym, ◌∙◌, ap, subst, arith, append_assoc, length-append}
use Rattle.std.specs.List.{flat_map, slice_get}
use Rattle.block_list.specs.declared.status.Status.{Status}
use Rattle.crash_site.specs.Files.{File}
use Rattle.rescue_rules.specs.Snapshots.{Snapshot}
use Rattle.rescue_rules.specs.StopsBy.{IsSave}
use Rattle.rescue_rules.specs.Deeds.{Deed, some_save, saves_in, image_after, WritesAt, KeepsOn, KeepsUp}
use Rattle.rescue_rules.proofs.DeedStages.{save_at}

-- the map of the mapfile with a number
abbrev pub map_in : Option Snapshot → List Status
map_in None = []
map_in (Some p) = p.map

abbrev pub saved_map : (began : List Status) → List Snapshot → ℕ → List Status
saved_map began saves zero = began
saved_map began saves (suc n) = map_in (slice_get saves n)

pub saved_map_is : (old : Option File) (began : List Status) (line : List ℕ) (saves : List Snapshot) (n : ℕ)
    (found : Option File) (statuses : List Status) → IsSave old began line saves n found statuses
    → saved_map began saves n ≡ statuses
saved_map_is old began line saves zero found statuses h = sym h.1
saved_map_is old began line saves (suc n) found statuses h = ap map_in h.1 ∙ sym h.2

module _ (promise : ℕ → List Status → List ℕ → Type 0) (free : ℕ → List Status → ℕ → Type 0) where
  -- a save with the next number is made, or none, and then it goes on so
  abbrev pub SavesOn : (n : ℕ) → (map : List Status) → (image : List ℕ) → Option Snapshot
      → (next : ℕ → List Status → Type 0) → Type 0
  SavesOn n map image None next = next n map
  SavesOn n map image (Some p) next = promise (suc n) p.map image × next (suc n) p.map

  -- after the save with a number, which has a map: what is written is free of its promise, and the next one's promise
  -- holds when it is made
  abbrev pub KeepsMaps : (n : ℕ) → (map : List Status) → (image : List ℕ) → List Deed → (last : Snapshot) → Type 0
  KeepsMaps n map image [] last = promise (suc n) last.map image
  KeepsMaps n map image (d ∷ ds) last =
      WritesAt (free n map) d.calls
      × SavesOn n map (image_after image d.calls) d.save
      (λ m t. KeepsMaps m t (image_after image d.calls) ds last)

  module _ (began : List Status) (saves : List Snapshot) where
    abbrev pub Promise : ℕ → List ℕ → Type 0
    Promise n image = promise n (saved_map began saves n) image

    abbrev pub Free : ℕ → ℕ → Type 0
    Free n y = free n (saved_map began saves n) y

    saves_with : (n : ℕ) (map : List Status) (image : List ℕ) (save : Option Snapshot) (ds : List Deed) (last : Snapshot)
        (before : List Snapshot) → length before ≡ n → saves ≡ before ++ (some_save save ++ saves_in ds last)
        → saved_map began saves n ≡ map
        → SavesOn n map image save (λ m t. KeepsMaps m t image ds last)
        → ((m : ℕ) (t : List Status) (front : List Snapshot) → length front ≡ m → saves ≡ front ++ saves_in ds last
        → saved_map began saves m ≡ t → KeepsMaps m t image ds last → KeepsUp Promise Free m image ds)
        → KeepsOn Promise n image save (λ m. KeepsUp Promise Free m image ds)
    saves_with n map image None ds last before number all at h go = go n map before number all at h
    saves_with n map image (Some p) ds last before number all at h go =
        let e : saved_map began saves (suc n) ≡ p.map
        = ap map_in (save_at saves before p (saves_in ds last) n number all) in (
          subst (λ (t : List Status). promise (suc n) t image) (sym e) h.0,
          go (suc n) p.map (before ++ p ∷ []) (omega (arith, length-append before (p ∷ []), number))
              (all ∙ sym (append_assoc before (p ∷ []) (saves_in ds last))) e h.1,
        )

    pub keeps_up : (ds : List Deed) (last : Snapshot) (n : ℕ) (map : List Status) (image : List ℕ)
        (before : List Snapshot) → length before ≡ n → saves ≡ before ++ saves_in ds last → saved_map began saves n ≡ map
        → KeepsMaps n map image ds last → KeepsUp Promise Free n image ds
    keeps_up [] last n map image before number all at h =
        subst (λ (t : List Status). promise (suc n) t image) (sym (ap map_in (save_at saves before last [] n number all))) h
    keeps_up (d ∷ ds) last n map image before number all at h = (
      subst (λ (t : List Status). WritesAt (free n t) d.calls) (sym at) h.0,
      saves_with n map (image_after image d.calls) d.save ds last before number
          (all ∙ ap (λ (l : List Snapshot). before ++ l)
          (append_assoc (some_save d.save) (flat_map (λ (e : Deed). some_save e.save) ds) (last ∷ [])))
          at h.1
          (λ m t front number' all' at' h'. keeps_up ds last m t (image_after image d.calls) front number' all' at' h'),
    )
