-- The contracts of a settle and of the image give what the laws ask of these.
use Rattle.std.proofs.Common.{◌≡◌, inl, inr, ℕ, List, [], ◌∷◌, ◌++◌, Option, Some, None, refl, ◌∙◌, ap}
use Rattle.crash_site.specs.Files.{draft_of}
use Rattle.kernel_files.specs.Volume.{Volume, sync_file, sync_folder, Entry as Step, Done as Did, Failed as Broke}
use Rattle.kernel_files.specs.MapCalls.{Probes, SyncsFound, BreaksTry, BreaksSyncs}
use Rattle.kernel_laws.specs.Calls.{Syncs, BreaksSettle}
use Rattle.kernel_laws.specs.Asked.{SettleIsAsAsked, FailedSettleIsAsAsked, OpenIsAsAsked, SyncIsAsAsked, FailedSyncIsAsAsked}

syncs_asked : (v : Volume) (name : List ℕ) (e : Option ℕ) (es : List Step)
    → ((j : ℕ) → e ≡ Some j → (v.nodes j).lost ≡ []) → SyncsFound name e es → Syncs v name e es
syncs_asked v name None es whole h = h
syncs_asked v name (Some j) es whole h = (whole j refl, h)

pub settle_asked : SettleIsAsAsked
settle_asked v name es whole h =
    (h.0, h.1, h.2, syncs_asked v name (v.names name) h.1 whole h.3, h.4)

module _ (v : Volume) (image : Option ℕ) (name : List ℕ) where
  try_asked : (es : List Step) → BreaksTry v (draft_of name) es → (steps : ℕ) × BreaksSettle v image name steps es
  try_asked es (inl none) = (0, inl (refl, none))
  try_asked es (inr (absent, i, new, inl unmade)) = (0, inr (inl (absent, i, new, inl (refl, unmade))))
  try_asked es (inr (absent, i, new, inr (inl left))) = (1, inr (inl (absent, i, new, inr (refl, inl left))))
  try_asked es (inr (absent, i, new, inr (inr kept))) = (1, inr (inl (absent, i, new, inr (refl, inr kept))))

  syncs_broken : (probe syncs es : List Step) → ((j : ℕ) → image ≡ Some j → v.names name ≡ Some j → ⊥)
      → Probes v name probe → BreaksSyncs name (v.names name) syncs → es ≡ probe ++ syncs
      → (steps : ℕ) × BreaksSettle v image name steps es
  syncs_broken probe syncs es apart probes (inl none) is =
      (0, inr (inr (probe, refl, probes, inl (is ∙ ap (λ (l : List Step). probe ++ l) none))))
  syncs_broken probe syncs es apart probes (inr (inl folder)) is =
      (0, inr (inr (probe, refl, probes, inr (inl (is ∙ ap (λ (l : List Step). probe ++ l) folder)))))
  syncs_broken probe syncs es apart probes (inr (inr (inl between))) is =
      (0, inr (inr (probe, refl, probes, inr (inr (inl (is ∙ ap (λ (l : List Step). probe ++ l) between))))))
  syncs_broken probe syncs es apart probes (inr (inr (inr (j, leads, file)))) is = (
    0,
    inr (inr (
      probe,
      refl,
      probes,
      inr (inr (inr (j, (λ e. apart j e leads), is ∙ ap (λ (l : List Step). probe ++ l) file))),
    )),
  )

pub failed_settle_asked : FailedSettleIsAsAsked
failed_settle_asked v image name es apart (inl h) = try_asked v image name es h
failed_settle_asked v image name es apart (inr (probe, syncs, probes, h, is)) =
    syncs_broken v image name probe syncs es apart probes h is

pub open_asked : OpenIsAsAsked
open_asked v d name make None es apart durable own h = (apart, durable, inr (inr (h.0, h.1, h.2, refl)))
open_asked v d name make (Some i) es apart durable own (inl h) =
    let own_file = own i h.0 in
    (apart, durable, inl (i, own_file.0, own_file.1, own_file.2, h.1, refl))
open_asked v d name make (Some i) es apart durable own (inr h) =
    (apart, durable, inr (inl (i, h.0, h.1, h.2, h.3, refl)))

pub sync_asked : SyncIsAsAsked
sync_asked v d i name None es is text durable h = (name, is, inr (durable refl, h))
sync_asked v d i name (Some folder) es is text durable h =
    (name, is, inl (h ∙ ap (λ (f : List ℕ). Did (sync_file i) ∷ Did (sync_folder f) ∷ []) (text folder refl)))

pub failed_sync_asked : FailedSyncIsAsAsked
failed_sync_asked d i name folder es is text (inl none) = (name, is, inl none)
failed_sync_asked d i name folder es is text (inr (inl file)) = (name, is, inr (inl file))
failed_sync_asked d i name folder es is text (inr (inr (inl between))) = (name, is, inr (inr (inl between)))
failed_sync_asked d i name folder es is text (inr (inr (inr (own, open_, inl fails)))) = (
  name,
  is,
  inr (inr (inr (inl (fails
      ∙ ap (λ (f : List ℕ). Did (sync_file i) ∷ Broke (sync_folder f) ∷ []) (text own open_))))),
)
failed_sync_asked d i name folder es is text (inr (inr (inr (own, open_, inr both)))) = (
  name,
  is,
  inr (inr (inr (inr (both
      ∙ ap (λ (f : List ℕ). Did (sync_file i) ∷ Did (sync_folder f) ∷ []) (text own open_))))),
)
