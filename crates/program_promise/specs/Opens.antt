-- What a source tells of the opens that were asked for.
use Rattle.std.specs.Prelude.{◌≡◌, false, IsTrue, List, [], ◌∷◌}
use Rattle.fault_count.specs.Counts.{raised}
use Rattle.faulty_source.specs.SourceState.{SourceState}
use Rattle.faulty_source.specs.SourceSchedule.{OpenFails}
use Rattle.program_promise.specs.Work.{Opening, Opened, Unopened}

-- The source was asked to open these. If it was asked for none, it is unchanged.
abbrev pub AreOpens : List Opening → (old new : SourceState) → Type 0
AreOpens [] old new = new ≡ old
AreOpens (Opened name ∷ []) old new = (new.opens ≡ raised old.opens) × (IsTrue old.tells → new.name ≡ name)
AreOpens (Unopened name ∷ []) old new =
    (new.opens ≡ raised old.opens) × (new.is_open ≡ false) × (IsTrue old.is_scheduled → OpenFails old.schedule name)
AreOpens (first ∷ second ∷ more) old new = ⊥
