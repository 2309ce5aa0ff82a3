use mathlib.Core.Logic.{∥∥₁_map}
use Rattle.kernel_safety.proofs.Stops.{holds_at_stops}
use Rattle.kernel_safety.proofs.rescue.ddrescue_over_kernel.Goals as goal

pub returns : goal.returns
returns g c = λ r is.
    let files = c.ddrescue-ending.new.site.files in
    ∥∥₁_map c.any_stop.ensures
    (holds_at_stops r _ _ _ _ _ _ _ _ _ (g.K.Kernel.told files.kernel) (g.R.Recorder.told files.recorder) _ _ _ is
    c.requires.new)
