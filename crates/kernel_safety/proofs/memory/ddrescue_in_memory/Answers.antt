use Rattle.std.proofs.Common.{ap}
use Rattle.crash_site.specs.SiteState.{SiteState}
use Rattle.folder_site.proofs.Fresh.{new_in_memory}
use Rattle.kernel_safety.proofs.Fresh.{fresh_state, told_over}
use Rattle.kernel_safety.proofs.memory.ddrescue_in_memory.Goals as goal

pub over-site-requires : goal.over-site-requires
over-site-requires g c = new_in_memory _ _ c.new-kernel.ensures c.new-recorder.ensures

pub ddrescue_over_kernel-ending-requires-clause-new : goal.ddrescue_over_kernel-ending-requires-clause-new
ddrescue_over_kernel-ending-requires-clause-new g c = λ tells.
    ap (λ (s : SiteState). s.calls) (fresh_state _ _ _ c.new-kernel.ensures c.new-recorder.ensures c.over-site.ensures)

pub returns : goal.returns
returns g c = λ r is.
    let fresh = fresh_state _ _ _ c.new-kernel.ensures c.new-recorder.ensures c.over-site.ensures in
    c.ddrescue_over_kernel-ending.ensures r (told_over _ _ _ _ _ _ _ _ _ is fresh)
