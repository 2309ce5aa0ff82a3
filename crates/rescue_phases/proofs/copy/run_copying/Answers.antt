use Rattle.rescue_phases.proofs.CopyingLemmas.{none_left}
use Rattle.rescue_phases.proofs.copy.run_copying.Goals as goal

pub end_copying-requires : goal.end_copying-requires
end_copying-requires g c = record {
  gone = none_left _ c.in-Ok.ensures.copying c.in-Ok.ensures.pass c.in-Ok.ensures.spent;
}
