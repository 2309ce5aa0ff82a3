-- Files have maps, and each of them one.
use Rattle.std.proofs.Common.{None, refl}
use Rattle.ddrescue_words.specs.Command.{Command}
use Rattle.task_files.specs.Asked.{Maps}
use Rattle.task_files.specs.Maps.{Found, AreAskedFor}
use Rattle.task_sweeps.specs.Modes.{AreMapsOfSweep}
use Rattle.task_files.proofs.MapsLemmas.{MapsOf, maps_for}

-- and those of a sweep
pub record MapsOfSweep (c : Command) (found : Found) : Type 0 where
  pub maps : Maps
  pub asked : AreAskedFor c maps
  pub are : AreMapsOfSweep c found maps

pub sweep_maps_for : (c : Command) (found : Found) → MapsOfSweep c found
sweep_maps_for c found =
    let m : MapsOf c found = maps_for c found in
    record {
      maps = record { domain = m.maps.domain; test = None; listed = m.maps.listed };
      asked = record { domain = m.asked.domain; test = λ none. refl; whole = m.asked.whole };
      are = record { domain = m.are.domain; listed = m.are.listed; untested = refl };
    }
