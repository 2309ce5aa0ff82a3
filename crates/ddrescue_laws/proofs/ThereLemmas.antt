-- Files have maps, and each of them one.
use Rattle.ddrescue_laws.specs.Laws.{MapsAreThere}
use Rattle.task_files.proofs.MapsLemmas.{MapsOf, maps_for}

pub maps_are_there : MapsAreThere
maps_are_there c found =
    let m : MapsOf c found = maps_for c found in
    (m.maps, m.are)
