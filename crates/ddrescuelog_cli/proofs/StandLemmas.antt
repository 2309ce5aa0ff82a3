-- Reads of maps change nothing of what a stop may find.
use Rattle.std.proofs.Common.{◌+◌, List, length, refl, subst}
use Rattle.crash_site.specs.Calls.{Entry}
use Rattle.crash_site.specs.Disk.{Disk}
use Rattle.crash_site.specs.Left.{MayShow}
use Rattle.crash_site.specs.SiteState.{SiteState}
use Rattle.crash_site.proofs.LawLemmas.{left_past}
use Rattle.mapfile_save.specs.SaveStops.{disk_of}
use Rattle.program_promise.proofs.ReadLemmas.{AreReads, reads_at}
use Rattle.ddrescuelog_cli.specs.Stops.{LeavesAll}

pub leave_all : (site : SiteState) (calls : List Entry) → AreReads calls → LeavesAll site calls
leave_all site calls reads k files stop name =
    subst (λ (d : Disk). MayShow (d.shows name) (files name)) (reads_at (disk_of site) calls k reads)
    (left_past site.start site.calls calls k (length site.calls + k) files refl stop.left name)
