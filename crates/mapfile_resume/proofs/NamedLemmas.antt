-- A file is one map.
use Rattle.std.proofs.Common.{◌≡◌, ℕ, Bool, List, Option, Some, subst}
use Rattle.block_list.specs.declared.status.Status.{Status}
use Rattle.mapfile_text.specs.declared.state.MapState.{MapState}
use Rattle.mapfile_text.specs.declared.read.Mode.{Mode}
use Rattle.mapfile_text.specs.MapText.{IsMapText}
use Rattle.mapfile_text.specs.Laws.{SameReading}
use Rattle.mapfile_text.proofs.OneReading.{has_one_reading}
use Rattle.crash_site.specs.Files.{File}
use Rattle.mapfile_resume.specs.Named.{IsMapOf}
use Rattle.mapfile_resume.proofs.AnswerLemmas.{one_there}

-- a file as a map has one list of statuses
abbrev pub Reading : Mode → List Status → File → Type 0
Reading mode statuses f =
    (shown : MapState) × (first : ℕ) × (listed : Bool) × IsMapText f.bytes mode shown first listed statuses

pub reading : (file : Option File) (mode : Mode) (f : File) (statuses : List Status) → file ≡ Some f
    → IsMapOf file mode statuses → Reading mode statuses f
reading file mode f statuses is m =
    subst (Reading mode statuses) (one_there file m.there f m.is is) (m.shown, m.first, m.listed, m.reads)

pub map_is_one : (file : Option File) (mode : Mode) (statuses statuses' : List Status) → IsMapOf file mode statuses
    → IsMapOf file mode statuses' → statuses ≡ statuses'
map_is_one file mode statuses statuses' m m' =
    let r : Reading mode statuses' m.there = reading file mode m.there statuses' m.is m' in
    let one : SameReading m.shown r.0 m.first r.1 m.listed r.2 statuses statuses' =
    has_one_reading m.there.bytes mode m.shown r.0 m.first r.1 m.listed r.2 statuses statuses' m.reads r.3 in
    one.statuses_is

-- a file is a map, or it is none
abbrev pub HasMap : Option File → Mode → Type 0
HasMap file mode = (statuses : List Status) × IsMapOf file mode statuses
