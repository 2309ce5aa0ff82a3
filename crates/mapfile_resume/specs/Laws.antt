-- What is known of a mapfile's answers, and of what a stop finds if nothing is pending.
use Rattle.std.specs.Prelude.{◌≡◌, ◌≢◌, ◌⊎◌, ℕ, List, Option, Some}
use Rattle.mapfile_text.specs.declared.read.Mode.{Mode}
use Rattle.mapfile_reader.specs.declared.read.ReadMap.{ReadMap}
use Rattle.mapfile_text.specs.declared.read.MapError.{MapError}
use Rattle.mapfile_text.specs.declared.read.MapError.TheVariants.{NoStatusLine}
use Rattle.mapfile_text.specs.Laws.{SameReading}
use Rattle.crash_site.specs.Files.{File, draft_of}
use Rattle.crash_site.specs.Disk.{Disk, lost_in}
use Rattle.crash_site.specs.Left.{MatchesFile, Leaves}
use Rattle.mapfile_save.specs.MapNames.{MapNames}
use Rattle.mapfile_resume.specs.Resuming.{IsReadAs, IsRefusedFor, IsLikeNone, NothingPending}

-- A mapfile is read as one map.
abbrev pub ReadAsOne : Type 0
ReadAsOne = (file : Option File) (mode : Mode) (m m' : ReadMap) → IsReadAs file mode m → IsReadAs file mode m'
    → SameReading m.state m'.state m.first m'.first m.listed m'.listed m.tiles.statuses m'.tiles.statuses

-- A mapfile is refused for one error.
abbrev pub RefusedForOne : Type 0
RefusedForOne = (file : Option File) (mode : Mode) (e e' : MapError)
    → IsRefusedFor file mode e → IsRefusedFor file mode e' → e ≡ e'

-- A mapfile that is read as a map isn't refused.
abbrev pub ReadIsNotRefused : Type 0
ReadIsNotRefused = (file : Option File) (mode : Mode) (m : ReadMap) (e : MapError)
    → IsReadAs file mode m → IsRefusedFor file mode e → ⊥

-- A mapfile that is like none isn't read as a map.
abbrev pub NoneIsNotRead : Type 0
NoneIsNotRead = (file : Option File) (mode : Mode) (m : ReadMap) → IsLikeNone file → IsReadAs file mode m → ⊥

-- A mapfile that is like none is refused only for lack of a status line.
abbrev pub NoneSaysNothing : Type 0
NoneSaysNothing = (file : Option File) (mode : Mode) (e : MapError)
    → IsLikeNone file → IsRefusedFor file mode e → e ≡ NoStatusLine

-- Each mapfile is like none, or is read as a map, or is refused for something else.
abbrev pub HasAnswer : Type 0
HasAnswer = (file : Option File) (mode : Mode)
    → IsLikeNone file ⊎ ((m : ReadMap) × IsReadAs file mode m)
    ⊎ ((e : MapError) × (e ≢ NoStatusLine) × IsRefusedFor file mode e)

-- If nothing is pending, each stop finds the mapfile as it read, and the open image except where it was lost.
abbrev pub PendingNothingIsFound : Type 0
PendingNothingIsFound = (names : MapNames) (was now : Disk) (found : List ℕ → Option File)
    → NothingPending names was now → Leaves now found
    → (found names.map ≡ was.reads.files names.map)
    × ((image : List ℕ) → was.reads.image ≡ Some image → image ≢ names.map → image ≢ draft_of names.map
    → MatchesFile (was.reads.files image) (lost_in (was.shows image)) (found image))
