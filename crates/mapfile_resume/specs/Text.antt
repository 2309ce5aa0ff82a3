-- The text of a mapfile, as it is read piece by piece. For contracts and proofs: no promise uses it.
use Rattle.std.specs.Prelude.{◌≡◌, ◌≢◌, ⊤, ℕ, ◌<◌, ◌≤◌, List, [], length, Option, Some}
use Rattle.mapfile_text.specs.declared.read.Mode.{Mode}
use Rattle.mapfile_text.specs.declared.read.MapError.TheVariants.{TooLong, NoMemory as OutOfMemory}
use Rattle.mapfile_text.specs.MapText.{text_limit}
use Rattle.mapfile_text.specs.MapText.{MapFault}
use Rattle.crash_site.specs.Files.{File}
use Rattle.crash_site.specs.Calls.{Entry}
use Rattle.crash_site.specs.declared.site.SiteCall.TheVariants.{MapRead}
use Rattle.mapfile_resume.specs.declared.load.ResumeFault.{ResumeFault}
use Rattle.mapfile_resume.specs.declared.load.ResumeFault.TheVariants.{Site, Map as Refused, NoMemory}
use Rattle.mapfile_resume.specs.Resuming.{LoadEnded, StarvedInLoad, BrokeInLoad}

-- a text is that of a file, within the limit
pub record IsTextOf (file : Option File) (text : List ℕ) : Type 0 where
  pub there : File
  pub is : file ≡ Some there
  pub bytes : there.bytes ≡ text
  pub within : length text ≤ text_limit

-- a file is there, and its text is longer than the limit
pub record IsTooLong (file : Option File) : Type 0 where
  pub there : File
  pub is : file ≡ Some there
  pub long : text_limit < length there.bytes

-- why a mapfile's text couldn't be read
abbrev pub TextStop : List ℕ → Option File → ResumeFault → List Entry → List Entry → Type 0
TextStop name file (Site call) calls calls' = (call ≡ MapRead) × BrokeInLoad [] name file calls calls'
TextStop name file (Refused e) calls calls' = (e ≡ TooLong) × IsTooLong file × LoadEnded [] name file calls calls'
TextStop name file NoMemory calls calls' = StarvedInLoad [] name file calls calls'

-- why a text within the limit gave no map
abbrev pub NoMapIn : List ℕ → Mode → ResumeFault → Type 0
NoMapIn text mode (Site call) = ⊥
NoMapIn text mode (Refused e) = MapFault text mode e × (e ≢ OutOfMemory)
NoMapIn text mode NoMemory = ⊤
