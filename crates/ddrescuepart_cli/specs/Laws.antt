-- What the definitions mean.
use Rattle.std.specs.Prelude.{◌≡◌, ◌≢◌, ℕ, List}
use Rattle.program_promise.specs.Work.{Deeds}
use Rattle.program_promise.specs.World.{Told}
use Rattle.program_promise.specs.WellMade.{IsVerdict as IsVerdictOf}
use Rattle.program_promise.specs.Laws.{KeepsPromises, NothingFailed}
use Rattle.partition_domain.specs.Reads.{records_of}
use Rattle.partition_domain.specs.Laws.{AreGivenBy}
use Rattle.ddrescuepart_words.specs.Command.{Command, Asks}
use Rattle.ddrescuepart_cli.specs.declared.ending.PartEnding.{PartEnding}
use Rattle.ddrescuepart_cli.specs.declared.ending.PartEnding.TheVariants.{NoMemory}
use Rattle.ddrescuepart_cli.specs.Answers.{AnswersBy}
use Rattle.ddrescuepart_cli.specs.Work.{PartWorks}
use Rattle.ddrescuepart_cli.specs.Ddrescuepart.{Ddrescuepart, part_program}

-- an answer that records lead to, whatever opens, losses, puts and memory do
abbrev pub IsVerdict : PartEnding → Type 0
IsVerdict e = IsVerdictOf part_program e

-- A command and a disk lead to one verdict at most.
abbrev pub HasOneVerdict : Type 0
HasOneVerdict = (c : Command) (disk : ℕ → List ℕ) (e e' : PartEnding) (d d' : Deeds) → PartWorks c e d
    → PartWorks c e' d' → AreGivenBy disk d.gain.reads → AreGivenBy disk d'.gain.reads → IsVerdict e → IsVerdict e'
    → e ≡ e'

-- If the words ask for something, nothing failed and memory doesn't run out, the answer is what the records lead to.
abbrev pub IsBroughtUnless : Type 0
IsBroughtUnless = (t : Told PartEnding) (c : Command) (d : Ddrescuepart t) (asks : Asks t.words c) → NothingFailed t
    → t.answer ≢ NoMemory
    → IsVerdict t.answer × AnswersBy t.answer c.partition (records_of (d.asked_for c asks).did.gain.reads)

-- What every program keeps.
abbrev pub PartKeepsPromises : Type 0
PartKeepsPromises = KeepsPromises part_program
