-- The work of `ddrescuepart`: memory is taken, the input is opened, and then records are read.
use Rattle.std.specs.Prelude.{◌≡◌, ℕ, ◌≤◌, IsTrue, List, [], ◌∷◌, ◌++◌, length, All, Option, Some, None}
use Rattle.faulty_source.specs.SourceState.{SourceState}
use Rattle.program_promise.specs.Work.{Deeds, Faults, WorkStep, Take, Open, Works}
use Rattle.program_promise.specs.Opens.{AreOpens}
use Rattle.partition_domain.specs.declared.table.Partition.{Partition}
use Rattle.partition_domain.specs.Part.{partition_of}
use Rattle.partition_domain.specs.DomainMap.{domain_text}
use Rattle.partition_domain.specs.Reads.{AreNext, records_of}
use Rattle.faulty_source.specs.Journal.{IsFrom}
use Rattle.ddrescuepart_words.specs.Command.{Command}
use Rattle.ddrescuepart_cli.specs.declared.ending.PartEnding.{PartEnding}
use Rattle.ddrescuepart_cli.specs.declared.ending.PartEnding.TheVariants.{SourceFault, NoMemory}
use Rattle.ddrescuepart_cli.specs.Answers.{AnswersBy}

-- how faults are answered; no call on the files is made
abbrev pub part_faults : Faults PartEnding
part_faults = record { call = λ call. NoMemory; memory = NoMemory; input = SourceFault }

-- the rows before the first read: all memory is taken before the input is opened
abbrev pub part_rows : Command → List (WorkStep PartEnding)
part_rows c = Take ∷ Open c.infile ∷ []

-- how many reads a call makes at most: the first record, and those of the longest chain
abbrev pub most_reads : ℕ
most_reads = 129

-- What was done after the rows: reads, each of the record that had to be read next; and the answer is what these gave.
pub record ReadsPart (c : Command) (e : PartEnding) (d : Deeds) : Type 0 where
  pub opens : d.opens ≡ []
  pub calls : d.gain.calls ≡ []
  pub times : d.gain.times ≡ []
  pub next : AreNext c.partition [] d.gain.reads
  pub few : length d.gain.reads ≤ most_reads
  pub answer : AnswersBy e c.partition (records_of d.gain.reads)

-- The whole work for a command.
abbrev pub PartWorks : Command → PartEnding → Deeds → Type 0
PartWorks c e d = Works part_faults (part_rows c) (ReadsPart c) e d

-- What the source tells is its own. Its opens are counted even by a source that tells nothing else. If it tells, the
-- length and the reads are its own, and the reads gave its own bytes.
pub record Agrees (length_ : ℕ) (did : Deeds) (old new : SourceState) : Type 0 where
  pub opens : AreOpens did.opens old new
  pub length_is : IsTrue old.tells → length_ ≡ length old.bytes
  pub reads : IsTrue old.tells → new.journal ≡ old.journal ++ did.gain.reads
  pub right : IsTrue old.tells → All (IsFrom old.bytes) did.gain.reads

-- the text of the map of a partition, if there is one
abbrev pub text_by : (line : List ℕ) → (length : ℕ) → Option Partition → List ℕ
text_by line length None = []
text_by line length (Some p) = domain_text line length p

-- the text of the map of the partition that a command asks for, by what was read
abbrev pub text_of : Command → (line : List ℕ) → (length : ℕ) → Deeds → List ℕ
text_of c line length did = text_by line length (partition_of (records_of did.gain.reads) c.partition)
