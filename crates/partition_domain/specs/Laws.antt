-- What the definitions mean.
use Rattle.std.specs.Prelude.{◌≡◌, ⊤, ℕ, List, [], ◌∷◌, Option}
use Rattle.faulty_source.specs.Journal.{Reading}
use Rattle.partition_domain.specs.declared.stop.Refusal.{Refusal}
use Rattle.partition_domain.specs.Reads.{AreNext, Brings, records_of}

-- each read gave what a disk gives at its place
abbrev pub AreGivenBy : (disk : ℕ → List ℕ) → List Reading → Type 0
AreGivenBy disk [] = ⊤
AreGivenBy disk (r ∷ reads) = (r.given ≡ disk r.pos) × AreGivenBy disk reads

-- By the reads that have to be made for a partition, a disk gives it or leads to one refusal, and not another one.
abbrev pub HasOneAnswer : Type 0
HasOneAnswer = (k : ℕ) (disk : ℕ → List ℕ) (o o' : Option Refusal) (reads reads' : List Reading) → AreNext k [] reads
    → AreNext k [] reads' → AreGivenBy disk reads → AreGivenBy disk reads' → Brings o k (records_of reads)
    → Brings o' k (records_of reads') → o ≡ o'
