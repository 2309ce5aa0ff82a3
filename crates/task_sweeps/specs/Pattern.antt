-- The pattern of fill mode: the infile's front, over and over, and its read.
use Rattle.std.specs.Prelude.{◌≡◌, ◌⊎◌, ℕ, ◌<◌, ◌≤◌, ◌%◌, min, IsTrue, List, [], ◌∷◌, length, slice_get, None, Result, Ok, Err}
use Rattle.fault_count.specs.Counts.{raised}
use Rattle.faulty_source.specs.Journal.{Reading}
use Rattle.faulty_source.specs.SourceState.{SourceState}
use Rattle.program_promise.specs.Work.{Deeds, IsIdle}
use Rattle.task_files.specs.declared.ending.Ending.{Ending}
use Rattle.task_files.specs.declared.ending.Ending.TheVariants.{SourceLost, EmptyPattern, PatternUnread, NoMemory}
use Rattle.task_files.specs.Findings.{HasGainedReads}

-- a buffer of a size that a pattern fills, over and over
pub record IsRepeated (pattern : List ℕ) (size : ℕ) (buffer : List ℕ) : Type 0 where
  pub long : length buffer ≡ size
  pub each : (i : ℕ) → i < size → slice_get buffer i ≡ slice_get pattern (i % length pattern)

-- a read of a pattern, which has a length: from its start, of a cluster or of all that there is
pub record IsPatternRead (cluster end : ℕ) (r : Reading) : Type 0 where
  pub pos : r.pos ≡ 0
  pub asked : r.asked ≡ min cluster end
  pub given : length r.given ≤ r.asked

-- these deeds with other reads
abbrev pub with_reads : Deeds → List Reading → Deeds
with_reads d reads = record {
  opens = d.opens;
  gain = record { calls = d.gain.calls; reads = reads; times = d.gain.times };
}

-- Nothing was done but one read.
pub record IsOneRead (r : Reading) (d : Deeds) : Type 0 where
  pub reads : d.gain.reads ≡ r ∷ []
  pub rest : IsIdle (with_reads d [])

-- The pattern is read, by one read, and the work goes on with the buffer that it fills.
pub data ThenPattern (cluster end : ℕ) (buffer : List ℕ) (next : Ending → Deeds → Type 0) (e : Ending) (d : Deeds)
    : Type 0 where
  -- The input is lost.
  IsLost : e ≡ SourceLost → IsIdle d → ThenPattern cluster end buffer next e d
  -- The input gives less than was asked for.
  IsShort : (r : Reading) → IsPatternRead cluster end r → length r.given < r.asked → e ≡ PatternUnread
      → IsOneRead r d → ThenPattern cluster end buffer next e d
  -- The input gives the pattern.
  IsRead : (r : Reading) (rest : List Reading) → IsPatternRead cluster end r → length r.given ≡ r.asked
      → IsRepeated r.given cluster buffer → d.gain.reads ≡ r ∷ rest → next e (with_reads d rest)
      → ThenPattern cluster end buffer next e d

-- ---- what the code did

-- what came of the read of a pattern, by the journal's gain: a buffer or an answer
abbrev pub PatternRead : (cluster end : ℕ) → List Reading → Result (List ℕ) Ending → Type 0
PatternRead cluster end reads (Ok buffer) =
    (r : Reading) × (reads ≡ r ∷ []) × IsPatternRead cluster end r × (length r.given ≡ r.asked)
    × IsRepeated r.given cluster buffer
PatternRead cluster end reads (Err e) =
    ((e ≡ SourceLost) × (reads ≡ []))
    ⊎ ((r : Reading) × (reads ≡ r ∷ []) × IsPatternRead cluster end r × (length r.given < r.asked)
    × (e ≡ PatternUnread))

-- a result that says nothing, with a buffer
abbrev pub with_buffer : {T : Type 0} → List ℕ → Result T Ending → Result (List ℕ) Ending
with_buffer buffer (Ok done) = Ok buffer
with_buffer buffer (Err e) = Err e

-- what the read of a pattern into a buffer did
pub record ReadsPattern {T : Type 0} (cluster end : ℕ) (buffer : List ℕ) (result : Result T Ending)
    (source source' : SourceState) : Type 0 where
  pub reads : List Reading
  pub gained : IsTrue source.tells → HasGainedReads None source source' reads
  pub comes : PatternRead cluster end reads (with_buffer buffer result)

-- a result by what its value stands for
abbrev pub taken_as : {T : Type 0} → (T → List ℕ) → Result T Ending → Result (List ℕ) Ending
taken_as items (Ok value) = Ok (items value)
taken_as items (Err e) = Err e

-- what came of a pattern that may be empty, or for which memory may run out
abbrev pub PatternTaken : (cluster end : ℕ) → List Reading → Result (List ℕ) Ending → Type 0
PatternTaken cluster end reads result =
    ((end ≡ 0) × (result ≡ Err EmptyPattern) × (reads ≡ []))
    ⊎ ((0 < end) × (result ≡ Err NoMemory) × (reads ≡ []))
    ⊎ ((0 < end) × PatternRead cluster end reads result)

-- a pattern was taken from a source, with the reads that this gained
pub record TakesPattern (cluster end : ℕ) (result : Result (List ℕ) Ending) (source source' : SourceState)
    : Type 0 where
  pub reads : List Reading
  pub gained : IsTrue source.tells → HasGainedReads None source source' reads
  pub comes : PatternTaken cluster end reads result

-- the count of losses by the result: a loss is counted, and nothing else
abbrev pub losses_by : {T : Type 0} → Result T Ending → ℕ → ℕ
losses_by (Err SourceLost) losses = raised losses
losses_by (Err e) losses = losses
losses_by (Ok done) losses = losses

-- the counts rose as the result says
pub record PatternCause {T : Type 0} (result : Result T Ending) (source source' : SourceState) : Type 0 where
  pub faults : source'.faults ≡ source.faults
  pub losses : source'.losses ≡ losses_by result source.losses
