-- Which count of failures rose, by the kind of an answer.
use Rattle.std.specs.Prelude.{◌≡◌, ℕ}
use Rattle.fault_count.specs.Counts.{raised}
use Rattle.program_promise.specs.World.{WorldState}
use Rattle.program_promise.specs.Kinds.{Failure, AtOpen, AtRead, AtCall, AtCallAfterRead, AtTake, AtPut, Kind, Asked, Brought, Wrong, Failed, Starved}

-- a count that stays
abbrev pub unchanged : ℕ → ℕ
unchanged n = n

-- what becomes of each count: of opens, of reads, of calls on the files, of takes and of puts on standard output that
-- failed; a count at the end of its type stays there
pub record Changes : Type 0 where
  pub opens : ℕ → ℕ
  pub reads : ℕ → ℕ
  pub calls : ℕ → ℕ
  pub takes : ℕ → ℕ
  pub puts : ℕ → ℕ

-- no count rises
abbrev pub none_rises : Changes
none_rises = record { opens = unchanged; reads = unchanged; calls = unchanged; takes = unchanged; puts = unchanged }

-- the counts of a failure rise, by one
abbrev pub those_rise : Failure → Changes
those_rise AtOpen = record none_rises { opens = raised }
those_rise AtRead = record none_rises { reads = raised }
those_rise AtCall = record none_rises { calls = raised }
those_rise AtCallAfterRead = record none_rises { reads = raised; calls = raised }
those_rise AtTake = record none_rises { takes = raised }
those_rise AtPut = record none_rises { puts = raised }

-- A failure is answered if and only if its count rose by one and no other rose; of a call after a lost read both counts
-- rose. So no other answer hides one.
abbrev pub changes_of : Kind → Changes
changes_of Asked = none_rises
changes_of Brought = none_rises
changes_of (Wrong fault) = none_rises
changes_of (Failed at) = those_rise at
changes_of Starved = none_rises

-- the counts of the objects changed in this way
pub record Changed (c : Changes) (old new : WorldState) : Type 0 where
  pub opens : new.source.faults ≡ c.opens old.source.faults
  pub reads : new.source.losses ≡ c.reads old.source.losses
  pub calls : new.site.faults ≡ c.calls old.site.faults
  pub takes : new.feed_.faults ≡ c.takes old.feed_.faults
  pub puts : new.console.out.faults ≡ c.puts old.console.out.faults
