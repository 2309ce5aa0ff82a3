-- What a console tells of itself, and what a put does to that.
use Rattle.std.specs.Prelude.{◌≡◌, ◌⊎◌, ℕ, ◌≤◌, Bool, IsTrue, List, ◌++◌, Result, OnOk, OnErr, IsErr}
use Rattle.fault_count.specs.Counts.{Rose, raised}
use Rattle.fault_count.specs.Schedule.{Schedule, with_call, FailsNext}
use Rattle.rescue_console.specs.declared.console.Channel.{Channel}
use Rattle.rescue_console.specs.declared.console.Channel.TheVariants.{Out, Err}

-- what is on a channel, and how often a put there failed
pub record ChannelState : Type 0 where
  pub text : List ℕ
  pub faults : ℕ

-- whether a console tells its texts, and its two channels; and whether it fails by a schedule, this, and how many puts
-- found no memory
pub record ConsoleState : Type 0 where
  pub tells : Bool
  pub out : ChannelState
  pub err : ChannelState
  pub is_scheduled : Bool
  pub schedule : Schedule
  pub starved : ℕ

-- what a console has on this channel
abbrev pub channel_of : Channel → ConsoleState → ChannelState
channel_of Out s = s.out
channel_of Err s = s.err

-- what a console has on the channel that isn't this one
abbrev pub other_of : Channel → ConsoleState → ChannelState
other_of Out s = s.err
other_of Err s = s.out

-- what no put changes: whether a console tells, and its kind; and no count ever falls
pub record Keeps (old new : ConsoleState) : Type 0 where
  pub tells : new.tells ≡ old.tells
  pub scheduled : new.is_scheduled ≡ old.is_scheduled
  pub out : old.out.faults ≤ new.out.faults
  pub err : old.err.faults ≤ new.err.faults

-- a text goes on with a beginning of a piece
pub record TextGoesOn (piece before now : List ℕ) : Type 0 where
  pub part : List ℕ
  pub left : List ℕ
  pub split : part ++ left ≡ piece
  pub is : now ≡ before ++ part

-- what no put on a channel changes: what none changes, and the other channel
pub record StaysBeside (channel : Channel) (old new : ConsoleState) : Type 0 where
  pub keeps : Keeps old new
  pub other : other_of channel new ≡ other_of channel old

-- a text was put on a channel, and no count rose
pub record Puts (channel : Channel) (text : List ℕ) (old new : ConsoleState) : Type 0 where
  pub stays : StaysBeside channel old new
  pub whole : IsTrue old.tells → (channel_of channel new).text ≡ (channel_of channel old).text ++ text
  pub kept : (channel_of channel new).faults ≡ (channel_of channel old).faults
  pub fed : IsTrue old.is_scheduled → new.starved ≡ old.starved

-- a beginning of a text was put on a channel, and then a put failed
pub record PutsPart (channel : Channel) (text : List ℕ) (old new : ConsoleState) : Type 0 where
  pub stays : StaysBeside channel old new
  pub part : IsTrue old.tells → TextGoesOn text (channel_of channel old).text (channel_of channel new).text
  pub rose : Rose (channel_of channel old).faults (channel_of channel new).faults

-- by its schedule a put fails if its number is one of those that fail, or if it finds no memory, which is counted; of
-- one that fails nothing is put
pub record PutsBySchedule {T E : Type 0} (channel : Channel) (result : Result T E)
    (old new : ConsoleState) : Type 0 where
  pub schedule : new.schedule ≡ with_call old.schedule
  pub fails : FailsNext old.schedule → IsErr result
  pub why : OnErr result ((FailsNext old.schedule × (new.starved ≡ old.starved)) ⊎ (new.starved ≡ raised old.starved))
  pub unput : OnErr result ((channel_of channel new).text ≡ (channel_of channel old).text)

-- what a put does, by its outcome
pub record Answers {T E : Type 0} (channel : Channel) (piece : List ℕ) (result : Result T E)
    (old new : ConsoleState) : Type 0 where
  pub stays : StaysBeside channel old new
  pub puts : OnOk result (Puts channel piece old new)
  pub fails : OnErr result (PutsPart channel piece old new)
  pub schedule : IsTrue old.is_scheduled → PutsBySchedule channel result old new
