-- Which kinds of answers there are, and what follows from a kind alone.
use Rattle.std.specs.Prelude.{⊤, Bool, true, false}
use Rattle.option_words.specs.declared.fault.UsageFault.{UsageFault}

-- what may fail: an open of the input, a read of it, a call on the files, a call on them after a read was lost, a take
-- from the feed, a put on standard output
pub data Failure : Type 0 where
  AtOpen : Failure
  AtRead : Failure
  AtCall : Failure
  AtCallAfterRead : Failure
  AtTake : Failure
  AtPut : Failure

-- what an answer is for
pub data Kind : Type 0 where
  -- the answer is what was asked for, and has no message
  Asked : Kind
  -- what is there leads to it, as a refusal of a file
  Brought : Kind
  -- the words ask for nothing
  Wrong : (fault : UsageFault) → Kind
  -- something failed
  Failed : (at : Failure) → Kind
  -- memory wasn't there
  Starved : Kind

-- an answer of this kind has no message
abbrev pub is_silent_kind : Kind → Bool
is_silent_kind Asked = true
is_silent_kind Brought = false
is_silent_kind (Wrong fault) = false
is_silent_kind (Failed at) = false
is_silent_kind Starved = false

-- what is there leads to an answer of this kind, whatever fails
abbrev pub IsVerdictKind : Kind → Type 0
IsVerdictKind Asked = ⊤
IsVerdictKind Brought = ⊤
IsVerdictKind (Wrong fault) = ⊥
IsVerdictKind (Failed at) = ⊥
IsVerdictKind Starved = ⊥

-- an answer of this kind is neither for a fault of the words nor for a failed call
abbrev pub IsNoFaultKind : Kind → Type 0
IsNoFaultKind Asked = ⊤
IsNoFaultKind Brought = ⊤
IsNoFaultKind (Wrong fault) = ⊥
IsNoFaultKind (Failed at) = ⊥
IsNoFaultKind Starved = ⊤

-- work answers so, whose words were accepted
abbrev pub IsWorkKind : Kind → Type 0
IsWorkKind Asked = ⊤
IsWorkKind Brought = ⊤
IsWorkKind (Wrong fault) = ⊥
IsWorkKind (Failed at) = ⊤
IsWorkKind Starved = ⊤
