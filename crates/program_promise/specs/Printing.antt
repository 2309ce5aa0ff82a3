-- What a program puts on standard output, by the kind of its answer.
use Rattle.std.specs.Prelude.{◌≡◌, ℕ, List}
use Rattle.rescue_console.specs.declared.console.Channel.TheVariants.{Out}
use Rattle.rescue_console.specs.ConsoleState.{ConsoleState, Puts, PutsPart}
use Rattle.program_promise.specs.Kinds.{Failure, AtOpen, AtRead, AtCall, AtCallAfterRead, AtTake, AtPut, Kind, Asked, Brought, Wrong, Failed, Starved}

-- `Part` if a put failed, and after every other failure nothing
abbrev pub PutsFailing : Failure → (Part : Type 0) → (old new : ConsoleState) → Type 0
PutsFailing AtOpen Part old new = new ≡ old
PutsFailing AtRead Part old new = new ≡ old
PutsFailing AtCall Part old new = new ≡ old
PutsFailing AtCallAfterRead Part old new = new ≡ old
PutsFailing AtTake Part old new = new ≡ old
PutsFailing AtPut Part old new = Part

-- `All` if the answer is what was asked for, `Early` if memory ran out, and after every refusal nothing
abbrev pub PutsByKind : Kind → (All Part Early : Type 0) → (old new : ConsoleState) → Type 0
PutsByKind Asked All Part Early old new = All
PutsByKind Brought All Part Early old new = new ≡ old
PutsByKind (Wrong fault) All Part Early old new = new ≡ old
PutsByKind (Failed at) All Part Early old new = PutsFailing at Part old new
PutsByKind Starved All Part Early old new = Early

-- One text, for which memory is taken before it is put, is put: all of it, or if a put failed a beginning of it.
abbrev pub PutsText : Kind → (text : List ℕ) → (old new : ConsoleState) → Type 0
PutsText kind text old new = PutsByKind kind (Puts Out text old new) (PutsPart Out text old new) (new ≡ old) old new
