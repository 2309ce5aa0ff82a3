-- The line on a comparison, on standard output, and what is answered once the map is saved.
use Rattle.std.specs.Prelude.{◌≡◌, ◌⊎◌, ℕ, Bool, true, false, IsTrue, List, ◌++◌, codes, Result, Ok, Err}
use Rattle.std.specs.Fmt.{decimal}
use Rattle.fault_count.specs.Schedule.{with_call}
use Rattle.mapfile_text.specs.Printed.{with_newline}
use Rattle.rescue_console.specs.declared.console.Channel.TheVariants.{Out}
use Rattle.rescue_console.specs.ConsoleState.{ConsoleState, Puts, PutsPart}
use Rattle.rescue_verify.specs.declared.tally.Tally.{Tally}
use Rattle.ddrescueverify_cli.specs.declared.ending.VerifyEnding.{VerifyEnding}
use Rattle.ddrescueverify_cli.specs.declared.ending.VerifyEnding.TheVariants.{ConsoleFault}
use Rattle.ddrescueverify_cli.specs.Work.{answer_of_tally}

-- `compared 1536 B, differing 512 B, unread 0 B`: how much was compared, how much of that differs, and how much
-- couldn't be read whole
abbrev pub line_of_tally : Tally → List ℕ
line_of_tally t =
    with_newline (codes "compared " ++ decimal t.compared ++ codes " B, differing " ++ decimal t.differing
    ++ codes " B, unread " ++ decimal t.unread ++ codes " B")

-- the line was one put, by the schedule of a console that has one
abbrev pub IsOnePut : (old new : ConsoleState) → Type 0
IsOnePut old new = IsTrue old.is_scheduled → new.schedule ≡ with_call old.schedule

-- The line is put, in one put, unless nothing is to be put.
abbrev pub PutsLine : (quiet : Bool) → (line : List ℕ) → (old new : ConsoleState) → Type 0
PutsLine true line old new = new ≡ old
PutsLine false line old new = Puts Out line old new × IsOnePut old new

-- The console failed at the one put of the line, of which a part may be there.
abbrev pub FailsLine : (quiet : Bool) → (line : List ℕ) → (old new : ConsoleState) → Type 0
FailsLine quiet line old new = (quiet ≡ false) × PutsPart Out line old new × IsOnePut old new

-- What is answered after a comparison: what its numbers mean, or that the console failed at their line.
abbrev pub Reports : Tally → (quiet : Bool) → VerifyEnding → (old new : ConsoleState) → Type 0
Reports t quiet e old new =
    ((e ≡ answer_of_tally t) × PutsLine quiet (line_of_tally t) old new)
    ⊎ ((e ≡ ConsoleFault) × FailsLine quiet (line_of_tally t) old new)

-- what is answered and put by what the work came to
abbrev pub AnswersAs : (quiet : Bool) → Result Tally VerifyEnding → VerifyEnding → (old new : ConsoleState) → Type 0
AnswersAs quiet (Ok tally) e old new = Reports tally quiet e old new
AnswersAs quiet (Err v) e old new = (e ≡ v) × (new ≡ old)
