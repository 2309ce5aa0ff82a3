-- What the definitions mean.
use Rattle.std.specs.Prelude.{◌≡◌, ◌≢◌, ℕ, ◌+◌, ◌≤◌, true, false, IsTrue, List, length, All, count_by}
use Rattle.block_list.specs.declared.status.Status.{Status}
use Rattle.block_list.specs.declared.status.Status.TheVariants.{Finished}
use Rattle.block_list.specs.Map.{Has}
use Rattle.crash_site.specs.SiteState.{files_in}
use Rattle.program_promise.specs.Work.{Deeds, Works}
use Rattle.program_promise.specs.Verdicts.{RefuseNothing}
use Rattle.rescue_verify.specs.Looks.{Look}
use Rattle.rescue_verify.specs.Laws.{asks_for}
use Rattle.rescue_verify.specs.Verified.{IsJudged, is_doubted, judged_by}
use Rattle.ddrescueverify_words.specs.Command.{Command, Asks}
use Rattle.program_promise.specs.Kinds.{Asked}
use Rattle.program_promise.specs.Program.{line_by}
use Rattle.program_promise.specs.World.{Told}
use Rattle.program_promise.specs.WellMade.{IsVerdict as IsVerdictOf}
use Rattle.program_promise.specs.Laws.{KeepsPromises, NothingFailed}
use Rattle.ddrescueverify_cli.specs.declared.ending.VerifyEnding.{VerifyEnding}
use Rattle.ddrescueverify_cli.specs.declared.ending.VerifyEnding.TheVariants.{NoMemory}
use Rattle.ddrescueverify_cli.specs.Answers.{is_saved, row_of}
use Rattle.ddrescueverify_cli.specs.Ddrescueverify.{Ddrescueverify, verify_program}
use Rattle.ddrescueverify_cli.specs.Stops.{IsVerifiedMap}
use Rattle.ddrescueverify_cli.specs.Outside.{Outside}
use Rattle.ddrescueverify_cli.specs.Work.{Verifies, verify_faults, verify_rows}

-- What every program keeps.
abbrev pub VerifyKeepsPromises : Type 0
VerifyKeepsPromises = KeepsPromises verify_program

-- the outside of a promise
abbrev pub outside_by : {t : Told VerifyEnding} {c : Command} → Ddrescueverify t → Asks t.words c → Outside
outside_by {t} {c} d asks = (d.asked_for c asks).outside

-- If the call answered that it is done, or that something differs, and the files tell, the mapfile is the verified one.
abbrev pub SavedIsVerified : Type 0
SavedIsVerified = (t : Told VerifyEnding) (c : Command) (d : Ddrescueverify t) (asks : Asks t.words c)
    → IsTrue t.before.site.tells → is_saved t.answer ≡ true
    → IsVerifiedMap c (line_by verify_program t.words) (outside_by d asks) t.before.site
    (files_in t.after.site c.mapfile)

-- an answer of a comparison that came to its end
abbrev pub IsOfLooks : VerifyEnding → Type 0
IsOfLooks e = (row_of e).kind ≡ Asked

-- If nothing failed, nothing is refused and memory doesn't run out, the answer is Done or Differs, whoever tells.
abbrev pub IsComparedUnless : Type 0
IsComparedUnless = (t : Told VerifyEnding) (c : Command) (d : Ddrescueverify t) (asks : Asks t.words c)
    → NothingFailed t → RefuseNothing (verify_rows c (outside_by d asks).found (outside_by d asks).end)
    → t.answer ≢ NoMemory → IsOfLooks t.answer

-- ---- one verdict, and one read of a position

-- an answer that the names, the files, the length and the looks lead to, whatever fails
abbrev pub IsVerdict : VerifyEnding → Type 0
IsVerdict e = IsVerdictOf verify_program e

-- the whole work for a command on an outside
abbrev pub VerifyWorks : Command → Outside → VerifyEnding → Deeds → Type 0
VerifyWorks c o e d =
    Works verify_faults (verify_rows c o.found o.end) (Verifies c o.line o.found o.end o.looks) e d

-- A command and an outside lead to at most one answer that is a verdict.
abbrev pub HasOneVerdict : Type 0
HasOneVerdict = (c : Command) (o : Outside) (e e' : VerifyEnding) (d d' : Deeds) → VerifyWorks c o e d
    → VerifyWorks c o e' d' → IsVerdict e → IsVerdict e' → e ≡ e'

-- No position of the input is asked for by two reads of a call.
abbrev pub NoneIsReadTwice : Type 0
NoneIsReadTwice = (c : Command) (o : Outside) (e : VerifyEnding) (d : Deeds) (x : ℕ) → VerifyWorks c o e d
    → count_by (asks_for x) d.gain.reads ≤ 1

-- ---- what a comparison makes of a map

-- the pieces of looks end within a map
abbrev pub AreWithin : List Status → List Look → Type 0
AreWithin statuses looks = All (λ l. l.read.pos + l.read.asked ≤ length statuses) looks

-- The pieces that a call looks at end within the map that its mapfile stands for.
abbrev pub LooksAreWithin : Type 0
LooksAreWithin = (c : Command) (o : Outside) (e : VerifyEnding) (d : Deeds)
    (v : Verifies c o.line o.found o.end o.looks e d) → AreWithin v.statuses o.looks

-- The map after looks has `?` at each position of a piece that differs, and everywhere else what it had.
abbrev pub JudgedIsByPosition : Type 0
JudgedIsByPosition = (statuses : List Status) (looks : List Look) → AreWithin statuses looks
    → IsJudged looks statuses (judged_by statuses looks)

-- What the map after looks calls finished was finished before, and no piece that differs has it.
abbrev pub NothingBecomesFinished : Type 0
NothingBecomesFinished = (statuses : List Status) (looks : List Look) (x : ℕ) → AreWithin statuses looks
    → Has (judged_by statuses looks) Finished x → Has statuses Finished x × (is_doubted looks x ≡ false)
