-- The row of each answer, from which follows what it says of the words, which count rose, its exit status and its
-- message; to which commands it may be given; and what it leaves. No row stands for several answers.
use Rattle.std.specs.Prelude.{◌≡◌, ◌≢◌, ◌⊎◌, ⊤, ℕ, ◌<◌, Bool, true, false, IsTrue, List, [], ◌++◌, length, is_some, codes}
use Rattle.mapfile_text.specs.declared.read.MapError.TheVariants.{NoMemory as OutOfMemory}
use Rattle.map_algebra.specs.Numbers.{list_limit}
use Rattle.crash_site.specs.declared.site.SiteCall.{SiteCall}
use Rattle.crash_site.specs.declared.site.SiteCall.TheVariants.{ImageOpen, ImageRead, ImageWrite, ImageSync, MapRead, DraftBegin, DraftAppend, DraftSync, DraftPublish, MapSettle, MapRemove}
use Rattle.rescue_console.specs.FeedState.{FeedState}
use Rattle.mapfile_save.specs.Saving.{drafting_after_fault}
use Rattle.option_words.specs.declared.fault.UsageFault.{UsageFault}
use Rattle.option_words.specs.declared.fault.UsageFault.TheVariants.{Word, BadValue, Conflict, Modes, Operands, PlaceTooLarge}
use Rattle.console_texts.specs.Texts.{error_text, fault_text, at_line, message_of}
use Rattle.program_promise.specs.Kinds.{AtCall, AtTake, AtPut, is_silent_kind}
use Rattle.program_promise.specs.Rows.{AnswerRow, asked_row, brought_row, failed_row, only_where, starved_row, usage_row}
use Rattle.ddrescuelog_words.specs.Modes.{creates, removes_map}
use Rattle.ddrescuelog_words.specs.Command.{Command}
use Rattle.ddrescuelog_cli.specs.declared.ending.Which.{Which}
use Rattle.ddrescuelog_cli.specs.declared.ending.Which.TheVariants.{DomainMap, RunMap, OtherMap}
use Rattle.ddrescuelog_cli.specs.declared.ending.LogEnding.{LogEnding}
use Rattle.ddrescuelog_cli.specs.declared.ending.LogEnding.TheVariants.{Done, NotDone, Differ, Usage, Exists, NoMap, MapRefused, BadNumber, ListTooLong, SiteFault, FeedFault, ConsoleFault, NoMemory}
use Rattle.ddrescuelog_cli.specs.Names.{program_name}
use Rattle.ddrescuelog_cli.specs.Modes.{compares, looks_at_places, prints, tests}

-- ---- the row

-- which map it is
abbrev pub which_text : Which → List ℕ
which_text DomainMap = codes "domain mapfile"
which_text RunMap = codes "mapfile"
which_text OtherMap = codes "other mapfile"

-- Lack of memory isn't reported as an error of a map.
abbrev pub row_of : LogEnding → AnswerRow
row_of Done = asked_row 0
row_of NotDone = asked_row 1
row_of Differ = asked_row 1
row_of (Usage fault) = usage_row fault
row_of Exists = brought_row 1 (codes "mapfile exists, use --force")
row_of (NoMap which) = brought_row 1 (which_text which ++ codes " does not exist")
row_of (MapRefused which error) =
    only_where (brought_row 2 (which_text which ++ codes ": " ++ error_text error)) (error ≢ OutOfMemory)
row_of (BadNumber line) = brought_row 2 (at_line line (codes "not a block number"))
row_of ListTooLong = brought_row 2 (codes "list too long")
row_of (SiteFault call) = failed_row AtCall (fault_text call)
row_of FeedFault = failed_row AtTake (codes "cannot read standard input")
row_of ConsoleFault = failed_row AtPut (codes "cannot write standard output")
row_of NoMemory = starved_row

-- the exit status
abbrev pub status_of_ending : LogEnding → ℕ
status_of_ending e = (row_of e).status

-- no message is put for this answer, since it is what was asked for
abbrev pub is_silent : LogEnding → Bool
is_silent e = is_silent_kind (row_of e).kind

-- the text of an answer
abbrev pub text_of_ending : LogEnding → List ℕ
text_of_ending e = (row_of e).text

-- the message on standard error for an answer
abbrev pub message : LogEnding → List ℕ
message e = message_of program_name (text_of_ending e)

-- ---- the command

-- the words name the map that is meant; the mapfile is read in every mode but -c
abbrev pub IsNamedMap : Which → Command → Type 0
IsNamedMap RunMap c = creates c.mode ≡ false
IsNamedMap OtherMap c = is_some c.other ≡ true
IsNamedMap DomainMap c = is_some c.domain_map ≡ true

-- which mode makes a call: a read every one may; -c saves; -d removes and settles; none opens, reads or writes an image
abbrev pub MayCall : SiteCall → Command → Type 0
MayCall ImageOpen c = ⊥
MayCall ImageRead c = ⊥
MayCall ImageWrite c = ⊥
MayCall ImageSync c = creates c.mode ≡ true
MayCall MapRead c = ⊤
MayCall DraftBegin c = creates c.mode ≡ true
MayCall DraftAppend c = creates c.mode ≡ true
MayCall DraftSync c = creates c.mode ≡ true
MayCall DraftPublish c = creates c.mode ≡ true
MayCall MapSettle c = (creates c.mode ≡ true) ⊎ (removes_map c.mode ≡ true)
MayCall MapRemove c = removes_map c.mode ≡ true

-- words that ask for something are refused only for a place
abbrev pub FitsUsage : UsageFault → Command → Type 0
FitsUsage (Word fault) c = ⊥
FitsUsage (BadValue n) c = ⊥
FitsUsage (Conflict n) c = ⊥
FitsUsage (Modes given) c = ⊥
FitsUsage (Operands given) c = ⊥
FitsUsage PlaceTooLarge c = looks_at_places c.mode ≡ true

-- ---- the feed

-- nothing was taken from the feed
abbrev pub Untaken : (old new : FeedState) → Type 0
Untaken old new = new ≡ old

-- what was taken of the feed, if anything was, is its front, if it tells
abbrev pub TookFront : (old new : FeedState) → Type 0
TookFront old new = IsTrue old.tells → (front : List ℕ) × (old.left ≡ front ++ new.left)

-- all of the feed was taken
abbrev pub AllTaken : (old new : FeedState) → Type 0
AllTaken old new = IsTrue old.tells → new.left ≡ []

-- more than a list may have was taken from the feed
abbrev pub TooMuchTaken : (old new : FeedState) → Type 0
TooMuchTaken old new = IsTrue old.tells
    → (front : List ℕ) × (old.left ≡ front ++ new.left) × (list_limit < length front)

-- what was taken from the feed before a call that failed: the maps are read before the list is taken
abbrev pub TakenBefore : SiteCall → (old new : FeedState) → Type 0
TakenBefore ImageOpen old new = ⊥
TakenBefore ImageRead old new = ⊥
TakenBefore ImageWrite old new = ⊥
TakenBefore ImageSync old new = AllTaken old new
TakenBefore MapRead old new = Untaken old new
TakenBefore DraftBegin old new = AllTaken old new
TakenBefore DraftAppend old new = AllTaken old new
TakenBefore DraftSync old new = AllTaken old new
TakenBefore DraftPublish old new = AllTaken old new
TakenBefore MapSettle old new = AllTaken old new
TakenBefore MapRemove old new = ⊥

-- ---- what an answer means

-- The commands an answer is for, what a map to be created took of the feed by then, and whether a draft is left begun.
pub record Meaning : Type 1 where
  pub fits : Command → Type 0
  pub takes : (old new : FeedState) → Type 0
  pub drafting : Bool

-- the meaning of an answer after which no draft is left
abbrev pub means : (Command → Type 0) → ((old new : FeedState) → Type 0) → Meaning
means fits takes = record { fits = fits; takes = takes; drafting = false }

-- for an answer that a map to be created never has
abbrev pub never : (old new : FeedState) → Type 0
never old new = ⊥

-- a command creates a map
abbrev pub IsCreating : Command → Type 0
IsCreating c = creates c.mode ≡ true

-- An answer comes only if the words ask for what it speaks of. A draft that was begun is left so after a failed append
-- or sync.
abbrev pub meaning_of : LogEnding → Meaning
meaning_of Done = means (λ c. ⊤) AllTaken
meaning_of NotDone = means (λ c. tests c.mode ≡ true) never
meaning_of Differ = means (λ c. compares c.mode ≡ true) never
meaning_of (Usage fault) = means (FitsUsage fault) Untaken
meaning_of Exists = means (λ c. IsCreating c × (c.options.forced ≡ false)) Untaken
meaning_of (NoMap which) = means (IsNamedMap which) Untaken
meaning_of (MapRefused which error) = means (IsNamedMap which) Untaken
meaning_of (BadNumber line) = means IsCreating AllTaken
meaning_of ListTooLong = means IsCreating TooMuchTaken
meaning_of (SiteFault call) =
    record { fits = MayCall call; takes = TakenBefore call; drafting = drafting_after_fault call false }
meaning_of FeedFault = means IsCreating TookFront
meaning_of ConsoleFault = means (λ c. prints c.mode ≡ true) never
meaning_of NoMemory = means (λ c. ⊤) TookFront

-- an answer may come for a command
abbrev pub FitsCommand : LogEnding → Command → Type 0
FitsCommand e c = (meaning_of e).fits c

-- what a map to be created took of the feed by the time of an answer
abbrev pub TakesAs : LogEnding → (old new : FeedState) → Type 0
TakesAs e old new = (meaning_of e).takes old new

-- only a map to be created takes anything from the feed
abbrev pub TakesFeed : (creates_map : Bool) → LogEnding → (old new : FeedState) → Type 0
TakesFeed true e old new = TakesAs e old new
TakesFeed false e old new = Untaken old new

-- a draft is left begun after an answer
abbrev pub drafting_left : LogEnding → Bool
drafting_left e = (meaning_of e).drafting
