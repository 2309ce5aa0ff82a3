-- The counts, and whether a draft is left begun, by what the work after the words came to.
-- For contracts and proofs: no promise uses it.
use Rattle.std.specs.Prelude.{◌≡◌, ⊤, Bool, false, Result, Ok, Err}
use Rattle.faulty_source.specs.SourceState.{SourceState}
use Rattle.crash_site.specs.SiteState.{SiteState}
use Rattle.rescue_verify.specs.declared.tally.Tally.{Tally}
use Rattle.program_promise.specs.Kinds.{Failure, AtOpen, AtRead, AtCall, AtCallAfterRead, AtTake, AtPut, Kind, Asked, Brought, Wrong, Failed, Starved}
use Rattle.program_promise.specs.Causes.{Changes, changes_of, none_rises}
use Rattle.ddrescueverify_cli.specs.declared.ending.VerifyEnding.{VerifyEnding}
use Rattle.ddrescueverify_cli.specs.Answers.{drafting_left, row_of}

-- by how much the counts of input and files rose
pub record CountsRise (c : Changes) (source source' : SourceState) (site site' : SiteState) : Type 0 where
  pub faults : source'.faults ≡ c.opens source.faults
  pub losses : source'.losses ≡ c.reads source.losses
  pub site_faults : site'.faults ≡ c.calls site.faults

-- a failure before the line is put
abbrev pub IsStopFailure : Failure → Type 0
IsStopFailure AtOpen = ⊤
IsStopFailure AtRead = ⊤
IsStopFailure AtCall = ⊤
IsStopFailure AtCallAfterRead = ⊤
IsStopFailure AtTake = ⊥
IsStopFailure AtPut = ⊥

-- a kind of answer before the line is put: never what only words lead to, or a whole comparison
abbrev pub IsStopKind : Kind → Type 0
IsStopKind Asked = ⊥
IsStopKind Brought = ⊤
IsStopKind (Wrong fault) = ⊥
IsStopKind (Failed at) = IsStopFailure at
IsStopKind Starved = ⊤

-- a refusal or a fault of the work after the words, with the counts that its row says
pub record StopCause (e : VerifyEnding) (source source' : SourceState) (site site' : SiteState) : Type 0 where
  pub stops : IsStopKind (row_of e).kind
  pub also : (row_of e).also
  pub counts : CountsRise (changes_of (row_of e).kind) source source' site site'

-- what the work after the words did to the counts, by its outcome
abbrev pub WorkCause : Result Tally VerifyEnding → (source source' : SourceState) → (site site' : SiteState) → Type 0
WorkCause (Ok tally) source source' site site' = CountsRise none_rises source source' site site'
WorkCause (Err e) source source' site site' = StopCause e source source' site site'

-- whether a draft is left begun
abbrev pub drafting_after : Result Tally VerifyEnding → Bool
drafting_after (Ok tally) = false
drafting_after (Err e) = drafting_left e
