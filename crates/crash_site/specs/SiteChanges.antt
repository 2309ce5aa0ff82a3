-- What a call does to the state of a site, and the state in which a site in memory begins.
use Rattle.std.specs.Prelude.{◌≡◌, ◌⊎◌, ⊤, ℕ, ◌≤◌, Bool, true, false, IsTrue, List, [], ◌∷◌, ◌++◌, Option, None, Result, is_ok, OnOk, OnErr, IsErr}
use Rattle.fault_count.specs.Counts.{Rose, raised}
use Rattle.fault_count.specs.Schedule.{Schedule, no_schedule, with_call, FailsAfter, FailsNext}
use Rattle.crash_site.specs.declared.site.SiteCall.{SiteCall}
use Rattle.crash_site.specs.Files.{File}
use Rattle.crash_site.specs.Calls.{Call, Entry, Done, Failed, image_open, draft_begin, draft_publish}
use Rattle.crash_site.specs.CallsMade.{Lost, Made, BrokeAt}
use Rattle.crash_site.specs.SiteState.{SiteState}

-- a site that fails by a schedule, as it begins: nothing is open or begun, and no call was made or is to fail
abbrev pub fresh_site : (List ℕ → Option File) → SiteState
fresh_site files = record {
  tells = true;
  start = record { files = files; image = None; draft = None };
  calls = [];
  is_open = false;
  is_drafting = false;
  faults = 0;
  is_scheduled = true;
  schedule = no_schedule;
  starved = 0;
}

-- what no call changes: whether a site tells, and what it began with; and the count of faults never falls
pub record Keeps (old new : SiteState) : Type 0 where
  pub tells : new.tells ≡ old.tells
  pub start : IsTrue old.tells → new.start ≡ old.start
  pub scheduled : new.is_scheduled ≡ old.is_scheduled
  pub later : old.faults ≤ new.faults

-- what no call changes, and the image and the draft stay open and begun, or not
pub record Stays (old new : SiteState) : Type 0 where
  pub keeps : Keeps old new
  pub image : new.is_open ≡ old.is_open
  pub draft : new.is_drafting ≡ old.is_drafting

-- these calls were made, and all returned Ok
pub record Makes (calls : List Call) (old new : SiteState) : Type 0 where
  pub made : IsTrue old.tells → Made calls old.calls new.calls
  pub faults : new.faults ≡ old.faults

-- these calls were made up to one that failed, which has this name
pub record Breaks (at : SiteCall) (calls : List Call) (old new : SiteState) : Type 0 where
  pub broke : IsTrue old.tells → BrokeAt at calls old.calls new.calls
  pub rose : Rose old.faults new.faults

-- whether a draft is begun after a call
abbrev pub drafting_after : Call → (ok drafting : Bool) → Bool
drafting_after (draft_begin name) ok drafting = ok
drafting_after (draft_publish name) ok drafting = false
drafting_after call ok drafting = drafting

-- an open says of itself what is open after it; no other call opens or closes an image
abbrev pub KeepsOpen : Call → (before now : Bool) → Type 0
KeepsOpen (image_open name make) before now = ⊤
KeepsOpen call before now = now ≡ before

-- Why a call failed: the schedule has it fail after some steps, and it is listed with these. Or it found no memory,
-- which is counted, and isn't listed.
abbrev pub FailsBy : Schedule → (starved starved' : ℕ) → Call → (calls calls' : List Entry) → Type 0
FailsBy schedule starved starved' call calls calls' =
    ((steps : ℕ) × FailsAfter schedule steps × (starved' ≡ starved) × (calls' ≡ calls ++ Failed call steps ∷ []))
    ⊎ ((starved' ≡ raised starved) × (calls' ≡ calls))

-- what a call leaves of a schedule: it fails if its number is one of those that fail
pub record KeepsSchedule {T E : Type 0} (call : Call) (result : Result T E) (old new : SiteState) : Type 0 where
  pub schedule : new.schedule ≡ with_call old.schedule
  pub fails : FailsNext old.schedule → IsErr result
  pub why : OnErr result (FailsBy old.schedule old.starved new.starved call old.calls new.calls)
  pub fed : OnOk result (new.starved ≡ old.starved)

-- what each call does, by its outcome
pub record Answers {T E : Type 0} (call : Call) (result : Result T E) (old new : SiteState) : Type 0 where
  pub keeps : Keeps old new
  pub done : OnOk result (IsTrue old.tells → new.calls ≡ old.calls ++ Done call ∷ [])
  pub kept : OnOk result (new.faults ≡ old.faults)
  pub lost : OnErr result (IsTrue old.tells → Lost call old.calls new.calls)
  pub rose : OnErr result (Rose old.faults new.faults)
  pub image : KeepsOpen call old.is_open new.is_open
  pub draft : new.is_drafting ≡ drafting_after call (is_ok result) old.is_drafting
  pub schedule : IsTrue old.is_scheduled → KeepsSchedule call result old new
