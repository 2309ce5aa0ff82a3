-- How a map of listed blocks is made: what is checked before, how its list is taken, and what is saved.
-- For contracts and proofs: no promise uses it.
use Rattle.std.specs.Prelude.{◌≡◌, ◌⊎◌, ℕ, ◌<◌, ◌≤◌, Bool, true, false, IsTrue, List, [], ◌∷◌, ◌++◌, length, Option, Some, Result, Ok, Err}
use Rattle.block_list.specs.declared.status.Status.{Status}
use Rattle.block_list.specs.Tiled.{Tiled, statuses_in}
use Rattle.crash_site.specs.declared.site.MapRead.{MapRead}
use Rattle.crash_site.specs.Files.{File}
use Rattle.crash_site.specs.Calls.{Entry, Done as Returned, map_read}
use Rattle.crash_site.specs.SiteState.{SiteState, files_in}
use Rattle.rescue_console.specs.FeedState.{FeedState, Keeps as FeedKeeps}
use Rattle.rescue_domain.specs.Domain.{whole_domain, in_map}
use Rattle.mapfile_save.specs.Loading.{piece_size}
use Rattle.mapfile_save.specs.MapNames.{MapNames}
use Rattle.mapfile_resume.specs.Named.{map_mode, HasStatuses}
use Rattle.mapfile_save.specs.Saving.{save_calls}
use Rattle.map_algebra.specs.Create.{created_map}
use Rattle.map_algebra.specs.Numbers.{list_limit, numbers_in}
use Rattle.program_promise.specs.Work.{Make, Works}
use Rattle.ddrescuelog_words.specs.declared.options.LogOptions.{LogOptions}
use Rattle.ddrescuelog_words.specs.Command.{Command}
use Rattle.ddrescuelog_cli.specs.declared.ending.LogEnding.{LogEnding}
use Rattle.ddrescuelog_cli.specs.declared.ending.LogEnding.TheVariants.{Done, Exists, ListTooLong, FeedFault, NoMemory}
use Rattle.ddrescuelog_cli.specs.Modes.{log_faults, OnlyAnswers}
use Rattle.ddrescuelog_cli.specs.Maps.{Found, Maps, found_in, AreMapsOf, AreAskedFor, shape_of}
use Rattle.ddrescuelog_cli.specs.Refusals.{MapIsThere, ListRefused}
use Rattle.ddrescuelog_cli.specs.Results.{ListEndsAt}
use Rattle.program_promise.specs.Parts.{only_calls}
use Rattle.ddrescuelog_cli.specs.Work.{SaysIfThere, UnlessThere, WorksOver, WorksAs}
use Rattle.ddrescuelog_cli.specs.Steps.{ReadCause}
use Rattle.ddrescuelog_cli.specs.After.{FeedLeft}

-- the answer of a part of the work: if it came to its end, that it is done
abbrev pub ended_as : {T : Type 0} → Result T LogEnding → LogEnding
ended_as (Ok x) = Done
ended_as (Err e) = e

-- ---- what is looked at before

-- no file is in the map's place, or it was forced, and nothing was asked
abbrev pub IsFree : (forced : Bool) → (name : List ℕ) → Option File → List Entry → Type 0
IsFree true name file calls = calls ≡ []
IsFree false name file calls =
    (answer : MapRead) × SaysIfThere file answer × (calls ≡ Returned (map_read name 0 piece_size (Some answer)) ∷ [])
    × ((v : LogEnding) → MapIsThere file v → ⊥)

-- the question whether a file is in the map's place, by its outcome
abbrev pub DidAsk : {T : Type 0} → (forced : Bool) → (name : List ℕ) → Option File → Result T LogEnding → List Entry
    → Type 0
DidAsk forced name file (Ok x) calls = IsFree forced name file calls
DidAsk forced name file (Err e) calls = UnlessThere forced name file (λ e d. ⊥) e (only_calls calls)

-- What the question for a file found and its calls are the site's own if it tells; and files read as they did.
pub record AsksIfThere {T : Type 0} (forced : Bool) (name : List ℕ) (result : Result T LogEnding)
    (old new : SiteState) : Type 0 where
  pub file : Option File
  pub calls : List Entry
  pub is_own : IsTrue old.tells → file ≡ files_in old name
  pub gained : IsTrue old.tells → new.calls ≡ old.calls ++ calls
  pub stands : IsTrue old.tells → files_in new ≡ files_in old
  pub did : DidAsk forced name file result calls

-- why the work stopped at what is checked: a file is there, or a read of a map stopped
abbrev pub LookCause : LogEnding → (faults faults' : ℕ) → Type 0
LookCause e faults faults' = ((e ≡ Exists) × (faults' ≡ faults)) ⊎ ReadCause e faults faults'

-- the work stopped with these calls, whatever the list and the maps are
abbrev pub StoppedEarly : Command → Found → LogEnding → List Entry → Type 0
StoppedEarly c found e calls =
    (line list : List ℕ) (m : Maps) → WorksAs true c line list found m e (only_calls calls)

-- the work came past these calls: what is done after them over maps is done by the whole work
abbrev pub CameOver : Command → Found → List Entry → Type 0
CameOver c found calls =
    (line list : List ℕ) (m : Maps) (e : LogEnding) (later : List Entry) → WorksOver c line list m e (only_calls later)
    → WorksAs true c line list found m e (only_calls (calls ++ later))

-- what is checked, by its outcome: the domain map was read, if one is named, or the work stopped
abbrev pub DidLook : Command → Found → Result (Option Tiled) LogEnding → List Entry → Type 0
DidLook c found (Ok tiles) calls =
    HasStatuses c.domain_map (map_mode c.options.loose) found.domain (statuses_in tiles) × CameOver c found calls
DidLook c found (Err e) calls = StoppedEarly c found e calls

-- There are files that were found, and calls, which are the site's own if it tells.
pub record Looks (c : Command) (result : Result (Option Tiled) LogEnding) (old new : SiteState) : Type 0 where
  pub found : Found
  pub calls : List Entry
  pub is_own : IsTrue old.tells → found ≡ found_in c (files_in old)
  pub gained : IsTrue old.tells → new.calls ≡ old.calls ++ calls
  pub did : DidLook c found result calls

-- ---- the list

-- A piece was taken onto the end of a list: it has bytes if the feed had some, and else nothing is left.
pub record TakesFeedPiece (some : Bool) (before now : List ℕ) (old new : FeedState) : Type 0 where
  pub piece : List ℕ
  pub grew : now ≡ before ++ piece
  pub keeps : FeedKeeps old new
  pub kept : new.faults ≡ old.faults
  pub taken : IsTrue old.tells → old.left ≡ piece ++ new.left
  pub more : some ≡ true → 0 < length piece
  pub ended : some ≡ false → (piece ≡ []) × (IsTrue old.tells → new.left ≡ [])

-- this many bytes were taken, and what is left comes after them
pub record TookBytes (bytes : List ℕ) (old new : FeedState) : Type 0 where
  pub keeps : FeedKeeps old new
  pub kept : new.faults ≡ old.faults
  pub taken : IsTrue old.tells → old.left ≡ bytes ++ new.left

-- these bytes are all that there were, and no more than a list may have
pub record TakesAll (bytes : List ℕ) (old new : FeedState) : Type 0 where
  pub has : TookBytes bytes old new
  pub all : IsTrue old.tells → new.left ≡ []
  pub short : length bytes ≤ list_limit

-- why a list wasn't taken
abbrev pub ListCause : LogEnding → (list : List ℕ) → Type 0
ListCause e list = (e ≡ NoMemory) ⊎ (e ≡ FeedFault) ⊎ ((e ≡ ListTooLong) × (list_limit < length list))

-- The list wasn't taken. There is a list all the same, which is the feed's own if it tells.
pub record StopsTaking (e : LogEnding) (old new : FeedState) : Type 0 where
  pub list : List ℕ
  pub is_own : IsTrue old.tells → list ≡ old.left
  pub why : ListCause e list
  pub after : FeedLeft e old new

-- ---- the map

-- statuses are those of the map of the blocks that a list has
pub record AreOfList (o : LogOptions) (listed rest : Status) (domain : Option (List Status)) (list : List ℕ)
    (statuses : List Status) : Type 0 where
  pub numbers : List ℕ
  pub read : numbers_in (shape_of o) list ≡ Ok numbers
  pub end : ℕ
  pub ends : ListEndsAt o.size o numbers end
  pub is : statuses ≡ created_map (shape_of o) numbers (in_map (whole_domain o.input_position o.size end) domain)
      listed rest end

-- the making of the map, by its outcome
abbrev pub DidMake : LogOptions → (listed rest : Status) → (domain : Option (List Status)) → Result Tiled LogEnding
    → (list : List ℕ) → Type 0
DidMake o listed rest domain (Ok tiles) list =
    AreOfList o listed rest domain list tiles.statuses × (length list ≤ list_limit)
DidMake o listed rest domain (Err e) list = (e ≡ NoMemory) ⊎ (e ≡ FeedFault) ⊎ ListRefused o list e

-- There is a list, which is the feed's own if it tells.
pub record MakesList (o : LogOptions) (listed rest : Status) (domain : Option (List Status))
    (result : Result Tiled LogEnding) (old new : FeedState) : Type 0 where
  pub list : List ℕ
  pub is_own : IsTrue old.tells → list ≡ old.left
  pub did : DidMake o listed rest domain result list

-- the save of a map: there are its calls, which are the site's own if it tells
pub record SavesText (names : MapNames) (text : List ℕ) (e : LogEnding) (old new : SiteState) : Type 0 where
  pub calls : List Entry
  pub gained : IsTrue old.tells → new.calls ≡ old.calls ++ calls
  pub did : Works log_faults (Make (save_calls names text) ∷ []) (OnlyAnswers Done) e (only_calls calls)

-- ---- all of it

-- The work stopped before its maps were read, whatever they are, or it went by maps, which are what the files are.
abbrev pub DidCreate : Command → (line list : List ℕ) → Found → LogEnding → List Entry → Type 0
DidCreate c line list found e calls =
    ((m : Maps) → WorksAs true c line list found m e (only_calls calls))
    ⊎ ((m : Maps) × AreMapsOf c found m × AreAskedFor c m × WorksAs true c line list found m e (only_calls calls))

-- There are files that were found, a list and calls, which are what files and feed tell, if they do.
pub record CreatesMap (c : Command) (line : List ℕ) (e : LogEnding) (site site' : SiteState) (feed : FeedState)
    : Type 0 where
  pub found : Found
  pub list : List ℕ
  pub calls : List Entry
  pub is_own : IsTrue site.tells → found ≡ found_in c (files_in site)
  pub is_feeds : IsTrue feed.tells → list ≡ feed.left
  pub gained : IsTrue site.tells → site'.calls ≡ site.calls ++ calls
  pub did : DidCreate c line list found e calls
