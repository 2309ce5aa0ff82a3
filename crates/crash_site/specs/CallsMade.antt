-- How a record of calls grows: by calls that returned, and by one that failed.
use Rattle.std.specs.Prelude.{ℕ, ◌≡◌, ◌⊎◌, ⊤, List, [], ◌∷◌, ◌++◌, map, All, None}
use Rattle.crash_site.specs.declared.site.SiteCall.{SiteCall}
use Rattle.crash_site.specs.declared.site.SiteCall.TheVariants.{ImageOpen, ImageRead, ImageWrite, ImageSync, MapRead as MapReadName, DraftBegin, DraftAppend, DraftSync, DraftPublish, MapSettle, MapRemove}
use Rattle.crash_site.specs.Calls.{Call, image_open, image_read, image_write, image_sync, map_read, draft_begin, draft_append, draft_sync, draft_publish, map_settle, map_remove, Entry, Done, Failed}

-- the call without an answer
abbrev pub unanswered : Call → Call
unanswered (image_read pos asked answer) = image_read pos asked None
unanswered (map_read name pos asked answer) = map_read name pos asked None
unanswered call = call

-- a call that returned Ok
abbrev pub IsDone : Entry → Type 0
IsDone (Done call) = ⊤
IsDone (Failed call steps) = ⊥

-- all calls of a record returned Ok
abbrev pub AllDone : List Entry → Type 0
AllDone calls = All IsDone calls

-- The record after a call that failed: the call is listed, with the steps that it made, or nothing happened for lack of
-- memory.
abbrev pub Lost : Call → List Entry → List Entry → Type 0
Lost call old new = ((steps : ℕ) × (new ≡ old ++ Failed call steps ∷ [])) ⊎ (new ≡ old)

-- the record grew by these calls, which all returned Ok
abbrev pub Made : List Call → List Entry → List Entry → Type 0
Made calls old new = new ≡ old ++ map Done calls

-- the name of a call
abbrev pub call_name : Call → SiteCall
call_name (image_open name make) = ImageOpen
call_name (image_read pos asked answer) = ImageRead
call_name (image_write pos piece) = ImageWrite
call_name image_sync = ImageSync
call_name (map_read name pos asked answer) = MapReadName
call_name (draft_begin name) = DraftBegin
call_name (draft_append piece) = DraftAppend
call_name draft_sync = DraftSync
call_name (draft_publish name) = DraftPublish
call_name (map_settle name) = MapSettle
call_name (map_remove name) = MapRemove

-- the record grew by these calls up to one that failed, which has this name
abbrev pub BrokeAt : SiteCall → List Call → List Entry → List Entry → Type 0
BrokeAt at [] old new = ⊥
BrokeAt at (call ∷ calls) old new =
    ((at ≡ call_name call) × Lost call old new) ⊎ BrokeAt at calls (old ++ Done call ∷ []) new
