-- The record that a log of calls in memory stands for. For contracts and proofs: no promise uses it.
use Rattle.std.specs.Prelude.{◌≡◌, ◌⊎◌, ⊤, ℕ, List, [], ◌∷◌, ◌++◌, map, Option, Some, None}
use Rattle.memory_site.specs.declared.memory.call_log.Act.{Act}
use Rattle.memory_site.specs.declared.memory.call_log.Act.TheVariants.{ImageOpen, ImageRead, ImageWrite, ImageSync, MapRead, DraftBegin, DraftAppend, DraftSync, DraftPublish, MapSettle, MapRemove}
use Rattle.memory_site.specs.declared.memory.call_log.LoggedCall.{LoggedCall}
use Rattle.memory_site.specs.declared.memory.call_log.CallLog.{CallLog}
use Rattle.crash_site.specs.Calls.{Call, Entry, Done, Failed, image_open, image_read, image_write, image_sync, map_read, draft_begin, draft_append, draft_sync, draft_publish, map_settle, map_remove}
use Rattle.crash_site.specs.CallsMade.{unanswered}
use Rattle.crash_site.specs.Folder.{Folder, after_failed}

-- the call that an act stands for
abbrev pub call_of : Act → Call
call_of (ImageOpen name make) = image_open name.items make
call_of (ImageRead pos asked given) = image_read pos asked (Some given)
call_of (ImageWrite pos piece) = image_write pos piece.items
call_of ImageSync = image_sync
call_of (MapRead name pos asked answer) = map_read name.items pos asked (Some answer)
call_of (DraftBegin name) = draft_begin name.items
call_of (DraftAppend piece) = draft_append piece.items
call_of DraftSync = draft_sync
call_of (DraftPublish name) = draft_publish name.items
call_of (MapSettle name) = map_settle name.items
call_of (MapRemove name) = map_remove name.items

-- the entry of a call: it was done, or it failed after some steps and has no answer
abbrev pub entry_as : (failed : Option ℕ) → Call → Entry
entry_as None call = Done call
entry_as (Some steps) call = Failed (unanswered call) steps

-- the entry that a logged call stands for
abbrev pub entry_of : LoggedCall → Entry
entry_of l = entry_as l.failed (call_of l.act)

-- The record and the files after a call that failed in memory: the call is listed, with the steps that it made, or
-- nothing happened for lack of memory.
abbrev pub Missed : Call → (old new : List Entry) → (before now : Folder) → Type 0
Missed call old new before now =
    ((steps : ℕ) × (new ≡ old ++ Failed (unanswered call) steps ∷ []) × (now ≡ after_failed before call steps))
    ⊎ ((new ≡ old) × (now ≡ before))

-- a call that closes the image or ends the draft if it fails finds none open, or none begun
abbrev pub IsClosed : Folder → Call → Type 0
IsClosed d (image_open name make) = d.image ≡ None
IsClosed d (draft_begin name) = d.draft ≡ None
IsClosed d (draft_publish name) = d.draft ≡ None
IsClosed d call = ⊤

-- the record that a log holds
abbrev pub entries_of : CallLog → List Entry
entries_of log = map entry_of log.listed.items
