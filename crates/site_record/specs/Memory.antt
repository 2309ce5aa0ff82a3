-- The notes of a recorder in memory. For contracts and proofs: no promise uses it.
use Rattle.std.specs.Prelude.{true, List, [], map, Option, None, option_map}
use Rattle.crash_site.specs.Calls.{Call, image_open, image_read, image_write, image_sync, map_read, draft_begin, draft_append, draft_sync, draft_publish, map_settle, map_remove}
use Rattle.site_record.specs.declared.memory.Copied.{Copied}
use Rattle.site_record.specs.declared.memory.Copied.TheVariants.{ImageOpen, ImageRead, ImageWrite, ImageSync, MapRead, DraftBegin, DraftAppend, DraftSync, DraftPublish, MapSettle, MapRemove}
use Rattle.site_record.specs.declared.memory.Listed.{Listed}
use Rattle.site_record.specs.Record.{Note, Noted, note_of}

-- the call of which this is a copy
abbrev pub call_in : Copied → Call
call_in (ImageOpen name make) = image_open name.items make
call_in (ImageRead pos asked) = image_read pos asked None
call_in (ImageWrite pos piece) = image_write pos piece.items
call_in ImageSync = image_sync
call_in (MapRead name pos asked) = map_read name.items pos asked None
call_in (DraftBegin name) = draft_begin name.items
call_in (DraftAppend piece) = draft_append piece.items
call_in DraftSync = draft_sync
call_in (DraftPublish name) = draft_publish name.items
call_in (MapSettle name) = map_settle name.items
call_in (MapRemove name) = map_remove name.items

-- the note of a call that is listed
abbrev pub note_in : Listed → Note
note_in l = note_of (call_in l.call) l.ended l.made

abbrev pub notes_in : List Listed → List Note
notes_in listed = map note_in listed

-- what a recorder in memory tells
abbrev pub noted_of : List Listed → Option Copied → Noted
noted_of listed begun = record { tells = true; notes = notes_in listed; begun = option_map call_in begun }

-- no call ended, and none has begun
abbrev pub nothing_noted : Noted
nothing_noted = record { tells = true; notes = []; begun = None }
