-- What a recorder tells of the calls of a site.
use Rattle.std.specs.Prelude.{ℕ, Bool, true, false, List, Option, Some, None}
use Rattle.crash_site.specs.declared.site.MapRead.{MapRead}
use Rattle.crash_site.specs.Calls.{Call, image_open, image_read, image_write, image_sync, map_read, draft_begin, draft_append, draft_sync, draft_publish, map_settle, map_remove}
use Rattle.site_record.specs.declared.recorder.Asked.{Asked}
use Rattle.site_record.specs.declared.recorder.Asked.TheVariants.{ImageOpen, ImageRead, ImageWrite, ImageSync, MapRead as MapReadAt, DraftBegin, DraftAppend, DraftSync, DraftPublish, MapSettle, MapRemove}
use Rattle.site_record.specs.declared.recorder.Ended.{Ended}
use Rattle.site_record.specs.declared.recorder.Ended.TheVariants.{Done, Gave, Found, Failed}

-- a call of a site that ended: what it was, whether it returned Ok, and how many calls of the kernel it made
pub record Note : Type 0 where
  pub call : Call
  pub ok : Bool
  pub made : ℕ

-- Whether a recorder tells, and then the calls that ended, in order, and the one that has begun.
pub record Noted : Type 0 where
  pub tells : Bool
  pub notes : List Note
  pub begun : Option Call

-- a call that begins: a read has no answer yet
abbrev pub call_of : Asked → Call
call_of (ImageOpen name make) = image_open name.now make
call_of (ImageRead pos asked) = image_read pos asked None
call_of (ImageWrite pos piece) = image_write pos piece.now
call_of ImageSync = image_sync
call_of (MapReadAt name pos asked) = map_read name.now pos asked None
call_of (DraftBegin name) = draft_begin name.now
call_of (DraftAppend piece) = draft_append piece.now
call_of DraftSync = draft_sync
call_of (DraftPublish name) = draft_publish name.now
call_of (MapSettle name) = map_settle name.now
call_of (MapRemove name) = map_remove name.now

-- a read with its answer, once it has one
abbrev pub answered : Call → Ended → Call
answered (image_read pos asked answer) (Gave n) = image_read pos asked (Some n)
answered (map_read name pos asked answer) (Found read) = map_read name pos asked (Some read)
answered call ended = call

-- whether a call returned Ok
abbrev pub is_well : Ended → Bool
is_well Failed = false
is_well ended = true

-- the note of a call that ended so, after this many calls of the kernel
abbrev pub note_of : Call → Ended → ℕ → Note
note_of call ended made = record { call = answered call ended; ok = is_well ended; made = made }
