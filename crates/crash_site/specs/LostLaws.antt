-- What is known of an image that lost ranges by failed writes or syncs.
use Rattle.std.specs.Prelude.{◌≡◌, ◌⊎◌, ⊤, ℕ, ◌+◌, ◌<◌, ◌≤◌, true, false, List, [], ◌∷◌, ◌++◌, length, All, slice_index_or, Option, Some, if◌then◌else◌}
use Rattle.std.specs.Str.{bytes_eq}
use Rattle.crash_site.specs.Files.{File, bytes_of, draft_of, put, written_file}
use Rattle.crash_site.specs.Calls.{Call, Entry, Done, Failed, image_open, image_write, image_sync, draft_begin, draft_append, map_settle}
use Rattle.crash_site.specs.Folder.{Folder, after_done, after_entry, after}
use Rattle.crash_site.specs.Disk.{Disk, only, lost_in, at_rest, disk_after}
use Rattle.crash_site.specs.Left.{Matches, NothingLost, MayShow, Leaves, MayBeLeft, until}
use Rattle.crash_site.specs.CallsMade.{AllDone}
use Rattle.crash_site.specs.Changes.{Changes, call_in, Spares}
use Rattle.crash_site.specs.Laws.{settles}

-- a call of a run on the open image: it reads, writes or syncs the image, or changes and settles other files
abbrev pub IsCallOn : List ℕ → Folder → Call → Type 0
IsCallOn image d (image_open name make) = ⊥
IsCallOn image d (image_write pos piece) = ⊤
IsCallOn image d (map_settle name) = (image ≡ name → ⊥) × (image ≡ draft_of name → ⊥)
IsCallOn image d call = Changes d call image → ⊥

-- calls of a run on the open image, which ends at the first that failed
abbrev pub RunsOn : List ℕ → Folder → List Entry → Type 0
RunsOn image d [] = ⊤
RunsOn image d (Done call ∷ es) = IsCallOn image d call × RunsOn image (after_done d call) es
RunsOn image d (Failed call steps ∷ es) = IsCallOn image d call × (es ≡ [])

-- a disk with another file as the image, durable as it reads
abbrev pub with_image : List ℕ → File → Disk → Disk
with_image image file d = record {
  reads = record { files = put d.reads.files image (Some file); image = d.reads.image; draft = d.reads.draft };
  shows = λ n. if bytes_eq n image then only (Some file) else d.shows n;
  firm = d.firm;
}

-- After an image sync that returned, a run that ends at its first failed call may leave only what it may leave if the
-- image had held at first, and durably, another file. A stop before the run could have left that file, and it differs
-- from what reads at most in the lost ranges.
abbrev pub LostIsResolvedAfter : Type 0
LostIsResolvedAfter =
    (start : Folder) (before calls : List Entry) (image : List ℕ) (file : File) (k : ℕ) (found : List ℕ → Option File)
    → (after start before).image ≡ Some image
    → (after start before).files image ≡ Some file
    → RunsOn image (after start before) calls
    → MayBeLeft start (before ++ Done image_sync ∷ calls) (length before + (1 + k)) found
    → (was : File)
    × Matches file (lost_in ((disk_after (at_rest start) before).shows image)) was
    × MayShow ((disk_after (at_rest start) before).shows image) (Some was)
    × Leaves (disk_after (with_image image was (disk_after (at_rest start) (before ++ Done image_sync ∷ [])))
    (until k calls))
    found

-- a call that loses nothing: it is no failed write and no failed sync of an image
abbrev pub LosesNone : Entry → Type 0
LosesNone (Failed (image_write pos piece) steps) = ⊥
LosesNone (Failed image_sync steps) = ⊥
LosesNone entry = ⊤

-- Without a failed write or sync of an image nothing is lost under any name.
abbrev pub NothingIsLost : Type 0
NothingIsLost = (start : Folder) (calls : List Entry) (name : List ℕ) → All LosesNone calls
    → lost_in ((disk_after (at_rest start) calls).shows name) ≡ []

-- After an image sync that returned Ok, and no write since, an image of which nothing was lost is found as it reads.
abbrev pub WholeImageIsFound : Type 0
WholeImageIsFound =
    (start : Folder) (before since : List Entry) (image : List ℕ) (k : ℕ) (found : List ℕ → Option File)
    → (after start before).image ≡ Some image
    → NothingLost ((after start before).files image) (lost_in ((disk_after (at_rest start) before).shows image))
    → Spares image (after start before) since
    → length before < k
    → MayBeLeft start (before ++ Done image_sync ∷ since) k found
    → found image ≡ (after start before).files image

-- a call that leaves a place of an image as it is: it writes elsewhere, opens or syncs an image, or changes and settles
-- other files
abbrev pub SparesPlace : List ℕ → ℕ → Folder → Call → Type 0
SparesPlace image x d (image_open name make) = ⊤
SparesPlace image x d (image_write pos piece) = d.image ≡ Some image → (x < pos) ⊎ (pos + length piece ≤ x)
SparesPlace image x d (map_settle name) = (image ≡ name → ⊥) × (image ≡ draft_of name → ⊥)
SparesPlace image x d call = Changes d call image → ⊥

-- these calls, done or failed, leave a place of an image as it is
abbrev pub SparePlace : List ℕ → ℕ → Folder → List Entry → Type 0
SparePlace image x d [] = ⊤
SparePlace image x d (e ∷ es) = SparesPlace image x d (call_in e) × SparePlace image x (after_entry d e) es

-- none of these calls is a sync of the image that returned
abbrev pub NoneSyncs : List ℕ → Folder → List Entry → Type 0
NoneSyncs image d [] = ⊤
NoneSyncs image d (e ∷ es) = (e ≡ Done image_sync → d.image ≡ Some image → ⊥) × NoneSyncs image (after_entry d e) es

-- These calls lose place x of a piece of the image: its write fails, or its write returns and a sync fails before one
-- returns. Calls between the two leave the place as it is, and may write elsewhere.
abbrev pub LosesPiece : List ℕ → (pos : ℕ) → (piece : List ℕ) → (x : ℕ) → Folder → List Entry → Type 0
LosesPiece image pos piece x d calls = (steps : ℕ) × ((calls ≡ Failed (image_write pos piece) steps ∷ [])
    ⊎ ((between : List Entry)
    × SparePlace image x (after_done d (image_write pos piece)) between
    × NoneSyncs image (after_done d (image_write pos piece)) between
    × ((after d (Done (image_write pos piece) ∷ between)).image ≡ Some image)
    × (calls ≡ Done (image_write pos piece) ∷ (between ++ Failed image_sync steps ∷ []))))

-- files with another byte at a place of one
abbrev pub with_byte : List ℕ → (x byte : ℕ) → (List ℕ → Option File) → List ℕ → Option File
with_byte name x byte files = put files name (Some (written_file (files name) x (byte ∷ [])))

-- A place of the image that was lost may be found with any byte, after any number of syncs and of writes elsewhere.
abbrev pub LostStays : Type 0
LostStays =
    (start : Folder) (before lost since : List Entry) (image : List ℕ) (pos : ℕ) (piece : List ℕ) (x byte : ℕ)
    → (after start before).image ≡ Some image
    → LosesPiece image pos piece x (after start before) lost
    → pos ≤ x → x < pos + length piece
    → x < length (bytes_of ((after start (before ++ lost)).files image))
    → SparePlace image x (after start (before ++ lost)) since
    → MayBeLeft start ((before ++ lost) ++ since) (length ((before ++ lost) ++ since))
    (with_byte image x byte (after start ((before ++ lost) ++ since)).files)

-- A place of the image that is written and then synced, by calls that returned, is found as it reads, whatever was lost
-- before. A run on the image may lie between the two calls, and calls that don't change the image may follow.
abbrev pub RewrittenIsFound : Type 0
RewrittenIsFound =
    (start : Folder) (before between since : List Entry) (image : List ℕ) (pos : ℕ) (piece : List ℕ) (x k : ℕ)
    (found : List ℕ → Option File)
    → (after start before).image ≡ Some image
    → pos ≤ x → x < pos + length piece
    → AllDone between
    → RunsOn image (after start (before ++ Done (image_write pos piece) ∷ [])) between
    → Spares image (after start (before ++ Done (image_write pos piece) ∷ between)) since
    → length (before ++ Done (image_write pos piece) ∷ between) < k
    → MayBeLeft start ((before ++ Done (image_write pos piece) ∷ between) ++ Done image_sync ∷ since) k found
    → slice_index_or (bytes_of (found image)) x 0
    ≡ slice_index_or (bytes_of ((after start (before ++ Done (image_write pos piece) ∷ between)).files image)) x 0

-- an image is opened and written, its sync fails and is tried again, and a map is published and settled
abbrev pub retried : (image draft name : List ℕ) → (pos : ℕ) → (piece text : List ℕ) → List Entry
retried image draft name pos piece text =
    Done (image_open image true) ∷ Done (image_write pos piece) ∷ Failed image_sync 0 ∷ Done image_sync
    ∷ Done (draft_begin draft) ∷ Done (draft_append text) ∷ settles name

-- By `retried`, a map whose name isn't the image's may be found beside an image with any other piece in place of what
-- was written.
abbrev pub RetriedSyncMayLose : Type 0
RetriedSyncMayLose = (start : Folder) (image draft name : List ℕ) (pos : ℕ) (piece other text : List ℕ)
    → (image ≡ name → ⊥) → length other ≡ length piece
    → (found : List ℕ → Option File)
    × MayBeLeft start (retried image draft name pos piece text) 9 found
    × (found image ≡ Some (written_file (start.files image) pos other))
    × (found name ≡ (after start (retried image draft name pos piece text)).files name)

-- An image is opened and written, and the process killed. Then what it wrote can't be stored, which is told to nobody,
-- and the next run syncs the image.
abbrev pub silent : (image : List ℕ) → (pos : ℕ) → (piece : List ℕ) → List Entry
silent image pos piece =
    Done (image_open image true) ∷ Done (image_write pos piece) ∷ Done (image_open image false) ∷ Failed image_sync 0
    ∷ Done (image_open image false) ∷ Done image_sync ∷ []

-- By `silent`, the range that was written is lost: the image may be found with any other piece in its place.
abbrev pub SilentErrorLoses : Type 0
SilentErrorLoses = (start : Folder) (image : List ℕ) (pos : ℕ) (piece : List ℕ)
    → (lost_in ((disk_after (at_rest start) (silent image pos piece)).shows image) ≡ (pos, length piece) ∷ [])
    × ((other : List ℕ) → length other ≡ length piece
    → MayBeLeft start (silent image pos piece) 6
    (put start.files image (Some (written_file (start.files image) pos other))))
