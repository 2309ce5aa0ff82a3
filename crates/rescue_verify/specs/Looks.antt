-- What a comparison sees of each piece, and how many bytes it counts.
use Rattle.std.specs.Prelude.{ℕ, ◌+◌, Bool, ◌&&◌, not, List, [], ◌∷◌, ◌++◌, map, length, sum_by, slice_range, if◌then◌else◌, Some}
use Rattle.std.specs.Str.{bytes_eq}
use Rattle.faulty_source.specs.Journal.{Reading, is_whole}
use Rattle.crash_site.specs.Calls.{Call, image_read}

-- A look at a piece: its read of the input, and what the image gave at its place. The image is read only if the input
-- gave the whole piece; else it gave nothing.
pub record Look : Type 0 where
  pub read : Reading
  pub there : List ℕ

-- the reads of looks
abbrev pub reads_of : List Look → List Reading
reads_of looks = map (λ l. l.read) looks

-- The piece was read whole, and the image has something else at its place, or ends before the piece's end.
abbrev pub differs : Look → Bool
differs l = is_whole l.read && not (bytes_eq l.read.given l.there)

-- what an image has for a read, at a place; one that wasn't whole is compared with nothing
abbrev pub seen_at : (image : List ℕ) → (at : ℕ) → Reading → Look
seen_at image at r = record { read = r; there = if is_whole r then slice_range image at (at + r.asked) else [] }

-- what an image has for a read, by the place of its first byte
abbrev pub seen_in : (image : List ℕ) → (place : ℕ → ℕ) → Reading → Look
seen_in image place r = seen_at image (place r.pos) r

-- the call on the files that a look makes, at a place: a read of the image, if the input gave the whole piece
abbrev pub look_call : (at : ℕ) → Look → List Call
look_call at l = if is_whole l.read then image_read at l.read.asked (Some (length l.there)) ∷ [] else []

-- the calls of looks, one after the other
abbrev pub look_calls : (place : ℕ → ℕ) → List Look → List Call
look_calls place [] = []
look_calls place (l ∷ looks) = look_call (place l.read.pos) l ++ look_calls place looks

-- the bytes of the pieces of which this holds
abbrev pub bytes_where : (Look → Bool) → List Look → ℕ
bytes_where holds looks = sum_by (λ l. if holds l then l.read.asked else 0) looks

-- how many bytes were compared
abbrev pub compared_bytes : List Look → ℕ
compared_bytes looks = bytes_where (λ l. is_whole l.read) looks

-- how many of the compared bytes became `?`
abbrev pub differing_bytes : List Look → ℕ
differing_bytes looks = bytes_where differs looks

-- how many bytes are in pieces that couldn't be read whole
abbrev pub unread_bytes : List Look → ℕ
unread_bytes looks = bytes_where (λ l. not (is_whole l.read)) looks
