-- How a comparison goes over its pieces, and how far it comes.
use Rattle.std.specs.Prelude.{◌≡◌, ℕ, ◌+◌, ◌-◌, ◌^◌, ◌<◌, ◌≤◌, Bool, true, not, IsTrue, List, [], ◌∷◌, ◌++◌, length, map, All, None, Result, Ok, Err, if◌then◌else◌, vec_len}
use Rattle.size_suffixes.specs.Sectors.{largest_sector}
use Rattle.fault_count.specs.Counts.{Rose}
use Rattle.block_list.specs.declared.status.Status.{Status}
use Rattle.faulty_source.specs.Journal.{Reading, is_whole, IsFrom}
use Rattle.faulty_source.specs.SourceState.{SourceState}
use Rattle.crash_site.specs.Calls.{Entry, Done, image_read}
use Rattle.crash_site.specs.CallsMade.{Lost}
use Rattle.crash_site.specs.Files.{bytes_of}
use Rattle.crash_site.specs.SiteState.{SiteState, image_in}
use Rattle.rescue_domain.specs.Domain.{IsIn}
use Rattle.rescue_domain.specs.Parts.{covers}
use Rattle.rescue_domain.specs.Places.{AreAllPlaced, place_from}
use Rattle.rescue_verify.specs.declared.compare.Buffers.{Buffers}
use Rattle.rescue_verify.specs.declared.halt.Halt.{Halt}
use Rattle.rescue_verify.specs.declared.halt.Halt.TheVariants.{NoMemory, SourceLost, ImageFault}
use Rattle.rescue_verify.specs.declared.tally.Tally.{Tally}
use Rattle.rescue_verify.specs.declared.piece.Comparison.{Comparison as ComparisonCode}
use Rattle.rescue_verify.specs.declared.piece.Piece.{Piece}
use Rattle.rescue_verify.specs.Across.{Across}
use Rattle.rescue_verify.specs.Pieces.{IsPiece, NoneFrom, AskForPieces, end_of_reads}
use Rattle.rescue_verify.specs.Looks.{Look, reads_of, differs, seen_in, look_calls, compared_bytes, differing_bytes, unread_bytes}
use Rattle.rescue_verify.specs.Looking.{CanLook, SeesPiece}
use Rattle.rescue_verify.specs.Verified.{judged, judged_by}

-- What is compared, in sectors of this size, and where a position is in the image: `from` is at `to`.
pub record Comparison : Type 0 where
  pub compared : ℕ → Bool
  pub sector : ℕ
  pub from : ℕ
  pub to : ℕ

-- the place in the image of a position of the input
abbrev pub place_in : Comparison → ℕ → ℕ
place_in p x = place_from p.from p.to x

-- what is compared, as the code hands it on
abbrev pub comparison_by : ComparisonCode → Comparison
comparison_by c = record { compared = covers c.compared.now; sector = c.sector; from = c.from; to = c.to }

-- A comparison can be carried out: a sector has between 1 byte and 1 MiB, and each position that is compared is at
-- `from` or after it, and ends below 2^63, in the image too.
pub record IsSound (p : Comparison) : Type 0 where
  pub sector : 0 < p.sector
  pub small : p.sector ≤ largest_sector
  pub short : (x : ℕ) → IsIn p.compared x → x + 1 < 2 ^ 63
  pub past : (x : ℕ) → IsIn p.compared x → p.from ≤ x
  pub placed : AreAllPlaced p.compared p.from p.to

-- what looks count
abbrev pub tally_of : List Look → Tally
tally_of looks = record {
  compared = compared_bytes looks;
  differing = differing_bytes looks;
  unread = unread_bytes looks;
}

-- what one more look counts
abbrev pub tally_with : Tally → Look → Tally
tally_with t l = record {
  compared = t.compared + (if is_whole l.read then l.read.asked else 0);
  differing = t.differing + (if differs l then l.read.asked else 0);
  unread = t.unread + (if not (is_whole l.read) then l.read.asked else 0);
}

-- ---- a piece

-- a piece is the first one of a comparison from a position on, and has its place in the image
pub record IsNext (p : Comparison) (from : ℕ) (piece : Piece) : Type 0 where
  pub some : piece.from < piece.to
  pub few : piece.to ≤ piece.from + p.sector
  pub is_piece : IsPiece p.compared p.sector from piece.from piece.to
  pub place_is : piece.place ≡ place_in p piece.from

-- a piece can be looked at, and lies in the map
pub record CanTake (piece : Piece) (map : List Status) : Type 0 where
  pub looks : CanLook piece
  pub within : piece.to ≤ length map

-- no more bytes were counted than lie before a position, and those that differ are among those that were compared
pub record IsTallyUpTo (to : ℕ) (t : Tally) : Type 0 where
  pub counts : t.compared + t.unread ≤ to
  pub part : t.differing ≤ t.compared

-- each of the buffers has room for this many bytes
pub record HaveRoom (size : ℕ) (b : Buffers) : Type 0 where
  pub given : size ≤ vec_len b.given
  pub there : size ≤ vec_len b.there

-- each of the buffers is as long as it was
pub record AreAsLong (old new : Buffers) : Type 0 where
  pub given : vec_len new.given ≡ vec_len old.given
  pub there : vec_len new.there ≡ vec_len old.there

-- The piece was compared, counted, and marked in the map if it differs.
pub record TakesPiece (piece : Piece) (tally tally' : Tally) (old new : List Status) (a : Across)
    : Type 0 where
  pub look : Look
  pub sees : SeesPiece piece.from (piece.to - piece.from) piece.place look a
  pub counts : tally' ≡ tally_with tally look
  pub map_is : new ≡ judged old look

-- ---- all of it

-- Why a comparison stopped before a piece, or within it, and what it read of input and files meanwhile. Room in the map
-- ran out before the piece was read; its read was lost; or it was read whole, and the read of the image failed.
abbrev pub HaltsAt : Halt → Comparison → (from : ℕ) → List Reading → List Entry → Type 0
HaltsAt NoMemory p from reads calls = (reads ≡ []) × (calls ≡ [])
HaltsAt SourceLost p from reads calls =
    (pos end : ℕ) × IsPiece p.compared p.sector from pos end × (reads ≡ []) × (calls ≡ [])
HaltsAt ImageFault p from reads calls =
    (r : Reading) × IsPiece p.compared p.sector from r.pos (r.pos + r.asked) × (is_whole r ≡ true) × (reads ≡ r ∷ [])
    × Lost (image_read (place_in p r.pos) r.asked None) [] calls

-- A comparison came to the last piece, counted what it saw, and marked it in the map; or it stopped.
abbrev pub EndsComparing : Comparison → (old new : List Status) → Result Tally Halt → List Look → List Reading
    → List Entry
    → Type 0
EndsComparing p old new (Ok tally) looks reads calls =
    NoneFrom p.compared (end_of_reads 0 (reads_of looks)) × (new ≡ judged_by old looks) × (tally ≡ tally_of looks)
    × (reads ≡ []) × (calls ≡ [])
EndsComparing p old new (Err halt) looks reads calls = HaltsAt halt p (end_of_reads 0 (reads_of looks)) reads calls

-- A count rises by one if a read was lost or one of the image failed, and no other does.
abbrev pub LossesRise : Result Tally Halt → (source source' : SourceState) → (site site' : SiteState) → Type 0
LossesRise (Ok tally) source source' site site' = (source'.losses ≡ source.losses) × (site'.faults ≡ site.faults)
LossesRise (Err NoMemory) source source' site site' = (source'.losses ≡ source.losses) × (site'.faults ≡ site.faults)
LossesRise (Err SourceLost) source source' site site' = Rose source.losses source'.losses × (site'.faults ≡ site.faults)
LossesRise (Err ImageFault) source source' site site' = (source'.losses ≡ source.losses) × Rose site.faults site'.faults

-- Looks at the first pieces, in order: they are reads of the input and calls on the files, if these tell; and what each
-- of the two gave is what it has there.
pub record HasLooked (p : Comparison) (looks : List Look) (source source' : SourceState) (site site' : SiteState)
    : Type 0 where
  pub asks : AskForPieces p.compared p.sector 0 (reads_of looks)
  pub journal : IsTrue source.tells → source'.journal ≡ source.journal ++ reads_of looks
  pub right : IsTrue source.tells → All (IsFrom source.bytes) (reads_of looks)
  pub record_ : IsTrue site.tells → site'.calls ≡ site.calls ++ map Done (look_calls (place_in p) looks)
  pub seen : IsTrue site.tells
      → looks ≡ map (seen_in (bytes_of (image_in site)) (place_in p)) (reads_of looks)

-- What a comparison did, by its outcome: looks at the first pieces, in order, and what came after them.
pub record Compares (p : Comparison) (old new : List Status) (result : Result Tally Halt) (a : Across)
    : Type 0 where
  pub looks : List Look
  pub reads : List Reading
  pub calls : List Entry
  pub asks : AskForPieces p.compared p.sector 0 (reads_of looks)
  pub ends : EndsComparing p old new result looks reads calls
  pub journal : IsTrue a.source.tells → a.source'.journal ≡ a.source.journal ++ (reads_of looks ++ reads)
  pub right : IsTrue a.source.tells → All (IsFrom a.source.bytes) (reads_of looks ++ reads)
  pub record_ : IsTrue a.site.tells
      → a.site'.calls ≡ a.site.calls ++ (map Done (look_calls (place_in p) looks) ++ calls)
  pub seen : IsTrue a.site.tells
      → looks ≡ map (seen_in (bytes_of (image_in a.site)) (place_in p)) (reads_of looks)
