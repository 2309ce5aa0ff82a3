-- What one look at a piece does, by what the objects tell. For contracts and proofs: no promise uses it.
use Rattle.std.specs.Prelude.{◌≡◌, ℕ, ◌+◌, ◌-◌, ◌^◌, ◌<◌, true, IsTrue, [], ◌∷◌, None, if◌then◌else◌}
use Rattle.faulty_source.specs.Journal.{Reading, is_whole, IsFrom}
use Rattle.faulty_source.specs.SourceChanges.{Reads, Loses}
use Rattle.crash_site.specs.declared.site.SiteCall.TheVariants.{ImageRead}
use Rattle.crash_site.specs.Calls.{image_read}
use Rattle.crash_site.specs.Files.{bytes_of}
use Rattle.crash_site.specs.SiteState.{image_in}
use Rattle.crash_site.specs.SiteChanges.{Makes, Breaks}
use Rattle.rescue_verify.specs.declared.halt.Halt.{Halt}
use Rattle.rescue_verify.specs.declared.halt.Halt.TheVariants.{NoMemory, SourceLost, ImageFault}
use Rattle.rescue_verify.specs.declared.look.LookResult.{LookResult}
use Rattle.rescue_verify.specs.declared.look.LookResult.TheVariants.{Unread, Same, Different}
use Rattle.rescue_verify.specs.declared.piece.Piece.{Piece}
use Rattle.rescue_verify.specs.Across.{Across}
use Rattle.rescue_verify.specs.Looks.{Look, differs, seen_at, look_call}

-- a piece isn't empty, and ends below 2^63, in the image too
pub record CanLook (piece : Piece) : Type 0 where
  pub some : piece.from < piece.to
  pub short : piece.to < 2 ^ 63
  pub placed : piece.place + (piece.to - piece.from) < 2 ^ 63

-- what a look found
abbrev pub seen_by : Look → LookResult
seen_by l = if is_whole l.read then (if differs l then Different else Same) else Unread

-- The piece from a position on, of `size` bytes, was read once, and if that was whole the image at a place. What each
-- of the two gave is what it has there.
pub record SeesPiece (pos size place : ℕ) (look : Look) (a : Across) : Type 0 where
  pub pos_is : look.read.pos ≡ pos
  pub size_is : look.read.asked ≡ size
  pub read : Reads (look.read ∷ []) a.source a.source'
  pub right : IsTrue a.source.tells → IsFrom a.source.bytes look.read
  pub made : Makes (look_call place look) a.site a.site'
  pub own : IsTrue a.site.tells → look ≡ seen_at (bytes_of (image_in a.site)) place look.read

-- Why a piece wasn't looked at: nothing was done, or the read was lost, or it was whole and the image's read failed.
abbrev pub HaltsLooking : Halt → (pos size place : ℕ) → Across → Type 0
HaltsLooking NoMemory pos size place a = (a.source' ≡ a.source) × (a.site' ≡ a.site)
HaltsLooking SourceLost pos size place a = Loses a.source a.source' × (a.site' ≡ a.site)
HaltsLooking ImageFault pos size place a =
    (r : Reading) × (r.pos ≡ pos) × (r.asked ≡ size) × (is_whole r ≡ true) × Reads (r ∷ []) a.source a.source'
    × Breaks ImageRead (image_read place size None ∷ []) a.site a.site'
    × (IsTrue a.source.tells → IsFrom a.source.bytes r)
