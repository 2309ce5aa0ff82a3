-- What an open and a read of a file may answer.
use Rattle.std.specs.Prelude.{◌≡◌, ⊤, ℕ, ◌+◌, ◌-◌, ◌≤◌, min, Bool, true, false, List, length, take, slice_range, Option, Some, None, if◌then◌else◌}
use Rattle.crash_site.specs.declared.site.ImageKind.{ImageKind}
use Rattle.crash_site.specs.declared.site.ImageKind.TheVariants.{Regular, Other, Absent as NoImage}
use Rattle.crash_site.specs.declared.site.MapRead.{MapRead}
use Rattle.crash_site.specs.declared.site.MapRead.TheVariants.{Bytes, Absent as NoMap}
use Rattle.crash_site.specs.Files.{File, bytes_of}

-- what an open answers of a file: an absent one is made if that is asked
abbrev pub kind_of : Option File → Bool → ImageKind
kind_of None make = if make then Regular else NoImage
kind_of (Some f) make = if f.regular then Regular else Other

-- an open answered that there is no file
abbrev pub is_absent : ImageKind → Bool
is_absent Regular = false
is_absent Other = false
is_absent NoImage = true

-- a read gives no more bytes than it was asked for
abbrev pub IsWithin : MapRead → ℕ → Type 0
IsWithin (Bytes n) asked = n ≤ asked
IsWithin NoMap asked = ⊤

-- what a read of a file at a place may answer: bytes that are there, and none only at its end or past it
abbrev pub IsRead : Option File → ℕ → List ℕ → MapRead → Type 0
IsRead None pos buf NoMap = ⊤
IsRead None pos buf (Bytes n) = ⊥
IsRead (Some f) pos buf NoMap = ⊥
IsRead (Some f) pos buf (Bytes n) = (take n buf ≡ slice_range f.bytes pos (pos + n)) × (n ≡ 0 → length f.bytes ≤ pos)

-- a read of an image gives all bytes from a place on, up to the buffer's or the image's end
pub record IsImageRead (image : Option File) (pos : ℕ) (buf : List ℕ) (n : ℕ) : Type 0 where
  pub count : n ≡ min (length buf) (length (bytes_of image) - pos)
  pub bytes : take n buf ≡ slice_range (bytes_of image) pos (pos + n)
