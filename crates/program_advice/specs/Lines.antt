-- The line of a cause. For contracts and proofs: no promise uses it.
use Rattle.std.specs.Prelude.{ℕ, Bool, true, false, List, [], ◌∷◌, ◌++◌, ◌≡◌, ◌≤◌, All, length, take, map, codes, nat_le, nat_eq, if◌then◌else◌}
use Rattle.std.specs.Fmt.{decimal}
use Rattle.mapfile_text.specs.Printed.{shown_byte}
use Rattle.program_advice.specs.declared.cause.Named.{Named}
use Rattle.program_advice.specs.declared.cause.LimitOption.{LimitOption}
use Rattle.program_advice.specs.declared.cause.LimitOption.TheVariants.{ReadErrors, BadAreas, Timeout}
use Rattle.program_advice.specs.declared.cause.UsedBy.{UsedBy}
use Rattle.program_advice.specs.declared.cause.UsedBy.TheVariants.{Mount, Swap, Device}
use Rattle.program_advice.specs.declared.cause.Cause.{Cause}
use Rattle.program_advice.specs.declared.cause.Cause.TheVariants.{Refused, Unsaved, Full, File, DeviceInUse, BadLine, LargeMap, OneName, Limit, Stream, Argument, Usage, Left, Cached, Hint}
use Rattle.program_advice.specs.Texts.{doing_text, fact_text, hint_text, left_text, option_text, role_text, stream_text}

-- a text, or `most` bytes of it and two dots
abbrev pub cut : ℕ → List ℕ → List ℕ
cut most text = if nat_le (length text) most then text else take most text ++ codes ".."

-- a name of the command line, as a line has it
abbrev pub quoted : List ℕ → List ℕ
quoted name = codes "'" ++ cut 150 name ++ codes "'"

-- a file, as a line has it
abbrev pub named_text : Named → List ℕ
named_text file = role_text file.role ++ codes " " ++ quoted file.name.now

-- the name of a device, as a line has it
abbrev pub device_text : List ℕ → List ℕ
device_text name = codes "'" ++ cut 60 name ++ codes "'"

-- what uses a device
abbrev pub use_text : List ℕ → UsedBy → List ℕ
use_text device (Mount folder) = device_text device ++ codes " is mounted at " ++ quoted folder.now
use_text device Swap = device_text device ++ codes " is swap space"
use_text device (Device name) = device_text name.now ++ codes " is made of " ++ device_text device

-- the advice after a limit that this option set
abbrev pub resuming_text : LimitOption → Bool → List ℕ
resuming_text option false = []
resuming_text ReadErrors true = codes "; the same command (without -A and -M) resumes the rescue"
resuming_text BadAreas true = codes "; the same command (without -A and -M) resumes the rescue"
resuming_text Timeout true = codes "; let the disk rest, then resume past this place (-i)"

-- the advice after a file system was full
abbrev pub room_text : Bool → List ℕ
room_text false = []
room_text true = codes ", which continues from the last saved map, if there is one"

-- the advice on a mapfile that couldn't be saved
abbrev pub unsaved_text : (name reason : List ℕ) → List ℕ
unsaved_text name reason = codes "cannot save " ++ quoted name ++ codes ": " ++ cut 60 reason

-- the advice on a line that shows that a file's text is no map
abbrev pub bad_line_text : Named → List ℕ → List ℕ
bad_line_text file line = named_text file ++ codes " isn't a mapfile, or it was damaged: that line is '" ++ cut 80 line
    ++ codes "'"

-- the advice on lack of memory for the map of a file
abbrev pub large_map_text : Named → ℕ → List ℕ
large_map_text file bytes = codes "memory is short, and " ++ named_text file ++ codes " has " ++ decimal bytes
    ++ codes " B: end other programs and give the same command"

-- the advice on reads past the kernel's cache that weren't possible
abbrev pub cached_text : ℕ → List ℕ
cached_text reads = if nat_eq reads 1
    then codes "1 read wasn't possible past the kernel's cache, and was made through it"
    else decimal reads ++ codes " reads weren't possible past the kernel's cache, and were made through it"

-- the advice on a cause
abbrev pub cause_text : Cause → List ℕ
cause_text (Refused doing file reason) = doing_text doing ++ named_text file ++ codes ": " ++ cut 60 reason.now
cause_text (Unsaved name reason) = unsaved_text name.now reason.now
cause_text (Full file resumes) = codes "no space left for " ++ named_text file
    ++ codes ": make room and give the same command" ++ room_text resumes
cause_text (File file fact) = named_text file ++ fact_text fact
cause_text (DeviceInUse file device by) = named_text file ++ codes " is in use: " ++ use_text device.now by
cause_text (BadLine file line) = bad_line_text file line.now
cause_text (LargeMap file bytes) = large_map_text file bytes
cause_text (OneName first second name) = role_text first ++ codes " and " ++ role_text second ++ codes " are both "
    ++ quoted name.now
cause_text (Limit option resumes) = option_text option ++ resuming_text option resumes
cause_text (Stream stream reason) = stream_text stream ++ cut 60 reason.now
cause_text (Argument word wanted) = quoted word.now ++ codes " isn't " ++ cut 150 wanted.now
cause_text (Usage usage) = codes "usage: " ++ cut 150 usage.now
cause_text (Left bytes skips loses_neighbors) = decimal bytes ++ left_text skips loses_neighbors
cause_text (Cached reads) = cached_text reads
cause_text (Hint hint) = hint_text hint

-- the line of a cause: the program's name, the advice, each control character as a question mark, and a newline
abbrev pub line_text : List ℕ → Cause → List ℕ
line_text program cause = map shown_byte (program ++ codes ": " ++ cause_text cause) ++ 10 ∷ []

-- a text is one line of at most 512 bytes without any control character before its newline
pub record IsOneLine (text : List ℕ) : Type 0 where
  pub front : List ℕ
  pub ended : text ≡ front ++ 10 ∷ []
  pub controls : All (λ b. 32 ≤ b) front
  pub deletes : All (λ b. nat_eq b 127 ≡ false) front
  pub short : length text ≤ 512
