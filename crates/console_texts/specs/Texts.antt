-- What the programs say of a fault on the console.
use Rattle.std.specs.Prelude.{ℕ, List, [], ◌++◌, ◌∷◌, codes}
use Rattle.std.specs.Fmt.{decimal}
use Rattle.mapfile_text.specs.declared.read.MapError.{MapError}
use Rattle.mapfile_text.specs.declared.read.MapError.TheVariants.{NoStatusLine, BadStatusLine, BadBlockLine, Gap, Overlap, TooLarge, TooLong, NoMemory as MapNoMemory}
use Rattle.crash_site.specs.declared.site.SiteCall.{SiteCall}
use Rattle.crash_site.specs.declared.site.SiteCall.TheVariants.{ImageOpen, ImageRead, ImageWrite, ImageSync, MapRead, DraftBegin, DraftAppend, DraftSync, DraftPublish, MapSettle, MapRemove}
use Rattle.option_words.specs.declared.fault.WordFault.{WordFault}
use Rattle.option_words.specs.declared.fault.WordFault.TheVariants.{UnknownShort, UnknownLong, Ambiguous, MissingValue, UnwantedValue, NoMemory as WordNoMemory}
use Rattle.option_words.specs.declared.fault.UsageFault.{UsageFault}
use Rattle.option_words.specs.declared.fault.UsageFault.TheVariants.{Word, BadValue, Conflict, Modes, Operands, PlaceTooLarge}

-- a number after a word, and a text on it
abbrev pub numbered_text : List ℕ → ℕ → List ℕ → List ℕ
numbered_text what n says = what ++ decimal n ++ says

-- the text on a word
abbrev pub at_word : ℕ → List ℕ → List ℕ
at_word n says = numbered_text (codes "word ") n (codes ": " ++ says)

-- the text on a line
abbrev pub at_line : ℕ → List ℕ → List ℕ
at_line n says = numbered_text (codes "line ") n (codes ": " ++ says)

-- why words can't be read
abbrev pub word_fault_text : WordFault → List ℕ
word_fault_text (UnknownShort word letter) = at_word word (codes "unknown option letter")
word_fault_text (UnknownLong word) = at_word word (codes "unknown option name")
word_fault_text (Ambiguous word) = at_word word (codes "ambiguous option name")
word_fault_text (MissingValue word) = at_word word (codes "value missing")
word_fault_text (UnwantedValue word) = at_word word (codes "value not allowed")
word_fault_text WordNoMemory = codes "out of memory"

-- why words ask for nothing that can be done
abbrev pub usage_text : UsageFault → List ℕ
usage_text (Word fault) = word_fault_text fault
usage_text (BadValue word) = at_word word (codes "bad value")
usage_text (Conflict word) = at_word word (codes "not with the other options")
usage_text (Modes given) = numbered_text (codes "modes given: ") given []
usage_text (Operands given) = numbered_text (codes "operands given: ") given []
usage_text PlaceTooLarge = codes "output place too large"

-- what is wrong with the text of a mapfile
abbrev pub error_text : MapError → List ℕ
error_text NoStatusLine = codes "no status line"
error_text (BadStatusLine line) = at_line line (codes "bad status line")
error_text (BadBlockLine line) = at_line line (codes "bad block line")
error_text (Gap line) = at_line line (codes "gap")
error_text (Overlap line) = at_line line (codes "overlap")
error_text (TooLarge line) = at_line line (codes "number too large")
error_text TooLong = codes "text too long"
error_text MapNoMemory = codes "out of memory"

-- what a call on the files is called
abbrev pub call_text : SiteCall → List ℕ
call_text ImageOpen = codes "image open"
call_text ImageRead = codes "image read"
call_text ImageWrite = codes "image write"
call_text ImageSync = codes "image sync"
call_text MapRead = codes "map read"
call_text DraftBegin = codes "draft begin"
call_text DraftAppend = codes "draft append"
call_text DraftSync = codes "draft sync"
call_text DraftPublish = codes "draft publish"
call_text MapSettle = codes "map settle"
call_text MapRemove = codes "map remove"

-- that a call on the files failed
abbrev pub fault_text : SiteCall → List ℕ
fault_text call = codes "fault in " ++ call_text call

-- the message of a program: its name, what it says, and a newline
abbrev pub message_of : (program says : List ℕ) → List ℕ
message_of program says = program ++ codes ": " ++ says ++ 10 ∷ []
