-- The fixed texts of causes. For contracts and proofs: no promise uses it.
use Rattle.std.specs.Prelude.{ℕ, Bool, true, false, List, codes}
use Rattle.program_advice.specs.declared.cause.Role.{Role}
use Rattle.program_advice.specs.declared.cause.Role.TheVariants.{Infile, Pattern, Outfile, Mapfile, Draft, DomainMap, TestMap, OtherMap}
use Rattle.program_advice.specs.declared.cause.Doing.{Doing}
use Rattle.program_advice.specs.declared.cause.Doing.TheVariants.{Open, Read, Write, Sync, Remove}
use Rattle.program_advice.specs.declared.cause.Fact.{Fact}
use Rattle.program_advice.specs.declared.cause.Fact.TheVariants.{InUse, NotApart, DraftNotApart, NotRegular, NeedsForce, Absent, Unplugged, Exists, Empty, NoMap, Replaced}
use Rattle.program_advice.specs.declared.cause.Stream.{Stream}
use Rattle.program_advice.specs.declared.cause.Stream.TheVariants.{Input, Output}
use Rattle.program_advice.specs.declared.cause.Hint.{Hint}
use Rattle.program_advice.specs.declared.cause.Hint.TheVariants.{SameFile, InputLost, StoppedRescue, StoppedWithoutMap, StoppedComparison, StoppedSearch, NoMemory, BlockNumbers, NoTable, OtherTable, NoPartition}
use Rattle.program_advice.specs.declared.cause.LimitOption.{LimitOption}
use Rattle.program_advice.specs.declared.cause.LimitOption.TheVariants.{ReadErrors, BadAreas, Timeout}

-- what a file is called
abbrev pub role_text : Role → List ℕ
role_text Infile = codes "infile"
role_text Pattern = codes "pattern"
role_text Outfile = codes "outfile"
role_text Mapfile = codes "mapfile"
role_text Draft = codes "the mapfile's draft"
role_text DomainMap = codes "domain mapfile"
role_text TestMap = codes "test mapfile"
role_text OtherMap = codes "other mapfile"

-- what couldn't be done
abbrev pub doing_text : Doing → List ℕ
doing_text Open = codes "cannot open "
doing_text Read = codes "cannot read "
doing_text Write = codes "cannot write "
doing_text Sync = codes "cannot flush "
doing_text Remove = codes "cannot remove "

-- the text on a file that follows its name
abbrev pub fact_text : Fact → List ℕ
fact_text InUse = codes " is in use by another rescue"
fact_text NotApart = codes " is the infile or the outfile by another name"
fact_text DraftNotApart = codes " or its draft (.tmp) is the infile or the outfile by another name"
fact_text NotRegular = codes " isn't a regular file"
fact_text NeedsForce = codes " isn't a regular file: option -f writes to it, and what it holds is lost"
fact_text Absent = codes " doesn't exist"
fact_text Unplugged = codes " isn't there: is the disk connected?"
fact_text Exists = codes " exists: option -f replaces it"
fact_text Empty = codes " is empty"
fact_text NoMap = codes " isn't a mapfile, or it was damaged"
fact_text Replaced = codes " or its draft (.tmp) was replaced by another program"

-- which stream failed
abbrev pub stream_text : Stream → List ℕ
stream_text Input = codes "cannot read standard input: "
stream_text Output = codes "cannot write standard output: "

-- which option set a limit
abbrev pub option_text : LimitOption → List ℕ
option_text ReadErrors = codes "option -X set this limit"
option_text BadAreas = codes "option -e set this limit"
option_text Timeout = codes "option -T set this limit"

-- what follows the number of bytes that a run left
abbrev pub left_text : (skips loses_neighbors : Bool) → List ℕ
left_text false false = codes " B weren't read; with -r 3 and without -X the same command tries the bad sectors again"
left_text false true = codes " B weren't read; ddrescuerun reads past the kernel's cache and can get more of them"
left_text true false = codes " B weren't read; repeat the command without -N, then without -n, then with -r 3"
left_text true true =
    codes " B weren't read; repeat the command without -N, then without -n, then with -r 3; ddrescuerun can get more"

-- the advice that names nothing
abbrev pub hint_text : Hint → List ℕ
hint_text SameFile = codes "infile and outfile are the same file"
hint_text InputLost = codes "reconnect the disk and give the same command (its name may have changed)"
hint_text StoppedRescue = codes "stopped as asked; the map is saved, and the same command (without -A and -M) resumes"
hint_text StoppedWithoutMap = codes "stopped as asked; there is no mapfile, so the same command begins anew"
hint_text StoppedComparison = codes "stopped as asked; nothing was saved"
hint_text StoppedSearch = codes "stopped as asked"
hint_text NoMemory = codes "memory is short: end other programs and give the same command"
hint_text BlockNumbers = codes "each line of the list is one block number, such as 17 or 0x11"
hint_text NoTable = codes "the infile has no DOS partition table that can be read there"
hint_text OtherTable = codes "the infile has a GPT: -i and -s are 512 times start and size in /sys/block/DISK/PARTITION"
hint_text NoPartition = codes "'lsblk' lists a disk's partitions, and 'fdisk -l' those of an image"
