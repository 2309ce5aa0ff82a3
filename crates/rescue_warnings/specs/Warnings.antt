-- The lines of warnings. For contracts and proofs: no promise uses it.
use Rattle.std.specs.Prelude.{ℕ, Bool, true, false, List, [], ◌∷◌, ◌+◌, ◌++◌, length, map, codes}
use Rattle.std.specs.List.{concat}
use Rattle.std.specs.Fmt.{decimal}
use Rattle.mapfile_text.specs.Printed.{shown_byte}
use Rattle.rescue_warnings.specs.declared.advice.Advice.{Advice}
use Rattle.rescue_warnings.specs.declared.advice.Advice.TheVariants.{OutfileShort, MapPastInfile, EmptyInfile, BeginsPastInfile, NothingAsked, NothingListed, NewMapfile, LinkedMapfile, UnsafeOutfile, UnsafeMapfile, NewOutfile, NothingToFill, LongPattern, OtherSector, MountedInfile, OutfileOnDisk, MapfileOnDisk, LongPlan, NothingToCompare, LateMapfile, EmptyDomain, MapBeforeInfile, NoLength}
use Rattle.kernel_devices.specs.declared.devices.Mounting.{Mounting}
use Rattle.kernel_devices.specs.declared.devices.Mounting.TheVariants.{ReadOnly, Writable}
use Rattle.rescue_warnings.specs.declared.facts.Storage.{Storage}
use Rattle.rescue_warnings.specs.declared.facts.Storage.TheVariants.{Memory, Overlay, NoJournal, Fuse}
use Rattle.rescue_warnings.specs.declared.warning.Names.{Names}
use Rattle.rescue_warnings.specs.declared.warning.Part.{Part}
use Rattle.rescue_warnings.specs.declared.warning.Part.TheVariants.{Text, Infile, Outfile, Mapfile, Domain, First, Second, Said}
use Rattle.rescue_warnings.specs.declared.warning.Row.{Row}
use Rattle.program_advice.specs.Lines.{quoted}
use Rattle.rescue_console.specs.declared.console.Channel.TheVariants.{Err}
use Rattle.rescue_console.specs.Speaking.{SpokenPiece}

-- a part of a row, as it is printed
abbrev pub part_text : Names → Row → Part → List ℕ
part_text names row (Text text) = text.now
part_text names row Infile = quoted names.infile.now
part_text names row Outfile = quoted names.outfile.now
part_text names row Mapfile = quoted names.mapfile.now
part_text names row Domain = quoted names.domain.now
part_text names row First = decimal row.first
part_text names row Second = decimal row.second
part_text names row Said = row.said.now

-- the parts of a row, as they are printed
abbrev pub row_text : Names → Row → List ℕ
row_text names row = concat (map (part_text names row) row.parts.now)

-- how many bytes a part has at most
abbrev pub width : Row → Part → ℕ
width row (Text text) = length text.now
width row Infile = 154
width row Outfile = 154
width row Mapfile = 154
width row Domain = 154
width row First = 20
width row Second = 20
width row Said = length row.said.now

-- how many bytes parts have at most
abbrev pub widths : Row → List Part → ℕ
widths row [] = 0
widths row (part ∷ parts) = width row part + widths row parts

-- what leaves no mapfile before its first save, by whether a stop can be asked for
abbrev pub stop_text : Bool → List ℕ
stop_text false = codes "a stop"
stop_text true = codes "a crash or a power cut"

-- what a file system does to a file
abbrev pub storage_text : Storage → List ℕ
storage_text Memory = codes " lies in memory: a power cut or a reboot loses it"
storage_text Overlay = codes " lies on an overlay: on a live system a reboot loses it"
storage_text NoJournal = codes " lies on a file system without a journal: a power cut may damage it"
storage_text Fuse = codes " lies on a file system that may lack a journal: a power cut may damage it"

-- what it means that the infile's device is mounted
abbrev pub mounting_text : Mounting → List ℕ
mounting_text Writable = codes " or a part of it is mounted for writing: unmount it"
mounting_text ReadOnly = codes " or a part of it is mounted: the kernel may answer from memory, so unmount it"

-- what the writes of a rescue do to the infile's disk
abbrev pub disk_text : List ℕ
disk_text = codes " lies on the infile's disk: each write wears it, so use another disk"

-- the parts of an advice's text, a row each
abbrev pub advice_texts : Names → Advice → List (List ℕ)
advice_texts names (OutfileShort n e) =
    codes "outfile " ∷ quoted names.outfile.now ∷ codes " has " ∷ decimal n
    ∷ codes " B, but the mapfile calls positions up to " ∷ decimal e
    ∷ codes " finished: what is missing won't be read again; mount the outfile's disk, or see 'man ddrescue'" ∷ []
advice_texts names (MapPastInfile e n) =
    codes "infile " ∷ quoted names.infile.now ∷ codes " has " ∷ decimal n
    ∷ codes " B, but the mapfile ends at " ∷ decimal e ∷ codes ": if it is another disk's, stop now" ∷ []
advice_texts names EmptyInfile = codes "infile " ∷ quoted names.infile.now ∷ codes " has no bytes" ∷ []
advice_texts names (BeginsPastInfile n) =
    codes "infile " ∷ quoted names.infile.now ∷ codes " ends at " ∷ decimal n
    ∷ codes ", and option -i begins there or past it: there is nothing to read" ∷ []
advice_texts names NothingAsked = codes "option -s asks for 0 B" ∷ []
advice_texts names NothingListed = codes "option -C takes only what the mapfile lists, and it lists nothing" ∷ []
advice_texts names (NewMapfile n) =
    codes "mapfile " ∷ quoted names.mapfile.now ∷ codes " doesn't exist yet, but the outfile has " ∷ decimal n
    ∷ codes " B: is the mapfile's name right? if not, all is read again" ∷ []
advice_texts names LinkedMapfile =
    codes "mapfile " ∷ quoted names.mapfile.now ∷ codes " is a link, and the first save puts a file in its place" ∷ []
advice_texts names (UnsafeOutfile kind) = codes "outfile " ∷ quoted names.outfile.now ∷ storage_text kind ∷ []
advice_texts names (UnsafeMapfile kind) = codes "mapfile " ∷ quoted names.mapfile.now ∷ storage_text kind ∷ []
advice_texts names NewOutfile =
    codes "outfile " ∷ quoted names.outfile.now ∷ codes " doesn't exist: fill mode makes a new one" ∷ []
advice_texts names NothingToFill =
    codes "mapfile " ∷ quoted names.mapfile.now ∷ codes " lists nothing, so fill mode writes nothing" ∷ []
advice_texts names (LongPattern n c) =
    codes "infile " ∷ quoted names.infile.now ∷ codes " has " ∷ decimal n
    ∷ codes " B, and fill mode repeats only the first " ∷ decimal c ∷ codes " B: are infile and outfile swapped?" ∷ []
advice_texts names (OtherSector n b) =
    codes "infile " ∷ quoted names.infile.now ∷ codes " has sectors of " ∷ decimal n
    ∷ codes " B, and option -b takes them for " ∷ decimal b ∷ codes " B: give option -b " ∷ decimal n ∷ []
advice_texts names (MountedInfile kind) = codes "infile " ∷ quoted names.infile.now ∷ mounting_text kind ∷ []
advice_texts names OutfileOnDisk = codes "outfile " ∷ quoted names.outfile.now ∷ disk_text ∷ []
advice_texts names MapfileOnDisk = codes "mapfile " ∷ quoted names.mapfile.now ∷ disk_text ∷ []
advice_texts names (LongPlan e n) =
    codes "test mapfile " ∷ quoted names.mapfile.now ∷ codes " ends at " ∷ decimal e
    ∷ codes ", and nothing past it can be read: the plan has at least " ∷ decimal n
    ∷ codes " reads; a smaller length or option -n makes fewer" ∷ []
advice_texts names NothingToCompare =
    codes "mapfile " ∷ quoted names.mapfile.now ∷ codes " calls nothing finished that is to be compared" ∷ []
advice_texts names (LateMapfile told) =
    codes "mapfile " ∷ quoted names.mapfile.now
    ∷ codes " doesn't exist, so a new rescue begins; its map is first saved after 30 s, and " ∷ stop_text told
    ∷ codes " before that leaves none" ∷ []
advice_texts names EmptyDomain =
    codes "domain mapfile " ∷ quoted names.domain.now ∷ codes " calls nothing finished that is to be read" ∷ []
advice_texts names (MapBeforeInfile e n) =
    codes "infile " ∷ quoted names.infile.now ∷ codes " has " ∷ decimal n
    ∷ codes " B, but the mapfile ends at " ∷ decimal e
    ∷ codes ": if it is another disk's, stop now (-s makes such maps, too)" ∷ []
advice_texts names NoLength =
    codes "infile " ∷ quoted names.infile.now
    ∷ codes " is a character device: its length may be unknown, and then nothing is read" ∷ []

-- the line of a warning: the program's name, the text, each control character as a question mark, and a newline
abbrev pub warning_text : List ℕ → Names → Advice → List ℕ
warning_text program names advice =
    map shown_byte ((program ++ codes ": warning: ") ++ concat (advice_texts names advice)) ++ 10 ∷ []

-- the lines of warnings, as pieces for standard error
abbrev pub warning_pieces : List ℕ → Names → List Advice → List SpokenPiece
warning_pieces program names advices = map (λ a. record { channel = Err; text = warning_text program names a }) advices
