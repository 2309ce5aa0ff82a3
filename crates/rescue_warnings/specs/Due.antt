-- What a person is warned of before a run, and when. For contracts and proofs: no promise uses it.
use Rattle.std.specs.Prelude.{ℕ, Bool, true, false, List, [], ◌∷◌, ◌≡◌, ◌+◌, ◌-◌, ◌/◌, ◌%◌, ◌≤◌, ⊤, min, max, not, ◌&&◌, ◌||◌, nat_lt, nat_le, nat_eq, is_none, Option, Some, None, All, Contains}
use Rattle.kernel_devices.specs.declared.devices.Mounting.{Mounting}
use Rattle.kernel_devices.specs.declared.devices.Mounting.TheVariants.{ReadOnly, Writable}
use Rattle.rescue_warnings.specs.declared.facts.Work.{Work}
use Rattle.rescue_warnings.specs.declared.facts.Work.TheVariants.{Rescue, Fill, Generate, Comparison, Plan}
use Rattle.rescue_warnings.specs.declared.facts.Found.{Found}
use Rattle.rescue_warnings.specs.declared.facts.Found.TheVariants.{Absent, Regular, Device, CharacterDevice}
use Rattle.rescue_warnings.specs.declared.facts.Storage.{Storage}
use Rattle.rescue_warnings.specs.declared.facts.Storage.TheVariants.{Memory, Overlay, NoJournal, Fuse}
use Rattle.rescue_warnings.specs.declared.facts.MapText.{MapText}
use Rattle.rescue_warnings.specs.declared.facts.MapText.TheVariants.{NoFile, NoBlock, Blocks}
use Rattle.rescue_warnings.specs.declared.facts.Finished.{Finished}
use Rattle.rescue_warnings.specs.declared.facts.Finished.TheVariants.{Nowhere, UpTo}
use Rattle.rescue_warnings.specs.declared.facts.Facts.{Facts}
use Rattle.rescue_warnings.specs.declared.advice.Advice.{Advice}
use Rattle.rescue_warnings.specs.declared.advice.Advice.TheVariants.{OutfileShort, MapPastInfile, EmptyInfile, BeginsPastInfile, NothingAsked, NothingListed, NewMapfile, LinkedMapfile, UnsafeOutfile, UnsafeMapfile, NewOutfile, NothingToFill, LongPattern, OtherSector, MountedInfile, OutfileOnDisk, MapfileOnDisk, LongPlan, NothingToCompare, LateMapfile, EmptyDomain, MapBeforeInfile, NoLength}

-- ---- what is known

-- the length of a file, if it is known
abbrev pub length_of : Option Found → Option ℕ
length_of (Some (Regular n)) = Some n
length_of (Some (Device n _)) = n
length_of (Some Absent) = None
length_of (Some CharacterDevice) = None
length_of None = None

-- how many bytes an outfile has that is no device: one that is absent has none
abbrev pub bytes_of : Option Found → Option ℕ
bytes_of (Some Absent) = Some 0
bytes_of (Some (Regular n)) = Some n
bytes_of (Some (Device _ _)) = None
bytes_of (Some CharacterDevice) = None
bytes_of None = None

-- the size of a device's own sectors, if it is known
abbrev pub sector_of : Option Found → Option ℕ
sector_of (Some (Device _ n)) = n
sector_of (Some (Regular _)) = None
sector_of (Some Absent) = None
sector_of (Some CharacterDevice) = None
sector_of None = None

-- a file is known to be absent
abbrev pub is_absent : Option Found → Bool
is_absent (Some Absent) = true
is_absent (Some (Regular _)) = false
is_absent (Some (Device _ _)) = false
is_absent (Some CharacterDevice) = false
is_absent None = false

-- a file is known to be a character device
abbrev pub is_character_device : Option Found → Bool
is_character_device (Some Absent) = false
is_character_device (Some (Regular _)) = false
is_character_device (Some (Device _ _)) = false
is_character_device (Some CharacterDevice) = true
is_character_device None = false

-- what is mounted so may change
abbrev pub is_writable : Mounting → Bool
is_writable Writable = true
is_writable ReadOnly = false

-- what lies there may be lost by the next boot
abbrev pub may_forget : Storage → Bool
may_forget Memory = true
may_forget Overlay = true
may_forget NoJournal = false
may_forget Fuse = false

-- where the last block of a mapfile ends, if that is known
abbrev pub end_of : Option MapText → Option ℕ
end_of (Some (Blocks n _)) = Some n
end_of (Some NoBlock) = None
end_of (Some NoFile) = None
end_of None = None

-- where the last of the finished blocks ends, if that is known
abbrev pub last_of : Option Finished → Option ℕ
last_of (Some (UpTo n)) = Some n
last_of (Some Nowhere) = None
last_of None = None

-- where the last finished block of a mapfile ends, if that is known
abbrev pub finished_of : Option MapText → Option ℕ
finished_of (Some (Blocks _ f)) = last_of f
finished_of (Some NoBlock) = None
finished_of (Some NoFile) = None
finished_of None = None

-- a mapfile is known to be absent
abbrev pub is_new : Option MapText → Bool
is_new (Some NoFile) = true
is_new (Some NoBlock) = false
is_new (Some (Blocks _ _)) = false
is_new None = false

-- a mapfile is known to list no block
abbrev pub lists_nothing : Option MapText → Bool
lists_nothing (Some NoFile) = true
lists_nothing (Some NoBlock) = true
lists_nothing (Some (Blocks _ _)) = false
lists_nothing None = false

-- no finished block of a mapfile ends past a position
abbrev pub ends_by : ℕ → Option Finished → Bool
ends_by pos (Some (UpTo n)) = nat_le n pos
ends_by pos (Some Nowhere) = true
ends_by pos None = false

-- a mapfile is known to have no finished position from a position on
abbrev pub finishes_nothing : ℕ → Option MapText → Bool
finishes_nothing pos (Some (Blocks _ f)) = ends_by pos f
finishes_nothing pos (Some NoBlock) = true
finishes_nothing pos (Some NoFile) = false
finishes_nothing pos None = false

-- ---- conditions

-- the work is a rescue
abbrev pub is_rescue : Work → Bool
is_rescue Rescue = true
is_rescue Fill = false
is_rescue Generate = false
is_rescue Comparison = false
is_rescue Plan = false

-- the work is a fill
abbrev pub is_fill : Work → Bool
is_fill Rescue = false
is_fill Fill = true
is_fill Generate = false
is_fill Comparison = false
is_fill Plan = false

-- the work is a comparison
abbrev pub is_comparison : Work → Bool
is_comparison Rescue = false
is_comparison Fill = false
is_comparison Generate = false
is_comparison Comparison = true
is_comparison Plan = false

-- the work is a plan
abbrev pub is_plan : Work → Bool
is_plan Rescue = false
is_plan Fill = false
is_plan Generate = false
is_plan Comparison = false
is_plan Plan = true

-- the infile's length is that of the map
abbrev pub asks_infile : Work → Bool
asks_infile Rescue = true
asks_infile Fill = false
asks_infile Generate = true
asks_infile Comparison = false
asks_infile Plan = false

-- the infile is what is rescued or compared
abbrev pub reads_infile : Work → Bool
reads_infile Rescue = true
reads_infile Fill = false
reads_infile Generate = false
reads_infile Comparison = true
reads_infile Plan = false

-- the outfile is written to
abbrev pub writes_outfile : Work → Bool
writes_outfile Rescue = true
writes_outfile Fill = true
writes_outfile Generate = false
writes_outfile Comparison = false
writes_outfile Plan = false

-- the mapfile is saved at the end
abbrev pub saves : Work → Bool
saves Rescue = true
saves Fill = true
saves Generate = true
saves Comparison = false
saves Plan = false

-- a number is at most one that may not be given
abbrev pub within : ℕ → Option ℕ → Bool
within n (Some most) = nat_le n most
within n None = true

-- where the positions end that are asked for, of this many
abbrev pub asked_end : Facts → ℕ → ℕ
asked_end f length = elim f.size as (λ _. ℕ) [ Some size ↦ min length (f.input_position + size) | None ↦ length ]

-- no option asks for less than the whole infile
abbrev pub asks_for_all : Facts → Bool
asks_for_all f = nat_eq f.input_position 0 && is_none f.size && not f.complete_only && not f.domain_map

-- an advice that is due under a condition
abbrev pub if_so : Bool → Option Advice → Option Advice
if_so true due = due
if_so false due = None

-- an advice that is due of a number, if that is known
abbrev pub if_known : Option ℕ → (ℕ → Option Advice) → Option Advice
if_known (Some n) due = due n
if_known None due = None

-- an advice that is due of a file system's kind, if that is known
abbrev pub if_stored : Option Storage → (Storage → Option Advice) → Option Advice
if_stored (Some kind) due = due kind
if_stored None due = None

-- what is due by a mount, if one is known
abbrev pub if_mounted : Option Mounting → (Mounting → Option Advice) → Option Advice
if_mounted (Some kind) due = due kind
if_mounted None due = None

-- ---- when each is due

-- the outfile of a rescue has n bytes, and the mapfile calls a position finished whose place is there or past it: the
-- last finished block ends at e, within what is asked for
abbrev pub outfile_short : Facts → Option Advice
outfile_short f = if_so (is_rescue f.work) (if_so (not f.domain_map)
    (if_known (bytes_of f.outfile) (λ n. if_known (finished_of f.map) (λ e. if_known (length_of f.infile) (λ l.
    if_so (nat_lt f.input_position e) (if_so (nat_le e l) (if_so (within (e - f.input_position) f.size)
    (if_so (nat_lt n (f.output_position + (e - f.input_position))) (Some (OutfileShort n e))))))))))

-- the mapfile's last block ends past the infile's end
abbrev pub map_past_infile : Facts → Option Advice
map_past_infile f = if_so (asks_infile f.work) (if_known (length_of f.infile) (λ n. if_known (end_of f.map) (λ e.
    if_so (nat_lt 0 n) (if_so (nat_lt n e) (Some (MapPastInfile e n))))))

-- the infile has no bytes
abbrev pub empty_infile : Facts → Option Advice
empty_infile f = if_so (asks_infile f.work) (if_known (length_of f.infile) (λ n.
    if_so (nat_eq n 0) (Some EmptyInfile)))

-- what is asked for begins at the infile's end or past it
abbrev pub begins_past_infile : Facts → Option Advice
begins_past_infile f = if_so (asks_infile f.work) (if_known (length_of f.infile) (λ n.
    if_so (nat_lt 0 n) (if_so (nat_le n f.input_position) (Some (BeginsPastInfile n)))))

-- no byte is asked for
abbrev pub nothing_asked : Facts → Option Advice
nothing_asked f = if_so (saves f.work) (if_known f.size (λ n. if_so (nat_eq n 0) (Some NothingAsked)))

-- only what the mapfile lists is asked for, and it lists nothing
abbrev pub nothing_listed : Facts → Option Advice
nothing_listed f = if_so (asks_infile f.work) (if_so f.complete_only (if_so (lists_nothing f.map) (Some NothingListed)))

-- a rescue's mapfile is absent, and its outfile has bytes from the first place on
abbrev pub new_mapfile : Facts → Option Advice
new_mapfile f = if_so (is_rescue f.work) (if_so (is_new f.map) (if_known (bytes_of f.outfile) (λ n.
    if_so (nat_lt f.output_position n) (Some (NewMapfile n)))))

-- the mapfile is a link
abbrev pub linked_mapfile : Facts → Option Advice
linked_mapfile f = if_so (saves f.work) (if_so f.map_is_link (Some LinkedMapfile))

-- the outfile's file system may lose it by the next boot, or by a power cut, and then the mapfile's isn't such a one
abbrev pub unsafe_outfile : Facts → Option Advice
unsafe_outfile f = if_so (writes_outfile f.work) (if_stored f.outfile_place.storage (λ kind.
    if_so (may_forget kind || is_none f.map_place.storage) (Some (UnsafeOutfile kind))))

-- the mapfile's file system may lose it by the next boot, or by a power cut
abbrev pub unsafe_mapfile : Facts → Option Advice
unsafe_mapfile f = if_so (saves f.work) (if_stored f.map_place.storage (λ kind. Some (UnsafeMapfile kind)))

-- the outfile that is to be filled is absent
abbrev pub new_outfile : Facts → Option Advice
new_outfile f = if_so (is_fill f.work) (if_so (is_absent f.outfile) (Some NewOutfile))

-- the mapfile by which an outfile is to be filled lists nothing
abbrev pub nothing_to_fill : Facts → Option Advice
nothing_to_fill f = if_so (is_fill f.work) (if_so (lists_nothing f.map) (Some NothingToFill))

-- the pattern is longer than a cluster
abbrev pub long_pattern : Facts → Option Advice
long_pattern f = if_so (is_fill f.work) (if_known (length_of f.infile) (λ n.
    if_so (nat_lt f.cluster n) (Some (LongPattern n f.cluster))))

-- the infile is a device, and what the run takes for a sector isn't made of whole ones of the device
abbrev pub other_sector : Facts → Option Advice
other_sector f = if_so (is_rescue f.work) (if_known (sector_of f.infile) (λ n.
    if_so (nat_lt 0 n) (if_so (nat_lt 0 (f.sector % n)) (Some (OtherSector n f.sector)))))

-- a comparison reads the infile through the kernel's cache, which may answer from what a mount left there
abbrev pub may_be_held : Facts → Bool
may_be_held f = is_comparison f.work && f.is_cached

-- the infile is a device, and a file system on it is mounted: it may change, or a comparison be answered from memory
abbrev pub mounted_infile : Facts → Option Advice
mounted_infile f = if_so (reads_infile f.work) (if_mounted f.infile_mounting (λ kind.
    if_so (is_writable kind || may_be_held f) (Some (MountedInfile kind))))

-- the outfile of a rescue lies on the infile's disk
abbrev pub outfile_on_disk : Facts → Option Advice
outfile_on_disk f = if_so (is_rescue f.work) (if_so f.outfile_place.on_infile_disk (Some OutfileOnDisk))

-- the mapfile lies on the disk that is to be read
abbrev pub mapfile_on_disk : Facts → Option Advice
mapfile_on_disk f = if_so (asks_infile f.work) (if_so f.map_place.on_infile_disk (Some MapfileOnDisk))

-- how many whole sectors of a plan lie past the end of its test map
abbrev pub sectors_past : Facts → (length end : ℕ) → ℕ
sectors_past f length end = (asked_end f length - max end f.input_position) / f.sector

-- a plan that reads each bad sector by itself has ten million of them or more past the end of its test map
abbrev pub long_plan : Facts → Option Advice
long_plan f = if_so (is_plan f.work) (if_so f.scrapes (if_so (nat_lt 0 f.sector)
    (if_known (length_of f.infile) (λ n. if_known (end_of f.map) (λ e.
    if_so (nat_le 10_000_000 (sectors_past f n e)) (Some (LongPlan e (sectors_past f n e))))))))

-- nothing is finished that could be compared
abbrev pub nothing_to_compare : Facts → Option Advice
nothing_to_compare f = if_so (is_comparison f.work) (if_so (finishes_nothing f.input_position f.map)
    (Some NothingToCompare))

-- a rescue's mapfile is absent, and a GiB or more is asked for, whatever other maps say
abbrev pub late_mapfile : Facts → Option Advice
late_mapfile f = if_so (is_rescue f.work) (if_so (is_new f.map) (if_so (not f.complete_only) (if_so (not f.domain_map)
    (if_known (length_of f.infile) (λ n.
    if_so (nat_le 1_073_741_824 (asked_end f n - f.input_position)) (Some (LateMapfile f.stop_is_told)))))))

-- only what another map calls finished is asked for, and that is nothing
abbrev pub empty_domain : Facts → Option Advice
empty_domain f = if_so (asks_infile f.work) (if_so (finishes_nothing f.input_position f.domain) (Some EmptyDomain))

-- the mapfile of a rescue ends before the infile, and no option says why
abbrev pub map_before_infile : Facts → Option Advice
map_before_infile f = if_so (is_rescue f.work) (if_so (asks_for_all f) (if_known (length_of f.infile) (λ n.
    if_known (end_of f.map) (λ e. if_so (nat_lt e n) (Some (MapBeforeInfile e n))))))

-- the infile is a character device
abbrev pub no_length : Facts → Option Advice
no_length f = if_so (reads_infile f.work) (if_so (is_character_device f.infile) (Some NoLength))

-- when an advice of its kind is due, and with which values
abbrev pub of_kind : Advice → Facts → Option Advice
of_kind (OutfileShort _ _) = outfile_short
of_kind (MapPastInfile _ _) = map_past_infile
of_kind EmptyInfile = empty_infile
of_kind (BeginsPastInfile _) = begins_past_infile
of_kind NothingAsked = nothing_asked
of_kind NothingListed = nothing_listed
of_kind (NewMapfile _) = new_mapfile
of_kind LinkedMapfile = linked_mapfile
of_kind (UnsafeOutfile _) = unsafe_outfile
of_kind (UnsafeMapfile _) = unsafe_mapfile
of_kind NewOutfile = new_outfile
of_kind NothingToFill = nothing_to_fill
of_kind (LongPattern _ _) = long_pattern
of_kind (OtherSector _ _) = other_sector
of_kind (MountedInfile _) = mounted_infile
of_kind OutfileOnDisk = outfile_on_disk
of_kind MapfileOnDisk = mapfile_on_disk
of_kind (LongPlan _ _) = long_plan
of_kind NothingToCompare = nothing_to_compare
of_kind (LateMapfile _) = late_mapfile
of_kind EmptyDomain = empty_domain
of_kind (MapBeforeInfile _ _) = map_before_infile
of_kind NoLength = no_length

-- an advice is due
abbrev pub IsDue : Facts → Advice → Type 0
IsDue f advice = of_kind advice f ≡ Some advice

-- ---- the list

-- an advice's place in the enum
abbrev pub rank : Advice → ℕ
rank (OutfileShort _ _) = 0
rank (MapPastInfile _ _) = 1
rank EmptyInfile = 2
rank (BeginsPastInfile _) = 3
rank NothingAsked = 4
rank NothingListed = 5
rank (NewMapfile _) = 6
rank LinkedMapfile = 7
rank (UnsafeOutfile _) = 8
rank (UnsafeMapfile _) = 9
rank NewOutfile = 10
rank NothingToFill = 11
rank (LongPattern _ _) = 12
rank (OtherSector _ _) = 13
rank (MountedInfile _) = 14
rank OutfileOnDisk = 15
rank MapfileOnDisk = 16
rank (LongPlan _ _) = 17
rank NothingToCompare = 18
rank (LateMapfile _) = 19
rank EmptyDomain = 20
rank (MapBeforeInfile _ _) = 21
rank NoLength = 22

-- the kinds in the order of the enum, each as it is due
abbrev pub kinds : Facts → List (Option Advice)
kinds f = outfile_short f ∷ map_past_infile f ∷ empty_infile f ∷ begins_past_infile f ∷ nothing_asked f
    ∷ nothing_listed f ∷ new_mapfile f ∷ linked_mapfile f ∷ unsafe_outfile f ∷ unsafe_mapfile f ∷ new_outfile f
    ∷ nothing_to_fill f ∷ long_pattern f ∷ other_sector f ∷ mounted_infile f ∷ outfile_on_disk f ∷ mapfile_on_disk f
    ∷ long_plan f ∷ nothing_to_compare f ∷ late_mapfile f ∷ empty_domain f ∷ map_before_infile f ∷ no_length f ∷ []

-- the advices of a list that are due
abbrev pub somes : List (Option Advice) → List Advice
somes [] = []
somes (Some a ∷ rest) = a ∷ somes rest
somes (None ∷ rest) = somes rest

-- advices are in the order of the enum, each once at most, none of them before a place
abbrev pub Ascends : ℕ → List Advice → Type 0
Ascends from [] = ⊤
Ascends from (a ∷ rest) = (from ≤ rank a) × Ascends (rank a + 1) rest

-- the list is what is due, in the order of the enum, each once
pub record IsAdvice (f : Facts) (said : List Advice) : Type 0 where
  pub due : All (IsDue f) said
  pub whole : (a : Advice) → IsDue f a → Contains said a
  pub order : Ascends 0 said
