-- When the disk of a site follows the files of a kernel.
use Rattle.std.specs.Prelude.{◌≡◌, ◌⊎◌, ⊤, ℕ, ◌≤◌, true, List, [], ◌∷◌, Option, Some, None, IsTrue}
use Rattle.kernel_files.specs.Volume.{Node, Volume, MayRead, MayFind, Free}
use Rattle.crash_site.specs.Files.{File}
use Rattle.crash_site.specs.Disk.{Version, Showing, Disk, newest, lost_in}
use Rattle.crash_site.specs.Left.{IsLoose, loose_end, Matches, MayShow}

-- a file of the kernel, as a site sees it
abbrev pub as_file : Option (List ℕ) → Option File
as_file None = None
as_file (Some bytes) = Some (record { bytes = bytes; regular = true })

-- the bytes that read by an entry
abbrev pub read_at : (ℕ → Node) → Option ℕ → Option (List ℕ)
read_at nodes None = None
read_at nodes (Some i) = Some ((nodes i).bytes)

-- the files as they read, as a site sees them
abbrev pub files_of : Volume → List ℕ → Option File
files_of v n = as_file (read_at v.nodes (v.names n))

-- what a stop of the kernel may leave under each name, the disk of the site may show there
abbrev pub Within : Disk → Volume → Type 0
Within d v = (n : List ℕ) (found : Option (List ℕ)) → MayFind v n found → MayShow (d.shows n) (as_file found)

-- one of these entries is this
abbrev pub IsAmong : Option ℕ → List (Option ℕ) → Type 0
IsAmong e [] = ⊥
IsAmong e (x ∷ xs) = (e ≡ x) ⊎ IsAmong e xs

-- a file that a stop leaves as it reads
pub record IsFirm (f : Node) : Type 0 where
  pub loose : f.loose ≡ []
  pub durable : f.durable ≡ f.bytes

-- a file of its own under a name: no other name leads to it, and none may after a stop
pub record Begun (draft : List ℕ) (i : ℕ) (v : Volume) : Type 0 where
  pub named : v.names draft ≡ Some i
  pub apart : (n : List ℕ) → (n ≡ draft → ⊥) → Free i (v.may n)

-- the open draft: none, or a file of its own under the name that the site knows, which is firm if the site says so
abbrev pub DraftIs : Volume → Disk → Option ℕ → Type 0
DraftIs v d None = ⊤
DraftIs v d (Some i) = (name : List ℕ) × (d.reads.draft ≡ Some name) × Begun name i v × IsTrue (d.shows name).anything
    × (d.firm ≡ true → IsFirm (v.nodes i))

-- The disk follows the files, with this one open as the draft. Each file may be left as it reads, and so may the entry
-- of each name.
pub record Refines (v : Volume) (d : Disk) (o : Option ℕ) : Type 0 where
  pub shows : Within d v
  pub reads : (n : List ℕ) → d.reads.files n ≡ files_of v n
  pub here : (n : List ℕ) → IsAmong (v.names n) (v.may n)
  pub sound : (i : ℕ) → MayRead (v.nodes i) (v.nodes i).bytes
  pub draft : DraftIs v d o

-- The image. Its name's entries are followed one by one, since a write changes what each of them may leave.

-- the places of these ranges are in others, and end no further
pub record Inside (ranges others : List (ℕ × ℕ)) : Type 0 where
  pub places : (x : ℕ) → IsLoose ranges x → IsLoose others x
  pub end : loose_end ranges ≤ loose_end others

-- a version of the site has what a stop may leave of a file, also after a write of both
pub record Covers (f : Node) (was : File) (ranges : List (ℕ × ℕ)) : Type 0 where
  pub durable : Matches was ranges (record { bytes = f.durable; regular = true })
  pub loose : Inside f.loose ranges

-- a version has what a stop may leave by an entry
abbrev pub CoversEntry : (ℕ → Node) → Option ℕ → Option File → List (ℕ × ℕ) → Type 0
CoversEntry nodes None None loose = ⊤
CoversEntry nodes None (Some was) loose = ⊥
CoversEntry nodes (Some i) None loose = ⊥
CoversEntry nodes (Some i) (Some was) loose = Covers (nodes i) was loose

-- one of these versions has it
abbrev pub CoversOne : (ℕ → Node) → Option ℕ → List Version → Type 0
CoversOne nodes e [] = ⊥
CoversOne nodes e (w ∷ ws) = CoversEntry nodes e w.file w.loose ⊎ CoversOne nodes e ws

-- the site may show under a name what a stop may leave by an entry, also after further writes
abbrev pub IsCovered : (ℕ → Node) → Option ℕ → Showing → Type 0
IsCovered nodes None s = IsTrue s.anything ⊎ CoversOne nodes None (s.durable ∷ s.since)
IsCovered nodes (Some i) s =
    IsTrue s.anything ⊎ (IsTrue s.any_text ⊎ CoversOne nodes (Some i) (s.durable ∷ s.since))

-- The open image is a file of its own under the name that the site knows, which isn't the draft's. Its name may lead to
-- it or to none. What is loose or lost of it, the site has as loose or lost of the newest version.
pub record Imaged (name : List ℕ) (i : ℕ) (v : Volume) (d : Disk) : Type 0 where
  pub image : d.reads.image ≡ Some name
  pub draft : d.reads.draft ≡ Some name → ⊥
  pub begun : Begun name i v
  pub own : (e : Option ℕ) → IsAmong e (v.may name) → (e ≡ None) ⊎ (e ≡ Some i)
  pub covered : (e : Option ℕ) → IsAmong e (v.may name) → IsCovered v.nodes e (d.shows name)
  pub loose : Inside (v.nodes i).loose (newest (d.shows name).durable (d.shows name).since).loose
  pub lost : Inside (v.nodes i).lost (lost_in (d.shows name))
  pub ordered : Inside (v.nodes i).lost (v.nodes i).loose

-- the open image: none, or a file of its own
abbrev pub ImageIs : Volume → Disk → Option ℕ → Type 0
ImageIs v d None = d.reads.image ≡ None
ImageIs v d (Some i) = (name : List ℕ) × Imaged name i v d

-- the disk follows the files, with this file open as the draft and this one as the image
pub record Follows (v : Volume) (d : Disk) (o k : Option ℕ) : Type 0 where
  pub files : Refines v d o
  pub image : ImageIs v d k
