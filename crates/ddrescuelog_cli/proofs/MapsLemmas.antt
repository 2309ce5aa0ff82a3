-- Files have maps, and each of them one.
use Rattle.std.proofs.Common.{◌≡◌, ◌⊎◌, ℕ, ◌<◌, ◌≤◌, Bool, true, false, List, [], length, Option, Some, None, unwrap_or, refl, ap, inl, inr, subst, arith}
use Rattle.std.proofs.lemmas.Bool.{cases_lt}
use Rattle.block_list.specs.declared.status.Status.{Status}
use Rattle.mapfile_text.specs.declared.state.MapState.{MapState}
use Rattle.mapfile_text.specs.declared.state.Current.TheVariants.{Copying}
use Rattle.mapfile_text.specs.declared.read.Mode.{Mode}
use Rattle.mapfile_text.specs.declared.read.Mode.TheVariants.{Tight}
use Rattle.mapfile_text.specs.MapText.{text_limit, IsMapText}
use Rattle.mapfile_text.specs.Laws.{SameReading}
use Rattle.mapfile_text.proofs.OneReading.{has_one_reading}
use Rattle.mapfile_text.proofs.OneFault.{map_has_no_fault}
use Rattle.mapfile_text.proofs.MapOrFault.{is_map_or_has_fault}
use Rattle.crash_site.specs.Files.{File}
use Rattle.mapfile_resume.specs.Named.{IsMapOf, map_mode, HasStatuses}
use Rattle.ddrescuelog_words.specs.Modes.{creates, mapfile_mode}
use Rattle.ddrescuelog_words.specs.Command.{Command}
use Rattle.mapfile_resume.proofs.NamedLemmas.{map_is_one}
use Rattle.mapfile_resume.proofs.AnswerLemmas.{not_there, one_there}
use Rattle.ddrescuelog_cli.specs.Maps.{Found, Maps, IsShownBy, AreMapsOf, AreAskedFor}
use Rattle.ddrescuelog_cli.specs.Laws.{MapsAreThere}

-- a file shows one state and has one list of statuses
pub shown_is_one : (file : Option File) (mode : Mode) (shown shown' : MapState) (statuses statuses' : List Status)
    → IsShownBy file mode shown statuses → IsShownBy file mode shown' statuses'
    → (shown ≡ shown') × (statuses ≡ statuses')
shown_is_one file mode shown shown' statuses statuses' s s' =
    let P : File → Type 0 = λ f. IsMapText f.bytes mode shown' s'.first s'.listed statuses' in
    let one : SameReading shown shown' s.first s'.first s.listed s'.listed statuses statuses' =
    has_one_reading s.there.bytes mode shown shown' s.first s'.first s.listed s'.listed statuses statuses' s.reads
    (subst P (one_there file s'.there s.there s'.is s.is) s'.reads) in
    (one.state_is, one.statuses_is)

-- a map by its statuses alone shows something
shows : (file : Option File) (mode : Mode) (statuses : List Status) (m : IsMapOf file mode statuses)
    → IsShownBy file mode m.shown statuses
shows file mode statuses m = record {
  there = m.there;
  is = m.is;
  within = m.within;
  first = m.first;
  listed = m.listed;
  reads = m.reads;
}

-- ---- a file is a map, or it is none

abbrev HasMap : Option File → Mode → Type 0
HasMap file mode = (shown : MapState) × (statuses : List Status) × IsShownBy file mode shown statuses

abbrev HasNoMap : Option File → Mode → Type 0
HasNoMap file mode = (shown : MapState) (statuses : List Status) → IsShownBy file mode shown statuses → ⊥

short_map_or_none : (f : File) (mode : Mode) → length f.bytes ≤ text_limit
    → HasMap (Some f) mode ⊎ HasNoMap (Some f) mode
short_map_or_none f mode short =
    elim (is_map_or_has_fault f.bytes mode) [
      | inl m ↦ inl (
        m.0,
        m.3,
        record { there = f; is = refl; within = short; first = m.1; listed = m.2; reads = m.4 },
      )
      | inr fault ↦ inr (λ shown statuses s.
          let P : File → Type 0 = λ g. IsMapText g.bytes mode shown s.first s.listed statuses in
          map_has_no_fault f.bytes mode shown s.first s.listed statuses fault.0
          (subst P (one_there (Some f) s.there f s.is refl) s.reads) fault.1)
    ]

too_long : (f : File) (mode : Mode) → text_limit < length f.bytes → HasNoMap (Some f) mode
too_long f mode long shown statuses s =
    let P : File → Type 0 = λ g. length g.bytes ≤ text_limit in
    let short : length f.bytes ≤ text_limit = subst P (one_there (Some f) s.there f s.is refl) s.within in
    omega (arith, long, short)

map_or_none : (file : Option File) (mode : Mode) → HasMap file mode ⊎ HasNoMap file mode
map_or_none None mode = inr (λ shown statuses s. not_there None s.there refl s.is)
map_or_none (Some f) mode =
    elim (cases_lt text_limit (length f.bytes)) [
      | inl long ↦ inr (too_long f mode long)
      | inr short ↦ short_map_or_none f mode short
    ]

-- ---- the maps of a command

-- what is shown where no map is read: the beginning
abbrev beginning : MapState
beginning = record { pos = 0; current = Copying; pass = 1 }

-- what the mapfile shows, and its statuses, unless a new map is made
record MapfileOf (new : Bool) (mode : Mode) (file : Option File) : Type 0 where
  shown : MapState
  statuses : List Status
  none : new ≡ true → statuses ≡ []
  is : (s : MapState) (t : List Status) → new ≡ false → IsShownBy file mode s t → (shown ≡ s) × (statuses ≡ t)

mapfile_of : (new : Bool) (mode : Mode) (file : Option File) → MapfileOf new mode file
mapfile_of true mode file =
    record { shown = beginning; statuses = []; none = λ e. refl; is = λ s t e m. absurd (cc) }
mapfile_of false mode file =
    elim (map_or_none file mode) [
      | inl m ↦ record {
        shown = m.0;
        statuses = m.1;
        none = λ e. absurd (cc);
        is = λ s t e m'. shown_is_one file mode m.0 s m.1 t m.2 m';
      }
      | inr none ↦ record {
        shown = beginning;
        statuses = [];
        none = λ e. refl;
        is = λ s t e m. absurd (none s t m);
      }
    ]

-- the statuses of a map that may be named are what its file has, if that is a map
pub record NamedBy (name : Option (List ℕ)) (mode : Mode) (file : Option File) (statuses : Option (List Status))
    : Type 0 where
  pub asked : name ≡ None → statuses ≡ None
  pub is : (n : List ℕ) (t : List Status) → name ≡ Some n → IsMapOf file mode t → statuses ≡ Some t

-- where they were read
pub has_named : (name : Option (List ℕ)) (mode : Mode) (file : Option File) (statuses : Option (List Status))
    → HasStatuses name mode file statuses → NamedBy name mode file statuses
has_named None mode file statuses has = record { asked = λ e. has; is = λ n t e m. absurd (cc) }
has_named (Some name) mode file None has = absurd has
has_named (Some name) mode file (Some s) has = record {
  asked = λ e. absurd (cc);
  is = λ n t e m. ap (λ (x : List Status). Some x) (map_is_one file mode s t has m);
}

-- and of any file
abbrev NamedOf : Option (List ℕ) → Mode → Option File → Type 0
NamedOf name mode file = (statuses : Option (List Status)) × NamedBy name mode file statuses

named_of : (name : Option (List ℕ)) (mode : Mode) (file : Option File) → NamedOf name mode file
named_of None mode file = (None, record { asked = λ e. refl; is = λ n t e m. absurd (cc) })
named_of (Some name) mode file =
    elim (map_or_none file mode) [
      | inl m ↦ (
        Some m.1,
        record {
          asked = λ e. absurd (cc);
          is = λ n t e m'.
              let one : (m.0 ≡ m'.shown) × (m.1 ≡ t) =
              shown_is_one file mode m.0 m'.shown m.1 t m.2 (shows file mode t m') in
              ap (λ (x : List Status). Some x) one.1;
        },
      )
      | inr none ↦ (
        None,
        record { asked = λ e. refl; is = λ n t e m. absurd (none m.shown t (shows file mode t m)) },
      )
    ]

-- the maps of a command, as found files say
pub record MapsOf (c : Command) (found : Found) : Type 0 where
  pub maps : Maps
  pub asked : AreAskedFor c maps
  pub are : AreMapsOf c found maps

pub maps_of : (c : Command) (found : Found) → MapsOf c found
maps_of c found =
    let run : MapfileOf (creates c.mode) (mapfile_mode c.mode) found.mapfile =
    mapfile_of (creates c.mode) (mapfile_mode c.mode) found.mapfile in
    let other : NamedOf c.other Tight found.other = named_of c.other Tight found.other in
    let domain : NamedOf c.domain_map (map_mode c.options.loose) found.domain =
    named_of c.domain_map (map_mode c.options.loose) found.domain in
    record {
      maps = record {
        shown = run.shown;
        statuses = run.statuses;
        other = unwrap_or other.0 [];
        domain = domain.0;
      };
      asked = record {
        mapfile = run.none;
        other = λ e. ap (λ (s : Option (List Status)). unwrap_or s []) (other.1.asked e);
        domain = domain.1.asked;
      };
      are = record {
        mapfile = run.is;
        other = λ n t e m. ap (λ (s : Option (List Status)). unwrap_or s []) (other.1.is n t e m);
        domain = domain.1.is;
      };
    }

pub maps_are_there : MapsAreThere
maps_are_there c found =
    let m : MapsOf c found = maps_of c found in
    (m.maps, m.asked, m.are)
