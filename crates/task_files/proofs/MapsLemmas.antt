-- Files have maps, and each of them one.
use Rattle.std.proofs.Common.{◌≡◌, ◌⊎◌, ℕ, ◌<◌, ◌≤◌, List, length, Option, Some, None, refl, ap, inl, inr, subst, arith}
use Rattle.std.proofs.lemmas.Bool.{cases_lt}
use Rattle.block_list.specs.declared.status.Status.{Status}
use Rattle.mapfile_text.specs.declared.read.Mode.{Mode}
use Rattle.mapfile_text.specs.MapText.{text_limit}
use Rattle.mapfile_text.proofs.OneFault.{map_has_no_fault}
use Rattle.mapfile_text.proofs.MapOrFault.{is_map_or_has_fault}
use Rattle.crash_site.specs.Files.{File}
use Rattle.ddrescue_words.specs.Command.{Command}
use Rattle.task_files.specs.Asked.{Maps}
use Rattle.mapfile_resume.specs.Named.{IsMapOf, map_mode}
use Rattle.mapfile_resume.proofs.NamedLemmas.{map_is_one, Reading, HasMap, reading}
use Rattle.mapfile_resume.proofs.AnswerLemmas.{not_there, one_there}
use Rattle.task_files.specs.Maps.{Found, AreAskedFor, AreMapsIn, IsNamedMap}
use Rattle.task_files.proofs.ListingLemmas.{Listing, some_listing}

abbrev HasNoMap : Option File → Mode → Type 0
HasNoMap file mode = (statuses : List Status) → IsMapOf file mode statuses → ⊥

short_map_or_none : (f : File) (mode : Mode) → length f.bytes ≤ text_limit → HasMap (Some f) mode ⊎ HasNoMap (Some f) mode
short_map_or_none f mode short =
    elim (is_map_or_has_fault f.bytes mode) [
      | inl m ↦ inl (
        m.3,
        record { there = f; is = refl; within = short; shown = m.0; first = m.1; listed = m.2; reads = m.4 },
      )
      | inr fault ↦ inr (λ statuses m.
          let r : Reading mode statuses f = reading (Some f) mode f statuses refl m in
          map_has_no_fault f.bytes mode r.0 r.1 r.2 statuses fault.0 r.3 fault.1)
    ]

too_long : (f : File) (mode : Mode) → text_limit < length f.bytes → HasNoMap (Some f) mode
too_long f mode long statuses m =
    let P : File → Type 0 = λ g. length g.bytes ≤ text_limit in
    let short : length f.bytes ≤ text_limit = subst P (one_there (Some f) m.there f m.is refl) m.within in
    omega (arith, long, short)

map_or_none : (file : Option File) (mode : Mode) → HasMap file mode ⊎ HasNoMap file mode
map_or_none None mode = inr (λ statuses m. not_there None m.there refl m.is)
map_or_none (Some f) mode =
    elim (cases_lt text_limit (length f.bytes)) [ inl long ↦ inr (too_long f mode long) | inr short ↦ short_map_or_none f mode short ]

-- the statuses of a map that an option may name
record NamedMap (name : Option (List ℕ)) (mode : Mode) (file : Option File) : Type 0 where
  statuses : Option (List Status)
  asked : name ≡ None → statuses ≡ None
  is : IsNamedMap name mode file statuses

named_map : (name : Option (List ℕ)) (mode : Mode) (file : Option File) → NamedMap name mode file
named_map None mode file = record { statuses = None; asked = λ none. refl; is = λ map named m. absurd (cc) }
named_map (Some name) mode file =
    elim (map_or_none file mode) [
      | inl m ↦ record {
        statuses = Some m.0;
        asked = λ none. absurd (cc);
        is = λ map named other. ap (λ (s : List Status). Some s) (map_is_one file mode m.0 map m.1 other);
      }
      | inr none ↦ record { statuses = None; asked = λ e. refl; is = λ map named m. absurd (none map m) }
    ]

-- the maps of a command, as the files say that were found
pub record MapsOf (c : Command) (found : Found) : Type 0 where
  pub maps : Maps
  pub asked : AreAskedFor c maps
  pub are : AreMapsIn c found maps

pub maps_for : (c : Command) (found : Found) → MapsOf c found
maps_for c found =
    let domain : NamedMap c.domain_map (map_mode c.options.loose) found.domain =
    named_map c.domain_map (map_mode c.options.loose) found.domain in
    let test : NamedMap c.test_map (map_mode c.options.loose) found.test =
    named_map c.test_map (map_mode c.options.loose) found.test in
    let list : (listed : Option (ℕ × ℕ)) × Listing c found.mapfile listed = some_listing c found.mapfile in
    record {
      maps = record { domain = domain.statuses; test = test.statuses; listed = list.0 };
      asked = record { domain = domain.asked; test = test.asked; whole = list.1.whole };
      are = record { domain = domain.is; test = test.is; listed = list.1.are };
    }
