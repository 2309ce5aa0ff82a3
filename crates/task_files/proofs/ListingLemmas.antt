-- What a mapfile lists, by its file.
use Rattle.std.proofs.Common.{◌≡◌, ℕ, Bool, true, false, if◌then◌else◌, List, length, Option, Some, None, refl, sym, ap, ◌∙◌, inl, inr, subst}
use Rattle.block_list.specs.declared.status.Status.{Status}
use Rattle.mapfile_text.specs.declared.state.MapState.{MapState}
use Rattle.mapfile_text.specs.declared.read.Mode.TheVariants.{Tight}
use Rattle.mapfile_reader.specs.declared.read.ReadMap.{ReadMap}
use Rattle.mapfile_text.specs.declared.read.MapError.{MapError}
use Rattle.mapfile_text.specs.MapText.{IsMapText, Blank}
use Rattle.mapfile_text.specs.Laws.{SameReading}
use Rattle.crash_site.specs.Files.{File}
use Rattle.mapfile_resume.specs.Resuming.{IsReadAs, IsRefusedFor, IsLikeNone, NoFile as Absent, Silent}
use Rattle.mapfile_resume.proofs.AnswerLemmas.{has_answer, read_as_one, read_is_not_refused, not_there, one_there}
use Rattle.mapfile_text.proofs.MapLemmas.{map_is_not_blank}
use Rattle.ddrescue_words.specs.Command.{Command}
use Rattle.task_files.specs.Maps.{MapfileLists, NoFile, NoText, Blocks, IsListing}

-- a listing begins and ends here
pub record IsAt (first end first' end' : ℕ) : Type 0 where
  pub first_is : first ≡ first'
  pub end_is : end ≡ end'

-- one that says nothing, or isn't there
pub none_lists : (file : Option File) (first end : ℕ) → IsLikeNone file → first ≡ 0 → end ≡ 0 → MapfileLists file first end
none_lists file first end (Absent none) first_is end_is = NoFile none first_is end_is
none_lists file first end (Silent there is within blank) first_is end_is = NoText there is blank first_is end_is

-- one that is a map
pub map_lists : (file : Option File) (m : ReadMap) (first end : ℕ) → IsReadAs file Tight m → first ≡ m.first
    → end ≡ length m.tiles.statuses → MapfileLists file first end
map_lists file m first end read first_is end_is =
    let P : ℕ → Type 0 = λ at. IsMapText read.there.bytes Tight m.state at m.listed m.tiles.statuses in
    Blocks read.there read.is read.within m.state m.listed m.tiles.statuses (subst P (sym first_is) read.reads) end_is

-- the map of a listing's blocks
abbrev map_of : MapState → (first : ℕ) → (listed : Bool) → List Status → ReadMap
map_of state first listed statuses =
    record { state = state; first = first; listed = listed; tiles = record { statuses = statuses; spare = 0 } }

-- what one that is no map lists, if it lists something
pub refused_lists : (file : Option File) (e : MapError) (first end : ℕ) → IsRefusedFor file Tight e
    → MapfileLists file first end → IsAt first end 0 0
refused_lists file e first end refused (NoFile none first_is end_is) = record { first_is = first_is; end_is = end_is }
refused_lists file e first end refused (NoText there is blank first_is end_is) =
    record { first_is = first_is; end_is = end_is }
refused_lists file e first end refused (Blocks there is within shown listed statuses reads end_is) =
    let m : ReadMap = map_of shown first listed statuses in
    let read : IsReadAs file Tight m = record { there = there; is = is; within = within; reads = reads } in
    absurd (read_is_not_refused file Tight m e read refused)

-- a map's text isn't blank
blocks_or_blank : (file : Option File) (f g : File) (shown : MapState) (first : ℕ) (listed : Bool)
    (statuses : List Status) → file ≡ Some f → file ≡ Some g → IsMapText f.bytes Tight shown first listed statuses
    → Blank g.bytes → ⊥
blocks_or_blank file f g shown first listed statuses is is' reads blank =
    map_is_not_blank f.bytes Tight shown first listed statuses reads
    (subst (λ (h : File). Blank h.bytes) (sym (one_there file f g is is')) blank)

-- a mapfile has one listing
pub lists_agree : (file : Option File) (a b a' b' : ℕ) → MapfileLists file a b → MapfileLists file a' b' → IsAt a b a' b'
lists_agree file a b a' b' (NoFile none x y) (NoFile none' x' y') =
    record { first_is = x ∙ sym x'; end_is = y ∙ sym y' }
lists_agree file a b a' b' (NoFile none x y) (NoText there is blank x' y') =
    record { first_is = x ∙ sym x'; end_is = y ∙ sym y' }
lists_agree file a b a' b' (NoFile none x y) (Blocks there is within shown listed statuses reads z) =
    absurd (not_there file there none is)
lists_agree file a b a' b' (NoText there is blank x y) (NoFile none x' y') =
    record { first_is = x ∙ sym x'; end_is = y ∙ sym y' }
lists_agree file a b a' b' (NoText there is blank x y) (NoText there' is' blank' x' y') =
    record { first_is = x ∙ sym x'; end_is = y ∙ sym y' }
lists_agree file a b a' b' (NoText there is blank x y) (Blocks there' is' within shown listed statuses reads z) =
    absurd (blocks_or_blank file there' there shown a' listed statuses is' is reads blank)
lists_agree file a b a' b' (Blocks there is within shown listed statuses reads z) (NoFile none x y) =
    absurd (not_there file there none is)
lists_agree file a b a' b' (Blocks there is within shown listed statuses reads z) (NoText there' is' blank x y) =
    absurd (blocks_or_blank file there there' shown a listed statuses is is' reads blank)
lists_agree file a b a' b' (Blocks there is within shown listed statuses reads z)
    (Blocks there' is' within' shown' listed' statuses' reads' z') =
    let same : SameReading shown shown' a a' listed listed' statuses statuses' =
    read_as_one file Tight (map_of shown a listed statuses) (map_of shown' a' listed' statuses')
    (record { there = there; is = is; within = within; reads = reads })
    (record { there = there'; is = is'; within = within'; reads = reads' }) in
    record { first_is = same.first_is; end_is = z ∙ ap length same.statuses_is ∙ sym z' }

-- a listing of a command's mapfile: the one that it has, if it has one
pub record Listing (c : Command) (file : Option File) (listed : Option (ℕ × ℕ)) : Type 0 where
  pub whole : c.options.complete_only ≡ false → listed ≡ None
  pub are : IsListing c file listed

-- where that is asked for
abbrev pub listed_if : Bool → (first end : ℕ) → Option (ℕ × ℕ)
listed_if complete first end = if complete then Some (first, end) else None

pub whole_if : (complete : Bool) (first end : ℕ) → complete ≡ false → listed_if complete first end ≡ None
whole_if true first end off = cc
whole_if false first end off = refl

here_if : (complete : Bool) (first end a b : ℕ) → complete ≡ true → IsAt a b first end
    → listed_if complete first end ≡ Some (a, b)
here_if true first end a b on at = let x : a ≡ first = at.first_is in let y : b ≡ end = at.end_is in cc
here_if false first end a b on at = cc

pub is_listing : (c : Command) (file : Option File) (first end : ℕ) → ((a b : ℕ) → MapfileLists file a b → IsAt a b first end)
    → Listing c file (listed_if c.options.complete_only first end)
is_listing c file first end only = record {
  whole = whole_if c.options.complete_only first end;
  are = λ a b on lists. here_if c.options.complete_only first end a b on (only a b lists);
}

-- that of one that lists this
pub own_listing : (c : Command) (file : Option File) (first end : ℕ) → MapfileLists file first end
    → Listing c file (listed_if c.options.complete_only first end)
own_listing c file first end own = is_listing c file first end (λ a b lists. lists_agree file a b first end lists own)

-- each mapfile has at most one
pub record OneListing (file : Option File) : Type 0 where
  pub first : ℕ
  pub end : ℕ
  pub only : (a b : ℕ) → MapfileLists file a b → IsAt a b first end

pub one_listing : (file : Option File) → OneListing file
one_listing file =
    elim (has_answer file Tight) [
      | inl none ↦ record {
        first = 0;
        end = 0;
        only =
            λ a b lists. lists_agree file a b 0 0 lists (none_lists file 0 0 none refl refl);
      }
      | inr some ↦
          elim some [
            | inl read ↦ record {
              first = read.0.first;
              end = length read.0.tiles.statuses;
              only = λ a b lists. lists_agree file a b read.0.first (length read.0.tiles.statuses) lists
                  (map_lists file read.0 read.0.first (length read.0.tiles.statuses) read.1 refl refl);
            }
            | inr refused ↦ record
                { first = 0; end = 0; only = λ a b lists. refused_lists file refused.0 a b refused.2 lists }
          ]
    ]

-- so there is a listing whatever the mapfile is
pub some_listing : (c : Command) (file : Option File) → (listed : Option (ℕ × ℕ)) × Listing c file listed
some_listing c file =
    let at : OneListing file = one_listing file in
    (listed_if c.options.complete_only at.first at.end, is_listing c file at.first at.end at.only)
