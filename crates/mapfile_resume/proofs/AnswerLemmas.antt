-- The answers of a mapfile.
use Rattle.std.proofs.Common.{◌≡◌, ◌≢◌, ◌⊎◌, ◌<◌, ◌≤◌, List, [], ◌∷◌, length, Option, Some, None, refl, sym, ◌∙◌, subst, inl, inr, arith}
use Rattle.std.proofs.lemmas.Bool.{cases_lt}
use Rattle.mapfile_text.specs.declared.read.Mode.{Mode}
use Rattle.mapfile_reader.specs.declared.read.ReadMap.{ReadMap}
use Rattle.mapfile_text.specs.declared.read.MapError.{MapError}
use Rattle.mapfile_text.specs.declared.read.MapError.TheVariants.{NoStatusLine, TooLong}
use Rattle.mapfile_text.specs.MapText.{text_limit}
use Rattle.mapfile_text.specs.Lines.{Line, said_lines}
use Rattle.mapfile_text.specs.MapText.{IsMapText, MapFault, Blank}
use Rattle.mapfile_text.proofs.OneReading.{has_one_reading}
use Rattle.mapfile_text.proofs.OneFault.{map_has_no_fault, has_one_fault}
use Rattle.mapfile_text.proofs.MapOrFault.{is_map_or_has_fault}
use Rattle.crash_site.specs.Files.{File}
use Rattle.crash_site.proofs.LawLemmas.{found_only, found_lasting}
use Rattle.crash_site.specs.Disk.{Showing, lost_in}
use Rattle.crash_site.specs.Left.{MayShow}
use Rattle.mapfile_resume.specs.Resuming.{NoFile, Silent}
use Rattle.mapfile_resume.specs.Laws.{ReadAsOne, RefusedForOne, ReadIsNotRefused, NoneIsNotRead, NoneSaysNothing, HasAnswer, PendingNothingIsFound}
use Rattle.mapfile_text.proofs.MapLemmas.{map_is_not_blank, blank_fault, fault_is_blank}

-- one file is there
pub one_there : (file : Option File) (f g : File) → file ≡ Some f → file ≡ Some g → f ≡ g
one_there file f g is is' = let e : Some f ≡ Some g = sym is ∙ is' in cc

-- no file, or one
pub not_there : (file : Option File) (f : File) → file ≡ None → file ≡ Some f → ⊥
not_there file f none is = cc

pub read_as_one : ReadAsOne
read_as_one file mode m m' r r' =
    let same : r'.there ≡ r.there = one_there file r'.there r.there r'.is r.is in
    has_one_reading r.there.bytes mode m.state m'.state m.first m'.first m.listed m'.listed m.tiles.statuses m'.tiles.statuses r.reads
    (subst (λ (f : File). IsMapText f.bytes mode m'.state m'.first m'.listed m'.tiles.statuses) same r'.reads)

-- why the text of one file is refused
abbrev Why : File → Mode → MapError → Type 0
Why f mode e = ((e ≡ TooLong) × (text_limit < length f.bytes)) ⊎ ((length f.bytes ≤ text_limit) × MapFault f.bytes mode e)

one_why : (f : File) (mode : Mode) (e e' : MapError) → Why f mode e → Why f mode e' → e ≡ e'
one_why f mode e e' (inl x) (inl y) = x.0 ∙ sym y.0
one_why f mode e e' (inl x) (inr y) = absurd (omega (arith, x.1, y.0))
one_why f mode e e' (inr x) (inl y) = absurd (omega (arith, x.0, y.1))
one_why f mode e e' (inr x) (inr y) = has_one_fault f.bytes mode e e' x.1 y.1

pub refused_for_one : RefusedForOne
refused_for_one file mode e e' r r' =
    let same : r'.there ≡ r.there = one_there file r'.there r.there r'.is r.is in
    one_why r.there mode e e' r.why (subst (λ f. Why f mode e') same r'.why)

map_without_why : (f : File) (mode : Mode) (m : ReadMap) (e : MapError) → length f.bytes ≤ text_limit
    → IsMapText f.bytes mode m.state m.first m.listed m.tiles.statuses → Why f mode e → ⊥
map_without_why f mode m e short is (inl x) = omega (arith, x.1)
map_without_why f mode m e short is (inr x) = map_has_no_fault f.bytes mode m.state m.first m.listed m.tiles.statuses e is x.1

pub read_is_not_refused : ReadIsNotRefused
read_is_not_refused file mode m e r r' =
    let same : r'.there ≡ r.there = one_there file r'.there r.there r'.is r.is in
    map_without_why r.there mode m e r.within r.reads (subst (λ f. Why f mode e) same r'.why)

pub none_is_not_read : NoneIsNotRead
none_is_not_read file mode m n r =
    elim n [
      | NoFile none ↦ not_there file r.there none r.is
      | Silent there is within blank ↦
          let same : r.there ≡ there = one_there file r.there there r.is is in
          map_is_not_blank there.bytes mode m.state m.first m.listed m.tiles.statuses
          (subst (λ (f : File). IsMapText f.bytes mode m.state m.first m.listed m.tiles.statuses) same r.reads) blank
    ]

blank_why : (f : File) (mode : Mode) (e : MapError) → length f.bytes ≤ text_limit → Blank f.bytes → Why f mode e → e ≡ NoStatusLine
blank_why f mode e short blank (inl x) = absurd (omega (arith, x.1))
blank_why f mode e short blank (inr x) = has_one_fault f.bytes mode e NoStatusLine x.1 (blank_fault f.bytes mode blank)

pub none_says_nothing : NoneSaysNothing
none_says_nothing file mode e n r =
    elim n [
      | NoFile none ↦ absurd (not_there file r.there none r.is)
      | Silent there is within blank ↦
          let same : r.there ≡ there = one_there file r.there there r.is is in
          blank_why there mode e within blank (subst (λ f. Why f mode e) same r.why)
    ]

-- no lines, or some
blank_or_not : (ls : List Line) → (ls ≡ []) ⊎ (ls ≢ [])
blank_or_not [] = inl refl
blank_or_not (l ∷ ls) = inr (λ e. cc)

pub has_answer : HasAnswer
has_answer None mode = inl (NoFile refl)
has_answer (Some f) mode =
    elim (cases_lt text_limit (length f.bytes)) [
      | inl long ↦
          let other : TooLong ≢ NoStatusLine = λ e. cc in
          inr (inr (TooLong, other, record { there = f; is = refl; why = inl (refl, long) }))
      | inr short ↦
          elim (blank_or_not (said_lines f.bytes)) [
            | inl blank ↦ inl (Silent f refl short blank)
            | inr says ↦
                elim (is_map_or_has_fault f.bytes mode) [
                  | inl m ↦
                      let map : ReadMap = record { state = m.0; first = m.1; listed = m.2; tiles = record { statuses = m.3; spare = 0 } } in
                      inr (inl (map, record { there = f; is = refl; within = short; reads = m.4 }))
                  | inr fault ↦
                      let other : fault.0 ≢ NoStatusLine = λ e. says (fault_is_blank f.bytes mode (subst (MapFault f.bytes mode) e fault.1)) in
                      inr (inr (fault.0, other, record { there = f; is = refl; why = inr (short, fault.1) }))
                ]
          ]
    ]

pub pending_nothing_is_found : PendingNothingIsFound
pending_nothing_is_found names was now found n l = (
  found_only (was.reads.files names.map) (found names.map) (subst (λ (s : Showing). MayShow s (found names.map)) n.mapfile (l names.map)),
  λ image is apart_map apart. found_lasting (was.reads.files image) (lost_in (was.shows image)) (found image)
      (subst (λ (s : Showing). MayShow s (found image)) (n.image image is apart_map apart) (l image)),
)
