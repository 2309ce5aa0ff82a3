-- The parts of a mapfile's text, and what is left of it from one on.
use Rattle.std.proofs.Common.{◌≡◌, ◌⊎◌, ℕ, ◌+◌, ◌-◌, ◌<◌, ◌≤◌, List, [], ◌∷◌, ◌++◌, length, map, take, drop, arith, refl, sym, ap, ◌∙◌, append_assoc, codes, length-append, ⊎_elim, inl, inr, Bool, false, IsTrue}
use Rattle.std.specs.List.{concat, flat_map}
use Rattle.std.proofs.lemmas.List.{drop_all, length-drop, length-take}
use Rattle.std.proofs.lemmas.Bool.{false≢true}
use Rattle.block_list.specs.declared.status.Status.{Status}
use Rattle.block_list.specs.declared.block.Block.{Block}
use Rattle.block_list.specs.Stretches.{stretches, stretches_from}
use Rattle.mapfile_text.specs.declared.heading.Program.{Program}
use Rattle.mapfile_text.specs.declared.heading.Program.TheVariants.{Ddrescue, Ddrescuelog}
use Rattle.mapfile_text.specs.declared.state.MapState.{MapState}
use Rattle.mapfile_text.specs.declared.text_position.TextPart.{TextPart}
use Rattle.mapfile_text.specs.declared.text_position.TextPart.TheVariants.{Program as ProgramLine, Block as BlockLine}
use Rattle.mapfile_text.specs.declared.text_position.TextPosition.{TextPosition}
use Rattle.mapfile_text.specs.HeadingLines.{HeadingLines}
use Rattle.mapfile_text.specs.Printed.{printed, block_line, time_lines, program_line, command_heading, heading_text, state_line, state_text, with_newline, shown_byte}
use Rattle.mapfile_text.specs.LeftOf.{start_line, now_line, heading_parts, number_of, position_of, map_lines, parts_from, left_of, IsAppended}
use Rattle.mapfile_text.proofs.TakenOff.{took_none, took_whole, took_some}
use Rattle.mapfile_text.proofs.PieceLemmas.{below_or_not}

assembled : (a b c d e f g h i l : List ℕ)
    → a ++ (b ++ (c ++ (d ++ (e ++ (f ++ (g ++ (h ++ (i ++ l)))))))) ≡ a ++ ((b ++ c) ++ d) ++ (e ++ f) ++ (g ++ h) ++ i ++ l
assembled a b c d e f g h i l = sym (simp append_assoc)

not_below : (m n : ℕ) → (m < n → ⊥) → n ≤ m
not_below m n h = ⊎_elim (λ l. absurd (h l)) (λ l. l) (below_or_not m n)

module _ (h : HeadingLines) (s : MapState) (statuses : List Status) where
  time_lines_are : (p : Program) (m n : ℕ) → start_line p m ++ now_line p n ≡ time_lines p m n
  time_lines_are Ddrescue m n = refl
  time_lines_are Ddrescuelog m n = refl

  concat_lines : (bs : List Block) → concat (map block_line bs) ≡ flat_map block_line bs
  concat_lines [] = refl
  concat_lines (b ∷ bs) = ap (λ t. block_line b ++ t) (concat_lines bs)

  pub begin_is_printed : left_of (record { part = ProgramLine; went = 0 }) h s statuses ≡ printed h s statuses
  unfolding parts_from left_of
  begin_is_printed =
      assembled (program_line h.program) (codes "# Command line: ") (map shown_byte h.line) (10 ∷ [])
      (start_line h.program h.start_s) (now_line h.program h.now_s)
      (with_newline (codes "# current_pos  current_status  current_pass")) (state_line s)
      (with_newline (codes "#      pos        size  status")) (concat (map block_line (stretches statuses)))
      ∙ ap (λ t. program_line h.program ++ command_heading h.line ++ t ++ state_text s
      ++ with_newline (codes "#      pos        size  status") ++ concat (map block_line (stretches statuses)))
      (time_lines_are h.program h.start_s h.now_s)
      ∙ ap (λ t. heading_text h ++ state_text s ++ with_newline (codes "#      pos        size  status") ++ t) (concat_lines (stretches statuses))

  left_is : (place : TextPosition) → left_of place h s statuses ≡ drop place.went (concat (parts_from place.part h s statuses))
  unfolding left_of
  left_is place = refl

  pub left_past : (place : TextPosition) → ((number_of place.part < 9) ⊎ (position_of place.part < length statuses) → ⊥)
      → left_of place h s statuses ≡ []
  unfolding parts_from left_of
  left_past place past =
      let front : drop (number_of place.part) (heading_parts h s) ≡ [] =
      drop_all (number_of place.part) (heading_parts h s) (not_below (number_of place.part) 9 (λ l. past (inl l))) in
      let lines : map_lines (position_of place.part) statuses ≡ [] =
      ap (λ m. map block_line (stretches_from (position_of place.part) m))
      (drop_all (position_of place.part) statuses (not_below (position_of place.part) (length statuses) (λ l. past (inr l)))) in
      rw (front, lines) (drop_all place.went [] (omega arith))

  -- what a part gave and what is left after it are what was left
  pub left_after : (place moved : TextPosition) (next : TextPart) (t : List ℕ) (len room : ℕ)
      → parts_from place.part h s statuses ≡ t ∷ parts_from next h s statuses
      → len ≡ length t
      → (len ≤ place.went → moved ≡ record { part = next; went = place.went - len })
      → (place.went < len → len ≤ place.went + room → moved ≡ record { part = next; went = 0 })
      → (place.went + room < len → moved ≡ record { part = place.part; went = place.went + room })
      → take room (drop place.went t) ++ left_of moved h s statuses ≡ left_of place h s statuses
  left_after place moved next t len room first e past whole cut =
      let L : TextPosition → List ℕ = λ p. left_of p h s statuses in
      let rest : List ℕ = concat (parts_from next h s statuses) in
      let was : L place ≡ drop place.went (t ++ rest) = left_is place ∙ ap (λ ps. drop place.went (concat ps)) first in
      ⊎_elim
      (λ some. ⊎_elim
      (λ less.
      let now = ap L (cut less) ∙ left_is (record { part = place.part; went = place.went + room }) ∙ ap (λ ps. drop (place.went + room) (concat ps)) first in
      ap (λ r. take room (drop place.went t) ++ r) now ∙ took_some t rest place.went room (omega (arith, e)) ∙ sym was)
      (λ fits.
      let now = ap L (whole some fits) ∙ left_is (record { part = next; went = 0 }) in
      ap (λ r. take room (drop place.went t) ++ r) now ∙ took_whole t rest place.went room (omega (arith, e)) (omega (arith, e)) ∙ sym was)
      (below_or_not (place.went + room) len))
      (λ none.
      let k : place.went - len ≡ place.went - length t = ap (λ m. place.went - m) e in
      let now = ap L (past none) ∙ left_is (record { part = next; went = place.went - len }) ∙ ap (λ m. drop m rest) k in
      ap (λ r. take room (drop place.went t) ++ r) now ∙ took_none t rest place.went room (omega (arith, e)) ∙ sym was)
      (below_or_not place.went len)

-- either there is one part less, or the room is full
moves_on : (count : TextPart → ℕ) (place moved : TextPosition) (next : TextPart) (len room : ℕ) (t before after : List ℕ)
    → count place.part ≡ count next + 1 → len ≡ length t → room + length before ≡ 4096
    → after ≡ before ++ take room (drop place.went t)
    → (len ≤ place.went → moved ≡ record { part = next; went = place.went - len })
    → (place.went < len → len ≤ place.went + room → moved ≡ record { part = next; went = 0 })
    → (place.went + room < len → moved ≡ record { part = place.part; went = place.went + room })
    → (length after ≤ 4096)
    × (0 < room → count moved.part + (4096 - length after) < count place.part + (4096 - length before))
moves_on count place moved next len room t before after fewer e room_is is past whole cut =
    let C : TextPosition → ℕ = λ p. count p.part in
    let l : length after ≡ length before + length (take room (drop place.went t)) = ap length is ∙ length-append before (take room (drop place.went t)) in
    let m = length-take room (drop place.went t) in
    let k = length-drop place.went t in
    ⊎_elim
    (λ less. ⊎_elim
    (λ over. let p : count moved.part ≡ count place.part = ap C (cut over) in (omega arith, λ some. omega arith))
    (λ fits. let p : count moved.part ≡ count next = ap C (whole less fits) in (omega arith, λ some. omega arith))
    (below_or_not (place.went + room) len))
    (λ none. let p : count moved.part ≡ count next = ap C (past none) in (omega arith, λ some. omega arith))
    (below_or_not place.went len)

-- a turn of the loop that fills a piece: what it appended and what is then left are what was left before
pub record GoesOn (h : HeadingLines) (s : MapState) (statuses : List Status) (place moved : TextPosition) (before after : List ℕ) (room : ℕ) : Type 0 where
  pub fits : length after ≤ 4096
  pub same : after ++ left_of moved h s statuses ≡ before ++ left_of place h s statuses
  pub less : (room ≡ 0 → ⊥)
      → length (parts_from moved.part h s statuses) + (4096 - length after)
      < length (parts_from place.part h s statuses) + (4096 - length before)

pub goes_on : (h : HeadingLines) (s : MapState) (statuses : List Status) (place moved : TextPosition) (before after : List ℕ) (next : TextPart) (len room : ℕ)
    → room + length before ≡ 4096
    → IsAppended before after place.went len (parts_from place.part h s statuses) (parts_from next h s statuses)
    → (len ≤ place.went → moved ≡ record { part = next; went = place.went - len })
    → (place.went < len → len ≤ place.went + room → moved ≡ record { part = next; went = 0 })
    → (place.went + room < len → moved ≡ record { part = place.part; went = place.went + room })
    → GoesOn h s statuses place moved before after room
goes_on h s statuses place moved before after next len room room_is a past whole cut =
    let t : List ℕ = a.part in
    let r : 4096 - length before ≡ room = omega arith in
    let is : after ≡ before ++ take room (drop place.went t) = a.text ∙ ap (λ m. before ++ take m (drop place.went t)) r in
    let fewer : length (parts_from place.part h s statuses) ≡ length (parts_from next h s statuses) + 1 = omega (arith, ap length a.first) in
    let m = moves_on (λ p. length (parts_from p h s statuses)) place moved next len room t before after fewer a.told room_is is past whole cut in
    record {
      fits = m.0;
      same =
          ap (λ b. b ++ left_of moved h s statuses) is ∙ append_assoc before (take room (drop place.went t)) (left_of moved h s statuses)
          ∙ ap (λ b. before ++ b) (left_after h s statuses place moved next t len room a.first a.told past whole cut);
      less = λ some. m.1 (omega arith);
    }

pub not_there : {A : Type 0} → (b : Bool) → b ≡ false → (A → IsTrue b) → A → ⊥
not_there b e h a = false≢true (sym e ∙ h a)

pub heading_number : (p : TextPart) → ((i : ℕ) → p ≡ BlockLine i → ⊥) → number_of p < 9
heading_number (BlockLine i) h = absurd (h i refl)
heading_number _ h = omega arith

heading_position : (p : TextPart) → number_of p < 9 → position_of p ≡ 0
heading_position (BlockLine pos) l = absurd (omega arith)
heading_position _ l = refl

-- after a part of the heading are the parts from the next one on
pub heading_goes_on : (h : HeadingLines) (s : MapState) (statuses : List Status) (part next : TextPart) (line : List ℕ)
    → number_of part < 9
    → drop (number_of part) (heading_parts h s) ≡ line ∷ drop (number_of part + 1) (heading_parts h s)
    → number_of next ≡ number_of part + 1 → position_of next ≡ 0
    → parts_from part h s statuses ≡ line ∷ parts_from next h s statuses
unfolding parts_from
heading_goes_on h s statuses part next line there first number position =
    let P : ℕ → ℕ → List (List ℕ) = λ n pos. drop n (heading_parts h s) ++ map_lines pos statuses in
    ap (λ ps. ps ++ map_lines (position_of part) statuses) first
    ∙ ap (λ pos. line ∷ P (number_of part + 1) pos) (heading_position part there ∙ sym position)
    ∙ ap (λ n. line ∷ P n (position_of next)) (sym number)
