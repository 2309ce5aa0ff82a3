-- What is known of a text that is a map, or none.
use Rattle.std.proofs.Common.{◌≡◌, ◌≢◌, ℕ, ◌+◌, ◌<◌, ◌^◌, Bool, true, false, if◌then◌else◌, List, [], ◌∷◌, nat_eq, Option, Some, None, refl, sym, ap, ◌∙◌, subst, inl, inr, arith}
use Rattle.block_list.specs.declared.status.Status.{Status}
use Rattle.block_list.specs.declared.block.Block.{Block}
use Rattle.mapfile_text.specs.declared.state.Current.{Current}
use Rattle.mapfile_text.specs.declared.state.MapState.{MapState}
use Rattle.mapfile_text.specs.declared.read.Mode.{Mode}
use Rattle.mapfile_text.specs.declared.read.Mode.TheVariants.{Tight, Loose}
use Rattle.mapfile_text.specs.declared.read.MapError.{MapError}
use Rattle.mapfile_text.specs.declared.read.MapError.TheVariants.{NoStatusLine, BadStatusLine, BadBlockLine, Gap, Overlap, TooLarge}
use Rattle.mapfile_text.specs.Fields.{numeral, begins_with_digit, above_zero, pass_of, current_of_field, state_by, state_of}
use Rattle.mapfile_text.specs.Lines.{Line, said_lines}
use Rattle.mapfile_text.specs.MapText.{IsMapText, AreMapLines, MapFault, Blank, StateFault, BlockFault, PlaceFault, ContinuesFault, ListsFault, MapLinesFault}

none_some : (o : Option ℕ) (n : ℕ) → o ≡ None → o ≡ Some n → ⊥
none_some o n none some = cc

same_in : (m n : ℕ) → Some m ≡ Some n → m ≡ n
same_in m n e = cc

not_zero : (n : ℕ) → nat_eq n 0 ≡ false → n ≢ 0
not_zero n test is = let no : true ≡ false = subst (λ k. nat_eq k 0 ≡ false) is test in absurd (cc)

-- a number above zero
above_by : (is_zero : Bool) (n pass : ℕ) → nat_eq n 0 ≡ is_zero → (if is_zero then None else Some n) ≡ Some pass → 0 < pass
above_by true n pass test is = absurd (none_some None pass refl is)
above_by false n pass test is =
    let same : n ≡ pass = same_in n pass is in
    let some : n ≢ 0 = not_zero n test in
    omega arith

above : (n : Option ℕ) (pass : ℕ) → above_zero n ≡ Some pass → 0 < pass
above None pass is = absurd (none_some None pass refl is)
above (Some n) pass is = above_by (nat_eq n 0) n pass refl is

-- a pass is spelled above zero, or is 1
digit_pass : (begins : Bool) (n : Option ℕ) (pass : ℕ) → (if begins then above_zero n else Some 1) ≡ Some pass → 0 < pass
digit_pass true n pass is = above n pass is
digit_pass false n pass is = let e : 1 ≡ pass = cc in omega arith

pass_above : (fields : List (List ℕ)) (pass : ℕ) → pass_of fields ≡ Some pass → 0 < pass
pass_above [] pass is = let e : 1 ≡ pass = cc in omega arith
pass_above (f ∷ fs) pass is = digit_pass (begins_with_digit f) (numeral f) pass is

by_above : (pos : Option ℕ) (current : Option Current) (pass : Option ℕ) (state : MapState) → ((n : ℕ) → pass ≡ Some n → 0 < n)
    → state_by pos current pass ≡ Some state → 0 < state.pass
by_above (Some p) (Some c) (Some n) state known is =
    let e : n ≡ state.pass = ap (λ (s : MapState). s.pass) (let same : record { pos = p; current = c; pass = n } ≡ state = cc in same) in
    subst (λ x. 0 < x) e (known n refl)
by_above None current pass state known is = absurd (cc)
by_above (Some p) None pass state known is = absurd (cc)
by_above (Some p) (Some c) None state known is = absurd (cc)

pub state_above : (fields : List (List ℕ)) (state : MapState) → state_of fields ≡ Some state → 0 < state.pass
state_above [] state is = absurd (cc)
state_above (p ∷ []) state is = absurd (cc)
state_above (p ∷ c ∷ rest) state is = by_above (numeral p) (current_of_field c) (pass_of rest) state (pass_above rest) is

pub lines_within : (mode : Mode) (ls : List Line) (state : MapState) (first : ℕ) (listed : Bool) (statuses : List Status)
    → AreMapLines mode ls state first listed statuses → (state.pos < 2 ^ 63) × (0 < state.pass)
lines_within mode [] state first listed statuses m = absurd m
lines_within mode (l ∷ ls) state first listed statuses m = (m.0.pos, state_above l.fields state m.0.spells)

-- an error that names a line is another one than "no status line"
state_said : (l : Line) (e : MapError) → StateFault l e → e ≢ NoStatusLine
state_said l e f is =
    elim f [
      | inl x ↦ let no : BadStatusLine l.number ≡ NoStatusLine = sym x.0 ∙ is in absurd (cc)
      | inr x ↦ let no : TooLarge l.number ≡ NoStatusLine = sym x.0 ∙ is in absurd (cc)
    ]

block_said : (l : Line) (e : MapError) → BlockFault l e → e ≢ NoStatusLine
block_said l e f is =
    elim f [
      | inl x ↦ let no : BadBlockLine l.number ≡ NoStatusLine = sym x.0 ∙ is in absurd (cc)
      | inr x ↦ let no : TooLarge l.number ≡ NoStatusLine = sym x.0 ∙ is in absurd (cc)
    ]

place_said : (mode : Mode) (end : ℕ) (l : Line) (b : Block) (e : MapError) → PlaceFault mode end l b e → e ≢ NoStatusLine
place_said Tight end l b e f is =
    elim f [
      | inl x ↦ let no : Overlap l.number ≡ NoStatusLine = sym x.0 ∙ is in absurd (cc)
      | inr x ↦ let no : Gap l.number ≡ NoStatusLine = sym x.0 ∙ is in absurd (cc)
    ]
place_said (Loose status) end l b e f is = let no : Overlap l.number ≡ NoStatusLine = sym f.0 ∙ is in absurd (cc)

continue_said : (mode : Mode) (end : ℕ) (ls : List Line) (e : MapError) → ContinuesFault mode end ls e → e ≢ NoStatusLine
continue_said mode end [] e f = absurd f
continue_said mode end (l ∷ ls) e f =
    elim f [
      | inl x ↦ block_said l e x
      | inr (inl x) ↦ place_said mode end l x.0 e x.2
      | inr (inr x) ↦ continue_said mode (x.0.pos + x.0.size) ls e x.4
    ]

lists_said : (mode : Mode) (ls : List Line) (e : MapError) → ListsFault mode ls e → e ≢ NoStatusLine
lists_said mode [] e f = absurd f
lists_said mode (l ∷ ls) e f = elim f [ inl x ↦ block_said l e x | inr x ↦ continue_said mode (x.0.pos + x.0.size) ls e x.2 ]

lines_said : (mode : Mode) (l : Line) (ls : List Line) (e : MapError) → MapLinesFault mode (l ∷ ls) e → e ≢ NoStatusLine
lines_said mode l ls e f = elim f [ inl x ↦ state_said l e x | inr x ↦ lists_said mode ls e x.2 ]

-- without a status line there are no lines
no_lines : (mode : Mode) (ls : List Line) → MapLinesFault mode ls NoStatusLine → ls ≡ []
no_lines mode [] f = refl
no_lines mode (l ∷ ls) f = absurd (lines_said mode l ls NoStatusLine f refl)

-- a text without a status line says nothing
pub fault_is_blank : (text : List ℕ) (mode : Mode) → MapFault text mode NoStatusLine → Blank text
fault_is_blank text mode f = no_lines mode (said_lines text) f.breaks

-- and one that says nothing has no status line
blank_lines : (mode : Mode) (ls : List Line) → ls ≡ [] → MapLinesFault mode ls NoStatusLine
blank_lines mode [] is = refl
blank_lines mode (l ∷ ls) is = absurd (cc)

pub blank_fault : (text : List ℕ) (mode : Mode) → Blank text → MapFault text mode NoStatusLine
blank_fault text mode blank = record { breaks = blank_lines mode (said_lines text) blank }

-- a map says something
some_lines : (mode : Mode) (ls : List Line) (state : MapState) (first : ℕ) (listed : Bool) (statuses : List Status)
    → AreMapLines mode ls state first listed statuses → ls ≢ []
some_lines mode [] state first listed statuses m e = absurd m
some_lines mode (l ∷ ls) state first listed statuses m e = cc

pub map_is_not_blank : (text : List ℕ) (mode : Mode) (state : MapState) (first : ℕ) (listed : Bool) (statuses : List Status)
    → IsMapText text mode state first listed statuses → Blank text → ⊥
map_is_not_blank text mode state first listed statuses m e = some_lines mode (said_lines text) state first listed statuses m.reads e
