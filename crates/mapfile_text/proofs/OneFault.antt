-- A text that is a map has no fault, and another text has one.
use Rattle.std.proofs.Common.{◌≡◌, ℕ, ◌+◌, Bool, List, [], ◌∷◌, sym, ◌∙◌, inl, inr, arith}
use Rattle.block_list.specs.declared.status.Status.{Status}
use Rattle.block_list.specs.declared.block.Block.{Block}
use Rattle.mapfile_text.specs.declared.state.MapState.{MapState}
use Rattle.mapfile_text.specs.declared.read.Mode.{Mode}
use Rattle.mapfile_text.specs.declared.read.Mode.TheVariants.{Tight, Loose}
use Rattle.mapfile_text.specs.declared.read.MapError.{MapError}
use Rattle.mapfile_text.specs.declared.read.MapError.TheVariants.{NoMemory}
use Rattle.mapfile_text.specs.Lines.{Line, said_lines}
use Rattle.mapfile_text.specs.MapText.{IsStateLine, IsBlockLine, IsGap, Continues, Lists, AreMapLines, StateFault, BlockFault, PlaceFault, ContinuesFault, ListsFault, MapLinesFault}
use Rattle.mapfile_text.specs.Laws.{MapHasNoFault, HasOneFault}
use Rattle.mapfile_text.proofs.OneReading.{block_is_one}

state_is_fine : (l : Line) (s : MapState) (e : MapError) → IsStateLine l s → StateFault l e → ⊥
state_is_fine l s e p f =
    elim f [
      | inl x ↦ let h = p.spells in let k = x.1 in cc
      | inr x ↦
          let same : s ≡ x.1 = let h = p.spells in let k = x.2 in cc in
          let at : s.pos ≡ x.1.pos = cc in
          let pass : s.pass ≡ x.1.pass = cc in
          elim x.3 [ inl y ↦ omega (arith, p.pos, at, y) | inr y ↦ omega (arith, p.pass, pass, y) ]
    ]

block_is_fine : (l : Line) (b : Block) (e : MapError) → IsBlockLine l b → BlockFault l e → ⊥
block_is_fine l b e p f =
    elim f [
      | inl x ↦ let h = p.spells in let k = x.1 in cc
      | inr x ↦
          let same : b ≡ x.1 = let h = p.spells in let k = x.2 in cc in
          let to : b.pos + b.size ≡ x.1.pos + x.1.size = cc in
          omega (arith, p.end, to, x.3)
    ]

place_is_fine : (mode : Mode) (end end' : ℕ) (l : Line) (b c : Block) (gap : List Status) (e : MapError) → end ≡ end'
    → b ≡ c → IsGap mode end b.pos gap → PlaceFault mode end' l c e → ⊥
place_is_fine Tight end end' l b c gap e q same p f =
    let at : b.pos ≡ c.pos = cc in
    elim f [ inl x ↦ omega arith | inr x ↦ omega arith ]
place_is_fine (Loose status) end end' l b c gap e q same p f =
    let at : b.pos ≡ c.pos = cc in
    omega arith

continue_fine : (mode : Mode) (end end' : ℕ) (ls : List Line) (s : List Status) (e : MapError) → end ≡ end'
    → Continues mode end ls s → ContinuesFault mode end' ls e → ⊥
continue_fine mode end end' [] s e q p f = f
continue_fine mode end end' (l ∷ ls) s e q p f =
    elim f [
      | inl x ↦ block_is_fine l p.0 e p.3 x
      | inr (inl x) ↦ place_is_fine mode end end' l p.0 x.0 p.1 e q (block_is_one l p.0 x.0 p.3 x.1) p.4 x.2
      | inr (inr x) ↦
          let same : p.0 ≡ x.0 = block_is_one l p.0 x.0 p.3 x.2 in
          let to : p.0.pos + p.0.size ≡ x.0.pos + x.0.size = cc in
          continue_fine mode (p.0.pos + p.0.size) (x.0.pos + x.0.size) ls p.2 e to p.6 x.4
    ]

lists_fine : (mode : Mode) (ls : List Line) (first : ℕ) (listed : Bool) (s : List Status) (e : MapError)
    → Lists mode ls first listed s → ListsFault mode ls e → ⊥
lists_fine mode [] first listed s e p f = f
lists_fine mode (l ∷ ls) first listed s e p f =
    elim f [
      | inl x ↦ block_is_fine l p.0 e p.2 x
      | inr x ↦
          let same : p.0 ≡ x.0 = block_is_one l p.0 x.0 p.2 x.1 in
          let to : p.0.pos + p.0.size ≡ x.0.pos + x.0.size = cc in
          continue_fine mode (p.0.pos + p.0.size) (x.0.pos + x.0.size) ls p.1 e to p.6 x.2
    ]

lines_fine : (mode : Mode) (ls : List Line) (state : MapState) (first : ℕ) (listed : Bool) (s : List Status)
    (e : MapError) → AreMapLines mode ls state first listed s → MapLinesFault mode ls e → ⊥
lines_fine mode [] state first listed s e p f = p
lines_fine mode (l ∷ ls) state first listed s e p f =
    elim f [
      | inl x ↦ state_is_fine l state e p.0 x
      | inr x ↦ lists_fine mode ls first listed s e p.1 x.2
    ]

pub map_has_no_fault : MapHasNoFault
map_has_no_fault text mode state first listed s e p f = lines_fine mode (said_lines text) state first listed s e p.reads f.breaks

state_fault_once : (l : Line) (e e' : MapError) → StateFault l e → StateFault l e' → e ≡ e'
state_fault_once l e e' f g =
    elim f [
      | inl x ↦ elim g [ inl y ↦ x.0 ∙ sym y.0 | inr y ↦ let h = x.1 in let k = y.2 in cc ]
      | inr x ↦ elim g [ inl y ↦ let h = x.2 in let k = y.1 in cc | inr y ↦ x.0 ∙ sym y.0 ]
    ]

block_fault_once : (l : Line) (e e' : MapError) → BlockFault l e → BlockFault l e' → e ≡ e'
block_fault_once l e e' f g =
    elim f [
      | inl x ↦ elim g [ inl y ↦ x.0 ∙ sym y.0 | inr y ↦ let h = x.1 in let k = y.2 in cc ]
      | inr x ↦ elim g [ inl y ↦ let h = x.2 in let k = y.1 in cc | inr y ↦ x.0 ∙ sym y.0 ]
    ]

place_fault_once : (mode : Mode) (end end' : ℕ) (l : Line) (b c : Block) (e e' : MapError) → end ≡ end' → b ≡ c
    → PlaceFault mode end l b e → PlaceFault mode end' l c e' → e ≡ e'
place_fault_once Tight end end' l b c e e' q same f g =
    let at : b.pos ≡ c.pos = cc in
    elim f [
      | inl x ↦ elim g [ inl y ↦ x.0 ∙ sym y.0 | inr y ↦ absurd (omega arith) ]
      | inr x ↦ elim g [ inl y ↦ absurd (omega arith) | inr y ↦ x.0 ∙ sym y.0 ]
    ]
place_fault_once (Loose status) end end' l b c e e' q same f g = f.0 ∙ sym g.0

continue_fault_once : (mode : Mode) (end end' : ℕ) (ls : List Line) (e e' : MapError) → end ≡ end'
    → ContinuesFault mode end ls e → ContinuesFault mode end' ls e' → e ≡ e'
continue_fault_once mode end end' [] e e' q f g = absurd f
continue_fault_once mode end end' (l ∷ ls) e e' q f g =
    elim f [
      | inl x ↦
          elim g [
            | inl y ↦ block_fault_once l e e' x y
            | inr (inl y) ↦ absurd (block_is_fine l y.0 e y.1 x)
            | inr (inr y) ↦ absurd (block_is_fine l y.0 e y.2 x)
          ]
      | inr (inl x) ↦
          elim g [
            | inl y ↦ absurd (block_is_fine l x.0 e' x.1 y)
            | inr (inl y) ↦ place_fault_once mode end end' l x.0 y.0 e e' q (block_is_one l x.0 y.0 x.1 y.1) x.2 y.2
            | inr (inr y) ↦ absurd (place_is_fine mode end' end l y.0 x.0 y.1 e (sym q) (block_is_one l y.0 x.0 y.2 x.1) y.3 x.2)
          ]
      | inr (inr x) ↦
          elim g [
            | inl y ↦ absurd (block_is_fine l x.0 e' x.2 y)
            | inr (inl y) ↦ absurd (place_is_fine mode end end' l x.0 y.0 x.1 e' q (block_is_one l x.0 y.0 x.2 y.1) x.3 y.2)
            | inr (inr y) ↦
                let same : x.0 ≡ y.0 = block_is_one l x.0 y.0 x.2 y.2 in
                let to : x.0.pos + x.0.size ≡ y.0.pos + y.0.size = cc in
                continue_fault_once mode (x.0.pos + x.0.size) (y.0.pos + y.0.size) ls e e' to x.4 y.4
          ]
    ]

lists_fault_once : (mode : Mode) (ls : List Line) (e e' : MapError) → ListsFault mode ls e → ListsFault mode ls e' → e ≡ e'
lists_fault_once mode [] e e' f g = absurd f
lists_fault_once mode (l ∷ ls) e e' f g =
    elim f [
      | inl x ↦ elim g [ inl y ↦ block_fault_once l e e' x y | inr y ↦ absurd (block_is_fine l y.0 e y.1 x) ]
      | inr x ↦
          elim g [
            | inl y ↦ absurd (block_is_fine l x.0 e' x.1 y)
            | inr y ↦
                let same : x.0 ≡ y.0 = block_is_one l x.0 y.0 x.1 y.1 in
                let to : x.0.pos + x.0.size ≡ y.0.pos + y.0.size = cc in
                continue_fault_once mode (x.0.pos + x.0.size) (y.0.pos + y.0.size) ls e e' to x.2 y.2
          ]
    ]

lines_fault_once : (mode : Mode) (ls : List Line) (e e' : MapError) → MapLinesFault mode ls e → MapLinesFault mode ls e' → e ≡ e'
lines_fault_once mode [] e e' f g = f ∙ sym g
lines_fault_once mode (l ∷ ls) e e' f g =
    elim f [
      | inl x ↦ elim g [ inl y ↦ state_fault_once l e e' x y | inr y ↦ absurd (state_is_fine l y.0 e y.1 x) ]
      | inr x ↦ elim g [ inl y ↦ absurd (state_is_fine l x.0 e' x.1 y) | inr y ↦ lists_fault_once mode ls e e' x.2 y.2 ]
    ]

pub has_one_fault : HasOneFault
has_one_fault text mode e e' f g = lines_fault_once mode (said_lines text) e e' f.breaks g.breaks

block_has_memory : (l : Line) (e : MapError) → BlockFault l e → e ≡ NoMemory → ⊥
block_has_memory l e f m = elim f [ inl x ↦ let k = x.0 in cc | inr x ↦ let k = x.0 in cc ]

place_has_memory : (mode : Mode) (end : ℕ) (l : Line) (b : Block) (e : MapError) → PlaceFault mode end l b e → e ≡ NoMemory → ⊥
place_has_memory Tight end l b e f m = elim f [ inl x ↦ let k = x.0 in cc | inr x ↦ let k = x.0 in cc ]
place_has_memory (Loose status) end l b e f m = let k = f.0 in cc

continue_has_memory : (mode : Mode) (end : ℕ) (ls : List Line) (e : MapError) → ContinuesFault mode end ls e → e ≡ NoMemory → ⊥
continue_has_memory mode end [] e f m = f
continue_has_memory mode end (l ∷ ls) e f m =
    elim f [
      | inl x ↦ block_has_memory l e x m
      | inr (inl x) ↦ place_has_memory mode end l x.0 e x.2 m
      | inr (inr x) ↦ continue_has_memory mode (x.0.pos + x.0.size) ls e x.4 m
    ]

-- a fault of block lines isn't lack of memory
pub lists_have_memory : (mode : Mode) (ls : List Line) (e : MapError) → ListsFault mode ls e → e ≡ NoMemory → ⊥
lists_have_memory mode [] e f m = absurd f
lists_have_memory mode (l ∷ ls) e f m =
    elim f [ inl x ↦ block_has_memory l e x m | inr x ↦ continue_has_memory mode (x.0.pos + x.0.size) ls e x.2 m ]
