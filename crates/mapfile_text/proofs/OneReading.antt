-- A text has one reading: each line has one meaning, and the lines after it are read from where it ends.
use Rattle.std.proofs.Common.{◌≡◌, ℕ, ◌+◌, Bool, List, [], ◌∷◌, sym, ◌∙◌}
use Rattle.block_list.specs.declared.status.Status.{Status}
use Rattle.block_list.specs.declared.block.Block.{Block}
use Rattle.mapfile_text.specs.declared.state.MapState.{MapState}
use Rattle.mapfile_text.specs.declared.read.Mode.{Mode}
use Rattle.mapfile_text.specs.declared.read.Mode.TheVariants.{Tight, Loose}
use Rattle.mapfile_text.specs.Lines.{Line, said_lines}
use Rattle.mapfile_text.specs.MapText.{IsStateLine, IsBlockLine, IsGap, Continues, Lists, AreMapLines}
use Rattle.mapfile_text.specs.Laws.{SameReading, HasOneReading}

pub state_is_one : (l : Line) (s t : MapState) → IsStateLine l s → IsStateLine l t → s ≡ t
state_is_one l s t p q = let e = p.spells in let f = q.spells in cc

pub block_is_one : (l : Line) (b c : Block) → IsBlockLine l b → IsBlockLine l c → b ≡ c
block_is_one l b c p q = let e = p.spells in let f = q.spells in cc

pub gap_is_one : (mode : Mode) (end end' pos pos' : ℕ) (gap gap' : List Status) → end ≡ end' → pos ≡ pos'
    → IsGap mode end pos gap → IsGap mode end' pos' gap' → gap ≡ gap'
gap_is_one Tight end end' pos pos' gap gap' e f p q = p.1 ∙ sym q.1
gap_is_one (Loose status) end end' pos pos' gap gap' e f p q = cc

continue_once : (mode : Mode) (end end' : ℕ) (ls : List Line) (s t : List Status) → end ≡ end' → Continues mode end ls s → Continues mode end' ls t → s ≡ t
continue_once mode end end' [] s t e p q = p ∙ sym q
continue_once mode end end' (l ∷ ls) s t e p q =
    let b : p.0 ≡ q.0 = block_is_one l p.0 q.0 p.3 q.3 in
    let at : p.0.pos ≡ q.0.pos = cc in
    let to : p.0.pos + p.0.size ≡ q.0.pos + q.0.size = cc in
    let gap : p.1 ≡ q.1 = gap_is_one mode end end' p.0.pos q.0.pos p.1 q.1 e at p.4 q.4 in
    let rest : p.2 ≡ q.2 = continue_once mode (p.0.pos + p.0.size) (q.0.pos + q.0.size) ls p.2 q.2 to p.6 q.6 in
    cc

lists_once : (mode : Mode) (ls : List Line) (state : MapState) (first first' : ℕ) (listed listed' : Bool) (s t : List Status)
    → Lists mode ls first listed s → Lists mode ls first' listed' t → SameReading state state first first' listed listed' s t
lists_once mode [] state first first' listed listed' s t p q = record { state_is = cc; first_is = cc; listed_is = cc; statuses_is = cc }
lists_once mode (l ∷ ls) state first first' listed listed' s t p q =
    let b : p.0 ≡ q.0 = block_is_one l p.0 q.0 p.2 q.2 in
    let to : p.0.pos + p.0.size ≡ q.0.pos + q.0.size = cc in
    let rest : p.1 ≡ q.1 = continue_once mode (p.0.pos + p.0.size) (q.0.pos + q.0.size) ls p.1 q.1 to p.6 q.6 in
    record { state_is = cc; first_is = cc; listed_is = cc; statuses_is = cc }

lines_once : (mode : Mode) (ls : List Line) (state state' : MapState) (first first' : ℕ) (listed listed' : Bool) (s t : List Status)
    → AreMapLines mode ls state first listed s → AreMapLines mode ls state' first' listed' t → SameReading state state' first first' listed listed' s t
lines_once mode [] state state' first first' listed listed' s t p q = absurd p
lines_once mode (l ∷ ls) state state' first first' listed listed' s t p q =
    let e : state ≡ state' = state_is_one l state state' p.0 q.0 in
    let same : SameReading state state first first' listed listed' s t = lists_once mode ls state first first' listed listed' s t p.1 q.1 in
    record { state_is = e; first_is = same.first_is; listed_is = same.listed_is; statuses_is = same.statuses_is }

pub has_one_reading : HasOneReading
has_one_reading text mode state state' first first' listed listed' s t p q =
    lines_once mode (said_lines text) state state' first first' listed listed' s t p.reads q.reads
