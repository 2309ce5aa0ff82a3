-- A text is a map or has a fault: its lines are read in order, up to the first that breaks a rule.
use Rattle.std.proofs.Common.{◌≡◌, ◌⊎◌, ℕ, ◌+◌, ◌-◌, ◌^◌, Bool, true, false, List, [], ◌∷◌, ◌++◌, replicate, Option, Some, None, refl, inl, inr, arith}
use Rattle.std.proofs.lemmas.Bool.{cases_lt}
use Rattle.block_list.specs.declared.status.Status.{Status}
use Rattle.block_list.specs.declared.status.Status.TheVariants.{NonTried}
use Rattle.block_list.specs.declared.block.Block.{Block}
use Rattle.mapfile_text.specs.declared.state.MapState.{MapState}
use Rattle.mapfile_text.specs.declared.read.Mode.{Mode}
use Rattle.mapfile_text.specs.declared.read.Mode.TheVariants.{Tight, Loose}
use Rattle.mapfile_text.specs.declared.read.MapError.{MapError}
use Rattle.mapfile_text.specs.declared.read.MapError.TheVariants.{NoStatusLine, BadStatusLine, BadBlockLine, Gap, Overlap, TooLarge}
use Rattle.mapfile_text.specs.Lines.{Line, said_lines}
use Rattle.mapfile_text.specs.Fields.{state_of, block_of}
use Rattle.mapfile_text.specs.MapText.{IsStateLine, IsBlockLine, IsGap, Continues, Lists, AreMapLines, StateFault, BlockFault, PlaceFault, ContinuesFault, ListsFault, MapLinesFault}
use Rattle.mapfile_text.specs.Laws.{IsMapOrHasFault}

state_by_spelling : (l : Line) (spelt : Option MapState) → state_of l.fields ≡ spelt
    → ((state : MapState) × IsStateLine l state) ⊎ ((e : MapError) × StateFault l e)
state_by_spelling l None h = inr (BadStatusLine l.number, inl (refl, h))
state_by_spelling l (Some s) h =
    elim (cases_lt s.pos (2 ^ 63)) [
      | inl pos ↦
          elim (cases_lt s.pass (2 ^ 32)) [
            | inl pass ↦ inl (s, record { spells = h; pos = pos; pass = pass })
            | inr large ↦ inr (TooLarge l.number, inr (refl, s, h, inr large))
          ]
      | inr large ↦ inr (TooLarge l.number, inr (refl, s, h, inl large))
    ]

block_by_spelling : (l : Line) (spelt : Option Block) → block_of l.fields ≡ spelt → ((block : Block) × IsBlockLine l block) ⊎ ((e : MapError) × BlockFault l e)
block_by_spelling l None h = inr (BadBlockLine l.number, inl (refl, h))
block_by_spelling l (Some b) h =
    elim (cases_lt (b.pos + b.size) (2 ^ 63)) [
      | inl end ↦ inl (b, record { spells = h; end = end })
      | inr large ↦ inr (TooLarge l.number, inr (refl, b, h, large))
    ]

place_or_fault : (mode : Mode) (end : ℕ) (l : Line) (b : Block) → ((gap : List Status) × IsGap mode end b.pos gap)
    ⊎ ((e : MapError) × PlaceFault mode end l b e)
place_or_fault Tight end l b =
    elim (cases_lt b.pos end) [
      | inl below ↦ inr (Overlap l.number, inl (refl, below))
      | inr from ↦
          elim (cases_lt end b.pos) [
            | inl above ↦ inr (Gap l.number, inr (refl, above))
            | inr to ↦ inl ([], (omega arith, refl))
          ]
    ]
place_or_fault (Loose status) end l b =
    elim (cases_lt b.pos end) [
      | inl below ↦ inr (Overlap l.number, (refl, below))
      | inr from ↦ inl (replicate (b.pos - end) status, (from, refl))
    ]

continue_or_fault : (mode : Mode) (end : ℕ) (ls : List Line)
    → ((statuses : List Status) × Continues mode end ls statuses) ⊎ ((e : MapError) × ContinuesFault mode end ls e)
continue_or_fault mode end [] = inl ([], refl)
continue_or_fault mode end (l ∷ ls) =
    elim (block_by_spelling l (block_of l.fields) refl) [
      | inr f ↦ inr (f.0, inl f.1)
      | inl b ↦
          elim (place_or_fault mode end l b.0) [
            | inr f ↦ inr (f.0, inr (inl (b.0, b.1, f.1)))
            | inl gap ↦
                elim (continue_or_fault mode (b.0.pos + b.0.size) ls) [
                  | inr f ↦ inr (f.0, inr (inr (b.0, gap.0, b.1, gap.1, f.1)))
                  | inl rest ↦ inl (gap.0 ++ (replicate b.0.size b.0.status ++ rest.0), (b.0, gap.0, rest.0, b.1, gap.1, refl, rest.1))
                ]
          ]
    ]

lists_or_fault : (mode : Mode) (ls : List Line)
    → ((first : ℕ) × (listed : Bool) × (statuses : List Status) × Lists mode ls first listed statuses)
    ⊎ ((e : MapError) × ListsFault mode ls e)
lists_or_fault mode [] = inl (0, false, [], (refl, refl, refl))
lists_or_fault mode (l ∷ ls) =
    elim (block_by_spelling l (block_of l.fields) refl) [
      | inr f ↦ inr (f.0, inl f.1)
      | inl b ↦
          elim (continue_or_fault mode (b.0.pos + b.0.size) ls) [
            | inr f ↦ inr (f.0, inr (b.0, b.1, f.1))
            | inl rest ↦ inl (
              b.0.pos,
              true,
              replicate b.0.pos NonTried ++ (replicate b.0.size b.0.status ++ rest.0),
              (b.0, rest.0, b.1, refl, refl, refl, rest.1),
            )
          ]
    ]

lines_or_fault : (mode : Mode) (ls : List Line)
    → ((state : MapState) × (first : ℕ) × (listed : Bool) × (statuses : List Status)
    × AreMapLines mode ls state first listed statuses) ⊎ ((e : MapError) × MapLinesFault mode ls e)
lines_or_fault mode [] = inr (NoStatusLine, refl)
lines_or_fault mode (l ∷ ls) =
    elim (state_by_spelling l (state_of l.fields) refl) [
      | inr f ↦ inr (f.0, inl f.1)
      | inl s ↦
          elim (lists_or_fault mode ls) [
            | inr f ↦ inr (f.0, inr (s.0, s.1, f.1))
            | inl listing ↦ inl (s.0, listing.0, listing.1, listing.2, (s.1, listing.3))
          ]
    ]

pub is_map_or_has_fault : IsMapOrHasFault
is_map_or_has_fault text mode =
    elim (lines_or_fault mode (said_lines text)) [
      | inl map ↦ inl (map.0, map.1, map.2, map.3, record { reads = map.4 })
      | inr f ↦ inr (f.0, record { breaks = f.1 })
    ]
