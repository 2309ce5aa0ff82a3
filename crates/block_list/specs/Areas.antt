-- How many positions a set has, and in how many areas.
use Rattle.std.specs.Prelude.{◌≡◌, ⊤, ℕ, zero, suc, ◌+◌, ◌-◌, ◌<◌, ◌≤◌, Bool, true, false, not, ◌&&◌, ◌||◌, nat_le, nat_lt, List, [], ◌∷◌, length, count_by}
use Rattle.std.specs.List.{range_with_len}
use Rattle.block_list.specs.declared.areas.Count.{Count}

-- an area of a set of positions begins at one that has none of them right before it
abbrev pub begins_area : (ℕ → Bool) → ℕ → Bool
begins_area set zero = set 0
begins_area set (suc x) = set (suc x) && not (set x)

-- how many positions below an end a set has
abbrev pub count_below : (set : ℕ → Bool) → (end : ℕ) → ℕ
count_below set end = count_by set (range_with_len 0 end)

-- how many positions below an end a set has, and in how many areas: as many as begin there
abbrev pub count_of : (set : ℕ → Bool) → (end : ℕ) → Count
count_of set end = record {
  bytes = count_below set end;
  areas = count_below (begins_area set) end;
}

-- intervals, each from one position up to another, that ascend from a position on with a gap between each two
abbrev pub AreApart : (low : ℕ) → List (ℕ × ℕ) → Type 0
AreApart low [] = ⊤
AreApart low (r ∷ rs) = (low ≤ r.0) × (r.0 < r.1) × AreApart (r.1 + 1) rs

-- one of the intervals holds a position
abbrev pub holds_one : List (ℕ × ℕ) → ℕ → Bool
holds_one [] x = false
holds_one (r ∷ rs) x = (nat_le r.0 x && nat_lt x r.1) || holds_one rs x

-- The areas of a set are its maximal intervals: those that hold its positions with a gap between each two.
abbrev pub AreasAreIntervals : Type 0
AreasAreIntervals =
    (set : ℕ → Bool) (end : ℕ) → ((x : ℕ) → set x ≡ true → x < end)
    → (intervals : List (ℕ × ℕ)) × AreApart 0 intervals × ((x : ℕ) → holds_one intervals x ≡ set x)
    × (length intervals ≡ (count_of set end).areas)

-- two sets have the same positions before one position, and the same from another one on
pub record AgreeOutside (p q : ℕ) (old new : ℕ → Bool) : Type 0 where
  pub front : (x : ℕ) → x < p → new x ≡ old x
  pub back : (x : ℕ) → q ≤ x → new x ≡ old x

-- If a set changes only between two positions, areas begin and cease to begin only there, or at the second one.
abbrev pub AreasChangeWithin : Type 0
AreasChangeWithin =
    (old new : ℕ → Bool) (p q end : ℕ) → p < q → q < end → AgreeOutside p q old new
    → (count_of new end).areas + count_by (begins_area old) (range_with_len p (q + 1 - p))
    ≡ (count_of old end).areas + count_by (begins_area new) (range_with_len p (q + 1 - p))
