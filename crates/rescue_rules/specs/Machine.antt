-- Where a rescue is, and what it asks for there.
use Rattle.std.specs.Prelude.{◌≡◌, ℕ, ◌+◌, ◌-◌, ◌*◌, ◌/◌, min, max, Bool, true, false, ◌&&◌, nat_le, nat_lt, List, [], ◌∷◌, length, slice_get, slice_index_or, Option, Some, None, if◌then◌else◌}
use Rattle.std.specs.List.{list_any, range_with_len}
use Rattle.block_list.specs.declared.status.Status.{Status}
use Rattle.block_list.specs.Status.{same}
use Rattle.block_list.specs.Places.{IsFirst, IsLast, IsRangeUp, IsRangeDown}
use Rattle.faulty_source.specs.Ends.{is_before}
use Rattle.faulty_source.specs.Journal.{floor}
use Rattle.rescue_rules.specs.declared.stop.TrimMode.{TrimMode}
use Rattle.rescue_rules.specs.declared.stop.TrimMode.TheVariants.{Lead, Tail}
use Rattle.rescue_rules.specs.Setting.{Setting}
use Rattle.rescue_rules.specs.declared.phase.Phase.{Phase}
use Rattle.rescue_rules.specs.declared.phase.Phase.TheVariants.{Copying, Trimming, Scraping, Retrying}
use Rattle.rescue_rules.specs.Passes.{Pass, taken, is_up, numbered}
use Rattle.rescue_rules.specs.declared.progress.Progress.{Progress}
use Rattle.rescue_rules.specs.declared.tally.Tally.{Tally}

-- the state of a rescue: its map, its passes, its progress and its tally
pub record Machine : Type 0 where
  pub map : List Status
  -- the pass that it is in, and those after it
  pub passes : List Pass
  -- the number of the pass that it is in, its cursor, its mode of trimming and its skip
  pub progress : Progress
  -- its counts and times, the input's end if a read met it, and what it last showed and said
  pub tally : Tally

-- the pass that a machine is in
abbrev pub pass_of : Machine → Pass
pass_of m = slice_index_or m.passes 0 (numbered Copying 1)

-- where a pass over a map begins
abbrev pub start_of : Setting → Pass → List Status → ℕ
start_of s p map = if is_up s p then 0 else length map

-- how far a rescue is at the start of a pass over a map
abbrev pub at_start : Setting → Pass → List Status → Progress
at_start s p map = record { pass = p.number; cursor = start_of s p map; mode = Lead; skip = s.skips.first }

-- a position has the status that the present pass asks for
abbrev pub has_taken : List Pass → Option Status → Bool
has_taken [] status = false
has_taken (p ∷ ps) None = false
has_taken (p ∷ ps) (Some status) = same status (taken p.phase)

-- the positions that are left of the domain
abbrev pub is_live : Setting → Machine → ℕ → Bool
is_live s m x = s.domain x && is_before m.tally.over x

-- the test for a wanted position: it is left of the domain and has the status that the pass asks for
abbrev pub is_wanted : Setting → Machine → ℕ → Bool
is_wanted s m x = is_live s m x && has_taken m.passes (slice_get m.map x)

-- a position is wanted: the pass asks for it
abbrev pub IsWanted : Setting → Machine → ℕ → Type 0
IsWanted s m x = is_wanted s m x ≡ true

-- How a request is found: upwards or downwards, from where, cut from the front of the range that is found or from its
-- back, and how long at most
pub record Search : Type 0 where
  pub up : Bool
  pub from : ℕ
  pub front : Bool
  pub size : ℕ

-- Trimming takes the front of a range, and then the back of the same range; all else begins at the cursor.
abbrev pub search_in : Setting → Machine → Phase → TrimMode → Search
search_in s m Copying mode =
    record { up = is_up s (pass_of m); from = m.progress.cursor; front = is_up s (pass_of m); size = s.cluster }
search_in s m Trimming Lead =
    record { up = is_up s (pass_of m); from = start_of s (pass_of m) m.map; front = true; size = s.sector }
search_in s m Trimming (Tail low) = record { up = true; from = low; front = false; size = s.sector }
search_in s m Scraping mode =
    record { up = is_up s (pass_of m); from = m.progress.cursor; front = is_up s (pass_of m); size = s.sector }
search_in s m Retrying mode =
    record { up = is_up s (pass_of m); from = m.progress.cursor; front = is_up s (pass_of m); size = s.sector }

-- how the request of a state is found, by its pass and its mode of trimming
abbrev pub search_of : Setting → Machine → Search
search_of s m = search_in s m (pass_of m).phase m.progress.mode

-- upwards the first range of wanted positions at or past a place; downwards the last one that ends there or before
abbrev pub IsNextRange : (up : Bool) → (ℕ → Type 0) → ℕ → (start end : ℕ) → Type 0
IsNextRange true P from start end = IsFirst P from start × IsRangeUp P start end
IsNextRange false P from start end = IsLast P from end × IsRangeDown P start end

-- x rounded up to a multiple of b
abbrev pub ceiling : ℕ → ℕ → ℕ
ceiling b x = (x + (b - 1)) / b * b

-- where a request in a range begins: at the range's front, or a search's size before its end, up to a sector's boundary
abbrev pub cut_start : Search → (sector start end : ℕ) → ℕ
cut_start f sector start end = if f.front then start else max start (ceiling sector (end - f.size))

-- where a request in a range ends: at the range's end, or a search's size past its front, down to a sector's boundary
abbrev pub cut_end : Search → (sector start end : ℕ) → ℕ
cut_end f sector start end = if f.front then min end (floor sector (start + f.size)) else end

-- the request, from p up to q
pub record IsRequest (s : Setting) (m : Machine) (p q : ℕ) : Type 0 where
  pub start : ℕ
  pub end : ℕ
  pub range : IsNextRange (search_of s m).up (IsWanted s m) (search_of s m).from start end
  pub starts : p ≡ cut_start (search_of s m) s.sector start end
  pub ends : q ≡ cut_end (search_of s m) s.sector start end

-- a position lies ahead of a search, in its direction
abbrev pub is_ahead : Search → ℕ → Bool
is_ahead f x = if f.up then nat_le f.from x else nat_lt x f.from

-- the test for a state that has a request: a wanted position lies ahead
abbrev pub has_request : Setting → Machine → Bool
has_request s m = list_any (λ x. is_wanted s m x && is_ahead (search_of s m) x) (range_with_len 0 (length m.map))
