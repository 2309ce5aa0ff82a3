-- Fill mode and generate mode: the map is swept once, upwards, piece by piece.
use Rattle.std.specs.Prelude.{◌≡◌, ℕ, ◌+◌, ◌-◌, min, max, Bool, true, false, not, ◌&&◌, ◌≤◌, ⊤, nat_eq, nat_le, nat_lt, List, [], ◌∷◌, length, take, slice_get, Option, Some, None, if◌then◌else◌}
use Rattle.std.specs.List.{list_any, range_with_len}
use Rattle.block_list.specs.declared.status.Status.{Status}
use Rattle.block_list.specs.declared.status.Status.TheVariants.{NonTried, Finished}
use Rattle.block_list.specs.declared.types.TypeSet.{TypeSet}
use Rattle.block_list.specs.Status.{same}
use Rattle.block_list.specs.Types.{has_type}
use Rattle.mapfile_text.specs.declared.state.MapState.{MapState}
use Rattle.mapfile_text.specs.declared.state.Current.{Current}
use Rattle.mapfile_text.specs.declared.state.Current.TheVariants.{Filling, Generating}
use Rattle.mapfile_text.specs.Printed.{current_symbol}
use Rattle.faulty_source.specs.Journal.{floor}
use Rattle.crash_site.specs.Calls.{Call, image_read, image_write}
use Rattle.rescue_rules.specs.declared.tally.Tally.{Tally}
use Rattle.rescue_rules.specs.Setting.{Setting, place}
use Rattle.rescue_rules.specs.Counts.{passing}
use Rattle.rescue_rules.specs.Machine.{IsNextRange, cut_end, Search}
use Rattle.rescue_rules.specs.Step.{save_interval, tally_at}
use Rattle.rescue_rules.specs.Preparation.{changed_from}
use Rattle.rescue_rules.specs.Beginning.{shown_at_first, tally_at_first}
use Rattle.rescue_rules.specs.Snapshots.{Snapshot, snapshot_with, finished_with}
use Rattle.rescue_rules.specs.Deeds.{Deed}

-- A piece that was done: where it begins, its length, the bytes that the output gave if it was read (none if it
-- was written), and the time after it.
pub record Swept : Type 0 where
  pub pos : ℕ
  pub len : ℕ
  pub got : List ℕ
  pub after : ℕ

-- What a sweep does: the statuses that it takes, and what a mapfile shows meanwhile. For a piece: its call on the
-- output, whether that may have given what it did, what the piece makes of the map, and how many bytes it writes.
-- Whether an output that is absent is made; and whether it takes memory before a piece.
pub record Sweeper : Type 0 where
  pub takes : Status → Bool
  pub current : Current
  pub call : Swept → Call
  pub gives : Swept → Bool
  pub marks : List Status → Swept → List Status
  pub writes : Swept → ℕ
  pub makes : Bool
  pub starves : Bool

-- Fill mode writes the buffer's front at each piece's place, and leaves the map.
abbrev pub filler : Setting → TypeSet → (buffer : List ℕ) → Sweeper
filler s types buffer = record {
  takes = has_type types;
  current = Filling;
  call = λ e. image_write (place s e.pos) (take e.len buffer);
  gives = λ e. nat_eq (length e.got) 0;
  marks = λ map e. map;
  writes = λ e. e.len;
  makes = true;
  starves = false;
}

-- there is a byte, and it is other than zero
abbrev pub is_not_zero : Option ℕ → Bool
is_not_zero None = false
is_not_zero (Some b) = not (nat_eq b 0)

-- the output gave a byte other than zero for a position
abbrev pub is_there : Swept → ℕ → Bool
is_there e x = is_not_zero (slice_get e.got (x - e.pos))

-- the sector part of a piece that has a position: pieces are cut at multiples of the sector, in positions
abbrev pub part_of : (sector : ℕ) → Swept → ℕ → List ℕ
part_of sector e x =
    range_with_len (max e.pos (floor sector x))
    (min (e.pos + e.len) (floor sector x + sector) - max e.pos (floor sector x))

-- A position of a piece is generated if the output gave a byte for it, and for some position of its sector part one
-- other than zero.
abbrev pub is_generated : Setting → Swept → ℕ → Bool
is_generated s e x =
    nat_le e.pos x && nat_lt x (e.pos + length e.got) && list_any (is_there e) (part_of s.sector e x)

-- Generate mode reads each piece from its place, and marks as finished what of it is generated.
abbrev pub generator : Setting → Sweeper
generator s = record {
  takes = same NonTried;
  current = Generating;
  call = λ e. image_read (place s e.pos) e.len (Some (length e.got));
  gives = λ e. nat_le (length e.got) e.len;
  marks = λ map e. changed_from (is_generated s e) (λ status. Finished) 0 map;
  writes = λ e. 0;
  makes = false;
  starves = true;
}

-- where a sweep is: its map, the position from which it looks for its next piece, and what it has come to
pub record Sweep : Type 0 where
  pub map : List Status
  pub cursor : ℕ
  pub tally : Tally

-- A sweep resumes from the position that a mapfile showed if that was of a sweep of this kind, and else begins at 0.
abbrev pub sweep_from : Current → Option MapState → ℕ
sweep_from current None = 0
sweep_from current (Some state) =
    if nat_eq (current_symbol state.current) (current_symbol current) then state.pos else 0

-- A sweep as it begins over a map, at this time. What its mapfile showed stays until the first piece.
abbrev pub sweep_over : Sweeper → List Status → Option MapState → (time : ℕ) → Sweep
sweep_over w map state time = record {
  map = map;
  cursor = sweep_from w.current state;
  tally = tally_at_first (shown_at_first state) time 0;
}

-- a sweep takes a position: one of the domain, with a status that its sweeper takes
abbrev pub IsTaken : Setting → Sweeper → Sweep → ℕ → Type 0
IsTaken s w m x = passing w.takes s.domain m.map x ≡ true

-- how a sweep's next piece is found: upwards from its cursor, at most a cluster (the same cut as copying's, upwards)
abbrev pub sweep_search : Setting → Sweep → Search
sweep_search s m = record { up = true; from = m.cursor; front = true; size = s.cluster }

-- a sweep's next piece, from p up to q: the front of the next range of positions that it takes, at most a cluster, up
-- to a sector's boundary
pub record IsPiece (s : Setting) (w : Sweeper) (m : Sweep) (p q : ℕ) : Type 0 where
  pub end : ℕ
  pub range : IsNextRange true (IsTaken s w m) m.cursor p end
  pub ends : q ≡ cut_end (sweep_search s m) s.sector p end

-- a save is due after a piece that comes long enough after the last due one
abbrev pub is_save_due : Sweep → Swept → Bool
is_save_due m e = nat_le (m.tally.due_at + save_interval) e.after

-- the state after a piece
abbrev pub after_piece : Sweeper → Sweep → Swept → Sweep
after_piece w m e = record {
  map = w.marks m.map e;
  cursor = e.pos + e.len;
  tally = tally_at m.tally (record { pos = e.pos + e.len; current = w.current; pass = 1 }) (w.writes e) e.after;
}

-- the state after pieces, one after the other
abbrev pub after_pieces : Sweeper → Sweep → List Swept → Sweep
after_pieces w m [] = m
after_pieces w m (e ∷ es) = after_pieces w (after_piece w m e) es

-- the pieces are a sweep from a state
abbrev pub IsSweep : Setting → Sweeper → Sweep → List Swept → Type 0
IsSweep s w m [] = ⊤
IsSweep s w m (e ∷ es) = IsPiece s w m e.pos (e.pos + e.len) × (w.gives e ≡ true) × IsSweep s w (after_piece w m e) es

-- no piece is left
abbrev pub IsSweptOut : Setting → Sweeper → Sweep → Type 0
IsSweptOut s w m = (x : ℕ) → m.cursor ≤ x → IsTaken s w m x → ⊥

-- what a save shows of a sweep
abbrev pub sweep_snapshot : Sweep → Snapshot
sweep_snapshot m = snapshot_with m.map m.tally

-- what the save at a sweep's end shows, whether the sweep is finished or not
abbrev pub sweep_end : (done : Bool) → Sweep → Snapshot
sweep_end done m = if done then finished_with m.map m.tally else snapshot_with m.map m.tally

-- the save that is due after a piece, if one is
abbrev pub due_save : Sweeper → Sweep → Swept → Option Snapshot
due_save w m e = if is_save_due m e then Some (sweep_snapshot (after_piece w m e)) else None

-- what each piece does on the files: its call, and the save that is due after it
abbrev pub deeds_of : Sweeper → Sweep → List Swept → List Deed
deeds_of w m [] = []
deeds_of w m (e ∷ es) = record { calls = w.call e ∷ []; save = due_save w m e } ∷ deeds_of w (after_piece w m e) es
