-- What a read changes: the marks, the mode of trimming, the cursor and the skip, the counts and the times, what is left
-- of the domain, and the line that was put last.
use Rattle.std.specs.Prelude.{ℕ, ◌+◌, ◌-◌, ◌*◌, ◌/◌, min, Bool, true, false, ◌&&◌, ◌||◌, not, nat_le, nat_lt, List, length, Option, Some, None, option_map, if◌then◌else◌}
use Rattle.run_options.specs.declared.limits.AreaLimit.{AreaLimit}
use Rattle.run_options.specs.declared.limits.AreaLimit.TheVariants.{New, Total}
use Rattle.block_list.specs.declared.status.Status.{Status}
use Rattle.block_list.specs.declared.status.Status.TheVariants.{NonTrimmed, NonScraped, BadSector, Finished}
use Rattle.block_list.specs.Map.{marked}
use Rattle.mapfile_text.specs.declared.state.MapState.{MapState}
use Rattle.fault_count.specs.Counts.{raised}
use Rattle.faulty_source.specs.Journal.{Reading, is_whole, is_failed, kept}
use Rattle.rescue_rules.specs.declared.stop.TrimMode.{TrimMode}
use Rattle.rescue_rules.specs.declared.stop.TrimMode.TheVariants.{Lead, Tail}
use Rattle.rescue_rules.specs.declared.stop.Limit.{Limit}
use Rattle.rescue_rules.specs.declared.stop.Limit.TheVariants.{TooManyErrors, TooManyAreas, TimedOut}
use Rattle.rescue_rules.specs.declared.tally.Tally.{Tally}
use Rattle.rescue_rules.specs.Setting.{Setting}
use Rattle.rescue_rules.specs.declared.phase.Phase.{Phase}
use Rattle.rescue_rules.specs.declared.phase.Phase.TheVariants.{Copying, Trimming}
use Rattle.rescue_rules.specs.Passes.{current_of, is_up}
use Rattle.rescue_rules.specs.Counts.{counts_of}
use Rattle.rescue_rules.specs.Machine.{Machine, pass_of, is_live, is_wanted}
use Rattle.rescue_rules.specs.Said.{said_after, more_written}

-- a read, and the times before it and after it
pub record Event : Type 0 where
  pub reading : Reading
  pub before : ℕ
  pub after : ℕ

-- the phase is copying
abbrev pub copies : Phase → Bool
copies Copying = true
copies phase = false

-- the phase is trimming
abbrev pub trims : Phase → Bool
trims Trimming = true
trims phase = false

-- the present pass is one of copying
abbrev pub is_copying : Machine → Bool
is_copying m = copies (pass_of m).phase

-- the present pass is one of trimming
abbrev pub is_trimming : Machine → Bool
is_trimming m = trims (pass_of m).phase

-- a whole read is slow that gave too few bytes a second
abbrev pub is_slow : Setting → Event → Bool
is_slow s e = is_whole e.reading && nat_lt (length e.reading.given * 1000) (s.skips.min_rate * (e.after - e.before))

-- what isn't kept is for trimming, if copying asked for it and it is longer than a sector; else it is bad
abbrev pub rest_status : Setting → Machine → ℕ → Status
rest_status s m size = if is_copying m && nat_lt s.sector size then NonTrimmed else BadSector

-- after a failed read at a range's back, what lies between its front and its back is for scraping
abbrev pub scraped : TrimMode → ℕ → List Status → List Status
scraped Lead p map = map
scraped (Tail low) p map = marked map low (p - low) NonScraped

-- the earlier of two ends, if there is another
abbrev pub earlier : Option ℕ → ℕ → ℕ
earlier None end = end
earlier (Some other) end = min other end

-- where the input was found to end, after a read
abbrev pub over_after : Machine → Reading → Option ℕ
over_after m r = if r.ended then Some (earlier m.tally.over (r.pos + length r.given)) else m.tally.over

-- the kept part is finished, and of a read that failed the rest is marked; what an end cut off is unchanged
abbrev pub map_after : Setting → Machine → Reading → List Status
map_after s m r =
    let good : List Status = marked m.map r.pos (kept s.sector r) Finished in
    let rest : ℕ = r.asked - kept s.sector r in
    if is_failed r
    then scraped m.progress.mode r.pos (marked good (r.pos + kept s.sector r) rest (rest_status s m rest))
    else good

-- Trimming goes from a range's front to its back if a read failed and there is more of it; it stays there until
-- the range has no more or a read fails.
abbrev pub mode_after : TrimMode → (good more : Bool) → (p q : ℕ) → TrimMode
mode_after Lead true more p q = Lead
mode_after Lead false more p q = if more then Tail q else Lead
mode_after (Tail low) true more p q = if nat_lt low p then Tail low else Lead
mode_after (Tail low) false more p q = Lead

-- copying jumps after a read that failed in its first four passes, or was slow in its first two
abbrev pub is_jump : Setting → Machine → Event → Bool
is_jump s m e = is_copying m
    && (if is_failed e.reading then nat_le (pass_of m).number 4 else is_slow s e && nat_le (pass_of m).number 2)

-- how far upwards a read goes: to its end, or to that of the input
abbrev pub reach : Reading → ℕ
reach r = r.pos + (if r.ended then length r.given else r.asked)

-- the cursor goes to the read's far end, or beyond it by a jump, within the map; in trimming to the read's position
abbrev pub cursor_after : Setting → Machine → Event → ℕ
cursor_after s m e =
    let jump : ℕ = if is_jump s m e then m.progress.skip else 0 in
    if is_trimming m then e.reading.pos
    else if is_up s (pass_of m) then min (length m.map) (reach e.reading + jump)
    else e.reading.pos - jump

-- a jump doubles the next one, and a read that neither failed nor was slow makes it small again
abbrev pub skip_after : Setting → Machine → Event → ℕ
skip_after s m e =
    if is_jump s m e then min (2 * m.progress.skip) s.skips.most
    else if is_failed e.reading || is_slow s e then m.progress.skip else s.skips.first

-- the milliseconds between two due saves
abbrev pub save_interval : ℕ
save_interval = 30000

-- an event comes long enough after the last due save
abbrev pub is_timely : Machine → Event → Bool
is_timely m e = nat_le (m.tally.due_at + save_interval) e.after

-- what a run has come to after an event, by what a mapfile then shows, how many bytes more were written, and the time
abbrev pub tally_at : Tally → (shown : MapState) → (more after : ℕ) → Tally
tally_at t shown more after = record t {
  now = after;
  due_at = if nat_le (t.due_at + save_interval) after then after else t.due_at;
  shown = shown;
  written = more_written t.written more;
  had_event = true;
  said = said_after t.said shown.current (after / 1000);
}

-- what a mapfile shows of a state after an event
abbrev pub shown_after : Setting → Machine → Event → MapState
shown_after s m e =
    record { pos = cursor_after s m e; current = current_of (pass_of m).phase; pass = (pass_of m).number }

-- the state after an event
abbrev pub step : Setting → Machine → Event → Machine
step s m e =
    let r : Reading = e.reading in
    let n : Machine = record m { map = map_after s m r } in
    record n {
      progress = record m.progress {
        cursor = cursor_after s m e;
        mode = if is_trimming m
            then mode_after m.progress.mode (not (is_failed r)) (is_wanted s n (r.pos + r.asked)) r.pos
            (r.pos + r.asked)
            else Lead;
        skip = skip_after s m e;
      };
      tally = record (tally_at m.tally (shown_after s m e) (kept s.sector r) e.after) {
        failed = if is_failed r then raised m.tally.failed else m.tally.failed;
        whole_at = if is_failed r then m.tally.whole_at else e.after;
        over = over_after m r;
      };
    }

-- there is a limit, and a number exceeds it
abbrev pub exceeds : Option ℕ → ℕ → Bool
exceeds None n = false
exceeds (Some limit) n = nat_lt limit n

-- in how many areas what is left of the domain has failed
abbrev pub areas_of : Setting → Machine → ℕ
areas_of s m = (counts_of (is_live s m) m.map).failed.areas

-- how many areas may have failed by a limit: if new ones alone count, those that had failed at first come on top
abbrev pub allowed_by : (first : ℕ) → AreaLimit → ℕ
allowed_by first (Total n) = n
allowed_by first (New n) = first + n

-- how many areas may have failed, if there is a limit
abbrev pub areas_allowed : Setting → Machine → Option ℕ
areas_allowed s m = option_map (allowed_by m.tally.first_areas) s.limits.areas

-- how many milliseconds there may be no read but failed ones, if there is a limit
abbrev pub time_allowed : Setting → Option ℕ
time_allowed s = option_map (λ n. n * 1000) s.limits.timeout

-- The limit that a state has met: too many failed reads, or else too many areas, or else too long without a read that
-- didn't fail. Before the first event there is none.
abbrev pub limit_met : Setting → Machine → Option Limit
limit_met s m =
    if not m.tally.had_event then None
    else if exceeds s.limits.errors m.tally.failed then Some (TooManyErrors m.tally.failed)
    else if exceeds (areas_allowed s m) (areas_of s m) then Some (TooManyAreas (areas_of s m))
    else if exceeds (time_allowed s) (m.tally.now - m.tally.whole_at)
    then Some (TimedOut (m.tally.now - m.tally.whole_at))
    else None
