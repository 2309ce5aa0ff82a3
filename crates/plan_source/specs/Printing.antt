-- What a console got of a journal's lines. For contracts and proofs: no promise uses it.
use Rattle.std.specs.Prelude.{◌≡◌, ℕ, ◌-◌, ◌<◌, Bool, true, false, IsTrue, List, [], ◌∷◌, ◌++◌, length, take, drop, Option, Some, None}
use Rattle.fault_count.specs.Counts.{Rose}
use Rattle.fault_count.specs.Schedule.{Schedule, no_schedule, with_call}
use Rattle.faulty_source.specs.declared.journal.ReadEntry.{ReadEntry}
use Rattle.rescue_console.specs.declared.console.Channel.TheVariants.{Out}
use Rattle.rescue_console.specs.ConsoleState.{ConsoleState, Puts, StaysBeside}
use Rattle.plan_source.specs.declared.loss.PlanLoss.{PlanLoss}
use Rattle.plan_source.specs.declared.loss.PlanLoss.TheVariants.{Memory, Console}
use Rattle.plan_source.specs.Lines.{lines_of_entries}

-- a console of which nothing is known
abbrev pub unknown : ConsoleState
unknown = record {
  tells = false;
  out = record { text = []; faults = 0 };
  err = record { text = []; faults = 0 };
  is_scheduled = false;
  schedule = no_schedule;
  starved = 0;
}

-- reads are lost since a line couldn't be put
abbrev pub is_line_lost : Option PlanLoss → Bool
is_line_lost None = false
is_line_lost (Some Memory) = false
is_line_lost (Some Console) = true

-- no read was lost without a reason, and at least one was if memory was short
pub record AreCounted (lost : Option PlanLoss) (losses : ℕ) : Type 0 where
  pub none : lost ≡ None → losses ≡ 0
  pub some : lost ≡ Some Memory → 0 < losses

-- a text is another one and a beginning of a piece after it
pub record BeginsAfter (piece before now : List ℕ) : Type 0 where
  pub is : now ≡ before ++ drop (length before) now
  pub part : take (length now - length before) piece ≡ drop (length before) now

-- the last entry of a journal, if it has one
abbrev pub last_of : List ReadEntry → List ReadEntry
last_of entries = drop (length entries - 1) entries

-- the entries of a journal before the last one
abbrev pub but_last : List ReadEntry → List ReadEntry
but_last entries = take (length entries - 1) entries

-- the lines of a journal were put, in order, but the last one's put failed: a beginning of it was put, and nothing of
-- it if it failed by a schedule
pub record BreaksLast (entries : List ReadEntry) (start now : ConsoleState) : Type 0 where
  pub some : 0 < length entries
  pub stays : StaysBeside Out start now
  pub text : IsTrue start.tells → BeginsAfter (lines_of_entries (last_of entries))
      (start.out.text ++ lines_of_entries (but_last entries)) now.out.text
  pub unput : IsTrue start.is_scheduled → IsTrue start.tells
      → now.out.text ≡ start.out.text ++ lines_of_entries (but_last entries)
  pub rose : Rose start.out.faults now.out.faults

-- a schedule after a call for each of these entries
abbrev pub after_each : List ReadEntry → Schedule → Schedule
after_each [] s = s
after_each (e ∷ entries) s = after_each entries (with_call s)

-- what a console got of a journal's lines, by why further reads are lost: each, whole and in order, or the last one's
-- put failed; and by its schedule it was called once for each
pub record HasPrinted (start now : ConsoleState) (entries : List ReadEntry) (lost : Option PlanLoss) : Type 0 where
  pub whole : is_line_lost lost ≡ false → Puts Out (lines_of_entries entries) start now
  pub broken : is_line_lost lost ≡ true → BreaksLast entries start now
  pub none : entries ≡ [] → now ≡ start
  pub calls : IsTrue start.is_scheduled → now.schedule ≡ after_each entries start.schedule
