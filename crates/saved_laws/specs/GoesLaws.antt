-- What holds of a rescue by what it did alone, whatever called for it.
use Rattle.std.specs.Prelude.{◌≡◌, ℕ, ◌+◌, ◌≤◌, true, List, ◌∷◌, ◌++◌, length, take, count_by, map, All, Option, Some}
use Rattle.crash_site.specs.Files.{File}
use Rattle.rescue_rules.specs.Setting.{Setting, IsSensible}
use Rattle.rescue_rules.specs.Step.{Event, save_interval}
use Rattle.rescue_rules.specs.Events.{began_at, events_of, reads_of}
use Rattle.rescue_rules.specs.Given.{given}
use Rattle.rescue_rules.specs.Stops.{Before, files_before, is_write, LeftBy}
use Rattle.rescue_rules.specs.StopsBy.{RescueStopsBy}
use Rattle.rescue_rules.specs.Work.{Gain, Goes}
use Rattle.rescue_safety.specs.Saves.{CallsFinished}
use Rattle.rescue_safety.specs.Safe.{reads_until}
use Rattle.saved_laws.specs.Failed.{MarksTried, FailedOf}

-- A rescue with a mapfile did what a rescue may do after those calls, and any stop of it leaves what is promised.
pub record GoesSafely (b : Before) (s : Setting) (g : Gain) : Type 0 where
  pub sensible : IsSensible s
  pub named : s.has_mapfile ≡ true
  pub goes : Goes s (files_before b) g
  pub stops : RescueStopsBy b s g

-- When the first k calls have ended and the next is in progress, a late read after the old ones has begun to be
-- written, and a later one. By the clock's readings, which may go back, the late read ended 30 seconds or more after
-- the run's first one, and after the end of each old one.
pub record AreOld (s : Setting) (g : Gain) (k : ℕ) (old : List Event) : Type 0 where
  pub between : List Event
  pub late : Event
  pub later : Event
  pub more : List Event
  pub begun : events_of (reads_until s.sector (count_by is_write (take (k + 1) g.calls)) g.reads) g.times
      ≡ old ++ (between ++ late ∷ later ∷ more)
  pub enough : All (λ t. t + save_interval ≤ late.after) (began_at g.times ∷ map (λ e. e.after) old)

-- `LossIsBounded`, by what a rescue did: every stop finds finished what old reads gave, and tried what they asked for
-- in vain.
abbrev pub LossIsBoundedIn : Type 0
LossIsBoundedIn = (b : Before) (s : Setting) (g : Gain) (k : ℕ) (files : List ℕ → Option File) (old : List Event)
    (x : ℕ) → GoesSafely b s g → k ≤ length g.calls → LeftBy b g.calls k files → AreOld s g k old
    → ((byte : ℕ) → given s.sector (reads_of old) x ≡ Some byte → CallsFinished (files s.names.map) x)
    × (FailedOf s.sector (reads_of old) x → MarksTried (files s.names.map) x)
