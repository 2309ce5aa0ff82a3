-- Small runs, computed.
use Rattle.std.specs.Prelude.{◌≡◌, ℕ, ◌+◌, true, false, nat_lt, List, [], ◌∷◌, map, replicate, None}
use Rattle.block_list.specs.declared.status.Status.TheVariants.{NonTried, BadSector, Finished}
use Rattle.run_options.specs.Limits.{no_limits}
use Rattle.run_options.specs.Passes.{all_phases_once}
use Rattle.rescue_rules.specs.Setting.{Setting}
use Rattle.rescue_rules.specs.declared.phase.Phase.TheVariants.{Copying}
use Rattle.rescue_rules.specs.Passes.{Pass, numbered}
use Rattle.rescue_rules.specs.Machine.{Machine, pass_of}
use Rattle.rescue_rules.specs.Step.{Event}
use Rattle.rescue_rules.specs.Moves.{moves, state_after}
use Rattle.rescue_rules.specs.Beginning.{nothing_shown, machine_of}

-- a rescue of an input of this length, in sectors of two bytes
abbrev pub small : (end cluster skip : ℕ) → Setting
small end cluster skip = record {
  infile = 105 ∷ [];
  outfile = 111 ∷ [];
  forced = false;
  has_mapfile = true;
  names = record { map = 109 ∷ []; draft = 100 ∷ [] };
  line = [];
  end = end;
  domain = λ x. nat_lt x end;
  input_position = 0;
  output_position = 0;
  try_again = false;
  retrim = false;
  sector = 2;
  cluster = cluster;
  skips = record { first = skip; most = skip + skip; min_rate = 0 };
  passes = all_phases_once;
  limits = no_limits;
  verbose = false;
}

-- the state in which such a small rescue begins: nothing of its input was tried
abbrev pub small_start : (end cluster skip : ℕ) → Machine
small_start end cluster skip = machine_of (small end cluster skip) (replicate end NonTried) None nothing_shown 0

-- a read, by how many bytes it asked for and how many it gave
abbrev pub event_at : (pos asked given : ℕ) → Event
event_at pos asked given =
    record {
      reading = record { pos = pos; asked = asked; given = replicate given 7; ended = false };
      before = 0;
      after = 0;
    }

-- the pass of each event and the cursor after it
abbrev pub trail : Setting → Machine → List Event → List (Pass × ℕ)
trail s m events = map (λ v. (pass_of v.before, v.after.progress.cursor)) (moves s m events)

-- a bad sector in the middle: copying finds it, and trimming takes its range from the front and then from the back
abbrev pub trimmed : List Event
trimmed = event_at 0 6 2 ∷ event_at 2 2 0 ∷ event_at 4 2 2 ∷ []

-- Trimming takes the range from its front and from its back, and leaves only the bad sector.
abbrev pub TrimsFrontAndBack : Type 0
TrimsFrontAndBack =
    (state_after (small 6 128 0) (small_start 6 128 0) trimmed).map
    ≡ Finished ∷ Finished ∷ BadSector ∷ BadSector ∷ Finished ∷ Finished ∷ []

-- bad sectors 0 and 3 of 16: the first pass jumps past each, by two sectors and then by four, and the second comes
-- back for what was jumped over
abbrev pub jumping : List Event
jumping = event_at 0 2 0 ∷ event_at 6 2 0 ∷ event_at 16 2 2 ∷ event_at 18 2 2 ∷ event_at 20 2 2 ∷ event_at 22 2 2
    ∷ event_at 24 2 2 ∷ event_at 26 2 2 ∷ event_at 28 2 2 ∷ event_at 30 2 2 ∷ event_at 14 2 2 ∷ event_at 12 2 2 ∷ []

-- Copying's first pass jumps past bad sectors 0 and 3 of 16, and its second comes back for what was jumped over.
abbrev pub JumpsAndComesBack : Type 0
JumpsAndComesBack =
    trail (small 32 2 4) (small_start 32 2 4) jumping
    ≡ (numbered Copying 1, 6) ∷ (numbered Copying 1, 16) ∷ (numbered Copying 1, 18) ∷ (numbered Copying 1, 20)
    ∷ (numbered Copying 1, 22) ∷ (numbered Copying 1, 24) ∷ (numbered Copying 1, 26) ∷ (numbered Copying 1, 28)
    ∷ (numbered Copying 1, 30) ∷ (numbered Copying 1, 32) ∷ (numbered Copying 2, 14) ∷ (numbered Copying 2, 12) ∷ []
