-- What words ask for is sensible.
use Rattle.std.proofs.Common.{ℕ, List, refl, arith}
use Rattle.rescue_rules.specs.Setting.{IsSensible}
use Rattle.ddrescue_words.specs.Options.{sectors_of}
use Rattle.ddrescue_words.specs.Command.{Command, Rescue}
use Rattle.ddrescue_words.specs.Asking.{Asks, AreInLimits}
use Rattle.ddrescue_words.proofs.CommandLemmas.{reading_asks}
use Rattle.rescue_domain.proofs.PlaceLemmas.{whole_from}
use Rattle.task_files.specs.Asked.{Maps, setting_of}
use Rattle.task_sweeps.specs.Modes.{fill_setting}
use Rattle.task_files.proofs.PlacedLemmas.{asked_in_whole}

-- their options are within their limits
pub asked_limits : (words : List (List ℕ)) (c : Command) → Asks words c → AreInLimits c.options
asked_limits words c a = (reading_asks words a.rows a.items a.operands (Rescue c) a.options a.reading a.is).limits

pub sensible_in : (c : Command) (line : List ℕ) (end : ℕ) (maps : Maps) → AreInLimits c.options
    → IsSensible (setting_of c line end maps)
sensible_in c line end maps limits = record {
  sector = limits.sector;
  sectors = sectors_of c.options c.options.cluster_sectors;
  some = limits.sectors;
  cluster = refl;
  from = λ x inside. whole_from c.options.input_position c.options.size end x (asked_in_whole c.options end maps x inside);
  retries = omega (arith, limits.retries);
}

pub sensible_to : (c : Command) (words : List (List ℕ)) (line : List ℕ) (end : ℕ) (maps : Maps) → Asks words c
    → IsSensible (setting_of c line end maps)
sensible_to c words line end maps asks = sensible_in c line end maps (asked_limits words c asks)

-- and of a filling, which opens no input
pub fill_sensible : (c : Command) (line : List ℕ) (top : ℕ) (maps : Maps) → AreInLimits c.options
    → IsSensible (fill_setting c line top maps)
fill_sensible c line top maps limits =
    let s : IsSensible (setting_of c line top maps) = sensible_in c line top maps limits in
    record {
      sector = s.sector;
      sectors = s.sectors;
      some = s.some;
      cluster = s.cluster;
      from = s.from;
      retries = s.retries;
    }
