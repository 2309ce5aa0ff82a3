-- What holds at each stop along the calls of a record.
use Rattle.std.specs.Prelude.{List, [], ◌∷◌}
use Rattle.kernel_files.specs.Volume.{Volume, Entry, Done, Failed, entered}

-- a call in progress counts as one that failed
abbrev pub in_part : Entry → Entry
in_part (Done call) = Failed call
in_part (Failed call) = Failed call

-- it holds at every stop within these entries, and after them
abbrev pub Along : (Volume → Type 0) → Volume → List Entry → Type 0
Along P v [] = P v
Along P v (e ∷ es) = P v × P (entered v (in_part e)) × Along P (entered v e) es
