-- What the definitions mean.
use Rattle.std.specs.Prelude.{◌≡◌, ℕ, Bool, List, sum_by}
use Rattle.block_list.specs.declared.status.Status.{Status}
use Rattle.block_list.specs.declared.areas.Count.{Count}
use Rattle.map_counts.specs.Summary.{summary_of}

-- each position of a domain is counted in one line of its summary
abbrev pub LinesAddUp : Type 0
LinesAddUp =
    (domain : ℕ → Bool) (statuses : List Status)
    → sum_by (λ (c : Count). c.bytes) (summary_of domain statuses).lines ≡ (summary_of domain statuses).domain
