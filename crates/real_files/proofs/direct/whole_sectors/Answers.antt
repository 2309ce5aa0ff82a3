use Rattle.std.proofs.Common.{◌%◌, ap, ◌∙◌, rules}
use Rattle.real_files.proofs.DirectLemmas.{multiple_below, multiple_past}
use Rattle.real_files.proofs.direct.whole_sectors.Goals as goal
use Rattle.real_files.proofs.direct.whole_sectors.Goals.{then-rest-eq0, else-rest-eq0}

pub returns-then-whole-most-clause-whole : goal.returns-then-whole-most-clause-whole
returns-then-whole-most-clause-whole c =
    let sector = c.args.sector in
    elim c.if-rest-eq0.branch [
      | then-rest-eq0 w ↦ ap (λ n. n % sector) w.whole-is ∙ search rules
      | else-rest-eq0 w ↦ ap (λ n. n % sector) w.whole-is ∙ multiple_past c.args.wanted sector
    ]

pub returns-else-whole-most-clause-whole : goal.returns-else-whole-most-clause-whole
returns-else-whole-most-clause-whole c = multiple_below c.args.free c.args.sector
