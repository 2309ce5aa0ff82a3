use Rattle.std.proofs.Common.{◌≡◌, ◌+◌, ◌-◌, ◌≤◌, arith}
use Rattle.block_list.specs.declared.status.Status.{Status}
use Rattle.block_list.specs.declared.status.Status.TheVariants.{NonTried, NonTrimmed, NonScraped, BadSector, Finished}
use Rattle.block_pages.specs.declared.status_counts.StatusCounts.{StatusCounts}
use Rattle.block_pages.specs.Tally.{tallied}
use Rattle.block_pages.proofs.status_counts.StatusCounts.exchanged.Goals as goal

pub overflow_sub-result : goal.overflow_sub-result
overflow_sub-result c = omega (arith, c.requires.among NonTried)

pub overflow_add-result : goal.overflow_add-result
overflow_add-result c = omega (arith, c.requires.short NonTried)

pub overflow_sub-result-2 : goal.overflow_sub-result-2
overflow_sub-result-2 c = omega (arith, c.requires.among NonTrimmed)

pub overflow_add-result-2 : goal.overflow_add-result-2
overflow_add-result-2 c = omega (arith, c.requires.short NonTrimmed)

pub overflow_sub-result-3 : goal.overflow_sub-result-3
overflow_sub-result-3 c = omega (arith, c.requires.among NonScraped)

pub overflow_add-result-3 : goal.overflow_add-result-3
overflow_add-result-3 c = omega (arith, c.requires.short NonScraped)

pub overflow_sub-result-4 : goal.overflow_sub-result-4
overflow_sub-result-4 c = omega (arith, c.requires.among BadSector)

pub overflow_add-result-4 : goal.overflow_add-result-4
overflow_add-result-4 c = omega (arith, c.requires.short BadSector)

pub overflow_sub-result-5 : goal.overflow_sub-result-5
overflow_sub-result-5 c = omega (arith, c.requires.among Finished)

pub overflow_add-result-5 : goal.overflow_add-result-5
overflow_add-result-5 c = omega (arith, c.requires.short Finished)

-- a tally without some, and with others
abbrev exchanged_to : StatusCounts → StatusCounts → StatusCounts → StatusCounts
exchanged_to all gone come = record {
  non_tried = all.non_tried - gone.non_tried + come.non_tried;
  non_trimmed = all.non_trimmed - gone.non_trimmed + come.non_trimmed;
  non_scraped = all.non_scraped - gone.non_scraped + come.non_scraped;
  bad_sector = all.bad_sector - gone.bad_sector + come.bad_sector;
  finished = all.finished - gone.finished + come.finished;
}

each_exchanged : (all gone come : StatusCounts) → ((s : Status) → tallied gone s ≤ tallied all s)
    → (s : Status) → tallied (exchanged_to all gone come) s + tallied gone s ≡ tallied all s + tallied come s
each_exchanged all gone come h NonTried = omega (arith, h NonTried)
each_exchanged all gone come h NonTrimmed = omega (arith, h NonTrimmed)
each_exchanged all gone come h NonScraped = omega (arith, h NonScraped)
each_exchanged all gone come h BadSector = omega (arith, h BadSector)
each_exchanged all gone come h Finished = omega (arith, h Finished)

pub returns : goal.returns
returns c = each_exchanged c.args.self c.args.gone c.args.come c.requires.among
