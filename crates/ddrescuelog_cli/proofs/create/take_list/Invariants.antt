-- The list so far was taken, and isn't too long.
use Rattle.std.proofs.Common.{◌-◌, ◌≤◌, length}
use Rattle.map_algebra.specs.Numbers.{list_limit}
use Rattle.ddrescuelog_cli.specs.Creating.{TookBytes}
use Rattle.ddrescuelog_cli.proofs.create.take_list.Given as goal

abbrev pub invariant-pieces : goal.invariant-pieces
invariant-pieces g l = record {
  taken : TookBytes l.list.items (g.I.Feed.state l.fn.feed) (g.I.Feed.state l.feed);
  short : length l.list.items ≤ list_limit;
}

abbrev pub decreases-pieces : goal.decreases-pieces
decreases-pieces g l = list_limit - length l.list.items
