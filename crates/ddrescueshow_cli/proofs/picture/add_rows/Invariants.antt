use Rattle.std.proofs.Common.{◌≡◌, ◌≤◌, ◌-◌, ◌++◌}
use Rattle.std.specs.List.{flat_map, range_with_len}
use Rattle.rescue_domain.specs.Parts.{covers}
use Rattle.ddrescueshow_cli.specs.Picture.{row_text}
use Rattle.ddrescueshow_cli.proofs.picture.add_rows.Given as goal

abbrev pub invariant-loop-row : goal.invariant-loop-row
invariant-loop-row g l = record {
  text : l.text.items ≡ l.initial.text.items
      ++ flat_map (row_text l.form l.subject.frame (covers l.subject.domain.now) (g.T.Tiles.statuses l.subject.tiles.now))
      (range_with_len 0 l.row);
  within : l.row ≤ l.rows;
}

abbrev pub decreases-loop-row : goal.decreases-loop-row
decreases-loop-row g l = l.rows - l.row
