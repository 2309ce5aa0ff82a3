use Rattle.std.proofs.Common.{rules, sym, append-nil, arith}
use Rattle.rescue_domain.specs.Parts.{covers}
use Rattle.ddrescueshow_cli.specs.Picture.{row_text}
use Rattle.ddrescueshow_cli.proofs.DrawLemmas.{rows_more}
use Rattle.ddrescueshow_cli.proofs.picture.add_rows.Goals as goal

pub loop-row-init : goal.loop-row-init
loop-row-init g c = record { text = sym (append-nil _); within = omega arith }

pub loop-row-preserved : goal.loop-row-preserved
loop-row-preserved g c =
    let s = c.args.subject.now in
    record {
      text = rows_more (row_text c.args.form s.frame (covers s.domain.now) (g.T.Tiles.statuses s.tiles.now)) _
          c.loop-row.text.items c.add_row.new.text.items c.loop-row.row c.loop-row.invariant.text (search rules);
      within = omega arith;
    }
