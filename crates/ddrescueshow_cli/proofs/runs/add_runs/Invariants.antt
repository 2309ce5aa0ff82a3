use Rattle.std.proofs.Common.{◌≡◌, ◌+◌, ◌≤◌, ◌-◌, ◌++◌}
use Rattle.std.specs.List.{flat_map}
use Rattle.rescue_domain.specs.Parts.{covers}
use Rattle.ddrescueshow_cli.specs.Cells.{mark}
use Rattle.ddrescueshow_cli.specs.Picture.{run_text}
use Rattle.ddrescueshow_cli.specs.Runs.{marks_from, runs_of}
use Rattle.ddrescueshow_cli.proofs.RunLemmas.{Comes}
use Rattle.ddrescueshow_cli.proofs.runs.add_runs.Given as goal

abbrev pub invariant-loop-done : goal.invariant-loop-done
invariant-loop-done g l = let statuses = g.T.Tiles.statuses l.subject.tiles.now in
    record {
      comes : Comes (run_text l.form) (mark l.subject.frame (covers l.subject.domain.now) statuses) l.text.items
          (l.initial.text.items ++ flat_map (run_text l.form)
          (runs_of (marks_from l.subject.frame (covers l.subject.domain.now) statuses l.first l.count)))
          l.run (l.first + l.done) (l.count - l.done);
      place : l.run.from + l.run.count ≡ l.done;
      within : l.done ≤ l.count;
    }

abbrev pub decreases-loop-done : goal.decreases-loop-done
decreases-loop-done g l = l.count - l.done
