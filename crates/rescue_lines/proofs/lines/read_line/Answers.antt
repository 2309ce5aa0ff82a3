-- What was read to the end is the line, and the line of a report is read to the end.
use Rattle.std.proofs.Common.{Some, ap}
use Rattle.rescue_lines.specs.declared.lines.Figures.{Figures}
use Rattle.rescue_lines.proofs.LineLemmas.{line_printed, line_read}
use Rattle.rescue_lines.proofs.lines.read_line.Goals as goal

pub returns-then-not-is_at_end-clause-read : goal.returns-then-not-is_at_end-clause-read
returns-then-not-is_at_end-clause-read c = λ h r is report text.
    let found = line_read c.args.line.now
    (record {
      head = c.read_head-head.result;
      position = c.read_number-position.result;
      rescued = c.read_number-rescued.result;
      failed = record { bytes = c.read_number-bytes.result; areas = c.read_number-areas.result };
      errors = c.read_number-errors.result;
      seconds = c.read_number-seconds.result;
      rate = c.read_wide-rate.result;
    })
    _ _ _ _ _ _ _ _ _ c.new-cursor.ensures c.read_head-head.ensures
    c.read_number-position.ensures c.read_number-rescued.ensures c.read_number-bytes.ensures
    c.read_number-areas.ensures c.read_number-errors.ensures c.read_number-seconds.ensures c.read_wide-rate.ensures h r is report text in
    let ends = c.is_at_end.ensures.1 found.0 in
    let no = c.if-not-is_at_end.true in
    cc

pub returns-clause-printed : goal.returns-clause-printed
returns-clause-printed c =
    line_printed c.args.line.now
    (record {
      head = c.read_head-head.result;
      position = c.read_number-position.result;
      rescued = c.read_number-rescued.result;
      failed = record { bytes = c.read_number-bytes.result; areas = c.read_number-areas.result };
      errors = c.read_number-errors.result;
      seconds = c.read_number-seconds.result;
      rate = c.read_wide-rate.result;
    })
    _ _ _ _ _ _ _ _ _ c.new-cursor.ensures c.read_head-head.ensures
    c.read_number-position.ensures c.read_number-rescued.ensures c.read_number-bytes.ensures
    c.read_number-areas.ensures c.read_number-errors.ensures c.read_number-seconds.ensures c.read_wide-rate.ensures
    (c.is_at_end.ensures.0 c.if-not-is_at_end.false)

pub returns-clause-read : goal.returns-clause-read
returns-clause-read c = λ h r is report text.
    ap (λ (f : Figures). Some f) ((line_read c.args.line.now
    (record {
      head = c.read_head-head.result;
      position = c.read_number-position.result;
      rescued = c.read_number-rescued.result;
      failed = record { bytes = c.read_number-bytes.result; areas = c.read_number-areas.result };
      errors = c.read_number-errors.result;
      seconds = c.read_number-seconds.result;
      rate = c.read_wide-rate.result;
    })
    _ _ _ _ _ _ _ _ _ c.new-cursor.ensures c.read_head-head.ensures
    c.read_number-position.ensures c.read_number-rescued.ensures c.read_number-bytes.ensures
    c.read_number-areas.ensures c.read_number-errors.ensures c.read_number-seconds.ensures c.read_wide-rate.ensures h r is report text).1)
