use Rattle.std.proofs.Common.{arith}
use Rattle.rescue_rules.specs.Machine.{is_live}
use Rattle.rescue_core.specs.RunState.{setting_in, run_of}
use Rattle.rescue_core.proofs.WantedLemmas.{range_there}
use Rattle.rescue_core.proofs.running.Running.request_by.Goals as goal

pub cut-requires-clause-short : goal.cut-requires-clause-short
cut-requires-clause-short g c =
    let b = run_of g.T.Tiles c.args.self.now in
    omega (
      arith,
      range_there c.args.search.up (is_live (setting_in b) b.machine) b.machine.map c.args.status
          c.args.search.from c.in_ok-range.range.from c.in_ok-range.range.to c.in_ok-range.ensures.range,
      c.requires.run.running.short,
    )

pub returns-clause-some : goal.returns-clause-some
returns-clause-some g c = record {
  start = c.in_ok-range.range.from;
  end = c.in_ok-range.range.to;
  range = c.in_ok-range.ensures.range;
  starts = c.cut.ensures.starts;
  ends = c.cut.ensures.ends;
}

pub returns-clause-within : goal.returns-clause-within
returns-clause-within g c =
    let b = run_of g.T.Tiles c.args.self.now in
    omega (
      arith,
      range_there c.args.search.up (is_live (setting_in b) b.machine) b.machine.map c.args.status
          c.args.search.from c.in_ok-range.range.from c.in_ok-range.range.to c.in_ok-range.ensures.range,
      c.cut.ensures.within,
    )
