-- All kinds are collected, each as it is due.
use Rattle.rescue_warnings.proofs.DueLemmas.{is_advice}
use Rattle.rescue_warnings.proofs.advice.due_advice.Goals as goal

pub returns : goal.returns
returns c =
    let said = rw (
      c.outfile_short.ensures,
      c.map_past_infile.ensures,
      c.empty_infile.ensures,
      c.begins_past_infile.ensures,
      c.nothing_asked.ensures,
      c.nothing_listed.ensures,
      c.new_mapfile.ensures,
      c.linked_mapfile.ensures,
      c.unsafe_outfile.ensures,
      c.unsafe_mapfile.ensures,
      c.new_outfile.ensures,
      c.nothing_to_fill.ensures,
      c.long_pattern.ensures,
      c.other_sector.ensures,
      c.mounted_infile.ensures,
      c.outfile_on_disk.ensures,
      c.mapfile_on_disk.ensures,
      c.long_plan.ensures,
      c.nothing_to_compare.ensures,
      c.late_mapfile.ensures,
      c.empty_domain.ensures,
      c.map_before_infile.ensures,
      c.no_length.ensures,
    )
    at c.collect.ensures in
    is_advice c.args.facts.now c.collect.result.items said
