-- By what each mode made and printed.
use Rattle.std.proofs.Common.{ap, ◌∙◌}
use Rattle.ddrescuelog_words.specs.Command.{told_by}
use Rattle.ddrescuelog_cli.specs.Results.{summary_text}
use Rattle.ddrescuelog_cli.proofs.FindLemmas.{changed_found, combined_found, completed_found, summarized_found, listed_found}
use Rattle.ddrescuelog_cli.proofs.find.find.Goals as goal

pub returns-in-Change : goal.returns-in-Change
returns-in-Change g c =
    λ m loaded.
    changed_found (told_by c.args.command.now) c.in-Change.change c.args.heading.now m c.args.loaded.now
    c.change_types-made.result c.print_map.result _ _ c.in-Change.is loaded c.change_types-made.ensures
    c.print_map.ensures.starved c.print_map.ensures.answers c.print_map.ensures.put

pub returns-in-Combine : goal.returns-in-Combine
returns-in-Combine g c =
    λ m loaded.
    combined_found (told_by c.args.command.now) c.in-Combine.op c.args.heading.now m c.args.loaded.now
    c.combine-made.result c.print_map-in-Combine.result _ _ c.in-Combine.is loaded c.combine-made.ensures
    c.print_map-in-Combine.ensures.starved c.print_map-in-Combine.ensures.answers c.print_map-in-Combine.ensures.put

pub returns-in-Complete : goal.returns-in-Complete
returns-in-Complete g c =
    λ m loaded.
    completed_found (told_by c.args.command.now) c.in-Complete.field-0 c.args.heading.now m c.args.loaded.now
    c.put_map.result c.printed.result _ _ c.in-Complete.is loaded c.printed.ensures c.put_map.ensures.put
    c.put_map.ensures.fault

pub returns-in-ListBlocks : goal.returns-in-ListBlocks
returns-in-ListBlocks g c =
    λ m loaded.
    listed_found (told_by c.args.command.now) c.in-ListBlocks.types c.args.heading.now m c.args.loaded.now
    c.list_blocks.result _ _ c.in-ListBlocks.is loaded c.list_blocks.ensures.beyond c.list_blocks.ensures.fit
    c.list_blocks.ensures.answers c.list_blocks.ensures.put

pub returns-in-Summarize : goal.returns-in-Summarize
returns-in-Summarize g c =
    λ m loaded.
    summarized_found (told_by c.args.command.now) c.args.heading.now m c.args.loaded.now c.make_summary.result.items
    c.put_rest.result c.printed-in-Summarize.result _ _ c.in-Summarize.is loaded
    (c.make_summary.ensures ∙ ap (summary_text c.args.loaded.now.state) c.of-summary.ensures)
    c.printed-in-Summarize.ensures c.put_rest.ensures
