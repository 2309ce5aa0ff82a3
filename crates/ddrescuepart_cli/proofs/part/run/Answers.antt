-- By how far the work came.
use Rattle.ddrescuepart_words.specs.Command.{told_by}
use Rattle.ddrescuepart_cli.proofs.WorkedLemmas.{put_worked, starved_worked, stopped_worked, unopened_worked, unput_worked}
use Rattle.ddrescuepart_cli.proofs.part.run.Goals as goal

pub returns-in_default : goal.returns-in_default
returns-in_default g c = starved_worked (told_by c.args.command.now) c.args.words.now _ _

pub returns-in_default-make_room : goal.returns-in_default-make_room
returns-in_default-make_room g c = starved_worked (told_by c.args.command.now) c.args.words.now _ _

pub returns-in_default-open_input : goal.returns-in_default-open_input
returns-in_default-open_input g c =
    unopened_worked (told_by c.args.command.now) c.args.words.now c.in_default-open_input.field-0 _ _ _
    c.in_default-open_input.ensures.call c.in_default-open_input.ensures.schedule

pub returns-in-Err : goal.returns-in-Err
returns-in-Err g c =
    rw c.stopped.ensures
    (stopped_worked (told_by c.args.command.now) c.in-Ok-open_input.length _ _ _ c.in-Ok-open_input.ensures.call
    c.in-Err.ensures.stays c.args.words.now _ c.in-Err.stop c.in-Err.ensures.searches c.in-Err.ensures.cause)

pub returns-in-Ok-print_domain : goal.returns-in-Ok-print_domain
returns-in-Ok-print_domain g c =
    let found = c.in-Ok-find_partition.ensures in
    put_worked (told_by c.args.command.now) c.in-Ok-open_input.length _ _ _ c.in-Ok-open_input.ensures.call
    found.stays c.args.words.now _ _ _ c.in-Ok-find_partition.partition c.in-Ok.ensures found.searches found.kept
    c.in-Ok-print_domain.ensures.put

pub returns : goal.returns
returns g c =
    let found = c.in-Ok-find_partition.ensures in
    unput_worked (told_by c.args.command.now) c.in-Ok-open_input.length _ _ _ c.in-Ok-open_input.ensures.call
    found.stays c.args.words.now _ _ _ c.in-Ok-find_partition.partition c.in-Ok.ensures found.searches found.kept
    c.in-Err-print_domain.ensures.fault
