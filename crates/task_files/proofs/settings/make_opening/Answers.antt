use Rattle.std.proofs.Common.{rules}
use Rattle.ddrescue_words.specs.Asking.{told_by}
use Rattle.task_files.proofs.OpeningLemmas.{says_size}
use Rattle.task_files.proofs.settings.make_opening.Goals as goal

pub returns : goal.returns
returns c = λ line end maps top long asked.
    says_size (told_by c.args.command) line end maps c.args.domain.now c.size.result top c.in_ok-line.line.items
    (search rules) c.in_ok-line.ensures c.size.ensures.count asked long
