use Rattle.std.proofs.Common.{sym, ◌∙◌, length, ◌-◌}
use Rattle.option_words.proofs.TakeLemmas.{none_after, positive, rest_after}
use Rattle.option_words.proofs.reader.find_rest_value.Goals as goal

pub returns-then-is_empty : goal.returns-then-is_empty
returns-then-is_empty c = none_after c.args.n (length c.args.word.now - length c.args.rest.now) c.args.rest.now
    (sym c.is_empty.ensures ∙ c.if-is_empty.true)

pub returns : goal.returns
returns c = sym (rest_after c.args.n (length c.args.word.now - length c.args.rest.now) c.args.rest.now c.utf8.rest
    (positive (length c.args.rest.now) (sym c.is_empty.ensures ∙ c.if-is_empty.false)))
