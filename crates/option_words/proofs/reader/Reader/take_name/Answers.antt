-- The name that stands in front of the first `=` chooses the row.
use Rattle.std.proofs.Common.{drop, sym, inr}
use Rattle.option_words.proofs.TakeLemmas.{name_is, ok_means, err_means}
use Rattle.option_words.proofs.reader.Reader.take_name.Goals as goal

pub returns-in-One-clause-ok : goal.returns-in-One-clause-ok
returns-in-One-clause-ok c = ok_means _ _ _ _ _
    (name_is c.args.rows.now c.args.n (drop 2 c.args.word.now) _ _ _ c.split_name-long.ensures.name c.split_name-long.ensures.value c.in-One.ensures)
    c.put_option.ensures.ok

pub returns-in-One-clause-err : goal.returns-in-One-clause-err
returns-in-One-clause-err c = err_means _ _ _
    (name_is c.args.rows.now c.args.n (drop 2 c.args.word.now) _ _ _ c.split_name-long.ensures.name c.split_name-long.ensures.value c.in-One.ensures)
    c.put_option.ensures.err

pub returns-in-Unknown-clause-err : goal.returns-in-Unknown-clause-err
returns-in-Unknown-clause-err c = inr (sym
    (name_is c.args.rows.now c.args.n (drop 2 c.args.word.now) _ _ _ c.split_name-long.ensures.name c.split_name-long.ensures.value c.in-Unknown.ensures))

pub returns-in-Several-clause-err : goal.returns-in-Several-clause-err
returns-in-Several-clause-err c = inr (sym
    (name_is c.args.rows.now c.args.n (drop 2 c.args.word.now) _ _ _ c.split_name-long.ensures.name c.split_name-long.ensures.value c.in-Several.ensures))
