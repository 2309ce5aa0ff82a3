-- The text is cut at its first comma; one more after it is too many.
use Rattle.std.proofs.Common.{◌∙◌, sym}
use Rattle.ddrescue_words.proofs.SkipLemmas.{alone, both, too_many}
use Rattle.ddrescue_words.proofs.skips.skips_in_text.Goals as goal

pub returns-in_default : goal.returns-in_default
returns-in_default c = c.skips_of_pair.ensures
    ∙ sym (alone c.args.sector c.args.text.now c.in_default.ensures.cases)

pub returns-then-contains : goal.returns-then-contains
returns-then-contains c =
    sym (too_many c.args.sector c.args.text.now c.in-Some.first c.in-Some.most c.in-Some.ensures.cases
    c.if-contains.ensures.cases)

pub returns-else-contains : goal.returns-else-contains
returns-else-contains c = c.skips_of_pair-else-contains.ensures
    ∙ sym (both c.args.sector c.args.text.now c.in-Some.first c.in-Some.most c.in-Some.ensures.cases
    c.if-contains.ensures.cases)
