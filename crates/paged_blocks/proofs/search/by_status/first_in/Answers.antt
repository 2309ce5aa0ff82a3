use Rattle.std.proofs.Common.{[], ◌≡◌, ◌∙◌, sym, arith}
use Rattle.std.proofs.lemmas.List.{get_or_default}
use Rattle.paged_blocks.specs.Paging.{blocks_of}
use Rattle.paged_blocks.proofs.FindLemmas.{none_tallied, passed_up, missed_up}
use Rattle.paged_blocks.proofs.search.by_status.first_in.Goals as goal

pub returns-then-of-eq0-clause-none : goal.returns-then-of-eq0-clause-none
returns-then-of-eq0-clause-none g c =
    none_tallied _ _ _ _ _ c.requires.entry c.requires.filled (omega arith) (sym c.of.ensures ∙ c.if-of-eq0.true)

pub returns-clause-passed : goal.returns-clause-passed
returns-clause-passed g c =
    let q : c.index-pages-entry.result ≡ blocks_of c.args.pages.now c.args.entry =
    c.index-pages-entry.is ∙ get_or_default _ _ _ [] c.requires.entry.page in
    passed_up _ _ _ _ _ _ _ c.requires.entry (λ e. c.if-of-eq0.false (c.of.ensures ∙ e)) (rw q at c.first_from.ensures.none)

pub returns-clause-missed : goal.returns-clause-missed
returns-clause-missed g c =
    let q : c.index-pages-entry.result ≡ blocks_of c.args.pages.now c.args.entry =
    c.index-pages-entry.is ∙ get_or_default _ _ _ [] c.requires.entry.page in
    missed_up _ _ _ _ _ _ _ c.requires.entry (λ e. c.if-of-eq0.false (c.of.ensures ∙ e)) (rw q at c.first_from.ensures.none)
    (rw q at c.first_from.ensures.passed)
