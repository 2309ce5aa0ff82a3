-- A skip that was read is below 2^63.
use Rattle.std.proofs.Common.{◌∙◌, sym}
use Rattle.ddrescue_words.specs.Options.{comma_parts}
use Rattle.ddrescue_words.proofs.SkipLemmas.{parts_ordered}
use Rattle.ddrescue_words.proofs.skips.read_skips.Goals as goal

pub in_sectors-requires-clause-small : goal.in_sectors-requires-clause-small
in_sectors-requires-clause-small c =
    (parts_ordered c.args.sector (comma_parts c.args.text.now) (c.in_ok-first.first, c.in_ok-first.most)
    (sym c.skips_in_text.ensures ∙ c.in_ok-first.was)).below
