-- Where the first byte stands that isn't blank, or the text's length.
use Rattle.std.proofs.Common.{◌≡◌, ◌∙◌, not, rules, tests}
use Rattle.std.specs.List.{position}
use Rattle.std.proofs.lemmas.Iterator.{YieldsList-from_slice}
use Rattle.std.proofs.lemmas.Iterator.Search.{position_from_yields_List}
use Rattle.mapfile_text.specs.Lines.{is_blank}
use Rattle.mapfile_reader.proofs.FieldLemmas.{first_place}
use Rattle.mapfile_reader.proofs.fields.field_start.Goals as goal

pub returns-clause-value : goal.returns-clause-value
returns-clause-value c =
    let xs = c.args.text.now in
    let found : c.position.result ≡ position (λ x. not (is_blank x)) xs =
    position_from_yields_List (λ x. not (is_blank x)) _ _ c.position.result c.position.ensures.ran
    (YieldsList-from_slice xs cc) (λ x b q k. search (rules, tests)) in
    c.unwrap_or.ensures ∙ first_place (λ x. not (is_blank x)) xs c.position.result found
