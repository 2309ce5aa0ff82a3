-- Where the first byte stands that ends a field, or the text's length.
use Rattle.std.proofs.Common.{◌≡◌, ℕ, Bool, ◌||◌, ◌∙◌, rules, tests}
use Rattle.std.specs.List.{position}
use Rattle.std.proofs.lemmas.Iterator.{YieldsList-from_slice}
use Rattle.std.proofs.lemmas.Iterator.Search.{position_from_yields_List}
use Rattle.mapfile_text.specs.Lines.{is_blank, is_newline}
use Rattle.mapfile_reader.proofs.FieldLemmas.{first_place}
use Rattle.mapfile_reader.proofs.fields.field_end.Goals as goal

pub returns-clause-value : goal.returns-clause-value
returns-clause-value c =
    let xs = c.args.text.now in
    let ends : ℕ → Bool = λ c. is_blank c || is_newline c in
    let found : c.position.result ≡ position ends xs =
    position_from_yields_List ends _ _ c.position.result c.position.ensures.ran (YieldsList-from_slice xs cc) (λ x b q k. search (rules, tests)) in
    c.unwrap_or.ensures ∙ first_place ends xs c.position.result found
