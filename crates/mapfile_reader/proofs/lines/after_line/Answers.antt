-- The newline ends the first line.
use Rattle.std.proofs.Common.{◌≡◌, ◌+◌, ◌-◌, length, arith, take, drop, [], sym, ap, ◌∙◌, rules, tests}
use Rattle.std.specs.List.{position}
use Rattle.std.proofs.lemmas.List.{drop_all}
use Rattle.std.proofs.lemmas.Iterator.{YieldsList-from_slice}
use Rattle.std.proofs.lemmas.Iterator.Search.{position_from_yields_List}
use Rattle.mapfile_text.specs.Lines.{is_newline}
use Rattle.mapfile_reader.specs.Cursor.{after_line}
use Rattle.mapfile_reader.proofs.FieldLemmas.{rest_from}
use Rattle.mapfile_reader.proofs.LineLemmas.{position-some, position-none}
use Rattle.mapfile_reader.proofs.lines.after_line.Goals as goal

pub returns-in-Some-clause-after : goal.returns-in-Some-clause-after
returns-in-Some-clause-after c =
    let xs = c.args.text.now in
    let found : c.position.result ≡ position is_newline xs =
    position_from_yields_List is_newline _ _ c.position.result c.position.ensures.ran (YieldsList-from_slice xs cc) (λ x b q k. search (rules, tests)) in
    let at = position-some is_newline xs c.in-Some.end (sym found ∙ c.in-Some.is) in
    rest_from xs (c.in-Some.end + 1) ∙ ap (λ n. drop (n + 1) xs) (sym at.1)

pub returns-in-None-clause-after : goal.returns-in-None-clause-after
returns-in-None-clause-after c =
    let xs = c.args.text.now in
    let found : c.position.result ≡ position is_newline xs =
    position_from_yields_List is_newline _ _ c.position.result c.position.ensures.ran (YieldsList-from_slice xs cc) (λ x b q k. search (rules, tests)) in
    let at = position-none is_newline xs (sym found ∙ c.in-None.is) in
    let rest : take (length xs - length xs) (drop (length xs) xs) ≡ [] = rest_from xs (length xs) ∙ drop_all (length xs) xs (omega arith) in
    let after : after_line xs ≡ [] = drop_all _ xs (omega arith) in
    rest ∙ sym after
