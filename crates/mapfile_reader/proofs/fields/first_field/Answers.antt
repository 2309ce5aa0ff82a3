-- The field comes after the blanks in front, up to the next blank or the line's end.
use Rattle.std.proofs.Common.{◌-◌, length, take, drop, List, ℕ, arith}
use Rattle.mapfile_reader.proofs.FieldLemmas.{rest_from}
use Rattle.mapfile_reader.proofs.FirstLine.{Found, field_found, after_found, none_found}
use Rattle.mapfile_reader.proofs.fields.first_field.Goals as goal

pub returns-then-end-eq0-clause-field : goal.returns-then-end-eq0-clause-field
returns-then-end-eq0-clause-field c =
    let text = c.args.text.now in
    let start = c.field_start.result in
    let rest : List ℕ = take (length text - start) (drop start text) in
    let found : Found text rest start c.field_end-end.result =
    record { begins = c.field_start.ensures.value; from = rest_from text start; ends = c.field_end-end.ensures.value } in
    none_found text rest start c.field_end-end.result found c.if-end-eq0.true

pub returns-clause-field : goal.returns-clause-field
returns-clause-field c =
    let text = c.args.text.now in
    let start = c.field_start.result in
    let rest : List ℕ = take (length text - start) (drop start text) in
    let found : Found text rest start c.field_end-end.result =
    record { begins = c.field_start.ensures.value; from = rest_from text start; ends = c.field_end-end.ensures.value } in
    rw (c.split_at.ensures.front, c.split_at.ensures.back) (field_found text rest start c.field_end-end.result found (omega arith))

pub returns-clause-after : goal.returns-clause-after
returns-clause-after c =
    let text = c.args.text.now in
    let start = c.field_start.result in
    let rest : List ℕ = take (length text - start) (drop start text) in
    let found : Found text rest start c.field_end-end.result =
    record { begins = c.field_start.ensures.value; from = rest_from text start; ends = c.field_end-end.ensures.value } in
    rw c.split_at.ensures.back (after_found text rest start c.field_end-end.result found)
