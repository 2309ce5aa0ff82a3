-- The first line of the rest is the first filled one, or it is passed over.
use Rattle.std.proofs.Common.{◌+◌, ◌<◌, ◌∷◌, length, sym, ap, ◌∙◌, arith}
use Rattle.std.proofs.lemmas.Bool.{eqb-false}
use Rattle.mapfile_text.specs.Lines.{fields, Line}
use Rattle.mapfile_reader.specs.Cursor.{first_line, filled_from}
use Rattle.mapfile_reader.proofs.LineLemmas.{filled-some, filled-none}
use Rattle.mapfile_reader.proofs.lines.FilledLines.first.Goals as goal

pub returns-in-Some : goal.returns-in-Some
returns-in-Some c =
    let n = c.loop-rest.number in
    let first = c.in-Some.first.now in
    let more = fields (first_line c.in-Some.rest.now) in
    let line : Line = record { number = n; fields = first ∷ more } in
    sym c.loop-rest.invariant.lines ∙ filled-some c.loop-rest.rest.now n first more c.in-Some.ensures.field
    ∙ ap (λ text. line ∷ filled_from (n + 1) text) (sym c.in-Some.ensures.after)

pub loop-rest-preserved : goal.loop-rest-preserved
loop-rest-preserved c =
    let n = c.loop-rest.number in
    let some : 0 < length c.loop-rest.rest.now = omega (arith, eqb-false _ _ (sym c.is_empty.ensures ∙ c.loop-rest-test.true)) in
    let shorter = c.after_line-rest.ensures.shorter some in
    record {
      lines = ap (filled_from (n + 1)) c.after_line-rest.ensures.after
          ∙ sym (filled-none c.loop-rest.rest.now n c.in_default.ensures.field) ∙ c.loop-rest.invariant.lines;
      few = omega (arith, c.loop-rest.invariant.few);
    }
