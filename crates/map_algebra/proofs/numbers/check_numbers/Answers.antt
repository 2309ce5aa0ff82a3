-- One line more, or the first that has no number.
use Rattle.std.proofs.Common.{◌≡◌, ℕ, ◌+◌, List, Result, Err, length, sym, ap, ◌∙◌, arith, rules}
use Rattle.mapfile_text.specs.Lines.{Line}
use Rattle.mapfile_reader.specs.Cursor.{OpenLine}
use Rattle.map_algebra.specs.declared.numbers.NumberError.{NumberError}
use Rattle.map_algebra.specs.Numbers.{numbers_in, numbers_of, checked}
use Rattle.map_algebra.proofs.NumberLemmas.{few_filled, counted, counted-begin, counted-next, counted-fault, counted-end}
use Rattle.map_algebra.proofs.numbers.check_numbers.Goals as goal

pub loop-line-init : goal.loop-line-init
loop-line-init c =
    let s = c.args.shape in
    let filled = c.new-lines.ensures.filled in
    record {
      numbers = counted-begin (numbers_in s c.args.text.now)
          ∙ ap (λ (ls : List Line). counted 0 (numbers_of s ls)) (sym filled);
      few = omega (arith, few_filled c.args.text.now, ap length filled);
    }

pub loop-line-preserved : goal.loop-line-preserved
loop-line-preserved c =
    let s = c.args.shape in
    let n = c.loop-line.count in
    let left : c.lines_after-lines.result ≡ c.in-Some.line.after =
    c.lines_after-lines.ensures ∙ ap (λ (l : OpenLine). l.after) c.number_of.ensures.kept in
    record {
      numbers = counted-next s (checked (numbers_in s c.args.text.now)) n c.loop-line.lines c.in-Some.line
          c.in_ok-number_of.field-0 c.loop-line.invariant.numbers c.in-Some.ensures c.in_ok-number_of.ensures.number
          ∙ ap (λ (ls : List Line). counted (n + 1) (numbers_of s ls)) (sym left);
      few = omega (arith, ap length left, ap length c.in-Some.ensures);
    }

pub overflow_add-count : goal.overflow_add-count
overflow_add-count c = omega (arith, ap length c.in-Some.ensures)

pub loop-line-smaller : goal.loop-line-smaller
loop-line-smaller c =
    let left : c.lines_after-lines.result ≡ c.in-Some.line.after =
    c.lines_after-lines.ensures ∙ ap (λ (l : OpenLine). l.after) c.number_of.ensures.kept in
    omega (arith, ap length left, ap length c.in-Some.ensures)

pub returns-in_err-number_of : goal.returns-in_err-number_of
returns-in_err-number_of c =
    let s = c.args.shape in
    let q : c.from_residual.result ≡ Err c.in_err-number_of.field-0.0 = search rules in
    let f : NumberError → Result ℕ NumberError = λ e. Err e in
    q ∙ ap f c.in_err-number_of.ensures.fault.0
    ∙ sym (counted-fault s (checked (numbers_in s c.args.text.now)) c.loop-line.count c.loop-line.lines c.in-Some.line
    c.loop-line.invariant.numbers c.in-Some.ensures c.in_err-number_of.ensures.fault.1)

pub returns : goal.returns
returns c =
    sym (counted-end c.args.shape (checked (numbers_in c.args.shape c.args.text.now)) c.loop-line.count
    c.loop-line.lines c.loop-line.invariant.numbers c.in_default.ensures)
