-- One line more; a text that is no list was refused before.
use Rattle.std.proofs.Common.{◌≡◌, ◌∷◌, [], ◌++◌, List, length, sym, ap, ◌∙◌, arith, rules}
use Rattle.std.proofs.lemmas.List.Elements.{All-push}
use Rattle.mapfile_text.specs.Lines.{Line}
use Rattle.mapfile_reader.specs.Cursor.{OpenLine}
use Rattle.map_algebra.specs.Numbers.{IsInRange, numbers_in, numbers_of}
use Rattle.map_algebra.proofs.NumberLemmas.{after, after-begin, after-next}
use Rattle.map_algebra.proofs.numbers.read_numbers.Goals as goal

pub loop-line-init : goal.loop-line-init
loop-line-init c =
    let s = c.args.shape in
    let none : c.in_ok-numbers.numbers.items ≡ [] = search rules in
    rw none (record {
      numbers = after-begin (numbers_in s c.args.text.now)
          ∙ ap (λ (ls : List Line). after [] (numbers_of s ls)) (sym c.new-lines.ensures.filled);
      limits = λ k d below. absurd (omega (arith, below));
    })

pub loop-line-preserved : goal.loop-line-preserved
loop-line-preserved c =
    let s = c.args.shape in
    let ks = c.loop-line.numbers.items in
    let k = c.in_ok-number.number in
    let left : c.lines_after-lines.result ≡ c.in-Some.line.after =
    c.lines_after-lines.ensures ∙ ap (λ (l : OpenLine). l.after) c.number_of.ensures.kept in
    let more : c.push.new.self.items ≡ ks ++ k ∷ [] = search rules in
    rw more (record {
      numbers = after-next s (numbers_in s c.args.text.now) ks c.loop-line.lines c.in-Some.line k
          c.loop-line.invariant.numbers c.in-Some.ensures c.in_ok-number.ensures.number
          ∙ ap (λ (ls : List Line). after (ks ++ k ∷ []) (numbers_of s ls)) (sym left);
      limits = All-push (IsInRange s) ks k c.loop-line.invariant.limits c.in_ok-number.ensures.limit;
    })

pub loop-line-smaller : goal.loop-line-smaller
loop-line-smaller c =
    let left : c.lines_after-lines.result ≡ c.in-Some.line.after =
    c.lines_after-lines.ensures ∙ ap (λ (l : OpenLine). l.after) c.number_of.ensures.kept in
    omega (arith, ap length left, ap length c.in-Some.ensures)
