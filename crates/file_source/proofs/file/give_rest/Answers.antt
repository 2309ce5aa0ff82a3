use Rattle.std.proofs.Common.{◌≡◌, ℕ, ◌+◌, ◌-◌, ◌≤◌, rules, length, slice_range, IfSome, sym, ap, ◌∙◌, subst}
use Rattle.std.specs.Io.KnownBytes.{Consumes}
use borrow.Rule.Slice.PartMut.{put_mid}
use Rattle.faulty_source.specs.Got.{count_of}
use Rattle.file_source.specs.Filling.{first_count}
use Rattle.file_source.proofs.RestLemmas.{answered}
use Rattle.real_files.proofs.PartLemmas.{slice_range-put_mid}
use Rattle.file_source.proofs.file.give_rest.Goals as goal
use Rattle.file_source.proofs.file.give_rest.Goals.{in-Ok, in-Err}

pub returns-clause-came : goal.returns-clause-came
returns-clause-came g c =
    let from = c.match-first.came in
    let room = length c.args.buf.now - from in
    let part = c.fill-got.new.buf in
    let now = put_mid from room c.args.buf.now part in
    let count = c.fill-got.result.got in
    let first : first_count c.args.first ≡ from =
    elim c.match-first.branch [ in-Ok w ↦ search rules | in-Err w ↦ search rules ] in
    let within : from ≤ length c.args.buf.now =
    elim c.match-first.branch [ in-Ok w ↦ search rules | in-Err w ↦ search rules ] in
    let bytes = slice_range-put_mid from room count c.args.buf.now part within (search rules) in
    let P : ℕ → Type 0 = λ n. Consumes (g.R.Read.remaining c.args.reader.now) (g.R.Read.remaining c.fill-got.new.reader)
    (slice_range now (first_count c.args.first) n) in
    let came : P (from + count) = subst (Consumes _ _) (sym bytes ∙ ap (λ k. slice_range now k (from + count)) (sym first))
    c.fill-got.ensures.came in
    subst (λ r. IfSome r (λ got. P (count_of got))) (sym c.answer-2.ensures)
    (answered c.args.is_direct (length c.args.buf.now) (from + count) c.fill-got.result.outcome P came)
