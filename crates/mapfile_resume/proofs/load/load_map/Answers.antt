-- There is a file that was read.
use Rattle.std.proofs.Common.{rules, ◌≡◌, ℕ, ◌≤◌, List, length, arith}
use Rattle.mapfile_text.specs.MapText.{text_limit}
use Rattle.std.proofs.lemmas.Result.{err_from_is_err_and}
use Rattle.mapfile_resume.proofs.ReadLemmas.{map_read, no_map_read, stopped_read}
use Rattle.mapfile_resume.proofs.load.load_map.Goals as goal

short_items : (len : ℕ) (items : List ℕ) → len ≡ length items → len ≤ text_limit → length items ≤ text_limit
short_items len items ok short = omega (arith, ok, short)

pub returns-in_err-text-clause-read : goal.returns-in_err-text-clause-read
returns-in_err-text-clause-read g c =
    let q = err_from_is_err_and c.from_residual.result c.from_residual.ensures.1 in
    rw (q.1, q.2) (stopped_read _ _ c.args.mode _ _ _ _ c.in_err-text.ensures.stop c.in_err-text.ensures.long)

pub returns-in_err-map_in-clause-read : goal.returns-in_err-map_in-clause-read
returns-in_err-map_in-clause-read g c =
    let q = err_from_is_err_and c.from_residual-in_err-map_in.result c.from_residual-in_err-map_in.ensures.1 in
    rw (q.1, q.2) (no_map_read _ _ c.args.mode _ _ (rw c.in-Some.is at c.in_ok-text.ensures.found)
    (short_items c.in-Some.text.len c.in-Some.text.items c.in-Some.text.ok.0 (rw c.in-Some.is at c.in_ok-text.ensures.short))
    (search rules))

pub returns-clause-read : goal.returns-clause-read
returns-clause-read g c =
    map_read _ _ c.args.mode c.in-Some.text.items c.in_ok-map_in.field-0 (rw c.in-Some.is at c.in_ok-text.ensures.found)
    (short_items c.in-Some.text.len c.in-Some.text.items c.in-Some.text.ok.0 (rw c.in-Some.is at c.in_ok-text.ensures.short))
    (search rules)
