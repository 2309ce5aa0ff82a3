-- By what is left, and whether it begins with the piece.
use Rattle.std.proofs.Common.{◌≡◌, Some}
use Rattle.std.proofs.lemmas.Bool.Decides.{Decides-eqb}
use Rattle.std.proofs.lemmas.Slice.Eq.{strip_prefix_is}
use Rattle.rescue_lines.proofs.LineLemmas.{strips}
use Rattle.rescue_lines.proofs.cursor.Cursor.read.Goals as goal

pub returns : goal.returns
returns c =
    let here = c.in-Some.is in
    let same = c.in-Some.rest-is in
    let whole = c.self.view_is in
    let old : c.args.self.now ≡ Some c.in-Some.rest.now = cc in
    strips c.args.piece.now c.as_bytes.result.now c.in-Some.rest.now c.args.self.now c.strip_prefix-self-inside.result
    c.as_bytes.ensures.value old
    (strip_prefix_is Decides-eqb c.in-Some.rest.now c.as_bytes.result.now c.strip_prefix-self-inside.result
    c.strip_prefix-self-inside.ensures.cases)
