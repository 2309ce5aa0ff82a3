-- Each read gives one piece more, or ends the load.
use Rattle.std.proofs.Common.{◌≡◌, ◌≢◌, ◌≤◌, length, take, sym, ◌∙◌, inl, inr, ⊎_elim, arith, rules}
use Rattle.std.proofs.lemmas.List.{length-take-le}
use Rattle.std.proofs.lemmas.Result.{err_from_is_err_and}
use Rattle.mapfile_resume.proofs.LoadLemmas.{read_after, no_file, loaded_none, loaded_all, all_text, more_pieces, broken, stopped}
use Rattle.mapfile_resume.proofs.load.read_text.Goals as goal

pub returns-in_default-clause-stop : goal.returns-in_default-clause-stop
returns-in_default-clause-stop g c = λ tells.
    let i = c.pieces.invariant in
    broken _ _ _ _ _ _ _ _ (i.pieces tells) (search rules) (search rules) (c.in_default.ensures.call.lost (rw i.site.keeps.tells tells))

pub returns-in-Absent-clause-found : goal.returns-in-Absent-clause-found
returns-in-Absent-clause-found g c = λ tells.
    let i = c.pieces.invariant in
    let r = read_after _ _ _ _ _ _ _ _ _ (i.pieces tells) (i.site.keeps.start tells) (c.in-Ok.ensures.read (rw i.site.keeps.tells tells)) in
    no_file _ _ _ (rw c.in-Absent.is at r)

pub returns-in-Absent-clause-loaded : goal.returns-in-Absent-clause-loaded
returns-in-Absent-clause-loaded g c = λ tells.
    let i = c.pieces.invariant in
    let r = read_after _ _ _ _ _ _ _ _ _ (i.pieces tells) (i.site.keeps.start tells) (c.in-Ok.ensures.read (rw i.site.keeps.tells tells)) in
    let done = rw c.in-Absent.is at c.in-Ok.ensures.call.done (rw i.site.keeps.tells tells) in
    loaded_none _ _ _ _ _ _ _ _ _ (i.pieces tells) (search rules) (search rules) done (rw c.in-Absent.is at r)

pub returns-in-Bytes-eq0-clause-found : goal.returns-in-Bytes-eq0-clause-found
returns-in-Bytes-eq0-clause-found g c = λ tells.
    let i = c.pieces.invariant in
    let r = read_after _ _ _ _ _ _ _ _ _ (i.pieces tells) (i.site.keeps.start tells) (c.in-Ok.ensures.read (rw i.site.keeps.tells tells)) in
    all_text _ _ _ _ _ _ _ c.in-Bytes-eq0.field-0 (i.pieces tells) (search rules) (rw c.in-Bytes-eq0.is at r)
    (sym c.in-Bytes-eq0.field-0-is ∙ c.in-Bytes-eq0.field-0-test)

pub returns-in-Bytes-eq0-clause-loaded : goal.returns-in-Bytes-eq0-clause-loaded
returns-in-Bytes-eq0-clause-loaded g c = λ tells.
    let i = c.pieces.invariant in
    let r = read_after _ _ _ _ _ _ _ _ _ (i.pieces tells) (i.site.keeps.start tells) (c.in-Ok.ensures.read (rw i.site.keeps.tells tells)) in
    let done = rw c.in-Bytes-eq0.is at c.in-Ok.ensures.call.done (rw i.site.keeps.tells tells) in
    loaded_all _ _ _ _ _ _ _ _ _ c.in-Bytes-eq0.field-0 (i.pieces tells) (search rules) (search rules) done (rw c.in-Bytes-eq0.is at r)
    (sym c.in-Bytes-eq0.field-0-is ∙ c.in-Bytes-eq0.field-0-test)

pub pieces-preserved : goal.pieces-preserved
pieces-preserved g c = record {
  pieces = λ tells.
      let i = c.pieces.invariant in
      let r = read_after _ _ _ _ _ _ _ _ _ (i.pieces tells) (i.site.keeps.start tells) (c.in-Ok.ensures.read (rw i.site.keeps.tells tells)) in
      let few : c.in-Bytes.size ≤ length c.pieces.buf = rw c.in-Bytes.is at c.in-Ok.ensures.count in
      let some : c.in-Bytes.size ≢ 0 = rw c.in-Bytes.is at c.in-Bytes.size-test.1 in
      let done = rw c.in-Bytes.is at c.in-Ok.ensures.call.done (rw i.site.keeps.tells tells) in
      more_pieces _ _ _ _ _ _ _ _ _ _ c.in-Bytes.size (i.pieces tells) (search rules) (search rules) done (rw c.in-Bytes.is at r)
      (omega (arith, some)) few (omega (arith, few, c.map_read.auto.buf)) c.in_ok-add_piece-in-Bytes.ensures.added (search rules);
  within = search rules;
  site = search rules;
  faults = search rules;
}

pub returns-in_err-add_piece-in-Bytes-clause-stop : goal.returns-in_err-add_piece-in-Bytes-clause-stop
returns-in_err-add_piece-in-Bytes-clause-stop g c =
    let i = c.pieces.invariant in
    let q = err_from_is_err_and c.from_residual.result c.from_residual.ensures.1 in
    rw (q.1, q.2) (λ tells.
    let r = read_after _ _ _ _ _ _ _ _ _ (i.pieces tells) (i.site.keeps.start tells) (c.in-Ok.ensures.read (rw i.site.keeps.tells tells)) in
    let few : c.in-Bytes.size ≤ length c.pieces.buf = rw c.in-Bytes.is at c.in-Ok.ensures.count in
    let some : c.in-Bytes.size ≢ 0 = rw c.in-Bytes.is at c.in-Bytes.size-test.1 in
    let fits : c.in-Bytes.size ≤ length c.map_read.new.buf = omega (arith, few, c.map_read.auto.buf) in
    let piece : length (take c.in-Bytes.size c.map_read.new.buf) ≡ c.in-Bytes.size = length-take-le c.in-Bytes.size c.map_read.new.buf fits in
    let done = rw c.in-Bytes.is at c.in-Ok.ensures.call.done (rw i.site.keeps.tells tells) in
    stopped _ _ _ _ _ _ _ _ _ c.in-Bytes.size _ (i.pieces tells) (search rules) (search rules) done (rw c.in-Bytes.is at r)
    (omega (arith, some)) few fits
    (⊎_elim (λ x. inl x) (λ x. inr (x.0, omega (arith, x.1, piece, c.pieces.text.ok))) c.in_err-add_piece-in-Bytes.ensures.refused))
