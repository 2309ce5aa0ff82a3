use Rattle.std.proofs.Common.{◌≡◌, ◌+◌, ◌-◌, ◌++◌, rules, arith, length, take, sym, ap, ◌∙◌, subst, le_refl}
use Rattle.std.proofs.lemmas.Slice.{take-put_mid_below}
use Rattle.std.specs.Io.KnownBytes.{Consumes}
use Rattle.std.proofs.KnownBytes.{Consumes-trans, Consumes-kept}
use borrow.Rule.Slice.PartMut.{put_mid}
use Rattle.real_files.proofs.PartLemmas.{take_split, slice_range-put_mid}
use Rattle.real_files.proofs.file_cursor.fill.Goals as goal
use Rattle.real_files.proofs.file_cursor.fill.Goals.{in-Ok, in-Err}

pub loop-preserved : goal.loop-preserved
loop-preserved g c =
    let from = c.loop.got in
    let room = length c.loop.buf - from in
    let now = put_mid from room c.loop.buf c.read.new.buf in
    let within = c.loop.invariant.1 in
    let front : take from now ≡ take from c.loop.buf = take-put_mid_below _ _ _ _ _ (le_refl _) within in
    elim c.match-read.branch [
      | in-Ok w ↦
          (let n = w.in-Ok.n in
          let part = slice_range-put_mid from room n c.loop.buf c.read.new.buf within w.in-Ok.ensures.bound.0 in
          let joined = take_split from (from + n) c.loop.buf now (omega arith) front in
          let whole = ap (λ l. take from c.loop.buf ++ l) (sym part) ∙ joined ∙ ap (λ k. take k now) (sym w.got-is) in
          let came = Consumes-trans _ _ _ _ _ c.loop.invariant.2 w.in-Ok.ensures.bytes.0 in
          (search rules, search rules, subst (Consumes _ _) whole came))
      | in-Err w ↦
          (let kept = Consumes-kept _ _ _ _ c.loop.invariant.2 w.in-Err.ensures.bytes in
          (search rules, search rules, subst (Consumes _ _) (sym front ∙ ap (λ k. take k now) (sym w.got-is)) kept))
    ]
