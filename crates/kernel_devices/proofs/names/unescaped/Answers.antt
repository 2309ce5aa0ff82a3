use Rattle.std.proofs.Common.{length, get_or, Some, None, slice_range, ap, refl, ◌∙◌, arith, le_refl}
use Rattle.std.proofs.lemmas.Slice.{between_to_end}
use Rattle.kernel_devices.specs.Names.{unescaped}
use Rattle.kernel_devices.proofs.NameLemmas.{given, passed, unescaped-escaped, whole}
use Rattle.kernel_devices.proofs.names.unescaped.Goals as goal
use Rattle.kernel_devices.proofs.names.unescaped.Goals.{then-skip-gt0, else-skip-gt0+in-Some+in_ok-push, else-skip-gt0+in_default+in_ok-push-2}

pub loop-place-preserved : goal.loop-place-preserved
loop-place-preserved c =
    let text = c.args.text.now in
    let place = c.loop-place.place in
    let rest = between_to_end text place (length text) (le_refl (length text)) in
    elim c.if-skip-gt0.branch [
      | then-skip-gt0 w ↦
          passed text c.if-skip-gt0.name.items place c.loop-place.skip c.if-skip-gt0.skip
          c.loop-place-test.true
          (rw w.name-is c.loop-place.invariant)
          (omega (arith, w.skip-is, w.if-skip-gt0.true))
      | else-skip-gt0+in-Some+in_ok-push w ↦
          given text c.loop-place.name.items c.if-skip-gt0.name.items (slice_range text place (length text)) place
          c.loop-place.skip c.if-skip-gt0.skip w.in-Some.byte (Some w.in-Some.byte) c.loop-place-test.true
          c.loop-place.invariant (omega (arith, w.if-skip-gt0.false)) rest w.in-Some.ensures refl
          (ap (λ v. v.items) w.name-is ∙ w.in_ok-push.ensures.items) w.skip-is
      | else-skip-gt0+in_default+in_ok-push-2 w ↦
          given text c.loop-place.name.items c.if-skip-gt0.name.items (slice_range text place (length text)) place
          c.loop-place.skip c.if-skip-gt0.skip (get_or text place 0) None c.loop-place-test.true
          c.loop-place.invariant (omega (arith, w.if-skip-gt0.false)) rest w.in_default.ensures refl
          (ap (λ v. v.items) w.name-is ∙ w.in_ok-push-2.ensures.items) (omega (arith, w.skip-is, w.if-skip-gt0.false))
    ]

pub returns-clause-text : goal.returns-clause-text
returns-clause-text c = whole c.args.text.now c.loop-place.name.items c.loop-place.place c.loop-place.skip
    (omega (arith, c.loop-place-test.false)) c.loop-place.invariant

pub returns-clause-inverse : goal.returns-clause-inverse
returns-clause-inverse c = λ printed is.
    whole c.args.text.now c.loop-place.name.items c.loop-place.place c.loop-place.skip
    (omega (arith, c.loop-place-test.false)) c.loop-place.invariant ∙ ap unescaped is ∙ unescaped-escaped printed
