-- The line is pushed if there is room.
use Rattle.std.proofs.Common.{◌≡◌, false, List, sym, ap, ◌∙◌}
use Rattle.ddrescueshow_cli.specs.declared.rate.Sample.{Sample}
use Rattle.ddrescueshow_cli.specs.Rate.{is_of_second, last_of, lines_with}
use Rattle.ddrescueshow_cli.proofs.RateLemmas.{pushed}
use Rattle.ddrescueshow_cli.proofs.rate.Lately.keep.Goals as goal

pub returns : goal.returns
returns c =
    let lines : List Sample = c.self.inside.samples.items in
    let new : is_of_second c.args.now (last_of lines) ≡ false =
    sym (ap (λ (l : List Sample). is_of_second c.args.now (last_of l)) c.as_slice.ensures.value)
    ∙ sym c.is_of_second.ensures ∙ c.if-is_of_second.false in
    let kept : c.try_push-fits.new.self.items ≡ lines_with c.args.now lines =
    pushed c.args.now _ c.try_push-fits.new.self c.try_push-fits.result new c.try_push-fits.ensures.variant
    c.try_push-fits.ensures.ok c.try_push-fits.ensures.err c.try_push-fits.ensures.full in
    cc
