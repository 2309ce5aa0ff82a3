use Rattle.std.proofs.Common.{refl}
use Rattle.std.proofs.lemmas.Option.{slice_get_read}
use Rattle.rescue_domain.proofs.StretchLemmas.{stretch_past, stretch_within, stretch_before}
use Rattle.rescue_domain.proofs.domain.stretch_in.Goals as goal

pub returns-in_default : goal.returns-in_default
returns-in_default c = stretch_past _ c.requires.parts _ _ _ c.requires.ended c.requires.limit c.in_default.ensures.lookup.3

pub returns-then-part-x : goal.returns-then-part-x
returns-then-part-x c =
    stretch_within _ c.requires.parts _ _ _ c.requires.ended c.requires.limit c.in-Some.part.now
    (slice_get_read _ _ _ _ refl c.in-Some.ensures.lookup.3.0 c.in-Some.ensures.lookup.1) c.if-part-x.true _ c.min.ensures

pub returns-else-part-x : goal.returns-else-part-x
returns-else-part-x c =
    stretch_before _ c.requires.parts _ _ _ c.requires.ended c.requires.limit c.in-Some.part.now
    (slice_get_read _ _ _ _ refl c.in-Some.ensures.lookup.3.0 c.in-Some.ensures.lookup.1) c.if-part-x.false _
    c.min-else-part-x.ensures
