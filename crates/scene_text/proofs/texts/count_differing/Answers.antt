use Rattle.std.proofs.Common.{rules, ◌∙◌, sym, ap, drop}
use Rattle.scene_text.specs.Texts.{part_length}
use Rattle.scene_text.proofs.TextLemmas.{rests-shorter, rests-shorter-other, parts-same}
use Rattle.scene_text.proofs.texts.count_differing.Goals as goal
use Rattle.scene_text.proofs.texts.count_differing.Goals.{then-not-is_empty, else-not-is_empty+then-not-is_empty-2}

pub loop-wanted_rest-smaller : goal.loop-wanted_rest-smaller
loop-wanted_rest-smaller c = elim c.if-not-is_empty.branch [
  | then-not-is_empty w ↦
      rests-shorter
      c.loop-wanted_rest.wanted_rest.now c.loop-wanted_rest.found_rest.now
      c.first_part.result.1.now c.first_part-in-loop-wanted_rest.result.1.now
      c.first_part.ensures.rest c.first_part-in-loop-wanted_rest.ensures.rest (search rules)
  | else-not-is_empty+then-not-is_empty-2 w ↦
      rests-shorter-other
      c.loop-wanted_rest.wanted_rest.now c.loop-wanted_rest.found_rest.now
      c.first_part.result.1.now c.first_part-in-loop-wanted_rest.result.1.now
      c.first_part.ensures.rest c.first_part-in-loop-wanted_rest.ensures.rest (search rules)
]

pub loop-wanted_rest-preserved : goal.loop-wanted_rest-preserved
loop-wanted_rest-preserved c = (
  λ none same.
      c.loop-wanted_rest.invariant.0 none
      (parts-same
      (part_length c.loop-wanted_rest.wanted_rest.now) (part_length c.loop-wanted_rest.found_rest.now)
      c.loop-wanted_rest.wanted_rest.now c.loop-wanted_rest.found_rest.now (search rules)
      (sym c.first_part.ensures.rest ∙ same ∙ c.first_part-in-loop-wanted_rest.ensures.rest)),
  λ same.
      c.first_part.ensures.rest
      ∙ ap (λ t. drop (part_length t) t) (c.loop-wanted_rest.invariant.1 same)
      ∙ sym c.first_part-in-loop-wanted_rest.ensures.rest,
  c.loop-wanted_rest.invariant.2,
)
