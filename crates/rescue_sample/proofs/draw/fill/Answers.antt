use Rattle.std.proofs.Common.{rules, ◌+◌, ◌∙◌, ap, sym, arith, ◌++◌, [], ◌∷◌}
use Rattle.std.proofs.lemmas.List.{take_more_set}
use Rattle.std.proofs.lemmas.List.FromFn.{map-range_with_len_more}
use Rattle.rescue_sample.specs.Sample.{sample_byte}
use Rattle.rescue_sample.proofs.draw.fill.Goals as goal

pub loop-i-preserved : goal.loop-i-preserved
loop-i-preserved c = record {
  room = search rules;
  bytes = take_more_set c.loop-i.buf c.loop-i.i (sample_byte (c.args.pos + c.loop-i.i)) (search rules)
      ∙ ap (λ bytes. bytes ++ sample_byte (c.args.pos + c.loop-i.i) ∷ []) c.loop-i.invariant.bytes
      ∙ sym (map-range_with_len_more sample_byte c.args.pos c.loop-i.i (c.args.pos + c.loop-i.i) (omega arith));
}
