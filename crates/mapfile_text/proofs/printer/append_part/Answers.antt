use Rattle.std.proofs.Common.{◌++◌, ◌-◌, length, map, take, drop, sym, ap, ◌∙◌, refl}
use Rattle.std.proofs.lemmas.List.{length-map}
use Rattle.mapfile_text.specs.Printed.{shown_byte}
use Rattle.mapfile_text.specs.LeftOf.{parts_from}
use Rattle.mapfile_text.proofs.PartLemmas.{heading_number, heading_goes_on}
use Rattle.mapfile_text.proofs.printer.append_part.Goals as goal

pub returns-in-Words : goal.returns-in-Words
unfolding parts_from
returns-in-Words g c = record {
  part = map shown_byte c.args.heading.now.line;
  first = rw c.in-Words.is refl;
  text = c.append_words.ensures
      ∙ ap (λ words. c.args.out.now.items ++ take (4096 - length c.args.out.now.items) (drop c.args.place.went (map shown_byte words))) c.line.ensures;
  told = ap length c.line-in-Words.ensures ∙ sym (length-map c.args.heading.now.line shown_byte);
}

pub returns-in-Block : goal.returns-in-Block
unfolding parts_from
returns-in-Block g c = record {
  part = c.append_rest-end.new.line.items;
  first = rw c.in-Block.is c.append_rest-end.ensures;
  text = c.append_line.ensures
      ∙ ap (λ line. c.args.out.now.items ++ take (4096 - length c.args.out.now.items) (drop c.args.place.went line)) c.as_slice.ensures.value;
  told = c.len.ensures.value;
}

pub returns-in_default : goal.returns-in_default
returns-in_default g c = record {
  part = c.append_heading.new.line.items;
  first = heading_goes_on c.args.heading.now c.args.state (g.T.Tiles.statuses c.args.tiles.now) c.args.place.part c.next.result
      c.append_heading.new.line.items (heading_number c.args.place.part c.in_default.not-Block)
      c.append_heading.ensures c.next.ensures.number c.next.ensures.position;
  text = c.append_line-in_default.ensures
      ∙ ap (λ line. c.args.out.now.items ++ take (4096 - length c.args.out.now.items) (drop c.args.place.went line)) c.as_slice-in_default.ensures.value;
  told = c.len-in_default.ensures.value;
}
