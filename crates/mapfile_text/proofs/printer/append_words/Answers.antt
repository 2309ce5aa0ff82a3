-- What a byte is printed as doesn't depend on where it stands.
use Rattle.std.proofs.Common.{◌≡◌, ◌++◌, ◌-◌, length, map, take, drop, arith, sym, ap, ◌∙◌}
use Rattle.std.proofs.lemmas.List.{take_all, take-map, drop-map}
use Rattle.mapfile_text.specs.Printed.{shown_byte}
use Rattle.mapfile_text.proofs.printer.append_words.Goals as goal

pub returns : goal.returns
returns c =
    let room = c.remaining_capacity.result in
    let words = c.args.words.now in
    let r : room ≡ 4096 - length c.args.out.now.items = omega (arith, c.remaining_capacity.ensures) in
    c.loop-byte.invariant.text
    ∙ ap (λ bs. c.args.out.now.items ++ map shown_byte bs)
    (take_all c.loop-byte.byte-index c.fitting-byte-items.result.now (omega arith) ∙ c.fitting-byte-items.ensures.text)
    ∙ ap (λ bs. c.args.out.now.items ++ bs)
    (sym (take-map shown_byte room (drop c.args.went words)) ∙ ap (take room) (sym (drop-map shown_byte c.args.went words)))
    ∙ ap (λ n. c.args.out.now.items ++ take n (drop c.args.went (map shown_byte words))) r
