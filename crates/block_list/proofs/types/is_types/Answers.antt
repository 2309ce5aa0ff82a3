use Rattle.std.proofs.Common.{◌≡◌, false, length, nat_eq}
use Rattle.block_list.proofs.types.is_types.Goals as goal

pub returns-then-not-is_empty : goal.returns-then-not-is_empty
returns-then-not-is_empty c =
    let f : nat_eq (length c.args.text.now) 0 ≡ false = let e = c.is_empty.ensures in let t = c.if-not-is_empty.true in cc in
    rw f c.all_are_symbols.ensures
