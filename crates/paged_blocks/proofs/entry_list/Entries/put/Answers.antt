use Rattle.std.proofs.Common.{◌≡◌, ◌+◌, ◌<◌, length, reverse, sym, arith, length-append}
use Rattle.std.proofs.lemmas.List.{set-append_left, length-reverse}
use Rattle.paged_blocks.proofs.EntryListLemmas.{set_past}
use Rattle.paged_blocks.proofs.entry_list.Entries.put.Goals as goal

pub returns-then-k-front-clause-items : goal.returns-then-k-front-clause-items
returns-then-k-front-clause-items c =
    rw (← c.self.view_is) (sym (set-append_left c.self.inside.front.items (reverse c.self.inside.back.items) c.args.k c.args.entry
    (omega (arith, c.len-front.ensures, c.if-k-front.true, c.self.inside.front.ok.0))))

pub returns-else-k-front-clause-items : goal.returns-else-k-front-clause-items
returns-else-k-front-clause-items c =
    let a : c.len.result ≡ length c.self.inside.back.items = omega (arith, c.len.ensures, c.self.inside.back.ok.0) in
    let b : c.len-front.result ≡ length c.self.inside.front.items = omega (arith, c.len-front.ensures, c.self.inside.front.ok.0) in
    let h = rw (← c.self.view_is) at c.requires in
    let l : c.args.k < length c.self.inside.front.items + length c.self.inside.back.items =
    omega (
      arith,
      h,
      length-append c.self.inside.front.items (reverse c.self.inside.back.items),
      length-reverse c.self.inside.back.items,
    ) in
    rw (← c.self.view_is, a, b) (sym (set_past c.self.inside.front.items c.self.inside.back.items c.args.k c.args.entry
    (omega (arith, b, c.if-k-front.false)) l))
