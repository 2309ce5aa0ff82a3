use Rattle.std.proofs.Common.{◌≡◌, ◌+◌, ◌-◌, ◌<◌, ◌++◌, drop, length, reverse, ap, ◌∙◌, arith, vec_len, vec_capacity}
use Rattle.paged_blocks.proofs.KeptLemmas.{succeeded}
use Rattle.paged_blocks.proofs.EntryListLemmas.{passed_more}
use Rattle.paged_blocks.proofs.entry_list.pass.Goals as goal

pub loop-i-preserved : goal.loop-i-preserved
loop-i-preserved c =
    let i = c.loop-i.invariant in
    let z : c.loop-i.i ≡ c.loop-i.i - 1 + 1 = omega arith in
    let h : c.loop-i.i - 1 < length c.args.from.now.items = omega (arith, c.len-i.ensures, c.args.from.now.ok.0) in
    let room : vec_len c.loop-i.to < vec_capacity c.loop-i.to = omega (arith, i.len, i.room, c.requires.room) in
    let done = c.push.ensures.succeeds room in
    let l = succeeded _ _ _ _ done c.push.ensures.len in
    record {
      above = omega arith;
      items = passed_more _ _ _ _ _ _ h c.index.ensures (rw z at i.items) (succeeded _ _ _ _ done c.push.ensures.items);
      len = omega (arith, l, i.len);
      room = omega (arith, i.room, c.push.ensures.capacity);
    }

pub returns-clause-to : goal.returns-clause-to
returns-clause-to c =
    let z : c.loop-i.i ≡ c.args.n = omega (arith, c.loop-i.invariant.above, c.loop-i-test.false) in
    c.loop-i.invariant.items ∙ ap (λ i. c.args.to.now.items ++ reverse (drop i c.args.from.now.items)) z
