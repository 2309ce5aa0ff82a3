use Rattle.std.proofs.Common.{◌≡◌, ◌+◌, ◌<◌, ◌∙◌, ◌++◌, length, List, length-append, length-drop, take, drop, ap, arith, vec_len, vec_capacity}
use Rattle.std.proofs.lemmas.List.{length-take-le}
use Rattle.block_pages.specs.declared.page_entry.PageEntry.{PageEntry}
use Rattle.paged_blocks.specs.Paging.{naming, times_free}
use Rattle.paged_blocks.proofs.KeptLemmas.{succeeded}
use Rattle.paged_blocks.proofs.RefillLemmas.{released_more, released_numbers}
use Rattle.paged_blocks.proofs.marks.refill.release.Goals as goal

pub loop-k-preserved : goal.loop-k-preserved
loop-k-preserved c =
    let i = c.loop-k.invariant in
    let h : c.loop-k.k < length c.args.entries.now.items =
    omega (arith, c.loop-k-test.true, c.requires.within) in
    let room : vec_len c.loop-k.free < vec_capacity c.loop-k.free =
    omega (arith, i.len, i.capacity, c.loop-k-test.true, c.requires.within, c.requires.room) in
    let done = c.push.ensures.succeeds room in
    let q = succeeded _ _ _ _ done c.push.ensures.items in
    let l = succeeded _ _ _ _ done c.push.ensures.len in
    record {
      numbers = λ n. omega (arith, i.numbers n, released_more _ _ _ n _ _ h (c.at.ensures c.at.result) q);
      len = omega (arith, l, i.len);
      capacity = omega (arith, i.capacity, c.push.ensures.capacity);
    }

pub returns-clause-numbers : goal.returns-clause-numbers
returns-clause-numbers c =
    let e : c.take_out.new.self.items ≡ take c.args.first c.args.entries.now.items ++ drop c.args.past c.args.entries.now.items =
    c.take_out.ensures.items in
    let z : c.loop-k.k ≡ c.args.past = omega (arith, c.loop-k.auto.k-end, c.requires.order, c.loop-k-test.false) in
    λ n. released_numbers c.args.entries.now.items c.take_out.new.self.items c.args.free.now.items c.loop-k.free.items n
    c.args.first c.args.past e
    (c.loop-k.invariant.numbers n ∙ ap (λ k. times_free n c.args.free.now.items + naming n (take k c.args.entries.now.items)) z)

pub returns-clause-len : goal.returns-clause-len
returns-clause-len c =
    let es : List PageEntry = c.args.entries.now.items in
    omega (
      arith,
      ap length c.take_out.ensures.items,
      length-append (take c.args.first es) (drop c.args.past es),
      length-drop c.args.past es,
      length-take-le c.args.first es (omega (arith, c.requires.order, c.requires.within)),
      c.loop-k.invariant.len,
      c.loop-k.auto.k-end,
      c.requires.order,
      c.requires.within,
      c.loop-k-test.false,
    )
