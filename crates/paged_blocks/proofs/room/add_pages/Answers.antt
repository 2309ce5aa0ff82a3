use Rattle.std.proofs.Common.{◌≡◌, ◌<◌, ◌∙◌, IsOk, ap, arith, length, vec_len, vec_capacity}
use Rattle.std.proofs.lemmas.List.{length_push}
use Rattle.paged_blocks.specs.Paging.{flat}
use Rattle.paged_blocks.proofs.KeptLemmas.{succeeded, page_added, flat_kept}
use Rattle.paged_blocks.proofs.room.add_pages.Goals as goal

pub loop-pages-preserved : goal.loop-pages-preserved
loop-pages-preserved c =
    let k = c.loop-pages.invariant.kept in
    let n : c.len-number.result ≡ length c.loop-pages.pages.items = omega (arith, c.len-number.ensures, c.loop-pages.pages.ok.0) in
    let room : vec_len c.loop-pages.free < vec_capacity c.loop-pages.free =
    omega (
      arith,
      c.loop-pages.pages.ok.0,
      c.loop-pages.free.ok.0,
      k.numbered.all,
      c.len.ensures,
      c.loop-pages-test.true,
      c.loop-pages.invariant.capacity,
    ) in
    let p = c.in_ok-push.ensures.items in
    let f = succeeded _ _ _ _ (c.push-in-loop-pages.ensures.succeeds room) c.push-in-loop-pages.ensures.items in
    let l = ap length p ∙ length_push c.loop-pages.pages.items c.new.result in
    record {
      kept = rw (p, f) (page_added _ _ _ _ c.new.result k n);
      flat = ap (λ r. flat r c.args.entries.now.items) p
          ∙ flat_kept c.loop-pages.pages.items c.new.result c.args.entries.now.items (λ i d u. (k.paging.each i d u).page)
          ∙ c.loop-pages.invariant.flat;
      more = omega (arith, c.push.ensures.lower_bound, c.loop-pages.invariant.more);
      room = omega (
        arith,
        c.push.ensures.upper_bound,
        c.len.ensures,
        c.loop-pages-test.true,
        c.loop-pages.invariant.capacity,
        c.push-in-loop-pages.ensures.capacity,
      );
      capacity = omega (arith, c.loop-pages.invariant.capacity, c.push-in-loop-pages.ensures.capacity);
    }
