use Rattle.std.proofs.Common.{◌<◌, length, ap, arith}
use Rattle.std.proofs.lemmas.List.{length_push}
use Rattle.block_pages.proofs.PageLemmas.{page_size, pushed, alike}
use Rattle.block_pages.proofs.RowLemmas.{pushed_short}
use Rattle.block_pages.proofs.page.Page.push.Goals as goal

pub push-requires : goal.push-requires
push-requires c =
    let h : length c.self.inside.starts.items < 64 = omega (arith, c.requires.room, page_size _ _ c.self.view_is c.self.invariant) in
    (omega arith, h)

pub push-requires-2 : goal.push-requires-2
push-requires-2 c =
    let h : length c.self.inside.statuses.items < 64 =
    omega (arith, c.requires.room, page_size _ _ c.self.view_is c.self.invariant, c.self.invariant.alike) in
    (omega arith, h)

pub overflow_add-self : goal.overflow_add-self
overflow_add-self c = omega (arith, pushed_short _ _ c.requires.row)

pub invariant_of-self : goal.invariant_of-self
invariant_of-self c =
    let n = length_push c.self.inside.starts.items c.args.block.pos in
    record {
      fits = omega (
        arith,
        ap length c.push.ensures.items,
        n,
        c.requires.room,
        page_size _ _ c.self.view_is c.self.invariant,
      );
      alike = omega (
        arith,
        ap length c.push.ensures.items,
        ap length c.push-2.ensures.items,
        n,
        length_push c.self.inside.statuses.items (record { status = c.args.block.status }),
        c.self.invariant.alike,
      );
    }

pub returns : goal.returns
returns c =
    rw (c.push.ensures.items, c.push-2.ensures.items)
    (pushed _ _ c.self.inside.end c.args.block _ (alike _ c.self.invariant) c.self.view_is c.requires.row)
