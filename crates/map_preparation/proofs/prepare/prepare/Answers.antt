use Rattle.std.proofs.Common.{◌≢◌, refl, arith}
use Rattle.block_list.specs.declared.status.Status.TheVariants.{NonTrimmed, NonScraped, BadSector}
use Rattle.rescue_domain.specs.Parts.{covers}
use Rattle.map_preparation.specs.Preparing.{replaced}
use Rattle.map_preparation.proofs.PrepareLemmas.{changed_is, prepared_by_parts}
use Rattle.map_preparation.proofs.RoomLemmas.{changes_still, replaced_alone, trimmed_unscraped, trimmed_good, scraped_good}
use Rattle.map_preparation.proofs.prepare.prepare.Goals as goal

pub replace-requires-2 : goal.replace-requires-2
replace-requires-2 g c =
    let domain = covers c.args.domain.now in
    let old = g.T.Tiles.statuses c.args.tiles.now in
    let first = c.in_ok-room.ensures in
    let second = c.in_ok-room-2.ensures in
    let third = c.in_ok-room-3.ensures in
    let changed = rw c.reserve.ensures.statuses at c.replace.ensures.changed in
    let apart : c.prepared_to-trimmed.result ≢ NonScraped
    = rw c.prepared_to-trimmed.ensures (trimmed_unscraped c.args.try_again c.args.retrim) in
    let used = (rw c.reserve.ensures.statuses at c.replace.ensures.spare) first.ranges first.changes in
    record {
      room = record {
        ranges = second.ranges;
        changes = changes_still domain (replaced NonTrimmed c.prepared_to-trimmed.result) NonScraped old _ changed refl
            (replaced_alone NonTrimmed c.prepared_to-trimmed.result NonScraped apart) _ _ second.changes;
        enough = omega (arith, first.total, second.total, third.total, c.in_ok-reserve.ensures.spare, used);
      };
    }

pub replace-requires-3 : goal.replace-requires-3
replace-requires-3 g c =
    let domain = covers c.args.domain.now in
    let old = g.T.Tiles.statuses c.args.tiles.now in
    let try_again = c.args.try_again in
    let retrim = c.args.retrim in
    let first = c.in_ok-room.ensures in
    let second = c.in_ok-room-2.ensures in
    let third = c.in_ok-room-3.ensures in
    let trimmed = c.prepared_to-trimmed.result in
    let scraped = c.prepared_to-scraped.result in
    let changed = rw c.reserve.ensures.statuses at c.replace.ensures.changed in
    let unscraped : trimmed ≢ NonScraped = rw c.prepared_to-trimmed.ensures (trimmed_unscraped try_again retrim) in
    let apart : trimmed ≢ BadSector = rw c.prepared_to-trimmed.ensures (trimmed_good try_again retrim) in
    let apart' : scraped ≢ BadSector = rw c.prepared_to-scraped.ensures (scraped_good try_again retrim) in
    let left = changes_still domain (replaced NonTrimmed trimmed) NonScraped old _ changed refl
    (replaced_alone NonTrimmed trimmed NonScraped unscraped) _ _ second.changes in
    let bad = changes_still domain (replaced NonTrimmed trimmed) BadSector old _ changed refl
    (replaced_alone NonTrimmed trimmed BadSector apart) _ _ third.changes in
    let used = (rw c.reserve.ensures.statuses at c.replace.ensures.spare) first.ranges first.changes in
    let used' = c.replace-2.ensures.spare second.ranges left in
    record {
      room = record {
        ranges = third.ranges;
        changes = changes_still domain (replaced NonScraped scraped) BadSector _ _ c.replace-2.ensures.changed refl
            (replaced_alone NonScraped scraped BadSector apart') _ _ bad;
        enough = omega (arith, first.total, second.total, third.total, c.in_ok-reserve.ensures.spare, used, used');
      };
    }

pub returns-clause-prepared : goal.returns-clause-prepared
returns-clause-prepared g c =
    let changed = rw c.reserve.ensures.statuses at c.replace.ensures.changed in
    changed_is _ _ _ _
    (prepared_by_parts _ _ _ _ _ _ c.prepared_to-trimmed.ensures c.prepared_to-scraped.ensures
    c.prepared_to-bad.ensures _ _ _ _ changed c.replace-2.ensures.changed c.replace-3.ensures.changed)
