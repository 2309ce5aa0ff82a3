use Rattle.std.proofs.Common.{◌≤◌, ◌∙◌, length, ap, arith}
use Rattle.std.proofs.lemmas.List.Edits.{length-insert}
use Rattle.paged_blocks.proofs.RefillLemmas.{placed, unused}
use Rattle.paged_blocks.proofs.marks.refill.place.Goals as goal

pub index_mut-requires : goal.index_mut-requires
index_mut-requires c =
    omega (arith, (unused _ _ _ _ _ c.requires.filed.numbered c.in-Some.ensures.items).there, c.args.pages.now.ok.0)

pub returns-in-Some-clause-filed : goal.returns-in-Some-clause-filed
returns-in-Some-clause-filed c =
    let h : c.args.k ≤ length c.args.entries.now.items = c.requires.index in
    rw c.insert.ensures.items (placed _ _ _ _ _ _ _ _ c.requires.filed c.in-Some.ensures.items h c.requires.some c.entry_of-entry.ensures).filed

pub returns-in-Some-clause-front : goal.returns-in-Some-clause-front
returns-in-Some-clause-front c =
    let h : c.args.k ≤ length c.args.entries.now.items = c.requires.index in
    rw c.insert.ensures.items (placed _ _ _ _ _ _ _ _ c.requires.filed c.in-Some.ensures.items h c.requires.some c.entry_of-entry.ensures).front

pub returns-in-Some-clause-back : goal.returns-in-Some-clause-back
returns-in-Some-clause-back c =
    let h : c.args.k ≤ length c.args.entries.now.items = c.requires.index in
    rw c.insert.ensures.items (placed _ _ _ _ _ _ _ _ c.requires.filed c.in-Some.ensures.items h c.requires.some c.entry_of-entry.ensures).back

pub returns-in-Some-clause-entries : goal.returns-in-Some-clause-entries
returns-in-Some-clause-entries c =
    ap length c.insert.ensures.items ∙ length-insert c.args.entries.now.items c.args.k c.entry_of-entry.result c.requires.index
