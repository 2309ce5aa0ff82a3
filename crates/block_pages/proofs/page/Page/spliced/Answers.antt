use Rattle.std.proofs.Common.{ap, arith, length, length-append}
use Rattle.block_pages.proofs.RangeLemmas.{touched_blocks}
use Rattle.block_pages.proofs.RowLemmas.{row_first, row_second, row_third}
use Rattle.block_pages.proofs.page.Page.spliced.Goals as goal

pub copy-requires-clause-room : goal.copy-requires-clause-room
copy-requires-clause-room c = omega (arith, ap length c.new-page.ensures, c.requires.order, c.requires.within, c.len-len.ensures.value, c.len-len.ensures.fits)

pub add-requires-clause-room : goal.add-requires-clause-room
add-requires-clause-room c =
    omega (
      arith,
      ap length c.new-page.ensures,
      c.copy.ensures.len,
      c.requires.order,
      c.requires.within,
      c.requires.fits,
    )

pub copy-requires-2-clause-room : goal.copy-requires-2-clause-room
copy-requires-2-clause-room c =
    omega (
      arith,
      ap length c.new-page.ensures,
      c.copy.ensures.len,
      ap length c.add.ensures,
      length-append c.copy.new.self c.args.new.now,
      c.len-len.ensures.value,
      c.requires.order,
      c.requires.within,
      c.requires.fits,
    )

pub returns : goal.returns
returns c =
    touched_blocks _ _ _ _ _ _ _ _ _ _ c.new-page.ensures c.copy.ensures.copied c.add.ensures c.len-len.ensures.value
    c.copy-2.ensures.copied

pub copy-requires-clause-row : goal.copy-requires-clause-row
copy-requires-clause-row c = row_first _ c.args.self.now c.args.new.now _ c.args.from c.new-page.ensures c.requires.row

pub add-requires-clause-row : goal.add-requires-clause-row
add-requires-clause-row c =
    row_second _ _ c.args.self.now c.args.new.now _ c.args.from c.new-page.ensures c.copy.ensures.copied c.requires.row

pub copy-requires-2-clause-row : goal.copy-requires-2-clause-row
copy-requires-2-clause-row c =
    row_third _ _ _ c.args.self.now c.args.new.now c.args.from c.args.to _ c.new-page.ensures c.copy.ensures.copied c.add.ensures
    c.len-len.ensures.value c.requires.row
