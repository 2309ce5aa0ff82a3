use Rattle.std.proofs.Common.{◌∙◌, List, take, drop, refl, ap, sym, arith}
use Rattle.std.specs.List.{flat_map}
use Rattle.std.proofs.lemmas.List.Sums.{count_by-le-length}
use Rattle.block_list.specs.declared.block.Block.{Block}
use Rattle.block_list.specs.Status.{same}
use Rattle.block_list.specs.Stretches.{covered}
use Rattle.block_pages.proofs.RangeLemmas.{middle_short, spliced_length}
use Rattle.block_pages.proofs.SpliceLemmas.{begins_new, begins_old}
use Rattle.block_pages.proofs.TallyLemmas.{count_range, count_spliced}
use Rattle.block_pages.proofs.page_entry.entry_after.Goals as goal
use Rattle.block_pages.proofs.page_entry.entry_after.Goals.{then-from-eq0, else-from-eq0}

pub exchanged-requires-clause-among : goal.exchanged-requires-clause-among
exchanged-requires-clause-among c = λ s.
    omega (
      arith,
      c.requires.says.tally s,
      c.tally_of-gone.ensures s,
      count_range s c.args.page.now c.args.from c.args.to c.requires.order,
    )

pub exchanged-requires-clause-short : goal.exchanged-requires-clause-short
exchanged-requires-clause-short c = λ s.
    omega (
      arith,
      c.requires.says.tally s,
      c.tally-come.ensures s,
      count_by-le-length (λ z. same z s) (flat_map covered c.args.page.now),
      count_by-le-length (λ z. same z s) (flat_map covered c.args.new.now),
      middle_short (take c.args.from c.args.page.now) c.args.new.now (drop c.args.to c.args.page.now),
      c.requires.short,
      c.requires.new_short,
    )

pub returns-clause-says : goal.returns-clause-says
returns-clause-says c =
    let page : List Block = c.args.page.now in
    record {
      page = refl;
      len = omega (
        arith,
        c.len.ensures.value,
        c.requires.says.len,
        spliced_length page c.args.new.now c.args.from c.args.to c.requires.order c.requires.within,
      );
      fits = c.requires.fits;
      begins = λ d. elim c.if-from-eq0.branch [
        | then-from-eq0 w ↦
            begins_new page c.args.new.now c.args.from c.args.to w.block.result d w.if-from-eq0.true w.block.ensures ∙ sym w.pos-is
        | else-from-eq0 w ↦ ap (λ (b : Block). b.pos)
            (begins_old page c.args.new.now c.args.from c.args.to d (omega arith) (omega (arith, c.requires.order, c.requires.within)))
            ∙ c.requires.says.begins d
            ∙ sym w.pos-is
      ];
      tally = λ s.
          omega (
            arith,
            c.exchanged.ensures s,
            c.requires.says.tally s,
            c.tally_of-gone.ensures s,
            c.tally-come.ensures s,
            count_spliced s page c.args.from c.args.to c.args.new.now c.requires.order,
          );
    }
