-- By what the next record of the chain says.
use Rattle.std.proofs.Common.{Ok, rules, refl, subst, arith, ◌∙◌}
use Rattle.std.proofs.lemmas.Result.{err_from_is_err_and}
use Rattle.faulty_source.proofs.Keeping.{stays_more, stays_self}
use Rattle.partition_domain.specs.declared.chain.Link.{Link}
use Rattle.partition_domain.specs.Reads.{records_of}
use Rattle.partition_domain.specs.Steps.{LeadsNear, Turns}
use Rattle.partition_domain.proofs.TurnLemmas.{search_begun, search_ended, search_found, search_full, search_on, search_stopped}
use Rattle.partition_domain.proofs.chain.follow_chain.Goals as goal

pub records-init : goal.records-init
records-init g c = rw c.from.ensures (record {
  searching = λ main led. search_begun c.args.k main c.args.base (g.S.Source.state c.args.source.now) led;
  near = record { logical = c.requires.logical; at = search rules; given = omega arith; read = omega arith };
  stays = stays_self _;
  kept = refl;
})

pub records-preserved : goal.records-preserved
records-preserved g c =
    let old = g.S.Source.state c.args.source.now in
    let mid = g.S.Source.state c.records.source in
    let new = g.S.Source.state c.turn.new.source in
    record {
      searching = λ main led.
          let so_far = c.records.invariant.searching main led in
          search_on c.args.k main c.records.chain old mid new c.records.invariant.stays
          so_far c.in-On.next
          (subst (λ (l : Link). Turns c.args.k main c.records.chain (records_of so_far.reads) (Ok l) mid new)
          c.in-On.is (c.in_ok-partition.ensures.turned main (records_of so_far.reads)));
      near = (subst (λ (l : Link). LeadsNear c.args.k c.records.chain l) c.in-On.is c.in_ok-partition.ensures.near).0;
      stays = stays_more old mid new c.records.invariant.stays c.turn.ensures.stays;
      kept = c.in_ok-partition.ensures.kept ∙ c.records.invariant.kept;
    }

pub returns-in-Found-clause-searches : goal.returns-in-Found-clause-searches
returns-in-Found-clause-searches g c = λ main led.
    let mid = g.S.Source.state c.records.source in
    let new = g.S.Source.state c.turn.new.source in
    let so_far = c.records.invariant.searching main led in
    search_found c.args.k main c.records.chain _ mid new c.records.invariant.stays so_far c.in-Found.partition
    (subst (λ (l : Link). Turns c.args.k main c.records.chain (records_of so_far.reads) (Ok l) mid new)
    c.in-Found.is (c.in_ok-partition.ensures.turned main (records_of so_far.reads)))

pub returns-in-Found-clause-stays : goal.returns-in-Found-clause-stays
returns-in-Found-clause-stays g c = stays_more _ _ _ c.records.invariant.stays c.turn.ensures.stays

pub returns-in-End-clause-searches : goal.returns-in-End-clause-searches
returns-in-End-clause-searches g c = λ main led.
    let mid = g.S.Source.state c.records.source in
    let new = g.S.Source.state c.turn.new.source in
    let so_far = c.records.invariant.searching main led in
    search_ended c.args.k main c.records.chain _ mid new c.records.invariant.stays so_far
    (subst (λ (l : Link). Turns c.args.k main c.records.chain (records_of so_far.reads) (Ok l) mid new)
    c.in-End.is (c.in_ok-partition.ensures.turned main (records_of so_far.reads)))

pub returns-in-End-clause-stays : goal.returns-in-End-clause-stays
returns-in-End-clause-stays g c = stays_more _ _ _ c.records.invariant.stays c.turn.ensures.stays

pub returns-in_err-partition-clause-searches : goal.returns-in_err-partition-clause-searches
returns-in_err-partition-clause-searches g c = λ main led.
    let p = err_from_is_err_and c.from_residual.result c.from_residual.ensures.1 in
    rw (p.1, p.2)
    (search_stopped c.args.k main c.records.chain _ (g.S.Source.state c.records.source)
    (g.S.Source.state c.turn.new.source) c.records.invariant.stays (c.records.invariant.searching main led)
    c.in_err-partition.field-0.0 (c.in_err-partition.ensures.turned main _))

pub returns-in_err-partition-clause-stays : goal.returns-in_err-partition-clause-stays
returns-in_err-partition-clause-stays g c = stays_more _ _ _ c.records.invariant.stays c.turn.ensures.stays

pub returns-clause-searches : goal.returns-clause-searches
returns-clause-searches g c = λ main led.
    search_full c.args.k main c.records.chain _ _ c.records.invariant.near (omega (arith, c.records-test.false))
    (c.records.invariant.searching main led)
