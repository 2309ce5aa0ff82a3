-- The records so far lead on, and nothing was lost.
use Rattle.std.proofs.Common.{◌≡◌, ℕ, ◌-◌, List}
use Rattle.faulty_source.specs.SourceChanges.{Stays}
use Rattle.partition_domain.specs.Steps.{LeadsToChain, IsNear}
use Rattle.partition_domain.proofs.TurnLemmas.{Searching}
use Rattle.partition_domain.proofs.chain.follow_chain.Given as goal

abbrev pub invariant-records : goal.invariant-records
invariant-records g l = record {
  searching : (main : List ℕ) → LeadsToChain main l.base
      → Searching l.k main l.chain (g.S.Source.state l.fn.source) (g.S.Source.state l.source);
  near : IsNear l.k l.chain;
  stays : Stays (g.S.Source.state l.fn.source) (g.S.Source.state l.source);
  kept : (g.S.Source.state l.source).losses ≡ (g.S.Source.state l.fn.source).losses;
}

abbrev pub decreases-records : goal.decreases-records
decreases-records g l = 128 - l.chain.read
