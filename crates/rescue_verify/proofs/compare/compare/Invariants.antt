use Rattle.std.proofs.Common.{◌≡◌, ◌-◌, length, vec_len}
use Rattle.faulty_source.specs.SourceChanges.{Stays as SourceStays}
use Rattle.crash_site.specs.SiteChanges.{Stays as SiteStays}
use Rattle.rescue_verify.specs.Comparing.{IsTallyUpTo, comparison_by}
use Rattle.rescue_verify.proofs.CompareLemmas.{UpTo}
use Rattle.rescue_verify.proofs.compare.compare.Given as goal

abbrev pub invariant-pieces : goal.invariant-pieces
invariant-pieces g l = record {
  up_to : UpTo (comparison_by l.comparison) l.from l.tally (g.T.Tiles.statuses l.initial.tiles) (g.T.Tiles.statuses l.tiles)
      (g.S.Source.state l.initial.source) (g.S.Source.state l.source) (g.D.Site.state l.initial.site) (g.D.Site.state l.site);
  source : SourceStays (g.S.Source.state l.initial.source) (g.S.Source.state l.source);
  losses : (g.S.Source.state l.source).losses ≡ (g.S.Source.state l.initial.source).losses;
  faults : (g.D.Site.state l.site).faults ≡ (g.D.Site.state l.initial.site).faults;
  site : SiteStays (g.D.Site.state l.initial.site) (g.D.Site.state l.site);
  long : length (g.T.Tiles.statuses l.tiles) ≡ length (g.T.Tiles.statuses l.initial.tiles);
  given : vec_len l.buffers.given ≡ l.comparison.sector;
  there : vec_len l.buffers.there ≡ l.comparison.sector;
  counted : IsTallyUpTo l.from l.tally;
}

abbrev pub decreases-pieces : goal.decreases-pieces
decreases-pieces g l = length (g.T.Tiles.statuses l.initial.tiles) - l.from
