-- The text so far is the file's beginning, read in pieces.
use Rattle.std.proofs.Common.{◌≡◌, ◌-◌, ◌≤◌, IsTrue, length}
use Rattle.crash_site.specs.SiteState.{files_in}
use Rattle.crash_site.specs.SiteChanges.{Stays as SiteStays}
use Rattle.mapfile_text.specs.MapText.{text_limit}
use Rattle.mapfile_resume.proofs.LoadLemmas.{Pieces}
use Rattle.mapfile_resume.proofs.load.read_text.Given as goal

abbrev pub invariant-pieces : goal.invariant-pieces
invariant-pieces g l = record {
  pieces : IsTrue (g.D.Site.state l.fn.site).tells
      → Pieces l.name (files_in (g.D.Site.state l.fn.site) l.name) l.text.items (g.D.Site.state l.fn.site).calls (g.D.Site.state l.site).calls;
  within : length l.text.items ≤ text_limit;
  site : SiteStays (g.D.Site.state l.fn.site) (g.D.Site.state l.site);
  faults : (g.D.Site.state l.site).faults ≡ (g.D.Site.state l.fn.site).faults;
}

abbrev pub decreases-pieces : goal.decreases-pieces
decreases-pieces g l = text_limit - length l.text.items
