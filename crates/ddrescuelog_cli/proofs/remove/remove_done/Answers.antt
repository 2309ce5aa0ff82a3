-- By the call that failed, if one did.
use Rattle.std.proofs.Common.{refl, inl, inr}
use Rattle.crash_site.specs.declared.site.SiteCall.TheVariants.{MapRemove, MapSettle}
use Rattle.ddrescuelog_words.specs.Command.{told_by}
use Rattle.ddrescuelog_cli.proofs.RemoveLemmas.{removes_broke, broke_settling, removes}
use Rattle.ddrescuelog_cli.proofs.remove.remove_done.Goals as goal

pub returns-in_default-clause-work : goal.returns-in_default-clause-work
returns-in_default-clause-work g c = λ m loaded.
    removes_broke (told_by c.args.command.now) m c.args.loaded.now MapRemove _ _ loaded c.requires.mode
    (c.if-not-is_done.ensures.done refl) (inl refl) (λ t. inl (refl, c.in_default.ensures.lost t))

pub returns-in_default-map_settle-clause-work : goal.returns-in_default-map_settle-clause-work
returns-in_default-map_settle-clause-work g c = λ m loaded.
    removes_broke (told_by c.args.command.now) m c.args.loaded.now MapSettle (g.D.Site.state c.args.site.now)
    (g.D.Site.state c.map_settle.new.self) loaded c.requires.mode
    (c.if-not-is_done.ensures.done refl) (inr (inl refl))
    (broke_settling c.args.command.now.mapfile.now MapSettle (g.D.Site.state c.args.site.now)
    (g.D.Site.state c.map_remove.new.self) (g.D.Site.state c.map_settle.new.self) refl c.in-Ok.ensures.keeps.tells
    c.in-Ok.ensures.done c.in_default-map_settle.ensures.lost)

pub returns-clause-work : goal.returns-clause-work
returns-clause-work g c = λ m loaded.
    removes (told_by c.args.command.now) m c.args.loaded.now (g.D.Site.state c.args.site.now)
    (g.D.Site.state c.map_remove.new.self) (g.D.Site.state c.map_settle.new.self) loaded c.requires.mode
    (c.if-not-is_done.ensures.done refl) c.in-Ok.ensures.keeps.tells c.in-Ok.ensures.done
    c.in-Ok-map_settle.ensures.done
