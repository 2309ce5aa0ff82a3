-- By how far the reads came.
use Rattle.std.proofs.Common.{◌∙◌}
use Rattle.std.proofs.lemmas.Result.{err_from_is_err_and}
use Rattle.ddrescuelog_words.specs.Command.{told_by}
use Rattle.ddrescuelog_cli.proofs.LoadedLemmas.{mapfile_refused, other_refused, domain_refused, loaded_or_starved, cause_after}
use Rattle.ddrescuelog_cli.proofs.load.load_maps.Goals as goal

pub returns-in_err-map-clause-maps : goal.returns-in_err-map-clause-maps
returns-in_err-map-clause-maps g c =
    let p = err_from_is_err_and c.from_residual.result c.from_residual.ensures.1 in
    rw (p.1, p.2)
    (mapfile_refused (told_by c.args.command.now) c.in_err-map.field-0.0 (g.D.Site.state c.args.site.now)
    (g.D.Site.state c.read_map.new.site) (rw c.row-mode.ensures at c.in_err-map.ensures.read))

pub returns-in_err-other-clause-maps : goal.returns-in_err-other-clause-maps
returns-in_err-other-clause-maps g c =
    let p = err_from_is_err_and c.from_residual-in_err-other.result c.from_residual-in_err-other.ensures.1 in
    rw (p.1, p.2)
    (other_refused (told_by c.args.command.now) c.in_ok-map.map c.in_err-other.field-0.0
    (g.D.Site.state c.args.site.now) (g.D.Site.state c.read_map.new.site) (g.D.Site.state c.read_named.new.site)
    (rw c.row-mode.ensures at c.in_ok-map.ensures.read) c.in_ok-map.ensures.site
    c.in_err-other.ensures.read)

pub returns-in_err-other-clause-cause : goal.returns-in_err-other-clause-cause
returns-in_err-other-clause-cause g c =
    let p = err_from_is_err_and c.from_residual-in_err-other.result c.from_residual-in_err-other.ensures.1 in
    rw (p.1, p.2)
    (cause_after c.in_err-other.field-0.0 _ _ _ c.in_ok-map.ensures.kept c.in_err-other.ensures.cause)

pub returns-in_err-domain_map-clause-cause : goal.returns-in_err-domain_map-clause-cause
returns-in_err-domain_map-clause-cause g c =
    let p = err_from_is_err_and c.from_residual-in_err-domain_map.result c.from_residual-in_err-domain_map.ensures.1 in
    rw (p.1, p.2)
    (cause_after c.in_err-domain_map.field-0.0 _ _ _ (c.in_ok-other.ensures.kept ∙ c.in_ok-map.ensures.kept)
    c.in_err-domain_map.ensures.cause)

pub returns-in_err-domain_map-clause-maps : goal.returns-in_err-domain_map-clause-maps
returns-in_err-domain_map-clause-maps g c =
    let p = err_from_is_err_and c.from_residual-in_err-domain_map.result c.from_residual-in_err-domain_map.ensures.1 in
    rw (p.1, p.2)
    (domain_refused (told_by c.args.command.now) c.in_ok-map.map c.in_ok-other.other c.in_err-domain_map.field-0.0
    (g.D.Site.state c.args.site.now) (g.D.Site.state c.read_map.new.site) (g.D.Site.state c.read_named.new.site)
    (g.D.Site.state c.read_named-2.new.site) (rw c.row-mode.ensures at c.in_ok-map.ensures.read)
    c.in_ok-map.ensures.site c.in_ok-other.ensures.read c.in_ok-other.ensures.site
    (rw c.mode_of-mode.ensures at c.in_err-domain_map.ensures.read))

pub returns-clause-maps : goal.returns-clause-maps
returns-clause-maps g c =
    loaded_or_starved (told_by c.args.command.now) c.in_ok-map.map c.in_ok-other.other c.in_ok-domain_map.domain_map
    c.make_loaded.result (g.D.Site.state c.args.site.now) (g.D.Site.state c.read_map.new.site)
    (g.D.Site.state c.read_named.new.site) (g.D.Site.state c.read_named-2.new.site) c.requires
    (rw c.row-mode.ensures at c.in_ok-map.ensures.read) c.in_ok-map.ensures.site
    c.in_ok-other.ensures.read c.in_ok-other.ensures.site
    (rw c.mode_of-mode.ensures at c.in_ok-domain_map.ensures.read) c.make_loaded.ensures.loaded
    c.make_loaded.ensures.starved
