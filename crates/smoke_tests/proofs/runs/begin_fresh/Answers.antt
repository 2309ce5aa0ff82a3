use Rattle.std.proofs.Common.{◌≡◌, ℕ, ◌<◌, ◌^◌, true, None, arith, subst, sym}
use Rattle.rescue_domain.specs.Domain.{whole_domain}
use Rattle.ddrescue_words.specs.Command.{Command}
use Rattle.ddrescue_words.specs.Asking.{sample_command, told_by}
use Rattle.task_files.specs.Asked.{ArePlacedBy}
use Rattle.task_files.specs.Steps.{maps_read}
use Rattle.smoke_tests.proofs.runs.begin_fresh.Goals as goal

below_end : (end x : ℕ) → whole_domain 0 None end x ≡ true → x < end
below_end end x inside = grind (arith, inside)

-- each position that this command asks for has a place
placed : (c : Command) (end : ℕ) → end < 2 ^ 63 → c ≡ sample_command → ArePlacedBy c.options end
placed c end short is =
    subst (λ (x : Command). ArePlacedBy x.options end) (sym is)
    (λ x inside. let below : x < end = below_end end x inside in omega (arith, below, short))

pub returns-clause-copying : goal.returns-clause-copying
returns-clause-copying c =
    let told = told_by c.sample_command-command.result in
    let map = c.in_ok-map.map in
    (c.begin.ensures c.args.end (maps_read told.options None None map) map.tiles.statuses map.state
    (placed told c.args.end c.requires c.sample_command-command.ensures.told) c.in_ok-map.ensures.fits
    (c.in_ok-ready.ensures.ready None)).copying

pub returns-clause-places : goal.returns-clause-places
returns-clause-places c =
    let told = told_by c.sample_command-command.result in
    let map = c.in_ok-map.map in
    (c.begin.ensures c.args.end (maps_read told.options None None map) map.tiles.statuses map.state
    (placed told c.args.end c.requires c.sample_command-command.ensures.told) c.in_ok-map.ensures.fits
    (c.in_ok-ready.ensures.ready None)).places
