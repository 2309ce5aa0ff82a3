-- A run at its start over a map that wasn't tried.
use Rattle.std.proofs.Common.{◌≡◌, ℕ, ◌<◌, ◌≤◌, true, false, List, [], length, Option, None, refl, ap, ◌∙◌, arith}
use Rattle.std.proofs.lemmas.List.{length-replicate}
use Rattle.block_list.specs.declared.status.Status.TheVariants.{NonTried}
use Rattle.mapfile_text.specs.HeadingLines.{HeadingLines}
use Rattle.rescue_domain.specs.Domain.{whole_domain}
use Rattle.rescue_domain.specs.Parts.{covers}
use Rattle.rescue_rules.specs.Preparation.{prepared}
use Rattle.rescue_core.specs.RunState.{started}
use Rattle.ddrescue_words.specs.declared.options.Options.{Options}
use Rattle.task_files.specs.Asked.{ArePlacedBy, no_maps}
use Rattle.task_rescue.proofs.BeginLemmas.{begun_over, shows_nothing, short_made, suits_made}
use Rattle.task_files.proofs.PlacedLemmas.{sound_settings}
use Rattle.ddrescueplan_words.specs.Command.{length_limit}
use Rattle.rescue_domain.proofs.PlaceLemmas.{whole_from}
use Rattle.rescue_plan.specs.Plan.{untried_map}
use Rattle.rescue_plan.proofs.ready.make_rescue.Goals as goal

below_end : (pos : ℕ) (size : Option ℕ) (n x : ℕ) → whole_domain pos size n x ≡ true → x < n
below_end pos size n x inside = grind (arith, inside)

placed : (o : Options) (n : ℕ) → o.output_position ≡ None → n ≤ length_limit → ArePlacedBy o n
placed o n none few x inside =
    let low = whole_from o.input_position o.size n x inside in
    let high = below_end o.input_position o.size n x inside in
    rw none (omega (arith, low, high, few))

blank_long : (n : ℕ) → length (untried_map n) ≡ n
blank_long n = length-replicate n NonTried

pub start-requires-clause-sound : goal.start-requires-clause-sound
start-requires-clause-sound c = sound_settings _ _ c.settings_for-settings.ensures c.requires.options

pub start-requires-clause-suits : goal.start-requires-clause-suits
start-requires-clause-suits c =
    let k = c.args.command.now in
    let o = k.options.rescue in
    let d = c.in_ok-domain.domain in
    let made = c.in_ok-prepare.ensures.prepared ∙ ap (prepared (covers d) o.try_again o.retrim) c.in_ok-tiles.ensures in
    suits_made c.settings_for-settings.result d o k.length no_maps (untried_map k.length) c.prepare.new.tiles.statuses
    c.settings_for-settings.ensures c.in_ok-domain.ensures.positions (omega (arith, blank_long k.length)) made

pub start-requires-clause-short : goal.start-requires-clause-short
start-requires-clause-short c =
    let k = c.args.command.now in
    let o = k.options.rescue in
    let d = c.in_ok-domain.domain in
    let made = c.in_ok-prepare.ensures.prepared ∙ ap (prepared (covers d) o.try_again o.retrim) c.in_ok-tiles.ensures in
    short_made d o (untried_map k.length) c.prepare.new.tiles.statuses (omega (arith, blank_long k.length, c.requires.length)) made

pub returns : goal.returns
returns c =
    let k = c.args.command.now in
    let o = k.options.rescue in
    let d = c.in_ok-domain.domain in
    let r = c.start.result in
    let made = c.in_ok-prepare.ensures.prepared ∙ ap (prepared (covers d) o.try_again o.retrim) c.in_ok-tiles.ensures in
    let line : c.in_ok-heading.heading.line ≡ [] = ap (λ (h : HeadingLines). h.line) c.in_ok-heading.ensures in
    let begun = c.start.ensures
    ∙ ap (λ (l : List ℕ). started c.settings_for-settings.result d None l c.prepare.new.tiles.statuses None 0 false) line in
    begun_over c.settings_for-settings.result d None [] o k.length no_maps (untried_map k.length) None 0 false r
    c.requires.options (placed o k.length c.requires.plain.output c.requires.length)
    (record {
      long = omega (arith, blank_long k.length);
      short = omega (arith, blank_long k.length, c.requires.length);
      pos = tt;
      pass = tt;
    })
    c.settings_for-settings.ensures c.in_ok-domain.ensures.positions
    (shows_nothing c.settings_for-settings.result d None [] o (untried_map k.length) c.prepare.new.tiles.statuses None None 0 false r
    r refl begun made refl refl)
