-- A run begins with what options ask for.
use Rattle.std.proofs.Common.{◌≡◌, ℕ, ◌<◌, ◌≤◌, ◌^◌, Bool, List, length, Option, Some, None, refl, sym, ap, ◌∙◌, arith, subst}
use Rattle.block_list.specs.declared.block.Range.{Range}
use Rattle.block_list.specs.declared.status.Status.{Status}
use Rattle.mapfile_text.specs.declared.state.MapState.{MapState}
use Rattle.mapfile_save.specs.MapNames.{MapNames}
use Rattle.rescue_domain.specs.Parts.{covers}
use Rattle.rescue_rules.specs.Setting.{Setting}
use Rattle.rescue_rules.specs.Machine.{Machine}
use Rattle.rescue_rules.specs.Preparation.{prepared, prepared_status}
use Rattle.rescue_rules.specs.Beginning.{goes_on_from, shown_at_first, machine_of}
use Rattle.run_options.specs.declared.settings.Settings.{Settings}
use Rattle.run_options.specs.Settings.{IsSound as SettingsSound, Suits}
use Rattle.rescue_core.specs.RunState.{RunState, setting_with, setting_in, started, run_showing}
use Rattle.map_preparation.proofs.PrepareLemmas.{change_is_made}
use Rattle.rescue_phases.specs.Copying.{MayCopy}
use Rattle.rescue_phases.proofs.StartLemmas.{start_may_copy, shown_may_copy}
use Rattle.ddrescue_words.specs.declared.options.Options.{Options}
use Rattle.ddrescue_words.specs.Asking.{AreInLimits}
use Rattle.task_files.specs.Asked.{Maps, ArePlacedBy, domain_asked}
use Rattle.task_files.specs.Steps.{SuitsInput}
use Rattle.task_files.specs.Settings.{settings_by}
use Rattle.task_rescue.specs.Running.{IsRunOver}
use Rattle.task_files.proofs.PlacedLemmas.{sound_settings, IsAsked, asked_suits, asked_placed}

-- the map that is made of one
abbrev made_of_map : List Range → Options → List Status → List Status
made_of_map domain o statuses = prepared (covers domain) o.try_again o.retrim statuses

-- it has as many positions
pub made_long : (domain : List Range) (o : Options) (statuses : List Status) → length (made_of_map domain o statuses) ≡ length statuses
made_long domain o statuses =
    (change_is_made (covers domain) (prepared_status o.try_again o.retrim) statuses).size

pub suits_made : (settings : Settings) (domain : List Range) (o : Options) (end : ℕ) (maps : Maps)
    (statuses made : List Status) → settings ≡ settings_by o → IsAsked o end maps domain → end ≤ length statuses
    → made ≡ made_of_map domain o statuses → Suits settings (covers domain) (length made)
suits_made settings domain o end maps statuses made is asked long made_is =
    asked_suits settings domain o end maps (length made) is asked
    (omega (arith, long, ap length made_is, made_long domain o statuses))

pub short_made : (domain : List Range) (o : Options) (statuses made : List Status) → length statuses < 2 ^ 63
    → made ≡ made_of_map domain o statuses → length made < 2 ^ 63
short_made domain o statuses made short made_is = omega (arith, short, ap length made_is, made_long domain o statuses)

-- a run at its start over that map, which shows what a mapfile showed, if it showed something
abbrev pub begun_with : Settings → List Range → Option MapNames → List ℕ → Options → List Status → Option MapState → ℕ → Bool
    → RunState
begun_with settings domain names line o statuses None moment heard =
    started settings domain names line (made_of_map domain o statuses) None moment heard
begun_with settings domain names line o statuses (Some shown) moment heard =
    run_showing
    (started settings domain names line (made_of_map domain o statuses) (goes_on_from o.try_again (Some shown)) moment heard)
    shown

begun_copies : (settings : Settings) (domain : List Range) (names : Option MapNames) (line : List ℕ) (o : Options)
    (statuses : List Status) (state : Option MapState) (moment : ℕ) (heard : Bool) → SettingsSound settings
    → Suits settings (covers domain) (length (made_of_map domain o statuses))
    → MayCopy (begun_with settings domain names line o statuses state moment heard)
begun_copies settings domain names line o statuses None moment heard sound suits =
    start_may_copy settings domain names line (made_of_map domain o statuses) None moment heard sound suits
begun_copies settings domain names line o statuses (Some shown) moment heard sound suits =
    let from : Option MapState = goes_on_from o.try_again (Some shown) in
    shown_may_copy (started settings domain names line (made_of_map domain o statuses) from moment heard) shown
    (start_may_copy settings domain names line (made_of_map domain o statuses) from moment heard sound suits)

-- the machine that such a run begins with
abbrev begun_machine : Settings → List Range → Option MapNames → List ℕ → Options → List Status → Option MapState → ℕ → Machine
begun_machine settings domain names line o statuses state moment =
    machine_of (setting_with settings domain names line) (made_of_map domain o statuses) (goes_on_from o.try_again state)
    (shown_at_first state) moment

begun_is : (settings : Settings) (domain : List Range) (names : Option MapNames) (line : List ℕ) (o : Options)
    (statuses : List Status) (state : Option MapState) (moment : ℕ) (heard : Bool)
    → (begun_with settings domain names line o statuses state moment heard).machine
    ≡ begun_machine settings domain names line o statuses state moment
begun_is settings domain names line o statuses None moment heard = refl
begun_is settings domain names line o statuses (Some shown) moment heard = refl

-- what else such a run has
record HasParts (settings : Settings) (domain : List Range) (names : Option MapNames) (line : List ℕ) (heard : Bool)
    (r : RunState) : Type 0 where
  settings_are : r.settings ≡ settings
  domain_is : r.domain ≡ domain
  names_are : r.names ≡ names
  line_is : r.line ≡ line
  heard_is : r.heard ≡ heard

begun_parts : (settings : Settings) (domain : List Range) (names : Option MapNames) (line : List ℕ) (o : Options)
    (statuses : List Status) (state : Option MapState) (moment : ℕ) (heard : Bool)
    → HasParts settings domain names line heard (begun_with settings domain names line o statuses state moment heard)
begun_parts settings domain names line o statuses None moment heard =
    record { settings_are = refl; domain_is = refl; names_are = refl; line_is = refl; heard_is = refl }
begun_parts settings domain names line o statuses (Some shown) moment heard =
    record { settings_are = refl; domain_is = refl; names_are = refl; line_is = refl; heard_is = refl }

setting_begun : (settings : Settings) (domain : List Range) (names : Option MapNames) (line : List ℕ) (o : Options)
    (statuses : List Status) (state : Option MapState) (moment : ℕ) (heard : Bool)
    → setting_in (begun_with settings domain names line o statuses state moment heard)
    ≡ setting_with settings domain names line
setting_begun settings domain names line o statuses None moment heard = refl
setting_begun settings domain names line o statuses (Some shown) moment heard = refl

pub begun_over : (settings : Settings) (domain : List Range) (names : Option MapNames) (line : List ℕ) (o : Options)
    (end : ℕ) (maps : Maps) (statuses : List Status) (state : Option MapState) (moment : ℕ) (heard : Bool) (r : RunState)
    → AreInLimits o → ArePlacedBy o end → SuitsInput end statuses state → settings ≡ settings_by o → IsAsked o end maps domain
    → r ≡ begun_with settings domain names line o statuses state moment heard
    → IsRunOver names line o end maps statuses state moment heard r
begun_over settings domain names line o end maps statuses state moment heard r limits placed fits is asked made =
    let q : RunState = begun_with settings domain names line o statuses state moment heard in
    let parts : HasParts settings domain names line heard q =
    begun_parts settings domain names line o statuses state moment heard in
    let long : end ≤ length (made_of_map domain o statuses) = omega (arith, fits.long, made_long domain o statuses) in
    let positions : (x : ℕ) → covers q.domain x ≡ domain_asked o end maps x =
    λ x. ap (λ (d : List Range). covers d x) parts.domain_is ∙ asked x in
    subst (IsRunOver names line o end maps statuses state moment heard) (sym made)
    (record {
      copying = begun_copies settings domain names line o statuses state moment heard (sound_settings settings o is limits)
          (asked_suits settings domain o end maps (length (made_of_map domain o statuses)) is asked long);
      places = asked_placed q.settings q.domain o end maps (parts.settings_are ∙ is) placed positions;
      settings_are = parts.settings_are ∙ is;
      names_are = parts.names_are;
      line_is = parts.line_is;
      heard_is = parts.heard_is;
      domain = positions;
      machine = begun_is settings domain names line o statuses state moment heard
          ∙ ap (λ (s : Setting). machine_of s (made_of_map domain o statuses) (goes_on_from o.try_again state) (shown_at_first state) moment)
          (sym (setting_begun settings domain names line o statuses state moment heard))
          ∙ ap (λ (d : List Range). machine_of (setting_in q) (prepared (covers d) o.try_again o.retrim statuses)
          (goes_on_from o.try_again state) (shown_at_first state) moment) (sym parts.domain_is);
    })

-- a run that was started over what is made of a map, and then shows what a mapfile showed, if it showed something
pub shows_nothing : (settings : Settings) (domain : List Range) (names : Option MapNames) (line : List ℕ) (o : Options)
    (statuses made : List Status) (state from : Option MapState) (moment : ℕ) (heard : Bool) (r q : RunState) → r ≡ q
    → q ≡ started settings domain names line made from moment heard → made ≡ made_of_map domain o statuses
    → from ≡ goes_on_from o.try_again state → state ≡ None
    → r ≡ begun_with settings domain names line o statuses state moment heard
shows_nothing settings domain names line o statuses made state from moment heard r q same begun map_is from_is none =
    let S : List Status → Option MapState → RunState = λ map at. started settings domain names line map at moment heard in
    same ∙ begun ∙ ap (λ (map : List Status). S map from) map_is
    ∙ ap (S (made_of_map domain o statuses)) (from_is ∙ ap (goes_on_from o.try_again) none)
    ∙ ap (λ (at : Option MapState). begun_with settings domain names line o statuses at moment heard) (sym none)

pub shows_loaded : (settings : Settings) (domain : List Range) (names : Option MapNames) (line : List ℕ) (o : Options)
    (statuses made : List Status) (state from : Option MapState) (shown : MapState) (moment : ℕ) (heard : Bool)
    (r q p : RunState) → r ≡ q → q ≡ run_showing p shown → p ≡ started settings domain names line made from moment heard
    → made ≡ made_of_map domain o statuses → from ≡ goes_on_from o.try_again state → state ≡ Some shown
    → r ≡ begun_with settings domain names line o statuses state moment heard
shows_loaded settings domain names line o statuses made state from shown moment heard r q p same loaded begun map_is from_is
    some =
    let S : List Status → Option MapState → RunState =
    λ map at. run_showing (started settings domain names line map at moment heard) shown in
    same ∙ loaded ∙ ap (λ (x : RunState). run_showing x shown) begun ∙ ap (λ (map : List Status). S map from) map_is
    ∙ ap (S (made_of_map domain o statuses)) (from_is ∙ ap (goes_on_from o.try_again) some)
    ∙ ap (λ (at : Option MapState). begun_with settings domain names line o statuses at moment heard) (sym some)
