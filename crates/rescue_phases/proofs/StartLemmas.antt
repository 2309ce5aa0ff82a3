-- A run at its start may go on with copying.
use Rattle.std.proofs.Common.{◌≡◌, ℕ, min, nat_eq, List, length, Option, Some, None, refl, sym, ap, ◌∙◌, arith}
use Rattle.std.proofs.lemmas.Bool.{cond-true, eq-eqb}
use Rattle.block_list.specs.declared.status.Status.{Status}
use Rattle.mapfile_text.specs.declared.state.MapState.{MapState}
use Rattle.rescue_rules.specs.declared.phase.Phase.TheVariants.{Copying}
use Rattle.rescue_rules.specs.Setting.{Setting}
use Rattle.rescue_rules.specs.Passes.{numbered, copying_passes}
use Rattle.rescue_rules.specs.Machine.{start_of}
use Rattle.rescue_rules.specs.Beginning.{first_pass, first_cursor}
use Rattle.rescue_rules.proofs.FitLemmas.{first_few}
use Rattle.rescue_core.specs.RunState.{RunState, setting_with, started}
use Rattle.rescue_core.proofs.PassLemmas.{copying_leads}
use Rattle.rescue_phases.specs.Laws.{StartMayCopy, ShownMayCopy}
use Rattle.rescue_phases.proofs.CopyingLemmas.{leaves_at_start}

-- the last pass begins at its own start
last_cursor : (s : Setting) (loaded : Option MapState) (map : List Status) → first_pass loaded ≡ copying_passes
    → first_cursor s loaded map ≡ start_of s (numbered Copying (first_pass loaded)) map
last_cursor s None map last = absurd (omega (arith, last))
last_cursor s (Some state) map last =
    cond-true (nat_eq (min state.pass copying_passes) copying_passes) (start_of s (numbered Copying copying_passes) map)
    (min state.pos (length map)) (eq-eqb (min state.pass copying_passes) copying_passes last)
    ∙ ap (λ (n : ℕ). start_of s (numbered Copying n) map) (sym last)

pub start_may_copy : StartMayCopy
start_may_copy settings domain names line map loaded moment heard sound suits =
    let r : RunState = started settings domain names line map loaded moment heard in
    let s : Setting = setting_with settings domain names line in
    record {
      sensible = record {
        sector = sound.sector;
        sectors = sound.sectors;
        some = sound.some;
        cluster = sound.cluster;
        from = suits.from;
        retries = sound.retries;
      };
      within = refl;
      phase = refl;
      few = first_few loaded;
      passes = refl;
      lead = refl;
      last = λ last. leaves_at_start s r.machine (first_pass loaded) (copying_leads s (first_pass loaded) (first_few loaded))
          (last_cursor s loaded map last);
    }

pub shown_may_copy : ShownMayCopy
shown_may_copy r state c = record {
  sensible = c.sensible;
  within = c.within;
  phase = c.phase;
  few = c.few;
  passes = c.passes;
  lead = c.lead;
  last = λ last. record { ahead = (c.last last).ahead };
}
