-- The calls of a run with a mapfile.
use Rattle.std.proofs.Common.{◌≡◌, ℕ, Bool, true, List, [], ◌∷◌, Option, None, if◌then◌else◌, ap}
use Rattle.crash_site.specs.Files.{File}
use Rattle.crash_site.specs.Calls.{Call, image_open, image_sync}
use Rattle.mapfile_save.specs.Loading.{barrier_calls}
use Rattle.mapfile_save.specs.Saving.{save_calls}
use Rattle.rescue_rules.specs.Setting.{Setting}
use Rattle.rescue_rules.specs.Machine.{Machine}
use Rattle.rescue_rules.specs.Step.{Event}
use Rattle.rescue_rules.specs.Moves.{state_after}
use Rattle.rescue_rules.specs.Snapshots.{text_of, last_snapshot}
use Rattle.rescue_rules.specs.RunCalls.{end_calls}
use Rattle.rescue_rules.specs.Work.{opening_calls, mapfile_in}

-- its opening, which makes an output that is absent, or doesn't; a rescue's; and a rescue's last save
abbrev pub opening_by : Setting → (makes : Bool) → List Call
opening_by s makes = image_open s.outfile makes ∷ barrier_calls s.names

abbrev pub settling_calls : Setting → List Call
settling_calls s = opening_by s true

abbrev pub last_save : Setting → Machine → List Event → List Call
last_save s m es = save_calls s.names (text_of s.line (last_snapshot s (state_after s m es)))

pub opening_is : (s : Setting) → s.has_mapfile ≡ true → opening_calls s ≡ settling_calls s
opening_is s on =
    ap (λ (b : Bool). image_open s.outfile true ∷ (if b then barrier_calls s.names else [])) on

pub end_is : (s : Setting) (m : Machine) (es : List Event) → s.has_mapfile ≡ true → end_calls s m es ≡ last_save s m es
end_is s m es on = ap (λ (b : Bool). if b then last_save s m es else image_sync ∷ []) on

pub mapfile_is : (s : Setting) (files : List ℕ → Option File) → s.has_mapfile ≡ true → mapfile_in s files ≡ files s.names.map
mapfile_is s files on = ap (λ (b : Bool). if b then files s.names.map else None) on
