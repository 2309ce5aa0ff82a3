-- The calls of a keeper's saves. For contracts and proofs: no promise uses it.
use Rattle.std.specs.Prelude.{List, [], ◌∷◌, is_some, if◌then◌else◌}
use Rattle.crash_site.specs.Calls.{Call, image_sync}
use Rattle.mapfile_save.specs.Saving.{save_calls}
use Rattle.mapfile_save.specs.MapNames.{names_in}
use Rattle.rescue_rules.specs.Snapshots.{Snapshot, text_of}
use Rattle.rescue_core.specs.declared.keeper.Keeper.{Keeper}

-- a save, if there is a mapfile
abbrev pub saves_of : Keeper → Snapshot → List Call
saves_of k p = if is_some k.names then save_calls (names_in k.names) (text_of k.heading.line p) else []

-- what is made at the end: a save, or without a mapfile an image sync
abbrev pub last_calls : Keeper → Snapshot → List Call
last_calls k p =
    if is_some k.names then save_calls (names_in k.names) (text_of k.heading.line p) else image_sync ∷ []
