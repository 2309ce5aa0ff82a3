-- An output as it is opened, and the disk at the barrier.
use Rattle.std.specs.Bool.{⊤}
use Rattle.std.proofs.Common.{◌≡◌, ℕ, Bool, true, false, List, Option, Some, None, refl, sym, ◌∙◌, ap}
use Rattle.std.specs.Str.{bytes_eq}
use Rattle.std.proofs.lemmas.Bool.{cond-true}
use Rattle.crash_site.specs.Files.{File, empty_file, bytes_of}
use Rattle.crash_site.specs.FileAnswers.{kind_of}
use Rattle.crash_site.specs.Calls.{Done, image_open, image_sync, map_settle}
use Rattle.crash_site.specs.Folder.{Folder, opened}
use Rattle.crash_site.specs.Disk.{Disk, only, after_part, entered}
use Rattle.crash_site.proofs.LawLemmas.{Sure, own_name, done_other}
use Rattle.rescue_rules.specs.Setting.{Setting}
use Rattle.rescue_rules.specs.Laws.{AreThreeNames}
use Rattle.rescue_rules.specs.Stops.{opened_output}
use Rattle.rescue_rules.proofs.SaveStages.{put_own}

-- an output that is opened: it is there, or it is made
abbrev pub Opens : (makes : Bool) → Option File → Type 0
Opens true o = ⊤
Opens false None = ⊥
Opens false (Some f) = ⊤

pub opened_bytes : (o : Option File) → (opened_output o).bytes ≡ bytes_of o
opened_bytes None = refl
opened_bytes (Some f) = refl

pub opened_kind : (makes : Bool) (o : Option File) → Opens makes o
    → kind_of (Some (opened_output o)) false ≡ kind_of o makes
opened_kind true None is = refl
opened_kind true (Some f) is = refl
opened_kind false None is = absurd is
opened_kind false (Some f) is = refl

pub opened_image : (d : Folder) (name : List ℕ) (o : Option File) → (opened d name true o).image ≡ Some name
opened_image d name None = refl
opened_image d name (Some f) = refl

pub opens_image : (d : Folder) (name : List ℕ) (makes : Bool) (o : Option File) → Opens makes o
    → (opened d name makes o).image ≡ Some name
opens_image d name true o is = opened_image d name o
opens_image d name false None is = absurd is
opens_image d name false (Some f) is = refl

pub opened_own : (d : Folder) (name : List ℕ) (makes : Bool) (o : Option File) → Opens makes o → d.files name ≡ o
    → (opened d name makes o).files name ≡ Some (opened_output o)
opened_own d name true None is reads = put_own d.files name (Some empty_file)
opened_own d name true (Some f) is reads = reads
opened_own d name false None is reads = absurd is
opened_own d name false (Some f) is reads = reads

-- the disk when an output was opened, when the mapfile was settled, and when the image was synced
module _ (s : Setting) (makes : Bool) where
  abbrev pub at_open : Disk → Disk
  at_open d = entered d (Done (image_open s.outfile makes))

  abbrev pub at_settle : Disk → Disk
  at_settle d = entered (at_open d) (Done (map_settle s.names.map))

  abbrev pub at_barrier : Disk → Disk
  at_barrier d = entered (at_settle d) (Done image_sync)

  pub settled_map : (d : Disk) → AreThreeNames s → Sure (at_settle d) s.names.map (d.reads.files s.names.map)
  settled_map d three =
      let stood : (at_open d).reads.files s.names.map ≡ d.reads.files s.names.map
      = done_other d.reads (image_open s.outfile makes) s.names.map (λ e. three.map (sym e)) in
      record {
        shows = cond-true (bytes_eq s.names.map s.names.map) (only ((at_open d).reads.files s.names.map))
            ((after_part (map_settle s.names.map) (at_open d)).shows s.names.map) (own_name s.names.map)
            ∙ ap only stood;
        reads = stood;
      }
