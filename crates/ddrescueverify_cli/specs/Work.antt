-- The work of `ddrescueverify`: its steps in order, each a row of the fold that all programs share, and the comparison
-- after them, with its save.
use Rattle.std.specs.Prelude.{◌≡◌, ◌⊎◌, ℕ, Bool, false, nat_eq, List, [], ◌∷◌, ◌++◌, map, Option, Some, if◌then◌else◌}
use Rattle.block_list.specs.declared.status.Status.{Status}
use Rattle.mapfile_text.specs.declared.state.MapState.{MapState}
use Rattle.crash_site.specs.declared.site.SiteCall.TheVariants.{ImageRead}
use Rattle.crash_site.specs.Files.{File}
use Rattle.crash_site.specs.Calls.{Done as Returned, image_open}
use Rattle.mapfile_save.specs.MapNames.{names_of}
use Rattle.mapfile_save.specs.Saving.{save_calls}
use Rattle.mapfile_save.specs.Loading.{barrier_calls}
use Rattle.rescue_rules.specs.Start.{Stands}
use Rattle.program_promise.specs.Work.{Deeds, IsIdle, Faults, WorkStep, Take, Look as LookAt, Open, Make, Read, Works}
use Rattle.rescue_verify.specs.declared.halt.Halt.{Halt}
use Rattle.rescue_verify.specs.declared.halt.Halt.TheVariants.{NoMemory as NoRoom, SourceLost as InputLost, ImageFault}
use Rattle.rescue_verify.specs.declared.tally.Tally.{Tally}
use Rattle.rescue_verify.specs.Pieces.{NoneFrom, AskForPieces, end_of_reads}
use Rattle.rescue_verify.specs.Looks.{Look, reads_of, look_calls}
use Rattle.rescue_verify.specs.Comparing.{Comparison, place_in, tally_of, HaltsAt}
use Rattle.ddrescueverify_words.specs.Command.{Command}
use Rattle.ddrescueverify_cli.specs.declared.ending.VerifyEnding.{VerifyEnding}
use Rattle.ddrescueverify_cli.specs.declared.ending.VerifyEnding.TheVariants.{Done, Differs, SourceFault, SourceLost, SiteFault, ConsoleFault, NoMemory}
use Rattle.ddrescueverify_cli.specs.Asked.{comparison_of, text_of}
use Rattle.ddrescueverify_cli.specs.Refusals.{NamesRefused, OutputRefused, MapfileRefused, PlacesRefused}
use Rattle.ddrescueverify_cli.specs.Outside.{Found}

-- how faults are answered
abbrev pub verify_faults : Faults VerifyEnding
verify_faults = record { call = λ call. SiteFault call; memory = NoMemory; input = SourceFault }

-- The output is opened, which isn't made, and has to be there.
abbrev pub output_rows : (outfile : List ℕ) → (file : Option File) → List (WorkStep VerifyEnding)
output_rows outfile file = Make (image_open outfile false ∷ []) ∷ LookAt (OutputRefused file) ∷ []

-- The barrier makes durable what is there, and the mapfile is read, and may be refused.
abbrev pub load_rows : (mapfile : List ℕ) → (file : Option File) → List (WorkStep VerifyEnding)
load_rows mapfile file =
    Make (barrier_calls (names_of mapfile)) ∷ Read (Some mapfile) file ∷ LookAt (MapfileRefused file) ∷ []

-- what follows the names: the input is opened first, and after the mapfile each position that is asked for wants a
-- place in the output
abbrev pub opened_rows : Command → Found → (end : ℕ) → List (WorkStep VerifyEnding)
opened_rows c found end =
    Open c.infile
    ∷ (output_rows c.outfile found.output ++ load_rows c.mapfile found.mapfile
    ++ LookAt (PlacesRefused c.options end) ∷ Take ∷ [])

-- The steps before the first piece.
abbrev pub verify_rows : Command → Found → (end : ℕ) → List (WorkStep VerifyEnding)
verify_rows c found end = Take ∷ LookAt (NamesRefused c) ∷ opened_rows c found end

-- what is answered if the comparison stopped before its last piece
abbrev pub answer_of_halt : Halt → VerifyEnding
answer_of_halt NoRoom = NoMemory
answer_of_halt InputLost = SourceLost
answer_of_halt ImageFault = SiteFault ImageRead

-- what is answered if the comparison came to its end: whether a piece differs, and how many bytes of such there are
abbrev pub answer_of_tally : Tally → VerifyEnding
answer_of_tally t = if nat_eq t.differing 0 then Done else Differs t.differing

-- an answer after the map is saved: what the numbers mean, or that the console failed, if a line was to be put
abbrev pub IsAnswer : (quiet : Bool) → Tally → VerifyEnding → Type 0
IsAnswer quiet t e = (e ≡ answer_of_tally t) ⊎ ((quiet ≡ false) × (e ≡ ConsoleFault))

-- the end after the map is saved: the answer, and nothing more is done on the files
abbrev pub EndsSaved : (quiet : Bool) → Tally → VerifyEnding → Deeds → Type 0
EndsSaved quiet t e d = IsAnswer quiet t e × IsIdle d

-- The end of a comparison after the looks at its first pieces. It stopped before its last one, and saves nothing; or it
-- came to the last, and made one save, and said how much it compared, unless it was asked to say nothing.
pub data EndsAfter (c : Command) (p : Comparison) (text : List ℕ) (looks : List Look) (e : VerifyEnding) (d : Deeds)
    : Type 0 where
  Halts : (halt : Halt) → e ≡ answer_of_halt halt → d.opens ≡ [] → d.gain.times ≡ []
      → HaltsAt halt p (end_of_reads 0 (reads_of looks)) d.gain.reads d.gain.calls → EndsAfter c p text looks e d
  Completes : NoneFrom p.compared (end_of_reads 0 (reads_of looks))
      → Works verify_faults (Make (save_calls (names_of c.mapfile) text) ∷ [])
      (EndsSaved c.options.quiet (tally_of looks)) e d
      → EndsAfter c p text looks e d

-- these deeds after these reads, and after calls that returned
abbrev pub after_looks : (place : ℕ → ℕ) → List Look → Deeds → Deeds
after_looks place looks d = record {
  opens = d.opens;
  gain = record {
    calls = map Returned (look_calls place looks) ++ d.gain.calls;
    reads = reads_of looks ++ d.gain.reads;
    times = d.gain.times;
  };
}

-- What a comparison does for a command, with its command line.
module _ (c : Command) (line : List ℕ) where
  -- The comparison over a map: it looks at the first pieces, each by one read of the input and, if that was whole, one
  -- of the image, and ends after them.
  pub record ComparesOver (end : ℕ) (statuses : List Status) (shown : MapState) (looks : List Look)
      (e : VerifyEnding) (d : Deeds) : Type 0 where
    pub asks : AskForPieces (comparison_of c.options end statuses).compared c.options.sector 0 (reads_of looks)
    pub rest : Deeds
    pub is : d ≡ after_looks (place_in (comparison_of c.options end statuses)) looks rest
    pub ends : EndsAfter c (comparison_of c.options end statuses) (text_of line statuses shown looks) looks e rest

  -- The comparison over the map that the mapfile stands for, which ends at the input's end or past it.
  pub record Verifies (found : Found) (end : ℕ) (looks : List Look) (e : VerifyEnding) (d : Deeds) : Type 0 where
    pub statuses : List Status
    pub shown : MapState
    pub stands : Stands found.mapfile end statuses (Some shown)
    pub compares : ComparesOver end statuses shown looks e d
