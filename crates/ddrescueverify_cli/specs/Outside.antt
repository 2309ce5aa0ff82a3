-- What a command finds outside of it, and that it is what the objects tell.
use Rattle.std.specs.Prelude.{◌≡◌, ℕ, IsTrue, List, ◌++◌, length, map, All, Option, unwrap_or}
use Rattle.crash_site.specs.Files.{File, bytes_of}
use Rattle.crash_site.specs.SiteState.{files_in}
use Rattle.rescue_domain.specs.Places.{place_from}
use Rattle.program_promise.specs.Work.{Deeds}
use Rattle.rescue_verify.specs.Across.{Across}
use Rattle.rescue_verify.specs.Looks.{Look, reads_of, seen_in}
use Rattle.faulty_source.specs.Journal.{IsFrom}
use Rattle.ddrescueverify_words.specs.Command.{Command}
use Rattle.program_promise.specs.Opens.{AreOpens}

-- the output and the mapfile, as the steps found them
pub record Found : Type 0 where
  pub output : Option File
  pub mapfile : Option File

-- what a command finds among files that don't change
abbrev pub found_in : Command → (List ℕ → Option File) → Found
found_in c files = record { output = files c.outfile; mapfile = files c.mapfile }

-- where a position is in the output
abbrev pub place_by : Command → ℕ → ℕ
place_by c x = place_from c.options.input_position (unwrap_or c.options.output_position c.options.input_position) x

-- What was outside: the command line, the files, the input's length, and what each look at a piece saw.
pub record Outside : Type 0 where
  pub line : List ℕ
  pub found : Found
  pub end : ℕ
  pub looks : List Look

-- What an object tells is its own:
pub record Agrees (c : Command) (o : Outside) (did : Deeds) (a : Across) : Type 0 where
  -- the opens are those that the source counts;
  pub opens : AreOpens did.opens a.source a.source'
  -- if the source tells, the length is its own, and the reads, which gave its own bytes;
  pub end : IsTrue a.source.tells → o.end ≡ length a.source.bytes
  pub reads : IsTrue a.source.tells → a.source'.journal ≡ a.source.journal ++ did.gain.reads
  pub right : IsTrue a.source.tells → All (IsFrom a.source.bytes) did.gain.reads
  -- if the files tell, they are the ones found, and the calls are their own;
  pub found : IsTrue a.site.tells → o.found ≡ found_in c (files_in a.site)
  pub calls : IsTrue a.site.tells → a.site'.calls ≡ a.site.calls ++ did.gain.calls
  -- if the files tell, what each look saw in the image is what the output has there.
  pub seen : IsTrue a.site.tells
      → o.looks ≡ map (seen_in (bytes_of (files_in a.site c.outfile)) (place_by c)) (reads_of o.looks)
