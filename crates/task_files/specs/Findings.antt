-- What was outside of a rescue, and what it did there; and how far the objects tell that.
use Rattle.std.specs.Prelude.{◌≡◌, ℕ, IsTrue, List, ◌++◌, length, All, Option}
use Rattle.block_list.specs.declared.status.Status.{Status}
use Rattle.faulty_source.specs.Journal.{Reading, IsFrom}
use Rattle.faulty_source.specs.SourceState.{SourceState}
use Rattle.crash_site.specs.SiteState.{files_in}
use Rattle.rescue_rules.specs.Across.{Across}
use Rattle.program_promise.specs.Work.{Deeds}
use Rattle.program_promise.specs.Opens.{AreOpens}
use Rattle.ddrescue_words.specs.Command.{Command}
use Rattle.task_files.specs.Asked.{Maps}
use Rattle.task_files.specs.Maps.{Found, found_in, seen_through}

-- The files that the rescue's steps found, the input's length, and what the maps say. What the rescue did: opens of the
-- input, calls on the files, reads as they are seen by the maps, readings of the clock, and the lines that it puts.
pub record Findings : Type 0 where
  pub found : Found
  pub end : ℕ
  pub maps : Maps
  pub did : Deeds
  pub lines : List (List ℕ)

-- the journal gained reads that are seen as these, by this map if there is one, and that gave the input's own bytes
pub record HasGainedReads (test : Option (List Status)) (source source' : SourceState) (reads : List Reading)
    : Type 0 where
  pub raw : List Reading
  pub journal : source'.journal ≡ source.journal ++ raw
  pub seen_are : seen_through test raw ≡ reads
  pub right : All (IsFrom source.bytes) reads

-- What was found, the input's length, what the maps say and what was done are as the objects tell. What an object tells
-- is its own:
pub record Agrees (c : Command) (o : Across) (files : Found) (size : ℕ) (maps : Maps) (did : Deeds) : Type 0 where
  -- the opens are those that the source counts;
  pub opens : AreOpens did.opens o.source o.source'
  -- if the site tells, the files are its own, and the calls;
  pub found : IsTrue o.site.tells → files ≡ found_in c (files_in o.site)
  pub calls : IsTrue o.site.tells → o.site'.calls ≡ o.site.calls ++ did.gain.calls
  -- if the source tells, the length is its own, and the reads;
  pub end : IsTrue o.source.tells → size ≡ length o.source.bytes
  pub reads : IsTrue o.source.tells → HasGainedReads maps.test o.source o.source' did.gain.reads
  -- if the clock tells after the call, the readings are its own.
  pub times : IsTrue o.clock'.tells → o.clock'.readings ≡ o.clock.readings ++ did.gain.times
