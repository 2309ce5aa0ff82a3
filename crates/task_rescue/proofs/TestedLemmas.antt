-- What a run in test mode did to the input that its source reads.
use Rattle.rescue_rules.specs.Across.{across}
use Rattle.std.proofs.Common.{◌≡◌, ℕ, Bool, IsTrue, List, ◌++◌, map, Option, Some, None, sym, ap, ◌∙◌}
use Rattle.std.proofs.lemmas.List.{map-append, append_cancel_left}
use Rattle.block_list.specs.declared.status.Status.{Status}
use Rattle.mapfile_text.specs.declared.state.MapState.{MapState}
use Rattle.faulty_source.specs.Journal.{Reading}
use Rattle.faulty_source.specs.JournalGains.{JournalGains}
use Rattle.faulty_source.specs.SourceState.{SourceState}
use Rattle.faulty_source.specs.SourceChanges.{Keeps as SourceKeeps}
use Rattle.crash_site.specs.SiteState.{SiteState}
use Rattle.rescue_console.specs.ClockState.{ClockState}
use Rattle.rescue_console.specs.ConsoleState.{ConsoleState}
use Rattle.rescue_domain.specs.Testing.{seen, state_seen, GainsSeen}
use Rattle.rescue_domain.proofs.TestingLemmas.{said_below}
use Rattle.rescue_rules.specs.Setting.{Setting}
use Rattle.task_files.specs.declared.ending.Ending.{Ending}
use Rattle.task_files.specs.Answers.{Causes}
use Rattle.task_files.specs.Findings.{HasGainedReads}
use Rattle.task_files.specs.Steps.{DidRun}

-- Between two states of an input, as they are seen in test mode:
module _ (reference : ℕ) (tests : List Status) (old new : SourceState)
    (kept : SourceKeeps (state_seen reference tests old) (state_seen reference tests new)) where
  -- reads that the journal gained as it is seen are such as it gained,
  gains_seen : (reads : List Reading) → IsTrue old.tells
      → map (seen tests) new.journal ≡ map (seen tests) old.journal ++ reads → GainsSeen tests reads old.journal new.journal
  gains_seen reads tells told =
      let gains : JournalGains old.journal new.journal = (kept.journals_below tells).0 in
      let same : map (seen tests) old.journal ++ map (seen tests) gains.reads ≡ map (seen tests) old.journal ++ reads =
      sym (map-append (seen tests) old.journal gains.reads) ∙ ap (map (seen tests)) (sym gains.told) ∙ told in
      record { gains = gains; seen = append_cancel_left (map (seen tests) old.journal) _ _ same }

  -- and so the run is one of that input.
  ran_seen : (s : Setting) (statuses : List Status) (state : Option MapState) (heard heard' : Bool) (e : Ending)
      (site site' : SiteState) (clock clock' : ClockState) (console console' : ConsoleState)
      → DidRun s None statuses state heard heard' e
      (across (state_seen reference tests old) (state_seen reference tests new) site site' clock clock' console console')
      → DidRun s (Some tests) statuses state heard heard' e (across old new site site' clock clock' console console')
  ran_seen s statuses state heard heard' e site site' clock clock' console console' ran = record {
    gain = ran.gain;
    gains = record {
      calls = ran.gains.calls;
      reads = λ tell.
          let h : HasGainedReads None (state_seen reference tests old) (state_seen reference tests new) ran.gain.reads =
          ran.gains.reads tell in
          let g : GainsSeen tests h.raw old.journal new.journal = gains_seen h.raw tell h.journal in
          record { raw = g.gains.reads; journal = g.gains.told; seen_are = g.seen ∙ h.seen_are; right = h.right };
      times = ran.gains.times;
      fit = ran.gains.fit;
    };
    lines = ran.lines;
    says = ran.says;
    runs = ran.runs;
  }

-- What a run did to a source in test mode that was made of an input in this state, and leaves it in that one:
module _ (reference reference' : ℕ) (tests tests' : List Status) (old new test : SourceState)
    (made : test ≡ state_seen reference tests old) (kept : SourceKeeps test (state_seen reference' tests' new)) where
  below : (P : SourceState → SourceState → Type 0) → P test (state_seen reference' tests' new)
      → P (state_seen reference tests old) (state_seen reference tests new)
  below = said_below reference reference' tests tests' old new test made kept

  -- it did that to the input,
  pub ran_below : (s : Setting) (statuses : List Status) (state : Option MapState) (heard heard' : Bool) (e : Ending)
      (site site' : SiteState) (clock clock' : ClockState) (console console' : ConsoleState)
      → DidRun s None statuses state heard heard' e
      (across test (state_seen reference' tests' new) site site' clock clock' console console')
      → DidRun s (Some tests) statuses state heard heard' e (across old new site site' clock clock' console console')
  ran_below s statuses state heard heard' e site site' clock clock' console console' ran =
      ran_seen reference tests old new (below SourceKeeps kept) s statuses state heard heard' e site site' clock clock'
      console console'
      (below (λ a b. DidRun s None statuses state heard heard' e (across a b site site' clock clock' console console')) ran)

  -- and its answer has that cause there.
  pub causes_below : (e : Ending) (site site' : SiteState) → Causes e test (state_seen reference' tests' new) site site'
      → Causes e old new site site'
  causes_below e site site' cause =
      let c : Causes e (state_seen reference tests old) (state_seen reference tests new) site site' =
      below (λ a b. Causes e a b site site') cause in
      record { opens = c.opens; reads = c.reads; calls = c.calls; also = c.also }
