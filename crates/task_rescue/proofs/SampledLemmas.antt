-- The rescue of a sample, by what it did.
use Rattle.std.proofs.Common.{◌≡◌, ℕ, ◌^◌, ◌<◌, Bool, true, false, IsTrue, List, [], ◌∷◌, ◌++◌, length, replicate, All, Bor, Option, Some, None, Result, Ok, Err, option_map, inr, refl, sym, ap, ◌∙◌, subst, arith}
use Rattle.std.specs.Prelude.{codes, count_by, IfOk}
use Rattle.std.proofs.Math.Path.{fun_ext}
use Rattle.std.proofs.lemmas.List.{length-map}
use Rattle.std.proofs.lemmas.List.Elements.{All-head, All-tail, All-nil, All-cons}
use Rattle.block_list.specs.declared.block.Range.{Range}
use Rattle.block_list.specs.declared.status.Status.{Status}
use Rattle.block_list.specs.declared.status.Status.TheVariants.{NonTried}
use Rattle.mapfile_text.specs.declared.state.MapState.{MapState}
use Rattle.faulty_source.specs.Journal.{Reading, is_failed}
use Rattle.faulty_source.specs.SourceState.{SourceState}
use Rattle.mapfile_save.specs.MapNames.{MapNames, names_of}
use Rattle.rescue_console.specs.ClockState.{ClockState, Reads as ReadsClock}
use Rattle.rescue_console.specs.ConsoleState.{ConsoleState}
use Rattle.rescue_console.specs.Speaking.{SpeaksOn, out_pieces}
use Rattle.rescue_domain.specs.Domain.{whole_domain}
use Rattle.rescue_domain.specs.Parts.{covers}
use Rattle.rescue_rules.specs.declared.report.Counts.{Counts}
use Rattle.rescue_rules.specs.declared.phase.Phase.TheVariants.{Retrying}
use Rattle.rescue_rules.specs.Setting.{Setting}
use Rattle.rescue_rules.specs.Machine.{Machine}
use Rattle.rescue_rules.specs.Step.{Event}
use Rattle.rescue_rules.specs.Moves.{state_after, has_ended, IsRun}
use Rattle.rescue_rules.specs.Counts.{counts_of}
use Rattle.rescue_rules.specs.Preparation.{prepared}
use Rattle.rescue_rules.specs.Beginning.{goes_on_from, shown_at_first, machine_of}
use Rattle.rescue_rules.specs.Events.{reads_of, times_of}
use Rattle.rescue_rules.specs.Start.{IsFresh}
use Rattle.rescue_core.specs.RunState.{RunState, setting_in}
use Rattle.rescue_rules.specs.Across.{Across}
use Rattle.rescue_phases.specs.Turns.{Went, WentByTurns}
use Rattle.rescue_phases.specs.Past.{IsPast}
use Rattle.rescue_sample.specs.declared.source.Answered.{Answered}
use Rattle.rescue_sample.specs.Sample.{sample_bytes, sample_size, AreSampleReads, IsSampleRead}
use Rattle.rescue_sample.specs.Line.{sample_text, IsStill, IsSampleRun}
use Rattle.rescue_sample.proofs.SampleLemmas.{size_of}
use Rattle.rescue_core.proofs.ObjectLemmas.{timed_more}
use Rattle.ddrescue_words.specs.Command.{Command}
use Rattle.ddrescue_words.specs.Asking.{sample_command}
use Rattle.task_files.specs.declared.ending.Ending.TheVariants.{Done}
use Rattle.task_files.specs.declared.load.LoadedMap.{LoadedMap}
use Rattle.task_files.specs.Asked.{no_maps, ArePlacedBy, names_by}
use Rattle.task_files.specs.Steps.{maps_read}
use Rattle.task_rescue.specs.Running.{IsRunOver}
use Rattle.task_rescue.specs.Sampled.{sample_setting, sample_start, IsLineOf, RanSample, RanToEnd, TellsSample}
use Rattle.task_rescue.proofs.LastLemmas.{past_all}
use Rattle.task_rescue.proofs.EndLemmas.{after_over}
use Rattle.task_rescue.proofs.RanLemmas.{setting_is}

-- whole turns up to the end of the last phase
pub ran_to_end : (r r1 : RunState) (o : Across) (counts : Counts) → WentByTurns r r1 o → IsPast Retrying r1
    → counts ≡ counts_of (covers r1.domain) r1.machine.map → RanToEnd r counts o.source o.source' o.clock o.clock'
ran_to_end r r1 o counts goes past counted =
    let w : Went r r1 o = goes.went in
    let domain : r1.domain ≡ r.domain = ap (λ (q : RunState). q.domain) w.stands in
    record {
      events = w.events;
      run = w.run;
      over = after_over r r1 w.events true w.stands w.state (past_all r1 past);
      read = w.read.told;
      bytes = goes.objects.source.keeps.bytes;
      timed = w.timed;
      counts_are = counted ∙ ap (λ (d : List Range). counts_of (covers d) r1.machine.map) domain
          ∙ ap (counts_of (covers r.domain)) w.state.map;
    }

-- the input as it was before its open, by what it is after that
pub record IsOpened (end : ℕ) (source opened : SourceState) : Type 0 where
  pub tells : opened.tells ≡ source.tells
  pub journal : IsTrue source.tells → opened.journal ≡ source.journal
  pub bytes : IsTrue source.tells → opened.bytes ≡ source.bytes
  pub all : IsTrue source.tells → end ≡ length source.bytes

-- a run over what nothing was tried of, with these names and this command line
abbrev BeginsSample : Option MapNames → (line : List ℕ) → (end : ℕ) → List Status → Option MapState → (time : ℕ)
    → (heard : Bool) → RunState → Type 0
BeginsSample names line end statuses state time heard r =
    IsRunOver names line sample_command.options end no_maps statuses state time heard r

abbrev words_of_sample : List ℕ
words_of_sample = codes "ddrescue -r 1 in out map"

module _ (end time : ℕ) (heard : Bool) (r : RunState) where
  sample_begins : (names : Option MapNames) (line : List ℕ) (statuses : List Status) (state : Option MapState)
      → names ≡ names_by sample_command → line ≡ words_of_sample → IsFresh end statuses state
      → BeginsSample names line end statuses state time heard r
      → BeginsSample (names_by sample_command) words_of_sample end (replicate end NonTried) None time heard r
  sample_begins names line statuses state names_are line_is fresh is =
      subst (λ (x : Option MapState). BeginsSample (names_by sample_command) words_of_sample end (replicate end NonTried) x time heard r)
      fresh.state_is
      (subst (λ (x : List Status). BeginsSample (names_by sample_command) words_of_sample end x state time heard r) fresh.map_is
      (subst (λ (x : List ℕ). BeginsSample (names_by sample_command) x end statuses state time heard r) line_is
      (subst (λ (x : Option MapNames). BeginsSample x line end statuses state time heard r) names_are is)))

  sample_run : (counts : Counts) (source opened source' : SourceState) (clock between clock' : ClockState)
      → BeginsSample (names_by sample_command) words_of_sample end (replicate end NonTried) None time heard r
      → IsOpened end source opened → ReadsClock (time ∷ []) clock between
      → RanToEnd r counts opened source' between clock' → RanSample counts source source' clock clock'
  sample_run counts source opened source' clock between clock' is open_is first ran =
      let c : Command = sample_command in
      let s : Setting = sample_setting end in
      let m : Machine = sample_start end time in
      let same : setting_in r ≡ s =
      setting_is c.infile c.outfile (names_by c) words_of_sample c.options end no_maps (replicate end NonTried) None time heard r
      is in
      let positions : covers r.domain ≡ s.domain = fun_ext is.domain in
      let M : (ℕ → Bool) → Setting → Machine = λ inside t. machine_of t
      (prepared inside false false (replicate end NonTried)) (goes_on_from false None) (shown_at_first None) time in
      let start : r.machine ≡ m =
      is.machine ∙ ap (λ (inside : ℕ → Bool). M inside (setting_in r)) positions ∙ ap (M s.domain) same in
      let P : Setting → Machine → Type 0 = λ t n. IsRun t n ran.events in
      let Q : Setting → Machine → Type 0 = λ t n. has_ended t (state_after t n ran.events) ≡ true in
      let C : (ℕ → Bool) → Setting → Machine → Counts = λ inside t n. counts_of inside (state_after t n ran.events).map in
      let told : IsTrue source.tells → IsTrue opened.tells = λ tells. rw open_is.tells tells in
      record {
        end = end;
        own_end = open_is.all;
        time = time;
        events = ran.events;
        run = subst (P s) start (subst (λ (t : Setting). P t r.machine) same ran.run);
        over = subst (Q s) start (subst (λ (t : Setting). Q t r.machine) same ran.over);
        read = λ tells. ran.read (told tells) ∙ ap (λ (j : List Reading). j ++ reads_of ran.events) (open_is.journal tells);
        bytes = λ tells. ran.bytes (told tells) ∙ open_is.bytes tells;
        timed = timed_more (time ∷ []) (times_of ran.events) clock between clock' first ran.timed;
        counts_are = ran.counts_are
            ∙ ap (λ (inside : ℕ → Bool). C inside (setting_in r) r.machine) positions
            ∙ ap (λ (t : Setting). C s.domain t r.machine) same
            ∙ ap (C s.domain s) start;
      }

whole_less : (end x : ℕ) → whole_domain 0 None end x ≡ true → x < end
whole_less end x inside = grind (arith, inside)

-- each position of a sample has a place
pub sample_placed : (c : Command) (end : ℕ) → end < 2 ^ 63 → c ≡ sample_command → ArePlacedBy c.options end
sample_placed c end short is =
    subst (λ (x : Command). ArePlacedBy x.options end) (sym is)
    (λ x inside. let below : x < end = whole_less end x inside in omega (arith, below, short))

pub names_alike : (mapfile : Option (Bor (List ℕ)))
    → option_map (λ m. names_of m.now) mapfile ≡ option_map names_of (option_map (λ m. m.now) mapfile)
names_alike None = refl
names_alike (Some m) = refl

if_ok : {T E : Type 0} {P Q : T → Type 0} (r : Result T E) → ((x : T) → P x → Q x) → IfOk r P → IfOk r Q
if_ok (Ok x) f h = f x h
if_ok (Err e) f h = tt

-- what comes of it, by what was begun and what was run
pub sample_counted : {E : Type 0} (c : Command) (names : Option MapNames) (line : List ℕ) (end : ℕ) (start : LoadedMap)
    (time : ℕ) (heard : Bool) (r : RunState) (result : Result Counts E) (source opened source' : SourceState)
    (clock between clock' : ClockState) → c ≡ sample_command → names ≡ names_by c → line ≡ words_of_sample
    → IsFresh end start.tiles.statuses start.state
    → IsRunOver names line c.options end (maps_read c.options None None start) start.tiles.statuses start.state time heard r
    → IsOpened end source opened → ReadsClock (time ∷ []) clock between
    → IfOk result (λ counts. RanToEnd r counts opened source' between clock')
    → IfOk result (λ counts. RanSample counts source source' clock clock')
sample_counted c names line end start time heard r result source opened source' clock between clock' is named lined fresh over
    open_is first ran =
    let begins : BeginsSample names line end start.tiles.statuses start.state time heard r =
    subst (λ (x : Command). IsRunOver names line x.options end (maps_read x.options None None start) start.tiles.statuses
    start.state time heard r) is over in
    let named' : names ≡ names_by sample_command = named ∙ ap names_by is in
    if_ok result
    (λ counts went. sample_run end time heard r counts source opened source' clock between clock'
    (sample_begins end time heard r names line start.tiles.statuses start.state named' lined fresh begins) open_is first went)
    ran

-- readings that are 0 are those of a clock that stands still
abbrev IsZero : ℕ → Type 0
IsZero n = n ≡ 0

still_events : (es : List Event) → All IsZero (times_of es) → All IsStill es
still_events [] zeros = All-nil IsStill
still_events (e ∷ es) zeros =
    let rest : All IsZero (e.after ∷ times_of es) = All-tail IsZero e.before (e.after ∷ times_of es) zeros in
    All-cons IsStill e es
    (record {
      before = All-head IsZero e.before (e.after ∷ times_of es) zeros;
      after = All-head IsZero e.after (times_of es) rest;
    })
    (still_events es (All-tail IsZero e.after (times_of es) rest))

read_events : (kib : ℕ) (es : List Event) → All (IsSampleRead kib) (reads_of es)
    → All (λ (e : Event). IsSampleRead kib e.reading) es
read_events kib [] each = All-nil (λ (e : Event). IsSampleRead kib e.reading)
read_events kib (e ∷ es) each =
    All-cons (λ (x : Event). IsSampleRead kib x.reading) e es
    (All-head (IsSampleRead kib) e.reading (reads_of es) each)
    (read_events kib es (All-tail (IsSampleRead kib) e.reading (reads_of es) each))

-- an input that is a sample of so many KiB, which wasn't read
pub record IsUnread (kib : ℕ) (source : SourceState) : Type 0 where
  pub tells : IsTrue source.tells
  pub bytes : source.bytes ≡ sample_bytes kib
  pub journal : source.journal ≡ []

-- the line of its rescue, with a clock that stands still
pub line_of : (kib : ℕ) (answered : Answered) (counts : Counts) (source source' : SourceState) (clock clock' : ClockState)
    (text : List ℕ) → IsUnread kib source → clock.readings ≡ [] → IsTrue clock'.tells → All IsZero clock'.readings
    → RanSample counts source source' clock clock'
    → ((k : ℕ) → source'.bytes ≡ sample_bytes k → AreSampleReads k source'.journal answered)
    → text ≡ sample_text kib answered counts → IsLineOf kib text
line_of kib answered counts source source' clock clock' text unread unread_clock told zeros ran reads says =
    let size : ℕ = sample_size kib in
    let end_is : ran.end ≡ size = ran.own_end unread.tells ∙ ap length unread.bytes ∙ size_of kib in
    let are : AreSampleReads kib source'.journal answered = reads kib (ran.bytes unread.tells ∙ unread.bytes) in
    let journal : source'.journal ≡ reads_of ran.events =
    ran.read unread.tells ∙ ap (λ (j : List Reading). j ++ reads_of ran.events) unread.journal in
    let times : clock'.readings ≡ ran.time ∷ times_of ran.events =
    ran.timed.told told ∙ ap (λ (ts : List ℕ). ts ++ (ran.time ∷ times_of ran.events)) unread_clock in
    let each : All IsZero (ran.time ∷ times_of ran.events) = subst (All IsZero) times zeros in
    let time_is : ran.time ≡ 0 = All-head IsZero ran.time (times_of ran.events) each in
    let T : (end time : ℕ) → Type 0 =
    λ end time. IsSampleRun kib (sample_setting end) (sample_start end time) ran.events in
    let C : (end time : ℕ) → Counts = λ end time. counts_of (sample_setting end).domain
    (state_after (sample_setting end) (sample_start end time) ran.events).map in
    let run : T ran.end ran.time = record {
      run = ran.run;
      read = read_events kib ran.events (subst (All (IsSampleRead kib)) journal are.each);
      still = still_events ran.events (All-tail IsZero ran.time (times_of ran.events) each);
      over = ran.over;
    } in
    let counts_is : counts ≡ C size 0 =
    ran.counts_are ∙ ap (λ (end : ℕ). C end ran.time) end_is ∙ ap (C size) time_is in
    record {
      events = ran.events;
      run = subst (T size) time_is (subst (λ (end : ℕ). T end ran.time) end_is run);
      answered = answered;
      reads = are.reads ∙ ap length journal ∙ length-map ran.events (λ (e : Event). e.reading);
      failed = are.failed ∙ ap (count_by is_failed) journal;
      text = says ∙ ap (sample_text kib answered) counts_is;
    }

pub line_made : {V E : Type 0} (items : V → List ℕ) (kib : ℕ) (answered : Answered) (counts : Counts) (source source' : SourceState)
    (clock clock' : ClockState) (result : Result V E) → IsUnread kib source → clock.readings ≡ [] → IsTrue clock'.tells
    → All IsZero clock'.readings → RanSample counts source source' clock clock'
    → ((k : ℕ) → source'.bytes ≡ sample_bytes k → AreSampleReads k source'.journal answered)
    → IfOk result (λ line. items line ≡ sample_text kib answered counts)
    → IfOk result (λ line. IsLineOf kib (items line))
line_made items kib answered counts source source' clock clock' result unread unread_clock told zeros ran reads says =
    if_ok result
    (λ line is. line_of kib answered counts source source' clock clock' (items line) unread unread_clock told zeros ran reads is)
    says

pub told_done : (kib : ℕ) (heard heard' : Bool) (line : List ℕ) (console console' : ConsoleState) → IsLineOf kib line
    → SpeaksOn (out_pieces (line ∷ [])) heard heard' console console' → TellsSample kib heard heard' Done console console'
told_done kib heard heard' line console console' is says = record {
  lines = line ∷ [];
  works = inr (refl, line, is, refl);
  silent = λ starved. absurd (cc);
  says = says;
}
