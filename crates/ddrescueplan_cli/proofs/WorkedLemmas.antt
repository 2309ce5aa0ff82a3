-- What a command did, by what came of the load of the test map, and by how the plan ended.
use Rattle.std.proofs.Common.{◌≡◌, ◌⊎◌, ℕ, ◌++◌, IsTrue, List, [], map, Option, None, Err, refl, sym, inl, inr, append-nil}
use Rattle.std.proofs.lemmas.List.Elements.{All-nil}
use Rattle.block_list.specs.declared.status.Status.{Status}
use Rattle.mapfile_text.specs.declared.read.Mode.TheVariants.{Tight}
use Rattle.mapfile_reader.specs.declared.read.ReadMap.{ReadMap}
use Rattle.crash_site.specs.Files.{File}
use Rattle.crash_site.specs.Calls.{Call, Entry, Done as Returned}
use Rattle.crash_site.specs.SiteState.{SiteState, files_in}
use Rattle.crash_site.specs.SiteChanges.{Stays}
use Rattle.mapfile_resume.specs.declared.named.NamedFault.{NamedFault}
use Rattle.mapfile_resume.specs.declared.named.NamedFault.TheVariants.{ReadFailed, Absent, Refused, NoMemory as NoRoom}
use Rattle.mapfile_save.specs.Loading.{IsLoad}
use Rattle.mapfile_resume.specs.Named.{LoadsNamed, IsNamedAs, NamedCounts}
use Rattle.mapfile_resume.specs.Resuming.{IsOfFile, IsReadAs, IsRefusedFor, LoadEnded}
use Rattle.rescue_console.specs.ConsoleState.{ConsoleState}
use Rattle.rescue_sample.specs.Line.{IsStill}
use Rattle.rescue_rules.specs.Moves.{IsMove}
use Rattle.program_promise.specs.Parts.{only_calls}
use Rattle.program_promise.proofs.LoadLemmas.{broke_off, ended, ran_out}
use Rattle.program_promise.proofs.LoadedLemmas.{read_passes}
use Rattle.program_promise.specs.World.{WorldState, handed}
use Rattle.program_promise.specs.Causes.{Changed, changes_of}
use Rattle.program_promise.specs.Promise.{DoneFor}
use Rattle.plan_source.specs.declared.loss.PlanLoss.TheVariants.{Memory, Console}
use Rattle.rescue_plan.specs.declared.run.PlanEnd.{PlanEnd}
use Rattle.rescue_plan.specs.declared.run.PlanEnd.TheVariants.{Whole, Lost}
use Rattle.rescue_plan.specs.Plan.{IsPlannedIn, plan_setting}
use Rattle.rescue_plan.specs.Running.{PutsFirst, PutsPlan}
use Rattle.rescue_plan.proofs.PutLemmas.{broken_rose, lines_put}
use Rattle.ddrescueplan_words.specs.Command.{Command}
use Rattle.program_promise.proofs.PartLemmas.{idle}
use Rattle.ddrescueplan_cli.specs.declared.ending.PlanEnding.{PlanEnding}
use Rattle.ddrescueplan_cli.specs.declared.ending.PlanEnding.TheVariants.{Done, NoMap, MapRefused, ConsoleFault, NoMemory}
use Rattle.ddrescueplan_cli.specs.Answers.{ending_of, refusal_of, row_of}
use Rattle.ddrescueplan_cli.specs.Work.{LeavesAs, Loading, PlanWorks, Planning, TestMapRefused, Untouched}
use Rattle.ddrescueplan_cli.specs.Ddrescueplan.{PlanWorked, plan_program}

-- nothing was put, since memory ran out before the run
pub starved_first : (c : Command) (test : List Status) (p : ConsoleState) → PutsFirst c test p p
starved_first c test p = record {
  reads = [];
  first = record {
    events = [];
    still = All-nil IsStill;
    run = record { each = All-nil (IsMove (plan_setting c.options.rescue c.length)) };
    seen = All-nil (IsPlannedIn test);
    are = refl;
  };
  says = (refl, refl);
}

-- ---- the work

-- nothing was done, since memory ran out first
pub starved_done : (c : Command) (line : List ℕ) (w : WorldState) → DoneFor plan_program c line NoMemory w w
starved_done c line w = record {
  outside = files_in w.site c.test_map;
  did = only_calls [];
  agrees = record { file_is = λ tells. refl; calls = λ tells. sym (append-nil w.site.calls) };
  work = inl (refl, record { opens = refl; gain = record { calls = refl; reads = refl; times = refl } });
  leaves = Untouched refl;
}

-- the answers for a plan that was put
answer_is : (end : PlanEnd) → (ending_of end ≡ Done) ⊎ (ending_of end ≡ NoMemory) ⊎ (ending_of end ≡ ConsoleFault)
answer_is Whole = inl refl
answer_is (Lost Memory) = inr (inl refl)
answer_is (Lost Console) = inr (inr refl)

module _ (c : Command) (file : Option File) (load : List Call) (is : IsLoad c.test_map file load) where
  went : (m : ReadMap) (end : PlanEnd) → IsReadAs file Tight m
      → PlanWorks c file (ending_of end) (only_calls (map Returned load))
  went m end read =
      inr (inr (inr (
        load,
        [],
        is,
        sym (append-nil (map Returned load)),
        inr (
          λ v refused. read_passes (v ≡ NoMap) (λ error. v ≡ MapRefused error) Tight file m read refused,
          record { test = m; read = read; idle = idle; answer = answer_is end },
        ),
      )))

  refused : (e : PlanEnding) → TestMapRefused file e → PlanWorks c file e (only_calls (map Returned load))
  refused e why = inr (inr (inr (load, [], is, sym (append-nil (map Returned load)), inl (why, idle))))

-- ---- what a command did

module _ (c : Command) (words : List (List ℕ)) (s s' : SiteState) (stays : Stays s s') (p p' : ConsoleState) where
  abbrev Did : PlanEnding → Type 0
  Did e = PlanWorked c words e (handed s p) (handed s' p')

  worked : (e : PlanEnding) (file : Option File) (calls : List Entry) → PlanWorks c file e (only_calls calls)
      → (IsTrue s.tells → file ≡ files_in s c.test_map) → (IsTrue s.tells → s'.calls ≡ s.calls ++ calls)
      → LeavesAs c file e (only_calls calls) (handed s p) (handed s' p') → Changed (changes_of (row_of e).kind) (handed s p) (handed s' p')
      → (row_of e).also → Did e
  worked e file calls work own gained puts cause also = record {
    done = record {
      outside = file;
      did = only_calls calls;
      agrees = record { file_is = own; calls = gained };
      work = work;
      leaves = puts;
    };
    cause = cause;
    also = also;
    keeps = stays;
  }

  -- a map was read, and its plan was put
  pub put_worked : (m : ReadMap) (end : PlanEnd)
      → (IsTrue s.tells → IsReadAs (files_in s c.test_map) Tight m
      × LoadEnded [] c.test_map (files_in s c.test_map) s.calls s'.calls)
      → IsOfFile (files_in s c.test_map) s.tells (λ file. IsReadAs file Tight m) → s'.faults ≡ s.faults
      → PutsPlan c m.tiles.statuses end p p' → Did (ending_of end)
  put_worked m Whole told of same puts =
      let l = ended [] c.test_map (λ file. IsReadAs file Tight m) s s' told of in
      worked (ending_of Whole) l.file (map Returned l.load) (went c l.file l.load l.is_load m Whole l.holds) l.is_own l.gained
      (record { test = m; read = l.holds; puts = puts })
      (record { opens = refl; reads = refl; calls = same; takes = refl; puts = (lines_put puts.reads p p' puts.says).kept }) tt
  put_worked m (Lost Memory) told of same puts =
      let l = ended [] c.test_map (λ file. IsReadAs file Tight m) s s' told of in
      worked (ending_of (Lost Memory)) l.file (map Returned l.load) (went c l.file l.load l.is_load m (Lost Memory) l.holds)
      l.is_own l.gained
      (Planning l.load l.is_load refl (record { test = m; read = l.holds; puts = puts }))
      (record { opens = refl; reads = refl; calls = same; takes = refl; puts = (lines_put puts.reads p p' puts.says).kept }) tt
  put_worked m (Lost Console) told of same puts =
      let l = ended [] c.test_map (λ file. IsReadAs file Tight m) s s' told of in
      worked (ending_of (Lost Console)) l.file (map Returned l.load) (went c l.file l.load l.is_load m (Lost Console) l.holds)
      l.is_own l.gained (record { test = m; read = l.holds; puts = puts })
      (record { opens = refl; reads = refl; calls = same; takes = refl; puts = broken_rose c m.tiles.statuses p p' puts }) tt

-- or it wasn't
pub refused_worked : (c : Command) (words : List (List ℕ)) (s s' : SiteState) (stays : Stays s s') (p : ConsoleState)
    (fault : NamedFault)
    → (IsTrue s.tells → LoadsNamed c.test_map Tight (files_in s c.test_map) (Err fault) s.calls s'.calls)
    → IsOfFile (files_in s c.test_map) s.tells (IsNamedAs Tight (Err fault)) → NamedCounts (Err fault) s.faults s'.faults
    → PlanWorked c words (refusal_of fault) (handed s p) (handed s' p)
refused_worked c words s s' stays p ReadFailed told of counts =
    let b = broke_off [] c.test_map s s' (λ none. none) told in
    worked c words s s' stays p p (refusal_of ReadFailed) b.file b.calls
    (inr (inl (b.load, refl, b.begins, b.broke, record { opens = refl; reads = refl; times = refl }))) b.is_own b.gained refl
    (record { opens = refl; reads = refl; calls = counts; takes = refl; puts = refl }) refl
refused_worked c words s s' stays p Absent told of counts =
    let l = ended [] c.test_map (λ file. file ≡ None) s s' told of in
    worked c words s s' stays p p (refusal_of Absent) l.file (map Returned l.load)
    (refused c l.file l.load l.is_load NoMap (inl (l.holds, refl))) l.is_own l.gained refl
    (record { opens = refl; reads = refl; calls = counts; takes = refl; puts = refl }) tt
refused_worked c words s s' stays p (Refused error) told of counts =
    let l = ended [] c.test_map (λ file. IsRefusedFor file Tight error) s s' told of in
    worked c words s s' stays p p (refusal_of (Refused error)) l.file (map Returned l.load)
    (refused c l.file l.load l.is_load (MapRefused error) (inr (error, l.holds, refl))) l.is_own l.gained refl
    (record { opens = refl; reads = refl; calls = counts.0; takes = refl; puts = refl }) counts.1
refused_worked c words s s' stays p NoRoom told of counts =
    let l = ran_out [] c.test_map s s' told in
    worked c words s s' stays p p (refusal_of NoRoom) l.file (map Returned l.load)
    (inr (inr (inl (l.load, refl, l.begins, refl, record { opens = refl; reads = refl; times = refl })))) l.is_own l.gained
    (Loading l.load l.begins refl refl) (record { opens = refl; reads = refl; calls = counts; takes = refl; puts = refl }) tt
