-- What the answers of a task's rows are, and so of its work.
use Rattle.std.proofs.Common.{◌≡◌, ◌≢◌, ℕ, Bool, true, false, List, [], ◌∷◌, ◌++◌, Option, Some, None, refl, sym, ap, ◌∙◌, inl, inr, subst}
use Rattle.mapfile_text.specs.declared.read.Mode.{Mode}
use Rattle.crash_site.specs.declared.site.SiteCall.{SiteCall}
use Rattle.crash_site.specs.Files.{File}
use Rattle.mapfile_resume.specs.Named.{map_mode}
use Rattle.rescue_rules.specs.declared.stop.Stop.{Stop}
use Rattle.rescue_rules.specs.declared.stop.Stop.TheVariants.{SourceLost as InputLost, NoMemory as NoRoom}
use Rattle.rescue_rules.specs.declared.stop.RunEnd.{RunEnd}
use Rattle.rescue_rules.specs.declared.stop.RunEnd.TheVariants.{Stopped as RunStopped}
use Rattle.rescue_rules.specs.Setting.{Setting}
use Rattle.sweep_rules.specs.Sweep.{Sweeper, Swept}
use Rattle.program_promise.specs.Work.{Deeds, WorkStep, Take, Look, Open, Works}
use Rattle.program_promise.proofs.AnswerLemmas.{Stops, IsRefused, Starved, Unopened, Broken, Refused, Came, Stopped, Went, came}
use Rattle.program_promise.specs.Kinds.{Asked, Brought, Failed, IsWorkKind}
use Rattle.ddrescue_words.specs.Options.{cluster_of}
use Rattle.ddrescue_words.specs.Command.{Command, Task, Rescue, Fill, Generate, Sample}
use Rattle.program_promise.specs.declared.operand.Operand.{Operand}
use Rattle.task_files.specs.declared.ending.Ending.{Ending}
use Rattle.task_files.specs.declared.ending.Ending.TheVariants.{Done, SameName, SourceFault, SiteFault, NoMemory}
use Rattle.task_files.specs.declared.ending.Which.{Which}
use Rattle.task_files.specs.declared.ending.Which.TheVariants.{DomainMap, TestMap}
use Rattle.task_files.specs.Answers.{failure_after, row_of}
use Rattle.task_files.specs.Maps.{Found}
use Rattle.task_files.specs.Refusals.{NamedMapRefused, NamesRefused, PatternEmpty}
use Rattle.task_files.specs.Work.{answer_of, files_rows, map_rows, rescue_faults, worked_rows}
use Rattle.task_sweeps.specs.Pattern.{ThenPattern, IsLost, IsShort, IsRead}
use Rattle.task_sweeps.specs.Modes.{MaySweep, ThenSweep, fill_rows, generate_rows}
use Rattle.ddrescue_cli.specs.Tasks.{TaskOutside, TaskRuns, task_rows}
use Rattle.ddrescue_cli.specs.Words.{FitsNames, FitsTask, same_of}
use Rattle.ddrescue_cli.proofs.RowLemmas.{EndsRun, rescue_ends}

abbrev pub is_same_name : Ending → Bool
is_same_name (SameName first second) = true
is_same_name e = false

-- work answers so, once the names were looked at
abbrev pub IsOfWork : Ending → Type 0
IsOfWork e = IsWorkKind (row_of e).kind × (is_same_name e ≡ false)

-- a refusal after the names: no end of a run, and no failed call
pub record IsPlain (e : Ending) : Type 0 where
  pub done : e ≡ Done → ⊥
  pub call : (call : SiteCall) (earlier : Option Stop) → e ≡ SiteFault call earlier → ⊥
  pub works : IsOfWork e

-- ---- the refusals

-- each is brought by what is there
plain : (e v : Ending) → e ≡ v → (row_of v).kind ≡ Brought → is_same_name v ≡ false → IsPlain e
plain e v is brought other =
    subst IsPlain (sym is) (record {
      done = λ same. let no : Asked ≡ Brought = sym (ap (λ (x : Ending). (row_of x).kind) same) ∙ brought in cc;
      call = λ call earlier same.
          let no : Failed (failure_after earlier) ≡ Brought =
          sym (ap (λ (x : Ending). (row_of x).kind) same) ∙ brought in cc;
      works = (subst IsWorkKind (sym brought) tt, other);
    })

named_plain : (which : Which) (mode : Mode) (file : Option File) (e : Ending) → NamedMapRefused which mode file e → IsPlain e
named_plain which mode file e (inl (none, is)) = plain e _ is refl refl
named_plain which mode file e (inr (error, why, is)) = plain e _ is refl refl

made_plain : (c : Command) (found : Found) (limit : ℕ) (e : Ending) → IsRefused (files_rows true c found limit) e
    → IsPlain e
made_plain c found limit e (inl output) = plain e _ output.2 refl refl
made_plain c found limit e (inr (inl mapfile)) = plain e _ mapfile.3 refl refl
made_plain c found limit e (inr (inr (inl place))) = plain e _ place.1 refl refl
made_plain c found limit e (inr (inr (inr none))) = absurd none

pub files_plain : (makes : Bool) (c : Command) (found : Found) (limit : ℕ) (e : Ending)
    → IsRefused (files_rows makes c found limit) e → IsPlain e
files_plain true c found limit e refused = made_plain c found limit e refused
files_plain false c found limit e (inl missing) = plain e _ missing.1 refl refl
files_plain false c found limit e (inr more) = made_plain c found limit e more

pub refused_plain : (c : Command) (found : Found) (end : ℕ) (e : Ending) → IsRefused (worked_rows c found end) e → IsPlain e
refused_plain c found end e (inl named) = named_plain DomainMap _ found.domain e named.1
refused_plain c found end e (inr (inl named)) = named_plain TestMap _ found.test e named.1
refused_plain c found end e (inr (inr files)) = files_plain true c found end e files

pub fill_plain : (c : Command) (found : Found) (input_end : ℕ) (e : Ending) → (NamesRefused c e → ⊥)
    → IsRefused (fill_rows c found input_end) e → IsPlain e
fill_plain c found input_end e apart (inl names) = absurd (apart names)
fill_plain c found input_end e apart (inr (inl named)) = named_plain DomainMap _ found.domain e named.1
fill_plain c found input_end e apart (inr (inr (inl empty))) = plain e _ empty.1 refl refl
fill_plain c found input_end e apart (inr (inr (inr none))) = absurd none

pub generate_plain : (c : Command) (found : Found) (input_end : ℕ) (e : Ending) → (NamesRefused c e → ⊥)
    → IsRefused (generate_rows c found input_end) e → IsPlain e
generate_plain c found input_end e apart (inl names) = absurd (apart names)
generate_plain c found input_end e apart (inr (inl named)) = named_plain DomainMap _ found.domain e named.1
generate_plain c found input_end e apart (inr (inr files)) = files_plain false c found input_end e files

-- no row stops as a run that is done
pub undone : (c : Command) (found : Found) (end : ℕ) (e : Ending) → Stops rescue_faults (worked_rows c found end) e → e ≡ Done → ⊥
undone c found end e (Starved is) done = let no : NoMemory ≡ Done = sym is ∙ done in cc
undone c found end e (Unopened is) done = let no : SourceFault ≡ Done = sym is ∙ done in cc
undone c found end e (Broken call is called) done = let no : SiteFault call None ≡ Done = sym is ∙ done in cc
undone c found end e (Refused refused) done = (refused_plain c found end e refused).done done

-- ---- the answers of work

answer_works : (end : RunEnd) → IsOfWork (answer_of end)
answer_works (RunStopped InputLost) = (tt, refl)
answer_works (RunStopped stop) = (tt, refl)
answer_works end = (tt, refl)

ends_work : (e : Ending) → EndsRun e → IsOfWork e
ends_work e (end, is) = subst IsOfWork (sym is) (answer_works end)

-- work whose refusals are plain
rows_work : (rows : List (WorkStep Ending)) (run : Ending → Deeds → Type 0) (e : Ending) (d : Deeds)
    → (IsRefused rows e → IsPlain e) → ((x : Deeds) → run e x → IsOfWork e) → Works rescue_faults rows run e d → IsOfWork e
rows_work rows run e d refusal ends w = by (came rescue_faults rows run e d w)
  where
    by : Came rescue_faults rows run e d → IsOfWork e
    by (Stopped (Starved is) unread) = subst IsOfWork (sym is) (tt, refl)
    by (Stopped (Unopened is) unread) = subst IsOfWork (sym is) (tt, refl)
    by (Stopped (Broken call is called) unread) = subst IsOfWork (sym is) (tt, refl)
    by (Stopped (Refused refused) unread) = (refusal refused).works
    by (Went x ran reads found) = ends x ran

-- a sweep, which may not have begun
sweep_ends : (s : Setting) (w : Sweeper) (mapfile : Option File) (pieces : List Swept) (end : RunEnd)
    (lines : List (List ℕ)) (e : Ending) (d : Deeds) → ThenSweep s w mapfile pieces end lines e d → EndsRun e
sweep_ends s w mapfile pieces end lines e d then = ends then.sweeps
  where
    ends : MaySweep s w then.statuses then.state pieces end lines e d.gain → EndsRun e
    ends (inl unbegun) = (RunStopped NoRoom, unbegun.0.answer)
    ends (inr swept) = (end, swept.answer)

-- a filling after its pattern
pattern_works : (c : Command) (found : Found) (input_end top : ℕ) (run : Ending → Deeds → Type 0) (buffer : List ℕ)
    (e : Ending) (x : Deeds) → ((v : Ending) (y : Deeds) → run v y → EndsRun v)
    → ThenPattern (cluster_of c.options) input_end buffer (Works rescue_faults (files_rows true c found top) run) e x
    → IsOfWork e
pattern_works c found input_end top run buffer e x ends (IsLost is idle) = subst IsOfWork (sym is) (tt, refl)
pattern_works c found input_end top run buffer e x ends (IsShort r read less is one) = subst IsOfWork (sym is) (tt, refl)
pattern_works c found input_end top run buffer e x ends (IsRead r more read all repeated reads next) =
    rows_work (files_rows true c found top) run e _ (files_plain true c found top e) (λ y ran. ends_work e (ends e y ran))
    next

-- ---- the names

unnamed : (e : Ending) → is_same_name e ≡ false → (first second : Operand) → e ≢ SameName first second
unnamed e isnt first second is = let no : true ≡ false = sym (ap is_same_name is) ∙ isnt in cc

fits_starved : (o : Option (Operand × Operand)) → FitsNames o NoMemory
fits_starved None = λ first second is. cc
fits_starved (Some pair) = inr refl

passed : (o : Option (Operand × Operand)) → ((first second : Operand) → o ≡ Some (first, second) → ⊥) → o ≡ None
passed None never = refl
passed (Some (first, second)) never = absurd (never first second refl)

abbrev Fits : Command → Ending → Type 0
Fits c e = IsWorkKind (row_of e).kind × FitsNames (same_of c) e

-- work that looks at the names first
files_fit : (c : Command) (rest : List (WorkStep Ending)) (run : Ending → Deeds → Type 0) (e : Ending) (d : Deeds)
    → ((NamesRefused c e → ⊥) → Works rescue_faults rest run e d → IsOfWork e)
    → Works rescue_faults (Take ∷ Look (NamesRefused c) ∷ rest) run e d → Fits c e
files_fit c rest run e d of (inl (is, idle)) = subst (Fits c) (sym is) (tt, fits_starved (same_of c))
files_fit c rest run e d of (inr (inl ((first, second, same, is), idle))) =
    subst (Fits c) (sym is)
    (tt, subst (λ (n : Option (Operand × Operand)). FitsNames n (SameName first second)) (sym same) (inl refl))
files_fit c rest run e d of (inr (inr (pass, w))) =
    let works = of (pass e) w in
    let none : same_of c ≡ None =
    passed (same_of c) (λ first second same. pass (SameName first second) (first, second, same, refl)) in
    (works.0, subst (λ (n : Option (Operand × Operand)). FitsNames n e) (sym none) (unnamed e works.1))

-- the rows after the names
abbrev fill_rest : Command → Found → (end : ℕ) → List (WorkStep Ending)
fill_rest c found end =
    map_rows DomainMap (map_mode c.options.loose) c.domain_map found.domain
    ++ Open c.infile ∷ Look (PatternEmpty end) ∷ Take ∷ []

abbrev generate_rest : Command → Found → (end : ℕ) → List (WorkStep Ending)
generate_rest c found end =
    map_rows DomainMap (map_mode c.options.loose) c.domain_map found.domain ++ Open c.infile ∷ files_rows false c found end

pub work_fits : (task : Task) (line : List ℕ) (o : TaskOutside) (e : Ending) (d : Deeds)
    → Works rescue_faults (task_rows task o) (TaskRuns task line o) e d
    → IsWorkKind (row_of e).kind × FitsTask task e
work_fits (Rescue c) line o e d w =
    files_fit c (worked_rows c o.found o.end) (TaskRuns (Rescue c) line o) e d (λ apart more.
    rows_work (worked_rows c o.found o.end) (TaskRuns (Rescue c) line o) e d (refused_plain c o.found o.end e)
    (λ x ran. ends_work e (rescue_ends _ o.found.mapfile o.lines e x ran)) more) w
work_fits (Fill types c) line o e d w =
    files_fit c (fill_rest c o.found o.end) (TaskRuns (Fill types c) line o) e d (λ apart more.
    rows_work (fill_rest c o.found o.end) (TaskRuns (Fill types c) line o) e d
    (λ refused. fill_plain c o.found o.end e apart (inr refused))
    (λ x read. pattern_works c o.found o.end o.top _ o.buffer e x
    (sweep_ends _ _ o.found.mapfile o.pieces o.swept o.lines) read) more) w
work_fits (Generate c) line o e d w =
    files_fit c (generate_rest c o.found o.end) (TaskRuns (Generate c) line o) e d (λ apart more.
    rows_work (generate_rest c o.found o.end) (TaskRuns (Generate c) line o) e d
    (λ refused. generate_plain c o.found o.end e apart (inr refused))
    (λ x swept. ends_work e (sweep_ends _ _ o.found.mapfile o.pieces o.swept o.lines e x swept)) more) w
work_fits (Sample kib quiet) line o e d (inl starved) =
    subst (λ (v : Ending). IsWorkKind (row_of v).kind × FitsTask (Sample kib quiet) v) (sym starved.0) (tt, inr refl)
work_fits (Sample kib quiet) line o e d (inr done) =
    subst (λ (v : Ending). IsWorkKind (row_of v).kind × FitsTask (Sample kib quiet) v) (sym done.0) (tt, inl refl)
