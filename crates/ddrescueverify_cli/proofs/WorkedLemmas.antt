-- What a command did, by what its work came to.
use Rattle.std.proofs.Common.{◌≡◌, ◌≢◌, ◌⊎◌, ℕ, false, List, [], length, Option, Some, None, Result, Ok, Err, refl, sym, ap, ◌∙◌, inl, inr, subst, append-nil}
use Rattle.std.specs.Str.{bytes_eq}
use Rattle.std.proofs.lemmas.Bool.{cond_both}
use Rattle.std.proofs.lemmas.List.Elements.{All-nil}
use Rattle.crash_site.specs.SiteState.{SiteState, files_in}
use Rattle.crash_site.specs.SiteChanges.{Keeps as SiteKeeps}
use Rattle.faulty_source.specs.SourceState.{SourceState}
use Rattle.faulty_source.specs.SourceChanges.{Keeps as SourceKeeps}
use Rattle.faulty_source.proofs.Keeping.{keeps_self}
use Rattle.rescue_console.specs.ConsoleState.{ConsoleState}
use Rattle.mapfile_save.specs.MapNames.{MapNames, names_of}
use Rattle.mapfile_save.proofs.FillLemmas.{keeps_self as site_keeps}
use Rattle.mapfile_save.proofs.NameLemmas.{ne_of}
use Rattle.program_promise.specs.Work.{Deeds, Works}
use Rattle.rescue_verify.specs.declared.tally.Tally.{Tally}
use Rattle.rescue_verify.specs.Across.{across}
use Rattle.rescue_verify.specs.Comparing.{tally_of}
use Rattle.faulty_source.specs.Journal.{IsFrom}
use Rattle.ddrescueverify_words.specs.Command.{Command}
use Rattle.program_promise.proofs.PartLemmas.{no_deeds}
use Rattle.program_promise.specs.World.{WorldState}
use Rattle.program_promise.specs.Program.{line_by}
use Rattle.program_promise.specs.Promise.{DoneFor}
use Rattle.program_promise.specs.declared.operand.Operand.{Operand}
use Rattle.program_promise.specs.declared.operand.Operand.TheVariants.{Infile, Outfile, Mapfile, Draft}
use Rattle.ddrescueverify_cli.specs.declared.ending.VerifyEnding.{VerifyEnding}
use Rattle.ddrescueverify_cli.specs.declared.ending.VerifyEnding.TheVariants.{SameName, NoMemory}
use Rattle.ddrescueverify_cli.specs.Answers.{is_saved}
use Rattle.ddrescueverify_cli.specs.Counting.{WorkCause, drafting_after}
use Rattle.ddrescueverify_cli.specs.Ddrescueverify.{PutsAs, VerifyWorked, handed, verify_program}
use Rattle.ddrescueverify_cli.specs.Laws.{VerifyWorks}
use Rattle.program_promise.specs.Operands.{first_same}
use Rattle.ddrescueverify_cli.specs.Outside.{Outside, found_in}
use Rattle.ddrescueverify_cli.specs.Refusals.{NamesRefused, same_of}
use Rattle.ddrescueverify_cli.specs.Reporting.{AnswersAs, line_of_tally}
use Rattle.ddrescueverify_cli.specs.Steps.{DidWork, WentOn}
use Rattle.ddrescueverify_cli.specs.Stops.{StopsSafely}
use Rattle.ddrescueverify_cli.specs.Work.{Verifies, opened_rows, verify_faults}
use Rattle.ddrescueverify_cli.proofs.AnswerLemmas.{answer_changes, answer_draft, answer_puts, reports_answer}
use Rattle.ddrescueverify_cli.proofs.OtherLemmas.{others_stand}
use Rattle.ddrescueverify_cli.proofs.StopsLemmas.{nothing_stops, stops_safely}

-- ---- names

-- no two files have one name
pub names_pass : (c : Command) → same_of c ≡ None → (e : VerifyEnding) → NamesRefused c e → ⊥
names_pass c different e (first, second, same, is) =
    let pair : Operand × Operand = (first, second) in
    let never : None ≡ Some pair = sym different ∙ same in absurd (cc)

-- the output has another name than the mapfile and its draft
pub record AreApart (outfile : List ℕ) (names : MapNames) : Type 0 where
  pub map : outfile ≢ names.map
  pub draft : outfile ≢ names.draft

pub apart_of : (i o : List ℕ) (n : MapNames) → first_same i o n ≡ None → AreApart o n
apart_of i o n is =
    let P : Option (Operand × Operand) → Type 0 = λ r. r ≡ None → AreApart o n in
    cond_both (bytes_eq i o) (Some (Infile, Outfile)) _ P (λ on none. absurd (cc))
    (λ off. cond_both (bytes_eq i n.map) (Some (Infile, Mapfile)) _ P (λ on none. absurd (cc))
    (λ off. cond_both (bytes_eq i n.draft) (Some (Infile, Draft)) _ P (λ on none. absurd (cc))
    (λ off. cond_both (bytes_eq o n.map) (Some (Outfile, Mapfile)) _ P (λ on none. absurd (cc))
    (λ map. cond_both (bytes_eq o n.draft) (Some (Outfile, Draft)) None P (λ on none. absurd (cc))
    (λ draft none. record { map = ne_of o n.map map; draft = ne_of o n.draft draft }))))) is

-- ---- the names differ

-- what the work did and counted, and what was answered and put
pub record Went (c : Command) (line : List ℕ) (result : Result Tally VerifyEnding) (e : VerifyEnding)
    (s s' : SourceState) (d d' : SiteState) (p q : ConsoleState) : Type 0 where
  pub went : WentOn c line result (across s s' d d')
  pub cause : WorkCause result s s' d d'
  pub draft : d'.is_drafting ≡ drafting_after result
  pub source : SourceKeeps s s'
  pub site : SiteKeeps d d'
  pub answers : AnswersAs c.options.quiet result e p q

works_of : (c : Command) (o : Outside) (did : Deeds) (result : Result Tally VerifyEnding) (e : VerifyEnding)
    (p q : ConsoleState) → DidWork c o did result → AnswersAs c.options.quiet result e p q
    → Works verify_faults (opened_rows c o.found o.end) (Verifies c o.line o.found o.end o.looks) e did
works_of c o did (Ok tally) e p q w a = w.1 e (reports_answer tally c.options.quiet e p q a)
works_of c o did (Err v) e p q w a =
    subst (λ (x : VerifyEnding). Works verify_faults (opened_rows c o.found o.end)
    (Verifies c o.line o.found o.end o.looks) x did) (sym a.0) w

counted : (c : Command) (o : Outside) (did : Deeds) (result : Result Tally VerifyEnding) → DidWork c o did result
    → (tally : Tally) → result ≡ Ok tally → line_of_tally tally ≡ line_of_tally (tally_of o.looks)
counted c o did (Ok t) w tally is =
    let same : t ≡ tally = cc in ap line_of_tally (sym same ∙ w.0)
counted c o did (Err v) w tally is = absurd (cc)

module _ (c : Command) (words : List (List ℕ)) (result : Result Tally VerifyEnding) (e : VerifyEnding)
    (s s' : SourceState) (d d' : SiteState) (p q : ConsoleState) where
  went_worked : same_of c ≡ None → Went c (line_by verify_program words) result e s s' d d' p q
      → VerifyWorked c words e (handed s d p) (handed s' d' q)
  went_worked different w =
      let o : Outside = w.went.outside in
      let did : Deeds = w.went.did in
      let apart : AreApart c.outfile (names_of c.mapfile) =
      apart_of c.infile c.outfile (names_of c.mapfile) different in
      let works : VerifyWorks c o e did =
      inr (inr (names_pass c different, works_of c o did result e p q w.went.works w.answers)) in
      let changed = answer_changes c.options.quiet result e s s' d d' p q w.cause w.answers in
      record {
        done = record {
          outside = o;
          did = did;
          agrees = w.went.agrees;
          work = works;
          leaves = record {
            line_is = w.went.line_is;
            out = answer_puts c.options.quiet result e (line_of_tally (tally_of o.looks)) s s' d d' p q w.cause
                w.answers (counted c o did result w.went.works);
            stops = λ tells.
                subst (λ (line : List ℕ). StopsSafely c line o did d e) w.went.line_is
                (stops_safely c o did e s s' d d' w.went.agrees tells works apart.map apart.draft);
            others = λ tells. others_stand c o did e s s' d d' w.went.agrees w.site tells works;
          };
        };
        cause = changed.0;
        also = changed.1;
        keeps = record {
          draft = w.draft ∙ answer_draft c.options.quiet result e p q w.answers;
          source = w.source;
          site = w.site;
        };
      }

  -- the same of what the code had of the command and of its line
  pub checked_worked : (checked : Command) (line : List ℕ) → checked ≡ c → line ≡ line_by verify_program words
      → same_of c ≡ None → Went checked line result e s s' d d' p q
      → VerifyWorked c words e (handed s d p) (handed s' d' q)
  checked_worked checked line is line_is different w =
      went_worked different
      (subst (λ (x : Command). Went x (line_by verify_program words) result e s s' d d' p q) is
      (subst (λ (l : List ℕ). Went checked l result e s s' d d' p q) line_is w))

-- ---- nothing was done

module _ (c : Command) (line : List ℕ) (w : WorldState) where
  abbrev still_outside : Outside
  still_outside =
      record { line = line; found = found_in c (files_in w.site); end = length w.source.bytes; looks = [] }

  still_of : (e : VerifyEnding) → VerifyWorks c still_outside e no_deeds → is_saved e ≡ false
      → PutsAs e c.options.quiet (line_of_tally (tally_of [])) w.console w.console
      → DoneFor verify_program c line e w w
  still_of e works short out = record {
    outside = still_outside;
    did = no_deeds;
    agrees = record {
      opens = refl;
      end = λ tells. refl;
      reads = λ tells. sym (append-nil w.source.journal);
      right = λ tells. All-nil (IsFrom w.source.bytes);
      found = λ tells. refl;
      calls = λ tells. sym (append-nil w.site.calls);
      seen = λ tells. refl;
    };
    work = works;
    leaves = record {
      line_is = refl;
      out = out;
      stops = λ tells. nothing_stops c line still_outside no_deeds w.site e refl short;
      others = λ tells name apart draft. refl;
    };
  }

  -- memory ran out
  pub starved_done : DoneFor verify_program c line NoMemory w w
  starved_done =
      still_of NoMemory
      (inl (refl, record { opens = refl; gain = record { calls = refl; reads = refl; times = refl } })) refl refl

  -- two files have one name
  same_done : (first second : Operand) → same_of c ≡ Some (first, second)
      → DoneFor verify_program c line (SameName first second) w w
  same_done first second same =
      still_of (SameName first second)
      (inr (inl (
        (first, second, same, refl),
        record { opens = refl; gain = record { calls = refl; reads = refl; times = refl } },
      ))) refl refl

module _ (c : Command) (words : List (List ℕ)) (s : SourceState) (d : SiteState) (p : ConsoleState)
    (none : d.is_drafting ≡ false) where
  pub still_worked : (e : VerifyEnding) → NamesRefused c e ⊎ (e ≡ NoMemory)
      → VerifyWorked c words e (handed s d p) (handed s d p)
  still_worked e (inl (first, second, same, is)) =
      subst (λ (v : VerifyEnding). VerifyWorked c words v (handed s d p) (handed s d p)) (sym is)
      (record {
        done = same_done c (line_by verify_program words) (handed s d p) first second same;
        cause = record { opens = refl; reads = refl; calls = refl; takes = refl; puts = refl };
        also = tt;
        keeps = record { draft = none; source = keeps_self s; site = site_keeps d };
      })
  still_worked e (inr is) =
      subst (λ (v : VerifyEnding). VerifyWorked c words v (handed s d p) (handed s d p)) (sym is)
      (record {
        done = starved_done c (line_by verify_program words) (handed s d p);
        cause = record { opens = refl; reads = refl; calls = refl; takes = refl; puts = refl };
        also = tt;
        keeps = record { draft = none; source = keeps_self s; site = site_keeps d };
      })
