-- What is put and counted, by what the work came to.
use Rattle.std.proofs.Common.{◌≡◌, ℕ, nat_eq, Bool, true, false, List, Result, Ok, Err, if◌then◌else◌, refl, sym, ap, inl, inr, subst}
use Rattle.faulty_source.specs.SourceState.{SourceState}
use Rattle.crash_site.specs.SiteState.{SiteState}
use Rattle.rescue_console.specs.ConsoleState.{ConsoleState}
use Rattle.program_promise.specs.Kinds.{AtTake, AtPut, Kind, Asked, Wrong, Failed}
use Rattle.program_promise.specs.Causes.{Changed, changes_of, none_rises}
use Rattle.program_promise.specs.Printing.{PutsByKind}
use Rattle.rescue_verify.specs.declared.tally.Tally.{Tally}
use Rattle.ddrescueverify_cli.specs.declared.ending.VerifyEnding.{VerifyEnding}
use Rattle.ddrescueverify_cli.specs.declared.ending.VerifyEnding.TheVariants.{Done, Differs}
use Rattle.ddrescueverify_cli.specs.Answers.{drafting_left, row_of}
use Rattle.ddrescueverify_cli.specs.Counting.{CountsRise, IsStopKind, WorkCause, drafting_after}
use Rattle.ddrescueverify_cli.specs.Ddrescueverify.{PutsAs, handed}
use Rattle.ddrescueverify_cli.specs.Reporting.{AnswersAs, PutsLine, Reports, line_of_tally}
use Rattle.ddrescueverify_cli.specs.Work.{IsAnswer, answer_of_tally}

-- ---- a stop before the save

stop_puts : (k : Kind) (All Part : Type 0) (p q : ConsoleState) → IsStopKind k → q ≡ p
    → PutsByKind k All Part (q ≡ p) p q
stop_puts Asked All Part p q stops same = absurd stops
stop_puts (Wrong fault) All Part p q stops same = absurd stops
stop_puts (Failed AtTake) All Part p q stops same = absurd stops
stop_puts (Failed AtPut) All Part p q stops same = absurd stops
stop_puts _ All Part p q stops same = same

module _ (s s' : SourceState) (d d' : SiteState) (p q : ConsoleState) where
  stop_changes : (k : Kind) → IsStopKind k → CountsRise (changes_of k) s s' d d' → q ≡ p
      → Changed (changes_of k) (handed s d p) (handed s' d' q)
  stop_changes Asked stops c same = absurd stops
  stop_changes (Wrong fault) stops c same = absurd stops
  stop_changes (Failed AtTake) stops c same = absurd stops
  stop_changes (Failed AtPut) stops c same = absurd stops
  stop_changes _ stops c same = record {
    opens = c.faults;
    reads = c.losses;
    calls = c.site_faults;
    takes = refl;
    puts = ap (λ (x : ConsoleState). x.out.faults) same;
  }

-- ---- an answer after the save

-- what holds of both answers that a comparison may give
each_answer : (b : Bool) (n : ℕ) (P : VerifyEnding → Type 0) → P Done → ((k : ℕ) → P (Differs k))
    → P (if b then Done else Differs n)
each_answer true n P done differs = done
each_answer false n P done differs = differs n

pub of_tally : (tally : Tally) (P : VerifyEnding → Type 0) → P Done → ((k : ℕ) → P (Differs k))
    → P (answer_of_tally tally)
of_tally tally P done differs = each_answer (nat_eq tally.differing 0) tally.differing P done differs

answers_by : (tally : Tally) (e : VerifyEnding) (P : VerifyEnding → Type 0) → P Done → ((k : ℕ) → P (Differs k))
    → e ≡ answer_of_tally tally → P e
answers_by tally e P done differs is = subst P (sym is) (of_tally tally P done differs)

module _ (tally : Tally) (quiet : Bool) (e : VerifyEnding) (p q : ConsoleState) where
  pub reports_answer : Reports tally quiet e p q → IsAnswer quiet tally e
  reports_answer (inl r) = inl r.0
  reports_answer (inr r) = inr (r.1.0, r.0)

  reports_puts : Reports tally quiet e p q → PutsAs e quiet (line_of_tally tally) p q
  reports_puts (inl r) =
      answers_by tally e (λ v. PutsAs v quiet (line_of_tally tally) p q) r.1 (λ k. r.1) r.0
  reports_puts (inr r) =
      subst (λ (v : VerifyEnding). PutsAs v quiet (line_of_tally tally) p q) (sym r.0) r.1

  reports_also : Reports tally quiet e p q → (row_of e).also
  reports_also (inl r) = answers_by tally e (λ v. (row_of v).also) tt (λ k. tt) r.0
  reports_also (inr r) = subst (λ (v : VerifyEnding). (row_of v).also) (sym r.0) tt

  reports_draft : Reports tally quiet e p q → false ≡ drafting_left e
  reports_draft (inl r) = answers_by tally e (λ v. false ≡ drafting_left v) refl (λ k. refl) r.0
  reports_draft (inr r) = ap drafting_left (sym r.0)

-- a line that was put, or not, leaves the count of puts that failed
put_kept : (quiet : Bool) (line : List ℕ) (p q : ConsoleState) → PutsLine quiet line p q → q.out.faults ≡ p.out.faults
put_kept true line p q same = ap (λ (x : ConsoleState). x.out.faults) same
put_kept false line p q put = put.0.kept

module _ (tally : Tally) (quiet : Bool) (e : VerifyEnding) (s s' : SourceState) (d d' : SiteState)
    (p q : ConsoleState) where
  reports_changes : CountsRise none_rises s s' d d' → Reports tally quiet e p q
      → Changed (changes_of (row_of e).kind) (handed s d p) (handed s' d' q)
  reports_changes c (inl r) =
      let all : Changed none_rises (handed s d p) (handed s' d' q) = record {
        opens = c.faults;
        reads = c.losses;
        calls = c.site_faults;
        takes = refl;
        puts = put_kept quiet (line_of_tally tally) p q r.1;
      } in
      answers_by tally e (λ v. Changed (changes_of (row_of v).kind) (handed s d p) (handed s' d' q)) all (λ k. all) r.0
  reports_changes c (inr r) =
      subst (λ (v : VerifyEnding). Changed (changes_of (row_of v).kind) (handed s d p) (handed s' d' q)) (sym r.0)
      (record { opens = c.faults; reads = c.losses; calls = c.site_faults; takes = refl; puts = r.1.1.rose })

-- ---- both

pub answer_puts : (quiet : Bool) (result : Result Tally VerifyEnding) (e : VerifyEnding) (line : List ℕ)
    (s s' : SourceState) (d d' : SiteState) (p q : ConsoleState) → WorkCause result s s' d d'
    → AnswersAs quiet result e p q → ((tally : Tally) → result ≡ Ok tally → line_of_tally tally ≡ line)
    → PutsAs e quiet line p q
answer_puts quiet (Ok tally) e line s s' d d' p q cause a is =
    subst (λ (l : List ℕ). PutsAs e quiet l p q) (is tally refl) (reports_puts tally quiet e p q a)
answer_puts quiet (Err v) e line s s' d d' p q cause a is =
    subst (λ (x : VerifyEnding). PutsAs x quiet line p q) (sym a.0)
    (stop_puts (row_of v).kind _ _ p q cause.stops a.1)

pub answer_changes : (quiet : Bool) (result : Result Tally VerifyEnding) (e : VerifyEnding) (s s' : SourceState)
    (d d' : SiteState) (p q : ConsoleState) → WorkCause result s s' d d' → AnswersAs quiet result e p q
    → Changed (changes_of (row_of e).kind) (handed s d p) (handed s' d' q) × (row_of e).also
answer_changes quiet (Ok tally) e s s' d d' p q cause a =
    (reports_changes tally quiet e s s' d d' p q cause a, reports_also tally quiet e p q a)
answer_changes quiet (Err v) e s s' d d' p q cause a =
    subst (λ (x : VerifyEnding). Changed (changes_of (row_of x).kind) (handed s d p) (handed s' d' q)
    × (row_of x).also) (sym a.0)
    (stop_changes s s' d d' p q (row_of v).kind cause.stops cause.counts a.1, cause.also)

pub answer_draft : (quiet : Bool) (result : Result Tally VerifyEnding) (e : VerifyEnding) (p q : ConsoleState)
    → AnswersAs quiet result e p q → drafting_after result ≡ drafting_left e
answer_draft quiet (Ok tally) e p q a = reports_draft tally quiet e p q a
answer_draft quiet (Err v) e p q a = ap drafting_left (sym a.0)
