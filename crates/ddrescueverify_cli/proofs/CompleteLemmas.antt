-- One verdict on one outside; nothing else is answered than whether something differs, a refusal, a failure or want of
-- memory; and no position is read twice.
use Rattle.std.proofs.Common.{◌≡◌, ◌≢◌, ◌≤◌, ℕ, List, [], ◌∷◌, ◌++◌, Option, count_by, inl, inr, refl, sym, ap, ◌∙◌, subst, arith, append-nil}
use Rattle.std.proofs.lemmas.Option.{same_Some}
use Rattle.crash_site.specs.Files.{File}
use Rattle.faulty_source.specs.Journal.{Reading}
use Rattle.mapfile_text.specs.declared.read.MapError.{MapError}
use Rattle.mapfile_text.specs.declared.read.Mode.TheVariants.{Tight}
use Rattle.option_words.specs.declared.fault.UsageFault.{UsageFault}
use Rattle.option_words.specs.declared.fault.UsageFault.TheVariants.{PlaceTooLarge}
use Rattle.mapfile_save.specs.MapNames.{names_of}
use Rattle.mapfile_save.specs.Saving.{save_calls}
use Rattle.mapfile_resume.proofs.AnswerLemmas.{none_says_nothing, refused_for_one}
use Rattle.program_promise.specs.Work.{Deeds, Make, Works}
use Rattle.program_promise.specs.Verdicts.{IsOnce, RefuseOnce}
use Rattle.program_promise.proofs.AnswerLemmas.{Stopped, Went, came}
use Rattle.program_promise.proofs.VerdictLemmas.{goes_to_run}
use Rattle.program_promise.specs.Kinds.{Starved}
use Rattle.program_promise.proofs.PromiseLemmas.{keeps_promises}
use Rattle.program_promise.specs.Rows.{usage_kind}
use Rattle.rescue_verify.specs.declared.halt.Halt.{Halt}
use Rattle.rescue_verify.specs.declared.halt.Halt.TheVariants.{NoMemory as NoRoom, SourceLost as InputLost, ImageFault}
use Rattle.rescue_verify.specs.Pieces.{AskForPieces, end_of_reads}
use Rattle.rescue_verify.specs.Looks.{Look, reads_of}
use Rattle.rescue_verify.specs.Laws.{asks_for}
use Rattle.rescue_verify.specs.Comparing.{Comparison, HaltsAt, tally_of}
use Rattle.rescue_verify.proofs.PieceLemmas.{asks_push, none_is_read_twice}
use Rattle.ddrescueverify_words.specs.declared.options.VerifyOptions.{VerifyOptions}
use Rattle.ddrescueverify_words.specs.Command.{Command}
use Rattle.program_promise.specs.declared.operand.Operand.{Operand}
use Rattle.ddrescueverify_cli.specs.declared.ending.Which.TheVariants.{RunMap}
use Rattle.ddrescueverify_cli.specs.declared.ending.VerifyEnding.{VerifyEnding}
use Rattle.ddrescueverify_cli.specs.declared.ending.VerifyEnding.TheVariants.{Usage, SameName, MapRefused, NoMemory}
use Rattle.ddrescueverify_cli.specs.Answers.{row_of}
use Rattle.ddrescueverify_cli.specs.Asked.{comparison_of, text_of}
use Rattle.ddrescueverify_cli.specs.Ddrescueverify.{verify_program}
use Rattle.ddrescueverify_cli.specs.Laws.{HasOneVerdict, IsComparedUnless, IsOfLooks, IsVerdict, NoneIsReadTwice, VerifyKeepsPromises}
use Rattle.ddrescueverify_cli.specs.Outside.{Found, Outside}
use Rattle.ddrescueverify_cli.specs.Refusals.{MapfileRefused, NamesRefused, OutputRefused, PlacesRefused}
use Rattle.ddrescueverify_cli.specs.Work.{EndsSaved, Halts, Completes, Verifies, answer_of_halt, answer_of_tally, verify_faults, verify_rows}
use Rattle.ddrescueverify_cli.proofs.AnswerLemmas.{of_tally}
use Rattle.ddrescueverify_cli.proofs.PromiseLemmas.{verify_made}

pub verify_keeps_promises : VerifyKeepsPromises
verify_keeps_promises = keeps_promises verify_program verify_made

-- ---- what a comparison brings

halts_never : (halt : Halt) → IsVerdict (answer_of_halt halt) → ⊥
halts_never NoRoom v = v
halts_never InputLost v = v
halts_never ImageFault v = v

-- a verdict of a comparison is what its looks bring
verdict_is : (c : Command) (line : List ℕ) (found : Found) (end : ℕ) (looks : List Look) (e : VerifyEnding) (d : Deeds)
    → Verifies c line found end looks e d → IsVerdict e → e ≡ answer_of_tally (tally_of looks)
verdict_is c line found end looks e d w v =
    elim w.compares.ends [
      | Halts halt answer opens times halts ↦ absurd (halts_never halt (subst IsVerdict answer v))
      | Completes none works ↦
          let ran : (did : Deeds) × EndsSaved c.options.quiet (tally_of looks) e did =
          goes_to_run verify_faults IsVerdict verify_made.faults
          (Make (save_calls (names_of c.mapfile) (text_of line w.statuses w.shown looks)) ∷ [])
          (EndsSaved c.options.quiet (tally_of looks)) tt e w.compares.rest works v in
          elim ran.1.0 [
            | inl is ↦ is
            | inr failed ↦ absurd (subst IsVerdict failed.1 v)
          ]
    ]

-- ---- one verdict

names_once : (c : Command) → IsOnce (NamesRefused c)
names_once c v w (first, second, same, is) (first', second', same', is') =
    is ∙ ap (λ (p : Operand × Operand). SameName p.0 p.1) (same_Some (first, second) (first', second') (sym same ∙ same'))
    ∙ sym is'

output_once : (output : Option File) → IsOnce (OutputRefused output)
output_once output v w r r' = r.1 ∙ sym r'.1

mapfile_once : (mapfile : Option File) → IsOnce (MapfileRefused mapfile)
mapfile_once mapfile v w (inl n) (inl n') = n.1 ∙ sym n'.1
mapfile_once mapfile v w (inl n) (inr r) = absurd (r.2 (none_says_nothing mapfile Tight r.0 n.0 r.1))
mapfile_once mapfile v w (inr r) (inl n) = absurd (r.2 (none_says_nothing mapfile Tight r.0 n.0 r.1))
mapfile_once mapfile v w (inr r) (inr r') =
    r.3 ∙ ap (λ (error : MapError). MapRefused RunMap error) (refused_for_one mapfile Tight r.0 r'.0 r.1 r'.1) ∙ sym r'.3

places_once : (o : VerifyOptions) (end : ℕ) → IsOnce (PlacesRefused o end)
places_once o end v w r r' = r.1 ∙ sym r'.1

refused_once : (c : Command) (found : Found) (end : ℕ) → RefuseOnce (verify_rows c found end)
refused_once c found end =
    (names_once c, (output_once found.output, (mapfile_once found.mapfile, (places_once c.options end, tt))))

pub has_one_verdict : HasOneVerdict
has_one_verdict c o e e' d d' w w' v v' =
    verify_keeps_promises.verdict c o.line o e e' d d' (refused_once c o.found o.end)
    (λ x x' did did' r r' u u'.
    verdict_is c o.line o.found o.end o.looks x did r u ∙ sym (verdict_is c o.line o.found o.end o.looks x' did' r' u'))
    w w' v v'

-- ---- nothing else is answered

-- one answer says that memory wasn't there
usage_room : (fault : UsageFault) → usage_kind fault ≢ Starved
usage_room PlaceTooLarge is = cc
usage_room _ is = cc

starved_is : (e : VerifyEnding) → (row_of e).kind ≡ Starved → e ≡ NoMemory
starved_is NoMemory is = refl
starved_is (Usage fault) is = absurd (usage_room fault is)
starved_is e is = absurd (cc)

pub compared_unless : IsComparedUnless
compared_unless t c d asks failed pass room =
    let p = d.asked_for c asks in
    let o : Outside = p.outside in
    let v : IsVerdict t.answer =
    verify_keeps_promises.brought t c d asks failed (λ is. room (starved_is t.answer is)) in
    let ran : (did : Deeds) × Verifies c o.line o.found o.end o.looks t.answer did =
    goes_to_run verify_faults IsVerdict verify_made.faults (verify_rows c o.found o.end)
    (Verifies c o.line o.found o.end o.looks) pass t.answer p.did p.work v in
    subst IsOfLooks (sym (verdict_is c o.line o.found o.end o.looks t.answer ran.0 ran.1 v))
    (of_tally (tally_of o.looks) IsOfLooks refl (λ k. refl))

-- ---- no position is read twice

module _ (x : ℕ) where
  abbrev Once : List Reading → Type 0
  Once reads = count_by (asks_for x) reads ≤ 1

  none_once : (reads : List Reading) → reads ≡ [] → Once reads
  none_once reads is = subst Once (sym is) (omega arith)

  idle_once : (p : Comparison) (looks : List Look) (more : List Reading)
      → AskForPieces p.compared p.sector 0 (reads_of looks) → more ≡ [] → Once (reads_of looks ++ more)
  idle_once p looks more asks none =
      subst Once (sym (ap (λ (m : List Reading). reads_of looks ++ m) none ∙ append-nil (reads_of looks)))
      (none_is_read_twice p.compared p.sector 0 (reads_of looks) x asks)

  halted_once : (halt : Halt) (p : Comparison) (looks : List Look) (d : Deeds)
      → AskForPieces p.compared p.sector 0 (reads_of looks)
      → HaltsAt halt p (end_of_reads 0 (reads_of looks)) d.gain.reads d.gain.calls → Once (reads_of looks ++ d.gain.reads)
  halted_once NoRoom p looks d asks h = idle_once p looks d.gain.reads asks h.0
  halted_once InputLost p looks d asks h = idle_once p looks d.gain.reads asks h.3
  halted_once ImageFault p looks d asks (r, piece, whole, is, lost) =
      subst (λ (more : List Reading). Once (reads_of looks ++ more)) (sym is)
      (none_is_read_twice p.compared p.sector 0 (reads_of looks ++ r ∷ []) x
      (asks_push p.compared p.sector 0 (reads_of looks) r asks piece))

  saved_reads : (c : Command) (text : List ℕ) (looks : List Look) (e : VerifyEnding) (d : Deeds)
      → Works verify_faults (Make (save_calls (names_of c.mapfile) text) ∷ [])
      (EndsSaved c.options.quiet (tally_of looks)) e d → d.gain.reads ≡ []
  saved_reads c text looks e d (inl (call, is, broke, only)) = only.reads
  saved_reads c text looks e d (inr (rest, is, (answer, idle))) = idle.gain.reads

  module _ (c : Command) (line : List ℕ) (found : Found) (end : ℕ) (looks : List Look) where
    run_once : (e : VerifyEnding) (d : Deeds) → Verifies c line found end looks e d → Once d.gain.reads
    run_once e d v =
        let p : Comparison = comparison_of c.options end v.statuses in
        let all : d.gain.reads ≡ reads_of looks ++ v.compares.rest.gain.reads =
        ap (λ (y : Deeds). y.gain.reads) v.compares.is in
        subst Once (sym all) (elim v.compares.ends [
          | Halts halt answer opens times halts ↦ halted_once halt p looks v.compares.rest v.compares.asks halts
          | Completes none works ↦
              idle_once p looks v.compares.rest.gain.reads v.compares.asks
              (saved_reads c (text_of line v.statuses v.shown looks) looks e v.compares.rest works)
        ])

pub read_once : NoneIsReadTwice
read_once c o e d x w =
    elim (came verify_faults (verify_rows c o.found o.end) (Verifies c o.line o.found o.end o.looks) e d w) [
      | Stopped why none ↦ none_once x d.gain.reads none
      | Went did ran same find ↦ subst (Once x) same (run_once x c o.line o.found o.end o.looks e did ran)
    ]
