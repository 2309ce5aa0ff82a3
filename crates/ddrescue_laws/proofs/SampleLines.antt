-- The rescue of a sample, by what it did.
use Rattle.std.proofs.Common.{◌≡◌, ℕ, List, [], ◌∷◌, inl, inr, sym, ap, ◌∙◌}
use Rattle.rescue_sample.specs.Sample.{sample_size}
use Rattle.rescue_sample.proofs.RunLemmas.{one_line}
use Rattle.program_promise.specs.Work.{Deeds, Works}
use Rattle.ddrescue_words.specs.Command.{Sample}
use Rattle.task_files.specs.declared.ending.Ending.{Ending}
use Rattle.task_files.specs.declared.ending.Ending.TheVariants.{Done, NoMemory}
use Rattle.task_files.specs.Work.{rescue_faults}
use Rattle.task_rescue.specs.Sampled.{Samples, sample_rows, sample_setting, sample_start, IsLineOf}
use Rattle.ddrescue_cli.specs.Ddrescue.{TaskDone}
use Rattle.ddrescue_laws.specs.Laws.{SampleIsOneLine}

-- its line is one
record LineTold (kib : ℕ) (lines : List (List ℕ)) : Type 0 where
  line : List ℕ
  is : IsLineOf kib line
  are : lines ≡ line ∷ []

line_told : (kib : ℕ) (lines : List (List ℕ)) (e : Ending) (d : Deeds)
    → Works rescue_faults sample_rows (Samples kib lines) e d → e ≡ Done → LineTold kib lines
line_told kib lines e d (inl starved) done = let never : NoMemory ≡ Done = sym starved.0 ∙ done in absurd (cc)
line_told kib lines e d (inr told) done = record { line = told.1; is = told.2; are = told.3 }

pub sample_is_one_line : SampleIsOneLine
sample_is_one_line t t' kib quiet quiet' d d' asks asks' done done' =
    let p : TaskDone (Sample kib quiet) t = d.does.asked_for (Sample kib quiet) asks in
    let q : TaskDone (Sample kib quiet') t' = d'.does.asked_for (Sample kib quiet') asks' in
    let a = line_told kib p.outside.lines t.answer p.did p.work done in
    let b = line_told kib q.outside.lines t'.answer q.did q.work done' in
    let size : ℕ = sample_size kib in
    a.are ∙ ap (λ (l : List ℕ). l ∷ []) (one_line kib (sample_setting size) (sample_start size 0) a.line b.line a.is b.is)
    ∙ sym b.are
