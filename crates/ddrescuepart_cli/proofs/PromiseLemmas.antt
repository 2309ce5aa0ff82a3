-- The program is well made: its rows agree with its grammar and with its work.
use Rattle.std.proofs.Common.{ℕ, List, inl, inr, refl, sym, subst}
use Rattle.std.specs.Bool.{⊤}
use Rattle.faulty_source.proofs.Keeping.{keeps_self}
use Rattle.program_promise.specs.Work.{Deeds}
use Rattle.program_promise.specs.World.{WorldState}
use Rattle.program_promise.specs.Kinds.{IsWorkKind}
use Rattle.program_promise.specs.WellMade.{IsWellMade}
use Rattle.program_promise.specs.Promise.{IsDone}
use Rattle.program_promise.proofs.PromiseLemmas.{asked}
use Rattle.ddrescuepart_words.specs.Command.{Command, IsAsked}
use Rattle.ddrescuepart_cli.specs.declared.ending.PartEnding.{PartEnding}
use Rattle.ddrescuepart_cli.specs.declared.ending.PartEnding.TheVariants.{Usage}
use Rattle.ddrescuepart_cli.specs.Answers.{AnswersBy, row_of}
use Rattle.ddrescuepart_cli.specs.Work.{PartWorks}
use Rattle.ddrescuepart_cli.specs.Ddrescuepart.{PartWorked, part_program}
use Rattle.ddrescuepart_cli.proofs.WorkedLemmas.{starved_done}

-- ---- the answers of work

answer_of_work : (e : PartEnding) (k : ℕ) (records : List (List ℕ)) → AnswersBy e k records → IsWorkKind (row_of e).kind
answer_of_work (Usage fault) k records a = absurd a
answer_of_work e k records a = tt

work_answers : (c : Command) (e : PartEnding) (d : Deeds) → PartWorks c e d → IsWorkKind (row_of e).kind
work_answers c e d (inl w) = subst (λ (x : PartEnding). IsWorkKind (row_of x).kind) (sym w.0) tt
work_answers c e d (inr (inl w)) = subst (λ (x : PartEnding). IsWorkKind (row_of x).kind) (sym w.0) tt
work_answers c e d (inr (inr w)) = answer_of_work e c.partition _ w.2.answer

pub part_made : IsWellMade part_program (λ w. ⊤) (λ fault. Usage fault)
part_made = record {
  memory = refl;
  memory_idle = record { also = tt; keeps = λ w begins. keeps_self w.source };
  wrong = λ words fault refused. refl;
  wrong_idle = λ fault. record { also = tt; keeps = λ w begins. keeps_self w.source };
  faults = record { memory = λ v. v; input = λ v. v; call = λ call v. v };
  starves = λ c line w begins. starved_done c line w;
  work = λ c line e old new done. (work_answers c e done.did done.work, tt);
}

pub asked_done : (words : List (List ℕ)) (c : Command) (e : PartEnding) (old new : WorldState) → IsAsked words c
    → PartWorked c words e old new → IsDone part_program words e c.quiet old new
asked_done words c e old new a w =
    asked part_program part_made words c e c.quiet old new a.only.asks a.only.alone a.only.quiet_is w
