-- The program is well made: its rows agree with its grammar and with its work. And a test map brings one verdict at most.
use Rattle.std.proofs.Common.{◌≡◌, ◌⊎◌, ℕ, List, [], Option, refl, sym, ap, ◌∙◌, inl, inr, subst}
use Rattle.std.specs.Bool.{⊤}
use Rattle.mapfile_text.specs.declared.read.MapError.{MapError}
use Rattle.mapfile_text.specs.declared.read.Mode.TheVariants.{Tight}
use Rattle.crash_site.specs.Files.{File}
use Rattle.mapfile_resume.proofs.AnswerLemmas.{not_there, refused_for_one}
use Rattle.program_promise.specs.Work.{Deeds}
use Rattle.program_promise.specs.Verdicts.{IsOnce}
use Rattle.program_promise.specs.World.{WorldState}
use Rattle.program_promise.specs.Kinds.{IsWorkKind}
use Rattle.program_promise.specs.WellMade.{IsWellMade}
use Rattle.program_promise.specs.Promise.{IsDone}
use Rattle.program_promise.proofs.PromiseLemmas.{asked, keeps_promises}
use Rattle.mapfile_save.proofs.FillLemmas.{site_stays}
use Rattle.ddrescueplan_words.specs.Command.{Command, IsAsked}
use Rattle.ddrescueplan_cli.specs.declared.ending.PlanEnding.{PlanEnding}
use Rattle.ddrescueplan_cli.specs.declared.ending.PlanEnding.TheVariants.{Usage, Done, MapRefused, ConsoleFault, NoMemory}
use Rattle.ddrescueplan_cli.specs.Answers.{row_of}
use Rattle.ddrescueplan_cli.specs.Work.{PlanWorks, RunsPlan, TestMapRefused}
use Rattle.ddrescueplan_cli.specs.Ddrescueplan.{PlanWorked, plan_program}
use Rattle.ddrescueplan_cli.specs.Laws.{HasOneVerdict, IsPutUnless, IsVerdict, PlanKeepsPromises}
use Rattle.ddrescueplan_cli.proofs.WorkedLemmas.{starved_done}

-- ---- the answers of work

abbrev IsOfWork : PlanEnding → Type 0
IsOfWork e = IsWorkKind (row_of e).kind

refusal_works : (file : Option File) (e : PlanEnding) → TestMapRefused file e → IsOfWork e
refusal_works file e (inl missing) = subst IsOfWork (sym missing.1) tt
refusal_works file e (inr refused) = subst IsOfWork (sym refused.2) tt

is_of_work : (e : PlanEnding) → (e ≡ Done) ⊎ (e ≡ NoMemory) ⊎ (e ≡ ConsoleFault) → IsOfWork e
is_of_work e (inl is) = subst IsOfWork (sym is) tt
is_of_work e (inr (inl is)) = subst IsOfWork (sym is) tt
is_of_work e (inr (inr is)) = subst IsOfWork (sym is) tt

work_answers : (c : Command) (file : Option File) (e : PlanEnding) (d : Deeds) → PlanWorks c file e d → IsOfWork e
work_answers c file e d (inl w) = subst IsOfWork (sym w.0) tt
work_answers c file e d (inr (inl w)) = subst IsOfWork (sym w.1) tt
work_answers c file e d (inr (inr (inl w))) = subst IsOfWork (sym w.1) tt
work_answers c file e d (inr (inr (inr (load, rest, is, split, inl w)))) = refusal_works file e w.0
work_answers c file e d (inr (inr (inr (load, rest, is, split, inr w)))) = is_of_work e w.1.answer

pub plan_made : IsWellMade plan_program (λ w. ⊤) (λ fault. Usage fault)
plan_made = record {
  memory = refl;
  memory_idle = record { also = tt; keeps = λ w begins. site_stays w.site };
  wrong = λ words fault refused. refl;
  wrong_idle = λ fault. record { also = tt; keeps = λ w begins. site_stays w.site };
  faults = record { memory = λ v. v; input = λ v. v; call = λ call v. v };
  starves = λ c line w begins. starved_done c line w;
  work = λ c line e old new done. (work_answers c done.outside e done.did done.work, tt);
}

pub asked_done : (words : List (List ℕ)) (c : Command) (e : PlanEnding) (old new : WorldState) → IsAsked words c
    → PlanWorked c words e old new → IsDone plan_program words e c.options.rescue.quiet old new
asked_done words c e old new a w =
    asked plan_program plan_made words c e c.options.rescue.quiet old new a.only.asks a.only.alone a.only.quiet_is w

-- ---- what is kept

pub plan_keeps_promises : PlanKeepsPromises
plan_keeps_promises = keeps_promises plan_program plan_made

pub plan_is_put : IsPutUnless
plan_is_put = plan_keeps_promises.no_fault

-- a test map is refused for one reason
refused_once : (file : Option File) → IsOnce (TestMapRefused file)
refused_once file v w (inl a) (inl b) = a.1 ∙ sym b.1
refused_once file v w (inl a) (inr b) = absurd (not_there file b.1.there a.0 b.1.is)
refused_once file v w (inr a) (inl b) = absurd (not_there file a.1.there b.0 a.1.is)
refused_once file v w (inr a) (inr b) =
    a.2 ∙ ap (λ (error : MapError). MapRefused error) (refused_for_one file Tight a.0 b.0 a.1 b.1) ∙ sym b.2

-- and a plan over it ends with one verdict
done_is : (e : PlanEnding) → (e ≡ Done) ⊎ (e ≡ NoMemory) ⊎ (e ≡ ConsoleFault) → IsVerdict e → e ≡ Done
done_is e (inl is) v = is
done_is e (inr (inl is)) v = absurd (subst IsVerdict is v)
done_is e (inr (inr is)) v = absurd (subst IsVerdict is v)

one_end : (file : Option File) (e e' : PlanEnding) (d d' : Deeds) → RunsPlan file e d → RunsPlan file e' d' → IsVerdict e
    → IsVerdict e' → e ≡ e'
one_end file e e' d d' r r' v v' = done_is e r.answer v ∙ sym (done_is e' r'.answer v')

pub has_one_verdict : HasOneVerdict
has_one_verdict c file e e' d d' w w' v v' =
    plan_keeps_promises.verdict c [] file e e' d d' (refused_once file, tt) (one_end file) w w' v v'
