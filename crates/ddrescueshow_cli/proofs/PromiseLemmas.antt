-- The program is well made: its rows agree with its grammar and with its work. And maps lead to one verdict at most.
use Rattle.std.proofs.Common.{◌≡◌, ℕ, Bool, false, List, [], ◌∷◌, ◌++◌, Option, Some, None, refl, sym, ap, ◌∙◌, inl, inr, subst}
use Rattle.std.specs.Bool.{⊤}
use Rattle.mapfile_text.specs.declared.read.MapError.{MapError}
use Rattle.mapfile_text.specs.declared.read.Mode.{Mode}
use Rattle.mapfile_text.specs.declared.read.Mode.TheVariants.{Tight}
use Rattle.crash_site.specs.Files.{File}
use Rattle.mapfile_resume.specs.Named.{map_mode}
use Rattle.mapfile_resume.proofs.AnswerLemmas.{not_there, refused_for_one}
use Rattle.mapfile_save.proofs.FillLemmas.{site_stays}
use Rattle.program_promise.specs.Work.{Deeds, Take, WorkStep, Works}
use Rattle.program_promise.specs.Verdicts.{IsOnce}
use Rattle.program_promise.specs.World.{WorldState}
use Rattle.program_promise.specs.Kinds.{IsWorkKind}
use Rattle.program_promise.specs.WellMade.{IsWellMade}
use Rattle.program_promise.specs.Promise.{IsDone}
use Rattle.program_promise.proofs.PromiseLemmas.{asked, keeps_promises}
use Rattle.ddrescueshow_words.specs.Command.{Command, IsAsked}
use Rattle.ddrescueshow_cli.specs.declared.ending.Which.{Which}
use Rattle.ddrescueshow_cli.specs.declared.ending.Which.TheVariants.{RunMap, DomainMap}
use Rattle.ddrescueshow_cli.specs.declared.ending.ShowEnding.{ShowEnding}
use Rattle.ddrescueshow_cli.specs.declared.ending.ShowEnding.TheVariants.{Usage, Done, MapRefused}
use Rattle.ddrescueshow_cli.specs.Answers.{row_of}
use Rattle.ddrescueshow_cli.specs.Work.{Found, MapIsRefused, PutsAll, ShowWorks, map_rows, show_faults}
use Rattle.ddrescueshow_cli.specs.Ddrescueshow.{ShowWorked, show_program}
use Rattle.ddrescueshow_cli.specs.Laws.{HasOneVerdict, IsVerdict, ShowKeepsPromises}
use Rattle.ddrescueshow_cli.proofs.WorkedLemmas.{starved_done}

-- ---- the answers of work

abbrev IsOfWork : ShowEnding → Type 0
IsOfWork e = IsWorkKind (row_of e).kind

refusal_works : (which : Which) (mode : Mode) (name : Option (List ℕ)) (file : Option File) (e : ShowEnding)
    → MapIsRefused which mode name file e → IsOfWork e
refusal_works which mode name file e (is, inl missing) = subst IsOfWork (sym missing.1) tt
refusal_works which mode name file e (is, inr refused) = subst IsOfWork (sym refused.2) tt

put_works : (e : ShowEnding) (d : Deeds) → PutsAll e d → IsOfWork e
put_works e d (inl done, idle) = subst IsOfWork (sym done) tt
put_works e d (inr broke, idle) = subst IsOfWork (sym broke) tt

-- what a map that may be named leads to, and what comes after it
read_works : (which : Which) (mode : Mode) (name : Option (List ℕ)) (file : Option File) (more : List (WorkStep ShowEnding))
    (e : ShowEnding) (d : Deeds) → ((x : Deeds) → Works show_faults more PutsAll e x → IsOfWork e)
    → Works show_faults (map_rows which mode name file ++ more) PutsAll e d → IsOfWork e
read_works which mode None file more e d then (inl w) = subst IsOfWork (sym w.0) tt
read_works which mode None file more e d then (inr (none, inl w)) = refusal_works which mode None file e w.0
read_works which mode None file more e d then (inr (none, inr w)) = then d w.1
read_works which mode (Some name) file more e d then (inl w) = subst IsOfWork (sym w.1) tt
read_works which mode (Some name) file more e d then (inr (inl w)) = subst IsOfWork (sym w.1) tt
read_works which mode (Some name) file more e d then (inr (inr (load, rest, is, split, inl w))) =
    refusal_works which mode (Some name) file e w.0
read_works which mode (Some name) file more e d then (inr (inr (load, rest, is, split, inr w))) = then _ w.1

last_works : (e : ShowEnding) (d : Deeds) → Works show_faults (Take ∷ []) PutsAll e d → IsOfWork e
last_works e d (inl w) = subst IsOfWork (sym w.0) tt
last_works e d (inr w) = put_works e d w

work_answers : (c : Command) (found : Found) (e : ShowEnding) (d : Deeds) → ShowWorks c found e d → IsOfWork e
work_answers c found e d (inl w) = subst IsOfWork (sym w.0) tt
work_answers c found e d (inr (inl w)) = subst IsOfWork (sym w.0.1) tt
work_answers c found e d (inr (inr (fits, w))) =
    read_works RunMap Tight (Some c.mapfile) found.mapfile
    (map_rows DomainMap (map_mode c.options.loose) c.domain_map found.domain ++ Take ∷ []) e d
    (λ x v. read_works DomainMap (map_mode c.options.loose) c.domain_map found.domain (Take ∷ []) e x (last_works e) v) w

pub show_made : (terminal : Bool) → IsWellMade (show_program terminal) (λ w. ⊤) (λ fault. Usage fault)
show_made terminal = record {
  memory = refl;
  memory_idle = record { also = tt; keeps = λ w begins. site_stays w.site };
  wrong = λ words fault refused. refl;
  wrong_idle = λ fault. record { also = tt; keeps = λ w begins. site_stays w.site };
  faults = record { memory = λ v. v; input = λ v. v; call = λ call v. v };
  starves = λ c line w begins. starved_done terminal c line w;
  work = λ c line e old new done. (work_answers c done.outside e done.did done.work, tt);
}

pub asked_done : (terminal : Bool) (words : List (List ℕ)) (c : Command) (e : ShowEnding) (old new : WorldState)
    → IsAsked words c → ShowWorked terminal c words e old new
    → IsDone (show_program terminal) words e c.options.quiet old new
asked_done terminal words c e old new a w =
    asked (show_program terminal) (show_made terminal) words c e c.options.quiet old new
    a.only.asks a.only.alone a.only.quiet_is w

-- ---- what is kept

pub show_keeps_promises : ShowKeepsPromises
show_keeps_promises terminal = keeps_promises (show_program terminal) (show_made terminal)

-- a map is refused for one reason
refused_once : (which : Which) (mode : Mode) (name : Option (List ℕ)) (file : Option File)
    → IsOnce (MapIsRefused which mode name file)
refused_once which mode name file v w (is, inl a) (is', inl b) = a.1 ∙ sym b.1
refused_once which mode name file v w (is, inl a) (is', inr b) = absurd (not_there file b.1.there a.0 b.1.is)
refused_once which mode name file v w (is, inr a) (is', inl b) = absurd (not_there file a.1.there b.0 a.1.is)
refused_once which mode name file v w (is, inr a) (is', inr b) =
    a.2 ∙ ap (λ (error : MapError). MapRefused which error) (refused_for_one file mode a.0 b.0 a.1 b.1) ∙ sym b.2

done_is : (e : ShowEnding) (d : Deeds) → PutsAll e d → IsVerdict e → e ≡ Done
done_is e d (inl done, idle) v = done
done_is e d (inr broke, idle) v = absurd (subst IsVerdict broke v)

pub has_one_verdict : HasOneVerdict
has_one_verdict c found e e' d d' w w' v v' =
    (show_keeps_promises false).verdict c [] found e e' d d' (
      (λ a b is is'. is.1 ∙ sym is'.1),
      (
        refused_once RunMap Tight (Some c.mapfile) found.mapfile,
        (refused_once DomainMap (map_mode c.options.loose) c.domain_map found.domain, tt),
      ),
    )
    (λ a a' x x' r r' y y'. done_is a x r y ∙ sym (done_is a' x' r' y')) w w' v v'
