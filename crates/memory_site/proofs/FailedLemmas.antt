-- What a call of files in memory that failed answers, in the call's own words.
use Rattle.std.proofs.Common.{◌≡◌, Result, Ok, Err, false, refl, subst}
use Rattle.fault_count.specs.Counts.{Rose}
use Rattle.fault_count.specs.Schedule.{with_call}
use Rattle.crash_site.specs.Calls.{Call}
use Rattle.crash_site.specs.CallsMade.{Lost}
use Rattle.crash_site.specs.SiteState.{SiteState}
use Rattle.crash_site.specs.SiteChanges.{Answers, FailsBy, Keeps, KeepsOpen, drafting_after}

pub failed_answers : {T E : Type 0} (r : Result T E) (e : E) (old new : SiteState) (told call : Call) → r ≡ Err e
    → told ≡ call → Keeps old new → Lost told old.calls new.calls → Rose old.faults new.faults
    → KeepsOpen call old.is_open new.is_open → new.is_drafting ≡ drafting_after call false old.is_drafting
    → new.schedule ≡ with_call old.schedule
    → FailsBy old.schedule old.starved new.starved told old.calls new.calls → Answers call r old new
failed_answers (Ok v) e old new told call is same keeps lost rose image draft schedule why = absurd (cc)
failed_answers (Err f) e old new told call is same keeps lost rose image draft schedule why =
    record {
      keeps = keeps;
      done = tt;
      kept = tt;
      lost = λ _. subst (λ (k : Call). Lost k old.calls new.calls) same lost;
      rose = rose;
      image = image;
      draft = draft;
      schedule = λ _. record {
        schedule = schedule;
        fails = λ _. refl;
        why = subst (λ (k : Call). FailsBy old.schedule old.starved new.starved k old.calls new.calls) same why;
        fed = tt;
      };
    }
