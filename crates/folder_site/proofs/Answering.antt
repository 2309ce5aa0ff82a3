-- What a site answers, by what its files list.
use Rattle.std.proofs.Common.{◌≡◌, ℕ, Bool, true, true≢false, IsTrue, [], ◌∷◌, ◌++◌, Result, Ok, Err, is_ok, IfOk, OnErr, IsErr, refl, sym}
use Rattle.fault_count.specs.Counts.{HasCause}
use Rattle.crash_site.specs.Calls.{Call, Done}
use Rattle.crash_site.specs.CallsMade.{Lost}
use Rattle.crash_site.specs.SiteChanges.{Answers, KeepsOpen, drafting_after}
use Rattle.crash_site.specs.SiteState.{SiteState}
use Rattle.kernel_files.specs.Answers.{Told}
use Rattle.site_record.specs.Record.{Noted}
use Rattle.folder_site.specs.Told.{Lists, site_state, site_told}

done_of : {T E : Type 0} (call : Call) (outcome : Result T E) (x : T) (old new : SiteState) → outcome ≡ Ok x
    → Lists call outcome old new → IsTrue old.tells → new.calls ≡ old.calls ++ Done call ∷ []
done_of call (Ok y) x old new is l = l.done
done_of call (Err e) x old new is l = absurd (cc)

lost_of : {T E : Type 0} (call : Call) (outcome : Result T E) (old new : SiteState) → IsErr outcome
    → Lists call outcome old new → IsTrue old.tells → Lost call old.calls new.calls
lost_of call (Ok x) old new bad l = absurd (true≢false (sym bad))
lost_of call (Err e) old new bad l = l.lost

module _ {T E F : Type 0} (call : Call) (outcome : Result T E) (t t' : Told) (r r' : Noted) (was is was_drafting drafting : Bool)
    (faults faults' : ℕ) (listed : Lists call outcome (site_told t r) (site_told t' r')) where
  pub answers : (result : Result T F) → IfOk result (λ x. outcome ≡ Ok x) → OnErr result (IsErr outcome)
      → HasCause faults faults' result → KeepsOpen call was is
      → drafting ≡ drafting_after call (is_ok result) was_drafting
      → Answers call result (site_state t r was was_drafting faults) (site_state t' r' is drafting faults')
  answers (Ok x) value error cause image draft = record {
    keeps = record { tells = listed.tells; start = listed.start; scheduled = refl; later = cause.later };
    done = done_of call outcome x (site_told t r) (site_told t' r') value listed;
    kept = cause.kept;
    lost = tt;
    rose = tt;
    image = image;
    draft = draft;
    schedule = λ h. absurd (true≢false (sym h));
  }
  answers (Err e) value error cause image draft = record {
    keeps = record { tells = listed.tells; start = listed.start; scheduled = refl; later = cause.later };
    done = tt;
    kept = tt;
    lost = lost_of call outcome (site_told t r) (site_told t' r') error listed;
    rose = cause.failed;
    image = image;
    draft = draft;
    schedule = λ h. absurd (true≢false (sym h));
  }
