-- What a call of files in memory answers whose outcome is settled after it was listed.
use Rattle.std.proofs.Common.{◌≡◌, ◌≤◌, inr, ℕ, List, [], ◌∷◌, ◌++◌, Option, Some, None, is_some, Bool, true, false, Result, Ok, Err, is_ok, IfOk, OnOk, OnErr, IsErr, refl, ◌∙◌, ap, subst}
use Rattle.fault_count.specs.Counts.{HasCause, raised}
use Rattle.fault_count.specs.Schedule.{FailsNext, with_call}
use Rattle.crash_site.specs.Files.{File}
use Rattle.crash_site.specs.Calls.{Call, Entry, Done}
use Rattle.crash_site.specs.Folder.{Folder, appended, opened, with_piece}
use Rattle.crash_site.specs.SiteState.{SiteState}
use Rattle.crash_site.specs.SiteChanges.{Answers, KeepsOpen, drafting_after}
use Rattle.memory_site.specs.declared.memory.call_log.CallLog.{CallLog}
use Rattle.memory_site.specs.CallLog.{entries_of}

not_failing : {T E : Type 0} (r : Result T E) (v : T) → r ≡ Ok v → IsErr r → ⊥
not_failing (Ok w) v is failed = absurd (cc)
not_failing (Err e) v is failed = absurd (cc)

pub settled_answers : {T U E : Type 0} (r : Result T E) (entered : Result U E) (u : U) (old new : SiteState)
    (listed : CallLog) (told call : Call) → entered ≡ Ok u → told ≡ call → new.tells ≡ old.tells → new.start ≡ old.start
    → new.is_scheduled ≡ old.is_scheduled → entries_of listed ≡ old.calls ++ Done told ∷ []
    → HasCause old.faults listed.faults entered → OnOk entered (listed.starving ≡ old.starved)
    → listed.schedule ≡ with_call old.schedule → (FailsNext old.schedule → IsErr entered)
    → OnOk r (new.calls ≡ entries_of listed)
    → OnErr r ((es : List Entry) (e : Entry) → entries_of listed ≡ es ++ e ∷ [] → new.calls ≡ es)
    → HasCause listed.faults new.faults r → new.schedule ≡ listed.schedule
    → OnErr r (new.starved ≡ raised listed.starving) → OnOk r (new.starved ≡ listed.starving)
    → KeepsOpen call old.is_open new.is_open → new.is_drafting ≡ drafting_after call (is_ok r) old.is_drafting
    → Answers call r old new
settled_answers r (Err f) u old new listed told call was same tells start scheduled done cause fed goes fails kept
    withdrawn settled schedule why sated image draft =
    absurd (cc)
settled_answers (Ok v) (Ok w) u old new listed told call was same tells start scheduled done cause fed goes fails kept
    withdrawn settled schedule why sated image draft =
    record {
      keeps = record {
        tells = tells;
        start = λ _. start;
        scheduled = scheduled;
        later = subst (λ (n : ℕ). n ≤ new.faults) cause.kept settled.later;
      };
      done = λ _. kept ∙ done ∙ ap (λ (k : Call). old.calls ++ Done k ∷ []) same;
      kept = settled.kept ∙ cause.kept;
      lost = tt;
      rose = tt;
      image = image;
      draft = draft;
      schedule = λ _. record {
        schedule = schedule ∙ goes;
        fails = λ f. absurd (not_failing (Ok w) u was (fails f));
        why = tt;
        fed = sated ∙ fed;
      };
    }
settled_answers (Err e) (Ok w) u old new listed told call was same tells start scheduled done cause fed goes fails kept
    withdrawn settled schedule why sated image draft =
    let calls : new.calls ≡ old.calls = withdrawn old.calls (Done told) done in
    record {
      keeps = record {
        tells = tells;
        start = λ _. start;
        scheduled = scheduled;
        later = subst (λ (n : ℕ). n ≤ new.faults) cause.kept settled.later;
      };
      done = tt;
      kept = tt;
      lost = λ _. inr calls;
      rose = settled.failed ∙ ap raised cause.kept;
      image = image;
      draft = draft;
      schedule = λ _. record {
        schedule = schedule ∙ goes;
        fails = λ _. refl;
        why = inr (why ∙ ap raised fed, calls);
        fed = tt;
      };
    }

-- what a call leaves as it was, whether it was done or not
pub stays : {T E : Type 0} (part : Folder → Option (List ℕ)) (outcome : Result T E) (before after made : Folder)
    → OnOk outcome (after ≡ made) → OnErr outcome (after ≡ before) → part made ≡ part before → part after ≡ part before
stays part (Ok v) before after made done kept same = ap part done ∙ same
stays part (Err e) before after made done kept same = ap part kept

pub opened_draft : (d : Folder) (name : List ℕ) (make : Bool) (o : Option File) → (opened d name make o).draft ≡ d.draft
opened_draft d name make (Some f) = refl
opened_draft d name true None = refl
opened_draft d name false None = refl

pub written_image : (d : Folder) (image : Option (List ℕ)) (pos : ℕ) (piece : List ℕ)
    → (with_piece d image pos piece).image ≡ d.image
written_image d (Some name) pos piece = refl
written_image d None pos piece = refl

pub written_draft : (d : Folder) (image : Option (List ℕ)) (pos : ℕ) (piece : List ℕ)
    → (with_piece d image pos piece).draft ≡ d.draft
written_draft d (Some name) pos piece = refl
written_draft d None pos piece = refl

pub appended_image : (d : Folder) (draft : Option (List ℕ)) (piece : List ℕ) → (appended d draft piece).image ≡ d.image
appended_image d (Some name) piece = refl
appended_image d None piece = refl

pub appended_draft : (d : Folder) (draft : Option (List ℕ)) (piece : List ℕ) → (appended d draft piece).draft ≡ d.draft
appended_draft d (Some name) piece = refl
appended_draft d None piece = refl

-- a draft is begun if the call that begins it returns Ok
pub begun_drafting : {T E F : Type 0} (r : Result T E) (outcome : Result T F) (before after : Folder) (name : List ℕ)
    → IfOk r (λ v. outcome ≡ Ok v) → OnErr r (IsErr outcome) → OnOk outcome (after.draft ≡ Some name)
    → OnErr outcome (after ≡ before) → before.draft ≡ None → is_some after.draft ≡ is_ok r
begun_drafting (Ok v) (Ok w) before after name value error begun kept none = ap is_some begun
begun_drafting (Ok v) (Err f) before after name value error begun kept none = absurd (cc)
begun_drafting (Err e) (Ok w) before after name value error begun kept none = absurd (cc)
begun_drafting (Err e) (Err f) before after name value error begun kept none = ap is_some
    (ap (λ (d : Folder). d.draft) kept ∙ none)

pub done_draft : {T F : Type 0} (outcome : Result T F) (after made : Folder) → OnOk outcome (after ≡ made)
    → OnOk outcome (after.draft ≡ made.draft)
done_draft (Ok v) after made done = ap (λ (d : Folder). d.draft) done
done_draft (Err e) after made done = tt
