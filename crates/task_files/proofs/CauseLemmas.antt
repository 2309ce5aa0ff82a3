-- Why a step stopped, and what it leaves begun.
use Rattle.std.proofs.Common.{◌≡◌, ℕ, false, Some, None, refl, sym, ap, ◌∙◌, inl, inr, subst}
use Rattle.mapfile_text.specs.declared.read.MapError.{MapError}
use Rattle.faulty_source.specs.SourceState.{SourceState}
use Rattle.crash_site.specs.declared.site.SiteCall.{SiteCall}
use Rattle.crash_site.specs.declared.site.SiteCall.TheVariants.{MapRead}
use Rattle.crash_site.specs.SiteState.{SiteState}
use Rattle.mapfile_save.specs.Saving.{drafting_after_fault}
use Rattle.mapfile_resume.specs.Resuming.{IsResumeCall}
use Rattle.rescue_rules.specs.declared.stop.Stop.TheVariants.{Site}
use Rattle.task_files.specs.declared.ending.Which.{Which}
use Rattle.task_files.specs.declared.ending.Which.TheVariants.{RunMap}
use Rattle.task_files.specs.declared.ending.Ending.{Ending}
use Rattle.task_files.specs.declared.ending.Ending.TheVariants.{NoMap, MapRefused, SiteFault, NoMemory}
use Rattle.program_promise.specs.Causes.{changes_of}
use Rattle.task_files.specs.Answers.{Causes, drafting_left, row_of}
use Rattle.task_files.specs.Steps.{MapCause, LoadCause, OutputCause}

-- what holds of each answer of such a read
map_each : (P : Ending → Type 0) (which : Which) (e : Ending) (faults faults' : ℕ) → P NoMemory → P (NoMap which)
    → ((error : MapError) → P (MapRefused which error)) → P (SiteFault MapRead None) → MapCause which e faults faults' → P e
map_each P which e faults faults' starved none refused broke (inl c) = subst P (sym c.0) starved
map_each P which e faults faults' starved none refused broke (inr (inl c)) = subst P (sym c.0) none
map_each P which e faults faults' starved none refused broke (inr (inr (inl c))) = subst P (sym c.1) (refused c.0)
map_each P which e faults faults' starved none refused broke (inr (inr (inr c))) = subst P (sym c.0) broke

pub map_drafts : (which : Which) (e : Ending) (faults faults' : ℕ) → MapCause which e faults faults' → drafting_left e ≡ false
map_drafts which e faults faults' c = map_each (λ v. drafting_left v ≡ false) which e faults faults' refl refl (λ error. refl) refl c

-- a load that stopped leaves no draft
resume_leaves : (call : SiteCall) → IsResumeCall call → drafting_after_fault call false ≡ false
resume_leaves call (inl is) = rw is refl
resume_leaves call (inr (inl is)) = rw is refl
resume_leaves call (inr (inr is)) = rw is refl

pub load_leaves : (e : Ending) (faults faults' : ℕ) → LoadCause e faults faults' → drafting_left e ≡ false
load_leaves e faults faults' (inl c) = rw c.0 refl
load_leaves e faults faults' (inr (inl c)) = rw c.1 refl
load_leaves e faults faults' (inr (inr c)) = rw c.1 (resume_leaves c.0 c.2)

pub output_leaves : (e : Ending) (faults faults' : ℕ) → OutputCause e faults faults' → drafting_left e ≡ false
output_leaves e faults faults' (inl c) = rw c.0 refl
output_leaves e faults faults' (inr (inl c)) = rw c.0 refl
output_leaves e faults faults' (inr (inr c)) = rw c.0 refl

-- a call that failed was counted, and nothing else
pub map_causes : (which : Which) (e : Ending) (s : SourceState) (d d' : SiteState) → (which ≡ RunMap → ⊥)
    → MapCause which e d.faults d'.faults → Causes e s s d d'
map_causes which e s d d' early (inl c) = rw c.0 (record { opens = refl; reads = refl; calls = c.1; also = tt })
map_causes which e s d d' early (inr (inl c)) = rw c.0 (record { opens = refl; reads = refl; calls = c.1; also = tt })
map_causes which e s d d' early (inr (inr (inl c))) =
    rw c.1 (record { opens = refl; reads = refl; calls = c.3; also = (λ run. absurd (early run), c.2) })
map_causes which e s d d' early (inr (inr (inr c))) =
    rw c.0 (record { opens = refl; reads = refl; calls = c.1; also = tt })

pub output_causes : (e : Ending) (s : SourceState) (d d' : SiteState) → OutputCause e d.faults d'.faults → Causes e s s d d'
output_causes e s d d' (inl c) = rw c.0 (record { opens = refl; reads = refl; calls = c.1; also = tt })
output_causes e s d d' (inr (inl c)) = rw c.0 (record { opens = refl; reads = refl; calls = c.1; also = tt })
output_causes e s d d' (inr (inr c)) = rw c.0 (record { opens = refl; reads = refl; calls = c.1; also = tt })

pub load_causes : (e : Ending) (s : SourceState) (d d' : SiteState) → LoadCause e d.faults d'.faults → Causes e s s d d'
load_causes e s d d' (inl c) = rw c.0 (record { opens = refl; reads = refl; calls = c.1; also = tt })
load_causes e s d d' (inr (inl c)) =
    rw c.1 (record { opens = refl; reads = refl; calls = c.4; also = (λ run. c.2, c.3) })
load_causes e s d d' (inr (inr c)) = rw c.1 (record { opens = refl; reads = refl; calls = c.3; also = tt })

-- after steps in which no count rose
pub causes_after : (e : Ending) (s s1 s' : SourceState) (d d1 d' : SiteState) → s1.faults ≡ s.faults
    → s1.losses ≡ s.losses → d1.faults ≡ d.faults → Causes e s1 s' d1 d' → Causes e s s' d d'
causes_after e s s1 s' d d1 d' opens reads calls c = record {
  opens = c.opens ∙ ap (changes_of (row_of e).kind).opens opens;
  reads = c.reads ∙ ap (changes_of (row_of e).kind).reads reads;
  calls = c.calls ∙ ap (changes_of (row_of e).kind).calls calls;
  also = c.also;
}
