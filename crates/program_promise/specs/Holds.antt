-- What has to be shown, step by step, for that each answer of some work, with what was done, has a property.
-- For contracts and proofs: no promise uses it.
use Rattle.std.specs.Prelude.{◌≡◌, ℕ, List, [], ◌∷◌, ◌++◌, map, Some, None}
use Rattle.crash_site.specs.declared.site.SiteCall.{SiteCall}
use Rattle.crash_site.specs.declared.site.SiteCall.TheVariants.{MapRead}
use Rattle.crash_site.specs.Calls.{Call, Entry, Done as Returned}
use Rattle.crash_site.specs.CallsMade.{BrokeAt}
use Rattle.mapfile_save.specs.Loading.{BeginsLoad, IsLoad}
use Rattle.rescue_rules.specs.Work.{IsNothing}
use Rattle.program_promise.specs.Work.{Opened, Unopened, Deeds, IsIdle, IsOnlyCalls, with_calls, with_opens, Faults, WorkStep, Take, Look, Open, Make, Read}

-- deeds with these calls before them, each of which returned or failed
abbrev pub after_entries : List Entry → Deeds → Deeds
after_entries calls d = with_calls d (calls ++ d.gain.calls)

-- deeds with these calls before them, all of which returned
abbrev pub after_calls : List Call → Deeds → Deeds
after_calls calls d = after_entries (map Returned calls) d

-- deeds with an open of the input before them, which succeeded
abbrev pub after_open : List ℕ → Deeds → Deeds
after_open name d = with_opens d (Opened name ∷ d.opens)

-- The property holds of what each step may answer, and after each step of what those after it may answer.
abbrev pub Holds : {E : Type 0} → Faults E → List (WorkStep E) → (run P : E → Deeds → Type 0) → Type 0
Holds {E} f [] run P = (e : E) (d : Deeds) → run e d → P e d
Holds f (Take ∷ more) run P = ((d : Deeds) → IsIdle d → P f.memory d) × Holds f more run P
Holds {E} f (Look refuses ∷ more) run P =
    ((e : E) (d : Deeds) → refuses e → IsIdle d → P e d)
    × (((v : E) → refuses v → ⊥) → Holds f more run P)
Holds f (Open name ∷ more) run P =
    ((d : Deeds) → d.opens ≡ Unopened name ∷ [] → IsNothing d.gain → P f.input d)
    × Holds f more run (λ e d. P e (after_open name d))
Holds f (Make calls ∷ more) run P =
    ((call : SiteCall) (d : Deeds) → BrokeAt call calls [] d.gain.calls → IsOnlyCalls d → P (f.call call) d)
    × Holds f more run (λ e d. P e (after_calls calls d))
Holds f (Read name file ∷ more) run P =
    (name ≡ None → ((d : Deeds) → IsIdle d → P f.memory d) × (file ≡ None → Holds f more run P))
    × ((n : List ℕ) → name ≡ Some n
    → ((load : List Call) (d : Deeds) → BeginsLoad n file load → BrokeAt MapRead load [] d.gain.calls → IsOnlyCalls d
    → P (f.call MapRead) d)
    × ((load : List Call) (d : Deeds) → BeginsLoad n file load → d.gain.calls ≡ map Returned load → IsOnlyCalls d
    → P f.memory d)
    × ((load : List Call) → IsLoad n file load → Holds f more run (λ e d. P e (after_calls load d))))
