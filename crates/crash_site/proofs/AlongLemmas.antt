-- What holds along calls holds at each stop within them.
use Rattle.std.proofs.Common.{◌≡◌, inl, inr, ℕ, zero, suc, ◌-◌, ◌≤◌, List, [], ◌∷◌, ◌++◌, map, length, refl, sym, ◌∙◌, ap, subst, append_assoc, append-nil, arith}
use Rattle.crash_site.specs.declared.site.SiteCall.{SiteCall}
use Rattle.crash_site.specs.Calls.{Call, Entry, Done, Failed}
use Rattle.crash_site.specs.CallsMade.{Made, BrokeAt}
use Rattle.crash_site.specs.Folder.{Folder}
use Rattle.crash_site.specs.Disk.{Disk, at_rest, entered, disk_after}
use Rattle.crash_site.specs.Left.{until}
use Rattle.crash_site.specs.Along.{Along, AlongCalls, GoesAlong}
use Rattle.crash_site.proofs.DiskLemmas.{run-append}
use Rattle.crash_site.proofs.LawLemmas.{until_past}

pub along_until : (P : Disk → Type 0) (d : Disk) (es : List Entry) (k : ℕ) → Along P d es → P (disk_after d (until k es))
along_until P d [] zero h = h
along_until P d [] (suc k) h = h
along_until P d (e ∷ es) zero h = h.0
along_until P d (e ∷ es) (suc k) h = along_until P (entered d e) es k h.1

at_first : (P : Disk → Type 0) (d : Disk) (calls : List Call) → AlongCalls P d calls → P d
at_first P d [] h = h
at_first P d (call ∷ calls) h = h.0

-- where nothing follows an entry that failed
along_failed : (P : Disk → Type 0) (d : Disk) (call : Call) (steps : ℕ) (es : List Entry) → es ≡ []
    → P (entered d (Failed call steps)) → Along P d (Failed call steps ∷ es)
along_failed P d call steps [] none h = (h, h)
along_failed P d call steps (e ∷ es) none h = absurd (cc)

pub along_calls : (P : Disk → Type 0) (d : Disk) (calls : List Call) (es : List Entry) → AlongCalls P d calls → GoesAlong calls es → Along P d es
along_calls P d calls [] h goes = at_first P d calls h
along_calls P d [] (e ∷ es) h goes = absurd goes
along_calls P d (call ∷ calls) (Done c ∷ es) h goes =
    subst (λ (x : Call). Along P d (Done x ∷ es)) (sym goes.0) (
      h.1 0,
      along_calls P (entered d (Done call)) calls
          es h.2 goes.1,
    )
along_calls P d (call ∷ calls) (Failed c steps ∷ es) h goes =
    subst (λ (x : Call). Along P d (Failed x steps ∷ es)) (sym goes.0)
    (along_failed P d call steps es goes.1 (h.1 steps))

-- a record that went on by these calls, or some of them
pub record WentOn (calls : List Call) (old new : List Entry) : Type 0 where
  pub since : List Entry
  pub is : new ≡ old ++ since
  pub goes : GoesAlong calls since

pub all_go : (calls : List Call) → GoesAlong calls (map Done calls)
all_go [] = tt
all_go (call ∷ calls) = (refl, all_go calls)

pub made_goes : (calls : List Call) (old new : List Entry) → Made calls old new → WentOn calls old new
made_goes calls old new m = record { since = map Done calls; is = m; goes = all_go calls }

none_goes : (calls : List Call) → GoesAlong calls []
none_goes [] = tt
none_goes (call ∷ calls) = tt

pub broke_goes : (at : SiteCall) (calls : List Call) (old new : List Entry) → BrokeAt at calls old new → WentOn calls old new
broke_goes at [] old new b = absurd b
broke_goes at (call ∷ calls) old new (inl (named, inl listed)) =
    record { since = Failed call listed.0 ∷ []; is = listed.1; goes = (refl, refl) }
broke_goes at (call ∷ calls) old new (inl (named, inr unlisted)) =
    record { since = []; is = unlisted ∙ sym (append-nil old); goes = none_goes (call ∷ calls) }
broke_goes at (call ∷ calls) old new (inr later) =
    let w = broke_goes at calls (old ++ Done call ∷ []) new later in
    record { since = Done call ∷ w.since; is = w.is ∙ append_assoc old (Done call ∷ []) w.since; goes = (refl, w.goes) }

-- the disk at a stop after the first calls, if others went on
pub stop_past : (P : Disk → Type 0) (start : Folder) (calls : List Call) (old new : List Entry) (k : ℕ) → length old ≤ k
    → WentOn calls old new → AlongCalls P (disk_after (at_rest start) old) calls → P (disk_after (at_rest start) (until k new))
stop_past P start calls old new k le w h =
    let d : Disk = disk_after (at_rest start) old in
    let j : ℕ = k - length old in
    let here : P (disk_after d (until j w.since)) = along_until P d w.since j (along_calls P d calls w.since h w.goes) in
    let same : until k new ≡ old ++ until j w.since = ap (λ es. until k es) w.is ∙ until_past old w.since j k (omega arith) in
    subst (λ (x : Disk). P x) (sym (ap (disk_after (at_rest start)) same ∙ run-append (at_rest start) old (until j w.since))) here
