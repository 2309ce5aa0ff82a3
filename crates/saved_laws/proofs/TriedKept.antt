-- What was asked for in vain before a save that returned is tried in each map that may be found from then on.
use Rattle.std.proofs.Common.{◌≡◌, ◌≢◌, ◌⊎◌, inl, inr, ⊎_elim, ℕ, zero, suc, ◌+◌, ◌-◌, ◌<◌, ◌≤◌, Bool, true, false, not, if◌then◌else◌, nat_eq, nat_le, nat_lt, List, [], ◌∷◌, ◌++◌, length, take, map, All, Option, Some, refl, sym, ap, ◌∙◌, subst, arith}
use Rattle.std.specs.List.{slice_get}
use Rattle.std.proofs.lemmas.Bool.{cases_lt, cond_both, le-leb, lt-ltb, and_from, true≢false}
use Rattle.std.proofs.lemmas.Option.{none-some, same_Some, slice_get_within}
use Rattle.std.proofs.lemmas.List.Elements.{All-nil, All-cons, All-append}
use Rattle.block_list.specs.declared.status.Status.{Status}
use Rattle.block_list.specs.declared.status.Status.TheVariants.{NonTried, NonTrimmed, BadSector}
use Rattle.block_list.specs.Map.{Has}
use Rattle.mapfile_text.specs.declared.state.MapState.{MapState}
use Rattle.faulty_source.specs.Journal.{Reading, is_failed, kept, covers}
use Rattle.crash_site.specs.Files.{File}
use Rattle.crash_site.specs.Calls.{image_sync, map_settle, Entry, Done}
use Rattle.rescue_rules.specs.Setting.{Setting, IsSensible}
use Rattle.rescue_rules.specs.Machine.{Machine}
use Rattle.rescue_rules.specs.MachineLaws.{AsksFor, IsInOrder, StepsBy}
use Rattle.rescue_rules.specs.Step.{Event, is_copying, rest_status}
use Rattle.rescue_rules.specs.Moves.{ready, move_of, has_ended, IsMove, IsRun}
use Rattle.rescue_rules.specs.Events.{began_at, reads_of}
use Rattle.rescue_rules.specs.Snapshots.{Snapshot, snapshot_of, finished_snapshot, is_due, last_snapshot, snapshots}
use Rattle.rescue_rules.specs.Start.{Stands}
use Rattle.rescue_rules.specs.Stops.{files_before, has_barrier, LeftBy}
use Rattle.rescue_rules.specs.StopsBy.{IsSave, saves_of}
use Rattle.rescue_rules.specs.Work.{begins, events_in}
use Rattle.rescue_rules.proofs.CutLemmas.{add}
use Rattle.rescue_rules.proofs.FinishLemmas.{run_steps}
use Rattle.rescue_rules.proofs.MoveLemmas.{run_first, run_rest}
use Rattle.rescue_rules.proofs.MoveStages.{due_first}
use Rattle.rescue_rules.proofs.ReadyLemmas.{order_ready, order_over, stays_ready}
use Rattle.rescue_rules.proofs.StatusLemmas.{rest_is, non_tried_stood}
use Rattle.rescue_rules.proofs.StepLemmas.{Taking, read_takes, rest_marked}
use Rattle.rescue_safety.specs.Safe.{reads_until, by_then}
use Rattle.saved_laws.specs.Failed.{MarksTried, FailedOf, FailedAt}
use Rattle.rescue_safety.specs.Rescue.{Rescue, run_of}
use Rattle.rescue_safety.specs.AskedFor.{AreSeen}
use Rattle.saved_laws.specs.Laws.{FailedIsKept}
use Rattle.rescue_safety.proofs.BegunLemmas.{writes_in}
use Rattle.rescue_safety.proofs.ClaimLemmas.{Ran, goes_ran}
use Rattle.saved_laws.proofs.FailedLemmas.{calls_by}
use Rattle.rescue_safety.proofs.FinishedLemmas.{StandsAt, At}
use Rattle.saved_laws.proofs.SavedWalk.{number_told}
use Rattle.rescue_safety.proofs.SafeLemmas.{s, g, b, on, ok, goes, over, calls_are, map_is, seen_alone}
use Rattle.rescue_safety.proofs.SaveLemmas.{Made, goes_made}
use Rattle.saved_laws.proofs.SavedLemmas.{then_writes, synced, unread_or_stands}
use Rattle.rescue_safety.proofs.SettleLemmas.{settled}

-- a position of a map was tried
pub record Tried (map : List Status) (x : ℕ) : Type 0 where
  pub status : Status
  pub other : status ≢ NonTried
  pub has : Has map status x

-- so a mapfile that stands for it marks it as tried
pub marks_tried : (mapfile : Option File) (end x : ℕ) (map : List Status) (state : Option MapState)
    → Stands mapfile end map state → Tried map x → MarksTried mapfile x
marks_tried mapfile end x map state stands t =
    (t.status, t.other, calls_by t.status (λ is. t.other (sym is)) mapfile end x map state stands t.has)

module _ (s : Setting) (ok : IsSensible s) (x : ℕ) where
  abbrev pub TriedIn : Snapshot → Type 0
  TriedIn p = Tried p.map x

  some_at : (map : List Status) (n : ℕ) → n < length map → (u : Status) × Has map u n
  some_at [] n lt = absurd (let no : ⊥ = omega (arith, lt) in no)
  some_at (u ∷ map) zero lt = (u, refl)
  some_at (u ∷ map) (suc n) lt = some_at map n (omega (arith, lt))

  -- a move leaves what was tried
  moved_tried : (m : Machine) (e : Event) (es : List Event) → IsInOrder s m → IsRun s m (e ∷ es) → Tried m.map x
      → Tried (move_of s m e).after.map x
  moved_tried m e es order run t =
      let b : StepsBy s (ready s m) e = run_steps s ok m e es order run in
      let same : (ready s m).map ≡ m.map = (stays_ready s m).map in
      let some = some_at (move_of s m e).after.map x
      (omega (arith, slice_get_within m.map x t.status t.has, ap length same, b.size)) in
      record {
        status = some.0;
        other = λ is.
            let was : Has m.map NonTried x
            = subst (λ (map : List Status). Has map NonTried x) same
            (non_tried_stood s (ready s m) e.reading x
            (subst (λ (u : Status). Has (move_of s m e).after.map u x) is some.1)) in
            t.other (same_Some t.status NonTried (sym t.has ∙ was));
        has = some.1;
      }

  -- and makes tried what a read asked for in vain
  pub record Vain (r : Reading) : Type 0 where
    pub asks : AsksFor r x
    pub failed : is_failed r ≡ true
    pub lost : covers s.sector r x ≡ false

  rest_tried : (m : Machine) (size : ℕ) → rest_status s m size ≢ NonTried
  rest_tried m size is =
      ⊎_elim
      (λ (h : (rest_status s m size ≡ NonTrimmed) × (is_copying m ≡ true)). let e : NonTried ≡ NonTrimmed = sym is ∙ h.0 in absurd (cc))
      (λ (h : rest_status s m size ≡ BadSector). let e : NonTried ≡ BadSector = sym is ∙ h in absurd (cc))
      (rest_is s m size)

  pub vain_tried : (m : Machine) (e : Event) (es : List Event) → IsInOrder s m → IsRun s m (e ∷ es) → Vain e.reading
      → Tried (move_of s m e).after.map x
  vain_tried m e es order run v =
      let r : Reading = e.reading in
      let move : IsMove s (move_of s m e) = run_first s m e es run in
      let t : Taking s (ready s m) r = read_takes s (ready s m) r ok (order_ready s m order) move.request move.few in
      let past : r.pos + kept s.sector r ≤ x =
      ⊎_elim
      (λ (early : x < r.pos + kept s.sector r).
      absurd (true≢false (sym (and_from (nat_le r.pos x) (nat_lt x (r.pos + kept s.sector r)) (le-leb r.pos x v.asks.from)
      (lt-ltb x (r.pos + kept s.sector r) early)) ∙ v.lost)))
      (λ (late : r.pos + kept s.sector r ≤ x). late)
      (cases_lt x (r.pos + kept s.sector r)) in
      record {
        status = rest_status s (ready s m) (r.asked - kept s.sector r);
        other = rest_tried (ready s m) (r.asked - kept s.sector r);
        has = rest_marked s (ready s m) r x t v.failed past v.asks.to;
      }

  -- so it is in each save from then on
  if_tried : (due : Bool) (p : Snapshot) → TriedIn p → All TriedIn (if due then p ∷ [] else [])
  if_tried true p h = All-cons TriedIn p [] h (All-nil TriedIn)
  if_tried false p h = All-nil TriedIn

  pub saves_tried : (m : Machine) (es : List Event) → IsInOrder s m → IsRun s m es → Tried m.map x → All TriedIn (snapshots s m es)
  saves_tried m [] order run h =
      All-cons TriedIn (last_snapshot s m) []
      (cond_both (has_ended s m) (finished_snapshot m) (snapshot_of m) TriedIn (λ is. h) (λ is. h)) (All-nil TriedIn)
  saves_tried m (e ∷ es) order run h =
      let n : Machine = (move_of s m e).after in
      let later : Tried n.map x = moved_tried m e es order run h in
      subst (λ (l : List Snapshot). All TriedIn l) (sym (due_first s m e es (is_due s (move_of s m e)) refl))
      (All-append TriedIn (if is_due s (move_of s m e) then snapshot_of n ∷ [] else []) (snapshots s n es)
      (if_tried (is_due s (move_of s m e)) (snapshot_of n) later)
      (saves_tried n es (run_steps s ok m e es order run).order (run_rest s m e es run) later))

  -- ---- by the calls

  abbrev FailedBy : ℕ → List Reading → Type 0
  FailedBy n rs = FailedOf s.sector (reads_until s.sector n rs) x

  never : (rs : List Reading) → FailedBy 0 rs → ⊥
  never [] f = none-some f.read f.is
  never (r ∷ rs) f = none-some f.read f.is

  head_at : (r : Reading) (rs : List Reading) (number : ℕ) (read : Reading) → slice_get (r ∷ rs) number ≡ Some read
      → AsksFor read x → is_failed read ≡ true → covers s.sector read x ≡ false → Vain r ⊎ FailedOf s.sector rs x
  head_at r rs zero read is asks failed lost =
      inl (subst (λ (v : Reading). Vain v) (sym (same_Some r read is)) (record { asks = asks; failed = failed; lost = lost }))
  head_at r rs (suc n) read is asks failed lost =
      inr (record { number = n; read = read; is = is; asks = asks; failed = failed; lost = lost })

  pub head_failed : (r : Reading) (rs : List Reading) → FailedOf s.sector (r ∷ rs) x → Vain r ⊎ FailedOf s.sector rs x
  head_failed r rs f = head_at r rs f.number f.read f.is f.asks f.failed f.lost

  split_by : (none : Bool) (w : ℕ) (r : Reading) (rs : List Reading) → nat_eq (kept s.sector r) 0 ≡ none
      → FailedBy (add (not none) w) (r ∷ rs) → Vain r ⊎ FailedBy w rs
  split_by true zero r rs is f = absurd (never (r ∷ rs) f)
  split_by true (suc w) r rs is f =
      head_failed r (reads_until s.sector (suc w) rs)
      (subst (λ (c : Bool). FailedOf s.sector (r ∷ reads_until s.sector (if c then suc w else w) rs) x) is f)
  split_by false w r rs is f =
      head_failed r (reads_until s.sector w rs)
      (subst (λ (c : Bool). FailedOf s.sector (r ∷ reads_until s.sector (if c then suc w else w) rs) x) is f)

  module _ (m : Machine) (e : Event) (es : List Event) (order : IsInOrder s m) (run : IsRun s m (e ∷ es)) where
    abbrev n : Machine
    n = (move_of s m e).after

    pub all_tried : Tried n.map x → All TriedIn (snapshots s m (e ∷ es))
    all_tried h =
        subst (λ (l : List Snapshot). All TriedIn l) (sym (due_first s m e es (is_due s (move_of s m e)) refl))
        (All-append TriedIn (if is_due s (move_of s m e) then snapshot_of n ∷ [] else []) (snapshots s n es)
        (if_tried (is_due s (move_of s m e)) (snapshot_of n) h)
        (saves_tried n es (run_steps s ok m e es order run).order (run_rest s m e es run) h))

    failed_by : (w : ℕ) → FailedBy (add (not (nat_eq (kept s.sector e.reading) 0)) w) (e.reading ∷ reads_of es)
        → All TriedIn (snapshots s m (e ∷ es)) ⊎ FailedBy w (reads_of es)
    failed_by w f =
        ⊎_elim (λ (v : Vain e.reading). inl (all_tried (vain_tried m e es order run v)))
        (λ (f' : FailedBy w (reads_of es)). inr f')
        (split_by (nat_eq (kept s.sector e.reading) 0) w e.reading (reads_of es) refl f)

  unread : (w : ℕ) → FailedBy w [] → ⊥
  unread w f = none-some f.read f.is

-- ---- a rescue

module _ (r : Rescue) (k : ℕ) (files : List ℕ → Option File) (before saving after : List Entry)
    (name : List ℕ) (x : ℕ) (le : k ≤ length (g r).calls) (left : LeftBy (b r) (g r).calls k files)
    (is : take k (g r).calls ≡ before ++ Done image_sync ∷ (saving ++ Done (map_settle name) ∷ after))
    (f : FailedOf (s r).sector (reads_until (s r).sector (writes_in before) (g r).reads) x) where
  abbrev more : List Entry
  more = saving ++ Done (map_settle name) ∷ after

  abbrev TriedNow : Type 0
  TriedNow = MarksTried (files (s r).names.map) x

  module _ (began : List Status) (was : Option MapState) (made : Made (s r) began was (g r))
      (ran : Ran (s r) began was (g r)) where
    abbrev m : Machine
    m = begins (s r) began was (g r)

    order : IsInOrder (s r) m
    order = order_over (s r) began was (began_at (g r).times)

    failed : FailedOf (s r).sector (reads_until (s r).sector (writes_in before) (reads_of (events_in (g r)))) x
    failed = subst (λ (rs : List Reading). FailedOf (s r).sector (reads_until (s r).sector (writes_in before) rs) x) (sym ran.reads) f

    number_tried : (number : ℕ) (old found : Option File) (statuses : List Status)
        → settled (take k (g r).calls) ≤ 1 + number
        → IsSave old began (s r).line (saves_of (s r) began was (g r)) number found statuses → Tried statuses x
    number_tried number old found statuses few save =
        number_told (s r) (ok r) (FailedBy (s r) (ok r) x) (λ map. Tried map x) (never (s r) (ok r) x) (unread (s r) (ok r) x)
        (failed_by (s r) (ok r) x) began was (g r) made order ran.run k number old found statuses before saving after name is
        few save failed

  found_tried : StandsAt (files_before (b r) (s r).names.map) (s r).end → TriedNow
  found_tried (At began was there) =
      let kept = (over r k files le left (ap has_barrier is ∙ synced before more)).kept began was there in
      let made : Made (s r) began was (g r) = goes_made (s r) (files_before (b r)) (g r) began was (on r) (goes r) there in
      let ran : Ran (s r) began was (g r) = goes_ran (s r) (files_before (b r)) (g r) began was (on r) (goes r) there in
      let tried : Tried kept.statuses x
      = number_tried began was made ran kept.number (files_before (b r) (s r).names.map) (files (s r).names.map) kept.statuses
      (omega (arith, kept.no_older)) kept.is_save in
      marks_tried (files (s r).names.map) (s r).end x kept.statuses kept.shows kept.stands tried

  began_tried : StandsAt (files_before (b r) (s r).names.map) (s r).end
  began_tried =
      ⊎_elim
      (λ (none : (g r).reads ≡ []).
      absurd (none-some f.read
      (subst (λ (rs : List Reading). slice_get (reads_until (s r).sector (writes_in before) rs) f.number ≡ Some f.read) none f.is)))
      (λ (at : StandsAt (files_before (b r) (s r).names.map) (s r).end). at)
      (unread_or_stands (s r) (files_before (b r)) (g r) (on r) (goes r))

-- by the reads as seen
pub failed_is_found : (r : Rescue) (reads : List Reading) (k : ℕ) (files : List ℕ → Option File)
    (before saving after : List Entry) (name : List ℕ) (x : ℕ) → AreSeen r reads
    → k ≤ length r.did.call.calls → LeftBy (run_of r reads).past r.did.call.calls k files
    → take k r.did.call.calls ≡ before ++ Done image_sync ∷ (saving ++ Done (map_settle name) ∷ after)
    → FailedAt (by_then (run_of r reads) (length before)) x → MarksTried (files r.mapfile) x
failed_is_found r reads k files before saving after name x seen le left is f =
    let more : List Entry = saving ++ Done (map_settle name) ∷ after in
    let sector : ℕ = r.command.options.sector in
    let le' : k ≤ length (g r).calls = subst (λ (l : List Entry). k ≤ length l) (calls_are r) le in
    let left' : LeftBy (b r) (g r).calls k files = subst (λ (l : List Entry). LeftBy (b r) l k files) (calls_are r) left in
    let is' : take k (g r).calls ≡ before ++ Done image_sync ∷ more
    = subst (λ (l : List Entry). take k l ≡ before ++ Done image_sync ∷ more) (calls_are r) is in
    let count : writes_in (take (length before + 1) r.did.call.calls) ≡ writes_in before
    = then_writes k before more r.did.call.calls is in
    let f' : FailedOf sector (reads_until sector (writes_in before) (g r).reads) x
    = subst (λ (rs : List Reading). FailedOf sector (reads_until sector (writes_in before) rs) x) (seen_alone r reads seen)
    (subst (λ (n : ℕ). FailedOf sector (reads_until sector n reads) x) count f) in
    subst (λ (m : List ℕ). MarksTried (files m) x) (map_is r)
    (found_tried r k files before saving after name x le' left' is' f'
    (began_tried r k files before saving after name x le' left' is' f'))

pub failed_is_kept : FailedIsKept
failed_is_kept = failed_is_found
