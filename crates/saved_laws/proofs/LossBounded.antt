-- A stop costs at most the reads of 30 seconds, and by due saves less.
use Rattle.std.proofs.Common.{◌≡◌, ⊎_elim, ℕ, suc, ◌+◌, ◌<◌, ◌≤◌, Bool, true, false, if◌then◌else◌, nat_le, List, [], ◌∷◌, ◌++◌, length, take, drop, map, All, Option, Some, IsTrue, refl, sym, ap, ◌∙◌, subst, arith, append_assoc}
use Rattle.std.proofs.lemmas.Bool.{cases_Bool, le-leb}
use Rattle.std.proofs.lemmas.List.{append_cancel_left}
use Rattle.std.proofs.lemmas.List.Elements.{All-head, All-tail}
use Rattle.faulty_source.specs.Journal.{Reading}
use Rattle.crash_site.specs.Files.{File}
use Rattle.crash_site.specs.Calls.{Entry}
use Rattle.rescue_rules.specs.Setting.{Setting, IsSensible}
use Rattle.rescue_rules.specs.Machine.{Machine}
use Rattle.rescue_rules.specs.Step.{Event, save_interval, is_timely}
use Rattle.rescue_rules.specs.Moves.{ready, move_of, IsRun}
use Rattle.rescue_rules.specs.Events.{began_at, with_times, events_of, reads_of}
use Rattle.rescue_rules.specs.Given.{given}
use Rattle.rescue_rules.specs.Snapshots.{snapshot_of, is_due}
use Rattle.rescue_rules.specs.Stops.{Before, files_before, returned, LeftBy}
use Rattle.rescue_rules.specs.Work.{Gain, begins, events_in}
use Rattle.rescue_rules.proofs.MoveLemmas.{run_rest}
use Rattle.rescue_safety.specs.Saves.{CallsFinished}
use Rattle.rescue_safety.specs.Safe.{reads_until}
use Rattle.rescue_safety.specs.AskedFor.{AreSeen}
use Rattle.rescue_safety.specs.Rescue.{Rescue}
use Rattle.rescue_safety.proofs.BegunLemmas.{writes_in}
use Rattle.rescue_safety.proofs.ClaimLemmas.{goes_ran}
use Rattle.rescue_safety.proofs.FinishedLemmas.{StandsAt, At}
use Rattle.rescue_safety.proofs.SafeLemmas.{p, s, g, b, calls_are, map_is, seen_alone}
use Rattle.rescue_safety.proofs.SaveLemmas.{goes_made}
use Rattle.saved_laws.specs.Dues.{dues_by}
use Rattle.saved_laws.specs.Failed.{MarksTried, FailedOf}
use Rattle.saved_laws.specs.GoesLaws.{GoesSafely, LossIsBoundedIn}
use Rattle.saved_laws.specs.Laws.{DueSavesHaveReturned, LossIsBoundedByDues, LossIsBounded}
use Rattle.saved_laws.proofs.CountedKept.{counted_keep, went}
use Rattle.saved_laws.proofs.DuesReturned.{due_here, ready_at}
use Rattle.saved_laws.proofs.LossLemmas.{due_settles, settles_more, save_settles, due_before}
use Rattle.saved_laws.proofs.MovesPassed.{all_events, enough_settled, began_or}

-- the moves before a read settle as often as saves came due
module _ (s : Setting) (ok : IsSensible s) (on : s.has_mapfile ≡ true) (x : ℕ) where
  dues_settled : (m : Machine) (first more : List Event) (next : Event) → IsRun s m (first ++ next ∷ more)
      → dues_by m.tally.due_at first ≤ due_settles s ok on x m first
  dues_settled m [] more next run = let none : dues_by m.tally.due_at [] ≡ 0 = refl in omega (arith, none)
  dues_settled m (e ∷ first) more next run =
      let rest : dues_by (move_of s m e).after.tally.due_at first ≤ due_settles s ok on x (move_of s m e).after first
      = dues_settled (move_of s m e).after first more next (run_rest s m e (first ++ next ∷ more) run) in
      ⊎_elim
      (λ (timely : is_timely (ready s m) e ≡ true).
      let le : dues_by m.tally.due_at (e ∷ first) ≤ due_settles s ok on x m (e ∷ first) = omega (
        arith,
        rest,
        ready_at s m e first,
        due_here s m e first true timely,
        settles_more s ok on x m e first,
        save_settles s ok on x (is_due s (move_of s m e)) (snapshot_of (move_of s m e).after)
            (due_before s ok on x m e first next more run timely),
      ) in le)
      (λ (off : is_timely (ready s m) e ≡ false).
      let le : dues_by m.tally.due_at (e ∷ first) ≤ due_settles s ok on x m (e ∷ first) = omega (
        arith,
        rest,
        ready_at s m e first,
        due_here s m e first false off,
        settles_more s ok on x m e first,
      ) in le)
      (cases_Bool (is_timely (ready s m) e))

-- ---- a rescue

module _ (b : Before) (s : Setting) (g : Gain) (q : GoesSafely b s g) (k : ℕ) (first more : List Event) (next : Event)
    (is : with_times (reads_until s.sector (writes_in (take (k + 1) g.calls)) g.reads) (drop 1 g.times)
    ≡ first ++ next ∷ more) where
  over_returned : StandsAt (files_before b s.names.map) s.end
      → dues_by (began_at g.times) first ≤ returned (take k g.calls)
  over_returned (At began was there) =
      let made = goes_made s (files_before b) g began was q.named q.goes there in
      let ran = goes_ran s (files_before b) g began was q.named q.goes there in
      let m : Machine = begins s began was g in
      let after : List Event = (all_events b s g q k first more next 0 is).0 in
      let run : IsRun s m (first ++ next ∷ after)
      = subst (λ (l : List Event). IsRun s m l) (all_events b s g q k first more next 0 is).1 ran.run in
      let few : dues_by (began_at g.times) first ≤ due_settles s q.sensible q.named 0 m first
      = dues_settled s q.sensible q.named 0 m first after next run in
      omega (arith, few, enough_settled b s g q k first more next 0 is began was made ran)

  have_returned : dues_by (began_at g.times) first ≤ returned (take k g.calls)
  have_returned = over_returned (began_or b s g q k first more next 0 is)

-- the times of a rescue whose clock tells
pub times_are : (r : Rescue) (times : List ℕ) → IsTrue r.did.call.told.after.clock.tells
    → r.did.call.told.after.clock.readings ≡ r.did.call.told.before.clock.readings ++ times → times ≡ (g r).times
times_are r times tells readings =
    append_cancel_left r.did.call.told.before.clock.readings times (g r).times
    (sym readings ∙ (p r).agrees.agrees.times tells)

-- its reads by then
then_events : (r : Rescue) (reads : List Reading) (k : ℕ) (times : List ℕ) (events : List Event) → AreSeen r reads
    → times ≡ (g r).times
    → events_of (reads_until r.command.options.sector (writes_in (take (k + 1) r.did.call.calls)) reads) times ≡ events
    → with_times (reads_until (s r).sector (writes_in (take (k + 1) (g r).calls)) (g r).reads) (drop 1 (g r).times) ≡ events
then_events r reads k times events seen same is =
    let sector : ℕ = r.command.options.sector in
    let at : (calls : List Entry) (rs : List Reading) (ts : List ℕ) → List Event
    = λ calls rs ts. with_times (reads_until sector (writes_in (take (k + 1) calls)) rs) (drop 1 ts) in
    ap (λ (rs : List Reading). at (g r).calls rs (g r).times) (sym (seen_alone r reads seen))
    ∙ ap (λ (l : List Entry). at l reads (g r).times) (sym (calls_are r))
    ∙ ap (λ (ts : List ℕ). at r.did.call.calls reads ts) (sym same) ∙ is

pub due_saves_have_returned : DueSavesHaveReturned
due_saves_have_returned r reads k times first more next seen tells readings is =
    let same : times ≡ (g r).times = times_are r times tells readings in
    let at = then_events r reads k times (first ++ next ∷ more) seen same is in
    let few : dues_by (began_at times) first ≤ returned (take k (g r).calls)
    = subst (λ (ts : List ℕ). dues_by (began_at ts) first ≤ returned (take k (g r).calls)) (sym same)
    (have_returned (b r) (s r) (g r) (went r) k first more next at) in
    subst (λ (l : List Entry). dues_by (began_at times) first ≤ returned (take k l)) (sym (calls_are r)) few

-- what is found has what these reads gave, and asked for in vain
abbrev Keeps : (sector : ℕ) → (old : List Event) → (mapfile : Option File) → (x : ℕ) → Type 0
Keeps sector old mapfile x =
    ((byte : ℕ) → given sector (reads_of old) x ≡ Some byte → CallsFinished mapfile x)
    × (FailedOf sector (reads_of old) x → MarksTried mapfile x)

loss_by_dues_in : (b : Before) (s : Setting) (g : Gain) (q : GoesSafely b s g) (k : ℕ) (files : List ℕ → Option File)
    (old between more : List Event) (later : Event) (x : ℕ) → k ≤ length g.calls → LeftBy b g.calls k files
    → events_of (reads_until s.sector (writes_in (take (k + 1) g.calls)) g.reads) g.times
    ≡ old ++ (between ++ later ∷ more)
    → dues_by (began_at g.times) old < dues_by (began_at g.times) (old ++ between)
    → Keeps s.sector old (files s.names.map) x
loss_by_dues_in b s g q k files old between more later x le left is fewer =
    let first : List Event = old ++ between in
    let here = is ∙ sym (append_assoc old between (later ∷ more)) in
    let all = all_events b s g q k first more later 0 here in
    let events : events_in g ≡ old ++ (between ++ later ∷ all.0) = all.1 ∙ append_assoc old between (later ∷ all.0) in
    let back : dues_by (began_at g.times) first ≤ returned (take k g.calls)
    = have_returned b s g q k first more later here in
    counted_keep b s g q k files old (between ++ later ∷ all.0) x le left events (omega (arith, fewer, back))

pub loss_by_dues : LossIsBoundedByDues
loss_by_dues r reads k files times old between more later x seen tells readings le left is fewer =
    let same : times ≡ (g r).times = times_are r times tells readings in
    let at = then_events r reads k times (old ++ (between ++ later ∷ more)) seen same is in
    let le' : k ≤ length (g r).calls = subst (λ (l : List Entry). k ≤ length l) (calls_are r) le in
    let left' : LeftBy (b r) (g r).calls k files
    = subst (λ (l : List Entry). LeftBy (b r) l k files) (calls_are r) left in
    let fewer' : dues_by (began_at (g r).times) old < dues_by (began_at (g r).times) (old ++ between)
    = subst (λ (ts : List ℕ). dues_by (began_at ts) old < dues_by (began_at ts) (old ++ between)) same fewer in
    subst (λ (m : List ℕ). Keeps r.command.options.sector old (files m) x) (map_is r)
    (loss_by_dues_in (b r) (s r) (g r) (went r) k files old between more later x le' left' at fewer')

-- ---- by 30 seconds

-- what is due by the first of some events
due_first : (due : Bool) (last : ℕ) (e : Event) (es : List Event) → nat_le (last + save_interval) e.after ≡ due
    → dues_by last (e ∷ es) ≡ (if due then suc (dues_by e.after es) else dues_by last es)
due_first due last e es is =
    ap (λ (c : Bool). if c then suc (dues_by e.after es) else dues_by last es) is

-- one save is due by a read that comes late enough
one_due : (last : ℕ) (mid : List Event) (late : Event) → last + save_interval ≤ late.after
    → 1 ≤ dues_by last (mid ++ late ∷ [])
one_due last [] late low =
    omega (arith, due_first true last late [] (le-leb (last + save_interval) late.after low))
one_due last (e ∷ mid) late low =
    ⊎_elim
    (λ (on : nat_le (last + save_interval) e.after ≡ true).
    let le : 1 ≤ dues_by last (e ∷ (mid ++ late ∷ []))
    = omega (arith, due_first true last e (mid ++ late ∷ []) on) in le)
    (λ (off : nat_le (last + save_interval) e.after ≡ false).
    let le : 1 ≤ dues_by last (e ∷ (mid ++ late ∷ []))
    = omega (arith, due_first false last e (mid ++ late ∷ []) off, one_due last mid late low) in le)
    (cases_Bool (nat_le (last + save_interval) e.after))

-- so more are due than by the old reads
more_due : (last : ℕ) (old mid : List Event) (late : Event) → last + save_interval ≤ late.after
    → All (λ t. t + save_interval ≤ late.after) (map (λ e. e.after) old)
    → dues_by last old < dues_by last (old ++ (mid ++ late ∷ []))
more_due last [] mid late low each =
    let none : dues_by last [] ≡ 0 = refl in omega (arith, none, one_due last mid late low)
more_due last (e ∷ old) mid late low each =
    let P : ℕ → Type 0 = λ t. t + save_interval ≤ late.after in
    let each' : All P (map (λ e. e.after) old) = All-tail P e.after (map (λ e. e.after) old) each in
    ⊎_elim
    (λ (on : nat_le (last + save_interval) e.after ≡ true).
    let lt : dues_by last (e ∷ old) < dues_by last (e ∷ (old ++ (mid ++ late ∷ []))) = omega (
      arith,
      due_first true last e old on,
      due_first true last e (old ++ (mid ++ late ∷ [])) on,
      more_due e.after old mid late (All-head P e.after (map (λ e. e.after) old) each) each',
    ) in lt)
    (λ (off : nat_le (last + save_interval) e.after ≡ false).
    let lt : dues_by last (e ∷ old) < dues_by last (e ∷ (old ++ (mid ++ late ∷ []))) = omega (
      arith,
      due_first false last e old off,
      due_first false last e (old ++ (mid ++ late ∷ [])) off,
      more_due last old mid late low each',
    ) in lt)
    (cases_Bool (nat_le (last + save_interval) e.after))

pub loss_in : LossIsBoundedIn
loss_in b s g k files old x q le left are =
    let P : ℕ → Type 0 = λ t. t + save_interval ≤ are.late.after in
    let afters : List ℕ = map (λ e. e.after) old in
    loss_by_dues_in b s g q k files old (are.between ++ are.late ∷ []) are.more are.later x le left
    (are.begun
    ∙ ap (λ (l : List Event). old ++ l) (sym (append_assoc are.between (are.late ∷ []) (are.later ∷ are.more))))
    (more_due (began_at g.times) old are.between are.late (All-head P (began_at g.times) afters are.enough)
    (All-tail P (began_at g.times) afters are.enough))

pub loss_is_bounded : LossIsBounded
loss_is_bounded r reads k files times old between more late later x seen tells readings le left is each =
    let afters : List ℕ = map (λ e. e.after) old in
    let same : times ≡ (g r).times = times_are r times tells readings in
    let le' : k ≤ length (g r).calls = subst (λ (l : List Entry). k ≤ length l) (calls_are r) le in
    let left' : LeftBy (b r) (g r).calls k files
    = subst (λ (l : List Entry). LeftBy (b r) l k files) (calls_are r) left in
    subst (λ (m : List ℕ). Keeps r.command.options.sector old (files m) x) (map_is r)
    (loss_in (b r) (s r) (g r) k files old x (went r) le' left'
    (record {
      between = between;
      late = late;
      later = later;
      more = more;
      begun = then_events r reads k times (old ++ (between ++ late ∷ later ∷ more)) seen same is;
      enough = subst (λ (ts : List ℕ). All (λ t. t + save_interval ≤ late.after) (began_at ts ∷ afters)) same each;
    }))
