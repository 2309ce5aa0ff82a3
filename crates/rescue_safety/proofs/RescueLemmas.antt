-- A rescue that goes on from what is owed leaves it so.
use Rattle.std.proofs.Common.{◌≡◌, ◌≢◌, ◌⊎◌, inl, inr, ⊎_elim, ℕ, Bool, true, false, if◌then◌else◌, List, [], ◌++◌, take, Option, Some, None, sym, ap, subst, ◌∙◌, arith, append-nil}
use Rattle.std.proofs.lemmas.Bool.{cases_Bool}
use Rattle.std.proofs.lemmas.Option.{slice_get_within}
use Rattle.crash_site.specs.Files.{File, empty_file, bytes_of, draft_of, put}
use Rattle.crash_site.specs.Calls.{Entry}
use Rattle.rescue_rules.specs.Given.{last_of_both}
use Rattle.crash_site.specs.Left.{Matches, NothingLost}
use Rattle.crash_site.proofs.LawLemmas.{put_other, whole_held}
use Rattle.rescue_rules.specs.Stops.{Before, files_before, lost_before, has_barrier, opened_output, CouldBeOutput}
use Rattle.rescue_rules.proofs.SaveStages.{put_own}
use Rattle.rescue_safety.specs.Saves.{CallsFinished}
use Rattle.rescue_safety.specs.Safe.{Target, Run, by_then, gives, IsHeld, IsSafeAnywhere}
use Rattle.rescue_safety.specs.Rescue.{run_of}
use Rattle.rescue_safety.specs.Owed.{last_given, pairs_of, HoldsLast}
use Rattle.rescue_safety.specs.OwedFiles.{IsOwedIn, IsOwedAt}
use Rattle.rescue_safety.specs.Runs.{NextBegins}
use Rattle.rescue_safety.specs.MixedRuns.{MixedLink, IsRescue}
use Rattle.rescue_safety.proofs.ClaimLemmas.{some_or_none, never_some}
use Rattle.rescue_safety.proofs.LastGiven.{last_after, given_is_last}
use Rattle.rescue_safety.proofs.OwedLemmas.{IsSame, same_back, same_holds, same_at, owed_before, next_owed}
use Rattle.rescue_safety.proofs.SafeLemmas.{HeldOver, held_over, safe_anywhere}

-- each position that the mapfile called finished before is an old one, or this output holds its last byte
abbrev OwedOver : (d : Run) → (gave : List (ℕ × ℕ)) → (old : ℕ → Bool) → (was : List ℕ) → Type 0
OwedOver d gave old was = (x : ℕ) → CallsFinished (files_before d.past d.target.mapfile) x
    → (old x ≡ true) ⊎ HoldsLast d.target (last_given gave) was x

-- what a run holds once its barrier has returned is owed, if it was over the output that could be before
module _ (d : Run) (k : ℕ) (files : List ℕ → Option File) (over : HeldOver d k files) (gave : List (ℕ × ℕ))
    (old : ℕ → Bool) (owed : OwedOver d gave old over.was.bytes) where
  abbrev held : IsHeld d k files
  held = over.held

  abbrev pairs : List (ℕ × ℕ)
  pairs = pairs_of d.sector d.reads

  abbrev image : List ℕ
  image = bytes_of (files d.target.outfile)

  -- a position that a read gave a byte
  given_now : (x byte : ℕ) → CallsFinished (files d.target.mapfile) x → gives d x ≡ Some byte
      → HoldsLast d.target (last_given (gave ++ pairs)) image x
  given_now x byte fin some =
      let h = held.rescued x byte fin some in
      record {
        byte = byte;
        given = last_after gave pairs x
            ∙ ap (λ (o : Option ℕ). last_of_both o (last_given gave x)) (given_is_last d.sector d.reads x ∙ some);
        place = h.0;
        at = h.1;
        holds = h.2;
      }

  -- and one that none did
  given_before : (x : ℕ) → gives d x ≡ None → HoldsLast d.target (last_given gave) over.was.bytes x
      → HoldsLast d.target (last_given (gave ++ pairs)) image x
  given_before x none h = record {
    byte = h.byte;
    given = last_after gave pairs x
        ∙ ap (λ (o : Option ℕ). last_of_both o (last_given gave x)) (given_is_last d.sector d.reads x ∙ none) ∙ h.given;
    place = h.place;
    at = h.at;
    holds = over.stood h.place (slice_get_within over.was.bytes h.place h.byte h.holds)
        (λ y at.
        let same : x ≡ y = omega (arith, at, h.at) in
        subst (λ (z : ℕ). gives d z ≡ None) same none)
        ∙ h.holds;
  }

  before_or_now : (x : ℕ) → CallsFinished (files d.target.mapfile) x → gives d x ≡ None
      → (old x ≡ true) ⊎ HoldsLast d.target (last_given (gave ++ pairs)) image x
  before_or_now x fin none =
      ⊎_elim
      (λ (was : CallsFinished (files_before d.past d.target.mapfile) x).
      ⊎_elim (λ (is : old x ≡ true). inl is)
      (λ (h : HoldsLast d.target (last_given gave) over.was.bytes x). inr (given_before x none h))
      (owed x was))
      (λ (some : (byte : ℕ) × (gives d x ≡ Some byte)). absurd (never_some some.0 (gives d x) none some.1))
      (held.claimed x fin)

  owed_late : IsOwedIn d.target (gave ++ pairs) old files
  owed_late = record {
    each = λ x fin. ⊎_elim (λ (some : (byte : ℕ) × (gives d x ≡ Some byte)). inr (given_now x some.0 fin some.1))
        (λ (none : gives d x ≡ None). before_or_now x fin none)
        (some_or_none (gives d x));
  }

-- where nothing was lost, an output that could be before has the bytes that read
pub whole_bytes : (o : Option File) (lost : List (ℕ × ℕ)) (was : File) → NothingLost o lost
    → Matches (opened_output o) lost was → was.bytes ≡ bytes_of o
whole_bytes None lost was none alike =
    ap bytes_of (whole_held (Some empty_file) lost (Some was) (record { places = none.places; end = none.end }) alike)
whole_bytes (Some f) lost was none alike = ap bytes_of (whole_held (Some f) lost (Some was) none alike)

module _ (t : Target) (l : MixedLink) (apart : t.outfile ≢ t.mapfile) (q : IsRescue t l) where
  abbrev d : Run
  d = by_then (run_of q.rescue q.reads) q.step.moment

  abbrev calls : List Entry
  calls = q.rescue.did.call.calls

  safe : IsSafeAnywhere (run_of q.rescue q.reads)
  safe = safe_anywhere q.rescue q.reads q.are_seen

  some_same : (a b : List ℕ) → Some a ≡ Some b → a ≡ b
  some_same a b is = cc

  same : IsSame d.target t
  same = record {
    outfile = q.step.outfile;
    mapfile = some_same q.rescue.mapfile t.mapfile (sym q.rescue.named ∙ q.step.mapfile);
    places = q.step.places;
  }

  own_apart : d.target.outfile ≢ d.target.mapfile
  own_apart = λ is. apart (sym same.outfile ∙ is ∙ same.mapfile)

  next : NextBegins t.outfile d.past calls q.step.moment l.next
  next = subst (λ (n : Before). NextBegins t.outfile n calls q.step.moment l.next) q.step.before q.step.next

  own_next : NextBegins d.target.outfile d.past calls q.step.moment l.next
  own_next = subst (λ (n : List ℕ). NextBegins n d.past calls q.step.moment l.next) (sym same.outfile) next

  -- once its barrier has returned, what is owed over each output that could be before is owed at each stop
  late : (gave : List (ℕ × ℕ)) (old : ℕ → Bool) → has_barrier (take q.step.moment calls) ≡ true
      → ((was : File) → CouldBeOutput d.past d.target.outfile (draft_of d.target.mapfile) was
      → OwedOver d gave old was.bytes)
      → IsOwedAt t (gave ++ pairs_of d.sector d.reads) old l.next
  late gave old is owed =
      same_at d.target t same (gave ++ pairs_of d.sector d.reads) old l.next
      (next_owed d.target (gave ++ pairs_of d.sector d.reads) old d.past calls q.step.moment l.next
      (λ files left.
      let over : HeldOver d q.step.moment files
      = held_over q.rescue q.reads q.step.moment files q.are_seen q.step.within left is in
      owed_late d q.step.moment files over gave old (owed over.was over.could)) own_next)

  -- what is owed among the files with another output is owed over that
  owed_with : (gave : List (ℕ × ℕ)) (old : ℕ → Bool) (was : File)
      → IsOwedIn d.target gave old (put (files_before d.past) d.target.outfile (Some was))
      → OwedOver d gave old was.bytes
  owed_with gave old was owed = λ x fin.
      let files : List ℕ → Option File = put (files_before d.past) d.target.outfile (Some was) in
      let there : CallsFinished (files d.target.mapfile) x
      = subst (λ (f : Option File). CallsFinished f x)
      (sym (put_other (files_before d.past) d.target.outfile d.target.mapfile (Some was) (λ is. own_apart (sym is)))) fin in
      subst (λ (f : Option File). (old x ≡ true) ⊎ HoldsLast d.target (last_given gave) (bytes_of f) x)
      (put_own (files_before d.past) d.target.outfile (Some was)) (owed.each x there)

  early : (gave : List (ℕ × ℕ)) (old : ℕ → Bool) → has_barrier (take q.step.moment calls) ≡ false
      → IsOwedAt t gave old d.past → IsOwedAt t gave old l.next
  early gave old off owed =
      let here : IsOwedAt d.target gave old d.past
      = same_at t d.target (same_back d.target t same) gave old d.past owed in
      same_at d.target t same gave old l.next
      (next_owed d.target gave old d.past calls q.step.moment l.next
      (λ files left. owed_before d.target d.past gave old files own_apart here
      ((safe.safe q.step.moment files q.step.within left).until_barrier off)) own_next)

  -- with what it gave
  gave_late : (gave : List (ℕ × ℕ)) (old : ℕ → Bool) → has_barrier (take q.step.moment calls) ≡ true
      → IsOwedAt t (gave ++ pairs_of d.sector d.reads) old l.next → IsOwedAt t (gave ++ l.gave) old l.next
  gave_late gave old is owed =
      subst (λ (gs : List (ℕ × ℕ)). IsOwedAt t (gave ++ gs) old l.next)
      (sym (q.gave ∙ ap (λ (b : Bool). if b then pairs_of d.sector d.reads else []) is)) owed

  gave_early : (gave : List (ℕ × ℕ)) (old : ℕ → Bool) → has_barrier (take q.step.moment calls) ≡ false
      → IsOwedAt t gave old l.next → IsOwedAt t (gave ++ l.gave) old l.next
  gave_early gave old off owed =
      subst (λ (gs : List (ℕ × ℕ)). IsOwedAt t (gave ++ gs) old l.next)
      (sym (q.gave ∙ ap (λ (b : Bool). if b then pairs_of d.sector d.reads else []) off))
      (subst (λ (gs : List (ℕ × ℕ)). IsOwedAt t gs old l.next) (sym (append-nil gave)) owed)

  -- by what is owed over each output that could be before
  pub barrier_over : (gave : List (ℕ × ℕ)) (old : ℕ → Bool) → has_barrier (take q.step.moment calls) ≡ true
      → ((was : File) → Matches (opened_output (files_before l.before t.outfile)) (lost_before l.before t.outfile) was
      → (x : ℕ) → CallsFinished (files_before l.before t.mapfile) x → (old x ≡ true) ⊎ HoldsLast t (last_given gave) was.bytes x)
      → IsOwedAt t (gave ++ l.gave) old l.next
  barrier_over gave old is owed =
      gave_late gave old is (late gave old is
      (λ was could x fin.
      let alike : Matches (opened_output (files_before l.before t.outfile)) (lost_before l.before t.outfile) was
      = subst (λ (n : List ℕ). Matches (opened_output (files_before l.before n)) (lost_before l.before n)
      was) same.outfile
      (subst (λ (from : Before). Matches (opened_output (files_before from d.target.outfile))
      (lost_before from d.target.outfile) was) (sym q.step.before) could.alike) in
      let fin' : CallsFinished (files_before l.before t.mapfile) x
      = subst (λ (n : List ℕ). CallsFinished (files_before l.before n) x) same.mapfile
      (subst (λ (from : Before). CallsFinished (files_before from d.target.mapfile) x) (sym q.step.before) fin) in
      ⊎_elim (λ (was_old : old x ≡ true). inl was_old)
      (λ (h : HoldsLast t (last_given gave) was.bytes x).
      inr (same_holds t d.target (same_back d.target t same) gave old was.bytes x h))
      (owed was alike x fin')))

  pub barrier_makes_sure : (gave : List (ℕ × ℕ)) (old : ℕ → Bool) → has_barrier (take q.step.moment calls) ≡ true
      → NothingLost (files_before l.before t.outfile) (lost_before l.before t.outfile)
      → IsOwedIn t gave old (files_before l.before) → IsOwedAt t (gave ++ l.gave) old l.next
  barrier_makes_sure gave old is none owed =
      barrier_over gave old is
      (λ was alike x fin.
      subst (λ (bytes : List ℕ). (old x ≡ true) ⊎ HoldsLast t (last_given gave) bytes x)
      (sym (whole_bytes (files_before l.before t.outfile) (lost_before l.before t.outfile) was none alike)) (owed.each x fin))

  pub rescue_owes : (gave : List (ℕ × ℕ)) (old : ℕ → Bool) → IsOwedAt t gave old l.before
      → IsOwedAt t (gave ++ l.gave) old l.next
  rescue_owes gave old owed =
      let here : IsOwedAt t gave old d.past = subst (λ (n : Before). IsOwedAt t gave old n) q.step.before owed in
      let own : IsOwedAt d.target gave old d.past = same_at t d.target (same_back d.target t same) gave old
      d.past here in
      ⊎_elim
      (λ (is : has_barrier (take q.step.moment calls) ≡ true).
      gave_late gave old is (late gave old is
      (λ was could. owed_with gave old was
      (owed_before d.target d.past gave old (put (files_before d.past) d.target.outfile (Some was)) own_apart own
      could.could))))
      (λ (off : has_barrier (take q.step.moment calls) ≡ false). gave_early gave old off (early gave old off here))
      (cases_Bool (has_barrier (take q.step.moment calls)))
