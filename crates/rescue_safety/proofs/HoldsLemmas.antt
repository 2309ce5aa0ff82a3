-- What is safe holds what its mapfile calls finished.
use Rattle.std.proofs.Common.{◌≡◌, ◌⊎◌, inl, inr, ⊎_elim, ℕ, ◌+◌, ◌≤◌, List, length, take, All, Option, Some, None, subst, ◌∙◌, arith}
use Rattle.std.proofs.lemmas.Option.{slice_get_within}
use Rattle.crash_site.specs.Files.{File}
use Rattle.rescue_rules.specs.Stops.{files_before, LeftBy}
use Rattle.rescue_safety.specs.Saves.{CallsFinished}
use Rattle.rescue_safety.specs.Safe.{Run, by_then, gives, bytes_at_first, IsOwn, IsHeld, IsSafe, IsSafeAnywhere}
use Rattle.rescue_safety.specs.Holds.{HoldsGiven, StillHolds, HoldsFinished}
use Rattle.rescue_safety.specs.Laws.{FinishedIsHeld}
use Rattle.rescue_safety.proofs.ClaimLemmas.{some_or_none, never_some}
use Rattle.rescue_safety.proofs.OwnLemmas.{until_own, own_given}
use Rattle.rescue_safety.proofs.BegunLemmas.{writes_in}
use Rattle.rescue_safety.specs.Rescue.{run_of}
use Rattle.rescue_safety.proofs.SafeLemmas.{any_stop_is_safe}

module _ (d : Run) (k : ℕ) (files : List ℕ → Option File) (held : IsHeld d k files) (own : All (IsOwn d.input) d.reads)
    (x : ℕ) (fin : CallsFinished (files d.target.mapfile) x) where
  holds_given : (byte : ℕ) → gives d x ≡ Some byte → HoldsGiven d files x
  holds_given byte gave =
      let h = held.rescued x byte fin gave in
      record {
        byte = byte;
        given = gave;
        own = own_given d.input d.sector d.reads x byte own gave;
        place = h.0;
        at = h.1;
        holds = h.2;
      }

  still_holds : gives d x ≡ None → StillHolds d.target d.past files x
  still_holds none = record {
    finished = ⊎_elim (λ (was : CallsFinished (files_before d.past d.target.mapfile) x). was)
        (λ (some : (b : ℕ) × (gives d x ≡ Some b)). absurd (never_some some.0 (gives d x) none some.1))
        (held.claimed x fin);
    holds = λ y b at was unlost.
        held.stood y (slice_get_within (bytes_at_first d) y b was) unlost
        (λ z place. subst (λ (n : ℕ). gives d n ≡ None) (let same : x ≡ z = omega (arith, at, place) in same) none)
        ∙ was;
  }

  holds_it : HoldsGiven d files x ⊎ ((gives d x ≡ None) × StillHolds d.target d.past files x)
  holds_it =
      ⊎_elim (λ (some : (b : ℕ) × (gives d x ≡ Some b)). inl (holds_given some.0 some.1))
      (λ (none : gives d x ≡ None). inr (none, still_holds none)) (some_or_none (gives d x))

pub holds_finished : (r : Run) (k : ℕ) (files : List ℕ → Option File) → IsSafeAnywhere r → k ≤ length r.calls
    → LeftBy r.past r.calls k files → HoldsFinished (by_then r k) k files
holds_finished r k files safe le left =
    let here : IsSafe (by_then r k) k files = safe.safe k files le left in
    record {
      until_barrier = here.until_barrier;
      past_barrier = λ is x fin.
          holds_it (by_then r k) k files (here.past_barrier is)
          (until_own r.input r.sector (writes_in (take (k + 1) r.calls)) r.reads safe.own) x fin;
    }

pub finished_is_held : FinishedIsHeld
finished_is_held r k files none le left =
    holds_finished (run_of r r.did.reads) k files (any_stop_is_safe r none) le left
