-- What a chain of rescues gives is its input's, and what its runs find a stop may leave.
use Rattle.std.proofs.Common.{◌≡◌, ℕ, ◌+◌, List, [], ◌∷◌, ◌++◌, take, All, Option, Some, None, refl, sym, subst}
use Rattle.std.specs.List.{slice_get}
use Rattle.std.proofs.lemmas.List.Elements.{All-head, All-tail}
use Rattle.rescue_rules.specs.Given.{last_of_both}
use Rattle.rescue_rules.specs.Stops.{Before, files_before, LeftBy}
use Rattle.rescue_safety.specs.Safe.{Target, Run, by_then, gives, IsOwn}
use Rattle.rescue_safety.specs.Rescue.{run_of}
use Rattle.rescue_safety.specs.Runs.{Link, Stopped, Ended, all_give}
use Rattle.rescue_safety.specs.ChainLaws.{ChainIsTheInputs, NextMayBeLeft}
use Rattle.rescue_safety.proofs.BegunLemmas.{writes_in}
use Rattle.rescue_safety.proofs.ClaimLemmas.{never_some}
use Rattle.rescue_safety.proofs.OwedLemmas.{reads_left}
use Rattle.rescue_safety.proofs.OwnLemmas.{until_own, own_given}
use Rattle.rescue_safety.proofs.PartLemmas.{ended_left}
use Rattle.rescue_safety.proofs.SafeLemmas.{safe_anywhere}

module _ (t : Target) (input : List ℕ) (x byte : ℕ) where
  abbrev Has : Link t → Type 0
  Has l = l.rescue.did.call.told.before.source.bytes ≡ input

  link_own : (l : Link t) → l.rescue.did.call.told.before.source.bytes ≡ input
      → gives (by_then (run_of l.rescue l.reads) l.moment) x ≡ Some byte → slice_get input x ≡ Some byte
  link_own l same gave =
      let run : Run = run_of l.rescue l.reads in
      let then_run : Run = by_then run l.moment in
      own_given input run.sector then_run.reads x byte
      (subst (λ (i : List ℕ). All (IsOwn i) then_run.reads) same
      (until_own run.input run.sector (writes_in (take (l.moment + 1) run.calls)) run.reads
      (safe_anywhere l.rescue l.reads l.are_seen).own)) gave

  -- what a later run gave, or this one
  either_own : (l : Link t) (later : Option ℕ) → l.rescue.did.call.told.before.source.bytes ≡ input
      → (later ≡ Some byte → slice_get input x ≡ Some byte)
      → last_of_both later (gives (by_then (run_of l.rescue l.reads) l.moment) x) ≡ Some byte
      → slice_get input x ≡ Some byte
  either_own l (Some b) same rest gave = rest gave
  either_own l None same rest gave = link_own l same gave

  links_own : (links : List (Link t)) → All (λ l. l.rescue.did.call.told.before.source.bytes ≡ input) links
      → all_give links x ≡ Some byte → slice_get input x ≡ Some byte
  links_own [] same gave = absurd (never_some byte None refl gave)
  links_own (l ∷ links) same gave =
      either_own l (all_give links x) (All-head Has l links same)
      (λ is. links_own links (All-tail Has l links same) is) gave

pub chain_is_the_inputs : ChainIsTheInputs
chain_is_the_inputs t input links x byte same gave = links_own t input x byte links same gave

pub next_may_be_left : NextMayBeLeft
next_may_be_left outfile from next calls k (Stopped files left is) =
    subst (λ (b : Before). LeftBy from calls k (files_before b)) (sym is) left
next_may_be_left outfile from next calls k (Ended part silent p quiet is) =
    let then_before : Before
    = record { start = from.start; earlier = from.earlier ++ (take k calls ++ (part ++ silent)) } in
    subst (λ (b : Before). LeftBy from calls k (files_before b)) (sym is)
    (ended_left from outfile calls k part silent (files_before then_before) p quiet (reads_left then_before))
