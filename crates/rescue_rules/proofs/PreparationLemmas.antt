-- What preparation keeps of a map.
use Rattle.std.proofs.Common.{◌≡◌, ◌↔◌, ℕ, zero, suc, ◌+◌, Bool, true, false, List, [], ◌∷◌, length, Some, refl, ap, ◌∙◌, arith}
use Rattle.std.proofs.lemmas.Option.{same_Some}
use Rattle.block_list.specs.declared.status.Status.{Status}
use Rattle.block_list.specs.declared.status.Status.TheVariants.{Finished}
use Rattle.block_list.specs.Map.{Has}
use Rattle.rescue_rules.specs.Preparation.{tried_again, trimmed_again, if_asked, prepared_status, changed_from, PreparesNoFinished}

-- as many positions
pub length_changed : (domain : ℕ → Bool) (change : Status → Status) (at : ℕ) (map : List Status)
    → length (changed_from domain change at map) ≡ length map
length_changed domain change at [] = refl
length_changed domain change at (s ∷ map) = let k = length_changed domain change (at + 1) map in omega (arith, k)

-- a change that makes nothing finished, and leaves what is
record SparesFinished (change : Status → Status) : Type 0 where
  leaves : change Finished ≡ Finished
  makes_none : (status : Status) → change status ≡ Finished → status ≡ Finished

tried_spares : SparesFinished tried_again
tried_spares = record { leaves = refl; makes_none = makes_none }
  where
    makes_none : (status : Status) → tried_again status ≡ Finished → status ≡ Finished
    makes_none Finished is = refl
    makes_none status is = absurd (cc)

trimmed_spares : SparesFinished trimmed_again
trimmed_spares = record { leaves = refl; makes_none = makes_none }
  where
    makes_none : (status : Status) → trimmed_again status ≡ Finished → status ≡ Finished
    makes_none Finished is = refl
    makes_none status is = absurd (cc)

-- the same where it is asked for
asked_spares : (change : Status → Status) → SparesFinished change → (asked : Bool)
    → SparesFinished (if_asked asked change)
asked_spares change h true = h
asked_spares change h false = record { leaves = refl; makes_none = λ status is. is }

prepared_spares : (try_again retrim : Bool) → SparesFinished (prepared_status try_again retrim)
prepared_spares try_again retrim =
    let first : SparesFinished (if_asked try_again tried_again) = asked_spares tried_again tried_spares try_again in
    let second : SparesFinished (if_asked retrim trimmed_again) = asked_spares trimmed_again trimmed_spares retrim in
    record {
      leaves = ap (λ (t : Status). if_asked retrim trimmed_again t) first.leaves ∙ second.leaves;
      makes_none = λ status is. first.makes_none status (second.makes_none (if_asked try_again tried_again status) is);
    }

-- a position is finished after it if and only if it was
alike_from : (domain : ℕ → Bool) (change : Status → Status) → SparesFinished change → (at : ℕ) (map : List Status)
    (x : ℕ) → Has map Finished x ↔ Has (changed_from domain change at map) Finished x
alike_from domain change h at [] x = (λ has. has, λ has. has)
alike_from domain change h at (status ∷ map) zero =
    let here : SparesFinished (if_asked (domain at) change) = asked_spares change h (domain at) in (
      λ has. ap (λ (t : Status). Some t)
          (ap (λ (t : Status). if_asked (domain at) change t) (same_Some status Finished has) ∙ here.leaves),
      λ has. ap (λ (t : Status). Some t)
          (here.makes_none status (same_Some (if_asked (domain at) change status) Finished has)),
    )
alike_from domain change h at (status ∷ map) (suc x) = alike_from domain change h (at + 1) map x

pub prepares_no_finished : PreparesNoFinished
prepares_no_finished domain try_again retrim map =
    record { each = alike_from domain (prepared_status try_again retrim) (prepared_spares try_again retrim) 0 map }
