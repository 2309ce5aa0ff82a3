-- How journals grow.
use Rattle.std.specs.Prelude.{◌≡◌, List, [], ◌∷◌, ◌++◌}
use Rattle.faulty_source.specs.Journal.{Reading}

-- a journal gained these reads at its end
pub record JournalGains (old new : List Reading) : Type 0 where
  pub reads : List Reading
  pub told : new ≡ old ++ reads

-- each of these journals gained reads at its end, or none
abbrev pub AllGain : List (List Reading) → List (List Reading) → Type 0
AllGain [] [] = Unit {0}
AllGain [] (new ∷ news) = ⊥
AllGain (old ∷ olds) [] = ⊥
AllGain (old ∷ olds) (new ∷ news) = JournalGains old new × AllGain olds news
