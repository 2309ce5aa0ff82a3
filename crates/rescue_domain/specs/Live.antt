-- What is left of a domain whose input was found to end. For contracts and proofs: no promise uses it.
use Rattle.std.specs.Prelude.{ℕ, Bool, ◌&&◌}
use Rattle.faulty_source.specs.Ends.{is_before}
use Rattle.rescue_domain.specs.declared.live.Live.{Live}
use Rattle.rescue_domain.specs.Parts.{covers}

-- a position of the domain lies before the end that was met, if one was
abbrev pub lives : Live → ℕ → Bool
lives live x = covers live.domain.now x && is_before live.over x
