-- The words `infile outfile mapfile`, without any option.
use Rattle.std.specs.Prelude.{◌≡◌, ◌≢◌, ℕ, List, [], ◌∷◌}
use Rattle.rescue_safety.specs.Safe.{Run}
use Rattle.rescue_safety.specs.Rescue.{Observed, run_by}

-- A word that isn't empty and doesn't begin with `-` is no option.
abbrev pub IsName : List ℕ → Type 0
IsName [] = ⊥
IsName (c ∷ cs) = c ≢ 45

-- A call of `ddrescue` with these three words.
pub record PlainCall : Type 0 where
  pub did : Observed
  pub infile : List ℕ
  pub outfile : List ℕ
  pub mapfile : List ℕ
  pub words : did.call.told.words ≡ infile ∷ outfile ∷ mapfile ∷ []
  pub infile_name : IsName infile
  pub outfile_name : IsName outfile
  pub mapfile_name : IsName mapfile

-- What a plain call did: it reads sectors of 512 bytes, and each position has its own place.
abbrev pub plain_run : PlainCall → Run
plain_run p =
    run_by p.did (record { outfile = p.outfile; mapfile = p.mapfile; from = 0; to = 0 }) 512 p.did.reads
