-- The program's own name.
use Rattle.std.specs.Prelude.{ℕ, List, codes}

-- the program's name, which begins its messages
abbrev pub program_name : List ℕ
program_name = codes "ddrescueplan"
