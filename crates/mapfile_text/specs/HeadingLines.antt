-- What the heading of a mapfile says.
use Rattle.std.specs.Prelude.{ℕ, List}
use Rattle.mapfile_text.specs.declared.heading.Program.{Program}

-- what the first lines of a mapfile say: the program, its command line as bytes, and two times in seconds since 1970
pub record HeadingLines : Type 0 where
  pub program : Program
  pub line : List ℕ
  pub start_s : ℕ
  pub now_s : ℕ
