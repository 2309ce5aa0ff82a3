-- What the pieces of a comparison mean.
use Rattle.std.specs.Prelude.{ℕ, ◌+◌, ◌≤◌, Bool, ◌&&◌, nat_le, nat_lt, List, count_by}
use Rattle.faulty_source.specs.Journal.{Reading}
use Rattle.rescue_verify.specs.Pieces.{AskForPieces}

-- a read asks for the position
abbrev pub asks_for : ℕ → Reading → Bool
asks_for x r = nat_le r.pos x && nat_lt x (r.pos + r.asked)

-- No position is asked for by two reads of pieces. So no byte that was read ahead serves for a second read.
abbrev pub NoneIsReadTwice : Type 0
NoneIsReadTwice = (compared : ℕ → Bool) (sector from : ℕ) (reads : List Reading) (x : ℕ)
    → AskForPieces compared sector from reads → count_by (asks_for x) reads ≤ 1
