-- Reads of pieces: one more, and that no position is asked for by two of them.
use Rattle.std.proofs.Common.{◌≡◌, ℕ, ◌+◌, ◌<◌, ◌≤◌, Bool, true, false, cond, List, [], ◌∷◌, ◌++◌, count_by, arith, refl}
use Rattle.std.proofs.lemmas.Bool.Decides.{nat_tests}
use Rattle.std.proofs.lemmas.List.Sums.{sum_by-cons}
use Rattle.faulty_source.specs.Journal.{Reading}
use Rattle.rescue_verify.specs.Laws.{NoneIsReadTwice, asks_for}
use Rattle.rescue_verify.specs.Pieces.{IsPiece, AskForPieces, end_of_reads}

-- reads ask for the first pieces, and one more for the next
pub asks_push : (compared : ℕ → Bool) (sector from : ℕ) (reads : List Reading) (r : Reading)
    → AskForPieces compared sector from reads
    → IsPiece compared sector (end_of_reads from reads) r.pos (r.pos + r.asked)
    → AskForPieces compared sector from (reads ++ r ∷ [])
asks_push compared sector from [] r asks piece = (piece, tt)
asks_push compared sector from (q ∷ reads) r asks piece =
    (asks.0, asks_push compared sector (q.pos + q.asked) reads r asks.1 piece)

-- a read that begins after a position doesn't ask for it
later_is_other : (x : ℕ) (r : Reading) → x < r.pos → asks_for x r ≡ false
later_is_other x r later = grind (arith, nat_tests)

-- a read that asks for a position ends after it
ends_after : (x : ℕ) (r : Reading) → asks_for x r ≡ true → x < r.pos + r.asked
ends_after x r asks = grind (arith, nat_tests)

counted : (x : ℕ) (r : Reading) (reads : List Reading)
    → count_by (asks_for x) (r ∷ reads) ≡ cond (asks_for x r) 1 0 + count_by (asks_for x) reads
counted x r reads = sum_by-cons (λ (s : Reading). cond (asks_for x s) 1 0) r reads

counted_not : (asks : Bool) → asks ≡ false → cond {A = ℕ} asks 1 0 ≡ 0
counted_not asks isnt = rw isnt

-- no read of pieces from a place on asks for what comes before it
none_before : (compared : ℕ → Bool) (sector from : ℕ) (reads : List Reading) (x : ℕ) → x < from
    → AskForPieces compared sector from reads → count_by (asks_for x) reads ≡ 0
none_before compared sector from [] x before asks = refl
none_before compared sector from (r ∷ reads) x before asks =
    let later : x < r.pos = omega (arith, asks.0.first.after) in
    let other = counted_not (asks_for x r) (later_is_other x r later) in
    let rest = none_before compared sector (r.pos + r.asked) reads x (omega arith) asks.1 in
    omega (arith, counted x r reads, other, rest)

counted_once : (asks : Bool) (n : ℕ) → (asks ≡ true → n ≡ 0) → n ≤ 1 → cond asks 1 0 + n ≤ 1
counted_once true n rest few = omega (arith, rest refl)
counted_once false n rest few = omega arith

pub none_is_read_twice : NoneIsReadTwice
none_is_read_twice compared sector from [] x asks = omega arith
none_is_read_twice compared sector from (r ∷ reads) x asks =
    let once = counted_once (asks_for x r) (count_by (asks_for x) reads)
    (λ yes. none_before compared sector (r.pos + r.asked) reads x (ends_after x r yes) asks.1)
    (none_is_read_twice compared sector (r.pos + r.asked) reads x asks.1) in
    rw (counted x r reads) once
