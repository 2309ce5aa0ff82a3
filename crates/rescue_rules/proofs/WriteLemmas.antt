-- What a write leaves of bytes.
use Rattle.std.proofs.Common.{◌≡◌, ◌⊎◌, ℕ, ◌+◌, ◌-◌, ◌<◌, ◌≤◌, List, ◌++◌, length, take, drop, replicate, ap, ◌∙◌, arith, ⊎_elim, append_assoc, length-append}
use Rattle.std.specs.List.{slice_get}
use Rattle.std.proofs.lemmas.List.{length-take-le, length-drop, length-replicate}
use Rattle.block_list.proofs.Places.{slice_get-append_left, slice_get-append_right}
use Rattle.block_list.proofs.HeldLemmas.{slice_get-drop}
use Rattle.crash_site.specs.Files.{written}
use Rattle.rescue_rules.proofs.MarkLemmas.{slice_get-take}

-- a write begins with as many bytes as its position says
length-front : (bytes : List ℕ) (pos : ℕ) → length (take pos (bytes ++ replicate (pos - length bytes) 0)) ≡ pos
length-front bytes pos =
    length-take-le pos (bytes ++ replicate (pos - length bytes) 0)
    (omega (
      arith,
      length-append bytes (replicate (pos - length bytes) 0),
      length-replicate {A = ℕ}
          (pos - length bytes) 0,
    ))

written_parts : (bytes : List ℕ) (pos : ℕ) (piece : List ℕ)
    → written bytes pos piece ≡ take pos (bytes ++ replicate (pos - length bytes) 0) ++
    (piece ++ drop (pos + length piece) bytes)
written_parts bytes pos piece =
    append_assoc (take pos (bytes ++ replicate (pos - length bytes) 0)) piece (drop (pos + length piece) bytes)

pub length-written : (bytes : List ℕ) (pos : ℕ) (piece : List ℕ)
    → (length bytes ≤ length (written bytes pos piece)) × (pos + length piece ≤ length (written bytes pos piece))
length-written bytes pos piece =
    let a : List ℕ = take pos (bytes ++ replicate (pos - length bytes) 0) in
    let d : List ℕ = drop (pos + length piece) bytes in
    let e : length (written bytes pos piece) ≡ pos + (length piece + (length bytes - (pos + length piece)))
    = ap length (written_parts bytes pos piece)
    ∙ omega (
      arith,
      length-front bytes pos,
      length-append a (piece ++ d),
      length-append piece d,
      length-drop
          (pos + length piece) bytes,
    ) in
    (omega (arith, e), omega (arith, e))

-- inside its piece a write has the piece's bytes
pub written_inside : (bytes : List ℕ) (pos : ℕ) (piece : List ℕ) (x j : ℕ) → pos + j ≡ x → j < length piece
    → slice_get (written bytes pos piece) x ≡ slice_get piece j
written_inside bytes pos piece x j at within =
    let a : List ℕ = take pos (bytes ++ replicate (pos - length bytes) 0) in
    let d : List ℕ = drop (pos + length piece) bytes in
    let size : length a ≡ pos = length-front bytes pos in
    let is : x - length a ≡ j = omega arith in
    ap (λ w. slice_get w x) (written_parts bytes pos piece) ∙ slice_get-append_right a (piece ++ d) x (omega arith)
    ∙ ap (λ i. slice_get (piece ++ d) i) is ∙ slice_get-append_left piece d j within

-- and outside it the old ones
pub written_outside : (bytes : List ℕ) (pos : ℕ) (piece : List ℕ) (x : ℕ) → x < length bytes
    → (x < pos) ⊎ (pos + length piece ≤ x) → slice_get (written bytes pos piece) x ≡ slice_get bytes x
written_outside bytes pos piece x within apart =
    let zeros : List ℕ = replicate (pos - length bytes) 0 in
    let a : List ℕ = take pos (bytes ++ zeros) in
    let d : List ℕ = drop (pos + length piece) bytes in
    let size : length a ≡ pos = length-front bytes pos in
    ap (λ w. slice_get w x) (written_parts bytes pos piece) ∙ ⊎_elim
    (λ (lt : x < pos). slice_get-append_left a (piece ++ d) x (omega arith) ∙ slice_get-take pos (bytes ++ zeros) x lt
    ∙ slice_get-append_left bytes zeros x within)
    (λ (le : pos + length piece ≤ x).
    let is : pos + length piece + (x - length a - length piece) ≡ x = omega arith in
    slice_get-append_right a (piece ++ d) x (omega arith) ∙ slice_get-append_right piece d (x - length a) (omega arith)
    ∙ slice_get-drop (pos + length piece) bytes (x - length a - length piece) ∙ ap (λ i. slice_get bytes i) is)
    apart
