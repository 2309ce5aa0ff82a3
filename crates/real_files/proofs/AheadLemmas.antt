-- What one read ahead gave, cut into the piece and what is held after it.
use Rattle.std.proofs.Common.{◌≡◌, ℕ, ◌+◌, ◌-◌, ◌≤◌, Bool, true, nat_eq, List, ◌++◌, length, take, drop, slice_range, Option, sym, ap, ◌∙◌, arith, subst, take-append-drop}
use Rattle.std.proofs.lemmas.List.{drop-drop, take-append-le, take-take}
use Rattle.std.proofs.lemmas.Slice.{between_is}
use Rattle.std.proofs.lemmas.Bool.Decides.{nat_tests}
use Rattle.std.specs.Io.KnownBytes.{Consumes}
use Rattle.real_files.specs.Ahead.{Ahead, GivesHeld, ReadsAhead, asked_ahead, held_at, holds}

-- a part loses its front
pub drop-slice_range : (xs : List ℕ) (s e a : ℕ) → s + a ≤ e → drop a (slice_range xs s e) ≡ slice_range xs (s + a) e
drop-slice_range xs s e a h =
    ap (drop a) (between_is xs s e) ∙ drop-drop a s (take e xs) ∙ sym (between_is xs (s + a) e)

-- a part of a part is a part of the list
pub slice_range-slice_range : (xs : List ℕ) (s e a b : ℕ) → a ≤ b → s + b ≤ e
    → slice_range (slice_range xs s e) a b ≡ slice_range xs (s + a) (s + b)
slice_range-slice_range xs s e a b p q =
    let same : b - a ≡ s + b - (s + a) = omega arith in
    ap (take (b - a)) (drop-slice_range xs s e a (omega arith))
    ∙ take-take (b - a) (e - (s + a)) (drop (s + a) xs) (omega arith)
    ∙ ap (λ n. take n (drop (s + a) xs)) same

-- What came into the front of a list is there.
pub came_in : (before after : Option (List ℕ)) (k n : ℕ) (came rest : List ℕ) → n ≤ length came → n ≤ k
    → Consumes before after (take n came) → Consumes before after (slice_range (take k (came ++ rest)) 0 n)
came_in before after k n came rest fits within took =
    let size : n - 0 ≡ n = omega arith in
    subst (Consumes before after)
    (sym (take-append-le n came rest fits) ∙ sym (take-take n k (came ++ rest) within)
    ∙ ap (λ m. take m (take k (came ++ rest))) (sym size)) took

-- A piece at the position of the first byte that is held is their front.
cut_at : (from to n size : ℕ) (bytes : List ℕ) → from ≡ 0 → to ≡ n → size ≡ n
    → bytes ≡ take size (drop from bytes) ++ drop to bytes
cut_at from to n size bytes p q r = rw (p, q, r) (sym (take-append-drop n bytes))

split_at : (at pos n : ℕ) (bytes : List ℕ) → at ≡ pos
    → bytes ≡ slice_range bytes (pos - at) (pos - at + n) ++ drop (pos - at + n) bytes
split_at at pos n bytes same =
    cut_at (pos - at) (pos - at + n) n (pos - at + n - (pos - at)) bytes (omega arith) (omega arith) (omega arith)

-- what the room holds from one of its places up to another, from a position on
abbrev pub in_room : (pos begin end : ℕ) → Bool → (asked_to : ℕ) → List ℕ → Ahead
in_room pos begin end whole asked_to room = record {
  pos = pos;
  bytes = slice_range room begin end;
  room = length room;
  is_whole = whole;
  asked_to = asked_to;
}

-- A piece that was copied from its place in the room was held.
pub gives_held : (at pos begin end n : ℕ) (whole : Bool) (asked_to : ℕ) (buf room : List ℕ) (old : Ahead)
    → old ≡ in_room at begin end whole asked_to room → at ≤ pos → n ≡ length buf → begin + (pos - at) + n ≤ end
    → buf ≡ slice_range room (begin + (pos - at)) (begin + (pos - at) + n)
    → GivesHeld pos buf old (in_room (pos + length buf) (begin + (pos - at) + n) end whole asked_to room)
gives_held at pos begin end n whole asked_to buf room old is later long within copied =
    let skip = pos - at in
    let place : begin + (skip + length buf) ≡ begin + skip + n = omega arith in
    let held : slice_range (slice_range room begin end) skip (skip + length buf) ≡ buf =
    slice_range-slice_range room begin end skip (skip + length buf) (omega arith) (omega arith)
    ∙ ap (λ k. slice_range room (begin + skip) k) place ∙ sym copied in
    let rest : slice_range room (begin + skip + n) end ≡ drop (skip + length buf) (slice_range room begin end) =
    ap (λ k. slice_range room k end) (sym place)
    ∙ sym (drop-slice_range room begin end (skip + length buf) (omega arith)) in
    subst
    (λ (o : Ahead). GivesHeld pos buf o (in_room (pos + length buf) (begin + skip + n) end whole asked_to room)) (sym is)
    (record {
      given = sym held;
      after = ap
          (λ (bytes : List ℕ).
          record (in_room at begin end whole asked_to room) { pos = pos + length buf; bytes = bytes }) rest;
    })

-- What a read ahead held gave the piece.
pub read_gives : (pos most : ℕ) (given : Bool) (before after : Option (List ℕ)) (buf buf' : List ℕ)
    (old read new : Ahead) → read.pos ≡ pos → Consumes before after read.bytes
    → length read.bytes ≤ asked_ahead old most
    → read.is_whole ≡ nat_eq (length read.bytes) (asked_ahead old most)
    → read.asked_to ≡ pos + asked_ahead old most → read.room ≡ old.room
    → given ≡ holds read pos (length buf) → given ≡ true → GivesHeld pos buf' read new → length buf' ≡ length buf
    → ReadsAhead pos most given before after buf buf' old new
read_gives pos most given before after buf buf' old read new at came few whole up_to room held is gives long =
    let piece : held_at read pos (length buf') ≡ buf' = sym gives.given in
    let rest : drop (pos - read.pos + length buf') read.bytes ≡ new.bytes =
    sym (ap (λ (a : Ahead). a.bytes) gives.after) in
    record {
      came = read.bytes;
      consumes = came;
      few = few;
      whole = ap (λ (a : Ahead). a.is_whole) gives.after ∙ whole;
      up_to = ap (λ (a : Ahead). a.asked_to) gives.after ∙ up_to;
      reach = grind (arith, nat_tests);
      pieces = λ yes. (
        split_at read.pos pos (length buf') read.bytes at ∙ (λ i. piece i ++ rest i),
        ap (λ (a : Ahead). a.pos) gives.after ∙ ap (λ n. pos + n) long,
      );
      dropped = λ no. cc;
      room = ap (λ (a : Ahead). a.room) gives.after ∙ room;
    }
