-- What a read that was cut leaves at the buffer's front.
use Rattle.std.proofs.Common.{◌≡◌, ℕ, ◌+◌, ◌-◌, ◌<◌, ◌≤◌, true, false, if◌then◌else◌, IsTrue, List, [], ◌∷◌, ◌++◌, length, take, drop, slice_range, sym, ap, ◌∙◌, arith, refl, take-take, length-take-le}
use Rattle.std.proofs.lemmas.Bool.{cond-true, cond-false}
use Rattle.std.proofs.lemmas.List.{take-append-le}
use Rattle.std.proofs.Math.Nat.{div-mul-le_self}
use Rattle.block_list.specs.declared.block.Range.{Range}
use Rattle.faulty_source.specs.declared.source.Got.{Got}
use Rattle.faulty_source.specs.Got.{count_of, is_end}
use Rattle.faulty_source.specs.Journal.{Reading, is_whole, floor, kept}
use Rattle.faulty_source.specs.SourceState.{SourceState}
use Rattle.faulty_source.specs.SourceChanges.{Reads}
use Rattle.transfer_token.specs.declared.token.Request.{Request}
use Rattle.transfer_token.specs.declared.fetch.Cut.{Cut}
use Rattle.transfer_token.specs.declared.fetch.Cut.TheVariants.{Whole, Part, Nothing, Ended, Empty}
use Rattle.transfer_token.specs.Tokens.{between, size_of, IsCut, Spans, IfLoaded, HoldsLoaded, Fetches}

-- the range is the part of the read that is kept
abbrev IsKept : ℕ → Reading → Range → Type 0
IsKept sector r loaded = loaded ≡ between r.pos (r.pos + kept sector r)

-- no more is kept than was given
kept_few : (sector : ℕ) (r : Reading) → kept sector r ≤ length r.given
kept_few sector r = grind (arith, div-mul-le_self)

-- of one that met the end all is kept that was given
kept_ended : (sector : ℕ) (r : Reading) → is_whole r ≡ false → r.ended ≡ true → kept sector r ≡ length r.given
kept_ended sector r part ended =
    let rest : ℕ = floor sector (r.pos + length r.given) - r.pos in
    cond-false (is_whole r) r.asked (if r.ended then length r.given else rest) part
    ∙ cond-true r.ended (length r.given) rest ended

-- what was loaded is that part
loaded_is_kept : (sector : ℕ) (r : Reading) (fetched : Cut Range) → IsCut sector r fetched → IfLoaded fetched (IsKept sector r)
loaded_is_kept sector r (Whole loaded) cut = rw cut.0 cut.2
loaded_is_kept sector r (Part loaded missed) cut = cut.2
loaded_is_kept sector r (Nothing missed) cut = tt
loaded_is_kept sector r (Ended loaded over) cut =
    cut.3 ∙ ap (λ (k : ℕ). between r.pos (r.pos + k)) (sym (kept_ended sector r cut.0 cut.1))
loaded_is_kept sector r (Empty over) cut = tt

-- what follows of each range follows of the loaded one
if_loaded : (fetched : Cut Range) (P Q : Range → Type 0) → ((loaded : Range) → P loaded → Q loaded) → IfLoaded fetched P → IfLoaded fetched Q
if_loaded (Whole loaded) P Q step h = step loaded h
if_loaded (Part loaded missed) P Q step h = step loaded h
if_loaded (Nothing missed) P Q step h = tt
if_loaded (Ended loaded over) P Q step h = step loaded h
if_loaded (Empty over) P Q step h = tt

-- the buffer's front has that part of what the read gave
front_given : (sector : ℕ) (r : Reading) (buf : List ℕ) (loaded : Range) → take (length r.given) buf ≡ r.given → IsKept sector r loaded
    → take (size_of loaded) buf ≡ take (kept sector r) r.given
front_given sector r buf loaded front is =
    let size : size_of loaded ≡ kept sector r = ap size_of is ∙ omega arith in
    ap (λ n. take n buf) size ∙ sym (take-take (kept sector r) (length r.given) buf (kept_few sector r)) ∙ ap (take (kept sector r)) front

-- and it is the input's own
kept_right : (sector : ℕ) (r : Reading) (bytes : List ℕ) (loaded : Range) → r.given ≡ slice_range bytes r.pos (r.pos + length r.given) → IsKept sector r loaded
    → take (kept sector r) r.given ≡ slice_range bytes loaded.from loaded.to
kept_right sector r bytes loaded right is =
    let few : kept sector r ≤ r.pos + length r.given - r.pos = omega (arith, kept_few sector r) in
    let all : take (kept sector r) r.given ≡ take (kept sector r) (drop r.pos bytes) =
    ap (take (kept sector r)) right ∙ take-take (kept sector r) (r.pos + length r.given - r.pos) (drop r.pos bytes) few in
    let size : kept sector r ≡ r.pos + kept sector r - r.pos = omega arith in
    all ∙ ap (λ n. take n (drop r.pos bytes)) size ∙ sym (ap (λ (range : Range). slice_range bytes range.from range.to) is)

-- so the buffer's front holds what was loaded
loaded_holds : (sector : ℕ) (r : Reading) (fetched : Cut Range) (buf : List ℕ) (source : SourceState) → IsCut sector r fetched
    → take (length r.given) buf ≡ r.given → (IsTrue source.tells → r.given ≡ slice_range source.bytes r.pos (r.pos + length r.given))
    → IfLoaded fetched (HoldsLoaded sector r source buf)
loaded_holds sector r fetched buf source cut front right =
    let holds : (loaded : Range) → IsKept sector r loaded → HoldsLoaded sector r source buf loaded = λ loaded is. record {
      given = front_given sector r buf loaded front is;
      own = λ tells. front_given sector r buf loaded front is ∙ kept_right sector r source.bytes loaded (right tells) is;
    } in
    if_loaded fetched (IsKept sector r) (HoldsLoaded sector r source buf) holds (loaded_is_kept sector r fetched cut)

-- what a read gave into the front of a buffer was fetched, and cut
pub fetched_so : (request : Request) (sector : ℕ) (got : Got) (fetched : Cut Range) (part rest : List ℕ) (old new : SourceState)
    → count_of got ≤ length part → count_of got ≤ request.len → (is_end got ≡ true → count_of got < request.len)
    → (IsTrue old.tells → take (count_of got) part ≡ slice_range old.bytes request.pos (request.pos + count_of got))
    → Reads (record { pos = request.pos; asked = request.len; given = take (count_of got) part; ended = is_end got } ∷ []) old new
    → ((r : Reading) → r.pos ≡ request.pos → r.asked ≡ request.len → length r.given ≡ count_of got → r.ended ≡ is_end got → IsCut sector r fetched)
    → Spans request fetched → Fetches request sector got fetched (part ++ rest) old new
fetched_so request sector got fetched part rest old new there few ends right read cuts spans =
    let n : ℕ = count_of got in
    let reading : Reading = record { pos = request.pos; asked = request.len; given = take n part; ended = is_end got } in
    let count : length (take n part) ≡ n = length-take-le n part there in
    let cut : IsCut sector reading fetched = cuts reading refl refl count refl in
    let front : take (length (take n part)) (part ++ rest) ≡ take n part = ap (λ k. take k (part ++ rest)) count ∙ take-append-le n part rest there in
    let own : IsTrue old.tells → take n part ≡ slice_range old.bytes request.pos (request.pos + length (take n part)) = rw count right in
    record {
      reading = reading;
      pos = refl;
      asked = refl;
      count = count;
      ended = refl;
      few = rw count few;
      ends = λ is. rw count (ends is);
      right = own;
      read = read;
      cut = cut;
      spans = spans;
      front = front;
      loaded = loaded_holds sector reading fetched (part ++ rest) old cut front own;
    }
