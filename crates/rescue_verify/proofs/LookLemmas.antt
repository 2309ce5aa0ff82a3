-- What one look saw.
use Rattle.std.proofs.Common.{◌≡◌, ℕ, ◌+◌, ◌-◌, ◌<◌, ◌≤◌, min, Bool, true, false, not, nat_eq, if◌then◌else◌, IsTrue, List, [], ◌∷◌, ◌++◌, map, length, take, drop, slice_range, Some, refl, sym, ap, ◌∙◌, arith, append-nil, length-take-le, length-drop, take_all, ◌&&◌}
use Rattle.std.specs.Str.{bytes_eq}
use Rattle.std.proofs.lemmas.Bool.{cond-true, cond-false}
use Rattle.std.proofs.lemmas.List.{take_min}
use Rattle.std.proofs.lemmas.Bool.Decides.{nat_tests}
use Rattle.faulty_source.specs.declared.source.Got.{Got}
use Rattle.faulty_source.specs.Got.{count_of, is_end}
use Rattle.faulty_source.specs.Journal.{Reading, is_whole, IsFrom}
use Rattle.faulty_source.specs.SourceState.{SourceState}
use Rattle.faulty_source.specs.SourceChanges.{Reads}
use Rattle.crash_site.specs.Calls.{Call, Done, image_read}
use Rattle.crash_site.specs.Files.{bytes_of}
use Rattle.crash_site.specs.FileAnswers.{IsImageRead}
use Rattle.crash_site.specs.SiteState.{SiteState, image_in}
use Rattle.rescue_verify.specs.declared.look.LookResult.{LookResult}
use Rattle.rescue_verify.specs.declared.look.LookResult.TheVariants.{Unread, Same, Different}
use Rattle.rescue_verify.specs.Across.{across}
use Rattle.rescue_verify.specs.Looks.{Look, differs, seen_at, look_call}
use Rattle.rescue_verify.specs.Looking.{SeesPiece, seen_by}

-- what a read of so many bytes that left this in its buffer is in the journal
abbrev pub reading : (pos asked : ℕ) → (buf : List ℕ) → Got → Reading
reading pos asked buf got = record {
  pos = pos;
  asked = asked;
  given = take (count_of got) buf;
  ended = is_end got;
}

-- a read with what the image gave
abbrev with_there : Reading → List ℕ → Look
with_there r there = record { read = r; there = there }

not_whole : (n m : ℕ) → n < m → nat_eq n m ≡ false
not_whole n m h = grind (arith, nat_tests)

all_whole : (n m : ℕ) → n ≡ m → nat_eq n m ≡ true
all_whole n m h = grind (arith, nat_tests)

-- a read that gave less isn't whole, and one that gave all is
pub part_read : (pos asked : ℕ) (buf : List ℕ) (got : Got) → length buf ≡ asked → count_of got < asked
    → is_whole (reading pos asked buf got) ≡ false
part_read pos asked buf got long h =
    let count : length (take (count_of got) buf) ≡ count_of got =
    length-take-le (count_of got) buf (omega (arith, h, long)) in
    not_whole (length (take (count_of got) buf)) asked (omega (arith, count, h))

pub whole_read : (pos asked : ℕ) (buf : List ℕ) (got : Got) → length buf ≡ asked → count_of got ≡ asked
    → is_whole (reading pos asked buf got) ≡ true
whole_read pos asked buf got long h =
    let count : length (take (count_of got) buf) ≡ count_of got =
    length-take-le (count_of got) buf (omega (arith, h, long)) in
    all_whole (length (take (count_of got) buf)) asked (omega (arith, count, h))

-- what a read left in its buffer is what the input has there
pub read_right : (pos asked : ℕ) (buf bytes : List ℕ) (got : Got) → length buf ≡ asked → count_of got ≤ asked
    → take (count_of got) buf ≡ slice_range bytes pos (pos + count_of got) → IsFrom bytes (reading pos asked buf got)
read_right pos asked buf bytes got long few is =
    let count : length (take (count_of got) buf) ≡ count_of got =
    length-take-le (count_of got) buf (omega (arith, few, long)) in
    is ∙ ap (λ (n : ℕ). slice_range bytes pos (pos + n)) (sym count)

-- a read that wasn't whole is all of a look
module _ (r : Reading) (part : is_whole r ≡ false) where
  abbrev unread_look : Look
  unread_look = record { read = r; there = [] }

  unread_seen : Unread ≡ seen_by unread_look
  unread_seen = sym (cond-false (is_whole r) (if differs unread_look then Different else Same) Unread part)

  unread_calls : (at : ℕ) → look_call at unread_look ≡ []
  unread_calls at = cond-false (is_whole r) (image_read at r.asked (Some 0) ∷ []) [] part

  unread_own : (image : List ℕ) (at : ℕ) → unread_look ≡ seen_at image at r
  unread_own image at =
      ap (λ (there : List ℕ). with_there r there)
      (sym (cond-false (is_whole r) (slice_range image at (at + r.asked)) [] part))

pub sees_unread : (pos place asked : ℕ) (buf : List ℕ) (got : Got) (source source' : SourceState) (site : SiteState)
    → length buf ≡ asked → count_of got < asked → Reads (reading pos asked buf got ∷ []) source source'
    → (IsTrue source.tells → take (count_of got) buf ≡ slice_range source.bytes pos (pos + count_of got))
    → (l : Look) × (Unread ≡ seen_by l) × SeesPiece pos asked place l (across source source' site site)
sees_unread pos place asked buf got source source' site long less read right =
    let r : Reading = reading pos asked buf got in
    let part : is_whole r ≡ false = part_read pos asked buf got long less in (
      record { read = r; there = [] },
      unread_seen r part,
      record {
        pos_is = refl;
        size_is = refl;
        read = read;
        right = λ tells. read_right pos asked buf source.bytes got long (omega (arith, less)) (right tells);
        made = record {
          made = λ tells. sym (append-nil site.calls)
              ∙ ap (λ (cs : List Call). site.calls ++ map Done cs) (sym (unread_calls r part place));
          faults = refl;
        };
        own = λ tells. unread_own r part (bytes_of (image_in site)) place;
      },
    )

-- the part of an image that a read gives, as many bytes as there are
image_part : (image : List ℕ) (place n asked : ℕ) → n ≡ min asked (length image - place)
    → slice_range image place (place + n) ≡ slice_range image place (place + asked)
image_part image place n asked is =
    let given : place + n - place ≡ n = omega arith in
    let all : place + asked - place ≡ asked = omega arith in
    let rest : n ≡ min asked (length (drop place image)) = is ∙ ap (min asked) (sym (length-drop place image)) in
    ap (λ (k : ℕ). take k (drop place image)) (given ∙ rest) ∙ take_min asked (drop place image)
    ∙ ap (λ (k : ℕ). take k (drop place image)) (sym all)

-- a whole read, and what the image gave
module _ (r : Reading) (there : List ℕ) (whole : is_whole r ≡ true) where
  abbrev read_look : Look
  read_look = record { read = r; there = there }

  differs_by : (same : Bool) → same ≡ bytes_eq r.given there → differs read_look ≡ not same
  differs_by same is =
      ap (λ (w : Bool). w && not (bytes_eq r.given there)) whole ∙ ap not (sym is)

  read_seen : (b : Bool) (seen : LookResult) → differs read_look ≡ b → seen ≡ (if b then Different else Same)
      → seen ≡ seen_by read_look
  read_seen b seen is are =
      are ∙ ap (λ (x : Bool). if x then Different else Same) (sym is)
      ∙ sym (cond-true (is_whole r) (if differs read_look then Different else Same) Unread whole)

  read_calls : (at : ℕ) → look_call at read_look ≡ image_read at r.asked (Some (length there)) ∷ []
  read_calls at = cond-true (is_whole r) (image_read at r.asked (Some (length there)) ∷ []) [] whole

  read_own : (image : List ℕ) (at : ℕ) → there ≡ slice_range image at (at + r.asked) → read_look ≡ seen_at image at r
  read_own image at is =
      ap (λ (t : List ℕ). with_there r t)
      (is ∙ sym (cond-true (is_whole r) (slice_range image at (at + r.asked)) [] whole))

-- what a look found whose piece was read whole, by whether the image has the same
pub sees_read : (pos place asked n : ℕ) (buf image : List ℕ) (got : Got) (same : Bool) (seen : LookResult)
    (source source' : SourceState) (site site' : SiteState) → length buf ≡ asked → length image ≡ asked
    → count_of got ≡ asked → n ≤ asked → same ≡ bytes_eq buf (take n image)
    → seen ≡ (if not same then Different else Same) → Reads (reading pos asked buf got ∷ []) source source'
    → (IsTrue source.tells → take (count_of got) buf ≡ slice_range source.bytes pos (pos + count_of got))
    → (IsTrue site.tells → site'.calls ≡ site.calls ++ Done (image_read place asked (Some n)) ∷ [])
    → site'.faults ≡ site.faults → (IsTrue site.tells → IsImageRead (image_in site) place image n)
    → (l : Look) × (seen ≡ seen_by l) × SeesPiece pos asked place l (across source source' site site')
sees_read pos place asked n buf image got same seen source source' site site' long wide all few is are read right made
    kept told =
    let r : Reading = reading pos asked buf got in
    let whole : is_whole r ≡ true = whole_read pos asked buf got long all in
    let there : List ℕ = take n image in
    let count : length there ≡ n = length-take-le n image (omega (arith, few, wide)) in
    let given : take (count_of got) buf ≡ buf = take_all (count_of got) buf (omega (arith, all, long)) in
    let same_is : same ≡ bytes_eq (take (count_of got) buf) there =
    is ∙ ap (λ (b : List ℕ). bytes_eq b there) (sym given) in (
      record { read = r; there = there },
      read_seen r there whole (not same) seen (differs_by r there whole same same_is) are,
      record {
        pos_is = refl;
        size_is = refl;
        read = read;
        right = λ tells. read_right pos asked buf source.bytes got long (omega (arith, all)) (right tells);
        made = record {
          made = λ tells. made tells
              ∙ ap (λ (k : ℕ). site.calls ++ Done (image_read place asked (Some k)) ∷ []) (sym count)
              ∙ ap (λ (cs : List Call). site.calls ++ map Done cs) (sym (read_calls r there whole place));
          faults = kept;
        };
        own = λ tells.
            let t = told tells in
            let size : n ≡ min asked (length (bytes_of (image_in site)) - place) =
            t.count ∙ ap (λ (k : ℕ). min k (length (bytes_of (image_in site)) - place)) wide in
            read_own r there whole (bytes_of (image_in site)) place
            (t.bytes ∙ image_part (bytes_of (image_in site)) place n asked size);
      },
    )
