-- How looks follow each other.
use Rattle.std.proofs.Common.{◌≡◌, ℕ, ◌+◌, ◌-◌, ◌^◌, ◌<◌, ◌≤◌, Bool, true, false, not, if◌then◌else◌, IsTrue, List, [], ◌∷◌, ◌++◌, ◌&&◌, map, length, All, Option, Some, None, Err, refl, sym, ap, ◌∙◌, subst, arith, append-nil, append_assoc, inl, inr}
use Rattle.std.specs.Str.{bytes_eq}
use Rattle.std.proofs.lemmas.List.{map-append, map_push}
use Rattle.std.proofs.lemmas.List.Elements.{All-append, All-cons, All-nil}
use Rattle.std.proofs.lemmas.List.Sums.{sum_by_push}
use Rattle.fault_count.specs.Counts.{raised}
use Rattle.block_list.specs.declared.status.Status.{Status}
use Rattle.block_list.specs.declared.status.Status.TheVariants.{NonTried}
use Rattle.block_list.specs.Map.{marked}
use Rattle.block_list.specs.Places.{IsRangeUp}
use Rattle.block_list.proofs.Places.{length-marked}
use Rattle.faulty_source.specs.Journal.{Reading, is_whole, IsFrom}
use Rattle.rescue_domain.specs.Domain.{IsIn}
use Rattle.faulty_source.specs.SourceState.{SourceState}
use Rattle.faulty_source.specs.SourceChanges.{Keeps as SourceKeeps, Stays as SourceStays}
use Rattle.crash_site.specs.declared.site.SiteCall.{SiteCall}
use Rattle.crash_site.specs.Calls.{Call, Entry, Done, Failed, image_read}
use Rattle.crash_site.specs.CallsMade.{Lost, BrokeAt}
use Rattle.crash_site.specs.Files.{File, bytes_of, file_named}
use Rattle.crash_site.specs.Folder.{Folder, after}
use Rattle.crash_site.proofs.LawLemmas.{after-append}
use Rattle.crash_site.specs.SiteState.{SiteState, image_in}
use Rattle.crash_site.specs.SiteChanges.{Stays as SiteStays}
use Rattle.rescue_verify.specs.declared.halt.Halt.{Halt}
use Rattle.rescue_verify.specs.declared.halt.Halt.TheVariants.{NoMemory, SourceLost, ImageFault}
use Rattle.rescue_verify.specs.declared.piece.Piece.{Piece}
use Rattle.rescue_verify.specs.declared.tally.Tally.{Tally}
use Rattle.rescue_verify.specs.Across.{across}
use Rattle.rescue_verify.specs.Pieces.{IsPiece, AskForPieces, end_of_reads}
use Rattle.rescue_verify.proofs.PieceLemmas.{asks_push}
use Rattle.rescue_verify.specs.Looks.{Look, reads_of, differs, seen_at, seen_in, look_call, look_calls}
use Rattle.rescue_verify.specs.Looking.{HaltsLooking, SeesPiece}
use Rattle.rescue_verify.specs.Verified.{judged, judged_by}
use Rattle.rescue_verify.specs.Comparing.{CanTake, Comparison, IsNext, IsSound, IsTallyUpTo, LossesRise, place_in, tally_of, tally_with, TakesPiece, HaltsAt, HasLooked, Compares}

-- ---- one more look

judged_push : (map : List Status) (looks : List Look) (l : Look) → judged_by map (looks ++ l ∷ []) ≡ judged (judged_by map looks) l
judged_push map [] l = refl
judged_push map (k ∷ looks) l = judged_push (judged map k) looks l

end_push : (from : ℕ) (reads : List Reading) (r : Reading) → end_of_reads from (reads ++ r ∷ []) ≡ r.pos + r.asked
end_push from [] r = refl
end_push from (q ∷ reads) r = end_push (q.pos + q.asked) reads r

calls_push : (place : ℕ → ℕ) (looks : List Look) (l : Look)
    → look_calls place (looks ++ l ∷ []) ≡ look_calls place looks ++ look_call (place l.read.pos) l
calls_push place [] l = append-nil (look_call (place l.read.pos) l)
calls_push place (k ∷ looks) l =
    ap (λ (cs : List Call). look_call (place k.read.pos) k ++ cs) (calls_push place looks l)
    ∙ sym (append_assoc (look_call (place k.read.pos) k) (look_calls place looks) (look_call (place l.read.pos) l))

reads_push : (looks : List Look) (l : Look) → reads_of (looks ++ l ∷ []) ≡ reads_of looks ++ l.read ∷ []
reads_push looks l = map_push (λ (k : Look). k.read) looks l

tally_push : (looks : List Look) (l : Look) → tally_of (looks ++ l ∷ []) ≡ tally_with (tally_of looks) l
tally_push looks l =
    let compared = sum_by_push (λ (k : Look). if is_whole k.read then k.read.asked else 0) looks l in
    let differing = sum_by_push (λ (k : Look). if differs k then k.read.asked else 0) looks l in
    let unread = sum_by_push (λ (k : Look). if not (is_whole k.read) then k.read.asked else 0) looks l in
    cc (compared, differing, unread)

-- ---- looks so far

-- looks at the first pieces, up to a position: what they count, and what they make of a map
pub record UpTo (p : Comparison) (from : ℕ) (tally : Tally) (old new : List Status) (source source' : SourceState)
    (site site' : SiteState) : Type 0 where
  pub looks : List Look
  pub looked : HasLooked p looks source source' site site'
  pub ends : end_of_reads 0 (reads_of looks) ≡ from
  pub counts : tally ≡ tally_of looks
  pub map_is : new ≡ judged_by old looks

pub none_yet : (p : Comparison) (map : List Status) (source : SourceState) (site : SiteState)
    → UpTo p 0 (record { compared = 0; differing = 0; unread = 0 }) map map source source site site
none_yet p map source site = record {
  looks = [];
  looked = record {
    asks = tt;
    journal = λ tells. sym (append-nil source.journal);
    right = λ tells. All-nil (IsFrom source.bytes);
    record_ = λ tells. sym (append-nil site.calls);
    seen = λ tells. refl;
  };
  ends = refl;
  counts = refl;
  map_is = refl;
}

-- reads gave the input's own bytes, and so did further ones
right_more : (source s1 : SourceState) (xs ys : List Reading) → SourceKeeps source s1 → IsTrue source.tells
    → All (IsFrom source.bytes) xs → (IsTrue s1.tells → All (IsFrom s1.bytes) ys) → All (IsFrom source.bytes) (xs ++ ys)
right_more source s1 xs ys keeps tells first more =
    All-append (IsFrom source.bytes) xs ys first
    (subst (λ (b : List ℕ). All (IsFrom b) ys) (keeps.bytes tells) (more (rw keeps.tells tells)))

-- an image that no call changed reads as it did
pub record SameImage (site site' : SiteState) : Type 0 where
  pub tells : site'.tells ≡ site.tells
  pub image : IsTrue site.tells → image_in site' ≡ image_in site

pub one_more : (p : Comparison) (from pos size : ℕ) (tally : Tally) (old new : List Status) (l : Look)
    (source s1 s2 : SourceState) (site d1 d2 : SiteState) → UpTo p from tally old new source s1 site d1
    → SourceKeeps source s1 → SameImage site d1
    → IsPiece p.compared p.sector from pos (pos + size) → SeesPiece pos size (place_in p pos) l (across s1 s2 d1 d2)
    → UpTo p (pos + size) (tally_with tally l) old (judged new l) source s2 site d2
one_more p from pos size tally old new l source s1 s2 site d1 d2 u keeps image piece sees =
    let looks : List Look = u.looks in
    let at : place_in p l.read.pos ≡ place_in p pos = ap (place_in p) sees.pos_is in
    let place : ℕ → ℕ = place_in p in
    record {
      looks = looks ++ l ∷ [];
      looked = record {
        asks = subst (AskForPieces p.compared p.sector 0) (sym (reads_push looks l))
            (asks_push p.compared p.sector 0 (reads_of looks) l.read u.looked.asks
            (rw (u.ends, sees.pos_is, sees.size_is) piece));
        journal = λ tells.
            sees.read.told (rw keeps.tells tells) ∙ ap (λ (j : List Reading). j ++ l.read ∷ []) (u.looked.journal tells)
            ∙ append_assoc source.journal (reads_of looks) (l.read ∷ [])
            ∙ ap (λ (j : List Reading). source.journal ++ j) (sym (reads_push looks l));
        right = λ tells.
            subst (All (IsFrom source.bytes)) (sym (reads_push looks l))
            (right_more source s1 (reads_of looks) (l.read ∷ []) keeps tells (u.looked.right tells)
            (λ t. All-cons (IsFrom s1.bytes) l.read [] (sees.right t) (All-nil (IsFrom s1.bytes))));
        record_ = λ tells.
            sees.made.made (rw image.tells tells)
            ∙ ap (λ (c : List Entry). c ++ map Done (look_call (place pos) l)) (u.looked.record_ tells)
            ∙ append_assoc site.calls (map Done (look_calls place looks)) (map Done (look_call (place pos) l))
            ∙ ap (λ (c : List Entry). site.calls ++ c)
            (sym (map-append Done (look_calls place looks) (look_call (place pos) l))
            ∙ ap (λ (cs : List Call). map Done cs)
            (ap (λ (n : ℕ). look_calls place looks ++ look_call n l) (sym at) ∙ sym (calls_push place looks l)));
        seen = λ tells.
            let own : l ≡ seen_in (bytes_of (image_in site)) place l.read =
            sees.own (rw image.tells tells)
            ∙ ap (λ (f : Option File). seen_at (bytes_of f) (place pos) l.read) (image.image tells)
            ∙ ap (λ (n : ℕ). seen_at (bytes_of (image_in site)) n l.read) (sym at) in
            ap (λ (ks : List Look). ks ++ l ∷ []) (u.looked.seen tells)
            ∙ ap (λ (k : Look). map (seen_in (bytes_of (image_in site)) place) (reads_of looks) ++ k ∷ []) own
            ∙ sym (map_push (seen_in (bytes_of (image_in site)) place) (reads_of looks) l.read)
            ∙ ap (map (seen_in (bytes_of (image_in site)) place)) (sym (reads_push looks l));
      };
      ends = ap (end_of_reads 0) (reads_push looks l) ∙ end_push 0 (reads_of looks) l.read
          ∙ ap (λ (n : ℕ). n + l.read.asked) sees.pos_is ∙ ap (λ (n : ℕ). pos + n) sees.size_is;
      counts = ap (λ (t : Tally). tally_with t l) u.counts ∙ sym (tally_push looks l);
      map_is = ap (λ (m : List Status). judged m l) u.map_is ∙ sym (judged_push old looks l);
    }

-- ---- what stays

call_stands : (b : Bool) (at n k : ℕ) (d : Folder)
    → after d (map Done (if b then image_read at n (Some k) ∷ [] else [])) ≡ d
call_stands true at n k d = refl
call_stands false at n k d = refl

-- looks change nothing of what files read as
pub looks_stand : (place : ℕ → ℕ) (looks : List Look) (d : Folder) → after d (map Done (look_calls place looks)) ≡ d
looks_stand place [] d = refl
looks_stand place (l ∷ looks) d =
    let first : List Call = look_call (place l.read.pos) l in
    ap (after d) (map-append Done first (look_calls place looks))
    ∙ after-append d (map Done first) (map Done (look_calls place looks))
    ∙ ap (λ (f : Folder). after f (map Done (look_calls place looks)))
    (call_stands (is_whole l.read) (place l.read.pos) l.read.asked (length l.there) d)
    ∙ looks_stand place looks d

pub same_image : (p : Comparison) (from : ℕ) (tally : Tally) (old new : List Status) (source source' : SourceState)
    (site site' : SiteState) → UpTo p from tally old new source source' site site' → SiteStays site site'
    → SameImage site site'
same_image p from tally old new source source' site site' u stays = record {
  tells = stays.keeps.tells;
  image = λ tells.
      let calls : after site.start site'.calls ≡ after site.start site.calls =
      ap (after site.start) (u.looked.record_ tells)
      ∙ after-append site.start site.calls (map Done (look_calls (place_in p) u.looks))
      ∙ looks_stand (place_in p) u.looks (after site.start site.calls) in
      let folder : after site'.start site'.calls ≡ after site.start site.calls =
      ap (λ (f : Folder). after f site'.calls) (stays.keeps.start tells) ∙ calls in
      ap (λ (f : Folder). file_named f.image f.files) folder;
}

-- a piece that was taken is one more look
pub takes_one : (p : Comparison) (from : ℕ) (piece : Piece) (tally tally' : Tally) (old new new' : List Status)
    (source s1 s2 : SourceState) (site d1 d2 : SiteState) → UpTo p from tally old new source s1 site d1
    → SourceStays source s1 → SiteStays site d1 → IsNext p from piece
    → TakesPiece piece tally tally' new new' (across s1 s2 d1 d2)
    → UpTo p piece.to tally' old new' source s2 site d2
takes_one p from piece tally tally' old new new' source s1 s2 site d1 d2 u stays site_stays next takes =
    let size : ℕ = piece.to - piece.from in
    let end : piece.from + (piece.to - piece.from) ≡ piece.to = omega (arith, next.some) in
    let own : IsPiece p.compared p.sector from piece.from (piece.from + size) =
    subst (IsPiece p.compared p.sector from piece.from) (sym end) next.is_piece in
    let sees : SeesPiece piece.from size (place_in p piece.from) takes.look (across s1 s2 d1 d2) =
    subst (λ (place : ℕ). SeesPiece piece.from size place takes.look (across s1 s2 d1 d2)) next.place_is takes.sees in
    let more : UpTo p (piece.from + size) (tally_with tally takes.look) old (judged new takes.look) source s2 site d2 =
    one_more p from piece.from size tally old new takes.look source s1 s2 site d1 d2 u stays.keeps
    (same_image p from tally old new source s1 site d1 u site_stays) own sees in
    rw (takes.counts, takes.map_is) (subst (λ (n : ℕ). UpTo p n (tally_with tally takes.look) old (judged new takes.look)
    source s2 site d2) end more)

length_judged_by : (b : Bool) (map : List Status) (pos size : ℕ) → pos + size ≤ length map
    → length (if b then marked map pos size NonTried else map) ≡ length map
length_judged_by true map pos size h = length-marked map pos size NonTried h
length_judged_by false map pos size h = refl

-- a map keeps its length, and the counts stay below the positions that were looked at
pub record Grows (to : ℕ) (tally : Tally) (old new : List Status) : Type 0 where
  pub long : length new ≡ length old
  pub counted : IsTallyUpTo to tally

sums_by : (whole same : Bool) (pos n to c d u : ℕ) → pos + n ≡ to → c + u ≤ pos → d ≤ c
    → ((c + (if whole then n else 0)) + (u + (if not whole then n else 0)) ≤ to)
    × (d + (if (whole && not same) then n else 0) ≤ c + (if whole then n else 0))
sums_by true true pos n to c d u e h k = (omega arith, omega arith)
sums_by true false pos n to c d u e h k = (omega arith, omega arith)
sums_by false true pos n to c d u e h k = (omega arith, omega arith)
sums_by false false pos n to c d u e h k = (omega arith, omega arith)

pub takes_grow : (piece : Piece) (tally tally' : Tally) (old new : List Status) (source source' : SourceState)
    (site site' : SiteState) → TakesPiece piece tally tally' old new (across source source' site site') → CanTake piece old
    → IsTallyUpTo piece.from tally → Grows piece.to tally' old new
takes_grow piece tally tally' old new source source' site site' takes can counted =
    let l : Look = takes.look in
    let size : l.read.asked ≡ piece.to - piece.from = takes.sees.size_is in
    let start : l.read.pos ≡ piece.from = takes.sees.pos_is in
    let ends : piece.from + l.read.asked ≡ piece.to = omega (arith, size, can.looks.some) in
    let sums = sums_by (is_whole l.read) (bytes_eq l.read.given l.there) piece.from l.read.asked piece.to
    tally.compared tally.differing tally.unread ends counted.counts counted.part in
    record {
      long = ap length takes.map_is
          ∙ length_judged_by (differs l) old l.read.pos l.read.asked (omega (arith, start, ends, can.within));
      counted = record { counts = rw takes.counts sums.0; part = rw takes.counts sums.1 };
    }

-- ---- a piece

-- its last position is compared
pub piece_holds : (compared : ℕ → Bool) (sector from pos end : ℕ) → pos < end → IsPiece compared sector from pos end
    → IsIn compared (end - 1)
piece_holds compared sector from pos end some piece =
    piece.range.within (end - 1) (omega (arith, some)) (omega (arith, some, piece.ends))

-- it is as long as what is between its ends
pub long_piece : (compared : ℕ → Bool) (sector from pos end : ℕ) → pos < end → IsPiece compared sector from pos end
    → IsPiece compared sector from pos (pos + (end - pos))
long_piece compared sector from pos end some piece =
    let same : end ≡ pos + (end - pos) = omega (arith, some) in
    subst (IsPiece compared sector from pos) same piece

-- what is compared ends below 2^63
pub ends_short : (p : Comparison) (from end : ℕ) → IsSound p → IsRangeUp (IsIn p.compared) from end → end < 2 ^ 63
ends_short p from end sound run =
    let begun : from < end = run.begun in
    let last : end - 1 + 1 < 2 ^ 63 =
    sound.short (end - 1) (run.within (end - 1) (omega (arith, begun)) (omega (arith, begun))) in
    omega (arith, begun, last)

-- the next piece of a sound comparison can be taken
pub can_take : (p : Comparison) (from : ℕ) (piece : Piece) (old now : List Status) → IsSound p
    → ((x : ℕ) → IsIn p.compared x → x < length old) → length now ≡ length old → IsNext p from piece
    → CanTake piece now
can_take p from piece old now sound within long next =
    let held : IsIn p.compared (piece.to - 1) =
    piece_holds p.compared p.sector from piece.from piece.to next.some next.is_piece in
    let some : piece.from < piece.to = next.some in
    let last : piece.to - 1 < length old = within (piece.to - 1) held in
    let end : piece.to - 1 + 1 < 2 ^ 63 = sound.short (piece.to - 1) held in
    let placed : place_in p (piece.to - 1) < 2 ^ 63 - 1 = sound.placed (piece.to - 1) held in
    let past : p.from ≤ piece.from = sound.past piece.from next.is_piece.first.holds in
    record {
      looks = record {
        some = some;
        short = omega (arith, some, end);
        placed = omega (arith, some, placed, past, next.place_is);
      };
      within = omega (arith, some, last, long);
    }

-- ---- the end

-- what a look that halted read and called
record Halted (halt : Halt) (p : Comparison) (from : ℕ) (source source' : SourceState) (site site' : SiteState) : Type 0 where
  reads : List Reading
  calls : List Entry
  halts : HaltsAt halt p from reads calls
  journal : IsTrue source.tells → source'.journal ≡ source.journal ++ reads
  right : IsTrue source.tells → All (IsFrom source.bytes) reads
  record_ : IsTrue site.tells → site'.calls ≡ site.calls ++ calls

lost_gains : (call : Call) (old new : List Entry) → Lost call old new → (calls : List Entry) × Lost call [] calls × (new ≡ old ++ calls)
lost_gains call old new (inl grew) = (Failed call grew.0 ∷ [], inl (grew.0, refl), grew.1)
lost_gains call old new (inr same) = ([], inr refl, same ∙ sym (append-nil old))

broken_read : (at : SiteCall) (call : Call) (old new : List Entry) → BrokeAt at (call ∷ []) old new → Lost call old new
broken_read at call old new (inl b) = b.1
broken_read at call old new (inr b) = absurd b

halted_by_tells : (b : Bool) (X : Type 0) → (IsTrue b → X) → ((IsTrue b → ⊥) → X) → X
halted_by_tells true X told untold = told refl
halted_by_tells false X told untold = untold (λ t. absurd (cc))

halted_looking : (halt : Halt) (p : Comparison) (from pos size : ℕ) (source source' : SourceState) (site site' : SiteState)
    → IsPiece p.compared p.sector from pos (pos + size)
    → HaltsLooking halt pos size (place_in p pos) (across source source' site site') → Halted halt p from source source' site site'
halted_looking NoMemory p from pos size source source' site site' piece h = record {
  reads = [];
  calls = [];
  halts = (refl, refl);
  journal = λ tells. ap (λ (s : SourceState). s.journal) h.0 ∙ sym (append-nil source.journal);
  right = λ tells. All-nil (IsFrom source.bytes);
  record_ = λ tells. ap (λ (d : SiteState). d.calls) h.1 ∙ sym (append-nil site.calls);
}
halted_looking SourceLost p from pos size source source' site site' piece h = record {
  reads = [];
  calls = [];
  halts = (pos, pos + size, piece, refl, refl);
  journal = λ tells. h.0.untold tells ∙ sym (append-nil source.journal);
  right = λ tells. All-nil (IsFrom source.bytes);
  record_ = λ tells. ap (λ (d : SiteState). d.calls) h.1 ∙ sym (append-nil site.calls);
}
halted_looking ImageFault p from pos size source source' site site' piece h =
    let r : Reading = h.0 in
    let own : IsPiece p.compared p.sector from r.pos (r.pos + r.asked) = rw (h.1, h.2) piece in
    let lost : List Entry → Type 0 = λ calls. Lost (image_read (place_in p r.pos) r.asked None) [] calls in
    let call : image_read (place_in p pos) size None ≡ image_read (place_in p r.pos) r.asked None =
    ap (λ (x : ℕ). image_read (place_in p x) size None) (sym h.1)
    ∙ ap (λ (n : ℕ). image_read (place_in p r.pos) n None) (sym h.2) in
    let one_right : IsTrue source.tells → All (IsFrom source.bytes) (r ∷ []) =
    λ tells. All-cons (IsFrom source.bytes) r [] (h.6 tells) (All-nil (IsFrom source.bytes)) in
    halted_by_tells site.tells (Halted ImageFault p from source source' site site')
    (λ t.
    let l = lost_gains (image_read (place_in p pos) size None) site.calls site'.calls
    (broken_read _ (image_read (place_in p pos) size None) site.calls site'.calls (h.5.broke t)) in
    record {
      reads = r ∷ [];
      calls = l.0;
      halts = (r, own, h.3, refl, subst (λ (c : Call). Lost c [] l.0) call l.1);
      journal = h.4.told;
      right = one_right;
      record_ = λ tells. l.2;
    })
    (λ n. record {
      reads = r ∷ [];
      calls = [];
      halts = (r, own, h.3, refl, inr refl);
      journal = h.4.told;
      right = one_right;
      record_ = λ tells. absurd (n tells);
    })

pub came_to_halt : (halt : Halt) (p : Comparison) (from : ℕ) (piece : Piece) (tally : Tally)
    (old new now : List Status) (source s1 s2 : SourceState) (site d1 d2 : SiteState)
    → UpTo p from tally old new source s1 site d1 → SourceKeeps source s1 → d1.tells ≡ site.tells → IsNext p from piece
    → HaltsLooking halt piece.from (piece.to - piece.from) piece.place (across s1 s2 d1 d2)
    → Compares p old now (Err halt) (across source s2 site d2)
came_to_halt halt p from piece tally old new now source s1 s2 site d1 d2 u keeps tells next h =
    let size : ℕ = piece.to - piece.from in
    let halted : Halted halt p from s1 s2 d1 d2 =
    halted_looking halt p from piece.from size s1 s2 d1 d2
    (long_piece p.compared p.sector from piece.from piece.to next.some next.is_piece)
    (subst (λ (place : ℕ). HaltsLooking halt piece.from size place (across s1 s2 d1 d2)) next.place_is h) in
    record {
      looks = u.looks;
      reads = halted.reads;
      calls = halted.calls;
      asks = u.looked.asks;
      ends = subst (λ (n : ℕ). HaltsAt halt p n halted.reads halted.calls) (sym u.ends) halted.halts;
      journal = λ t.
          halted.journal (rw keeps.tells t) ∙ ap (λ (j : List Reading). j ++ halted.reads) (u.looked.journal t)
          ∙ append_assoc source.journal (reads_of u.looks) halted.reads;
      right = λ t. right_more source s1 (reads_of u.looks) halted.reads keeps t (u.looked.right t) halted.right;
      record_ = λ t.
          halted.record_ (rw tells t) ∙ ap (λ (c : List Entry). c ++ halted.calls) (u.looked.record_ t)
          ∙ append_assoc site.calls (map Done (look_calls (place_in p) u.looks)) halted.calls;
      seen = u.looked.seen;
    }

-- memory ran out before the first piece
pub nothing_compared : (p : Comparison) (map : List Status) (source : SourceState) (site : SiteState)
    → Compares p map map (Err NoMemory) (across source source site site)
nothing_compared p map source site = record {
  looks = [];
  reads = [];
  calls = [];
  asks = tt;
  ends = (refl, refl);
  journal = λ tells. sym (append-nil source.journal);
  right = λ tells. All-nil (IsFrom source.bytes);
  record_ = λ tells. sym (append-nil site.calls);
  seen = λ tells. refl;
}

-- what is counted of a look that halted, after looks that counted nothing
pub halted_counts : (halt : Halt) (pos size place : ℕ) (s0 s s' : SourceState) (d0 d d' : SiteState)
    → s.losses ≡ s0.losses → d.faults ≡ d0.faults → HaltsLooking halt pos size place (across s s' d d')
    → LossesRise (Err halt) s0 s' d0 d'
halted_counts NoMemory pos size place s0 s s' d0 d d' losses faults h =
    (ap (λ (x : SourceState). x.losses) h.0 ∙ losses, ap (λ (x : SiteState). x.faults) h.1 ∙ faults)
halted_counts SourceLost pos size place s0 s s' d0 d d' losses faults h =
    (h.0.rose ∙ ap raised losses, ap (λ (x : SiteState). x.faults) h.1 ∙ faults)
halted_counts ImageFault pos size place s0 s s' d0 d d' losses faults h =
    (h.4.losses ∙ losses, h.5.rose ∙ ap raised faults)
