-- A mapfile that is read piece by piece.
use Rattle.std.proofs.Common.{◌≡◌, ◌⊎◌, ℕ, zero, suc, ◌+◌, ◌-◌, ◌<◌, ◌≤◌, List, [], ◌∷◌, ◌++◌, length, take, drop, map, Option, Some, None, refl, sym, ap, ◌∙◌, subst, inl, inr, arith, length-append}
use Rattle.std.specs.List.{sum, All, slice_range}
use Rattle.std.proofs.lemmas.List.{length-take-le, length-take, length-drop, take_all}
use Rattle.std.proofs.lemmas.List.Elements.{All-append}
use Rattle.std.proofs.lemmas.List.Sums.{sum_by-append, sum_by-cons}
use Rattle.std.proofs.Math.Seq.{take-add}
use Rattle.mapfile_text.specs.declared.read.MapError.TheVariants.{TooLong}
use Rattle.mapfile_text.specs.MapText.{text_limit}
use Rattle.crash_site.specs.declared.site.MapRead.{MapRead}
use Rattle.crash_site.specs.declared.site.MapRead.TheVariants.{Bytes, Absent}
use Rattle.crash_site.specs.declared.site.SiteCall.TheVariants.{MapRead as ReadCall}
use Rattle.crash_site.specs.Files.{File, bytes_of}
use Rattle.crash_site.specs.FileAnswers.{IsRead}
use Rattle.crash_site.specs.Calls.{Entry, Done, map_read}
use Rattle.crash_site.specs.CallsMade.{Made, Lost}
use Rattle.crash_site.specs.Folder.{Folder, after}
use Rattle.mapfile_resume.specs.declared.load.ResumeFault.{ResumeFault}
use Rattle.mapfile_resume.specs.declared.load.ResumeFault.TheVariants.{Site, Map as Refused, NoMemory}
use Rattle.mapfile_save.specs.Loading.{piece_size, piece_reads, load_reads, IsReadSize, BeginsLoad, EndsLoad}
use Rattle.mapfile_resume.specs.Resuming.{LoadEnded, BrokeInLoad}
use Rattle.mapfile_resume.specs.Text.{IsTextOf, TextStop}
use Rattle.crash_site.proofs.LawLemmas.{after-append}
use Rattle.mapfile_save.proofs.CallLemmas.{made_more, broke_back}

-- the text is a file's beginning, read in pieces
pub record Pieces (name : List ℕ) (file : Option File) (text : List ℕ) (calls calls' : List Entry) : Type 0 where
  pub given : List ℕ
  pub pieces : All IsReadSize given
  pub counted : sum given ≡ length text
  pub within : length text ≤ length (bytes_of file)
  pub limited : length text ≤ text_limit
  pub front : text ≡ take (length text) (bytes_of file)
  pub made : Made (piece_reads name 0 given) calls calls'

-- one piece more
piece_reads-append : (name : List ℕ) (pos : ℕ) (given : List ℕ) (n : ℕ)
    → piece_reads name pos (given ++ n ∷ []) ≡ piece_reads name pos given ++ map_read name (pos + sum given) piece_size (Some (Bytes n)) ∷ []
piece_reads-append name pos [] n = ap (λ at. map_read name at piece_size (Some (Bytes n)) ∷ []) (omega arith)
piece_reads-append name pos (g ∷ gs) n =
    let at : pos + g + sum gs ≡ pos + sum (g ∷ gs) = omega (arith, sum_by-cons (λ x. x) g gs) in
    ap (λ calls. map_read name pos piece_size (Some (Bytes g)) ∷ calls)
    (piece_reads-append name (pos + g) gs n ∙ ap (λ at. piece_reads name (pos + g) gs ++ map_read name at piece_size (Some (Bytes n)) ∷ []) at)

-- reads of a mapfile leave the folder
pub pieces_stand : (d : Folder) (name : List ℕ) (pos : ℕ) (given : List ℕ) → after d (map Done (piece_reads name pos given)) ≡ d
pieces_stand d name pos [] = refl
pieces_stand d name pos (n ∷ ns) = pieces_stand d name (pos + n) ns

-- what the next read finds
pub read_after : (name text : List ℕ) (start start' : Folder) (calls calls' : List Entry) (pos : ℕ) (buf : List ℕ) (read : MapRead)
    → Pieces name ((after start calls).files name) text calls calls' → start' ≡ start
    → IsRead ((after start' calls').files name) pos buf read → IsRead ((after start calls).files name) pos buf read
read_after name text start start' calls calls' pos buf read p same r =
    let stands : after start' calls' ≡ after start calls
    = ap (λ d. after d calls') same ∙ ap (after start) p.made ∙ after-append start calls (map Done (piece_reads name 0 p.given))
    ∙ pieces_stand (after start calls) name 0 p.given
    in
    subst (λ (d : Folder). IsRead (d.files name) pos buf read) stands r

-- the calls of the pieces, and one read more
made_after : (name : List ℕ) (file : Option File) (text : List ℕ) (calls calls' calls'' : List Entry) (pos asked : ℕ)
    (answer : Option MapRead) (p : Pieces name file text calls calls') → pos ≡ length text → asked ≡ piece_size
    → calls'' ≡ calls' ++ Done (map_read name pos asked answer) ∷ [] → Made (load_reads name p.given answer) calls calls''
made_after name file text calls calls' calls'' pos asked answer p at size done =
    let from : pos ≡ sum p.given = at ∙ sym p.counted in
    made_more calls calls' calls'' (piece_reads name 0 p.given) (map_read name (sum p.given) piece_size answer ∷ []) p.made
    (rw (from, size) at done)

-- the pieces, and one read more, are first reads of the file
abbrev begins : (name : List ℕ) (file : Option File) (text : List ℕ) (calls calls' : List Entry) (answer : Option MapRead)
    (p : Pieces name file text calls calls') → BeginsLoad name file (load_reads name p.given answer)
begins name file text calls calls' answer p = record {
  given = p.given;
  answer = answer;
  pieces = p.pieces;
  within = omega (arith, p.counted, p.within);
  limited = omega (arith, p.counted, p.limited);
  calls_are = refl;
}

-- a read that ends the load
load_ended : (name : List ℕ) (file : Option File) (text : List ℕ) (calls calls' calls'' : List Entry) (pos asked : ℕ) (answer : Option MapRead)
    → (p : Pieces name file text calls calls') → pos ≡ length text → asked ≡ piece_size
    → calls'' ≡ calls' ++ Done (map_read name pos asked answer) ∷ [] → EndsLoad file (sum p.given) answer → LoadEnded [] name file calls calls''
load_ended name file text calls calls' calls'' pos asked answer p at size done ends = (
  load_reads name p.given answer,
  record { begins = begins name file text calls calls' answer p; ends = ends },
  made_after name file text calls calls' calls'' pos asked answer p at size done,
)

-- a read finds no file where none is
pub no_file : (file : Option File) (pos : ℕ) (buf : List ℕ) → IsRead file pos buf Absent → file ≡ None
no_file None pos buf r = refl
no_file (Some f) pos buf r = absurd r

-- a load that finds no file has ended
pub loaded_none : (name : List ℕ) (file : Option File) (text : List ℕ) (calls calls' calls'' : List Entry) (pos asked : ℕ) (buf : List ℕ)
    → Pieces name file text calls calls' → pos ≡ length text → asked ≡ piece_size
    → calls'' ≡ calls' ++ Done (map_read name pos asked (Some Absent)) ∷ [] → IsRead file pos buf Absent → LoadEnded [] name file calls calls''
loaded_none name None text calls calls' calls'' pos asked buf p at size done r =
    load_ended name None text calls calls' calls'' pos asked (Some Absent) p at size done refl
loaded_none name (Some f) text calls calls' calls'' pos asked buf p at size done r = absurd r

-- so has one that comes to the file's end
pub loaded_all : (name : List ℕ) (file : Option File) (text : List ℕ) (calls calls' calls'' : List Entry) (pos asked : ℕ) (buf : List ℕ) (n : ℕ)
    → Pieces name file text calls calls' → pos ≡ length text → asked ≡ piece_size
    → calls'' ≡ calls' ++ Done (map_read name pos asked (Some (Bytes n))) ∷ [] → IsRead file pos buf (Bytes n) → n ≡ 0
    → LoadEnded [] name file calls calls''
loaded_all name None text calls calls' calls'' pos asked buf n p at size done r nothing = absurd r
loaded_all name (Some f) text calls calls' calls'' pos asked buf n p at size done r nothing =
    load_ended name (Some f) text calls calls' calls'' pos asked (Some (Bytes n)) p at size done
    (inl (nothing, omega (arith, r.1 nothing, p.counted, p.within)))

-- the text at the file's end
pub all_text : (name : List ℕ) (file : Option File) (text : List ℕ) (calls calls' : List Entry) (pos : ℕ) (buf : List ℕ) (n : ℕ)
    → Pieces name file text calls calls' → pos ≡ length text → IsRead file pos buf (Bytes n) → n ≡ 0 → IsTextOf file text
all_text name None text calls calls' pos buf n p at r nothing = absurd r
all_text name (Some f) text calls calls' pos buf n p at r nothing = record {
  there = f;
  is = refl;
  bytes = sym (p.front ∙ take_all (length text) f.bytes (omega (arith, r.1 nothing)));
  within = p.limited;
}

-- one piece by itself
one_piece : (n : ℕ) → 0 < n → n ≤ piece_size → All IsReadSize (n ∷ [])
one_piece n some few zero d h = (some, few)
one_piece n some few (suc k) d h = absurd (omega arith)

-- the bytes that a read gave stand in the file
piece_within : (bytes : List ℕ) (pos n : ℕ) (buf : List ℕ) → 0 < n → n ≤ length buf → take n buf ≡ slice_range bytes pos (pos + n)
    → pos + n ≤ length bytes
piece_within bytes pos n buf some few same =
    omega (arith, ap length same, length-take-le n buf few, length-take (pos + n - pos) (drop pos bytes), length-drop pos bytes)

-- the pieces, and the one that a read gave
pub more_pieces : (name : List ℕ) (file : Option File) (text text' : List ℕ) (calls calls' calls'' : List Entry) (pos asked : ℕ) (buf : List ℕ) (n : ℕ)
    → Pieces name file text calls calls' → pos ≡ length text → asked ≡ piece_size
    → calls'' ≡ calls' ++ Done (map_read name pos asked (Some (Bytes n))) ∷ [] → IsRead file pos buf (Bytes n)
    → 0 < n → n ≤ asked → n ≤ length buf → text' ≡ text ++ take n buf → length text' ≤ text_limit → Pieces name file text' calls calls''
more_pieces name None text text' calls calls' calls'' pos asked buf n p at size done r some few fits added short = absurd r
more_pieces name (Some f) text text' calls calls' calls'' pos asked buf n p at size done r some few fits added short =
    let in_file : pos + n ≤ length f.bytes = piece_within f.bytes pos n buf some fits r.0 in
    let long : length text' ≡ length text + n
    = ap length added ∙ length-append text (take n buf) ∙ ap (λ k. length text + k) (length-take-le n buf fits)
    in
    let n_is : pos + n - pos ≡ n = omega arith in
    let piece : take n buf ≡ take n (drop (length text) f.bytes) = r.0 ∙ rw (n_is, at) refl in
    let all : 0 + sum p.given ≡ sum p.given = omega arith in
    let more : piece_reads name 0 (p.given ++ n ∷ []) ≡ load_reads name p.given (Some (Bytes n))
    = piece_reads-append name 0 p.given n ∙ ap (λ at. piece_reads name 0 p.given ++ map_read name at piece_size (Some (Bytes n)) ∷ []) all
    in
    record {
      given = p.given ++ n ∷ [];
      pieces = All-append IsReadSize p.given (n ∷ []) p.pieces (one_piece n some (rw (← size) few));
      counted = omega (arith, sum_by-append (λ x. x) p.given (n ∷ []), p.counted, long);
      within = omega arith;
      limited = short;
      front = added ∙ ap (λ t. t ++ take n buf) p.front ∙ ap (λ t. take (length text) f.bytes ++ t) piece
          ∙ sym (ap (λ k. take k f.bytes) long ∙ take-add (length text) n f.bytes);
      made = subst (λ reads. Made reads calls calls'') (sym more)
          (made_after name (Some f) text calls calls' calls'' pos asked (Some (Bytes n)) p at size done);
    }

-- a read that failed
pub broken : (name : List ℕ) (file : Option File) (text : List ℕ) (calls calls' calls'' : List Entry) (pos asked : ℕ)
    → Pieces name file text calls calls' → pos ≡ length text → asked ≡ piece_size
    → Lost (map_read name pos asked None) calls' calls'' → TextStop name file (Site ReadCall) calls calls''
broken name file text calls calls' calls'' pos asked p at size lost =
    let from : pos ≡ sum p.given = at ∙ sym p.counted in
    let lost_there : Lost (map_read name (sum p.given) piece_size None) calls' calls'' = rw (from, size) at lost in
    let load : BrokeInLoad [] name file calls calls'' = (
      load_reads name p.given None,
      begins name file text calls calls' None p,
      broke_back ReadCall (piece_reads name 0 p.given) (map_read name (sum p.given) piece_size None ∷ []) calls calls' calls'' p.made (inl (refl, lost_there)),
    ) in
    (refl, load)

-- the stops of a piece that didn't fit, for lack of memory or since it makes the text too long
pub stopped : (name : List ℕ) (file : Option File) (text : List ℕ) (calls calls' calls'' : List Entry) (pos asked : ℕ) (buf : List ℕ) (n : ℕ) (e : ResumeFault)
    → Pieces name file text calls calls' → pos ≡ length text → asked ≡ piece_size
    → calls'' ≡ calls' ++ Done (map_read name pos asked (Some (Bytes n))) ∷ [] → IsRead file pos buf (Bytes n)
    → 0 < n → n ≤ asked → n ≤ length buf
    → (e ≡ NoMemory) ⊎ ((e ≡ Refused TooLong) × (text_limit < length text + n)) → TextStop name file e calls calls''
stopped name None text calls calls' calls'' pos asked buf n e p at size done r some few fits why = absurd r
stopped name (Some f) text calls calls' calls'' pos asked buf n e p at size done r some few fits why =
    let made = made_after name (Some f) text calls calls' calls'' pos asked (Some (Bytes n)) p at size done in
    elim why [
      | inl x ↦ subst (λ e'. TextStop name (Some f) e' calls calls'') (sym x)
          (load_reads name p.given (Some (Bytes n)), begins name (Some f) text calls calls' (Some (Bytes n)) p, made)
      | inr x ↦
          let here : pos + n ≤ length f.bytes = piece_within f.bytes pos n buf some fits r.0 in
          let long : text_limit < length f.bytes = omega (arith, x.1, here) in
          subst (λ e'. TextStop name (Some f) e' calls calls'') (sym x.0) (
            refl,
            record { there = f; is = refl; long = long },
            load_ended name (Some f) text calls calls' calls'' pos asked (Some (Bytes n)) p at size done
                (inr ((some, omega arith), omega (arith, x.1, p.counted), omega (arith, here, p.counted))),
          )
    ]
