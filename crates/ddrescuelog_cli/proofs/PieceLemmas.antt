-- Texts that are put in pieces.
use Rattle.std.proofs.Common.{◌≡◌, ◌≢◌, ℕ, ◌<◌, ◌≤◌, Bool, true, false, List, [], ◌∷◌, ◌++◌, length, take, drop, Result, Ok, Err, is_ok, inl, inr, refl, sym, ap, ◌∙◌, subst, arith, append-nil, length-append, length-take}
use Rattle.std.specs.List.{All, concat}
use Rattle.std.proofs.lemmas.List.{map-append}
use Rattle.std.proofs.lemmas.List.Elements.{All-append, All-cons, All-head, All-nil}
use Rattle.std.proofs.lemmas.List.Folds.{concat-append}
use Rattle.mapfile_text.specs.Pieces.{pieces_of, AreTakenOff}
use Rattle.mapfile_text.proofs.PieceLemmas.{in_pieces, pieces_are_taken}
use Rattle.program_promise.specs.Kinds.{AtPut, Kind, Asked, Failed}
use Rattle.program_promise.specs.Printing.{PutsByKind}
use Rattle.rescue_console.specs.declared.console.Channel.TheVariants.{Out}
use Rattle.rescue_console.specs.ConsoleState.{Answers, ConsoleState, Puts, PutsPart}
use Rattle.rescue_console.specs.Speaking.{SpeaksOn, SpokenPiece, out_pieces}
use Rattle.rescue_console.proofs.PutLemmas.{puts_none, puts_both, puts_then_part, part_of_longer}
use Rattle.rescue_console.proofs.SpeakingLemmas.{speeches_join}
use Rattle.ddrescuelog_words.specs.declared.mode.LogMode.{LogMode}
use Rattle.ddrescuelog_words.specs.declared.mode.LogMode.TheVariants.{ListBlocks, Summarize}
use Rattle.ddrescuelog_cli.specs.declared.ending.LogEnding.{LogEnding}
use Rattle.ddrescuelog_cli.specs.Answers.{row_of}
use Rattle.ddrescuelog_cli.specs.Modes.{prints, puts_pieces}
use Rattle.ddrescuelog_cli.specs.Printing.{IsPiece, PutsAs, PutsInPieces, PutsPieces}
use Rattle.ddrescuelog_cli.specs.Steps.{printed_as}

-- ---- one put

pub no_pieces : (s : ConsoleState) → PutsPieces [] true s s
no_pieces s = record { pieces = []; together = refl; each = All-nil IsPiece; speaks = (refl, refl) }

pub one_piece : {T E : Type 0} (piece : List ℕ) (r : Result T E) (old new : ConsoleState) → IsPiece piece
    → Answers Out piece r old new → PutsPieces piece (is_ok r) old new
one_piece piece (Ok x) old new is a = record {
  pieces = piece ∷ [];
  together = append-nil piece;
  each = All-cons IsPiece piece [] is (All-nil IsPiece);
  speaks = inl (new, record { puts = a.puts; one = λ on. (a.schedule on).schedule }, (refl, refl));
}
one_piece piece (Err e) old new is a = record {
  pieces = piece ∷ [];
  together = append-nil piece;
  each = All-cons IsPiece piece [] is (All-nil IsPiece);
  speaks = inr (refl, record { puts = a.fails; one = λ on. (a.schedule on).schedule });
}

-- ---- a text in two parts

speech_append : (ps qs : List (List ℕ)) → out_pieces ps ++ out_pieces qs ≡ out_pieces (ps ++ qs)
speech_append ps qs = sym (map-append _ ps qs)

pub pieces_join : (s t : List ℕ) (heard : Bool) (a b c : ConsoleState) → PutsPieces s true a b
    → PutsPieces t heard b c → PutsPieces (s ++ t) heard a c
pieces_join s t heard a b c p q = record {
  pieces = p.pieces ++ q.pieces;
  together =
      concat-append p.pieces q.pieces ∙ ap (λ x. x ++ concat q.pieces) p.together ∙ ap (λ x. s ++ x) q.together;
  each = All-append IsPiece p.pieces q.pieces p.each q.each;
  speaks = subst (λ (ps : List SpokenPiece). SpeaksOn ps true heard a c) (speech_append p.pieces q.pieces)
      (speeches_join (out_pieces p.pieces) (out_pieces q.pieces) true true heard a b c p.speaks q.speaks);
}

-- what is taken off a text are pieces
taken_are : (ps : List (List ℕ)) (text : List ℕ) → AreTakenOff ps text → All IsPiece ps
taken_are [] text t = All-nil IsPiece
taken_are (p ∷ ps) text t =
    let long : length p ≡ length (take 4096 text) = ap length t.1 in
    let some : 0 < length p = omega (arith, long, length-take 4096 text, t.0) in
    let short : length p ≤ 4096 = omega (arith, long, length-take 4096 text) in
    All-cons IsPiece p ps (some, short) (taken_are ps (drop 4096 text) t.2)

unheard : (ps : List SpokenPiece) (s : ConsoleState) → SpeaksOn ps false false s s
unheard [] s = (refl, refl)
unheard (p ∷ ps) s = (refl, refl)

-- of a longer text nothing more is put after a put that failed
pub pieces_longer : (s t : List ℕ) (a b : ConsoleState) → PutsPieces s false a b → PutsPieces (s ++ t) false a b
pieces_longer s t a b p = record {
  pieces = p.pieces ++ pieces_of t;
  together =
      concat-append p.pieces (pieces_of t) ∙ ap (λ x. x ++ concat (pieces_of t)) p.together
      ∙ ap (λ x. s ++ x) (in_pieces t).together;
  each = All-append IsPiece p.pieces (pieces_of t) p.each (taken_are (pieces_of t) t (pieces_are_taken t));
  speaks = subst (λ (ps : List SpokenPiece). SpeaksOn ps true false a b) (speech_append p.pieces (pieces_of t))
      (speeches_join (out_pieces p.pieces) (out_pieces (pieces_of t)) true false false a b b p.speaks
      (unheard (out_pieces (pieces_of t)) b));
}

-- ---- the whole text, or a beginning of it

-- all pieces were put
spoken_whole : (ps : List (List ℕ)) (a b : ConsoleState) → SpeaksOn (out_pieces ps) true true a b
    → Puts Out (concat ps) a b
spoken_whole [] a b is = subst (λ (s : ConsoleState). Puts Out [] a s) (sym is.1) (puts_none Out a)
spoken_whole (p ∷ ps) a b (inl (between, first, later)) =
    puts_both Out p (concat ps) a between b first.puts (spoken_whole ps between b later)
spoken_whole (p ∷ ps) a b (inr (failing, broke)) = absurd (cc failing)

-- a put failed
spoken_part : (ps : List (List ℕ)) (a b : ConsoleState) → SpeaksOn (out_pieces ps) true false a b
    → PutsPart Out (concat ps) a b
spoken_part [] a b is = absurd (cc is.0)
spoken_part (p ∷ ps) a b (inl (between, first, later)) =
    puts_then_part Out p (concat ps) a between b first.puts (spoken_part ps between b later)
spoken_part (p ∷ ps) a b (inr (failing, broke)) = part_of_longer Out p (concat ps) a b broke.puts

-- and then there is a piece
spoken_some : (ps : List (List ℕ)) (a b : ConsoleState) → SpeaksOn (out_pieces ps) true false a b → All IsPiece ps
    → concat ps ≢ []
spoken_some [] a b is each none = absurd (cc is.0)
spoken_some (p ∷ ps) a b is each none =
    let all : length (p ++ concat ps) ≡ 0 = ap length none in
    let is : IsPiece p = All-head IsPiece p ps each in
    omega (arith, all, length-append p (concat ps), is.0)

pub pieces_put : (text : List ℕ) (a b : ConsoleState) → PutsPieces text true a b → Puts Out text a b
pieces_put text a b p = subst (λ (t : List ℕ). Puts Out t a b) p.together (spoken_whole p.pieces a b p.speaks)

pub pieces_part : (text : List ℕ) (a b : ConsoleState) → PutsPieces text false a b
    → (text ≢ []) × PutsPart Out text a b
pieces_part text a b p =
    subst (λ (t : List ℕ). (t ≢ []) × PutsPart Out t a b) p.together
    (spoken_some p.pieces a b p.speaks p.each, spoken_part p.pieces a b p.speaks)

-- ---- by the answer

by_kind : (kind : Kind) (text : List ℕ) (a b : ConsoleState)
    → PutsByKind kind (PutsPieces text true a b) (PutsPieces text false a b) (b ≡ a) a b
    → PutsByKind kind (Puts Out text a b) ((text ≢ []) × PutsPart Out text a b) (b ≡ a) a b
by_kind Asked text a b put = pieces_put text a b put
by_kind (Failed AtPut) text a b put = pieces_part text a b put
by_kind _ text a b put = put

-- what is put in pieces is put
pub pieces_as : (e : LogEnding) (text : List ℕ) (a b : ConsoleState) → PutsInPieces e text a b → PutsAs true e text a b
pieces_as e text a b put = by_kind (row_of e).kind text a b put

-- a text was put in pieces, or a put failed
pub printed_pieces : {T E : Type 0} (r : Result T E) (e : LogEnding) (text : List ℕ) (a b : ConsoleState)
    → e ≡ printed_as r → PutsPieces text (is_ok r) a b → PutsInPieces e text a b
printed_pieces (Ok x) e text a b is put =
    subst (λ (v : LogEnding). PutsInPieces v text a b) (sym is) put
printed_pieces (Err f) e text a b is put =
    subst (λ (v : LogEnding). PutsInPieces v text a b) (sym is) put

-- a mode that puts pieces prints
pub pieces_print : (mode : LogMode) → puts_pieces mode ≡ true → prints mode ≡ true
pieces_print (ListBlocks types) on = refl
pieces_print Summarize on = refl
pieces_print _ on = absurd (cc)
