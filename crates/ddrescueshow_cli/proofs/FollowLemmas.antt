-- What is put of the lines of a rescue, step by step.
use Rattle.std.proofs.Common.{◌≡◌, ◌≢◌, ◌⊎◌, ℕ, ◌+◌, ◌-◌, ◌<◌, ◌≤◌, eqb, Bool, true, false, cond, IsTrue, List, [], ◌∷◌, ◌++◌, length, map, take, drop, get_or, Some, None, Result, Ok, Err, inl, inr, refl, sym, ap, subst, ◌∙◌, append_assoc, append-nil, length-append, take-append-drop, arith}
use Rattle.std.specs.List.{All, flat_map, position, position_or_len}
use Rattle.std.proofs.lemmas.List.{map-append, length-take, length-take-le, get_or-take, take_more, take-take}
use Rattle.std.proofs.lemmas.List.Sums.{fails_before_first, passes_at_first}
use Rattle.std.proofs.lemmas.Bool.{eqb-true, eqb-false}
use Rattle.std.proofs.lemmas.Bool.Decides.{eqb_tells}
use Rattle.mapfile_text.specs.Lines.{is_newline}
use Rattle.mapfile_reader.proofs.LineLemmas.{position-some, position-none}
use Rattle.std.proofs.lemmas.List.Elements.{All-append, All-nil}
use Rattle.std.proofs.lemmas.Grind.{flat_map-append}
use Rattle.fault_count.specs.Counts.{raised}
use Rattle.program_promise.specs.Saying.{SaysAs, Silence, Speech}
use Rattle.rescue_console.specs.declared.console.Channel.TheVariants.{Out}
use Rattle.rescue_console.specs.ConsoleState.{ConsoleState, Answers}
use Rattle.rescue_console.specs.FeedState.{FeedState, Answers as TakeAnswers}
use Rattle.rescue_console.specs.Speaking.{SpokenPiece, SpeaksOn, out_pieces, texts_on}
use Rattle.rescue_console.proofs.SpeakingLemmas.{speeches_join, spoken_is_put}
use Rattle.ddrescueshow_cli.specs.declared.follow.FollowEnding.{FollowEnding}
use Rattle.ddrescueshow_cli.specs.declared.follow.FollowEnding.TheVariants.{Done, NotAlone, FeedFault, ConsoleFault, NoMemory}
use Rattle.ddrescueshow_cli.specs.declared.follower.Follower.{Follower}
use Rattle.ddrescueshow_cli.specs.declared.follower.Known.{Known}
use Rattle.ddrescueshow_cli.specs.Following.{HasCause, ending_of, is_heard, puts_after, takes_after}
use Rattle.ddrescueshow_cli.specs.Progress.{IsSaid}
use Rattle.ddrescueshow_cli.specs.PutLines.{AllLinesArePut, AreLines, AreWhole, AsksOnce, Breaks, BreaksOff, Ended, Follows, Goes, HasAllLines, HasNoNewline, IsUnfinished, IsWhole, Longest, PutLine, PutsLast, PutsLines, Round, Rounds, Stage, Starved, StopsIn, Takes, TakesOnce, Unput, Untaken, end_texts, first_stage, known_at_first, lines_of, longest, texts_of}
use Rattle.ddrescueshow_cli.specs.FollowSteps.{Comes, Ends, Fills, FindsEnd, Finishes, Fits, GoesOn, GoesRound, GoesRounds, IsPart, IsTakeCause, Lacks, LosesText, PutsRest, PutsText, Unmade, Unsaid, stage_of}

-- ---- a put

pub put_whole : {T E : Type 0} (text : List ℕ) (v : T) (a b : ConsoleState) → Answers {T = T} {E = E} Out text (Ok v) a b
    → SpeaksOn (out_pieces (text ∷ [])) true true a b
put_whole text v a b put =
    inl (b, record { puts = put.puts; one = λ scheduled. (put.schedule scheduled).schedule }, (refl, refl))

pub put_broken : {T E : Type 0} (text : List ℕ) (e : E) (a b : ConsoleState) → Answers {T = T} {E = E} Out text (Err e) a b
    → SpeaksOn (out_pieces (text ∷ [])) true false a b
put_broken text e a b put =
    inr (refl, record { puts = put.fails; one = λ scheduled. (put.schedule scheduled).schedule })

unsaid : (qs : List SpokenPiece) (a : ConsoleState) → SpeaksOn qs false false a a
unsaid [] a = (refl, refl)
unsaid (q ∷ qs) a = (refl, refl)

pub put_text : (t : Bool) (line text put : List ℕ) (k k' : Known) (a b : ConsoleState) → put ≡ text → IsSaid t k k' line text
    → SpeaksOn (out_pieces (put ∷ [])) true true a b → PutsText t line true k k' a b
put_text t line text put k k' a b same said whole =
    record { text = put; said = subst (IsSaid t k k' line) (sym same) said; speaks = whole }

pub unput : (t : Bool) (line text put : List ℕ) (e : FollowEnding) (k k' : Known) (a b : ConsoleState) → put ≡ text
    → IsSaid t k k' line text → (e ≡ ConsoleFault) × SpeaksOn (out_pieces (put ∷ [])) true false a b
    → LosesText t line e k a b
unput t line text put e k k' a b same said broken =
    Unsaid k' broken.0 (record { text = put; said = subst (IsSaid t k k' line) (sym same) said; speaks = broken.1 })

-- ---- no bytes, or some

pub none_of : (xs : List ℕ) → length xs ≡ 0 → xs ≡ []
none_of [] is = refl
none_of (x ∷ xs) is = absurd (omega (arith, is))

pub none_if : (xs : List ℕ) (n : ℕ) (empty : Bool) → n ≡ length xs → empty ≡ eqb n 0 → empty ≡ true → xs ≡ []
none_if xs n empty len is holds = none_of xs (sym len ∙ eqb-true n 0 (sym is ∙ holds))

pub some_if : (xs : List ℕ) (n : ℕ) (empty : Bool) → n ≡ length xs → empty ≡ eqb n 0 → empty ≡ false → xs ≢ []
some_if xs n empty len is fails none = eqb-false n 0 (sym is ∙ fails) (len ∙ ap length none)

-- ---- lines that follow others

follows_join : (t : Bool) (ps qs : List PutLine) (a b c : Known) → Follows t ps a b → Follows t qs b c
    → Follows t (ps ++ qs) a c
follows_join t [] qs a b c first second = subst (λ (k : Known). Follows t qs k c) first second
follows_join t (p ∷ ps) qs a b c first second =
    (first.0, first.1, follows_join t ps qs first.0 b c first.2 second)

whole_join : (ps qs : List PutLine) → AreWhole ps → AreWhole qs → AreWhole (ps ++ qs)
whole_join [] qs first second = second
whole_join (p ∷ ps) qs first second = (first.0, whole_join ps qs first.1 second)

lines_join : (ps qs : List PutLine) → AreWhole ps → AreLines qs → AreLines (ps ++ qs)
lines_join [] qs first second = second
lines_join (p ∷ ps) qs first second = inl (first.0, lines_join ps qs first.1 second)

split_join : (old a b mid new x y : List ℕ) → old ++ a ≡ x ++ mid → mid ++ b ≡ y ++ new → old ++ (a ++ b) ≡ (x ++ y) ++ new
split_join old a b mid new x y first second =
    sym (append_assoc old a b) ∙ ap (λ l. l ++ b) first ∙ append_assoc x mid b ∙ ap (λ l. x ++ l) second
    ∙ sym (append_assoc x y new)

lines_append : (ps qs : List PutLine) → lines_of (ps ++ qs) ≡ lines_of ps ++ lines_of qs
lines_append ps qs = flat_map-append (λ (p : PutLine). p.line) ps qs

pieces_append : (xs ys : List (List ℕ)) → out_pieces (xs ++ ys) ≡ out_pieces xs ++ out_pieces ys
pieces_append xs ys = map-append _ xs ys

texts_append : (ps qs : List PutLine) → texts_of (ps ++ qs) ≡ texts_of ps ++ texts_of qs
texts_append ps qs = map-append (λ (p : PutLine). p.text) ps qs

says_join : (xs ys : List (List ℕ)) (h : Bool) (a b c : ConsoleState) → SpeaksOn (out_pieces xs) true true a b
    → SpeaksOn (out_pieces ys) true h b c → SpeaksOn (out_pieces (xs ++ ys)) true h a c
says_join xs ys h a b c first second =
    subst (λ (ps : List SpokenPiece). SpeaksOn ps true h a c) (sym (pieces_append xs ys))
    (speeches_join (out_pieces xs) (out_pieces ys) true true h a b c first second)

pub puts_join : (t : Bool) (a b : List ℕ) (h : Bool) (s s' s'' : Stage) → PutsLines t a true s s' → PutsLines t b h s' s''
    → PutsLines t (a ++ b) h s s''
puts_join t a b h s s' s'' p q = record {
  puts = p.puts ++ q.puts;
  split = split_join s.line a b s'.line s''.line _ _ p.split q.split
      ∙ ap (λ l. l ++ s''.line) (sym (lines_append p.puts q.puts));
  whole = whole_join p.puts q.puts p.whole q.whole;
  follows = follows_join t p.puts q.puts s.known s'.known s''.known p.follows q.follows;
  speaks = subst (λ (x : List (List ℕ)). SpeaksOn (out_pieces x) true h s.console s''.console)
      (sym (texts_append p.puts q.puts))
      (says_join (texts_of p.puts) (texts_of q.puts) h s.console s'.console s''.console p.speaks q.speaks);
}

pub last_join : (t : Bool) (a : List ℕ) (h : Bool) (s s' : Stage) (c : ConsoleState) → PutsLines t a true s s'
    → PutsLast t [] h s' c → PutsLast t a h s c
last_join t a h s s' c p q = record {
  puts = p.puts ++ q.puts;
  split = p.split ∙ ap (λ l. lines_of p.puts ++ l) (sym (append-nil s'.line) ∙ q.split)
      ∙ sym (lines_append p.puts q.puts);
  lines = lines_join p.puts q.puts p.whole q.lines;
  known = q.known;
  follows = follows_join t p.puts q.puts s.known s'.known q.known p.follows q.follows;
  speaks = subst (λ (x : List (List ℕ)). SpeaksOn (out_pieces x) true h s.console c)
      (sym (append_assoc (texts_of p.puts) (texts_of q.puts) (end_texts q.known))
      ∙ ap (λ x. x ++ end_texts q.known) (sym (texts_append p.puts q.puts)))
      (says_join (texts_of p.puts) (texts_of q.puts ++ end_texts q.known) h s.console s'.console c p.speaks q.speaks);
}

-- ---- a part of a line

newline_found : (xs : List ℕ) (at : ℕ) → position is_newline xs ≡ Some at
    → (at < length xs) × (get_or xs at 0 ≡ 10) × HasNoNewline (take at xs)
newline_found xs at e =
    let found = position-some is_newline xs at e in
    let first : ℕ = position_or_len is_newline xs in
    let here : get_or xs first 0 ≡ 10 = eqb-true (get_or xs first 0) 10 (passes_at_first is_newline xs 0 found.0) in (
      omega (arith, found.0, found.1),
      subst (λ (k : ℕ). get_or xs k 0 ≡ 10) found.1 here,
      λ k d less is.
          let before : k < at = omega (arith, less, length-take at xs) in
          eqb-false (get_or xs k d) 10 (fails_before_first is_newline xs k d (omega (arith, before, found.1)))
          (sym (get_or-take at xs k d before) ∙ is),
    )

newline_absent : (xs : List ℕ) → position is_newline xs ≡ None → HasNoNewline xs
newline_absent xs e =
    let none = position-none is_newline xs e in
    λ k d less is. eqb-false (get_or xs k d) 10 (fails_before_first is_newline xs k d (omega (arith, less, none))) is

pub part_ended : (bytes piece : List ℕ) (room most at : ℕ) → piece ≡ take most bytes → most ≤ room
    → most ≤ length bytes → position is_newline piece ≡ Some at → IsPart room bytes (at + 1) true
part_ended bytes piece room most at is fits within e =
    let found = newline_found (take most bytes) at (subst (λ (p : List ℕ). position is_newline p ≡ Some at) is e) in
    let less : at < most = omega (arith, found.0, length-take-le most bytes within) in
    let here : get_or bytes at 0 ≡ 10 = sym (get_or-take most bytes at 0 less) ∙ found.1 in
    Ends (take at bytes)
    (take_more bytes at 0 (omega (arith, less, within)) ∙ ap (λ (b : ℕ). take at bytes ++ b ∷ []) here)
    (subst HasNoNewline (take-take at most bytes (omega (arith, less))) found.2) (omega (arith, less, fits)) refl

pub part_none : (bytes piece : List ℕ) (room most : ℕ) → piece ≡ take most bytes → most ≤ room
    → position is_newline piece ≡ None → IsPart room bytes most (eqb most room)
part_none bytes piece room most is fits e =
    let none : HasNoNewline (take most bytes) = subst HasNoNewline is (newline_absent piece e) in
    elim (eqb_tells most room) [
      | inl holds ↦ Fills none holds.1 holds.0
      | inr fails ↦ Fits none (omega (arith, fits, fails.1)) fails.0
    ]

no_newline_join : (xs ys : List ℕ) → HasNoNewline xs → HasNoNewline ys → HasNoNewline (xs ++ ys)
no_newline_join xs ys first second = All-append (λ byte. byte ≢ 10) xs ys first second

pub whole_with : (line bytes now : List ℕ) (n room : ℕ) (whole : Bool) → IsUnfinished line → n ≤ length bytes
    → room ≡ longest - length line → now ≡ line ++ take n bytes → IsPart room bytes n whole → whole ≡ true → IsWhole now
whole_with line bytes now n room whole unfinished within room_is is (Ends front end none fits all) holds =
    let long : length now ≤ longest =
    omega (arith, unfinished.short, fits, room_is, ap length is, length-append line (take n bytes), length-take-le n bytes within) in
    Ended (line ++ front) (is ∙ ap (λ (l : List ℕ). line ++ l) end ∙ sym (append_assoc line front (10 ∷ [])))
    (no_newline_join line front unfinished.unended none) long
whole_with line bytes now n room whole unfinished within room_is is (Fills none full all) holds =
    let long : length now ≡ longest =
    omega (arith, unfinished.short, full, room_is, ap length is, length-append line (take n bytes), length-take-le n bytes within) in
    Longest (subst HasNoNewline (sym is) (no_newline_join line (take n bytes) unfinished.unended none)) long
whole_with line bytes now n room whole unfinished within room_is is (Fits none less fails) holds = absurd (cc (fails, holds))

pub unfinished_with : (line bytes : List ℕ) (n room : ℕ) (whole : Bool) → IsUnfinished line → n ≤ length bytes
    → room ≡ longest - length line → IsPart room bytes n whole → whole ≡ false → IsUnfinished (line ++ take n bytes)
unfinished_with line bytes n room whole unfinished within room_is (Ends front end none fits all) fails = absurd (cc (all, fails))
unfinished_with line bytes n room whole unfinished within room_is (Fills none full all) fails = absurd (cc (all, fails))
unfinished_with line bytes n room whole unfinished within room_is (Fits none less part) fails = record {
  unended = no_newline_join line (take n bytes) unfinished.unended none;
  short = omega (arith, unfinished.short, less, room_is, length-append line (take n bytes), length-take-le n bytes within);
}

pub none_open : (line : List ℕ) → line ≡ [] → IsUnfinished line
none_open line is = record {
  unended = subst HasNoNewline (sym is) (All-nil (λ byte. byte ≢ 10));
  short = omega (arith, ap length is);
}

-- a whole line that is put, or of which a beginning is
one_line : (t : Bool) (came whole : List ℕ) (h : Bool) (s s' : Stage) → IsWhole whole → s.line ++ came ≡ whole ++ s'.line
    → PutsText t whole h s.known s'.known s.console s'.console → PutsLines t came h s s'
one_line t came whole h s s' is split p = record {
  puts = record { line = whole; text = p.text } ∷ [];
  split = split ∙ ap (λ (l : List ℕ). l ++ s'.line) (sym (append-nil whole));
  whole = (is, tt);
  follows = (s'.known, p.said, refl);
  speaks = p.speaks;
}

-- nothing is put
no_line : (t : Bool) (came : List ℕ) (h : Bool) (s s' : Stage) → h ≡ true → s'.line ≡ s.line ++ came → s'.known ≡ s.known
    → s'.console ≡ s.console → PutsLines t came h s s'
no_line t came h s s' heard line known console = record {
  puts = [];
  split = sym line;
  whole = tt;
  follows = known;
  speaks = (heard, console);
}

-- ---- steps

pub stays : (f : Follower) (c : ConsoleState) → IsUnfinished f.line.items → GoesOn [] f f c c
stays f c unfinished = record {
  terminal = refl;
  unfinished = unfinished;
  puts = no_line f.teller.terminal [] true (stage_of f c) (stage_of f c) refl (sym (append-nil f.line.items)) refl refl;
}

pub keeps_part : (came : List ℕ) (f f' : Follower) (c : ConsoleState) → f'.teller ≡ f.teller
    → f'.line.items ≡ f.line.items ++ came → IsUnfinished (f.line.items ++ came) → GoesOn came f f' c c
keeps_part came f f' c same line unfinished = record {
  terminal = ap (λ t. t.terminal) same;
  unfinished = subst IsUnfinished (sym line) unfinished;
  puts = no_line f.teller.terminal came true (stage_of f c) (stage_of f' c) refl line (ap (λ t. t.known) same) refl;
}

pub puts_line : (came whole : List ℕ) (f f' : Follower) (c c' : ConsoleState) → f'.teller.terminal ≡ f.teller.terminal
    → f'.line.items ≡ [] → whole ≡ f.line.items ++ came → IsWhole whole
    → PutsText f.teller.terminal whole true f.teller.known f'.teller.known c c' → GoesOn came f f' c c'
puts_line came whole f f' c c' same none is whole_is p = record {
  terminal = same;
  unfinished = none_open f'.line.items none;
  puts = one_line f.teller.terminal came whole true (stage_of f c) (stage_of f' c') whole_is
      (sym is ∙ sym (append-nil whole) ∙ ap (λ (l : List ℕ). whole ++ l) (sym none)) p;
}

pub goes_join : (a b : List ℕ) (f f' f'' : Follower) (c c' c'' : ConsoleState) → GoesOn a f f' c c' → GoesOn b f' f'' c' c''
    → GoesOn (a ++ b) f f'' c c''
goes_join a b f f' f'' c c' c'' p q = record {
  terminal = q.terminal ∙ p.terminal;
  unfinished = q.unfinished;
  puts = puts_join f.teller.terminal a b true (stage_of f c) (stage_of f' c') (stage_of f'' c'') p.puts
      (subst (λ (t : Bool). PutsLines t b true (stage_of f' c') (stage_of f'' c'')) p.terminal q.puts);
}

-- bytes that came, and then a part of the rest, leave what is after it
pub went_on : (came rest part : List ℕ) (n : ℕ) (after all : List ℕ) → part ≡ take n rest → after ≡ drop n rest
    → came ++ rest ≡ all → (came ++ part) ++ after ≡ all
went_on came rest part n after all front back split =
    append_assoc came part after ∙ ap (λ (l : List ℕ). came ++ (l ++ after)) front
    ∙ ap (λ (l : List ℕ). came ++ (take n rest ++ l)) back ∙ ap (λ (l : List ℕ). came ++ l) (take-append-drop n rest) ∙ split

-- no byte is left
pub goes_all : (came rest all : List ℕ) (f f' : Follower) (c c' : ConsoleState) → rest ≡ [] → came ++ rest ≡ all
    → GoesOn came f f' c c' → GoesOn all f f' c c'
goes_all came rest all f f' c c' none split p =
    subst (λ (l : List ℕ). GoesOn l f f' c c')
    (sym (append-nil came) ∙ ap (λ (l : List ℕ). came ++ l) (sym none) ∙ split) p

-- there is no memory for bytes
pub stops_unheld : (t : Bool) (bytes : List ℕ) (s : Stage) → StopsIn t bytes NoMemory s s.console
stops_unheld t bytes s = record {
  line = s.line ++ bytes;
  known = s.known;
  ending = inl refl;
  puts = no_line t bytes true s (record { line = s.line ++ bytes; known = s.known; console = s.console }) refl refl refl refl;
}

-- a line can't be put; its bytes and those after it are left
pub stops_unput : (t : Bool) (bytes whole : List ℕ) (n : ℕ) (e : FollowEnding) (s : Stage) (c' : ConsoleState) → IsWhole whole
    → whole ≡ s.line ++ take n bytes → LosesText t whole e s.known s.console c' → StopsIn t bytes e s c'
stops_unput t bytes whole n e s c' whole_is is (Unmade why same) = record {
  line = s.line ++ bytes;
  known = s.known;
  ending = inl why;
  puts = no_line t bytes (is_heard e) s (record { line = s.line ++ bytes; known = s.known; console = c' }) (ap is_heard why)
      refl refl same;
}
stops_unput t bytes whole n e s c' whole_is is (Unsaid known why p) =
    let new : Stage = record { line = drop n bytes; known = known; console = c' } in
    let split : s.line ++ bytes ≡ whole ++ drop n bytes =
    ap (λ (b : List ℕ). s.line ++ b) (sym (take-append-drop n bytes))
    ∙ sym (append_assoc s.line (take n bytes) (drop n bytes)) ∙ ap (λ (l : List ℕ). l ++ drop n bytes) (sym is) in
    record {
      line = drop n bytes;
      known = known;
      ending = inr why;
      puts = subst (λ (h : Bool). PutsLines t bytes h s new) (sym (ap is_heard why))
          (one_line t bytes whole false s new whole_is split p);
    }

pub stops_after : (a b : List ℕ) (e : FollowEnding) (f f' : Follower) (c c' c'' : ConsoleState) → GoesOn a f f' c c'
    → StopsIn f'.teller.terminal b e (stage_of f' c') c'' → StopsIn f.teller.terminal (a ++ b) e (stage_of f c) c''
stops_after a b e f f' c c' c'' p q =
    let new : Stage = record { line = q.line; known = q.known; console = c'' } in
    record {
      line = q.line;
      known = q.known;
      ending = q.ending;
      puts = puts_join f.teller.terminal a b (is_heard e) (stage_of f c) (stage_of f' c') new p.puts
          (subst (λ (t : Bool). PutsLines t b (is_heard e) (stage_of f' c') new) p.terminal q.puts);
    }

pub stops_all : (came rest all : List ℕ) (e : FollowEnding) (f f' : Follower) (c c' c'' : ConsoleState) → came ++ rest ≡ all
    → GoesOn came f f' c c' → StopsIn f'.teller.terminal rest e (stage_of f' c') c''
    → StopsIn f.teller.terminal all e (stage_of f c) c''
stops_all came rest all e f f' c c' c'' split p q =
    subst (λ (l : List ℕ). StopsIn f.teller.terminal l e (stage_of f c) c'') split (stops_after came rest e f f' c c' c'' p q)

-- ---- takes

takes_join : (a b : List ℕ) (f f' f'' : FeedState) → Takes a f f' → Takes b f' f'' → Takes (a ++ b) f f''
takes_join a b f f' f'' p q = record {
  tells = q.tells ∙ p.tells;
  taken = λ tells. p.taken tells ∙ ap (λ (l : List ℕ). a ++ l) (q.taken (subst IsTrue (sym p.tells) tells))
      ∙ sym (append_assoc a b f''.left);
}

pub asked_once : {E : Type 0} (room : ℕ) (buf : List ℕ) (r : Result ℕ E) (feed feed' : FeedState)
    → TakeAnswers {E = E} room buf r feed feed' → AsksOnce feed feed'
asked_once room buf r feed feed' took =
    record { scheduled = took.keeps.scheduled; one = λ scheduled. (took.schedule scheduled).schedule }

pub came_of : {E : Type 0} (room n : ℕ) (buf piece : List ℕ) (feed feed' : FeedState)
    → TakeAnswers {E = E} room buf (Ok n) feed feed' → piece ≡ take n buf → n ≤ longest → TakesOnce piece feed feed'
came_of room n buf piece feed feed' took front few = record {
  takes = record {
    tells = took.keeps.tells;
    taken = λ tells. took.taken tells ∙ ap (λ (l : List ℕ). l ++ feed'.left) (sym front);
  };
  asks = asked_once room buf (Ok n) feed feed' took;
  few = omega (arith, ap length front, length-take n buf, few);
}

-- a take that gives nothing finds the end
pub took_none : {E : Type 0} (room n : ℕ) (buf : List ℕ) (feed feed' : FeedState) (f : Follower) (c : ConsoleState)
    → IsUnfinished f.line.items → n ≡ 0 → TakeAnswers {E = E} room buf (Ok n) feed feed' → GoesRound false feed feed' f f c c
took_none room n buf feed feed' f c unfinished zero took =
    let same : IsTrue feed.tells → feed.left ≡ feed'.left =
    λ tells. took.taken tells ∙ ap (λ (k : ℕ). take k buf ++ feed'.left) zero in
    record {
      came = [];
      takes = record {
        takes = record { tells = took.keeps.tells; taken = same };
        asks = asked_once room buf (Ok n) feed feed' took;
        few = omega arith;
      };
      none = λ fails tells. sym (same tells) ∙ took.ends tells zero;
      goes = stays f c unfinished;
    }

-- ---- rounds

-- rounds, and one more after them
rounds_one : (t : Bool) (rs : List Round) (r : Round) (a b : FeedState) (s u : Stage) → Rounds t rs a b s u
    → TakesOnce r.came b r.after → PutsLines t r.came true u r.stage → IsUnfinished r.stage.line
    → Rounds t (rs ++ r ∷ []) a r.after s r.stage
rounds_one t [] r a b s u goes takes puts unfinished = (
  subst (λ (x : FeedState). TakesOnce r.came x r.after) goes.0 takes,
  subst (λ (x : Stage). PutsLines t r.came true x r.stage) goes.1 puts,
  unfinished,
  (refl, refl),
)
rounds_one t (x ∷ xs) r a b s u goes takes puts unfinished =
    (goes.0, goes.1, goes.2, rounds_one t xs r x.after b x.stage u goes.3 takes puts unfinished)

-- what all rounds gave
abbrev came_in : List Round → List ℕ
came_in [] = []
came_in (r ∷ rs) = r.came ++ came_in rs

rounds_take : (t : Bool) (rs : List Round) (a b : FeedState) (s u : Stage) → Rounds t rs a b s u → Takes (came_in rs) a b
rounds_take t [] a b s u goes = record {
  tells = ap (λ (x : FeedState). x.tells) goes.0;
  taken = λ tells. ap (λ (x : FeedState). x.left) (sym goes.0);
}
rounds_take t (r ∷ rs) a b s u goes =
    takes_join r.came (came_in rs) a r.after b goes.0.takes (rounds_take t rs r.after b r.stage u goes.3)

rounds_put : (t : Bool) (rs : List Round) (a b : FeedState) (s u : Stage) → Rounds t rs a b s u
    → PutsLines t (came_in rs) true s u
rounds_put t [] a b s u goes =
    no_line t [] true s u refl (ap (λ (x : Stage). x.line) goes.1 ∙ sym (append-nil s.line))
    (ap (λ (x : Stage). x.known) goes.1) (ap (λ (x : Stage). x.console) goes.1)
rounds_put t (r ∷ rs) a b s u goes =
    puts_join t r.came (came_in rs) true s r.stage u goes.1 (rounds_put t rs r.after b r.stage u goes.3)

-- no round yet
pub no_rounds : (feed : FeedState) (f : Follower) (c : ConsoleState) → IsUnfinished f.line.items → GoesRounds feed feed f f c c
no_rounds feed f c unfinished =
    record { terminal = refl; unfinished = unfinished; rounds = []; goes = (refl, refl) }

pub one_round : (more : Bool) (a b d : FeedState) (f f' f'' : Follower) (c c' c'' : ConsoleState) → GoesRounds a b f f' c c'
    → GoesRound more b d f' f'' c' c'' → GoesRounds a d f f'' c c''
one_round more a b d f f' f'' c c' c'' p q =
    let r : Round = record { came = q.came; after = d; stage = stage_of f'' c'' } in
    record {
      terminal = q.goes.terminal ∙ p.terminal;
      unfinished = q.goes.unfinished;
      rounds = p.rounds ++ r ∷ [];
      goes = rounds_one f.teller.terminal p.rounds r a b (stage_of f c) (stage_of f' c') p.goes q.takes
          (subst (λ (t : Bool). PutsLines t q.came true (stage_of f' c') (stage_of f'' c'')) p.terminal q.goes.puts)
          q.goes.unfinished;
    }

-- the last round finds the end
pub last_round : (more : Bool) (a b d : FeedState) (f f' f'' : Follower) (c c' c'' : ConsoleState) → more ≡ false
    → GoesRounds a b f f' c c' → GoesRound more b d f' f'' c' c'' → FindsEnd a d f f'' c c''
last_round more a b d f f' f'' c c' c'' ends p q = record {
  goes = one_round more a b d f f' f'' c c' c'' p q;
  none = λ tells. q.none ends
      (subst IsTrue (sym (rounds_take f.teller.terminal p.rounds a b (stage_of f c) (stage_of f' c') p.goes).tells) tells);
}

-- a take failed
pub breaks_taking : {E : Type 0} (t : Bool) (room : ℕ) (buf : List ℕ) (e : E) (feed feed' : FeedState) (s : Stage)
    → TakeAnswers {E = E} room buf (Err e) feed feed' → Breaks t FeedFault feed feed' s s.console
breaks_taking t room buf e feed feed' s took =
    Untaken refl (record { tells = took.keeps.tells; taken = λ told. sym (took.stays told) })
    (asked_once room buf (Err e) feed feed' took) refl

-- a call breaks off after rounds
pub breaks_after : (e : FollowEnding) (a b d : FeedState) (f f' : Follower) (c c' c'' : ConsoleState) → GoesRounds a b f f' c c'
    → Breaks f'.teller.terminal e b d (stage_of f' c') c'' → BreaksOff f.teller.terminal e a d (stage_of f c) c''
breaks_after e a b d f f' c c' c'' p q = record {
  rounds = p.rounds;
  last = b;
  stage = stage_of f' c';
  goes = p.goes;
  breaks = subst (λ (t : Bool). Breaks t e b d (stage_of f' c') c'') p.terminal q;
}

-- ---- the end

pub no_rest : (t : Bool) (s : Stage) → s.line ≡ [] → PutsRest t true s s.known s.console
no_rest t s none = record { puts = []; split = none; lines = tt; follows = refl; speaks = (refl, refl) }

pub one_rest : (t h : Bool) (s : Stage) (known : Known) (c' : ConsoleState) → IsUnfinished s.line → s.line ≢ []
    → PutsText t s.line h s.known known s.console c' → PutsRest t h s known c'
one_rest t h s known c' unfinished some p = record {
  puts = record { line = s.line; text = p.text } ∷ [];
  split = sym (append-nil s.line);
  lines = inr (unfinished, some, refl);
  follows = (known, p.said, refl);
  speaks = p.speaks;
}

rest_broken : (t : Bool) (s : Stage) (known : Known) (c' : ConsoleState) → PutsRest t false s known c' → PutsLast t [] false s c'
rest_broken t s known c' p = record {
  puts = p.puts;
  split = append-nil s.line ∙ p.split;
  lines = p.lines;
  known = known;
  follows = p.follows;
  speaks = subst (λ (ps : List SpokenPiece). SpeaksOn ps true false s.console c')
      (sym (pieces_append (texts_of p.puts) (end_texts known)))
      (speeches_join (out_pieces (texts_of p.puts)) (out_pieces (end_texts known)) true false false s.console c' c' p.speaks
      (unsaid (out_pieces (end_texts known)) c'));
}

pub rest_lost : (t : Bool) (e : FollowEnding) (s : Stage) (c' : ConsoleState) → IsUnfinished s.line → s.line ≢ []
    → LosesText t s.line e s.known s.console c' → Finishes t e s c'
rest_lost t e s c' unfinished some (Unmade is same) = Lacks is same
rest_lost t e s c' unfinished some (Unsaid known is p) =
    Comes false is (rest_broken t s known c' (one_rest t false s known c' unfinished some p))

end_is : (known : Known) (up : Bool) → known.is_up ≡ up → end_texts known ≡ cond up ((10 ∷ []) ∷ []) []
end_is known up is = ap (λ (u : Bool). cond u ((10 ∷ []) ∷ []) []) is

pub ends_below : (t : Bool) (s : Stage) (known : Known) (c' : ConsoleState) → known.is_up ≡ false → PutsRest t true s known c'
    → PutsLast t [] true s c'
ends_below t s known c' down p = record {
  puts = p.puts;
  split = append-nil s.line ∙ p.split;
  lines = p.lines;
  known = known;
  follows = p.follows;
  speaks = subst (λ (x : List (List ℕ)). SpeaksOn (out_pieces x) true true s.console c')
      (sym (append-nil (texts_of p.puts)) ∙ ap (λ (x : List (List ℕ)). texts_of p.puts ++ x) (sym (end_is known false down)))
      p.speaks;
}

pub ends_up : (t h : Bool) (s : Stage) (known : Known) (c' c'' : ConsoleState) → known.is_up ≡ true → PutsRest t true s known c'
    → SpeaksOn (out_pieces ((10 ∷ []) ∷ [])) true h c' c'' → PutsLast t [] h s c''
ends_up t h s known c' c'' up p said = record {
  puts = p.puts;
  split = append-nil s.line ∙ p.split;
  lines = p.lines;
  known = known;
  follows = p.follows;
  speaks = subst (λ (x : List (List ℕ)). SpeaksOn (out_pieces x) true h s.console c'')
      (ap (λ (x : List (List ℕ)). texts_of p.puts ++ x) (sym (end_is known true up)))
      (says_join (texts_of p.puts) ((10 ∷ []) ∷ []) h s.console c' c'' p.speaks said);
}

-- ---- all of it

pub goes_to_end : (e : FollowEnding) (feed feed' : FeedState) (f f' : Follower) (c c' c'' : ConsoleState)
    → FindsEnd feed feed' f f' c c' → Finishes f'.teller.terminal e (stage_of f' c') c''
    → Goes f.teller.terminal e feed feed' (stage_of f c) c''
goes_to_end e feed feed' f f' c c' c'' p (Lacks why same) =
    inl (breaks_after e feed feed' feed' f f' c c' c'' p.goes (Starved why refl same))
goes_to_end e feed feed' f f' c c' c'' p (Comes heard is last) = inr (record {
  rounds = p.goes.rounds;
  stage = stage_of f' c';
  goes = p.goes.goes;
  none = p.none;
  heard = heard;
  is = is;
  puts = subst (λ (t : Bool). PutsLast t [] heard (stage_of f' c') c'') p.goes.terminal last;
})

pub goes_first : (t : Bool) (e : FollowEnding) (feed feed' : FeedState) (f : Follower) (c c' : ConsoleState) → f.line.items ≡ []
    → f.teller.known ≡ known_at_first → f.teller.terminal ≡ t → Goes f.teller.terminal e feed feed' (stage_of f c) c'
    → Goes t e feed feed' (first_stage c) c'
goes_first t e feed feed' f c c' line known terminal goes =
    let At : Bool → List ℕ → Known → Type 0 =
    λ u l k. Goes u e feed feed' (record { line = l; known = k; console = c }) c' in
    subst (λ (u : Bool). At u [] known_at_first) terminal
    (subst (λ (l : List ℕ). At f.teller.terminal l known_at_first) line
    (subst (λ (k : Known). At f.teller.terminal f.line.items k) known goes))

-- ---- why it stopped

said_faults : (xs : List (List ℕ)) (h : Bool) (a b : ConsoleState) → SpeaksOn (out_pieces xs) true h a b
    → b.out.faults ≡ cond h a.out.faults (raised a.out.faults)
said_faults [] h a b said =
    ap (λ c. c.out.faults) said.1 ∙ ap (λ g. cond g a.out.faults (raised a.out.faults)) (sym said.0)
said_faults (x ∷ xs) h a b (inl first) =
    said_faults xs h first.0 b first.2 ∙ ap (λ n. cond h n (raised n)) first.1.puts.kept
said_faults (x ∷ xs) h a b (inr last) =
    last.1.puts.rose ∙ ap (λ g. cond g a.out.faults (raised a.out.faults)) (sym last.0)

faults_by : (e : FollowEnding) (n : ℕ) → cond (is_heard e) n (raised n) ≡ puts_after e n
faults_by Done n = refl
faults_by _ n = refl

faults_at_end : (h : Bool) (n : ℕ) → cond h n (raised n) ≡ puts_after (ending_of h) n
faults_at_end true n = refl
faults_at_end false n = refl

-- after rounds no put has failed
rounds_faults : (t : Bool) (rs : List Round) (a b : FeedState) (s u : Stage) → Rounds t rs a b s u
    → u.console.out.faults ≡ s.console.out.faults
rounds_faults t rs a b s u goes =
    let p : PutsLines t (came_in rs) true s u = rounds_put t rs a b s u goes in
    said_faults (texts_of p.puts) true s.console u.console p.speaks

breaks_faults : (t : Bool) (e : FollowEnding) (a b : FeedState) (s : Stage) (c' : ConsoleState) → Breaks t e a b s c'
    → c'.out.faults ≡ puts_after e s.console.out.faults
breaks_faults t e a b s c' (Untaken is takes asks same) =
    ap (λ (c : ConsoleState). c.out.faults) same
    ∙ sym (ap (λ (x : FollowEnding). puts_after x s.console.out.faults) is)
breaks_faults t e a b s c' (Unput came takes p) =
    said_faults (texts_of p.puts.puts) (is_heard e) s.console c' p.puts.speaks ∙ faults_by e s.console.out.faults
breaks_faults t e a b s c' (Starved is still same) =
    ap (λ (c : ConsoleState). c.out.faults) same
    ∙ sym (ap (λ (x : FollowEnding). puts_after x s.console.out.faults) is)

pub cause_of : (t : Bool) (e : FollowEnding) (f f' : FeedState) (s : Stage) (c' : ConsoleState) → IsTakeCause e f f'
    → Goes t e f f' s c' → HasCause e f f' s.console c'
cause_of t e f f' s c' why (inl p) = record {
  alone = why.alone;
  takes = why.takes;
  puts = breaks_faults t e p.last f' p.stage c' p.breaks
      ∙ ap (puts_after e) (rounds_faults t p.rounds f p.last s p.stage p.goes);
}
cause_of t e f f' s c' why (inr p) =
    let put : PutsLast t (came_in p.rounds) p.heard s c' =
    last_join t (came_in p.rounds) p.heard s p.stage c' (rounds_put t p.rounds f f' s p.stage p.goes) p.puts in
    record {
      alone = why.alone;
      takes = why.takes;
      puts = said_faults (texts_of put.puts ++ end_texts put.known) p.heard s.console c' put.speaks
          ∙ faults_at_end p.heard s.console.out.faults ∙ ap (λ x. puts_after x s.console.out.faults) (sym p.is);
    }

pub alone_taking : (feed feed' : FeedState) → feed'.faults ≡ raised feed.faults → IsTakeCause FeedFault feed feed'
alone_taking feed feed' rose = record { alone = λ is. cc is; takes = rose }

pub alone_putting : (e : FollowEnding) (feed feed' : FeedState) → (e ≡ NoMemory) ⊎ (e ≡ ConsoleFault)
    → feed'.faults ≡ feed.faults → IsTakeCause e feed feed'
alone_putting e feed feed' (inl is) kept = record {
  alone = λ alone. cc (is, alone);
  takes = kept ∙ sym (ap (λ (x : FollowEnding). takes_after x feed.faults) is);
}
alone_putting e feed feed' (inr is) kept = record {
  alone = λ alone. cc (is, alone);
  takes = kept ∙ sym (ap (λ (x : FollowEnding). takes_after x feed.faults) is);
}

pub alone_after : (e : FollowEnding) (feed feed' feed'' : FeedState) → feed'.faults ≡ feed.faults → IsTakeCause e feed' feed''
    → IsTakeCause e feed feed''
alone_after e feed feed' feed'' kept why = record { alone = why.alone; takes = why.takes ∙ ap (takes_after e) kept }

alone_at : (heard : Bool) (feed feed' : FeedState) → feed'.faults ≡ feed.faults → IsTakeCause (ending_of heard) feed feed'
alone_at true feed feed' kept = record { alone = λ is. cc is; takes = kept }
alone_at false feed feed' kept = record { alone = λ is. cc is; takes = kept }

pub alone_at_end : (t : Bool) (e : FollowEnding) (feed feed' : FeedState) (s : Stage) (c' : ConsoleState)
    → feed'.faults ≡ feed.faults → Finishes t e s c' → IsTakeCause e feed feed'
alone_at_end t e feed feed' s c' kept (Lacks is same) = alone_putting e feed feed' (inl is) kept
alone_at_end t e feed feed' s c' kept (Comes heard is last) =
    subst (λ (x : FollowEnding). IsTakeCause x feed feed') (sym is) (alone_at heard feed feed' kept)

-- ---- after `Done`

joined_is : (xs : List (List ℕ)) → texts_on Out (out_pieces xs) ≡ flat_map (λ (x : List ℕ). x) xs
joined_is [] = refl
joined_is (x ∷ xs) = ap (λ (l : List ℕ). x ++ l) (joined_is xs)

done_heard : (heard : Bool) → Done ≡ ending_of heard → heard ≡ true
done_heard true is = refl
done_heard false is = cc is

not_done : (e : FollowEnding) → (e ≡ NoMemory) ⊎ (e ≡ ConsoleFault) → e ≢ Done
not_done e (inl is) done = cc (is, done)
not_done e (inr is) done = cc (is, done)

breaks_undone : (t : Bool) (e : FollowEnding) (a b : FeedState) (s : Stage) (c' : ConsoleState) → Breaks t e a b s c' → e ≢ Done
breaks_undone t e a b s c' (Untaken is takes asks same) done = cc (is, done)
breaks_undone t e a b s c' (Unput came takes p) done = not_done e p.ending done
breaks_undone t e a b s c' (Starved is still same) done = cc (is, done)

goes_done : (t : Bool) (feed feed' : FeedState) (c c' : ConsoleState) → IsTrue feed.tells → IsTrue c.tells
    → Goes t Done feed feed' (first_stage c) c' → HasAllLines t feed c c'
goes_done t feed feed' c c' feeds tells (inl p) =
    absurd (breaks_undone t Done p.last feed' p.stage c' p.breaks refl)
goes_done t feed feed' c c' feeds tells (inr p) =
    let old : Stage = first_stage c in
    let came : List ℕ = came_in p.rounds in
    let takes : Takes came feed feed' = rounds_take t p.rounds feed feed' old p.stage p.goes in
    let put : PutsLast t came p.heard old c' =
    last_join t came p.heard old p.stage c' (rounds_put t p.rounds feed feed' old p.stage p.goes) p.puts in
    let texts : List (List ℕ) = texts_of put.puts ++ end_texts put.known in
    let said : SpeaksOn (out_pieces texts) true true c c' =
    subst (λ (h : Bool). SpeaksOn (out_pieces texts) true h c c') (done_heard p.heard p.is) put.speaks in
    record {
      puts = put.puts;
      all = sym put.split ∙ sym (append-nil came) ∙ ap (λ (l : List ℕ). came ++ l) (sym (p.none feeds))
          ∙ sym (takes.taken feeds);
      lines = put.lines;
      known = put.known;
      follows = put.follows;
      out = spoken_is_put (out_pieces texts) c c' said tells Out ∙ ap (λ (l : List ℕ). c.out.text ++ l) (joined_is texts);
    }

says_nothing : (message : List ℕ) (a b : ConsoleState) → SaysAs true false message a b → b ≡ a
says_nothing message a b (Silence why same) = same
says_nothing message a b (Speech loud quiet puts one) = cc loud

pub all_lines_are_put : AllLinesArePut
all_lines_are_put t feed feed' c c' feeds tells p =
    subst (λ (x : ConsoleState). HasAllLines t feed c x) (sym (says_nothing _ p.between c' p.says))
    (goes_done t feed feed' c p.between feeds tells p.goes)
