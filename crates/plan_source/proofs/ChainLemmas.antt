-- The puts of a journal's lines, one after another.
use Rattle.std.proofs.Common.{◌≡◌, ℕ, ◌≤◌, true, false, IsTrue, List, [], ◌∷◌, ◌++◌, map, Option, inl, refl, sym, ap, subst, ◌∙◌, arith, append_assoc}
use Rattle.std.proofs.lemmas.List.{append-nil, map-append}
use Rattle.fault_count.specs.Schedule.{with_call}
use Rattle.faulty_source.specs.declared.journal.ReadEntry.{ReadEntry}
use Rattle.rescue_console.specs.declared.console.Channel.TheVariants.{Out}
use Rattle.rescue_console.specs.ConsoleState.{ConsoleState, StaysBeside, Puts}
use Rattle.rescue_console.specs.Speaking.{SpokenPiece, PutsWhole, PutsBroken, SpeaksOn, out_pieces}
use Rattle.rescue_console.proofs.SpeakingLemmas.{one_piece_is_said, speeches_join}
use Rattle.plan_source.specs.declared.loss.PlanLoss.{PlanLoss}
use Rattle.plan_source.specs.Lines.{line_of_entry, lines_of_entries}
use Rattle.plan_source.specs.Printing.{BreaksLast, HasPrinted, after_each, but_last, is_line_lost, last_of}
use Rattle.plan_source.proofs.PrintingLemmas.{EndsWith, begins_as, but_last_is, each_more, ends_with, goes_on, last_is, lines_more, one_line}

-- a text as a piece
abbrev pub piece_of : List ℕ → SpokenPiece
piece_of text = record { channel = Out; text = text }

-- the lines of a journal as pieces
abbrev pub pieces_of : List ReadEntry → List SpokenPiece
pieces_of es = out_pieces (map line_of_entry es)

-- A console after the lines of entries were put, each by one put: what it tells follows from what it told before.
abbrev pub with_lines : List ReadEntry → ConsoleState → ConsoleState
with_lines es s = record s {
  out = record { text = s.out.text ++ lines_of_entries es; faults = s.out.faults };
  schedule = after_each es s.schedule;
}

-- the same after one line
abbrev with_line : ReadEntry → ConsoleState → ConsoleState
with_line e s = record s {
  out = record { text = s.out.text ++ line_of_entry e; faults = s.out.faults };
  schedule = with_call s.schedule;
}

-- the same with this text
abbrev with_text : ConsoleState → List ReadEntry → List ℕ → ConsoleState
with_text s es text =
    record s { out = record { text = text; faults = s.out.faults }; schedule = after_each es s.schedule }

itself : (n : ℕ) → n ≤ n
itself n = omega arith

line_put : (e : ReadEntry) (s : ConsoleState) → PutsWhole (piece_of (line_of_entry e)) s (with_line e s)
line_put e s = record {
  puts = record {
    stays = record {
      keeps = record { tells = refl; scheduled = refl; out = itself s.out.faults; err = itself s.err.faults };
      other = refl;
    };
    whole = λ tells. refl;
    kept = refl;
    fed = λ scheduled. refl;
  };
  one = λ scheduled. refl;
}

pub lines_put : (es : List ReadEntry) (s : ConsoleState) → SpeaksOn (pieces_of es) true true s (with_lines es s)
lines_put [] s = (refl, ap (with_text s []) (append-nil s.out.text))
lines_put (e ∷ es) s =
    let m : ConsoleState = with_line e s in
    let same : with_lines es m ≡ with_lines (e ∷ es) s =
    ap (with_text s (e ∷ es)) (append_assoc s.out.text (line_of_entry e) (lines_of_entries es)) in
    inl (m, line_put e s, subst (λ (x : ConsoleState). SpeaksOn (pieces_of es) true true m x) same (lines_put es m))

pieces_more : (es : List ReadEntry) (e : ReadEntry) → pieces_of es ++ piece_of (line_of_entry e) ∷ [] ≡ pieces_of (es ++ e ∷ [])
pieces_more es e =
    sym (map-append piece_of (map line_of_entry es) (line_of_entry e ∷ []))
    ∙ ap out_pieces (sym (map-append line_of_entry es (e ∷ [])))

-- What a console got of the lines of a journal that isn't empty, by how the last one's put ended.
module _ (start now : ConsoleState) (before : List ReadEntry) (last : ReadEntry) where
  abbrev Calls : Type 0
  Calls = IsTrue start.is_scheduled → now.schedule ≡ after_each (before ++ last ∷ []) start.schedule

  abbrev between : ConsoleState
  between = with_lines before start

  stays_so : StaysBeside Out start now → StaysBeside Out between now
  stays_so s = record {
    keeps = record { tells = s.keeps.tells; scheduled = s.keeps.scheduled; out = s.keeps.out; err = s.keeps.err };
    other = s.other;
  }

  one_call : Calls → IsTrue start.is_scheduled → now.schedule ≡ with_call between.schedule
  one_call calls scheduled = calls scheduled ∙ each_more before last start.schedule

  text_is : start.out.text ++ lines_of_entries (before ++ last ∷ []) ≡ between.out.text ++ line_of_entry last
  text_is =
      ap (λ (t : List ℕ). start.out.text ++ t) (lines_more before last ∙ ap (λ (t : List ℕ). lines_of_entries before ++ t) (one_line last))
      ∙ sym (append_assoc start.out.text (lines_of_entries before) (line_of_entry last))

  last_put : Puts Out (lines_of_entries (before ++ last ∷ [])) start now → Calls
      → PutsWhole (piece_of (line_of_entry last)) between now
  last_put p calls = record {
    puts = record {
      stays = stays_so p.stays;
      whole = λ tells. p.whole tells ∙ text_is;
      kept = p.kept;
      fed = p.fed;
    };
    one = one_call calls;
  }

  all_put : Puts Out (lines_of_entries (before ++ last ∷ [])) start now → Calls
      → SpeaksOn (pieces_of (before ++ last ∷ [])) true true start now
  all_put p calls =
      let piece : SpokenPiece = piece_of (line_of_entry last) in
      subst (λ (ps : List SpokenPiece). SpeaksOn ps true true start now) (pieces_more before last)
      (speeches_join (pieces_of before) (piece ∷ []) true true true start between now (lines_put before start)
      (one_piece_is_said piece between now (last_put p calls)))

  after_is : start.out.text ++ lines_of_entries (but_last (before ++ last ∷ [])) ≡ between.out.text
  after_is = ap (λ (es : List ReadEntry). start.out.text ++ lines_of_entries es) (but_last_is before last)

  -- The put of the last line failed: a beginning of it was put, and nothing by a schedule.
  pub record LastBreaks : Type 0 where
    pub breaks : PutsBroken (piece_of (line_of_entry last)) between now
    pub unput : IsTrue start.is_scheduled → IsTrue start.tells → now.out.text ≡ between.out.text

  pub last_breaks : BreaksLast (before ++ last ∷ []) start now → Calls → LastBreaks
  last_breaks b calls =
      let piece : lines_of_entries (last_of (before ++ last ∷ [])) ≡ line_of_entry last =
      ap lines_of_entries (last_is before last) ∙ one_line last in
      record {
        breaks = record {
          puts = record {
            stays = stays_so b.stays;
            part = λ tells.
                goes_on (line_of_entry last) between.out.text now.out.text
                (begins_as (lines_of_entries (last_of (before ++ last ∷ []))) (line_of_entry last)
                (start.out.text ++ lines_of_entries (but_last (before ++ last ∷ []))) between.out.text now.out.text piece
                after_is (b.text tells));
            rose = b.rose;
          };
          one = one_call calls;
        };
        unput = λ scheduled tells. b.unput scheduled tells ∙ after_is;
      }

-- Each line was put, by one put.
pub whole_lines : (start now : ConsoleState) (es : List ReadEntry) (lost : Option PlanLoss) → HasPrinted start now es lost
    → is_line_lost lost ≡ false → SpeaksOn (pieces_of es) true true start now
whole_lines start now [] lost h whole = (refl, h.none refl)
whole_lines start now (e ∷ es) lost h whole =
    let end : EndsWith (e ∷ es) = ends_with (e ∷ es) (omega arith) in
    let g : HasPrinted start now (end.before ++ end.last ∷ []) lost =
    subst (λ (xs : List ReadEntry). HasPrinted start now xs lost) end.are h in
    subst (λ (xs : List ReadEntry). SpeaksOn (pieces_of xs) true true start now) (sym end.are)
    (all_put start now end.before end.last (g.whole whole) g.calls)
