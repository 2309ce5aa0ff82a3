-- A rescue of a sample is one run, and has one line.
use Rattle.std.proofs.Common.{◌≡◌, ℕ, ◌+◌, ◌<◌, ◌≤◌, Bool, true, false, ◌&&◌, is_none, List, [], ◌∷◌, length, All, inl, inr, refl, sym, ap, ◌∙◌, subst, arith}
use Rattle.std.specs.Prelude.{slice_range, count_by}
use Rattle.std.proofs.lemmas.Bool.{cases_order}
use Rattle.std.proofs.lemmas.List.Elements.{All-head, All-tail}
use Rattle.faulty_source.specs.Journal.{Reading, is_failed}
use Rattle.rescue_rules.specs.Setting.{Setting}
use Rattle.rescue_rules.specs.Machine.{Machine, has_request}
use Rattle.rescue_rules.specs.Step.{Event, limit_met}
use Rattle.rescue_rules.specs.Moves.{moves, move_of, ready, no_pass_left, state_after, has_ended, IsMove}
use Rattle.rescue_rules.specs.Counts.{counts_of}
use Rattle.rescue_rules.specs.Events.{reads_of}
use Rattle.rescue_rules.specs.declared.report.Counts.{Counts}
use Rattle.rescue_rules.proofs.RequestLemmas.{one_request}
use Rattle.rescue_rules.proofs.ReadyLemmas.{spent_request}
use Rattle.rescue_rules.proofs.SearchLemmas.{request_seen}
use Rattle.rescue_sample.specs.declared.source.Answered.{Answered}
use Rattle.rescue_sample.specs.Sample.{sample_bytes, sample_size, is_bad, IsSampleAnswer, IsSampleRead}
use Rattle.rescue_sample.specs.Line.{IsStill, IsSampleLine, sample_text}
use Rattle.rescue_sample.specs.Laws.{HasOneLine}

-- a read that asks for as much at one place gives as much, and meets the end or not
module _ (kib pos asked : ℕ) where
  not_less : (g h : ℕ) (b c : Bool) → IsSampleAnswer kib pos asked g b → IsSampleAnswer kib pos asked h c → g < h → ⊥
  not_less g h true c p q less =
      let over = p.over refl in
      let within : pos + h ≤ sample_size kib = q.there (omega (arith, less)) in
      omega (arith, over.1, within, less)
  not_less g h false c p q less =
      let met = p.failed refl (omega (arith, less, q.few)) in
      let good : is_bad kib (pos + g) ≡ false = q.good (pos + g) (omega arith) (omega (arith, less)) in
      let never : true ≡ false = sym met.1 ∙ good in
      cc

  same_count : (g h : ℕ) (b c : Bool) → IsSampleAnswer kib pos asked g b → IsSampleAnswer kib pos asked h c → g ≡ h
  same_count g h b c p q = elim (cases_order g h) [
    | inl same ↦ same
    | inr other ↦ elim other [
      | inl less ↦ absurd (not_less g h b c p q less)
      | inr more ↦ absurd (not_less h g c b q p more)
    ]
  ]

  same_end : (g : ℕ) (b c : Bool) → IsSampleAnswer kib pos asked g b → IsSampleAnswer kib pos asked g c → b ≡ c
  same_end g true true p q = refl
  same_end g false false p q = refl
  same_end g true false p q =
      let over = p.over refl in
      let failed = q.failed refl over.0 in
      absurd (omega (arith, over.1, failed.0))
  same_end g false true p q =
      let over = q.over refl in
      let failed = p.failed refl over.0 in
      absurd (omega (arith, over.1, failed.0))

-- so it is one reading
abbrev read_as : (pos asked : ℕ) → List ℕ → Bool → Reading
read_as pos asked given ended = record { pos = pos; asked = asked; given = given; ended = ended }

same_read : (kib : ℕ) (r q : Reading) → IsSampleRead kib r → IsSampleRead kib q → r.pos ≡ q.pos → r.asked ≡ q.asked
    → r ≡ q
same_read kib r q a b at much =
    let there : IsSampleAnswer kib r.pos r.asked (length q.given) q.ended =
    subst (λ (n : ℕ). IsSampleAnswer kib n r.asked (length q.given) q.ended) (sym at)
    (subst (λ (n : ℕ). IsSampleAnswer kib q.pos n (length q.given) q.ended) (sym much) b.answer) in
    let long : length r.given ≡ length q.given =
    same_count kib r.pos r.asked (length r.given) (length q.given) r.ended q.ended a.answer there in
    let over : r.ended ≡ q.ended =
    same_end kib r.pos r.asked (length q.given) r.ended q.ended
    (subst (λ (n : ℕ). IsSampleAnswer kib r.pos r.asked n r.ended) long a.answer) there in
    let given : r.given ≡ q.given =
    a.from ∙ ap (λ (n : ℕ). slice_range (sample_bytes kib) r.pos (r.pos + n)) long
    ∙ ap (λ (n : ℕ). slice_range (sample_bytes kib) n (n + length q.given)) at ∙ sym b.from in
    ap (λ (n : ℕ). read_as n r.asked r.given r.ended) at ∙ ap (λ (n : ℕ). read_as q.pos n r.given r.ended) much
    ∙ ap (λ (l : List ℕ). read_as q.pos q.asked l r.ended) given ∙ ap (read_as q.pos q.asked q.given) over

-- and one event, where the clock stands still
abbrev event_as : Reading → (before after : ℕ) → Event
event_as r before after = record { reading = r; before = before; after = after }

same_event : (kib : ℕ) (e f : Event) → IsSampleRead kib e.reading → IsSampleRead kib f.reading → IsStill e → IsStill f
    → e.reading.pos ≡ f.reading.pos
    → e.reading.pos + e.reading.asked ≡ f.reading.pos + f.reading.asked → e ≡ f
same_event kib e f a b still still' at end =
    let much : e.reading.asked ≡ f.reading.asked = omega (arith, at, end) in
    let read : e.reading ≡ f.reading = same_read kib e.reading f.reading a b at much in
    let before : e.before ≡ f.before = still.before ∙ sym still'.before in
    let after : e.after ≡ f.after = still.after ∙ sym still'.after in
    ap (λ (r : Reading). event_as r e.before e.after) read ∙ ap (λ (n : ℕ). event_as f.reading n e.after) before
    ∙ ap (event_as f.reading f.before) after

left_part : (a b : Bool) → (a && b) ≡ true → a ≡ true
left_part true b e = refl
left_part false b e = absurd (cc)

-- where a run is over there is no move
no_move : (s : Setting) (m : Machine) (e : Event) → has_ended s m ≡ true → IsMove s (move_of s m e) → ⊥
no_move s m e over is =
    let none : no_pass_left (ready s m).passes ≡ true =
    left_part (no_pass_left (ready s m).passes) (is_none (limit_met s m)) over in
    let spent : has_request s (ready s m) ≡ false = spent_request s (ready s m) none in
    let asks : has_request s (ready s m) ≡ true =
    request_seen s (ready s m) e.reading.pos (e.reading.pos + e.reading.asked) is.request in
    let never : true ≡ false = sym asks ∙ spent in
    cc

-- the moves of events, as one fact each
abbrev AreMoves : Setting → Machine → List Event → Type 0
AreMoves s m es = All (IsMove s) (moves s m es)

abbrev AreOver : Setting → Machine → List Event → Type 0
AreOver s m es = has_ended s (state_after s m es) ≡ true

abbrev AreRead : (kib : ℕ) → List Event → Type 0
AreRead kib es = All (λ (e : Event). IsSampleRead kib e.reading) es

one_run : (kib : ℕ) (s : Setting) (m : Machine) (es fs : List Event) → AreMoves s m es → AreMoves s m fs
    → AreRead kib es → AreRead kib fs → All IsStill es → All IsStill fs → AreOver s m es → AreOver s m fs → es ≡ fs
one_run kib s m [] [] a b r q i j o p = refl
one_run kib s m [] (f ∷ fs) a b r q i j o p =
    absurd (no_move s m f o (All-head (IsMove s) (move_of s m f) (moves s (move_of s m f).after fs) b))
one_run kib s m (e ∷ es) [] a b r q i j o p =
    absurd (no_move s m e p (All-head (IsMove s) (move_of s m e) (moves s (move_of s m e).after es) a))
one_run kib s m (e ∷ es) (f ∷ fs) a b r q i j o p =
    let R : Event → Type 0 = λ x. IsSampleRead kib x.reading in
    let first = All-head (IsMove s) (move_of s m e) (moves s (move_of s m e).after es) a in
    let other = All-head (IsMove s) (move_of s m f) (moves s (move_of s m f).after fs) b in
    let asked = one_request s (ready s m) e.reading.pos (e.reading.pos + e.reading.asked) f.reading.pos
    (f.reading.pos + f.reading.asked) first.request other.request in
    let same : e ≡ f = same_event kib e f (All-head R e es r) (All-head R f fs q) (All-head IsStill e es i)
    (All-head IsStill f fs j) asked.0 asked.1 in
    let back : f ≡ e = sym same in
    let tail : es ≡ fs =
    one_run kib s (move_of s m e).after es fs
    (All-tail (IsMove s) (move_of s m e) (moves s (move_of s m e).after es) a)
    (subst (λ (x : Event). AreMoves s (move_of s m x).after fs) back
    (All-tail (IsMove s) (move_of s m f) (moves s (move_of s m f).after fs) b))
    (All-tail R e es r) (All-tail R f fs q) (All-tail IsStill e es i) (All-tail IsStill f fs j) o
    (subst (λ (x : Event). AreOver s (move_of s m x).after fs) back p) in
    ap (λ (x : Event). x ∷ es) same ∙ ap (λ (xs : List Event). f ∷ xs) tail

-- the text of a line by the events of its run
abbrev text_by : (kib : ℕ) → Setting → Machine → List Event → List ℕ
text_by kib s m es =
    sample_text kib (record { reads = length es; failed = count_by is_failed (reads_of es) })
    (counts_of s.domain (state_after s m es).map)

text_is : (kib : ℕ) (s : Setting) (m : Machine) (line : List ℕ) → (l : IsSampleLine kib s m line)
    → line ≡ text_by kib s m l.events
text_is kib s m line l =
    let A : (reads failed : ℕ) → Answered = λ reads failed. record { reads = reads; failed = failed } in
    let counts : Counts = counts_of s.domain (state_after s m l.events).map in
    l.text ∙ ap (λ (n : ℕ). sample_text kib (A n l.answered.failed) counts) l.reads
    ∙ ap (λ (n : ℕ). sample_text kib (A (length l.events) n) counts) l.failed

pub one_line : HasOneLine
one_line kib s m line line' a b =
    let same : a.events ≡ b.events =
    one_run kib s m a.events b.events a.run.run.each b.run.run.each a.run.read b.run.read a.run.still b.run.still
    a.run.over b.run.over in
    text_is kib s m line a ∙ ap (text_by kib s m) same ∙ sym (text_is kib s m line' b)
