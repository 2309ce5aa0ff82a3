-- The lines of a rescue are read as they were printed.
use Rattle.std.proofs.Common.{◌≡◌, ◌≢◌, ℕ, ◌+◌, ◌*◌, ◌/◌, ◌^◌, ◌<◌, ◌≤◌, min, nat_eq, nat_lt, Bool, true, false, cond, List, [], ◌∷◌, ◌++◌, Option, Some, None, MatchOption, option_map, Bor, codes, refl, sym, ap, ◌∙◌, append-nil, append_assoc, arith}
use Rattle.std.specs.Char.{digit_value}
use Rattle.std.specs.Fmt.{decimal}
use Rattle.std.specs.Str.Parse.{AllDigits, digits_value_after}
use Rattle.std.proofs.lemmas.Bool.Decides.{nat_tests}
use Rattle.std.proofs.lemmas.Fmt.{decimal_is_IsNumeral_wide}
use Rattle.std.proofs.lemmas.List.{append_cancel_left}
use Rattle.std.proofs.Math.Nat.{div-le_self}
use Rattle.mapfile_text.specs.declared.state.Current.{Current}
use Rattle.mapfile_text.specs.declared.state.Current.TheVariants.{Copying, Trimming, Scraping, Retrying, Filling, Generating, Finished}
use Rattle.rescue_rules.specs.declared.report.Report.{Report}
use Rattle.rescue_rules.specs.Lines.{last_front, phase_text, report_text}
use Rattle.rescue_lines.specs.declared.lines.Figures.{Figures}
use Rattle.rescue_lines.specs.declared.lines.Head.{Head}
use Rattle.rescue_lines.specs.declared.lines.Head.TheVariants.{Phase, Last}
use Rattle.rescue_lines.specs.declared.lines.Start.TheVariants.{InPhase, Over}
use Rattle.rescue_lines.specs.Lines.{IsHead, IsReport, Strips, StripsHead, StripsNumber, begins_plain, figures_line, figures_of, head_text, most, number_at, opening_front, start_of, start_with}

-- ---- a piece

pub strips : (piece p s : List ℕ) (old : Option (List ℕ)) (r : Option (Bor (List ℕ))) → p ≡ piece → old ≡ Some s
    → MatchOption r ((rest : List ℕ) → s ≢ p ++ rest) (λ x. s ≡ p ++ x.now)
    → Strips piece old (option_map (λ x. x.now) r)
strips piece p s old None e is none = record {
  printed = λ rest f. cc;
  read = λ rest f.
      let here : s ≡ p ++ rest = cc in
      absurd (none rest here);
}
strips piece p s old (Some x) e is same = record {
  printed = λ rest f. cc;
  read = λ rest f.
      let here : p ++ x.now ≡ p ++ rest = cc in
      ap (λ (l : List ℕ). Some l) (append_cancel_left p x.now rest here);
}

pub lost : (piece : List ℕ) (old : Option (List ℕ)) → old ≡ None → Strips piece old old
lost piece old is = record { printed = λ rest f. cc; read = λ rest f. cc }

-- ---- a number

digits_grow : (v : ℕ) (ds : List ℕ) → v ≤ digits_value_after 10 v ds
digits_grow v [] = omega arith
digits_grow v (d ∷ ds) = let more = digits_grow (v * 10 + digit_value d) ds in omega (arith, more)

number_more : (v : ℕ) (ds after rest : List ℕ) → AllDigits 10 ds → begins_plain after ≡ true
    → digits_value_after 10 v ds ≤ most → number_at v (ds ++ (after ++ rest)) ≡ digits_value_after 10 v ds
number_more v [] [] rest all plain few = cc
number_more v [] (c ∷ cs) rest all plain few = rw plain refl
number_more v (d ∷ ds) after rest all plain few =
    let fits : v * 10 + digit_value d ≤ most = omega (arith, digits_grow (v * 10 + digit_value d) ds, few) in
    let next : min (min (v * 10) most + digit_value d) most ≡ v * 10 + digit_value d = omega (arith, fits) in
    let is : nat_lt 9 (digit_value d) ≡ false = grind (arith, nat_tests, all.0) in
    rw (is, next) (number_more (v * 10 + digit_value d) ds after rest all.1 plain few)

-- the digits of a number, and then a text, are read as the number
number_read : (n : ℕ) (after rest : List ℕ) → n < 2 ^ 128 → begins_plain after ≡ true
    → number_at 0 (decimal n ++ (after ++ rest)) ≡ n
number_read n after rest few plain =
    let is = decimal_is_IsNumeral_wide n (omega (arith, few)) in
    number_more 0 (decimal n) after rest is.0.1 plain (omega (arith, is.1, few)) ∙ is.1

pub number_strips : (n : ℕ) (t after : List ℕ) (old mid new : Option (List ℕ)) → t ≡ decimal n → Strips t old mid
    → Strips after mid new → ((rest : List ℕ) → old ≡ Some rest → n ≡ number_at 0 rest) → begins_plain after ≡ true
    → StripsNumber (2 ^ 128) after n old new
number_strips n t after old mid new is first second value plain = record {
  printed = λ rest f.
      first.printed (after ++ rest) (second.printed rest f) ∙ ap (λ (l : List ℕ). Some (l ++ (after ++ rest))) is;
  read = λ m rest few e.
      let same : n ≡ m = value _ e ∙ number_read m after rest few plain in
      let here : old ≡ Some (t ++ (after ++ rest))
      = e ∙ ap (λ (l : List ℕ). Some (l ++ (after ++ rest))) (sym (is ∙ ap decimal same)) in
      (same, second.read rest (first.read (after ++ rest) here));
}

-- ---- a head

group : (a b c d : List ℕ) → a ++ b ++ c ++ d ≡ a ++ (b ++ (c ++ d))
group a b c d = simp append_assoc

-- heads of a phase, and heads of the last line
abbrev pub InThat : Current → Head → Type 0
InThat current h = IsHead h × (start_with h ≡ InPhase current)

abbrev pub IsOver : Bool → Head → Type 0
IsOver done h = start_with h ≡ Over done

module _ (current : Current) (pass : ℕ) (t : List ℕ) (old a b new : Option (List ℕ)) (is : t ≡ phase_text current)
    (first : Strips t old a) (second : Strips (codes " pass ") a b)
    (third : StripsNumber (2 ^ 64) (codes ": position ") pass b new) where
  pass_text : (n : ℕ) (rest : List ℕ)
      → t ++ (codes " pass " ++ (decimal n ++ (codes ": position " ++ rest)))
      ≡ head_text (Phase current n) ++ (codes ": position " ++ rest)
  pass_text n rest =
      ap (λ (l : List ℕ). l ++ (codes " pass " ++ (decimal n ++ (codes ": position " ++ rest)))) is
      ∙ sym (group (phase_text current) (codes " pass ") (decimal n) (codes ": position " ++ rest))

  phase_read : (h : Head) (rest : List ℕ) → InThat current h
      → old ≡ Some (head_text h ++ (codes ": position " ++ rest)) → (Phase current pass ≡ h) × (new ≡ Some rest)
  phase_read (Last done) rest has e = let no = has.1 in cc
  phase_read (Phase c n) rest has e =
      let begins = has.1 in
      let same : c ≡ current = cc in
      let here : old ≡ Some (t ++ (codes " pass " ++ (decimal n ++ (codes ": position " ++ rest))))
      = e ∙ ap (λ (k : Current). Some (head_text (Phase k n) ++ (codes ": position " ++ rest))) same
      ∙ ap (λ (l : List ℕ). Some l) (sym (pass_text n rest)) in
      let found = third.read n rest has.0 (second.read _ (first.read _ here)) in
      let n_is = found.0 in
      (cc, found.1)

  pub phase_strips : StripsHead (InThat current) (Phase current pass) old new
  phase_strips = record {
    printed = λ rest f.
        first.printed _ (second.printed _ (third.printed rest f)) ∙ ap (λ (l : List ℕ). Some l) (pass_text pass rest);
    read = phase_read;
  }

module _ (done : Bool) (t : List ℕ) (old a new : Option (List ℕ)) (is : t ≡ last_front done) (first : Strips t old a)
    (second : Strips (codes ": position ") a new) where
  last_read : (h : Head) (rest : List ℕ) → IsOver done h → old ≡ Some (head_text h ++ (codes ": position " ++ rest))
      → (Last done ≡ h) × (new ≡ Some rest)
  last_read (Phase c n) rest has e = cc
  last_read (Last d) rest has e =
      let same : d ≡ done = cc in
      let here : old ≡ Some (t ++ (codes ": position " ++ rest))
      = e ∙ ap (λ (l : List ℕ). Some (l ++ (codes ": position " ++ rest))) (ap last_front same ∙ sym is) in
      (cc, second.read _ (first.read _ here))

  pub last_strips : StripsHead (IsOver done) (Last done) old new
  last_strips = record {
    printed = λ rest f.
        first.printed _ (second.printed rest f) ∙ ap (λ (l : List ℕ). Some (l ++ (codes ": position " ++ rest))) is;
    read = last_read;
  }

-- heads of a kind are heads of another
pub narrows : (Is Other : Head → Type 0) (result : Head) (old new : Option (List ℕ)) → ((h : Head) → Other h → Is h)
    → StripsHead Is result old new → StripsHead Other result old new
narrows Is Other result old new is s = record {
  printed = s.printed;
  read = λ h rest has e. s.read h rest (is h has) e;
}

-- the bytes of a head say how a line begins
start_right : (h : Head) (rest : List ℕ) → start_of (head_text h ++ (codes ": position " ++ rest)) ≡ start_with h
start_right (Phase Copying n) rest = refl
start_right (Last true) rest = refl
start_right _ rest = refl

-- ---- a line

regroup : (h p a s b t c u d v e w f x g y z : List ℕ)
    → h ++ p ++ a ++ s ++ b ++ t ++ c ++ u ++ d ++ v ++ e ++ w ++ f ++ x ++ g ++ y ++ z
    ≡ h ++ (p ++ (a ++ (s ++ (b ++ (t ++ (c ++ (u ++ (d ++ (v ++ (e ++ (w ++ (f ++ (x ++ (g ++ ((y ++ z) ++ [])))))))))))))))
regroup h p a s b t c u d v e w f x g y z = simp (append_assoc, append-nil)

-- the line of figures, after its head and the front of its first figure
abbrev later_text : Figures → List ℕ
later_text f =
    decimal f.position ++ (codes ", rescued " ++ (decimal f.rescued ++ (codes " B, failed " ++ (decimal f.failed.bytes
    ++ (codes " B in " ++ (decimal f.failed.areas ++ (codes " areas, " ++ (decimal f.errors ++ (codes " read errors, "
    ++ (decimal f.seconds ++ (codes " s, " ++ (decimal f.rate ++ (codes " B/s\n" ++ [])))))))))))))

line_parts : (f : Figures) → figures_line f ≡ head_text f.head ++ (codes ": position " ++ later_text f)
line_parts f =
    regroup (head_text f.head) (codes ": position ") (decimal f.position) (codes ", rescued ") (decimal f.rescued)
    (codes " B, failed ") (decimal f.failed.bytes) (codes " B in ") (decimal f.failed.areas) (codes " areas, ")
    (decimal f.errors) (codes " read errors, ") (decimal f.seconds) (codes " s, ") (decimal f.rate) (codes " B/s")
    (10 ∷ [])

rate_by : (written taken : ℕ) (none : Bool) → written < 2 ^ 64 → cond none 0 (written * 1000 / taken) < 2 ^ 128
rate_by written taken true few = omega arith
rate_by written taken false few = omega (arith, div-le_self (written * 1000) taken, few)

abbrev made : Head → (a b c d e s t : ℕ) → Figures
made head a b c d e s t = record {
  head = head;
  position = a;
  rescued = b;
  failed = record { bytes = c; areas = d };
  errors = e;
  seconds = s;
  rate = t;
}

same : (f q : Figures) → f.head ≡ q.head → f.position ≡ q.position → f.rescued ≡ q.rescued
    → f.failed.bytes ≡ q.failed.bytes → f.failed.areas ≡ q.failed.areas → f.errors ≡ q.errors → f.seconds ≡ q.seconds
    → f.rate ≡ q.rate → f ≡ q
same f q a b c d e x y z =
    ap (λ (h : Head). made h f.position f.rescued f.failed.bytes f.failed.areas f.errors f.seconds f.rate) a
    ∙ ap (λ (n : ℕ). made q.head n f.rescued f.failed.bytes f.failed.areas f.errors f.seconds f.rate) b
    ∙ ap (λ (n : ℕ). made q.head q.position n f.failed.bytes f.failed.areas f.errors f.seconds f.rate) c
    ∙ ap (λ (n : ℕ). made q.head q.position q.rescued n f.failed.areas f.errors f.seconds f.rate) d
    ∙ ap (λ (n : ℕ). made q.head q.position q.rescued q.failed.bytes n f.errors f.seconds f.rate) e
    ∙ ap (λ (n : ℕ). made q.head q.position q.rescued q.failed.bytes q.failed.areas n f.seconds f.rate) x
    ∙ ap (λ (n : ℕ). made q.head q.position q.rescued q.failed.bytes q.failed.areas q.errors n f.rate) y
    ∙ ap (λ (n : ℕ). made q.head q.position q.rescued q.failed.bytes q.failed.areas q.errors q.seconds n) z

module _ (line : List ℕ) (f : Figures) (o0 o1 o2 o3 o4 o5 o6 o7 o8 : Option (List ℕ)) (begin : o0 ≡ Some line)
    (head : StripsHead (λ h. IsHead h × (start_with h ≡ start_of line)) f.head o0 o1)
    (n1 : StripsNumber (2 ^ 64) (codes ", rescued ") f.position o1 o2)
    (n2 : StripsNumber (2 ^ 64) (codes " B, failed ") f.rescued o2 o3)
    (n3 : StripsNumber (2 ^ 64) (codes " B in ") f.failed.bytes o3 o4)
    (n4 : StripsNumber (2 ^ 64) (codes " areas, ") f.failed.areas o4 o5)
    (n5 : StripsNumber (2 ^ 64) (codes " read errors, ") f.errors o5 o6)
    (n6 : StripsNumber (2 ^ 64) (codes " s, ") f.seconds o6 o7)
    (n7 : StripsNumber (2 ^ 128) (codes " B/s\n") f.rate o7 o8) where
  -- what was read to the end prints to the line
  pub line_printed : o8 ≡ Some [] → line ≡ figures_line f
  line_printed end =
      let all : Some line ≡ Some (head_text f.head ++ (codes ": position " ++ later_text f))
      = sym begin ∙ head.printed _ (n1.printed _ (n2.printed _ (n3.printed _ (n4.printed _ (n5.printed _ (n6.printed _ (n7.printed [] end))))))) in
      let is : line ≡ head_text f.head ++ (codes ": position " ++ later_text f) = cc in
      is ∙ sym (line_parts f)

  -- and the line of a report is read to its end, as its figures
  pub line_read : (h : Head) (r : Report) → IsHead h → IsReport r → line ≡ report_text (head_text h) r
      → (o8 ≡ Some []) × (f ≡ figures_of h r)
  line_read h r is report text =
      let q : Figures = figures_of h r in
      let parts : line ≡ head_text h ++ (codes ": position " ++ later_text q) = text ∙ line_parts q in
      let begins : start_with h ≡ start_of line = sym (ap start_of parts ∙ start_right h (later_text q)) in
      let e0 = head.read h _ (is, begins) (begin ∙ ap (λ (l : List ℕ). Some l) parts) in
      let e1 = n1.read q.position _ report.position e0.1 in
      let e2 = n2.read q.rescued _ report.rescued e1.1 in
      let e3 = n3.read q.failed.bytes _ report.bytes e2.1 in
      let e4 = n4.read q.failed.areas _ report.areas e3.1 in
      let e5 = n5.read q.errors _ report.errors e4.1 in
      let e6 = n6.read q.seconds _ (omega (arith, report.taken)) e5.1 in
      let e7 = n7.read q.rate [] (rate_by r.written r.taken (nat_eq r.taken 0) report.written) e6.1 in
      (e7.1, same f q e0.0 e1.0 e2.0 e3.0 e4.0 e5.0 e6.0 e7.0)

-- ---- the size of the domain

pub opening_printed : (size : ℕ) (line : List ℕ) (o0 o1 o2 : Option (List ℕ)) → o0 ≡ Some line
    → Strips (codes "domain of ") o0 o1 → StripsNumber (2 ^ 64) (codes " B from ") size o1 o2 → (o2 ≡ None → ⊥)
    → (rest : List ℕ) × (line ≡ opening_front size ++ rest)
opening_printed size line o0 o1 None begin first second some = absurd (some refl)
opening_printed size line o0 o1 (Some rest) begin first second some =
    let all : Some line ≡ Some (codes "domain of " ++ (decimal size ++ (codes " B from " ++ rest)))
    = sym begin ∙ first.printed _ (second.printed rest refl) in
    let is : line ≡ codes "domain of " ++ (decimal size ++ (codes " B from " ++ rest)) = cc in
    (rest, is ∙ sym (group (codes "domain of ") (decimal size) (codes " B from ") rest))
