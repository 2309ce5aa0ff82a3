-- The pattern: a front that is repeated after itself, and what came of its read.
use Rattle.std.proofs.Common.{◌≡◌, ℕ, ◌+◌, ◌-◌, ◌<◌, ◌≤◌, ◌%◌, false, min, List, [], ◌∷◌, ◌++◌, length, take, None, Some, Ok, Err, IsTrue, get_or, slice_get, refl, sym, ap, ◌∙◌, inl, inr, subst, arith, length-append}
use Rattle.std.specs.List.{slice_range}
use Rattle.std.proofs.Math.ListN.{set, get_or-append}
use Rattle.std.proofs.Math.Nat.{mod-eq_of_lt, mod-eq-sub-mod, mod-lt, ne_of_lt}
use Rattle.std.proofs.Math.Seq.{take-append_seam, take-length}
use Rattle.std.proofs.lemmas.Bool.{cases_lt}
use Rattle.std.proofs.lemmas.List.{get_or-set_same, get_or-set_other, length-take-le}
use Rattle.std.proofs.lemmas.List.Elements.{All-nil, All-cons}
use Rattle.std.proofs.lemmas.Option.{slice_get-get_or}
use Rattle.faulty_source.specs.declared.source.Got.{Got}
use Rattle.faulty_source.specs.Got.{count_of, is_end}
use Rattle.faulty_source.specs.Journal.{Reading}
use Rattle.faulty_source.specs.SourceState.{SourceState}
use Rattle.faulty_source.specs.Journal.{IsFrom}
use Rattle.crash_site.specs.SiteState.{SiteState}
use Rattle.task_files.specs.declared.ending.Ending.{Ending}
use Rattle.task_files.specs.declared.ending.Ending.TheVariants.{EmptyPattern, PatternUnread, NoMemory}
use Rattle.task_files.specs.Answers.{Causes, drafting_left}
use Rattle.task_files.specs.Findings.{HasGainedReads}
use Rattle.task_sweeps.specs.Pattern.{IsPatternRead, IsRepeated, PatternRead, PatternCause, PatternTaken, ReadsPattern, TakesPattern}

-- a list is filled up to a place by the front of another
pub record IsFilledTo (ys xs : List ℕ) (front i : ℕ) : Type 0 where
  pub long : length xs ≡ length ys
  pub low : front ≤ i
  pub each : (j : ℕ) → j < i → get_or xs j 0 ≡ get_or ys (j % front) 0

pub filled_first : (ys : List ℕ) (front : ℕ) → IsFilledTo ys ys front front
filled_first ys front = record {
  long = refl;
  low = omega arith;
  each = λ j lt. ap (λ (k : ℕ). get_or ys k 0) (sym (mod-eq_of_lt lt));
}

next_each : (ys xs : List ℕ) (front i j : ℕ) → 0 < front → i < length xs → IsFilledTo ys xs front i → j < i + 1
    → get_or (set xs i (get_or xs (i - front) 0)) j 0 ≡ get_or ys (j % front) 0
next_each ys xs front i j some within h lt =
    elim (cases_lt j i) [
      | inl before ↦ get_or-set_other xs i j (get_or xs (i - front) 0) 0 (ne_of_lt before) ∙ h.each j before
      | inr past ↦
          let here : j ≡ i = omega (arith, lt, past) in
          let less : i - front < i = omega (arith, h.low, some) in
          rw here (get_or-set_same xs i (get_or xs (i - front) 0) 0 within ∙ h.each (i - front) less
          ∙ ap (λ (k : ℕ). get_or ys k 0) (sym (mod-eq-sub-mod h.low)))
    ]

pub filled_next : (ys xs new : List ℕ) (front i : ℕ) → 0 < front → i < length xs → IsFilledTo ys xs front i
    → new ≡ set xs i (get_or xs (i - front) 0) → length new ≡ length xs → IsFilledTo ys new front (i + 1)
filled_next ys xs new front i some within h is same = record {
  long = same ∙ h.long;
  low = omega (arith, h.low);
  each = λ j lt. ap (λ (l : List ℕ). get_or l j 0) is ∙ next_each ys xs front i j some within h lt;
}

pub filled_all : (ys xs : List ℕ) (front i : ℕ) → 0 < front → front ≤ length ys → IsFilledTo ys xs front (length ys)
    → i < length ys → slice_get xs i ≡ slice_get ys (i % front)
filled_all ys xs front i some fits h lt =
    let part : i % front < front = mod-lt i some in
    slice_get-get_or xs i 0 (omega (arith, h.long, lt)) ∙ ap Some (h.each i lt)
    ∙ sym (slice_get-get_or ys (i % front) 0 (omega (arith, part, fits)))

-- ---- what came of the read

-- a read of a pattern by what it left in the front of its buffer
abbrev pub reading_of : (asked : ℕ) → (buf : List ℕ) → Got → Reading
reading_of asked buf got = record { pos = 0; asked = asked; given = take (count_of got) buf; ended = is_end got }

-- a read that gave this, whether the source tells or not
pub record Answered (asked : ℕ) (buf : List ℕ) (got : Got) (s s' : SourceState) : Type 0 where
  pub long : length buf ≡ asked
  pub count : count_of got ≤ asked
  pub right : IsTrue s.tells → take (count_of got) buf ≡ slice_range s.bytes 0 (0 + count_of got)
  pub told : IsTrue s.tells → s'.journal ≡ s.journal ++ reading_of asked buf got ∷ []

given_long : (asked : ℕ) (buf : List ℕ) (got : Got) (s s' : SourceState) → Answered asked buf got s s'
    → length (take (count_of got) buf) ≡ count_of got
given_long asked buf got s s' a = length-take-le (count_of got) buf (omega (arith, a.count, a.long))

one_read : (asked : ℕ) (buf : List ℕ) (got : Got) (s s' : SourceState) → Answered asked buf got s s'
    → IsTrue s.tells → HasGainedReads None s s' (reading_of asked buf got ∷ [])
one_read asked buf got s s' a tells = record {
  raw = reading_of asked buf got ∷ [];
  journal = a.told tells;
  seen_are = refl;
  right = All-cons (IsFrom s.bytes) (reading_of asked buf got) []
      (a.right tells ∙ ap (λ (n : ℕ). slice_range s.bytes 0 (0 + n)) (sym (given_long asked buf got s s' a)))
      (All-nil (IsFrom s.bytes));
}

pattern_read : (cluster end asked : ℕ) (buf : List ℕ) (got : Got) (s s' : SourceState) → asked ≡ min cluster end
    → Answered asked buf got s s' → IsPatternRead cluster end (reading_of asked buf got)
pattern_read cluster end asked buf got s s' is a = record {
  pos = refl;
  asked = is;
  given = omega (arith, given_long asked buf got s s' a, a.count);
}

pub short_read : (cluster end asked : ℕ) (buf buffer : List ℕ) (got : Got) (s s' : SourceState) → asked ≡ min cluster end
    → Answered asked buf got s s' → count_of got < asked
    → ReadsPattern {T = Unit {0}} cluster end buffer (Err PatternUnread) s s'
short_read cluster end asked buf buffer got s s' is a short = record {
  reads = reading_of asked buf got ∷ [];
  gained = λ tells. one_read asked buf got s s' a tells;
  comes = inr (
    reading_of asked buf got,
    refl,
    pattern_read cluster end asked buf got s s' is a,
    omega (arith, given_long asked buf got s s' a, short),
    refl,
  );
}

front_of : (xs ys : List ℕ) (k : ℕ) → k < length xs → slice_get (xs ++ ys) k ≡ slice_get xs k
front_of xs ys k lt =
    slice_get-get_or (xs ++ ys) k 0 (omega (arith, length-append xs ys, lt)) ∙ ap Some (get_or-append xs ys 0 k lt)
    ∙ sym (slice_get-get_or xs k 0 lt)

-- a buffer that was filled by its own front
pub record IsFilledBy (buf rest new : List ℕ) (front : ℕ) : Type 0 where
  pub some : 0 < front
  pub long : length new ≡ length (buf ++ rest)
  pub each : (i : ℕ) → i < length (buf ++ rest) → slice_get new i ≡ slice_get (buf ++ rest) (i % front)

repeated : (buf rest new : List ℕ) (front size : ℕ) → length buf ≡ front → length (buf ++ rest) ≡ size
    → IsFilledBy buf rest new front → IsRepeated buf size new
repeated buf rest new front size long whole h = record {
  long = h.long ∙ whole;
  each = λ i lt. h.each i (omega (arith, whole, lt))
      ∙ front_of buf rest (i % front) (omega (arith, mod-lt i h.some, long))
      ∙ ap (λ (n : ℕ). slice_get buf (i % n)) (sym long);
}

pub whole_read : (cluster end asked front : ℕ) (buf rest new : List ℕ) (got : Got) (s s' : SourceState) → asked ≡ front
    → asked ≡ min cluster end → Answered asked buf got s s' → asked ≤ count_of got → length (buf ++ rest) ≡ cluster
    → IsFilledBy buf rest new front → ReadsPattern {T = Unit {0}} cluster end new (Ok tt) s s'
whole_read cluster end asked front buf rest new got s s' same is a all whole h =
    let count : count_of got ≡ length buf = omega (arith, a.count, a.long, all) in
    let given : take (count_of got) buf ≡ buf = ap (λ (n : ℕ). take n buf) count ∙ take-length buf in
    record {
      reads = reading_of asked buf got ∷ [];
      gained = λ tells. one_read asked buf got s s' a tells;
      comes = (
        reading_of asked buf got,
        refl,
        pattern_read cluster end asked buf got s s' is a,
        given_long asked buf got s s' a ∙ count ∙ a.long,
        subst (λ (g : List ℕ). IsRepeated g cluster new) (sym given)
            (repeated buf rest new front cluster (a.long ∙ same) whole h),
      );
    }

-- a buffer that was read whole is that of a pattern
pub taken_read : (cluster end size count : ℕ) (new rest : List ℕ) (s s' : SourceState) → 0 < end → size ≡ cluster
    → count ≡ cluster → ReadsPattern {T = Unit {0}} size end new (Ok tt) s s'
    → TakesPattern cluster end (Ok (take count (new ++ rest))) s s'
taken_read cluster end size count new rest s s' some same all r =
    let read : PatternRead cluster end r.reads (Ok new) =
    subst (λ (n : ℕ). PatternRead n end r.reads (Ok new)) same r.comes in
    let long : length new ≡ cluster = read.4.long in
    let whole : take count (new ++ rest) ≡ new =
    ap (λ (n : ℕ). take n (new ++ rest)) (all ∙ sym long) ∙ take-append_seam new rest in
    record {
      reads = r.reads;
      gained = r.gained;
      comes = inr (inr (some, subst (λ (b : List ℕ). PatternRead cluster end r.reads (Ok b)) (sym whole) read));
    }

-- why a pattern wasn't taken is counted, and nothing else
abbrev CountsAs : (T : Type 0) → Ending → (s s' : SourceState) → SiteState → Type 0
CountsAs T e s s' d = PatternCause {T = T} (Err e) s s' → Causes e s s' d d

pub pattern_causes : (T : Type 0) (cluster end : ℕ) (reads : List Reading) (e : Ending) (s s' : SourceState) (d : SiteState)
    → PatternTaken cluster end reads (Err e) → CountsAs T e s s' d
pattern_causes T cluster end reads e s s' d (inl (zero, is, none)) =
    let same : e ≡ EmptyPattern = cc in
    subst (λ (v : Ending). CountsAs T v s s' d) (sym same)
    (λ c. record { opens = c.faults; reads = c.losses; calls = refl; also = tt })
pattern_causes T cluster end reads e s s' d (inr (inl (some, is, none))) =
    let same : e ≡ NoMemory = cc in
    subst (λ (v : Ending). CountsAs T v s s' d) (sym same)
    (λ c. record { opens = c.faults; reads = c.losses; calls = refl; also = tt })
pattern_causes T cluster end reads e s s' d (inr (inr (some, inl (is, none)))) =
    subst (λ (v : Ending). CountsAs T v s s' d) (sym is)
    (λ c. record { opens = c.faults; reads = c.losses; calls = refl; also = tt })
pattern_causes T cluster end reads e s s' d (inr (inr (some, inr (r, one, pattern, less, is)))) =
    subst (λ (v : Ending). CountsAs T v s s' d) (sym is)
    (λ c. record { opens = c.faults; reads = c.losses; calls = refl; also = tt })

-- and leaves no draft begun
pub pattern_leaves : (cluster end : ℕ) (reads : List Reading) (e : Ending) → PatternTaken cluster end reads (Err e)
    → drafting_left e ≡ false
pattern_leaves cluster end reads e (inl (zero, is, none)) =
    let same : e ≡ EmptyPattern = cc in
    subst (λ (v : Ending). drafting_left v ≡ false) (sym same) refl
pattern_leaves cluster end reads e (inr (inl (some, is, none))) =
    let same : e ≡ NoMemory = cc in
    subst (λ (v : Ending). drafting_left v ≡ false) (sym same) refl
pattern_leaves cluster end reads e (inr (inr (some, inl (is, none)))) =
    subst (λ (v : Ending). drafting_left v ≡ false) (sym is) refl
pattern_leaves cluster end reads e (inr (inr (some, inr (r, one, pattern, less, is)))) =
    subst (λ (v : Ending). drafting_left v ≡ false) (sym is) refl
