-- What a source of zeros answers to a read.
use Rattle.std.proofs.Common.{◌≡◌, ℕ, ◌+◌, ◌-◌, ◌<◌, ◌≤◌, Bool, true, false, cond, ◌&&◌, nat_eq, nat_lt, List, [], ◌∷◌, ◌++◌, length, map, take, drop, replicate, All, Ok, refl, sym, ap, subst, ◌∙◌, arith}
use Rattle.std.proofs.lemmas.Bool.Decides.{nat_tests}
use Rattle.std.proofs.lemmas.List.{map-append, take-replicate, drop-replicate}
use Rattle.std.proofs.lemmas.List.Elements.{All-append, All-cons, All-nil, All-same}
use Rattle.std.specs.List.{slice_range}
use Rattle.block_list.specs.declared.status.Status.{Status}
use Rattle.faulty_source.specs.declared.journal.ReadEntry.{ReadEntry}
use Rattle.faulty_source.specs.declared.source.Got.{Got}
use Rattle.faulty_source.specs.declared.source.Got.TheVariants.{Read, End}
use Rattle.faulty_source.specs.Got.{count_of, is_end}
use Rattle.faulty_source.specs.Journal.{Reading}
use Rattle.faulty_source.specs.SourceChanges.{AnswersRead}
use Rattle.rescue_domain.proofs.TestingLemmas.{front_is}
use Rattle.plan_source.specs.Answering.{IsSeenIn, there, given_at, meets_end, got_at, reading_of, plan_source_state}

either_count : (b : Bool) (n : ℕ) → count_of (cond b (End n) (Read n)) ≡ n
either_count true n = refl
either_count false n = refl

either_end : (b : Bool) (n : ℕ) → is_end (cond b (End n) (Read n)) ≡ b
either_end true n = refl
either_end false n = refl

both_parts : (a b : Bool) → (a && b) ≡ true → (a ≡ true) × (b ≡ true)
both_parts true b e = (refl, e)
both_parts false b e = absurd (cc)

pub passed_eq : (m n : ℕ) → nat_eq m n ≡ true → m ≡ n
passed_eq m n e = grind (arith, nat_tests)

passed_lt : (m n : ℕ) → nat_lt m n ≡ true → m < n
passed_lt m n e = grind (arith, nat_tests)

-- zeros of zeros
zeros_in : (n pos count : ℕ) → count ≤ n - pos → slice_range {X = ℕ} (replicate n 0) pos (pos + count) ≡ replicate count 0
zeros_in n pos count few =
    let size : pos + count - pos ≡ count = omega arith in
    ap (λ (k : ℕ). take k (drop pos (replicate n 0))) size
    ∙ ap (take count) (drop-replicate pos n 0) ∙ take-replicate count (n - pos) 0 few

module _ (len : ℕ) (test : List Status) (pos asked : ℕ) where
  pub count_is : count_of (got_at len test pos asked) ≡ given_at len test pos asked
  count_is = either_count (meets_end len test pos asked) (given_at len test pos asked)

  pub end_is : is_end (got_at len test pos asked) ≡ meets_end len test pos asked
  end_is = either_end (meets_end len test pos asked) (given_at len test pos asked)

  given_few : given_at len test pos asked ≤ there len pos asked
  given_few = (front_is test pos (there len pos asked)).few

  pub count_few : count_of (got_at len test pos asked) ≤ asked
  count_few = omega (arith, count_is, given_few)

  count_within : count_of (got_at len test pos asked) ≤ len - pos
  count_within = omega (arith, count_is, given_few)

  -- it meets the end only where all that there is is less than was asked for
  record EndsShort : Type 0 where
    all : given_at len test pos asked ≡ there len pos asked
    less : there len pos asked < asked

  ends_short : is_end (got_at len test pos asked) ≡ true → EndsShort
  ends_short e =
      let p = both_parts (nat_eq (given_at len test pos asked) (there len pos asked)) (nat_lt (there len pos asked) asked)
      (sym end_is ∙ e) in
      record { all = passed_eq _ _ p.0; less = passed_lt _ _ p.1 }

-- an entry of what a read gives is of such a read
pub entry_seen : (len : ℕ) (test : List Status) (pos asked given : ℕ) (ended : Bool) (got : Got)
    → got ≡ got_at len test pos asked → given ≡ count_of got → ended ≡ is_end got
    → IsSeenIn len test (record { pos = pos; asked = asked; given = given; ended = ended })
entry_seen len test pos asked given ended got is count end = record {
  given = count ∙ ap count_of is ∙ count_is len test pos asked;
  ended = end ∙ ap is_end is ∙ end_is len test pos asked;
}

-- entries with one more are of such reads
pub seen_more : (len : ℕ) (test : List Status) (es es' es'' : List ReadEntry) (e : ReadEntry)
    → All (IsSeenIn len test) es → es' ≡ es → es'' ≡ es' ++ e ∷ [] → IsSeenIn len test e → All (IsSeenIn len test) es''
seen_more len test es es' es'' e seen same more one =
    All-same (IsSeenIn len test) es'' (es ++ e ∷ []) (more ∙ ap (λ (xs : List ReadEntry). xs ++ e ∷ []) same)
    (All-append (IsSeenIn len test) es (e ∷ []) seen (All-cons (IsSeenIn len test) e [] one (All-nil (IsSeenIn len test))))

-- what a read does that was answered, and is kept in the journal
pub read_answers : {E : Type 0} (len : ℕ) (test : List Status) (reference : ℕ) (es : List ReadEntry) (name : List ℕ)
    (opened : Bool) (opens faults losses pos asked : ℕ) (buf : List ℕ) (got : Got) (e : ReadEntry)
    → got ≡ got_at len test pos asked
    → e ≡ record { pos = pos; asked = asked; given = count_of got; ended = is_end got }
    → take (count_of got) buf ≡ replicate (count_of got) 0
    → AnswersRead {E = E} pos asked buf (Ok got) (plan_source_state len test reference es name opened opens faults losses)
    (plan_source_state len test reference (es ++ e ∷ []) name opened opens faults losses)
read_answers len test reference es name opened opens faults losses pos asked buf got e is entry zeros =
    let few : count_of got ≤ len - pos = subst (λ (g : Got). count_of g ≤ len - pos) (sym is) (count_within len test pos asked) in
    record {
      stays = record {
        keeps = record {
          tells = refl;
          scheduled = refl;
          bytes = λ tells. refl;
          end = λ tells. refl;
          opens = omega arith;
          faults = omega arith;
          losses = omega arith;
          below = refl;
          journals_below = λ tells. tt;
        };
        input = refl;
        name = λ tells. refl;
        opens = refl;
        faults = refl;
      };
      right = λ tells. zeros ∙ sym (zeros_in len pos (count_of got) few);
      told = λ tells.
          map-append reading_of es (e ∷ [])
          ∙ ap (λ (r : Reading). map reading_of es ++ r ∷ [])
          (ap reading_of entry
          ∙ ap (λ (given : List ℕ). record { pos = pos; asked = asked; given = given; ended = is_end got }) (sym zeros));
      ends = λ end.
          let s = ends_short len test pos asked (ap is_end (sym is) ∙ end) in
          let c : count_of got ≡ given_at len test pos asked = ap count_of is ∙ count_is len test pos asked in
          omega (arith, s.all, s.less, c);
      over = λ end tells.
          let s = ends_short len test pos asked (ap is_end (sym is) ∙ end) in
          let c : count_of got ≡ given_at len test pos asked = ap count_of is ∙ count_is len test pos asked in
          omega (arith, s.all, s.less, c);
      kept = refl;
      lost = tt;
    }

-- the same if the state after it is told otherwise
pub read_answers_by : {E : Type 0} (len : ℕ) (test : List Status) (reference : ℕ) (es es' es'' : List ReadEntry)
    (name : List ℕ) (was is : Bool) (opens faults losses pos asked : ℕ) (buf buf' : List ℕ) (got : Got) (e : ReadEntry)
    → got ≡ got_at len test pos asked
    → e ≡ record { pos = pos; asked = asked; given = count_of got; ended = is_end got }
    → length buf ≡ asked → buf' ≡ replicate (length buf) 0 → es' ≡ es → es'' ≡ es' ++ e ∷ [] → is ≡ was
    → AnswersRead {E = E} pos asked buf' (Ok got) (plan_source_state len test reference es name was opens faults losses)
    (plan_source_state len test reference es'' name is opens faults losses)
read_answers_by {E} len test reference es es' es'' name was is opens faults losses pos asked buf buf' got e got_is entry
    size filled same more on =
    let few : count_of got ≤ length buf = subst (λ (g : Got). count_of g ≤ length buf) (sym got_is)
    (subst (λ (n : ℕ). count_of (got_at len test pos asked) ≤ n) (sym size) (count_few len test pos asked)) in
    let zeros : take (count_of got) buf' ≡ replicate (count_of got) 0 =
    ap (take (count_of got)) filled ∙ take-replicate (count_of got) (length buf) 0 few in
    subst (λ (b : Bool). AnswersRead {E = E} pos asked buf' (Ok got)
    (plan_source_state len test reference es name was opens faults losses)
    (plan_source_state len test reference es'' name b opens faults losses)) (sym on)
    (subst (λ (xs : List ReadEntry). AnswersRead {E = E} pos asked buf' (Ok got)
    (plan_source_state len test reference es name was opens faults losses)
    (plan_source_state len test reference xs name was opens faults losses))
    (sym (more ∙ ap (λ (xs : List ReadEntry). xs ++ e ∷ []) same))
    (read_answers len test reference es name was opens faults losses pos asked buf' got e got_is entry zeros))
