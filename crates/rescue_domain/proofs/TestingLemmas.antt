-- How many positions come before the first that isn't finished.
use Rattle.std.proofs.Common.{◌≡◌, ℕ, zero, suc, ◌+◌, ◌-◌, ◌<◌, ◌≤◌, nat_lt, min, Bool, true, false, IsTrue, cond, List, [], ◌∷◌, ◌++◌, length, map, take, drop, Option, Some, None, Ok, refl, ap, sym, subst, ◌∙◌, arith, ⊎_elim}
use Rattle.std.specs.List.{slice_get}
use Rattle.std.proofs.lemmas.Bool.{cases_lt, cond-true, cond-false, lt-ltb, le-ltb, false_from_ne_true}
use Rattle.block_list.specs.declared.status.Status.{Status}
use Rattle.std.proofs.lemmas.List.{length-take-le, take-take, map-append}
use Rattle.block_list.specs.declared.status.Status.TheVariants.{NonTried, NonTrimmed, NonScraped, BadSector, Finished}
use Rattle.block_list.specs.Map.{Has}
use Rattle.block_list.specs.Places.{IsRangeUp}
use Rattle.faulty_source.specs.declared.source.Got.{Got}
use Rattle.faulty_source.specs.declared.source.Got.TheVariants.{Read}
use Rattle.faulty_source.specs.Got.{count_of, is_end}
use Rattle.faulty_source.specs.Journal.{Reading}
use Rattle.faulty_source.specs.JournalGains.{JournalGains}
use Rattle.faulty_source.specs.SourceState.{SourceState, Below}
use Rattle.faulty_source.specs.SourceChanges.{Keeps, Stays, AnswersRead}
use Rattle.rescue_domain.specs.Finished.{is_finished, is_finished_at}
use Rattle.rescue_domain.specs.Testing.{finished_front, IsFront, seen, state_seen}

front_step : (statuses : List Status) (pos n : ℕ) (b : Bool) → is_finished_at statuses pos ≡ b
    → IsFront statuses (pos + 1) n (finished_front statuses (pos + 1) n)
    → IsFront statuses pos (suc n) (cond b (1 + finished_front statuses (pos + 1) n) 0)
front_step statuses pos n true e k = record {
  few = omega (arith, k.few);
  finished = λ x l u. ⊎_elim
      (λ (v : pos < x). k.finished x (omega arith) (omega arith))
      (λ (v : x ≤ pos). let same : x ≡ pos = omega arith in rw same e)
      (cases_lt pos x);
  stops = λ u.
      let z : pos + 1 + finished_front statuses (pos + 1) n ≡ pos + (1 + finished_front statuses (pos + 1) n) = omega arith in
      rw z at (k.stops (omega arith));
}
front_step statuses pos n false e k = record {
  few = omega arith;
  finished = λ x l u. absurd (omega arith);
  stops = λ u. let z : pos + 0 ≡ pos = omega arith in rw z e;
}

pub front_is : (statuses : List Status) (pos n : ℕ) → IsFront statuses pos n (finished_front statuses pos n)
front_is statuses pos zero = record { few = omega arith; finished = λ x l u. absurd (omega arith); stops = λ u. absurd (omega arith) }
front_is statuses pos (suc n) =
    front_step statuses pos n (is_finished_at statuses pos) refl (front_is statuses (pos + 1) n)

-- there is one such number
pub fronts_agree : (statuses : List Status) (pos n a b : ℕ) → IsFront statuses pos n a → IsFront statuses pos n b → a ≡ b
fronts_agree statuses pos n a b p q = ⊎_elim
    (λ (u : a < b).
    let e = p.stops (omega (arith, q.few)) in
    let f = q.finished (pos + a) (omega arith) (omega arith) in
    absurd (cc))
    (λ (u : b ≤ a). ⊎_elim
    (λ (v : b < a).
    let e = q.stops (omega (arith, p.few)) in
    let f = p.finished (pos + b) (omega arith) (omega arith) in
    absurd (cc))
    (λ (v : a ≤ b). omega arith)
    (cases_lt b a))
    (cases_lt a b)

some_finished : (status : Option Status) → is_finished status ≡ true → status ≡ Some Finished
some_finished (Some Finished) e = refl
some_finished _ e = cc

-- where finished positions go on up to an end, so many of n are in front
pub front_of_range : (statuses : List Status) (pos end n : ℕ) → IsRangeUp (Has statuses Finished) pos end
    → min n (end - pos) ≡ finished_front statuses pos n
front_of_range statuses pos end n u = fronts_agree statuses pos n _ _ (record {
  few = omega arith;
  finished = λ x l v. ap is_finished (u.within x l (omega arith));
  stops = λ v.
      let z : pos + min n (end - pos) ≡ end = omega (arith, u.begun) in
      rw z (false_from_ne_true (is_finished_at statuses end) (λ e. u.stops (some_finished (slice_get statuses end) e)));
}) (front_is statuses pos n)

-- What no call changes is so in test mode too, where the journal gained.
keeps_seen : (reference : ℕ) (statuses : List Status) (old new : SourceState) → Keeps old new
    → (IsTrue old.tells → JournalGains old.journal new.journal)
    → Keeps (state_seen reference statuses old) (state_seen reference statuses new)
keeps_seen reference statuses old new keeps gains = record {
  tells = keeps.tells;
  scheduled = refl;
  bytes = keeps.bytes;
  end = keeps.end;
  opens = keeps.opens;
  faults = keeps.faults;
  losses = keeps.losses;
  below = cc (keeps.scheduled, keeps.below);
  journals_below = λ tells. (gains tells, keeps.journals_below tells);
}

-- a read that gave more than is finished is seen as one that failed past that,
seen_cut : (statuses : List Status) (r : Reading) (n : ℕ) → length r.given ≡ n → finished_front statuses r.pos n < n
    → seen statuses r ≡ record r { given = take (finished_front statuses r.pos n) r.given; ended = false }
seen_cut statuses r n count fewer =
    let front : ℕ = finished_front statuses r.pos (length r.given) in
    cond-true (nat_lt front (length r.given)) (record r { given = take front r.given; ended = false }) r
    (lt-ltb front (length r.given) (subst (λ (k : ℕ). finished_front statuses r.pos k < k) (sym count) fewer))
    ∙ ap (λ (k : ℕ). record r { given = take (finished_front statuses r.pos k) r.given; ended = false }) count

-- and one that gave no more than that as it was
seen_all : (statuses : List Status) (r : Reading) (n : ℕ) → length r.given ≡ n → n ≤ finished_front statuses r.pos n
    → seen statuses r ≡ r
seen_all statuses r n count all =
    let front : ℕ = finished_front statuses r.pos (length r.given) in
    cond-false (nat_lt front (length r.given)) (record r { given = take front r.given; ended = false }) r
    (le-ltb front (length r.given) (subst (λ (k : ℕ). k ≤ finished_front statuses r.pos k) (sym count) all))

-- a read of the source below, as it is seen
module _ (reference : ℕ) (statuses : List Status) (pos asked : ℕ) (got : Got) (buf : List ℕ) (l : count_of got ≤ length buf) where
  abbrev reading : Reading
  reading = record { pos = pos; asked = asked; given = take (count_of got) buf; ended = is_end got }

  abbrev front : ℕ
  front = finished_front statuses pos (count_of got)

  stays_seen : {E : Type 0} (old new : SourceState) → AnswersRead {E = E} pos asked buf (Ok got) old new
      → Stays (state_seen reference statuses old) (state_seen reference statuses new)
  stays_seen old new a = record {
    keeps = keeps_seen reference statuses old new a.stays.keeps
        (λ tells. record { reads = reading ∷ []; told = a.told tells });
    input = a.stays.input;
    name = a.stays.name;
    opens = a.stays.opens;
    faults = a.stays.faults;
  }

  told_seen : {E : Type 0} (old new : SourceState) (r : Reading) → AnswersRead {E = E} pos asked buf (Ok got) old new
      → seen statuses reading ≡ r → IsTrue old.tells
      → map (seen statuses) new.journal ≡ map (seen statuses) old.journal ++ r ∷ []
  told_seen old new r a is tells =
      ap (map (seen statuses)) (a.told tells) ∙ map-append (seen statuses) old.journal (reading ∷ [])
      ∙ ap (λ (read : Reading). map (seen statuses) old.journal ++ read ∷ []) is

  -- it failed at the first position that isn't finished, if it gave a byte of one
  pub read_cut : {E : Type 0} (old new : SourceState) → AnswersRead {E = E} pos asked buf (Ok got) old new
      → front < count_of got
      → AnswersRead {E = E} pos asked buf (Ok (Read front)) (state_seen reference statuses old) (state_seen reference statuses new)
  read_cut old new a fewer = record {
    stays = stays_seen old new a;
    right = λ t.
        let e = ap (take front) (a.right t) in
        let z : pos + count_of got - pos ≡ count_of got = omega arith in
        let y : pos + front - pos ≡ front = omega arith in
        let few = (front_is statuses pos (count_of got)).few in
        sym (take-take front (count_of got) buf few) ∙ e
        ∙ rw (z, y) (take-take front (count_of got) (drop pos old.bytes) few);
    told = told_seen old new _ a
        (seen_cut statuses reading (count_of got) (length-take-le (count_of got) buf l) fewer
        ∙ ap (λ (given : List ℕ). record { pos = pos; asked = asked; given = given; ended = false })
        (take-take front (count_of got) buf (front_is statuses pos (count_of got)).few));
    ends = λ is. absurd (cc);
    over = λ is. absurd (cc);
    kept = a.kept;
    lost = a.lost;
  }

  -- else it is as it was
  pub read_all : {E : Type 0} (old new : SourceState) → AnswersRead {E = E} pos asked buf (Ok got) old new
      → count_of got ≤ front
      → AnswersRead {E = E} pos asked buf (Ok got) (state_seen reference statuses old) (state_seen reference statuses new)
  read_all old new a all = record {
    stays = stays_seen old new a;
    right = a.right;
    told = told_seen old new reading a
        (seen_all statuses reading (count_of got) (length-take-le (count_of got) buf l) all);
    ends = a.ends;
    over = a.over;
    kept = a.kept;
    lost = a.lost;
  }

-- What a call did to a source in test mode that was made of one in this state, and leaves it in that one:
module _ (reference reference' : ℕ) (statuses statuses' : List Status) (old new test : SourceState)
    (made : test ≡ state_seen reference statuses old) (kept : Keeps test (state_seen reference' statuses' new)) where
  keeps : Keeps (state_seen reference statuses old) (state_seen reference' statuses' new)
  keeps = subst (λ (s : SourceState). Keeps s (state_seen reference' statuses' new)) made kept

  same_below : ◌≡◌ {A = Below}
      (record { reference = reference'; test_map = statuses'; is_scheduled = new.is_scheduled })
      (record { reference = reference; test_map = statuses; is_scheduled = old.is_scheduled })
  same_below = cc keeps.below

  same_map : statuses' ≡ statuses
  same_map = ap (λ (b : Below). b.test_map) same_below

  -- it reads the same source in the same map,
  pub seen_alike : state_seen reference' statuses' new ≡ state_seen reference statuses new
  seen_alike =
      ap (λ (n : ℕ). state_seen n statuses' new) (ap (λ (b : Below). b.reference) same_below)
      ∙ ap (λ (m : List Status). state_seen reference m new) same_map

  -- so what is said of that call can be said of what the source below tells;
  pub said_below : (P : SourceState → SourceState → Type 0) → P test (state_seen reference' statuses' new)
      → P (state_seen reference statuses old) (state_seen reference statuses new)
  said_below P said =
      subst (λ (s : SourceState). P s (state_seen reference statuses new)) made
      (subst (λ (s : SourceState). P test s) seen_alike said)

  -- that one keeps what no call changes,
  pub keeps_below : Keeps old new
  keeps_below = record {
    tells = keeps.tells;
    scheduled = ap (λ (b : Below). b.is_scheduled) same_below;
    bytes = keeps.bytes;
    end = keeps.end;
    opens = keeps.opens;
    faults = keeps.faults;
    losses = keeps.losses;
    below = cc keeps.below;
    journals_below = λ tells. (keeps.journals_below tells).1;
  }

  -- stays open if the one in test mode does,
  pub stays_below : Stays test (state_seen reference' statuses' new) → Stays old new
  stays_below stays =
      let s : Stays (state_seen reference statuses old) (state_seen reference' statuses' new) =
      subst (λ (s : SourceState). Stays s (state_seen reference' statuses' new)) made stays in
      record { keeps = keeps_below; input = s.input; name = s.name; opens = s.opens; faults = s.faults }
