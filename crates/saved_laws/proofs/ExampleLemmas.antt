-- The small run's requests, one by one.
use Rattle.std.proofs.Common.{◌≡◌, ℕ, zero, suc, ◌<◌, ◌≤◌, Bool, true, false, [], ◌∷◌, refl, arith}
use Rattle.std.proofs.lemmas.List.Elements.{All-nil, All-cons}
use Rattle.rescue_rules.specs.Setting.{Setting}
use Rattle.rescue_rules.specs.Machine.{is_wanted}
use Rattle.rescue_rules.specs.Moves.{Move, move_of, IsMove}
use Rattle.saved_laws.specs.Examples.{read_at, five, five_start, SavesWhatIsOld}

abbrev s : Setting
s = five

abbrev pub v1 : Move
v1 = move_of s five_start (read_at 0 2 0 0)

abbrev pub v2 : Move
v2 = move_of s v1.after (read_at 2 0 0 5)

abbrev pub v3 : Move
v3 = move_of s v2.after (read_at 4 2 5 40000)

abbrev pub v4 : Move
v4 = move_of s v3.after (read_at 6 0 40000 50)

abbrev pub v5 : Move
v5 = move_of s v4.after (read_at 8 2 50 100)

-- each place from a read's position on is wanted
wanted_1 : (y : ℕ) → 0 ≤ y → y < 10 → is_wanted s v1.before y ≡ true
wanted_1 zero from to = refl
wanted_1 (suc zero) from to = refl
wanted_1 (suc (suc zero)) from to = refl
wanted_1 (suc (suc (suc zero))) from to = refl
wanted_1 (suc (suc (suc (suc zero)))) from to = refl
wanted_1 (suc (suc (suc (suc (suc zero))))) from to = refl
wanted_1 (suc (suc (suc (suc (suc (suc zero)))))) from to = refl
wanted_1 (suc (suc (suc (suc (suc (suc (suc zero))))))) from to = refl
wanted_1 (suc (suc (suc (suc (suc (suc (suc (suc zero)))))))) from to = refl
wanted_1 (suc (suc (suc (suc (suc (suc (suc (suc (suc zero))))))))) from to = refl
wanted_1 (suc (suc (suc (suc (suc (suc (suc (suc (suc (suc y)))))))))) from to =
    absurd (let no : ⊥ = omega (arith, to) in no)

wanted_2 : (y : ℕ) → 2 ≤ y → y < 10 → is_wanted s v2.before y ≡ true
wanted_2 zero from to = absurd (let no : ⊥ = omega (arith, from) in no)
wanted_2 (suc zero) from to = absurd (let no : ⊥ = omega (arith, from) in no)
wanted_2 (suc (suc zero)) from to = refl
wanted_2 (suc (suc (suc zero))) from to = refl
wanted_2 (suc (suc (suc (suc zero)))) from to = refl
wanted_2 (suc (suc (suc (suc (suc zero))))) from to = refl
wanted_2 (suc (suc (suc (suc (suc (suc zero)))))) from to = refl
wanted_2 (suc (suc (suc (suc (suc (suc (suc zero))))))) from to = refl
wanted_2 (suc (suc (suc (suc (suc (suc (suc (suc zero)))))))) from to = refl
wanted_2 (suc (suc (suc (suc (suc (suc (suc (suc (suc zero))))))))) from to = refl
wanted_2 (suc (suc (suc (suc (suc (suc (suc (suc (suc (suc y)))))))))) from to =
    absurd (let no : ⊥ = omega (arith, to) in no)

wanted_3 : (y : ℕ) → 4 ≤ y → y < 10 → is_wanted s v3.before y ≡ true
wanted_3 zero from to = absurd (let no : ⊥ = omega (arith, from) in no)
wanted_3 (suc zero) from to = absurd (let no : ⊥ = omega (arith, from) in no)
wanted_3 (suc (suc zero)) from to = absurd (let no : ⊥ = omega (arith, from) in no)
wanted_3 (suc (suc (suc zero))) from to = absurd (let no : ⊥ = omega (arith, from) in no)
wanted_3 (suc (suc (suc (suc zero)))) from to = refl
wanted_3 (suc (suc (suc (suc (suc zero))))) from to = refl
wanted_3 (suc (suc (suc (suc (suc (suc zero)))))) from to = refl
wanted_3 (suc (suc (suc (suc (suc (suc (suc zero))))))) from to = refl
wanted_3 (suc (suc (suc (suc (suc (suc (suc (suc zero)))))))) from to = refl
wanted_3 (suc (suc (suc (suc (suc (suc (suc (suc (suc zero))))))))) from to = refl
wanted_3 (suc (suc (suc (suc (suc (suc (suc (suc (suc (suc y)))))))))) from to =
    absurd (let no : ⊥ = omega (arith, to) in no)

wanted_4 : (y : ℕ) → 6 ≤ y → y < 10 → is_wanted s v4.before y ≡ true
wanted_4 zero from to = absurd (let no : ⊥ = omega (arith, from) in no)
wanted_4 (suc zero) from to = absurd (let no : ⊥ = omega (arith, from) in no)
wanted_4 (suc (suc zero)) from to = absurd (let no : ⊥ = omega (arith, from) in no)
wanted_4 (suc (suc (suc zero))) from to = absurd (let no : ⊥ = omega (arith, from) in no)
wanted_4 (suc (suc (suc (suc zero)))) from to = absurd (let no : ⊥ = omega (arith, from) in no)
wanted_4 (suc (suc (suc (suc (suc zero))))) from to = absurd (let no : ⊥ = omega (arith, from) in no)
wanted_4 (suc (suc (suc (suc (suc (suc zero)))))) from to = refl
wanted_4 (suc (suc (suc (suc (suc (suc (suc zero))))))) from to = refl
wanted_4 (suc (suc (suc (suc (suc (suc (suc (suc zero)))))))) from to = refl
wanted_4 (suc (suc (suc (suc (suc (suc (suc (suc (suc zero))))))))) from to = refl
wanted_4 (suc (suc (suc (suc (suc (suc (suc (suc (suc (suc y)))))))))) from to =
    absurd (let no : ⊥ = omega (arith, to) in no)

wanted_5 : (y : ℕ) → 8 ≤ y → y < 10 → is_wanted s v5.before y ≡ true
wanted_5 zero from to = absurd (let no : ⊥ = omega (arith, from) in no)
wanted_5 (suc zero) from to = absurd (let no : ⊥ = omega (arith, from) in no)
wanted_5 (suc (suc zero)) from to = absurd (let no : ⊥ = omega (arith, from) in no)
wanted_5 (suc (suc (suc zero))) from to = absurd (let no : ⊥ = omega (arith, from) in no)
wanted_5 (suc (suc (suc (suc zero)))) from to = absurd (let no : ⊥ = omega (arith, from) in no)
wanted_5 (suc (suc (suc (suc (suc zero))))) from to = absurd (let no : ⊥ = omega (arith, from) in no)
wanted_5 (suc (suc (suc (suc (suc (suc zero)))))) from to = absurd (let no : ⊥ = omega (arith, from) in no)
wanted_5 (suc (suc (suc (suc (suc (suc (suc zero))))))) from to = absurd (let no : ⊥ = omega (arith, from) in no)
wanted_5 (suc (suc (suc (suc (suc (suc (suc (suc zero)))))))) from to = refl
wanted_5 (suc (suc (suc (suc (suc (suc (suc (suc (suc zero))))))))) from to = refl
wanted_5 (suc (suc (suc (suc (suc (suc (suc (suc (suc (suc y)))))))))) from to =
    absurd (let no : ⊥ = omega (arith, to) in no)

unwanted : (o : Bool) → o ≡ false → o ≡ true → ⊥
unwanted true is = λ on. absurd (cc)
unwanted false is = λ on. absurd (cc)

is_1 : IsMove s v1
is_1 = record {
  request = record {
    start = 0;
    end = 10;
    range = (
      record { after = omega arith; holds = refl; least = λ y from w. from },
      record { begun = omega arith; within = wanted_1; stops = unwanted (is_wanted s v1.before 10) refl },
    );
    starts = refl;
    ends = refl;
  };
  few = omega arith;
  within = refl;
}

is_2 : IsMove s v2
is_2 = record {
  request = record {
    start = 2;
    end = 10;
    range = (
      record { after = omega arith; holds = refl; least = λ y from w. from },
      record { begun = omega arith; within = wanted_2; stops = unwanted (is_wanted s v2.before 10) refl },
    );
    starts = refl;
    ends = refl;
  };
  few = omega arith;
  within = refl;
}

is_3 : IsMove s v3
is_3 = record {
  request = record {
    start = 4;
    end = 10;
    range = (
      record { after = omega arith; holds = refl; least = λ y from w. from },
      record { begun = omega arith; within = wanted_3; stops = unwanted (is_wanted s v3.before 10) refl },
    );
    starts = refl;
    ends = refl;
  };
  few = omega arith;
  within = refl;
}

is_4 : IsMove s v4
is_4 = record {
  request = record {
    start = 6;
    end = 10;
    range = (
      record { after = omega arith; holds = refl; least = λ y from w. from },
      record { begun = omega arith; within = wanted_4; stops = unwanted (is_wanted s v4.before 10) refl },
    );
    starts = refl;
    ends = refl;
  };
  few = omega arith;
  within = refl;
}

is_5 : IsMove s v5
is_5 = record {
  request = record {
    start = 8;
    end = 10;
    range = (
      record { after = omega arith; holds = refl; least = λ y from w. from },
      record { begun = omega arith; within = wanted_5; stops = unwanted (is_wanted s v5.before 10) refl },
    );
    starts = refl;
    ends = refl;
  };
  few = omega arith;
  within = refl;
}

pub saves_what_is_old : SavesWhatIsOld
saves_what_is_old = record {
  run = record {
    each = All-cons (IsMove s) v1 (v2 ∷ v3 ∷ v4 ∷ v5 ∷ []) is_1
        (All-cons (IsMove s) v2 (v3 ∷ v4 ∷ v5 ∷ []) is_2
        (All-cons (IsMove s) v3 (v4 ∷ v5 ∷ []) is_3
        (All-cons (IsMove s) v4 (v5 ∷ []) is_4 (All-cons (IsMove s) v5 [] is_5 (All-nil (IsMove s))))));
  };
  saves = refl;
}
