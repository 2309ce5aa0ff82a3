-- The order of the passes.
use Rattle.std.proofs.Common.{◌≡◌, ◌⊎◌, ℕ, zero, suc, ◌+◌, ◌-◌, ◌<◌, ◌≤◌, true, All, Contains, List, [], ◌∷◌, ◌++◌, map, drop, refl, sym, ap, subst, ◌∙◌, arith, inl, inr, ⊎_elim}
use Rattle.std.specs.List.{slice_index_or, range_with_len}
use Rattle.std.proofs.lemmas.Bool.{cases_lt, cond_both, true≢false}
use Rattle.std.proofs.lemmas.List.{append-nil}
use Rattle.std.proofs.lemmas.List.Elements.{All-append, All-cons, All-nil, All-same, Contains-append_cases, Contains-append_left, Contains-append_right}
use Rattle.rescue_rules.specs.declared.phase.Phase.{Phase}
use Rattle.rescue_rules.specs.declared.phase.Phase.TheVariants.{Copying, Trimming, Scraping, Retrying}
use Rattle.rescue_rules.specs.Setting.{Setting}
use Rattle.rescue_rules.specs.Passes.{Pass, numbered, passes_in, passes_after, passes_from}
use Rattle.rescue_core.proofs.PassLemmas.{after_last, scraping_passes, trimming_passes}

abbrev pub order : Phase → ℕ
order Copying = 0
order Trimming = 1
order Scraping = 2
order Retrying = 3

-- a pass is of a later phase than another, or has a higher number in the same one
abbrev pub Follows : Pass → Pass → Type 0
Follows p q = (order p.phase < order q.phase) ⊎ ((p.phase ≡ q.phase) × (p.number < q.number))

-- each pass follows all those before it
abbrev pub AreOrdered : List Pass → Type 0
AreOrdered [] = Unit {0}
AreOrdered (p ∷ ps) = All (Follows p) ps × AreOrdered ps

-- a pass is of the phase of another, or of a later one
abbrev pub IsFrom : Pass → Pass → Type 0
IsFrom p q = order p.phase ≤ order q.phase

pub follows_from : (p q : Pass) → Follows p q → IsFrom p q
follows_from p q follows =
    ⊎_elim (λ (later : order p.phase < order q.phase). (let e : order p.phase ≤ order q.phase = omega (arith, later) in
    e))
    (λ (same : (p.phase ≡ q.phase) × (p.number < q.number)).
    (let e : order p.phase ≤ order q.phase = omega (arith, ap order same.0) in e))
    follows

pub never_follows : (p : Pass) → Follows p p → ⊥
never_follows p follows =
    ⊎_elim (λ (later : order p.phase < order p.phase). omega (arith, later))
    (λ (same : (p.phase ≡ p.phase) × (p.number < p.number)). omega (arith, same.1))
    follows

-- some passes of a phase
abbrev some_in : Phase → (number few : ℕ) → List Pass
some_in phase number few = map (numbered phase) (range_with_len number few)

in_are : (s : Setting) (phase : Phase) (number : ℕ)
    → passes_in s phase number ≡ some_in phase number (after_last s phase - number)
in_are s Copying number = refl
in_are s _ number = refl

-- passes of one phase follow one another,
some_follow : (phase : Phase) (number at few : ℕ) → number < at
    → All (Follows (numbered phase number)) (some_in phase at few)
some_follow phase number at zero less = All-nil (Follows (numbered phase number))
some_follow phase number at (suc few) less =
    All-cons (Follows (numbered phase number)) (numbered phase at) (some_in phase (at + 1) few) (inr (refl, less))
    (some_follow phase number (at + 1) few (omega (arith, less)))

-- and those of a later phase follow them
some_later : (p : Pass) (phase : Phase) (number few : ℕ) → order p.phase < order phase
    → All (Follows p) (some_in phase number few)
some_later p phase number zero later = All-nil (Follows p)
some_later p phase number (suc few) later =
    All-cons (Follows p) (numbered phase number) (some_in phase (number + 1) few) (inl later)
    (some_later p phase (number + 1) few later)

in_later : (s : Setting) (p : Pass) (phase : Phase) (number : ℕ) → order p.phase < order phase
    → All (Follows p) (passes_in s phase number)
in_later s p phase number later =
    All-same (Follows p) (passes_in s phase number) (some_in phase number (after_last s phase - number))
    (in_are s phase number)
    (some_later p phase number (after_last s phase - number) later)

ordered_front : (phase : Phase) (number few : ℕ) (after : List Pass)
    → ((n : ℕ) → All (Follows (numbered phase n)) after)
    → AreOrdered after → AreOrdered (some_in phase number few ++ after)
ordered_front phase number zero after later ordered = ordered
ordered_front phase number (suc few) after later ordered = (
  All-append (Follows (numbered phase number)) (some_in phase (number + 1) few) after
      (some_follow phase number (number + 1) few (omega arith)) (later number),
  ordered_front phase (number + 1) few after later ordered,
)

ordered_in : (s : Setting) (phase : Phase) (number : ℕ) (after : List Pass)
    → ((n : ℕ) → All (Follows (numbered phase n)) after)
    → AreOrdered after → AreOrdered (passes_in s phase number ++ after)
ordered_in s phase number after later ordered =
    subst (λ (ps : List Pass). AreOrdered (ps ++ after)) (sym (in_are s phase number))
    (ordered_front phase number (after_last s phase - number) after later ordered)

trimming_later : (s : Setting) (p : Pass) → order p.phase < 1 → All (Follows p) (trimming_passes s)
trimming_later s p early =
    cond_both s.passes.trims (passes_in s Trimming 1) [] (All (Follows p)) (λ on. in_later s p Trimming 1 early)
    (λ off. All-nil (Follows p))

scraping_later : (s : Setting) (p : Pass) → order p.phase < 2 → All (Follows p) (scraping_passes s)
scraping_later s p early =
    cond_both s.passes.scrapes (passes_in s Scraping 1) [] (All (Follows p)) (λ on. in_later s p Scraping 1 early)
    (λ off. All-nil (Follows p))

after_later : (s : Setting) (phase : Phase) (n : ℕ) → All (Follows (numbered phase n)) (passes_after s phase)
after_later s Copying n =
    let p : Pass = numbered Copying n in
    All-append (Follows p) (trimming_passes s ++ scraping_passes s) (passes_in s Retrying 1)
    (All-append (Follows p) (trimming_passes s) (scraping_passes s) (trimming_later s p (omega arith))
    (scraping_later s p (omega arith)))
    (in_later s p Retrying 1 (omega arith))
after_later s Trimming n =
    let p : Pass = numbered Trimming n in
    All-append (Follows p) (scraping_passes s) (passes_in s Retrying 1) (scraping_later s p (omega arith))
    (in_later s p Retrying 1 (omega arith))
after_later s Scraping n = in_later s (numbered Scraping n) Retrying 1 (omega arith)
after_later s Retrying n = All-nil (Follows (numbered Retrying n))

ordered_after_scraping : (s : Setting) → AreOrdered (passes_after s Scraping)
ordered_after_scraping s =
    subst AreOrdered (append-nil (passes_in s Retrying 1))
    (ordered_in s Retrying 1 [] (λ n. All-nil (Follows (numbered Retrying n))) tt)

ordered_after_trimming : (s : Setting) → AreOrdered (passes_after s Trimming)
ordered_after_trimming s =
    cond_both s.passes.scrapes (passes_in s Scraping 1) [] (λ (ps : List Pass). AreOrdered (ps ++ passes_in s Retrying 1))
    (λ on. ordered_in s Scraping 1 (passes_after s Scraping) (after_later s Scraping) (ordered_after_scraping s))
    (λ off. ordered_after_scraping s)

ordered_after_copying : (s : Setting) → AreOrdered (passes_after s Copying)
ordered_after_copying s =
    cond_both s.passes.trims (passes_in s Trimming 1) []
    (λ (ps : List Pass). AreOrdered (ps ++ scraping_passes s ++ passes_in s Retrying 1))
    (λ on. ordered_in s Trimming 1 (passes_after s Trimming) (after_later s Trimming) (ordered_after_trimming s))
    (λ off. ordered_after_trimming s)

ordered_after : (s : Setting) (phase : Phase) → AreOrdered (passes_after s phase)
ordered_after s Copying = ordered_after_copying s
ordered_after s Trimming = ordered_after_trimming s
ordered_after s Scraping = ordered_after_scraping s
ordered_after s Retrying = tt

-- The passes of a run are ordered.
pub ordered_from : (s : Setting) (phase : Phase) (number : ℕ) → AreOrdered (passes_from s phase number)
ordered_from s phase number =
    ordered_in s phase number (passes_after s phase) (after_later s phase) (ordered_after s phase)

-- Which passes there are.
contains_here : (p : Pass) (ps : List Pass) → Contains (p ∷ ps) p
contains_here p ps = (0, omega arith, refl)

pub contains_later : (q : Pass) (ps : List Pass) (p : Pass) → Contains ps p → Contains (q ∷ ps) p
contains_later q ps p has = Contains-append_right (q ∷ []) ps p has

contains_one : (q p : Pass) → Contains (q ∷ []) p → q ≡ p
contains_one q p has = of has.0 has.1 has.2
  where
    of : (k : ℕ) → k < 1 → slice_index_or (q ∷ []) k p ≡ p → q ≡ p
    of zero less is = is
    of (suc k) less is = absurd (omega (arith, less))

pub contains_cases : (q : Pass) (ps : List Pass) (p : Pass) → Contains (q ∷ ps) p → (q ≡ p) ⊎ Contains ps p
contains_cases q ps p has =
    ⊎_elim (λ (here : Contains (q ∷ []) p). inl (contains_one q p here)) (λ (later : Contains ps p). inr later)
    (Contains-append_cases (q ∷ []) ps p has)

contains_some : (phase : Phase) (n number few : ℕ) → number ≤ n → n < number + few
    → Contains (some_in phase number few) (numbered phase n)
contains_some phase n number zero from to = absurd (omega (arith, from, to))
contains_some phase n number (suc few) from to =
    ⊎_elim
    (λ (more : number < n). contains_later (numbered phase number) (some_in phase (number + 1) few) (numbered phase n)
    (contains_some phase n (number + 1) few (omega (arith, more)) (omega (arith, to))))
    (λ (here : n ≤ number).
    subst (λ (k : ℕ). Contains (some_in phase number (suc few)) (numbered phase k)) (omega (arith, from, here))
    (contains_here (numbered phase number) (some_in phase (number + 1) few)))
    (cases_lt number n)

pub has_trimming : (s : Setting) → s.passes.trims ≡ true → Contains (passes_after s Copying) (numbered Trimming 1)
has_trimming s on =
    Contains-append_left (trimming_passes s ++ scraping_passes s) (passes_in s Retrying 1) (numbered Trimming 1)
    (Contains-append_left (trimming_passes s) (scraping_passes s) (numbered Trimming 1)
    (cond_both s.passes.trims (passes_in s Trimming 1) [] (λ (ps : List Pass). Contains ps (numbered Trimming 1))
    (λ is. contains_here (numbered Trimming 1) []) (λ off. absurd (true≢false (sym on ∙ off)))))

pub has_scraping : (s : Setting) → s.passes.scrapes ≡ true → Contains (passes_after s Copying) (numbered Scraping 1)
has_scraping s on =
    Contains-append_left (trimming_passes s ++ scraping_passes s) (passes_in s Retrying 1) (numbered Scraping 1)
    (Contains-append_right (trimming_passes s) (scraping_passes s) (numbered Scraping 1)
    (cond_both s.passes.scrapes (passes_in s Scraping 1) [] (λ (ps : List Pass). Contains ps (numbered Scraping 1))
    (λ is. contains_here (numbered Scraping 1) []) (λ off. absurd (true≢false (sym on ∙ off)))))

pub has_retrying : (s : Setting) (n : ℕ) → 0 < n → n ≤ s.passes.retries
    → Contains (passes_after s Copying) (numbered Retrying n)
has_retrying s n some few =
    Contains-append_right (trimming_passes s ++ scraping_passes s) (passes_in s Retrying 1) (numbered Retrying n)
    (contains_some Retrying n 1 (s.passes.retries + 1 - 1) (omega (arith, some)) (omega (arith, few)))

-- After a pass of copying there are the others of copying, and those after copying.
copying_are : (s : Setting) (number : ℕ) → number ≤ 5
    → passes_from s Copying number
    ≡ numbered Copying number ∷ some_in Copying (number + 1) (5 - number) ++ passes_after s Copying
copying_are s number few =
    let some : 6 - number ≡ suc (5 - number) = omega (arith, few) in
    ap (λ (n : ℕ). some_in Copying number n ++ passes_after s Copying) some

pub after_contains : (s : Setting) (number : ℕ) (p : Pass) → number ≤ 5 → Contains (passes_after s Copying) p
    → Contains (drop 1 (passes_from s Copying number)) p
after_contains s number p few has =
    subst (λ (ps : List Pass). Contains (drop 1 ps) p) (sym (copying_are s number few))
    (Contains-append_right (some_in Copying (number + 1) (5 - number)) (passes_after s Copying) p has)

pub has_last : (s : Setting) (number : ℕ) → number < 5
    → Contains (drop 1 (passes_from s Copying number)) (numbered Copying 5)
has_last s number few =
    subst (λ (ps : List Pass). Contains (drop 1 ps) (numbered Copying 5))
    (sym (copying_are s number (omega (arith, few))))
    (Contains-append_left (some_in Copying (number + 1) (5 - number)) (passes_after s Copying) (numbered Copying 5)
    (contains_some Copying 5 (number + 1) (5 - number) (omega (arith, few)) (omega (arith, few))))
