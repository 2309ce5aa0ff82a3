-- The passes of a run, and the start of one.
use Rattle.std.proofs.Common.{◌≡◌, ◌⊎◌, ℕ, zero, suc, ◌+◌, ◌-◌, ◌≤◌, true, if◌then◌else◌, All, List, [], ◌∷◌, ◌++◌, map, drop, Some, refl, sym, ap, subst, ◌∙◌, arith, inl, inr}
use Rattle.std.specs.List.{slice_get, slice_index_or, range_with_len}
use Rattle.std.proofs.lemmas.Bool.{cond_both}
use Rattle.std.proofs.lemmas.List.{append-nil}
use Rattle.std.proofs.lemmas.List.Elements.{All-append, All-get_or, All-map, All-nil, All-same}
use Rattle.std.proofs.lemmas.Option.{get_or_from_slice_get, same_Some, slice_get_within}
use Rattle.rescue_rules.specs.declared.phase.Phase.{Phase}
use Rattle.rescue_rules.specs.declared.phase.Phase.TheVariants.{Copying, Trimming, Scraping, Retrying}
use Rattle.rescue_rules.specs.Setting.{Setting}
use Rattle.rescue_rules.specs.Passes.{Pass, numbered, passes_in, passes_after, passes_from}

-- each of these passes is followed by those from it on
abbrev IsChain : Setting → List Pass → Type 0
IsChain s [] = Unit {0}
IsChain s (p ∷ ps) = (p ∷ ps ≡ passes_from s p.phase p.number) × IsChain s ps

-- one more than the number of a phase's last pass
abbrev pub after_last : Setting → Phase → ℕ
after_last s Copying = 6
after_last s Trimming = 2
after_last s Scraping = 2
after_last s Retrying = s.passes.retries + 1

passes_in-are : (s : Setting) (phase : Phase) (number : ℕ)
    → passes_in s phase number ≡ map (numbered phase) (range_with_len number (after_last s phase - number))
passes_in-are s Copying number = refl
passes_in-are s _ number = refl

-- some passes of a phase, and those after it
abbrev some_from : Setting → Phase → (number few : ℕ) → List Pass
some_from s phase number few = map (numbered phase) (range_with_len number few) ++ passes_after s phase

from_are : (s : Setting) (phase : Phase) (number few : ℕ) → after_last s phase - number ≡ few
    → some_from s phase number few ≡ passes_from s phase number
from_are s phase number few is =
    ap (some_from s phase number) (sym is) ∙ ap (λ (ps : List Pass). ps ++ passes_after s phase) (sym (passes_in-are s phase number))

chain_of : (s : Setting) (phase : Phase) (number few : ℕ) → after_last s phase - number ≡ few → IsChain s (passes_after s phase)
    → IsChain s (some_from s phase number few)
chain_of s phase number zero is after = after
chain_of s phase number (suc few) is after =
    (from_are s phase number (suc few) is, chain_of s phase (number + 1) few (omega (arith, is)) after)

chain_in : (s : Setting) (phase : Phase) (number : ℕ) → IsChain s (passes_after s phase) → IsChain s (passes_from s phase number)
chain_in s phase number after =
    subst (IsChain s) (from_are s phase number (after_last s phase - number) refl)
    (chain_of s phase number (after_last s phase - number) refl after)

chain_after_scraping : (s : Setting) → IsChain s (passes_after s Scraping)
chain_after_scraping s = subst (IsChain s) (append-nil (passes_in s Retrying 1)) (chain_in s Retrying 1 tt)

chain_after_trimming : (s : Setting) → IsChain s (passes_after s Trimming)
chain_after_trimming s =
    cond_both s.passes.scrapes (passes_in s Scraping 1) [] (λ (ps : List Pass). IsChain s (ps ++ passes_in s Retrying 1))
    (λ on. chain_in s Scraping 1 (chain_after_scraping s)) (λ off. chain_after_scraping s)

chain_after_copying : (s : Setting) → IsChain s (passes_after s Copying)
chain_after_copying s =
    cond_both s.passes.trims (passes_in s Trimming 1) []
    (λ (ps : List Pass). IsChain s (ps ++ (if s.passes.scrapes then passes_in s Scraping 1 else []) ++ passes_in s Retrying 1))
    (λ on. chain_in s Trimming 1 (chain_after_trimming s)) (λ off. chain_after_trimming s)

chain_after : (s : Setting) (phase : Phase) → IsChain s (passes_after s phase)
chain_after s Copying = chain_after_copying s
chain_after s Trimming = chain_after_trimming s
chain_after s Scraping = chain_after_scraping s
chain_after s Retrying = tt

second_of : (s : Setting) (ps : List Pass) (p : Pass) → IsChain s ps → slice_get ps 1 ≡ Some p
    → passes_from s p.phase p.number ≡ p ∷ drop 2 ps
second_of s [] p chain is = absurd (cc)
second_of s (a ∷ []) p chain is = absurd (cc)
second_of s (a ∷ b ∷ ps) p chain is =
    let same : b ≡ p = same_Some b p is in
    subst (λ (q : Pass). passes_from s q.phase q.number ≡ q ∷ ps) same (sym chain.1.0)

-- the pass after a run's, and those that follow it
pub next_passes : (s : Setting) (phase : Phase) (number : ℕ) (p : Pass) → slice_get (passes_from s phase number) 1 ≡ Some p
    → passes_from s p.phase p.number ≡ p ∷ drop 2 (passes_from s phase number)
next_passes s phase number p is = second_of s (passes_from s phase number) p (chain_in s phase number (chain_after s phase)) is

-- a pass after one of a phase is of a phase that isn't off
pub record IsOn (s : Setting) (phase : Phase) (p : Pass) : Type 0 where
  pub trims : p.phase ≡ Trimming → (phase ≡ Trimming) ⊎ (s.passes.trims ≡ true)
  pub scrapes : p.phase ≡ Scraping → (phase ≡ Scraping) ⊎ (s.passes.scrapes ≡ true)

in_on : (s : Setting) (phase at : Phase) (number : ℕ) → IsOn s phase (numbered at number) → All (IsOn s phase) (passes_in s at number)
in_on s phase at number on =
    All-same (IsOn s phase) (passes_in s at number) (map (numbered at) (range_with_len number (after_last s at - number)))
    (passes_in-are s at number)
    (All-map (IsOn s phase) (numbered at) (range_with_len number (after_last s at - number))
    (λ k d within. record { trims = on.trims; scrapes = on.scrapes }))

trimming_on : (s : Setting) (phase : Phase) → All (IsOn s phase) (if s.passes.trims then passes_in s Trimming 1 else [])
trimming_on s phase =
    cond_both s.passes.trims (passes_in s Trimming 1) [] (All (IsOn s phase))
    (λ on. in_on s phase Trimming 1 (record { trims = λ is. inr on; scrapes = λ is. absurd (cc) }))
    (λ off. All-nil (IsOn s phase))

scraping_on : (s : Setting) (phase : Phase) → All (IsOn s phase) (if s.passes.scrapes then passes_in s Scraping 1 else [])
scraping_on s phase =
    cond_both s.passes.scrapes (passes_in s Scraping 1) [] (All (IsOn s phase))
    (λ on. in_on s phase Scraping 1 (record { trims = λ is. absurd (cc); scrapes = λ is. inr on }))
    (λ off. All-nil (IsOn s phase))

retrying_on : (s : Setting) (phase : Phase) → All (IsOn s phase) (passes_in s Retrying 1)
retrying_on s phase = in_on s phase Retrying 1 (record { trims = λ is. absurd (cc); scrapes = λ is. absurd (cc) })

abbrev pub scraping_passes : Setting → List Pass
scraping_passes s = if s.passes.scrapes then passes_in s Scraping 1 else []

abbrev pub trimming_passes : Setting → List Pass
trimming_passes s = if s.passes.trims then passes_in s Trimming 1 else []

after_on : (s : Setting) (phase at : Phase) → All (IsOn s phase) (passes_after s at)
after_on s phase Copying =
    All-append (IsOn s phase) (trimming_passes s ++ scraping_passes s) (passes_in s Retrying 1)
    (All-append (IsOn s phase) (trimming_passes s) (scraping_passes s) (trimming_on s phase) (scraping_on s phase))
    (retrying_on s phase)
after_on s phase Trimming =
    All-append (IsOn s phase) (scraping_passes s) (passes_in s Retrying 1) (scraping_on s phase) (retrying_on s phase)
after_on s phase Scraping = retrying_on s phase
after_on s phase Retrying = All-nil (IsOn s phase)

pub next_on : (s : Setting) (phase : Phase) (number : ℕ) (p : Pass) → slice_get (passes_from s phase number) 1 ≡ Some p
    → IsOn s phase p
next_on s phase number p is =
    let ps : List Pass = passes_from s phase number in
    let all : All (IsOn s phase) ps
    = All-append (IsOn s phase) (passes_in s phase number) (passes_after s phase)
    (in_on s phase phase number (record { trims = λ at. inl at; scrapes = λ at. inl at })) (after_on s phase phase) in
    subst (IsOn s phase) (get_or_from_slice_get ps 1 p p is)
    (All-get_or (IsOn s phase) ps 1 p (slice_get_within ps 1 p is) all)

-- copying's passes begin with that of their number
pub copying_leads : (s : Setting) (number : ℕ) → number ≤ 5
    → slice_index_or (passes_from s Copying number) 0 (numbered Copying 1) ≡ numbered Copying number
copying_leads s number few =
    let some : 6 - number ≡ suc (5 - number) = omega arith in
    ap (λ (n : ℕ). slice_index_or (some_from s Copying number n) 0 (numbered Copying 1)) some
