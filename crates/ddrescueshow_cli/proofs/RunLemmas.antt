-- The runs of a row are its cells, and a walk along the cells makes them.
use Rattle.std.proofs.Common.{◌≡◌, ℕ, zero, suc, ◌+◌, ◌<◌, nat_eq, Bool, true, false, cond, List, [], ◌∷◌, ◌++◌, map, replicate, Option, Some, None, refl, sym, ap, subst, ◌∙◌, append_assoc, append-nil, arith}
use Rattle.std.specs.List.{flat_map, range_with_len}
use Rattle.std.proofs.lemmas.Bool.Decides.{nat_tests}
use Rattle.std.proofs.lemmas.List.{map-append, replicate-append-replicate}
use Rattle.block_list.specs.declared.status.Status.{Status}
use Rattle.block_list.specs.declared.status.Status.TheVariants.{NonTried, NonTrimmed, NonScraped, BadSector, Finished}
use Rattle.block_list.specs.Status.{status_of_symbol}
use Rattle.ddrescueshow_cli.specs.declared.form.Form.TheVariants.{Plain}
use Rattle.ddrescueshow_cli.specs.declared.runs.Run.{Run}
use Rattle.ddrescueshow_cli.specs.Runs.{cell_symbol, run_at, runs_of, runs_on}
use Rattle.ddrescueshow_cli.specs.Picture.{run_text}
use Rattle.ddrescueshow_cli.specs.Laws.{AreCells, PlainRowsAreCells, RunsAreCells}

abbrev Mark : Type 0
Mark = Option Status

-- a run with one cell more
abbrev longer : Run → Run
longer r = record r { count = r.count + 1 }

-- ---- they are the cells

symbol_back : (m : Mark) → status_of_symbol (cell_symbol m) ≡ m
symbol_back (Some NonTried) = refl
symbol_back _ = refl

same_cell : (m n : Mark) → nat_eq (cell_symbol m) (cell_symbol n) ≡ true → m ≡ n
same_cell m n is =
    let e : cell_symbol m ≡ cell_symbol n = grind (arith, nat_tests, is) in
    sym (symbol_back m) ∙ ap status_of_symbol e ∙ symbol_back n

one_more : (c : ℕ) (x : Mark) (ms : List Mark) → replicate (c + 1) x ++ ms ≡ replicate c x ++ x ∷ ms
one_more c x ms =
    ap (λ (t : List Mark). t ++ ms) (sym (replicate-append-replicate c 1 x)) ∙ append_assoc (replicate c x) (x ∷ []) ms

turn_cells : (r : Run) (m : Mark) (ms : List Mark) (b : Bool) → nat_eq (cell_symbol r.shown) (cell_symbol m) ≡ b
    → 0 < r.count → AreCells r.from (runs_on (longer r) ms) (replicate (r.count + 1) r.shown ++ ms)
    → AreCells (r.from + r.count) (runs_on (run_at (r.from + r.count) m) ms) (m ∷ ms)
    → AreCells r.from (cond b (runs_on (longer r) ms) (r ∷ runs_on (run_at (r.from + r.count) m) ms))
    (replicate r.count r.shown ++ m ∷ ms)
turn_cells r m ms true is some same other =
    subst (AreCells r.from (runs_on (longer r) ms))
    (one_more r.count r.shown ms ∙ ap (λ (x : Mark). replicate r.count r.shown ++ x ∷ ms) (same_cell r.shown m is)) same
turn_cells r m ms false is some same other = (m ∷ ms, refl, some, refl, other)

on_cells : (r : Run) (ms : List Mark) → 0 < r.count → AreCells r.from (runs_on r ms) (replicate r.count r.shown ++ ms)
on_cells r [] some = ([], refl, some, refl, refl)
on_cells r (m ∷ ms) some =
    turn_cells r m ms (nat_eq (cell_symbol r.shown) (cell_symbol m)) refl some (on_cells (longer r) ms (omega arith))
    (on_cells (run_at (r.from + r.count) m) ms (omega arith))

pub runs_are_cells : RunsAreCells
runs_are_cells [] = refl
runs_are_cells (m ∷ ms) = on_cells (run_at 0 m) ms (omega arith)

-- each run of plain text has as many characters as cells
plain_run : (c : ℕ) (x : Mark) → map cell_symbol (replicate c x) ≡ replicate c (cell_symbol x)
plain_run zero x = refl
plain_run (suc c) x = ap (λ (t : List ℕ). cell_symbol x ∷ t) (plain_run c x)

plain_cells : (from : ℕ) (rs : List Run) (marks : List Mark) → AreCells from rs marks
    → flat_map (run_text Plain) rs ≡ map cell_symbol marks
plain_cells from [] marks is = ap (map cell_symbol) (sym is)
plain_cells from (r ∷ rs) marks (rest, at, some, split, more) =
    ap (λ (t : List ℕ). replicate r.count (cell_symbol r.shown) ++ t) (plain_cells (from + r.count) rs rest more)
    ∙ ap (λ (t : List ℕ). t ++ map cell_symbol rest) (sym (plain_run r.count r.shown))
    ∙ sym (map-append cell_symbol (replicate r.count r.shown) rest) ∙ ap (map cell_symbol) (sym split)

pub plain_rows_are_cells : PlainRowsAreCells
plain_rows_are_cells marks = plain_cells 0 (runs_of marks) marks (runs_are_cells marks)

-- ---- a walk along them

module _ (g : Run → List ℕ) (text : List ℕ) (r : Run) (m : Mark) (ms : List Mark) where
  -- what comes, by whether the next cell shows the same
  by_next : (b : Bool) → nat_eq (cell_symbol r.shown) (cell_symbol m) ≡ b
      → text ++ flat_map g (cond b (runs_on (longer r) ms) (r ∷ runs_on (run_at (r.from + r.count) m) ms))
      ≡ text ++ flat_map g (runs_on r (m ∷ ms))
  by_next b is =
      ap (λ (x : Bool). text ++ flat_map g (cond x (runs_on (longer r) ms) (r ∷ runs_on (run_at (r.from + r.count) m) ms)))
      (sym is)

  pub run_goes_on : nat_eq (cell_symbol r.shown) (cell_symbol m) ≡ true
      → text ++ flat_map g (runs_on (longer r) ms) ≡ text ++ flat_map g (runs_on r (m ∷ ms))
  run_goes_on is = by_next true is

  pub run_ends : nat_eq (cell_symbol r.shown) (cell_symbol m) ≡ false → (now : List ℕ) → now ≡ text ++ g r
      → now ++ flat_map g (runs_on (run_at (r.from + r.count) m) ms) ≡ text ++ flat_map g (runs_on r (m ∷ ms))
  run_ends is now added =
      ap (λ (t : List ℕ). t ++ flat_map g (runs_on (run_at (r.from + r.count) m) ms)) added
      ∙ append_assoc text (g r) (flat_map g (runs_on (run_at (r.from + r.count) m) ms)) ∙ by_next false is

module _ (g : Run → List ℕ) (mark : ℕ → Mark) where
  abbrev marks : (first n : ℕ) → List Mark
  marks first n = map mark (range_with_len first n)

  -- the first cell, and those after it
  split : (a a' n n' : ℕ) → a' ≡ a + 1 → n ≡ n' + 1 → marks a n ≡ mark a ∷ marks a' n'
  split a a' n n' next more =
      let s : n ≡ suc n' = omega (arith, more) in
      ap (marks a) s ∙ ap (λ (k : ℕ). mark a ∷ marks k n') (sym next)

  -- what a walk has put, and what comes after a run and n cells from one on, is the whole
  abbrev pub Comes : (text whole : List ℕ) → Run → (a n : ℕ) → Type 0
  Comes text whole r a n = text ++ flat_map g (runs_on r (marks a n)) ≡ whole

  pub walk_begins : (text : List ℕ) (a a' n n' : ℕ) (m : Mark) → a' ≡ a + 1 → n ≡ n' + 1 → m ≡ mark a
      → Comes text (text ++ flat_map g (runs_of (marks a n))) (run_at 0 m) a' n'
  walk_begins text a a' n n' m next more is =
      ap (λ (x : Mark). text ++ flat_map g (runs_on (run_at 0 x) (marks a' n'))) is
      ∙ ap (λ (ms : List Mark). text ++ flat_map g (runs_of ms)) (sym (split a a' n n' next more))

  pub walk_goes_on : (old new whole : List ℕ) (r r' : Run) (a a' n n' : ℕ) (m : Mark) → a' ≡ a + 1 → n ≡ n' + 1
      → m ≡ mark a → Comes old whole r a n
      → ((ms : List Mark) → new ++ flat_map g (runs_on r' ms) ≡ old ++ flat_map g (runs_on r (m ∷ ms)))
      → Comes new whole r' a' n'
  walk_goes_on old new whole r r' a a' n n' m next more is comes adds =
      adds (marks a' n') ∙ ap (λ (x : Mark). old ++ flat_map g (runs_on r (x ∷ marks a' n'))) is
      ∙ ap (λ (ms : List Mark). old ++ flat_map g (runs_on r ms)) (sym (split a a' n n' next more)) ∙ comes

  pub walk_ends : (text whole : List ℕ) (r : Run) (a n : ℕ) → n ≡ 0 → Comes text whole r a n → text ++ g r ≡ whole
  walk_ends text whole r a n none comes =
      ap (λ (t : List ℕ). text ++ t) (sym (append-nil (g r)))
      ∙ ap (λ (k : ℕ). text ++ flat_map g (runs_on r (marks a k))) (sym none) ∙ comes
