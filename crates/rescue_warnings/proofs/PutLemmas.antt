-- The lines of warnings are put one after another, up to the first put that fails.
use Rattle.std.proofs.Common.{◌≡◌, ◌+◌, ◌<◌, ◌≤◌, refl, ℕ, List, Ok, Err, inl, inr, ◌∷◌, length, get_or, drop, drop-cons, add-one}
use Rattle.std.proofs.lemmas.List.{drop_all}
use Rattle.rescue_console.specs.declared.console.Channel.TheVariants.{Err as ErrorChannel}
use Rattle.rescue_console.specs.ConsoleState.{ConsoleState, Answers}
use Rattle.rescue_console.specs.Speaking.{Speaks}
use Rattle.rescue_warnings.specs.declared.advice.Advice.{Advice}
use Rattle.rescue_warnings.specs.declared.warning.Names.{Names}
use Rattle.rescue_warnings.specs.Warnings.{warning_pieces, warning_text}

-- All lines before a place were put: who puts the others after them puts all.
abbrev pub ArePutTo : (program : List ℕ) (names : Names) (advices : List Advice) → ℕ → (old now : ConsoleState) → Type 0
ArePutTo program names advices i old now = (end : ConsoleState)
    → Speaks (warning_pieces program names (drop i advices)) now end
    → Speaks (warning_pieces program names advices) old end

pub none_yet : (program : List ℕ) (names : Names) (advices : List Advice) (now : ConsoleState)
    → ArePutTo program names advices 0 now now
none_yet program names advices now end said = said

pub all_put : (program : List ℕ) (names : Names) (advices : List Advice) (i : ℕ) (old now : ConsoleState)
    → length advices ≤ i → ArePutTo program names advices i old now
    → Speaks (warning_pieces program names advices) old now
all_put program names advices i old now whole before = before now (rw (drop_all i advices whole) refl)

-- the lines from a place on, of which the first one is put
first_said : (program : List ℕ) (names : Names) (advices : List Advice) (i : ℕ) (d : Advice) (now end : ConsoleState)
    → i < length advices
    → Speaks (warning_pieces program names (get_or advices i d ∷ drop (i + 1) advices)) now end
    → Speaks (warning_pieces program names (drop i advices)) now end
first_said program names advices i d now end within said =
    rw (drop-cons advices i d within) (rw add-one at said)

-- One line more is put.
pub one_more : {T E : Type 0} (program : List ℕ) (names : Names) (advices : List Advice) (i : ℕ) (d : Advice)
    (text : List ℕ) (v : T) (old now next : ConsoleState) → i < length advices
    → text ≡ warning_text program names (get_or advices i d) → ArePutTo program names advices i old now
    → Answers {T = T} {E = E} ErrorChannel text (Ok v) now next → ArePutTo program names advices (i + 1) old next
one_more program names advices i d text v old now next within is before put end said =
    before end (first_said program names advices i d now end within
    (inl (next, record { puts = rw is at put.puts; one = λ scheduled. (put.schedule scheduled).schedule }, said)))

-- The next line is put in part, and nothing after it.
pub broke : {T E : Type 0} (program : List ℕ) (names : Names) (advices : List Advice) (i : ℕ) (d : Advice)
    (text : List ℕ) (e : E) (old now next : ConsoleState) → i < length advices
    → text ≡ warning_text program names (get_or advices i d) → ArePutTo program names advices i old now
    → Answers {T = T} {E = E} ErrorChannel text (Err e) now next
    → Speaks (warning_pieces program names advices) old next
broke program names advices i d text e old now next within is before put =
    before next (first_said program names advices i d now next within
    (inr (record { puts = rw is at put.fails; one = λ scheduled. (put.schedule scheduled).schedule })))
