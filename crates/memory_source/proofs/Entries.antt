-- The entries of a journal are told by the reads that they stand for.
use Rattle.std.proofs.Common.{◌≡◌, ℕ, ◌+◌, ◌-◌, ◌≤◌, List, [], ◌∷◌, length, map, take, drop, All, refl, ap, arith, length-take, length-drop}
use Rattle.std.proofs.lemmas.List.Elements.{All-head, All-tail}
use Rattle.faulty_source.specs.declared.journal.ReadEntry.{ReadEntry}
use Rattle.faulty_source.specs.ReadEntries.{entry_of, reading_of}

-- the bytes that the entry counts are there
abbrev pub is_within : ℕ → ReadEntry → Type 0
is_within len e = e.given ≤ len - e.pos

entry_told : (bytes : List ℕ) (e : ReadEntry) → is_within (length bytes) e → entry_of (reading_of bytes e) ≡ e
entry_told bytes e within =
    let given : length (take (e.pos + e.given - e.pos) (drop e.pos bytes)) ≡ e.given =
    omega (arith, length-take (e.pos + e.given - e.pos) (drop e.pos bytes), length-drop e.pos bytes) in
    ap (λ (n : ℕ). record e { given = n }) given

-- what the reads that the entries stand for say is the entries
pub entries_told : (bytes : List ℕ) (entries : List ReadEntry) → All (is_within (length bytes)) entries
    → map entry_of (map (reading_of bytes) entries) ≡ entries
entries_told bytes [] within = refl
entries_told bytes (e ∷ es) within =
    let first : entry_of (reading_of bytes e) ≡ e = entry_told bytes e (All-head (is_within (length bytes)) e es within) in
    let others : map entry_of (map (reading_of bytes) es) ≡ es = entries_told bytes es (All-tail (is_within (length bytes)) e es within) in
    cc
