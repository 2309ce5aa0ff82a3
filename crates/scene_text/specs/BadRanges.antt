-- Bad ranges in their order. For contracts and proofs: no promise uses it.
use Rattle.std.specs.Prelude.{ℕ, List, [], ◌∷◌}
use Rattle.faulty_source.specs.declared.bad_range.BadRange.{BadRange}

-- where the last range ends, or a place before all
abbrev pub end_of : ℕ → List BadRange → ℕ
end_of low [] = low
end_of low (r ∷ rs) = end_of r.to rs
