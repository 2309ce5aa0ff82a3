-- What is the same from a position on.
use Rattle.std.proofs.Common.{◌≡◌, ℕ, ◌-◌, ◌<◌, ◌≤◌, true, false, List, length, get_or, Some, min, ap, ◌∙◌, arith}
use Rattle.std.specs.List.{slice_get}
use Rattle.std.proofs.lemmas.Bool.{false_from_ne_true}
use Rattle.std.proofs.lemmas.Option.{slice_get_within, get_or_from_slice_get}
use Rattle.block_list.specs.declared.block.Range.{Range}
use Rattle.rescue_domain.specs.Parts.{covers, AreParts, EndBy}
use Rattle.rescue_domain.specs.Stretch.{IsStretchFrom}
use Rattle.rescue_domain.proofs.PartsLemmas.{no_part, part_at, part_covers, ends_ascend}
use Rattle.rescue_domain.proofs.SearchLemmas.{found_first, found_range_up, none_from}

-- the intervals before one that ends at or before a position do so too, and those after one that doesn't don't
module _ (parts : List Range) (t : AreParts 0 parts) (n x : ℕ) where
  pub end_in_front : 0 < n → n ≤ length parts → (get_or parts (n - 1) no_part).to ≤ x
      → (i : ℕ) (part : Range) → i < n → slice_get parts i ≡ Some part → part.to ≤ x
  end_in_front some short ends i part l e =
      let up = ends_ascend parts t i (n - 1) no_part (omega arith) (omega arith) in
      omega (arith, up, ends, ap (λ (r : Range). r.to) (get_or_from_slice_get parts i part no_part e))

  pub end_after : x < (get_or parts n no_part).to → (i : ℕ) (part : Range) → n ≤ i → slice_get parts i ≡ Some part
      → x < part.to
  end_after ahead i part l e =
      let up = ends_ascend parts t n i no_part l (slice_get_within parts i part e) in
      omega (arith, up, ahead, ap (λ (r : Range). r.to) (get_or_from_slice_get parts i part no_part e))

  pub none_after : n ≡ length parts → (i : ℕ) (part : Range) → n ≤ i → slice_get parts i ≡ Some part → x < part.to
  none_after all i part l e = absurd (omega (arith, slice_get_within parts i part e))

-- of a position, by how many intervals end at or before it
module _ (parts : List Range) (t : AreParts 0 parts) (n x limit : ℕ) (k : EndBy parts n x) (some : x < limit) where
  pub stretch_past : length parts ≤ n → IsStretchFrom (covers parts) x limit false limit
  stretch_past none = record {
    alike = record {
      some = some;
      each = λ y l u. false_from_ne_true (covers parts y) (λ c. none_from parts x n k.ended none y l c);
    };
    within = omega arith;
    ends = λ l. absurd (omega (arith, l));
  }

  pub stretch_within : (part : Range) → slice_get parts n ≡ Some part → part.from ≤ x → (to : ℕ) → to ≡ min limit part.to
      → IsStretchFrom (covers parts) x limit true to
  stretch_within part there begun to is =
      let ahead : x < part.to = k.others n part (omega arith) there in
      let range = found_range_up parts n part t there x ahead in
      record {
        alike = record { some = omega arith; each = λ y l u. range.within y (omega (arith, l, begun)) (omega (arith, u, is)) };
        within = omega arith;
        ends = λ l.
            let at : to ≡ part.to = omega (arith, l, is) in
            ap (covers parts) at ∙ false_from_ne_true (covers parts part.to) range.stops;
      }

  pub stretch_before : (part : Range) → slice_get parts n ≡ Some part → x < part.from → (to : ℕ) → to ≡ min limit part.from
      → IsStretchFrom (covers parts) x limit false to
  stretch_before part there later to is =
      let ahead : x < part.to = k.others n part (omega arith) there in
      let first = found_first parts n part t there x k.ended ahead in
      record {
        alike = record {
          some = omega arith;
          each = λ y l u.
              false_from_ne_true (covers parts y) (λ c. omega (arith, first.least y l c, u, is, later));
        };
        within = omega arith;
        ends = λ l.
            let at : to ≡ part.from = omega (arith, l, is) in
            ap (covers parts) at
            ∙ part_covers parts n part.from part there (omega arith) (part_at 0 parts n part t there).some;
      }
