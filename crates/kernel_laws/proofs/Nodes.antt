-- What a stop may leave of a file, as it is written and synced.
use Rattle.std.proofs.Common.{◌≡◌, inl, inr, ℕ, ◌≤◌, max, true, List, [], ◌∷◌, length, Some, refl, sym, ◌∙◌, ap, subst, arith, slice_index_or}
use Rattle.kernel_files.specs.Volume.{Node, new_node, with_loss, synced, MayRead}
use Rattle.crash_site.specs.Files.{File, bytes_of}
use Rattle.crash_site.specs.Left.{IsLoose, loose_end, Matches}
use Rattle.crash_site.proofs.LawLemmas.{found_only}
use Rattle.kernel_laws.specs.Refines.{IsFirm}

abbrev pub file_with : List ℕ → File
file_with bytes = record { bytes = bytes; regular = true }

-- a firm file is left as it reads
pub firm_found : (f : Node) (found : List ℕ) → IsFirm f → MayRead f found → found ≡ f.bytes
firm_found f found firm h =
    let none : loose_end f.loose ≡ 0 = ap loose_end firm.loose in
    let m : Matches (file_with f.durable) [] (file_with found) = record {
      stands = λ x lt. elim (h.stands x lt) [
        | inl l ↦ absurd (subst (λ (rs : List (ℕ × ℕ)). IsLoose rs x) firm.loose l)
        | inr e ↦ inr e
      ];
      no_shorter = h.no_shorter;
      no_longer = (let k : length found ≤ max (length f.durable) (loose_end f.loose) = h.no_longer in omega (arith, k, none));
      regular = refl;
    } in
    let same : Some (file_with found) ≡ Some (file_with f.durable) =
    found_only (Some (file_with f.durable)) (Some (file_with found)) (inr (inr (inl m))) in
    let bytes : found ≡ f.durable = ap bytes_of same in
    bytes ∙ firm.durable

pub firm_reads : (f : Node) → IsFirm f → MayRead f f.bytes
firm_reads f firm = record {
  stands = λ x lt. inr (ap (λ (b : List ℕ). slice_index_or b x 0) (sym firm.durable));
  no_shorter = (let e : length f.durable ≡ length f.bytes = ap length firm.durable in omega (arith, e));
  no_longer = (let e : length f.durable ≡ length f.bytes = ap length firm.durable in omega (arith, e));
}

pub new_firm : IsFirm new_node
new_firm = record { loose = refl; durable = refl }

pub synced_firm : (f : Node) → f.lost ≡ [] → IsFirm (synced f)
synced_firm f none = record { loose = none; durable = refl }

-- a file that may be left as it reads still may after a change
pub sound_synced : (f : Node) → MayRead (synced f) f.bytes
sound_synced f = record { stands = λ x lt. inr refl; no_shorter = omega arith; no_longer = omega arith }

pub sound_lost : (f : Node) → MayRead f f.bytes → MayRead (record f { lost = f.loose }) f.bytes
sound_lost f h = record { stands = h.stands; no_shorter = h.no_shorter; no_longer = h.no_longer }

more_loose : (f : Node) (pos len : ℕ) (lost : List (ℕ × ℕ)) (found : List ℕ) → MayRead f found
    → MayRead (record f { loose = (pos, len) ∷ f.loose; lost = lost }) found
more_loose f pos len lost found h = record {
  stands = λ x lt. elim (h.stands x lt) [ inl l ↦ inl (inr l) | inr e ↦ inr e ];
  no_shorter = h.no_shorter;
  no_longer = (let k : length found ≤ max (length f.durable) (loose_end f.loose) = h.no_longer in omega (arith, k));
}

pub sound_loss : (f : Node) (pos len : ℕ) → MayRead f f.bytes → MayRead (with_loss pos len f) f.bytes
sound_loss f pos len h = more_loose f pos len ((pos, len) ∷ f.lost) f.bytes h
