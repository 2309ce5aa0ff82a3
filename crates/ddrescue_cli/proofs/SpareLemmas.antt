-- Calls that write nothing into the output.
use Rattle.std.specs.Bool.{⊤}
use Rattle.std.proofs.Common.{◌≡◌, ℕ, zero, suc, Bool, true, false, ◌||◌, List, [], ◌∷◌, ◌++◌, take, map, refl, sym, ap, ◌∙◌, inl, inr, subst}
use Rattle.std.specs.List.{list_any}
use Rattle.std.proofs.lemmas.List.Elements.{All-head, All-tail}
use Rattle.crash_site.specs.Calls.{Call, Entry, Done, Failed, image_write, map_read}
use Rattle.crash_site.specs.CallsMade.{unanswered}
use Rattle.rescue_rules.specs.Setting.{Setting}
use Rattle.rescue_rules.specs.Work.{is_map_read, AreMapReads}
use Rattle.rescue_rules.specs.Stops.{is_write}
use Rattle.rescue_rules.specs.StopsBy.{IsUnwritten}
use Rattle.rescue_rules.proofs.CutLemmas.{IsOf, Cut}
use Rattle.rescue_rules.proofs.MapfileLemmas.{opening_by}

-- none of these calls writes
abbrev pub AreSpare : List Call → Type 0
AreSpare [] = ⊤
AreSpare (c ∷ cs) = (is_write (Done c) ≡ false) × AreSpare cs

pub spare_append : (xs ys : List Call) → AreSpare xs → AreSpare ys → AreSpare (xs ++ ys)
spare_append [] ys p q = q
spare_append (c ∷ cs) ys p q = (p.0, spare_append cs ys p.1 q)

pub spare_opening : (s : Setting) (makes : Bool) → AreSpare (opening_by s makes)
spare_opening s makes = (refl, (refl, (refl, tt)))

spare_read : (c : Call) → is_map_read c ≡ true → is_write (Done c) ≡ false
spare_read (map_read name at size answer) is = refl
spare_read c is = absurd (cc)

pub spare_reads : (maps : List Call) → AreMapReads maps → AreSpare maps
spare_reads [] reads = tt
spare_reads (c ∷ maps) reads = (
  spare_read c (All-head (λ c. is_map_read c ≡ true) c maps reads),
  spare_reads maps (All-tail (λ c. is_map_read c ≡ true) c maps reads),
)

pub none_written : (cs : List Call) → AreSpare cs → list_any is_write (map Done cs) ≡ false
none_written [] spare = refl
none_written (c ∷ cs) spare = ap (λ (b : Bool). b || list_any is_write (map Done cs)) spare.0 ∙ none_written cs spare.1

-- one entry more, by what it may be
unwritten_done : (c : Call) (es : List Entry) (y : ℕ) → is_write (Done c) ≡ false → IsUnwritten es y
    → IsUnwritten (Done c ∷ es) y
unwritten_done (image_write pos piece) es y spare h = absurd (cc)
unwritten_done c es y spare h = h

unwritten_failed : (c : Call) (steps y : ℕ) → is_write (Done c) ≡ false → IsUnwritten (Failed c steps ∷ []) y
unwritten_failed (image_write pos piece) steps y spare = absurd (cc)
unwritten_failed c steps y spare = tt

write_alike : (c : Call) → is_write (Done (unanswered c)) ≡ is_write (Done c)
write_alike (image_write pos piece) = refl
write_alike c = refl

spare_lost : (c x : Call) → IsOf c x → is_write (Done c) ≡ false → is_write (Done x) ≡ false
spare_lost c x (inl is) spare = ap (λ (v : Call). is_write (Done v)) is ∙ spare
spare_lost c x (inr is) spare = ap (λ (v : Call). is_write (Done v)) is ∙ write_alike c ∙ spare

-- no place is reached by some of them, of which the last may have failed
pub unwritten_cut : (cs : List Call) (es : List Entry) (j y : ℕ) → AreSpare cs → Cut cs es → IsUnwritten (take j es) y
unwritten_cut cs [] zero y spare cut = tt
unwritten_cut cs [] (suc j) y spare cut = tt
unwritten_cut cs (e ∷ es) zero y spare cut = tt
unwritten_cut [] (e ∷ es) (suc j) y spare cut = absurd cut
unwritten_cut (c ∷ cs) (Done x ∷ es) (suc j) y spare cut =
    unwritten_done x (take j es) y (ap (λ (v : Call). is_write (Done v)) cut.0 ∙ spare.0)
    (unwritten_cut cs es j y spare.1 cut.1)
unwritten_cut (c ∷ cs) (Failed x steps ∷ es) (suc j) y spare cut =
    subst (λ (l : List Entry). IsUnwritten (Failed x steps ∷ take j l) y) (sym cut.1)
    (unwritten_alone x steps j y (spare_lost c x cut.0 spare.0))
  where
    unwritten_alone : (x : Call) (steps j y : ℕ) → is_write (Done x) ≡ false
        → IsUnwritten (Failed x steps ∷ take j []) y
    unwritten_alone x steps zero y off = unwritten_failed x steps y off
    unwritten_alone x steps (suc j) y off = unwritten_failed x steps y off
