-- Blocks of which no two neighbors have one status: their parts, and how they join.
use Rattle.std.proofs.Common.{◌≡◌, ℕ, zero, suc, List, [], ◌∷◌, ◌++◌, take, drop, Some, refl, sym, ◌∙◌, subst, append_assoc, add-one}
use Rattle.std.specs.List.{slice_get}
use Rattle.std.proofs.lemmas.List.{take-append-drop}
use Rattle.block_list.specs.declared.status.Status.{Status}
use Rattle.block_list.specs.declared.block.Block.{Block}
use Rattle.block_list.specs.Tiling.{IsMerged}

-- the first block, if there is one, has another status
abbrev pub IsOther : Status → List Block → Type 0
IsOther s [] = Unit {0}
IsOther s (b ∷ bs) = s ≡ b.status → ⊥

-- `IsMerged`, by recursion
abbrev pub AreApart : List Block → Type 0
AreApart [] = Unit {0}
AreApart (b ∷ bs) = IsOther b.status bs × AreApart bs

pub apart_from_merged : (bs : List Block) → IsMerged bs → AreApart bs
apart_from_merged [] m = tt
apart_from_merged (b ∷ []) m = (tt, tt)
apart_from_merged (b ∷ c ∷ bs) m = (
  m.differ 0 b c refl refl,
  apart_from_merged (c ∷ bs)
      (record { differ = λ k x y e f. m.differ (suc k) x y e (rw (add-one (suc k)) (rw (add-one k) at f)) }),
)

differs : (bs : List Block) (k : ℕ) (x y : Block) → AreApart bs → slice_get bs k ≡ Some x
    → slice_get bs (suc k) ≡ Some y → x.status ≡ y.status → ⊥
differs [] k x y a e f s = cc
differs (b ∷ []) k x y a e f s = cc
differs (b ∷ c ∷ bs) zero x y a e f s = a.0 (cc)
differs (b ∷ c ∷ bs) (suc k) x y a e f s = differs (c ∷ bs) k x y a.1 e f s

pub merged_from_apart : (bs : List Block) → AreApart bs → IsMerged bs
merged_from_apart bs a = record { differ = λ k x y e f. differs bs k x y a e (rw (add-one k) at f) }

pub apart_left : (xs ys : List Block) → AreApart (xs ++ ys) → AreApart xs
apart_left [] ys a = tt
apart_left (b ∷ []) ys a = (tt, tt)
apart_left (b ∷ c ∷ xs) ys a = (a.0, apart_left (c ∷ xs) ys a.1)

pub apart_right : (xs ys : List Block) → AreApart (xs ++ ys) → AreApart ys
apart_right [] ys a = a
apart_right (b ∷ xs) ys a = apart_right xs ys a.1

pub apart_meet : (xs : List Block) (b : Block) (ys : List Block) → AreApart (xs ++ b ∷ []) → AreApart (b ∷ ys)
    → AreApart (xs ++ b ∷ ys)
apart_meet [] b ys f g = g
apart_meet (x ∷ []) b ys f g = (f.0, g)
apart_meet (x ∷ y ∷ xs) b ys f g = (f.0, apart_meet (y ∷ xs) b ys f.1 g)

pub apart_last : (xs : List Block) (b c : Block) → b.status ≡ c.status → AreApart (xs ++ b ∷ [])
    → AreApart (xs ++ c ∷ [])
apart_last [] b c e a = (tt, tt)
apart_last (x ∷ []) b c e a = (λ q. a.0 (q ∙ sym e), (tt, tt))
apart_last (x ∷ y ∷ xs) b c e a = (a.0, apart_last (y ∷ xs) b c e a.1)

pub apart_first : (b c : Block) (ys : List Block) → b.status ≡ c.status → AreApart (b ∷ ys) → AreApart (c ∷ ys)
apart_first b c ys e a = (let P : Status → Type 0 = λ s. IsOther s ys in subst P e a.0, a.1)

pub apart_push : (xs : List Block) (a b : Block) → (a.status ≡ b.status → ⊥) → AreApart (xs ++ a ∷ [])
    → AreApart ((xs ++ a ∷ []) ++ b ∷ [])
apart_push xs a b h f = rw (append_assoc xs (a ∷ []) (b ∷ [])) (apart_meet xs a (b ∷ []) f (h, (tt, tt)))

pub merged_front : (i : ℕ) (bs : List Block) → IsMerged bs → AreApart (take i bs)
merged_front i bs m =
    apart_left (take i bs) (drop i bs) (subst AreApart (sym (take-append-drop i bs)) (apart_from_merged bs m))

pub merged_back : (i : ℕ) (bs : List Block) → IsMerged bs → AreApart (drop i bs)
merged_back i bs m =
    apart_right (take i bs) (drop i bs) (subst AreApart (sym (take-append-drop i bs)) (apart_from_merged bs m))
