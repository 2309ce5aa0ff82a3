-- What calls leave under other names and of other files.
use Rattle.std.proofs.Common.{◌≡◌, inl, inr, ℕ, true, false, eqb, List, [], ◌∷◌, Option, Some, None, refl, ap, subst, eq-eqb}
use Rattle.std.specs.Str.{bytes_eq}
use Rattle.std.proofs.lemmas.Slice.Eq.{bytes_eq-Decides}
use Rattle.std.proofs.lemmas.Bool.{cases_Bool, cond-false, cond-true, ne_eqb}
use Rattle.kernel_files.specs.Volume.{Node, Volume, at_node, lead, MayRead, Leaves, LeavesOne, Free}

pub own_name : (n : List ℕ) → bytes_eq n n ≡ true
own_name n = (bytes_eq-Decides n n).1 refl

pub other_name : (n name : List ℕ) → (n ≡ name → ⊥) → bytes_eq n name ≡ false
other_name n name apart =
    elim (cases_Bool (bytes_eq n name)) [ inl is ↦ absurd (apart ((bytes_eq-Decides n name).0 is)) | inr e ↦ e ]

pub node_here : (i : ℕ) (f : Node → Node) (v : Volume) → (at_node i f v).nodes i ≡ f (v.nodes i)
node_here i f v = cond-true (eqb i i) (f (v.nodes i)) (v.nodes i) (eq-eqb i i refl)

pub node_other : (i j : ℕ) (f : Node → Node) (v : Volume) → (j ≡ i → ⊥) → (at_node i f v).nodes j ≡ v.nodes j
node_other i j f v apart = cond-false (eqb j i) (f (v.nodes j)) (v.nodes j) (ne_eqb j i apart)

pub names_here : (name : List ℕ) (e : Option ℕ) (v : Volume) → (lead name e v).names name ≡ e
names_here name e v = cond-true (bytes_eq name name) e (v.names name) (own_name name)

pub names_other : (name n : List ℕ) (e : Option ℕ) (v : Volume) → (n ≡ name → ⊥) → (lead name e v).names n ≡ v.names n
names_other name n e v apart = cond-false (bytes_eq n name) e (v.names n) (other_name n name apart)

pub may_here : (name : List ℕ) (e : Option ℕ) (v : Volume) → (lead name e v).may name ≡ e ∷ v.may name
may_here name e v = cond-true (bytes_eq name name) (e ∷ v.may name) (v.may name) (own_name name)

pub may_other : (name n : List ℕ) (e : Option ℕ) (v : Volume) → (n ≡ name → ⊥) → (lead name e v).may n ≡ v.may n
may_other name n e v apart = cond-false (bytes_eq n name) (e ∷ v.may n) (v.may n) (other_name n name apart)

-- what an entry that leads elsewhere leaves
leaves_same : (old new : ℕ → Node) (i : ℕ) → ((j : ℕ) → (j ≡ i → ⊥) → new j ≡ old j) → (e : Option ℕ)
    → (e ≡ Some i → ⊥) → (found : Option (List ℕ)) → Leaves new e found → Leaves old e found
leaves_same old new i others None apart None h = h
leaves_same old new i others None apart (Some found) h = h
leaves_same old new i others (Some j) apart None h = h
leaves_same old new i others (Some j) apart (Some found) h =
    subst (λ (f : Node). MayRead f found) (others j (λ e. apart (ap (λ (k : ℕ). Some k) e))) h

pub finds_same : (old new : ℕ → Node) (i : ℕ) → ((j : ℕ) → (j ≡ i → ⊥) → new j ≡ old j) → (es : List (Option ℕ))
    → Free i es → (found : Option (List ℕ)) → LeavesOne new es found → LeavesOne old es found
finds_same old new i others [] free found h = h
finds_same old new i others (e ∷ es) free found (inl h) = inl (leaves_same old new i others e free.0 found h)
finds_same old new i others (e ∷ es) free found (inr h) = inr (finds_same old new i others es free.1 found h)
