-- What the files read and what they may show, name by name.
use Rattle.std.proofs.Common.{◌≡◌, ◌⊎◌, inl, inr, ℕ, Bool, true, false, cond, eqb, List, [], ◌∷◌, Option, Some, None, refl, sym, ◌∙◌, ap, subst}
use Rattle.std.specs.Str.{bytes_eq}
use Rattle.std.proofs.lemmas.Slice.Eq.{bytes_eq-Decides}
use Rattle.std.proofs.lemmas.Bool.{cases_Bool, cond-false, cond-true, false≢true}
use Rattle.kernel_files.specs.Volume.{Node, Volume, new_node, at_node, lead, may_lead, MayRead, LeavesOne, Leaves as LeavesEntry, Free, IsNew}
use Rattle.kernel_files.proofs.Volumes.{other_name as is_other, node_other, names_here, names_other, finds_same}
use Rattle.crash_site.specs.Files.{File, put}
use Rattle.crash_site.specs.Disk.{Showing, Disk}
use Rattle.crash_site.specs.Left.{MayShow}
use Rattle.kernel_laws.specs.Refines.{as_file, read_at, files_of, Within, IsAmong, IsFirm, Begun}
use Rattle.kernel_laws.proofs.Nodes.{firm_found, firm_reads, new_firm}

pub is_name : (n name : List ℕ) → bytes_eq n name ≡ true → n ≡ name
is_name n name e = (bytes_eq-Decides n name).0 e

pub not_name : (n name : List ℕ) → bytes_eq n name ≡ false → n ≡ name → ⊥
not_name n name e same = false≢true (sym e ∙ (bytes_eq-Decides n name).1 same)

pub shown : (b : Bool) (x y : Showing) (f : Option File) → (b ≡ true → MayShow x f) → (b ≡ false → MayShow y f)
    → MayShow (cond b x y) f
shown true x y f h k = h refl
shown false x y f h k = k refl

-- Entries.

-- a name leads elsewhere, and what it leads to may be shown there
pub lead_within : (d : Disk) (name : List ℕ) (e : Option ℕ) (u : Volume) → Within d u
    → ((found : Option (List ℕ)) → LeavesEntry u.nodes e found → MayShow (d.shows name) (as_file found))
    → Within d (lead name e u)
lead_within d name e u in_d ok n found h =
    elim (cases_Bool (bytes_eq n name)) [
      | inl is ↦
          let k : LeavesEntry u.nodes e found ⊎ LeavesOne u.nodes (u.may n) found =
          subst (λ (l : List (Option ℕ)). LeavesOne u.nodes l found)
          (cond-true (bytes_eq n name) (e ∷ u.may n) (u.may n) is) h in
          elim k [
            | inl now ↦ subst (λ (m : List ℕ). MayShow (d.shows m) (as_file found)) (sym (is_name n name is)) (ok found now)
            | inr old ↦ in_d n found old
          ]
      | inr is ↦ in_d n found (subst (λ (l : List (Option ℕ)). LeavesOne u.nodes l found)
          (cond-false (bytes_eq n name) (e ∷ u.may n) (u.may n) is) h)
    ]

pub may_within : (d : Disk) (name : List ℕ) (e : Option ℕ) (u : Volume) → Within d u
    → ((found : Option (List ℕ)) → LeavesEntry u.nodes e found → MayShow (d.shows name) (as_file found))
    → Within d (may_lead name e u)
may_within d name e u in_d ok n found h = lead_within d name e u in_d ok n found h

both_among : (b : Bool) (e f : Option ℕ) (es : List (Option ℕ)) → IsAmong f es
    → IsAmong (cond b e f) (cond b (e ∷ es) es)
both_among true e f es h = inl refl
both_among false e f es h = h

pub more_among : (b : Bool) (e f : Option ℕ) (es : List (Option ℕ)) → IsAmong f es → IsAmong f (cond b (e ∷ es) es)
more_among true e f es h = inr h
more_among false e f es h = h

pub lead_here : (name : List ℕ) (e : Option ℕ) (v : Volume) → ((n : List ℕ) → IsAmong (v.names n) (v.may n))
    → (n : List ℕ) → IsAmong ((lead name e v).names n) ((lead name e v).may n)
lead_here name e v h n = both_among (bytes_eq n name) e (v.names n) (v.may n) (h n)

pub may_here : (name : List ℕ) (e : Option ℕ) (v : Volume) → ((n : List ℕ) → IsAmong (v.names n) (v.may n))
    → (n : List ℕ) → IsAmong (v.names n) ((may_lead name e v).may n)
may_here name e v h n = more_among (bytes_eq n name) e (v.names n) (v.may n) (h n)

-- what the entry that reads leaves is among what may be left
pub finds_here : (nodes : ℕ → Node) (e : Option ℕ) (es : List (Option ℕ)) (found : Option (List ℕ)) → IsAmong e es
    → LeavesEntry nodes e found → LeavesOne nodes es found
finds_here nodes e [] found is h = absurd is
finds_here nodes e (x ∷ es) found (inl is) h = inl (subst (λ (y : Option ℕ). LeavesEntry nodes y found) is h)
finds_here nodes e (x ∷ es) found (inr is) h = inr (finds_here nodes e es found is h)

pub free_at : (i : ℕ) (e : Option ℕ) (es : List (Option ℕ)) → Free i es → IsAmong e es → e ≡ Some i → ⊥
free_at i e [] free is same = is
free_at i e (x ∷ es) free (inl is) same = free.0 (sym is ∙ same)
free_at i e (x ∷ es) free (inr is) same = free_at i e es free.1 is same

pub free_more : (b : Bool) (i : ℕ) (e : Option ℕ) (es : List (Option ℕ)) → (e ≡ Some i → ⊥) → Free i es
    → Free i (cond b (e ∷ es) es)
free_more true i e es apart h = (apart, h)
free_more false i e es apart h = h

-- Files.

pub whole_found : (nodes : ℕ → Node) (e : Option ℕ) (found : Option (List ℕ))
    → ((j : ℕ) → e ≡ Some j → IsFirm (nodes j)) → LeavesEntry nodes e found → found ≡ read_at nodes e
whole_found nodes None None firm h = refl
whole_found nodes None (Some bytes) firm h = absurd h
whole_found nodes (Some j) None firm h = absurd h
whole_found nodes (Some j) (Some bytes) firm h =
    ap (λ (b : List ℕ). Some b) (firm_found (nodes j) bytes (firm j refl) h)

leaves_less : (old new : ℕ → Node) → ((j : ℕ) (found : List ℕ) → MayRead (new j) found → MayRead (old j) found)
    → (e : Option ℕ) (found : Option (List ℕ)) → LeavesEntry new e found → LeavesEntry old e found
leaves_less old new less None None h = h
leaves_less old new less None (Some bytes) h = h
leaves_less old new less (Some j) None h = h
leaves_less old new less (Some j) (Some bytes) h = less j bytes h

pub finds_less : (old new : ℕ → Node) → ((j : ℕ) (found : List ℕ) → MayRead (new j) found → MayRead (old j) found)
    → (es : List (Option ℕ)) (found : Option (List ℕ)) → LeavesOne new es found → LeavesOne old es found
finds_less old new less [] found h = h
finds_less old new less (e ∷ es) found (inl h) = inl (leaves_less old new less e found h)
finds_less old new less (e ∷ es) found (inr h) = inr (finds_less old new less es found h)

pub either_node : (P : Node → Type 0) (b : Bool) (x y : Node) → P x → P y → P (cond b x y)
either_node P true x y h k = h
either_node P false x y h k = k

pub read_same : (old new : ℕ → Node) (i : ℕ) → ((j : ℕ) → (j ≡ i → ⊥) → new j ≡ old j) → (e : Option ℕ)
    → (e ≡ Some i → ⊥) → read_at new e ≡ read_at old e
read_same old new i others None apart = refl
read_same old new i others (Some j) apart =
    ap (λ (f : Node). Some f.bytes) (others j (λ e. apart (ap (λ (k : ℕ). Some k) e)))

pub read_bytes : (old new : ℕ → Node) → ((j : ℕ) → (new j).bytes ≡ (old j).bytes) → (e : Option ℕ)
    → read_at new e ≡ read_at old e
read_bytes old new same None = refl
read_bytes old new same (Some j) = ap (λ (b : List ℕ). Some b) (same j)

-- what reads under a name that leads elsewhere, and under the others
pub lead_reads : (name : List ℕ) (e : Option ℕ) (u : Volume)
    → files_of (lead name e u) name ≡ as_file (read_at u.nodes e)
lead_reads name e u = ap (λ (x : Option ℕ). as_file (read_at u.nodes x)) (names_here name e u)

pub others_read : (name n : List ℕ) (e : Option ℕ) (u : Volume) → (n ≡ name → ⊥)
    → files_of u n ≡ files_of (lead name e u) n
others_read name n e u apart = ap (λ (x : Option ℕ). as_file (read_at u.nodes x)) (sym (names_other name n e u apart))

-- a file is put under a name that leads to it
pub put_reads : (files : List ℕ → Option File) (name : List ℕ) (file : Option File) (v : Volume)
    → ((n : List ℕ) → (n ≡ name → ⊥) → files n ≡ files_of v n) → file ≡ files_of v name
    → (n : List ℕ) → put files name file n ≡ files_of v n
put_reads files name file v others here n =
    elim (cases_Bool (bytes_eq n name)) [
      | inl t ↦ cond-true (bytes_eq n name) file (files n) t ∙ here
          ∙ ap (λ (m : List ℕ). files_of v m) (sym (is_name n name t))
      | inr t ↦ cond-false (bytes_eq n name) file (files n) t ∙ others n (not_name n name t)
    ]

-- A new file.

abbrev pub with_new : ℕ → Volume → Volume
with_new i u = at_node i (λ f. new_node) u

pub new_within : (d : Disk) (i : ℕ) (u : Volume) → IsNew u i → Within d u → Within d (with_new i u)
new_within d i u new in_d n found h =
    in_d n found (finds_same u.nodes (with_new i u).nodes i (λ j a. node_other i j (λ f. new_node) u a) (u.may n) (new.shown n) found h)

pub new_reads : (i : ℕ) (u : Volume) → IsNew u i → (n : List ℕ) → files_of u n ≡ files_of (with_new i u) n
new_reads i u new n =
    ap as_file (sym (read_same u.nodes (with_new i u).nodes i (λ j a. node_other i j (λ f. new_node) u a) (u.names n) (new.named n)))

pub new_sound : (i : ℕ) (u : Volume) → ((j : ℕ) → MayRead (u.nodes j) (u.nodes j).bytes)
    → (j : ℕ) → MayRead ((with_new i u).nodes j) ((with_new i u).nodes j).bytes
new_sound i u h j = either_node (λ (f : Node). MayRead f f.bytes) (eqb j i) new_node (u.nodes j) (firm_reads new_node new_firm) (h j)

pub begun_new : (draft : List ℕ) (i : ℕ) (u : Volume) → IsNew u i → Begun draft i (lead draft (Some i) (with_new i u))
begun_new draft i u new = record {
  named = names_here draft (Some i) (with_new i u);
  apart = λ n apart. subst (λ (es : List (Option ℕ)). Free i es)
      (sym (cond-false (bytes_eq n draft) (Some i ∷ u.may n) (u.may n) (is_other n draft apart))) (new.shown n);
}
