-- The files that a list of places holds, by name: after a change of one place, and after one more place.
use Rattle.std.proofs.Common.{◌≡◌, ℕ, ◌<◌, Bool, true, false, cond, List, [], ◌∷◌, ◌++◌, length, get_or, map, Option, Some, None, MatchOption, option_copied, Bor, refl, sym, ◌∙◌, ap, zero, suc, arith, inl, inr, length-append}
use Rattle.std.proofs.Math.ListN.{set}
use Rattle.std.proofs.lemmas.List.{get_or-set_same, get_or-set_other, length-set, get_or_append_left, get_or_at}
use Rattle.std.proofs.lemmas.Bool.{cases_eq, cases_Bool, cond-true, cond-false, both_ways}
use Rattle.std.proofs.lemmas.Slice.Eq.{bytes_eq-Decides}
use Rattle.std.specs.Str.{bytes_eq}
use mathlib.Core.Path.{fun_ext}
use Rattle.memory_site.specs.declared.memory.places.MemoryFile.{MemoryFile}
use Rattle.memory_site.specs.declared.memory.places.NamedFile.{NamedFile}
use Rattle.crash_site.specs.Files.{File, put}
use Rattle.memory_site.specs.Places.{file_of, files_of, name_and_file, IsPlaceOf}

same_name : (a b : List ℕ) → a ≡ b → bytes_eq a b ≡ true
same_name a b e = (bytes_eq-Decides a b).1 e

collapse : (b : Bool) (x y z : Option File) → cond b x z ≡ cond b x (cond b y z)
collapse true x y z = refl
collapse false x y z = refl

swap_tests : (a b : Bool) (x y z : Option File) → (a ≡ true → b ≡ true → ⊥)
    → cond a y (cond b x z) ≡ cond b x (cond a y z)
swap_tests true true x y z apart = absurd (apart refl refl)
swap_tests true false x y z apart = refl
swap_tests false true x y z apart = refl
swap_tests false false x y z apart = refl

at_head : (n name pn qn : List ℕ) (x y z : Option File) → pn ≡ name → qn ≡ name
    → cond (bytes_eq n pn) x z ≡ cond (bytes_eq n name) x (cond (bytes_eq n qn) y z)
at_head n name pn qn x y z p q =
    ap (λ (m : List ℕ). cond (bytes_eq n m) x z) p
    ∙ collapse (bytes_eq n name) x y z
    ∙ ap (λ (m : List ℕ). cond (bytes_eq n name) x (cond (bytes_eq n m) y z)) (sym q)

not_both : (n name other : List ℕ) → bytes_eq name other ≡ false → bytes_eq n other ≡ true → bytes_eq n name ≡ true → ⊥
not_both n name other ne e f =
    both_ways (bytes_eq name other) ne
    (same_name name other (sym ((bytes_eq-Decides n name).0 f) ∙ (bytes_eq-Decides n other).0 e))

place_after : (q : NamedFile) (qs : List NamedFile) (name : List ℕ) (j : ℕ) → IsPlaceOf (q ∷ qs) name (suc j)
    → IsPlaceOf qs name j
place_after q qs name j h = record {
  within = (let w : suc j < suc (length qs) = h.within in omega arith);
  here = λ d. h.here d;
  before = λ k d lt. h.before (suc k) d (omega arith);
}

set_at_name : (ps : List NamedFile) (name n : List ℕ) (i : ℕ) (p : NamedFile) → IsPlaceOf ps name i → p.name.items ≡ name
    → files_of (set ps i p) n ≡ put (files_of ps) name (file_of p.file) n
set_at_name [] name n i p h e = absurd (let w : i < 0 = h.within in omega arith)
set_at_name (q ∷ qs) name n zero p h e =
    at_head n name p.name.items q.name.items (file_of p.file) (file_of q.file) (files_of qs n) e (h.here q)
set_at_name (q ∷ qs) name n (suc j) p h e =
    ap (λ (o : Option File). cond (bytes_eq n q.name.items) (file_of q.file) o)
    (set_at_name qs name n j p (place_after q qs name j h) e)
    ∙ swap_tests (bytes_eq n q.name.items) (bytes_eq n name) (file_of p.file) (file_of q.file) (files_of qs n)
    (not_both n name q.name.items (h.before 0 q (omega arith)))

-- a place with another file
pub files_of-set : (ps : List NamedFile) (name : List ℕ) (i : ℕ) (p : NamedFile) → IsPlaceOf ps name i → p.name.items ≡ name
    → files_of (set ps i p) ≡ put (files_of ps) name (file_of p.file)
files_of-set ps name i p h e = fun_ext (λ n. set_at_name ps name n i p h e)

-- what stands under the name of a place
pub files_of-at : (ps : List NamedFile) (name : List ℕ) (i : ℕ) (d : NamedFile) → IsPlaceOf ps name i
    → files_of ps name ≡ file_of (get_or ps i d).file
files_of-at [] name i d h = absurd (let w : i < 0 = h.within in omega arith)
files_of-at (q ∷ qs) name zero d h =
    cond-true (bytes_eq name q.name.items) (file_of q.file) (files_of qs name)
    (same_name name q.name.items (sym (h.here q)))
files_of-at (q ∷ qs) name (suc j) d h =
    cond-false (bytes_eq name q.name.items) (file_of q.file) (files_of qs name) (h.before 0 q (omega arith))
    ∙ files_of-at qs name j d (place_after q qs name j h)

-- no place has the name
pub files_of-none : (ps : List NamedFile) (name : List ℕ)
    → ((k : ℕ) (d : NamedFile) → k < length ps → bytes_eq name (get_or ps k d).name.items ≡ false) → files_of ps name ≡ None
files_of-none [] name h = refl
files_of-none (q ∷ qs) name h =
    cond-false (bytes_eq name q.name.items) (file_of q.file) (files_of qs name) (h 0 q (omega arith))
    ∙ files_of-none qs name (λ k d lt. h (suc k) d (omega arith))

none_either : (b : Bool) → cond b None (let o : Option File = None in o) ≡ None
none_either true = refl
none_either false = refl

push_at_name : (ps : List NamedFile) (p : NamedFile) (n : List ℕ) → file_of p.file ≡ None
    → files_of (ps ++ p ∷ []) n ≡ files_of ps n
push_at_name [] p n e =
    ap (λ (o : Option File). cond (bytes_eq n p.name.items) o None) e ∙ none_either (bytes_eq n p.name.items)
push_at_name (q ∷ qs) p n e =
    ap (λ (o : Option File). cond (bytes_eq n q.name.items) (file_of q.file) o) (push_at_name qs p n e)

-- one more place where nothing stands
pub files_of-push : (ps : List NamedFile) (p : NamedFile) → file_of p.file ≡ None → files_of (ps ++ p ∷ []) ≡ files_of ps
files_of-push ps p e = fun_ext (λ n. push_at_name ps p n e)

pub place_pushed : (ps : List NamedFile) (p : NamedFile) (name : List ℕ)
    → ((k : ℕ) (d : NamedFile) → k < length ps → bytes_eq name (get_or ps k d).name.items ≡ false) → p.name.items ≡ name
    → IsPlaceOf (ps ++ p ∷ []) name (length ps)
place_pushed ps p name none e = record {
  within = omega (arith, length-append ps (p ∷ []));
  here = λ d. ap (λ (q : NamedFile). q.name.items) (get_or_at ps p [] d (length ps) refl) ∙ e;
  before =
      λ k d lt. ap (λ (q : NamedFile). bytes_eq name q.name.items) (get_or_append_left ps (p ∷ []) d k lt) ∙ none k d lt;
}

name_kept : (ps : List NamedFile) (i k : ℕ) (p d : NamedFile) → ((e : NamedFile) → p.name.items ≡ (get_or ps i e).name.items)
    → k < length ps → (get_or (set ps i p) k d).name.items ≡ (get_or ps k d).name.items
name_kept ps i k p d same lt = elim (cases_eq k i) [
  | inl e ↦ (let at : i < length ps = omega arith in
      ap (λ (j : ℕ). (get_or (set ps i p) j d).name.items) e
      ∙ ap (λ (q : NamedFile). q.name.items) (get_or-set_same ps i p d at) ∙ same d
      ∙ ap (λ (j : ℕ). (get_or ps j d).name.items) (sym e))
  | inr ne ↦ ap (λ (q : NamedFile). q.name.items) (get_or-set_other ps i k p d ne)
]

-- a place with the same name put over another keeps where each name is found
pub place_kept : (ps : List NamedFile) (i : ℕ) (p : NamedFile) → ((e : NamedFile) → p.name.items ≡ (get_or ps i e).name.items)
    → (name : List ℕ) (j : ℕ) → IsPlaceOf ps name j → IsPlaceOf (set ps i p) name j
place_kept ps i p same name j h = record {
  within = (let w : j < length ps = h.within in omega (arith, length-set ps i p));
  here = λ d. name_kept ps i j p d same h.within ∙ h.here d;
  before = λ k d lt. ap (λ (m : List ℕ). bytes_eq name m)
      (name_kept ps i k p d same (let w : j < length ps = h.within in omega arith)) ∙ h.before k d lt;
}

file_among : List (List ℕ × Option File) → List ℕ → Option File
file_among [] n = None
file_among (t ∷ ts) n = cond (bytes_eq n t.0) t.1 (file_among ts n)

files_are_among : (ps : List NamedFile) (n : List ℕ) → files_of ps n ≡ file_among (map name_and_file ps) n
unfolding file_among
files_are_among [] n = refl
files_are_among (p ∷ ps) n = ap (λ (o : Option File). cond (bytes_eq n p.name.items) (file_of p.file) o) (files_are_among ps n)

-- places that tell the same hold the same files
pub files_of-same : (ps qs : List NamedFile) → map name_and_file ps ≡ map name_and_file qs → files_of ps ≡ files_of qs
files_of-same ps qs e = fun_ext (λ n. files_are_among ps n ∙ ap (λ ts. file_among ts n) e ∙ sym (files_are_among qs n))

put_at_name : (files : List ℕ → Option File) (name n : List ℕ) → put files name (files name) n ≡ files n
put_at_name files name n = elim (cases_Bool (bytes_eq n name)) [
  | inl same ↦ cond-true (bytes_eq n name) (files name) (files n) same
      ∙ ap files (sym ((bytes_eq-Decides n name).0 same))
  | inr other ↦ cond-false (bytes_eq n name) (files name) (files n) other
]

-- files with what stands under a name put there again
pub put-same : (files : List ℕ → Option File) (name : List ℕ) (file : Option File) → files name ≡ file
    → put files name file ≡ files
put-same files name file e = ap (put files name) (sym e) ∙ fun_ext (put_at_name files name)

match_file : (r : Option (Bor MemoryFile)) (o : Option File) → o ≡ file_of (option_copied r)
    → MatchOption r (o ≡ None) (λ file. o ≡ Some (record { bytes = file.now.bytes.items; regular = file.now.regular }))
match_file None o e = e
match_file (Some f) o e = e

-- what a reference to the file of a name's place says
pub file_found : (ps : List NamedFile) (name : List ℕ) (i : ℕ) (p : NamedFile) (r : Option (Bor MemoryFile))
    → IsPlaceOf ps name i → option_copied r ≡ (get_or ps i p).file
    → MatchOption r (files_of ps name ≡ None)
    (λ file. files_of ps name ≡ Some (record { bytes = file.now.bytes.items; regular = file.now.regular }))
file_found ps name i p r h copied =
    match_file r (files_of ps name) (files_of-at ps name i p h ∙ ap file_of (sym copied))

-- the place of a name once its file is taken away
pub file_taken : (ps : List NamedFile) (name : List ℕ) (i : ℕ) (p : NamedFile) (o : Option MemoryFile) → IsPlaceOf ps name i
    → p ≡ get_or ps i p → o ≡ None
    → files_of (set ps i (record { name = p.name; file = o })) ≡ put (files_of ps) name None
file_taken ps name i p o h is none =
    files_of-set ps name i (record { name = p.name; file = o }) h (ap (λ (q : NamedFile). q.name.items) is ∙ h.here p)
    ∙ ap (λ (f : Option MemoryFile). put (files_of ps) name (file_of f)) none

-- what stood under a name, once its place was found or made
pub file_stood : (was ps : List NamedFile) (name : List ℕ) (i : ℕ) (q : NamedFile) → IsPlaceOf ps name i
    → files_of ps ≡ files_of was → q ≡ get_or ps i q → files_of was name ≡ file_of q.file
file_stood was ps name i q h same is = ap (λ (f : List ℕ → Option File). f name) (sym same) ∙ files_of-at ps name i q h
    ∙ ap (λ (p : NamedFile). file_of p.file) (sym is)

-- the files once the place of a name has another file
pub file_changed : (was ps : List NamedFile) (name : List ℕ) (i : ℕ) (q p : NamedFile) (file : Option File) → IsPlaceOf ps name i
    → files_of ps ≡ files_of was → q ≡ get_or ps i q → p.name.items ≡ q.name.items → file_of p.file ≡ file
    → files_of (set ps i p) ≡ put (files_of was) name file
file_changed was ps name i q p file h same is named e =
    files_of-set ps name i p h (named ∙ ap (λ (r : NamedFile). r.name.items) is ∙ h.here q)
    ∙ ap (λ (f : List ℕ → Option File). put f name (file_of p.file)) same
    ∙ ap (put (files_of was) name) e

-- the files once the place of a name has the same file again
pub file_unchanged : (was ps : List NamedFile) (name : List ℕ) (i : ℕ) (q p : NamedFile) → IsPlaceOf ps name i
    → files_of ps ≡ files_of was → q ≡ get_or ps i q → p.name.items ≡ q.name.items → file_of p.file ≡ file_of q.file
    → files_of (set ps i p) ≡ files_of was
file_unchanged was ps name i q p h same is named e =
    file_changed was ps name i q p (file_of q.file) h same is named e
    ∙ put-same (files_of was) name (file_of q.file) (file_stood was ps name i q h same is)

-- the files once what stood under one name was put under another
pub file_moved : (was made ps : List NamedFile) (draft name : List ℕ) (i : ℕ) (q p : NamedFile) → IsPlaceOf ps name i
    → files_of made ≡ files_of was → files_of ps ≡ put (files_of made) draft None → q ≡ get_or ps i q
    → p.name.items ≡ q.name.items → file_of p.file ≡ files_of made draft
    → files_of (set ps i p) ≡ put (put (files_of was) draft None) name (files_of was draft)
file_moved was made ps draft name i q p h same taken is named e =
    file_changed ps ps name i q p (files_of made draft) h refl is named e
    ∙ ap (λ (f : List ℕ → Option File). put f name (files_of made draft)) taken
    ∙ ap (λ (f : List ℕ → Option File). put (put f draft None) name (f draft)) same

pub ruleset place_lemmas = (files_of-set, files_of-at, files_of-none, files_of-push, place_pushed, place_kept, put-same)
