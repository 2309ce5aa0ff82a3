-- How many of its steps a failed call made, by its calls of the kernel.
use Rattle.std.proofs.Common.{◌≡◌, inl, inr, ℕ, ◌+◌, ◌-◌, ◌≤◌, Bool, List, [], ◌∷◌, ◌++◌, length, take, Option, refl, sym, ◌∙◌, ap, subst, append-nil, length-append, length-take-le, take_all, arith}
use Rattle.std.proofs.lemmas.Bool.{cases_lt}
use Rattle.kernel_files.specs.Volume.{Volume, create, write, append, sync_file, rename, unlink, sync_folder, Entry as Step, Done as Did, Failed as Broke, folder_of}
use Rattle.kernel_files.specs.MapCalls.{Appends, Probes, BreaksBegin, BreaksAppend}
use Rattle.kernel_files.specs.ImageCalls.{Writes, BreaksOpen, BreaksWrite}
use Rattle.crash_site.specs.Files.{draft_of}
use Rattle.kernel_laws.specs.Calls.{BreaksSettle}
use Rattle.kernel_laws.specs.Deeds.{taken, made, removed, begun_by}

-- an equation of steps and a number, by what the calls are
by_calls : (count : List Step → ℕ) (steps was : ℕ) (es fs : List Step) → steps ≡ was → es ≡ fs → count fs ≡ was
    → steps ≡ count es
by_calls count steps was es fs e f c = e ∙ sym c ∙ ap count (sym f)

pub open_steps : (v : Volume) (name : List ℕ) (make : Bool) (steps : ℕ) (es : List Step)
    → BreaksOpen v name make steps es → steps ≡ made es
open_steps v name make steps es (inl h) = by_calls (λ l. made l) steps 0 es [] h.0 h.1 refl
open_steps v name make steps es (inr (i, none, asked, new, inl h)) =
    by_calls (λ l. made l) steps 0 es (Broke (create name i) ∷ []) h.0 h.1 refl
open_steps v name make steps es (inr (i, none, asked, new, inr h)) =
    by_calls (λ l. made l) steps 1 es (Did (create name i) ∷ []) h.0 h.1 refl

-- the bytes of a write, and of calls after it
writes_taken : (i pos : ℕ) (piece : List ℕ) (es fs : List Step) → Writes i pos piece es
    → taken (es ++ fs) ≡ length piece + taken fs
writes_taken i pos piece [] fs h =
    let none : length piece ≡ 0 = ap (λ (l : List ℕ). length l) h in
    omega (arith, none)
writes_taken i pos piece (Did (create name j) ∷ es) fs h = absurd h
writes_taken i pos piece (Did (write j at p) ∷ es) fs (rest, same, here, whole, h) =
    let more : taken (es ++ fs) ≡ length rest + taken fs = writes_taken i (pos + length p) rest es fs h in
    let all : length piece ≡ length p + length rest =
    ap (λ (l : List ℕ). length l) whole ∙ length-append p rest in
    omega (arith, more, all)
writes_taken i pos piece (Did (append j p) ∷ es) fs h = absurd h
writes_taken i pos piece (Did (sync_file j) ∷ es) fs h = absurd h
writes_taken i pos piece (Did (rename from to) ∷ es) fs h = absurd h
writes_taken i pos piece (Did (unlink name) ∷ es) fs h = absurd h
writes_taken i pos piece (Did (sync_folder folder) ∷ es) fs h = absurd h
writes_taken i pos piece (Broke c ∷ es) fs h = absurd h

-- a write's calls, and one after them that took nothing
write_by : (i pos : ℕ) (piece : List ℕ) (steps : ℕ) (es front last : List Step) → steps ≤ length piece
    → Writes i pos (take steps piece) front → taken last ≡ 0 → es ≡ front ++ last → steps ≡ taken es
write_by i pos piece steps es front last le h none is =
    let all : taken (front ++ last) ≡ length (take steps piece) + taken last =
    writes_taken i pos (take steps piece) front last h in
    let same : taken es ≡ taken (front ++ last) = ap (λ (l : List Step). taken l) is in
    omega (arith, all, none, same, length-take-le steps piece le)

pub write_steps : (i pos : ℕ) (piece : List ℕ) (steps : ℕ) (es : List Step) → BreaksWrite i pos piece steps es
    → steps ≡ taken es
write_steps i pos piece steps es (front, le, h, inl is) =
    write_by i pos piece steps es front [] le h refl (is ∙ sym (append-nil front))
write_steps i pos piece steps es (front, le, h, inr (rest, fits, is)) =
    write_by i pos piece steps es front (Broke (write i (pos + steps) rest) ∷ []) le h refl is

pub begin_steps : (v : Volume) (name : List ℕ) (steps : ℕ) (es : List Step) → BreaksBegin v name steps es
    → steps ≡ begun_by (made es) (removed es)
begin_steps v name steps es (inl h) = by_calls (λ l. begun_by (made l) (removed l)) steps 0 es [] h.0 h.1 refl
begin_steps v name steps es (inr (inl h)) =
    by_calls (λ l. begun_by (made l) (removed l)) steps 0 es (Broke (unlink name) ∷ []) h.0 h.1 refl
begin_steps v name steps es (inr (inr (inl h))) =
    by_calls (λ l. begun_by (made l) (removed l)) steps 1 es (Did (unlink name) ∷ []) h.0 h.1 refl
begin_steps v name steps es (inr (inr (inr (inl (i, one, new, is))))) =
    by_calls (λ l. begun_by (made l) (removed l)) steps 1 es
    (Did (unlink name) ∷ Broke (create name i) ∷ []) one is refl
begin_steps v name steps es (inr (inr (inr (inr (inl (i, none, new, is)))))) =
    by_calls (λ l. begun_by (made l) (removed l)) steps 0 es (Broke (create name i) ∷ []) none is refl
begin_steps v name steps es (inr (inr (inr (inr (inr (i, two, inl h)))))) =
    by_calls (λ l. begun_by (made l) (removed l)) steps 2 es (Did (create name i) ∷ []) two h.2 refl
begin_steps v name steps es (inr (inr (inr (inr (inr (i, two, inr h)))))) =
    by_calls (λ l. begun_by (made l) (removed l)) steps 2 es (Did (unlink name) ∷ Did (create name i) ∷ []) two h.1 refl

-- the bytes of an append, and of calls after it
appends_taken : (i : ℕ) (piece : List ℕ) (es fs : List Step) → Appends i piece es
    → taken (es ++ fs) ≡ length piece + taken fs
appends_taken i piece [] fs h =
    let none : length piece ≡ 0 = ap (λ (l : List ℕ). length l) h in
    omega (arith, none)
appends_taken i piece (Did (create name j) ∷ es) fs h = absurd h
appends_taken i piece (Did (write j at p) ∷ es) fs h = absurd h
appends_taken i piece (Did (append j p) ∷ es) fs (rest, same, whole, h) =
    let more : taken (es ++ fs) ≡ length rest + taken fs = appends_taken i rest es fs h in
    let all : length piece ≡ length p + length rest =
    ap (λ (l : List ℕ). length l) whole ∙ length-append p rest in
    omega (arith, more, all)
appends_taken i piece (Did (sync_file j) ∷ es) fs h = absurd h
appends_taken i piece (Did (rename from to) ∷ es) fs h = absurd h
appends_taken i piece (Did (unlink name) ∷ es) fs h = absurd h
appends_taken i piece (Did (sync_folder folder) ∷ es) fs h = absurd h
appends_taken i piece (Broke c ∷ es) fs h = absurd h

-- as much of a piece as it has
take_as_long : (n m : ℕ) (piece : List ℕ) → m ≡ length (take n piece) → take m piece ≡ take n piece
take_as_long n m piece e =
    elim (cases_lt n (length piece)) [
      | inl fits ↦ ap (λ (k : ℕ). take k piece) (e ∙ length-take-le n piece (omega (arith, fits)))
      | inr over ↦
          let whole : take n piece ≡ piece = take_all n piece over in
          let long : length piece ≤ m = omega (arith, e, ap (λ (l : List ℕ). length l) whole) in
          take_all m piece long ∙ sym whole
    ]

-- an append's calls, and one after them that took nothing
append_by : (i : ℕ) (piece : List ℕ) (steps : ℕ) (es front last : List Step) → Appends i (take steps piece) front
    → taken last ≡ 0 → es ≡ front ++ last → Appends i (take (taken es) piece) front
append_by i piece steps es front last h none is =
    let all : taken (front ++ last) ≡ length (take steps piece) + taken last =
    appends_taken i (take steps piece) front last h in
    let same : taken es ≡ taken (front ++ last) = ap (λ (l : List Step). taken l) is in
    subst (λ (l : List ℕ). Appends i l front)
    (sym (take_as_long steps (taken es) piece (omega (arith, all, none, same)))) h

-- A failed append may say more steps than the piece has bytes. Then it took the piece, so it says these, too.
pub append_steps : (i : ℕ) (piece : List ℕ) (steps : ℕ) (es : List Step) → BreaksAppend i piece steps es
    → BreaksAppend i piece (taken es) es
append_steps i piece steps es (front, h, inl is) =
    (front, append_by i piece steps es front [] h refl (is ∙ sym (append-nil front)), inl is)
append_steps i piece steps es (front, h, inr (rest, is)) =
    (front, append_by i piece steps es front (Broke (append i rest) ∷ []) h refl is, inr (rest, is))

-- calls after the trial of a draft, which makes as many files as it removes
tried : (v : Volume) (name : List ℕ) (probe syncs : List Step) → Probes v name probe
    → made (probe ++ syncs) - removed (probe ++ syncs) ≡ made syncs - removed syncs
tried v name probe syncs (inl none) =
    ap (λ (l : List Step). made (l ++ syncs) - removed (l ++ syncs)) none
tried v name probe syncs (inr (absent, i, new, is)) =
    ap (λ (l : List Step). made (l ++ syncs) - removed (l ++ syncs)) is ∙ omega arith

tried_steps : (v : Volume) (name : List ℕ) (steps : ℕ) (es probe syncs : List Step) → steps ≡ 0 → Probes v name probe
    → es ≡ probe ++ syncs → made syncs - removed syncs ≡ 0 → steps ≡ made es - removed es
tried_steps v name steps es probe syncs none probes is no_more =
    none ∙ sym no_more ∙ sym (tried v name probe syncs probes)
    ∙ ap (λ (l : List Step). made l - removed l) (sym is)

pub settle_steps : (v : Volume) (k : Option ℕ) (name : List ℕ) (steps : ℕ) (es : List Step)
    → BreaksSettle v k name steps es → steps ≡ made es - removed es
settle_steps v k name steps es (inl h) = by_calls (λ l. made l - removed l) steps 0 es [] h.0 h.1 refl
settle_steps v k name steps es (inr (inl (absent, i, new, inl h))) =
    by_calls (λ l. made l - removed l) steps 0 es (Broke (create (draft_of name) i) ∷ []) h.0 h.1 refl
settle_steps v k name steps es (inr (inl (absent, i, new, inr (one, inl is)))) =
    by_calls (λ l. made l - removed l) steps 1 es (Did (create (draft_of name) i) ∷ []) one is refl
settle_steps v k name steps es (inr (inl (absent, i, new, inr (one, inr is)))) =
    by_calls (λ l. made l - removed l) steps 1 es
    (Did (create (draft_of name) i) ∷ Broke (unlink (draft_of name)) ∷ []) one is refl
settle_steps v k name steps es (inr (inr (probe, none, probes, inl is))) =
    tried_steps v name steps es probe [] none probes is refl
settle_steps v k name steps es (inr (inr (probe, none, probes, inr (inl is)))) =
    tried_steps v name steps es probe (Broke (sync_folder (folder_of name)) ∷ []) none probes is refl
settle_steps v k name steps es (inr (inr (probe, none, probes, inr (inr (inl is))))) =
    tried_steps v name steps es probe (Did (sync_folder (folder_of name)) ∷ []) none probes is refl
settle_steps v k name steps es (inr (inr (probe, none, probes, inr (inr (inr (j, apart, is)))))) =
    tried_steps v name steps es probe (Did (sync_folder (folder_of name)) ∷ Broke (sync_file j) ∷ [])
    none probes is refl
