-- The deeds of a record, and of one with a call more.
use Rattle.std.proofs.Common.{◌≡◌, inl, inr, ℕ, ◌+◌, ◌≤◌, List, [], ◌∷◌, ◌++◌, length, take, drop, Option, refl, sym, ◌∙◌, ap, subst, append_assoc, arith}
use Rattle.std.proofs.lemmas.List.{length-drop, take_all, take-append-drop, take-append-le, drop-append-le}
use Rattle.kernel_files.specs.Volume.{Volume, Entry as Step, after as after_steps}
use Rattle.crash_site.specs.Calls.{Call, Entry, image_open}
use Rattle.crash_site.specs.Folder.{Folder, after, after_entry}
use Rattle.crash_site.specs.Disk.{Disk, at_rest, entered, disk_after}
use Rattle.crash_site.proofs.DiskLemmas.{run_reads}
use Rattle.crash_site.proofs.LawLemmas.{after-append}
use Rattle.site_record.specs.Record.{Note}
use Rattle.kernel_laws.specs.Calls.{Enters}
use Rattle.kernel_laws.specs.Laws.{Deed, Runs, entries, steps_of, first_folder}
use Rattle.kernel_laws.specs.Deeds.{entry_of, deeds_of, total, calls_of, folder_after, RunsTo, IsNoted, Suits}
use Rattle.kernel_laws.proofs.Stops.{run_append}

-- a call that was noted, with these calls of the kernel
abbrev pub deed_of : Note → List Step → Deed
deed_of n fs = record { entry = entry_of n fs; steps = fs }

pub entries_append : (a b : List Deed) → entries (a ++ b) ≡ entries a ++ entries b
entries_append [] b = refl
entries_append (x ∷ a) b = ap (λ (l : List Entry). x.entry ∷ l) (entries_append a b)

pub steps_append : (a b : List Deed) → steps_of (a ++ b) ≡ steps_of a ++ steps_of b
steps_append [] b = refl
steps_append (x ∷ a) b =
    ap (λ (l : List Step). x.steps ++ l) (steps_append a b) ∙ sym (append_assoc x.steps (steps_of a) (steps_of b))

pub total_append : (ns : List Note) (n : Note) → total (ns ++ n ∷ []) ≡ total ns + n.made
total_append [] n = omega arith
total_append (m ∷ ns) n =
    let e : total (ns ++ n ∷ []) ≡ total ns + n.made = total_append ns n in
    omega (arith, e)

-- the calls of the first note are among them
first_fits : (m : Note) (ns : List Note) (es : List Step) → total (m ∷ ns) ≡ length es → m.made ≤ length es
first_fits m ns es e =
    let whole : m.made + total ns ≡ length es = e in
    omega (arith, whole)

rest_fits : (m : Note) (ns : List Note) (es : List Step) → total (m ∷ ns) ≡ length es
    → total ns ≡ length (drop m.made es)
rest_fits m ns es e =
    let whole : m.made + total ns ≡ length es = e in
    omega (arith, whole, length-drop m.made es)

none_fits : (x : Step) (es : List Step) → total [] ≡ length (x ∷ es) → ⊥
none_fits x es e =
    let none : 0 ≡ length es + 1 = e ∙ omega arith in
    omega (arith, none)

pub deeds_append : (ns : List Note) (n : Note) (es fs : List Step) → total ns ≡ length es → n.made ≡ length fs
    → deeds_of (ns ++ n ∷ []) (es ++ fs) ≡ deeds_of ns es ++ deed_of n fs ∷ []
deeds_append [] n [] fs e made =
    ap (λ (l : List Step). deed_of n l ∷ []) (take_all n.made fs (omega (arith, made)))
deeds_append [] n (x ∷ es) fs e made = absurd (none_fits x es e)
deeds_append (m ∷ ns) n es fs e made =
    ap (λ (l : List Step). deed_of m l ∷ deeds_of (ns ++ n ∷ []) (drop m.made (es ++ fs)))
    (take-append-le m.made es fs (first_fits m ns es e))
    ∙ ap (λ (l : List Step). deed_of m (take m.made es) ∷ deeds_of (ns ++ n ∷ []) l)
    (drop-append-le m.made es fs (first_fits m ns es e))
    ∙ ap (λ (l : List Deed). deed_of m (take m.made es) ∷ l)
    (deeds_append ns n (drop m.made es) fs (rest_fits m ns es e) made)

pub calls_append : (ns : List Note) (n : Note) (es fs : List Step) → total ns ≡ length es → n.made ≡ length fs
    → calls_of (ns ++ n ∷ []) (es ++ fs) ≡ calls_of ns es ++ entry_of n fs ∷ []
calls_append ns n es fs e made =
    ap (λ (l : List Deed). entries l) (deeds_append ns n es fs e made)
    ∙ entries_append (deeds_of ns es) (deed_of n fs ∷ [])

pub folder_append : (v : Volume) (ns : List Note) (n : Note) (es fs : List Step) → total ns ≡ length es
    → n.made ≡ length fs
    → folder_after v (ns ++ n ∷ []) (es ++ fs) ≡ after_entry (folder_after v ns es) (entry_of n fs)
folder_append v ns n es fs e made =
    ap (λ (l : List Entry). after (first_folder v) l) (calls_append ns n es fs e made)
    ∙ after-append (first_folder v) (calls_of ns es) (entry_of n fs ∷ [])

-- the deeds have all calls of the kernel
pub steps_all : (ns : List Note) (es : List Step) → total ns ≡ length es → steps_of (deeds_of ns es) ≡ es
steps_all [] [] e = refl
steps_all [] (x ∷ es) e = absurd (none_fits x es e)
steps_all (m ∷ ns) es e =
    ap (λ (l : List Step). take m.made es ++ l) (steps_all ns (drop m.made es) (rest_fits m ns es e))
    ∙ take-append-drop m.made es

pub runs_to_runs : (ds : List Deed) (v : Volume) (d : Disk) (o k p q : Option ℕ) → RunsTo v d o k ds p q
    → Runs v d o k ds
runs_to_runs [] v d o k p q run = tt
runs_to_runs (a ∷ ds) v d o k p q run = (
  run.0,
  run.1,
  run.2,
  runs_to_runs ds (after_steps v a.steps) (entered d a.entry) run.0 run.1 p q run.3,
)

-- a run with a call more
pub runs_append : (ds : List Deed) (a : Deed) (v : Volume) (d : Disk) (o k p q m n : Option ℕ)
    → RunsTo v d o k ds p q
    → Enters (after_steps v (steps_of ds)) (disk_after d (entries ds)).reads p q a.entry a.steps m n
    → RunsTo v d o k (ds ++ a ∷ []) m n
runs_append [] a v d o k p q m n run enters = (
  m,
  n,
  subst (λ (x : Option ℕ). Enters v d.reads x k a.entry a.steps m n) (sym run.0)
      (subst (λ (x : Option ℕ). Enters v d.reads p x a.entry a.steps m n) (sym run.1) enters),
  (refl, refl),
)
runs_append (x ∷ ds) a v d o k p q m n run enters =
    let there : Enters (after_steps (after_steps v x.steps) (steps_of ds)) (disk_after (entered d x.entry) (entries ds)).reads p q
    a.entry a.steps m n =
    subst (λ (w : Volume). Enters w (disk_after (entered d x.entry) (entries ds)).reads p q a.entry a.steps m n)
    (run_append v x.steps (steps_of ds)) enters in (
      run.0,
      run.1,
      run.2,
      runs_append ds a (after_steps v x.steps) (entered d x.entry) run.0 run.1 p q m n run.3 there,
    )

pub noted_before : (call : Call) (ns : List Note) (n : Note) → IsNoted call ns → IsNoted call (ns ++ n ∷ [])
noted_before call [] n h = absurd h
noted_before call (m ∷ ns) n (inl is) = inl is
noted_before call (m ∷ ns) n (inr h) = inr (noted_before call ns n h)

pub suits_before : (v : Volume) (ns : List Note) (n : Note) → Suits v (ns ++ n ∷ []) → Suits v ns
suits_before v ns n h =
    record {
      rest = h.rest;
      alone = λ name make noted. h.alone name make (noted_before (image_open name make) ns n noted);
    }

-- the last call was noted
pub noted_last : (ns : List Note) (n : Note) → IsNoted n.call (ns ++ n ∷ [])
noted_last [] n = inl refl
noted_last (m ∷ ns) n = inr (noted_last ns n)

pub reads_after : (f : Folder) (calls : List Entry) → (disk_after (at_rest f) calls).reads ≡ after f calls
reads_after f calls = run_reads (at_rest f) calls
