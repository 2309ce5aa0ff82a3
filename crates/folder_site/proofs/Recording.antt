-- What a call adds to the record of a site, and what its files keep of that.
use Rattle.std.proofs.Common.{◌≡◌, inl, ℕ, ◌+◌, ◌-◌, Bool, true, false, ◌&&◌, IsTrue, List, [], ◌∷◌, ◌++◌, length, Some, Option, Result, Ok, Err, OnOk, OnErr, refl, sym, ◌∙◌, ap, subst, length-append, arith, if◌then◌else◌}
use mathlib.Core.Logic.{∥∥₁_map}
use Rattle.crash_site.specs.Calls.{Call, Done, Failed}
use Rattle.kernel_files.specs.Volume.{Volume, Entry as Step, after as after_steps}
use Rattle.kernel_files.specs.Answers.{Told, volume, bytes_at}
use Rattle.kernel_files.specs.Steps.{MadeBy}
use Rattle.kernel_files.proofs.Steps.{made_map}
use Rattle.site_record.specs.declared.recorder.Ended.{Ended}
use Rattle.site_record.specs.declared.recorder.Ended.TheVariants.{Done as IsDone, Failed as HasFailed}
use Rattle.site_record.specs.Record.{Note, Noted, answered, is_well, note_of}
use Rattle.kernel_laws.specs.Laws.{first_folder}
use Rattle.kernel_laws.specs.Deeds.{calls_of, entry_of, total, steps_in}
use Rattle.kernel_laws.specs.Site.{Opened, Stands}
use Rattle.kernel_laws.proofs.Deeds.{calls_append, total_append}
use Rattle.real_files.specs.Ahead.{Ahead}
use Rattle.folder_site.specs.Told.{tells_both, site_told, Lists, Holds, IsOwn, IsKept, IsHeld, IsSuited}

-- the calls that were noted made all calls of the kernel
abbrev pub Counted : Told → Noted → Type 0
Counted t r = IsTrue (tells_both t r) → total r.notes ≡ length t.calls

-- a call that ended was noted
pub record Takes (call : Call) (ended : Ended) (t t' : Told) (r r' : Noted) : Type 0 where
  pub tells : r'.tells ≡ r.tells
  pub notes : IsTrue (tells_both t r)
      → r'.notes ≡ r.notes ++ note_of call ended (length t'.calls - length t.calls) ∷ []

pub left_of_both : (a b : Bool) → (a && b) ≡ true → a ≡ true
left_of_both true b h = refl
left_of_both false b h = h

pub right_of_both : (a b : Bool) → (a && b) ≡ true → b ≡ true
right_of_both true b h = h
right_of_both false b h = absurd (cc)

pub both : (a b : Bool) → a ≡ true → b ≡ true → (a && b) ≡ true
both a b p q = subst (λ (x : Bool). (x && b) ≡ true) (sym p) q

-- a call began and ended, and in between the kernel made its calls
pub takes : (call : Call) (ended : Ended) (before : ℕ) (t t' : Told) (r r1 r2 : Noted) → t'.tells ≡ t.tells
    → (IsTrue t.tells → before ≡ length t.calls) → r1.tells ≡ r.tells → r1.notes ≡ r.notes
    → (IsTrue r.tells → r1.begun ≡ Some call) → r2.tells ≡ r1.tells
    → ((c : Call) → r1.begun ≡ Some c → IsTrue (tells_both t' r1)
    → r2.notes ≡ r1.notes ++ note_of c ended (length t'.calls - before) ∷ []) → Takes call ended t t' r r2
takes call ended before t t' r r1 r2 tells from same kept begun end noted = record {
  tells = end ∙ same;
  notes = λ h.
      let k : t.tells ≡ true = left_of_both t.tells r.tells h in
      let m : r1.tells ≡ true = same ∙ right_of_both t.tells r.tells h in
      noted call (begun (right_of_both t.tells r.tells h)) (both t'.tells r1.tells (tells ∙ k) m)
      ∙ ap (λ (l : List Note). l ++ note_of call ended (length t'.calls - before) ∷ []) kept
      ∙ ap (λ (n : ℕ). r.notes ++ note_of call ended (length t'.calls - n) ∷ []) (from k);
}

-- how many calls were made
grown : (es fs all : List Step) → all ≡ es ++ fs → length all - length es ≡ length fs
grown es fs all is =
    let sum : length all ≡ length es + length fs = ap (λ (l : List Step). length l) is ∙ length-append es fs in
    omega (arith, sum)

-- the calls that were made, and the files after them
pub went : (P : List Step → Type 0) (t t' : Told) → MadeBy P t t' → IsTrue t.tells
    → (es : List Step) × P es × (volume t' ≡ after_steps (volume t) es)
went P t t' made k =
    let c =
    (made_map P (λ (es : List Step). P es × (volume t' ≡ after_steps (volume t) es)) t t' (λ told es is h. (h, is)) made).calls
    k in (c.0, c.2.0, c.2.1)

-- the same of equal files, notes and calls
pub stands_as : {v w : Volume} {ns ms : List Note} {es fs : List Step} {o : Opened} → v ≡ w → ns ≡ ms → es ≡ fs
    → Stands v ns es o → Stands w ms fs o
stands_as {v} {w} {ns} {ms} {es} {fs} {o} a b c h =
    subst (λ (x : Volume). Stands x ms fs o) a
    (subst (λ (l : List Note). Stands v l fs o) b (subst (λ (l : List Step). Stands v ns l o) c h))

-- The record after a call.

module _ (P : List Step → Type 0) (call : Call) (ended : Ended) (t t' : Told) (r r' : Noted) (made : MadeBy P t t')
    (noted : Takes call ended t t' r r') where
  both_before : IsTrue (tells_both t' r') → IsTrue (tells_both t r)
  both_before h =
      both t.tells r.tells (sym made.tells ∙ left_of_both t'.tells r'.tells h)
      (sym noted.tells ∙ right_of_both t'.tells r'.tells h)

  same_tells : tells_both t' r' ≡ tells_both t r
  same_tells =
      ap (λ (b : Bool). b && r'.tells) made.tells ∙ ap (λ (b : Bool). t.tells && b) noted.tells

  -- the calls that were made, and the note of them
  after_all : (h : IsTrue (tells_both t r)) → (es : List Step) × P es × (t'.calls ≡ t.calls ++ es)
      × (r'.notes ≡ r.notes ++ note_of call ended (length es) ∷ [])
  after_all h =
      let c = made.calls (left_of_both t.tells r.tells h) in (
        c.0,
        c.2,
        c.1,
        noted.notes h
            ∙ ap (λ (n : ℕ). r.notes ++ note_of call ended n ∷ []) (grown t.calls c.0 t'.calls c.1),
      )

  pub counted_on : Counted t r → Counted t' r'
  counted_on k h =
      let b = both_before h in
      let a = after_all b in
      ap total a.3 ∙ total_append r.notes (note_of call ended (length a.0))
      ∙ ap (λ (n : ℕ). n + length a.0) (k b) ∙ sym (length-append t.calls a.0)
      ∙ ap (λ (l : List Step). length l) (sym a.2)

  pub calls_on : Counted t r → (h : IsTrue (tells_both t r)) → (es : List Step)
      × (calls_of r'.notes t'.calls ≡ calls_of r.notes t.calls ++ entry_of (note_of call ended (length es)) es ∷ [])
  calls_on k h =
      let a = after_all h in (
        a.0,
        ap (λ (l : List Note). calls_of l t'.calls) a.3
            ∙ ap (λ (l : List Step). calls_of (r.notes ++ note_of call ended (length a.0) ∷ []) l) a.2
            ∙ calls_append r.notes (note_of call ended (length a.0)) t.calls a.0 (k h) refl,
      )

  start_on : IsTrue (tells_both t r) → first_folder t'.start ≡ first_folder t.start
  start_on h = ap first_folder (made.start (left_of_both t.tells r.tells h))

  pub lists_done : {T E : Type 0} (x : T) (is : Call) → is_well ended ≡ true → answered call ended ≡ is → Counted t r
      → Lists {E = E} is (Ok x) (site_told t r) (site_told t' r')
  lists_done x is well answer k = record {
    tells = same_tells;
    start = start_on;
    done = λ h.
        let c = calls_on k h in
        c.1
        ∙ ap (λ (b : Bool). calls_of r.notes t.calls
        ++ (if b then Done (answered call ended) else Failed (answered call ended) (steps_in (answered call ended) c.0)) ∷ [])
        well
        ∙ ap (λ (z : Call). calls_of r.notes t.calls ++ Done z ∷ []) answer;
    lost = tt;
  }

  pub lists_lost : {T E : Type 0} (e : E) (is : Call) → is_well ended ≡ false → answered call ended ≡ is → Counted t r
      → Lists {T = T} is (Err e) (site_told t r) (site_told t' r')
  lists_lost e is bad answer k = record {
    tells = same_tells;
    start = start_on;
    done = tt;
    lost = λ h.
        let c = calls_on k h in
        inl (
          steps_in (answered call ended) c.0,
          c.1
              ∙ ap (λ (b : Bool). calls_of r.notes t.calls
              ++ (if b then Done (answered call ended) else Failed (answered call ended) (steps_in (answered call ended) c.0)) ∷ [])
              bad
              ∙ ap (λ (z : Call). calls_of r.notes t.calls
              ++ Failed z (steps_in (answered call ended) c.0) ∷ []) answer,
        );
  }

  -- what the files keep
  pub holds_on : (o o' : Opened) (map map' : Option (List ℕ × ℕ)) (ahead ahead' : Ahead)
      → ((es : List Step) → P es → t'.calls ≡ t.calls ++ es → (n : Note) → n ≡ note_of call ended (length es)
      → Stands t.start r.notes t.calls o → Stands t.start (r.notes ++ n ∷ []) (t.calls ++ es) o')
      → (IsTrue t.tells → IsKept t map → IsKept t' map')
      → (IsTrue t.tells → IsOwn (volume t) o → ((i : ℕ) → o.image ≡ Some i → IsHeld (bytes_at t i) ahead)
      → (i : ℕ) → o'.image ≡ Some i → IsHeld (bytes_at t' i) ahead')
      → (IsTrue t.tells → IsOwn (volume t) o → IsOwn (volume t') o')
      → ∥ (IsTrue t.tells → Holds t r o map ahead) ∥₁ → ∥ (IsTrue t'.tells → Holds t' r' o' map' ahead') ∥₁
  holds_on o o' map map' ahead ahead' step kept held own truncated = ∥∥₁_map truncated (λ was told.
      let k : t.tells ≡ true = sym made.tells ∙ told in
      let h = was k in
      record {
        start = subst (λ (v : Volume). IsSuited v) (sym (made.start k)) h.start;
        stands = λ m.
            let l : r.tells ≡ true = sym noted.tells ∙ m in
            let a = after_all (both t.tells r.tells k l) in
            stands_as (sym (made.start k)) (sym a.3) (sym a.2)
            (step a.0 a.1 a.2 (note_of call ended (length a.0)) refl (h.stands l));
        image = own k h.image;
        map = kept k h.map;
        ahead = held k h.image h.ahead;
      })

-- The same by the outcome of the part that made the kernel's calls: these hold of them if it returned Ok, and else those.

abbrev pub OneOf : {T E : Type 0} (P Q : List Step → Type 0) → Result T E → List Step → Type 0
OneOf P Q (Ok x) es = P es
OneOf P Q (Err e) es = Q es

pub one_of : {T E : Type 0} (P Q : List Step → Type 0) (x : Result T E) (t t' : Told) → OnOk x (MadeBy P t t')
    → OnErr x (MadeBy Q t t') → MadeBy (OneOf P Q x) t t'
one_of P Q (Ok x) t t' ok err = ok
one_of P Q (Err e) t t' ok err = err

-- the note of a call that gives nothing but whether it failed
pub noted_one : {T E : Type 0} (A : Type 0) (P Q : List Step → Type 0) (x : Result T E) (call : Call) (ended : Ended)
    (es : List Step) (n : Note) → OnOk x (ended ≡ IsDone) → OnErr x (ended ≡ HasFailed)
    → answered call IsDone ≡ call → answered call HasFailed ≡ call → n ≡ note_of call ended (length es)
    → (n.call ≡ call → n.ok ≡ true → n.made ≡ length es → P es → A)
    → (n.call ≡ call → n.ok ≡ false → n.made ≡ length es → Q es → A) → OneOf P Q x es → A
noted_one A P Q (Ok x) call ended es n done failed same same' is ok err h =
    let e : n ≡ note_of call IsDone (length es) =
    is ∙ ap (λ (d : Ended). note_of call d (length es)) done in
    ok (ap (λ (m : Note). m.call) e ∙ same) (ap (λ (m : Note). m.ok) e) (ap (λ (m : Note). m.made) e) h
noted_one A P Q (Err x) call ended es n done failed same same' is ok err h =
    let e : n ≡ note_of call HasFailed (length es) =
    is ∙ ap (λ (d : Ended). note_of call d (length es)) failed in
    err (ap (λ (m : Note). m.call) e ∙ same') (ap (λ (m : Note). m.ok) e) (ap (λ (m : Note). m.made) e) h

pub lists_one : {T E : Type 0} (P Q : List Step → Type 0) (x : Result T E) (call : Call) (ended : Ended)
    (t t' : Told) (r r' : Noted) → MadeBy (OneOf P Q x) t t' → Takes call ended t t' r r' → OnOk x (ended ≡ IsDone)
    → OnErr x (ended ≡ HasFailed) → answered call IsDone ≡ call → answered call HasFailed ≡ call → Counted t r
    → Lists call x (site_told t r) (site_told t' r')
lists_one P Q (Ok x) call ended t t' r r' made noted done failed same same' k =
    lists_done P call ended t t' r r' made noted x call (ap is_well done)
    (ap (answered call) done ∙ same) k
lists_one P Q (Err e) call ended t t' r r' made noted done failed same same' k =
    lists_lost Q call ended t t' r r' made noted e call (ap is_well failed)
    (ap (answered call) failed ∙ same') k
