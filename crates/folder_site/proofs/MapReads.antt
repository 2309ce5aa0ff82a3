-- Reads of a mapfile.
use Rattle.std.proofs.Common.{◌≡◌, inl, inr, ℕ, ◌<◌, ◌≤◌, false, IsTrue, List, [], ◌∷◌, Some, None, Option, Result, Ok, Err, IfOk, OnErr, refl, sym, ◌∙◌, ap, subst, arith}
use Rattle.std.specs.Option.{option_map}
use Rattle.std.specs.Result.{result_ok}
use Rattle.std.proofs.Props.{props}
use mathlib.Core.Logic.{∥∥₁_elim}
use Rattle.crash_site.specs.declared.site.MapRead.{MapRead}
use Rattle.crash_site.specs.declared.site.MapRead.TheVariants.{Bytes, Absent as NoMap}
use Rattle.crash_site.specs.Files.{File}
use Rattle.crash_site.specs.Calls.{map_read}
use Rattle.crash_site.specs.FileAnswers.{IsRead}
use Rattle.crash_site.specs.SiteState.{files_in}
use Rattle.kernel_files.specs.Volume.{Entry as Step}
use Rattle.kernel_files.specs.Answers.{Told, volume, bytes_at}
use Rattle.kernel_files.proofs.Steps.{made_here}
use Rattle.site_record.specs.declared.recorder.Ended.{Ended}
use Rattle.site_record.specs.declared.recorder.Ended.TheVariants.{Done as IsDone, Gave, Found, Failed as HasFailed}
use Rattle.site_record.specs.Record.{Note, Noted, answered, is_well}
use Rattle.kernel_laws.specs.Refines.{as_file, read_at, files_of}
use Rattle.kernel_laws.specs.Site.{Opened}
use Rattle.kernel_laws.proofs.ImageKeeps.{keeps_map_read}
use Rattle.real_files.specs.Ahead.{Ahead}
use Rattle.folder_site.specs.Pieces.{IsWholeRead}
use Rattle.folder_site.specs.Told.{tells_both, site_told, Holds, Lists, IsKept}
use Rattle.folder_site.proofs.Recording.{Counted, Takes, counted_on, holds_on, lists_done, lists_lost, left_of_both, right_of_both}
use Rattle.folder_site.proofs.DraftRecords.{Kept}
use Rattle.folder_site.proofs.SiteReads.{files_read}

-- what a name leads to, as it reads
leads_to : (t : Told) (name : List ℕ) (e : Option ℕ) → (volume t).names name ≡ e
    → files_of (volume t) name ≡ as_file (read_at (volume t).nodes e)
leads_to t name e is = ap (λ (x : Option ℕ). as_file (read_at (volume t).nodes x)) is

piece_read : (bytes : List ℕ) (pos asked : ℕ) (buf : List ℕ) (n : ℕ) → 0 < asked → IsWholeRead bytes pos asked buf n
    → IsRead (as_file (Some bytes)) pos buf (Bytes n)
piece_read bytes pos asked buf n some h = (
  h.came,
  λ zero. elim h.whole [
    | inl all ↦ absurd (omega (arith, all, zero, some))
    | inr end ↦ omega (arith, end, zero)
  ],
)

pub piece_is_read : {E : Type 0} (x : Result MapRead E) (t : Told) (name : List ℕ) (i pos asked : ℕ) (buf : List ℕ)
    (H : Type 0) → 0 < asked → (IsTrue t.tells → H → (volume t).names name ≡ Some i)
    → IfOk x (λ read. (n : ℕ) × (read ≡ Bytes n) × (n ≤ asked)
    × (IsTrue t.tells → IsWholeRead (bytes_at t i) pos asked buf n))
    → IfOk x (λ read. IsTrue t.tells → H → IsRead (files_of (volume t) name) pos buf read)
piece_is_read (Ok read) t name i pos asked buf H some there h =
    λ told held.
    subst (λ (f : Option File). IsRead f pos buf read) (sym (leads_to t name (Some i) (there told held)))
    (subst (λ (m : MapRead). IsRead (as_file (Some (bytes_at t i))) pos buf m) (sym h.1)
    (piece_read (bytes_at t i) pos asked buf h.0 some (h.3 told)))
piece_is_read (Err e) t name i pos asked buf H some there h = tt

pub absent_is_read : (t : Told) (name : List ℕ) (pos : ℕ) (buf : List ℕ) → (volume t).names name ≡ None
    → IsRead (files_of (volume t) name) pos buf NoMap
absent_is_read t name pos buf is =
    subst (λ (f : Option File). IsRead f pos buf NoMap) (sym (leads_to t name None is)) tt

-- What a site keeps through a read.

read_noted : (name : List ℕ) (pos asked : ℕ) (ended : Ended)
    → (answer : Option MapRead) × (answered (map_read name pos asked None) ended ≡ map_read name pos asked answer)
read_noted name pos asked IsDone = (None, refl)
read_noted name pos asked (Gave n) = (None, refl)
read_noted name pos asked (Found m) = (Some m, refl)
read_noted name pos asked HasFailed = (None, refl)

module _ (name : List ℕ) (pos asked : ℕ) (ended : Ended) (t : Told) (r r' : Noted)
    (noted : Takes (map_read name pos asked None) ended t t r r') where
  pub map_read_kept : (o : Opened) (map map' : Option (List ℕ × ℕ)) (ahead : Ahead) → o.is_dropped ≡ false
      → (IsTrue t.tells → IsKept t map → IsKept t map') → Kept t r o map ahead → Kept t r' o map' ahead
  map_read_kept o map map' ahead open_ kept k =
      let a = read_noted name pos asked ended in
      let made = made_here (λ (es : List Step). es ≡ []) t refl in (
        counted_on (λ (es : List Step). es ≡ []) (map_read name pos asked None) ended t t r r' made noted k.0,
        holds_on (λ (es : List Step). es ≡ []) (map_read name pos asked None) ended t t r r' made noted o o map map'
            ahead ahead
            (λ es none grew n is st.
            keeps_map_read t.start r.notes t.calls o n es st open_ (ap (λ (m : Note). m.made) is) name pos asked a.0
            (ap (λ (m : Note). m.call) is ∙ a.1) none)
            kept (λ told own was. was) (λ told own. own) k.1,
      )

  pub map_read_lists : {E : Type 0} (x : Result MapRead E) → IfOk x (λ read. ended ≡ Found read)
      → OnErr x (ended ≡ HasFailed) → Counted t r
      → Lists (map_read name pos asked (result_ok x)) x (site_told t r) (site_told t r')
  map_read_lists (Ok read) is failed k =
      lists_done (λ (es : List Step). es ≡ []) (map_read name pos asked None) ended t t r r'
      (made_here (λ (es : List Step). es ≡ []) t refl) noted read (map_read name pos asked (Some read))
      (ap is_well is) (ap (answered (map_read name pos asked None)) is) k
  map_read_lists (Err e) is failed k =
      lists_lost (λ (es : List Step). es ≡ []) (map_read name pos asked None) ended t t r r'
      (made_here (λ (es : List Step). es ≡ []) t refl) noted e (map_read name pos asked None)
      (ap is_well failed) (ap (answered (map_read name pos asked None)) failed) k

Bytes-prop : (f : File) (pos : ℕ) (buf : List ℕ) (n : ℕ) → IsProp (IsRead (Some f) pos buf (Bytes n))
Bytes-prop f pos buf n = hlevel props

IsRead-prop : (f : Option File) (pos : ℕ) (buf : List ℕ) (read : MapRead) → IsProp (IsRead f pos buf read)
IsRead-prop None pos buf NoMap = hlevel props
IsRead-prop None pos buf (Bytes n) = hlevel props
IsRead-prop (Some f) pos buf NoMap = hlevel props
IsRead-prop (Some f) pos buf (Bytes n) = Bytes-prop f pos buf n

pub map_read_right : {E : Type 0} (x : Result MapRead E) (name : List ℕ) (pos : ℕ) (buf : List ℕ) (t : Told) (r : Noted)
    (o : Opened) (map : Option (List ℕ × ℕ)) (ahead : Ahead) → o.is_dropped ≡ false
    → IfOk x (λ read. IsTrue t.tells → IsKept t map → IsRead (files_of (volume t) name) pos buf read)
    → ∥ (IsTrue t.tells → Holds t r o map ahead) ∥₁
    → IfOk x (λ read. IsTrue (tells_both t r) → IsRead (files_in (site_told t r) name) pos buf read)
map_read_right (Ok read) name pos buf t r o map ahead kept reads was =
    λ both.
    ∥∥₁_elim was (IsRead-prop (files_in (site_told t r) name) pos buf read) (λ holds.
    let told : IsTrue t.tells = left_of_both t.tells r.tells both in
    let h = holds told in
    subst (λ (f : Option File). IsRead f pos buf read)
    (sym (files_read t r o map ahead h (right_of_both t.tells r.tells both) kept name)) (reads told h.map))
map_read_right (Err e) name pos buf t r o map ahead kept reads was = tt

same_text : (a b : List ℕ) → Some a ≡ Some b → a ≡ b
same_text a b e = cc

-- the mapfile that is kept open, under this name
pub kept_named : (D : Type 0) (text : D → List ℕ) (num : D → ℕ) (kept : Option D) (name : List ℕ) (t : Told)
    → option_map text kept ≡ Some name → IsKept t (option_map (λ d. (text d, num d)) kept)
    → (volume t).names name ≡ option_map num kept
kept_named D text num None name t is k = absurd (cc)
kept_named D text num (Some d) name t is k =
    ap (volume t).names (same_text name (text d) (sym is)) ∙ k (text d, num d) refl
