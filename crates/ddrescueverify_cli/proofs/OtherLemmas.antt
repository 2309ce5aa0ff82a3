-- Files that a call leaves as they read.
use Rattle.std.proofs.Common.{◌≡◌, ◌≢◌, Bool, false, ℕ, zero, suc, IsTrue, List, [], ◌∷◌, ◌++◌, Option, refl, sym, ap, ◌∙◌, inl, inr, subst}
use Rattle.std.specs.Prelude.{⊤}
use Rattle.faulty_source.specs.SourceState.{SourceState}
use Rattle.crash_site.specs.Files.{File}
use Rattle.crash_site.specs.Calls.{Call, Entry, Done as Returned, Failed, image_open, map_settle}
use Rattle.crash_site.specs.Folder.{Folder, after, after_done, after_failed}
use Rattle.crash_site.specs.Along.{GoesAlong}
use Rattle.crash_site.specs.SiteState.{SiteState, files_in}
use Rattle.crash_site.specs.SiteChanges.{Keeps as SiteKeeps}
use Rattle.crash_site.proofs.LawLemmas.{after-append, failed_other}
use Rattle.crash_site.proofs.AlongLemmas.{WentOn, all_go, broke_goes, made_goes}
use Rattle.mapfile_save.specs.MapNames.{MapNames, names_of, HasOwnDraft}
use Rattle.mapfile_save.specs.Saving.{save_calls}
use Rattle.program_promise.specs.Work.{Deeds, Works}
use Rattle.program_promise.proofs.ReadLemmas.{AreReads, reads_leave}
use Rattle.program_promise.proofs.SavedLemmas.{HasSaved}
use Rattle.program_promise.proofs.SpareLemmas.{spared, save_spares}
use Rattle.ddrescueverify_words.specs.Command.{Command}
use Rattle.rescue_verify.specs.Across.{across}
use Rattle.ddrescueverify_cli.specs.declared.ending.VerifyEnding.{VerifyEnding}
use Rattle.ddrescueverify_cli.specs.Outside.{Agrees, Outside}
use Rattle.ddrescueverify_cli.specs.Work.{Verifies, verify_faults, verify_rows}
use Rattle.ddrescueverify_cli.proofs.ShapeLemmas.{Early, Reads, Saving, Shape, opening, opening_calls}
use Rattle.ddrescueverify_cli.proofs.StopsLemmas.{own_shape}
use Rattle.ddrescueverify_cli.proofs.OpenedLemmas.{open_stands}

-- ---- calls that leave every file

-- this call leaves the file under a name, whether it returns or fails
record Leaves (n : List ℕ) (d : Folder) (call : Call) : Type 0 where
  done : (after_done d call).files n ≡ d.files n
  failed : (steps : ℕ) → (after_failed d call steps).files n ≡ d.files n

-- these calls do, as they are made one after another
abbrev AllLeave : List ℕ → Folder → List Call → Type 0
AllLeave n d [] = ⊤
AllLeave n d (call ∷ calls) = Leaves n d call × AllLeave n (after_done d call) calls

all_left : (n : List ℕ) (d : Folder) (calls : List Call) (es : List Entry) → AllLeave n d calls → GoesAlong calls es
    → (after d es).files n ≡ d.files n
all_left n d calls [] leave goes = refl
all_left n d [] (e ∷ es) leave goes = absurd goes
all_left n d (call ∷ calls) (Returned c ∷ es) leave goes =
    let Q : Folder → Type 0 = λ f. (after f es).files n ≡ d.files n in
    subst (λ (x : Call). Q (after_done d x)) (sym goes.0)
    (all_left n (after_done d call) calls es leave.1 goes.1 ∙ leave.0.done)
all_left n d (call ∷ calls) (Failed c steps ∷ es) leave goes =
    ap (λ (r : List Entry). (after (after_failed d c steps) r).files n) goes.1
    ∙ ap (λ (x : Call). (after_failed d x steps).files n) goes.0 ∙ leave.0.failed steps

-- an open that makes no file
open_failed : (d : Folder) (out n : List ℕ) (steps : ℕ)
    → (after_failed d (image_open out false) steps).files n ≡ d.files n
open_failed d out n zero = refl
open_failed d out n (suc k) = ap (λ (f : List ℕ → Option File). f n) (open_stands d out (d.files out))

opening_leaves : (c : Command) (d : Folder) (n : List ℕ) → n ≢ (names_of c.mapfile).draft
    → AllLeave n d (opening_calls c)
opening_leaves c d n apart = (
  record {
    done = ap (λ (f : List ℕ → Option File). f n) (open_stands d c.outfile (d.files c.outfile));
    failed = open_failed d c.outfile n;
  },
  (
    record {
      done = refl;
      failed = λ steps. failed_other (after_done d (image_open c.outfile false)) (map_settle c.mapfile) steps n apart;
    },
    (record { done = refl; failed = λ steps. refl }, tt),
  ),
)

-- ---- calls that spare a file

module _ (names : MapNames) (n : List ℕ) (own : HasOwnDraft names) (other : n ≢ names.map)
    (apart : n ≢ names.draft) where
  saved_goes : (text : List ℕ) (rest : List Entry) → HasSaved names text [] rest → WentOn (save_calls names text) [] rest
  saved_goes text rest (inl made) = made_goes (save_calls names text) [] rest made
  saved_goes text rest (inr (at, broke)) = broke_goes at (save_calls names text) [] rest broke

  save_leaves : (d : Folder) (text : List ℕ) (rest : List Entry) → HasSaved names text [] rest
      → (after d rest).files n ≡ d.files n
  save_leaves d text rest saved =
      let went : WentOn (save_calls names text) [] rest = saved_goes text rest saved in
      ap (λ (r : List Entry). (after d r).files n) went.is
      ∙ spared n d (save_calls names text) went.since
      (save_spares names n own other apart d text) went.goes

-- ---- all of it

module _ (c : Command) (d : Folder) (n : List ℕ) (other : n ≢ c.mapfile) (apart : n ≢ (names_of c.mapfile).draft) where
  -- after the opening
  opened_at : (after d (opening c)).files n ≡ d.files n
  opened_at = all_left n d (opening_calls c) (opening c) (opening_leaves c d n apart) (all_go (opening_calls c))

  reads_at : (reads : List Entry) → AreReads reads → (after d (opening c ++ reads)).files n ≡ d.files n
  reads_at reads are =
      ap (λ (f : Folder). f.files n) (after-append d (opening c) reads ∙ reads_leave (after d (opening c)) reads are)
      ∙ opened_at

  shape_leaves : (there : Type 0) (saved : Bool) (IsText : List ℕ → Type 0) (calls : List Entry)
      → Shape c there saved IsText calls → (after d calls).files n ≡ d.files n
  shape_leaves there saved IsText calls (Early short none goes) =
      all_left n d (opening_calls c) calls (opening_leaves c d n apart) goes
  shape_leaves there saved IsText calls (Reads reads is_there short are is) =
      ap (λ (r : List Entry). (after d r).files n) is ∙ reads_at reads are
  shape_leaves there saved IsText calls (Saving reads rest text is_there are is_text has whole is) =
      let front : Folder = after (after d (opening c)) reads in
      ap (λ (r : List Entry). (after d r).files n) is
      ∙ ap (λ (f : Folder). f.files n)
      (after-append d (opening c) (reads ++ rest) ∙ after-append (after d (opening c)) reads rest)
      ∙ save_leaves (names_of c.mapfile) n refl other apart front text rest has
      ∙ ap (λ (f : Folder). f.files n) (reads_leave (after d (opening c)) reads are) ∙ opened_at

-- a file that isn't the mapfile nor its draft reads as it did
pub others_stand : (c : Command) (o : Outside) (did : Deeds) (e : VerifyEnding) (source source' : SourceState)
    (site site' : SiteState) → Agrees c o did (across source source' site site') → SiteKeeps site site' → IsTrue site.tells
    → Works verify_faults (verify_rows c o.found o.end) (Verifies c o.line o.found o.end o.looks) e did
    → (name : List ℕ) → name ≢ c.mapfile → name ≢ (names_of c.mapfile).draft
    → files_in site' name ≡ files_in site name
others_stand c o did e source source' site site' agrees keeps tells works name other apart =
    ap (λ (s : Folder). (after s site'.calls).files name) (keeps.start tells)
    ∙ ap (λ (r : List Entry). (after site.start r).files name) (agrees.calls tells)
    ∙ ap (λ (f : Folder). f.files name) (after-append site.start site.calls did.gain.calls)
    ∙ shape_leaves c (after site.start site.calls) name other apart _ _ _ did.gain.calls
    (own_shape c o did e source source' site site' agrees tells works)
