-- What the open of the output did, whether the site tells or not.
use Rattle.std.proofs.Common.{◌≡◌, ℕ, Bool, true, false, IsTrue, List, [], ◌∷◌, ◌++◌, Option, Some, None, Ok, Err, not, if◌then◌else◌, refl, sym, ◌∙◌, inl, inr}
use Rattle.std.specs.Prelude.{⊤}
use Rattle.crash_site.specs.declared.site.SiteCall.TheVariants.{ImageOpen}
use Rattle.crash_site.specs.declared.site.ImageKind.{ImageKind}
use Rattle.crash_site.specs.declared.site.ImageKind.TheVariants.{Regular, Other, Absent as NoImage}
use Rattle.crash_site.specs.Files.{File, empty_file}
use Rattle.crash_site.specs.FileAnswers.{is_absent, kind_of}
use Rattle.crash_site.specs.Calls.{Done as Returned, image_open}
use Rattle.crash_site.specs.CallsMade.{Lost}
use Rattle.crash_site.specs.SiteState.{SiteState, files_in}
use Rattle.program_promise.specs.Work.{Look}
use Rattle.program_promise.specs.Parts.{StoppedIn, WentThrough}
use Rattle.program_promise.proofs.LoadLemmas.{by_tells}
use Rattle.program_promise.proofs.LoadedLemmas.{broke_first}
use Rattle.program_promise.proofs.PartLemmas.{idle}
use Rattle.task_files.specs.declared.ending.Ending.{Ending}
use Rattle.task_files.specs.declared.ending.Ending.TheVariants.{NoOutput, SiteFault}
use Rattle.task_files.specs.Refusals.{is_other, OutputMissing, OutputRefused}
use Rattle.task_files.specs.Work.{missing_rows, output_rows, rescue_faults}
use Rattle.task_files.specs.Steps.{OpensOutput}

-- the kind that an open answers
kind_other : (regular : Bool) → Other ≡ (if regular then Regular else Other) → not regular ≡ true
kind_other true is = cc
kind_other false is = refl

absent_other : (makes : Bool) → Other ≡ (if makes then Regular else NoImage) → ⊥
absent_other true is = cc
absent_other false is = cc

is_of_other : (makes : Bool) (file : Option File) → Other ≡ kind_of file makes → is_other file ≡ true
is_of_other makes None is = absurd (absent_other makes is)
is_of_other makes (Some f) is = kind_other f.regular is

other_is_of : (regular : Bool) → not regular ≡ true → (if regular then Regular else Other) ≡ Other
other_is_of true is = cc
other_is_of false is = refl

other_kind : (makes : Bool) (file : Option File) → is_other file ≡ true → kind_of file makes ≡ Other
other_kind makes None is = cc
other_kind makes (Some f) is = other_is_of f.regular is

kind_absent : (regular : Bool) → NoImage ≡ (if regular then Regular else Other) → ⊥
kind_absent true is = cc
kind_absent false is = cc

is_of_none : (makes : Bool) (file : Option File) → NoImage ≡ kind_of file makes → file ≡ None
is_of_none makes None is = refl
is_of_none makes (Some f) is = absurd (kind_absent f.regular is)

none_kind : (file : Option File) → file ≡ None → kind_of file false ≡ NoImage
none_kind None is = refl
none_kind (Some f) is = cc

-- something that is no regular file
other_file : Option File
other_file = Some (record { bytes = []; regular = false })

there : (file : Option File) → is_other file ≡ true → (v : Ending) → OutputMissing file v → ⊥
there None other v missing = cc
there (Some f) other v missing = let no : Some f ≡ None = missing.0 in cc

-- the rows of a file that is refused for what it is,
refused_rows : (makes forced : Bool) (out : List ℕ) (file : Option File) (e : Ending) → OutputRefused forced file e
    → StoppedIn rescue_faults (output_rows makes forced out file) e (Returned (image_open out makes) ∷ [])
refused_rows true forced out file e refused = inr ([], refl, inl (refused, idle))
refused_rows false forced out file e refused = inr ([], refl, inr (there file refused.1, inl (refused, idle)))

-- of one that is taken,
taken_rows : (makes forced : Bool) (out : List ℕ) (file : Option File)
    → ((v : Ending) → OutputRefused forced file v → ⊥) → (makes ≡ false → file ≡ None → ⊥)
    → WentThrough {E = Ending} (output_rows makes forced out file) (Returned (image_open out makes) ∷ [])
taken_rows true forced out file apart some = ([], refl, (apart, refl))
taken_rows false forced out file apart some = ([], refl, ((λ v missing. some refl missing.0), (apart, refl)))

-- the output was refused
pub output_refused : (makes forced : Bool) (out : List ℕ) (e : Ending) (old new : SiteState)
    → ((file : Option File) → is_other file ≡ true → OutputRefused forced file e)
    → (IsTrue old.tells → Other ≡ kind_of (files_in old out) makes)
    → (IsTrue old.tells → new.calls ≡ old.calls ++ Returned (image_open out makes) ∷ [])
    → OpensOutput {T = Unit {0}} makes forced out (Err e) old new
unfolding other_file
output_refused makes forced out e old new refuses kind made =
    by_tells old.tells (OpensOutput {T = Unit {0}} makes forced out (Err e) old new)
    (λ t. record {
      file = files_in old out;
      calls = Returned (image_open out makes) ∷ [];
      is_own = λ s. refl;
      gained = made;
      did = refused_rows makes forced out (files_in old out) e
          (refuses (files_in old out) (is_of_other makes (files_in old out) (kind t)));
    })
    (λ n. record {
      file = other_file;
      calls = Returned (image_open out makes) ∷ [];
      is_own = λ s. absurd (n s);
      gained = made;
      did = refused_rows makes forced out other_file e (refuses other_file refl);
    })

-- or wasn't there
missing_here : (makes forced : Bool) (out : List ℕ) (old new : SiteState) → makes ≡ false
    → (IsTrue old.tells → NoImage ≡ kind_of (files_in old out) makes)
    → (IsTrue old.tells → new.calls ≡ old.calls ++ Returned (image_open out makes) ∷ [])
    → OpensOutput {T = Unit {0}} makes forced out (Err NoOutput) old new
missing_here true forced out old new unmade kind made = cc
missing_here false forced out old new unmade kind made = record {
  file = None;
  calls = Returned (image_open out false) ∷ [];
  is_own = λ t. sym (is_of_none false (files_in old out) (kind t));
  gained = made;
  did = inr ([], refl, inl ((refl, refl), idle));
}

unmade_by : (makes : Bool) → (makes ≡ true → true ≡ false) → makes ≡ false
unmade_by true none = none refl
unmade_by false none = refl

pub output_missing : (makes forced : Bool) (out : List ℕ) (old new : SiteState)
    → (makes ≡ true → is_absent NoImage ≡ false) → (IsTrue old.tells → NoImage ≡ kind_of (files_in old out) makes)
    → (IsTrue old.tells → new.calls ≡ old.calls ++ Returned (image_open out makes) ∷ [])
    → OpensOutput {T = Unit {0}} makes forced out (Err NoOutput) old new
output_missing makes forced out old new none kind made =
    missing_here makes forced out old new (unmade_by makes none) kind made

passes : (makes forced : Bool) (file : Option File) (kind : ImageKind) → (forced ≡ false → kind ≡ Other → ⊥)
    → kind ≡ kind_of file makes → (v : Ending) → OutputRefused forced file v → ⊥
passes makes forced file kind apart is v refused = apart refused.0 (is ∙ other_kind makes file refused.1)

found_by : (makes : Bool) (file : Option File) (kind : ImageKind) → (kind ≡ NoImage → ⊥) → kind ≡ kind_of file makes
    → makes ≡ false → file ≡ None → ⊥
found_by true file kind some is unmade none = cc
found_by false file kind some is unmade none = some (is ∙ none_kind file none)

-- it was opened
pub output_opened : (makes forced : Bool) (out : List ℕ) (kind : ImageKind) (old new : SiteState)
    → (forced ≡ false → kind ≡ Other → ⊥) → (kind ≡ NoImage → ⊥)
    → (IsTrue old.tells → kind ≡ kind_of (files_in old out) makes)
    → (IsTrue old.tells → new.calls ≡ old.calls ++ Returned (image_open out makes) ∷ [])
    → OpensOutput {T = Unit {0}} makes forced out (Ok tt) old new
output_opened makes forced out kind old new apart some told made =
    by_tells old.tells (OpensOutput {T = Unit {0}} makes forced out (Ok tt) old new)
    (λ t. record {
      file = files_in old out;
      calls = Returned (image_open out makes) ∷ [];
      is_own = λ s. refl;
      gained = made;
      did = (
        tt,
        taken_rows makes forced out (files_in old out) (passes makes forced (files_in old out) kind apart (told t))
            (found_by makes (files_in old out) kind some (told t)),
      );
    })
    (λ n. record {
      file = Some empty_file;
      calls = Returned (image_open out makes) ∷ [];
      is_own = λ s. absurd (n s);
      gained = made;
      did = (
        tt,
        taken_rows makes forced out (Some empty_file)
            (λ v refused. let no : false ≡ true = refused.1 in cc) (λ unmade none. cc),
      );
    })

-- it couldn't be opened
pub output_failed : (makes forced : Bool) (out : List ℕ) (old new : SiteState)
    → (IsTrue old.tells → Lost (image_open out makes) old.calls new.calls)
    → OpensOutput {T = Unit {0}} makes forced out (Err (SiteFault ImageOpen None)) old new
output_failed makes forced out old new lost =
    broke_first rescue_faults (image_open out makes ∷ [])
    (λ file. missing_rows makes file ++ Look (OutputRefused forced file) ∷ []) (files_in old out) (λ x file. ⊤) ImageOpen
    old new (inl refl) (λ t. inl (refl, lost t))
