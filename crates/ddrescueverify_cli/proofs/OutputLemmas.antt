-- What the open of the output did, whether the site tells or not.
use Rattle.std.proofs.Common.{◌≡◌, ℕ, Bool, true, false, IsTrue, List, [], ◌∷◌, ◌++◌, Option, Some, None, Ok, Err, if◌then◌else◌, refl, ap, ◌∙◌, inl, inr}
use Rattle.std.specs.Prelude.{⊤}
use Rattle.crash_site.specs.declared.site.SiteCall.TheVariants.{ImageOpen}
use Rattle.crash_site.specs.declared.site.ImageKind.{ImageKind}
use Rattle.crash_site.specs.declared.site.ImageKind.TheVariants.{Regular, Other, Absent}
use Rattle.crash_site.specs.Files.{File, empty_file}
use Rattle.crash_site.specs.FileAnswers.{kind_of}
use Rattle.crash_site.specs.Calls.{Done as Returned, image_open}
use Rattle.crash_site.specs.CallsMade.{Lost}
use Rattle.crash_site.specs.SiteState.{SiteState, files_in}
use Rattle.program_promise.specs.Work.{Look as LookAt}
use Rattle.program_promise.proofs.LoadLemmas.{by_tells}
use Rattle.program_promise.proofs.LoadedLemmas.{broke_first}
use Rattle.ddrescueverify_cli.specs.declared.ending.VerifyEnding.{VerifyEnding}
use Rattle.ddrescueverify_cli.specs.declared.ending.VerifyEnding.TheVariants.{NoOutput, SiteFault}
use Rattle.ddrescueverify_cli.specs.Refusals.{OutputRefused}
use Rattle.ddrescueverify_cli.specs.Work.{verify_faults}
use Rattle.ddrescueverify_cli.specs.Steps.{OpensOutput}

kind_there : (regular : Bool) → Absent ≡ (if regular then Regular else Other) → ⊥
kind_there true is = cc
kind_there false is = cc

is_none : (file : Option File) → Absent ≡ kind_of file false → file ≡ None
is_none None is = refl
is_none (Some f) is = absurd (kind_there f.regular is)

passes : (file : Option File) (kind : ImageKind) → (kind ≡ Absent → ⊥) → kind ≡ kind_of file false → (v : VerifyEnding)
    → OutputRefused file v → ⊥
passes file kind never is v refused = never (is ∙ ap (λ (f : Option File). kind_of f false) refused.0)

-- there is no output
pub output_missing : (out : List ℕ) (old new : SiteState)
    → (IsTrue old.tells → Absent ≡ kind_of (files_in old out) false)
    → (IsTrue old.tells → new.calls ≡ old.calls ++ Returned (image_open out false) ∷ [])
    → OpensOutput {T = Unit {0}} out (Err NoOutput) old new
output_missing out old new kind made =
    by_tells old.tells (OpensOutput {T = Unit {0}} out (Err NoOutput) old new)
    (λ t. record {
      file = files_in old out;
      calls = Returned (image_open out false) ∷ [];
      is_own = λ s. refl;
      gained = made;
      did = inr (
        [],
        refl,
        inl (
          (is_none (files_in old out) (kind t), refl),
          record { opens = refl; gain = record { calls = refl; reads = refl; times = refl } },
        ),
      );
    })
    (λ n. record {
      file = None;
      calls = Returned (image_open out false) ∷ [];
      is_own = λ s. absurd (n s);
      gained = made;
      did = inr (
        [],
        refl,
        inl (
          (refl, refl),
          record { opens = refl; gain = record { calls = refl; reads = refl; times = refl } },
        ),
      );
    })

-- an output
some_output : Option File
some_output = Some empty_file

-- it was opened
pub output_opened : (out : List ℕ) (kind : ImageKind) (old new : SiteState) → (kind ≡ Absent → ⊥)
    → (IsTrue old.tells → kind ≡ kind_of (files_in old out) false)
    → (IsTrue old.tells → new.calls ≡ old.calls ++ Returned (image_open out false) ∷ [])
    → OpensOutput {T = Unit {0}} out (Ok tt) old new
unfolding some_output
output_opened out kind old new never told made =
    by_tells old.tells (OpensOutput {T = Unit {0}} out (Ok tt) old new)
    (λ t. record {
      file = files_in old out;
      calls = Returned (image_open out false) ∷ [];
      is_own = λ s. refl;
      gained = made;
      did = (tt, ([], refl, (passes (files_in old out) kind never (told t), refl)));
    })
    (λ n. record {
      file = some_output;
      calls = Returned (image_open out false) ∷ [];
      is_own = λ s. absurd (n s);
      gained = made;
      did = (tt, ([], refl, ((λ v refused. let no : Some empty_file ≡ None = refused.0 in cc), refl)));
    })

-- it couldn't be opened
pub output_failed : (out : List ℕ) (old new : SiteState)
    → (IsTrue old.tells → Lost (image_open out false) old.calls new.calls)
    → OpensOutput {T = Unit {0}} out (Err (SiteFault ImageOpen)) old new
output_failed out old new lost =
    broke_first verify_faults (image_open out false ∷ []) (λ file. LookAt (OutputRefused file) ∷ []) (files_in old out)
    (λ x file. ⊤) ImageOpen old new (inl refl) (λ t. inl (refl, lost t))
