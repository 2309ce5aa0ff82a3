-- What a folder is after a call that changes it.
use Rattle.std.proofs.Common.{◌≡◌, ℕ, Bool, true, false, cond, List, ◌++◌, Option, Some, None, Result, Ok, Err, OnErr, refl, sym, ◌∙◌, ap}
use Rattle.crash_site.specs.declared.site.ImageKind.TheVariants.{Regular, Other}
use Rattle.crash_site.specs.Files.{File, bytes_of, put, written_file}
use Rattle.crash_site.specs.FileAnswers.{kind_of, is_absent}
use Rattle.crash_site.specs.Calls.{image_open}
use Rattle.crash_site.specs.Folder.{Folder, opened, with_piece, appended, after_done}
use Rattle.memory_site.specs.Places.{opened_file}
use Rattle.memory_site.proofs.PlaceLemmas.{put-same}

-- folders with the same files, image and draft are the same
pub same_folder : (a b : Folder) → a.files ≡ b.files → a.image ≡ b.image → a.draft ≡ b.draft → a ≡ b
same_folder a b files image draft = λ i. record { files = files i; image = image i; draft = draft i }

stands_open : (regular : Bool) (name : List ℕ)
    → cond (is_absent (cond regular Regular Other)) None (Some name) ≡ Some name
stands_open true name = refl
stands_open false name = refl

opened_at : (d g : Folder) (name : List ℕ) (make : Bool) (o : Option File) → d.files name ≡ o
    → g.files ≡ put d.files name (opened_file o make) → g.image ≡ (cond (is_absent (kind_of o make)) None (Some name))
    → g.draft ≡ d.draft → g ≡ opened d name make o
opened_at d g name make (Some f) is files image draft =
    same_folder g _ (files ∙ put-same d.files name (Some f) is) (image ∙ stands_open f.regular name) draft
opened_at d g name true None is files image draft = same_folder g _ files image draft
opened_at d g name false None is files image draft = same_folder g _ (files ∙ put-same d.files name None is) image draft

pub opened_is : (d g : Folder) (name : List ℕ) (make : Bool)
    → g.files ≡ put d.files name (opened_file (d.files name) make)
    → g.image ≡ (cond (is_absent (kind_of (d.files name) make)) None (Some name)) → g.draft ≡ d.draft
    → g ≡ after_done d (image_open name make)
opened_is d g name make files image draft = opened_at d g name make (d.files name) refl files image draft

pub written_is : (d g : Folder) (image : Option (List ℕ)) (name : List ℕ) (pos : ℕ) (piece : List ℕ)
    → image ≡ Some name → g.files ≡ put d.files name (Some (written_file (d.files name) pos piece)) → g.image ≡ d.image
    → g.draft ≡ d.draft → g ≡ with_piece d image pos piece
written_is d g image name pos piece is files same_image draft =
    same_folder g (with_piece d (Some name) pos piece) files same_image draft
    ∙ ap (λ (o : Option (List ℕ)). with_piece d o pos piece) (sym is)

pub appended_is : (d g : Folder) (begun : Option (List ℕ)) (name piece : List ℕ) → begun ≡ Some name
    → g.files ≡ put d.files name (Some (record { bytes = bytes_of (d.files name) ++ piece; regular = true }))
    → g.image ≡ d.image → g.draft ≡ d.draft → g ≡ appended d begun piece
appended_is d g begun name piece is files image draft =
    same_folder g (appended d (Some name) piece) files image draft
    ∙ ap (λ (o : Option (List ℕ)). appended d o piece) (sym is)

pub on_err : {T E P : Type 0} (r : Result T E) → P → OnErr r P
on_err (Ok x) p = tt
on_err (Err e) p = p

pub ruleset folder_lemmas = (same_folder)
