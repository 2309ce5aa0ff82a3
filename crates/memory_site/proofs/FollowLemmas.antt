-- Files in memory follow what was told of them, call by call.
use Rattle.std.proofs.Common.{◌≡◌, inl, inr, ℕ, zero, suc, ◌-◌, Bool, true, false, List, [], ◌∷◌, ◌++◌, take, Option, Some, None, is_some, Result, Ok, Err, IfOk, OnOk, OnErr, IsErr, refl, sym, ◌∙◌, ap, subst}
use Rattle.std.specs.Bool.{⊤}
use Rattle.memory_site.specs.declared.memory.memory_folder.MemoryFolder.{MemoryFolder}
use Rattle.crash_site.specs.Files.{File, empty_file, bytes_of, draft_of, put, written_file}
use Rattle.crash_site.specs.Calls.{Call, Entry, Done, Failed, image_open, image_read, image_write, image_sync, map_read, draft_begin, draft_append, draft_sync, draft_publish, map_settle, map_remove}
use Rattle.crash_site.specs.CallsMade.{unanswered}
use Rattle.memory_site.specs.CallLog.{Missed}
use Rattle.crash_site.specs.Folder.{Folder, opened, with_piece, appended, published, after_done, if_any, with_draft_of, after_failed, after_entry, after}
use Rattle.memory_site.specs.Follows.{Follows}
use Rattle.memory_site.specs.MemoryFolder.{folder_of}

after_more : (d : Folder) (es : List Entry) (e : Entry) → after d (es ++ e ∷ []) ≡ after_entry (after d es) e
after_more d [] e = refl
after_more d (x ∷ es) e = after_more (after_entry d x) es e

follows_along : (f a b : Folder) → a ≡ b → Follows f a → Follows f b
follows_along f a b e h = subst (λ d. Follows f d) e h

-- what a call that is done leaves, where it leaves the image and the draft as they are
follows_files : (f a : Folder) (files : (List ℕ → Option File) → List ℕ → Option File) → Follows f a
    → Follows (record { files = files f.files; image = f.image; draft = f.draft })
    (record { files = files a.files; image = a.image; draft = a.draft })
follows_files f a files h = record { files = ap files h.files; image = h.image; draft = h.draft }

opened_as : (f a : Folder) (name : List ℕ) (make : Bool) (o : Option File) → Follows f a
    → Follows (opened f name make o) (opened a name make o)
opened_as f a name make (Some file) h = record { files = h.files; image = λ n e. e; draft = h.draft }
opened_as f a name true None h =
    record {
      files = ap (λ (g : List ℕ → Option File). put g name (Some empty_file)) h.files;
      image = λ n e. e;
      draft = h.draft;
    }
opened_as f a name false None h = record { files = h.files; image = λ n e. e; draft = h.draft }

pub follows_opened : (f a : Folder) (name : List ℕ) (make : Bool) → Follows f a
    → Follows (after_done f (image_open name make)) (after_done a (image_open name make))
follows_opened f a name make h =
    subst (λ (o : Option File). Follows (opened f name make (f.files name)) (opened a name make o))
    (ap (λ (g : List ℕ → Option File). g name) h.files) (opened_as f a name make (f.files name) h)

written_as : (f a : Folder) (image : Option (List ℕ)) (pos : ℕ) (piece : List ℕ) → is_some image ≡ true
    → f.image ≡ image → Follows f a → Follows (with_piece f image pos piece) (with_piece a a.image pos piece)
written_as f a None pos piece some is h = absurd (cc)
written_as f a (Some name) pos piece some is h =
    subst (λ (o : Option (List ℕ)). Follows (with_piece f (Some name) pos piece) (with_piece a o pos piece))
    (sym (h.image name is))
    (follows_files f a (λ g. put g name (Some (written_file (g name) pos piece))) h)

pub follows_written : (f a : Folder) (pos : ℕ) (piece : List ℕ) → is_some f.image ≡ true → Follows f a
    → Follows (after_done f (image_write pos piece)) (after_done a (image_write pos piece))
follows_written f a pos piece some h = written_as f a f.image pos piece some refl h

appended_as : (f a : Folder) (draft : Option (List ℕ)) (piece : List ℕ) → is_some draft ≡ true → f.draft ≡ draft
    → Follows f a → Follows (appended f draft piece) (appended a a.draft piece)
appended_as f a None piece some is h = absurd (cc)
appended_as f a (Some name) piece some is h =
    subst (λ (o : Option (List ℕ)). Follows (appended f (Some name) piece) (appended a o piece)) (sym (h.draft name is))
    (follows_files f a (λ g. put g name (Some (record { bytes = bytes_of (g name) ++ piece; regular = true }))) h)

pub follows_appended : (f a : Folder) (piece : List ℕ) → is_some f.draft ≡ true → Follows f a
    → Follows (after_done f (draft_append piece)) (after_done a (draft_append piece))
follows_appended f a piece some h = appended_as f a f.draft piece some refl h

pub follows_begun : (f a : Folder) (name : List ℕ) → Follows f a
    → Follows (after_done f (draft_begin name)) (after_done a (draft_begin name))
follows_begun f a name h =
    record {
      files = ap (λ (g : List ℕ → Option File). put g name (Some empty_file)) h.files;
      image = h.image;
      draft = λ n e. e;
    }

-- a draft is taken from f, and its file is put under a name in g
pub follows_published : (f g a : Folder) (draft name : List ℕ) → Follows f a → f.draft ≡ Some draft
    → g.files ≡ put (put f.files draft None) name (f.files draft) → g.image ≡ f.image → g.draft ≡ None
    → Follows g (after_done a (draft_publish name))
follows_published f g a draft name h is files image none =
    subst (λ (o : Option (List ℕ)). Follows g (published a o name)) (sym (h.draft draft is)) (record {
      files = files ∙ ap (λ (k : List ℕ → Option File). put (put k draft None) name (k draft)) h.files;
      image = λ n e. h.image n (sym image ∙ e);
      draft = λ n e. absurd (let no : None ≡ Some n = sym none ∙ e in cc);
    })

pub follows_removed : (f a : Folder) (name : List ℕ) → Follows f a
    → Follows (after_done f (map_remove name)) (after_done a (map_remove name))
follows_removed f a name h = follows_files f a (λ g. put g name None) h

-- an image or a draft may be closed
pub follows_no_image : (f g a : Folder) → Follows f a → g.files ≡ f.files → g.image ≡ None → g.draft ≡ f.draft
    → Follows g a
follows_no_image f g a h files none draft = record {
  files = files ∙ h.files;
  image = λ n e. absurd (let no : None ≡ Some n = sym none ∙ e in cc);
  draft = λ n e. h.draft n (sym draft ∙ e);
}

pub follows_no_draft : (f g a : Folder) → Follows f a → g.files ≡ f.files → g.image ≡ f.image → g.draft ≡ None
    → Follows g a
follows_no_draft f g a h files image none = record {
  files = files ∙ h.files;
  image = λ n e. h.image n (sym image ∙ e);
  draft = λ n e. absurd (let no : None ≡ Some n = sym none ∙ e in cc);
}

-- A call that failed is followed step by step.

any_as : (steps : ℕ) (made made' before before' : List ℕ → Option File) → made ≡ made' → before ≡ before'
    → if_any steps made before ≡ if_any steps made' before'
any_as zero made made' before before' m b = b
any_as (suc n) made made' before before' m b = m

-- an image is open, or a draft begun, if this call writes to it
abbrev pub IsOpen : Folder → Call → Type 0
IsOpen f (image_write pos piece) = is_some f.image ≡ true
IsOpen f (draft_append piece) = is_some f.draft ≡ true
IsOpen f call = ⊤

follows_failed : (f a : Folder) (call : Call) (steps : ℕ) → IsOpen f call → Follows f a
    → Follows (after_failed f call steps) (after_failed a call steps)
follows_failed f a (image_open name make) steps _ h = record {
  files = any_as steps (opened f name make (f.files name)).files (opened a name make (a.files name)).files f.files
      a.files (follows_opened f a name make h).files h.files;
  image = λ n e. e;
  draft = h.draft;
}
follows_failed f a (image_write pos piece) steps some h = record {
  files = any_as steps (with_piece f f.image pos (take steps piece)).files
      (with_piece a a.image pos (take steps piece)).files f.files a.files
      (follows_written f a pos (take steps piece) some h).files h.files;
  image = h.image;
  draft = h.draft;
}
follows_failed f a (draft_begin name) steps _ h = record {
  files = ap (λ (g : List ℕ → Option File).
      if_any steps (if_any (steps - 1) (put g name (Some empty_file)) (put g name None)) g) h.files;
  image = h.image;
  draft = λ n e. e;
}
follows_failed f a (draft_append piece) steps some h = record {
  files = any_as steps (appended f f.draft (take steps piece)).files (appended a a.draft (take steps piece)).files
      f.files a.files (follows_appended f a (take steps piece) some h).files h.files;
  image = h.image;
  draft = h.draft;
}
follows_failed f a (draft_publish name) steps _ h = record { files = h.files; image = h.image; draft = λ n e. e }
follows_failed f a (map_settle name) steps _ h = record {
  files = any_as steps (with_draft_of name f) (with_draft_of name a) f.files a.files
      (follows_opened f a (draft_of name) true h).files h.files;
  image = h.image;
  draft = h.draft;
}
follows_failed f a _ steps _ h = h

failed_unanswered : (a : Folder) (call : Call) (steps : ℕ)
    → after_failed a (unanswered call) steps ≡ after_failed a call steps
failed_unanswered a (image_open name make) steps = refl
failed_unanswered a _ steps = refl

-- the invariant after a call that was entered and done
pub follows_done : (s g : Folder) (es new : List Entry) (call : Call) → new ≡ es ++ Done call ∷ []
    → Follows g (after_done (after s es) call) → Follows g (after s new)
follows_done s g es new call e h =
    follows_along g (after_done (after s es) call) (after s new) (sym (ap (after s) e ∙ after_more s es (Done call))) h

-- the invariant after a call that was lost
pub follows_lost : (s f g : Folder) (es new : List Entry) (call : Call) → IsOpen f call → Follows f (after s es)
    → Missed call es new f g → Follows g (after s new)
follows_lost s f g es new call some h (inl (steps, e, is)) = subst (λ (k : Folder). Follows k (after s new)) (sym is)
    (follows_along (after_failed f call steps) (after_failed (after s es) call steps) (after s new)
    (sym (ap (after s) e
    ∙ after_more s es (Failed (unanswered call) steps)
    ∙ failed_unanswered (after s es) call steps)) (follows_failed f (after s es) call steps some h))
follows_lost s f g es new call some h (inr (e, is)) = subst (λ (k : Folder). Follows k (after s new)) (sym is)
    (follows_along f (after s es) (after s new) (sym (ap (after s) e)) h)

-- files in memory that stayed as they were follow as before
pub follows_as : (f g : MemoryFolder) (a : Folder) → g ≡ f → Follows (folder_of f) a → Follows (folder_of g) a
follows_as f g a same h = subst (λ (k : MemoryFolder). Follows (folder_of k) a) (sym same) h

-- the invariant after a call was entered that leaves every folder as it is
pub follows_entered : {T E : Type 0} (s : Folder) (f g : MemoryFolder) (es new : List Entry) (call : Call)
    (r : Result T E) → ((a : Folder) → after_done a call ≡ a) → IsOpen (folder_of f) call
    → Follows (folder_of f) (after s es) → OnOk r (g ≡ f) → OnOk r (new ≡ es ++ Done call ∷ [])
    → OnErr r (Missed call es new (folder_of f) (folder_of g)) → Follows (folder_of g) (after s new)
follows_entered s f g es new call (Ok x) stays some h same done lost =
    subst (λ (k : MemoryFolder). Follows (folder_of k) (after s new)) (sym same)
    (follows_done s (folder_of f) es new call done
    (follows_along (folder_of f) (after s es) (after_done (after s es) call) (sym (stays (after s es))) h))
follows_entered s f g es new call (Err e) stays some h same done lost =
    follows_lost s (folder_of f) (folder_of g) es new call some h lost

-- the invariant after a call that was entered, and then done or taken back
pub follows_settled : {T D E : Type 0} (s g : Folder) (es entered new : List Entry) (call : Call)
    (outcome : Result T D) (r : Result T E) → entered ≡ es ++ Done call ∷ []
    → OnOk outcome (Follows g (after_done (after s es) call)) → OnErr outcome (Follows g (after s es))
    → IfOk r (λ v. outcome ≡ Ok v) → OnErr r (IsErr outcome) → OnOk r (new ≡ entered)
    → OnErr r ((before : List Entry) (e : Entry) → entered ≡ before ++ e ∷ [] → new ≡ before) → Follows g (after s new)
follows_settled s g es entered new call (Ok v) (Ok w) grew done kept value error same back =
    follows_done s g es new call (same ∙ grew) done
follows_settled s g es entered new call (Err d) (Ok w) grew done kept value error same back = absurd (cc)
follows_settled s g es entered new call (Ok v) (Err e) grew done kept value error same back = absurd (cc)
follows_settled s g es entered new call (Err d) (Err e) grew done kept value error same back =
    follows_along g (after s es) (after s new) (sym (ap (after s) (back es (Done call) grew))) kept

-- what the outcome of a change says, at the call's own argument x and at its copy y
pub follows_step : {T D A : Type 0} (outcome : Result T D) (f g a : Folder) (call : A → Call) (x y : A) → y ≡ x
    → ((z : A) → Follows (after_done f (call z)) (after_done a (call z))) → OnOk outcome (g ≡ after_done f (call x))
    → OnOk outcome (Follows g (after_done a (call y)))
follows_step (Ok v) f g a call x y same steps e =
    subst (λ (d : Folder). Follows d (after_done a (call y))) (sym (e ∙ ap (λ z. after_done f (call z)) (sym same)))
    (steps y)
follows_step (Err d) f g a call x y same steps e = tt

pub follows_kept : {T D : Type 0} (outcome : Result T D) (f g a : Folder) → Follows f a → OnErr outcome (g ≡ f)
    → OnErr outcome (Follows g a)
follows_kept (Ok v) f g a h e = tt
follows_kept (Err d) f g a h e = subst (λ (k : Folder). Follows k a) (sym e) h

pub publish_step : {T D : Type 0} (outcome : Result T D) (f g a : Folder) (draft from to name : List ℕ) → from ≡ draft
    → name ≡ to → Follows f a → f.draft ≡ Some draft
    → OnOk outcome (g.files ≡ put (put f.files from None) to (f.files from)) → g.image ≡ f.image → g.draft ≡ None
    → OnOk outcome (Follows g (after_done a (draft_publish name)))
publish_step (Ok v) f g a draft from to name same copied h is files image none =
    follows_published f g a draft name h is
    (files ∙ ap (λ (k : List ℕ). put (put f.files k None) to (f.files k)) same
    ∙ ap (λ (k : List ℕ). put (put f.files draft None) k (f.files draft)) (sym copied)) image none
publish_step (Err d) f g a draft from to name same copied h is files image none = tt

pub publish_kept : {T D : Type 0} (outcome : Result T D) (f g a : Folder) → Follows f a
    → OnErr outcome (g.files ≡ f.files) → g.image ≡ f.image → g.draft ≡ None → OnErr outcome (Follows g a)
publish_kept (Ok v) f g a h files image none = tt
publish_kept (Err d) f g a h files image none = follows_no_draft f g a h files image none
