-- What the files of a site keep through an open of the image.
use Rattle.std.proofs.Common.{◌≡◌, inl, inr, ℕ, Bool, true, false, true≢false, IsTrue, List, [], ◌∷◌, length, Some, None, Option, is_some, IfSome, refl, sym, ◌∙◌, ap, subst}
use Rattle.std.proofs.lemmas.Bool.{cases_Bool, false≢true}
use Rattle.std.specs.Option.{option_map}
use Rattle.std.proofs.Props.{props}
use mathlib.Core.Logic.{∥∥₁_map, ∥∥₁_elim}
use Rattle.crash_site.specs.declared.site.ImageKind.{ImageKind}
use Rattle.crash_site.specs.declared.site.ImageKind.TheVariants.{Regular, Absent as NoImage}
use Rattle.crash_site.specs.Files.{File}
use Rattle.crash_site.specs.Calls.{image_open}
use Rattle.crash_site.specs.FileAnswers.{kind_of}
use Rattle.crash_site.specs.SiteState.{files_in}
use Rattle.kernel_files.specs.Volume.{Volume, new_node, at_node, folder_of, Entry as Step, after as after_steps}
use Rattle.kernel_files.specs.Answers.{Told, volume, bytes_at}
use Rattle.kernel_files.specs.Steps.{MadeBy}
use Rattle.kernel_files.specs.ImageCalls.{OpensImage}
use Rattle.kernel_files.proofs.Volumes.{names_here}
use Rattle.site_record.specs.declared.recorder.Ended.{Ended}
use Rattle.site_record.specs.declared.recorder.Ended.TheVariants.{Done as IsDone, Failed as HasFailed}
use Rattle.site_record.specs.Record.{Note, Noted, note_of}
use Rattle.kernel_laws.specs.Refines.{as_file, read_at, files_of}
use Rattle.kernel_laws.specs.Site.{Opened}
use Rattle.kernel_laws.proofs.Drops.{lets_go}
use Rattle.kernel_laws.proofs.ImageKeeps.{opened_as, keeps_open, breaks_open_kept}
use Rattle.real_files.specs.Ahead.{Ahead, nothing_held}
use Rattle.folder_site.specs.Pieces.{BreaksOpenAt}
use Rattle.folder_site.specs.Told.{tells_both, site_told, Holds, IsOwn, IsOwnFolder, IsHeld, flag_of}
use Rattle.folder_site.proofs.Recording.{Takes, went, counted_on, holds_on, left_of_both, right_of_both}
use Rattle.folder_site.proofs.DraftRecords.{Kept, unnoted}
use Rattle.folder_site.proofs.AheadReads.{nothing_is_held}
use Rattle.folder_site.proofs.SiteReads.{files_read}

none_isnt : (i : ℕ) → None ≡ Some i → ⊥
none_isnt i e = cc

no_name : (n : List ℕ) → None ≡ Some n → ⊥
no_name n e = cc

no_map : (m : List ℕ × ℕ) → None ≡ Some m → ⊥
no_map m e = cc

same_name : (a b : List ℕ) → Some a ≡ Some b → a ≡ b
same_name a b e = cc

no_pair : (m : List ℕ × Option (List ℕ)) → None ≡ Some m → ⊥
no_pair m e = cc

abbrev same_tuple : List ℕ × Option (List ℕ) → List ℕ × Option (List ℕ) → Type 0
same_tuple a b = (a.0 ≡ b.0) × (a.1 ≡ b.1)

same_pair : (a b : List ℕ × Option (List ℕ)) → Some a ≡ Some b → same_tuple a b
same_pair a b e = let k : a ≡ b = cc in (ap (λ (x : List ℕ × Option (List ℕ)). x.0) k, ap (λ (x : List ℕ × Option (List ℕ)). x.1) k)

-- an open that makes no file makes no call
quiet : (v : Volume) (name : List ℕ) (make : Bool) (image : Option ℕ) (fs : List Step) → OpensImage v name make image fs
    → make ≡ false → fs ≡ []
quiet v name make None fs h off = h.2
quiet v name make (Some i) fs (inl h) off = h.1
quiet v name make (Some i) fs (inr h) off = absurd (false≢true (sym off ∙ h.1))

quiet_break : (v : Volume) (name : List ℕ) (make : Bool) (fs : List Step) → BreaksOpenAt v name make fs → make ≡ false
    → fs ≡ []
quiet_break v name make fs (steps, inl h) off = h.1
quiet_break v name make fs (steps, inr h) off = absurd (false≢true (sym off ∙ h.2))

-- the image's name leads to it
named_after : (v : Volume) (name : List ℕ) (make : Bool) (j : ℕ) (fs : List Step) → OpensImage v name make (Some j) fs
    → (after_steps v fs).names name ≡ Some j
named_after v name make j fs (inl h) = ap (λ (l : List Step). (after_steps v l).names name) h.1 ∙ h.0
named_after v name make j fs (inr h) =
    ap (λ (l : List Step). (after_steps v l).names name) h.3 ∙ names_here name (Some j) (at_node j (λ f. new_node) v)

-- What was open is let go, for a call that is refused.
pub lets_image_go : (t : Told) (r r' : Noted) (o : Opened) (has : Bool) (map : Option (List ℕ × ℕ))
    (ahead ahead' : Ahead) → r'.tells ≡ r.tells → r'.notes ≡ r.notes → Kept t r o map ahead
    → Kept t r' (record o { image = None; image_name = None; has_folder = has; is_dropped = true }) None ahead'
lets_image_go t r r' o has map ahead ahead' tells notes k =
    let p : Opened = record o { image = None; image_name = None; has_folder = has; is_dropped = true } in
    let same = unnoted t r r' o map ahead tells notes k in (
      same.0,
      ∥∥₁_map same.1 (λ was told.
          let h = was told in
          record {
            start = h.start;
            stands = λ m. lets_go t.start r'.notes t.calls o p (h.stands m) refl (λ e. e);
            image = record {
              named = λ i is. absurd (none_isnt i is);
              apart = λ n is. absurd (no_name n is);
              own = λ i is. absurd (none_isnt i is);
              idle = h.image.idle;
            };
            map = λ m is. absurd (no_map m is);
            ahead = λ i is. absurd (none_isnt i is);
          }),
    )

module _ (name : List ℕ) (make : Bool) (t t' : Told) (r r' : Noted) (ended : Ended) (o : Opened)
    (map : Option (List ℕ × ℕ)) (ahead ahead' : Ahead) (room : ℕ)
    (noted : Takes (image_open name make) ended t t' r r') (fresh : o.is_closed ≡ false) (kept : o.is_dropped ≡ false)
    (apart : o.draft_name ≡ Some name → ⊥) (empty : ahead' ≡ nothing_held room) where
  abbrev opens_on : Option ℕ → Bool → Opened
  opens_on image has =
      record o { image = image; image_name = opened_as name image; has_folder = has; is_closed = make }

  -- the image is a file of its own, since no draft is begun
  own_after : (image : Option ℕ) (has : Bool) → MadeBy (OpensImage (volume t) name make image) t t' → IsTrue t.tells
      → IsOwn (volume t) o → IsOwn (volume t') (opens_on image has)
  own_after None has made told own = record {
    named = λ i is. absurd (none_isnt i is);
    apart = λ n is. absurd (no_name n is);
    own = λ i is. absurd (none_isnt i is);
    idle = λ e. own.idle fresh;
  }
  own_after (Some j) has made told own = record {
    named = λ i is.
        let a = went (OpensImage (volume t) name make (Some j)) t t' made told in (
          name,
          refl,
          ap (λ (v : Volume). v.names name) a.2 ∙ named_after (volume t) name make j a.0 a.1 ∙ is,
        );
    apart = λ n is at. absurd (no_name n (sym (own.idle fresh).1 ∙ at));
    own = λ i is at. absurd (none_isnt i (sym (own.idle fresh).0 ∙ at));
    idle = λ e. own.idle fresh;
  }

  pub opens_kept : (image : Option ℕ) (has : Bool) → ended ≡ IsDone → MadeBy (OpensImage (volume t) name make image) t t'
      → (has ≡ false → IsTrue t.tells → (volume t).names name ≡ image) → Kept t r o map ahead
      → Kept t' r' (opens_on image has) None ahead'
  opens_kept image has done made found k =
      elim (cases_Bool t.tells) [
        | inl told ↦ (
          counted_on (OpensImage (volume t) name make image) (image_open name make) ended t t' r r' made noted k.0,
          holds_on (OpensImage (volume t) name make image) (image_open name make) ended t t' r r' made noted o
              (opens_on image has) map None ahead ahead'
              (λ es h grew n is st.
              let e : n ≡ note_of (image_open name make) IsDone (length es) =
              is ∙ ap (λ (d : Ended). note_of (image_open name make) d (length es)) done in
              keeps_open t.start r.notes t.calls o n es st kept (ap (λ (m : Note). m.made) e) name make
              (ap (λ (m : Note). m.call) e) fresh image has make (ap (λ (m : Note). m.ok) e) apart
              (λ bare. found bare told) (quiet (volume t) name make image es h) h)
              (λ _ _ m is. absurd (no_map m is))
              (λ _ _ _ i is.
              subst (λ (a : Ahead). IsHeld (bytes_at t' i) a) (sym empty) (nothing_is_held (bytes_at t' i) room))
              (own_after image has made) k.1,
        )
        | inr mute ↦ (
          (λ h. absurd (false≢true (sym mute ∙ sym made.tells ∙ left_of_both t'.tells r'.tells h))),
          ∣ (λ h. absurd (false≢true (sym mute ∙ sym made.tells ∙ h))) ∣₁,
        )
      ]

  pub breaks_kept : (has : Bool) → ended ≡ HasFailed → MadeBy (BreaksOpenAt (volume t) name make) t t'
      → Kept t r o map ahead
      → Kept t' r' (record o { image = None; image_name = None; has_folder = has; is_closed = make }) None ahead'
  breaks_kept has failed made k =
      let p : Opened = record o { image = None; image_name = None; has_folder = has; is_closed = make } in (
        counted_on (BreaksOpenAt (volume t) name make) (image_open name make) ended t t' r r' made noted k.0,
        holds_on (BreaksOpenAt (volume t) name make) (image_open name make) ended t t' r r' made noted o p map None
            ahead ahead'
            (λ es h grew n is st.
            let e : n ≡ note_of (image_open name make) HasFailed (length es) =
            is ∙ ap (λ (d : Ended). note_of (image_open name make) d (length es)) failed in
            breaks_open_kept t.start r.notes t.calls o n es st kept (ap (λ (m : Note). m.made) e) name make
            (ap (λ (m : Note). m.call) e) fresh has make h.0 (ap (λ (m : Note). m.ok) e)
            (quiet_break (volume t) name make es h) h.1)
            (λ _ _ m is. absurd (no_map m is))
            (λ _ _ _ i is. absurd (none_isnt i is))
            (λ told own. record {
              named = λ i is. absurd (none_isnt i is);
              apart = λ n is. absurd (no_name n is);
              own = λ i is. absurd (none_isnt i is);
              idle = λ e. own.idle fresh;
            })
            k.1,
      )

-- What an open answers.

kind_opened : (v : Volume) (name : List ℕ) (make : Bool) (i : ℕ) (fs : List Step) → OpensImage v name make (Some i) fs
    → kind_of (files_of v name) make ≡ Regular
kind_opened v name make i fs (inl h) =
    ap (λ (e : Option ℕ). kind_of (as_file (read_at v.nodes e)) make) h.0
kind_opened v name make i fs (inr h) =
    ap (λ (e : Option ℕ). kind_of (as_file (read_at v.nodes e)) make) h.0
    ∙ ap (λ (m : Bool). kind_of None m) h.1

kind_none : (v : Volume) (name : List ℕ) (make : Bool) (fs : List Step) → OpensImage v name make None fs
    → kind_of (files_of v name) make ≡ NoImage
kind_none v name make fs h =
    ap (λ (e : Option ℕ). kind_of (as_file (read_at v.nodes e)) make) h.0
    ∙ ap (λ (m : Bool). kind_of None m) h.1

kind-prop : (a b : ImageKind) → IsProp (a ≡ b)
kind-prop a b = hlevel props

module _ (name : List ℕ) (make : Bool) (t t' : Told) (r : Noted) (o : Opened) (map : Option (List ℕ × ℕ))
    (ahead : Ahead) (kept : o.is_dropped ≡ false) (was : ∥ (IsTrue t.tells → Holds t r o map ahead) ∥₁)
    (both : IsTrue (tells_both t r)) where
  -- by the kernel's files
  kind_by : (kind : ImageKind) → kind_of (files_of (volume t) name) make ≡ kind
      → kind ≡ kind_of (files_in (site_told t r) name) make
  kind_by kind is =
      ∥∥₁_elim was (kind-prop kind (kind_of (files_in (site_told t r) name) make)) (λ holds.
      let told : IsTrue t.tells = left_of_both t.tells r.tells both in
      sym (ap (λ (f : Option File). kind_of f make)
      (files_read t r o map ahead (holds told) (right_of_both t.tells r.tells both) kept name) ∙ is))

  pub kind_absent : MadeBy (OpensImage (volume t) name make None) t t'
      → NoImage ≡ kind_of (files_in (site_told t r) name) make
  kind_absent made =
      let c = went (OpensImage (volume t) name make None) t t' made (left_of_both t.tells r.tells both) in
      kind_by NoImage (kind_none (volume t) name make c.0 c.1)

  pub kind_there : (i : ℕ) (kind : ImageKind) (regular : Bool) → MadeBy (OpensImage (volume t) name make (Some i)) t t'
      → (regular ≡ true → kind ≡ Regular) → (IsTrue t'.tells → regular ≡ true)
      → kind ≡ kind_of (files_in (site_told t r) name) make
  kind_there i kind regular made is told =
      let k = left_of_both t.tells r.tells both in
      let c = went (OpensImage (volume t) name make (Some i)) t t' made k in
      kind_by kind (kind_opened (volume t) name make i c.0 c.1 ∙ sym (is (told (made.tells ∙ k))))

-- The image as it was opened, if one was: its number, its name, its folder, and the folder's text.
module _ (D F : Type 0) (num : D → ℕ) (text : D → List ℕ) (folder : D → Option F) (folder_text : F → List ℕ)
    (name : List ℕ) (make : Bool) where
  abbrev opens_all : Opened → Option D → Opened
  opens_all o image =
      record o {
        image = option_map num image;
        image_name = option_map text image;
        has_folder = flag_of (option_map (λ d. is_some (folder d)) image);
        is_closed = make;
      }

  pub open_kept : (image : Option D) (t t' : Told) (r r' : Noted) (ended : Ended) (o : Opened)
      (map : Option (List ℕ × ℕ)) (ahead ahead' : Ahead) (room : ℕ) → Takes (image_open name make) ended t t' r r'
      → o.is_closed ≡ false → o.is_dropped ≡ false → (o.draft_name ≡ Some name → ⊥) → ahead' ≡ nothing_held room
      → ended ≡ IsDone → MadeBy (OpensImage (volume t) name make (option_map num image)) t t'
      → IfSome image (λ d. text d ≡ name)
      → IfSome image (λ d. is_some (folder d) ≡ false → IsTrue t.tells → (volume t).names name ≡ Some (num d))
      → Kept t r o map ahead → Kept t' r' (opens_all o image) None ahead'
  open_kept None t t' r r' ended o map ahead ahead' room noted fresh kept apart empty done made named found k =
      opens_kept name make t t' r r' ended o map ahead ahead' room noted fresh kept apart empty None true done made
      (λ bare. absurd (true≢false bare)) k
  open_kept (Some d) t t' r r' ended o map ahead ahead' room noted fresh kept apart empty done made named found k =
      subst (λ (n : List ℕ). Kept t' r' (record o {
        image = Some (num d);
        image_name = Some n;
        has_folder = is_some (folder d);
        is_closed = make;
      }) None ahead')
      (sym named)
      (opens_kept name make t t' r r' ended o map ahead ahead' room noted fresh kept apart empty (Some (num d))
      (is_some (folder d)) done made found k)

  own_by : (H : Type 0) (d : D) → text d ≡ name → H → (n s : List ℕ) (f : Option F)
      → IfSome f (λ f. H → folder_text f ≡ folder_of name)
      → same_tuple (text d, option_map folder_text f) (n, Some s) → s ≡ folder_of n
  own_by H d named held n s None own is = absurd (no_name s is.1)
  own_by H d named held n s (Some f) own is =
      sym (same_name (folder_text f) s is.1) ∙ own held ∙ ap folder_of (sym named ∙ is.0)

  -- the folder that is open is that of its name
  pub open_folder_own : (H : Type 0) (image : Option D) → IfSome image (λ d. text d ≡ name)
      → IfSome image (λ d. IfSome (folder d) (λ f. H → folder_text f ≡ folder_of name)) → H
      → IsOwnFolder (option_map (λ d. (text d, option_map folder_text (folder d))) image)
  open_folder_own H None named own held n s e = absurd (no_pair (n, Some s) e)
  open_folder_own H (Some d) named own held n s e =
      own_by H d named held n s (folder d) own (same_pair (text d, option_map folder_text (folder d)) (n, Some s) e)

  pub open_kind : (image : Option D) (regular : D → Bool) (kind : ImageKind) (t t' : Told) (r : Noted) (o : Opened)
      (map : Option (List ℕ × ℕ)) (ahead : Ahead) → o.is_dropped ≡ false
      → ∥ (IsTrue t.tells → Holds t r o map ahead) ∥₁
      → MadeBy (OpensImage (volume t) name make (option_map num image)) t t'
      → IfSome image (λ d. regular d ≡ true → kind ≡ Regular)
      → (is_some image ≡ false → kind ≡ NoImage) → IfSome image (λ d. IsTrue t'.tells → regular d ≡ true)
      → IsTrue (tells_both t r) → kind ≡ kind_of (files_in (site_told t r) name) make
  open_kind None regular kind t t' r o map ahead kept was made is none told both =
      none refl ∙ kind_absent name make t t' r o map ahead kept was both made
  open_kind (Some d) regular kind t t' r o map ahead kept was made is none told both =
      kind_there name make t t' r o map ahead kept was both (num d) kind (regular d) made is told
