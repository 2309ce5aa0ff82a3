-- What the files of a site keep through a begin and a publish of a draft, and a settle and a removal of a mapfile.
use Rattle.std.proofs.Common.{◌≡◌, inl, inr, ℕ, Bool, true, false, List, [], ◌∷◌, ◌++◌, Some, None, Option, Result, Ok, Err, IfOk, OnOk, OnErr, refl, sym, ◌∙◌, ap, subst}
use Rattle.std.specs.Option.{option_map}
use mathlib.Core.Logic.{∥∥₁_map}
use Rattle.crash_site.specs.Calls.{draft_begin, draft_publish, map_settle, map_remove}
use Rattle.kernel_files.specs.Volume.{Volume, rename, unlink, Entry as Step}
use Rattle.kernel_files.specs.Answers.{Told, Made, volume}
use Rattle.kernel_files.specs.Steps.{MadeBy, IsDone as IsDoneStep, IsBroken}
use Rattle.kernel_files.specs.MapCalls.{Begins, Removes, SettlesFound, BreaksSettles}
use Rattle.kernel_files.proofs.Steps.{made_done, made_broken}
use Rattle.site_record.specs.declared.recorder.Ended.{Ended}
use Rattle.site_record.specs.declared.recorder.Ended.TheVariants.{Done as IsDone, Failed as HasFailed}
use Rattle.site_record.specs.Record.{Note, Noted, is_well}
use Rattle.kernel_laws.specs.Site.{Opened, Stands}
use Rattle.kernel_laws.proofs.DraftHolds.{LeftIs}
use Rattle.kernel_laws.proofs.DraftKeeps.{keeps_begin, breaks_begin_kept, keeps_publish, breaks_publish_kept}
use Rattle.kernel_laws.proofs.MapKeeps.{keeps_settle, breaks_settle_kept, keeps_remove, breaks_remove_kept}
use Rattle.real_files.specs.Ahead.{Ahead}
use Rattle.folder_site.specs.Told.{IsKept, flag_of}
use Rattle.folder_site.specs.Drafts.{BreaksBeginAt}
use Rattle.folder_site.specs.Left.{Leaves}
use Rattle.folder_site.proofs.Recording.{Takes}
use Rattle.folder_site.proofs.ImageStays.{SparesAll, begins_spare, begins_other, begin_spares, removes_spare, remove_spares, settles_spare, settle_spares}
use Rattle.folder_site.proofs.DraftRecords.{Kept, goes_on}

no_map : (m : List ℕ × ℕ) → None ≡ Some m → ⊥
no_map m e = cc

no_file : (i : ℕ) → None ≡ Some i → ⊥
no_file i e = cc

no_text : (n : List ℕ) → None ≡ Some n → ⊥
no_text n e = cc

same_file : (i j : ℕ) → Some i ≡ Some j → i ≡ j
same_file i j e = cc

same_text : (m n : List ℕ) → Some m ≡ Some n → m ≡ n
same_text m n e = cc

-- no mapfile is kept open
pub none_kept : (t : Told) → IsKept t None
none_kept t m is = absurd (no_map m is)

-- the image has another name
else_named : (x : Option (List ℕ)) (name n : List ℕ) → (x ≡ Some name → ⊥) → x ≡ Some n → n ≡ name → ⊥
else_named x name n other is same = other (is ∙ ap (λ (m : List ℕ). Some m) same)

-- what a draft leaves that is let go for another one
left_of : (o : Opened) (name : List ℕ) (i : ℕ) (firm : Bool) (left : Option (List ℕ)) → o.draft ≡ Some i
    → o.draft_name ≡ Some name → o.is_firm ≡ firm → Leaves (Some name) (Some firm) o.left left → LeftIs o left
left_of o name i true left at named is h = inr (inl (i, at, is, h))
left_of o name i false left at named is h = inr (inr (
  elim h.1 [ inl none ↦ inl none | inr old ↦ inr (old ∙ sym named) ],
  h.0 ∙ sym named,
))

pub left_is : (D : Type 0) (num : D → ℕ) (text : D → List ℕ) (firm : D → Bool) (draft : Option D) (o : Opened)
    (left : Option (List ℕ)) → o.draft ≡ option_map num draft → o.draft_name ≡ option_map text draft
    → o.is_firm ≡ flag_of (option_map firm draft)
    → Leaves (option_map text draft) (option_map firm draft) o.left left → LeftIs o left
left_is D num text firm None o left at named is h = inl (named, h)
left_is D num text firm (Some d) o left at named is h = left_of o (text d) (num d) (firm d) left at named is h

-- without a draft its flags say nothing
unflagged : (v : Volume) (ns : List Note) (es : List Step) (o : Opened) (firm lost : Bool) → o.draft ≡ None
    → Stands v ns es o → Stands v ns es (record o { is_firm = firm; is_lost = lost })
unflagged v ns es o firm lost none h = record {
  counted = h.counted;
  run = λ kept suits.
      let b = h.run kept suits in
      record {
        runs = b.runs;
        image = b.image;
        draft = b.draft;
        entry = b.entry;
        firm = λ e i at. absurd (no_file i (sym none ∙ at));
        lost = λ e i at. absurd (no_file i (sym none ∙ at));
        calm = b.calm;
      };
  gone = h.gone;
  first = h.first;
}

module _ (ended : Ended) (t t' : Told) (r r' : Noted) (o : Opened) (map : Option (List ℕ × ℕ)) (ahead : Ahead) where
  abbrev next_of : Option ℕ → Option (List ℕ) → Bool → Bool → Option (List ℕ) → Opened
  next_of d named firm lost left =
      record o { draft = d; draft_name = named; is_firm = firm; is_lost = lost; left = left; is_closed = true }

  -- The begin of a draft.

  pub begun_kept : (name : List ℕ) (j : ℕ) (text : List ℕ) (firm lost : Bool) (left : Option (List ℕ))
      (D : Type 0) (num : D → ℕ) (text_of : D → List ℕ) (firm_of : D → Bool) (old : Option D)
      → MadeBy (Begins (volume t) name j) t t' → Takes (draft_begin name) ended t t' r r' → ended ≡ IsDone
      → text ≡ name → firm ≡ false → lost ≡ false → o.is_dropped ≡ false → (o.image_name ≡ Some name → ⊥)
      → o.draft ≡ option_map num old → o.draft_name ≡ option_map text_of old → o.is_firm ≡ flag_of (option_map firm_of
      old)
      → Leaves (option_map text_of old) (option_map firm_of old) o.left left → Kept t r o map ahead
      → Kept t' r'
      (record o {
        draft = Some j;
        draft_name = Some text;
        is_firm = firm;
        is_lost = lost;
        left = left;
        is_closed = true;
      })
      None ahead
  begun_kept name j text firm lost left D num text_of firm_of old made noted done same is_firm is_lost kept other at was
      flag leaves k =
      let is_left : LeftIs o left = left_is D num text_of firm_of old o left at was flag leaves in
      subst (λ (x : List ℕ). Kept t' r' (next_of (Some j) (Some x) firm lost left) None ahead) (sym same)
      (subst (λ (b : Bool). Kept t' r' (next_of (Some j) (Some name) b lost left) None ahead) (sym is_firm)
      (subst (λ (b : Bool). Kept t' r' (next_of (Some j) (Some name) false b left) None ahead) (sym is_lost)
      (goes_on (Begins (volume t) name j) (draft_begin name) ended t t' r r' made noted o (Some j) (Some name) false
      false left true (ap is_well done) refl map None ahead
      (λ fs n st call well made h. keeps_begin t.start r.notes t.calls o n fs name j left st kept call well made other
      is_left h)
      (λ told is. none_kept t')
      (λ n i is named leads a b fs h. begins_spare n i (volume t) name leads (else_named o.image_name name n other
      named)
      j fs h)
      (λ n named a e. else_named o.image_name name n other named (sym (same_text name n e)))
      (λ n i is named leads a fs h e. begins_other n i (volume t) name leads
      (else_named o.image_name name n other named) j fs h (sym (same_file j i e)))
      k)))

  -- nothing is begun any more
  undrafted : (d : Option ℕ) (named : Option (List ℕ)) (firm lost : Bool) (left : Option (List ℕ)) → d ≡ None
      → named ≡ None → Kept t' r' (next_of None None firm lost left) None ahead
      → Kept t' r' (next_of d named firm lost left) None ahead
  undrafted d named firm lost left none unnamed k =
      subst (λ (x : Option ℕ). Kept t' r' (next_of x named firm lost left) None ahead) (sym none)
      (subst (λ (x : Option (List ℕ)). Kept t' r' (next_of None x firm lost left) None ahead) (sym unnamed) k)

  pub unbegun_kept : (name : List ℕ) (d : Option ℕ) (named : Option (List ℕ)) (firm lost : Bool)
      (left : Option (List ℕ)) (D : Type 0) (num : D → ℕ) (text_of : D → List ℕ) (firm_of : D → Bool) (old : Option D)
      → MadeBy (BreaksBeginAt (volume t) name) t t'
      → Takes (draft_begin name) ended t t' r r' → ended ≡ HasFailed → d ≡ None → named ≡ None
      → o.is_dropped ≡ false → (o.image_name ≡ Some name → ⊥)
      → o.draft ≡ option_map num old → o.draft_name ≡ option_map text_of old → o.is_firm ≡ flag_of (option_map firm_of
      old)
      → Leaves (option_map text_of old) (option_map firm_of old) o.left left → Kept t r o map ahead
      → Kept t' r' (next_of d named firm lost left) None ahead
  unbegun_kept name d named firm lost left D num text_of firm_of old made noted failed none unnamed kept other at was
      flag
      leaves k =
      let is_left : LeftIs o left = left_is D num text_of firm_of old o left at was flag leaves in
      undrafted d named firm lost left none unnamed
      (goes_on (BreaksBeginAt (volume t) name) (draft_begin name) ended t t' r r' made noted o None None firm lost left
      false (ap is_well failed) refl map None ahead
      (λ fs n st call well made h. breaks_begin_kept t.start r.notes t.calls o n fs name h.0 left firm lost st kept call
      well made other is_left h.1)
      (λ told is. none_kept t')
      (λ n i is named leads a b fs h. begin_spares n i (volume t) name leads
      (else_named o.image_name name n other named) h.0 fs h.1)
      (λ n named a e. no_text n e) (λ n i is named leads a fs h e. no_file i e) k)

  -- The publish of a draft.

  pub publish_kept : {T E : Type 0} (x : Result T E) (draft name : List ℕ) (j : ℕ) (d : Option ℕ)
      (named : Option (List ℕ)) (firm lost : Bool) → Made (rename draft name) x t t'
      → Takes (draft_publish name) ended t t' r r' → OnOk x (ended ≡ IsDone) → OnErr x (ended ≡ HasFailed) → d ≡ None
      → named ≡ None → o.draft ≡ Some j → o.draft_name ≡ Some draft → o.is_dropped ≡ false → (draft ≡ name → ⊥)
      → (o.image_name ≡ Some name → ⊥) → o.is_firm ≡ true → Kept t r o map ahead
      → Kept t' r' (next_of d named firm lost o.left) None ahead
  publish_kept (Ok y) draft name j d named firm lost m noted done failed none unnamed at is kept else_ other is_firm k =
      undrafted d named firm lost o.left none unnamed
      (goes_on (IsDoneStep (rename draft name)) (draft_publish name) ended t t' r r'
      (made_done (rename draft name) (Ok y) y t t' refl m) noted o None None firm lost o.left
      true (ap is_well done) refl map None ahead
      (λ fs n st call well made h.
      unflagged t.start (r.notes ++ n ∷ []) (t.calls ++ fs) (next_of None None false false o.left) firm lost refl
      (keeps_publish t.start r.notes t.calls o n fs draft name j st kept call well made at is else_ other is_firm
      h))
      (λ told is. none_kept t')
      (λ n i image named leads a b fs h. subst (SparesAll n i) (sym h)
      (((λ e. b (is ∙ ap (λ (m : List ℕ). Some m) (sym e))), else_named o.image_name name n other named), tt))
      (λ n named a e. no_text n e) (λ n i is named leads a fs h e. no_file i e) k)
  publish_kept (Err y) draft name j d named firm lost m noted done failed none unnamed at is kept else_ other is_firm
      k =
      undrafted d named firm lost o.left none unnamed
      (goes_on (IsBroken (rename draft name)) (draft_publish name) ended t t' r r'
      (made_broken (rename draft name) (Err y) y t t' refl m) noted o None None firm lost o.left
      false (ap is_well failed) refl map None ahead
      (λ fs n st call well made h.
      unflagged t.start (r.notes ++ n ∷ []) (t.calls ++ fs) (next_of None None false false o.left) firm lost refl
      (breaks_publish_kept t.start r.notes t.calls o n fs draft name j st kept call well made at is else_ other
      is_firm h))
      (λ told is. none_kept t')
      (λ n i image named leads a b fs h. elim h [
        | inl e ↦ subst (SparesAll n i) (sym e) tt
        | inr e ↦ subst (SparesAll n i) (sym e) (tt, tt)
      ])
      (λ n named a e. no_text n e) (λ n i is named leads a fs h e. no_file i e) k)

  -- The settle and the removal of a mapfile.

  pub settle_kept : {T E : Type 0} (x : Result T E) (name : List ℕ) → OnOk x (MadeBy (SettlesFound (volume t) name) t
      t')
      → OnErr x (MadeBy (BreaksSettles (volume t) name) t t') → Takes (map_settle name) ended t t' r r'
      → OnOk x (ended ≡ IsDone) → OnErr x (ended ≡ HasFailed) → o.is_dropped ≡ false
      → (o.draft_name ≡ Some name → ⊥) → (o.image_name ≡ Some name → ⊥) → (o.left ≡ Some name → ⊥)
      → Kept t r o map ahead → Kept t' r' (record o { is_closed = true }) None ahead
  settle_kept (Ok y) name ok err noted done failed kept apart other gone k =
      goes_on (SettlesFound (volume t) name) (map_settle name) ended t t' r r' ok noted o o.draft o.draft_name o.is_firm
      o.is_lost o.left true (ap is_well done) refl map None ahead
      (λ fs n st call well made h. keeps_settle t.start r.notes t.calls o n fs name st kept call well made h apart other
      gone)
      (λ told is. none_kept t')
      (λ n i is named leads a b fs h. settles_spare n i (volume t) leads name fs h)
      (λ n named a. a) (λ n i is named leads a fs h. a) k
  settle_kept (Err y) name ok err noted done failed kept apart other gone k =
      goes_on (BreaksSettles (volume t) name) (map_settle name) ended t t' r r' err noted o o.draft o.draft_name
      o.is_firm
      o.is_lost o.left false (ap is_well failed) refl map None ahead
      (λ fs n st call well made h. breaks_settle_kept t.start r.notes t.calls o n fs name st kept call well made h apart
      other gone)
      (λ told is. none_kept t')
      (λ n i is named leads a b fs h. settle_spares n i (volume t) leads name fs h)
      (λ n named a. a) (λ n i is named leads a fs h. a) k

  pub remove_kept : {T E : Type 0} (x : Result T E) (name : List ℕ) → OnOk x (MadeBy (Removes (volume t) name) t t')
      → OnErr x (MadeBy (IsBroken (unlink name)) t t') → Takes (map_remove name) ended t t' r r'
      → OnOk x (ended ≡ IsDone) → OnErr x (ended ≡ HasFailed) → o.is_dropped ≡ false
      → (o.draft_name ≡ Some name → ⊥) → (o.image_name ≡ Some name → ⊥)
      → Kept t r o map ahead → Kept t' r' (record o { is_closed = true }) None ahead
  remove_kept (Ok y) name ok err noted done failed kept apart other k =
      goes_on (Removes (volume t) name) (map_remove name) ended t t' r r' ok noted o o.draft o.draft_name o.is_firm
      o.is_lost o.left true (ap is_well done) refl map None ahead
      (λ fs n st call well made h. keeps_remove t.start r.notes t.calls o n fs name st kept call well made h apart
      other)
      (λ told is. none_kept t')
      (λ n i is named leads a b fs h. removes_spare n i (volume t) name leads
      (else_named o.image_name name n other named) fs h)
      (λ n named a. a) (λ n i is named leads a fs h. a) k
  remove_kept (Err y) name ok err noted done failed kept apart other k =
      goes_on (IsBroken (unlink name)) (map_remove name) ended t t' r r' err noted o o.draft o.draft_name o.is_firm
      o.is_lost o.left false (ap is_well failed) refl map None ahead
      (λ fs n st call well made h. breaks_remove_kept t.start r.notes t.calls o n fs name st kept call well made h apart
      other)
      (λ told is. none_kept t')
      (λ n i is named leads a b fs h. remove_spares n i name fs h)
      (λ n named a. a) (λ n i is named leads a fs h. a) k

-- no mapfile is kept open any more
pub unmapped : (t : Told) (r : Noted) (o : Opened) (map : Option (List ℕ × ℕ)) (ahead : Ahead) → Kept t r o map ahead
    → Kept t r o None ahead
unmapped t r o map ahead k = (
  k.0,
  ∥∥₁_map k.1 (λ was told.
      let h = was told in
      record { start = h.start; stands = h.stands; image = h.image; map = none_kept t; ahead = h.ahead }),
)

-- What is said of an outcome, once it is known.

pub on_err : {T E : Type 0} (A : Type 0) (x : Result T E) (e : E) → x ≡ Err e → OnErr x A → A
on_err A (Ok y) e is h = absurd (cc)
on_err A (Err z) e is h = h

pub on_ok : {T E : Type 0} (A : Type 0) (x : Result T E) (y : T) → x ≡ Ok y → OnOk x A → A
on_ok A (Ok z) y is h = h
on_ok A (Err e) y is h = absurd (cc)

same_ok : {T E : Type 0} (z y : T) (x : Result T E) → x ≡ Ok z → x ≡ Ok y → z ≡ y
same_ok z y x e f = cc

pub if_ok : {T E : Type 0} (P : T → Type 0) (x : Result T E) (y : T) → x ≡ Ok y → IfOk x P → P y
if_ok P (Ok z) y is h = subst P (same_ok z y (Ok z) refl is) h
if_ok P (Err e) y is h = absurd (cc)
