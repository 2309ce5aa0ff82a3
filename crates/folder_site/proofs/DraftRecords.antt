-- What the files of a site keep through a call on a draft or a mapfile.
use Rattle.std.proofs.Common.{◌≡◌, inl, inr, ℕ, Bool, true, false, ◌&&◌, IsTrue, List, [], ◌∷◌, ◌++◌, length, Some, None, Option, Result, Ok, Err, OnOk, OnErr, refl, sym, ◌∙◌, ap, subst}
use Rattle.std.proofs.lemmas.Bool.{false≢true}
use mathlib.Core.Logic.{∥∥₁_map}
use Rattle.crash_site.specs.Calls.{Call, draft_append, draft_sync}
use Rattle.kernel_files.specs.Volume.{Volume, sync_file, Entry as Step, after as after_steps}
use Rattle.kernel_files.specs.Answers.{Told, Made, volume, bytes_at}
use Rattle.kernel_files.specs.Steps.{MadeBy, IsDone as IsDoneStep, IsBroken}
use Rattle.kernel_files.specs.MapCalls.{Appends}
use Rattle.kernel_files.proofs.Steps.{made_map, made_done, made_broken}
use Rattle.site_record.specs.declared.recorder.Ended.{Ended}
use Rattle.site_record.specs.declared.recorder.Ended.TheVariants.{Done as IsDone, Failed as HasFailed}
use Rattle.site_record.specs.Record.{Note, Noted, answered, is_well}
use Rattle.kernel_laws.specs.Deeds.{total}
use Rattle.kernel_laws.specs.Site.{Opened, Stands}
use Rattle.kernel_laws.proofs.Drops.{lets_go}
use Rattle.kernel_laws.proofs.DraftKeeps.{keeps_append, breaks_append_kept, keeps_draft_sync, breaks_draft_sync_kept}
use Rattle.real_files.specs.Ahead.{Ahead}
use Rattle.folder_site.specs.Told.{Holds, IsOwn, IsKept, IsHeld}
use Rattle.folder_site.specs.Drafts.{BreaksAppendAt}
use Rattle.folder_site.proofs.Recording.{Counted, Takes, counted_on, holds_on, stands_as}
use Rattle.folder_site.proofs.ImageStays.{Reads, SparesAll, spared_all, AllStayNamed, all_stay_named, appends_spare, append_spares, appends_stay, append_stays}

none_isnt : (i : ℕ) → None ≡ Some i → ⊥
none_isnt i e = cc

none_isnt_text : (n : List ℕ) → None ≡ Some n → ⊥
none_isnt_text n e = cc

abbrev pub Kept : Told → Noted → Opened → Option (List ℕ × ℕ) → Ahead → Type 0
Kept t r o map ahead = Counted t r × ∥ (IsTrue t.tells → Holds t r o map ahead) ∥₁

-- a call that began and wasn't made
pub unnoted : (t : Told) (r r' : Noted) (o : Opened) (map : Option (List ℕ × ℕ)) (ahead : Ahead) → r'.tells ≡ r.tells
    → r'.notes ≡ r.notes → Kept t r o map ahead → Kept t r' o map ahead
unnoted t r r' o map ahead tells notes k = (
  (λ h. ap total notes ∙ k.0 (subst (λ (b : Bool). IsTrue (t.tells && b)) tells h)),
  ∥∥₁_map k.1 (λ was told.
      let h = was told in
      record {
        start = h.start;
        stands = λ m. stands_as refl (sym notes) refl (h.stands (sym tells ∙ m));
        image = h.image;
        map = h.map;
        ahead = h.ahead;
      }),
)

-- what is open is let go, if that is noted
pub let_go : (t : Told) (r : Noted) (o p : Opened) (map map' : Option (List ℕ × ℕ)) (ahead : Ahead)
    → p.image ≡ o.image → p.image_name ≡ o.image_name → p.draft ≡ None → p.draft_name ≡ None → p.is_dropped ≡ true
    → p.is_closed ≡ o.is_closed → (IsKept t map → IsKept t map') → Kept t r o map ahead → Kept t r p map' ahead
let_go t r o p map map' ahead image image_name draft draft_name dropped closed kept k = (
  k.0,
  ∥∥₁_map k.1 (λ was told.
      let h = was told in
      record {
        start = h.start;
        stands = λ m. lets_go t.start r.notes t.calls o p (h.stands m) dropped (λ e. sym closed ∙ e);
        image = record {
          named = λ i is.
              let n = h.image.named i (sym image ∙ is) in
              (n.0, image_name ∙ n.1, n.2);
          apart = λ n is named. none_isnt_text n (sym draft_name ∙ named);
          own = λ i is at. none_isnt i (sym draft ∙ at);
          idle = λ e. (draft, draft_name);
        };
        map = kept h.map;
        ahead = λ i is. h.ahead i (sym image ∙ is);
      }),
)

-- A call that ended: what is open after it.

module _ (P : List Step → Type 0) (call : Call) (ended : Ended) (t t' : Told) (r r' : Noted) (made : MadeBy P t t')
    (noted : Takes call ended t t' r r') (o : Opened) (d : Option ℕ) (named : Option (List ℕ)) (firm lost : Bool)
    (left : Option (List ℕ)) where
  abbrev next : Opened
  next = record o { draft = d; draft_name = named; is_firm = firm; is_lost = lost; left = left; is_closed = true }

  -- the calls, and the files after them
  made_at : MadeBy (λ es. P es × (volume t' ≡ after_steps (volume t) es)) t t'
  made_at = made_map P (λ es. P es × (volume t' ≡ after_steps (volume t) es)) t t' (λ k es is h. (h, is)) made

  -- what the calls leave of the image
  stays : ((n : List ℕ) (i : ℕ) → o.image ≡ Some i → o.image_name ≡ Some n → (volume t).names n ≡ Some i
      → (o.draft ≡ Some i → ⊥) → (o.draft_name ≡ Some n → ⊥) → (fs : List Step) → P fs → SparesAll n i fs)
      → IsTrue t.tells → IsOwn (volume t) o → (i : ℕ) → o.image ≡ Some i
      → (n : List ℕ) × (o.image_name ≡ Some n) × Reads n i (bytes_at t i) (volume t')
  stays spares k own i is =
      let a = own.named i is in
      let c = made_at.calls k in
      let s : SparesAll a.0 i c.0 = spares a.0 i is a.1 a.2 (own.own i is) (own.apart a.0 a.1) c.0 c.2.0 in (
        a.0,
        a.1,
        subst (λ (w : Volume). Reads a.0 i (bytes_at t i) w) (sym c.2.1)
            (spared_all a.0 i (bytes_at t i) c.0 (volume t) s (record { named = a.2; text = refl })),
      )

  pub goes_on : (well : Bool) → is_well ended ≡ well → answered call ended ≡ call → (map map' : Option (List ℕ × ℕ))
      → (ahead : Ahead)
      → ((fs : List Step) (n : Note) → Stands t.start r.notes t.calls o → n.call ≡ call → n.ok ≡ well
      → n.made ≡ length fs → P fs → Stands t.start (r.notes ++ n ∷ []) (t.calls ++ fs) next)
      → (IsTrue t.tells → IsKept t map → IsKept t' map')
      → ((n : List ℕ) (i : ℕ) → o.image ≡ Some i → o.image_name ≡ Some n → (volume t).names n ≡ Some i
      → (o.draft ≡ Some i → ⊥) → (o.draft_name ≡ Some n → ⊥) → (fs : List Step) → P fs → SparesAll n i fs)
      → ((n : List ℕ) → o.image_name ≡ Some n → (o.draft_name ≡ Some n → ⊥) → named ≡ Some n → ⊥)
      → ((n : List ℕ) (i : ℕ) → o.image ≡ Some i → o.image_name ≡ Some n → (volume t).names n ≡ Some i
      → (o.draft ≡ Some i → ⊥) → (fs : List Step) → P fs → d ≡ Some i → ⊥)
      → Kept t r o map ahead → Kept t' r' next map' ahead
  goes_on well w answer map map' ahead step kept spares apart own k = (
    counted_on P call ended t t' r r' made noted k.0,
    holds_on P call ended t t' r r' made noted o next map map' ahead ahead
        (λ es h is n e st. step es n st (ap (λ (m : Note). m.call) e ∙ answer) (ap (λ (m : Note). m.ok) e ∙ w)
        (ap (λ (m : Note). m.made) e) h)
        kept
        (λ tells was held i is.
        let a = stays spares tells was i is in
        subst (λ (b : List ℕ). IsHeld b ahead) (sym a.2.text) (held i is))
        (λ tells was. record {
          named = λ i is.
              let a = stays spares tells was i is in
              (a.0, a.1, a.2.named);
          apart = λ n is. apart n is (was.apart n is);
          own = λ i is.
              let a = was.named i is in
              let c = made.calls tells in
              own a.0 i is a.1 a.2 (was.own i is) c.0 c.2;
          idle = λ e. absurd (false≢true (sym e));
        })
        k.1,
  )

  -- the mapfile that is kept open is still the one that its name leads to
  pub map_stays : ((fs : List Step) → P fs → AllStayNamed fs) → (map : Option (List ℕ × ℕ)) → IsTrue t.tells
      → IsKept t map → IsKept t' map
  map_stays all map k kept m is =
      let c = made_at.calls k in
      ap (λ (w : Volume). w.names m.0) c.2.1
      ∙ ap (λ (f : List ℕ → Option ℕ). f m.0) (all_stay_named c.0 (volume t) (all c.0 c.2.0)) ∙ kept m is

-- The calls on the draft that is begun. It is these values before and after the call.

module _ (D : Type 0) (num : D → ℕ) (text : D → List ℕ) (firm lost : D → Bool) (ended : Ended) (t t' : Told)
    (r r' : Noted) (o : Opened) (d d' e e' : D) (map : Option (List ℕ × ℕ)) (ahead : Ahead) where
  abbrev with_draft : D → Opened
  with_draft q =
      record o {
        draft = Some (num q);
        draft_name = Some (text q);
        is_firm = firm q;
        is_lost = lost q;
        is_closed = true;
      }

  as_is : (p : Opened) (q : D) → d' ≡ q → with_draft q ≡ p → Kept t' r' p map ahead
      → Kept t' r' (with_draft d') map ahead
  as_is p q is same k =
      subst (λ (y : Opened). Kept t' r' y map ahead) (sym (ap with_draft is ∙ same)) k

  -- the draft isn't the image
  other : (i : ℕ) → o.draft ≡ Some (num d) → (o.draft ≡ Some i → ⊥) → i ≡ num d → ⊥
  other i at apart same = apart (at ∙ ap (λ (k : ℕ). Some k) (sym same))

  pub append_kept : {T E : Type 0} (x : Result T E) (piece : List ℕ) → OnOk x (MadeBy (Appends (num d) piece) t t')
      → OnErr x (MadeBy (BreaksAppendAt (num d) piece) t t') → Takes (draft_append piece) ended t t' r r'
      → OnOk x (ended ≡ IsDone) → OnErr x (ended ≡ HasFailed) → OnOk x (d' ≡ e) → OnErr x (d' ≡ e')
      → o.draft ≡ Some (num d) → o.is_dropped ≡ false
      → with_draft e ≡ record o { is_firm = false; is_closed = true }
      → with_draft e' ≡ record o { is_firm = false; is_lost = true; is_closed = true }
      → Kept t r o map ahead → Kept t' r' (with_draft d') map ahead
  append_kept (Ok y) piece ok err noted done failed is is' at kept same same' k =
      as_is (record o { is_firm = false; is_closed = true }) e is same
      (goes_on (Appends (num d) piece) (draft_append piece) ended t t' r r' ok noted o o.draft o.draft_name false
      o.is_lost o.left true (ap is_well done) refl map map ahead
      (λ fs n st call well made h. keeps_append t.start r.notes t.calls o n fs (num d) piece st kept call well made at
      h)
      (map_stays (Appends (num d) piece) (draft_append piece) ended t t' r r' ok noted o o.draft o.draft_name false
      o.is_lost o.left (appends_stay (num d) piece) map)
      (λ n i is named leads a b fs h. appends_spare n i (num d) piece fs (other i at a) h)
      (λ n named a. a) (λ n i is named leads a fs h. a) k)
  append_kept (Err y) piece ok err noted done failed is is' at kept same same' k =
      as_is (record o { is_firm = false; is_lost = true; is_closed = true }) e' is' same'
      (goes_on (BreaksAppendAt (num d) piece) (draft_append piece) ended t t' r r' err noted o o.draft o.draft_name
      false true o.left false (ap is_well failed) refl map map ahead
      (λ fs n st call well made h. breaks_append_kept t.start r.notes t.calls o n fs (num d) piece h.0 st kept call well
      made at h.1)
      (map_stays (BreaksAppendAt (num d) piece) (draft_append piece) ended t t' r r' err noted o o.draft o.draft_name
      false true o.left (λ fs h. append_stays (num d) piece h.0 fs h.1) map)
      (λ n i is named leads a b fs h. append_spares n i (num d) piece h.0 fs (other i at a) h.1)
      (λ n named a. a) (λ n i is named leads a fs h. a) k)

  pub sync_kept : {T E : Type 0} (x : Result T E) → Made (sync_file (num d)) x t t' → Takes draft_sync ended t t' r r'
      → OnOk x (ended ≡ IsDone) → OnErr x (ended ≡ HasFailed) → OnOk x (d' ≡ e) → OnErr x (d' ≡ e')
      → o.draft ≡ Some (num d) → o.is_dropped ≡ false → o.is_lost ≡ false
      → with_draft e ≡ record o { is_firm = true; is_closed = true }
      → with_draft e' ≡ record o { is_firm = false; is_lost = true; is_closed = true }
      → Kept t r o map ahead → Kept t' r' (with_draft d') map ahead
  sync_kept (Ok y) m noted done failed is is' at kept whole same same' k =
      as_is (record o { is_firm = true; is_closed = true }) e is same
      (goes_on (IsDoneStep (sync_file (num d))) draft_sync ended t t' r r'
      (made_done (sync_file (num d)) (Ok y) y t t' refl m) noted o o.draft o.draft_name true
      o.is_lost o.left true (ap is_well done) refl map map ahead
      (λ fs n st call well made h. keeps_draft_sync t.start r.notes t.calls o n fs (num d) st kept call well made at
      whole
      h)
      (map_stays (IsDoneStep (sync_file (num d))) draft_sync ended t t' r r'
      (made_done (sync_file (num d)) (Ok y) y t t' refl m) noted o o.draft o.draft_name true
      o.is_lost o.left (λ fs h. subst AllStayNamed (sym h) (tt, tt)) map)
      (λ n i is named leads a b fs h. subst (SparesAll n i) (sym h) (tt, tt))
      (λ n named a. a) (λ n i is named leads a fs h. a) k)
  sync_kept (Err y) m noted done failed is is' at kept whole same same' k =
      as_is (record o { is_firm = false; is_lost = true; is_closed = true }) e' is' same'
      (goes_on (IsBroken (sync_file (num d))) draft_sync ended t t' r r'
      (made_broken (sync_file (num d)) (Err y) y t t' refl m) noted o o.draft o.draft_name
      false true o.left false (ap is_well failed) refl map map ahead
      (λ fs n st call well made h. breaks_draft_sync_kept t.start r.notes t.calls o n fs (num d) st kept call well
      made at
      h)
      (map_stays (IsBroken (sync_file (num d))) draft_sync ended t t' r r'
      (made_broken (sync_file (num d)) (Err y) y t t' refl m) noted o o.draft o.draft_name
      false true o.left
      (λ fs h. elim h [ inl a ↦ subst AllStayNamed (sym a) tt | inr a ↦ subst AllStayNamed (sym a) (tt, tt) ]) map)
      (λ n i is named leads a b fs h.
      elim h [ inl a ↦ subst (SparesAll n i) (sym a) tt | inr a ↦ subst (SparesAll n i) (sym a) (tt, tt) ])
      (λ n named a. a) (λ n i is named leads a fs h. a) k)
