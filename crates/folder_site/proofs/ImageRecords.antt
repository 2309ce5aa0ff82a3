-- What the files of a site keep through a call on the image.
use Rattle.std.proofs.Common.{◌≡◌, inl, inr, ℕ, ◌+◌, Bool, true, false, IsTrue, nat_eq, List, [], ◌∷◌, ◌++◌, length, take, Some, None, Option, Result, Ok, Err, IfOk, OnOk, OnErr, is_some, refl, sym, ◌∙◌, ap, subst}
use Rattle.std.specs.Option.{option_map}
use Rattle.std.specs.Result.{result_ok}
use Rattle.std.proofs.Props.{props}
use Rattle.std.proofs.lemmas.Bool.{cases_Bool, false≢true}
use mathlib.Core.Logic.{∥∥₁_elim}
use Rattle.crash_site.specs.Calls.{Call, image_read, image_write, image_sync}
use Rattle.crash_site.specs.FileAnswers.{IsImageRead}
use Rattle.crash_site.specs.SiteState.{image_in}
use Rattle.kernel_files.specs.Volume.{Volume, write, folder_of, Entry as Step, Done as Did, Failed as Broke}
use Rattle.kernel_files.specs.Answers.{Told, volume, bytes_at}
use Rattle.kernel_files.specs.Steps.{MadeBy}
use Rattle.kernel_files.specs.ImageCalls.{Writes, SyncsOpened, BreaksSyncsOpened}
use Rattle.kernel_files.proofs.Steps.{made_here}
use Rattle.site_record.specs.declared.recorder.Ended.{Ended}
use Rattle.site_record.specs.declared.recorder.Ended.TheVariants.{Done as IsDone, Gave, Found, Failed as HasFailed}
use Rattle.site_record.specs.Record.{Note, Noted, answered, is_well, note_of}
use Rattle.kernel_laws.specs.Refines.{as_file}
use Rattle.kernel_laws.specs.Site.{Opened, Stands}
use Rattle.kernel_laws.proofs.ImageKeeps.{keeps_read, keeps_write, breaks_write_kept, keeps_sync, breaks_sync_kept, keeps_sync_idle, breaks_sync_idle}
use Rattle.real_files.specs.Ahead.{Ahead, nothing_held}
use Rattle.folder_site.specs.Pieces.{BreaksWriteAt, SyncsOpen, BreaksSyncOpen}
use Rattle.folder_site.specs.Told.{tells_both, site_told, Holds, Lists, IsOwn, IsOwnFolder, IsHeld, flag_of}
use Rattle.folder_site.proofs.Recording.{Counted, Takes, went, OneOf, noted_one, counted_on, holds_on, lists_done, lists_lost, left_of_both, right_of_both}
use Rattle.folder_site.proofs.ImageStays.{Reads, SparesAll, spared_all, AllStayNamed, all_stay_named}
use Rattle.folder_site.proofs.DraftRecords.{Kept}
use Rattle.folder_site.proofs.AheadReads.{nothing_is_held}
use Rattle.folder_site.proofs.SiteReads.{image_reads}

-- A call that leaves all names, and the image open.

module _ (P : List Step → Type 0) (call : Call) (ended : Ended) (t t' : Told) (r r' : Noted) (made : MadeBy P t t')
    (noted : Takes call ended t t' r r') (o : Opened) (c : Bool) (closed : c ≡ false → o.is_closed ≡ false)
    (stay : (fs : List Step) → P fs → AllStayNamed fs) where
  names_same : IsTrue t.tells → (n : List ℕ) → (volume t').names n ≡ (volume t).names n
  names_same k n =
      let a = went P t t' made k in
      ap (λ (v : Volume). v.names n) a.2
      ∙ ap (λ (f : List ℕ → Option ℕ). f n) (all_stay_named a.0 (volume t) (stay a.0 a.1))

  pub image_kept : (map : Option (List ℕ × ℕ)) (ahead ahead' : Ahead)
      → ((es : List Step) → P es → (n : Note) → n ≡ note_of call ended (length es)
      → Stands t.start r.notes t.calls o
      → Stands t.start (r.notes ++ n ∷ []) (t.calls ++ es) (record o { is_closed = c }))
      → (IsTrue t.tells → IsOwn (volume t) o → ((i : ℕ) → o.image ≡ Some i → IsHeld (bytes_at t i) ahead)
      → (i : ℕ) → o.image ≡ Some i → IsHeld (bytes_at t' i) ahead')
      → Kept t r o map ahead → Kept t' r' (record o { is_closed = c }) map ahead'
  image_kept map ahead ahead' step held k = (
    counted_on P call ended t t' r r' made noted k.0,
    holds_on P call ended t t' r r' made noted o (record o { is_closed = c }) map map ahead ahead'
        (λ es h grew n is st. step es h n is st)
        (λ told kept m is. names_same told m.0 ∙ kept m is)
        held
        (λ told own. record {
          named = λ i is.
              let a = own.named i is in
              (a.0, a.1, names_same told a.0 ∙ a.2);
          apart = own.apart;
          own = own.own;
          idle = λ e. own.idle (closed e);
        })
        k.1,
  )

-- Reads.

-- what a read noted
read_noted : (pos asked : ℕ) (ended : Ended)
    → (answer : Option ℕ) × (answered (image_read pos asked None) ended ≡ image_read pos asked answer)
read_noted pos asked IsDone = (None, refl)
read_noted pos asked (Gave n) = (Some n, refl)
read_noted pos asked (Found m) = (None, refl)
read_noted pos asked HasFailed = (None, refl)

some_same : (i j : ℕ) → Some i ≡ Some j → i ≡ j
some_same i j e = cc

pub read_kept : (pos asked : ℕ) (ended : Ended) (t : Told) (r r' : Noted) (o : Opened) (map : Option (List ℕ × ℕ))
    (ahead ahead' : Ahead) (i : ℕ) → Takes (image_read pos asked None) ended t t r r' → o.image ≡ Some i
    → o.is_dropped ≡ false
    → (IsTrue t.tells → IsHeld (bytes_at t i) ahead → IsHeld (bytes_at t i) ahead')
    → Kept t r o map ahead → Kept t r' o map ahead'
read_kept pos asked ended t r r' o map ahead ahead' i noted open_ kept held =
    let a = read_noted pos asked ended in
    image_kept (λ (es : List Step). es ≡ []) (image_read pos asked None) ended t t r r'
    (made_here (λ (es : List Step). es ≡ []) t refl) noted o o.is_closed (λ e. e)
    (λ fs none. subst AllStayNamed (sym none) tt) map ahead ahead'
    (λ es none n is st.
    keeps_read t.start r.notes t.calls o n es st kept (ap (λ (m : Note). m.made) is) pos asked a.0
    (ap (λ (m : Note). m.call) is ∙ a.1) none)
    (λ told own was j is.
    let same : j ≡ i = some_same j i (sym is ∙ open_) in
    subst (λ (k : ℕ). IsHeld (bytes_at t k) ahead') (sym same) (held told (was i open_)))

pub read_lists : {E : Type 0} (x : Result ℕ E) (pos asked : ℕ) (ended : Ended) (t : Told) (r r' : Noted)
    → Takes (image_read pos asked None) ended t t r r' → IfOk x (λ n. ended ≡ Gave n) → OnErr x (ended ≡ HasFailed)
    → Counted t r → Lists (image_read pos asked (result_ok x)) x (site_told t r) (site_told t r')
read_lists (Ok n) pos asked ended t r r' noted is failed k =
    lists_done (λ (es : List Step). es ≡ []) (image_read pos asked None) ended t t r r'
    (made_here (λ (es : List Step). es ≡ []) t refl) noted n (image_read pos asked (Some n))
    (ap is_well is) (ap (answered (image_read pos asked None)) is) k
read_lists (Err e) pos asked ended t r r' noted is failed k =
    lists_lost (λ (es : List Step). es ≡ []) (image_read pos asked None) ended t t r r'
    (made_here (λ (es : List Step). es ≡ []) t refl) noted e (image_read pos asked None)
    (ap is_well failed) (ap (answered (image_read pos asked None)) failed) k

IsImageRead-prop : (f : _) (pos : ℕ) (buf : List ℕ) (n : ℕ) → IsProp (IsImageRead f pos buf n)
IsImageRead-prop f pos buf n = hlevel props

pub read_right : {E : Type 0} (x : Result ℕ E) (pos : ℕ) (buf : List ℕ) (t : Told) (r : Noted) (o : Opened)
    (map : Option (List ℕ × ℕ)) (ahead : Ahead) (i : ℕ) → o.image ≡ Some i → o.is_dropped ≡ false
    → IfOk x (λ n. IsTrue t.tells → IsHeld (bytes_at t i) ahead
    → IsImageRead (as_file (Some (bytes_at t i))) pos buf n)
    → ∥ (IsTrue t.tells → Holds t r o map ahead) ∥₁
    → IfOk x (λ n. IsTrue (tells_both t r) → IsImageRead (image_in (site_told t r)) pos buf n)
read_right (Ok n) pos buf t r o map ahead i open_ kept reads was =
    λ both.
    ∥∥₁_elim was (IsImageRead-prop (image_in (site_told t r)) pos buf n) (λ holds.
    let told : IsTrue t.tells = left_of_both t.tells r.tells both in
    let h = holds told in
    subst (λ (f : _). IsImageRead f pos buf n)
    (sym (image_reads t r o map ahead h (right_of_both t.tells r.tells both) kept i open_))
    (reads told (h.ahead i open_)))
read_right (Err e) pos buf t r o map ahead i open_ kept reads was = tt

-- Writes.

stays_append : (es fs : List Step) → AllStayNamed es → AllStayNamed fs → AllStayNamed (es ++ fs)
stays_append [] fs s t = t
stays_append (e ∷ es) fs s t = (s.0, stays_append es fs s.1 t)

writes_stay : (i pos : ℕ) (piece : List ℕ) (es : List Step) → Writes i pos piece es → AllStayNamed es
writes_stay i pos piece [] h = tt
writes_stay i pos piece (Did (write j at p) ∷ es) h = (tt, writes_stay i (pos + length p) h.0 es h.4)
writes_stay i pos piece (e ∷ es) h = absurd h

write_stays : (i pos : ℕ) (piece : List ℕ) (es : List Step) → BreaksWriteAt i pos piece es → AllStayNamed es
write_stays i pos piece es (steps, (front, fits, writes, inl is)) =
    subst AllStayNamed (sym is) (writes_stay i pos (take steps piece) front writes)
write_stays i pos piece es (steps, (front, fits, writes, inr is)) =
    subst AllStayNamed (sym is.2)
    (stays_append front (Broke (write i (pos + steps) is.0) ∷ []) (writes_stay i pos (take steps piece) front writes)
    (tt, tt))

one_write_stays : {T E : Type 0} (x : Result T E) (i pos : ℕ) (piece : List ℕ) (fs : List Step)
    → OneOf (Writes i pos piece) (BreaksWriteAt i pos piece) x fs → AllStayNamed fs
one_write_stays (Ok y) i pos piece fs h = writes_stay i pos piece fs h
one_write_stays (Err y) i pos piece fs h = write_stays i pos piece fs h

pub write_kept : {T E : Type 0} (x : Result T E) (i pos : ℕ) (piece : List ℕ) (ended : Ended) (t t' : Told) (r r' : Noted)
    (o : Opened) (map : Option (List ℕ × ℕ)) (ahead ahead' : Ahead) (room : ℕ)
    → MadeBy (OneOf (Writes i pos piece) (BreaksWriteAt i pos piece) x) t t'
    → Takes (image_write pos piece) ended t t' r r' → OnOk x (ended ≡ IsDone) → OnErr x (ended ≡ HasFailed)
    → o.image ≡ Some i → (piece ≡ [] → ⊥) → o.is_dropped ≡ false → ahead' ≡ nothing_held room
    → Kept t r o map ahead → Kept t' r' (record o { is_closed = true }) map ahead'
write_kept x i pos piece ended t t' r r' o map ahead ahead' room made noted done failed open_ some kept empty =
    image_kept (OneOf (Writes i pos piece) (BreaksWriteAt i pos piece) x) (image_write pos piece) ended t t' r r' made
    noted o true (λ e. absurd (false≢true (sym e))) (one_write_stays x i pos piece) map ahead ahead'
    (λ es h n is st.
    noted_one (Stands t.start (r.notes ++ n ∷ []) (t.calls ++ es) (record o { is_closed = true })) (Writes i pos piece)
    (BreaksWriteAt i pos piece) x (image_write pos piece) ended es n done failed refl refl is
    (λ call well count wrote. keeps_write t.start r.notes t.calls o n es st kept count i pos piece call well open_ some
    wrote)
    (λ call bad count broke. breaks_write_kept t.start r.notes t.calls o n es st kept count i pos piece broke.0 call bad
    open_ some broke.1) h)
    (λ told own was j is. subst (λ (a : Ahead). IsHeld (bytes_at t' j) a) (sym empty) (nothing_is_held (bytes_at t' j) room))

pub some_bytes : (piece : List ℕ) (b : Bool) → b ≡ nat_eq (length piece) 0 → b ≡ false → piece ≡ [] → ⊥
some_bytes piece b is off none =
    false≢true (sym off ∙ is ∙ ap (λ (l : List ℕ). nat_eq (length l) 0) none)

-- Syncs.

-- a sync leaves each name, and the bytes of each file
syncs_stay : (i : ℕ) (folder : Option (List ℕ)) (es : List Step) → SyncsOpened i folder es → AllStayNamed es
syncs_stay i None es is = subst AllStayNamed (sym is) (tt, tt)
syncs_stay i (Some text) es is = subst AllStayNamed (sym is) (tt, (tt, tt))

syncs_spare : (n : List ℕ) (k i : ℕ) (folder : Option (List ℕ)) (es : List Step) → SyncsOpened i folder es
    → SparesAll n k es
syncs_spare n k i None es is = subst (SparesAll n k) (sym is) (tt, tt)
syncs_spare n k i (Some text) es is = subst (SparesAll n k) (sym is) (tt, (tt, tt))

sync_stays : (i : ℕ) (folder : Option (List ℕ)) (es : List Step) → BreaksSyncsOpened i folder es → AllStayNamed es
sync_stays i folder es (inl is) = subst AllStayNamed (sym is) tt
sync_stays i folder es (inr (inl is)) = subst AllStayNamed (sym is) (tt, tt)
sync_stays i folder es (inr (inr (inl is))) = subst AllStayNamed (sym is) (tt, tt)
sync_stays i folder es (inr (inr (inr (text, open_, inl is)))) = subst AllStayNamed (sym is) (tt, (tt, tt))
sync_stays i folder es (inr (inr (inr (text, open_, inr is)))) = subst AllStayNamed (sym is) (tt, (tt, tt))

sync_spares : (n : List ℕ) (k i : ℕ) (folder : Option (List ℕ)) (es : List Step) → BreaksSyncsOpened i folder es
    → SparesAll n k es
sync_spares n k i folder es (inl is) = subst (SparesAll n k) (sym is) tt
sync_spares n k i folder es (inr (inl is)) = subst (SparesAll n k) (sym is) (tt, tt)
sync_spares n k i folder es (inr (inr (inl is))) = subst (SparesAll n k) (sym is) (tt, tt)
sync_spares n k i folder es (inr (inr (inr (text, open_, inl is)))) = subst (SparesAll n k) (sym is) (tt, (tt, tt))
sync_spares n k i folder es (inr (inr (inr (text, open_, inr is)))) = subst (SparesAll n k) (sym is) (tt, (tt, tt))

one_sync_stays : (m : Option (ℕ × Option (List ℕ))) {T E : Type 0} (x : Result T E) (fs : List Step)
    → OneOf (SyncsOpen m) (BreaksSyncOpen m) x fs → AllStayNamed fs
one_sync_stays None (Ok y) fs h = subst AllStayNamed (sym h) tt
one_sync_stays None (Err y) fs h = subst AllStayNamed (sym h) tt
one_sync_stays (Some (i, folder)) (Ok y) fs h = syncs_stay i folder fs h
one_sync_stays (Some (i, folder)) (Err y) fs h = sync_stays i folder fs h

one_sync_spares : (m : Option (ℕ × Option (List ℕ))) {T E : Type 0} (x : Result T E) (n : List ℕ) (k : ℕ)
    (fs : List Step) → OneOf (SyncsOpen m) (BreaksSyncOpen m) x fs → SparesAll n k fs
one_sync_spares None (Ok y) n k fs h = subst (SparesAll n k) (sym h) tt
one_sync_spares None (Err y) n k fs h = subst (SparesAll n k) (sym h) tt
one_sync_spares (Some (i, folder)) (Ok y) n k fs h = syncs_spare n k i folder fs h
one_sync_spares (Some (i, folder)) (Err y) n k fs h = sync_spares n k i folder fs h

-- The image as it is open: its number, its name, its folder's text, and whether that is open.
module _ (D : Type 0) (num : D → ℕ) (text : D → List ℕ) (folder : D → Option (List ℕ)) (has : D → Bool)
    (bare : (d : D) → folder d ≡ None → has d ≡ false) where
  abbrev synced_as : Option D → Option (ℕ × Option (List ℕ))
  synced_as image = option_map (λ d. (num d, folder d)) image

  sync_step : {T E : Type 0} (x : Result T E) (image : Option D) (ended : Ended) (t : Told) (r : Noted) (o : Opened)
      → OnOk x (ended ≡ IsDone) → OnErr x (ended ≡ HasFailed) → o.is_dropped ≡ false → o.image ≡ option_map num image
      → o.image_name ≡ option_map text image → o.has_folder ≡ flag_of (option_map has image)
      → IsOwnFolder (option_map (λ d. (text d, folder d)) image) → (es : List Step)
      → OneOf (SyncsOpen (synced_as image)) (BreaksSyncOpen (synced_as image)) x es → (n : Note)
      → n ≡ note_of image_sync ended (length es) → Stands t.start r.notes t.calls o
      → Stands t.start (r.notes ++ n ∷ []) (t.calls ++ es) (record o { is_closed = true })
  sync_step x None ended t r o done failed kept at named flag own es h n is st =
      noted_one (Stands t.start (r.notes ++ n ∷ []) (t.calls ++ es) (record o { is_closed = true }))
      (SyncsOpen None) (BreaksSyncOpen None) x image_sync ended es n done failed refl refl is
      (λ call well count none. keeps_sync_idle t.start r.notes t.calls o n es st kept count call well at none)
      (λ call bad count none. breaks_sync_idle t.start r.notes t.calls o n es st kept count call bad at none) h
  sync_step x (Some d) ended t r o done failed kept at named flag own es h n is st =
      let there : (f : List ℕ) → folder d ≡ Some f → f ≡ folder_of (text d) =
      λ f e. own (text d) f (ap (λ (y : Option (List ℕ)). Some (text d, y)) e) in
      noted_one (Stands t.start (r.notes ++ n ∷ []) (t.calls ++ es) (record o { is_closed = true }))
      (SyncsOpened (num d) (folder d)) (BreaksSyncsOpened (num d) (folder d)) x image_sync ended es n done failed refl
      refl is
      (λ call well count syncs. keeps_sync t.start r.notes t.calls o n es st kept count (num d) (text d) (folder d) call
      at named there well (λ e. flag ∙ bare d e) syncs)
      (λ call bad count breaks. breaks_sync_kept t.start r.notes t.calls o n es st kept count (num d) (text d) (folder d)
      call at named there bad breaks) h

  pub sync_kept : {T E : Type 0} (x : Result T E) (image : Option D) (ended : Ended) (t t' : Told) (r r' : Noted)
      (o : Opened) (map : Option (List ℕ × ℕ)) (ahead : Ahead)
      → MadeBy (OneOf (SyncsOpen (synced_as image)) (BreaksSyncOpen (synced_as image)) x) t t'
      → Takes image_sync ended t t' r r' → OnOk x (ended ≡ IsDone) → OnErr x (ended ≡ HasFailed)
      → o.is_dropped ≡ false → o.image ≡ option_map num image → o.image_name ≡ option_map text image
      → o.has_folder ≡ flag_of (option_map has image)
      → (IsTrue t.tells → IsOwnFolder (option_map (λ d. (text d, folder d)) image)) → Kept t r o map ahead
      → Kept t' r' (record o { is_closed = true }) map ahead
  sync_kept x image ended t t' r r' o map ahead made noted done failed kept at named flag own k =
      elim (cases_Bool t.tells) [
        | inl told ↦
            image_kept (OneOf (SyncsOpen (synced_as image)) (BreaksSyncOpen (synced_as image)) x) image_sync ended t t'
            r r' made noted o true (λ e. absurd (false≢true (sym e)))
            (one_sync_stays (synced_as image) x) map ahead ahead
            (sync_step x image ended t r o done failed kept at named flag (own told))
            (λ told own was i is.
            let a = own.named i is in
            let c =
            went (OneOf (SyncsOpen (synced_as image)) (BreaksSyncOpen (synced_as image)) x) t t' made told in
            subst (λ (b : List ℕ). IsHeld b ahead)
            (sym (ap (λ (v : Volume). (v.nodes i).bytes) c.2
            ∙ (spared_all a.0 i (bytes_at t i) c.0 (volume t)
            (one_sync_spares (synced_as image) x a.0 i c.0 c.1)
            (record { named = a.2; text = refl })).text)) (was i is)) k
        | inr quiet ↦ (
          (λ h. absurd (false≢true (sym quiet ∙ sym made.tells ∙ left_of_both t'.tells r'.tells h))),
          ∣ (λ h. absurd (false≢true (sym quiet ∙ sym made.tells ∙ h))) ∣₁,
        )
      ]

-- a folder that isn't open
pub unmapped : {A B : Type 0} (f : A → B) (y : Option A) → option_map f y ≡ None → is_some y ≡ false
unmapped f None e = refl
unmapped f (Some x) e = absurd (cc)
