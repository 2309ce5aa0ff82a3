-- What a site over a kernel keeps through the calls on its image.
use Rattle.std.proofs.Common.{◌≡◌, inl, inr, ℕ, ◌+◌, Bool, true, false, true≢false, List, [], ◌∷◌, ◌++◌, length, take, Option, Some, None, refl, sym, ◌∙◌, ap, subst}
use Rattle.std.proofs.lemmas.Bool.{cases_Bool}
use Rattle.kernel_files.specs.Volume.{Node, Volume, write, folder_of, Entry as Step, Failed as Broke, after as after_steps, IsAtRest, Free}
use Rattle.kernel_files.specs.ImageCalls.{OpensImage, BreaksOpen, Writes, BreaksWrite, SyncsOpened, BreaksSyncsOpened}
use Rattle.crash_site.specs.declared.site.MapRead.{MapRead}
use Rattle.crash_site.specs.Files.{File}
use Rattle.crash_site.specs.Calls.{Call, image_open, image_read, image_write, image_sync, map_read}
use Rattle.crash_site.specs.Folder.{Folder, opened, after_failed, with_piece as with_written}
use Rattle.site_record.specs.Record.{Note}
use Rattle.kernel_laws.specs.Refines.{as_file, read_at, files_of, IsFirm, Begun, DraftIs, Imaged, ImageIs}
use Rattle.kernel_laws.specs.Calls.{SyncsImage, BreaksSync}
use Rattle.kernel_laws.specs.Deeds.{taken, folder_after, IsNoted, IsAlone}
use Rattle.kernel_laws.specs.Site.{Opened, IsCalm, Stands}
use Rattle.kernel_laws.proofs.Names.{free_at}
use Rattle.kernel_laws.proofs.Spares.{none_isnt}
use Rattle.kernel_laws.proofs.Asked.{open_asked, sync_asked, failed_sync_asked}
use Rattle.kernel_laws.proofs.Deeds.{noted_last}
use Rattle.kernel_laws.proofs.StepsIn.{open_steps, write_steps}
use Rattle.kernel_laws.proofs.Stands.{RestOfRun, rest_of, Before, stands_done, stands_failed}
use Rattle.kernel_laws.proofs.Calm.{rest_calm, calm_nodes, NoneWrites, Skips, to_but, of_but, rest_but, AllKeepCalm, but_steps, nodes_same, Settled, settled_all, AllOn, on_append, writes_on, on_leave, on_elsewhere, on_keep, own_name_only}

same_name : (m n : List ℕ) → Some m ≡ Some n → m ≡ n
same_name m n e = cc

no_name : (n : List ℕ) → None ≡ Some n → ⊥
no_name n e = cc

-- the name of what is open, if anything is
abbrev pub opened_as : List ℕ → Option ℕ → Option (List ℕ)
opened_as name None = None
opened_as name (Some i) = Some name

-- The folder's names after a call.

piece_image : (d : Folder) (image : Option (List ℕ)) (pos : ℕ) (piece : List ℕ)
    → (with_written d image pos piece).image ≡ d.image
piece_image d None pos piece = refl
piece_image d (Some name) pos piece = refl

piece_draft : (d : Folder) (image : Option (List ℕ)) (pos : ℕ) (piece : List ℕ)
    → (with_written d image pos piece).draft ≡ d.draft
piece_draft d None pos piece = refl
piece_draft d (Some name) pos piece = refl

opened_draft : (d : Folder) (name : List ℕ) (make : Bool) (file : Option File)
    → (opened d name make file).draft ≡ d.draft
opened_draft d name make (Some f) = refl
opened_draft d name true None = refl
opened_draft d name false None = refl

opened_there : (d : Folder) (name : List ℕ) (make : Bool) (f : File) (file : Option File) → file ≡ Some f
    → (opened d name make file).image ≡ Some name
opened_there d name make f file is = ap (λ (x : Option File). (opened d name make x).image) is

opened_made : (d : Folder) (name : List ℕ) (make : Bool) (file : Option File) → file ≡ None → make ≡ true
    → (opened d name make file).image ≡ Some name
opened_made d name make file is asked =
    ap (λ (x : Option File). (opened d name make x).image) is
    ∙ ap (λ (m : Bool). (opened d name m None).image) asked

opened_none : (d : Folder) (name : List ℕ) (make : Bool) (file : Option File) → file ≡ None → make ≡ false
    → (opened d name make file).image ≡ None
opened_none d name make file is unasked =
    ap (λ (x : Option File). (opened d name make x).image) is
    ∙ ap (λ (m : Bool). (opened d name m None).image) unasked

-- The kernel's calls on the image.

write_on : (i pos : ℕ) (piece : List ℕ) (steps : ℕ) (fs : List Step) → BreaksWrite i pos piece steps fs → AllOn i fs
write_on i pos piece steps fs (front, fits, writes, inl is) =
    subst (AllOn i) (sym is) (writes_on i pos (take steps piece) front writes)
write_on i pos piece steps fs (front, fits, writes, inr is) =
    subst (AllOn i) (sym is.2)
    (on_append i front (Broke (write i (pos + steps) is.0) ∷ []) (writes_on i pos (take steps piece) front writes)
    (refl, tt))

syncs_on : (i : ℕ) (folder : Option (List ℕ)) (fs : List Step) → SyncsOpened i folder fs → AllOn i fs
syncs_on i None fs is = subst (AllOn i) (sym is) (refl, tt)
syncs_on i (Some text) fs is = subst (AllOn i) (sym is) (refl, (tt, tt))

sync_on : (i : ℕ) (folder : Option (List ℕ)) (fs : List Step) → BreaksSyncsOpened i folder fs → AllOn i fs
sync_on i folder fs (inl is) = subst (AllOn i) (sym is) tt
sync_on i folder fs (inr (inl is)) = subst (AllOn i) (sym is) (refl, tt)
sync_on i folder fs (inr (inr (inl is))) = subst (AllOn i) (sym is) (refl, tt)
sync_on i folder fs (inr (inr (inr (text, open_, inl is)))) = subst (AllOn i) (sym is) (refl, (tt, tt))
sync_on i folder fs (inr (inr (inr (text, open_, inr is)))) = subst (AllOn i) (sym is) (refl, (tt, tt))

-- an open makes a file, or nothing
opens_keep : (skips : List ℕ → Type 0) (w : Volume) (name : List ℕ) (make : Bool) (image : Option ℕ) (fs : List Step)
    → OpensImage w name make image fs → AllKeepCalm skips w fs
opens_keep skips w name make None fs h = subst (AllKeepCalm skips w) (sym h.2) tt
opens_keep skips w name make (Some i) fs (inl h) = subst (AllKeepCalm skips w) (sym h.1) tt
opens_keep skips w name make (Some i) fs (inr h) = subst (AllKeepCalm skips w) (sym h.3) (tt, tt)

opens_write : (k : ℕ) (w : Volume) (name : List ℕ) (make : Bool) (image : Option ℕ) (fs : List Step)
    → OpensImage w name make image fs → NoneWrites k fs
opens_write k w name make None fs h = subst (NoneWrites k) (sym h.2) tt
opens_write k w name make (Some i) fs (inl h) = subst (NoneWrites k) (sym h.1) tt
opens_write k w name make (Some i) fs (inr h) = subst (NoneWrites k) (sym h.3) ((λ bad. bad), tt)

open_keeps : (skips : List ℕ → Type 0) (w : Volume) (name : List ℕ) (make : Bool) (steps : ℕ) (fs : List Step)
    → BreaksOpen w name make steps fs → AllKeepCalm skips w fs
open_keeps skips w name make steps fs (inl h) = subst (AllKeepCalm skips w) (sym h.1) tt
open_keeps skips w name make steps fs (inr (i, absent, asked, new, inl h)) =
    subst (AllKeepCalm skips w) (sym h.1) (tt, tt)
open_keeps skips w name make steps fs (inr (i, absent, asked, new, inr h)) =
    subst (AllKeepCalm skips w) (sym h.1) (tt, tt)

open_writes : (k : ℕ) (w : Volume) (name : List ℕ) (make : Bool) (steps : ℕ) (fs : List Step)
    → BreaksOpen w name make steps fs → NoneWrites k fs
open_writes k w name make steps fs (inl h) = subst (NoneWrites k) (sym h.1) tt
open_writes k w name make steps fs (inr (i, absent, asked, new, inl h)) =
    subst (NoneWrites k) (sym h.1) ((λ bad. bad), tt)
open_writes k w name make steps fs (inr (i, absent, asked, new, inr h)) =
    subst (NoneWrites k) (sym h.1) ((λ bad. bad), tt)

-- one that was found is all that its name may lead to
opened_may : (w : Volume) (name : List ℕ) (make : Bool) (i : ℕ) (fs : List Step) → w.may name ≡ w.names name ∷ []
    → w.names name ≡ Some i → OpensImage w name make (Some i) fs → (after_steps w fs).may name ≡ Some i ∷ []
opened_may w name make i fs may there (inl h) =
    ap (λ (l : List Step). (after_steps w l).may name) h.1 ∙ may ∙ ap (λ (x : Option ℕ). x ∷ []) there
opened_may w name make i fs may there (inr h) = absurd (none_isnt i (sym h.0 ∙ there))

module _ (v : Volume) (ns : List Note) (es : List Step) (o : Opened) (n : Note) (fs : List Step) where
  abbrev reached : Volume
  reached = after_steps v es

  abbrev folder_now : Folder
  folder_now = folder_after v ns es

  -- The image that is open.

  own_image : (i : ℕ) (b : Before v ns n es o) → o.image ≡ Some i → ImageIs reached b.disk (Some i)
  own_image i b open_ = subst (λ (x : Option ℕ). ImageIs reached b.disk x) open_ b.follows.image

  -- its name is the one that is kept
  own_named : (i : ℕ) (b : Before v ns n es o) (open_ : o.image ≡ Some i) → o.image_name ≡ Some (own_image i b open_).0
  own_named i b open_ =
      sym b.run.image ∙ sym (ap (λ (r : Folder). r.image) b.reads) ∙ (own_image i b open_).1.image

  -- the draft's file is another
  draft_else : (i j : ℕ) (b : Before v ns n es o) → o.image ≡ Some i → o.draft ≡ Some j → j ≡ i → ⊥
  draft_else i j b open_ begun same =
      let m = own_image i b open_ in
      let image : Imaged m.0 i reached b.disk = m.1 in
      let draft : DraftIs reached b.disk (Some j) =
      subst (λ (x : Option ℕ). DraftIs reached b.disk x) begun b.follows.files.draft in
      let named : Begun draft.0 j reached = draft.2 in
      free_at i (reached.names draft.0) (reached.may draft.0)
      (image.begun.apart draft.0 (λ e. image.draft (draft.1 ∙ ap (λ (x : List ℕ). Some x) e)))
      (b.follows.files.here draft.0) (named.named ∙ ap (λ (k : ℕ). Some k) same)

  -- Calls on the image leave all else as it is.
  on_rest : (i : ℕ) (r : Folder) (b : Before v ns n es o) → o.image ≡ Some i → AllOn i fs → r.image ≡ folder_now.image
      → r.draft ≡ folder_now.draft → RestOfRun (after_steps reached fs) r (record o { is_closed = true })
  on_rest i r b open_ on image draft =
      let m = own_image i b open_ in
      let own : Imaged m.0 i reached b.disk = m.1 in
      record {
        image = image ∙ b.run.image;
        draft = draft ∙ b.run.draft;
        entry = λ closed name k named is.
            let here : reached.names name ≡ Some k =
            ap reached.names (same_name name m.0 (sym named ∙ own_named i b open_))
            ∙ own.begun.named ∙ sym open_ ∙ is in
            let s : Settled name k (after_steps reached fs) =
            settled_all name k fs reached (on_leave name i fs on)
            (record { named = here; may = b.run.entry closed name k named is }) in
            s.may;
        firm = λ firm j begun.
            subst IsCalm (sym (nodes_same j fs reached (on_elsewhere j i fs (draft_else i j b open_ begun) on)))
            (b.run.firm firm j begun);
        lost = λ kept j begun.
            ap (λ (f : Node). f.lost) (nodes_same j fs reached (on_elsewhere j i fs (draft_else i j b open_ begun) on))
            ∙ b.run.lost kept j begun;
        calm = of_but o (after_steps reached fs)
            (but_steps (Skips o) fs reached
            (on_keep (Skips o) i fs reached on
            (λ name is. inl (own_named i b open_
            ∙ ap (λ (x : List ℕ). Some x) (sym (own_name_only m.0 i reached own.begun b.follows.files.here name is)))))
            (to_but o reached b.run.calm));
      }

  -- no call of the kernel
  idle_rest : Before v ns n es o → fs ≡ [] → RestOfRun (after_steps reached fs) folder_now o
  idle_rest b none =
      subst (λ (l : List Step). RestOfRun (after_steps reached l) folder_now o) (sym none) (rest_of v ns es o b.run)

  closed_rest : (w : Volume) (r : Folder) → RestOfRun w r o → RestOfRun w r (record o { is_closed = true })
  closed_rest w r h = record {
    image = h.image;
    draft = h.draft;
    entry = h.entry;
    firm = h.firm;
    lost = h.lost;
    calm = h.calm;
  }

  module _ (h : Stands v ns es o) (kept : o.is_dropped ≡ false) (count : n.made ≡ length fs) where
    -- Reads.

    pub keeps_read : (pos asked : ℕ) (answer : Option ℕ) → n.call ≡ image_read pos asked answer → fs ≡ []
        → Stands v (ns ++ n ∷ []) (es ++ fs) o
    keeps_read pos asked answer is none =
        let call : Call = image_read pos asked answer in
        elim (cases_Bool n.ok) [
          | inl ok ↦ stands_done v ns es o o n fs call h kept is ok count kept (λ open_. (none, open_))
              (λ b. ((none, refl, refl), idle_rest b none))
          | inr failed ↦ stands_failed v ns es o o n fs call h kept is failed count kept (λ open_. (none, open_))
              (λ b. ((none, refl, refl), idle_rest b none))
        ]

    pub keeps_map_read : (name : List ℕ) (pos asked : ℕ) (answer : Option MapRead)
        → n.call ≡ map_read name pos asked answer → fs ≡ [] → Stands v (ns ++ n ∷ []) (es ++ fs) o
    keeps_map_read name pos asked answer is none =
        let call : Call = map_read name pos asked answer in
        elim (cases_Bool n.ok) [
          | inl ok ↦ stands_done v ns es o o n fs call h kept is ok count kept (λ open_. (none, open_))
              (λ b. ((none, refl, refl), idle_rest b none))
          | inr failed ↦ stands_failed v ns es o o n fs call h kept is failed count kept (λ open_. (none, open_))
              (λ b. ((none, refl, refl), idle_rest b none))
        ]

    -- Writes.

    pub keeps_write : (i pos : ℕ) (piece : List ℕ) → n.call ≡ image_write pos piece → n.ok ≡ true → o.image ≡ Some i
        → (piece ≡ [] → ⊥) → Writes i pos piece fs
        → Stands v (ns ++ n ∷ []) (es ++ fs) (record o { is_closed = true })
    keeps_write i pos piece is ok open_ some writes =
        stands_done v ns es o (record o { is_closed = true }) n fs (image_write pos piece) h kept is ok count kept
        (λ closed. absurd (true≢false closed))
        (λ b. (
          (i, open_, some, writes, refl, refl),
          on_rest i (with_written folder_now folder_now.image pos piece) b open_ (writes_on i pos piece fs writes)
              (piece_image folder_now folder_now.image pos piece) (piece_draft folder_now folder_now.image pos piece),
        ))

    pub breaks_write_kept : (i pos : ℕ) (piece : List ℕ) (steps : ℕ) → n.call ≡ image_write pos piece → n.ok ≡ false
        → o.image ≡ Some i → (piece ≡ [] → ⊥) → BreaksWrite i pos piece steps fs
        → Stands v (ns ++ n ∷ []) (es ++ fs) (record o { is_closed = true })
    breaks_write_kept i pos piece steps is failed open_ some breaks =
        stands_failed v ns es o (record o { is_closed = true }) n fs (image_write pos piece) h kept is failed count kept
        (λ closed. absurd (true≢false closed))
        (λ b. (
          (
            i,
            open_,
            some,
            subst (λ (k : ℕ). BreaksWrite i pos piece k fs) (write_steps i pos piece steps fs breaks) breaks,
            refl,
            refl,
          ),
          on_rest i (after_failed folder_now (image_write pos piece) (taken fs)) b open_
              (write_on i pos piece steps fs breaks) refl refl,
        ))

    -- Syncs.

    module _ (i : ℕ) (name : List ℕ) (folder : Option (List ℕ)) (is : n.call ≡ image_sync) (open_ : o.image ≡ Some i)
        (named : o.image_name ≡ Some name) (own : (text : List ℕ) → folder ≡ Some text → text ≡ folder_of name) where
      image_now : Before v ns n es o → folder_now.image ≡ Some name
      image_now b = b.run.image ∙ named

      pub keeps_sync : n.ok ≡ true → (folder ≡ None → o.has_folder ≡ false) → SyncsOpened i folder fs
          → Stands v (ns ++ n ∷ []) (es ++ fs) (record o { is_closed = true })
      keeps_sync ok without syncs =
          stands_done v ns es o (record o { is_closed = true }) n fs image_sync h kept is ok count kept
          (λ closed. absurd (true≢false closed))
          (λ b. (
            (
              subst (λ (k : Option ℕ). SyncsImage reached folder_now k fs) (sym open_)
                  (sync_asked reached folder_now i name folder fs (image_now b) own
                  (λ none. b.run.entry (without none) name i named open_) syncs),
              refl,
              refl,
            ),
            on_rest i folder_now b open_ (syncs_on i folder fs syncs) refl refl,
          ))

      pub breaks_sync_kept : n.ok ≡ false → BreaksSyncsOpened i folder fs
          → Stands v (ns ++ n ∷ []) (es ++ fs) (record o { is_closed = true })
      breaks_sync_kept failed breaks =
          stands_failed v ns es o (record o { is_closed = true }) n fs image_sync h kept is failed count kept
          (λ closed. absurd (true≢false closed))
          (λ b. (
            (
              subst (λ (k : Option ℕ). BreaksSync folder_now k fs) (sym open_)
                  (failed_sync_asked folder_now i name folder fs (image_now b) own breaks),
              refl,
              refl,
            ),
            on_rest i folder_now b open_ (sync_on i folder fs breaks) refl refl,
          ))

    -- without an open image
    pub keeps_sync_idle : n.call ≡ image_sync → n.ok ≡ true → o.image ≡ None → fs ≡ []
        → Stands v (ns ++ n ∷ []) (es ++ fs) (record o { is_closed = true })
    keeps_sync_idle is ok shut none =
        stands_done v ns es o (record o { is_closed = true }) n fs image_sync h kept is ok count kept
        (λ closed. absurd (true≢false closed))
        (λ b. (
          (subst (λ (k : Option ℕ). SyncsImage reached folder_now k fs) (sym shut) none, refl, refl),
          closed_rest (after_steps reached fs) folder_now (idle_rest b none),
        ))

    pub breaks_sync_idle : n.call ≡ image_sync → n.ok ≡ false → o.image ≡ None → fs ≡ []
        → Stands v (ns ++ n ∷ []) (es ++ fs) (record o { is_closed = true })
    breaks_sync_idle is failed shut none =
        stands_failed v ns es o (record o { is_closed = true }) n fs image_sync h kept is failed count kept
        (λ closed. absurd (true≢false closed))
        (λ b. (
          (subst (λ (k : Option ℕ). BreaksSync folder_now k fs) (sym shut) none, refl, refl),
          closed_rest (after_steps reached fs) folder_now (idle_rest b none),
        ))

    -- Opens. Nothing changed before them.

    module _ (name : List ℕ) (make : Bool) (is : n.call ≡ image_open name make) (fresh : o.is_closed ≡ false) where
      still : Before v ns n es o → IsAtRest reached
      still b = subst (λ (l : List Step). IsAtRest (after_steps v l)) (sym (h.first fresh)) b.suits.rest

      lone : Before v ns n es o → IsAlone name reached
      lone b =
          subst (λ (l : List Step). IsAlone name (after_steps v l)) (sym (h.first fresh))
          (b.suits.alone name make (subst (λ (c : Call). IsNoted c (ns ++ n ∷ [])) is (noted_last ns n)))

      file_own : (b : Before v ns n es o) (i : ℕ) → reached.names name ≡ Some i
          → Begun name i reached × IsFirm (reached.nodes i) × ((reached.nodes i).lost ≡ [])
      file_own b i there = (
        record {
          named = there;
          apart = λ m apart. subst (λ (l : List (Option ℕ)). Free i l) (sym ((still b).may m))
              ((λ e. apart (lone b i m there e)), tt);
        },
        record { loose = (still b).loose i; durable = (still b).durable i },
        (still b).lost i,
      )

      -- every file is calm after it
      all_calm : (b : Before v ns n es o) (j : ℕ) → NoneWrites j fs → IsCalm ((after_steps reached fs).nodes j)
      all_calm b j none = calm_nodes j fs reached none (rest_calm reached (still b) j)

      -- what reads under the name
      name_reads : Before v ns n es o → folder_now.files name ≡ files_of reached name
      name_reads b = sym (ap (λ (r : Folder). r.files name) b.reads) ∙ b.follows.files.reads name

      reads_by : (b : Before v ns n es o) (e : Option ℕ) → reached.names name ≡ e
          → folder_now.files name ≡ as_file (read_at reached.nodes e)
      reads_by b e leads = name_reads b ∙ ap (λ (x : Option ℕ). as_file (read_at reached.nodes x)) leads

      image_after : (b : Before v ns n es o) (image : Option ℕ) → OpensImage reached name make image fs
          → (opened folder_now name make (folder_now.files name)).image ≡ opened_as name image
      image_after b None opens =
          opened_none folder_now name make (folder_now.files name) (reads_by b None opens.0) opens.1
      image_after b (Some i) (inl opens) =
          opened_there folder_now name make (record { bytes = (reached.nodes i).bytes; regular = true })
          (folder_now.files name) (reads_by b (Some i) opens.0)
      image_after b (Some i) (inr opens) =
          opened_made folder_now name make (folder_now.files name) (reads_by b None opens.0) opens.1

      entry_after : (b : Before v ns n es o) (image : Option ℕ) → OpensImage reached name make image fs
          → reached.names name ≡ image → (m : List ℕ) (k : ℕ) → opened_as name image ≡ Some m → image ≡ Some k
          → (after_steps reached fs).may m ≡ Some k ∷ []
      entry_after b None opens there m k named one = absurd (none_isnt k one)
      entry_after b (Some i) opens there m k named one =
          ap (after_steps reached fs).may (sym (same_name name m named))
          ∙ opened_may reached name make i fs ((still b).may name) there opens
          ∙ ap (λ (x : Option ℕ). x ∷ []) one

      pub keeps_open : (image : Option ℕ) (has_folder is_closed : Bool) → n.ok ≡ true
          → (o.draft_name ≡ Some name → ⊥) → (has_folder ≡ false → reached.names name ≡ image)
          → (is_closed ≡ false → fs ≡ []) → OpensImage reached name make image fs
          → Stands v (ns ++ n ∷ []) (es ++ fs)
          (record o {
            image = image;
            image_name = opened_as name image;
            has_folder = has_folder;
            is_closed = is_closed;
          })
      keeps_open image has_folder is_closed ok apart found closes opens =
          let u : Opened = record o {
            image = image;
            image_name = opened_as name image;
            has_folder = has_folder;
            is_closed = is_closed;
          } in
          stands_done v ns es o u n fs (image_open name make) h kept is ok count kept (λ open_. (closes open_, fresh))
          (λ b. (
            (
              open_asked reached folder_now name make image fs (λ e. apart (sym b.run.draft ∙ e)) ((still b).may name)
                  (file_own b) opens,
              refl,
            ),
            record {
              image = image_after b image opens;
              draft = opened_draft folder_now name make (folder_now.files name) ∙ b.run.draft;
              entry = λ without m k named one. entry_after b image opens (found without) m k named one;
              firm = λ firm j begun. all_calm b j (opens_write j reached name make image fs opens);
              lost = λ whole j begun. (all_calm b j (opens_write j reached name make image fs opens)).lost;
              calm = of_but u (after_steps reached fs)
                  (but_steps (Skips u) fs reached (opens_keep (Skips u) reached name make image fs opens)
                  (rest_but (Skips u) reached (still b)));
            },
          ))

      pub breaks_open_kept : (has_folder is_closed : Bool) (steps : ℕ) → n.ok ≡ false → (is_closed ≡ false → fs ≡ [])
          → BreaksOpen reached name make steps fs
          → Stands v (ns ++ n ∷ []) (es ++ fs)
          (record o { image = None; image_name = None; has_folder = has_folder; is_closed = is_closed })
      breaks_open_kept has_folder is_closed steps failed closes breaks =
          let u : Opened = record o {
            image = None;
            image_name = None;
            has_folder = has_folder;
            is_closed = is_closed;
          } in
          stands_failed v ns es o u n fs (image_open name make) h kept is failed count kept
          (λ open_. (closes open_, fresh)) (λ b. (
            (
              subst (λ (k : ℕ). BreaksOpen reached name make k fs) (open_steps reached name make steps fs breaks)
                  breaks,
              refl,
              refl,
            ),
            record {
              image = refl;
              draft = b.run.draft;
              entry = λ without m k named one. absurd (none_isnt k one);
              firm = λ firm j begun. all_calm b j (open_writes j reached name make steps fs breaks);
              lost = λ whole j begun. (all_calm b j (open_writes j reached name make steps fs breaks)).lost;
              calm = of_but u (after_steps reached fs)
                  (but_steps (Skips u) fs reached (open_keeps (Skips u) reached name make steps fs breaks)
                  (rest_but (Skips u) reached (still b)));
            },
          ))
