-- The settle of a mapfile.
use Rattle.std.proofs.Common.{◌≡◌, ◌⊎◌, inl, inr, ℕ, Bool, true, false, cond, eqb, IsTrue, List, [], ◌∷◌, ◌++◌, Option, Some, None, refl, sym, ◌∙◌, ap, subst}
use Rattle.std.specs.Str.{bytes_eq}
use Rattle.std.proofs.lemmas.Bool.{cond-false, cond-true, cases_Bool, false≢true}
use Rattle.std.proofs.lemmas.Bool.Decides.{eqb_tells}
use Rattle.kernel_files.specs.Volume.{Node, Volume, new_node, create, unlink, sync_file, sync_folder, folder_of, synced, Entry as Step, Done as Did, Failed as Broke, after as after_steps, after_done as after_step, after_part as step_part, MayRead, Leaves as LeavesEntry, LeavesOne, MayFind, Free, IsNew}
use Rattle.kernel_files.specs.Stops.{Along}
use Rattle.kernel_files.proofs.Volumes.{own_name, other_name, node_here, node_other, names_here, names_other}
use Rattle.crash_site.specs.Files.{File, empty_file, draft_of, put}
use Rattle.crash_site.specs.Calls.{Done, Failed, map_settle}
use Rattle.crash_site.specs.Folder.{opened}
use Rattle.crash_site.specs.Disk.{Showing, Disk, only, with_opened, under, entered}
use Rattle.crash_site.specs.Left.{MayShow, MatchesFile}
use Rattle.crash_site.proofs.DiskLemmas.{holds_self}
use Rattle.kernel_laws.specs.Refines.{as_file, read_at, files_of, Within, IsAmong, IsFirm, DraftIs, Refines, Begun}
use Rattle.kernel_files.specs.MapCalls.{Probes}
use Rattle.kernel_laws.specs.Calls.{Syncs, Settles, BreaksSettle}
use Rattle.kernel_laws.proofs.Nodes.{firm_found, new_firm, sound_lost, sound_synced, synced_firm}
use Rattle.kernel_laws.proofs.Names.{is_name, not_name, shown, lead_within, may_within, lead_here, may_here, finds_here, free_at, free_more, whole_found, finds_less, either_node, read_bytes, lead_reads, others_read, put_reads, with_new, new_within, new_reads, new_sound}
use Rattle.kernel_laws.proofs.Stops.{along_append, run_append}
use Rattle.kernel_laws.proofs.Begins.{Keeps, Fails}

-- An empty file that a settle may make as a draft, and an open as an image.

widens_opened : (file : Option File) (s : Showing) (found : Option File) → MayShow s found
    → MayShow (with_opened true file s) found
widens_opened (Some f) s found h = h
widens_opened None s found (inl any) = inl any
widens_opened None s found (inr (inl text)) = inr (inl text)
widens_opened None s found (inr (inr (inl h))) = inr (inr (inl h))
widens_opened None s found (inr (inr (inr h))) = inr (inr (inr (inr h)))

opened_anything : (file : Option File) (s : Showing) → (with_opened true file s).anything ≡ s.anything
opened_anything None s = refl
opened_anything (Some f) s = refl

empty_shown : (file : Option File) (s : Showing) → file ≡ None → MayShow (with_opened true file s) (Some empty_file)
empty_shown None s none = inr (inr (inr (inl (holds_self (Some empty_file) []))))
empty_shown (Some f) s none = absurd (cc)

no_entry : (i : ℕ) → None ≡ Some i → ⊥
no_entry i e = cc

-- the draft, under names and a disk that leave its own alone
pub draft_on : (v w : Volume) (d e : Disk) (o : Option ℕ) → DraftIs v d o → e.reads.draft ≡ d.reads.draft → e.firm ≡ d.firm
    → ((n : List ℕ) (i : ℕ) → d.reads.draft ≡ Some n → v.names n ≡ Some i → w.names n ≡ Some i)
    → ((n : List ℕ) (i : ℕ) → d.reads.draft ≡ Some n → IsTrue (d.shows n).anything → IsTrue (e.shows n).anything)
    → ((i : ℕ) (draft : List ℕ) → Begun draft i v → (n : List ℕ) → (n ≡ draft → ⊥) → Free i (w.may n))
    → ((i : ℕ) (draft : List ℕ) → Begun draft i v → IsFirm (v.nodes i) → IsFirm (w.nodes i)) → DraftIs w e o
draft_on v w d e None is reads firm names any may node = tt
draft_on v w d e (Some i) is reads firm names any may node = (
  is.0,
  reads ∙ is.1,
  record { named = names is.0 i is.1 is.2.named; apart = may i is.0 is.2 },
  any is.0 i is.1 is.3,
  λ f. node i is.0 is.2 (is.4 (sym firm ∙ f)),
)

module _ (v : Volume) (d : Disk) (o : Option ℕ) (own : List ℕ) (r : Refines v d o) where
  -- the disk while the file is made
  abbrev pub trial : Disk
  trial = under own (with_opened true) d

  pub trial_within : Within trial v
  trial_within n found h =
      shown (bytes_eq n own) (with_opened true (d.reads.files n) (d.shows n)) (d.shows n) (as_file found)
      (λ e. widens_opened (d.reads.files n) (d.shows n) (as_file found) (r.shows n found h)) (λ e. r.shows n found h)

  cond_anything : (b : Bool) (file : Option File) (s : Showing)
      → (cond b (with_opened true file s) s).anything ≡ s.anything
  cond_anything true file s = opened_anything file s
  cond_anything false file s = refl

  trial_anything : (n : List ℕ) → (trial.shows n).anything ≡ (d.shows n).anything
  trial_anything n = cond_anything (bytes_eq n own) (d.reads.files n) (d.shows n)

  pub any_on : (n : List ℕ) (i : ℕ) → d.reads.draft ≡ Some n → IsTrue (d.shows n).anything → IsTrue (trial.shows n).anything
  any_on n i is any = trial_anything n ∙ any

  pub not_tried : Refines v trial o
  not_tried = record {
    shows = trial_within;
    reads = r.reads;
    here = r.here;
    sound = r.sound;
    draft = draft_on v v d trial o r.draft refl refl (λ n i is e. e) any_on (λ i draft b. b.apart) (λ i draft b h. h);
  }

  module _ (absent : v.names own ≡ None) (i : ℕ) (new : IsNew v i) where
    abbrev pub made : Volume
    made = after_step (create own i) v

    abbrev pub tried : Volume
    tried = after_step (unlink own) made

    pub nothing_reads : d.reads.files own ≡ None
    nothing_reads = r.reads own ∙ ap (λ (e : Option ℕ). as_file (read_at v.nodes e)) absent

    -- an empty file and none may be shown under the draft's name
    empty_at : MayShow (trial.shows own) (Some empty_file)
    empty_at =
        shown (bytes_eq own own) (with_opened true (d.reads.files own) (d.shows own)) (d.shows own) (Some empty_file)
        (λ e. empty_shown (d.reads.files own) (d.shows own) nothing_reads) (λ e. absurd (false≢true (sym e ∙ own_name own)))

    none_at : (nodes : ℕ → Node) (found : Option (List ℕ)) → LeavesEntry nodes None found
        → MayShow (trial.shows own) (as_file found)
    none_at nodes None h =
        trial_within own None (finds_here v.nodes (v.names own) (v.may own) None (r.here own)
        (subst (λ (e : Option ℕ). LeavesEntry v.nodes e None) (sym absent) tt))
    none_at nodes (Some bytes) h = absurd h

    new_at : (found : Option (List ℕ)) → LeavesEntry (with_new i v).nodes (Some i) found
        → MayShow (trial.shows own) (as_file found)
    new_at None h = absurd h
    new_at (Some bytes) h =
        let e : bytes ≡ [] = firm_found new_node bytes new_firm (subst (λ (f : Node). MayRead f bytes) (node_here i (λ f. new_node) v) h) in
        subst (λ (b : List ℕ). MayShow (trial.shows own) (Some (record { bytes = b; regular = true }))) (sym e) empty_at

    pub half_made : Within trial (step_part (create own i) v)
    half_made = may_within trial own (Some i) (with_new i v) (new_within trial i v new trial_within) new_at

    pub made_within : Within trial made
    made_within = lead_within trial own (Some i) (with_new i v) (new_within trial i v new trial_within) new_at

    pub half_gone : Within trial (step_part (unlink own) made)
    half_gone = may_within trial own None made made_within (none_at made.nodes)

    tried_within : Within trial tried
    tried_within = lead_within trial own None made made_within (none_at made.nodes)

    pub names_on : (n : List ℕ) (j : ℕ) → v.names n ≡ Some j → tried.names n ≡ Some j
    names_on n j is =
        let apart : n ≡ own → ⊥ = λ e. no_entry j (sym absent ∙ ap (λ (m : List ℕ). v.names m) (sym e) ∙ is) in
        names_other own n None made apart ∙ names_other own n (Some i) (with_new i v) apart ∙ is

    pub made_names : (n : List ℕ) (j : ℕ) → v.names n ≡ Some j → made.names n ≡ Some j
    made_names n j is =
        let apart : n ≡ own → ⊥ = λ e. no_entry j (sym absent ∙ ap (λ (m : List ℕ). v.names m) (sym e) ∙ is) in
        names_other own n (Some i) (with_new i v) apart ∙ is

    number_apart : (j : ℕ) (draft : List ℕ) → Begun draft j v → i ≡ j → ⊥
    number_apart j draft b e = new.named draft (b.named ∙ ap (λ (k : ℕ). Some k) (sym e))

    pub made_free : (j : ℕ) (draft : List ℕ) → Begun draft j v → (n : List ℕ) → (n ≡ draft → ⊥) → Free j (made.may n)
    made_free j draft b n a =
        free_more (bytes_eq n own) j (Some i) (v.may n) (λ e. number_apart j draft b (let k : i ≡ j = cc in k)) (b.apart n a)

    tried_free : (j : ℕ) (draft : List ℕ) → Begun draft j v → (n : List ℕ) → (n ≡ draft → ⊥) → Free j (tried.may n)
    tried_free j draft b n a = free_more (bytes_eq n own) j None (made.may n) (no_entry j) (made_free j draft b n a)

    pub node_on : (j : ℕ) (draft : List ℕ) → Begun draft j v → IsFirm (v.nodes j) → IsFirm ((with_new i v).nodes j)
    node_on j draft b h =
        subst (λ (f : Node). IsFirm f) (sym (node_other i j (λ f. new_node) v (λ e. number_apart j draft b (sym e)))) h

    tried_reads : (n : List ℕ) → d.reads.files n ≡ files_of tried n
    tried_reads n =
        elim (cases_Bool (bytes_eq n own)) [
          | inl e ↦ ap (λ (m : List ℕ). d.reads.files m) (is_name n own e) ∙ nothing_reads
              ∙ sym (lead_reads own None made) ∙ ap (λ (m : List ℕ). files_of tried m) (sym (is_name n own e))
          | inr e ↦ r.reads n ∙ new_reads i v new n ∙ others_read own n (Some i) (with_new i v) (not_name n own e)
              ∙ others_read own n None made (not_name n own e)
        ]

    pub tried_refines : Refines tried trial o
    tried_refines = record {
      shows = tried_within;
      reads = tried_reads;
      here = lead_here own None made (lead_here own (Some i) (with_new i v) r.here);
      sound = new_sound i v r.sound;
      draft = draft_on v tried d trial o r.draft refl refl (λ n j is e. names_on n j e) any_on tried_free node_on;
    }

    -- the empty draft stays
    abbrev pub kept : Volume
    kept = step_part (unlink own) made

    pub kept_free : (j : ℕ) (draft : List ℕ) → Begun draft j v → (n : List ℕ) → (n ≡ draft → ⊥) → Free j (kept.may n)
    kept_free j draft b n a = free_more (bytes_eq n own) j None (made.may n) (no_entry j) (made_free j draft b n a)

    pub opened_files : (f : Option File) → f ≡ None
        → (opened d.reads own true f).files ≡ put d.reads.files own (Some empty_file)
    opened_files None e = refl
    opened_files (Some f) e = absurd (cc)

    pub made_reads : (n : List ℕ) → put d.reads.files own (Some empty_file) n ≡ files_of made n
    made_reads =
        put_reads d.reads.files own (Some empty_file) made
        (λ n a. r.reads n ∙ new_reads i v new n ∙ others_read own n (Some i) (with_new i v) a)
        (ap (λ (f : Node). Some (record { bytes = f.bytes; regular = true })) (sym (node_here i (λ f. new_node) v))
        ∙ sym (lead_reads own (Some i) (with_new i v)))

    pub probe_along : Along (Within trial) v (Did (create own i) ∷ Did (unlink own) ∷ [])
    probe_along = (trial_within, half_made, (made_within, half_gone, tried_within))

-- The same, made as a draft.

module _ (v : Volume) (d : Disk) (o : Option ℕ) (name : List ℕ) (r : Refines v d o) where
  abbrev own : List ℕ
  own = draft_of name

  module _ (absent : v.names own ≡ None) (i : ℕ) (new : IsNew v i) where
    pub fails_unmade : Fails v d (map_settle name) 0 (Broke (create own i) ∷ []) o
    fails_unmade = (
      (trial_within v d o own r, half_made v d o own r absent i new, half_made v d o own r absent i new),
      record {
        shows = half_made v d o own r absent i new;
        reads = λ n. r.reads n ∙ new_reads i v new n;
        here = may_here own (Some i) (with_new i v) r.here;
        sound = new_sound i v r.sound;
        draft = draft_on v (step_part (create own i) v) d (entered d (Failed (map_settle name) 0)) o r.draft refl refl (λ n j is e. e) (any_on v d o own r) (made_free v d o own r absent i new) (node_on v d o own r absent i new);
      },
    )

    pub fails_left : Fails v d (map_settle name) 1 (Did (create own i) ∷ []) o
    fails_left = (
      (trial_within v d o own r, half_made v d o own r absent i new, made_within v d o own r absent i new),
      record {
        shows = made_within v d o own r absent i new;
        reads = λ n. ap (λ (files : List ℕ → Option File). files n) (opened_files v d o own r absent i new (d.reads.files own) (nothing_reads v d o own r absent i new)) ∙ made_reads v d o own r absent i new n;
        here = lead_here own (Some i) (with_new i v) r.here;
        sound = new_sound i v r.sound;
        draft = draft_on v (after_step (create own i) v) d (entered d (Failed (map_settle name) 1)) o r.draft refl refl (λ n j is e. made_names v d o own r absent i new n j e) (any_on v d o own r) (made_free v d o own r absent i new) (node_on v d o own r absent i new);
      },
    )

    pub fails_kept : Fails v d (map_settle name) 1 (Did (create own i) ∷ Broke (unlink own) ∷ []) o
    fails_kept = (
      (trial_within v d o own r, half_made v d o own r absent i new, (made_within v d o own r absent i new, half_gone v d o own r absent i new, half_gone v d o own r absent i new)),
      record {
        shows = half_gone v d o own r absent i new;
        reads = λ n. ap (λ (files : List ℕ → Option File). files n) (opened_files v d o own r absent i new (d.reads.files own) (nothing_reads v d o own r absent i new)) ∙ made_reads v d o own r absent i new n;
        here = may_here own None (after_step (create own i) v) (lead_here own (Some i) (with_new i v) r.here);
        sound = new_sound i v r.sound;
        draft = draft_on v (step_part (unlink own) (after_step (create own i) v)) d (entered d (Failed (map_settle name) 1)) o r.draft refl refl (λ n j is e. made_names v d o own r absent i new n j e) (any_on v d o own r) (kept_free v d o own r absent i new) (node_on v d o own r absent i new);
      },
    )

  -- where a settle is after its first calls
  pub record Probed (probe : List Step) : Type 0 where
    pub along : Along (Within (under own (with_opened true) d)) v probe
    pub refines : Refines (after_steps v probe) (under own (with_opened true) d) o
    pub names : (e : Option ℕ) → v.names name ≡ e → (after_steps v probe).names name ≡ e
    pub lost : (j : ℕ) → v.names name ≡ Some j → (v.nodes j).lost ≡ [] → ((after_steps v probe).nodes j).lost ≡ []

  same_none : (i : ℕ) → v.names own ≡ None → (e : Option ℕ) → v.names name ≡ e → (new : IsNew v i)
      → (absent : v.names own ≡ None)
      → (after_step (unlink own) (after_step (create own i) v)).names name ≡ e
  same_none i none None is new absent =
      elim (cases_Bool (bytes_eq name own)) [
        | inl e ↦ ap (λ (m : List ℕ). (after_step (unlink own) (after_step (create own i) v)).names m) (is_name name own e) ∙ names_here own None (after_step (create own i) v)
        | inr e ↦ names_other own name None (after_step (create own i) v) (not_name name own e)
            ∙ names_other own name (Some i) (with_new i v) (not_name name own e) ∙ is
      ]
  same_none i none (Some j) is new absent = names_on v d o own r absent i new name j is

  pub probed : (probe : List Step) → Probes v name probe → Probed probe
  probed probe (inl is) = subst (λ (l : List Step). Probed l) (sym is) (record {
    along = trial_within v d o own r;
    refines = not_tried v d o own r;
    names = λ e is. is;
    lost = λ j is none. none;
  })
  probed probe (inr (absent, i, new, is)) = subst (λ (l : List Step). Probed l) (sym is) (record {
    along = probe_along v d o own r absent i new;
    refines = tried_refines v d o own r absent i new;
    names = λ e named. same_none i absent e named new absent;
    lost = λ j named none.
        ap (λ (f : Node). f.lost) (node_other i j (λ f. new_node) v (λ e. new.named name (named ∙ ap (λ (k : ℕ). Some k) e))) ∙ none;
  })

-- The syncs.

eqb_is : (k j : ℕ) → eqb k j ≡ true → k ≡ j
eqb_is k j e = elim (eqb_tells k j) [ inl is ↦ is.1 | inr is ↦ absurd (false≢true (sym is.0 ∙ e)) ]

only_shown : (file : Option File) (found : Option File) → found ≡ file → MayShow (only file) found
only_shown file found e = inr (inr (inl (subst (λ (f : Option File). MatchesFile file [] f) (sym e) (holds_self file []))))

pub one_among : (b : Bool) (e : Option ℕ) (es : List (Option ℕ)) → IsAmong e es → IsAmong e (cond b (e ∷ []) es)
one_among true e es h = inl refl
one_among false e es h = h

pub one_free : (b : Bool) (i : ℕ) (e : Option ℕ) (es : List (Option ℕ)) → IsAmong e es → Free i es
    → Free i (cond b (e ∷ []) es)
one_free true i e es is h = (free_at i e es h is, tt)
one_free false i e es is h = h

one_found : (nodes : ℕ → Node) (b : Bool) (e : Option ℕ) (es : List (Option ℕ)) (found : Option (List ℕ)) → IsAmong e es
    → LeavesOne nodes (cond b (e ∷ []) es) found → LeavesOne nodes es found
one_found nodes true e es found is (inl now) = finds_here nodes e es found is now
one_found nodes true e es found is (inr none) = absurd none
one_found nodes false e es found is h = h

module _ (v : Volume) (d : Disk) (o : Option ℕ) (name : List ℕ) (r : Refines v d o) (apart : d.reads.draft ≡ Some name → ⊥) where
  abbrev folder : List ℕ
  folder = folder_of name

  abbrev bare : Volume
  bare = after_step (sync_folder folder) v

  pub bare_within : Within d bare
  bare_within n found h =
      r.shows n found (one_found v.nodes (bytes_eq (folder_of n) folder) (v.names n) (v.may n) found (r.here n) h)

  bare_here : (n : List ℕ) → IsAmong (bare.names n) (bare.may n)
  bare_here n = one_among (bytes_eq (folder_of n) folder) (v.names n) (v.may n) (r.here n)

  bare_free : (i : ℕ) (draft : List ℕ) → Begun draft i v → (n : List ℕ) → (n ≡ draft → ⊥) → Free i (bare.may n)
  bare_free i draft b n a = one_free (bytes_eq (folder_of n) folder) i (v.names n) (v.may n) (r.here n) (b.apart n a)

  -- the folder's sync leaves one entry under the name
  one_entry : bare.may name ≡ v.names name ∷ []
  one_entry = cond-true (bytes_eq folder folder) (v.names name ∷ []) (v.may name) (own_name folder)

  -- the disk with the name's file durable
  abbrev sure : Disk
  sure = under name (λ file s. only file) d

  sure_anything : (n : List ℕ) (i : ℕ) → d.reads.draft ≡ Some n → IsTrue (d.shows n).anything
      → IsTrue (sure.shows n).anything
  sure_anything n i is any =
      ap (λ (s : Showing). s.anything)
      (cond-false (bytes_eq n name) (only (d.reads.files n)) (d.shows n)
      (other_name n name (λ e. apart (is ∙ ap (λ (m : List ℕ). Some m) e)))) ∙ any

  -- the name's file is found as it reads
  settled : (w : Volume) → Within d w → w.may name ≡ v.names name ∷ []
      → ((found : Option (List ℕ)) → LeavesEntry w.nodes (v.names name) found → as_file found ≡ d.reads.files name) → Within sure w
  settled w in_d may whole n found h =
      shown (bytes_eq n name) (only (d.reads.files n)) (d.shows n) (as_file found)
      (λ e. subst (λ (m : List ℕ). MayFind w m found → MayShow (only (d.reads.files m)) (as_file found)) (sym (is_name n name e))
      (λ g. let k : LeavesEntry w.nodes (v.names name) found ⊎ ⊥ = subst (λ (l : List (Option ℕ)). LeavesOne w.nodes l found) may g in
      elim k [ inl now ↦ only_shown (d.reads.files name) (as_file found) (whole found now) | inr none ↦ absurd none ]) h)
      (λ e. in_d n found h)

  -- after the syncs of an absent file
  pub synced_none : v.names name ≡ None → Along (Within d) v (Did (sync_folder folder) ∷ []) × Refines bare sure o
  synced_none is = (
    (r.shows, r.shows, bare_within),
    record {
      shows = settled bare bare_within one_entry
          (λ found h. ap as_file (whole_found v.nodes (v.names name) found
          (λ j e. absurd (no_entry j (sym is ∙ e))) h) ∙ sym (r.reads name));
      reads = r.reads;
      here = bare_here;
      sound = r.sound;
      draft = draft_on v bare d sure o r.draft refl refl (λ n i is e. e) sure_anything bare_free (λ i draft b h. h);
    },
  )

  module _ (j : ℕ) where
    abbrev firmed : Volume
    firmed = after_step (sync_file j) bare

    firmed_bytes : (k : ℕ) → (firmed.nodes k).bytes ≡ (v.nodes k).bytes
    firmed_bytes k = either_node (λ (f : Node). f.bytes ≡ (v.nodes k).bytes) (eqb k j) (synced (v.nodes k)) (v.nodes k) refl refl

    firmed_sound : (k : ℕ) → MayRead (firmed.nodes k) (firmed.nodes k).bytes
    firmed_sound k =
        either_node (λ (f : Node). MayRead f f.bytes) (eqb k j) (synced (v.nodes k)) (v.nodes k) (sound_synced (v.nodes k)) (r.sound k)

    abbrev half : Volume
    half = step_part (sync_file j) bare

    half_less : (k : ℕ) (found : List ℕ) → MayRead (half.nodes k) found → MayRead (v.nodes k) found
    half_less k found =
        either_node (λ (f : Node). MayRead f found → MayRead (v.nodes k) found) (eqb k j) (record (v.nodes k) { lost = (v.nodes k).loose }) (v.nodes k)
        (λ h. record { stands = h.stands; no_shorter = h.no_shorter; no_longer = h.no_longer }) (λ h. h)

    pub half_within : Within d half
    half_within n found h = bare_within n found (finds_less bare.nodes half.nodes half_less (bare.may n) found h)

    half_sound : (k : ℕ) → MayRead (half.nodes k) (half.nodes k).bytes
    half_sound k =
        either_node (λ (f : Node). MayRead f f.bytes) (eqb k j) (record (v.nodes k) { lost = (v.nodes k).loose }) (v.nodes k)
        (sound_lost (v.nodes k) (r.sound k)) (r.sound k)

    half_bytes : (k : ℕ) → (half.nodes k).bytes ≡ (v.nodes k).bytes
    half_bytes k = either_node (λ (f : Node). f.bytes ≡ (v.nodes k).bytes) (eqb k j) (record (v.nodes k) { lost = (v.nodes k).loose }) (v.nodes k) refl refl

    half_firm : (k : ℕ) (draft : List ℕ) → Begun draft k v → IsFirm (v.nodes k) → IsFirm (half.nodes k)
    half_firm k draft b h =
        either_node IsFirm (eqb k j) (record (v.nodes k) { lost = (v.nodes k).loose }) (v.nodes k)
        (record { loose = h.loose; durable = h.durable }) h

    -- after a sync of the file that failed
    pub half_refines : Refines half d o
    half_refines = record {
      shows = half_within;
      reads = λ n. r.reads n ∙ ap as_file (sym (read_bytes v.nodes half.nodes half_bytes (v.names n)));
      here = bare_here;
      sound = half_sound;
      draft = draft_on v half d d o r.draft refl refl (λ n i is e. e) (λ n i is any. any) bare_free half_firm;
    }

    module _ (is : v.names name ≡ Some j) (none : (v.nodes j).lost ≡ []) where
      firmed_node : IsFirm (firmed.nodes j)
      firmed_node = subst (λ (f : Node). IsFirm f) (sym (node_here j synced bare)) (synced_firm (v.nodes j) none)

      at_number : (k : ℕ) (found : List ℕ) → (b : Bool) → (b ≡ true → k ≡ j)
          → MayRead (cond b (synced (v.nodes k)) (v.nodes k)) found
          → MayRead (v.nodes k) found
      at_number k found true same h =
          let lost : (v.nodes k).lost ≡ [] = ap (λ (m : ℕ). (v.nodes m).lost) (same refl) ∙ none in
          let bytes : found ≡ (v.nodes k).bytes = firm_found (synced (v.nodes k)) found (synced_firm (v.nodes k) lost) h in
          subst (λ (b : List ℕ). MayRead (v.nodes k) b) (sym bytes) (r.sound k)
      at_number k found false same h = h

      firmed_less : (k : ℕ) (found : List ℕ) → MayRead (firmed.nodes k) found → MayRead (v.nodes k) found
      firmed_less k found h = at_number k found (eqb k j) (λ e. eqb_is k j e) h

      firmed_within : Within d firmed
      firmed_within n found h = bare_within n found (finds_less bare.nodes firmed.nodes firmed_less (bare.may n) found h)

      number_firm : (b : Bool) (k : ℕ) → (b ≡ true → k ≡ j) → IsFirm (v.nodes k)
          → IsFirm (cond b (synced (v.nodes k)) (v.nodes k))
      number_firm true k same h = synced_firm (v.nodes k) (ap (λ (m : ℕ). (v.nodes m).lost) (same refl) ∙ none)
      number_firm false k same h = h

      pub synced_some : Along (Within d) v (Did (sync_folder folder) ∷ Did (sync_file j) ∷ []) × Refines firmed sure o
      synced_some = (
        (r.shows, r.shows, (bare_within, half_within, firmed_within)),
        record {
          shows = settled firmed firmed_within one_entry
              (λ found h. ap as_file (whole_found firmed.nodes (v.names name) found
              (λ k e. let same : j ≡ k = (let t : Some j ≡ Some k = sym is ∙ e in cc) in
              subst (λ (m : ℕ). IsFirm (firmed.nodes m)) same firmed_node) h)
              ∙ ap as_file (read_bytes v.nodes firmed.nodes firmed_bytes (v.names name)) ∙ sym (r.reads name));
          reads = λ n. r.reads n ∙ ap as_file (sym (read_bytes v.nodes firmed.nodes firmed_bytes (v.names n)));
          here = bare_here;
          sound = firmed_sound;
          draft = draft_on v firmed d sure o r.draft refl refl (λ n i is e. e) sure_anything bare_free
              (λ i draft b h. number_firm (eqb i j) i (λ e. eqb_is i j e) h);
        },
      )

  -- the folder alone was synced
  pub bare_refines : Refines bare d o
  bare_refines = record {
    shows = bare_within;
    reads = r.reads;
    here = bare_here;
    sound = r.sound;
    draft = draft_on v bare d d o r.draft refl refl (λ n i is e. e) (λ n i is any. any) bare_free (λ i draft b h. h);
  }

  pub syncs_by : (e : Option ℕ) (es : List Step) → v.names name ≡ e → Syncs v name e es
      → Along (Within d) v es × Refines (after_steps v es) sure o
  syncs_by None es is made =
      subst (λ (l : List Step). Along (Within d) v l × Refines (after_steps v l) sure o) (sym made) (synced_none is)
  syncs_by (Some j) es is made =
      subst (λ (l : List Step). Along (Within d) v l × Refines (after_steps v l) sure o) (sym made.1) (synced_some j is made.0)

-- The whole.

-- the syncs after the first calls
syncs_after : (v w : Volume) (name : List ℕ) (e : Option ℕ) (es : List Step)
    → ((j : ℕ) → e ≡ Some j → (v.nodes j).lost ≡ [] → (w.nodes j).lost ≡ []) → Syncs v name e es → Syncs w name e es
syncs_after v w name None es lost h = h
syncs_after v w name (Some j) es lost h = (lost j refl h.0, h.1)

module _ (v : Volume) (d : Disk) (o : Option ℕ) (name : List ℕ) (r : Refines v d o) (apart : d.reads.draft ≡ Some name → ⊥) where
  abbrev trying : Disk
  trying = under (draft_of name) (with_opened true) d

  pub settles : (es : List Step) → Settles v name es → Keeps v d (map_settle name) es o
  settles es (probe, syncs, probes, made, is) =
      let p : Probed v d o name r probe = probed v d o name r probe probes in
      let w : Volume = after_steps v probe in
      let s : Syncs w name (v.names name) syncs =
      syncs_after v w name (v.names name) syncs (λ j named none. p.lost j named none) made in
      let h = syncs_by w trying o name p.refines apart (v.names name) syncs (p.names (v.names name) refl) s in
      subst (λ (l : List Step). Keeps v d (map_settle name) l o) (sym is) (
        along_append (Within trying) v probe syncs p.along h.0,
        let k : Refines (after_steps w syncs) (entered d (Done (map_settle name))) o =
            record { shows = h.1.shows; reads = h.1.reads; here = h.1.here; sound = h.1.sound; draft = h.1.draft } in
            subst (λ (u : Volume). Refines u (entered d (Done (map_settle name))) o) (sym (run_append v probe syncs)) k,
      )

  fails_after : (probe es : List Step) → Along (Within trying) v probe
      → Along (Within trying) (after_steps v probe) es × Refines (after_steps (after_steps v probe) es) trying o
      → Fails v d (map_settle name) 0 (probe ++ es) o
  fails_after probe es along h = (
    along_append (Within trying) v probe es along h.0,
    let w : Volume = after_steps v probe in
        let k : Refines (after_steps w es) (entered d (Failed (map_settle name) 0)) o =
        record { shows = h.1.shows; reads = h.1.reads; here = h.1.here; sound = h.1.sound; draft = h.1.draft } in
        subst (λ (u : Volume). Refines u (entered d (Failed (map_settle name) 0)) o) (sym (run_append v probe es)) k,
  )

  by_steps : (steps was : ℕ) (es fs : List Step) → steps ≡ was → es ≡ fs → Fails v d (map_settle name) was fs o
      → Fails v d (map_settle name) steps es o
  by_steps steps was es fs e f h =
      subst (λ (k : ℕ). Fails v d (map_settle name) k es o) (sym e)
      (subst (λ (l : List Step). Fails v d (map_settle name) was l o) (sym f) h)

  pub breaks_settle : (k : Option ℕ) (steps : ℕ) (es : List Step) → BreaksSettle v k name steps es
      → Fails v d (map_settle name) steps es o
  breaks_settle k steps es (inl h) =
      let q : Refines v trying o = not_tried v d o (draft_of name) r in
      by_steps steps 0 es [] h.0 h.1
      (q.shows, record { shows = q.shows; reads = q.reads; here = q.here; sound = q.sound; draft = q.draft })
  breaks_settle k steps es (inr (inl (absent, i, new, inl h))) =
      by_steps steps 0 es (Broke (create (draft_of name) i) ∷ []) h.0 h.1 (fails_unmade v d o name r absent i new)
  breaks_settle k steps es (inr (inl (absent, i, new, inr (once, inl is)))) =
      by_steps steps 1 es (Did (create (draft_of name) i) ∷ []) once is (fails_left v d o name r absent i new)
  breaks_settle k steps es (inr (inl (absent, i, new, inr (once, inr is)))) =
      by_steps steps 1 es (Did (create (draft_of name) i) ∷ Broke (unlink (draft_of name)) ∷ []) once is
      (fails_kept v d o name r absent i new)
  breaks_settle k steps es (inr (inr (probe, zero_steps, probes, inl is))) =
      let p : Probed v d o name r probe = probed v d o name r probe probes in
      by_steps steps 0 es (probe ++ []) zero_steps is (fails_after probe [] p.along (p.refines.shows, p.refines))
  breaks_settle k steps es (inr (inr (probe, zero_steps, probes, inr (inl is)))) =
      let p : Probed v d o name r probe = probed v d o name r probe probes in
      by_steps steps 0 es (probe ++ Broke (sync_folder (folder_of name)) ∷ []) zero_steps is
      (fails_after probe (Broke (sync_folder (folder_of name)) ∷ []) p.along ((p.refines.shows, p.refines.shows, p.refines.shows), p.refines))
  breaks_settle k steps es (inr (inr (probe, zero_steps, probes, inr (inr (inl is))))) =
      let p : Probed v d o name r probe = probed v d o name r probe probes in
      let w : Volume = after_steps v probe in
      by_steps steps 0 es (probe ++ Did (sync_folder (folder_of name)) ∷ []) zero_steps is
      (fails_after probe (Did (sync_folder (folder_of name)) ∷ []) p.along
      ((p.refines.shows, p.refines.shows, bare_within w trying o name p.refines apart), bare_refines w trying o name p.refines apart))
  breaks_settle k steps es (inr (inr (probe, zero_steps, probes, inr (inr (inr (j, other, is)))))) =
      let p : Probed v d o name r probe = probed v d o name r probe probes in
      let w : Volume = after_steps v probe in
      let q : Refines w trying o = p.refines in
      by_steps steps 0 es (probe ++ Did (sync_folder (folder_of name)) ∷ Broke (sync_file j) ∷ []) zero_steps is
      (fails_after probe (Did (sync_folder (folder_of name)) ∷ Broke (sync_file j) ∷ []) p.along (
        (q.shows, q.shows, (bare_within w trying o name q apart, half_within w trying o name q apart j, half_within w trying o name q apart j)),
        half_refines w trying o name q apart j,
      ))
