-- The image's opening.
use Rattle.std.proofs.Common.{◌≡◌, ◌⊎◌, inl, inr, ℕ, Bool, true, false, IsTrue, List, [], ◌∷◌, Option, Some, None, refl, sym, ◌∙◌, ap, subst}
use Rattle.std.specs.Str.{bytes_eq}
use Rattle.std.proofs.lemmas.Bool.{cases_Bool, cond-false, cond-true}
use Rattle.kernel_files.specs.Volume.{Node, Volume, new_node, create, Entry as Step, Done as Did, Failed as Broke, after_done as after_step, after_part as step_part, LeavesOne, IsNew}
use Rattle.kernel_files.specs.Stops.{Along}
use Rattle.kernel_files.proofs.Volumes.{own_name, node_here, may_here as may_made}
use Rattle.crash_site.specs.Files.{File, empty_file, put}
use Rattle.crash_site.specs.Calls.{Failed, image_open}
use Rattle.crash_site.specs.Folder.{Folder, opened}
use Rattle.crash_site.specs.Disk.{Version, Showing, Disk, or_this, newest, lost_in, with_opened, under, entered}
use Rattle.crash_site.specs.Left.{Matches, MatchesFile, MatchesOne, MayShow}
use Rattle.crash_site.proofs.DiskLemmas.{holds_self}
use Rattle.kernel_laws.specs.Refines.{as_file, read_at, Within, IsAmong, IsFirm, Begun, Refines, Covers, CoversEntry, CoversOne, IsCovered}
use Rattle.kernel_files.specs.ImageCalls.{BreaksOpen}
use Rattle.kernel_laws.specs.Calls.{Opens}
use Rattle.kernel_laws.proofs.Nodes.{file_with, firm_reads}
use Rattle.kernel_laws.proofs.Names.{shown, lead_here, may_here, with_new, new_reads, new_sound, begun_new}
use Rattle.kernel_laws.proofs.Settles.{draft_on, trial_within, any_on, half_made, made_within, made_names, made_free, node_on, made_reads}
use Rattle.kernel_laws.proofs.Covers.{inside_none, inside_same}
use Rattle.kernel_laws.proofs.ImageCalls.{KeepsAll, FailsAll}

-- What may be shown of a firm file, or of none, is covered.

firm_one : (nodes : ℕ → Node) (i : ℕ) → IsFirm (nodes i) → (ws : List Version)
    → MatchesOne ws (Some (file_with (nodes i).bytes))
    → CoversOne nodes (Some i) ws
firm_one nodes i firm [] h = absurd h
firm_one nodes i firm (w ∷ ws) (inl h) = inl (one w.file h)
  where
    one : (file : Option File) → MatchesFile file w.loose (Some (file_with (nodes i).bytes))
        → CoversEntry nodes (Some i) file w.loose
    one None h = absurd h
    one (Some was) h = record {
      durable = subst (λ (b : List ℕ). Matches was w.loose (file_with b)) (sym firm.durable) h;
      loose = inside_none (nodes i).loose w.loose firm.loose;
    }
firm_one nodes i firm (w ∷ ws) (inr h) = inr (firm_one nodes i firm ws h)

firm_covered : (nodes : ℕ → Node) (i : ℕ) (s : Showing) → IsFirm (nodes i)
    → MayShow s (Some (file_with (nodes i).bytes)) → IsCovered nodes (Some i) s
firm_covered nodes i s firm (inl any) = inl any
firm_covered nodes i s firm (inr (inl text)) = inr (inl text.0)
firm_covered nodes i s firm (inr (inr h)) = inr (inr (firm_one nodes i firm (s.durable ∷ s.since) h))

none_one : (nodes : ℕ → Node) (ws : List Version) → MatchesOne ws None → CoversOne nodes None ws
none_one nodes [] h = absurd h
none_one nodes (w ∷ ws) (inl h) = inl (one w.file h)
  where
    one : (file : Option File) → MatchesFile file w.loose None → CoversEntry nodes None file w.loose
    one None h = tt
    one (Some was) h = absurd h
none_one nodes (w ∷ ws) (inr h) = inr (none_one nodes ws h)

none_covered : (nodes : ℕ → Node) (s : Showing) → MayShow s None → IsCovered nodes None s
none_covered nodes s (inl any) = inl any
none_covered nodes s (inr (inl text)) = absurd text.1
none_covered nodes s (inr (inr h)) = inr (none_one nodes (s.durable ∷ s.since) h)

-- a version more
none_more : (nodes : ℕ → Node) (file : Option File) (s : Showing) → IsCovered nodes None s
    → IsCovered nodes None (or_this file s)
none_more nodes file s (inl any) = inl any
none_more nodes file s (inr (inl c)) = inr (inl c)
none_more nodes file s (inr (inr c)) = inr (inr (inr c))

-- an open that makes nothing shows the same
same_opened : (make : Bool) (file : Option File) (f : File) (s : Showing) → file ≡ Some f → with_opened make file s ≡ s
same_opened true file f s is = ap (λ (x : Option File). with_opened true x s) is
same_opened false file f s is = refl

module _ (v : Volume) (d : Disk) (o : Option ℕ) (name : List ℕ) (r : Refines v d o) where
  -- the disk while the image is opened
  abbrev opening : Bool → Disk
  opening make = under name (with_opened make) d

  opening_within : (make : Bool) → Within (opening make) v
  opening_within true n found h = trial_within v d o name r n found h
  opening_within false n found h =
      shown (bytes_eq n name) (d.shows n) (d.shows n) (as_file found) (λ e. r.shows n found h) (λ e. r.shows n found h)

  opening_any : (make : Bool) (n : List ℕ) (i : ℕ) → d.reads.draft ≡ Some n → IsTrue (d.shows n).anything
      → IsTrue ((opening make).shows n).anything
  opening_any true n i is any = any_on v d o name r n i is any
  opening_any false n i is any =
      elim (cases_Bool (bytes_eq n name)) [
        | inl e ↦ ap (λ (s : Showing). s.anything) (cond-true (bytes_eq n name) (d.shows n) (d.shows n) e) ∙ any
        | inr e ↦ ap (λ (s : Showing). s.anything) (cond-false (bytes_eq n name) (d.shows n) (d.shows n) e) ∙ any
      ]

  -- nothing was made
  unmade : (make : Bool) (reads : Folder) → reads.draft ≡ d.reads.draft → ((n : List ℕ) → reads.files n ≡ d.reads.files n)
      → Refines v (record (opening make) { reads = reads }) o
  unmade make reads draft same = record {
    shows = opening_within make;
    reads = λ n. same n ∙ r.reads n;
    here = r.here;
    sound = r.sound;
    draft = draft_on v v d (record (opening make) { reads = reads }) o r.draft draft refl (λ n i is e. e) (opening_any make)
        (λ i draft b. b.apart) (λ i draft b h. h);
  }

  -- An image that is there.

  module _ (make : Bool) (i : ℕ) (b : Begun name i v) (firm : IsFirm (v.nodes i)) (none : (v.nodes i).lost ≡ [])
      (apart : d.reads.draft ≡ Some name → ⊥) (may : v.may name ≡ v.names name ∷ []) where
    there : d.reads.files name ≡ Some (file_with (v.nodes i).bytes)
    there = r.reads name ∙ ap (λ (e : Option ℕ). as_file (read_at v.nodes e)) b.named

    found_reads : opened d.reads name make (d.reads.files name)
        ≡ record { files = d.reads.files; image = Some name; draft = d.reads.draft }
    found_reads = ap (λ (f : Option File). opened d.reads name make f) there

    same_shows : (opening make).shows name ≡ d.shows name
    same_shows =
        cond-true (bytes_eq name name) (with_opened make (d.reads.files name) (d.shows name)) (d.shows name) (own_name name)
        ∙ same_opened make (d.reads.files name) (file_with (v.nodes i).bytes) (d.shows name) there

    one_entry : v.may name ≡ Some i ∷ []
    one_entry = may ∙ ap (λ (e : Option ℕ). e ∷ []) b.named

    is_one : (x : Option ℕ) → IsAmong x (v.may name) → x ≡ Some i
    is_one x is =
        let k : (x ≡ Some i) ⊎ ⊥ = subst (λ (l : List (Option ℕ)). IsAmong x l) one_entry is in
        elim k [ inl e ↦ e | inr bad ↦ absurd bad ]

    there_covered : IsCovered v.nodes (Some i) (d.shows name)
    there_covered =
        firm_covered v.nodes i (d.shows name) firm
        (r.shows name (Some (v.nodes i).bytes)
        (subst (λ (l : List (Option ℕ)). LeavesOne v.nodes l (Some (v.nodes i).bytes)) (sym one_entry) (inl (firm_reads (v.nodes i) firm))))

    pub opens_there : KeepsAll v d (image_open name make) [] o (Some i)
    opens_there = (
      opening_within make,
      record {
        files = unmade make (opened d.reads name make (d.reads.files name))
            (ap (λ (q : Folder). q.draft) found_reads)
            (λ n. ap (λ (q : Folder). q.files n) found_reads);
        image = (
          name,
          record {
            image = ap (λ (q : Folder). q.image) found_reads;
            draft = λ is. apart (sym (ap (λ (q : Folder). q.draft) found_reads) ∙ is);
            begun = b;
            own = λ x is. inr (is_one x is);
            covered = λ x is.
                subst (λ (y : Option ℕ). IsCovered v.nodes y ((opening make).shows name)) (sym (is_one x is))
                (subst (λ (s : Showing). IsCovered v.nodes (Some i) s) (sym same_shows) there_covered);
            loose = inside_none (v.nodes i).loose (newest ((opening make).shows name).durable ((opening make).shows name).since).loose firm.loose;
            lost = inside_none (v.nodes i).lost (lost_in ((opening make).shows name)) none;
            ordered = inside_none (v.nodes i).lost (v.nodes i).loose none;
          },
        );
      },
    )

  -- An image that is absent.

  module _ (absent : v.names name ≡ None) where
    nothing : d.reads.files name ≡ None
    nothing = r.reads name ∙ ap (λ (e : Option ℕ). as_file (read_at v.nodes e)) absent

    absent_reads : opened d.reads name false (d.reads.files name)
        ≡ record { files = d.reads.files; image = None; draft = d.reads.draft }
    absent_reads = ap (λ (f : Option File). opened d.reads name false f) nothing

    pub opens_none : KeepsAll v d (image_open name false) [] o None
    opens_none = (
      opening_within false,
      record {
        files = unmade false (opened d.reads name false (d.reads.files name))
            (ap (λ (q : Folder). q.draft) absent_reads)
            (λ n. ap (λ (q : Folder). q.files n) absent_reads);
        image = ap (λ (q : Folder). q.image) absent_reads;
      },
    )

    module _ (i : ℕ) (new : IsNew v i) where
      abbrev made : Volume
      made = after_step (create name i) v

      new_opened : opened d.reads name true (d.reads.files name)
          ≡ record { files = put d.reads.files name (Some empty_file); image = Some name; draft = d.reads.draft }
      new_opened = ap (λ (f : Option File). opened d.reads name true f) nothing

      along : Along (Within (opening true)) v (Did (create name i) ∷ [])
      along = (trial_within v d o name r, half_made v d o name r absent i new, made_within v d o name r absent i new)

      made_refines : (reads : Folder) → reads.draft ≡ d.reads.draft
          → ((n : List ℕ) → reads.files n ≡ put d.reads.files name (Some empty_file) n)
          → Refines made (record (opening true) { reads = reads }) o
      made_refines reads draft same = record {
        shows = made_within v d o name r absent i new;
        reads = λ n. same n ∙ made_reads v d o name r absent i new n;
        here = lead_here name (Some i) (with_new i v) r.here;
        sound = new_sound i v r.sound;
        draft = draft_on v made d (record (opening true) { reads = reads }) o r.draft draft refl
            (λ n j is e. made_names v d o name r absent i new n j e) (any_on v d o name r) (made_free v d o name r absent i new)
            (node_on v d o name r absent i new);
      }

      node_is : made.nodes i ≡ new_node
      node_is = node_here i (λ f. new_node) v

      new_shows : (opening true).shows name ≡ or_this (Some empty_file) (d.shows name)
      new_shows =
          cond-true (bytes_eq name name) (with_opened true (d.reads.files name) (d.shows name)) (d.shows name) (own_name name)
          ∙ ap (λ (f : Option File). with_opened true f (d.shows name)) nothing

      new_covers : Covers new_node empty_file []
      new_covers = record { durable = holds_self (Some empty_file) []; loose = inside_same [] }

      new_covered : (x : Option ℕ) → (x ≡ Some i) ⊎ ((x ≡ None) ⊎ ⊥) → (v.may name ≡ None ∷ [])
          → IsCovered made.nodes x (or_this (Some empty_file) (d.shows name))
      new_covered x (inl is) may =
          subst (λ (y : Option ℕ). IsCovered made.nodes y (or_this (Some empty_file) (d.shows name))) (sym is)
          (inr (inr (inr (inl (subst (λ (f : Node). Covers f empty_file []) (sym node_is) new_covers)))))
      new_covered x (inr (inl is)) may =
          subst (λ (y : Option ℕ). IsCovered made.nodes y (or_this (Some empty_file) (d.shows name))) (sym is)
          (none_more made.nodes (Some empty_file) (d.shows name) (none_covered made.nodes (d.shows name)
          (r.shows name None (subst (λ (l : List (Option ℕ)). LeavesOne v.nodes l None) (sym may) (inl tt)))))
      new_covered x (inr (inr bad)) may = absurd bad

      pub opens_new : (d.reads.draft ≡ Some name → ⊥) → v.may name ≡ v.names name ∷ []
          → KeepsAll v d (image_open name true) (Did (create name i) ∷ []) o (Some i)
      opens_new apart may =
          let old : v.may name ≡ None ∷ [] = may ∙ ap (λ (e : Option ℕ). e ∷ []) absent in
          let entries : made.may name ≡ Some i ∷ None ∷ [] =
          may_made name (Some i) (with_new i v) ∙ ap (λ (es : List (Option ℕ)). Some i ∷ es) old in
          let among : (x : Option ℕ) → IsAmong x (made.may name) → (x ≡ Some i) ⊎ ((x ≡ None) ⊎ ⊥) =
          λ x is. subst (λ (l : List (Option ℕ)). IsAmong x l) entries is in (
            along,
            record {
              files = made_refines (opened d.reads name true (d.reads.files name))
                  (ap (λ (q : Folder). q.draft) new_opened)
                  (λ n. ap (λ (q : Folder). q.files n) new_opened);
              image = (
                name,
                record {
                  image = ap (λ (q : Folder). q.image) new_opened;
                  draft = λ is. apart (sym (ap (λ (q : Folder). q.draft) new_opened) ∙ is);
                  begun = begun_new name i v new;
                  own = λ x is. elim (among x is) [
                    | inl e ↦ inr e
                    | inr more ↦ elim more [ inl e ↦ inl e | inr bad ↦ absurd bad ]
                  ];
                  covered = λ x is. subst (λ (s : Showing). IsCovered made.nodes x s) (sym new_shows) (new_covered x (among x is) old);
                  loose = inside_none (made.nodes i).loose (newest ((opening true).shows name).durable ((opening true).shows name).since).loose
                      (ap (λ (f : Node). f.loose) node_is);
                  lost = inside_none (made.nodes i).lost (lost_in ((opening true).shows name)) (ap (λ (f : Node). f.lost) node_is);
                  ordered = inside_none (made.nodes i).lost (made.nodes i).loose (ap (λ (f : Node). f.lost) node_is);
                },
              );
            },
          )

      pub open_half : FailsAll v d (image_open name true) 0 (Broke (create name i) ∷ []) o None
      open_half = (
        (trial_within v d o name r, half_made v d o name r absent i new, half_made v d o name r absent i new),
        record {
          files = record {
            shows = half_made v d o name r absent i new;
            reads = λ n. r.reads n ∙ new_reads i v new n;
            here = may_here name (Some i) (with_new i v) r.here;
            sound = new_sound i v r.sound;
            draft = draft_on v (step_part (create name i) v) d (entered d (Failed (image_open name true) 0)) o r.draft refl refl
                (λ n j is e. e) (any_on v d o name r) (made_free v d o name r absent i new) (node_on v d o name r absent i new);
          };
          image = refl;
        },
      )

      pub open_made : FailsAll v d (image_open name true) 1 (Did (create name i) ∷ []) o None
      open_made = (
        along,
        record {
          files = made_refines (entered d (Failed (image_open name true) 1)).reads refl
              (λ n. ap (λ (q : Folder). q.files n) new_opened);
          image = refl;
        },
      )

  pub opens : (make : Bool) (es : List Step) (q : Option ℕ) → Opens v d.reads name make es q
      → KeepsAll v d (image_open name make) es o q
  opens make es q (apart, may, inl (i, b, firm, none, is, as_q)) =
      subst (λ (l : List Step). KeepsAll v d (image_open name make) l o q) (sym is)
      (subst (λ (x : Option ℕ). KeepsAll v d (image_open name make) [] o x) (sym as_q) (opens_there make i b firm none apart may))
  opens make es q (apart, may, inr (inl (i, absent, made, new, is, as_q))) =
      subst (λ (m : Bool). KeepsAll v d (image_open name m) es o q) (sym made)
      (subst (λ (l : List Step). KeepsAll v d (image_open name true) l o q) (sym is)
      (subst (λ (x : Option ℕ). KeepsAll v d (image_open name true) (Did (create name i) ∷ []) o x) (sym as_q)
      (opens_new absent i new apart may)))
  opens make es q (apart, may, inr (inr (absent, unasked, is, as_q))) =
      subst (λ (m : Bool). KeepsAll v d (image_open name m) es o q) (sym unasked)
      (subst (λ (l : List Step). KeepsAll v d (image_open name false) l o q) (sym is)
      (subst (λ (x : Option ℕ). KeepsAll v d (image_open name false) [] o x) (sym as_q) (opens_none absent)))

  pub breaks_open : (make : Bool) (steps : ℕ) (es : List Step) → BreaksOpen v name make steps es
      → FailsAll v d (image_open name make) steps es o None
  breaks_open make steps es (inl (none, is)) =
      subst (λ (k : ℕ). FailsAll v d (image_open name make) k es o None) (sym none)
      (subst (λ (l : List Step). FailsAll v d (image_open name make) 0 l o None) (sym is) (
        opening_within make,
        record {
          files = unmade make (entered d (Failed (image_open name make) 0)).reads refl (λ n. refl);
          image = refl;
        },
      ))
  breaks_open make steps es (inr (i, absent, asked, new, inl (none, is))) =
      subst (λ (m : Bool). FailsAll v d (image_open name m) steps es o None) (sym asked)
      (subst (λ (k : ℕ). FailsAll v d (image_open name true) k es o None) (sym none)
      (subst (λ (l : List Step). FailsAll v d (image_open name true) 0 l o None) (sym is) (open_half absent i new)))
  breaks_open make steps es (inr (i, absent, asked, new, inr (one, is))) =
      subst (λ (m : Bool). FailsAll v d (image_open name m) steps es o None) (sym asked)
      (subst (λ (k : ℕ). FailsAll v d (image_open name true) k es o None) (sym one)
      (subst (λ (l : List Step). FailsAll v d (image_open name true) 1 l o None) (sym is) (open_made absent i new)))
