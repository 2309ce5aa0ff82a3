-- The beginning of a draft.
use Rattle.std.proofs.Common.{◌≡◌, inl, inr, ℕ, true, false, IsTrue, List, [], ◌∷◌, Option, Some, None, refl, sym, ◌∙◌, ap, subst}
use Rattle.std.specs.Str.{bytes_eq}
use Rattle.std.proofs.lemmas.Bool.{cond-true, false≢true}
use Rattle.kernel_files.specs.Volume.{Node, Volume, new_node, create, unlink, Entry as Step, Done as Did, Failed as Broke, lead, may_lead, after as after_steps, after_done as after_step, after_part as step_part, MayRead, IsNew}
use Rattle.kernel_files.specs.Stops.{Along}
use Rattle.kernel_files.proofs.Volumes.{own_name, node_here}
use Rattle.crash_site.specs.Files.{empty_file, put}
use Rattle.crash_site.specs.Calls.{Call, Done, Failed, draft_begin}
use Rattle.crash_site.specs.Folder.{Folder}
use Rattle.crash_site.specs.Disk.{Showing, Disk, under, with_draft, entered}
use Rattle.crash_site.specs.Left.{MayShow}
use Rattle.kernel_laws.specs.Refines.{as_file, files_of, Within, IsAmong, Refines}
use Rattle.kernel_files.specs.MapCalls.{Begins, BreaksBegin}
use Rattle.kernel_laws.proofs.Names.{shown, lead_within, may_within, lead_here, may_here, lead_reads, others_read, put_reads, with_new, new_within, new_reads, new_sound, begun_new}

-- what a call has to show: if it returned, and if it failed
abbrev pub Keeps : Volume → Disk → Call → List Step → Option ℕ → Type 0
Keeps v d call es p = Along (Within (entered d (Failed call 0))) v es × Refines (after_steps v es) (entered d (Done call)) p

abbrev pub Fails : Volume → Disk → Call → ℕ → List Step → Option ℕ → Type 0
Fails v d call steps es p = Along (Within (entered d (Failed call steps))) v es
    × Refines (after_steps v es) (entered d (Failed call steps)) p

pub own_anything : (d : Disk) (name : List ℕ) → IsTrue ((under name with_draft d).shows name).anything
own_anything d name =
    ap (λ (s : Showing). s.anything)
    (cond-true (bytes_eq name name) (with_draft (d.reads.files name) (d.shows name)) (d.shows name) (own_name name))

pub draft_within : (d : Disk) (name : List ℕ) (v : Volume) → Within d v → Within (under name with_draft d) v
draft_within d name v in_d n found h =
    shown (bytes_eq n name) (with_draft (d.reads.files n) (d.shows n)) (d.shows n) (as_file found) (λ e. inl refl)
    (λ e. in_d n found h)

-- all but a draft's name follows the files
pub record Others (name : List ℕ) (d : Disk) (u : Volume) : Type 0 where
  pub shows : Within (under name with_draft d) u
  pub reads : (n : List ℕ) → (n ≡ name → ⊥) → d.reads.files n ≡ files_of u n
  pub here : (n : List ℕ) → IsAmong (u.names n) (u.may n)
  pub sound : (i : ℕ) → MayRead (u.nodes i) (u.nodes i).bytes

module _ (name : List ℕ) (d : Disk) where
  any_shown : (found : Option (List ℕ)) → MayShow ((under name with_draft d).shows name) (as_file found)
  any_shown found = inl (own_anything d name)

  pub others_of : (v : Volume) (o : Option ℕ) → Refines v d o → Others name d v
  others_of v o r = record { shows = draft_within d name v r.shows; reads = λ n a. r.reads n; here = r.here; sound = r.sound }

  pub others_lead : (e : Option ℕ) (u : Volume) → Others name d u → Others name d (lead name e u)
  others_lead e u h = record {
    shows = lead_within (under name with_draft d) name e u h.shows (λ found _. any_shown found);
    reads = λ n a. h.reads n a ∙ others_read name n e u a;
    here = lead_here name e u h.here;
    sound = h.sound;
  }

  pub others_may : (e : Option ℕ) (u : Volume) → Others name d u → Others name d (may_lead name e u)
  others_may e u h = record {
    shows = may_within (under name with_draft d) name e u h.shows (λ found _. any_shown found);
    reads = h.reads;
    here = may_here name e u h.here;
    sound = h.sound;
  }

  pub others_new : (i : ℕ) (u : Volume) → IsNew u i → Others name d u → Others name d (with_new i u)
  others_new i u new h = record {
    shows = new_within (under name with_draft d) i u new h.shows;
    reads = λ n a. h.reads n a ∙ new_reads i u new n;
    here = h.here;
    sound = new_sound i u h.sound;
  }

  -- the disk after a begin, well or not
  abbrev pub begun_disk : Folder → Disk
  begun_disk reads = record (under name with_draft d) { reads = reads; firm = false }

  pub refines_others : (u : Volume) (reads : Folder) → Others name d u → ((n : List ℕ) → reads.files n ≡ files_of u n)
      → Refines u (begun_disk reads) None
  refines_others u reads h same = record { shows = h.shows; reads = same; here = h.here; sound = h.sound; draft = tt }

  -- the file is made
  created : (i : ℕ) (u : Volume) → IsNew u i → Others name d u
      → Others name d (after_step (create name i) u)
  created i u new h = others_lead (Some i) (with_new i u) (others_new i u new h)

  half_created : (i : ℕ) (u : Volume) → IsNew u i → Others name d u → Others name d (step_part (create name i) u)
  half_created i u new h = others_may (Some i) (with_new i u) (others_new i u new h)

  created_reads : (i : ℕ) (u : Volume) → IsNew u i → Others name d u
      → (n : List ℕ) → put d.reads.files name (Some empty_file) n ≡ files_of (after_step (create name i) u) n
  created_reads i u new h =
      put_reads d.reads.files name (Some empty_file) (after_step (create name i) u) (created i u new h).reads
      (ap (λ (f : Node). Some (record { bytes = f.bytes; regular = true })) (sym (node_here i (λ f. new_node) u))
      ∙ sym (lead_reads name (Some i) (with_new i u)))

  created_refines : (i : ℕ) (u : Volume) → IsNew u i → Others name d u
      → Refines (after_step (create name i) u) (entered d (Done (draft_begin name))) (Some i)
  created_refines i u new h = record {
    shows = (created i u new h).shows;
    reads = created_reads i u new h;
    here = (created i u new h).here;
    sound = (created i u new h).sound;
    draft = (name, refl, begun_new name i u new, own_anything d name, λ e. absurd (false≢true e));
  }

  removed : (v : Volume) → Others name d v → Others name d (after_step (unlink name) v)
  removed v h = others_lead None v h

  removed_reads : (v : Volume) → Others name d v → (n : List ℕ)
      → put d.reads.files name None n ≡ files_of (after_step (unlink name) v) n
  removed_reads v h =
      put_reads d.reads.files name None (after_step (unlink name) v) (removed v h).reads (sym (lead_reads name None v))

  pub begins : (v : Volume) (o : Option ℕ) (i : ℕ) (es : List Step) → Refines v d o → Begins v name i es
      → Keeps v d (draft_begin name) es (Some i)
  begins v o i es r (inl h) =
      let a : Others name d v = others_of v o r in
      subst (λ (l : List Step). Keeps v d (draft_begin name) l (Some i)) (sym h.2)
      ((a.shows, (half_created i v h.1 a).shows, (created i v h.1 a).shows), created_refines i v h.1 a)
  begins v o i es r (inr h) =
      let a : Others name d v = others_of v o r in
      let u : Volume = after_step (unlink name) v in
      let b : Others name d u = removed v a in
      subst (λ (l : List Step). Keeps v d (draft_begin name) l (Some i)) (sym h.1) (
        (a.shows, (others_may None v a).shows, (b.shows, (half_created i u h.0 b).shows, (created i u h.0 b).shows)),
        created_refines i u h.0 b,
      )

  -- A begin that failed.

  fails_by : (v : Volume) (steps was : ℕ) (es fs : List Step) → steps ≡ was → es ≡ fs
      → Fails v d (draft_begin name) was fs None
      → Fails v d (draft_begin name) steps es None
  fails_by v steps was es fs e f h =
      subst (λ (k : ℕ). Fails v d (draft_begin name) k es None) (sym e)
      (subst (λ (l : List Step). Fails v d (draft_begin name) was l None) (sym f) h)

  ends_begun : (v : Volume) (i : ℕ) (es : List Step) → Keeps v d (draft_begin name) es (Some i)
      → Fails v d (draft_begin name) 2 es None
  ends_begun v i es h = (
    h.0,
    record {
      shows = h.1.shows;
      reads = h.1.reads;
      here = h.1.here;
      sound = h.1.sound;
      draft = tt;
    },
  )

  pub breaks_begin : (v : Volume) (o : Option ℕ) (steps : ℕ) (es : List Step) → Refines v d o
      → BreaksBegin v name steps es
      → Fails v d (draft_begin name) steps es None
  breaks_begin v o steps es r (inl h) =
      let a : Others name d v = others_of v o r in
      fails_by v steps 0 es [] h.0 h.1 (a.shows, refines_others v (record d.reads { draft = None }) a r.reads)
  breaks_begin v o steps es r (inr (inl h)) =
      let a : Others name d v = others_of v o r in
      let b : Others name d (step_part (unlink name) v) = others_may None v a in
      fails_by v steps 0 es (Broke (unlink name) ∷ []) h.0 h.1
      ((a.shows, b.shows, b.shows), refines_others (step_part (unlink name) v) (record d.reads { draft = None }) b r.reads)
  breaks_begin v o steps es r (inr (inr (inl h))) =
      let a : Others name d v = others_of v o r in
      let b : Others name d (after_step (unlink name) v) = removed v a in
      fails_by v steps 1 es (Did (unlink name) ∷ []) h.0 h.1 (
        (a.shows, (others_may None v a).shows, b.shows),
        refines_others (after_step (unlink name) v)
            (record { files = put d.reads.files name None; image = d.reads.image; draft = None }) b (removed_reads v a),
      )
  breaks_begin v o steps es r (inr (inr (inr (inl h)))) =
      let a : Others name d v = others_of v o r in
      let u : Volume = after_step (unlink name) v in
      let b : Others name d u = removed v a in
      let c : Others name d (step_part (create name h.0) u) = half_created h.0 u h.2 b in
      fails_by v steps 1 es (Did (unlink name) ∷ Broke (create name h.0) ∷ []) h.1 h.3 (
        (a.shows, (others_may None v a).shows, (b.shows, c.shows, c.shows)),
        refines_others (step_part (create name h.0) u)
            (record { files = put d.reads.files name None; image = d.reads.image; draft = None }) c
            (λ n. removed_reads v a n ∙ new_reads h.0 u h.2 n),
      )
  breaks_begin v o steps es r (inr (inr (inr (inr (inl h))))) =
      let a : Others name d v = others_of v o r in
      let c : Others name d (step_part (create name h.0) v) = half_created h.0 v h.2 a in
      fails_by v steps 0 es (Broke (create name h.0) ∷ []) h.1 h.3 (
        (a.shows, c.shows, c.shows),
        refines_others (step_part (create name h.0) v) (record d.reads { draft = None }) c
            (λ n. r.reads n ∙ new_reads h.0 v h.2 n),
      )
  breaks_begin v o steps es r (inr (inr (inr (inr (inr h))))) =
      fails_by v steps 2 es es h.1 refl (ends_begun v h.0 es (begins v o h.0 es r h.2))
