-- A draft's text, its sync and its publish.
use Rattle.std.proofs.Common.{◌≡◌, ◌⊎◌, inl, inr, ℕ, zero, suc, ◌+◌, ◌≤◌, true, false, IsTrue, List, [], ◌∷◌, ◌++◌, length, take, Option, Some, refl, sym, ◌∙◌, ap, subst, append-nil, append_assoc, arith}
use Rattle.std.specs.Str.{bytes_eq}
use Rattle.std.proofs.lemmas.Bool.{cases_Bool, false≢true}
use Rattle.std.proofs.lemmas.Bool.Decides.{eqb_tells}
use Rattle.std.proofs.lemmas.List.{length-append, get_or_append_left}
use Rattle.kernel_files.specs.Volume.{Node, Volume, append, sync_file, Entry as Step, Done as Did, Failed as Broke, with_end, with_loss, synced, at_node, after as after_steps, after_done as after_step, after_part as step_part, MayRead, LeavesOne, Free}
use Rattle.kernel_files.specs.Stops.{Along}
use Rattle.kernel_files.proofs.Volumes.{node_here, node_other, finds_same}
use Rattle.crash_site.specs.Files.{File, bytes_of}
use Rattle.crash_site.specs.Calls.{draft_append, draft_sync}
use Rattle.crash_site.specs.Folder.{Folder, if_any, appended}
use Rattle.crash_site.specs.Disk.{Disk, under, under_some, with_draft}
use Rattle.crash_site.specs.Left.{MayShow}
use Rattle.kernel_laws.specs.Refines.{as_file, read_at, files_of, Within, IsAmong, IsFirm, Refines, Begun}
use Rattle.kernel_files.specs.MapCalls.{Appends, BreaksAppend}
use Rattle.kernel_laws.proofs.Nodes.{sound_loss, sound_lost, sound_synced, synced_firm}
use Rattle.kernel_laws.proofs.Names.{is_name, not_name, free_at, read_same, put_reads}
use Rattle.kernel_laws.proofs.Stops.{along_map, along_end, along_append, run_append}
use Rattle.kernel_laws.proofs.Begins.{Keeps, Fails, own_anything, draft_within}

-- Only a file's content changes.

pub record Touches (i : ℕ) (old new : Volume) : Type 0 where
  pub names : new.names ≡ old.names
  pub may : new.may ≡ old.may
  pub others : (j : ℕ) → (j ≡ i → ⊥) → new.nodes j ≡ old.nodes j
  pub sound : MayRead (new.nodes i) (new.nodes i).bytes

touches_here : (i : ℕ) (v : Volume) → MayRead (v.nodes i) (v.nodes i).bytes → Touches i v v
touches_here i v h = record { names = refl; may = refl; others = λ j a. refl; sound = h }

sound_here : (i : ℕ) (f : Node → Node) (w : Volume) → MayRead (f (w.nodes i)) (f (w.nodes i)).bytes
    → MayRead ((at_node i f w).nodes i) ((at_node i f w).nodes i).bytes
sound_here i f w h = subst (λ (x : Node). MayRead x x.bytes) (sym (node_here i f w)) h

touches_node : (i : ℕ) (f : Node → Node) (v w : Volume) → MayRead (f (w.nodes i)) (f (w.nodes i)).bytes → Touches i v w
    → Touches i v (at_node i f w)
touches_node i f v w h t = record {
  names = t.names;
  may = t.may;
  others = λ j a. node_other i j f w a ∙ t.others j a;
  sound = sound_here i f w h;
}

touched_at : (i j : ℕ) (f : Node → Node) (u v : Volume) → j ≡ i → MayRead (f (v.nodes i)) (f (v.nodes i)).bytes
    → Touches i u v
    → Touches i u (at_node j f v)
touched_at i j f u v e h t = subst (λ (k : ℕ). Touches i u (at_node k f v)) (sym e) (touches_node i f u v h t)

touched_sound : (i : ℕ) (v w : Volume) → Touches i v w → ((j : ℕ) → MayRead (v.nodes j) (v.nodes j).bytes)
    → (j : ℕ) → MayRead (w.nodes j) (w.nodes j).bytes
touched_sound i v w t h j =
    elim (eqb_tells j i) [
      | inl is ↦ subst (λ (k : ℕ). MayRead (w.nodes k) (w.nodes k).bytes) (sym is.1) t.sound
      | inr is ↦ subst (λ (f : Node). MayRead f f.bytes) (sym (t.others j is.1)) (h j)
    ]

touched_here : (i : ℕ) (v w : Volume) → Touches i v w → ((n : List ℕ) → IsAmong (v.names n) (v.may n))
    → (n : List ℕ) → IsAmong (w.names n) (w.may n)
touched_here i v w t h n =
    subst (λ (f : List ℕ → Option ℕ). IsAmong (f n) (w.may n)) (sym t.names)
    (subst (λ (f : List ℕ → List (Option ℕ)). IsAmong (v.names n) (f n)) (sym t.may) (h n))

begun_touched : (draft : List ℕ) (i : ℕ) (v w : Volume) → Touches i v w → Begun draft i v → Begun draft i w
begun_touched draft i v w t b = record {
  named = ap (λ (f : List ℕ → Option ℕ). f draft) t.names ∙ b.named;
  apart = λ n a. subst (λ (f : List ℕ → List (Option ℕ)). Free i (f n)) (sym t.may) (b.apart n a);
}

-- a name may show anything, and no other name leads to the file
touched_within : (d : Disk) (draft : List ℕ) (i : ℕ) (v w : Volume) → Within d v → IsTrue (d.shows draft).anything
    → Begun draft i v → Touches i v w → Within d w
touched_within d draft i v w in_d anything b t n found h =
    elim (cases_Bool (bytes_eq n draft)) [
      | inl e ↦ subst (λ (m : List ℕ). MayShow (d.shows m) (as_file found)) (sym (is_name n draft e)) (inl anything)
      | inr e ↦ in_d n found (finds_same v.nodes w.nodes i t.others (v.may n) (b.apart n (not_name n draft e)) found
          (subst (λ (f : List ℕ → List (Option ℕ)). LeavesOne w.nodes (f n) found) t.may h))
    ]

-- Its text.

pub sound_end : (piece : List ℕ) (f : Node) → MayRead f f.bytes → MayRead (with_end piece f) (f.bytes ++ piece)
sound_end piece f h =
    let size : length (f.bytes ++ piece) ≡ length f.bytes + length piece = length-append f.bytes piece in
    record {
      stands = λ x lt. elim (h.stands x lt) [
        | inl l ↦ inl (inr l)
        | inr e ↦ inr (get_or_append_left f.bytes piece 0 x (let k : length f.durable ≤ length f.bytes = h.no_shorter in omega (arith, k, lt)) ∙ e)
      ];
      no_shorter = (let k : length f.durable ≤ length f.bytes = h.no_shorter in omega (arith, k, size));
      no_longer = omega (arith, size);
    }

end_of_piece : Node → List ℕ → Node
end_of_piece f piece = with_loss (length f.bytes) (length piece) f

appends_touch : (i : ℕ) (u : Volume) (es : List Step) (piece : List ℕ) (v : Volume) → Appends i piece es → Touches i u v
    → Along (Touches i u) v es
appends_touch i u [] piece v h t = t
appends_touch i u (Did (append j p) ∷ es) piece v h t =
    let next : Touches i u (after_step (append j p) v) =
    touched_at i j (with_end p) u v h.1 (sound_end p (v.nodes i) t.sound) t in (
      t,
      touched_at i j (λ f. with_loss (length f.bytes) (length p) f) u v h.1
          (sound_loss (v.nodes i) (length (v.nodes i).bytes) (length p) t.sound) t,
      appends_touch i u es h.0 (after_step (append j p) v) h.3 next,
    )
appends_touch i u (e ∷ es) piece v h t = absurd h

appends_node : (i : ℕ) (es : List Step) (piece : List ℕ) (v : Volume) → Appends i piece es
    → ((after_steps v es).nodes i).bytes ≡ (v.nodes i).bytes ++ piece
appends_node i [] piece v h = sym (ap (λ (b : List ℕ). (v.nodes i).bytes ++ b) h ∙ append-nil (v.nodes i).bytes)
appends_node i (Did (append j p) ∷ es) piece v h =
    let next : Volume = after_step (append j p) v in
    let node : (next.nodes i).bytes ≡ (v.nodes i).bytes ++ p =
    ap (λ (k : ℕ). ((at_node k (with_end p) v).nodes i).bytes) h.1 ∙ ap (λ (f : Node). f.bytes) (node_here i (with_end p) v) in
    appends_node i es h.0 next h.3 ∙ ap (λ (b : List ℕ). b ++ h.0) node ∙ append_assoc (v.nodes i).bytes p h.0
    ∙ ap (λ (b : List ℕ). (v.nodes i).bytes ++ b) (sym h.2)
appends_node i (e ∷ es) piece v h = absurd h

module _ (v : Volume) (d : Disk) (i : ℕ) (r : Refines v d (Some i)) where
  abbrev name : List ℕ
  name = r.draft.0

  still : Touches i v v
  still = touches_here i v (r.sound i)

  -- the disk while the draft is written, and after it
  abbrev drafted : Disk
  drafted = under name with_draft d

  within_drafted : (w : Volume) → Touches i v w → Within drafted w
  within_drafted w t =
      touched_within drafted name i v w (draft_within d name v r.shows) (own_anything d name) r.draft.2 t

  at_draft : (w : Volume) → Within drafted w → Within (under_some d.reads.draft with_draft d) w
  at_draft w h = subst (λ (q : Option (List ℕ)). Within (under_some q with_draft d) w) (sym r.draft.1) h

  other_reads : (w : Volume) → Touches i v w → (n : List ℕ) → (n ≡ name → ⊥) → d.reads.files n ≡ files_of w n
  other_reads w t n apart =
      r.reads n
      ∙ ap as_file (sym (read_same v.nodes w.nodes i t.others (v.names n) (free_at i (v.names n) (v.may n) (r.draft.2.apart n apart) (r.here n))))
      ∙ ap (λ (names : List ℕ → Option ℕ). as_file (read_at w.nodes (names n))) (sym t.names)

  -- the draft reads as it did, and then these bytes
  text_reads : (w : Volume) (piece : List ℕ) → Touches i v w → (w.nodes i).bytes ≡ (v.nodes i).bytes ++ piece
      → (n : List ℕ) → (appended d.reads d.reads.draft piece).files n ≡ files_of w n
  text_reads w piece t node n =
      let b : Begun name i w = begun_touched name i v w t r.draft.2 in
      let text : Option File = Some (record { bytes = bytes_of (d.reads.files name) ++ piece; regular = true }) in
      let is_text : text ≡ files_of w name =
      ap (λ (c : List ℕ). Some (record { bytes = c ++ piece; regular = true }))
      (ap bytes_of (r.reads name) ∙ ap (λ (e : Option ℕ). bytes_of (as_file (read_at v.nodes e))) r.draft.2.named)
      ∙ ap (λ (c : List ℕ). Some (record { bytes = c; regular = true })) (sym node)
      ∙ ap (λ (e : Option ℕ). as_file (read_at w.nodes e)) (sym b.named) in
      ap (λ (o : Option (List ℕ)). (appended d.reads o piece).files n) r.draft.1
      ∙ put_reads d.reads.files name text w (other_reads w t) is_text n

  -- nothing was added
  same_reads : (w : Volume) → Touches i v w → (w.nodes i).bytes ≡ (v.nodes i).bytes → (n : List ℕ)
      → d.reads.files n ≡ files_of w n
  same_reads w t node n =
      elim (cases_Bool (bytes_eq n name)) [
        | inl e ↦
            let b : Begun name i w = begun_touched name i v w t r.draft.2 in
            ap (λ (m : List ℕ). d.reads.files m) (is_name n name e) ∙ r.reads name
            ∙ ap (λ (x : Option ℕ). as_file (read_at v.nodes x)) r.draft.2.named
            ∙ ap (λ (c : List ℕ). Some (record { bytes = c; regular = true })) (sym node)
            ∙ ap (λ (x : Option ℕ). as_file (read_at w.nodes x)) (sym b.named)
            ∙ ap (λ (m : List ℕ). files_of w m) (sym (is_name n name e))
        | inr e ↦ other_reads w t n (not_name n name e)
      ]

  -- after an append, well or not
  written_refines : (w : Volume) (reads : Folder) → Touches i v w → reads.draft ≡ d.reads.draft
      → ((n : List ℕ) → reads.files n ≡ files_of w n)
      → Refines w (record (under_some d.reads.draft with_draft d) { reads = reads; firm = false }) (Some i)
  written_refines w reads t same files = record {
    shows = at_draft w (within_drafted w t);
    reads = files;
    here = touched_here i v w t r.here;
    sound = touched_sound i v w t r.sound;
    draft = (
      name,
      same ∙ r.draft.1,
      begun_touched name i v w t r.draft.2,
      ap (λ (o : Option (List ℕ)). ((under_some o with_draft d).shows name).anything) r.draft.1 ∙ own_anything d name,
      λ e. absurd (false≢true e),
    );
  }

  kept_draft : (piece : List ℕ) → (appended d.reads d.reads.draft piece).draft ≡ d.reads.draft
  kept_draft piece =
      ap (λ (o : Option (List ℕ)). (appended d.reads o piece).draft) r.draft.1

  pub appends : (piece : List ℕ) (es : List Step) → Appends i piece es → Keeps v d (draft_append piece) es (Some i)
  appends piece es h =
      let along : Along (Touches i v) v es = appends_touch i v es piece v h still in
      let w : Volume = after_steps v es in
      let t : Touches i v w = along_end (Touches i v) v es along in (
        along_map (Touches i v) (Within (under_some d.reads.draft with_draft d)) (λ u s. at_draft u (within_drafted u s)) v es along,
        written_refines w (appended d.reads d.reads.draft piece) t (kept_draft piece) (text_reads w piece t (appends_node i es piece v h)),
      )

  -- an append that took this many bytes
  abbrev taken : ℕ → List ℕ → List ℕ → Option File
  taken steps piece = if_any steps (appended d.reads d.reads.draft (take steps piece)).files d.reads.files

  taken_reads : (steps : ℕ) (piece : List ℕ) (w : Volume) → Touches i v w
      → (w.nodes i).bytes ≡ (v.nodes i).bytes ++ take steps piece → (n : List ℕ) → taken steps piece n ≡ files_of w n
  taken_reads zero piece w t node n = same_reads w t (node ∙ append-nil (v.nodes i).bytes) n
  taken_reads (suc k) piece w t node n = text_reads w (take (suc k) piece) t node n

  taken_fails : (steps : ℕ) (piece : List ℕ) (es : List Step) → Along (Touches i v) v es
      → ((after_steps v es).nodes i).bytes ≡ (v.nodes i).bytes ++ take steps piece
      → Fails v d (draft_append piece) steps es (Some i)
  taken_fails steps piece es along node =
      let w : Volume = after_steps v es in
      let t : Touches i v w = along_end (Touches i v) v es along in (
        along_map (Touches i v) (Within (under_some d.reads.draft with_draft d)) (λ u s. at_draft u (within_drafted u s)) v es along,
        written_refines w (record d.reads { files = taken steps piece }) t refl (taken_reads steps piece w t node),
      )

  -- a further append fails
  then_fails : (front : List Step) (rest : List ℕ) → Along (Touches i v) v front
      → Along (Touches i v) v (front ++ Broke (append i rest) ∷ [])
  then_fails front rest h =
      let w : Volume = after_steps v front in
      let t : Touches i v w = along_end (Touches i v) v front h in
      let u : Touches i v (step_part (append i rest) w) =
      touches_node i (λ f. with_loss (length f.bytes) (length rest) f) v w (sound_loss (w.nodes i) (length (w.nodes i).bytes) (length rest) t.sound) t in
      along_append (Touches i v) v front (Broke (append i rest) ∷ []) h (t, u, u)

  then_bytes : (front : List Step) (rest : List ℕ)
      → ((after_steps v (front ++ Broke (append i rest) ∷ [])).nodes i).bytes ≡ ((after_steps v front).nodes i).bytes
  then_bytes front rest =
      ap (λ (w : Volume). (w.nodes i).bytes) (run_append v front (Broke (append i rest) ∷ []))
      ∙ ap (λ (f : Node). f.bytes) (node_here i (λ f. with_loss (length f.bytes) (length rest) f) (after_steps v front))

  pub breaks_append : (piece : List ℕ) (steps : ℕ) (es : List Step) → BreaksAppend i piece steps es
      → Fails v d (draft_append piece) steps es (Some i)
  breaks_append piece steps es (front, made, inl is) =
      subst (λ (l : List Step). Fails v d (draft_append piece) steps l (Some i)) (sym is)
      (taken_fails steps piece front (appends_touch i v front (take steps piece) v made still) (appends_node i front (take steps piece) v made))
  breaks_append piece steps es (front, made, inr is) =
      let along : Along (Touches i v) v front = appends_touch i v front (take steps piece) v made still in
      subst (λ (l : List Step). Fails v d (draft_append piece) steps l (Some i)) (sym is.1)
      (taken_fails steps piece (front ++ Broke (append i is.0) ∷ []) (then_fails front is.0 along)
      (then_bytes front is.0 ∙ appends_node i front (take steps piece) v made))

  -- Its sync.

  open_within : (w : Volume) → Touches i v w → Within d w
  open_within w t = touched_within d name i v w r.shows r.draft.3 r.draft.2 t

  pub syncs : (v.nodes i).lost ≡ [] → Keeps v d draft_sync (Did (sync_file i) ∷ []) (Some i)
  syncs none =
      let w : Volume = after_step (sync_file i) v in
      let t : Touches i v w = touches_node i synced v v (sound_synced (v.nodes i)) still in
      let s : Touches i v (step_part (sync_file i) v) =
      touches_node i (λ f. record f { lost = f.loose }) v v (sound_lost (v.nodes i) (r.sound i)) still in (
        (r.shows, open_within (step_part (sync_file i) v) s, open_within w t),
        record {
          shows = open_within w t;
          reads = same_reads w t (ap (λ (f : Node). f.bytes) (node_here i synced v));
          here = r.here;
          sound = touched_sound i v w t r.sound;
          draft = (
            name,
            r.draft.1,
            begun_touched name i v w t r.draft.2,
            r.draft.3,
            λ _. subst (λ (f : Node). IsFirm f) (sym (node_here i synced v)) (synced_firm (v.nodes i) none),
          );
        },
      )

  lost_firm : (f : Node) → IsFirm f → IsFirm (record f { lost = f.loose })
  lost_firm f h = record { loose = h.loose; durable = h.durable }

  pub breaks_sync : (steps : ℕ) (es : List Step) → (es ≡ []) ⊎ (es ≡ Broke (sync_file i) ∷ [])
      → Fails v d draft_sync steps es (Some i)
  breaks_sync steps es (inl is) =
      subst (λ (l : List Step). Fails v d draft_sync steps l (Some i)) (sym is)
      (r.shows, record { shows = r.shows; reads = r.reads; here = r.here; sound = r.sound; draft = r.draft })
  breaks_sync steps es (inr is) =
      let w : Volume = step_part (sync_file i) v in
      let t : Touches i v w = touches_node i (λ f. record f { lost = f.loose }) v v (sound_lost (v.nodes i) (r.sound i)) still in
      subst (λ (l : List Step). Fails v d draft_sync steps l (Some i)) (sym is) (
        (r.shows, open_within w t, open_within w t),
        record {
          shows = open_within w t;
          reads = same_reads w t (ap (λ (f : Node). f.bytes) (node_here i (λ f. record f { lost = f.loose }) v));
          here = r.here;
          sound = touched_sound i v w t r.sound;
          draft = (
            name,
            r.draft.1,
            begun_touched name i v w t r.draft.2,
            r.draft.3,
            λ e. subst (λ (f : Node). IsFirm f) (sym (node_here i (λ f. record f { lost = f.loose }) v)) (lost_firm (v.nodes i) (r.draft.4 e)),
          );
        },
      )
