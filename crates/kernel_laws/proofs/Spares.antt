-- Calls that leave the image alone: those on other files and names.
use Rattle.std.proofs.Common.{◌≡◌, inl, inr, ℕ, Bool, true, false, cond, List, [], ◌∷◌, ◌++◌, length, take, Option, Some, None, refl, sym, ◌∙◌, ap, subst}
use Rattle.std.specs.Bool.{⊤}
use Rattle.std.specs.Str.{bytes_eq}
use Rattle.kernel_files.specs.Volume.{Node, Volume, Call as SystemCall, create, write, append, sync_file, rename, unlink, sync_folder, folder_of, at_node, lead, may_lead, new_node, with_end, with_loss, synced, Entry as Step, Done as Did, Failed as Broke, after as after_steps, after_done as after_step, after_part as step_part, IsNew}
use Rattle.kernel_files.proofs.Volumes.{node_other, names_other, may_other}
use Rattle.crash_site.specs.Files.{draft_of}
use Rattle.crash_site.specs.Disk.{Showing, Disk, newest, lost_in}
use Rattle.kernel_laws.specs.Refines.{IsAmong, Begun, Inside, IsCovered, Imaged}
use Rattle.kernel_files.specs.MapCalls.{Begins, Appends, BreaksBegin, BreaksAppend, Probes}
use Rattle.kernel_laws.specs.Calls.{Syncs, Settles, BreaksSettle}
use Rattle.kernel_laws.proofs.Names.{free_at, free_more, lead_here, may_here}
use Rattle.kernel_laws.proofs.Settles.{one_among, one_free}
use Rattle.kernel_laws.proofs.Covers.{covered_same}

-- what stays of a file and of its name
pub record Spared (name : List ℕ) (i : ℕ) (old new : Volume) : Type 0 where
  pub node : new.nodes i ≡ old.nodes i
  pub fewer : (e : Option ℕ) → IsAmong e (new.may name) → IsAmong e (old.may name)
  pub begun : Begun name i new
  pub here : (n : List ℕ) → IsAmong (new.names n) (new.may n)

-- a call that isn't on this name or file
abbrev pub Avoids : List ℕ → ℕ → SystemCall → Type 0
Avoids name i (create n j) = (name ≡ n → ⊥) × (j ≡ i → ⊥)
Avoids name i (write j pos piece) = ⊥
Avoids name i (append j piece) = j ≡ i → ⊥
Avoids name i (sync_file j) = j ≡ i → ⊥
Avoids name i (rename from to) = (name ≡ from → ⊥) × (name ≡ to → ⊥)
Avoids name i (unlink n) = name ≡ n → ⊥
Avoids name i (sync_folder folder) = ⊤

abbrev pub AvoidsEntry : List ℕ → ℕ → Step → Type 0
AvoidsEntry name i (Did call) = Avoids name i call
AvoidsEntry name i (Broke call) = Avoids name i call

abbrev pub AvoidsAll : List ℕ → ℕ → List Step → Type 0
AvoidsAll name i [] = ⊤
AvoidsAll name i (e ∷ es) = AvoidsEntry name i e × AvoidsAll name i es

pub some_is : (j i : ℕ) → Some j ≡ Some i → j ≡ i
some_is j i e = cc

pub none_isnt : (i : ℕ) → None ≡ Some i → ⊥
none_isnt i e = cc

pub one_fewer : (b : Bool) (e f : Option ℕ) (es : List (Option ℕ)) → IsAmong f es → IsAmong e (cond b (f ∷ []) es)
    → IsAmong e es
one_fewer true e f es h (inl is) = subst (λ (x : Option ℕ). IsAmong x es) (sym is) h
one_fewer true e f es h (inr bad) = absurd bad
one_fewer false e f es h k = k

module _ (name : List ℕ) (i : ℕ) (old : Volume) where
  spared_node : (j : ℕ) (f : Node → Node) (v : Volume) → (j ≡ i → ⊥) → Spared name i old v
      → Spared name i old (at_node j f v)
  spared_node j f v apart h = record {
    node = node_other j i f v (λ e. apart (sym e)) ∙ h.node;
    fewer = h.fewer;
    begun = record { named = h.begun.named; apart = h.begun.apart };
    here = h.here;
  }

  spared_lead : (n : List ℕ) (e : Option ℕ) (v : Volume) → (name ≡ n → ⊥) → (e ≡ Some i → ⊥) → Spared name i old v
      → Spared name i old (lead n e v)
  spared_lead n e v apart other h = record {
    node = h.node;
    fewer = λ x is. h.fewer x (subst (λ (es : List (Option ℕ)). IsAmong x es) (may_other n name e v apart) is);
    begun = record {
      named = names_other n name e v apart ∙ h.begun.named;
      apart = λ m a. free_more (bytes_eq m n) i e (v.may m) other (h.begun.apart m a);
    };
    here = lead_here n e v h.here;
  }

  spared_may : (n : List ℕ) (e : Option ℕ) (v : Volume) → (name ≡ n → ⊥) → (e ≡ Some i → ⊥) → Spared name i old v
      → Spared name i old (may_lead n e v)
  spared_may n e v apart other h = record {
    node = h.node;
    fewer = λ x is. h.fewer x (subst (λ (es : List (Option ℕ)). IsAmong x es) (may_other n name e v apart) is);
    begun = record {
      named = h.begun.named;
      apart = λ m a. free_more (bytes_eq m n) i e (v.may m) other (h.begun.apart m a);
    };
    here = may_here n e v h.here;
  }

  spared_bare : (folder : List ℕ) (v : Volume) → Spared name i old v
      → Spared name i old (after_step (sync_folder folder) v)
  spared_bare folder v h = record {
    node = h.node;
    fewer = λ x is. h.fewer x (one_fewer (bytes_eq (folder_of name) folder) x (v.names name) (v.may name) (h.here name) is);
    begun = record {
      named = h.begun.named;
      apart = λ m a. one_free (bytes_eq (folder_of m) folder) i (v.names m) (v.may m) (h.here m) (h.begun.apart m a);
    };
    here = λ n. one_among (bytes_eq (folder_of n) folder) (v.names n) (v.may n) (h.here n);
  }

  -- a name that isn't the file's leads elsewhere
  leads_else : (n : List ℕ) (v : Volume) → (name ≡ n → ⊥) → Spared name i old v → v.names n ≡ Some i → ⊥
  leads_else n v apart h = free_at i (v.names n) (v.may n) (h.begun.apart n (λ e. apart (sym e))) (h.here n)

  spared_done : (call : SystemCall) (v : Volume) → Avoids name i call → Spared name i old v
      → Spared name i old (after_step call v)
  spared_done (create n j) v a h =
      spared_lead n (Some j) (at_node j (λ f. new_node) v) a.0 (λ e. a.1 (some_is j i e)) (spared_node j (λ f. new_node) v a.1 h)
  spared_done (write j pos piece) v a h = absurd a
  spared_done (append j piece) v a h = spared_node j (with_end piece) v a h
  spared_done (sync_file j) v a h = spared_node j synced v a h
  spared_done (rename from to) v a h =
      spared_lead to (v.names from) (lead from None v) a.1 (leads_else from v a.0 h) (spared_lead from None v a.0 (none_isnt i) h)
  spared_done (unlink n) v a h = spared_lead n None v a (none_isnt i) h
  spared_done (sync_folder folder) v a h = spared_bare folder v h

  spared_part : (call : SystemCall) (v : Volume) → Avoids name i call → Spared name i old v
      → Spared name i old (step_part call v)
  spared_part (create n j) v a h =
      spared_may n (Some j) (at_node j (λ f. new_node) v) a.0 (λ e. a.1 (some_is j i e)) (spared_node j (λ f. new_node) v a.1 h)
  spared_part (write j pos piece) v a h = absurd a
  spared_part (append j piece) v a h = spared_node j (λ f. with_loss (length f.bytes) (length piece) f) v a h
  spared_part (sync_file j) v a h = spared_node j (λ f. record f { lost = f.loose }) v a h
  spared_part (rename from to) v a h =
      spared_may to (v.names from) (may_lead from None v) a.1 (leads_else from v a.0 h) (spared_may from None v a.0 (none_isnt i) h)
  spared_part (unlink n) v a h = spared_may n None v a (none_isnt i) h
  spared_part (sync_folder folder) v a h = h

  pub spared_all : (es : List Step) (v : Volume) → AvoidsAll name i es → Spared name i old v
      → Spared name i old (after_steps v es)
  spared_all [] v a h = h
  spared_all (Did call ∷ es) v a h = spared_all es (after_step call v) a.1 (spared_done call v a.0 h)
  spared_all (Broke call ∷ es) v a h = spared_all es (step_part call v) a.1 (spared_part call v a.0 h)

avoids_append : (name : List ℕ) (i : ℕ) (a b : List Step) → AvoidsAll name i a → AvoidsAll name i b
    → AvoidsAll name i (a ++ b)
avoids_append name i [] b h k = k
avoids_append name i (e ∷ a) b h k = (h.0, avoids_append name i a b h.1 k)

-- The image, after calls on other files.

module _ (name : List ℕ) (i : ℕ) (v : Volume) (d : Disk) (m : Imaged name i v d) (here : (n : List ℕ) → IsAmong (v.names n) (v.may n)) where
  spared_first : Spared name i v v
  spared_first = record { node = refl; fewer = λ e is. is; begun = m.begun; here = here }

  pub image_kept : (e : Disk) (es : List Step) → AvoidsAll name i es → e.reads.image ≡ d.reads.image
      → (e.reads.draft ≡ Some name → ⊥) → e.shows name ≡ d.shows name → Imaged name i (after_steps v es) e
  image_kept e es a image draft shows =
      let w : Volume = after_steps v es in
      let s : Spared name i v w = spared_all name i v es v a spared_first in record {
        image = image ∙ m.image;
        draft = draft;
        begun = s.begun;
        own = λ x is. m.own x (s.fewer x is);
        covered = λ x is. subst (λ (t : Showing). IsCovered w.nodes x t) (sym shows)
            (covered_same v.nodes w.nodes i s.node x (m.own x (s.fewer x is)) (d.shows name) (m.covered x (s.fewer x is)));
        loose = subst (λ (t : Showing). Inside (w.nodes i).loose (newest t.durable t.since).loose) (sym shows)
            (subst (λ (f : Node). Inside f.loose (newest (d.shows name).durable (d.shows name).since).loose) (sym s.node) m.loose);
        lost = subst (λ (t : Showing). Inside (w.nodes i).lost (lost_in t)) (sym shows)
            (subst (λ (f : Node). Inside f.lost (lost_in (d.shows name))) (sym s.node) m.lost);
        ordered = subst (λ (f : Node). Inside f.lost f.loose) (sym s.node) m.ordered;
      }

  -- Which calls avoid it.

  named : v.names name ≡ Some i
  named = m.begun.named

  -- a new file isn't it
  new_else : (w : Volume) (j : ℕ) → w.names name ≡ Some i → IsNew w j → j ≡ i → ⊥
  new_else w j is new e = new.named name (is ∙ ap (λ (k : ℕ). Some k) (sym e))

  -- a file to which another name leads isn't it
  pub other_else : (n : List ℕ) (j : ℕ) → (name ≡ n → ⊥) → v.names n ≡ Some j → j ≡ i → ⊥
  other_else n j apart is e =
      free_at i (v.names n) (v.may n) (m.begun.apart n (λ same. apart (sym same))) (here n)
      (is ∙ ap (λ (k : ℕ). Some k) e)

  absent_else : (n : List ℕ) → v.names n ≡ None → name ≡ n → ⊥
  absent_else n none e = none_isnt i (sym none ∙ ap v.names (sym e) ∙ named)

  gone_named : (n : List ℕ) → (name ≡ n → ⊥) → (after_step (unlink n) v).names name ≡ Some i
  gone_named n apart = names_other n name None v apart ∙ named

  pub begins_avoid : (n : List ℕ) (j : ℕ) (es : List Step) → (name ≡ n → ⊥) → Begins v n j es → AvoidsAll name i es
  begins_avoid n j es apart (inl h) =
      subst (AvoidsAll name i) (sym h.2) ((apart, new_else v j named h.1), tt)
  begins_avoid n j es apart (inr h) =
      subst (AvoidsAll name i) (sym h.1) (apart, ((apart, new_else (after_step (unlink n) v) j (gone_named n apart) h.0), tt))

  pub begin_avoids : (n : List ℕ) (steps : ℕ) (es : List Step) → (name ≡ n → ⊥) → BreaksBegin v n steps es
      → AvoidsAll name i es
  begin_avoids n steps es apart (inl h) = subst (AvoidsAll name i) (sym h.1) tt
  begin_avoids n steps es apart (inr (inl h)) = subst (AvoidsAll name i) (sym h.1) (apart, tt)
  begin_avoids n steps es apart (inr (inr (inl h))) = subst (AvoidsAll name i) (sym h.1) (apart, tt)
  begin_avoids n steps es apart (inr (inr (inr (inl h)))) =
      subst (AvoidsAll name i) (sym h.3) (apart, ((apart, new_else (after_step (unlink n) v) h.0 (gone_named n apart) h.2), tt))
  begin_avoids n steps es apart (inr (inr (inr (inr (inl h))))) =
      subst (AvoidsAll name i) (sym h.3) ((apart, new_else v h.0 named h.2), tt)
  begin_avoids n steps es apart (inr (inr (inr (inr (inr h))))) = begins_avoid n h.0 es apart h.2

  pub appends_avoid : (j : ℕ) (piece : List ℕ) (es : List Step) → (j ≡ i → ⊥) → Appends j piece es → AvoidsAll name i es
  appends_avoid j piece [] apart h = tt
  appends_avoid j piece (Did (append k p) ∷ es) apart h = (λ e. apart (sym h.1 ∙ e), appends_avoid j h.0 es apart h.3)
  appends_avoid j piece (e ∷ es) apart h = absurd h

  pub append_avoids : (j : ℕ) (piece : List ℕ) (steps : ℕ) (es : List Step) → (j ≡ i → ⊥) → BreaksAppend j piece steps es
      → AvoidsAll name i es
  append_avoids j piece steps es apart (front, made, inl is) =
      subst (AvoidsAll name i) (sym is) (appends_avoid j (take steps piece) front apart made)
  append_avoids j piece steps es apart (front, made, inr is) =
      subst (AvoidsAll name i) (sym is.1)
      (avoids_append name i front (Broke (append j is.0) ∷ []) (appends_avoid j (take steps piece) front apart made) (apart, tt))

  probes_avoid : (n : List ℕ) (es : List Step) → Probes v n es → AvoidsAll name i es
  probes_avoid n es (inl is) = subst (AvoidsAll name i) (sym is) tt
  probes_avoid n es (inr (absent, j, new, is)) =
      subst (AvoidsAll name i) (sym is)
      ((absent_else (draft_of n) absent, new_else v j named new), (absent_else (draft_of n) absent, tt))

  syncs_avoid : (n : List ℕ) (e : Option ℕ) (es : List Step) → (name ≡ n → ⊥) → v.names n ≡ e → Syncs v n e es
      → AvoidsAll name i es
  syncs_avoid n None es apart is h = subst (AvoidsAll name i) (sym h) (tt, tt)
  syncs_avoid n (Some j) es apart is h = subst (AvoidsAll name i) (sym h.1) (tt, (other_else n j apart is, tt))

  pub settles_avoid : (n : List ℕ) (es : List Step) → (name ≡ n → ⊥) → Settles v n es → AvoidsAll name i es
  settles_avoid n es apart (probe, syncs, probes, made, is) =
      subst (AvoidsAll name i) (sym is)
      (avoids_append name i probe syncs (probes_avoid n probe probes) (syncs_avoid n (v.names n) syncs apart refl made))

  pub settle_avoids : (n : List ℕ) (steps : ℕ) (es : List Step) → (name ≡ n → ⊥) → BreaksSettle v (Some i) n steps es
      → AvoidsAll name i es
  settle_avoids n steps es apart (inl h) = subst (AvoidsAll name i) (sym h.1) tt
  settle_avoids n steps es apart (inr (inl (absent, j, new, inl h))) =
      subst (AvoidsAll name i) (sym h.1) ((absent_else (draft_of n) absent, new_else v j named new), tt)
  settle_avoids n steps es apart (inr (inl (absent, j, new, inr (once, inl is)))) =
      subst (AvoidsAll name i) (sym is) ((absent_else (draft_of n) absent, new_else v j named new), tt)
  settle_avoids n steps es apart (inr (inl (absent, j, new, inr (once, inr is)))) =
      subst (AvoidsAll name i) (sym is)
      ((absent_else (draft_of n) absent, new_else v j named new), (absent_else (draft_of n) absent, tt))
  settle_avoids n steps es apart (inr (inr (probe, zero_steps, probes, inl is))) =
      subst (AvoidsAll name i) (sym is) (avoids_append name i probe [] (probes_avoid n probe probes) tt)
  settle_avoids n steps es apart (inr (inr (probe, zero_steps, probes, inr (inl is)))) =
      subst (AvoidsAll name i) (sym is)
      (avoids_append name i probe (Broke (sync_folder (folder_of n)) ∷ []) (probes_avoid n probe probes) (tt, tt))
  settle_avoids n steps es apart (inr (inr (probe, zero_steps, probes, inr (inr (inl is))))) =
      subst (AvoidsAll name i) (sym is)
      (avoids_append name i probe (Did (sync_folder (folder_of n)) ∷ []) (probes_avoid n probe probes) (tt, tt))
  settle_avoids n steps es apart (inr (inr (probe, zero_steps, probes, inr (inr (inr (j, other, is)))))) =
      subst (AvoidsAll name i) (sym is)
      (avoids_append name i probe (Did (sync_folder (folder_of n)) ∷ Broke (sync_file j) ∷ []) (probes_avoid n probe probes)
      (tt, (λ e. other (ap (λ (k : ℕ). Some k) (sym e)), tt)))
