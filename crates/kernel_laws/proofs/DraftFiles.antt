-- What the calls on a draft do to its file and its name, and what they leave alone.
use Rattle.std.proofs.Common.{◌≡◌, ◌⊎◌, inl, inr, ℕ, List, [], ◌∷◌, length, take, Option, Some, None, refl, sym, ◌∙◌, ap, subst}
use Rattle.std.specs.List.{flat_map}
use Rattle.std.specs.Str.{bytes_eq}
use Rattle.std.proofs.lemmas.Bool.{cases_Bool, cond-false, cond-true}
use Rattle.kernel_files.specs.Volume.{Node, Volume, new_node, create, append, sync_file, rename, unlink, Entry as Step, Done as Did, Failed as Broke, with_end, with_loss, synced, at_node, lead, may_lead, after as after_steps, after_done as after_step, after_part as step_part, IsNew}
use Rattle.kernel_files.specs.MapCalls.{Begins, Appends, BreaksBegin, BreaksAppend}
use Rattle.kernel_files.proofs.Volumes.{node_here, node_other, may_other}
use Rattle.crash_site.specs.Disk.{without}
use Rattle.kernel_laws.specs.Site.{IsCalm}
use Rattle.kernel_laws.proofs.Names.{not_name}
use Rattle.kernel_laws.proofs.Spares.{some_is, none_isnt}
use Rattle.kernel_laws.proofs.Calm.{new_calm, sync_calms}
use Rattle.kernel_laws.proofs.Stops.{run_append}

-- One file changes.

pub record Only (i : ℕ) (old new : Volume) : Type 0 where
  pub names : new.names ≡ old.names
  pub may : new.may ≡ old.may
  pub others : (j : ℕ) → (j ≡ i → ⊥) → new.nodes j ≡ old.nodes j

pub only_first : (i : ℕ) (v : Volume) → Only i v v
only_first i v = record { names = refl; may = refl; others = λ j a. refl }

only_node : (i j : ℕ) (f : Node → Node) (u v : Volume) → j ≡ i → Only i u v → Only i u (at_node j f v)
only_node i j f u v e h = record {
  names = h.names;
  may = h.may;
  others = λ k a. node_other j k f v (λ same. a (same ∙ e)) ∙ h.others k a;
}

pub only_appends : (i : ℕ) (u : Volume) (es : List Step) (piece : List ℕ) (v : Volume) → Appends i piece es → Only i u v
    → Only i u (after_steps v es)
only_appends i u [] piece v h t = t
only_appends i u (Did (append j p) ∷ es) piece v h t =
    only_appends i u es h.0 (after_step (append j p) v) h.3 (only_node i j (with_end p) u v h.1 t)
only_appends i u (e ∷ es) piece v h t = absurd h

pub only_append : (i : ℕ) (v : Volume) (steps : ℕ) (piece : List ℕ) (es : List Step) → BreaksAppend i piece steps es
    → Only i v (after_steps v es)
only_append i v steps piece es (front, made, inl is) =
    subst (λ (l : List Step). Only i v (after_steps v l)) (sym is)
    (only_appends i v front (take steps piece) v made (only_first i v))
only_append i v steps piece es (front, made, inr is) =
    let u : Volume = after_steps v front in
    let h : Only i v u = only_appends i v front (take steps piece) v made (only_first i v) in
    let k : Only i v (step_part (append i is.0) u) =
    only_node i i (λ f. with_loss (length f.bytes) (length is.0) f) v u refl h in
    subst (λ (l : List Step). Only i v (after_steps v l)) (sym is.1)
    (subst (λ (x : Volume). Only i v x) (sym (run_append v front (Broke (append i is.0) ∷ []))) k)

pub only_sync : (i : ℕ) (v : Volume) → Only i v (after_step (sync_file i) v)
only_sync i v = only_node i i synced v v refl (only_first i v)

pub only_failed_sync : (i : ℕ) (v : Volume) (es : List Step) → (es ≡ []) ⊎ (es ≡ Broke (sync_file i) ∷ [])
    → Only i v (after_steps v es)
only_failed_sync i v es (inl is) =
    subst (λ (l : List Step). Only i v (after_steps v l)) (sym is) (only_first i v)
only_failed_sync i v es (inr is) =
    subst (λ (l : List Step). Only i v (after_steps v l)) (sym is)
    (only_node i i (λ f. record f { lost = f.loose }) v v refl (only_first i v))

-- An append that returned loses nothing.

end_lost : (i j : ℕ) (p : List ℕ) (v : Volume) → j ≡ i → (v.nodes i).lost ≡ []
    → ((after_step (append j p) v).nodes i).lost ≡ []
end_lost i j p v e h =
    let f : Node = v.nodes i in
    ap (λ (k : ℕ). ((at_node k (with_end p) v).nodes i).lost) e
    ∙ ap (λ (x : Node). x.lost) (node_here i (with_end p) v)
    ∙ ap (λ (l : List (ℕ × ℕ)). flat_map (without (length f.bytes) (length p)) l) h

pub appends_lost : (i : ℕ) (es : List Step) (piece : List ℕ) (v : Volume) → Appends i piece es → (v.nodes i).lost ≡ []
    → ((after_steps v es).nodes i).lost ≡ []
appends_lost i [] piece v h k = k
appends_lost i (Did (append j p) ∷ es) piece v h k =
    appends_lost i es h.0 (after_step (append j p) v) h.3 (end_lost i j p v h.1 k)
appends_lost i (e ∷ es) piece v h k = absurd h

-- A sync that returned leaves nothing loose of a file of which nothing was lost.
pub sync_calm : (i : ℕ) (v : Volume) → (v.nodes i).lost ≡ [] → IsCalm ((after_step (sync_file i) v).nodes i)
sync_calm i v none =
    subst (λ (f : Node). IsCalm f) (sym (node_here i synced v)) (sync_calms (v.nodes i) none)

-- What one name leads to changes. Another name leads to the same unchanged file, or to one of which nothing is loose.

pub record Leads (name : List ℕ) (old new : Volume) : Type 0 where
  pub may : (n : List ℕ) → (n ≡ name → ⊥) → new.may n ≡ old.may n
  pub led : (n : List ℕ) (j : ℕ) → new.names n ≡ Some j
      → IsCalm (new.nodes j) ⊎ ((old.names n ≡ Some j) × (new.nodes j ≡ old.nodes j))

pub leads_first : (name : List ℕ) (v : Volume) → Leads name v v
leads_first name v = record { may = λ n a. refl; led = λ n j is. inr (is, refl) }

-- the number is that of a file which another name has
not_new : (v : Volume) (i : ℕ) → IsNew v i → (n : List ℕ) (j : ℕ) → v.names n ≡ Some j → j ≡ i → ⊥
not_new v i new n j is e = new.named n (is ∙ ap (λ (k : ℕ). Some k) e)

module _ (name : List ℕ) (u : Volume) where
  leads_part : (e : Option ℕ) (v : Volume) → Leads name u v → Leads name u (may_lead name e v)
  leads_part e v h = record { may = λ n a. may_other name n e v a ∙ h.may n a; led = h.led }

  leads_none : (v : Volume) → Leads name u v → Leads name u (lead name None v)
  leads_none v h = record {
    may = λ n a. may_other name n None v a ∙ h.may n a;
    led = λ n j is. elim (cases_Bool (bytes_eq n name)) [
      | inl t ↦ absurd (none_isnt j (sym (cond-true (bytes_eq n name) None (v.names n) t) ∙ is))
      | inr t ↦ h.led n j (sym (cond-false (bytes_eq n name) None (v.names n) t) ∙ is)
    ];
  }

  -- a file that was made aside
  leads_aside : (i : ℕ) (v : Volume) → IsNew v i → Leads name u v → Leads name u (at_node i (λ f. new_node) v)
  leads_aside i v new h = record {
    may = h.may;
    led = λ n j is.
        let same : (at_node i (λ f. new_node) v).nodes j ≡ v.nodes j =
        node_other i j (λ f. new_node) v (not_new v i new n j is) in
        elim (h.led n j is) [
          | inl calm ↦ inl (subst (λ (f : Node). IsCalm f) (sym same) calm)
          | inr old ↦ inr (old.0, same ∙ old.1)
        ];
  }

  leads_some : (i : ℕ) (v : Volume) → IsCalm (v.nodes i) → Leads name u v → Leads name u (lead name (Some i) v)
  leads_some i v calm h = record {
    may = λ n a. may_other name n (Some i) v a ∙ h.may n a;
    led = λ n j is. elim (cases_Bool (bytes_eq n name)) [
      | inl t ↦
          let e : i ≡ j = some_is i j (sym (cond-true (bytes_eq n name) (Some i) (v.names n) t) ∙ is) in
          inl (subst (λ (k : ℕ). IsCalm (v.nodes k)) e calm)
      | inr t ↦ h.led n j (sym (cond-false (bytes_eq n name) (Some i) (v.names n) t) ∙ is)
    ];
  }

  leads_made : (i : ℕ) (v : Volume) → IsNew v i → Leads name u v → Leads name u (after_step (create name i) v)
  leads_made i v new h =
      leads_some i (at_node i (λ f. new_node) v)
      (subst (λ (f : Node). IsCalm f) (sym (node_here i (λ f. new_node) v)) new_calm) (leads_aside i v new h)

  leads_half_made : (i : ℕ) (v : Volume) → IsNew v i → Leads name u v → Leads name u (step_part (create name i) v)
  leads_half_made i v new h = leads_part (Some i) (at_node i (λ f. new_node) v) (leads_aside i v new h)

module _ (name : List ℕ) (v : Volume) where
  gone : Leads name v (after_step (unlink name) v)
  gone = leads_none name v v (leads_first name v)

  leads_by : (es fs : List Step) → es ≡ fs → Leads name v (after_steps v fs) → Leads name v (after_steps v es)
  leads_by es fs e h = subst (λ (l : List Step). Leads name v (after_steps v l)) (sym e) h

  pub begins_lead : (i : ℕ) (es : List Step) → Begins v name i es → Leads name v (after_steps v es)
  begins_lead i es (inl h) = leads_by es (Did (create name i) ∷ []) h.2 (leads_made name v i v h.1 (leads_first name v))
  begins_lead i es (inr h) =
      leads_by es (Did (unlink name) ∷ Did (create name i) ∷ []) h.1
      (leads_made name v i (after_step (unlink name) v) h.0 gone)

  pub begin_leads : (steps : ℕ) (es : List Step) → BreaksBegin v name steps es → Leads name v (after_steps v es)
  begin_leads steps es (inl h) = leads_by es [] h.1 (leads_first name v)
  begin_leads steps es (inr (inl h)) =
      leads_by es (Broke (unlink name) ∷ []) h.1 (leads_part name v None v (leads_first name v))
  begin_leads steps es (inr (inr (inl h))) = leads_by es (Did (unlink name) ∷ []) h.1 gone
  begin_leads steps es (inr (inr (inr (inl h)))) =
      leads_by es (Did (unlink name) ∷ Broke (create name h.0) ∷ []) h.3
      (leads_half_made name v h.0 (after_step (unlink name) v) h.2 gone)
  begin_leads steps es (inr (inr (inr (inr (inl h))))) =
      leads_by es (Broke (create name h.0) ∷ []) h.3 (leads_half_made name v h.0 v h.2 (leads_first name v))
  begin_leads steps es (inr (inr (inr (inr (inr h))))) = begins_lead h.0 es h.2

  made_lost : (i : ℕ) (u : Volume) → ((after_step (create name i) u).nodes i).lost ≡ []
  made_lost i u = ap (λ (f : Node). f.lost) (node_here i (λ f. new_node) u)

  -- the new draft has lost nothing
  pub begins_lost : (i : ℕ) (es : List Step) → Begins v name i es → ((after_steps v es).nodes i).lost ≡ []
  begins_lost i es (inl h) =
      subst (λ (l : List Step). ((after_steps v l).nodes i).lost ≡ []) (sym h.2) (made_lost i v)
  begins_lost i es (inr h) =
      subst (λ (l : List Step). ((after_steps v l).nodes i).lost ≡ []) (sym h.1)
      (made_lost i (after_step (unlink name) v))

-- The draft gets another name.

module _ (draft name : List ℕ) (i : ℕ) (v : Volume) (is : v.names draft ≡ Some i) where
  abbrev moved : Volume
  moved = after_step (rename draft name) v

  -- a name leads to the draft's file, or is another and leads where it led
  pub moved_names : (n : List ℕ) (j : ℕ) → moved.names n ≡ Some j → (j ≡ i) ⊎ ((n ≡ draft → ⊥) × (v.names n ≡ Some j))
  moved_names n j at =
      elim (cases_Bool (bytes_eq n name)) [
        | inl t ↦ inl (some_is j i
            (sym at ∙ cond-true (bytes_eq n name) (v.names draft) ((lead draft None v).names n) t ∙ is))
        | inr t ↦
            let u : (lead draft None v).names n ≡ Some j =
            sym (cond-false (bytes_eq n name) (v.names draft) ((lead draft None v).names n) t) ∙ at in
            elim (cases_Bool (bytes_eq n draft)) [
              | inl s ↦ absurd (none_isnt j (sym (cond-true (bytes_eq n draft) None (v.names n) s) ∙ u))
              | inr s ↦ inr (not_name n draft s, sym (cond-false (bytes_eq n draft) None (v.names n) s) ∙ u)
            ]
      ]

  pub moved_may : (n : List ℕ) → (n ≡ draft → ⊥) → (n ≡ name → ⊥) → moved.may n ≡ v.may n
  moved_may n a b = may_other name n (v.names draft) (lead draft None v) b ∙ may_other draft n None v a

  abbrev half_moved : Volume
  half_moved = step_part (rename draft name) v

  pub half_moved_may : (n : List ℕ) → (n ≡ draft → ⊥) → (n ≡ name → ⊥) → half_moved.may n ≡ v.may n
  half_moved_may n a b = may_other name n (v.names draft) (may_lead draft None v) b ∙ may_other draft n None v a
