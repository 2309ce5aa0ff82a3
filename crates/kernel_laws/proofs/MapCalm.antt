-- A file of which nothing waits for a sync stays so, through the calls of a settle and of a removal.
use Rattle.std.proofs.Common.{◌≡◌, ◌⊎◌, inl, inr, ℕ, Bool, true, false, cond, eqb, List, [], ◌∷◌, ◌++◌, Option, Some, None, refl, sym, ◌∙◌, ap, subst}
use Rattle.std.specs.Str.{bytes_eq}
use Rattle.std.proofs.lemmas.Bool.{false≢true}
use Rattle.std.proofs.lemmas.Bool.Decides.{eqb_tells}
use Rattle.kernel_files.specs.Volume.{Node, Volume, new_node, at_node, lead, may_lead, create, unlink, sync_file, sync_folder, folder_of, synced, Entry as Step, Done as Did, Failed as Broke, after as after_steps, after_done as after_step, after_part as step_part}
use Rattle.kernel_files.specs.Steps.{IsBroken}
use Rattle.kernel_files.specs.MapCalls.{Tries, SyncsFound, SettlesFound, Removes, BreaksTry, BreaksSyncs, BreaksSettles}
use Rattle.kernel_files.proofs.Volumes.{node_here}
use Rattle.crash_site.specs.Files.{draft_of}
use Rattle.kernel_laws.specs.Site.{IsCalm}
use Rattle.kernel_laws.proofs.Stops.{run_append}
use Rattle.kernel_laws.proofs.Spares.{some_is, none_isnt}
use Rattle.kernel_laws.proofs.Calm.{new_calm, synced_calm, unsynced_calm}

-- The files after some calls, by those before: a name leads to what it led to, or to a calm file, and nothing of a file
-- waits for a sync that didn't.
pub record Calmer (v w : Volume) : Type 0 where
  pub names : (n : List ℕ) (i : ℕ) → w.names n ≡ Some i → (v.names n ≡ Some i) ⊎ IsCalm (w.nodes i)
  pub nodes : (i : ℕ) → IsCalm (v.nodes i) → IsCalm (w.nodes i)
  pub lost : (i : ℕ) → (v.nodes i).lost ≡ [] → (w.nodes i).lost ≡ []

calmer_same : (v : Volume) → Calmer v v
calmer_same v = record { names = λ n i is. inl is; nodes = λ i h. h; lost = λ i h. h }

calmer_on : (u v w : Volume) → Calmer u v → Calmer v w → Calmer u w
calmer_on u v w h k = record {
  names = λ n i is. elim (k.names n i is) [
    | inl old ↦ elim (h.names n i old) [ inl first ↦ inl first | inr calm ↦ inr (k.nodes i calm) ]
    | inr calm ↦ inr calm
  ];
  nodes = λ i calm. k.nodes i (h.nodes i calm);
  lost = λ i none. k.lost i (h.lost i none);
}

-- One call.

number_is : (k j : ℕ) → eqb k j ≡ true → k ≡ j
number_is k j e = elim (eqb_tells k j) [ inl is ↦ is.1 | inr is ↦ absurd (false≢true (sym is.0 ∙ e)) ]

either : (P : Node → Type 0) (b : Bool) (x y : Node) → (b ≡ true → P y → P x) → P y → P (cond b x y)
either P true x y h k = h refl k
either P false x y h k = k

calmer_node : (j : ℕ) (f : Node → Node) (v : Volume) → ((k : ℕ) → k ≡ j → IsCalm (v.nodes k) → IsCalm (f (v.nodes k)))
    → ((k : ℕ) → k ≡ j → (v.nodes k).lost ≡ [] → (f (v.nodes k)).lost ≡ []) → Calmer v (at_node j f v)
calmer_node j f v calm lost = record {
  names = λ n i is. inl is;
  nodes = λ k h. either IsCalm (eqb k j) (f (v.nodes k)) (v.nodes k) (λ e. calm k (number_is k j e)) h;
  lost = λ k h.
      either (λ (x : Node). x.lost ≡ []) (eqb k j) (f (v.nodes k)) (v.nodes k) (λ e. lost k (number_is k j e)) h;
}

calmer_new : (j : ℕ) (v : Volume) → Calmer v (at_node j (λ f. new_node) v)
calmer_new j v = calmer_node j (λ f. new_node) v (λ k is h. new_calm) (λ k is h. refl)

led : (u : Volume) (b : Bool) (e x : Option ℕ) (i : ℕ) → (e ≡ Some i → IsCalm (u.nodes i)) → cond b e x ≡ Some i
    → (x ≡ Some i) ⊎ IsCalm (u.nodes i)
led u true e x i own is = inr (own is)
led u false e x i own is = inl is

calmer_lead : (name : List ℕ) (e : Option ℕ) (u : Volume) → ((i : ℕ) → e ≡ Some i → IsCalm (u.nodes i))
    → Calmer u (lead name e u)
calmer_lead name e u own = record {
  names = λ n i is. led u (bytes_eq n name) e (u.names n) i (own i) is;
  nodes = λ i h. h;
  lost = λ i h. h;
}

calmer_may : (name : List ℕ) (e : Option ℕ) (u : Volume) → Calmer u (may_lead name e u)
calmer_may name e u = record { names = λ n i is. inl is; nodes = λ i h. h; lost = λ i h. h }

calmer_made : (name : List ℕ) (i : ℕ) (v : Volume) → Calmer v (after_step (create name i) v)
calmer_made name i v =
    let u : Volume = at_node i (λ f. new_node) v in
    calmer_on v u (lead name (Some i) u) (calmer_new i v) (calmer_lead name (Some i) u (λ k e.
    subst (λ (m : ℕ). IsCalm (u.nodes m)) (some_is i k e)
    (subst IsCalm (sym (node_here i (λ f. new_node) v)) new_calm)))

calmer_unmade : (name : List ℕ) (i : ℕ) (v : Volume) → Calmer v (step_part (create name i) v)
calmer_unmade name i v =
    let u : Volume = at_node i (λ f. new_node) v in
    calmer_on v u (may_lead name (Some i) u) (calmer_new i v) (calmer_may name (Some i) u)

calmer_gone : (name : List ℕ) (v : Volume) → Calmer v (after_step (unlink name) v)
calmer_gone name v = calmer_lead name None v (λ i e. absurd (none_isnt i e))

calmer_folder : (folder : List ℕ) (v : Volume) → Calmer v (after_step (sync_folder folder) v)
calmer_folder folder v = record { names = λ n i is. inl is; nodes = λ i h. h; lost = λ i h. h }

calmer_synced : (j : ℕ) (v : Volume) → Calmer v (after_step (sync_file j) v)
calmer_synced j v = calmer_node j synced v (λ k is h. synced_calm (v.nodes k) h) (λ k is h. h)

-- a failed sync loses nothing of a calm file
calmer_unsynced : (j : ℕ) (v : Volume) → IsCalm (v.nodes j) → Calmer v (step_part (sync_file j) v)
calmer_unsynced j v calm =
    calmer_node j (λ f. record f { lost = f.loose }) v (λ k is h. unsynced_calm (v.nodes k) h) (λ k is h.
    ap (λ (m : ℕ). (v.nodes m).loose) is ∙ calm.loose)

-- The whole.

to_steps : (v : Volume) (es fs : List Step) → es ≡ fs → Calmer v (after_steps v fs) → Calmer v (after_steps v es)
to_steps v es fs is h = subst (λ (l : List Step). Calmer v (after_steps v l)) (sym is) h

calmer_append : (v : Volume) (a b : List Step) → Calmer v (after_steps v a)
    → Calmer (after_steps v a) (after_steps (after_steps v a) b) → Calmer v (after_steps v (a ++ b))
calmer_append v a b h k =
    subst (λ (w : Volume). Calmer v w) (sym (run_append v a b))
    (calmer_on v (after_steps v a) (after_steps (after_steps v a) b) h k)

tries_calmer : (v : Volume) (draft : List ℕ) (es : List Step) → Tries v draft es → Calmer v (after_steps v es)
tries_calmer v draft es (inl none) = to_steps v es [] none (calmer_same v)
tries_calmer v draft es (inr (absent, i, new, is)) =
    let u : Volume = after_step (create draft i) v in
    to_steps v es (Did (create draft i) ∷ Did (unlink draft) ∷ []) is
    (calmer_on v u (after_step (unlink draft) u) (calmer_made draft i v) (calmer_gone draft u))

syncs_calmer : (v : Volume) (name : List ℕ) (e : Option ℕ) (es : List Step) → SyncsFound name e es
    → Calmer v (after_steps v es)
syncs_calmer v name None es is =
    to_steps v es (Did (sync_folder (folder_of name)) ∷ []) is (calmer_folder (folder_of name) v)
syncs_calmer v name (Some j) es is =
    let u : Volume = after_step (sync_folder (folder_of name)) v in
    to_steps v es (Did (sync_folder (folder_of name)) ∷ Did (sync_file j) ∷ []) is
    (calmer_on v u (after_step (sync_file j) u) (calmer_folder (folder_of name) v) (calmer_synced j u))

pub settles_calmer : (v : Volume) (name : List ℕ) (es : List Step) → SettlesFound v name es
    → Calmer v (after_steps v es)
settles_calmer v name es (probe, syncs, probes, found, is) =
    to_steps v es (probe ++ syncs) is (calmer_append v probe syncs (tries_calmer v (draft_of name) probe probes)
    (syncs_calmer (after_steps v probe) name (v.names name) syncs found))

breaks_try_calmer : (v : Volume) (draft : List ℕ) (es : List Step) → BreaksTry v draft es → Calmer v (after_steps v es)
breaks_try_calmer v draft es (inl none) = to_steps v es [] none (calmer_same v)
breaks_try_calmer v draft es (inr (absent, i, new, inl is)) =
    to_steps v es (Broke (create draft i) ∷ []) is (calmer_unmade draft i v)
breaks_try_calmer v draft es (inr (absent, i, new, inr (inl is))) =
    to_steps v es (Did (create draft i) ∷ []) is (calmer_made draft i v)
breaks_try_calmer v draft es (inr (absent, i, new, inr (inr is))) =
    let u : Volume = after_step (create draft i) v in
    to_steps v es (Did (create draft i) ∷ Broke (unlink draft) ∷ []) is
    (calmer_on v u (step_part (unlink draft) u) (calmer_made draft i v) (calmer_may draft None u))

breaks_syncs_calmer : (v : Volume) (name : List ℕ) (e : Option ℕ) (es : List Step)
    → ((j : ℕ) → e ≡ Some j → IsCalm (v.nodes j)) → BreaksSyncs name e es → Calmer v (after_steps v es)
breaks_syncs_calmer v name e es calm (inl none) = to_steps v es [] none (calmer_same v)
breaks_syncs_calmer v name e es calm (inr (inl is)) =
    to_steps v es (Broke (sync_folder (folder_of name)) ∷ []) is (calmer_same v)
breaks_syncs_calmer v name e es calm (inr (inr (inl is))) =
    to_steps v es (Did (sync_folder (folder_of name)) ∷ []) is (calmer_folder (folder_of name) v)
breaks_syncs_calmer v name e es calm (inr (inr (inr (j, leads, is)))) =
    let u : Volume = after_step (sync_folder (folder_of name)) v in
    to_steps v es (Did (sync_folder (folder_of name)) ∷ Broke (sync_file j) ∷ []) is
    (calmer_on v u (step_part (sync_file j) u) (calmer_folder (folder_of name) v) (calmer_unsynced j u (calm j leads)))

pub breaks_settles_calmer : (v : Volume) (name : List ℕ) (es : List Step)
    → ((j : ℕ) → v.names name ≡ Some j → IsCalm (v.nodes j)) → BreaksSettles v name es → Calmer v (after_steps v es)
breaks_settles_calmer v name es calm (inl h) = breaks_try_calmer v (draft_of name) es h
breaks_settles_calmer v name es calm (inr (probe, syncs, probes, broken, is)) =
    let p : Calmer v (after_steps v probe) = tries_calmer v (draft_of name) probe probes in
    to_steps v es (probe ++ syncs) is (calmer_append v probe syncs p
    (breaks_syncs_calmer (after_steps v probe) name (v.names name) syncs (λ j leads. p.nodes j (calm j leads)) broken))

pub removes_calmer : (v : Volume) (name : List ℕ) (es : List Step) → Removes v name es → Calmer v (after_steps v es)
removes_calmer v name es (inl h) = to_steps v es [] h.1 (calmer_same v)
removes_calmer v name es (inr is) = to_steps v es (Did (unlink name) ∷ []) is (calmer_gone name v)

pub breaks_remove_calmer : (v : Volume) (name : List ℕ) (es : List Step) → IsBroken (unlink name) es
    → Calmer v (after_steps v es)
breaks_remove_calmer v name es (inl is) = to_steps v es [] is (calmer_same v)
breaks_remove_calmer v name es (inr is) = to_steps v es (Broke (unlink name) ∷ []) is (calmer_may name None v)
