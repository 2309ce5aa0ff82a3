-- How calls of the kernel keep files calm: nothing of these waits for a sync, and nothing is lost.
use Rattle.std.proofs.Common.{◌≡◌, ◌⊎◌, inl, inr, ℕ, ◌+◌, eqb, List, [], ◌∷◌, ◌++◌, length, Option, Some, None, refl, sym, ◌∙◌, ap, subst}
use Rattle.std.specs.Bool.{⊤}
use Rattle.std.specs.Str.{bytes_eq}
use Rattle.std.proofs.lemmas.Bool.{cases_Bool, cond-false, cond-true}
use Rattle.kernel_files.specs.Volume.{Node, Volume, Call, create, write, append, sync_file, rename, unlink, sync_folder, folder_of, with_piece, with_end, with_loss, synced, new_node, lead, may_lead, at_node, Entry as Step, Done as Did, Failed as Broke, entered, after as after_steps, after_done as after_step, after_part as step_part, IsAtRest}
use Rattle.kernel_files.specs.ImageCalls.{Writes}
use Rattle.kernel_files.proofs.Volumes.{node_here, node_other, names_other, may_other}
use Rattle.kernel_laws.specs.Loses.{call_of, file_of, WritesTo}
use Rattle.kernel_laws.specs.Refines.{IsAmong, Begun}
use Rattle.kernel_laws.specs.Site.{Opened, IsCalm}
use Rattle.kernel_laws.proofs.Names.{is_name, not_name, either_node, free_at}
use Rattle.kernel_laws.proofs.Spares.{Avoids, AvoidsAll, some_is, none_isnt}

-- Files.

pub new_calm : IsCalm new_node
new_calm = record { loose = refl; lost = refl }

pub rest_calm : (v : Volume) → IsAtRest v → (i : ℕ) → IsCalm (v.nodes i)
rest_calm v rest i = record { loose = rest.loose i; lost = rest.lost i }

pub synced_calm : (f : Node) → IsCalm f → IsCalm (synced f)
synced_calm f h = record { loose = h.lost; lost = h.lost }

-- a failed sync of a calm file loses nothing
pub unsynced_calm : (f : Node) → IsCalm f → IsCalm (record f { lost = f.loose })
unsynced_calm f h = record { loose = h.loose; lost = h.loose }

-- a sync that returned makes a file calm of which nothing was lost
pub sync_calms : (f : Node) → f.lost ≡ [] → IsCalm (synced f)
sync_calms f none = record { loose = none; lost = none }

-- a calm file to which a call writes nothing stays calm
calm_done : (k : ℕ) (call : Call) (v : Volume) → (WritesTo k call → ⊥) → IsCalm (v.nodes k)
    → IsCalm ((after_step call v).nodes k)
calm_done k (create name i) v other h = either_node IsCalm (eqb k i) new_node (v.nodes k) new_calm h
calm_done k (write i pos piece) v other h =
    subst IsCalm (sym (node_other i k (with_piece pos piece) v (λ e. other (sym e)))) h
calm_done k (append i piece) v other h = subst IsCalm (sym (node_other i k (with_end piece) v (λ e. other (sym e)))) h
calm_done k (sync_file i) v other h =
    either_node IsCalm (eqb k i) (synced (v.nodes k)) (v.nodes k) (synced_calm (v.nodes k) h) h
calm_done k (rename from to) v other h = h
calm_done k (unlink name) v other h = h
calm_done k (sync_folder folder) v other h = h

calm_part : (k : ℕ) (call : Call) (v : Volume) → (WritesTo k call → ⊥) → IsCalm (v.nodes k)
    → IsCalm ((step_part call v).nodes k)
calm_part k (create name i) v other h = either_node IsCalm (eqb k i) new_node (v.nodes k) new_calm h
calm_part k (write i pos piece) v other h =
    subst IsCalm (sym (node_other i k (with_loss pos (length piece)) v (λ e. other (sym e)))) h
calm_part k (append i piece) v other h =
    subst IsCalm (sym (node_other i k (λ f. with_loss (length f.bytes) (length piece) f) v (λ e. other (sym e)))) h
calm_part k (sync_file i) v other h =
    either_node IsCalm (eqb k i) (record (v.nodes k) { lost = (v.nodes k).loose }) (v.nodes k)
    (unsynced_calm (v.nodes k) h) h
calm_part k (rename from to) v other h = h
calm_part k (unlink name) v other h = h
calm_part k (sync_folder folder) v other h = h

pub calm_node : (k : ℕ) (e : Step) (v : Volume) → (WritesTo k (call_of e) → ⊥) → IsCalm (v.nodes k)
    → IsCalm ((entered v e).nodes k)
calm_node k (Did call) v other h = calm_done k call v other h
calm_node k (Broke call) v other h = calm_part k call v other h

-- none of these calls writes to a file
abbrev pub NoneWrites : ℕ → List Step → Type 0
NoneWrites k [] = ⊤
NoneWrites k (e ∷ es) = (WritesTo k (call_of e) → ⊥) × NoneWrites k es

pub calm_nodes : (k : ℕ) (es : List Step) (v : Volume) → NoneWrites k es → IsCalm (v.nodes k)
    → IsCalm ((after_steps v es).nodes k)
calm_nodes k [] v none h = h
calm_nodes k (e ∷ es) v none h = calm_nodes k es (entered v e) none.1 (calm_node k e v none.0 h)

-- All files but some.

-- each file is calm to which a name leads, except for these names
abbrev pub CalmBut : (List ℕ → Type 0) → Volume → Type 0
CalmBut skips v = (name : List ℕ) (i : ℕ) → v.names name ≡ Some i → (skips name → ⊥) → IsCalm (v.nodes i)

-- the names of the image, of the draft and of the draft that was left
abbrev pub Skips : Opened → List ℕ → Type 0
Skips o name = (o.image_name ≡ Some name) ⊎ ((o.draft_name ≡ Some name) ⊎ (o.left ≡ Some name))

-- the form that `IsRun` has
abbrev pub CalmOf : Opened → Volume → Type 0
CalmOf o v = (name : List ℕ) (i : ℕ) → v.names name ≡ Some i → (o.image_name ≡ Some name → ⊥)
    → (o.draft_name ≡ Some name → ⊥) → (o.left ≡ Some name → ⊥) → IsCalm (v.nodes i)

pub to_but : (o : Opened) (v : Volume) → CalmOf o v → CalmBut (Skips o) v
to_but o v h name i is skips =
    h name i is (λ e. skips (inl e)) (λ e. skips (inr (inl e))) (λ e. skips (inr (inr e)))

pub of_but : (o : Opened) (v : Volume) → CalmBut (Skips o) v → CalmOf o v
of_but o v h name i is image draft left =
    h name i is (λ s. elim s [
      | inl e ↦ image e
      | inr t ↦ elim t [ inl e ↦ draft e | inr e ↦ left e ]
    ])

-- all is calm at first
pub rest_but : (skips : List ℕ → Type 0) (v : Volume) → IsAtRest v → CalmBut skips v
rest_but skips v rest name i is other = rest_calm v rest i

module _ (skips : List ℕ → Type 0) where
  -- What a call may do: it writes only to a file of names that needn't be calm, and what it renames is calm.
  abbrev pub KeepsCalm : Volume → Call → Type 0
  KeepsCalm v (create name i) = ⊤
  KeepsCalm v (write i pos piece) = (n : List ℕ) → v.names n ≡ Some i → skips n
  KeepsCalm v (append i piece) = (n : List ℕ) → v.names n ≡ Some i → skips n
  KeepsCalm v (sync_file i) = ⊤
  KeepsCalm v (rename from to) = (i : ℕ) → v.names from ≡ Some i → IsCalm (v.nodes i)
  KeepsCalm v (unlink name) = ⊤
  KeepsCalm v (sync_folder folder) = ⊤

  abbrev pub AllKeepCalm : Volume → List Step → Type 0
  AllKeepCalm v [] = ⊤
  AllKeepCalm v (e ∷ es) = KeepsCalm v (call_of e) × AllKeepCalm (entered v e) es

  -- a name leads to another file, which is calm
  but_lead : (name : List ℕ) (e : Option ℕ) (v : Volume) → ((i : ℕ) → e ≡ Some i → IsCalm (v.nodes i)) → CalmBut skips v
      → CalmBut skips (lead name e v)
  but_lead name e v calm h n i is other =
      elim (cases_Bool (bytes_eq n name)) [
        | inl same ↦ calm i (sym (cond-true (bytes_eq n name) e (v.names n) same) ∙ is)
        | inr apart ↦ h n i (sym (cond-false (bytes_eq n name) e (v.names n) apart) ∙ is) other
      ]

  -- a file changes that only names lead to which needn't be calm
  but_write : (i : ℕ) (change : Node → Node) (v : Volume) → ((n : List ℕ) → v.names n ≡ Some i → skips n)
      → CalmBut skips v → CalmBut skips (at_node i change v)
  but_write i change v own h n j is other =
      subst IsCalm (sym (node_other i j change v (λ e. other (own n (is ∙ ap (λ (k : ℕ). Some k) e))))) (h n j is other)

  -- a change keeps each calm file so
  but_each : (w v : Volume) → w.names ≡ v.names → ((i : ℕ) → IsCalm (v.nodes i) → IsCalm (w.nodes i)) → CalmBut skips v
      → CalmBut skips w
  but_each w v names keep h n i is other =
      keep i (h n i (ap (λ (f : List ℕ → Option ℕ). f n) (sym names) ∙ is) other)

  but_done : (call : Call) (v : Volume) → KeepsCalm v call → CalmBut skips v → CalmBut skips (after_step call v)
  but_done (create name i) v keeps h =
      let new : Volume = at_node i (λ f. new_node) v in
      but_lead name (Some i) new
      (λ j e. subst (λ (k : ℕ). IsCalm (new.nodes k)) (some_is i j e)
      (subst IsCalm (sym (node_here i (λ f. new_node) v)) new_calm))
      (but_each new v refl (λ j c. calm_done j (create name i) v (λ bad. bad) c) h)
  but_done (write i pos piece) v keeps h = but_write i (with_piece pos piece) v keeps h
  but_done (append i piece) v keeps h = but_write i (with_end piece) v keeps h
  but_done (sync_file i) v keeps h =
      but_each (after_step (sync_file i) v) v refl (λ j c. calm_done j (sync_file i) v (λ bad. bad) c) h
  but_done (rename from to) v keeps h =
      but_lead to (v.names from) (lead from None v) keeps (but_lead from None v (λ i e. absurd (none_isnt i e)) h)
  but_done (unlink name) v keeps h = but_lead name None v (λ i e. absurd (none_isnt i e)) h
  but_done (sync_folder folder) v keeps h = h

  but_part : (call : Call) (v : Volume) → KeepsCalm v call → CalmBut skips v → CalmBut skips (step_part call v)
  but_part (create name i) v keeps h =
      but_each (step_part (create name i) v) v refl (λ j c. calm_part j (create name i) v (λ bad. bad) c) h
  but_part (write i pos piece) v keeps h = but_write i (with_loss pos (length piece)) v keeps h
  but_part (append i piece) v keeps h =
      but_write i (λ f. with_loss (length f.bytes) (length piece) f) v keeps h
  but_part (sync_file i) v keeps h =
      but_each (step_part (sync_file i) v) v refl (λ j c. calm_part j (sync_file i) v (λ bad. bad) c) h
  but_part (rename from to) v keeps h = h
  but_part (unlink name) v keeps h = h
  but_part (sync_folder folder) v keeps h = h

  pub but_step : (e : Step) (v : Volume) → KeepsCalm v (call_of e) → CalmBut skips v → CalmBut skips (entered v e)
  but_step (Did call) v keeps h = but_done call v keeps h
  but_step (Broke call) v keeps h = but_part call v keeps h

  pub but_steps : (es : List Step) (v : Volume) → AllKeepCalm v es → CalmBut skips v → CalmBut skips (after_steps v es)
  but_steps [] v keeps h = h
  but_steps (e ∷ es) v keeps h = but_steps es (entered v e) keeps.1 (but_step e v keeps.0 h)

-- One file.

-- a call on other files leaves a file as it is
pub node_same : (k : ℕ) (e : Step) (v : Volume) → (file_of (call_of e) ≡ Some k → ⊥)
    → (entered v e).nodes k ≡ v.nodes k
node_same k (Did (create name i)) v other =
    node_other i k (λ f. new_node) v (λ e. other (ap (λ (j : ℕ). Some j) (sym e)))
node_same k (Did (write i pos piece)) v other =
    node_other i k (with_piece pos piece) v (λ e. other (ap (λ (j : ℕ). Some j) (sym e)))
node_same k (Did (append i piece)) v other =
    node_other i k (with_end piece) v (λ e. other (ap (λ (j : ℕ). Some j) (sym e)))
node_same k (Did (sync_file i)) v other = node_other i k synced v (λ e. other (ap (λ (j : ℕ). Some j) (sym e)))
node_same k (Did (rename from to)) v other = refl
node_same k (Did (unlink name)) v other = refl
node_same k (Did (sync_folder folder)) v other = refl
node_same k (Broke (create name i)) v other =
    node_other i k (λ f. new_node) v (λ e. other (ap (λ (j : ℕ). Some j) (sym e)))
node_same k (Broke (write i pos piece)) v other =
    node_other i k (with_loss pos (length piece)) v (λ e. other (ap (λ (j : ℕ). Some j) (sym e)))
node_same k (Broke (append i piece)) v other =
    node_other i k (λ f. with_loss (length f.bytes) (length piece) f) v (λ e. other (ap (λ (j : ℕ). Some j) (sym e)))
node_same k (Broke (sync_file i)) v other =
    node_other i k (λ f. record f { lost = f.loose }) v (λ e. other (ap (λ (j : ℕ). Some j) (sym e)))
node_same k (Broke (rename from to)) v other = refl
node_same k (Broke (unlink name)) v other = refl
node_same k (Broke (sync_folder folder)) v other = refl

-- none of these calls is on a file
abbrev pub Elsewhere : ℕ → List Step → Type 0
Elsewhere k [] = ⊤
Elsewhere k (e ∷ es) = (file_of (call_of e) ≡ Some k → ⊥) × Elsewhere k es

pub nodes_same : (k : ℕ) (es : List Step) (v : Volume) → Elsewhere k es → (after_steps v es).nodes k ≡ v.nodes k
nodes_same k [] v other = refl
nodes_same k (e ∷ es) v other = nodes_same k es (entered v e) other.1 ∙ node_same k e v other.0

-- One entry.

-- a name keeps what it leads to, and a stop leaves nothing else under it
pub record Settled (name : List ℕ) (i : ℕ) (v : Volume) : Type 0 where
  pub named : v.names name ≡ Some i
  pub may : v.may name ≡ Some i ∷ []

settled_lead : (name : List ℕ) (i : ℕ) (n : List ℕ) (e : Option ℕ) (v : Volume) → (name ≡ n → ⊥) → Settled name i v
    → Settled name i (lead n e v)
settled_lead name i n e v apart h = record {
  named = names_other n name e v apart ∙ h.named;
  may = may_other n name e v apart ∙ h.may;
}

settled_may : (name : List ℕ) (i : ℕ) (n : List ℕ) (e : Option ℕ) (v : Volume) → (name ≡ n → ⊥) → Settled name i v
    → Settled name i (may_lead n e v)
settled_may name i n e v apart h = record { named = h.named; may = may_other n name e v apart ∙ h.may }

settled_folder : (name : List ℕ) (i : ℕ) (folder : List ℕ) (v : Volume) → Settled name i v
    → Settled name i (after_step (sync_folder folder) v)
settled_folder name i folder v h = record {
  named = h.named;
  may = elim (cases_Bool (bytes_eq (folder_of name) folder)) [
    | inl e ↦ cond-true (bytes_eq (folder_of name) folder) (v.names name ∷ []) (v.may name) e
        ∙ ap (λ (x : Option ℕ). x ∷ []) h.named
    | inr e ↦ cond-false (bytes_eq (folder_of name) folder) (v.names name ∷ []) (v.may name) e ∙ h.may
  ];
}

-- a call that changes nothing under a name
abbrev pub Leaves : List ℕ → Call → Type 0
Leaves name (create n i) = name ≡ n → ⊥
Leaves name (write i pos piece) = ⊤
Leaves name (append i piece) = ⊤
Leaves name (sync_file i) = ⊤
Leaves name (rename from to) = (name ≡ from → ⊥) × (name ≡ to → ⊥)
Leaves name (unlink n) = name ≡ n → ⊥
Leaves name (sync_folder folder) = ⊤

abbrev pub AllLeave : List ℕ → List Step → Type 0
AllLeave name [] = ⊤
AllLeave name (e ∷ es) = Leaves name (call_of e) × AllLeave name es

settled_done : (name : List ℕ) (i : ℕ) (call : Call) (v : Volume) → Leaves name call → Settled name i v
    → Settled name i (after_step call v)
settled_done name i (create n j) v a h =
    settled_lead name i n (Some j) (at_node j (λ f. new_node) v) a (record { named = h.named; may = h.may })
settled_done name i (write j pos piece) v a h = record { named = h.named; may = h.may }
settled_done name i (append j piece) v a h = record { named = h.named; may = h.may }
settled_done name i (sync_file j) v a h = record { named = h.named; may = h.may }
settled_done name i (rename from to) v a h =
    settled_lead name i to (v.names from) (lead from None v) a.1 (settled_lead name i from None v a.0 h)
settled_done name i (unlink n) v a h = settled_lead name i n None v a h
settled_done name i (sync_folder folder) v a h = settled_folder name i folder v h

settled_part : (name : List ℕ) (i : ℕ) (call : Call) (v : Volume) → Leaves name call → Settled name i v
    → Settled name i (step_part call v)
settled_part name i (create n j) v a h =
    settled_may name i n (Some j) (at_node j (λ f. new_node) v) a (record { named = h.named; may = h.may })
settled_part name i (write j pos piece) v a h = record { named = h.named; may = h.may }
settled_part name i (append j piece) v a h = record { named = h.named; may = h.may }
settled_part name i (sync_file j) v a h = record { named = h.named; may = h.may }
settled_part name i (rename from to) v a h =
    settled_may name i to (v.names from) (may_lead from None v) a.1 (settled_may name i from None v a.0 h)
settled_part name i (unlink n) v a h = settled_may name i n None v a h
settled_part name i (sync_folder folder) v a h = h

pub settled_all : (name : List ℕ) (i : ℕ) (es : List Step) (v : Volume) → AllLeave name es → Settled name i v
    → Settled name i (after_steps v es)
settled_all name i [] v a h = h
settled_all name i (Did call ∷ es) v a h =
    settled_all name i es (after_step call v) a.1 (settled_done name i call v a.0 h)
settled_all name i (Broke call ∷ es) v a h =
    settled_all name i es (step_part call v) a.1 (settled_part name i call v a.0 h)

-- calls that avoid a file under its name change nothing of either
avoid_leave : (name : List ℕ) (i : ℕ) (call : Call) → Avoids name i call → Leaves name call
avoid_leave name i (create n j) a = a.0
avoid_leave name i (write j pos piece) a = tt
avoid_leave name i (append j piece) a = tt
avoid_leave name i (sync_file j) a = tt
avoid_leave name i (rename from to) a = a
avoid_leave name i (unlink n) a = a
avoid_leave name i (sync_folder folder) a = tt

pub avoids_leave : (name : List ℕ) (i : ℕ) (es : List Step) → AvoidsAll name i es → AllLeave name es
avoids_leave name i [] a = tt
avoids_leave name i (Did call ∷ es) a = (avoid_leave name i call a.0, avoids_leave name i es a.1)
avoids_leave name i (Broke call ∷ es) a = (avoid_leave name i call a.0, avoids_leave name i es a.1)

-- Calls on one file: writes and syncs of it, and syncs of folders.

abbrev pub IsOn : ℕ → Call → Type 0
IsOn i (write j pos piece) = j ≡ i
IsOn i (append j piece) = j ≡ i
IsOn i (sync_file j) = j ≡ i
IsOn i (sync_folder folder) = ⊤
IsOn i call = ⊥

abbrev pub AllOn : ℕ → List Step → Type 0
AllOn i [] = ⊤
AllOn i (e ∷ es) = IsOn i (call_of e) × AllOn i es

pub on_append : (i : ℕ) (a b : List Step) → AllOn i a → AllOn i b → AllOn i (a ++ b)
on_append i [] b h k = k
on_append i (e ∷ a) b h k = (h.0, on_append i a b h.1 k)

pub writes_on : (i pos : ℕ) (piece : List ℕ) (es : List Step) → Writes i pos piece es → AllOn i es
writes_on i pos piece [] h = tt
writes_on i pos piece (Did (write j place p) ∷ es) h = (h.1, writes_on i (pos + length p) h.0 es h.4)
writes_on i pos piece (e ∷ es) h = absurd h

-- they change no name
on_leaves : (name : List ℕ) (i : ℕ) (call : Call) → IsOn i call → Leaves name call
on_leaves name i (create n j) h = absurd h
on_leaves name i (write j pos piece) h = tt
on_leaves name i (append j piece) h = tt
on_leaves name i (sync_file j) h = tt
on_leaves name i (rename from to) h = absurd h
on_leaves name i (unlink n) h = absurd h
on_leaves name i (sync_folder folder) h = tt

pub on_leave : (name : List ℕ) (i : ℕ) (es : List Step) → AllOn i es → AllLeave name es
on_leave name i [] h = tt
on_leave name i (e ∷ es) h = (on_leaves name i (call_of e) h.0, on_leave name i es h.1)

-- and no other file
on_other : (k i : ℕ) (call : Call) → (k ≡ i → ⊥) → IsOn i call → file_of call ≡ Some k → ⊥
on_other k i (create n j) apart h e = absurd h
on_other k i (write j pos piece) apart h e = apart (sym (some_is j k e) ∙ h)
on_other k i (append j piece) apart h e = apart (sym (some_is j k e) ∙ h)
on_other k i (sync_file j) apart h e = apart (sym (some_is j k e) ∙ h)
on_other k i (rename from to) apart h e = absurd h
on_other k i (unlink n) apart h e = absurd h
on_other k i (sync_folder folder) apart h e = none_isnt k e

pub on_elsewhere : (k i : ℕ) (es : List Step) → (k ≡ i → ⊥) → AllOn i es → Elsewhere k es
on_elsewhere k i [] apart h = tt
on_elsewhere k i (e ∷ es) apart h = (on_other k i (call_of e) apart h.0, on_elsewhere k i es apart h.1)

-- the names are what they were
on_names_done : (i : ℕ) (call : Call) (v : Volume) → IsOn i call → (after_step call v).names ≡ v.names
on_names_done i (create n j) v h = absurd h
on_names_done i (write j pos piece) v h = refl
on_names_done i (append j piece) v h = refl
on_names_done i (sync_file j) v h = refl
on_names_done i (rename from to) v h = absurd h
on_names_done i (unlink n) v h = absurd h
on_names_done i (sync_folder folder) v h = refl

on_names_part : (i : ℕ) (call : Call) (v : Volume) → IsOn i call → (step_part call v).names ≡ v.names
on_names_part i (create n j) v h = refl
on_names_part i (write j pos piece) v h = refl
on_names_part i (append j piece) v h = refl
on_names_part i (sync_file j) v h = refl
on_names_part i (rename from to) v h = refl
on_names_part i (unlink n) v h = refl
on_names_part i (sync_folder folder) v h = refl

on_names : (i : ℕ) (e : Step) (v : Volume) → IsOn i (call_of e) → (entered v e).names ≡ v.names
on_names i (Did call) v h = on_names_done i call v h
on_names i (Broke call) v h = on_names_part i call v h

on_keeps : (skips : List ℕ → Type 0) (i : ℕ) (call : Call) (v : Volume) → IsOn i call
    → ((n : List ℕ) → v.names n ≡ Some i → skips n) → KeepsCalm skips v call
on_keeps skips i (create n j) v h own = absurd h
on_keeps skips i (write j pos piece) v h own = λ n e. own n (e ∙ ap (λ (k : ℕ). Some k) h)
on_keeps skips i (append j piece) v h own = λ n e. own n (e ∙ ap (λ (k : ℕ). Some k) h)
on_keeps skips i (sync_file j) v h own = tt
on_keeps skips i (rename from to) v h own = absurd h
on_keeps skips i (unlink n) v h own = absurd h
on_keeps skips i (sync_folder folder) v h own = tt

-- other files stay calm, if the names of this one needn't be calm
pub on_keep : (skips : List ℕ → Type 0) (i : ℕ) (es : List Step) (v : Volume) → AllOn i es
    → ((n : List ℕ) → v.names n ≡ Some i → skips n) → AllKeepCalm skips v es
on_keep skips i [] v h own = tt
on_keep skips i (e ∷ es) v h own = (
  on_keeps skips i (call_of e) v h.0 own,
  on_keep skips i es (entered v e) h.1
      (λ n is. own n (sym (ap (λ (f : List ℕ → Option ℕ). f n) (on_names i e v h.0)) ∙ is)),
)

-- a file that has a name of its own has no other
pub own_name_only : (name : List ℕ) (i : ℕ) (v : Volume) → Begun name i v
    → ((n : List ℕ) → IsAmong (v.names n) (v.may n)) → (n : List ℕ) → v.names n ≡ Some i → n ≡ name
own_name_only name i v b here n is =
    elim (cases_Bool (bytes_eq n name)) [
      | inl same ↦ is_name n name same
      | inr apart ↦ absurd (free_at i (v.names n) (v.may n) (b.apart n (not_name n name apart)) (here n) is)
    ]
