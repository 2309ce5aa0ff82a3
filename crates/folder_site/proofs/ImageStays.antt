-- What calls of a kernel leave of the image: its name leads to the same file, which reads as before.
use Rattle.std.proofs.Common.{◌≡◌, inl, inr, ℕ, Bool, true, false, cond, eqb, List, [], ◌∷◌, ◌++◌, length, take, Option, Some, None, refl, sym, ◌∙◌, ap, subst}
use Rattle.std.specs.Bool.{⊤}
use Rattle.crash_site.specs.Files.{draft_of}
use Rattle.kernel_files.specs.Volume.{Node, Volume, create, write, append, sync_file, rename, unlink, sync_folder, Entry as Step, Done as Did, Failed as Broke, new_node, with_end, with_loss, with_piece, synced, at_node, lead, entered, after as after_steps, after_done as after_step, folder_of, IsNew}
use Rattle.kernel_files.specs.Steps.{IsBroken}
use Rattle.kernel_files.specs.MapCalls.{Begins, Appends, BreaksBegin, BreaksAppend, Tries, Removes, SyncsFound, SettlesFound, BreaksTry, BreaksSyncs, BreaksSettles}
use Rattle.kernel_files.proofs.Volumes.{node_other, names_other}

-- a name leads to a file, which reads so
pub record Reads (n : List ℕ) (i : ℕ) (bytes : List ℕ) (v : Volume) : Type 0 where
  pub named : v.names n ≡ Some i
  pub text : (v.nodes i).bytes ≡ bytes

-- a call that isn't on this name, and writes no byte of this file
abbrev pub Spares : List ℕ → ℕ → Step → Type 0
Spares n i (Did (create m j)) = (n ≡ m → ⊥) × (i ≡ j → ⊥)
Spares n i (Did (write j pos piece)) = i ≡ j → ⊥
Spares n i (Did (append j piece)) = i ≡ j → ⊥
Spares n i (Did (sync_file j)) = ⊤
Spares n i (Did (rename from to)) = (n ≡ from → ⊥) × (n ≡ to → ⊥)
Spares n i (Did (unlink m)) = n ≡ m → ⊥
Spares n i (Did (sync_folder m)) = ⊤
Spares n i (Broke (create m j)) = i ≡ j → ⊥
Spares n i (Broke call) = ⊤

abbrev pub SparesAll : List ℕ → ℕ → List Step → Type 0
SparesAll n i [] = ⊤
SparesAll n i (e ∷ es) = Spares n i e × SparesAll n i es

one_text : (b : Bool) (f : Node → Node) (x : Node) → (f x).bytes ≡ x.bytes → (cond b (f x) x).bytes ≡ x.bytes
one_text true f x same = same
one_text false f x same = refl

-- a change that leaves a file's bytes leaves those of each file
same_text : (j : ℕ) (f : Node → Node) (v : Volume) → ((x : Node) → (f x).bytes ≡ x.bytes) → (i : ℕ)
    → ((at_node j f v).nodes i).bytes ≡ (v.nodes i).bytes
same_text j f v same i = one_text (eqb i j) f (v.nodes i) (same (v.nodes i))

no_file : (i : ℕ) → Some i ≡ None → ⊥
no_file i e = cc

module _ (n : List ℕ) (i : ℕ) (bytes : List ℕ) where
  at_other : (j : ℕ) (f : Node → Node) (v : Volume) → (i ≡ j → ⊥) → Reads n i bytes v → Reads n i bytes (at_node j f v)
  at_other j f v other h =
      record { named = h.named; text = ap (λ (x : Node). x.bytes) (node_other j i f v other) ∙ h.text }

  at_same : (j : ℕ) (f : Node → Node) (v : Volume) → ((x : Node) → (f x).bytes ≡ x.bytes) → Reads n i bytes v
      → Reads n i bytes (at_node j f v)
  at_same j f v same h = record { named = h.named; text = same_text j f v same i ∙ h.text }

  led_other : (m : List ℕ) (e : Option ℕ) (v : Volume) → (n ≡ m → ⊥) → Reads n i bytes v → Reads n i bytes (lead m e v)
  led_other m e v other h = record { named = names_other m n e v other ∙ h.named; text = h.text }

  spared : (e : Step) (v : Volume) → Spares n i e → Reads n i bytes v → Reads n i bytes (entered v e)
  spared (Did (create m j)) v s h =
      led_other m (Some j) (at_node j (λ f. new_node) v) s.0 (at_other j (λ f. new_node) v s.1 h)
  spared (Did (write j pos piece)) v s h = at_other j (with_piece pos piece) v s h
  spared (Did (append j piece)) v s h = at_other j (with_end piece) v s h
  spared (Did (sync_file j)) v s h = at_same j synced v (λ x. refl) h
  spared (Did (rename from to)) v s h =
      led_other to (v.names from) (lead from None v) s.1 (led_other from None v s.0 h)
  spared (Did (unlink m)) v s h = led_other m None v s h
  spared (Did (sync_folder m)) v s h = record { named = h.named; text = h.text }
  spared (Broke (create m j)) v s h =
      let k : Reads n i bytes (at_node j (λ f. new_node) v) = at_other j (λ f. new_node) v s h in
      record { named = k.named; text = k.text }
  spared (Broke (write j pos piece)) v s h = at_same j (with_loss pos (length piece)) v (λ x. refl) h
  spared (Broke (append j piece)) v s h =
      at_same j (λ f. with_loss (length f.bytes) (length piece) f) v (λ x. refl) h
  spared (Broke (sync_file j)) v s h = at_same j (λ f. record f { lost = f.loose }) v (λ x. refl) h
  spared (Broke (rename from to)) v s h = record { named = h.named; text = h.text }
  spared (Broke (unlink m)) v s h = record { named = h.named; text = h.text }
  spared (Broke (sync_folder m)) v s h = h

  pub spared_all : (es : List Step) (v : Volume) → SparesAll n i es → Reads n i bytes v
      → Reads n i bytes (after_steps v es)
  spared_all [] v s h = h
  spared_all (e ∷ es) v s h = spared_all es (entered v e) s.1 (spared e v s.0 h)

-- Calls that leave each name where it leads.

abbrev pub StaysNamed : Step → Type 0
StaysNamed (Did (create m j)) = ⊥
StaysNamed (Did (rename from to)) = ⊥
StaysNamed (Did (unlink m)) = ⊥
StaysNamed e = ⊤

abbrev pub AllStayNamed : List Step → Type 0
AllStayNamed [] = ⊤
AllStayNamed (e ∷ es) = StaysNamed e × AllStayNamed es

stays_named : (e : Step) (v : Volume) → StaysNamed e → (entered v e).names ≡ v.names
stays_named (Did (create m j)) v s = absurd s
stays_named (Did (write j pos piece)) v s = refl
stays_named (Did (append j piece)) v s = refl
stays_named (Did (sync_file j)) v s = refl
stays_named (Did (rename from to)) v s = absurd s
stays_named (Did (unlink m)) v s = absurd s
stays_named (Did (sync_folder m)) v s = refl
stays_named (Broke (create m j)) v s = refl
stays_named (Broke (write j pos piece)) v s = refl
stays_named (Broke (append j piece)) v s = refl
stays_named (Broke (sync_file j)) v s = refl
stays_named (Broke (rename from to)) v s = refl
stays_named (Broke (unlink m)) v s = refl
stays_named (Broke (sync_folder m)) v s = refl

pub all_stay_named : (es : List Step) (v : Volume) → AllStayNamed es → (after_steps v es).names ≡ v.names
all_stay_named [] v s = refl
all_stay_named (e ∷ es) v s = all_stay_named es (entered v e) s.1 ∙ stays_named e v s.0

both_stay_named : (es fs : List Step) → AllStayNamed es → AllStayNamed fs → AllStayNamed (es ++ fs)
both_stay_named [] fs s t = t
both_stay_named (e ∷ es) fs s t = (s.0, both_stay_named es fs s.1 t)

pub appends_stay : (j : ℕ) (piece : List ℕ) (es : List Step) → Appends j piece es → AllStayNamed es
appends_stay j piece [] h = tt
appends_stay j piece (Did (append k p) ∷ es) h = (tt, appends_stay j h.0 es h.3)
appends_stay j piece (e ∷ es) h = absurd h

pub append_stays : (j : ℕ) (piece : List ℕ) (steps : ℕ) (es : List Step) → BreaksAppend j piece steps es
    → AllStayNamed es
append_stays j piece steps es (front, made, inl is) =
    subst AllStayNamed (sym is) (appends_stay j (take steps piece) front made)
append_stays j piece steps es (front, made, inr is) =
    subst AllStayNamed (sym is.1)
    (both_stay_named front (Broke (append j is.0) ∷ []) (appends_stay j (take steps piece) front made) (tt, tt))

-- What each call of a site leaves so.

module _ (n : List ℕ) (i : ℕ) where
  both_spare : (es fs : List Step) → SparesAll n i es → SparesAll n i fs → SparesAll n i (es ++ fs)
  both_spare [] fs s t = t
  both_spare (e ∷ es) fs s t = (s.0, both_spare es fs s.1 t)

  spares_as : (es fs : List Step) → es ≡ fs → SparesAll n i fs → SparesAll n i es
  spares_as es fs e s = subst (SparesAll n i) (sym e) s

  not_new : (v : Volume) (j : ℕ) → IsNew v j → v.names n ≡ Some i → i ≡ j → ⊥
  not_new v j new named e = new.named n (named ∙ ap (λ (k : ℕ). Some k) e)

  pub appends_spare : (j : ℕ) (piece : List ℕ) (es : List Step) → (i ≡ j → ⊥) → Appends j piece es → SparesAll n i es
  appends_spare j piece [] other h = tt
  appends_spare j piece (Did (append k p) ∷ es) other h =
      ((λ e. other (e ∙ h.1)), appends_spare j h.0 es other h.3)
  appends_spare j piece (e ∷ es) other h = absurd h

  pub append_spares : (j : ℕ) (piece : List ℕ) (steps : ℕ) (es : List Step) → (i ≡ j → ⊥)
      → BreaksAppend j piece steps es → SparesAll n i es
  append_spares j piece steps es other (front, made, inl is) =
      spares_as es front is (appends_spare j (take steps piece) front other made)
  append_spares j piece steps es other (front, made, inr is) =
      spares_as es (front ++ Broke (append j is.0) ∷ []) is.1
      (both_spare front (Broke (append j is.0) ∷ []) (appends_spare j (take steps piece) front other made) (tt, tt))

  module _ (v : Volume) (name : List ℕ) (named : v.names n ≡ Some i) (other : n ≡ name → ⊥) where
    still_named : (after_step (unlink name) v).names n ≡ Some i
    still_named = names_other name n None v other ∙ named

    pub begins_spare : (j : ℕ) (es : List Step) → Begins v name j es → SparesAll n i es
    begins_spare j es (inl h) =
        spares_as es (Did (create name j) ∷ []) h.2 ((other, not_new v j h.1 named), tt)
    begins_spare j es (inr h) =
        spares_as es (Did (unlink name) ∷ Did (create name j) ∷ []) h.1
        (other, ((other, not_new (after_step (unlink name) v) j h.0 still_named), tt))

    -- the new draft isn't the image
    pub begins_other : (j : ℕ) (es : List Step) → Begins v name j es → i ≡ j → ⊥
    begins_other j es (inl h) = not_new v j h.1 named
    begins_other j es (inr h) = not_new (after_step (unlink name) v) j h.0 still_named

    pub begin_spares : (steps : ℕ) (es : List Step) → BreaksBegin v name steps es → SparesAll n i es
    begin_spares steps es (inl h) = spares_as es [] h.1 tt
    begin_spares steps es (inr (inl h)) = spares_as es (Broke (unlink name) ∷ []) h.1 (tt, tt)
    begin_spares steps es (inr (inr (inl h))) = spares_as es (Did (unlink name) ∷ []) h.1 (other, tt)
    begin_spares steps es (inr (inr (inr (inl h)))) =
        spares_as es (Did (unlink name) ∷ Broke (create name h.0) ∷ []) h.3
        (other, (not_new (after_step (unlink name) v) h.0 h.2 still_named, tt))
    begin_spares steps es (inr (inr (inr (inr (inl h))))) =
        spares_as es (Broke (create name h.0) ∷ []) h.3 (not_new v h.0 h.2 named, tt)
    begin_spares steps es (inr (inr (inr (inr (inr h))))) = begins_spare h.0 es h.2

    pub removes_spare : (es : List Step) → Removes v name es → SparesAll n i es
    removes_spare es (inl h) = spares_as es [] h.1 tt
    removes_spare es (inr h) = spares_as es (Did (unlink name) ∷ []) h (other, tt)

  pub remove_spares : (name : List ℕ) (es : List Step) → IsBroken (unlink name) es → SparesAll n i es
  remove_spares name es (inl h) = spares_as es [] h tt
  remove_spares name es (inr h) = spares_as es (Broke (unlink name) ∷ []) h (tt, tt)

  module _ (v : Volume) (named : v.names n ≡ Some i) where
    -- a name that leads nowhere isn't this one
    else_none : (m : List ℕ) → v.names m ≡ None → n ≡ m → ⊥
    else_none m none e = no_file i (sym named ∙ ap v.names e ∙ none)

    tries_spare : (draft : List ℕ) (es : List Step) → Tries v draft es → SparesAll n i es
    tries_spare draft es (inl h) = spares_as es [] h tt
    tries_spare draft es (inr h) =
        spares_as es (Did (create draft h.1) ∷ Did (unlink draft) ∷ []) h.3
        ((else_none draft h.0, not_new v h.1 h.2 named), (else_none draft h.0, tt))

    try_spares : (draft : List ℕ) (es : List Step) → BreaksTry v draft es → SparesAll n i es
    try_spares draft es (inl h) = spares_as es [] h tt
    try_spares draft es (inr (none, j, new, inl h)) =
        spares_as es (Broke (create draft j) ∷ []) h (not_new v j new named, tt)
    try_spares draft es (inr (none, j, new, inr (inl h))) =
        spares_as es (Did (create draft j) ∷ []) h ((else_none draft none, not_new v j new named), tt)
    try_spares draft es (inr (none, j, new, inr (inr h))) =
        spares_as es (Did (create draft j) ∷ Broke (unlink draft) ∷ []) h
        ((else_none draft none, not_new v j new named), (tt, tt))

    found_spares : (name : List ℕ) (e : Option ℕ) (es : List Step) → SyncsFound name e es → SparesAll n i es
    found_spares name None es h = spares_as es (Did (sync_folder (folder_of name)) ∷ []) h (tt, tt)
    found_spares name (Some j) es h =
        spares_as es (Did (sync_folder (folder_of name)) ∷ Did (sync_file j) ∷ []) h (tt, (tt, tt))

    syncs_spare : (name : List ℕ) (e : Option ℕ) (es : List Step) → BreaksSyncs name e es → SparesAll n i es
    syncs_spare name e es (inl h) = spares_as es [] h tt
    syncs_spare name e es (inr (inl h)) = spares_as es (Broke (sync_folder (folder_of name)) ∷ []) h (tt, tt)
    syncs_spare name e es (inr (inr (inl h))) = spares_as es (Did (sync_folder (folder_of name)) ∷ []) h (tt, tt)
    syncs_spare name e es (inr (inr (inr h))) =
        spares_as es (Did (sync_folder (folder_of name)) ∷ Broke (sync_file h.0) ∷ []) h.2 (tt, (tt, tt))

    pub settles_spare : (name : List ℕ) (es : List Step) → SettlesFound v name es → SparesAll n i es
    settles_spare name es (probe, syncs, tried, found, is) =
        spares_as es (probe ++ syncs) is
        (both_spare probe syncs (tries_spare (draft_of name) probe tried) (found_spares name (v.names name) syncs
        found))

    pub settle_spares : (name : List ℕ) (es : List Step) → BreaksSettles v name es → SparesAll n i es
    settle_spares name es (inl h) = try_spares (draft_of name) es h
    settle_spares name es (inr (probe, syncs, tried, found, is)) =
        spares_as es (probe ++ syncs) is
        (both_spare probe syncs (tries_spare (draft_of name) probe tried) (syncs_spare name (v.names name) syncs found))
