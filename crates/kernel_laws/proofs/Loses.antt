-- What isn't synced may be found as it was, or otherwise.
use Rattle.std.proofs.Common.{◌≡◌, ◌⊎◌, ⊎_elim, inl, inr, ℕ, ◌+◌, ◌<◌, ◌≤◌, Bool, true, false, cond, eqb, List, [], ◌∷◌, ◌++◌, length, Option, Some, None, refl, sym, ◌∙◌, ap, subst, arith, slice_index_or}
use Rattle.std.specs.List.{flat_map}
use Rattle.std.specs.Str.{bytes_eq}
use Rattle.std.proofs.lemmas.Bool.{cases_lt}
use Rattle.std.proofs.lemmas.Bool.Decides.{eqb_tells}
use Rattle.kernel_files.specs.Volume.{Node, Volume, Call, create, write, append, sync_file, rename, unlink, sync_folder, with_piece, with_end, with_loss, synced, at_node, new_node, lead, may_lead, Entry as Step, Done as Did, Failed as Broke, entered as enter, after as after_steps, folder_of, IsAtRest, MayRead, Leaves as LeavesEntry, MayFind}
use Rattle.kernel_files.proofs.Volumes.{node_here, node_other}
use Rattle.crash_site.specs.Files.{written}
use Rattle.crash_site.specs.Disk.{without}
use Rattle.crash_site.specs.Left.{IsLoose}
use Rattle.crash_site.proofs.Written.{length-written}
use Rattle.crash_site.proofs.ResolveLemmas.{written_out}
use Rattle.kernel_laws.specs.Refines.{read_at, IsAmong, IsFirm}
use Rattle.kernel_laws.specs.Loses.{call_of, file_of, OnlySyncs, NeverReturns, WritesTo, ReadFilesMayBeFound, OldNameMayBeFound, UnsyncedWriteMayBeMissing, UnsyncedPieceMayBeAny, UnsyncedEndMayBeAny, LostPieceMayBeAny}
use Rattle.kernel_laws.proofs.Nodes.{firm_reads, sound_synced, sound_lost, sound_loss}
use Rattle.kernel_laws.proofs.Names.{is_name, with_new, new_sound, lead_here, may_here, more_among, finds_here, either_node}
use Rattle.kernel_laws.proofs.Stops.{run_append}
use Rattle.kernel_laws.proofs.Drafts.{sound_end}
use Rattle.kernel_laws.proofs.Images.{sound_piece}

-- Each file may be left as it reads, and so may the entry of each name.
record Kept (v : Volume) : Type 0 where
  pub here : (n : List ℕ) → IsAmong (v.names n) (v.may n)
  pub sound : (j : ℕ) → MayRead (v.nodes j) (v.nodes j).bytes

rest_kept : (v : Volume) → IsAtRest v → Kept v
rest_kept v rest = record {
  here = λ n. subst (λ (l : List (Option ℕ)). IsAmong (v.names n) l) (sym (rest.may n)) (inl refl);
  sound = λ j. firm_reads (v.nodes j) (record { loose = rest.loose j; durable = rest.durable j });
}

at_sound : (i : ℕ) (change : Node → Node) (v : Volume)
    → ((f : Node) → MayRead f f.bytes → MayRead (change f) (change f).bytes)
    → ((j : ℕ) → MayRead (v.nodes j) (v.nodes j).bytes)
    → (j : ℕ) → MayRead ((at_node i change v).nodes j) ((at_node i change v).nodes j).bytes
at_sound i change v keeps h j =
    either_node (λ f. MayRead f f.bytes) (eqb j i) (change (v.nodes j)) (v.nodes j) (keeps (v.nodes j) (h j)) (h j)

keep_piece : (pos : ℕ) (piece : List ℕ) (f : Node) → MayRead f f.bytes
    → MayRead (with_piece pos piece f) (with_piece pos piece f).bytes
keep_piece pos [] f h = h
keep_piece pos (b ∷ bs) f h = sound_piece pos (b ∷ bs) f h

one_left : (b : Bool) (e : Option ℕ) (es : List (Option ℕ)) → IsAmong e es → IsAmong e (cond b (e ∷ []) es)
one_left true e es h = inl refl
one_left false e es h = h

step_kept : (e : Step) (v : Volume) → Kept v → Kept (enter v e)
step_kept (Did (create name i)) v h =
    record { here = lead_here name (Some i) (with_new i v) h.here; sound = new_sound i v h.sound }
step_kept (Did (write i pos piece)) v h =
    record { here = h.here; sound = at_sound i (with_piece pos piece) v (keep_piece pos piece) h.sound }
step_kept (Did (append i piece)) v h =
    record { here = h.here; sound = at_sound i (with_end piece) v (sound_end piece) h.sound }
step_kept (Did (sync_file i)) v h =
    record { here = h.here; sound = at_sound i synced v (λ f _. sound_synced f) h.sound }
step_kept (Did (rename from to)) v h = record {
  here = lead_here to (v.names from) (lead from None v) (lead_here from None v h.here);
  sound = h.sound;
}
step_kept (Did (unlink name)) v h = record { here = lead_here name None v h.here; sound = h.sound }
step_kept (Did (sync_folder folder)) v h = record {
  here = λ n. one_left (bytes_eq (folder_of n) folder) (v.names n) (v.may n) (h.here n);
  sound = h.sound;
}
step_kept (Broke (create name i)) v h =
    record { here = may_here name (Some i) (with_new i v) h.here; sound = new_sound i v h.sound }
step_kept (Broke (write i pos piece)) v h = record {
  here = h.here;
  sound = at_sound i (with_loss pos (length piece)) v (λ f. sound_loss f pos (length piece)) h.sound;
}
step_kept (Broke (append i piece)) v h = record {
  here = h.here;
  sound = at_sound i (λ f. with_loss (length f.bytes) (length piece) f) v
      (λ f. sound_loss f (length f.bytes) (length piece)) h.sound;
}
step_kept (Broke (sync_file i)) v h =
    record { here = h.here; sound = at_sound i (λ f. record f { lost = f.loose }) v sound_lost h.sound }
step_kept (Broke (rename from to)) v h = record {
  here = may_here to (v.names from) (may_lead from None v) (may_here from None v h.here);
  sound = h.sound;
}
step_kept (Broke (unlink name)) v h = record { here = may_here name None v h.here; sound = h.sound }
step_kept (Broke (sync_folder folder)) v h = h

kept : (es : List Step) (v : Volume) → Kept v → Kept (after_steps v es)
kept [] v h = h
kept (e ∷ es) v h = kept es (enter v e) (step_kept e v h)

reads_leave : (nodes : ℕ → Node) → ((j : ℕ) → MayRead (nodes j) (nodes j).bytes) → (e : Option ℕ)
    → LeavesEntry nodes e (read_at nodes e)
reads_leave nodes sound None = tt
reads_leave nodes sound (Some j) = sound j

pub read_files : ReadFilesMayBeFound
read_files v es name rest =
    let w : Volume = after_steps v es in
    let k : Kept w = kept es v (rest_kept v rest) in
    finds_here w.nodes (w.names name) (w.may name) (read_at w.nodes (w.names name)) (k.here name)
    (reads_leave w.nodes k.sound (w.names name))

-- Entries that stay.

among_lead : (n name : List ℕ) (x e : Option ℕ) (es : List (Option ℕ)) → IsAmong e es
    → IsAmong e (cond (bytes_eq n name) (x ∷ es) es)
among_lead n name x e es h = more_among (bytes_eq n name) x e es h

among_synced : (b : Bool) (x e : Option ℕ) (es : List (Option ℕ)) → (b ≡ true → ⊥) → IsAmong e es
    → IsAmong e (cond b (x ∷ []) es)
among_synced true x e es never h = absurd (never refl)
among_synced false x e es never h = h

step_among : (s : Step) (v : Volume) (n : List ℕ) (e : Option ℕ) → (s ≡ Did (sync_folder (folder_of n)) → ⊥)
    → IsAmong e (v.may n) → IsAmong e ((enter v s).may n)
step_among (Did (create name i)) v n e never h = among_lead n name (Some i) e (v.may n) h
step_among (Did (write i pos piece)) v n e never h = h
step_among (Did (append i piece)) v n e never h = h
step_among (Did (sync_file i)) v n e never h = h
step_among (Did (rename from to)) v n e never h =
    among_lead n to (v.names from) e ((lead from None v).may n) (among_lead n from None e (v.may n) h)
step_among (Did (unlink name)) v n e never h = among_lead n name None e (v.may n) h
step_among (Did (sync_folder folder)) v n e never h =
    among_synced (bytes_eq (folder_of n) folder) (v.names n) e (v.may n)
    (λ is. never (ap (λ (f : List ℕ). Did (sync_folder f)) (sym (is_name (folder_of n) folder is)))) h
step_among (Broke (create name i)) v n e never h = among_lead n name (Some i) e (v.may n) h
step_among (Broke (write i pos piece)) v n e never h = h
step_among (Broke (append i piece)) v n e never h = h
step_among (Broke (sync_file i)) v n e never h = h
step_among (Broke (rename from to)) v n e never h =
    among_lead n to (v.names from) e ((may_lead from None v).may n) (among_lead n from None e (v.may n) h)
step_among (Broke (unlink name)) v n e never h = among_lead n name None e (v.may n) h
step_among (Broke (sync_folder folder)) v n e never h = h

among : (es : List Step) (v : Volume) (n : List ℕ) (e : Option ℕ) → NeverReturns (sync_folder (folder_of n)) es
    → IsAmong e (v.may n) → IsAmong e ((after_steps v es).may n)
among [] v n e never h = h
among (s ∷ es) v n e never h = among es (enter v s) n e never.1 (step_among s v n e never.0 h)

-- A file on which calls are syncs alone.

abbrev failed_sync : Node → Node
failed_sync f = record f { lost = f.loose }

-- what such a call makes of the file
data Synced (s : Step) (i : ℕ) (f g : Node) : Type 0 where
  Stays : g ≡ f → Synced s i f g
  Syncs : s ≡ Did (sync_file i) → g ≡ synced f → Synced s i f g
  Fails : s ≡ Broke (sync_file i) → g ≡ failed_sync f → Synced s i f g

elsewhere : (s : Step) (i j : ℕ) (change : Node → Node) (v : Volume) → (j ≡ i → ⊥)
    → Synced s i (v.nodes i) ((at_node j change v).nodes i)
elsewhere s i j change v apart = Stays (node_other j i change v (λ e. apart (sym e)))

number : (j i : ℕ) → j ≡ i → Some j ≡ Some i
number j i e = ap (λ (k : ℕ). Some k) e

one_step : (s : Step) (i : ℕ) (v : Volume) → (file_of (call_of s) ≡ Some i → call_of s ≡ sync_file i)
    → Synced s i (v.nodes i) ((enter v s).nodes i)
one_step (Did (create name j)) i v only =
    elsewhere (Did (create name j)) i j (λ f. new_node) v
    (λ e. let never : create name j ≡ sync_file i = only (number j i e) in cc)
one_step (Did (write j pos piece)) i v only =
    elsewhere (Did (write j pos piece)) i j (with_piece pos piece) v
    (λ e. let never : write j pos piece ≡ sync_file i = only (number j i e) in cc)
one_step (Did (append j piece)) i v only =
    elsewhere (Did (append j piece)) i j (with_end piece) v
    (λ e. let never : append j piece ≡ sync_file i = only (number j i e) in cc)
one_step (Did (sync_file j)) i v only =
    elim (eqb_tells j i) [
      | inl is ↦ Syncs (ap (λ (k : ℕ). Did (sync_file k)) is.1)
          (ap (λ (k : ℕ). (at_node k synced v).nodes i) is.1 ∙ node_here i synced v)
      | inr isnt ↦ elsewhere (Did (sync_file j)) i j synced v isnt.1
    ]
one_step (Did (rename from to)) i v only = Stays refl
one_step (Did (unlink name)) i v only = Stays refl
one_step (Did (sync_folder folder)) i v only = Stays refl
one_step (Broke (create name j)) i v only =
    elsewhere (Broke (create name j)) i j (λ f. new_node) v
    (λ e. let never : create name j ≡ sync_file i = only (number j i e) in cc)
one_step (Broke (write j pos piece)) i v only =
    elsewhere (Broke (write j pos piece)) i j (with_loss pos (length piece)) v
    (λ e. let never : write j pos piece ≡ sync_file i = only (number j i e) in cc)
one_step (Broke (append j piece)) i v only =
    elsewhere (Broke (append j piece)) i j (λ f. with_loss (length f.bytes) (length piece) f) v
    (λ e. let never : append j piece ≡ sync_file i = only (number j i e) in cc)
one_step (Broke (sync_file j)) i v only =
    elim (eqb_tells j i) [
      | inl is ↦ Fails (ap (λ (k : ℕ). Broke (sync_file k)) is.1)
          (ap (λ (k : ℕ). (at_node k failed_sync v).nodes i) is.1 ∙ node_here i failed_sync v)
      | inr isnt ↦ elsewhere (Broke (sync_file j)) i j failed_sync v isnt.1
    ]
one_step (Broke (rename from to)) i v only = Stays refl
one_step (Broke (unlink name)) i v only = Stays refl
one_step (Broke (sync_folder folder)) i v only = Stays refl

-- what holds of the file and stays so at each of these calls, holds after them
keeps_along : (P : Node → Type 0) (i : ℕ) → ((s : Step) (f g : Node) → Synced s i f g → P f → P g) → (es : List Step) (v : Volume)
    → OnlySyncs i es → P (v.nodes i) → P ((after_steps v es).nodes i)
keeps_along P i step [] v only h = h
keeps_along P i step (s ∷ es) v only h =
    keeps_along P i step es (enter v s) only.1
    (step s (v.nodes i) ((enter v s).nodes i) (one_step s i v only.0) h)

-- a file to which nothing is written
record Quiet (bytes : List ℕ) (f : Node) : Type 0 where
  pub bytes_stay : f.bytes ≡ bytes
  pub firm : IsFirm f
  pub lost : f.lost ≡ []

quiet_step : (bytes : List ℕ) (i : ℕ) (s : Step) (f g : Node) → Synced s i f g → Quiet bytes f → Quiet bytes g
quiet_step bytes i s f g (Stays is) h = subst (Quiet bytes) (sym is) h
quiet_step bytes i s f g (Syncs _ is) h =
    subst (Quiet bytes) (sym is)
    (record { bytes_stay = h.bytes_stay; firm = record { loose = h.lost; durable = refl }; lost = h.lost })
quiet_step bytes i s f g (Fails _ is) h =
    subst (Quiet bytes) (sym is) (record {
      bytes_stay = h.bytes_stay;
      firm = record { loose = h.firm.loose; durable = h.firm.durable };
      lost = h.firm.loose;
    })

quiet_reads : (bytes : List ℕ) (f : Node) → Quiet bytes f → MayRead f bytes
quiet_reads bytes f h = subst (λ (b : List ℕ). MayRead f b) h.bytes_stay (firm_reads f h.firm)

old_leaves : (v : Volume) (es : List Step) → IsAtRest v → (e : Option ℕ) → ((i : ℕ) → e ≡ Some i → OnlySyncs i es)
    → LeavesEntry (after_steps v es).nodes e (read_at v.nodes e)
old_leaves v es rest None only = tt
old_leaves v es rest (Some i) only =
    let start : Quiet (v.nodes i).bytes (v.nodes i) = record {
      bytes_stay = refl;
      firm = record { loose = rest.loose i; durable = rest.durable i };
      lost = rest.lost i;
    } in
    quiet_reads (v.nodes i).bytes ((after_steps v es).nodes i)
    (keeps_along (Quiet (v.nodes i).bytes) i (quiet_step (v.nodes i).bytes i) es v (only i refl) start)

pub old_name : OldNameMayBeFound
old_name v es name rest never only =
    let w : Volume = after_steps v es in
    finds_here w.nodes (v.names name) (w.may name) (read_at v.nodes (v.names name))
    (among es v name (v.names name) never ((rest_kept v rest).here name))
    (old_leaves v es rest (v.names name) only)

-- A piece that was written.

-- two pieces of one length make files of one length that differ nowhere else
same_size : (bytes : List ℕ) (pos : ℕ) (piece other : List ℕ) → length other ≡ length piece
    → length (written bytes pos other) ≡ length (written bytes pos piece)
same_size bytes pos piece other same =
    omega (arith, length-written bytes pos other, length-written bytes pos piece, same)

-- a file may be found with any other piece, just after its write
other_piece : (pos : ℕ) (piece other : List ℕ) (f : Node) → (piece ≡ [] → ⊥) → length other ≡ length piece
    → MayRead f f.bytes → MayRead (with_piece pos piece f) (written f.bytes pos other)
other_piece pos [] other f some same h = absurd (some refl)
other_piece pos (b ∷ bs) other f some same h =
    let m : MayRead (record f { bytes = written f.bytes pos other; loose = (pos, length other) ∷ f.loose; lost = flat_map (without pos (length other)) f.lost }) (written f.bytes pos other) =
    sound_piece pos other f h in
    let n : MayRead (record f { bytes = written f.bytes pos other; loose = (pos, length (b ∷ bs)) ∷ f.loose; lost = flat_map (without pos (length other)) f.lost }) (written f.bytes pos other) =
    subst (λ (k : ℕ). MayRead (record f { bytes = written f.bytes pos other; loose = (pos, k) ∷ f.loose; lost = flat_map (without pos (length other)) f.lost }) (written f.bytes pos other)) same m in
    record { stands = n.stands; no_shorter = n.no_shorter; no_longer = n.no_longer }

may_step : (found : List ℕ) (i : ℕ) (s : Step) (f g : Node) → (s ≡ Did (sync_file i) → ⊥) → Synced s i f g
    → MayRead f found → MayRead g found
may_step found i s f g never (Stays is) h = subst (λ (x : Node). MayRead x found) (sym is) h
may_step found i s f g never (Syncs was is) h = absurd (never was)
may_step found i s f g never (Fails was is) h =
    subst (λ (x : Node). MayRead x found) (sym is)
    (record { stands = h.stands; no_shorter = h.no_shorter; no_longer = h.no_longer })

may_along : (found : List ℕ) (i : ℕ) (es : List Step) (v : Volume) → OnlySyncs i es → NeverReturns (sync_file i) es
    → MayRead (v.nodes i) found → MayRead ((after_steps v es).nodes i) found
may_along found i [] v only never h = h
may_along found i (s ∷ es) v only never h =
    may_along found i es (enter v s) only.1 never.1
    (may_step found i s (v.nodes i) ((enter v s).nodes i) never.0 (one_step s i v only.0) h)

wrote_node : (i pos : ℕ) (piece : List ℕ) (v : Volume)
    → (enter v (Did (write i pos piece))).nodes i ≡ with_piece pos piece (v.nodes i)
wrote_node i pos piece v = node_here i (with_piece pos piece) v

-- the name that leads to a file may be found with what the file may be left with
found_at : (w : Volume) (i : ℕ) (name found : List ℕ) → Kept w → w.names name ≡ Some i → MayRead (w.nodes i) found
    → MayFind w name (Some found)
found_at w i name found k leads may =
    finds_here w.nodes (Some i) (w.may name) (Some found)
    (subst (λ (e : Option ℕ). IsAmong e (w.may name)) leads (k.here name)) may

-- what a file may be left with before a write, it may be left with after it
less_piece : (pos : ℕ) (piece found : List ℕ) (f : Node) → MayRead f found → MayRead (with_piece pos piece f) found
less_piece pos [] found f h = h
less_piece pos (b ∷ bs) found f h = record {
  stands = λ x lt. ⊎_elim (λ l. inl (inr l)) (λ e. inr e) (h.stands x lt);
  no_shorter = h.no_shorter;
  no_longer = (let k = h.no_longer in omega (arith, k));
}

less_end : (piece found : List ℕ) (f : Node) → MayRead f found → MayRead (with_end piece f) found
less_end piece found f h = record {
  stands = λ x lt. ⊎_elim (λ l. inl (inr l)) (λ e. inr e) (h.stands x lt);
  no_shorter = h.no_shorter;
  no_longer = (let k = h.no_longer in omega (arith, k));
}

write_missing : (u : Volume) (call : Call) (i : ℕ) → WritesTo i call → MayRead (u.nodes i) (u.nodes i).bytes
    → MayRead ((enter u (Did call)).nodes i) (u.nodes i).bytes
write_missing u (create name j) i is h = absurd is
write_missing u (write j pos piece) i is h =
    subst (λ (k : ℕ). MayRead ((enter u (Did (write k pos piece))).nodes i) (u.nodes i).bytes) (sym is)
    (subst (λ (f : Node). MayRead f (u.nodes i).bytes) (sym (wrote_node i pos piece u))
    (less_piece pos piece (u.nodes i).bytes (u.nodes i) h))
write_missing u (append j piece) i is h =
    subst (λ (k : ℕ). MayRead ((enter u (Did (append k piece))).nodes i) (u.nodes i).bytes) (sym is)
    (subst (λ (f : Node). MayRead f (u.nodes i).bytes) (sym (node_here i (with_end piece) u))
    (less_end piece (u.nodes i).bytes (u.nodes i) h))
write_missing u (sync_file j) i is h = absurd is
write_missing u (rename from to) i is h = absurd is
write_missing u (unlink name) i is h = absurd is
write_missing u (sync_folder folder) i is h = absurd is

pub unsynced_write : UnsyncedWriteMayBeMissing
unsynced_write v before since call i name rest is only never leads =
    let es : List Step = Did call ∷ since in
    let u : Volume = after_steps v before in
    let k : Kept u = kept before v (rest_kept v rest) in
    let found : List ℕ = (u.nodes i).bytes in
    let last : MayRead ((after_steps u es).nodes i) found =
    may_along found i since (enter u (Did call)) only never (write_missing u call i is (k.sound i)) in
    found_at (after_steps v (before ++ es)) i name found (kept (before ++ es) v (rest_kept v rest)) leads
    (subst (λ (w : Volume). MayRead (w.nodes i) found) (sym (run_append v before es)) last)

pub unsynced_piece : UnsyncedPieceMayBeAny
unsynced_piece v before since i pos piece other name rest some same only never leads =
    let es : List Step = Did (write i pos piece) ∷ since in
    let u : Volume = after_steps v before in
    let k : Kept u = kept before v (rest_kept v rest) in
    let found : List ℕ = written (u.nodes i).bytes pos other in
    let first : MayRead ((enter u (Did (write i pos piece))).nodes i) found =
    subst (λ (f : Node). MayRead f found) (sym (wrote_node i pos piece u))
    (other_piece pos piece other (u.nodes i) some same (k.sound i)) in
    let last : MayRead ((after_steps u es).nodes i) found =
    may_along found i since (enter u (Did (write i pos piece))) only never first in
    found_at (after_steps v (before ++ es)) i name found (kept (before ++ es) v (rest_kept v rest)) leads
    (subst (λ (w : Volume). MayRead (w.nodes i) found) (sym (run_append v before es)) last)

-- a file may be found with any other piece at its end
other_end : (piece other : List ℕ) (f : Node) → length other ≡ length piece → MayRead f f.bytes
    → MayRead (with_end piece f) (f.bytes ++ other)
other_end piece other f same h =
    let m : MayRead (record f { bytes = f.bytes ++ other; loose = (length f.bytes, length other) ∷ f.loose; lost = flat_map (without (length f.bytes) (length other)) f.lost }) (f.bytes ++ other) =
    sound_end other f h in
    let n : MayRead (record f { bytes = f.bytes ++ other; loose = (length f.bytes, length piece) ∷ f.loose; lost = flat_map (without (length f.bytes) (length other)) f.lost }) (f.bytes ++ other) =
    subst (λ (k : ℕ). MayRead (record f { bytes = f.bytes ++ other; loose = (length f.bytes, k) ∷ f.loose; lost = flat_map (without (length f.bytes) (length other)) f.lost }) (f.bytes ++ other)) same m in
    record { stands = n.stands; no_shorter = n.no_shorter; no_longer = n.no_longer }

pub unsynced_end : UnsyncedEndMayBeAny
unsynced_end v before since i piece other name rest same only never leads =
    let es : List Step = Did (append i piece) ∷ since in
    let u : Volume = after_steps v before in
    let k : Kept u = kept before v (rest_kept v rest) in
    let found : List ℕ = (u.nodes i).bytes ++ other in
    let first : MayRead ((enter u (Did (append i piece))).nodes i) found =
    subst (λ (f : Node). MayRead f found) (sym (node_here i (with_end piece) u))
    (other_end piece other (u.nodes i) same (k.sound i)) in
    let last : MayRead ((after_steps u es).nodes i) found =
    may_along found i since (enter u (Did (append i piece))) only never first in
    found_at (after_steps v (before ++ es)) i name found (kept (before ++ es) v (rest_kept v rest)) leads
    (subst (λ (w : Volume). MayRead (w.nodes i) found) (sym (run_append v before es)) last)

-- A piece that was lost.

record Lost (bytes : List ℕ) (pos : ℕ) (piece other : List ℕ) (f : Node) : Type 0 where
  pub reads : f.bytes ≡ written bytes pos piece
  pub loose : (x : ℕ) → pos ≤ x → x < pos + length piece → IsLoose f.loose x
  pub lost : (x : ℕ) → pos ≤ x → x < pos + length piece → IsLoose f.lost x
  pub may : MayRead f (written bytes pos other)

module _ (bytes : List ℕ) (pos : ℕ) (piece other : List ℕ) (same : length other ≡ length piece) where
  apart : (x : ℕ) → (x < pos) ⊎ (pos + length piece ≤ x)
      → slice_index_or (written bytes pos other) x 0 ≡ slice_index_or (written bytes pos piece) x 0
  apart x out =
      written_out bytes pos other x (subst (λ (n : ℕ). (x < pos) ⊎ (pos + n ≤ x)) (sym same) out)
      ∙ sym (written_out bytes pos piece x out)

  synced_lost : (f : Node) → Lost bytes pos piece other f → MayRead (synced f) (written bytes pos other)
  synced_lost f h =
      let size = same_size bytes pos piece other same in
      let long : length f.bytes ≡ length (written bytes pos piece) = ap length h.reads in record {
        stands = λ x lt. elim (cases_lt x pos) [
          | inl low ↦ inr (apart x (inl low) ∙ ap (λ (b : List ℕ). slice_index_or b x 0) (sym h.reads))
          | inr from ↦ elim (cases_lt x (pos + length piece)) [
            | inl inside ↦ inl (h.lost x from inside)
            | inr high ↦ inr (apart x (inr high) ∙ ap (λ (b : List ℕ). slice_index_or b x 0) (sym h.reads))
          ]
        ];
        no_shorter = omega (arith, size, long);
        no_longer = omega (arith, size, long);
      }

  lost_step : (i : ℕ) (s : Step) (f g : Node) → Synced s i f g → Lost bytes pos piece other f → Lost bytes pos piece other g
  lost_step i s f g (Stays is) h = subst (Lost bytes pos piece other) (sym is) h
  lost_step i s f g (Syncs _ is) h =
      subst (Lost bytes pos piece other) (sym is)
      (record { reads = h.reads; loose = h.lost; lost = h.lost; may = synced_lost f h })
  lost_step i s f g (Fails _ is) h =
      subst (Lost bytes pos piece other) (sym is) (record {
        reads = h.reads;
        loose = h.loose;
        lost = h.loose;
        may = record { stands = h.may.stands; no_shorter = h.may.no_shorter; no_longer = h.may.no_longer };
      })

-- the first sync that failed
lost_first : (pos : ℕ) (piece other : List ℕ) (f : Node) → (piece ≡ [] → ⊥) → length other ≡ length piece
    → MayRead f f.bytes → Lost f.bytes pos piece other (failed_sync (with_piece pos piece f))
lost_first pos [] other f some same h = absurd (some refl)
lost_first pos (b ∷ bs) other f some same h =
    let m : MayRead (with_piece pos (b ∷ bs) f) (written f.bytes pos other) = other_piece pos (b ∷ bs) other f some same h in record {
      reads = refl;
      loose = λ x from lt. inl (from, lt);
      lost = λ x from lt. inl (from, lt);
      may = record { stands = m.stands; no_shorter = m.no_shorter; no_longer = m.no_longer };
    }

pub lost_piece : LostPieceMayBeAny
lost_piece v before since i pos piece other name rest some same only leads =
    let es : List Step = Did (write i pos piece) ∷ Broke (sync_file i) ∷ since in
    let u : Volume = after_steps v before in
    let k : Kept u = kept before v (rest_kept v rest) in
    let was : Node = u.nodes i in
    let wrote : Volume = enter u (Did (write i pos piece)) in
    let broke : Volume = enter wrote (Broke (sync_file i)) in
    let node : broke.nodes i ≡ failed_sync (with_piece pos piece was) =
    node_here i failed_sync wrote ∙ ap failed_sync (wrote_node i pos piece u) in
    let first : Lost was.bytes pos piece other (broke.nodes i) =
    subst (Lost was.bytes pos piece other) (sym node) (lost_first pos piece other was some same (k.sound i)) in
    let last : Lost was.bytes pos piece other ((after_steps u es).nodes i) =
    keeps_along (Lost was.bytes pos piece other) i (lost_step was.bytes pos piece other same i) since broke only first in
    found_at (after_steps v (before ++ es)) i name (written was.bytes pos other) (kept (before ++ es) v (rest_kept v rest)) leads
    (subst (λ (w : Volume). MayRead (w.nodes i) (written was.bytes pos other)) (sym (run_append v before es)) last.may)
