-- What the calls on a mapfile made.
use Rattle.std.proofs.Common.{◌≡◌, inl, inr, ℕ, ◌+◌, IsTrue, List, [], ◌∷◌, ◌++◌, length, codes, Option, Some, None, Result, Ok, Err, refl, sym, ◌∙◌, ap, subst, append-nil, length-append, arith}
use Rattle.crash_site.specs.Files.{draft_of}
use Rattle.kernel_files.specs.declared.standing.Kind.{Kind}
use Rattle.kernel_files.specs.declared.standing.Kind.TheVariants.{File, Link}
use Rattle.kernel_files.specs.Volume.{Volume, Call, create, sync_file, unlink, sync_folder, Entry, Done, Failed, after, at_node, new_node, lead, folder_of, IsNew}
use Rattle.kernel_files.specs.Answers.{Told, volume, Made}
use Rattle.kernel_files.specs.Steps.{MadeBy, IsDone, IsBroken}
use Rattle.kernel_files.specs.MapCalls.{Removes, Tries, Probes, SyncsFound, SettlesFound, BreaksTry, BreaksSyncs, BreaksSettles}
use Rattle.kernel_files.proofs.Steps.{made_here, made_map, made_on, never_told}
use Rattle.kernel_files.proofs.Volumes.{names_other}
use Rattle.folder_site.specs.Settles.{BreaksProbes, NoCalls, SyncsReached, BreaksReached}

cat : (es fs a b : List Entry) → es ≡ a → fs ≡ b → es ++ fs ≡ a ++ b
cat es fs a b p q = ap (λ (l : List Entry). l ++ fs) p ∙ ap (λ (l : List Entry). a ++ l) q

-- The file that a name reaches.

-- a kernel that tells has no links
pub no_target : {T E : Type 0} (call : Call) (r : Result T E) (kind : Kind) (old new : Told) → kind ≡ Link
    → (IsTrue old.tells → kind ≡ File) → Made call r old new → MadeBy NoCalls old new
no_target call r kind old new is file m =
    never_told NoCalls old new m.tells (λ t. let e : Link ≡ File = sym is ∙ file t in (cc))

pub no_calls : (t : Told) → MadeBy NoCalls t t
no_calls t = made_here NoCalls t refl

pub not_synced_yet : (name : List ℕ) (old new : Told) → MadeBy NoCalls old new → MadeBy (BreaksReached (volume old) name) old new
not_synced_yet name old new = made_map NoCalls (BreaksReached (volume old) name) old new (λ t es _ h. inl h)

module _ (i : ℕ) (name : List ℕ) (old mid new : Told) (leads : IsTrue old.tells → (volume old).names name ≡ Some i) where
  pub reached : MadeBy NoCalls old mid → MadeBy (IsDone (sync_file i)) mid new
      → MadeBy (SyncsReached (volume old) name) old new
  reached =
      made_on NoCalls (IsDone (sync_file i)) (SyncsReached (volume old) name) old mid new
      (λ t es fs _ h k. (i, leads t, cat es fs [] (Done (sync_file i) ∷ []) h k))

  pub not_reached : MadeBy NoCalls old mid → MadeBy (IsBroken (sync_file i)) mid new
      → MadeBy (BreaksReached (volume old) name) old new
  not_reached =
      made_on NoCalls (IsBroken (sync_file i)) (BreaksReached (volume old) name) old mid new
      (λ t es fs _ h k.
      elim k [
        | inl none ↦ inl (cat es fs [] [] h none)
        | inr fails ↦ inr (i, leads t, cat es fs [] (Failed (sync_file i) ∷ []) h fails)
      ])

-- The syncs.

-- the sync of an open folder is that of its name
pub folder_made : {T E : Type 0} (r : Result T E) (text name : List ℕ) (old new : Told)
    → (IsTrue old.tells → text ≡ folder_of name) → Made (sync_folder text) r old new
    → Made (sync_folder (folder_of name)) r old new
folder_made (Ok x) text name old new is_folder m = record {
  tells = m.tells;
  start = m.start;
  done = λ t. m.done t ∙ ap (λ (f : List ℕ). old.calls ++ Done (sync_folder f) ∷ []) (is_folder t);
  failed = tt;
}
folder_made (Err e) text name old new is_folder m = record {
  tells = m.tells;
  start = m.start;
  done = tt;
  failed = λ t. elim (m.failed t) [
    | inl told ↦ inl (told ∙ ap (λ (f : List ℕ). old.calls ++ Failed (sync_folder f) ∷ []) (is_folder t))
    | inr none ↦ inr none
  ];
}

module _ (name : List ℕ) (old mid new : Told) where
  pub folder_broken : MadeBy (IsBroken (sync_folder (folder_of name))) old new
      → MadeBy (BreaksSyncs name ((volume old).names name)) old new
  folder_broken =
      made_map (IsBroken (sync_folder (folder_of name))) (BreaksSyncs name ((volume old).names name)) old new
      (λ t es _ h. elim h [ inl none ↦ inl none | inr fails ↦ inr (inl fails) ])

  pub folder_alone : (IsTrue old.tells → (volume old).names name ≡ None)
      → MadeBy (IsDone (sync_folder (folder_of name))) old new
      → MadeBy (SyncsFound name ((volume old).names name)) old new
  folder_alone absent =
      made_map (IsDone (sync_folder (folder_of name))) (SyncsFound name ((volume old).names name)) old new
      (λ t es _ h. subst (λ (e : Option ℕ). SyncsFound name e es) (sym (absent t)) h)

  names_same : (es : List Entry) → volume mid ≡ after (volume old) es → es ≡ Done (sync_folder (folder_of name)) ∷ []
      → (volume mid).names name ≡ (volume old).names name
  names_same es is h =
      ap (λ (v : Volume). v.names name) is ∙ ap (λ (l : List Entry). (after (volume old) l).names name) h

  pub both_synced : MadeBy (IsDone (sync_folder (folder_of name))) old mid
      → MadeBy (SyncsReached (volume mid) name) mid new → MadeBy (SyncsFound name ((volume old).names name)) old new
  both_synced =
      made_on (IsDone (sync_folder (folder_of name))) (SyncsReached (volume mid) name)
      (SyncsFound name ((volume old).names name)) old mid new
      (λ t es fs is h k.
      subst (λ (e : Option ℕ). SyncsFound name e (es ++ fs)) (sym k.1 ∙ names_same es is h)
      (cat es fs (Done (sync_folder (folder_of name)) ∷ []) (Done (sync_file k.0) ∷ []) h k.2))

  pub file_broken : MadeBy (IsDone (sync_folder (folder_of name))) old mid
      → MadeBy (BreaksReached (volume mid) name) mid new → MadeBy (BreaksSyncs name ((volume old).names name)) old new
  file_broken =
      made_on (IsDone (sync_folder (folder_of name))) (BreaksReached (volume mid) name)
      (BreaksSyncs name ((volume old).names name)) old mid new
      (λ t es fs is h k.
      elim k [
        | inl none ↦ inr (inr (inl (cat es fs (Done (sync_folder (folder_of name)) ∷ []) [] h none)))
        | inr fails ↦
            inr (inr (inr (
              fails.0,
              sym (names_same es is h) ∙ fails.1,
              cat es fs (Done (sync_folder (folder_of name)) ∷ []) (Failed (sync_file fails.0) ∷ []) h fails.2,
            )))
      ])

-- The try of a draft.

module _ (draft : List ℕ) (i : ℕ) (old mid new : Told) (free : IsTrue old.tells → (volume old).names draft ≡ None) (fresh : IsTrue old.tells → IsNew (volume old) i) where
  pub try_not_made : MadeBy (IsBroken (create draft i)) old new → MadeBy (BreaksTry (volume old) draft) old new
  try_not_made =
      made_map (IsBroken (create draft i)) (BreaksTry (volume old) draft) old new
      (λ t es _ h. elim h [ inl none ↦ inl none | inr fails ↦ inr (free t, i, fresh t, inl fails) ])

  pub try_left : MadeBy (IsDone (create draft i)) old mid → MadeBy (IsBroken (unlink draft)) mid new
      → MadeBy (BreaksTry (volume old) draft) old new
  try_left =
      made_on (IsDone (create draft i)) (IsBroken (unlink draft)) (BreaksTry (volume old) draft) old mid new
      (λ t es fs is h k.
      elim k [
        | inl none ↦ inr (free t, i, fresh t, inr (inl (cat es fs (Done (create draft i) ∷ []) [] h none)))
        | inr fails ↦
            inr (free t, i, fresh t, inr (inr (cat es fs (Done (create draft i) ∷ []) (Failed (unlink draft) ∷ []) h fails)))
      ])

  pub tried : MadeBy (IsDone (create draft i)) old mid → MadeBy (IsDone (unlink draft)) mid new
      → MadeBy (Tries (volume old) draft) old new
  tried =
      made_on (IsDone (create draft i)) (IsDone (unlink draft)) (Tries (volume old) draft) old mid new
      (λ t es fs is h k.
      inr (free t, i, fresh t, cat es fs (Done (create draft i) ∷ []) (Done (unlink draft) ∷ []) h k))

-- The settle.

draft_apart : (name : List ℕ) → name ≡ draft_of name → ⊥
draft_apart name is =
    let e : length name ≡ length name + 4 = ap length is ∙ length-append name (codes ".tmp") in omega (arith, e)

-- a try of a draft leaves the mapfile's name as it was
names_kept : (v : Volume) (name : List ℕ) (es : List Entry) → Probes v name es → (after v es).names name ≡ v.names name
names_kept v name es (inl none) = ap (λ (l : List Entry). (after v l).names name) none
names_kept v name es (inr (_, i, _, is)) =
    let draft : List ℕ = draft_of name in
    let made : Volume = lead draft (Some i) (at_node i (λ f. new_node) v) in
    ap (λ (l : List Entry). (after v l).names name) is
    ∙ names_other draft name None made (draft_apart name)
    ∙ names_other draft name (Some i) (at_node i (λ f. new_node) v) (draft_apart name)

module _ (name : List ℕ) (old mid new : Told) where
  pub probed : (draft : List ℕ) → draft ≡ draft_of name → MadeBy (Tries (volume old) draft) old new
      → MadeBy (Probes (volume old) name) old new
  probed draft is = subst (λ (d : List ℕ). MadeBy (Tries (volume old) d) old new) is

  pub not_probed : (draft : List ℕ) → draft ≡ draft_of name → MadeBy (BreaksTry (volume old) draft) old new
      → MadeBy (BreaksProbes (volume old) name) old new
  not_probed draft is h =
      made_map (BreaksTry (volume old) (draft_of name)) (BreaksProbes (volume old) name) old new (λ t es _ k. inl k)
      (subst (λ (d : List ℕ). MadeBy (BreaksTry (volume old) d) old new) is h)

  pub probed_late : (draft : List ℕ) → draft ≡ draft_of name → MadeBy (Tries (volume old) draft) old new
      → MadeBy (BreaksProbes (volume old) name) old new
  probed_late draft is h =
      made_map (Probes (volume old) name) (BreaksProbes (volume old) name) old new (λ t es _ k. inr k)
      (probed draft is h)

  pub not_settled : MadeBy (BreaksProbes (volume old) name) old new → MadeBy (BreaksSettles (volume old) name) old new
  not_settled =
      made_map (BreaksProbes (volume old) name) (BreaksSettles (volume old) name) old new
      (λ t es _ h. elim h [ inl fails ↦ inl fails | inr probe ↦ inr (es, [], probe, inl refl, sym (append-nil es)) ])

  pub not_synced : MadeBy (Probes (volume old) name) old mid
      → MadeBy (BreaksSyncs name ((volume mid).names name)) mid new → MadeBy (BreaksSettles (volume old) name) old new
  not_synced =
      made_on (Probes (volume old) name) (BreaksSyncs name ((volume mid).names name)) (BreaksSettles (volume old) name)
      old mid new
      (λ t es fs is h k.
      inr (
        es,
        fs,
        h,
        subst (λ (e : Option ℕ). BreaksSyncs name e fs)
            (ap (λ (v : Volume). v.names name) is ∙ names_kept (volume old) name es h) k,
        refl,
      ))

  pub settled : MadeBy (Probes (volume old) name) old mid
      → MadeBy (SyncsFound name ((volume mid).names name)) mid new → MadeBy (SettlesFound (volume old) name) old new
  settled =
      made_on (Probes (volume old) name) (SyncsFound name ((volume mid).names name)) (SettlesFound (volume old) name)
      old mid new
      (λ t es fs is h k. (
        es,
        fs,
        h,
        subst (λ (e : Option ℕ). SyncsFound name e fs)
            (ap (λ (v : Volume). v.names name) is ∙ names_kept (volume old) name es h) k,
        refl,
      ))

  -- The removal.

  pub was_absent : {T E : Type 0} (r : Result T E) → Made (unlink name) r old new
      → (IsTrue old.tells → ((volume old).names name ≡ None) × (new.calls ≡ old.calls))
      → MadeBy (Removes (volume old) name) old new
  was_absent r made none = record {
    tells = made.tells;
    start = made.start;
    calls = λ t. ([], (none t).1 ∙ sym (append-nil old.calls), inl ((none t).0, refl));
  }
