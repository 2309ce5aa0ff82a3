-- The removal of a mapfile.
use Rattle.std.proofs.Common.{◌≡◌, ◌⊎◌, inl, inr, ℕ, true, false, List, [], ◌∷◌, Option, Some, None, sym, ◌∙◌, ap, subst}
use Rattle.std.specs.Str.{bytes_eq}
use Rattle.std.proofs.lemmas.Bool.{cond-false}
use Rattle.kernel_files.specs.Volume.{Node, Volume, unlink, Entry as Step, Done as Did, Failed as Broke, after_done as after_step, after_part as step_part, Leaves as LeavesEntry}
use Rattle.kernel_files.proofs.Volumes.{own_name, other_name, names_other}
use Rattle.crash_site.specs.Files.{File, put}
use Rattle.crash_site.specs.Calls.{Done, Failed, map_remove}
use Rattle.crash_site.specs.Disk.{Showing, Disk, under, or_this, entered}
use Rattle.crash_site.specs.Left.{MayShow}
use Rattle.kernel_laws.specs.Refines.{as_file, read_at, files_of, Within, DraftIs, Refines}
use Rattle.kernel_laws.proofs.Names.{shown, lead_within, may_within, lead_here, may_here, free_more, lead_reads, others_read, put_reads}
use Rattle.kernel_laws.proofs.Begins.{Keeps, Fails}

none_some : (i : ℕ) → None ≡ Some i → ⊥
none_some i e = cc

gone_shown : (s : Showing) (nodes : ℕ → Node) (found : Option (List ℕ)) → LeavesEntry nodes None found
    → MayShow (or_this None s) (as_file found)
gone_shown s nodes None h = inr (inr (inr (inl tt)))
gone_shown s nodes (Some bytes) h = absurd h

widens_gone : (s : Showing) (found : Option File) → MayShow s found → MayShow (or_this None s) found
widens_gone s found (inl any) = inl any
widens_gone s found (inr (inl text)) = inr (inl text)
widens_gone s found (inr (inr (inl h))) = inr (inr (inl h))
widens_gone s found (inr (inr (inr h))) = inr (inr (inr (inr h)))

module _ (v : Volume) (d : Disk) (o : Option ℕ) (name : List ℕ) (r : Refines v d o) (apart : d.reads.draft ≡ Some name → ⊥) where
  abbrev gone_disk : Disk
  gone_disk = under name (λ file s. or_this None s) d

  kept_within : Within gone_disk v
  kept_within n found h =
      shown (bytes_eq n name) (or_this None (d.shows n)) (d.shows n) (as_file found)
      (λ e. widens_gone (d.shows n) (as_file found) (r.shows n found h)) (λ e. r.shows n found h)

  none_shown : (found : Option (List ℕ)) → LeavesEntry v.nodes None found
      → MayShow (gone_disk.shows name) (as_file found)
  none_shown found h =
      shown (bytes_eq name name) (or_this None (d.shows name)) (d.shows name) (as_file found)
      (λ e. gone_shown (d.shows name) v.nodes found h) (λ e. absurd (let t : false ≡ true = sym e ∙ own_name name in cc))

  gone_within : Within gone_disk (after_step (unlink name) v)
  gone_within = lead_within gone_disk name None v kept_within none_shown

  part_within : Within gone_disk (step_part (unlink name) v)
  part_within = may_within gone_disk name None v kept_within none_shown

  still_open : (n : List ℕ) → (n ≡ name → ⊥) → (gone_disk.shows n).anything ≡ (d.shows n).anything
  still_open n other =
      ap (λ (s : Showing). s.anything) (cond-false (bytes_eq n name) (or_this None (d.shows n)) (d.shows n) (other_name n name other))

  draft_apart : (n : List ℕ) → d.reads.draft ≡ Some n → n ≡ name → ⊥
  draft_apart n is e = apart (is ∙ ap (λ (m : List ℕ). Some m) e)

  -- the draft, after names that aren't its own lead elsewhere, or may
  draft_gone : (p : Option ℕ) → DraftIs v d p
      → DraftIs (after_step (unlink name) v) (entered d (Done (map_remove name))) p
  draft_gone None is = tt
  draft_gone (Some i) is =
      let other : is.0 ≡ name → ⊥ = draft_apart is.0 is.1 in (
        is.0,
        is.1,
        record {
          named = names_other name is.0 None v other ∙ is.2.named;
          apart = λ n a. free_more (bytes_eq n name) i None (v.may n) (none_some i) (is.2.apart n a);
        },
        still_open is.0 other ∙ is.3,
        is.4,
      )

  draft_part : (steps : ℕ) (p : Option ℕ) → DraftIs v d p
      → DraftIs (step_part (unlink name) v) (entered d (Failed (map_remove name) steps)) p
  draft_part steps None is = tt
  draft_part steps (Some i) is =
      let other : is.0 ≡ name → ⊥ = draft_apart is.0 is.1 in (
        is.0,
        is.1,
        record {
          named = is.2.named;
          apart = λ n a. free_more (bytes_eq n name) i None (v.may n) (none_some i) (is.2.apart n a);
        },
        still_open is.0 other ∙ is.3,
        is.4,
      )

  draft_same : (p : Option ℕ) → DraftIs v d p → DraftIs v (entered d (Done (map_remove name))) p
  draft_same None is = tt
  draft_same (Some i) is = (is.0, is.1, is.2, still_open is.0 (draft_apart is.0 is.1) ∙ is.3, is.4)

  draft_still : (steps : ℕ) (p : Option ℕ) → DraftIs v d p → DraftIs v (entered d (Failed (map_remove name) steps)) p
  draft_still steps None is = tt
  draft_still steps (Some i) is = (is.0, is.1, is.2, still_open is.0 (draft_apart is.0 is.1) ∙ is.3, is.4)

  absent_reads : v.names name ≡ None → (n : List ℕ) → put d.reads.files name None n ≡ files_of v n
  absent_reads none =
      put_reads d.reads.files name None v (λ n a. r.reads n) (ap (λ (e : Option ℕ). as_file (read_at v.nodes e)) (sym none))

  pub removes : (es : List Step) → ((v.names name ≡ None) × (es ≡ [])) ⊎ (es ≡ Did (unlink name) ∷ [])
      → Keeps v d (map_remove name) es o
  removes es (inl is) =
      subst (λ (l : List Step). Keeps v d (map_remove name) l o) (sym is.1) (
        kept_within,
        record {
          shows = kept_within;
          reads = absent_reads is.0;
          here = r.here;
          sound = r.sound;
          draft = draft_same o r.draft;
        },
      )
  removes es (inr is) =
      subst (λ (l : List Step). Keeps v d (map_remove name) l o) (sym is) (
        (kept_within, part_within, gone_within),
        record {
          shows = gone_within;
          reads = put_reads d.reads.files name None (after_step (unlink name) v)
              (λ n a. r.reads n ∙ others_read name n None v a) (sym (lead_reads name None v));
          here = lead_here name None v r.here;
          sound = r.sound;
          draft = draft_gone o r.draft;
        },
      )

  pub breaks_remove : (steps : ℕ) (es : List Step) → (es ≡ []) ⊎ (es ≡ Broke (unlink name) ∷ [])
      → Fails v d (map_remove name) steps es o
  breaks_remove steps es (inl is) =
      subst (λ (l : List Step). Fails v d (map_remove name) steps l o) (sym is) (
        kept_within,
        record {
          shows = kept_within;
          reads = r.reads;
          here = r.here;
          sound = r.sound;
          draft = draft_still steps o r.draft;
        },
      )
  breaks_remove steps es (inr is) =
      subst (λ (l : List Step). Fails v d (map_remove name) steps l o) (sym is) (
        (kept_within, part_within, part_within),
        record {
          shows = part_within;
          reads = r.reads;
          here = may_here name None v r.here;
          sound = r.sound;
          draft = draft_part steps o r.draft;
        },
      )
