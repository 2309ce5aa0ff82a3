-- A draft's publish.
use Rattle.std.proofs.Common.{◌≡◌, ◌⊎◌, inl, inr, ℕ, Bool, true, false, List, [], ◌∷◌, Option, Some, None, refl, sym, ◌∙◌, ap, subst}
use Rattle.std.specs.Str.{bytes_eq}
use Rattle.kernel_files.specs.Volume.{Node, Volume, rename, Entry as Step, Done as Did, Failed as Broke, lead, may_lead, after_done as after_step, after_part as step_part, Leaves as LeavesEntry}
use Rattle.crash_site.specs.Files.{File, put}
use Rattle.crash_site.specs.Calls.{draft_publish}
use Rattle.crash_site.specs.Folder.{published}
use Rattle.crash_site.specs.Disk.{Showing, Disk, under, with_draft, with_text, publishing}
use Rattle.crash_site.specs.Left.{MayShow, MatchesFile, IsText}
use Rattle.crash_site.proofs.DiskLemmas.{holds_self}
use Rattle.kernel_laws.specs.Refines.{as_file, read_at, files_of, Within, IsFirm, Refines, Begun}
use Rattle.kernel_laws.proofs.Names.{not_name, shown, lead_within, may_within, lead_here, may_here, whole_found, lead_reads, others_read, put_reads}
use Rattle.kernel_laws.proofs.Begins.{Keeps, Fails, own_anything, draft_within}

widens_text : (file : Option File) (firm : Bool) (reads : Option File) (s : Showing) (found : Option File)
    → MayShow s found
    → MayShow (with_text file firm reads s) found
widens_text file true reads s found (inl any) = inl any
widens_text file true reads s found (inr (inl text)) = inr (inl text)
widens_text file true reads s found (inr (inr (inl h))) = inr (inr (inl h))
widens_text file true reads s found (inr (inr (inr h))) = inr (inr (inr (inr h)))
widens_text file false reads s found (inl any) = inl any
widens_text file false reads s found (inr (inl text)) = inr (inl (refl, text.1))
widens_text file false reads s found (inr (inr (inl h))) = inr (inr (inl h))
widens_text file false reads s found (inr (inr (inr h))) = inr (inr (inr (inr h)))

is_some_text : (nodes : ℕ → Node) (i : ℕ) (found : Option (List ℕ)) → LeavesEntry nodes (Some i) found
    → IsText (as_file found)
is_some_text nodes i None h = absurd h
is_some_text nodes i (Some bytes) h = refl

-- the draft's file may be found: the text, if it was synced, and otherwise any
text_shown : (file : Option File) (firm : Bool) (reads : Option File) (s : Showing) (nodes : ℕ → Node) (i : ℕ)
    (found : Option (List ℕ)) → file ≡ as_file (read_at nodes (Some i)) → (firm ≡ true → IsFirm (nodes i))
    → LeavesEntry nodes (Some i) found → MayShow (with_text file firm reads s) (as_file found)
text_shown file true reads s nodes i found is whole_if h =
    let e : found ≡ read_at nodes (Some i) =
    whole_found nodes (Some i) found (λ j same. let k : i ≡ j = cc in subst (λ (m : ℕ). IsFirm (nodes m)) k (whole_if refl)) h in
    inr (inr (inr (inl (subst (λ (f : Option File). MatchesFile file [] f) (is ∙ ap as_file (sym e)) (holds_self file [])))))
text_shown file false reads s nodes i found is whole_if h = inr (inl (refl, is_some_text nodes i found h))

module _ (v : Volume) (d : Disk) (draft name : List ℕ) (i : ℕ) (apart : draft ≡ name → ⊥) (r : Refines v d (Some i))
    (at : d.reads.draft ≡ Some draft) (b : Begun draft i v) (firm : d.firm ≡ true → IsFirm (v.nodes i)) where
  -- the disk while the draft's name may show anything, and then with its text under the other name
  abbrev open_disk : Disk
  open_disk = under draft with_draft d

  abbrev text_disk : Disk
  text_disk = under name (with_text (d.reads.files draft) d.firm) open_disk

  here_text : (s : Showing) (n : List ℕ) (found : Option File)
      → (bytes_eq n name ≡ true → MayShow (with_text (d.reads.files draft) d.firm (d.reads.files n) (open_disk.shows n)) found)
      → (bytes_eq n name ≡ false → MayShow (open_disk.shows n) found) → MayShow (text_disk.shows n) found
  here_text s n found h k =
      shown (bytes_eq n name) (with_text (d.reads.files draft) d.firm (d.reads.files n) (open_disk.shows n)) (open_disk.shows n) found h k

  old_within : Within text_disk v
  old_within n found h =
      let before : MayShow (open_disk.shows n) (as_file found) = draft_within d draft v r.shows n found h in
      here_text (d.shows n) n (as_file found)
      (λ e. widens_text (d.reads.files draft) d.firm (d.reads.files n) (open_disk.shows n) (as_file found) before) (λ e. before)

  draft_shown : (found : Option (List ℕ)) → MayShow (text_disk.shows draft) (as_file found)
  draft_shown found =
      let any : MayShow (open_disk.shows draft) (as_file found) = inl (own_anything d draft) in
      here_text (d.shows draft) draft (as_file found)
      (λ e. widens_text (d.reads.files draft) d.firm (d.reads.files draft) (open_disk.shows draft) (as_file found) any) (λ e. any)

  file_is : d.reads.files draft ≡ as_file (read_at v.nodes (Some i))
  file_is = r.reads draft ∙ ap (λ (e : Option ℕ). as_file (read_at v.nodes e)) b.named

  name_shown : (found : Option (List ℕ)) → LeavesEntry v.nodes (v.names draft) found
      → MayShow (text_disk.shows name) (as_file found)
  name_shown found h =
      let text : LeavesEntry v.nodes (Some i) found = subst (λ (e : Option ℕ). LeavesEntry v.nodes e found) b.named h in
      here_text (d.shows name) name (as_file found)
      (λ e. text_shown (d.reads.files draft) d.firm (d.reads.files name) (open_disk.shows name) v.nodes i found file_is firm text)
      (λ e. absurd (not_name name name e refl))

  gone_within : Within text_disk (lead draft None v)
  gone_within = lead_within text_disk draft None v old_within (λ found _. draft_shown found)

  new_within : Within text_disk (after_step (rename draft name) v)
  new_within = lead_within text_disk name (v.names draft) (lead draft None v) gone_within name_shown

  part_within : Within text_disk (step_part (rename draft name) v)
  part_within =
      may_within text_disk name (v.names draft) (may_lead draft None v)
      (may_within text_disk draft None v old_within (λ found _. draft_shown found)) name_shown

  at_publish : (w : Volume) → Within text_disk w → Within (publishing d.reads.draft name d) w
  at_publish w h = subst (λ (o : Option (List ℕ)). Within (publishing o name d) w) (sym at) h

  moved_reads : (n : List ℕ)
      → put (put d.reads.files draft None) name (d.reads.files draft) n ≡ files_of (after_step (rename draft name) v) n
  moved_reads =
      let u : Volume = lead draft None v in
      let w : Volume = after_step (rename draft name) v in
      let gone : (n : List ℕ) → put d.reads.files draft None n ≡ files_of u n =
      put_reads d.reads.files draft None u (λ n a. r.reads n ∙ others_read draft n None v a) (sym (lead_reads draft None v)) in
      put_reads (put d.reads.files draft None) name (d.reads.files draft) w
      (λ n a. gone n ∙ others_read name n (v.names draft) u a)
      (r.reads draft ∙ sym (lead_reads name (v.names draft) u))

  pub publishes : Keeps v d (draft_publish name) (Did (rename draft name) ∷ []) None
  publishes = (
    (
      at_publish v old_within,
      at_publish (step_part (rename draft name) v) part_within,
      at_publish (after_step (rename draft name) v) new_within,
    ),
    record {
      shows = at_publish (after_step (rename draft name) v) new_within;
      reads = λ n. ap (λ (o : Option (List ℕ)). (published d.reads o name).files n) at ∙ moved_reads n;
      here = lead_here name (v.names draft) (lead draft None v) (lead_here draft None v r.here);
      sound = r.sound;
      draft = tt;
    },
  )

  pub breaks_publish : (steps : ℕ) (es : List Step) → (es ≡ []) ⊎ (es ≡ Broke (rename draft name) ∷ [])
      → Fails v d (draft_publish name) steps es None
  breaks_publish steps es (inl is) =
      subst (λ (l : List Step). Fails v d (draft_publish name) steps l None) (sym is) (
        at_publish v old_within,
        record {
          shows = at_publish v old_within;
          reads = r.reads;
          here = r.here;
          sound = r.sound;
          draft = tt;
        },
      )
  breaks_publish steps es (inr is) =
      let w : Volume = step_part (rename draft name) v in
      subst (λ (l : List Step). Fails v d (draft_publish name) steps l None) (sym is) (
        (at_publish v old_within, at_publish w part_within, at_publish w part_within),
        record {
          shows = at_publish w part_within;
          reads = r.reads;
          here = may_here name (v.names draft) (may_lead draft None v) (may_here draft None v r.here);
          sound = r.sound;
          draft = tt;
        },
      )
