-- Where the model of a site is kinder than a kernel.
use Rattle.std.proofs.Common.{◌≡◌, inl, ℕ, true, List, [], ◌∷◌, length, Option, Some, sym, ◌∙◌, ap, subst, arith}
use Rattle.std.specs.Str.{bytes_eq}
use Rattle.std.proofs.lemmas.Bool.{cond-true}
use Rattle.kernel_files.specs.Volume.{Node, Volume, sync_file, sync_folder, folder_of, synced, after_done as after_step, LeavesOne, MayRead}
use Rattle.kernel_files.proofs.Volumes.{node_here, own_name}
use Rattle.crash_site.specs.Files.{bytes_of}
use Rattle.crash_site.specs.Disk.{Showing, only}
use Rattle.crash_site.specs.Left.{IsLoose, MayShow}
use Rattle.crash_site.proofs.LawLemmas.{found_only}
use Rattle.kernel_laws.specs.Refines.{as_file, read_at}
use Rattle.kernel_laws.specs.Laws.{RetriedSettleIsNotRefined}

-- all of a file was lost: a sync that returns leaves any bytes in their place
any_bytes : (f : Node) (bytes : List ℕ) → f.lost ≡ (0, length f.bytes) ∷ [] → length bytes ≡ length f.bytes
    → MayRead (synced f) bytes
any_bytes f bytes lost same = record {
  stands = λ x lt. inl (subst (λ (rs : List (ℕ × ℕ)). IsLoose rs x) (sym lost) (inl (omega arith, omega (arith, lt))));
  no_shorter = omega (arith, same);
  no_longer = omega (arith, same);
}

pub retried : RetriedSettleIsNotRefined
retried v d name bytes j named lost reads same other =
    let u : Volume = after_step (sync_folder (folder_of name)) v in
    let w : Volume = after_step (sync_file j) u in
    let node : MayRead (w.nodes j) bytes =
    subst (λ (f : Node). MayRead f bytes) (sym (node_here j synced u)) (any_bytes (v.nodes j) bytes lost same) in
    let file : d.reads.files name ≡ Some (record { bytes = (v.nodes j).bytes; regular = true }) =
    reads ∙ ap (λ (e : Option ℕ). as_file (read_at v.nodes e)) named in
    let one : w.may name ≡ Some j ∷ [] =
    cond-true (bytes_eq (folder_of name) (folder_of name)) (v.names name ∷ []) (v.may name) (own_name (folder_of name))
    ∙ ap (λ (e : Option ℕ). e ∷ []) named in (
      subst (λ (l : List (Option ℕ)). LeavesOne w.nodes l (Some bytes)) (sym one) (inl node),
      λ shows.
          let found : Some (record { bytes = bytes; regular = true }) ≡ d.reads.files name =
          found_only (d.reads.files name) (as_file (Some bytes))
          (subst (λ (s : Showing). MayShow s (as_file (Some bytes)))
          (cond-true (bytes_eq name name) (only (d.reads.files name)) _ (own_name name)) shows) in
          let both : Some (record { bytes = bytes; regular = true }) ≡ Some (record { bytes = (v.nodes j).bytes; regular = true }) = found ∙ file in
          other (ap bytes_of both),
    )
