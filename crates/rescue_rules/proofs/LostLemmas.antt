-- What a stop leaves of a run past its barrier, it leaves over an output that could be before the run.
use Rattle.std.proofs.Common.{◌≡◌, ◌⊎◌, inl, inr, ⊎_elim, ℕ, suc, ◌+◌, ◌-◌, Bool, true, false, cond, List, [], ◌∷◌, ◌++◌, length, take, drop, Option, Some, None, refl, sym, ◌∙◌, ap, subst, arith, append_assoc, length-append}
use Rattle.std.specs.Str.{bytes_eq}
use Rattle.std.proofs.lemmas.Bool.{cases_Bool, cond-true, cond-false}
use Rattle.crash_site.specs.Files.{File, empty_file, draft_of, put}
use Rattle.crash_site.specs.Calls.{Call, Entry, Done, Failed, image_open, image_read, image_write, image_sync, map_read, draft_begin, draft_append, draft_sync, draft_publish, map_settle, map_remove}
use Rattle.crash_site.specs.CallsMade.{unanswered}
use Rattle.crash_site.specs.Folder.{Folder, after}
use Rattle.crash_site.specs.Disk.{Showing, Disk, only, lost_in, with_opened, after_part, at_rest, entered, disk_after}
use Rattle.crash_site.specs.Left.{Matches, MatchesFile, MayShow, Leaves, MayBeLeft, in_progress, until}
use Rattle.crash_site.specs.LostLaws.{IsCallOn, RunsOn, with_image}
use Rattle.crash_site.proofs.DiskLemmas.{holds_self, stands_only, leaves_failed, run-append, run_reads, same_name, reads_step, reads_run}
use Rattle.crash_site.proofs.LawLemmas.{Sure, sure_step, own_name, at_other, part_other, done_other, same_held, after-append}
use Rattle.crash_site.proofs.RunLemmas.{resolved_after}
use Rattle.rescue_rules.specs.Setting.{Setting}
use Rattle.rescue_rules.specs.Laws.{AreThreeNames}
use Rattle.rescue_rules.specs.Stops.{Before, files_before, files_after, lost_before, IsOrMade, CouldBefore, opened_output, CouldBeOutput, has_barrier, LeftBy}
use Rattle.rescue_rules.proofs.CutLemmas.{IsOf, Cut}
use Rattle.rescue_rules.proofs.MapfileLemmas.{opening_by}
use Rattle.rescue_rules.proofs.BarrierLemmas.{Opens, opens_image, opened_own, at_open, at_settle, at_barrier, settled_map}
use Rattle.rescue_rules.proofs.BeforeLemmas.{disk_before, sound_before, could_settle, put_same}
use Rattle.rescue_rules.proofs.SaveStages.{image_apart}
use Rattle.rescue_rules.proofs.OthersLemmas.{IsOfRun, AreOfRun, AtRun, drafts, run_image, run_draft}
use Rattle.rescue_rules.proofs.StopsByLemmas.{reads_before, Past, past}

-- ---- a run's calls are those of a run on its output

of_run_on : (s : Setting) (three : AreThreeNames s) (b : Bool) (d : Folder) (c : Call) → AtRun s b d → IsOfRun s b c
    → IsCallOn s.outfile d c
of_run_on s three b d (image_open name make) at of = absurd of
of_run_on s three b d (image_write pos piece) at of = tt
of_run_on s three b d (draft_begin name) at of = λ ch. three.draft (ch ∙ of)
of_run_on s three b d (draft_append piece) at of =
    λ ch. image_apart d.draft s.names.draft s.outfile (at.draft of) (λ e. three.draft (sym e)) ch
of_run_on s three b d (draft_publish name) at of =
    λ ch. ⊎_elim (λ e. image_apart d.draft s.names.draft s.outfile (at.draft of.0) (λ e. three.draft (sym e)) e)
    (λ e. three.map (e ∙ of.1)) ch
of_run_on s three b d (map_settle name) at of =
    (λ e. three.map (e ∙ of), λ e. three.draft (e ∙ ap draft_of of ∙ sym three.own))
of_run_on s three b d (map_remove name) at of = absurd of
of_run_on s three b d _ at of = λ no. no

-- also where the call that failed is listed without an answer
of_run_failed : (s : Setting) (d : Folder) (c x : Call) → IsOf c x → IsCallOn s.outfile d c → IsCallOn s.outfile d x
of_run_failed s d c x (inl is) of = subst (λ (y : Call). IsCallOn s.outfile d y) (sym is) of
of_run_failed s d c x (inr is) of = subst (λ (y : Call). IsCallOn s.outfile d y) (sym is) (unlisted c of)
  where
    unlisted : (c : Call) → IsCallOn s.outfile d c → IsCallOn s.outfile d (unanswered c)
    unlisted (image_open name make) h = h
    unlisted (image_read pos asked answer) h = h
    unlisted (image_write pos piece) h = h
    unlisted image_sync h = h
    unlisted (map_read name pos asked answer) h = h
    unlisted (draft_begin name) h = h
    unlisted (draft_append piece) h = h
    unlisted draft_sync h = h
    unlisted (draft_publish name) h = h
    unlisted (map_settle name) h = h
    unlisted (map_remove name) h = h

cut_runs : (s : Setting) (three : AreThreeNames s) (b : Bool) (d : Disk) (cs : List Call) (es : List Entry)
    → AtRun s b d.reads → AreOfRun s b cs → Cut cs es → RunsOn s.outfile d.reads es
cut_runs s three b d cs [] at of cut = tt
cut_runs s three b d [] (e ∷ es) at of cut = absurd cut
cut_runs s three b d (c ∷ cs) (Done x ∷ es) at of cut =
    subst (λ (y : Call). RunsOn s.outfile d.reads (Done y ∷ es)) (sym cut.0) (
      of_run_on s three b d.reads c at of.0,
      cut_runs s three (drafts c b) (entered d (Done c)) cs es
          (record { image = run_image s b d c of.0 at; draft = λ on. run_draft s b d c of.0 at on }) of.1 cut.1,
    )
cut_runs s three b d (c ∷ cs) (Failed x steps ∷ es) at of cut =
    (of_run_failed s d.reads c x cut.0 (of_run_on s three b d.reads c at of.0), cut.1)

-- ---- a run past its barrier

-- files that read alike could be before, too
could_alike : (b : Before) (outfile draft : List ℕ) (f g : List ℕ → Option File) → ((n : List ℕ) → g n ≡ f n)
    → CouldBefore b outfile draft f → CouldBefore b outfile draft g
could_alike b outfile draft f g same h = record {
  before = h.before;
  left = h.left;
  others = λ name out dr. same name ∙ h.others name out dr;
  output = subst (λ (o : Option File). IsOrMade (h.before outfile) o) (sym (same outfile)) h.output;
  draft = subst (λ (o : Option File). IsOrMade (h.before draft) o) (sym (same draft)) h.draft;
}

-- while a call is made, what could be found before it may be found
begun_leaves : (d : Disk) (es : List Entry) (f : List ℕ → Option File) → Leaves d f
    → Leaves (disk_after d (in_progress es)) f
begun_leaves d [] f h = h
begun_leaves d (Done call ∷ es) f h = leaves_failed d call f h
begun_leaves d (Failed call steps ∷ es) f h = leaves_failed d call f h

-- the files as they read after the first calls may be left then
reads_at_stop : (d : Disk) (es : List Entry) (k : ℕ) → Leaves d d.reads.files
    → Leaves (disk_after d (until k es)) (after d.reads (take k es)).files
reads_at_stop d es k sound =
    let now : Leaves (disk_after d (take k es)) (after d.reads (take k es)).files
    = subst (λ (f : Folder). Leaves (disk_after d (take k es)) f.files) (run_reads d (take k es))
    (reads_run d (take k es) sound) in
    subst (λ (e : Disk). Leaves e (after d.reads (take k es)).files)
    (sym (run-append d (take k es) (in_progress (drop k es))))
    (begun_leaves (disk_after d (take k es)) (drop k es) (after d.reads (take k es)).files now)

over_sound : (f : Bool) (x y : Showing) (v w : Option File) → MayShow x v → MayShow y w
    → MayShow (cond f x y) (cond f v w)
over_sound true x y v w h g = h
over_sound false x y v w h g = g

module _ (makes : Bool) (b : Before) (s : Setting) (three : AreThreeNames s)
    (opens : Opens makes (files_before b s.outfile)) where
  abbrev mid : Disk
  mid = at_settle s makes (disk_before b)

  -- the disk at the barrier, if this is the output
  abbrev pub over_disk : File → Disk
  over_disk was = with_image s.outfile was (at_barrier s makes (disk_before b))

  pub opens_disk : Opens makes ((disk_before b).reads.files s.outfile)
  opens_disk = subst (λ (o : Option File). Opens makes o) (sym (reads_before b s.outfile)) opens

  pub image : mid.reads.image ≡ Some s.outfile
  image = opens_image (disk_before b).reads s.outfile makes ((disk_before b).reads.files s.outfile) opens_disk

  there : mid.reads.files s.outfile ≡ Some (opened_output (files_before b s.outfile))
  there =
      opened_own (disk_before b).reads s.outfile makes ((disk_before b).reads.files s.outfile) opens_disk refl
      ∙ ap (λ (o : Option File). Some (opened_output o)) (reads_before b s.outfile)

  pub map : Sure (at_barrier s makes (disk_before b)) s.names.map ((disk_before b).reads.files s.names.map)
  map = sure_step mid (Done image_sync) s.names.map ((disk_before b).reads.files s.names.map) (λ no. no)
      (settled_map s makes (disk_before b) three)

  sound_mid : Leaves mid mid.reads.files
  sound_mid = reads_step (at_open s makes (disk_before b)) (Done (map_settle s.names.map))
      (reads_step (disk_before b) (Done (image_open s.outfile makes)) (sound_before b))

  pub sound : Leaves (at_barrier s makes (disk_before b)) (at_barrier s makes (disk_before b)).reads.files
  sound = reads_step mid (Done image_sync) sound_mid

  -- what reads then is what read before, except for the output
  reads_mid : (n : List ℕ) → (n ≡ s.outfile → ⊥) → mid.reads.files n ≡ files_before b n
  reads_mid n apart = done_other (disk_before b).reads (image_open s.outfile makes) n apart ∙ reads_before b n

  put_mid : (v : Option File) (n : List ℕ) → put (files_before b) s.outfile v n ≡ put mid.reads.files s.outfile v n
  put_mid v n = elim (cases_Bool (bytes_eq n s.outfile)) [
    | inl is ↦ cond-true (bytes_eq n s.outfile) v (files_before b n) is
        ∙ sym (cond-true (bytes_eq n s.outfile) v (mid.reads.files n) is)
    | inr is ↦ cond-false (bytes_eq n s.outfile) v (files_before b n) is
        ∙ sym (reads_mid n (λ e. other_is n e is))
        ∙ sym (cond-false (bytes_eq n s.outfile) v (mid.reads.files n) is)
  ]
    where
      other_is : (n : List ℕ) → n ≡ s.outfile → bytes_eq n s.outfile ≡ false → ⊥
      other_is n e off =
          absurd (let on : bytes_eq n s.outfile ≡ true = ap (λ (m : List ℕ). bytes_eq m s.outfile) e
          ∙ own_name s.outfile in cc)

  -- what is shown of the output when it was opened
  shown_mid : mid.shows s.outfile
      ≡ with_opened makes ((disk_before b).reads.files s.outfile) ((disk_before b).shows s.outfile)
  shown_mid =
      at_other (after_part (map_settle s.names.map) (at_open s makes (disk_before b))) s.names.map s.outfile
      (λ f v. only f)
      three.map
      ∙ part_other (at_open s makes (disk_before b)) (map_settle s.names.map) s.outfile
      (λ e. three.draft (e ∙ sym three.own))
      ∙ cond-true (bytes_eq s.outfile s.outfile)
      (with_opened makes ((disk_before b).reads.files s.outfile) ((disk_before b).shows s.outfile))
      ((disk_before b).shows s.outfile) (own_name s.outfile)

  -- where it differs from what reads it was lost before
  alike_before : (makes : Bool) (o : Option File) (v : Showing) (was : File) → Opens makes o
      → Matches (opened_output o) (lost_in (with_opened makes o v)) was → Matches (opened_output o) (lost_in v) was
  alike_before true (Some f) v was is h = h
  alike_before false (Some f) v was is h = h
  alike_before false None v was is h = absurd is
  alike_before true None v was is h =
      let same : Some was ≡ Some empty_file = same_held (Some empty_file) (Some was) h in
      subst (λ (o : Option File). MatchesFile (Some empty_file) (lost_in v) o) (sym same)
      (holds_self (Some empty_file) (lost_in v))

  could_be : (was : File) → Matches (opened_output (files_before b s.outfile)) (lost_in (mid.shows s.outfile)) was
      → MayShow (mid.shows s.outfile) (Some was) → CouldBeOutput b s.outfile s.names.draft was
  could_be was alike could = record {
    alike = subst (λ (o : Option File). Matches (opened_output o) (lost_before b s.outfile) was)
        (reads_before b s.outfile)
        (alike_before makes ((disk_before b).reads.files s.outfile) ((disk_before b).shows s.outfile) was opens_disk
        (subst (λ (v : Showing). Matches (opened_output ((disk_before b).reads.files s.outfile))
        (lost_in v) was) shown_mid
        (subst (λ (o : Option File). Matches (opened_output o) (lost_in (mid.shows s.outfile)) was)
        (sym (reads_before b s.outfile)) alike)));
    could = could_alike b s.outfile s.names.draft (put mid.reads.files s.outfile (Some was))
        (put (files_before b) s.outfile (Some was)) (put_mid (Some was))
        (could_settle b s makes (put mid.reads.files s.outfile (Some was)) three
        (λ n. elim (cases_Bool (bytes_eq n s.outfile)) [
          | inl is ↦ subst (λ (f : Option File). MayShow (mid.shows n) f)
              (sym (cond-true (bytes_eq n s.outfile) (Some was) (mid.reads.files n) is))
              (subst (λ (m : List ℕ). MayShow (mid.shows m) (Some was)) (sym (same_name n s.outfile is)) could)
          | inr is ↦ subst (λ (f : Option File). MayShow (mid.shows n) f)
              (sym (cond-false (bytes_eq n s.outfile) (Some was) (mid.reads.files n) is)) (sound_mid n)
        ]));
  }

  -- what reads could be, too
  pub could_read : CouldBeOutput b s.outfile s.names.draft (opened_output (files_before b s.outfile))
  could_read = could_be (opened_output (files_before b s.outfile))
      (holds_self (Some (opened_output (files_before b s.outfile))) (lost_in (mid.shows s.outfile)))
      (subst (λ (o : Option File). MayShow (mid.shows s.outfile) o) there (sound_mid s.outfile))

  -- with that output the barrier's disk reads as it does
  abbrev pub as_read : File
  as_read = opened_output (files_before b s.outfile)

  over_reads : (over_disk as_read).reads ≡ (at_barrier s makes (disk_before b)).reads
  over_reads =
      let d : Folder = (at_barrier s makes (disk_before b)).reads in
      let same : (n : List ℕ) → put d.files s.outfile (Some as_read) n ≡ d.files n = λ n.
      subst (λ (o : Option File). put d.files s.outfile o n ≡ d.files n) there (put_same d.files s.outfile n) in
      λ i. record { files = λ n. same n i; image = d.image; draft = d.draft }

  -- and the files as they read are among what may be left over it
  pub read_left : (tail : List Call) (calls : List Entry) (k : ℕ) → Cut (opening_by s makes ++ tail) calls
      → has_barrier (take k calls) ≡ true
      → Leaves (disk_after (over_disk as_read) (until (k - 3) (drop 3 calls))) (files_after b (take k calls))
  read_left tail calls k cut is =
      let q : Past s makes tail calls k = past s makes tail calls k cut is in
      let over : Disk = over_disk as_read in
      let d : Folder = (at_barrier s makes (disk_before b)).reads in
      let front : List Entry
      = Done (image_open s.outfile makes) ∷ Done (map_settle s.names.map) ∷ Done image_sync ∷ [] in
      let sound_over : Leaves over over.reads.files = λ n. over_sound (bytes_eq n s.outfile)
      (only (Some as_read)) ((at_barrier s makes (disk_before b)).shows n) (Some as_read) (d.files n)
      (stands_only (Some as_read))
      (sound n) in
      let here : Leaves (disk_after over (until q.j q.rest)) (after over.reads (take q.j q.rest)).files
      = reads_at_stop over q.rest q.j sound_over in
      let calls_are : take k calls ≡ front ++ take q.j q.rest
      = ap (λ (n : ℕ). take n calls) q.k_is ∙ ap (λ (l : List Entry). take (suc (suc (suc q.j))) l) q.es_is in
      let now : after b.start (b.earlier ++ take k calls) ≡ after over.reads (take q.j q.rest)
      = ap (λ (l : List Entry). after b.start (b.earlier ++ l)) calls_are
      ∙ after-append b.start b.earlier (front ++ take q.j q.rest)
      ∙ ap (λ (f : Folder). after f (front ++ take q.j q.rest)) (sym (run_reads (at_rest b.start) b.earlier))
      ∙ after-append (disk_before b).reads front (take q.j q.rest)
      ∙ ap (λ (f : Folder). after f (take q.j q.rest)) (sym over_reads) in
      subst (λ (f : Folder). Leaves (disk_after over (until (k - 3) (drop 3 calls))) f.files) (sym now)
      (subst (λ (l : List Entry). Leaves (disk_after over (until (k - 3) l)) (after over.reads (take q.j q.rest)).files)
      (sym (ap (drop 3) q.es_is))
      (subst (λ (m : ℕ). Leaves (disk_after over (until m q.rest)) (after over.reads (take q.j q.rest)).files)
      (let e : q.j ≡ k - 3 = omega (arith, q.k_is) in e) here))

  -- An output that could be before the run, and over which a stop may leave these files.
  pub record Resolved (calls : List Entry) (k : ℕ) (files : List ℕ → Option File) : Type 0 where
    pub was : File
    pub could : CouldBeOutput b s.outfile s.names.draft was
    pub left : Leaves (disk_after (over_disk was) (until (k - 3) (drop 3 calls))) files

  pub resolve : (tail : List Call) (calls : List Entry) (k : ℕ) (files : List ℕ → Option File) → AreOfRun s false tail
      → Cut (opening_by s makes ++ tail) calls → LeftBy b calls k files → has_barrier (take k calls) ≡ true
      → Resolved calls k files
  resolve tail calls k files of_run cut left is =
      let q : Past s makes tail calls k = past s makes tail calls k cut is in
      let opening : List Entry = Done (image_open s.outfile makes) ∷ Done (map_settle s.names.map) ∷ [] in
      let before : List Entry = b.earlier ++ opening in
      let same : disk_after (at_rest b.start) before ≡ mid = run-append (at_rest b.start) b.earlier opening in
      let reads : mid.reads ≡ after b.start before
      = ap (λ (d : Disk). d.reads) (sym same) ∙ run_reads (at_rest b.start) before in
      let run : RunsOn s.outfile mid.reads q.rest = cut_runs s three false mid tail q.rest
      (record { image = image; draft = λ off. absurd (let apart : false ≡ true = off in cc) }) of_run q.cut in
      let size : length before ≡ length b.earlier + 2 = length-append b.earlier opening in
      let whole : b.earlier ++ calls ≡ before ++ Done image_sync ∷ q.rest
      = ap (λ (l : List Entry). b.earlier ++ l) q.es_is
      ∙ sym (append_assoc b.earlier opening (Done image_sync ∷ q.rest)) in
      let moment : length b.earlier + k ≡ length before + (1 + q.j) = omega (arith, size, q.k_is) in
      let here : MayBeLeft b.start (before ++ Done image_sync ∷ q.rest) (length before + (1 + q.j)) files
      = subst (λ (l : List Entry). MayBeLeft b.start l (length before + (1 + q.j)) files) whole
      (subst (λ (m : ℕ). MayBeLeft b.start (b.earlier ++ calls) m files) moment left) in
      let r = resolved_after b.start before q.rest s.outfile (opened_output (files_before b s.outfile)) q.j files
      (ap (λ (f : Folder). f.image) (sym reads) ∙ image)
      (ap (λ (f : Folder). f.files s.outfile) (sym reads) ∙ there)
      (subst (λ (f : Folder). RunsOn s.outfile f q.rest) reads run) here in
      let was : File = r.0 in
      let barrier : disk_after (at_rest b.start) (before ++ Done image_sync ∷ []) ≡ at_barrier s makes (disk_before b)
      = run-append (at_rest b.start) before (Done image_sync ∷ [])
      ∙ ap (λ (d : Disk). entered d (Done image_sync)) same in
      let rest : q.rest ≡ drop 3 calls = sym (ap (drop 3) q.es_is) in
      let j : q.j ≡ k - 3 = omega (arith, q.k_is) in
      record {
        was = was;
        could = could_be was
            (subst (λ (d : Disk). Matches (opened_output (files_before b s.outfile))
            (lost_in (d.shows s.outfile)) was) same
            r.1)
            (subst (λ (d : Disk). MayShow (d.shows s.outfile) (Some was)) same r.2);
        left = subst (λ (l : List Entry). Leaves (disk_after (over_disk was) (until (k - 3) l)) files) rest
            (subst (λ (m : ℕ). Leaves (disk_after (over_disk was) (until m q.rest)) files) j
            (subst (λ (d : Disk). Leaves (disk_after (with_image s.outfile was d) (until q.j q.rest)) files)
            barrier r.3));
      }
