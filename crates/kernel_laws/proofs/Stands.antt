-- What a site over a kernel keeps, after a call more.
use Rattle.std.proofs.Common.{◌≡◌, ℕ, true, false, true≢false, List, [], ◌∷◌, ◌++◌, length, length-append, Option, Some, None, refl, sym, ◌∙◌, ap, subst, arith}
use Rattle.std.proofs.lemmas.Bool.{cond-false, cond-true}
use Rattle.kernel_files.specs.Volume.{Volume, Entry as Step, after as after_steps}
use Rattle.crash_site.specs.Calls.{Call, Entry, Done, Failed}
use Rattle.crash_site.specs.Folder.{Folder, after_done, after_failed, after_entry}
use Rattle.crash_site.specs.Disk.{Disk, at_rest, entered, disk_after}
use Rattle.site_record.specs.Record.{Note}
use Rattle.kernel_laws.specs.Refines.{Follows}
use Rattle.kernel_laws.specs.Calls.{Makes, Breaks, Enters}
use Rattle.kernel_laws.specs.Laws.{Deed, entries, steps_of, first_folder}
use Rattle.kernel_laws.specs.Deeds.{steps_in, entry_of, deeds_of, calls_of, folder_after, total, RunsTo, Suits}
use Rattle.kernel_laws.specs.Site.{Opened, IsCalm, IsRun, Stands}
use Rattle.kernel_laws.proofs.Stops.{run_append}
use Rattle.kernel_laws.proofs.Refined.{enters_along, at_first}
use Rattle.kernel_laws.proofs.Deeds.{deed_of, deeds_append, folder_append, total_append, steps_all, runs_append, suits_before, reads_after}

-- The disk of the site follows the files.

runs_follow : (ds : List Deed) (v : Volume) (d : Disk) (o k p q : Option ℕ) → Follows v d o k → RunsTo v d o k ds p q
    → Follows (after_steps v (steps_of ds)) (disk_after d (entries ds)) p q
runs_follow [] v d o k p q h run =
    subst (λ (x : Option ℕ). Follows v d x q) run.0 (subst (λ (x : Option ℕ). Follows v d o x) run.1 h)
runs_follow (a ∷ ds) v d o k p q h run =
    let next = (enters_along v d o k run.0 run.1 a.entry a.steps h run.2).1 in
    subst (λ (w : Volume). Follows w (disk_after (entered d a.entry) (entries ds)) p q)
    (sym (run_append v a.steps (steps_of ds)))
    (runs_follow ds (after_steps v a.steps) (entered d a.entry) run.0 run.1 p q next run.3)

pub follows_to : (v : Volume) (ns : List Note) (es : List Step) (p q : Option ℕ) → Suits v ns → total ns ≡ length es
    → RunsTo v (at_rest (first_folder v)) None None (deeds_of ns es) p q
    → (d : Disk) × (d ≡ disk_after (at_rest (first_folder v)) (calls_of ns es)) × Follows (after_steps v es) d p q
follows_to v ns es p q suits counted run =
    let d : Disk = disk_after (at_rest (first_folder v)) (calls_of ns es) in (
      d,
      refl,
      subst (λ (l : List Step). Follows (after_steps v l) d p q) (steps_all ns es counted)
          (runs_follow (deeds_of ns es) v (at_rest (first_folder v)) None None p q (at_first v suits.rest) run),
    )

-- One call more.

-- what holds of the files and the folder after a run, beside what was called
pub record RestOfRun (w : Volume) (r : Folder) (o : Opened) : Type 0 where
  pub image : r.image ≡ o.image_name
  pub draft : r.draft ≡ o.draft_name
  pub entry : o.has_folder ≡ false → (name : List ℕ) (i : ℕ) → o.image_name ≡ Some name → o.image ≡ Some i
      → w.may name ≡ Some i ∷ []
  pub firm : o.is_firm ≡ true → (i : ℕ) → o.draft ≡ Some i → IsCalm (w.nodes i)
  pub lost : o.is_lost ≡ false → (i : ℕ) → o.draft ≡ Some i → (w.nodes i).lost ≡ []
  pub calm : (name : List ℕ) (i : ℕ) → w.names name ≡ Some i → (o.image_name ≡ Some name → ⊥)
      → (o.draft_name ≡ Some name → ⊥) → (o.left ≡ Some name → ⊥) → IsCalm (w.nodes i)

pub rest_of : (v : Volume) (ns : List Note) (es : List Step) (o : Opened) → IsRun v ns es o
    → RestOfRun (after_steps v es) (folder_after v ns es) o
rest_of v ns es o h = record {
  image = h.image;
  draft = h.draft;
  entry = h.entry;
  firm = h.firm;
  lost = h.lost;
  calm = h.calm;
}

-- What a lemma on one call is handed: the files that the calls before left suit, what holds of them, and a disk of the
-- site that follows them.
pub record Before (v : Volume) (ns : List Note) (n : Note) (es : List Step) (o : Opened) : Type 0 where
  pub suits : Suits v (ns ++ n ∷ [])
  pub run : IsRun v ns es o
  pub disk : Disk
  pub reads : disk.reads ≡ folder_after v ns es
  pub follows : Follows (after_steps v es) disk o.draft o.image

module _ (v : Volume) (ns : List Note) (es : List Step) (o u : Opened) (n : Note) (fs : List Step) where
  before_of : Stands v ns es o → o.is_dropped ≡ false → Suits v (ns ++ n ∷ []) → Before v ns n es o
  before_of h kept suits =
      let was : Suits v ns = suits_before v ns n suits in
      let run : IsRun v ns es o = h.run kept was in
      let to = follows_to v ns es o.draft o.image was h.counted run.runs in
      record {
        suits = suits;
        run = run;
        disk = to.0;
        reads = ap (λ (d : Disk). d.reads) to.1 ∙ reads_after (first_folder v) (calls_of ns es);
        follows = to.2;
      }

  -- the disk that the steps reach reads as the site's record says
  enters_there : total ns ≡ length es
      → Enters (after_steps v es) (folder_after v ns es) o.draft o.image (entry_of n fs) fs u.draft u.image
      → Enters (after_steps v (steps_of (deeds_of ns es))) (disk_after (at_rest (first_folder v)) (calls_of ns es)).reads
      o.draft o.image (entry_of n fs) fs u.draft u.image
  enters_there counted enters =
      subst (λ (l : List Step). Enters (after_steps v l) (disk_after (at_rest (first_folder v)) (calls_of ns es)).reads
      o.draft o.image (entry_of n fs) fs u.draft u.image) (sym (steps_all ns es counted))
      (subst (λ (r : Folder). Enters (after_steps v es) r o.draft o.image (entry_of n fs) fs u.draft u.image)
      (sym (reads_after (first_folder v) (calls_of ns es))) enters)

  run_more : Before v ns n es o → total ns ≡ length es → n.made ≡ length fs
      → Enters (after_steps v es) (folder_after v ns es) o.draft o.image (entry_of n fs) fs u.draft u.image
      → RunsTo v (at_rest (first_folder v)) None None (deeds_of (ns ++ n ∷ []) (es ++ fs)) u.draft u.image
  run_more b counted made enters =
      subst (λ (l : List Deed). RunsTo v (at_rest (first_folder v)) None None l u.draft u.image)
      (sym (deeds_append ns n es fs counted made))
      (runs_append (deeds_of ns es) (deed_of n fs) v (at_rest (first_folder v)) None None o.draft o.image
      u.draft u.image b.run.runs (enters_there counted enters))

  is_run_more : Before v ns n es o → total ns ≡ length es → n.made ≡ length fs
      → Enters (after_steps v es) (folder_after v ns es) o.draft o.image (entry_of n fs) fs u.draft u.image
      → RestOfRun (after_steps (after_steps v es) fs) (after_entry (folder_after v ns es) (entry_of n fs)) u
      → IsRun v (ns ++ n ∷ []) (es ++ fs) u
  is_run_more b counted made enters rest =
      let there : RestOfRun (after_steps v (es ++ fs)) (folder_after v (ns ++ n ∷ []) (es ++ fs)) u =
      subst (λ (w : Volume). RestOfRun w (folder_after v (ns ++ n ∷ []) (es ++ fs)) u) (sym (run_append v es fs))
      (subst (λ (r : Folder). RestOfRun (after_steps (after_steps v es) fs) r u)
      (sym (folder_append v ns n es fs counted made)) rest) in
      record {
        runs = run_more b counted made enters;
        image = there.image;
        draft = there.draft;
        entry = there.entry;
        firm = there.firm;
        lost = there.lost;
        calm = there.calm;
      }

  counted_more : total ns ≡ length es → n.made ≡ length fs → total (ns ++ n ∷ []) ≡ length (es ++ fs)
  counted_more counted made = omega (arith, counted, made, total_append ns n, length-append es fs)

  -- no calls were made if the image may be opened still
  first_more : (o.is_closed ≡ false → es ≡ []) → (u.is_closed ≡ false → (fs ≡ []) × (o.is_closed ≡ false))
      → u.is_closed ≡ false → es ++ fs ≡ []
  first_more first closes open_ =
      let c = closes open_ in
      ap (λ (l : List Step). l ++ fs) (first c.1) ∙ c.0

  -- One call more, whatever it was. What it has to show is asked for once the files suit.
  pub stands_step : Stands v ns es o → o.is_dropped ≡ false → n.made ≡ length fs → u.is_dropped ≡ false
      → (u.is_closed ≡ false → (fs ≡ []) × (o.is_closed ≡ false))
      → (Before v ns n es o
      → Enters (after_steps v es) (folder_after v ns es) o.draft o.image (entry_of n fs) fs u.draft u.image
      × RestOfRun (after_steps (after_steps v es) fs) (after_entry (folder_after v ns es) (entry_of n fs)) u)
      → Stands v (ns ++ n ∷ []) (es ++ fs) u
  stands_step h kept made keeps closes shows = record {
    counted = counted_more h.counted made;
    run = λ _ suits.
        let b : Before v ns n es o = before_of h kept suits in
        let s = shows b in is_run_more b h.counted made s.0 s.1;
    gone = λ dropped suits. absurd (true≢false (sym dropped ∙ keeps));
    first = first_more h.first closes;
  }

  done_entry : (call : Call) → n.call ≡ call → n.ok ≡ true → entry_of n fs ≡ Done call
  done_entry call is ok =
      cond-true n.ok (Done n.call) (Failed n.call (steps_in n.call fs)) ok ∙ ap (λ (c : Call). Done c) is

  failed_entry : (call : Call) → n.call ≡ call → n.ok ≡ false → entry_of n fs ≡ Failed call (steps_in call fs)
  failed_entry call is ok =
      cond-false n.ok (Done n.call) (Failed n.call (steps_in n.call fs)) ok
      ∙ ap (λ (c : Call). Failed c (steps_in c fs)) is

  by_entry : (e : Entry) → entry_of n fs ≡ e
      → Enters (after_steps v es) (folder_after v ns es) o.draft o.image e fs u.draft u.image
      × RestOfRun (after_steps (after_steps v es) fs) (after_entry (folder_after v ns es) e) u
      → Enters (after_steps v es) (folder_after v ns es) o.draft o.image (entry_of n fs) fs u.draft u.image
      × RestOfRun (after_steps (after_steps v es) fs) (after_entry (folder_after v ns es) (entry_of n fs)) u
  by_entry e is s =
      subst (λ (x : Entry). Enters (after_steps v es) (folder_after v ns es) o.draft o.image x fs u.draft u.image
      × RestOfRun (after_steps (after_steps v es) fs) (after_entry (folder_after v ns es) x) u) (sym is) s

  -- one call more, which returned
  pub stands_done : (call : Call) → Stands v ns es o → o.is_dropped ≡ false → n.call ≡ call → n.ok ≡ true
      → n.made ≡ length fs → u.is_dropped ≡ false → (u.is_closed ≡ false → (fs ≡ []) × (o.is_closed ≡ false))
      → (Before v ns n es o
      → Makes (after_steps v es) (folder_after v ns es) o.draft o.image call fs u.draft u.image
      × RestOfRun (after_steps (after_steps v es) fs) (after_done (folder_after v ns es) call) u)
      → Stands v (ns ++ n ∷ []) (es ++ fs) u
  stands_done call h kept is ok made keeps closes shows =
      stands_step h kept made keeps closes (λ b. by_entry (Done call) (done_entry call is ok) (shows b))

  -- one call more, which failed
  pub stands_failed : (call : Call) → Stands v ns es o → o.is_dropped ≡ false → n.call ≡ call → n.ok ≡ false
      → n.made ≡ length fs → u.is_dropped ≡ false → (u.is_closed ≡ false → (fs ≡ []) × (o.is_closed ≡ false))
      → (Before v ns n es o
      → Breaks (after_steps v es) (folder_after v ns es) o.draft o.image call (steps_in call fs) fs u.draft u.image
      × RestOfRun (after_steps (after_steps v es) fs) (after_failed (folder_after v ns es) call (steps_in call fs)) u)
      → Stands v (ns ++ n ∷ []) (es ++ fs) u
  stands_failed call h kept is ok made keeps closes shows =
      stands_step h kept made keeps closes
      (λ b. by_entry (Failed call (steps_in call fs)) (failed_entry call is ok) (shows b))
