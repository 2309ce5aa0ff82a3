-- A run leaves every other file as it could be found before.
use Rattle.std.specs.Bool.{⊤}
use Rattle.std.proofs.Common.{◌≡◌, ◌≢◌, inl, inr, ⊎_elim, ℕ, suc, ◌+◌, Bool, true, false, List, [], ◌∷◌, ◌++◌, length, map, Option, Some, None, refl, sym, ◌∙◌, ap, subst, append_assoc, append-nil}
use Rattle.std.specs.List.{flat_map}
use Rattle.std.specs.Str.{bytes_eq}
use Rattle.std.proofs.lemmas.Bool.{cases_Bool, cond-true, cond-false}
use Rattle.std.proofs.lemmas.Option.{same_Some}
use Rattle.mapfile_text.specs.Pieces.{pieces_of}
use Rattle.crash_site.specs.declared.site.MapRead.{MapRead}
use Rattle.crash_site.specs.Files.{File, draft_of, put}
use Rattle.crash_site.specs.Calls.{Call, Entry, Done, Failed, image_open, image_read, image_write, image_sync, map_read, draft_begin, draft_append, draft_sync, draft_publish, map_settle, map_remove}
use Rattle.crash_site.specs.Folder.{Folder, with_piece}
use Rattle.crash_site.specs.Disk.{Showing, Disk, lose, lose_all, in_each, synced, only, with_opened, after_part, entered, disk_after}
use Rattle.crash_site.specs.Left.{MayShow, Leaves, until, MayBeLeft}
use Rattle.crash_site.proofs.DiskLemmas.{same_name}
use Rattle.crash_site.proofs.LawLemmas.{at_other, some_other, part_other, part_reads}
use Rattle.mapfile_save.specs.Saving.{save_calls}
use Rattle.mapfile_save.specs.Loading.{piece_size, piece_reads}
use Rattle.mapfile_save.proofs.StageLemmas.{appended_draft}
use Rattle.mapfile_save.specs.MapNames.{HasOwnDraft}
use Rattle.rescue_rules.specs.Setting.{Setting}
use Rattle.rescue_rules.specs.Snapshots.{Snapshot, text_of}
use Rattle.rescue_rules.specs.Deeds.{Deed, save_of, deed_calls, image_after, WritesAt, KeepsOn, KeepsUp}
use Rattle.rescue_rules.specs.Stops.{Before, is_settle, is_write}
use Rattle.rescue_rules.specs.StopsBy.{is_publish}
use Rattle.rescue_rules.proofs.CutLemmas.{Cut, Each, at_stop, add}
use Rattle.rescue_rules.proofs.SaveStages.{put_own, image_apart, image_stays}
use Rattle.rescue_rules.proofs.BarrierLemmas.{Opens, opens_image, at_open, at_settle, at_barrier}
use Rattle.rescue_rules.proofs.MapfileLemmas.{opening_by}
use Rattle.rescue_rules.proofs.DeedStages.{last_calls, all_calls}
use Rattle.rescue_rules.proofs.BeforeLemmas.{disk_before, sound_before, left_before}

-- a name that is none of a run's
pub record IsOther (s : Setting) (name : List ℕ) : Type 0 where
  pub output : name ≢ s.outfile
  pub map : name ≢ s.names.map
  pub draft : name ≢ s.names.draft
  pub own : HasOwnDraft s.names

-- a load's reads
abbrev pub reads_of : Setting → List ℕ → ℕ → Option MapRead → List Call
reads_of s given at answer = piece_reads s.names.map 0 given ++ map_read s.names.map at piece_size answer ∷ []

-- what is shown there
abbrev Shows : List ℕ → Showing → ℕ → ℕ → ℕ → Disk → Type 0
Shows name v r p w d = d.shows name ≡ v

-- a call that a run after the barrier makes, whether a draft of its own is begun or not
abbrev pub IsOfRun : Setting → (drafting : Bool) → Call → Type 0
IsOfRun s b (image_open name make) = ⊥
IsOfRun s b (image_read pos asked answer) = ⊤
IsOfRun s b (image_write pos piece) = ⊤
IsOfRun s b image_sync = ⊤
IsOfRun s b (map_read name pos asked answer) = ⊤
IsOfRun s b (draft_begin name) = name ≡ s.names.draft
IsOfRun s b (draft_append piece) = b ≡ true
IsOfRun s b draft_sync = ⊤
IsOfRun s b (draft_publish name) = (b ≡ true) × (name ≡ s.names.map)
IsOfRun s b (map_settle name) = name ≡ s.names.map
IsOfRun s b (map_remove name) = ⊥

-- whether one is begun after it
abbrev pub drafts : Call → Bool → Bool
drafts (draft_begin name) b = true
drafts (draft_publish name) b = false
drafts call b = b

abbrev pub AreOfRun : Setting → Bool → List Call → Type 0
AreOfRun s b [] = ⊤
AreOfRun s b (c ∷ cs) = IsOfRun s b c × AreOfRun s (drafts c b) cs

-- the image is the output, and where a draft is begun it has its own name
pub record AtRun (s : Setting) (b : Bool) (d : Folder) : Type 0 where
  pub image : d.image ≡ Some s.outfile
  pub draft : b ≡ true → d.draft ≡ Some s.names.draft

draft_is : (s : Setting) (d : Folder) (name : List ℕ) → d.draft ≡ Some s.names.draft → IsOther s name
    → d.draft ≡ Some name → ⊥
draft_is s d name at other is = other.draft (same_Some name s.names.draft (sym is ∙ at))

-- such a call changes nothing under another name
aside : (s : Setting) (b : Bool) (d : Disk) (call : Call) (name : List ℕ) → IsOfRun s b call → AtRun s b d.reads
    → IsOther s name → (entered d (Done call)).shows name ≡ d.shows name
aside s b d (image_open n make) name of at other = absurd of
aside s b d (image_write pos piece) name of at other =
    part_other d (image_write pos piece) name (image_apart d.reads.image s.outfile name at.image (λ e. other.output (sym e)))
aside s b d image_sync name of at other =
    some_other d d.reads.image name synced
    (image_apart d.reads.image s.outfile name at.image (λ e. other.output (sym e)))
aside s b d (draft_begin n) name of at other = part_other d (draft_begin n) name (λ e. other.draft (e ∙ of))
aside s b d (draft_append piece) name of at other =
    part_other d (draft_append piece) name (draft_is s d.reads name (at.draft of) other)
aside s b d (draft_publish n) name of at other =
    part_other d (draft_publish n) name
    (λ ch. ⊎_elim (λ e. draft_is s d.reads name (at.draft of.0) other e) (λ e. other.map (e ∙ of.1)) ch)
aside s b d (map_settle n) name of at other =
    at_other (after_part (map_settle n) d) n name (λ f v. only f) (λ e. other.map (e ∙ of))
    ∙ part_other d (map_settle n) name (λ e. other.draft (e ∙ ap draft_of of ∙ sym other.own))
aside s b d (map_remove n) name of at other = absurd of
aside s b d _ name of at other = refl

aside_failed : (s : Setting) (b : Bool) (d : Disk) (call : Call) (steps : ℕ) (name : List ℕ) → IsOfRun s b call
    → AtRun s b d.reads → IsOther s name → (entered d (Failed call steps)).shows name ≡ d.shows name
aside_failed s b d (image_open n make) steps name of at other = absurd of
aside_failed s b d (image_write pos piece) steps name of at other =
    let mid : Disk = after_part (image_write pos piece) d in
    some_other mid mid.reads.image name (λ f v. in_each (lose pos (length piece)) v)
    (image_apart mid.reads.image s.outfile name (ap (λ (r : Folder). r.image)
    (part_reads d (image_write pos piece)) ∙ at.image)
    (λ e. other.output (sym e))) ∙ aside s b d (image_write pos piece) name of at other
aside_failed s b d image_sync steps name of at other =
    some_other d d.reads.image name (λ f v. in_each lose_all v)
    (image_apart d.reads.image s.outfile name at.image (λ e. other.output (sym e)))
aside_failed s b d (draft_begin n) steps name of at other = aside s b d (draft_begin n) name of at other
aside_failed s b d (draft_append piece) steps name of at other = aside s b d (draft_append piece) name of at other
aside_failed s b d (draft_publish n) steps name of at other = aside s b d (draft_publish n) name of at other
aside_failed s b d (map_settle n) steps name of at other =
    part_other d (map_settle n) name (λ e. other.draft (e ∙ ap draft_of of ∙ sym other.own))
aside_failed s b d (map_remove n) steps name of at other = absurd of
aside_failed s b d _ steps name of at other = refl

-- the image and the draft after such a call
pub run_image : (s : Setting) (b : Bool) (d : Disk) (call : Call) → IsOfRun s b call → AtRun s b d.reads
    → (entered d (Done call)).reads.image ≡ Some s.outfile
run_image s b d (image_open n make) of at = absurd of
run_image s b d (image_write pos piece) of at = image_stays d (Done (image_write pos piece)) tt ∙ at.image
run_image s b d (draft_append piece) of at = image_stays d (Done (draft_append piece)) tt ∙ at.image
run_image s b d (draft_publish n) of at = image_stays d (Done (draft_publish n)) tt ∙ at.image
run_image s b d (map_remove n) of at = absurd of
run_image s b d _ of at = at.image

write_draft : (d : Folder) (o : Option (List ℕ)) (pos : ℕ) (piece : List ℕ) → (with_piece d o pos piece).draft ≡ d.draft
write_draft d None pos piece = refl
write_draft d (Some n) pos piece = refl

pub run_draft : (s : Setting) (b : Bool) (d : Disk) (call : Call) → IsOfRun s b call → AtRun s b d.reads → drafts call b ≡ true
    → (entered d (Done call)).reads.draft ≡ Some s.names.draft
run_draft s b d (image_open n make) of at on = absurd of
run_draft s b d (image_write pos piece) of at on = write_draft d.reads d.reads.image pos piece ∙ at.draft on
run_draft s b d (draft_begin n) of at on = ap (λ (m : List ℕ). Some m) of
run_draft s b d (draft_append piece) of at on = appended_draft d.reads d.reads.draft piece ∙ at.draft on
run_draft s b d (draft_publish n) of at on = absurd (cc)
run_draft s b d (map_remove n) of at on = absurd of
run_draft s b d _ of at on = at.draft on

-- so no list of such calls does
each_aside : (s : Setting) (b : Bool) (name : List ℕ) (v : Showing) (r p w : ℕ) (d : Disk) (calls : List Call)
    → AreOfRun s b calls → IsOther s name → AtRun s b d.reads → d.shows name ≡ v → Each (Shows name v) r p w d calls
each_aside s b name v r p w d [] of other at h = h
each_aside s b name v r p w d (c ∷ cs) of other at h = (
  h,
  (λ steps. aside_failed s b d c steps name of.0 at other ∙ h),
  each_aside s (drafts c b) name v (add (is_settle (Done c)) r) (add (is_publish (Done c)) p)
      (add (is_write (Done c)) w) (entered d (Done c)) cs of.1 other
      (record { image = run_image s b d c of.0 at; draft = λ on. run_draft s b d c of.0 at on })
      (aside s b d c name of.0 at other ∙ h),
)

-- calls that may stand in front of others in a run, whether a draft is begun or not
abbrev pub Leads : Setting → List Call → Type 0
Leads s calls = (b : Bool) (rest : List Call) → ((b' : Bool) → AreOfRun s b' rest) → AreOfRun s b (calls ++ rest)

leads_join : (s : Setting) (xs ys : List Call) → Leads s xs → Leads s ys → Leads s (xs ++ ys)
leads_join s xs ys x y b rest go =
    subst (λ (l : List Call). AreOfRun s b l) (sym (append_assoc xs ys rest)) (x b (ys ++ rest) (λ b'. y b' rest go))

pieces_lead : (s : Setting) (name : List ℕ) (pos : ℕ) (given : List ℕ) → Leads s (piece_reads name pos given)
pieces_lead s name pos [] b rest go = go b
pieces_lead s name pos (n ∷ ns) b rest go = (tt, pieces_lead s name (pos + n) ns b rest go)

appends_lead : (s : Setting) (ps : List (List ℕ)) (rest : List Call) → AreOfRun s true rest
    → AreOfRun s true (map draft_append ps ++ rest)
appends_lead s [] rest go = go
appends_lead s (p ∷ ps) rest go = (refl, appends_lead s ps rest go)

save_leads : (s : Setting) (text : List ℕ) → Leads s (save_calls s.names text)
save_leads s text b rest go =
    let back : List Call = draft_sync ∷ draft_publish s.names.map ∷ map_settle s.names.map ∷ [] in (
      tt,
      (
        refl,
        subst (λ (l : List Call). AreOfRun s true l) (sym (append_assoc (map draft_append (pieces_of text)) back rest))
            (appends_lead s (pieces_of text) (back ++ rest) (tt, ((refl, refl), (refl, go false)))),
      ),
    )

none_lead : (s : Setting) → Leads s []
none_lead s b rest go = go b

save_of_leads : (s : Setting) (save : Option Snapshot) → Leads s (save_of s save)
save_of_leads s None = none_lead s
save_of_leads s (Some p) = save_leads s (text_of s.line p)

writes_lead : (s : Setting) (free : ℕ → Type 0) (calls : List Call) → WritesAt free calls → Leads s calls
writes_lead s free [] at b rest go = go b
writes_lead s free (image_write pos piece ∷ calls) at b rest go = (tt, writes_lead s free calls at.1 b rest go)
writes_lead s free (image_read pos asked answer ∷ calls) at b rest go = (tt, writes_lead s free calls at b rest go)
writes_lead s free _ at b rest go = absurd at

-- how it goes on after a save, or none
kept_on : (promise : ℕ → List ℕ → Type 0) (n : ℕ) (image : List ℕ) (save : Option Snapshot) (next : ℕ → Type 0)
    → KeepsOn promise n image save next → (m : ℕ) × next m
kept_on promise n image None next h = (n, h)
kept_on promise n image (Some p) next h = (suc n, h.1)

pub deeds_lead : (s : Setting) (promise : ℕ → List ℕ → Type 0) (free : ℕ → ℕ → Type 0) (deeds : List Deed) (n : ℕ)
    (image : List ℕ) → KeepsUp promise free n image deeds → Leads s (flat_map (deed_calls s) deeds)
deeds_lead s promise free [] n image h = none_lead s
deeds_lead s promise free (d ∷ ds) n image h =
    let after : List ℕ = image_after image d.calls in
    let on = kept_on promise n after d.save (λ m. KeepsUp promise free m after ds) h.1 in
    leads_join s (deed_calls s d) (flat_map (deed_calls s) ds)
    (leads_join s d.calls (save_of s d.save) (writes_lead s (free n) d.calls h.0) (save_of_leads s d.save))
    (deeds_lead s promise free ds on.0 after on.1)

-- a file that could be found before, with the others as they read
pub found_could : (b : Before) (name : List ℕ) (files : List ℕ → Option File)
    → MayShow ((disk_before b).shows name) (files name)
    → (before : List ℕ → Option File) × MayBeLeft b.start b.earlier (length b.earlier) before ×
    (files name ≡ before name)
found_could b name files here =
    let d : Disk = disk_before b in (
      put d.reads.files name (files name),
      left_before b (put d.reads.files name (files name))
          (λ n. elim (cases_Bool (bytes_eq n name)) [
            | inl is ↦ subst (λ (f : Option File). MayShow (d.shows n) f)
                (sym (cond-true (bytes_eq n name) (files name) (d.reads.files n) is))
                (subst (λ (m : List ℕ). MayShow (d.shows m) (files name)) (sym (same_name n name is)) here)
            | inr is ↦ subst (λ (f : Option File). MayShow (d.shows n) f)
                (sym (cond-false (bytes_eq n name) (files name) (d.reads.files n) is)) (sound_before b n)
          ]),
      sym (put_own d.reads.files name (files name)),
    )

module _ (s : Setting) (makes : Bool) (deeds : List Deed) (last : Snapshot) (given : List ℕ) (at : ℕ)
    (answer : Option MapRead) where
  pub all_of_run : Leads s (flat_map (deed_calls s) deeds)
      → AreOfRun s false (reads_of s given at answer ++ all_calls s deeds last)
  all_of_run lead =
      let front : List Call = flat_map (deed_calls s) deeds in
      subst (λ (l : List Call). AreOfRun s false (reads_of s given at answer ++ (front ++ l)))
      (append-nil (last_calls s last))
      (subst (λ (l : List Call). AreOfRun s false l)
      (sym (append_assoc (piece_reads s.names.map 0 given) (map_read s.names.map at piece_size answer ∷ [])
      (front ++ (last_calls s last ++ []))))
      (pieces_lead s s.names.map 0 given false
      (map_read s.names.map at piece_size answer ∷ (front ++ (last_calls s last ++ [])))
      (λ b. (
        tt,
        lead b (last_calls s last ++ [])
            (λ b'. save_leads s (text_of s.line last) b' [] (λ b''. tt)),
      ))))

  -- over all calls of a run
  run_aside : (name : List ℕ) (d : Disk) → IsOther s name → Opens makes (d.reads.files s.outfile)
      → AreOfRun s false (reads_of s given at answer ++ all_calls s deeds last)
      → Each (Shows name (d.shows name)) 0 0 0 d
      (opening_by s makes ++ (reads_of s given at answer ++ all_calls s deeds last))
  run_aside name d other opens of =
      let v : Showing = d.shows name in
      let h1 : (at_open s makes d).shows name ≡ v = at_other d s.outfile name (with_opened makes) other.output in
      let image : (at_settle s makes d).reads.image ≡ Some s.outfile
      = opens_image d.reads s.outfile makes (d.reads.files s.outfile) opens in
      let looked : (after_part (map_settle s.names.map) (at_open s makes d)).shows name ≡ v
      = part_other (at_open s makes d) (map_settle s.names.map) name (λ e. other.draft (e ∙ sym other.own)) ∙ h1 in
      let h2 : (at_settle s makes d).shows name ≡ v
      = at_other (after_part (map_settle s.names.map) (at_open s makes d)) s.names.map name (λ f v. only f) other.map
      ∙ looked in
      let h3 : (at_barrier s makes d).shows name ≡ v
      = some_other (at_settle s makes d) (at_settle s makes d).reads.image name synced
      (image_apart (at_settle s makes d).reads.image s.outfile name image (λ e. other.output (sym e))) ∙ h2 in (
        refl,
        (λ steps. h1),
        (
          h1,
          (λ steps. looked),
          (
            h2,
            (λ steps. some_other (at_settle s makes d) (at_settle s makes d).reads.image name
                (λ f v. in_each lose_all v)
                (image_apart (at_settle s makes d).reads.image s.outfile name image (λ e. other.output (sym e))) ∙ h2),
            each_aside s false name v 1 0 0 (at_barrier s makes d) (reads_of s given at answer ++ all_calls s deeds last)
                of other
                (record { image = image; draft = λ off. absurd (let apart : false ≡ true = off in cc) }) h3,
          ),
        ),
      )

  -- so what is found there could be found before
  pub others_could : (b : Before) (name : List ℕ) (es : List Entry) (k : ℕ) (files : List ℕ → Option File)
      → IsOther s name → Opens makes ((disk_before b).reads.files s.outfile)
      → AreOfRun s false (reads_of s given at answer ++ all_calls s deeds last)
      → Cut (opening_by s makes ++ (reads_of s given at answer ++ all_calls s deeds last)) es
      → Leaves (disk_after (disk_before b) (until k es)) files
      → (before : List ℕ → Option File) × MayBeLeft b.start b.earlier (length b.earlier) before ×
      (files name ≡ before name)
  others_could b name es k files other opens of cut left =
      let d : Disk = disk_before b in
      let same : (disk_after d (until k es)).shows name ≡ d.shows name
      = at_stop (Shows name (d.shows name)) 0 0 0 d
      (opening_by s makes ++ (reads_of s given at answer ++ all_calls s deeds last)) es k
      (run_aside name d other opens of) cut in
      found_could b name files (subst (λ (v : Showing). MayShow v (files name)) same (left name))
