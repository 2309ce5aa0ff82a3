-- At each call of a save, made or failed, a run stays safe as its files stand.
use Rattle.std.proofs.Common.{◌≡◌, ◌⊎◌, inl, inr, ⊎_elim, ℕ, ◌≤◌, Bool, true, IsTrue, List, [], ◌∷◌, ◌++◌, length, map, Option, Some, refl, sym, ap, subst, ◌∙◌, append_assoc, append-nil}
use Rattle.std.specs.List.{concat}
use Rattle.std.specs.Str.{bytes_eq}
use Rattle.std.proofs.lemmas.Bool.{cond-true}
use Rattle.mapfile_text.specs.Pieces.{pieces_of}
use Rattle.mapfile_text.proofs.PieceLemmas.{in_pieces}
use Rattle.faulty_source.specs.Journal.{Reading}
use Rattle.crash_site.specs.Files.{File, empty_file, draft_of, bytes_of}
use Rattle.crash_site.specs.Calls.{Call, Entry, Done, Failed, image_sync, draft_begin, draft_append, draft_sync, draft_publish, map_settle}
use Rattle.crash_site.specs.Disk.{Showing, Disk, lose_all, in_each, synced, only, or_this, with_text, after_part, after_return, lost_by, entered, disk_after}
use Rattle.crash_site.specs.Left.{MayShow, Leaves}
use Rattle.crash_site.specs.Changes.{Changes}
use Rattle.crash_site.specs.SiteState.{SiteState}
use Rattle.crash_site.specs.SiteChanges.{Keeps}
use Rattle.crash_site.proofs.DiskLemmas.{run-append}
use Rattle.crash_site.proofs.LawLemmas.{own_name, at_other, some_other, part_other, done_other, failed_other, found_only, shows_synced, moved_own}
use Rattle.mapfile_save.specs.Saving.{save_calls}
use Rattle.mapfile_save.specs.SaveStops.{disk_of, text_file}
use Rattle.mapfile_save.proofs.StageLemmas.{appended_draft}
use Rattle.rescue_rules.specs.Setting.{Setting}
use Rattle.rescue_rules.specs.Held.{Held}
use Rattle.rescue_rules.specs.Machine.{Machine}
use Rattle.rescue_rules.specs.Snapshots.{Snapshot, text_of}
use Rattle.rescue_rules.specs.Laws.{AreThreeNames}
use Rattle.rescue_rules.specs.RunStops.{ComesTo}
use Rattle.rescue_rules.proofs.BeforeLemmas.{or_found}
use Rattle.rescue_rules.proofs.SaveStages.{one_version, under_own, put_own, image_apart, OpensNone, image_stays, appended_own, publishing_own}
use Rattle.turn_laws.specs.Safe.{Saved, IsHeldIn}
use Rattle.turn_laws.specs.SafeNow.{IsClear, IsBacked, IsSafeNow}
use Rattle.turn_laws.specs.NowLaws.{EndsUnsynced, StaysSafeNow}
use Rattle.turn_laws.proofs.SiteLemmas.{grown_disk}
use Rattle.turn_laws.proofs.NowLemmas.{EachStop, each_last, each_made, Shown, shown_held, held_fewer}

module _ (s : Setting) (start : List ℕ) (reads : List Reading) (m : Machine) (now : File) (three : AreThreeNames s)
    (held : Held s reads start m.map now.bytes) (longer : length start ≤ length now.bytes) (lost : List (ℕ × ℕ))
    (clear : IsClear s start m.map lost) where
  abbrev Safe : Disk → Type 0
  Safe d = IsSafeNow s start reads m d

  abbrev Backed : Option File → Type 0
  Backed mapfile = IsBacked s start reads m.map now.bytes lost mapfile

  -- while the output is durable as it reads, except where it was lost
  record Firm (d : Disk) : Type 0 where
    image : d.reads.image ≡ Some s.outfile
    shows : d.shows s.outfile ≡ one_version now lost lost
    reads_as : d.reads.files s.outfile ≡ Some now
    maps : (mapfile : Option File) → MayShow (d.shows s.names.map) mapfile → Backed mapfile

  firm_safe : (d : Disk) → Firm d → Safe d
  firm_safe d f = record {
    image = f.image;
    synced = now;
    loose = lost;
    lost = lost;
    shows = f.shows;
    now = now;
    reads_as = f.reads_as;
    longer = longer;
    current = held;
    unlost = clear;
    maps = f.maps;
  }

  firm_by : (d e : Disk) → e.reads.image ≡ d.reads.image → e.shows s.outfile ≡ d.shows s.outfile
      → e.reads.files s.outfile ≡ d.reads.files s.outfile → e.shows s.names.map ≡ d.shows s.names.map → Firm d → Firm e
  firm_by d e image shows reads_as maps f = record {
    image = image ∙ f.image;
    shows = shows ∙ f.shows;
    reads_as = reads_as ∙ f.reads_as;
    maps = λ mapfile may. f.maps mapfile (subst (λ (v : Showing). MayShow v mapfile) maps may);
  }

  -- a call that changes neither the output nor the mapfile, failed or made
  firm_failed : (d : Disk) (c : Call) (steps : ℕ) → OpensNone c
      → (lost_by c (after_part c d)).shows ≡ (after_part c d).shows → (Changes d.reads c s.outfile → ⊥)
      → (Changes d.reads c s.names.map → ⊥) → Firm d → Firm (entered d (Failed c steps))
  firm_failed d c steps off same out map f =
      firm_by d (entered d (Failed c steps)) (image_stays d (Failed c steps) off)
      (ap (λ (g : List ℕ → Showing). g s.outfile) same ∙ part_other d c s.outfile out)
      (failed_other d.reads c steps s.outfile out)
      (ap (λ (g : List ℕ → Showing). g s.names.map) same ∙ part_other d c s.names.map map) f

  firm_done : (d : Disk) (c : Call) → OpensNone c → (after_return c d).shows ≡ (after_part c d).shows
      → (Changes d.reads c s.outfile → ⊥) → (Changes d.reads c s.names.map → ⊥) → Firm d → Firm (entered d (Done c))
  firm_done d c off same out map f = firm_by d (entered d (Done c)) (image_stays d (Done c) off)
      (ap (λ (g : List ℕ → Showing). g s.outfile) same ∙ part_other d c s.outfile out)
      (done_other d.reads c s.outfile out)
      (ap (λ (g : List ℕ → Showing). g s.names.map) same ∙ part_other d c s.names.map map) f

  -- a draft that is begun, and its text so far
  record Draft (got : List ℕ) (d : Disk) : Type 0 where
    firm : Firm d
    draft : d.reads.draft ≡ Some s.names.draft
    text : d.reads.files s.names.draft ≡ Some (text_file got)

  begins : (d : Disk) → Firm d → Draft [] (entered d (Done (draft_begin s.names.draft)))
  begins d f = record {
    firm = firm_done d (draft_begin s.names.draft) tt refl three.draft three.apart f;
    draft = refl;
    text = put_own d.reads.files s.names.draft (Some empty_file);
  }

  off_draft : (d : Disk) (got n : List ℕ) → (n ≡ s.names.draft → ⊥) → Draft got d → d.reads.draft ≡ Some n → ⊥
  off_draft d got n apart h = image_apart d.reads.draft s.names.draft n h.draft (λ e. apart (sym e))

  grows : (d : Disk) (got piece : List ℕ) → Draft got d → Draft (got ++ piece) (entered d (Done (draft_append piece)))
  grows d got piece h = record {
    firm = firm_done d (draft_append piece) tt refl (off_draft d got s.outfile three.draft h)
        (off_draft d got s.names.map three.apart h) h.firm;
    draft = appended_draft d.reads d.reads.draft piece ∙ h.draft;
    text = appended_own d.reads d.reads.draft s.names.draft piece h.draft
        ∙ ap (λ (f : Option File). Some (text_file (bytes_of f ++ piece))) h.text;
  }

  each_append : (d : Disk) (got : List ℕ) (pieces : List (List ℕ)) (rest : List Call) → Draft got d
      → ((e : Disk) → Draft (got ++ concat pieces) e → EachStop Safe e rest)
      → EachStop Safe d (map draft_append pieces ++ rest)
  each_append d got [] rest h go = go d (subst (λ (t : List ℕ). Draft t d) (sym (append-nil got)) h)
  each_append d got (p ∷ ps) rest h go = (
    firm_safe d h.firm,
    (λ steps. firm_safe (entered d (Failed (draft_append p) steps)) (firm_failed d (draft_append p) steps tt refl
        (off_draft d got s.outfile three.draft h) (off_draft d got s.names.map three.apart h) h.firm)),
    each_append (entered d (Done (draft_append p))) (got ++ p) ps rest (grows d got p h)
        (λ e next. go e (subst (λ (t : List ℕ). Draft t e) (append_assoc got p (concat ps)) next)),
  )

  -- a save of the current map is backed
  saved_backed : (p : Snapshot) (mapfile : Option File) → p.map ≡ m.map
      → mapfile ≡ Some (text_file (text_of s.line p)) → Backed mapfile
  saved_backed p mapfile same is = record {
    map = m.map;
    has = Saved p (sym same) is;
    fewer = λ x inside has. has;
    held = held;
    clear = clear;
  }

  -- the mapfiles that may be found after a publish, made or failed
  published_maps : (p : Snapshot) (d : Disk) → p.map ≡ m.map → d.firm ≡ true → Draft (text_of s.line p) d
      → (mapfile : Option File) → MayShow ((after_part (draft_publish s.names.map) d).shows s.names.map) mapfile
      → Backed mapfile
  published_maps p d same firm h mapfile may =
      let text : Option File = Some (text_file (text_of s.line p)) in
      let old : Showing = d.shows s.names.map in
      let shows : (after_part (draft_publish s.names.map) d).shows s.names.map ≡ or_this text old
      = publishing_own d d.reads.draft s.names.draft s.names.map h.draft (λ e. three.apart (sym e))
      ∙ ap (λ (f : Option File). with_text f d.firm (d.reads.files s.names.map) old) h.text
      ∙ ap (λ (b : Bool). with_text text b (d.reads.files s.names.map) old) firm in
      ⊎_elim (λ (was : MayShow old mapfile). h.firm.maps mapfile was)
      (λ (is : mapfile ≡ text). saved_backed p mapfile same is)
      (or_found text old mapfile (subst (λ (v : Showing). MayShow v mapfile) shows may))

  off_publish : (d : Disk) (got : List ℕ) → Draft got d → Changes d.reads (draft_publish s.names.map) s.outfile → ⊥
  off_publish d got h change = ⊎_elim (off_draft d got s.outfile three.draft h) three.map change

  publish_failed : (p : Snapshot) (d : Disk) (steps : ℕ) → p.map ≡ m.map → d.firm ≡ true → Draft (text_of s.line p) d
      → Firm (entered d (Failed (draft_publish s.names.map) steps))
  publish_failed p d steps same firm h =
      let c : Call = draft_publish s.names.map in
      let off : Changes d.reads c s.outfile → ⊥ = off_publish d (text_of s.line p) h in
      record {
        image = image_stays d (Failed c steps) tt ∙ h.firm.image;
        shows = part_other d c s.outfile off ∙ h.firm.shows;
        reads_as = failed_other d.reads c steps s.outfile off ∙ h.firm.reads_as;
        maps = published_maps p d same firm h;
      }

  publish_done : (p : Snapshot) (d : Disk) → p.map ≡ m.map → d.firm ≡ true → Draft (text_of s.line p) d
      → Firm (entered d (Done (draft_publish s.names.map)))
  publish_done p d same firm h =
      let c : Call = draft_publish s.names.map in
      let off : Changes d.reads c s.outfile → ⊥ = off_publish d (text_of s.line p) h in
      record {
        image = image_stays d (Done c) tt ∙ h.firm.image;
        shows = part_other d c s.outfile off ∙ h.firm.shows;
        reads_as = done_other d.reads c s.outfile off ∙ h.firm.reads_as;
        maps = published_maps p d same firm h;
      }

  -- a settle looks at the draft's name alone
  off_out : s.outfile ≡ draft_of s.names.map → ⊥
  off_out e = three.draft (e ∙ sym three.own)

  off_map : s.names.map ≡ draft_of s.names.map → ⊥
  off_map e = three.apart (e ∙ sym three.own)

  settled : (p : Snapshot) (d : Disk) → p.map ≡ m.map → d.reads.files s.names.map ≡ Some (text_file (text_of s.line p))
      → Firm d → Firm (entered d (Done (map_settle s.names.map)))
  settled p d same reads_map f =
      let text : Option File = Some (text_file (text_of s.line p)) in
      let change : Option File → Showing → Showing = λ file v. only file in
      let looked : Disk = after_part (map_settle s.names.map) d in
      record {
        image = f.image;
        shows = at_other looked s.names.map s.outfile change three.map
            ∙ part_other d (map_settle s.names.map) s.outfile off_out ∙ f.shows;
        reads_as = f.reads_as;
        maps = λ mapfile may. saved_backed p mapfile same (found_only text mapfile
            (subst (λ (v : Showing). MayShow v mapfile)
            (cond-true (bytes_eq s.names.map s.names.map) (only (d.reads.files s.names.map)) (looked.shows s.names.map)
            (own_name s.names.map) ∙ ap only reads_map) may));
      }

  -- the draft is synced, takes the mapfile's place, and that is settled
  each_publish : (p : Snapshot) (d : Disk) → p.map ≡ m.map → Draft (text_of s.line p) d
      → EachStop Safe d (draft_sync ∷ draft_publish s.names.map ∷ map_settle s.names.map ∷ [])
  each_publish p d same h =
      let d1 : Disk = entered d (Done draft_sync) in
      let c : Call = draft_publish s.names.map in
      let d2 : Disk = entered d1 (Done c) in
      let h1 : Draft (text_of s.line p) d1
      = record {
        firm = firm_done d draft_sync tt refl (λ no. no) (λ no. no) h.firm;
        draft = h.draft;
        text = h.text;
      } in
      let f2 : Firm d2 = publish_done p d1 same refl h1 in
      let reads_map : d2.reads.files s.names.map ≡ Some (text_file (text_of s.line p))
      = moved_own d1.reads d1.reads.draft s.names.draft s.names.map h1.draft ∙ h1.text in (
        firm_safe d h.firm,
        (λ steps. firm_safe (entered d (Failed draft_sync steps))
            (firm_failed d draft_sync steps tt refl (λ no. no) (λ no. no) h.firm)),
        (
          firm_safe d1 h1.firm,
          (λ steps. firm_safe (entered d1 (Failed c steps)) (publish_failed p d1 steps same refl h1)),
          (
            firm_safe d2 f2,
            (λ steps. firm_safe (entered d2 (Failed (map_settle s.names.map) steps))
                (firm_failed d2 (map_settle s.names.map) steps tt refl off_out off_map f2)),
            firm_safe (entered d2 (Done (map_settle s.names.map))) (settled p d2 same reads_map f2),
          ),
        ),
      )

  each_draft : (p : Snapshot) (d : Disk) → p.map ≡ m.map → Firm d
      → EachStop Safe d (draft_begin s.names.draft
      ∷ (map draft_append (pieces_of (text_of s.line p))
      ++ draft_sync ∷ draft_publish s.names.map ∷ map_settle s.names.map ∷ []))
  each_draft p d same f =
      let text : List ℕ = text_of s.line p in
      let c : Call = draft_begin s.names.draft in (
        firm_safe d f,
        (λ steps. firm_safe (entered d (Failed c steps)) (firm_failed d c steps tt refl three.draft three.apart f)),
        each_append (entered d (Done c)) [] (pieces_of text)
            (draft_sync ∷ draft_publish s.names.map ∷ map_settle s.names.map ∷ []) (begins d f)
            (λ e h. each_publish p e same (subst (λ (t : List ℕ). Draft t e) (in_pieces text).together h)),
      )

  -- the sync of the output makes it durable as it reads, except where it was lost
  made_firm : (d : Disk) (n : Safe d) → n.now ≡ now → n.lost ≡ lost → Firm (entered d (Done image_sync))
  made_firm d n is lost_is = record {
    image = n.image;
    shows = shows_synced d d.reads.image s.outfile n.image
        ∙ ap (λ (f : Option File). synced f (d.shows s.outfile)) (n.reads_as ∙ ap (λ (f : File). Some f) is)
        ∙ ap (λ (v : Showing). synced (Some now) v) n.shows ∙ ap (λ (r : List (ℕ × ℕ)). one_version now r r) lost_is;
    reads_as = n.reads_as ∙ ap (λ (f : File). Some f) is;
    maps = λ mapfile may.
        let b : IsBacked s start reads m.map n.synced.bytes n.loose mapfile
        = n.maps mapfile (subst (λ (v : Showing). MayShow v mapfile)
        (some_other d d.reads.image s.names.map synced
        (image_apart d.reads.image s.outfile s.names.map n.image three.map)) may) in
        record {
          map = b.map;
          has = b.has;
          fewer = b.fewer;
          held = held_fewer s reads start b.map m.map now.bytes b.fewer held;
          clear = record {
            firm = λ x inside has off. clear.firm x inside (b.fewer x inside has) off;
            outside = clear.outside;
          };
        };
  }

-- the calls of a save after the sync of the output
abbrev pub saving_calls : Setting → Snapshot → List Call
saving_calls s p = draft_begin s.names.draft
    ∷ (map draft_append (pieces_of (text_of s.line p))
    ++ draft_sync ∷ draft_publish s.names.map ∷ map_settle s.names.map ∷ [])

-- at each stop of a save of the current map, once the output was synced
pub each_saving : (s : Setting) (start : List ℕ) (reads : List Reading) (m : Machine) (p : Snapshot) (d : Disk)
    → AreThreeNames s → p.map ≡ m.map → IsSafeNow s start reads m d
    → EachStop (λ e. IsSafeNow s start reads m e) (entered d (Done image_sync)) (saving_calls s p)
each_saving s start reads m p d three same n =
    each_draft s start reads m n.now three n.current n.longer n.lost n.unlost p (entered d (Done image_sync)) same
    (made_firm s start reads m n.now three n.current n.longer n.lost n.unlost d n refl refl)

-- after the whole save
pub saved_now : (s : Setting) (start : List ℕ) (reads : List Reading) (m : Machine) (p : Snapshot) (d : Disk)
    → AreThreeNames s → p.map ≡ m.map → IsSafeNow s start reads m d
    → IsSafeNow s start reads m (disk_after d (map Done (save_calls s.names (text_of s.line p))))
saved_now s start reads m p d three same n =
    each_last (λ e. IsSafeNow s start reads m e) (entered d (Done image_sync)) (saving_calls s p)
    (each_saving s start reads m p d three same n)

-- after a sync of the output that failed
pub unsynced_shown : (s : Setting) (start : List ℕ) (reads : List Reading) (m : Machine) (d : Disk) (steps : ℕ)
    → AreThreeNames s → IsSafeNow s start reads m d → Shown s start reads m (entered d (Failed image_sync steps))
unsynced_shown s start reads m d steps three n = record {
  synced = n.synced;
  loose = n.loose;
  lost = n.loose;
  shows = under_own d d.reads.image s.outfile (λ f v. in_each lose_all v) n.image ∙ ap (in_each lose_all) n.shows;
  maps = λ mapfile may. n.maps mapfile (subst (λ (v : Showing). MayShow v mapfile)
      (some_other d d.reads.image s.names.map (λ f v. in_each lose_all v)
      (image_apart d.reads.image s.outfile s.names.map n.image three.map)) may);
}

-- After a part of a list of calls a run is safe; or the last of them is a sync that failed, and what is found is held.
abbrev pub SafeAfter : Setting → (start : List ℕ) → List Reading → Machine → Disk → List Entry → Type 0
SafeAfter s start reads m d es = IsSafeNow s start reads m (disk_after d es)
    ⊎ (EndsUnsynced es
    × ((files : List ℕ → Option File) → Leaves (disk_after d es) files → IsHeldIn s start reads files))

-- so it is after calls before them
pub after_more : (s : Setting) (start : List ℕ) (reads : List Reading) (m : Machine) (d : Disk) (made es : List Entry)
    → SafeAfter s start reads m (disk_after d made) es → SafeAfter s start reads m d (made ++ es)
after_more s start reads m d made es (inl n) =
    inl (subst (λ (l : Disk). IsSafeNow s start reads m l) (sym (run-append d made es)) n)
after_more s start reads m d made es (inr (last, held)) = inr (
  (
    made ++ last.0,
    last.1,
    ap (λ (l : List Entry). made ++ l) last.2 ∙ sym (append_assoc made last.0 (Failed image_sync last.1 ∷ [])),
  ),
  λ files leaves. held files (subst (λ (l : Disk). Leaves l files) (run-append d made es) leaves),
)

-- and of a site that made them
pub site_safe : (s : Setting) (start : List ℕ) (reads : List Reading) (m : Machine) (site site' : SiteState)
    (more : List Entry) → IsTrue site.tells → Keeps site site' → site'.calls ≡ site.calls ++ more
    → SafeAfter s start reads m (disk_of site) more → StaysSafeNow s start reads m site'
site_safe s start reads m site site' more tells keeps grew (inl n) =
    inl (subst (λ (l : Disk). IsSafeNow s start reads m l) (sym (grown_disk site site' more tells keeps grew)) n)
site_safe s start reads m site site' more tells keeps grew (inr (last, held)) = inr (
  (
    site.calls ++ last.0,
    last.1,
    grew ∙ ap (λ (l : List Entry). site.calls ++ l) last.2
        ∙ sym (append_assoc site.calls last.0 (Failed image_sync last.1 ∷ [])),
  ),
  λ files leaves.
      held files (subst (λ (l : Disk). Leaves l files) (grown_disk site site' more tells keeps grew) leaves),
)

-- so it is after a part of a save
pub safe_after : (s : Setting) (start : List ℕ) (reads : List Reading) (m : Machine) (p : Snapshot) (d : Disk)
    (es : List Entry) → AreThreeNames s → p.map ≡ m.map → IsSafeNow s start reads m d
    → ComesTo (save_calls s.names (text_of s.line p)) es → SafeAfter s start reads m d es
safe_after s start reads m p d [] three same n comes = inl n
safe_after s start reads m p d (Done x ∷ es) three same n comes =
    inl (subst (λ (z : Call). IsSafeNow s start reads m (disk_after (entered d (Done z)) es)) (sym comes.0)
    (each_made (λ e. IsSafeNow s start reads m e) (entered d (Done image_sync)) (saving_calls s p) es
    (each_saving s start reads m p d three same n) comes.1))
safe_after s start reads m p d (Failed x steps ∷ es) three same n comes =
    let is : Failed x steps ∷ es ≡ Failed image_sync steps ∷ [] =
    ap (λ (z : Call). Failed z steps ∷ es) comes.0 ∙ ap (λ (l : List Entry). Failed image_sync steps ∷ l) comes.1 in
    let at : Disk = entered d (Failed image_sync steps) in
    let shown : Shown s start reads m at = unsynced_shown s start reads m d steps three n in
    inr (
      ([], steps, is),
      λ files leaves.
          let here : Leaves at files = subst (λ (l : List Entry). Leaves (disk_after d l) files) is leaves in
          let b : IsBacked s start reads m.map shown.synced.bytes shown.loose (files s.names.map)
          = shown.maps (files s.names.map) (here s.names.map) in
          record { map = b.map; has = b.has; held = shown_held s start reads m at files shown here b },
    )
