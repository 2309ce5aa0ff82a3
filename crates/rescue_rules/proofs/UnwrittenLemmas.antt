-- A byte of the output stands that no write reaches.
use Rattle.std.specs.Bool.{⊤}
use Rattle.std.proofs.Common.{◌≡◌, ◌⊎◌, inl, inr, ⊎_elim, ℕ, zero, suc, ◌+◌, ◌≤◌, ◌<◌, Bool, false, List, [], ◌∷◌, length, take, Option, Some, None, refl, sym, ◌∙◌, ap, subst, arith}
use Rattle.std.specs.List.{slice_get, flat_map}
use Rattle.std.proofs.lemmas.Option.{slice_get_within}
use Rattle.crash_site.specs.Files.{File, draft_of, written_file, bytes_of}
use Rattle.crash_site.specs.Calls.{Call, Entry, Done, Failed, image_open, image_read, image_write, image_sync, map_read, draft_begin, draft_append, draft_sync, draft_publish, map_settle, map_remove}
use Rattle.crash_site.specs.CallsMade.{unanswered}
use Rattle.crash_site.specs.Folder.{Folder}
use Rattle.crash_site.specs.Disk.{Showing, Disk, without, lose, lose_all, in_each, lost_in, only, with_range, loosened, after_part, entered, disk_after}
use Rattle.crash_site.specs.Left.{IsLoose, MayShow, Leaves, until}
use Rattle.crash_site.specs.Changes.{Changes}
use Rattle.crash_site.proofs.LawLemmas.{at_other, part_other, part_reads, done_other}
use Rattle.rescue_rules.specs.Setting.{Setting}
use Rattle.rescue_rules.specs.Laws.{AreThreeNames}
use Rattle.rescue_rules.specs.Stops.{is_write}
use Rattle.rescue_rules.specs.StopsBy.{IsUnwritten}
use Rattle.rescue_rules.proofs.WriteLemmas.{written_outside}
use Rattle.rescue_rules.proofs.HoldLemmas.{loose_same}
use Rattle.rescue_rules.proofs.CutLemmas.{IsOf, Cut, lost_disk}
use Rattle.rescue_rules.proofs.SaveStages.{one_version, shown_matches, never_none, under_own, piece_own, image_apart, sure_synced}
use Rattle.rescue_rules.proofs.OthersLemmas.{IsOfRun, AreOfRun, drafts, AtRun, run_image, run_draft}

module _ (s : Setting) (three : AreThreeNames s) (y byte : ℕ) where
  -- what is shown of the output has this byte there
  pub record Shown (d : Disk) : Type 0 where
    pub file : File
    pub loose : List (ℕ × ℕ)
    pub lost : List (ℕ × ℕ)
    pub is : d.shows s.outfile ≡ one_version file loose lost
    pub firm : IsLoose loose y → ⊥
    pub at : slice_get file.bytes y ≡ Some byte

  -- and what reads there, too
  pub record Steady (d : Disk) : Type 0 where
    pub shown : Shown d
    pub unlost : shown.lost ≡ []
    pub now : File
    pub reads : d.reads.files s.outfile ≡ Some now
    pub here : slice_get now.bytes y ≡ Some byte

  -- a call doesn't write there
  abbrev IsApart : Call → Type 0
  IsApart (image_write pos piece) = (y < pos) ⊎ (pos + length piece ≤ y)
  IsApart call = ⊤

  abbrev same_shown : (d d' : Disk) → d'.shows s.outfile ≡ d.shows s.outfile → Shown d → Shown d'
  same_shown d d' same h =
      record { file = h.file; loose = h.loose; lost = h.lost; is = same ∙ h.is; firm = h.firm; at = h.at }

  -- a call that is no write changes nothing of the output
  off : (b : Bool) (d : Folder) (c : Call) → IsOfRun s b c → AtRun s b d → is_write (Done c) ≡ false
      → Changes d c s.outfile → ⊥
  off b d (image_open name make) of at none ch = absurd of
  off b d (image_write pos piece) of at none ch = absurd (cc)
  off b d (draft_begin name) of at none ch = three.draft (ch ∙ of)
  off b d (draft_append piece) of at none ch =
      image_apart d.draft s.names.draft s.outfile (at.draft of) (λ e. three.draft (sym e)) ch
  off b d (draft_publish name) of at none ch =
      ⊎_elim (λ e. image_apart d.draft s.names.draft s.outfile (at.draft of.0) (λ e. three.draft (sym e)) e)
      (λ e. three.map (e ∙ of.1)) ch
  off b d (map_settle name) of at none ch = three.draft (ch ∙ ap draft_of of ∙ sym three.own)
  off b d (map_remove name) of at none ch = absurd of
  off b d _ of at none ch = ch

  -- a write elsewhere
  abbrev wrote : (b : Bool) (d d' : Disk) (pos : ℕ) (piece : List ℕ) → AtRun s b d.reads
      → (y < pos) ⊎ (pos + length piece ≤ y) → Steady d
      → d'.shows s.outfile ≡ (after_part (image_write pos piece) d).shows s.outfile → Shown d'
  wrote b d d' pos piece at apart h same = record {
    file = h.shown.file;
    loose = (pos, length piece) ∷ h.shown.loose;
    lost = flat_map (without pos (length piece)) h.shown.lost;
    is = same ∙ under_own d d.reads.image s.outfile (with_range pos (length piece)) at.image
        ∙ ap (λ (f : Option File). with_range pos (length piece) f (d.shows s.outfile)) h.reads
        ∙ ap (loosened pos (length piece)) h.shown.is;
    firm = λ l. ⊎_elim
        (λ (in_it : (pos ≤ y) × (y < pos + length piece)). ⊎_elim
        (λ (lt : y < pos). absurd (omega (arith, lt, in_it.0)))
        (λ (le : pos + length piece ≤ y). absurd (omega (arith, le, in_it.1))) apart)
        (λ (rest : IsLoose h.shown.loose y). h.shown.firm rest) l;
    at = h.shown.at;
  }

  failed_step : (b : Bool) (d : Disk) (c : Call) (steps : ℕ) → IsOfRun s b c → AtRun s b d.reads → IsApart c → Steady d
      → Shown (entered d (Failed c steps))
  failed_step b d (image_write pos piece) steps of at apart h =
      let w : Shown (after_part (image_write pos piece) d) = wrote b d (after_part (image_write pos piece) d) pos piece
      at apart h refl in
      let mid : Disk = after_part (image_write pos piece) d in
      record {
        file = w.file;
        loose = w.loose;
        lost = (pos, length piece) ∷ w.lost;
        is = under_own mid mid.reads.image s.outfile (λ f v. in_each (lose pos (length piece)) v)
            (ap (λ (r : Folder). r.image) (part_reads d (image_write pos piece)) ∙ at.image)
            ∙ ap (in_each (lose pos (length piece))) w.is;
        firm = w.firm;
        at = w.at;
      }
  failed_step b d (image_open name make) steps of at apart h = absurd of
  failed_step b d (image_read pos asked answer) steps of at apart h = same_shown d d refl h.shown
  failed_step b d image_sync steps of at apart h = record {
    file = h.shown.file;
    loose = h.shown.loose;
    lost = h.shown.loose;
    is = under_own d d.reads.image s.outfile (λ f v. in_each lose_all v) at.image ∙ ap (in_each lose_all) h.shown.is;
    firm = h.shown.firm;
    at = h.shown.at;
  }
  failed_step b d (map_read name pos asked answer) steps of at apart h = same_shown d d refl h.shown
  failed_step b d (draft_begin name) steps of at apart h =
      same_shown d (entered d (Failed (draft_begin name) steps))
      (part_other d (draft_begin name) s.outfile (off b d.reads (draft_begin name) of at refl)) h.shown
  failed_step b d (draft_append piece) steps of at apart h =
      same_shown d (entered d (Failed (draft_append piece) steps))
      (part_other d (draft_append piece) s.outfile (off b d.reads (draft_append piece) of at refl)) h.shown
  failed_step b d draft_sync steps of at apart h = same_shown d (entered d (Failed draft_sync steps)) refl h.shown
  failed_step b d (draft_publish name) steps of at apart h =
      same_shown d (entered d (Failed (draft_publish name) steps))
      (part_other d (draft_publish name) s.outfile (off b d.reads (draft_publish name) of at refl)) h.shown
  failed_step b d (map_settle name) steps of at apart h =
      same_shown d (entered d (Failed (map_settle name) steps))
      (part_other d (map_settle name) s.outfile (off b d.reads (map_settle name) of at refl)) h.shown
  failed_step b d (map_remove name) steps of at apart h = absurd of

  other : (d : Disk) (c : Call) → (Changes d.reads c s.outfile → ⊥)
      → (entered d (Done c)).shows s.outfile ≡ d.shows s.outfile → Steady d → Steady (entered d (Done c))
  other d c spared same h = record {
    shown = same_shown d (entered d (Done c)) same h.shown;
    unlost = h.unlost;
    now = h.now;
    reads = done_other d.reads c s.outfile spared ∙ h.reads;
    here = h.here;
  }

  steady_step : (b : Bool) (d : Disk) (c : Call) → IsOfRun s b c → AtRun s b d.reads → IsApart c → Steady d
      → Steady (entered d (Done c))
  steady_step b d (image_write pos piece) of at apart h = record {
    shown = wrote b d (entered d (Done (image_write pos piece))) pos piece at apart h refl;
    unlost = ap (flat_map (without pos (length piece))) h.unlost;
    now = written_file (Some h.now) pos piece;
    reads = piece_own d.reads d.reads.image s.outfile pos piece at.image
        ∙ ap (λ (f : Option File). Some (written_file f pos piece)) h.reads;
    here = written_outside h.now.bytes pos piece y (slice_get_within h.now.bytes y byte h.here) apart ∙ h.here;
  }
  steady_step b d image_sync of at apart h = record {
    shown = record {
      file = h.now;
      loose = [];
      lost = [];
      is = sure_synced d d.reads.image s.outfile at.image (ap lost_in h.shown.is ∙ h.unlost) ∙ ap only h.reads;
      firm = λ l. l;
      at = h.here;
    };
    unlost = refl;
    now = h.now;
    reads = h.reads;
    here = h.here;
  }
  steady_step b d (image_open name make) of at apart h = absurd of
  steady_step b d (image_read pos asked answer) of at apart h =
      other d (image_read pos asked answer) (λ no. no) refl h
  steady_step b d (map_read name pos asked answer) of at apart h =
      other d (map_read name pos asked answer) (λ no. no) refl h
  steady_step b d (draft_begin name) of at apart h =
      let spared = off b d.reads (draft_begin name) of at refl in
      other d (draft_begin name) spared (part_other d (draft_begin name) s.outfile spared) h
  steady_step b d (draft_append piece) of at apart h =
      let spared = off b d.reads (draft_append piece) of at refl in
      other d (draft_append piece) spared (part_other d (draft_append piece) s.outfile spared) h
  steady_step b d draft_sync of at apart h = other d draft_sync (λ no. no) refl h
  steady_step b d (draft_publish name) of at apart h =
      let spared = off b d.reads (draft_publish name) of at refl in
      other d (draft_publish name) spared (part_other d (draft_publish name) s.outfile spared) h
  steady_step b d (map_settle name) of at apart h =
      let spared = off b d.reads (map_settle name) of at refl in
      other d (map_settle name) spared
      (at_other (after_part (map_settle name) d) name s.outfile (λ f v. only f) (λ e. three.map (e ∙ of))
      ∙ part_other d (map_settle name) s.outfile spared) h
  steady_step b d (map_remove name) of at apart h = absurd of

  -- the first of some entries doesn't write there, nor do those after it
  done_apart : (c : Call) (es : List Entry) → IsUnwritten (Done c ∷ es) y → IsApart c × IsUnwritten es y
  done_apart (image_write pos piece) es h = h
  done_apart _ es h = (tt, h)

  failed_apart : (c : Call) (steps : ℕ) (es : List Entry) → IsUnwritten (Failed c steps ∷ es) y → IsApart c
  failed_apart (image_write pos piece) steps es h = h.0
  failed_apart _ steps es h = tt

  unanswered_apart : (c : Call) → IsApart (unanswered c) → IsApart c
  unanswered_apart (image_write pos piece) h = h
  unanswered_apart _ h = tt

  lost_apart : (c x : Call) → IsOf c x → IsApart x → IsApart c
  lost_apart c x (inl is) h = subst IsApart is h
  lost_apart c x (inr is) h = unanswered_apart c (subst IsApart is h)

  failed_until : (d : Disk) (x : Call) (steps k : ℕ) → Shown (entered d (Failed x steps))
      → Shown (disk_after d (until k (Failed x steps ∷ [])))
  failed_until d x steps zero h = h
  failed_until d x steps (suc zero) h = h
  failed_until d x steps (suc (suc k)) h = h

  -- So it stands at every stop before such a write.
  pub unwritten_at : (b : Bool) (d : Disk) (cs : List Call) (es : List Entry) (k : ℕ) → AreOfRun s b cs → Cut cs es
      → AtRun s b d.reads → IsUnwritten (take (suc k) es) y → Steady d → Shown (disk_after d (until k es))
  unwritten_at b d cs [] zero of cut at free h = h.shown
  unwritten_at b d cs [] (suc k) of cut at free h = h.shown
  unwritten_at b d [] (e ∷ es) k of cut at free h = absurd cut
  unwritten_at b d (c ∷ cs) (Done x ∷ es) zero of cut at free h =
      subst (λ (z : Call). Shown (entered d (Failed z 0))) (sym cut.0)
      (failed_step b d c 0 of.0 at
      (done_apart c [] (subst (λ (z : Call). IsUnwritten (Done z ∷ []) y) cut.0 free)).0 h)
  unwritten_at b d (c ∷ cs) (Done x ∷ es) (suc k) of cut at free h =
      let apart : IsApart c × IsUnwritten (take (suc k) es) y
      = done_apart c (take (suc k) es)
      (subst (λ (z : Call). IsUnwritten (Done z ∷ take (suc k) es) y) cut.0 free) in
      subst (λ (z : Call). Shown (disk_after (entered d (Done z)) (until k es))) (sym cut.0)
      (unwritten_at (drafts c b) (entered d (Done c)) cs es k of.1 cut.1
      (record { image = run_image s b d c of.0 at; draft = λ on. run_draft s b d c of.0 at on })
      apart.1 (steady_step b d c of.0 at apart.0 h))
  unwritten_at b d (c ∷ cs) (Failed x steps ∷ es) k of cut at free h =
      subst (λ (l : List Entry). Shown (disk_after d (until k (Failed x steps ∷ l)))) (sym cut.1)
      (failed_until d x steps k
      (lost_disk Shown d c x steps cut.0
      (failed_step b d c steps of.0 at (lost_apart c x cut.0 (failed_apart x steps (take k es) free)) h)))

  found_byte : (file : File) (loose lost : List (ℕ × ℕ)) (found : Option File) → (IsLoose loose y → ⊥)
      → slice_get file.bytes y ≡ Some byte → MayShow (one_version file loose lost) found
      → slice_get (bytes_of found) y ≡ Some byte
  found_byte file loose lost None firm at h = absurd (never_none file loose lost h)
  found_byte file loose lost (Some g) firm at h =
      loose_same file loose g y (shown_matches file loose lost g h) firm (slice_get_within file.bytes y byte at) ∙ at

  pub shown_found : (d : Disk) (files : List ℕ → Option File) → Shown d → Leaves d files
      → slice_get (bytes_of (files s.outfile)) y ≡ Some byte
  shown_found d files h leaves =
      found_byte h.file h.loose h.lost (files s.outfile) h.firm h.at
      (subst (λ (v : Showing). MayShow v (files s.outfile)) h.is (leaves s.outfile))
