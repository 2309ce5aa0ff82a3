-- What a stop may leave at every moment of a run that saves while it goes, whatever its work is.
use Rattle.std.proofs.Common.{◌≡◌, ⊎_elim, ℕ, suc, ◌+◌, ◌≤◌, Bool, true, false, if◌then◌else◌, List, [], ◌∷◌, ◌++◌, length, map, take, Option, Some, None, refl, sym, ◌∙◌, ap, subst, arith, append_assoc, append-nil, length-append}
use Rattle.std.proofs.Math.Numerals.{add-one}
use Rattle.std.specs.List.{concat, count_by, flat_map, slice_get}
use Rattle.block_list.specs.declared.status.Status.{Status}
use Rattle.mapfile_text.specs.Pieces.{pieces_of}
use Rattle.mapfile_text.proofs.PieceLemmas.{in_pieces}
use Rattle.crash_site.specs.Files.{File, empty_file, written, bytes_of}
use Rattle.crash_site.specs.FileAnswers.{kind_of}
use Rattle.crash_site.specs.Calls.{Call, Entry, Done, Failed, image_open, image_read, image_write, image_sync, map_read, draft_begin, draft_append, draft_sync, draft_publish, map_settle, map_remove}
use Rattle.crash_site.specs.Disk.{Showing, Disk, lost_in, only, or_this, entered, disk_after}
use Rattle.crash_site.specs.Left.{MayShow, Leaves, until}
use Rattle.crash_site.proofs.LawLemmas.{Sure, found_only}
use Rattle.mapfile_save.specs.Saving.{save_calls}
use Rattle.mapfile_save.specs.SaveStops.{text_file}
use Rattle.rescue_rules.specs.Setting.{Setting}
use Rattle.rescue_rules.specs.Snapshots.{Snapshot, text_of}
use Rattle.rescue_rules.specs.Deeds.{Deed, save_of, deed_calls, doing_calls, some_save, saves_in, image_after, WritesAt, Outlasts, KeepsOn, KeepsUp}
use Rattle.rescue_rules.specs.Laws.{AreThreeNames}
use Rattle.rescue_rules.specs.RunStops.{Rests}
use Rattle.rescue_rules.specs.Stops.{is_settle, is_write}
use Rattle.rescue_rules.specs.StopsBy.{IsSave, is_publish}
use Rattle.rescue_rules.proofs.WriteLemmas.{length-written}
use Rattle.rescue_rules.proofs.CutLemmas.{Cut, tally, tally_is, Each, at_stop}
use Rattle.rescue_rules.proofs.BeforeLemmas.{or_found}
use Rattle.rescue_rules.proofs.SaveStages.{Doing, Base, StoodFile, Stood, stood_found, stood_only, Calm, calm_written, Wrote, calm_unwritten, calm_unsynced, Synced, calm_synced, Drafting, begun, unbegun, grown, ungrown, firm, Moved, published_moved, Unmoved, unpublished, moved_unmoved, moved_unsettled, Settled, moved_settled}

-- the save at a run's end, and all its calls
abbrev pub last_calls : Setting → Snapshot → List Call
last_calls s last = save_calls s.names (text_of s.line last)

abbrev pub all_calls : Setting → List Deed → Snapshot → List Call
all_calls s deeds last = flat_map (deed_calls s) deeds ++ last_calls s last

pub doing_is : (s : Setting) (deeds : List Deed) (last : Snapshot) → s.has_mapfile ≡ true
    → doing_calls s deeds last ≡ all_calls s deeds last
doing_is s deeds last on =
    ap (λ (b : Bool). flat_map (deed_calls s) deeds ++ (if b then last_calls s last else image_sync ∷ [])) on

-- a save of a run's list
slice_get_here : (before : List Snapshot) (p : Snapshot) (later : List Snapshot)
    → slice_get (before ++ p ∷ later) (length before) ≡ Some p
slice_get_here [] p later = refl
slice_get_here (q ∷ before) p later = slice_get_here before p later

pub save_at : (saves before : List Snapshot) (p : Snapshot) (later : List Snapshot) (n : ℕ) → length before ≡ n
    → saves ≡ before ++ p ∷ later → slice_get saves n ≡ Some p
save_at saves before p later n number is =
    ap (λ (l : List Snapshot). slice_get l n) is
    ∙ subst (λ (m : ℕ). slice_get (before ++ p ∷ later) m ≡ Some p) number (slice_get_here before p later)

-- calls on an output don't make it shorter
pub length-image_after : (bytes : List ℕ) (calls : List Call) → length bytes ≤ length (image_after bytes calls)
length-image_after bytes [] = omega arith
length-image_after bytes (image_write pos piece ∷ calls) =
    omega (arith, (length-written bytes pos piece).0, length-image_after (written bytes pos piece) calls)
length-image_after bytes (image_open name make ∷ calls) = length-image_after bytes calls
length-image_after bytes (image_read pos asked answer ∷ calls) = length-image_after bytes calls
length-image_after bytes (image_sync ∷ calls) = length-image_after bytes calls
length-image_after bytes (map_read name pos asked answer ∷ calls) = length-image_after bytes calls
length-image_after bytes (draft_begin name ∷ calls) = length-image_after bytes calls
length-image_after bytes (draft_append piece ∷ calls) = length-image_after bytes calls
length-image_after bytes (draft_sync ∷ calls) = length-image_after bytes calls
length-image_after bytes (draft_publish name ∷ calls) = length-image_after bytes calls
length-image_after bytes (map_settle name ∷ calls) = length-image_after bytes calls
length-image_after bytes (map_remove name ∷ calls) = length-image_after bytes calls

-- What is kept of a run: the mapfile found is one that it saved, or the one that it began with, no older than the last
-- save that had returned, and no newer than the last that had begun to be published. The output holds what that mapfile
-- promises, stands until a write has begun, and is there, of the kind that it had.
pub record Kept (promise : ℕ → List ℕ → Type 0) (a : Doing) (returned published written : ℕ)
    (files : List ℕ → Option File) : Type 0 where
  pub number : ℕ
  pub no_older : returned ≤ number
  pub no_newer : number ≤ published
  pub statuses : List Status
  pub is_save : IsSave a.mapfile a.began a.s.line a.saves number (files a.s.names.map) statuses
  pub held : promise number (bytes_of (files a.s.outfile))
  pub unwritten : written ≡ 0 → bytes_of (files a.s.outfile) ≡ a.start
  pub there : kind_of (files a.s.outfile) false ≡ a.kind

-- A disk is as such a run begins.
pub record BeginsOver (a : Doing) (d : Disk) : Type 0 where
  pub rests : Rests a.s d
  pub mapfile : d.reads.files a.s.names.map ≡ a.mapfile
  pub start : bytes_of (d.reads.files a.s.outfile) ≡ a.start
  pub kind : kind_of (d.reads.files a.s.outfile) false ≡ a.kind

-- what a run has saved last
pub record Good (c : Base) : Type 0 where
  pub saved : IsSave c.a.mapfile c.a.began c.a.s.line c.a.saves c.number c.mapfile c.statuses

-- what a run has saved before its first save
abbrev pub first_base : Doing → Base
first_base a = record { a = a; number = 0; mapfile = a.mapfile; statuses = a.began; text = []; new = empty_file }

-- what it has saved when its next save has returned
abbrev pub saved_base : Base → List Status → Base
saved_base c statuses = record {
  a = c.a;
  number = suc c.number;
  mapfile = Some (text_file c.text);
  statuses = statuses;
  text = [];
  new = empty_file;
}

shown_as : (d : Disk) (n : List ℕ) (v : Showing) (files : List ℕ → Option File) → d.shows n ≡ v → Leaves d files
    → MayShow v (files n)
shown_as d n v files is h = subst (λ (u : Showing). MayShow u (files n)) is (h n)

module _ (promise : ℕ → List ℕ → Type 0) (free : ℕ → ℕ → Type 0) where
  -- what is to be kept is kept at a stop of this disk
  abbrev pub Holds : Doing → ℕ → ℕ → ℕ → Disk → Type 0
  Holds a r p w d = (files : List ℕ → Option File) → Leaves d files → Kept promise a r p w files

  -- what a run saves next
  pub record Next (c : Base) (statuses : List Status) : Type 0 where
    pub saved : IsSave c.a.mapfile c.a.began c.a.s.line c.a.saves (suc c.number) (Some (text_file c.text)) statuses
    pub held : promise (suc c.number) c.new.bytes
    pub longer : length c.a.start ≤ length c.new.bytes

  keeps_by : (a : Doing) (r p w n : ℕ) (statuses : List Status) (file : Option File) (g : File)
      (files : List ℕ → Option File) → r ≤ n → n ≤ p → files a.s.names.map ≡ file
      → IsSave a.mapfile a.began a.s.line a.saves n file statuses → files a.s.outfile ≡ Some g
      → promise n g.bytes → (w ≡ 0 → g.bytes ≡ a.start) → kind_of (Some g) false ≡ a.kind
      → Kept promise a r p w files
  keeps_by a r p w n statuses file g files no_older no_newer map_is saved out_is held un there = record {
    number = n;
    no_older = no_older;
    no_newer = no_newer;
    statuses = statuses;
    is_save = subst (λ (o : Option File). IsSave a.mapfile a.began a.s.line a.saves n o statuses) (sym map_is) saved;
    held = subst (λ (i : List ℕ). promise n i) (sym (ap bytes_of out_is)) held;
    unwritten = λ none. ap bytes_of out_is ∙ un none;
    there = ap (λ (o : Option File). kind_of o false) out_is ∙ there;
  }

  -- the last save is found while it alone is shown
  holds_old : (c : Base) (ok : Outlasts promise free c.a.start) (p w : ℕ) (d : Disk) → Good c → c.number ≤ p
      → d.shows c.a.s.names.map ≡ only c.mapfile → Stood promise free c w (d.shows c.a.s.outfile)
      → Holds c.a c.number p w d
  holds_old c ok p w d good some map_is st files h =
      let f = stood_found promise free c ok w (d.shows c.a.s.outfile) (files c.a.s.outfile) st (h c.a.s.outfile) in
      keeps_by c.a c.number p w c.number c.statuses c.mapfile f.0 files (omega arith) some
      (found_only c.mapfile (files c.a.s.names.map) (shown_as d c.a.s.names.map (only c.mapfile) files map_is h))
      good.saved f.1 f.2.held f.2.unwritten f.2.there

  sure_stood : (c : Base) (w : ℕ) (d : Disk) → Sure d c.a.s.outfile (Some c.new) → StoodFile promise free c w c.new
      → Stood promise free c w (d.shows c.a.s.outfile)
  sure_stood c w d sure h =
      subst (λ (v : Showing). Stood promise free c w v) (sym sure.shows) (stood_only promise free c w c.new h)

  pub calm_holds : (c : Base) (ok : Outlasts promise free c.a.start) (p w : ℕ) (now : File) (d : Disk) → Good c
      → c.number ≤ p → Calm promise free c w now d → Holds c.a c.number p w d
  calm_holds c ok p w now d good some h = holds_old c ok p w d good some h.map.shows h.output

  wrote_holds : (c : Base) (ok : Outlasts promise free c.a.start) (p w : ℕ) (d : Disk) → Good c → c.number ≤ p
      → Wrote promise free c w d → Holds c.a c.number p w d
  wrote_holds c ok p w d good some h = holds_old c ok p w d good some h.map.shows h.output

  synced_holds : (c : Base) (ok : Outlasts promise free c.a.start) (p w : ℕ) (d : Disk) → Good c → c.number ≤ p
      → Synced promise free c w d → Holds c.a c.number p w d
  synced_holds c ok p w d good some h =
      holds_old c ok p w d good some h.map.shows (sure_stood c w d h.output h.stood)

  -- the last save or the next one is found once the next one is published
  unmoved_holds : (c : Base) (statuses : List Status) (p w : ℕ) (d : Disk) → Good c → Next c statuses
      → suc c.number ≤ p → Unmoved promise free c w d → Holds c.a c.number p w d
  unmoved_holds c statuses p w d good next some h files leaves =
      let out_is : files c.a.s.outfile ≡ Some c.new
      = found_only (Some c.new) (files c.a.s.outfile)
      (shown_as d c.a.s.outfile (only (Some c.new)) files h.output.shows leaves) in
      ⊎_elim
      (λ (was : MayShow (only c.mapfile) (files c.a.s.names.map)).
      keeps_by c.a c.number p w c.number c.statuses c.mapfile c.new files (omega arith) (omega (arith, some))
      (found_only c.mapfile (files c.a.s.names.map) was) good.saved out_is h.stood.held h.stood.unwritten
      h.stood.there)
      (λ (is : files c.a.s.names.map ≡ Some (text_file c.text)).
      keeps_by c.a c.number p w (suc c.number) statuses (Some (text_file c.text)) c.new files (omega arith) some is
      next.saved out_is next.held h.stood.unwritten h.stood.there)
      (or_found (Some (text_file c.text)) (only c.mapfile) (files c.a.s.names.map)
      (shown_as d c.a.s.names.map (or_this (Some (text_file c.text)) (only c.mapfile)) files h.shows leaves))

  settled_calm : (c : Base) (statuses : List Status) (w : ℕ) (d : Disk) → Next c statuses
      → StoodFile promise free c w c.new → Settled promise free c d
      → Calm promise free (saved_base c statuses) w c.new d
  settled_calm c statuses w d next was h =
      let stood : StoodFile promise free (saved_base c statuses) w c.new
      = record { held = next.held; longer = next.longer; unwritten = was.unwritten; there = was.there } in
      record {
        image = h.image;
        map = record { shows = h.map.shows; reads = h.map.reads };
        output = subst (λ (v : Showing). Stood promise free (saved_base c statuses) w v) (sym h.output.shows)
            (stood_only promise free (saved_base c statuses) w c.new stood);
        unlost = ap lost_in h.output.shows;
        reads = h.output.reads;
        sound = h.sound;
      }

  -- the pieces of a text
  each_appends : (c : Base) (ok : Outlasts promise free c.a.start) (w : ℕ) (got : List ℕ) (d : Disk)
      (ps : List (List ℕ)) (rest : List Call) → AreThreeNames c.a.s → Good c → Drafting promise free c w got d
      → ((d' : Disk) → Drafting promise free c w (got ++ concat ps) d' → Each (Holds c.a) c.number c.number w d' rest)
      → Each (Holds c.a) c.number c.number w d (map draft_append ps ++ rest)
  each_appends c ok w got d [] rest three good h go =
      go d (subst (λ (t : List ℕ). Drafting promise free c w t d) (sym (append-nil got)) h)
  each_appends c ok w got d (p ∷ ps) rest three good h go = (
    synced_holds c ok c.number w d good (omega arith) h.synced,
    (λ steps. synced_holds c ok c.number w (entered d (Failed (draft_append p) steps)) good (omega arith)
        (ungrown promise free c w got p d steps three h)),
    each_appends c ok w (got ++ p) (entered d (Done (draft_append p))) ps rest three good
        (grown promise free c w got p d three h)
        (λ d' h'. go d' (subst (λ (t : List ℕ). Drafting promise free c w t d') (append_assoc got p (concat ps)) h')),
  )

  -- the publish of a draft that was synced, and the settle
  each_publish : (c : Base) (ok : Outlasts promise free c.a.start) (statuses : List Status) (w : ℕ) (d : Disk)
      (rest : List Call) → AreThreeNames c.a.s → Good c → Next c statuses → Drafting promise free c w c.text d
      → ((d' : Disk) → Calm promise free (saved_base c statuses) w c.new d'
      → Each (Holds c.a) (suc c.number) (suc c.number) w d' rest)
      → Each (Holds c.a) c.number c.number w d (draft_sync ∷ draft_publish c.a.s.names.map ∷ map_settle c.a.s.names.map ∷ rest)
  each_publish c ok statuses w d rest three good next h go =
      let d1 : Disk = entered d (Done draft_sync) in
      let d2 : Disk = entered d1 (Done (draft_publish c.a.s.names.map)) in
      let h1 : Drafting promise free c w c.text d1 = firm promise free c w c.text d h in
      let h2 : Moved promise free c w d2 = published_moved promise free c w d1 three refl h1 in (
        synced_holds c ok c.number w d good (omega arith) h.synced,
        (λ steps. synced_holds c ok c.number w d good (omega arith) h.synced),
        (
          synced_holds c ok c.number w d1 good (omega arith) h1.synced,
          (λ steps. unmoved_holds c statuses (suc c.number) w
              (entered d1 (Failed (draft_publish c.a.s.names.map) steps)) good
              next (omega arith) (unpublished promise free c w d1 steps three refl h1)),
          (
            unmoved_holds c statuses (suc c.number) w d2 good next (omega arith) (moved_unmoved promise free c w d2 h2),
            (λ steps. unmoved_holds c statuses (suc c.number) w
                (entered d2 (Failed (map_settle c.a.s.names.map) steps)) good
                next (omega arith) (moved_unsettled promise free c w d2 steps three h2)),
            go (entered d2 (Done (map_settle c.a.s.names.map)))
                (settled_calm c statuses w (entered d2 (Done (map_settle c.a.s.names.map))) next h2.stood
                (moved_settled promise free c w d2 three h2)),
          ),
        ),
      )

  -- a whole save
  each_save : (c : Base) (ok : Outlasts promise free c.a.start) (statuses : List Status) (w : ℕ) (d : Disk)
      (rest : List Call) → AreThreeNames c.a.s → Good c → Next c statuses → Calm promise free c w c.new d
      → ((d' : Disk) → Calm promise free (saved_base c statuses) w c.new d'
      → Each (Holds c.a) (suc c.number) (suc c.number) w d' rest)
      → Each (Holds c.a) c.number c.number w d (save_calls c.a.s.names c.text ++ rest)
  each_save c ok statuses w d rest three good next h go =
      let d1 : Disk = entered d (Done image_sync) in
      let d2 : Disk = entered d1 (Done (draft_begin c.a.s.names.draft)) in
      let h1 : Synced promise free c w d1 = calm_synced promise free c ok w d three h in
      let back : List Call = draft_sync ∷ draft_publish c.a.s.names.map ∷ map_settle c.a.s.names.map ∷ [] in (
        calm_holds c ok c.number w c.new d good (omega arith) h,
        (λ steps. wrote_holds c ok c.number w (entered d (Failed image_sync steps)) good (omega arith)
            (calm_unsynced promise free c w c.new d steps h)),
        (
          synced_holds c ok c.number w d1 good (omega arith) h1,
          (λ steps. synced_holds c ok c.number w (entered d1 (Failed (draft_begin c.a.s.names.draft) steps))
              good (omega arith)
              (unbegun promise free c w d1 steps three h1)),
          subst (λ (l : List Call). Each (Holds c.a) c.number c.number w d2 l)
              (sym (append_assoc (map draft_append (pieces_of c.text)) back rest))
              (each_appends c ok w [] d2 (pieces_of c.text) (back ++ rest) three good (begun promise free c w d1 three h1)
              (λ d' h'. each_publish c ok statuses w d' rest three good next
              (subst (λ (t : List ℕ). Drafting promise free c w t d') (in_pieces c.text).together h') go)),
        ),
      )

  -- a run that has saved the same, and is about to save another text
  recast_file : (c : Base) (text : List ℕ) (new : File) (w : ℕ) (file : File) → StoodFile promise free c w file
      → StoodFile promise free (record c { text = text; new = new }) w file
  recast_file c text new w file h =
      record { held = h.held; longer = h.longer; unwritten = h.unwritten; there = h.there }

  recast_stood : (c : Base) (text : List ℕ) (new : File) (w : ℕ) (v : Showing) → Stood promise free c w v
      → Stood promise free (record c { text = text; new = new }) w v
  recast_stood c text new w v h = record {
    file = h.file;
    loose = h.loose;
    lost = h.lost;
    is = h.is;
    owned = h.owned;
    kept = recast_file c text new w h.file h.kept;
    none = h.none;
  }

  recast : (c : Base) (text : List ℕ) (new : File) (w : ℕ) (now : File) (d : Disk) → Calm promise free c w now d
      → Calm promise free (record c { text = text; new = new }) w now d
  recast c text new w now d h = record {
    image = h.image;
    map = h.map;
    output = recast_stood c text new w (d.shows c.a.s.outfile) h.output;
    unlost = h.unlost;
    reads = h.reads;
    sound = h.sound;
  }

  -- A run that has these deeds before it, and has saved something.
  pub record Going (c : Base) (deeds : List Deed) (last : Snapshot) (now : File) : Type 0 where
    pub good : Good c
    pub keeps : KeepsUp promise free c.number now.bytes deeds
    pub longer : length c.a.start ≤ length now.bytes
    pub before : List Snapshot
    pub number : length before ≡ c.number
    pub saves : c.a.saves ≡ before ++ saves_in deeds last

  -- what holds of the rest of a run, whatever it has saved
  abbrev Goes : Doing → List Deed → Snapshot → Type 0
  Goes a deeds last = (c : Base) → c.a ≡ a → (w : ℕ) (now : File) (d : Disk) → Going c deeds last now
      → Calm promise free c w now d → Each (Holds c.a) c.number c.number w d (all_calls c.a.s deeds last)

  -- the calls of a deed on the output
  each_calls : (c : Base) (ok : Outlasts promise free c.a.start) (w : ℕ) (now : File) (d : Disk)
      (calls rest : List Call) → AreThreeNames c.a.s → Good c → WritesAt (free c.number) calls
      → Calm promise free c w now d
      → ((w' : ℕ) (d' : Disk)
      → Calm promise free c w' (record { bytes = image_after now.bytes calls; regular = now.regular }) d'
      → Each (Holds c.a) c.number c.number w' d' rest)
      → Each (Holds c.a) c.number c.number w d (calls ++ rest)
  each_calls c ok w now d [] rest three good at h go = go w d h
  each_calls c ok w now d (image_write pos piece ∷ calls) rest three good at h go = (
    calm_holds c ok c.number w now d good (omega arith) h,
    (λ steps. wrote_holds c ok c.number (suc w) (entered d (Failed (image_write pos piece) steps)) good (omega arith)
        (calm_unwritten promise free c w now d pos piece steps three at.0 h)),
    each_calls c ok (suc w) (record { bytes = written now.bytes pos piece; regular = now.regular })
        (entered d (Done (image_write pos piece))) calls rest three good at.1
        (calm_written promise free c w now d pos piece three at.0 h) go,
  )
  each_calls c ok w now d (image_read pos asked answer ∷ calls) rest three good at h go = (
    calm_holds c ok c.number w now d good (omega arith) h,
    (λ steps. calm_holds c ok c.number w now d good (omega arith) h),
    each_calls c ok w now d calls rest three good at h go,
  )
  each_calls c ok w now d _ rest three good at h go = absurd at

  -- the save that is due after them, if one is, and the rest of the run
  each_due : (c : Base) (ok : Outlasts promise free c.a.start) (save : Option Snapshot) (deeds : List Deed)
      (last : Snapshot) (w : ℕ) (now : File) (d : Disk) → Goes c.a deeds last → AreThreeNames c.a.s → Good c
      → length c.a.start ≤ length now.bytes → (before : List Snapshot) → length before ≡ c.number
      → c.a.saves ≡ before ++ (some_save save ++ saves_in deeds last)
      → KeepsOn promise c.number now.bytes save (λ m. KeepsUp promise free m now.bytes deeds)
      → Calm promise free c w now d
      → Each (Holds c.a) c.number c.number w d (save_of c.a.s save ++ all_calls c.a.s deeds last)
  each_due c ok None deeds last w now d go three good longer before number saves keeps h =
      go c refl w now d (record {
        good = good;
        keeps = keeps;
        longer = longer;
        before = before;
        number = number;
        saves = saves;
      }) h
  each_due c ok (Some p) deeds last w now d go three good longer before number saves keeps h =
      let c1 : Base = record c { text = text_of c.a.s.line p; new = now } in
      let c2 : Base = saved_base c1 p.map in
      let next : Next c1 p.map = record {
        saved = (p, save_at c.a.saves before p (saves_in deeds last) c.number number saves, refl, refl);
        held = keeps.0;
        longer = longer;
      } in
      let going : Going c2 deeds last now = record {
        good = record { saved = next.saved };
        keeps = keeps.1;
        longer = longer;
        before = before ++ p ∷ [];
        number = omega (arith, length-append before (p ∷ []), number);
        saves = saves ∙ sym (append_assoc before (p ∷ []) (saves_in deeds last));
      } in
      each_save c1 ok p.map w d (all_calls c.a.s deeds last) three (record { saved = good.saved }) next
      (recast c (text_of c.a.s.line p) now w now d h) (λ d' h'. go c2 refl w now d' going h')

  -- the save at a run's end
  each_end : (c : Base) (ok : Outlasts promise free c.a.start) (last : Snapshot) (w : ℕ) (now : File) (d : Disk)
      → AreThreeNames c.a.s → Going c [] last now → Calm promise free c w now d
      → Each (Holds c.a) c.number c.number w d (last_calls c.a.s last)
  each_end c ok last w now d three g h =
      let c1 : Base = record c { text = text_of c.a.s.line last; new = now } in
      let next : Next c1 last.map = record {
        saved = (last, save_at c.a.saves g.before last [] c.number g.number g.saves, refl, refl);
        held = g.keeps;
        longer = g.longer;
      } in
      subst (λ (l : List Call). Each (Holds c.a) c.number c.number w d l) (append-nil (last_calls c.a.s last))
      (each_save c1 ok last.map w d [] three (record { saved = g.good.saved }) next
      (recast c (text_of c.a.s.line last) now w now d h)
      (λ d' h'. calm_holds (saved_base c1 last.map) ok (suc c.number) w now d' (record { saved = next.saved })
      (omega arith) h'))

  -- what a run's calls leave at each stop
  each_deed : (a : Doing) (ok : Outlasts promise free a.start) (three : AreThreeNames a.s) (deeds : List Deed)
      (last : Snapshot) → Goes a deeds last
  each_deed a ok three [] last c same w now d g h =
      each_end c (subst (λ (b : Doing). Outlasts promise free b.start) (sym same) ok) last w now d
      (subst (λ (b : Doing). AreThreeNames b.s) (sym same) three) g h
  each_deed a ok three (e ∷ es) last c same w now d g h =
      let s : Setting = c.a.s in
      let ok' : Outlasts promise free c.a.start = subst (λ (b : Doing). Outlasts promise free b.start) (sym same) ok in
      let three' : AreThreeNames s = subst (λ (b : Doing). AreThreeNames b.s) (sym same) three in
      let after : File = record { bytes = image_after now.bytes e.calls; regular = now.regular } in
      let rest : List Call = all_calls s es last in
      let whole : all_calls s (e ∷ es) last ≡ e.calls ++ (save_of s e.save ++ rest)
      = append_assoc (deed_calls s e) (flat_map (deed_calls s) es) (last_calls s last)
      ∙ append_assoc e.calls (save_of s e.save) rest in
      let saved : c.a.saves ≡ g.before ++ (some_save e.save ++ saves_in es last)
      = g.saves ∙ ap (λ (l : List Snapshot). g.before ++ l)
      (append_assoc (some_save e.save) (flat_map (λ (f : Deed). some_save f.save) es) (last ∷ [])) in
      subst (λ (l : List Call). Each (Holds c.a) c.number c.number w d l) (sym whole)
      (each_calls c ok' w now d e.calls (save_of s e.save ++ rest) three' g.good g.keeps.0 h
      (λ w' d' h'. each_due c ok' e.save es last w' after d'
      (subst (λ (b : Doing). Goes b es last) (sym same) (each_deed a ok three es last)) three' g.good
      (omega (arith, g.longer, length-image_after now.bytes e.calls)) g.before g.number saved g.keeps.1 h'))

  module _ (a : Doing) (d : Disk) (over : BeginsOver a d) (first : promise 0 a.start) where
    first_bytes : over.rests.file.bytes ≡ a.start
    first_bytes = sym (ap bytes_of over.rests.reads) ∙ over.start

    -- before its first deed
    first_calm : Calm promise free (first_base a) 0 over.rests.file d
    first_calm = record {
      image = over.rests.image;
      map = record { shows = over.rests.mapfile ∙ ap only over.mapfile; reads = over.mapfile };
      output = subst (λ (v : Showing). Stood promise free (first_base a) 0 v) (sym over.rests.output)
          (stood_only promise free (first_base a) 0 over.rests.file (record {
            held = subst (λ (i : List ℕ). promise 0 i) (sym first_bytes) first;
            longer = omega (arith, ap length first_bytes);
            unwritten = λ none. first_bytes;
            there = sym (ap (λ (o : Option File). kind_of o false) over.rests.reads) ∙ over.kind;
          }));
      unlost = ap lost_in over.rests.output;
      reads = over.rests.reads;
      sound = over.rests.sound;
    }

    pub begins_hold : Outlasts promise free a.start → Holds a 0 0 0 d
    begins_hold ok =
        calm_holds (first_base a) ok 0 0 over.rests.file d (record { saved = (refl, refl) }) (omega arith) first_calm

    -- at every stop of a run, and before it
    pub each_doing : (deeds : List Deed) (last : Snapshot) → Outlasts promise free a.start → AreThreeNames a.s
        → a.saves ≡ saves_in deeds last → KeepsUp promise free 0 a.start deeds
        → Each (Holds a) 0 0 0 d (all_calls a.s deeds last)
    each_doing deeds last ok three saves keeps =
        each_deed a ok three deeds last (first_base a) refl 0 over.rests.file d
        (record {
          good = record { saved = (refl, refl) };
          keeps = subst (λ (i : List ℕ). KeepsUp promise free 0 i deeds) (sym first_bytes) keeps;
          longer = omega (arith, ap length first_bytes);
          before = [];
          number = refl;
          saves = saves;
        }) first_calm

    -- The one lemma of all runs: one whose promise outlasts what it writes, and keeps up, keeps it at whatever moment it
    -- is stopped.
    pub deeds_stop_safely : (deeds : List Deed) (last : Snapshot) (calls : List Entry) (k : ℕ)
        (files : List ℕ → Option File) → a.s.has_mapfile ≡ true → AreThreeNames a.s → Outlasts promise free a.start
        → a.saves ≡ saves_in deeds last → KeepsUp promise free 0 a.start deeds
        → Cut (doing_calls a.s deeds last) calls → Leaves (disk_after d (until k calls)) files
        → Kept promise a (count_by is_settle (take k calls)) (count_by is_publish (take (k + 1) calls))
        (count_by is_write (take (k + 1) calls)) files
    deeds_stop_safely deeds last calls k files on three ok saves keeps cut leaves =
        let cut' : Cut (all_calls a.s deeds last) calls
        = subst (λ (l : List Call). Cut l calls) (doing_is a.s deeds last on) cut in
        let at : Kept promise a (tally is_settle (take k calls) 0) (tally is_publish (take (suc k) calls) 0)
        (tally is_write (take (suc k) calls) 0) files
        = at_stop (Holds a) 0 0 0 d (all_calls a.s deeds last) calls k (each_doing deeds last ok three saves keeps) cut'
        files leaves in
        subst (λ (n : ℕ). Kept promise a (count_by is_settle (take k calls)) (count_by is_publish (take n calls))
        (count_by is_write (take n calls)) files) (sym (add-one k))
        (subst (λ (r : ℕ). Kept promise a r (count_by is_publish (take (suc k) calls))
        (count_by is_write (take (suc k) calls)) files) (sym (tally_is is_settle (take k calls)))
        (subst (λ (p : ℕ). Kept promise a (tally is_settle (take k calls) 0) p (count_by is_write (take (suc k) calls)) files)
        (sym (tally_is is_publish (take (suc k) calls)))
        (subst (λ (w : ℕ). Kept promise a (tally is_settle (take k calls) 0) (tally is_publish (take (suc k) calls) 0) w files)
        (sym (tally_is is_write (take (suc k) calls))) at)))
