-- What a filling and a generating leave that are done.
use Rattle.std.proofs.Common.{◌≡◌, ℕ, ◌+◌, ◌<◌, Bool, true, false, IsTrue, List, [], ◌∷◌, ◌++◌, length, map, take, Option, Some, refl, sym, ap, ◌∙◌, subst, arith}
use Rattle.std.specs.List.{count_by, list_any, slice_get}
use Rattle.std.proofs.Math.Seq.{take-length}
use Rattle.std.proofs.lemmas.List.{take_all, map-append}
use Rattle.block_list.specs.declared.status.Status.{Status}
use Rattle.block_list.specs.declared.types.TypeSet.{TypeSet}
use Rattle.mapfile_text.specs.declared.state.MapState.{MapState}
use Rattle.crash_site.specs.Files.{bytes_of}
use Rattle.crash_site.specs.Calls.{Call, Entry, Done as Returned}
use Rattle.crash_site.specs.SiteState.{files_in}
use Rattle.option_words.specs.Words.{command_line}
use Rattle.rescue_rules.specs.declared.stop.RunEnd.{RunEnd}
use Rattle.rescue_rules.specs.Setting.{Setting}
use Rattle.rescue_rules.specs.Events.{began_at}
use Rattle.rescue_rules.specs.Snapshots.{Snapshot, text_of}
use Rattle.rescue_rules.specs.Deeds.{saves_in}
use Rattle.rescue_rules.specs.Stops.{has_barrier, is_settle, is_write}
use Rattle.rescue_rules.specs.StopsBy.{is_publish, IsUnwritten, IsKeptBy, StopsBy}
use Rattle.rescue_rules.proofs.MapfileLemmas.{opening_by}
use Rattle.sweep_rules.specs.Sweep.{Sweeper, Sweep, Swept, filler, generator, sweep_over, after_pieces, sweep_end, deeds_of}
use Rattle.sweep_rules.specs.SweepLaws.{AreGiven}
use Rattle.sweep_rules.specs.SweepStops.{AreFilled, FillPromise, has_swept_out, pieces_before}
use Rattle.sweep_rules.proofs.SweepLemmas.{filled_map_stands, generates_what_is_held}
use Rattle.program_promise.proofs.FrontLemmas.{load_reads}
use Rattle.ddrescue_words.specs.Options.{cluster_of}
use Rattle.ddrescue_words.specs.Command.{Command, Fill, Generate}
use Rattle.ddrescue_words.specs.Asking.{HasMapfile}
use Rattle.ddrescue_words.proofs.CommandLemmas.{reading_asks}
use Rattle.task_files.specs.declared.ending.Ending.TheVariants.{Done}
use Rattle.task_files.specs.Names.{program_name}
use Rattle.task_files.specs.Maps.{Found}
use Rattle.task_files.specs.Findings.{Findings}
use Rattle.ddrescue_cli.specs.Tasks.{with_did}
use Rattle.ddrescue_cli.specs.Told.{Told, calls_before}
use Rattle.ddrescue_cli.specs.ToldParts.{files_of, asked_of}
use Rattle.task_sweeps.specs.Pattern.{IsRepeated}
use Rattle.task_sweeps.specs.Modes.{Fills, Generates}
use Rattle.ddrescue_cli.specs.Ddrescue.{Ddrescue, TaskDone}
use Rattle.ddrescue_laws.specs.ModeLaws.{DoneIsFilled, DoneIsGenerated, LeavesFilled, LeavesGenerated, HasNoPiece, IsSweptThrough, promised_fill, filling_setting, promised_generate}
use Rattle.ddrescue_laws.proofs.DoneLemmas.{KeepsAtEnd, kept_at_end, number_last, save_last}
use Rattle.ddrescue_cli.proofs.PromiseLemmas.{named_on}
use Rattle.ddrescue_laws.proofs.ReadLemmas.{barrier_after}
use Rattle.ddrescue_cli.proofs.SpareLemmas.{spare_append, spare_opening, spare_reads, none_written}
use Rattle.ddrescue_laws.proofs.SweepCounts.{IgnoresPieces, all_before, dues_of, publishes_in, settles_in, spare_generating, spares_append, spares_filling, spares_spare, sweep_calls_of, whole_calls}
use Rattle.ddrescue_laws.proofs.SweepPattern.{pattern_read, pattern_is_front}
use Rattle.ddrescue_laws.proofs.SweepDone.{DoneSweep, fill_done, generate_done}

-- ---- after all calls of a sweep

module _ (t : Told) (s : Setting) (w : Sweeper) (pieces : List Swept) (end : RunEnd) (times : List ℕ) (calls : List Entry)
    (h : DoneSweep s w (files_of t) pieces end times calls) (on : s.has_mapfile ≡ true)
    (started : t.after.site.start ≡ t.before.site.start) (grew : t.after.site.calls ≡ t.before.site.calls ++ calls) where
  abbrev pub begun : Sweep
  begun = sweep_over w h.statuses h.state (began_at times)

  abbrev pub swept_out : Sweep
  swept_out = after_pieces w begun pieces

  abbrev last : Snapshot
  last = sweep_end true swept_out

  barrier : has_barrier (take (length calls) calls) ≡ true
  barrier =
      let rest : List Call = opening_by s w.makes ++ (h.load ++ sweep_calls_of s w begun pieces last) in
      ap has_barrier (take-length calls ∙ h.calls_are ∙ map-append Returned h.maps rest)
      ∙ barrier_after h.maps (map Returned rest) h.are

  pub through : (mapfile : files_in t.after.site s.names.map
      ≡ Some (record { bytes = text_of s.line last; regular = true }))
      → IsSweptThrough t s w pieces h.statuses h.state (began_at times)
  through mapfile = record { stands = h.stands; sweep = h.sweep; over = h.over; mapfile = mapfile }

  module _ (promise : List ℕ → List Status → Option MapState → ℕ → List Status → List ℕ → Type 0) (makes : Bool)
      (settle : IgnoresPieces is_settle w) (publish : IgnoresPieces is_publish w)
      (stops : StopsBy (λ began shown. saves_in (deeds_of w (sweep_over w began shown (began_at times)) pieces)
      (sweep_end (has_swept_out end) (after_pieces w (sweep_over w began shown (began_at times)) pieces))) promise makes
      (calls_before t) s calls) where
    abbrev saved : List Snapshot
    saved = dues_of w begun pieces

    -- the output as it read before
    abbrev old : List ℕ
    old = bytes_of (files_of t s.outfile)

    pub ends : KeepsAtEnd (λ began shown. saves_in (deeds_of w (sweep_over w began shown (began_at times)) pieces)
        (sweep_end (has_swept_out end) (after_pieces w (sweep_over w began shown (began_at times)) pieces)))
        promise makes t s
        calls
    ends = kept_at_end (λ began shown. saves_in (deeds_of w (sweep_over w began shown (began_at times)) pieces)
        (sweep_end (has_swept_out end) (after_pieces w (sweep_over w began shown (began_at times)) pieces)))
        promise makes t s
        calls started grew barrier stops

    pub kept : IsKeptBy (saved ++ sweep_end (has_swept_out end) swept_out ∷ []) (promise old h.statuses h.state)
        (calls_before t) s calls h.statuses (length calls) (files_in t.after.site)
    kept =
        subst (λ (bytes : List ℕ). IsKeptBy (saved ++ sweep_end (has_swept_out end) swept_out ∷ [])
        (promise bytes h.statuses h.state) (calls_before t) s calls h.statuses (length calls)
        (files_in t.after.site)) ends.1
        (ends.0.kept h.statuses h.state h.stands)

    pub number_is : kept.number ≡ length saved + 1
    number_is =
        number_last calls kept.number (length saved + 1)
        (ap (count_by is_settle) h.calls_are
        ∙ settles_in s w h.maps h.load (files_of t s.names.map) begun pieces last on settle h.are h.begins)
        (ap (count_by is_publish) h.calls_are
        ∙ publishes_in s w h.maps h.load (files_of t s.names.map) begun pieces last on publish h.are h.begins)
        kept.no_older kept.no_newer

    pub last_saved : files_in t.after.site s.names.map ≡ Some (record { bytes = text_of s.line last; regular = true })
    last_saved =
        (save_last (files_of t s.names.map) h.statuses s.line saved (sweep_end (has_swept_out end) swept_out) kept.number
        (files_in t.after.site s.names.map) kept.statuses number_is kept.is_save).1
        ∙ ap (λ (out : Bool). Some (record { bytes = text_of s.line (sweep_end out swept_out); regular = true })) h.finished

    pub held : promise old h.statuses h.state (length saved + 1) kept.statuses
        (bytes_of (files_in t.after.site s.outfile))
    held =
        subst (λ (n : ℕ). promise old h.statuses h.state n kept.statuses (bytes_of (files_in t.after.site s.outfile)))
        number_is kept.held

-- ---- a filling

module _ (t : Told) (types : TypeSet) (c : Command) (d : Ddrescue t) (p : TaskDone (Fill types c) t)
    (tells : IsTrue t.before.site.tells) (has : HasMapfile c) (is : t.answer ≡ Done) where
  abbrev o : Findings
  o = with_did p.outside p.did

  abbrev s : Setting
  s = filling_setting t p

  abbrev w : Sweeper
  w = filler s types p.outside.buffer

  abbrev calls : List Entry
  calls = o.did.gain.calls

  on : s.has_mapfile ≡ true
  on = named_on c.mapfile has.named

  done : DoneSweep s w (files_of t) p.outside.pieces p.outside.swept o.did.gain.times calls
  done =
      fill_done (files_of t) (command_line program_name t.words) o.end p.outside.top o.maps types p.outside.buffer p.outside.pieces p.outside.swept o.lines
      t.answer o.did is c has.named
      (subst (λ (found : Found). Fills types c found o.end p.outside.top s p.outside.buffer p.outside.pieces p.outside.swept o.lines t.answer o.did)
      (p.agrees.agrees.found tells) p.work)

  abbrev start : Sweep
  start = sweep_over w done.statuses done.state (began_at o.did.gain.times)

  abbrev pledge : List ℕ → List Status → Option MapState → ℕ → List Status → List ℕ → Type 0
  pledge old began shown number map image =
      FillPromise s p.outside.buffer began
      (pieces_before w (sweep_over w began shown (began_at o.did.gain.times)) p.outside.pieces number) map image

  filled : AreFilled s p.outside.buffer p.outside.pieces (bytes_of (files_in t.after.site s.outfile))
  filled =
      let promised : pledge (bytes_of (files_of t s.outfile)) done.statuses done.state
      (length (dues_of w start p.outside.pieces) + 1) _
      (bytes_of (files_in t.after.site s.outfile)) =
      held t s w p.outside.pieces p.outside.swept o.did.gain.times calls done on (d.does.keeps.site.start tells) (p.agrees.agrees.calls tells) pledge true
      (λ e. refl) (λ e. refl) (p.leaves.stops tells) in
      subst (λ (es : List Swept). AreFilled s p.outside.buffer es (bytes_of (files_in t.after.site s.outfile)))
      (all_before w start p.outside.pieces (length (dues_of w start p.outside.pieces) + 1) refl) promised.filled

  elsewhere : (y : ℕ) → y < length (bytes_of (files_of t s.outfile)) → HasNoPiece s p.outside.pieces y
      → slice_get (bytes_of (files_in t.after.site s.outfile)) y ≡ slice_get (bytes_of (files_of t s.outfile)) y
  elsewhere y low off =
      let last_ = sweep_end true (after_pieces w start p.outside.pieces) in
      let back : List Call = sweep_calls_of s w start p.outside.pieces last_ in
      let spares = spares_append done.maps (opening_by s true ++ (done.load ++ back)) y
      (spares_spare done.maps y (spare_reads done.maps done.are))
      (spares_append (opening_by s true) (done.load ++ back) y (spares_spare (opening_by s true) y (spare_opening s true))
      (spares_append done.load back y
      (spares_spare done.load y
      (spare_reads done.load (load_reads s.names.map (files_of t s.names.map) done.load done.begins)))
      (spares_filling s types p.outside.buffer start p.outside.pieces last_ y on off))) in
      let whole : take (length calls + 1) calls ≡ calls = take_all (length calls + 1) calls (omega arith) in
      let k = ends t s w p.outside.pieces p.outside.swept o.did.gain.times calls done on (d.does.keeps.site.start tells)
      (p.agrees.agrees.calls tells) pledge true (λ e. refl) (λ e. refl) (p.leaves.stops tells) in
      k.0.unwritten y (subst (λ (es : List Entry). IsUnwritten es y) (sym (whole ∙ done.calls_are)) spares)
      (omega (arith, low, ap length k.1))
      ∙ ap (λ (bytes : List ℕ). slice_get bytes y) k.1

  pattern : IsTrue t.before.source.tells → IsRepeated (take s.cluster t.before.source.bytes) s.cluster p.outside.buffer
  pattern told =
      pattern_is_front (cluster_of c.options) o.end p.outside.buffer t.before.source.bytes o.did.gain.reads
      (pattern_read types c o.found o.end p.outside.top s p.outside.buffer p.outside.pieces p.outside.swept o.lines t.answer o.did is p.work)
      (p.agrees.agrees.end told) (p.agrees.agrees.reads told).right

  is_filled : LeavesFilled t s types p.outside.buffer p.outside.pieces
  is_filled = record {
    statuses = done.statuses;
    state = done.state;
    time = began_at o.did.gain.times;
    through = through t s w p.outside.pieces p.outside.swept o.did.gain.times calls done on (d.does.keeps.site.start tells) (p.agrees.agrees.calls tells)
        (last_saved t s w p.outside.pieces p.outside.swept o.did.gain.times calls done on (d.does.keeps.site.start tells) (p.agrees.agrees.calls tells) pledge
        true (λ e. refl) (λ e. refl) (p.leaves.stops tells));
    map = filled_map_stands s types p.outside.buffer start p.outside.pieces;
    pattern = pattern;
    filled = filled;
    elsewhere = elsewhere;
  }

pub done_is_filled : DoneIsFilled
done_is_filled t types c d asks tells is =
    is_filled t types c d (promised_fill d asks) tells
    (reading_asks t.words asks.rows asks.items asks.operands (Fill types c) asks.options asks.reading asks.is).limits is

-- ---- a generating

module _ (t : Told) (c : Command) (d : Ddrescue t) (p : TaskDone (Generate c) t) (tells : IsTrue t.before.site.tells)
    (has : HasMapfile c) (is : t.answer ≡ Done) where
  abbrev a : Findings
  a = with_did p.outside p.did

  abbrev z : Setting
  z = asked_of c t a

  abbrev g : Sweeper
  g = generator z

  mapped : z.has_mapfile ≡ true
  mapped = named_on c.mapfile has.named

  looked : DoneSweep z g (files_of t) p.outside.pieces p.outside.swept a.did.gain.times a.did.gain.calls
  looked =
      generate_done (files_of t) (command_line program_name t.words) a.end a.maps p.outside.pieces p.outside.swept a.lines t.answer a.did is c
      has.named
      (subst (λ (found : Found). Generates c found a.end z p.outside.pieces p.outside.swept a.lines t.answer a.did) (p.agrees.agrees.found tells)
      p.work)

  abbrev looks : Sweep
  looks = sweep_over g looked.statuses looked.state (began_at a.did.gain.times)

  output : bytes_of (files_in t.after.site z.outfile) ≡ bytes_of (files_of t z.outfile)
  output =
      let last_ = sweep_end true (after_pieces g looks p.outside.pieces) in
      let all : List Call = whole_calls z g looked.maps looked.load looks p.outside.pieces last_ in
      let spare = spare_append looked.maps (opening_by z false ++ (looked.load ++ sweep_calls_of z g looks p.outside.pieces last_))
      (spare_reads looked.maps looked.are)
      (spare_append (opening_by z false) (looked.load ++ sweep_calls_of z g looks p.outside.pieces last_) (spare_opening z false)
      (spare_append looked.load (sweep_calls_of z g looks p.outside.pieces last_)
      (spare_reads looked.load (load_reads z.names.map (files_of t z.names.map) looked.load looked.begins))
      (spare_generating z looks p.outside.pieces last_ mapped))) in
      let calls : List Entry = a.did.gain.calls in
      let whole : take (length calls + 1) calls ≡ calls = take_all (length calls + 1) calls (omega arith) in
      let k = ends t z g p.outside.pieces p.outside.swept a.did.gain.times calls looked mapped
      (d.does.keeps.site.start tells) (p.agrees.agrees.calls tells) _ false (λ e. refl) (λ e. refl)
      (p.leaves.stops tells).1 in
      k.0.output (ap (list_any is_write) (whole ∙ looked.calls_are) ∙ none_written all spare) ∙ k.1

  given : AreGiven z (bytes_of (files_of t z.outfile)) p.outside.pieces
  given = subst (λ (found : Found). AreGiven z (bytes_of found.output) p.outside.pieces) (p.agrees.agrees.found tells) (p.leaves.stops tells).0

  is_generated : LeavesGenerated t z p.outside.pieces
  is_generated = record {
    statuses = looked.statuses;
    state = looked.state;
    time = began_at a.did.gain.times;
    through = through t z g p.outside.pieces p.outside.swept a.did.gain.times a.did.gain.calls looked mapped (d.does.keeps.site.start tells)
        (p.agrees.agrees.calls tells)
        (last_saved t z g p.outside.pieces p.outside.swept a.did.gain.times a.did.gain.calls looked mapped (d.does.keeps.site.start tells)
        (p.agrees.agrees.calls tells) _ false (λ e. refl) (λ e. refl) (p.leaves.stops tells).1);
    given = given;
    held = generates_what_is_held z (bytes_of (files_of t z.outfile)) looks p.outside.pieces given;
    output = output;
  }

pub done_is_generated : DoneIsGenerated
done_is_generated t c d asks tells is =
    is_generated t c d (promised_generate d asks) tells
    (reading_asks t.words asks.rows asks.items asks.operands (Generate c) asks.options asks.reading asks.is).limits is
