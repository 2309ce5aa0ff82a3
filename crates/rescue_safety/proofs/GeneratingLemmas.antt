-- A generating that goes on from what is owed leaves it so: what it marks is what the output holds.
use Rattle.std.specs.Bool.{⊤}
use Rattle.std.proofs.Common.{◌≡◌, ◌≢◌, ◌⊎◌, inl, inr, ⊎_elim, ℕ, ◌+◌, ◌<◌, ◌≤◌, Bool, true, false, if◌then◌else◌, List, [], ◌∷◌, ◌++◌, length, map, take, drop, All, Option, Some, None, option_map, is_some, refl, sym, ap, subst, ◌∙◌, arith, append-nil, append_assoc}
use Rattle.std.specs.List.{slice_get}
use Rattle.std.proofs.lemmas.Bool.{cases_Bool}
use Rattle.std.proofs.lemmas.List.{append_cancel_left}
use Rattle.std.proofs.lemmas.List.Elements.{All-nil, All-cons, All-append}
use Rattle.std.proofs.lemmas.Option.{slice_get_within}
use Rattle.block_list.specs.declared.status.Status.TheVariants.{Finished}
use Rattle.block_list.specs.Map.{Has}
use Rattle.crash_site.specs.Files.{File, bytes_of, draft_of}
use Rattle.crash_site.specs.Calls.{Call, Entry}
use Rattle.crash_site.specs.Left.{NothingLost}
use Rattle.mapfile_save.specs.MapNames.{names_of, names_in}
use Rattle.rescue_rules.specs.declared.stop.RunEnd.{RunEnd}
use Rattle.rescue_rules.specs.Setting.{Setting, IsSensible, place}
use Rattle.rescue_rules.specs.Start.{Stands}
use Rattle.rescue_rules.specs.Given.{last_of_both}
use Rattle.rescue_rules.specs.Work.{Gain, AreMapReads}
use Rattle.rescue_rules.specs.Events.{began_at}
use Rattle.rescue_rules.proofs.StandsLemmas.{stands_for_one}
use Rattle.mapfile_text.specs.declared.state.MapState.{MapState}
use Rattle.block_list.specs.declared.status.Status.{Status}
use Rattle.rescue_rules.specs.Stops.{Before, files_before, lost_before, has_barrier, CouldBefore, StopOf, LeftBy}
use Rattle.rescue_rules.specs.StopsBy.{published, IsKeptBy}
use Rattle.rescue_rules.proofs.CutLemmas.{Cut, cut_past}
use Rattle.rescue_rules.proofs.MapfileLemmas.{opening_by}
use Rattle.sweep_rules.specs.Sweep.{Sweep, Swept, Sweeper, generator, IsSweep, after_piece, after_pieces, sweep_over, sweep_end}
use Rattle.sweep_rules.specs.SweepLaws.{AreGiven}
use Rattle.sweep_rules.specs.SweepStops.{GeneratePromise, SweepsOver, has_swept_out, sweep_saves}
use Rattle.sweep_rules.specs.SweepWork.{sweep_begins, sweep_opening}
use Rattle.sweep_rules.proofs.EndLemmas.{tailed, opening_is}
use Rattle.sweep_rules.proofs.SweepLemmas.{piece_within}
use Rattle.option_words.specs.Words.{command_line}
use Rattle.ddrescue_words.specs.Command.{Generate}
use Rattle.ddrescue_words.specs.Asking.{HasMapfile}
use Rattle.ddrescue_words.proofs.CommandLemmas.{reading_asks}
use Rattle.program_promise.proofs.FrontLemmas.{load_reads}
use Rattle.task_files.specs.Maps.{Found, found_in}
use Rattle.task_files.specs.Names.{program_name}
use Rattle.task_files.specs.Findings.{Findings}
use Rattle.task_sweeps.specs.Modes.{Generates, GenerateStops}
use Rattle.ddrescue_cli.specs.Tasks.{with_did}
use Rattle.ddrescue_cli.specs.Told.{calls_before}
use Rattle.ddrescue_cli.specs.ToldParts.{files_of, asked_of}
use Rattle.ddrescue_cli.specs.Ddrescue.{TaskDone}
use Rattle.ddrescue_cli.proofs.AskedLemmas.{sensible_in}
use Rattle.ddrescue_cli.proofs.EarlyCut.{EarlyCut, early_cut}
use Rattle.ddrescue_cli.proofs.SweepGoes.{Unbegun, Begun}
use Rattle.ddrescue_cli.proofs.SweepWay.{SweepWay, InMaps, AfterMaps, generate_way}
use Rattle.ddrescue_laws.specs.ModeLaws.{promised_generate}
use Rattle.rescue_safety.specs.Saves.{CallsFinished}
use Rattle.rescue_safety.specs.Safe.{Target}
use Rattle.rescue_safety.specs.Owed.{last_given, HoldsLast}
use Rattle.rescue_safety.specs.OwedFiles.{IsOwedIn, IsOwedAt}
use Rattle.rescue_safety.specs.Runs.{NextBegins}
use Rattle.rescue_safety.specs.MixedRuns.{MixedLink, after_barrier, looked_at, IsGenerating}
use Rattle.rescue_safety.proofs.Texts.{IsStill}
use Rattle.rescue_safety.proofs.SaveLemmas.{reads_still, opening_still}
use Rattle.rescue_safety.proofs.QuietLemmas.{still_none}
use Rattle.rescue_safety.proofs.FinishedLemmas.{StandsAt, At, stands_at, StandsFinished, stands_finished, calls_finished, finished_has}
use Rattle.rescue_safety.proofs.ClaimLemmas.{some_or_none}
use Rattle.rescue_safety.proofs.LastGiven.{last_after}
use Rattle.rescue_safety.proofs.LookedLemmas.{pieces_given, StartFrom, given_placed, Gives, never_given}
use Rattle.rescue_safety.proofs.SeenLemmas.{Begins, calls_of_pieces, seen_in, part_looks, first_pieces, save_seen, none_saved}
use Rattle.rescue_safety.proofs.SweepLooks.{looks_in, look_pairs, looked_by, IsBlind, cut_looks, blind_before, reads_blind, opening_blind, sweep_opening_blind, piece_look, sweep_looks, looked_pieces}
use Rattle.rescue_safety.proofs.OwedLemmas.{IsSame, same_back, same_at, owed_before, next_owed, reads_left}
use Rattle.rescue_safety.proofs.RescueLemmas.{whole_bytes}

-- ---- how far it came

abbrev Comes : Setting → (List ℕ → Option File) → List Entry → Type 0
Comes s files calls = ((n : ℕ) → published (take n calls) ≡ 0) ⊎ StandsAt (files s.names.map) s.end

quiet_comes : (s : Setting) (files : List ℕ → Option File) (cs : List Call) (calls : List Entry) → All IsStill cs
    → Cut cs calls → Comes s files calls
quiet_comes s files cs calls quiet cut = inl (λ n. still_none cs calls n quiet cut)

module _ (s : Setting) (files : List ℕ → Option File) (pieces : List Swept) (end : RunEnd) (on : s.has_mapfile ≡ true)
  where
    -- it published nothing, or its mapfile stood for a map
    pub way_comes : (g : Gain) → SweepWay ⊤ s (generator s) files pieces end g → Comes s files g.calls
    way_comes g (InMaps maps reads cut still) = quiet_comes s files maps g.calls (reads_still maps reads) cut
    way_comes g (AfterMaps maps h reads grew timed ready (Unbegun ends opens none)) =
        let e : EarlyCut s false h.calls = early_cut s false files h.calls on ends in
        let front : List Call = opening_by s false ++ e.load in
        quiet_comes s files (maps ++ front) g.calls
        (All-append IsStill maps front (reads_still maps reads)
        (All-append IsStill (opening_by s false) e.load (opening_still s false) (reads_still e.load e.reads)))
        (subst (λ (l : List Entry). Cut (maps ++ front) l) (sym grew) (cut_past maps front h.calls e.cut))
    way_comes g (AfterMaps maps h reads grew timed ready (Begun opens load statuses state rest loaded stands all sweeps is)) =
        inr (At statuses state stands)

    starts_of : (ok : IsSensible s) (m : Sweep) (es : List Swept) → IsSweep s (generator s) m es → StartFrom s.input_position es
    starts_of ok m [] run = All-nil (λ (e : Swept). s.input_position ≤ e.pos)
    starts_of ok m (e ∷ es) run =
        All-cons (λ (e : Swept). s.input_position ≤ e.pos) e es
        (ok.from e.pos (piece_within s (generator s) m e.pos (e.pos + e.len) run.0).some)
        (starts_of ok (after_piece (generator s) m e) es run.2)

    none_starts : pieces ≡ [] → StartFrom s.input_position pieces
    none_starts none = subst (StartFrom s.input_position) (sym none) (All-nil (λ (e : Swept). s.input_position ≤ e.pos))

    -- its pieces begin where positions are asked for
    pub way_starts : (g : Gain) → IsSensible s → (g.times ≡ [] → pieces ≡ [])
        → SweepWay ⊤ s (generator s) files pieces end g → StartFrom s.input_position pieces
    way_starts g ok silent (InMaps maps reads cut still) = none_starts (silent still)
    way_starts g ok silent (AfterMaps maps h reads grew timed ready (Unbegun ends opens none)) =
        none_starts (silent (sym timed ∙ none))
    way_starts g ok silent
        (AfterMaps maps h reads grew timed ready (Begun opens load statuses state rest loaded stands all sweeps is)) =
        subst (StartFrom s.input_position) is (starts_of ok _ sweeps.events sweeps.run)

    -- and where it read the output they are
    pub way_looks : (g : Gain) → (g.times ≡ [] → pieces ≡ []) → SweepWay ⊤ s (generator s) files pieces end g
        → looks_in g.calls ≡ map (piece_look s) pieces
    way_looks g silent (InMaps maps reads cut still) =
        cut_looks maps g.calls (reads_blind maps reads) cut ∙ sym (ap (map (piece_look s)) (silent still))
    way_looks g silent (AfterMaps maps h reads grew timed ready (Unbegun ends opens none)) =
        let e : EarlyCut s false h.calls = early_cut s false files h.calls on ends in
        ap looks_in grew
        ∙ blind_before maps h.calls (reads_blind maps reads)
        ∙ cut_looks (opening_by s false ++ e.load) h.calls
        (All-append IsBlind (opening_by s false) e.load (opening_blind s false) (reads_blind e.load e.reads)) e.cut
        ∙ sym (ap (map (piece_look s)) (silent (sym timed ∙ none)))
    way_looks g silent
        (AfterMaps maps h reads grew timed ready (Begun opens load statuses state rest loaded stands all sweeps is)) =
        let front : List Call = sweep_opening s false ++ load in
        let m : Sweep = sweep_begins (generator s) statuses state (record h { calls = rest }) in
        ap looks_in grew
        ∙ blind_before maps h.calls (reads_blind maps reads)
        ∙ ap looks_in all
        ∙ blind_before front rest
        (All-append IsBlind (sweep_opening s false) load (sweep_opening_blind s false)
        (reads_blind load (load_reads s.names.map (files s.names.map) load loaded.begins)))
        ∙ sweep_looks s m sweeps.events rest end sweeps.ends
        ∙ ap (map (piece_look s)) is

-- it published nothing, or it began over the map that its mapfile stood for
module _ (b : Before) (s : Setting) (pieces : List Swept) (end : RunEnd) (on : s.has_mapfile ≡ true) (began : List Status)
    (was : Option MapState) (stood : Stands (files_before b s.names.map) s.end began was) where
  pub way_begins : (g : Gain) → SweepWay ⊤ s (generator s) (files_before b) pieces end g
      → ((n : ℕ) → published (take n g.calls) ≡ 0) ⊎ Begins s began was g pieces end
  way_begins g (InMaps maps reads cut still) = inl (λ n. still_none maps g.calls n (reads_still maps reads) cut)
  way_begins g (AfterMaps maps h reads grew timed ready (Unbegun ends opens none)) =
      let e : EarlyCut s false h.calls = early_cut s false (files_before b) h.calls on ends in
      let front : List Call = opening_by s false ++ e.load in
      inl (λ n. still_none (maps ++ front) g.calls n
      (All-append IsStill maps front (reads_still maps reads)
      (All-append IsStill (opening_by s false) e.load (opening_still s false) (reads_still e.load e.reads)))
      (subst (λ (l : List Entry). Cut (maps ++ front) l) (sym grew) (cut_past maps front h.calls e.cut)))
  way_begins g
      (AfterMaps maps h reads grew timed ready (Begun opens load statuses state rest loaded stands all sweeps is)) =
      let w : Sweeper = generator s in
      let o : SweepsOver s w b statuses state h = record {
        load = load;
        loads = record { all = λ has. loaded; none = λ off. let e : true ≡ false = sym on ∙ off in absurd (cc) };
        stands = stands;
        rest = rest;
        calls = all;
        end = end;
        sweeps = sweeps;
      } in
      let t = tailed b s w h statuses state on o in
      let same = stands_for_one (files_before b s.names.map) s.end statuses began state was stands stood in
      let one : sweep_begins w statuses state h ≡ sweep_begins w began was g
      = ap (λ (ts : List ℕ). sweep_over w statuses state (began_at ts)) timed
      ∙ ap (λ (l : List Status). sweep_over w l state (began_at g.times)) same.0
      ∙ ap (λ (n : Option MapState). sweep_over w began n (began_at g.times)) same.1 in
      let Cuts : Sweep → List Swept → Type 0
      = λ m es. Cut (calls_of_pieces s (sweep_end (has_swept_out end) (after_pieces w m es)) t.tail m es) rest in
      let last_cut : Cuts (sweep_begins w began was g) pieces
      = subst (λ (es : List Swept). Cuts (sweep_begins w began was g) es) is
      (subst (λ (m : Sweep). Cuts m sweeps.events) one t.cut) in
      let more : List Call = calls_of_pieces s
      (sweep_end (has_swept_out end) (after_pieces w (sweep_begins w began was g) pieces)) t.tail
      (sweep_begins w began was g) pieces in
      let front : List Call = sweep_opening s false ++ load in
      let are_reads : AreMapReads load = load_reads s.names.map (files_before b s.names.map) load loaded.begins in
      inr (record {
        front = maps ++ front;
        still = All-append IsStill maps front (reads_still maps reads)
            (All-append IsStill (sweep_opening s false) load
            (subst (λ (l : List Call). All IsStill l) (sym (opening_is s false on)) (opening_still s false))
            (reads_still load are_reads));
        blind = All-append IsBlind maps front (reads_blind maps reads)
            (All-append IsBlind (sweep_opening s false) load (sweep_opening_blind s false) (reads_blind load are_reads));
        tail = t.tail;
        cut = subst (λ (l : List Call). Cut l g.calls) (sym (append_assoc maps front more))
            (subst (λ (l : List Entry). Cut (maps ++ (front ++ more)) l) (sym grew)
            (cut_past maps (front ++ more) h.calls
            (subst (λ (l : List Entry). Cut (front ++ more) l) (sym all) (cut_past front more rest last_cut))));
      })

-- ---- what is owed at each stop

abbrev pub own_target : Setting → Target
own_target s = record { outfile = s.outfile; mapfile = s.names.map; from = s.input_position; to = s.output_position }

module _ (b : Before) (s : Setting) (g : Gain) (pieces : List Swept) (end : RunEnd)
    (comes : Comes s (files_before b) g.calls) (starts : StartFrom s.input_position pieces)
    (given : AreGiven s (bytes_of (files_before b s.outfile)) pieces) (stops : GenerateStops b s pieces end g)
    (apart : s.outfile ≢ s.names.map) (own : s.names.draft ≡ draft_of s.names.map)
    (unlost : NothingLost (files_before b s.outfile) (lost_before b s.outfile))
    (begins : (began : List Status) (was : Option MapState) → Stands (files_before b s.names.map) s.end began was
    → ((n : ℕ) → published (take n g.calls) ≡ 0) ⊎ Begins s began was g pieces end) where
  abbrev u : Target
  u = own_target s

  abbrev old_bytes : List ℕ
  old_bytes = bytes_of (files_before b s.outfile)

  -- a stop
  abbrev stop_at : (k : ℕ) (files : List ℕ → Option File) → k ≤ length g.calls → LeftBy b g.calls k files
      → StopOf b g.calls
  stop_at k files le left = record { k = k; files = files; within = le; left = left }

  -- the mapfile that it began with stood for a map, if the one that is found does
  began_of : (k : ℕ) (files : List ℕ → Option File) (x : ℕ)
      → k ≤ length g.calls → LeftBy b g.calls k files → has_barrier (take k g.calls) ≡ true
      → CallsFinished (files s.names.map) x → StandsAt (files_before b s.names.map) s.end
  began_of k files x le left is fin =
      let f : StandsFinished (files s.names.map) s.end x = stands_finished (files s.names.map) s.end x fin in
      ⊎_elim
      (λ (none : (n : ℕ) → published (take n g.calls) ≡ 0).
      stands_at (files_before b s.names.map) s.end s.end f.map f.state
      (subst (λ (o : Option File). Stands o s.end f.map f.state)
      ((stops.past (stop_at k files le left) is).mapfile (none (k + 1))) f.stands))
      (λ (at : StandsAt (files_before b s.names.map) s.end). at)
      comes

  module _ (gave : List (ℕ × ℕ)) (old : ℕ → Bool) (image : List ℕ) (front : List Swept) (first : StartFrom s.input_position front)
      (got : AreGiven s old_bytes front) (stand : (y : ℕ) → y < length old_bytes → slice_get image y ≡ slice_get old_bytes y) where
    -- a position that some piece gave a byte
    given_now : (x byte : ℕ) → last_given (pieces_given front) x ≡ Some byte
        → HoldsLast u (last_given (gave ++ pieces_given front)) image x
    given_now x byte is =
        let p = given_placed s old_bytes front x byte first got is in
        record {
          byte = byte;
          given = last_after gave (pieces_given front) x ∙ ap (λ (o : Option ℕ). last_of_both o (last_given gave x)) is;
          place = place s x;
          at = omega (arith, p.0);
          holds = stand (place s x) (slice_get_within old_bytes (place s x) byte p.1) ∙ p.1;
        }

    -- and one that none did
    given_before : (x : ℕ) → last_given (pieces_given front) x ≡ None → HoldsLast u (last_given gave) old_bytes x
        → HoldsLast u (last_given (gave ++ pieces_given front)) image x
    given_before x none h = record {
      byte = h.byte;
      given = last_after gave (pieces_given front) x ∙ ap (λ (o : Option ℕ). last_of_both o (last_given gave x)) none
          ∙ h.given;
      place = h.place;
      at = h.at;
      holds = stand h.place (slice_get_within old_bytes h.place h.byte h.holds) ∙ h.holds;
    }

  module _ (gave : List (ℕ × ℕ)) (old : ℕ → Bool) (k : ℕ) (files : List ℕ → Option File)
      (le : k ≤ length g.calls) (left : LeftBy b g.calls k files) where
    abbrev image : List ℕ
    image = bytes_of (files s.outfile)

    -- the pieces that it had read by then
    abbrev front : List Swept
    front = take (seen_in (take (k + 1) g.calls)) pieces

    front_starts : StartFrom s.input_position front
    front_starts = first_pieces (λ (e : Swept). s.input_position ≤ e.pos) (seen_in (take (k + 1) g.calls)) pieces starts

    front_given : AreGiven s old_bytes front
    front_given =
        first_pieces (λ (e : Swept). e.got ≡ take e.len (drop (place s e.pos) old_bytes)) (seen_in (take (k + 1) g.calls)) pieces
        given

    was_began : (began : List Status) (was : Option MapState) (there : Stands (files_before b s.names.map) s.end began was)
        (kept : IsKeptBy (sweep_saves (generator s) began was g pieces end)
        (λ number map image. GeneratePromise s old_bytes began map image) b s g.calls began k files) (x : ℕ)
        → last_given (pieces_given front) x ≡ None → Has kept.statuses Finished x → Has began Finished x
    was_began began was there kept x none has =
        ⊎_elim
        (λ (quiet : (n : ℕ) → published (take n g.calls) ≡ 0).
        none_saved (files_before b s.names.map) (files s.names.map) began s.line
        (sweep_saves (generator s) began was g pieces end) kept.number kept.statuses x kept.is_save
        (omega (arith, kept.no_newer, quiet (k + 1))) has)
        (λ (bg : Begins s began was g pieces end).
        ⊎_elim (λ (h : Has began Finished x). h) (λ (given : Gives front x). absurd (never_given front x none given))
        (save_seen s began was g pieces end bg (files_before b s.names.map) (files s.names.map) s.line (k + 1) kept.number
        kept.statuses x kept.is_save kept.no_newer has))
        (begins began was there)

    -- once its barrier has returned
    owed_over : (x : ℕ) → IsOwedAt u gave old b → has_barrier (take k g.calls) ≡ true → CallsFinished (files s.names.map) x
        → StandsAt (files_before b s.names.map) s.end → (old x ≡ true) ⊎ HoldsLast u (last_given (gave ++ pieces_given front)) image x
    owed_over x owed is fin (At began was there) =
        let over = stops.past (stop_at k files le left) is in
        let kept : IsKeptBy (sweep_saves (generator s) began was g pieces end)
        (λ number map image. GeneratePromise s old_bytes began map image) b s g.calls began k files
        = subst (λ (bytes : List ℕ). IsKeptBy (sweep_saves (generator s) began was g pieces end)
        (λ number map image. GeneratePromise s bytes began map image) b s g.calls began k files)
        (whole_bytes (files_before b s.outfile) (lost_before b s.outfile) over.was unlost over.could.alike)
        (over.kept began was there) in
        let first : IsOwedIn u gave old (files_before b) = owed.each (files_before b) (reads_left b) in
        let has : Has kept.statuses Finished x
        = finished_has (files s.names.map) s.end x kept.statuses kept.shows kept.stands fin in
        ⊎_elim
        (λ (some : (byte : ℕ) × (last_given (pieces_given front) x ≡ Some byte)).
        inr (given_now gave old image front front_starts front_given kept.held.stands x some.0 some.1))
        (λ (none : last_given (pieces_given front) x ≡ None).
        ⊎_elim (λ (is : old x ≡ true). inl is)
        (λ (h : HoldsLast u (last_given gave) old_bytes x). inr (given_before gave old image front front_starts front_given kept.held.stands x none h))
        (first.each x (calls_finished (files_before b s.names.map) s.end x began was there
        (was_began began was there kept x none has))))
        (some_or_none (last_given (pieces_given front) x))

    owed_late : IsOwedAt u gave old b → has_barrier (take k g.calls) ≡ true → IsOwedIn u (gave ++ pieces_given front) old files
    owed_late owed is = record { each = λ x fin. owed_over x owed is fin (began_of k files x le left is fin) }

    pub owed_at_stop : IsOwedAt u gave old b → IsOwedIn u (gave ++ after_barrier (take k g.calls) (pieces_given front)) old files
    owed_at_stop owed =
        let some : Bool → List (ℕ × ℕ) = λ c. if c then pieces_given front else [] in
        ⊎_elim
        (λ (is : has_barrier (take k g.calls) ≡ true).
        subst (λ (c : Bool). IsOwedIn u (gave ++ some c) old files) (sym is) (owed_late owed is))
        (λ (off : has_barrier (take k g.calls) ≡ false).
        subst (λ (c : Bool). IsOwedIn u (gave ++ some c) old files) (sym off)
        (subst (λ (l : List (ℕ × ℕ)). IsOwedIn u l old files) (sym (append-nil gave))
        (owed_before u b gave old files apart owed
        (subst (λ (n : List ℕ). CouldBefore b s.outfile n files) own (stops.before (stop_at k files le left) off)))))
        (cases_Bool (has_barrier (take k g.calls)))

module _ (t : Target) (l : MixedLink) (apart : t.outfile ≢ t.mapfile) (q : IsGenerating t l) where
  abbrev p : TaskDone (Generate q.command) q.call.told
  p = promised_generate q.call.promised q.asks

  abbrev o : Findings
  o = with_did p.outside p.did

  abbrev s : Setting
  s = asked_of q.command q.call.told o

  abbrev g : Gain
  g = o.did.gain

  abbrev b : Before
  b = calls_before q.call.told

  has : HasMapfile q.command
  has =
      (reading_asks q.call.told.words q.asks.rows q.asks.items q.asks.operands (Generate q.command) q.asks.options
      q.asks.reading q.asks.is).limits

  abbrev line : List ℕ
  line = command_line program_name q.call.told.words

  on : s.has_mapfile ≡ true
  on = ap (λ (m : Option (List ℕ)). is_some (option_map names_of m)) q.step.mapfile

  same : IsSame (own_target s) t
  same = record {
    outfile = q.step.outfile;
    mapfile = ap (λ (m : Option (List ℕ)). (names_in (option_map names_of m)).map) q.step.mapfile;
    places = q.step.places;
  }

  ok : IsSensible s
  ok = sensible_in q.command line o.end o.maps has.limits

  found : o.found ≡ found_in q.command (files_of q.call.told)
  found = p.agrees.agrees.found q.call.site_tells

  way : SweepWay ⊤ s (generator s) (files_of q.call.told) p.outside.pieces p.outside.swept g
  way =
      generate_way (files_of q.call.told) line o.end o.maps p.outside.pieces p.outside.swept o.lines q.call.told.answer o.did q.command has.named
      (subst (λ (f : Found). Generates q.command f o.end s p.outside.pieces p.outside.swept o.lines q.call.told.answer o.did) found p.work)

  given : AreGiven s (bytes_of (files_of q.call.told s.outfile)) p.outside.pieces
  given = subst (λ (f : Found). AreGiven s (bytes_of f.output) p.outside.pieces) found (p.leaves.stops q.call.site_tells).0

  silent : g.times ≡ [] → p.outside.pieces ≡ []
  silent none = (p.leaves.silent none).1

  starts : StartFrom s.input_position p.outside.pieces
  starts = way_starts s (files_of q.call.told) p.outside.pieces p.outside.swept on g ok silent way

  calls_are : q.call.calls ≡ g.calls
  calls_are =
      append_cancel_left q.call.told.before.site.calls q.call.calls g.calls (sym q.call.made ∙ p.agrees.agrees.calls q.call.site_tells)

  within : q.step.moment ≤ length g.calls
  within = subst (λ (cs : List Entry). q.step.moment ≤ length cs) calls_are q.step.within

  next : NextBegins s.outfile b g.calls q.step.moment l.next
  next =
      subst (λ (n : List ℕ). NextBegins n b g.calls q.step.moment l.next) (sym q.step.outfile)
      (subst (λ (n : Before). NextBegins t.outfile n g.calls q.step.moment l.next) q.step.before
      (subst (λ (cs : List Entry). NextBegins t.outfile l.before cs q.step.moment l.next) calls_are q.step.next))

  own_draft : s.names.draft ≡ draft_of s.names.map
  own_draft =
      subst (λ (m : Option (List ℕ)).
      (names_in (option_map names_of m)).draft ≡ draft_of (names_in (option_map names_of m)).map)
      (sym q.step.mapfile) refl

  -- nothing of its output was lost
  unlost : NothingLost (files_before b s.outfile) (lost_before b s.outfile)
  unlost =
      subst (λ (n : List ℕ). NothingLost (files_before b n) (lost_before b n)) (sym q.step.outfile)
      (subst (λ (n : Before). NothingLost (files_before n t.outfile) (lost_before n t.outfile))
      q.step.before q.none_lost)

  -- what it gave is what its pieces got that it had read by then
  abbrev got_by_then : List Swept
  got_by_then = take (seen_in (take (q.step.moment + 1) g.calls)) p.outside.pieces

  abbrev bytes : List ℕ
  bytes = bytes_of (files_before b s.outfile)

  pairs_are : looked_at t (bytes_of (files_before l.before t.outfile)) (take (q.step.moment + 1) q.call.calls)
      ≡ pieces_given got_by_then
  pairs_are =
      let n : ℕ = seen_in (take (q.step.moment + 1) g.calls) in
      let part : List Entry = take (q.step.moment + 1) q.call.calls in
      ap (λ (n : Before). looked_at t (bytes_of (files_before n t.outfile)) part) q.step.before
      ∙ ap (λ (n : List ℕ). looked_at t (bytes_of (files_before b n)) part) (sym q.step.outfile)
      ∙ looked_by t bytes part
      ∙ ap (λ (ls : List (ℕ × ℕ)). look_pairs t bytes ls)
      (ap (λ (cs : List Entry). looks_in (take (q.step.moment + 1) cs)) calls_are
      ∙ part_looks s g.calls (q.step.moment + 1) p.outside.pieces (way_looks s (files_of q.call.told) p.outside.pieces p.outside.swept on g silent way))
      ∙ looked_pieces t s bytes got_by_then q.step.places
      (first_pieces (λ (e : Swept). s.input_position ≤ e.pos) n p.outside.pieces starts)
      (first_pieces (λ (e : Swept). e.got ≡ take e.len (drop (place s e.pos) bytes)) n p.outside.pieces given)

  gave_is : l.gave ≡ after_barrier (take q.step.moment g.calls) (pieces_given got_by_then)
  gave_is =
      q.gave ∙ ap (after_barrier (take q.step.moment q.call.calls)) pairs_are
      ∙ ap (λ (cs : List Entry). after_barrier (take q.step.moment cs) (pieces_given got_by_then)) calls_are

  own_apart : s.outfile ≢ s.names.map
  own_apart = λ is. apart (sym same.outfile ∙ is ∙ same.mapfile)

  pub generating_owes : (gave : List (ℕ × ℕ)) (old : ℕ → Bool) → IsOwedAt t gave old l.before
      → IsOwedAt t (gave ++ l.gave) old l.next
  generating_owes gave old owed =
      let gives : List (ℕ × ℕ) = after_barrier (take q.step.moment g.calls) (pieces_given got_by_then) in
      let here : IsOwedAt (own_target s) gave old b
      = same_at t (own_target s) (same_back (own_target s) t same) gave old b
      (subst (λ (n : Before). IsOwedAt t gave old n) q.step.before owed) in
      subst (λ (gs : List (ℕ × ℕ)). IsOwedAt t (gave ++ gs) old l.next) (sym gave_is)
      (same_at (own_target s) t same (gave ++ gives) old l.next
      (next_owed (own_target s) (gave ++ gives) old b g.calls q.step.moment l.next
      (λ files left. owed_at_stop b s g p.outside.pieces p.outside.swept
      (way_comes s (files_of q.call.told) p.outside.pieces p.outside.swept on g way) starts given (p.leaves.stops q.call.site_tells).1 own_apart
      own_draft unlost
      (λ began was there. way_begins b s p.outside.pieces p.outside.swept on began was there g way)
      gave old q.step.moment files within left here) next))
