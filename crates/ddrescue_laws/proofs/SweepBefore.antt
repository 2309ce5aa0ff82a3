-- A filling or a generating with an answer before its sweep took no time.
use Rattle.std.proofs.Common.{◌≡◌, ℕ, ◌-◌, Bool, true, false, ◌||◌, if◌then◌else◌, List, [], ◌∷◌, ◌++◌, map, Option, Some, None, is_none, refl, sym, ap, subst, ◌∙◌, inl, inr}
use Rattle.block_list.specs.declared.types.TypeSet.{TypeSet}
use Rattle.mapfile_text.specs.Pieces.{pieces_of}
use Rattle.crash_site.specs.declared.site.SiteCall.{SiteCall}
use Rattle.crash_site.specs.Files.{File}
use Rattle.crash_site.specs.declared.site.SiteCall.TheVariants.{MapRead}
use Rattle.crash_site.specs.Calls.{Call, Entry, Done as Returned, Failed, image_open, image_read, image_write, image_sync, map_read, draft_begin, draft_append, draft_sync, draft_publish, map_settle, map_remove}
use Rattle.crash_site.specs.CallsMade.{BrokeAt, call_name}
use Rattle.mapfile_save.specs.MapNames.{MapNames}
use Rattle.mapfile_save.specs.Saving.{IsNameIn, publish_calls, save_calls}
use Rattle.rescue_rules.specs.declared.stop.Stop.TheVariants.{SourceLost as InputLost, Site, LimitMet as Limited, NoMemory as NoRoom}
use Rattle.rescue_rules.specs.declared.stop.RunEnd.{RunEnd}
use Rattle.rescue_rules.specs.Setting.{Setting}
use Rattle.rescue_rules.specs.Snapshots.{Snapshot, text_of}
use Rattle.rescue_rules.specs.RunCalls.{closing_calls}
use Rattle.rescue_rules.specs.Deeds.{save_of}
use Rattle.sweep_rules.specs.Sweep.{Sweeper, Sweep, Swept, filler, generator, after_pieces, due_save, sweep_end}
use Rattle.sweep_rules.specs.SweepWork.{SweepEnds, IsSaved, IsUnsaved, IsCut, IsBroken, lost_call, sweep_calls}
use Rattle.program_promise.specs.Work.{Deeds, Faults, WorkStep, Take, Look, Open, Make, Read, Works, with_calls, with_opens}
use Rattle.program_promise.proofs.GainLemmas.{broke_named}
use Rattle.ddrescue_words.specs.Options.{cluster_of}
use Rattle.ddrescue_words.specs.Command.{Command}
use Rattle.task_files.specs.declared.ending.Ending.{Ending}
use Rattle.task_files.specs.Maps.{Found}
use Rattle.task_files.specs.Work.{answer_of, rescue_faults, files_rows}
use Rattle.task_sweeps.specs.Pattern.{ThenPattern, IsLost, IsShort, IsRead, with_reads}
use Rattle.task_sweeps.specs.Modes.{Fills, Generates, MaySweep, ThenSweep, fill_rows, generate_rows}
use Rattle.ddrescue_laws.specs.InputRead.{IsOfOpening}
use Rattle.ddrescue_laws.specs.LeftAfter.{is_unsettled, has_unsettled}
use Rattle.ddrescue_laws.specs.ModeLaws.{IsBeforeSweep, RefusedFillLeaves, RefusedGenerateLeaves, promised_fill, promised_generate}
use Rattle.ddrescue_laws.proofs.SweepFaults.{name_alike}
use Rattle.ddrescue_laws.proofs.SweepLeaves.{fill_leaves, generate_leaves}

-- a call of the opening is none of a save's
in_publish : (call : SiteCall) (n : MapNames) → IsOfOpening call → IsNameIn call (draft_sync ∷ publish_calls n) → ⊥
in_publish call n of (inl is) = subst IsOfOpening is of
in_publish call n of (inr (inl is)) = subst IsOfOpening is of
in_publish call n of (inr (inr (inl is))) = subst IsOfOpening is of
in_publish call n of (inr (inr (inr none))) = none

in_appends : (call : SiteCall) (n : MapNames) (ps : List (List ℕ)) → IsOfOpening call
    → IsNameIn call (map draft_append ps ++ draft_sync ∷ publish_calls n) → ⊥
in_appends call n [] of h = in_publish call n of h
in_appends call n (p ∷ ps) of (inl is) = subst IsOfOpening is of
in_appends call n (p ∷ ps) of (inr h) = in_appends call n ps of h

in_save : (call : SiteCall) (n : MapNames) (text : List ℕ) → IsOfOpening call → IsNameIn call (save_calls n text) → ⊥
in_save call n text of (inl is) = subst IsOfOpening is of
in_save call n text of (inr (inl is)) = subst IsOfOpening is of
in_save call n text of (inr (inr h)) = in_appends call n (pieces_of text) of h

in_closing : (there : Bool) (call : SiteCall) (n : MapNames) (text : List ℕ) → IsOfOpening call
    → IsNameIn call (if there then save_calls n text else image_sync ∷ []) → ⊥
in_closing true call n text of h = in_save call n text of h
in_closing false call n text of (inl is) = subst IsOfOpening is of
in_closing false call n text of (inr none) = none

in_due : (s : Setting) (call : SiteCall) (due : Option Snapshot) → IsOfOpening call → IsNameIn call (save_of s due) → ⊥
in_due s call None of h = h
in_due s call (Some p) of h = in_save call s.names (text_of s.line p) of h

-- no sweep that began ends so
sweep_late : (s : Setting) (w : Sweeper) (m : Sweep) (es : List Swept) (calls : List Entry) (end : RunEnd) (e : Ending)
    → ((x : Swept) → IsOfOpening (call_name (w.call x)) → ⊥) → e ≡ answer_of end → IsBeforeSweep e
    → SweepEnds s w m es calls end → ⊥
sweep_late s w m es calls end e piece is b (IsSaved None by same all) = b.done (is ∙ ap answer_of same)
sweep_late s w m es calls end e piece is b (IsSaved (Some InputLost) by same all) = by
sweep_late s w m es calls end e piece is b (IsSaved (Some (Site at)) by same all) = by
sweep_late s w m es calls end e piece is b (IsSaved (Some (Limited limit)) by same all) = by
sweep_late s w m es calls end e piece is b (IsSaved (Some NoRoom) by same all) = b.room (is ∙ ap answer_of same)
sweep_late s w m es calls end e piece is b (IsUnsaved stop at by same broke) =
    let last : Snapshot = sweep_end (is_none stop) (after_pieces w m es) in
    in_closing s.has_mapfile at s.names (text_of s.line last) (b.call at stop (is ∙ ap answer_of same))
    (broke_named at (closing_calls s last) (map Returned (sweep_calls s w m es)) calls broke)
sweep_late s w m es calls end e piece is b (IsCut p q next same broke) =
    let x : Swept = record { pos = p; len = q - p; got = []; after = 0 } in
    piece x (subst IsOfOpening (name_alike (w.call x)) (b.call (call_name (lost_call w p q)) None (is ∙ ap answer_of same)))
sweep_late s w m es calls end e piece is b (IsBroken before last at split same broke) =
    let due : Option Snapshot = due_save w (after_pieces w m before) last in
    in_due s at due (b.call at None (is ∙ ap answer_of same))
    (broke_named at (save_of s due) (map Returned (sweep_calls s w m before ++ w.call last ∷ [])) calls broke)

then_late : (s : Setting) (w : Sweeper) (mapfile : Option File) (pieces : List Swept) (end : RunEnd)
    (lines : List (List ℕ)) (e : Ending) (d : Deeds) → ((x : Swept) → IsOfOpening (call_name (w.call x)) → ⊥)
    → IsBeforeSweep e → ThenSweep s w mapfile pieces end lines e d → ⊥
then_late s w mapfile pieces end lines e d piece b h = may_late h.sweeps
  where
    may_late : MaySweep s w h.statuses h.state pieces end lines e d.gain → ⊥
    may_late (inl unbegun) = b.room unbegun.0.answer
    may_late (inr swept) = sweep_late s w _ swept.sweeps.events d.gain.calls end e piece swept.answer b swept.sweeps.ends

-- rows take no time
rows_untimed : (f : Faults Ending) (rows : List (WorkStep Ending)) (run : Ending → Deeds → Type 0) (e : Ending)
    (d : Deeds) → ((x : Deeds) → x.gain.times ≡ d.gain.times → run e x → d.gain.times ≡ []) → Works f rows run e d
    → d.gain.times ≡ []
rows_untimed f [] run e d next w = next d refl w
rows_untimed f (Take ∷ more) run e d next (inl (is, idle)) = idle.gain.times
rows_untimed f (Take ∷ more) run e d next (inr w) = rows_untimed f more run e d next w
rows_untimed f (Look refuses ∷ more) run e d next (inl (refused, idle)) = idle.gain.times
rows_untimed f (Look refuses ∷ more) run e d next (inr (passes, w)) = rows_untimed f more run e d next w
rows_untimed f (Open name ∷ more) run e d next (inl (is, opens, none)) = none.times
rows_untimed f (Open name ∷ more) run e d next (inr (os, opens, w)) =
    rows_untimed f more run e (with_opens d os) next w
rows_untimed f (Make calls ∷ more) run e d next (inl (call, is, broke, only)) = only.times
rows_untimed f (Make calls ∷ more) run e d next (inr (rest, grew, w)) =
    rows_untimed f more run e (with_calls d rest) next w
rows_untimed f (Read None file ∷ more) run e d next (inl (is, idle)) = idle.gain.times
rows_untimed f (Read None file ∷ more) run e d next (inr (absent, w)) = rows_untimed f more run e d next w
rows_untimed f (Read (Some name) file ∷ more) run e d next (inl (load, is, begins, broke, only)) = only.times
rows_untimed f (Read (Some name) file ∷ more) run e d next (inr (inl (load, is, begins, all, only))) = only.times
rows_untimed f (Read (Some name) file ∷ more) run e d next (inr (inr (load, rest, loaded, grew, w))) =
    rows_untimed f more run e (with_calls d rest) next w

fill_untimed : (types : TypeSet) (c : Command) (found : Found) (input_end top : ℕ) (s : Setting) (buffer : List ℕ)
    (pieces : List Swept) (end : RunEnd) (lines : List (List ℕ)) (e : Ending) (d : Deeds) → IsBeforeSweep e
    → Fills types c found input_end top s buffer pieces end lines e d → d.gain.times ≡ []
fill_untimed types c found input_end top s buffer pieces end lines e d b w =
    rows_untimed rescue_faults (fill_rows c found input_end) _ e d (λ x same read. sym same ∙ pattern_untimed x read) w
  where
    late : (x : Deeds) → ThenSweep s (filler s types buffer) found.mapfile pieces end lines e x → ⊥
    late x h = then_late s (filler s types buffer) found.mapfile pieces end lines e x (λ y of. of) b h

    pattern_untimed : (x : Deeds)
        → ThenPattern (cluster_of c.options) input_end buffer
        (Works rescue_faults (files_rows true c found top)
        (ThenSweep s (filler s types buffer) found.mapfile pieces end lines)) e x → x.gain.times ≡ []
    pattern_untimed x (IsLost lost idle) = idle.gain.times
    pattern_untimed x (IsShort r read less unread one) = one.rest.gain.times
    pattern_untimed x (IsRead r more read all repeated reads next) =
        rows_untimed rescue_faults (files_rows true c found top) _ e (with_reads x more)
        (λ y same h. absurd (late y h)) next

generate_untimed : (c : Command) (found : Found) (input_end : ℕ) (s : Setting) (pieces : List Swept) (end : RunEnd)
    (lines : List (List ℕ)) (e : Ending) (d : Deeds) → IsBeforeSweep e
    → Generates c found input_end s pieces end lines e d → d.gain.times ≡ []
generate_untimed c found input_end s pieces end lines e d b w =
    rows_untimed rescue_faults (generate_rows c found input_end) _ e d
    (λ y same h. absurd (then_late s (generator s) found.mapfile pieces end lines e y (λ x of. of) b h)) w

-- ---- and no settle failed

settled_both : (xs ys : List Entry) → has_unsettled xs ≡ false → has_unsettled ys ≡ false
    → has_unsettled (xs ++ ys) ≡ false
settled_both [] ys a b = b
settled_both (x ∷ xs) ys a b = first_off (is_unsettled x) (has_unsettled xs) (has_unsettled (xs ++ ys)) a
    (λ rest. settled_both xs ys rest b)
  where
    first_off : (p q r : Bool) → (p || q) ≡ false → (q ≡ false → r ≡ false) → (p || r) ≡ false
    first_off true q r off next = absurd (cc)
    first_off false q r off next = next off

-- calls that returned
settled_all : (calls : List Call) → has_unsettled (map Returned calls) ≡ false
settled_all [] = refl
settled_all (c ∷ calls) = settled_all calls

-- a call of the opening that failed is no settle
settled_lost : (at : SiteCall) (c : Call) (steps : ℕ) → IsOfOpening at → at ≡ call_name c
    → has_unsettled (Failed c steps ∷ []) ≡ false
settled_lost at (map_settle name) steps of is = absurd (subst IsOfOpening is of)
settled_lost at _ steps of is = refl

settled_broke : (at : SiteCall) (calls : List Call) (old new : List Entry) → IsOfOpening at → BrokeAt at calls old new
    → has_unsettled old ≡ false → has_unsettled new ≡ false
settled_broke at [] old new of broke none = absurd broke
settled_broke at (c ∷ calls) old new of (inl (named, inl grew)) none =
    ap has_unsettled grew.1 ∙ settled_both old (Failed c grew.0 ∷ []) none (settled_lost at c grew.0 of named)
settled_broke at (c ∷ calls) old new of (inl (named, inr same)) none = ap has_unsettled same ∙ none
settled_broke at (c ∷ calls) old new of (inr later) none =
    settled_broke at calls (old ++ Returned c ∷ []) new of later (settled_both old (Returned c ∷ []) none refl)

rows_settled : (rows : List (WorkStep Ending)) (run : Ending → Deeds → Type 0) (e : Ending) (d : Deeds)
    → IsBeforeSweep e → ((x : Deeds) → run e x → has_unsettled x.gain.calls ≡ false) → Works rescue_faults rows run e d
    → has_unsettled d.gain.calls ≡ false
rows_settled [] run e d b next w = next d w
rows_settled (Take ∷ more) run e d b next (inl (is, idle)) = ap has_unsettled idle.gain.calls
rows_settled (Take ∷ more) run e d b next (inr w) = rows_settled more run e d b next w
rows_settled (Look refuses ∷ more) run e d b next (inl (refused, idle)) = ap has_unsettled idle.gain.calls
rows_settled (Look refuses ∷ more) run e d b next (inr (passes, w)) = rows_settled more run e d b next w
rows_settled (Open name ∷ more) run e d b next (inl (is, opens, none)) = ap has_unsettled none.calls
rows_settled (Open name ∷ more) run e d b next (inr (os, opens, w)) = rows_settled more run e (with_opens d os) b next w
rows_settled (Make calls ∷ more) run e d b next (inl (call, is, broke, only)) =
    settled_broke call calls [] d.gain.calls (b.call call None is) broke refl
rows_settled (Make calls ∷ more) run e d b next (inr (rest, grew, w)) =
    ap has_unsettled grew
    ∙ settled_both (map Returned calls) rest (settled_all calls) (rows_settled more run e (with_calls d rest) b next w)
rows_settled (Read None file ∷ more) run e d b next (inl (is, idle)) = ap has_unsettled idle.gain.calls
rows_settled (Read None file ∷ more) run e d b next (inr (absent, w)) = rows_settled more run e d b next w
rows_settled (Read (Some name) file ∷ more) run e d b next (inl (load, is, begins, broke, only)) =
    settled_broke MapRead load [] d.gain.calls tt broke refl
rows_settled (Read (Some name) file ∷ more) run e d b next (inr (inl (load, is, begins, all, only))) =
    ap has_unsettled all ∙ settled_all load
rows_settled (Read (Some name) file ∷ more) run e d b next (inr (inr (load, rest, loaded, grew, w))) =
    ap has_unsettled grew
    ∙ settled_both (map Returned load) rest (settled_all load) (rows_settled more run e (with_calls d rest) b next w)

fill_settled : (types : TypeSet) (c : Command) (found : Found) (input_end top : ℕ) (s : Setting) (buffer : List ℕ)
    (pieces : List Swept) (end : RunEnd) (lines : List (List ℕ)) (e : Ending) (d : Deeds) → IsBeforeSweep e
    → Fills types c found input_end top s buffer pieces end lines e d → has_unsettled d.gain.calls ≡ false
fill_settled types c found input_end top s buffer pieces end lines e d b w =
    rows_settled (fill_rows c found input_end) _ e d b pattern_settled w
  where
    late : (x : Deeds) → ThenSweep s (filler s types buffer) found.mapfile pieces end lines e x → ⊥
    late x h = then_late s (filler s types buffer) found.mapfile pieces end lines e x (λ y of. of) b h

    pattern_settled : (x : Deeds)
        → ThenPattern (cluster_of c.options) input_end buffer
        (Works rescue_faults (files_rows true c found top)
        (ThenSweep s (filler s types buffer) found.mapfile pieces end lines)) e x → has_unsettled x.gain.calls ≡ false
    pattern_settled x (IsLost lost idle) = ap has_unsettled idle.gain.calls
    pattern_settled x (IsShort r read less unread one) = ap has_unsettled one.rest.gain.calls
    pattern_settled x (IsRead r more read all repeated reads next) =
        rows_settled (files_rows true c found top) _ e (with_reads x more) b (λ y h. absurd (late y h)) next

generate_settled : (c : Command) (found : Found) (input_end : ℕ) (s : Setting) (pieces : List Swept) (end : RunEnd)
    (lines : List (List ℕ)) (e : Ending) (d : Deeds) → IsBeforeSweep e
    → Generates c found input_end s pieces end lines e d → has_unsettled d.gain.calls ≡ false
generate_settled c found input_end s pieces end lines e d b w =
    rows_settled (generate_rows c found input_end) _ e d b
    (λ y h. absurd (then_late s (generator s) found.mapfile pieces end lines e y (λ x of. of) b h)) w

pub refused_fill_leaves : RefusedFillLeaves
refused_fill_leaves t types c d asks tells b =
    let p = promised_fill d asks in
    let settled : has_unsettled p.did.gain.calls ≡ false =
    fill_settled types c p.outside.found p.outside.end p.outside.top _ p.outside.buffer p.outside.pieces p.outside.swept
    p.outside.lines
    t.answer p.did b p.work in
    elim (fill_leaves t types c d asks tells
    (fill_untimed types c p.outside.found p.outside.end p.outside.top _ p.outside.buffer p.outside.pieces p.outside.swept p.outside.lines t.answer
    p.did b p.work)) [
      | inl left ↦ left
      | inr made ↦ absurd (let no : true ≡ false = sym made.0 ∙ settled in cc)
    ]

pub refused_generate_leaves : RefusedGenerateLeaves
refused_generate_leaves t c d asks tells b =
    let p = promised_generate d asks in
    let settled : has_unsettled p.did.gain.calls ≡ false =
    generate_settled c p.outside.found p.outside.end _ p.outside.pieces p.outside.swept p.outside.lines t.answer
    p.did b p.work in
    elim (generate_leaves t c d asks tells
    (generate_untimed c p.outside.found p.outside.end _ p.outside.pieces p.outside.swept p.outside.lines t.answer
    p.did b p.work)) [
      | inl left ↦ left
      | inr made ↦ absurd (let no : true ≡ false = sym made.0 ∙ settled in cc)
    ]
