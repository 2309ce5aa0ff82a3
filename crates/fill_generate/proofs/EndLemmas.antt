-- The end of a sweep.
use Rattle.std.specs.Prelude.{⊤}
use Rattle.std.proofs.Common.{map, ◌≡◌, ℕ, Bool, List, [], ◌∷◌, ◌++◌, All, Option, Some, None, is_none, Result, Ok, Err, refl, sym, ap, subst, ◌∙◌, append_assoc, inl, inr}
use Rattle.std.specs.Result.{result_err}
use Rattle.block_list.specs.declared.types.TypeSet.{TypeSet}
use Rattle.crash_site.specs.declared.site.SiteCall.{SiteCall}
use Rattle.crash_site.specs.Calls.{Call, Entry, Done, Failed}
use Rattle.crash_site.specs.CallsMade.{BrokeAt, call_name}
use Rattle.crash_site.specs.SiteState.{SiteState}
use Rattle.crash_site.specs.SiteChanges.{Makes}
use Rattle.rescue_console.specs.ClockState.{ClockState}
use Rattle.rescue_console.specs.ConsoleState.{ConsoleState}
use Rattle.rescue_console.specs.Speaking.{SpeaksOn, out_pieces}
use Rattle.rescue_rules.specs.declared.stop.Stop.{Stop}
use Rattle.rescue_rules.specs.declared.stop.Stop.TheVariants.{Site, NoMemory}
use Rattle.rescue_rules.specs.declared.stop.RunEnd.{RunEnd}
use Rattle.rescue_rules.specs.declared.stop.RunEnd.TheVariants.{Stopped}
use Rattle.rescue_rules.specs.Setting.{Setting}
use Rattle.rescue_rules.specs.RunCalls.{closing_calls}
use Rattle.rescue_rules.specs.Lines.{report_text, last_front, is_done}
use Rattle.rescue_rules.specs.Deeds.{save_of, doing_calls}
use Rattle.sweep_rules.specs.Sweep.{filler, generator, Sweeper, Sweep, Swept, IsSweptOut, after_pieces, due_save, sweep_end, deeds_of}
use Rattle.sweep_rules.specs.SweepWork.{SweepEndsBy, IsSaved, IsUnsaved, IsCut as WorkIsCut, IsBroken as WorkIsBroken, sweep_report, sweep_calls, pieces_lines, lost_call}
use Rattle.rescue_core.specs.Closing.{LastCalls, Saved as LastSaved, Unsaved as LastFailed}
use Rattle.rescue_core.proofs.ObjectLemmas.{makes_more, says_more}
use Rattle.rescue_rules.specs.Across.{Across}
use Rattle.fill_generate.specs.Sweeping.{around, BreaksAfter, EndsSweep, Saved, Unsaved, Cut, Broken, SweepTold, LookupTold, EndsAreTold, SweepStopsAt, IsStarved, IsCut, IsBroken}
use Rattle.fill_generate.specs.SweepState.{SweepState, setting_of}
use Rattle.fill_generate.specs.Steps.{SweepWent, WentOn, WentUpTo, ClosesFiles, PiecesEnd, IsLookedUp}
use Rattle.fill_generate.proofs.TellLemmas.{breaks_after}
use Rattle.fill_generate.proofs.ImageLemmas.{all_given}

-- what broke off after a record broke off without it
record After (at : SiteCall) (calls : List Call) (front back new : List Entry) : Type 0 where
  rest : List Entry
  is : new ≡ front ++ rest
  broke : BrokeAt at calls back rest

after : (at : SiteCall) (calls : List Call) (front back new : List Entry) → BrokeAt at calls (front ++ back) new
    → After at calls front back new
after at [] front back new broke = absurd broke
after at (call ∷ calls) front back new (inl (named, inl listed)) = record {
  rest = back ++ Failed call listed.0 ∷ [];
  is = listed.1 ∙ append_assoc front back (Failed call listed.0 ∷ []);
  broke = inl (named, inl (listed.0, refl));
}
after at (call ∷ calls) front back new (inl (named, inr unlisted)) = record {
  rest = back;
  is = unlisted;
  broke = inl (named, inr refl);
}
after at (call ∷ calls) front back new (inr later) =
    let b : After at calls front (back ++ Done call ∷ []) new =
    after at calls front (back ++ Done call ∷ []) new
    (subst (λ (es : List Entry). BrokeAt at calls es new) (append_assoc front back (Done call ∷ [])) later) in
    record { rest = b.rest; is = b.is; broke = inr b.broke }

pub ends_are_told : EndsAreTold
ends_are_told s w m es end site site' (Saved stop by is makes) tells =
    let calls : List Call = doing_calls s (deeds_of w m es) (sweep_end (is_none stop) (after_pieces w m es)) in
    (map Done calls, makes.made tells, IsSaved stop by is refl)
ends_are_told s w m es end site site' (Unsaved stop call by is breaks) tells =
    let calls : List Call = closing_calls s (sweep_end (is_none stop) (after_pieces w m es)) in
    let b : After call calls site.calls (map Done (sweep_calls s w m es)) site'.calls =
    after call calls site.calls (map Done (sweep_calls s w m es)) site'.calls (breaks.broke tells) in
    (b.rest, b.is, IsUnsaved stop call by is b.broke)
ends_are_told s w m es end site site' (Cut p q piece is breaks) tells =
    let at : SiteCall = call_name (lost_call w p q) in
    let b : After at (lost_call w p q ∷ []) site.calls (map Done (sweep_calls s w m es)) site'.calls =
    after at (lost_call w p q ∷ []) site.calls (map Done (sweep_calls s w m es)) site'.calls (breaks.broke tells) in
    (b.rest, b.is, WorkIsCut p q piece is b.broke)
ends_are_told s w m es end site site' (Broken before last call split is breaks) tells =
    let calls : List Call = save_of s (due_save w (after_pieces w m before) last) in
    let made : List Call = sweep_calls s w m before ++ w.call last ∷ [] in
    let b : After call calls site.calls (map Done made) site'.calls =
    after call calls site.calls (map Done made) site'.calls (breaks.broke tells) in
    (b.rest, b.is, WorkIsBroken before last call split is b.broke)

-- a sweep's last calls
abbrev SavesLast : Setting → Sweep → Option Stop → RunEnd → (site site' : SiteState) → Type 0
SavesLast s m stop end site site' = LastCalls (closing_calls s (sweep_end (is_none stop) m)) stop end site site'

-- the last calls of pieces that were left by no call that failed
ends_last : (s : Setting) (w : Sweeper) (m : Sweep) (es : List Swept) (stop : Option Stop) (end : RunEnd) (d e f : SiteState)
    → e.tells ≡ d.tells → Makes (sweep_calls s w m es) d e → SweepEndsBy stop s w (after_pieces w m es)
    → SavesLast s (after_pieces w m es) stop end e f → EndsSweep s w m es end d f
ends_last s w m es stop end d e f tells made by (LastSaved is makes draft) =
    Saved stop by is (makes_more (sweep_calls s w m es) (closing_calls s (sweep_end (is_none stop) (after_pieces w m es))) d e f tells
    made makes)
ends_last s w m es stop end d e f tells made by (LastFailed call is named breaks draft) =
    Unsaved stop call by is (breaks_after call (sweep_calls s w m es)
    (closing_calls s (sweep_end (is_none stop) (after_pieces w m es))) d e f tells made named breaks)

-- A sweep as the objects tell it, and what holds of its pieces besides.
pub record ToldWith (G : Swept → Type 0) (s : Setting) (w : Sweeper) (m : Sweep) (h h' : Bool) (end : RunEnd) (o : Across)
    : Type 0 where
  pub told : SweepTold s w m h h' end o
  pub given : All G told.events

-- what is said last
abbrev pub last_of : Setting → Sweep → RunEnd → List (List ℕ)
last_of s m end = report_text (last_front (is_done end)) (sweep_report s m) ∷ []

told_by : (G : Swept → Type 0) (s : Setting) (w : Sweeper) (m m1 : Sweep) (h h1 h2 : Bool) (end : RunEnd) (es : List Swept)
    (d e f : SiteState) (k l : ClockState) (x y z : ConsoleState) → SweepWent G s w m m1 h h1 es (around d e k l x y)
    → EndsSweep s w m es end d f → SpeaksOn (out_pieces (last_of s m1 end)) h1 h2 y z
    → ToldWith G s w m h h2 end (around d f k l x z)
told_by G s w m m1 h h1 h2 end es d e f k l x y z g ends says = record {
  told = record {
    events = es;
    run = g.run;
    timed = g.timed;
    fit = g.fit;
    ends = ends;
    says = says_more (pieces_lines s w m es) (last_of s (after_pieces w m es) end) h h1 h2 x y z g.says
        (subst (λ (q : Sweep). SpeaksOn (out_pieces (last_of s q end)) h1 h2 y z) g.state says);
  };
  given = g.given;
}

-- no piece was left
pub told_whole : (G : Swept → Type 0) (s : Setting) (w : Sweeper) (m m1 : Sweep) (h h1 h2 : Bool) (end : RunEnd)
    (d e f : SiteState) (k l : ClockState) (x y z : ConsoleState) → e.tells ≡ d.tells
    → WentOn G s w m m1 h h1 (around d e k l x y) → IsSweptOut s w m1 → ClosesFiles s m1 None end e f
    → SpeaksOn (out_pieces (last_of s m1 end)) h1 h2 y z → ToldWith G s w m h h2 end (around d f k l x z)
told_whole G s w m m1 h h1 h2 end d e f k l x y z tells g out closes says =
    told_by G s w m m1 h h1 h2 end g.events d e f k l x y z g.went
    (ends_last s w m g.events None end d e f tells g.made (subst (λ (q : Sweep). IsSweptOut s w q) g.went.state out)
    (subst (λ (q : Sweep). SavesLast s q None end e f) g.went.state closes)) says

ends_stopped : (s : Setting) (w : Sweeper) (m m1 : Sweep) (es : List Swept) (stop : Stop) (end : RunEnd) (d e f : SiteState)
    → e.tells ≡ d.tells → m1 ≡ after_pieces w m es → SweepStopsAt s w m es stop d e → ClosesFiles s m1 (Some stop) end e f
    → EndsSweep s w m es end d f
ends_stopped s w m m1 es stop end d e f tells state (IsStarved is starves p q piece made) closes =
    ends_last s w m es (Some NoMemory) end d e f tells made (starves, (p, q, piece))
    (subst (λ (v : Sweep). SavesLast s v (Some NoMemory) end e f) state
    (subst (λ (t : Stop). ClosesFiles s m1 (Some t) end e f) is closes))
ends_stopped s w m m1 es stop end d e f tells state (IsCut p q piece is broke) closes =
    let at : SiteCall = call_name (lost_call w p q) in
    let left : (end ≡ Stopped (Site at)) × (f ≡ e) = subst (λ (t : Stop). ClosesFiles s m1 (Some t) end e f) is closes in
    Cut p q piece left.0
    (subst (λ (c : SiteState). BreaksAfter at (sweep_calls s w m es) (lost_call w p q ∷ []) d c) (sym left.1) broke)
ends_stopped s w m m1 es stop end d e f tells state (IsBroken before last call split is broke) closes =
    let left : (end ≡ Stopped (Site call)) × (f ≡ e) = subst (λ (t : Stop). ClosesFiles s m1 (Some t) end e f) is closes in
    Broken before last call split left.0
    (subst (λ (c : SiteState). BreaksAfter call (sweep_calls s w m before ++ w.call last ∷ [])
    (save_of s (due_save w (after_pieces w m before) last)) d c) (sym left.1) broke)

-- it stopped
pub told_stopped : (G : Swept → Type 0) (s : Setting) (w : Sweeper) (m m1 : Sweep) (h h1 h2 : Bool) (stop : Stop) (end : RunEnd)
    (d e f : SiteState) (k l : ClockState) (x y z : ConsoleState) → e.tells ≡ d.tells
    → WentUpTo G s w m m1 h h1 stop (around d e k l x y) → ClosesFiles s m1 (Some stop) end e f
    → SpeaksOn (out_pieces (last_of s m1 end)) h1 h2 y z → ToldWith G s w m h h2 end (around d f k l x z)
told_stopped G s w m m1 h h1 h2 stop end d e f k l x y z tells g closes says =
    told_by G s w m m1 h h1 h2 end g.events d e f k l x y z g.went
    (ends_stopped s w m m1 g.events stop end d e f tells g.went.state g.stops closes) says

-- A sweep from its beginning to its end: no piece was left, or it stopped.
run_ended : {T : Type 0} (G : Swept → Type 0) (result : Result T Stop) (w : Sweeper) (r r1 : SweepState) (h2 : Bool)
    (end : RunEnd) (d e f : SiteState) (k l : ClockState) (x y z : ConsoleState)
    → PiecesEnd G result w r r1 (around d e k l x y)
    → ClosesFiles (setting_of r1) r1.sweep (result_err result) end e f
    → SpeaksOn (out_pieces (last_of (setting_of r1) r1.sweep end)) r1.heard h2 y z
    → ToldWith G (setting_of r) w r.sweep r.heard h2 end (around d f k l x z)
run_ended G (Ok v) w r r1 h2 end d e f k l x y z p closes says =
    let same : setting_of r1 ≡ setting_of r = ap setting_of p.stands in
    told_whole G (setting_of r) w r.sweep r1.sweep r.heard r1.heard h2 end d e f k l x y z p.objects.site.tells p.went p.out
    (subst (λ (s : Setting). ClosesFiles s r1.sweep None end e f) same closes)
    (subst (λ (s : Setting). SpeaksOn (out_pieces (last_of s r1.sweep end)) r1.heard h2 y z) same says)
run_ended G (Err stop) w r r1 h2 end d e f k l x y z p closes says =
    let same : setting_of r1 ≡ setting_of r = ap setting_of p.stands in
    told_stopped G (setting_of r) w r.sweep r1.sweep r.heard r1.heard h2 stop end d e f k l x y z p.objects.site.tells p.halted
    (subst (λ (s : Setting). ClosesFiles s r1.sweep (Some stop) end e f) same closes)
    (subst (λ (s : Setting). SpeaksOn (out_pieces (last_of s r1.sweep end)) r1.heard h2 y z) same says)

-- what was looked up is what the output held
pub looked_so : (s : Setting) (w : Sweeper) (m : Sweep) (h h' : Bool) (end : RunEnd) (o : Across)
    → ToldWith (IsLookedUp s o.site) s w m h h' end o → LookupTold s w m h h' end o
looked_so s w m h h' end o t =
    record { sweeps = t.told; given = λ tells apart. all_given s o.site t.told.events t.given tells apart }

-- the same of the two modes, by the state that they begin with
pub fill_ended : {T : Type 0} (types : TypeSet) (buffer : List ℕ) (result : Result T Stop) (stop : Option Stop)
    (q r r1 : SweepState) (h2 : Bool) (end : RunEnd) (d e f : SiteState) (k l : ClockState) (x y z : ConsoleState)
    → stop ≡ result_err result → r ≡ q
    → PiecesEnd (λ e. ⊤) result (filler (setting_of r) types buffer) r r1 (around d e k l x y)
    → ClosesFiles (setting_of r1) r1.sweep stop end e f
    → SpeaksOn (out_pieces (last_of (setting_of r1) r1.sweep end)) r1.heard h2 y z
    → SweepTold (setting_of q) (filler (setting_of q) types buffer) q.sweep q.heard h2 end (around d f k l x z)
fill_ended types buffer result stop q r r1 h2 end d e f k l x y z is same p closes says =
    (subst (λ (t : SweepState). ToldWith (λ e. ⊤) (setting_of t) (filler (setting_of t) types buffer) t.sweep t.heard h2 end
    (around d f k l x z)) same
    (run_ended (λ e. ⊤) result (filler (setting_of r) types buffer) r r1 h2 end d e f k l x y z p
    (subst (λ (s : Option Stop). ClosesFiles (setting_of r1) r1.sweep s end e f) is closes) says)).told

pub looked_ended : {T : Type 0} (result : Result T Stop) (stop : Option Stop) (q r r1 : SweepState) (h2 : Bool) (end : RunEnd)
    (d e f : SiteState) (k l : ClockState) (x y z : ConsoleState) → stop ≡ result_err result → r ≡ q
    → PiecesEnd (IsLookedUp (setting_of r) d) result (generator (setting_of r)) r r1 (around d e k l x y)
    → ClosesFiles (setting_of r1) r1.sweep stop end e f
    → SpeaksOn (out_pieces (last_of (setting_of r1) r1.sweep end)) r1.heard h2 y z
    → LookupTold (setting_of q) (generator (setting_of q)) q.sweep q.heard h2 end (around d f k l x z)
looked_ended result stop q r r1 h2 end d e f k l x y z is same p closes says =
    looked_so (setting_of q) (generator (setting_of q)) q.sweep q.heard h2 end (around d f k l x z)
    (subst (λ (t : SweepState). ToldWith (IsLookedUp (setting_of t) d) (setting_of t) (generator (setting_of t)) t.sweep t.heard h2 end
    (around d f k l x z)) same
    (run_ended (IsLookedUp (setting_of r) d) result (generator (setting_of r)) r r1 h2 end d e f k l x y z p
    (subst (λ (s : Option Stop). ClosesFiles (setting_of r1) r1.sweep s end e f) is closes) says))
