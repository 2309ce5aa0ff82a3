-- After an event of its request a run is as between any turns.
use Rattle.std.proofs.Common.{◌≡◌, ◌⊎◌, ℕ, ◌+◌, ◌-◌, ◌*◌, ◌<◌, ◌≤◌, min, Bool, true, false, ◌||◌, not, nat_lt, if◌then◌else◌, ◌∷◌, [], length, refl, sym, ap, subst, ◌∙◌, arith, inl, inr, ⊎_elim}
use Rattle.std.specs.List.{slice_get}
use Rattle.std.proofs.lemmas.Bool.{cases_lt, cond_both, cond-true, and_from, and_parts, lt-ltb, not-false, true≢false}
use Rattle.std.proofs.lemmas.Option.{same_Some}
use Rattle.block_list.specs.declared.status.Status.TheVariants.{NonTrimmed, NonScraped, BadSector, Finished}
use Rattle.block_list.specs.Map.{Has}
use Rattle.faulty_source.specs.Ends.{is_before}
use Rattle.faulty_source.specs.Journal.{Reading, is_failed}
use Rattle.rescue_rules.specs.declared.phase.Phase.{Phase}
use Rattle.rescue_rules.specs.declared.phase.Phase.TheVariants.{Trimming}
use Rattle.rescue_rules.specs.declared.stop.TrimMode.{TrimMode}
use Rattle.rescue_rules.specs.declared.stop.TrimMode.TheVariants.{Lead, Tail}
use Rattle.rescue_rules.specs.Setting.{Setting}
use Rattle.rescue_rules.specs.Passes.{Pass, is_up, numbered}
use Rattle.rescue_rules.specs.Machine.{Machine, Search, pass_of, has_taken, is_live, is_wanted, IsWanted, search_in, search_of, IsNextRange, cut_start, IsRequest}
use Rattle.rescue_rules.specs.Step.{Event, copies, trims, is_copying, is_trimming, is_slow, reach, is_jump, mode_after, cursor_after, skip_after, rest_status, over_after, step}
use Rattle.rescue_rules.specs.MachineLaws.{StepsBy, AsksFor}
use Rattle.rescue_rules.proofs.OverLemmas.{live_was}
use Rattle.rescue_rules.proofs.StepLemmas.{move_steps}
use Rattle.rescue_rules.proofs.StatusLemmas.{rest_is}
use Rattle.rescue_core.specs.RunState.{RunState, setting_in, led_from, IsLed, IsRunning}
use Rattle.rescue_core.specs.Turning.{stepped}
use Rattle.rescue_core.proofs.RequestLemmas.{start_up}
use Rattle.rescue_core.proofs.ChangeLemmas.{Kept, Missed, CutOff, Between, Stands, changes, change_between}
use Rattle.rescue_core.proofs.TurnLemmas.{wanted_in}
use Rattle.rescue_core.proofs.StageLemmas.{running_sensible}

-- the cursor after an event lies within the map
cursor_within : (s : Setting) (m : Machine) (e : Event) → e.reading.pos + e.reading.asked ≤ length m.map
    → cursor_after s m e ≤ length m.map
cursor_within s m e there =
    let jump : ℕ = if is_jump s m e then m.progress.skip else 0 in
    let up : ℕ = min (length m.map) (reach e.reading + jump) in
    cond_both (is_trimming m) e.reading.pos (if is_up s (pass_of m) then up else e.reading.pos - jump)
    (λ (x : ℕ). x ≤ length m.map)
    (λ trims. omega arith)
    (λ other. cond_both (is_up s (pass_of m)) up (e.reading.pos - jump) (λ (x : ℕ). x ≤ length m.map)
    (λ upwards. omega arith) (λ down. omega arith))

-- and the next jump isn't longer than the longest
skip_within : (s : Setting) (m : Machine) (e : Event) → s.skips.first ≤ s.skips.most → m.progress.skip ≤ s.skips.most
    → skip_after s m e ≤ s.skips.most
skip_within s m e first now =
    cond_both (is_jump s m e) (min (2 * m.progress.skip) s.skips.most)
    (if is_failed e.reading || is_slow s e then m.progress.skip else s.skips.first) (λ (x : ℕ). x ≤ s.skips.most)
    (λ jumps. omega arith)
    (λ other. cond_both (is_failed e.reading || is_slow s e) m.progress.skip s.skips.first (λ (x : ℕ). x ≤ s.skips.most)
    (λ bad. now) (λ good. first))

-- how far trimming upwards comes by a read before a range, and by one at its back
lead_after : (good more : Bool) (p q x : ℕ) → x < led_from (mode_after Lead good more p q) p
    → (x < p) ⊎ ((good ≡ false) × (x < q))
lead_after true more p q x lt = inl lt
lead_after false more p q x lt =
    cond_both more (Tail q) Lead
    (λ (mode : TrimMode). x < led_from mode p → (x < p) ⊎ ((false ≡ false) × (x < q)))
    (λ on below. inr (refl, below)) (λ off below. inl below) lt

tail_after : (low : ℕ) (good more : Bool) (p q x : ℕ) → x < led_from (mode_after (Tail low) good more p q) p
    → (x < low) ⊎ ((good ≡ false) × (x < p))
tail_after low true more p q x lt =
    ⊎_elim
    (λ (before : low < p).
    inl (subst (λ (mode : TrimMode). x < led_from mode p) (cond-true (nat_lt low p) (Tail low) Lead (lt-ltb low p before)) lt))
    (λ (over : p ≤ low).
    cond_both (nat_lt low p) (Tail low) Lead
    (λ (mode : TrimMode). x < led_from mode p → (x < low) ⊎ ((true ≡ false) × (x < p)))
    (λ on below. inl below) (λ off below. inl (omega (arith, below, over))) lt)
    (cases_lt low p)
tail_after low false more p q x lt = inr (refl, lt)

-- what an event of trimming leaves to trim was so before, and it didn't ask for that
record IsUntrimmed (r : RunState) (e : Event) (x : ℕ) : Type 0 where
  was : Has r.machine.map NonTrimmed x
  apart : AsksFor e.reading x → ⊥

-- an event of trimming
record Trims (r : RunState) (room : ℕ) (e : Event) : Type 0 where
  running : IsRunning r room
  request : IsRequest (setting_in r) r.machine e.reading.pos (e.reading.pos + e.reading.asked)
  by : StepsBy (setting_in r) r.machine e
  phase : r.phase ≡ Trimming
  up : is_up (setting_in r) (numbered r.phase r.pass) ≡ true

phase_in : (r : RunState) (room : ℕ) (e : Event) → Trims r room e → (pass_of r.machine).phase ≡ Trimming
phase_in r room e t = ap (λ (p : Pass). p.phase) t.running.pass ∙ t.phase

untrimmed : (r : RunState) (room : ℕ) (e : Event) (x : ℕ) → Trims r room e
    → is_live (setting_in r) (step (setting_in r) r.machine e) x ≡ true
    → Has (step (setting_in r) r.machine e).map NonTrimmed x → IsUntrimmed r e x
untrimmed r room e x t live has =
    let s : Setting = setting_in r in
    let m : Machine = r.machine in
    elim (changes s m e x (running_sensible r room t.running) t.running.order t.request t.by) [
      | Kept asks is ↦ absurd (let no : Finished ≡ NonTrimmed = same_Some Finished NonTrimmed (sym is ∙ has) in cc)
      | Missed asks part size is ↦
          let found : rest_status s m size ≡ NonTrimmed = same_Some (rest_status s m size) NonTrimmed (sym is ∙ has) in
          ⊎_elim
          (λ (copied : (rest_status s m size ≡ NonTrimmed) × (is_copying m ≡ true)).
          absurd (true≢false (sym copied.1 ∙ ap copies (phase_in r room e t))))
          (λ (bad : rest_status s m size ≡ BadSector).
          absurd (let no : BadSector ≡ NonTrimmed = sym bad ∙ found in cc))
          (rest_is s m size)
      | CutOff asks beyond same ↦
          absurd (beyond (and_parts (s.domain x) (is_before (over_after m e.reading) x) live).1)
      | Between apart on was is ↦
          absurd (let no : NonScraped ≡ NonTrimmed = same_Some NonScraped NonTrimmed (sym is ∙ has) in cc)
      | Stands apart same ↦ record { was = sym same ∙ has; apart = apart }
    ]

-- a position that is left of the domain, and left to trim, is wanted
trims_wanted : (r : RunState) (room : ℕ) (e : Event) (x : ℕ) → Trims r room e
    → is_live (setting_in r) r.machine x ≡ true
    → Has r.machine.map NonTrimmed x → is_wanted (setting_in r) r.machine x ≡ true
trims_wanted r room e x t live has =
    let s : Setting = setting_in r in
    let m : Machine = r.machine in
    let wanted : is_wanted s m e.reading.pos ≡ true = t.by.wanted e.reading.pos (omega arith) (omega (arith, t.by.some)) in
    let pass : pass_of m ≡ numbered Trimming r.pass
    = t.running.pass ∙ ap (λ (phase : Phase). numbered phase r.pass) t.phase in
    sym (wanted_in s m m.map Trimming r.pass 1 e.reading.pos x wanted pass)
    ∙ and_from (is_live s m x) (has_taken (numbered Trimming 1 ∷ []) (slice_get m.map x)) live
    (ap (has_taken (numbered Trimming 1 ∷ [])) has)

-- before a range nothing is left before the request,
none_before : (r : RunState) (room : ℕ) (e : Event) (x : ℕ) → Trims r room e → r.machine.progress.mode ≡ Lead
    → x < e.reading.pos → is_wanted (setting_in r) r.machine x ≡ true → ⊥
none_before r room e x t lead below wanted =
    let s : Setting = setting_in r in
    let m : Machine = r.machine in
    let is : search_of s m ≡ search_in s m Trimming Lead
    = ap (λ (phase : Phase). search_in s m phase m.progress.mode) (phase_in r room e t) ∙ ap (search_in s m Trimming) lead in
    let up : is_up s (pass_of m) ≡ true = ap (is_up s) t.running.pass ∙ t.up in
    let at : search_in s m Trimming Lead ≡ record { up = true; from = 0; front = true; size = s.sector }
    = ap (λ (b : Bool). record (search_in s m Trimming Lead) { up = b }) up
    ∙ ap (λ (n : ℕ). record { up = true; from = n; front = true; size = s.sector }) (start_up s (pass_of m) m.map up) in
    let range : IsNextRange true (IsWanted s m) 0 t.request.start t.request.end
    = subst (λ (f : Search). IsNextRange f.up (IsWanted s m) f.from t.request.start t.request.end) (is ∙ at) t.request.range in
    let starts : e.reading.pos ≡ t.request.start
    = t.request.starts ∙ ap (λ (f : Search). cut_start f s.sector t.request.start t.request.end) (is ∙ at) in
    omega (arith, below, starts, range.0.least x (omega arith) wanted)

led_lead : (r : RunState) (room : ℕ) (e : Event) (x : ℕ) → Trims r room e → r.machine.progress.mode ≡ Lead
    → is_live (setting_in r) r.machine x ≡ true → IsUntrimmed r e x
    → (x < e.reading.pos) ⊎ ((not (is_failed e.reading) ≡ false) × (x < e.reading.pos + e.reading.asked)) → ⊥
led_lead r room e x t lead live left far =
    let early : x < e.reading.pos → ⊥
    = λ below. none_before r room e x t lead below (trims_wanted r room e x t live left.was) in
    ⊎_elim early
    (λ (part : (not (is_failed e.reading) ≡ false) × (x < e.reading.pos + e.reading.asked)).
    ⊎_elim early (λ (from : e.reading.pos ≤ x). left.apart (record { from = from; to = part.1 }))
    (cases_lt x e.reading.pos))
    far

-- and at its back nothing before that range's front, nor after a failed read what lies between them.
led_tail : (r : RunState) (room : ℕ) (e : Event) (low x : ℕ) → Trims r room e → r.machine.progress.mode ≡ Tail low
    → is_live (setting_in r) r.machine x ≡ true → Has (step (setting_in r) r.machine e).map NonTrimmed x → IsUntrimmed r e x
    → (x < low) ⊎ ((not (is_failed e.reading) ≡ false) × (x < e.reading.pos)) → ⊥
led_tail r room e low x t tail live has left far =
    let s : Setting = setting_in r in
    let m : Machine = r.machine in
    let early : x < low → ⊥
    = λ below.
    t.running.led t.phase t.up x (subst (λ (mode : TrimMode). x < led_from mode m.progress.cursor) (sym tail) below) live left.was in
    ⊎_elim early
    (λ (part : (not (is_failed e.reading) ≡ false) × (x < e.reading.pos)).
    ⊎_elim early
    (λ (from : low ≤ x).
    let is : Has (step s m e).map NonScraped x
    = change_between s m e low x (running_sensible r room t.running) t.running.order t.request t.by
    (not-false (is_failed e.reading) part.0) tail from part.1 in
    let no : NonScraped ≡ NonTrimmed = same_Some NonScraped NonTrimmed (sym is ∙ has) in cc)
    (cases_lt x low))
    far

led_by : (r : RunState) (room : ℕ) (e : Event) (mode : TrimMode) (x : ℕ) → Trims r room e → r.machine.progress.mode ≡ mode
    → is_live (setting_in r) (step (setting_in r) r.machine e) x ≡ true
    → Has (step (setting_in r) r.machine e).map NonTrimmed x
    → x < led_from (mode_after mode (not (is_failed e.reading))
    (is_wanted (setting_in r) (record r.machine { map = (step (setting_in r) r.machine e).map })
    (e.reading.pos + e.reading.asked)) e.reading.pos (e.reading.pos + e.reading.asked)) e.reading.pos → ⊥
led_by r room e Lead x t is live has below =
    let s : Setting = setting_in r in
    led_lead r room e x t is (live_was s r.machine (step s r.machine e) e.reading x refl live)
    (untrimmed r room e x t live has) (lead_after (not (is_failed e.reading)) _ _ _ x below)
led_by r room e (Tail low) x t is live has below =
    let s : Setting = setting_in r in
    led_tail r room e low x t is (live_was s r.machine (step s r.machine e) e.reading x refl live) has
    (untrimmed r room e x t live has) (tail_after low (not (is_failed e.reading)) _ _ _ x below)

led_steps : (r : RunState) (room : ℕ) (e : Event) (heard : Bool) → IsRunning r room
    → IsRequest (setting_in r) r.machine e.reading.pos (e.reading.pos + e.reading.asked)
    → StepsBy (setting_in r) r.machine e → IsLed (stepped r e heard)
led_steps r room e heard i request by phase up x below live has =
    let s : Setting = setting_in r in
    let m : Machine = r.machine in
    let t : Trims r room e = record { running = i; request = request; by = by; phase = phase; up = up } in
    let on : is_trimming m ≡ true = ap trims (phase_in r room e t) in
    let r' : Reading = e.reading in
    let more : Bool = is_wanted s (record m { map = (step s m e).map }) (r'.pos + r'.asked) in
    let mode : (step s m e).progress.mode ≡ mode_after m.progress.mode (not (is_failed r')) more r'.pos (r'.pos + r'.asked)
    = cond-true (is_trimming m) (mode_after m.progress.mode (not (is_failed r')) more r'.pos (r'.pos + r'.asked)) Lead on in
    let cursor : (step s m e).progress.cursor ≡ r'.pos
    = cond-true (is_trimming m) r'.pos _ on in
    led_by r room e m.progress.mode x t refl live has
    (subst (λ (n : ℕ). x < led_from (mode_after m.progress.mode (not (is_failed r')) more r'.pos (r'.pos + r'.asked)) n) cursor
    (subst (λ (n : TrimMode). x < led_from n (step s m e).progress.cursor) mode below))

-- after an event of its request a run is as between any turns
pub running_steps : (r : RunState) (room : ℕ) (e : Event) (heard : Bool) → IsRunning r room
    → IsRequest (setting_in r) r.machine e.reading.pos (e.reading.pos + e.reading.asked)
    → length e.reading.given ≤ e.reading.asked → IsRunning (stepped r e heard) room
running_steps r room e heard i request few =
    let s : Setting = setting_in r in
    let m : Machine = r.machine in
    let by : StepsBy s m e = move_steps s m e (running_sensible r room i) i.order request few in
    record {
      sound = i.sound;
      suits = record {
        from = i.suits.from;
        to = λ x within. omega (arith, i.suits.to x within, by.size);
      };
      short = omega (arith, i.short, by.size);
      cursor = omega (arith, cursor_within s m e by.there, by.size);
      skip = skip_within s m e i.sound.skip i.skip;
      order = by.order;
      pass = i.pass;
      trims = i.trims;
      scrapes = i.scrapes;
      led = led_steps r room e heard i request by;
      room_is = i.room_is;
    }
