-- What is known of a run stays so in a turn, and in a new pass.
use Rattle.std.proofs.Common.{◌≡◌, ℕ, ◌+◌, Bool, true, false, List, [], ◌∷◌, drop, All, Some, refl, sym, ap, ◌∙◌, subst, ⊎_elim, arith}
use Rattle.std.specs.List.{slice_get}
use Rattle.std.proofs.lemmas.Bool.{true_from_ne_false, true≢false}
use Rattle.std.proofs.lemmas.Option.{same_Some}
use Rattle.block_list.specs.declared.status.Status.TheVariants.{NonTried, NonTrimmed, NonScraped}
use Rattle.block_list.specs.Map.{Has}
use Rattle.faulty_source.specs.SourceState.{SourceState}
use Rattle.rescue_console.specs.ClockState.{ClockState}
use Rattle.transfer_token.specs.declared.token.Request.{Request}
use Rattle.rescue_rules.specs.declared.stop.Stop.{Stop}
use Rattle.rescue_rules.specs.declared.stop.TrimMode.TheVariants.{Lead, Tail}
use Rattle.rescue_rules.specs.declared.phase.Phase.{Phase}
use Rattle.rescue_rules.specs.declared.phase.Phase.TheVariants.{Copying, Trimming}
use Rattle.rescue_rules.specs.Setting.{Setting, IsSensible}
use Rattle.rescue_rules.specs.Passes.{Pass, taken, numbered}
use Rattle.rescue_rules.specs.Machine.{Machine, pass_of, is_live, is_wanted, IsRequest, has_request}
use Rattle.rescue_rules.specs.Step.{Event, copies, is_copying, is_trimming, step}
use Rattle.rescue_rules.specs.Moves.{ready, no_pass_left}
use Rattle.rescue_rules.proofs.SearchLemmas.{request_seen}
use Rattle.rescue_rules.proofs.OverLemmas.{live_was, wanted_live}
use Rattle.rescue_rules.proofs.StepLemmas.{Asks, request_asks, trims_is}
use Rattle.rescue_rules.proofs.StatusLemmas.{non_tried_stood, non_trimmed_stood, non_scraped_stood, wanted_taken}
use Rattle.rescue_rules.proofs.ReadyLemmas.{ready_here, ready_on, ready_end, spent_request}
use Rattle.rescue_core.specs.RunState.{RunState, setting_in, passed, IsRunning, IsGone}
use Rattle.rescue_core.specs.Stages.{Reached, Begun, Copied, Trimmed, Scraped, Over, IsTrimmed, IsScraped, IsOver, Known}
use Rattle.rescue_core.specs.declared.turn.Advanced.{Advanced}
use Rattle.rescue_rules.specs.Across.{Across}
use Rattle.rescue_core.specs.Turning.{stepped, IsEvent, Halted, Starved, Lost, Unwritten, Limited, Unsaved}
use Rattle.rescue_core.specs.TurnParts.{Advances}

-- its settings are sensible
pub running_sensible : (r : RunState) (room : ℕ) → IsRunning r room → IsSensible (setting_in r)
running_sensible r room is = record {
  sector = is.sound.sector;
  sectors = is.sound.sectors;
  some = is.sound.some;
  cluster = is.sound.cluster;
  from = is.suits.from;
  retries = is.sound.retries;
}

-- an event of a run's request, and a position that it asks for
record IsTurn (r : RunState) (room : ℕ) (e : Event) : Type 0 where
  running : IsRunning r room
  request : IsRequest (setting_in r) r.machine e.reading.pos (e.reading.pos + e.reading.asked)
  wanted : is_wanted (setting_in r) r.machine e.reading.pos ≡ true

is_turn : (r : RunState) (room : ℕ) (e : Event) → IsRunning r room
    → IsRequest (setting_in r) r.machine e.reading.pos (e.reading.pos + e.reading.asked) → IsTurn r room e
is_turn r room e is request =
    let asks : Asks (setting_in r) r.machine e.reading.pos (e.reading.pos + e.reading.asked)
    = request_asks (setting_in r) (running_sensible r room is) r.machine e.reading.pos (e.reading.pos + e.reading.asked) request in
    record { running = is; request = request; wanted = asks.wanted e.reading.pos (omega arith) (omega (arith, asks.some)) }

-- a phase whose status is gone asks for nothing
never_asked : (r : RunState) (room : ℕ) (e : Event) → IsTurn r room e → IsGone (taken (pass_of r.machine).phase) r → ⊥
never_asked r room e t gone =
    gone e.reading.pos (wanted_live (setting_in r) r.machine e.reading.pos t.wanted)
    (wanted_taken (setting_in r) r.machine e.reading.pos t.wanted)

pub copies_is : (phase : Phase) → copies phase ≡ true → phase ≡ Copying
copies_is Copying is = refl
copies_is _ is = absurd (cc)

never_copies : (r : RunState) (room : ℕ) (e : Event) → IsTurn r room e → IsGone NonTried r → is_copying r.machine ≡ true → ⊥
never_copies r room e t gone on =
    never_asked r room e t
    (subst (λ (phase : Phase). IsGone (taken phase) r) (sym (copies_is (pass_of r.machine).phase on)) gone)

-- trimming is on where it is at a range's back
tail_trims : (r : RunState) (room : ℕ) (low : ℕ) → IsRunning r room → r.machine.progress.mode ≡ Tail low
    → (pass_of r.machine).phase ≡ Trimming
tail_trims r room low is at =
    trims_is (pass_of r.machine).phase
    (true_from_ne_false (is_trimming r.machine) (λ off.
    let e : Tail low ≡ Lead = sym at ∙ is.order.lead off in absurd (cc)))

never_trims : (r : RunState) (room : ℕ) (e : Event) → IsTurn r room e → (r.settings.passes.trims ≡ true → IsGone NonTrimmed r)
    → (low : ℕ) → r.machine.progress.mode ≡ Tail low → ⊥
never_trims r room e t gone low at =
    let trims : (pass_of r.machine).phase ≡ Trimming = tail_trims r room low t.running at in
    let on : r.settings.passes.trims ≡ true
    = t.running.trims (sym (ap (λ (p : Pass). p.phase) t.running.pass) ∙ trims) in
    never_asked r room e t (subst (λ (phase : Phase). IsGone (taken phase) r) (sym trims) (gone on))

-- what is left of the domain after an event was left before
live_before : (r : RunState) (e : Event) (x : ℕ) → is_live (setting_in r) (step (setting_in r) r.machine e) x ≡ true
    → is_live (setting_in r) r.machine x ≡ true
live_before r e x live = live_was (setting_in r) r.machine (step (setting_in r) r.machine e) e.reading x refl live

tried_steps : (r : RunState) (room : ℕ) (e : Event) (heard : Bool) → IsTurn r room e → IsGone NonTried r → IsGone NonTried (stepped r e heard)
tried_steps r room e heard t gone x live has =
    gone x (live_before r e x live) (non_tried_stood (setting_in r) r.machine e.reading x has)

trimmed_steps : (r : RunState) (room : ℕ) (e : Event) (heard : Bool) → IsTurn r room e → IsTrimmed r → IsTrimmed (stepped r e heard)
trimmed_steps r room e heard t known = record {
  tried = tried_steps r room e heard t known.tried;
  trimmed = λ on x live has. ⊎_elim
      (λ (was : Has r.machine.map NonTrimmed x). known.trimmed on x (live_before r e x live) was)
      (λ (copying : is_copying r.machine ≡ true). never_copies r room e t known.tried copying)
      (non_trimmed_stood (setting_in r) r.machine e.reading x has);
}

scraped_steps : (r : RunState) (room : ℕ) (e : Event) (heard : Bool) → IsTurn r room e → IsScraped r → IsScraped (stepped r e heard)
scraped_steps r room e heard t known = record {
  trimmed = trimmed_steps r room e heard t known.trimmed;
  scraped = λ on x live has. ⊎_elim
      (λ (was : Has r.machine.map NonScraped x). known.scraped on x (live_before r e x live) was)
      (λ (back : (low : ℕ) × (r.machine.progress.mode ≡ Tail low)).
      never_trims r room e t known.trimmed.trimmed back.0 back.1)
      (non_scraped_stood (setting_in r) r.machine e.reading x has);
}

-- a run that is over has no request
never_over : (r : RunState) (room : ℕ) (e : Event) → IsTurn r room e → IsOver r → ⊥
never_over r room e t known =
    let s : Setting = setting_in r in
    let on : has_request s r.machine ≡ true
    = request_seen s r.machine e.reading.pos (e.reading.pos + e.reading.asked) t.request in
    let none : no_pass_left r.machine.passes ≡ true
    = sym (ap (λ (m : Machine). no_pass_left m.passes) (ready_here s r.machine on)) ∙ known.spent in
    true≢false (sym on ∙ spent_request s r.machine none)

-- an event of the run's request keeps what is known
pub known_steps : (reached : Reached) (r : RunState) (room : ℕ) (e : Event) (heard : Bool) → IsRunning r room
    → IsRequest (setting_in r) r.machine e.reading.pos (e.reading.pos + e.reading.asked)
    → Known reached r → Known reached (stepped r e heard)
known_steps Begun r room e heard is request known = known
known_steps Copied r room e heard is request known = tried_steps r room e heard (is_turn r room e is request) known
known_steps Trimmed r room e heard is request known = trimmed_steps r room e heard (is_turn r room e is request) known
known_steps Scraped r room e heard is request known = scraped_steps r room e heard (is_turn r room e is request) known
known_steps Over r room e heard is request known = absurd (never_over r room e (is_turn r room e is request) known)

known_event : (reached : Reached) (r : RunState) (room : ℕ) (request : Request) (e : Event) (heard : Bool)
    (source source' : SourceState) (clock clock' : ClockState) → IsRunning r room
    → IsRequest (setting_in r) r.machine request.pos (request.pos + request.len)
    → IsEvent request e source source' clock clock' → Known reached r → Known reached (stepped r e heard)
known_event reached r room request e heard source source' clock clock' is asks event known =
    known_steps reached r room e heard is
    (subst (λ (pos : ℕ). IsRequest (setting_in r) r.machine pos (pos + e.reading.asked)) (sym event.pos)
    (subst (λ (len : ℕ). IsRequest (setting_in r) r.machine request.pos (request.pos + len)) (sym event.asked) asks))
    known

-- a turn keeps what is known, whatever its outcome
pub known_halted : (reached : Reached) (request : Request) (stop : Stop) (r r' : RunState) (room : ℕ) (o : Across)
    → IsRunning r room → IsRequest (setting_in r) r.machine request.pos (request.pos + request.len)
    → Halted request stop r r' o → Known reached r → Known reached r'
known_halted reached request stop r r' room o is asks h known =
    elim h [
      | Starved why same read wrote told silent ↦ subst (Known reached) (sym same) known
      | Lost why same read wrote before few told silent ↦ subst (Known reached) (sym same) known
      | Unwritten why same e event named wrote silent ↦ subst (Known reached) (sym same) known
      | Limited limit why e event same met wrote says ↦ subst (Known reached) (sym same)
          (known_event reached r room request e r'.heard o.source o.source' o.clock o.clock' is asks event known)
      | Unsaved call why e event same due named wrote rose says ↦ subst (Known reached) (sym same)
          (known_event reached r room request e r'.heard o.source o.source' o.clock o.clock' is asks event known)
    ]

-- and so does what is said or not
known_heard : (reached : Reached) (r : RunState) (heard : Bool) → Known reached r
    → Known reached (record r { heard = heard })
known_heard Begun r heard known = known
known_heard Copied r heard known = known
known_heard Trimmed r heard known = record { tried = known.tried; trimmed = known.trimmed }
known_heard Scraped r heard known = record {
  trimmed = record { tried = known.trimmed.tried; trimmed = known.trimmed.trimmed };
  scraped = known.scraped;
}
known_heard Over r heard known = record {
  scraped = record {
    trimmed = record { tried = known.scraped.trimmed.tried; trimmed = known.scraped.trimmed.trimmed };
    scraped = known.scraped.scraped;
  };
  spent = known.spent;
}

pub known_on : (reached : Reached) (request : Request) (got : Advanced) (r r1 r2 : RunState) (room : ℕ) (o : Across)
    → IsRunning r room → IsRequest (setting_in r) r.machine request.pos (request.pos + request.len)
    → Advances request got r r1 o → r2 ≡ record r1 { heard = r2.heard } → Known reached r → Known reached r2
known_on reached request got r r1 r2 room o is asks a stands known =
    subst (Known reached) (sym stands)
    (known_heard reached r1 r2.heard
    (subst (Known reached) (sym a.goes.steps)
    (known_event reached r room request a.event r.heard o.source o.source' o.clock o.clock' is asks a.is known)))

-- a pass after the first one
next_pass : (ps : List Pass) (p : Pass) → slice_get ps 1 ≡ Some p → (c : Pass) × (ps ≡ c ∷ p ∷ drop 2 ps)
next_pass [] p is = absurd (cc)
next_pass (c ∷ []) p is = absurd (cc)
next_pass (c ∷ q ∷ ps) p is = (c, ap (λ (q : Pass). c ∷ q ∷ ps) (same_Some q p is))

-- and so does the start of the next pass
pub known_passes : (reached : Reached) (r : RunState) (phase : Phase) (pass : ℕ)
    → slice_get r.machine.passes 1 ≡ Some (numbered phase pass) → has_request (setting_in r) r.machine ≡ false
    → Known reached r → Known reached (passed r phase pass)
known_passes Begun r phase pass next off known = known
known_passes Copied r phase pass next off known = known
known_passes Trimmed r phase pass next off known = record { tried = known.tried; trimmed = known.trimmed }
known_passes Scraped r phase pass next off known = record {
  trimmed = record { tried = known.trimmed.tried; trimmed = known.trimmed.trimmed };
  scraped = known.scraped;
}
known_passes Over r phase pass next off known =
    let s : Setting = setting_in r in
    let there : (c : Pass) × (r.machine.passes ≡ c ∷ numbered phase pass ∷ drop 2 r.machine.passes)
    = next_pass r.machine.passes (numbered phase pass) next in
    record {
      scraped = record {
        trimmed = record { tried = known.scraped.trimmed.tried; trimmed = known.scraped.trimmed.trimmed };
        scraped = known.scraped.scraped;
      };
      spent = sym (ap (λ (m : Machine). no_pass_left m.passes)
          (ready_on s r.machine there.0 (numbered phase pass) (drop 2 r.machine.passes) off there.1))
          ∙ known.spent;
    }

-- No pass has a request left where no position that is left of the domain has a status that a pass left asks for.
pub none_left : (r : RunState) → All (λ p. IsGone (taken p.phase) r) r.machine.passes
    → no_pass_left (ready (setting_in r) r.machine).passes ≡ true
none_left r gone = ap (λ (m : Machine). no_pass_left m.passes) (ready_end (setting_in r) r.machine gone)
