-- Nothing else is answered than what a mode finds, a refusal, a failure or lack of memory.
use Rattle.std.proofs.Common.{◌≡◌, ℕ, Bool, true, false, List, [], ◌∷◌, Option, refl, sym, inl, inr, subst}
use Rattle.block_list.specs.declared.status.Status.{Status}
use Rattle.crash_site.specs.Files.{File}
use Rattle.program_promise.specs.Work.{Deeds, with_calls, Take, Look, Works}
use Rattle.program_promise.specs.Verdicts.{RefuseNothing}
use Rattle.program_promise.proofs.VerdictLemmas.{goes_to_run}
use Rattle.option_words.specs.declared.fault.UsageFault.TheVariants.{PlaceTooLarge}
use Rattle.program_promise.specs.Kinds.{Kind, Asked, Starved}
use Rattle.ddrescuelog_words.specs.declared.mode.LogMode.{LogMode}
use Rattle.ddrescuelog_words.specs.declared.mode.LogMode.TheVariants.{Create, Test, Compare}
use Rattle.ddrescuelog_words.specs.Modes.{creates}
use Rattle.ddrescuelog_words.specs.Command.{Command}
use Rattle.ddrescuelog_cli.specs.declared.ending.LogEnding.{LogEnding}
use Rattle.ddrescuelog_cli.specs.declared.ending.LogEnding.TheVariants.{Done, NotDone, Differ, Usage, NoMemory}
use Rattle.ddrescuelog_cli.specs.Modes.{Finds, log_faults, EndsPrinted, EndsCreated, EndsAs}
use Rattle.ddrescuelog_cli.specs.Maps.{Found, Maps}
use Rattle.ddrescuelog_cli.specs.Refusals.{ListRefused, MapIsThere}
use Rattle.ddrescuelog_cli.specs.Answers.{row_of}
use Rattle.ddrescuelog_cli.specs.Work.{PlacesRefused, named_rows, read_rows, UnlessThere, WorksOver, WorksAs}
use Rattle.ddrescuelog_cli.specs.Laws.{IfAsked, IsModeAnswer, IsFoundUnless, IsVerdict, NothingIsRefused, rows_of_maps}
use Rattle.ddrescuelog_cli.proofs.FoundLemmas.{answers_are_found}
use Rattle.ddrescuelog_cli.proofs.PromiseLemmas.{log_keeps_promises}
use Rattle.ddrescuelog_cli.proofs.VerdictLemmas.{Saves, saved_done, verdicts}

-- ---- an answer of a mode

-- it is an answer of a mode itself
abbrev IsOfMode : LogEnding → Type 0
IsOfMode e = (row_of e).kind ≡ Asked

-- so it is what the mode finds
found_by : (e : LogEnding) (F : LogEnding → Type 0) → IsOfMode e → IsModeAnswer e F → F e
found_by e F of found = subst (λ (k : Kind). IfAsked k (F e)) of found

of_as : (e v : LogEnding) → e ≡ v → IsOfMode v → IsOfMode e
of_as e v is of = subst IsOfMode (sym is) of

-- ---- an answer for no fault, where nothing is refused

printed_of : (e : LogEnding) (d : Deeds) → EndsPrinted e d → IsVerdict e → IsOfMode e
printed_of e d (inl a) v = absurd (subst IsVerdict a.0 v)
printed_of e d (inr a) v = of_as e Done a.0 refl

-- a list isn't refused
abbrev ListPasses : Command → List ℕ → Type 0
ListPasses c list = (v : LogEnding) → ListRefused c.options list v → ⊥

created_of : (listed rest : Status) (c : Command) (line list : List ℕ) (m : Maps) (e : LogEnding) (d : Deeds)
    → ListPasses c list → EndsCreated listed rest c line list m e d → IsVerdict e → IsOfMode e
created_of listed rest c line list m e d pass (inl a) v = absurd (subst IsVerdict a.0 v)
created_of listed rest c line list m e d pass (inr w) v =
    let ran : (did : Deeds) × Saves listed rest c line list m e did =
    goes_to_run log_faults IsVerdict verdicts (Look (ListRefused c.options list) ∷ [])
    (Saves listed rest c line list m) (pass, tt) e d w v in
    of_as e Done (saved_done c ran.1.1 e ran.0 ran.1.4 v) refl

ends_of : (mode : LogMode) (c : Command) (line list : List ℕ) (m : Maps) (e : LogEnding) (d : Deeds)
    → (creates mode ≡ true → ListPasses c list) → EndsAs mode c line list m e d → IsVerdict e → IsOfMode e
ends_of (Create listed rest) c line list m e d pass w v =
    created_of listed rest c line list m e d (pass refl) w v
ends_of (Test true) c line list m e d pass (inl (r, idle)) v = of_as e NotDone r.1 refl
ends_of (Test true) c line list m e d pass (inr (passed, inl b)) v = absurd (subst IsVerdict b.1 v)
ends_of (Test true) c line list m e d pass (inr (passed, inr w)) v = of_as e Done w.2.0 refl
ends_of (Test false) c line list m e d pass (inl a, idle) v = of_as e Done a.0 refl
ends_of (Test false) c line list m e d pass (inr a, idle) v = of_as e NotDone a.0 refl
ends_of (Compare false) c line list m e d pass (inl a, idle) v = of_as e Done a.0 refl
ends_of (Compare false) c line list m e d pass (inr a, idle) v = of_as e Differ a.0 refl
ends_of (Compare true) c line list m e d pass (inl a, idle) v = of_as e Done a.0 refl
ends_of (Compare true) c line list m e d pass (inr a, idle) v = of_as e Differ a.0 refl
ends_of _ c line list m e d pass w v = printed_of e d w v

over_of : (c : Command) (line list : List ℕ) (found : Found) (m : Maps) (e : LogEnding) (d : Deeds)
    → NothingIsRefused c list found m → WorksOver c line list m e d → IsVerdict e → IsOfMode e
over_of c line list found m e d pass w v =
    let ran : (did : Deeds) × EndsAs c.mode c line list m e did =
    goes_to_run log_faults IsVerdict verdicts (Take ∷ Look (PlacesRefused c m) ∷ []) (EndsAs c.mode c line list m)
    (pass.places, tt) e d w v in
    ends_of c.mode c line list m e ran.0 pass.numbers ran.1 v

there_of : (forced : Bool) (name : List ℕ) (file : Option File) (more : LogEnding → Deeds → Type 0) (e : LogEnding)
    (d : Deeds) → (forced ≡ false → (v : LogEnding) → MapIsThere file v → ⊥)
    → ((d : Deeds) → more e d → IsOfMode e) → UnlessThere forced name file more e d → IsVerdict e → IsOfMode e
there_of true name file more e d free last w v = last d w
there_of false name file more e d free last (inl b) v = absurd (subst IsVerdict b.0 v)
there_of false name file more e d free last (inr (x, r, s, i, inl p)) v = absurd (free refl e p.0)
there_of false name file more e d free last (inr (x, r, s, i, inr w)) v = last (with_calls d r) w.1

works_of : (new : Bool) (c : Command) → creates c.mode ≡ new → (line list : List ℕ) (found : Found) (m : Maps)
    (e : LogEnding) (d : Deeds) → RefuseNothing (rows_of_maps new c found) → NothingIsRefused c list found m
    → WorksAs new c line list found m e d → IsVerdict e → IsOfMode e
works_of false c is line list found m e d maps pass w v =
    let ran : (did : Deeds) × WorksOver c line list m e did =
    goes_to_run log_faults IsVerdict verdicts (Take ∷ read_rows c found) (WorksOver c line list m) maps e d w v in
    over_of c line list found m e ran.0 pass ran.1 v
works_of true c is line list found m e d maps pass w v =
    let named : LogEnding → Deeds → Type 0 = Works log_faults (named_rows c found) (WorksOver c line list m) in
    let ran : (did : Deeds) × UnlessThere c.options.forced c.mapfile found.mapfile named e did =
    goes_to_run log_faults IsVerdict verdicts (Take ∷ [])
    (UnlessThere c.options.forced c.mapfile found.mapfile named) tt e d w v in
    there_of c.options.forced c.mapfile found.mapfile named e ran.0 (pass.free is)
    (λ did x.
    let over : (last : Deeds) × WorksOver c line list m e last =
    goes_to_run log_faults IsVerdict verdicts (named_rows c found) (WorksOver c line list m) maps e did x v in
    over_of c line list found m e over.0 pass over.1 v)
    ran.1 v

-- ---- no fault

-- one answer says that memory wasn't there
starved_is : (e : LogEnding) → (row_of e).kind ≡ Starved → e ≡ NoMemory
starved_is NoMemory is = refl
starved_is (Usage PlaceTooLarge) is = absurd (cc)
starved_is _ is = absurd (cc)

pub is_found_unless : IsFoundUnless
is_found_unless t c d asks failed pass room =
    let p = d.asked_for c asks in
    let v : IsVerdict t.answer =
    log_keeps_promises.brought t c d asks failed (λ is. room (starved_is t.answer is)) in
    found_by t.answer (Finds c.mode c p.outside.maps)
    (works_of (creates c.mode) c refl p.outside.line p.outside.list p.outside.found p.outside.maps t.answer p.did
    pass.maps pass p.work v)
    (answers_are_found c p.outside.line p.outside.list p.outside.found p.outside.maps t.answer p.did p.work)
