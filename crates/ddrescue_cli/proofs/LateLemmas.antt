-- A failed call that ends a run is one that a run makes.
use Rattle.std.specs.Bool.{⊤}
use Rattle.std.proofs.Common.{◌≡◌, ℕ, Bool, true, false, List, [], ◌∷◌, ◌++◌, map, take, Option, Some, None, sym, inl, inr, subst}
use Rattle.std.specs.Prelude.{if◌then◌else◌, nat_eq}
use Rattle.crash_site.specs.declared.site.SiteCall.{SiteCall}
use Rattle.crash_site.specs.declared.site.SiteCall.TheVariants.{ImageOpen, ImageRead, ImageWrite, ImageSync, MapRead, DraftBegin, DraftAppend, DraftSync, DraftPublish, MapSettle, MapRemove}
use Rattle.crash_site.specs.Files.{File}
use Rattle.crash_site.specs.Calls.{Call, Entry, Done as Returned, image_sync, image_write, draft_append, draft_sync}
use Rattle.mapfile_save.specs.MapNames.{MapNames}
use Rattle.mapfile_save.specs.Saving.{IsNameIn, save_calls, publish_calls}
use Rattle.mapfile_text.specs.Pieces.{pieces_of}
use Rattle.faulty_source.specs.Journal.{kept}
use Rattle.rescue_rules.specs.Setting.{Setting, place}
use Rattle.rescue_rules.specs.Moves.{Move, move_of, state_after}
use Rattle.rescue_rules.specs.Snapshots.{text_of, snapshot_of, is_due}
use Rattle.rescue_rules.specs.RunCalls.{move_calls, run_calls}
use Rattle.rescue_rules.specs.Machine.{Machine}
use Rattle.rescue_rules.specs.Step.{Event}
use Rattle.rescue_rules.specs.declared.stop.Stop.{Stop}
use Rattle.rescue_rules.specs.declared.stop.Stop.TheVariants.{SourceLost as InputLost, Site, LimitMet as Limited, NoMemory as NoRoom}
use Rattle.rescue_rules.specs.declared.stop.RunEnd.{RunEnd}
use Rattle.rescue_rules.specs.Work.{EndsBy, Ends, IsSaved, IsUnsaved, IsBroken, end_of}
use Rattle.program_promise.specs.Work.{Deeds}
use Rattle.program_promise.proofs.GainLemmas.{broke_named}
use Rattle.task_files.specs.declared.ending.Ending.{Ending}
use Rattle.task_files.specs.declared.ending.Ending.TheVariants.{SiteFault}
use Rattle.task_files.specs.Work.{Rescues, answer_of}

-- a call that a run makes: a write of the output, or one of those of a save
abbrev pub IsRunCall : SiteCall → Type 0
IsRunCall ImageOpen = ⊥
IsRunCall ImageRead = ⊥
IsRunCall MapRead = ⊥
IsRunCall MapRemove = ⊥
IsRunCall call = ⊤

-- an answer that names no call but such
pub record IsLate (e : Ending) : Type 0 where
  pub names : (call : SiteCall) (earlier : Option Stop) → e ≡ SiteFault call earlier → IsRunCall call

own_call : (call name : SiteCall) → call ≡ name → IsRunCall name → IsRunCall call
own_call call name is own = subst IsRunCall (sym is) own

appends_own : (call : SiteCall) (ps : List (List ℕ)) (rest : List Call) → (IsNameIn call rest → IsRunCall call)
    → IsNameIn call (map draft_append ps ++ rest) → IsRunCall call
appends_own call [] rest later h = later h
appends_own call (p ∷ ps) rest later (inl is) = own_call call DraftAppend is tt
appends_own call (p ∷ ps) rest later (inr h) = appends_own call ps rest later h

publish_own : (call : SiteCall) (n : MapNames) → IsNameIn call (draft_sync ∷ publish_calls n) → IsRunCall call
publish_own call n (inl is) = own_call call DraftSync is tt
publish_own call n (inr (inl is)) = own_call call DraftPublish is tt
publish_own call n (inr (inr (inl is))) = own_call call MapSettle is tt
publish_own call n (inr (inr (inr h))) = absurd h

save_own : (call : SiteCall) (n : MapNames) (text : List ℕ) → IsNameIn call (save_calls n text) → IsRunCall call
save_own call n text (inl is) = own_call call ImageSync is tt
save_own call n text (inr (inl is)) = own_call call DraftBegin is tt
save_own call n text (inr (inr h)) =
    appends_own call (pieces_of text) (draft_sync ∷ publish_calls n) (publish_own call n) h

closing_own : (call : SiteCall) (there : Bool) (n : MapNames) (text : List ℕ)
    → IsNameIn call (if there then save_calls n text else image_sync ∷ []) → IsRunCall call
closing_own call true n text h = save_own call n text h
closing_own call false n text (inl is) = own_call call ImageSync is tt
closing_own call false n text (inr h) = absurd h

due_own : (call : SiteCall) (due : Bool) (n : MapNames) (text : List ℕ)
    → IsNameIn call (if due then save_calls n text else []) → IsRunCall call
due_own call true n text h = save_own call n text h
due_own call false n text h = absurd h

move_own : (call : SiteCall) (none : Bool) (at : ℕ) (piece : List ℕ) (due : List Call) → (IsNameIn call due → IsRunCall call)
    → IsNameIn call ((if none then [] else image_write at piece ∷ []) ++ due) → IsRunCall call
move_own call true at piece due later h = later h
move_own call false at piece due later (inl is) = own_call call ImageWrite is tt
move_own call false at piece due later (inr h) = later h

moves_own : (call : SiteCall) (s : Setting) (v : Move) → IsNameIn call (move_calls s v) → IsRunCall call
moves_own call s v h =
    let text : List ℕ = text_of s.line (snapshot_of v.after) in
    move_own call (nat_eq (kept s.sector v.event.reading) 0) (place s v.event.reading.pos)
    (take (kept s.sector v.event.reading) v.event.reading.given) (if is_due s v then save_calls s.names text else [])
    (due_own call (is_due s v) s.names text) h

call_late : (call : SiteCall) (earlier : Option Stop) → IsRunCall call → IsLate (SiteFault call earlier)
call_late call earlier own = record {
  names = λ named later is. own_call named call (let same : named ≡ call = cc in same) own;
}

stop_late : (stop : Option Stop) (s : Setting) (m : Machine) → EndsBy stop s m → IsLate (answer_of (end_of stop))
stop_late (Some (Site call)) s m by = absurd by
stop_late _ s m by = record { names = λ call earlier is. absurd (cc) }

ends_late : (s : Setting) (m : Machine) (es : List Event) (calls : List Entry) (end : RunEnd)
    → Ends s m es calls end → IsLate (answer_of end)
ends_late s m es calls end (IsSaved stop by is all) =
    subst (λ (v : RunEnd). IsLate (answer_of v)) (sym is) (stop_late stop s _ by)
ends_late s m es calls end (IsUnsaved stop call by is broke) =
    subst (λ (v : RunEnd). IsLate (answer_of v)) (sym is)
    (call_late call stop (closing_own call s.has_mapfile s.names _ (broke_named call _ _ calls broke)))
ends_late s m es calls end (IsBroken before last call split is broke) =
    subst (λ (v : RunEnd). IsLate (answer_of v)) (sym is)
    (call_late call None
    (moves_own call s (move_of s (state_after s m before) last)
    (broke_named call (move_calls s (move_of s (state_after s m before) last)) (map Returned (run_calls s m before)) calls broke)))

pub rescue_late : (s : Setting) (mapfile : Option File) (lines : List (List ℕ)) (e : Ending) (d : Deeds)
    → Rescues s mapfile lines e d → IsLate e
rescue_late s mapfile lines e d (opens, (statuses, state, stands, inl unbegun)) =
    subst IsLate (sym unbegun.answer) (record { names = λ call earlier is. absurd (cc) })
rescue_late s mapfile lines e d (opens, (statuses, state, stands, inr ran)) =
    subst IsLate (sym ran.answer) (ends_late s _ _ d.gain.calls ran.end ran.runs.ends)
