-- What a run that stopped leaves of the objects' counts, and of its draft.
use Rattle.std.proofs.Common.{◌≡◌, ℕ, false, Some, refl, sym, ap, subst, ◌∙◌}
use Rattle.fault_count.specs.Counts.{raised}
use Rattle.faulty_source.specs.SourceState.{SourceState}
use Rattle.crash_site.specs.declared.site.SiteCall.{SiteCall}
use Rattle.crash_site.specs.SiteState.{SiteState}
use Rattle.rescue_rules.specs.declared.stop.Stop.{Stop}
use Rattle.rescue_rules.specs.declared.stop.Stop.TheVariants.{SourceLost as InputLost, Site, LimitMet as Limited, NoMemory as NoRoom}
use Rattle.rescue_rules.specs.declared.stop.RunEnd.{RunEnd}
use Rattle.rescue_rules.specs.declared.stop.RunEnd.TheVariants.{Stopped}
use Rattle.rescue_core.specs.RunState.{RunState}
use Rattle.rescue_rules.specs.Across.{Across, ObjectsStay}
use Rattle.rescue_core.specs.Turning.{Starved, Lost, Unwritten, Limited as LimitedTurn, Unsaved as UnsavedTurn}
use Rattle.rescue_core.specs.Closing.{LastSave, Saved, Unsaved, Closes, drafting_at_stop}
use Rattle.program_promise.specs.Causes.{unchanged}
use Rattle.rescue_phases.specs.Turns.{WentUpTo}
use Rattle.task_files.specs.declared.ending.Ending.TheVariants.{SiteFault}
use Rattle.task_files.specs.Answers.{Causes, drafting_left}
use Rattle.task_files.specs.Work.{answer_of}

-- the last save after a stop, by what that has counted
module _ (stop : Stop) (r : RunState) (losses : ℕ → ℕ) (source source' : SourceState) (site before after : SiteState)
    (opens_are : source'.faults ≡ source.faults) (losses_are : source'.losses ≡ losses source.losses)
    (calls_are : before.faults ≡ site.faults) where
  saves_cause : (end : RunEnd) → LastSave (Some stop) r end before after
      → (source'.faults ≡ source.faults → source'.losses ≡ losses source.losses → after.faults ≡ site.faults
      → Causes (answer_of (Stopped stop)) source source' site after)
      → ((call : SiteCall) → source'.faults ≡ source.faults → source'.losses ≡ losses source.losses
      → after.faults ≡ raised site.faults → Causes (SiteFault call (Some stop)) source source' site after)
      → Causes (answer_of end) source source' site after
  saves_cause end (Saved is makes rest) whole broken =
      subst (λ (e : RunEnd). Causes (answer_of e) source source' site after) (sym is)
      (whole opens_are losses_are (makes.faults ∙ calls_are))
  saves_cause end (Unsaved call is named breaks rest) whole broken =
      subst (λ (e : RunEnd). Causes (answer_of e) source source' site after) (sym is)
      (broken call opens_are losses_are (breaks.rose ∙ ap raised calls_are))

-- A run that stopped has the cause of its answer.
pub stopped_cause : (stop : Stop) (r r2 : RunState) (end : RunEnd) (o : Across) (site3 : SiteState) → WentUpTo stop r r2 o
    → ObjectsStay o → Closes (Some stop) r2 end o.site' site3
    → Causes (answer_of end) o.source o.source' o.site site3
stopped_cause stop r r2 end o site3 h objects closes =
    let C : Stop → Type 0 = λ x. Closes (Some x) r2 end o.site' site3 in
    let opens : o.source'.faults ≡ o.source.faults = objects.source.faults in
    let calls : h.site_between.faults ≡ o.site.faults = h.went.made.faults in
    let reads : h.source_between.losses ≡ o.source.losses = h.went.read.losses in
    elim h.halted [
      | Starved is still untouched unmade unread unsaid ↦
          saves_cause NoRoom r2 unchanged o.source o.source' o.site o.site' site3 opens
          (ap (λ (s : SourceState). s.losses) untouched ∙ reads) (ap (λ (d : SiteState). d.faults) unmade ∙ calls) end
          (subst C is closes) (λ o l c. record { opens = o; reads = l; calls = c; also = tt })
          (λ call o l c. record { opens = o; reads = l; calls = c; also = λ before none. cc })
      | Lost is still loses unmade before small times unsaid ↦
          saves_cause InputLost r2 raised o.source o.source' o.site o.site' site3 opens
          (loses.rose ∙ ap raised reads) (ap (λ (d : SiteState). d.faults) unmade ∙ calls) end
          (subst C is closes) (λ o l c. record { opens = o; reads = l; calls = c; also = tt })
          (λ call o l c. record { opens = o; reads = l; calls = c; also = λ before none. cc })
      | Unwritten is still event from named breaks unsaid ↦
          let closed : C (Site _) = subst C is closes in
          subst (λ (e : RunEnd). Causes (answer_of e) o.source o.source' o.site site3) (sym closed.0) (record {
            opens = opens;
            reads = from.read.losses ∙ reads;
            calls = ap (λ (d : SiteState). d.faults) closed.1 ∙ breaks.rose ∙ ap raised calls;
            also = tt;
          })
      | LimitedTurn limit is event from steps met makes says ↦
          saves_cause (Limited limit) r2 unchanged o.source o.source' o.site o.site' site3 opens
          (from.read.losses ∙ reads) (makes.faults ∙ calls) end (subst C is closes) (λ o l c. record { opens = o; reads = l; calls = c; also = tt })
          (λ call o l c. record { opens = o; reads = l; calls = c; also = λ before none. cc })
      | UnsavedTurn call is event from steps due named broke rose says ↦
          let closed : C (Site call) = subst C is closes in
          subst (λ (e : RunEnd). Causes (answer_of e) o.source o.source' o.site site3) (sym closed.0) (record {
            opens = opens;
            reads = from.read.losses ∙ reads;
            calls = ap (λ (d : SiteState). d.faults) closed.1 ∙ rose ∙ ap raised calls;
            also = tt;
          })
    ]

saves_draft : (stop : Stop) (r : RunState) (end : RunEnd) (before after : SiteState)
    → drafting_left (answer_of (Stopped stop)) ≡ false → LastSave (Some stop) r end before after
    → after.is_drafting ≡ drafting_left (answer_of end)
saves_draft stop r end before after none (Saved is makes rest) =
    rest ∙ sym none ∙ ap (λ (e : RunEnd). drafting_left (answer_of e)) (sym is)
saves_draft stop r end before after none (Unsaved call is named breaks rest) =
    rest ∙ ap (λ (e : RunEnd). drafting_left (answer_of e)) (sym is)

-- and leaves a draft begun where its answer says so.
pub stopped_draft : (stop : Stop) (r : RunState) (end : RunEnd) (before after : SiteState)
    → before.is_drafting ≡ drafting_at_stop stop → Closes (Some stop) r end before after
    → after.is_drafting ≡ drafting_left (answer_of end)
stopped_draft (Site call) r end before after draft closes =
    ap (λ (d : SiteState). d.is_drafting) closes.1 ∙ draft ∙ ap (λ (e : RunEnd). drafting_left (answer_of e)) (sym closes.0)
stopped_draft e r end before after draft closes = saves_draft e r end before after refl closes
