-- What the open of the output did, by what it found.
use Rattle.std.proofs.Common.{◌≡◌, false, true, refl, rules, sym, ◌∙◌}
use Rattle.crash_site.specs.declared.site.ImageKind.TheVariants.{Absent, Other}
use Rattle.task_files.proofs.OpenLemmas.{output_failed, output_missing, output_opened, output_refused}
use Rattle.task_files.proofs.open.open_output.Goals as goal

pub returns-in-Ok-Absent-clause-opens : goal.returns-in-Ok-Absent-clause-opens
returns-in-Ok-Absent-clause-opens g c =
    output_missing _ _ _ _ _ (rw c.in-Ok-Absent.field-0-is at c.in-Ok-Absent.ensures.made)
    (rw c.in-Ok-Absent.field-0-is at c.in-Ok-Absent.ensures.kind) c.in-Ok-Absent.ensures.call.done

pub returns-in-Ok-Other-clause-opens : goal.returns-in-Ok-Other-clause-opens
returns-in-Ok-Other-clause-opens g c =
    output_refused _ _ _ _ _ _ (λ file other. (c.if-not-forced.true, other, refl))
    (rw c.in-Ok-Other.field-0-is at c.in-Ok-Other.ensures.kind) c.in-Ok-Other.ensures.call.done

pub returns-in-Ok-Regular-clause-opens : goal.returns-in-Ok-Regular-clause-opens
returns-in-Ok-Regular-clause-opens g c =
    output_opened _ _ _ c.in-Ok-Other.field-0 _ _
    (λ unforced other. let no : false ≡ true = sym unforced ∙ c.if-not-forced.false in cc)
    (λ none. let no : Other ≡ Absent = sym c.in-Ok-Other.field-0-is ∙ none in cc)
    c.in-Ok-Other.ensures.kind c.in-Ok-Other.ensures.call.done

pub returns-in-Ok-Regular-2-clause-opens : goal.returns-in-Ok-Regular-2-clause-opens
returns-in-Ok-Regular-2-clause-opens g c =
    output_opened _ _ _ c.in-Ok-Regular.field-0 _ _ (λ unforced other. search rules) (λ none. search rules)
    c.in-Ok-Regular.ensures.kind c.in-Ok-Regular.ensures.call.done

pub returns-in-Err-clause-opens : goal.returns-in-Err-clause-opens
returns-in-Err-clause-opens g c = output_failed _ _ _ _ _ c.in-Err.ensures.call.lost
